-- Laws of cursors: what was given after other records was given with them, and one record comes next. They are
-- proved here since cursors cite them as their own.
use Rattle.std.proofs.Common.{◌≡◌, ◌∙◌, ◌++◌, ◌∷◌, ℕ, List, [], ap, length, refl, subst, sym, append_assoc, length-append}
use Rattle.bt_lines.proofs.lemmas.reader.lines.BufferedLemmas.{passes_more, passes_none}
use Rattle.bt_lines.specs.calls.Reader.{PassesLines}
use Rattle.bt_bed.specs.calls.Batch.{Passes, cursor_in, left, start_in}
use Rattle.bt_bed.specs.model.Feature.{Feature}
use Rattle.bt_bed.specs.calls.Bed.{last_start, GivesSingle, single_left}
use Rattle.bt_bed.specs.declared.read.batch.Batch.{Batch}
use Rattle.bt_bed.specs.declared.read.cursor.Single.{Single}

pub single_gives_none : (one : Single) → GivesSingle one [] one
single_gives_none one = record { left = refl; name = refl; line = refl }

pub single_gives_more : (old mid new : Single) (xs ys : List Feature) → GivesSingle old xs mid
    → GivesSingle mid ys new → GivesSingle old (xs ++ ys) new
single_gives_more old mid new xs ys first more = record {
  left = first.left ∙ ap (λ l. xs ++ l) more.left ∙ sym (append_assoc xs ys (single_left new));
  name = more.name ∙ first.name;
  line = more.line ∙ first.line;
}

same_head : (x y : Feature) (xs ys : List Feature) → x ∷ xs ≡ y ∷ ys → x ≡ y
same_head x y xs ys e = cc

pub single_gives_same : (old mid new : Single) (x y : Feature) (ys : List Feature) → GivesSingle old (x ∷ []) mid
    → GivesSingle old (y ∷ ys) new → x ≡ y
single_gives_same old mid new x y ys first again =
    same_head x y (single_left mid) (ys ++ single_left new) (sym first.left ∙ again.left)

-- the start of the last of records after others
last_start_more : (start : ℕ) (xs ys : List Feature) → last_start start (xs ++ ys) ≡ last_start (last_start start xs) ys
last_start_more start [] ys = refl
last_start_more start (x ∷ xs) ys = last_start_more x.start xs ys

pub batch_gives_none : (batch : Batch) → Passes batch [] batch
batch_gives_none batch = record { left_is = refl; lines = passes_none (cursor_in batch); start = refl; chrom = refl }

-- records were given, and then others
pub batch_gives_more : (old mid new : Batch) (xs ys : List Feature) → Passes old xs mid → Passes mid ys new
    → Passes old (xs ++ ys) new
batch_gives_more old mid new xs ys first more = record {
  left_is = first.left_is ∙ ap (λ l. xs ++ l) more.left_is ∙ sym (append_assoc xs ys (left new));
  lines = subst (λ n. PassesLines (cursor_in old) n (cursor_in new)) (sym (length-append xs ys))
      (passes_more (cursor_in old) (cursor_in mid) (cursor_in new) (length xs) (length ys) first.lines more.lines);
  start = more.start ∙ ap (λ s. last_start s ys) first.start ∙ sym (last_start_more (start_in old) xs ys);
  chrom = more.chrom ∙ first.chrom;
}

pub batch_gives_same : (old mid new : Batch) (x y : Feature) (ys : List Feature) → Passes old (x ∷ []) mid
    → Passes old (y ∷ ys) new → x ≡ y
batch_gives_same old mid new x y ys first again =
    same_head x y (left mid) (ys ++ left new) (sym first.left_is ∙ again.left_is)
