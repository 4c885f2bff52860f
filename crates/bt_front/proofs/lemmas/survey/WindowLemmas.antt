-- Lemmas on a window of a block, of which as many lines as end in it are passed.
use Rattle.bt_lines.proofs.Std.{arith, ◌≡◌, ℕ, ◌+◌, ◌-◌, ◌<◌, ◌≤◌, ◌==◌, ◌++◌, ◌∙◌, Bool, true, false, List, [], ◌∷◌, ap, append_assoc, count_by-le-length, drop, drop-drop, length-drop, eqb-true, false_from_ne_true, get_or, if◌then◌else◌, length, length-append, length-take-le, refl, suc, sym, subst, take, take-add, take-append-drop, take-length, take-take, take_more, zero, bit_and, map, mask_l, drop-length}
use Rattle.std.specs.Prelude.{count_ones}
use Rattle.std.proofs.lemmas.Simd.{ones-mask_l}
use Rattle.bt_front.specs.calls.Bytes.{feeds_in, last_after}
use Rattle.bt_front.specs.declared.survey.byte_watch.ByteWatch.{ByteWatch}
use Rattle.bt_front.specs.inside.Watching.{AreQuiet, IsPassed, fed}
use Rattle.bt_front.specs.model.Odd.{has_special, is_feed, is_mark}
use Rattle.bt_front.proofs.lemmas.survey.LineLemmas.{feeds_more}
use Rattle.bt_front.proofs.lemmas.survey.RunLemmas.{HasNoFeed, around, fed_quiet, line_quiet, longer, passed_fed, passed_line, passed_more}
use Rattle.bt_front.proofs.lemmas.survey.SpecialLemmas.{special_chunk}

-- A window with a line feed.

window_split : (window rest : List ℕ) (at : ℕ) → at < length window → get_or window at 0 ≡ 10 → window ++ rest ≡ take at window ++ 10 ∷ (drop (suc at) window ++ rest)
window_split window rest at within feed =
    ap (λ (l : List ℕ). l ++ rest) (around window at within ∙ ap (λ (b : ℕ). take at window ++ b ∷ drop (suc at) window) feed)
    ∙ append_assoc (take at window) (10 ∷ drop (suc at) window) rest

window_front : (window : List ℕ) (at : ℕ) → at < length window → get_or window at 0 ≡ 10 → take (at + 1) window ≡ take at window ++ 10 ∷ []
window_front window at within feed = take_more window at 0 within ∙ ap (λ (b : ℕ). take at window ++ b ∷ []) feed

window_room : (window : List ℕ) (at line : ℕ) → at < length window → line + length window ≤ 1016 → line + length (take at window) ≤ 1015
window_room window at line within room = let e = length-take-le at window (omega arith) in omega (arith, e)

pub feed_passed : (window rest : List ℕ) (w : ByteWatch) (at : ℕ) → at < length window → get_or window at 0 ≡ 10 → w.line + length window ≤ 1016 → AreQuiet w (window ++ rest) → IsPassed w (take (at + 1) window) fed
feed_passed window rest w at within feed room q =
    rw (window_front window at within feed)
    (passed_fed (take at window) (drop (suc at) window ++ rest) w (subst (λ (l : List ℕ). AreQuiet w l) (window_split window rest at within feed) q) (window_room window at w.line within room))

pub feed_quiet : (window rest : List ℕ) (w : ByteWatch) (at : ℕ) → at < length window → get_or window at 0 ≡ 10 → w.line + length window ≤ 1016 → AreQuiet w (window ++ rest) → AreQuiet fed (drop (at + 1) window ++ rest)
feed_quiet window rest w at within feed room q =
    let f : at + 1 ≡ suc at = omega arith in
    rw f (fed_quiet (take at window) (drop (suc at) window ++ rest) w (subst (λ (l : List ℕ). AreQuiet w l) (window_split window rest at within feed) q) (window_room window at w.line within room))

-- A window without one.

pub no_feed : (bs : List ℕ) → ((k : ℕ) → 0 ≤ k → k < length bs → (get_or bs k 0 == 10) ≡ true → ⊥) → HasNoFeed bs
no_feed [] h = tt
no_feed (b ∷ bs) h = (false_from_ne_true (b == 10) (h 0 (omega arith) (omega arith)), no_feed bs (λ k low high. h (suc k) (omega arith) (omega (arith, high))))

last_at : (x : ℕ) (s : List ℕ) → last_after x s ≡ get_or (x ∷ s) (length s) 0
last_at x [] = refl
last_at x (y ∷ s) = last_at y s

-- the watch after a window of a line
abbrev pub windowed : ByteWatch → List ℕ → ByteWatch
windowed w window = record {
  last = get_or window (length window - 1) 0;
  line = w.line + length window;
  vcf = 0;
  is_first = w.is_first;
  first = if w.line == 0 then get_or window 0 0 else w.first;
}

windowed_is : (w : ByteWatch) (x : ℕ) (s : List ℕ) → longer w x s ≡ windowed w (x ∷ s)
windowed_is w x s =
    let f : suc (length s) - 1 ≡ length s = omega arith in
    rw (f, last_at x s) refl

pub line_passed : (window rest : List ℕ) (w : ByteWatch) → 0 < length window → HasNoFeed window → w.line + length window ≤ 1016 → AreQuiet w (window ++ rest) → IsPassed w (take (length window) window) (windowed w window)
line_passed [] rest w some none room q = absurd (omega arith)
line_passed (x ∷ s) rest w some none room q =
    rw (take-length (x ∷ s)) (subst (λ (v : ByteWatch). IsPassed w (x ∷ s) v) (windowed_is w x s) (passed_line s rest w x q none room))

pub line_goes_on : (window rest : List ℕ) (w : ByteWatch) → 0 < length window → HasNoFeed window → AreQuiet w (window ++ rest) → (windowed w window).line ≤ 1015 → AreQuiet (windowed w window) (drop (length window) window ++ rest)
line_goes_on [] rest w some none q short = absurd (omega arith)
line_goes_on (x ∷ s) rest w some none q short =
    rw (drop-length (x ∷ s)) (subst (λ (v : ByteWatch). AreQuiet v rest) (windowed_is w x s) (line_quiet s rest w x q none short))

-- The next window of a block.

drop_within : (r n : ℕ) (xs : List ℕ) → r ≤ n → drop r (take n xs) ++ drop n xs ≡ drop r xs
drop_within zero n xs le = take-append-drop n xs
drop_within (suc r) zero xs le = absurd (omega arith)
drop_within (suc r) (suc n) [] le = refl
drop_within (suc r) (suc n) (x ∷ xs) le = drop_within r n xs (omega arith)

pub next_passed : (w v u : ByteWatch) (block : List ℕ) (at n r : ℕ) → r ≤ n → IsPassed w (take at block) v → v.line ≤ 1015 → IsPassed v (take r (take n (drop at block))) u → IsPassed w (take (at + r) block) u
next_passed w v u block at n r le one short two =
    rw (take-add at r block) (passed_more w v u (take at block) (take r (drop at block)) one short (subst (λ (l : List ℕ). IsPassed v l u) (take-take r n (drop at block) le) two))

pub next_quiet : (u : ByteWatch) (block : List ℕ) (at n r : ℕ) → r ≤ n → AreQuiet u (drop r (take n (drop at block)) ++ drop n (drop at block)) → AreQuiet u (drop (at + r) block)
next_quiet u block at n r le q =
    subst (λ (l : List ℕ). AreQuiet u l) (drop_within r n (drop at block) le ∙ drop-drop r at block) q

pub window_quiet : (v : ByteWatch) (block : List ℕ) (at n : ℕ) → AreQuiet v (drop at block) → AreQuiet v (take n (drop at block) ++ drop n (drop at block))
window_quiet v block at n q = subst (λ (l : List ℕ). AreQuiet v l) (sym (take-append-drop n (drop at block))) q

-- The next bytes of a block that have nothing special.
pub special_block : (block : List ℕ) (at n : ℕ) → n < length (drop at block) → mask_l (map is_mark (take n (drop at block))) ≡ 0
    → bit_and (mask_l (map is_feed (take n (drop at block)))) (mask_l (map is_feed (take n (drop (at + 1) block)))) ≡ 0
    → has_special (drop (at + n) block) ≡ false → has_special (drop at block) ≡ false
special_block block at n room marks feeds rest =
    special_chunk n (drop at block) room marks
    (ap (λ (l : List ℕ). bit_and (mask_l (map is_feed (take n (drop at block)))) (mask_l (map is_feed (take n l)))) (drop-drop 1 at block) ∙ feeds)
    (ap has_special (drop-drop n at block) ∙ rest)

-- the line feeds of a block, and of what comes after
pub feeds_block : (bytes : List ℕ) (at n : ℕ) → feeds_in (take (at + n) bytes) ≡ feeds_in (take at bytes) + count_ones (mask_l (map is_feed (take n (drop at bytes))))
feeds_block bytes at n =
    ap feeds_in (take-add at n bytes) ∙ feeds_more (take at bytes) (take n (drop at bytes))
    ∙ ap (λ (m : ℕ). feeds_in (take at bytes) + m) (sym (ones-mask_l is_feed (take n (drop at bytes))))

pub feeds_rest : (bytes : List ℕ) (at : ℕ) → feeds_in bytes ≡ feeds_in (take at bytes) + feeds_in (take (length bytes - at) (drop at bytes))
feeds_rest bytes at =
    let whole : take (length bytes - at) (drop at bytes) ≡ drop at bytes = ap (λ (n : ℕ). take n (drop at bytes)) (sym (length-drop at bytes)) ∙ take-length (drop at bytes) in
    ap feeds_in (sym (take-append-drop at bytes)) ∙ feeds_more (take at bytes) (drop at bytes)
    ∙ ap (λ (l : List ℕ). feeds_in (take at bytes) + feeds_in l) (sym whole)

-- there are no more of them than bytes
pub feeds_within : (bytes : List ℕ) → feeds_in bytes ≤ length bytes
feeds_within bytes = count_by-le-length (λ (byte : ℕ). byte == 10) bytes
