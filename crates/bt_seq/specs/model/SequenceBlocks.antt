-- Which records mask which sequence.
use Rattle.std.specs.Prelude.{ℕ, Bool, true, false, List, [], ◌∷◌, Option, Some, None, bytes_eq, flat_map, nat_le, option_and_then, if◌then◌else◌}
use Rattle.std.specs.List.{list_any}
use Rattle.bt_bed.specs.model.Feature.{Feature}

-- Which records mask which sequence. A block is a maximal run of records of one chromosome. It
-- belongs to the first sequence of its name after that of the block before it. It belongs to none
-- if there is no such sequence, or if the block before it belongs to none. The laws on blocks and
-- their sequences are in `sequences` of bt_laws.

-- a block of things that lie on chromosomes, as records with or without their lines
pub record Block (A : Type 0) : Type 0 where
  pub chrom : List ℕ
  pub items : List A

-- the blocks with one more record before them: it goes on with the first block, or is a block of its own
abbrev pub block_with : {A : Type 0} → List ℕ → A → List (Block A) → List (Block A)
block_with chrom x [] = record { chrom = chrom; items = x ∷ [] } ∷ []
block_with chrom x (b ∷ bs) =
    if bytes_eq chrom b.chrom then record { chrom = b.chrom; items = x ∷ b.items } ∷ bs
    else record { chrom = chrom; items = x ∷ [] } ∷ b ∷ bs

-- the maximal runs of one chromosome
abbrev pub blocks_by : {A : Type 0} → (A → List ℕ) → List A → List (Block A)
blocks_by chrom [] = []
blocks_by chrom (x ∷ xs) = block_with (chrom x) x (blocks_by chrom xs)

-- the names after the first of this name, if it is among them
abbrev pub names_behind : List ℕ → List (List ℕ) → Option (List (List ℕ))
names_behind name [] = None
names_behind name (n ∷ ns) = if bytes_eq n name then Some ns else names_behind name ns

-- the names after the sequence to which a block belongs, if these names were left by the
-- block before it; none if it belongs to no sequence
abbrev pub left_by : Option (List (List ℕ)) → List ℕ → Option (List (List ℕ))
left_by left name = option_and_then (names_behind name) left

-- a block, and the names after the sequence to which it belongs
pub record Owned (A : Type 0) : Type 0 where
  pub block : Block A
  pub left : Option (List (List ℕ))

abbrev pub owned_from : {A : Type 0} → Option (List (List ℕ)) → List (Block A) → List (Owned A)
owned_from left [] = []
owned_from left (b ∷ bs) =
    record { block = b; left = left_by left b.chrom } ∷ owned_from (left_by left b.chrom) bs

-- the blocks of records, each with its sequence among those of these names
abbrev pub owned : List (List ℕ) → List Feature → List (Owned Feature)
owned names records = owned_from (Some names) (blocks_by (λ r. r.chrom) records)

-- the things of a block after which these names are left,
-- if it belongs to the last of all names
abbrev pub items_if_last : {A : Type 0} → Option (List (List ℕ)) → List A → List A
items_if_last None xs = []
items_if_last (Some []) xs = xs
items_if_last (Some (name ∷ names)) xs = []

-- the records of the block that belongs to the last sequence of these names
abbrev pub own_records : List (List ℕ) → List Feature → List Feature
own_records names records = flat_map (λ o. items_if_last o.left o.block.items) (owned names records)

-- Whether a block after which these names are left decides a line of the last sequence, up to
-- whose end there are this many bases. It does if a record of it starts there or later, or if it belongs to
-- no sequence up to that one.
abbrev pub block_decides : ℕ → Option (List (List ℕ)) → List Feature → Bool
block_decides bases None records = true
block_decides bases (Some []) records = list_any (λ r. nat_le bases r.start) records
block_decides bases (Some (name ∷ names)) records = false
