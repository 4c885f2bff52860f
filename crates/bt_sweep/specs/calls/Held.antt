-- Held records.
use Rattle.std.specs.Prelude.{◌≡◌, ℕ, ◌<◌, ◌≤◌, ⊤, List, [], ◌∷◌, All, Option}
use Rattle.std.specs.Option.{ForSome}
use Rattle.bt_bed.specs.model.Feature.{Feature}

-- the records lie on the chromosome of this name
abbrev pub AreOn : List ℕ → List Feature → Type 0
AreOn name held = All (λ b. b.chrom ≡ name) held

-- the record b lies on the chromosome, ends after this start and has a base
abbrev pub CanHitAt : List ℕ → ℕ → Feature → Type 0
CanHitAt name start b = (b.chrom ≡ name) × (start < b.stop) × (b.start < b.stop)

-- the record b can hit a, or one that follows it
abbrev pub CanHit : Feature → Feature → Type 0
CanHit a b = CanHitAt a.chrom a.start b

-- the records have a base, and lie on one chromosome
abbrev pub AreOnOne : List Feature → Type 0
AreOnOne held = All (λ b. (b.start < b.stop) × All (λ r. r.chrom ≡ b.chrom) held) held

-- the same, and they can hit the one that waits, if one does
pub record AreReady (current : Option Feature) (held : List Feature) : Type 0 where
  pub on_one : AreOnOne held
  pub hits : ForSome current (λ a. All (CanHit a) held)

-- each starts at this position or after it, and at the start of the one before it or after that
abbrev pub AreRisingFrom : ℕ → List Feature → Type 0
AreRisingFrom low [] = ⊤
AreRisingFrom low (b ∷ bs) = (low ≤ b.start) × AreRisingFrom b.start bs

-- their starts don't fall
abbrev pub AreRising : List Feature → Type 0
AreRising held = AreRisingFrom 0 held

-- each starts at this position or after it
abbrev pub StartFrom : ℕ → List Feature → Type 0
StartFrom place held = All (λ b. place ≤ b.start) held

-- each starts before this position
abbrev pub StartBefore : ℕ → List Feature → Type 0
StartBefore place held = All (λ b. b.start < place) held

-- each has a base
abbrev pub HaveBases : List Feature → Type 0
HaveBases held = All (λ b. b.start < b.stop) held
