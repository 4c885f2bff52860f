-- Orders that fit the chromosomes of surveys.
use Rattle.std.specs.Prelude.{◌≡◌, true, ◌||◌, List, [], Option, Some, None, ℕ}
use Rattle.bt_bed.specs.model.Order.{is_among, rank_order}
use Rattle.bt_bed.specs.calls.Orders.{AreDistinct}
use Rattle.bt_front.specs.declared.survey.chromosomes.Chromosomes.{Chromosomes}
use Rattle.bt_front.specs.model.Extents.{names_in}
use Rattle.bt_front.specs.model.Fitting.{are_in_order, common_names}

-- the names of an input's chromosomes; an input that isn't given has none
abbrev pub names_among : Option Chromosomes → List (List ℕ)
names_among None = []
names_among (Some chromosomes) = names_in chromosomes

-- a list is an order of the chromosomes of two inputs: each comes once, those of each input in their order, and no others
pub record IsCommonOrder (first second names : List (List ℕ)) : Type 0 where
  pub distinct : AreDistinct names
  pub fits_first : are_in_order (rank_order names) first ≡ true
  pub fits_second : are_in_order (rank_order names) second ≡ true
  pub no_others : (name : List ℕ) → is_among names name ≡ is_among first name || is_among second name

-- the order that is found fits both
abbrev pub found_order_fits : Type 0
found_order_fits = (first second names : List (List ℕ)) → AreDistinct first → AreDistinct second
    → common_names first second ≡ Some names → IsCommonOrder first second names

-- an order is found if there is one
abbrev pub order_is_found : Type 0
order_is_found = (first second names : List (List ℕ)) → common_names first second ≡ None
    → are_in_order (rank_order names) first ≡ true → are_in_order (rank_order names) second ≡ true → ⊥
