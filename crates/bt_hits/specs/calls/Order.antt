-- A law of the order of hits.
use Rattle.std.specs.Prelude.{List, IsPermutation}
use Rattle.bt_bed.specs.model.Feature.{Feature}
use Rattle.bt_hits.specs.model.Bins.{in_bin_order}

-- it has each hit as often as it comes, and no others
abbrev pub bin_order_has_all : Type 0
bin_order_has_all = (found : List Feature) → IsPermutation found (in_bin_order found)
