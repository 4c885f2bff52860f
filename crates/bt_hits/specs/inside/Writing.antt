-- Which hits are written together.
use Rattle.std.specs.Prelude.{ℕ, Bool, ◌&&◌, List, filter, flat_map}
use Rattle.bt_bed.specs.model.Feature.{Feature}
use Rattle.bt_sweep.specs.declared.hits.hit_rule.HitRule.{HitRule}
use Rattle.bt_sweep.specs.model.Hits.{is_hit}
use Rattle.bt_hits.specs.model.Bins.{all_levels, is_on}

-- whether b hits a and is on a level
abbrev pub is_hit_on : HitRule → ℕ → Feature → Feature → Bool
is_hit_on rule level a b = is_hit rule a b && is_on level b

-- what hits a, level by level
abbrev pub hits_by_level : HitRule → Feature → List ℕ → List Feature → List Feature
hits_by_level rule a levels held = flat_map (λ level. filter (is_hit_on rule level a) held) levels
