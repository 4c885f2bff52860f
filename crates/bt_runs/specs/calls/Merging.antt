-- What a merge holds after the records of the past: with one set of records one open run, and with
-- each strand separately the runs that wait.
use Rattle.std.specs.Prelude.{ℕ, List, [], None}
use Rattle.bt_bed.specs.model.Feature.{Feature, Interval}
use Rattle.bt_runs.specs.calls.Engine.{EngineDef, ruled}
use Rattle.bt_runs.specs.model.Merged.{places_of}
use Rattle.bt_runs.specs.calls.MergedRuns.{AreMergeable}
use Rattle.bt_runs.specs.inside.merge.StrandStep.{stranding}
use Rattle.bt_runs.specs.calls.Unstranded.{unstranded}
use Rattle.bt_runs.specs.declared.merge.merge_strand.MergeStrand.{MergeStrand}
use Rattle.bt_runs.specs.declared.merge.merge_strand.MergeStrand.TheVariants.{Each}
use Rattle.bt_runs.specs.declared.merge.Kind.{Kind}
use Rattle.bt_runs.specs.declared.merge.Kind.TheVariants.{PerStrand, Unstranded}

-- one that has taken no record
abbrev pub merge_begun : ℕ → MergeStrand → Kind
merge_begun gap Each =
    PerStrand (record { rule = record { gap = gap; chrom = []; kept = [] }; failure = None })
merge_begun gap strand =
    Unstranded (record { rule = record { gap = gap; strand = strand; chrom = []; kept = [] }; failure = None })

-- the runs that are kept
abbrev pub kept_places : Kind → List Interval
kept_places (Unstranded merge) = merge.rule.kept
kept_places (PerStrand merge) = places_of merge.rule.kept

-- what the merge has become after the records
abbrev pub IsAfter : Kind → List Feature → Kind → Type 0
IsAfter (Unstranded first) past (Unstranded now) = (ruled unstranded).is_after first past now
IsAfter (PerStrand first) past (PerStrand now) = (ruled stranding).is_after first past now
IsAfter (Unstranded first) past (PerStrand now) = ⊥
IsAfter (PerStrand first) past (Unstranded now) = ⊥

-- a member of the engine inside, of whichever kind that is
abbrev pub of_kind {ℓ} : {A : Type ℓ} → ((E : Type 0) → EngineDef E → E → A) → Kind → A
of_kind said (Unstranded merge) = said _ (ruled unstranded) merge
of_kind said (PerStrand merge) = said _ (ruled stranding) merge

-- a merge
abbrev pub merge_engine : EngineDef Kind
merge_engine = record {
  takes = λ first past. AreMergeable past;
  settled = of_kind (λ E engine. engine.settled);
  output = of_kind (λ E engine. engine.output);
  held = of_kind (λ E engine. engine.held);
  is_after = IsAfter;
  fault = of_kind (λ E engine. engine.fault);
  quiet = of_kind (λ E engine. engine.quiet);
  wants = of_kind (λ E engine. engine.wants);
}
