use Rattle.std.specs.List.{All, list_any}
use Rattle.bt_lines.proofs.Std.{◌≡◌, ◌||◌, List, map, max}
use Rattle.bt_bed.specs.model.Feature.{Feature, intervals_of, is_same_strand, length_of}
use Rattle.bt_bed.specs.declared.record.strand.Strand.TheVariants.{Dot}
use Rattle.bt_bed.specs.calls.Batch.{Passes, batch_room, chrom_in}
use Rattle.bt_front.specs.inside.Seeing.{last_end}
use Rattle.bt_front.specs.model.Survey.{largest}
use Rattle.bt_front.proofs.lemmas.survey.SeenLemmas.{Looked}
use Rattle.bt_front.proofs.survey.records_seen.RecordsSeen.look.Given as goal

-- the records so far were looked at
abbrev pub invariant-loop-record : goal.invariant-loop-record
invariant-loop-record l = Looked l.fn.self l.fn.records l.ahead l.longest l.lacks_strand l.end

abbrev pub decreases-loop-record : goal.decreases-loop-record
decreases-loop-record l = batch_room l.ahead
