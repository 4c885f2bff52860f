use Rattle.bt_lines.proofs.Std.{refl, subst}
use Rattle.bt_front.specs.declared.words.Asked.{Asked}
use Rattle.drop_in.specs.calls.Answer.LeavesOpened.{by_file, by_genome, by_stream, by_verdict}
use Rattle.drop_in.specs.calls.Call.{IsLeftByVerdict, IsTaken}
use Rattle.drop_in.proofs.answering.look_at_opened.Goals as goal

pub returns-in-Err-clause-leaves : goal.returns-in-Err-clause-leaves
returns-in-Err-clause-leaves g c = by_genome refl refl c.in-Err.ensures.why

pub returns-in-Err-look_at_files-clause-leaves : goal.returns-in-Err-look_at_files-clause-leaves
returns-in-Err-look_at_files-clause-leaves g c =
    by_file c.in-Ok.genome refl refl c.in-Ok.ensures.reads c.in-Err-look_at_files.ensures.leaves

pub returns-in-Err-look_at_stream_of-clause-leaves : goal.returns-in-Err-look_at_stream_of-clause-leaves
returns-in-Err-look_at_stream_of-clause-leaves g c =
    by_stream c.in-Ok.genome c.in-Ok-look_at_files.looked c.in-Ok.ensures.reads c.in-Ok-look_at_files.ensures.sees
    c.in-Err-look_at_stream_of.ensures.leaves

pub returns-in-Ok-judge-clause-looks : goal.returns-in-Ok-judge-clause-looks
returns-in-Ok-judge-clause-looks g c = record {
  given = c.in-Ok.genome;
  looked = c.in-Ok-look_at_files.looked;
  first = c.in-Ok-look_at_stream_of.seen.0;
  second = c.in-Ok-look_at_stream_of.seen.1;
  genome_read = c.in-Ok.ensures.reads;
  files_seen = c.in-Ok-look_at_files.ensures.sees;
  seen = c.in-Ok-look_at_stream_of.ensures.sees;
  taken = subst (λ (asked : Asked). IsTaken asked c.in-Ok.genome c.in-Ok-look_at_stream_of.seen.0 c.in-Ok-look_at_stream_of.seen.1 c.in-Ok-judge.inputs)
      c.asked.ensures c.in-Ok-judge.ensures.takes;
}

pub returns-in-Err-judge-clause-leaves : goal.returns-in-Err-judge-clause-leaves
returns-in-Err-judge-clause-leaves g c =
    by_verdict c.in-Ok.genome c.in-Ok-look_at_files.looked c.in-Ok-look_at_stream_of.seen.0 c.in-Ok-look_at_stream_of.seen.1
    c.in-Ok.ensures.reads c.in-Ok-look_at_files.ensures.sees c.in-Ok-look_at_stream_of.ensures.sees
    (subst (λ (asked : Asked). IsLeftByVerdict asked c.in-Ok.genome c.in-Ok-look_at_stream_of.seen.0 c.in-Ok-look_at_stream_of.seen.1 c.in-Err-judge.left)
    c.asked.ensures c.in-Err-judge.ensures.leaves)
