use Rattle.std.specs.Prelude.{option_map}
use Rattle.std.proofs.Common.{inl, inr}
use Rattle.bt_lines.proofs.Std.{refl}
use Rattle.bt_lines.specs.calls.Names.{fault_value}
use Rattle.bt_files.proofs.carrying_out.carry_out.Goals as goal

pub returns-in-Ok : goal.returns-in-Ok
returns-in-Ok g c = inr (record {
  fault = option_map fault_value c.run_over-ended.result.outcome.fault;
  genome = c.in-Ok.opened.genome;
  first = c.in-Ok.opened.first;
  second = c.in-Ok.opened.second;
  out = c.in-Ok.opened.output;
  genome_after = c.run_over-ended.result.genome;
  first_after = c.run_over-ended.result.first;
  second_after = c.run_over-ended.result.second;
  out_after = c.run_over-ended.result.out;
  opened = c.in-Ok.ensures.opened;
  ran = c.run_over-ended.ensures;
  left_so = refl;
  reports = c.end_of.ensures;
})

pub returns-in-Err : goal.returns-in-Err
returns-in-Err g c = inl (c.in-Err.ensures.unopened, refl)
