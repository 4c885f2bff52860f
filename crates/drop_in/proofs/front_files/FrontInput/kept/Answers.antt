use Rattle.bt_lines.proofs.Std.{refl}
use Rattle.drop_in.proofs.lemmas.KeptLemmas.{kept_all}
use Rattle.drop_in.proofs.front_files.FrontInput.kept.Goals as goal

pub returns : goal.returns
returns g c = record {
  kept = c.new-source.result;
  is = refl;
  left = kept_all c.new-source.result c.new-cursor.result c.args.text c.new-source.ensures.reader c.new-cursor.ensures.position c.new-cursor.ensures.inner;
  served = c.new-source.ensures.served;
  going = c.new-source.ensures.end;
}
