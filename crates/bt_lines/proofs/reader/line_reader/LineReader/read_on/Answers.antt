use Rattle.bt_lines.proofs.Std.{refl}
use Rattle.bt_lines.proofs.lemmas.reader.block.FillLemmas.{fails_again, fills_after_last, fills_again}
use Rattle.bt_lines.proofs.reader.line_reader.LineReader.read_on.Goals as goal

pub returns-in-LastLine-clause-fills : goal.returns-in-LastLine-clause-fills
returns-in-LastLine-clause-fills g c = fills_after_last _ c.args.self.now _ c.requires c.in-LastLine.is refl refl refl refl refl refl

pub returns-in-Ended-clause-fills : goal.returns-in-Ended-clause-fills
returns-in-Ended-clause-fills g c = fills_again _ c.args.self.now c.requires c.in-Ended.is

pub returns-in-ReadFailed-clause-fills : goal.returns-in-ReadFailed-clause-fills
returns-in-ReadFailed-clause-fills g c = fails_again g.S.Source c.args.self.now c.fault.result c.fault.ensures
