use Rattle.bt_files.proofs.lemmas.HandedLemmas.{real_run}
use Rattle.bt_files.proofs.headline.real_files_get_their_report.Goals as goal

pub returns : goal.returns
returns c = real_run
