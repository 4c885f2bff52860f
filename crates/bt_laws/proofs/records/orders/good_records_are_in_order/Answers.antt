use Rattle.bt_bed.proofs.lemmas.Definitions.{placed_good, non_empty_good, good_in_blocks}
use Rattle.bt_laws.proofs.lemmas.single.Records.{good_blocks_non_empty, good_blocks_on_lines, each_known}
use Rattle.bt_laws.proofs.records.orders.good_records_are_in_order.Goals as goal

pub returns-clause-placed : goal.returns-clause-placed
returns-clause-placed c = placed_good

pub returns-clause-non_empty : goal.returns-clause-non_empty
returns-clause-non_empty c = non_empty_good

pub returns-clause-in_blocks : goal.returns-clause-in_blocks
returns-clause-in_blocks c = good_in_blocks

pub returns-clause-non_empty_in_blocks : goal.returns-clause-non_empty_in_blocks
returns-clause-non_empty_in_blocks c = good_blocks_non_empty

pub returns-clause-lines_of_blocks : goal.returns-clause-lines_of_blocks
returns-clause-lines_of_blocks c = good_blocks_on_lines

pub returns-clause-known_in_blocks : goal.returns-clause-known_in_blocks
returns-clause-known_in_blocks c = each_known
