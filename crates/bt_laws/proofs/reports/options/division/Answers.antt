use Rattle.bt_tool.proofs.lemmas.Options.{options-tellable}
use Rattle.bt_laws.proofs.lemmas.single.Reports.{answer-unique, division-unique, fault-of_left, last_item-counts}
use Rattle.bt_laws.proofs.reports.options.division.Goals as goal

pub returns-clause-unique : goal.returns-clause-unique
returns-clause-unique c = division-unique

pub returns-clause-answer : goal.returns-clause-answer
returns-clause-answer c = answer-unique

pub returns-clause-left : goal.returns-clause-left
returns-clause-left c = fault-of_left

pub returns-clause-last : goal.returns-clause-last
returns-clause-last c = last_item-counts

pub returns-clause-told : goal.returns-clause-told
returns-clause-told c = options-tellable
