-- A fault and the names of a run's inputs, as definitions see them.
use Rattle.bt_lines.specs.model.Fault.{InputNames, FaultValue}
use Rattle.bt_lines.specs.declared.fault.Fault.{Fault}
use Rattle.bt_lines.specs.declared.fault.report.Names.{Names}

abbrev pub names_seen : Names → InputNames
names_seen names =
    record { genome = names.genome.now; first = names.first.now; second = names.second.now }

abbrev pub fault_value : Fault → FaultValue
fault_value fault = record { kind = fault.kind; place = fault.place }
