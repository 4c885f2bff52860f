-- Which faults lie at a line, and those that lie at none.
use Rattle.std.specs.Prelude.{Bool, true, false, None}
use Rattle.bt_lines.specs.declared.fault.Kind.{Kind}
use Rattle.bt_lines.specs.declared.fault.Kind.TheVariants.{WriteFailed, NoMemory}
use Rattle.bt_lines.specs.model.Fault.{FaultValue}

-- a fault of this kind lies at a line of an input; a failed write and running out of memory don't
abbrev pub has_place : Kind → Bool
has_place WriteFailed = false
has_place NoMemory = false
has_place _ = true

-- the fault of a failed write
abbrev pub write_failed : FaultValue
write_failed = record { kind = WriteFailed; place = None }

-- the fault of a refused growth
abbrev pub no_memory : FaultValue
no_memory = record { kind = NoMemory; place = None }
