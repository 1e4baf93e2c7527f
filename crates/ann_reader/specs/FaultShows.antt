-- What the values of a reader show of faults (private calls only).
use Rattle.ann_reader.specs.declared.reader.Fault.{Fault as FaultValue}
use Rattle.ann_reader.specs.LineFaults.{Fault}

-- a fault
abbrev pub seen_fault : FaultValue → Fault
seen_fault fault = record { line = fault.line; what = fault.what }
