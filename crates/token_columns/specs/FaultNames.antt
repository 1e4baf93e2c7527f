-- How the faults of columns are named.
use Rattle.std.specs.Prelude.{ℕ, List, codes}
use Rattle.token_columns.specs.declared.column_fault.ColumnOut.{ColumnOut}
use Rattle.token_columns.specs.declared.column_fault.ColumnOut.TheVariants as out
use Rattle.token_columns.specs.declared.column_fault.ColumnWhat.{ColumnWhat}
use Rattle.token_columns.specs.declared.column_fault.ColumnWhat.TheVariants as what

-- the name of a fault of a layer
abbrev pub out_name : ColumnOut → List ℕ
out_name (out.OtherThere id) = codes "OtherThere"
out_name out.ClassThere = codes "ClassThere"
out_name (out.Fragmented id) = codes "Fragmented"
out_name (out.Unaligned id) = codes "Unaligned"
out_name (out.Shared id) = codes "Shared"
out_name (out.Numbered id) = codes "Numbered"
out_name out.WriteFault = codes "WriteFault"
out_name out.Memory = codes "Memory"

-- the name of a fault of a line
abbrev pub what_name : ColumnWhat → List ℕ
what_name what.NotUtf8 = codes "NotUtf8"
what_name what.BadLine = codes "BadLine"
what_name what.TooMany = codes "TooMany"
what_name (what.WrongToken place) = codes "WrongToken"
what_name what.UnknownType = codes "UnknownType"
what_name what.NotForUse = codes "NotForUse"
what_name what.Orphan = codes "Orphan"
what_name what.TooLong = codes "TooLong"
what_name what.Full = codes "Full"
what_name what.TooFew = codes "TooFew"
