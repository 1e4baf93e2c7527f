-- What an ending comes to, read back.
use Rattle.std.proofs.Common.{◌≡◌, ap, refl, Result, Ok, Err}
use Rattle.std.specs.Prelude.{IsErrOf}
use Rattle.annotation_http.specs.declared.connection.ending.Ending.{Ending}
use Rattle.annotation_http.specs.declared.connection.ending.Ending.TheVariants as ending
use Rattle.program_inputs.specs.declared.trouble.Trouble.{Trouble}
use Rattle.program_inputs.specs.declared.trouble.Trouble.TheVariants.{ReadFault, WriteFault}
use Rattle.project_commands.specs.Commands.Serving.{ending_of}

ok_err : {X : Type 0} (value : X) (named : Trouble) → ◌≡◌ {A = Result X Trouble} (Ok value) (Err named) → ⊥
ok_err {X} value named same = cc

pub read_back : (end : Ending) → IsErrOf (ending_of end) ReadFault → end ≡ ending.ReadFault
read_back ending.End is = absurd (ok_err tt _ is)
read_back ending.Closed is = absurd (ok_err tt _ is)
read_back ending.Cut is = cc
read_back ending.BadHead is = cc
read_back ending.NeedsLength is = cc
read_back ending.TooLarge is = cc
read_back ending.Encoded is = cc
read_back ending.Spent is = cc
read_back ending.ReadFault is = refl
read_back ending.WriteFault is = cc
read_back ending.Memory is = cc

pub read_on : (end : Ending) → end ≡ ending.ReadFault → IsErrOf (ending_of end) ReadFault
read_on end is = ap ending_of is

pub write_back : (end : Ending) → IsErrOf (ending_of end) WriteFault → end ≡ ending.WriteFault
write_back ending.End is = absurd (ok_err tt _ is)
write_back ending.Closed is = absurd (ok_err tt _ is)
write_back ending.Cut is = cc
write_back ending.BadHead is = cc
write_back ending.NeedsLength is = cc
write_back ending.TooLarge is = cc
write_back ending.Encoded is = cc
write_back ending.Spent is = cc
write_back ending.ReadFault is = cc
write_back ending.WriteFault is = refl
write_back ending.Memory is = cc

pub write_on : (end : Ending) → end ≡ ending.WriteFault → IsErrOf (ending_of end) WriteFault
write_on end is = ap ending_of is
