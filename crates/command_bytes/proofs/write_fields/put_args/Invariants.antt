use Rattle.std.proofs.Common.{◌≡◌, ◌++◌, ℕ, ◌<◌, length, take, get_or}
use Rattle.std.specs.List.{flat_map}
use Rattle.mark_base.specs.declared.named_args.NamedArg.{NamedArg}
use Rattle.entry_bytes.specs.Fields.{u32_bytes}
use Rattle.command_bytes.specs.CommandBytes.{arg_bytes}
use Rattle.command_bytes.specs.CommandValues.{IsName}
use Rattle.command_bytes.proofs.write_fields.put_args.Given as goal

abbrev pub invariant-loop-arg : goal.invariant-loop-arg
invariant-loop-arg l = record {
  bytes : l.out.items ≡ l.fn.out.items ++ (u32_bytes (length l.items) ++ flat_map arg_bytes (take l.arg-index l.items));
  are : (k : ℕ) (d : NamedArg) → k < l.arg-index → IsName (get_or l.items k d).role;
}
