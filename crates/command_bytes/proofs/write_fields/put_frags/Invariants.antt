use Rattle.std.proofs.Common.{◌≡◌, ◌++◌, ℕ, ◌<◌, length, take, get_or}
use Rattle.std.specs.List.{flat_map}
use Rattle.mark_base.specs.declared.fragments.Frag.{Frag}
use Rattle.entry_bytes.specs.Fields.{u32_bytes}
use Rattle.command_bytes.specs.CommandBytes.{frag_bytes}
use Rattle.command_bytes.specs.CommandValues.{IsFrag}
use Rattle.command_bytes.proofs.write_fields.put_frags.Given as goal

abbrev pub invariant-loop-frag : goal.invariant-loop-frag
invariant-loop-frag l = record {
  bytes : l.out.items ≡ l.fn.out.items ++ (u32_bytes (length l.items) ++ flat_map frag_bytes (take l.frag-index l.items));
  are : (k : ℕ) (d : Frag) → k < l.frag-index → IsFrag (get_or l.items k d);
}
