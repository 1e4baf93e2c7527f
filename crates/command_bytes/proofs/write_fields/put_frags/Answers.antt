use Rattle.std.proofs.Common.{List, subst, arith}
use Rattle.std.specs.List.{AllByRecursion}
use Rattle.std.proofs.lemmas.List.Elements.{recursion_from_All}
use Rattle.mark_base.specs.declared.fragments.Frag.{Frag}
use Rattle.command_bytes.specs.CommandValues.{IsFrag}
use Rattle.command_bytes.proofs.write_fields.put_frags.Goals as goal

pub returns-clause-are : goal.returns-clause-are
returns-clause-are c =
    let each = recursion_from_All (λ (frag : Frag). IsFrag frag) c.items-items.result.now (λ k d lt. c.loop-frag.invariant.are k d (omega arith)) in
    subst (λ (frags : List Frag). AllByRecursion (λ (frag : Frag). IsFrag frag) frags) c.items-items.ensures each
