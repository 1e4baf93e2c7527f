use Rattle.std.proofs.Common.{List, subst, arith}
use Rattle.std.specs.List.{AllByRecursion}
use Rattle.std.proofs.lemmas.List.Elements.{recursion_from_All}
use Rattle.mark_base.specs.declared.named_args.NamedArg.{NamedArg}
use Rattle.command_bytes.specs.CommandValues.{IsName}
use Rattle.command_bytes.proofs.write_fields.put_args.Goals as goal

pub returns-clause-are : goal.returns-clause-are
returns-clause-are c =
    let each = recursion_from_All (λ (arg : NamedArg). IsName arg.role) c.items-items.result.now (λ k d lt. c.loop-arg.invariant.are k d (omega arith)) in
    subst (λ (args : List NamedArg). AllByRecursion (λ (arg : NamedArg). IsName arg.role) args) c.items-items.ensures each
