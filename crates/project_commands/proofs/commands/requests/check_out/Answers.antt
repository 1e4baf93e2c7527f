use Rattle.std.proofs.Common.{subst}
use Rattle.project_machine.specs.Requests.{Checkout, HandedOut}
use Rattle.project_state.specs.Values.{out_of}
use Rattle.project_commands.specs.Commands.Requests.{Grants}
use Rattle.project_commands.proofs.commands.requests.check_out.Goals as goal

pub returns-clause-out : goal.returns-clause-out
returns-clause-out g c = record {
  out = out_of c.in_ok-out.out;
  granted = subst (λ name. Grants c.args.book.now.log c.args.who (Checkout name) (HandedOut (out_of c.in_ok-out.out)) c.take_out.new.book.log) c.in_ok-named.ensures c.in_ok-out.ensures.out;
  held_is = c.in_ok-held.ensures;
}
