use Rattle.std.proofs.Common.{sym, ◌∙◌}
use Rattle.project_state.specs.Values.{answer_of}
use Rattle.project_commands.proofs.CommandsProofs.ReplyLemmas.{refused_by, tells_refused}
use Rattle.project_commands.proofs.commands.requests.ask_granted.Goals as goal

pub returns-in-Some-clause-refused : goal.returns-in-Some-clause-refused
returns-in-Some-clause-refused g c =
    rw (c.trouble_of.ensures.value, c.named_in.ensures) (refused_by _ _ _ (answer_of c.ask-reply.result) c.in-Some.refusal _ c.ask-reply.ensures.step (sym c.refusal_in.ensures ∙ c.in-Some.is))

pub returns-in-Some-clause-keeper : goal.returns-in-Some-clause-keeper
returns-in-Some-clause-keeper g c =
    rw c.trouble_of.ensures.value (tells_refused g.K.Keeper.faults g.K.Keeper.faultless _ _ _ _ _ (answer_of c.ask-reply.result) c.in-Some.refusal _ _ c.ask-reply.ensures.step
    (sym c.refusal_in.ensures ∙ c.in-Some.is) c.ask-reply.ensures.keeper)
