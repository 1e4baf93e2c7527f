use Rattle.std.proofs.Common.{subst}
use Rattle.std.specs.Prelude.{IfOk, OnErr}
use Rattle.http_answers.specs.Desk.DeskAnswers.{IsLeft, IsOutcome, Outcome}
use Rattle.http_answers.proofs.DeskProofs.LoadLemmas.{loaded_is}
use Rattle.http_answers.proofs.desk.desk_answers.load_file.Goals as goal

pub returns-in-Ok-clause-said : goal.returns-in-Ok-clause-said
returns-in-Ok-clause-said c =
    subst (λ (o : Outcome). IfOk c.perform.result (λ answer. IsOutcome o c.args.desk.now answer c.perform.new.desk))
    (loaded_is c.args.desk.now c.args.conf.now c.args.text.now c.args.body.now c.in-Ok.layer c.requires.conf c.requires.text
    (c.files_of_a_layer.ensures.faultless _ _ _ _ c.keeps.ensures c.in-Ok.ensures.read) (c.files_of_a_layer.ensures.said _ _ _ _ c.keeps.ensures c.in-Ok.ensures.read))
    c.perform.ensures.said

pub returns-in-Ok-clause-left : goal.returns-in-Ok-clause-left
returns-in-Ok-clause-left c =
    subst (λ (o : Outcome). OnErr c.perform.result (IsLeft o c.args.desk.now c.perform.new.desk))
    (loaded_is c.args.desk.now c.args.conf.now c.args.text.now c.args.body.now c.in-Ok.layer c.requires.conf c.requires.text
    (c.files_of_a_layer.ensures.faultless _ _ _ _ c.keeps.ensures c.in-Ok.ensures.read) (c.files_of_a_layer.ensures.said _ _ _ _ c.keeps.ensures c.in-Ok.ensures.read))
    c.perform.ensures.left
