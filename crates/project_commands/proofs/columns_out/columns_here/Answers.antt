use Rattle.std.proofs.Common.{List, ℕ, inl, inr, subst}
use Rattle.std.specs.Arc.{arc_value}
use Rattle.project_machine.specs.Requests as answers
use Rattle.project_machine.specs.Requests.{ReadLayer}
use Rattle.project_commands.specs.Commands.Requests.{Grants, RefusesTo}
use Rattle.project_commands.proofs.columns_out.columns_here.Goals as goal

pub returns-in-Err-clause-refused : goal.returns-in-Err-clause-refused
returns-in-Err-clause-refused g c =
    inl (subst (λ (owner : List ℕ). RefusesTo c.args.project.now.log c.args.who.now (ReadLayer c.args.name owner) c.in-Err.why) c.in_ok-owner.ensures c.in-Err.ensures.refused)

pub returns-in-Ok-columns_of-clause-shown : goal.returns-in-Ok-columns_of-clause-shown
returns-in-Ok-columns_of-clause-shown g c = record {
  layer = arc_value c.in-Ok.read.layer;
  text = arc_value c.in-Ok.read.doc;
  conf = arc_value c.in-Ok.read.conf;
  granted = subst (λ (owner : List ℕ). Grants c.args.project.now.log c.args.who.now (ReadLayer c.args.name owner)
      (answers.Layer (arc_value c.in-Ok.read.layer) (arc_value c.in-Ok.read.doc) (arc_value c.in-Ok.read.conf)) c.read_layer.new.project.log)
      c.in_ok-owner.ensures c.in-Ok.ensures.granted;
  fits = c.in-Ok-columns_of.ensures.fits;
  lines = c.in-Ok-columns_of.ensures.columns;
}

pub returns-clause-refused : goal.returns-clause-refused
returns-clause-refused g c = inr (record {
  layer = arc_value c.in-Ok.read.layer;
  text = arc_value c.in-Ok.read.doc;
  conf = arc_value c.in-Ok.read.conf;
  now = c.read_layer.new.project.log;
  granted = subst (λ (owner : List ℕ). Grants c.args.project.now.log c.args.who.now (ReadLayer c.args.name owner)
      (answers.Layer (arc_value c.in-Ok.read.layer) (arc_value c.in-Ok.read.doc) (arc_value c.in-Ok.read.conf)) c.read_layer.new.project.log)
      c.in_ok-owner.ensures c.in-Ok.ensures.granted;
  told = c.in-Err-columns_of.ensures.lacking;
})
