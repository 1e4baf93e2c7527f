use Rattle.std.proofs.Common.{List, ℕ, subst}
use Rattle.std.specs.Arc.{arc_value}
use Rattle.project_machine.specs.Requests as answers
use Rattle.project_machine.specs.Requests.{ReadLayer}
use Rattle.project_commands.specs.Commands.Requests.{Grants, RefusesTo}
use Rattle.project_commands.proofs.showing.layer_here.Goals as goal

pub returns-in-Err-clause-refused : goal.returns-in-Err-clause-refused
returns-in-Err-clause-refused g c =
    subst (λ (owner : List ℕ). RefusesTo c.args.project.now.log c.args.who.now (ReadLayer c.args.name owner) c.in-Err.why) c.in_ok-owner.ensures c.in-Err.ensures.refused

pub returns-clause-shown : goal.returns-clause-shown
returns-clause-shown g c = record {
  layer = arc_value c.in-Ok.read.layer;
  text = arc_value c.in-Ok.read.doc;
  conf = arc_value c.in-Ok.read.conf;
  granted = subst (λ (owner : List ℕ). Grants c.args.project.now.log c.args.who.now (ReadLayer c.args.name owner)
      (answers.Layer (arc_value c.in-Ok.read.layer) (arc_value c.in-Ok.read.doc) (arc_value c.in-Ok.read.conf)) c.read_layer.new.project.log)
      c.in_ok-owner.ensures c.in-Ok.ensures.granted;
  lines = c.in_ok-lines.ensures.lines;
  again = c.in_ok-lines.ensures.again;
}
