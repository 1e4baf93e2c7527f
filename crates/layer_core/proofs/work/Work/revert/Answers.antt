use Rattle.std.proofs.Common.{length, sym, subst}
use Rattle.std.specs.Arc.{arc_value}
use Rattle.layer_rules.specs.WellFormed.{IsWellFormed}
use Rattle.layer_core.specs.Backs.{led_back}
use Rattle.layer_core.specs.Works.{WorkState}
use Rattle.layer_core.proofs.WorkLemmas.{kept_either}
use Rattle.layer_core.proofs.work.Work.revert.Goals as goal

pub go_back-requires-clause-well_formed : goal.go_back-requires-clause-well_formed
go_back-requires-clause-well_formed c = (
  arc_value c.self.inside.conf,
  (length (arc_value c.self.inside.doc), subst (λ (w : WorkState). IsWellFormed w.conf (length w.text) (led_back c.args.back w.layer)) (sym c.self.view_is) c.requires.well_formed),
)

pub invariant_of-self : goal.invariant_of-self
invariant_of-self c =
    let well : IsWellFormed (arc_value c.self.inside.conf) (length (arc_value c.self.inside.doc)) (led_back c.args.back c.self.inside.layer) =
    subst (λ (w : WorkState). IsWellFormed w.conf (length w.text) (led_back c.args.back w.layer)) (sym c.self.view_is) c.requires.well_formed in (
      kept_either (IsWellFormed (arc_value c.self.inside.conf) (length (arc_value c.self.inside.doc))) c.go_back.result c.self.inside.layer (led_back c.args.back c.self.inside.layer) c.go_back.new.layer
          c.go_back.ensures.done c.go_back.ensures.kept c.self.invariant.0 well,
      c.go_back.ensures.index,
    )
