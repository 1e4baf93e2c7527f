use Rattle.std.proofs.Common.{◌∙◌, sym, ap, length, arith}
use Rattle.annotation_conf.specs.FileShows.{seen_alternative}
use Rattle.annotation_conf.specs.KnownMacros.{kinds_by}
use Rattle.annotation_conf.proofs.FaultMacros.{kinds_push_held, kinds_push_unheld}
use Rattle.annotation_conf.proofs.faults_macros.all_held.Goals as goal
use Rattle.annotation_conf.proofs.faults_macros.all_held.Goals.{in-Some, in_default}

pub loop-alternative-preserved : goal.loop-alternative-preserved
loop-alternative-preserved c =
    elim c.match-held.branch [
      | in-Some w ↦
          w.all-is ∙ w.or-all.ensures
          ∙ kinds_push_held c.args.known.now (length c.args.kinds.now) c.args.alternatives.now c.loop-alternative.alternative-index c.alternative-item.result c.loop-alternative.all w.in-Some.one (omega arith) c.loop-alternative.invariant
          (ap (λ one. kinds_by c.args.known.now (length c.args.kinds.now) (seen_alternative one)) (sym c.alternative-item.is) ∙ sym c.held.ensures ∙ w.in-Some.is)
      | in_default w ↦
          w.all-is
          ∙ kinds_push_unheld c.args.known.now (length c.args.kinds.now) c.args.alternatives.now c.loop-alternative.alternative-index c.alternative-item.result c.loop-alternative.all (omega arith) c.loop-alternative.invariant
          (ap (λ one. kinds_by c.args.known.now (length c.args.kinds.now) (seen_alternative one)) (sym c.alternative-item.is) ∙ sym c.held.ensures ∙ w.in_default.is)
    ]
