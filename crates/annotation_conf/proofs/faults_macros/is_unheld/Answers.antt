use Rattle.std.proofs.Common.{◌∙◌, ◌&&◌, not, sym, ap, length, true}
use Rattle.std.specs.Option.{option_map_or}
use Rattle.annotation_conf.specs.declared.faults_macros.Kinds.{Kinds}
use Rattle.annotation_conf.specs.FileShows.{seen_alternative}
use Rattle.annotation_conf.proofs.FaultMacros.{unheld_by}
use Rattle.annotation_conf.proofs.faults_macros.is_unheld.Goals as goal

pub returns-in-None : goal.returns-in-None
returns-in-None c =
    ap (λ o. option_map_or (λ (k : Kinds). k.relation && not c.args.relations) o true) (sym c.in-None.is ∙ c.held.ensures)
    ∙ unheld_by c.args.known.now (length c.args.kinds.now) c.args.relations (seen_alternative c.args.one.now)
