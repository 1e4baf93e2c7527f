use Rattle.layer_core.proofs.BackLemmas.{changed_differs}
use Rattle.layer_core.proofs.TouchedLemmas.{least_is_touched}
use Rattle.layer_core.proofs.touched_laws.changes_break_what_they_touch.Goals as goal

pub returns-clause-change : goal.returns-clause-change
returns-clause-change c = least_is_touched

pub returns-clause-command : goal.returns-clause-command
returns-clause-command c =
    λ conf characters layer command made changed kept drafts is.
    least_is_touched conf characters made.layer layer changed kept (changed_differs layer command made changed (conf, drafts) is)
