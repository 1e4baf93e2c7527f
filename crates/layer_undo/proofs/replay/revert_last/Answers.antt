use Rattle.std.proofs.Common.{[], ◌∷◌, ◌++◌, sym, ◌∙◌, ap}
use Rattle.layer_undo.proofs.replay.revert_last.Goals as goal

pub revert-requires-clause-fits : goal.revert-requires-clause-fits
revert-requires-clause-fits c = c.requires.fits c.pop.new.self.items c.in-Some.back c.in-Some.ensures.items

pub revert-requires-clause-well_formed : goal.revert-requires-clause-well_formed
revert-requires-clause-well_formed c = c.requires.well_formed c.pop.new.self.items c.in-Some.back c.in-Some.ensures.items

pub returns-in-Ok-clause-done : goal.returns-in-Ok-clause-done
returns-in-Ok-clause-done c = record { back = c.in-Some.back; last = c.in-Some.ensures.items; work = c.in-Ok.ensures.done }

pub returns-in-Err-clause-same : goal.returns-in-Err-clause-same
returns-in-Err-clause-same c = c.push_reserved.ensures.items ∙ ap (λ b. c.pop.new.self.items ++ b ∷ []) c.in-Err.ensures.given ∙ sym c.in-Some.ensures.items
