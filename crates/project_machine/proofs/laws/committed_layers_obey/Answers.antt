use Rattle.std.proofs.Common.{◌-◌, arith}
use Rattle.project_machine.specs.History.{after, begin, upto}
use Rattle.project_machine.proofs.HistoryLemmas.{front_legal}
use Rattle.project_machine.proofs.LegalLemmas.{kept_obeys, legal_kept}
use Rattle.project_machine.proofs.laws.committed_layers_obey.Goals as goal

pub returns : goal.returns
returns c = λ log place legal behind.
    kept_obeys (after (upto place log)) (legal_kept (upto place log) c.unflawed_layers.ensures.unflawed (front_legal (place - begin log) log legal (omega arith)))
