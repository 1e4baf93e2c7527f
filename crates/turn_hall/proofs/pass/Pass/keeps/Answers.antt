use Rattle.std.proofs.Common.{subst}
use Rattle.project_machine.specs.Asking.{IsVisiting}
use Rattle.turn_hall.specs.Passes.{PassValue, view_of, visiting_of}
use Rattle.turn_hall.proofs.TellLemmas.{visiting_pass}
use Rattle.turn_hall.proofs.pass.Pass.keeps.Goals as goal

pub returns-clause-visiting : goal.returns-clause-visiting
returns-clause-visiting g = subst (λ (p : PassValue). IsVisiting (visiting_of p)) g.self.view_is (visiting_pass (record { hall = g.self.inside.badge.table_id; knows = view_of g.self.inside.badge.views }) g.self.invariant.seen.short g.self.invariant.mine)
