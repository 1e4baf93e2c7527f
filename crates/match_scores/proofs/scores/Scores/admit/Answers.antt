use Rattle.std.proofs.Common.{◌<◌, length, arith, ap}
use Rattle.match_scores.specs.Standing.{Standing}
use Rattle.match_scores.proofs.TotalLemmas.{totals_admitted}
use Rattle.match_scores.proofs.scores.Scores.admit.Goals as goal

pub invariant_of-self-2 : goal.invariant_of-self-2
invariant_of-self-2 c =
    let room : length c.self.inside.documents.items < 4096 = omega (arith, c.requires, ap (λ (s : Standing). length s.documents) c.self.view_is) in
    rw (c.in_ok-push.ensures.items, c.in_ok-document.ensures) (totals_admitted c.self.inside.raters c.self.inside.documents.items c.self.inside.totals.items c.self.invariant room)
