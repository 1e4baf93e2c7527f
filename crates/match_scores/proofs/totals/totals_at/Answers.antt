use Rattle.std.proofs.Common.{refl}
use Rattle.match_scores.specs.Tallies.{cell}
use Rattle.match_scores.proofs.totals.totals_at.Goals as goal

pub returns : goal.returns
unfolding cell
returns c = λ sort part. refl
