use Rattle.std.proofs.Common.{◌≡◌, length, map}
use Rattle.conf_model.specs.ConfFaults.{same_words}
use Rattle.annotation_conf.specs.FileShows.{seen_pair}
use Rattle.annotation_conf.proofs.faults_lines.have_same_roles.Given as goal

abbrev pub invariant-loop-one : goal.invariant-loop-one
invariant-loop-one l = same_words (map (λ pair. pair.role) (map seen_pair l.left)) (map (λ pair. pair.role) (map seen_pair l.right))
    ≡ same_words (map (λ pair. pair.role) (map seen_pair l.first)) (map (λ pair. pair.role) (map seen_pair l.line))

abbrev pub decreases-loop-one : goal.decreases-loop-one
decreases-loop-one l = length l.left
