use Rattle.std.proofs.Common.{◌≡◌, ◌-◌, nat_lt, length}
use Rattle.std.specs.List.{find, range_with_len}
use Rattle.conf_model.specs.Lookups.{role_least, roles_of}
use Rattle.layer_rules.specs.MarkRules.{filled}
use Rattle.layer_rules.proofs.commit.too_few.Given as goal

abbrev pub invariant-loop-role : goal.invariant-loop-role
invariant-loop-role l =
    find (λ place. nat_lt (filled place l.event.args) (role_least l.conf l.event.kind.n place)) (range_with_len l.role (length (roles_of l.conf l.event.kind.n) - l.role))
    ≡ find (λ place. nat_lt (filled place l.event.args) (role_least l.conf l.event.kind.n place)) (range_with_len 0 (length (roles_of l.conf l.event.kind.n)))
