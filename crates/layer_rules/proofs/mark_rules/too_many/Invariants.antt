use Rattle.std.proofs.Common.{◌≡◌, ◌-◌, nat_lt, length}
use Rattle.std.specs.List.{find, range_with_len}
use Rattle.conf_model.specs.Lookups.{role_most, roles_of}
use Rattle.layer_rules.specs.MarkRules.{filled}
use Rattle.layer_rules.proofs.mark_rules.too_many.Given as goal

abbrev pub invariant-loop-role : goal.invariant-loop-role
invariant-loop-role l =
    find (λ place. nat_lt (role_most l.conf l.event.kind.n place) (filled place l.event.args)) (range_with_len l.role (length (roles_of l.conf l.event.kind.n) - l.role))
    ≡ find (λ place. nat_lt (role_most l.conf l.event.kind.n place) (filled place l.event.args)) (range_with_len 0 (length (roles_of l.conf l.event.kind.n)))
