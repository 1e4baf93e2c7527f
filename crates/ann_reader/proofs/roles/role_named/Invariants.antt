use Rattle.std.proofs.Common.{◌≡◌, drop}
use Rattle.std.specs.Prelude.{bytes_eq}
use Rattle.std.specs.List.{position_from}
use Rattle.conf_model.specs.Lookups.{role_named, roles_of}
use Rattle.ann_reader.proofs.roles.role_named.Given as goal

abbrev pub invariant-loop-place : goal.invariant-loop-place
invariant-loop-place l = role_named l.conf l.event.n l.name ≡ position_from (λ role. bytes_eq role.name l.name) l.place (drop l.place (roles_of l.conf l.event.n))
