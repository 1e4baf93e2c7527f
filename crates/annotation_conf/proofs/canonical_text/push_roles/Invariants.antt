use Rattle.std.proofs.Common.{◌≡◌, ◌++◌, map, take}
use Rattle.conf_model.specs.ConfText.{role_text}
use Rattle.annotation_conf.proofs.canonical_text.push_roles.Given as goal

abbrev pub invariant-loop-role : goal.invariant-loop-role
invariant-loop-role l = l.pairs.items ≡ l.initial.pairs.items ++ map (role_text l.conf) (take l.role-index l.roles)
