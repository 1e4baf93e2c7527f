use Rattle.std.proofs.Common.{◌≡◌, drop}
use Rattle.demo_project.specs.Sessions.{says_unable}
use Rattle.demo_project.proofs.serving.says_unable.Given as goal

abbrev pub invariant-loop-at : goal.invariant-loop-at
invariant-loop-at l = says_unable (drop l.at l.bytes) ≡ says_unable l.bytes
