use Rattle.std.proofs.Common.{List, ℕ, [], ◌++◌, ◌∙◌, ap}
use Rattle.std.specs.Prelude.{codes}
use Rattle.demo_project.specs.Requests.{bytes_of, posted}
use Rattle.demo_project.proofs.requests.commit.Goals as goal

pub returns : goal.returns
returns c = c.in_ok-send.ensures ∙ ap (λ (name : List ℕ). c.args.input.now.items ++ bytes_of (posted name (codes "/desk/commit"))) c.name_of.ensures
