use Rattle.std.proofs.Common.{List, ℕ, ◌++◌, ◌∙◌, ap}
use Rattle.std.specs.Prelude.{codes}
use Rattle.demo_project.specs.Requests.{bytes_of, sent}
use Rattle.demo_project.proofs.requests.accept.Goals as goal

pub returns : goal.returns
returns c =
    c.in_ok-send.ensures
    ∙ ap (λ (path : List ℕ). c.args.input.now.items ++ bytes_of (sent (codes "cur") (codes "POST") path (codes "{\"item\":\"ann/T2\",\"verdict\":\"accept\"}"))) (c.as_str.ensures.value ∙ c.in_ok-path.ensures)
