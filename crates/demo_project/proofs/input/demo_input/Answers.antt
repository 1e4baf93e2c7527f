use Rattle.std.proofs.Common.{List, ℕ, ◌≡◌, ◌++◌, ◌∙◌, ap}
use Rattle.demo_project.specs.Requests.{bytes_of, demo_requests}
use Rattle.demo_project.proofs.JoinedLemmas.{sent_on}
use Rattle.demo_project.proofs.input.demo_input.Goals as goal

pub returns : goal.returns
returns c =
    c.from_vec.ensures
    ∙ sent_on _ _ _ _ _ (sent_on _ _ _ _ _ c.in_ok-all_docs.ensures c.in_ok-read_pairs.ensures) c.in_ok-read_alpha.ensures
    ∙ ap (λ (before : List ℕ). before ++ bytes_of (demo_requests c.args.number)) c.new-input.ensures.items
