use Rattle.std.proofs.Common.{◌≡◌, ◌∙◌, ◌+◌, Some, ap, length, rules, sym}
use Rattle.project_machine.specs.Machine.{is_full}
use Rattle.project_state.specs.Stored.{Stored, numbered_as}
use Rattle.project_state.proofs.KeptLemmas.{added_keep}
use Rattle.project_state.proofs.state.BookState.add_document.Goals as goal

pub invariant_of-self : goal.invariant_of-self
invariant_of-self c =
    let size : c.from.result ≡ length c.args.added.text = search rules in
    added_keep _ _ _ _ _ c.args.added c.self.invariant c.push_reserved.ensures.items (ap (λ n. c.self.inside.total + n) size)
    (ap (λ (kept : Stored). is_full kept.state c.args.added.text) c.self.view_is ∙ c.requires.full)
    (ap (λ (kept : Stored). numbered_as kept.numbers c.args.added.name) c.self.view_is ∙ (c.requires.numbered ∙ ap (λ (kept : Stored). Some (length kept.state.documents)) (sym c.self.view_is)))
