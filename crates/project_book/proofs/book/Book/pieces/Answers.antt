use Rattle.std.proofs.Common.{◌≤◌, ◌^◌, ◌∙◌, ap, arith}
use Rattle.project_machine.specs.History.{after}
use Rattle.project_machine.specs.Legal.{IsSound}
use Rattle.project_book.specs.Keeping.{BookValue}
use Rattle.project_book.proofs.PieceLemmas.{pieces_opened, pieces_told, sound_state}
use Rattle.project_book.proofs.book.Book.pieces.Goals as goal

pub returns-clause-told : goal.returns-clause-told
returns-clause-told g c =
    let log = c.args.self.now.log in
    let is = c.self.invariant.state_is ∙ ap (λ (b : BookValue _). after b.log) c.self.view_is in
    let low : c.place.result ≤ 2 ^ 62 = omega arith in
    let sound : IsSound (after log) = sound_state c.verdicts_are_accepted.ensures.sound log c.self.inside.state.state c.place.result c.keeps.ensures.legal c.requires is c.place.ensures low in
    pieces_told c.states_are_told_apart.ensures log c.self.inside.state.state c.in_ok-told.told.items sound is c.in_ok-told.ensures.pieces

pub returns-clause-opened : goal.returns-clause-opened
returns-clause-opened g c =
    let log = c.args.self.now.log in
    let is = c.self.invariant.state_is ∙ ap (λ (b : BookValue _). after b.log) c.self.view_is in
    let low : c.place.result ≤ 2 ^ 62 = omega arith in
    let sound : IsSound (after log) = sound_state c.verdicts_are_accepted.ensures.sound log c.self.inside.state.state c.place.result c.keeps.ensures.legal c.requires is c.place.ensures low in
    pieces_opened c.states_are_told_apart.ensures log c.self.inside.state.state c.in_ok-told.told.items sound is c.in_ok-told.ensures.pieces
