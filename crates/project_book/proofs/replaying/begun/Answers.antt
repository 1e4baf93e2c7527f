use Rattle.std.proofs.Common.{◌≡◌, ◌≢◌, slice_get, Some, sym, ◌∙◌, ap, subst}
use Rattle.std.specs.Option.{option_copied}
use Rattle.project_book.specs.Replaying.{BeginsSo}
use Rattle.project_book.proofs.BegunLemmas.{nothing_begins}
use Rattle.project_book.proofs.FaultLemmas.{fault_without_pieces, no_piece_begins, nothing_begins_so, piece_begins}
use Rattle.project_book.proofs.ReplayLemmas.{bad_first, bad_lacking}
use Rattle.project_book.proofs.replaying.begun.Goals as goal

pub returns-in_default-clause-refused : goal.returns-in_default-clause-refused
returns-in_default-clause-refused g c =
    let none = sym c.first.ensures.value ∙ ap option_copied c.in_default.is in
    fault_without_pieces c.args.entries.now 1 (nothing_begins_so c.args.entries.now none) (bad_lacking c.args.entries.now nothing_begins none)

pub begun_restored-requires : goal.begun_restored-requires
begun_restored-requires g c =
    piece_begins c.args.entries.now c.in-Some.first.now (sym c.first.ensures.value ∙ ap option_copied c.in-Some.is)
    (subst (λ bs. slice_get bs 0 ≡ Some 16) c.items.ensures (c.begins_state.ensures.state c.if-begins_state.true))

pub returns-in-None-clause-refused : goal.returns-in-None-clause-refused
returns-in-None-clause-refused g c =
    let first = sym c.first.ensures.value ∙ ap option_copied c.in-Some.is in
    fault_without_pieces c.args.entries.now 1
    (no_piece_begins c.args.entries.now c.in-Some.first.now first (subst (λ bs. slice_get bs 0 ≢ Some 16) c.items.ensures (c.begins_state.ensures.other c.if-begins_state.false)))
    (bad_first c.args.entries.now c.in-Some.first.now nothing_begins first (subst (BeginsSo c.in-Some.first.now) c.in-None.is c.in_ok-book.ensures))
