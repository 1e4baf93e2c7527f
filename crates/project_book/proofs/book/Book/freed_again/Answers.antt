use Rattle.project_book.proofs.ReplayLemmas.{freeing_next}
use Rattle.project_book.proofs.book.Book.freed_again.Goals as goal

pub returns : goal.returns
returns g c =
    freeing_next c.written_layers_are_utf8.ensures c.states_can_be_restored.ensures.kept c.entries_are_told_apart.ensures.no_two c.changes_tell_their_requests.ensures.request
    c.args.self.now.log c.args.bytes.now c.in_ok-kept.kept c.keeps.ensures.legal c.requires c.in_ok-kept.ensures
