use Rattle.project_state.specs.Entries.Asking.{plain_asking}
use Rattle.project_book.proofs.ReplayLemmas.{made_next}
use Rattle.project_book.proofs.book.Book.asked_again.Goals as goal

pub returns : goal.returns
returns g c =
    made_next c.changes_tell_their_requests.ensures.request c.args.self.now.log c.args.bytes.now (plain_asking c.args.asking) c.in_ok-made.made c.of_bytes.result c.keeps.ensures.legal c.requires c.in_ok-made.ensures
    c.of_bytes.ensures.same c.of_bytes.ensures.other
