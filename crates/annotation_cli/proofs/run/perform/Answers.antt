use Rattle.command_words.specs.Asked.{book_command_in}
use Rattle.annotation_cli.proofs.FreeLemmas.{free_after, free_behind}
use Rattle.annotation_cli.proofs.run.perform.Goals as goal

pub returns-in-Some-Session-clause-free : goal.returns-in-Some-Session-clause-free
returns-in-Some-Session-clause-free g c = λ name.
    free_after c.in-Some-Session.book.now name _ _ _ _ c.serve_session.ensures.others (c.requires.free name) c.serve_session.ensures.taken_back

pub returns-in-Some-Book-clause-free : goal.returns-in-Some-Book-clause-free
returns-in-Some-Book-clause-free g c = λ name.
    free_behind (book_command_in c.in-Some-Book.job) name _ _ _ _ c.find-found.ensures.others (c.requires.free name) c.find-found.ensures.taken_back

pub returns-in-Some-Compact-clause-free : goal.returns-in-Some-Compact-clause-free
returns-in-Some-Compact-clause-free g c = λ name.
    free_after c.in-Some-Compact.made.now name _ _ _ _ c.compact-found.ensures.others (c.requires.free name) c.compact-found.ensures.made_back
