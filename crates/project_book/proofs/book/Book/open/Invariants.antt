use Rattle.project_book.proofs.book.Book.open.Given as goal

abbrev pub ghosts-free : goal.ghosts-free
ghosts-free g a = record { name = a.blank.name; parts = a.blank.parts }
