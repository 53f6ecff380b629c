use Rattle.test_book.proofs.tests.uncounted.Given as goal

abbrev pub ghosts-filing : goal.ghosts-filing
ghosts-filing g a = record { name = a.blank.name; parts = a.blank.parts }
