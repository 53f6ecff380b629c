use Rattle.sa_steps.proofs.tests.uncounted.Given as goal

abbrev pub ghosts-some : goal.ghosts-some
ghosts-some a = record { name = a.blank.name; parts = a.blank.parts }
