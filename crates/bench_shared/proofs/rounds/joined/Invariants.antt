use Rattle.bench_shared.proofs.rounds.joined.Given as goal

abbrev pub ghosts-join_rounds : goal.ghosts-join_rounds
ghosts-join_rounds a = record { name = a.blank.name; parts = a.blank.parts }
