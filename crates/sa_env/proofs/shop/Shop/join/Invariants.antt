use Rattle.sa_env.proofs.shop.Shop.join.Given as goal

abbrev pub ghosts-joined : goal.ghosts-joined
ghosts-joined a = record { name = a.blank.name; parts = a.blank.parts }
