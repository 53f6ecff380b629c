-- The reference analysis of a program: for each loop its passes and stable state, and the alarms.
use Rattle.std.specs.Prelude.{Bool, ◌&&◌, List, [], ◌∷◌, Option, Some, None, if◌then◌else◌, max}
use Rattle.sa_typed.specs.declared.program.Program.{Program}
use Rattle.sa_typed.specs.Executions.{Loop, same_pos, same_path, main_of}
use Rattle.sa_reference.specs.Domain.{Domain}
use Rattle.sa_reference.specs.Steps.{Record, Found, found}

abbrev pub same_loop : Loop → Loop → Bool
same_loop a b = same_pos a.place b.place && same_path a.path b.path

module _ (D : Domain) where
  -- the records and the alarms of main, from the initial environment
  unfoldable pub reference : Program → Found D.Env
  reference p = found D (main_of p) [] D.initial

  -- records of one loop are merged, with the greatest passes
  abbrev pub with_record : Record D.Env → Option (Record D.Env) → Option (Record D.Env)
  with_record r None = Some r
  with_record r (Some q) = Some (record { loop = r.loop; passes = max r.passes q.passes; state = D.merge r.state q.state })

  -- what stands of a loop, or None where it isn't reached
  abbrev pub record_at : List (Record D.Env) → Loop → Option (Record D.Env)
  record_at [] loop = None
  record_at (r ∷ rs) loop = if same_loop r.loop loop then with_record r (record_at rs loop) else record_at rs loop
