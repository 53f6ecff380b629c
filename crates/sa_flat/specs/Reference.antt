-- No promise of the top calls rests on this page: it is for laws beside them, for proofs and for inner functions.
-- The reference analysis of a lowered program, over any domain: for each loop its passes and stable state, and the alarms.
use Rattle.std.specs.Prelude.{ℕ, ◌==◌, List, [], ◌∷◌, Option, Some, None, if◌then◌else◌, max, pos}
use Rattle.sa_interval.specs.Rows.{single}
use Rattle.sa_ir.specs.declared.ir.Ir.{Ir}
use Rattle.sa_ir.specs.declared.node.Node.TheVariants as node
use Rattle.sa_flat.specs.Domain.{Domain}
use Rattle.sa_flat.specs.Meanings.{Cells}
use Rattle.sa_flat.specs.Assignments.{items_from}
use Rattle.sa_flat.specs.Pieces.{Record, Found, found_in}
use Rattle.sa_flat.specs.Nodes.{piece}

-- records of one loop are merged, with the greatest passes
module _ (D : Domain) where
  abbrev pub with_record : Record D.Env → Option (Record D.Env) → Option (Record D.Env)
  with_record r None = Some r
  with_record r (Some q) = Some (record { loop = r.loop; passes = max r.passes q.passes; state = D.merge r.state q.state })

  -- what stands of a loop, or None where it isn't reached
  abbrev pub record_at : List (Record D.Env) → ℕ → Option (Record D.Env)
  record_at [] k = None
  record_at (r ∷ rs) k = if r.loop == k then with_record r (record_at rs k) else record_at rs k

module _ (D : Domain) (x : Cells) where
  -- the clock is 0, each global and static local has its initial values, and a local may be anything before its declaration
  abbrev pub initial : Ir → Option D.Env
  initial ir = items_from D x 0 ir.initial (D.top (single (pos 0)))

  -- the records and the alarms of main
  unfoldable pub reference : Ir → Found D.Env
  reference ir = found_in (initial ir) (piece D x (node.Block ir.body)).found
