-- The way from a tree's root down to a slot, by its sides, the last one first.
use Rattle.std.specs.Prelude.{◌≡◌, ℕ, ◌+◌, ◌-◌, ◌/◌, ◌<◌, ◌≤◌, List, [], ◌∷◌}
use Rattle.sa_shared.specs.declared.nodes.Node.{Node}
use Rattle.sa_shared.specs.declared.nodes.Node.TheVariants.{Fork}
use Rattle.sa_shared.specs.declared.way.Side.{Side}
use Rattle.sa_shared.specs.declared.way.Side.TheVariants.{Left, Right}
use Rattle.sa_shared.specs.Tree.{Tree, fork, tree_at}

module _ {T : Type 0} where
  -- the node that has this number in place of the half that the way took
  abbrev pub over : Side → ℕ → Node T
  over (Left right) n = Fork n right
  over (Right left) n = Fork left n

  -- the sides lead from the whole tree, over so many slots, to this part of it over m slots, and the slot of the
  -- whole is the part's slot k
  abbrev pub IsWay : List (Node T) → ℕ → Tree T → ℕ → List Side → ℕ → Tree T → ℕ → Type 0
  IsWay nodes slots whole slot [] m part k = (m ≡ slots) × (part ≡ whole) × (k ≡ slot)
  IsWay nodes slots whole slot (Left right ∷ sides) m part k = (w : ℕ) × (n : ℕ) × (2 ≤ w) × (m ≡ w - w / 2) × (k < m)
      × IsWay nodes slots whole slot sides w (fork n part (tree_at nodes right)) k
  IsWay nodes slots whole slot (Right left ∷ sides) m part k = (w : ℕ) × (n : ℕ) × (2 ≤ w) × (m ≡ w / 2)
      × IsWay nodes slots whole slot sides w (fork n (tree_at nodes left) part) (w - w / 2 + k)
