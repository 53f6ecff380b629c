-- What contracts see of a frozen part and of a layer: trees of one size, by their roots.
use Rattle.std.specs.Prelude.{◌≡◌, ℕ, zero, suc, ◌+◌, ◌<◌, ◌≤◌, if◌then◌else◌, List, length, take}
use Rattle.std.specs.List.{list_any}
use Rattle.sa_shared.specs.declared.nodes.Node.{Node}
use Rattle.sa_shared.specs.declared.nodes.Root.{Root}
use Rattle.sa_shared.specs.Slots.{EachSlot}
use Rattle.sa_shared.specs.Tree.{Tree, values, IsBalanced, tree_at, holds}

-- the nodes, the number of slots of each list, and the root whose list the others are like
pub record Forest (T : Type 0) : Type 0 where
  pub slots : ℕ
  pub first : Root
  pub nodes : List (Node T)

module _ {T : Type 0} where
  -- the tree of a root
  abbrev pub tree_of : Forest T → Root → Tree T
  tree_of f r = tree_at f.nodes r.node

  -- the list that a root stands for
  abbrev pub list_of : Forest T → Root → List T
  list_of f r = values (tree_at f.nodes r.node)

  -- the root names a tree of the fixed shape over the slots, whose list is like the first, slot by slot
  pub record Belongs (Alike : T → T → Type 0) (f : Forest T) (r : Root) : Type 0 where
    pub inside : r.node < length f.nodes
    pub balanced : IsBalanced f.slots (tree_at f.nodes r.node)
    pub alike : EachSlot Alike (values (tree_at f.nodes f.first.node)) (values (tree_at f.nodes r.node))

  -- nodes were added after the old ones and none was changed, so each old root stands for what it stood for
  pub record Grows (Alike : T → T → Type 0) (old new : Forest T) : Type 0 where
    pub slots : new.slots ≡ old.slots
    pub first : new.first ≡ old.first
    pub longer : length old.nodes ≤ length new.nodes
    pub nodes : take (length old.nodes) new.nodes ≡ old.nodes
    pub roots : (r : Root) → Belongs Alike old r → Belongs Alike new r
    pub trees : (r : Root) → Belongs Alike old r → tree_of new r ≡ tree_of old r

  -- how many of the first n node numbers stand at a place of one of the roots' trees, each counted once
  abbrev pub reached : List (Node T) → List Root → ℕ → ℕ
  reached nodes roots zero = 0
  reached nodes roots (suc n) = (if list_any (λ r. holds n (tree_at nodes r.node)) roots then 1 else 0) + reached nodes roots n
