-- Trees of one fixed shape, whose nodes stand in one list and may be shared (persistent balanced trees: Okasaki,
-- Purely Functional Data Structures, 1998).
use Rattle.std.specs.Prelude.{◌≡◌, ℕ, Bool, ◌+◌, ◌-◌, ◌/◌, ◌<◌, ◌≤◌, ◌==◌, ◌||◌, if◌then◌else◌, List, [], ◌∷◌, ◌++◌, length, reverse, take, nat_lt}
use Rattle.sa_shared.specs.declared.nodes.Node.{Node}
use Rattle.sa_shared.specs.declared.nodes.Node.TheVariants.{Empty, Leaf, Fork}

-- a tree as it unfolds from its root: the node number at each place, and at the leaves the slots' values
pub data Tree (T : Type 0) : Type 0 where
  empty : ℕ → Tree T
  leaf : ℕ → T → Tree T
  fork : ℕ → Tree T → Tree T → Tree T

module _ {T : Type 0} where
  -- the node number at the root
  abbrev pub number : Tree T → ℕ
  number (empty n) = n
  number (leaf n x) = n
  number (fork n s t) = n

  -- the list that a tree stands for
  abbrev pub values : Tree T → List T
  values (empty n) = []
  values (leaf n x) = x ∷ []
  values (fork n s t) = values s ++ values t

  -- the fixed shape over so many slots: a node over m slots, at least two, has the first m - m / 2 on its left
  abbrev pub IsBalanced : ℕ → Tree T → Type 0
  IsBalanced m (empty n) = m ≡ 0
  IsBalanced m (leaf n x) = m ≡ 1
  IsBalanced m (fork n s t) = (2 ≤ m) × IsBalanced (m - m / 2) s × IsBalanced (m / 2) t

  -- at how many places two trees of one shape hold different node numbers
  abbrev pub differences : Tree T → Tree T → ℕ
  differences (fork i s t) (fork j u v) = (if i == j then 0 else 1) + (differences s u + differences t v)
  differences s t = if number s == number t then 0 else 1

  -- how many pairs of nodes a walk over both trees visits that stops where the node numbers are equal
  abbrev pub visits : Tree T → Tree T → ℕ
  visits (fork i s t) (fork j u v) = 1 + (if i == j then 0 else visits s u + visits t v)
  visits s t = 1

  -- how many nodes the way from the root to a slot has
  abbrev pub way_length : Tree T → ℕ → ℕ
  way_length (empty n) k = 1
  way_length (leaf n x) k = 1
  way_length (fork n s t) k =
      1 + (if nat_lt k (length (values s)) then way_length s k else way_length t (k - length (values s)))

  -- some place of the tree holds this node number
  abbrev pub holds : ℕ → Tree T → Bool
  holds k (empty n) = k == n
  holds k (leaf n x) = k == n
  holds k (fork n s t) = k == n || (holds k s || holds k t)

  -- a node's tree, by the trees of the numbers that it names
  abbrev pub unfolded : (ℕ → Tree T) → ℕ → Node T → Tree T
  unfolded trees n Empty = empty n
  unfolded trees n (Leaf x) = leaf n x
  unfolded trees n (Fork left right) = fork n (trees left) (trees right)

  -- the tree of a number, where the newest node stands first; a node names older ones alone
  abbrev pub tree_in : List (Node T) → ℕ → Tree T
  tree_in [] n = empty n
  tree_in (node ∷ older) n = if n == length older then unfolded (tree_in older) n node else tree_in older n

  -- the tree of a node number
  unfoldable pub tree_at : List (Node T) → ℕ → Tree T
  tree_at nodes n = tree_in (reverse nodes) n

  -- the number names a tree of the fixed shape over so many slots
  pub record IsTree (nodes : List (Node T)) (slots n : ℕ) : Type 0 where
    pub inside : n < length nodes
    pub balanced : IsBalanced slots (tree_at nodes n)

  -- the new nodes are the old ones and others after them, and every old number keeps its tree
  pub record Extends (old new : List (Node T)) : Type 0 where
    pub longer : length old ≤ length new
    pub kept : take (length old) new ≡ old
    pub trees : (n : ℕ) → n < length old → tree_at new n ≡ tree_at old n
