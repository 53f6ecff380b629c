-- The definitions on a tree of eight slots, before and after slot 5 is set.
use Rattle.std.proofs.Common.{◌≡◌, ℕ, List, [], ◌∷◌, refl}
use Rattle.sa_shared.specs.declared.nodes.Node.{Node}
use Rattle.sa_shared.specs.declared.nodes.Node.TheVariants.{Leaf, Fork}
use Rattle.sa_shared.specs.Tree.{Tree, values, differences, visits, way_length, tree_at}

nodes : List (Node ℕ)
nodes =
    Leaf 10 ∷ Leaf 11 ∷ Fork 0 1 ∷ Leaf 12 ∷ Leaf 13 ∷ Fork 3 4 ∷ Fork 2 5 ∷ Leaf 14 ∷ Leaf 15 ∷ Fork 7 8 ∷ Leaf 16 ∷ Leaf 17 ∷ Fork 10 11 ∷ Fork 9 12
    ∷ Fork 6 13 ∷ Leaf 9 ∷ Fork 7 15 ∷ Fork 16 12 ∷ Fork 6 17 ∷ []

-- number 14 is the tree's root, and number 18 that of the tree with slot 5 set
before : Tree ℕ
before = tree_at nodes 14

after : Tree ℕ
after = tree_at nodes 18

list_before : values before ≡ 10 ∷ 11 ∷ 12 ∷ 13 ∷ 14 ∷ 15 ∷ 16 ∷ 17 ∷ []
unfolding nodes before tree_at
list_before = refl

list_after : values after ≡ 10 ∷ 11 ∷ 12 ∷ 13 ∷ 14 ∷ 9 ∷ 16 ∷ 17 ∷ []
unfolding nodes after tree_at
list_after = refl

four_places : differences before after ≡ 4
unfolding nodes before after tree_at
four_places = refl

-- the root, two halves, two quarters and the two slots of one of these: at most 9
seven_visits : visits before after ≡ 7
unfolding nodes before after tree_at
seven_visits = refl

four_new_nodes : way_length before 5 ≡ 4
unfolding nodes before tree_at
four_new_nodes = refl
