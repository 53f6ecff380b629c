-- What a slot's type promises, and lists of such values, slot by slot.
use Rattle.std.specs.Prelude.{◌≡◌, ℕ, max, ◌≤◌, List, [], ◌∷◌}
use Rattle.std.specs.List.{AllZip}
use Rattle.std.proofs.Common.{arith}

-- Alike is a partial equivalence: a value that is like any is like itself, and such a value is valid. On alike values
-- Below is a partial order and join its least upper bound, as in a join semilattice (Davey and Priestley, Introduction
-- to Lattices and Order, 2002). Nothing is said of values that are not valid.
pub record SlotLaws {T : Type 0} (Alike : T → T → Type 0) (join : T → T → T) (Below : T → T → Type 0) : Type 0 where
  pub like_back : (x y : T) → Alike x y → Alike y x
  pub like_on : (x y z : T) → Alike x y → Alike y z → Alike x z
  pub below_self : (x : T) → Alike x x → Below x x
  pub below_on : (x y z : T) → Alike x y → Alike y z → Below x y → Below y z → Below x z
  pub below_both : (x y : T) → Alike x y → Below x y → Below y x → x ≡ y
  pub join_like : (x y : T) → Alike x y → Alike x (join x y)
  pub join_first : (x y : T) → Alike x y → Below x (join x y)
  pub join_second : (x y : T) → Alike x y → Below y (join x y)
  pub join_least : (x y z : T) → Alike x y → Alike x z → Below x z → Below y z → Below (join x y) z
  pub join_self : (x : T) → Alike x x → join x x ≡ x

-- numbers are all alike, and the greater of two is their join
pub number_laws : SlotLaws {T = ℕ} (λ _ _. Unit {0}) max ◌≤◌
number_laws = record {
  like_back = λ x y _. tt;
  like_on = λ x y z _ _. tt;
  below_self = λ x _. omega arith;
  below_on = λ x y z _ _ h k. omega arith;
  below_both = λ x y _ h k. omega arith;
  join_like = λ x y _. tt;
  join_first = λ x y _. omega arith;
  join_second = λ x y _. omega arith;
  join_least = λ x y z _ _ h k. omega arith;
  join_self = λ x _. omega arith;
}

module _ {T : Type 0} where
  -- the join of two lists, slot by slot
  abbrev pub slotwise : (T → T → T) → List T → List T → List T
  slotwise join [] ys = []
  slotwise join (x ∷ xs) [] = []
  slotwise join (x ∷ xs) (y ∷ ys) = join x y ∷ slotwise join xs ys

  -- the lists are as long as each other, and it holds of each slot's two values
  abbrev pub EachSlot : (T → T → Type 0) → List T → List T → Type 0
  EachSlot = AllZip
