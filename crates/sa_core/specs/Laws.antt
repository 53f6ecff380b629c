-- The parts of a work, and what merging them has to keep.
use Rattle.std.specs.Prelude.{◌≡◌, ℕ}

-- the part that stands for no branch, the part of each branch, and the merge of two parts
pub record Parts (P : Type 0) : Type 0 where
  pub none_of : P
  pub part_of : ℕ → P
  pub merge_of : P → P → P

-- among the parts that fit, merging is a join with a least element
pub record MergeLaws {P : Type 0} (Fits : P → Type 0) (m : Parts P) : Type 0 where
  -- what fits: nothing, each branch's part, and what is merged of parts that fit
  pub none_fits : Fits m.none_of
  pub part_fits : (k : ℕ) → Fits (m.part_of k)
  pub merge_fits : (p q : P) → Fits p → Fits q → Fits (m.merge_of p q)
  -- independent of order and of grouping
  pub swap : (p q : P) → Fits p → Fits q → m.merge_of p q ≡ m.merge_of q p
  pub group : (p q r : P) → Fits p → Fits q → Fits r → m.merge_of (m.merge_of p q) r ≡ m.merge_of p (m.merge_of q r)
  -- a repeat changes nothing, and neither does nothing
  pub twice : (p : P) → Fits p → m.merge_of p p ≡ p
  pub neutral : (p : P) → Fits p → m.merge_of m.none_of p ≡ p
