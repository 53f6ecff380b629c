-- Locals that begin with any numbers or with their items.
use Rattle.std.proofs.Common.{◌≡◌, ℕ, zero, suc, ◌+◌, ◌<◌, ◌≤◌, ℤ, pos, Bool, true, false, List, [], ◌∷◌, length, refl, sym, subst, ◌∙◌, arith, Some, ◌⊎◌, inl, inr}
use Rattle.std.specs.Prelude.{if◌then◌else◌, ◌&&◌, nat_le, nat_lt, get_or, slice_get}
use Rattle.std.proofs.lemmas.Bool.Decides.{nat_tests}
use Rattle.sa_base.specs.declared.num.Num.{Num}
use Rattle.sa_interval.specs.Span.{Within}
use Rattle.sa_operators.specs.Operators.{range_of}
use Rattle.sa_typed.specs.Arithmetic.{is_of}
use Rattle.sa_typed.proofs.ArithmeticLaws.{is_of_from}
use Rattle.sa_typed.specs.Layouts.{Layout, nums, index_of, layout_of}
use Rattle.sa_typed.specs.Evaluation.{Here, Store, Value, Gives, Stops, Blocked, then_value, place_of}
use Rattle.sa_typed.specs.Executions.{same_var, filled, any_numbers}
use Rattle.sa_typed.specs.declared.program.Place.{Place}
use Rattle.sa_typed.specs.declared.program.Program.{Program}
use Rattle.sa_ir.specs.declared.ir.Ends.{Ends}
use Rattle.sa_flat.specs.Domain.{Domain}
use Rattle.sa_flat.specs.Meanings.{Cells}
use Rattle.sa_flat.specs.Assignments.{any_from, items_from}
use Rattle.sa_flat.proofs.Lawful.{Lawful, Frame, AliveAnd}
use Rattle.sa_flat.proofs.Goods.{alive_all, Good, Pick, Holds}
use Rattle.sa_flat.proofs.ChangeLaws.{Alike, AreEnds, InEnds, any_new, items_new}
use Rattle.sa_flat.proofs.SpanLaws.{range_in}
use Rattle.sa_flat.proofs.StateLaws.{Naming, has, has_by, point, point_has}

-- each number that is taken is of its element's type
pub any_of_type : (ns : List Num) (tape rest : List ℤ) (zs : List ℤ) → any_numbers ns tape ≡ Gives zs rest → (i : ℕ) (num : Num) → slice_get ns i ≡ Some num → is_of num (get_or zs i (pos 0)) ≡ true
unfolding any_numbers
any_of_type [] tape rest zs e i num h = cc
any_of_type (n ∷ ns) [] rest zs e i num h = cc
any_of_type (n ∷ ns) (z ∷ tape) rest zs e i num h =
    elim (is_of n z) as (λ b. is_of n z ≡ b → (if b then then_value (any_numbers ns tape) (λ zs tape. Gives (z ∷ zs) tape) else Stops Blocked) ≡ Gives zs rest → is_of num (get_or zs i (pos 0)) ≡ true) [
      | true ↦ λ t e. more (λ u ys k i h. any_of_type ns tape u ys k i num h) t (any_numbers ns tape) refl e
      | false ↦ λ t e. cc
    ] refl e
  where
    Rest : Type 0
    Rest = (u : List ℤ) (ys : List ℤ) → any_numbers ns tape ≡ Gives ys u → (i : ℕ) → slice_get ns i ≡ Some num → is_of num (get_or ys i (pos 0)) ≡ true

    at : Rest → (ys : List ℤ) (u : List ℤ) → any_numbers ns tape ≡ Gives ys u → is_of n z ≡ true → (i : ℕ) → slice_get (n ∷ ns) i ≡ Some num → is_of num (get_or (z ∷ ys) i (pos 0)) ≡ true
    at ih ys u k t zero h = let same : n ≡ num = cc in subst (λ (n : Num). is_of n z ≡ true) same t
    at ih ys u k t (suc i) h = ih u ys k i h

    more : Rest → is_of n z ≡ true → (v : Value (List ℤ)) → any_numbers ns tape ≡ v → then_value v (λ zs tape. Gives (z ∷ zs) tape) ≡ Gives zs rest → is_of num (get_or zs i (pos 0)) ≡ true
    more ih t (Gives ys u) k e = let same : (z ∷ ys) ≡ zs = cc in subst (λ (zs : List ℤ). is_of num (get_or zs i (pos 0)) ≡ true) same (at ih ys u k t i h)
    more ih t (Stops end) k e = cc

module _ (x : Cells) (N : Naming x) (D : Domain) (L : Lawful x D) where
  -- the cells from k on are those of the variable's object: each of them names its elements alone, and no other cell names any
  pub record OwnCells (l : Layout) (k n : ℕ) (base : Place) : Type 0 where
    pub cell : (c : ℕ) → k ≤ c → c < k + n → L.IsCell c
    pub named : (c : ℕ) → k ≤ c → c < k + n → N.shown c ≡ true
    pub inside : (c : ℕ) (a : Place) → k ≤ c → c < k + n → N.names c a → same_var a base ≡ true
    pub alone : (c : ℕ) (a : Place) → N.names c a → same_var a base ≡ true → (k ≤ c) × (c < k + n)
    pub element : (c : ℕ) (a : Place) → N.names c a → same_var a base ≡ true → slice_get (nums l) (index_of l a.parts) ≡ Some (x.num c)

  module _ (p : Program) (here : Here) (v : ℕ) (k : ℕ) (store : Store) (kept : ℕ → ℤ) (zs : List ℤ) (clock : ℤ) where
    filled_in : (a : Place) → same_var a (place_of here v []) ≡ true → filled p here v zs store a ≡ get_or zs (index_of (layout_of p v) a.parts) (pos 0)
    filled_in a e = rw e refl

    filled_out : (a : Place) → same_var a (place_of here v []) ≡ false → filled p here v zs store a ≡ store a
    filled_out a e = rw e refl

    -- the numbers of the object's cells, and those of the others
    object_numbers : (n : ℕ) → OwnCells (layout_of p v) k n (place_of here v []) → (bt : ℕ → ℤ) → Pick x D L (has x N (filled p here v zs store) kept) bt → (c : ℕ) → k ≤ c → c < k + n →
        (a : Place) × N.names c a × (same_var a (place_of here v []) ≡ true) × (bt c ≡ get_or zs (index_of (layout_of p v) a.parts) (pos 0))
    unfolding has
    object_numbers n o bt q c a b =
        let s = subst (λ (t : Bool). has_by x N t (filled p here v zs store) kept c (bt c)) (o.named c a b) (q c) in
        let e = o.inside c s.0 a b s.1 in
        (s.0, s.1, e, sym s.2 ∙ filled_in s.0 e)

    -- a point before, alike but at the object's cells
    in_range : ℕ → ℕ → Bool
    in_range n c = nat_le k c && nat_lt c (k + n)

    back : ℕ → (ℕ → ℤ) → ℕ → ℤ
    back n bt c = if in_range n c then point x N store kept c else bt c

    back_alike : (n : ℕ) (bt : ℕ → ℤ) → Alike x D L clock k n (back n bt) bt
    unfolding back in_range
    back_alike n bt c o =
        elim (nat_le k c && nat_lt c (k + n)) as (λ b. (nat_le k c && nat_lt c (k + n)) ≡ b → bt c ≡ (if b then point x N store kept c else bt c)) [
          | true ↦ λ e. absurd (apart o e)
          | false ↦ λ e. refl
        ] refl
      where
        apart : ((c < k) ⊎ (k + n ≤ c)) → (nat_le k c && nat_lt c (k + n)) ≡ true → ⊥
        apart (inl a) e = grind (arith, nat_tests)
        apart (inr a) e = grind (arith, nat_tests)

    old_number : (n c : ℕ) (z : ℤ) → OwnCells (layout_of p v) k n (place_of here v []) → (nat_le k c && nat_lt c (k + n)) ≡ false → has x N (filled p here v zs store) kept c z → has x N store kept c z
    unfolding has
    old_number n c z o e h =
        elim (N.shown c) as (λ b. has_by x N b (filled p here v zs store) kept c z → has_by x N b store kept c z) [
          | true ↦ λ h. (h.0, h.1, sym (filled_out h.0 (other h.0 h.1 (same_var h.0 (place_of here v [])) refl)) ∙ h.2)
          | false ↦ λ h. h
        ] h
      where
        outside : (k ≤ c) × (c < k + n) → ⊥
        outside s = let a = s.0 in let b = s.1 in grind (arith, nat_tests)

        other : (a : Place) → N.names c a → (t : Bool) → same_var a (place_of here v []) ≡ t → t ≡ false
        other a m true q = absurd (outside (o.alone c a m q))
        other a m false q = refl

    back_pick : (n : ℕ) (bt : ℕ → ℤ) → OwnCells (layout_of p v) k n (place_of here v []) → Pick x D L (has x N (filled p here v zs store) kept) bt → Pick x D L (has x N store kept) (back n bt)
    unfolding back in_range
    back_pick n bt o q c =
        elim (nat_le k c && nat_lt c (k + n)) as (λ b. (nat_le k c && nat_lt c (k + n)) ≡ b → has x N store kept c (if b then point x N store kept c else bt c)) [
          | true ↦ λ e. point_has x N store kept c
          | false ↦ λ e. old_number n c (bt c) o e (q c)
        ] refl

    pub any_holds : (f : Frame) (n : ℕ) (env : D.Env) → OwnCells (layout_of p v) k n (place_of here v []) → ((i : ℕ) (num : Num) → slice_get (nums (layout_of p v)) i ≡ Some num → is_of num (get_or zs i (pos 0)) ≡ true) → Good x D L f env →
        Holds x D L (has x N store kept) clock env → AliveAnd (Holds x D L (has x N (filled p here v zs store) kept) clock) (any_from D x k n env)
    any_holds f n env o typed g h =
        alive_all x D L (has x N (filled p here v zs store) kept) (point x N (filled p here v zs store) kept) (point_has x N (filled p here v zs store) kept) (λ e at. D.Point e at clock) (any_from D x k n env)
        (λ bt q. any_new x D L clock f k n env (back n bt) bt (λ c a b. (o.cell c a b, within c a b bt q)) range_in g (back_alike n bt) (h (back n bt) (back_pick n bt o q)))
      where
        within : (c : ℕ) → k ≤ c → c < k + n → (bt : ℕ → ℤ) → Pick x D L (has x N (filled p here v zs store) kept) bt → Within (range_of (x.num c)) (bt c)
        within c a b bt q =
            let s = object_numbers n o bt q c a b in
            let t = is_of_from (x.num c) (get_or zs (index_of (layout_of p v) s.0.parts) (pos 0)) (typed (index_of (layout_of p v) s.0.parts) (x.num c) (o.element c s.0 s.1 s.2)) in
            subst (λ (z : ℤ). Within (range_of (x.num c)) z) (sym s.3) (record { above = t.low; below = t.high })

    -- the ends hold the numbers of the object's cells
    abbrev pub EndsHold : List Ends → Type 0
    EndsHold es = (bt : ℕ → ℤ) → ((c : ℕ) → k ≤ c → c < k + length es → (a : Place) × N.names c a × (same_var a (place_of here v []) ≡ true) × (bt c ≡ get_or zs (index_of (layout_of p v) a.parts) (pos 0))) → InEnds x D L clock k es bt

    pub items_hold : (f : Frame) (es : List Ends) (env : D.Env) → OwnCells (layout_of p v) k (length es) (place_of here v []) → AreEnds x D L k es → EndsHold es → Good x D L f env → Holds x D L (has x N store kept) clock env →
        AliveAnd (Holds x D L (has x N (filled p here v zs store) kept) clock) (items_from D x k es env)
    items_hold f es env o a i g h =
        alive_all x D L (has x N (filled p here v zs store) kept) (point x N (filled p here v zs store) kept) (point_has x N (filled p here v zs store) kept) (λ e at. D.Point e at clock) (items_from D x k es env)
        (λ bt q. items_new x D L clock f k es env (back (length es) bt) bt a (i bt (object_numbers (length es) o bt q)) g (back_alike (length es) bt) (h (back (length es) bt) (back_pick (length es) bt o q)))
