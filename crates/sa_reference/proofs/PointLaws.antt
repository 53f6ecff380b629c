-- Lists of spans, cell by cell: what changes at one cell, and what an assignment to some cells leaves.
use Rattle.std.proofs.lemmas.Bool.Decides.{nat_tests}
use Rattle.std.proofs.Common.{◌≡◌, ℕ, zero, suc, ◌+◌, ◌<◌, ℤ, pos, Bool, true, false, ◌&&◌, List, [], ◌∷◌, ◌++◌, refl, sym, ap, subst, ◌∙◌, arith, Option, Some, None, inl, inr, ◌⊎◌}
use Rattle.std.specs.Prelude.{if◌then◌else◌, get_or, IsTrue, ◌==◌, ◌||◌, slice_get, length}
use Rattle.sa_base.specs.declared.num.Num.{Num}
use Rattle.sa_base.specs.declared.pos.Pos.{Pos}
use Rattle.sa_interval.specs.Span.{Span, Within}
use Rattle.sa_interval.specs.Rows.{single, join_of}
use Rattle.sa_typed.specs.Cells.{Cell, one, all, of, covers_step, covers, names, is_root, is_starred, is_all}
use Rattle.sa_typed.specs.Cells as cell
use Rattle.sa_typed.specs.Evaluation.{Store}
use Rattle.sa_typed.specs.Executions.{same_pos, same_path, same_part, same_parts, same_var, same_place, strong_update}
use Rattle.sa_typed.specs.declared.shape.Part.{Part}
use Rattle.sa_typed.specs.declared.shape.Part.TheVariants.{At, Field}
use Rattle.sa_typed.specs.declared.program.Place.{Place}
use Rattle.sa_reference.specs.declared.reach.Reach.{Reach}
use Rattle.sa_operators.specs.Operators.{IsIn}
use Rattle.sa_reference.specs.Environments.{AllHold, put}
use Rattle.sa_reference.specs.Values.{cell_span, named_from, reaches}
use Rattle.sa_reference.specs.Assignments.{starred_at, starred_cell, weakly, assigned}
use Rattle.sa_reference.specs.Fair.{AreIn}
use Rattle.sa_reference.specs.Sound.{IsAmong}
use Rattle.sa_reference.proofs.SpanLaws.{and_left, and_right, both_true, join_left, join_right, join_in}

-- ---- places that are the same
number_is : (k i : ℕ) → (k == i) ≡ true → k ≡ i
number_is k i h = grind (arith, nat_tests)

pos_is : (p q : Pos) → same_pos p q ≡ true → p ≡ q
pos_is p q h =
    let a = number_is p.line q.line (and_left (p.line == q.line) (p.col == q.col) h) in
    let b = number_is p.col q.col (and_right (p.line == q.line) (p.col == q.col) h) in
    ap (λ (x : ℕ). record { line = x; col = p.col }) a ∙ ap (λ (y : ℕ). record { line = q.line; col = y }) b

path_is : (ps qs : List Pos) → same_path ps qs ≡ true → ps ≡ qs
path_is [] [] h = refl
path_is [] (q ∷ qs) h = cc
path_is (p ∷ ps) [] h = cc
path_is (p ∷ ps) (q ∷ qs) h =
    let a = pos_is p q (and_left (same_pos p q) (same_path ps qs) h) in
    let b = path_is ps qs (and_right (same_pos p q) (same_path ps qs) h) in
    cc

pub part_is : (p q : Part) → same_part p q ≡ true → p ≡ q
part_is (At i) (At j) h = ap At (number_is i j h)
part_is (At i) (Field g) h = cc
part_is (Field f) (At j) h = cc
part_is (Field f) (Field g) h = ap Field (number_is f g h)

pub parts_are : (ps qs : List Part) → same_parts ps qs ≡ true → ps ≡ qs
unfolding same_parts
parts_are [] [] h = refl
parts_are [] (q ∷ qs) h = cc
parts_are (p ∷ ps) [] h = cc
parts_are (p ∷ ps) (q ∷ qs) h =
    let a = part_is p q (and_left (same_part p q) (same_parts ps qs) h) in
    let b = parts_are ps qs (and_right (same_part p q) (same_parts ps qs) h) in
    cc

pub place_is : (a b : Place) → same_place a b ≡ true → a ≡ b
place_is a b h =
    let v = and_left (same_var a b) (same_parts a.parts b.parts) h in
    let x = path_is a.path b.path (and_left (same_path a.path b.path) (a.var == b.var) v) in
    let y = number_is a.var b.var (and_right (same_path a.path b.path) (a.var == b.var) v) in
    let z = parts_are a.parts b.parts (and_right (same_var a b) (same_parts a.parts b.parts) h) in
    ap (λ (p : List Pos). record { path = p; var = a.var; parts = a.parts }) x ∙ ap (λ (v : ℕ). record { path = b.path; var = v; parts = a.parts }) y
    ∙ ap (λ (ps : List Part). record { path = b.path; var = b.var; parts = ps }) z

-- ---- a cell for one element stands for one place
or_left : (a b : Bool) → (a || b) ≡ false → a ≡ false
or_left true b h = cc
or_left false b h = refl

or_right : (a b : Bool) → (a || b) ≡ false → b ≡ false
or_right true b h = cc
or_right false b h = h

pub one_part : (s : cell.Step) (p q : Part) → is_all s ≡ false → covers_step s p ≡ true → covers_step s q ≡ true → same_part p q ≡ true
one_part (one k) (At i) (At j) n h g = let a = number_is k i h in let b = number_is k j g in let e : i ≡ j = sym a ∙ b in grind (arith, nat_tests)
one_part (one k) (At i) (Field f) n h g = cc
one_part (one k) (Field f) q n h g = cc
one_part (all m) p q n h g = cc
one_part (of k) (At i) q n h g = cc
one_part (of k) (Field f) (At j) n h g = cc
one_part (of k) (Field f) (Field i) n h g = let a = number_is k f h in let b = number_is k i g in let e : f ≡ i = sym a ∙ b in grind (arith, nat_tests)

pub one_place : (ss : List cell.Step) (ps qs : List Part) → is_starred ss ≡ false → covers ss ps ≡ true → covers ss qs ≡ true → same_parts ps qs ≡ true
unfolding is_starred covers same_parts
one_place [] [] [] n h g = refl
one_place [] [] (q ∷ qs) n h g = cc
one_place [] (p ∷ ps) qs n h g = cc
one_place (s ∷ ss) [] qs n h g = cc
one_place (s ∷ ss) (p ∷ ps) [] n h g = cc
one_place (s ∷ ss) (p ∷ ps) (q ∷ qs) n h g =
    both_true (same_part p q) (same_parts ps qs) (one_part s p q (or_left (is_all s) (is_starred ss) n) (and_left (covers_step s p) (covers ss ps) h) (and_left (covers_step s q) (covers ss qs) g))
    (one_place ss ps qs (or_right (is_all s) (is_starred ss) n) (and_right (covers_step s p) (covers ss ps) h) (and_right (covers_step s q) (covers ss qs) g))

root_same : (ps qs : List Pos) → is_root ps ≡ true → is_root qs ≡ true → same_path ps qs ≡ true
root_same [] [] h g = refl
root_same [] (q ∷ qs) h g = cc
root_same (p ∷ ps) qs h g = cc

pub same_of_one : (c : Cell) (a b : Place) → is_starred c.steps ≡ false → names c a ≡ true → names c b ≡ true → same_place a b ≡ true
same_of_one c a b n h g =
    let ha = and_right (is_root a.path) (c.var == a.var && covers c.steps a.parts) h in
    let gb = and_right (is_root b.path) (c.var == b.var && covers c.steps b.parts) g in
    let x = number_is c.var a.var (and_left (c.var == a.var) (covers c.steps a.parts) ha) in
    let y = number_is c.var b.var (and_left (c.var == b.var) (covers c.steps b.parts) gb) in
    let e : a.var ≡ b.var = sym x ∙ y in
    let v : (a.var == b.var) ≡ true = grind (arith, nat_tests) in
    both_true (same_var a b) (same_parts a.parts b.parts)
    (both_true (same_path a.path b.path) (a.var == b.var) (root_same a.path b.path (and_left (is_root a.path) (c.var == a.var && covers c.steps a.parts) h)
    (and_left (is_root b.path) (c.var == b.var && covers c.steps b.parts) g)) v)
    (one_place c.steps a.parts b.parts n (and_right (c.var == a.var) (covers c.steps a.parts) ha) (and_right (c.var == b.var) (covers c.steps b.parts) gb))

-- ---- lists, cell by cell
pub record Points (P : Cell → Span → Type 0) (cs : List Cell) (ss : List Span) : Type 0 where
  pub long : length ss ≡ length cs
  pub at : (j : ℕ) (c : Cell) → slice_get cs j ≡ Some c → P c (cell_span ss j)

-- what an environment says of a store at a cell
abbrev pub HoldsOf : Store → Cell → Span → Type 0
HoldsOf store c s = (q : Place) → names c q ≡ true → Within s (store q)

abbrev pub InNum : Cell → Span → Type 0
InNum c s = IsIn c.num s

points_next : (P : Cell → Span → Type 0) (c : Cell) (cs : List Cell) (s : Span) (ss : List Span) → P c s → Points P cs ss → Points P (c ∷ cs) (s ∷ ss)
points_next P c cs s ss h k = record { long = ap suc k.long; at = at }
  where
    at : (j : ℕ) (d : Cell) → slice_get (c ∷ cs) j ≡ Some d → P d (cell_span (s ∷ ss) j)
    at zero d e = let is : c ≡ d = cc in subst (λ (d : Cell). P d s) is h
    at (suc j) d e = k.at j d e

points_tail : (P : Cell → Span → Type 0) (c : Cell) (cs : List Cell) (s : Span) (ss : List Span) → Points P (c ∷ cs) (s ∷ ss) → Points P cs ss
points_tail P c cs s ss h = record { long = (let e = h.long in omega arith); at = λ j d e. h.at (suc j) d e }

pub to_held : (cs : List Cell) (ss : List Span) (store : Store) → AllHold cs ss store → Points (HoldsOf store) cs ss
unfolding AllHold
to_held [] [] store h = record { long = refl; at = λ j c e. cc }
to_held [] (s ∷ ss) store h = absurd h
to_held (c ∷ cs) [] store h = absurd h
to_held (c ∷ cs) (s ∷ ss) store h = points_next (HoldsOf store) c cs s ss h.0 (to_held cs ss store h.1)

pub from_held : (cs : List Cell) (ss : List Span) (store : Store) → Points (HoldsOf store) cs ss → AllHold cs ss store
unfolding AllHold
from_held [] [] store h = tt
from_held [] (s ∷ ss) store h = let e = h.long in absurd (omega arith)
from_held (c ∷ cs) [] store h = let e = h.long in absurd (omega arith)
from_held (c ∷ cs) (s ∷ ss) store h = (h.at 0 c refl, from_held cs ss store (points_tail (HoldsOf store) c cs s ss h))

pub to_in : (cs : List Cell) (ss : List Span) → AreIn cs ss → Points InNum cs ss
unfolding AreIn
to_in [] [] h = record { long = refl; at = λ j c e. cc }
to_in [] (s ∷ ss) h = absurd h
to_in (c ∷ cs) [] h = absurd h
to_in (c ∷ cs) (s ∷ ss) h = points_next InNum c cs s ss h.0 (to_in cs ss h.1)

pub from_in : (cs : List Cell) (ss : List Span) → Points InNum cs ss → AreIn cs ss
unfolding AreIn
from_in [] [] h = tt
from_in [] (s ∷ ss) h = let e = h.long in absurd (omega arith)
from_in (c ∷ cs) [] h = let e = h.long in absurd (omega arith)
from_in (c ∷ cs) (s ∷ ss) h = (h.at 0 c refl, from_in cs ss (points_tail InNum c cs s ss h))

-- ---- one cell changed
pub put_long : (k : ℕ) (s : Span) (ss : List Span) → length (put k s ss) ≡ length ss
put_long k s [] = refl
put_long zero s (t ∷ ss) = refl
put_long (suc k) s (t ∷ ss) = ap suc (put_long k s ss)

pub put_there : (k : ℕ) (s : Span) (ss : List Span) → k < length ss → cell_span (put k s ss) k ≡ s
put_there k s [] h = absurd (omega (arith, h))
put_there zero s (t ∷ ss) h = refl
put_there (suc k) s (t ∷ ss) h = put_there k s ss (omega (arith, h))

pub put_else : (j k : ℕ) (s : Span) (ss : List Span) → (j == k) ≡ false → cell_span (put k s ss) j ≡ cell_span ss j
put_else j k s [] h = refl
put_else zero zero s (t ∷ ss) h = cc
put_else zero (suc k) s (t ∷ ss) h = refl
put_else (suc j) zero s (t ∷ ss) h = refl
put_else (suc j) (suc k) s (t ∷ ss) h = put_else j k s ss (let e = h in grind (arith, nat_tests))

-- a property of the span at j after a change at k
put_has : (P : Span → Type 0) (j k : ℕ) (s : Span) (ss : List Span) → j < length ss → ((j == k) ≡ true → P s) → ((j == k) ≡ false → P (cell_span ss j)) → P (cell_span (put k s ss) j)
put_has P j k s ss h new old =
    elim (j == k) as (λ b. (j == k) ≡ b → P (cell_span (put k s ss) j)) [
      | true ↦ λ e. subst (λ (i : ℕ). P (cell_span (put i s ss) j)) (number_is j k e) (subst P (sym (put_there j s ss h)) (new e))
      | false ↦ λ e. subst P (sym (put_else j k s ss e)) (old e)
    ] refl

-- ---- weak assignment
pub weakly_long : (ks : List ℕ) (s : Span) (ss : List Span) → length (weakly ks s ss) ≡ length ss
unfolding weakly
weakly_long [] s ss = refl
weakly_long (k ∷ ks) s ss = weakly_long ks s (put k (join_of (cell_span ss k) s) ss) ∙ put_long k (join_of (cell_span ss k) s) ss

-- what a cell holds it holds afterwards
pub weakly_keeps : (ks : List ℕ) (s : Span) (ss : List Span) (j : ℕ) (z : ℤ) → j < length ss → Within (cell_span ss j) z → Within (cell_span (weakly ks s ss) j) z
unfolding weakly
weakly_keeps [] s ss j z l h = h
weakly_keeps (k ∷ ks) s ss j z l h =
    weakly_keeps ks s (put k (join_of (cell_span ss k) s) ss) j z (let e = put_long k (join_of (cell_span ss k) s) ss in omega (arith, l, e))
    (put_has (λ t. Within t z) j k (join_of (cell_span ss k) s) ss l (λ e. join_left (cell_span ss k) s z (subst (λ (i : ℕ). Within (cell_span ss i) z) (number_is j k e) h)) (λ e. h))

-- and each cell that is assigned holds what is
pub weakly_adds : (ks : List ℕ) (s : Span) (ss : List Span) (j : ℕ) (z : ℤ) → j < length ss → IsAmong j ks → Within s z → Within (cell_span (weakly ks s ss) j) z
unfolding weakly
weakly_adds [] s ss j z l m h = absurd m
weakly_adds (k ∷ ks) s ss j z l (inl e) h =
    let long = put_long k (join_of (cell_span ss k) s) ss in
    weakly_keeps ks s (put k (join_of (cell_span ss k) s) ss) j z (omega (arith, l, long))
    (subst (λ (i : ℕ). Within (cell_span (put k (join_of (cell_span ss k) s) ss) i) z) (sym e)
    (subst (λ (t : Span). Within t z) (sym (put_there k (join_of (cell_span ss k) s) ss (subst (λ (i : ℕ). i < length ss) e l))) (join_right (cell_span ss k) s z h)))
weakly_adds (k ∷ ks) s ss j z l (inr m) h =
    let long = put_long k (join_of (cell_span ss k) s) ss in weakly_adds ks s (put k (join_of (cell_span ss k) s) ss) j z (omega (arith, l, long)) m h

-- the cells that are assigned are of this type
abbrev pub AreOf : Num → List Cell → List ℕ → Type 0
AreOf num cs ks = (k : ℕ) → IsAmong k ks → (c : Cell) → slice_get cs k ≡ Some c → c.num ≡ num

pub put_in : (cs : List Cell) (k : ℕ) (s : Span) (ss : List Span) → ((c : Cell) → slice_get cs k ≡ Some c → IsIn c.num s) → Points InNum cs ss → Points InNum cs (put k s ss)
put_in cs k s ss h p = record { long = put_long k s ss ∙ p.long; at = at }
  where
    inside : (j : ℕ) (c : Cell) → slice_get cs j ≡ Some c → j < length ss
    inside j c e = let l = p.long in let i = get_inside cs j c e in omega (arith, l, i)
      where
        get_inside : (cs : List Cell) (j : ℕ) (c : Cell) → slice_get cs j ≡ Some c → j < length cs
        get_inside [] j c e = cc
        get_inside (d ∷ cs) zero c e = omega arith
        get_inside (d ∷ cs) (suc j) c e = let i = get_inside cs j c e in omega (arith, i)

    at : (j : ℕ) (c : Cell) → slice_get cs j ≡ Some c → IsIn c.num (cell_span (put k s ss) j)
    at j c e = put_has (λ t. IsIn c.num t) j k s ss (inside j c e) (λ f. h c (subst (λ (i : ℕ). slice_get cs i ≡ Some c) (number_is j k f) e)) (λ f. p.at j c e)

pub weakly_in : (cs : List Cell) (num : Num) (ks : List ℕ) (s : Span) (ss : List Span) → AreOf num cs ks → IsIn num s → Points InNum cs ss → Points InNum cs (weakly ks s ss)
unfolding weakly
weakly_in cs num [] s ss a h p = p
weakly_in cs num (k ∷ ks) s ss a h p =
    weakly_in cs num ks s (put k (join_of (cell_span ss k) s) ss) (λ j m c e. a j (inr m) c e) h
    (put_in cs k (join_of (cell_span ss k) s) ss (λ c e. join_in c.num (cell_span ss k) s (p.at k c e) (subst (λ (m : Num). IsIn m s) (sym (a k (inl refl) c e)) h)) p)

-- ---- assignment
pub assigned_in : (cs : List Cell) (num : Num) (ks : List ℕ) (s : Span) (ss : List Span) → AreOf num cs ks → IsIn num s → Points InNum cs ss → Points InNum cs (assigned cs ks s ss)
unfolding assigned
assigned_in cs num [] s ss a h p = weakly_in cs num [] s ss a h p
assigned_in cs num (k ∷ []) s ss a h p =
    elim (starred_at cs k) as (λ b. Points InNum cs (if b then weakly (k ∷ []) s ss else put k s ss)) [
      | true ↦ weakly_in cs num (k ∷ []) s ss a h p
      | false ↦ put_in cs k s ss (λ c e. subst (λ (m : Num). IsIn m s) (sym (a k (inl refl) c e)) h) p
    ]
assigned_in cs num (k ∷ j ∷ ks) s ss a h p = weakly_in cs num (k ∷ j ∷ ks) s ss a h p

-- the cells that stand for a place are among those that are assigned, and there is one
pub record NamesAll (cs : List Cell) (a : Place) (ks : List ℕ) : Type 0 where
  pub each : (j : ℕ) (c : Cell) → slice_get cs j ≡ Some c → names c a ≡ true → IsAmong j ks
  pub some : (j : ℕ) × (c : Cell) × (slice_get cs j ≡ Some c) × (names c a ≡ true)

module _ (cs : List Cell) (a : Place) (z : ℤ) (s : Span) (inside : Within s z) (store : Store) (ss : List Span) (h : Points (HoldsOf store) cs ss) where
  within_length : (j : ℕ) (c : Cell) → slice_get cs j ≡ Some c → j < length ss
  within_length j c e = let l = h.long in let i = get_inside cs j c e in omega (arith, l, i)
    where
      get_inside : (cs : List Cell) (j : ℕ) (c : Cell) → slice_get cs j ≡ Some c → j < length cs
      get_inside [] j c e = cc
      get_inside (d ∷ cs) zero c e = omega arith
      get_inside (d ∷ cs) (suc j) c e = let i = get_inside cs j c e in omega (arith, i)

  -- what a cell has to hold at a place after the change
  after_at : (t : Span) (q : Place) → (same_place q a ≡ true → Within t z) → (same_place q a ≡ false → Within t (store q)) → Within t (strong_update a z store q)
  after_at t q new old =
      elim (same_place q a) as (λ b. same_place q a ≡ b → Within t (if b then z else store q)) [ true ↦ new | false ↦ old ] refl

  names_same : (c : Cell) (q : Place) → same_place q a ≡ true → names c q ≡ true → names c a ≡ true
  names_same c q e n = subst (λ (r : Place). names c r ≡ true) (place_is q a e) n

  weakly_holds : (ks : List ℕ) → NamesAll cs a ks → Points (HoldsOf (strong_update a z store)) cs (weakly ks s ss)
  weakly_holds ks n = record {
    long = weakly_long ks s ss ∙ h.long;
    at = λ j c e q m. after_at (cell_span (weakly ks s ss) j) q (λ f. weakly_adds ks s ss j z (within_length j c e) (n.each j c e (names_same c q f m)) inside)
        (λ f. weakly_keeps ks s ss j (store q) (within_length j c e) (h.at j c e q m));
  }

  put_holds : (k : ℕ) → starred_at cs k ≡ false → NamesAll cs a (k ∷ []) → Points (HoldsOf (strong_update a z store)) cs (put k s ss)
  put_holds k u n = record { long = put_long k s ss ∙ h.long; at = at }
    where
      only : (j : ℕ) → IsAmong j (k ∷ []) → j ≡ k
      only j (inl e) = e
      only j (inr m) = absurd m

      at : (j : ℕ) (c : Cell) → slice_get cs j ≡ Some c → (q : Place) → names c q ≡ true → Within (cell_span (put k s ss) j) (strong_update a z store q)
      at j c e q m =
          put_has (λ t. Within t (strong_update a z store q)) j k s ss (within_length j c e)
          (λ f. after_at s q (λ _. inside) (λ g. absurd (apart (number_is j k f) g)))
          (λ f. after_at (cell_span ss j) q (λ g. absurd (other (only j (n.each j c e (names_same c q g m))) f)) (λ g. h.at j c e q m))
        where
          other : j ≡ k → (j == k) ≡ false → ⊥
          other e f = let t : (j == k) ≡ true = grind (arith, nat_tests) in cc

          -- the cell stands for the place that is assigned, and for no other
          apart : j ≡ k → same_place q a ≡ false → ⊥
          apart f g =
              let x = n.some in
              let first : x.0 ≡ k = only x.0 (n.each x.0 x.1 x.2 x.3) in
              let same : Some x.1 ≡ Some c = sym (subst (λ (i : ℕ). slice_get cs i ≡ Some x.1) (first ∙ sym f) x.2) ∙ e in
              let one : is_starred c.steps ≡ false = (let v : starred_at cs j ≡ false = subst (λ (i : ℕ). starred_at cs i ≡ false) (sym f) u in subst (λ (o : Option Cell). starred_cell o ≡ false) e v) in
              let is : names c a ≡ true = (let w : x.1 ≡ c = cc in subst (λ (d : Cell). names d a ≡ true) w x.3) in
              let t = same_of_one c q a one m is in cc

  pub assigned_holds : (ks : List ℕ) → NamesAll cs a ks → Points (HoldsOf (strong_update a z store)) cs (assigned cs ks s ss)
  unfolding assigned
  assigned_holds [] n = weakly_holds [] n
  assigned_holds (k ∷ []) n =
      elim (starred_at cs k) as (λ b. starred_at cs k ≡ b → Points (HoldsOf (strong_update a z store)) cs (if b then weakly (k ∷ []) s ss else put k s ss)) [
        | true ↦ λ e. weakly_holds (k ∷ []) n
        | false ↦ λ e. put_holds k e n
      ] refl
  assigned_holds (k ∷ j ∷ ks) n = weakly_holds (k ∷ j ∷ ks) n
