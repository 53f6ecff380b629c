-- The cells of a program are those before a variable's, those of the variable, and those after them.
use Rattle.std.proofs.Common.{◌≡◌, ℕ, zero, suc, ◌+◌, ◌-◌, ◌<◌, ◌≤◌, Bool, true, false, cond, List, [], ◌∷◌, ◌++◌, length, take, drop, refl, sym, ap, subst, ◌∙◌, append_assoc, append-nil, add-one, add-zero, zero-add, length-append, arith}
use Rattle.std.specs.Prelude.{◌==◌, if◌then◌else◌, Option, Some, None, slice_get}
use Rattle.std.proofs.lemmas.Bool.Decides.{nat_tests}
use Rattle.std.proofs.lemmas.Option.{slice_get_within}
use Rattle.sa_typed.specs.Layouts.{layout_of}
use Rattle.sa_typed.specs.Cells.{Cell, Inner, inner_cells, cells_of, cells_at, cells, is_global, is_static, is_local}
use Rattle.sa_typed.specs.declared.program.Home.{Home}
use Rattle.sa_typed.specs.declared.program.Home.TheVariants as home
use Rattle.sa_typed.specs.declared.program.Var.{Var}
use Rattle.sa_typed.specs.declared.program.Program.{Program}
use Rattle.sa_reference.specs.declared.reach.Reach.{Reach}
use Rattle.sa_reference.specs.Values.{reaches, named_from, named}
use Rattle.sa_cells.specs.Sizes.{size, first_cell}
use Rattle.sa_cells.specs.Reached.{reached}
use Rattle.sa_cells.proofs.ReachLemmas.{named-own, chosen, chosen-reached}

-- no cell is one of the variable
abbrev pub NoCell : ℕ → List Cell → Type 0
NoCell v [] = Unit {0}
NoCell v (c ∷ cs) = ((c.var == v) ≡ false) × NoCell v cs

-- the cells before and behind those of a variable of which the first has that number
pub record IsSplit (p : Program) (v first : ℕ) : Type 0 where
  pub front : List Cell
  pub back : List Cell
  pub whole : cells p ≡ front ++ (cells_of v (inner_cells (layout_of p v)) ++ back)
  pub no_front : NoCell v front
  pub no_back : NoCell v back
  pub stands : length front ≡ first

no-append : (v : ℕ) (xs ys : List Cell) → NoCell v xs → NoCell v ys → NoCell v (xs ++ ys)
no-append v [] ys h k = k
no-append v (x ∷ xs) ys h k = (h.0, no-append v xs ys h.1 k)

no-own : (v k : ℕ) (cs : List Inner) → (k == v) ≡ false → NoCell v (cells_of k cs)
unfolding cells_of
no-own v k [] h = tt
no-own v k (c ∷ cs) h = (h, no-own v k cs h)

pub at-append : (p : Program) (sort : Home → Bool) (j : ℕ) (xs ys : List Var) → cells_at p sort j (xs ++ ys) ≡ cells_at p sort j xs ++ cells_at p sort (j + length xs) ys
unfolding cells_at
at-append p sort j [] ys = ap (λ (k : ℕ). cells_at p sort k ys) (sym (add-zero j))
at-append p sort j (x ∷ xs) ys =
    let e : (j + 1) + length xs ≡ j + suc (length xs) = omega arith in
    let h : cells_at p sort (j + 1) (xs ++ ys) ≡ cells_at p sort (j + 1) xs ++ cells_at p sort (j + suc (length xs)) ys
    = at-append p sort (j + 1) xs ys ∙ ap (λ (k : ℕ). cells_at p sort (j + 1) xs ++ cells_at p sort k ys) e in
    let own = cells_of j (inner_cells (layout_of p j)) in
    elim (sort x.home)
    as (λ b. (if b then own ++ cells_at p sort (j + 1) (xs ++ ys) else cells_at p sort (j + 1) (xs ++ ys))
    ≡ (if b then own ++ cells_at p sort (j + 1) xs else cells_at p sort (j + 1) xs) ++ cells_at p sort (j + suc (length xs)) ys) [
      | true ↦ ap (λ (l : List Cell). own ++ l) h ∙ sym (append_assoc own (cells_at p sort (j + 1) xs) (cells_at p sort (j + suc (length xs)) ys))
      | false ↦ h
    ]

-- ---- variables before, behind and of another sort
no-after : (p : Program) (sort : Home → Bool) (v j : ℕ) (vs : List Var) → v < j → NoCell v (cells_at p sort j vs)
unfolding cells_at
no-after p sort v j [] h = tt
no-after p sort v j (x ∷ xs) h =
    let rest = no-after p sort v (j + 1) xs (omega arith) in
    let e : (j == v) ≡ false = grind (arith, nat_tests) in
    elim (sort x.home) as (λ b. NoCell v (if b then cells_of j (inner_cells (layout_of p j)) ++ cells_at p sort (j + 1) xs else cells_at p sort (j + 1) xs)) [
      | true ↦ no-append v (cells_of j (inner_cells (layout_of p j))) (cells_at p sort (j + 1) xs) (no-own v j (inner_cells (layout_of p j)) e) rest
      | false ↦ rest
    ]

pub no-past : (p : Program) (sort : Home → Bool) (v j : ℕ) (vs : List Var) → j + length vs ≤ v → NoCell v (cells_at p sort j vs)
unfolding cells_at
no-past p sort v j [] h = tt
no-past p sort v j (x ∷ xs) h =
    let rest = no-past p sort v (j + 1) xs (omega arith) in
    let e : (j == v) ≡ false = grind (arith, nat_tests) in
    elim (sort x.home) as (λ b. NoCell v (if b then cells_of j (inner_cells (layout_of p j)) ++ cells_at p sort (j + 1) xs else cells_at p sort (j + 1) xs)) [
      | true ↦ no-append v (cells_of j (inner_cells (layout_of p j))) (cells_at p sort (j + 1) xs) (no-own v j (inner_cells (layout_of p j)) e) rest
      | false ↦ rest
    ]

-- a list at one of its items
pub parted : {X : Type 0} (xs : List X) (i : ℕ) (x : X) → slice_get xs i ≡ Some x → xs ≡ take i xs ++ x ∷ drop (suc i) xs
parted [] i x h = absurd cc
parted (y ∷ ys) zero x h = let e : y ≡ x = cc in ap (λ z. z ∷ ys) e
parted (y ∷ ys) (suc i) x h = ap (λ l. y ∷ l) (parted ys i x h)

pub length-taken : {X : Type 0} (xs : List X) (i : ℕ) → i < length xs → length (take i xs) ≡ i
length-taken xs zero h = refl
length-taken [] (suc i) h = absurd (omega arith)
length-taken (x ∷ xs) (suc i) h = ap suc (length-taken xs i (omega arith))

module _ (p : Program) (sort : Home → Bool) (v : ℕ) (x : Var) where
  front_at : List Cell
  front_at = cells_at p sort 0 (take v p.vars)

  back_at : List Cell
  back_at = cells_at p sort (v + 1) (drop (suc v) p.vars)

  section : slice_get p.vars v ≡ Some x → cells_at p sort 0 p.vars ≡ front_at ++ (if sort x.home then cells_of v (inner_cells (layout_of p v)) ++ back_at else back_at)
  unfolding cells_at front_at back_at
  section h =
      let long : 0 + length (take v p.vars) ≡ v = zero-add (length (take v p.vars)) ∙ length-taken p.vars v (slice_get_within p.vars v x h) in
      ap (λ (l : List Var). cells_at p sort 0 l) (parted p.vars v x h) ∙ at-append p sort 0 (take v p.vars) (x ∷ drop (suc v) p.vars)
      ∙ ap (λ (k : ℕ). cells_at p sort 0 (take v p.vars) ++ cells_at p sort k (x ∷ drop (suc v) p.vars)) long

  no-front : slice_get p.vars v ≡ Some x → NoCell v front_at
  unfolding front_at
  no-front h =
      let long : length (take v p.vars) ≡ v = length-taken p.vars v (slice_get_within p.vars v x h) in
      no-past p sort v 0 (take v p.vars) (omega (arith, long))

  no-back : NoCell v back_at
  unfolding back_at
  no-back = no-after p sort v (v + 1) (drop (suc v) p.vars) (omega arith)

  no-other : slice_get p.vars v ≡ Some x → sort x.home ≡ false → NoCell v (cells_at p sort 0 p.vars)
  no-other h k =
      let e : cells_at p sort 0 p.vars ≡ front_at ++ back_at
      = section h ∙ ap (λ (b : Bool). front_at ++ (if b then cells_of v (inner_cells (layout_of p v)) ++ back_at else back_at)) k in
      subst (λ (cs : List Cell). NoCell v cs) (sym e) (no-append v front_at back_at (no-front h) no-back)

  within : slice_get p.vars v ≡ Some x → sort x.home ≡ true → cells_at p sort 0 p.vars ≡ front_at ++ (cells_of v (inner_cells (layout_of p v)) ++ back_at)
  within h k = section h ∙ ap (λ (b : Bool). front_at ++ (if b then cells_of v (inner_cells (layout_of p v)) ++ back_at else back_at)) k

regroup : {X : Type 0} (a b c d : List X) → (a ++ (b ++ c)) ++ d ≡ a ++ (b ++ (c ++ d))
regroup a b c d = append_assoc a (b ++ c) d ∙ ap (λ l. a ++ l) (append_assoc b c d)

pub split : (p : Program) (v : ℕ) (x : Var) → slice_get p.vars v ≡ Some x → IsSplit p v (first_cell p v x.home)
unfolding cells first_cell front_at
split p v x h = at-home x.home refl
  where
    own : List Cell
    own = cells_of v (inner_cells (layout_of p v))

    globals : List Cell
    globals = cells_at p is_global 0 p.vars

    statics : List Cell
    statics = cells_at p is_static 0 p.vars

    locals : List Cell
    locals = cells_at p is_local 0 p.vars

    at-home : (q : Home) → x.home ≡ q → IsSplit p v (first_cell p v q)
    at-home home.Global e = record {
      front = front_at p is_global v x;
      back = back_at p is_global v x ++ (statics ++ locals);
      whole = ap (λ (l : List Cell). l ++ (statics ++ locals)) (within p is_global v x h (ap is_global e)) ∙ regroup (front_at p is_global v x) own (back_at p is_global v x) (statics ++ locals);
      no_front = no-front p is_global v x h;
      no_back = no-append v (back_at p is_global v x) (statics ++ locals) (no-back p is_global v x) (no-append v statics locals (no-other p is_static v x h (ap is_static e)) (no-other p is_local v x h (ap is_local e)));
      stands = refl;
    }
    at-home home.Static e = record {
      front = globals ++ front_at p is_static v x;
      back = back_at p is_static v x ++ locals;
      whole = ap (λ (l : List Cell). globals ++ (l ++ locals)) (within p is_static v x h (ap is_static e))
          ∙ ap (λ (l : List Cell). globals ++ l) (regroup (front_at p is_static v x) own (back_at p is_static v x) locals)
          ∙ sym (append_assoc globals (front_at p is_static v x) (own ++ (back_at p is_static v x ++ locals)));
      no_front = no-append v globals (front_at p is_static v x) (no-other p is_global v x h (ap is_global e)) (no-front p is_static v x h);
      no_back = no-append v (back_at p is_static v x) locals (no-back p is_static v x) (no-other p is_local v x h (ap is_local e));
      stands = length-append globals (front_at p is_static v x);
    }
    at-home (home.Local f) e = record {
      front = globals ++ (statics ++ front_at p is_local v x);
      back = back_at p is_local v x;
      whole = ap (λ (l : List Cell). globals ++ (statics ++ l)) (within p is_local v x h (ap is_local e))
          ∙ ap (λ (l : List Cell). globals ++ l) (sym (append_assoc statics (front_at p is_local v x) (own ++ back_at p is_local v x)))
          ∙ sym (append_assoc globals (statics ++ front_at p is_local v x) (own ++ back_at p is_local v x));
      no_front = no-append v globals (statics ++ front_at p is_local v x) (no-other p is_global v x h (ap is_global e))
          (no-append v statics (front_at p is_local v x) (no-other p is_static v x h (ap is_static e)) (no-front p is_local v x h));
      no_back = no-back p is_local v x;
      stands = length-append globals (statics ++ front_at p is_local v x) ∙ ap (λ (k : ℕ). length globals + k) (length-append statics (front_at p is_local v x));
    }

-- ---- named cells
named-append : (k : ℕ) (xs ys : List Cell) (v : ℕ) (rs : List Reach) → named_from k (xs ++ ys) v rs ≡ named_from k xs v rs ++ named_from (k + length xs) ys v rs
unfolding named_from
named-append k [] ys v rs = ap (λ (j : ℕ). named_from j ys v rs) (sym (add-zero k))
named-append k (x ∷ xs) ys v rs = rw (named-append (k + 1) xs ys v rs) (grind (arith, next))
  where
    next : (k + 1) + length xs ≡ k + suc (length xs)
    next = omega arith

named-no : (k : ℕ) (cs : List Cell) (v : ℕ) (rs : List Reach) → NoCell v cs → named_from k cs v rs ≡ []
unfolding named_from
named-no k [] v rs h = refl
named-no k (c ∷ cs) v rs h = rw (h.0, named-no (k + 1) cs v rs h.1) refl

pub named-split : (p : Program) (v first : ℕ) (rs : List Reach) → IsSplit p v first → named p v rs ≡ reached rs (layout_of p v) (first ∷ [])
unfolding named
named-split p v first rs s =
    let own = cells_of v (inner_cells (layout_of p v)) in
    let at : 0 + length s.front ≡ first = zero-add (length s.front) ∙ s.stands in
    ap (λ (cs : List Cell). named_from 0 cs v rs) s.whole
    ∙ named-append 0 s.front (own ++ s.back) v rs
    ∙ ap (λ (l : List ℕ). l ++ named_from (0 + length s.front) (own ++ s.back) v rs) (named-no 0 s.front v rs s.no_front)
    ∙ ap (λ (k : ℕ). named_from k (own ++ s.back) v rs) at
    ∙ named-append first own s.back v rs
    ∙ ap (λ (l : List ℕ). named_from first own v rs ++ l) (named-no (first + length own) s.back v rs s.no_back)
    ∙ ap (λ (l : List ℕ). l ++ []) (named-own first v (inner_cells (layout_of p v)) rs)
    ∙ chosen-reached rs (layout_of p v) (first ∷ [])

pub no-cell : (p : Program) (v : ℕ) → length p.vars ≤ v → NoCell v (cells p)
unfolding cells
no-cell p v h =
    no-append v (cells_at p is_global 0 p.vars) (cells_at p is_static 0 p.vars ++ cells_at p is_local 0 p.vars) (no-past p is_global v 0 p.vars (omega arith))
    (no-append v (cells_at p is_static 0 p.vars) (cells_at p is_local 0 p.vars) (no-past p is_static v 0 p.vars (omega arith)) (no-past p is_local v 0 p.vars (omega arith)))

pub named-missing : (p : Program) (v : ℕ) (rs : List Reach) → length p.vars ≤ v → named p v rs ≡ []
unfolding named
named-missing p v rs h = named-no 0 (cells p) v rs (no-cell p v h)
