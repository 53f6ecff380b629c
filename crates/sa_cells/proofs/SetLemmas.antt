-- A variable's cells set together.
use Rattle.std.proofs.Common.{◌≡◌, ℕ, zero, suc, ◌+◌, ◌-◌, ◌<◌, ◌≤◌, ℤ, pos, Bool, true, false, ◌&&◌, List, [], ◌∷◌, ◌++◌, length, get_or, set, drop, take, map, refl, sym, ap, subst, ◌∙◌, append_assoc, append-nil, length-append, add-one, add-zero, zero-add, arith}
use Rattle.std.specs.Prelude.{IsTrue, ◌==◌, if◌then◌else◌, nat_lt, slice_get, option_map, Option, Some, None}
use Rattle.std.specs.List.{All}
use Rattle.std.proofs.lemmas.Bool.Decides.{nat_tests}
use Rattle.std.proofs.lemmas.List.{drop_more, drop_all, take_more, take_all, set_at, length-take-le, length-drop, length-map, take_at, drop_at, drop-drop, take-append-drop}
use Rattle.sa_interval.specs.Span.{Span}
use Rattle.sa_typed.specs.Arithmetic.{is_of}
use Rattle.sa_typed.specs.Layouts.{Layout, layout_of, shape_layout}
use Rattle.sa_typed.specs.Cells.{Cell, Inner, inner_cells, cell_of, cells_of, cells, is_starred, is_local}
use Rattle.sa_typed.specs.WellTyped.{IsTyped, HasTypedItems}
use Rattle.sa_typed.specs.declared.program.Home.{Home}
use Rattle.sa_typed.specs.declared.program.Home.TheVariants as home
use Rattle.sa_typed.specs.declared.program.Var.{Var}
use Rattle.sa_typed.specs.declared.program.Program.{Program}
use Rattle.sa_operators.specs.Operators.{range_of, IsIn}
use Rattle.sa_reference.specs.Environments.{cell_range, ranges, initial_span, items_span, initial_values, initial_spans, is_local_var}
use Rattle.sa_reference.specs.Assignments.{set_cells}
use Rattle.sa_reference.specs.Fair.{AreIn}
use Rattle.sa_cells.specs.declared.ground.Stretch.{Stretch}
use Rattle.sa_cells.specs.declared.slots.Slot.{Slot}
use Rattle.sa_cells.specs.Sizes.{size, first_cell, stretch_of, stretch_at}
use Rattle.sa_cells.specs.Slots.{slot}
use Rattle.sa_cells.specs.Spots.{all_slots}
use Rattle.sa_cells.specs.Settings.{placed, slot_span, IsTypedSlot, begun}
use Rattle.sa_cells.proofs.EnvLemmas.{range-in, length-in, length-ranges}
use Rattle.sa_cells.proofs.CellLemmas.{NoCell, IsSplit, split, no-cell}
use Rattle.sa_cells.proofs.StepLemmas.{length-own, stretch-known, stretch-inside, past-end}
use Rattle.sa_cells.proofs.TypedLemmas.{AllIn, cells-in, typed-slots}

-- ---- one after another
pub placed-more : {X : Type 0} (first k : ℕ) (new old : List X) (d x : X) (now next : List X) → k < length new → first + length new ≤ length old → x ≡ get_or new k d →
    now ≡ take first old ++ (take k new ++ drop (first + k) old) → next ≡ set now (first + k) x → next ≡ take first old ++ (take (k + 1) new ++ drop (first + (k + 1)) old)
placed-more first k new old d x now next h fits is so pushed =
    let front = take first old ++ take k new in
    let a = length-take-le first old (omega (arith, fits)) in
    let b = length-take-le k new (omega (arith, h)) in
    let long : length front ≡ first + k = length-append (take first old) (take k new) ∙ (let e : length (take first old) + length (take k new) ≡ first + k = omega (arith, a, b) in e) in
    let rest : drop (first + k) old ≡ get_or old (first + k) x ∷ drop ((first + k) + 1) old = drop_more old (first + k) x (omega (arith, h, fits)) in
    let next' : (first + k) + 1 ≡ first + (k + 1) = omega arith in
    pushed
    ∙ ap (λ l. set l (first + k) x) (so ∙ sym (append_assoc (take first old) (take k new) (drop (first + k) old)) ∙ ap (λ l. front ++ l) rest)
    ∙ set_at front (get_or old (first + k) x) (drop ((first + k) + 1) old) x (first + k) long
    ∙ append_assoc (take first old) (take k new) (x ∷ drop ((first + k) + 1) old)
    ∙ ap (λ n. take first old ++ (take k new ++ x ∷ drop n old)) next'
    ∙ ap (λ y. take first old ++ (take k new ++ y ∷ drop (first + (k + 1)) old)) is
    ∙ ap (λ l. take first old ++ l) (sym (append_assoc (take k new) (get_or new k d ∷ []) (drop (first + (k + 1)) old)))
    ∙ ap (λ l. take first old ++ (l ++ drop (first + (k + 1)) old)) (sym (take_more new k d h))

pub placed-start : {X : Type 0} (first : ℕ) (new old : List X) → old ≡ take first old ++ (take 0 new ++ drop (first + 0) old)
placed-start first new old = sym (take-append-drop first old) ∙ ap (λ n. take first old ++ drop n old) (sym (add-zero first))

pub placed-end : {X : Type 0} (first k : ℕ) (new old now : List X) → length new ≤ k → k ≤ length new → now ≡ take first old ++ (take k new ++ drop (first + k) old) → now ≡ placed first new old
unfolding placed
placed-end first k new old now h l so =
    let e : k ≡ length new = omega arith in
    so ∙ ap (λ n. take first old ++ (take n new ++ drop (first + n) old)) e ∙ ap (λ l. take first old ++ (l ++ drop (first + length new) old)) (take_all (length new) new (omega arith))

-- ---- cells of a variable
module _ (f : Cell → Span) (v : ℕ) where
  set-none : (cs : List Cell) → set_cells f v cs [] ≡ []
  unfolding set_cells
  set-none [] = refl
  set-none (c ∷ cs) = refl

  set-append : (xs ys : List Cell) (spans : List Span) → set_cells f v (xs ++ ys) spans ≡ set_cells f v xs (take (length xs) spans) ++ set_cells f v ys (drop (length xs) spans)
  unfolding set_cells
  set-append [] ys spans = refl
  set-append (x ∷ xs) ys [] = sym (set-none ys)
  set-append (x ∷ xs) ys (s ∷ spans) = ap (λ (l : List Span). (if x.var == v then f x else s) ∷ l) (set-append xs ys spans)

  set-no : (cs : List Cell) (spans : List Span) → NoCell v cs → set_cells f v cs spans ≡ spans
  unfolding set_cells
  set-no [] spans h = refl
  set-no (c ∷ cs) [] h = refl
  set-no (c ∷ cs) (s ∷ spans) h = rw (h.0, set-no cs spans h.1) refl

  set-own : (cs : List Inner) (spans : List Span) → length spans ≡ length cs → set_cells f v (cells_of v cs) spans ≡ map (λ i. f (cell_of v i)) cs
  unfolding set_cells cells_of
  set-own [] [] h = refl
  set-own [] (s ∷ spans) h = absurd (omega (arith, h))
  set-own (c ∷ cs) [] h = absurd (omega (arith, h))
  set-own (c ∷ cs) (s ∷ spans) h =
      let e : (v == v) ≡ true = grind (arith, nat_tests) in
      rw (e, set-own cs spans (omega (arith, h))) refl

  pub set-split : (p : Program) (first : ℕ) (spans : List Span) → IsSplit p v first → length spans ≡ length (cells p) →
      set_cells f v (cells p) spans ≡ placed first (map (λ i. f (cell_of v i)) (inner_cells (layout_of p v))) spans
  unfolding placed
  set-split p first spans s long =
      let inner = inner_cells (layout_of p v) in
      let own = cells_of v inner in
      let new = map (λ i. f (cell_of v i)) inner in
      let at = s.stands in
      let whole = ap length s.whole ∙ length-append s.front (own ++ s.back) ∙ ap (λ (k : ℕ). length s.front + k) (length-append own s.back) in
      let n = length-own v inner in
      let m = length-map inner (λ i. f (cell_of v i)) in
      let behind = drop (length s.front) spans in
      let b : length behind ≡ length own + length s.back = length-drop (length s.front) spans ∙ (let e : length spans - length s.front ≡ length own + length s.back = omega (arith, long, whole) in e) in
      let part : length (take (length own) behind) ≡ length inner = length-take-le (length own) behind (omega (arith, b)) ∙ n in
      ap (λ (cs : List Cell). set_cells f v cs spans) s.whole
      ∙ set-append s.front (own ++ s.back) spans
      ∙ ap (λ (l : List Span). l ++ set_cells f v (own ++ s.back) behind) (set-no s.front (take (length s.front) spans) s.no_front)
      ∙ ap (λ (l : List Span). take (length s.front) spans ++ l)
      (set-append own s.back behind
      ∙ ap (λ (l : List Span). l ++ set_cells f v s.back (drop (length own) behind)) (set-own inner (take (length own) behind) part)
      ∙ ap (λ (l : List Span). new ++ l) (set-no s.back (drop (length own) behind) s.no_back ∙ drop-drop (length own) (length s.front) spans))
      ∙ ap (λ (k : ℕ). take (length s.front) spans ++ (new ++ drop k spans)) (let e : length s.front + length own ≡ length s.front + length new = omega (arith, n, m) in e)
      ∙ ap (λ (k : ℕ). take k spans ++ (new ++ drop (k + length new) spans)) at

  -- what is set lies in the cells' types
  abbrev OwnIn : List Cell → Type 0
  OwnIn [] = Unit {0}
  OwnIn (c ∷ cs) = ((c.var == v) ≡ true → IsIn c.num (f c)) × OwnIn cs

  set-in : (cs : List Cell) (spans : List Span) → OwnIn cs → AreIn cs spans → AreIn cs (set_cells f v cs spans)
  unfolding set_cells AreIn
  set-in [] [] o h = tt
  set-in [] (s ∷ spans) o h = absurd h
  set-in (c ∷ cs) [] o h = absurd h
  set-in (c ∷ cs) (s ∷ spans) o h = (one (c.var == v) refl, set-in cs spans o.1 h.1)
    where
      one : (b : Bool) → (c.var == v) ≡ b → IsIn c.num (if b then f c else s)
      one true e = o.0 e
      one false e = h.0

  own-append : (xs ys : List Cell) → OwnIn xs → OwnIn ys → OwnIn (xs ++ ys)
  own-append [] ys h k = k
  own-append (x ∷ xs) ys h k = (h.0, own-append xs ys h.1 k)

  own-no : (cs : List Cell) → NoCell v cs → OwnIn cs
  own-no [] h = tt
  own-no (c ∷ cs) h = (λ e. absurd (let q = h.0 in cc), own-no cs h.1)

pub set-ranges-in : (v : ℕ) (cs : List Cell) (spans : List Span) → AreIn cs spans → AreIn cs (set_cells cell_range v cs spans)
unfolding cell_range
set-ranges-in v cs spans h = set-in cell_range v cs spans (all cs) h
  where
    all : (cs : List Cell) → OwnIn cell_range v cs
    all [] = tt
    all (c ∷ cs) = (λ _. range-in c.num, all cs)

pub set-unknown : (f : Cell → Span) (v : ℕ) (p : Program) (spans : List Span) → slice_get p.vars v ≡ None → spans ≡ set_cells f v (cells p) spans
set-unknown f v p spans h = sym (set-no f v (cells p) spans (no-cell p v (past-end p.vars v h)))

-- ---- a variable that there is
pub no-variable : (p : Program) (v : ℕ) (o : Option Stretch) → o ≡ stretch_at p v → o ≡ None → slice_get p.vars v ≡ None
no-variable p v o e f = go (slice_get p.vars v) (sym f ∙ e)
  where
    go : (y : Option Var) → None ≡ option_map (stretch_of p v) y → y ≡ None
    go None h = refl
    go (Some x) h = absurd cc

pub the-variable : (p : Program) (v : ℕ) (st : Stretch) → Some st ≡ stretch_at p v → (x : Var) × (slice_get p.vars v ≡ Some x)
the-variable p v st e = go (slice_get p.vars v) e
  where
    go : (y : Option Var) → Some st ≡ option_map (stretch_of p v) y → (x : Var) × (y ≡ Some x)
    go None h = absurd cc
    go (Some x) h = (x, refl)

module _ (p : Program) (v : ℕ) (x : Var) (st : Stretch) (h : slice_get p.vars v ≡ Some x) (k : Some st ≡ stretch_at p v) where
  stretch-is : st ≡ stretch_of p v x
  stretch-is = let s = stretch-known p v x (Some st) h k in cc

  first-is : first_cell p v x.home ≡ st.first
  first-is = ap (λ (t : Stretch). t.first) (sym stretch-is)

  own-split : IsSplit p v st.first
  own-split = subst (λ (n : ℕ). IsSplit p v n) first-is (split p v x h)

  pub stretch-fits : length (cells p) ≤ 65536 → st.first + st.cells ≤ length (cells p)
  unfolding size
  stretch-fits few =
      let s = own-split in
      let inner = inner_cells (layout_of p v) in
      let own = cells_of v inner in
      let whole = ap length s.whole ∙ length-append s.front (own ++ s.back) ∙ ap (λ (k : ℕ). length s.front + k) (length-append own s.back) in
      let n = length-own v inner in
      let at = s.stands in
      let c = ap (λ (t : Stretch). t.cells) stretch-is in
      omega (arith, whole, n, at, c)

  pub length-inner : length (inner_cells (layout_of p v)) ≡ st.cells
  unfolding size
  length-inner = sym (ap (λ (t : Stretch). t.cells) stretch-is)

  pub set-known : (f : Cell → Span) (spans new : List Span) → length spans ≡ length (cells p) → new ≡ map (λ i. f (cell_of v i)) (inner_cells (layout_of p v)) →
      placed st.first new spans ≡ set_cells f v (cells p) spans
  set-known f spans new long is = ap (λ (l : List Span). placed st.first l spans) is ∙ sym (set-split f v p st.first spans own-split long)

  -- the part of the ranges that is the variable's
  pub ranges-part : (tops : List Span) → tops ≡ ranges (cells p) → take st.cells (drop st.first tops) ≡ map (λ i. cell_range (cell_of v i)) (inner_cells (layout_of p v))
  unfolding ranges cells_of
  ranges-part tops is =
      let s = own-split in
      let inner = inner_cells (layout_of p v) in
      let own = cells_of v inner in
      let at = s.stands in
      let many = length-inner in
      let f = length-ranges s.front in
      let o = length-ranges own in
      let n = length-own v inner in
      let width : st.cells ≡ length (ranges own) = omega (arith, many, o, n) in
      ap (λ (l : List Span). take st.cells (drop st.first l)) (is ∙ ap ranges s.whole ∙ ranges-append s.front (own ++ s.back) ∙ ap (λ (l : List Span). ranges s.front ++ l) (ranges-append own s.back))
      ∙ ap (λ (l : List Span). take st.cells l) (drop_at (ranges s.front) (ranges own ++ ranges s.back) st.first (f ∙ at))
      ∙ ap (λ (k : ℕ). take k (ranges own ++ ranges s.back)) width
      ∙ take_at (ranges own) (ranges s.back) (length (ranges own)) refl
      ∙ ranges-own inner
    where
      ranges-append : (xs ys : List Cell) → ranges (xs ++ ys) ≡ ranges xs ++ ranges ys
      ranges-append [] ys = refl
      ranges-append (x ∷ xs) ys = ap (λ (l : List Span). cell_range x ∷ l) (ranges-append xs ys)

      ranges-own : (cs : List Inner) → ranges (cells_of v cs) ≡ map (λ i. cell_range (cell_of v i)) cs
      ranges-own [] = refl
      ranges-own (c ∷ cs) = ap (λ (l : List Span). cell_range (cell_of v c) ∷ l) (ranges-own cs)

  known-layout : layout_of p v ≡ shape_layout p.structs x.shape
  unfolding layout_of
  known-layout = rw h refl

  pub items-are : map slot_span (all_slots x.initial (shape_layout p.structs x.shape)) ≡ map (λ i. items_span p (cell_of v i)) (inner_cells (layout_of p v))
  unfolding all_slots items_span
  items-are =
      ap (λ (l : Layout). map slot_span (all_slots x.initial l)) (sym known-layout) ∙ go (inner_cells (layout_of p v))
    where
      values : initial_values p v ≡ x.initial
      values = rw h refl

      go : (cs : List Inner) → map slot_span (map (λ i. slot i.num (is_starred i.steps) (initial_span x.initial (layout_of p v) i.steps 0)) cs) ≡ map (λ i. initial_span (initial_values p v) (layout_of p v) i.steps 0) cs
      go [] = refl
      go (c ∷ cs) =
          ap (λ (zs : List ℤ). initial_span zs (layout_of p v) c.steps 0 ∷ map slot_span (map (λ i. slot i.num (is_starred i.steps) (initial_span x.initial (layout_of p v) i.steps 0)) cs)) (sym values)
          ∙ ap (λ (l : List Span). initial_span (initial_values p v) (layout_of p v) c.steps 0 ∷ l) (go cs)

  pub slots-typed : IsTyped p → All IsTypedSlot (all_slots x.initial (shape_layout p.structs x.shape))
  slots-typed t =
      subst (λ (l : Layout). All IsTypedSlot (all_slots x.initial l)) known-layout
      (typed-slots x.initial (layout_of p v) (λ i num e. subst (λ (j : ℕ). IsTrue (is_of num (get_or x.initial j (pos 0)))) (sym (zero-add i)) (t.items v x h i num e)))

  pub set-items-in : IsTyped p → (spans : List Span) → AreIn (cells p) spans → AreIn (cells p) (set_cells (items_span p) v (cells p) spans)
  unfolding items_span cells_of
  set-items-in t spans a =
      let s = own-split in
      let inner = inner_cells (layout_of p v) in
      let own = cells_of v inner in
      let typed : AllIn (λ c. initial_span (initial_values p v) (layout_of p v) c.steps 0) inner
      = subst (λ (zs : List ℤ). AllIn (λ c. initial_span zs (layout_of p v) c.steps 0) inner) (sym values)
      (cells-in x.initial (layout_of p v) 0 (λ i num e. subst (λ (j : ℕ). IsTrue (is_of num (get_or x.initial j (pos 0)))) (sym (zero-add i)) (t.items v x h i num e))) in
      let all : OwnIn (items_span p) v (cells p)
      = subst (λ (cs : List Cell). OwnIn (items_span p) v cs) (sym s.whole)
      (own-append (items_span p) v s.front (own ++ s.back) (own-no (items_span p) v s.front s.no_front)
      (own-append (items_span p) v own s.back (go inner typed) (own-no (items_span p) v s.back s.no_back))) in
      set-in (items_span p) v (cells p) spans all a
    where
      values : initial_values p v ≡ x.initial
      values = rw h refl

      go : (cs : List Inner) → AllIn (λ c. initial_span (initial_values p v) (layout_of p v) c.steps 0) cs → OwnIn (items_span p) v (cells_of v cs)
      go [] k = tt
      go (c ∷ cs) k = (λ _. k.0, go cs k.1)

-- ---- before main
module _ (p : Program) where
  pub begun-none : (cs : List Cell) → ranges cs ≡ begun p 0 cs
  unfolding ranges begun
  begun-none [] = refl
  begun-none (c ∷ cs) =
      let e : nat_lt c.var 0 ≡ false = grind (arith, nat_tests) in
      rw e (ap (λ (l : List Span). cell_range c ∷ l) (begun-none cs))

  -- a local's cells stay as they are
  pub begun-local : (v : ℕ) (x : Var) (cs : List Cell) → slice_get p.vars v ≡ Some x → is_local x.home ≡ true → begun p v cs ≡ begun p (v + 1) cs
  unfolding begun
  begun-local v x [] h l = refl
  begun-local v x (c ∷ cs) h l = rw (one (c.var == v) refl, begun-local v x cs h l) refl
    where
      one : (b : Bool) → (c.var == v) ≡ b →
          (if nat_lt c.var v then (if is_local_var (slice_get p.vars c.var) then cell_range c else items_span p c) else cell_range c)
          ≡ (if nat_lt c.var (v + 1) then (if is_local_var (slice_get p.vars c.var) then cell_range c else items_span p c) else cell_range c)
      one true e =
          let same : c.var ≡ v = grind (arith, nat_tests) in
          let f : nat_lt c.var v ≡ false = grind (arith, nat_tests) in
          let g : nat_lt c.var (v + 1) ≡ true = grind (arith, nat_tests) in
          let q : is_local_var (slice_get p.vars c.var) ≡ true = ap (λ (k : ℕ). is_local_var (slice_get p.vars k)) same ∙ ap is_local_var h ∙ l in
          rw (f, g, q) refl
      one false e =
          let f : nat_lt c.var (v + 1) ≡ nat_lt c.var v = grind (arith, nat_tests) in
          rw f refl

  -- those of others are set
  pub begun-others : (v : ℕ) (x : Var) (cs : List Cell) → slice_get p.vars v ≡ Some x → is_local x.home ≡ false → set_cells (items_span p) v cs (begun p v cs) ≡ begun p (v + 1) cs
  unfolding begun set_cells
  begun-others v x [] h l = refl
  begun-others v x (c ∷ cs) h l = rw (one (c.var == v) refl, begun-others v x cs h l) refl
    where
      one : (b : Bool) → (c.var == v) ≡ b →
          (if c.var == v then items_span p c else (if nat_lt c.var v then (if is_local_var (slice_get p.vars c.var) then cell_range c else items_span p c) else cell_range c))
          ≡ (if nat_lt c.var (v + 1) then (if is_local_var (slice_get p.vars c.var) then cell_range c else items_span p c) else cell_range c)
      one true e =
          let same : c.var ≡ v = grind (arith, nat_tests) in
          let g : nat_lt c.var (v + 1) ≡ true = grind (arith, nat_tests) in
          let q : is_local_var (slice_get p.vars c.var) ≡ false = ap (λ (k : ℕ). is_local_var (slice_get p.vars k)) same ∙ ap is_local_var h ∙ l in
          rw (e, g, q) refl
      one false e =
          let f : nat_lt c.var (v + 1) ≡ nat_lt c.var v = grind (arith, nat_tests) in
          rw (e, f) refl

  -- at the end of the variables
  pub begun-all : (n : ℕ) → length p.vars ≤ n → begun p n (cells p) ≡ initial_spans p (cells p)
  unfolding begun initial_spans
  begun-all n h = go (cells p) (λ v l. no-cell p v (omega (arith, l, h)))
    where
      go : (cs : List Cell) → ((v : ℕ) → n ≤ v → NoCell v cs) → begun p n cs ≡ initial_spans p cs
      go [] k = refl
      go (c ∷ cs) k =
          let e : nat_lt c.var n ≡ true = known (nat_lt c.var n) refl in
          rw (e, go cs (λ v l. (k v l).1)) refl
        where
          known : (b : Bool) → nat_lt c.var n ≡ b → b ≡ true
          known true e = refl
          known false e =
              let q : (c.var == c.var) ≡ false = (k c.var (grind (arith, nat_tests))).0 in
              let r : (c.var == c.var) ≡ true = grind (arith, nat_tests) in
              absurd cc
