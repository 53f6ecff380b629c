-- What is fixed of a program, variable by variable and structure by structure.
use Rattle.std.proofs.Common.{◌≡◌, ℕ, zero, suc, ◌+◌, ◌-◌, ◌^◌, ◌<◌, ◌≤◌, ℤ, pos, Bool, true, false, List, [], ◌∷◌, ◌++◌, length, get_or, drop, take, reverse, map, refl, sym, ap, subst, ◌∙◌, append_assoc, append-nil, add-one, add-zero, zero-add, length-append, arith}
use Rattle.std.specs.Prelude.{if◌then◌else◌, min, slice_get, option_map, Option, Some, None}
use Rattle.std.proofs.lemmas.List.{drop_more, drop_all, take_more, take_all, take-append-drop}
use Rattle.std.proofs.lemmas.Option.{slice_get_within, get_or_from_slice_get, slice_get-get_or}
use Rattle.sa_base.specs.declared.num.Num.{Num}
use Rattle.sa_interval.specs.Span.{Span}
use Rattle.sa_interval.specs.Rows.{single}
use Rattle.sa_typed.specs.Layouts.{Layout, Layouts, no_field, field, nums, layout_with, layouts_with, struct_layout, layout_of, shape_layout}
use Rattle.sa_typed.specs.Cells.{Cell, Inner, inner_cells, cells_of, cells_at, cells, is_global, is_static, is_local, is_starred}
use Rattle.sa_typed.specs.declared.shape.Shape.{Shape}
use Rattle.sa_typed.specs.declared.shape.FieldDef.{FieldDef}
use Rattle.sa_typed.specs.declared.shape.StructDef.{StructDef}
use Rattle.sa_typed.specs.declared.program.Home.{Home}
use Rattle.sa_typed.specs.declared.program.Home.TheVariants as home
use Rattle.sa_typed.specs.declared.program.Var.{Var}
use Rattle.sa_typed.specs.declared.program.Program.{Program}
use Rattle.sa_operators.specs.Operators.{range_of}
use Rattle.sa_reference.specs.Environments.{cell_range, ranges, initial_span}
use Rattle.sa_cells.specs.declared.ground.Extent.{Extent}
use Rattle.sa_cells.specs.declared.ground.Stretch.{Stretch}
use Rattle.sa_cells.specs.declared.ground.Next.{Next}
use Rattle.sa_cells.specs.declared.ground.Sort.{Sort}
use Rattle.sa_cells.specs.declared.ground.Sort.TheVariants as sort
use Rattle.sa_cells.specs.declared.slots.Slot.{Slot}
use Rattle.sa_cells.specs.Grounds.{stars}
use Rattle.sa_cells.specs.Sizes.{size, capped, extent, extent_of, extents_from, all_extents, among, fields_of, made_of, Covers, first_cell, stretch_of, stretch_at}
use Rattle.sa_cells.specs.Slots.{slot}
use Rattle.sa_cells.specs.Spots.{all_slots}
use Rattle.sa_cells.specs.Stretches.{stretches, next_at, next_for, moved_next, sort_test, bare_slots}
use Rattle.sa_cells.proofs.SpreadLaws.{zeros}
use Rattle.sa_cells.proofs.CellLemmas.{at-append, parted, length-taken, split}
use Rattle.sa_cells.proofs.StructLemmas.{newest, older-length, extents-among}
use Rattle.sa_cells.proofs.StepLemmas.{layout-known, stretch-inside, length-own}

-- ---- extents
pub extents-alike : (a b e f : ℕ) (ls : Layouts) → capped a ≡ capped b → capped e ≡ capped f → extents_from a e ls ≡ extents_from b f ls
unfolding extents_from
extents-alike a b e f no_field h k = rw (h, k) refl
extents-alike a b e f (field x l ls) h k =
    rw (h, k) (ap (λ (t : List Extent). extent b f ∷ t) (extents-alike (a + size l) (b + size l) (e + length (nums l)) (f + length (nums l)) ls (omega (arith, h)) (omega (arith, k))))

module _ (structs : List StructDef) (k : ℕ) (fs : List FieldDef) where
  pub extents-more : (i : ℕ) (d : FieldDef) (b x c : Extent) (out new whole : List Extent) → i < length fs → b ≡ extent b.cells b.elements → x ≡ extent_of (among structs k (get_or fs i d).shape) →
      c ≡ extent (b.cells + x.cells) (b.elements + x.elements) → new ≡ out ++ b ∷ [] → out ++ extents_from b.cells b.elements (fields_of structs k (drop i fs)) ≡ whole →
      new ++ extents_from c.cells c.elements (fields_of structs k (drop (i + 1) fs)) ≡ whole
  unfolding extents_from layouts_with among
  extents-more i d b x c out new whole h small is next pushed goes =
      let l = among structs k (get_or fs i d).shape in
      let rest = fields_of structs k (drop (i + 1) fs) in
      let a = ap (λ (y : Extent). y.cells) is in
      let e = ap (λ (y : Extent). y.elements) is in
      let ca = ap (λ (y : Extent). y.cells) next in
      let ce = ap (λ (y : Extent). y.elements) next in
      let alike : extents_from c.cells c.elements rest ≡ extents_from (b.cells + size l) (b.elements + length (nums l)) rest
      = extents-alike c.cells (b.cells + size l) c.elements (b.elements + length (nums l)) rest (omega (arith, a, ca)) (omega (arith, e, ce)) in
      let split : extents_from b.cells b.elements (fields_of structs k (drop i fs)) ≡ b ∷ extents_from (b.cells + size l) (b.elements + length (nums l)) rest
      = ap (λ (ds : List FieldDef). extents_from b.cells b.elements (fields_of structs k ds)) (drop_more fs i d h)
      ∙ ap (λ (y : Extent). y ∷ extents_from (b.cells + size l) (b.elements + length (nums l)) rest) (sym small) in
      ap (λ (t : List Extent). t ++ extents_from c.cells c.elements rest) pushed ∙ append_assoc out (b ∷ []) (extents_from c.cells c.elements rest)
      ∙ ap (λ (t : List Extent). out ++ b ∷ t) alike ∙ ap (λ (t : List Extent). out ++ t) (sym split) ∙ goes

  pub extents-end : (i : ℕ) (b : Extent) (out new whole : List Extent) → length fs ≤ i → b ≡ extent b.cells b.elements → new ≡ out ++ b ∷ [] →
      out ++ extents_from b.cells b.elements (fields_of structs k (drop i fs)) ≡ whole → new ≡ whole
  unfolding extents_from layouts_with
  extents-end i b out new whole h small pushed goes =
      pushed ∙ ap (λ (y : Extent). out ++ y ∷ []) small
      ∙ ap (λ (ds : List FieldDef). out ++ extents_from b.cells b.elements (fields_of structs k ds)) (sym (drop_all i fs h)) ∙ goes

pub small-extent : (a e : ℕ) (c : Extent) → c ≡ extent a e → c ≡ extent c.cells c.elements
small-extent a e c h =
    let x = ap (λ (y : Extent). y.cells) h in
    let z = ap (λ (y : Extent). y.elements) h in
    let f : c.cells ≡ capped c.cells = omega (arith, x) in
    let g : c.elements ≡ capped c.elements = omega (arith, z) in
    ap (λ (n : ℕ). record { cells = n; elements = c.elements }) f ∙ ap (λ (n : ℕ). record { cells = capped c.cells; elements = n }) g

-- ---- structures
pub covers-first : (structs : List StructDef) (k : ℕ) (table : List (List Extent)) → k ≤ length structs → table ≡ all_extents (reverse (take k structs)) → Covers structs k table
covers-first structs k table h e = record {
  known = h;
  each = λ j d less at. ap (λ (t : List (List Extent)). slice_get t j) e ∙ extents-among structs k j d h less at;
}

pub covers-all : (structs : List StructDef) (table : List (List Extent)) → table ≡ all_extents (reverse structs) → Covers structs (length structs) table
covers-all structs table e = covers-first structs (length structs) table (omega arith) (e ∙ ap (λ (l : List StructDef). all_extents (reverse l)) (sym (take_all (length structs) structs (omega arith))))

pub table-more : (structs : List StructDef) (k : ℕ) (d : StructDef) (table new : List (List Extent)) (es : List Extent) → k < length structs → table ≡ all_extents (reverse (take k structs)) →
    es ≡ extents_from 0 0 (fields_of structs k (get_or structs k d).fields) → new ≡ table ++ es ∷ [] → new ≡ all_extents (reverse (take (k + 1) structs))
unfolding all_extents
table-more structs k d table new es h e is pushed =
    pushed ∙ ap (λ (t : List (List Extent)). t ++ es ∷ []) e ∙ ap (λ (x : List Extent). all_extents (reverse (take k structs)) ++ x ∷ []) is
    ∙ ap all_extents (sym (newest structs k d h))

-- ---- sections of the cells
module _ (p : Program) where
  section-most : (s : Sort) (n : ℕ) → length (cells_at p (sort_test s) 0 (take n p.vars)) ≤ length (cells p)
  unfolding cells
  section-most s n =
      let part = ap (λ (vs : List Var). length (cells_at p (sort_test s) 0 vs)) (sym (take-append-drop n p.vars)) ∙ ap length (at-append p (sort_test s) 0 (take n p.vars) (drop n p.vars))
      ∙ length-append (cells_at p (sort_test s) 0 (take n p.vars)) (cells_at p (sort_test s) (0 + length (take n p.vars)) (drop n p.vars)) in
      let a = length-append (cells_at p is_global 0 p.vars) (cells_at p is_static 0 p.vars ++ cells_at p is_local 0 p.vars) in
      let b = length-append (cells_at p is_static 0 p.vars) (cells_at p is_local 0 p.vars) in
      cases s part a b
    where
      cases : (s : Sort) → length (cells_at p (sort_test s) 0 p.vars) ≡ length (cells_at p (sort_test s) 0 (take n p.vars)) + length (cells_at p (sort_test s) (0 + length (take n p.vars)) (drop n p.vars)) →
          length (cells p) ≡ length (cells_at p is_global 0 p.vars) + length (cells_at p is_static 0 p.vars ++ cells_at p is_local 0 p.vars) →
          length (cells_at p is_static 0 p.vars ++ cells_at p is_local 0 p.vars) ≡ length (cells_at p is_static 0 p.vars) + length (cells_at p is_local 0 p.vars) →
          length (cells_at p (sort_test s) 0 (take n p.vars)) ≤ length (cells p)
      cases sort.Global e a b = omega (arith, e, a, b)
      cases sort.Static e a b = omega (arith, e, a, b)
      cases sort.Local e a b = omega (arith, e, a, b)

  own-size : (k : ℕ) → length (cells_of k (inner_cells (layout_of p k))) ≡ size (layout_of p k)
  unfolding size
  own-size k = length-own k (inner_cells (layout_of p k))

  pub section-more : (test : Home → Bool) (k : ℕ) (x : Var) → slice_get p.vars k ≡ Some x →
      length (cells_at p test 0 (take (k + 1) p.vars)) ≡ length (cells_at p test 0 (take k p.vars)) + (if test x.home then size (layout_of p k) else 0)
  unfolding cells_at
  section-more test k x h =
      let less = slice_get_within p.vars k x h in
      let is : get_or p.vars k x ≡ x = get_or_from_slice_get p.vars k x x h in
      let long : 0 + length (take k p.vars) ≡ k = zero-add (length (take k p.vars)) ∙ length-taken p.vars k less in
      ap (λ (vs : List Var). length (cells_at p test 0 vs)) (take_more p.vars k x less)
      ∙ ap (λ (y : Var). length (cells_at p test 0 (take k p.vars ++ y ∷ []))) is
      ∙ ap length (at-append p test 0 (take k p.vars) (x ∷ []))
      ∙ length-append (cells_at p test 0 (take k p.vars)) (cells_at p test (0 + length (take k p.vars)) (x ∷ []))
      ∙ ap (λ (n : ℕ). length (cells_at p test 0 (take k p.vars)) + length (cells_at p test n (x ∷ []))) long
      ∙ ap (λ (n : ℕ). length (cells_at p test 0 (take k p.vars)) + n) (last (test x.home))
    where
      last : (b : Bool) → length (if b then cells_of k (inner_cells (layout_of p k)) ++ [] else []) ≡ (if b then size (layout_of p k) else 0)
      last true = ap length (append-nil (cells_of k (inner_cells (layout_of p k)))) ∙ own-size k
      last false = refl

  module _ (few : length (cells p) ≤ 65536) where
    pub size-small : (k : ℕ) (x : Var) → slice_get p.vars k ≡ Some x → size (layout_of p k) ≤ 65536
    size-small k x h = let s = stretch-inside p k (first_cell p k x.home) (split p k x h) few in omega (arith, s)

    -- one more variable of a sort, or another
    pub count-more : (s : Sort) (k : ℕ) (x : Var) (n m : ℕ) → slice_get p.vars k ≡ Some x → n ≡ length (cells_at p (sort_test s) 0 (take k p.vars)) →
        m ≡ (if sort_test s x.home then capped (n + capped (size (among p.structs (length p.structs) x.shape))) else n) → m ≡ length (cells_at p (sort_test s) 0 (take (k + 1) p.vars))
    count-more s k x n m h e is =
        let more = section-more (sort_test s) k x h in
        let most = section-most s (k + 1) in
        let same : size (among p.structs (length p.structs) x.shape) ≡ size (layout_of p k) = ap size (sym (layout-known p k x h)) in
        let small = size-small k x h in
        is ∙ cases (sort_test s x.home) same small e more most
      where
        cases : (b : Bool) → size (among p.structs (length p.structs) x.shape) ≡ size (layout_of p k) → size (layout_of p k) ≤ 65536 → n ≡ length (cells_at p (sort_test s) 0 (take k p.vars)) →
            length (cells_at p (sort_test s) 0 (take (k + 1) p.vars)) ≡ length (cells_at p (sort_test s) 0 (take k p.vars)) + (if b then size (layout_of p k) else 0) →
            length (cells_at p (sort_test s) 0 (take (k + 1) p.vars)) ≤ length (cells p) →
            (if b then capped (n + capped (size (among p.structs (length p.structs) x.shape))) else n) ≡ length (cells_at p (sort_test s) 0 (take (k + 1) p.vars))
        cases true same small e more most = omega (arith, same, small, e, more, most, few)
        cases false same small e more most = omega (arith, e, more)

    -- ---- variables
    pub next-is : (k : ℕ) (h : Home) → next_for (next_at p k) h ≡ first_cell p k h
    unfolding first_cell
    next-is k home.Global = refl
    next-is k home.Static = refl
    next-is k (home.Local f) = refl

    pub next-more : (k : ℕ) (x : Var) (n : ℕ) → slice_get p.vars k ≡ Some x → n ≡ size (layout_of p k) → moved_next (next_at p k) x.home n ≡ next_at p (k + 1)
    unfolding first_cell
    next-more k x n h e =
        let g = section-more is_global k x h in
        let s = section-more is_static k x h in
        let l = section-more is_local k x h in
        let room = stretch-inside p k (first_cell p k x.home) (split p k x h) few in
        ap (λ (m : ℕ). moved_next (next_at p k) x.home m) e ∙ cases x.home g s l room
      where
        same : (a b c d e f : ℕ) → a ≡ d → b ≡ e → c ≡ f → (let r : Next = record { globals = a; statics = b; locals = c } in r) ≡ record { globals = d; statics = e; locals = f }
        same a b c d e f h k l = rw (h, k, l) refl

        cases : (q : Home) →
            length (cells_at p is_global 0 (take (k + 1) p.vars)) ≡ length (cells_at p is_global 0 (take k p.vars)) + (if is_global q then size (layout_of p k) else 0) →
            length (cells_at p is_static 0 (take (k + 1) p.vars)) ≡ length (cells_at p is_static 0 (take k p.vars)) + (if is_static q then size (layout_of p k) else 0) →
            length (cells_at p is_local 0 (take (k + 1) p.vars)) ≡ length (cells_at p is_local 0 (take k p.vars)) + (if is_local q then size (layout_of p k) else 0) →
            first_cell p k q + size (layout_of p k) ≤ 65536 →
            moved_next (next_at p k) q (size (layout_of p k)) ≡ next_at p (k + 1)
        cases home.Global g s l room = same _ _ _ _ _ _ (omega (arith, g, room)) (omega (arith, s)) (omega (arith, l))
        cases home.Static g s l room = same _ _ _ _ _ _ (omega (arith, g)) (omega (arith, s, room)) (omega (arith, l))
        cases (home.Local f) g s l room = same _ _ _ _ _ _ (omega (arith, g)) (omega (arith, s)) (omega (arith, l, room))

  pub stretches-get : (k : ℕ) (xs : List Var) (i : ℕ) → slice_get (stretches p k xs) i ≡ option_map (stretch_of p (k + i)) (slice_get xs i)
  unfolding stretches
  stretches-get k [] i = refl
  stretches-get k (x ∷ xs) zero = ap (λ (n : ℕ). Some (stretch_of p n x)) (sym (add-zero k))
  stretches-get k (x ∷ xs) (suc i) =
      let e : (k + 1) + i ≡ k + suc i = omega arith in
      stretches-get (k + 1) xs i ∙ ap (λ (n : ℕ). option_map (stretch_of p n) (slice_get xs i)) e

  pub stretches-are : (v : ℕ) → slice_get (stretches p 0 p.vars) v ≡ stretch_at p v
  stretches-are v = stretches-get 0 p.vars v ∙ ap (λ (n : ℕ). option_map (stretch_of p n) (slice_get p.vars v)) (zero-add v)

-- ---- bare slots
bare-append : (xs ys : List Cell) → bare_slots (xs ++ ys) ≡ bare_slots xs ++ bare_slots ys
unfolding bare_slots
bare-append [] ys = refl
bare-append (x ∷ xs) ys = ap (λ (l : List Slot). slot x.num (is_starred x.steps) (single (pos 0)) ∷ l) (bare-append xs ys)

bare-own : (v : ℕ) (l : Layout) → bare_slots (cells_of v (inner_cells l)) ≡ all_slots [] l
unfolding all_slots bare_slots cells_of
bare-own v l = go (inner_cells l)
  where
    go : (cs : List Inner) → bare_slots (cells_of v cs) ≡ map (λ i. slot i.num (is_starred i.steps) (initial_span [] l i.steps 0)) cs
    go [] = refl
    go (c ∷ cs) = rw (zeros l c.steps [] 0 (omega arith), go cs) refl

layout-at : (p : Program) (k : ℕ) (x : Var) → slice_get p.vars k ≡ Some x → layout_of p k ≡ shape_layout p.structs x.shape
unfolding layout_of
layout-at p k x h = rw h refl

pub bare-all : (p : Program) → bare_slots (cells p) ≡ bare_slots (cells_at p is_global 0 p.vars) ++ (bare_slots (cells_at p is_static 0 p.vars) ++ bare_slots (cells_at p is_local 0 p.vars))
unfolding cells
bare-all p =
    bare-append (cells_at p is_global 0 p.vars) (cells_at p is_static 0 p.vars ++ cells_at p is_local 0 p.vars)
    ∙ ap (λ (l : List Slot). bare_slots (cells_at p is_global 0 p.vars) ++ l) (bare-append (cells_at p is_static 0 p.vars) (cells_at p is_local 0 p.vars))

pub bare-more : (p : Program) (test : Home → Bool) (k : ℕ) (d : Var) (all new whole : List Slot) → k < length p.vars →
    new ≡ all ++ (if test (get_or p.vars k d).home then all_slots [] (shape_layout p.structs (get_or p.vars k d).shape) else []) →
    all ++ bare_slots (cells_at p test k (drop k p.vars)) ≡ whole → new ++ bare_slots (cells_at p test (k + 1) (drop (k + 1) p.vars)) ≡ whole
unfolding cells_at bare_slots
bare-more p test k d all new whole h pushed goes =
    let x = get_or p.vars k d in
    let rest = cells_at p test (k + 1) (drop (k + 1) p.vars) in
    let is : layout_of p k ≡ shape_layout p.structs x.shape = layout-at p k x (slice_get-get_or p.vars k d h) in
    let own = bare-own k (layout_of p k) ∙ ap (λ (l : Layout). all_slots [] l) is in
    let part : bare_slots (cells_at p test k (drop k p.vars)) ≡ (if test x.home then all_slots [] (shape_layout p.structs x.shape) else []) ++ bare_slots rest
    = ap (λ (vs : List Var). bare_slots (cells_at p test k vs)) (drop_more p.vars k d h) ∙ cases (test x.home) own rest in
    ap (λ (l : List Slot). l ++ bare_slots rest) pushed
    ∙ append_assoc all (if test x.home then all_slots [] (shape_layout p.structs x.shape) else []) (bare_slots rest)
    ∙ ap (λ (l : List Slot). all ++ l) (sym part) ∙ goes
  where
    cases : (b : Bool) → bare_slots (cells_of k (inner_cells (layout_of p k))) ≡ all_slots [] (shape_layout p.structs (get_or p.vars k d).shape) → (rest : List Cell) →
        bare_slots (if b then cells_of k (inner_cells (layout_of p k)) ++ rest else rest) ≡ (if b then all_slots [] (shape_layout p.structs (get_or p.vars k d).shape) else []) ++ bare_slots rest
    cases true own rest = bare-append (cells_of k (inner_cells (layout_of p k))) rest ∙ ap (λ (l : List Slot). l ++ bare_slots rest) own
    cases false own rest = refl

pub bare-end : (p : Program) (test : Home → Bool) (k : ℕ) (all whole : List Slot) → length p.vars ≤ k → all ++ bare_slots (cells_at p test k (drop k p.vars)) ≡ whole → all ≡ whole
unfolding cells_at bare_slots
bare-end p test k all whole h goes =
    sym (append-nil all) ∙ ap (λ (vs : List Var). all ++ bare_slots (cells_at p test k vs)) (sym (drop_all k p.vars h)) ∙ goes

pub tops-are : (cs : List Cell) → map (λ s. range_of s.num) (bare_slots cs) ≡ ranges cs
unfolding bare_slots ranges cell_range
tops-are [] = refl
tops-are (c ∷ cs) = ap (λ (l : List Span). range_of c.num ∷ l) (tops-are cs)

pub stars-are : (cs : List Cell) → map (λ s. s.starred) (bare_slots cs) ≡ stars cs
unfolding bare_slots stars
stars-are [] = refl
stars-are (c ∷ cs) = ap (λ (l : List Bool). is_starred c.steps ∷ l) (stars-are cs)

pub first-is : (p : Program) → length (cells p) ≤ 65536 → (g s l : ℕ) → g ≡ length (cells_at p is_global 0 p.vars) → s ≡ length (cells_at p is_static 0 p.vars) → l ≡ min (g + s) (2 ^ 64 - 1) →
    (let r : Next = record { globals = 0; statics = g; locals = l } in r) ≡ next_at p 0
unfolding first_cell cells_at cells
first-is p few g s l eg es el =
    let a = length-append (cells_at p is_global 0 p.vars) (cells_at p is_static 0 p.vars ++ cells_at p is_local 0 p.vars) in
    let b = length-append (cells_at p is_static 0 p.vars) (cells_at p is_local 0 p.vars) in
    let st : g ≡ length (cells_at p is_global 0 p.vars) + 0 = omega (arith, eg) in
    let lo : l ≡ length (cells_at p is_global 0 p.vars) + (length (cells_at p is_static 0 p.vars) + 0) = omega (arith, eg, es, el, few, a, b) in
    ap (λ (n : ℕ). record { globals = 0; statics = n; locals = l }) st
    ∙ ap (λ (n : ℕ). record { globals = 0; statics = length (cells_at p is_global 0 p.vars) + 0; locals = n }) lo

pub stretches-more : (p : Program) (k : ℕ) (d : Var) (s : Stretch) (all new whole : List Stretch) → k < length p.vars → s ≡ stretch_of p k (get_or p.vars k d) → new ≡ all ++ s ∷ [] →
    all ++ stretches p k (drop k p.vars) ≡ whole → new ++ stretches p (k + 1) (drop (k + 1) p.vars) ≡ whole
unfolding stretches
stretches-more p k d s all new whole h is pushed goes =
    let rest = stretches p (k + 1) (drop (k + 1) p.vars) in
    ap (λ (l : List Stretch). l ++ rest) pushed ∙ append_assoc all (s ∷ []) rest ∙ ap (λ (x : Stretch). all ++ x ∷ rest) is
    ∙ ap (λ (vs : List Var). all ++ stretches p k vs) (sym (drop_more p.vars k d h)) ∙ goes

pub stretches-end : (p : Program) (k : ℕ) (all whole : List Stretch) → length p.vars ≤ k → all ++ stretches p k (drop k p.vars) ≡ whole → all ≡ whole
unfolding stretches
stretches-end p k all whole h goes = sym (append-nil all) ∙ ap (λ (vs : List Var). all ++ stretches p k vs) (sym (drop_all k p.vars h)) ∙ goes

-- the number of cells of a variable, which fits
pub cells-known : (p : Program) → length (cells p) ≤ 65536 → (k : ℕ) (x : Var) (e : Extent) → slice_get p.vars k ≡ Some x → e ≡ extent_of (among p.structs (length p.structs) x.shape) → e.cells ≡ size (layout_of p k)
cells-known p few k x e h is =
    let same : size (among p.structs (length p.structs) x.shape) ≡ size (layout_of p k) = ap size (sym (layout-known p k x h)) in
    let small = size-small p few k x h in
    let c = ap (λ (y : Extent). y.cells) is in
    omega (arith, same, small, c)
