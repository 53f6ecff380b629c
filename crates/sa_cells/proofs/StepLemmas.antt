-- One step of an access: to elements, and to a field.
use Rattle.std.proofs.Common.{◌≡◌, ℕ, zero, suc, ◌+◌, ◌-◌, ◌*◌, ◌/◌, ◌<◌, ◌≤◌, Bool, true, false, cond, List, [], ◌∷◌, ◌++◌, length, map, take, drop, reverse, refl, sym, ap, subst, ◌∙◌, inl, inr, append_assoc, append-nil, add-one, add-zero, zero-add, length-append, arith}
use Rattle.std.specs.Prelude.{◌==◌, if◌then◌else◌, nat_le, Option, Some, None, slice_get, option_map, min, ◌^◌}
use Rattle.std.specs.List.{flat_map, All}
use Rattle.std.proofs.lemmas.List.Elements.{All-nil, All-cons}
use Rattle.std.proofs.lemmas.Bool.Decides.{nat_tests}
use Rattle.std.proofs.lemmas.List.{take_all, drop_all}
use Rattle.std.proofs.lemmas.Option.{slice_get_within, slice_get_past}
use Rattle.std.proofs.Math.Nat.{mul-div_cancel_left}
use Rattle.sa_interval.specs.Span.{Span}
use Rattle.sa_typed.specs.Layouts.{Layout, Layouts, leaf, row, fields, no_field, field, nth_field, before_field, or_nothing, struct_layout, layout_with, layouts_with, rows, layout_of, shape_layout}
use Rattle.sa_typed.specs.Cells.{Inner, inner_cells, field_cells, each_behind, all_behind, one, all, most_elements, cells, cells_of}
use Rattle.sa_base.specs.declared.num.Num.{Num}
use Rattle.sa_typed.specs.declared.shape.Plain.{Plain}
use Rattle.sa_typed.specs.declared.shape.Plain.TheVariants.{Scalar, Struct}
use Rattle.sa_typed.specs.declared.shape.Shape.{Shape}
use Rattle.sa_typed.specs.declared.shape.StructDef.{StructDef}
use Rattle.sa_typed.specs.declared.shape.FieldDef.{FieldDef}
use Rattle.sa_typed.specs.declared.program.Var.{Var}
use Rattle.sa_typed.specs.declared.program.Program.{Program}
use Rattle.sa_reference.specs.declared.reach.Reach.{Reach}
use Rattle.sa_reference.specs.declared.reach.Reach.TheVariants.{At, Into}
use Rattle.sa_reference.specs.Values.{named}
use Rattle.sa_cells.specs.declared.place.Place.{Place}
use Rattle.sa_cells.specs.declared.ground.Extent.{Extent}
use Rattle.sa_cells.specs.declared.ground.Stretch.{Stretch}
use Rattle.sa_cells.specs.Sizes.{size, sizes, cells_before, among, no_array, first_cell, extent, extents_from, all_extents, made_of, stretch_of, stretch_at}
use Rattle.sa_cells.specs.Places.{place_layout, IsPlace, IsNext, IsNowhere, IsStart, IsNoStart, AreInside}
use Rattle.sa_cells.specs.Reached.{picked, all_picked, all_runs, reached}
use Rattle.sa_cells.proofs.ReachLemmas.{chosen, chosen-reached, flat-none, length-behind}
use Rattle.sa_cells.proofs.StructLemmas.{size-fields, before-next, before-most, among-struct, among-none, among-field, nth-field, extents-of, extents-at, fields_count, count-fields}
use Rattle.sa_cells.proofs.PlaceLemmas.{product-most, all-inside, moved-inside, less-inside}
use Rattle.sa_cells.proofs.CellLemmas.{IsSplit, split, named-split, named-missing}

-- ---- sizes
length-each : (n k : ℕ) (cs : List Inner) → length (each_behind n k cs) ≡ n * length cs
unfolding each_behind
length-each zero k cs = grind arith
length-each (suc n) k cs =
    length-append (all_behind (one k) cs) (each_behind n (k + 1) cs)
    ∙ rw (length-behind (one k) cs, length-each n (k + 1) cs) (grind arith)

pub size-small : (n : ℕ) (l : Layout) → n ≤ 128 → size (row n l) ≡ n * size l
unfolding size inner_cells
size-small n l h =
    let e : nat_le n most_elements ≡ true = grind (arith, nat_tests) in
    rw e (length-each n 0 (inner_cells l))

pub size-large : (n : ℕ) (l : Layout) → 128 < n → size (row n l) ≡ size l
unfolding size inner_cells
size-large n l h =
    let e : nat_le n most_elements ≡ false = grind (arith, nat_tests) in
    rw e (length-behind (all n) (inner_cells l))

pub size-of-fields : (ls : Layouts) → size (fields ls) ≡ sizes ls
unfolding size inner_cells
size-of-fields ls = size-fields 0 ls

pub width-is : (n w c : ℕ) → 0 < n → c ≡ n * w → c / n ≡ w
width-is n w c h e = rw e (mul-div_cancel_left w h)

-- ---- elements
pub nothing-left : (rs : List Reach) (l : Layout) → reached rs l [] ≡ []
nothing-left rs l = sym (chosen-reached rs l [])

pub to-large : (s : Span) (rs : List Reach) (n : ℕ) (l : Layout) (os : List ℕ) → 128 < n → reached (At s ∷ rs) (row n l) os ≡ reached rs l os
unfolding reached
to-large s rs n l os h = let e : nat_le n most_elements ≡ false = grind (arith, nat_tests) in rw e refl

pub to-none : (s : Span) (rs : List Reach) (l : Layout) (os : List ℕ) → reached (At s ∷ rs) (row 0 l) os ≡ []
unfolding reached all_picked picked
to-none s rs l os = ap (λ (ps : List ℕ). reached rs l ps) (flat-none (λ o. picked s (size l) 0 0 o) os (λ o. refl)) ∙ nothing-left rs l

pub to-small : (s : Span) (rs : List Reach) (n : ℕ) (l : Layout) (os : List ℕ) → n ≤ 128 → reached (At s ∷ rs) (row n l) os ≡ reached rs l (all_picked s (size l) n os)
unfolding reached
to-small s rs n l os h = let e : nat_le n most_elements ≡ true = grind (arith, nat_tests) in rw e refl

-- ---- fields
pub in-nothing : (rs : List Reach) (os : List ℕ) → reached rs (fields no_field) os ≡ []
unfolding chosen inner_cells field_cells
in-nothing rs os = sym (chosen-reached rs (fields no_field) os) ∙ flat-none (λ o. chosen o (inner_cells (fields no_field)) rs) os (λ o. refl)

pub to-field : (f : ℕ) (rs : List Reach) (ls : Layouts) (m : Layout) (os : List ℕ) → nth_field ls f ≡ Some m → reached (Into f ∷ rs) (fields ls) os ≡ reached rs m (map (λ o. o + cells_before ls f) os)
unfolding reached
to-field f rs ls m os h = ap (λ (o : Option Layout). reached rs (or_nothing o) (map (λ o. o + cells_before ls f) os)) h

pub to-no-field : (f : ℕ) (rs : List Reach) (ls : Layouts) (os : List ℕ) → nth_field ls f ≡ None → reached (Into f ∷ rs) (fields ls) os ≡ []
unfolding reached
to-no-field f rs ls os h = ap (λ (o : Option Layout). reached rs (or_nothing o) (map (λ o. o + cells_before ls f) os)) h ∙ in-nothing rs (map (λ o. o + cells_before ls f) os)

-- ---- other shapes
made-of-fields : (older : List StructDef) (k : ℕ) → (ls : Layouts) × (struct_layout older k ≡ fields ls)
unfolding struct_layout
made-of-fields [] k = (no_field, refl)
made-of-fields (d ∷ older) k =
    elim (k == length older) as (λ b. (ls : Layouts) × ((if b then fields (layouts_with (λ j. struct_layout older j) d.fields) else struct_layout older k) ≡ fields ls))
    [ true ↦ (layouts_with (λ j. struct_layout older j) d.fields, refl) | false ↦ made-of-fields older k ]

pub no-elements : (s : Span) (rs : List Reach) (structs : List StructDef) (m k : ℕ) (os : List ℕ) → reached (At s ∷ rs) (among structs m (no_array (Struct k))) os ≡ []
unfolding reached among layout_with rows
no-elements s rs structs m k os =
    let f = made-of-fields (reverse (take m structs)) k in
    rw f.1 refl

pub among-all : (structs : List StructDef) (s : Shape) → among structs (length structs) s ≡ shape_layout structs s
unfolding among
among-all structs s = rw (take_all (length structs) structs (omega arith)) refl

-- ---- a variable
pub layout-known : (p : Program) (v : ℕ) (x : Var) → slice_get p.vars v ≡ Some x → layout_of p v ≡ among p.structs (length p.structs) x.shape
unfolding layout_of
layout-known p v x h = rw h (sym (among-all p.structs x.shape))

pub length-own : (v : ℕ) (cs : List Inner) → length (cells_of v cs) ≡ length cs
unfolding cells_of
length-own v [] = refl
length-own v (c ∷ cs) = ap suc (length-own v cs)

pub stretch-inside : (p : Program) (v first : ℕ) → IsSplit p v first → length (cells p) ≤ 65536 → first + size (layout_of p v) ≤ 65536
unfolding size
stretch-inside p v first s h =
    let own = cells_of v (inner_cells (layout_of p v)) in
    let whole = ap length s.whole ∙ length-append s.front (own ++ s.back) ∙ ap (λ (k : ℕ). length s.front + k) (length-append own s.back) in
    let long = length-own v (inner_cells (layout_of p v)) in
    let at = s.stands in
    omega (arith, whole, long, at, h)

pub there-is : {X : Type 0} (xs : List X) (i : ℕ) → i < length xs → slice_get xs i ≡ None → ⊥
there-is [] i h e = omega arith
there-is (x ∷ xs) zero h e = cc
there-is (x ∷ xs) (suc i) h e = there-is xs i (omega arith) e

pub here : {X : Type 0} (xs : List X) (i : ℕ) → i < length xs → (x : X) × (slice_get xs i ≡ Some x)
here [] i h = absurd (omega arith)
here (x ∷ xs) zero h = (x, refl)
here (x ∷ xs) (suc i) h = here xs i (omega arith)

pub not-both : {X : Type 0} (o : Option X) (x : X) → o ≡ Some x → o ≡ None → ⊥
not-both o x e f = cc

-- ---- steps between places
layout-of : (p : Program) (n : Place) (m : ℕ) (s : Shape) → n.structs ≡ m → n.dims.now ≡ s.dims → n.plain ≡ s.plain → place_layout p n ≡ among p.structs m s
layout-of p n m s e f g =
    ap (λ (k : ℕ). among p.structs k (record { dims = n.dims.now; plain = n.plain })) e
    ∙ ap (λ (ds : List ℕ). among p.structs m (record { dims = ds; plain = n.plain })) f ∙ ap (λ (x : Plain). among p.structs m (record { dims = s.dims; plain = x })) g

pub array-place : (p : Program) (q : Place) (n : ℕ) (rest : List ℕ) → q.dims.now ≡ n ∷ rest → place_layout p q ≡ row n (among p.structs q.structs (record { dims = rest; plain = q.plain }))
unfolding among layout_with rows
array-place p q n rest h = ap (λ (ds : List ℕ). among p.structs q.structs (record { dims = ds; plain = q.plain })) h

pub plain-place : (p : Program) (q : Place) (x : Plain) → q.dims.now ≡ [] → q.plain ≡ x → place_layout p q ≡ among p.structs q.structs (no_array x)
plain-place p q x h e = layout-of p q q.structs (no_array x) refl h e

module _ (p : Program) (s : Span) (q n : Place) (e : Layout) (dim : ℕ) (place : IsPlace p q) (array : place_layout p q ≡ row dim e) where
  pub next-large : 128 < dim → place_layout p n ≡ e → n.structs ≡ q.structs → n.cells ≡ q.cells → n.firsts.items ≡ q.firsts.items → IsNext p (At s) q n
  next-large h is b c d =
      let big = size-large dim e h in
      record {
        place = record {
          known = rw b place.known;
          cells = c ∙ place.cells ∙ ap size array ∙ big ∙ ap size (sym is);
          small = rw c place.small;
          inside = rw (c, d) place.inside;
        };
        same = λ rs. ap (λ (l : Layout). reached (At s ∷ rs) l q.firsts.items) array ∙ to-large s rs dim e q.firsts.items h
            ∙ ap (λ (l : Layout). reached rs l q.firsts.items) (sym is) ∙ ap (λ (os : List ℕ). reached rs (place_layout p n) os) (sym d);
      }

  pub next-none : dim ≡ 0 → IsNowhere p (At s) q
  next-none h = record {
    none = λ rs. ap (λ (l : Layout). reached (At s ∷ rs) l q.firsts.items) array ∙ ap (λ (k : ℕ). reached (At s ∷ rs) (row k e) q.firsts.items) h
        ∙ to-none s rs e q.firsts.items;
  }

  pub width-of : dim ≤ 128 → 0 < dim → q.cells / dim ≡ size e
  width-of h l = width-is dim (size e) q.cells l (place.cells ∙ ap size array ∙ size-small dim e h)

  pub cells-of : dim ≤ 128 → 0 < dim → dim * (q.cells / dim) ≡ q.cells
  cells-of h l = ap (λ (k : ℕ). dim * k) (width-of h l) ∙ sym (place.cells ∙ ap size array ∙ size-small dim e h)

  pub next-small : dim ≤ 128 → 0 < dim → place_layout p n ≡ e → n.structs ≡ q.structs → n.cells ≡ q.cells / dim → n.firsts.items ≡ all_picked s (q.cells / dim) dim q.firsts.items → IsNext p (At s) q n
  next-small h l is b c d =
      let w = width-of h l in
      let whole = cells-of h l in
      let less = product-most (q.cells / dim) dim 1 l in
      let one' : 1 * (q.cells / dim) ≡ q.cells / dim = grind arith in
      let small = place.small in
      record {
        place = record {
          known = rw b place.known;
          cells = c ∙ w ∙ ap size (sym is);
          small = omega (arith, c, whole, less, one', small);
          inside = rw (c, d) (all-inside s (q.cells / dim) dim q.firsts.items (rw whole place.inside));
        };
        same = λ rs. ap (λ (l : Layout). reached (At s ∷ rs) l q.firsts.items) array ∙ to-small s rs dim e q.firsts.items h
            ∙ ap (λ (k : ℕ). reached rs e (all_picked s k dim q.firsts.items)) (sym w)
            ∙ ap (λ (l : Layout). reached rs l (all_picked s (q.cells / dim) dim q.firsts.items)) (sym is) ∙ ap (λ (os : List ℕ). reached rs (place_layout p n) os) (sym d);
      }

-- a structure that isn't among the first has no fields
pub next-unknown : (p : Program) (f k : ℕ) (q : Place) → IsPlace p q → place_layout p q ≡ among p.structs q.structs (no_array (Struct k)) → q.structs ≤ k → IsNowhere p (Into f) q
unfolding nth_field
next-unknown p f k q place shape h = record {
  none = λ rs. ap (λ (l : Layout). reached (Into f ∷ rs) l q.firsts.items) (shape ∙ among-none p.structs q.structs k place.known h)
      ∙ to-no-field f rs no_field q.firsts.items refl;
}

module _ (p : Program) (f k : ℕ) (q : Place) (d : StructDef) (place : IsPlace p q) (shape : place_layout p q ≡ among p.structs q.structs (no_array (Struct k))) (less : k < q.structs) (made : slice_get p.structs k ≡ Some d) where
  fields-of : place_layout p q ≡ fields (made_of p.structs k d)
  fields-of = shape ∙ among-struct p.structs q.structs k d place.known less made

  pub next-no-field : slice_get d.fields f ≡ None → IsNowhere p (Into f) q
  next-no-field h = record {
    none = λ rs. ap (λ (l : Layout). reached (Into f ∷ rs) l q.firsts.items) fields-of
        ∙ to-no-field f rs (made_of p.structs k d) q.firsts.items (nth-field (λ j. struct_layout (reverse (take k p.structs)) j) d.fields f ∙ ap (λ (o : Option FieldDef). option_map (λ y. layout_with (λ j. struct_layout (reverse (take k p.structs)) j) y.shape) o) h);
  }

  module _ (g : List (List Extent)) (known : g ≡ all_extents (reverse p.structs)) where
    pub extents-known : slice_get g k ≡ Some (extents_from 0 0 (made_of p.structs k d))
    extents-known = ap (λ (l : List (List Extent)). slice_get l k) known ∙ extents-of p.structs k d made

    module _ (x : FieldDef) (at : slice_get d.fields f ≡ Some x) where
      count : f < fields_count (made_of p.structs k d)
      count = let c = count-fields (λ j. struct_layout (reverse (take k p.structs)) j) d.fields in let w = slice_get_within d.fields f x at in omega (arith, c, w)

      total : sizes (made_of p.structs k d) ≤ 65536
      total = let e = ap size fields-of in let s = size-of-fields (made_of p.structs k d) in let c = place.cells in let m = place.small in omega (arith, e, s, c, m)

      pub before-known : slice_get (extents_from 0 0 (made_of p.structs k d)) f ≡ Some (extent (cells_before (made_of p.structs k d) f) (before_field (made_of p.structs k d) f))
      before-known =
          let c = count in
          extents-at 0 0 (made_of p.structs k d) f (omega (arith, c)) ∙ rw (zero-add (cells_before (made_of p.structs k d) f), zero-add (before_field (made_of p.structs k d) f)) refl

      pub behind-known : slice_get (extents_from 0 0 (made_of p.structs k d)) (f + 1) ≡ Some (extent (cells_before (made_of p.structs k d) (f + 1)) (before_field (made_of p.structs k d) (f + 1)))
      behind-known =
          let c = count in
          extents-at 0 0 (made_of p.structs k d) (f + 1) (omega (arith, c)) ∙ rw (zero-add (cells_before (made_of p.structs k d) (f + 1)), zero-add (before_field (made_of p.structs k d) (f + 1))) refl

      word : (c e : ℕ) (b : Extent) → c ≤ 65536 → Some b ≡ Some (extent c e) → b.cells ≡ c
      word c e b h is =
          let same : b ≡ extent c e = cc in
          let low : min c (2 ^ 64 - 1) ≡ c = omega arith in
          ap (λ (x : Extent). x.cells) same ∙ low

      -- what is read of the table
      before-is : (es : List Extent) (b : Extent) → slice_get g k ≡ Some es → slice_get es f ≡ Some b → b.cells ≡ cells_before (made_of p.structs k d) f
      before-is es b r h =
          let same : es ≡ extents_from 0 0 (made_of p.structs k d) = let e = extents-known in cc in
          let m = before-most (made_of p.structs k d) f in
          let t = total in
          word (cells_before (made_of p.structs k d) f) (before_field (made_of p.structs k d) f) b (omega (arith, m, t)) (sym h ∙ ap (λ (l : List Extent). slice_get l f) same ∙ before-known)

      behind-is : (es : List Extent) (b : Extent) → slice_get g k ≡ Some es → slice_get es (f + 1) ≡ Some b → b.cells ≡ cells_before (made_of p.structs k d) (f + 1)
      behind-is es b r h =
          let same : es ≡ extents_from 0 0 (made_of p.structs k d) = let e = extents-known in cc in
          let m = before-most (made_of p.structs k d) (f + 1) in
          let t = total in
          word (cells_before (made_of p.structs k d) (f + 1)) (before_field (made_of p.structs k d) (f + 1)) b (omega (arith, m, t)) (sym h ∙ ap (λ (l : List Extent). slice_get l (f + 1)) same ∙ behind-known)

      nth-is : nth_field (made_of p.structs k d) f ≡ Some (among p.structs k x.shape)
      nth-is = among-field p.structs k f d x at

      next-is : cells_before (made_of p.structs k d) (f + 1) ≡ cells_before (made_of p.structs k d) f + size (among p.structs k x.shape)
      next-is = ap (λ (i : ℕ). cells_before (made_of p.structs k d) i) (add-one f) ∙ before-next (made_of p.structs k d) f (among p.structs k x.shape) nth-is

      size-is : q.cells ≡ sizes (made_of p.structs k d)
      size-is = place.cells ∙ ap size fields-of ∙ size-of-fields (made_of p.structs k d)

      pub no-before : (es : List Extent) → slice_get g k ≡ Some es → slice_get es f ≡ None → ⊥
      no-before es r h =
          let same : es ≡ extents_from 0 0 (made_of p.structs k d) = let e = extents-known in cc in
          not-both (slice_get es f) (extent (cells_before (made_of p.structs k d) f) (before_field (made_of p.structs k d) f)) (ap (λ (l : List Extent). slice_get l f) same ∙ before-known) h

      pub no-behind : (es : List Extent) → slice_get g k ≡ Some es → slice_get es (f + 1) ≡ None → ⊥
      no-behind es r h =
          let same : es ≡ extents_from 0 0 (made_of p.structs k d) = let e = extents-known in cc in
          not-both (slice_get es (f + 1)) (extent (cells_before (made_of p.structs k d) (f + 1)) (before_field (made_of p.structs k d) (f + 1))) (ap (λ (l : List Extent). slice_get l (f + 1)) same ∙ behind-known) h

      module _ (es : List Extent) (b c : Extent) (r : slice_get g k ≡ Some es) (first : slice_get es f ≡ Some b) (last : slice_get es (f + 1) ≡ Some c) where
        pub field-order : b.cells ≤ c.cells
        field-order = let s = before-is es b r first in let t = behind-is es c r last in let u = next-is in omega (arith, s, t, u)

        field-room : c.cells ≤ q.cells
        field-room = let t = behind-is es c r last in let m = before-most (made_of p.structs k d) (f + 1) in let s = size-is in omega (arith, t, m, s)

        pub field-inside : AreInside b.cells q.firsts.items
        field-inside = let o = field-order in let m = field-room in less-inside b.cells q.cells q.firsts.items (omega (arith, o, m)) place.inside

        pub next-field : (n : Place) → n.dims.now ≡ x.shape.dims → n.plain ≡ x.shape.plain → n.structs ≡ k → n.cells ≡ c.cells - b.cells → n.firsts.items ≡ map (λ o. o + b.cells) q.firsts.items → IsNext p (Into f) q n
        next-field n u y v w z =
            let is = layout-of p n k x.shape v u y in
            let s = before-is es b r first in
            let t = behind-is es c r last in
            let i = next-is in
            let o = field-order in
            let m = field-room in
            let know = place.known in
            let small = place.small in
            record {
              place = record {
                known = omega (arith, v, less, know);
                cells = (let e : n.cells ≡ size (among p.structs k x.shape) = omega (arith, w, s, t, i) in e) ∙ ap size (sym is);
                small = omega (arith, w, m, small);
                inside = rw z (moved-inside b.cells n.cells q.cells q.firsts.items (omega (arith, w, o, m)) place.inside);
              };
              same = λ rs. ap (λ (l : Layout). reached (Into f ∷ rs) l q.firsts.items) fields-of ∙ to-field f rs (made_of p.structs k d) (among p.structs k x.shape) q.firsts.items nth-is
                  ∙ ap (λ (j : ℕ). reached rs (among p.structs k x.shape) (map (λ o. o + j) q.firsts.items)) (sym s)
                  ∙ ap (λ (l : Layout). reached rs l (map (λ o. o + b.cells) q.firsts.items)) (sym is) ∙ ap (λ (os : List ℕ). reached rs (place_layout p n) os) (sym z);
            }

-- ---- where a variable begins
pub past-end : {X : Type 0} (xs : List X) (i : ℕ) → slice_get xs i ≡ None → length xs ≤ i
past-end [] i h = omega arith
past-end (x ∷ xs) zero h = absurd cc
past-end (x ∷ xs) (suc i) h = let r = past-end xs i h in omega (arith, r)

pub no-variable : (p : Program) (v : ℕ) → slice_get p.vars v ≡ None → IsNoStart p v
no-variable p v h = record { none = λ rs. named-missing p v rs (past-end p.vars v h) }

pub stretch-known : (p : Program) (v : ℕ) (x : Var) (o : Option Stretch) → slice_get p.vars v ≡ Some x → o ≡ stretch_at p v → o ≡ Some (stretch_of p v x)
stretch-known p v x o h e = e ∙ ap (λ (y : Option Var). option_map (stretch_of p v) y) h

pub start : (p : Program) (v : ℕ) (x : Var) (st : Stretch) (n : Place) → length (cells p) ≤ 65536 → slice_get p.vars v ≡ Some x → Some st ≡ stretch_at p v →
    n.dims.now ≡ x.shape.dims → n.plain ≡ x.shape.plain → n.structs ≡ length p.structs → n.cells ≡ st.cells → n.firsts.items ≡ st.first ∷ [] → IsStart p v n
start p v x st n few h e a y b c d =
    let k : st ≡ stretch_of p v x = let s = stretch-known p v x (Some st) h e in cc in
    let s = split p v x h in
    let is : place_layout p n ≡ layout_of p v = layout-of p n (length p.structs) x.shape b a y ∙ sym (layout-known p v x h) in
    let first : st.first ≡ first_cell p v x.home = ap (λ (t : Stretch). t.first) k in
    let many : st.cells ≡ size (layout_of p v) = ap (λ (t : Stretch). t.cells) k in
    let room = stretch-inside p v (first_cell p v x.home) s few in
    record {
      place = record {
        known = omega (arith, b);
        cells = c ∙ many ∙ ap size (sym is);
        small = omega (arith, c, many, room);
        inside = rw d (All-cons (λ o. o + n.cells ≤ 65536) st.first [] (omega (arith, c, many, first, room)) (All-nil (λ o. o + n.cells ≤ 65536)));
      };
      same = λ rs. named-split p v (first_cell p v x.home) rs s ∙ ap (λ (l : Layout). reached rs l (first_cell p v x.home ∷ [])) (sym is)
          ∙ ap (λ (k : ℕ). reached rs (place_layout p n) (k ∷ [])) (sym first) ∙ ap (λ (os : List ℕ). reached rs (place_layout p n) os) (sym d);
    }

-- ---- what has no such step
pub nowhere-at : (p : Program) (s : Span) (q : Place) → q.dims.now ≡ [] → IsNowhere p (At s) q
unfolding reached among layout_with rows
nowhere-at p s q h = record { none = λ rs. ap (λ (l : Layout). reached (At s ∷ rs) l q.firsts.items) (plain-place p q q.plain h refl) ∙ cases rs q.plain }
  where
    cases : (rs : List Reach) (x : Plain) → reached (At s ∷ rs) (among p.structs q.structs (no_array x)) q.firsts.items ≡ []
    cases rs (Scalar num) = refl
    cases rs (Struct k) = no-elements s rs p.structs q.structs k q.firsts.items

-- an array has no fields
pub nowhere-below : (p : Program) (f : ℕ) (q : Place) → 0 < length q.dims.now → IsNowhere p (Into f) q
unfolding reached
nowhere-below p f q h = record { none = λ rs. cases rs q.dims.now refl }
  where
    cases : (rs : List Reach) (ds : List ℕ) → q.dims.now ≡ ds → reached (Into f ∷ rs) (place_layout p q) q.firsts.items ≡ []
    cases rs [] e = absurd (let z = ap length e in omega (arith, z, h))
    cases rs (n ∷ ds) e = ap (λ (l : Layout). reached (Into f ∷ rs) l q.firsts.items) (array-place p q n ds e)

-- nor has a number
pub nowhere-into : (p : Program) (f : ℕ) (q : Place) (num : Num) → q.dims.now ≡ [] → q.plain ≡ Scalar num → IsNowhere p (Into f) q
unfolding reached among layout_with rows
nowhere-into p f q num h e = record { none = λ rs. ap (λ (l : Layout). reached (Into f ∷ rs) l q.firsts.items) (plain-place p q (Scalar num) h e) }

-- what is left at the end of the steps
pub at-last : (p : Program) (q : Place) (rs : List Reach) (i : ℕ) → IsPlace p q → length rs ≤ i → reached (drop i rs) (place_layout p q) q.firsts.items ≡ all_runs q.cells q.firsts.items
unfolding reached
at-last p q rs i place h = ap (λ (l : List Reach). reached l (place_layout p q) q.firsts.items) (drop_all i rs h) ∙ ap (λ (n : ℕ). all_runs n q.firsts.items) (sym place.cells)
