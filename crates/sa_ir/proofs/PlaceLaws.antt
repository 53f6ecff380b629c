-- What variables stand for in a call, and ways into objects.
use Rattle.std.proofs.Common.{◌≡◌, ℕ, zero, suc, ◌+◌, ◌<◌, ◌≤◌, Bool, true, false, List, [], ◌∷◌, length, drop, get_or, refl, sym, ap, subst, ◌∙◌, arith, zero-add}
use Rattle.std.proofs.lemmas.List.{drop_more, drop_all, take_all}
use Rattle.std.specs.Prelude.{◌==◌, if◌then◌else◌, nat_le, slice_get, reverse, take, ◌-◌, option_map, Option, Some, None}
use Rattle.std.proofs.lemmas.Bool.Decides.{nat_tests}
use Rattle.sa_typed.specs.Cells.{most_elements}
use Rattle.sa_typed.specs.Frames.{size, home_cells, cells_from, offset_of}
use Rattle.sa_typed.specs.Layouts.{Layout, Layouts, leaf, row, fields, no_field, field, nth_field, or_nothing, layouts_with, struct_layout, layout_with, rows, layout_of}
use Rattle.sa_typed.specs.declared.program.Home.{Home}
use Rattle.sa_typed.specs.declared.program.Home.TheVariants as home
use Rattle.sa_typed.specs.declared.program.Program.{Program}
use Rattle.sa_typed.specs.declared.program.Var.{Var}
use Rattle.sa_typed.specs.declared.shape.Plain.{Plain}
use Rattle.sa_typed.specs.declared.shape.Plain.TheVariants.{Scalar, Struct}
use Rattle.sa_typed.specs.declared.shape.FieldDef.{FieldDef}
use Rattle.sa_typed.specs.declared.shape.StructDef.{StructDef}
use Rattle.sa_ir.specs.declared.frame.Reference.{Reference}
use Rattle.sa_ir.specs.declared.frame.Target.{Target}
use Rattle.sa_ir.specs.declared.places.Cursor.{Cursor}
use Rattle.sa_ir.specs.declared.places.Stepped.{Stepped}
use Rattle.sa_ir.specs.declared.sizes.Extent.{Extent}
use Rattle.sa_ir.specs.declared.table.Seat.{Seat}
use Rattle.sa_ir.specs.Cursors.{bases, referred, cells_ahead, cursor_layout, IsCursor, IsStepped, last_cells, cells_at, fields_in, fields_made}
use Rattle.sa_ir.specs.Frames.{own_target}
use Rattle.sa_ir.specs.Names.{inner, at_field}
use Rattle.sa_ir.specs.Places.{stride_of, cells_to}
use Rattle.sa_ir.specs.Sizes.{capped, among, shape_of, extent_of, extents_from, made_of, Covers}
use Rattle.sa_ir.specs.Sizes
use Rattle.sa_ir.specs.Tables.{seat, seat_at, section}
use Rattle.sa_ir.proofs.StepLemmas.{layout-known}
use Rattle.sa_ir.proofs.StructLemmas.{among-none, among-struct, among-field, nth-field, extents-at, fields_count}
use Rattle.sa_ir.proofs.SizeLemmas.{length-extents-from}
use Rattle.std.proofs.lemmas.Option.{slice_get_past}

-- ---- references
pub referred-more : (rs : List Reference) (i v : ℕ) (d : Reference) (o : Option Target) → i < length rs →
    referred (drop i rs) v o ≡ referred (drop (i + 1) rs) v (if v == (get_or rs i d).var then Some (get_or rs i d).target else o)
unfolding referred
referred-more rs i v d o h = ap (λ (xs : List Reference). referred xs v o) (drop_more rs i d h)

pub referred-end : (rs : List Reference) (i v : ℕ) (o : Option Target) → length rs ≤ i → referred (drop i rs) v o ≡ o
unfolding referred
referred-end rs i v o h = ap (λ (xs : List Reference). referred xs v o) (drop_all i rs h)

abbrev or_base : Option Target → Target → Target
or_base None t = t
or_base (Some s) t = s

base-from : (rs : List Reference) (v : ℕ) (t : Target) (o : Option Target) (g : ℕ → Target) → g v ≡ or_base o t → bases rs g v ≡ or_base (referred rs v o) t
unfolding bases referred
base-from [] v t o g h = h
base-from (r ∷ rs) v t o g h =
    base-from rs v t (if v == r.var then Some r.target else o) (λ w. if w == r.var then r.target else g w)
    (elim (v == r.var) as (λ b. (if b then r.target else g v) ≡ or_base (if b then Some r.target else o) t) [ true ↦ refl | false ↦ h ])

pub base-some : (rs : List Reference) (g : ℕ → Target) (v : ℕ) (t : Target) → referred rs v None ≡ Some t → bases rs g v ≡ t
base-some rs g v t h = base-from rs v (g v) None g refl ∙ ap (λ (o : Option Target). or_base o (g v)) h

pub base-none : (rs : List Reference) (g : ℕ → Target) (v : ℕ) → referred rs v None ≡ None → bases rs g v ≡ g v
base-none rs g v h = base-from rs v (g v) None g refl ∙ ap (λ (o : Option Target). or_base o (g v)) h

-- ---- first cells
pub own-nowhere : (p : Program) (first v : ℕ) → slice_get p.vars v ≡ None → 0 ≡ (own_target p first v).first
unfolding own_target
own-nowhere p first v h = rw h refl

pub no-seat : (p : Program) (v : ℕ) (x : Var) → slice_get p.vars v ≡ Some x → seat_at p v ≡ None → ⊥
no-seat p v x h e = let s : seat_at p v ≡ Some (seat p v x) = ap (λ (o : Option Var). option_map (seat p v) o) h in cc

pub own-is : (p : Program) (first v : ℕ) (x : Var) (s : Seat) (r ahead : ℕ) → slice_get p.vars v ≡ Some x → Some s ≡ seat_at p v → ahead ≡ cells_ahead p first x.home →
    r ≡ capped (ahead + s.offset) → r ≤ 4294967295 → r ≡ (own_target p first v).first
unfolding own_target
own-is p first v x s r ahead there seated a e few =
    let offset : s.offset ≡ capped (offset_of p x.home v) = let t : Some s ≡ Some (seat p v x) = seated ∙ ap (λ (o : Option Var). option_map (seat p v) o) there in (let u : s ≡ seat p v x = cc in ap (λ (y : Seat). y.offset) u) in
    rw there (cases x.home a offset)
  where
    cases : (h : Home) → ahead ≡ cells_ahead p first h → s.offset ≡ capped (offset_of p h v) → r ≡ (elim h as (λ _. ℕ) [ home.Global ↦ offset_of p home.Global v | home.Static ↦ home_cells p home.Global + offset_of p home.Static v | home.Local f ↦ first + offset_of p (home.Local f) v ])
    cases home.Global a o = omega (arith, a, o, e, few)
    cases home.Static a o = omega (arith, a, o, e, few)
    cases (home.Local f) a o = omega (arith, a, o, e, few)

-- ---- ways
pub whole-none : (p : Program) (v : ℕ) (c : Cursor) → slice_get p.vars v ≡ None → c.dims.now ≡ [] → c.plain ≡ Struct 0 → c.structs ≡ 0 → IsCursor p (layout_of p v) c
unfolding layout_of among layout_with rows
whole-none p v c h d x s = record {
  known = omega (arith, s);
  layout = rw (h, d, x, s) (among-none p.structs 0 0 (omega arith) (omega arith));
}

pub whole-some : (p : Program) (v : ℕ) (x : Var) (c : Cursor) → slice_get p.vars v ≡ Some x → c.dims.now ≡ x.shape.dims → c.plain ≡ x.shape.plain → c.structs ≡ length p.structs → IsCursor p (layout_of p v) c
whole-some p v x c h d t s = record {
  known = omega (arith, s);
  layout = rw (d, t, s) (sym (layout-known p v x h));
}

array-layout : (p : Program) (m n : ℕ) (rest : List ℕ) (x : Plain) → among p.structs m (shape_of (n ∷ rest) x) ≡ row n (among p.structs m (shape_of rest x))
unfolding among layout_with rows
array-layout p m n rest x = refl

pub stride-large : (p : Program) (c : Cursor) (n : ℕ) (rest : List ℕ) → c.dims.now ≡ n ∷ rest → 128 < n → 0 ≡ capped (stride_of (cursor_layout p c))
unfolding stride_of
stride-large p c n rest d h =
    let t : nat_le n most_elements ≡ false = grind (arith, nat_tests) in
    rw (d, array-layout p c.structs n rest c.plain, t) refl

pub stride-small : (p : Program) (c : Cursor) (n : ℕ) (rest : List ℕ) → c.dims.now ≡ n ∷ rest → n ≤ 128 → capped (size (among p.structs c.structs (shape_of rest c.plain))) ≡ capped (stride_of (cursor_layout p c))
unfolding stride_of
stride-small p c n rest d h =
    let t : nat_le n most_elements ≡ true = grind (arith, nat_tests) in
    rw (d, array-layout p c.structs n rest c.plain, t) refl

-- what is no array
data IsPlain : Layout → Type 0 where
  a_leaf : (num : _) → IsPlain (leaf num)
  some_fields : (ls : _) → IsPlain (fields ls)

struct-plain : (older : List StructDef) (k : ℕ) → IsPlain (struct_layout older k)
unfolding struct_layout
struct-plain [] k = some_fields no_field
struct-plain (d ∷ older) k =
    elim (k == length older) as (λ b. IsPlain (if b then fields (layouts_with (λ j. struct_layout older j) d.fields) else struct_layout older k))
    [ true ↦ some_fields (layouts_with (λ j. struct_layout older j) d.fields) | false ↦ struct-plain older k ]

plain-plain : (structs : List StructDef) (m : ℕ) (x : Plain) → IsPlain (among structs m (shape_of [] x))
unfolding among layout_with rows
plain-plain structs m (Scalar num) = a_leaf num
plain-plain structs m (Struct k) = struct-plain (reverse (take m structs)) k

plain-stride : (l : Layout) → IsPlain l → 0 ≡ capped (stride_of l)
unfolding stride_of
plain-stride (leaf num) h = refl
plain-stride (row n l) h = elim h [ ]
plain-stride (fields ls) h = refl

plain-inner : (l : Layout) → IsPlain l → l ≡ inner l
plain-inner (leaf num) h = refl
plain-inner (row n l) h = elim h [ ]
plain-inner (fields ls) h = refl

pub stride-plain : (p : Program) (c : Cursor) → c.dims.now ≡ [] → 0 ≡ capped (stride_of (cursor_layout p c))
stride-plain p c d = rw d (plain-stride (among p.structs c.structs (shape_of [] c.plain)) (plain-plain p.structs c.structs c.plain))

pub inner-plain : (p : Program) (c : Cursor) → c.structs ≤ length p.structs → c.dims.now ≡ [] → IsCursor p (inner (cursor_layout p c)) c
inner-plain p c h d = record { known = h; layout = rw d (plain-inner (among p.structs c.structs (shape_of [] c.plain)) (plain-plain p.structs c.structs c.plain)) }

pub inner-array : (p : Program) (c e : Cursor) (n : ℕ) (rest : List ℕ) → c.structs ≤ length p.structs → c.dims.now ≡ n ∷ rest → e.dims.now ≡ rest → e.plain ≡ c.plain → e.structs ≡ c.structs → IsCursor p (inner (cursor_layout p c)) e
inner-array p c e n rest h d u x s = record {
  known = omega (arith, h, s);
  layout = rw (u, x, s) (sym (ap inner (ap (λ (ds : List ℕ). among p.structs c.structs (shape_of ds c.plain)) d ∙ array-layout p c.structs n rest c.plain)));
}

pub covers-fewer : (structs : List StructDef) (m : ℕ) (t : List (List Extent)) → m ≤ length structs → Covers structs (length structs) t → Covers structs m t
covers-fewer structs m t h c = record { known = h; each = λ k d less at. c.each k d (omega (arith, less, h)) at }

pub section-cells : (p : Program) (h : Home) → (section p (length p.vars) h).cells ≡ capped (home_cells p h)
unfolding section
section-cells p h = ap (λ (xs : List Var). capped (cells_from p h 0 xs)) (take_all (length p.vars) p.vars (omega arith))

pub own-whole : (p : Program) (first v r : ℕ) → r ≡ (own_target p first v).first → (let t : Target = record { first = r; rows = [] } in t) ≡ own_target p first v
unfolding own_target
own-whole p first v r e = ap (λ (n : ℕ). record { first = n; rows = [] }) e

pub tail-is : (xs : List ℕ) → 1 ≤ length xs → xs ≡ get_or xs 0 0 ∷ take (length xs - 1) (drop 1 xs)
tail-is [] h = absurd (omega (arith, h))
tail-is (x ∷ xs) h = ap (λ (l : List ℕ). x ∷ l) (sym (take_all (suc (length xs) - 1) xs (omega arith)))

-- ---- fields
fields-known : (p : Program) (k : ℕ) (d : StructDef) → slice_get p.structs k ≡ Some d → fields_made p k ≡ made_of p.structs k d
fields-known p k d h = ap (fields_in p.structs k) h

before-all : (ls : Layouts) (f : ℕ) → fields_count ls ≤ f → Sizes.cells_before ls f ≡ Sizes.cells_before ls (fields_count ls)
unfolding Sizes.cells_before fields_count
before-all no_field f h = refl
before-all (field x l ls) zero h = absurd (omega arith)
before-all (field x l ls) (suc f) h = ap (λ (n : ℕ). size l + n) (before-all ls f (omega arith))

extents-past : (c e : ℕ) (ls : Layouts) (f : ℕ) → fields_count ls < f → slice_get (extents_from c e ls) f ≡ None
extents-past c e ls f h = slice_get_past (extents_from c e ls) f (let n = length-extents-from c e ls in omega (arith, n, h))

pub cells-of-fields : (es : List Extent) (ls : Layouts) (f : ℕ) → es ≡ extents_from 0 0 ls → cells_at es f ≡ capped (cells_to (fields ls) f)
unfolding cells_to
cells-of-fields es ls f e = ap (λ (x : List Extent). cells_at x f) e ∙ cases (nat_le f (fields_count ls)) refl
  where
    cases : (b : Bool) → nat_le f (fields_count ls) ≡ b → cells_at (extents_from 0 0 ls) f ≡ capped (Sizes.cells_before ls f)
    cases true t =
        let h : f ≤ fields_count ls = grind (arith, nat_tests) in
        ap (λ (o : Option Extent). elim o as (λ _. ℕ) [ None ↦ last_cells (extents_from 0 0 ls) | Some x ↦ x.cells ]) (extents-at 0 0 ls f h) ∙ ap capped (zero-add (Sizes.cells_before ls f))
    cases false t =
        let h : fields_count ls < f = grind (arith, nat_tests) in
        let n = length-extents-from 0 0 ls in
        let last : length (extents_from 0 0 ls) - 1 ≡ fields_count ls = omega (arith, n) in
        ap (λ (o : Option Extent). elim o as (λ _. ℕ) [ None ↦ last_cells (extents_from 0 0 ls) | Some x ↦ x.cells ]) (extents-past 0 0 ls f h)
        ∙ ap (λ (i : ℕ). elim (slice_get (extents_from 0 0 ls) i) as (λ _. ℕ) [ None ↦ 0 | Some x ↦ x.cells ]) last
        ∙ ap (λ (o : Option Extent). elim o as (λ _. ℕ) [ None ↦ 0 | Some x ↦ x.cells ]) (extents-at 0 0 ls (fields_count ls) (omega arith))
        ∙ ap capped (zero-add (Sizes.cells_before ls (fields_count ls)) ∙ sym (before-all ls f (omega (arith, h))))

module _ (p : Program) (k f : ℕ) (d : StructDef) (there : slice_get p.structs k ≡ Some d) (inside : k < length p.structs) (s : Stepped) (es : List Extent) (says : es ≡ extents_from 0 0 (made_of p.structs k d)) (cells : s.cells ≡ cells_at es f) where
  cells-are : s.cells ≡ capped (cells_to (fields (fields_made p k)) f)
  cells-are = cells ∙ cells-of-fields es (made_of p.structs k d) f says ∙ ap (λ (ls : Layouts). capped (cells_to (fields ls) f)) (sym (fields-known p k d there))

  pub field-some : (x : FieldDef) → slice_get d.fields f ≡ Some x → s.cursor.dims.now ≡ x.shape.dims → s.cursor.plain ≡ x.shape.plain → s.cursor.structs ≡ k → IsStepped p (fields (fields_made p k)) f s
  field-some x h u v w = record {
    cells = cells-are;
    cursor = record {
      known = omega (arith, w, inside);
      layout = rw (u, v, w) (sym (ap (λ (ls : Layouts). at_field (fields ls) f) (fields-known p k d there) ∙ ap or_nothing (among-field p.structs k f d x h)));
    };
  }

  pub field-none : slice_get d.fields f ≡ None → s.cursor.dims.now ≡ [] → s.cursor.plain ≡ Struct 0 → s.cursor.structs ≡ 0 → IsStepped p (fields (fields_made p k)) f s
  field-none h u v w = record {
    cells = cells-are;
    cursor = record {
      known = omega (arith, w);
      layout =
          rw (u, v, w) (among-none p.structs 0 0 (omega arith) (omega arith))
          ∙ sym (ap (λ (ls : Layouts). at_field (fields ls) f) (fields-known p k d there)
          ∙ ap or_nothing (nth-field (λ j. struct_layout (reverse (take k p.structs)) j) d.fields f ∙ ap (λ (o : Option FieldDef). option_map (λ y. layout_with (λ j. struct_layout (reverse (take k p.structs)) j) y.shape) o) h));
    };
  }

-- what has no fields leads to itself
abbrev IsNoStruct : Layout → Type 0
IsNoStruct (leaf num) = Unit {0}
IsNoStruct (row n l) = Unit {0}
IsNoStruct (fields ls) = ls ≡ no_field

stays : (l : Layout) (f : ℕ) → IsNoStruct l → (0 ≡ capped (cells_to l f)) × (l ≡ at_field l f)
unfolding cells_to Sizes.cells_before nth_field
stays (leaf num) f h = (refl, refl)
stays (row n l) f h = (refl, refl)
stays (fields ls) f h = rw h (refl, refl)

pub field-stays : (p : Program) (c : Cursor) (s : Stepped) (f : ℕ) → c.structs ≤ length p.structs → IsNoStruct (cursor_layout p c) → s.cells ≡ 0 → s.cursor ≡ c → IsStepped p (cursor_layout p c) f s
field-stays p c s f h n z e =
    let t = stays (cursor_layout p c) f n in
    record { cells = z ∙ t.0; cursor = record { known = subst (λ (d : Cursor). d.structs ≤ length p.structs) (sym e) h; layout = ap (cursor_layout p) e ∙ t.1 } }

pub array-none : (p : Program) (c : Cursor) → 1 ≤ length c.dims.now → IsNoStruct (cursor_layout p c)
array-none p c h = rw (tail-is c.dims.now h, array-layout p c.structs (get_or c.dims.now 0 0) (take (length c.dims.now - 1) (drop 1 c.dims.now)) c.plain) tt

pub scalar-none : (p : Program) (c : Cursor) (num : _) → c.dims.now ≡ [] → c.plain ≡ Scalar num → IsNoStruct (cursor_layout p c)
unfolding among layout_with rows
scalar-none p c num d e = rw (d, e) tt

pub beyond-none : (p : Program) (c : Cursor) (k : ℕ) → c.structs ≤ length p.structs → c.dims.now ≡ [] → c.plain ≡ Struct k → c.structs ≤ k → IsNoStruct (cursor_layout p c)
beyond-none p c k h d e less = rw (d, e, among-none p.structs c.structs k h less) refl

pub struct-here : (p : Program) (c : Cursor) (k f : ℕ) (d : StructDef) (s : Stepped) → c.structs ≤ length p.structs → c.dims.now ≡ [] → c.plain ≡ Struct k → k < c.structs → slice_get p.structs k ≡ Some d →
    IsStepped p (fields (fields_made p k)) f s → IsStepped p (cursor_layout p c) f s
struct-here p c k f d s h u v less there steps =
    subst (λ (l : Layout). IsStepped p l f s)
    (ap (λ (ls : Layouts). fields ls) (fields-known p k d there) ∙ sym (among-struct p.structs c.structs k d h less there) ∙ sym (rw (u, v) refl)) steps
