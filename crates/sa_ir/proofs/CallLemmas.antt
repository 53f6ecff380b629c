-- The cells of objects, of indices and of arguments, one after the other.
use Rattle.std.proofs.Common.{◌≡◌, ℕ, zero, suc, ◌+◌, ◌<◌, ◌≤◌, List, [], ◌∷◌, ◌++◌, map, length, drop, take, get_or, refl, sym, ap, ◌∙◌, arith, append-nil, append_assoc}
use Rattle.std.proofs.lemmas.List.{drop_more, drop_all, take_more, take_all}
use Rattle.std.specs.List.{flat_map}
use Rattle.std.specs.Prelude.{slice_get, Some, None, true, false, if◌then◌else◌}
use Rattle.sa_base.specs.declared.num.Num.TheVariants.{I32}
use Rattle.sa_typed.specs.Cells.{Inner, inner_cells, field_cells, is_starred}
use Rattle.sa_typed.specs.Frames.{size, has_cells}
use Rattle.sa_typed.specs.Layouts.{Layout, layout_of, shape_layout}
use Rattle.sa_typed.specs.WellTyped.{type_of}
use Rattle.sa_typed.specs.declared.expr.Expr.{Expr, Read', end_of-Expr, more_of-Expr, Row_of-Step, end_of-Step, more_of-Step, items-the_row-Step, items_hidden-the_row-Step-0}
use Rattle.sa_typed.specs.declared.expr.Expr.TheVariants as v
use Rattle.sa_typed.specs.declared.expr.Access.{Access, out-Access}
use Rattle.sa_typed.specs.declared.expr.Step.{Step, At', Field}
use Rattle.sa_typed.specs.declared.expr.Step.TheVariants as step
use Rattle.sa_base.specs.declared.pos.Pos.{Pos}
use Rattle.sa_typed.specs.declared.program.Home.{Home}
use Rattle.sa_typed.specs.declared.program.Program.{Program}
use Rattle.sa_typed.specs.declared.program.Var.{Var}
use Rattle.sa_typed.specs.declared.shape.Plain.{Plain}
use Rattle.sa_ir.specs.declared.ir.Cell.{Cell}
use Rattle.sa_ir.specs.declared.names.Inside.{Inside}
use Rattle.sa_ir.specs.declared.slots.Slot.{Slot}
use Rattle.sa_ir.specs.declared.table.Section.{Section}
use Rattle.sa_ir.specs.Frames.{cell_in, hidden, object_cells, cells_at, cells_of_home, index_cells, read_cells}
use Rattle.sa_ir.specs.Initial.{initial_ends}
use Rattle.sa_ir.specs.Lists.{cell_at, step_cells}
use Rattle.sa_ir.specs.Names.{steps_text, var_text}
use Rattle.sa_ir.specs.Naming.{inside_layout, IsInside, inside_name, inner_name}
use Rattle.sa_ir.specs.Sizes.{among}
use Rattle.sa_ir.specs.Slots.{slot}
use Rattle.sa_ir.specs.Spots.{all_slots}
use Rattle.sa_ir.specs.Tables.{members, section}
use Rattle.sa_ir.proofs.NameLemmas.{name-of}
use Rattle.sa_ir.proofs.StepLemmas.{layout-known, among-all}

-- ---- lists, one item on
pub flat-more : {X Y : Type 0} (f : X → List Y) (xs : List X) (i : ℕ) (d : X) (out new whole : List Y) → i < length xs → new ≡ out ++ f (get_or xs i d) →
    out ++ flat_map f (drop i xs) ≡ whole → new ++ flat_map f (drop (i + 1) xs) ≡ whole
flat-more f xs i d out new whole h e left =
    ap (λ (l : List _). l ++ flat_map f (drop (i + 1) xs)) e ∙ append_assoc out (f (get_or xs i d)) (flat_map f (drop (i + 1) xs))
    ∙ ap (λ (l : List _). out ++ flat_map f l) (sym (drop_more xs i d h)) ∙ left

pub flat-end : {X Y : Type 0} (f : X → List Y) (xs : List X) (i : ℕ) (out whole : List Y) → length xs ≤ i → out ++ flat_map f (drop i xs) ≡ whole → out ≡ whole
flat-end f xs i out whole h left = sym (append-nil out) ∙ ap (λ (l : List _). out ++ flat_map f l) (sym (drop_all i xs h)) ∙ left

get-map : {X Y : Type 0} (f : X → Y) (xs : List X) (i : ℕ) (d : X) (e : Y) → i < length xs → get_or (map f xs) i e ≡ f (get_or xs i d)
get-map f [] i d e h = absurd (omega arith)
get-map f (x ∷ xs) zero d e h = refl
get-map f (x ∷ xs) (suc i) d e h = get-map f xs i d e (omega arith)

length-mapped : {X Y : Type 0} (f : X → Y) (xs : List X) → length (map f xs) ≡ length xs
length-mapped f [] = refl
length-mapped f (x ∷ xs) = ap suc (length-mapped f xs)

-- ---- objects
pub no-object : (p : Program) (prefix : List ℕ) (v : ℕ) → slice_get p.vars v ≡ None → object_cells p prefix v ≡ []
unfolding object_cells layout_of inner_cells field_cells
no-object p prefix v h = rw h refl

no_inner : Inner
no_inner = record { steps = []; num = I32 }

module _ (p : Program) (prefix : List ℕ) (v : ℕ) (x : Var) (there : slice_get p.vars v ≡ Some x) (slots : List Slot) (all : slots ≡ all_slots [] (shape_layout p.structs x.shape)) where
  whole : layout_of p v ≡ shape_layout p.structs x.shape
  whole = layout-known p v x there ∙ among-all p.structs x.shape

  pub slots-long : length slots ≡ size (layout_of p v)
  unfolding all_slots size
  slots-long = ap length all ∙ length-mapped _ (inner_cells (shape_layout p.structs x.shape)) ∙ ap (λ (l : Layout). length (inner_cells l)) (sym whole)

  pub objects-long : length (object_cells p prefix v) ≡ length slots
  unfolding object_cells size
  objects-long = length-mapped _ (inner_cells (layout_of p v)) ∙ sym slots-long

  module _ (at : Inside) (dims : at.dims.now ≡ x.shape.dims) (plain : at.plain ≡ x.shape.plain) (structs : at.structs ≡ length p.structs) where
    own : inside_layout p at ≡ layout_of p v
    own =
        ap (λ (k : ℕ). among p.structs k (record { dims = at.dims.now; plain = at.plain })) structs
        ∙ ap (λ (ds : List ℕ). among p.structs (length p.structs) (record { dims = ds; plain = at.plain })) dims
        ∙ ap (λ (t : Plain). among p.structs (length p.structs) (record { dims = x.shape.dims; plain = t })) plain ∙ sym (layout-known p v x there)

    pub object-inside : at.cells ≡ length slots → at.number < length slots → length slots ≤ 4294967295 → IsInside p at
    object-inside e h few = record {
      known = omega (arith, structs);
      cells = e ∙ slots-long ∙ ap size (sym own);
      small = omega (arith, e, few);
      number = omega (arith, e, h);
    }

    module _ (k : ℕ) (number : at.number ≡ k) (less : k < length slots) (d : Slot) where
      inner : Inner
      inner = get_or (inner_cells (layout_of p v)) k no_inner

      inside : k < length (inner_cells (layout_of p v))
      unfolding size
      inside = let e = slots-long in omega (arith, e, less)

      slot-is : get_or slots k d ≡ slot inner.num (is_starred inner.steps) (initial_ends [] (layout_of p v) inner.steps 0)
      unfolding all_slots inner inner_cells
      slot-is =
          ap (λ (l : List Slot). get_or l k d) (all ∙ ap (λ (l : Layout). all_slots [] l) (sym whole))
          ∙ get-map (λ i. slot i.num (is_starred i.steps) (initial_ends [] (layout_of p v) i.steps 0)) (inner_cells (layout_of p v)) k no_inner d inside

      text-is : inside_name p at ≡ steps_text (layout_of p v) inner.steps
      unfolding inner inner_cells
      text-is = ap (λ (l : Layout). inner_name l at.number) own ∙ ap (inner_name (layout_of p v)) number ∙ sym (name-of (layout_of p v) k no_inner (let e = slots-long in omega (arith, e, less)))

      cell-is : (name : List ℕ) → name ≡ var_text prefix (Some x) → cell_at (name ++ inside_name p at) (get_or slots k d) ≡ cell_in (var_text prefix (slice_get p.vars v)) (layout_of p v) inner
      cell-is name e =
          ap (λ (s : Slot). cell_at (name ++ inside_name p at) s) slot-is
          ∙ ap (λ (t : List ℕ). record { name = name ++ t; num = inner.num; starred = is_starred inner.steps; hidden = false }) text-is
          ∙ ap (λ (t : List ℕ). record { name = t ++ steps_text (layout_of p v) inner.steps; num = inner.num; starred = is_starred inner.steps; hidden = false }) (e ∙ ap (var_text prefix) (sym there))

      pub object-more : (name : List ℕ) → name ≡ var_text prefix (Some x) → (out new start : List Cell) → new ≡ out ++ cell_at (name ++ inside_name p at) (get_or slots k d) ∷ [] →
          out ≡ start ++ take k (object_cells p prefix v) → new ≡ start ++ take (k + 1) (object_cells p prefix v)
      unfolding object_cells inner
      object-more name e out new start pushed left =
          let f : Inner → Cell = cell_in (var_text prefix (slice_get p.vars v)) (layout_of p v) in
          let cs = inner_cells (layout_of p v) in
          pushed ∙ ap (λ (c : Cell). out ++ c ∷ []) (cell-is name e ∙ sym (get-map f cs k no_inner (f no_inner) inside))
          ∙ ap (λ (l : List Cell). l ++ get_or (map f cs) k (f no_inner) ∷ []) left ∙ append_assoc start (take k (map f cs)) (get_or (map f cs) k (f no_inner) ∷ [])
          ∙ ap (λ (l : List Cell). start ++ l) (sym (take_more (map f cs) k (f no_inner) (let e = length-mapped f cs in let i = inside in omega (arith, e, i))))

  pub object-end : (k : ℕ) → length slots ≤ k → (out start : List Cell) → out ≡ start ++ take k (object_cells p prefix v) → out ≡ start ++ object_cells p prefix v
  object-end k h out start left = left ∙ ap (λ (l : List Cell). start ++ l) (take_all k (object_cells p prefix v) (let e = objects-long in omega (arith, e, h)))

-- ---- indices
row-cells : (n : _) (r : Row_of-Step n) → index_cells r ≡ flat_map step_cells (items-the_row-Step n r)
unfolding index_cells step_cells
row-cells n end_of-Step = refl
row-cells n (more_of-Step (At' q m k (more_of-Expr a end_of-Expr)) rest) = ap (λ (l : List Cell). hidden (type_of a) ∷ l) (row-cells _ rest)
row-cells n (more_of-Step (Field f) rest) = row-cells _ rest

abbrev steps_of : Expr → (n : _) × Row_of-Step n
steps_of (Read' x n ss num) = (_, ss)
steps_of _ = (_, end_of-Step)

pub access-cells : (x : Access) → read_cells (v.Read x I32) ≡ flat_map step_cells (out-Access x).steps
unfolding read_cells Rattle.sa_typed.specs.declared.expr.Expr.TheBlock.hidden-the_row-Step-0 denote.Hole.Carrier.hidden
access-cells x =
    let row = steps_of (v.Read x I32) in
    row-cells row.0 row.1 ∙ ap (flat_map step_cells) (items_hidden-the_row-Step-0 (out-Access x).steps)

pub at_cells : (q : Pos) (n : ℕ) (a : Expr) → step_cells (step.At q n a) ≡ hidden (type_of a) ∷ []
unfolding step_cells Rattle.sa_typed.specs.declared.expr.Expr.TheBlock.hidden-the_row-Expr-1 denote.Hole.Carrier.hidden
at_cells q n a = refl

pub field_cells_none : (f : ℕ) → step_cells (step.Field f) ≡ []
unfolding step_cells
field_cells_none f = refl

pub no-step : (s : Step) (f : ℕ) → s ≡ step.Field f → step_cells s ≡ []
no-step s f e = ap step_cells e ∙ field_cells_none f

pub ruleset of_steps = (at_cells, field_cells_none, access-cells)

-- ---- homes
pub members-cells : (p : Program) (prefix : List ℕ) (h : Home) (k : ℕ) (xs : List Var) → flat_map (object_cells p prefix) (members p h k xs) ≡ cells_at p prefix h k xs
unfolding members cells_at
members-cells p prefix h k [] = refl
members-cells p prefix h k (x ∷ xs) =
    elim (has_cells p h k x) as (λ b. flat_map (object_cells p prefix) (if b then k ∷ members p h (k + 1) xs else members p h (k + 1) xs) ≡ (if b then object_cells p prefix k else []) ++ cells_at p prefix h (k + 1) xs) [
      | true ↦ ap (λ (l : List Cell). object_cells p prefix k ++ l) (members-cells p prefix h (k + 1) xs)
      | false ↦ members-cells p prefix h (k + 1) xs
    ]

pub home-cells : (p : Program) (prefix : List ℕ) (h : Home) (s : Section) → s ≡ section p (length p.vars) h → flat_map (object_cells p prefix) s.vars ≡ cells_of_home p prefix h
unfolding section
home-cells p prefix h s e =
    ap (λ (t : Section). flat_map (object_cells p prefix) t.vars) e ∙ ap (λ (l : List Var). flat_map (object_cells p prefix) (members p h 0 l)) (take_all (length p.vars) p.vars (omega arith))
    ∙ members-cells p prefix h 0 p.vars

pub three-joined : {X : Type 0} (start a b c xs ys zs : List X) → a ≡ start ++ xs → b ≡ a ++ ys → c ≡ b ++ zs → c ≡ start ++ (xs ++ (ys ++ zs))
three-joined start a b c xs ys zs e f g =
    g ∙ ap (λ (l : List _). l ++ zs) (f ∙ ap (λ (l : List _). l ++ ys) e) ∙ append_assoc (start ++ xs) ys zs ∙ append_assoc start xs (ys ++ zs)
