-- Sizes, types and initial values of variables.
use Rattle.std.proofs.Common.{◌≡◌, ℕ, ◌≤◌, List, [], ◌∷◌, map, length, take, reverse, refl, sym, ap, ◌∙◌, arith}
use Rattle.std.proofs.lemmas.List.{take_all}
use Rattle.std.specs.Prelude.{slice_get, option_map, Option, Some, None, ℤ, ◌==◌, true, false, if◌then◌else◌}
use Rattle.sa_base.specs.declared.num.Num.{Num}
use Rattle.sa_base.specs.declared.num.Num.TheVariants.{I32}
use Rattle.sa_typed.specs.Cells.{Inner, inner_cells, field_cells, is_starred}
use Rattle.sa_typed.specs.Executions.{initial_of}
use Rattle.sa_typed.specs.Frames.{size}
use Rattle.sa_typed.specs.Layouts.{Layout, fields, layout_of, num_in, struct_layout, shape_layout, layout_with, layouts_with, rows}
use Rattle.sa_typed.specs.declared.program.Program.{Program}
use Rattle.sa_typed.specs.declared.program.Var.{Var}
use Rattle.sa_typed.specs.declared.shape.Plain.TheVariants.{Scalar, Struct}
use Rattle.sa_typed.specs.declared.shape.StructDef.{StructDef}
use Rattle.sa_ir.specs.declared.ir.Ends.{Ends}
use Rattle.sa_ir.specs.declared.slots.Slot.{Slot}
use Rattle.sa_ir.specs.declared.table.Seat.{Seat}
use Rattle.sa_ir.specs.Indices.{slot_ends}
use Rattle.sa_ir.specs.Initial.{initial_ends, object_ends}
use Rattle.sa_ir.specs.Sizes.{capped, among, shape_of}
use Rattle.sa_ir.specs.Slots.{slot}
use Rattle.sa_ir.specs.Spots.{all_slots}
use Rattle.sa_ir.specs.Tables.{seat, seat_at}
use Rattle.sa_ir.proofs.StepLemmas.{layout-known, among-all}
use Rattle.sa_ir.proofs.PlaceLaws.{tail-is}

-- ---- sizes
pub cells-none : (p : Program) (v : ℕ) → None ≡ seat_at p v → 0 ≡ capped (size (layout_of p v))
unfolding layout_of size inner_cells field_cells
cells-none p v h = cases (slice_get p.vars v) refl
  where
    cases : (o : Option Var) → slice_get p.vars v ≡ o → 0 ≡ capped (size (layout_of p v))
    cases None e = rw e refl
    cases (Some x) e = let s : None ≡ Some (seat p v x) = h ∙ ap (λ (o : Option Var). option_map (seat p v) o) e in absurd cc

pub cells-some : (p : Program) (v : ℕ) (s : Seat) → Some s ≡ seat_at p v → s.cells ≡ capped (size (layout_of p v))
cells-some p v s h = cases (slice_get p.vars v) refl
  where
    cases : (o : Option Var) → slice_get p.vars v ≡ o → s.cells ≡ capped (size (layout_of p v))
    cases None e = let n : Some s ≡ None = h ∙ ap (λ (o : Option Var). option_map (seat p v) o) e in absurd cc
    cases (Some x) e =
        let t : Some s ≡ Some (seat p v x) = h ∙ ap (λ (o : Option Var). option_map (seat p v) o) e in
        let same : s ≡ seat p v x = cc in
        ap (λ (y : Seat). y.cells) same

pub struct-whole : (p : Program) (m k : ℕ) → m ≡ length p.structs → among p.structs m (shape_of [] (Struct k)) ≡ struct_layout (reverse p.structs) k
unfolding among layout_with rows
struct-whole p m k e = ap (λ (xs : List StructDef). struct_layout (reverse xs) k) (ap (λ (n : ℕ). take n p.structs) e ∙ take_all (length p.structs) p.structs (omega arith))

-- ---- types
pub num-nowhere : (p : Program) (v : ℕ) → slice_get p.vars v ≡ None → I32 ≡ num_in (layout_of p v)
unfolding layout_of
num-nowhere p v h = rw h refl

num-fields : (older : List StructDef) (k : ℕ) → I32 ≡ num_in (struct_layout older k)
unfolding struct_layout
num-fields [] k = refl
num-fields (d ∷ older) k =
    elim (k == length older) as (λ b. I32 ≡ num_in (if b then fields (layouts_with (λ j. struct_layout older j) d.fields) else struct_layout older k)) [ true ↦ refl | false ↦ num-fields older k ]

module _ (p : Program) (v : ℕ) (x : Var) (there : slice_get p.vars v ≡ Some x) where
  pub num-scalar : (num : Num) → x.shape.dims ≡ [] → x.shape.plain ≡ Scalar num → num ≡ num_in (layout_of p v)
  unfolding layout_of layout_with rows
  num-scalar num d e = rw (there, d, e) refl

  pub num-struct : (k : ℕ) → x.shape.dims ≡ [] → x.shape.plain ≡ Struct k → I32 ≡ num_in (layout_of p v)
  unfolding layout_of layout_with rows
  num-struct k d e = rw (there, d, e) (num-fields (reverse p.structs) k)

  pub num-array : 1 ≤ length x.shape.dims → I32 ≡ num_in (layout_of p v)
  unfolding layout_of layout_with rows
  num-array h = rw (there, tail-is x.shape.dims h) refl

  -- ---- initial values
  ends-map : (zs : List ℤ) (l : Layout) (cs : List Inner) → map slot_ends (map (λ i. slot i.num (is_starred i.steps) (initial_ends zs l i.steps 0)) cs) ≡ map (λ i. initial_ends zs l i.steps 0) cs
  ends-map zs l [] = refl
  ends-map zs l (c ∷ cs) = ap (λ (es : List Ends). initial_ends zs l c.steps 0 ∷ es) (ends-map zs l cs)

  pub ends-are : (slots : List Slot) (zs : List ℤ) → zs ≡ x.initial → slots ≡ all_slots zs (shape_layout p.structs x.shape) → map slot_ends slots ≡ object_ends (initial_of (slice_get p.vars v)) (layout_of p v)
  unfolding all_slots object_ends
  ends-are slots zs e h =
      let l = shape_layout p.structs x.shape in
      ap (map slot_ends) h ∙ ends-map zs l (inner_cells l)
      ∙ ap (λ (ys : List ℤ). object_ends ys l) (e ∙ ap initial_of (sym there)) ∙ ap (λ (m : Layout). object_ends (initial_of (slice_get p.vars v)) m) (sym (layout-known p v x there ∙ among-all p.structs x.shape))

pub ends-nowhere : (p : Program) (v : ℕ) → slice_get p.vars v ≡ None → [] ≡ object_ends (initial_of (slice_get p.vars v)) (layout_of p v)
unfolding layout_of object_ends inner_cells field_cells
ends-nowhere p v h = rw h refl
