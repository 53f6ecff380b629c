-- What assignments need of types, and that spans stay in them.
use Rattle.std.proofs.Common.{◌≡◌, ℕ, pos, arith, true, false, List, [], ◌∷◌, refl, ap, subst, Option, Some, None}
use Rattle.std.proofs.lemmas.Int.{ints}
use Rattle.std.specs.Prelude.{◌==◌, if◌then◌else◌, reverse, length, IfSome}
use Rattle.sa_base.specs.declared.num.Num.{Num}
use Rattle.sa_base.specs.declared.num.Num.TheVariants.{I32}
use Rattle.sa_interval.specs.Span.{Span}
use Rattle.sa_interval.specs.Rows.{single}
use Rattle.sa_typed.specs.Cells.{Cell, cells}
use Rattle.sa_typed.specs.Layouts.{leaf, fields, layout_with, layouts_with, struct_layout, rows, shape_layout, layout_of, num_in}
use Rattle.sa_typed.specs.WellTyped.{type_of, IsLink, IsTypedAccess}
use Rattle.sa_typed.specs.declared.expr.Access.{Access}
use Rattle.sa_typed.specs.declared.expr.Expr.{Expr}
use Rattle.sa_typed.specs.declared.expr.Expr.TheVariants as v
use Rattle.sa_typed.specs.declared.expr.Operator.{Operator}
use Rattle.sa_typed.specs.declared.shape.Plain.TheVariants.{Scalar, Struct}
use Rattle.sa_typed.specs.declared.shape.Shape.{Shape}
use Rattle.sa_typed.specs.declared.shape.StructDef.{StructDef}
use Rattle.sa_typed.specs.declared.program.Program.{Program}
use Rattle.sa_operators.specs.Operators.{IsIn}
use Rattle.sa_operators.specs.OperatorLaws.{IsSmallSpan, Suits, SuitsRight}
use Rattle.sa_reference.specs.declared.flat.Flat.{Flat}
use Rattle.sa_reference.specs.Assignments.{read_of, assigned, copied, simple_of}
use Rattle.sa_reference.specs.Fair.{AreIn, IsFair}
use Rattle.sa_reference.specs.Sound.{widest}
use Rattle.sa_reference.specs.Values.{named, access_cells, fixed_access_cells}
use Rattle.sa_reference.proofs.AccessLaws.{cells_known, whole_of}
use Rattle.sa_reference.proofs.Laws.{IfAlive}
use Rattle.sa_reference.proofs.OperatorFacts.{operator_facts}
use Rattle.sa_reference.proofs.PointLaws.{to_in, from_in, assigned_in}
use Rattle.sa_reference.proofs.StructLaws.{copy_keeps}
use Rattle.sa_transfer.specs.Lists.{IsInIf, HasTypedSteps, AreOf, AreOfIf, AreAlike, IsCopy, copy_of}
use Rattle.sa_transfer.proofs.FormLaws.{access_steps}
use Rattle.sa_transfer.proofs.TypeLaws.{widest_within, small_if, suits_if, suits_right_if}

from_some : (num : Num) (o : Option Span) → IfSome o (λ s. IsIn num s) → IsInIf num o
from_some num None h = tt
from_some num (Some s) h = h

from_alive : (num : Num) (o : Option Span) → IfAlive (λ s. IsIn num s) o → IfSome o (λ s. IsIn num s)
from_alive num None h = tt
from_alive num (Some s) h = h

cells_if : (num : Num) (cs : List Cell) (o : Option (List ℕ)) → IfAlive (λ ks. AreOf num cs ks) o → AreOfIf num cs o
cells_if num cs None h = tt
cells_if num cs (Some ks) h = h

-- ---- places
module _ (p : Program) (env : Flat) (fair : AreIn (cells p) env.cells) where
  pub access_alike : (x : Access) (num : Num) (s : Option Span) → IsTypedAccess p (leaf num) x → IfSome s (λ s. IsIn num s) → AreAlike (cells p) (access_cells p (widest p) env x) s
  access_alike x num s t h = record {
    num = num;
    cells = cells_if num (cells p) (access_cells p (widest p) env x) (cells_known p (widest p) operator_facts (widest_within p) env fair (v.Read x I32) num t).types;
    span = from_some num s h;
  }

  pub access_read : (x : Access) (num : Num) → IsTypedAccess p (leaf num) x → IfSome (read_of env (access_cells p (widest p) env x)) (λ s. IsIn num s)
  access_read x num t = from_alive num _ (cells_known p (widest p) operator_facts (widest_within p) env fair (v.Read x I32) num t).reads

  pub whole_alike : (u : ℕ) (num : Num) (s : Option Span) → layout_of p u ≡ leaf num → IfSome s (λ s. IsIn (num_in (layout_of p u)) s) → AreAlike (cells p) (Some (named p u [])) s
  whole_alike u num s l h = record {
    num = num;
    cells = whole_of p (widest p) operator_facts (widest_within p) env fair u num l;
    span = from_some num s (subst (λ (m : Num). IfSome s (λ s. IsIn m s)) (ap num_in l) h);
  }

-- ---- compound assignments
pub compound_right : (op : Operator) (num work : Num) (a : Expr) (o : Option Span) → IsLink op num work (type_of a) → IfSome o (λ s. IsIn (type_of a) s) → IfSome o (λ s. SuitsRight op work s)
compound_right op num work a o l h = suits_right_if op (type_of a) work o l.second (from_some (type_of a) o h)

pub compound_left : (op : Operator) (num work right : Num) (o : Option Span) → IsLink op num work right → IfSome o (λ s. IsIn num s) → IfSome o (λ s. Suits work s)
compound_left op num work right o l h = suits_if num work o l.first (from_some num o h)

pub some_small : (num : Num) (o : Option Span) → IfSome o (λ s. IsIn num s) → IfSome o (λ s. IsSmallSpan s)
some_small num o h = small_if num o (from_some num o h)

-- ---- what is kept
pub assigned_stays : (cs : List Cell) (ks : List ℕ) (s : Span) (spans : List Span) → AreAlike cs (Some ks) (Some s) → AreIn cs spans → AreIn cs (assigned cs ks s spans)
assigned_stays cs ks s spans a h = from_in cs _ (assigned_in cs a.num ks s spans a.cells a.span (to_in cs spans h))

pub copied_stays : (p : Program) (x y : Access) (spans : List Span) (ks ds : List ℕ) → IsCopy p x y → AreIn (cells p) spans → fixed_access_cells p x ≡ Some ks → fixed_access_cells p y ≡ Some ds →
    AreIn (cells p) (copied (cells p) ks ds spans spans)
unfolding simple_of
copied_stays p x y spans ks ds t h e g = stays (copy_keeps p (widest p) (pos 0) env fair 0 x (record { line = 0; col = 0 }) y t)
  where
    env : Flat
    env = record { clock = single (pos 0); cells = spans }

    fair : IsFair p (pos 0) env
    fair = record { ordered = omega (arith, ints); clock = record { above = omega (arith, ints); below = omega (arith, ints) }; cells = h }

    stays : IfAlive (IsFair p (pos 0)) (copy_of p env (fixed_access_cells p x) (fixed_access_cells p y)) → AreIn (cells p) (copied (cells p) ks ds spans spans)
    stays k =
        let first = subst (λ (o : Option (List ℕ)). IfAlive (IsFair p (pos 0)) (copy_of p env o (fixed_access_cells p y))) e k in
        let second = subst (λ (o : Option (List ℕ)). IfAlive (IsFair p (pos 0)) (copy_of p env (Some ks) o)) g first in
        second.cells

pub copy_steps_to : (p : Program) (x y : Access) → IsCopy p x y → HasTypedSteps p x
copy_steps_to p x y t = access_steps p t.0 x t.1.typed

pub copy_steps_from : (p : Program) (x y : Access) → IsCopy p x y → HasTypedSteps p y
copy_steps_from p x y t = access_steps p t.0 y t.2.typed

-- ---- types of variables
struct_num : (ds : List StructDef) (k : ℕ) → num_in (struct_layout ds k) ≡ I32
unfolding struct_layout
struct_num [] k = refl
struct_num (d ∷ older) k =
    let fs = fields (layouts_with (λ k. struct_layout older k) d.fields) in
    elim (k == length older) as (λ b. num_in (if b then fs else struct_layout older k) ≡ I32) [ true ↦ refl | false ↦ struct_num older k ]

pub scalar_num : (ds : List StructDef) (s : Shape) (num : Num) → s.dims ≡ [] → s.plain ≡ Scalar num → num_in (shape_layout ds s) ≡ num
unfolding layout_with rows
scalar_num ds s num h e = rw (h, e) refl

pub struct_is : (ds : List StructDef) (s : Shape) (k : ℕ) → s.dims ≡ [] → s.plain ≡ Struct k → num_in (shape_layout ds s) ≡ I32
unfolding layout_with rows
struct_is ds s k h e = rw (h, e) (struct_num (reverse ds) k)

pub array_num : (ds : List StructDef) (s : Shape) → (s.dims ≡ [] → ⊥) → num_in (shape_layout ds s) ≡ I32
unfolding layout_with rows
array_num ds s h = cases s.dims h
  where
    cases : (ns : List ℕ) → (ns ≡ [] → ⊥) → num_in (shape_layout ds (record { dims = ns; plain = s.plain })) ≡ I32
    cases [] some = absurd (some refl)
    cases (n ∷ ns) some = refl

pub ruleset of_shapes = (scalar_num, struct_is, array_num)
