-- No promise of the top calls rests on this page: it is for laws beside them, for proofs and for inner functions.
-- Links, steps and cells as lists, as code goes over them. `proofs/` ties this to the rows of a tree.
use Rattle.std.specs.Prelude.{ℕ, ◌≡◌, List, [], ◌∷◌, ◌++◌, Bool, true, if◌then◌else◌, slice_get, Option, Some, None, option_map}
use Rattle.std.specs.List.{All}
use Rattle.sa_base.specs.declared.alarm.Alarm.{Alarm}
use Rattle.sa_base.specs.declared.num.Num.{Num}
use Rattle.sa_interval.specs.Span.{Span}
use Rattle.sa_interval.specs.Rows.{join_of}
use Rattle.sa_typed.specs.Cells.{Cell, cells}
use Rattle.sa_typed.specs.Layouts.{Layout}
use Rattle.sa_typed.specs.Links.{AreTypedAfter}
use Rattle.sa_typed.specs.WellTyped.{IsTypedStep, IsFixedAccess}
use Rattle.sa_typed.specs.declared.expr.Access.{Access, out-Access}
use Rattle.sa_typed.specs.declared.expr.Link.{Link, out-Link}
use Rattle.sa_typed.specs.declared.expr.Step.{Step}
use Rattle.sa_typed.specs.declared.program.Program.{Program}
use Rattle.sa_reference.specs.declared.flat.Flat.{Flat}
use Rattle.sa_reference.specs.declared.reach.Reach.{Reach}
use Rattle.sa_reference.specs.Passes.{alive_then}
use Rattle.sa_reference.specs.Sound.{widest}
use Rattle.sa_reference.specs.Values.{cell_span, linked, with_both, span_of, alarms_of, reach_of, step_alarms, fixed_reach}
use Rattle.sa_reference.specs.Assignments.{weakly, copied, with_cells}
use Rattle.sa_reference.specs.Environments.{put}
use Rattle.sa_operators.specs.Alarms.{IsAmong}
use Rattle.sa_operators.specs.Operators.{operator_alarms, IsIn}

-- ---- links, from the value so far
abbrev pub operand_span : Program → Flat → Link → Option Span
operand_span p env l = span_of p (widest p) env (out-Link l).operand

abbrev pub next_span : Program → Flat → Option Span → Link → Option Span
next_span p env o l = linked (out-Link l).op (out-Link l).num o (operand_span p env l)

unfoldable pub span_after : Program → Flat → List Link → Option Span → Option Span
span_after p env [] o = o
span_after p env (l ∷ ls) o = span_after p env ls (next_span p env o l)

unfoldable pub link_alarms : Program → Flat → Option Span → Link → List Alarm
link_alarms p env o l =
    alarms_of p (widest p) env (out-Link l).operand ++ with_both o (operand_span p env l) (operator_alarms (out-Link l).op (out-Link l).pos (out-Link l).num)

unfoldable pub alarms_after : Program → Flat → List Link → Option Span → List Alarm
alarms_after p env [] o = []
alarms_after p env (l ∷ ls) o = link_alarms p env o l ++ alarms_after p env ls (next_span p env o l)

abbrev pub IsInIf : Num → Option Span → Type 0
IsInIf num None = Unit {0}
IsInIf num (Some s) = IsIn num s

-- links after a value of the type of their left operand
pub record AreAfter (p : Program) (o : Option Span) (ls : List Link) : Type 0 where
  pub left : Num
  pub of_type : IsInIf left o
  pub links : AreTypedAfter p left ls

-- ---- steps
abbrev pub HasTypedSteps : Program → Access → Type 0
HasTypedSteps p x = All (IsTypedStep p) (out-Access x).steps

unfoldable pub reached : Program → Flat → List Step → Option (List Reach)
reached p env [] = Some []
reached p env (s ∷ ss) = alive_then (reach_of p (widest p) env s) (λ r. option_map (λ rs. r ∷ rs) (reached p env ss))

unfoldable pub indices_alarms : Program → Flat → List Step → List Alarm
indices_alarms p env [] = []
indices_alarms p env (s ∷ ss) = step_alarms p (widest p) env s ++ indices_alarms p env ss

-- steps taken so far, with one more, and with those that follow
unfoldable pub with_reach : Option (List Reach) → Option Reach → Option (List Reach)
with_reach o r = alive_then o (λ rs. option_map (λ r. rs ++ r ∷ []) r)

unfoldable pub then_reached : Option (List Reach) → Option (List Reach) → Option (List Reach)
then_reached o more = alive_then o (λ rs. option_map (λ more. rs ++ more) more)

-- ---- cells
-- the join of what was read so far with one more, and with what follows
abbrev pub join_with : Option Span → Span → Span
join_with None s = s
join_with (Some a) s = join_of a s

unfoldable pub then_joined : Option Span → Option Span → Option Span
then_joined o None = o
then_joined o (Some s) = Some (join_with o s)

-- ---- steps that lead to one place in every execution
-- a step of some program
pub record HasTypedStep (s : Step) : Type 0 where
  pub program : Program
  pub typed : IsTypedStep program s

unfoldable pub fixed_reached : List Step → Option (List Reach)
fixed_reached [] = Some []
fixed_reached (s ∷ ss) = alive_then (fixed_reach s) (λ r. option_map (λ rs. r ∷ rs) (fixed_reached ss))

-- ---- cells that are changed, given of each cell whether it stands for several elements
abbrev pub or_starred : Option Bool → Bool
or_starred None = true
or_starred (Some b) = b

abbrev pub starred_in : List Bool → ℕ → Bool
starred_in stars k = or_starred (slice_get stars k)

-- what a cell is after a span is assigned to it
unfoldable pub stored : List Bool → ℕ → Span → List Span → Span
stored stars k s spans = if starred_in stars k then join_of (cell_span spans k) s else s

unfoldable pub assigned_by : List Bool → List ℕ → Span → List Span → List Span
assigned_by stars (k ∷ []) s spans = put k (stored stars k s spans) spans
assigned_by stars ks s spans = weakly ks s spans

unfoldable pub spans_at : List Span → List ℕ → List Span
spans_at spans [] = []
spans_at spans (d ∷ ds) = cell_span spans d ∷ spans_at spans ds

-- cells assigned one after another, each its own span
unfoldable pub copied_by : List Bool → List ℕ → List Span → List Span → List Span
copied_by stars (k ∷ ks) (s ∷ ss) spans = copied_by stars ks ss (put k (stored stars k s spans) spans)
copied_by stars _ _ spans = spans

-- the cells are of this type
abbrev pub AreOf : Num → List Cell → List ℕ → Type 0
AreOf num cs ks = (k : ℕ) → IsAmong k ks → (c : Cell) → slice_get cs k ≡ Some c → c.num ≡ num

abbrev pub AreOfIf : Num → List Cell → Option (List ℕ) → Type 0
AreOfIf num cs None = Unit {0}
AreOfIf num cs (Some ks) = AreOf num cs ks

-- cells and a span of one type, where they are there
pub record AreAlike (cs : List Cell) (o : Option (List ℕ)) (s : Option Span) : Type 0 where
  pub num : Num
  pub cells : AreOfIf num cs o
  pub span : IsInIf num s

-- ---- structures
-- two places of one layout, with constant indices alone
abbrev pub IsCopy : Program → Access → Access → Type 0
IsCopy p x y = (l : Layout) × IsFixedAccess p l x × IsFixedAccess p l y

abbrev pub copy_of : Program → Flat → Option (List ℕ) → Option (List ℕ) → Option Flat
copy_of p env o s = alive_then o (λ ks. alive_then s (λ ds. Some (with_cells env (copied (cells p) ks ds env.cells env.cells))))
