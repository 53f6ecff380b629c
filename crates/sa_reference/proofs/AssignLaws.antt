-- Statements that change the store alone: the environment after holds of the store after, or the error is an alarm.
use Rattle.std.proofs.lemmas.Bool.Decides.{nat_tests}
use Rattle.std.proofs.Common.{◌≡◌, ℕ, zero, suc, ◌+◌, ℤ, pos, ◌≤ℤ◌, Bool, true, false, ◌&&◌, List, [], ◌∷◌, ◌++◌, length, refl, sym, ap, subst, ◌∙◌, arith, Option, Some, None, inl, inr, append_assoc}
use Rattle.std.specs.Prelude.{if◌then◌else◌, get_or, IsTrue, ◌==◌, slice_get}
use Rattle.std.proofs.lemmas.Int.{ints}
use Rattle.sa_base.specs.declared.num.Num.{Num}
use Rattle.sa_base.specs.declared.pos.Pos.{Pos}
use Rattle.sa_base.specs.declared.alarm.Alarm.{Alarm}
use Rattle.sa_interval.specs.Span.{Span, Within}
use Rattle.sa_interval.specs.Rows.{single}
use Rattle.sa_typed.specs.Arithmetic.{is_of, operate, converted}
use Rattle.sa_typed.specs.Layouts.{Layout, leaf, nums, index_of, layout_of, num_in}
use Rattle.sa_typed.specs.Evaluation.{Setting, Value, Gives, Stops, Here, Store, then_value, given, place_of, eval, access_place, read_place}
use Rattle.sa_typed.specs.Executions.{same_path, same_parts, same_var, strong_update, filled, any_numbers, initial_of, converted_value, declare_value, compound_value, simple_value, initial_store}
use Rattle.sa_typed.specs.Cells.{Cell, Inner, cells, covers, names, is_root, is_local}
use Rattle.sa_typed.specs.WellTyped.{IsTyped, HasTypedItems, IsTypedSimple, IsTypedStart, IsTypedExpr, IsLink, type_of}
use Rattle.sa_typed.specs.declared.expr.Expr.{Expr}
use Rattle.sa_typed.specs.declared.expr.Expr.TheVariants as e
use Rattle.sa_typed.specs.declared.expr.Access.{Access}
use Rattle.sa_typed.specs.declared.expr.Operator.{Operator}
use Rattle.sa_typed.specs.declared.shape.Part.{Part}
use Rattle.sa_typed.specs.declared.stmt.Start.{Start}
use Rattle.sa_typed.specs.declared.stmt.Start.TheVariants as begins
use Rattle.sa_typed.specs.declared.stmt.Simple.{Simple}
use Rattle.sa_typed.specs.declared.stmt.Simple.TheVariants.{Declare, Assign, Compound, Copy}
use Rattle.sa_typed.specs.declared.program.Place.{Place}
use Rattle.sa_typed.specs.declared.program.Var.{Var}
use Rattle.sa_typed.specs.declared.program.Program.{Program}
use Rattle.sa_reference.specs.declared.flat.Flat.{Flat}
use Rattle.sa_reference.specs.Passes.{alive_then}
use Rattle.sa_operators.specs.Operators.{IsIn, range_of, converted_span, conversion_alarms, operator_span, operator_alarms}
use Rattle.sa_reference.specs.Environments.{AllHold, Holds, cell_range, items_span, initial_span, initial_values, initial_spans, initial_env, is_local_var}
use Rattle.sa_reference.specs.Values.{span_of, alarms_of, named, read_cells, access_cells, access_alarms, linked, with_one, with_both, cell_span}
use Rattle.sa_reference.specs.Assignments.{assigned, set_cells, with_cells, assign_to, value_as, read_of, declare_of, declare_alarms, simple_of, simple_alarms, assign_alarms}
use Rattle.sa_reference.specs.Fair.{AreIn, IsFair}
use Rattle.sa_reference.specs.Sound.{IsAmong, AliveAnd, IsWithin}
use Rattle.sa_reference.proofs.Laws.{IfAlive, Covers}
use Rattle.sa_reference.proofs.StepLaws.{among_left, among_right}
use Rattle.sa_reference.proofs.SpanLaws.{and_left, and_right, both_true, single_within}
use Rattle.sa_reference.proofs.EnvLaws.{range_in}
use Rattle.sa_reference.proofs.CellLaws.{AllOf, Leads, cells_lead, of_program}
use Rattle.sa_reference.proofs.ValueLaws.{OperatorFacts, InSpan, known, both_cover, then_covers, more_covers, value_is, link_covers, link_in, convert_covers, convert_in}
use Rattle.sa_reference.proofs.PointLaws.{Points, HoldsOf, InNum, NamesAll, AreOf, to_held, from_held, to_in, from_in, assigned_holds, assigned_in}
use Rattle.sa_reference.proofs.AccessLaws.{Led, CellsKnown, led, cells_known, whole_named, whole_of}
use Rattle.sa_reference.proofs.InitialLaws.{AreNumbers, any_cover, number_of, of_within, single_in, Begins, cells_begin, begins_within, Fits, zero_of}

-- ---- what is assigned
-- the environment after, where it is alive
abbrev pub HoldsAfter : Program → ℤ → Option Flat → Store → Type 0
HoldsAfter p time o store = AliveAnd (λ i. Holds p i store time) o

pub assign_holds : (p : Program) (env : Flat) (store : Store) (time : ℤ) (a : Place) (z : ℤ) (o : Option (List ℕ)) (s : Option Span) → Holds p env store time → AliveAnd (λ ks. NamesAll (cells p) a ks) o → InSpan s z →
    HoldsAfter p time (assign_to p env o s) (strong_update a z store)
assign_holds p env store time a z None s h n i = absurd n
assign_holds p env store time a z (Some ks) None h n i = absurd i
assign_holds p env store time a z (Some ks) (Some s) h n i = record {
  cells = from_held (cells p) _ _ (assigned_holds (cells p) a z s i store env.cells (to_held (cells p) env.cells store h.cells) ks n);
  clock = h.clock;
}

pub assign_fair : (p : Program) (m : ℤ) (env : Flat) (num : Num) (o : Option (List ℕ)) (s : Option Span) → IsFair p m env → IfAlive (λ ks. AreOf num (cells p) ks) o → IfAlive (λ s. IsIn num s) s →
    IfAlive (IsFair p m) (assign_to p env o s)
assign_fair p m env num None s u a i = tt
assign_fair p m env num (Some ks) None u a i = tt
assign_fair p m env num (Some ks) (Some s) u a i = record {
  ordered = u.ordered;
  clock = u.clock;
  cells = from_in (cells p) _ (assigned_in (cells p) num ks s env.cells a i (to_in (cells p) env.cells u.cells));
}

-- ---- the cells of one variable
number_is : (k i : ℕ) → (k == i) ≡ true → k ≡ i
number_is k i h = grind (arith, nat_tests)

-- each cell of a variable is set to a span of its type
pub set_in : (f : Cell → Span) (v : ℕ) (cs : List Cell) (ss : List Span) → AllOf (λ c. c.var ≡ v → IsIn c.num (f c)) cs → AreIn cs ss → AreIn cs (set_cells f v cs ss)
unfolding AreIn set_cells
set_in f v [] [] a h = tt
set_in f v [] (s ∷ ss) a h = absurd h
set_in f v (c ∷ cs) [] a h = absurd h
set_in f v (c ∷ cs) (s ∷ ss) a h = (
  elim (c.var == v) as (λ b. (c.var == v) ≡ b → IsIn c.num (if b then f c else s)) [
    | true ↦ λ e. a.0 (number_is c.var v e)
    | false ↦ λ e. h.0
  ] refl,
  set_in f v cs ss a.1 h.1,
)

-- and holds what the variable's elements become, while other cells hold what they held
pub set_holds : (f : Cell → Span) (v : ℕ) (old new : Store) (cs : List Cell) (ss : List Span) → AllOf (λ c. c.var ≡ v → (q : Place) → names c q ≡ true → Within (f c) (new q)) cs →
    ((q : Place) → (q.var == v) ≡ false → new q ≡ old q) → AllHold cs ss old → AllHold cs (set_cells f v cs ss) new
unfolding AllHold set_cells
set_holds f v old new [] [] a k h = tt
set_holds f v old new [] (s ∷ ss) a k h = absurd h
set_holds f v old new (c ∷ cs) [] a k h = absurd h
set_holds f v old new (c ∷ cs) (s ∷ ss) a k h = (
  elim (c.var == v) as (λ b. (c.var == v) ≡ b → (q : Place) → IsTrue (names c q) → Within (if b then f c else s) (new q)) [
    | true ↦ λ e q n. a.0 (number_is c.var v e) q n
    | false ↦ λ e q n. subst (λ (z : ℤ). Within s z) (sym (k q (other c q n e))) (h.0 q n)
  ] refl,
  set_holds f v old new cs ss a.1 k h.1,
)
  where
    other : (c : Cell) (q : Place) → names c q ≡ true → (c.var == v) ≡ false → (q.var == v) ≡ false
    other c q n e =
        let m = and_left (c.var == q.var) (covers c.steps q.parts) (and_right (is_root q.path) (c.var == q.var && covers c.steps q.parts) n) in
        let is = number_is c.var q.var m in
        subst (λ (i : ℕ). (i == v) ≡ false) is e

-- ---- elements and cells of a program
-- a cell that stands for a place stands for an element of the cell's type
pub cell_leads : (p : Program) → AllOf (λ c. (q : Place) → names c q ≡ true → slice_get (nums (layout_of p c.var)) (index_of (layout_of p c.var) q.parts) ≡ Some c.num) (cells p)
cell_leads p = all_is (cells p) (of_program p (λ v. Leads (layout_of p v)) (λ v. cells_lead (layout_of p v)))
  where
    all_is : (cs : List Cell) → AllOf (λ c. Leads (layout_of p c.var) (record { steps = c.steps; num = c.num })) cs →
        AllOf (λ c. (q : Place) → names c q ≡ true → slice_get (nums (layout_of p c.var)) (index_of (layout_of p c.var) q.parts) ≡ Some c.num) cs
    all_is [] h = tt
    all_is (c ∷ cs) h =
        (λ q n. number_of (layout_of p c.var) q.parts c.num (h.0 q.parts (and_right (c.var == q.var) (covers c.steps q.parts) (and_right (is_root q.path) (c.var == q.var && covers c.steps q.parts) n))), all_is cs h.1)

-- and its initial span holds what the element begins with
pub cell_begins : (p : Program) → AllOf (λ c. (q : Place) → names c q ≡ true → Within (items_span p c) (get_or (initial_values p c.var) (index_of (layout_of p c.var) q.parts) (pos 0))) (cells p)
unfolding items_span
cell_begins p = all_is (cells p) (of_program p (λ v. Leads (layout_of p v)) (λ v. cells_lead (layout_of p v)))
  where
    all_is : (cs : List Cell) → AllOf (λ c. Leads (layout_of p c.var) (record { steps = c.steps; num = c.num })) cs →
        AllOf (λ c. (q : Place) → names c q ≡ true → Within (initial_span (initial_values p c.var) (layout_of p c.var) c.steps 0) (get_or (initial_values p c.var) (index_of (layout_of p c.var) q.parts) (pos 0))) cs
    all_is [] h = tt
    all_is (c ∷ cs) h = (
      λ q n.
          let cov = and_right (c.var == q.var) (covers c.steps q.parts) (and_right (is_root q.path) (c.var == q.var && covers c.steps q.parts) n) in
          let z : 0 + index_of (layout_of p c.var) q.parts ≡ index_of (layout_of p c.var) q.parts = omega arith in
          subst (λ (i : ℕ). Within (initial_span (initial_values p c.var) (layout_of p c.var) c.steps 0) (get_or (initial_values p c.var) i (pos 0))) z
          (begins_within (initial_values p c.var) c.steps (layout_of p c.var) q.parts c.num 0 cov (h.0 q.parts cov)),
      all_is cs h.1,
    )

items_fit : (p : Program) → IsTyped p → (v : ℕ) → Fits (layout_of p v) (initial_values p v) 0
items_fit p t v i num g = from (slice_get p.vars v) refl
  where
    from : (o : Option Var) → slice_get p.vars v ≡ o → is_of num (get_or (initial_of o) (0 + i) (pos 0)) ≡ true
    from None e = zero_of num
    from (Some x) e = let z : i ≡ 0 + i = omega arith in subst (λ (j : ℕ). is_of num (get_or x.initial j (pos 0)) ≡ true) z (t.items v x e i num g)

pub items_in : (p : Program) → IsTyped p → AllOf (λ c. IsIn c.num (items_span p c)) (cells p)
unfolding items_span
items_in p t = all_is (cells p) (of_program p (λ v. Begins (initial_values p v) (layout_of p v)) (λ v. cells_begin (initial_values p v) (layout_of p v)))
  where
    all_is : (cs : List Cell) → AllOf (λ c. Begins (initial_values p c.var) (layout_of p c.var) (record { steps = c.steps; num = c.num })) cs →
        AllOf (λ c. IsIn c.num (initial_span (initial_values p c.var) (layout_of p c.var) c.steps 0)) cs
    all_is [] h = tt
    all_is (c ∷ cs) h = (h.0 0 (items_fit p t c.var), all_is cs h.1)

pub all_map : {A : Type 0} (P Q : A → Type 0) (xs : List A) → ((a : A) → P a → Q a) → AllOf P xs → AllOf Q xs
all_map P Q [] k h = tt
all_map P Q (x ∷ xs) k h = (k x h.0, all_map P Q xs k h.1)

pub all_each : {A : Type 0} (P : A → Type 0) (xs : List A) → ((a : A) → P a) → AllOf P xs
all_each P [] k = tt
all_each P (x ∷ xs) k = (k x, all_each P xs k)

-- ---- the beginning
begin_spans_in : (p : Program) (cs : List Cell) → AllOf (λ c. IsIn c.num (items_span p c)) cs → AreIn cs (initial_spans p cs)
unfolding AreIn initial_spans cell_range
begin_spans_in p [] h = tt
begin_spans_in p (c ∷ cs) h =
    (elim (is_local_var (slice_get p.vars c.var)) as (λ b. IsIn c.num (if b then range_of c.num else items_span p c)) [ true ↦ range_in c.num | false ↦ h.0 ], begin_spans_in p cs h.1)

begin_spans_hold : (p : Program) → IsTyped p → (cs : List Cell) → AllOf (λ c. (q : Place) → names c q ≡ true → slice_get (nums (layout_of p c.var)) (index_of (layout_of p c.var) q.parts) ≡ Some c.num) cs →
    AllOf (λ c. (q : Place) → names c q ≡ true → Within (items_span p c) (get_or (initial_values p c.var) (index_of (layout_of p c.var) q.parts) (pos 0))) cs → AllHold cs (initial_spans p cs) (initial_store p)
unfolding AllHold initial_spans cell_range
begin_spans_hold p t [] l h = tt
begin_spans_hold p t (c ∷ cs) l h = (
  elim (is_local_var (slice_get p.vars c.var)) as (λ b. (q : Place) → IsTrue (names c q) → Within (if b then range_of c.num else items_span p c) (initial_store p q)) [
    | true ↦ λ q n. subst (λ (v : ℕ). Within (range_of c.num) (get_or (initial_values p v) (index_of (layout_of p v) q.parts) (pos 0))) (var_is c q n)
        (let z : 0 + index_of (layout_of p c.var) q.parts ≡ index_of (layout_of p c.var) q.parts = omega arith in
        of_within c.num _ (subst (λ (i : ℕ). is_of c.num (get_or (initial_values p c.var) i (pos 0)) ≡ true) z (items_fit p t c.var (index_of (layout_of p c.var) q.parts) c.num (l.0 q n))))
    | false ↦ λ q n. subst (λ (v : ℕ). Within (items_span p c) (get_or (initial_values p v) (index_of (layout_of p v) q.parts) (pos 0))) (var_is c q n) (h.0 q n)
  ],
  begin_spans_hold p t cs l.1 h.1,
)
  where
    var_is : (c : Cell) (q : Place) → names c q ≡ true → c.var ≡ q.var
    var_is c q n = number_is c.var q.var (and_left (c.var == q.var) (covers c.steps q.parts) (and_right (is_root q.path) (c.var == q.var && covers c.steps q.parts) n))

pub begin_holds : (p : Program) → IsTyped p → Holds p (initial_env p) (initial_store p) (pos 0)
begin_holds p t = record { cells = begin_spans_hold p t (cells p) (cell_leads p) (cell_begins p); clock = single_within (pos 0) }

pub begin_fair : (p : Program) → IsTyped p → (m : ℤ) → pos 0 ≤ℤ m → IsFair p m (initial_env p)
begin_fair p t m some = record { ordered = omega (arith, ints); clock = record { above = omega (arith, ints); below = some }; cells = begin_spans_in p (cells p) (items_in p t) }
