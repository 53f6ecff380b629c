-- Each simple statement is sound, and keeps environments fair.
use Rattle.std.proofs.lemmas.Bool.Decides.{nat_tests}
use Rattle.std.proofs.Common.{◌≡◌, ℕ, ℤ, pos, Bool, true, false, ◌&&◌, List, [], ◌∷◌, ◌++◌, refl, sym, ap, subst, ◌∙◌, arith, Option, Some}
use Rattle.std.specs.Prelude.{get_or, ◌==◌}
use Rattle.sa_base.specs.declared.num.Num.{Num}
use Rattle.sa_base.specs.declared.pos.Pos.{Pos}
use Rattle.sa_interval.specs.Span.{Span, Within}
use Rattle.sa_typed.specs.Arithmetic.{operate, converted}
use Rattle.sa_typed.specs.Layouts.{Layout, leaf, nums, index_of, layout_of, num_in}
use Rattle.sa_typed.specs.Evaluation.{Setting, Gives, Here, Store, then_value, given, place_of, eval, read_place}
use Rattle.sa_typed.specs.Executions.{same_path, same_var, strong_update, filled, any_numbers, converted_value, declare_value, compound_value, simple_value}
use Rattle.sa_typed.specs.Cells.{Cell, cells, covers, names, is_root}
use Rattle.sa_typed.specs.WellTyped.{IsTyped, IsTypedSimple, IsTypedStart, IsTypedExpr, IsLink, type_of}
use Rattle.sa_typed.specs.declared.expr.Expr.{Expr}
use Rattle.sa_typed.specs.declared.expr.Expr.TheVariants as e
use Rattle.sa_typed.specs.declared.expr.Access.{Access}
use Rattle.sa_typed.specs.declared.expr.Operator.{Operator}
use Rattle.sa_typed.specs.declared.stmt.Start.{Start}
use Rattle.sa_typed.specs.declared.stmt.Start.TheVariants as begins
use Rattle.sa_typed.specs.declared.stmt.Simple.{Simple}
use Rattle.sa_typed.specs.declared.stmt.Simple.TheVariants.{Declare, Assign, Compound, Copy}
use Rattle.sa_typed.specs.declared.program.Place.{Place}
use Rattle.sa_typed.specs.declared.program.Program.{Program}
use Rattle.sa_base.specs.declared.num.Num.TheVariants.{I32}
use Rattle.sa_reference.specs.declared.flat.Flat.{Flat}
use Rattle.sa_operators.specs.Operators.{IsIn, range_of, operator_alarms}
use Rattle.sa_reference.specs.Environments.{Holds, cell_range, items_span, initial_values}
use Rattle.sa_reference.specs.Values.{span_of, alarms_of, named, read_cells, access_cells, linked, with_both}
use Rattle.sa_reference.specs.Assignments.{set_cells, with_cells, assign_to, value_as, read_of, declare_of, declare_alarms, simple_of, simple_alarms, assign_alarms}
use Rattle.sa_reference.specs.Fair.{AreIn, IsFair}
use Rattle.sa_reference.specs.Sound.{IsWithin}
use Rattle.sa_reference.proofs.Laws.{IfAlive, Covers, main_here}
use Rattle.sa_reference.proofs.SpanLaws.{and_left, and_right, both_true}
use Rattle.sa_reference.proofs.EnvLaws.{range_in}
use Rattle.sa_reference.proofs.ValueLaws.{OperatorFacts, InSpan, span_in, known, both_cover, then_covers, link_covers, link_in, convert_covers, convert_in}
use Rattle.sa_reference.proofs.AccessLaws.{Led, led, cells_known, whole_named, whole_of}
use Rattle.sa_reference.proofs.InitialLaws.{AreNumbers, any_cover, of_within}
use Rattle.sa_reference.proofs.StructLaws.{copy_sound, copy_keeps}
use Rattle.sa_reference.proofs.AssignLaws.{HoldsAfter, assign_holds, assign_fair, set_in, set_holds, cell_leads, cell_begins, items_in, all_map, all_each}

number_is : (k i : ℕ) → (k == i) ≡ true → k ≡ i
number_is k i h = grind (arith, nat_tests)

module _ (p : Program) (w : Setting) (F : OperatorFacts) (within : IsWithin p w) (store : Store) (time : ℤ) (env : Flat) (fair : AreIn (cells p) env.cells) (holds : Holds p env store time) where
  abbrev here : Here
  here = main_here time

  value_known : (a : Expr) → IsTypedExpr p a → (tape : List ℤ) → Covers (InSpan (span_of p w env a)) (alarms_of p w env a) (eval w here store a tape)
  value_known a t tape = known p w F within time store env fair holds.cells a t tape

  value_in : (a : Expr) → IsTypedExpr p a → IfAlive (λ s. IsIn (type_of a) s) (span_of p w env a)
  value_in a t = span_in p w F within env fair a t

  -- a value as it is assigned
  converted_known : (num : Num) (q : Pos) (a : Expr) → IsTypedExpr p a → (tape : List ℤ) →
      Covers (InSpan (value_as num (span_of p w env a))) (alarms_of p w env a ++ assign_alarms num q (span_of p w env a)) (converted_value w here store num q a tape)
  converted_known num q a t tape =
      both_cover (InSpan (span_of p w env a)) (InSpan (value_as num (span_of p w env a))) (alarms_of p w env a) (assign_alarms num q (span_of p w env a)) (eval w here store a tape)
      (λ z tape. given q (converted num z) tape) (value_known a t tape)
      (λ z tape i. convert_covers F q (type_of a) num (span_of p w env a) z tape (value_in a t) i)

  compound_known : (num : Num) (op : Operator) (work : Num) (q : Pos) (o : Option Span) (x : ℤ) (a : Expr) → IsTypedExpr p a → IsLink op num work (type_of a) → IfAlive (λ s. IsIn num s) o → InSpan o x → (tape : List ℤ) →
      Covers (InSpan (value_as num (linked op work o (span_of p w env a))))
      (alarms_of p w env a ++ (with_both o (span_of p w env a) (operator_alarms op q work) ++ assign_alarms num q (linked op work o (span_of p w env a))))
      (compound_value w here store num op work q x a tape)
  compound_known num op work q o x a t l h i tape =
      let s = span_of p w env a in
      both_cover (InSpan s) (InSpan (value_as num (linked op work o s))) (alarms_of p w env a) (with_both o s (operator_alarms op q work) ++ assign_alarms num q (linked op work o s)) (eval w here store a tape)
      (λ y tape. then_value (given q (operate op work x y) tape) (λ z tape. given q (converted num z) tape)) (value_known a t tape)
      (λ y tape j. both_cover (InSpan (linked op work o s)) (InSpan (value_as num (linked op work o s))) (with_both o s (operator_alarms op q work)) (assign_alarms num q (linked op work o s)) (given q (operate op work x y) tape)
      (λ z tape. given q (converted num z) tape) (link_covers F op q num work (type_of a) o s x y tape l h (value_in a t) i j)
      (λ z tape k. convert_covers F q _ num (linked op work o s) z tape (link_in F op num work (type_of a) o s l h (value_in a t)) k))

  -- ---- declarations
  abbrev zs_of : ℕ → List ℤ
  zs_of v = initial_values p v

  -- a place that a cell of the variable stands for is one of its elements
  filled_is : (v : ℕ) (zs : List ℤ) (c : Cell) (q : Place) → c.var ≡ v → names c q ≡ true → filled p here v zs store q ≡ get_or zs (index_of (layout_of p c.var) q.parts) (pos 0)
  filled_is v zs c q e n =
      let m = and_left (c.var == q.var) (covers c.steps q.parts) (and_right (is_root q.path) (c.var == q.var && covers c.steps q.parts) n) in
      let is : q.var ≡ v = sym (number_is c.var q.var m) ∙ e in
      let root : same_path q.path [] ≡ true = rooted q.path (and_left (is_root q.path) (c.var == q.var && covers c.steps q.parts) n) in
      let var : (q.var == v) ≡ true = grind (arith, nat_tests) in
      rw (both_true (same_path q.path []) (q.var == v) root var) (ap (λ (u : ℕ). get_or zs (index_of (layout_of p u) q.parts) (pos 0)) (sym e))
    where
      rooted : (ps : List Pos) → is_root ps ≡ true → same_path ps [] ≡ true
      rooted [] h = refl
      rooted (x ∷ xs) h = cc

  filled_else : (v : ℕ) (zs : List ℤ) (q : Place) → (q.var == v) ≡ false → filled p here v zs store q ≡ store q
  filled_else v zs q h = let f : same_var q (place_of here v []) ≡ false = last (same_path q.path []) h in rw f refl
    where
      last : (a : Bool) → (q.var == v) ≡ false → (a && (q.var == v)) ≡ false
      last true h = h
      last false h = refl

  any_holds : (v : ℕ) (zs : List ℤ) → AreNumbers (nums (layout_of p v)) zs → Holds p (with_cells env (set_cells cell_range v (cells p) env.cells)) (filled p here v zs store) time
  unfolding cell_range
  any_holds v zs a = record {
    cells = set_holds cell_range v store (filled p here v zs store) (cells p) env.cells
        (all_map _ _ (cells p) (λ c l e q n.
        subst (λ (z : ℤ). Within (range_of c.num) z) (sym (filled_is v zs c q e n))
        (of_within c.num _ (subst (λ (u : ℕ). AreNumbers (nums (layout_of p u)) zs) (sym e) a (index_of (layout_of p c.var) q.parts) c.num (l q n)))) (cell_leads p))
        (filled_else v zs) holds.cells;
    clock = holds.clock;
  }

  items_hold : (v : ℕ) → Holds p (with_cells env (set_cells (items_span p) v (cells p) env.cells)) (filled p here v (zs_of v) store) time
  items_hold v = record {
    cells = set_holds (items_span p) v store (filled p here v (zs_of v) store) (cells p) env.cells
        (all_map _ _ (cells p) (λ c l e q n.
        subst (λ (z : ℤ). Within (items_span p c) z) (sym (filled_is v (zs_of v) c q e n))
        (subst (λ (u : ℕ). Within (items_span p c) (get_or (zs_of u) (index_of (layout_of p c.var) q.parts) (pos 0))) e (l q n))) (cell_begins p))
        (filled_else v (zs_of v)) holds.cells;
    clock = holds.clock;
  }

  declare_sound : (v : ℕ) (s : Start) (tape : List ℤ) → IsTypedStart p v s →
      Covers (λ st. HoldsAfter p time (declare_of p w v s env) st) (declare_alarms p w v s env) (declare_value p w here v s store tape)
  unfolding declare_of declare_alarms declare_value
  declare_sound v begins.Any tape t =
      then_covers (AreNumbers (nums (layout_of p v))) (λ st. HoldsAfter p time (declare_of p w v begins.Any env) st) [] [] [] (any_numbers (nums (layout_of p v)) tape)
      (λ zs tape. Gives (filled p here v zs store) tape) (any_cover (nums (layout_of p v)) tape) (λ a m. m) (λ a m. m) (λ zs tape a. any_holds v zs a)
  declare_sound v (begins.Value q a) tape t =
      let num = num_in (layout_of p v) in
      let is : layout_of p v ≡ leaf num = leaf_is (layout_of p v) t.1.0 t.1.1 in
      then_covers (InSpan (value_as num (span_of p w env a))) (λ st. HoldsAfter p time (declare_of p w v (begins.Value q a) env) st) (alarms_of p w env a ++ assign_alarms num q (span_of p w env a)) []
      (alarms_of p w env a ++ assign_alarms num q (span_of p w env a)) (converted_value w here store num q a tape) (λ z tape. Gives (strong_update (place_of here v []) z store) tape)
      (converted_known num q a t.0 tape) (λ a m. m) (λ a m. absurd m)
      (λ z tape i. assign_holds p env store time (place_of here v []) z (Some (named p v [])) (value_as num (span_of p w env a)) holds
      (whole_named p v num is) i)
    where
      leaf_is : (l : Layout) (num : Num) → l ≡ leaf num → l ≡ leaf (num_in l)
      leaf_is l num h = h ∙ ap leaf (sym (ap num_in h))
  declare_sound v begins.Items tape t = items_hold v

  -- ---- assignments
  assign_sound : (x : Access) (num : Num) (q : Pos) (a : Expr) (tape : List ℤ) → IsTypedSimple p (Assign x num q a) →
      Covers (λ st. HoldsAfter p time (simple_of p w (Assign x num q a) env) st) (simple_alarms p w (Assign x num q a) env) (simple_value p w here (Assign x num q a) store tape)
  unfolding simple_of simple_alarms simple_value
  assign_sound x num q a tape t =
      let r = e.Read x I32 in
      let s = value_as num (span_of p w env a) in
      both_cover (Led p w F within time store env fair holds.cells r) (λ st. HoldsAfter p time (assign_to p env (read_cells p w env r) s) st) (alarms_of p w env r)
      (alarms_of p w env a ++ assign_alarms num q (span_of p w env a)) (read_place w here store r tape)
      (λ at tape. then_value (converted_value w here store num q a tape) (λ z tape. Gives (strong_update at z store) tape)) (led p w F within time store env fair holds.cells r num t.0 tape)
      (λ at tape l. then_covers (InSpan s) (λ st. HoldsAfter p time (assign_to p env (read_cells p w env r) s) st) (alarms_of p w env a ++ assign_alarms num q (span_of p w env a)) []
      (alarms_of p w env a ++ assign_alarms num q (span_of p w env a)) (converted_value w here store num q a tape) (λ z tape. Gives (strong_update at z store) tape) (converted_known num q a t.1 tape) (λ a m. m) (λ a m. absurd m)
      (λ z tape i. assign_holds p env store time at z (read_cells p w env r) s holds l.named i))

  compound_sound : (x : Access) (num : Num) (op : Operator) (q : Pos) (work : Num) (a : Expr) (tape : List ℤ) → IsTypedSimple p (Compound x num op q work a) →
      Covers (λ st. HoldsAfter p time (simple_of p w (Compound x num op q work a) env) st) (simple_alarms p w (Compound x num op q work a) env) (simple_value p w here (Compound x num op q work a) store tape)
  unfolding simple_of simple_alarms simple_value
  compound_sound x num op q work a tape t =
      let r = e.Read x I32 in
      let o = read_of env (read_cells p w env r) in
      let s = value_as num (linked op work o (span_of p w env a)) in
      let more = alarms_of p w env a ++ (with_both o (span_of p w env a) (operator_alarms op q work) ++ assign_alarms num q (linked op work o (span_of p w env a))) in
      both_cover (Led p w F within time store env fair holds.cells r) (λ st. HoldsAfter p time (assign_to p env (read_cells p w env r) s) st) (alarms_of p w env r) more (read_place w here store r tape)
      (λ at tape. then_value (compound_value w here store num op work q (store at) a tape) (λ z tape. Gives (strong_update at z store) tape)) (led p w F within time store env fair holds.cells r num t.0 tape)
      (λ at tape l. then_covers (InSpan s) (λ st. HoldsAfter p time (assign_to p env (read_cells p w env r) s) st) more [] more (compound_value w here store num op work q (store at) a tape)
      (λ z tape. Gives (strong_update at z store) tape)
      (compound_known num op work q o (store at) a t.1.0 t.1.1 (cells_known p w F within env fair r num t.0).reads l.reads tape) (λ a m. m) (λ a m. absurd m)
      (λ z tape i. assign_holds p env store time at z (read_cells p w env r) s holds l.named i))

-- ---- what statements keep
module _ (p : Program) (w : Setting) (F : OperatorFacts) (within : IsWithin p w) (typed : IsTyped p) (m : ℤ) (env : Flat) (fair : IsFair p m env) where
  value_as_in : (num : Num) (a : Expr) → IsTypedExpr p a → IfAlive (λ s. IsIn num s) (value_as num (span_of p w env a))
  value_as_in num a t = convert_in F (type_of a) num (span_of p w env a) (span_in p w F within env fair.cells a t)

  declare_keeps : (v : ℕ) (s : Start) → IsTypedStart p v s → IfAlive (IsFair p m) (declare_of p w v s env)
  unfolding declare_of cell_range
  declare_keeps v begins.Any t = record { ordered = fair.ordered; clock = fair.clock; cells = set_in cell_range v (cells p) env.cells (all_each _ (cells p) (λ c e. range_in c.num)) fair.cells }
  declare_keeps v begins.Items t = record {
    ordered = fair.ordered;
    clock = fair.clock;
    cells = set_in (items_span p) v (cells p) env.cells (all_map _ _ (cells p) (λ c h e. h) (items_in p typed)) fair.cells;
  }
  declare_keeps v (begins.Value q a) t =
      let num = num_in (layout_of p v) in
      assign_fair p m env num (Some (named p v [])) (value_as num (span_of p w env a)) fair
      (whole_of p w F within env fair.cells v num (leaf_is (layout_of p v) t.1.0 t.1.1)) (value_as_in num a t.0)
    where
      leaf_is : (l : Layout) (num : Num) → l ≡ leaf num → l ≡ leaf (num_in l)
      leaf_is l num h = h ∙ ap leaf (sym (ap num_in h))

  assign_keeps : (x : Access) (num : Num) (q : Pos) (a : Expr) → IsTypedSimple p (Assign x num q a) → IfAlive (IsFair p m) (simple_of p w (Assign x num q a) env)
  unfolding simple_of
  assign_keeps x num q a t = assign_fair p m env num (access_cells p w env x) _ fair (cells_known p w F within env fair.cells (e.Read x I32) num t.0).types (value_as_in num a t.1)

  compound_keeps : (x : Access) (num : Num) (op : Operator) (q : Pos) (work : Num) (a : Expr) → IsTypedSimple p (Compound x num op q work a) → IfAlive (IsFair p m) (simple_of p w (Compound x num op q work a) env)
  unfolding simple_of
  compound_keeps x num op q work a t =
      let k = cells_known p w F within env fair.cells (e.Read x I32) num t.0 in
      let o = read_of env (access_cells p w env x) in
      assign_fair p m env num (access_cells p w env x) _ fair k.types
      (convert_in F _ num (linked op work o (span_of p w env a)) (link_in F op num work (type_of a) o (span_of p w env a) t.1.1 k.reads (span_in p w F within env fair.cells a t.1.0)))

-- ---- every simple statement
pub simple_sound : (p : Program) (w : Setting) (F : OperatorFacts) → IsWithin p w → (store : Store) (time : ℤ) (env : Flat) → AreIn (cells p) env.cells → Holds p env store time →
    (s : Simple) (tape : List ℤ) → IsTypedSimple p s → Covers (λ st. HoldsAfter p time (simple_of p w s env) st) (simple_alarms p w s env) (simple_value p w (main_here time) s store tape)
unfolding simple_of simple_alarms simple_value
simple_sound p w F within store time env fair holds (Declare v s) tape t = declare_sound p w F within store time env fair holds v s tape t
simple_sound p w F within store time env fair holds (Assign x num q a) tape t = assign_sound p w F within store time env fair holds x num q a tape t
simple_sound p w F within store time env fair holds (Compound x num op q work a) tape t = compound_sound p w F within store time env fair holds x num op q work a tape t
simple_sound p w F within store time env fair holds (Copy k x q y) tape t = copy_sound p w F within store time env fair holds k x q y tape t

pub simple_keeps : (p : Program) (w : Setting) (F : OperatorFacts) → IsWithin p w → IsTyped p → (m : ℤ) (env : Flat) → IsFair p m env → (s : Simple) → IsTypedSimple p s → IfAlive (IsFair p m) (simple_of p w s env)
unfolding simple_of
simple_keeps p w F within typed m env fair (Declare v s) t = declare_keeps p w F within typed m env fair v s t
simple_keeps p w F within typed m env fair (Assign x num q a) t = assign_keeps p w F within typed m env fair x num q a t
simple_keeps p w F within typed m env fair (Compound x num op q work a) t = compound_keeps p w F within typed m env fair x num op q work a t
simple_keeps p w F within typed m env fair (Copy k x q y) t = copy_keeps p w m env fair k x q y t
