-- Lowered expressions and places keep types and frames: each cell that a place of a call may reach is of the place's type.
use Rattle.std.proofs.Common.{◌≡◌, ℕ, ◌+◌, ◌*◌, ◌<◌, ℤ, pos, negsuc, ◌≤ℤ◌, true, false, ◌&&◌, List, [], ◌∷◌, ◌++◌, refl, sym, subst, arith, Option, Some, None}
use Rattle.std.specs.Prelude.{if◌then◌else◌, IsTrue, unsigned_abs, map, slice_get, Result, Ok, Err}
use Rattle.std.specs.Int.RustNames.{int_le, int_lt}
use Rattle.std.specs.List.{AllByRecursion}
use Rattle.std.proofs.lemmas.Int.{ints}
use Rattle.sa_base.specs.declared.alarm.Kind.{Kind}
use Rattle.sa_base.specs.declared.num.Num.{Num}
use Rattle.sa_base.specs.declared.pos.Pos.{Pos}
use Rattle.sa_base.specs.declared.num.Num.TheVariants.{I32}
use Rattle.sa_interval.specs.Span.{Span, IsPart}
use Rattle.sa_interval.specs.Rows.{single}
use Rattle.sa_operators.specs.Operators.{IsIn}
use Rattle.sa_typed.specs.Arithmetic.{is_of, result_type, prefix_type}
use Rattle.sa_typed.specs.Constants.{is_constant, constant_value, element_of, fixed_index}
use Rattle.sa_typed.specs.Layouts.{Layout, Layouts, leaf, row, fields, nth_field, or_nothing, layout_of}
use Rattle.sa_typed.specs.Evaluation.{within}
use Rattle.sa_typed.specs.WellTyped.{type_of, links_type, steps_layout, num_of_input}
use Rattle.sa_typed.specs.declared.expr.Expr.{Expr, Number, Read', Input, Prefix', Cast', Chain', And', Or', Choice', end_of-Expr, more_of-Expr, Row_of-Expr, Row_of-Link, end_of-Link, more_of-Link, Row_of-Step, end_of-Step, more_of-Step}
use Rattle.sa_typed.specs.declared.expr.Step.{At', Field}
use Rattle.sa_typed.specs.declared.shape.Part.TheVariants as part
use Rattle.sa_typed.specs.declared.program.Place.{Place}
use Rattle.sa_typed.specs.declared.program.Program.{Program}
use Rattle.sa_ir.specs.declared.expr.Row.{Row}
use Rattle.sa_ir.specs.declared.expr.Row.TheVariants as rows
use Rattle.sa_ir.specs.declared.frame.Kept.{Kept}
use Rattle.sa_ir.specs.Frames.{Frame as Call}
use Rattle.sa_ir.specs.Places.{stride_of, cells_to, kept_row, folded, moved_by as folded_cells, row_for, lowered, all_lowered, lowered_links, steps_cells, steps_rows}
use Rattle.sa_ir.specs.Sizes.{cells_before}
use Rattle.sa_flat.specs.Domain.{Domain}
use Rattle.sa_flat.specs.Meanings.{Meaning, Target, Cells, at_cell, moved_by, operation, and_of, or_of}
use Rattle.sa_flat.specs.Expressions.{meaning, reach}
use Rattle.sa_flat.proofs.Lawful.{Lawful, anywhere, IfAlive}
use Rattle.sa_flat.proofs.Goods.{Good, if_alive_is}
use Rattle.sa_flat.proofs.Operands.{le_fact, and_left, and_right}
use Rattle.sa_flat.proofs.MeaningLaws.{Fit, plain_fit, operation_fit, prefix_fit, cast_fit}
use Rattle.sa_flat.proofs.LogicLaws.{and_fit, or_fit, choice_fit}
use Rattle.sa_flat.proofs.TargetLaws.{IsOfType, AllOfType, Leads, read_fit}
use Rattle.sa_flat.proofs.LaidLaws.{Laid, laid_field, step_leads, row_step, field_step, Roams, index_roams, kept_roams}
use Rattle.sa_flat.proofs.Rolls.{after_links, after_ands, after_ors, after_rows, number_meaning, input_meaning, prefix_meaning, cast_meaning, choice_meaning, chain_meaning, and_meaning, or_meaning, read_meaning, at_reach, kept_reach}
use Rattle.sa_flat.proofs.WalkPremises.{Walks, SomeWalk, AllWalk, LinksWalk}

-- ---- indices that are folded
pub record IsFolded (n i : ℕ) (a : Expr) : Type 0 where
  pub constant : is_constant a ≡ true
  pub value : ℤ
  pub ok : constant_value a ≡ Ok value
  pub inside : (int_le (pos 0) value && int_lt value (pos n)) ≡ true
  pub element : i ≡ unsigned_abs value

folded_value : (n i : ℕ) (a : Expr) (r : Result ℤ Kind) → is_constant a ≡ true → constant_value a ≡ r → element_of n r ≡ Some i → IsFolded n i a
folded_value n i a (Ok z) c e h =
    elim (int_le (pos 0) z && int_lt z (pos n)) as (λ b. (int_le (pos 0) z && int_lt z (pos n)) ≡ b → (if b then Some (unsigned_abs z) else None) ≡ Some i → IsFolded n i a) [
      | true ↦ λ t k. record { constant = c; value = z; ok = e; inside = t; element = cc }
      | false ↦ λ t k. cc
    ] refl h
folded_value n i a (Err kind) c e h = cc

pub folded_is : (n i : ℕ) (a : Expr) → folded n a ≡ Some i → IsFolded n i a
unfolding fixed_index
folded_is n i a h =
    elim (is_constant a) as (λ b. is_constant a ≡ b → (if b then element_of n (constant_value a) else None) ≡ Some i → IsFolded n i a) [
      | true ↦ λ c h. folded_value n i a (constant_value a) c refl h
      | false ↦ λ c h. cc
    ] refl h

pub folded_less : (n i : ℕ) (a : Expr) → IsFolded n i a → i < n
folded_less n i a h = let t = h.inside in rw h.element (below h.value h.inside)
  where
    below : (z : ℤ) → (int_le (pos 0) z && int_lt z (pos n)) ≡ true → unsigned_abs z < n
    below (pos k) t = grind (arith, ints)
    below (negsuc k) t = cc

module _ (D : Domain) (x : Cells) where
  pub after_append : (qs rs : List Row) (t : Target D.Env) → after_rows D x (qs ++ rs) t ≡ after_rows D x rs (after_rows D x qs t)
  after_append [] rs t = refl
  after_append (q ∷ qs) rs t = after_append qs rs (moved_by D t (reach D x q))

module _ (p : Program) (fr : Call) (x : Cells) (D : Domain) (L : Lawful x D) (ok : ℕ → Type 0) where
  -- a number of the type in this cell, wherever its place is
  abbrev pub OfType : Num → ℕ → Place → Type 0
  OfType num c a = IsOfType x D L num c

  -- all indices that may be kept lead from this cell to objects of the layout
  abbrev pub RowsRoam : Layout → List Kept → ℕ → Type 0
  RowsRoam l [] c = (a : Place) × Laid OfType l c a
  RowsRoam l (r ∷ rs) c = L.IsCell r.cell × ((k : ℕ) → k < r.size → RowsRoam l rs (c + k * r.stride))

  abbrev pub FrameFits : Type 0
  FrameFits = (v : ℕ) → ok v → RowsRoam (layout_of p v) (fr.base v).rows (fr.base v).first

  -- the range of each input lies in its type, at all clocks
  abbrev pub InputsFit : Type 0
  InputsFit = (k : ℕ) (num : Num) → num_of_input (slice_get p.inputs k) ≡ Some num → (s : Span) → s.lo ≤ℤ s.hi → IsPart s x.clocks → IsIn num (x.input k s)

  -- a cell so many before which an object of the layout begins
  abbrev pub LaidAt : Layout → ℕ → ℕ → Type 0
  LaidAt l m c = (b : ℕ) × (a : Place) × (c ≡ b + m) × Laid OfType l b a

  abbrev RoamAt : Layout → List Kept → ℕ → ℕ → Type 0
  RoamAt l rs m c = (b : ℕ) × (c ≡ b + m) × RowsRoam l rs b

  roams_is : (S U : ℕ → Type 0) (t : Target D.Env) → ((c : ℕ) → S c → U c) → Roams x D L S t → Roams x D L U t
  roams_is S U t k h f env g = if_alive_is (AllByRecursion S) (AllByRecursion U) (t.cells env) (λ cs s. all cs s) (h f env g)
    where
      all : (cs : List ℕ) → AllByRecursion S cs → AllByRecursion U cs
      all [] s = tt
      all (c ∷ cs) s = (k c s.0, all cs s.1)

  base_roams : (l : Layout) (rs : List Kept) (m : ℕ) (t : Target D.Env) → Roams x D L (RoamAt l rs m) t → Roams x D L (LaidAt l m) (after_rows D x (map kept_row rs) t)
  base_roams l [] m t h = roams_is (RoamAt l [] m) (LaidAt l m) t (λ c s. (s.0, s.2.0, s.1, s.2.1)) h
  base_roams l (r ∷ rs) m t h =
      base_roams l rs m (moved_by D t (reach D x (rows.Kept r.cell r.size r.stride)))
      (subst (λ (q : _). Roams x D L (RoamAt l rs m) (moved_by D t q)) (sym (kept_reach D x r.cell r.size r.stride))
      (kept_roams x D L (RoamAt l (r ∷ rs) m) (RoamAt l rs m) r.cell r.size r.stride t h (λ c k s less. (s.0 + k * r.stride, moved_sum c s.0 m (k * r.stride) s.1, s.2.1 k less))))
    where
      moved_sum : (c b m d : ℕ) → c ≡ b + m → c + d ≡ (b + d) + m
      moved_sum c b m d e = omega (arith, e)

  one_cell : (S : ℕ → Type 0) (c : ℕ) → S c → Roams x D L S (at_cell D c)
  one_cell S c h f env g = (h, tt)

  leads_of : (num : Num) (t : Target D.Env) → IfAlive L.IsCell t.fixed → Roams x D L (LaidAt (leaf num) 0) t → Leads x D L num t
  unfolding Laid
  leads_of num t fixed h = record {
    cells = λ f env g. if_alive_is (AllByRecursion (LaidAt (leaf num) 0)) (AllOfType x D L num) (t.cells env) (λ cs s. all cs s) (h f env g);
    fixed = fixed;
  }
    where
      all : (cs : List ℕ) → AllByRecursion (LaidAt (leaf num) 0) cs → AllOfType x D L num cs
      all [] s = tt
      all (c ∷ cs) s =
          let b = s.0.0 in
          let same : c ≡ b = let e = s.0.2 in omega (arith, e) in
          (subst (λ (c : ℕ). IsOfType x D L num c) (sym same) s.0.3, all cs s.1)

  fixed_rows : (qs : List Row) (t : Target D.Env) → IfAlive L.IsCell t.fixed → IfAlive L.IsCell (after_rows D x qs t).fixed
  fixed_rows [] t h = h
  fixed_rows (q ∷ qs) t h = fixed_rows qs (moved_by D t (reach D x q)) tt

  -- some environment that is good
  top_good : Good x D L anywhere (D.top x.clocks)
  top_good = record { under = L.top_keeps.0; closed = L.top_keeps.1 }

  laid_cell : (num : Num) (c : ℕ) → LaidAt (leaf num) 0 c → L.IsCell c
  unfolding Laid
  laid_cell num c s = let b = s.0 in let e = s.2 in let same : c ≡ b = omega (arith, e) in subst (λ (c : ℕ). L.IsCell c) (sym same) s.3.cell

  -- a place without rows is a cell of the object
  fixed_start : (qs : List Row) (c : ℕ) (num : Num) → Roams x D L (LaidAt (leaf num) 0) (after_rows D x qs (at_cell D c)) → IfAlive L.IsCell (after_rows D x qs (at_cell D c)).fixed
  fixed_start [] c num h = laid_cell num c (h anywhere (D.top x.clocks) top_good).0
  fixed_start (q ∷ qs) c num h = fixed_rows qs (moved_by D (at_cell D c) (reach D x q)) tt

  pub leads_place : (qs : List Row) (c : ℕ) (num : Num) → Roams x D L (LaidAt (leaf num) 0) (after_rows D x qs (at_cell D c)) → Leads x D L num (after_rows D x qs (at_cell D c))
  leads_place qs c num h = leads_of num (after_rows D x qs (at_cell D c)) (fixed_start qs c num h) h

  -- ---- steps
  laid_row : (n : ℕ) (l : Layout) (b i : ℕ) (a : Place) → Laid OfType (row n l) b a → i < n → Laid OfType l (b + i * stride_of (row n l)) (within a (part.At i ∷ []))
  unfolding Laid
  laid_row n l b i a h less = h i less

  laid_of_field : (ls : Layouts) (l : Layout) (b f : ℕ) (a : Place) → Laid OfType (fields ls) b a → nth_field ls f ≡ Some l → Laid OfType l (b + cells_to (fields ls) f) (within a (part.Field f ∷ []))
  unfolding Laid cells_to
  laid_of_field ls l b f a h e =
      let k = laid_field OfType ls b 0 f a l h e in
      let same : 0 + f ≡ f = omega arith in
      subst (λ (f' : ℕ). Laid OfType l (b + cells_before ls f) (within a (part.Field f' ∷ []))) same k

  -- the layout of a field as it is read by its number
  field_is : (ls : Layouts) (l : Layout) (f : ℕ) → nth_field ls f ≡ Some l → or_nothing (nth_field ls f) ≡ l
  field_is ls l f e = rw e refl

  step_sum : (c b m d : ℕ) → c ≡ b + (d + m) → c ≡ (b + d) + m
  step_sum c b m d e = omega (arith, e)

  moved_on : (c b m d : ℕ) → c ≡ b + m → c + d ≡ (b + d) + m
  moved_on c b m d e = omega (arith, e)

  none_sum : (c b m : ℕ) → c ≡ b + (0 + m) → c ≡ b + m
  none_sum c b m e = omega (arith, e)

  -- what the steps behind a step owe
  abbrev RestRoams : {n : _} → Row_of-Step n → Layout → Layout → Type 0
  RestRoams rest m k = (t : Target D.Env) → Roams x D L (LaidAt m (steps_cells m rest)) t → Roams x D L (LaidAt k 0) (after_rows D x (steps_rows p fr m rest) t)

  index_step : {j : _} (q : Pos) (n : ℕ) (a : Expr) (rest : Row_of-Step j) (m k : Layout) (t : Target D.Env) (o : Option ℕ) → folded n a ≡ o → RestRoams rest m k →
      Roams x D L (LaidAt (row n m) (folded_cells o (stride_of (row n m)) + steps_cells m rest)) t →
      Roams x D L (LaidAt k 0) (after_rows D x (row_for o (rows.At q n (stride_of (row n m)) (lowered p fr a)) ++ steps_rows p fr m rest) t)
  index_step q n a rest m k t None e more h =
      more (moved_by D t (reach D x (rows.At q n (stride_of (row n m)) (lowered p fr a))))
      (subst (λ (r : _). Roams x D L (LaidAt m (steps_cells m rest)) (moved_by D t r)) (sym (at_reach D x q n (stride_of (row n m)) (lowered p fr a)))
      (index_roams x D L (LaidAt (row n m) (0 + steps_cells m rest)) (LaidAt m (steps_cells m rest)) q n (stride_of (row n m)) t (meaning D x (lowered p fr a)) h
      (λ c i s less. (s.0 + i * stride_of (row n m), within s.1 (part.At i ∷ []), moved_on c s.0 (steps_cells m rest) (i * stride_of (row n m)) (none_sum c s.0 (steps_cells m rest) s.2), laid_row n m s.0 i s.1 s.3 less))))
  index_step q n a rest m k t (Some i) e more h =
      let less = folded_less n i a (folded_is n i a e) in
      more t (roams_is (LaidAt (row n m) (i * stride_of (row n m) + steps_cells m rest)) (LaidAt m (steps_cells m rest)) t
      (λ c s. (s.0 + i * stride_of (row n m), within s.1 (part.At i ∷ []), step_sum c s.0 (steps_cells m rest) (i * stride_of (row n m)) s.2, laid_row n m s.0 i s.1 s.3 less)) h)

  field_roams : {j : _} (f : ℕ) (rest : Row_of-Step j) (ls : Layouts) (m k u : Layout) (t : Target D.Env) → nth_field ls f ≡ Some m → u ≡ m → RestRoams rest m k →
      Roams x D L (LaidAt (fields ls) (cells_to (fields ls) f + steps_cells u rest)) t → Roams x D L (LaidAt k 0) (after_rows D x (steps_rows p fr u rest) t)
  field_roams f rest ls m k u t e same more h =
      subst (λ (u : Layout). Roams x D L (LaidAt (fields ls) (cells_to (fields ls) f + steps_cells u rest)) t → Roams x D L (LaidAt k 0) (after_rows D x (steps_rows p fr u rest) t)) (sym same)
      (λ h. more t (roams_is (LaidAt (fields ls) (cells_to (fields ls) f + steps_cells m rest)) (LaidAt m (steps_cells m rest)) t
      (λ c s. (s.0 + cells_to (fields ls) f, within s.1 (part.Field f ∷ []), step_sum c s.0 (steps_cells m rest) (cells_to (fields ls) f) s.2, laid_of_field ls m s.0 f s.1 s.3 e)) h)) h

  pub steps_roam : {n : _} (r : Row_of-Step n) (l k : Layout) (t : Target D.Env) → steps_layout (Some l) r ≡ Some k → Roams x D L (LaidAt l (steps_cells l r)) t →
      Roams x D L (LaidAt k 0) (after_rows D x (steps_rows p fr l r) t)
  unfolding lowered steps_layout
  steps_roam end_of-Step l k t e h = let is : l ≡ k = cc in subst (λ (k : Layout). Roams x D L (LaidAt k 0) t) is h
  steps_roam (more_of-Step (At' q n j (more_of-Expr a end_of-Expr)) rest) l k t e h =
      step_leads l k (At' q n j (more_of-Expr a end_of-Expr)) rest e (λ m is g. row_step l m q n j a is (λ same.
      subst (λ (l : Layout). Roams x D L (LaidAt l (steps_cells l (more_of-Step (At' q n j (more_of-Expr a end_of-Expr)) rest))) t →
      Roams x D L (LaidAt k 0) (after_rows D x (steps_rows p fr l (more_of-Step (At' q n j (more_of-Expr a end_of-Expr)) rest)) t)) (sym same)
      (λ h. index_step q n a rest m k t (folded n a) refl (λ t h. steps_roam rest m k t g h) h) h))
  steps_roam (more_of-Step (Field f) rest) l k t e h =
      step_leads l k (Field f) rest e (λ m is g. field_step l m f is (λ ls same fe.
      subst (λ (l : Layout). Roams x D L (LaidAt l (steps_cells l (more_of-Step (Field f) rest))) t → Roams x D L (LaidAt k 0) (after_rows D x (steps_rows p fr l (more_of-Step (Field f) rest)) t)) (sym same)
      (λ h. field_roams f rest ls m k (or_nothing (nth_field ls f)) t fe (field_is ls m f fe) (λ t h. steps_roam rest m k t g h) h) h))

  -- ---- accesses
  pub place_roams : {n : _} (v : ℕ) (r : Row_of-Step n) (k : Layout) → FrameFits → ok v → steps_layout (Some (layout_of p v)) r ≡ Some k →
      Roams x D L (LaidAt k 0) (after_rows D x (map kept_row (fr.base v).rows ++ steps_rows p fr (layout_of p v) r) (at_cell D ((fr.base v).first + steps_cells (layout_of p v) r)))
  place_roams v r k frame o e =
      let m = steps_cells (layout_of p v) r in
      let start = at_cell D ((fr.base v).first + m) in
      let base = base_roams (layout_of p v) (fr.base v).rows m start (one_cell (RoamAt (layout_of p v) (fr.base v).rows m) ((fr.base v).first + m) ((fr.base v).first, refl, frame v o)) in
      subst (λ (t : Target D.Env). Roams x D L (LaidAt k 0) t) (sym (after_append D x (map kept_row (fr.base v).rows) (steps_rows p fr (layout_of p v) r) start))
      (steps_roam r (layout_of p v) k (after_rows D x (map kept_row (fr.base v).rows) start) e base)

  pub number_in : (n : ℕ) (num : Num) → IsTrue (is_of num (pos n)) → IsIn num (single (pos n))
  number_in n num h = record { ordered = omega (arith, ints); part = record { above = le_fact _ _ (and_left _ _ h); below = le_fact _ _ (and_right _ _ h) } }

  -- ---- expressions
  module _ (frame : FrameFits) (inputs : InputsFit) where
    mutual
      unfolding lowered type_of links_type Walks

      pub fit : (a : Expr) → Walks p ok a → Fit x D L (type_of a) (meaning D x (lowered p fr a))
      fit (Number n num) h =
          subst (λ (m : Meaning D.Env). Fit x D L num m) (sym (number_meaning D x n num)) (plain_fit x D L num _ _ (record { span = λ f env g. number_in n num h; form = λ env. (tt, tt) }))
      fit (Read' v n steps num) h =
          let qs = map kept_row (fr.base v).rows ++ steps_rows p fr (layout_of p v) steps in
          let first = (fr.base v).first + steps_cells (layout_of p v) steps in
          subst (λ (m : Meaning D.Env). Fit x D L num m) (sym (read_meaning D x (record { first = first; rows = qs }) num))
          (read_fit x D L num (after_rows D x qs (at_cell D first)) (leads_place qs first num (place_roams v steps (leaf num) frame h.0 h.1.1)))
      fit (Input k num) h =
          subst (λ (m : Meaning D.Env). Fit x D L num m) (sym (input_meaning D x k num))
          (plain_fit x D L num _ _ (record { span = λ f env g. inputs k num h (D.clock env) (L.clock_ordered f env g.under) (L.clock_part f env g.under); form = λ env. tt }))
      fit (Prefix' op q num n (more_of-Expr a end_of-Expr)) h =
          subst (λ (m : Meaning D.Env). Fit x D L (prefix_type op num) m) (sym (prefix_meaning D x op q num (lowered p fr a))) (prefix_fit x D L op q (type_of a) num (meaning D x (lowered p fr a)) h.1.0 (fit a h.0))
      fit (Cast' q num n (more_of-Expr a end_of-Expr)) h =
          subst (λ (m : Meaning D.Env). Fit x D L num m) (sym (cast_meaning D x q num (lowered p fr a))) (cast_fit x D L q (type_of a) num (meaning D x (lowered p fr a)) (fit a h))
      fit (Chain' n (more_of-Expr a end_of-Expr) m ls) h =
          subst (λ (m : Meaning D.Env). Fit x D L (links_type (type_of a) ls) m) (sym (chain_meaning D x (lowered p fr a) (lowered_links p fr ls))) (links_fit ls (type_of a) (meaning D x (lowered p fr a)) (fit a h.0) h.1)
      fit (And' n (more_of-Expr a end_of-Expr) m rest) h =
          subst (λ (m : Meaning D.Env). Fit x D L I32 m) (sym (and_meaning D x (lowered p fr a) (all_lowered p fr rest))) (some_ands_fit rest (type_of a) (meaning D x (lowered p fr a)) (fit a h.0) h.1)
      fit (Or' n (more_of-Expr a end_of-Expr) m rest) h =
          subst (λ (m : Meaning D.Env). Fit x D L I32 m) (sym (or_meaning D x (lowered p fr a) (all_lowered p fr rest))) (some_ors_fit rest (type_of a) (meaning D x (lowered p fr a)) (fit a h.0) h.1)
      fit (Choice' n (more_of-Expr a end_of-Expr) m (more_of-Expr b end_of-Expr) l (more_of-Expr c end_of-Expr) num) h =
          subst (λ (m : Meaning D.Env). Fit x D L num m) (sym (choice_meaning D x (lowered p fr a) (lowered p fr b) (lowered p fr c) num))
          (choice_fit x D L (type_of a) (type_of b) (type_of c) num _ _ _ h.1.0.1 h.1.1.1 (fit a h.0) (fit b h.1.0.0) (fit c h.1.1.0))

      pub links_fit : {n : _} (ls : Row_of-Link n) (left : Num) (m : Meaning D.Env) → Fit x D L left m → LinksWalk p ok left ls → Fit x D L (links_type left ls) (after_links D x (lowered_links p fr ls) m)
      links_fit end_of-Link left m f h = f
      links_fit (more_of-Link op q work b rest) left m f h =
          links_fit rest (result_type op work) (operation D op q work m (meaning D x (lowered p fr b))) (operation_fit x D L op q left work (type_of b) m (meaning D x (lowered p fr b)) h.1.0 f (fit b h.0)) h.1.1

      pub ands_fit : {n : _} (rest : Row_of-Expr n) (m : Meaning D.Env) → Fit x D L I32 m → AllWalk p ok rest → Fit x D L I32 (after_ands D x (all_lowered p fr rest) m)
      ands_fit end_of-Expr m f h = f
      ands_fit (more_of-Expr b rest) m f h = ands_fit rest (and_of D m (meaning D x (lowered p fr b))) (and_fit x D L I32 (type_of b) m (meaning D x (lowered p fr b)) f (fit b h.0)) h.1

      pub ors_fit : {n : _} (rest : Row_of-Expr n) (m : Meaning D.Env) → Fit x D L I32 m → AllWalk p ok rest → Fit x D L I32 (after_ors D x (all_lowered p fr rest) m)
      ors_fit end_of-Expr m f h = f
      ors_fit (more_of-Expr b rest) m f h = ors_fit rest (or_of D m (meaning D x (lowered p fr b))) (or_fit x D L I32 (type_of b) m (meaning D x (lowered p fr b)) f (fit b h.0)) h.1

      some_ands_fit : {n : _} (rest : Row_of-Expr n) (left : Num) (m : Meaning D.Env) → Fit x D L left m → SomeWalk p ok rest → Fit x D L I32 (after_ands D x (all_lowered p fr rest) m)
      some_ands_fit end_of-Expr left m f h = absurd h
      some_ands_fit (more_of-Expr b rest) left m f h = ands_fit rest (and_of D m (meaning D x (lowered p fr b))) (and_fit x D L left (type_of b) m (meaning D x (lowered p fr b)) f (fit b h.0)) h.1

      some_ors_fit : {n : _} (rest : Row_of-Expr n) (left : Num) (m : Meaning D.Env) → Fit x D L left m → SomeWalk p ok rest → Fit x D L I32 (after_ors D x (all_lowered p fr rest) m)
      some_ors_fit end_of-Expr left m f h = absurd h
      some_ors_fit (more_of-Expr b rest) left m f h = ors_fit rest (or_of D m (meaning D x (lowered p fr b))) (or_fit x D L left (type_of b) m (meaning D x (lowered p fr b)) f (fit b h.0)) h.1
