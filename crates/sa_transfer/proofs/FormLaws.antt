-- Each form of an expression, an access and a step, as code sees it: its span, its alarms, and what typing promises of its parts.
use Rattle.std.proofs.Common.{◌≡◌, ℕ, pos, List, [], ◌∷◌, ◌++◌, refl, sym, ap, ◌∙◌, Option, Some, None, append_assoc}
use Rattle.std.proofs.lemmas.List.Elements.{All-nil, All-cons, All-same}
use Rattle.std.specs.List.{All}
use Rattle.std.specs.Prelude.{option_map}
use Rattle.sa_base.specs.declared.alarm.Alarm.{Alarm}
use Rattle.sa_base.specs.declared.num.Num.{Num}
use Rattle.sa_base.specs.declared.num.Num.TheVariants.{I32}
use Rattle.sa_base.specs.declared.pos.Pos.{Pos}
use Rattle.sa_interval.specs.Span.{Span}
use Rattle.sa_interval.specs.Rows.{single}
use Rattle.sa_typed.specs.Layouts.{Layout, leaf}
use Rattle.sa_typed.specs.WellTyped.{IsTypedExpr, IsTypedStep, AreTypedSteps, IsTypedAccess}
use Rattle.sa_typed.specs.declared.expr.Access.{Access, out-Access}
use Rattle.sa_typed.specs.declared.expr.Expr.{Expr, Read', Chain', Row_of-Link, end_of-Link, more_of-Link, items-the_row-Link, items_hidden-the_row-Link-2, Row_of-Step, end_of-Step, more_of-Step, items-the_row-Step, items_hidden-the_row-Step-0}
use Rattle.sa_typed.specs.declared.expr.Expr.TheVariants as v
use Rattle.sa_typed.specs.declared.expr.Link.{Link}
use Rattle.sa_typed.specs.declared.expr.Prefix.{Prefix}
use Rattle.sa_typed.specs.declared.expr.Step.TheVariants as step
use Rattle.sa_typed.specs.declared.program.Program.{Program}
use Rattle.sa_operators.specs.Operators.{prefix_span, prefix_alarms, converted_span, conversion_alarms, operator_alarms}
use Rattle.sa_reference.specs.declared.flat.Flat.{Flat}
use Rattle.sa_reference.specs.declared.reach.Reach.{Reach}
use Rattle.sa_reference.specs.declared.reach.Reach.TheVariants.{Into}
use Rattle.sa_reference.specs.Assignments.{read_of}
use Rattle.sa_reference.specs.Passes.{alive_then}
use Rattle.sa_reference.specs.Sound.{widest}
use Rattle.sa_reference.specs.Values.{named, joined, input_span, with_one, with_both, linked, index_reach, index_alarms, span_of, links_span, reaches_of, reach_of, alarms_of, links_alarms, steps_alarms, step_alarms, read_cells, access_cells, access_alarms}
use Rattle.sa_transfer.specs.Lists.{span_after, alarms_after, link_alarms, HasTypedSteps, reached, indices_alarms}

abbrev links_of : Expr → (n : _) × Row_of-Link n
links_of (Chain' n a m ls) = (_, ls)
links_of _ = (_, end_of-Link)

abbrev steps_of : Expr → (n : _) × Row_of-Step n
steps_of (Read' x n ss num) = (_, ss)
steps_of _ = (_, end_of-Step)

module _ (p : Program) (env : Flat) where
  -- ---- rows as lists
  span_row : (n : _) (r : Row_of-Link n) (o : Option Span) → links_span p (widest p) env r o ≡ span_after p env (items-the_row-Link n r) o
  unfolding span_of span_after
  span_row n end_of-Link o = refl
  span_row n (more_of-Link op q num b rest) o = span_row _ rest (linked op num o (span_of p (widest p) env b))

  alarms_row : (n : _) (r : Row_of-Link n) (o : Option Span) → links_alarms p (widest p) env r o ≡ alarms_after p env (items-the_row-Link n r) o
  unfolding alarms_of alarms_after link_alarms
  alarms_row n end_of-Link o = refl
  alarms_row n (more_of-Link op q num b rest) o =
      let first = alarms_of p (widest p) env b in
      let second = with_both o (span_of p (widest p) env b) (operator_alarms op q num) in
      ap (λ (xs : List Alarm). first ++ (second ++ xs)) (alarms_row _ rest (linked op num o (span_of p (widest p) env b)))
      ∙ sym (append_assoc first second (alarms_after p env (items-the_row-Link _ rest) (linked op num o (span_of p (widest p) env b))))

  reached_row : (n : _) (r : Row_of-Step n) → reaches_of p (widest p) env r ≡ reached p env (items-the_row-Step n r)
  unfolding span_of reached
  reached_row n end_of-Step = refl
  reached_row n (more_of-Step s rest) =
      ap (λ (o : Option (List Reach)). alive_then (reach_of p (widest p) env s) (λ r. option_map (λ rs. r ∷ rs) o)) (reached_row _ rest)

  indices_row : (n : _) (r : Row_of-Step n) → steps_alarms p (widest p) env r ≡ indices_alarms p env (items-the_row-Step n r)
  unfolding alarms_of indices_alarms
  indices_row n end_of-Step = refl
  indices_row n (more_of-Step s rest) = ap (λ (xs : List Alarm). step_alarms p (widest p) env s ++ xs) (indices_row _ rest)

  -- ---- accesses
  pub cells_reached : (x : Access) → access_cells p (widest p) env x ≡ option_map (named p (out-Access x).var) (reached p env (out-Access x).steps)
  unfolding read_cells Rattle.sa_typed.specs.declared.expr.Expr.TheBlock.hidden-the_row-Step-0 denote.Hole.Carrier.hidden
  cells_reached x =
      let row = steps_of (v.Read x I32) in
      ap (option_map (named p (out-Access x).var)) (reached_row row.0 row.1 ∙ ap (reached p env) (items_hidden-the_row-Step-0 (out-Access x).steps))

  pub alarms_reached : (x : Access) → access_alarms p (widest p) env x ≡ indices_alarms p env (out-Access x).steps
  unfolding alarms_of Rattle.sa_typed.specs.declared.expr.Expr.TheBlock.hidden-the_row-Step-0 denote.Hole.Carrier.hidden
  alarms_reached x = let row = steps_of (v.Read x I32) in indices_row row.0 row.1 ∙ ap (indices_alarms p env) (items_hidden-the_row-Step-0 (out-Access x).steps)

  -- ---- spans
  pub span_number : (n : ℕ) (num : Num) → span_of p (widest p) env (v.Number n num) ≡ Some (single (pos n))
  unfolding span_of
  span_number n num = refl

  read_named : (v : ℕ) (o : Option (List Reach)) → alive_then o (λ rs. joined env.cells (named p v rs)) ≡ read_of env (option_map (named p v) o)
  read_named v None = refl
  read_named v (Some rs) = refl

  pub span_read : (x : Access) (num : Num) → span_of p (widest p) env (v.Read x num) ≡ read_of env (access_cells p (widest p) env x)
  unfolding span_of read_cells Rattle.sa_typed.specs.declared.expr.Expr.TheBlock.hidden-the_row-Step-0 denote.Hole.Carrier.hidden
  span_read x num = let row = steps_of (v.Read x I32) in read_named (out-Access x).var (reaches_of p (widest p) env row.1)

  pub span_input : (k : ℕ) (num : Num) → span_of p (widest p) env (v.Input k num) ≡ Some (input_span (widest p) k)
  unfolding span_of
  span_input k num = refl

  pub span_prefix : (op : Prefix) (q : Pos) (num : Num) (a : Expr) → span_of p (widest p) env (v.Prefix op q num a) ≡ alive_then (span_of p (widest p) env a) (prefix_span op num)
  unfolding span_of Rattle.sa_typed.specs.declared.expr.Expr.TheBlock.hidden-the_row-Expr-1 denote.Hole.Carrier.hidden
  span_prefix op q num a = refl

  pub span_cast : (q : Pos) (num : Num) (a : Expr) → span_of p (widest p) env (v.Cast q num a) ≡ alive_then (span_of p (widest p) env a) (converted_span num)
  unfolding span_of Rattle.sa_typed.specs.declared.expr.Expr.TheBlock.hidden-the_row-Expr-1 denote.Hole.Carrier.hidden
  span_cast q num a = refl

  pub span_chain : (a : Expr) (ls : List Link) → span_of p (widest p) env (v.Chain a ls) ≡ span_after p env ls (span_of p (widest p) env a)
  unfolding span_of Rattle.sa_typed.specs.declared.expr.Expr.TheBlock.hidden-the_row-Expr-1 denote.Hole.Carrier.hidden
  span_chain a ls =
      let row = links_of (v.Chain a ls) in
      let o = span_of p (widest p) env a in
      span_row row.0 row.1 o ∙ ap (λ (xs : List Link). span_after p env xs o) (items_hidden-the_row-Link-2 ls)

  pub span_and : (a : Expr) (es : List Expr) → span_of p (widest p) env (v.And a es) ≡ None
  unfolding span_of Rattle.sa_typed.specs.declared.expr.Expr.TheBlock.hidden-the_row-Expr-1 denote.Hole.Carrier.hidden
  span_and a es = refl

  pub span_or : (a : Expr) (es : List Expr) → span_of p (widest p) env (v.Or a es) ≡ None
  unfolding span_of Rattle.sa_typed.specs.declared.expr.Expr.TheBlock.hidden-the_row-Expr-1 denote.Hole.Carrier.hidden
  span_or a es = refl

  pub span_choice : (a b c : Expr) (num : Num) → span_of p (widest p) env (v.Choice a b c num) ≡ None
  unfolding span_of Rattle.sa_typed.specs.declared.expr.Expr.TheBlock.hidden-the_row-Expr-1 denote.Hole.Carrier.hidden
  span_choice a b c num = refl

  -- ---- alarms
  pub alarms_number : (n : ℕ) (num : Num) → alarms_of p (widest p) env (v.Number n num) ≡ []
  unfolding alarms_of
  alarms_number n num = refl

  pub alarms_read : (x : Access) (num : Num) → alarms_of p (widest p) env (v.Read x num) ≡ access_alarms p (widest p) env x
  unfolding alarms_of Rattle.sa_typed.specs.declared.expr.Expr.TheBlock.hidden-the_row-Step-0 denote.Hole.Carrier.hidden
  alarms_read x num = refl

  pub alarms_input : (k : ℕ) (num : Num) → alarms_of p (widest p) env (v.Input k num) ≡ []
  unfolding alarms_of
  alarms_input k num = refl

  pub alarms_prefix : (op : Prefix) (q : Pos) (num : Num) (a : Expr) →
      alarms_of p (widest p) env (v.Prefix op q num a) ≡ alarms_of p (widest p) env a ++ with_one (span_of p (widest p) env a) (prefix_alarms op q num)
  unfolding alarms_of Rattle.sa_typed.specs.declared.expr.Expr.TheBlock.hidden-the_row-Expr-1 denote.Hole.Carrier.hidden
  alarms_prefix op q num a = refl

  pub alarms_cast : (q : Pos) (num : Num) (a : Expr) → alarms_of p (widest p) env (v.Cast q num a) ≡ alarms_of p (widest p) env a ++ with_one (span_of p (widest p) env a) (conversion_alarms num q)
  unfolding alarms_of Rattle.sa_typed.specs.declared.expr.Expr.TheBlock.hidden-the_row-Expr-1 denote.Hole.Carrier.hidden
  alarms_cast q num a = refl

  pub alarms_chain : (a : Expr) (ls : List Link) → alarms_of p (widest p) env (v.Chain a ls) ≡ alarms_of p (widest p) env a ++ alarms_after p env ls (span_of p (widest p) env a)
  unfolding alarms_of Rattle.sa_typed.specs.declared.expr.Expr.TheBlock.hidden-the_row-Expr-1 denote.Hole.Carrier.hidden
  alarms_chain a ls =
      let row = links_of (v.Chain a ls) in
      let o = span_of p (widest p) env a in
      ap (λ (xs : List Alarm). alarms_of p (widest p) env a ++ xs) (alarms_row row.0 row.1 o ∙ ap (λ (xs : List Link). alarms_after p env xs o) (items_hidden-the_row-Link-2 ls))

  pub alarms_and : (a : Expr) (es : List Expr) → alarms_of p (widest p) env (v.And a es) ≡ []
  unfolding alarms_of Rattle.sa_typed.specs.declared.expr.Expr.TheBlock.hidden-the_row-Expr-1 denote.Hole.Carrier.hidden
  alarms_and a es = refl

  pub alarms_or : (a : Expr) (es : List Expr) → alarms_of p (widest p) env (v.Or a es) ≡ []
  unfolding alarms_of Rattle.sa_typed.specs.declared.expr.Expr.TheBlock.hidden-the_row-Expr-1 denote.Hole.Carrier.hidden
  alarms_or a es = refl

  pub alarms_choice : (a b c : Expr) (num : Num) → alarms_of p (widest p) env (v.Choice a b c num) ≡ []
  unfolding alarms_of Rattle.sa_typed.specs.declared.expr.Expr.TheBlock.hidden-the_row-Expr-1 denote.Hole.Carrier.hidden
  alarms_choice a b c num = refl

  -- ---- steps
  pub reach_at : (q : Pos) (n : ℕ) (a : Expr) → reach_of p (widest p) env (step.At q n a) ≡ index_reach n (span_of p (widest p) env a)
  unfolding span_of Rattle.sa_typed.specs.declared.expr.Expr.TheBlock.hidden-the_row-Expr-1 denote.Hole.Carrier.hidden
  reach_at q n a = refl

  pub reach_field : (f : ℕ) → reach_of p (widest p) env (step.Field f) ≡ Some (Into f)
  unfolding span_of
  reach_field f = refl

  pub alarms_at : (q : Pos) (n : ℕ) (a : Expr) → step_alarms p (widest p) env (step.At q n a) ≡ alarms_of p (widest p) env a ++ with_one (span_of p (widest p) env a) (index_alarms q n)
  unfolding alarms_of Rattle.sa_typed.specs.declared.expr.Expr.TheBlock.hidden-the_row-Expr-1 denote.Hole.Carrier.hidden
  alarms_at q n a = refl

  pub alarms_field : (f : ℕ) → step_alarms p (widest p) env (step.Field f) ≡ []
  unfolding alarms_of
  alarms_field f = refl

-- ---- what typing promises
module _ (p : Program) where
  steps_typed : (n : _) (r : Row_of-Step n) → AreTypedSteps p r → All (IsTypedStep p) (items-the_row-Step n r)
  unfolding IsTypedExpr
  steps_typed n end_of-Step t = All-nil (IsTypedStep p)
  steps_typed n (more_of-Step s rest) t = All-cons (IsTypedStep p) s (items-the_row-Step _ rest) t.0 (steps_typed _ rest t.1)

  pub access_steps : (l : Layout) (x : Access) → IsTypedAccess p l x → HasTypedSteps p x
  unfolding Rattle.sa_typed.specs.declared.expr.Expr.TheBlock.hidden-the_row-Step-0 denote.Hole.Carrier.hidden
  access_steps l x t =
      let row = steps_of (v.Read x I32) in
      All-same (IsTypedStep p) (out-Access x).steps (items-the_row-Step row.0 row.1) (sym (items_hidden-the_row-Step-0 (out-Access x).steps)) (steps_typed row.0 row.1 t.0)

  pub read_typed : (x : Access) (num : Num) → IsTypedExpr p (v.Read x num) → IsTypedAccess p (leaf num) x
  unfolding IsTypedExpr Rattle.sa_typed.specs.declared.expr.Expr.TheBlock.hidden-the_row-Step-0 denote.Hole.Carrier.hidden
  read_typed x num t = t

  pub index_typed : (q : Pos) (n : ℕ) (a : Expr) → IsTypedStep p (step.At q n a) → IsTypedExpr p a
  unfolding IsTypedExpr Rattle.sa_typed.specs.declared.expr.Expr.TheBlock.hidden-the_row-Expr-1 denote.Hole.Carrier.hidden
  index_typed q n a t = t

pub ruleset of_forms = (cells_reached, alarms_reached, span_number, span_read, span_input, span_prefix, span_cast, span_chain, span_and, span_or, span_choice, alarms_number, alarms_read, alarms_input, alarms_prefix, alarms_cast, alarms_chain, alarms_and, alarms_or, alarms_choice, reach_at, reach_field, alarms_at, alarms_field, access_steps, read_typed, index_typed)
