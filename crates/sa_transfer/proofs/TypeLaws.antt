-- Spans of typed expressions stay in their types, and suit the operators that take them.
use Rattle.std.proofs.Common.{◌≡◌, ℕ, zero, suc, ◌+◌, ◌<◌, ◌≤ℤ◌, arith, List, [], ◌∷◌, length, drop, get_or, map, sym, ap, subst, ◌∙◌, Option, Some, None}
use Rattle.std.proofs.lemmas.Int.{ints}
use Rattle.std.proofs.lemmas.List.{drop_more}
use Rattle.std.specs.Prelude.{IsTrue, slice_get, IfSome}
use Rattle.sa_base.specs.Numbers.{num_lo, num_hi}
use Rattle.sa_base.specs.declared.num.Num.{Num}
use Rattle.sa_base.specs.declared.pos.Pos.{Pos}
use Rattle.sa_interval.specs.Span.{Span}
use Rattle.sa_typed.specs.Cells.{cells}
use Rattle.sa_typed.specs.Evaluation.{Range}
use Rattle.sa_typed.specs.Links.{IsTypedLink, type_after, AreTypedAfter}
use Rattle.sa_typed.specs.WellTyped.{type_of, converts, right_converts, num_of_input, IsTypedExpr}
use Rattle.sa_typed.specs.declared.expr.Expr.{Expr}
use Rattle.sa_typed.specs.declared.expr.Expr.TheVariants as v
use Rattle.sa_typed.specs.declared.expr.Link.{Link, out-Link}
use Rattle.sa_typed.specs.declared.expr.Operator.{Operator}
use Rattle.sa_typed.specs.declared.expr.Prefix.{Prefix}
use Rattle.sa_typed.specs.declared.program.Input.{Input}
use Rattle.sa_typed.specs.declared.program.Program.{Program}
use Rattle.sa_typed.proofs.ArithmeticLaws.{num_facts}
use Rattle.sa_typed.proofs.LinkLaws.{prefix_typed, chain_typed}
use Rattle.sa_operators.specs.Operators.{IsIn, range_of}
use Rattle.sa_operators.specs.OperatorLaws.{IsSmallSpan, Suits, SuitsRight}
use Rattle.sa_operators.proofs.FitLaws.{types_are_small}
use Rattle.sa_reference.specs.declared.flat.Flat.{Flat}
use Rattle.sa_reference.specs.Fair.{AreIn}
use Rattle.sa_reference.specs.Sound.{IsWithin, widest, type_range}
use Rattle.sa_reference.specs.Values.{input_span, span_of}
use Rattle.sa_reference.proofs.Laws.{IfAlive}
use Rattle.sa_reference.proofs.OperatorFacts.{operator_facts}
use Rattle.sa_reference.proofs.ValueLaws.{suits, suits_right}
use Rattle.sa_reference.proofs.ValueLaws as values
use Rattle.sa_transfer.specs.Lists.{IsInIf, AreAfter, operand_span, next_span}

-- ---- inputs, where nothing is said of them
get_map : (xs : List Input) (k : ℕ) (i : Input) → slice_get xs k ≡ Some i → slice_get (map type_range xs) k ≡ Some (type_range i)
get_map [] k i h = cc
get_map (x ∷ xs) zero i h = let is : x ≡ i = cc in ap (λ (y : Input). Some (type_range y)) is
get_map (x ∷ xs) (suc k) i h = get_map xs k i h

pub widest_within : (p : Program) → IsWithin p (widest p)
widest_within p = record {
  clock = omega (arith, ints);
  last = omega (arith, ints);
  inputs = λ k i r e g. range_is i r (let h = get_map p.inputs k i e in let t : type_range i ≡ r = cc in t);
  all = λ k i e. (type_range i, get_map p.inputs k i e);
}
  where
    range_is : (i : Input) (r : Range) → type_range i ≡ r → (num_lo i.num ≤ℤ r.lo) × (r.lo ≤ℤ r.hi) × (r.hi ≤ℤ num_hi i.num)
    range_is i r e =
        let f = num_facts i.num in
        subst (λ (r : Range). (num_lo i.num ≤ℤ r.lo) × (r.lo ≤ℤ r.hi) × (r.hi ≤ℤ num_hi i.num)) e
        (omega (arith, ints), (let a = f.not_above in let b = f.not_below in omega (arith, ints)), omega (arith, ints))

input_range : (xs : List Input) (k : ℕ) (num : Num) (d : Range) → num_of_input (slice_get xs k) ≡ Some num → get_or (map type_range xs) k d ≡ record { lo = num_lo num; hi = num_hi num }
input_range [] k num d h = cc
input_range (x ∷ xs) zero num d h = let is : x.num ≡ num = cc in ap (λ (n : Num). record { lo = num_lo n; hi = num_hi n }) is
input_range (x ∷ xs) (suc k) num d h = input_range xs k num d h

pub input_is : (p : Program) (k : ℕ) (num : Num) → IsTypedExpr p (v.Input k num) → input_span (widest p) k ≡ range_of num
unfolding IsTypedExpr
input_is p k num t = ap (λ (r : Range). record { lo = r.lo; hi = r.hi }) (input_range p.inputs k num _ t)

-- ---- spans of expressions
module _ (p : Program) (env : Flat) (fair : AreIn (cells p) env.cells) where
  pub span_in : (a : Expr) → IsTypedExpr p a → IsInIf (type_of a) (span_of p (widest p) env a)
  span_in a t = by_cases (span_of p (widest p) env a) (values.span_in p (widest p) operator_facts (widest_within p) env fair a t)
    where
      by_cases : (o : Option Span) → IfAlive (λ s. IsIn (type_of a) s) o → IsInIf (type_of a) o
      by_cases None h = tt
      by_cases (Some s) h = h

pub small_if : (num : Num) (o : Option Span) → IsInIf num o → IfSome o (λ s. IsSmallSpan s)
small_if num None h = tt
small_if num (Some s) h = types_are_small num s h

pub in_if : (num : Num) (o : Option Span) → IsInIf num o → IfSome o (λ s. IsIn num s)
in_if num None h = tt
in_if num (Some s) h = h

pub suits_if : (from to : Num) (o : Option Span) → IsTrue (converts from to) → IsInIf from o → IfSome o (λ s. Suits to s)
suits_if from to None c h = tt
suits_if from to (Some s) c h = suits operator_facts from to s c h

pub suits_right_if : (op : Operator) (from to : Num) (o : Option Span) → IsTrue (right_converts op from to) → IsInIf from o → IfSome o (λ s. SuitsRight op to s)
suits_right_if op from to None c h = tt
suits_right_if op from to (Some s) c h = suits_right operator_facts op from to s c h

-- ---- operands
module _ (p : Program) (env : Flat) (fair : AreIn (cells p) env.cells) where
  pub prefix_suits : (op : Prefix) (q : Pos) (num : Num) (a : Expr) → IsTypedExpr p (v.Prefix op q num a) → IfSome (span_of p (widest p) env a) (λ s. Suits num s)
  prefix_suits op q num a t = let k = prefix_typed p op q num a t in suits_if (type_of a) num (span_of p (widest p) env a) k.1 (span_in p env fair a k.0)

  pub expr_small : (a : Expr) → IsTypedExpr p a → IfSome (span_of p (widest p) env a) (λ s. IsSmallSpan s)
  expr_small a t = small_if (type_of a) (span_of p (widest p) env a) (span_in p env fair a t)

  pub expr_in : (a : Expr) → IsTypedExpr p a → IfSome (span_of p (widest p) env a) (λ s. IsIn (type_of a) s)
  expr_in a t = in_if (type_of a) (span_of p (widest p) env a) (span_in p env fair a t)

  pub chain_after : (a : Expr) (ls : List Link) → IsTypedExpr p (v.Chain a ls) → AreAfter p (span_of p (widest p) env a) ls
  chain_after a ls t = let k = chain_typed p a ls t in record { left = type_of a; of_type = span_in p env fair a k.0; links = k.1 }

-- ---- links after a value
module _ (p : Program) (env : Flat) (fair : AreIn (cells p) env.cells) (o : Option Span) (ls : List Link) (i : ℕ) (l : Link) (here : i < length ls) (is : l ≡ get_or ls i l) (after : AreAfter p o (drop i ls)) where
  first : IsTypedLink p after.left l × AreTypedAfter p (type_after l) (drop (i + 1) ls)
  unfolding AreTypedAfter
  first = subst (λ (xs : List Link). AreTypedAfter p after.left xs) (drop_more ls i l here ∙ ap (λ (m : Link). m ∷ drop (i + 1) ls) (sym is)) after.links

  pub link_typed : IsTypedExpr p (out-Link l).operand
  link_typed = first.0.operand

  pub link_left : IfSome o (λ s. Suits (out-Link l).num s)
  link_left = suits_if after.left (out-Link l).num o first.0.link.first after.of_type

  pub link_right : IfSome (operand_span p env l) (λ s. SuitsRight (out-Link l).op (out-Link l).num s)
  link_right = suits_right_if (out-Link l).op (type_of (out-Link l).operand) (out-Link l).num (operand_span p env l) first.0.link.second (span_in p env fair (out-Link l).operand link_typed)

  pub after_more : AreAfter p (next_span p env o l) (drop (i + 1) ls)
  after_more = record {
    left = type_after l;
    of_type = by_cases (next_span p env o l)
        (values.link_in operator_facts (out-Link l).op after.left (out-Link l).num (type_of (out-Link l).operand) o (operand_span p env l) first.0.link
        (alive after.left o after.of_type) (alive (type_of (out-Link l).operand) (operand_span p env l) (span_in p env fair (out-Link l).operand link_typed)));
    links = first.1;
  }
    where
      by_cases : (o : Option Span) → IfAlive (λ s. IsIn (type_after l) s) o → IsInIf (type_after l) o
      by_cases None h = tt
      by_cases (Some s) h = h

      alive : (num : Num) (o : Option Span) → IsInIf num o → IfAlive (λ s. IsIn num s) o
      alive num None h = tt
      alive num (Some s) h = h
