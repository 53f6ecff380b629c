-- No promise of the top calls rests on this page: it is for laws beside them, for proofs and for inner functions.
-- What an expression is in an environment: a span of its numbers, none where it has no value, the alarms that checking mode
-- finds, its form, and the environments in which it holds or doesn't. Each operator makes one meaning of others, so nothing here
-- knows how expressions are written. Values go by spans and forms alone; that a guard refines both sides of a comparison by
-- forms where there are forms, and by ends of spans where not, is this project's own choice (guards: Cousot and Cousot 1977).
use Rattle.std.specs.Prelude.{ℕ, zero, suc, ◌+◌, ◌*◌, ◌==◌, ℤ, pos, negsuc, ◌+ℤ◌, ◌-ℤ◌, Bool, true, false, ◌||◌, not, List, [], ◌∷◌, ◌++◌, if◌then◌else◌, unsigned_abs, Option, Some, None, option_map}
use Rattle.std.specs.Int.RustNames.{int_lt}
use Rattle.sa_base.specs.declared.num.Num.{Num}
use Rattle.sa_base.specs.declared.pos.Pos.{Pos}
use Rattle.sa_base.specs.declared.alarm.Alarm.{Alarm}
use Rattle.sa_base.specs.declared.alarm.Kind.TheVariants.{Index}
use Rattle.sa_interval.specs.Span.{Span}
use Rattle.sa_interval.specs.Rows.{single, join_some, meet_of, is_part, is_zero, sum_of, difference_of}
use Rattle.sa_typed.specs.declared.expr.Operator.{Operator}
use Rattle.sa_typed.specs.declared.expr.Operator.TheVariants as o
use Rattle.sa_typed.specs.declared.expr.Prefix.{Prefix}
use Rattle.sa_typed.specs.declared.expr.Prefix.TheVariants as p
use Rattle.sa_operators.specs.Operators.{range_of, as_span, converted_span, conversion_alarms, operator_span, operator_alarms, prefix_span, prefix_alarms, negated_span, may_be, alarm_if}
use Rattle.sa_env.specs.declared.form.Form.{Form}
use Rattle.sa_flat.specs.Domain.{Domain}
use Rattle.sa_flat.specs.Forms.{constant, of_cell, negative, sum_form, difference_form}
use Rattle.sa_flat.specs.Passes.{alive_then}

-- a value, by its span and its form
pub record Operand (Env : Type 0) : Type 0 where
  pub span : Env → Option Span
  pub form : Env → Option Form

pub record Meaning (Env : Type 0) : Type 0 where
  pub value : Operand Env
  pub alarms : Env → List Alarm
  -- the environment in which it holds (ISO C 6.8.4.1p2), or doesn't; None where it is dead
  pub guard : Bool → Env → Option Env

-- the cells that a place may lead to, none where an index has no value, the alarms of its indices, and the cell that a place
-- without indices is
pub record Target (Env : Type 0) : Type 0 where
  pub cells : Env → Option (List ℕ)
  pub alarms : Env → List Alarm
  pub fixed : Option ℕ

-- how far an index leads, in cells
pub record Reach (Env : Type 0) : Type 0 where
  pub steps : Env → Option (List ℕ)
  pub alarms : Env → List Alarm

-- what the walk knows of a lowered program and of its ranges: all cells, the type of each, which of them stand for several
-- elements, the numbers of an input at some clocks, and all clocks
pub record Cells : Type 0 where
  pub all : List ℕ
  pub num : ℕ → Num
  pub starred : ℕ → Bool
  pub input : ℕ → Span → Span
  pub clocks : Span

abbrev pub in_alive : {A B : Type 0} → Option A → (A → List B) → List B
in_alive None go = []
in_alive (Some a) go = go a

abbrev pub with_both : {A : Type 0} → Option Span → Option Span → (Span → Span → List A) → List A
with_both a b go = in_alive a (λ a. in_alive b (λ b. go a b))

abbrev pub linked : Operator → Num → Option Span → Option Span → Option Span
linked op num a b = alive_then a (λ a. alive_then b (λ b. operator_span op num a b))

-- a form where the span is part of a type
abbrev pub form_within : Num → Span → Option Form → Option Form
form_within num s f = if is_part s (range_of num) then f else None

-- the conversion of an operand keeps its form where it changes no number of it
abbrev pub as_operand : {Env : Type 0} → Num → Operand Env → Operand Env
as_operand num a = record {
  span = λ env. option_map (as_span num) (a.span env);
  form = λ env. alive_then (a.span env) (λ s. form_within num s (a.form env));
}

abbrev pub converted_operand : {Env : Type 0} → Num → Operand Env → Operand Env
converted_operand num a = record {
  span = λ env. alive_then (a.span env) (converted_span num);
  form = λ env. alive_then (a.span env) (λ s. form_within num s (a.form env));
}

abbrev pub number_operand : {Env : Type 0} → ℤ → Operand Env
number_operand z = record { span = λ env. Some (single z); form = λ env. Some (constant z) }

abbrev pub both_forms : Option Form → Option Form → (Form → Form → Option Form) → Option Form
both_forms f g join = alive_then f (λ f. alive_then g (λ g. join f g))

-- the form of a sum or difference whose exact result is in the type
abbrev pub form_in : Num → Option Span → Option Form → Option Form
form_in num s f = alive_then s (λ s. form_within num s f)

abbrev pub both_spans : Option Span → Option Span → (Span → Span → Span) → Option Span
both_spans a b row = alive_then a (λ a. alive_then b (λ b. Some (row a b)))

-- of operands in the type
unfoldable pub operation_form : {Env : Type 0} → Operator → Num → Operand Env → Operand Env → Env → Option Form
operation_form o.Plus num a b env = form_in num (both_spans (a.span env) (b.span env) sum_of) (both_forms (a.form env) (b.form env) sum_form)
operation_form o.Minus num a b env = form_in num (both_spans (a.span env) (b.span env) difference_of) (both_forms (a.form env) (b.form env) difference_form)
operation_form op num a b env = None

-- unary plus has none: this project's own choice
unfoldable pub prefix_form : {Env : Type 0} → Prefix → Num → Operand Env → Env → Option Form
prefix_form p.Minus num a env = form_in num (option_map (negated_span num) (a.span env)) (option_map negative (a.form env))
prefix_form op num a env = None

-- ---- both results of a test
abbrev pub may_differ : Span → Bool
may_differ s = not (is_zero s)

abbrev pub is_there : {A : Type 0} → Option A → Bool
is_there None = false
is_there (Some a) = true

-- 0 where it may not hold, 1 where it may
abbrev pub truths : Bool → Bool → Option Span
truths false_too true_too =
    if false_too then (if true_too then Some (record { lo = pos 0; hi = pos 1 }) else Some (single (pos 0)))
    else (if true_too then Some (single (pos 1)) else None)

abbrev pub some_zero : Option Span → Bool
some_zero None = false
some_zero (Some s) = may_be s (pos 0)

abbrev pub some_other : Option Span → Bool
some_other None = false
some_other (Some s) = may_differ s

-- ---- indices
unfoldable pub up_from : ℕ → ℕ → List ℕ
up_from k zero = []
up_from k (suc n) = k ∷ up_from (k + 1) n

abbrev pub indices : ℕ → Span
indices n = record { lo = pos 0; hi = pos n -ℤ pos 1 }

unfoldable pub scaled : ℕ → List ℕ → List ℕ
scaled stride [] = []
scaled stride (i ∷ is) = (i * stride) ∷ scaled stride is

-- how far the indices of a span lead; where one cell stands for all, they lead to that one
unfoldable pub steps_of : ℕ → Span → List ℕ
steps_of stride s = if stride == 0 then 0 ∷ [] else scaled stride (up_from (unsigned_abs s.lo) (unsigned_abs (s.hi -ℤ s.lo) + 1))

-- an index is met with those of its dimension
abbrev pub steps_in : ℕ → ℕ → Option Span → Option (List ℕ)
steps_in size stride i = alive_then i (λ i. option_map (steps_of stride) (meet_of i (indices size)))

abbrev pub index_alarms : Pos → ℕ → Span → List Alarm
index_alarms q size i = alarm_if (not (is_part i (indices size))) q Index

-- each number of the first list with each of the second, the first ones slowest
unfoldable pub moved : ℕ → List ℕ → List ℕ
moved k [] = []
moved k (d ∷ ds) = (k + d) ∷ moved k ds

unfoldable pub all_moved : List ℕ → List ℕ → List ℕ
all_moved [] ds = []
all_moved (k ∷ ks) ds = moved k ds ++ all_moved ks ds

module _ (D : Domain) where
  -- the merge of two environments, of which either may be dead
  abbrev pub either : Option D.Env → Option D.Env → Option D.Env
  either None b = b
  either (Some a) None = Some a
  either (Some a) (Some b) = Some (D.merge a b)

  -- ---- guards
  abbrev pub at_most : Option Form → ℤ → D.Env → Option D.Env
  at_most None k env = Some env
  at_most (Some f) k env = D.impose f k env

  abbrev pub negated : Option Form → Option Form
  negated f = option_map negative f

  -- by one form where both sides have forms that make one, else each side by the end of the other one
  abbrev pub imposed : Option Form → Option Form → Option Form → Span → Span → ℤ → D.Env → Option D.Env
  imposed (Some h) f g a b k env = D.impose h k env
  imposed None f g a b k env = alive_then (at_most f (k +ℤ b.hi) env) (at_most (negated g) (k -ℤ a.lo))

  -- the first less the second is at most k
  unfoldable pub bound : Operand D.Env → Operand D.Env → ℤ → D.Env → Option D.Env
  bound a b k env =
      alive_then (a.span env) (λ s. alive_then (b.span env) (λ t.
      if int_lt k (s.lo -ℤ t.hi) then None else imposed (both_forms (a.form env) (b.form env) difference_form) (a.form env) (b.form env) s t k env))

  abbrev pub equal : Operand D.Env → Operand D.Env → D.Env → Option D.Env
  equal a b env = alive_then (bound a b (pos 0) env) (bound b a (pos 0))

  abbrev pub unequal : Operand D.Env → Operand D.Env → D.Env → Option D.Env
  unequal a b env = either (bound a b (negsuc 0) env) (bound b a (negsuc 0) env)

  abbrev pub less : Operand D.Env → Operand D.Env → D.Env → Option D.Env
  less a b env = bound a b (negsuc 0) env

  abbrev pub at_most_as : Operand D.Env → Operand D.Env → D.Env → Option D.Env
  at_most_as a b env = bound a b (pos 0) env

  -- whether a value is another one than 0
  unfoldable pub truth : Operand D.Env → Bool → D.Env → Option D.Env
  truth a true env = unequal a (number_operand (pos 0)) env
  truth a false env = equal a (number_operand (pos 0)) env

  -- whether an operator of operands in the type holds; of one that compares nothing whether its value is another one than 0
  unfoldable pub compared : Operator → Operand D.Env → Operand D.Env → Operand D.Env → Bool → D.Env → Option D.Env
  compared o.Equal a b value true env = equal a b env
  compared o.Equal a b value false env = unequal a b env
  compared o.NotEqual a b value true env = unequal a b env
  compared o.NotEqual a b value false env = equal a b env
  compared o.Less a b value true env = less a b env
  compared o.Less a b value false env = at_most_as b a env
  compared o.LessEqual a b value true env = at_most_as a b env
  compared o.LessEqual a b value false env = less b a env
  compared o.Greater a b value true env = less b a env
  compared o.Greater a b value false env = at_most_as a b env
  compared o.GreaterEqual a b value true env = at_most_as b a env
  compared o.GreaterEqual a b value false env = less a b env
  compared op a b value so env = truth value so env

  -- ---- what has no parts
  abbrev pub plain : Operand D.Env → (D.Env → List Alarm) → Meaning D.Env
  plain a alarms = record { value = a; alarms = alarms; guard = truth a }

  abbrev pub literal : ℤ → Meaning D.Env
  literal z = plain (number_operand z) (λ env. [])

  abbrev pub input : Cells → ℕ → Meaning D.Env
  input x k = plain (record { span = λ env. Some (x.input k (D.clock env)); form = λ env. None }) (λ env. [])

  -- ---- places
  abbrev pub index : Pos → ℕ → ℕ → Meaning D.Env → Reach D.Env
  index q size stride i = record {
    steps = λ env. steps_in size stride (i.value.span env);
    alarms = λ env. i.alarms env ++ in_alive (i.value.span env) (index_alarms q size);
  }

  -- the index that a hidden cell keeps was checked
  abbrev pub kept : ℕ → ℕ → ℕ → Reach D.Env
  kept c size stride = record { steps = λ env. steps_in size stride (Some (D.cell c env)); alarms = λ env. [] }

  abbrev pub at_cell : ℕ → Target D.Env
  at_cell k = record { cells = λ env. Some (k ∷ []); alarms = λ env. []; fixed = Some k }

  -- every index is evaluated and checked by itself
  abbrev pub moved_by : Target D.Env → Reach D.Env → Target D.Env
  moved_by t r = record {
    cells = λ env. alive_then (t.cells env) (λ ks. alive_then (r.steps env) (λ ds. Some (all_moved ks ds)));
    alarms = λ env. t.alarms env ++ r.alarms env;
    fixed = None;
  }

  -- the least span that holds those of the cells, none where there is no cell
  unfoldable pub joined_cells : List ℕ → D.Env → Option Span
  joined_cells [] env = None
  joined_cells (c ∷ cs) env = join_some (Some (D.cell c env)) (joined_cells cs env)

  -- a cell for one element has its own form
  abbrev pub cell_form : Cells → Option ℕ → Option Form
  cell_form x None = None
  cell_form x (Some k) = if x.starred k then None else Some (of_cell k)

  abbrev pub read_operand : Cells → Target D.Env → Operand D.Env
  read_operand x t = record { span = λ env. alive_then (t.cells env) (λ cs. joined_cells cs env); form = λ env. cell_form x t.fixed }

  abbrev pub read : Cells → Target D.Env → Meaning D.Env
  read x t = plain (read_operand x t) t.alarms

  -- ---- operators
  -- a sum or difference is met with what the domain knows of its form
  abbrev pub met : Option Form → Option Span → D.Env → Option Span
  met None s env = s
  met (Some f) s env = alive_then s (λ s. D.within f s env)

  abbrev pub operation_value : Operator → Num → Operand D.Env → Operand D.Env → Operand D.Env
  operation_value op num a b = record {
    span = λ env. met (operation_form op num (as_operand num a) (as_operand num b) env) (linked op num (a.span env) (b.span env)) env;
    form = operation_form op num (as_operand num a) (as_operand num b);
  }

  -- an operator that evaluates both of its operands; its own alarms only where both have values
  abbrev pub operation : Operator → Pos → Num → Meaning D.Env → Meaning D.Env → Meaning D.Env
  operation op q num a b = record {
    value = operation_value op num a.value b.value;
    alarms = λ env. a.alarms env ++ (b.alarms env ++ with_both (a.value.span env) (b.value.span env) (operator_alarms op q num));
    guard = compared op (as_operand num a.value) (as_operand num b.value) (operation_value op num a.value b.value);
  }

  abbrev pub prefix_value : Prefix → Num → Operand D.Env → Operand D.Env
  prefix_value op num a = record { span = λ env. alive_then (a.span env) (prefix_span op num); form = prefix_form op num (as_operand num a) }

  unfoldable pub prefix_guard : Prefix → Num → Meaning D.Env → Bool → D.Env → Option D.Env
  prefix_guard p.Not num a so env = a.guard (not so) env
  prefix_guard op num a so env = truth (prefix_value op num a.value) so env

  abbrev pub prefixed : Prefix → Pos → Num → Meaning D.Env → Meaning D.Env
  prefixed op q num a = record {
    value = prefix_value op num a.value;
    alarms = λ env. a.alarms env ++ in_alive (a.value.span env) (prefix_alarms op q num);
    guard = prefix_guard op num a;
  }

  abbrev pub cast : Pos → Num → Meaning D.Env → Meaning D.Env
  cast q num a = plain (converted_operand num a.value) (λ env. a.alarms env ++ in_alive (a.value.span env) (conversion_alarms num q))

  -- ---- parts that are evaluated only where others require it (ISO C 6.5.13 to 6.5.15)
  abbrev pub span_where : (D.Env → Option Span) → Option D.Env → Option Span
  span_where span env = alive_then env span

  abbrev pub both_hold : Meaning D.Env → Meaning D.Env → Bool → D.Env → Option D.Env
  both_hold a b true env = alive_then (a.guard true env) (b.guard true)
  both_hold a b false env = either (a.guard false env) (alive_then (a.guard true env) (b.guard false))

  abbrev pub one_holds : Meaning D.Env → Meaning D.Env → Bool → D.Env → Option D.Env
  one_holds a b true env = either (a.guard true env) (alive_then (a.guard false env) (b.guard true))
  one_holds a b false env = alive_then (a.guard false env) (b.guard false)

  -- `&&`
  unfoldable pub and_of : Meaning D.Env → Meaning D.Env → Meaning D.Env
  and_of a b = record {
    value = record {
      span = λ env.
          let second = alive_then (a.guard true env) b.value.span in
          truths (is_there (a.guard false env) || some_zero second) (some_other second);
      form = λ env. None;
    };
    alarms = λ env. a.alarms env ++ in_alive (a.guard true env) b.alarms;
    guard = both_hold a b;
  }

  -- `||`
  unfoldable pub or_of : Meaning D.Env → Meaning D.Env → Meaning D.Env
  or_of a b = record {
    value = record {
      span = λ env.
          let second = alive_then (a.guard false env) b.value.span in
          truths (some_zero second) (is_there (a.guard true env) || some_other second);
      form = λ env. None;
    };
    alarms = λ env. a.alarms env ++ in_alive (a.guard false env) b.alarms;
    guard = one_holds a b;
  }

  abbrev pub choice_value : Num → Meaning D.Env → Meaning D.Env → Meaning D.Env → Operand D.Env
  choice_value num a b c = record {
    span = λ env. join_some (alive_then (a.guard true env) (as_operand num b.value).span) (alive_then (a.guard false env) (as_operand num c.value).span);
    form = λ env. None;
  }

  -- `?:`, whose results are converted to the type
  unfoldable pub choice_of : Num → Meaning D.Env → Meaning D.Env → Meaning D.Env → Meaning D.Env
  choice_of num a b c = plain (choice_value num a b c) (λ env. a.alarms env ++ (in_alive (a.guard true env) b.alarms ++ in_alive (a.guard false env) c.alarms))
