-- No promise of the top calls rests on this page: it is for laws beside them, for proofs and for inner functions.
-- The domain of an interval for the clock and one for each cell (Cousot and Cousot 1977; thresholds: Blanchet and others 2003).
use Rattle.std.specs.Prelude.{ℕ, zero, suc, ℤ, pos, ◌-ℤ◌, List, [], ◌∷◌, Bool, true, false, ◌&&◌, if◌then◌else◌, get_or, nat_le, Option, Some, None}
use Rattle.std.specs.Int.{int_min, int_max}
use Rattle.std.specs.Int.RustNames.{int_le}
use Rattle.sa_base.specs.declared.num.Num.{Num}
use Rattle.sa_interval.specs.Span.{Span, Within}
use Rattle.sa_interval.specs.Rows.{single, sum_of, join_of, meet_of, is_part}
use Rattle.sa_interval.specs.Widening.{widening_of}
use Rattle.sa_operators.specs.Operators.{range_of}
use Rattle.sa_env.specs.declared.form.Form.{Form}
use Rattle.sa_env.specs.declared.form.Term.{Term}
use Rattle.sa_flat.specs.Domain.{Domain}
use Rattle.sa_flat.specs.Passes.{alive_then}

pub record Flat : Type 0 where
  pub clock : Span
  pub cells : List Span

-- the types of the cells, the last clock, and the thresholds
pub record Limits : Type 0 where
  pub nums : List Num
  pub max_clock : ℤ
  pub thresholds : List ℤ

-- slot by slot, as long as both lists go on
abbrev pub zip : (Span → Span → Span) → List Span → List Span → List Span
zip f [] bs = []
zip f (a ∷ as') [] = []
zip f (a ∷ as') (b ∷ bs) = f a b ∷ zip f as' bs

abbrev pub all_parts : List Span → List Span → Bool
all_parts [] [] = true
all_parts [] (b ∷ bs) = false
all_parts (a ∷ as') [] = false
all_parts (a ∷ as') (b ∷ bs) = is_part a b && all_parts as' bs

-- the list with its item c changed
abbrev pub put : {A : Type 0} → ℕ → A → List A → List A
put c a [] = []
put zero a (b ∷ bs) = a ∷ bs
put (suc c) a (b ∷ bs) = b ∷ put c a bs

abbrev pub ranges : List Num → List Span
ranges [] = []
ranges (num ∷ nums) = range_of num ∷ ranges nums

abbrev pub whole_clock : Limits → Span
whole_clock l = record { lo = pos 0; hi = l.max_clock }

abbrev pub cell_of : ℕ → Flat → Span
cell_of c env = get_or env.cells c (single (pos 0))

abbrev pub with_cell : ℕ → Span → Flat → Flat
with_cell c s env = record env { cells = put c s env.cells }

-- ---- forms
-- the numbers between both, None where they cross
abbrev pub span_or_none : ℤ → ℤ → Option Span
span_or_none lo hi = if int_le lo hi then Some (record { lo = lo; hi = hi }) else None

-- a cell, or what it is taken from 0, is at most a number
abbrev pub cut : Bool → Span → ℤ → Option Span
cut true s k = span_or_none s.lo (int_min s.hi k)
cut false s k = span_or_none (int_max s.lo (pos 0 -ℤ k)) s.hi

abbrev pub term_at_most : Term → ℤ → Flat → Option Flat
term_at_most t k env = alive_then (cut t.plus (cell_of t.cell env) k) (λ s. Some (with_cell t.cell s env))

-- the least number of a term
abbrev pub least_term : Term → Flat → ℤ
least_term t env = if t.plus then (cell_of t.cell env).lo else pos 0 -ℤ (cell_of t.cell env).hi

-- each of two terms is cut by the other one, the first one first
abbrev pub terms_at_most : Option Term → Option Term → ℤ → Flat → Option Flat
terms_at_most None None k env = Some env
terms_at_most None (Some u) k env = term_at_most u k env
terms_at_most (Some t) None k env = term_at_most t k env
terms_at_most (Some t) (Some u) k env = alive_then (term_at_most t (k -ℤ least_term u env) env) (λ env. term_at_most u (k -ℤ least_term t env) env)

abbrev pub impose_of : Form → ℤ → Flat → Option Flat
impose_of f k env = terms_at_most f.first f.second (k -ℤ f.c) env

-- ---- merge, order, the wait
abbrev pub merge_of : Flat → Flat → Flat
merge_of a b = record { clock = join_of a.clock b.clock; cells = zip join_of a.cells b.cells }

abbrev pub le_of : Flat → Flat → Bool
le_of a b = is_part a.clock b.clock && all_parts a.cells b.cells

-- the clock adds 1 and is met with what it may be
abbrev pub tick_of : Limits → Flat → Option Flat
tick_of l env = alive_then (meet_of (sum_of env.clock (single (pos 1))) (whole_clock l)) (λ c. Some (record env { clock = c }))

-- ---- widening
-- a bound that falls goes to the least, one that rises to the most
abbrev pub fallen : ℤ → ℤ → ℤ → ℤ
fallen least old new = if int_le old new then old else least

abbrev pub risen : ℤ → ℤ → ℤ → ℤ
risen most old new = if int_le new old then old else most

-- a rising clock goes to the last clock
abbrev pub widened_clock : ℤ → Span → Span → Span
widened_clock max_clock i j = record { lo = int_min i.lo j.lo; hi = risen max_clock i.hi j.hi }

-- each bound that moves goes to its type's
abbrev pub spread_to : Span → Span → Span → Span
spread_to top i j = record { lo = fallen top.lo i.lo j.lo; hi = risen top.hi i.hi j.hi }

-- to thresholds up to pass 20, and later to the type's range
abbrev pub widened_span : List ℤ → ℕ → Span → Span → Span → Span
widened_span ts q top i j = if nat_le q 20 then widening_of ts i j top else spread_to top i j

unfoldable pub widened_spans : List ℤ → ℕ → List Num → List Span → List Span → List Span
widened_spans ts q (num ∷ nums) (i ∷ is) (j ∷ js) = widened_span ts q (range_of num) i j ∷ widened_spans ts q nums is js
widened_spans ts q _ _ _ = []

abbrev pub widen_of : Limits → ℕ → Flat → Flat → Flat
widen_of l q i j = record { clock = widened_clock l.max_clock i.clock j.clock; cells = widened_spans l.thresholds q l.nums i.cells j.cells }

abbrev pub top_of : Limits → Span → Flat
top_of l clock = record { clock = clock; cells = ranges l.nums }

-- ---- meaning
-- each cell's span holds its number, the first cell having the number 0
unfoldable pub AllWithin : List Span → (ℕ → ℤ) → Type 0
AllWithin [] at = Unit {0}
AllWithin (s ∷ ss) at = Within s (at 0) × AllWithin ss (λ k. at (suc k))

pub record Lies (env : Flat) (at : ℕ → ℤ) (time : ℤ) : Type 0 where
  pub cells : AllWithin env.cells at
  pub clock : Within env.clock time

abbrev pub intervals : Limits → Domain
intervals l = record {
  Env = Flat;
  cell = cell_of;
  clock = λ env. env.clock;
  within = λ f s env. Some s;
  assign = λ c s f env. Some (with_cell c s env);
  impose = impose_of;
  tick = tick_of l;
  reduce = λ cells env. Some env;
  merge = merge_of;
  le = le_of;
  widen = widen_of l;
  top = top_of l;
  Point = Lies;
}
