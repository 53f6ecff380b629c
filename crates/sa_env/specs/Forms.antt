-- Linear forms of cells, `+-x +-y + c` (octagonal constraints: Miné 2006), and what an environment becomes where such a form is
-- at most a number. That each cell is cut by the other one as it stands then is this project's own order.
use Rattle.std.specs.Prelude.{◌≡◌, ℕ, ◌<◌, ◌^◌, ◌-◌, ℤ, pos, negsuc, ◌≤ℤ◌, ◌-ℤ◌, Bool, true, false, if◌then◌else◌, List, length, slice_get, Option, None, Some, IfSome}
use Rattle.std.specs.Int.{int_min, int_max}
use Rattle.std.specs.Int.RustNames.{int_le}
use Rattle.sa_interval.specs.Span.{Span}
use Rattle.sa_env.specs.declared.form.Form.{Form}
use Rattle.sa_env.specs.declared.form.Term.{Term}
use Rattle.sa_env.specs.Flat.{Flat, dead, cells_of, cell_of, assigned}

-- a number that is at most 2^68 in size
pub record IsModest (z : ℤ) : Type 0 where
  pub low : negsuc (2 ^ 68 - 1) ≤ℤ z
  pub high : z ≤ℤ pos (2 ^ 68)

-- a form of these cells, which are distinct
pub record IsForm (tops : List Span) (f : Form) : Type 0 where
  pub first : IfSome f.first (λ t. t.cell < length tops)
  pub second : IfSome f.second (λ t. t.cell < length tops)
  pub distinct : IfSome f.first (λ t. IfSome f.second (λ u. t.cell ≡ u.cell → ⊥))
  pub constant : IsModest f.c

-- the numbers between both, None where they cross
abbrev pub span_between : ℤ → ℤ → Option Span
span_between lo hi = if int_le lo hi then Some (record { lo = lo; hi = hi }) else None

-- the numbers of a span that are at most k, or that are at most k when they are taken from 0
abbrev pub cut : Bool → ℤ → Span → Option Span
cut true k s = span_between s.lo (int_min s.hi k)
cut false k s = span_between (int_max s.lo (pos 0 -ℤ k)) s.hi

abbrev pub cut_some : Bool → ℤ → Option Span → Option Span
cut_some plus k None = None
cut_some plus k (Some s) = cut plus k s

-- a cell without a number is in no living environment
abbrev pub narrowed : ℕ → Option Span → Flat → Flat
narrowed c None e = dead
narrowed c (Some s) e = assigned c s e

-- the term is at most k
abbrev pub term_imposed : Term → ℤ → Flat → Flat
term_imposed t k e = narrowed t.cell (cut_some t.plus k (cell_of t.cell e)) e

-- the least number of a term
abbrev pub least_of : Bool → Option Span → ℤ
least_of plus None = pos 0
least_of true (Some s) = s.lo
least_of false (Some s) = pos 0 -ℤ s.hi

abbrev pub least_term : Term → Flat → ℤ
least_term t e = least_of t.plus (cell_of t.cell e)

-- the sum of the terms is at most k: each is cut by the least number of the other one
abbrev pub cut_by : Term → Term → ℤ → Flat → Flat
cut_by t u k e = term_imposed t (k -ℤ least_term u e) e

abbrev pub terms_imposed : Option Term → Option Term → ℤ → Flat → Flat
terms_imposed None None k e = e
terms_imposed None (Some u) k e = term_imposed u k e
terms_imposed (Some t) None k e = term_imposed t k e
terms_imposed (Some t) (Some u) k e = cut_by u t k (cut_by t u k e)

unfoldable pub imposed : Form → ℤ → Flat → Flat
imposed f k e = terms_imposed f.first f.second (k -ℤ f.c) e
