-- Each operation on flat environments is that of the reference analysis on its own lists.
use Rattle.std.proofs.Common.{◌≡◌, ℕ, zero, suc, ◌<◌, ℤ, pos, ◌-ℤ◌, Bool, true, false, List, [], ◌∷◌, length, refl, sym, ap, ◌∙◌, arith, get_or, Option, None, Some}
use Rattle.std.specs.Prelude.{slice_get, slice_set, option_map, IfSome, ◌&&◌, if◌then◌else◌}
use Rattle.sa_interval.specs.Span.{Span}
use Rattle.sa_interval.specs.Rows.{single, join_of, is_part, meet_of, sum_of}
use Rattle.sa_shared.specs.Slots.{slotwise, EachSlot}
use Rattle.sa_env.specs.declared.form.Form.{Form}
use Rattle.sa_env.specs.declared.form.Term.{Term}
use Rattle.sa_env.specs.Flat.{Flat, dead, live, Limits, IsFair, IsIn, clock_of, cell_of, assigned, join, is_below, all_parts, ticked, at_clock, spread, widened_spans, whole_clock, widened_clock}
use Rattle.sa_env.specs.Forms.{IsForm, imposed, cut, cut_some, cut_by, narrowed, term_imposed, terms_imposed, least_of, least_term}
use Rattle.sa_base.specs.declared.num.Num.{Num}
use Rattle.sa_operators.specs.Operators.{range_of}
use Rattle.sa_env.specs.Slots.{widened_span}
use Rattle.sa_flat.specs.Intervals as reference
use Rattle.sa_flat.specs.Meanings.{either}
use Rattle.sa_flat.specs.Passes.{alive_then}
use Rattle.sa_effects.specs.Stands.{opened, AreLimitsOf, Agree, whether_below, both_alive}

-- ---- lists
get_there : (xs : List Span) (c : ℕ) → c < length xs → slice_get xs c ≡ Some (get_or xs c (single (pos 0)))
get_there [] c h = absurd (omega (arith, h))
get_there (x ∷ xs) zero h = refl
get_there (x ∷ xs) (suc c) h = get_there xs c (omega (arith, h))

set_is : (xs : List Span) (c : ℕ) (v : Span) → slice_set xs c v ≡ reference.put c v xs
set_is [] c v = refl
set_is (x ∷ xs) zero v = refl
set_is (x ∷ xs) (suc c) v = ap (λ (l : List Span). x ∷ l) (set_is xs c v)

put_length : (xs : List Span) (c : ℕ) (v : Span) → length (reference.put c v xs) ≡ length xs
put_length [] c v = refl
put_length (x ∷ xs) zero v = refl
put_length (x ∷ xs) (suc c) v = ap suc (put_length xs c v)

zip_is : (f : Span → Span → Span) (xs ys : List Span) → slotwise f xs ys ≡ reference.zip f xs ys
zip_is f [] ys = refl
zip_is f (x ∷ xs) [] = refl
zip_is f (x ∷ xs) (y ∷ ys) = ap (λ (l : List Span). f x y ∷ l) (zip_is f xs ys)

parts_is : (xs ys : List Span) → all_parts xs ys ≡ reference.all_parts xs ys
parts_is [] [] = refl
parts_is [] (y ∷ ys) = refl
parts_is (x ∷ xs) [] = refl
parts_is (x ∷ xs) (y ∷ ys) = ap (λ (b : Bool). is_part x y && b) (parts_is xs ys)

same_length : (ts xs : List Span) → EachSlot IsIn ts xs → length xs ≡ length ts
same_length [] [] h = refl
same_length [] (x ∷ xs) h = absurd h
same_length (t ∷ ts) [] h = absurd h
same_length (t ∷ ts) (x ∷ xs) h = ap suc (same_length ts xs h.1)

-- ---- one environment
clock_is : (e : Flat) → clock_of e ≡ option_map (λ a. a.clock) (opened e)
clock_is dead = refl
clock_is (live t xs) = refl

pub cell_is : (l : Limits) (c : ℕ) (e : Flat) → c < length l.tops → IsFair l e → cell_of c e ≡ option_map (reference.cell_of c) (opened e)
cell_is l c dead less h = refl
cell_is l c (live t xs) less h = get_there xs c (let same = same_length l.tops xs h.1 in omega (arith, less, same))

assigned_is : (c : ℕ) (v : Span) (e : Flat) → opened (assigned c v e) ≡ option_map (reference.with_cell c v) (opened e)
assigned_is c v dead = refl
assigned_is c v (live t xs) = ap (λ (l : List Span). Some (record { clock = t; cells = l })) (set_is xs c v)

join_is : (r : reference.Limits) (a b : Flat) → opened (join a b) ≡ either (reference.intervals r) (opened a) (opened b)
join_is r dead b = refl
join_is r (live t xs) dead = refl
join_is r (live t xs) (live u ys) = ap (λ (l : List Span). Some (record { clock = join_of t u; cells = l })) (zip_is join_of xs ys)

below_is : (a b : Flat) → is_below a b ≡ whether_below (opened a) (opened b)
below_is dead b = refl
below_is (live t xs) dead = refl
below_is (live t xs) (live u ys) = ap (λ (b : Bool). is_part t u && b) (parts_is xs ys)

top_is : (r : reference.Limits) (l : Limits) → AreLimitsOf r l → (clock : Span) → opened (live clock l.tops) ≡ Some (reference.top_of r clock)
top_is r l h clock = ap (λ (xs : List Span). Some (record { clock = clock; cells = xs })) h.tops

whole_is : (r : reference.Limits) (l : Limits) → AreLimitsOf r l → whole_clock l ≡ reference.whole_clock r
whole_is r l h = ap (λ (z : ℤ). record { lo = pos 0; hi = z }) (sym h.clock)

at_is : (o : Option Span) (xs : List Span) → opened (at_clock o xs) ≡ alive_then o (λ c. Some (record { clock = c; cells = xs }))
at_is None xs = refl
at_is (Some c) xs = refl

ticked_is : (r : reference.Limits) (l : Limits) → AreLimitsOf r l → (e : Flat) → opened (ticked l e) ≡ alive_then (opened e) (reference.tick_of r)
ticked_is r l h dead = refl
ticked_is r l h (live t xs) =
    at_is (meet_of (sum_of t (single (pos 1))) (whole_clock l)) xs
    ∙ ap (λ (w : Span). alive_then (meet_of (sum_of t (single (pos 1))) w) (λ c. Some (record { clock = c; cells = xs }))) (whole_is r l h)

-- ---- forms
-- it has so many cells, where it isn't dead
abbrev Has : ℕ → Flat → Type 0
Has n dead = Unit {0}
Has n (live t xs) = length xs ≡ n

cut_is : (plus : Bool) (k : ℤ) (s : Span) → cut plus k s ≡ reference.cut plus s k
cut_is true k s = refl
cut_is false k s = refl

narrowed_is : (c : ℕ) (o : Option Span) (u : Span) (xs : List Span) → opened (narrowed c o (live u xs)) ≡ alive_then o (λ s. Some (reference.with_cell c s (record { clock = u; cells = xs })))
narrowed_is c None u xs = refl
narrowed_is c (Some s) u xs = assigned_is c s (live u xs)

narrowed_has : (n c : ℕ) (o : Option Span) (e : Flat) → Has n e → Has n (narrowed c o e)
narrowed_has n c None e h = tt
narrowed_has n c (Some s) dead h = tt
narrowed_has n c (Some s) (live u xs) h = ap length (set_is xs c s) ∙ (put_length xs c s ∙ h)

term_is : (t : Term) (k : ℤ) (u : Span) (xs : List Span) → t.cell < length xs → opened (term_imposed t k (live u xs)) ≡ reference.term_at_most t k (record { clock = u; cells = xs })
term_is t k u xs less =
    ap (λ (o : Option Span). opened (narrowed t.cell (cut_some t.plus k o) (live u xs))) (get_there xs t.cell less)
    ∙ (narrowed_is t.cell (cut t.plus k (get_or xs t.cell (single (pos 0)))) u xs
    ∙ ap (λ (o : Option Span). alive_then o (λ s. Some (reference.with_cell t.cell s (record { clock = u; cells = xs })))) (cut_is t.plus k (get_or xs t.cell (single (pos 0)))))

term_then : (n : ℕ) (t : Term) (k : ℤ) (e : Flat) → t.cell < n → Has n e → opened (term_imposed t k e) ≡ alive_then (opened e) (reference.term_at_most t k)
term_then n t k dead less h = refl
term_then n t k (live u xs) less h = term_is t k u xs (omega (arith, less, h))

least_of_is : (plus : Bool) (s : Span) → least_of plus (Some s) ≡ (if plus then s.lo else pos 0 -ℤ s.hi)
least_of_is true s = refl
least_of_is false s = refl

least_is : (t : Term) (u : Span) (xs : List Span) → t.cell < length xs → least_term t (live u xs) ≡ reference.least_term t (record { clock = u; cells = xs })
least_is t u xs less =
    ap (λ (o : Option Span). least_of t.plus o) (get_there xs t.cell less) ∙ least_of_is t.plus (get_or xs t.cell (single (pos 0)))

-- the term t is cut by the term u
cut_by_is : (n : ℕ) (t u : Term) (k : ℤ) (e : Flat) → t.cell < n → u.cell < n → Has n e →
    opened (cut_by t u k e) ≡ alive_then (opened e) (λ a. reference.term_at_most t (k -ℤ reference.least_term u a) a)
cut_by_is n t u k dead l m h = refl
cut_by_is n t u k (live c xs) l m h =
    term_is t (k -ℤ least_term u (live c xs)) c xs (omega (arith, l, h))
    ∙ ap (λ (z : ℤ). reference.term_at_most t (k -ℤ z) (record { clock = c; cells = xs })) (least_is u c xs (omega (arith, m, h)))

opened_then : (e : Flat) (f : reference.Flat → Option reference.Flat) (go : reference.Flat → Option reference.Flat) (o : Option reference.Flat) → o ≡ alive_then (opened e) f →
    alive_then o go ≡ alive_then (opened e) (λ a. alive_then (f a) go)
opened_then dead f go o h = ap (λ (o : Option reference.Flat). alive_then o go) h
opened_then (live u xs) f go o h = ap (λ (o : Option reference.Flat). alive_then o go) h

terms_is : (n : ℕ) (a b : Option Term) (k : ℤ) (e : Flat) → IfSome a (λ t. t.cell < n) → IfSome b (λ t. t.cell < n) → Has n e →
    opened (terms_imposed a b k e) ≡ alive_then (opened e) (reference.terms_at_most a b k)
terms_is n None None k dead l m h = refl
terms_is n None None k (live u xs) l m h = refl
terms_is n None (Some u) k e l m h = term_then n u k e m h
terms_is n (Some t) None k e l m h = term_then n t k e l h
terms_is n (Some t) (Some u) k e l m h =
    cut_by_is n u t k (cut_by t u k e) m l (narrowed_has n t.cell (cut_some t.plus (k -ℤ least_term u e) (cell_of t.cell e)) e h)
    ∙ opened_then e (λ a. reference.term_at_most t (k -ℤ reference.least_term u a) a) (λ a. reference.term_at_most u (k -ℤ reference.least_term t a) a) (opened (cut_by t u k e)) (cut_by_is n t u k e l m h)

has_all : (l : Limits) (e : Flat) → IsFair l e → Has (length l.tops) e
has_all l dead h = tt
has_all l (live t xs) h = same_length l.tops xs h.1

pub imposed_is : (l : Limits) (f : Form) (k : ℤ) (e : Flat) → IsForm l.tops f → IsFair l e → opened (imposed f k e) ≡ alive_then (opened e) (reference.impose_of f k)
unfolding imposed
imposed_is l f k e h fair = terms_is (length l.tops) f.first f.second (k -ℤ f.c) e h.first h.second (has_all l e fair)

-- ---- widening
spans_is : (ts : List ℤ) (q : ℕ) (nums : List Num) (xs ys : List Span) → widened_spans ts q (reference.ranges nums) xs ys ≡ reference.widened_spans ts q nums xs ys
unfolding reference.widened_spans widened_span
spans_is ts q [] xs ys = refl
spans_is ts q (n ∷ nums) [] ys = refl
spans_is ts q (n ∷ nums) (x ∷ xs) [] = refl
spans_is ts q (n ∷ nums) (x ∷ xs) (y ∷ ys) = ap (λ (l : List Span). widened_span ts q (range_of n) x y ∷ l) (spans_is ts q nums xs ys)

spread_is : (r : reference.Limits) (l : Limits) → AreLimitsOf r l → (pass : ℕ) (a b : Flat) → opened (spread l r.thresholds pass a b) ≡ both_alive (opened a) (opened b) (reference.widen_of r pass)
spread_is r l h pass dead b = refl
spread_is r l h pass (live t xs) dead = refl
spread_is r l h pass (live t xs) (live u ys) =
    ap (λ (ts : List Span). Some (record { clock = widened_clock (whole_clock l) t u; cells = widened_spans r.thresholds pass ts xs ys })) h.tops
    ∙ (ap (λ (zs : List Span). Some (record { clock = widened_clock (whole_clock l) t u; cells = zs })) (spans_is r.thresholds pass r.nums xs ys)
    ∙ ap (λ (m : ℤ). Some (record { clock = reference.widened_clock m t u; cells = reference.widened_spans r.thresholds pass r.nums xs ys })) (sym h.clock))

pub agree : (r : reference.Limits) (l : Limits) → AreLimitsOf r l → Agree r l
agree r l h = record {
  clock = clock_is;
  cell = cell_is l;
  assigned = assigned_is;
  imposed = imposed_is l;
  join = join_is r;
  below = below_is;
  ticked = ticked_is r l h;
  spread = spread_is r l h;
  top = top_is r l h;
}
