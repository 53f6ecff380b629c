-- Intervals and a clock owe nothing to the laws of a domain.
use Rattle.std.proofs.Common.{◌≡◌, ◌≢◌, ℕ, zero, suc, ◌<◌, ◌^◌, ℤ, pos, ◌+ℤ◌, ◌-ℤ◌, ◌≤ℤ◌, Bool, true, false, List, [], ◌∷◌, refl, sym, ap, subst, arith, Option, Some, None}
use Rattle.std.specs.Prelude.{if◌then◌else◌, get_or, length}
use Rattle.std.specs.Int.{int_min}
use Rattle.std.specs.Int.RustNames.{int_le}
use Rattle.std.proofs.lemmas.Int.{ints, clamps}
use Rattle.sa_base.specs.declared.num.Num.{Num}
use Rattle.sa_base.specs.declared.num.Num.TheVariants.{I32}
use Rattle.sa_interval.specs.Span.{Span, Within, IsPart}
use Rattle.sa_interval.specs.Rows.{single, sum_of, join_of, meet_of, is_part}
use Rattle.sa_operators.specs.Operators.{IsIn, range_of}
use Rattle.sa_env.specs.declared.form.Term.{Term}
use Rattle.sa_flat.specs.Forms.{signed, term_number}
use Rattle.sa_flat.specs.Meanings.{Cells}
use Rattle.sa_flat.specs.Passes.{alive_then}
use Rattle.sa_flat.specs.Intervals.{Flat, Limits, zip, all_parts, put, ranges, whole_clock, cell_of, with_cell, cut, term_at_most, least_term, terms_at_most, impose_of, tick_of, widened_clock, widened_spans, top_of, AllWithin, Lies, intervals}
use Rattle.sa_flat.proofs.Lawful.{Lawful, Frame, anywhere, exactly, IfAlive, AliveAnd}
use Rattle.sa_flat.proofs.Goods.{alive_keeps, alive_on}
use Rattle.sa_flat.proofs.Operands.{join_left, join_right, join_in, meet_some}
use Rattle.sa_flat.proofs.SpanLaws.{not_le_fact, part_fact, part_test, both_true, and_facts, part_within, Meets, meet_meets, join_part, join_ordered, join_same, range_in, risen_below, risen_over, widened_in, cut_holds, cut_in}

-- ---- lists of spans
unfoldable pub AreIn : List Num → List Span → Type 0
AreIn [] [] = Unit {0}
AreIn [] (s ∷ ss) = ⊥
AreIn (n ∷ ns) [] = ⊥
AreIn (n ∷ ns) (s ∷ ss) = IsIn n s × AreIn ns ss

zip_in : (ns : List Num) (ss ts : List Span) → AreIn ns ss → AreIn ns ts → AreIn ns (zip join_of ss ts)
unfolding AreIn
zip_in [] [] ts h g = tt
zip_in [] (s ∷ ss) ts h g = absurd h
zip_in (n ∷ ns) [] ts h g = absurd h
zip_in (n ∷ ns) (s ∷ ss) [] h g = absurd g
zip_in (n ∷ ns) (s ∷ ss) (t ∷ ts) h g = (join_in n s t h.0 g.0, zip_in ns ss ts h.1 g.1)

zip_left : (ns : List Num) (ss ts : List Span) (at : ℕ → ℤ) → AreIn ns ss → AreIn ns ts → AllWithin ss at → AllWithin (zip join_of ss ts) at
unfolding AreIn AllWithin
zip_left ns [] ts at h g k = tt
zip_left [] (s ∷ ss) ts at h g k = absurd h
zip_left (n ∷ ns) (s ∷ ss) [] at h g k = tt
zip_left (n ∷ ns) (s ∷ ss) (t ∷ ts) at h g k = (join_left s t (at 0) k.0, zip_left ns ss ts (λ k. at (suc k)) h.1 g.1 k.1)

zip_right : (ns : List Num) (ss ts : List Span) (at : ℕ → ℤ) → AreIn ns ss → AreIn ns ts → AllWithin ts at → AllWithin (zip join_of ss ts) at
unfolding AreIn AllWithin
zip_right ns [] ts at h g k = tt
zip_right [] (s ∷ ss) ts at h g k = absurd h
zip_right (n ∷ ns) (s ∷ ss) [] at h g k = tt
zip_right (n ∷ ns) (s ∷ ss) (t ∷ ts) at h g k = (join_right s t (at 0) k.0, zip_right ns ss ts (λ k. at (suc k)) h.1 g.1 k.1)

parts_within : (ss ts : List Span) (at : ℕ → ℤ) → all_parts ss ts ≡ true → AllWithin ss at → AllWithin ts at
unfolding AllWithin
parts_within [] [] at h k = tt
parts_within [] (t ∷ ts) at h k = cc
parts_within (s ∷ ss) [] at h k = tt
parts_within (s ∷ ss) (t ∷ ts) at h k =
    let e = and_facts (is_part s t) (all_parts ss ts) h in
    (part_within s t (at 0) (part_fact s t e.0) k.0, parts_within ss ts (λ k. at (suc k)) e.1 k.1)

ranges_in : (ns : List Num) → AreIn ns (ranges ns)
unfolding AreIn
ranges_in [] = tt
ranges_in (n ∷ ns) = (range_in n, ranges_in ns)

below_ranges : (ns : List Num) (ss : List Span) → AreIn ns ss → all_parts ss (ranges ns) ≡ true
unfolding AreIn
below_ranges [] [] h = refl
below_ranges [] (s ∷ ss) h = absurd h
below_ranges (n ∷ ns) [] h = absurd h
below_ranges (n ∷ ns) (s ∷ ss) h = both_true (is_part s (range_of n)) (all_parts ss (ranges ns)) (part_test s (range_of n) h.0.part) (below_ranges ns ss h.1)

widened_are_in : (ts : List ℤ) (q : ℕ) (ns : List Num) (is js : List Span) → AreIn ns is → AreIn ns js → AreIn ns (widened_spans ts q ns is js)
unfolding AreIn widened_spans
widened_are_in ts q [] [] js h g = tt
widened_are_in ts q [] (i ∷ is) js h g = absurd h
widened_are_in ts q (n ∷ ns) [] js h g = absurd h
widened_are_in ts q (n ∷ ns) (i ∷ is) [] h g = absurd g
widened_are_in ts q (n ∷ ns) (i ∷ is) (j ∷ js) h g = (widened_in ts q n i j h.0 g.0, widened_are_in ts q ns is js h.1 g.1)

-- ---- one cell
get_in : (ns : List Num) (ss : List Span) (c : ℕ) (d : Num) (e : Span) → AreIn ns ss → c < length ns → IsIn (get_or ns c d) (get_or ss c e)
unfolding AreIn
get_in [] ss c d e h l = absurd (omega (arith, l))
get_in (n ∷ ns) [] c d e h l = absurd h
get_in (n ∷ ns) (s ∷ ss) zero d e h l = h.0
get_in (n ∷ ns) (s ∷ ss) (suc c) d e h l = get_in ns ss c d e h.1 (omega (arith, l))

get_within : (ns : List Num) (ss : List Span) (c : ℕ) (e : Span) (at : ℕ → ℤ) → AreIn ns ss → c < length ns → AllWithin ss at → Within (get_or ss c e) (at c)
unfolding AreIn AllWithin
get_within [] ss c e at h l k = absurd (omega (arith, l))
get_within (n ∷ ns) [] c e at h l k = absurd h
get_within (n ∷ ns) (s ∷ ss) zero e at h l k = k.0
get_within (n ∷ ns) (s ∷ ss) (suc c) e at h l k = get_within ns ss c e (λ k. at (suc k)) h.1 (omega (arith, l)) k.1

put_in : (ns : List Num) (ss : List Span) (c : ℕ) (d : Num) (s : Span) → AreIn ns ss → IsIn (get_or ns c d) s → AreIn ns (put c s ss)
unfolding AreIn
put_in [] [] c d s h k = tt
put_in [] (t ∷ ss) c d s h k = absurd h
put_in (n ∷ ns) [] c d s h k = absurd h
put_in (n ∷ ns) (t ∷ ss) zero d s h k = (k, h.1)
put_in (n ∷ ns) (t ∷ ss) (suc c) d s h k = (h.0, put_in ns ss c d s h.1 k)

same_within : (ss : List Span) (at bt : ℕ → ℤ) → ((d : ℕ) → bt d ≡ at d) → AllWithin ss at → AllWithin ss bt
unfolding AllWithin
same_within [] at bt e h = tt
same_within (s ∷ ss) at bt e h = (subst (λ (z : ℤ). Within s z) (sym (e 0)) h.0, same_within ss (λ k. at (suc k)) (λ k. bt (suc k)) (λ d. e (suc d)) h.1)

not_zero : (d : ℕ) → suc d ≢ 0
not_zero d e = absurd (omega (arith, e))

not_first : (c : ℕ) → zero ≢ suc c
not_first c e = absurd (omega (arith, e))

not_later : (d c : ℕ) → d ≢ c → suc d ≢ suc c
not_later d c h e = h (omega (arith, e))

put_within : (ss : List Span) (c : ℕ) (s : Span) (at bt : ℕ → ℤ) → ((d : ℕ) → d ≢ c → bt d ≡ at d) → Within s (bt c) → AllWithin ss at → AllWithin (put c s ss) bt
unfolding AllWithin
put_within [] c s at bt e w h = tt
put_within (t ∷ ss) zero s at bt e w h = (w, same_within ss (λ k. at (suc k)) (λ k. bt (suc k)) (λ d. e (suc d) (not_zero d)) h.1)
put_within (t ∷ ss) (suc c) s at bt e w h =
    (subst (λ (z : ℤ). Within t z) (sym (e 0 (not_first c))) h.0, put_within ss c s (λ k. at (suc k)) (λ k. bt (suc k)) (λ d n. e (suc d) (not_later d c n)) w h.1)

all_ranges : (ns : List Num) (d : Num) (at : ℕ → ℤ) → ((c : ℕ) → c < length ns → Within (range_of (get_or ns c d)) (at c)) → AllWithin (ranges ns) at
unfolding AllWithin
all_ranges [] d at h = tt
all_ranges (n ∷ ns) d at h = (h 0 (omega arith), all_ranges ns d (λ k. at (suc k)) (λ c l. h (suc c) (omega (arith, l))))

module _ (l : Limits) (all : List ℕ) (starred : ℕ → Bool) (input : ℕ → Span → Span) (some : pos 0 ≤ℤ l.max_clock) (last : l.max_clock ≤ℤ pos (2 ^ 62)) where
  abbrev pub cells_for : Cells
  cells_for = record { all = all; num = λ c. get_or l.nums c I32; starred = starred; input = input; clocks = whole_clock l }

  abbrev InFrame : Frame → Span → Type 0
  InFrame anywhere s = Unit {0}
  InFrame (exactly t) s = s ≡ t

  -- the clock is one that may be, and each cell's span lies in its type
  pub record IsUnder (f : Frame) (e : Flat) : Type 0 where
    pub cells : AreIn l.nums e.cells
    pub ordered : e.clock.lo ≤ℤ e.clock.hi
    pub part : IsPart e.clock (whole_clock l)
    pub frame : InFrame f e.clock

  with_cell_under : (f : Frame) (c : ℕ) (s : Span) (e : Flat) → IsUnder f e → IsIn (get_or l.nums c I32) s → IsUnder f (with_cell c s e)
  with_cell_under f c s e u h = record { cells = put_in l.nums e.cells c I32 s u.cells h; ordered = u.ordered; part = u.part; frame = u.frame }

  -- ---- imposing
  get_any : (ns : List Num) (ss : List Span) (c : ℕ) → AreIn ns ss → (k : Span → Type 0) → ((c < length ns) → k (get_or ss c (single (pos 0)))) → ((put_same : (s : Span) → put c s ss ≡ ss) → k (get_or ss c (single (pos 0)))) → k (get_or ss c (single (pos 0)))
  unfolding AreIn
  get_any [] [] c h k y n = n (λ s. refl)
  get_any [] (s ∷ ss) c h k y n = absurd h
  get_any (m ∷ ns) [] c h k y n = absurd h
  get_any (m ∷ ns) (s ∷ ss) zero h k y n = y (omega arith)
  get_any (m ∷ ns) (s ∷ ss) (suc c) h k y n = get_any ns ss c h.1 k (λ l. y (omega (arith, l))) (λ e. n (λ t. ap (λ (rest : List Span). s ∷ rest) (e t)))

  term_under : (f : Frame) (t : Term) (k : ℤ) (e : Flat) → IsUnder f e → IfAlive (IsUnder f) (term_at_most t k e)
  term_under f t k e u =
      get_any l.nums e.cells t.cell u.cells (λ s. IfAlive (IsUnder f) (alive_then (cut t.plus s k) (λ s. Some (with_cell t.cell s e))))
      (λ l. alive_keeps (λ s. IsIn (get_or _ t.cell I32) s) (IsUnder f) (cut t.plus (cell_of t.cell e) k) (λ s. Some (with_cell t.cell s e))
      (cut_in (get_or _ t.cell I32) t.plus (cell_of t.cell e) k (get_in _ e.cells t.cell I32 (single (pos 0)) u.cells l)) (λ s h. with_cell_under f t.cell s e u h))
      (λ same. nothing_put same (cut t.plus (cell_of t.cell e) k))
    where
      nothing_put : ((s : Span) → put t.cell s e.cells ≡ e.cells) → (o : Option Span) → IfAlive (IsUnder f) (alive_then o (λ s. Some (with_cell t.cell s e)))
      nothing_put same None = tt
      nothing_put same (Some s) = record { cells = subst (λ (ss : List Span). AreIn l.nums ss) (sym (same s)) u.cells; ordered = u.ordered; part = u.part; frame = u.frame }

  terms_under : (f : Frame) (t v : Option Term) (k : ℤ) (e : Flat) → IsUnder f e → IfAlive (IsUnder f) (terms_at_most t v k e)
  terms_under f None None k e u = u
  terms_under f None (Some v) k e u = term_under f v k e u
  terms_under f (Some t) None k e u = term_under f t k e u
  terms_under f (Some t) (Some v) k e u =
      alive_keeps (IsUnder f) (IsUnder f) (term_at_most t (k -ℤ least_term v e) e) (λ e. term_at_most v (k -ℤ least_term t e) e) (term_under f t (k -ℤ least_term v e) e u)
      (λ e u. term_under f v (k -ℤ least_term t e) e u)

  signed_if : (b : Bool) (z : ℤ) → signed b z ≡ (if b then z else pos 0 -ℤ z)
  signed_if true z = refl
  signed_if false z = refl

  -- an environment in which the point lies
  record Holding (f : Frame) (at : ℕ → ℤ) (time : ℤ) (e : Flat) : Type 0 where
    under : IsUnder f e
    lies : Lies e at time

  term_lies : (f : Frame) (t : Term) (k : ℤ) (e : Flat) (at : ℕ → ℤ) (time : ℤ) → t.cell < length l.nums → Holding f at time e → signed t.plus (at t.cell) ≤ℤ k → AliveAnd (Holding f at time) (term_at_most t k e)
  term_lies f t k e at time c h le =
      let w = get_within l.nums e.cells t.cell (single (pos 0)) at h.under.cells c h.lies.cells in
      let i = get_in l.nums e.cells t.cell I32 (single (pos 0)) h.under.cells c in
      from (cut t.plus (cell_of t.cell e) k) (cut_holds t.plus (cell_of t.cell e) k (at t.cell) w (subst (λ (z : ℤ). z ≤ℤ k) (signed_if t.plus (at t.cell)) le)) (cut_in (get_or l.nums t.cell I32) t.plus (cell_of t.cell e) k i)
    where
      from : (o : Option Span) → AliveAnd (λ s. Within s (at t.cell)) o → IfAlive (λ s. IsIn (get_or l.nums t.cell I32) s) o → AliveAnd (Holding f at time) (alive_then o (λ s. Some (with_cell t.cell s e)))
      from None a b = absurd a
      from (Some s) a b = record {
        under = with_cell_under f t.cell s e h.under b;
        lies = record { cells = put_within e.cells t.cell s at at (λ d n. refl) a h.lies.cells; clock = h.lies.clock };
      }

  least_below : (f : Frame) (t : Term) (e : Flat) (at : ℕ → ℤ) (time : ℤ) → t.cell < length l.nums → Holding f at time e → least_term t e ≤ℤ signed t.plus (at t.cell)
  least_below f t e at time c h = by t.plus (get_within l.nums e.cells t.cell (single (pos 0)) at h.under.cells c h.lies.cells)
    where
      by : (b : Bool) → Within (cell_of t.cell e) (at t.cell) → (if b then (cell_of t.cell e).lo else pos 0 -ℤ (cell_of t.cell e).hi) ≤ℤ signed b (at t.cell)
      by true w = w.above
      by false w = let b = w.below in omega (arith, ints)

  terms_lie : (f : Frame) (t v : Option Term) (k : ℤ) (e : Flat) (at : ℕ → ℤ) (time : ℤ) → IfAlive (λ t. t.cell < length l.nums) t → IfAlive (λ t. t.cell < length l.nums) v → Holding f at time e →
      (term_number t at +ℤ term_number v at) ≤ℤ k → AliveAnd (Holding f at time) (terms_at_most t v k e)
  terms_lie f None None k e at time a b h le = h
  terms_lie f None (Some v) k e at time a b h le = term_lies f v k e at time b h (omega (arith, ints))
  terms_lie f (Some t) None k e at time a b h le = term_lies f t k e at time a h (omega (arith, ints))
  terms_lie f (Some t) (Some v) k e at time a b h le =
      let low = least_below f v e at time b h in
      alive_on (Holding f at time) (Holding f at time) (term_at_most t (k -ℤ least_term v e) e) (λ e. term_at_most v (k -ℤ least_term t e) e)
      (term_lies f t (k -ℤ least_term v e) e at time a h (omega (arith, ints)))
      (λ i g. let under = least_below f t i at time a g in term_lies f v (k -ℤ least_term t i) i at time b g (omega (arith, ints)))

  -- ---- the clock
  join_frame : (f : Frame) (a b : Span) → InFrame f a → InFrame f b → InFrame f (join_of a b)
  join_frame anywhere a b h k = tt
  join_frame (exactly s) a b h k = rw h (rw k (join_same s))

  widened_same : (s : Span) → widened_clock l.max_clock s s ≡ s
  widened_same s = let a : int_min s.lo s.lo ≡ s.lo = omega (arith, ints, clamps) in let b : int_le s.hi s.hi ≡ true = grind (arith, ints) in rw a (rw b refl)

  widened_frame : (f : Frame) (a b : Span) → InFrame f a → InFrame f b → InFrame f (widened_clock l.max_clock a b)
  widened_frame anywhere a b h k = tt
  widened_frame (exactly s) a b h k = rw h (rw k (widened_same s))

  clock_widened : (i j : Span) → i.lo ≤ℤ i.hi → IsPart i (whole_clock l) → IsPart j (whole_clock l) →
      ((widened_clock l.max_clock i j).lo ≤ℤ (widened_clock l.max_clock i j).hi) × IsPart (widened_clock l.max_clock i j) (whole_clock l)
  clock_widened i j o h k =
      let ha = h.above in
      let hb = h.below in
      let ka = k.above in
      let kb = k.below in
      (ordered, record { above = omega (arith, ints, clamps); below = risen_below l.max_clock i.hi j.hi h.below })
    where
      ordered : (widened_clock l.max_clock i j).lo ≤ℤ (widened_clock l.max_clock i j).hi
      ordered = let up = risen_over l.max_clock i.hi j.hi h.below in omega (arith, ints, clamps)

  tick_under : (a : Flat) → IsUnder anywhere a → IfAlive (IsUnder anywhere) (tick_of l a)
  tick_under a u = ticked _ (meet_meets (sum_of a.clock (single (pos 1))) (whole_clock l))
    where
      ticked : (o : Option Span) → IfAlive (Meets (sum_of a.clock (single (pos 1))) (whole_clock l)) o → IfAlive (IsUnder anywhere) (alive_then o (λ c. Some (record a { clock = c })))
      ticked None h = tt
      ticked (Some c) h = record { cells = u.cells; ordered = h.ordered; part = h.second; frame = tt }

  tick_lies : (e : Flat) (at : ℕ → ℤ) (time : ℤ) → IsUnder anywhere e → Lies e at time → int_le l.max_clock time ≡ false → AliveAnd (λ i. Lies i at (time +ℤ pos 1)) (tick_of l e)
  tick_lies e at time u h f =
      let below = not_le_fact l.max_clock time f in
      let ua = u.part.above in
      let ha = h.clock.above in
      let hb = h.clock.below in
      let after : Within (sum_of e.clock (single (pos 1))) (time +ℤ pos 1) = record { above = omega (arith, ints, clamps); below = omega (arith, ints, clamps) } in
      ticked (meet_of (sum_of e.clock (single (pos 1))) (whole_clock l))
      (meet_some _ (whole_clock l) (time +ℤ pos 1) after (record { above = omega (arith, ints); below = omega (arith, ints) }))
    where
      ticked : (o : Option Span) → AliveAnd (λ s. Within s (time +ℤ pos 1)) o → AliveAnd (λ i. Lies i at (time +ℤ pos 1)) (alive_then o (λ c. Some (record e { clock = c })))
      ticked None j = absurd j
      ticked (Some c) j = record { cells = h.cells; clock = j }

  -- ---- the laws
  abbrev Kept : Frame → Flat → Type 0
  Kept f e = IsUnder f e × Unit {0}

  kept_if : (f : Frame) (o : Option Flat) → IfAlive (IsUnder f) o → IfAlive (Kept f) o
  kept_if f None h = tt
  kept_if f (Some e) h = (h, tt)

  lies_if : (f : Frame) (at : ℕ → ℤ) (time : ℤ) (o : Option Flat) → AliveAnd (Holding f at time) o → AliveAnd (λ e. Lies e at time) o
  lies_if f at time None h = absurd h
  lies_if f at time (Some e) h = h.lies

  top_under : (f : Frame) (s : Span) → s.lo ≤ℤ s.hi → IsPart s (whole_clock l) → InFrame f s → IsUnder f (top_of l s)
  top_under f s o p i = record { cells = ranges_in l.nums; ordered = o; part = p; frame = i }

  whole_part : IsPart (whole_clock l) (whole_clock l)
  whole_part = record { above = omega (arith, ints); below = omega (arith, ints) }

  pub interval_laws : Lawful cells_for (intervals l)
  interval_laws = record {
    IsCell = λ c. c < length l.nums;
    Under = IsUnder;
    Closed = λ e. Unit {0};
    own = λ f a u. record { cells = u.cells; ordered = u.ordered; part = u.part; frame = refl };
    cell_in = λ f c a h u. get_in l.nums a.cells c I32 (single (pos 0)) u.cells h;
    clock_ordered = λ f a u. u.ordered;
    clock_part = λ f a u. u.part;
    within_in = λ f h num s a u c i. i;
    assign_keeps = λ f c s h a k i u z. (with_cell_under f c s a u i, tt);
    impose_keeps = λ f h k a u c. kept_if f (impose_of h k a) (terms_under f h.first h.second (k -ℤ h.c) a u);
    tick_keeps = λ a u c. kept_if anywhere (tick_of l a) (tick_under a u);
    reduce_keeps = λ f a u. (u, tt);
    merge_keeps = λ f a b u c v d. (
      record {
        cells = zip_in l.nums a.cells b.cells u.cells v.cells;
        ordered = join_ordered a.clock b.clock u.ordered;
        part = join_part a.clock b.clock (whole_clock l) u.part v.part;
        frame = join_frame f a.clock b.clock u.frame v.frame;
      },
      tt,
    );
    widen_keeps = λ f p a b u v.
        let c = clock_widened a.clock b.clock u.ordered u.part v.part in
        record { cells = widened_are_in l.thresholds p l.nums a.cells b.cells u.cells v.cells; ordered = c.0; part = c.1; frame = widened_frame f a.clock b.clock u.frame v.frame };
    peak_keeps = λ f a u. (top_under f a.clock u.ordered u.part u.frame, tt);
    top_keeps = (top_under anywhere (whole_clock l) some whole_part tt, tt);
    start_keeps = (top_under anywhere (single (pos 0)) (omega (arith, ints)) (record { above = omega (arith, ints); below = some }) tt, tt);
    below_top = λ a u. both_true (is_part a.clock (whole_clock l)) (all_parts a.cells (ranges l.nums)) (part_test a.clock (whole_clock l) u.part) (below_ranges l.nums a.cells u.cells);
    below_peak = λ s a u. both_true (is_part a.clock s.clock) (all_parts a.cells (ranges l.nums)) (rw u.frame (part_test s.clock s.clock (record { above = omega (arith, ints); below = omega (arith, ints) })))
        (below_ranges l.nums a.cells u.cells);
    cell_sound = λ f c a at time k u h. get_within l.nums a.cells c (single (pos 0)) at u.cells k h.cells;
    clock_sound = λ a at time h. h.clock;
    within_sound = λ f h s a at time c u d p w. w;
    assign_sound = λ f c s h a at bt time k u z p e w n. record { cells = put_within a.cells c s at bt e w p.cells; clock = p.clock };
    impose_sound = λ f h k a at time c u z p le.
        lies_if f at time (impose_of h k a) (terms_lie f h.first h.second (k -ℤ h.c) a at time c.0 c.1 (record { under = u; lies = p }) (omega (arith, ints)));
    tick_sound = λ a at time u c p f. tick_lies a at time u p f;
    reduce_sound = λ f a at time u p. p;
    le_sound = λ f a b at time u v le p.
        let e = and_facts (is_part a.clock b.clock) (all_parts a.cells b.cells) le in
        record { cells = parts_within a.cells b.cells at e.1 p.cells; clock = part_within a.clock b.clock time (part_fact a.clock b.clock e.0) p.clock };
    merge_left = λ f a b at time u v p. record { cells = zip_left l.nums a.cells b.cells at u.cells v.cells p.cells; clock = join_left a.clock b.clock time p.clock };
    merge_right = λ f a b at time u v p. record { cells = zip_right l.nums a.cells b.cells at u.cells v.cells p.cells; clock = join_right a.clock b.clock time p.clock };
    start_sound = λ at h. record { cells = all_ranges l.nums I32 at h; clock = record { above = omega (arith, ints); below = omega (arith, ints) } };
  }
