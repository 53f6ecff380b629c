-- What the operations on environments keep, and what they hold of.
use Rattle.std.proofs.Common.{◌≡◌, ℕ, zero, suc, ◌+◌, ℤ, pos, ◌+ℤ◌, ◌≤ℤ◌, Bool, true, false, ◌&&◌, List, [], ◌∷◌, refl, arith, Option, Some, None}
use Rattle.std.specs.Prelude.{if◌then◌else◌, get_or, IsTrue}
use Rattle.std.specs.Int.RustNames.{int_le}
use Rattle.std.proofs.lemmas.Int.{ints, clamps}
use Rattle.sa_base.specs.declared.num.Num.{Num}
use Rattle.sa_base.specs.declared.num.Num.TheVariants.{I8, U8, I16, U16, I32, U32, I64, U64}
use Rattle.sa_interval.specs.Span.{Span, Within, IsPart, cut, high_limit}
use Rattle.sa_interval.specs.Rows.{single, sum_of, join_of, meet_of, is_part}
use Rattle.sa_typed.specs.Cells.{Cell, cells, names}
use Rattle.sa_typed.specs.Evaluation.{Store}
use Rattle.sa_typed.specs.declared.program.Place.{Place}
use Rattle.sa_typed.specs.declared.program.Program.{Program}
use Rattle.sa_reference.specs.declared.flat.Flat.{Flat}
use Rattle.sa_reference.specs.Passes.{alive_then}
use Rattle.sa_operators.specs.Operators.{IsIn, range_of}
use Rattle.sa_reference.specs.Environments.{zip, all_parts, put, ranges, cell_range, whole_clock, widened_spans, widened_span, widened_clock, merge_of, le_of, tick_of, widen_of, top_of, AllHold, Holds}
use Rattle.sa_reference.specs.Sound.{AliveAnd}
use Rattle.sa_reference.specs.Fair.{AreIn, IsFair}
use Rattle.sa_reference.proofs.Laws.{IfAlive}
use Rattle.sa_reference.proofs.SpanLaws.{part_fact, part_test, part_within, and_facts, both_true, join_left, join_right, join_in, join_part, join_ordered, widened_in, risen_below, risen_over, not_le_fact, meet_some, meet_meets, Meets}

-- ---- lists of spans
pub zip_in : (cs : List Cell) (ss ts : List Span) → AreIn cs ss → AreIn cs ts → AreIn cs (zip join_of ss ts)
unfolding AreIn
zip_in [] [] ts h g = tt
zip_in [] (s ∷ ss) ts h g = absurd h
zip_in (c ∷ cs) [] ts h g = absurd h
zip_in (c ∷ cs) (s ∷ ss) [] h g = absurd g
zip_in (c ∷ cs) (s ∷ ss) (t ∷ ts) h g = (join_in c.num s t h.0 g.0, zip_in cs ss ts h.1 g.1)

pub zip_left : (cs : List Cell) (ss ts : List Span) (store : Store) → AreIn cs ts → AllHold cs ss store → AllHold cs (zip join_of ss ts) store
unfolding AreIn AllHold
zip_left [] [] ts store g k = tt
zip_left [] (s ∷ ss) ts store g k = absurd k
zip_left (c ∷ cs) [] ts store g k = absurd k
zip_left (c ∷ cs) (s ∷ ss) [] store g k = absurd g
zip_left (c ∷ cs) (s ∷ ss) (t ∷ ts) store g k = (λ a n. join_left s t (store a) (k.0 a n), zip_left cs ss ts store g.1 k.1)

pub zip_right : (cs : List Cell) (ss ts : List Span) (store : Store) → AreIn cs ss → AllHold cs ts store → AllHold cs (zip join_of ss ts) store
unfolding AreIn AllHold
zip_right [] [] [] store h k = tt
zip_right [] [] (t ∷ ts) store h k = absurd k
zip_right [] (s ∷ ss) ts store h k = absurd h
zip_right (c ∷ cs) [] ts store h k = absurd h
zip_right (c ∷ cs) (s ∷ ss) [] store h k = absurd k
zip_right (c ∷ cs) (s ∷ ss) (t ∷ ts) store h k = (λ a n. join_right s t (store a) (k.0 a n), zip_right cs ss ts store h.1 k.1)

pub parts_hold : (cs : List Cell) (ss ts : List Span) (store : Store) → all_parts ss ts ≡ true → AllHold cs ss store → AllHold cs ts store
unfolding AllHold
parts_hold [] [] [] store h k = tt
parts_hold [] [] (t ∷ ts) store h k = cc
parts_hold [] (s ∷ ss) ts store h k = absurd k
parts_hold (c ∷ cs) [] ts store h k = absurd k
parts_hold (c ∷ cs) (s ∷ ss) [] store h k = cc
parts_hold (c ∷ cs) (s ∷ ss) (t ∷ ts) store h k =
    let e = and_facts (is_part s t) (all_parts ss ts) h in
    (λ a n. part_within s t (store a) (part_fact s t e.0) (k.0 a n), parts_hold cs ss ts store e.1 k.1)

-- a type's range isn't empty
pub range_in : (num : Num) → IsIn num (range_of num)
range_in num = record { ordered = ordered num; part = record { above = omega (arith, ints); below = omega (arith, ints) } }
  where
    ordered : (num : Num) → (range_of num).lo ≤ℤ (range_of num).hi
    ordered I8 = omega (arith, ints)
    ordered U8 = omega (arith, ints)
    ordered I16 = omega (arith, ints)
    ordered U16 = omega (arith, ints)
    ordered I32 = omega (arith, ints)
    ordered U32 = omega (arith, ints)
    ordered I64 = omega (arith, ints)
    ordered U64 = omega (arith, ints)

pub ranges_in : (cs : List Cell) → AreIn cs (ranges cs)
unfolding AreIn ranges cell_range
ranges_in [] = tt
ranges_in (c ∷ cs) = (range_in c.num, ranges_in cs)

pub below_ranges : (cs : List Cell) (ss : List Span) → AreIn cs ss → all_parts ss (ranges cs) ≡ true
unfolding AreIn ranges cell_range
below_ranges [] [] h = refl
below_ranges [] (s ∷ ss) h = absurd h
below_ranges (c ∷ cs) [] h = absurd h
below_ranges (c ∷ cs) (s ∷ ss) h = both_true (is_part s (range_of c.num)) (all_parts ss (ranges cs)) (part_test s (range_of c.num) h.0.part) (below_ranges cs ss h.1)

pub widened_are_in : (ts : List ℤ) (q : ℕ) (cs : List Cell) (is js : List Span) → AreIn cs is → AreIn cs js → AreIn cs (widened_spans ts q (ranges cs) is js)
unfolding AreIn ranges cell_range widened_spans
widened_are_in ts q [] [] js h g = tt
widened_are_in ts q [] (i ∷ is) js h g = absurd h
widened_are_in ts q (c ∷ cs) [] js h g = absurd h
widened_are_in ts q (c ∷ cs) (i ∷ is) [] h g = absurd g
widened_are_in ts q (c ∷ cs) (i ∷ is) (j ∷ js) h g = (widened_in ts q c.num i j h.0 g.0, widened_are_in ts q cs is js h.1 g.1)

-- ---- operations
module _ (p : Program) (m : ℤ) where
  pub tick_holds : (env : Flat) (store : Store) (time : ℤ) → m ≤ℤ high_limit → IsFair p m env → Holds p env store time → int_le m time ≡ false →
      AliveAnd (λ i. Holds p i store (time +ℤ pos 1)) (tick_of m env)
  tick_holds env store time big u h f =
      let below = not_le_fact m time f in
      let ua = u.clock.above in
      let ha = h.clock.above in
      let hb = h.clock.below in
      let cut_is : cut (time +ℤ pos 1) ≡ time +ℤ pos 1 = omega (arith, ints, clamps) in
      let after : Within (sum_of env.clock (single (pos 1))) (time +ℤ pos 1) = record { above = omega (arith, ints, clamps); below = omega (arith, ints, clamps) } in
      ticked (meet_of (sum_of env.clock (single (pos 1))) (whole_clock m))
      (meet_some _ (whole_clock m) (time +ℤ pos 1) after (record { above = omega (arith, ints); below = omega (arith, ints) }))
    where
      ticked : (o : Option Span) → AliveAnd (λ s. Within s (time +ℤ pos 1)) o → AliveAnd (λ i. Holds p i store (time +ℤ pos 1)) (alive_then o (λ c. Some (record env { clock = c })))
      ticked None j = absurd j
      ticked (Some c) j = record { cells = h.cells; clock = j }

  pub le_holds : (a b : Flat) (store : Store) (time : ℤ) → le_of a b ≡ true → Holds p a store time → Holds p b store time
  le_holds a b store time le h =
      let e = and_facts (is_part a.clock b.clock) (all_parts a.cells b.cells) le in
      record { cells = parts_hold (cells p) a.cells b.cells store e.1 h.cells; clock = part_within a.clock b.clock time (part_fact a.clock b.clock e.0) h.clock }

  pub tick_fair : (a : Flat) → IsFair p m a → IfAlive (IsFair p m) (tick_of m a)
  tick_fair a u = ticked _ (meet_meets (sum_of a.clock (single (pos 1))) (whole_clock m))
    where
      ticked : (o : Option Span) → IfAlive (Meets (sum_of a.clock (single (pos 1))) (whole_clock m)) o → IfAlive (IsFair p m) (alive_then o (λ c. Some (record a { clock = c })))
      ticked None h = tt
      ticked (Some c) h = record { ordered = h.ordered; clock = h.second; cells = u.cells }

  pub merge_fair : (a b : Flat) → IsFair p m a → IsFair p m b → IsFair p m (merge_of a b)
  merge_fair a b u v = record {
    ordered = join_ordered a.clock b.clock u.ordered;
    clock = join_part a.clock b.clock (whole_clock m) u.clock v.clock;
    cells = zip_in (cells p) a.cells b.cells u.cells v.cells;
  }

  clock_fair : (i j : Span) → i.lo ≤ℤ i.hi → IsPart i (whole_clock m) → IsPart j (whole_clock m) → ((widened_clock m i j).lo ≤ℤ (widened_clock m i j).hi) × IsPart (widened_clock m i j) (whole_clock m)
  clock_fair i j o h k =
      let ha = h.above in
      let hb = h.below in
      let ka = k.above in
      let kb = k.below in
      (ordered, record { above = omega (arith, ints, clamps); below = risen_below m i.hi j.hi h.below })
    where
      ordered : (widened_clock m i j).lo ≤ℤ (widened_clock m i j).hi
      ordered = let up = risen_over m i.hi j.hi h.below in omega (arith, ints, clamps)

  pub widen_fair : (q : ℕ) (a b : Flat) → IsFair p m a → IsFair p m b → IsFair p m (widen_of p m q a b)
  unfolding widen_of
  widen_fair q a b u v =
      let c = clock_fair a.clock b.clock u.ordered u.clock v.clock in
      record { ordered = c.0; clock = c.1; cells = widened_are_in _ q (cells p) a.cells b.cells u.cells v.cells }

  pub merge_holds_left : (a b : Flat) (store : Store) (time : ℤ) → IsFair p m b → Holds p a store time → Holds p (merge_of a b) store time
  merge_holds_left a b store time v h = record { cells = zip_left (cells p) a.cells b.cells store v.cells h.cells; clock = join_left a.clock b.clock time h.clock }

  pub merge_holds_right : (a b : Flat) (store : Store) (time : ℤ) → IsFair p m a → Holds p b store time → Holds p (merge_of a b) store time
  merge_holds_right a b store time u h = record { cells = zip_right (cells p) a.cells b.cells store u.cells h.cells; clock = join_right a.clock b.clock time h.clock }

  pub top_fair : pos 0 ≤ℤ m → IsFair p m (top_of p (whole_clock m))
  top_fair some = record { ordered = some; clock = record { above = omega (arith, ints); below = omega (arith, ints) }; cells = ranges_in (cells p) }

  pub all_below_top : (a : Flat) → IsFair p m a → le_of a (top_of p (whole_clock m)) ≡ true
  all_below_top a u = both_true (is_part a.clock (whole_clock m)) (all_parts a.cells (ranges (cells p))) (part_test a.clock (whole_clock m) u.clock) (below_ranges (cells p) a.cells u.cells)
