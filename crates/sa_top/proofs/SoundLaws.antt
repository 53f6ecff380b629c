-- The reference analysis is sound over intervals: what is printed is true.
use Rattle.std.proofs.Common.{◌≡◌, ℕ, zero, suc, ◌+◌, ℤ, pos, ◌≤ℤ◌, Bool, true, false, List, [], ◌∷◌, refl, sym, ap, subst, ◌∙◌, Option, Some, None, length, arith}
use Rattle.std.specs.Prelude.{if◌then◌else◌, slice_get, map, IsTrue}
use Rattle.std.specs.List.{AllByRecursion}
use Rattle.std.proofs.lemmas.Int.{ints}
use Rattle.sa_base.specs.Numbers.{num_lo, num_hi}
use Rattle.sa_base.specs.declared.num.Num.{Num}
use Rattle.sa_base.specs.declared.num.Num.TheVariants.{I8, U8, I16, U16, I32, U32, I64, U64}
use Rattle.sa_base.specs.declared.pos.Pos.{Pos}
use Rattle.sa_interval.specs.Span.{Span}
use Rattle.sa_tokens.specs.Lexed.{end_pos}
use Rattle.sa_typed.specs.Cells.{Cell, cells}
use Rattle.sa_typed.specs.Evaluation.{Store, Range}
use Rattle.sa_typed.specs.Executions.{Visit}
use Rattle.sa_typed.specs.Lines.{Line, IsTrueLine, CellIn}
use Rattle.sa_typed.specs.WellTyped.{IsTyped}
use Rattle.sa_typed.specs.declared.program.Input.{Input}
use Rattle.sa_typed.specs.declared.program.Program.{Program}
use Rattle.sa_typer.specs.Units.{Answer, Accepts, Refuses, TooManyCells, answer}
use Rattle.sa_unbuilt.specs.Unbuilt.{first_unbuilt}
use Rattle.sa_typer.proofs.UnitLaws.{accepted_typed}
use Rattle.sa_reference.specs.declared.flat.Flat.{Flat}
use Rattle.sa_reference.specs.Environments.{AllHold, Holds}
use Rattle.sa_reference.specs.Intervals.{intervals}
use Rattle.sa_reference.specs.Reference.{record_at}
use Rattle.sa_reference.specs.Steps.{Record}
use Rattle.sa_reference.specs.Sound.{AliveAnd, IsWithin, widest, type_range}
use Rattle.sa_reference.proofs.RunLaws.{covered_more}
use Rattle.sa_reference.proofs.SoundLaws as reference
use Rattle.sa_report.specs.Alarms.{rising}
use Rattle.sa_report.specs.Report.{cell_lines, lines_of}
use Rattle.sa_report.specs.Shown.{is_shown}
use Rattle.sa_report.proofs.AlarmLemmas.{among-rising}
use Rattle.sa_top.specs.Accepted.{Reading, Built, IsAccepted, reading_of, unless_unbuilt, typed_as}
use Rattle.sa_top.specs.Sound.{AreTrueAt, Sound, Short, found_of}

-- ---- lines
cells_true : (p : Program) (q : Pos) (cs : List Cell) (ss : List Span) (store : Store) (time : ℤ) → AllHold cs ss store → AllByRecursion (λ line. IsTrueLine line store time) (cell_lines p q cs ss)
unfolding AllHold cell_lines
cells_true p q [] ss store time h = tt
cells_true p q (c ∷ cs) [] store time h = absurd h
cells_true p q (c ∷ cs) (s ∷ ss) store time h =
    elim (is_shown p q c) as (λ b. AllByRecursion (λ line. IsTrueLine line store time) (if b then CellIn c s.lo s.hi ∷ cell_lines p q cs ss else cell_lines p q cs ss)) [
      | true ↦ ((λ a n. let w = h.0 a n in record { above = w.above; below = w.below }), cells_true p q cs ss store time h.1)
      | false ↦ cells_true p q cs ss store time h.1
    ]

lines_true : (p : Program) (o : Option (Record Flat)) (v : Visit) → AliveAnd (λ r. Holds p r.state v.store v.clock) o → AreTrueAt p o v
lines_true p None v h = absurd h
lines_true p (Some r) v h = (record { above = h.clock.above; below = h.clock.below }, cells_true p v.loop.place (cells p) r.state.cells v.store v.clock h.cells)

all_map : {A : Type 0} (P Q : A → Type 0) (xs : List A) → ((a : A) → P a → Q a) → AllByRecursion P xs → AllByRecursion Q xs
all_map P Q [] k h = tt
all_map P Q (x ∷ xs) k h = (k x h.0, all_map P Q xs k h.1)

-- ---- ranges of types
ordered : (num : Num) → num_lo num ≤ℤ num_hi num
ordered I8 = omega (arith, ints)
ordered U8 = omega (arith, ints)
ordered I16 = omega (arith, ints)
ordered U16 = omega (arith, ints)
ordered I32 = omega (arith, ints)
ordered U32 = omega (arith, ints)
ordered I64 = omega (arith, ints)
ordered U64 = omega (arith, ints)

get_range : (is : List Input) (k : ℕ) (i : Input) → slice_get is k ≡ Some i → slice_get (map type_range is) k ≡ Some (type_range i)
get_range [] k i h = cc
get_range (x ∷ is) zero i h = let e : x ≡ i = cc in ap (λ (i : Input). Some (type_range i)) e
get_range (x ∷ is) (suc k) i h = get_range is k i h

pub within_types : (p : Program) → IsWithin p (widest p)
within_types p = record {
  clock = omega (arith, ints);
  last = omega (arith, ints);
  inputs = λ k i r h g.
      let same : type_range i ≡ r = some_is (sym (get_range p.inputs k i h) ∙ g) in
      subst (λ (r : Range). (num_lo i.num ≤ℤ r.lo) × (r.lo ≤ℤ r.hi) × (r.hi ≤ℤ num_hi i.num)) same (omega (arith, ints), ordered i.num, omega (arith, ints));
  all = λ k i h. (type_range i, get_range p.inputs k i h);
}
  where
    some_is : {a b : Range} → Some a ≡ Some b → a ≡ b
    some_is h = cc

-- ---- accepted programs
built_is : (o : Option Pos) (a : Answer) (p : Program) → unless_unbuilt o a ≡ Built p → a ≡ Accepts p
built_is (Some q) a p h = cc
built_is None (Accepts x) p h = let e : x ≡ p = cc in ap Accepts e
built_is None (Refuses r) p h = cc
built_is None TooManyCells p h = cc

none_unbuilt : (o : Option Pos) (a : Answer) (p : Program) → unless_unbuilt o a ≡ Built p → o ≡ None
none_unbuilt (Some q) a p h = cc
none_unbuilt None a p h = refl

typed : (source : List ℕ) (p : Program) → IsAccepted source p → IsTyped p
unfolding reading_of
typed source p h =
    accepted_typed h.tree (end_pos source) p (built_is (first_unbuilt h.tree) (answer h.tree (end_pos source)) p h.read) (none_unbuilt (first_unbuilt h.tree) (answer h.tree (end_pos source)) p h.read)

pub sound : Sound
sound source p built tape n =
    let ok = reference.sound p (widest p) (typed source p built) (within_types p) tape n in
    record {
      inside = all_map _ _ _ (λ v h. lines_true p (record_at (intervals p (widest p)) (found_of p).records v.loop) v h) ok.inside;
      covered = covered_more (found_of p).alarms (rising (found_of p).alarms) _ (λ a m. among-rising (found_of p).alarms a m) ok.covered;
    }

pub short : Short
short source p built = reference.short p (widest p) (typed source p built) (within_types p)
