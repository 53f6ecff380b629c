-- Spans put into types.
use Rattle.std.proofs.Common.{◌≡◌, ℕ, ◌^◌, ◌-◌, ◌≤◌, ℤ, pos, negsuc, neg_ℤ, ◌≤ℤ◌, ◌<ℤ◌, ◌-ℤ◌, Bool, true, false, ◌&&◌, ◌||◌, not, cond, IsTrue, inl, inr, Option, Some, None, IsSomeAnd, IfSome, List, [], ◌∷◌, ◌++◌, arith, refl, sym}
use Rattle.std.specs.Prelude.{Result, Ok, Err}
use Rattle.std.specs.Int.{int_rem_euclid, int_max, int_min, int_shr}
use Rattle.std.specs.Int.RustNames.{int_le}
use Rattle.std.specs.Ordering.{int_eq}
use Rattle.std.proofs.lemmas.Int.{ints, clamps}
use Rattle.std.proofs.lemmas.Nat.{pow_pos}
use Rattle.sa_base.specs.Numbers.{num_lo, num_hi}
use Rattle.sa_base.specs.declared.num.Num.{Num}
use Rattle.sa_base.specs.declared.num.Num.TheVariants.{I8, U8, I16, U16, I32, U32, I64, U64}
use Rattle.sa_base.specs.declared.pos.Pos.{Pos}
use Rattle.sa_base.specs.declared.alarm.Alarm.{Alarm}
use Rattle.sa_base.specs.declared.alarm.Kind.{Kind}
use Rattle.sa_base.specs.declared.alarm.Kind.TheVariants.{Conversion}
use Rattle.sa_interval.specs.Span.{Span, Within, IsPart, IsInterval, IsLeast, Holds, cut, low_limit, high_limit}
use Rattle.sa_interval.specs.Rows.{meet_of, is_part}
use Rattle.sa_interval.specs.Types.{IsTypeRange, signed_range, unsigned_range}
use Rattle.sa_interval.specs.BitRows.{wrap_of, in_one_block, is_cut}
use Rattle.sa_interval.proofs.Least.{both_true}
use Rattle.sa_interval.proofs.Wraps.{block_ordered, block_is_interval}
use Rattle.sa_numbers.proofs.Cut.{cut-low, cut-high, cut-inside}
use Rattle.sa_numbers.proofs.Order.{le_from, le_to, above_to, ≤ℤ_trans}
use Rattle.sa_numbers.proofs.Residues.{residue-range}
use Rattle.sa_typed.specs.Arithmetic.{bits, is_signed, is_of, IsOf, wrapped, as_num, in_type, converted}
use Rattle.sa_typed.proofs.ArithmeticLaws.{num_facts, is_of_from, is_of_to}
use Rattle.sa_operators.specs.Operators.{range_of, all_types, IsIn, as_span, in_type_span, converted_span, alarm_if, fit_alarms, conversion_alarms}
use Rattle.sa_operators.specs.OperatorLaws.{IsSmallSpan, Suits, Covers, OperandsCover, ConversionsCover, OperandsStay, ConversionsStay, TypesAreSmall}
use Rattle.sa_operators.specs.Alarms.{IsAmong}

-- ---- the types

pub signed_is : (num : Num) → is_signed num ≡ true → range_of num ≡ signed_range (bits num)
signed_is I8 e = refl
signed_is I16 e = refl
signed_is I32 e = refl
signed_is I64 e = refl
signed_is U8 e = cc
signed_is U16 e = cc
signed_is U32 e = cc
signed_is U64 e = cc

pub unsigned_is : (num : Num) → is_signed num ≡ false → range_of num ≡ unsigned_range (bits num)
unsigned_is U8 e = refl
unsigned_is U16 e = refl
unsigned_is U32 e = refl
unsigned_is U64 e = refl
unsigned_is I8 e = cc
unsigned_is I16 e = cc
unsigned_is I32 e = cc
unsigned_is I64 e = cc

pub type_range : (num : Num) → IsTypeRange (range_of num)
type_range I8 = (8, refl, inl refl)
type_range U8 = (8, refl, inr refl)
type_range I16 = (16, refl, inl refl)
type_range U16 = (16, refl, inr refl)
type_range I32 = (32, refl, inl refl)
type_range U32 = (32, refl, inr refl)
type_range I64 = (64, refl, inl refl)
type_range U64 = (64, refl, inr refl)

-- ---- tests and facts

pub is_part_from : (s t : Span) → is_part s t ≡ true → IsPart s t
is_part_from s t e =
    let both = both_true (int_le t.lo s.lo) (int_le s.hi t.hi) e in
    record { above = le_from t.lo s.lo both.0; below = le_from s.hi t.hi both.1 }

pub is_part_to : (s t : Span) → IsPart s t → is_part s t ≡ true
is_part_to s t h = rw (le_to t.lo s.lo h.above, le_to s.hi t.hi h.below) refl

pub within_part : (s t : Span) (z : ℤ) → IsPart s t → Within s z → Within t z
within_part s t z p w = record { above = ≤ℤ_trans _ _ _ p.above w.above; below = ≤ℤ_trans _ _ _ w.below p.below }

-- a number of both spans is in what is met
pub meet_holds : (s t : Span) (z : ℤ) → Within s z → Within t z → IsSomeAnd (meet_of s t) (λ m. Within m z)
meet_holds s t z v w =
    let order : int_max s.lo t.lo ≤ℤ int_min s.hi t.hi = omega (arith, ints, clamps, v.above, v.below, w.above, w.below) in
    rw (le_to (int_max s.lo t.lo) (int_min s.hi t.hi) order) (record { above = omega (arith, ints, clamps, v.above, w.above); below = omega (arith, ints, clamps, v.below, w.below) })

-- what is met isn't empty, and lies in both spans
pub meet_stays : (s t : Span) → IfSome (meet_of s t) (λ m. (m.lo ≤ℤ m.hi) × IsPart m s × IsPart m t)
meet_stays s t =
    let low : ℤ = int_max s.lo t.lo in
    let high : ℤ = int_min s.hi t.hi in
    elim (int_le low high) as (λ b. int_le low high ≡ b → IfSome (cond b (Some (record { lo = low; hi = high })) None) (λ m. (m.lo ≤ℤ m.hi) × IsPart m s × IsPart m t)) [
      | true ↦ λ e. (
        le_from low high e,
        record { above = omega (arith, ints, clamps); below = omega (arith, ints, clamps) },
        record { above = omega (arith, ints, clamps); below = omega (arith, ints, clamps) },
      )
      | false ↦ λ _. tt
    ] refl

-- ---- wrapping

pub record IsLimited (s : Span) : Type 0 where
  pub low : low_limit ≤ℤ s.lo
  pub high : s.hi ≤ℤ high_limit

pub least_limited : (R : ℤ → Type 0) (s : Span) → IsLeast R s → IsLimited s
least_limited R s l =
    let p = l.least (record { lo = low_limit; hi = high_limit }) (λ z r. record { above = cut-low z; below = cut-high z }) in
    record { low = p.above; high = p.below }

-- bounds of one block aren't at the limits
uncut : (s : Span) (n : ℕ) (z : ℤ) → in_one_block s n ≡ true → IsLimited s → Within s (cut z) → Within s z
uncut s n z e l w =
    let both = both_true (not (is_cut s)) (int_eq (int_shr s.lo n) (int_shr s.hi n)) e in
    let sides = apart (int_eq s.lo low_limit) (int_eq s.hi high_limit) both.0 in
    let low : low_limit <ℤ s.lo = above_low s.lo sides.0 l.low in
    let high : s.hi <ℤ high_limit = below_high s.hi sides.1 l.high in
    record { above = omega (arith, ints, clamps, w.above, w.below); below = omega (arith, ints, clamps, w.above, w.below) }
  where
    apart : (p q : Bool) → not (p || q) ≡ true → (p ≡ false) × (q ≡ false)
    apart true q e = cc
    apart false true e = cc
    apart false false e = (refl, refl)

    above_low : (x : ℤ) → int_eq x low_limit ≡ false → low_limit ≤ℤ x → low_limit <ℤ x
    above_low x e h = grind (arith, ints)

    below_high : (x : ℤ) → int_eq x high_limit ≡ false → x ≤ℤ high_limit → x <ℤ high_limit
    below_high x e h = grind (arith, ints)

block_of : Span → ℕ → Span
block_of s n = record { lo = int_rem_euclid s.lo (pos (2 ^ n)); hi = int_rem_euclid s.hi (pos (2 ^ n)) }

pub wrap_holds : (s : Span) (n : ℕ) (z : ℤ) → IsLimited s → Within s (cut z) → Within (wrap_of s n) (int_rem_euclid z (pos (2 ^ n)))
unfolding block_of
wrap_holds s n z l w =
    let some = pow_pos n in
    let range = residue-range z (2 ^ n) some in
    elim (in_one_block s n) as (λ b. in_one_block s n ≡ b → Within (cond b (block_of s n) (unsigned_range n)) (int_rem_euclid z (pos (2 ^ n)))) [
      | true ↦ λ e.
          let inside = uncut s n z e l w in
          let order = block_ordered s z n e inside.above inside.below in
          record { above = order.0; below = order.1 }
      | false ↦ λ _. record { above = range.0; below = omega (arith, ints, range.1) }
    ] refl

pub wrap_stays : (s : Span) (n : ℕ) → n ≤ 64 → s.lo ≤ℤ s.hi → ((wrap_of s n).lo ≤ℤ (wrap_of s n).hi) × IsPart (wrap_of s n) (unsigned_range n)
unfolding block_of
wrap_stays s n h order =
    let some = pow_pos n in
    let low = residue-range s.lo (2 ^ n) some in
    let high = residue-range s.hi (2 ^ n) some in
    elim (in_one_block s n) as (λ b. in_one_block s n ≡ b → ((cond b (block_of s n) (unsigned_range n)).lo ≤ℤ (cond b (block_of s n) (unsigned_range n)).hi) × IsPart (cond b (block_of s n) (unsigned_range n)) (unsigned_range n)) [
      | true ↦ λ e. ((block_is_interval s n h order e).ordered, record { above = low.0; below = omega (arith, ints, high.1) })
      | false ↦ λ _. (omega (arith, ints), record { above = omega (arith, ints); below = omega (arith, ints) })
    ] refl

-- ---- operands

pub small_limited : (s : Span) → IsPart s all_types → IsLimited s
small_limited s p = record { low = omega (arith, ints, p.above); high = omega (arith, ints, p.below) }

-- a number of such a span is within the limits
pub small_cut : (s : Span) (z : ℤ) → IsPart s all_types → Within s z → cut z ≡ z
small_cut s z p w = cut-inside z (omega (arith, ints, p.above, w.above)) (omega (arith, ints, p.below, w.below))

pub small_interval : (s : Span) → IsSmallSpan s → IsInterval s
small_interval s h = let l = small_limited s h.part in record { ordered = h.ordered; low = l.low; high = l.high }

pub in_small : (num : Num) (s : Span) → IsIn num s → IsSmallSpan s
in_small num s h =
    let facts = num_facts num in
    record { ordered = h.ordered; part = record { above = ≤ℤ_trans _ _ _ facts.least h.part.above; below = ≤ℤ_trans _ _ _ h.part.below facts.greatest } }

pub types_are_small : TypesAreSmall
types_are_small num s h = in_small num s h

pub wrapped_within : (num : Num) (s : Span) (z : ℤ) → IsLimited s → Within s (cut z) → Within (wrap_of s (bits num)) (wrapped num z)
unfolding wrapped
wrapped_within num s z l w = wrap_holds s (bits num) z l w

pub operands_cover : OperandsCover
unfolding as_span as_num
operands_cover num s z h w =
    elim (is_signed num) as (λ b. Within (cond b s (wrap_of s (bits num))) (cond b z (wrapped num z))) [
      | true ↦ w
      | false ↦ wrapped_within num s z (small_limited s h.part) (rw (small_cut s z h.part w) w)
    ]

pub operand_ordered : (num : Num) (s : Span) → s.lo ≤ℤ s.hi → (as_span num s).lo ≤ℤ (as_span num s).hi
unfolding as_span
operand_ordered num s order =
    elim (is_signed num) as (λ b. (cond b s (wrap_of s (bits num))).lo ≤ℤ (cond b s (wrap_of s (bits num))).hi) [
      | true ↦ order
      | false ↦ (wrap_stays s (bits num) (num_facts num).width.1 order).0
    ]

pub operands_stay : OperandsStay
operands_stay num s h = record { ordered = operand_ordered num s h.small.ordered; part = h.converts }

-- ---- numbers put into a type

-- an unsigned type
pub wrapped_stays : (num : Num) (s : Span) → is_signed num ≡ false → s.lo ≤ℤ s.hi → IsIn num (wrap_of s (bits num))
wrapped_stays num s e order =
    let stays = wrap_stays s (bits num) (num_facts num).width.1 order in
    record { ordered = stays.0; part = rw (unsigned_is num e) stays.1 }

-- a number whose cut is of a type is of it
pub uncut_of : (num : Num) (z : ℤ) → IsOf num (cut z) → IsOf num z
uncut_of num z h =
    let facts = num_facts num in
    let same : cut z ≡ z = whole (num_lo num) (num_hi num) z facts.least facts.greatest h.low h.high in
    rw same at h
  where
    whole : (l h z : ℤ) → negsuc (2 ^ 63 - 1) ≤ℤ l → h ≤ℤ pos (2 ^ 64 - 1) → l ≤ℤ cut z → cut z ≤ℤ h → cut z ≡ z
    whole l h z a b c d = omega (arith, ints, clamps)

pub of_cut : (num : Num) (z : ℤ) → IsOf num z → cut z ≡ z
of_cut num z h =
    let facts = num_facts num in
    cut-inside z (omega (arith, ints, facts.least, h.low)) (omega (arith, ints, facts.greatest, h.high))

pub true_false : (b : Bool) → b ≡ true → b ≡ false → ⊥
true_false b e f = cc

-- a number outside the type has its span outside
pub outside_alarms : (kind : Kind) (num : Num) (p : Pos) (s : Span) (z : ℤ) → Within s (cut z) → is_of num z ≡ false → IsAmong (record { pos = p; kind = kind }) (alarm_if (not (is_part s (range_of num))) p kind)
outside_alarms kind num p s z w out =
    elim (is_part s (range_of num)) as (λ b. is_part s (range_of num) ≡ b → IsAmong (record { pos = p; kind = kind }) (alarm_if (not b) p kind)) [
      | true ↦ λ e.
          let inside = within_part s (range_of num) (cut z) (is_part_from s (range_of num) e) w in
          absurd (true_false (is_of num z) (is_of_to num z (uncut_of num z (record { low = inside.above; high = inside.below }))) out)
      | false ↦ λ _. inl refl
    ] refl

pub fit_covers : (kind : Kind) (num : Num) (p : Pos) (s : Span) (z : ℤ) → IsLimited s → Within s (cut z) → Covers p (in_type_span num s) (fit_alarms num p kind s) (in_type kind num z)
unfolding in_type_span fit_alarms in_type
fit_covers kind num p s z l w =
    elim (is_signed num) as (λ b. Covers p (cond b (meet_of s (range_of num)) (Some (wrap_of s (bits num)))) (alarm_if (b && not (is_part s (range_of num))) p kind) (cond b (cond (is_of num z) (Ok z) (Err kind)) (Ok (wrapped num z)))) [
      | true ↦ elim (is_of num z) as (λ b. is_of num z ≡ b → Covers p (meet_of s (range_of num)) (alarm_if (not (is_part s (range_of num))) p kind) (cond b (Ok z) (Err kind))) [
        | true ↦ λ e.
            let inside = is_of_from num z e in
            meet_holds s (range_of num) z (rw (of_cut num z inside) at w) (record { above = inside.low; below = inside.high })
        | false ↦ λ e. outside_alarms kind num p s z w e
      ] refl
      | false ↦ wrapped_within num s z l w
    ]

pub fit_stays : (num : Num) (s : Span) → s.lo ≤ℤ s.hi → IfSome (in_type_span num s) (λ t. IsIn num t)
unfolding in_type_span
fit_stays num s order =
    elim (is_signed num) as (λ b. is_signed num ≡ b → IfSome (cond b (meet_of s (range_of num)) (Some (wrap_of s (bits num)))) (λ t. IsIn num t)) [
      | true ↦ λ _. if_some (meet_of s (range_of num)) _ (λ t. IsIn num t) (λ t h. record { ordered = h.0; part = h.2 }) (meet_stays s (range_of num))
      | false ↦ λ e. wrapped_stays num s e order
    ] refl
  where
    if_some : (o : Option Span) (P Q : Span → Type 0) → ((t : Span) → P t → Q t) → IfSome o P → IfSome o Q
    if_some None P Q f h = tt
    if_some (Some t) P Q f h = f t h

pub conversions_cover : ConversionsCover
conversions_cover num p s z h w = fit_covers Conversion num p s z (small_limited s h.part) (rw (small_cut s z h.part w) w)

pub conversions_stay : ConversionsStay
conversions_stay num s h = fit_stays num s h.ordered
