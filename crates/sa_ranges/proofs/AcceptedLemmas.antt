-- What a file tells that no row refuses: spans that are in order and within the types of inputs.
use Rattle.std.proofs.Common.{◌≡◌, ℕ, zero, suc, ◌+◌, ◌^◌, ◌<◌, ◌≤◌, ◌&&◌, ℤ, pos, negsuc, ◌≤ℤ◌, List, [], ◌∷◌, Bool, true, false, arith, refl, sym, ap, subst, ◌∙◌, map, Option, Some, None, length}
use Rattle.std.specs.Prelude.{if◌then◌else◌, not, is_some, get_or, int_le, int_lt, unwrap_or}
use Rattle.std.specs.List.{All, AllZip}
use Rattle.std.specs.Ordering.{nat_cmp, int_eq}
use Rattle.std.specs.Str.{bytes_eq}
use Rattle.std.proofs.lemmas.Bool.Decides.{Decides-int_eq}
use Rattle.std.proofs.lemmas.Int.{ints, clamps}
use Rattle.std.proofs.lemmas.List.Elements.{All-map, All-nil, All-cons}
use Rattle.sa_base.specs.Numbers.{num_lo, num_hi}
use Rattle.sa_base.specs.declared.num.Num.{Num}
use Rattle.sa_typed.specs.Arithmetic.{is_of}
use Rattle.sa_typed.specs.Ranges.{Span, AreSpans, RiseAbove, IsOfType}
use Rattle.sa_typed.specs.declared.program.Input.{Input}
use Rattle.sa_ranges.specs.Answer.{from_told}
use Rattle.sa_ranges.specs.Inputs.{type_range, common, with_input, range_with, range_named}
use Rattle.sa_ranges.specs.Table.{natural, tick_of, follows, rise, begin_well, is_in, span_fits, all_fit, fit}
use Rattle.sa_ranges.specs.declared.inputs.Allowed.{Allowed}
use Rattle.sa_ranges.specs.declared.told.Told.{Told}

-- ---- tests
pub both_hold : (a b : Bool) → (a && b) ≡ true → (a ≡ true) × (b ≡ true)
both_hold true b h = (refl, h)
both_hold false b h = absurd cc

le_test : (a b : ℤ) → a ≤ℤ b → int_le a b ≡ true
le_test a b h = elim (int_le a b) as (λ t. int_le a b ≡ t → t ≡ true) [ true ↦ λ e. refl | false ↦ λ e. absurd (omega (arith, ints, h, e)) ] refl

-- ---- ticks
-- the tick at which a span that isn't refused begins
abbrev tick_from : Told → ℕ
tick_from s = unwrap_or (tick_of s.from) 0

-- a span that begins behind a tick, and not too late, begins at a tick
begins_behind : (m : ℕ) (z : ℤ) → (int_lt (pos m) z && int_le z (pos (2 ^ 62))) ≡ true → (m < unwrap_or (tick_of z) 0) × (z ≡ pos (unwrap_or (tick_of z) 0))
unfolding tick_of
begins_behind m (pos k) h =
    let parts = both_hold (int_lt (pos m) (pos k)) (int_le (pos k) (pos (2 ^ 62))) h in
    let below : m < k = omega (arith, ints, parts.0) in
    let from_0 : int_le (pos 0) (pos k) ≡ true = le_test (pos 0) (pos k) (omega (arith, ints)) in
    rw (from_0, parts.1) (below, refl)
begins_behind m (negsuc k) h =
    let parts = both_hold (int_lt (pos m) (negsuc k)) (int_le (negsuc k) (pos (2 ^ 62))) h in
    absurd (omega (arith, ints, parts.0))

is_0 : (z : ℤ) → int_eq z (pos 0) ≡ true → z ≡ pos 0
is_0 z h = (Decides-int_eq z (pos 0)).0 h

begins_at_0 : (z : ℤ) → int_eq z (pos 0) ≡ true → unwrap_or (tick_of z) 0 ≡ 0
unfolding tick_of
begins_at_0 z h = rw (is_0 z h) refl

rises : (s : Told) (m : ℕ) → s.from ≡ pos m → (ss : List Told) → rise s ss ≡ true → RiseAbove m (map from_told ss)
unfolding rise follows
rises s m e [] h = tt
rises s m e (x ∷ ss) h =
    let parts = both_hold (int_lt s.from x.from && int_le x.from (pos (2 ^ 62))) (rise x ss) h in
    let begun = begins_behind m x.from (subst (λ z. (int_lt z x.from && int_le x.from (pos (2 ^ 62))) ≡ true) e parts.0) in
    (begun.0, rises x (tick_from x) begun.1 ss parts.1)

-- ---- types of inputs
pub record IsWithin (r s : Allowed) : Type 0 where
  pub low : s.lo ≤ℤ r.lo
  pub high : r.hi ≤ℤ s.hi

same_within : (r s : Allowed) → r ≡ s → IsWithin r s
same_within r s e = rw e (record { low = omega (arith, ints); high = omega (arith, ints) })

within_trans : (r s t : Allowed) → IsWithin r s → IsWithin s t → IsWithin r t
within_trans r s t h k = record { low = omega (arith, ints, h.low, k.low); high = omega (arith, ints, h.high, k.high) }

common_found : (s t : Allowed) → IsWithin (common (Some s) t) s
common_found s t = record { low = omega (arith, ints, clamps); high = omega (arith, ints, clamps) }

common_type : (o : Option Allowed) (t : Allowed) → IsWithin (common o t) t
common_type None t = record { low = omega (arith, ints); high = omega (arith, ints) }
common_type (Some s) t = record { low = omega (arith, ints, clamps); high = omega (arith, ints, clamps) }

-- more inputs leave fewer numbers
narrower : (n : List ℕ) (r : Allowed) (is : List Input) (s : Allowed) → range_with n (Some s) is ≡ Some r → IsWithin r s
unfolding range_with with_input
narrower n r [] s e = same_within r s (sym (ap (λ o. unwrap_or o s) e))
narrower n r (i ∷ is) s e =
    elim (bytes_eq i.name n) as (λ b. range_with n (if b then Some (common (Some s) (type_range i.num)) else Some s) is ≡ Some r → IsWithin r s) [
      | true ↦ λ t. within_trans r (common (Some s) (type_range i.num)) s (narrower n r is (common (Some s) (type_range i.num)) t) (common_found s (type_range i.num))
      | false ↦ λ t. narrower n r is s t
    ] e

-- what inputs of a name can be is of the type of each of them
abbrev pub Suits : List ℕ → Allowed → Input → Type 0
Suits n r i = bytes_eq i.name n ≡ true → IsWithin r (type_range i.num)

pub named_suit : (n : List ℕ) (r : Allowed) (is : List Input) (found : Option Allowed) → range_with n found is ≡ Some r → All (Suits n r) is
unfolding range_with with_input
named_suit n r [] found e = All-nil (Suits n r)
named_suit n r (i ∷ is) found e =
    All-cons (Suits n r) i is
    (λ same. within_trans r (common found (type_range i.num)) (type_range i.num)
    (narrower n r is (common found (type_range i.num)) (subst (λ b. range_with n (if b then Some (common found (type_range i.num)) else found) is ≡ Some r) same e))
    (common_type found (type_range i.num)))
    (named_suit n r is (with_input n found i) e)

-- ---- spans
fits : (r : Allowed) (s : Told) → span_fits r s ≡ true → (s.lo ≤ℤ s.hi) × (is_in r s.lo ≡ true) × (is_in r s.hi ≡ true)
unfolding span_fits
fits r s h =
    let parts = both_hold (int_le s.lo s.hi) (is_in r s.lo && is_in r s.hi) h in
    let ends = both_hold (is_in r s.lo) (is_in r s.hi) parts.1 in
    let ordered : s.lo ≤ℤ s.hi = omega (arith, ints, parts.0) in
    (ordered, ends.0, ends.1)

is_number_of : (num : Num) (r : Allowed) → IsWithin r (type_range num) → (z : ℤ) → is_in r z ≡ true → is_of num z ≡ true
is_number_of num r w z h =
    let parts = both_hold (int_le r.lo z) (int_le z r.hi) h in
    let low : int_le (num_lo num) z ≡ true = le_test (num_lo num) z (omega (arith, ints, w.low, parts.0)) in
    let high : int_le z (num_hi num) ≡ true = le_test z (num_hi num) (omega (arith, ints, w.high, parts.1)) in
    rw (low, high) refl

abbrev IsOrdered : Span → Type 0
IsOrdered s = s.1 ≤ℤ s.2

no_span_empty : (r : Allowed) (ss : List Told) → all_fit r ss ≡ true → All IsOrdered (map from_told ss)
unfolding all_fit
no_span_empty r [] h = All-nil IsOrdered
no_span_empty r (s ∷ ss) h =
    let parts = both_hold (span_fits r s) (all_fit r ss) h in
    All-cons IsOrdered (from_told s) (map from_told ss) (fits r s parts.0).0 (no_span_empty r ss parts.1)

pub accepted_spans : (r : Allowed) (ss : List Told) → begin_well ss ≡ true → all_fit r ss ≡ true → AreSpans (map from_told ss)
unfolding begin_well
accepted_spans r [] b h = absurd cc
accepted_spans r (s ∷ ss) b h =
    let parts = both_hold (int_eq s.from (pos 0)) (rise s ss) b in
    (begins_at_0 s.from parts.0, subst (λ m. RiseAbove m (map from_told ss)) (sym (begins_at_0 s.from parts.0)) (rises s 0 (is_0 s.from parts.0) ss parts.1), no_span_empty r (s ∷ ss) h)

pub accepted_suit : (num : Num) (r : Allowed) (ss : List Told) → IsWithin r (type_range num) → all_fit r ss ≡ true → All (IsOfType num) (map from_told ss)
unfolding all_fit
accepted_suit num r [] w h = All-nil (IsOfType num)
accepted_suit num r (s ∷ ss) w h =
    let parts = both_hold (span_fits r s) (all_fit r ss) h in
    let ends = fits r s parts.0 in
    All-cons (IsOfType num) (from_told s) (map from_told ss)
    (record { low = is_number_of num r w s.lo ends.1; high = is_number_of num r w s.hi ends.2 })
    (accepted_suit num r ss w parts.1)
