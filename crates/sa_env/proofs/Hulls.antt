-- The join of a range of cells, by one walk.
use Rattle.std.proofs.Common.{◌≡◌, ◌∙◌, ℕ, zero, suc, ◌+◌, ◌-◌, List, [], ◌∷◌, take, drop, map, arith, sym, refl, ap}
use Rattle.std.specs.Prelude.{Option, None, Some}
use Rattle.std.specs.List.{fold}
use Rattle.std.specs.List.{take-map}
use Rattle.std.specs.List.{drop-map}
use Rattle.sa_interval.specs.Span.{Span}
use Rattle.sa_shared.specs.Walks.{folded}
use Rattle.sa_env.specs.declared.slot.SlotValue.{SlotValue}
use Rattle.sa_env.specs.declared.walks.Hull.{Hull}
use Rattle.sa_env.specs.Slots.{span_of, spans_of}
use Rattle.sa_env.specs.Flat.{Flat, dead, joined_to, join_between}
use Rattle.sa_env.proofs.Weak.{take_none, drop_none}

abbrev with_of : Hull → ℕ → SlotValue → Hull
with_of h k x = record { span = joined_to h.span (span_of x) }

hull_is : (k : ℕ) (h : Hull) (xs : List SlotValue) → (folded with_of k h xs).span ≡ fold joined_to h.span (spans_of xs)
unfolding folded
hull_is k h [] = refl
hull_is k h (x ∷ xs) = hull_is (suc k) (with_of h k x) xs

pub hull_between : (first count end : ℕ) (xs : List SlotValue) → end ≡ first + count →
    (folded with_of first (record { span = None }) (take (end - first) (drop first xs))).span ≡ fold joined_to None (take count (drop first (spans_of xs)))
hull_between first count end xs e =
    let n : end - first ≡ count = omega (arith, e) in
    hull_is first (record { span = None }) (take (end - first) (drop first xs))
    ∙ ap (λ (l : List Span). fold joined_to None l) (sym (take-map span_of (end - first) (drop first xs)) ∙ ap (λ (l : List Span). take (end - first) l) (sym (drop-map span_of first xs)))
    ∙ ap (λ (i : ℕ). fold joined_to None (take i (drop first (spans_of xs)))) n

pub none_between : (first count : ℕ) → join_between first count dead ≡ None
none_between first count = rw (drop_none first, take_none count) refl
