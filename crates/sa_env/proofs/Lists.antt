-- The flat lists of slots: what an operation on slots is on their intervals.
use Rattle.std.proofs.Common.{◌≡◌, ℕ, zero, suc, ◌+◌, ◌<◌, ◌≤◌, Bool, true, false, List, [], ◌∷◌, ◌++◌, length, take, drop, map, get_or, set, refl, sym, ap, ◌∙◌, subst, arith, add-one}
use Rattle.std.specs.Prelude.{Option, None, Some, unwrap_or, slice_get, option_map, if◌then◌else◌, ℤ}
use Rattle.std.specs.List.{All}
use Rattle.std.proofs.Common.{Result, Ok, Err, IfOk}
use Rattle.std.proofs.lemmas.List.{length-map, map-set}
use Rattle.std.proofs.lemmas.List.Elements.{length_all_zip}
use Rattle.sa_interval.specs.Span.{Span, IsPart}
use Rattle.sa_interval.specs.Rows.{join_of, is_part}
use Rattle.sa_shared.specs.Slots.{slotwise, EachSlot}
use Rattle.sa_env.specs.declared.slot.SlotValue.{SlotValue}
use Rattle.sa_env.specs.declared.slot.SlotValue.TheVariants.{Cell}
use Rattle.sa_env.specs.Slots.{span_of, spans_of, Alike, SlotBelow, slot_join}
use Rattle.sa_env.specs.WalkLaws.{cells_alike}

pub each_alike : (xs ys : List SlotValue) → length xs ≡ length ys → EachSlot Alike xs ys
each_alike [] [] h = tt
each_alike [] (y ∷ ys) h = absurd (omega (arith, h))
each_alike (x ∷ xs) [] h = absurd (omega (arith, h))
each_alike (x ∷ xs) (y ∷ ys) h = (cells_alike x y, each_alike xs ys (omega (arith, h)))

pub length_spans : (xs : List SlotValue) → length (spans_of xs) ≡ length xs
length_spans xs = length-map xs span_of

pub spans_join : (xs ys : List SlotValue) → spans_of (slotwise slot_join xs ys) ≡ slotwise join_of (spans_of xs) (spans_of ys)
spans_join [] ys = refl
spans_join (Cell a ∷ xs) [] = refl
spans_join (Cell a ∷ xs) (Cell b ∷ ys) = ap (λ (l : List Span). join_of a b ∷ l) (spans_join xs ys)

pub spans_below : (xs ys : List SlotValue) → EachSlot SlotBelow xs ys → EachSlot IsPart (spans_of xs) (spans_of ys)
spans_below [] [] h = tt
spans_below [] (y ∷ ys) h = absurd h
spans_below (x ∷ xs) [] h = absurd h
spans_below (Cell a ∷ xs) (Cell b ∷ ys) h = (h.0, spans_below xs ys h.1)

pub below_spans : (xs ys : List SlotValue) → EachSlot IsPart (spans_of xs) (spans_of ys) → EachSlot SlotBelow xs ys
below_spans [] [] h = tt
below_spans [] (y ∷ ys) h = absurd h
below_spans (x ∷ xs) [] h = absurd h
below_spans (Cell a ∷ xs) (Cell b ∷ ys) h = (h.0, below_spans xs ys h.1)

-- ---- a list that is copied value by value
take_suc_get : (xs : List SlotValue) (k : ℕ) (x : SlotValue) → slice_get xs k ≡ Some x → take (suc k) xs ≡ take k xs ++ x ∷ []
take_suc_get [] k x e = absurd cc
take_suc_get (y ∷ xs) zero x e = ap (λ (z : SlotValue). z ∷ []) (some_is y x e)
  where
    some_is : (y x : SlotValue) → Some y ≡ Some x → y ≡ x
    some_is y x e = cc
take_suc_get (y ∷ xs) (suc k) x e = ap (λ (l : List SlotValue). y ∷ l) (take_suc_get xs k x e)

pub take_get : (xs : List SlotValue) (k : ℕ) (x : SlotValue) → slice_get xs k ≡ Some x → take (k + 1) xs ≡ take k xs ++ x ∷ []
take_get xs k x e = ap (λ (n : ℕ). take n xs) (add-one k) ∙ take_suc_get xs k x e

pub if_ok : {A E : Type 0} (P Q : A → Type 0) (r : Result A E) → ((x : A) → P x → Q x) → IfOk r P → IfOk r Q
if_ok P Q (Ok x) f h = f x h
if_ok P Q (Err e) f h = tt
