-- One item more, where the items of an array are read as spans.
use Rattle.std.proofs.Common.{◌≡◌, ◌⊎◌, ⊎_elim, arith, ℕ, ◌+◌, ◌<◌, ◌≤◌, List, [], ◌∷◌, ◌++◌, length, get_or, refl, sym, ap, ◌∙◌, drop, drop-cons, add-one, Option, Some, None, option_map, append_assoc, append-nil}
use Rattle.std.proofs.Math.ListN.{drop_of_length-le}
use Rattle.serde_json.specs.View.{view, items_view}
use Rattle.serde_json.specs.declared.value.Value.{Value}
use Rattle.sa_ranges.specs.Told.{range_in, span_in, span_of, spans_in}
use Rattle.sa_ranges.specs.declared.told.Told.{Told}

behind : (found : List Told) (s : Told) (o : Option (List Told)) → option_map (λ ss. (found ++ s ∷ []) ++ ss) o ≡ option_map (λ ss. found ++ ss) (option_map (λ ss. s ∷ ss) o)
behind found s None = refl
behind found s (Some ss) = ap Some (append_assoc found (s ∷ []) ss)

pub spans_step : (found : List Told) (vs : List Value) (i : ℕ) (x : Value) (s : Told) → i < length vs → x ≡ get_or vs i x → span_of (view x) ≡ Some s →
    option_map (λ ss. (found ++ s ∷ []) ++ ss) (spans_in (items_view (drop (i + 1) vs))) ≡ option_map (λ ss. found ++ ss) (spans_in (items_view (drop i vs)))
unfolding spans_in
spans_step found vs i x s h is t = rw (drop-cons vs i x h, sym is, add-one i, t) (behind found s _)

pub spans_stop : (found : List Told) (vs : List Value) (i : ℕ) (x : Value) → i < length vs → x ≡ get_or vs i x → span_of (view x) ≡ None →
    None ≡ option_map (λ ss. found ++ ss) (spans_in (items_view (drop i vs)))
unfolding spans_in
spans_stop found vs i x h is t = rw (drop-cons vs i x h, sym is, t) refl

pub spans_end : (found : List Told) (vs : List Value) (i : ℕ) → length vs ≤ i → Some found ≡ option_map (λ ss. found ++ ss) (spans_in (items_view (drop i vs)))
unfolding spans_in
spans_end found vs i h = rw (drop_of_length-le vs h) (ap Some (sym (append-nil found)))

-- arrays of another length have no such form
pub not_two : (vs : List Value) → (length vs < 2) ⊎ (3 ≤ length vs) → None ≡ range_in (items_view vs)
unfolding range_in
not_two [] h = refl
not_two (a ∷ []) h = refl
not_two (a ∷ b ∷ []) h = absurd (⊎_elim (λ l. omega (arith, l)) (λ l. omega (arith, l)) h)
not_two (a ∷ b ∷ c ∷ vs) h = refl

pub not_three : (vs : List Value) → (length vs < 3) ⊎ (4 ≤ length vs) → None ≡ span_in (items_view vs)
unfolding span_in
not_three [] h = refl
not_three (a ∷ []) h = refl
not_three (a ∷ b ∷ []) h = refl
not_three (a ∷ b ∷ c ∷ []) h = absurd (⊎_elim (λ l. omega (arith, l)) (λ l. omega (arith, l)) h)
not_three (a ∷ b ∷ c ∷ d ∷ vs) h = refl
