-- One span more, where spans are tested one after another.
use Rattle.std.proofs.Common.{◌≡◌, ℕ, ◌+◌, ◌<◌, ◌≤◌, List, true, false, length, get_or, refl, drop, drop-cons, add-one}
use Rattle.std.proofs.Math.ListN.{drop_of_length-le}
use Rattle.sa_ranges.specs.Table.{follows, rise, span_fits, all_fit}
use Rattle.sa_ranges.specs.declared.inputs.Allowed.{Allowed}
use Rattle.sa_ranges.specs.declared.told.Told.{Told}

pub rise_step : (last : Told) (ss : List Told) (i : ℕ) (d : Told) → i < length ss → follows last (get_or ss i d) ≡ true → rise (get_or ss i d) (drop (i + 1) ss) ≡ rise last (drop i ss)
unfolding rise
rise_step last ss i d h t = rw (drop-cons ss i d h, add-one i, t) refl

pub rise_stop : (last : Told) (ss : List Told) (i : ℕ) (d : Told) → i < length ss → follows last (get_or ss i d) ≡ false → false ≡ rise last (drop i ss)
unfolding rise
rise_stop last ss i d h t = rw (drop-cons ss i d h, t) refl

pub rise_end : (last : Told) (ss : List Told) (i : ℕ) → length ss ≤ i → true ≡ rise last (drop i ss)
unfolding rise
rise_end last ss i h = rw (drop_of_length-le ss h) refl

pub fit_step : (r : Allowed) (ss : List Told) (i : ℕ) (d : Told) → i < length ss → span_fits r (get_or ss i d) ≡ true → all_fit r (drop (i + 1) ss) ≡ all_fit r (drop i ss)
unfolding all_fit
fit_step r ss i d h t = rw (drop-cons ss i d h, add-one i, t) refl

pub fit_stop : (r : Allowed) (ss : List Told) (i : ℕ) (d : Told) → i < length ss → span_fits r (get_or ss i d) ≡ false → false ≡ all_fit r (drop i ss)
unfolding all_fit
fit_stop r ss i d h t = rw (drop-cons ss i d h, t) refl

pub fit_end : (r : Allowed) (ss : List Told) (i : ℕ) → length ss ≤ i → true ≡ all_fit r (drop i ss)
unfolding all_fit
fit_end r ss i h = rw (drop_of_length-le ss h) refl
