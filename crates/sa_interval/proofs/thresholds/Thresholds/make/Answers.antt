use Rattle.std.proofs.Common.{◌≡◌, ◌++◌, ◌∙◌, ℕ, List, take, refl, ap, arith}
use Rattle.std.specs.List.{flat_map}
use Rattle.std.proofs.lemmas.Cmp.{int_cmp_total}
use Rattle.std.proofs.lemmas.List.{take_all}
use Rattle.std.proofs.lemmas.List.Filters.{dedup_is}
use Rattle.std.proofs.lemmas.List.Kept.{IsStrictlySortedBy-dedup}
use Rattle.sa_interval.specs.Widening.{fixed_thresholds, both_signs, candidates, thresholds_of}
use Rattle.sa_interval.proofs.Rising.{sorted_once, rising_is}
use Rattle.sa_interval.proofs.thresholds.Thresholds.make.Goals as goal

pub invariant_of-result : goal.invariant_of-result
invariant_of-result c = rw (dedup_is _ _ _ c.dedup.ensures.filtered) (IsStrictlySortedBy-dedup int_cmp_total (λ x y. refl) _ c.sort_unstable.ensures.sorted)

pub returns-clause-row : goal.returns-clause-row
unfolding thresholds_of
returns-clause-row c =
    let whole : take c.loop-value.value-index c.args.values.now ≡ c.args.values.now = take_all _ _ (omega arith) in
    let all : c.loop-value.all.items ≡ fixed_thresholds ++ flat_map both_signs c.args.values.now = c.loop-value.invariant ∙ ap (λ (literals : List ℕ). fixed_thresholds ++ flat_map both_signs literals) whole in
    dedup_is _ _ _ c.dedup.ensures.filtered ∙ sorted_once _ _ _ all c.sort_unstable.ensures.permutation c.sort_unstable.ensures.sorted

pub returns-clause-law : goal.returns-clause-law
unfolding thresholds_of
returns-clause-law c = rw (returns-clause-row c) (rising_is (candidates c.args.values.now))
