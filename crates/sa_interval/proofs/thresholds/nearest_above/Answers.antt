use Rattle.std.proofs.Common.{◌≡◌, ◌∙◌, ◌<◌, length, get_or, ℤ, pos, FitsSigned, refl, arith, rules}
use mir.Syntax.{w128}
use Rattle.std.specs.Int.{int_min}
use Rattle.std.specs.Int.RustNames.{int_lt}
use Rattle.std.proofs.lemmas.Int.{to_z-of_z}
use Rattle.std.proofs.lemmas.List.Sorted.{IsPartitionPoint-from_clause}
use Rattle.sa_interval.proofs.Stops.{parted_below, none_at_least, first_at_least, same_above, nearest_above_is}
use Rattle.sa_interval.proofs.thresholds.nearest_above.Goals as goal

pub returns-then-count-values : goal.returns-then-count-values
returns-then-count-values c =
    let parted = parted_below _ c.args.z c.requires.rising in
    let point = IsPartitionPoint-from_clause (λ t. int_lt t c.args.z) _ _ c.partition_point-count.ensures.partitioned parted (λ a r q k. search rules) in
    to_z-of_z w128 c.args.most c.ranges.most
    ∙ same_above c.args.values.now c.args.z c.args.most _ _ (none_at_least _ _ _ _ c.requires.most c.if-count-values.true point) (nearest_above_is _ _ _ c.requires.most)

pub returns-else-count-values : goal.returns-else-count-values
returns-else-count-values c =
    let n = c.partition_point-count.result in
    let parted = parted_below _ c.args.z c.requires.rising in
    let point = IsPartitionPoint-from_clause (λ t. int_lt t c.args.z) _ _ c.partition_point-count.ensures.partitioned parted (λ a r q k. search rules) in
    let first : ℤ = get_or c.args.values.now n (pos 0) in
    let inside : n < length c.args.values.now = omega (arith, c.if-count-values.false, c.partition_point-count.ensures.bound) in
    let fits : FitsSigned w128 first = search rules in
    let read = to_z-of_z w128 first fits in
    let v : c.min.result ≡ int_min first c.args.most = c.min.ensures.value ∙ rw (read, to_z-of_z w128 c.args.most c.ranges.most) refl in
    to_z-of_z w128 c.min.result (record { sfits = c.min.type_inv }) ∙ v
    ∙ same_above c.args.values.now c.args.z c.args.most _ _
    (first_at_least _ _ _ (pos 0) n c.requires.rising c.requires.most inside point) (nearest_above_is _ _ _ c.requires.most)
