use Rattle.std.proofs.Common.{◌≡◌, ◌∙◌, ◌-◌, ◌<◌, get_or, ℤ, pos, FitsSigned, refl, arith, rules}
use mir.Syntax.{w128}
use Rattle.std.specs.Int.{int_max}
use Rattle.std.specs.Int.RustNames.{int_le}
use Rattle.std.proofs.lemmas.Int.{to_z-of_z}
use Rattle.std.proofs.lemmas.List.Sorted.{IsPartitionPoint-from_clause}
use Rattle.sa_interval.proofs.Stops.{parted_at_most, none_at_most, last_at_most, same_below, nearest_below_is}
use Rattle.sa_interval.proofs.thresholds.nearest_below.Goals as goal

pub returns-then-count-eq0 : goal.returns-then-count-eq0
returns-then-count-eq0 c =
    let parted = parted_at_most _ c.args.z c.requires.rising in
    let point = IsPartitionPoint-from_clause (λ t. int_le t c.args.z) _ _ c.partition_point-count.ensures.partitioned parted (λ a r q k. search rules) in
    to_z-of_z w128 c.args.least c.ranges.least
    ∙ same_below c.args.values.now c.args.z c.args.least _ _ (none_at_most _ _ _ _ c.requires.least c.if-count-eq0.true point) (nearest_below_is _ _ _ c.requires.least)

pub returns-else-count-eq0 : goal.returns-else-count-eq0
returns-else-count-eq0 c =
    let n = c.partition_point-count.result in
    let parted = parted_at_most _ c.args.z c.requires.rising in
    let point = IsPartitionPoint-from_clause (λ t. int_le t c.args.z) _ _ c.partition_point-count.ensures.partitioned parted (λ a r q k. search rules) in
    let last : ℤ = get_or c.args.values.now (n - 1) (pos 0) in
    let some : 0 < n = omega (arith, c.if-count-eq0.false) in
    let fits : FitsSigned w128 last = search rules in
    let read = to_z-of_z w128 last fits in
    let v : c.max.result ≡ int_max last c.args.least = c.max.ensures.value ∙ rw (read, to_z-of_z w128 c.args.least c.ranges.least) refl in
    to_z-of_z w128 c.max.result (record { sfits = c.max.type_inv }) ∙ v
    ∙ same_below c.args.values.now c.args.z c.args.least _ _
    (last_at_most _ _ _ (pos 0) n c.requires.rising c.requires.least some c.partition_point-count.ensures.bound point) (nearest_below_is _ _ _ c.requires.least)
