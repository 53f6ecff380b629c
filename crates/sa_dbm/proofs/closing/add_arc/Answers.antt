use Rattle.std.proofs.Common.{rules, ◌≡◌, ◌∙◌, ◌+◌, ◌*◌, ◌<◌, ◌≤◌, ◌^◌, ℕ, List, Bool, ℤ, unsigned_abs, to_z, of_z, not, length, get_or, pos, arith, ap, ap₂, sym, subst, FitsSigned, Some}
use Rattle.std.specs.Int.{w128}
use Rattle.std.proofs.lemmas.Int.{to_z-of_z}
use Rattle.std.proofs.lemmas.Nat.{mul-add-lt}
use Rattle.sa_dbm.specs.Bounds.{lesser, plus, is_negative}
use Rattle.sa_dbm.specs.Stored.{shown, shown_at, IsSummable}
use Rattle.sa_dbm.proofs.StoredLaws.{argument_shown, read_is}
use Rattle.sa_dbm.proofs.NodeLaws.{number_small, small_summable}
use Rattle.sa_dbm.proofs.Arcs.{summable_small, summable_over}
use Rattle.sa_dbm.proofs.closing.add_arc.Goals as goal

pub sum-requires-clause-first : goal.sum-requires-clause-first
sum-requires-clause-first c = small_summable _ (number_small _ c.args.c (argument_shown c.args.c c.ranges.c c.requires.c) c.requires.c)

pub sum-requires-clause-second : goal.sum-requires-clause-second
sum-requires-clause-second c =
    let xs = c.args.bounds.now in
    let place : c.args.to * c.args.nodes + c.args.from < length xs = omega (arith, mul-add-lt c.args.to c.args.nodes c.args.from c.args.nodes c.requires.to c.requires.from, c.requires.square) in
    let f : FitsSigned w128 (get_or xs (c.args.to * c.args.nodes + c.args.from) (pos 0)) = search rules in
    rw (read_is xs (c.args.to * c.args.nodes + c.args.from) place f) (summable_small _ (c.requires.small c.args.to c.args.from c.requires.to c.requires.from))

-- what the test says of the round
round : (xs : List ℤ) (at : ℕ) (k s : ℤ) (t : Bool) → at < length xs → FitsSigned w128 (get_or xs at (pos 0)) → FitsSigned w128 k → unsigned_abs k ≤ 2 ^ 100 → FitsSigned w128 s
    → shown s ≡ plus (shown (to_z w128 (of_z w128 k))) (shown (to_z w128 (of_z w128 (get_or xs at (pos 0))))) → t ≡ is_negative (shown (to_z w128 (of_z w128 s))) → t ≡ is_negative (plus (Some k) (shown_at xs at))
round xs at k s t place f fits size sfits sum test =
    test ∙ ap (λ z. is_negative (shown z)) (to_z-of_z w128 s sfits) ∙ ap is_negative (sum ∙ ap₂ plus (argument_shown k fits size) (ap shown (read_is xs at place f)))

pub returns-then-is_negative-clause-answer : goal.returns-then-is_negative-clause-answer
returns-then-is_negative-clause-answer c =
    let xs = c.args.bounds.now in
    let place : c.args.to * c.args.nodes + c.args.from < length xs = omega (arith, mul-add-lt c.args.to c.args.nodes c.args.from c.args.nodes c.requires.to c.requires.from, c.requires.square) in
    let f : FitsSigned w128 (get_or xs (c.args.to * c.args.nodes + c.args.from) (pos 0)) = search rules in
    ap not (sym c.if-is_negative.true ∙ round xs _ c.args.c c.sum.result c.is_negative.result place f c.ranges.c c.requires.c (record { sfits = c.sum.type_inv }) c.sum.ensures c.is_negative.ensures)

pub lower-requires-clause-first : goal.lower-requires-clause-first
lower-requires-clause-first c = λ i h.
    subst IsSummable (sym (c.ways_over-ways.ensures.to i h))
    (rw (to_z-of_z w128 c.args.c c.ranges.c) (summable_over _ c.args.c (c.requires.small i c.args.from h c.requires.from) c.requires.c))

pub lower-requires-clause-second : goal.lower-requires-clause-second
lower-requires-clause-second c = λ i h. subst IsSummable (sym (c.ways_over-ways.ensures.from i h)) (summable_small _ (c.requires.small c.args.to i c.requires.to h))

pub returns-clause-answer : goal.returns-clause-answer
returns-clause-answer c =
    let xs = c.args.bounds.now in
    let place : c.args.to * c.args.nodes + c.args.from < length xs = omega (arith, mul-add-lt c.args.to c.args.nodes c.args.from c.args.nodes c.requires.to c.requires.from, c.requires.square) in
    let f : FitsSigned w128 (get_or xs (c.args.to * c.args.nodes + c.args.from) (pos 0)) = search rules in
    ap not (sym c.if-is_negative.false ∙ round xs _ c.args.c c.sum.result c.is_negative.result place f c.ranges.c c.requires.c (record { sfits = c.sum.type_inv }) c.sum.ensures c.is_negative.ensures)

pub returns-clause-bounds : goal.returns-clause-bounds
returns-clause-bounds c = λ _ p q a b.
    c.lower.ensures p q a b
    ∙ ap₂ (λ x y. lesser (shown_at c.args.bounds.now (p * c.args.nodes + q)) (plus x y)) (c.ways_over-ways.ensures.to p a ∙ ap (λ z. plus (shown_at c.args.bounds.now (p * c.args.nodes + c.args.from)) (Some z)) (to_z-of_z w128 c.args.c c.ranges.c)) (c.ways_over-ways.ensures.from q b)
