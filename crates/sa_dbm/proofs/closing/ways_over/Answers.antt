use Rattle.std.proofs.Common.{rules, ◌∙◌, ◌+◌, ◌*◌, ◌<◌, ◌^◌, ◌≤◌, length, get_or, pos, arith, ap, ap₂, sym, FitsSigned, Some, to_z, of_z}
use Rattle.std.specs.Int.{w128}
use Rattle.std.proofs.lemmas.Int.{to_z-of_z}
use Rattle.std.proofs.lemmas.List.{length-set}
use Rattle.std.proofs.lemmas.Nat.{mul-add-lt}
use Rattle.sa_dbm.specs.Bounds.{plus}
use Rattle.sa_dbm.specs.Stored.{shown, shown_at}
use Rattle.sa_dbm.proofs.StoredLaws.{argument_shown, filled_more, read_is}
use Rattle.sa_dbm.proofs.NodeLaws.{number_small, small_summable}
use Rattle.sa_dbm.proofs.Arcs.{summable_small}
use Rattle.sa_dbm.proofs.closing.ways_over.Goals as goal

pub sum-requires-clause-first : goal.sum-requires-clause-first
sum-requires-clause-first c =
    let xs = c.args.bounds.now in
    let n = c.args.nodes in
    let i = c.loop-i.i in
    let place : i * n + c.args.from < length xs = omega (arith, mul-add-lt i n c.args.from n c.loop-i-test.true c.requires.from, c.requires.square) in
    let f : FitsSigned w128 (get_or xs (i * n + c.args.from) (pos 0)) = search rules in
    rw (read_is xs (i * n + c.args.from) place f) (summable_small _ (c.requires.small i c.args.from c.loop-i-test.true c.requires.from))

pub sum-requires-clause-second : goal.sum-requires-clause-second
sum-requires-clause-second c = small_summable _ (number_small _ c.args.c (argument_shown c.args.c c.ranges.c c.requires.c) c.requires.c)

pub loop-i-preserved : goal.loop-i-preserved
loop-i-preserved c =
    let xs = c.args.bounds.now in
    let n = c.args.nodes in
    let i = c.loop-i.i in
    let was = c.loop-i.invariant in
    let row : i * n + c.args.from < length xs = omega (arith, mul-add-lt i n c.args.from n c.loop-i-test.true c.requires.from, c.requires.square) in
    let column : c.args.to * n + i < length xs = omega (arith, mul-add-lt c.args.to n i n c.requires.to c.loop-i-test.true, c.requires.square) in
    let f : FitsSigned w128 (get_or xs (i * n + c.args.from) (pos 0)) = search rules in
    let g : FitsSigned w128 (get_or xs (c.args.to * n + i) (pos 0)) = search rules in
    let number = to_z-of_z w128 c.args.c c.ranges.c in
    let over =
    ap shown (to_z-of_z w128 c.sum.result (record { sfits = c.sum.type_inv })) ∙ c.sum.ensures
    ∙ ap₂ plus (ap shown (read_is xs (i * n + c.args.from) row f)) (argument_shown c.args.c c.ranges.c c.requires.c ∙ ap Some (sym number)) in
    record {
      room_to = length-set c.loop-i.over i _ ∙ was.room_to;
      room_from = length-set c.loop-i.on i _ ∙ was.room_from;
      to = filled_more c.loop-i.over i _ (λ k. plus (shown_at xs (k * n + c.args.from)) (Some (to_z w128 (of_z w128 c.args.c)))) (omega arith) was.to over;
      from = filled_more c.loop-i.on i _ (λ k. shown_at xs (c.args.to * n + k)) (omega arith) was.from (ap shown (read_is xs (c.args.to * n + i) column g));
    }
