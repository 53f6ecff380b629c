use Rattle.std.proofs.Common.{rules, ◌∙◌, ◌+◌, ◌*◌, ◌<◌, length, get_or, pos, arith, ap, FitsSigned}
use Rattle.std.specs.Int.{w128}
use Rattle.std.proofs.lemmas.List.{length-set}
use Rattle.std.proofs.lemmas.Nat.{mul-add-lt}
use Rattle.sa_dbm.specs.Stored.{shown, shown_at}
use Rattle.sa_dbm.proofs.StoredLaws.{read_is, filled_more}
use Rattle.sa_dbm.proofs.closing.ways_by.Goals as goal

pub loop-i-preserved : goal.loop-i-preserved
loop-i-preserved c =
    let xs = c.args.bounds.now in
    let n = c.args.nodes in
    let i = c.loop-i.i in
    let v = c.args.pivot in
    let was = c.loop-i.invariant in
    let row : i * n + v < length xs = omega (arith, mul-add-lt i n v n (omega arith) (omega arith)) in
    let column : v * n + i < length xs = omega (arith, mul-add-lt v n i n (omega arith) (omega arith)) in
    let f : FitsSigned w128 (get_or xs (i * n + v) (pos 0)) = search rules in
    let g : FitsSigned w128 (get_or xs (v * n + i) (pos 0)) = search rules in
    record {
      room_to = length-set c.loop-i.to i _ ∙ was.room_to;
      room_from = length-set c.loop-i.from i _ ∙ was.room_from;
      to = filled_more c.loop-i.to i _ (λ k. shown_at xs (k * n + v)) (omega arith) was.to (ap shown (read_is xs (i * n + v) row f));
      from = filled_more c.loop-i.from i _ (λ k. shown_at xs (v * n + k)) (omega arith) was.from (ap shown (read_is xs (v * n + i) column g));
    }
