use Rattle.std.proofs.Common.{rules, ◌∙◌, ◌+◌, ◌*◌, ◌<◌, length, get_or, pos, arith, ap, FitsSigned}
use Rattle.std.specs.Int.{w128}
use Rattle.std.proofs.lemmas.Int.{to_z-of_z}
use Rattle.std.proofs.lemmas.List.{length-set}
use Rattle.std.proofs.lemmas.Nat.{mul-add-lt}
use Rattle.sa_dbm.specs.Bounds.{half}
use Rattle.sa_dbm.specs.Tables.{bar}
use Rattle.sa_dbm.specs.Stored.{shown, shown_at}
use Rattle.sa_dbm.proofs.StoredLaws.{read_is, filled_more}
use Rattle.sa_dbm.proofs.closing.halves.Goals as goal

pub loop-i-preserved : goal.loop-i-preserved
loop-i-preserved c =
    let xs = c.args.bounds.now in
    let n = c.args.nodes in
    let i = c.loop-i.i in
    let other = c.bar-other.result in
    let was = c.loop-i.invariant in
    let inside : other < n = rw c.bar-other.ensures (c.requires.pairs i c.loop-i-test.true) in
    let row : i * n + other < length xs = omega (arith, mul-add-lt i n other n c.loop-i-test.true inside) in
    let column : other * n + i < length xs = omega (arith, mul-add-lt other n i n inside c.loop-i-test.true) in
    let f : FitsSigned w128 (get_or xs (i * n + other) (pos 0)) = search rules in
    let g : FitsSigned w128 (get_or xs (other * n + i) (pos 0)) = search rules in
    let to = ap shown (to_z-of_z w128 c.half.result (record { sfits = c.half.type_inv })) ∙ c.half.ensures ∙ ap (λ z. half (shown z)) (read_is xs (i * n + other) row f) in
    let from = ap shown (to_z-of_z w128 c.half-in-loop-i.result (record { sfits = c.half-in-loop-i.type_inv })) ∙ c.half-in-loop-i.ensures ∙ ap (λ z. half (shown z)) (read_is xs (other * n + i) column g) in
    record {
      room_to = length-set c.loop-i.to i _ ∙ was.room_to;
      room_from = length-set c.loop-i.from i _ ∙ was.room_from;
      to = filled_more c.loop-i.to i _ (λ k. half (shown_at xs (k * n + bar k))) (omega arith) was.to (to ∙ ap (λ b. half (shown_at xs (i * n + b))) c.bar-other.ensures);
      from = filled_more c.loop-i.from i _ (λ k. half (shown_at xs (bar k * n + k))) (omega arith) was.from (from ∙ ap (λ b. half (shown_at xs (b * n + i))) c.bar-other.ensures);
    }
