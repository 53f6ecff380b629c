use Rattle.std.proofs.Common.{rules, ◌≡◌, ◌≢◌, ℕ, ◌+◌, ◌-◌, ◌*◌, ◌≤◌, length, get_or, take, drop, pos, FitsSigned, arith, ap, ap₂, ◌∙◌, inl, inr}
use Rattle.std.specs.Int.{w128}
use Rattle.std.proofs.lemmas.Bool.{cases_eq}
use Rattle.std.proofs.lemmas.List.{length-take, length-drop}
use Rattle.std.proofs.lemmas.Nat.{row_fits}
use Rattle.sa_dbm.specs.Bounds.{plus, lesser}
use Rattle.sa_dbm.specs.Stored.{shown, shown_at}
use Rattle.sa_dbm.proofs.StoredLaws.{read_is, shown_row, shown_other_row, shown_part}
use Rattle.sa_dbm.proofs.closing.lower.Goals as goal

pub lower_row-requires-clause-by : goal.lower_row-requires-clause-by
lower_row-requires-clause-by c =
    let f : FitsSigned w128 (get_or c.args.first.now c.loop-i.i (pos 0)) = search rules in
    rw (read_is c.args.first.now c.loop-i.i (omega arith) f) (c.requires.first c.loop-i.i (omega arith))

pub loop-i-preserved : goal.loop-i-preserved
loop-i-preserved c =
    let n = c.args.nodes in
    let i = c.loop-i.i in
    let k = i * n + n - i * n in
    let xs = c.loop-i.bounds in
    let f : FitsSigned w128 (get_or c.args.first.now i (pos 0)) = search rules in
    let room : i * n + n ≤ length xs = omega (arith, row_fits i n n n c.loop-i-test.true (omega arith)) in
    let row : length (take k (drop (i * n) xs)) ≡ n = simp (length-take, length-drop) (omega arith) in
    let whole : length c.lower_row.new.row ≡ n = c.lower_row.auto.row ∙ row in
    let first = ap shown (read_is c.args.first.now i (omega arith) f) in
    record {
      lowered = λ p q h b.
          elim (cases_eq p i) [
            | inl same ↦
                rw same (shown_row n i k xs c.lower_row.new.row (omega arith) room whole q b ∙ c.lower_row.ensures q (omega arith)
                ∙ ap₂ lesser (shown_part xs (i * n) k q (omega arith) ∙ c.loop-i.invariant.untouched i q (omega arith) b) (ap (λ z. plus z (shown_at c.args.second.now q)) first))
            | inr other ↦ shown_other_row n i k xs c.lower_row.new.row (omega arith) room whole p q other b ∙ c.loop-i.invariant.lowered p q (omega arith) b
          ];
      untouched = λ p q h b. shown_other_row n i k xs c.lower_row.new.row (omega arith) room whole p q (above_differs p i h) b ∙ c.loop-i.invariant.untouched p q (omega arith) b;
    }
  where
    above_differs : (k i : ℕ) → i + 1 ≤ k → k ≢ i
    above_differs k i h = omega arith
