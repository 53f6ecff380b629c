use Rattle.std.proofs.Common.{rules, ◌≡◌, ◌^◌, ◌≤◌, ◌∙◌, ℤ, unsigned_abs, sym, subst}
use Rattle.sa_dbm.specs.Tables.{Table, IsWithin, top_table, tightened}
use Rattle.sa_dbm.proofs.Sizes.{within-top, within-tightened, within-joined}
use Rattle.test_dbm.proofs.tests.joins_and_moves.Goals as goal

at_top : (m : Table) → m ≡ top_table 1 → IsWithin (2 ^ 100) m
at_top m e = subst (IsWithin (2 ^ 100)) (sym e) (within-top (2 ^ 100) 1)

lowered : (m n : Table) (c : ℤ) → n ≡ tightened m 1 0 c → unsigned_abs c ≤ 2 ^ 100 → IsWithin (2 ^ 100) m → IsWithin (2 ^ 100) n
lowered m n c e l h = subst (IsWithin (2 ^ 100)) (sym e) (within-tightened (2 ^ 100) m 1 0 c h l)

pub tighten-requires-clause-within : goal.tighten-requires-clause-within
tighten-requires-clause-within g c = at_top _ c.in_ok-low.ensures.value

pub tighten-requires-2-clause-within : goal.tighten-requires-2-clause-within
tighten-requires-2-clause-within g c = at_top _ (c.in_ok-high.ensures ∙ c.in_ok-low.ensures.value)

pub shift-requires-clause-within : goal.shift-requires-clause-within
shift-requires-clause-within g c =
    let low = lowered _ _ _ c.tighten.ensures.value (search rules) (at_top _ c.in_ok-low.ensures.value) in
    let high = lowered _ _ _ c.tighten-2.ensures.value (search rules) (at_top _ (c.in_ok-high.ensures ∙ c.in_ok-low.ensures.value)) in
    subst (IsWithin (2 ^ 100)) (sym c.join_into.ensures.value) (within-joined (2 ^ 100) _ _ (search rules) low high)

pub forget-requires-clause-within : goal.forget-requires-clause-within
forget-requires-clause-within g c =
    lowered _ _ _ c.tighten-2.ensures.value (search rules) (at_top _ (c.in_ok-high.ensures ∙ c.in_ok-low.ensures.value))
