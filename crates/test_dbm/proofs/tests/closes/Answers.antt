use Rattle.std.proofs.Common.{rules, ◌≡◌, ◌^◌, ◌≤◌, ℕ, ℤ, unsigned_abs, sym, subst}
use Rattle.sa_dbm.specs.Tables.{Table, IsWithin, top_table, tightened}
use Rattle.sa_dbm.proofs.Sizes.{within-top, within-tightened}
use Rattle.test_dbm.proofs.tests.closes.Goals as goal

at_top : (m : Table) → m ≡ top_table 2 → IsWithin (2 ^ 100) m
at_top m e = subst (IsWithin (2 ^ 100)) (sym e) (within-top (2 ^ 100) 2)

lowered : (m n : Table) (i j : ℕ) (c : ℤ) → n ≡ tightened m i j c → unsigned_abs c ≤ 2 ^ 100 → IsWithin (2 ^ 100) m → IsWithin (2 ^ 100) n
lowered m n i j c e l h = subst (IsWithin (2 ^ 100)) (sym e) (within-tightened (2 ^ 100) m i j c h l)

pub tighten-requires-clause-within : goal.tighten-requires-clause-within
tighten-requires-clause-within g c = at_top _ c.in_ok-m.ensures.value

pub tighten-requires-2-clause-within : goal.tighten-requires-2-clause-within
tighten-requires-2-clause-within g c = lowered _ _ 3 0 _ c.tighten.ensures.value (search rules) (at_top _ c.in_ok-m.ensures.value)

pub tighten-requires-3-clause-within : goal.tighten-requires-3-clause-within
tighten-requires-3-clause-within g c =
    subst (IsWithin (2 ^ 100)) (sym c.in_ok-none.ensures)
    (lowered _ _ 2 0 _ c.tighten-2.ensures.value (search rules) (lowered _ _ 3 0 _ c.tighten.ensures.value (search rules) (at_top _ c.in_ok-m.ensures.value)))

pub close-requires : goal.close-requires
close-requires g c =
    lowered _ _ 0 1 _ c.tighten-3.ensures.value (search rules)
    (subst (IsWithin (2 ^ 100)) (sym c.in_ok-none.ensures)
    (lowered _ _ 2 0 _ c.tighten-2.ensures.value (search rules) (lowered _ _ 3 0 _ c.tighten.ensures.value (search rules) (at_top _ c.in_ok-m.ensures.value))))

pub close-requires-2 : goal.close-requires-2
close-requires-2 g c =
    lowered _ _ 2 0 _ c.tighten-2.ensures.value (search rules) (lowered _ _ 3 0 _ c.tighten.ensures.value (search rules) (at_top _ c.in_ok-m.ensures.value))
