-- The readers of statements one deeper, where one more may be open, and of brackets two deeper.
use Rattle.std.proofs.Common.{◌≡◌, ℕ, suc, ◌-◌, ◌≤◌, refl, ap, ◌∙◌, arith}
use Rattle.sa_syntax.specs.Words.{Names}
use Rattle.sa_syntax.specs.Reading.{Parser}
use Rattle.sa_syntax.specs.ReadStmt.{within, bodies, stmt, block_items, groups, no_stmt}

pub within_twice : {A : Type 0} (p : ℕ → Parser A) (n : ℕ) → 1 ≤ n → 1 ≤ n - 1 → within (within p) n ≡ p (n - 2)
within_twice p n some more = let e : n ≡ suc (suc (n - 2)) = omega arith in ap (within (within p)) e

bodies_at : (ns : Names) (n : ℕ) → bodies ns (suc n) ≡ record { stmt = stmt ns n (bodies ns n); items = block_items ns n (bodies ns n) (bodies ns n).stmt; groups = groups ns n (bodies ns n) }
unfolding bodies
bodies_at ns n = refl

pub bodies_deeper : (ns : Names) (n : ℕ) → 1 ≤ n →
    bodies ns n ≡ record { stmt = stmt ns (n - 1) (bodies ns (n - 1)); items = block_items ns (n - 1) (bodies ns (n - 1)) (bodies ns (n - 1)).stmt; groups = groups ns (n - 1) (bodies ns (n - 1)) }
bodies_deeper ns n some = let e : n ≡ suc (n - 1) = omega arith in ap (bodies ns) e ∙ bodies_at ns (n - 1)

pub bodies_none : (ns : Names) (n : ℕ) → n ≡ 0 → (bodies ns n).stmt ≡ no_stmt ns
unfolding bodies
bodies_none ns n e = ap (λ n. (bodies ns n).stmt) e
