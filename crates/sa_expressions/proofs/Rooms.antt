-- The readers one deeper, where one more may be open.
use Rattle.std.proofs.Common.{◌≡◌, ℕ, zero, suc, ◌-◌, ◌≤◌, List, refl, ap, ◌∙◌, arith}
use Rattle.sa_tokens.specs.declared.token.Token.{Token}
use Rattle.sa_syntax.specs.Words.{Names}
use Rattle.sa_syntax.specs.Reading.{Parser}
use Rattle.sa_syntax.specs.ReadExpr.{inside, layer}
use Rattle.sa_syntax.specs.ReadStmt.{within, init_at, init_by}

inside_at : (ns : Names) (n : ℕ) → inside ns (suc n) ≡ layer ns n (inside ns n)
unfolding inside
inside_at ns n = refl

pub inside_deeper : (ns : Names) (n : ℕ) → 1 ≤ n → inside ns n ≡ layer ns (n - 1) (inside ns (n - 1))
inside_deeper ns n some = let e : n ≡ suc (n - 1) = omega arith in ap (inside ns) e ∙ inside_at ns (n - 1)

pub within_deeper : {A : Type 0} (p : ℕ → Parser A) (n : ℕ) → 1 ≤ n → within p n ≡ p (n - 1)
within_deeper p n some = let e : n ≡ suc (n - 1) = omega arith in ap (within p) e

init_by_cases : (ns : Names) (n : ℕ) → init_at ns n ≡ init_by ns n (within (init_at ns) n)
unfolding init_at
init_by_cases ns zero = refl
init_by_cases ns (suc n) = refl

pub init_here : (ns : Names) (n : ℕ) (ts : List Token) → init_at ns n ts ≡ init_by ns n (within (init_at ns) n) ts
init_here ns n ts = ap (λ (p : Parser _). p ts) (init_by_cases ns n)
