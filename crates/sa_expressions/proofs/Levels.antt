-- Levels of operators one after another: what is refused at one level is refused at each looser one.
use Rattle.std.proofs.Common.{◌≡◌, ℕ, zero, suc, ◌+◌, ◌-◌, ◌≤◌, List, refl, ◌∙◌, subst, arith}
use Rattle.sa_tokens.specs.declared.token.Token.{Token}
use Rattle.sa_syntax.specs.declared.expr.Expr.{Expr}
use Rattle.sa_syntax.specs.Words.{Names}
use Rattle.sa_syntax.specs.Reading.{Read, Got, and_then, many}
use Rattle.sa_syntax.specs.ReadExpr.{Inner, ranked, chain, a_link, chained, sees_operator, unary}
use Rattle.sa_cursor.specs.declared.fault.Stop.{Stop}
use Rattle.sa_cursor.specs.declared.fault.Stop.TheVariants.{Syntax, TooDeep, OutOfMemory}
use Rattle.sa_cursor.specs.Outcome.{stopped}

pub ranked_tightest : (ns : Names) (n : ℕ) (inner : Inner) (ts : List Token) → ranked ns n inner 0 ts ≡ unary ns n inner ts
unfolding ranked
ranked_tightest ns n inner ts = refl

pub ranked_next : (ns : Names) (n : ℕ) (inner : Inner) (l : ℕ) (ts : List Token) → ranked ns n inner (l + 1) ts ≡
    and_then (ranked ns n inner l ts) (λ a us. and_then (many (sees_operator (l + 1)) (a_link ns n inner (ranked ns n inner l)) us) (λ xs vs. Got (chained a xs) vs))
unfolding ranked chain
ranked_next ns n inner l ts = let e : l + 1 ≡ suc l = omega arith in rw e refl

stops : (r : Read Expr) (f : Expr → List Token → Read Expr) (s : Stop) (us : List Token) → r ≡ stopped s us → and_then r f ≡ stopped s us
stops r f Syntax us h = rw h refl
stops r f TooDeep us h = rw h refl
stops r f OutOfMemory us h = rw h refl

above : (ns : Names) (n : ℕ) (inner : Inner) (l : ℕ) (ts : List Token) (s : Stop) (us : List Token) (k : ℕ) → ranked ns n inner l ts ≡ stopped s us → ranked ns n inner (l + k) ts ≡ stopped s us
above ns n inner l ts s us zero h = let e : l + 0 ≡ l = omega arith in rw e h
above ns n inner l ts s us (suc k) h =
    let e : l + suc k ≡ (l + k) + 1 = omega arith in
    rw e (ranked_next ns n inner (l + k) ts ∙ stops _ _ s us (above ns n inner l ts s us k h))

-- what is refused at a level is refused at a looser one
pub refused_above : (ns : Names) (n : ℕ) (inner : Inner) (l m : ℕ) (ts : List Token) (s : Stop) (us : List Token) → l ≤ m → ranked ns n inner l ts ≡ stopped s us → ranked ns n inner m ts ≡ stopped s us
refused_above ns n inner l m ts s us room h =
    let e : l + (m - l) ≡ m = omega arith in
    subst (λ (k : ℕ). ranked ns n inner k ts ≡ stopped s us) e (above ns n inner l ts s us (m - l) h)
