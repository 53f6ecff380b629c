-- Statements as the parser reads them: of a directive first the brackets, then what stands after them.
use Rattle.std.proofs.Common.{◌≡◌, ℕ, ◌-◌, List, refl, ap, ◌∙◌}
use Rattle.sa_base.specs.declared.pos.Pos.{Pos}
use Rattle.sa_tokens.specs.declared.token.Token.{Token}
use Rattle.sa_tokens.specs.declared.punct.Punct.TheVariants as m
use Rattle.sa_syntax.specs.declared.stmt.Directive.{Directive}
use Rattle.sa_syntax.specs.declared.stmt.Directive.TheVariants as d
use Rattle.sa_syntax.specs.declared.stmt.Stmt.TheVariants as s
use Rattle.sa_syntax.specs.Trees.{pos_of}
use Rattle.sa_syntax.specs.Words.{Names}
use Rattle.sa_syntax.specs.Reading.{Read, Got, Stuck, Deep, and_then, pure, opens, expect}
use Rattle.sa_syntax.specs.ReadStmt.{takes, bare, with_expr, ended, double_bracket, Bodies, break, return}
use Rattle.sa_statements.specs.Parts as parts

-- ---- the brackets, and then the directive
closed : (a : Directive) (r : Read Pos) → and_then r (λ _ ts. Got a ts) ≡ and_then (and_then r (λ _ ts. Got (tt {0}) ts)) (λ _ us. Got a us)
closed a (Got p ts) = refl
closed a (Stuck ts) = refl
closed a (Deep ts) = refl

closes : (a : Directive) (r : Read Pos) → and_then r (λ _ ts. and_then (expect m.CloseParen ts) (λ _ us. Got a us)) ≡
    and_then (and_then r (λ _ ts. and_then (expect m.CloseParen ts) (λ _ us. Got (tt {0}) us))) (λ _ us. Got a us)
closes a (Got p ts) = closed a (expect m.CloseParen ts)
closes a (Stuck ts) = refl
closes a (Deep ts) = refl

opened : (a : Directive) (r : Read Pos) →
    and_then r (λ _ ts. and_then (expect m.CloseParen ts) (λ _ us. and_then (expect m.CloseParen us) (λ _ vs. Got a vs))) ≡
    and_then (and_then r (λ _ ts. and_then (expect m.CloseParen ts) (λ _ us. and_then (expect m.CloseParen us) (λ _ vs. Got (tt {0}) vs)))) (λ _ us. Got a us)
opened a (Got p ts) = closes a (expect m.CloseParen ts)
opened a (Stuck ts) = refl
opened a (Deep ts) = refl

both_opened : (n : ℕ) (a : Directive) (r : Read Pos) →
    and_then r (λ _ ts. and_then (opens (n - 1) m.OpenParen ts) (λ _ us. and_then (expect m.CloseParen us) (λ _ vs. and_then (expect m.CloseParen vs) (λ _ ws. Got a ws)))) ≡
    and_then (and_then r (λ _ ts. and_then (opens (n - 1) m.OpenParen ts) (λ _ us. and_then (expect m.CloseParen us) (λ _ vs. and_then (expect m.CloseParen vs) (λ _ ws. Got (tt {0}) ws))))) (λ _ us. Got a us)
both_opened n a (Got p ts) = opened a (opens (n - 1) m.OpenParen ts)
both_opened n a (Stuck ts) = refl
both_opened n a (Deep ts) = refl

brackets : (n : ℕ) (a : Directive) (ts : List Token) → double_bracket n (pure a) ts ≡ and_then (double_bracket n (pure (tt {0})) ts) (λ _ us. Got a us)
unfolding double_bracket
brackets n a ts = both_opened n a (opens n m.OpenParen ts)

word_and_brackets : (n : ℕ) (a : Directive) (r : Read Pos) → and_then r (λ _ ts. double_bracket n (pure a) ts) ≡ and_then (and_then r (λ _ ts. double_bracket n (pure (tt {0})) ts)) (λ _ us. Got a us)
word_and_brackets n a (Got p ts) = brackets n a ts
word_and_brackets n a (Stuck ts) = refl
word_and_brackets n a (Deep ts) = refl

-- the `;` after it
ended_by : {A : Type 0} (f : A → Directive) (p : Pos) (r : Read A) →
    and_then (and_then r (λ a us. Got (f a) us)) (λ x us. and_then (expect m.Semicolon us) (λ _ vs. Got (s.Directive p x) vs)) ≡
    and_then r (λ a us. and_then (expect m.Semicolon us) (λ _ vs. Got (s.Directive p (f a)) vs))
ended_by f p (Got a us) = refl
ended_by f p (Stuck us) = refl
ended_by f p (Deep us) = refl

bare_is : (n : ℕ) (a : Directive) (ts : List Token) → ended (bare n a) ts ≡
    and_then (parts.nothing n ts) (λ _ us. and_then (expect m.Semicolon us) (λ _ vs. Got (s.Directive (pos_of ts) a) vs))
unfolding ended bare
bare_is n a ts =
    ap (λ (r : Read Directive). and_then r (λ x us. and_then (expect m.Semicolon us) (λ _ vs. Got (s.Directive (pos_of ts) x) vs))) (word_and_brackets n a (takes ts)) ∙
    ended_by (λ _. a) (pos_of ts) (parts.nothing n ts)

pub wait_is : (n : ℕ) (ts : List Token) → ended (bare n d.Wait) ts ≡ parts.wait n ts
wait_is n ts = bare_is n d.Wait ts

pub partition_is : (n : ℕ) (ts : List Token) → ended (bare n d.Partition) ts ≡ parts.partition n ts
partition_is n ts = bare_is n d.Partition ts

pub known_fact_is : (ns : Names) (n : ℕ) (ts : List Token) → ended (with_expr ns n d.KnownFact) ts ≡ parts.known_fact ns n ts
unfolding ended with_expr
known_fact_is ns n ts = ended_by d.KnownFact (pos_of ts) (parts.fact ns n ts)

pub assert_is : (ns : Names) (n : ℕ) (ts : List Token) → ended (with_expr ns n d.Assert) ts ≡ parts.assert ns n ts
unfolding ended with_expr
assert_is ns n ts = ended_by d.Assert (pos_of ts) (parts.fact ns n ts)

-- ---- words
pub break_is : (ns : Names) (n : ℕ) (b : Bodies) (ts : List Token) → break ns n b ts ≡ parts.break ts
unfolding break
break_is ns n b ts = refl

pub return_is : (ns : Names) (n : ℕ) (b : Bodies) (ts : List Token) → return ns n b ts ≡ parts.return ns n ts
unfolding return
return_is ns n b ts = refl
