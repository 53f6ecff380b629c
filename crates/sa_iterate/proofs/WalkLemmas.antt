-- The straight walk, one statement on and at its end.
use Rattle.std.proofs.Common.{◌≡◌, ℕ, ◌+◌, ◌<◌, ◌≤◌, Bool, List, [], ◌∷◌, length, drop, get_or, refl, sym, ap, ◌∙◌, Option, Some, None}
use Rattle.std.proofs.lemmas.List.{drop_more, drop_all}
use Rattle.sa_typed.specs.declared.program.Program.{Program}
use Rattle.sa_typed.specs.declared.stmt.Stmt.{Stmt}
use Rattle.sa_reference.specs.declared.flat.Flat.{Flat}
use Rattle.sa_reference.specs.Steps.{Found, nothing, both}
use Rattle.sa_iterate.specs.Straight.{stmt_after, stmt_found, next_env, next_found, straight, straight_found, kept}
use Rattle.sa_iterate.proofs.FoundLemmas.{both-nothing, both-assoc, kept-both, kept-nothing}

module _ (p : Program) where
  straight-dead : (ss : List Stmt) → straight p ss None ≡ None
  unfolding straight next_env
  straight-dead [] = refl
  straight-dead (s ∷ ss) = straight-dead ss

  found-dead : (ss : List Stmt) → straight_found p ss None ≡ nothing
  unfolding straight_found next_env next_found
  found-dead [] = refl
  found-dead (s ∷ ss) = found-dead ss

  module _ (ss : List Stmt) (i : ℕ) (e : Flat) (s : Stmt) (h : i < length ss) (is : s ≡ get_or ss i s) where
    straight-more : straight p (drop i ss) (Some e) ≡ straight p (drop (i + 1) ss) (stmt_after p s e)
    unfolding straight next_env
    straight-more =
        ap (λ (r : List Stmt). straight p r (Some e)) (drop_more ss i s h) ∙ ap (λ (t : Stmt). straight p (drop (i + 1) ss) (stmt_after p t e)) (sym is)

    found-more : straight_found p (drop i ss) (Some e) ≡ both (stmt_found p s e) (straight_found p (drop (i + 1) ss) (stmt_after p s e))
    unfolding straight_found next_env next_found
    found-more =
        ap (λ (r : List Stmt). straight_found p r (Some e)) (drop_more ss i s h)
        ∙ ap (λ (t : Stmt). both (stmt_found p t e) (straight_found p (drop (i + 1) ss) (stmt_after p t e))) (sym is)

    -- the statement at i is passed alive
    pub straight-passed : (f : Flat) → stmt_after p s e ≡ Some f → straight p (drop i ss) (Some e) ≡ straight p (drop (i + 1) ss) (Some f)
    straight-passed f a = straight-more ∙ ap (λ (o : Option Flat). straight p (drop (i + 1) ss) o) a

    pub found-passed : (b : Bool) (f : Flat) (old new all : Found Flat) → stmt_after p s e ≡ Some f → new ≡ both old (kept b (stmt_found p s e)) →
        both old (kept b (straight_found p (drop i ss) (Some e))) ≡ all → both new (kept b (straight_found p (drop (i + 1) ss) (Some f))) ≡ all
    found-passed b f old new all a n whole =
        let here = stmt_found p s e in
        let rest = straight_found p (drop (i + 1) ss) (Some f) in
        ap (λ (x : Found Flat). both x (kept b rest)) n ∙ both-assoc old (kept b here) (kept b rest)
        ∙ ap (both old) (sym (kept-both b here rest) ∙ ap (kept b) (sym (found-more ∙ ap (λ (o : Option Flat). both here (straight_found p (drop (i + 1) ss) o)) a)))
        ∙ whole

    -- the statement at i leaves it dead
    pub straight-dies : stmt_after p s e ≡ None → straight p (drop i ss) (Some e) ≡ None
    straight-dies a = straight-more ∙ ap (λ (o : Option Flat). straight p (drop (i + 1) ss) o) a ∙ straight-dead (drop (i + 1) ss)

    pub found-died : (b : Bool) (old new all : Found Flat) → stmt_after p s e ≡ None → new ≡ both old (kept b (stmt_found p s e)) →
        both old (kept b (straight_found p (drop i ss) (Some e))) ≡ all → new ≡ all
    found-died b old new all a n whole =
        let here = stmt_found p s e in
        n ∙ ap (λ (x : Found Flat). both old (kept b x)) (sym (found-more ∙ ap (λ (o : Option Flat). both here (straight_found p (drop (i + 1) ss) o)) a
        ∙ ap (both here) (found-dead (drop (i + 1) ss)) ∙ both-nothing here)) ∙ whole

  pub straight-end : (ss : List Stmt) (i : ℕ) (o : Option Flat) → length ss ≤ i → straight p (drop i ss) o ≡ o
  unfolding straight
  straight-end ss i o h = ap (λ (r : List Stmt). straight p r o) (drop_all i ss h)

  pub found-end : (ss : List Stmt) (i : ℕ) (o : Option Flat) (b : Bool) (old all : Found Flat) → length ss ≤ i →
      both old (kept b (straight_found p (drop i ss) o)) ≡ all → old ≡ all
  unfolding straight_found
  found-end ss i o b old all h whole =
      sym (ap (λ (r : List Stmt). both old (kept b (straight_found p r o))) (drop_all i ss h) ∙ ap (both old) (kept-nothing b) ∙ both-nothing old) ∙ whole
