-- The passes over intervals, where no state is reduced: at a stable pass, one pass on, and at the last.
use Rattle.std.proofs.Common.{◌≡◌, ℕ, suc, ◌+◌, Bool, true, false, refl, sym, ap, ◌∙◌, Option, Some}
use Rattle.std.specs.Prelude.{if◌then◌else◌, nat_le}
use Rattle.sa_typed.specs.declared.program.Program.{Program}
use Rattle.sa_typed.specs.declared.stmt.Stmt.{Stmt}
use Rattle.sa_reference.specs.declared.flat.Flat.{Flat}
use Rattle.sa_reference.specs.Environments.{le_of, top_of, whole_clock}
use Rattle.sa_reference.specs.Passes.{Facts, alive_then, rested, joined, next, turned, passes_from, facts_of}
use Rattle.sa_reference.specs.Sound.{widest}
use Rattle.sa_iterate.specs.Straight.{domain, stmt_after, facts_from}

if-same : {A : Type 0} (b : Bool) (x : A) → (if b then x else x) ≡ x
if-same true x = refl
if-same false x = refl

module _ (q : Program) (turn : Flat → Option Flat) (peak s : Flat) where
  rested-is : (p : ℕ) (i : Flat) → rested (domain q) p i ≡ Some i
  rested-is p i = if-same (nat_le p 4) (Some i)

  turned-is : (p : ℕ) (i : Flat) → turned (domain q) turn s p i ≡ joined (domain q) s (turn i)
  turned-is p i = ap (λ (o : Option Flat). joined (domain q) s (alive_then o turn)) (rested-is p i)

  pub passes-stable : (all : Facts Flat) (left k p : ℕ) (i j : Flat) → k ≡ suc left → j ≡ joined (domain q) s (turn i) → le_of j i ≡ true →
      passes_from (domain q) turn peak s k p i ≡ all → all ≡ record { passes = p; state = Some i }
  unfolding passes_from
  passes-stable all left k p i j e f h whole =
      let le : le_of (turned (domain q) turn s p i) i ≡ true = ap (λ (x : Flat). le_of x i) (turned-is p i ∙ sym f) ∙ h in
      sym whole ∙ ap (λ (k : ℕ). passes_from (domain q) turn peak s k p i) e
      ∙ ap (λ (b : Bool). if b then record { passes = p; state = rested (domain q) p i } else passes_from (domain q) turn peak s left (p + 1) (next (domain q) peak p i (turned (domain q) turn s p i))) le
      ∙ ap (λ (o : Option Flat). record { passes = p; state = o }) (rested-is p i)

  pub passes-more : (all : Facts Flat) (left k p : ℕ) (i j : Flat) → k ≡ suc left → j ≡ joined (domain q) s (turn i) → le_of j i ≡ false →
      passes_from (domain q) turn peak s k p i ≡ all → passes_from (domain q) turn peak s left (p + 1) (next (domain q) peak p i j) ≡ all
  unfolding passes_from
  passes-more all left k p i j e f h whole =
      let le : le_of (turned (domain q) turn s p i) i ≡ false = ap (λ (x : Flat). le_of x i) (turned-is p i ∙ sym f) ∙ h in
      sym (ap (λ (k : ℕ). passes_from (domain q) turn peak s k p i) e
      ∙ ap (λ (b : Bool). if b then record { passes = p; state = rested (domain q) p i } else passes_from (domain q) turn peak s left (p + 1) (next (domain q) peak p i (turned (domain q) turn s p i))) le
      ∙ ap (λ (x : Flat). passes_from (domain q) turn peak s left (p + 1) (next (domain q) peak p i x)) (turned-is p i ∙ sym f)) ∙ whole

  pub passes-last : (all : Facts Flat) (k p : ℕ) (i : Flat) → k ≡ 0 → passes_from (domain q) turn peak s k p i ≡ all → all ≡ record { passes = p; state = Some i }
  unfolding passes_from
  passes-last all k p i e whole =
      sym whole ∙ ap (λ (k : ℕ). passes_from (domain q) turn peak s k p i) e ∙ ap (λ (o : Option Flat). record { passes = p; state = o }) (rested-is p i)

pub passes-first : (q : Program) (body : Stmt) (s : Flat) →
    passes_from (domain q) (stmt_after q body) (top_of q (whole_clock (widest q).max_clock)) s 31 1 s ≡ facts_from q body s
unfolding facts_from facts_of
passes-first q body s = refl
