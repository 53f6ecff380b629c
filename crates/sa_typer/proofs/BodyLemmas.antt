-- The wait that a block ends with.
use Rattle.std.proofs.Common.{◌≡◌, ℕ, List, [], ◌∷◌, ◌++◌, Bool, true, false, length, refl, ap, arith, Option, Some, None, cond}
use Rattle.std.specs.Prelude.{option_map}
use Rattle.std.specs.Bool.{then_some}
use Rattle.std.specs.Borrow.{Bor}
use Rattle.sa_syntax.specs.declared.stmt.BlockItem.{BlockItem}
use Rattle.sa_syntax.specs.Forms.{is_wait}
use Rattle.sa_typer.specs.Bodies.{before_wait}
use Rattle.std.proofs.Common.{◌∙◌}

pub before-none : (is : List BlockItem) → length is ≡ 0 → before_wait is ≡ None
unfolding before_wait
before-none [] h = refl
before-none (i ∷ is) h = absurd (omega arith)

pub before-last : (is : List BlockItem) (i : BlockItem) → before_wait (is ++ i ∷ []) ≡ cond (is_wait i) (Some is) None
unfolding before_wait
before-last [] i = refl
before-last (j ∷ []) i = elim (is_wait i) as (λ b. option_map (λ before. j ∷ before) (cond b (Some []) None) ≡ cond b (Some (j ∷ [])) None) [ true ↦ refl | false ↦ refl ]
before-last (j ∷ k ∷ is) i =
    ap (option_map (λ before. j ∷ before)) (before-last (k ∷ is) i)
    ∙ elim (is_wait i) as (λ b. option_map (λ before. j ∷ before) (cond b (Some (k ∷ is)) None) ≡ cond b (Some (j ∷ k ∷ is)) None) [ true ↦ refl | false ↦ refl ]

pub then_some-now : (b : Bool) (x : Bor (List BlockItem)) → option_map (λ y. y.now) (then_some b x) ≡ cond b (Some x.now) None
then_some-now true x = refl
then_some-now false x = refl
