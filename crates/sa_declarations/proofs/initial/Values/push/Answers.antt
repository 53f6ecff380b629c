use Rattle.std.proofs.Common.{sym, subst, refl, ◌∙◌, List, ◌∷◌, [], ◌++◌}
use Rattle.std.specs.Int.{w128}
use Rattle.std.specs.Prelude.{ℤ}
use Rattle.std.proofs.lemmas.Int.{to_z-of_z}
use Rattle.sa_declarations.specs.Initialisers.{Stands}
use Rattle.sa_declarations.proofs.TrimLemmas.{zero_is}
use Rattle.sa_declarations.proofs.initial.Values.push.Goals as goal

pub returns-then-is_zero : goal.returns-then-is_zero
returns-then-is_zero c =
    let e = to_z-of_z w128 c.args.value c.ranges.value in
    λ zs s. subst (λ (z : ℤ). Stands c.skip.result (zs ++ z ∷ [])) (sym (sym e ∙ zero_is _ (sym c.is_zero.ensures ∙ c.if-is_zero.true))) (c.skip.ensures zs 1 s refl)
