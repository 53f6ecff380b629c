use Rattle.std.proofs.Common.{arith, refl, ap, ◌∙◌, List, ◌∷◌, [], ◌++◌}
use Rattle.std.specs.Int.{w128}
use Rattle.std.specs.Prelude.{ℤ}
use Rattle.std.proofs.lemmas.Int.{to_z-of_z}
use Rattle.sa_declarations.proofs.TrimLemmas.{stands_write}
use Rattle.sa_declarations.proofs.initial.Values.write.Goals as goal

pub returns : goal.returns
returns c =
    let e = to_z-of_z w128 c.args.value c.ranges.value in
    λ zs s. stands_write c.args.self _ zs _ (c.in_ok-push.ensures.ok ∙ ap (λ (z : ℤ). c.in_ok-written.written ++ z ∷ []) e ∙ ap (λ (ys : List ℤ). ys ++ c.args.value ∷ []) c.in_ok-written.ensures) refl (omega arith) c.requires s
