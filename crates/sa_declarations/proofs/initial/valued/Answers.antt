use Rattle.std.proofs.Common.{rules, subst, List, ◌∷◌, [], ◌++◌}
use Rattle.std.specs.Int.{w128}
use Rattle.std.specs.Prelude.{ℤ, IfOk, FitsSigned}
use Rattle.std.proofs.lemmas.Int.{to_z-of_z}
use Rattle.sa_declarations.specs.Initialisers.{Stands}
use Rattle.sa_declarations.proofs.InitRows.{item_answer}
use Rattle.sa_declarations.proofs.initial.valued.Goals as goal

pub returns-in_ok-value-in-Scalar : goal.returns-in_ok-value-in-Scalar
returns-in_ok-value-in-Scalar c =
    let fits : FitsSigned w128 c.in_ok-value-in-Scalar.value = search rules in
    let e = to_z-of_z w128 c.in_ok-value-in-Scalar.value fits in
    λ zs s. item_answer c.args.pos c.args.form c.in-Scalar.num c.args.operand.now zs _ _ _ _ c.in-Scalar.is c.in_ok-value-in-Scalar.ensures (subst (λ (z : ℤ). IfOk c.push.result (λ v. Stands v (zs ++ z ∷ []))) e (c.push.ensures zs s))
