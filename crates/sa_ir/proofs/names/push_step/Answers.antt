use Rattle.std.proofs.Common.{◌∙◌, ◌++◌, List, ℕ, sym, ap, append-nil, arith}
use Rattle.std.proofs.lemmas.List.{nil_from_length}
use Rattle.sa_ir.proofs.InsideLemmas.{leaf-name, plain-inside}
use Rattle.sa_ir.proofs.names.push_step.Goals as goal

pub returns-in-Scalar : goal.returns-in-Scalar
returns-in-Scalar c =
    let p = c.args.program.now in
    let i = c.args.at in
    let none = c.in_default.len_below in
    let whole = plain-inside p i _ (nil_from_length i.dims.now (omega (arith, none))) c.in-Scalar.is in
    sym (ap (λ (x : List ℕ). c.args.text.now.items ++ x) (leaf-name p i c.in-Scalar.field-0 whole) ∙ append-nil c.args.text.now.items)
