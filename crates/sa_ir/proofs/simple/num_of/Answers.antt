use Rattle.std.proofs.Common.{◌≤◌, ◌∙◌, sym, ap, subst, arith, List, ℕ, length, slice_get}
use Rattle.std.proofs.lemmas.List.{nil_from_length}
use Rattle.sa_typed.specs.declared.program.Var.{Var}
use Rattle.sa_ir.proofs.SimpleLaws.{num-nowhere, num-scalar, num-struct, num-array}
use Rattle.sa_ir.proofs.simple.num_of.Goals as goal

pub returns-in-None : goal.returns-in-None
returns-in-None c = num-nowhere c.args.program.now c.args.var (sym (c.in-None.ensures ∙ ap (λ (l : List Var). slice_get l c.args.var) c.as_slice.ensures))

pub returns-in-Scalar : goal.returns-in-Scalar
returns-in-Scalar c =
    let h = c.in-empty.len_below in
    num-scalar c.args.program.now c.args.var c.in-Some.known.now (sym (c.in-Some.ensures ∙ ap (λ (l : List Var). slice_get l c.args.var) c.as_slice.ensures)) c.in-Scalar.num (sym c.as_slice-in-Some.ensures ∙ nil_from_length c.as_slice-in-Some.result.now (omega (arith, h))) c.in-Scalar.is

pub returns-in-Struct : goal.returns-in-Struct
returns-in-Struct c =
    let h = c.in-empty.len_below in
    num-struct c.args.program.now c.args.var c.in-Some.known.now (sym (c.in-Some.ensures ∙ ap (λ (l : List Var). slice_get l c.args.var) c.as_slice.ensures)) _ (sym c.as_slice-in-Some.ensures ∙ nil_from_length c.as_slice-in-Some.result.now (omega (arith, h))) c.in-Struct.is

pub returns-in-len1-up : goal.returns-in-len1-up
returns-in-len1-up c =
    num-array c.args.program.now c.args.var c.in-Some.known.now (sym (c.in-Some.ensures ∙ ap (λ (l : List Var). slice_get l c.args.var) c.as_slice.ensures)) (subst (λ (l : List ℕ). 1 ≤ length l) c.as_slice-in-Some.ensures c.in-len1-up.len_at_least)
