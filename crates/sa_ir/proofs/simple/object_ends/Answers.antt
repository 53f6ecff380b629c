use Rattle.std.proofs.Common.{◌∙◌, sym, ap, List, slice_get}
use Rattle.std.specs.Prelude.{map}
use Rattle.sa_typed.specs.declared.program.Var.{Var}
use Rattle.sa_ir.specs.Indices.{slot_ends}
use Rattle.sa_ir.proofs.GroundLemmas.{covers-all}
use Rattle.sa_ir.proofs.SimpleLaws.{ends-are, ends-nowhere}
use Rattle.sa_ir.proofs.simple.object_ends.Goals as goal

pub returns-in_default : goal.returns-in_default
returns-in_default c =
    c.new.ensures ∙ ends-nowhere c.args.program.now c.args.var (sym (c.in_default.ensures ∙ ap (λ (l : List Var). slice_get l c.args.var) c.as_slice.ensures))

pub slots-requires-clause-table : goal.slots-requires-clause-table
slots-requires-clause-table c = covers-all c.args.program.now.structs c.as_slice-2.result.now (c.as_slice-2.ensures ∙ c.requires.structs)

pub returns : goal.returns
returns c =
    c.in_ok-ends.ensures ∙ ap (map slot_ends) c.deref.ensures.value
    ∙ ends-are c.args.program.now c.args.var c.in-Some.known.now (sym (c.in-Some.ensures ∙ ap (λ (l : List Var). slice_get l c.args.var) c.as_slice.ensures)) c.in_ok-slots.slots.items c.as_slice-4.result.now c.as_slice-4.ensures c.in_ok-slots.ensures
