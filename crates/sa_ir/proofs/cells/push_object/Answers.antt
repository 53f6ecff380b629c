use Rattle.std.proofs.Common.{◌≡◌, ◌∙◌, ◌++◌, List, ℕ, length, Some, refl, sym, ap, append-nil}
use Rattle.sa_ir.specs.declared.ir.Cell.{Cell}
use Rattle.sa_ir.specs.declared.names.Inside.{Inside}
use Rattle.sa_ir.specs.Names.{var_text}
use Rattle.sa_ir.proofs.GroundLemmas.{covers-all}
use Rattle.sa_ir.proofs.CallLemmas.{no-object, object-inside, object-more, object-end}
use Rattle.sa_ir.proofs.cells.push_object.Goals as goal

pub returns-in_default : goal.returns-in_default
returns-in_default c =
    sym (ap (λ (l : List Cell). c.args.cells.now.items ++ l) (no-object c.args.program.now c.args.prefix.now c.args.var (sym c.in_default.ensures.value)) ∙ append-nil c.args.cells.now.items)

pub slots-requires-clause-table : goal.slots-requires-clause-table
slots-requires-clause-table c = covers-all c.args.program.now.structs c.as_slice.result.now (c.as_slice.ensures ∙ c.requires.table.structs)

pub push_cell-requires-clause-at : goal.push_cell-requires-clause-at
push_cell-requires-clause-at c =
    let p = c.args.program.now in
    let x = c.in-Some.known.now in
    let h = c.loop-number-test.true in
    let few = c.in_ok-few.ensures in
    object-inside p c.args.prefix.now c.args.var x (sym c.in-Some.ensures.value) c.as_slice-slots.result.now (c.as_slice-slots.ensures.value ∙ c.in_ok-all.ensures) _
    c.as_slice-in-loop-number.ensures refl c.len.ensures refl h few

pub loop-number-preserved : goal.loop-number-preserved
loop-number-preserved c =
    let p = c.args.program.now in
    let x = c.in-Some.known.now in
    let h = c.loop-number-test.true in
    let at : Inside = record { dims = c.as_slice-in-loop-number.result; plain = x.shape.plain; structs = c.len.result; cells = length c.as_slice-slots.result.now; number = c.loop-number.number } in
    let named : c.push_var.new.text.items ≡ c.new-name.result.items ++ var_text c.args.prefix.now (Some x) = c.in_ok-push_var.ensures in
    object-more p c.args.prefix.now c.args.var x (sym c.in-Some.ensures.value) c.as_slice-slots.result.now (c.as_slice-slots.ensures.value ∙ c.in_ok-all.ensures) at
    c.as_slice-in-loop-number.ensures refl c.len.ensures c.loop-number.number refl h _
    c.deref.result.now (c.deref.ensures.value ∙ named ∙ ap (λ (l : List ℕ). l ++ var_text c.args.prefix.now (Some x)) c.new-name.ensures.items)
    c.loop-number.cells.items _ c.args.cells.now.items
    c.in_ok-push_cell.ensures c.loop-number.invariant

pub returns : goal.returns
returns c =
    let p = c.args.program.now in
    let x = c.in-Some.known.now in
    let h = c.loop-number-test.false in
    object-end p c.args.prefix.now c.args.var x (sym c.in-Some.ensures.value) c.as_slice-slots.result.now (c.as_slice-slots.ensures.value ∙ c.in_ok-all.ensures)
    c.loop-number.number h c.loop-number.cells.items c.args.cells.now.items c.loop-number.invariant
