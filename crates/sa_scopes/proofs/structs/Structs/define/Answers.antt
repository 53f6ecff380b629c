use Rattle.std.proofs.Common.{true, false, ap, sym, ◌∙◌}
use Rattle.sa_scopes.specs.Structures.{sizes_of}
use Rattle.sa_scopes.proofs.SizeLemmas.{counted-push, at_ok}
use Rattle.sa_scopes.proofs.structs.Structs.define.Goals as goal

pub invariant_of-self-else-is_err-2 : goal.invariant_of-self-else-is_err-2
invariant_of-self-else-is_err-2 c =
    let defs = at_ok c.push-4.result (sym c.is_err-2.ensures.value ∙ c.if-is_err-2.false) c.push-4.ensures.ok in
    let cells = at_ok c.push-3.result (sym c.is_err.ensures.value ∙ c.if-is_err.false) c.push-3.ensures.ok in
    let size = c.fields_size-size.ensures (sizes_of false c.self.inside.defs) (c.as_slice.ensures ∙ c.self.invariant.0) in
    let cell_size = c.fields_size-cells.ensures (sizes_of true c.self.inside.defs) (c.as_slice-3.ensures ∙ c.self.invariant.1) in (
      counted-push false c.self.inside.sizes c.push-2.new.self c.fields_size-size.result c.self.inside.defs c.push-4.new.self _ c.self.invariant.0 c.in_ok-push-2.ensures.ok defs (rw c.as_slice-2.ensures at size),
      counted-push true c.self.inside.cells c.push-3.new.self c.fields_size-cells.result c.self.inside.defs c.push-4.new.self _ c.self.invariant.1 cells defs (rw c.as_slice-4.ensures at cell_size),
    )
