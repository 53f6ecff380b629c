use Rattle.std.proofs.Common.{arith, ap, sym, ◌∙◌}
use Rattle.sa_scopes.specs.Structures.{kept}
use Rattle.sa_scopes.proofs.SizeLemmas.{extent-start, kept_next, extent-all}
use Rattle.sa_scopes.proofs.structs.extent.Goals as goal

pub loop-taken-init : goal.loop-taken-init
loop-taken-init c = λ exact e. e ∙ ap kept (sym (extent-start c.args.starred c.args.dims.now exact))

pub loop-taken-preserved : goal.loop-taken-preserved
loop-taken-preserved c = λ exact e. kept_next c.args.starred c.args.dims.now c.loop-taken.taken _ c.loop-taken.size exact _ c.times.result (omega arith) c.times.ensures c.saturating_mul-size.ensures (c.loop-taken.invariant exact e)

pub returns : goal.returns
returns c = λ exact e. c.loop-taken.invariant exact e ∙ ap kept (extent-all c.args.starred c.args.dims.now c.loop-taken.taken exact (omega arith))
