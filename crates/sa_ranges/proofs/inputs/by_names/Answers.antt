use Rattle.std.proofs.Common.{◌∙◌, sym, ap}
use Rattle.sa_ranges.specs.Inputs.{type_range, common}
use Rattle.sa_ranges.proofs.InputLemmas.{range_step, range_end}
use Rattle.sa_ranges.proofs.inputs.by_names.Goals as goal

pub loop-input-preserved : goal.loop-input-preserved
loop-input-preserved c = λ n.
    range_step c.args.inputs.now c.loop-input.input-index c.input-item.result c.bytes-name.result.now c.common-allowed.result c.loop-input.map c.insert.new.self c.loop-input-test.true c.input-item.is
    c.bytes-name.ensures (c.common-allowed.ensures ∙ ap (λ o. common o (type_range c.input-item.result.num)) c.allowed_in.ensures) c.in_ok-insert.ensures.updates n
    ∙ c.loop-input.invariant n

pub returns : goal.returns
returns c = λ n. sym (range_end c.args.inputs.now c.loop-input.input-index n _ c.loop-input-test.false) ∙ c.loop-input.invariant n
