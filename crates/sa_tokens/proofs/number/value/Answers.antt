use Rattle.std.proofs.Common.{◌+◌, ◌*◌, get_or, drop, ◌∙◌, sym}
use Rattle.sa_tokens.specs.Words.{base, digit_value}
use Rattle.sa_tokens.proofs.NumberLemmas.{digits-more, too_large}
use Rattle.sa_tokens.proofs.number.value.Goals as goal

pub returns-then-value-from : goal.returns-then-value-from
returns-then-value-from c =
    let d = get_or c.args.digits.now c.loop-d.d-index 0 in
    let v = rw (c.from.ensures, c.base.ensures, c.from-in-loop-d.ensures, c.digit_value.ensures, c.from-in-loop-d-2.ensures) at c.if-value-from.true in
    too_large c.args.radix (c.loop-d.value * base c.args.radix + digit_value d) _ (drop (c.loop-d.d-index + 1) c.args.digits.now) v (sym (digits-more c.args.radix c.loop-d.value c.args.digits.now c.loop-d.d-index 0 c.loop-d-test.true) ∙ c.loop-d.invariant.rest)
