use Rattle.std.proofs.Common.{◌∙◌, sym, ap}
use Rattle.sa_ranges.specs.Table.{is_known}
use Rattle.sa_ranges.proofs.MemberLemmas.{known_step, known_stop, known_end}
use Rattle.sa_ranges.proofs.file.knows_all.Goals as goal

pub returns-then-not-is_known : goal.returns-then-not-is_known
returns-then-not-is_known c = known_stop c.loop-key.key-iterator (c.in-Some.key.now, c.in-Some.field-0-1.now) c.next.new.self c.in-Some.ensures.steps (ap is_known (sym c.as_str.ensures.value) ∙ sym c.if-not-is_known.ensures) ∙ c.loop-key.invariant

pub loop-key-preserved : goal.loop-key-preserved
loop-key-preserved c = known_step c.loop-key.key-iterator (c.in-Some.key.now, c.in-Some.field-0-1.now) c.next.new.self c.in-Some.ensures.steps (ap is_known (sym c.as_str.ensures.value) ∙ sym c.if-not-is_known.ensures) ∙ c.loop-key.invariant

pub returns : goal.returns
returns c = known_end c.loop-key.key-iterator c.in-None.ensures.steps.0 ∙ c.loop-key.invariant
