use Rattle.std.proofs.Common.{◌∙◌, sym, arith}
use Rattle.sa_tokens.specs.Comments.{ends_marker}
use Rattle.sa_tokens.proofs.UntilLemmas.{until_more, until_stop, until_end, rest_is}
use Rattle.sa_tokens.proofs.comment.marker_len.Goals as goal

pub loop-at-preserved : goal.loop-at-preserved
loop-at-preserved c = record {
  within = omega arith;
  found = until_more ends_marker c.args.text.now _ c.loop-at.at _ c.loop-at-test.true (rest_is c.args.text.now c.loop-at.at) (sym c.ends_marker.ensures ∙ c.if-not-ends_marker.true) c.loop-at.invariant.found;
}

pub returns-else-not-ends_marker-clause-value : goal.returns-else-not-ends_marker-clause-value
returns-else-not-ends_marker-clause-value c =
    until_stop ends_marker c.args.text.now _ c.loop-at.at _ (rest_is c.args.text.now c.loop-at.at) (sym c.ends_marker.ensures ∙ c.if-not-ends_marker.false) c.loop-at.invariant.found

pub returns-after-loop-at-clause-value : goal.returns-after-loop-at-clause-value
returns-after-loop-at-clause-value c = until_end ends_marker c.args.text.now c.loop-at.at _ c.loop-at-test.false c.loop-at.invariant.found
