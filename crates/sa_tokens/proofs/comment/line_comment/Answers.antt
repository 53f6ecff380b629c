use Rattle.std.proofs.Common.{◌∙◌, sym, arith}
use Rattle.sa_tokens.specs.Comments.{ends_comment}
use Rattle.sa_tokens.proofs.UntilLemmas.{until_more, until_stop, until_end, rest_is}
use Rattle.sa_tokens.proofs.comment.line_comment.Goals as goal

pub loop-at-preserved : goal.loop-at-preserved
loop-at-preserved c = record {
  within = omega arith;
  found = until_more ends_comment c.args.text.now _ c.loop-at.at _ c.loop-at-test.true (rest_is c.args.text.now c.loop-at.at) (sym c.ends_comment.ensures ∙ c.if-not-ends_comment.true) c.loop-at.invariant.found;
}

pub returns-else-not-ends_comment-clause-value : goal.returns-else-not-ends_comment-clause-value
returns-else-not-ends_comment-clause-value c =
    until_stop ends_comment c.args.text.now _ c.loop-at.at _ (rest_is c.args.text.now c.loop-at.at) (sym c.ends_comment.ensures ∙ c.if-not-ends_comment.false) c.loop-at.invariant.found

pub returns-after-loop-at-clause-value : goal.returns-after-loop-at-clause-value
returns-after-loop-at-clause-value c = until_end ends_comment c.args.text.now c.loop-at.at _ c.loop-at-test.false c.loop-at.invariant.found
