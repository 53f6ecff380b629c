use Rattle.std.proofs.Common.{◌≡◌, ◌≤◌, ◌+◌, ◌-◌, length, drop}
use Rattle.sa_tokens.specs.Bytes.{until}
use Rattle.sa_tokens.specs.Comments.{ends_block}
use Rattle.sa_tokens.proofs.comment.block_len.Given as goal

abbrev pub invariant-loop-at : goal.invariant-loop-at
invariant-loop-at l = record {
  within : l.at ≤ length l.text;
  found : l.at + until ends_block (drop l.at l.text) ≡ until ends_block l.text;
}

abbrev pub decreases-loop-at : goal.decreases-loop-at
decreases-loop-at l = length l.initial.text - l.at
