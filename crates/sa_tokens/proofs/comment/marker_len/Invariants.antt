use Rattle.std.proofs.Common.{◌≡◌, ◌≤◌, ◌+◌, ◌-◌, length, drop}
use Rattle.sa_tokens.specs.Bytes.{until}
use Rattle.sa_tokens.specs.Comments.{ends_marker}
use Rattle.sa_tokens.proofs.comment.marker_len.Given as goal

abbrev pub invariant-loop-at : goal.invariant-loop-at
invariant-loop-at l = record {
  within : l.at ≤ length l.text;
  found : l.at + until ends_marker (drop l.at l.text) ≡ until ends_marker l.text;
}

abbrev pub decreases-loop-at : goal.decreases-loop-at
decreases-loop-at l = length l.initial.text - l.at
