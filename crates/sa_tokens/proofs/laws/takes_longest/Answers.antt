use Rattle.sa_tokens.proofs.LongestLaws.{each_is_longest, each_bad_byte_begins_none}
use Rattle.sa_tokens.proofs.laws.takes_longest.Goals as goal

pub returns : goal.returns
returns c = record { longest = each_is_longest; bad = each_bad_byte_begins_none }
