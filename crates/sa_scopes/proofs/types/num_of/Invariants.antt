use Rattle.std.proofs.Common.{◌≡◌, take, Some}
use Rattle.std.specs.List.{fold}
use Rattle.sa_scopes.specs.Types.{next_word, no_words}
use Rattle.sa_scopes.proofs.types.num_of.Given as goal

abbrev pub invariant-loop-word : goal.invariant-loop-word
invariant-loop-word l = l.found ≡ fold next_word (Some no_words) (take l.word-index l.words)
