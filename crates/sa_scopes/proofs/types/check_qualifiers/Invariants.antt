use Rattle.std.proofs.Common.{◌≡◌, drop}
use Rattle.sa_scopes.specs.Typing.{each}
use Rattle.sa_scopes.specs.Types.{qualifier}
use Rattle.sa_scopes.proofs.types.check_qualifiers.Given as goal

abbrev pub invariant-loop-word : goal.invariant-loop-word
invariant-loop-word l = each (qualifier l.volatile l.fixed) l.words tt l.fn.typer ≡ each (qualifier l.volatile l.fixed) (drop l.word-index l.words) tt l.typer
