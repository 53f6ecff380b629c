use Rattle.std.proofs.Common.{◌≡◌, ◌++◌, ◌-◌}
use Rattle.sa_gen.specs.Source.{lines_from, declaration}
use Rattle.sa_gen.proofs.push_declarations.Given as goal

abbrev pub invariant-loop-i : goal.invariant-loop-i
invariant-loop-i l = l.text.items ++ lines_from declaration (l.n - l.i) l.i ≡ l.initial.text.items ++ lines_from declaration l.n 0
