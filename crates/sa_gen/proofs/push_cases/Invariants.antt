use Rattle.std.proofs.Common.{◌≡◌, ◌++◌, ◌-◌}
use Rattle.sa_gen.specs.Source.{lines_from, case_line}
use Rattle.sa_gen.proofs.push_cases.Given as goal

abbrev pub invariant-loop-i : goal.invariant-loop-i
invariant-loop-i l = l.text.items ++ lines_from case_line (l.n - l.i) l.i ≡ l.initial.text.items ++ lines_from case_line l.n 0
