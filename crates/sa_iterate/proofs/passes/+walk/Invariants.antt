use Rattle.std.proofs.Common.{◌≡◌, ◌-◌, drop, Some}
use Rattle.sa_reference.specs.Environments.{top_of, whole_clock}
use Rattle.sa_reference.specs.Passes.{passes_from}
use Rattle.sa_reference.specs.Sound.{widest}
use Rattle.sa_reference.specs.Steps.{both}
use Rattle.sa_iterate.specs.Analysis.{found_by}
use Rattle.sa_iterate.specs.Straight.{domain, IsFairIn, stmt_after, straight, straight_found, kept, facts_from}
use Rattle.sa_iterate.proofs.passes.+walk.Given as goal

abbrev pub invariant-walk-loop-stmt : goal.invariant-walk-loop-stmt
invariant-walk-loop-stmt l = record {
  env : straight l.program (drop l.stmt-index l.stmts) (Some l.env) ≡ straight l.program l.stmts (Some l.initial.env);
  found : both (found_by l.found) (kept l.checking (straight_found l.program (drop l.stmt-index l.stmts) (Some l.env)))
      ≡ both (found_by l.initial.found) (kept l.checking (straight_found l.program l.stmts (Some l.initial.env)));
  fair : IsFairIn l.program l.env;
}

abbrev pub invariant-clock_facts-loop-pass : goal.invariant-clock_facts-loop-pass
invariant-clock_facts-loop-pass l = record {
  value : passes_from (domain l.program) (stmt_after l.program l.body) (top_of l.program (whole_clock (widest l.program).max_clock)) l.entry (32 - l.pass) l.pass l.state
      ≡ facts_from l.program l.body l.entry;
  fair : IsFairIn l.program l.state;
}
