use Rattle.std.proofs.Common.{◌≡◌, length, drop}
use Rattle.sa_core.specs.Machine.{replayed, opened}
use Rattle.sa_core.specs.Gathered.{IsCoreOf}
use Rattle.sa_core.proofs.machine.replay.Given as goal

abbrev pub invariant-loop-event : goal.invariant-loop-event
invariant-loop-event g l =
    let m = g.W.Work.parts l.work in
    record {
      core : IsCoreOf m l.core;
      count : length l.core.branches ≡ l.fn.branches;
      rest : replayed m (drop l.event-index l.events) l.core ≡ replayed m l.events (opened m l.fn.branches);
    }
