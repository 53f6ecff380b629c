use Rattle.std.proofs.Common.{◌≡◌, Option, Some, None, Ok, Err, IsOk, MatchOption, refl}
use Rattle.sa_core.specs.declared.event.CoreError.{CoreError}
use Rattle.sa_core.specs.declared.event.Event.TheVariants.{File, Sweep}
use Rattle.sa_core.specs.Machine.{holder_meets, sweep_meets, branch_at}
use Rattle.sa_core.proofs.Keeping.{core-fits, after-keeps}
use Rattle.sa_core.proofs.machine.Core.step.Goals as goal

-- an answer Ok means that nothing is refused
nothing_met : {U : Type 0} (met : Option CoreError) (u : U) → MatchOption met (IsOk {E = CoreError} (Ok u)) (λ refused. Ok u ≡ Err refused) → met ≡ None
nothing_met None u h = refl
nothing_met (Some refused) u h = cc

pub take_in-requires-clause-fits : goal.take_in-requires-clause-fits
take_in-requires-clause-fits g c κs within =
    core-fits (g.met.W.Work.laws c.args.work.now) c.args.self.now c.requires.same_work

pub take_in-requires-in-Sweep-clause-fits : goal.take_in-requires-in-Sweep-clause-fits
take_in-requires-in-Sweep-clause-fits g c κs within =
    core-fits (g.met.W.Work.laws c.args.work.now) c.args.self.now c.requires.same_work

pub returns-in_ok-take_in-in-File-clause-same_work : goal.returns-in_ok-take_in-in-File-clause-same_work
returns-in_ok-take_in-in-File-clause-same_work g c =
    let s = c.args.self.now in
    let m = nothing_met (holder_meets c.in-File.worker c.in-File.branch (branch_at s.branches c.in-File.branch)) _ c.in_ok-held_by-in-File.ensures in
    rw c.in_ok-take_in-in-File.ensures.value (after-keeps (g.met.W.Work.laws c.args.work.now) (File c.in-File.worker c.in-File.branch) s m c.requires.same_work)

pub returns-in_ok-take_in-in-Sweep-clause-same_work : goal.returns-in_ok-take_in-in-Sweep-clause-same_work
returns-in_ok-take_in-in-Sweep-clause-same_work g c =
    let s = c.args.self.now in
    let m = nothing_met (sweep_meets c.in-Sweep.branch (branch_at s.branches c.in-Sweep.branch)) _ c.in_ok-given-in-Sweep.ensures in
    rw c.in_ok-take_in-in-Sweep.ensures.value (after-keeps (g.met.W.Work.laws c.args.work.now) (Sweep c.in-Sweep.branch) s m c.requires.same_work)
