use Rattle.std.proofs.Common.{◌<◌, ◌&&◌, not, IsTrue, length, get_or, refl, sym, arith, ◌∙◌}
use Rattle.std.proofs.lemmas.List.{length-replicate, at_drop_all}
use Rattle.sa_core.specs.declared.event.Branch.TheVariants.{Free}
use Rattle.sa_core.specs.declared.event.Event.TheVariants.{Claim}
use Rattle.sa_core.specs.Machine.{meets, after, replayed, takes_a_part}
use Rattle.sa_core.proofs.Keeping.{accepted, length-after, replayed-more, replayed-gathers, replayed-stands}
use Rattle.sa_core.proofs.Gathering.{whole-gathered}
use Rattle.sa_core.specs.Gathered.{is_taken_in}
use Rattle.sa_core.proofs.machine.replay.Goals as goal

pub loop-event-init : goal.loop-event-init
loop-event-init g c = record {
  core = c.in_ok-core.ensures.same_work;
  count = rw c.in_ok-core.ensures.value (length-replicate c.args.branches Free);
  rest = rw c.in_ok-core.ensures.value refl;
}

pub loop-event-preserved : goal.loop-event-preserved
loop-event-preserved g c =
    let w = c.args.work.now in
    let m = g.W.Work.parts w in
    let s = c.loop-event.core in
    let events = c.args.events.now in
    let i = c.loop-event.event-index in
    let e = get_or events i (Claim 0) in
    let h = accepted (meets e s.branches) (IsTrue (takes_a_part e && not (g.W.Work.sure w))) s (after m e s) c.step.new.self c.in_ok-step.field-0 c.in_ok-step.ensures.table in
    let within : i < length events = omega arith in
    record {
      core = c.in_ok-step.ensures.same_work;
      count = rw h.1 (length-after (g.met.W.Work.laws w) e s ∙ c.loop-event.invariant.count);
      rest = rw h.1 (replayed-more m events i (Claim 0) s within h.0 ∙ c.loop-event.invariant.rest);
    }

pub returns-clause-exact : goal.returns-clause-exact
returns-clause-exact g c =
    let m = g.W.Work.parts c.args.work.now in
    sym c.loop-event.invariant.rest ∙ at_drop_all (λ es. replayed m es c.loop-event.core) c.args.events.now c.loop-event.event-index (omega arith)

pub returns-clause-stands : goal.returns-clause-stands
returns-clause-stands g c = replayed-stands (g.met.W.Work.laws c.args.work.now) c.args.branches c.args.events.now c.loop-event.core (returns-clause-exact g c)

pub returns-clause-merged : goal.returns-clause-merged
returns-clause-merged g c = replayed-gathers (g.met.W.Work.laws c.args.work.now) c.args.branches c.args.events.now c.loop-event.core (returns-clause-exact g c)

pub returns-clause-whole : goal.returns-clause-whole
returns-clause-whole g c = λ all.
    returns-clause-merged g c ∙ whole-gathered (g.W.Work.parts c.args.work.now) c.args.branches (is_taken_in c.args.events.now) all
