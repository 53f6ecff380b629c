use Rattle.std.proofs.Common.{rules, arith, ◌≡◌, ◌∙◌, ◌-◌, ◌+◌, ap, sym, refl, true, false, Bool, Some, None}
use Rattle.std.proofs.lemmas.Result.{on_ok_weaker}
use Rattle.sa_typed.specs.declared.stmt.Stmt.{Stmt, the_lemmas}
use Rattle.sa_reference.specs.declared.flat.Flat.{Flat}
use Rattle.sa_reference.specs.Assignments.{simple_alarms}
use Rattle.sa_reference.specs.Environments.{le_of, top_of, whole_clock}
use Rattle.sa_reference.specs.Fair.{alive_env}
use Rattle.sa_reference.specs.Passes.{passes_from, next}
use Rattle.sa_reference.specs.Sound.{widest}
use Rattle.sa_reference.specs.Steps.{Found, both}
use Rattle.sa_iterate.specs.Analysis.{found_by}
use Rattle.sa_iterate.specs.Straight.{domain, stmt_after, stmt_found, kept, facts_from, clock_found}
use Rattle.sa_iterate.proofs.FoundLemmas.{both-nothing, kept-all, kept-nothing, both-none, alarms-kept, record-added, loop-checked}
use Rattle.sa_iterate.proofs.PassLemmas.{passes-first, passes-stable, passes-more, passes-last}
use Rattle.sa_iterate.proofs.StraightLaws.{simple-after, simple-found, simple-typed, block-after, block-found, block-typed, wait-after, wait-found, clock-after, clock-found}
use Rattle.sa_iterate.proofs.TypedForms.{dismissed, clock_is, loop_typed}
use Rattle.sa_iterate.proofs.WalkLemmas.{straight-passed, found-passed, straight-dies, found-died, straight-end, found-end}
use Rattle.sa_iterate.proofs.passes.+walk.Goals as goal

-- ---- one statement
pub step-simple-requires-clause-stmt : goal.step-simple-requires-clause-stmt
step-simple-requires-clause-stmt t c = simple-typed c.args.program.now c.args.stmt.now c.in-Simple.stmt c.in-Simple.is c.requires.stmt

pub step-walk-requires : goal.step-walk-requires
step-walk-requires t c = search (rules, the_lemmas, block-typed)

pub step-check_loop-requires : goal.step-check_loop-requires
step-check_loop-requires t c = search (rules, the_lemmas, loop_typed)

pub step-returns-in-Simple-clause-env : goal.step-returns-in-Simple-clause-env
step-returns-in-Simple-clause-env t c = rw (c.in-Simple.is, simple-after) c.simple.ensures.env

pub step-returns-in-Simple-clause-found : goal.step-returns-in-Simple-clause-found
step-returns-in-Simple-clause-found t c =
    let p = c.args.program.now in
    let e = c.args.env.now in
    let f = found_by c.args.found.now in
    let here = simple_alarms p (widest p) c.in-Simple.stmt e in
    let same = ap (λ (s : Stmt). both f (kept c.args.checking (stmt_found p s e))) c.in-Simple.is ∙ ap (λ (g : Found Flat). both f (kept c.args.checking g)) (simple-found p c.in-Simple.stmt e) in
    on_ok_weaker c.simple.result (λ h. alarms-kept c.args.checking f here c.simple.new.alarms.items h ∙ sym same) c.simple.ensures.alarms

pub step-returns-in-Block-clause-env : goal.step-returns-in-Block-clause-env
step-returns-in-Block-clause-env t c = rw (c.in-Block.is, block-after, ← c.as_slice.ensures) c.walk.ensures.env

pub step-returns-in-Block-clause-found : goal.step-returns-in-Block-clause-found
step-returns-in-Block-clause-found t c = rw (c.in-Block.is, block-found, ← c.as_slice.ensures) c.walk.ensures.found

pub step-returns-in-Wait-clause-env : goal.step-returns-in-Wait-clause-env
step-returns-in-Wait-clause-env t c = rw (c.in-Wait.is, wait-after) c.tick.ensures.env

pub step-returns-in-Wait-clause-found : goal.step-returns-in-Wait-clause-found
step-returns-in-Wait-clause-found t c =
    let f = found_by c.args.found.now in
    sym (ap (λ (s : Stmt). both f (kept c.args.checking (stmt_found c.args.program.now s c.args.env.now))) c.in-Wait.is
    ∙ ap (λ (g : Found Flat). both f (kept c.args.checking g)) (wait-found c.args.program.now c.args.env.now) ∙ ap (both f) (kept-nothing c.args.checking) ∙ both-nothing f)

pub step-returns-in_ok-check_loop-in-Loop-clause-env : goal.step-returns-in_ok-check_loop-in-Loop-clause-env
step-returns-in_ok-check_loop-in-Loop-clause-env t c =
    let p = c.args.program.now in
    ap (λ (s : Stmt). stmt_after p s c.args.env.now) (clock_is p c.args.stmt.now c.in-Loop.place _ _ c.in-Loop.body _ c.in-Loop.is c.requires.stmt) ∙ clock-after p c.in-Loop.place c.in-Loop.body c.args.env.now

pub step-returns-in_ok-check_loop-in-Loop-clause-found : goal.step-returns-in_ok-check_loop-in-Loop-clause-found
step-returns-in_ok-check_loop-in-Loop-clause-found t c =
    let p = c.args.program.now in
    let e = c.args.env.now in
    let f = found_by c.args.found.now in
    let q = c.in-Loop.place in
    let is = clock_is p c.args.stmt.now q _ _ c.in-Loop.body _ c.in-Loop.is c.requires.stmt in
    let one : found_by c.check_loop.new.found ≡ both f (clock_found p q c.in-Loop.body e) = search rules in
    one ∙ ap (both f) (sym (kept-all c.args.checking (stmt_found p c.args.stmt.now e) c.if-checking.true ∙ ap (λ (s : Stmt). stmt_found p s e) is ∙ clock-found p q c.in-Loop.body e))

pub step-returns-in_default-clause-env : goal.step-returns-in_default-clause-env
step-returns-in_default-clause-env t c =
    let d = c.in_default in
    absurd (dismissed c.args.program.now c.args.stmt.now c.requires.stmt d.not-Simple d.not-Block d.not-Wait d.not-Loop)

pub step-returns-in_default-clause-found : goal.step-returns-in_default-clause-found
step-returns-in_default-clause-found t c =
    let d = c.in_default in
    absurd (dismissed c.args.program.now c.args.stmt.now c.requires.stmt d.not-Simple d.not-Block d.not-Wait d.not-Loop)

pub step-returns-else-checking-clause-env : goal.step-returns-else-checking-clause-env
step-returns-else-checking-clause-env t c =
    let p = c.args.program.now in
    ap (λ (s : Stmt). stmt_after p s c.args.env.now) (clock_is p c.args.stmt.now c.in-Loop.place _ _ c.in-Loop.body _ c.in-Loop.is c.requires.stmt) ∙ clock-after p c.in-Loop.place c.in-Loop.body c.args.env.now

pub step-returns-else-checking-clause-found : goal.step-returns-else-checking-clause-found
step-returns-else-checking-clause-found t c =
    both-none c.args.checking (found_by c.args.found.now) (stmt_found c.args.program.now c.args.stmt.now c.args.env.now) c.if-checking.false

-- ---- a row
pub walk-returns-then-not-branch-clause-env : goal.walk-returns-then-not-branch-clause-env
walk-returns-then-not-branch-clause-env t c =
    let p = c.args.program.now in
    let dead : stmt_after p c.stmt-item.result c.loop-stmt.env ≡ None = c.in_ok-step.ensures.env ∙ ap (λ (b : Bool). alive_env b c.step.new.env) c.if-not-branch.true in
    sym c.loop-stmt.invariant.env ∙ straight-dies p c.args.stmts.now c.loop-stmt.stmt-index c.loop-stmt.env c.stmt-item.result c.loop-stmt-test.true c.stmt-item.is dead

pub walk-returns-then-not-branch-clause-found : goal.walk-returns-then-not-branch-clause-found
walk-returns-then-not-branch-clause-found t c =
    let p = c.args.program.now in
    let dead : stmt_after p c.stmt-item.result c.loop-stmt.env ≡ None = c.in_ok-step.ensures.env ∙ ap (λ (b : Bool). alive_env b c.step.new.env) c.if-not-branch.true in
    found-died p c.args.stmts.now c.loop-stmt.stmt-index c.loop-stmt.env c.stmt-item.result c.loop-stmt-test.true c.stmt-item.is c.args.checking _ _ _ dead c.in_ok-step.ensures.found c.loop-stmt.invariant.found

pub walk-loop-stmt-preserved : goal.walk-loop-stmt-preserved
walk-loop-stmt-preserved t c =
    let p = c.args.program.now in
    let alive : stmt_after p c.stmt-item.result c.loop-stmt.env ≡ Some c.step.new.env = c.in_ok-step.ensures.env ∙ ap (λ (b : Bool). alive_env b c.step.new.env) c.if-not-branch.false in
    record {
      env = sym (straight-passed p c.args.stmts.now c.loop-stmt.stmt-index c.loop-stmt.env c.stmt-item.result c.loop-stmt-test.true c.stmt-item.is c.step.new.env alive) ∙ c.loop-stmt.invariant.env;
      found = found-passed p c.args.stmts.now c.loop-stmt.stmt-index c.loop-stmt.env c.stmt-item.result c.loop-stmt-test.true c.stmt-item.is c.args.checking c.step.new.env _ _ _ alive c.in_ok-step.ensures.found c.loop-stmt.invariant.found;
      fair = c.step.ensures.fair;
    }

pub walk-returns-clause-env : goal.walk-returns-clause-env
walk-returns-clause-env t c = sym c.loop-stmt.invariant.env ∙ straight-end c.args.program.now c.args.stmts.now c.loop-stmt.stmt-index (Some c.loop-stmt.env) c.loop-stmt-test.false

pub walk-returns-clause-found : goal.walk-returns-clause-found
walk-returns-clause-found t c =
    found-end c.args.program.now c.args.stmts.now c.loop-stmt.stmt-index (Some c.loop-stmt.env) c.args.checking _ _ c.loop-stmt-test.false c.loop-stmt.invariant.found

-- ---- the passes
pub clock_facts-loop-pass-init : goal.clock_facts-loop-pass-init
clock_facts-loop-pass-init t c =
    let p = c.args.program.now in
    let start : c.in_ok-state.state ≡ c.args.entry.now = search rules in
    record {
      value = ap (λ (e : Flat). passes_from (domain p) (stmt_after p c.args.body.now) (top_of p (whole_clock (widest p).max_clock)) c.args.entry.now 31 1 e) start ∙ passes-first p c.args.body.now c.args.entry.now;
      fair = rw start c.requires.entry;
    }

pub clock_facts-returns-then-le-clause-value : goal.clock_facts-returns-then-le-clause-value
clock_facts-returns-then-le-clause-value t c =
    let p = c.args.program.now in
    let n = c.loop-pass.pass in
    let below : le_of c.in_ok-joined.joined c.loop-pass.state ≡ true = search rules in
    passes-stable p (stmt_after p c.args.body.now) (top_of p (whole_clock (widest p).max_clock)) c.args.entry.now (facts_from p c.args.body.now c.args.entry.now) (31 - n) (32 - n) n c.loop-pass.state c.in_ok-joined.joined
    (omega arith) c.in_ok-joined.ensures.value below c.loop-pass.invariant.value

pub clock_facts-loop-pass-preserved : goal.clock_facts-loop-pass-preserved
clock_facts-loop-pass-preserved t c =
    let p = c.args.program.now in
    let n = c.loop-pass.pass in
    let below : le_of c.in_ok-joined.joined c.loop-pass.state ≡ false = search rules in
    let more : c.in_ok-state-2.state ≡ next (domain p) (top_of p (whole_clock (widest p).max_clock)) n c.loop-pass.state c.in_ok-joined.joined = search rules in
    let left : 32 - (n + 1) ≡ 31 - n = omega arith in
    record {
      value = rw (left, more) (passes-more p (stmt_after p c.args.body.now) (top_of p (whole_clock (widest p).max_clock)) c.args.entry.now (facts_from p c.args.body.now c.args.entry.now) (31 - n) (32 - n) n c.loop-pass.state c.in_ok-joined.joined
          (omega arith) c.in_ok-joined.ensures.value below c.loop-pass.invariant.value);
      fair = c.in_ok-state-2.ensures.fair;
    }

pub clock_facts-returns-clause-value : goal.clock_facts-returns-clause-value
clock_facts-returns-clause-value t c =
    let p = c.args.program.now in
    let at : c.loop-pass.pass ≡ 32 = omega arith in
    passes-last p (stmt_after p c.args.body.now) (top_of p (whole_clock (widest p).max_clock)) c.args.entry.now (facts_from p c.args.body.now c.args.entry.now) (32 - c.loop-pass.pass) c.loop-pass.pass c.loop-pass.state
    (omega arith) c.loop-pass.invariant.value ∙ rw at refl

-- ---- the loop in checking mode
pub check_loop-returns : goal.check_loop-returns
check_loop-returns t c =
    let f = c.in_ok-facts.facts in
    let old = c.args.found.now in
    let same : c.in_ok-env.env ≡ f.state = search rules in
    loop-checked c.args.program.now c.args.place c.args.body.now c.args.entry.now c.in_ok-env.env f (found_by old) _ _ c.in_ok-facts.ensures.value c.in_ok-facts.ensures.place same
    (record-added old.alarms.items old.loops.items _ f c.in_ok-push.ensures.items) c.in_ok-step.ensures.found
