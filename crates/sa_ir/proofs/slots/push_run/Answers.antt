use Rattle.std.proofs.Common.{◌≡◌, ◌∙◌, ◌+◌, ◌-◌, ◌∷◌, [], ◌++◌, ap, sym, List, ℕ, suc, append_assoc, append-nil, arith}
use Rattle.sa_ir.specs.Slots.{run, stops}
use Rattle.sa_ir.proofs.RunLemmas.{run-stopped, run-next}
use Rattle.sa_ir.proofs.slots.push_run.Goals as goal

pub returns-then-at-len-clause-stops : goal.returns-then-at-len-clause-stops
returns-then-at-len-clause-stops c =
    let t = c.loop-test.true in
    let s = run-stopped c.args.len c.args.width (c.args.n - c.loop.counter) c.loop.at (omega (arith, t)) c.if-at-len.true in
    sym s.1 ∙ c.loop.invariant.stops

pub returns-then-at-len-clause-run : goal.returns-then-at-len-clause-run
returns-then-at-len-clause-run c =
    let t = c.loop-test.true in
    let s = run-stopped c.args.len c.args.width (c.args.n - c.loop.counter) c.loop.at (omega (arith, t)) c.if-at-len.true in
    sym (append-nil c.loop.all.items) ∙ ap (λ (l : List ℕ). c.loop.all.items ++ l) (sym s.0) ∙ c.loop.invariant.run

pub loop-preserved : goal.loop-preserved
loop-preserved c =
    let f = c.ranges.len in
    let t = c.loop-test.true in
    let rest = c.args.n - (c.loop.counter + 1) in
    let left : c.args.n - c.loop.counter ≡ suc rest = omega (arith, t) in
    let s = run-next c.args.len c.args.width rest c.loop.at (omega (arith, f)) c.if-at-len.false in
    record {
      run =
          ap (λ (l : List ℕ). l ++ run c.args.len c.args.width rest c.saturating_add-at.result) c.in_ok-push.ensures.items
          ∙ append_assoc c.loop.all.items (c.loop.at ∷ []) (run c.args.len c.args.width rest c.saturating_add-at.result)
          ∙ ap (λ (k : ℕ). c.loop.all.items ++ c.loop.at ∷ run c.args.len c.args.width rest k) c.saturating_add-at.ensures
          ∙ ap (λ (l : List ℕ). c.loop.all.items ++ l) (sym s.0) ∙ ap (λ (k : ℕ). c.loop.all.items ++ run c.args.len c.args.width k c.loop.at) (sym left) ∙ c.loop.invariant.run;
      stops =
          ap (λ (k : ℕ). stops c.args.len c.args.width rest k) c.saturating_add-at.ensures ∙ sym s.1
          ∙ ap (λ (k : ℕ). stops c.args.len c.args.width k c.loop.at) (sym left) ∙ c.loop.invariant.stops;
    }

pub returns-clause-stops : goal.returns-clause-stops
unfolding stops
returns-clause-stops c =
    let none : c.args.n - c.loop.counter ≡ 0 = omega arith in
    ap (λ (k : ℕ). stops c.args.len c.args.width k c.loop.at) (sym none) ∙ c.loop.invariant.stops

pub returns-clause-run : goal.returns-clause-run
unfolding run
returns-clause-run c =
    let none : c.args.n - c.loop.counter ≡ 0 = omega arith in
    sym (append-nil c.loop.all.items) ∙ ap (λ (k : ℕ). c.loop.all.items ++ run c.args.len c.args.width k c.loop.at) (sym none) ∙ c.loop.invariant.run
