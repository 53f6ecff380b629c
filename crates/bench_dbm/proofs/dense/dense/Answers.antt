use Rattle.std.proofs.Common.{rules, ◌∙◌, ◌^◌, sym, subst, ap}
use Rattle.sa_dbm.specs.Tables.{Table, IsWithin}
use Rattle.sa_dbm.proofs.Sizes.{within-top, within-tightened}
use Rattle.bench_dbm.proofs.dense.dense.Goals as goal
use Rattle.bench_dbm.proofs.dense.dense.Goals.{then-i-j, else-i-j}

pub loop-i-init : goal.loop-i-init
loop-i-init c =
    let e = c.in_ok-m.ensures in
    record { vars = e.vars; within = subst (IsWithin (2 ^ 100)) (sym e.value) (within-top (2 ^ 100) 8) }

pub loop-j-preserved : goal.loop-j-preserved
loop-j-preserved c =
    let was = c.loop-j.invariant in
    elim c.if-i-j.branch [
      | then-i-j w ↦
          (let e = w.m-is ∙ w.tighten.ensures.value in
          record {
            vars = ap (λ (t : Table). t.vars) w.m-is ∙ w.tighten.ensures.vars ∙ was.vars;
            within = subst (IsWithin (2 ^ 100)) (sym e) (within-tightened (2 ^ 100) c.loop-j.m c.loop-i.i c.loop-j.j _ was.within (search rules));
          })
      | else-i-j w ↦ record { vars = ap (λ (t : Table). t.vars) w.m-is ∙ was.vars; within = subst (IsWithin (2 ^ 100)) (sym w.m-is) was.within }
    ]
