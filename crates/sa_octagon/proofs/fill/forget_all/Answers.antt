use Rattle.std.proofs.Common.{◌∙◌, ◌^◌, sym, subst}
use Rattle.sa_dbm.specs.Tables.{IsMatrix}
use Rattle.sa_dbm.proofs.TableLaws.{matrix-forgotten}
use Rattle.sa_octagon.proofs.Filling.{forgotten_empty}
use Rattle.sa_octagon.proofs.fill.forget_all.Goals as goal

pub loop-k-preserved : goal.loop-k-preserved
loop-k-preserved c =
    let m = c.loop-k.matrix in
    let k = c.loop-k.k in
    record {
      vars = c.forget.ensures.vars ∙ c.loop-k.invariant.vars;
      matrix = subst IsMatrix (sym c.forget.ensures.value) (matrix-forgotten m k c.loop-k.invariant.matrix);
      within = c.forget.ensures.within (2 ^ 100) c.loop-k.invariant.within;
      empty = forgotten_empty m _ k c.forget.ensures.value c.loop-k.invariant.empty;
    }
