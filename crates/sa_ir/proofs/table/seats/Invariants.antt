use Rattle.sa_ir.specs.Tables.{AreSections}
use Rattle.sa_ir.proofs.TableLemmas.{Seated}
use Rattle.sa_ir.proofs.table.seats.Given as goal

abbrev pub invariant-loop-var : goal.invariant-loop-var
invariant-loop-var l = record {
  seats : Seated l.program l.var l.seats.items;
  sections : AreSections l.program l.var l.sections;
}
