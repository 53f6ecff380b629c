use Rattle.std.proofs.Common.{◌≡◌, drop}
use Rattle.sa_lower.specs.Rows.{rows_lead}
use Rattle.sa_lower.proofs.named.rows_lead.Given as goal

abbrev pub invariant-loop-row : goal.invariant-loop-row
invariant-loop-row l = rows_lead (drop l.row-index l.rows) l.cells.items ≡ rows_lead l.rows l.initial.cells.items
