use Rattle.std.proofs.Common.{◌≡◌, ℕ, ◌-◌, ◌+◌, length, get_or}
use Rattle.sa_ir.specs.Tables.{empty}
use Rattle.sa_ir.proofs.table.grow.Given as goal

abbrev pub invariant-loop-alloc : goal.invariant-loop-alloc
invariant-loop-alloc l = (g : ℕ) → get_or l.locals.items g empty ≡ get_or l.initial.locals.items g empty

abbrev pub decreases-loop-alloc : goal.decreases-loop-alloc
decreases-loop-alloc l = (l.f + 1) - length l.locals.items
