use Rattle.std.proofs.Common.{◌+◌, ◌-◌, vec_len}
use Rattle.std.specs.Io.KnownBytes.{Consumes}
use Rattle.sa_program.proofs.real.read_to_limit.Given as goal

-- what was read so far
abbrev pub invariant-loop-buf : goal.invariant-loop-buf
invariant-loop-buf g l = Consumes (g.F.Read.remaining l.initial.file) (g.F.Read.remaining l.file) l.buf.items

-- each turn reads a byte at least, up to one past the limit
abbrev pub decreases-loop-buf : goal.decreases-loop-buf
decreases-loop-buf g l = l.limit + 1 - vec_len l.buf
