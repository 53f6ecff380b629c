-- How deep calls go: the greatest number of calls on one path, which each call of a body continues by what its function calls.
-- This project's own choice.
use Rattle.std.specs.Prelude.{ℕ, zero, suc, ◌+◌, max, List, [], ◌∷◌, length, slice_get}
use Rattle.sa_typed.specs.Executions.{block_of}
use Rattle.sa_typed.specs.TypedPrograms.{Site, calls_in}
use Rattle.sa_typed.specs.declared.program.Program.{Program}

-- of these calls, given what the bodies of functions bring
unfoldable pub deepest : (ℕ → ℕ) → List Site → ℕ
deepest bodies [] = 0
deepest bodies (s ∷ sites) = max (1 + bodies s.func) (deepest bodies sites)

-- of bodies, by the function's number, where calls inside calls go so deep
unfoldable pub body_calls : Program → ℕ → ℕ → ℕ
body_calls p zero f = 0
body_calls p (suc depth) f = deepest (body_calls p depth) (calls_in (block_of (slice_get p.funcs f)))

-- of the program, over the calls that main leads to; no function calls itself, so the number of functions is deep enough
unfoldable pub program_calls : Program → ℕ
program_calls p = body_calls p (length p.funcs) p.entry
