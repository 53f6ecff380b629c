-- No promise of the top calls rests on this page: it is for laws beside them, for proofs and for inner functions.
-- Spans taken one after another: the range over ticks from one to another that they give so far.
use Rattle.std.specs.Prelude.{ℕ, List, [], ◌∷◌, nat_le, if◌then◌else◌}
use Rattle.sa_typed.specs.Evaluation.{Range}
use Rattle.sa_typed.specs.Ranges.{Span, range, joined}

-- a span that has begun by the first tick takes the place of what was there; one that begins later is joined to it
unfoldable pub with_span : (from to : ℕ) → Range → Span → Range
with_span from to r s =
    if nat_le s.0 from then range (s.1, s.2)
    else (if nat_le s.0 to then joined r (range (s.1, s.2)) else r)

unfoldable pub gathered : (from to : ℕ) → Range → List Span → Range
gathered from to r [] = r
gathered from to r (s ∷ rest) = gathered from to (with_span from to r s) rest
