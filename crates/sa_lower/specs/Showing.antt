-- No promise of the top calls rests on this page: it is for inner functions. Whether a loop shows a cell, by the places of
-- declarations of the globals' cells.
use Rattle.std.specs.Prelude.{ℕ, ◌+◌, List, [], ◌∷◌, Bool, if◌then◌else◌, ◌&&◌, ◌||◌, nat_le, nat_lt, slice_get}
use Rattle.sa_base.specs.declared.pos.Pos.{Pos}
use Rattle.sa_ir.specs.declared.frame.Span.{Span}
use Rattle.sa_ir.specs.Shown.{place_before, is_within}

unfoldable pub in_span : Span → ℕ → Bool
in_span s c = nat_le s.first c && nat_lt c (s.first + s.cells)

unfoldable pub is_shown : List Pos → List Span → Pos → ℕ → Bool
is_shown places scope q c = place_before q (slice_get places c) || is_within scope c

abbrev pub some_if : Bool → ℕ → List ℕ
some_if t c = if t then c ∷ [] else []
