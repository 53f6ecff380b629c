use Rattle.std.proofs.Common.{◌≡◌, ℕ, suc, List, [], ◌∷◌, length, refl, ap, sym, subst, ◌<◌, arith}
use Rattle.std.specs.List.{All, AllZip}
use Rattle.sa_typed.specs.Ranges.{Span, IsOfType}
use Rattle.sa_typed.specs.declared.program.Input.{Input}
use Rattle.test_ranges.proofs.tests.tell.Goals as goal

abbrev Suits : List Span → Input → Type 0
Suits spans input = All (IsOfType input.num) spans

as_many : (xs : List (List Span)) (ys : List Input) → AllZip Suits xs ys → length xs ≡ length ys
as_many [] [] h = refl
as_many [] (y ∷ ys) h = absurd h
as_many (x ∷ xs) [] h = absurd h
as_many (x ∷ xs) (y ∷ ys) h = ap suc (as_many xs ys h.1)

pub between-lo-requires-clause-input : goal.between-lo-requires-clause-input
between-lo-requires-clause-input c = let same = as_many c.args.ranges.now.inputs c.args.program.now.inputs c.requires in omega (arith, same)
