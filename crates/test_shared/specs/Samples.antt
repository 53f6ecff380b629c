-- No promise of the top calls rests on this page: it is for laws beside them, for proofs and for inner functions.
-- What the walks of the tests do.
use Rattle.std.specs.Prelude.{◌≡◌, ℕ, Bool, true, false, nat_lt, if◌then◌else◌, Option, None, Some, unwrap_or, max}
use Rattle.std.proofs.Common.{ap, arith}
use Rattle.std.proofs.lemmas.Bool.Decides.{nat_tests}
use Rattle.sa_shared.specs.Walks.{CombineLaws}

-- what is below a number becomes that number
abbrev pub raised : ℕ → ℕ → Option ℕ
raised least x = if nat_lt x least then Some least else None

-- what the second list has greater becomes a limit, as a widening does
abbrev pub widened : ℕ → ℕ → ℕ → Option ℕ
widened limit x y = if nat_lt x y then Some limit else None

pub widened_laws : (limit : ℕ) → CombineLaws (λ _ _. Unit {0}) (λ _ _ _. Unit {0}) (λ k. widened limit)
widened_laws limit = record {
  like = λ k x y z _ _ _. tt;
  same = λ k x _ _. let e : nat_lt x x ≡ false = grind (arith, nat_tests) in ap (λ b. unwrap_or (if b then Some limit else None) x) e;
}
