-- The value of digits, one digit on and at the end.
use Rattle.std.proofs.Common.{◌≡◌, ℕ, ◌+◌, ◌-◌, ◌*◌, ◌^◌, ◌≤◌, ◌<◌, List, [], ◌∷◌, length, drop, get_or, refl, ap, arith}
use Rattle.std.specs.Prelude.{fold, Some, None, false, nat_le, if◌then◌else◌}
use Rattle.std.proofs.lemmas.Bool.{lt-leb}
use Rattle.std.proofs.lemmas.List.{drop_more}
use Rattle.sa_tokens.specs.declared.number.Radix.{Radix}
use Rattle.sa_tokens.specs.declared.number.Radix.TheVariants.{Decimal, Octal, Hexadecimal}
use Rattle.sa_tokens.specs.Words.{base, digit_value}

-- the value so far, and more digits
abbrev pub digits_from : Radix → ℕ → List ℕ → ℕ
digits_from radix v w = fold (λ v d. v * base radix + digit_value d) v w

pub digits-more : (radix : Radix) (v : ℕ) (w : List ℕ) (i d : ℕ) → i < length w →
    digits_from radix v (drop i w) ≡ digits_from radix (v * base radix + digit_value (get_or w i d)) (drop (i + 1) w)
digits-more radix v w i d h = ap (digits_from radix v) (drop_more w i d h)

base-some : (radix : Radix) → 1 ≤ base radix
base-some Decimal = omega arith
base-some Octal = omega arith
base-some Hexadecimal = omega arith

le-mul : (v r : ℕ) → 1 ≤ r → v ≤ v * r
le-mul v r h = grind arith

pub digits-rise : (radix : Radix) (v : ℕ) (w : List ℕ) → v ≤ digits_from radix v w
digits-rise radix v [] = omega arith
digits-rise radix v (d ∷ w) = omega (arith, le-mul v (base radix) (base-some radix), digits-rise radix (v * base radix + digit_value d) w)

-- the digits so far are above the greatest number
pub too_large : (radix : Radix) (v n : ℕ) (w : List ℕ) → 2 ^ 64 - 1 < v → digits_from radix v w ≡ n → None ≡ (if nat_le n (2 ^ 64 - 1) then Some n else None)
too_large radix v n w h e =
    let above : 2 ^ 64 - 1 < n = omega (arith, digits-rise radix v w) in
    let no : nat_le n (2 ^ 64 - 1) ≡ false = lt-leb n (2 ^ 64 - 1) above in
    rw no refl
