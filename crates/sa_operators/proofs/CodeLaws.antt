-- What the calls of intervals need.
use Rattle.std.proofs.Common.{◌≡◌, ℕ, ◌^◌, ◌-◌, ℤ, pos, negsuc, ◌≤ℤ◌, Bool, true, false, List, [], ◌∷◌, ◌++◌, append_assoc, append-nil, arith, refl, sym}
use Rattle.sa_base.specs.declared.alarm.Alarm.{Alarm}
use Rattle.sa_operators.specs.Alarms.{noted}
use Rattle.std.proofs.lemmas.Int.{ints}
use Rattle.sa_base.specs.Numbers.{num_lo, num_hi}
use Rattle.sa_base.specs.declared.num.Num.{Num}
use Rattle.sa_base.specs.declared.num.Num.TheVariants.{I8, U8, I16, U16, I32, U32, I64, U64}
use Rattle.sa_interval.specs.Span.{low_limit, high_limit}
use Rattle.sa_interval.specs.Types.{is_width}
use Rattle.sa_typed.specs.Arithmetic.{bits}
use Rattle.sa_typed.proofs.ArithmeticLaws.{num_facts}

pub range_interval : (num : Num) → (num_lo num ≤ℤ num_hi num) × (low_limit ≤ℤ num_lo num) × (num_hi num ≤ℤ high_limit)
range_interval num =
    let facts = num_facts num in
    (omega (arith, ints, facts.not_above, facts.not_below), omega (arith, ints, facts.least), omega (arith, ints, facts.greatest))

pub width_is : (num : Num) → is_width (bits num) ≡ true
width_is I8 = refl
width_is U8 = refl
width_is I16 = refl
width_is U16 = refl
width_is I32 = refl
width_is U32 = refl
width_is I64 = refl
width_is U64 = refl

-- what is noted of alarms one after the other
pub noted_append : (checking : Bool) (xs ys zs : List Alarm) → (xs ++ noted checking ys) ++ noted checking zs ≡ xs ++ noted checking (ys ++ zs)
unfolding noted
noted_append true xs ys zs = append_assoc xs ys zs
noted_append false xs ys zs = append_assoc xs [] []

pub noted_nothing : (checking : Bool) (xs : List Alarm) → xs ≡ xs ++ noted checking []
unfolding noted
noted_nothing true xs = sym (append-nil xs)
noted_nothing false xs = sym (append-nil xs)
