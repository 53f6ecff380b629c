-- Operators on spans that may be missing: they stay in their types, and cover what the operators give.
use Rattle.std.proofs.Common.{◌≡◌, ℤ, ◌≤ℤ◌, Bool, true, false, ◌&&◌, not, List, [], ◌∷◌, ◌++◌, refl, arith, Option, Some, None, inl, inr, ◌||◌}
use Rattle.std.specs.Prelude.{IsTrue, Result, Ok, Err, IsSomeAnd, IfSome, option_map}
use Rattle.std.specs.Int.{int_max, int_min}
use Rattle.std.specs.Int.RustNames.{int_le}
use Rattle.std.proofs.lemmas.Int.{ints, clamps}
use Rattle.sa_base.specs.Numbers.{num_lo, num_hi}
use Rattle.sa_base.specs.declared.num.Num.{Num}
use Rattle.sa_base.specs.declared.pos.Pos.{Pos}
use Rattle.sa_base.specs.declared.alarm.Alarm.{Alarm}
use Rattle.sa_base.specs.declared.alarm.Kind.{Kind}
use Rattle.sa_interval.specs.Span.{Span, Within}
use Rattle.sa_interval.specs.Rows.{meet_of, join_of, join_some}
use Rattle.sa_typed.specs.Arithmetic.{is_signed, as_num, operate, prefixed, converted, result_type, prefix_type}
use Rattle.sa_typed.specs.Evaluation.{End, Error, Clock, Blocked, Tape, Going, Value, Gives, Stops, given}
use Rattle.sa_typed.specs.WellTyped.{converts, right_converts, IsLink}
use Rattle.sa_typed.specs.declared.expr.Operator.{Operator}
use Rattle.sa_typed.specs.declared.expr.Operator.TheVariants as o
use Rattle.sa_typed.specs.declared.expr.Prefix.{Prefix}
use Rattle.sa_operators.specs.Alarms.{IsAmong}
use Rattle.sa_operators.specs.Operators.{IsIn, as_span, converted_span, conversion_alarms, operator_span, operator_alarms, prefix_span, prefix_alarms}
use Rattle.sa_operators.specs.OperatorLaws.{Suits, SuitsRight, Covers}
use Rattle.sa_operators.proofs.FitLaws.{types_are_small, conversions_cover, conversions_stay, operands_cover, operands_stay}
use Rattle.sa_operators.proofs.OperatorCovers.{operators_cover, prefixes_cover}
use Rattle.sa_operators.proofs.OperatorStays.{own_type_suits, unsigned_suits, operators_stay, prefixes_stay}
use Rattle.sa_flat.specs.Meanings.{in_alive, with_both, linked}
use Rattle.sa_flat.specs.Passes.{alive_then}
use Rattle.sa_flat.proofs.Lawful.{IfAlive, AliveAnd}

abbrev pub InSpan : Option Span → ℤ → Type 0
InSpan o z = AliveAnd (λ s. Within s z) o

abbrev pub InType : Num → Option Span → Type 0
InType num o = IfAlive (λ s. IsIn num s) o

-- a first error is among the alarms
abbrev pub IsCovered : List Alarm → End → Type 0
IsCovered alarms (Error place kind) = IsAmong (record { pos = place; kind = kind }) alarms
IsCovered alarms Clock = Unit {0}
IsCovered alarms Blocked = Unit {0}
IsCovered alarms Tape = Unit {0}
IsCovered alarms Going = Unit {0}

pub covered_more : (some all : List Alarm) (e : End) → ((a : Alarm) → IsAmong a some → IsAmong a all) → IsCovered some e → IsCovered all e
covered_more some all (Error p k) h c = h (record { pos = p; kind = k }) c
covered_more some all Clock h c = tt
covered_more some all Blocked h c = tt
covered_more some all Tape h c = tt
covered_more some all Going h c = tt

pub among_left : {A : Type 0} (a : A) (xs ys : List A) → IsAmong a xs → IsAmong a (xs ++ ys)
among_left a [] ys h = absurd h
among_left a (x ∷ xs) ys (inl e) = inl e
among_left a (x ∷ xs) ys (inr m) = inr (among_left a xs ys m)

pub among_right : {A : Type 0} (a : A) (xs ys : List A) → IsAmong a ys → IsAmong a (xs ++ ys)
among_right a [] ys h = h
among_right a (x ∷ xs) ys h = inr (among_right a xs ys h)

pub covered_left : (xs ys : List Alarm) (e : End) → IsCovered xs e → IsCovered (xs ++ ys) e
covered_left xs ys e h = covered_more xs (xs ++ ys) e (λ a m. among_left a xs ys m) h

pub covered_right : (xs ys : List Alarm) (e : End) → IsCovered ys e → IsCovered (xs ++ ys) e
covered_right xs ys e h = covered_more ys (xs ++ ys) e (λ a m. among_right a xs ys m) h

-- ---- spans
pub le_fact : (x y : ℤ) → int_le x y ≡ true → x ≤ℤ y
le_fact x y h = grind (arith, ints)

pub le_test : (x y : ℤ) → x ≤ℤ y → int_le x y ≡ true
le_test x y h = grind (arith, ints)

pub and_left : (a b : Bool) → (a && b) ≡ true → a ≡ true
and_left true b h = refl
and_left false b h = h

pub and_right : (a b : Bool) → (a && b) ≡ true → b ≡ true
and_right true b h = h
and_right false b h = cc

pub meet_some : (a b : Span) (z : ℤ) → Within a z → Within b z → InSpan (meet_of a b) z
meet_some a b z p q =
    let al = p.above in
    let ah = p.below in
    let bl = q.above in
    let bh = q.below in
    let between : int_max a.lo b.lo ≤ℤ int_min a.hi b.hi = omega (arith, ints, clamps) in
    rw (le_test _ _ between) (record { above = omega (arith, ints, clamps); below = omega (arith, ints, clamps) })

pub join_left : (a b : Span) (z : ℤ) → Within a z → Within (join_of a b) z
join_left a b z p = let x = p.above in let y = p.below in record { above = omega (arith, ints, clamps); below = omega (arith, ints, clamps) }

pub join_right : (a b : Span) (z : ℤ) → Within b z → Within (join_of a b) z
join_right a b z p = let x = p.above in let y = p.below in record { above = omega (arith, ints, clamps); below = omega (arith, ints, clamps) }

pub join_in : (num : Num) (a b : Span) → IsIn num a → IsIn num b → IsIn num (join_of a b)
join_in num a b h k =
    let al = h.part.above in
    let ah = h.part.below in
    let bl = k.part.above in
    let bh = k.part.below in
    let o = h.ordered in
    record { ordered = omega (arith, ints, clamps); part = record { above = omega (arith, ints, clamps); below = omega (arith, ints, clamps) } }

pub some_left : (a b : Option Span) (z : ℤ) → InSpan a z → InSpan (join_some a b) z
some_left None b z h = absurd h
some_left (Some a) None z h = h
some_left (Some a) (Some b) z h = join_left a b z h

pub some_right : (a b : Option Span) (z : ℤ) → InSpan b z → InSpan (join_some a b) z
some_right None b z h = h
some_right (Some a) None z h = absurd h
some_right (Some a) (Some b) z h = join_right a b z h

pub some_join_in : (num : Num) (a b : Option Span) → InType num a → InType num b → InType num (join_some a b)
some_join_in num None b h k = k
some_join_in num (Some a) None h k = h
some_join_in num (Some a) (Some b) h k = join_in num a b h k

some_is : (o : Option Span) (z : ℤ) → IsSomeAnd o (λ s. Within s z) → InSpan o z
some_is None z h = h
some_is (Some s) z h = h

some_in : (num : Num) (o : Option Span) → IfSome o (λ s. IsIn num s) → InType num o
some_in num None h = tt
some_in num (Some s) h = h

-- ---- operands
or_cases : (a b : Bool) → (a || b) ≡ true → (a ≡ false → b ≡ true)
or_cases true b h e = cc
or_cases false b h e = h

signed_holds : (from to : Num) → IsTrue (converts from to) → is_signed to ≡ true → (num_lo to ≤ℤ num_lo from) × (num_hi from ≤ℤ num_hi to)
unfolding converts
signed_holds from to h s =
    let e : not (is_signed to) ≡ false = rw s refl in
    let k = or_cases (not (is_signed to)) _ h e in
    (le_fact _ _ (and_left (int_le (num_lo to) (num_lo from)) _ k), le_fact _ _ (and_right (int_le (num_lo to) (num_lo from)) _ k))

in_wider : (from to : Num) (s : Span) → num_lo to ≤ℤ num_lo from → num_hi from ≤ℤ num_hi to → IsIn from s → IsIn to s
in_wider from to s a b h =
    let x = h.part.above in
    let y = h.part.below in
    record { ordered = h.ordered; part = record { above = omega (arith, ints); below = omega (arith, ints) } }

pub suits : (from to : Num) (s : Span) → IsTrue (converts from to) → IsIn from s → Suits to s
suits from to s h k =
    elim (is_signed to) as (λ b. is_signed to ≡ b → Suits to s) [
      | true ↦ λ e. let w = signed_holds from to h e in own_type_suits to s (in_wider from to s w.0 w.1 k)
      | false ↦ λ e. unsigned_suits to s e (types_are_small from s k)
    ] refl

suits_right : (op : Operator) (from to : Num) (s : Span) → IsTrue (right_converts op from to) → IsIn from s → SuitsRight op to s
suits_right o.Plus from to s h k = suits from to s h k
suits_right o.Minus from to s h k = suits from to s h k
suits_right o.Times from to s h k = suits from to s h k
suits_right o.Divide from to s h k = suits from to s h k
suits_right o.Remainder from to s h k = suits from to s h k
suits_right o.ShiftLeft from to s h k = types_are_small from s k
suits_right o.ShiftRight from to s h k = types_are_small from s k
suits_right o.BitAnd from to s h k = suits from to s h k
suits_right o.BitXor from to s h k = suits from to s h k
suits_right o.BitOr from to s h k = suits from to s h k
suits_right o.Equal from to s h k = suits from to s h k
suits_right o.NotEqual from to s h k = suits from to s h k
suits_right o.Less from to s h k = suits from to s h k
suits_right o.LessEqual from to s h k = suits from to s h k
suits_right o.Greater from to s h k = suits from to s h k
suits_right o.GreaterEqual from to s h k = suits from to s h k

-- ---- operators whose operands may be missing
pub link_in : (op : Operator) (left work right : Num) (a b : Option Span) → IsLink op left work right → InType left a → InType right b → InType (result_type op work) (linked op work a b)
link_in op left work right None b l h k = tt
link_in op left work right (Some a) None l h k = tt
link_in op left work right (Some a) (Some b) l h k =
    some_in (result_type op work) (operator_span op work a b) (operators_stay op work a b (suits left work a l.first h) (suits_right op right work b l.second k))

-- the number lies in its span, or the error is an alarm
abbrev pub Given : Option Span → List Alarm → Value ℤ → Type 0
Given o alarms (Gives z tape) = InSpan o z
Given o alarms (Stops e) = IsCovered alarms e

given_is : (q : Pos) (o : Option Span) (alarms : List Alarm) (r : Result ℤ Kind) (tape : List ℤ) → Covers q o alarms r → Given o alarms (given q r tape)
given_is q o alarms (Ok z) tape h = some_is o z h
given_is q o alarms (Err kind) tape h = h

pub link_given : (op : Operator) (q : Pos) (left work right : Num) (a b : Option Span) (x y : ℤ) (tape : List ℤ) → IsLink op left work right → InType left a → InType right b →
    InSpan a x → InSpan b y → Given (linked op work a b) (with_both a b (operator_alarms op q work)) (given q (operate op work x y) tape)
link_given op q left work right None b x y tape l h k i j = absurd i
link_given op q left work right (Some a) None x y tape l h k i j = absurd j
link_given op q left work right (Some a) (Some b) x y tape l h k i j =
    given_is q (operator_span op work a b) (operator_alarms op q work a b) (operate op work x y) tape (operators_cover op q work a b x y (suits left work a l.first h) (suits_right op right work b l.second k) i j)

pub prefix_in : (op : Prefix) (from num : Num) (a : Option Span) → IsTrue (converts from num) → InType from a → InType (prefix_type op num) (alive_then a (prefix_span op num))
prefix_in op from num None c h = tt
prefix_in op from num (Some a) c h = some_in (prefix_type op num) (prefix_span op num a) (prefixes_stay op num a (suits from num a c h))

pub prefix_given : (op : Prefix) (q : Pos) (from num : Num) (a : Option Span) (x : ℤ) (tape : List ℤ) → IsTrue (converts from num) → InType from a → InSpan a x →
    Given (alive_then a (prefix_span op num)) (in_alive a (prefix_alarms op q num)) (given q (prefixed op num x) tape)
prefix_given op q from num None x tape c h i = absurd i
prefix_given op q from num (Some a) x tape c h i = given_is q (prefix_span op num a) (prefix_alarms op q num a) (prefixed op num x) tape (prefixes_cover op q num a x (suits from num a c h) i)

pub convert_in : (from num : Num) (a : Option Span) → InType from a → InType num (alive_then a (converted_span num))
convert_in from num None h = tt
convert_in from num (Some a) h = some_in num (converted_span num a) (conversions_stay num a (types_are_small from a h))

pub convert_given : (q : Pos) (from num : Num) (a : Option Span) (x : ℤ) (tape : List ℤ) → InType from a → InSpan a x →
    Given (alive_then a (converted_span num)) (in_alive a (conversion_alarms num q)) (given q (converted num x) tape)
convert_given q from num None x tape h i = absurd i
convert_given q from num (Some a) x tape h i = given_is q (converted_span num a) (conversion_alarms num q a) (converted num x) tape (conversions_cover num q a x (types_are_small from a h) i)

-- an operand in the type of its operator
pub operand_in : (from num : Num) (a : Option Span) → IsTrue (converts from num) → InType from a → InType num (option_map (as_span num) a)
operand_in from num None c h = tt
operand_in from num (Some a) c h = operands_stay num a (suits from num a c h)

pub operand_shows : (from num : Num) (a : Option Span) (z : ℤ) → InType from a → InSpan a z → InSpan (option_map (as_span num) a) (as_num num z)
operand_shows from num None z h i = absurd i
operand_shows from num (Some a) z h i = operands_cover num a z (types_are_small from a h) i
