-- What an expression means over a store, a tape of input numbers and a clock. No interval stands here.
-- Operands are evaluated from left to right, which ISO C leaves open (6.5p3) and this project fixes. An expression ends at
-- its first error, whose kind and place are those of the operation (6.5p5).
use Rattle.std.specs.Prelude.{ℕ, ℤ, pos, List, [], ◌∷◌, ◌++◌, Bool, ◌&&◌, if◌then◌else◌, get_or, unsigned_abs, Result, Ok, Err}
use Rattle.std.specs.Int.RustNames.{int_le, int_lt}
use Rattle.std.specs.Ordering.{int_eq}
use Rattle.sa_base.specs.declared.pos.Pos.{Pos}
use Rattle.sa_base.specs.declared.alarm.Kind.{Kind}
use Rattle.sa_base.specs.declared.alarm.Kind.TheVariants.{Index}
use Rattle.sa_base.specs.declared.num.Num.TheVariants.{I32}
use Rattle.sa_typed.specs.Arithmetic.{operate, prefixed, converted, as_num}
use Rattle.sa_typed.specs.declared.expr.Expr.{Expr, Number, Read', Input, Prefix', Cast', Chain', And', Or', Choice', end_of-Expr, more_of-Expr, Row_of-Expr, Row_of-Link, end_of-Link, more_of-Link, Row_of-Step, end_of-Step, more_of-Step}
use Rattle.sa_typed.specs.declared.expr.Expr.TheVariants as e
use Rattle.sa_typed.specs.declared.expr.Access.{Access}
use Rattle.sa_typed.specs.declared.expr.Step.{Step, At', Field}
use Rattle.sa_typed.specs.declared.shape.Part.{Part}
use Rattle.sa_typed.specs.declared.shape.Part.TheVariants as part
use Rattle.sa_typed.specs.declared.program.Place.{Place}

-- how an execution ends: at its first error, by the wait at the last clock, by a number of the tape that is outside its
-- range, at the tape's end, or not yet
pub data End : Type 0 where
  Error : (place : Pos) (kind : Kind) → End
  Clock : End
  Blocked : End
  Tape : End
  Going : End

-- a value with the rest of the tape, or an end
pub data Value (A : Type 0) : Type 0 where
  Gives : A → List ℤ → Value A
  Stops : End → Value A

abbrev pub then_value : {A B : Type 0} → Value A → (A → List ℤ → Value B) → Value B
then_value (Gives a tape) go = go a tape
then_value (Stops e) go = Stops e

-- the number of an operation at this place, or its error there
abbrev pub given : {A : Type 0} → Pos → Result A Kind → List ℤ → Value A
given p (Ok a) tape = Gives a tape
given p (Err kind) tape = Stops (Error p kind)

-- the number at each element; what isn't written yet is as it began
abbrev pub Store : Type 0
Store = Place → ℤ

-- the numbers from one to another
pub record Range : Type 0 where
  pub lo : ℤ
  pub hi : ℤ

-- what an execution stays within: the range of each input, and the last clock
pub record Setting : Type 0 where
  pub inputs : List Range
  pub max_clock : ℤ

-- where an expression is evaluated: the object that each variable names there, and the clock. A reference names what its
-- argument named, a local its object of this call, every other variable the one object that it has
pub record Here : Type 0 where
  pub base : ℕ → Place
  pub clock : ℤ

abbrev pub is_in : Range → ℤ → Bool
is_in r z = int_le r.lo z && int_le z r.hi

abbrev pub range_of : Setting → ℕ → Range
range_of w k = get_or w.inputs k (record { lo = pos 0; hi = pos 0 })

-- a read of an input takes the next number of the tape; one outside the input's range blocks the execution
abbrev pub read : Range → List ℤ → Value ℤ
read r [] = Stops Tape
read r (z ∷ tape) = if is_in r z then Gives z tape else Stops Blocked

-- a part of an object
abbrev pub within : Place → List Part → Place
within a parts = record { path = a.path; var = a.var; parts = a.parts ++ parts }

-- what steps from a variable lead to
abbrev pub place_of : Here → ℕ → List Part → Place
place_of here v parts = within (here.base v) parts

-- an index has to name an element (ISO C 6.5.6p8); its error stands at the bracket
abbrev pub checked_index : Pos → ℕ → ℤ → List ℤ → Value ℕ
checked_index p n i tape = if int_le (pos 0) i && int_lt i (pos n) then Gives (unsigned_abs i) tape else Stops (Error p Index)

-- whether a number counts as false (ISO C 6.5.13p3, 6.5.14p3, 6.5.15p4, 6.8.4.1p2)
abbrev pub is_zero : ℤ → Bool
is_zero z = int_eq z (pos 0)

-- the right part of an `&&` is evaluated only where the left one isn't 0 (ISO C 6.5.13p4)
abbrev pub and_then : Value ℤ → (List ℤ → Value ℤ) → Value ℤ
and_then v go = then_value v (λ x tape. if is_zero x then Gives (pos 0) tape else go tape)

-- the right part of an `||` is evaluated only where the left one is 0 (ISO C 6.5.14p4)
abbrev pub or_else : Value ℤ → (List ℤ → Value ℤ) → Value ℤ
or_else v go = then_value v (λ x tape. if is_zero x then go tape else Gives (pos 1) tape)

unfoldable mutual
  pub eval : Setting → Here → Store → Expr → List ℤ → Value ℤ
  eval w here st (Number n num) tape = Gives (pos n) tape
  eval w here st (Read' v n steps num) tape = then_value (steps_value w here st steps tape) (λ parts tape. Gives (st (place_of here v parts)) tape)
  eval w here st (Input k num) tape = read (range_of w k) tape
  eval w here st (Prefix' op p num n (more_of-Expr a end_of-Expr)) tape = then_value (eval w here st a tape) (λ x tape. given p (prefixed op num x) tape)
  eval w here st (Cast' p num n (more_of-Expr a end_of-Expr)) tape = then_value (eval w here st a tape) (λ x tape. given p (converted num x) tape)
  eval w here st (Chain' n (more_of-Expr a end_of-Expr) m ls) tape = links_value w here st ls (eval w here st a tape)
  eval w here st (And' n (more_of-Expr a end_of-Expr) m rest) tape = and_value w here st rest (eval w here st a tape)
  eval w here st (Or' n (more_of-Expr a end_of-Expr) m rest) tape = or_value w here st rest (eval w here st a tape)
  eval w here st (Choice' n (more_of-Expr a end_of-Expr) m (more_of-Expr b end_of-Expr) l (more_of-Expr c end_of-Expr) num) tape =
      then_value (eval w here st a tape) (λ x tape. then_value (if is_zero x then eval w here st c tape else eval w here st b tape) (λ y tape. Gives (as_num num y) tape))

  -- operands of `&&` after the value so far; the result is 1 where none is 0
  pub and_value : {n : _} → Setting → Here → Store → Row_of-Expr n → Value ℤ → Value ℤ
  and_value w here st end_of-Expr v = and_then v (λ tape. Gives (pos 1) tape)
  and_value w here st (more_of-Expr b rest) v = and_then v (λ tape. and_value w here st rest (eval w here st b tape))

  -- operands of `||` after the value so far; the result is 0 where all are
  pub or_value : {n : _} → Setting → Here → Store → Row_of-Expr n → Value ℤ → Value ℤ
  or_value w here st end_of-Expr v = or_else v (λ tape. Gives (pos 0) tape)
  or_value w here st (more_of-Expr b rest) v = or_else v (λ tape. or_value w here st rest (eval w here st b tape))

  -- operators from left to right, from the value so far
  pub links_value : {n : _} → Setting → Here → Store → Row_of-Link n → Value ℤ → Value ℤ
  links_value w here st end_of-Link v = v
  links_value w here st (more_of-Link op p num b rest) v =
      links_value w here st rest (then_value v (λ x tape. then_value (eval w here st b tape) (λ y tape. given p (operate op num x y) tape)))

  -- steps into an object, each index checked right after it is evaluated
  pub steps_value : {n : _} → Setting → Here → Store → Row_of-Step n → List ℤ → Value (List Part)
  steps_value w here st end_of-Step tape = Gives [] tape
  steps_value w here st (more_of-Step s rest) tape =
      then_value (step_value w here st s tape) (λ s tape. then_value (steps_value w here st rest tape) (λ parts tape. Gives (s ∷ parts) tape))

  pub step_value : Setting → Here → Store → Step → List ℤ → Value Part
  step_value w here st (At' p n m (more_of-Expr a end_of-Expr)) tape =
      then_value (eval w here st a tape) (λ i tape. then_value (checked_index p n i tape) (λ i tape. Gives (part.At i) tape))
  step_value w here st (Field f) tape = Gives (part.Field f) tape

-- the element that an access leads to, or what the access leads to where it stops before an element
unfoldable pub read_place : Setting → Here → Store → Expr → List ℤ → Value Place
read_place w here st (Read' v n steps num) tape = then_value (steps_value w here st steps tape) (λ parts tape. Gives (place_of here v parts) tape)
read_place w here st _ tape = Gives (place_of here 0 []) tape

abbrev pub access_place : Setting → Here → Store → Access → List ℤ → Value Place
access_place w here st x tape = read_place w here st (e.Read x I32) tape
