-- Constant expressions: literals with operators and casts between them. They have one value in every execution, or err in
-- every execution (ISO C 6.6; that nothing else counts as one is this project's own choice).
use Rattle.std.specs.Prelude.{ℕ, ℤ, pos, Bool, true, false, ◌&&◌, if◌then◌else◌, unsigned_abs, Option, Some, None, Result, Ok, Err}
use Rattle.std.specs.Int.RustNames.{int_le, int_lt}
use Rattle.sa_base.specs.declared.alarm.Kind.{Kind}
use Rattle.sa_base.specs.declared.num.Num.{Num}
use Rattle.sa_typed.specs.Evaluation.{is_zero}
use Rattle.sa_typed.specs.Arithmetic.{operate, prefixed, converted, as_num}
use Rattle.sa_typed.specs.declared.expr.Expr.{Expr, Number, Read', Input, Prefix', Cast', Chain', And', Or', Choice', end_of-Expr, more_of-Expr, Row_of-Expr, Row_of-Link, end_of-Link, more_of-Link}
use Rattle.sa_typed.specs.declared.expr.Step.{Step, At', Field}

unfoldable mutual
  pub is_constant : Expr → Bool
  is_constant (Number n num) = true
  is_constant (Read' v n steps num) = false
  is_constant (Input k num) = false
  is_constant (Prefix' op p num n (more_of-Expr a end_of-Expr)) = is_constant a
  is_constant (Cast' p num n (more_of-Expr a end_of-Expr)) = is_constant a
  is_constant (Chain' n (more_of-Expr a end_of-Expr) m ls) = is_constant a && are_constant ls
  is_constant (And' n (more_of-Expr a end_of-Expr) m rest) = is_constant a && all_are_constant rest
  is_constant (Or' n (more_of-Expr a end_of-Expr) m rest) = is_constant a && all_are_constant rest
  is_constant (Choice' n (more_of-Expr a end_of-Expr) m (more_of-Expr b end_of-Expr) l (more_of-Expr c end_of-Expr) num) = is_constant a && (is_constant b && is_constant c)

  pub all_are_constant : {n : _} → Row_of-Expr n → Bool
  all_are_constant end_of-Expr = true
  all_are_constant (more_of-Expr b rest) = is_constant b && all_are_constant rest

  pub are_constant : {n : _} → Row_of-Link n → Bool
  are_constant end_of-Link = true
  are_constant (more_of-Link op p num b rest) = is_constant b && are_constant rest

abbrev pub then_ok : Result ℤ Kind → (ℤ → Result ℤ Kind) → Result ℤ Kind
then_ok (Ok z) go = go z
then_ok (Err kind) go = Err kind

-- the right part of an `&&` counts only where the left one isn't 0
abbrev pub and_ok : Result ℤ Kind → Result ℤ Kind → Result ℤ Kind
and_ok r next = then_ok r (λ x. if is_zero x then Ok (pos 0) else next)

-- the right part of an `||` counts only where the left one is 0
abbrev pub or_ok : Result ℤ Kind → Result ℤ Kind → Result ℤ Kind
or_ok r next = then_ok r (λ x. if is_zero x then next else Ok (pos 1))

-- the result of a `?:`, which one part decides and another one gives
abbrev pub chosen_ok : Num → Result ℤ Kind → Result ℤ Kind → Result ℤ Kind → Result ℤ Kind
chosen_ok num r first second = then_ok r (λ x. then_ok (if is_zero x then second else first) (λ z. Ok (as_num num z)))

-- the value of a constant expression; of another it says nothing
unfoldable mutual
  pub constant_value : Expr → Result ℤ Kind
  constant_value (Number n num) = Ok (pos n)
  constant_value (Read' v n steps num) = Ok (pos 0)
  constant_value (Input k num) = Ok (pos 0)
  constant_value (Prefix' op p num n (more_of-Expr a end_of-Expr)) = then_ok (constant_value a) (prefixed op num)
  constant_value (Cast' p num n (more_of-Expr a end_of-Expr)) = then_ok (constant_value a) (converted num)
  constant_value (Chain' n (more_of-Expr a end_of-Expr) m ls) = constant_links ls (constant_value a)
  constant_value (And' n (more_of-Expr a end_of-Expr) m rest) = constant_ands rest (constant_value a)
  constant_value (Or' n (more_of-Expr a end_of-Expr) m rest) = constant_ors rest (constant_value a)
  constant_value (Choice' n (more_of-Expr a end_of-Expr) m (more_of-Expr b end_of-Expr) l (more_of-Expr c end_of-Expr) num) =
      chosen_ok num (constant_value a) (constant_value b) (constant_value c)

  pub constant_ands : {n : _} → Row_of-Expr n → Result ℤ Kind → Result ℤ Kind
  constant_ands end_of-Expr r = and_ok r (Ok (pos 1))
  constant_ands (more_of-Expr b rest) r = and_ok r (constant_ands rest (constant_value b))

  pub constant_ors : {n : _} → Row_of-Expr n → Result ℤ Kind → Result ℤ Kind
  constant_ors end_of-Expr r = or_ok r (Ok (pos 0))
  constant_ors (more_of-Expr b rest) r = or_ok r (constant_ors rest (constant_value b))

  pub constant_links : {n : _} → Row_of-Link n → Result ℤ Kind → Result ℤ Kind
  constant_links end_of-Link r = r
  constant_links (more_of-Link op p num b rest) r = constant_links rest (then_ok r (λ x. then_ok (constant_value b) (operate op num x)))

-- the element of an array of n that a constant index names, none where it errs or names none
abbrev pub element_of : ℕ → Result ℤ Kind → Option ℕ
element_of n (Ok i) = if int_le (pos 0) i && int_lt i (pos n) then Some (unsigned_abs i) else None
element_of n (Err kind) = None

unfoldable pub fixed_index : ℕ → Expr → Option ℕ
fixed_index n a = element_of n (constant_value a)

-- a step that leads to one place in every execution
unfoldable pub is_fixed : Step → Bool
is_fixed (At' q n m (more_of-Expr a end_of-Expr)) = is_constant a
is_fixed (Field f) = true
