-- A constant is an operand of the operators that work on it.
use Rattle.std.proofs.Common.{◌≡◌, ℕ, Bool, true, false, refl, sym, subst, ◌∙◌, arith, cond}
use Rattle.std.specs.Prelude.{ℤ, pos, ◌≤ℤ◌, ◌&&◌, if◌then◌else◌}
use Rattle.std.specs.Int.RustNames.{int_le}
use Rattle.std.proofs.lemmas.Bool.{true≢false, cases_Bool}
use Rattle.sa_base.specs.Numbers.{num_lo, num_hi}
use Rattle.sa_base.specs.declared.num.Num.{Num}
use Rattle.sa_base.specs.declared.num.Num.TheVariants.{I8, U8, I16, U16, I32, U32, I64, U64}
use Rattle.sa_typed.specs.declared.expr.Operator.{Operator}
use Rattle.sa_typed.specs.declared.expr.Operator.TheVariants as o
use Rattle.sa_typed.specs.Arithmetic.{is_signed, is_of, IsOf, IsSmall, IsOperand, IsRight, promoted, common, as_num, wrapped}
use Rattle.sa_typed.proofs.ArithmeticLaws.{of_small, wrapped_of}
use Rattle.sa_numbers.proofs.Order.{le_from, ≤ℤ_trans}
use Rattle.sa_scopes.specs.Constants.{working}

-- a type is no wider than another one
abbrev Within : Num → Num → Type 0
Within a b = (int_le (num_lo b) (num_lo a) && int_le (num_hi a) (num_hi b)) ≡ true

within_common : (a b : Num) → is_signed (common a b) ≡ true → Within a (common a b)
within_common I8 b = elim b as (λ b. is_signed (common I8 b) ≡ true → Within I8 (common I8 b)) [ I8 ↦ λ h. refl | U8 ↦ λ h. refl | I16 ↦ λ h. refl | U16 ↦ λ h. refl | I32 ↦ λ h. refl | U32 ↦ λ h. absurd (true≢false (sym h)) | I64 ↦ λ h. refl | U64 ↦ λ h. absurd (true≢false (sym h)) ]
within_common U8 b = elim b as (λ b. is_signed (common U8 b) ≡ true → Within U8 (common U8 b)) [ I8 ↦ λ h. refl | U8 ↦ λ h. refl | I16 ↦ λ h. refl | U16 ↦ λ h. refl | I32 ↦ λ h. refl | U32 ↦ λ h. absurd (true≢false (sym h)) | I64 ↦ λ h. refl | U64 ↦ λ h. absurd (true≢false (sym h)) ]
within_common I16 b = elim b as (λ b. is_signed (common I16 b) ≡ true → Within I16 (common I16 b)) [ I8 ↦ λ h. refl | U8 ↦ λ h. refl | I16 ↦ λ h. refl | U16 ↦ λ h. refl | I32 ↦ λ h. refl | U32 ↦ λ h. absurd (true≢false (sym h)) | I64 ↦ λ h. refl | U64 ↦ λ h. absurd (true≢false (sym h)) ]
within_common U16 b = elim b as (λ b. is_signed (common U16 b) ≡ true → Within U16 (common U16 b)) [ I8 ↦ λ h. refl | U8 ↦ λ h. refl | I16 ↦ λ h. refl | U16 ↦ λ h. refl | I32 ↦ λ h. refl | U32 ↦ λ h. absurd (true≢false (sym h)) | I64 ↦ λ h. refl | U64 ↦ λ h. absurd (true≢false (sym h)) ]
within_common I32 b = elim b as (λ b. is_signed (common I32 b) ≡ true → Within I32 (common I32 b)) [ I8 ↦ λ h. refl | U8 ↦ λ h. refl | I16 ↦ λ h. refl | U16 ↦ λ h. refl | I32 ↦ λ h. refl | U32 ↦ λ h. absurd (true≢false (sym h)) | I64 ↦ λ h. refl | U64 ↦ λ h. absurd (true≢false (sym h)) ]
within_common U32 b = elim b as (λ b. is_signed (common U32 b) ≡ true → Within U32 (common U32 b)) [ I8 ↦ λ h. absurd (true≢false (sym h)) | U8 ↦ λ h. absurd (true≢false (sym h)) | I16 ↦ λ h. absurd (true≢false (sym h)) | U16 ↦ λ h. absurd (true≢false (sym h)) | I32 ↦ λ h. absurd (true≢false (sym h)) | U32 ↦ λ h. absurd (true≢false (sym h)) | I64 ↦ λ h. refl | U64 ↦ λ h. absurd (true≢false (sym h)) ]
within_common I64 b = elim b as (λ b. is_signed (common I64 b) ≡ true → Within I64 (common I64 b)) [ I8 ↦ λ h. refl | U8 ↦ λ h. refl | I16 ↦ λ h. refl | U16 ↦ λ h. refl | I32 ↦ λ h. refl | U32 ↦ λ h. refl | I64 ↦ λ h. refl | U64 ↦ λ h. absurd (true≢false (sym h)) ]
within_common U64 b = elim b as (λ b. is_signed (common U64 b) ≡ true → Within U64 (common U64 b)) [ I8 ↦ λ h. absurd (true≢false (sym h)) | U8 ↦ λ h. absurd (true≢false (sym h)) | I16 ↦ λ h. absurd (true≢false (sym h)) | U16 ↦ λ h. absurd (true≢false (sym h)) | I32 ↦ λ h. absurd (true≢false (sym h)) | U32 ↦ λ h. absurd (true≢false (sym h)) | I64 ↦ λ h. absurd (true≢false (sym h)) | U64 ↦ λ h. absurd (true≢false (sym h)) ]

common_symm : (a b : Num) → common a b ≡ common b a
common_symm I8 b = elim b as (λ b. common I8 b ≡ common b I8) [ I8 ↦ refl | U8 ↦ refl | I16 ↦ refl | U16 ↦ refl | I32 ↦ refl | U32 ↦ refl | I64 ↦ refl | U64 ↦ refl ]
common_symm U8 b = elim b as (λ b. common U8 b ≡ common b U8) [ I8 ↦ refl | U8 ↦ refl | I16 ↦ refl | U16 ↦ refl | I32 ↦ refl | U32 ↦ refl | I64 ↦ refl | U64 ↦ refl ]
common_symm I16 b = elim b as (λ b. common I16 b ≡ common b I16) [ I8 ↦ refl | U8 ↦ refl | I16 ↦ refl | U16 ↦ refl | I32 ↦ refl | U32 ↦ refl | I64 ↦ refl | U64 ↦ refl ]
common_symm U16 b = elim b as (λ b. common U16 b ≡ common b U16) [ I8 ↦ refl | U8 ↦ refl | I16 ↦ refl | U16 ↦ refl | I32 ↦ refl | U32 ↦ refl | I64 ↦ refl | U64 ↦ refl ]
common_symm I32 b = elim b as (λ b. common I32 b ≡ common b I32) [ I8 ↦ refl | U8 ↦ refl | I16 ↦ refl | U16 ↦ refl | I32 ↦ refl | U32 ↦ refl | I64 ↦ refl | U64 ↦ refl ]
common_symm U32 b = elim b as (λ b. common U32 b ≡ common b U32) [ I8 ↦ refl | U8 ↦ refl | I16 ↦ refl | U16 ↦ refl | I32 ↦ refl | U32 ↦ refl | I64 ↦ refl | U64 ↦ refl ]
common_symm I64 b = elim b as (λ b. common I64 b ≡ common b I64) [ I8 ↦ refl | U8 ↦ refl | I16 ↦ refl | U16 ↦ refl | I32 ↦ refl | U32 ↦ refl | I64 ↦ refl | U64 ↦ refl ]
common_symm U64 b = elim b as (λ b. common U64 b ≡ common b U64) [ I8 ↦ refl | U8 ↦ refl | I16 ↦ refl | U16 ↦ refl | I32 ↦ refl | U32 ↦ refl | I64 ↦ refl | U64 ↦ refl ]

within_promoted : (a : Num) → is_signed (promoted a) ≡ true → Within a (promoted a)
within_promoted a = elim a as (λ a. is_signed (promoted a) ≡ true → Within a (promoted a)) [ I8 ↦ λ h. refl | U8 ↦ λ h. refl | I16 ↦ λ h. refl | U16 ↦ λ h. refl | I32 ↦ λ h. refl | U32 ↦ λ h. absurd (true≢false (sym h)) | I64 ↦ λ h. refl | U64 ↦ λ h. absurd (true≢false (sym h)) ]

both_true : (p q : Bool) → (p && q) ≡ true → (p ≡ true) × (q ≡ true)
both_true true q e = (refl, e)
both_true false q e = cc

of_wider : (a b : Num) (x : ℤ) → Within a b → IsOf a x → IsOf b x
of_wider a b x w h =
    let both = both_true (int_le (num_lo b) (num_lo a)) (int_le (num_hi a) (num_hi b)) w in
    record { low = ≤ℤ_trans _ _ _ (le_from (num_lo b) (num_lo a) both.0) h.low; high = ≤ℤ_trans _ _ _ h.high (le_from (num_hi a) (num_hi b) both.1) }

operand : (a num : Num) (x : ℤ) → IsOf a x → (is_signed num ≡ true → Within a num) → IsOperand num x
unfolding as_num
operand a num x h w = record {
  small = of_small a x h;
  converts = elim (is_signed num) as (λ b. is_signed num ≡ b → IsOf num (if b then x else wrapped num x)) [
    | true ↦ λ e. of_wider a num x (w e) h
    | false ↦ λ e. wrapped_of num x e
  ] refl;
}

left_working : (op : Operator) (a b : Num) (x : ℤ) → IsOf a x → IsOperand (working op a b) x
left_working o.ShiftLeft a b x h = operand a (promoted a) x h (within_promoted a)
left_working o.ShiftRight a b x h = operand a (promoted a) x h (within_promoted a)
left_working op a b x h = operand a (common a b) x h (within_common a b)

pub left_operand : (op : Operator) (a b num : Num) (x : ℤ) → num ≡ working op a b → IsOf a x → IsOperand num x
left_operand op a b num x e h = rw e (left_working op a b x h)

right_working : (op : Operator) (a b : Num) (y : ℤ) → IsOf b y → IsRight op (working op a b) y
right_working o.ShiftLeft a b y h = of_small b y h
right_working o.ShiftRight a b y h = of_small b y h
right_working op a b y h = subst (λ (n : Num). IsOperand n y) (common_symm b a) (operand b (common b a) y h (within_common b a))

pub right_operand : (op : Operator) (a b num : Num) (y : ℤ) → num ≡ working op a b → IsOf b y → IsRight op num y
right_operand op a b num y e h = rw e (right_working op a b y h)

pub prefix_operand : (a num : Num) (x : ℤ) → num ≡ promoted a → IsOf a x → IsOperand num x
prefix_operand a num x e h = rw e (operand a (promoted a) x h (within_promoted a))

pub ruleset operands = (left_operand, right_operand, prefix_operand)
