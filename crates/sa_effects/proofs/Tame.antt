-- Conversions leave the constants of forms as they are.
use Rattle.std.proofs.Common.{true, false, Option, Some, None}
use Rattle.std.specs.Prelude.{if◌then◌else◌, IfSome}
use Rattle.sa_base.specs.declared.num.Num.{Num}
use Rattle.sa_interval.specs.Span.{Span}
use Rattle.sa_interval.specs.Rows.{is_part}
use Rattle.sa_operators.specs.Operators.{range_of}
use Rattle.sa_env.specs.declared.form.Form.{Form}
use Rattle.sa_env.specs.Forms.{IsModest}
use Rattle.sa_flat.specs.Meanings.{form_within, form_in, as_operand}
use Rattle.sa_effects.specs.declared.value.Value.{Value}
use Rattle.sa_effects.specs.Values.{held, value_of, IsTame}

abbrev FormTame : Option Form → Type 0
FormTame o = IfSome o (λ f. IsModest f.c)

within_tame : (num : Num) (s : Span) (o : Option Form) → FormTame o → FormTame (form_within num s o)
within_tame num s o h = elim (is_part s (range_of num)) as (λ b. FormTame (if b then o else None)) [ true ↦ h | false ↦ tt ]

in_tame : (num : Num) (s : Option Span) (o : Option Form) → FormTame o → FormTame (form_in num s o)
in_tame num None o h = tt
in_tame num (Some s) o h = within_tame num s o h

pub as_operand_tame : (num : Num) (a : Value) → IsTame a → IsTame (value_of (as_operand num (held a)))
as_operand_tame num a h = in_tame num a.span a.form h
