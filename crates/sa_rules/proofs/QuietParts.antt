-- Helpers of typing that do nothing with what is visible, and refuse with other codes only.
use Rattle.std.proofs.Common.{◌≡◌, ℕ, Bool, true, false, refl, Option, Some, None}
use Rattle.std.specs.Prelude.{if◌then◌else◌, ◌||◌}
use Rattle.sa_base.specs.declared.num.Num.{Num}
use Rattle.sa_base.specs.declared.pos.Pos.{Pos}
use Rattle.sa_syntax.specs.declared.expr.Expr as tree
use Rattle.sa_syntax.specs.declared.expr.Operator as from
use Rattle.sa_typed.specs.declared.expr.Expr.{Expr}
use Rattle.sa_typed.specs.declared.expr.Prefix.{Prefix}
use Rattle.sa_scopes.specs.declared.constant.Value.{Value}
use Rattle.sa_scopes.specs.declared.form.Form.{Form}
use Rattle.sa_scopes.specs.declared.form.Form.TheVariants as form
use Rattle.sa_operands.specs.declared.operand.Left.{Left}
use Rattle.sa_operands.specs.declared.operand.Operand.{Operand}
use Rattle.sa_operands.specs.declared.operand.Operand.TheVariants as a
use Rattle.sa_operands.specs.declared.operand.Sort.{Sort}
use Rattle.sa_operands.specs.declared.operand.Sort.TheVariants as sort
use Rattle.sa_operands.specs.declared.operand.Spot.{Spot}
use Rattle.sa_scopes.specs.declared.typer.Typer.{Typer}
use Rattle.sa_scopes.specs.declared.types.Element.{Element}
use Rattle.sa_scopes.specs.declared.types.Element.TheVariants as el
use Rattle.sa_operands.specs.Operands.{no_object, with_threshold, beside, is_comparison, by_itself, prefixed, no_number, cast, cast_to, miscast, linked, choice, sort_of, is_object, expr_or}
use Rattle.sa_operands.specs.Places.{index, element_of, arrow, is_known, form_at, indexed_with}
use Rattle.sa_scopes.specs.Typing.{Typing}
use Rattle.sa_rules.proofs.Walks.{Quiet, quiet_gives, quiet_refuses, quiet_then, quiet_unless}

pub quiet_if : {A : Type 0} {s : Typer} (b : Bool) (m n : Typing A) → Quiet s (m s) → Quiet s (n s) → Quiet s ((if b then m else n) s)
quiet_if true m n a b = a
quiet_if false m n a b = b

-- ---- constants
pub no_object_quiet : (x : Operand) (s : Typer) → Quiet s (no_object x s)
no_object_quiet (a.Number e num x) s = quiet_gives
no_object_quiet (a.Struct x k fixed p) s = quiet_refuses 5 p refl
no_object_quiet (a.Array p) s = quiet_refuses 5 p refl
no_object_quiet a.Unknown s = quiet_gives

-- ---- operators
threshold_quiet : (o : Option ℕ) (s : Typer) → Quiet s (with_threshold o s)
threshold_quiet None s = quiet_gives
threshold_quiet (Some x) s = record { scene = refl; names = refl; faults = refl }

pub beside_quiet : (op : from.Operator) (x : tree.Expr) (s : Typer) → Quiet s (beside op x s)
unfolding beside
beside_quiet op x s = quiet_if (is_comparison op) _ _ (threshold_quiet (by_itself true x) s) quiet_gives

no_number_quiet : (p : Pos) (x : Sort) (s : Typer) → Quiet s (no_number p x s)
no_number_quiet p x s = quiet_then (quiet_unless (is_object x) 5 p refl) (λ a t. quiet_gives)

pub prefixed_quiet : (op : Prefix) (p : Pos) (x : Operand) (s : Typer) → Quiet s (prefixed op p x s)
prefixed_quiet op p (a.Number e num x) s = quiet_gives
prefixed_quiet op p (a.Struct x k fixed q) s = no_number_quiet p sort.Object s
prefixed_quiet op p (a.Array q) s = no_number_quiet p sort.Object s
prefixed_quiet op p a.Unknown s = no_number_quiet p sort.Unknown s

cast_to_quiet : (p : Pos) (num : Num) (x : Operand) (s : Typer) → Quiet s (cast_to p num x s)
cast_to_quiet p num (a.Number e from x) s = quiet_gives
cast_to_quiet p num (a.Struct x k fixed q) s = no_number_quiet p sort.Object s
cast_to_quiet p num (a.Array q) s = no_number_quiet p sort.Object s
cast_to_quiet p num a.Unknown s = no_number_quiet p sort.Unknown s

miscast_quiet : (p : Pos) (x : Operand) (s : Typer) → Quiet s (miscast p x s)
miscast_quiet p (a.Number e from x) s = quiet_gives
miscast_quiet p (a.Struct x k fixed q) s = no_number_quiet p sort.Object s
miscast_quiet p (a.Array q) s = no_number_quiet p sort.Object s
miscast_quiet p a.Unknown s = no_number_quiet p sort.Unknown s

pub cast_quiet : (p : Pos) (e : Element) (x : Operand) (s : Typer) → Quiet s (cast p e x s)
unfolding cast
cast_quiet p (el.Scalar num) x s = cast_to_quiet p num x s
cast_quiet p (el.Struct k) x s = quiet_then {A = Unit {0}} (quiet_refuses {a = tt} 5 p refl) (λ b t. miscast_quiet p x t)
cast_quiet p el.Void x s = miscast_quiet p x s
cast_quiet p el.Unknown x s = miscast_quiet p x s

linked_number_quiet : (op : from.Operator) (p : Pos) (l : Left) (e : Expr) (num : Num) (x : Value) (k : Sort) (s : Typer) → l.sort ≡ k → Quiet s (linked op p l (a.Number e num x) s)
unfolding linked
linked_number_quiet op p l e num x (sort.Number before) s h = rw h quiet_gives
linked_number_quiet op p l e num x sort.Object s h = rw h (quiet_refuses 5 p refl)
linked_number_quiet op p l e num x sort.Unknown s h = rw h quiet_gives

pub linked_quiet : (op : from.Operator) (p : Pos) (l : Left) (x : Operand) (s : Typer) → Quiet s (linked op p l x s)
unfolding linked
linked_quiet op p l (a.Number e num x) s = linked_number_quiet op p l e num x l.sort s refl
linked_quiet op p l (a.Struct x k fixed q) s = quiet_refuses 5 p refl
linked_quiet op p l (a.Array q) s = quiet_refuses 5 p refl
linked_quiet op p l a.Unknown s = quiet_then (quiet_unless (is_object l.sort) 5 p refl) (λ b t. quiet_gives)

pub choice_quiet : (p : Pos) (c x y : Operand) (s : Typer) → Quiet s (choice p c x y s)
unfolding choice
choice_quiet p c x y s = quiet_then (quiet_unless (is_object (sort_of c) || is_object (sort_of x) || is_object (sort_of y)) 5 p refl) (λ b t. quiet_gives)

-- ---- places
element_quiet : (p : Pos) (i : Expr) (o : Option Form) (l : Spot) (s : Typer) → Quiet s (element_of p i o l s)
element_quiet p i None l s = quiet_gives
element_quiet p i (Some (form.Array count)) l s = quiet_gives
element_quiet p i (Some (form.Scalar num)) l s = quiet_refuses 5 p refl
element_quiet p i (Some (form.Struct k)) l s = quiet_refuses 5 p refl

pub index_quiet : (p : Pos) (i : Operand) (l : Spot) (s : Typer) → Quiet s (index p i l s)
unfolding index
index_quiet p i l s = quiet_then (quiet_unless (is_object (sort_of i)) 5 p refl) (λ a t. element_quiet p (expr_or i) (form_at l) (indexed_with i l) t)

pub arrow_quiet : (p : Pos) (l : Spot) (s : Typer) → Quiet s (arrow p l s)
unfolding arrow
arrow_quiet p l s = quiet_then (quiet_unless (is_known l.shape) 5 p refl) (λ a t. quiet_gives)
