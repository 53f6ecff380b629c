-- Expressions other than places are neither structures nor arrays.
use Rattle.std.proofs.Common.{◌≡◌, ℕ, Bool, true, false, refl}
use Rattle.sa_base.specs.declared.num.Num.{Num}
use Rattle.sa_base.specs.declared.pos.Pos.{Pos}
use Rattle.sa_syntax.specs.declared.expr.Expr as tree
use Rattle.sa_syntax.specs.declared.expr.Expr.{Number, Prefix', Cast', Chain', Choice', end_of-Expr, more_of-Expr, Row_of-Link, more_of-Specifiers, end_of-Specifiers}
use Rattle.sa_syntax.specs.declared.expr.Prefix as begins
use Rattle.sa_typed.specs.declared.expr.Prefix.{Prefix}
use Rattle.sa_operands.specs.declared.operand.Left.{Left}
use Rattle.sa_operands.specs.declared.operand.Operand.{Operand}
use Rattle.sa_operands.specs.declared.operand.Operand.TheVariants as a
use Rattle.sa_operands.specs.declared.operand.Sort.{Sort}
use Rattle.sa_operands.specs.declared.operand.Sort.TheVariants as sort
use Rattle.sa_scopes.specs.declared.typer.Typer.{Typer}
use Rattle.sa_scopes.specs.declared.types.Element.{Element}
use Rattle.sa_scopes.specs.declared.types.Element.TheVariants as el
use Rattle.sa_scopes.specs.declared.types.Ty.{Ty}
use Rattle.sa_operands.specs.Expressions.{expr, links, base_type, beside_first}
use Rattle.sa_operands.specs.Operands.{literal, no_number, prefixed, prefix_of, cast, cast_to, miscast, left_of, chained, choice}
use Rattle.sa_scopes.specs.Types.{object, qualifiers}
use Rattle.sa_scopes.specs.Typing.{Typed, Typing, Gives, and_then, refused, refuse_if}
use Rattle.sa_rules.proofs.Walks.{value}

abbrev pub IsPlain : Operand → Type 0
IsPlain (a.Struct x k fixed p) = ⊥
IsPlain (a.Array p) = ⊥
IsPlain _ = Unit {0}

pub record Plain (t : Typed Operand) : Type 0 where
  pub plain : IsPlain (value t)

plain_then : {A : Type 0} (t : Typed A) (f : A → Typing Operand) → ((a : A) (u : Typer) → Plain (f a u)) → Plain (and_then t f)
plain_then (Gives a u) f h = record { plain = (h a u).plain }

pub plain_gives : {i : Operand} {s : Typer} → IsPlain i → Plain (Gives i s)
plain_gives h = record { plain = h }

no_number_plain : (p : Pos) (k : Sort) (s : Typer) → Plain (no_number p k s)
no_number_plain p k s = plain_then _ _ (λ b u. plain_gives tt)

prefixed_plain : (o : Prefix) (p : Pos) (i : Operand) (s : Typer) → Plain (prefixed o p i s)
prefixed_plain o p (a.Number e num v) s = plain_gives tt
prefixed_plain o p (a.Struct y k fixed q) s = no_number_plain p sort.Object s
prefixed_plain o p (a.Array q) s = no_number_plain p sort.Object s
prefixed_plain o p a.Unknown s = no_number_plain p sort.Unknown s

cast_to_plain : (p : Pos) (num : Num) (i : Operand) (s : Typer) → Plain (cast_to p num i s)
cast_to_plain p num (a.Number e from v) s = plain_gives tt
cast_to_plain p num (a.Struct y k fixed q) s = no_number_plain p sort.Object s
cast_to_plain p num (a.Array q) s = no_number_plain p sort.Object s
cast_to_plain p num a.Unknown s = no_number_plain p sort.Unknown s

miscast_plain : (p : Pos) (i : Operand) (s : Typer) → Plain (miscast p i s)
miscast_plain p (a.Number e from v) s = plain_gives tt
miscast_plain p (a.Struct y k fixed q) s = no_number_plain p sort.Object s
miscast_plain p (a.Array q) s = no_number_plain p sort.Object s
miscast_plain p a.Unknown s = no_number_plain p sort.Unknown s

cast_plain : (p : Pos) (e : Element) (i : Operand) (s : Typer) → Plain (cast p e i s)
unfolding cast
cast_plain p (el.Scalar num) i s = cast_to_plain p num i s
cast_plain p (el.Struct k) i s = plain_then {A = Unit {0}} (Gives tt (refused 5 p s)) _ (λ b u. miscast_plain p i u)
cast_plain p el.Void i s = miscast_plain p i s
cast_plain p el.Unknown i s = miscast_plain p i s

chained_plain : (l : Left) (k : Sort) → l.sort ≡ k → IsPlain (chained l)
chained_plain l (sort.Number num) h = rw h tt
chained_plain l sort.Object h = rw h tt
chained_plain l sort.Unknown h = rw h tt

literal_plain : (v : ℕ) (unsigned : Bool) (longs : ℕ) (decimal : Bool) → IsPlain (literal v unsigned longs decimal)
unfolding literal
literal_plain v unsigned longs decimal = tt

-- ---- expressions
pub number_plain : (v : ℕ) (unsigned : Bool) (longs : ℕ) (decimal : Bool) (p : Pos) (s : Typer) → Plain (expr (Number v unsigned longs decimal p) s)
unfolding expr
number_plain v unsigned longs decimal p s = plain_gives (literal_plain v unsigned longs decimal)

pub prefix_plain : (o : begins.Prefix) (p : Pos) (n : _) (y : tree.Expr) (s : Typer) → Plain (expr (Prefix' o p n (more_of-Expr y end_of-Expr)) s)
unfolding expr
prefix_plain o p n y s = plain_then (expr y s) _ (λ j t. prefixed_plain (prefix_of o) p j t)

pub conversion_plain : (p : Pos) (m : _) (r : Pos) (qs : _) (b : _) (n : _) (y : tree.Expr) (s : Typer) → Plain (expr (Cast' p m (more_of-Specifiers r qs b end_of-Specifiers) n (more_of-Expr y end_of-Expr)) s)
unfolding expr
conversion_plain p m r qs b n y s =
    plain_then {A = Unit {0}} (qualifiers false true qs s) _ (λ c t. plain_then {A = Ty} (object r qs (base_type r b) t) _ (λ ty u. plain_then {A = Operand} (expr y u) _ (λ j v. cast_plain p ty.element j v)))

pub choice_plain : (l : _) (x : tree.Expr) (p : Pos) (m : _) (y : tree.Expr) (n : _) (z : tree.Expr) (s : Typer) →
    Plain (expr (Choice' l (more_of-Expr x end_of-Expr) p m (more_of-Expr y end_of-Expr) n (more_of-Expr z end_of-Expr)) s)
unfolding expr choice
choice_plain l x p m y n z s =
    plain_then {A = Operand} (expr x s) _ (λ c t. plain_then {A = Operand} (expr y t) _ (λ i u. plain_then {A = Operand} (expr z u) _ (λ j v. plain_then {A = Unit {0}} (refuse_if _ 5 p v) _ (λ b w. plain_gives tt))))

pub chain_plain : (m : _) (y : tree.Expr) (n : _) (row : _) (s : Typer) → Plain (expr (Chain' m (more_of-Expr y end_of-Expr) n row) s)
unfolding expr
chain_plain m y n row s =
    plain_then {A = Operand} (expr y s) _ (λ first t. plain_then {A = Unit {0}} (beside_first row y t) _ (λ c u. plain_then {A = Left} (links row (left_of first) u) _ (λ k v. plain_gives {s = v} (chained_plain k k.sort refl))))
