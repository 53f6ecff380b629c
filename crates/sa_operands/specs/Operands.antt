-- Operators and what they are applied to. An operator's result is a number, whatever its operands are; where one of them is no
-- number a stand-in takes its place.
use Rattle.std.specs.Prelude.{ℕ, ℤ, pos, List, [], ◌∷◌, ◌++◌, ◌||◌, Bool, true, false, if◌then◌else◌, Option, Some, None}
use Rattle.sa_base.specs.declared.num.Num.{Num}
use Rattle.sa_base.specs.declared.num.Num.TheVariants.{I32}
use Rattle.sa_base.specs.declared.pos.Pos.{Pos}
use Rattle.sa_syntax.specs.declared.expr.Expr as tree
use Rattle.sa_syntax.specs.declared.expr.Expr.{Number, Place', Bracket', Prefix', Cast', Chain', Choice', end_of-Expr, more_of-Expr}
use Rattle.sa_syntax.specs.declared.expr.Operator as from
use Rattle.sa_syntax.specs.declared.expr.Operator.TheVariants as o
use Rattle.sa_syntax.specs.declared.expr.Prefix as begins
use Rattle.sa_syntax.specs.declared.expr.Prefix.TheVariants as p
use Rattle.sa_typed.specs.declared.expr.Expr.{Expr}
use Rattle.sa_typed.specs.declared.expr.Expr.TheVariants as e
use Rattle.sa_typed.specs.declared.expr.Link.{Link, roll-Link}
use Rattle.sa_typed.specs.declared.expr.Operator.{Operator}
use Rattle.sa_typed.specs.declared.expr.Operator.TheVariants as op
use Rattle.sa_typed.specs.declared.expr.Prefix.{Prefix}
use Rattle.sa_typed.specs.declared.expr.Prefix.TheVariants as pre
use Rattle.sa_typed.specs.Arithmetic.{is_of, promoted, common, literal_type, result_type, prefix_type}
use Rattle.sa_scopes.specs.declared.constant.Value.{Value}
use Rattle.sa_scopes.specs.declared.constant.Value.TheVariants.{Varies}
use Rattle.sa_operands.specs.declared.operand.Operand.{Operand}
use Rattle.sa_operands.specs.declared.operand.Operand.TheVariants as a
use Rattle.sa_operands.specs.declared.operand.Sort.{Sort}
use Rattle.sa_operands.specs.declared.operand.Sort.TheVariants as sort
use Rattle.sa_operands.specs.declared.operand.Join.{Join}
use Rattle.sa_operands.specs.declared.operand.Join.TheVariants as join
use Rattle.sa_operands.specs.declared.operand.Left.{Left}
use Rattle.sa_operands.specs.declared.operand.Rest.{Rest}
use Rattle.sa_operands.specs.declared.operand.Rest.TheVariants as rest
use Rattle.sa_scopes.specs.declared.types.Element.{Element}
use Rattle.sa_scopes.specs.declared.types.Element.TheVariants as el
use Rattle.sa_scopes.specs.Constants.{working}
use Rattle.sa_scopes.specs.Values.{literal_value, prefix_value, cast_value, miscast_value, operator_value, and_value, or_value, choice_value}
use Rattle.sa_scopes.specs.Typing.{Typing, Gives, ◌>>◌, pure, refuse, refuse_if}

-- what stands in for an expression
abbrev pub stand_in : Expr
stand_in = e.Number 0 I32

-- a number of which nothing is known
abbrev pub some_number : Operand
some_number = a.Number stand_in I32 Varies

abbrev pub sort_of : Operand → Sort
sort_of (a.Number x num v) = sort.Number num
sort_of (a.Struct x k fixed p) = sort.Object
sort_of (a.Array p) = sort.Object
sort_of a.Unknown = sort.Unknown

abbrev pub is_object : Sort → Bool
is_object sort.Object = true
is_object _ = false

abbrev pub known_value : Operand → Value
known_value (a.Number x num v) = v
known_value _ = Varies

abbrev pub expr_or : Operand → Expr
expr_or (a.Number x num v) = x
expr_or _ = stand_in

-- a struct or an array where a number is needed and no operator takes it, at the name of its variable
abbrev pub no_object : Operand → Typing (Unit {0})
no_object (a.Struct x k fixed p) = refuse 5 p
no_object (a.Array p) = refuse 5 p
no_object _ = pure tt

-- ---- literals
-- no text has a literal that its type doesn't hold; such a one counts as 0
abbrev pub literal_number : Num → ℕ → ℕ
literal_number num v = if is_of num (pos v) then v else 0

unfoldable pub literal : ℕ → Bool → ℕ → Bool → Operand
literal v unsigned longs decimal =
    a.Number (e.Number (literal_number (literal_type v unsigned longs decimal) v) (literal_type v unsigned longs decimal)) (literal_type v unsigned longs decimal)
    (literal_value (literal_type v unsigned longs decimal) v)

-- the value of a literal that stands by itself, in brackets or not, after one `-` where that flag is set
unfoldable pub by_itself : Bool → tree.Expr → Option ℕ
by_itself minus (Number v unsigned longs decimal p) = Some v
by_itself minus (Place' b n steps) = None
by_itself minus (Bracket' p n (more_of-Expr x end_of-Expr)) = by_itself minus x
by_itself minus (Prefix' p.Minus p n (more_of-Expr x end_of-Expr)) = if minus then by_itself false x else None
by_itself minus (Prefix' _ p n x) = None
by_itself minus (Cast' p m ty n x) = None
by_itself minus (Chain' m x n ls) = None
by_itself minus (Choice' l x p m y n z) = None

abbrev pub is_comparison : from.Operator → Bool
is_comparison o.Less = true
is_comparison o.LessEqual = true
is_comparison o.Greater = true
is_comparison o.GreaterEqual = true
is_comparison o.Equal = true
is_comparison o.NotEqual = true
is_comparison _ = false

abbrev pub with_threshold : Option ℕ → Typing (Unit {0})
with_threshold None = pure tt
with_threshold (Some v) = λ s. Gives tt (record s { thresholds = s.thresholds ++ v ∷ [] })

-- the literal that an operand of a comparison is by itself is a threshold
unfoldable pub beside : from.Operator → tree.Expr → Typing (Unit {0})
beside op x = if is_comparison op then with_threshold (by_itself true x) else pure tt

-- ---- prefixes and casts
abbrev pub prefix_of : begins.Prefix → Prefix
prefix_of p.Minus = pre.Minus
prefix_of p.Plus = pre.Plus
prefix_of p.Complement = pre.Complement
prefix_of p.Not = pre.Not

-- the result of a cast or an operator at that place whose operand is of a sort other than a number
abbrev pub no_number : Pos → Sort → Typing Operand
no_number p s = refuse_if (is_object s) 5 p >> pure some_number

-- a prefix in the type in which it works, before a number with that value
abbrev pub prefixed_number : Prefix → Pos → Expr → Num → Value → Operand
prefixed_number op p x num v = a.Number (e.Prefix op p num x) (prefix_type op num) (prefix_value op v)

abbrev pub cast_number : Pos → Num → Expr → Value → Operand
cast_number p num x v = a.Number (e.Cast p num x) num (cast_value num v)

abbrev pub prefixed : Prefix → Pos → Operand → Typing Operand
prefixed op p (a.Number x num v) = pure (prefixed_number op p x (promoted num) v)
prefixed op p x = no_number p (sort_of x)

abbrev pub cast_to : Pos → Num → Operand → Typing Operand
cast_to p num (a.Number x from v) = pure (cast_number p num x v)
cast_to p num x = no_number p (sort_of x)

-- a cast to what is no whole-number type
abbrev pub miscast : Pos → Operand → Typing Operand
miscast p (a.Number x from v) = pure (a.Number stand_in I32 (miscast_value v))
miscast p x = no_number p (sort_of x)

unfoldable pub cast : Pos → Element → Operand → Typing Operand
cast p (el.Scalar num) x = cast_to p num x
cast p (el.Struct k) x = refuse 5 p >> miscast p x
cast p el.Void x = miscast p x
cast p el.Unknown x = miscast p x

-- ---- chains of operators of one level, which group to the left (6.5.5 to 6.5.14)
-- what an operator makes of the operands beside it
abbrev pub join_of : from.Operator → Join
join_of o.Or = join.Or
join_of o.And = join.And
join_of o.BitOr = join.Link op.BitOr
join_of o.BitXor = join.Link op.BitXor
join_of o.BitAnd = join.Link op.BitAnd
join_of o.Equal = join.Link op.Equal
join_of o.NotEqual = join.Link op.NotEqual
join_of o.Less = join.Link op.Less
join_of o.LessEqual = join.Link op.LessEqual
join_of o.Greater = join.Link op.Greater
join_of o.GreaterEqual = join.Link op.GreaterEqual
join_of o.ShiftLeft = join.Link op.ShiftLeft
join_of o.ShiftRight = join.Link op.ShiftRight
join_of o.Plus = join.Link op.Plus
join_of o.Minus = join.Link op.Minus
join_of o.Times = join.Link op.Times
join_of o.Divide = join.Link op.Divide
join_of o.Remainder = join.Link op.Remainder

abbrev pub joined_value : Join → Value → Value → Value
joined_value join.And v w = and_value v w
joined_value join.Or v w = or_value v w
joined_value (join.Link op) v w = operator_value op v w

abbrev pub left_of : Operand → Left
left_of x = record { sort = sort_of x; first = expr_or x; rest = rest.Links []; value = known_value x }

abbrev pub some_left : Left
some_left = left_of some_number

-- operators of two levels, which no text has in one chain
abbrev pub mixed : Value → Left
mixed v = record some_left { value = v }

abbrev pub link : Operator → Pos → Num → Expr → Link
link op p num x = roll-Link (record { op = op; pos = p; num = num; operand = x })

-- what stands behind the first operand, where another operand may follow with such an operator
abbrev pub links_of : Rest → Option (List Link)
links_of (rest.Links ls) = Some ls
links_of _ = None

abbrev pub ands_of : Rest → Option (List Expr)
ands_of (rest.Links []) = Some []
ands_of (rest.And xs) = Some xs
ands_of _ = None

abbrev pub ors_of : Rest → Option (List Expr)
ors_of (rest.Links []) = Some []
ors_of (rest.Or xs) = Some xs
ors_of _ = None

-- the same with that operand, which is a number as the ones before are
abbrev pub with_link : Operator → Pos → Left → Num → Expr → Num → Value → Option (List Link) → Left
with_link op p l before x num v None = mixed v
with_link op p l before x num v (Some ls) = record {
  sort = sort.Number (result_type op (working op before num));
  first = l.first;
  rest = rest.Links (ls ++ link op p (working op before num) x ∷ []);
  value = v;
}

abbrev pub with_and : Left → Expr → Value → Option (List Expr) → Left
with_and l x v None = mixed v
with_and l x v (Some xs) = record { sort = sort.Number I32; first = l.first; rest = rest.And (xs ++ x ∷ []); value = v }

abbrev pub with_or : Left → Expr → Value → Option (List Expr) → Left
with_or l x v None = mixed v
with_or l x v (Some xs) = record { sort = sort.Number I32; first = l.first; rest = rest.Or (xs ++ x ∷ []); value = v }

abbrev pub joined_as : Join → Pos → Left → Num → Expr → Num → Value → Left
joined_as join.And p l before x num v = with_and l x v (ands_of l.rest)
joined_as join.Or p l before x num v = with_or l x v (ors_of l.rest)
joined_as (join.Link op) p l before x num v = with_link op p l before x num v (links_of l.rest)

abbrev pub joined : Join → Pos → Left → Num → Expr → Num → Value → Left
joined j p l before x num v = joined_as j p l before x num (joined_value j l.value v)

-- what stands so far, with another operator and operand
unfoldable pub linked : from.Operator → Pos → Left → Operand → Typing Left
linked op p l (a.Number x num v) = elim l.sort as (λ _. Typing Left) [
  | sort.Number before ↦ pure (joined (join_of op) p l before x num v)
  | sort.Object ↦ refuse 5 p >> pure some_left
  | sort.Unknown ↦ pure some_left
]
linked op p l (a.Struct x k fixed q) = refuse 5 p >> pure some_left
linked op p l (a.Array q) = refuse 5 p >> pure some_left
linked op p l a.Unknown = refuse_if (is_object l.sort) 5 p >> pure some_left

abbrev pub chain : Expr → Rest → Expr
chain x (rest.Links ls) = e.Chain x ls
chain x (rest.And xs) = e.And x xs
chain x (rest.Or xs) = e.Or x xs

-- the whole chain; an object has no operator behind it only where there is none at all, which no text has
abbrev pub chained : Left → Operand
chained l = elim l.sort as (λ _. Operand) [
  | sort.Number num ↦ a.Number (chain l.first l.rest) num l.value
  | sort.Object ↦ some_number
  | sort.Unknown ↦ a.Unknown
]

-- ---- `?:` (6.5.15): the results are converted to the type that they have in common
abbrev pub num_or : Operand → Num
num_or (a.Number x num v) = num
num_or _ = I32

abbrev pub choice_in : Num → Operand → Operand → Operand → Operand
choice_in num c x y = a.Number (e.Choice (expr_or c) (expr_or x) (expr_or y) num) num (choice_value (known_value c) (known_value x) (known_value y))

-- the condition and the results, with the mark at that place; what is no number is refused there or was before
unfoldable pub choice : Pos → Operand → Operand → Operand → Typing Operand
choice p c x y = refuse_if (is_object (sort_of c) || is_object (sort_of x) || is_object (sort_of y)) 5 p >> pure (choice_in (common (num_or x) (num_or y)) c x y)
