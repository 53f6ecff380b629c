-- Values of constant expressions, given the visible names: literals with operators and casts between them, and brackets.
use Rattle.std.specs.Prelude.{Option, Some, None}
use Rattle.sa_base.specs.declared.num.Num.{Num}
use Rattle.sa_syntax.specs.declared.decl.Base as base
use Rattle.sa_syntax.specs.declared.expr.Expr.{Expr, Number, Place', Bracket', Prefix', Cast', Chain', Choice', end_of-Expr, more_of-Expr, Row_of-Link, end_of-Link, more_of-Link, more_of-Specifiers, end_of-Specifiers}
use Rattle.sa_typed.specs.Arithmetic.{literal_type}
use Rattle.sa_scopes.specs.declared.constant.Value.{Value}
use Rattle.sa_scopes.specs.declared.constant.Value.TheVariants.{Varies}
use Rattle.sa_scopes.specs.declared.types.Element.{Element}
use Rattle.sa_scopes.specs.declared.types.Element.TheVariants as el
use Rattle.sa_operands.specs.Operands.{prefix_of, join_of, joined_value}
use Rattle.sa_scopes.specs.Scopes.{Scope, meaning_of}
use Rattle.sa_scopes.specs.Types.{num_of}
use Rattle.sa_scopes.specs.Values.{literal_value, prefix_value, cast_value, miscast_value, choice_value}
use Rattle.sa_rules.specs.Scenes.{Meaning, named_type}

abbrev pub number_of : Element → Option Num
number_of (el.Scalar num) = Some num
number_of _ = None

-- the whole-number type that stands in a cast, where it is one
abbrev pub cast_type : Scope Meaning → base.Base → Option Num
cast_type names (base.Scalar ws) = num_of ws
cast_type names (base.Named x) = number_of (named_type (meaning_of names x.text)).element
cast_type names _ = None

abbrev pub cast_as : Option Num → Value → Value
cast_as None v = miscast_value v
cast_as (Some num) v = cast_value num v

unfoldable mutual
  pub value_of : Scope Meaning → Expr → Value
  value_of names (Number v unsigned longs decimal p) = literal_value (literal_type v unsigned longs decimal) v
  value_of names (Place' b n row) = Varies
  value_of names (Bracket' p n (more_of-Expr x end_of-Expr)) = value_of names x
  value_of names (Prefix' op p n (more_of-Expr x end_of-Expr)) = prefix_value (prefix_of op) (value_of names x)
  value_of names (Cast' p m (more_of-Specifiers q qs b end_of-Specifiers) n (more_of-Expr x end_of-Expr)) = cast_as (cast_type names b) (value_of names x)
  value_of names (Chain' m (more_of-Expr x end_of-Expr) n row) = chain_value names row (value_of names x)
  value_of names (Choice' l (more_of-Expr x end_of-Expr) p m (more_of-Expr y end_of-Expr) n (more_of-Expr z end_of-Expr)) = choice_value (value_of names x) (value_of names y) (value_of names z)

  -- a chain groups to the left
  pub chain_value : {n : _} → Scope Meaning → Row_of-Link n → Value → Value
  chain_value names end_of-Link v = v
  chain_value names (more_of-Link op p x rest) v = chain_value names rest (joined_value (join_of op) v (value_of names x))
