-- Expressions and types, which hold one another: a cast has a type, a type may define a structure, a field may have dimensions.
use Rattle.std.specs.Prelude.{ℕ, List, [], ◌∷◌, ◌++◌, true, false, Option, Some, None}
use Rattle.sa_base.specs.declared.pos.Pos.{Pos}
use Rattle.sa_syntax.specs.declared.decl.Base as base
use Rattle.sa_syntax.specs.declared.decl.Bound.{Bound, out-Bound}
use Rattle.sa_syntax.specs.declared.decl.Declr.{Declr, out-Declr, Declr', Row_of-Bound, more_of-Bound, end_of-Bound}
use Rattle.sa_syntax.specs.declared.decl.Field.{Field as FieldGroup, out-Field, Field', Row_of-Declr, more_of-Declr, end_of-Declr}
use Rattle.sa_syntax.specs.declared.decl.Qualified.{Qualified}
use Rattle.sa_syntax.specs.declared.decl.Specifiers.{Specifiers, out-Specifiers}
use Rattle.sa_syntax.specs.declared.decl.Struct.{Struct, Struct', Row_of-Field, more_of-Field, end_of-Field}
use Rattle.sa_syntax.specs.declared.expr.Expr.{Expr, Number, Place', Bracket', Prefix', Cast', Chain', Choice', end_of-Expr, more_of-Expr, Row_of-Link, end_of-Link, more_of-Link, Row_of-Step, end_of-Step, more_of-Step, more_of-Specifiers, end_of-Specifiers}
use Rattle.sa_syntax.specs.declared.expr.Operator.{Operator}
use Rattle.sa_syntax.specs.declared.expr.Place.{Place, out-Place}
use Rattle.sa_syntax.specs.declared.expr.PlaceBase.{PlaceBase}
use Rattle.sa_syntax.specs.declared.expr.Step.{Step, Index', Field, Arrow}
use Rattle.sa_operands.specs.declared.operand.Left.{Left}
use Rattle.sa_operands.specs.declared.operand.Operand.{Operand}
use Rattle.sa_operands.specs.declared.operand.Operand.TheVariants as a
use Rattle.sa_operands.specs.declared.operand.Spot.{Spot}
use Rattle.sa_scopes.specs.declared.structs.Fields.{Fields}
use Rattle.sa_scopes.specs.declared.types.Element.TheVariants as el
use Rattle.sa_scopes.specs.declared.types.Ty.{Ty}
use Rattle.sa_scopes.specs.First.{expr_pos}
use Rattle.sa_scopes.specs.Types as types
use Rattle.sa_scopes.specs.Types.{qualifiers, object, plain}
use Rattle.sa_operands.specs.Operands.{literal, beside, prefix_of, prefixed, cast, left_of, linked, chained, choice}
use Rattle.sa_operands.specs.Places as place
use Rattle.sa_operands.specs.Definitions as def
use Rattle.sa_operands.specs.Definitions.{no_fields}
use Rattle.sa_scopes.specs.Typing.{Typing, ◌>>=◌, ◌>>◌, pure}

-- the first operand of a chain stands beside its first operator
abbrev pub beside_first : {n : _} → Row_of-Link n → Expr → Typing (Unit {0})
beside_first end_of-Link x = pure tt
beside_first (more_of-Link op p y rest) x = beside op x

-- another operator and operand after what stands so far, given what the operand is typed as
abbrev pub linking : Operator → Pos → Expr → Typing Operand → Left → Typing Left
linking op p x m l = m >>= (λ i. beside op x >> linked op p l i)

-- another dimension
abbrev pub bounding : Expr → Typing Operand → List ℕ → Typing (List ℕ)
bounding x m found = m >>= (λ i. def.dimension (expr_pos x) i >>= (λ n. pure (found ++ n ∷ [])))

unfoldable mutual
  pub expr : Expr → Typing Operand
  expr (Number v unsigned longs decimal p) = pure (literal v unsigned longs decimal)
  expr (Place' b n row) = place.begins b >>= steps row >>= (λ l. pure (place.operand l))
  expr (Bracket' p n (more_of-Expr x end_of-Expr)) = expr x
  expr (Prefix' op p n (more_of-Expr x end_of-Expr)) = expr x >>= (λ x. prefixed (prefix_of op) p x)
  expr (Cast' p m (more_of-Specifiers q qs b end_of-Specifiers) n (more_of-Expr x end_of-Expr)) =
      qualifiers false true qs >> (object q qs (base_type q b) >>= (λ ty. expr x >>= (λ x. cast p ty.element x)))
  expr (Chain' m (more_of-Expr x end_of-Expr) n row) = expr x >>= (λ first. beside_first row x >> (links row (left_of first) >>= (λ l. pure (chained l))))
  expr (Choice' l (more_of-Expr x end_of-Expr) p m (more_of-Expr y end_of-Expr) n (more_of-Expr z end_of-Expr)) = expr x >>= (λ c. expr y >>= (λ y. expr z >>= (λ z. choice p c y z)))

  pub links : {n : _} → Row_of-Link n → Left → Typing Left
  links end_of-Link l = pure l
  links (more_of-Link op p x rest) l = linking op p x (expr x) l >>= links rest

  pub steps : {n : _} → Row_of-Step n → Spot → Typing Spot
  steps end_of-Step l = pure l
  steps (more_of-Step x rest) l = step x l >>= steps rest

  pub step : Step → Spot → Typing Spot
  step (Index' p n (more_of-Expr x end_of-Expr)) l = expr x >>= (λ i. place.index p i l)
  step (Field p x) l = place.field p x l
  step (Arrow p x) l = place.arrow p l

  pub base_type : Pos → base.Base → Typing Ty
  base_type p (base.Scalar ws) = types.scalar p (types.num_of ws)
  base_type p base.Void = pure (plain el.Void)
  base_type p (base.Tag x) = types.tagged p x
  base_type p (base.Struct x) = structure x
  base_type p (base.Named x) = types.type_name x

  pub structure : Struct → Typing Ty
  structure (Struct' tag n row) = def.opened tag >>= (λ i. fields row no_fields >>= (λ f. def.closed tag i f))

  pub fields : {n : _} → Row_of-Field n → Fields → Typing Fields
  fields end_of-Field f = pure f
  fields (more_of-Field x rest) f = field x f >>= fields rest

  pub field : FieldGroup → Fields → Typing Fields
  field (Field' p qs b n row) f = qualifiers false false qs >> (object p qs (base_type p b) >>= (λ ty. declrs ty row f))

  pub declrs : {n : _} → Ty → Row_of-Declr n → Fields → Typing Fields
  declrs ty end_of-Declr f = pure f
  declrs ty (more_of-Declr x rest) f = declr ty x f >>= declrs ty rest

  pub declr : Ty → Declr → Fields → Typing Fields
  declr ty (Declr' x n row) f = bounds row [] >>= (λ dims. def.field x ty dims f)

  pub bounds : {n : _} → Row_of-Bound n → List ℕ → Typing (List ℕ)
  bounds end_of-Bound found = pure found
  bounds (more_of-Bound p x rest) found = bounding x (expr x) found >>= bounds rest
