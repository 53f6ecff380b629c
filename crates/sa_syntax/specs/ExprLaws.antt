-- No promise of the top calls rests on this page: it is for laws beside them, for proofs and for inner functions.
-- What the grammar of expressions and types has is what the reader reads, whatever follows, as long as it does not go on.
use Rattle.std.specs.Prelude.{ℕ, ◌≡◌, List, false, None}
use Rattle.sa_tokens.specs.declared.punct.Punct.TheVariants as m
use Rattle.sa_tokens.specs.declared.token.Token.{Token}
use Rattle.sa_syntax.specs.declared.expr.Expr.{Expr}
use Rattle.sa_syntax.specs.declared.expr.Place.{Place}
use Rattle.sa_syntax.specs.declared.decl.Specifiers.{Specifiers}
use Rattle.sa_syntax.specs.declared.decl.Declr.{Declr}
use Rattle.sa_syntax.specs.Words.{Names}
use Rattle.sa_syntax.specs.Expressions.{Whole, Place', Specifiers', Declrs}
use Rattle.sa_syntax.specs.Reading.{Got, sees, mark_at}
use Rattle.sa_syntax.specs.ReadExpr.{sees_step, sees_scalar, operator_in, inside, whole, place, specifiers, declrs}

-- no expression goes on with the first of these tokens
pub record EndsExpr (us : List Token) : Type 0 where
  pub no_step : sees_step us ≡ false
  pub no_operator : operator_in (mark_at us) ≡ None
  pub no_choice : sees m.Question us ≡ false

-- no type goes on with it
pub record EndsType (us : List Token) : Type 0 where
  pub no_word : sees_scalar us ≡ false
  pub no_brace : sees m.OpenBrace us ≡ false

-- no list of declared names goes on with it
pub record EndsDeclrs (us : List Token) : Type 0 where
  pub no_bound : sees m.OpenBracket us ≡ false
  pub no_comma : sees m.Comma us ≡ false

abbrev pub ReadsExpressions : Type 0
ReadsExpressions = (ns : Names) (n : ℕ) (ts us : List Token) (a : Expr) → Whole ns n ts a us → EndsExpr us → whole ns n (inside ns n) ts ≡ Got a us

abbrev pub ReadsPlaces : Type 0
ReadsPlaces = (ns : Names) (n : ℕ) (ts us : List Token) (x : Place) → Place' ns n ts x us → sees_step us ≡ false → place ns n (inside ns n) ts ≡ Got x us

abbrev pub ReadsTypes : Type 0
ReadsTypes = (ns : Names) (n : ℕ) (ts us : List Token) (t : Specifiers) → Specifiers' ns n ts t us → EndsType us → specifiers ns n (inside ns n) ts ≡ Got t us

abbrev pub ReadsDeclrs : Type 0
ReadsDeclrs = (ns : Names) (n : ℕ) (ts us : List Token) (ds : List Declr) → Declrs ns n ts ds us → EndsDeclrs us → declrs ns n (inside ns n) ts ≡ Got ds us
