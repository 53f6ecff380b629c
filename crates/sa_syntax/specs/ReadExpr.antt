-- No promise of the top calls rests on this page: it is for laws beside them, for proofs and for inner functions.
-- Expressions, places and types read from the front, one token ahead.
use Rattle.std.specs.Prelude.{ℕ, zero, suc, ◌==◌, List, [], ◌∷◌, ◌||◌, not, Bool, true, false, if◌then◌else◌, Option, Some, None}
use Rattle.sa_tokens.specs.declared.keyword.Keyword.{Keyword}
use Rattle.sa_tokens.specs.declared.keyword.Keyword.TheVariants as k
use Rattle.sa_tokens.specs.declared.punct.Punct.{Punct}
use Rattle.sa_tokens.specs.declared.punct.Punct.TheVariants as m
use Rattle.sa_tokens.specs.declared.token.Word.TheVariants.{Name, Number, Key, Mark}
use Rattle.sa_tokens.specs.declared.token.Token.{Token}
use Rattle.sa_syntax.specs.declared.decl.Name.{Name as Named}
use Rattle.sa_syntax.specs.declared.decl.Specifiers.{Specifiers}
use Rattle.sa_syntax.specs.declared.decl.Qualified.{Qualified}
use Rattle.sa_syntax.specs.declared.decl.Qualifier.{Qualifier}
use Rattle.sa_syntax.specs.declared.decl.ScalarWord.{ScalarWord}
use Rattle.sa_syntax.specs.declared.decl.Base.{Base}
use Rattle.sa_syntax.specs.declared.decl.Base.TheVariants as b
use Rattle.sa_syntax.specs.declared.decl.Field.{Field}
use Rattle.sa_syntax.specs.declared.decl.Declr.{Declr}
use Rattle.sa_syntax.specs.declared.decl.Bound.{Bound}
use Rattle.sa_syntax.specs.declared.expr.Expr.{Expr}
use Rattle.sa_syntax.specs.declared.expr.Expr.TheVariants as e
use Rattle.sa_syntax.specs.declared.expr.Operator.{Operator}
use Rattle.sa_syntax.specs.declared.expr.Prefix.{Prefix}
use Rattle.sa_syntax.specs.declared.expr.Link.{Link}
use Rattle.sa_syntax.specs.declared.expr.Place.{Place}
use Rattle.sa_syntax.specs.declared.expr.PlaceBase.TheVariants as at
use Rattle.sa_syntax.specs.declared.expr.Step.{Step}
use Rattle.sa_syntax.specs.declared.expr.Step.TheVariants as step
use Rattle.sa_syntax.specs.Trees as tree
use Rattle.sa_syntax.specs.Words.{Names, is_type_name, is_through, prefix_of, operator_of, level_of, loosest, qualifier_of, scalar_of}
use Rattle.sa_syntax.specs.Reading.{Parser, Read, Got, Stuck, Deep, ◌>>=◌, ◌>>◌, pure, refuse, sees, after, expect, opens_any, opens, any_name, variable, name_at, key_at, mark_at, taken, many}

-- ---- words of types
abbrev pub qualifier_in : Option Keyword → Option Qualifier
qualifier_in None = None
qualifier_in (Some k) = qualifier_of k

abbrev pub scalar_in : Option Keyword → Option ScalarWord
scalar_in None = None
scalar_in (Some k) = scalar_of k

abbrev pub is_some : {A : Type 0} → Option A → Bool
is_some None = false
is_some (Some _) = true

unfoldable pub sees_qualifier : List Token → Bool
sees_qualifier ts = is_some (qualifier_in (key_at ts))

unfoldable pub sees_scalar : List Token → Bool
sees_scalar ts = is_some (scalar_in (key_at ts))

abbrev pub qualified_at : Option Qualifier → List Token → Option Qualified
qualified_at None ts = None
qualified_at (Some q) ts = Some (tree.qualified q (tree.pos_of ts))

unfoldable pub qualifier : Parser Qualified
qualifier ts = taken (qualified_at (qualifier_in (key_at ts)) ts) ts

unfoldable pub scalar_word : Parser ScalarWord
scalar_word ts = taken (scalar_in (key_at ts)) ts

abbrev pub is_type_at : Names → Option Named → Bool
is_type_at ns None = false
is_type_at ns (Some x) = is_type_name ns x.text

abbrev pub is_void_or_struct : Option Keyword → Bool
is_void_or_struct (Some k.Void) = true
is_void_or_struct (Some k.Struct) = true
is_void_or_struct _ = false

-- whether a type begins here
unfoldable pub begins_type : Names → List Token → Bool
begins_type ns ts = sees_qualifier ts || sees_scalar ts || is_void_or_struct (key_at ts) || is_type_at ns (name_at ts)

-- ---- operators
abbrev pub operator_in : Option Punct → Option Operator
operator_in None = None
operator_in (Some m) = operator_of m

abbrev pub is_of_level : ℕ → Option Operator → Bool
is_of_level l None = false
is_of_level l (Some op) = level_of op == l

-- whether an operator of this level comes next
unfoldable pub sees_operator : ℕ → List Token → Bool
sees_operator l ts = is_of_level l (operator_in (mark_at ts))

unfoldable pub operator : Parser Operator
operator ts = taken (operator_in (mark_at ts)) ts

-- ---- the readers of what an opening token is followed by, where one more is open
pub record Inner : Type 0 where
  pub whole : Parser Expr
  pub unary : Parser Expr
  pub specifiers : Parser Specifiers
  pub fields : Parser (List Field)

abbrev pub sees_step : List Token → Bool
sees_step ts = sees m.OpenBracket ts || sees m.Dot ts || sees m.Arrow ts

abbrev pub chained : Expr → List Link → Expr
chained a [] = a
chained a (x ∷ xs) = e.Chain a (x ∷ xs)

module _ (ns : Names) (n : ℕ) (inner : Inner) where
  -- ---- places
  unfoldable pub index : Parser Step
  index = do
    p ← opens n m.OpenBracket
    a ← inner.whole
    expect m.CloseBracket
    pure (step.Index p a)

  abbrev pub step_by : Option Punct → Parser Step
  step_by (Some m.OpenBracket) = index
  step_by (Some m.Dot) = do
    p ← expect m.Dot
    x ← any_name
    pure (step.Field p x)
  step_by (Some m.Arrow) = do
    p ← expect m.Arrow
    x ← any_name
    pure (step.Arrow p x)
  step_by _ = refuse

  unfoldable pub a_step : Parser Step
  a_step ts = step_by (mark_at ts) ts

  unfoldable pub steps : Parser (List Step)
  steps = many sees_step a_step

  unfoldable pub by_name : Parser Place
  by_name = do
    x ← variable ns
    ss ← steps
    pure (tree.place (at.Name x) ss)

  unfoldable pub through : Parser Place
  through = do
    p ← opens n m.OpenParen
    q ← expect m.Star
    x ← variable ns
    expect m.CloseParen
    ss ← steps
    pure (tree.place (at.Through p q x) ss)

  unfoldable pub star : Parser Place
  star = do
    p ← expect m.Star
    x ← variable ns
    pure (tree.place (at.Star p x) [])

  abbrev pub place_by : Option Punct → Parser Place
  place_by (Some m.OpenParen) = through
  place_by (Some m.Star) = star
  place_by _ = by_name

  unfoldable pub place : Parser Place
  place ts = place_by (mark_at ts) ts

  -- ---- types
  unfoldable pub body : Option Named → Parser Base
  body tag = do
    opens n m.OpenBrace
    fs ← inner.fields
    expect m.CloseBrace
    pure (b.Struct (tree.structure tag fs))

  abbrev pub tagged : Option Named → Parser Base
  tagged None = body None
  tagged (Some x) = λ ts. if sees m.OpenBrace (after ts) then body (Some x) (after ts) else Got (b.Tag x) (after ts)

  -- after the word `struct`
  unfoldable pub struct_or_tag : Parser Base
  struct_or_tag ts = tagged (name_at ts) ts

  unfoldable pub type_name : Parser Base
  type_name ts = if is_type_at ns (name_at ts) then (any_name >>= (λ x. pure (b.Named x))) ts else Stuck ts

  abbrev pub base_by : Option Keyword → Parser Base
  base_by (Some k.Void) = λ ts. Got b.Void (after ts)
  base_by (Some k.Struct) = λ ts. struct_or_tag (after ts)
  base_by (Some k) = do
    w ← scalar_word
    ws ← many sees_scalar scalar_word
    pure (b.Scalar (w ∷ ws))
  base_by None = type_name

  unfoldable pub base : Parser Base
  base ts = base_by (key_at ts) ts

  unfoldable pub specifiers : Parser Specifiers
  specifiers ts = (do
    qs ← many sees_qualifier qualifier
    b ← base
    pure (tree.specifiers (tree.pos_of ts) qs b)) ts

  unfoldable pub a_bound : Parser Bound
  a_bound = do
    p ← opens n m.OpenBracket
    a ← inner.whole
    expect m.CloseBracket
    pure (tree.bound p a)

  unfoldable pub declr : Parser Declr
  declr = do
    x ← any_name
    bs ← many (sees m.OpenBracket) a_bound
    pure (tree.declr x bs)

  unfoldable pub next_declr : Parser Declr
  next_declr = expect m.Comma >> declr

  unfoldable pub declrs : Parser (List Declr)
  declrs = do
    d ← declr
    ds ← many (sees m.Comma) next_declr
    pure (d ∷ ds)

  unfoldable pub field : Parser Field
  field = do
    t ← specifiers
    ds ← declrs
    expect m.Semicolon
    pure (tree.field t ds)

  abbrev pub no_brace : List Token → Bool
  no_brace ts = not (sees m.CloseBrace ts)

  unfoldable pub fields : Parser (List Field)
  fields = do
    f ← field
    fs ← many no_brace field
    pure (f ∷ fs)

  -- ---- expressions
  unfoldable pub cast : Parser Expr
  cast = do
    p ← opens n m.OpenParen
    t ← inner.specifiers
    expect m.CloseParen
    a ← inner.unary
    pure (e.Cast p t a)

  unfoldable pub bracket : Parser Expr
  bracket = do
    p ← opens n m.OpenParen
    a ← inner.whole
    expect m.CloseParen
    pure (e.Bracket p a)

  unfoldable pub a_place : Parser Expr
  a_place = place >>= (λ x. pure (e.Place x))

  -- at an opening bracket
  unfoldable pub bracketed : Parser Expr
  bracketed ts = if is_through (after ts) then a_place ts else (if begins_type ns (after ts) then cast ts else bracket ts)

  unfoldable pub prefixed : Prefix → Parser Expr
  prefixed op = do
    p ← opens_any n
    a ← inner.unary
    pure (e.Prefix op p a)

  abbrev pub prefix_by : Option Prefix → Parser Expr
  prefix_by None = refuse
  prefix_by (Some op) = prefixed op

  abbrev pub unary_mark : Punct → Parser Expr
  unary_mark m.OpenParen = bracketed
  unary_mark m.Star = a_place
  unary_mark m = prefix_by (prefix_of m)

  abbrev pub unary_by : Token → List Token → Read Expr
  unary_by t ts = elim t.word as (λ _. Read Expr) [ Name w ↦ a_place (t ∷ ts) | Number v u l d ↦ Got (e.Number v u l d t.pos) ts | Key k ↦ Stuck (t ∷ ts) | Mark m ↦ unary_mark m (t ∷ ts) ]

  unfoldable pub unary : Parser Expr
  unary [] = Stuck []
  unary (t ∷ ts) = unary_by t ts

  unfoldable pub a_link : Parser Expr → Parser Link
  a_link operand ts = (do
    op ← operator
    a ← operand
    pure (tree.link op (tree.pos_of ts) a)) ts

  unfoldable pub chain : ℕ → Parser Expr → Parser Expr
  chain l operand = do
    a ← operand
    xs ← many (sees_operator (suc l)) (a_link operand)
    pure (chained a xs)

  unfoldable pub ranked : ℕ → Parser Expr
  ranked zero = unary
  ranked (suc l) = chain l (ranked l)

  unfoldable pub choice : Expr → Parser Expr
  choice c = do
    p ← opens n m.Question
    a ← inner.whole
    expect m.Colon
    b ← inner.whole
    pure (e.Choice c p a b)

  abbrev pub choice_or : Expr → Parser Expr
  choice_or c ts = if sees m.Question ts then choice c ts else Got c ts

  unfoldable pub whole : Parser Expr
  whole = ranked loosest >>= choice_or

-- where nothing more may be open
abbrev pub too_deep : Inner
too_deep = record { whole = λ ts. Deep ts; unary = λ ts. Deep ts; specifiers = λ ts. Deep ts; fields = λ ts. Deep ts }

abbrev pub layer : Names → ℕ → Inner → Inner
layer ns n inner = record { whole = whole ns n inner; unary = unary ns n inner; specifiers = specifiers ns n inner; fields = fields ns n inner }

-- the readers one deeper than where that many more may be open
unfoldable pub inside : Names → ℕ → Inner
inside ns zero = too_deep
inside ns (suc n) = layer ns n (inside ns n)
