-- What the first token of a text can be.
use Rattle.std.proofs.Common.{◌≡◌, ℕ, suc, ◌≤◌, List, [], ◌∷◌, true, false, Some, None, refl, sym, ap, ◌∙◌, arith}
use denote.Enum.Bare.{same_true, true_same}
use Rattle.std.proofs.lemmas.Bool.{false_from_ne_true}
use Rattle.std.proofs.lemmas.Bool.Decides.{nat_tests}
use Rattle.sa_base.specs.declared.pos.Pos.{Pos}
use Rattle.sa_tokens.specs.contracts.punct.Punct.{the_type}
use Rattle.sa_tokens.specs.declared.keyword.Keyword.{Keyword}
use Rattle.sa_tokens.specs.declared.keyword.Keyword.TheVariants as k
use Rattle.sa_tokens.specs.declared.punct.Punct.{Punct}
use Rattle.sa_tokens.specs.declared.punct.Punct.TheVariants as m
use Rattle.sa_tokens.specs.declared.token.Word.{Word}
use Rattle.sa_tokens.specs.declared.token.Word.TheVariants.{Name, Number, Key, Mark}
use Rattle.sa_tokens.specs.declared.token.Token.{Token}
use Rattle.sa_syntax.specs.declared.decl.ScalarWord.{ScalarWord}
use Rattle.sa_syntax.specs.declared.decl.Base.{Base}
use Rattle.sa_syntax.specs.declared.decl.Declr.{Declr}
use Rattle.sa_syntax.specs.declared.decl.Specifiers.{Specifiers}
use Rattle.sa_syntax.specs.declared.decl.Struct.{Struct}
use Rattle.sa_syntax.specs.declared.expr.Expr.{Expr}
use Rattle.sa_syntax.specs.declared.expr.Link.{Link}
use Rattle.sa_syntax.specs.declared.expr.Operator.{Operator}
use Rattle.sa_syntax.specs.declared.expr.Place.{Place}
use Rattle.sa_syntax.specs.Words.{Names, mark, is_through, operator_of, level_of, loosest, qualifier_of, scalar_of}
use Rattle.sa_syntax.specs.Expressions.{Whole, Ranked, Links, Unary, Place', Specifiers', Base', Struct', Declrs, Declr', Qualifiers, ScalarWords}
use Rattle.sa_syntax.specs.Reading.{same_mark, is_mark, sees, name_at, key_at, mark_at, mark_by}
use Rattle.sa_syntax.specs.ReadExpr.{sees_step, sees_qualifier, sees_scalar, begins_type, sees_operator}
use Rattle.sa_syntax.specs.ExprLaws.{EndsExpr, EndsType, EndsDeclrs}

-- ---- marks
pub same_mark-same : (m : Punct) → same_mark m m ≡ true
unfolding same_mark
same_mark-same m = true_same the_type m m refl

-- the mark itself is seen
pub mark-seen : (mk : Punct) (p : Pos) (us : List Token) → sees mk (mark mk p ∷ us) ≡ true
unfolding sees
mark-seen mk p us = same_mark-same mk

pub same_mark-true : (a b : Punct) → same_mark a b ≡ true → a ≡ b
unfolding same_mark
same_mark-true a b h = same_true the_type tt a b h

-- an operator is no other mark
pub operator-no_mark : (a mk : Punct) (op : Operator) → operator_of mk ≡ Some op → operator_of a ≡ None → same_mark a mk ≡ false
operator-no_mark a mk op o none = false_from_ne_true (same_mark a mk) (λ y. let e = sym none ∙ ap operator_of (same_mark-true a mk y) ∙ o in cc)

-- ---- types
pub qualifier-no_scalar : (kw : Keyword) (q : ScalarWord) → scalar_of kw ≡ Some q → qualifier_of kw ≡ None
qualifier-no_scalar k.Const q h = cc
qualifier-no_scalar k.Volatile q h = cc
qualifier-no_scalar k.Static q h = cc
qualifier-no_scalar _ q h = refl

pub record BeginsBase (ns : Names) (ts : List Token) : Type 0 where
  pub begins : begins_type ns ts ≡ true
  pub no_qualifier : sees_qualifier ts ≡ false

struct-begins : {ns : Names} {n : ℕ} {ts : List Token} {s : Struct} {us : List Token} → Struct' ns n ts s us → BeginsBase ns ts
unfolding begins_type sees_qualifier sees_scalar key_at name_at
struct-begins (Struct'.tagged f) = record { begins = refl; no_qualifier = refl }
struct-begins (Struct'.plain f) = record { begins = refl; no_qualifier = refl }

pub base-begins : {ns : Names} {n : ℕ} {ts : List Token} {b : Base} {us : List Token} → Base' ns n ts b us → BeginsBase ns ts
unfolding begins_type sees_qualifier sees_scalar key_at name_at
base-begins (Base'.scalar (ScalarWords.scalar_word {kw = kw} {w = w} e ws)) =
    let none = qualifier-no_scalar kw w e in record { begins = rw (none, e) refl; no_qualifier = rw none refl }
base-begins Base'.void = record { begins = refl; no_qualifier = refl }
base-begins Base'.tag = record { begins = refl; no_qualifier = refl }
base-begins (Base'.structure s) = struct-begins s
base-begins (Base'.type_name h) = record { begins = h; no_qualifier = refl }

pub type-begins : {ns : Names} {n : ℕ} {ts : List Token} {t : Specifiers} {us : List Token} → Specifiers' ns n ts t us → begins_type ns ts ≡ true
unfolding begins_type sees_qualifier sees_scalar key_at name_at
type-begins (Specifiers'.specifiers Qualifiers.no_qualifier b) = (base-begins b).begins
type-begins (Specifiers'.specifiers (Qualifiers.qualifier e q) b) = rw e refl

-- a type begins with no mark
type-no_mark_by : (ns : Names) (w : Word) (p : Pos) (ts : List Token) → begins_type ns (record { word = w; pos = p } ∷ ts) ≡ true → mark_by w ≡ None
unfolding begins_type sees_qualifier sees_scalar key_at name_at
type-no_mark_by ns (Name w) p ts h = refl
type-no_mark_by ns (Number v u l d) p ts h = refl
type-no_mark_by ns (Key kw) p ts h = refl
type-no_mark_by ns (Mark mk) p ts h = cc

pub type-no_mark : (ns : Names) (ts : List Token) → begins_type ns ts ≡ true → mark_at ts ≡ None
unfolding mark_at
type-no_mark ns [] h = refl
type-no_mark ns (t ∷ ts) h = type-no_mark_by ns t.word t.pos ts h

no_mark-through_by : (w : Word) (p : Pos) (ts : List Token) → mark_by w ≡ None → is_through (record { word = w; pos = p } ∷ ts) ≡ false
unfolding is_through
no_mark-through_by (Name w) p ts h = refl
no_mark-through_by (Number v u l d) p ts h = refl
no_mark-through_by (Key kw) p ts h = refl
no_mark-through_by (Mark mk) p ts h = cc

pub no_mark-through : (ts : List Token) → mark_at ts ≡ None → is_through ts ≡ false
unfolding mark_at is_through
no_mark-through [] h = refl
no_mark-through (t ∷ ts) h = no_mark-through_by t.word t.pos ts h

no_mark-sees_by : (a : Punct) (w : Word) → mark_by w ≡ None → is_mark a w ≡ false
no_mark-sees_by a (Name w) h = refl
no_mark-sees_by a (Number v u l d) h = refl
no_mark-sees_by a (Key kw) h = refl
no_mark-sees_by a (Mark mk) h = cc

pub no_mark-sees : (a : Punct) (ts : List Token) → mark_at ts ≡ None → sees a ts ≡ false
unfolding mark_at sees
no_mark-sees a [] h = refl
no_mark-sees a (t ∷ ts) h = no_mark-sees_by a t.word h

-- a type goes on no further where names are declared
pub declr-ends_type : {ns : Names} {n : ℕ} {ts : List Token} {d : Declr} {us : List Token} → Declr' ns n ts d us → EndsType ts
unfolding sees sees_scalar key_at
declr-ends_type (Declr'.declr b) = record { no_word = refl; no_brace = refl }

pub declrs-ends_type : {ns : Names} {n : ℕ} {ts : List Token} {ds : List Declr} {us : List Token} → Declrs ns n ts ds us → EndsType ts
declrs-ends_type (Declrs.last_declr d) = declr-ends_type d
declrs-ends_type (Declrs.next_declr d ds) = declr-ends_type d

-- ---- expressions begin with no type
pub place-no_type : {ns : Names} {n : ℕ} {ts : List Token} {x : Place} {us : List Token} → Place' ns n ts x us → begins_type ns ts ≡ false
unfolding begins_type sees_qualifier sees_scalar key_at name_at
place-no_type (Place'.name h s) = h
place-no_type (Place'.through h s) = refl
place-no_type (Place'.star h) = refl

pub unary-no_type : {ns : Names} {n : ℕ} {ts : List Token} {a : Expr} {us : List Token} → Unary ns n ts a us → begins_type ns ts ≡ false
unfolding begins_type sees_qualifier sees_scalar key_at name_at
unary-no_type (Unary.prefix o u) = refl
unary-no_type (Unary.cast t u) = refl
unary-no_type Unary.number = refl
unary-no_type (Unary.place x) = place-no_type x
unary-no_type (Unary.bracket w h) = refl

pub ranked-no_type : {ns : Names} {n l : ℕ} {ts : List Token} {a : Expr} {us : List Token} → Ranked ns n l ts a us → begins_type ns ts ≡ false
ranked-no_type (Ranked.unary u) = unary-no_type u
ranked-no_type (Ranked.alone r) = ranked-no_type r
ranked-no_type (Ranked.chain r xs) = ranked-no_type r

pub whole-no_type : {ns : Names} {n : ℕ} {ts : List Token} {a : Expr} {us : List Token} → Whole ns n ts a us → begins_type ns ts ≡ false
whole-no_type (Whole.binary r) = ranked-no_type r
whole-no_type (Whole.choice c a b) = ranked-no_type c

-- ---- where operators of a level end
pub record EndsLevel (l : ℕ) (us : List Token) : Type 0 where
  pub no_step : sees_step us ≡ false
  pub no_operator : (j : ℕ) → j ≤ l → sees_operator j us ≡ false

pub level-of_expr : (us : List Token) → EndsExpr us → EndsLevel loosest us
unfolding sees_operator
level-of_expr us e = record { no_step = e.no_step; no_operator = λ j h. rw e.no_operator refl }

pub operator-no_step : (mk : Punct) (op : Operator) (p : Pos) (us : List Token) → operator_of mk ≡ Some op → sees_step (mark mk p ∷ us) ≡ false
unfolding sees
operator-no_step mk op p us o = rw (operator-no_mark m.OpenBracket mk op o refl, operator-no_mark m.Dot mk op o refl, operator-no_mark m.Arrow mk op o refl) refl

pub operator-sees : (mk : Punct) (op : Operator) (l : ℕ) (p : Pos) (us : List Token) → operator_of mk ≡ Some op → level_of op ≡ l → sees_operator l (mark mk p ∷ us) ≡ true
unfolding sees_operator mark_at
operator-sees mk op l p us o h = rw o (grind (arith, nat_tests))

pub operator-other : (mk : Punct) (op : Operator) (l j : ℕ) (p : Pos) (us : List Token) → operator_of mk ≡ Some op → level_of op ≡ suc l → j ≤ l → sees_operator j (mark mk p ∷ us) ≡ false
unfolding sees_operator mark_at
operator-other mk op l j p us o h less = rw o (grind (arith, nat_tests))

pub links-end : {ns : Names} {n l : ℕ} {ts : List Token} {xs : List Link} {us : List Token} → Links ns n l ts xs us → EndsLevel (suc l) us → EndsLevel l ts
links-end Links.no_link e = record { no_step = e.no_step; no_operator = λ j h. e.no_operator j (omega arith) }
links-end (Links.link {l = l} {us = us} {p = p} {mk = mk} {op = op} o h r xs) e =
    record { no_step = operator-no_step mk op p us o; no_operator = λ j less. operator-other mk op l j p us o h less }

-- ---- marks that end an expression
pub ends-close_paren : (p : Pos) (us : List Token) → EndsExpr (mark m.CloseParen p ∷ us)
unfolding sees same_mark mark_at
ends-close_paren p us = record { no_step = refl; no_operator = refl; no_choice = refl }

pub ends-close_bracket : (p : Pos) (us : List Token) → EndsExpr (mark m.CloseBracket p ∷ us)
unfolding sees same_mark mark_at
ends-close_bracket p us = record { no_step = refl; no_operator = refl; no_choice = refl }

pub ends-colon : (p : Pos) (us : List Token) → EndsExpr (mark m.Colon p ∷ us)
unfolding sees same_mark mark_at
ends-colon p us = record { no_step = refl; no_operator = refl; no_choice = refl }

pub ends-question : (p : Pos) (us : List Token) → EndsLevel loosest (mark m.Question p ∷ us)
unfolding sees same_mark mark_at sees_operator
ends-question p us = record { no_step = refl; no_operator = λ j h. refl }

pub type_ends-close_paren : (p : Pos) (us : List Token) → EndsType (mark m.CloseParen p ∷ us)
unfolding sees same_mark key_at sees_scalar
type_ends-close_paren p us = record { no_word = refl; no_brace = refl }

pub declrs_end-semicolon : (p : Pos) (us : List Token) → EndsDeclrs (mark m.Semicolon p ∷ us)
unfolding sees same_mark
declrs_end-semicolon p us = record { no_bound = refl; no_comma = refl }
