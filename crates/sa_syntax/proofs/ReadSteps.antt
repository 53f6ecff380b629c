-- One step of each rule of the reader of expressions, from what its parts read.
use Rattle.std.proofs.Common.{◌≡◌, ℕ, zero, suc, ◌<◌, List, [], ◌∷◌, ◌++◌, Bool, true, false, Option, Some, None, length, refl, sym, ap, ◌∙◌, append_assoc, append-nil, arith}
use Rattle.sa_base.specs.declared.pos.Pos.{Pos}
use Rattle.sa_tokens.specs.declared.keyword.Keyword.{Keyword}
use Rattle.sa_tokens.specs.declared.keyword.Keyword.TheVariants as k
use Rattle.sa_tokens.specs.declared.punct.Punct.{Punct}
use Rattle.sa_tokens.specs.declared.punct.Punct.TheVariants as m
use Rattle.sa_tokens.specs.declared.token.Token.{Token}
use Rattle.sa_syntax.specs.declared.decl.Name.{Name as Named}
use Rattle.sa_syntax.specs.declared.decl.Base.{Base}
use Rattle.sa_syntax.specs.declared.decl.Base.TheVariants as b
use Rattle.sa_syntax.specs.declared.decl.Bound.{Bound}
use Rattle.sa_syntax.specs.declared.decl.Declr.{Declr}
use Rattle.sa_syntax.specs.declared.decl.Field.{Field}
use Rattle.sa_syntax.specs.declared.decl.Qualified.{Qualified}
use Rattle.sa_syntax.specs.declared.decl.Qualifier.{Qualifier}
use Rattle.sa_syntax.specs.declared.decl.ScalarWord.{ScalarWord}
use Rattle.sa_syntax.specs.declared.decl.Specifiers.{Specifiers}
use Rattle.sa_syntax.specs.declared.expr.Expr.{Expr}
use Rattle.sa_syntax.specs.declared.expr.Expr.TheVariants as e
use Rattle.sa_syntax.specs.declared.expr.Link.{Link}
use Rattle.sa_syntax.specs.declared.expr.Operator.{Operator}
use Rattle.sa_syntax.specs.declared.expr.Place.{Place}
use Rattle.sa_syntax.specs.declared.expr.PlaceBase.TheVariants as at
use Rattle.sa_syntax.specs.declared.expr.Prefix.{Prefix}
use Rattle.sa_syntax.specs.declared.expr.Step.{Step}
use Rattle.sa_syntax.specs.declared.expr.Step.TheVariants as step
use Rattle.sa_syntax.specs.Trees as tree
use Rattle.sa_syntax.specs.Words.{Names, mark, key, word, literal, named, is_type_name, is_through, prefix_of, operator_of, loosest, qualifier_of, scalar_of}
use Rattle.sa_syntax.specs.Expressions.{Place'}
use Rattle.sa_syntax.specs.Reading.{Parser, Got, same_mark, sees, expect, opens_any, opens, any_name, variable, name_at, key_at, mark_at, turns, while_from}
use Rattle.sa_syntax.specs.ReadExpr as read
use Rattle.sa_syntax.specs.ReadExpr.{Inner, sees_step, sees_qualifier, sees_scalar, sees_operator, begins_type, chained}
use Rattle.sa_syntax.proofs.Front.{type-no_mark, no_mark-through}

-- ---- lists
-- a loop reads these items, whatever was found before, in any number of turns that is more than the tokens
pub record Loops {A : Type 0} (goes : List Token → Bool) (item : Parser A) (ts : List Token) (xs : List A) (us : List Token) : Type 0 where
  pub read : (n : ℕ) → length ts < n → (found : List A) → while_from goes item n found ts ≡ Got (found ++ xs) us

stop-read : {A : Type 0} (goes : List Token → Bool) (item : Parser A) (us : List Token) → goes us ≡ false → (n : ℕ) → length us < n → (found : List A) → while_from goes item n found us ≡ Got (found ++ []) us
unfolding while_from
stop-read goes item us h zero less found = absurd (omega arith)
stop-read goes item us h (suc n) less found = rw h (ap (λ xs. Got xs us) (sym (append-nil found)))

pub loop-stops : {A : Type 0} {goes : List Token → Bool} {item : Parser A} {us : List Token} → goes us ≡ false → Loops goes item us [] us
loop-stops {goes = goes} {item = item} {us = us} h = record { read = stop-read goes item us h }

step-read : {A : Type 0} (goes : List Token → Bool) (item : Parser A) (ts us vs : List Token) (x : A) (xs : List A) → goes ts ≡ true → item ts ≡ Got x us → length us < length ts → Loops goes item us xs vs →
    (n : ℕ) → length ts < n → (found : List A) → while_from goes item n found ts ≡ Got (found ++ (x ∷ xs)) vs
unfolding while_from
step-read goes item ts us vs x xs h one shorter more zero less found = absurd (omega arith)
step-read goes item ts us vs x xs h one shorter more (suc n) less found = rw (h, one) (more.read n (omega arith) (found ++ x ∷ []) ∙ ap (λ ys. Got ys vs) (append_assoc found (x ∷ []) xs))

pub loop-goes : {A : Type 0} {goes : List Token → Bool} {item : Parser A} {ts us vs : List Token} {x : A} {xs : List A} → goes ts ≡ true → item ts ≡ Got x us → length us < length ts → Loops goes item us xs vs → Loops goes item ts (x ∷ xs) vs
loop-goes {goes = goes} {item = item} {ts = ts} {us = us} {vs = vs} {x = x} {xs = xs} h one shorter more = record { read = step-read goes item ts us vs x xs h one shorter more }

pub many-reads : {A : Type 0} {goes : List Token → Bool} {item : Parser A} {ts : List Token} {xs : List A} {us : List Token} → Loops goes item ts xs us → while_from goes item (turns ts) [] ts ≡ Got xs us
many-reads {ts = ts} l = l.read (turns ts) (omega arith) []

-- ---- words of types
pub qualifier-reads : (kw : Keyword) (q : Qualifier) (p : Pos) (us : List Token) → qualifier_of kw ≡ Some q → read.qualifier (key kw p ∷ us) ≡ Got (tree.qualified q p) us
unfolding read.qualifier key_at
qualifier-reads kw q p us h = rw h refl

pub qualifier-sees : (kw : Keyword) (q : Qualifier) (p : Pos) (us : List Token) → qualifier_of kw ≡ Some q → sees_qualifier (key kw p ∷ us) ≡ true
unfolding sees_qualifier key_at
qualifier-sees kw q p us h = rw h refl

pub word-reads : (kw : Keyword) (w : ScalarWord) (p : Pos) (us : List Token) → scalar_of kw ≡ Some w → read.scalar_word (key kw p ∷ us) ≡ Got w us
unfolding read.scalar_word key_at
word-reads kw w p us h = rw h refl

pub word-sees : (kw : Keyword) (w : ScalarWord) (p : Pos) (us : List Token) → scalar_of kw ≡ Some w → sees_scalar (key kw p ∷ us) ≡ true
unfolding sees_scalar key_at
word-sees kw w p us h = rw h refl

module _ (ns : Names) (n : ℕ) (inner : Inner) where
  -- ---- places
  pub index-reads : (ts us : List Token) (p q : Pos) (a : Expr) → inner.whole ts ≡ Got a (mark m.CloseBracket q ∷ us) → read.a_step ns (suc n) inner (mark m.OpenBracket p ∷ ts) ≡ Got (step.Index p a) us
  unfolding read.a_step read.index opens sees same_mark opens_any expect mark_at
  index-reads ts us p q a h = rw h refl

  pub dot-reads : (us : List Token) (p q : Pos) (w : List ℕ) → read.a_step ns n inner (mark m.Dot p ∷ word w q ∷ us) ≡ Got (step.Field p (named w q)) us
  unfolding read.a_step same_mark expect mark_at any_name name_at
  dot-reads us p q w = refl

  pub arrow-reads : (us : List Token) (p q : Pos) (w : List ℕ) → read.a_step ns n inner (mark m.Arrow p ∷ word w q ∷ us) ≡ Got (step.Arrow p (named w q)) us
  unfolding read.a_step same_mark expect mark_at any_name name_at
  arrow-reads us p q w = refl

  pub name-reads : (us vs : List Token) (p : Pos) (w : List ℕ) (ss : List Step) → is_type_name ns w ≡ false → Loops sees_step (read.a_step ns n inner) us ss vs → read.place ns n inner (word w p ∷ us) ≡ Got (tree.place (at.Name (named w p)) ss) vs
  unfolding read.place read.by_name read.steps mark_at variable name_at
  name-reads us vs p w ss h s = rw (h, many-reads s) refl

  pub through-reads : (us vs : List Token) (p q r s : Pos) (w : List ℕ) (ss : List Step) → is_type_name ns w ≡ false → Loops sees_step (read.a_step ns (suc n) inner) us ss vs →
      read.place ns (suc n) inner (mark m.OpenParen p ∷ mark m.Star q ∷ word w r ∷ mark m.CloseParen s ∷ us) ≡ Got (tree.place (at.Through p q (named w r)) ss) vs
  unfolding read.place read.through read.steps mark_at variable name_at opens sees same_mark opens_any expect
  through-reads us vs p q r s w ss h l = rw (h, many-reads l) refl

  pub star-reads : (us : List Token) (p q : Pos) (w : List ℕ) → is_type_name ns w ≡ false → read.place ns n inner (mark m.Star p ∷ word w q ∷ us) ≡ Got (tree.place (at.Star p (named w q)) []) us
  unfolding read.place read.star mark_at variable name_at same_mark expect
  star-reads us p q w h = rw h refl

  -- ---- types
  pub type-reads : (ts us vs : List Token) (qs : List Qualified) (x : Base) → Loops sees_qualifier read.qualifier ts qs us → read.base ns n inner us ≡ Got x vs → read.specifiers ns n inner ts ≡ Got (tree.specifiers (tree.pos_of ts) qs x) vs
  unfolding read.specifiers
  type-reads ts us vs qs x q h = rw (many-reads q, h) refl

  base_by-scalar : (kw : Keyword) (w : ScalarWord) → scalar_of kw ≡ Some w → read.base_by ns n inner (Some kw) ≡ read.base_by ns n inner (Some k.Int)
  base_by-scalar k.Void w h = cc
  base_by-scalar k.Struct w h = cc
  base_by-scalar _ w h = refl

  pub scalar-reads : (kw : Keyword) (w : ScalarWord) (p : Pos) (us vs : List Token) (ws : List ScalarWord) → scalar_of kw ≡ Some w → Loops sees_scalar read.scalar_word us ws vs → read.base ns n inner (key kw p ∷ us) ≡ Got (b.Scalar (w ∷ ws)) vs
  unfolding read.base key_at
  scalar-reads kw w p us vs ws h l = ap (λ r. r (key kw p ∷ us)) (base_by-scalar kw w h) ∙ rw (word-reads kw w p us h, many-reads l) refl

  pub void-reads : (us : List Token) (p : Pos) → read.base ns n inner (key k.Void p ∷ us) ≡ Got b.Void us
  unfolding read.base key_at
  void-reads us p = refl

  pub tag-reads : (us : List Token) (p q : Pos) (w : List ℕ) → sees m.OpenBrace us ≡ false → read.base ns n inner (key k.Struct p ∷ word w q ∷ us) ≡ Got (b.Tag (named w q)) us
  unfolding read.base read.struct_or_tag key_at name_at
  tag-reads us p q w h = rw h refl

  pub type_name-reads : (us : List Token) (p : Pos) (w : List ℕ) → is_type_name ns w ≡ true → read.base ns n inner (word w p ∷ us) ≡ Got (b.Named (named w p)) us
  unfolding read.base read.type_name key_at name_at any_name
  type_name-reads us p w h = rw h refl

  -- the fields of a structure, from the brace on
  pub body-reads : (tag : Option Named) (ts us : List Token) (r s : Pos) (fs : List Field) → inner.fields ts ≡ Got fs (mark m.CloseBrace s ∷ us) → read.body ns (suc n) inner tag (mark m.OpenBrace r ∷ ts) ≡ Got (b.Struct (tree.structure tag fs)) us
  unfolding read.body opens sees same_mark opens_any expect
  body-reads tag ts us r s fs h = rw h refl

  pub tagged-reads : (ts us : List Token) (p q r s : Pos) (w : List ℕ) (fs : List Field) → inner.fields ts ≡ Got fs (mark m.CloseBrace s ∷ us) →
      read.base ns (suc n) inner (key k.Struct p ∷ word w q ∷ mark m.OpenBrace r ∷ ts) ≡ Got (b.Struct (tree.structure (Some (named w q)) fs)) us
  unfolding read.base read.struct_or_tag key_at name_at sees same_mark
  tagged-reads ts us p q r s w fs h = body-reads (Some (named w q)) ts us r s fs h

  pub plain-reads : (ts us : List Token) (p r s : Pos) (fs : List Field) → inner.fields ts ≡ Got fs (mark m.CloseBrace s ∷ us) →
      read.base ns (suc n) inner (key k.Struct p ∷ mark m.OpenBrace r ∷ ts) ≡ Got (b.Struct (tree.structure None fs)) us
  unfolding read.base read.struct_or_tag key_at name_at
  plain-reads ts us p r s fs h = body-reads None ts us r s fs h

  pub bound-reads : (ts us : List Token) (p q : Pos) (a : Expr) → inner.whole ts ≡ Got a (mark m.CloseBracket q ∷ us) → read.a_bound ns (suc n) inner (mark m.OpenBracket p ∷ ts) ≡ Got (tree.bound p a) us
  unfolding read.a_bound opens sees same_mark opens_any expect
  bound-reads ts us p q a h = rw h refl

  pub declr-reads : (us vs : List Token) (p : Pos) (w : List ℕ) (bs : List Bound) → Loops (sees m.OpenBracket) (read.a_bound ns n inner) us bs vs → read.declr ns n inner (word w p ∷ us) ≡ Got (tree.declr (named w p) bs) vs
  unfolding read.declr any_name name_at
  declr-reads us vs p w bs l = rw (many-reads l) refl

  pub next_declr-reads : (us vs : List Token) (p : Pos) (d : Declr) → read.declr ns n inner us ≡ Got d vs → read.next_declr ns n inner (mark m.Comma p ∷ us) ≡ Got d vs
  unfolding read.next_declr expect same_mark
  next_declr-reads us vs p d h = h

  pub declrs-reads : (ts us vs : List Token) (d : Declr) (ds : List Declr) → read.declr ns n inner ts ≡ Got d us → Loops (sees m.Comma) (read.next_declr ns n inner) us ds vs → read.declrs ns n inner ts ≡ Got (d ∷ ds) vs
  unfolding read.declrs
  declrs-reads ts us vs d ds h l = rw (h, many-reads l) refl

  pub field-reads : (ts us vs : List Token) (p : Pos) (t : Specifiers) (ds : List Declr) → read.specifiers ns n inner ts ≡ Got t us → read.declrs ns n inner us ≡ Got ds (mark m.Semicolon p ∷ vs) → read.field ns n inner ts ≡ Got (tree.field t ds) vs
  unfolding read.field expect same_mark
  field-reads ts us vs p t ds h i = rw (h, i) refl

  pub fields-reads : (ts us vs : List Token) (f : Field) (fs : List Field) → read.field ns n inner ts ≡ Got f us → Loops (read.no_brace ns n inner) (read.field ns n inner) us fs vs → read.fields ns n inner ts ≡ Got (f ∷ fs) vs
  unfolding read.fields
  fields-reads ts us vs f fs h l = rw (h, many-reads l) refl

  -- ---- expressions
  pub number-reads : (us : List Token) (p : Pos) (v l : ℕ) (u d : Bool) → read.unary ns n inner (literal v u l d p ∷ us) ≡ Got (e.Number v u l d p) us
  unfolding read.unary
  number-reads us p v l u d = refl

  prefix-mark : (mk : Punct) (op : Prefix) (ts : List Token) → prefix_of mk ≡ Some op → read.unary_mark ns n inner mk ts ≡ read.prefixed ns n inner op ts
  prefix-mark m.OpenParen op ts h = cc
  prefix-mark m.Star op ts h = cc
  prefix-mark _ op ts h = ap (λ o. read.prefix_by ns n inner o ts) h

  prefixed-reads : (us vs : List Token) (p : Pos) (mk : Punct) (op : Prefix) (a : Expr) → inner.unary us ≡ Got a vs → read.prefixed ns (suc n) inner op (mark mk p ∷ us) ≡ Got (e.Prefix op p a) vs
  unfolding read.prefixed opens_any
  prefixed-reads us vs p mk op a h = rw h refl

  pub cast-reads : (ts us vs : List Token) (p q : Pos) (t : Specifiers) (a : Expr) → begins_type ns ts ≡ true → inner.specifiers ts ≡ Got t (mark m.CloseParen q ∷ us) → inner.unary us ≡ Got a vs → read.unary ns (suc n) inner (mark m.OpenParen p ∷ ts) ≡ Got (e.Cast p t a) vs
  unfolding read.unary read.bracketed read.cast opens sees same_mark opens_any expect
  cast-reads ts us vs p q t a h i j = rw (no_mark-through ts (type-no_mark ns ts h), h, i, j) refl

  pub bracket-reads : (ts us : List Token) (p q : Pos) (a : Expr) → is_through ts ≡ false → begins_type ns ts ≡ false → inner.whole ts ≡ Got a (mark m.CloseParen q ∷ us) → read.unary ns (suc n) inner (mark m.OpenParen p ∷ ts) ≡ Got (e.Bracket p a) us
  unfolding read.unary read.bracketed read.bracket opens sees same_mark opens_any expect
  bracket-reads ts us p q a t h i = rw (t, h, i) refl

  pub unary-ranked : (ts : List Token) → read.ranked ns n inner zero ts ≡ read.unary ns n inner ts
  unfolding read.ranked
  unary-ranked ts = refl

  pub link-reads : (us vs : List Token) (p : Pos) (mk : Punct) (op : Operator) (a : Expr) (operand : Parser Expr) → operator_of mk ≡ Some op → operand us ≡ Got a vs → read.a_link ns n inner operand (mark mk p ∷ us) ≡ Got (tree.link op p a) vs
  unfolding read.a_link read.operator mark_at
  link-reads us vs p mk op a operand o h = rw (o, h) refl

  pub chain-reads : (l : ℕ) (ts us vs : List Token) (a : Expr) (xs : List Link) → read.ranked ns n inner l ts ≡ Got a us → Loops (sees_operator (suc l)) (read.a_link ns n inner (read.ranked ns n inner l)) us xs vs → read.ranked ns n inner (suc l) ts ≡ Got (chained a xs) vs
  unfolding read.ranked read.chain
  chain-reads l ts us vs a xs h i = rw (h, many-reads i) refl

  pub binary-reads : (ts us : List Token) (a : Expr) → read.ranked ns n inner loosest ts ≡ Got a us → sees m.Question us ≡ false → read.whole ns n inner ts ≡ Got a us
  unfolding read.whole
  binary-reads ts us a h none = rw (h, none) refl

  pub choice-reads : (ts us vs ws : List Token) (p q : Pos) (c x y : Expr) → read.ranked ns (suc n) inner loosest ts ≡ Got c (mark m.Question p ∷ us) → inner.whole us ≡ Got x (mark m.Colon q ∷ vs) → inner.whole vs ≡ Got y ws → read.whole ns (suc n) inner ts ≡ Got (e.Choice c p x y) ws
  unfolding read.whole read.choice opens sees same_mark opens_any expect
  choice-reads ts us vs ws p q c x y h i j = rw (h, i, j) refl

module _ (ns : Names) (n : ℕ) (inner : Inner) where
  pub prefix-reads : (us vs : List Token) (p : Pos) (mk : Punct) (op : Prefix) (a : Expr) → prefix_of mk ≡ Some op → inner.unary us ≡ Got a vs → read.unary ns (suc n) inner (mark mk p ∷ us) ≡ Got (e.Prefix op p a) vs
  unfolding read.unary
  prefix-reads us vs p mk op a h i = prefix-mark ns (suc n) inner mk op (mark mk p ∷ us) h ∙ prefixed-reads ns n inner us vs p mk op a i

pub place-unary : (ns : Names) (n : ℕ) (inner : Inner) (ts us : List Token) (x : Place) → Place' ns n ts x us → read.place ns n inner ts ≡ Got x us → read.unary ns n inner ts ≡ Got (e.Place x) us
unfolding read.unary read.bracketed read.a_place is_through
place-unary ns n inner ts us x (Place'.name h s) i = rw i refl
place-unary ns n inner ts us x (Place'.through h s) i = rw i refl
place-unary ns n inner ts us x (Place'.star h) i = rw i refl
