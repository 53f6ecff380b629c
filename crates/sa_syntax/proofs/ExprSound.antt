-- What is read is in the grammar.
use Rattle.std.proofs.Common.{◌≡◌, ℕ, zero, suc, List, [], ◌∷◌, true, false, cond, refl, sym, subst, Option, Some, None}
use Rattle.std.proofs.lemmas.Bool.{eqb-true}
use Rattle.sa_base.specs.declared.pos.Pos.{Pos}
use Rattle.sa_tokens.specs.declared.keyword.Keyword.{Keyword}
use Rattle.sa_tokens.specs.declared.keyword.Keyword.TheVariants as k
use Rattle.sa_tokens.specs.declared.punct.Punct.{Punct}
use Rattle.sa_tokens.specs.declared.punct.Punct.TheVariants as m
use Rattle.sa_tokens.specs.declared.token.Word.{Word}
use Rattle.sa_tokens.specs.declared.token.Word.TheVariants.{Name, Number, Key, Mark}
use Rattle.sa_tokens.specs.declared.token.Token.{Token}
use Rattle.sa_syntax.specs.declared.decl.Name.{Name as Named}
use Rattle.sa_syntax.specs.declared.decl.Specifiers.{Specifiers}
use Rattle.sa_syntax.specs.declared.decl.Qualified.{Qualified}
use Rattle.sa_syntax.specs.declared.decl.Qualifier.{Qualifier}
use Rattle.sa_syntax.specs.declared.decl.ScalarWord.{ScalarWord}
use Rattle.sa_syntax.specs.declared.decl.Base.{Base}
use Rattle.sa_syntax.specs.declared.decl.Base.TheVariants as b
use Rattle.sa_syntax.specs.declared.decl.Struct.{Struct}
use Rattle.sa_syntax.specs.declared.decl.Field.{Field}
use Rattle.sa_syntax.specs.declared.decl.Declr.{Declr}
use Rattle.sa_syntax.specs.declared.decl.Bound.{Bound}
use Rattle.sa_syntax.specs.declared.expr.Expr.{Expr}
use Rattle.sa_syntax.specs.declared.expr.Expr.TheVariants as e
use Rattle.sa_syntax.specs.declared.expr.Operator.{Operator}
use Rattle.sa_syntax.specs.declared.expr.Prefix.{Prefix}
use Rattle.sa_syntax.specs.declared.expr.Link.{Link}
use Rattle.sa_syntax.specs.declared.expr.Place.{Place}
use Rattle.sa_syntax.specs.declared.expr.PlaceBase.TheVariants as at
use Rattle.sa_syntax.specs.declared.expr.Step.{Step}
use Rattle.sa_syntax.specs.declared.expr.Step.TheVariants as step
use Rattle.sa_syntax.specs.Trees as tree
use Rattle.sa_syntax.specs.Words.{Names, mark, key, word, named, is_through, prefix_of, operator_of, level_of, loosest, qualifier_of, scalar_of}
use Rattle.sa_syntax.specs.Expressions.{Whole, Ranked, Links, Unary, Place', Steps, Specifiers', Qualifiers, ScalarWords, Base', Struct', Fields, Declrs, Declr', Bounds}
use Rattle.sa_syntax.specs.Reading.{Parser, Got, and_then, sees, after, name_at, key_at, mark_at, many}
use Rattle.sa_syntax.specs.ReadExpr as read
use Rattle.sa_syntax.specs.ReadExpr.{Inner, inside}
use Rattle.sa_syntax.proofs.ReadingLemmas.{Yields, then_yields, map_yields, if_yields, yielded, Marked, expect_yields, Opened, opens_yields, opens_front, IsWord, any_name_yields, name_at_is, IsVariable, variable_yields, Keyed, key_at_is, mark_at_is, taken_yields, many_yields}

-- where one more is open
abbrev pub Within : {A : Type 0} → (ℕ → List Token → A → List Token → Type 0) → ℕ → List Token → A → List Token → Type 0
Within P zero ts a us = ⊥
Within P (suc n) ts a us = P n ts a us

-- one field or more
pub data SomeFields (ns : Names) : ℕ → List Token → List Field → List Token → Type 0 where
  some_fields : {n : ℕ} {ts us : List Token} {f : Field} {fs : List Field} → Fields ns n ts (f ∷ fs) us → SomeFields ns n ts (f ∷ fs) us

-- one declared name or more
pub data SomeDeclrs (ns : Names) (n : ℕ) : List Token → List Declr → List Token → Type 0 where
  some_declrs : {ts us : List Token} {d : Declr} {ds : List Declr} → Declrs ns n ts (d ∷ ds) us → SomeDeclrs ns n ts (d ∷ ds) us

-- the readers one deeper answer what the grammar has
pub record IsSound (ns : Names) (n : ℕ) (inner : Inner) : Type 0 where
  pub whole : (ts : List Token) → Yields (λ a us. Within (Whole ns) n ts a us) (inner.whole ts)
  pub unary : (ts : List Token) → Yields (λ a us. Within (Unary ns) n ts a us) (inner.unary ts)
  pub specifiers : (ts : List Token) → Yields (λ t us. Within (Specifiers' ns) n ts t us) (inner.specifiers ts)
  pub fields : (ts : List Token) → Yields (λ fs us. Within (SomeFields ns) n ts fs us) (inner.fields ts)

-- ---- words of types
qualifier_from : (o : Option Keyword) (ts : List Token) (x : Qualified) → key_at ts ≡ o → read.qualified_at (read.qualifier_in o) ts ≡ Some x
    → (qs : List Qualified) (vs : List Token) → Qualifiers (after ts) qs vs → Qualifiers ts (x ∷ qs) vs
qualifier_from None ts x e h = cc
qualifier_from (Some kw) ts x e h = qualifier_at ts kw x (key_at_is ts kw e) (qualifier_of kw) refl h
  where
    qualifier_at : (ts : List Token) (kw : Keyword) (x : Qualified) → Keyed kw ts → (o : Option Qualifier) → qualifier_of kw ≡ o → read.qualified_at o ts ≡ Some x
        → (qs : List Qualified) (vs : List Token) → Qualifiers (after ts) qs vs → Qualifiers ts (x ∷ qs) vs
    qualifier_at _ kw x Keyed.keyed None e h qs vs more = cc
    qualifier_at _ kw x (Keyed.keyed {p} {us}) (Some q) e h qs vs more =
        let same : tree.qualified q p ≡ x = cc in
        subst (λ (y : Qualified). Qualifiers (key kw p ∷ us) (y ∷ qs) vs) same (Qualifiers.qualifier e more)

pub qualifiers_sound : (ts : List Token) → Yields (λ qs us. Qualifiers ts qs us) (many read.sees_qualifier read.qualifier ts)
unfolding read.qualifier
qualifiers_sound = many_yields (λ ts qs us. Qualifiers ts qs us) read.sees_qualifier read.qualifier (λ us h. Qualifiers.no_qualifier)
    (λ ts h. taken_yields (read.qualified_at (read.qualifier_in (key_at ts)) ts) ts (λ x e. qualifier_from (key_at ts) ts x refl e))

scalar_from : (o : Option Keyword) (ts : List Token) (w : ScalarWord) → key_at ts ≡ o → read.scalar_in o ≡ Some w
    → (ws : List ScalarWord) (vs : List Token) → ScalarWords (after ts) ws vs → ScalarWords ts (w ∷ ws) vs
scalar_from None ts w e h = cc
scalar_from (Some kw) ts w e h = scalar_at ts kw w (key_at_is ts kw e) h
  where
    scalar_at : (ts : List Token) (kw : Keyword) (w : ScalarWord) → Keyed kw ts → scalar_of kw ≡ Some w
        → (ws : List ScalarWord) (vs : List Token) → ScalarWords (after ts) ws vs → ScalarWords ts (w ∷ ws) vs
    scalar_at _ kw w Keyed.keyed h ws vs more = ScalarWords.scalar_word h more

scalar_word_sound : (ts : List Token) → Yields (λ w us. (ws : List ScalarWord) (vs : List Token) → ScalarWords us ws vs → ScalarWords ts (w ∷ ws) vs) (read.scalar_word ts)
unfolding read.scalar_word
scalar_word_sound ts = taken_yields (read.scalar_in (key_at ts)) ts (λ w e. scalar_from (key_at ts) ts w refl e)

scalar_words_sound : (ts : List Token) → Yields (λ ws us. ScalarWords ts ws us) (many read.sees_scalar read.scalar_word ts)
scalar_words_sound = many_yields (λ ts ws us. ScalarWords ts ws us) read.sees_scalar read.scalar_word (λ us h. ScalarWords.no_word) (λ ts h. scalar_word_sound ts)

-- ---- operators
pub data IsOperator (l : ℕ) : List Token → Operator → List Token → Type 0 where
  is_operator : {mk : Punct} {p : Pos} {us : List Token} {op : Operator} → operator_of mk ≡ Some op → level_of op ≡ suc l → IsOperator l (mark mk p ∷ us) op us

same_level : (l : ℕ) (o : Option Operator) (op : Operator) → o ≡ Some op → read.is_of_level l o ≡ true → level_of op ≡ l
same_level l None op e h = cc
same_level l (Some o) op e h = let same : o ≡ op = cc in subst (λ (x : Operator). level_of x ≡ l) same (eqb-true (level_of o) l h)

operator_from : (l : ℕ) (o : Option Punct) (ts : List Token) (op : Operator) → mark_at ts ≡ o → read.is_of_level (suc l) (read.operator_in o) ≡ true → read.operator_in o ≡ Some op → IsOperator l ts op (after ts)
operator_from l None ts op e s h = cc
operator_from l (Some mk) ts op e s h = let k = mark_at_is ts mk e in operator_at ts (k.0) (after ts) k.1 h (same_level (suc l) (operator_of mk) op h s)
  where
    operator_at : (ts : List Token) (p : Pos) (us : List Token) → Marked mk ts p us → operator_of mk ≡ Some op → level_of op ≡ suc l → IsOperator l ts op us
    operator_at _ _ _ Marked.marked h level = IsOperator.is_operator h level

pub operator_sound : (l : ℕ) (ts : List Token) → read.sees_operator (suc l) ts ≡ true → Yields (λ op us. IsOperator l ts op us) (read.operator ts)
unfolding read.operator read.sees_operator
operator_sound l ts s = taken_yields (read.operator_in (mark_at ts)) ts (λ op e. operator_from l (mark_at ts) ts op refl s e)

module _ (ns : Names) (n : ℕ) (inner : Inner) (sound : IsSound ns n inner) where
  -- ---- places
  index_from : (n : ℕ) (ts : List Token) (p : Pos) (us : List Token) (a : Expr) (vs : List Token) (q : Pos) (ws : List Token) → Opened m.OpenBracket n ts p us → Within (Whole ns) n us a vs → Marked m.CloseBracket vs q ws
      → (ss : List Step) (xs : List Token) → Steps ns n ws ss xs → Steps ns n ts (step.Index p a ∷ ss) xs
  index_from _ _ _ _ a _ _ _ Opened.opened w Marked.marked ss xs more = Steps.index w more

  index_sound : (ts : List Token) → Yields (λ s us. (ss : List Step) (vs : List Token) → Steps ns n us ss vs → Steps ns n ts (s ∷ ss) vs) (read.index ns n inner ts)
  unfolding read.index
  index_sound ts =
      then_yields (opens_yields n m.OpenBracket ts) (λ p us o.
      then_yields (sound.whole us) (λ a vs w.
      then_yields (expect_yields m.CloseBracket vs) (λ q ws c.
      Yields.got (index_from n ts p us a vs q ws o w c))))

  dot_from : (ts : List Token) (p : Pos) (us : List Token) (x : Named) (vs : List Token) → Marked m.Dot ts p us → IsWord us x vs → (ss : List Step) (ws : List Token) → Steps ns n vs ss ws → Steps ns n ts (step.Field p x ∷ ss) ws
  dot_from _ _ _ _ _ Marked.marked IsWord.is_word ss ws more = Steps.dot more

  arrow_from : (ts : List Token) (p : Pos) (us : List Token) (x : Named) (vs : List Token) → Marked m.Arrow ts p us → IsWord us x vs → (ss : List Step) (ws : List Token) → Steps ns n vs ss ws → Steps ns n ts (step.Arrow p x ∷ ss) ws
  arrow_from _ _ _ _ _ Marked.marked IsWord.is_word ss ws more = Steps.arrow more

  step_by_sound : (o : Option Punct) (ts : List Token) → Yields (λ s us. (ss : List Step) (vs : List Token) → Steps ns n us ss vs → Steps ns n ts (s ∷ ss) vs) (read.step_by ns n inner o ts)
  step_by_sound (Some m.OpenBracket) ts = index_sound ts
  step_by_sound (Some m.Dot) ts = then_yields (expect_yields m.Dot ts) (λ p us d. then_yields (any_name_yields us) (λ x vs i. Yields.got (dot_from ts p us x vs d i)))
  step_by_sound (Some m.Arrow) ts = then_yields (expect_yields m.Arrow ts) (λ p us d. then_yields (any_name_yields us) (λ x vs i. Yields.got (arrow_from ts p us x vs d i)))
  step_by_sound o ts = Yields.stuck

  pub a_step_sound : (ts : List Token) → Yields (λ s us. (ss : List Step) (vs : List Token) → Steps ns n us ss vs → Steps ns n ts (s ∷ ss) vs) (read.a_step ns n inner ts)
  unfolding read.a_step
  a_step_sound ts = step_by_sound (mark_at ts) ts

  pub steps_sound : (ts : List Token) → Yields (λ ss us. Steps ns n ts ss us) (read.steps ns n inner ts)
  unfolding read.steps
  steps_sound = many_yields (λ ts ss us. Steps ns n ts ss us) read.sees_step (read.a_step ns n inner) (λ us h. Steps.no_step) (λ ts h. a_step_sound ts)

  by_name_from : (ts : List Token) (x : Named) (us : List Token) (ss : List Step) (vs : List Token) → IsVariable ns ts x us → Steps ns n us ss vs → Place' ns n ts (tree.place (at.Name x) ss) vs
  by_name_from _ _ _ ss vs (IsVariable.is_variable v) more = Place'.name v more

  by_name_sound : (ts : List Token) → Yields (λ x us. Place' ns n ts x us) (read.by_name ns n inner ts)
  unfolding read.by_name
  by_name_sound ts = then_yields (variable_yields ns ts) (λ x us v. then_yields (steps_sound us) (λ ss vs more. Yields.got (by_name_from ts x us ss vs v more)))

  through_from : (n : ℕ) (ts : List Token) (p : Pos) (us : List Token) (q : Pos) (vs : List Token) (x : Named) (ws : List Token) (r : Pos) (xs : List Token) (ss : List Step) (ys : List Token) → Opened m.OpenParen n ts p us
      → Marked m.Star us q vs → IsVariable ns vs x ws → Marked m.CloseParen ws r xs → Steps ns n xs ss ys → Place' ns n ts (tree.place (at.Through p q x) ss) ys
  through_from _ _ _ _ _ _ _ _ _ _ ss ys Opened.opened Marked.marked (IsVariable.is_variable v) Marked.marked more = Place'.through v more

  through_sound : (ts : List Token) → Yields (λ x us. Place' ns n ts x us) (read.through ns n inner ts)
  unfolding read.through
  through_sound ts =
      then_yields (opens_yields n m.OpenParen ts) (λ p us o.
      then_yields (expect_yields m.Star us) (λ q vs s.
      then_yields (variable_yields ns vs) (λ x ws v.
      then_yields (expect_yields m.CloseParen ws) (λ r xs c.
      then_yields (steps_sound xs) (λ ss ys more.
      Yields.got (through_from n ts p us q vs x ws r xs ss ys o s v c more))))))

  star_from : (ts : List Token) (p : Pos) (us : List Token) (x : Named) (vs : List Token) → Marked m.Star ts p us → IsVariable ns us x vs → Place' ns n ts (tree.place (at.Star p x) []) vs
  star_from _ _ _ _ _ Marked.marked (IsVariable.is_variable v) = Place'.star v

  star_sound : (ts : List Token) → Yields (λ x us. Place' ns n ts x us) (read.star ns n inner ts)
  unfolding read.star
  star_sound ts = then_yields (expect_yields m.Star ts) (λ p us s. then_yields (variable_yields ns us) (λ x vs v. Yields.got (star_from ts p us x vs s v)))

  place_by_sound : (o : Option Punct) (ts : List Token) → Yields (λ x us. Place' ns n ts x us) (read.place_by ns n inner o ts)
  place_by_sound (Some m.OpenParen) ts = through_sound ts
  place_by_sound (Some m.Star) ts = star_sound ts
  place_by_sound o ts = by_name_sound ts

  pub place_sound : (ts : List Token) → Yields (λ x us. Place' ns n ts x us) (read.place ns n inner ts)
  unfolding read.place
  place_sound ts = place_by_sound (mark_at ts) ts

  -- ---- types
  bound_from : (n : ℕ) (ts : List Token) (p : Pos) (us : List Token) (a : Expr) (vs : List Token) (q : Pos) (ws : List Token) → Opened m.OpenBracket n ts p us → Within (Whole ns) n us a vs → Marked m.CloseBracket vs q ws
      → (bs : List Bound) (xs : List Token) → Bounds ns n ws bs xs → Bounds ns n ts (tree.bound p a ∷ bs) xs
  bound_from _ _ _ _ a _ _ _ Opened.opened w Marked.marked bs xs more = Bounds.bound w more

  pub a_bound_sound : (ts : List Token) → Yields (λ x us. (bs : List Bound) (vs : List Token) → Bounds ns n us bs vs → Bounds ns n ts (x ∷ bs) vs) (read.a_bound ns n inner ts)
  unfolding read.a_bound
  a_bound_sound ts =
      then_yields (opens_yields n m.OpenBracket ts) (λ p us o.
      then_yields (sound.whole us) (λ a vs w.
      then_yields (expect_yields m.CloseBracket vs) (λ q ws c.
      Yields.got (bound_from n ts p us a vs q ws o w c))))

  bounds_sound : (ts : List Token) → Yields (λ bs us. Bounds ns n ts bs us) (many (sees m.OpenBracket) (read.a_bound ns n inner) ts)
  bounds_sound = many_yields (λ ts bs us. Bounds ns n ts bs us) (sees m.OpenBracket) (read.a_bound ns n inner) (λ us h. Bounds.no_bound) (λ ts h. a_bound_sound ts)

  declr_from : (ts : List Token) (x : Named) (us : List Token) (bs : List Bound) (vs : List Token) → IsWord ts x us → Bounds ns n us bs vs → Declr' ns n ts (tree.declr x bs) vs
  declr_from _ _ _ bs vs IsWord.is_word more = Declr'.declr more

  pub declr_sound : (ts : List Token) → Yields (λ d us. Declr' ns n ts d us) (read.declr ns n inner ts)
  unfolding read.declr
  declr_sound ts = then_yields (any_name_yields ts) (λ x us i. then_yields (bounds_sound us) (λ bs vs more. Yields.got (declr_from ts x us bs vs i more)))

  -- more of them, behind the first
  abbrev MoreDeclrs : List Token → List Declr → List Token → Type 0
  MoreDeclrs ts ds us = (ss : List Token) (d : Declr) → Declr' ns n ss d ts → Declrs ns n ss (d ∷ ds) us

  next_from : (ts : List Token) (p : Pos) (us : List Token) (x : Declr) (vs : List Token) → Marked m.Comma ts p us → Declr' ns n us x vs → (ds : List Declr) (ws : List Token) → MoreDeclrs vs ds ws → MoreDeclrs ts (x ∷ ds) ws
  next_from _ _ us x vs Marked.marked i ds ws more ss d first = Declrs.next_declr first (more us x i)

  pub next_declr_sound : (ts : List Token) → Yields (λ d us. (ds : List Declr) (vs : List Token) → MoreDeclrs us ds vs → MoreDeclrs ts (d ∷ ds) vs) (read.next_declr ns n inner ts)
  unfolding read.next_declr
  next_declr_sound ts = then_yields (expect_yields m.Comma ts) (λ p us c. map_yields (λ x vs i. next_from ts p us x vs c i) (declr_sound us))

  more_declrs_sound : (ts : List Token) → Yields (λ ds us. MoreDeclrs ts ds us) (many (sees m.Comma) (read.next_declr ns n inner) ts)
  more_declrs_sound = many_yields MoreDeclrs (sees m.Comma) (read.next_declr ns n inner) (λ us h ss d first. Declrs.last_declr first) (λ ts h. next_declr_sound ts)

  pub declrs_sound : (ts : List Token) → Yields (λ ds us. SomeDeclrs ns n ts ds us) (read.declrs ns n inner ts)
  unfolding read.declrs
  declrs_sound ts = then_yields (declr_sound ts) (λ d us i. then_yields (more_declrs_sound us) (λ ds vs more. Yields.got (SomeDeclrs.some_declrs (more ts d i))))

  -- a struct's body, behind the word and the tag
  plain_from : (n : ℕ) (ts : List Token) (p : Pos) (us : List Token) (fs : List Field) (vs : List Token) (q : Pos) (ws : List Token) → Opened m.OpenBrace n ts p us → Within (SomeFields ns) n us fs vs → Marked m.CloseBrace vs q ws
      → (at : Pos) → Struct' ns n (key k.Struct at ∷ ts) (tree.structure None fs) ws
  plain_from _ _ _ _ _ _ _ _ Opened.opened (SomeFields.some_fields f) Marked.marked at = Struct'.plain f

  tagged_from : (n : ℕ) (ts : List Token) (p : Pos) (us : List Token) (fs : List Field) (vs : List Token) (q : Pos) (ws : List Token) → Opened m.OpenBrace n ts p us → Within (SomeFields ns) n us fs vs → Marked m.CloseBrace vs q ws
      → (at by : Pos) (w : List ℕ) → Struct' ns n (key k.Struct at ∷ word w by ∷ ts) (tree.structure (Some (named w by)) fs) ws
  tagged_from _ _ _ _ _ _ _ _ Opened.opened (SomeFields.some_fields f) Marked.marked at by w = Struct'.tagged f

  pub body_sound : (ts : List Token) → Yields (λ x us. (s : Struct) × (x ≡ b.Struct s) × ((at : Pos) → Struct' ns n (key k.Struct at ∷ ts) s us)) (read.body ns n inner None ts)
  unfolding read.body
  body_sound ts =
      then_yields (opens_yields n m.OpenBrace ts) (λ p us o.
      then_yields (sound.fields us) (λ fs vs w.
      then_yields (expect_yields m.CloseBrace vs) (λ q ws c.
      Yields.got (tree.structure None fs, refl, plain_from n ts p us fs vs q ws o w c))))

  pub tagged_body_sound : (w : List ℕ) (by : Pos) (ts : List Token) → Yields (λ x us. (s : Struct) × (x ≡ b.Struct s) × ((at : Pos) → Struct' ns n (key k.Struct at ∷ word w by ∷ ts) s us)) (read.body ns n inner (Some (named w by)) ts)
  unfolding read.body
  tagged_body_sound x by ts =
      then_yields (opens_yields n m.OpenBrace ts) (λ p us o.
      then_yields (sound.fields us) (λ fs vs w.
      then_yields (expect_yields m.CloseBrace vs) (λ q ws c.
      Yields.got (tree.structure (Some (named x by)) fs, refl, λ at. tagged_from n ts p us fs vs q ws o w c at by x))))

  struct_base : (x : Base) (s : Struct) (ts us : List Token) → x ≡ b.Struct s → Struct' ns n ts s us → Base' ns n ts x us
  struct_base x s ts us e i = subst (λ (y : Base). Base' ns n ts y us) (sym e) (Base'.structure i)

  tagged_at : (ts us : List Token) (x : Named) → IsWord ts x us → Yields (λ t vs. (at : Pos) → Base' ns n (key k.Struct at ∷ ts) t vs) (cond (sees m.OpenBrace us) (read.body ns n inner (Some x) us) (Got (b.Tag x) us))
  tagged_at _ us _ (IsWord.is_word {w} {p}) = if_yields (sees m.OpenBrace us)
      (λ h. map_yields (λ x vs i at. struct_base x i.0 (key k.Struct at ∷ word w p ∷ us) vs i.1 (i.2 at)) (tagged_body_sound w p us))
      (λ h. Yields.got (λ at. Base'.tag))

  tagged_sound : (o : Option Named) (ts : List Token) → name_at ts ≡ o → Yields (λ t us. (at : Pos) → Base' ns n (key k.Struct at ∷ ts) t us) (read.tagged ns n inner o ts)
  tagged_sound None ts e = map_yields (λ x us i at. struct_base x i.0 (key k.Struct at ∷ ts) us i.1 (i.2 at)) (body_sound ts)
  tagged_sound (Some x) ts e = tagged_at ts (after ts) x (name_at_is ts x e)

  struct_or_tag_sound : (ts : List Token) → Yields (λ t us. (at : Pos) → Base' ns n (key k.Struct at ∷ ts) t us) (read.struct_or_tag ns n inner ts)
  unfolding read.struct_or_tag
  struct_or_tag_sound ts = tagged_sound (name_at ts) ts refl

  type_name_from : (ts : List Token) (x : Named) (us : List Token) → IsWord ts x us → read.is_type_at ns (name_at ts) ≡ true → Base' ns n ts (b.Named x) us
  unfolding name_at
  type_name_from _ _ _ IsWord.is_word h = Base'.type_name h

  type_name_sound : (ts : List Token) → Yields (λ t us. Base' ns n ts t us) (read.type_name ns n inner ts)
  unfolding read.type_name
  type_name_sound ts = if_yields (read.is_type_at ns (name_at ts)) (λ h. then_yields (any_name_yields ts) (λ x us i. Yields.got (type_name_from ts x us i h))) (λ h. Yields.stuck)

  void_from : (ts : List Token) → Keyed k.Void ts → Base' ns n ts b.Void (after ts)
  void_from _ Keyed.keyed = Base'.void

  struct_from : (ts : List Token) → Keyed k.Struct ts → Yields (λ t us. Base' ns n ts t us) (read.struct_or_tag ns n inner (after ts))
  struct_from _ (Keyed.keyed {p} {us}) = map_yields (λ t vs i. i p) (struct_or_tag_sound us)

  scalars_sound : (ts : List Token) → Yields (λ t us. Base' ns n ts t us) (and_then (read.scalar_word ts) (λ w us. and_then (many read.sees_scalar read.scalar_word us) (λ ws vs. Got (b.Scalar (w ∷ ws)) vs)))
  scalars_sound ts = then_yields (scalar_word_sound ts) (λ w us more. then_yields (scalar_words_sound us) (λ ws vs i. Yields.got (Base'.scalar (more ws vs i))))

  base_by_sound : (o : Option Keyword) (ts : List Token) → key_at ts ≡ o → Yields (λ t us. Base' ns n ts t us) (read.base_by ns n inner o ts)
  base_by_sound (Some k.Void) ts e = Yields.got (void_from ts (key_at_is ts k.Void e))
  base_by_sound (Some k.Struct) ts e = struct_from ts (key_at_is ts k.Struct e)
  base_by_sound (Some w) ts e = scalars_sound ts
  base_by_sound None ts e = type_name_sound ts

  pub base_sound : (ts : List Token) → Yields (λ t us. Base' ns n ts t us) (read.base ns n inner ts)
  unfolding read.base
  base_sound ts = base_by_sound (key_at ts) ts refl

  pub specifiers_sound : (ts : List Token) → Yields (λ t us. Specifiers' ns n ts t us) (read.specifiers ns n inner ts)
  unfolding read.specifiers
  specifiers_sound ts = then_yields (qualifiers_sound ts) (λ qs us i. then_yields (base_sound us) (λ t vs j. Yields.got (Specifiers'.specifiers i j)))

  field_from : (ts : List Token) (t : Specifiers) (us : List Token) (ds : List Declr) (vs : List Token) (p : Pos) (ws : List Token) → Specifiers' ns n ts t us → SomeDeclrs ns n us ds vs → Marked m.Semicolon vs p ws
      → (fs : List Field) (xs : List Token) → Fields ns n ws fs xs → Fields ns n ts (tree.field t ds ∷ fs) xs
  field_from _ _ _ _ _ _ _ i (SomeDeclrs.some_declrs j) Marked.marked fs xs more = Fields.field i j more

  pub field_sound : (ts : List Token) → Yields (λ f us. (fs : List Field) (vs : List Token) → Fields ns n us fs vs → Fields ns n ts (f ∷ fs) vs) (read.field ns n inner ts)
  unfolding read.field
  field_sound ts =
      then_yields (specifiers_sound ts) (λ t us i.
      then_yields (declrs_sound us) (λ ds vs j.
      then_yields (expect_yields m.Semicolon vs) (λ p ws c.
      Yields.got (field_from ts t us ds vs p ws i j c))))

  pub fields_sound : (ts : List Token) → Yields (λ fs us. SomeFields ns n ts fs us) (read.fields ns n inner ts)
  unfolding read.fields
  fields_sound ts = then_yields (field_sound ts) (λ f us more.
      then_yields (many_yields (λ ts fs us. Fields ns n ts fs us) (read.no_brace ns n inner) (read.field ns n inner) (λ us h. Fields.no_field) (λ ts h. field_sound ts) us) (λ fs vs i.
      Yields.got (SomeFields.some_fields (more fs vs i))))

  -- ---- expressions
  a_place_sound : (ts : List Token) → Yields (λ a us. Unary ns n ts a us) (read.a_place ns n inner ts)
  unfolding read.a_place
  a_place_sound ts = then_yields (place_sound ts) (λ x us i. Yields.got (Unary.place i))

  cast_from : (n : ℕ) (ts : List Token) (p : Pos) (us : List Token) (t : Specifiers) (vs : List Token) (q : Pos) (ws : List Token) (a : Expr) (xs : List Token) → Opened m.OpenParen n ts p us → Within (Specifiers' ns) n us t vs → Marked m.CloseParen vs q ws
      → Within (Unary ns) n ws a xs → Unary ns n ts (e.Cast p t a) xs
  cast_from _ _ _ _ _ _ _ _ a xs Opened.opened i Marked.marked j = Unary.cast i j

  cast_sound : (ts : List Token) → Yields (λ a us. Unary ns n ts a us) (read.cast ns n inner ts)
  unfolding read.cast
  cast_sound ts =
      then_yields (opens_yields n m.OpenParen ts) (λ p us o.
      then_yields (sound.specifiers us) (λ t vs i.
      then_yields (expect_yields m.CloseParen vs) (λ q ws c.
      then_yields (sound.unary ws) (λ a xs j.
      Yields.got (cast_from n ts p us t vs q ws a xs o i c j)))))

  bracket_from : (n : ℕ) (ts : List Token) (p : Pos) (us : List Token) (a : Expr) (vs : List Token) (q : Pos) (ws : List Token) → is_through (after ts) ≡ false → Opened m.OpenParen n ts p us → Within (Whole ns) n us a vs → Marked m.CloseParen vs q ws
      → Unary ns n ts (e.Bracket p a) ws
  bracket_from _ _ _ _ _ _ _ _ h Opened.opened i Marked.marked = Unary.bracket i h

  bracket_sound : (ts : List Token) → is_through (after ts) ≡ false → Yields (λ a us. Unary ns n ts a us) (read.bracket ns n inner ts)
  unfolding read.bracket
  bracket_sound ts h =
      then_yields (opens_yields n m.OpenParen ts) (λ p us o.
      then_yields (sound.whole us) (λ a vs i.
      then_yields (expect_yields m.CloseParen vs) (λ q ws c.
      Yields.got (bracket_from n ts p us a vs q ws h o i c))))

  bracketed_sound : (ts : List Token) → Yields (λ a us. Unary ns n ts a us) (read.bracketed ns n inner ts)
  unfolding read.bracketed
  bracketed_sound ts = if_yields (is_through (after ts)) (λ h. a_place_sound ts)
      (λ h. if_yields (read.begins_type ns (after ts)) (λ g. cast_sound ts) (λ g. bracket_sound ts h))

  prefix_from : (n : ℕ) (mk : Punct) (ts : List Token) (p : Pos) (us : List Token) (op : Prefix) (a : Expr) (vs : List Token) → prefix_of mk ≡ Some op → Opened mk n ts p us → Within (Unary ns) n us a vs → Unary ns n ts (e.Prefix op p a) vs
  prefix_from _ _ _ _ _ _ _ _ h Opened.opened i = Unary.prefix h i

  prefixed_sound : (mk : Punct) (op : Prefix) (p : Pos) (ts : List Token) → prefix_of mk ≡ Some op → Yields (λ a us. Unary ns n (mark mk p ∷ ts) a us) (read.prefixed ns n inner op (mark mk p ∷ ts))
  unfolding read.prefixed
  prefixed_sound mk op p ts h =
      then_yields (opens_front n mk p ts) (λ q us o.
      then_yields (sound.unary us) (λ a vs i.
      Yields.got (prefix_from n mk (mark mk p ∷ ts) q us op a vs h o i)))

  prefix_by_sound : (mk : Punct) (o : Option Prefix) (p : Pos) (ts : List Token) → prefix_of mk ≡ o → Yields (λ a us. Unary ns n (mark mk p ∷ ts) a us) (read.prefix_by ns n inner o (mark mk p ∷ ts))
  prefix_by_sound mk None p ts h = Yields.stuck
  prefix_by_sound mk (Some op) p ts h = prefixed_sound mk op p ts h

  unary_mark_sound : (mk : Punct) (p : Pos) (ts : List Token) → Yields (λ a us. Unary ns n (mark mk p ∷ ts) a us) (read.unary_mark ns n inner mk (mark mk p ∷ ts))
  unary_mark_sound m.OpenParen p ts = bracketed_sound (mark m.OpenParen p ∷ ts)
  unary_mark_sound m.Star p ts = a_place_sound (mark m.Star p ∷ ts)
  unary_mark_sound mk p ts = prefix_by_sound mk (prefix_of mk) p ts refl

  unary_by_sound : (w : Word) (p : Pos) (ts : List Token) → Yields (λ a us. Unary ns n ((record { word = w; pos = p }) ∷ ts) a us) (read.unary_by ns n inner (record { word = w; pos = p }) ts)
  unary_by_sound (Name w) p ts = a_place_sound (word w p ∷ ts)
  unary_by_sound (Number v u l d) p ts = Yields.got Unary.number
  unary_by_sound (Key j) p ts = Yields.stuck
  unary_by_sound (Mark mk) p ts = unary_mark_sound mk p ts

  pub unary_sound : (ts : List Token) → Yields (λ a us. Unary ns n ts a us) (read.unary ns n inner ts)
  unfolding read.unary
  unary_sound [] = Yields.stuck
  unary_sound (t ∷ ts) = unary_by_sound t.word t.pos ts

  link_from : (l : ℕ) (ts : List Token) (op : Operator) (us : List Token) (a : Expr) (vs : List Token) → IsOperator l ts op us → Ranked ns n l us a vs
      → (xs : List Link) (ws : List Token) → Links ns n l vs xs ws → Links ns n l ts (tree.link op (tree.pos_of ts) a ∷ xs) ws
  link_from l _ _ _ a vs (IsOperator.is_operator h level) i xs ws more = Links.link h level i more

  pub a_link_sound : (l : ℕ) (operand : Parser Expr) → ((ts : List Token) → Yields (λ a us. Ranked ns n l ts a us) (operand ts)) → (ts : List Token) → read.sees_operator (suc l) ts ≡ true
      → Yields (λ x us. (xs : List Link) (vs : List Token) → Links ns n l us xs vs → Links ns n l ts (x ∷ xs) vs) (read.a_link ns n inner operand ts)
  unfolding read.a_link
  a_link_sound l operand one ts h = then_yields (operator_sound l ts h) (λ op us o. then_yields (one us) (λ a vs i. Yields.got (link_from l ts op us a vs o i)))

  chained_is : (l : ℕ) (ts : List Token) (a : Expr) (us : List Token) (xs : List Link) (vs : List Token) → Ranked ns n l ts a us → Links ns n l us xs vs → Ranked ns n (suc l) ts (read.chained a xs) vs
  chained_is l ts a us _ _ i Links.no_link = Ranked.alone i
  chained_is l ts a _ _ vs i (Links.link h level j more) = Ranked.chain i (Links.link h level j more)

  chain_sound : (l : ℕ) (operand : Parser Expr) → ((ts : List Token) → Yields (λ a us. Ranked ns n l ts a us) (operand ts)) → (ts : List Token) → Yields (λ a us. Ranked ns n (suc l) ts a us) (read.chain ns n inner l operand ts)
  unfolding read.chain
  chain_sound l operand one ts = then_yields (one ts) (λ a us i.
      then_yields (many_yields (λ ts xs us. Links ns n l ts xs us) (read.sees_operator (suc l)) (read.a_link ns n inner operand) (λ us h. Links.no_link) (a_link_sound l operand one) us) (λ xs vs more.
      Yields.got (chained_is l ts a us xs vs i more)))

  pub ranked_sound : (l : ℕ) (ts : List Token) → Yields (λ a us. Ranked ns n l ts a us) (read.ranked ns n inner l ts)
  unfolding read.ranked
  ranked_sound zero ts = map_yields (λ a us i. Ranked.unary i) (unary_sound ts)
  ranked_sound (suc l) ts = chain_sound l (read.ranked ns n inner l) (ranked_sound l) ts

  choice_from : (n : ℕ) (ts : List Token) (c : Expr) (us : List Token) (p : Pos) (vs : List Token) (a : Expr) (ws : List Token) (q : Pos) (xs : List Token) (f : Expr) (ys : List Token) → Ranked ns n loosest ts c us → Opened m.Question n us p vs
      → Within (Whole ns) n vs a ws → Marked m.Colon ws q xs → Within (Whole ns) n xs f ys → Whole ns n ts (e.Choice c p a f) ys
  choice_from _ ts c _ _ _ a _ _ _ f ys r Opened.opened i Marked.marked j = Whole.choice r i j

  choice_sound : (ts : List Token) (c : Expr) (us : List Token) → Ranked ns n loosest ts c us → Yields (λ a vs. Whole ns n ts a vs) (read.choice ns n inner c us)
  unfolding read.choice
  choice_sound ts c us r =
      then_yields (opens_yields n m.Question us) (λ p vs o.
      then_yields (sound.whole vs) (λ a ws i.
      then_yields (expect_yields m.Colon ws) (λ q xs d.
      then_yields (sound.whole xs) (λ f ys j.
      Yields.got (choice_from n ts c us p vs a ws q xs f ys r o i d j)))))

  pub whole_sound : (ts : List Token) → Yields (λ a us. Whole ns n ts a us) (read.whole ns n inner ts)
  unfolding read.whole
  whole_sound ts = then_yields (ranked_sound loosest ts) (λ c us r. if_yields (sees m.Question us) (λ h. choice_sound ts c us r) (λ h. Yields.got (Whole.binary r)))

pub inside_sound : (ns : Names) (n : ℕ) → IsSound ns n (inside ns n)
unfolding inside
inside_sound ns zero = record { whole = λ ts. Yields.deep; unary = λ ts. Yields.deep; specifiers = λ ts. Yields.deep; fields = λ ts. Yields.deep }
inside_sound ns (suc n) =
    let below = inside_sound ns n in
    let inner = inside ns n in
    record { whole = whole_sound ns n inner below; unary = unary_sound ns n inner below; specifiers = specifiers_sound ns n inner below; fields = fields_sound ns n inner below }

-- ---- the readers where that many more may be open
pub whole_yields : (ns : Names) (n : ℕ) (ts : List Token) → Yields (λ a us. Whole ns n ts a us) (read.whole ns n (inside ns n) ts)
whole_yields ns n = whole_sound ns n (inside ns n) (inside_sound ns n)

pub ranked_yields : (ns : Names) (n l : ℕ) (ts : List Token) → Yields (λ a us. Ranked ns n l ts a us) (read.ranked ns n (inside ns n) l ts)
ranked_yields ns n = ranked_sound ns n (inside ns n) (inside_sound ns n)

pub unary_yields : (ns : Names) (n : ℕ) (ts : List Token) → Yields (λ a us. Unary ns n ts a us) (read.unary ns n (inside ns n) ts)
unary_yields ns n = unary_sound ns n (inside ns n) (inside_sound ns n)

pub place_yields : (ns : Names) (n : ℕ) (ts : List Token) → Yields (λ x us. Place' ns n ts x us) (read.place ns n (inside ns n) ts)
place_yields ns n = place_sound ns n (inside ns n) (inside_sound ns n)

pub specifiers_yields : (ns : Names) (n : ℕ) (ts : List Token) → Yields (λ t us. Specifiers' ns n ts t us) (read.specifiers ns n (inside ns n) ts)
specifiers_yields ns n = specifiers_sound ns n (inside ns n) (inside_sound ns n)

pub base_yields : (ns : Names) (n : ℕ) (ts : List Token) → Yields (λ t us. Base' ns n ts t us) (read.base ns n (inside ns n) ts)
base_yields ns n = base_sound ns n (inside ns n) (inside_sound ns n)

pub declr_yields : (ns : Names) (n : ℕ) (ts : List Token) → Yields (λ d us. Declr' ns n ts d us) (read.declr ns n (inside ns n) ts)
declr_yields ns n = declr_sound ns n (inside ns n) (inside_sound ns n)

pub declrs_yields : (ns : Names) (n : ℕ) (ts : List Token) → Yields (λ ds us. SomeDeclrs ns n ts ds us) (read.declrs ns n (inside ns n) ts)
declrs_yields ns n = declrs_sound ns n (inside ns n) (inside_sound ns n)

pub fields_yields : (ns : Names) (n : ℕ) (ts : List Token) → Yields (λ fs us. SomeFields ns n ts fs us) (read.fields ns n (inside ns n) ts)
fields_yields ns n = fields_sound ns n (inside ns n) (inside_sound ns n)

pub body_yields : (ns : Names) (n : ℕ) (ts : List Token) → Yields (λ x us. (s : Struct) × (x ≡ b.Struct s) × ((at : Pos) → Struct' ns n (key k.Struct at ∷ ts) s us)) (read.body ns n (inside ns n) None ts)
body_yields ns n = body_sound ns n (inside ns n) (inside_sound ns n)

pub tagged_body_yields : (ns : Names) (n : ℕ) (w : List ℕ) (by : Pos) (ts : List Token)
    → Yields (λ x us. (s : Struct) × (x ≡ b.Struct s) × ((at : Pos) → Struct' ns n (key k.Struct at ∷ word w by ∷ ts) s us)) (read.body ns n (inside ns n) (Some (named w by)) ts)
tagged_body_yields ns n = tagged_body_sound ns n (inside ns n) (inside_sound ns n)

-- ---- what is read
pub expressions : (ns : Names) (n : ℕ) (ts us : List Token) (a : Expr) → read.whole ns n (inside ns n) ts ≡ Got a us → Whole ns n ts a us
expressions ns n ts us a h = yielded (whole_yields ns n ts) h

pub places : (ns : Names) (n : ℕ) (ts us : List Token) (x : Place) → read.place ns n (inside ns n) ts ≡ Got x us → Place' ns n ts x us
places ns n ts us x h = yielded (place_yields ns n ts) h

pub types : (ns : Names) (n : ℕ) (ts us : List Token) (t : Specifiers) → read.specifiers ns n (inside ns n) ts ≡ Got t us → Specifiers' ns n ts t us
types ns n ts us t h = yielded (specifiers_yields ns n ts) h

pub declarators : (ns : Names) (n : ℕ) (ts us : List Token) (d : Declr) → read.declr ns n (inside ns n) ts ≡ Got d us → Declr' ns n ts d us
declarators ns n ts us d h = yielded (declr_yields ns n ts) h

some_declrs_are : (ns : Names) (n : ℕ) (ts us : List Token) (ds : List Declr) → SomeDeclrs ns n ts ds us → Declrs ns n ts ds us
some_declrs_are ns n ts us _ (SomeDeclrs.some_declrs i) = i

pub declarator_lists : (ns : Names) (n : ℕ) (ts us : List Token) (ds : List Declr) → read.declrs ns n (inside ns n) ts ≡ Got ds us → Declrs ns n ts ds us
declarator_lists ns n ts us ds h = some_declrs_are ns n ts us ds (yielded (declrs_yields ns n ts) h)
