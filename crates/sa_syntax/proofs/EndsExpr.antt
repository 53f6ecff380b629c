-- Where an expression, a place or a type is refused some text goes on.
use Rattle.std.proofs.Common.{◌≡◌, ℕ, zero, suc, List, [], ◌∷◌, ◌++◌, Bool, true, false, cond, refl, sym, ap, ◌∙◌, subst, arith, Option, Some, None}
use Rattle.std.specs.Prelude.{◌&&◌}
use Rattle.sa_base.specs.declared.pos.Pos.{Pos}
use Rattle.sa_tokens.specs.declared.keyword.Keyword.{Keyword}
use Rattle.sa_tokens.specs.declared.keyword.Keyword.TheVariants as k
use Rattle.sa_tokens.specs.declared.punct.Punct.{Punct}
use Rattle.sa_tokens.specs.declared.punct.Punct.TheVariants as m
use Rattle.sa_tokens.specs.declared.token.Word.{Word}
use Rattle.sa_tokens.specs.declared.token.Word.TheVariants.{Name, Number, Key, Mark}
use Rattle.sa_tokens.specs.declared.token.Token.{Token}
use Rattle.sa_syntax.specs.declared.decl.Name.{Name as Named}
use Rattle.sa_syntax.specs.declared.decl.Specifiers.{Specifiers}
use Rattle.sa_syntax.specs.declared.decl.Qualified.{Qualified}
use Rattle.sa_syntax.specs.declared.decl.Qualifier.{Qualifier}
use Rattle.sa_syntax.specs.declared.decl.Base.{Base}
use Rattle.sa_syntax.specs.declared.decl.Base.TheVariants as b
use Rattle.sa_syntax.specs.declared.decl.ScalarWord.{ScalarWord}
use Rattle.sa_syntax.specs.declared.decl.ScalarWord.TheVariants as w
use Rattle.sa_syntax.specs.declared.decl.Declr.{Declr}
use Rattle.sa_syntax.specs.declared.decl.Field.{Field}
use Rattle.sa_syntax.specs.declared.expr.Expr.{Expr}
use Rattle.sa_syntax.specs.declared.expr.Expr.TheVariants as e
use Rattle.sa_syntax.specs.declared.expr.Operator.{Operator}
use Rattle.sa_syntax.specs.declared.expr.Place.{Place}
use Rattle.sa_syntax.specs.declared.expr.PlaceBase.TheVariants as at
use Rattle.sa_syntax.specs.declared.expr.Prefix.{Prefix}
use Rattle.sa_syntax.specs.declared.expr.Step.TheVariants as step
use Rattle.sa_syntax.specs.Trees as tree
use Rattle.sa_syntax.specs.Words.{Names, mark, key, word, literal, named, is_type_name, is_star, is_close, is_name_and_close, is_through, prefix_of, operator_of, loosest, qualifier_of, scalar_of}
use Rattle.sa_syntax.specs.Expressions.{Whole, Ranked, Links, Unary, Place', Steps, Specifiers', Qualifiers, ScalarWords, Base', Struct', Fields, Declrs, Declr', Bounds}
use Rattle.sa_syntax.specs.Reading.{Got, Stuck, same_mark, sees, opens, after, expect, any_name, variable, name_at, key_at, mark_at, taken, many, pure, ◌>>=◌}
use Rattle.sa_syntax.specs.ReadExpr as read
use Rattle.sa_syntax.specs.ReadExpr.{inside}
use Rattle.sa_syntax.proofs.ReadingLemmas.{yielded}
use Rattle.sa_syntax.proofs.ExprSound as sound
use Rattle.sa_syntax.proofs.Shorter.{type-shorter}
use Rattle.sa_syntax.proofs.DeepExpr as fine
use Rattle.sa_syntax.proofs.DeepExpr.{inside_fine}
use Rattle.sa_syntax.proofs.ClosingExpr.{spot, close, nought, letter, int, letter_declr, fresh, fresh-is, zero-whole, chained_ranked}
use Rattle.sa_syntax.proofs.EndsLemmas.{Ends, Some', Front, done, halts, ends_if, ends_map, seq, seq_front, stepped, expect_then, expect_with, name_then, named_then, variable_then, keyed_then, opens_or, opens_seen, opens_any_then, restored, many_ends, placed_ends}

abbrev pub zero_expr : Expr
zero_expr = e.Number 0 false 0 false spot

-- the readers one deeper
pub record Deeper (ns : Names) (i : ℕ) : Type 0 where
  pub whole : (ts : List Token) → Ends i (Whole ns) (Some' (Whole ns)) ts (read.whole ns i (inside ns i) ts)
  pub unary : (ts : List Token) → Ends i (Unary ns) (Some' (Unary ns)) ts (read.unary ns i (inside ns i) ts)
  pub specifiers : (ts : List Token) → Ends i (Specifiers' ns) (Some' (Specifiers' ns)) ts (read.specifiers ns i (inside ns i) ts)
  pub fields : (ts : List Token) → Ends i (sound.SomeFields ns) (Some' (sound.SomeFields ns)) ts (read.fields ns i (inside ns i) ts)

module _ (ns : Names) (n : ℕ) (deeper : (i : ℕ) → n ≡ suc i → Deeper ns i) where
  -- ---- places
  index_ends : (ts : List Token) → Ends n (Front (Steps ns)) (Some' (Steps ns)) ts (read.index ns n (inside ns n) ts)
  unfolding read.index inside
  index_ends ts = opens_or (λ n p. (inside ns n).whole >>= (λ a. expect m.CloseBracket >>= (λ q. pure (step.Index p a)))) n m.OpenBracket ts
      (λ g. halts (close m.Dot) (word letter spot ∷ []) (refl, refl) (λ r z l. (step.Field spot (named letter spot) ∷ [], Steps.dot Steps.no_step)))
      (λ i h p us. seq ((deeper i h).whole us) (close m.CloseBracket ∷ []) (λ r ss z l s. (step.Index p (s.0) ∷ [], Steps.index (s.1) Steps.no_step)) (λ a vs.
      expect_then m.CloseBracket vs [] (λ r z l ss s. (step.Index p a ∷ [], Steps.index s Steps.no_step)) (λ q ws. done (λ r zs l f ss s xs ys t. Steps.index s t))))

  dot_ends : (ts : List Token) → Ends n (Front (Steps ns)) (Some' (Steps ns)) ts (read.step_by ns n (inside ns n) (Some m.Dot) ts)
  dot_ends ts = expect_then m.Dot ts (word letter spot ∷ []) (λ r z l. (step.Field spot (named letter spot) ∷ [], Steps.dot Steps.no_step)) (λ p us.
      name_then _ us [] (λ r z l. (step.Field p (named letter spot) ∷ [], Steps.dot Steps.no_step)) (λ w q vs. done (λ r zs l f xs ys t. Steps.dot t)))

  arrow_ends : (ts : List Token) → Ends n (Front (Steps ns)) (Some' (Steps ns)) ts (read.step_by ns n (inside ns n) (Some m.Arrow) ts)
  arrow_ends ts = expect_then m.Arrow ts (word letter spot ∷ []) (λ r z l. (step.Arrow spot (named letter spot) ∷ [], Steps.arrow Steps.no_step)) (λ p us.
      name_then _ us [] (λ r z l. (step.Arrow p (named letter spot) ∷ [], Steps.arrow Steps.no_step)) (λ w q vs. done (λ r zs l f xs ys t. Steps.arrow t)))

  step_by_ends : (o : Option Punct) (ts : List Token) → Ends n (Front (Steps ns)) (Some' (Steps ns)) ts (read.step_by ns n (inside ns n) o ts)
  step_by_ends (Some m.OpenBracket) ts = index_ends ts
  step_by_ends (Some m.Dot) ts = dot_ends ts
  step_by_ends (Some m.Arrow) ts = arrow_ends ts
  step_by_ends o ts = halts (close m.Dot) (word letter spot ∷ []) (refl, refl) (λ r z l. (step.Field spot (named letter spot) ∷ [], Steps.dot Steps.no_step))

  a_step_ends : (ts : List Token) → Ends n (Front (Steps ns)) (Some' (Steps ns)) ts (read.a_step ns n (inside ns n) ts)
  unfolding read.a_step
  a_step_ends ts = step_by_ends (mark_at ts) ts

  steps_ends : (ts : List Token) → Ends n (Steps ns) (Some' (Steps ns)) ts (read.steps ns n (inside ns n) ts)
  unfolding read.steps
  steps_ends ts = many_ends n (Steps ns) read.sees_step (read.a_step ns n (inside ns n)) (fine.a_step_fine ns n (inside ns n) (inside_fine ns n)) (λ r us vs h f. Steps.no_step) (λ us h. a_step_ends us) ts

  by_name_ends : (ts : List Token) → Ends n (Place' ns) (Some' (Place' ns)) ts (read.by_name ns n (inside ns n) ts)
  unfolding read.by_name
  by_name_ends ts = variable_then ns _ ts [] (λ r z l. (tree.place (at.Name (named (fresh ns) spot)) [], Place'.name (fresh-is ns) Steps.no_step)) (λ w p us v.
      seq (steps_ends us) [] (λ r ss z l s. (tree.place (at.Name (named w p)) (s.0), Place'.name v (s.1))) (λ xs vs. done (λ r zs l f ss s. Place'.name v s)))

  star_ends : (ts : List Token) → Ends n (Place' ns) (Some' (Place' ns)) ts (read.star ns n (inside ns n) ts)
  unfolding read.star
  star_ends ts = expect_then m.Star ts (word (fresh ns) spot ∷ []) (λ r z l. (tree.place (at.Star spot (named (fresh ns) spot)) [], Place'.star (fresh-is ns))) (λ p us.
      variable_then ns _ us [] (λ r z l. (tree.place (at.Star p (named (fresh ns) spot)) [], Place'.star (fresh-is ns))) (λ w q vs v. done (λ r zs l f. Place'.star v)))

module _ (ns : Names) (n : ℕ) (deeper : (i : ℕ) → n ≡ suc i → Deeper ns i) where
  through_ends : (ts : List Token) → Ends n (Place' ns) (Some' (Place' ns)) ts (read.through ns n (inside ns n) ts)
  unfolding read.through
  through_ends ts = opens_or (λ n p. expect m.Star >>= (λ q. variable ns >>= (λ x. expect m.CloseParen >>= (λ o. read.steps ns n (inside ns n) >>= (λ ss. pure (tree.place (at.Through p q x) ss)))))) n m.OpenParen ts
      (λ g. halts (word (fresh ns) spot) [] (refl, refl) (λ r z l. (tree.place (at.Name (named (fresh ns) spot)) [], Place'.name (fresh-is ns) Steps.no_step)))
      (λ i h p us. expect_then m.Star us (word (fresh ns) spot ∷ close m.CloseParen ∷ []) (λ r z l. (tree.place (at.Through p spot (named (fresh ns) spot)) [], Place'.through (fresh-is ns) Steps.no_step)) (λ q vs.
      variable_then ns _ vs (close m.CloseParen ∷ []) (λ r z l. (tree.place (at.Through p q (named (fresh ns) spot)) [], Place'.through (fresh-is ns) Steps.no_step)) (λ w o ws v.
      expect_then m.CloseParen ws [] (λ r z l. (tree.place (at.Through p q (named w o)) [], Place'.through v Steps.no_step)) (λ c xs.
      seq (restored i xs (steps_ends ns (suc i) (λ j g. deeper j (h ∙ g)) xs)) [] (λ r ss z l s. (tree.place (at.Through p q (named w o)) (s.0), Place'.through v (s.1))) (λ ss ys. done (λ r zs l f ss s. Place'.through v s))))))

  place_by_ends : (o : Option Punct) (ts : List Token) → Ends n (Place' ns) (Some' (Place' ns)) ts (read.place_by ns n (inside ns n) o ts)
  place_by_ends (Some m.OpenParen) ts = through_ends ts
  place_by_ends (Some m.Star) ts = star_ends ns n deeper ts
  place_by_ends o ts = by_name_ends ns n deeper ts

  pub place_ends : (ts : List Token) → Ends n (Place' ns) (Some' (Place' ns)) ts (read.place ns n (inside ns n) ts)
  unfolding read.place
  place_ends ts = place_by_ends (mark_at ts) ts

-- ---- types
-- behind the word `struct`
abbrev AfterStruct : Names → ℕ → List Token → Base → List Token → Type 0
AfterStruct ns r ts x us = (at : Pos) → Base' ns r (key k.Struct at ∷ ts) x us

plain_after : (ns : Names) (r : ℕ) (p q : Pos) (vs : List Token) (fs : List Field) (us : List Token) → sound.SomeFields ns r vs fs (mark m.CloseBrace q ∷ us) → AfterStruct ns (suc r) (mark m.OpenBrace p ∷ vs) (b.Struct (tree.structure None fs)) us
plain_after ns r p q vs fs us (sound.SomeFields.some_fields f) at = Base'.structure (Struct'.plain f)

tagged_after : (ns : Names) (r : ℕ) (w : List ℕ) (by p q : Pos) (vs : List Token) (fs : List Field) (us : List Token) → sound.SomeFields ns r vs fs (mark m.CloseBrace q ∷ us) → AfterStruct ns (suc r) (word w by ∷ mark m.OpenBrace p ∷ vs) (b.Struct (tree.structure (Some (named w by)) fs)) us
tagged_after ns r w by p q vs fs us (sound.SomeFields.some_fields f) at = Base'.structure (Struct'.tagged f)

abbrev MoreDeclrs : Names → ℕ → List Token → List Declr → List Token → Type 0
MoreDeclrs ns r ts ds us = (ss : List Token) (x : Declr) → Declr' ns r ss x ts → Declrs ns r ss (x ∷ ds) us

field_front : (ns : Names) (r : ℕ) (ss : List Token) (t : Specifiers) (us : List Token) (ds : List Declr) (p : Pos) (vs : List Token) → Specifiers' ns r ss t us → Declrs ns r us ds (mark m.Semicolon p ∷ vs) → Front (Fields ns) r ss (tree.field t ds) vs
field_front ns r ss t us _ p vs s (Declrs.last_declr i) xs ws go = Fields.field s (Declrs.last_declr i) go
field_front ns r ss t us _ p vs s (Declrs.next_declr i j) xs ws go = Fields.field s (Declrs.next_declr i j) go

some_front : (ns : Names) (r : ℕ) (ss : List Token) (x : Field) (us : List Token) (fs : List Field) (vs : List Token) → Front (Fields ns) r ss x us → Fields ns r us fs vs → sound.SomeFields ns r ss (x ∷ fs) vs
some_front ns r ss x us fs vs i j = sound.SomeFields.some_fields (i fs vs j)

abbrev IsQualifiers : ℕ → List Token → List Qualified → List Token → Type 0
IsQualifiers r ts qs us = Qualifiers ts qs us

qualifier_key : (n : ℕ) (o : Option Qualifier) (kw : Keyword) (p : Pos) (us : List Token) → qualifier_of kw ≡ o → read.is_some o ≡ true → Ends n (Front IsQualifiers) (Some' IsQualifiers) (key kw p ∷ us) (taken (read.qualified_at o (key kw p ∷ us)) (key kw p ∷ us))
qualifier_key n None kw p us g h = cc
qualifier_key n (Some q) kw p us g h = stepped (key kw p) (done (λ r vs l o xs ws t. Qualifiers.qualifier g t))

qualifier_word : (n : ℕ) (v : Word) (p : Pos) (us : List Token) → let t : Token = record { word = v; pos = p } in read.sees_qualifier (t ∷ us) ≡ true → Ends n (Front IsQualifiers) (Some' IsQualifiers) (t ∷ us) (read.qualifier (t ∷ us))
unfolding read.qualifier read.sees_qualifier key_at
qualifier_word n (Key kw) p us h = qualifier_key n (qualifier_of kw) kw p us refl h
qualifier_word n (Name w) p us h = cc
qualifier_word n (Number v u l d) p us h = cc
qualifier_word n (Mark j) p us h = cc

qualifier_ends : (n : ℕ) (ts : List Token) → read.sees_qualifier ts ≡ true → Ends n (Front IsQualifiers) (Some' IsQualifiers) ts (read.qualifier ts)
unfolding read.sees_qualifier key_at
qualifier_ends n [] h = cc
qualifier_ends n (t ∷ us) h = qualifier_word n t.word t.pos us h

qualifiers_ends : (n : ℕ) (ts : List Token) → Ends n IsQualifiers (Some' IsQualifiers) ts (many read.sees_qualifier read.qualifier ts)
qualifiers_ends n ts = many_ends n IsQualifiers read.sees_qualifier read.qualifier fine.qualifier_fine (λ r us vs h f. Qualifiers.no_qualifier) (qualifier_ends n) ts

abbrev IsWords : ℕ → List Token → List ScalarWord → List Token → Type 0
IsWords r ts ws us = ScalarWords ts ws us

scalar_key : (n : ℕ) (o : Option ScalarWord) (kw : Keyword) (p : Pos) (us : List Token) → scalar_of kw ≡ o → Ends n (Front IsWords) (Some' (Front IsWords)) (key kw p ∷ us) (taken o (key kw p ∷ us))
scalar_key n None kw p us g = halts int [] (refl, refl) (λ r z l. (w.Int, λ xs vs t. ScalarWords.scalar_word refl t))
scalar_key n (Some q) kw p us g = stepped (key kw p) (done (λ r vs l o xs ws t. ScalarWords.scalar_word g t))

scalar_none : (n : ℕ) (ts : List Token) → Ends n (Front IsWords) (Some' (Front IsWords)) ts (Stuck ts)
scalar_none n ts = halts int [] (refl, refl) (λ r z l. (w.Int, λ xs vs t. ScalarWords.scalar_word refl t))

scalar_word_at : (n : ℕ) (v : Word) (p : Pos) (us : List Token) → let t : Token = record { word = v; pos = p } in Ends n (Front IsWords) (Some' (Front IsWords)) (t ∷ us) (read.scalar_word (t ∷ us))
unfolding read.scalar_word key_at
scalar_word_at n (Key kw) p us = scalar_key n (scalar_of kw) kw p us refl
scalar_word_at n (Name w) p us = scalar_none n _
scalar_word_at n (Number v u l d) p us = scalar_none n _
scalar_word_at n (Mark j) p us = scalar_none n _

scalar_word_ends : (n : ℕ) (ts : List Token) → Ends n (Front IsWords) (Some' (Front IsWords)) ts (read.scalar_word ts)
unfolding read.scalar_word key_at
scalar_word_ends n [] = scalar_none n []
scalar_word_ends n (t ∷ us) = scalar_word_at n t.word t.pos us

scalars_ends : (n : ℕ) (ts : List Token) → Ends n IsWords (Some' IsWords) ts (many read.sees_scalar read.scalar_word ts)
scalars_ends n ts = many_ends n IsWords read.sees_scalar read.scalar_word fine.scalar_word_fine (λ r us vs h f. ScalarWords.no_word) (λ us h. ends_map (λ r us x vs g. g) (λ r us z s. (s.0 ∷ [], s.1 [] z ScalarWords.no_word)) (scalar_word_ends n us)) ts

scalar_base_ends : (ns : Names) (n : ℕ) (ts : List Token) → Ends n (Base' ns) (Some' (Base' ns)) ts ((read.scalar_word >>= (λ w. many read.sees_scalar read.scalar_word >>= (λ ws. pure (b.Scalar (w ∷ ws))))) ts)
scalar_base_ends ns n ts = seq (scalar_word_ends n ts) [] (λ r ss z l s. (b.Scalar (s.0 ∷ []), Base'.scalar (s.1 [] z ScalarWords.no_word))) (λ x us.
    seq (scalars_ends n us) [] (λ r ss z l s ts i. (b.Scalar (x ∷ s.0), Base'.scalar (i (s.0) z (s.1)))) (λ xs vs. done (λ r zs l f ss s ts i. Base'.scalar (i xs zs s))))

int_base : (ns : Names) (n : ℕ) (us : List Token) → Ends n (Base' ns) (Some' (Base' ns)) us (Stuck us)
int_base ns n us = halts int [] (refl, refl) (λ r z l. (b.Scalar (w.Int ∷ []), Base'.scalar (ScalarWords.scalar_word refl ScalarWords.no_word)))

module _ (ns : Names) (n : ℕ) (deeper : (i : ℕ) → n ≡ suc i → Deeper ns i) where
  plain_body_ends : (ts : List Token) → Ends n (AfterStruct ns) (Some' (AfterStruct ns)) ts (read.body ns n (inside ns n) None ts)
  unfolding read.body inside
  plain_body_ends ts = opens_or (λ n p. (inside ns n).fields >>= (λ fs. expect m.CloseBrace >>= (λ q. pure (b.Struct (tree.structure None fs))))) n m.OpenBrace ts
      (λ g. halts (word letter spot) [] (refl, refl) (λ r z l. (b.Tag (named letter spot), λ at. Base'.tag)))
      (λ i h p us. seq ((deeper i h).fields us) (close m.CloseBrace ∷ []) (λ r ss z l s. (b.Struct (tree.structure None (s.0)), plain_after ns r p spot ss (s.0) z (s.1))) (λ fs vs.
      expect_then m.CloseBrace vs [] (λ r z l ss s. (b.Struct (tree.structure None fs), plain_after ns r p spot ss fs z s)) (λ q ws. done (λ r zs l f ss s. plain_after ns r p q ss fs zs s))))

  tagged_body_ends : (w : List ℕ) (by : Pos) (ts : List Token) → sees m.OpenBrace ts ≡ true → Ends n (λ r vs x us. AfterStruct ns r (word w by ∷ vs) x us) (λ r vs z. Some' (AfterStruct ns) r (word w by ∷ vs) z) ts (read.body ns n (inside ns n) (Some (named w by)) ts)
  unfolding read.body inside
  tagged_body_ends w by ts g = opens_seen (λ n p. (inside ns n).fields >>= (λ fs. expect m.CloseBrace >>= (λ q. pure (b.Struct (tree.structure (Some (named w by)) fs))))) n m.OpenBrace ts g
      (λ i h p us. seq ((deeper i h).fields us) (close m.CloseBrace ∷ []) (λ r ss z l s. (b.Struct (tree.structure (Some (named w by)) (s.0)), tagged_after ns r w by p spot ss (s.0) z (s.1))) (λ fs vs.
      expect_then m.CloseBrace vs [] (λ r z l ss s. (b.Struct (tree.structure (Some (named w by)) fs), tagged_after ns r w by p spot ss fs z s)) (λ q ws. done (λ r zs l f ss s. tagged_after ns r w by p q ss fs zs s))))

  tagged_ends : (o : Option Named) (ts : List Token) → name_at ts ≡ o → Ends n (AfterStruct ns) (Some' (AfterStruct ns)) ts (read.tagged ns n (inside ns n) o ts)
  tagged_ends None ts h = plain_body_ends ts
  tagged_ends (Some x) ts h = named_then (λ x us. cond (sees m.OpenBrace us) (read.body ns n (inside ns n) (Some x) us) (Got (b.Tag x) us)) (λ w by us. ends_if (sees m.OpenBrace us) (λ g. tagged_body_ends w by us g) (λ g. done (λ r vs l f at. Base'.tag))) ts x h

  struct_or_tag_ends : (ts : List Token) → Ends n (AfterStruct ns) (Some' (AfterStruct ns)) ts (read.struct_or_tag ns n (inside ns n) ts)
  unfolding read.struct_or_tag
  struct_or_tag_ends ts = tagged_ends (name_at ts) ts refl

  type_word : (v : Word) (p : Pos) (us : List Token) → let t : Token = record { word = v; pos = p } in Ends n (Base' ns) (Some' (Base' ns)) (t ∷ us) (read.type_name ns n (inside ns n) (t ∷ us))
  unfolding read.type_name any_name name_at
  type_word (Name w) p us = ends_if (is_type_name ns w) (λ h. stepped (word w p) (done (λ r vs l f. Base'.type_name h))) (λ h. int_base ns n _)
  type_word (Number v u l d) p us = int_base ns n _
  type_word (Key j) p us = int_base ns n _
  type_word (Mark j) p us = int_base ns n _

  type_name_ends : (ts : List Token) → Ends n (Base' ns) (Some' (Base' ns)) ts (read.type_name ns n (inside ns n) ts)
  unfolding read.type_name any_name name_at
  type_name_ends [] = int_base ns n []
  type_name_ends (t ∷ us) = type_word t.word t.pos us

  base_by_ends : (o : Option Keyword) (ts : List Token) → key_at ts ≡ o → Ends n (Base' ns) (Some' (Base' ns)) ts (read.base_by ns n (inside ns n) o ts)
  base_by_ends (Some k.Void) ts h = keyed_then k.Void (λ us. Got b.Void us) ts h (λ p us. done (λ r vs l f. Base'.void))
  base_by_ends (Some k.Struct) ts h = keyed_then k.Struct (read.struct_or_tag ns n (inside ns n)) ts h (λ p us. ends_map (λ r us x vs g. g p) (λ r us z s. (s.0, s.1 p)) (struct_or_tag_ends us))
  base_by_ends (Some w) ts h = scalar_base_ends ns n ts
  base_by_ends None ts h = type_name_ends ts

  pub base_ends : (ts : List Token) → Ends n (Base' ns) (Some' (Base' ns)) ts (read.base ns n (inside ns n) ts)
  unfolding read.base
  base_ends ts = base_by_ends (key_at ts) ts refl

-- a type whose place is given
abbrev TypeAt : Names → Pos → ℕ → List Token → Specifiers → List Token → Type 0
TypeAt ns p r ts t us = (p ≡ tree.pos_of ts) → Specifiers' ns r ts t us

type_at : (ns : Names) (p : Pos) (r : ℕ) (ts : List Token) (qs : List Qualified) (us : List Token) (x : Base) (vs : List Token) → Qualifiers ts qs us → Base' ns r us x vs → TypeAt ns p r ts (tree.specifiers p qs x) vs
type_at ns p r ts qs us x vs i j e = subst (λ (z : Pos). Specifiers' ns r ts (tree.specifiers z qs x) vs) (sym e) (Specifiers'.specifiers i j)

pub specifiers_ends : (ns : Names) (n : ℕ) (deeper : (i : ℕ) → n ≡ suc i → Deeper ns i) (ts : List Token) → Ends n (Specifiers' ns) (Some' (Specifiers' ns)) ts (read.specifiers ns n (inside ns n) ts)
unfolding read.specifiers
specifiers_ends ns n deeper ts = ends_map (λ r us t vs g. g refl) (λ r us z s. s) (placed_ends (λ p r ss t us. TypeAt ns p r ss t us) ts _ (λ t us e g. type-shorter (g refl))
    (seq (qualifiers_ends n ts) (int ∷ []) (λ r ss z l s. (tree.specifiers (tree.pos_of ss) (s.0) (b.Scalar (w.Int ∷ [])), Specifiers'.specifiers (s.1) (Base'.scalar (ScalarWords.scalar_word refl ScalarWords.no_word)))) (λ qs us.
    seq (base_ends ns n deeper us) [] (λ r vs z l s ss q. (tree.specifiers (tree.pos_of ss) qs (s.0), Specifiers'.specifiers q (s.1))) (λ t vs. done (λ r zs l f us s ss q. type_at ns (tree.pos_of ts) r ss qs us t zs q s)))))

module _ (ns : Names) (n : ℕ) (deeper : (i : ℕ) → n ≡ suc i → Deeper ns i) where
  a_bound_ends : (ts : List Token) → sees m.OpenBracket ts ≡ true → Ends n (Front (Bounds ns)) (Some' (Bounds ns)) ts (read.a_bound ns n (inside ns n) ts)
  unfolding read.a_bound inside
  a_bound_ends ts g = opens_seen (λ n p. (inside ns n).whole >>= (λ a. expect m.CloseBracket >>= (λ q. pure (tree.bound p a)))) n m.OpenBracket ts g
      (λ i h p us. seq ((deeper i h).whole us) (close m.CloseBracket ∷ []) (λ r ss z l s. (tree.bound p (s.0) ∷ [], Bounds.bound (s.1) Bounds.no_bound)) (λ a vs.
      expect_then m.CloseBracket vs [] (λ r z l ss s. (tree.bound p a ∷ [], Bounds.bound s Bounds.no_bound)) (λ q ws. done (λ r zs l f ss s xs ys t. Bounds.bound s t))))

  bounds_ends : (ts : List Token) → Ends n (Bounds ns) (Some' (Bounds ns)) ts (many (sees m.OpenBracket) (read.a_bound ns n (inside ns n)) ts)
  bounds_ends ts = many_ends n (Bounds ns) (sees m.OpenBracket) (read.a_bound ns n (inside ns n)) (fine.a_bound_fine ns n (inside ns n) (inside_fine ns n)) (λ r us vs h f. Bounds.no_bound) (λ us h. a_bound_ends us h) ts

  pub declr_ends : (ts : List Token) → Ends n (Declr' ns) (Some' (Declr' ns)) ts (read.declr ns n (inside ns n) ts)
  unfolding read.declr
  declr_ends ts = name_then _ ts [] (λ r z l. (letter_declr, Declr'.declr Bounds.no_bound)) (λ w p us.
      seq (bounds_ends us) [] (λ r ss z l s. (tree.declr (named w p) (s.0), Declr'.declr (s.1))) (λ bs vs. done (λ r zs l f ss s. Declr'.declr s)))

  next_declr_ends : (ts : List Token) → Ends n (Front (MoreDeclrs ns)) (Some' (MoreDeclrs ns)) ts (read.next_declr ns n (inside ns n) ts)
  unfolding read.next_declr
  next_declr_ends ts = expect_then m.Comma ts (word letter spot ∷ []) (λ r z l. (letter_declr ∷ [], λ ss x i. Declrs.next_declr i (Declrs.last_declr (Declr'.declr Bounds.no_bound)))) (λ p us.
      ends_map (λ r vs d ws j xs ys go ss x i. Declrs.next_declr i (go vs d j)) (λ r vs z s. (s.0 ∷ [], λ ss x i. Declrs.next_declr i (Declrs.last_declr (s.1)))) (declr_ends us))

  more_declrs_ends : (ts : List Token) → Ends n (MoreDeclrs ns) (Some' (MoreDeclrs ns)) ts (many (sees m.Comma) (read.next_declr ns n (inside ns n)) ts)
  more_declrs_ends ts = many_ends n (MoreDeclrs ns) (sees m.Comma) (read.next_declr ns n (inside ns n)) (fine.next_declr_fine ns n (inside ns n) (inside_fine ns n)) (λ r us vs h f ss x i. Declrs.last_declr i) (λ us h. next_declr_ends us) ts

  declrs_ends : (ts : List Token) → Ends n (Declrs ns) (Some' (Declrs ns)) ts (read.declrs ns n (inside ns n) ts)
  unfolding read.declrs
  declrs_ends ts = seq (declr_ends ts) [] (λ r ss z l s. (s.0 ∷ [], Declrs.last_declr (s.1))) (λ d us.
      seq (more_declrs_ends us) [] (λ r vs z l s ss i. (d ∷ s.0, s.1 ss d i)) (λ ds vs. done (λ r zs l f us s ss i. s ss d i)))

  field_ends : (ts : List Token) → Ends n (Front (Fields ns)) (Some' (Front (Fields ns))) ts (read.field ns n (inside ns n) ts)
  unfolding read.field
  field_ends ts = seq (specifiers_ends ns n deeper ts) (word letter spot ∷ close m.Semicolon ∷ []) (λ r ss z l s. (tree.field (s.0) (letter_declr ∷ []), λ xs ws go. Fields.field (s.1) (Declrs.last_declr (Declr'.declr Bounds.no_bound)) go)) (λ t us.
      seq (declrs_ends us) (close m.Semicolon ∷ []) (λ r vs z l s ss i. (tree.field t (s.0), field_front ns r ss t vs (s.0) spot z i (s.1))) (λ ds vs.
      expect_then m.Semicolon vs [] (λ r z l us j ss i. (tree.field t ds, field_front ns r ss t us ds spot z i j)) (λ p ws. done (λ r zs l f us j ss i. field_front ns r ss t us ds p zs i j))))

  pub fields_ends : (ts : List Token) → Ends n (sound.SomeFields ns) (Some' (sound.SomeFields ns)) ts (read.fields ns n (inside ns n) ts)
  unfolding read.fields
  fields_ends ts = seq (field_ends ts) [] (λ r ss z l s. (s.0 ∷ [], some_front ns r ss (s.0) z [] z (s.1) Fields.no_field)) (λ x us.
      seq (many_ends n (Fields ns) (read.no_brace ns n (inside ns n)) (read.field ns n (inside ns n)) (fine.field_fine ns n (inside ns n) (inside_fine ns n)) (λ r us vs h f. Fields.no_field) (λ vs h. ends_map (λ r us x vs g. g) (λ r us z s. (s.0 ∷ [], s.1 [] z Fields.no_field)) (field_ends vs)) us) []
      (λ r vs z l s ss i. (x ∷ s.0, some_front ns r ss x vs (s.0) z i (s.1))) (λ fs vs. done (λ r zs l f us s ss i. some_front ns r ss x us fs zs i s)))

-- ---- a bracket, a star and a name
-- what a star and a name in brackets are, and what is left behind them
record StarOf (ns : Names) (w : List ℕ) (us vs : List Token) : Type 0 where
  is_name : is_type_name ns w ≡ false
  left : us ≡ vs

pub first_word : (a c : Token) (us vs : List Token) → a ∷ us ≡ c ∷ vs → a.word ≡ c.word
first_word a c us vs h = let g : a ≡ c = cc in ap (λ (t : Token). t.word) g

pub rest_of : (a c : Token) (us vs : List Token) → a ∷ us ≡ c ∷ vs → us ≡ vs
rest_of a c us vs h = cc

star-place : (ns : Names) (r : ℕ) (p q : Pos) (w : List ℕ) (rest : List Token) (x : Place) (us : List Token) → Place' ns r (mark m.Star p ∷ word w q ∷ rest) x us → StarOf ns w us rest
star-place ns r p q w rest _ _ (Place'.star v) = record { is_name = v; left = refl }

star-unary : (ns : Names) (r : ℕ) (p q : Pos) (w : List ℕ) (rest : List Token) (a : Expr) (us : List Token) → Unary ns r (mark m.Star p ∷ word w q ∷ rest) a us → StarOf ns w us rest
star-unary ns _ p q w rest _ us (Unary.prefix h u) = cc
star-unary ns r p q w rest _ us (Unary.place {x = x} i) = star-place ns r p q w rest x us i

star-ranked : (ns : Names) (r l : ℕ) (p q o : Pos) (w : List ℕ) (rest : List Token) (a : Expr) (us : List Token) → Ranked ns r l (mark m.Star p ∷ word w q ∷ mark m.CloseParen o ∷ rest) a us → StarOf ns w us (mark m.CloseParen o ∷ rest)
star-ranked ns r _ p q o w rest a us (Ranked.unary u) = star-unary ns r p q w (mark m.CloseParen o ∷ rest) a us u
star-ranked ns r _ p q o w rest a us (Ranked.alone {l = l} i) = star-ranked ns r l p q o w rest a us i
star-ranked ns r _ p q o w rest _ us (Ranked.chain {l = l} {a = a} (i) (Links.link {us = ts} {p = at} {mk = mk} {op = op} h level j go)) =
    let e = (star-ranked ns r l p q o w rest a (mark mk at ∷ ts) i).left in
    let words : Mark mk ≡ Mark m.CloseParen = first_word (mark mk at) (mark m.CloseParen o) ts rest e in
    let same : mk ≡ m.CloseParen = cc in
    let f : operator_of m.CloseParen ≡ Some op = ap operator_of (sym same) ∙ h in cc

star-whole : (ns : Names) (r : ℕ) (p q o : Pos) (w : List ℕ) (rest : List Token) (a : Expr) (us : List Token) → Whole ns r (mark m.Star p ∷ word w q ∷ mark m.CloseParen o ∷ rest) a us → StarOf ns w us (mark m.CloseParen o ∷ rest)
star-whole ns r p q o w rest a us (Whole.binary i) = star-ranked ns r loosest p q o w rest a us i
star-whole ns _ p q o w rest _ us (Whole.choice {n = n} {us = ts} {p = at} {a = a} {c = c} i j k) = let e = (star-ranked ns (suc n) loosest p q o w rest _ (mark m.Question at ∷ ts) i).left in
    let words : Mark m.Question ≡ Mark m.CloseParen = first_word (mark m.Question at) (mark m.CloseParen o) ts rest e in cc

data IsThrough : List Token → Type 0 where
  star_name : {p q o : Pos} {w : List ℕ} {rest : List Token} → IsThrough (mark m.Star p ∷ word w q ∷ mark m.CloseParen o ∷ rest)

close_mark : (j : Punct) → is_close (Mark j) ≡ true → j ≡ m.CloseParen
close_mark m.CloseParen h = refl
close_mark j h = cc

star_mark : (j : Punct) → is_star (Mark j) ≡ true → j ≡ m.Star
star_mark m.Star h = refl
star_mark j h = cc

close_word : (v : Word) → is_close v ≡ true → v ≡ Mark m.CloseParen
close_word (Mark j) h = ap Mark (close_mark j h)
close_word (Name w) h = cc
close_word (Number v u l d) h = cc
close_word (Key j) h = cc

star_word : (v : Word) → is_star v ≡ true → v ≡ Mark m.Star
star_word (Mark j) h = ap Mark (star_mark j h)
star_word (Name w) h = cc
star_word (Number v u l d) h = cc
star_word (Key j) h = cc

third_close : (p q o : Pos) (w : List ℕ) (v : Word) (rest : List Token) → v ≡ Mark m.CloseParen → IsThrough (mark m.Star p ∷ word w q ∷ (record { word = v; pos = o }) ∷ rest)
third_close p q o w v rest e = subst (λ (x : Word). IsThrough (mark m.Star p ∷ word w q ∷ (record { word = x; pos = o }) ∷ rest)) (sym e) IsThrough.star_name

name_close : (p q o : Pos) (v x : Word) (rest : List Token) → is_name_and_close ((record { word = v; pos = q }) ∷ (record { word = x; pos = o }) ∷ rest) ≡ true → IsThrough (mark m.Star p ∷ (record { word = v; pos = q }) ∷ (record { word = x; pos = o }) ∷ rest)
name_close p q o (Name w) x rest h = third_close p q o w x rest (close_word x h)
name_close p q o (Number v u l d) x rest h = cc
name_close p q o (Key j) x rest h = cc
name_close p q o (Mark j) x rest h = cc

pub both_true : (x y : Bool) → x && y ≡ true → (x ≡ true) × (y ≡ true)
both_true true true h = (refl, refl)
both_true true false h = cc
both_true false y h = cc

star_first : (p : Pos) (v : Word) (ts : List Token) → v ≡ Mark m.Star → ((p : Pos) → IsThrough (mark m.Star p ∷ ts)) → IsThrough ((record { word = v; pos = p }) ∷ ts)
star_first p v ts e go = subst (λ (x : Word). IsThrough ((record { word = x; pos = p }) ∷ ts)) (sym e) (go p)

through-is : (ts : List Token) → is_through ts ≡ true → IsThrough ts
unfolding is_through
through-is [] h = cc
through-is (t ∷ []) h = let g = both_true (is_star t.word) false h in cc
through-is (t ∷ x ∷ []) h = let g = both_true (is_star t.word) false h in cc
through-is (t ∷ x ∷ y ∷ ts) h = let g = both_true (is_star t.word) _ h in star_first t.pos t.word (x ∷ y ∷ ts) (star_word t.word (g.0)) (λ p. name_close p x.pos y.pos x.word y.word ts (g.1))

-- in brackets stands an expression, or a star and a name
through_or : (ns : Names) (r : ℕ) (p q : Pos) (ss : List Token) (a : Expr) (us : List Token) → Whole ns r ss a (mark m.CloseParen q ∷ us) → IsThrough ss → Some' (Unary ns) (suc r) (mark m.OpenParen p ∷ ss) us
through_or ns r p q _ a us i (IsThrough.star_name {p = x} {q = y} {o} {w} {rest}) =
    let s = star-whole ns r x y o w rest a (mark m.CloseParen q ∷ us) i in
    let same : us ≡ rest = rest_of (mark m.CloseParen q) (mark m.CloseParen o) us rest (s.left) in
    (e.Place (tree.place (at.Through p x (named w y)) []), subst (λ z. Unary ns (suc r) (mark m.OpenParen p ∷ mark m.Star x ∷ word w y ∷ mark m.CloseParen o ∷ rest) (e.Place (tree.place (at.Through p x (named w y)) [])) z) (sym same) (Unary.place (Place'.through (s.is_name) Steps.no_step)))

bracket_or : (ns : Names) (r : ℕ) (p q : Pos) (ss : List Token) (a : Expr) (us : List Token) → Whole ns r ss a (mark m.CloseParen q ∷ us) → Some' (Unary ns) (suc r) (mark m.OpenParen p ∷ ss) us
bracket_or ns r p q ss a us i = by_test (is_through ss) refl
  where
    by_test : (x : Bool) → is_through ss ≡ x → Some' (Unary ns) (suc r) (mark m.OpenParen p ∷ ss) us
    by_test true h = through_or ns r p q ss a us i (through-is ss h)
    by_test false h = (e.Bracket p a, Unary.bracket i h)

-- what follows a closing bracket doesn't count
through-closed : (c : List Token) (q : Pos) (us vs : List Token) → is_through (c ++ mark m.CloseParen q ∷ us) ≡ is_through (c ++ mark m.CloseParen q ∷ vs)
unfolding is_through
through-closed [] q us vs = refl
through-closed (x ∷ []) q [] [] = refl
through-closed (x ∷ []) q [] (v ∷ vs) = refl
through-closed (x ∷ []) q (u ∷ us) [] = refl
through-closed (x ∷ []) q (u ∷ us) (v ∷ vs) = refl
through-closed (x ∷ y ∷ []) q us vs = refl
through-closed (x ∷ y ∷ z ∷ c) q us vs = refl

operator_goes : (l : ℕ) (o : Option Operator) (ts : List Token) → read.is_of_level l o ≡ true → (op : Operator) × (taken o ts ≡ Got op (after ts))
operator_goes l None ts h = cc
operator_goes l (Some op) ts h = (op, refl)

operator_got : (l : ℕ) (ts : List Token) → read.sees_operator l ts ≡ true → (op : Operator) × (read.operator ts ≡ Got op (after ts))
unfolding read.operator read.sees_operator
operator_got l ts h = operator_goes l (read.operator_in (mark_at ts)) ts h

nought_unary : (ns : Names) (n : ℕ) (us : List Token) → Ends n (Unary ns) (Some' (Unary ns)) us (Stuck us)
nought_unary ns n us = halts nought [] (refl, refl) (λ r z l. (zero_expr, Unary.number))

module _ (ns : Names) (n : ℕ) (deeper : (i : ℕ) → n ≡ suc i → Deeper ns i) where
  a_place_ends : (ts : List Token) → Ends n (Unary ns) (Some' (Unary ns)) ts (read.a_place ns n (inside ns n) ts)
  unfolding read.a_place
  a_place_ends ts = seq (place_ends ns n deeper ts) [] (λ r ss z l s. (e.Place (s.0), Unary.place (s.1))) (λ x us. done (λ r zs l f ss s. Unary.place s))

  cast_ends : (ts : List Token) → Ends n (Unary ns) (Some' (Unary ns)) ts (read.cast ns n (inside ns n) ts)
  unfolding read.cast inside
  cast_ends ts = opens_or (λ n p. (inside ns n).specifiers >>= (λ t. expect m.CloseParen >>= (λ q. (inside ns n).unary >>= (λ a. pure (e.Cast p t a))))) n m.OpenParen ts
      (λ g. nought_unary ns n ts)
      (λ i h p us. seq ((deeper i h).specifiers us) (close m.CloseParen ∷ nought ∷ []) (λ r ss z l s. (e.Cast p (s.0) zero_expr, Unary.cast (s.1) Unary.number)) (λ t vs.
      expect_then m.CloseParen vs (nought ∷ []) (λ r z l ss s. (e.Cast p t zero_expr, Unary.cast s Unary.number)) (λ q ws.
      seq ((deeper i h).unary ws) [] (λ r xs z l u ss s. (e.Cast p t (u.0), Unary.cast s (u.1))) (λ a xs. done (λ r zs l f ys u ss s. Unary.cast s u)))))

  bracket_ends : (p : Pos) (us : List Token) → is_through us ≡ false → Ends n (Unary ns) (Some' (Unary ns)) (mark m.OpenParen p ∷ us) (read.bracket ns n (inside ns n) (mark m.OpenParen p ∷ us))
  unfolding read.bracket inside opens sees same_mark
  bracket_ends p us t = opens_any_then (λ n p. (inside ns n).whole >>= (λ a. expect m.CloseParen >>= (λ q. pure (e.Bracket p a)))) n (mark m.OpenParen p) us
      (λ i h. seq_front ((deeper i h).whole us) (close m.CloseParen ∷ []) (λ r ss z l s. bracket_or ns r p spot ss (s.0) z (s.1)) (λ a c vs e f g.
      expect_with m.CloseParen vs [] (λ r z l s. bracket_or ns r p spot (c ++ close m.CloseParen ∷ z) a z s) (λ q ws k. done (λ r zs l o s.
      let closed : is_through (c ++ mark m.CloseParen q ∷ zs) ≡ false = through-closed c q zs ws ∙ ap (λ z. is_through (c ++ z)) (sym k) ∙ ap is_through (sym f) ∙ t in Unary.bracket s closed))))

  bracketed_ends : (p : Pos) (us : List Token) → Ends n (Unary ns) (Some' (Unary ns)) (mark m.OpenParen p ∷ us) (read.bracketed ns n (inside ns n) (mark m.OpenParen p ∷ us))
  unfolding read.bracketed
  bracketed_ends p us = ends_if (is_through us) (λ h. a_place_ends (mark m.OpenParen p ∷ us)) (λ h. ends_if (read.begins_type ns us) (λ g. cast_ends (mark m.OpenParen p ∷ us)) (λ g. bracket_ends p us h))

  prefixed_ends : (mk : Punct) (op : Prefix) (p : Pos) (us : List Token) → prefix_of mk ≡ Some op → Ends n (Unary ns) (Some' (Unary ns)) (mark mk p ∷ us) (read.prefixed ns n (inside ns n) op (mark mk p ∷ us))
  unfolding read.prefixed inside
  prefixed_ends mk op p us g = opens_any_then (λ n p. (inside ns n).unary >>= (λ a. pure (e.Prefix op p a))) n (mark mk p) us
      (λ i h. seq ((deeper i h).unary us) [] (λ r ss z l s. (e.Prefix op p (s.0), Unary.prefix g (s.1))) (λ a vs. done (λ r zs l f ss s. Unary.prefix g s)))

  prefix_by_ends : (mk : Punct) (o : Option Prefix) (p : Pos) (us : List Token) → prefix_of mk ≡ o → Ends n (Unary ns) (Some' (Unary ns)) (mark mk p ∷ us) (read.prefix_by ns n (inside ns n) o (mark mk p ∷ us))
  prefix_by_ends mk None p us h = nought_unary ns n _
  prefix_by_ends mk (Some op) p us h = prefixed_ends mk op p us h

  unary_mark_ends : (mk : Punct) (p : Pos) (us : List Token) → Ends n (Unary ns) (Some' (Unary ns)) (mark mk p ∷ us) (read.unary_mark ns n (inside ns n) mk (mark mk p ∷ us))
  unary_mark_ends m.OpenParen p us = bracketed_ends p us
  unary_mark_ends m.Star p us = a_place_ends (mark m.Star p ∷ us)
  unary_mark_ends mk p us = prefix_by_ends mk (prefix_of mk) p us refl

  unary_word : (v : Word) (p : Pos) (us : List Token) → let t : Token = record { word = v; pos = p } in Ends n (Unary ns) (Some' (Unary ns)) (t ∷ us) (read.unary_by ns n (inside ns n) t us)
  unary_word (Name w) p us = a_place_ends (word w p ∷ us)
  unary_word (Number v u l d) p us = stepped (literal v u l d p) (done (λ r zs l f. Unary.number))
  unary_word (Key j) p us = nought_unary ns n _
  unary_word (Mark mk) p us = unary_mark_ends mk p us

  pub unary_ends : (ts : List Token) → Ends n (Unary ns) (Some' (Unary ns)) ts (read.unary ns n (inside ns n) ts)
  unfolding read.unary
  unary_ends [] = nought_unary ns n []
  unary_ends (t ∷ us) = unary_word t.word t.pos us

  link_ends : (l : ℕ) → ((ts : List Token) → Ends n (λ r ts a us. Ranked ns r l ts a us) (Some' (λ r ts a us. Ranked ns r l ts a us)) ts (read.ranked ns n (inside ns n) l ts)) → (ts : List Token) (op : Operator) (us : List Token) → sound.IsOperator l ts op us → read.operator ts ≡ Got op us
      → Ends n (Front (λ r ts xs us. Links ns r l ts xs us)) (Some' (λ r ts xs us. Links ns r l ts xs us)) ts (read.a_link ns n (inside ns n) (read.ranked ns n (inside ns n) l) ts)
  unfolding read.a_link
  link_ends l one _ op _ (sound.IsOperator.is_operator {mk} {p} {us} h level) g = rw g (stepped (mark mk p)
      (seq (one us) [] (λ r ss z k s. (tree.link op p (s.0) ∷ [], Links.link h level (s.1) Links.no_link)) (λ a vs. done (λ r zs k f ss s xs ys t. Links.link h level s t))))

  a_link_ends : (l : ℕ) → ((ts : List Token) → Ends n (λ r ts a us. Ranked ns r l ts a us) (Some' (λ r ts a us. Ranked ns r l ts a us)) ts (read.ranked ns n (inside ns n) l ts)) → (ts : List Token) → read.sees_operator (suc l) ts ≡ true
      → Ends n (Front (λ r ts xs us. Links ns r l ts xs us)) (Some' (λ r ts xs us. Links ns r l ts xs us)) ts (read.a_link ns n (inside ns n) (read.ranked ns n (inside ns n) l) ts)
  a_link_ends l one ts h = let g = operator_got (suc l) ts h in link_ends l one ts (g.0) (after ts) (yielded (sound.operator_sound l ts h) (g.1)) (g.1)

  links_ends : (l : ℕ) → ((ts : List Token) → Ends n (λ r ts a us. Ranked ns r l ts a us) (Some' (λ r ts a us. Ranked ns r l ts a us)) ts (read.ranked ns n (inside ns n) l ts)) → (ts : List Token)
      → Ends n (λ r ts xs us. Links ns r l ts xs us) (Some' (λ r ts xs us. Links ns r l ts xs us)) ts (many (read.sees_operator (suc l)) (read.a_link ns n (inside ns n) (read.ranked ns n (inside ns n) l)) ts)
  links_ends l one ts = many_ends n (λ r ts xs us. Links ns r l ts xs us) (read.sees_operator (suc l)) (read.a_link ns n (inside ns n) (read.ranked ns n (inside ns n) l))
      (fine.a_link_fine ns n (inside ns n) (inside_fine ns n) (read.ranked ns n (inside ns n) l) (fine.ranked_fine ns n (inside ns n) (inside_fine ns n) l)) (λ r us vs h f. Links.no_link) (a_link_ends l one) ts

  pub ranked_ends : (l : ℕ) (ts : List Token) → Ends n (λ r ts a us. Ranked ns r l ts a us) (Some' (λ r ts a us. Ranked ns r l ts a us)) ts (read.ranked ns n (inside ns n) l ts)
  unfolding read.ranked read.chain
  ranked_ends zero ts = ends_map (λ r us a vs u. Ranked.unary u) (λ r us z s. (s.0, Ranked.unary (s.1))) (unary_ends ts)
  ranked_ends (suc l) ts = seq (ranked_ends l ts) [] (λ r ss z k s. (s.0, Ranked.alone (s.1))) (λ a us.
      seq (links_ends l (ranked_ends l) us) [] (λ r vs z k s ss i. (read.chained a (s.0), chained_ranked ns r l ss a vs (s.0) z i (s.1))) (λ xs vs. done (λ r zs k f us s ss i. chained_ranked ns r l ss a us xs zs i s)))

  choice_ends : (c : Expr) (ts : List Token) → sees m.Question ts ≡ true → Ends n (λ r us x vs. (ss : List Token) → Ranked ns r loosest ss c us → Whole ns r ss x vs) (λ r us z. (ss : List Token) → Ranked ns r loosest ss c us → Some' (Whole ns) r ss z) ts (read.choice ns n (inside ns n) c ts)
  unfolding read.choice inside
  choice_ends c ts g = opens_seen (λ n p. (inside ns n).whole >>= (λ a. expect m.Colon >>= (λ q. (inside ns n).whole >>= (λ f. pure (e.Choice c p a f))))) n m.Question ts g
      (λ i h p us. seq ((deeper i h).whole us) (close m.Colon ∷ nought ∷ []) (λ r vs z l s ss i. (e.Choice c p (s.0) zero_expr, Whole.choice i (s.1) (zero-whole ns r z))) (λ a vs.
      expect_then m.Colon vs (nought ∷ []) (λ r z l us s ss i. (e.Choice c p a zero_expr, Whole.choice i s (zero-whole ns r z))) (λ q ws.
      seq ((deeper i h).whole ws) [] (λ r xs z l t us s ss i. (e.Choice c p a (t.0), Whole.choice i s (t.1))) (λ f xs. done (λ r zs l o ys t us s ss i. Whole.choice i s t)))))

  pub whole_ends : (ts : List Token) → Ends n (Whole ns) (Some' (Whole ns)) ts (read.whole ns n (inside ns n) ts)
  unfolding read.whole
  whole_ends ts = seq (ranked_ends loosest ts) [] (λ r ss z l s. (s.0, Whole.binary (s.1))) (λ c us. ends_if (sees m.Question us) (λ h. choice_ends c us h) (λ h. done (λ r zs l f ss i. Whole.binary i)))

pub deeper_ends : (ns : Names) (i : ℕ) → Deeper ns i
deeper_ends ns zero = record { whole = whole_ends ns zero (λ i h. cc); unary = unary_ends ns zero (λ i h. cc); specifiers = specifiers_ends ns zero (λ i h. cc); fields = fields_ends ns zero (λ i h. cc) }
deeper_ends ns (suc n) =
    let below : (i : ℕ) → suc n ≡ suc i → Deeper ns i = λ i h. let same : n ≡ i = omega (arith, h) in subst (Deeper ns) same (deeper_ends ns n) in
    record { whole = whole_ends ns (suc n) below; unary = unary_ends ns (suc n) below; specifiers = specifiers_ends ns (suc n) below; fields = fields_ends ns (suc n) below }
