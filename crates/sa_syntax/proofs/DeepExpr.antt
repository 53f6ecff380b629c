-- Expressions, places and types are read the same up to a token, whatever follows it.
use Rattle.std.proofs.Common.{◌≡◌, ℕ, zero, suc, List, [], ◌∷◌, ◌++◌, Bool, true, false, cond, refl, arith, Option, Some, None}
use Rattle.sa_base.specs.declared.pos.Pos.{Pos}
use Rattle.sa_tokens.specs.declared.keyword.Keyword.{Keyword}
use Rattle.sa_tokens.specs.declared.keyword.Keyword.TheVariants as k
use Rattle.sa_tokens.specs.declared.punct.Punct.{Punct}
use Rattle.sa_tokens.specs.declared.punct.Punct.TheVariants as m
use Rattle.sa_tokens.specs.declared.token.Word.{Word}
use Rattle.sa_tokens.specs.declared.token.Word.TheVariants.{Name, Number, Key, Mark}
use Rattle.sa_tokens.specs.declared.token.Token.{Token}
use Rattle.sa_syntax.specs.declared.decl.Name.{Name as Named}
use Rattle.sa_syntax.specs.declared.decl.Base.TheVariants as b
use Rattle.sa_syntax.specs.declared.decl.Qualifier.{Qualifier}
use Rattle.sa_syntax.specs.declared.expr.Expr.{Expr}
use Rattle.sa_syntax.specs.declared.expr.Expr.TheVariants as e
use Rattle.sa_syntax.specs.declared.expr.Prefix.{Prefix}
use Rattle.sa_syntax.specs.declared.expr.PlaceBase.TheVariants as at
use Rattle.sa_syntax.specs.declared.expr.Step.TheVariants as step
use Rattle.sa_syntax.specs.Trees as tree
use Rattle.sa_syntax.specs.Words.{Names, mark, key, word, literal, is_type_name, is_through, prefix_of, loosest}
use Rattle.sa_syntax.specs.Reading.{Parser, Read, Stuck, Deep, same_mark, sees, after, expect, opens_any, opens, variable, name_at, key_at, mark_at, many, while_from, pure, ◌>>=◌}
use Rattle.sa_syntax.specs.ReadExpr as read
use Rattle.sa_syntax.specs.ReadExpr.{Inner, inside}
use Rattle.sa_syntax.proofs.DeepLemmas.{Shrinks, Local, shrink_then, shrink_cond, local_cond, same_first, variable_gone, any_name_gone, loosen_read, Fine, Ahead, beyond, loosen, fine_then, fine_first, fine_next, fine_pure, fine_refuse, fine_ahead, fine_if, fine_after, fine_taken, fine_any_name, fine_variable, fine_expect, fine_opens_then, fine_opens_any_then, fine_many, sees_ahead, name_ahead, key_ahead, mark_ahead}

-- the readers one deeper, where there is room for them
pub record IsFine (ns : Names) (inner : Inner) : Type 0 where
  pub whole : Fine 0 inner.whole
  pub unary : Fine 0 inner.unary
  pub specifiers : Fine 0 inner.specifiers
  pub fields : Fine 0 inner.fields
  -- behind a star comes a name
  pub star : (p : Pos) (us ts : List Token) → Shrinks 0 ts (variable ns us) → Shrinks 0 ts (inner.whole (mark m.Star p ∷ us))
  pub no_star : (p : Pos) (us : List Token) → variable ns us ≡ Stuck us → inner.whole (mark m.Star p ∷ us) ≡ Stuck us

-- ---- words of types
qualified_ahead : (o : Option Qualifier) (t : Token) (r s : List Token) → read.qualified_at o (t ∷ r) ≡ read.qualified_at o (t ∷ s)
qualified_ahead None t r s = refl
qualified_ahead (Some q) t r s = refl

pub qualifier_fine : Fine 1 read.qualifier
unfolding read.qualifier key_at
qualifier_fine = fine_taken (λ ts. read.qualified_at (read.qualifier_in (key_at ts)) ts) (λ t r s. qualified_ahead (read.qualifier_in (key_at (t ∷ r))) t r s) refl

pub scalar_word_fine : Fine 1 read.scalar_word
unfolding read.scalar_word key_at
scalar_word_fine = fine_taken (λ ts. read.scalar_in (key_at ts)) (λ t r s. refl) refl

pub operator_fine : Fine 1 read.operator
unfolding read.operator mark_at
operator_fine = fine_taken (λ ts. read.operator_in (mark_at ts)) (λ t r s. refl) refl

pub qualifiers_fine : Fine 0 (many read.sees_qualifier read.qualifier)
unfolding read.sees_qualifier key_at
qualifiers_fine = fine_many read.sees_qualifier (λ t r s. refl) qualifier_fine

pub scalars_fine : Fine 0 (many read.sees_scalar read.scalar_word)
unfolding read.sees_scalar key_at
scalars_fine = fine_many read.sees_scalar (λ t r s. refl) scalar_word_fine

pub type_ahead : (ns : Names) → Ahead (read.begins_type ns)
unfolding read.begins_type read.sees_qualifier read.sees_scalar key_at name_at
type_ahead ns t r s = refl

pub step_ahead : Ahead read.sees_step
unfolding sees
step_ahead t r s = refl

pub operator_ahead : (l : ℕ) → Ahead (read.sees_operator l)
unfolding read.sees_operator mark_at
operator_ahead l t r s = refl

pub place_ahead : Ahead tree.pos_of
place_ahead t r s = refl

module _ (ns : Names) (n : ℕ) (inner : Inner) (deeper : (i : ℕ) → n ≡ suc i → IsFine ns inner) where
  -- ---- places
  index_fine : Fine 1 (read.index ns n inner)
  unfolding read.index
  index_fine = fine_opens_then n m.OpenBracket (λ i h p. fine_then ((deeper i h).whole) (λ a. fine_then (fine_expect m.CloseBracket) (λ q. fine_pure (step.Index p a))))

  step_by_fine : (o : Option Punct) → Fine 1 (read.step_by ns n inner o)
  step_by_fine (Some m.OpenBracket) = index_fine
  step_by_fine (Some m.Dot) = fine_first (fine_expect m.Dot) (λ p. fine_first fine_any_name (λ x. fine_pure (step.Field p x)))
  step_by_fine (Some m.Arrow) = fine_first (fine_expect m.Arrow) (λ p. fine_first fine_any_name (λ x. fine_pure (step.Arrow p x)))
  step_by_fine o = fine_refuse 1

  pub a_step_fine : Fine 1 (read.a_step ns n inner)
  unfolding read.a_step
  a_step_fine = fine_ahead mark_at mark_ahead (read.step_by ns n inner) step_by_fine

  pub steps_fine : Fine 0 (read.steps ns n inner)
  unfolding read.steps
  steps_fine = fine_many read.sees_step step_ahead a_step_fine

  by_name_fine : Fine 1 (read.by_name ns n inner)
  unfolding read.by_name
  by_name_fine = fine_first (fine_variable ns) (λ x. fine_then steps_fine (λ ss. fine_pure (tree.place (at.Name x) ss)))

  through_fine : Fine 1 (read.through ns n inner)
  unfolding read.through
  through_fine =
      fine_opens_then n m.OpenParen (λ i h p.
      fine_then (fine_expect m.Star) (λ q.
      fine_then (fine_variable ns) (λ x.
      fine_then (fine_expect m.CloseParen) (λ r.
      fine_then steps_fine (λ ss.
      fine_pure (tree.place (at.Through p q x) ss))))))

  star_fine : Fine 1 (read.star ns n inner)
  unfolding read.star
  star_fine = fine_first (fine_expect m.Star) (λ p. fine_then (fine_variable ns) (λ x. fine_pure (tree.place (at.Star p x) [])))

  place_by_fine : (o : Option Punct) → Fine 1 (read.place_by ns n inner o)
  place_by_fine (Some m.OpenParen) = through_fine
  place_by_fine (Some m.Star) = star_fine
  place_by_fine o = by_name_fine

  pub place_fine : Fine 1 (read.place ns n inner)
  unfolding read.place
  place_fine = fine_ahead mark_at mark_ahead (read.place_by ns n inner) place_by_fine

  -- ---- types
  body_fine : (tag : Option Named) → Fine 1 (read.body ns n inner tag)
  unfolding read.body
  body_fine tag = fine_opens_then n m.OpenBrace (λ i h p. fine_then ((deeper i h).fields) (λ fs. fine_then (fine_expect m.CloseBrace) (λ q. fine_pure (b.Struct (tree.structure tag fs)))))

  pub type_name_fine : Fine 1 (read.type_name ns n inner)
  unfolding read.type_name name_at
  type_name_fine = fine_if (λ ts. read.is_type_at ns (name_at ts)) (λ t r s. refl) (fine_first fine_any_name (λ x. fine_pure (b.Named x))) (fine_refuse 1)

  pub a_bound_fine : Fine 1 (read.a_bound ns n inner)
  unfolding read.a_bound
  a_bound_fine = fine_opens_then n m.OpenBracket (λ i h p. fine_then ((deeper i h).whole) (λ a. fine_then (fine_expect m.CloseBracket) (λ q. fine_pure (tree.bound p a))))

  pub declr_fine : Fine 1 (read.declr ns n inner)
  unfolding read.declr
  declr_fine = fine_first fine_any_name (λ x. fine_then (fine_many (sees m.OpenBracket) (sees_ahead m.OpenBracket) a_bound_fine) (λ bs. fine_pure (tree.declr x bs)))

  pub next_declr_fine : Fine 1 (read.next_declr ns n inner)
  unfolding read.next_declr
  next_declr_fine = fine_first (fine_expect m.Comma) (λ p. declr_fine)

  pub declrs_fine : Fine 1 (read.declrs ns n inner)
  unfolding read.declrs
  declrs_fine = fine_first declr_fine (λ d. fine_then (fine_many (sees m.Comma) (sees_ahead m.Comma) next_declr_fine) (λ ds. fine_pure (d ∷ ds)))

  tagged_fine : (o : Option Named) → Fine 0 (read.tagged ns n inner o)
  tagged_fine None = loosen (body_fine None)
  tagged_fine (Some x) = fine_after (fine_if (sees m.OpenBrace) (sees_ahead m.OpenBrace) (loosen (body_fine (Some x))) (fine_pure (b.Tag x)))

  struct_or_tag_fine : Fine 0 (read.struct_or_tag ns n inner)
  unfolding read.struct_or_tag
  struct_or_tag_fine = fine_ahead name_at name_ahead (read.tagged ns n inner) tagged_fine

  scalars_base_fine : Fine 0 (read.scalar_word >>= (λ w. many read.sees_scalar read.scalar_word >>= (λ ws. pure (b.Scalar (w ∷ ws)))))
  scalars_base_fine = fine_then scalar_word_fine (λ w. fine_then scalars_fine (λ ws. fine_pure (b.Scalar (w ∷ ws))))

  base_by_fine : (o : Option Keyword) → Fine 0 (read.base_by ns n inner o)
  base_by_fine (Some k.Void) = fine_after (fine_pure b.Void)
  base_by_fine (Some k.Struct) = fine_after struct_or_tag_fine
  base_by_fine (Some w) = scalars_base_fine
  base_by_fine None = loosen type_name_fine

  base_fine : Fine 0 (read.base ns n inner)
  unfolding read.base
  base_fine = fine_ahead key_at key_ahead (read.base_by ns n inner) base_by_fine

  pub specifiers_fine : Fine 0 (read.specifiers ns n inner)
  unfolding read.specifiers
  specifiers_fine = fine_ahead tree.pos_of place_ahead (λ p. many read.sees_qualifier read.qualifier >>= (λ qs. read.base ns n inner >>= (λ t. pure (tree.specifiers p qs t))))
      (λ p. fine_then qualifiers_fine (λ qs. fine_then base_fine (λ t. fine_pure (tree.specifiers p qs t))))

  pub field_fine : Fine 1 (read.field ns n inner)
  unfolding read.field
  field_fine = fine_next specifiers_fine (λ t. fine_first declrs_fine (λ ds. fine_first (fine_expect m.Semicolon) (λ p. fine_pure (tree.field t ds))))

  pub no_brace_ahead : Ahead (read.no_brace ns n inner)
  unfolding sees
  no_brace_ahead t r s = refl

  pub fields_fine : Fine 0 (read.fields ns n inner)
  unfolding read.fields
  fields_fine = fine_then field_fine (λ f. fine_then (fine_many (read.no_brace ns n inner) no_brace_ahead field_fine) (λ fs. fine_pure (f ∷ fs)))

  -- ---- expressions
  a_place_fine : Fine 1 (read.a_place ns n inner)
  unfolding read.a_place
  a_place_fine = fine_first place_fine (λ x. fine_pure (e.Place x))

  cast_fine : Fine 1 (read.cast ns n inner)
  unfolding read.cast
  cast_fine =
      fine_opens_then n m.OpenParen (λ i h p.
      fine_then ((deeper i h).specifiers) (λ t.
      fine_then (fine_expect m.CloseParen) (λ q.
      fine_then ((deeper i h).unary) (λ a.
      fine_pure (e.Cast p t a)))))

  bracket_fine : Fine 1 (read.bracket ns n inner)
  unfolding read.bracket
  bracket_fine = fine_opens_then n m.OpenParen (λ i h p. fine_then ((deeper i h).whole) (λ a. fine_then (fine_expect m.CloseParen) (λ q. fine_pure (e.Bracket p a))))

  prefixed_fine : (op : Prefix) → Fine 1 (read.prefixed ns n inner op)
  unfolding read.prefixed
  prefixed_fine op = fine_opens_any_then n (λ i h p. fine_then ((deeper i h).unary) (λ a. fine_pure (e.Prefix op p a)))

  prefix_by_fine : (o : Option Prefix) → Fine 1 (read.prefix_by ns n inner o)
  prefix_by_fine None = fine_refuse 1
  prefix_by_fine (Some op) = prefixed_fine op

  bracketed_shrinks : (ts : List Token) → Shrinks 1 ts (read.bracketed ns n inner ts)
  unfolding read.bracketed
  bracketed_shrinks ts = shrink_cond (is_through (after ts)) (a_place_fine.shrinks ts) (shrink_cond (read.begins_type ns (after ts)) (cast_fine.shrinks ts) (bracket_fine.shrinks ts))

  choice_fine : (c : Expr) → Fine 1 (read.choice ns n inner c)
  unfolding read.choice
  choice_fine c =
      fine_opens_then n m.Question (λ i h p.
      fine_then ((deeper i h).whole) (λ a.
      fine_then (fine_expect m.Colon) (λ q.
      fine_then ((deeper i h).whole) (λ f.
      fine_pure (e.Choice c p a f)))))

  choice_or_fine : (c : Expr) → Fine 0 (read.choice_or ns n inner c)
  choice_or_fine c = fine_if (sees m.Question) (sees_ahead m.Question) (loosen (choice_fine c)) (fine_pure c)

  pub a_link_fine : (operand : Parser Expr) → Fine 0 operand → Fine 1 (read.a_link ns n inner operand)
  unfolding read.a_link
  a_link_fine operand one = fine_ahead tree.pos_of place_ahead (λ p. read.operator >>= (λ op. operand >>= (λ a. pure (tree.link op p a))))
      (λ p. fine_first operator_fine (λ op. fine_then one (λ a. fine_pure (tree.link op p a))))

  links_fine : (l : ℕ) (operand : Parser Expr) → Fine 0 operand → (a : Expr) → Fine 0 (many (read.sees_operator (suc l)) (read.a_link ns n inner operand) >>= (λ xs. pure (read.chained a xs)))
  links_fine l operand one a = fine_then (fine_many (read.sees_operator (suc l)) (operator_ahead (suc l)) (a_link_fine operand one)) (λ xs. fine_pure (read.chained a xs))

-- ---- at an opening bracket
same_three : (x y : Bool) (d : Read Expr) → cond x d (cond y d d) ≡ d
same_three true y d = refl
same_three false true d = refl
same_three false false d = refl

closed_bracket : (ns : Names) (inner : Inner) (p : Pos) (ts : List Token) → read.bracketed ns zero inner (mark m.OpenParen p ∷ ts) ≡ Deep (mark m.OpenParen p ∷ ts)
unfolding read.bracketed read.a_place read.place read.through read.cast read.bracket mark_at opens opens_any sees same_mark
closed_bracket ns inner p ts = same_three (is_through ts) (read.begins_type ns ts) (Deep (mark m.OpenParen p ∷ ts))

module _ (ns : Names) (n : ℕ) (inner : Inner) (fine : IsFine ns inner) where
  -- a star and a name behind the bracket
  through_gone : (p q : Pos) (us ts : List Token) → Shrinks 0 ts (variable ns us) → Shrinks 0 ts (read.a_place ns (suc n) inner (mark m.OpenParen p ∷ mark m.Star q ∷ us))
  unfolding read.a_place read.place read.through mark_at opens opens_any sees same_mark expect
  through_gone p q us ts v =
      shrink_then {j = 0} {k = 0} 0 (omega arith)
      (λ x vs. (fine_pure (e.Place x)).shrinks vs) ts
      (shrink_then {j = 0} {k = 0} 0 (omega arith) (λ x. (fine_then (fine_expect m.CloseParen) (λ r. fine_then (steps_fine ns (suc n) inner (λ i h. fine)) (λ ss. fine_pure (tree.place (at.Through p q x) ss)))).shrinks) ts v)

  bracket_gone : (p q : Pos) (us ts : List Token) → Shrinks 0 ts (variable ns us) → Shrinks 0 ts (read.bracket ns (suc n) inner (mark m.OpenParen p ∷ mark m.Star q ∷ us))
  unfolding read.bracket opens opens_any sees same_mark
  bracket_gone p q us ts v =
      shrink_then {j = 0} {k = 0} 0 (omega arith) (λ a. (fine_then (fine_expect m.CloseParen) (λ r. fine_pure (e.Bracket p a))).shrinks) ts (fine.star q us ts v)

  star_gone : (p q : Pos) (us ts : List Token) → Shrinks 0 ts (variable ns us) → Shrinks 0 ts (read.bracketed ns (suc n) inner (mark m.OpenParen p ∷ mark m.Star q ∷ us))
  unfolding read.bracketed read.begins_type read.sees_qualifier read.sees_scalar key_at name_at
  star_gone p q us ts v = shrink_cond (is_through (mark m.Star q ∷ us)) (through_gone p q us ts v) (bracket_gone p q us ts v)

  -- anything behind it
  place_gone : (p : Pos) (us : List Token) → Shrinks 0 us (read.a_place ns (suc n) inner (mark m.OpenParen p ∷ us))
  unfolding read.a_place read.place read.through mark_at opens opens_any sees same_mark
  place_gone p us = (fine_then (fine_then (fine_expect m.Star) (λ q. fine_then (fine_variable ns) (λ x. fine_then (fine_expect m.CloseParen) (λ r. fine_then (steps_fine ns (suc n) inner (λ i h. fine)) (λ ss. fine_pure (tree.place (at.Through p q x) ss)))))) (λ x. fine_pure (e.Place x))).shrinks us

  cast_gone : (p : Pos) (us : List Token) → Shrinks 0 us (read.cast ns (suc n) inner (mark m.OpenParen p ∷ us))
  unfolding read.cast opens opens_any sees same_mark
  cast_gone p us = (fine_then fine.specifiers (λ t. fine_then (fine_expect m.CloseParen) (λ q. fine_then fine.unary (λ a. fine_pure (e.Cast p t a))))).shrinks us

  inner_gone : (p : Pos) (us : List Token) → Shrinks 0 us (read.bracket ns (suc n) inner (mark m.OpenParen p ∷ us))
  unfolding read.bracket opens opens_any sees same_mark
  inner_gone p us = (fine_then fine.whole (λ a. fine_then (fine_expect m.CloseParen) (λ q. fine_pure (e.Bracket p a)))).shrinks us

  gone : (p : Pos) (us : List Token) → Shrinks 0 us (read.bracketed ns (suc n) inner (mark m.OpenParen p ∷ us))
  unfolding read.bracketed
  gone p us = shrink_cond (is_through us) (place_gone p us) (shrink_cond (read.begins_type ns us) (cast_gone p us) (inner_gone p us))

  -- where the tests say the same on both texts
  alike : (p : Pos) (c : List Token) (t : Token) (r s : List Token) → is_through (c ++ t ∷ r) ≡ is_through (c ++ t ∷ s)
      → Local t r s (read.bracketed ns (suc n) inner (mark m.OpenParen p ∷ c ++ t ∷ r)) (read.bracketed ns (suc n) inner (mark m.OpenParen p ∷ c ++ t ∷ s))
  unfolding read.bracketed
  alike p c t r s same = local_cond (is_through (c ++ t ∷ r)) (is_through (c ++ t ∷ s)) same
      ((a_place_fine ns (suc n) inner (λ i h. fine)).local (mark m.OpenParen p ∷ c) t r s)
      (local_cond (read.begins_type ns (c ++ t ∷ r)) (read.begins_type ns (c ++ t ∷ s)) (same_first (read.begins_type ns) (type_ahead ns) c t r s)
      ((cast_fine ns (suc n) inner (λ i h. fine)).local (mark m.OpenParen p ∷ c) t r s)
      ((bracket_fine ns (suc n) inner (λ i h. fine)).local (mark m.OpenParen p ∷ c) t r s))

  -- by the token behind the bracket
  second : (p : Pos) (w : Word) (q : Pos) (r s : List Token) → let t : Token = record { word = w; pos = q } in Local t r s (read.bracketed ns (suc n) inner (mark m.OpenParen p ∷ t ∷ r)) (read.bracketed ns (suc n) inner (mark m.OpenParen p ∷ t ∷ s))
  unfolding is_through
  second p (Mark m.Star) q r s = beyond r (omega arith) (star_gone p q r r ((loosen (fine_variable ns)).shrinks r))
  second p w q r s = alike p [] (record { word = w; pos = q }) r s refl

  -- behind a bracket and a star no name
  through_stuck : (p q : Pos) (us : List Token) → variable ns us ≡ Stuck us → read.a_place ns (suc n) inner (mark m.OpenParen p ∷ mark m.Star q ∷ us) ≡ Stuck us
  unfolding read.a_place read.place read.through mark_at opens opens_any sees same_mark expect
  through_stuck p q us v = rw v refl

  bracket_stuck : (p q : Pos) (us : List Token) → variable ns us ≡ Stuck us → read.bracket ns (suc n) inner (mark m.OpenParen p ∷ mark m.Star q ∷ us) ≡ Stuck us
  unfolding read.bracket opens opens_any sees same_mark
  bracket_stuck p q us v = rw (fine.no_star q us v) refl

  same_two : (x : Bool) (a c d : Read Expr) → a ≡ d → c ≡ d → cond x a c ≡ d
  same_two true a c d e f = e
  same_two false a c d e f = f

  star_stuck : (p q : Pos) (us : List Token) → variable ns us ≡ Stuck us → read.bracketed ns (suc n) inner (mark m.OpenParen p ∷ mark m.Star q ∷ us) ≡ Stuck us
  unfolding read.bracketed read.begins_type read.sees_qualifier read.sees_scalar key_at name_at
  star_stuck p q us v = same_two (is_through (mark m.Star q ∷ us)) _ _ (Stuck us) (through_stuck p q us v) (bracket_stuck p q us v)

  both_stuck : (p q : Pos) (t : Token) (r s : List Token) → variable ns (t ∷ r) ≡ Stuck (t ∷ r) → variable ns (t ∷ s) ≡ Stuck (t ∷ s)
      → Local t r s (read.bracketed ns (suc n) inner (mark m.OpenParen p ∷ mark m.Star q ∷ t ∷ r)) (read.bracketed ns (suc n) inner (mark m.OpenParen p ∷ mark m.Star q ∷ t ∷ s))
  both_stuck p q t r s one other = rw (star_stuck p q (t ∷ r) one) (rw (star_stuck p q (t ∷ s) other) (Local.stuck []))

  type_stuck : (w : List ℕ) (p : Pos) (us : List Token) → is_type_name ns w ≡ true → variable ns (word w p ∷ us) ≡ Stuck (word w p ∷ us)
  unfolding variable name_at
  type_stuck w p us h = rw h refl

  name_third : (p q : Pos) (w : List ℕ) (o : Pos) (r s : List Token) (x : Bool) → is_type_name ns w ≡ x
      → Local (word w o) r s (read.bracketed ns (suc n) inner (mark m.OpenParen p ∷ mark m.Star q ∷ word w o ∷ r)) (read.bracketed ns (suc n) inner (mark m.OpenParen p ∷ mark m.Star q ∷ word w o ∷ s))
  name_third p q w o r s true h = both_stuck p q (word w o) r s (type_stuck w o r h) (type_stuck w o s h)
  name_third p q w o r s false h = beyond r (omega arith) (star_gone p q (word w o ∷ r) r (variable_gone ns w o r h))

  star_third : (p q : Pos) (w : Word) (o : Pos) (r s : List Token) → let t : Token = record { word = w; pos = o } in
      Local t r s (read.bracketed ns (suc n) inner (mark m.OpenParen p ∷ mark m.Star q ∷ t ∷ r)) (read.bracketed ns (suc n) inner (mark m.OpenParen p ∷ mark m.Star q ∷ t ∷ s))
  unfolding variable name_at
  star_third p q (Name w) o r s = name_third p q w o r s (is_type_name ns w) refl
  star_third p q (Number v u l d) o r s = both_stuck p q (literal v u l d o) r s refl refl
  star_third p q (Key j) o r s = both_stuck p q (key j o) r s refl refl
  star_third p q (Mark j) o r s = both_stuck p q (mark j o) r s refl refl

  third : (p : Pos) (w : Word) (q : Pos) (t : Token) (r s : List Token) → let c : Token = record { word = w; pos = q } in Local t r s (read.bracketed ns (suc n) inner (mark m.OpenParen p ∷ c ∷ t ∷ r)) (read.bracketed ns (suc n) inner (mark m.OpenParen p ∷ c ∷ t ∷ s))
  unfolding is_through
  third p (Mark m.Star) q t r s = star_third p q t.word t.pos r s
  third p w q t r s = alike p ((record { word = w; pos = q }) ∷ []) t r s refl

  open_bracket : (p : Pos) (b : List Token) (t : Token) (r s : List Token) → Local t r s (read.bracketed ns (suc n) inner (mark m.OpenParen p ∷ b ++ t ∷ r)) (read.bracketed ns (suc n) inner (mark m.OpenParen p ∷ b ++ t ∷ s))
  unfolding is_through
  open_bracket p [] t r s = second p t.word t.pos r s
  open_bracket p (c ∷ []) t r s = third p c.word c.pos t r s
  open_bracket p (c ∷ d ∷ []) t r s = alike p (c ∷ d ∷ []) t r s refl
  open_bracket p (c ∷ d ∷ f ∷ b) t r s = alike p (c ∷ d ∷ f ∷ b) t r s refl

bracketed_near : (ns : Names) (n : ℕ) (inner : Inner) → ((i : ℕ) → n ≡ suc i → IsFine ns inner) → (p : Pos) (r s : List Token)
    → Local (mark m.OpenParen p) r s (read.bracketed ns n inner (mark m.OpenParen p ∷ r)) (read.bracketed ns n inner (mark m.OpenParen p ∷ s))
bracketed_near ns zero inner deeper p r s = rw (closed_bracket ns inner p r) (rw (closed_bracket ns inner p s) (Local.deep []))
bracketed_near ns (suc n) inner deeper p r s = beyond r (omega arith) (gone ns n inner (deeper n refl) p r)

bracketed_far : (ns : Names) (n : ℕ) (inner : Inner) → ((i : ℕ) → n ≡ suc i → IsFine ns inner) → (p : Pos) (b : List Token) (t : Token) (r s : List Token)
    → Local t r s (read.bracketed ns n inner (mark m.OpenParen p ∷ b ++ t ∷ r)) (read.bracketed ns n inner (mark m.OpenParen p ∷ b ++ t ∷ s))
bracketed_far ns zero inner deeper p b t r s = rw (closed_bracket ns inner p (b ++ t ∷ r)) (rw (closed_bracket ns inner p (b ++ t ∷ s)) (Local.deep (mark m.OpenParen p ∷ b)))
bracketed_far ns (suc n) inner deeper p b t r s = open_bracket ns n inner (deeper n refl) p b t r s

module _ (ns : Names) (n : ℕ) (inner : Inner) (deeper : (i : ℕ) → n ≡ suc i → IsFine ns inner) where
  mark_shrinks : (mk : Punct) (ts : List Token) → Shrinks 0 ts (read.unary_mark ns n inner mk ts)
  mark_shrinks m.OpenParen ts = loosen_read (bracketed_shrinks ns n inner deeper ts)
  mark_shrinks m.Star ts = (loosen (a_place_fine ns n inner deeper)).shrinks ts
  mark_shrinks mk ts = (loosen (prefix_by_fine ns n inner deeper (prefix_of mk))).shrinks ts

  word_shrinks : (w : Word) (p : Pos) (ts : List Token) → let t : Token = record { word = w; pos = p } in Shrinks 0 (t ∷ ts) (read.unary_by ns n inner t ts)
  word_shrinks (Name w) p ts = (loosen (a_place_fine ns n inner deeper)).shrinks _
  word_shrinks (Number v u l d) p ts = Shrinks.got (literal v u l d p ∷ []) refl (omega arith)
  word_shrinks (Key j) p ts = Shrinks.stuck [] refl
  word_shrinks (Mark mk) p ts = mark_shrinks mk _

  mark_near : (mk : Punct) (p : Pos) (r s : List Token) → Local (mark mk p) r s (read.unary_mark ns n inner mk (mark mk p ∷ r)) (read.unary_mark ns n inner mk (mark mk p ∷ s))
  mark_near m.OpenParen p r s = bracketed_near ns n inner deeper p r s
  mark_near m.Star p r s = (a_place_fine ns n inner deeper).local [] (mark m.Star p) r s
  mark_near mk p r s = (prefix_by_fine ns n inner deeper (prefix_of mk)).local [] (mark mk p) r s

  mark_far : (mk : Punct) (p : Pos) (b : List Token) (t : Token) (r s : List Token) → Local t r s (read.unary_mark ns n inner mk (mark mk p ∷ b ++ t ∷ r)) (read.unary_mark ns n inner mk (mark mk p ∷ b ++ t ∷ s))
  mark_far m.OpenParen p b t r s = bracketed_far ns n inner deeper p b t r s
  mark_far m.Star p b t r s = (a_place_fine ns n inner deeper).local (mark m.Star p ∷ b) t r s
  mark_far mk p b t r s = (prefix_by_fine ns n inner deeper (prefix_of mk)).local (mark mk p ∷ b) t r s

  word_near : (w : Word) (p : Pos) (r s : List Token) → let t : Token = record { word = w; pos = p } in Local t r s (read.unary_by ns n inner t r) (read.unary_by ns n inner t s)
  word_near (Name w) p r s = (a_place_fine ns n inner deeper).local [] (word w p) r s
  word_near (Number v u l d) p r s = Local.gone (omega arith)
  word_near (Key j) p r s = Local.stuck []
  word_near (Mark mk) p r s = mark_near mk p r s

  word_far : (w : Word) (p : Pos) (b : List Token) (t : Token) (r s : List Token) → let c : Token = record { word = w; pos = p } in Local t r s (read.unary_by ns n inner c (b ++ t ∷ r)) (read.unary_by ns n inner c (b ++ t ∷ s))
  word_far (Name w) p b t r s = (a_place_fine ns n inner deeper).local (word w p ∷ b) t r s
  word_far (Number v u l d) p b t r s = Local.got b
  word_far (Key j) p b t r s = Local.stuck (key j p ∷ b)
  word_far (Mark mk) p b t r s = mark_far mk p b t r s

  unary_shrinks : (ts : List Token) → Shrinks 0 ts (read.unary ns n inner ts)
  unfolding read.unary
  unary_shrinks [] = Shrinks.stuck [] refl
  unary_shrinks (t ∷ ts) = word_shrinks t.word t.pos ts

  unary_local : (b : List Token) (t : Token) (r s : List Token) → Local t r s (read.unary ns n inner (b ++ t ∷ r)) (read.unary ns n inner (b ++ t ∷ s))
  unfolding read.unary
  unary_local [] t r s = word_near t.word t.pos r s
  unary_local (c ∷ b) t r s = word_far c.word c.pos b t r s

  pub unary_fine : Fine 0 (read.unary ns n inner)
  unary_fine = record { shrinks = unary_shrinks; local = unary_local }

  pub ranked_fine : (l : ℕ) → Fine 0 (read.ranked ns n inner l)
  unfolding read.ranked read.chain
  ranked_fine zero = unary_fine
  ranked_fine (suc l) = fine_then (ranked_fine l) (links_fine ns n inner deeper l (read.ranked ns n inner l) (ranked_fine l))

  pub whole_fine : Fine 0 (read.whole ns n inner)
  unfolding read.whole
  whole_fine = fine_then (ranked_fine loosest) (choice_or_fine ns n inner deeper)

  -- a star at the front
  star_unary : (p : Pos) (us ts : List Token) → Shrinks 0 ts (variable ns us) → Shrinks 0 ts (read.unary ns n inner (mark m.Star p ∷ us))
  unfolding read.unary read.a_place read.place mark_at read.star expect same_mark
  star_unary p us ts v = shrink_then {j = 0} {k = 0} 0 (omega arith) (λ x. (fine_pure (e.Place x)).shrinks) ts
      (shrink_then {j = 0} {k = 0} 0 (omega arith) (λ x. (fine_pure (tree.place (at.Star p x) [])).shrinks) ts v)

  front_ranked : (l : ℕ) (us ts : List Token) → Shrinks 0 ts (read.unary ns n inner us) → Shrinks 0 ts (read.ranked ns n inner l us)
  unfolding read.ranked read.chain
  front_ranked zero us ts v = v
  front_ranked (suc l) us ts v = shrink_then {j = 0} {k = 0} 0 (omega arith) (λ a. (links_fine ns n inner deeper l (read.ranked ns n inner l) (ranked_fine l) a).shrinks) ts (front_ranked l us ts v)

  front_whole : (us ts : List Token) → Shrinks 0 ts (read.unary ns n inner us) → Shrinks 0 ts (read.whole ns n inner us)
  unfolding read.whole
  front_whole us ts v = shrink_then {j = 0} {k = 0} 0 (omega arith) (λ a. (choice_or_fine ns n inner deeper a).shrinks) ts (front_ranked loosest us ts v)

  star_whole : (p : Pos) (us ts : List Token) → Shrinks 0 ts (variable ns us) → Shrinks 0 ts (read.whole ns n inner (mark m.Star p ∷ us))
  star_whole p us ts v = front_whole (mark m.Star p ∷ us) ts (star_unary p us ts v)

  -- no name behind it
  stuck_ranked : (l : ℕ) (us vs : List Token) → read.unary ns n inner us ≡ Stuck vs → read.ranked ns n inner l us ≡ Stuck vs
  unfolding read.ranked read.chain
  stuck_ranked zero us vs h = h
  stuck_ranked (suc l) us vs h = rw (stuck_ranked l us vs h) refl

  stuck_whole : (us vs : List Token) → read.unary ns n inner us ≡ Stuck vs → read.whole ns n inner us ≡ Stuck vs
  unfolding read.whole
  stuck_whole us vs h = rw (stuck_ranked loosest us vs h) refl

  no_star_unary : (p : Pos) (us : List Token) → variable ns us ≡ Stuck us → read.unary ns n inner (mark m.Star p ∷ us) ≡ Stuck us
  unfolding read.unary read.a_place read.place mark_at read.star expect same_mark
  no_star_unary p us v = rw v refl

  no_star_whole : (p : Pos) (us : List Token) → variable ns us ≡ Stuck us → read.whole ns n inner (mark m.Star p ∷ us) ≡ Stuck us
  no_star_whole p us v = stuck_whole (mark m.Star p ∷ us) us (no_star_unary p us v)

  pub declr_gone : (w : List ℕ) (p : Pos) (us : List Token) → Shrinks 0 us (read.declr ns n inner (word w p ∷ us))
  unfolding read.declr
  declr_gone w p us = shrink_then {j = 0} {k = 0} 0 (omega arith) (λ x. (fine_then (fine_many (sees m.OpenBracket) (sees_ahead m.OpenBracket) (a_bound_fine ns n inner deeper)) (λ bs. fine_pure (tree.declr x bs))).shrinks) us (any_name_gone w p us)

  -- a name at the front
  pub name_place : (w : List ℕ) (p : Pos) (us : List Token) → is_type_name ns w ≡ false → Shrinks 0 us (read.place ns n inner (word w p ∷ us))
  unfolding read.place mark_at read.by_name
  name_place w p us h = shrink_then {j = 0} {k = 0} 0 (omega arith) (λ x. (fine_then (steps_fine ns n inner deeper) (λ ss. fine_pure (tree.place (at.Name x) ss))).shrinks) us (variable_gone ns w p us h)

  pub name_whole : (w : List ℕ) (p : Pos) (us : List Token) → is_type_name ns w ≡ false → Shrinks 0 us (read.whole ns n inner (word w p ∷ us))
  unfolding read.unary read.a_place
  name_whole w p us h = front_whole (word w p ∷ us) us (shrink_then {j = 0} {k = 0} 0 (omega arith) (λ x. (fine_pure (e.Place x)).shrinks) us (name_place w p us h))

  pub void_type : (p : Pos) (us : List Token) → Shrinks 0 us (read.specifiers ns n inner (key k.Void p ∷ us))
  unfolding read.specifiers while_from read.sees_qualifier key_at read.base
  void_type p us = Shrinks.got [] refl (omega arith)

pub inside_fine : (ns : Names) (n i : ℕ) → n ≡ suc i → IsFine ns (inside ns n)
unfolding inside
inside_fine ns zero i h = cc
inside_fine ns (suc n) i h =
    let below = inside_fine ns n in
    let inner = inside ns n in
    record { whole = whole_fine ns n inner below; unary = unary_fine ns n inner below; specifiers = specifiers_fine ns n inner below; fields = fields_fine ns n inner below; star = star_whole ns n inner below; no_star = no_star_whole ns n inner below }
