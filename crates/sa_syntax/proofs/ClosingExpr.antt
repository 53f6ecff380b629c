-- What is open in an expression, a place or a type that goes too deep can be closed.
use Rattle.std.proofs.Common.{◌≡◌, ℕ, zero, suc, ◌+◌, ◌≤◌, List, [], ◌∷◌, ◌++◌, Bool, true, false, cond, refl, sym, ap, ◌∙◌, subst, length, append_assoc, replicate, ◌<◌, arith, Option, Some, None}
use Rattle.std.specs.Prelude.{◌&&◌}
use Rattle.std.specs.Str.{bytes_eq}
use Rattle.std.proofs.lemmas.List.{length-replicate}
use Rattle.std.proofs.lemmas.Slice.Eq.{bytes_eq-Decides}
use Rattle.sa_base.specs.declared.pos.Pos.{Pos}
use Rattle.sa_tokens.specs.declared.keyword.Keyword.{Keyword}
use Rattle.sa_tokens.specs.declared.keyword.Keyword.TheVariants as k
use Rattle.sa_tokens.specs.declared.punct.Punct.{Punct}
use Rattle.sa_tokens.specs.declared.punct.Punct.TheVariants as m
use Rattle.sa_tokens.specs.declared.token.Word.{Word}
use Rattle.sa_tokens.specs.declared.token.Word.TheVariants.{Name, Number, Key, Mark}
use Rattle.sa_tokens.specs.declared.token.Token.{Token}
use Rattle.sa_syntax.specs.declared.decl.Name.{Name as Named}
use Rattle.sa_syntax.specs.declared.decl.Specifiers.{Specifiers}
use Rattle.sa_syntax.specs.declared.decl.Base.{Base}
use Rattle.sa_syntax.specs.declared.decl.Base.TheVariants as b
use Rattle.sa_syntax.specs.declared.decl.ScalarWord.TheVariants as w
use Rattle.sa_syntax.specs.declared.decl.Bound.{Bound}
use Rattle.sa_syntax.specs.declared.decl.Declr.{Declr}
use Rattle.sa_syntax.specs.declared.decl.Field.{Field}
use Rattle.sa_syntax.specs.declared.expr.Expr.{Expr}
use Rattle.sa_syntax.specs.declared.expr.Expr.TheVariants as e
use Rattle.sa_syntax.specs.declared.expr.Link.{Link}
use Rattle.sa_syntax.specs.declared.expr.Operator.{Operator}
use Rattle.sa_syntax.specs.declared.expr.PlaceBase.TheVariants as at
use Rattle.sa_syntax.specs.declared.expr.Prefix.{Prefix}
use Rattle.sa_syntax.specs.declared.expr.Step.{Step}
use Rattle.sa_syntax.specs.declared.expr.Step.TheVariants as step
use Rattle.sa_syntax.specs.Trees as tree
use Rattle.sa_syntax.specs.Words.{Names, mark, key, word, literal, named, is_type_name, is_star, is_name_and_close, is_through, prefix_of, loosest}
use Rattle.sa_syntax.specs.Expressions.{Whole, Ranked, Links, Unary, Place', Steps, Specifiers', Qualifiers, ScalarWords, Base', Struct', Fields, Declrs, Declr', Bounds}
use Rattle.sa_syntax.specs.Reading.{Parser, Read, Got, Stuck, and_then, same_mark, sees, opens, after, expect, name_at, key_at, mark_at, many, pure, ◌>>=◌}
use Rattle.sa_syntax.specs.ReadExpr as read
use Rattle.sa_syntax.specs.ReadExpr.{Inner, inside}
use Rattle.sa_syntax.proofs.ReadingLemmas.{Yields, if_yields, Marked, Opened, IsWord, IsVariable, Keyed, name_at_is, key_at_is}
use Rattle.sa_syntax.proofs.ExprSound as sound
use Rattle.sa_syntax.proofs.ExprSound.{inside_sound}
use Rattle.sa_syntax.proofs.NearLemmas.{wider}
use Rattle.sa_syntax.proofs.NearExpr as near
use Rattle.sa_syntax.proofs.NearExpr.{inside_near}
use Rattle.sa_syntax.proofs.RoomLemmas.{Less}
use Rattle.sa_syntax.proofs.DeepLemmas.{loosen, sees_ahead, fine_if, fine_refuse}
use Rattle.sa_syntax.proofs.DeepExpr as fine
use Rattle.sa_syntax.proofs.DeepExpr.{inside_fine}
use Rattle.sa_syntax.proofs.ClosingLemmas.{Closed, Calm, Good, Some', Front, calm_then, closed_calm, closed_map, closed_if, closed_then, closed_next, closed_last, closed_opens, closed_opens_any, closed_many, calm_expect, calm_any_name, calm_variable, calm_taken, calm_if, calm_many, good_leaf, good_expect, good_any_name, good_variable, good_opens, opens_closed, stepped, guarded}

-- ---- tokens that close
abbrev pub spot : Pos
spot = record { line = 1; col = 1 }

abbrev pub close : Punct → Token
close mk = mark mk spot

abbrev pub nought : Token
nought = literal 0 false 0 false spot

-- a name that was not declared as a type
size : Names → ℕ
size [] = 1
size (w ∷ ns) = length w + size ns

size-one : (ns : Names) → 1 ≤ size ns
unfolding size
size-one [] = omega arith
size-one (w ∷ ns) = let h = size-one ns in omega (arith, h)

differs : (b : Bool) (v w : List ℕ) → length w < length v → (b ≡ true → v ≡ w) → b ≡ false
differs true v w h go = let l : length v ≡ length w = ap length (go refl) in absurd (omega (arith, h, l))
differs false v w h go = refl

longer : (v : List ℕ) (ns : Names) → size ns ≤ length v → is_type_name ns v ≡ false
unfolding is_type_name size
longer v [] h = refl
longer v (w ∷ ns) h =
    let one = size-one ns in
    let here : bytes_eq v w ≡ false = differs (bytes_eq v w) v w (omega (arith, h, one)) ((bytes_eq-Decides v w).0) in
    let there : is_type_name ns v ≡ false = longer v ns (omega (arith, h)) in
    rw here there

pub fresh : Names → List ℕ
fresh ns = replicate (size ns) 97

fresh-length : (ns : Names) → length (fresh ns) ≡ size ns
unfolding fresh
fresh-length ns = length-replicate (size ns) 97

pub fresh-is : (ns : Names) → is_type_name ns (fresh ns) ≡ false
fresh-is ns = let l = fresh-length ns in longer (fresh ns) ns (omega (arith, l))

-- a name, a keyword, a star or a closing bracket
abbrev pub plain : Word → Bool
plain (Name w) = true
plain (Key j) = true
plain (Mark m.Star) = true
plain (Mark m.CloseParen) = true
plain _ = false

abbrev pub Opener : Token → Type 0
Opener t = plain t.word ≡ false

-- ---- the shortest texts
zero-ranked : (ns : Names) (n l : ℕ) (rest : List Token) → Ranked ns n l (nought ∷ rest) (e.Number 0 false 0 false spot) rest
zero-ranked ns n zero rest = Ranked.unary Unary.number
zero-ranked ns n (suc l) rest = Ranked.alone (zero-ranked ns n l rest)

pub zero-whole : (ns : Names) (n : ℕ) (rest : List Token) → Whole ns n (nought ∷ rest) (e.Number 0 false 0 false spot) rest
zero-whole ns n rest = Whole.binary (zero-ranked ns n loosest rest)

pub good_whole : (ns : Names) → Good (λ n. read.whole ns n (inside ns n)) (Whole ns)
good_whole ns = record { fine = λ n. fine.whole_fine ns n (inside ns n) (inside_fine ns n); less = wider _ (near.whole_at ns); sound = sound.whole_yields ns }

pub good_ranked : (ns : Names) (l : ℕ) → Good (λ n. read.ranked ns n (inside ns n) l) (λ n ts a us. Ranked ns n l ts a us)
good_ranked ns l = record { fine = λ n. fine.ranked_fine ns n (inside ns n) (inside_fine ns n) l; less = wider (λ n. read.ranked ns n (inside ns n) l) (λ j n more e. near.ranked_near ns j n more (inside ns n) (inside ns more) e (inside_near ns j n more e) l); sound = λ n. sound.ranked_yields ns n l }

pub good_type : (ns : Names) → Good (λ n. read.specifiers ns n (inside ns n)) (Specifiers' ns)
good_type ns = record { fine = λ n. fine.specifiers_fine ns n (inside ns n) (inside_fine ns n); less = wider _ (near.specifiers_at ns); sound = sound.specifiers_yields ns }

pub good_declr : (ns : Names) → Good (λ n. read.declr ns n (inside ns n)) (Declr' ns)
good_declr ns = record { fine = λ n. loosen (fine.declr_fine ns n (inside ns n) (inside_fine ns n)); less = wider _ (near.declr_at ns); sound = sound.declr_yields ns }

-- the readers one deeper
pub record Deeper (ns : Names) (i : ℕ) : Type 0 where
  pub whole : (ts : List Token) → Closed Opener (Some' (Whole ns)) i ts (read.whole ns i (inside ns i) ts)
  pub unary : (ts : List Token) → Closed Opener (Some' (Unary ns)) i ts (read.unary ns i (inside ns i) ts)
  pub specifiers : (ts : List Token) → Closed Opener (Some' (Specifiers' ns)) i ts (read.specifiers ns i (inside ns i) ts)
  pub fields : (ts : List Token) → Closed Opener (Some' (sound.SomeFields ns)) i ts (read.fields ns i (inside ns i) ts)

-- a mark ends it
calm_end : {A : Type 0} (mk : Punct) (f : Pos → A) (ts : List Token) → Calm (and_then (expect mk ts) (λ p us. Got (f p) us))
calm_end mk f ts = calm_then (calm_expect mk ts) (λ p us. Calm.got)

module _ (ns : Names) (n : ℕ) (deeper : (i : ℕ) → n ≡ suc i → Deeper ns i) where
  -- ---- places
  index_closed : (ts : List Token) → Closed Opener (Some' (Front (Steps ns))) n ts (read.index ns n (inside ns n) ts)
  unfolding read.index inside
  index_closed ts = closed_opens (λ n p. (inside ns n).whole >>= (λ a. expect m.CloseBracket >>= (λ q. pure (step.Index p a)))) n m.OpenBracket ts (nought ∷ close m.CloseBracket ∷ []) (λ p. refl)
      (λ more p rest. (step.Index p (e.Number 0 false 0 false spot), λ ss vs s. Steps.index (zero-whole ns more (close m.CloseBracket ∷ rest)) s))
      (λ i h p us. closed_last i us (close m.CloseBracket ∷ []) (λ more vs a rest w. (step.Index p a, λ ss xs s. Steps.index w s)) ((deeper i h).whole us) (λ a vs. calm_end m.CloseBracket (λ q. step.Index p a) vs))

  step_by_closed : (o : Option Punct) (ts : List Token) → Closed Opener (Some' (Front (Steps ns))) n ts (read.step_by ns n (inside ns n) o ts)
  step_by_closed (Some m.OpenBracket) ts = index_closed ts
  step_by_closed (Some m.Dot) ts = closed_calm (calm_then (calm_expect m.Dot ts) (λ p us. calm_then (calm_any_name us) (λ x vs. Calm.got)))
  step_by_closed (Some m.Arrow) ts = closed_calm (calm_then (calm_expect m.Arrow ts) (λ p us. calm_then (calm_any_name us) (λ x vs. Calm.got)))
  step_by_closed o ts = Closed.stuck

  a_step_closed : (ts : List Token) → Closed Opener (Some' (Front (Steps ns))) n ts (read.a_step ns n (inside ns n) ts)
  unfolding read.a_step
  a_step_closed ts = step_by_closed (mark_at ts) ts

  steps_closed : (ts : List Token) → Closed Opener (Some' (Steps ns)) n ts (read.steps ns n (inside ns n) ts)
  unfolding read.steps
  steps_closed ts = closed_many (Steps ns) (λ more us. Steps.no_step) read.sees_step fine.step_ahead (λ n. read.a_step ns n (inside ns n))
      (λ n. fine.a_step_fine ns n (inside ns n) (inside_fine ns n)) (wider (λ n. read.a_step ns n (inside ns n)) (λ j n more e. near.a_step_near ns j n more (inside ns n) (inside ns more) e (inside_near ns j n more e)))
      (λ n ts h. sound.a_step_sound ns n (inside ns n) (inside_sound ns n) ts) n (λ ts h. a_step_closed ts) ts

name_place : (ns : Names) (more : ℕ) (ss : List Token) (x : Named) (us : List Token) (xs : List Step) (vs : List Token) → IsVariable ns ss x us → Steps ns more us xs vs → Place' ns more ss (tree.place (at.Name x) xs) vs
name_place ns more _ _ _ xs vs (IsVariable.is_variable v) s = Place'.name v s

through_none : (ns : Names) (more : ℕ) (ss : List Token) (p : Pos) (rest : List Token) → Opened m.OpenParen more ss p (close m.Star ∷ word (fresh ns) spot ∷ close m.CloseParen ∷ rest) → Some' (Place' ns) more ss rest
through_none ns _ _ p rest Opened.opened = (tree.place (at.Through p spot (named (fresh ns) spot)) [], Place'.through (fresh-is ns) Steps.no_step)

through_place : (ns : Names) (more : ℕ) (p q r : Pos) (x : Named) (a b c d us : List Token) (xs : List Step) (vs : List Token) → Opened m.OpenParen more a p b → Marked m.Star b q c → IsVariable ns c x d → Marked m.CloseParen d r us → Steps ns more us xs vs
    → Some' (Place' ns) more a vs
through_place ns _ p q r _ _ _ _ _ us xs vs Opened.opened Marked.marked (IsVariable.is_variable {w} {p = by} v) Marked.marked s = (tree.place (at.Through p q (named w by)) xs, Place'.through v s)

module _ (ns : Names) (n : ℕ) (deeper : (i : ℕ) → n ≡ suc i → Deeper ns i) where
  by_name_closed : (ts : List Token) → Closed Opener (Some' (Place' ns)) n ts (read.by_name ns n (inside ns n) ts)
  unfolding read.by_name
  by_name_closed ts = closed_next (good_variable ns) n ts (calm_variable ns ts) (λ x us.
      closed_last n us [] (λ more vs xs rest s ss v. (tree.place (at.Name x) xs, name_place ns more ss x vs xs rest v s)) (steps_closed ns n deeper us) (λ xs vs. Calm.got))

  through_closed : (ts : List Token) → Closed Opener (Some' (Place' ns)) n ts (read.through ns n (inside ns n) ts)
  unfolding read.through
  through_closed ts =
      closed_then (good_opens m.OpenParen) n ts (close m.Star ∷ word (fresh ns) spot ∷ close m.CloseParen ∷ []) (λ more ss p rest o. through_none ns more ss p rest o) (opens_closed n m.OpenParen ts (λ p. refl)) (λ p us.
      closed_next (good_expect m.Star) n us (calm_expect m.Star us) (λ q vs.
      closed_next (good_variable ns) n vs (calm_variable ns vs) (λ x ws.
      closed_next (good_expect m.CloseParen) n ws (calm_expect m.CloseParen ws) (λ r zs.
      closed_last n zs [] (λ more us xs rest s d k c v b y a o. through_place ns more p q r x a b c d us xs rest o y v k s) (steps_closed ns n deeper zs) (λ xs vs. Calm.got)))))

  star_closed : (ts : List Token) → Closed Opener (Some' (Place' ns)) n ts (read.star ns n (inside ns n) ts)
  unfolding read.star
  star_closed ts = closed_calm (calm_then (calm_expect m.Star ts) (λ p us. calm_then (calm_variable ns us) (λ x vs. Calm.got)))

  place_by_closed : (o : Option Punct) (ts : List Token) → Closed Opener (Some' (Place' ns)) n ts (read.place_by ns n (inside ns n) o ts)
  place_by_closed (Some m.OpenParen) ts = through_closed ts
  place_by_closed (Some m.Star) ts = star_closed ts
  place_by_closed o ts = by_name_closed ts

  pub place_closed : (ts : List Token) → Closed Opener (Some' (Place' ns)) n ts (read.place ns n (inside ns n) ts)
  unfolding read.place
  place_closed ts = place_by_closed (mark_at ts) ts

-- ---- types
abbrev pub letter : List ℕ
letter = 97 ∷ []

abbrev pub int : Token
int = key k.Int spot

abbrev pub int_type : Specifiers
int_type = tree.specifiers spot [] (b.Scalar (w.Int ∷ []))

pub int-type : (ns : Names) (n : ℕ) (rest : List Token) → ScalarWords rest [] rest → Specifiers' ns n (int ∷ rest) int_type rest
int-type ns n rest h = Specifiers'.specifiers Qualifiers.no_qualifier (Base'.scalar (ScalarWords.scalar_word refl h))

abbrev pub letter_declr : Declr
letter_declr = tree.declr (named letter spot) []

pub one-field : (ns : Names) (n : ℕ) (rest : List Token) → Fields ns n (int ∷ word letter spot ∷ close m.Semicolon ∷ rest) (tree.field int_type (letter_declr ∷ []) ∷ []) rest
one-field ns n rest = Fields.field (int-type ns n (word letter spot ∷ close m.Semicolon ∷ rest) ScalarWords.no_word) (Declrs.last_declr (Declr'.declr Bounds.no_bound)) Fields.no_field

-- behind the word `struct`
abbrev BehindStruct : Names → ℕ → List Token → List Token → Type 0
BehindStruct ns more ts rest = (x : Base) × ((at : Pos) → Base' ns more (key k.Struct at ∷ ts) x rest)

plain_struct : (ns : Names) (more : ℕ) (p : Pos) (vs : List Token) (fs : List Field) (rest : List Token) → sound.SomeFields ns more vs fs (close m.CloseBrace ∷ rest) → BehindStruct ns (suc more) (mark m.OpenBrace p ∷ vs) rest
plain_struct ns more p vs fs rest (sound.SomeFields.some_fields f) = (b.Struct (tree.structure None fs), λ at. Base'.structure (Struct'.plain f))

tagged_struct : (ns : Names) (more : ℕ) (w : List ℕ) (by p : Pos) (vs : List Token) (fs : List Field) (rest : List Token) → sound.SomeFields ns more vs fs (close m.CloseBrace ∷ rest) → BehindStruct ns (suc more) (word w by ∷ mark m.OpenBrace p ∷ vs) rest
tagged_struct ns more w by p vs fs rest (sound.SomeFields.some_fields f) = (b.Struct (tree.structure (Some (named w by)) fs), λ at. Base'.structure (Struct'.tagged f))

abbrev MoreDeclrs : Names → ℕ → List Token → List Declr → List Token → Type 0
MoreDeclrs ns more ts ds us = (ss : List Token) (x : Declr) → Declr' ns more ss x ts → Declrs ns more ss (x ∷ ds) us

more_next : (ns : Names) (more : ℕ) (ss : List Token) (p : Pos) (us : List Token) (x : Declr) (vs : List Token) → Marked m.Comma ss p us → Declr' ns more us x vs → Front (MoreDeclrs ns) more ss x vs
more_next ns more _ p us x vs Marked.marked i ds ws go ss d first = Declrs.next_declr first (go us x i)

word_declr : (ns : Names) (more : ℕ) (ss : List Token) (x : Named) (us : List Token) (bs : List Bound) (vs : List Token) → IsWord ss x us → Bounds ns more us bs vs → Declr' ns more ss (tree.declr x bs) vs
word_declr ns more _ _ _ bs vs IsWord.is_word i = Declr'.declr i

front_field : (ns : Names) (more : ℕ) (ss : List Token) (t : Specifiers) (us : List Token) (ds : List Declr) (rest : List Token) → Specifiers' ns more ss t us → sound.SomeDeclrs ns more us ds (close m.Semicolon ∷ rest) → Front (Fields ns) more ss (tree.field t ds) rest
front_field ns more ss t us _ rest i (sound.SomeDeclrs.some_declrs j) fs xs go = Fields.field i j go

good_field : (ns : Names) → Good (λ n. read.field ns n (inside ns n)) (Front (Fields ns))
good_field ns = record { fine = λ n. loosen (fine.field_fine ns n (inside ns n) (inside_fine ns n)); less = wider (λ n. read.field ns n (inside ns n)) (λ j n more e. near.field_near ns j n more (inside ns n) (inside ns more) e (inside_near ns j n more e)); sound = λ n. sound.field_sound ns n (inside ns n) (inside_sound ns n) }

good_qualifiers : Good (λ _. many read.sees_qualifier read.qualifier) (λ _ ts qs us. Qualifiers ts qs us)
good_qualifiers = good_leaf fine.qualifiers_fine sound.qualifiers_sound

calm_qualifiers : (ts : List Token) → Calm (many read.sees_qualifier read.qualifier ts)
unfolding read.qualifier
calm_qualifiers = calm_many read.sees_qualifier read.qualifier (λ ts. calm_taken (read.qualified_at (read.qualifier_in (key_at ts)) ts) ts)

calm_scalar : (ts : List Token) → Calm (read.scalar_word ts)
unfolding read.scalar_word
calm_scalar ts = calm_taken (read.scalar_in (key_at ts)) ts

module _ (ns : Names) (n : ℕ) (deeper : (i : ℕ) → n ≡ suc i → Deeper ns i) where
  plain_body_closed : (ts : List Token) → Closed Opener (BehindStruct ns) n ts (read.body ns n (inside ns n) None ts)
  unfolding read.body inside
  plain_body_closed ts = closed_opens (λ n p. (inside ns n).fields >>= (λ fs. expect m.CloseBrace >>= (λ q. pure (b.Struct (tree.structure None fs))))) n m.OpenBrace ts (int ∷ word letter spot ∷ close m.Semicolon ∷ close m.CloseBrace ∷ []) (λ p. refl)
      (λ more p rest. (b.Struct (tree.structure None (tree.field int_type (letter_declr ∷ []) ∷ [])), λ at. Base'.structure (Struct'.plain (one-field ns more (close m.CloseBrace ∷ rest)))))
      (λ i h p us. closed_last i us (close m.CloseBrace ∷ []) (λ more vs fs rest f. plain_struct ns more p vs fs rest f) ((deeper i h).fields us) (λ fs vs. calm_end m.CloseBrace (λ q. b.Struct (tree.structure None fs)) vs))

  tagged_body_closed : (w : List ℕ) (by : Pos) (ts : List Token) → Closed Opener (λ more vs rest. BehindStruct ns more (word w by ∷ vs) rest) n ts (read.body ns n (inside ns n) (Some (named w by)) ts)
  unfolding read.body inside
  tagged_body_closed w by ts = closed_opens (λ n p. (inside ns n).fields >>= (λ fs. expect m.CloseBrace >>= (λ q. pure (b.Struct (tree.structure (Some (named w by)) fs))))) n m.OpenBrace ts (int ∷ word letter spot ∷ close m.Semicolon ∷ close m.CloseBrace ∷ []) (λ p. refl)
      (λ more p rest. (b.Struct (tree.structure (Some (named w by)) (tree.field int_type (letter_declr ∷ []) ∷ [])), λ at. Base'.structure (Struct'.tagged (one-field ns more (close m.CloseBrace ∷ rest)))))
      (λ i h p us. closed_last i us (close m.CloseBrace ∷ []) (λ more vs fs rest f. tagged_struct ns more w by p vs fs rest f) ((deeper i h).fields us) (λ fs vs. calm_end m.CloseBrace (λ q. b.Struct (tree.structure (Some (named w by)) fs)) vs))

  tagged_at_closed : (ts : List Token) (x : Named) (us : List Token) → IsWord ts x us → Closed Opener (BehindStruct ns) n ts (cond (sees m.OpenBrace us) (read.body ns n (inside ns n) (Some x) us) (Got (b.Tag x) us))
  tagged_at_closed _ _ us (IsWord.is_word {w} {p}) = closed_if (sees m.OpenBrace us) (λ h. stepped (word w p) (tagged_body_closed w p us)) (λ h. Closed.got)

  tagged_closed : (o : Option Named) (ts : List Token) → name_at ts ≡ o → Closed Opener (BehindStruct ns) n ts (read.tagged ns n (inside ns n) o ts)
  tagged_closed None ts h = plain_body_closed ts
  tagged_closed (Some x) ts h = tagged_at_closed ts x (after ts) (name_at_is ts x h)

  struct_or_tag_closed : (ts : List Token) → Closed Opener (BehindStruct ns) n ts (read.struct_or_tag ns n (inside ns n) ts)
  unfolding read.struct_or_tag
  struct_or_tag_closed ts = tagged_closed (name_at ts) ts refl

  struct_closed : (ts : List Token) → Keyed k.Struct ts → Closed Opener (Some' (Base' ns)) n ts (read.struct_or_tag ns n (inside ns n) (after ts))
  struct_closed _ (Keyed.keyed {p} {us}) = stepped (key k.Struct p) (closed_map (λ more vs rest x. (x.0, x.1 p)) (struct_or_tag_closed us))

  calm_scalars : (ts : List Token) → Calm (and_then (read.scalar_word ts) (λ w us. and_then (many read.sees_scalar read.scalar_word us) (λ ws vs. Got (b.Scalar (w ∷ ws)) vs)))
  calm_scalars ts = calm_then (calm_scalar ts) (λ w us. calm_then (calm_many read.sees_scalar read.scalar_word calm_scalar us) (λ ws vs. Calm.got))

  calm_type_name : (ts : List Token) → Calm (read.type_name ns n (inside ns n) ts)
  unfolding read.type_name
  calm_type_name ts = calm_if (read.is_type_at ns (name_at ts)) (calm_then (calm_any_name ts) (λ x us. Calm.got)) Calm.stuck

  base_by_closed : (o : Option Keyword) (ts : List Token) → key_at ts ≡ o → Closed Opener (Some' (Base' ns)) n ts (read.base_by ns n (inside ns n) o ts)
  base_by_closed (Some k.Void) ts h = Closed.got
  base_by_closed (Some k.Struct) ts h = struct_closed ts (key_at_is ts k.Struct h)
  base_by_closed (Some j) ts h = closed_calm (calm_scalars ts)
  base_by_closed None ts h = closed_calm (calm_type_name ts)

  base_closed : (ts : List Token) → Closed Opener (Some' (Base' ns)) n ts (read.base ns n (inside ns n) ts)
  unfolding read.base
  base_closed ts = base_by_closed (key_at ts) ts refl

  pub specifiers_closed : (ts : List Token) → Closed Opener (Some' (Specifiers' ns)) n ts (read.specifiers ns n (inside ns n) ts)
  unfolding read.specifiers
  specifiers_closed ts = closed_next good_qualifiers n ts (calm_qualifiers ts) (λ qs us.
      closed_last n us [] (λ more vs x rest i ss q. (tree.specifiers (tree.pos_of ss) qs x, Specifiers'.specifiers q i)) (base_closed us) (λ x vs. Calm.got))

  a_bound_closed : (ts : List Token) → Closed Opener (Some' (Front (Bounds ns))) n ts (read.a_bound ns n (inside ns n) ts)
  unfolding read.a_bound inside
  a_bound_closed ts = closed_opens (λ n p. (inside ns n).whole >>= (λ a. expect m.CloseBracket >>= (λ q. pure (tree.bound p a)))) n m.OpenBracket ts (nought ∷ close m.CloseBracket ∷ []) (λ p. refl)
      (λ more p rest. (tree.bound p (e.Number 0 false 0 false spot), λ ss vs s. Bounds.bound (zero-whole ns more (close m.CloseBracket ∷ rest)) s))
      (λ i h p us. closed_last i us (close m.CloseBracket ∷ []) (λ more vs a rest w. (tree.bound p a, λ ss xs s. Bounds.bound w s)) ((deeper i h).whole us) (λ a vs. calm_end m.CloseBracket (λ q. tree.bound p a) vs))

  bounds_closed : (ts : List Token) → Closed Opener (Some' (Bounds ns)) n ts (many (sees m.OpenBracket) (read.a_bound ns n (inside ns n)) ts)
  bounds_closed ts = closed_many (Bounds ns) (λ more us. Bounds.no_bound) (sees m.OpenBracket) (sees_ahead m.OpenBracket) (λ n. read.a_bound ns n (inside ns n))
      (λ n. fine.a_bound_fine ns n (inside ns n) (inside_fine ns n)) (wider (λ n. read.a_bound ns n (inside ns n)) (λ j n more e. near.a_bound_near ns j n more (inside ns n) (inside ns more) e (inside_near ns j n more e)))
      (λ n ts h. sound.a_bound_sound ns n (inside ns n) (inside_sound ns n) ts) n (λ ts h. a_bound_closed ts) ts

  pub declr_closed : (ts : List Token) → Closed Opener (Some' (Declr' ns)) n ts (read.declr ns n (inside ns n) ts)
  unfolding read.declr
  declr_closed ts = closed_next good_any_name n ts (calm_any_name ts) (λ x us. closed_last n us [] (λ more vs bs rest i ss v. (tree.declr x bs, word_declr ns more ss x vs bs rest v i)) (bounds_closed us) (λ bs vs. Calm.got))

  next_declr_closed : (ts : List Token) → Closed Opener (Some' (Front (MoreDeclrs ns))) n ts (read.next_declr ns n (inside ns n) ts)
  unfolding read.next_declr
  next_declr_closed ts = closed_next (good_expect m.Comma) n ts (calm_expect m.Comma ts) (λ p us. closed_map (λ more vs rest x ss c. (x.0, more_next ns more ss p vs (x.0) rest c (x.1))) (declr_closed us))

  more_declrs_closed : (ts : List Token) → Closed Opener (Some' (MoreDeclrs ns)) n ts (many (sees m.Comma) (read.next_declr ns n (inside ns n)) ts)
  more_declrs_closed ts = closed_many (MoreDeclrs ns) (λ more us ss d first. Declrs.last_declr first) (sees m.Comma) (sees_ahead m.Comma) (λ n. read.next_declr ns n (inside ns n))
      (λ n. fine.next_declr_fine ns n (inside ns n) (inside_fine ns n)) (wider (λ n. read.next_declr ns n (inside ns n)) (λ j n more e. near.next_declr_near ns j n more (inside ns n) (inside ns more) e (inside_near ns j n more e)))
      (λ n ts h. sound.next_declr_sound ns n (inside ns n) (inside_sound ns n) ts) n (λ ts h. next_declr_closed ts) ts

  pub declrs_closed : (ts : List Token) → Closed Opener (Some' (λ more. sound.SomeDeclrs ns more)) n ts (read.declrs ns n (inside ns n) ts)
  unfolding read.declrs
  declrs_closed ts = closed_then (good_declr ns) n ts [] (λ more ss x rest i. (x ∷ [], sound.SomeDeclrs.some_declrs (Declrs.last_declr i))) (declr_closed ts) (λ x us.
      closed_last n us [] (λ more vs ds rest i ss d. (x ∷ ds, sound.SomeDeclrs.some_declrs (i ss x d))) (more_declrs_closed us) (λ ds vs. Calm.got))

  field_closed : (ts : List Token) → Closed Opener (Some' (Front (Fields ns))) n ts (read.field ns n (inside ns n) ts)
  unfolding read.field
  field_closed ts = closed_then (good_type ns) n ts (word letter spot ∷ close m.Semicolon ∷ []) (λ more ss t rest i. (tree.field t (letter_declr ∷ []), λ fs xs go. Fields.field i (Declrs.last_declr (Declr'.declr Bounds.no_bound)) go)) (specifiers_closed ts) (λ t us.
      closed_last n us (close m.Semicolon ∷ []) (λ more vs ds rest j ss i. (tree.field t ds, front_field ns more ss t vs ds rest i j)) (declrs_closed us) (λ ds vs. calm_end m.Semicolon (λ p. tree.field t ds) vs))

  pub fields_closed : (ts : List Token) → Closed Opener (Some' (sound.SomeFields ns)) n ts (read.fields ns n (inside ns n) ts)
  unfolding read.fields
  fields_closed ts = closed_then (good_field ns) n ts [] (λ more ss f rest go. (f ∷ [], sound.SomeFields.some_fields (go [] rest Fields.no_field))) (field_closed ts) (λ f us.
      closed_last n us [] (λ more vs fs rest i ss go. (f ∷ fs, sound.SomeFields.some_fields (go fs rest i)))
      (closed_many (Fields ns) (λ more us. Fields.no_field) (read.no_brace ns n (inside ns n)) (fine.no_brace_ahead ns n (inside ns n) (inside_fine ns n)) (λ n. read.field ns n (inside ns n))
      (λ n. fine.field_fine ns n (inside ns n) (inside_fine ns n)) (good_field ns).less (λ n ts h. (good_field ns).sound n ts) n (λ ts h. field_closed ts) us) (λ fs vs. Calm.got))

-- ---- expressions
-- the test of a place through a reference looks no further than the token, which is not plain
through-word : (w : Word) (p : Pos) (r s : List Token) → plain w ≡ false → let t : Token = record { word = w; pos = p } in is_through (t ∷ r) ≡ is_through (t ∷ s)
unfolding is_through
through-word (Mark m.Star) p r s h = cc
through-word w p r s h = refl

name-word : (w : Word) (p : Pos) (r s : List Token) → plain w ≡ false → let t : Token = record { word = w; pos = p } in is_name_and_close (t ∷ r) ≡ is_name_and_close (t ∷ s)
name-word (Name w) p r s h = cc
name-word (Number v u l d) p [] [] h = refl
name-word (Number v u l d) p [] (y ∷ s) h = refl
name-word (Number v u l d) p (x ∷ r) [] h = refl
name-word (Number v u l d) p (x ∷ r) (y ∷ s) h = refl
name-word (Key j) p [] [] h = refl
name-word (Key j) p [] (y ∷ s) h = refl
name-word (Key j) p (x ∷ r) [] h = refl
name-word (Key j) p (x ∷ r) (y ∷ s) h = refl
name-word (Mark j) p [] [] h = refl
name-word (Mark j) p [] (y ∷ s) h = refl
name-word (Mark j) p (x ∷ r) [] h = refl
name-word (Mark j) p (x ∷ r) (y ∷ s) h = refl

through-same : (c : List Token) (t : Token) (r s : List Token) → Opener t → is_through (c ++ t ∷ r) ≡ is_through (c ++ t ∷ s)
unfolding is_through
through-same [] t r s h = through-word t.word t.pos r s h
through-same (x ∷ []) t r s h = ap (λ z. is_star x.word && z) (name-word t.word t.pos r s h)
through-same (x ∷ y ∷ []) t r s h = refl
through-same (x ∷ y ∷ z ∷ c) t r s h = refl

prefix-plain : (mk : Punct) (op : Prefix) → prefix_of mk ≡ Some op → plain (Mark mk) ≡ false
prefix-plain m.Star op h = cc
prefix-plain m.CloseParen op h = cc
prefix-plain mk op h = refl

cast_unary : (ns : Names) (more : ℕ) (p : Pos) (us : List Token) (t : Specifiers) (vs : List Token) (q : Pos) (ws : List Token) (a : Expr) (rest : List Token) → Specifiers' ns more us t vs → Marked m.CloseParen vs q ws → Unary ns more ws a rest
    → Unary ns (suc more) (mark m.OpenParen p ∷ us) (e.Cast p t a) rest
cast_unary ns more p us t _ q ws a rest i Marked.marked u = Unary.cast i u

-- in brackets
in_brackets : {A : Type 0} (ns : Names) (i : ℕ) (p : Pos) (us : List Token) {x : Read Expr} {f : Expr → Parser A} → is_through us ≡ false → Closed Opener (Some' (Whole ns)) i us x → ((a : Expr) (vs : List Token) → Calm (f a vs))
    → Closed Opener (λ more vs rest. Some' (Unary ns) (suc more) (mark m.OpenParen p ∷ vs) rest) i us (and_then x f)
in_brackets ns i p us h (Closed.got {a = a} {us = vs}) calm = closed_calm (calm a vs)
in_brackets ns i p us h Closed.stuck calm = Closed.stuck
in_brackets ns i p us h (Closed.deep {t} {r} c tail more same l o w) calm = Closed.deep c (tail ++ close m.CloseParen ∷ []) more same l o (λ rest.
    let v = w (close m.CloseParen ∷ rest) in
    let closed : is_through (c ++ t ∷ (tail ++ close m.CloseParen ∷ rest)) ≡ false = sym (through-same c t r (tail ++ close m.CloseParen ∷ rest) o) ∙ ap is_through (sym same) ∙ h in
    (e.Bracket p (v.0), subst (λ z. Unary ns (suc more) (mark m.OpenParen p ∷ (c ++ t ∷ z)) (e.Bracket p (v.0)) rest) (sym (append_assoc tail (close m.CloseParen ∷ []) rest)) (Unary.bracket (v.1) closed)))

link_front : (ns : Names) (more l : ℕ) (ss : List Token) (op : Operator) (us : List Token) (a : Expr) (vs : List Token) → sound.IsOperator l ss op us → Ranked ns more l us a vs
    → Front (λ more ss xs us. Links ns more l ss xs us) more ss (tree.link op (tree.pos_of ss) a) vs
link_front ns more l _ _ us a vs (sound.IsOperator.is_operator h level) i xs ws go = Links.link h level i go

pub chained_ranked : (ns : Names) (more l : ℕ) (ss : List Token) (a : Expr) (us : List Token) (xs : List Link) (vs : List Token) → Ranked ns more l ss a us → Links ns more l us xs vs → Ranked ns more (suc l) ss (read.chained a xs) vs
chained_ranked ns more l ss a us _ _ i Links.no_link = Ranked.alone i
chained_ranked ns more l ss a _ _ vs i (Links.link h level j go) = Ranked.chain i (Links.link h level j go)

choice_whole : (ns : Names) (more : ℕ) (c : Expr) (p : Pos) (ss us : List Token) (a : Expr) (vs : List Token) (q : Pos) (ws : List Token) (f : Expr) (rest : List Token) → Ranked ns (suc more) loosest ss c (mark m.Question p ∷ us) → Whole ns more us a vs → Marked m.Colon vs q ws
    → Whole ns more ws f rest → Whole ns (suc more) ss (e.Choice c p a f) rest
choice_whole ns more c p ss us a _ q ws f rest r i Marked.marked j = Whole.choice r i j

good_operator : (l : ℕ) → Good (guarded (read.sees_operator (suc l)) (λ _. read.operator)) (λ _ ts op us. sound.IsOperator l ts op us)
good_operator l = record { fine = λ n. fine_if (read.sees_operator (suc l)) (fine.operator_ahead (suc l)) (loosen fine.operator_fine) (fine_refuse 0); less = λ n more h ts. Less.same; sound = λ n ts. if_yields (read.sees_operator (suc l) ts) (sound.operator_sound l ts) (λ h. Yields.stuck) }

calm_operator : (ts : List Token) → Calm (read.operator ts)
unfolding read.operator
calm_operator ts = calm_taken (read.operator_in (mark_at ts)) ts

nought_bracket : (ns : Names) (more : ℕ) (p : Pos) (rest : List Token) → Unary ns (suc more) (mark m.OpenParen p ∷ nought ∷ close m.CloseParen ∷ rest) (e.Bracket p (e.Number 0 false 0 false spot)) rest
unfolding is_through
nought_bracket ns more p rest = Unary.bracket (zero-whole ns more (close m.CloseParen ∷ rest)) refl

module _ (ns : Names) (n : ℕ) (deeper : (i : ℕ) → n ≡ suc i → Deeper ns i) where
  a_place_closed : (ts : List Token) → Closed Opener (Some' (Unary ns)) n ts (read.a_place ns n (inside ns n) ts)
  unfolding read.a_place
  a_place_closed ts = closed_last n ts [] (λ more ss x rest i. (e.Place x, Unary.place i)) (place_closed ns n deeper ts) (λ x us. Calm.got)

  cast_closed : (ts : List Token) → Closed Opener (Some' (Unary ns)) n ts (read.cast ns n (inside ns n) ts)
  unfolding read.cast inside
  cast_closed ts = closed_opens (λ n p. (inside ns n).specifiers >>= (λ t. expect m.CloseParen >>= (λ q. (inside ns n).unary >>= (λ a. pure (e.Cast p t a))))) n m.OpenParen ts (int ∷ close m.CloseParen ∷ nought ∷ []) (λ p. refl)
      (λ more p rest. (e.Cast p int_type (e.Number 0 false 0 false spot), Unary.cast (int-type ns more (close m.CloseParen ∷ nought ∷ rest) ScalarWords.no_word) Unary.number))
      (λ i h p us. closed_then (good_type ns) i us (close m.CloseParen ∷ nought ∷ []) (λ more ss t rest s. (e.Cast p t (e.Number 0 false 0 false spot), Unary.cast s Unary.number)) ((deeper i h).specifiers us) (λ t vs.
      closed_next (good_expect m.CloseParen) i vs (calm_expect m.CloseParen vs) (λ q ws.
      closed_last i ws [] (λ more xs a rest u vs c us s. (e.Cast p t a, cast_unary ns more p us t vs q xs a rest s c u)) ((deeper i h).unary ws) (λ a xs. Calm.got))))

  bracket_marked : (ts : List Token) (p : Pos) (us : List Token) → Marked m.OpenParen ts p us → is_through (after ts) ≡ false → Closed Opener (Some' (Unary ns)) n ts (read.bracket ns n (inside ns n) ts)
  unfolding read.bracket inside opens sees same_mark
  bracket_marked _ p us Marked.marked t = closed_opens_any (λ n p. (inside ns n).whole >>= (λ a. expect m.CloseParen >>= (λ q. pure (e.Bracket p a)))) n m.OpenParen p us (nought ∷ close m.CloseParen ∷ []) refl
      (λ more rest. (e.Bracket p (e.Number 0 false 0 false spot), nought_bracket ns more p rest))
      (λ i h. in_brackets ns i p us t ((deeper i h).whole us) (λ a vs. calm_end m.CloseParen (λ q. e.Bracket p a) vs))

  prefixed_closed : (mk : Punct) (op : Prefix) (p : Pos) (us : List Token) → prefix_of mk ≡ Some op → Closed Opener (Some' (Unary ns)) n (mark mk p ∷ us) (read.prefixed ns n (inside ns n) op (mark mk p ∷ us))
  unfolding read.prefixed inside
  prefixed_closed mk op p us h = closed_opens_any (λ n p. (inside ns n).unary >>= (λ a. pure (e.Prefix op p a))) n mk p us (nought ∷ []) (prefix-plain mk op h)
      (λ more rest. (e.Prefix op p (e.Number 0 false 0 false spot), Unary.prefix h Unary.number))
      (λ i g. closed_last i us [] (λ more vs a rest u. (e.Prefix op p a, Unary.prefix h u)) ((deeper i g).unary us) (λ a vs. Calm.got))

  prefix_by_closed : (mk : Punct) (o : Option Prefix) (p : Pos) (us : List Token) → prefix_of mk ≡ o → Closed Opener (Some' (Unary ns)) n (mark mk p ∷ us) (read.prefix_by ns n (inside ns n) o (mark mk p ∷ us))
  prefix_by_closed mk None p us h = Closed.stuck
  prefix_by_closed mk (Some op) p us h = prefixed_closed mk op p us h

  bracketed_closed : (p : Pos) (us : List Token) → Closed Opener (Some' (Unary ns)) n (mark m.OpenParen p ∷ us) (read.bracketed ns n (inside ns n) (mark m.OpenParen p ∷ us))
  unfolding read.bracketed
  bracketed_closed p us = closed_if (is_through us) (λ h. a_place_closed (mark m.OpenParen p ∷ us))
      (λ h. closed_if (read.begins_type ns us) (λ g. cast_closed (mark m.OpenParen p ∷ us)) (λ g. bracket_marked (mark m.OpenParen p ∷ us) p us Marked.marked h))

  mark_closed : (mk : Punct) (p : Pos) (us : List Token) → Closed Opener (Some' (Unary ns)) n (mark mk p ∷ us) (read.unary_mark ns n (inside ns n) mk (mark mk p ∷ us))
  mark_closed m.OpenParen p us = bracketed_closed p us
  mark_closed m.Star p us = a_place_closed (mark m.Star p ∷ us)
  mark_closed mk p us = prefix_by_closed mk (prefix_of mk) p us refl

  word_closed : (w : Word) (p : Pos) (us : List Token) → let t : Token = record { word = w; pos = p } in Closed Opener (Some' (Unary ns)) n (t ∷ us) (read.unary_by ns n (inside ns n) t us)
  word_closed (Name w) p us = a_place_closed (word w p ∷ us)
  word_closed (Number v u l d) p us = Closed.got
  word_closed (Key j) p us = Closed.stuck
  word_closed (Mark mk) p us = mark_closed mk p us

  pub unary_closed : (ts : List Token) → Closed Opener (Some' (Unary ns)) n ts (read.unary ns n (inside ns n) ts)
  unfolding read.unary
  unary_closed [] = Closed.stuck
  unary_closed (t ∷ ts) = word_closed t.word t.pos ts

  a_link_closed : (l : ℕ) → ((ts : List Token) → Closed Opener (Some' (λ more ts a us. Ranked ns more l ts a us)) n ts (read.ranked ns n (inside ns n) l ts)) → (ts : List Token) → read.sees_operator (suc l) ts ≡ true
      → Closed Opener (Some' (Front (λ more ss xs us. Links ns more l ss xs us))) n ts (read.a_link ns n (inside ns n) (read.ranked ns n (inside ns n) l) ts)
  unfolding read.a_link
  a_link_closed l one ts h =
      let same : guarded (read.sees_operator (suc l)) (λ _. read.operator) n ts ≡ read.operator ts = ap (λ b. cond b (read.operator ts) (Stuck ts)) h in
      subst (λ (x : Read Operator). Closed Opener (Some' (Front (λ more ss xs us. Links ns more l ss xs us))) n ts (and_then x (λ op. read.ranked ns n (inside ns n) l >>= (λ a. pure (tree.link op (tree.pos_of ts) a))))) same
      (closed_next (good_operator l) n ts (calm_if (read.sees_operator (suc l) ts) (calm_operator ts) Calm.stuck) (λ op us.
      closed_last n us [] (λ more vs a rest i ss o. (tree.link op (tree.pos_of ss) a, link_front ns more l ss op vs a rest o i)) (one us) (λ a vs. Calm.got)))

  links_closed : (l : ℕ) → ((ts : List Token) → Closed Opener (Some' (λ more ts a us. Ranked ns more l ts a us)) n ts (read.ranked ns n (inside ns n) l ts)) → (ts : List Token)
      → Closed Opener (Some' (λ more ss xs us. Links ns more l ss xs us)) n ts (many (read.sees_operator (suc l)) (read.a_link ns n (inside ns n) (read.ranked ns n (inside ns n) l)) ts)
  links_closed l one ts = closed_many (λ more ss xs us. Links ns more l ss xs us) (λ more us. Links.no_link) (read.sees_operator (suc l)) (fine.operator_ahead (suc l)) (λ n. read.a_link ns n (inside ns n) (read.ranked ns n (inside ns n) l))
      (λ n. fine.a_link_fine ns n (inside ns n) (inside_fine ns n) (read.ranked ns n (inside ns n) l) ((good_ranked ns l).fine n))
      (wider (λ n. read.a_link ns n (inside ns n) (read.ranked ns n (inside ns n) l)) (λ j n more e. near.a_link_near ns j n more (inside ns n) (inside ns more) e (inside_near ns j n more e) (read.ranked ns n (inside ns n) l) (read.ranked ns more (inside ns more) l) (near.ranked_near ns j n more (inside ns n) (inside ns more) e (inside_near ns j n more e) l)))
      (λ n ts h. sound.a_link_sound ns n (inside ns n) (inside_sound ns n) l (read.ranked ns n (inside ns n) l) ((good_ranked ns l).sound n) ts h) n (a_link_closed l one) ts

  pub ranked_closed : (l : ℕ) (ts : List Token) → Closed Opener (Some' (λ more ts a us. Ranked ns more l ts a us)) n ts (read.ranked ns n (inside ns n) l ts)
  unfolding read.ranked read.chain
  ranked_closed zero ts = closed_map (λ more us vs x. (x.0, Ranked.unary (x.1))) (unary_closed ts)
  ranked_closed (suc l) ts = closed_then (good_ranked ns l) n ts [] (λ more ss a rest i. (a, Ranked.alone i)) (ranked_closed l ts) (λ a us.
      closed_last n us [] (λ more vs xs rest j ss i. (read.chained a xs, chained_ranked ns more l ss a vs xs rest i j)) (links_closed l (ranked_closed l) us) (λ xs vs. Calm.got))

  choice_closed : (c : Expr) (ts : List Token) → Closed Opener (λ more us rest. (ss : List Token) → Ranked ns more loosest ss c us → Some' (Whole ns) more ss rest) n ts (read.choice ns n (inside ns n) c ts)
  unfolding read.choice inside
  choice_closed c ts = closed_opens (λ n p. (inside ns n).whole >>= (λ a. expect m.Colon >>= (λ q. (inside ns n).whole >>= (λ f. pure (e.Choice c p a f))))) n m.Question ts (nought ∷ close m.Colon ∷ nought ∷ []) (λ p. refl)
      (λ more p rest ss r. (e.Choice c p (e.Number 0 false 0 false spot) (e.Number 0 false 0 false spot), Whole.choice r (zero-whole ns more (close m.Colon ∷ nought ∷ rest)) (zero-whole ns more rest)))
      (λ i h p us. closed_then (good_whole ns) i us (close m.Colon ∷ nought ∷ []) (λ more xs a rest w ss r. (e.Choice c p a (e.Number 0 false 0 false spot), Whole.choice r w (zero-whole ns more rest))) ((deeper i h).whole us) (λ a vs.
      closed_next (good_expect m.Colon) i vs (calm_expect m.Colon vs) (λ q ws.
      closed_last i ws [] (λ more zs f rest j vs d us w ss r. (e.Choice c p a f, choice_whole ns more c p ss us a vs q zs f rest r w d j)) ((deeper i h).whole ws) (λ f zs. Calm.got))))

  pub whole_closed : (ts : List Token) → Closed Opener (Some' (Whole ns)) n ts (read.whole ns n (inside ns n) ts)
  unfolding read.whole
  whole_closed ts = closed_then (good_ranked ns loosest) n ts [] (λ more ss a rest r. (a, Whole.binary r)) (ranked_closed loosest ts) (λ c us. closed_if (sees m.Question us) (λ h. choice_closed c us) (λ h. Closed.got))

pub all_closed : (ns : Names) (i : ℕ) → Deeper ns i
all_closed ns zero = record { whole = whole_closed ns zero (λ i h. cc); unary = unary_closed ns zero (λ i h. cc); specifiers = specifiers_closed ns zero (λ i h. cc); fields = fields_closed ns zero (λ i h. cc) }
all_closed ns (suc n) =
    let below : (i : ℕ) → suc n ≡ suc i → Deeper ns i = λ i h. let same : n ≡ i = omega (arith, h) in subst (Deeper ns) same (all_closed ns n) in
    record { whole = whole_closed ns (suc n) below; unary = unary_closed ns (suc n) below; specifiers = specifiers_closed ns (suc n) below; fields = fields_closed ns (suc n) below }
