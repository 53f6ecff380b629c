-- Statements and sources are read the same up to a token, whatever follows it.
use Rattle.std.proofs.Common.{◌≡◌, ℕ, zero, suc, ◌-◌, ◌<◌, List, [], ◌∷◌, ◌++◌, Bool, true, false, cond, refl, sym, ◌∙◌, ap, arith, length, ◌⊎◌, inl, inr, Option, Some, None}
use Rattle.std.specs.Prelude.{◌&&◌}
use Rattle.sa_base.specs.declared.pos.Pos.{Pos}
use Rattle.sa_tokens.specs.declared.keyword.Keyword.{Keyword}
use Rattle.sa_tokens.specs.declared.keyword.Keyword.TheVariants as k
use Rattle.sa_tokens.specs.declared.punct.Punct.{Punct}
use Rattle.sa_tokens.specs.declared.punct.Punct.TheVariants as m
use Rattle.sa_tokens.specs.declared.token.Word.{Word}
use Rattle.sa_tokens.specs.declared.token.Word.TheVariants.{Name, Number, Key, Mark}
use Rattle.sa_tokens.specs.declared.token.Token.{Token}
use Rattle.sa_syntax.specs.declared.decl.Name.{Name as Named}
use Rattle.sa_syntax.specs.declared.decl.Declr.{Declr}
use Rattle.sa_syntax.specs.declared.decl.Init.{Init}
use Rattle.sa_syntax.specs.declared.decl.Init.TheVariants as init
use Rattle.sa_syntax.specs.declared.decl.Start.TheVariants as start
use Rattle.sa_syntax.specs.declared.expr.Expr.{Expr}
use Rattle.sa_syntax.specs.declared.expr.Place.{Place}
use Rattle.sa_syntax.specs.declared.stmt.Compound.{Compound}
use Rattle.sa_syntax.specs.declared.stmt.Update.{Update}
use Rattle.sa_syntax.specs.declared.stmt.Simple.{Simple}
use Rattle.sa_syntax.specs.declared.stmt.Simple.TheVariants as simply
use Rattle.sa_syntax.specs.declared.stmt.Arg.{Arg}
use Rattle.sa_syntax.specs.declared.stmt.ArgValue.TheVariants as value
use Rattle.sa_syntax.specs.declared.stmt.Directive.{Directive}
use Rattle.sa_syntax.specs.declared.stmt.Directive.TheVariants as d
use Rattle.sa_syntax.specs.declared.stmt.First.TheVariants as first
use Rattle.sa_syntax.specs.declared.stmt.Label.TheVariants as label
use Rattle.sa_syntax.specs.declared.stmt.LocalStart.TheVariants as begins
use Rattle.sa_syntax.specs.declared.stmt.Stmt.{Stmt}
use Rattle.sa_syntax.specs.declared.stmt.Stmt.TheVariants as s
use Rattle.sa_syntax.specs.declared.stmt.BlockItem.TheVariants as item
use Rattle.sa_syntax.specs.Trees as tree
use Rattle.sa_syntax.specs.Words.{Names, mark, word, is_type_name, begins_with_star, begins_with_else, begins_with_label}
use Rattle.sa_syntax.specs.Reading.{Parser, Stuck, Deep, same_mark, sees, after, expect, opens, name_at, key_at, mark_at, turns, pure, ◌>>=◌, ◌>>◌}
use Rattle.sa_syntax.specs.ReadExpr.{begins_type, inside}
use Rattle.sa_syntax.specs.ReadStmt as read
use Rattle.sa_syntax.specs.ReadStmt.{Bodies, takes, within, list}
use Rattle.sa_syntax.proofs.DeepLemmas.{Shrinks, Local, Fine, Ahead, loosen, loosen_read, shrink_then, shrink_cond, turn, local_cond, same_first, ends_fine, variable_gone, as_short, fine_then, fine_first, fine_next, fine_pure, fine_refuse, fine_ahead, fine_if, fine_after, fine_takes, fine_variable, fine_expect, fine_opens_then, fine_many, fine_list, fine_within, fine_look, sees_ahead, key_ahead, mark_ahead}
use Rattle.sa_syntax.proofs.DeepExpr as fine
use Rattle.sa_syntax.proofs.DeepExpr.{inside_fine, type_ahead, place_ahead}

-- ---- what is read of expressions and types
module _ (ns : Names) (n : ℕ) where
  pub expr_fine : Fine 0 (read.expr ns n)
  expr_fine = fine.whole_fine ns n (inside ns n) (inside_fine ns n)

  pub place_fine : Fine 1 (read.place ns n)
  place_fine = fine.place_fine ns n (inside ns n) (inside_fine ns n)

  pub specifiers_fine : Fine 0 (read.specifiers ns n)
  specifiers_fine = fine.specifiers_fine ns n (inside ns n) (inside_fine ns n)

  pub declr_fine : Fine 1 (read.declr ns n)
  declr_fine = fine.declr_fine ns n (inside ns n) (inside_fine ns n)

  name_expr : (w : List ℕ) (p : Pos) (us : List Token) → is_type_name ns w ≡ false → Shrinks 0 us (read.expr ns n (word w p ∷ us))
  name_expr = fine.name_whole ns n (inside ns n) (inside_fine ns n)

  name_place : (w : List ℕ) (p : Pos) (us : List Token) → is_type_name ns w ≡ false → Shrinks 0 us (read.place ns n (word w p ∷ us))
  name_place = fine.name_place ns n (inside ns n) (inside_fine ns n)

-- ---- initialisers
shrink_reader : {A : Type 0} {k : ℕ} (p q : Parser A) (b : Bool) (ts : List Token) → Shrinks k ts (p ts) → Shrinks k ts (q ts) → Shrinks k ts (cond b p q ts)
shrink_reader p q true ts one other = one
shrink_reader p q false ts one other = other

local_reader : {A : Type 0} {t : Token} {r s us vs : List Token} (p q p' q' : Parser A) (b c : Bool) → b ≡ c → Local t r s (p us) (p' vs) → Local t r s (q us) (q' vs) → Local t r s (cond b p q us) (cond c p' q' vs)
local_reader p q p' q' true true e one other = one
local_reader p q p' q' false false e one other = other
local_reader p q p' q' true false e one other = cc
local_reader p q p' q' false true e one other = cc

inits_end : (found : List Init) → Fine 0 (expect m.CloseBrace >> pure found)
inits_end found = ends_fine m.CloseBrace found

shrink_inits : (one : Parser Init) → Fine 0 one → (n : ℕ) (found : List Init) (ts : List Token) → Shrinks 0 ts (read.inits_from one n found ts)
unfolding read.inits_from
shrink_inits one each zero found ts = Shrinks.stuck [] refl
shrink_inits one each (suc n) found ts =
    shrink_then {j = 0} {k = 0} 0 (omega arith) (λ i us. shrink_reader _ _ (sees m.Comma us) us
    (shrink_then {j = 1} {k = 0} 0 (omega arith) (λ p vs. shrink_reader _ _ (sees m.CloseBrace vs) vs ((inits_end (found ++ i ∷ [])).shrinks vs) (shrink_inits one each n (found ++ i ∷ []) vs)) us ((fine_expect m.Comma).shrinks us))
    ((inits_end (found ++ i ∷ [])).shrinks us)) ts (each.shrinks ts)

local_inits : (one : Parser Init) → Fine 0 one → (n more : ℕ) (found : List Init) (b : List Token) (t : Token) (r s : List Token) → length (b ++ t ∷ r) < n → length (b ++ t ∷ s) < more
    → Local t r s (read.inits_from one n found (b ++ t ∷ r)) (read.inits_from one more found (b ++ t ∷ s))
unfolding read.inits_from
local_inits one each zero more found b t r s j h = absurd (omega arith)
local_inits one each (suc n) zero found b t r s j h = absurd (omega arith)
local_inits one each (suc n) (suc more) found b t r s j h =
    turn _ _ 0
    (λ i c g. local_reader _ _ _ _ (sees m.Comma (c ++ t ∷ r)) (sees m.Comma (c ++ t ∷ s)) (same_first (sees m.Comma) (sees_ahead m.Comma) c t r s)
    (turn _ _ 1
    (λ p e f. local_reader _ _ _ _ (sees m.CloseBrace (e ++ t ∷ r)) (sees m.CloseBrace (e ++ t ∷ s)) (same_first (sees m.CloseBrace) (sees_ahead m.CloseBrace) e t r s)
    ((inits_end (found ++ i ∷ [])).local e t r s) (let l = as_short e b t r s 1 0 (omega (arith, f, g)) in local_inits one each n more (found ++ i ∷ []) e t r s (omega (arith, l, j)) (omega (arith, f, g, h))))
    (λ p vs. shrink_reader _ _ (sees m.CloseBrace vs) vs ((inits_end (found ++ i ∷ [])).shrinks vs) (shrink_inits one each n (found ++ i ∷ []) vs))
    ((fine_expect m.Comma).local c t r s) ((fine_expect m.Comma).shrinks (c ++ t ∷ s)))
    ((inits_end (found ++ i ∷ [])).local c t r s))
    (λ i us. shrink_reader _ _ (sees m.Comma us) us
    (shrink_then {j = 1} {k = 0} 0 (omega arith) (λ p vs. shrink_reader _ _ (sees m.CloseBrace vs) vs ((inits_end (found ++ i ∷ [])).shrinks vs) (shrink_inits one each n (found ++ i ∷ []) vs)) us ((fine_expect m.Comma).shrinks us))
    ((inits_end (found ++ i ∷ [])).shrinks us))
    (each.local b t r s) (each.shrinks (b ++ t ∷ s))

pub inits_fine : (one : Parser Init) → Fine 0 one → Fine 0 (λ ts. read.inits_from one (turns ts) [] ts)
inits_fine one each = record { shrinks = λ ts. shrink_inits one each (turns ts) [] ts; local = λ b t r s. local_inits one each (turns (b ++ t ∷ r)) (turns (b ++ t ∷ s)) [] b t r s (omega arith) (omega arith) }

pub braces_fine : (n : ℕ) (one : Parser Init) → ((i : ℕ) → n ≡ suc i → Fine 0 one) → Fine 1 (read.braces n one)
unfolding read.braces
braces_fine n one each = fine_opens_then n m.OpenBrace (λ i h p. fine_then (inits_fine one (each i h)) (λ is. fine_pure (init.Braces p is)))

pub init_by_fine : (ns : Names) (n : ℕ) (one : Parser Init) → ((i : ℕ) → n ≡ suc i → Fine 0 one) → Fine 0 (read.init_by ns n one)
unfolding read.init_by
init_by_fine ns n one each = fine_if (sees m.OpenBrace) (sees_ahead m.OpenBrace) (loosen (braces_fine n one each)) (fine_then (expr_fine ns n) (λ a. fine_pure (init.Value a)))

pub init_at_fine : (ns : Names) (n : ℕ) → Fine 0 (read.init_at ns n)
unfolding read.init_at
init_at_fine ns zero = init_by_fine ns zero (λ ts. Deep ts) (λ i h. cc)
init_at_fine ns (suc n) = init_by_fine ns (suc n) (read.init_at ns n) (λ i h. init_at_fine ns n)

module _ (ns : Names) (n : ℕ) where
  pub init_declr_fine : Fine 1 (read.init_declr ns n)
  unfolding read.init_declr
  init_declr_fine = fine_first (declr_fine ns n) (λ x.
      fine_if (sees m.Equal) (sees_ahead m.Equal) (fine_then (fine_expect m.Equal) (λ p. fine_then (init_at_fine ns n) (λ i. fine_pure (tree.init_declr x (start.Init p i))))) (fine_pure (tree.init_declr x start.Nothing)))

  pub init_declr_gone : (w : List ℕ) (p : Pos) (us : List Token) → Shrinks 0 us (read.init_declr ns n (word w p ∷ us))
  unfolding read.init_declr
  init_declr_gone w p us = shrink_then {j = 0} {k = 0} 0 (omega arith) (λ x. (
      fine_if (sees m.Equal) (sees_ahead m.Equal) (fine_then (fine_expect m.Equal) (λ p. fine_then (init_at_fine ns n) (λ i. fine_pure (tree.init_declr x (start.Init p i))))) (fine_pure (tree.init_declr x start.Nothing))).shrinks) us
      (fine.declr_gone ns n (inside ns n) (inside_fine ns n) w p us)

  -- ---- calls
  pub arg_value_fine : Fine 0 (read.arg_value ns n)
  unfolding read.arg_value
  arg_value_fine = fine_if (sees m.Ampersand) (sees_ahead m.Ampersand)
      (fine_then (fine_expect m.Ampersand) (λ p. fine_then (place_fine ns n) (λ x. fine_pure (value.Reference p x))))
      (fine_then (expr_fine ns n) (λ a. fine_pure (value.Value a)))

  shrink_args : (left : ℕ) (p : Pos) (found : List Arg) (ts : List Token) → Shrinks 0 ts (read.args_from ns n left p found ts)
  unfolding read.args_from
  shrink_args zero p found ts = Shrinks.stuck [] refl
  shrink_args (suc left) p found ts =
      shrink_then {j = 0} {k = 0} 0 (omega arith) (λ v us. shrink_cond (sees m.Comma us)
      (shrink_then {j = 1} {k = 0} 0 (omega arith) (λ q vs. shrink_args left q (found ++ tree.arg p v ∷ []) vs) us ((fine_expect m.Comma).shrinks us))
      ((ends_fine m.CloseParen (found ++ tree.arg p v ∷ [])).shrinks us)) ts (arg_value_fine.shrinks ts)

  local_args : (left more : ℕ) (p : Pos) (found : List Arg) (b : List Token) (t : Token) (r s : List Token) → length (b ++ t ∷ r) < left → length (b ++ t ∷ s) < more
      → Local t r s (read.args_from ns n left p found (b ++ t ∷ r)) (read.args_from ns n more p found (b ++ t ∷ s))
  unfolding read.args_from
  local_args zero more p found b t r s j h = absurd (omega arith)
  local_args (suc left) zero p found b t r s j h = absurd (omega arith)
  local_args (suc left) (suc more) p found b t r s j h =
      turn _ _ 0
      (λ v c g. local_cond (sees m.Comma (c ++ t ∷ r)) (sees m.Comma (c ++ t ∷ s)) (same_first (sees m.Comma) (sees_ahead m.Comma) c t r s)
      (turn _ _ 1 (λ q e f. let l = as_short e b t r s 1 0 (omega (arith, f, g)) in local_args left more q (found ++ tree.arg p v ∷ []) e t r s (omega (arith, l, j)) (omega (arith, f, g, h))) (λ q vs. shrink_args left q (found ++ tree.arg p v ∷ []) vs)
      ((fine_expect m.Comma).local c t r s) ((fine_expect m.Comma).shrinks (c ++ t ∷ s)))
      ((ends_fine m.CloseParen (found ++ tree.arg p v ∷ [])).local c t r s))
      (λ v us. shrink_cond (sees m.Comma us)
      (shrink_then {j = 1} {k = 0} 0 (omega arith) (λ q vs. shrink_args left q (found ++ tree.arg p v ∷ []) vs) us ((fine_expect m.Comma).shrinks us))
      ((ends_fine m.CloseParen (found ++ tree.arg p v ∷ [])).shrinks us))
      (arg_value_fine.local b t r s) (arg_value_fine.shrinks (b ++ t ∷ s))

  pub args_fine : (p : Pos) → Fine 0 (read.args ns p n)
  unfolding read.args
  args_fine p = fine_if (sees m.CloseParen) (sees_ahead m.CloseParen) (fine_after (fine_pure []))
      (record { shrinks = λ ts. shrink_args (turns ts) p [] ts; local = λ b t r s. local_args (turns (b ++ t ∷ r)) (turns (b ++ t ∷ s)) p [] b t r s (omega arith) (omega arith) })

init_by_name : (ns : Names) (n : ℕ) (one : Parser Init) (w : List ℕ) (p : Pos) (us : List Token) → is_type_name ns w ≡ false → Shrinks 0 us (read.init_by ns n one (word w p ∷ us))
unfolding read.init_by sees
init_by_name ns n one w p us h = shrink_then {j = 0} {k = 0} 0 (omega arith) (λ a. (fine_pure (init.Value a)).shrinks) us (name_expr ns n w p us h)

init_name : (ns : Names) (n : ℕ) (w : List ℕ) (p : Pos) (us : List Token) → is_type_name ns w ≡ false → Shrinks 0 us (read.init_at ns n (word w p ∷ us))
unfolding read.init_at
init_name ns zero w p us h = init_by_name ns zero (λ ts. Deep ts) w p us h
init_name ns (suc n) w p us h = init_by_name ns (suc n) (read.init_at ns n) w p us h

args_fine_at : (ns : Names) (p : Pos) (n : ℕ) → Fine 0 (read.args ns p n)
args_fine_at ns p n = args_fine ns n p

-- ---- a call is seen by its name and a bracket
module _ (ns : Names) (n : ℕ) where
  pub call_fine : Fine 1 (read.call ns n)
  unfolding read.call
  call_fine = fine_first (fine_variable ns) (λ x. fine_opens_then n m.OpenParen (λ i h p. fine_then (fine_within (read.args ns p) (λ n. args_fine_at ns p n) n i h) (λ xs. fine_pure (tree.call x xs))))

  -- the name is taken
  pub call_gone : (w : List ℕ) (p : Pos) (us : List Token) → is_type_name ns w ≡ false → Shrinks 0 us (read.call ns n (word w p ∷ us))
  unfolding read.call
  call_gone w p us h = shrink_then {j = 0} {k = 0} 0 (omega arith) (λ x vs. loosen_read ((opened_fine x).shrinks vs)) us (variable_gone ns w p us h)
    where
      opened_fine : (x : Named) → Fine 1 (opens n m.OpenParen >>= (λ p. within (read.args ns p) n >>= (λ xs. pure (tree.call x xs))))
      opened_fine x = fine_opens_then n m.OpenParen (λ i h p. fine_then (fine_within (read.args ns p) (λ n. args_fine_at ns p n) n i h) (λ xs. fine_pure (tree.call x xs)))

  call_far : (c d f : Token) (r s : List Token) → read.sees_call ns (c ∷ d ∷ f ∷ r) ≡ read.sees_call ns (c ∷ d ∷ f ∷ s)
  unfolding read.sees_call name_at sees
  call_far c d f r s = refl

  call_second : (c d : Token) (r s : List Token) → read.sees_call ns (c ∷ d ∷ r) ≡ read.sees_call ns (c ∷ d ∷ s)
  unfolding read.sees_call name_at sees
  call_second c d r s = refl

  type_call : (w : List ℕ) (at : Pos) (us : List Token) → is_type_name ns w ≡ true → read.sees_call ns (word w at ∷ us) ≡ false
  unfolding read.sees_call name_at
  type_call w at us h = rw h refl

  name_near : {A : Type 0} (p q : Parser A) → ((w : List ℕ) (at : Pos) (us : List Token) → is_type_name ns w ≡ false → Shrinks 0 us (p (word w at ∷ us))) → ((w : List ℕ) (at : Pos) (us : List Token) → is_type_name ns w ≡ false → Shrinks 0 us (q (word w at ∷ us)))
      → (w : List ℕ) (at : Pos) (r s : List Token) (x : Bool) → is_type_name ns w ≡ x → (read.sees_call ns (word w at ∷ r) ≡ read.sees_call ns (word w at ∷ s)) ⊎ (Shrinks 0 r (p (word w at ∷ r)) × Shrinks 0 r (q (word w at ∷ r)))
  name_near p q one other w at r s true h = inl (type_call w at r h ∙ sym (type_call w at s h))
  name_near p q one other w at r s false h = inr (one w at r h, other w at r h)

  -- where the front is a name both readers take it
  call_near : {A : Type 0} (p q : Parser A) → ((w : List ℕ) (at : Pos) (us : List Token) → is_type_name ns w ≡ false → Shrinks 0 us (p (word w at ∷ us))) → ((w : List ℕ) (at : Pos) (us : List Token) → is_type_name ns w ≡ false → Shrinks 0 us (q (word w at ∷ us)))
      → (w : Word) (at : Pos) (r s : List Token) → let t : Token = record { word = w; pos = at } in (read.sees_call ns (t ∷ r) ≡ read.sees_call ns (t ∷ s)) ⊎ (Shrinks 0 r (p (t ∷ r)) × Shrinks 0 r (q (t ∷ r)))
  unfolding read.sees_call name_at
  call_near p q one other (Name w) at r s = name_near p q one other w at r s (is_type_name ns w) refl
  call_near p q one other (Number v u l d) at r s = inl refl
  call_near p q one other (Key j) at r s = inl refl
  call_near p q one other (Mark mk) at r s = inl refl

  pub call_or_fine : {A : Type 0} {k : ℕ} (p q : Parser A) → Fine k p → Fine k q → ((w : List ℕ) (at : Pos) (us : List Token) → is_type_name ns w ≡ false → Shrinks 0 us (p (word w at ∷ us))) → ((w : List ℕ) (at : Pos) (us : List Token) → is_type_name ns w ≡ false → Shrinks 0 us (q (word w at ∷ us)))
      → Fine k (λ ts. cond (read.sees_call ns ts) (p ts) (q ts))
  call_or_fine p q one other gone away = fine_look (read.sees_call ns) one other call_far (λ t r s. call_near p q gone away t.word t.pos r s) (λ c t r s. inl (call_second c t r s))

  -- ---- assignments
  pub before_fine : (t : Update) → Fine 1 (read.before ns n t)
  unfolding read.before
  before_fine t = fine_first fine_takes (λ p. fine_then (place_fine ns n) (λ x. fine_pure (simply.Before t p x)))

  pub compounded_fine : (x : Place) (o : Option Compound) → Fine 0 (read.compounded ns n x o)
  compounded_fine x None = fine_refuse 0
  compounded_fine x (Some op) = fine_then fine_takes (λ p. fine_then (expr_fine ns n) (λ a. fine_pure (simply.Compound x op p a)))

  stuck_or : {A : Type 0} (b : Bool) {p : Parser A} → Fine 0 p → Fine 0 (λ ts. cond b (Stuck ts) (p ts))
  stuck_or true one = fine_refuse 0
  stuck_or false one = one

  pub updated_fine : (star : Bool) (x : Place) (o : Option Update) → Fine 0 (read.updated ns n star x o)
  updated_fine star x None = fine_ahead (λ ts. read.compound_in (mark_at ts)) (λ t r s. ap read.compound_in (mark_ahead t r s)) (read.compounded ns n x) (compounded_fine x)
  updated_fine star x (Some t) = stuck_or star (fine_then fine_takes (λ p. fine_pure (simply.After x t p)))

  update_ahead : Ahead (λ ts. read.update_in (mark_at ts))
  update_ahead t r s = ap read.update_in (mark_ahead t r s)

  pub assigned_fine : (star : Bool) (x : Place) → Fine 0 (read.assigned ns n star x)
  unfolding read.assigned
  assigned_fine star x = fine_if (sees m.Equal) (sees_ahead m.Equal) (fine_then (fine_expect m.Equal) (λ p. fine_then (expr_fine ns n) (λ a. fine_pure (simply.Assign x p a))))
      (fine_ahead (λ ts. read.update_in (mark_at ts)) update_ahead (read.updated ns n star x) (updated_fine star x))

  star_ahead : Ahead begins_with_star
  star_ahead t r s = refl

  pub simple_by_fine : (o : Option Update) → Fine 1 (read.simple_by ns n o)
  simple_by_fine (Some t) = before_fine t
  simple_by_fine None = fine_ahead begins_with_star star_ahead (λ star. read.place ns n >>= read.assigned ns n star) (λ star. fine_first (place_fine ns n) (assigned_fine star))

  pub simple_fine : Fine 1 (read.simple ns n)
  unfolding read.simple
  simple_fine = fine_ahead (λ ts. read.update_in (mark_at ts)) update_ahead (read.simple_by ns n) simple_by_fine

  -- ---- locals
  pub init_fine : (x : Declr) (p : Pos) → Fine 0 (read.init_at ns n >>= (λ i. pure (tree.local_declr x (begins.Init p i))))
  init_fine x p = fine_then (init_at_fine ns n) (λ i. fine_pure (tree.local_declr x (begins.Init p i)))

  pub init_gone : (w : List ℕ) (p : Pos) (us : List Token) → is_type_name ns w ≡ false → Shrinks 0 us (read.init_at ns n (word w p ∷ us))
  init_gone w p us h = init_name ns n w p us h

  pub local_start_fine : (x : Declr) → Fine 0 (read.local_start ns n x)
  unfolding read.local_start
  local_start_fine x = fine_then (fine_expect m.Equal) (λ p. call_or_fine (read.call ns n >>= (λ c. pure (tree.local_declr x (begins.Call p c)))) (read.init_at ns n >>= (λ i. pure (tree.local_declr x (begins.Init p i))))
      (fine_then call_fine (λ c. fine_pure (tree.local_declr x (begins.Call p c)))) (init_fine x p)
      (λ w at us h. shrink_then {j = 0} {k = 0} 0 (omega arith) (λ c. (fine_pure (tree.local_declr x (begins.Call p c))).shrinks) us (call_gone w at us h))
      (λ w at us h. shrink_then {j = 0} {k = 0} 0 (omega arith) (λ i. (fine_pure (tree.local_declr x (begins.Init p i))).shrinks) us (init_gone w at us h)))

  pub local_declr_fine : Fine 1 (read.local_declr ns n)
  unfolding read.local_declr
  local_declr_fine = fine_first (declr_fine ns n) (λ x. fine_if (sees m.Equal) (sees_ahead m.Equal) (local_start_fine x) (fine_pure (tree.local_declr x begins.Nothing)))

  pub local_fine : Fine 1 (read.local ns n)
  unfolding read.local
  local_fine = fine_next (specifiers_fine ns n) (λ t. fine_first (fine_list m.Semicolon local_declr_fine) (λ ds. fine_pure (tree.local t ds)))

-- ---- directives and parts of statements
pub double_bracket_fine : {A : Type 0} (n : ℕ) (p : Parser A) → ((i : ℕ) → n ≡ suc (suc i) → Fine 0 p) → Fine 1 (read.double_bracket n p)
unfolding read.double_bracket
double_bracket_fine n p each = fine_opens_then n m.OpenParen (λ i h a. fine_opens_then (n - 1) m.OpenParen (λ j g b. let two : n ≡ suc (suc j) = omega (arith, h, g) in
    fine_then (each j two) (λ x. fine_then (fine_expect m.CloseParen) (λ c. fine_then (fine_expect m.CloseParen) (λ d. fine_pure x)))))

pub bare_fine : (n : ℕ) (a : Directive) → Fine 1 (read.bare n a)
unfolding read.bare
bare_fine n a = fine_first fine_takes (λ p. double_bracket_fine n (pure a) (λ i h. fine_pure a))

within_two : (ns : Names) (n i : ℕ) → n ≡ suc (suc i) → Fine 0 (within (within (λ n. read.expr ns n)) n)
within_two ns zero i h = cc
within_two ns (suc zero) i h = absurd (omega arith)
within_two ns (suc (suc n)) i h = expr_fine ns n

pub with_expr_fine : (ns : Names) (n : ℕ) (f : Expr → Directive) → Fine 1 (read.with_expr ns n f)
unfolding read.with_expr
with_expr_fine ns n f = fine_first (fine_first fine_takes (λ p. double_bracket_fine n (within (within (λ n. read.expr ns n)) n) (within_two ns n))) (λ a. fine_pure (f a))

pub ended_fine : (p : Parser Directive) → Fine 1 p → Fine 1 (read.ended p)
unfolding read.ended
ended_fine p one = fine_ahead tree.pos_of place_ahead (λ at. p >>= (λ a. expect m.Semicolon >>= (λ _. pure (s.Directive at a)))) (λ at. fine_first one (λ a. fine_then (fine_expect m.Semicolon) (λ q. fine_pure (s.Directive at a))))

pub first_of_fine : (ns : Names) (n : ℕ) → Fine 0 (read.first_of ns n)
unfolding read.first_of read.declares
first_of_fine ns n = fine_if (sees m.Semicolon) (sees_ahead m.Semicolon) (fine_pure first.Nothing)
    (fine_if (begins_type ns) (type_ahead ns)
    (fine_then (specifiers_fine ns n) (λ t. fine_then (declr_fine ns n) (λ x. fine_then (fine_expect m.Equal) (λ p. fine_then (expr_fine ns n) (λ a. fine_pure (first.Declares t x p a))))))
    (fine_then (simple_fine ns n) (λ a. fine_pure (first.Simple a))))

pub expr_before_fine : (ns : Names) (mk : Punct) (n : ℕ) → Fine 0 (read.expr_before ns mk n)
unfolding read.expr_before
expr_before_fine ns mk n = fine_if (sees mk) (sees_ahead mk) (fine_pure None) (fine_then (expr_fine ns n) (λ a. fine_pure (Some a)))

pub simple_before_fine : (ns : Names) (mk : Punct) (n : ℕ) → Fine 0 (read.simple_before ns mk n)
unfolding read.simple_before
simple_before_fine ns mk n = fine_if (sees mk) (sees_ahead mk) (fine_pure None) (fine_then (simple_fine ns n) (λ a. fine_pure (Some a)))

pub condition_fine : (ns : Names) (n : ℕ) → Fine 1 (read.condition ns n)
unfolding read.condition
condition_fine ns n = fine_opens_then n m.OpenParen (λ i h p. fine_then (fine_within (read.expr ns) (expr_fine ns) n i h) (λ a. fine_then (fine_expect m.CloseParen) (λ q. fine_pure a)))

pub label_by_fine : (ns : Names) (n : ℕ) (o : Option Keyword) → Fine 1 (read.label_by ns n o)
unfolding read.case read.default
label_by_fine ns n (Some k.Case) = fine_first fine_takes (λ p. fine_then (expr_fine ns n) (λ a. fine_then (fine_expect m.Colon) (λ q. fine_pure (label.Case p a))))
label_by_fine ns n (Some k.Default) = fine_first fine_takes (λ p. fine_then (fine_expect m.Colon) (λ q. fine_pure (label.Default p)))
label_by_fine ns n o = fine_refuse 1

pub a_label_fine : (ns : Names) (n : ℕ) → Fine 1 (read.a_label ns n)
unfolding read.a_label
a_label_fine ns n = fine_ahead key_at key_ahead (read.label_by ns n) (label_by_fine ns n)

-- ---- statements
pub record IsFine (n : ℕ) (bodies : Bodies) : Type 0 where
  pub stmt : Fine 1 bodies.stmt
  pub items : (i : ℕ) → n ≡ suc i → Fine 0 bodies.items
  pub groups : (i : ℕ) → n ≡ suc i → Fine 0 bodies.groups

pub else_ahead : Ahead begins_with_else
else_ahead t r s = refl

pub label_ahead : Ahead begins_with_label
label_ahead t r s = refl

module _ (ns : Names) (n : ℕ) (bodies : Bodies) (deeper : IsFine n bodies) where
  pub block_fine : Fine 1 (read.block ns n bodies)
  unfolding read.block
  block_fine = fine_opens_then n m.OpenBrace (λ i h p. fine_then (deeper.items i h) (λ is. fine_then (fine_expect m.CloseBrace) (λ q. fine_pure (s.Block (tree.block p is q)))))

  pub empty_fine : Fine 1 (read.empty ns n bodies)
  unfolding read.empty
  empty_fine = fine_first fine_takes (λ p. fine_pure (s.Empty p))

  pub call_stmt_fine : Fine 1 (read.call_stmt ns n bodies)
  unfolding read.call_stmt
  call_stmt_fine = fine_first (call_fine ns n) (λ c. fine_then (fine_expect m.Semicolon) (λ p. fine_pure (s.Call c)))

  gives_tail : (x : Place) (p : Pos) → Fine 1 (read.call ns n >>= (λ c. expect m.Semicolon >>= (λ _. pure (s.Gives x p c))))
  gives_tail x p = fine_first (call_fine ns n) (λ c. fine_then (fine_expect m.Semicolon) (λ q. fine_pure (s.Gives x p c)))

  pub gives_fine : (x : Place) → Fine 0 (read.gives ns n bodies x)
  unfolding read.gives
  gives_fine x = fine_then (fine_expect m.Equal) (gives_tail x)

  simple_tail : (a : Simple) → Fine 0 (expect m.Semicolon >>= (λ _. pure (s.Simple a)))
  simple_tail a = fine_then (fine_expect m.Semicolon) (λ q. fine_pure (s.Simple a))

  pub simple_ended_fine : {k : ℕ} (p : Parser Simple) → Fine k p → Fine k (read.simple_ended ns n bodies p)
  unfolding read.simple_ended
  simple_ended_fine p one = fine_first one simple_tail

  -- whether a call is assigned
  abbrev call_comes : List Token → Bool
  call_comes ts = sees m.Equal ts && read.sees_call ns (after ts)

  comes_far : (c d f : Token) (r s : List Token) → call_comes (c ∷ d ∷ f ∷ r) ≡ call_comes (c ∷ d ∷ f ∷ s)
  unfolding read.sees_call name_at sees
  comes_far c d f r s = refl

  equal_gone : (star : Bool) (x : Place) (p : Pos) (us : List Token) → Shrinks 0 us (read.simple_ended ns n bodies (read.assigned ns n star x) (mark m.Equal p ∷ us))
  unfolding read.simple_ended read.assigned sees same_mark expect
  equal_gone star x p us = (fine_then (fine_then (expr_fine ns n) (λ a. fine_pure (simply.Assign x p a))) simple_tail).shrinks us

  gives_gone : (x : Place) (p : Pos) (us : List Token) → Shrinks 0 us (read.gives ns n bodies x (mark m.Equal p ∷ us))
  unfolding read.gives same_mark expect
  gives_gone x p us = (loosen (gives_tail x p)).shrinks us

  equal_name_gone : (star : Bool) (x : Place) (p : Pos) (w : List ℕ) (q : Pos) (us : List Token) → is_type_name ns w ≡ false → Shrinks 0 us (read.simple_ended ns n bodies (read.assigned ns n star x) (mark m.Equal p ∷ word w q ∷ us))
  unfolding read.simple_ended read.assigned sees same_mark expect
  equal_name_gone star x p w q us h = shrink_then {j = 0} {k = 0} 0 (omega arith) (λ a. (simple_tail a).shrinks) us
      (shrink_then {j = 0} {k = 0} 0 (omega arith) (λ a. (fine_pure (simply.Assign x p a)).shrinks) us (name_expr ns n w q us h))

  gives_name_gone : (x : Place) (p : Pos) (w : List ℕ) (q : Pos) (us : List Token) → is_type_name ns w ≡ false → Shrinks 0 us (read.gives ns n bodies x (mark m.Equal p ∷ word w q ∷ us))
  unfolding read.gives same_mark expect
  gives_name_gone x p w q us h = shrink_then {j = 0} {k = 0} 0 (omega arith) (λ c. (fine_then (fine_expect m.Semicolon) (λ o. fine_pure (s.Gives x p c))).shrinks) us (call_gone ns n w q us h)

  abbrev BothGone : Bool → Place → List Token → List Token → Type 0
  BothGone star x ts us = Shrinks 0 us (read.gives ns n bodies x ts) × Shrinks 0 us (read.simple_ended ns n bodies (read.assigned ns n star x) ts)

  comes_near : (star : Bool) (x : Place) (w : Word) (p : Pos) (r s : List Token) → let t : Token = record { word = w; pos = p } in (call_comes (t ∷ r) ≡ call_comes (t ∷ s)) ⊎ BothGone star x (t ∷ r) r
  unfolding sees same_mark
  comes_near star x (Mark m.Equal) p r s = inr (gives_gone x p r, equal_gone star x p r)
  comes_near star x w p r s = inl refl

  type_comes : (p : Pos) (w : List ℕ) (q : Pos) (us : List Token) → is_type_name ns w ≡ true → call_comes (mark m.Equal p ∷ word w q ∷ us) ≡ false
  unfolding sees same_mark
  type_comes p w q us h = type_call ns n w q us h

  comes_word : (star : Bool) (x : Place) (p : Pos) (w : List ℕ) (q : Pos) (r s : List Token) (y : Bool) → is_type_name ns w ≡ y
      → (call_comes (mark m.Equal p ∷ word w q ∷ r) ≡ call_comes (mark m.Equal p ∷ word w q ∷ s)) ⊎ BothGone star x (mark m.Equal p ∷ word w q ∷ r) r
  comes_word star x p w q r s true h = inl (type_comes p w q r h ∙ sym (type_comes p w q s h))
  comes_word star x p w q r s false h = inr (gives_name_gone x p w q r h, equal_name_gone star x p w q r h)

  comes_name : (star : Bool) (x : Place) (p : Pos) (w : Word) (q : Pos) (r s : List Token) → let t : Token = record { word = w; pos = q } in (call_comes (mark m.Equal p ∷ t ∷ r) ≡ call_comes (mark m.Equal p ∷ t ∷ s)) ⊎ BothGone star x (mark m.Equal p ∷ t ∷ r) r
  unfolding sees same_mark read.sees_call name_at
  comes_name star x p (Name w) q r s = comes_word star x p w q r s (is_type_name ns w) refl
  comes_name star x p (Number v u l d) q r s = inl refl
  comes_name star x p (Key j) q r s = inl refl
  comes_name star x p (Mark j) q r s = inl refl

  comes_second : (star : Bool) (x : Place) (w : Word) (p : Pos) (t : Token) (r s : List Token) → let c : Token = record { word = w; pos = p } in (call_comes (c ∷ t ∷ r) ≡ call_comes (c ∷ t ∷ s)) ⊎ BothGone star x (c ∷ t ∷ r) r
  unfolding sees same_mark
  comes_second star x (Mark m.Equal) p t r s = comes_name star x p t.word t.pos r s
  comes_second star x w p t r s = inl refl

  pub assigned_stmt_fine : (star : Bool) (x : Place) → Fine 0 (read.assigned_stmt ns n bodies star x)
  unfolding read.assigned_stmt
  assigned_stmt_fine star x = fine_look call_comes (gives_fine x) (simple_ended_fine (read.assigned ns n star x) (assigned_fine ns n star x)) comes_far
      (λ t r s. comes_near star x t.word t.pos r s) (λ c t r s. comes_second star x c.word c.pos t r s)

  placed_other : Fine 1 (λ ts. (read.place ns n >>= read.assigned_stmt ns n bodies (begins_with_star ts)) ts)
  placed_other = fine_ahead begins_with_star (star_ahead ns n) (λ star. read.place ns n >>= read.assigned_stmt ns n bodies star) (λ star. fine_first (place_fine ns n) (assigned_stmt_fine star))

  pub placed_fine : Fine 1 (read.placed ns n bodies)
  unfolding read.placed read.call_stmt
  placed_fine = call_or_fine ns n (read.call_stmt ns n bodies) (λ ts. (read.place ns n >>= read.assigned_stmt ns n bodies (begins_with_star ts)) ts) call_stmt_fine placed_other
      (λ w at us h. shrink_then {j = 0} {k = 0} 0 (omega arith) (λ c. (fine_then (fine_expect m.Semicolon) (λ p. fine_pure (s.Call c))).shrinks) us (call_gone ns n w at us h))
      (λ w at us h. shrink_then {j = 0} {k = 0} 0 (omega arith) (λ x. (assigned_stmt_fine false x).shrinks) us (name_place ns n w at us h))

  pub if_with_fine : (p : Pos) (c : Expr) (a : Stmt) → Fine 0 (read.if_with ns n bodies p c a)
  if_with_fine p c a = fine_if begins_with_else else_ahead (fine_then fine_takes (λ q. fine_then deeper.stmt (λ b. fine_pure (s.IfElse p c a b)))) (fine_pure (s.If p c a))

  pub if_fine : Fine 1 (read.if_stmt ns n bodies)
  unfolding read.if_stmt
  if_fine = fine_first fine_takes (λ p. fine_then (condition_fine ns n) (λ c. fine_then deeper.stmt (λ a. if_with_fine p c a)))

  pub while_fine : Fine 1 (read.while_stmt ns n bodies)
  unfolding read.while_stmt
  while_fine = fine_first fine_takes (λ p. fine_then (condition_fine ns n) (λ c. fine_then deeper.stmt (λ a. fine_pure (s.While p c a))))

  pub while_by_fine : (o : Option Keyword) → Fine 1 (read.while_by ns n bodies o)
  while_by_fine (Some k.While) = fine_takes
  while_by_fine o = fine_refuse 1

  pub expect_while_fine : Fine 1 (read.expect_while ns n bodies)
  unfolding read.expect_while
  expect_while_fine = fine_ahead key_at key_ahead (read.while_by ns n bodies) while_by_fine

  pub do_fine : Fine 1 (read.do_stmt ns n bodies)
  unfolding read.do_stmt
  do_fine = fine_first fine_takes (λ p. fine_then deeper.stmt (λ a. fine_then expect_while_fine (λ q. fine_then (condition_fine ns n) (λ c. fine_then (fine_expect m.Semicolon) (λ r. fine_pure (s.DoWhile p a c))))))

  pub for_fine : Fine 1 (read.for_stmt ns n bodies)
  unfolding read.for_stmt
  for_fine =
      fine_first fine_takes (λ p.
      fine_opens_then n m.OpenParen (λ i h o.
      fine_then (fine_within (read.first_of ns) (first_of_fine ns) n i h) (λ f.
      fine_then (fine_expect m.Semicolon) (λ q.
      fine_then (fine_within (read.expr_before ns m.Semicolon) (expr_before_fine ns m.Semicolon) n i h) (λ c.
      fine_then (fine_expect m.Semicolon) (λ r.
      fine_then (fine_within (read.simple_before ns m.CloseParen) (simple_before_fine ns m.CloseParen) n i h) (λ x.
      fine_then (fine_expect m.CloseParen) (λ t.
      fine_then deeper.stmt (λ a.
      fine_pure (s.For p f c x a))))))))))

  pub switch_fine : Fine 1 (read.switch_stmt ns n bodies)
  unfolding read.switch_stmt
  switch_fine =
      fine_first fine_takes (λ p.
      fine_then (condition_fine ns n) (λ c.
      fine_opens_then n m.OpenBrace (λ i h o.
      fine_then (deeper.groups i h) (λ gs.
      fine_then (fine_expect m.CloseBrace) (λ q.
      fine_pure (s.Switch p c gs))))))

  pub break_fine : Fine 1 (read.break ns n bodies)
  unfolding read.break
  break_fine = fine_first fine_takes (λ p. fine_then (fine_expect m.Semicolon) (λ q. fine_pure (s.Break p)))

  pub return_fine : Fine 1 (read.return ns n bodies)
  unfolding read.return
  return_fine = fine_first fine_takes (λ p. fine_then (expr_before_fine ns m.Semicolon n) (λ a. fine_then (fine_expect m.Semicolon) (λ q. fine_pure (s.Return p a))))

  pub mark_stmt_fine : (o : Option Punct) → Fine 1 (read.mark_stmt ns n bodies o)
  mark_stmt_fine (Some m.OpenBrace) = block_fine
  mark_stmt_fine (Some m.Semicolon) = empty_fine
  mark_stmt_fine (Some m.PlusPlus) = simple_ended_fine (read.simple ns n) (simple_fine ns n)
  mark_stmt_fine (Some m.MinusMinus) = simple_ended_fine (read.simple ns n) (simple_fine ns n)
  mark_stmt_fine o = placed_fine

  pub stmt_by_fine : (o : Option Keyword) → Fine 1 (read.stmt_by ns n bodies o)
  stmt_by_fine None = fine_ahead mark_at mark_ahead (read.mark_stmt ns n bodies) mark_stmt_fine
  stmt_by_fine (Some k.If) = if_fine
  stmt_by_fine (Some k.While) = while_fine
  stmt_by_fine (Some k.Do) = do_fine
  stmt_by_fine (Some k.For) = for_fine
  stmt_by_fine (Some k.Switch) = switch_fine
  stmt_by_fine (Some k.Break) = break_fine
  stmt_by_fine (Some k.Return) = return_fine
  stmt_by_fine (Some k.WaitForClock) = ended_fine (read.bare n d.Wait) (bare_fine n d.Wait)
  stmt_by_fine (Some k.Partition) = ended_fine (read.bare n d.Partition) (bare_fine n d.Partition)
  stmt_by_fine (Some k.KnownFact) = ended_fine (read.with_expr ns n d.KnownFact) (with_expr_fine ns n d.KnownFact)
  stmt_by_fine (Some k.Assert) = ended_fine (read.with_expr ns n d.Assert) (with_expr_fine ns n d.Assert)
  stmt_by_fine (Some w) = fine_refuse 1

  pub stmt_fine : Fine 1 (read.stmt ns n bodies)
  unfolding read.stmt
  stmt_fine = fine_ahead key_at key_ahead (read.stmt_by ns n bodies) stmt_by_fine

  pub block_item_fine : (one : Parser Stmt) → Fine 1 one → Fine 1 (read.block_item ns n bodies one)
  unfolding read.block_item
  block_item_fine one each = fine_if (begins_type ns) (type_ahead ns) (fine_first (local_fine ns n) (λ l. fine_pure (item.Local l))) (fine_first each (λ a. fine_pure (item.Stmt a)))

  pub close_ahead : Ahead (read.no_close)
  unfolding sees
  close_ahead t r s = refl

  pub block_items_fine : (one : Parser Stmt) → Fine 1 one → Fine 0 (read.block_items ns n bodies one)
  unfolding read.block_items
  block_items_fine one each = fine_many read.no_close close_ahead (block_item_fine one each)

  pub goes_on_ahead : Ahead (read.goes_on ns n bodies)
  unfolding sees
  goes_on_ahead t r s = refl

  pub a_group_fine : Fine 1 (read.a_group ns n bodies)
  unfolding read.a_group
  a_group_fine = fine_first (a_label_fine ns n) (λ l. fine_then (fine_many begins_with_label label_ahead (a_label_fine ns n)) (λ ls. fine_then (fine_many (read.goes_on ns n bodies) goes_on_ahead deeper.stmt) (λ ss. fine_pure (tree.group (l ∷ ls) ss))))

  pub groups_fine : Fine 0 (read.groups ns n bodies)
  unfolding read.groups
  groups_fine = fine_many begins_with_label label_ahead a_group_fine

pub begins_ahead : (ns : Names) → Ahead (read.begins_stmt ns)
unfolding read.begins_stmt key_at mark_at name_at
begins_ahead ns t r s = refl
