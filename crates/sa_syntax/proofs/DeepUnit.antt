-- Functions and sources are read the same up to a token, whatever follows it.
use Rattle.std.proofs.Common.{◌≡◌, ℕ, zero, suc, ◌<◌, List, [], ◌∷◌, ◌++◌, Bool, true, false, cond, refl, ap, arith, length, ◌⊎◌, inl, inr, Option, Some, None}
use Rattle.sa_base.specs.declared.pos.Pos.{Pos}
use Rattle.sa_tokens.specs.declared.keyword.Keyword.{Keyword}
use Rattle.sa_tokens.specs.declared.keyword.Keyword.TheVariants as k
use Rattle.sa_tokens.specs.declared.punct.Punct.TheVariants as m
use Rattle.sa_tokens.specs.declared.token.Word.{Word}
use Rattle.sa_tokens.specs.declared.token.Word.TheVariants.{Name, Number, Key, Mark}
use Rattle.sa_tokens.specs.declared.token.Token.{Token}
use Rattle.sa_syntax.specs.declared.decl.Name.{Name as Named}
use Rattle.sa_syntax.specs.declared.decl.Specifiers.{Specifiers}
use Rattle.sa_syntax.specs.declared.decl.Struct.{Struct}
use Rattle.sa_syntax.specs.declared.unit.Params.{Params}
use Rattle.sa_syntax.specs.declared.unit.Params.TheVariants as given
use Rattle.sa_syntax.specs.declared.unit.Item.{Item}
use Rattle.sa_syntax.specs.declared.unit.Item.TheVariants as top
use Rattle.sa_syntax.specs.Trees as tree
use Rattle.sa_syntax.specs.Words.{Names, key, word, is_void_alone}
use Rattle.sa_syntax.specs.Statements.{all_named}
use Rattle.sa_syntax.specs.Reading.{Parser, Got, Stuck, sees, after, expect, opens, any_name, name_at, key_at, mark_at, turns, pure, ◌>>=◌}
use Rattle.sa_syntax.specs.ReadExpr.{is_some, inside}
use Rattle.sa_syntax.specs.ReadStmt as read
use Rattle.sa_syntax.specs.ReadStmt.{takes, within, list}
use Rattle.sa_syntax.proofs.DeepLemmas.{Shrinks, Local, Fine, Ahead, loosen, loosen_read, shrink_then, shrink_cond, turn, local_cond, same_first, any_name_gone, as_short, fine_then, fine_first, fine_next, fine_pure, fine_refuse, fine_ahead, fine_if, fine_after, fine_takes, fine_any_name, fine_expect, fine_opens_then, fine_list, list_front, fine_mark_or, fine_within, fine_look, sees_ahead, name_ahead, key_ahead}
use Rattle.sa_syntax.proofs.DeepExpr as expr_fine
use Rattle.sa_syntax.proofs.DeepExpr.{inside_fine, place_ahead}
use Rattle.sa_syntax.proofs.DeepStmt as fine
use Rattle.sa_syntax.proofs.DeepStmt.{IsFine}

-- ---- where no statement may be open
no_stmt_shrinks : (ns : Names) (ts : List Token) → Shrinks 1 ts (read.no_stmt ns ts)
unfolding read.begins_stmt key_at mark_at name_at
no_stmt_shrinks ns [] = Shrinks.stuck [] refl
no_stmt_shrinks ns (t ∷ ts) = shrink_cond (read.begins_stmt ns (t ∷ ts)) (Shrinks.deep [] refl) (Shrinks.stuck [] refl)

pub no_stmt_fine : (ns : Names) → Fine 1 (read.no_stmt ns)
no_stmt_fine ns = record { shrinks = no_stmt_shrinks ns; local = λ b t r s. local_cond (read.begins_stmt ns (b ++ t ∷ r)) (read.begins_stmt ns (b ++ t ∷ s)) (same_first (read.begins_stmt ns) (fine.begins_ahead ns) b t r s) (Local.deep b) (Local.stuck b) }

pub bodies_fine : (ns : Names) (n : ℕ) → IsFine n (read.bodies ns n)
unfolding read.bodies
bodies_fine ns zero = record { stmt = no_stmt_fine ns; items = λ i h. cc; groups = λ i h. cc }
bodies_fine ns (suc n) =
    let below = bodies_fine ns n in
    let one = read.bodies ns n in
    record { stmt = fine.stmt_fine ns n one below; items = λ i h. fine.block_items_fine ns n one below one.stmt below.stmt; groups = λ i h. fine.groups_fine ns n one below }

pub outermost_fine : (ns : Names) (n : ℕ) → Fine 0 (read.outermost ns n)
unfolding read.outermost
outermost_fine ns n = fine.block_items_fine ns n (read.bodies ns n) (bodies_fine ns n) (read.stmt_at ns n) (fine.stmt_fine ns n (read.bodies ns n) (bodies_fine ns n))

-- ---- functions
module _ (ns : Names) (n : ℕ) where
  some_name_ahead : Ahead (λ ts. is_some (name_at ts))
  some_name_ahead t r s = ap is_some (name_ahead t r s)

  param_tail : (t : Specifiers) → Fine 0 ((λ ts. cond (sees m.Star ts) ((expect m.Star >>= (λ p. pure (Some p))) ts) (Got None ts)) >>= (λ star.
      (λ ts. cond (is_some (name_at ts)) ((any_name >>= (λ x. pure (tree.param t star (Some x)))) ts) (Got (tree.param t star None) ts))))
  param_tail t = fine_then (fine_if (sees m.Star) (sees_ahead m.Star) (fine_then (fine_expect m.Star) (λ p. fine_pure (Some p))) (fine_pure None))
      (λ star. fine_if (λ ts. is_some (name_at ts)) some_name_ahead (fine_then fine_any_name (λ x. fine_pure (tree.param t star (Some x)))) (fine_pure (tree.param t star None)))

  pub param_fine : Fine 0 (read.param ns n)
  unfolding read.param
  param_fine = fine_then (fine.specifiers_fine ns n) param_tail

  void_param : (p : Pos) (us : List Token) → Shrinks 0 us (read.param ns n (key k.Void p ∷ us))
  unfolding read.param
  void_param p us = shrink_then {j = 0} {k = 0} 0 (omega arith) (λ t. (param_tail t).shrinks) us (expr_fine.void_type ns n (inside ns n) (inside_fine ns n) p us)

  void_far : (c d f : Token) (r s : List Token) → is_void_alone (c ∷ d ∷ f ∷ r) ≡ is_void_alone (c ∷ d ∷ f ∷ s)
  unfolding is_void_alone
  void_far c d f r s = refl

  void_second : (c d : Token) (r s : List Token) → is_void_alone (c ∷ d ∷ r) ≡ is_void_alone (c ∷ d ∷ s)
  unfolding is_void_alone
  void_second c d r s = refl

  void_gone : (us : List Token) → Shrinks 0 us (Got given.Void (after us))
  void_gone us = (fine_after (fine_pure given.Void)).shrinks us

  void_near : (w : Word) (p : Pos) (r s : List Token) → let t : Token = record { word = w; pos = p } in (is_void_alone (t ∷ r) ≡ is_void_alone (t ∷ s))
      ⊎ (Shrinks 0 r (Got given.Void (after (after (t ∷ r)))) × Shrinks 0 r ((list m.CloseParen (read.param ns n) >>= (λ ps. pure (given.List ps))) (t ∷ r)))
  unfolding is_void_alone
  void_near (Key k.Void) p r s = inr (
    void_gone r,
    shrink_then {j = 0} {k = 0} 0 (omega arith) (λ ps. (fine_pure (given.List ps)).shrinks) r (list_front m.CloseParen (read.param ns n) param_fine (key k.Void p ∷ r) r (void_param p r)),
  )
  void_near w p r s = inl refl

  pub params_fine : Fine 0 (read.params ns n)
  unfolding read.params
  params_fine = fine_if (sees m.CloseParen) (sees_ahead m.CloseParen) (fine_after (fine_pure given.Empty))
      (fine_look is_void_alone (fine_after (fine_after (fine_pure given.Void))) (fine_then (fine_list m.CloseParen param_fine) (λ ps. fine_pure (given.List ps))) void_far
      (λ t r s. void_near t.word t.pos r s) (λ c t r s. inl (void_second c t r s)))

pub params_fine_at : (ns : Names) (n : ℕ) → Fine 0 (read.params ns n)
params_fine_at ns n = params_fine ns n

module _ (ns : Names) (n : ℕ) where
  pub body_fine : (t : Specifiers) (x : Named) (ps : Params) → Fine 0 (read.body ns n t x ps)
  unfolding read.body
  body_fine t x ps = loosen (fine_opens_then n m.OpenBrace (λ i h p. fine_then (fine_within (read.outermost ns) (outermost_fine ns) n i h) (λ is. fine_then (fine_expect m.CloseBrace) (λ q. fine_pure (top.Func t x ps (tree.block p is q))))))

  or_stuck : {A : Type 0} (b : Bool) {p : Parser A} → Fine 0 p → Fine 0 (λ ts. cond b (p ts) (Stuck ts))
  or_stuck true one = one
  or_stuck false one = fine_refuse 0

  pub ends_fine : (t : Specifiers) (x : Named) (ps : Params) → Fine 0 (read.ends ns n t x ps)
  unfolding read.ends
  ends_fine t x ps = fine_if (sees m.Semicolon) (sees_ahead m.Semicolon) (fine_after (fine_pure (top.Proto t x ps))) (or_stuck (all_named ps) (body_fine t x ps))

  function_tail : (t : Specifiers) (x : Named) → Fine 1 (opens n m.OpenParen >>= (λ _. within (read.params ns) n >>= (λ ps. read.ends ns n t x ps)))
  function_tail t x = fine_opens_then n m.OpenParen (λ i h p. fine_then (fine_within (read.params ns) (params_fine_at ns) n i h) (λ ps. ends_fine t x ps))

  pub function_fine : (t : Specifiers) → Fine 1 (read.function ns n t)
  unfolding read.function
  function_fine t = fine_first fine_any_name (function_tail t)

  function_gone : (t : Specifiers) (w : List ℕ) (p : Pos) (us : List Token) → Shrinks 0 us (read.function ns n t (word w p ∷ us))
  unfolding read.function
  function_gone t w p us = shrink_then {j = 0} {k = 0} 0 (omega arith) (λ x vs. loosen_read ((function_tail t x).shrinks vs)) us (any_name_gone w p us)

  -- ---- items
  pub typedef_fine : Fine 1 (read.typedef ns n)
  unfolding read.typedef
  typedef_fine = fine_first fine_takes (λ p. fine_then (fine.specifiers_fine ns n) (λ t. fine_then fine_any_name (λ x. fine_then (fine_expect m.Semicolon) (λ q. fine_pure (top.Typedef p t x)))))

  pub global_fine : (t : Specifiers) → Fine 1 (read.global ns n t)
  unfolding read.global
  global_fine t = fine_first (fine_list m.Semicolon (fine.init_declr_fine ns n)) (λ ds. fine_pure (top.Global t ds))

  global_gone : (t : Specifiers) (w : List ℕ) (p : Pos) (us : List Token) → Shrinks 0 us (read.global ns n t (word w p ∷ us))
  unfolding read.global
  global_gone t w p us = shrink_then {j = 0} {k = 0} 0 (omega arith) (λ ds. (fine_pure (top.Global t ds)).shrinks) us
      (list_front m.Semicolon (read.init_declr ns n) (fine.init_declr_fine ns n) (word w p ∷ us) us (fine.init_declr_gone ns n w p us))

  function_far : (c d f : Token) (r s : List Token) → read.sees_function (c ∷ d ∷ f ∷ r) ≡ read.sees_function (c ∷ d ∷ f ∷ s)
  unfolding read.sees_function name_at sees
  function_far c d f r s = refl

  function_second : (c d : Token) (r s : List Token) → read.sees_function (c ∷ d ∷ r) ≡ read.sees_function (c ∷ d ∷ s)
  unfolding read.sees_function name_at sees
  function_second c d r s = refl

  function_near : (t : Specifiers) (w : Word) (p : Pos) (r s : List Token) → let c : Token = record { word = w; pos = p } in (read.sees_function (c ∷ r) ≡ read.sees_function (c ∷ s))
      ⊎ (Shrinks 0 r (read.function ns n t (c ∷ r)) × Shrinks 0 r (read.global ns n t (c ∷ r)))
  unfolding read.sees_function name_at
  function_near t (Name w) p r s = inr (function_gone t w p r, global_gone t w p r)
  function_near t (Number v u l d) p r s = inl refl
  function_near t (Key j) p r s = inl refl
  function_near t (Mark j) p r s = inl refl

  pub named_item_fine : (t : Specifiers) → Fine 1 (read.named_item ns n t)
  unfolding read.named_item
  named_item_fine t = fine_look read.sees_function (function_fine t) (global_fine t) function_far (λ c r s. function_near t c.word c.pos r s) (λ c d r s. inl (function_second c d r s))

  pub struct_or_fine : (p : Pos) (t : Specifiers) (o : Option Struct) → Fine 1 (read.struct_or ns n p t o)
  struct_or_fine p t None = named_item_fine t
  struct_or_fine p t (Some x) = fine_mark_or m.Semicolon (top.Struct p x) (read.named_item ns n t) (named_item_fine t)

  pub declared_fine : Fine 1 (read.declared ns n)
  unfolding read.declared
  declared_fine = fine_ahead tree.pos_of place_ahead (λ p. read.specifiers ns n >>= (λ t. read.struct_or ns n p t (read.struct_of t))) (λ p. fine_next (fine.specifiers_fine ns n) (λ t. struct_or_fine p t (read.struct_of t)))

  pub item_by_fine : (o : Option Keyword) → Fine 1 (read.item_by ns n o)
  item_by_fine (Some k.Typedef) = typedef_fine
  item_by_fine o = declared_fine

  pub an_item_fine : Fine 1 (read.an_item ns n)
  unfolding read.an_item
  an_item_fine = fine_ahead key_at key_ahead (read.item_by ns n) item_by_fine

-- ---- sources
shrink_items : (n left : ℕ) (ns : Names) (found : List Item) (ts : List Token) → Shrinks 0 ts (read.items_from n left ns found ts)
unfolding read.items_from
shrink_items n zero ns found ts = Shrinks.stuck [] refl
shrink_items n (suc left) ns found [] = Shrinks.got [] refl (omega arith)
shrink_items n (suc left) ns found (t ∷ ts) = shrink_then {j = 1} {k = 0} 0 (omega arith) (λ x us. shrink_items n left (read.names_after ns x) (found ++ x ∷ []) us) (t ∷ ts) ((an_item_fine ns n).shrinks (t ∷ ts))

local_items : (n left more : ℕ) (ns : Names) (found : List Item) (b : List Token) (t : Token) (r s : List Token) → length (b ++ t ∷ r) < left → length (b ++ t ∷ s) < more
    → Local t r s (read.items_from n left ns found (b ++ t ∷ r)) (read.items_from n more ns found (b ++ t ∷ s))
unfolding read.items_from
local_items n zero more ns found b t r s i h = absurd (omega arith)
local_items n (suc left) zero ns found b t r s i h = absurd (omega arith)
local_items n (suc left) (suc more) ns found [] t r s i h =
    turn _ _ 1 (λ x c g. let l = as_short c [] t r s 1 0 (omega (arith, g)) in local_items n left more (read.names_after ns x) (found ++ x ∷ []) c t r s (omega (arith, l, i)) (omega (arith, g, h))) (λ x us. shrink_items n left (read.names_after ns x) (found ++ x ∷ []) us)
    ((an_item_fine ns n).local [] t r s) ((an_item_fine ns n).shrinks (t ∷ s))
local_items n (suc left) (suc more) ns found (d ∷ b) t r s i h =
    turn _ _ 1 (λ x c g. let l = as_short c (d ∷ b) t r s 1 0 (omega (arith, g)) in local_items n left more (read.names_after ns x) (found ++ x ∷ []) c t r s (omega (arith, l, i)) (omega (arith, g, h))) (λ x us. shrink_items n left (read.names_after ns x) (found ++ x ∷ []) us)
    ((an_item_fine ns n).local (d ∷ b) t r s) ((an_item_fine ns n).shrinks (d ∷ b ++ t ∷ s))

pub items_fine : (n : ℕ) → Fine 0 (λ ts. read.items_from n (turns ts) [] [] ts)
items_fine n = record { shrinks = λ ts. shrink_items n (turns ts) [] [] ts; local = λ b t r s. local_items n (turns (b ++ t ∷ r)) (turns (b ++ t ∷ s)) [] [] b t r s (omega arith) (omega arith) }

pub source_fine : (n : ℕ) → Fine 0 (read.source n)
unfolding read.source
source_fine n = fine_then (items_fine n) (λ is. fine_pure (tree.source is))
