-- Where a source is refused some text goes on, and none with the token there.
use Rattle.std.proofs.Common.{◌≡◌, ℕ, zero, suc, ◌+◌, ◌≤◌, ◌<◌, List, [], ◌∷◌, ◌++◌, Bool, true, false, cond, refl, sym, ap, ◌∙◌, subst, length, append_assoc, arith, ◌⊎◌, inl, inr, Option, Some, None}
use Rattle.sa_base.specs.declared.pos.Pos.{Pos}
use Rattle.sa_tokens.specs.declared.keyword.Keyword.{Keyword}
use Rattle.sa_tokens.specs.declared.keyword.Keyword.TheVariants as k
use Rattle.sa_tokens.specs.declared.punct.Punct.{Punct}
use Rattle.sa_tokens.specs.declared.punct.Punct.TheVariants as m
use Rattle.sa_tokens.specs.declared.token.Word.{Word}
use Rattle.sa_tokens.specs.declared.token.Word.TheVariants.{Name, Number, Key, Mark}
use Rattle.sa_tokens.specs.declared.token.Token.{Token}
use Rattle.sa_syntax.specs.declared.decl.Name.{Name as Named}
use Rattle.sa_syntax.specs.declared.decl.Specifiers.{Specifiers}
use Rattle.sa_syntax.specs.declared.decl.Base.{Base}
use Rattle.sa_syntax.specs.declared.decl.Struct.{Struct}
use Rattle.sa_syntax.specs.declared.decl.Start.TheVariants as start
use Rattle.sa_syntax.specs.declared.unit.Param.{Param}
use Rattle.sa_syntax.specs.declared.unit.Params.{Params}
use Rattle.sa_syntax.specs.declared.unit.Params.TheVariants as given
use Rattle.sa_syntax.specs.declared.unit.Item.{Item}
use Rattle.sa_syntax.specs.declared.unit.Item.TheVariants as top
use Rattle.sa_syntax.specs.declared.unit.Unit.{Unit as Source}
use Rattle.sa_syntax.specs.Trees as tree
use Rattle.sa_syntax.specs.Words.{Names, mark, key, word, named, is_void, is_close, is_void_alone}
use Rattle.sa_syntax.specs.Expressions.{Specifiers', Qualifiers, ScalarWords, Base', Struct', Declr', Bounds}
use Rattle.sa_syntax.specs.Statements.{all_named, InitDeclr', InitDeclrs, Param', ParamList, Params', Starred, Nameable, Outermost, Units, Tree}
use Rattle.sa_syntax.specs.Reading.{Read, Got, Stuck, Deep, and_then, sees, after, expect, name_at, key_at, turns, ◌>>=◌}
use Rattle.sa_syntax.specs.Refusals.{BeginsNone, HasNoTree}
use Rattle.sa_syntax.specs.ReadExpr.{is_some}
use Rattle.sa_syntax.specs.ReadStmt as read
use Rattle.sa_syntax.specs.ReadStmt.{takes, within, list}
use Rattle.sa_syntax.proofs.NearStmt.{sources_agree}
use Rattle.sa_syntax.proofs.StmtShorter.{param-shorter}
use Rattle.sa_syntax.proofs.UnitSound.{bare_struct}
use Rattle.sa_syntax.proofs.UnitComplete.{source-complete}
use Rattle.sa_syntax.proofs.DeepLemmas.{Shrinks, Local, shorter}
use Rattle.sa_syntax.proofs.DeepUnit as fine
use Rattle.sa_syntax.proofs.ClosingExpr.{spot, close, letter, letter_declr}
use Rattle.sa_syntax.proofs.EndsLemmas.{Ends, Some', done, halts, ends_if, ends_map, seq, seq_with, seq_front, expect_then, name_then, key_then, seen_then, opens_or, opens_again, EndsAt, list_ends, placed_ends}
use Rattle.sa_syntax.proofs.EndsExpr.{both_true, first_word, rest_of}
use Rattle.sa_syntax.proofs.EndsStmt as ends
use Rattle.sa_syntax.proofs.EndsBodies.{outermost_ends}

-- ---- parameters
star_ends : (n : ℕ) (ts : List Token) → Ends n (λ _ ts x us. Starred ts x us) (Some' (λ _ ts x us. Starred ts x us)) ts (cond (sees m.Star ts) (and_then (expect m.Star ts) (λ p us. Got (Some p) us)) (Got None ts))
star_ends n ts = ends_if (sees m.Star ts) (λ h. expect_then m.Star ts [] (λ r z l. (Some spot, Starred.star)) (λ p us. done (λ r zs l f. Starred.star))) (λ h. done (λ r zs l f. Starred.no_star))

param_ends : (ns : Names) (n : ℕ) (ts : List Token) → Ends n (Param' ns) (Some' (Param' ns)) ts (read.param ns n ts)
unfolding read.param
param_ends ns n ts = seq (ends.specifiers_ends ns n ts) [] (λ r ss z l e. (tree.param (e.0) None None, Param'.param (e.1) Starred.no_star Nameable.no_name)) (λ t us.
    seq (star_ends n us) [] (λ r vs z l e ss i. (tree.param t (e.0) None, Param'.param i (e.1) Nameable.no_name)) (λ x vs. ends_if (is_some (name_at vs))
    (λ h. name_then _ vs [] (λ r z l us e ss i. (tree.param t x (Some (named letter spot)), Param'.param i e Nameable.name)) (λ w p ws. done (λ r zs l f us e ss i. Param'.param i e Nameable.name)))
    (λ h. done (λ r zs l f us e ss i. Param'.param i e Nameable.no_name))))

two_shorter : {ns : Names} {n : ℕ} {ts : List Token} {ps : List Param} {us : List Token} → ParamList ns n ts ps us → length us + 2 ≤ length ts
two_shorter (ParamList.last_param p) = let x = param-shorter p in omega (arith, x)
two_shorter (ParamList.next_param p ps) = let x = param-shorter p in let y = two_shorter ps in omega (arith, x, y)

void-front : (b us vs ts : List Token) → ts ≡ b ++ us → length us + 2 ≤ length ts → is_void_alone (b ++ vs) ≡ is_void_alone ts
unfolding is_void_alone
void-front [] us vs ts e h = let n : length ts ≡ length us = ap length e in absurd (omega (arith, n, h))
void-front (x ∷ []) us vs ts e h = let n : length ts ≡ length (x ∷ us) = ap length e in absurd (omega (arith, n, h))
void-front (x ∷ y ∷ b) us vs ts e h = sym (ap is_void_alone e)

void_base : (ns : Names) (r : ℕ) (p : Pos) (us : List Token) (x : Base) (vs : List Token) → Base' ns r (key k.Void p ∷ us) x vs → vs ≡ us
void_base ns r p us _ vs (Base'.scalar (ScalarWords.scalar_word h i)) = cc
void_base ns r p us _ _ Base'.void = refl
void_base ns r p us _ vs (Base'.structure i) = elim i [ ]

void_type : (ns : Names) (r : ℕ) (p : Pos) (us : List Token) (t : Specifiers) (vs : List Token) → Specifiers' ns r (key k.Void p ∷ us) t vs → vs ≡ us
void_type ns r p us _ vs (Specifiers'.specifiers {b = x} Qualifiers.no_qualifier i) = void_base ns r p us x vs i
void_type ns r p us _ vs (Specifiers'.specifiers (Qualifiers.qualifier h j) i) = cc

param_end : (q : Pos) (us vs ws : List Token) (x : Option Pos) (y : Option Named) → Starred (mark m.CloseParen q ∷ us) x vs → Nameable vs y ws → ws ≡ mark m.CloseParen q ∷ us
param_end q us _ _ _ _ Starred.no_star Nameable.no_name = refl

void_param : (ns : Names) (r : ℕ) (p q : Pos) (us : List Token) (x : Param) (vs : List Token) → Param' ns r (key k.Void p ∷ mark m.CloseParen q ∷ us) x vs → vs ≡ mark m.CloseParen q ∷ us
void_param ns r p q us _ vs (Param'.param {us = ts} {vs = ws} {t = t} {s = x} {x = y} i j o) =
    let e = void_type ns r p (mark m.CloseParen q ∷ us) t ts i in
    param_end q us ws vs x y (subst (λ z. Starred z x ws) e j) o

void_list : (ns : Names) (r : ℕ) (p q : Pos) (us : List Token) (ps : List Param) (vs : List Token) → ParamList ns r (key k.Void p ∷ mark m.CloseParen q ∷ us) ps vs → vs ≡ us
void_list ns r p q us _ vs (ParamList.last_param {q = o} {p = x} i) = rest_of (mark m.CloseParen o) (mark m.CloseParen q) vs us (void_param ns r p q us x (mark m.CloseParen o ∷ vs) i)
void_list ns r p q us _ vs (ParamList.next_param {us = ts} {q = o} {p = x} i j) = let words = first_word (mark m.Comma o) (mark m.CloseParen q) ts us (void_param ns r p q us x (mark m.Comma o ∷ ts) i) in cc

data IsVoid : List Token → Type 0 where
  void_close : {p q : Pos} {rest : List Token} → IsVoid (key k.Void p ∷ mark m.CloseParen q ∷ rest)

close_mark : (j : Punct) → is_close (Mark j) ≡ true → j ≡ m.CloseParen
close_mark m.CloseParen h = refl
close_mark j h = cc

close_word : (v : Word) → is_close v ≡ true → v ≡ Mark m.CloseParen
close_word (Mark j) h = ap Mark (close_mark j h)
close_word (Name w) h = cc
close_word (Number v u l d) h = cc
close_word (Key j) h = cc

void_key : (j : Keyword) → is_void (Key j) ≡ true → j ≡ k.Void
void_key k.Void h = refl
void_key j h = cc

void_word : (v : Word) → is_void v ≡ true → v ≡ Key k.Void
void_word (Key j) h = ap Key (void_key j h)
void_word (Name w) h = cc
void_word (Number v u l d) h = cc
void_word (Mark j) h = cc

void_both : (v x : Word) (p q : Pos) (rest : List Token) → v ≡ Key k.Void → x ≡ Mark m.CloseParen → IsVoid ((record { word = v; pos = p }) ∷ (record { word = x; pos = q }) ∷ rest)
void_both v x p q rest e f = subst (λ (y : Word). IsVoid ((record { word = y; pos = p }) ∷ (record { word = x; pos = q }) ∷ rest)) (sym e) (subst (λ (y : Word). IsVoid (key k.Void p ∷ (record { word = y; pos = q }) ∷ rest)) (sym f) IsVoid.void_close)

void-is : (ts : List Token) → is_void_alone ts ≡ true → IsVoid ts
unfolding is_void_alone
void-is [] h = cc
void-is (t ∷ []) h = let g = both_true (is_void t.word) false h in cc
void-is (t ∷ x ∷ ts) h = let g = both_true (is_void t.word) (is_close x.word) h in void_both t.word x.word t.pos x.pos ts (void_word t.word (g.0)) (close_word x.word (g.1))

void_or : (ns : Names) (r : ℕ) (ss : List Token) (ps : List Param) (us : List Token) → ParamList ns r ss ps us → IsVoid ss → Some' (Params' ns) r ss us
void_or ns r _ ps us i (IsVoid.void_close {p} {q} {rest}) =
    let e : us ≡ rest = void_list ns r p q rest ps us i in
    (given.Void, subst (λ z. Params' ns r (key k.Void p ∷ mark m.CloseParen q ∷ rest) given.Void z) (sym e) Params'.void)

params_or : (ns : Names) (r : ℕ) (ss : List Token) (ps : List Param) (us : List Token) → ParamList ns r ss ps us → Some' (Params' ns) r ss us
params_or ns r ss ps us i = by_test (is_void_alone ss) refl
  where
    by_test : (x : Bool) → is_void_alone ss ≡ x → Some' (Params' ns) r ss us
    by_test true h = void_or ns r ss ps us i (void-is ss h)
    by_test false h = (given.List ps, Params'.list i h)

void_ends : (ns : Names) (n : ℕ) (ts : List Token) → IsVoid ts → Ends n (Params' ns) (Some' (Params' ns)) ts (Got given.Void (after (after ts)))
void_ends ns n _ (IsVoid.void_close {p} {q} {rest}) = EndsAt.got (key k.Void p ∷ mark m.CloseParen q ∷ []) refl (λ r vs l f. Params'.void)

params_ends : (ns : Names) (n : ℕ) (ts : List Token) → Ends n (Params' ns) (Some' (Params' ns)) ts (read.params ns n ts)
unfolding read.params
params_ends ns n ts = ends_if (sees m.CloseParen ts) (λ h. seen_then m.CloseParen (λ us. Got given.Empty us) ts h (λ p us e. done (λ r zs l f. Params'.empty))) (λ h. ends_if (is_void_alone ts)
    (λ g. void_ends ns n ts (void-is ts g))
    (λ g. seq_front (list_ends n (Param' ns) (ParamList ns) m.CloseParen (read.param ns n) (λ r ts x p us i. ParamList.last_param i) (λ r ts x p us xs vs i go. ParamList.next_param i go) (param_ends ns n) ts) []
    (λ r ss z l e. params_or ns r ss (e.0) z (e.1)) (λ ps b us e f i. done (λ r zs l o j. Params'.list j (void-front b us zs ts f (two_shorter i) ∙ g)))))

-- ---- items
abbrev InFront : Names → ℕ → List Token → Item → List Token → Type 0
InFront ns r ts x us = (is : List Item) → Units (read.names_after ns x) r us is → Units ns r ts (x ∷ is)

-- behind the type
abbrev Typed : Names → Specifiers → ℕ → List Token → Item → List Token → Type 0
Typed ns t r us x vs = (ss : List Token) → Specifiers' ns r ss t us → InFront ns r ss x vs

abbrev SomeTyped : Names → Specifiers → ℕ → List Token → List Token → Type 0
SomeTyped ns t r us z = (ss : List Token) → Specifiers' ns r ss t us → Some' (InFront ns) r ss z

module _ (ns : Names) (n : ℕ) where
  proto_or_ends : (i : ℕ) (t : Specifiers) (w : List ℕ) (p q : Pos) (ps : Params) (ts : List Token)
      → Ends i (λ r vs x ws. (xs : List Token) → Params' ns r xs ps vs → (ss : List Token) → Specifiers' ns (suc r) ss t (word w p ∷ mark m.OpenParen q ∷ xs) → InFront ns (suc r) ss x ws)
      (λ r vs z. (xs : List Token) → Params' ns r xs ps vs → (ss : List Token) → Specifiers' ns (suc r) ss t (word w p ∷ mark m.OpenParen q ∷ xs) → Some' (InFront ns) (suc r) ss z) ts (read.ends ns (suc i) t (named w p) ps ts)
  unfolding read.ends read.body
  proto_or_ends i t w p q ps ts = ends_if (sees m.Semicolon ts)
      (λ h. seen_then m.Semicolon (λ us. Got (top.Proto t (named w p) ps) us) ts h (λ o us e. done (λ r zs l f xs j ss c is go. Units.proto c j go)))
      (λ h. ends_if (all_named ps)
      (λ g. opens_again i m.OpenBrace ts (close m.CloseBrace ∷ []) (λ r z l xs j ss c. (top.Func t (named w p) ps (tree.block spot [] spot), λ is go. Units.func c j g Outermost.no_item go)) (λ o us.
      seq (outermost_ends ns i us) (close m.CloseBrace ∷ []) (λ r vs z l e xs j ss c. (top.Func t (named w p) ps (tree.block o (e.0) spot), λ is go. Units.func c j g (e.1) go)) (λ bs vs.
      expect_then m.CloseBrace vs [] (λ r z l us e xs j ss c. (top.Func t (named w p) ps (tree.block o bs spot), λ is go. Units.func c j g e go)) (λ u ws. done (λ r zs l f us e xs j ss c is go. Units.func c j g e go)))))
      (λ g. halts (close m.Semicolon) [] (refl, refl) (λ r z l xs j ss c. (top.Proto t (named w p) ps, λ is go. Units.proto c j go))))

  function_ends : (t : Specifiers) (ts : List Token) → Ends n (Typed ns t) (SomeTyped ns t) ts (read.function ns n t ts)
  unfolding read.function
  function_ends t ts = name_then _ ts (close m.Semicolon ∷ []) (λ r z l ss i. (top.Global t (tree.init_declr letter_declr start.Nothing ∷ []), λ is go. Units.global i (InitDeclrs.last_init_declr (InitDeclr'.plain (Declr'.declr Bounds.no_bound))) go)) (λ w p us.
      opens_or (λ n _. within (read.params ns) n >>= (λ ps. read.ends ns n t (named w p) ps)) n m.OpenParen us (λ g. halts (close m.Semicolon) [] (refl, refl) (λ r z l ss i. (top.Global t (tree.init_declr (tree.declr (named w p) []) start.Nothing ∷ []), λ is go. Units.global i (InitDeclrs.last_init_declr (InitDeclr'.plain (Declr'.declr Bounds.no_bound))) go))) (λ i h q vs.
      seq (params_ends ns i vs) (close m.Semicolon ∷ []) (λ r xs z l e ss c. (top.Proto t (named w p) (e.0), λ is go. Units.proto c (e.1) go)) (λ ps ws. proto_or_ends i t w p q ps ws)))

  global_ends : (t : Specifiers) (ts : List Token) → Ends n (Typed ns t) (SomeTyped ns t) ts (read.global ns n t ts)
  unfolding read.global
  global_ends t ts = seq (list_ends n (InitDeclr' ns) (InitDeclrs ns) m.Semicolon (read.init_declr ns n) (λ r ts x p us i. InitDeclrs.last_init_declr i) (λ r ts x p us xs vs i go. InitDeclrs.next_init_declr i go) (ends.init_declr_ends ns n) ts) []
      (λ r us z l e ss i. (top.Global t (e.0), λ is go. Units.global i (e.1) go)) (λ ds us. done (λ r zs l f vs e ss i is go. Units.global i e go))

  named_item_ends : (t : Specifiers) (ts : List Token) → Ends n (Typed ns t) (SomeTyped ns t) ts (read.named_item ns n t ts)
  unfolding read.named_item
  named_item_ends t ts = ends_if (read.sees_function ts) (λ h. function_ends t ts) (λ h. global_ends t ts)

  struct_or_ends : (p : Pos) (t : Specifiers) (o : Option Struct) (ts : List Token) → read.struct_of t ≡ o
      → Ends n (λ r us x vs. (ss : List Token) → Specifiers' ns r ss t us → p ≡ tree.pos_of ss → InFront ns r ss x vs) (SomeTyped ns t) ts (read.struct_or ns n p t o ts)
  struct_or_ends p t None ts h = ends_map (λ r us x vs g ss i e. g ss i) (λ r us z g. g) (named_item_ends t ts)
  struct_or_ends p t (Some x) ts h = ends_if (sees m.Semicolon ts)
      (λ g. seen_then m.Semicolon (λ us. Got (top.Struct p x) us) ts g (λ q us o. done (λ r zs l f ss i e is go. struct_at r ss zs q is e (bare_struct ns r ss (mark m.Semicolon q ∷ zs) t x i h) go)))
      (λ g. ends_map (λ r us x vs g ss i e. g ss i) (λ r us z g. g) (named_item_ends t ts))
    where
      struct_at : (r : ℕ) (ss us : List Token) (q : Pos) (is : List Item) → p ≡ tree.pos_of ss → Struct' ns r ss x (mark m.Semicolon q ∷ us) → Units ns r us is → Units ns r ss (top.Struct p x ∷ is)
      struct_at r ss us q is e i go = subst (λ (z : Pos). Units ns r ss (top.Struct z x ∷ is)) (sym e) (Units.structure i go)

  declared_at : (ts : List Token) → Ends n (λ r ss x us. (tree.pos_of ts ≡ tree.pos_of ss) → InFront ns r ss x us) (Some' (InFront ns)) ts (read.declared ns n ts)
  unfolding read.declared
  declared_at ts = seq (ends.specifiers_ends ns n ts) (word letter spot ∷ close m.Semicolon ∷ []) (λ r ss z l e. (top.Global (e.0) (tree.init_declr letter_declr start.Nothing ∷ []), λ is go. Units.global (e.1) (InitDeclrs.last_init_declr (InitDeclr'.plain (Declr'.declr Bounds.no_bound))) go))
      (λ t us. struct_or_ends (tree.pos_of ts) t (read.struct_of t) us refl)

  declared_far : (ts us : List Token) (x : Item) → read.declared ns n ts ≡ Got x us → length us < length ts
  declared_far ts us x e = let h = shorter (subst (λ z. Shrinks 1 ts z) e ((fine.declared_fine ns n).shrinks ts)) in omega (arith, h)

  declared_ends : (ts : List Token) → Ends n (InFront ns) (Some' (InFront ns)) ts (read.declared ns n ts)
  declared_ends ts = ends_map (λ r us x vs g. g refl) (λ r us z e. e) (placed_ends (λ p r ss x us. (p ≡ tree.pos_of ss) → InFront ns r ss x us) ts (read.declared ns n ts) (λ x us e g. declared_far ts us x e) (declared_at ts))

  typedef_ends : (ts : List Token) → key_at ts ≡ Some k.Typedef → Ends n (InFront ns) (Some' (InFront ns)) ts (read.typedef ns n ts)
  unfolding read.typedef
  typedef_ends ts h = key_then k.Typedef ts h (λ p us. seq (ends.specifiers_ends ns n us) (word letter spot ∷ close m.Semicolon ∷ []) (λ r vs z l e. (top.Typedef p (e.0) (named letter spot), λ is go. Units.typedef (e.1) go)) (λ t vs.
      name_then _ vs (close m.Semicolon ∷ []) (λ r z l us i. (top.Typedef p t (named letter spot), λ is go. Units.typedef i go)) (λ w q ws.
      expect_then m.Semicolon ws [] (λ r z l us i. (top.Typedef p t (named w q), λ is go. Units.typedef i go)) (λ o xs. done (λ r zs l f us i is go. Units.typedef i go)))))

  item_by_ends : (o : Option Keyword) (ts : List Token) → key_at ts ≡ o → Ends n (InFront ns) (Some' (InFront ns)) ts (read.item_by ns n o ts)
  item_by_ends (Some k.Typedef) ts h = typedef_ends ts h
  item_by_ends o ts h = declared_ends ts

  an_item_ends : (ts : List Token) → Ends n (InFront ns) (Some' (InFront ns)) ts (read.an_item ns n ts)
  unfolding read.an_item
  an_item_ends ts = item_by_ends (key_at ts) ts refl

-- ---- sources
-- any result
abbrev Anything : ℕ → List Token → List Item → List Token → Type 0
Anything r ts is us = Unit {0}

-- a whole source, where nothing follows
abbrev pub Whole : Names → ℕ → List Token → List Token → Type 0
Whole ns r ts rest = rest ≡ [] → (is : List Item) × Units ns r ts is

items_ends : (n left : ℕ) (ns : Names) (found : List Item) (ts : List Token) → length ts < left → Ends n Anything (Whole ns) ts (read.items_from n left ns found ts)
unfolding read.items_from
items_ends n zero ns found ts h = absurd (omega (arith, h))
items_ends n (suc left) ns found [] h = done (λ r zs l f. tt)
items_ends n (suc left) ns found (t ∷ ts) h = seq_with (an_item_ends ns n (t ∷ ts)) [] (λ r ss z l e g. (e.0 ∷ [], e.1 [] (subst (λ x. Units (read.names_after ns (e.0)) r x []) (sym g) Units.end))) (λ x us e l i.
    let c = shorter (subst (λ z. Shrinks 1 (t ∷ ts) z) e ((fine.an_item_fine ns n).shrinks (t ∷ ts))) in
    ends_map (λ r vs a ws g ss j. tt) (λ r vs z go ss j g. let y = go g in (x ∷ y.0, j (y.0) (y.1))) (items_ends n left (read.names_after ns x) (found ++ x ∷ []) us (omega (arith, c, h))))

pub source_ends : (n : ℕ) (ts : List Token) → Ends n (λ r ts u us. Unit {0}) (Whole []) ts (read.source n ts)
unfolding read.source
source_ends n ts = seq (items_ends n (turns ts) [] [] ts (omega arith)) [] (λ r ss z l g. g) (λ is us. done (λ r zs l f ss j. tt))

-- ---- what a refusal says
either : (n more : ℕ) → (n ≤ more) ⊎ (more ≤ n)
either n more = grind arith

less_room : (n more : ℕ) (ts us : List Token) (u : Source) → read.source n ts ≡ Stuck us → read.source more ts ≡ Got u [] → ((vs : List Token) × (read.source n ts ≡ Deep vs)) ⊎ (read.source n ts ≡ read.source more ts) → ⊥
less_room n more ts us u s g (inl d) = let e = sym s ∙ d.1 in cc
less_room n more ts us u s g (inr d) = let e = sym s ∙ d ∙ g in cc

more_room : (n more : ℕ) (ts us : List Token) (u : Source) → read.source n ts ≡ Stuck us → read.source more ts ≡ Got u [] → ((vs : List Token) × (read.source more ts ≡ Deep vs)) ⊎ (read.source more ts ≡ read.source n ts) → ⊥
more_room n more ts us u s g (inl d) = let e = sym g ∙ d.1 in cc
more_room n more ts us u s g (inr d) = let e = sym g ∙ d ∙ s in cc

at_room : (n more : ℕ) (ts us : List Token) (u : Source) → read.source n ts ≡ Stuck us → read.source more ts ≡ Got u [] → (n ≤ more) ⊎ (more ≤ n) → ⊥
at_room n more ts us u s g (inl h) = less_room n more ts us u s g (sources_agree n more h ts)
at_room n more ts us u s g (inr h) = more_room n more ts us u s g (sources_agree more n h ts)

-- what is refused has no tree, however much may be open
pub stuck_none : (n : ℕ) (ts us : List Token) → read.source n ts ≡ Stuck us → HasNoTree ts
stuck_none n ts us e more u x = at_room n more ts us u e (source-complete more ts u x) (either n more)

-- refused at the token, on any text that goes on from it
alike : {A : Type 0} {t : Token} {r s : List Token} (x y : Read A) → Local t r s x y → x ≡ Stuck (t ∷ r) → (us : List Token) × (y ≡ Stuck us)
alike _ _ (Local.got b) e = cc
alike _ _ (Local.deep b) e = cc
alike _ _ (Local.gone h) e = cc
alike _ _ (Local.gone_deep h) e = cc
alike {t = t} {s = s} _ _ (Local.stuck b) e = (b ++ t ∷ s, refl)
alike {t = t} {r = r} (Stuck us) _ (Local.gone_stuck h) e = let g : us ≡ t ∷ r = cc in let l : length us ≡ length (t ∷ r) = ap length g in absurd (omega (arith, h, l))

pub begins_none : (n : ℕ) (b : List Token) (t : Token) (r : List Token) → read.source n (b ++ t ∷ r) ≡ Stuck (t ∷ r) → BeginsNone (b ++ t ∷ [])
begins_none n b t r e more tail u x =
    let same : (b ++ t ∷ []) ++ tail ≡ b ++ t ∷ tail = append_assoc b (t ∷ []) tail in
    let k = alike (read.source n (b ++ t ∷ r)) (read.source n (b ++ t ∷ tail)) ((fine.source_fine n).local b t r tail) e in
    stuck_none n (b ++ t ∷ tail) (k.0) (k.1) more u (subst (λ z. Tree more z u) same x)
