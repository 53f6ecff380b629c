-- One step of each rule of the reader of statements, from what its parts read.
use Rattle.std.proofs.Common.{◌≡◌, ℕ, suc, ◌-◌, List, [], ◌∷◌, Bool, true, false, ◌&&◌, Option, Some, refl, ap, ◌∙◌, arith}
use Rattle.sa_base.specs.declared.pos.Pos.{Pos}
use Rattle.sa_tokens.specs.declared.keyword.Keyword.TheVariants as k
use Rattle.sa_tokens.specs.declared.punct.Punct.{Punct}
use Rattle.sa_tokens.specs.declared.punct.Punct.TheVariants as m
use Rattle.sa_tokens.specs.declared.token.Token.{Token}
use Rattle.sa_syntax.specs.declared.expr.Expr.{Expr}
use Rattle.sa_syntax.specs.declared.expr.Place.{Place}
use Rattle.sa_syntax.specs.declared.stmt.Update.{Update}
use Rattle.sa_syntax.specs.declared.stmt.Simple.{Simple}
use Rattle.sa_syntax.specs.declared.stmt.Call.{Call}
use Rattle.sa_syntax.specs.declared.stmt.Directive.TheVariants as d
use Rattle.sa_syntax.specs.declared.stmt.First.{First}
use Rattle.sa_syntax.specs.declared.stmt.Label.{Label}
use Rattle.sa_syntax.specs.declared.stmt.Local.{Local}
use Rattle.sa_syntax.specs.declared.stmt.Stmt.{Stmt}
use Rattle.sa_syntax.specs.declared.stmt.Stmt.TheVariants as s
use Rattle.sa_syntax.specs.declared.stmt.Group.{Group}
use Rattle.sa_syntax.specs.declared.stmt.BlockItem.{BlockItem}
use Rattle.sa_syntax.specs.declared.stmt.BlockItem.TheVariants as item
use Rattle.sa_syntax.specs.Trees as tree
use Rattle.sa_syntax.specs.Words.{Names, mark, key, update_of, begins_with_star, begins_with_else, begins_with_label}
use Rattle.sa_syntax.specs.Expressions.{Place'}
use Rattle.sa_syntax.specs.Statements.{Call', Labels}
use Rattle.sa_syntax.specs.Reading.{Parser, Got, same_mark, sees, after, expect, opens_any, opens, key_at, mark_at}
use Rattle.sa_syntax.specs.ReadExpr.{begins_type}
use Rattle.sa_syntax.specs.ReadStmt as read
use Rattle.sa_syntax.specs.ReadStmt.{Bodies, sees_call, no_close}
use Rattle.sa_syntax.proofs.ReadSteps.{Loops, loop-stops, many-reads}
use Rattle.sa_syntax.proofs.PartsComplete.{label-complete, labels-complete}

-- the second of two brackets
less : (n : ℕ) → suc (suc n) - 1 ≡ suc n
less n = omega arith

module _ (ns : Names) (n : ℕ) (bodies : Bodies) where
  pub block-reads : (ts us : List Token) (p q : Pos) (is : List BlockItem) → bodies.items ts ≡ Got is (mark m.CloseBrace q ∷ us) → read.stmt ns (suc n) bodies (mark m.OpenBrace p ∷ ts) ≡ Got (s.Block (tree.block p is q)) us
  unfolding read.stmt read.block key_at mark_at opens opens_any sees same_mark expect
  block-reads ts us p q is e = rw e refl

  pub empty-reads : (us : List Token) (p : Pos) → read.stmt ns n bodies (mark m.Semicolon p ∷ us) ≡ Got (s.Empty p) us
  unfolding read.stmt read.empty key_at mark_at
  empty-reads us p = refl

  -- ---- what begins with a place or a name
  pub placed-stmt : (ts us vs : List Token) (x : Place) (a : Stmt) → sees_call ns ts ≡ false → read.place ns n ts ≡ Got x us → read.assigned_stmt ns n bodies (begins_with_star ts) x us ≡ Got a vs → read.placed ns n bodies ts ≡ Got a vs
  unfolding read.placed
  placed-stmt ts us vs x a h e i = rw (h, e) i

  pub gives-reads : (star : Bool) (x : Place) (us vs : List Token) (p q : Pos) (c : Call) → sees_call ns us ≡ true → read.call ns n us ≡ Got c (mark m.Semicolon q ∷ vs) → read.assigned_stmt ns n bodies star x (mark m.Equal p ∷ us) ≡ Got (s.Gives x p c) vs
  unfolding read.assigned_stmt read.gives sees same_mark expect
  gives-reads star x us vs p q c h e = rw (h, e) refl

  pub assigned-reads : (star : Bool) (x : Place) (us vs : List Token) (p : Pos) (a : Simple) → (sees m.Equal us && sees_call ns (after us)) ≡ false → read.assigned ns n star x us ≡ Got a (mark m.Semicolon p ∷ vs) → read.assigned_stmt ns n bodies star x us ≡ Got (s.Simple a) vs
  unfolding read.assigned_stmt read.simple_ended same_mark expect
  assigned-reads star x us vs p a h e = rw (h, e) refl

  pub call_stmt-reads : (ts us : List Token) (p : Pos) (c : Call) → sees_call ns ts ≡ true → read.call ns n ts ≡ Got c (mark m.Semicolon p ∷ us) → read.placed ns n bodies ts ≡ Got (s.Call c) us
  unfolding read.placed read.call_stmt same_mark expect
  call_stmt-reads ts us p c h e = rw (h, e) refl

  update-mark : (mk : Punct) (t : Update) → update_of mk ≡ Some t → read.mark_stmt ns n bodies (Some mk) ≡ read.simple_ended ns n bodies (read.simple ns n)
  update-mark m.PlusPlus t h = refl
  update-mark m.MinusMinus t h = refl
  update-mark _ t h = cc

  ended-reads : (ts us : List Token) (p : Pos) (a : Simple) → read.simple ns n ts ≡ Got a (mark m.Semicolon p ∷ us) → read.simple_ended ns n bodies (read.simple ns n) ts ≡ Got (s.Simple a) us
  unfolding read.simple_ended same_mark expect
  ended-reads ts us p a e = rw e refl

  pub updated-reads : (ts us : List Token) (p q : Pos) (mk : Punct) (t : Update) (a : Simple) → update_of mk ≡ Some t → read.simple ns n (mark mk p ∷ ts) ≡ Got a (mark m.Semicolon q ∷ us) → read.stmt ns n bodies (mark mk p ∷ ts) ≡ Got (s.Simple a) us
  unfolding read.stmt key_at mark_at
  updated-reads ts us p q mk t a h e = ap (λ r. r (mark mk p ∷ ts)) (update-mark mk t h) ∙ ended-reads (mark mk p ∷ ts) us q a e

  -- ---- choices and loops
  pub if-reads : (ts us vs : List Token) (p q r : Pos) (c : Expr) (a : Stmt) → read.expr ns n ts ≡ Got c (mark m.CloseParen r ∷ us) → bodies.stmt us ≡ Got a vs → begins_with_else vs ≡ false →
      read.stmt ns (suc n) bodies (key k.If p ∷ mark m.OpenParen q ∷ ts) ≡ Got (s.If p c a) vs
  unfolding read.stmt read.if_stmt read.condition key_at opens opens_any sees same_mark expect
  if-reads ts us vs p q r c a e i h = rw (e, i, h) refl

  pub if_else-reads : (ts us vs ws : List Token) (p q r t : Pos) (c : Expr) (a b : Stmt) → read.expr ns n ts ≡ Got c (mark m.CloseParen r ∷ us) → bodies.stmt us ≡ Got a (key k.Else t ∷ vs) → bodies.stmt vs ≡ Got b ws →
      read.stmt ns (suc n) bodies (key k.If p ∷ mark m.OpenParen q ∷ ts) ≡ Got (s.IfElse p c a b) ws
  unfolding read.stmt read.if_stmt read.condition key_at opens opens_any sees same_mark expect
  if_else-reads ts us vs ws p q r t c a b e i h = rw (e, i, h) refl

  pub while-reads : (ts us vs : List Token) (p q r : Pos) (c : Expr) (a : Stmt) → read.expr ns n ts ≡ Got c (mark m.CloseParen r ∷ us) → bodies.stmt us ≡ Got a vs → read.stmt ns (suc n) bodies (key k.While p ∷ mark m.OpenParen q ∷ ts) ≡ Got (s.While p c a) vs
  unfolding read.stmt read.while_stmt read.condition key_at opens opens_any sees same_mark expect
  while-reads ts us vs p q r c a e i = rw (e, i) refl

  pub do-reads : (ts us vs : List Token) (p q r t u : Pos) (c : Expr) (a : Stmt) → bodies.stmt ts ≡ Got a (key k.While q ∷ mark m.OpenParen r ∷ us) → read.expr ns n us ≡ Got c (mark m.CloseParen t ∷ mark m.Semicolon u ∷ vs) →
      read.stmt ns (suc n) bodies (key k.Do p ∷ ts) ≡ Got (s.DoWhile p a c) vs
  unfolding read.stmt read.do_stmt read.expect_while read.condition key_at opens opens_any sees same_mark expect
  do-reads ts us vs p q r t u c a e i = rw (e, i) refl

  pub for-reads : (ts us vs ws xs : List Token) (p q r t u : Pos) (f : First) (c : Option Expr) (x : Option Simple) (a : Stmt) → read.first_of ns n ts ≡ Got f (mark m.Semicolon r ∷ us) → read.expr_before ns m.Semicolon n us ≡ Got c (mark m.Semicolon t ∷ vs) →
      read.simple_before ns m.CloseParen n vs ≡ Got x (mark m.CloseParen u ∷ ws) → bodies.stmt ws ≡ Got a xs → read.stmt ns (suc n) bodies (key k.For p ∷ mark m.OpenParen q ∷ ts) ≡ Got (s.For p f c x a) xs
  unfolding read.stmt read.for_stmt key_at opens opens_any sees same_mark expect
  for-reads ts us vs ws xs p q r t u f c x a e i j h = rw (e, i, j, h) refl

  pub switch-reads : (ts us vs : List Token) (p q r t u : Pos) (c : Expr) (gs : List Group) → read.expr ns n ts ≡ Got c (mark m.CloseParen r ∷ mark m.OpenBrace t ∷ us) → bodies.groups us ≡ Got gs (mark m.CloseBrace u ∷ vs) →
      read.stmt ns (suc n) bodies (key k.Switch p ∷ mark m.OpenParen q ∷ ts) ≡ Got (s.Switch p c gs) vs
  unfolding read.stmt read.switch_stmt read.condition key_at opens opens_any sees same_mark expect
  switch-reads ts us vs p q r t u c gs e i = rw (e, i) refl

  pub break-reads : (us : List Token) (p q : Pos) → read.stmt ns n bodies (key k.Break p ∷ mark m.Semicolon q ∷ us) ≡ Got (s.Break p) us
  unfolding read.stmt read.break key_at same_mark expect
  break-reads us p q = refl

  pub return-reads : (ts us : List Token) (p q : Pos) (a : Option Expr) → read.expr_before ns m.Semicolon n ts ≡ Got a (mark m.Semicolon q ∷ us) → read.stmt ns n bodies (key k.Return p ∷ ts) ≡ Got (s.Return p a) us
  unfolding read.stmt read.return key_at same_mark expect
  return-reads ts us p q a e = rw e refl

  -- ---- directives
  pub wait-reads : (us : List Token) (p q r t u v : Pos) → read.stmt ns (suc (suc n)) bodies (key k.WaitForClock p ∷ mark m.OpenParen q ∷ mark m.OpenParen r ∷ mark m.CloseParen t ∷ mark m.CloseParen u ∷ mark m.Semicolon v ∷ us) ≡ Got (s.Directive p d.Wait) us
  unfolding read.stmt read.ended read.bare read.double_bracket key_at opens opens_any sees same_mark expect
  wait-reads us p q r t u v = rw (less n) refl

  pub partition-reads : (us : List Token) (p q r t u v : Pos) → read.stmt ns (suc (suc n)) bodies (key k.Partition p ∷ mark m.OpenParen q ∷ mark m.OpenParen r ∷ mark m.CloseParen t ∷ mark m.CloseParen u ∷ mark m.Semicolon v ∷ us) ≡ Got (s.Directive p d.Partition) us
  unfolding read.stmt read.ended read.bare read.double_bracket key_at opens opens_any sees same_mark expect
  partition-reads us p q r t u v = rw (less n) refl

  pub known_fact-reads : (ts us : List Token) (p q r t u v : Pos) (a : Expr) → read.expr ns n ts ≡ Got a (mark m.CloseParen t ∷ mark m.CloseParen u ∷ mark m.Semicolon v ∷ us) →
      read.stmt ns (suc (suc n)) bodies (key k.KnownFact p ∷ mark m.OpenParen q ∷ mark m.OpenParen r ∷ ts) ≡ Got (s.Directive p (d.KnownFact a)) us
  unfolding read.stmt read.ended read.with_expr read.double_bracket key_at opens opens_any sees same_mark expect
  known_fact-reads ts us p q r t u v a e = rw (less n, e) refl

  pub assert-reads : (ts us : List Token) (p q r t u v : Pos) (a : Expr) → read.expr ns n ts ≡ Got a (mark m.CloseParen t ∷ mark m.CloseParen u ∷ mark m.Semicolon v ∷ us) →
      read.stmt ns (suc (suc n)) bodies (key k.Assert p ∷ mark m.OpenParen q ∷ mark m.OpenParen r ∷ ts) ≡ Got (s.Directive p (d.Assert a)) us
  unfolding read.stmt read.ended read.with_expr read.double_bracket key_at opens opens_any sees same_mark expect
  assert-reads ts us p q r t u v a e = rw (less n, e) refl

  -- ---- what stands in braces
  pub local_item-reads : (one : Parser Stmt) (ts us : List Token) (l : Local) → begins_type ns ts ≡ true → read.local ns n ts ≡ Got l us → read.block_item ns n bodies one ts ≡ Got (item.Local l) us
  unfolding read.block_item
  local_item-reads one ts us l h e = rw (h, e) refl

  pub stmt_item-reads : (one : Parser Stmt) (ts us : List Token) (a : Stmt) → begins_type ns ts ≡ false → one ts ≡ Got a us → read.block_item ns n bodies one ts ≡ Got (item.Stmt a) us
  unfolding read.block_item
  stmt_item-reads one ts us a h e = rw (h, e) refl

  pub items-read : (one : Parser Stmt) (ts us : List Token) (is : List BlockItem) → Loops no_close (read.block_item ns n bodies one) ts is us → read.block_items ns n bodies one ts ≡ Got is us
  unfolding read.block_items
  items-read one ts us is l = many-reads l

  labelled-reads : (ts us vs ws : List Token) (l : Label) (ls : List Label) (ss : List Stmt) → read.a_label ns n ts ≡ Got l us → Loops begins_with_label (read.a_label ns n) us ls vs → Loops (read.goes_on ns n bodies) bodies.stmt vs ss ws →
      read.a_group ns n bodies ts ≡ Got (tree.group (l ∷ ls) ss) ws
  unfolding read.a_group
  labelled-reads ts us vs ws l ls ss e i j = rw (e, many-reads i, many-reads j) refl

  pub groups-read : (ts us : List Token) (gs : List Group) → Loops begins_with_label (read.a_group ns n bodies) ts gs us → read.groups ns n bodies ts ≡ Got gs us
  unfolding read.groups
  groups-read ts us gs l = many-reads l

pub place-stmt : (ns : Names) (n : ℕ) (bodies : Bodies) (ts us : List Token) (x : Place) → Place' ns n ts x us → read.stmt ns n bodies ts ≡ read.placed ns n bodies ts
unfolding read.stmt key_at mark_at
place-stmt ns n bodies ts us x (Place'.name h l) = refl
place-stmt ns n bodies ts us x (Place'.through h l) = refl
place-stmt ns n bodies ts us x (Place'.star h) = refl

pub call-stmt : (ns : Names) (n : ℕ) (bodies : Bodies) (ts us : List Token) (c : Call) → Call' ns n ts c us → read.stmt ns n bodies ts ≡ read.placed ns n bodies ts
unfolding read.stmt key_at mark_at
call-stmt ns n bodies ts us c (Call'.no_args h) = refl
call-stmt ns n bodies ts us c (Call'.args h l) = refl

pub group-reads : (ns : Names) (n : ℕ) (bodies : Bodies) (ts us vs : List Token) (ls : List Label) (ss : List Stmt) → Labels ns n ts ls us → Loops (read.goes_on ns n bodies) bodies.stmt us ss vs →
    read.a_group ns n bodies ts ≡ Got (tree.group ls ss) vs
group-reads ns n bodies ts us vs _ ss (Labels.last_label {l = l} x h) j = labelled-reads ns n bodies ts us us vs l [] ss (label-complete x) (loop-stops h) j
group-reads ns n bodies ts us vs _ ss (Labels.next_label {us = ws} {l = l} {ls = ls} x more) j = labelled-reads ns n bodies ts ws us vs l ls ss (label-complete x) (labels-complete more) j
