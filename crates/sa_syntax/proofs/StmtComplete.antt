-- What the grammar of statements has is what the reader reads, whatever follows.
use Rattle.std.proofs.Common.{◌≡◌, ℕ, suc, List, ◌∷◌, Bool, true, false, ◌&&◌, not, Option, Some, None, refl, ap, ◌∙◌, arith}
use Rattle.sa_base.specs.declared.pos.Pos.{Pos}
use Rattle.sa_tokens.specs.declared.punct.Punct.{Punct}
use Rattle.sa_tokens.specs.declared.punct.Punct.TheVariants as m
use Rattle.sa_tokens.specs.declared.token.Token.{Token}
use Rattle.sa_syntax.specs.declared.decl.Specifiers.{Specifiers}
use Rattle.sa_syntax.specs.declared.decl.Declr.{Declr}
use Rattle.sa_syntax.specs.declared.expr.Expr.{Expr}
use Rattle.sa_syntax.specs.declared.stmt.Simple.{Simple}
use Rattle.sa_syntax.specs.declared.stmt.Simple.TheVariants as simply
use Rattle.sa_syntax.specs.declared.stmt.Directive.{Directive}
use Rattle.sa_syntax.specs.declared.stmt.First.{First}
use Rattle.sa_syntax.specs.declared.stmt.First.TheVariants as first
use Rattle.sa_syntax.specs.declared.stmt.Label.{Label}
use Rattle.sa_syntax.specs.declared.stmt.Local.{Local}
use Rattle.sa_syntax.specs.declared.stmt.Stmt.{Stmt}
use Rattle.sa_syntax.specs.declared.stmt.Stmt.TheVariants as s
use Rattle.sa_syntax.specs.declared.stmt.Group.{Group}
use Rattle.sa_syntax.specs.declared.stmt.BlockItem.{BlockItem}
use Rattle.sa_syntax.specs.Trees as tree
use Rattle.sa_syntax.specs.Words.{Names, mark, compound_of, update_of, begins_with_star, begins_with_label}
use Rattle.sa_syntax.specs.Statements.{Simple', Local', Directive', First', Condition', Next', Labels, Stmt', Nested, Groups, Body, Outermost}
use Rattle.sa_syntax.specs.Reading.{Got, same_mark, sees, expect}
use Rattle.sa_syntax.specs.ReadExpr.{begins_type}
use Rattle.sa_syntax.specs.ReadStmt as read
use Rattle.sa_syntax.specs.ReadStmt.{Bodies, bodies, sees_call, no_close, stmt_at}
use Rattle.sa_syntax.specs.ExprLaws.{EndsExpr}
use Rattle.sa_syntax.proofs.Front.{mark-seen, type-begins, type-no_mark, no_mark-sees, declr-ends_type, ends-close_paren}
use Rattle.sa_syntax.proofs.ExprComplete.{whole-complete, place-complete, type-complete, declr-complete}
use Rattle.sa_syntax.proofs.ReadSteps.{Loops, loop-stops, loop-goes}
use Rattle.sa_syntax.proofs.StmtShorter.{local-shorter, labels-shorter, stmt-shorter, body-shorter}
use Rattle.sa_syntax.proofs.StmtFront.{mark-no, whole-no_mark, place-no_call, whole-no_call, call-seen, BeginsStmt, stmt-begins, simple-no_mark, simple-no_type, ends-semicolon, equal-no_step, mark-no_step, mark-no_call, equal-no_call, semicolon-no_call}
use Rattle.sa_syntax.proofs.StmtSteps.{assign-reads, compound-reads, update-reads}
use Rattle.sa_syntax.proofs.PartsComplete.{equal-no_bound, call-complete, simple-complete, local-complete, label-begins}
use Rattle.sa_syntax.proofs.BodySteps.{block-reads, empty-reads, placed-stmt, gives-reads, assigned-reads, call_stmt-reads, updated-reads, if-reads, if_else-reads, while-reads, do-reads, for-reads, switch-reads, break-reads, return-reads, wait-reads, partition-reads, known_fact-reads, assert-reads, local_item-reads, stmt_item-reads, items-read, groups-read, place-stmt, call-stmt, group-reads}

-- ---- marks
-- an assigned value that is no call
equal-no_gives : (ns : Names) (p : Pos) (us : List Token) → sees_call ns us ≡ false → (sees m.Equal (mark m.Equal p ∷ us) && sees_call ns us) ≡ false
unfolding sees same_mark
equal-no_gives ns p us h = h

mark-no_gives : {A : Type 0} (ns : Names) (f : Punct → Option A) (mk : Punct) (x : A) (p : Pos) (us : List Token) → f mk ≡ Some x → f m.Equal ≡ None → (sees m.Equal (mark mk p ∷ us) && sees_call ns us) ≡ false
unfolding sees
mark-no_gives ns f mk x p us h none = rw (mark-no f m.Equal mk x h none) refl

-- ---- assignments as statements
simple_stmt-complete : {ns : Names} {n : ℕ} (b : Bodies) {ts : List Token} {a : Simple} {us : List Token} {q : Pos} → Simple' ns n ts a (mark m.Semicolon q ∷ us) → read.stmt ns n b ts ≡ Got (s.Simple a) us
simple_stmt-complete {ns} b {us = ws} {q = q} (Simple'.assign {n = n} {ts = ts} {us = us} {p = p} {x = x} {a = a} l w) =
    place-stmt ns n b ts (mark m.Equal p ∷ us) x l
    ∙ placed-stmt ns n b ts (mark m.Equal p ∷ us) ws x (s.Simple (simply.Assign x p a)) (place-no_call l (equal-no_call p us)) (place-complete l (equal-no_step p us))
    (assigned-reads ns n b (begins_with_star ts) x (mark m.Equal p ∷ us) ws q (simply.Assign x p a) (equal-no_gives ns p us (whole-no_call w (semicolon-no_call q ws)))
    (assign-reads ns n (begins_with_star ts) x us (mark m.Semicolon q ∷ ws) p a (whole-complete w (ends-semicolon q ws))))
simple_stmt-complete {ns} b {us = ws} {q = q} (Simple'.compound {n = n} {ts = ts} {us = us} {p = p} {mk = mk} {op = op} {x = x} {a = a} l h w) =
    place-stmt ns n b ts (mark mk p ∷ us) x l
    ∙ placed-stmt ns n b ts (mark mk p ∷ us) ws x (s.Simple (simply.Compound x op p a)) (place-no_call l (mark-no_call compound_of mk op p us h refl)) (place-complete l (mark-no_step compound_of mk op p us h refl refl refl))
    (assigned-reads ns n b (begins_with_star ts) x (mark mk p ∷ us) ws q (simply.Compound x op p a) (mark-no_gives ns compound_of mk op p us h refl)
    (compound-reads ns n (begins_with_star ts) x us (mark m.Semicolon q ∷ ws) p mk op a h (whole-complete w (ends-semicolon q ws))))
simple_stmt-complete {ns} b {us = ws} {q = q} (Simple'.after {n = n} {ts = ts} {p = p} {mk = mk} {t = t} {x = x} l h star) =
    let us = mark m.Semicolon q ∷ ws in
    place-stmt ns n b ts (mark mk p ∷ us) x l
    ∙ placed-stmt ns n b ts (mark mk p ∷ us) ws x (s.Simple (simply.After x t p)) (place-no_call l (mark-no_call update_of mk t p us h refl)) (place-complete l (mark-no_step update_of mk t p us h refl refl refl))
    (assigned-reads ns n b (begins_with_star ts) x (mark mk p ∷ us) ws q (simply.After x t p) (mark-no_gives ns update_of mk t p us h refl) (update-reads ns n (begins_with_star ts) x us p mk t star h))
simple_stmt-complete {ns} b {us = ws} {q = q} (Simple'.before {n = n} {ts = ts} {p = p} {mk = mk} {t = t} {x = x} h l) =
    updated-reads ns n b ts ws p q mk t (simply.Before t p x) h (simple-complete (Simple'.before h l) (ends-semicolon q ws))

-- ---- directives
directive_stmt-complete : {ns : Names} {n : ℕ} (b : Bodies) {ts : List Token} {a : Directive} {us : List Token} {v : Pos} → Directive' ns n ts a (mark m.Semicolon v ∷ us) → read.stmt ns n b ts ≡ Got (s.Directive (tree.pos_of ts) a) us
directive_stmt-complete {ns} b {us = us} {v = v} (Directive'.wait {n = n} {p = p} {q = q} {r = r} {s = t} {t = u}) = wait-reads ns n b us p q r t u v
directive_stmt-complete {ns} b {us = us} {v = v} (Directive'.partition {n = n} {p = p} {q = q} {r = r} {s = t} {t = u}) = partition-reads ns n b us p q r t u v
directive_stmt-complete {ns} b {us = us} {v = v} (Directive'.known_fact {n = n} {ts = ts} {p = p} {q = q} {r = r} {s = t} {t = u} {a = a} w) =
    known_fact-reads ns n b ts us p q r t u v a (whole-complete w (ends-close_paren t (mark m.CloseParen u ∷ mark m.Semicolon v ∷ us)))
directive_stmt-complete {ns} b {us = us} {v = v} (Directive'.assert {n = n} {ts = ts} {p = p} {q = q} {r = r} {s = t} {t = u} {a = a} w) =
    assert-reads ns n b ts us p q r t u v a (whole-complete w (ends-close_paren t (mark m.CloseParen u ∷ mark m.Semicolon v ∷ us)))

-- ---- the head of a `for`
first-none : (ns : Names) (n : ℕ) (us : List Token) → sees m.Semicolon us ≡ true → read.first_of ns n us ≡ Got first.Nothing us
unfolding read.first_of
first-none ns n us h = rw h refl

first-simple : (ns : Names) (n : ℕ) (ts us : List Token) (a : Simple) → sees m.Semicolon ts ≡ false → begins_type ns ts ≡ false → read.simple ns n ts ≡ Got a us → read.first_of ns n ts ≡ Got (first.Simple a) us
unfolding read.first_of
first-simple ns n ts us a h i e = rw (h, i, e) refl

first-declares : (ns : Names) (n : ℕ) (ts us : List Token) (f : First) → sees m.Semicolon ts ≡ false → begins_type ns ts ≡ true → read.declares ns n ts ≡ Got f us → read.first_of ns n ts ≡ Got f us
unfolding read.first_of
first-declares ns n ts us f h i e = rw (h, i) e

declares-reads : (ns : Names) (n : ℕ) (ts us vs ws : List Token) (p : Pos) (t : Specifiers) (d : Declr) (a : Expr) → read.specifiers ns n ts ≡ Got t us → read.declr ns n us ≡ Got d (mark m.Equal p ∷ vs) → read.expr ns n vs ≡ Got a ws → read.declares ns n ts ≡ Got (first.Declares t d p a) ws
unfolding read.declares expect same_mark
declares-reads ns n ts us vs ws p t d a e i j = rw (e, i, j) refl

first-complete : {ns : Names} {n : ℕ} {ts : List Token} {f : First} {us : List Token} → First' ns n ts f us → EndsExpr us → sees m.Semicolon us ≡ true → read.first_of ns n ts ≡ Got f us
first-complete {ns} (First'.nothing {n = n} {us = us}) e h = first-none ns n us h
first-complete {ns} (First'.simply {n = n} {ts = ts} {us = us} {a = a} x) e h = first-simple ns n ts us a (simple-no_mark x m.Semicolon refl refl) (simple-no_type x) (simple-complete x e)
first-complete {ns} (First'.declares {n = n} {ts = ts} {us = us} {vs = vs} {ws = ws} {p = p} {t = t} {d = d} {a = a} x y w) e h =
    first-declares ns n ts ws (first.Declares t d p a) (no_mark-sees m.Semicolon ts (type-no_mark ns ts (type-begins x))) (type-begins x)
    (declares-reads ns n ts us vs ws p t d a (type-complete x (declr-ends_type y)) (declr-complete y (equal-no_bound p vs)) (whole-complete w e))

expr-none : (ns : Names) (n : ℕ) (close : Punct) (us : List Token) → sees close us ≡ true → read.expr_before ns close n us ≡ Got None us
unfolding read.expr_before
expr-none ns n close us h = rw h refl

expr-some : (ns : Names) (n : ℕ) (close : Punct) (ts us : List Token) (a : Expr) → sees close ts ≡ false → read.expr ns n ts ≡ Got a us → read.expr_before ns close n ts ≡ Got (Some a) us
unfolding read.expr_before
expr-some ns n close ts us a h e = rw (h, e) refl

condition-complete : {ns : Names} {n : ℕ} {ts : List Token} {c : Option Expr} {us : List Token} → Condition' ns n ts c us → EndsExpr us → sees m.Semicolon us ≡ true → read.expr_before ns m.Semicolon n ts ≡ Got c us
condition-complete {ns} (Condition'.always {n = n} {us = us}) e h = expr-none ns n m.Semicolon us h
condition-complete {ns} (Condition'.while {n = n} {ts = ts} {us = us} {a = a} w) e h = expr-some ns n m.Semicolon ts us a (whole-no_mark w m.Semicolon refl) (whole-complete w e)

simple-none : (ns : Names) (n : ℕ) (close : Punct) (us : List Token) → sees close us ≡ true → read.simple_before ns close n us ≡ Got None us
unfolding read.simple_before
simple-none ns n close us h = rw h refl

simple-some : (ns : Names) (n : ℕ) (close : Punct) (ts us : List Token) (a : Simple) → sees close ts ≡ false → read.simple ns n ts ≡ Got a us → read.simple_before ns close n ts ≡ Got (Some a) us
unfolding read.simple_before
simple-some ns n close ts us a h e = rw (h, e) refl

next-complete : {ns : Names} {n : ℕ} {ts : List Token} {x : Option Simple} {us : List Token} → Next' ns n ts x us → EndsExpr us → sees m.CloseParen us ≡ true → read.simple_before ns m.CloseParen n ts ≡ Got x us
next-complete {ns} (Next'.nothing {n = n} {us = us}) e h = simple-none ns n m.CloseParen us h
next-complete {ns} (Next'.simply {n = n} {ts = ts} {us = us} {a = a} x) e h = simple-some ns n m.CloseParen ts us a (simple-no_mark x m.CloseParen refl refl) (simple-complete x e)

-- ---- what follows the statements of a group
labels-begin : {ns : Names} {n : ℕ} {ts : List Token} {ls : List Label} {us : List Token} → Labels ns n ts ls us → begins_with_label ts ≡ true
labels-begin (Labels.last_label l h) = label-begins l
labels-begin (Labels.next_label l ls) = label-begins l

goes-true : (ns : Names) (n : ℕ) (b : Bodies) (ts : List Token) → BeginsStmt ns ts → read.goes_on ns n b ts ≡ true
goes-true ns n b ts h = rw (h.no_close, h.no_label) refl

close-ends : (ns : Names) (n : ℕ) (b : Bodies) (us : List Token) → sees m.CloseBrace us ≡ true → read.goes_on ns n b us ≡ false
close-ends ns n b us h = rw h refl

and-false : (a : Bool) → (a && false) ≡ false
and-false true = refl
and-false false = refl

label-ends : (ns : Names) (n : ℕ) (b : Bodies) (us : List Token) → begins_with_label us ≡ true → read.goes_on ns n b us ≡ false
label-ends ns n b us h = rw h (and-false (not (sees m.CloseBrace us)))

groups-end : {ns : Names} {n : ℕ} {ts : List Token} {gs : List Group} {us : List Token} (b : Bodies) → Groups ns n ts gs us → sees m.CloseBrace us ≡ true → read.goes_on ns n b ts ≡ false
groups-end {ns} {n} {us = us} b Groups.no_group h = close-ends ns n b us h
groups-end {ns} {n} {ts = ts} b (Groups.group ls ss gs) h = label-ends ns n b ts (labels-begin ls)

local-begins : {ns : Names} {n : ℕ} {ts : List Token} {l : Local} {us : List Token} → Local' ns n ts l us → begins_type ns ts ≡ true
local-begins (Local'.local t ds) = type-begins t

brace-no_label : (p : Pos) (us : List Token) → begins_with_label (mark m.CloseBrace p ∷ us) ≡ false
brace-no_label p us = refl

mutual
  unfolding bodies

  pub stmt-complete : {ns : Names} {n : ℕ} {ts : List Token} {a : Stmt} {us : List Token} → Stmt' ns n ts a us → stmt_at ns n ts ≡ Got a us
  stmt-complete {ns} (Stmt'.block {n = n} {ts = ts} {us = us} {p = p} {q = q} {is = is} x) =
      block-reads ns n (bodies ns (suc n)) ts us p q is (items-read ns n (bodies ns n) (bodies ns n).stmt ts (mark m.CloseBrace q ∷ us) is (nested-complete x (mark-seen m.CloseBrace q us)))
  stmt-complete {ns} (Stmt'.empty {n = n} {us = us} {p = p}) = empty-reads ns n (bodies ns n) us p
  stmt-complete {ns} (Stmt'.simple_stmt {n = n} x) = simple_stmt-complete (bodies ns n) x
  stmt-complete {ns} (Stmt'.gives {n = n} {ts = ts} {us = us} {vs = vs} {p = p} {q = q} {x = x} {c = c} l y) =
      place-stmt ns n (bodies ns n) ts (mark m.Equal p ∷ us) x l
      ∙ placed-stmt ns n (bodies ns n) ts (mark m.Equal p ∷ us) vs x (s.Gives x p c) (place-no_call l (equal-no_call p us)) (place-complete l (equal-no_step p us))
      (gives-reads ns n (bodies ns n) (begins_with_star ts) x us vs p q c (call-seen y) (call-complete y))
  stmt-complete {ns} (Stmt'.call {n = n} {ts = ts} {us = us} {p = p} {c = c} y) =
      call-stmt ns n (bodies ns n) ts (mark m.Semicolon p ∷ us) c y ∙ call_stmt-reads ns n (bodies ns n) ts us p c (call-seen y) (call-complete y)
  stmt-complete {ns} (Stmt'.if {n = n} {ts = ts} {us = us} {vs = vs} {p = p} {q = q} {r = r} {c = c} {a = a} w x h) =
      if-reads ns n (bodies ns (suc n)) ts us vs p q r c a (whole-complete w (ends-close_paren r us)) (stmt-complete x) h
  stmt-complete {ns} (Stmt'.if_else {n = n} {ts = ts} {us = us} {vs = vs} {ws = ws} {p = p} {q = q} {r = r} {t = t} {c = c} {a = a} {b = b} w x y) =
      if_else-reads ns n (bodies ns (suc n)) ts us vs ws p q r t c a b (whole-complete w (ends-close_paren r us)) (stmt-complete x) (stmt-complete y)
  stmt-complete {ns} (Stmt'.while {n = n} {ts = ts} {us = us} {vs = vs} {p = p} {q = q} {r = r} {c = c} {a = a} w x) =
      while-reads ns n (bodies ns (suc n)) ts us vs p q r c a (whole-complete w (ends-close_paren r us)) (stmt-complete x)
  stmt-complete {ns} (Stmt'.do_while {n = n} {ts = ts} {us = us} {vs = vs} {p = p} {q = q} {r = r} {t = t} {u = u} {c = c} {a = a} x w) =
      do-reads ns n (bodies ns (suc n)) ts us vs p q r t u c a (stmt-complete x) (whole-complete w (ends-close_paren t (mark m.Semicolon u ∷ vs)))
  stmt-complete {ns} (Stmt'.for {n = n} {ts = ts} {us = us} {vs = vs} {ws = ws} {xs = xs} {p = p} {q = q} {r = r} {t = t} {u = u} {f = f} {c = c} {x = x} {a = a} y w z b) =
      for-reads ns n (bodies ns (suc n)) ts us vs ws xs p q r t u f c x a (first-complete y (ends-semicolon r us) (mark-seen m.Semicolon r us)) (condition-complete w (ends-semicolon t vs) (mark-seen m.Semicolon t vs))
      (next-complete z (ends-close_paren u ws) (mark-seen m.CloseParen u ws)) (stmt-complete b)
  stmt-complete {ns} (Stmt'.switch {n = n} {ts = ts} {us = us} {vs = vs} {p = p} {q = q} {r = r} {t = t} {u = u} {c = c} {gs = gs} w x) =
      switch-reads ns n (bodies ns (suc n)) ts us vs p q r t u c gs (whole-complete w (ends-close_paren r (mark m.OpenBrace t ∷ us)))
      (groups-read ns n (bodies ns n) us (mark m.CloseBrace u ∷ vs) gs (groups-complete x (brace-no_label u vs) (mark-seen m.CloseBrace u vs)))
  stmt-complete {ns} (Stmt'.break {n = n} {us = us} {p = p} {q = q}) = break-reads ns n (bodies ns n) us p q
  stmt-complete {ns} (Stmt'.return {n = n} {us = us} {p = p} {q = q}) = return-reads ns n (bodies ns n) (mark m.Semicolon q ∷ us) us p q None (expr-none ns n m.Semicolon (mark m.Semicolon q ∷ us) (mark-seen m.Semicolon q us))
  stmt-complete {ns} (Stmt'.return_value {n = n} {ts = ts} {us = us} {p = p} {q = q} {a = a} w) =
      return-reads ns n (bodies ns n) ts us p q (Some a) (expr-some ns n m.Semicolon ts (mark m.Semicolon q ∷ us) a (whole-no_mark w m.Semicolon refl) (whole-complete w (ends-semicolon q us)))
  stmt-complete {ns} (Stmt'.directive {n = n} x) = directive_stmt-complete (bodies ns n) x

  pub nested-complete : {ns : Names} {n : ℕ} {ts : List Token} {is : List BlockItem} {us : List Token} → Nested ns n ts is us → sees m.CloseBrace us ≡ true →
      Loops no_close (read.block_item ns n (bodies ns n) (bodies ns n).stmt) ts is us
  nested-complete Nested.no_item e = loop-stops (ap not e)
  nested-complete {ns} (Nested.nested_local {n = n} {ts = ts} {us = us} {l = l} x more) e =
      loop-goes (ap not (no_mark-sees m.CloseBrace ts (type-no_mark ns ts (local-begins x)))) (local_item-reads ns n (bodies ns n) (bodies ns n).stmt ts us l (local-begins x) (local-complete x)) (local-shorter x) (nested-complete more e)
  nested-complete {ns} (Nested.nested_stmt {n = n} {ts = ts} {us = us} {a = a} x more) e =
      loop-goes (ap not (stmt-begins x).no_close) (stmt_item-reads ns (suc n) (bodies ns (suc n)) (stmt_at ns n) ts us a (stmt-begins x).no_type (stmt-complete x)) (stmt-shorter x) (nested-complete more e)

  pub groups-complete : {ns : Names} {n : ℕ} {ts : List Token} {gs : List Group} {us : List Token} → Groups ns n ts gs us → begins_with_label us ≡ false → sees m.CloseBrace us ≡ true →
      Loops begins_with_label (read.a_group ns n (bodies ns n)) ts gs us
  groups-complete Groups.no_group e h = loop-stops e
  groups-complete {ns} (Groups.group {n = n} {ts = ts} {us = us} {vs = vs} {ls = ls} {ss = ss} x y more) e h =
      loop-goes (labels-begin x) (group-reads ns n (bodies ns n) ts us vs ls ss x (body-complete y (groups-end (bodies ns n) more h))) (let i = labels-shorter x in let j = body-shorter y in omega arith) (groups-complete more e h)

  pub body-complete : {ns : Names} {n : ℕ} {ts : List Token} {ss : List Stmt} {us : List Token} → Body ns n ts ss us → read.goes_on ns n (bodies ns n) us ≡ false →
      Loops (read.goes_on ns n (bodies ns n)) (bodies ns n).stmt ts ss us
  body-complete Body.no_stmt e = loop-stops e
  body-complete {ns} (Body.stmt {n = n} {ts = ts} x more) e = loop-goes (goes-true ns (suc n) (bodies ns (suc n)) ts (stmt-begins x)) (stmt-complete x) (stmt-shorter x) (body-complete more e)

-- in the braces of a function
pub outermost-complete : {ns : Names} {n : ℕ} {ts : List Token} {is : List BlockItem} {us : List Token} → Outermost ns n ts is us → sees m.CloseBrace us ≡ true → Loops no_close (read.block_item ns n (bodies ns n) (stmt_at ns n)) ts is us
outermost-complete Outermost.no_item e = loop-stops (ap not e)
outermost-complete {ns} (Outermost.local_item {n = n} {ts = ts} {us = us} {l = l} x more) e =
    loop-goes (ap not (no_mark-sees m.CloseBrace ts (type-no_mark ns ts (local-begins x)))) (local_item-reads ns n (bodies ns n) (stmt_at ns n) ts us l (local-begins x) (local-complete x)) (local-shorter x) (outermost-complete more e)
outermost-complete {ns} (Outermost.stmt_item {n = n} {ts = ts} {us = us} {a = a} x more) e =
    loop-goes (ap not (stmt-begins x).no_close) (stmt_item-reads ns n (bodies ns n) (stmt_at ns n) ts us a (stmt-begins x).no_type (stmt-complete x)) (stmt-shorter x) (outermost-complete more e)
