-- Where a statement is refused some text goes on.
use Rattle.std.proofs.Common.{◌≡◌, ℕ, zero, suc, ◌+◌, ◌≤◌, ◌<◌, ◌∙◌, cond, append_assoc, length-append, List, [], ◌∷◌, ◌++◌, Bool, true, false, refl, sym, ap, subst, length, arith, Option, Some, None}
use Rattle.std.specs.Prelude.{◌&&◌}
use Rattle.sa_base.specs.declared.pos.Pos.{Pos}
use Rattle.sa_tokens.specs.declared.keyword.Keyword.{Keyword}
use Rattle.sa_tokens.specs.declared.keyword.Keyword.TheVariants as k
use Rattle.sa_tokens.specs.declared.punct.Punct.{Punct}
use Rattle.sa_tokens.specs.declared.punct.Punct.TheVariants as m
use Rattle.sa_tokens.specs.declared.token.Word.{Word}
use Rattle.sa_tokens.specs.declared.token.Word.TheVariants.{Name, Number, Key, Mark}
use Rattle.sa_tokens.specs.declared.token.Token.{Token}
use Rattle.sa_syntax.specs.declared.expr.Expr.{Expr}
use Rattle.sa_syntax.specs.declared.expr.Place.{Place}
use Rattle.sa_syntax.specs.declared.stmt.Simple.TheVariants as simply
use Rattle.sa_syntax.specs.declared.stmt.Directive.{Directive}
use Rattle.sa_syntax.specs.declared.stmt.Directive.TheVariants as d
use Rattle.sa_syntax.specs.declared.stmt.First.TheVariants as first
use Rattle.sa_syntax.specs.declared.stmt.Label.{Label}
use Rattle.sa_syntax.specs.declared.stmt.Label.TheVariants as label
use Rattle.sa_syntax.specs.declared.stmt.LocalStart.TheVariants as begins
use Rattle.sa_syntax.specs.declared.stmt.Stmt.{Stmt}
use Rattle.sa_syntax.specs.declared.stmt.Stmt.TheVariants as s
use Rattle.sa_syntax.specs.declared.stmt.Group.{Group}
use Rattle.sa_syntax.specs.declared.stmt.BlockItem.TheVariants as item
use Rattle.sa_syntax.specs.Trees as tree
use Rattle.sa_syntax.specs.Words.{Names, mark, key, word, is_else, begins_with_star, begins_with_else, begins_with_label}
use Rattle.sa_syntax.specs.Expressions.{ScalarWords, Place', Declr', Bounds}
use Rattle.sa_syntax.specs.Statements.{Simple', Directive', First', Condition', Next', Label', Labels, Stmt', Local', LocalDeclrs, LocalDeclr', Nested, Groups, Body, Outermost}
use Rattle.sa_syntax.specs.Refusals.{Deepens}
use Rattle.sa_syntax.specs.Reading.{Parser, Read, Got, Stuck, Deep, while_from as loop_from, and_then, sees, after, expect, key_at, mark_at, many, pure, ◌>>=◌}
use Rattle.sa_syntax.specs.ReadExpr.{begins_type}
use Rattle.sa_syntax.specs.ReadStmt as read
use Rattle.sa_syntax.specs.ReadStmt.{takes, within}
use Rattle.sa_syntax.proofs.ExprSound.{Within}
use Rattle.sa_syntax.proofs.StmtSound as sound
use Rattle.sa_syntax.proofs.StmtSound.{InBrackets}
use Rattle.sa_syntax.proofs.StmtShorter.{stmt-shorter}
use Rattle.sa_syntax.proofs.DeepStmt as fine
use Rattle.sa_syntax.proofs.DeepUnit.{bodies_fine}
use Rattle.sa_syntax.proofs.DeepLemmas.{Shrinks}
use Rattle.sa_syntax.proofs.Front.{ends-colon}
use Rattle.sa_syntax.proofs.ExprComplete.{whole-complete}
use Rattle.sa_syntax.proofs.ClosingExpr.{spot, close, nought, letter, int, int_type, int-type, letter_declr, zero-whole}
use Rattle.sa_syntax.proofs.EndsLemmas.{EndsAt, Ends, Last, Some', Front, done, halts, waits, anyway, ends_if, ends_map, seq, seq_front, seq_last, seq_with, expect_then, expect_with, key_then, key_to, mark_then, opens_or, opens_then, shifted, many_to, many_ends, placed_ends}
use Rattle.sa_syntax.proofs.EndsExpr.{zero_expr, both_true}
use Rattle.sa_syntax.proofs.EndsStmt as ends
use Rattle.sa_syntax.proofs.EndsStmt.{star_same}
use Rattle.sa_syntax.proofs.Shorter.{place-shorter}

-- ---- where no statement may be open
empty_within : (ns : Names) (r : ℕ) (z : List Token) → 1 ≤ r → Some' (Within (Stmt' ns)) r (close m.Semicolon ∷ z) z
empty_within ns zero z l = absurd (omega (arith, l))
empty_within ns (suc r) z l = (s.Empty spot, Stmt'.empty)

no_stmt_ends : (ns : Names) (ts : List Token) → EndsAt (close m.Semicolon ∷ []) zero (Within (Stmt' ns)) (Some' (Within (Stmt' ns))) ts (read.no_stmt ns ts)
no_stmt_ends ns ts = ends_if (read.begins_stmt ns ts) (λ h. EndsAt.deep) (λ h. waits (close m.Semicolon ∷ []) (close m.Semicolon) [] [] refl (refl, refl) (λ r z l. empty_within ns r z (omega (arith, l))))

-- a reader of statements there, whatever is read then
no_stmt_then : {A B : Type 0} {l : List Token} {G : ℕ → List Token → B → List Token → Type 0} {S : ℕ → List Token → List Token → Type 0} (b : Bool) (f : A → Parser B) (ts : List Token) → EndsAt l zero G S ts (Stuck ts) → EndsAt l zero G S ts (and_then (cond b (Deep ts) (Stuck ts)) f)
no_stmt_then true f ts one = EndsAt.deep
no_stmt_then false f ts one = one

-- groups, where no label follows
abbrev pub EndedGroups : Names → ℕ → List Token → List Group → List Token → Type 0
EndedGroups ns r ts gs us = begins_with_label us ≡ false → Groups ns r ts gs us

-- the readers one deeper
pub record Inner (ns : Names) (n : ℕ) : Type 0 where
  pub stmt : (i : ℕ) → n ≡ suc i → (ts : List Token) → Ends n (Within (Stmt' ns)) (Some' (Within (Stmt' ns))) ts ((read.bodies ns n).stmt ts)
  -- behind a word or a label that a statement has to follow
  pub body : (ts : List Token) → EndsAt (close m.Semicolon ∷ []) n (Within (Stmt' ns)) (Some' (Within (Stmt' ns))) ts ((read.bodies ns n).stmt ts)
  pub first : (ts : List Token) → EndsAt (close m.Semicolon ∷ []) n (Body ns) (Some' (Body ns)) ts (many (read.goes_on ns n (read.bodies ns n)) (read.bodies ns n).stmt ts)
  -- in a block
  pub nested : (ts : List Token) → Ends n (Front (Nested ns)) (Some' (Nested ns)) ts (((read.bodies ns n).stmt >>= (λ a. pure (item.Stmt a))) ts)
  pub one : (i : ℕ) → n ≡ suc i → (ts : List Token) → Ends i (Stmt' ns) (Some' (Stmt' ns)) ts (read.stmt_at ns i ts)
  pub items : (i : ℕ) → n ≡ suc i → (ts : List Token) → Ends i (Nested ns) (Some' (Nested ns)) ts ((read.bodies ns (suc i)).items ts)
  pub groups : (i : ℕ) → n ≡ suc i → (ts : List Token) → Ends i (Groups ns) (Some' (EndedGroups ns)) ts ((read.bodies ns (suc i)).groups ts)

-- brackets stand where there is room for them
has_room : {ns : Names} {n : ℕ} {ts : List Token} {c : Expr} {us : List Token} → InBrackets ns n ts c us → (i : ℕ) × (n ≡ suc i)
has_room (InBrackets.in_brackets {n = n} i) = (n, refl)

-- ---- statements from their parts
if_from : (ns : Names) (r : ℕ) (p : Pos) (ss : List Token) (c : Expr) (vs : List Token) (a : Stmt) (us : List Token) → InBrackets ns r ss c vs → Within (Stmt' ns) r vs a us → begins_with_else us ≡ false → Stmt' ns r (key k.If p ∷ ss) (s.If p c a) us
if_from ns _ p _ c vs a us (InBrackets.in_brackets i) j h = Stmt'.if i j h

if_else_from : (ns : Names) (r : ℕ) (p t : Pos) (ss : List Token) (c : Expr) (vs : List Token) (a : Stmt) (ws : List Token) (b : Stmt) (us : List Token) → InBrackets ns r ss c vs → Within (Stmt' ns) r vs a (key k.Else t ∷ ws) → Within (Stmt' ns) r ws b us → Stmt' ns r (key k.If p ∷ ss) (s.IfElse p c a b) us
if_else_from ns _ p t _ c vs a ws b us (InBrackets.in_brackets i) j j' = Stmt'.if_else i j j'

else_close : (ns : Names) (r : ℕ) (p t : Pos) (ss : List Token) (c : Expr) (vs : List Token) (a : Stmt) (z : List Token) → InBrackets ns r ss c vs → Within (Stmt' ns) r vs a (key k.Else t ∷ close m.Semicolon ∷ z) → Some' (Stmt' ns) r (key k.If p ∷ ss) z
else_close ns _ p t _ c vs a z (InBrackets.in_brackets i) j = (s.IfElse p c a (s.Empty spot), Stmt'.if_else i j Stmt'.empty)

if_close : (ns : Names) (r : ℕ) (p : Pos) (ss : List Token) (c : Expr) (z : List Token) → InBrackets ns r ss c (close m.Semicolon ∷ key k.Else spot ∷ close m.Semicolon ∷ z) → Some' (Stmt' ns) r (key k.If p ∷ ss) z
if_close ns _ p _ c z (InBrackets.in_brackets i) = (s.IfElse p c (s.Empty spot) (s.Empty spot), Stmt'.if_else i Stmt'.empty Stmt'.empty)

while_from : (ns : Names) (r : ℕ) (p : Pos) (ss : List Token) (c : Expr) (vs : List Token) (a : Stmt) (us : List Token) → InBrackets ns r ss c vs → Within (Stmt' ns) r vs a us → Stmt' ns r (key k.While p ∷ ss) (s.While p c a) us
while_from ns _ p _ c vs a us (InBrackets.in_brackets i) j = Stmt'.while i j

while_close : (ns : Names) (r : ℕ) (p : Pos) (ss : List Token) (c : Expr) (z : List Token) → InBrackets ns r ss c (close m.Semicolon ∷ z) → Some' (Stmt' ns) r (key k.While p ∷ ss) z
while_close ns _ p _ c z (InBrackets.in_brackets i) = (s.While p c (s.Empty spot), Stmt'.while i Stmt'.empty)

do_from : (ns : Names) (r : ℕ) (p q u : Pos) (ss : List Token) (a : Stmt) (vs : List Token) (c : Expr) (us : List Token) → Within (Stmt' ns) r ss a (key k.While q ∷ vs) → InBrackets ns r vs c (mark m.Semicolon u ∷ us) → Stmt' ns r (key k.Do p ∷ ss) (s.DoWhile p a c) us
do_from ns _ p q u ss a _ c us j (InBrackets.in_brackets i) = Stmt'.do_while j i

do_close : (ns : Names) (r : ℕ) (p q : Pos) (ss : List Token) (a : Stmt) (z : List Token) → Within (Stmt' ns) r ss a (key k.While q ∷ close m.OpenParen ∷ nought ∷ close m.CloseParen ∷ close m.Semicolon ∷ z) → Some' (Stmt' ns) r (key k.Do p ∷ ss) z
do_close ns zero p q ss a z j = absurd j
do_close ns (suc r) p q ss a z j = (s.DoWhile p a zero_expr, Stmt'.do_while j (zero-whole ns r (close m.CloseParen ∷ close m.Semicolon ∷ z)))

switch_from : (ns : Names) (r : ℕ) (p t u : Pos) (ss : List Token) (c : Expr) (us : List Token) (gs : List Group) (vs : List Token) → InBrackets ns (suc r) ss c (mark m.OpenBrace t ∷ us) → Groups ns r us gs (mark m.CloseBrace u ∷ vs) → Stmt' ns (suc r) (key k.Switch p ∷ ss) (s.Switch p c gs) vs
switch_from ns r p t u _ c us gs vs (InBrackets.in_brackets i) j = Stmt'.switch i j

switch_close : (ns : Names) (r : ℕ) (p : Pos) (ss : List Token) (c : Expr) (z : List Token) → InBrackets ns r ss c (close m.OpenBrace ∷ close m.CloseBrace ∷ z) → Some' (Stmt' ns) r (key k.Switch p ∷ ss) z
switch_close ns _ p _ c z (InBrackets.in_brackets i) = (s.Switch p c [], Stmt'.switch i Groups.no_group)

return_from : (ns : Names) (r : ℕ) (p q : Pos) (ts : List Token) (c : Option Expr) (us : List Token) → Condition' ns r ts c (mark m.Semicolon q ∷ us) → Stmt' ns r (key k.Return p ∷ ts) (s.Return p c) us
return_from ns r p q _ _ us Condition'.always = Stmt'.return
return_from ns r p q ts _ us (Condition'.while i) = Stmt'.return_value i

directive_at : (ns : Names) (r : ℕ) (p q : Pos) (ss : List Token) (a : Directive) (us : List Token) → p ≡ tree.pos_of ss → Directive' ns r ss a (mark m.Semicolon q ∷ us) → Stmt' ns r ss (s.Directive p a) us
directive_at ns r p q ss a us e i = subst (λ (z : Pos). Stmt' ns r ss (s.Directive z a) us) (sym e) (Stmt'.directive i)

else_key : (j : Keyword) → is_else (Key j) ≡ true → j ≡ k.Else
else_key k.Else h = refl
else_key j h = cc

else_word : (v : Word) (p : Pos) (us : List Token) → is_else v ≡ true → key_at ((record { word = v; pos = p }) ∷ us) ≡ Some k.Else
unfolding key_at
else_word (Key j) p us h = ap Some (else_key j h)
else_word (Name w) p us h = cc
else_word (Number v u l d) p us h = cc
else_word (Mark j) p us h = cc

else_at : (ts : List Token) → begins_with_else ts ≡ true → key_at ts ≡ Some k.Else
else_at [] h = cc
else_at (t ∷ us) h = else_word t.word t.pos us h

module _ (ns : Names) (n : ℕ) (inner : Inner ns n) where
  abbrev bodies : read.Bodies
  bodies = read.bodies ns n

  block_ends : (ts : List Token) → Ends n (Stmt' ns) (Some' (Stmt' ns)) ts (read.block ns n bodies ts)
  unfolding read.block
  block_ends ts = opens_or (λ n p. (read.bodies ns n).items >>= (λ is. expect m.CloseBrace >>= (λ q. pure (s.Block (tree.block p is q))))) n m.OpenBrace ts (λ g. halts (close m.Semicolon) [] (refl, refl) (λ r z l. (s.Empty spot, Stmt'.empty)))
      (λ i h p us. seq (inner.items i h us) (close m.CloseBrace ∷ []) (λ r ss z l e. (s.Block (tree.block p (e.0) spot), Stmt'.block (e.1))) (λ is vs.
      expect_then m.CloseBrace vs [] (λ r z l ss e. (s.Block (tree.block p is spot), Stmt'.block e)) (λ q ws. done (λ r zs l f ss e. Stmt'.block e))))

  call_stmt_ends : (ts : List Token) → read.sees_call ns ts ≡ true → Ends n (Stmt' ns) (Some' (Stmt' ns)) ts (read.call_stmt ns n bodies ts)
  unfolding read.call_stmt
  call_stmt_ends ts h = seq (ends.call_ends ns n ts h) (close m.Semicolon ∷ []) (λ r ss z l e. (s.Call (e.0), Stmt'.call (e.1))) (λ c us.
      expect_then m.Semicolon us [] (λ r z l ss e. (s.Call c, Stmt'.call e)) (λ p vs. done (λ r zs l f ss e. Stmt'.call e)))

  simple_stmt_ends : (ts : List Token) → Ends n (Stmt' ns) (Some' (Stmt' ns)) ts (read.simple_ended ns n bodies (read.simple ns n) ts)
  unfolding read.simple_ended
  simple_stmt_ends ts = seq (ends.simple_ends ns n ts) (close m.Semicolon ∷ []) (λ r ss z l e. (s.Simple (e.0), Stmt'.simple_stmt (e.1))) (λ a us.
      expect_then m.Semicolon us [] (λ r z l ss e. (s.Simple a, Stmt'.simple_stmt e)) (λ p vs. done (λ r zs l f ss e. Stmt'.simple_stmt e)))

  gives_ends : (star : Bool) (x : Place) (ts : List Token) → read.sees_call ns (after ts) ≡ true
      → Ends n (λ r us a vs. (ss : List Token) → Place' ns r ss x us → begins_with_star ss ≡ star → Stmt' ns r ss a vs) (λ r us z. (ss : List Token) → Place' ns r ss x us → begins_with_star ss ≡ star → Some' (Stmt' ns) r ss z) ts (read.gives ns n bodies x ts)
  unfolding read.gives
  gives_ends star x ts h = expect_with m.Equal ts (nought ∷ close m.Semicolon ∷ []) (λ r z l ss i e. (s.Simple (simply.Assign x spot zero_expr), Stmt'.simple_stmt (Simple'.assign i (zero-whole ns r (close m.Semicolon ∷ z))))) (λ p us o.
      let c : read.sees_call ns us ≡ true = subst (λ z. read.sees_call ns (after z) ≡ true) o h in
      seq (ends.call_ends ns n us c) (close m.Semicolon ∷ []) (λ r vs z l j ss i e. (s.Gives x p (j.0), Stmt'.gives i (j.1))) (λ c vs.
      expect_then m.Semicolon vs [] (λ r z l us j ss i e. (s.Gives x p c, Stmt'.gives i j)) (λ q ws. done (λ r zs l f us j ss i e. Stmt'.gives i j))))

  assigned_stmt_ends : (star : Bool) (x : Place) (ts : List Token)
      → Ends n (λ r us a vs. (ss : List Token) → Place' ns r ss x us → begins_with_star ss ≡ star → Stmt' ns r ss a vs) (λ r us z. (ss : List Token) → Place' ns r ss x us → begins_with_star ss ≡ star → Some' (Stmt' ns) r ss z) ts (read.assigned_stmt ns n bodies star x ts)
  unfolding read.assigned_stmt read.simple_ended
  assigned_stmt_ends star x ts = ends_if (sees m.Equal ts && read.sees_call ns (after ts)) (λ h. gives_ends star x ts ((both_true (sees m.Equal ts) (read.sees_call ns (after ts)) h).1))
      (λ h. seq (ends.assigned_ends ns n star x ts) (close m.Semicolon ∷ []) (λ r vs z l j ss i e. let y = j ss i e in (s.Simple (y.0), Stmt'.simple_stmt (y.1))) (λ a us.
      expect_then m.Semicolon us [] (λ r z l vs j ss i e. (s.Simple a, Stmt'.simple_stmt (j ss i e))) (λ p ws. done (λ r zs l f vs j ss i e. Stmt'.simple_stmt (j ss i e)))))

  placed_stmt_ends : (ts : List Token) → Ends n (Stmt' ns) (Some' (Stmt' ns)) ts (read.placed ns n bodies ts)
  unfolding read.placed
  placed_stmt_ends ts = ends_if (read.sees_call ns ts) (λ h. call_stmt_ends ts h)
      (λ h. seq_front (ends.place_ends ns n ts) (close m.Equal ∷ nought ∷ close m.Semicolon ∷ []) (λ r ss z l e. (s.Simple (simply.Assign (e.0) spot zero_expr), Stmt'.simple_stmt (Simple'.assign (e.1) (zero-whole ns r (close m.Semicolon ∷ z))))) (λ x b us e f i.
      let short : length us < length ts = place-shorter i in
      ends_map (λ r vs a ws g j. g (b ++ vs) j (star_same b us vs ts f short)) (λ r vs z g j. g (b ++ vs) j (star_same b us vs ts f short)) (assigned_stmt_ends (begins_with_star ts) x us)))

  if_with_ends : (i : ℕ) → n ≡ suc i → (p : Pos) (c : Expr) (a : Stmt) (ts : List Token) → Ends n (λ r us x vs. (ws : List Token) → Within (Stmt' ns) r ws a us → (ss : List Token) → InBrackets ns r ss c ws → Stmt' ns r (key k.If p ∷ ss) x vs)
      (λ r us z. (ws : List Token) → Within (Stmt' ns) r ws a us → (ss : List Token) → InBrackets ns r ss c ws → Some' (Stmt' ns) r (key k.If p ∷ ss) z) ts (read.if_with ns n bodies p c a ts)
  if_with_ends o g p c a ts = ends_if (begins_with_else ts)
      (λ h. key_then k.Else ts (else_at ts h) (λ t us. seq (inner.stmt o g us) [] (λ r vs z l b ws j ss i. (s.IfElse p c a (b.0), if_else_from ns r p t ss c ws a vs (b.0) z i j (b.1))) (λ b vs. done (λ r zs l f us e ws j ss i. if_else_from ns r p t ss c ws a us b zs i j e))))
      (λ h. done (λ r zs l f ws j ss i. if_from ns r p ss c ws a zs i j (f.no_else h)))

  if_ends : (ts : List Token) → key_at ts ≡ Some k.If → Ends n (Stmt' ns) (Some' (Stmt' ns)) ts (read.if_stmt ns n bodies ts)
  unfolding read.if_stmt
  if_ends ts h = key_to k.If ts h (λ p. Deepens.condition refl) (λ p us. seq_with (ends.condition_ends ns n us) (close m.Semicolon ∷ key k.Else spot ∷ close m.Semicolon ∷ []) (λ r ss z l e. if_close ns r p ss (e.0) z (e.1)) (λ c vs same short room. let o = has_room room in
      seq (inner.stmt (o.0) (o.1) vs) (key k.Else spot ∷ close m.Semicolon ∷ []) (λ r ws z l e ss i. else_close ns r p spot ss c ws (e.0) z i (e.1)) (λ a ws. if_with_ends (o.0) (o.1) p c a ws)))

  while_ends : (ts : List Token) → key_at ts ≡ Some k.While → Ends n (Stmt' ns) (Some' (Stmt' ns)) ts (read.while_stmt ns n bodies ts)
  unfolding read.while_stmt
  while_ends ts h = key_to k.While ts h (λ p. Deepens.condition refl) (λ p us. seq_with (ends.condition_ends ns n us) (close m.Semicolon ∷ []) (λ r ss z l e. while_close ns r p ss (e.0) z (e.1)) (λ c vs same short room. let o = has_room room in
      seq (inner.stmt (o.0) (o.1) vs) [] (λ r ws z l e ss i. (s.While p c (e.0), while_from ns r p ss c ws (e.0) z i (e.1))) (λ a ws. done (λ r zs l f vs e ss i. while_from ns r p ss c vs a zs i e))))

  while_by_then : {G : ℕ → List Token → Stmt → List Token → Type 0} {S : ℕ → List Token → List Token → Type 0} (f : Pos → Parser Stmt) (o : Option Keyword) (ts e : List Token) → key_at ts ≡ o → ((r : ℕ) (z : List Token) → n ≤ r → S r (key k.While spot ∷ (e ++ z)) z)
      → ((p : Pos) (us : List Token) → EndsAt (close m.OpenParen ∷ []) n (λ r vs c ws. G r (key k.While p ∷ vs) c ws) (λ r vs z. S r (key k.While p ∷ vs) z) us (f p us)) → Ends n G S ts (and_then (read.while_by ns n bodies o ts) f)
  while_by_then f (Some k.While) ts e h shut go = key_to k.While ts h (λ p. Deepens.condition refl) go
  while_by_then f o ts e h shut go = halts (key k.While spot) e (refl, refl) shut

  do_ends : (ts : List Token) → key_at ts ≡ Some k.Do → Ends n (Stmt' ns) (Some' (Stmt' ns)) ts (read.do_stmt ns n bodies ts)
  unfolding read.do_stmt read.expect_while
  do_ends ts h = key_to k.Do ts h (λ p. Deepens.body) (λ p us. seq (inner.body us) (key k.While spot ∷ close m.OpenParen ∷ nought ∷ close m.CloseParen ∷ close m.Semicolon ∷ []) (λ r ss z l e. do_close ns r p spot ss (e.0) z (e.1)) (λ a vs.
      while_by_then _ (key_at vs) vs (close m.OpenParen ∷ nought ∷ close m.CloseParen ∷ close m.Semicolon ∷ []) refl (λ r z l ss j. do_close ns r p spot ss a z j) (λ q ws.
      seq (ends.condition_ends ns n ws) (close m.Semicolon ∷ []) (λ r xs z l e ss j. (s.DoWhile p a (e.0), do_from ns r p q spot ss a xs (e.0) z j (e.1))) (λ c xs.
      expect_then m.Semicolon xs [] (λ r z l vs e ss j. (s.DoWhile p a c, do_from ns r p q spot ss a vs c z j e)) (λ u ys. done (λ r zs l f vs e ss j. do_from ns r p q u ss a vs c zs j e))))))

  for_ends : (ts : List Token) → key_at ts ≡ Some k.For → Ends n (Stmt' ns) (Some' (Stmt' ns)) ts (read.for_stmt ns n bodies ts)
  unfolding read.for_stmt read.bodies
  for_ends ts h = key_to k.For ts h (λ p. Deepens.condition refl) (λ p us.
      opens_then (λ n _. within (read.first_of ns) n >>= (λ f. expect m.Semicolon >>= (λ _. within (read.expr_before ns m.Semicolon) n >>= (λ c. expect m.Semicolon >>= (λ _. within (read.simple_before ns m.CloseParen) n >>= (λ x. expect m.CloseParen >>= (λ _. (read.bodies ns n).stmt >>= (λ a. pure (s.For p f c x a))))))))) n m.OpenParen us
      (close m.Semicolon ∷ close m.Semicolon ∷ close m.CloseParen ∷ close m.Semicolon ∷ [])
      (λ r z. (s.For p first.Nothing None None (s.Empty spot), Stmt'.for First'.nothing Condition'.always Next'.nothing Stmt'.empty)) (λ i g q vs.
      seq (ends.first_ends ns i vs) (close m.Semicolon ∷ close m.Semicolon ∷ close m.CloseParen ∷ close m.Semicolon ∷ []) (λ r ss z l e. (s.For p (e.0) None None (s.Empty spot), Stmt'.for (e.1) Condition'.always Next'.nothing Stmt'.empty)) (λ f vs.
      expect_then m.Semicolon vs (close m.Semicolon ∷ close m.CloseParen ∷ close m.Semicolon ∷ []) (λ r z l ss e. (s.For p f None None (s.Empty spot), Stmt'.for e Condition'.always Next'.nothing Stmt'.empty)) (λ o vs.
      seq (ends.expr_before_ends ns i m.Semicolon vs) (close m.Semicolon ∷ close m.CloseParen ∷ close m.Semicolon ∷ []) (λ r ts z l e2 ss e. (s.For p f (e2.0) None (s.Empty spot), Stmt'.for e (e2.1) Next'.nothing Stmt'.empty)) (λ c vs.
      expect_then m.Semicolon vs (close m.CloseParen ∷ close m.Semicolon ∷ []) (λ r z l ts e2 ss e. (s.For p f c None (s.Empty spot), Stmt'.for e e2 Next'.nothing Stmt'.empty)) (λ o vs.
      seq (ends.simple_before_ends ns i m.CloseParen vs) (close m.CloseParen ∷ close m.Semicolon ∷ []) (λ r xs z l e3 ts e2 ss e. (s.For p f c (e3.0) (s.Empty spot), Stmt'.for e e2 (e3.1) Stmt'.empty)) (λ x vs.
      expect_then m.CloseParen vs (close m.Semicolon ∷ []) (λ r z l xs e3 ts e2 ss e. (s.For p f c x (s.Empty spot), Stmt'.for e e2 e3 Stmt'.empty)) (λ o vs.
      seq (inner.one i g vs) [] (λ r ys z l e4 xs e3 ts e2 ss e. (s.For p f c x (e4.0), Stmt'.for e e2 e3 (e4.1))) (λ a vs. done (λ r zs l o ys e4 xs e3 ts e2 ss e. Stmt'.for e e2 e3 e4))))))))))

  switch_ends : (ts : List Token) → key_at ts ≡ Some k.Switch → Ends n (Stmt' ns) (Some' (Stmt' ns)) ts (read.switch_stmt ns n bodies ts)
  unfolding read.switch_stmt
  switch_ends ts h = key_to k.Switch ts h (λ p. Deepens.condition refl) (λ p us. seq (ends.condition_ends ns n us) (close m.OpenBrace ∷ close m.CloseBrace ∷ []) (λ r ss z l e. switch_close ns r p ss (e.0) z (e.1)) (λ c vs.
      opens_or (λ n _. (read.bodies ns n).groups >>= (λ gs. expect m.CloseBrace >>= (λ _. pure (s.Switch p c gs)))) n m.OpenBrace vs (λ g. halts (close m.OpenBrace) (close m.CloseBrace ∷ []) (refl, refl) (λ r z l ss i. switch_close ns r p ss c z i)) (λ i g t ws.
      seq (inner.groups i g ws) (close m.CloseBrace ∷ []) (λ r xs z l e ss j. (s.Switch p c (e.0), switch_from ns r p t spot ss c xs (e.0) z j (e.1 refl))) (λ gs xs.
      expect_then m.CloseBrace xs [] (λ r z l vs e ss j. (s.Switch p c gs, switch_from ns r p t spot ss c vs gs z j e)) (λ u ys. done (λ r zs l f vs e ss j. switch_from ns r p t u ss c vs gs zs j e))))))

  break_ends : (ts : List Token) → key_at ts ≡ Some k.Break → Ends n (Stmt' ns) (Some' (Stmt' ns)) ts (read.break ns n bodies ts)
  unfolding read.break
  break_ends ts h = key_then k.Break ts h (λ p us. expect_then m.Semicolon us [] (λ r z l. (s.Break p, Stmt'.break)) (λ q vs. done (λ r zs l f. Stmt'.break)))

  return_ends : (ts : List Token) → key_at ts ≡ Some k.Return → Ends n (Stmt' ns) (Some' (Stmt' ns)) ts (read.return ns n bodies ts)
  unfolding read.return
  return_ends ts h = key_then k.Return ts h (λ p us. seq (ends.expr_before_ends ns n m.Semicolon us) (close m.Semicolon ∷ []) (λ r ss z l e. (s.Return p (e.0), return_from ns r p spot ss (e.0) z (e.1))) (λ a vs.
      expect_then m.Semicolon vs [] (λ r z l ss e. (s.Return p a, return_from ns r p spot ss a z e)) (λ q ws. done (λ r zs l f ss e. return_from ns r p q ss a zs e))))

  ended_ends : (p : Parser Directive) (ts : List Token) → Ends n (Directive' ns) (Some' (Directive' ns)) ts (p ts) → Ends n (Stmt' ns) (Some' (Stmt' ns)) ts (read.ended p ts)
  unfolding read.ended
  ended_ends p ts one = ends_map (λ r us a vs g. g refl) (λ r us z e. e) (placed_ends (λ q r ss a us. (q ≡ tree.pos_of ss) → Stmt' ns r ss a us) ts _ (λ a us e g. stmt-shorter (g refl))
      (seq one (close m.Semicolon ∷ []) (λ r ss z l e. (s.Directive (tree.pos_of ss) (e.0), Stmt'.directive (e.1))) (λ a us.
      expect_then m.Semicolon us [] (λ r z l ss e. (s.Directive (tree.pos_of ss) a, Stmt'.directive e)) (λ q vs. done (λ r zs l f ss i e. directive_at ns r (tree.pos_of ts) q ss a zs e i)))))

  empty_ends : (ts : List Token) → mark_at ts ≡ Some m.Semicolon → Ends n (Stmt' ns) (Some' (Stmt' ns)) ts (read.empty ns n bodies ts)
  unfolding read.empty
  empty_ends ts h = mark_then m.Semicolon ts h (λ p us. done (λ r zs l f. Stmt'.empty))

  mark_stmt_ends : (o : Option Punct) (ts : List Token) → mark_at ts ≡ o → Ends n (Stmt' ns) (Some' (Stmt' ns)) ts (read.mark_stmt ns n bodies o ts)
  mark_stmt_ends (Some m.OpenBrace) ts h = block_ends ts
  mark_stmt_ends (Some m.Semicolon) ts h = empty_ends ts h
  mark_stmt_ends (Some m.PlusPlus) ts h = simple_stmt_ends ts
  mark_stmt_ends (Some m.MinusMinus) ts h = simple_stmt_ends ts
  mark_stmt_ends o ts h = placed_stmt_ends ts

  stmt_by_ends : (o : Option Keyword) (ts : List Token) → key_at ts ≡ o → Ends n (Stmt' ns) (Some' (Stmt' ns)) ts (read.stmt_by ns n bodies o ts)
  stmt_by_ends None ts h = mark_stmt_ends (mark_at ts) ts refl
  stmt_by_ends (Some k.If) ts h = if_ends ts h
  stmt_by_ends (Some k.While) ts h = while_ends ts h
  stmt_by_ends (Some k.Do) ts h = do_ends ts h
  stmt_by_ends (Some k.For) ts h = for_ends ts h
  stmt_by_ends (Some k.Switch) ts h = switch_ends ts h
  stmt_by_ends (Some k.Break) ts h = break_ends ts h
  stmt_by_ends (Some k.Return) ts h = return_ends ts h
  stmt_by_ends (Some k.WaitForClock) ts h = ended_ends (read.bare n d.Wait) ts (ends.bare_ends ns n k.WaitForClock d.Wait refl (λ r p q o c t us. Directive'.wait) ts h)
  stmt_by_ends (Some k.Partition) ts h = ended_ends (read.bare n d.Partition) ts (ends.bare_ends ns n k.Partition d.Partition refl (λ r p q o c t us. Directive'.partition) ts h)
  stmt_by_ends (Some k.KnownFact) ts h = ended_ends (read.with_expr ns n d.KnownFact) ts (ends.with_expr_ends ns n k.KnownFact d.KnownFact refl (λ r p q o c t vs us a i. Directive'.known_fact i) ts h)
  stmt_by_ends (Some k.Assert) ts h = ended_ends (read.with_expr ns n d.Assert) ts (ends.with_expr_ends ns n k.Assert d.Assert refl (λ r p q o c t vs us a i. Directive'.assert i) ts h)
  stmt_by_ends (Some j) ts h = halts (close m.Semicolon) [] (refl, refl) (λ r z l. (s.Empty spot, Stmt'.empty))

  pub stmt_ends : (ts : List Token) → Ends n (Stmt' ns) (Some' (Stmt' ns)) ts (read.stmt ns n bodies ts)
  unfolding read.stmt
  stmt_ends ts = stmt_by_ends (key_at ts) ts refl

-- ---- what stands in braces
nested_front : (ns : Names) (r : ℕ) (ts : List Token) (a : Stmt) (us : List Token) → Within (Stmt' ns) r ts a us → Front (Nested ns) r ts (item.Stmt a) us
nested_front ns zero ts a us i is vs go = absurd i
nested_front ns (suc r) ts a us i is vs go = Nested.nested_stmt i go

body_front : (ns : Names) (r : ℕ) (ts : List Token) (a : Stmt) (us : List Token) → Within (Stmt' ns) r ts a us → Front (Body ns) r ts a us
body_front ns zero ts a us i ss vs go = absurd i
body_front ns (suc r) ts a us i ss vs go = Body.stmt i go

-- ---- labels end with a colon
whole_shrinks : (k : ℕ) (ts : List Token) (a : Expr) (us : List Token) (x : Read Expr) → x ≡ Got a us → Shrinks k ts x → (c : List Token) × (ts ≡ c ++ us)
whole_shrinks k ts a us _ e (Shrinks.got xs h l) = let same : _ ≡ us = cc in (xs, h ∙ ap (λ z. xs ++ z) same)
whole_shrinks k ts a us _ e (Shrinks.stuck xs h) = cc
whole_shrinks k ts a us _ e (Shrinks.deep xs h) = cc

-- the tokens before the colon, and the colon
abbrev Colon : List Token → List Token → Type 0
Colon ts us = (c : List Token) × (q : Pos) × (ts ≡ c ++ mark m.Colon q ∷ us)

label_colon : {ns : Names} {n : ℕ} {ts : List Token} {l : Label} {us : List Token} → Label' ns n ts l us → Colon ts us
label_colon {ns} (Label'.case {n = n} {ts = ts} {us = us} {p = p} {q = q} {a = a} w) =
    let x = whole_shrinks 0 ts a (mark m.Colon q ∷ us) (read.expr ns n ts) (whole-complete w (ends-colon q us)) ((fine.expr_fine ns n).shrinks ts) in
    (key k.Case p ∷ x.0, q, ap (λ z. key k.Case p ∷ z) (x.1))
label_colon (Label'.default {p = p} {q = q}) = (key k.Default p ∷ [], q, refl)

labels_colon : {ns : Names} {n : ℕ} {ts : List Token} {ls : List Label} {us : List Token} → Labels ns n ts ls us → Colon ts us
labels_colon (Labels.last_label i h) = label_colon i
labels_colon (Labels.next_label {us = us} {vs = vs} i more) =
    let x = label_colon i in
    let y = labels_colon more in
    (x.0 ++ mark m.Colon (x.1) ∷ y.0, y.1, x.2 ∙ ap (λ z. x.0 ++ mark m.Colon (x.1) ∷ z) (y.2) ∙ sym (append_assoc (x.0) (mark m.Colon (x.1) ∷ y.0) (mark m.Colon (y.1) ∷ vs)))

cancel : (b d us : List Token) → b ++ us ≡ d ++ us → b ≡ d
cancel [] [] us e = refl
cancel [] (x ∷ d) us e = let n : length us ≡ length (x ∷ d ++ us) = ap length e in let k : length (d ++ us) ≡ length d + length us = length-append d us in absurd (omega (arith, n, k))
cancel (x ∷ b) [] us e = let n : length (x ∷ b ++ us) ≡ length us = ap length e in let k : length (b ++ us) ≡ length b + length us = length-append b us in absurd (omega (arith, n, k))
cancel (x ∷ b) (y ∷ d) us e = let same : x ≡ y = cc in let rest : b ++ us ≡ d ++ us = cc in let more : b ≡ d = cancel b d us rest in cc

label_last : (ns : Names) (n : ℕ) (ts : List Token) (l : Label) (b us : List Token) → ts ≡ b ++ us → Label' ns n ts l us → Last (close m.Semicolon ∷ []) [] b
label_last ns n ts l b us e i =
    let x = label_colon i in
    Last.ended (x.0) (mark m.Colon (x.1)) (cancel b (x.0 ++ mark m.Colon (x.1) ∷ []) us (sym e ∙ x.2 ∙ sym (append_assoc (x.0) (mark m.Colon (x.1) ∷ []) us))) Deepens.labelled

behind_two : (x y z w : Token) (b c : List Token) → x ∷ y ∷ z ∷ b ≡ c ++ w ∷ [] → (d : List Token) × (z ∷ b ≡ d ++ w ∷ [])
behind_two x y z w b [] e = let n : length (x ∷ y ∷ z ∷ b) ≡ length (w ∷ []) = ap length e in absurd (omega (arith, n))
behind_two x y z w b (v ∷ []) e = let n : length (x ∷ y ∷ z ∷ b) ≡ length (v ∷ w ∷ []) = ap length e in absurd (omega (arith, n))
behind_two x y z w b (v ∷ u ∷ d) e = (d, cc)

more_last : (ns : Names) (n : ℕ) (ts : List Token) (ls : List Label) (b us : List Token) → ts ≡ b ++ us → sound.MoreLabels ns n ts ls us → Last (close m.Semicolon ∷ []) (close m.Semicolon ∷ []) b
more_last ns n ts ls [] us e more = Last.untouched refl refl
more_last ns n ts ls (z ∷ b) us e more =
    let x = labels_colon (more (key k.Default spot ∷ mark m.Colon spot ∷ ts) (label.Default spot) Label'.default) in
    let front : key k.Default spot ∷ mark m.Colon spot ∷ z ∷ b ≡ x.0 ++ mark m.Colon (x.1) ∷ [] = cancel (key k.Default spot ∷ mark m.Colon spot ∷ z ∷ b) (x.0 ++ mark m.Colon (x.1) ∷ []) us (ap (λ v. key k.Default spot ∷ mark m.Colon spot ∷ v) (sym e) ∙ x.2 ∙ sym (append_assoc (x.0) (mark m.Colon (x.1) ∷ []) us)) in
    let y = behind_two (key k.Default spot) (mark m.Colon spot) z (mark m.Colon (x.1)) b (x.0) front in
    Last.ended (y.0) (mark m.Colon (x.1)) (y.1) Deepens.labelled

module _ (ns : Names) (n : ℕ) (inner : Inner ns n) where
  nested_item_ends : (ts : List Token) → Ends n (Front (Nested ns)) (Some' (Nested ns)) ts (read.block_item ns n (read.bodies ns n) (read.bodies ns n).stmt ts)
  unfolding read.block_item
  nested_item_ends ts = ends_if (begins_type ns ts)
      (λ h. seq (ends.local_ends ns n ts) [] (λ r ss z l e. (item.Local (e.0) ∷ [], Nested.nested_local (e.1) Nested.no_item)) (λ x us. done (λ r zs l f ss e is vs go. Nested.nested_local e go)))
      (λ h. inner.nested ts)

  nested_ends : (ts : List Token) → Ends n (Nested ns) (Some' (Nested ns)) ts (read.block_items ns n (read.bodies ns n) (read.bodies ns n).stmt ts)
  unfolding read.block_items
  nested_ends ts = many_ends n (Nested ns) read.no_close (read.block_item ns n (read.bodies ns n) (read.bodies ns n).stmt) (fine.block_item_fine ns n (read.bodies ns n) (bodies_fine ns n) (read.bodies ns n).stmt (bodies_fine ns n).stmt)
      (λ r us vs h f. Nested.no_item) (λ us h. nested_item_ends us) ts

  more_labels_ends : (ts : List Token) → Ends n (λ r ts ls us. sound.MoreLabels ns r ts ls us) (λ r ts z. (ls : List Label) × (begins_with_label z ≡ false → sound.MoreLabels ns r ts ls z)) ts (many begins_with_label (read.a_label ns n) ts)
  more_labels_ends ts = many_to n (λ r ts ls us. sound.MoreLabels ns r ts ls us) (λ r ts z. (ls : List Label) × (begins_with_label z ≡ false → sound.MoreLabels ns r ts ls z)) begins_with_label (read.a_label ns n) (fine.a_label_fine ns n)
      (λ r us vs h f ss l i. Labels.last_label i (f.no_label h)) (λ r ts x us z j t. (x ∷ t.0, λ h. j (t.0) z (t.1 h)))
      (λ us h. ends_map (λ r us l vs i xs ws go ss x j. Labels.next_label j (go us l i)) (λ r us z e. (e.0 ∷ [], λ g ss x j. Labels.next_label j (Labels.last_label (e.1) g))) (ends.label_ends ns n us h)) ts

  a_group_ends : (ts : List Token) → begins_with_label ts ≡ true → Ends n (Front (Groups ns)) (Some' (EndedGroups ns)) ts (read.a_group ns n (read.bodies ns n) ts)
  unfolding read.a_group
  a_group_ends ts h = seq_last (close m.Semicolon ∷ []) (ends.label_ends ns n ts h) [] (λ r ss z l e. (tree.group (e.0 ∷ []) [] ∷ [], λ g. Groups.group (Labels.last_label (e.1) g) Body.no_stmt Groups.no_group)) (λ x b us e i. label_last ns n ts x b us e i) (λ x us.
      seq_last (close m.Semicolon ∷ []) (anyway (close m.Semicolon ∷ []) (more_labels_ends us)) [] (λ r vs z l e ss i. (tree.group (x ∷ e.0) [] ∷ [], λ g. Groups.group (e.1 g ss x i) Body.no_stmt Groups.no_group)) (λ ls b vs e i. more_last ns n us ls b vs e i) (λ ls vs.
      seq (inner.first vs) [] (λ r ws z l b us j ss i. (tree.group (x ∷ ls) (b.0) ∷ [], λ g. Groups.group (j ss x i) (b.1) Groups.no_group)) (λ bs ws. done (λ r zs l f vs b us j ss i gs ys go. Groups.group (j ss x i) b go))))

  groups_ends : (ts : List Token) → Ends n (Groups ns) (Some' (EndedGroups ns)) ts (read.groups ns n (read.bodies ns n) ts)
  unfolding read.groups
  groups_ends ts = many_to n (Groups ns) (Some' (EndedGroups ns)) begins_with_label (read.a_group ns n (read.bodies ns n)) (fine.a_group_fine ns n (read.bodies ns n) (bodies_fine ns n))
      (λ r us vs h f. Groups.no_group) (λ r ts x us z j t. (x ∷ t.0, λ h. j (t.0) z (t.1 h))) a_group_ends ts

nested_from : (ns : Names) (n : ℕ) (ts : List Token) → Ends n (Within (Stmt' ns)) (Some' (Within (Stmt' ns))) ts ((read.bodies ns n).stmt ts) → Ends n (Front (Nested ns)) (Some' (Nested ns)) ts (((read.bodies ns n).stmt >>= (λ a. pure (item.Stmt a))) ts)
nested_from ns n ts one = seq one [] (λ r ss z l e. (item.Stmt (e.0) ∷ [], nested_front ns r ss (e.0) z (e.1) [] z Nested.no_item)) (λ a us. done (λ r zs l f ss e. nested_front ns r ss a zs e))

stmts_from : (ns : Names) (n : ℕ) → ((ts : List Token) → Ends n (Within (Stmt' ns)) (Some' (Within (Stmt' ns))) ts ((read.bodies ns n).stmt ts)) → (ts : List Token) → Ends n (Body ns) (Some' (Body ns)) ts (many (read.goes_on ns n (read.bodies ns n)) (read.bodies ns n).stmt ts)
stmts_from ns n one ts = many_ends n (Body ns) (read.goes_on ns n (read.bodies ns n)) (read.bodies ns n).stmt (bodies_fine ns n).stmt (λ r us vs h f. Body.no_stmt)
    (λ us h. ends_map (λ r us a vs i. body_front ns r us a vs i) (λ r us z e. (e.0 ∷ [], body_front ns r us (e.0) z (e.1) [] z Body.no_stmt)) (one us)) ts

at_room : (ns : Names) (n : ℕ) → Inner ns n → Inner ns (suc n)
unfolding read.bodies
at_room ns n below =
    let stmt : (ts : List Token) → Ends (suc n) (Within (Stmt' ns)) (Some' (Within (Stmt' ns))) ts ((read.bodies ns (suc n)).stmt ts) = λ ts. shifted {G = Within (Stmt' ns)} {S = Some' (Within (Stmt' ns))} n ts (stmt_ends ns n below ts) in
    record {
      stmt = λ i h. stmt;
      body = λ ts. anyway (close m.Semicolon ∷ []) (stmt ts);
      first = λ ts. anyway (close m.Semicolon ∷ []) (stmts_from ns (suc n) stmt ts);
      nested = λ ts. nested_from ns (suc n) ts (stmt ts);
      one = λ i h ts. let same : n ≡ i = omega (arith, h) in subst (λ i. Ends i (Stmt' ns) (Some' (Stmt' ns)) ts (read.stmt_at ns i ts)) same (stmt_ends ns n below ts);
      items = λ i h ts. let same : n ≡ i = omega (arith, h) in subst (λ i. Ends i (Nested ns) (Some' (Nested ns)) ts ((read.bodies ns (suc i)).items ts)) same (nested_ends ns n below ts);
      groups = λ i h ts. let same : n ≡ i = omega (arith, h) in subst (λ i. Ends i (Groups ns) (Some' (EndedGroups ns)) ts ((read.bodies ns (suc i)).groups ts)) same (groups_ends ns n below ts);
    }

empty_body : (ns : Names) (r : ℕ) (z : List Token) → 1 ≤ r → Some' (Body ns) r (close m.Semicolon ∷ z) z
empty_body ns zero z l = absurd (omega (arith, l))
empty_body ns (suc r) z l = (s.Empty spot ∷ [], Body.stmt Stmt'.empty Body.no_stmt)

none_first : (ns : Names) (ts : List Token) → EndsAt (close m.Semicolon ∷ []) zero (Body ns) (Some' (Body ns)) ts (many (read.goes_on ns zero (read.bodies ns zero)) (read.bodies ns zero).stmt ts)
unfolding loop_from read.bodies
none_first ns ts = ends_if (read.goes_on ns zero (read.bodies ns zero) ts)
    (λ g. no_stmt_then (read.begins_stmt ns ts) _ ts (waits (close m.Semicolon ∷ []) (close m.Semicolon) [] [] refl (refl, refl) (λ r z l. empty_body ns r z (omega (arith, l)))))
    (λ g. done (λ r vs l f. Body.no_stmt))

none_nested : (ns : Names) (ts : List Token) → Ends zero (Front (Nested ns)) (Some' (Nested ns)) ts (((read.bodies ns zero).stmt >>= (λ a. pure (item.Stmt a))) ts)
unfolding read.bodies
none_nested ns ts = no_stmt_then (read.begins_stmt ns ts) _ ts (halts int (word letter spot ∷ close m.Semicolon ∷ []) (refl, refl) (λ r z l.
    (item.Local (tree.local int_type (tree.local_declr letter_declr begins.Nothing ∷ [])) ∷ [], Nested.nested_local (Local'.local (int-type ns r (word letter spot ∷ close m.Semicolon ∷ z) ScalarWords.no_word) (LocalDeclrs.last_local (LocalDeclr'.plain (Declr'.declr Bounds.no_bound)))) Nested.no_item)))

pub inner_ends : (ns : Names) (n : ℕ) → Inner ns n
unfolding read.bodies
inner_ends ns zero = record { stmt = λ i h. cc; body = no_stmt_ends ns; first = none_first ns; nested = none_nested ns; one = λ i h. cc; items = λ i h. cc; groups = λ i h. cc }
inner_ends ns (suc n) = at_room ns n (inner_ends ns n)

-- in the braces of a function
outer_item_ends : (ns : Names) (n : ℕ) (ts : List Token) → Ends n (Front (Outermost ns)) (Some' (Outermost ns)) ts (read.block_item ns n (read.bodies ns n) (read.stmt_at ns n) ts)
unfolding read.block_item
outer_item_ends ns n ts = ends_if (begins_type ns ts)
    (λ h. seq (ends.local_ends ns n ts) [] (λ r ss z l e. (item.Local (e.0) ∷ [], Outermost.local_item (e.1) Outermost.no_item)) (λ x us. done (λ r zs l f ss e is vs go. Outermost.local_item e go)))
    (λ h. seq (stmt_ends ns n (inner_ends ns n) ts) [] (λ r ss z l e. (item.Stmt (e.0) ∷ [], Outermost.stmt_item (e.1) Outermost.no_item)) (λ a us. done (λ r zs l f ss e is vs go. Outermost.stmt_item e go)))

pub outermost_ends : (ns : Names) (n : ℕ) (ts : List Token) → Ends n (Outermost ns) (Some' (Outermost ns)) ts (read.outermost ns n ts)
unfolding read.outermost read.block_items
outermost_ends ns n ts = many_ends n (Outermost ns) read.no_close (read.block_item ns n (read.bodies ns n) (read.stmt_at ns n)) (fine.block_item_fine ns n (read.bodies ns n) (bodies_fine ns n) (read.stmt_at ns n) (fine.stmt_fine ns n (read.bodies ns n) (bodies_fine ns n)))
    (λ r us vs h f. Outermost.no_item) (λ us h. outer_item_ends ns n us) ts
