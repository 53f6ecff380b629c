-- What is open in a statement that goes too deep can be closed.
use Rattle.std.proofs.Common.{◌≡◌, ℕ, zero, suc, List, [], ◌∷◌, ◌++◌, Bool, true, false, cond, refl, subst, arith, Option, Some, None}
use Rattle.std.specs.Prelude.{◌&&◌, ◌||◌}
use Rattle.sa_base.specs.declared.pos.Pos.{Pos}
use Rattle.sa_tokens.specs.declared.keyword.Keyword.{Keyword}
use Rattle.sa_tokens.specs.declared.keyword.Keyword.TheVariants as k
use Rattle.sa_tokens.specs.declared.punct.Punct.{Punct}
use Rattle.sa_tokens.specs.declared.punct.Punct.TheVariants as m
use Rattle.sa_tokens.specs.declared.token.Word.{Word}
use Rattle.sa_tokens.specs.declared.token.Word.TheVariants.{Name, Number, Key, Mark}
use Rattle.sa_tokens.specs.declared.token.Token.{Token}
use Rattle.sa_syntax.specs.declared.expr.Expr.{Expr}
use Rattle.sa_syntax.specs.declared.expr.Place.{Place}
use Rattle.sa_syntax.specs.declared.stmt.Update.TheVariants as update_word
use Rattle.sa_syntax.specs.declared.expr.PlaceBase.TheVariants as at
use Rattle.sa_syntax.specs.declared.stmt.Simple.{Simple}
use Rattle.sa_syntax.specs.declared.stmt.Simple.TheVariants as simply
use Rattle.sa_syntax.specs.declared.stmt.Call.{Call}
use Rattle.sa_syntax.specs.declared.stmt.Directive.TheVariants as d
use Rattle.sa_syntax.specs.declared.stmt.First.TheVariants as first
use Rattle.sa_syntax.specs.declared.stmt.Stmt.{Stmt}
use Rattle.sa_syntax.specs.declared.stmt.Stmt.TheVariants as s
use Rattle.sa_syntax.specs.declared.stmt.BlockItem.TheVariants as item
use Rattle.sa_syntax.specs.declared.stmt.Group.{Group}
use Rattle.sa_syntax.specs.declared.stmt.First.{First}
use Rattle.sa_syntax.specs.Trees as tree
use Rattle.sa_syntax.specs.Words.{Names, mark, key, word, named, is_type_name, begins_with_star, begins_with_else, begins_with_label}
use Rattle.sa_syntax.specs.Expressions.{Place', Steps}
use Rattle.sa_syntax.specs.Statements.{Call', Simple', Directive', First', Condition', Next', Labels, Stmt', Nested, Groups, Body, Outermost}
use Rattle.sa_syntax.specs.Reading.{Parser, and_then, sees, after, expect, name_at, key_at, mark_at, many, pure, ◌>>=◌}
use Rattle.sa_syntax.specs.ReadExpr.{begins_type, is_some}
use Rattle.sa_syntax.specs.ReadStmt as read
use Rattle.sa_syntax.specs.ReadStmt.{Bodies, takes, within, list}
use Rattle.sa_syntax.proofs.ReadingLemmas.{map_yields, Marked, Keyed, KeyAt, key_at_is}
use Rattle.sa_syntax.proofs.ExprSound.{Within}
use Rattle.sa_syntax.proofs.StmtSound as sound
use Rattle.sa_syntax.proofs.StmtSound.{InBrackets}
use Rattle.sa_syntax.proofs.RoomLemmas.{less_many}
use Rattle.sa_syntax.proofs.NearLemmas.{wider}
use Rattle.sa_syntax.proofs.NearStmt as near
use Rattle.sa_syntax.proofs.DeepLemmas.{loosen, fine_many}
use Rattle.sa_syntax.proofs.DeepStmt as fine
use Rattle.sa_syntax.proofs.ClosingLemmas.{Closed, Calm, Good, Any, Some', Front, calm_then, calm_takes, calm_ends, closed_calm, closed_map, closed_if, deeper_room, closed_then, closed_next, closed_last, closed_tail, closed_opens, closed_many, closed_through, direct_many, calm_expect, good_expect, stepped}
use Rattle.sa_syntax.proofs.ClosingExpr.{spot, close, nought, fresh, fresh-is, zero-whole}
use Rattle.sa_syntax.proofs.UnitSound as unit_sound
use Rattle.sa_syntax.proofs.UnitSound.{bodies_sound}
use Rattle.sa_syntax.proofs.NearStmt.{bodies_near, stmt_at_near}
use Rattle.sa_syntax.proofs.DeepUnit.{bodies_fine}
use Rattle.sa_syntax.proofs.ClosingStmt.{zero_expr, place_closed, good_place, call_closed, assigned_closed, simple_closed, local_closed, bare_closed, with_expr_closed, ended_closed, condition_closed, good_condition, first_of_closed, expr_before_closed, simple_before_closed, good_first, good_expr_before, good_simple_before, a_label_closed, good_label, more_labels_closed}

-- ---- a statement by its first token
abbrev Starts : Names → Token → Type 0
Starts ns t = (d : List Token) × ((rest : List Token) → Some' (Stmt' ns) 3 (t ∷ (d ++ rest)) rest)

abbrev semicolon : Token
semicolon = close m.Semicolon

empty-stmt : (ns : Names) (n : ℕ) (rest : List Token) → Stmt' ns n (semicolon ∷ rest) (s.Empty spot) rest
empty-stmt ns n rest = Stmt'.empty

key_starts : (ns : Names) (kw : Keyword) (p : Pos) → read.key_begins kw ≡ true → Starts ns (key kw p)
key_starts ns k.If p h = (close m.OpenParen ∷ nought ∷ close m.CloseParen ∷ semicolon ∷ key k.Else spot ∷ semicolon ∷ [], λ rest. (s.IfElse p zero_expr (s.Empty spot) (s.Empty spot), Stmt'.if_else (zero-whole ns 2 (close m.CloseParen ∷ semicolon ∷ key k.Else spot ∷ semicolon ∷ rest)) Stmt'.empty Stmt'.empty))
key_starts ns k.While p h = (close m.OpenParen ∷ nought ∷ close m.CloseParen ∷ semicolon ∷ [], λ rest. (s.While p zero_expr (s.Empty spot), Stmt'.while (zero-whole ns 2 (close m.CloseParen ∷ semicolon ∷ rest)) Stmt'.empty))
key_starts ns k.Do p h = (semicolon ∷ key k.While spot ∷ close m.OpenParen ∷ nought ∷ close m.CloseParen ∷ semicolon ∷ [], λ rest. (s.DoWhile p (s.Empty spot) zero_expr, Stmt'.do_while Stmt'.empty (zero-whole ns 2 (close m.CloseParen ∷ semicolon ∷ rest))))
key_starts ns k.For p h = (close m.OpenParen ∷ semicolon ∷ semicolon ∷ close m.CloseParen ∷ semicolon ∷ [], λ rest. (s.For p first.Nothing None None (s.Empty spot), Stmt'.for First'.nothing Condition'.always Next'.nothing Stmt'.empty))
key_starts ns k.Switch p h = (close m.OpenParen ∷ nought ∷ close m.CloseParen ∷ close m.OpenBrace ∷ close m.CloseBrace ∷ [], λ rest. (s.Switch p zero_expr [], Stmt'.switch (zero-whole ns 2 (close m.CloseParen ∷ close m.OpenBrace ∷ close m.CloseBrace ∷ rest)) Groups.no_group))
key_starts ns k.Break p h = (semicolon ∷ [], λ rest. (s.Break p, Stmt'.break))
key_starts ns k.Return p h = (semicolon ∷ [], λ rest. (s.Return p None, Stmt'.return))
key_starts ns k.WaitForClock p h = (close m.OpenParen ∷ close m.OpenParen ∷ close m.CloseParen ∷ close m.CloseParen ∷ semicolon ∷ [], λ rest. (s.Directive p d.Wait, Stmt'.directive Directive'.wait))
key_starts ns k.Partition p h = (close m.OpenParen ∷ close m.OpenParen ∷ close m.CloseParen ∷ close m.CloseParen ∷ semicolon ∷ [], λ rest. (s.Directive p d.Partition, Stmt'.directive Directive'.partition))
key_starts ns k.KnownFact p h = (close m.OpenParen ∷ close m.OpenParen ∷ nought ∷ close m.CloseParen ∷ close m.CloseParen ∷ semicolon ∷ [], λ rest. (s.Directive p (d.KnownFact zero_expr), Stmt'.directive (Directive'.known_fact (zero-whole ns 1 (close m.CloseParen ∷ close m.CloseParen ∷ semicolon ∷ rest)))))
key_starts ns k.Assert p h = (close m.OpenParen ∷ close m.OpenParen ∷ nought ∷ close m.CloseParen ∷ close m.CloseParen ∷ semicolon ∷ [], λ rest. (s.Directive p (d.Assert zero_expr), Stmt'.directive (Directive'.assert (zero-whole ns 1 (close m.CloseParen ∷ close m.CloseParen ∷ semicolon ∷ rest)))))
key_starts ns kw p h = cc

fresh-place : (ns : Names) (n : ℕ) (rest : List Token) → Place' ns n (word (fresh ns) spot ∷ rest) (tree.place (at.Name (named (fresh ns) spot)) []) rest
fresh-place ns n rest = Place'.name (fresh-is ns) Steps.no_step

assigned-zero : (ns : Names) (n : ℕ) (ts : List Token) (x : Place) (rest : List Token) → Place' ns n ts x (close m.Equal ∷ nought ∷ semicolon ∷ rest) → Some' (Stmt' ns) n ts rest
assigned-zero ns n ts x rest i = (s.Simple (simply.Assign x spot zero_expr), Stmt'.simple_stmt (Simple'.assign i (zero-whole ns n (semicolon ∷ rest))))

mark_starts : (ns : Names) (mk : Punct) (p : Pos) → read.mark_begins mk ≡ true → Starts ns (mark mk p)
mark_starts ns m.OpenBrace p h = (close m.CloseBrace ∷ [], λ rest. (s.Block (tree.block p [] spot), Stmt'.block Nested.no_item))
mark_starts ns m.Semicolon p h = ([], λ rest. (s.Empty p, Stmt'.empty))
mark_starts ns m.OpenParen p h = (close m.Star ∷ word (fresh ns) spot ∷ close m.CloseParen ∷ close m.Equal ∷ nought ∷ semicolon ∷ [], λ rest. assigned-zero ns 3 (mark m.OpenParen p ∷ close m.Star ∷ word (fresh ns) spot ∷ close m.CloseParen ∷ close m.Equal ∷ nought ∷ semicolon ∷ rest) _ rest (Place'.through (fresh-is ns) Steps.no_step))
mark_starts ns m.Star p h = (word (fresh ns) spot ∷ close m.Equal ∷ nought ∷ semicolon ∷ [], λ rest. assigned-zero ns 3 (mark m.Star p ∷ word (fresh ns) spot ∷ close m.Equal ∷ nought ∷ semicolon ∷ rest) _ rest (Place'.star (fresh-is ns)))
mark_starts ns m.PlusPlus p h = (word (fresh ns) spot ∷ semicolon ∷ [], λ rest. (s.Simple (simply.Before update_word.Increment p (tree.place (at.Name (named (fresh ns) spot)) [])), Stmt'.simple_stmt (Simple'.before refl (fresh-place ns 3 (semicolon ∷ rest)))))
mark_starts ns m.MinusMinus p h = (word (fresh ns) spot ∷ semicolon ∷ [], λ rest. (s.Simple (simply.Before update_word.Decrement p (tree.place (at.Name (named (fresh ns) spot)) [])), Stmt'.simple_stmt (Simple'.before refl (fresh-place ns 3 (semicolon ∷ rest)))))
mark_starts ns mk p h = cc

name_starts : (ns : Names) (v : List ℕ) (p : Pos) (b : Bool) → is_type_name ns v ≡ b → is_some (cond b None (Some (named v p))) ≡ true → Starts ns (word v p)
name_starts ns v p true e h = cc
name_starts ns v p false e h = (close m.Equal ∷ nought ∷ semicolon ∷ [], λ rest. assigned-zero ns 3 (word v p ∷ close m.Equal ∷ nought ∷ semicolon ∷ rest) _ rest (Place'.name e Steps.no_step))

or_false : (b : Bool) → (b || false) ≡ true → b ≡ true
or_false true h = refl
or_false false h = cc

word_starts : (ns : Names) (w : Word) (p : Pos) (us : List Token) → let t : Token = record { word = w; pos = p } in read.begins_stmt ns (t ∷ us) ≡ true → Starts ns t
unfolding read.begins_stmt key_at mark_at name_at
word_starts ns (Name v) p us h = name_starts ns v p (is_type_name ns v) refl h
word_starts ns (Number v u l d) p us h = cc
word_starts ns (Key j) p us h = key_starts ns j p (or_false (read.key_begins j) (or_false (read.key_begins j || false) h))
word_starts ns (Mark j) p us h = mark_starts ns j p (or_false (read.mark_begins j) h)

-- where no statement may be open
no_stmt_closed : (ns : Names) (ts : List Token) → Closed Any (Some' (Within (Stmt' ns))) zero ts (read.no_stmt ns ts)
unfolding read.begins_stmt key_at mark_at name_at
no_stmt_closed ns [] = Closed.stuck
no_stmt_closed ns (t ∷ ts) = closed_if (read.begins_stmt ns (t ∷ ts)) (λ h. let k = word_starts ns t.word t.pos ts h in Closed.deep [] (k.0) 4 refl (omega arith) tt (k.1)) (λ h. Closed.stuck)

-- ---- the readers of what stands one deeper
abbrev inner_stmt : Names → ℕ → Parser Stmt
inner_stmt ns n = (read.bodies ns n).stmt

good_inner : (ns : Names) → Good (inner_stmt ns) (Within (Stmt' ns))
good_inner ns = record { fine = λ n. loosen (bodies_fine ns n).stmt; less = wider (λ n. (read.bodies ns n).stmt) (λ j n more e. (bodies_near ns j n more e).stmt); sound = λ n. (bodies_sound ns n).stmt }

-- groups, where no label follows
abbrev pub EndedGroups : Names → ℕ → List Token → List Group → List Token → Type 0
EndedGroups ns more ts gs us = begins_with_label us ≡ false → Groups ns more ts gs us

pub record Inner (ns : Names) (n : ℕ) : Type 0 where
  pub stmt : (ts : List Token) → Closed Any (Some' (Within (Stmt' ns))) n ts (inner_stmt ns n ts)
  pub one : (i : ℕ) → n ≡ suc i → (ts : List Token) → Closed Any (Some' (Stmt' ns)) i ts (read.stmt_at ns i ts)
  pub items : (i : ℕ) → n ≡ suc i → (ts : List Token) → Closed Any (Some' (Nested ns)) i ts ((read.bodies ns (suc i)).items ts)
  pub groups : (i : ℕ) → n ≡ suc i → (ts : List Token) → Closed Any (Some' (EndedGroups ns)) i ts ((read.bodies ns (suc i)).groups ts)

-- ---- what the parts make
if_none : (ns : Names) (more : ℕ) (p : Pos) (us : List Token) (c : Expr) (rest : List Token) → InBrackets ns more us c (semicolon ∷ key k.Else spot ∷ semicolon ∷ rest) → Some' (Stmt' ns) more (key k.If p ∷ us) rest
if_none ns _ p _ c rest (InBrackets.in_brackets w) = (s.IfElse p c (s.Empty spot) (s.Empty spot), Stmt'.if_else w Stmt'.empty Stmt'.empty)

if_one : (ns : Names) (more : ℕ) (p : Pos) (us : List Token) (c : Expr) (vs : List Token) (a : Stmt) (rest : List Token) → InBrackets ns more us c vs → Within (Stmt' ns) more vs a (key k.Else spot ∷ semicolon ∷ rest) → Some' (Stmt' ns) more (key k.If p ∷ us) rest
if_one ns _ p _ c vs a rest (InBrackets.in_brackets w) i = (s.IfElse p c a (s.Empty spot), Stmt'.if_else w i Stmt'.empty)

if_two : (ns : Names) (more : ℕ) (p : Pos) (us : List Token) (c : Expr) (vs : List Token) (a : Stmt) (q : Pos) (ws : List Token) (b : Stmt) (rest : List Token) → InBrackets ns more us c vs → Within (Stmt' ns) more vs a (key k.Else q ∷ ws) → Within (Stmt' ns) more ws b rest → Some' (Stmt' ns) more (key k.If p ∷ us) rest
if_two ns _ p _ c vs a q ws b rest (InBrackets.in_brackets w) i j = (s.IfElse p c a b, Stmt'.if_else w i j)

while_none : (ns : Names) (more : ℕ) (p : Pos) (us : List Token) (c : Expr) (rest : List Token) → InBrackets ns more us c (semicolon ∷ rest) → Some' (Stmt' ns) more (key k.While p ∷ us) rest
while_none ns _ p _ c rest (InBrackets.in_brackets w) = (s.While p c (s.Empty spot), Stmt'.while w Stmt'.empty)

while_one : (ns : Names) (more : ℕ) (p : Pos) (us : List Token) (c : Expr) (vs : List Token) (a : Stmt) (rest : List Token) → InBrackets ns more us c vs → Within (Stmt' ns) more vs a rest → Some' (Stmt' ns) more (key k.While p ∷ us) rest
while_one ns _ p _ c vs a rest (InBrackets.in_brackets w) i = (s.While p c a, Stmt'.while w i)

do_none : (ns : Names) (more : ℕ) (p : Pos) (us : List Token) (a : Stmt) (rest : List Token) → Within (Stmt' ns) more us a (key k.While spot ∷ close m.OpenParen ∷ nought ∷ close m.CloseParen ∷ semicolon ∷ rest) → Some' (Stmt' ns) more (key k.Do p ∷ us) rest
do_none ns zero p us a rest i = absurd i
do_none ns (suc more) p us a rest i = (s.DoWhile p a zero_expr, Stmt'.do_while i (zero-whole ns more (close m.CloseParen ∷ semicolon ∷ rest)))

do_one : (ns : Names) (more : ℕ) (p : Pos) (us : List Token) (a : Stmt) (q : Pos) (vs ws : List Token) (c : Expr) (rest : List Token) → Within (Stmt' ns) more us a vs → KeyAt k.While vs q ws → InBrackets ns more ws c (semicolon ∷ rest) → Some' (Stmt' ns) more (key k.Do p ∷ us) rest
do_one ns _ p us a q _ _ c rest i KeyAt.key_at_front (InBrackets.in_brackets w) = (s.DoWhile p a c, Stmt'.do_while i w)

switch_none : (ns : Names) (more : ℕ) (p : Pos) (us : List Token) (c : Expr) (rest : List Token) → InBrackets ns more us c (close m.OpenBrace ∷ close m.CloseBrace ∷ rest) → Some' (Stmt' ns) more (key k.Switch p ∷ us) rest
switch_none ns _ p _ c rest (InBrackets.in_brackets w) = (s.Switch p c [], Stmt'.switch w Groups.no_group)

switch_some : (ns : Names) (more : ℕ) (p : Pos) (us : List Token) (c : Expr) (q : Pos) (vs : List Token) (gs : List Group) (rest : List Token) → InBrackets ns (suc more) us c (mark m.OpenBrace q ∷ vs) → Groups ns more vs gs (close m.CloseBrace ∷ rest) → Some' (Stmt' ns) (suc more) (key k.Switch p ∷ us) rest
switch_some ns _ p _ c q vs gs rest (InBrackets.in_brackets w) g = (s.Switch p c gs, Stmt'.switch w g)

else_word : (w : Word) (p : Pos) (us : List Token) → let t : Token = record { word = w; pos = p } in begins_with_else (t ∷ us) ≡ true → Keyed k.Else (t ∷ us)
else_word (Key k.Else) p us h = Keyed.keyed
else_word w p us h = cc

else_is : (ts : List Token) → begins_with_else ts ≡ true → Keyed k.Else ts
else_is [] h = cc
else_is (t ∷ ts) h = else_word t.word t.pos ts h

gives_place : (ns : Names) (more : ℕ) (x : Place) (us : List Token) (p : Pos) (vs : List Token) (c : Call) (rest : List Token) → Marked m.Equal us p vs → Call' ns more vs c (semicolon ∷ rest) → (ss : List Token) → Place' ns more ss x us → Some' (Stmt' ns) more ss rest
gives_place ns more x _ p vs c rest Marked.marked i ss j = (s.Gives x p c, Stmt'.gives j i)

returned : (ns : Names) (more : ℕ) (p : Pos) (us : List Token) (a : Option Expr) (rest : List Token) → Condition' ns more us a (semicolon ∷ rest) → Some' (Stmt' ns) more (key k.Return p ∷ us) rest
returned ns more p _ _ rest Condition'.always = (s.Return p None, Stmt'.return)
returned ns more p us _ rest (Condition'.while {a} w) = (s.Return p (Some a), Stmt'.return_value w)

for_one : (ns : Names) (more : ℕ) (p o : Pos) (a0 : List Token) (f : First) (b1 : List Token) (q : Pos) (a1 : List Token) (c : Option Expr) (rest : List Token) → First' ns more a0 f b1 → Marked m.Semicolon b1 q a1 → Condition' ns more a1 c (semicolon ∷ close m.CloseParen ∷ semicolon ∷ rest)
    → Some' (Stmt' ns) (suc more) (key k.For p ∷ mark m.OpenParen o ∷ a0) rest
for_one ns more p o a0 f _ q a1 c rest x Marked.marked y = (s.For p f c None (s.Empty spot), Stmt'.for x y Next'.nothing Stmt'.empty)

for_two : (ns : Names) (more : ℕ) (p o : Pos) (a0 : List Token) (f : First) (b1 : List Token) (q : Pos) (a1 : List Token) (c : Option Expr) (b2 : List Token) (r : Pos) (a2 : List Token) (e : Option Simple) (rest : List Token) → First' ns more a0 f b1 → Marked m.Semicolon b1 q a1
    → Condition' ns more a1 c b2 → Marked m.Semicolon b2 r a2 → Next' ns more a2 e (close m.CloseParen ∷ semicolon ∷ rest) → Some' (Stmt' ns) (suc more) (key k.For p ∷ mark m.OpenParen o ∷ a0) rest
for_two ns more p o a0 f _ q a1 c _ r a2 e rest x Marked.marked y Marked.marked z = (s.For p f c e (s.Empty spot), Stmt'.for x y z Stmt'.empty)

for_three : (ns : Names) (more : ℕ) (p o : Pos) (a0 : List Token) (f : First) (b1 : List Token) (q : Pos) (a1 : List Token) (c : Option Expr) (b2 : List Token) (r : Pos) (a2 : List Token) (e : Option Simple) (b3 : List Token) (t : Pos) (a3 : List Token) (a : Stmt) (rest : List Token)
    → First' ns more a0 f b1 → Marked m.Semicolon b1 q a1 → Condition' ns more a1 c b2 → Marked m.Semicolon b2 r a2 → Next' ns more a2 e b3 → Marked m.CloseParen b3 t a3 → Stmt' ns more a3 a rest → Some' (Stmt' ns) (suc more) (key k.For p ∷ mark m.OpenParen o ∷ a0) rest
for_three ns more p o a0 f _ q a1 c _ r a2 e _ t a3 a rest x Marked.marked y Marked.marked z Marked.marked w = (s.For p f c e a, Stmt'.for x y z w)

module _ (ns : Names) (n : ℕ) (inner : Inner ns n) where
  block_closed : (ts : List Token) → Closed Any (Some' (Stmt' ns)) n ts (read.block ns n (read.bodies ns n) ts)
  unfolding read.block
  block_closed ts = closed_opens (λ n p. (read.bodies ns n).items >>= (λ is. expect m.CloseBrace >>= (λ q. pure (s.Block (tree.block p is q))))) n m.OpenBrace ts (close m.CloseBrace ∷ []) (λ p. tt)
      (λ more p rest. (s.Block (tree.block p [] spot), Stmt'.block Nested.no_item))
      (λ i h p us. closed_last i us (close m.CloseBrace ∷ []) (λ more vs is rest j. (s.Block (tree.block p is spot), Stmt'.block j)) (inner.items i h us) (λ is vs. calm_then (calm_expect m.CloseBrace vs) (λ q ws. Calm.got)))

  simple_ended_closed : (ts : List Token) → Closed Any (Some' (Stmt' ns)) n ts (read.simple_ended ns n (read.bodies ns n) (read.simple ns n) ts)
  unfolding read.simple_ended
  simple_ended_closed ts = closed_last n ts (semicolon ∷ []) (λ more ss a rest i. (s.Simple a, Stmt'.simple_stmt i)) (simple_closed ns n ts) (λ a us. calm_ends m.Semicolon (s.Simple a) us)

  call_stmt_closed : (ts : List Token) → Closed Any (Some' (Stmt' ns)) n ts (read.call_stmt ns n (read.bodies ns n) ts)
  unfolding read.call_stmt
  call_stmt_closed ts = closed_last n ts (semicolon ∷ []) (λ more ss c rest i. (s.Call c, Stmt'.call i)) (call_closed ns n ts) (λ c us. calm_ends m.Semicolon (s.Call c) us)

  assigned_stmt_closed : (star : Bool) (x : Place) (us : List Token) → Closed Any (λ more us rest. (ss : List Token) → Place' ns more ss x us → Some' (Stmt' ns) more ss rest) n us (read.assigned_stmt ns n (read.bodies ns n) star x us)
  unfolding read.assigned_stmt read.gives read.simple_ended
  assigned_stmt_closed star x us = closed_if (sees m.Equal us && read.sees_call ns (after us))
      (λ h. closed_next (good_expect m.Equal) n us (calm_expect m.Equal us) (λ p vs.
      closed_last n vs (semicolon ∷ []) (λ more ws c rest i us k ss j. gives_place ns more x us p ws c rest k i ss j) (call_closed ns n vs) (λ c ws. calm_ends m.Semicolon (s.Gives x p c) ws)))
      (λ h. closed_tail n us (semicolon ∷ []) (λ more vs rest go ss i. let k = go ss i in (s.Simple (k.0), Stmt'.simple_stmt (k.1))) (assigned_closed ns n star x us) (λ a vs. calm_ends m.Semicolon (s.Simple a) vs))

  placed_closed : (ts : List Token) → Closed Any (Some' (Stmt' ns)) n ts (read.placed ns n (read.bodies ns n) ts)
  unfolding read.placed
  placed_closed ts = closed_if (read.sees_call ns ts) (λ h. call_stmt_closed ts)
      (λ h. closed_then (good_place ns) n ts (close m.Equal ∷ nought ∷ semicolon ∷ []) (λ more ss x rest i. assigned-zero ns more ss x rest i) (place_closed ns n ts) (λ x us. assigned_stmt_closed (begins_with_star ts) x us))

  else_closed : (p : Pos) (c : Expr) (a : Stmt) (ws : List Token) → Keyed k.Else ws
      → Closed Any (λ more ws rest. (vs : List Token) → Within (Stmt' ns) more vs a ws → (us : List Token) → InBrackets ns more us c vs → Some' (Stmt' ns) more (key k.If p ∷ us) rest) n ws (and_then (takes ws) (λ q. inner_stmt ns n >>= (λ b. pure (s.IfElse p c a b))))
  else_closed p c a _ (Keyed.keyed {p = q} {us = xs}) = stepped (key k.Else q) (closed_last n xs [] (λ more zs b rest j vs i us w. if_two ns more p us c vs a q zs b rest w i j) (inner.stmt xs) (λ b zs. Calm.got))

  if_closed : (ts : List Token) → Keyed k.If ts → Closed Any (Some' (Stmt' ns)) n ts (read.if_stmt ns n (read.bodies ns n) ts)
  unfolding read.if_stmt
  if_closed _ (Keyed.keyed {p} {us}) = stepped (key k.If p)
      (closed_then (good_condition ns) n us (semicolon ∷ key k.Else spot ∷ semicolon ∷ []) (λ more vs c rest w. if_none ns more p vs c rest w) (condition_closed ns n us) (λ c vs.
      closed_then (good_inner ns) n vs (key k.Else spot ∷ semicolon ∷ []) (λ more ws a rest i us w. if_one ns more p us c ws a rest w i) (inner.stmt vs) (λ a ws.
      closed_if (begins_with_else ws) (λ h. else_closed p c a ws (else_is ws h)) (λ h. Closed.got))))

  while_closed : (ts : List Token) → Keyed k.While ts → Closed Any (Some' (Stmt' ns)) n ts (read.while_stmt ns n (read.bodies ns n) ts)
  unfolding read.while_stmt
  while_closed _ (Keyed.keyed {p} {us}) = stepped (key k.While p)
      (closed_then (good_condition ns) n us (semicolon ∷ []) (λ more vs c rest w. while_none ns more p vs c rest w) (condition_closed ns n us) (λ c vs.
      closed_last n vs [] (λ more ws a rest i us w. while_one ns more p us c ws a rest w i) (inner.stmt vs) (λ a ws. Calm.got)))

  good_while : Good (λ n. read.expect_while ns n (read.bodies ns n)) (λ _ ts p us. KeyAt k.While ts p us)
  good_while = record { fine = λ n. loosen (fine.expect_while_fine ns n (read.bodies ns n) (bodies_fine ns n)); less = wider (λ n. read.expect_while ns n (read.bodies ns n)) (λ j n more e. near.expect_while_near ns j n more (read.bodies ns n) (read.bodies ns more) e (bodies_near ns j n more e)); sound = λ n. unit_sound.expect_while_sound ns n (read.bodies ns n) (bodies_sound ns n) }

  calm_while_by : (o : Option Keyword) (ts : List Token) → Calm (read.while_by ns n (read.bodies ns n) o ts)
  calm_while_by (Some k.While) ts = calm_takes ts
  calm_while_by o ts = Calm.stuck

  calm_while : (ts : List Token) → Calm (read.expect_while ns n (read.bodies ns n) ts)
  unfolding read.expect_while
  calm_while ts = calm_while_by (key_at ts) ts

  do_closed : (ts : List Token) → Keyed k.Do ts → Closed Any (Some' (Stmt' ns)) n ts (read.do_stmt ns n (read.bodies ns n) ts)
  unfolding read.do_stmt
  do_closed _ (Keyed.keyed {p} {us}) = stepped (key k.Do p)
      (closed_then (good_inner ns) n us (key k.While spot ∷ close m.OpenParen ∷ nought ∷ close m.CloseParen ∷ semicolon ∷ []) (λ more vs a rest i. do_none ns more p vs a rest i) (inner.stmt us) (λ a vs.
      closed_next good_while n vs (calm_while vs) (λ q ws.
      closed_last n ws (semicolon ∷ []) (λ more xs c rest w vs t us i. do_one ns more p us a q vs xs c rest i t w) (condition_closed ns n ws) (λ c xs. calm_ends m.Semicolon (s.DoWhile p a c) xs))))

  switch_closed : (ts : List Token) → Keyed k.Switch ts → Closed Any (Some' (Stmt' ns)) n ts (read.switch_stmt ns n (read.bodies ns n) ts)
  unfolding read.switch_stmt
  switch_closed _ (Keyed.keyed {p} {us}) = stepped (key k.Switch p)
      (closed_then (good_condition ns) n us (close m.OpenBrace ∷ close m.CloseBrace ∷ []) (λ more vs c rest w. switch_none ns more p vs c rest w) (condition_closed ns n us) (λ c vs.
      closed_opens (λ n q. (read.bodies ns n).groups >>= (λ gs. expect m.CloseBrace >>= (λ _. pure (s.Switch p c gs)))) n m.OpenBrace vs (close m.CloseBrace ∷ []) (λ q. tt)
      (λ more q rest us w. switch_some ns more p us c q _ [] rest w Groups.no_group)
      (λ i h q ws. closed_last i ws (close m.CloseBrace ∷ []) (λ more xs gs rest g us w. switch_some ns more p us c q xs gs rest w (g refl)) (inner.groups i h ws) (λ gs xs. calm_ends m.CloseBrace (s.Switch p c gs) xs))))

  calm_break : (ts : List Token) → Calm (read.break ns n (read.bodies ns n) ts)
  unfolding read.break
  calm_break ts = calm_then (calm_takes ts) (λ p us. calm_ends m.Semicolon (s.Break p) us)

  calm_empty : (ts : List Token) → Calm (read.empty ns n (read.bodies ns n) ts)
  unfolding read.empty
  calm_empty ts = calm_then (calm_takes ts) (λ p us. Calm.got)

  return_closed : (ts : List Token) → Keyed k.Return ts → Closed Any (Some' (Stmt' ns)) n ts (read.return ns n (read.bodies ns n) ts)
  unfolding read.return
  return_closed _ (Keyed.keyed {p} {us}) = stepped (key k.Return p)
      (closed_last n us (semicolon ∷ []) (λ more vs a rest i. returned ns more p vs a rest i) (expr_before_closed ns m.Semicolon n us) (λ a vs. calm_ends m.Semicolon (s.Return p a) vs))

  for_closed : (ts : List Token) → Keyed k.For ts → Closed Any (Some' (Stmt' ns)) n ts (read.for_stmt ns n (read.bodies ns n) ts)
  unfolding read.for_stmt read.bodies
  for_closed _ (Keyed.keyed {p} {us}) = stepped (key k.For p) (closed_opens (λ n o.
      within (read.first_of ns) n >>= (λ f. expect m.Semicolon >>= (λ _. within (read.expr_before ns m.Semicolon) n >>= (λ c. expect m.Semicolon >>= (λ _. within (read.simple_before ns m.CloseParen) n >>= (λ x. expect m.CloseParen >>= (λ _.
      (read.bodies ns n).stmt >>= (λ a. pure (s.For p f c x a))))))))) n m.OpenParen us (semicolon ∷ semicolon ∷ close m.CloseParen ∷ semicolon ∷ []) (λ o. tt)
      (λ more o rest. (s.For p first.Nothing None None (s.Empty spot), Stmt'.for First'.nothing Condition'.always Next'.nothing Stmt'.empty))
      (λ i h o vs.
      closed_then (good_first ns) i vs (semicolon ∷ semicolon ∷ close m.CloseParen ∷ semicolon ∷ []) (λ more a0 f rest x. (s.For p f None None (s.Empty spot), Stmt'.for x Condition'.always Next'.nothing Stmt'.empty)) (first_of_closed ns i vs) (λ f ws.
      closed_next (good_expect m.Semicolon) i ws (calm_expect m.Semicolon ws) (λ q xs.
      closed_then (good_expr_before ns m.Semicolon) i xs (semicolon ∷ close m.CloseParen ∷ semicolon ∷ []) (λ more a1 c rest y b1 k1 a0 x. for_one ns more p o a0 f b1 q a1 c rest x k1 y) (expr_before_closed ns m.Semicolon i xs) (λ c ys.
      closed_next (good_expect m.Semicolon) i ys (calm_expect m.Semicolon ys) (λ r zs.
      closed_then (good_simple_before ns m.CloseParen) i zs (close m.CloseParen ∷ semicolon ∷ []) (λ more a2 e rest z b2 k2 a1 y b1 k1 a0 x. for_two ns more p o a0 f b1 q a1 c b2 r a2 e rest x k1 y k2 z) (simple_before_closed ns m.CloseParen i zs) (λ e us'.
      closed_next (good_expect m.CloseParen) i us' (calm_expect m.CloseParen us') (λ t vs'.
      closed_last i vs' [] (λ more a3 a rest w b3 k3 a2 z b2 k2 a1 y b1 k1 a0 x. for_three ns more p o a0 f b1 q a1 c b2 r a2 e b3 t a3 a rest x k1 y k2 z k3 w) (inner.one i h vs') (λ a ws'. Calm.got)))))))))

  mark_stmt_closed : (o : Option Punct) (ts : List Token) → Closed Any (Some' (Stmt' ns)) n ts (read.mark_stmt ns n (read.bodies ns n) o ts)
  mark_stmt_closed (Some m.OpenBrace) ts = block_closed ts
  mark_stmt_closed (Some m.Semicolon) ts = closed_calm (calm_empty ts)
  mark_stmt_closed (Some m.PlusPlus) ts = simple_ended_closed ts
  mark_stmt_closed (Some m.MinusMinus) ts = simple_ended_closed ts
  mark_stmt_closed o ts = placed_closed ts

  stmt_by_closed : (o : Option Keyword) (ts : List Token) → key_at ts ≡ o → Closed Any (Some' (Stmt' ns)) n ts (read.stmt_by ns n (read.bodies ns n) o ts)
  stmt_by_closed None ts h = mark_stmt_closed (mark_at ts) ts
  stmt_by_closed (Some k.If) ts h = if_closed ts (key_at_is ts k.If h)
  stmt_by_closed (Some k.While) ts h = while_closed ts (key_at_is ts k.While h)
  stmt_by_closed (Some k.Do) ts h = do_closed ts (key_at_is ts k.Do h)
  stmt_by_closed (Some k.For) ts h = for_closed ts (key_at_is ts k.For h)
  stmt_by_closed (Some k.Switch) ts h = switch_closed ts (key_at_is ts k.Switch h)
  stmt_by_closed (Some k.Break) ts h = closed_calm (calm_break ts)
  stmt_by_closed (Some k.Return) ts h = return_closed ts (key_at_is ts k.Return h)
  stmt_by_closed (Some k.WaitForClock) ts h = ended_closed ns n (read.bare n d.Wait) ts (bare_closed ns n k.WaitForClock d.Wait (λ more p q r s t us. Directive'.wait) ts (key_at_is ts k.WaitForClock h))
  stmt_by_closed (Some k.Partition) ts h = ended_closed ns n (read.bare n d.Partition) ts (bare_closed ns n k.Partition d.Partition (λ more p q r s t us. Directive'.partition) ts (key_at_is ts k.Partition h))
  stmt_by_closed (Some k.KnownFact) ts h = ended_closed ns n (read.with_expr ns n d.KnownFact) ts (with_expr_closed ns n k.KnownFact d.KnownFact (λ more p q r s t ts us a w. Directive'.known_fact w) ts (key_at_is ts k.KnownFact h))
  stmt_by_closed (Some k.Assert) ts h = ended_closed ns n (read.with_expr ns n d.Assert) ts (with_expr_closed ns n k.Assert d.Assert (λ more p q r s t ts us a w. Directive'.assert w) ts (key_at_is ts k.Assert h))
  stmt_by_closed (Some j) ts h = Closed.stuck

  pub stmt_closed : (ts : List Token) → Closed Any (Some' (Stmt' ns)) n ts (read.stmt_at ns n ts)
  unfolding read.stmt
  stmt_closed ts = stmt_by_closed (key_at ts) ts refl

-- ---- what stands in braces
nested_front : (ns : Names) (more : ℕ) (ss : List Token) (a : Stmt) (rest : List Token) → Within (Stmt' ns) more ss a rest → Front (Nested ns) more ss (item.Stmt a) rest
nested_front ns zero ss a rest i is vs go = absurd i
nested_front ns (suc more) ss a rest i is vs go = Nested.nested_stmt i go

body_front : (ns : Names) (more : ℕ) (ss : List Token) (a : Stmt) (rest : List Token) → Within (Stmt' ns) more ss a rest → Front (Body ns) more ss a rest
body_front ns zero ss a rest i is vs go = absurd i
body_front ns (suc more) ss a rest i is vs go = Body.stmt i go

module _ (ns : Names) (n : ℕ) (inner : Inner ns n) where
  nested_item_closed : (ts : List Token) → Closed Any (Some' (Front (Nested ns))) n ts (read.block_item ns n (read.bodies ns n) (inner_stmt ns n) ts)
  unfolding read.block_item
  nested_item_closed ts = closed_if (begins_type ns ts)
      (λ h. closed_last n ts [] (λ more ss l rest i. (item.Local l, λ is vs go. Nested.nested_local i go)) (local_closed ns n ts) (λ l us. Calm.got))
      (λ h. closed_last n ts [] (λ more ss a rest i. (item.Stmt a, nested_front ns more ss a rest i)) (inner.stmt ts) (λ a us. Calm.got))

  nested_closed : (ts : List Token) → Closed Any (Some' (Nested ns)) n ts (read.block_items ns n (read.bodies ns n) (inner_stmt ns n) ts)
  unfolding read.block_items
  nested_closed ts = closed_many (Nested ns) (λ more us. Nested.no_item) read.no_close (fine.close_ahead ns n (read.bodies ns n) (bodies_fine ns n)) (λ n. read.block_item ns n (read.bodies ns n) (inner_stmt ns n))
      (λ n. fine.block_item_fine ns n (read.bodies ns n) (bodies_fine ns n) (inner_stmt ns n) (bodies_fine ns n).stmt)
      (wider (λ n. read.block_item ns n (read.bodies ns n) (inner_stmt ns n)) (λ j n more e. near.block_item_near ns j n more (read.bodies ns n) (read.bodies ns more) e (bodies_near ns j n more e) (inner_stmt ns n) (inner_stmt ns more) (bodies_near ns j n more e).stmt))
      (λ n ts h. unit_sound.nested_item_sound ns n (read.bodies ns n) (bodies_sound ns n) (inner_stmt ns n) (bodies_sound ns n).stmt ts) n (λ ts h. nested_item_closed ts) ts

  stmts_closed : (ts : List Token) → Closed Any (Some' (Body ns)) n ts (many (read.goes_on ns n (read.bodies ns n)) (inner_stmt ns n) ts)
  stmts_closed ts = closed_many (Body ns) (λ more us. Body.no_stmt) (read.goes_on ns n (read.bodies ns n)) (fine.goes_on_ahead ns n (read.bodies ns n) (bodies_fine ns n)) (inner_stmt ns)
      (λ n. (bodies_fine ns n).stmt) (wider (λ n. (read.bodies ns n).stmt) (λ j n more e. (bodies_near ns j n more e).stmt)) (λ n ts h. map_yields (λ a us i. body_front ns n ts a us i) ((bodies_sound ns n).stmt ts)) n
      (λ ts h. closed_map (λ more us vs x. (x.0, body_front ns more us (x.0) vs (x.1))) (inner.stmt ts)) ts

  good_more_labels : Good (λ n. many begins_with_label (read.a_label ns n)) (λ more ts ls us. sound.MoreLabels ns more ts ls us)
  good_more_labels = record { fine = λ n. fine_many begins_with_label fine.label_ahead (fine.a_label_fine ns n); less = λ n more h. less_many begins_with_label (read.a_label ns n) (read.a_label ns more) (wider (read.a_label ns) (near.a_label_near ns) n more h); sound = sound.more_labels_sound ns }

  a_group_closed : (ts : List Token) → Closed Any (Some' (EndedGroups ns)) n ts (read.a_group ns n (read.bodies ns n) ts)
  unfolding read.a_group
  a_group_closed ts =
      closed_then (good_label ns) n ts [] (λ more ss l rest i. (tree.group (l ∷ []) [] ∷ [], λ h. Groups.group (Labels.last_label i h) Body.no_stmt Groups.no_group)) (a_label_closed ns n ts) (λ l us.
      closed_through good_more_labels n us (closed_map (λ more vs rest x ss i. (tree.group (l ∷ (x.0)) [] ∷ [], λ h. Groups.group (x.1 h ss l i) Body.no_stmt Groups.no_group)) (more_labels_closed ns n us)) (λ ls vs.
      closed_last n vs [] (λ more ws ss rest b us k xs i. (tree.group (l ∷ ls) ss ∷ [], λ h. Groups.group (k xs l i) b Groups.no_group)) (stmts_closed vs) (λ ss ws. Calm.got)))

  groups_closed : (ts : List Token) → Closed Any (Some' (EndedGroups ns)) n ts (read.groups ns n (read.bodies ns n) ts)
  unfolding read.groups
  groups_closed ts = direct_many (EndedGroups ns) begins_with_label fine.label_ahead (λ n. read.a_group ns n (read.bodies ns n))
      (λ n. fine.a_group_fine ns n (read.bodies ns n) (bodies_fine ns n)) (wider (λ n. read.a_group ns n (read.bodies ns n)) (λ j n more e. near.a_group_near ns j n more (read.bodies ns n) (read.bodies ns more) e (bodies_near ns j n more e)))
      (λ n ts h. map_yields (λ g us go gs vs gg j. go gs vs (gg j)) (unit_sound.a_group_sound ns n (read.bodies ns n) (bodies_sound ns n) ts)) n (λ ts h. a_group_closed ts) ts

at_room : (ns : Names) (n : ℕ) → Inner ns n → Inner ns (suc n)
unfolding read.bodies
at_room ns n below = record {
  stmt = λ ts. deeper_room n ts (stmt_closed ns n below ts);
  one = λ i h ts. let same : n ≡ i = omega (arith, h) in subst (λ i. Closed Any (Some' (Stmt' ns)) i ts (read.stmt_at ns i ts)) same (stmt_closed ns n below ts);
  items = λ i h ts. let same : n ≡ i = omega (arith, h) in subst (λ i. Closed Any (Some' (Nested ns)) i ts ((read.bodies ns (suc i)).items ts)) same (nested_closed ns n below ts);
  groups = λ i h ts. let same : n ≡ i = omega (arith, h) in subst (λ i. Closed Any (Some' (EndedGroups ns)) i ts ((read.bodies ns (suc i)).groups ts)) same (groups_closed ns n below ts);
}

pub all_inner : (ns : Names) (n : ℕ) → Inner ns n
unfolding read.bodies
all_inner ns zero = record { stmt = no_stmt_closed ns; one = λ i h. cc; items = λ i h. cc; groups = λ i h. cc }
all_inner ns (suc n) = at_room ns n (all_inner ns n)

good_stmt : (ns : Names) → Good (λ n. read.stmt_at ns n) (Stmt' ns)
good_stmt ns = record { fine = λ n. loosen (fine.stmt_fine ns n (read.bodies ns n) (bodies_fine ns n)); less = wider _ (stmt_at_near ns); sound = unit_sound.stmt_yields ns }

-- in the braces of a function
outer_item_closed : (ns : Names) (n : ℕ) (ts : List Token) → Closed Any (Some' (Front (Outermost ns))) n ts (read.block_item ns n (read.bodies ns n) (read.stmt_at ns n) ts)
unfolding read.block_item
outer_item_closed ns n ts = closed_if (begins_type ns ts)
    (λ h. closed_last n ts [] (λ more ss l rest i. (item.Local l, λ is vs go. Outermost.local_item i go)) (local_closed ns n ts) (λ l us. Calm.got))
    (λ h. closed_last n ts [] (λ more ss a rest i. (item.Stmt a, λ is vs go. Outermost.stmt_item i go)) (stmt_closed ns n (all_inner ns n) ts) (λ a us. Calm.got))

pub outermost_closed : (ns : Names) (n : ℕ) (ts : List Token) → Closed Any (Some' (Outermost ns)) n ts (read.outermost ns n ts)
unfolding read.outermost read.block_items
outermost_closed ns n ts = closed_many (Outermost ns) (λ more us. Outermost.no_item) read.no_close (fine.close_ahead ns n (read.bodies ns n) (bodies_fine ns n)) (λ n. read.block_item ns n (read.bodies ns n) (read.stmt_at ns n))
    (λ n. fine.block_item_fine ns n (read.bodies ns n) (bodies_fine ns n) (read.stmt_at ns n) (fine.stmt_fine ns n (read.bodies ns n) (bodies_fine ns n)))
    (wider (λ n. read.block_item ns n (read.bodies ns n) (read.stmt_at ns n)) (λ j n more e. near.block_item_near ns j n more (read.bodies ns n) (read.bodies ns more) e (bodies_near ns j n more e) (read.stmt_at ns n) (read.stmt_at ns more) (stmt_at_near ns j n more e)))
    (λ n ts h. unit_sound.outer_item_sound ns n (read.bodies ns n) (bodies_sound ns n) (read.stmt_at ns n) (unit_sound.stmt_yields ns n) ts) n (λ ts h. outer_item_closed ns n ts) ts
