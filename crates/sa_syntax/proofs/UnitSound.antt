-- What is read as a statement, a function or a source is in the grammar.
use Rattle.std.proofs.Common.{◌≡◌, ℕ, zero, suc, List, [], ◌∷◌, ◌++◌, true, false, refl, sym, ◌∙◌, subst, append_assoc, append-nil, Option, Some, None}
use Rattle.std.specs.Prelude.{◌&&◌}
use Rattle.std.proofs.lemmas.Bool.{and_parts}
use Rattle.sa_base.specs.declared.pos.Pos.{Pos}
use Rattle.sa_tokens.specs.declared.keyword.Keyword.{Keyword}
use Rattle.sa_tokens.specs.declared.keyword.Keyword.TheVariants as k
use Rattle.sa_tokens.specs.declared.punct.Punct.{Punct}
use Rattle.sa_tokens.specs.declared.punct.Punct.TheVariants as m
use Rattle.sa_tokens.specs.declared.token.Word.{Word}
use Rattle.sa_tokens.specs.declared.token.Word.TheVariants.{Key, Mark}
use Rattle.sa_tokens.specs.declared.token.Token.{Token}
use Rattle.sa_syntax.specs.declared.decl.Name.{Name as Named}
use Rattle.sa_syntax.specs.declared.decl.Specifiers.{Specifiers, out-roll-Specifiers}
use Rattle.sa_syntax.specs.declared.decl.Qualified.{Qualified}
use Rattle.sa_syntax.specs.declared.decl.Base.{Base}
use Rattle.sa_syntax.specs.declared.decl.Base.TheVariants as b
use Rattle.sa_syntax.specs.declared.decl.Struct.{Struct}
use Rattle.sa_syntax.specs.declared.expr.Expr.{Expr}
use Rattle.sa_syntax.specs.declared.expr.Place.{Place}
use Rattle.sa_syntax.specs.declared.stmt.Simple.{Simple}
use Rattle.sa_syntax.specs.declared.stmt.Call.{Call}
use Rattle.sa_syntax.specs.declared.stmt.Directive.{Directive}
use Rattle.sa_syntax.specs.declared.stmt.Directive.TheVariants as d
use Rattle.sa_syntax.specs.declared.stmt.First.{First}
use Rattle.sa_syntax.specs.declared.stmt.Stmt.{Stmt}
use Rattle.sa_syntax.specs.declared.stmt.Stmt.TheVariants as s
use Rattle.sa_syntax.specs.declared.stmt.Group.{Group}
use Rattle.sa_syntax.specs.declared.stmt.BlockItem.{BlockItem}
use Rattle.sa_syntax.specs.declared.stmt.BlockItem.TheVariants as item
use Rattle.sa_syntax.specs.declared.unit.Params.{Params}
use Rattle.sa_syntax.specs.declared.unit.Params.TheVariants as given
use Rattle.sa_syntax.specs.declared.unit.Item.{Item}
use Rattle.sa_syntax.specs.declared.unit.Item.TheVariants as top
use Rattle.sa_syntax.specs.declared.unit.Unit.{Unit as Source}
use Rattle.sa_syntax.specs.Trees as tree
use Rattle.sa_syntax.specs.Words.{Names, mark, key, named, begins_with_star, begins_with_else, begins_with_label, is_else, is_void, is_close, is_void_alone}
use Rattle.sa_syntax.specs.Expressions.{Place', Specifiers', Qualifiers, Base', Struct'}
use Rattle.sa_syntax.specs.Statements.{Call', Simple', Directive', First', Condition', Next', Stmt', Nested, Groups, Body, Outermost, Starred, Nameable, Param', ParamList, Params', all_named, Units, Tree}
use Rattle.sa_syntax.specs.Reading.{Parser, Got, sees, after, name_at, key_at, mark_at, many, turns}
use Rattle.sa_syntax.specs.ReadExpr.{begins_type, is_some}
use Rattle.sa_syntax.specs.ReadStmt as read
use Rattle.sa_syntax.specs.ReadStmt.{Bodies, takes}
use Rattle.sa_syntax.proofs.ReadingLemmas.{Yields, then_yields, map_yields, if_yields, yielded, Marked, expect_yields, Opened, opens_yields, IsWord, any_name_yields, KeyAt, MarkAt, take_key_at, take_mark_at, sees_is, many_yields}
use Rattle.sa_syntax.proofs.ExprSound.{Within, place_yields, specifiers_yields}
use Rattle.sa_syntax.proofs.StmtSound.{within_yields, Behind, list_yields, init_declrs_sound, call_sound, assigned_sound, simple_sound, local_sound, wait_sound, partition_sound, known_fact_sound, assert_sound, InBrackets, condition_sound, first_of_sound, expr_before_sound, simple_before_sound, a_label_sound, more_labels_sound}

-- ---- words at the front
is_else_is : (w : Word) → is_else w ≡ true → w ≡ Key k.Else
is_else_is (Key k.Else) h = refl
is_else_is w h = cc

else_at : (w : Word) (p : Pos) (ts : List Token) → w ≡ Key k.Else → Yields (λ q us. KeyAt k.Else ((record { word = w; pos = p }) ∷ ts) q us) (takes ((record { word = w; pos = p }) ∷ ts))
else_at w p ts e = Yields.got (subst (λ (v : Word). KeyAt k.Else ((record { word = v; pos = p }) ∷ ts) p ts) (sym e) KeyAt.key_at_front)

take_else : (ts : List Token) → begins_with_else ts ≡ true → Yields (λ p us. KeyAt k.Else ts p us) (takes ts)
take_else [] h = cc
take_else (t ∷ ts) h = else_at t.word t.pos ts (is_else_is t.word h)

-- ---- statements: the readers one deeper answer what the grammar has
pub record IsBodies (ns : Names) (n : ℕ) (bodies : Bodies) : Type 0 where
  pub stmt : (ts : List Token) → Yields (λ a us. Within (Stmt' ns) n ts a us) (bodies.stmt ts)
  pub items : (ts : List Token) → Yields (λ is us. Within (Nested ns) n ts is us) (bodies.items ts)
  pub groups : (ts : List Token) → Yields (λ gs us. Within (Groups ns) n ts gs us) (bodies.groups ts)

module _ (ns : Names) (n : ℕ) (bodies : Bodies) (sound : IsBodies ns n bodies) where
  block_from : (n : ℕ) (ts : List Token) (p : Pos) (us : List Token) (is : List BlockItem) (vs : List Token) (q : Pos) (ws : List Token) → Opened m.OpenBrace n ts p us → Within (Nested ns) n us is vs → Marked m.CloseBrace vs q ws
      → Stmt' ns n ts (s.Block (tree.block p is q)) ws
  block_from _ _ p us is _ q ws Opened.opened i Marked.marked = Stmt'.block i

  block_sound : (ts : List Token) → Yields (λ a us. Stmt' ns n ts a us) (read.block ns n bodies ts)
  unfolding read.block
  block_sound ts =
      then_yields (opens_yields n m.OpenBrace ts) (λ p us o.
      then_yields (sound.items us) (λ is vs i.
      then_yields (expect_yields m.CloseBrace vs) (λ q ws c.
      Yields.got (block_from n ts p us is vs q ws o i c))))

  empty_from : (ts : List Token) (p : Pos) (us : List Token) → MarkAt (λ mk. mk ≡ m.Semicolon) ts p us → Stmt' ns n ts (s.Empty p) us
  empty_from _ p us (MarkAt.mark_at_front {m = mk} e) = subst (λ (x : Punct). Stmt' ns n (mark x p ∷ us) (s.Empty p) us) (sym e) Stmt'.empty

  empty_sound : (ts : List Token) → mark_at ts ≡ Some m.Semicolon → Yields (λ a us. Stmt' ns n ts a us) (read.empty ns n bodies ts)
  unfolding read.empty
  empty_sound ts h = then_yields (take_mark_at (λ mk. mk ≡ m.Semicolon) ts m.Semicolon h refl) (λ p us f. Yields.got (empty_from ts p us f))

  call_from : (ts : List Token) (c : Call) (us : List Token) (p : Pos) (vs : List Token) → Call' ns n ts c us → Marked m.Semicolon us p vs → Stmt' ns n ts (s.Call c) vs
  call_from ts c _ p vs i Marked.marked = Stmt'.call i

  call_stmt_sound : (ts : List Token) → Yields (λ a us. Stmt' ns n ts a us) (read.call_stmt ns n bodies ts)
  unfolding read.call_stmt
  call_stmt_sound ts = then_yields (call_sound ns n ts) (λ c us i. then_yields (expect_yields m.Semicolon us) (λ p vs e. Yields.got (call_from ts c us p vs i e)))

  gives_from : (ts : List Token) (x : Place) (us : List Token) (p : Pos) (vs : List Token) (c : Call) (ws : List Token) (q : Pos) (xs : List Token) → Place' ns n ts x us → Marked m.Equal us p vs → Call' ns n vs c ws → Marked m.Semicolon ws q xs
      → Stmt' ns n ts (s.Gives x p c) xs
  gives_from ts x _ p vs c _ q xs i Marked.marked j Marked.marked = Stmt'.gives i j

  gives_sound : (ts : List Token) (x : Place) (us : List Token) → Place' ns n ts x us → Yields (λ a vs. Stmt' ns n ts a vs) (read.gives ns n bodies x us)
  unfolding read.gives
  gives_sound ts x us i =
      then_yields (expect_yields m.Equal us) (λ p vs c.
      then_yields (call_sound ns n vs) (λ f ws j.
      then_yields (expect_yields m.Semicolon ws) (λ q xs e.
      Yields.got (gives_from ts x us p vs f ws q xs i c j e))))

  simple_from : (ts : List Token) (a : Simple) (us : List Token) (p : Pos) (vs : List Token) → Simple' ns n ts a us → Marked m.Semicolon us p vs → Stmt' ns n ts (s.Simple a) vs
  simple_from ts a _ p vs i Marked.marked = Stmt'.simple_stmt i

  -- what this reader answers from `us` is an assignment from `ts`
  simple_ended_sound : (ts us : List Token) (p : Parser Simple) → Yields (λ a vs. Simple' ns n ts a vs) (p us) → Yields (λ a vs. Stmt' ns n ts a vs) (read.simple_ended ns n bodies p us)
  unfolding read.simple_ended
  simple_ended_sound ts us p one = then_yields one (λ a vs i. then_yields (expect_yields m.Semicolon vs) (λ q ws e. Yields.got (simple_from ts a vs q ws i e)))

  assigned_stmt_sound : (ts : List Token) (x : Place) (us : List Token) → Place' ns n ts x us → Yields (λ a vs. Stmt' ns n ts a vs) (read.assigned_stmt ns n bodies (begins_with_star ts) x us)
  unfolding read.assigned_stmt
  assigned_stmt_sound ts x us i = if_yields (sees m.Equal us && read.sees_call ns (after us)) (λ h. gives_sound ts x us i)
      (λ h. simple_ended_sound ts us (read.assigned ns n (begins_with_star ts) x) (map_yields (λ a vs go. go ts i refl) (assigned_sound ns n (begins_with_star ts) x us)))

  placed_sound : (ts : List Token) → Yields (λ a us. Stmt' ns n ts a us) (read.placed ns n bodies ts)
  unfolding read.placed
  placed_sound ts = if_yields (read.sees_call ns ts) (λ h. call_stmt_sound ts) (λ h. then_yields (place_yields ns n ts) (λ x us i. assigned_stmt_sound ts x us i))

  if_from : (n : ℕ) (ts : List Token) (p : Pos) (us : List Token) (c : Expr) (vs : List Token) (a : Stmt) (ws : List Token) → KeyAt k.If ts p us → InBrackets ns n us c vs → Within (Stmt' ns) n vs a ws → begins_with_else ws ≡ false
      → Stmt' ns n ts (s.If p c a) ws
  if_from _ _ p _ c vs a ws KeyAt.key_at_front (InBrackets.in_brackets i) j h = Stmt'.if i j h

  if_else_from : (n : ℕ) (ts : List Token) (p : Pos) (us : List Token) (c : Expr) (vs : List Token) (a : Stmt) (ws : List Token) (q : Pos) (xs : List Token) (o : Stmt) (ys : List Token) → KeyAt k.If ts p us → InBrackets ns n us c vs → Within (Stmt' ns) n vs a ws
      → KeyAt k.Else ws q xs → Within (Stmt' ns) n xs o ys → Stmt' ns n ts (s.IfElse p c a o) ys
  if_else_from _ _ p _ c vs a _ q xs o ys KeyAt.key_at_front (InBrackets.in_brackets i) j KeyAt.key_at_front l = Stmt'.if_else i j l

  if_stmt_sound : (ts : List Token) → key_at ts ≡ Some k.If → Yields (λ a us. Stmt' ns n ts a us) (read.if_stmt ns n bodies ts)
  unfolding read.if_stmt
  if_stmt_sound ts h =
      then_yields (take_key_at ts k.If h) (λ p us f.
      then_yields (condition_sound ns n us) (λ c vs i.
      then_yields (sound.stmt vs) (λ a ws j.
      if_yields (begins_with_else ws)
      (λ g. then_yields (take_else ws g) (λ q xs e. then_yields (sound.stmt xs) (λ o ys l. Yields.got (if_else_from n ts p us c vs a ws q xs o ys f i j e l))))
      (λ g. Yields.got (if_from n ts p us c vs a ws f i j g)))))

  while_from : (n : ℕ) (ts : List Token) (p : Pos) (us : List Token) (c : Expr) (vs : List Token) (a : Stmt) (ws : List Token) → KeyAt k.While ts p us → InBrackets ns n us c vs → Within (Stmt' ns) n vs a ws → Stmt' ns n ts (s.While p c a) ws
  while_from _ _ p _ c vs a ws KeyAt.key_at_front (InBrackets.in_brackets i) j = Stmt'.while i j

  while_stmt_sound : (ts : List Token) → key_at ts ≡ Some k.While → Yields (λ a us. Stmt' ns n ts a us) (read.while_stmt ns n bodies ts)
  unfolding read.while_stmt
  while_stmt_sound ts h =
      then_yields (take_key_at ts k.While h) (λ p us f.
      then_yields (condition_sound ns n us) (λ c vs i.
      then_yields (sound.stmt vs) (λ a ws j.
      Yields.got (while_from n ts p us c vs a ws f i j))))

  while_by_sound : (o : Option Keyword) (ts : List Token) → key_at ts ≡ o → Yields (λ p us. KeyAt k.While ts p us) (read.while_by ns n bodies o ts)
  while_by_sound (Some k.While) ts h = take_key_at ts k.While h
  while_by_sound o ts h = Yields.stuck

  pub expect_while_sound : (ts : List Token) → Yields (λ p us. KeyAt k.While ts p us) (read.expect_while ns n bodies ts)
  unfolding read.expect_while
  expect_while_sound ts = while_by_sound (key_at ts) ts refl

  do_from : (n : ℕ) (ts : List Token) (p : Pos) (us : List Token) (a : Stmt) (vs : List Token) (q : Pos) (ws : List Token) (c : Expr) (xs : List Token) (r : Pos) (ys : List Token) → KeyAt k.Do ts p us → Within (Stmt' ns) n us a vs → KeyAt k.While vs q ws
      → InBrackets ns n ws c xs → Marked m.Semicolon xs r ys → Stmt' ns n ts (s.DoWhile p a c) ys
  do_from _ _ p us a _ q _ c _ r ys KeyAt.key_at_front i KeyAt.key_at_front (InBrackets.in_brackets j) Marked.marked = Stmt'.do_while i j

  do_stmt_sound : (ts : List Token) → key_at ts ≡ Some k.Do → Yields (λ a us. Stmt' ns n ts a us) (read.do_stmt ns n bodies ts)
  unfolding read.do_stmt
  do_stmt_sound ts h =
      then_yields (take_key_at ts k.Do h) (λ p us f.
      then_yields (sound.stmt us) (λ a vs i.
      then_yields (expect_while_sound vs) (λ q ws w.
      then_yields (condition_sound ns n ws) (λ c xs j.
      then_yields (expect_yields m.Semicolon xs) (λ r ys e.
      Yields.got (do_from n ts p us a vs q ws c xs r ys f i w j e))))))

  for_from : (n : ℕ) (t1 : List Token) (p : Pos) (t2 : List Token) (q : Pos) (t3 : List Token) (f : First) (t4 : List Token) (r : Pos) (t5 : List Token) (c : Option Expr) (t6 : List Token) (t : Pos) (t7 : List Token) (x : Option Simple) (t8 : List Token) (u : Pos)
      (t9 : List Token) (a : Stmt) (end : List Token) → KeyAt k.For t1 p t2 → Opened m.OpenParen n t2 q t3 → Within (First' ns) n t3 f t4 → Marked m.Semicolon t4 r t5 → Within (Condition' ns) n t5 c t6 → Marked m.Semicolon t6 t t7
      → Within (Next' ns) n t7 x t8 → Marked m.CloseParen t8 u t9 → Within (Stmt' ns) n t9 a end → Stmt' ns n t1 (s.For p f c x a) end
  for_from _ _ p _ q t3 f _ r t5 c _ t t7 x _ u t9 a end KeyAt.key_at_front Opened.opened i Marked.marked j Marked.marked l Marked.marked o = Stmt'.for i j l o

  for_stmt_sound : (ts : List Token) → key_at ts ≡ Some k.For → Yields (λ a us. Stmt' ns n ts a us) (read.for_stmt ns n bodies ts)
  unfolding read.for_stmt
  for_stmt_sound t1 h =
      then_yields (take_key_at t1 k.For h) (λ p t2 w.
      then_yields (opens_yields n m.OpenParen t2) (λ q t3 o.
      then_yields (within_yields (First' ns) (read.first_of ns) (first_of_sound ns) n t3) (λ f t4 i.
      then_yields (expect_yields m.Semicolon t4) (λ r t5 e1.
      then_yields (within_yields (Condition' ns) (read.expr_before ns m.Semicolon) (λ j us. expr_before_sound ns j m.Semicolon us) n t5) (λ c t6 j.
      then_yields (expect_yields m.Semicolon t6) (λ t t7 e2.
      then_yields (within_yields (Next' ns) (read.simple_before ns m.CloseParen) (λ j us. simple_before_sound ns j m.CloseParen us) n t7) (λ x t8 l.
      then_yields (expect_yields m.CloseParen t8) (λ u t9 e3.
      then_yields (sound.stmt t9) (λ a end b.
      Yields.got (for_from n t1 p t2 q t3 f t4 r t5 c t6 t t7 x t8 u t9 a end w o i e1 j e2 l e3 b))))))))))

  switch_from : (n : ℕ) (ts : List Token) (p : Pos) (us : List Token) (c : Expr) (vs : List Token) (q : Pos) (ws : List Token) (gs : List Group) (xs : List Token) (r : Pos) (ys : List Token) → KeyAt k.Switch ts p us → InBrackets ns n us c vs
      → Opened m.OpenBrace n vs q ws → Within (Groups ns) n ws gs xs → Marked m.CloseBrace xs r ys → Stmt' ns n ts (s.Switch p c gs) ys
  switch_from _ _ p _ c _ q ws gs _ r ys KeyAt.key_at_front (InBrackets.in_brackets i) Opened.opened j Marked.marked = Stmt'.switch i j

  switch_stmt_sound : (ts : List Token) → key_at ts ≡ Some k.Switch → Yields (λ a us. Stmt' ns n ts a us) (read.switch_stmt ns n bodies ts)
  unfolding read.switch_stmt
  switch_stmt_sound ts h =
      then_yields (take_key_at ts k.Switch h) (λ p us f.
      then_yields (condition_sound ns n us) (λ c vs i.
      then_yields (opens_yields n m.OpenBrace vs) (λ q ws o.
      then_yields (sound.groups ws) (λ gs xs j.
      then_yields (expect_yields m.CloseBrace xs) (λ r ys e.
      Yields.got (switch_from n ts p us c vs q ws gs xs r ys f i o j e))))))

  break_from : (ts : List Token) (p : Pos) (us : List Token) (q : Pos) (vs : List Token) → KeyAt k.Break ts p us → Marked m.Semicolon us q vs → Stmt' ns n ts (s.Break p) vs
  break_from _ p _ q vs KeyAt.key_at_front Marked.marked = Stmt'.break

  break_sound : (ts : List Token) → key_at ts ≡ Some k.Break → Yields (λ a us. Stmt' ns n ts a us) (read.break ns n bodies ts)
  unfolding read.break
  break_sound ts h = then_yields (take_key_at ts k.Break h) (λ p us f. then_yields (expect_yields m.Semicolon us) (λ q vs e. Yields.got (break_from ts p us q vs f e)))

  return_from : (ts : List Token) (p : Pos) (us : List Token) (c : Option Expr) (vs : List Token) (q : Pos) (ws : List Token) → KeyAt k.Return ts p us → Condition' ns n us c vs → Marked m.Semicolon vs q ws → Stmt' ns n ts (s.Return p c) ws
  return_from _ p _ _ _ q ws KeyAt.key_at_front Condition'.always Marked.marked = Stmt'.return
  return_from _ p us _ _ q ws KeyAt.key_at_front (Condition'.while i) Marked.marked = Stmt'.return_value i

  return_sound : (ts : List Token) → key_at ts ≡ Some k.Return → Yields (λ a us. Stmt' ns n ts a us) (read.return ns n bodies ts)
  unfolding read.return
  return_sound ts h =
      then_yields (take_key_at ts k.Return h) (λ p us f.
      then_yields (expr_before_sound ns n m.Semicolon us) (λ c vs i.
      then_yields (expect_yields m.Semicolon vs) (λ q ws e.
      Yields.got (return_from ts p us c vs q ws f i e))))

  directive_from : (ts : List Token) (x : Directive) (us : List Token) (p : Pos) (vs : List Token) → Directive' ns n ts x us → Marked m.Semicolon us p vs → Stmt' ns n ts (s.Directive (tree.pos_of ts) x) vs
  directive_from ts x _ p vs i Marked.marked = Stmt'.directive i

  ended_sound : (p : Parser Directive) (ts : List Token) → Yields (λ x us. Directive' ns n ts x us) (p ts) → Yields (λ a us. Stmt' ns n ts a us) (read.ended p ts)
  unfolding read.ended
  ended_sound p ts one = then_yields one (λ x us i. then_yields (expect_yields m.Semicolon us) (λ q vs e. Yields.got (directive_from ts x us q vs i e)))

  mark_stmt_sound : (o : Option Punct) (ts : List Token) → mark_at ts ≡ o → Yields (λ a us. Stmt' ns n ts a us) (read.mark_stmt ns n bodies o ts)
  mark_stmt_sound (Some m.OpenBrace) ts h = block_sound ts
  mark_stmt_sound (Some m.Semicolon) ts h = empty_sound ts h
  mark_stmt_sound (Some m.PlusPlus) ts h = simple_ended_sound ts ts (read.simple ns n) (simple_sound ns n ts)
  mark_stmt_sound (Some m.MinusMinus) ts h = simple_ended_sound ts ts (read.simple ns n) (simple_sound ns n ts)
  mark_stmt_sound o ts h = placed_sound ts

  stmt_by_sound : (o : Option Keyword) (ts : List Token) → key_at ts ≡ o → Yields (λ a us. Stmt' ns n ts a us) (read.stmt_by ns n bodies o ts)
  stmt_by_sound None ts h = mark_stmt_sound (mark_at ts) ts refl
  stmt_by_sound (Some k.If) ts h = if_stmt_sound ts h
  stmt_by_sound (Some k.While) ts h = while_stmt_sound ts h
  stmt_by_sound (Some k.Do) ts h = do_stmt_sound ts h
  stmt_by_sound (Some k.For) ts h = for_stmt_sound ts h
  stmt_by_sound (Some k.Switch) ts h = switch_stmt_sound ts h
  stmt_by_sound (Some k.Break) ts h = break_sound ts h
  stmt_by_sound (Some k.Return) ts h = return_sound ts h
  stmt_by_sound (Some k.WaitForClock) ts h = ended_sound (read.bare n d.Wait) ts (wait_sound ns n ts h)
  stmt_by_sound (Some k.Partition) ts h = ended_sound (read.bare n d.Partition) ts (partition_sound ns n ts h)
  stmt_by_sound (Some k.KnownFact) ts h = ended_sound (read.with_expr ns n d.KnownFact) ts (known_fact_sound ns n ts h)
  stmt_by_sound (Some k.Assert) ts h = ended_sound (read.with_expr ns n d.Assert) ts (assert_sound ns n ts h)
  stmt_by_sound (Some w) ts h = Yields.stuck

  stmt_sound : (ts : List Token) → Yields (λ a us. Stmt' ns n ts a us) (read.stmt ns n bodies ts)
  unfolding read.stmt
  stmt_sound ts = stmt_by_sound (key_at ts) ts refl

  -- ---- what stands in braces
  nested_stmt : (n : ℕ) (ts : List Token) (a : Stmt) (us : List Token) (is : List BlockItem) (vs : List Token) → Within (Stmt' ns) n ts a us → Nested ns n us is vs → Nested ns n ts (item.Stmt a ∷ is) vs
  nested_stmt zero ts a us is vs i more = absurd i
  nested_stmt (suc n) ts a us is vs i more = Nested.nested_stmt i more

  pub nested_item_sound : (one : Parser Stmt) → ((ts : List Token) → Yields (λ a us. Within (Stmt' ns) n ts a us) (one ts)) → (ts : List Token)
      → Yields (λ x us. (is : List BlockItem) (vs : List Token) → Nested ns n us is vs → Nested ns n ts (x ∷ is) vs) (read.block_item ns n bodies one ts)
  unfolding read.block_item
  nested_item_sound one each ts = if_yields (begins_type ns ts)
      (λ h. then_yields (local_sound ns n ts) (λ l us i. Yields.got (λ is vs more. Nested.nested_local i more)))
      (λ h. then_yields (each ts) (λ a us i. Yields.got (λ is vs more. nested_stmt n ts a us is vs i more)))

  nested_sound : (one : Parser Stmt) → ((ts : List Token) → Yields (λ a us. Within (Stmt' ns) n ts a us) (one ts)) → (ts : List Token) → Yields (λ is us. Nested ns n ts is us) (read.block_items ns n bodies one ts)
  unfolding read.block_items
  nested_sound one each = many_yields (λ ts is us. Nested ns n ts is us) read.no_close (read.block_item ns n bodies one) (λ us h. Nested.no_item) (λ ts h. nested_item_sound one each ts)

  pub outer_item_sound : (one : Parser Stmt) → ((ts : List Token) → Yields (λ a us. Stmt' ns n ts a us) (one ts)) → (ts : List Token)
      → Yields (λ x us. (is : List BlockItem) (vs : List Token) → Outermost ns n us is vs → Outermost ns n ts (x ∷ is) vs) (read.block_item ns n bodies one ts)
  unfolding read.block_item
  outer_item_sound one each ts = if_yields (begins_type ns ts)
      (λ h. then_yields (local_sound ns n ts) (λ l us i. Yields.got (λ is vs more. Outermost.local_item i more)))
      (λ h. then_yields (each ts) (λ a us i. Yields.got (λ is vs more. Outermost.stmt_item i more)))

  outer_sound : (one : Parser Stmt) → ((ts : List Token) → Yields (λ a us. Stmt' ns n ts a us) (one ts)) → (ts : List Token) → Yields (λ is us. Outermost ns n ts is us) (read.block_items ns n bodies one ts)
  unfolding read.block_items
  outer_sound one each = many_yields (λ ts is us. Outermost ns n ts is us) read.no_close (read.block_item ns n bodies one) (λ us h. Outermost.no_item) (λ ts h. outer_item_sound one each ts)

  body_stmt : (n : ℕ) (ts : List Token) (a : Stmt) (us : List Token) (ss : List Stmt) (vs : List Token) → Within (Stmt' ns) n ts a us → Body ns n us ss vs → Body ns n ts (a ∷ ss) vs
  body_stmt zero ts a us ss vs i more = absurd i
  body_stmt (suc n) ts a us ss vs i more = Body.stmt i more

  body_sound : (ts : List Token) → Yields (λ ss us. Body ns n ts ss us) (many (read.goes_on ns n bodies) bodies.stmt ts)
  body_sound = many_yields (λ ts ss us. Body ns n ts ss us) (read.goes_on ns n bodies) bodies.stmt (λ us h. Body.no_stmt)
      (λ ts h. map_yields (λ a us i ss vs more. body_stmt n ts a us ss vs i more) (sound.stmt ts))

  pub a_group_sound : (ts : List Token) → Yields (λ g us. (gs : List Group) (vs : List Token) → Groups ns n us gs vs → Groups ns n ts (g ∷ gs) vs) (read.a_group ns n bodies ts)
  unfolding read.a_group
  a_group_sound ts =
      then_yields (a_label_sound ns n ts) (λ l us i.
      then_yields (more_labels_sound ns n us) (λ ls vs j.
      then_yields (body_sound vs) (λ ss ws b.
      Yields.got (λ gs xs more. Groups.group (j ts l i) b more))))

  groups_sound : (ts : List Token) → Yields (λ gs us. Groups ns n ts gs us) (read.groups ns n bodies ts)
  unfolding read.groups
  groups_sound = many_yields (λ ts gs us. Groups ns n ts gs us) begins_with_label (read.a_group ns n bodies) (λ us h. Groups.no_group) (λ ts h. a_group_sound ts)

pub bodies_sound : (ns : Names) (n : ℕ) → IsBodies ns n (read.bodies ns n)
unfolding read.bodies
bodies_sound ns zero = record { stmt = λ ts. if_yields (read.begins_stmt ns ts) (λ h. Yields.deep) (λ h. Yields.stuck); items = λ ts. Yields.deep; groups = λ ts. Yields.deep }
bodies_sound ns (suc n) =
    let one = read.bodies ns n in
    let below = bodies_sound ns n in
    record { stmt = stmt_sound ns n one below; items = nested_sound ns n one below one.stmt below.stmt; groups = groups_sound ns n one below }

pub stmt_yields : (ns : Names) (n : ℕ) (ts : List Token) → Yields (λ a us. Stmt' ns n ts a us) (read.stmt_at ns n ts)
stmt_yields ns n = stmt_sound ns n (read.bodies ns n) (bodies_sound ns n)

pub outermost_yields : (ns : Names) (n : ℕ) (ts : List Token) → Yields (λ is us. Outermost ns n ts is us) (read.outermost ns n ts)
unfolding read.outermost
outermost_yields ns n = outer_sound ns n (read.bodies ns n) (bodies_sound ns n) (read.stmt_at ns n) (stmt_yields ns n)

-- ---- functions
star_from : (ts : List Token) (p : Pos) (us : List Token) → Marked m.Star ts p us → Starred ts (Some p) us
star_from _ p us Marked.marked = Starred.star

name_from : (ts : List Token) (x : Named) (us : List Token) → IsWord ts x us → Nameable ts (Some x) us
name_from _ _ us IsWord.is_word = Nameable.name

module _ (ns : Names) (n : ℕ) where
  pub param_sound : (ts : List Token) → Yields (λ x us. Param' ns n ts x us) (read.param ns n ts)
  unfolding read.param
  param_sound ts =
      then_yields (specifiers_yields ns n ts) (λ t us i.
      then_yields {Q = λ o vs. Starred us o vs}
      (if_yields (sees m.Star us) (λ h. then_yields (expect_yields m.Star us) (λ p vs c. Yields.got (star_from us p vs c))) (λ h. Yields.got Starred.no_star))
      (λ o vs j.
      if_yields (is_some (name_at vs))
      (λ h. then_yields (any_name_yields vs) (λ x ws l. Yields.got (Param'.param i j (name_from vs x ws l))))
      (λ h. Yields.got (Param'.param i j Nameable.no_name))))

  param_list_sound : (ts : List Token) → Yields (λ xs us. ParamList ns n ts xs us) (read.list m.CloseParen (read.param ns n) ts)
  param_list_sound = list_yields (λ ts x us. Param' ns n ts x us) (λ ts xs us. ParamList ns n ts xs us) m.CloseParen (read.param ns n)
      (λ ts x p us i. ParamList.last_param i) (λ ts x p us xs vs i more. ParamList.next_param i more) param_sound

  empty_params : (ts : List Token) (p : Pos) (us : List Token) → Marked m.CloseParen ts p us → Params' ns n ts given.Empty us
  empty_params _ p us Marked.marked = Params'.empty

  void_params : (v c : Word) (p q : Pos) (ts : List Token) → v ≡ Key k.Void → c ≡ Mark m.CloseParen → Params' ns n ((record { word = v; pos = p }) ∷ (record { word = c; pos = q }) ∷ ts) given.Void ts
  void_params v c p q ts e f =
      subst (λ (x : Word). Params' ns n ((record { word = x; pos = p }) ∷ (record { word = c; pos = q }) ∷ ts) given.Void ts) (sym e)
      (subst (λ (x : Word). Params' ns n (key k.Void p ∷ (record { word = x; pos = q }) ∷ ts) given.Void ts) (sym f) Params'.void)

  is_void_is : (w : Word) → is_void w ≡ true → w ≡ Key k.Void
  is_void_is (Key k.Void) h = refl
  is_void_is w h = cc

  is_close_is : (w : Word) → is_close w ≡ true → w ≡ Mark m.CloseParen
  is_close_is (Mark m.CloseParen) h = refl
  is_close_is w h = cc

  void_alone : (ts : List Token) → is_void_alone ts ≡ true → Params' ns n ts given.Void (after (after ts))
  unfolding is_void_alone
  void_alone [] h = cc
  void_alone (t ∷ []) h = let both = and_parts (is_void t.word) false h in let no = both.1 in cc
  void_alone (t ∷ c ∷ ts) h = let both = and_parts (is_void t.word) (is_close c.word) h in void_params t.word c.word t.pos c.pos ts (is_void_is t.word both.0) (is_close_is c.word both.1)

  pub params_sound : (ts : List Token) → Yields (λ ps us. Params' ns n ts ps us) (read.params ns n ts)
  unfolding read.params
  params_sound ts = if_yields (sees m.CloseParen ts) (λ h. let c = sees_is m.CloseParen ts h in Yields.got (empty_params ts c.0 (after ts) c.1))
      (λ h. if_yields (is_void_alone ts) (λ g. Yields.got (void_alone ts g)) (λ g. then_yields (param_list_sound ts) (λ ps us i. Yields.got (Params'.list i g))))

-- ---- sources
-- an item and those behind it
abbrev InFront : Names → ℕ → List Token → Item → List Token → Type 0
InFront ns n ts x us = (is : List Item) → Units (read.names_after ns x) n us is → Units ns n ts (x ∷ is)

func_from : (ns : Names) (n : ℕ) (ts : List Token) (t : Specifiers) (t1 : List Token) (x : Named) (t2 : List Token) (p : Pos) (t3 : List Token) (ps : Params) (t4 : List Token) (r : Pos) (t5 : List Token) (bs : List BlockItem) (t6 : List Token) (q : Pos) (t7 : List Token)
    → Specifiers' ns n ts t t1 → IsWord t1 x t2 → Opened m.OpenParen n t2 p t3 → Within (Params' ns) n t3 ps t4 → all_named ps ≡ true → Opened m.OpenBrace n t4 r t5 → Within (Outermost ns) n t5 bs t6 → Marked m.CloseBrace t6 q t7
    → InFront ns n ts (top.Func t x ps (tree.block r bs q)) t7
func_from ns _ ts t _ _ _ p t3 ps _ r t5 bs _ q t7 i IsWord.is_word Opened.opened j h Opened.opened l Marked.marked is more = Units.func i j h l more

proto_from : (ns : Names) (n : ℕ) (ts : List Token) (t : Specifiers) (t1 : List Token) (x : Named) (t2 : List Token) (p : Pos) (t3 : List Token) (ps : Params) (t4 : List Token) (r : Pos) (t5 : List Token)
    → Specifiers' ns n ts t t1 → IsWord t1 x t2 → Opened m.OpenParen n t2 p t3 → Within (Params' ns) n t3 ps t4 → Marked m.Semicolon t4 r t5 → InFront ns n ts (top.Proto t x ps) t5
proto_from ns _ ts t _ _ _ p t3 ps _ r t5 i IsWord.is_word Opened.opened j Marked.marked is more = Units.proto i j more

module _ (ns : Names) (n : ℕ) where
  function_sound : (ts : List Token) (t : Specifiers) (us : List Token) → Specifiers' ns n ts t us → Yields (λ x vs. InFront ns n ts x vs) (read.function ns n t us)
  unfolding read.function read.ends read.body
  function_sound ts t t1 i =
      then_yields (any_name_yields t1) (λ x t2 w.
      then_yields (opens_yields n m.OpenParen t2) (λ p t3 o.
      then_yields (within_yields (Params' ns) (read.params ns) (params_sound ns) n t3) (λ ps t4 j.
      if_yields (sees m.Semicolon t4)
      (λ h. let c = sees_is m.Semicolon t4 h in Yields.got (proto_from ns n ts t t1 x t2 p t3 ps t4 c.0 (after t4) i w o j c.1))
      (λ h. if_yields (all_named ps)
      (λ g. then_yields (opens_yields n m.OpenBrace t4) (λ r t5 o'.
      then_yields (within_yields (Outermost ns) (read.outermost ns) (outermost_yields ns) n t5) (λ bs t6 l.
      then_yields (expect_yields m.CloseBrace t6) (λ q t7 c.
      Yields.got (func_from ns n ts t t1 x t2 p t3 ps t4 r t5 bs t6 q t7 i w o j g o' l c)))))
      (λ g. Yields.stuck)))))

  global_sound : (ts : List Token) (t : Specifiers) (us : List Token) → Specifiers' ns n ts t us → Yields (λ x vs. InFront ns n ts x vs) (read.global ns n t us)
  unfolding read.global
  global_sound ts t us i = then_yields (init_declrs_sound ns n us) (λ xs vs j. Yields.got (λ is more. Units.global i j more))

  named_item_sound : (ts : List Token) (t : Specifiers) (us : List Token) → Specifiers' ns n ts t us → Yields (λ x vs. InFront ns n ts x vs) (read.named_item ns n t us)
  unfolding read.named_item
  named_item_sound ts t us i = if_yields (read.sees_function us) (λ h. function_sound ts t us i) (λ h. global_sound ts t us i)

  typedef_from : (ts : List Token) (p : Pos) (us : List Token) (t : Specifiers) (vs : List Token) (x : Named) (ws : List Token) (q : Pos) (xs : List Token) → KeyAt k.Typedef ts p us → Specifiers' ns n us t vs → IsWord vs x ws → Marked m.Semicolon ws q xs
      → InFront ns n ts (top.Typedef p t x) xs
  typedef_from _ p us t _ _ _ q xs KeyAt.key_at_front i IsWord.is_word Marked.marked is more = Units.typedef i more

  typedef_sound : (ts : List Token) → key_at ts ≡ Some k.Typedef → Yields (λ x us. InFront ns n ts x us) (read.typedef ns n ts)
  unfolding read.typedef
  typedef_sound ts h =
      then_yields (take_key_at ts k.Typedef h) (λ p us f.
      then_yields (specifiers_yields ns n us) (λ t vs i.
      then_yields (any_name_yields vs) (λ x ws w.
      then_yields (expect_yields m.Semicolon ws) (λ q xs e.
      Yields.got (typedef_from ts p us t vs x ws q xs f i w e)))))

  base_struct : (ts us : List Token) (t : Base) (x : Struct) → Base' ns n ts t us → read.struct_in t ≡ Some x → Struct' ns n ts x us
  base_struct ts us _ x (Base'.scalar {w = w} {ws = ws} i) h = cc (b.outs-Scalar (w ∷ ws))
  base_struct _ us _ x Base'.void h = cc b.outs-Void
  base_struct _ us _ x (Base'.tag {q = q} {w = w}) h = cc (b.outs-Tag (named w q))
  base_struct ts us _ x (Base'.structure {s = y} i) h = let e : y ≡ x = cc (b.outs-Struct y) in subst (λ z. Struct' ns n ts z us) e i
  base_struct _ us _ x (Base'.type_name {p = p} {w = w} g) h = cc (b.outs-Named (named w p))

  bare_at : (ts us vs : List Token) (qs : List Qualified) (t : Base) (x : Struct) → Qualifiers ts qs us → Base' ns n us t vs → read.if_bare qs (read.struct_in t) ≡ Some x → Struct' ns n ts x vs
  bare_at ts _ vs _ t x Qualifiers.no_qualifier j h = base_struct ts vs t x j h
  bare_at _ us vs _ t x (Qualifiers.qualifier e more) j h = cc

  pub bare_struct : (ts us : List Token) (t : Specifiers) (x : Struct) → Specifiers' ns n ts t us → read.struct_of t ≡ Some x → Struct' ns n ts x us
  unfolding read.struct_of
  bare_struct ts us _ x (Specifiers'.specifiers {us = ms} {qs = qs} {b = t} i j) h =
      let e = out-roll-Specifiers (record { pos = tree.pos_of ts; qualifiers = qs; base = t }) in
      bare_at ts ms us qs t x i j (subst (λ o. read.if_bare o.qualifiers (read.struct_in o.base) ≡ Some x) e h)

  struct_from : (ts : List Token) (x : Struct) (us : List Token) (p : Pos) (vs : List Token) → Struct' ns n ts x us → Marked m.Semicolon us p vs → InFront ns n ts (top.Struct (tree.pos_of ts) x) vs
  struct_from ts x _ p vs i Marked.marked is more = Units.structure i more

  struct_or_sound : (ts : List Token) (t : Specifiers) (us : List Token) (o : Option Struct) → Specifiers' ns n ts t us → read.struct_of t ≡ o → Yields (λ x vs. InFront ns n ts x vs) (read.struct_or ns n (tree.pos_of ts) t o us)
  struct_or_sound ts t us None i e = named_item_sound ts t us i
  struct_or_sound ts t us (Some x) i e = if_yields (sees m.Semicolon us)
      (λ h. let c = sees_is m.Semicolon us h in Yields.got (struct_from ts x us c.0 (after us) (bare_struct ts us t x i e) c.1))
      (λ h. named_item_sound ts t us i)

  declared_sound : (ts : List Token) → Yields (λ x us. InFront ns n ts x us) (read.declared ns n ts)
  unfolding read.declared
  declared_sound ts = then_yields (specifiers_yields ns n ts) (λ t us i. struct_or_sound ts t us (read.struct_of t) i refl)

  item_by_sound : (o : Option Keyword) (ts : List Token) → key_at ts ≡ o → Yields (λ x us. InFront ns n ts x us) (read.item_by ns n o ts)
  item_by_sound (Some k.Typedef) ts h = typedef_sound ts h
  item_by_sound o ts h = declared_sound ts

  pub an_item_sound : (ts : List Token) → Yields (λ x us. InFront ns n ts x us) (read.an_item ns n ts)
  unfolding read.an_item
  an_item_sound ts = item_by_sound (key_at ts) ts refl

items_from_sound : (n left : ℕ) (ns : Names) (found : List Item) (ts : List Token) → Yields (λ is us. Behind found (λ js. Units ns n ts js) is) (read.items_from n left ns found ts)
unfolding read.items_from
items_from_sound n zero ns found ts = Yields.stuck
items_from_sound n (suc left) ns found [] = Yields.got ([], sym (append-nil found), Units.end)
items_from_sound n (suc left) ns found (t ∷ ts) =
    then_yields (an_item_sound ns n (t ∷ ts)) (λ x us i.
    map_yields (λ is vs r. (x ∷ r.0, r.1 ∙ append_assoc found (x ∷ []) r.0, i r.0 r.2)) (items_from_sound n left (read.names_after ns x) (found ++ x ∷ []) us))

source_yields : (n : ℕ) (ts : List Token) → Yields (λ u us. Tree n ts u) (read.source n ts)
unfolding read.source
source_yields n ts = then_yields (items_from_sound n (turns ts) [] [] ts) (λ is us r. Yields.got (subst (λ (js : List Item). Units [] n ts js) (sym r.1) r.2))

-- ---- what is read
pub sources : (n : ℕ) (ts us : List Token) (u : Source) → read.source n ts ≡ Got u us → Tree n ts u
sources n ts us u h = yielded (source_yields n ts) h
