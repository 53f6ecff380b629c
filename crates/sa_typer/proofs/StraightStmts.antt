-- Where every form of the tree is analysed today, typing gives statements of which today's analysis knows every form.
use Rattle.std.proofs.Common.{◌≡◌, ℕ, Bool, true, false, ◌&&◌, List, [], ◌∷◌, ◌++◌, refl, sym, ap, subst, ◌∙◌, Option, Some, None}
use Rattle.std.specs.Prelude.{if◌then◌else◌, ◌||◌, not, option_map}
use Rattle.sa_base.specs.declared.num.Num.{Num}
use Rattle.sa_base.specs.declared.num.Num.TheVariants.{I32}
use Rattle.sa_base.specs.declared.pos.Pos.{Pos}
use Rattle.sa_syntax.specs.declared.decl.Base.TheBlock as exprs
use Rattle.sa_syntax.specs.declared.decl.Init as inits
use Rattle.sa_syntax.specs.declared.decl.Init.{Init, Value, Braces'}
use Rattle.sa_syntax.specs.declared.decl.Specifiers.{Specifiers, out-Specifiers}
use Rattle.sa_syntax.specs.declared.decl.Declr.{out-Declr}
use Rattle.sa_syntax.specs.declared.expr.Expr as tree
use Rattle.sa_syntax.specs.declared.expr.Expr.{Number, Place', Bracket', Prefix', Cast', Chain', Choice', out-Expr}
use Rattle.sa_syntax.specs.declared.expr.Place.{Place, out-Place}
use Rattle.sa_syntax.specs.declared.stmt.Block.{Block, out-Block}
use Rattle.sa_syntax.specs.declared.stmt.BlockItem as blocks
use Rattle.sa_syntax.specs.declared.stmt.BlockItem.{BlockItem}
use Rattle.sa_syntax.specs.declared.stmt.First.{First}
use Rattle.sa_syntax.specs.declared.stmt.First.TheVariants as first
use Rattle.sa_syntax.specs.declared.stmt.Local.{Local}
use Rattle.sa_syntax.specs.declared.stmt.LocalDeclr.{LocalDeclr}
use Rattle.sa_syntax.specs.declared.stmt.LocalStart.{LocalStart}
use Rattle.sa_syntax.specs.declared.stmt.LocalStart.TheVariants as inner
use Rattle.sa_syntax.specs.declared.stmt.Simple as from_tree
use Rattle.sa_syntax.specs.declared.stmt.Simple.TheVariants as x
use Rattle.sa_syntax.specs.declared.stmt.Stmt as stmts
use Rattle.sa_syntax.specs.declared.stmt.Stmt.{Row_of-BlockItem, end_of-BlockItem, more_of-BlockItem, items-the_row-BlockItem, items_shown-the_row-BlockItem-0, end_of-Stmt, more_of-Stmt}
use Rattle.sa_typed.specs.declared.expr.Access.{Access}
use Rattle.sa_typed.specs.declared.expr.Expr.{Expr}
use Rattle.sa_typed.specs.declared.expr.Expr.TheVariants as e
use Rattle.sa_typed.specs.declared.expr.Operator.{Operator}
use Rattle.sa_typed.specs.declared.stmt.LoopKind.TheVariants as kind
use Rattle.sa_typed.specs.declared.stmt.Simple.{Simple}
use Rattle.sa_typed.specs.declared.stmt.Simple.TheVariants as simply
use Rattle.sa_typed.specs.declared.stmt.Start.{Start}
use Rattle.sa_typed.specs.declared.stmt.Start.TheVariants as start
use Rattle.sa_typed.specs.declared.stmt.Stmt as typed
use Rattle.sa_typed.specs.declared.stmt.Stmt.{Stmt, Row_of-Stmt, items-the_row-Stmt, items_hidden-the_row-Stmt-0}
use Rattle.sa_typed.specs.declared.stmt.Stmt.TheVariants as t
use Rattle.sa_scopes.specs.declared.form.Form.{Form}
use Rattle.sa_scopes.specs.declared.form.Form.TheVariants as form
use Rattle.sa_scopes.specs.declared.typer.Typer.{Typer}
use Rattle.sa_scopes.specs.declared.types.Ty.{Ty}
use Rattle.sa_typed.specs.declared.shape.Shape.{Shape}
use Rattle.sa_scopes.specs.First.{expr_pos, item_pos}
use Rattle.sa_scopes.specs.Forms.{form_of}
use Rattle.sa_scopes.specs.Scopes.{count}
use Rattle.sa_scopes.specs.Types.{qualifiers, shape_of}
use Rattle.sa_operands.specs.Lists.{object_type}
use Rattle.sa_scopes.specs.Typing.{Typed, Typing, Gives, and_then, each, refuse_if}
use Rattle.sa_operands.specs.declared.operand.Operand.{Operand}
use Rattle.sa_operands.specs.declared.operand.Operand.TheVariants as a
use Rattle.sa_operands.specs.declared.operand.Sort.{Sort}
use Rattle.sa_operands.specs.declared.operand.Sort.TheVariants as sort
use Rattle.sa_operands.specs.declared.operand.Spot.{Spot}
use Rattle.sa_operands.specs.Operands.{stand_in}
use Rattle.sa_operands.specs.Places.{access, form_at}
use Rattle.sa_declarations.specs.declared.beginning.Beginning.{Beginning}
use Rattle.sa_declarations.specs.Declarations.{begun, begun_by, begun_with, local_as, local_of, next_local, locals, local}
use Rattle.sa_typer.specs.declared.bodies.Body.{Body}
use Rattle.sa_typer.specs.Bodies as body
use Rattle.sa_typer.specs.Bodies.{block, before_wait, in_block, is_one, for_ever, loop_in, clock_loop, clock_stmt, no_body, main_by, main_item, main_items, main_block}
use Rattle.sa_typer.specs.Statements.{mismatched, some_assignment, to_number, to_struct, to_form, assigned, compound_of, update_of, one, sort_by, compounded_number, compounded_by, compounded, left_side, simple, left_scope, scoped, stmt, items, item}
use Rattle.sa_typer.proofs.StraightExprs.{IsStraight, straight_number}
use Rattle.sa_typer.proofs.StraightWalks.{Straight, gives, bind, after, each_part, none_first, none_rest, StraightOperand, StraightSpot, part_straight, access_straight, expr_straight, place_straight}
use Rattle.sa_unbuilt.specs.Unbuilt as un
use Rattle.sa_unbuilt.specs.Unbuilt.{◌or◌, first_in}

-- ---- statements without an expression that isn't analysed
abbrev pub StraightStart : Start → Type 0
StraightStart start.Any = Unit {0}
StraightStart (start.Value q a) = IsStraight a
StraightStart start.Items = Unit {0}

abbrev pub StraightSimple : Simple → Type 0
StraightSimple (simply.Declare k s) = StraightStart s
StraightSimple (simply.Assign y num q a) = IsStraight (e.Read y I32) × IsStraight a
StraightSimple (simply.Compound y num op q work a) = IsStraight (e.Read y I32) × IsStraight a
StraightSimple (simply.Copy k y q z) = IsStraight (e.Read y I32) × IsStraight (e.Read z I32)

unfoldable mutual
  pub StraightStmt : Stmt → Type 0
  StraightStmt (typed.Simple y) = StraightSimple y
  StraightStmt (typed.Block' n all) = AreStraightStmts all
  StraightStmt (typed.Loop' q kind.Clock None n (typed.more_of-Stmt b typed.end_of-Stmt) None) = StraightStmt b
  StraightStmt typed.Wait = Unit {0}
  StraightStmt _ = ⊥

  pub AreStraightStmts : {n : _} → Row_of-Stmt n → Type 0
  AreStraightStmts typed.end_of-Stmt = Unit {0}
  AreStraightStmts (typed.more_of-Stmt s more) = StraightStmt s × AreStraightStmts more

unfoldable pub AllStraight : List Stmt → Type 0
AllStraight [] = Unit {0}
AllStraight (s ∷ ss) = StraightStmt s × AllStraight ss

pub none_straight : AllStraight []
unfolding AllStraight
none_straight = tt

pub straight_append : (ss : List Stmt) (s : Stmt) → AllStraight ss → StraightStmt s → AllStraight (ss ++ s ∷ [])
unfolding AllStraight
straight_append [] s h k = (k, tt)
straight_append (r ∷ ss) s h k = (h.0, straight_append ss s h.1 k)

-- what holds of statements and a last one
pub straight_before : (ss : List Stmt) (s : Stmt) → AllStraight (ss ++ s ∷ []) → AllStraight ss
unfolding AllStraight
straight_before [] s h = tt
straight_before (r ∷ ss) s h = (h.0, straight_before ss s h.1)

pub straight_last : (ss : List Stmt) (s : Stmt) → AllStraight (ss ++ s ∷ []) → StraightStmt s
unfolding AllStraight
straight_last [] s h = h.0
straight_last (r ∷ ss) s h = straight_last ss s h.1

to_row : (n : _) (r : Row_of-Stmt n) → AllStraight (items-the_row-Stmt n r) → AreStraightStmts r
unfolding AllStraight StraightStmt
to_row n typed.end_of-Stmt h = tt
to_row n (typed.more_of-Stmt s more) h = (h.0, to_row _ more h.1)

of_row : (n : _) (r : Row_of-Stmt n) → AreStraightStmts r → AllStraight (items-the_row-Stmt n r)
unfolding AllStraight StraightStmt
of_row n typed.end_of-Stmt h = tt
of_row n (typed.more_of-Stmt s more) h = (h.0, of_row _ more h.1)

abbrev stmts_of : Stmt → (n : _) × Row_of-Stmt n
stmts_of (typed.Block' n r) = (_, r)
stmts_of _ = (_, typed.end_of-Stmt)

block_straight : (all : List Stmt) → AllStraight all → StraightStmt (t.Block all)
unfolding StraightStmt
block_straight all h = let r = stmts_of (t.Block all) in to_row r.0 r.1 (subst AllStraight (sym (items_hidden-the_row-Stmt-0 all)) h)

block_parts : (all : List Stmt) → StraightStmt (t.Block all) → AllStraight all
unfolding StraightStmt
block_parts all h = let r = stmts_of (t.Block all) in subst AllStraight (items_hidden-the_row-Stmt-0 all) (of_row r.0 r.1 h)

loop_of : (q : Pos) (s : Stmt) → StraightStmt s → StraightStmt (t.Loop q kind.Clock None s None)
unfolding StraightStmt Rattle.sa_typed.specs.declared.stmt.Stmt.TheBlock.hidden-the_row-Stmt-1 denote.Hole.Carrier.hidden
loop_of q s h = h

in_loop : (q : Pos) (s : Stmt) → StraightStmt (t.Loop q kind.Clock None s None) → StraightStmt s
unfolding StraightStmt Rattle.sa_typed.specs.declared.stmt.Stmt.TheBlock.hidden-the_row-Stmt-1 denote.Hole.Carrier.hidden
in_loop q s h = h

wait_straight : StraightStmt t.Wait
unfolding StraightStmt
wait_straight = tt

clock_straight : (q : Pos) (ss : List Stmt) → AllStraight ss → StraightStmt (clock_stmt q ss)
clock_straight q ss h = loop_of q (t.Block (ss ++ t.Wait ∷ [])) (block_straight (ss ++ t.Wait ∷ []) (straight_append ss t.Wait h wait_straight))

pub clock_parts : (q : Pos) (ss : List Stmt) → StraightStmt (clock_stmt q ss) → AllStraight ss
clock_parts q ss h = straight_before ss t.Wait (block_parts (ss ++ t.Wait ∷ []) (in_loop q (t.Block (ss ++ t.Wait ∷ [])) h))

simple_straight : (y : Simple) → StraightSimple y → StraightStmt (t.Simple y)
unfolding StraightStmt
simple_straight y h = h

-- ---- assignments
stand_in_straight : IsStraight stand_in
stand_in_straight = straight_number 0 I32

spot_read : (l : Spot) → StraightSpot l → IsStraight (e.Read (access l) I32)
spot_read l h = access_straight l.root l.steps I32 h

some_straight : (y : Access) (p : Pos) → IsStraight (e.Read y I32) → StraightSimple (some_assignment y p)
some_straight y p h = (h, stand_in_straight)

mismatched_straight : (y : Access) (p : Pos) (s : Typer) → IsStraight (e.Read y I32) → Straight StraightSimple (mismatched y p s)
mismatched_straight y p s h = gives (some_straight y p h)

to_number_straight : (y : Access) (num : Num) (p : Pos) (i : Operand) (s : Typer) → IsStraight (e.Read y I32) → StraightOperand i → Straight StraightSimple (to_number y num p i s)
to_number_straight y num p (a.Number z from w) s h k = gives (h, k)
to_number_straight y num p (a.Struct z j fixed q) s h k = mismatched_straight y p s h
to_number_straight y num p (a.Array q) s h k = mismatched_straight y p s h
to_number_straight y num p a.Unknown s h k = gives (some_straight y p h)

to_struct_straight : (y : Access) (fixed : Bool) (j : ℕ) (p : Pos) (i : Operand) (s : Typer) → IsStraight (e.Read y I32) → StraightOperand i → Straight StraightSimple (to_struct y fixed j p i s)
to_struct_straight y fixed j p (a.Number z from w) s h k = mismatched_straight y p s h
to_struct_straight y fixed j p (a.Struct z m f q) s h k = after _ (λ b u. gives (h, k))
to_struct_straight y fixed j p (a.Array q) s h k = mismatched_straight y p s h
to_struct_straight y fixed j p a.Unknown s h k = gives (some_straight y p h)

to_form_straight : (l : Spot) (o : Option Form) (p : Pos) (i : Operand) (s : Typer) → StraightSpot l → StraightOperand i → Straight StraightSimple (to_form l o p i s)
to_form_straight l None p i s h k = gives (some_straight (access l) p (spot_read l h))
to_form_straight l (Some (form.Scalar num)) p i s h k = to_number_straight (access l) num p i s (spot_read l h) k
to_form_straight l (Some (form.Struct j)) p i s h k = to_struct_straight (access l) l.fixed j p i s (spot_read l h) k
to_form_straight l (Some (form.Array n)) p i s h k = mismatched_straight (access l) p s (spot_read l h)

assigned_straight : (l : Spot) (p : Pos) (i : Operand) (s : Typer) → StraightSpot l → StraightOperand i → Straight StraightSimple (assigned l p i s)
unfolding assigned
assigned_straight l p i s h k = to_form_straight l (form_at l) p i s h k

compounded_number_straight : (y : Access) (o : Operator) (p : Pos) (z : Sort) (r : Expr) (from : Num) (s : Typer) → IsStraight (e.Read y I32) → IsStraight r → Straight StraightSimple (compounded_number y o p z r from s)
compounded_number_straight y o p (sort.Number to) r from s h k = gives (h, k)
compounded_number_straight y o p sort.Object r from s h k = mismatched_straight y p s h
compounded_number_straight y o p sort.Unknown r from s h k = gives (some_straight y p h)

compounded_by_straight : (y : Access) (o : Operator) (p : Pos) (z : Sort) (i : Operand) (s : Typer) → IsStraight (e.Read y I32) → StraightOperand i → Straight StraightSimple (compounded_by y o p z i s)
compounded_by_straight y o p z (a.Number r from w) s h k = compounded_number_straight y o p z r from s h k
compounded_by_straight y o p z (a.Struct r j fixed q) s h k = mismatched_straight y p s h
compounded_by_straight y o p z (a.Array q) s h k = mismatched_straight y p s h
compounded_by_straight y o p z a.Unknown s h k = after _ (λ b u. gives (some_straight y p h))

compounded_straight : (l : Spot) (o : Operator) (p : Pos) (i : Operand) (s : Typer) → StraightSpot l → StraightOperand i → Straight StraightSimple (compounded l o p i s)
unfolding compounded
compounded_straight l o p i s h k = compounded_by_straight (access l) o p (sort_by (form_at l)) i s (spot_read l h) k

left_straight : (y : Place) (s : Typer) → un.in_place y ≡ None → Straight StraightSpot (left_side y s)
left_straight y s h = bind (place_straight y s h) (λ l u k. after _ (λ b w. gives k))

assignment_straight : (y : from_tree.Simple) (s : Typer) → un.in_simple y ≡ None → Straight StraightSimple (simple y s)
unfolding simple un.in_simple
assignment_straight (x.Assign y p i) s h =
    bind (left_straight y s (none_first (un.in_place y) (un.in_expr i) h)) (λ l u k. bind (expr_straight i u (none_rest (un.in_place y) (un.in_expr i) h)) (λ j w g. assigned_straight l p j w k g))
assignment_straight (x.Compound y o p i) s h =
    bind (left_straight y s (none_first (un.in_place y) (un.in_expr i) h)) (λ l u k. bind (expr_straight i u (none_rest (un.in_place y) (un.in_expr i) h)) (λ j w g. compounded_straight l (compound_of o) p j w k g))
assignment_straight (x.After y o p) s h = bind (left_straight y s h) (λ l u k. compounded_straight l (update_of o) p one u k (straight_number 1 I32))
assignment_straight (x.Before o p y) s h = bind (left_straight y s h) (λ l u k. compounded_straight l (update_of o) p one u k (straight_number 1 I32))

-- ---- locals
abbrev StraightBeginning : Beginning → Type 0
StraightBeginning b = StraightStart b.start

begun_with_straight : (p q : Pos) (f : Form) (i : Operand) (s : Typer) → StraightOperand i → Straight StraightBeginning (begun_with p q f i s)
begun_with_straight p q (form.Scalar num) i s h = after _ (λ b u. gives (part_straight i h))
begun_with_straight p q (form.Struct k) i s h = gives tt
begun_with_straight p q (form.Array n) i s h = gives tt

begun_by_straight : (p : Pos) (shape : Shape) (i : Init) (s : Typer) → un.in_init i ≡ None → Straight StraightBeginning (begun_by p shape i s)
unfolding inits.out-Init denote.Hole.Carrier.out un.in_init
begun_by_straight p shape (Value y) s h = bind (expr_straight y s h) (λ i u k. begun_with_straight p (expr_pos y) (form_of shape) i u k)
begun_by_straight p shape (Braces' q n row) s h = after _ (λ zs u. gives tt)

begun_straight : (shape : Shape) (b : LocalStart) (s : Typer) → un.in_local_start b ≡ None → Straight StraightBeginning (begun shape b s)
unfolding begun
begun_straight shape inner.Nothing s h = gives tt
begun_straight shape (inner.Init p i) s h = begun_by_straight p shape i s h
begun_straight shape (inner.Call p c) s h = cc

local_of_straight : (ty : Ty) (d : LocalDeclr) (s : Typer) → un.in_local_declr d ≡ None → Straight StraightStmt (local_of ty d s)
unfolding local_of un.in_local_declr
local_of_straight ty d s h =
    after {A = List ℕ} _ (λ dims u. bind (begun_straight (shape_of ty.element dims) d.start u (none_rest (un.in_declr d.declr) (un.in_local_start d.start) h)) (λ b w k. after {A = ℕ} _ (λ n z. gives (simple_straight (simply.Declare n b.start) k))))

local_straight : (l : Local) (found : List Stmt) (s : Typer) → un.in_local l ≡ None → AllStraight found → Straight AllStraight (local l found s)
unfolding local un.in_local
local_straight l found s h k =
    let all = none_rest (un.in_specifiers l.ty) (first_in un.in_local_declr l.declrs) (none_rest (un.in_storage l.ty) (un.in_specifiers l.ty or first_in un.in_local_declr l.declrs) h) in
    after (qualifiers false true (out-Specifiers l.ty).qualifiers s) (λ b u. after (object_type l.ty u) (λ ty w. each_part AllStraight (next_local ty) un.in_local_declr (λ d f z g m. bind (local_of_straight ty d z g) (λ y r n. gives (straight_append f y m n))) l.declrs found w all k))

-- ---- statements
scoped_straight : {A : Type 0} {Y : A → Type 0} (m : Typing A) (s : Typer) → Straight Y (m s) → Straight Y (scoped m s)
unfolding scoped
scoped_straight m s h = bind h (λ y u k. gives k)

mutual
  unfolding stmt un.in_stmt

  stmt_straight : (y : stmts.Stmt) (found : List Stmt) (s : Typer) → un.in_stmt y ≡ None → AllStraight found → Straight AllStraight (stmt y found s)
  stmt_straight (stmts.Block' q n row r) found s h k = bind (scoped_straight (items row []) s (items_straight row [] s h none_straight)) (λ ss u g. gives (straight_append found (t.Block ss) k (block_straight ss g)))
  stmt_straight (stmts.Simple y) found s h k = bind (assignment_straight y s h) (λ z u g. gives (straight_append found (t.Simple z) k (simple_straight z g)))
  stmt_straight (stmts.Directive q y) found s h k = after _ (λ b u. gives k)
  stmt_straight _ found s h k = gives k

  items_straight : {n : _} (row : Row_of-BlockItem n) (found : List Stmt) (s : Typer) → un.in_row row ≡ None → AllStraight found → Straight AllStraight (items row found s)
  items_straight end_of-BlockItem found s h k = gives k
  items_straight (more_of-BlockItem i more) found s h k = bind (item_straight i found s (none_first (un.in_item i) (un.in_row more) h) k) (λ f u g. items_straight more f u (none_rest (un.in_item i) (un.in_row more) h) g)

  item_straight : (i : BlockItem) (found : List Stmt) (s : Typer) → un.in_item i ≡ None → AllStraight found → Straight AllStraight (item i found s)
  item_straight (blocks.Local l) found s h k = local_straight l found s h k
  item_straight (blocks.Stmt y) found s h k = stmt_straight y found s h k

-- ---- the clock loop
before_first : (i : BlockItem) (is : List BlockItem) (o : Option (List BlockItem)) → ((bs : List BlockItem) → o ≡ Some bs → first_in un.in_item bs ≡ None) → un.in_item i ≡ None → (bs : List BlockItem) →
    option_map (λ before. i ∷ before) o ≡ Some bs → first_in un.in_item bs ≡ None
unfolding first_in
before_first i is None f h bs e = cc
before_first i is (Some more) f h bs e = let same : i ∷ more ≡ bs = cc in subst (λ (xs : List BlockItem). first_in un.in_item xs ≡ None) same (rw h (f more refl))

before_none : (b : Bool) (bs : List BlockItem) → (if b then Some [] else None) ≡ Some bs → first_in un.in_item bs ≡ None
unfolding first_in
before_none true bs e = let same : [] ≡ bs = cc in subst (λ (xs : List BlockItem). first_in un.in_item xs ≡ None) same refl
before_none false bs e = cc

before_built : (is bs : List BlockItem) → before_wait is ≡ Some bs → first_in un.in_item is ≡ None → first_in un.in_item bs ≡ None
unfolding before_wait first_in
before_built [] bs e h = cc
before_built (i ∷ []) bs e h = before_none _ bs e
before_built (i ∷ j ∷ is) bs e h =
    before_first i (j ∷ is) (before_wait (j ∷ is)) (λ cs f. before_built (j ∷ is) cs f (none_rest (un.in_item i) (first_in un.in_item (j ∷ is)) h)) (none_first (un.in_item i) (first_in un.in_item (j ∷ is)) h) bs e

map_none : (i : BlockItem) (o : Option (List BlockItem)) → option_map (λ before. i ∷ before) o ≡ None → o ≡ None
map_none i None e = refl
map_none i (Some bs) e = cc

wait_there : (is : List BlockItem) → un.ends_with_wait is ≡ true → before_wait is ≡ None → ⊥
unfolding before_wait un.ends_with_wait
wait_there [] h e = cc
wait_there (i ∷ []) h e = let f : (if true then Some [] else None) ≡ None = ap (λ (b : Bool). if b then Some [] else None) (sym h) ∙ e in cc
wait_there (i ∷ j ∷ is) h e = wait_there (j ∷ is) h (map_none i (before_wait (j ∷ is)) e)

row_built : (n : _) (r : Row_of-BlockItem n) → un.in_row r ≡ None → first_in un.in_item (items-the_row-BlockItem n r) ≡ None
unfolding first_in un.in_stmt
row_built n end_of-BlockItem h = refl
row_built n (more_of-BlockItem i more) h = rw (none_first (un.in_item i) (un.in_row more) h) (row_built _ more (none_rest (un.in_item i) (un.in_row more) h))

same_one : (y : tree.Expr) → un.is_one y ≡ is_one y
unfolding out-Expr denote.Hole.Carrier.out
same_one (Number n unsigned longs decimal p) = refl
same_one (Place' b n row) = refl
same_one (Bracket' p n y) = refl
same_one (Prefix' op p n y) = refl
same_one (Cast' p m ty n y) = refl
same_one (Chain' m y n ls) = refl
same_one (Choice' l y p m z n w) = refl

-- a turn of the clock loop all of whose parts are analysed
record IsBuiltTurn (b : stmts.Stmt) : Type 0 where
  parts : (bs : List BlockItem) → before_wait (in_block b) ≡ Some bs → first_in un.in_item bs ≡ None
  ends : before_wait (in_block b) ≡ None → ⊥

turn_built : (b : stmts.Stmt) → un.is_turn b ≡ true → un.in_stmt b ≡ None → IsBuiltTurn b
unfolding un.in_stmt stmts.out-Stmt denote.Hole.Carrier.out
turn_built (stmts.Block' p n row q) w h =
    let is = in_block (stmts.Block' p n row q) in
    record { parts = λ bs e. before_built is bs e (ap (first_in un.in_item) (items_shown-the_row-BlockItem-0 _ row) ∙ row_built _ row h); ends = λ e. wait_there is w e }
turn_built _ w h = cc

both_true : (b c : Bool) → (b && c) ≡ true → (b ≡ true) × (c ≡ true)
both_true true true h = (refl, refl)
both_true true false h = cc
both_true false c h = cc

-- a loop directly in main's block, given whether its head goes on for ever
loop_built : (p : Pos) (endless : Bool) (b : stmts.Stmt) → un.in_loop p endless b ≡ None → (endless ≡ true) × IsBuiltTurn b
loop_built p true b h = elim (un.is_turn b) as (λ t. un.is_turn b ≡ t → (if t then un.in_stmt b else Some p) ≡ None → (true ≡ true) × IsBuiltTurn b) [
  | true ↦ λ e k. (refl, turn_built b e k)
  | false ↦ λ e k. cc
] refl h
loop_built p false b h = cc

-- what an item directly in main's block is, where it is analysed
record IsBuiltItem (i : BlockItem) : Type 0 where
  parts : (bs : List BlockItem) → clock_loop i ≡ Some bs → first_in un.in_item bs ≡ None
  other : clock_loop i ≡ None → un.in_item i ≡ None

no_loop : (i : BlockItem) → clock_loop i ≡ None → un.in_item i ≡ None → IsBuiltItem i
no_loop i e h = record { parts = λ bs f. let g = sym e ∙ f in cc; other = λ f. h }

while_built : (i : BlockItem) (b : stmts.Stmt) (endless : Bool) → clock_loop i ≡ (if endless then before_wait (in_block b) else None) → endless ≡ true → IsBuiltTurn b → IsBuiltItem i
while_built i b true e f t = record { parts = λ bs g. t.parts bs (sym e ∙ g); other = λ g. absurd (t.ends (sym e ∙ g)) }
while_built i b false e f t = cc

for_built : (p : Pos) (f : First) (c : Option tree.Expr) (n : Option from_tree.Simple) (b : stmts.Stmt) (i : BlockItem) → clock_loop i ≡ for_ever f c n b → un.is_endless f c n ≡ true → IsBuiltTurn b → IsBuiltItem i
for_built p first.Nothing None None b i e h t = record { parts = λ bs g. t.parts bs (sym e ∙ g); other = λ g. absurd (t.ends (sym e ∙ g)) }
for_built p first.Nothing None (Some n) b i e h t = cc
for_built p first.Nothing (Some c) n b i e h t = cc
for_built p (first.Simple y) c n b i e h t = cc
for_built p (first.Declares ty d q y) c n b i e h t = cc

main_item_built : (i : BlockItem) → un.in_main_item i ≡ None → IsBuiltItem i
unfolding un.in_main_item un.in_main_stmt un.in_stmt clock_loop loop_in blocks.out-BlockItem stmts.out-Stmt denote.Hole.Carrier.out Rattle.sa_syntax.specs.declared.stmt.BlockItem.TheBlock.shown-the_row-Stmt-1 denote.Hole.Carrier.shown
main_item_built (blocks.Local l) h = no_loop (blocks.Local l) refl h
main_item_built (blocks.Stmt (stmts.While' p c n (more_of-Stmt b end_of-Stmt))) h =
    let k = loop_built p (un.is_one c) b h in
    while_built (blocks.Stmt (stmts.While' p c n (more_of-Stmt b end_of-Stmt))) b (is_one c) refl (sym (same_one c) ∙ k.0) k.1
main_item_built (blocks.Stmt (stmts.For' p f c y n (more_of-Stmt b end_of-Stmt))) h =
    let k = loop_built p (un.is_endless f c y) b h in
    for_built p f c y b (blocks.Stmt (stmts.For' p f c y n (more_of-Stmt b end_of-Stmt))) refl k.0 k.1
main_item_built (blocks.Stmt y) h = no_loop (blocks.Stmt y) refl h

-- ---- main's block
abbrev pub StraightBody : Body → Type 0
StraightBody b = AllStraight b.stmts

items_list : (is : List BlockItem) (s : Typer) → first_in un.in_item is ≡ None → Straight AllStraight (body.items is [] s)
items_list is s h = each_part AllStraight item un.in_item (λ i f u g k. item_straight i f u g k) is [] s h none_straight

turn_straight : (is : List BlockItem) (s : Typer) → first_in un.in_item is ≡ None → Straight AllStraight (block is s)
unfolding block
turn_straight is s h = scoped_straight (body.items is []) s (items_list is s h)

main_by_straight : (o : Option (List BlockItem)) (i : BlockItem) (b : Body) (s : Typer) → clock_loop i ≡ o → IsBuiltItem i → StraightBody b → Straight StraightBody (main_by o i b s)
main_by_straight (Some before) i b s e h k = bind (turn_straight before s (h.parts before e)) (λ ss u g. gives (straight_append b.stmts (clock_stmt (item_pos i) ss) k (clock_straight (item_pos i) ss g)))
main_by_straight None i b s e h k = bind (item_straight i b.stmts s (h.other e) k) (λ ss u g. gives g)

pub main_straight : (is : List BlockItem) (s : Typer) → first_in un.in_main_item is ≡ None → Straight StraightBody (main_block is s)
unfolding main_block main_item
main_straight is s h =
    scoped_straight (main_items is no_body) s
    (each_part StraightBody main_item un.in_main_item (λ i b u g k. after _ (λ c w. main_by_straight (clock_loop i) i b w refl (main_item_built i g) k)) is no_body s h none_straight)
