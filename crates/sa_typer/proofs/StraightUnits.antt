-- Where every form of a text is analysed today, its program is one of which today's analysis knows every form.
use Rattle.std.proofs.Common.{◌≡◌, ℕ, Bool, true, false, List, [], ◌∷◌, ◌++◌, refl, sym, subst, Option, Some, None}
use Rattle.std.specs.Prelude.{IsTrue, if◌then◌else◌, ◌&&◌}
use Rattle.sa_base.specs.declared.num.Num.TheVariants.{I32}
use Rattle.sa_base.specs.declared.pos.Pos.{Pos}
use Rattle.sa_syntax.specs.declared.decl.Name.{Name}
use Rattle.sa_syntax.specs.declared.decl.Specifiers.{Specifiers, out-Specifiers}
use Rattle.sa_syntax.specs.declared.stmt.Block.{Block, out-Block}
use Rattle.sa_syntax.specs.declared.unit.Item.{Item}
use Rattle.sa_syntax.specs.declared.unit.Item.TheVariants as top
use Rattle.sa_syntax.specs.declared.unit.Params.{Params}
use Rattle.sa_syntax.specs.Forms.{is_main}
use Rattle.sa_typed.specs.Layouts.{Layout, leaf}
use Rattle.sa_typed.specs.WellTyped.{is_fixed_read, IsFixedAccess, IsTypedStart, IsTypedSimple, IsTypedStmt, AreTypedStmts}
use Rattle.sa_typed.specs.TypedExpressions as every
use Rattle.sa_typed.specs.TypedPrograms.{IsTypedBeginning}
use Rattle.sa_typed.specs.declared.expr.Access.{Access}
use Rattle.sa_typed.specs.declared.expr.Expr.TheVariants as e
use Rattle.sa_typed.specs.declared.program.Program.{Program}
use Rattle.sa_typed.specs.declared.stmt.LoopKind.TheVariants as kind
use Rattle.sa_typed.specs.declared.stmt.Simple.{Simple}
use Rattle.sa_typed.specs.declared.stmt.Simple.TheVariants as simply
use Rattle.sa_typed.specs.declared.stmt.Start.{Start}
use Rattle.sa_typed.specs.declared.stmt.Start.TheVariants as start
use Rattle.sa_typed.specs.declared.stmt.Stmt as typed
use Rattle.sa_typed.specs.declared.stmt.Stmt.{Stmt, Row_of-Stmt, items-the_row-Stmt, items_hidden-the_row-Stmt-0}
use Rattle.sa_typed.specs.declared.stmt.Stmt.TheVariants as t
use Rattle.sa_scopes.specs.declared.typer.Typer.{Typer}
use Rattle.sa_scopes.specs.declared.types.Named.TheVariants as n
use Rattle.sa_scopes.specs.declared.types.Ty.{Ty}
use Rattle.sa_scopes.specs.Scopes.{is_visible}
use Rattle.sa_scopes.specs.Typing.{Typed, Typing, Gives, and_then, refused, refuse_if}
use Rattle.sa_operands.proofs.RowLaws.{GoodSimple, GoodStmt, AreGood, AllStmts}
use Rattle.sa_declarations.specs.Declarations.{is_struct, named}
use Rattle.sa_typer.specs.declared.bodies.Entry.{Entry}
use Rattle.sa_typer.specs.Bodies.{clock_stmt}
use Rattle.sa_typer.specs.Units as unit
use Rattle.sa_typer.specs.Units.{first_main, main}
use Rattle.sa_typer.proofs.ProgramLaws.{EndsInClock}
use Rattle.sa_typer.proofs.StraightExprs.{IsStraight, straight_typed, straight_place}
use Rattle.sa_typer.proofs.StraightStmts.{StraightStart, StraightSimple, StraightStmt, AreStraightStmts, AllStraight, straight_before, straight_last, clock_parts, StraightBody, main_straight}
use Rattle.sa_typer.proofs.StraightWalks.{Straight, gives, bind, after, each_part, none_rest}
use Rattle.sa_unbuilt.specs.Unbuilt as un
use Rattle.sa_unbuilt.specs.Unbuilt.{◌or◌, first_in}

-- ---- what typing promises of such statements, as today's analysis asks for it
unfoldable AllTyped : Program → List Stmt → Type 0
AllTyped p [] = Unit {0}
AllTyped p (s ∷ ss) = IsTypedStmt p s × AllTyped p ss

typed_append : (p : Program) (ss : List Stmt) (s : Stmt) → AllTyped p ss → IsTypedStmt p s → AllTyped p (ss ++ s ∷ [])
unfolding AllTyped
typed_append p [] s h k = (k, tt)
typed_append p (r ∷ ss) s h k = (h.0, typed_append p ss s h.1 k)

typed_row : (p : Program) (n : _) (r : Row_of-Stmt n) → AllTyped p (items-the_row-Stmt n r) → AreTypedStmts p r
unfolding AllTyped IsTypedStmt
typed_row p n typed.end_of-Stmt h = tt
typed_row p n (typed.more_of-Stmt s rest) h = (h.0, typed_row p _ rest h.1)

abbrev stmts_of : Stmt → (n : _) × Row_of-Stmt n
stmts_of (typed.Block' n r) = (_, r)
stmts_of _ = (_, typed.end_of-Stmt)

module _ (p : Program) where
  fixed_place : (l : Layout) (x : Access) → every.IsTypedPlace p l x → IsTrue (is_fixed_read (e.Read x I32)) → IsStraight (e.Read x I32) → IsFixedAccess p l x
  fixed_place l x h f k = record { typed = straight_place p l x h k; fixed = f }

  start_typed : (k : _) (x : Start) → IsTypedBeginning p 0 k x → StraightStart x → IsTypedStart p k x
  start_typed k start.Any h g = tt
  start_typed k (start.Value q a) h g = (straight_typed p a h.0.typed g, h.1)
  start_typed k start.Items h g = tt

  simple_typed : (x : Simple) → GoodSimple p x → StraightSimple x → IsTypedSimple p x
  simple_typed (simply.Declare k x) h g = start_typed k x h.1 g
  simple_typed (simply.Assign x num q a) h g = (straight_place p (leaf num) x h.0.place.typed g.0, straight_typed p a h.1.typed g.1)
  simple_typed (simply.Compound x num op q work a) h g = (straight_place p (leaf num) x h.0.place.typed g.0, (straight_typed p a h.1.0.typed g.1, h.1.1))
  simple_typed (simply.Copy k x q y) h g = (h.0, fixed_place h.0 x h.1.0.0.place.typed h.1.0.1 g.0, fixed_place h.0 y h.1.1.0.typed h.1.1.1 g.1)

  mutual
    unfolding GoodStmt StraightStmt IsTypedStmt

    stmt_typed : (s : Stmt) → GoodStmt p s → StraightStmt s → IsTypedStmt p s
    stmt_typed (typed.Simple x) h g = simple_typed x h g
    stmt_typed (typed.Block' n all) h g = stmts_typed all h g
    stmt_typed _ h g = absurd h

    stmts_typed : {n : _} (r : Row_of-Stmt n) → AreGood p r → AreStraightStmts r → AreTypedStmts p r
    stmts_typed typed.end_of-Stmt h g = tt
    stmts_typed (typed.more_of-Stmt s rest) h g = (stmt_typed s h.0 g.0, stmts_typed rest h.1 g.1)

  all_typed : (ss : List Stmt) → AllStmts p ss → AllStraight ss → AllTyped p ss
  unfolding AllStmts AllStraight AllTyped
  all_typed [] h g = tt
  all_typed (s ∷ ss) h g = (stmt_typed s h.0 g.0, all_typed ss h.1 g.1)

  whole_typed : (all : List Stmt) → AllTyped p all → IsTypedStmt p (t.Block all)
  unfolding IsTypedStmt
  whole_typed all h = let r = stmts_of (t.Block all) in typed_row p r.0 r.1 (subst (AllTyped p) (sym (items_hidden-the_row-Stmt-0 all)) h)

  wait_typed : IsTypedStmt p t.Wait
  unfolding IsTypedStmt
  wait_typed = tt

  loop_typed : (q : Pos) (s : Stmt) → IsTypedStmt p s → IsTypedStmt p (t.Loop q kind.Clock None s None)
  unfolding IsTypedStmt Rattle.sa_typed.specs.declared.stmt.Stmt.TheBlock.hidden-the_row-Stmt-1 denote.Hole.Carrier.hidden
  loop_typed q s h = h

  clock_typed : (q : Pos) (ss : List Stmt) → AllTyped p ss → IsTypedStmt p (clock_stmt q ss)
  clock_typed q ss h = loop_typed q (t.Block (ss ++ t.Wait ∷ [])) (whole_typed (ss ++ t.Wait ∷ []) (typed_append p ss t.Wait h wait_typed))

  pub main_typed : (ss : List Stmt) → EndsInClock p ss → AllStraight ss → IsTypedStmt p (t.Block ss)
  main_typed ss h g =
      let clock = clock_stmt h.place h.turn in
      let all = subst AllStraight h.is g in
      subst (λ (xs : List Stmt). IsTypedStmt p (t.Block xs)) (sym h.is)
      (whole_typed (h.before ++ clock ∷ []) (typed_append p h.before clock (all_typed h.before h.befores (straight_before h.before clock all))
      (clock_typed h.place h.turn (all_typed h.turn h.turns (clock_parts h.place h.turn (straight_last h.before clock all))))))

-- ---- items of a source
abbrev pub StraightEntry : Option Entry → Type 0
StraightEntry None = Unit {0}
StraightEntry (Some x) = StraightBody x.body

first_main_straight : (x : Name) (ty : Ty) (b : Block) (s : Typer) → first_in un.in_main_item (out-Block b).items ≡ None → Straight StraightEntry (first_main x ty b s)
first_main_straight x ty b s h = after (named x n.Function s) (λ c u. after (refuse_if (is_struct ty.element) 5 x.pos u) (λ d w. bind (main_straight (out-Block b).items w h) (λ y r g. gives g)))

main_by : (c : Bool) (t u : Typed (Option Entry)) → Straight StraightEntry t → Straight StraightEntry u → Straight StraightEntry (if c then t else u)
main_by true t u h k = h
main_by false t u h k = k

any_main_straight : (ty : Specifiers) (x : Name) (b : Block) (found : Option Entry) (s : Typer) → first_in un.in_main_item (out-Block b).items ≡ None → StraightEntry found → Straight StraightEntry (main ty x b found s)
unfolding main
any_main_straight ty x b found s h k = after {A = Ty} _ (λ y u. main_by (is_visible u.names x.text) _ _ (gives k) (first_main_straight x y b u h))

func_built : (ty : Specifiers) (x : Name) (ps : Params) (b : Block) → un.in_func ty x ps b ≡ None → first_in un.in_main_item (out-Block b).items ≡ None
unfolding un.in_func
func_built ty x ps b h = by_test (is_main x && un.is_empty_list ps) h
  where
    by_test : (c : Bool) → (if c then (un.in_specifiers ty or first_in un.in_main_item (out-Block b).items) else Some (out-Specifiers ty).pos) ≡ None → first_in un.in_main_item (out-Block b).items ≡ None
    by_test true g = none_rest (un.in_specifiers ty) (first_in un.in_main_item (out-Block b).items) g
    by_test false g = cc

by_name : (c : Bool) (m : Typing (Option Entry)) (found : Option Entry) (s : Typer) → Straight StraightEntry (m s) → StraightEntry found → Straight StraightEntry ((if c then m else (λ s. Gives found s)) s)
by_name true m found s h k = h
by_name false m found s h k = gives k

item_straight : (i : Item) (found : Option Entry) (s : Typer) → un.in_top i ≡ None → StraightEntry found → Straight StraightEntry (unit.item i found s)
unfolding unit.item un.in_top
item_straight (top.Typedef q ty x) found s h k = after {A = Unit {0}} _ (λ c u. gives k)
item_straight (top.Struct q x) found s h k = after {A = Ty} _ (λ c u. gives k)
item_straight (top.Global ty ds) found s h k = after {A = Unit {0}} _ (λ c u. gives k)
item_straight (top.Proto ty x ps) found s h k = gives k
item_straight (top.Func ty x ps b) found s h k = by_name (is_main x) (main ty x b found) found s (any_main_straight ty x b found s (func_built ty x ps b h) k) k

pub items_straight : (is : List Item) (s : Typer) → first_in un.in_top is ≡ None → Straight StraightEntry (unit.items is None s)
items_straight is s h = each_part StraightEntry unit.item un.in_top (λ i f u g k. item_straight i f u g k) is None s h tt
