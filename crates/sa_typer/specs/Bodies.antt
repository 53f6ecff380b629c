-- The block of main, with the clock loop directly in it.
use Rattle.std.specs.Prelude.{ℕ, List, [], ◌∷◌, ◌++◌, ◌==◌, ◌&&◌, ◌||◌, Bool, true, false, not, if◌then◌else◌, Option, Some, None, option_map}
use Rattle.sa_base.specs.declared.pos.Pos.{Pos}
use Rattle.sa_syntax.specs.declared.expr.Expr as tree
use Rattle.sa_syntax.specs.declared.expr.Expr.{out-Expr}
use Rattle.sa_syntax.specs.declared.decl.Base.TheOpen.{Expr-F}
use Rattle.sa_syntax.specs.declared.stmt.Block.{Block, out-Block}
use Rattle.sa_syntax.specs.declared.stmt.BlockItem.{BlockItem, out-BlockItem}
use Rattle.sa_syntax.specs.declared.stmt.BlockItem.TheOpen.{Stmt-F, BlockItem-F}
use Rattle.sa_syntax.specs.declared.stmt.Directive.TheVariants as d
use Rattle.sa_syntax.specs.declared.stmt.First.{First}
use Rattle.sa_syntax.specs.declared.stmt.First.TheVariants as first
use Rattle.sa_syntax.specs.declared.stmt.Simple.{Simple}
use Rattle.sa_syntax.specs.declared.stmt.Stmt.{Stmt as Tree, out-Stmt}
use Rattle.sa_syntax.specs.Forms.{is_wait}
use Rattle.sa_typed.specs.declared.stmt.LoopKind.TheVariants as kind
use Rattle.sa_typed.specs.declared.stmt.Stmt.{Stmt}
use Rattle.sa_typed.specs.declared.stmt.Stmt.TheVariants as t
use Rattle.sa_typer.specs.declared.bodies.Body.{Body}
use Rattle.sa_scopes.specs.First.{item_pos}
use Rattle.sa_typer.specs.Statements.{item, scoped}
use Rattle.sa_scopes.specs.Typing.{Typing, ◌>>=◌, ◌>>◌, pure, refuse_if, each}

-- the items of a block, one after the other
abbrev pub items : List BlockItem → List Stmt → Typing (List Stmt)
items is = each item is

-- a block by itself
unfoldable pub block : List BlockItem → Typing (List Stmt)
block is = scoped (items is [])

-- ---- the clock loop: `while (1)` or `for (;;)` with a block that ends with a wait
-- what stands before the wait that a block ends with
unfoldable pub before_wait : List BlockItem → Option (List BlockItem)
before_wait [] = None
before_wait (i ∷ []) = if is_wait i then Some [] else None
before_wait (i ∷ j ∷ is) = option_map (λ before. i ∷ before) (before_wait (j ∷ is))

-- what stands in a block; a body without braces is none
abbrev pub in_block : Tree → List BlockItem
in_block a = elim (out-Stmt a) as (λ _. List BlockItem) [ Stmt-F.Block b ↦ (out-Block b).items | _ ↦ [] ]

-- the token `1`
abbrev pub is_one : tree.Expr → Bool
is_one e = elim (out-Expr e) as (λ _. Bool) [ Expr-F.Number v unsigned longs decimal p ↦ v == 1 && not unsigned && longs == 0 && decimal | _ ↦ false ]

abbrev pub for_ever : First → Option tree.Expr → Option Simple → Tree → Option (List BlockItem)
for_ever first.Nothing None None b = before_wait (in_block b)
for_ever _ _ _ b = None

-- what stands before the wait of a clock loop
unfoldable pub loop_in : Tree → Option (List BlockItem)
loop_in a = elim (out-Stmt a) as (λ _. Option (List BlockItem)) [
  | Stmt-F.While p e b ↦ if is_one e then before_wait (in_block b) else None
  | Stmt-F.For p i e n b ↦ for_ever i e n b
  | _ ↦ None
]

unfoldable pub clock_loop : BlockItem → Option (List BlockItem)
clock_loop i = elim (out-BlockItem i) as (λ _. Option (List BlockItem)) [ BlockItem-F.Local l ↦ None | BlockItem-F.Stmt a ↦ loop_in a ]

-- ---- main's block: the first clock loop directly in it is the one. What follows it is refused at its first token, and is
-- typed as any other item besides
abbrev pub no_body : Body
no_body = record { stmts = []; clock = false }

-- the clock loop as a typed statement: the wait comes last in it
abbrev pub clock_stmt : Pos → List Stmt → Stmt
clock_stmt q ss = t.Loop q kind.Clock None (t.Block (ss ++ t.Wait ∷ [])) None

-- an item, given what stands before the wait where it is a clock loop; its first token is the loop's word
abbrev pub main_by : Option (List BlockItem) → BlockItem → Body → Typing Body
main_by (Some before) i b = block before >>= (λ ss. pure (record { stmts = b.stmts ++ clock_stmt (item_pos i) ss ∷ []; clock = true }))
main_by None i b = item i b.stmts >>= (λ ss. pure (record b { stmts = ss }))

unfoldable pub main_item : BlockItem → Body → Typing Body
main_item i b = refuse_if b.clock 23 (item_pos i) >> main_by (clock_loop i) i b

abbrev pub main_items : List BlockItem → Body → Typing Body
main_items is = each main_item is

unfoldable pub main_block : List BlockItem → Typing Body
main_block is = scoped (main_items is no_body)
