-- What each form of a statement is typed as, by the lists of the tree.
use Rattle.std.proofs.Common.{◌≡◌, ℕ, Bool, List, [], ◌∷◌, ◌++◌, refl, ap, sym, ◌∙◌, Option}
use Rattle.sa_base.specs.declared.pos.Pos.{Pos}
use Rattle.sa_syntax.specs.declared.stmt.Block.{Block, out-Block}
use Rattle.sa_syntax.specs.declared.stmt.BlockItem.{BlockItem}
use Rattle.sa_syntax.specs.declared.stmt.BlockItem.TheVariants as b
use Rattle.sa_syntax.specs.declared.expr.Expr.{Expr}
use Rattle.sa_syntax.specs.declared.expr.Place.{Place}
use Rattle.sa_syntax.specs.declared.stmt.Call.{Call}
use Rattle.sa_syntax.specs.declared.stmt.Directive.{Directive}
use Rattle.sa_syntax.specs.declared.stmt.First.{First}
use Rattle.sa_syntax.specs.declared.stmt.Group.{Group}
use Rattle.sa_syntax.specs.declared.stmt.Local.{Local}
use Rattle.sa_syntax.specs.declared.stmt.Simple.{Simple}
use Rattle.sa_syntax.specs.declared.stmt.Stmt.{Stmt, Block', Row_of-BlockItem, end_of-BlockItem, more_of-BlockItem, items-the_row-BlockItem, items_hidden-the_row-BlockItem-0}
use Rattle.sa_syntax.specs.declared.stmt.Stmt.TheVariants as v
use Rattle.sa_typed.specs.declared.stmt.Stmt as typed
use Rattle.sa_typed.specs.declared.stmt.Stmt.TheVariants as t
use Rattle.sa_scopes.specs.declared.typer.Typer.{Typer}
use Rattle.sa_declarations.specs.Declarations.{local}
use Rattle.sa_typer.specs.Statements.{simple, directive, scoped, stmt, items, item}
use Rattle.sa_typer.specs.Bodies as list
use Rattle.sa_scopes.specs.Typing.{Typed, Gives, Typing, and_then, ◌>>=◌, ◌>>◌, pure, each}

items-row : (n : _) (r : Row_of-BlockItem n) → items r ≡ list.items (items-the_row-BlockItem n r)
unfolding stmt each
items-row n end_of-BlockItem = refl
items-row n (more_of-BlockItem i rest) = ap (λ (k : List typed.Stmt → Typing (List typed.Stmt)). λ found. item i found >>= k) (items-row _ rest)

items_in : Stmt → (n : _) × Row_of-BlockItem n
items_in (Block' p n row q) = (_, row)
items_in _ = (_, end_of-BlockItem)

pub stmt-Block : (x : Block) (found : List typed.Stmt) (s : Typer) → stmt (v.Block x) found s ≡ (list.block (out-Block x).items >>= (λ ss. pure (found ++ t.Block ss ∷ []))) s
unfolding stmt items_in list.block
stmt-Block x found s =
    let row = items_in (v.Block x) in
    ap (λ (k : List typed.Stmt → Typing (List typed.Stmt)). (scoped (k []) >>= (λ ss. pure (found ++ t.Block ss ∷ []))) s) (items-row row.0 row.1 ∙ ap list.items (items_hidden-the_row-BlockItem-0 (out-Block x).items))

pub stmt-Simple : (x : Simple) (found : List typed.Stmt) (s : Typer) → stmt (v.Simple x) found s ≡ (simple x >>= (λ y. pure (found ++ t.Simple y ∷ []))) s
unfolding stmt
stmt-Simple x found s = refl

pub stmt-Directive : (p : Pos) (x : Directive) (found : List typed.Stmt) (s : Typer) → stmt (v.Directive p x) found s ≡ (directive p x >> pure found) s
unfolding stmt
stmt-Directive p x found s = refl

pub stmt-Empty : (p : Pos) (found : List typed.Stmt) (s : Typer) → stmt (v.Empty p) found s ≡ Gives found s
unfolding stmt
stmt-Empty p found s = refl

pub stmt-Gives : (x : Place) (p : Pos) (c : Call) (found : List typed.Stmt) (s : Typer) → stmt (v.Gives x p c) found s ≡ Gives found s
unfolding stmt
stmt-Gives x p c found s = refl

pub stmt-Call : (c : Call) (found : List typed.Stmt) (s : Typer) → stmt (v.Call c) found s ≡ Gives found s
unfolding stmt
stmt-Call c found s = refl

pub stmt-If : (p : Pos) (e : Expr) (x : Stmt) (found : List typed.Stmt) (s : Typer) → stmt (v.If p e x) found s ≡ Gives found s
unfolding stmt
stmt-If p e x found s = refl

pub stmt-IfElse : (p : Pos) (e : Expr) (x y : Stmt) (found : List typed.Stmt) (s : Typer) → stmt (v.IfElse p e x y) found s ≡ Gives found s
unfolding stmt
stmt-IfElse p e x y found s = refl

pub stmt-While : (p : Pos) (e : Expr) (x : Stmt) (found : List typed.Stmt) (s : Typer) → stmt (v.While p e x) found s ≡ Gives found s
unfolding stmt
stmt-While p e x found s = refl

pub stmt-DoWhile : (p : Pos) (x : Stmt) (e : Expr) (found : List typed.Stmt) (s : Typer) → stmt (v.DoWhile p x e) found s ≡ Gives found s
unfolding stmt
stmt-DoWhile p x e found s = refl

pub stmt-For : (p : Pos) (i : First) (e : Option Expr) (n : Option Simple) (x : Stmt) (found : List typed.Stmt) (s : Typer) → stmt (v.For p i e n x) found s ≡ Gives found s
unfolding stmt
stmt-For p i e n x found s = refl

pub stmt-Switch : (p : Pos) (e : Expr) (gs : List Group) (found : List typed.Stmt) (s : Typer) → stmt (v.Switch p e gs) found s ≡ Gives found s
unfolding stmt
stmt-Switch p e gs found s = refl

pub stmt-Break : (p : Pos) (found : List typed.Stmt) (s : Typer) → stmt (v.Break p) found s ≡ Gives found s
unfolding stmt
stmt-Break p found s = refl

pub stmt-Return : (p : Pos) (e : Option Expr) (found : List typed.Stmt) (s : Typer) → stmt (v.Return p e) found s ≡ Gives found s
unfolding stmt
stmt-Return p e found s = refl

pub item-Local : (x : Local) (found : List typed.Stmt) (s : Typer) → item (b.Local x) found s ≡ local x found s
unfolding stmt
item-Local x found s = refl

pub item-Stmt : (x : Stmt) (found : List typed.Stmt) (s : Typer) → item (b.Stmt x) found s ≡ stmt x found s
unfolding stmt
item-Stmt x found s = refl

pub ruleset stmt_rows = (stmt-Block, stmt-Simple, stmt-Directive, stmt-Empty, stmt-Gives, stmt-Call, stmt-If, stmt-IfElse, stmt-While, stmt-DoWhile, stmt-For, stmt-Switch, stmt-Break, stmt-Return)

pub ruleset item_rows = (item-Local, item-Stmt)
