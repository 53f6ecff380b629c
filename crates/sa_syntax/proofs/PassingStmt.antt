-- The places in statements stand at tokens that they take, in the order of the text.
use Rattle.std.proofs.Common.{◌≡◌, ℕ, List, [], ◌∷◌, ◌++◌, Option, refl, sym, ap, subst, ◌∙◌}
use Rattle.sa_base.specs.declared.pos.Pos.{Pos}
use Rattle.sa_tokens.specs.declared.token.Token.{Token}
use Rattle.sa_syntax.specs.declared.decl.Init.{Init}
use Rattle.sa_syntax.specs.declared.expr.Expr.{Expr}
use Rattle.sa_syntax.specs.declared.stmt.Arg.{Arg}
use Rattle.sa_syntax.specs.declared.stmt.ArgValue.{ArgValue}
use Rattle.sa_syntax.specs.declared.stmt.Block.{Block, out-Block}
use Rattle.sa_syntax.specs.declared.stmt.BlockItem.{BlockItem}
use Rattle.sa_syntax.specs.declared.stmt.BlockItem.TheVariants as item
use Rattle.sa_syntax.specs.declared.stmt.Call.{Call}
use Rattle.sa_syntax.specs.declared.stmt.Directive.{Directive}
use Rattle.sa_syntax.specs.declared.stmt.First.{First}
use Rattle.sa_syntax.specs.declared.stmt.Group.{Group, out-Group}
use Rattle.sa_syntax.specs.declared.stmt.Label.{Label}
use Rattle.sa_syntax.specs.declared.stmt.Local.{Local}
use Rattle.sa_syntax.specs.declared.stmt.LocalDeclr.{LocalDeclr}
use Rattle.sa_syntax.specs.declared.stmt.Simple.{Simple}
use Rattle.sa_syntax.specs.declared.stmt.Stmt.{Stmt, Block', Switch', Row_of-BlockItem, end_of-BlockItem, more_of-BlockItem, items-the_row-BlockItem, items_hidden-the_row-BlockItem-0, Row_of-Stmt, end_of-Stmt, more_of-Stmt, items-the_row-Stmt, items_shown-the_row-Stmt-2, Row_of-Group, end_of-Group, more_of-Group, items-the_row-Group, items_hidden-the_row-Group-3}
use Rattle.sa_syntax.specs.declared.stmt.Stmt.TheVariants as s
use Rattle.sa_syntax.specs.Trees as tree
use Rattle.sa_syntax.specs.Words.{Names}
use Rattle.sa_syntax.specs.Places.{in_start, in_declrs, in_stmt, in_item, in_row, in_stmts, in_groups, in_items}
use Rattle.sa_syntax.specs.Statements.{Init', Inits, ArgValue', Args, Call', Simple', LocalDeclr', LocalDeclrs, Local', Directive', First', Condition', Next', Label', Labels, Stmt', Nested, Groups, Body, Outermost}
use Rattle.sa_syntax.proofs.Passing.{Passes, then, whole-pass, place-pass, type-pass, declr-pass}

-- ---- lists of parts
unfoldable in_list : List Stmt → List Pos
in_list [] = []
in_list (a ∷ ss) = in_stmt a ++ in_list ss

abbrev in_group : Group → List Pos
in_group g = in_list (out-Group g).body

unfoldable in_all : List Group → List Pos
in_all [] = []
in_all (g ∷ gs) = in_group g ++ in_all gs

row_items : (n : _) (r : Row_of-BlockItem n) → in_row r ≡ in_items (items-the_row-BlockItem n r)
unfolding in_stmt in_items
row_items n end_of-BlockItem = refl
row_items n (more_of-BlockItem i rest) = ap (λ (ps : List Pos). in_item i ++ ps) (row_items _ rest)

row_stmts : (n : _) (r : Row_of-Stmt n) → in_stmts r ≡ in_list (items-the_row-Stmt n r)
unfolding in_stmt in_list
row_stmts n end_of-Stmt = refl
row_stmts n (more_of-Stmt a rest) = ap (λ (ps : List Pos). in_stmt a ++ ps) (row_stmts _ rest)

both : (ps qs rs vs : List Pos) → ps ≡ rs → qs ≡ vs → ps ++ qs ≡ rs ++ vs
both ps qs rs vs e f = rw (e, f) refl

row_groups : (n : _) (r : Row_of-Group n) → in_groups r ≡ in_all (items-the_row-Group n r)
unfolding in_stmt in_all
row_groups n end_of-Group = refl
row_groups n (more_of-Group ls m body rest) = both (in_stmts body) (in_groups rest) _ _ (row_stmts _ body ∙ ap in_list (sym (items_shown-the_row-Stmt-2 _ body))) (row_groups _ rest)

abbrev items_of : Stmt → (n : _) × Row_of-BlockItem n
items_of (Block' p n is q) = (_, is)
items_of _ = (_, end_of-BlockItem)

abbrev groups_of : Stmt → (n : _) × Row_of-Group n
groups_of (Switch' p c n gs) = (_, gs)
groups_of _ = (_, end_of-Group)

in_block : (b : Block) → in_stmt (s.Block b) ≡ in_items (out-Block b).items
unfolding in_stmt Rattle.sa_syntax.specs.declared.stmt.BlockItem.TheBlock.hidden-the_row-BlockItem-0 denote.Hole.Carrier.hidden
in_block b = let row = items_of (s.Block b) in row_items row.0 row.1 ∙ ap in_items (items_hidden-the_row-BlockItem-0 _)

in_switch : (p : Pos) (c : Expr) (gs : List Group) → in_stmt (s.Switch p c gs) ≡ in_all gs
unfolding in_stmt
in_switch p c gs = let row = groups_of (s.Switch p c gs) in row_groups row.0 row.1 ∙ ap in_all (items_hidden-the_row-Group-3 gs)

group_is : (ls : List Label) (ss : List Stmt) → in_group (tree.group ls ss) ≡ in_list ss
group_is ls ss = refl

in_if : (p : Pos) (c : Expr) (a : Stmt) → in_stmt (s.If p c a) ≡ in_stmt a
unfolding in_stmt Rattle.sa_syntax.specs.declared.stmt.BlockItem.TheBlock.hidden-the_row-Stmt-1 denote.Hole.Carrier.hidden
in_if p c a = refl

in_if_else : (p : Pos) (c : Expr) (a b : Stmt) → in_stmt (s.IfElse p c a b) ≡ in_stmt a ++ in_stmt b
unfolding in_stmt Rattle.sa_syntax.specs.declared.stmt.BlockItem.TheBlock.hidden-the_row-Stmt-1 denote.Hole.Carrier.hidden
in_if_else p c a b = refl

in_while : (p : Pos) (c : Expr) (a : Stmt) → in_stmt (s.While p c a) ≡ p ∷ in_stmt a
unfolding in_stmt Rattle.sa_syntax.specs.declared.stmt.BlockItem.TheBlock.hidden-the_row-Stmt-1 denote.Hole.Carrier.hidden
in_while p c a = refl

in_do : (p : Pos) (c : Expr) (a : Stmt) → in_stmt (s.DoWhile p a c) ≡ p ∷ in_stmt a
unfolding in_stmt Rattle.sa_syntax.specs.declared.stmt.BlockItem.TheBlock.hidden-the_row-Stmt-1 denote.Hole.Carrier.hidden
in_do p c a = refl

in_for : (p : Pos) (f : First) (c : Option Expr) (x : Option Simple) (a : Stmt) → in_stmt (s.For p f c x a) ≡ p ∷ in_stmt a
unfolding in_stmt Rattle.sa_syntax.specs.declared.stmt.BlockItem.TheBlock.hidden-the_row-Stmt-1 denote.Hole.Carrier.hidden
in_for p f c x a = refl

-- places first, then none
alone : {ts us vs : List Token} {ps : List Pos} → Passes ts ps us → Passes us [] vs → Passes ts ps vs
alone Passes.stop k = k
alone (Passes.past h) k = Passes.past (alone h k)
alone (Passes.here h) k = Passes.here (alone h k)

-- ---- parts without places
mutual
  init-pass : {ns : Names} {n : ℕ} {ts : List Token} {i : Init} {us : List Token} → Init' ns n ts i us → Passes ts [] us
  init-pass (Init'.init_value w) = whole-pass w
  init-pass (Init'.braces is) = Passes.past (inits-pass is)

  inits-pass : {ns : Names} {n : ℕ} {ts : List Token} {is : List Init} {us : List Token} → Inits ns n ts is us → Passes ts [] us
  inits-pass (Inits.last_init i) = then (init-pass i) (Passes.past Passes.stop)
  inits-pass (Inits.last_comma i) = then (init-pass i) (Passes.past (Passes.past Passes.stop))
  inits-pass (Inits.next_init i is) = then (init-pass i) (Passes.past (inits-pass is))

arg_value-pass : {ns : Names} {n : ℕ} {ts : List Token} {v : ArgValue} {us : List Token} → ArgValue' ns n ts v us → Passes ts [] us
arg_value-pass (ArgValue'.by_value w) = whole-pass w
arg_value-pass (ArgValue'.reference p) = Passes.past (place-pass p)

args-pass : {ns : Names} {n : ℕ} {p : Pos} {ts : List Token} {xs : List Arg} {us : List Token} → Args ns n p ts xs us → Passes ts [] us
args-pass (Args.last_arg v) = then (arg_value-pass v) (Passes.past Passes.stop)
args-pass (Args.next_arg v xs) = then (arg_value-pass v) (Passes.past (args-pass xs))

simple-pass : {ns : Names} {n : ℕ} {ts : List Token} {a : Simple} {us : List Token} → Simple' ns n ts a us → Passes ts [] us
simple-pass (Simple'.assign p w) = then (place-pass p) (Passes.past (whole-pass w))
simple-pass (Simple'.compound p h w) = then (place-pass p) (Passes.past (whole-pass w))
simple-pass (Simple'.after p h s) = then (place-pass p) (Passes.past Passes.stop)
simple-pass (Simple'.before h p) = Passes.past (place-pass p)

directive-pass : {ns : Names} {n : ℕ} {ts : List Token} {a : Directive} {us : List Token} → Directive' ns n ts a us → Passes ts [] us
directive-pass Directive'.wait = Passes.past (Passes.past (Passes.past (Passes.past (Passes.past Passes.stop))))
directive-pass Directive'.partition = Passes.past (Passes.past (Passes.past (Passes.past (Passes.past Passes.stop))))
directive-pass (Directive'.known_fact w) = Passes.past (Passes.past (Passes.past (then (whole-pass w) (Passes.past (Passes.past Passes.stop)))))
directive-pass (Directive'.assert w) = Passes.past (Passes.past (Passes.past (then (whole-pass w) (Passes.past (Passes.past Passes.stop)))))

first-pass : {ns : Names} {n : ℕ} {ts : List Token} {f : First} {us : List Token} → First' ns n ts f us → Passes ts [] us
first-pass First'.nothing = Passes.stop
first-pass (First'.simply a) = simple-pass a
first-pass (First'.declares t d w) = then (type-pass t) (then (declr-pass d) (Passes.past (whole-pass w)))

condition-pass : {ns : Names} {n : ℕ} {ts : List Token} {c : Option Expr} {us : List Token} → Condition' ns n ts c us → Passes ts [] us
condition-pass Condition'.always = Passes.stop
condition-pass (Condition'.while w) = whole-pass w

next-pass : {ns : Names} {n : ℕ} {ts : List Token} {a : Option Simple} {us : List Token} → Next' ns n ts a us → Passes ts [] us
next-pass Next'.nothing = Passes.stop
next-pass (Next'.simply a) = simple-pass a

label-pass : {ns : Names} {n : ℕ} {ts : List Token} {l : Label} {us : List Token} → Label' ns n ts l us → Passes ts [] us
label-pass (Label'.case w) = Passes.past (then (whole-pass w) (Passes.past Passes.stop))
label-pass Label'.default = Passes.past (Passes.past Passes.stop)

labels-pass : {ns : Names} {n : ℕ} {ts : List Token} {ls : List Label} {us : List Token} → Labels ns n ts ls us → Passes ts [] us
labels-pass (Labels.last_label l h) = label-pass l
labels-pass (Labels.next_label l ls) = then (label-pass l) (labels-pass ls)

-- ---- calls and locals
call-pass : {ns : Names} {n : ℕ} {ts : List Token} {c : Call} {us : List Token} → Call' ns n ts c us → Passes ts (c.name.pos ∷ []) us
call-pass (Call'.no_args h) = Passes.here (Passes.past (Passes.past Passes.stop))
call-pass (Call'.args h xs) = Passes.here (Passes.past (args-pass xs))

local_declr-pass : {ns : Names} {n : ℕ} {ts : List Token} {d : LocalDeclr} {us : List Token} → LocalDeclr' ns n ts d us → Passes ts (in_start d.start) us
local_declr-pass (LocalDeclr'.plain d) = declr-pass d
local_declr-pass (LocalDeclr'.with_init d i) = then (declr-pass d) (Passes.past (init-pass i))
local_declr-pass (LocalDeclr'.with_call d c) = then (declr-pass d) (Passes.past (call-pass c))

local_declrs-pass : {ns : Names} {n : ℕ} {ts : List Token} {ds : List LocalDeclr} {us : List Token} → LocalDeclrs ns n ts ds us → Passes ts (in_declrs ds) us
unfolding in_declrs
local_declrs-pass (LocalDeclrs.last_local d) = then (local_declr-pass d) (Passes.past Passes.stop)
local_declrs-pass (LocalDeclrs.next_local d ds) = then (local_declr-pass d) (Passes.past (local_declrs-pass ds))

local-pass : {ns : Names} {n : ℕ} {ts : List Token} {l : Local} {us : List Token} → Local' ns n ts l us → Passes ts (in_declrs l.declrs) us
local-pass (Local'.local t ds) = then (type-pass t) (local_declrs-pass ds)

-- ---- statements
these : {ts us : List Token} {ps qs : List Pos} → qs ≡ ps → Passes ts ps us → Passes ts qs us
these {ts = ts} {us = us} e h = subst (λ (rs : List Pos). Passes ts rs us) (sym e) h

mutual
  unfolding in_stmt in_items in_list in_all

  stmt-pass : {ns : Names} {n : ℕ} {ts : List Token} {a : Stmt} {us : List Token} → Stmt' ns n ts a us → Passes ts (in_stmt a) us
  stmt-pass (Stmt'.block {p = p} {q = q} {is = is} h) = these (in_block (tree.block p is q)) (Passes.past (alone (nested-pass h) (Passes.past Passes.stop)))
  stmt-pass Stmt'.empty = Passes.past Passes.stop
  stmt-pass (Stmt'.simple_stmt a) = then (simple-pass a) (Passes.past Passes.stop)
  stmt-pass (Stmt'.gives p c) = then (place-pass p) (Passes.past (alone (call-pass c) (Passes.past Passes.stop)))
  stmt-pass (Stmt'.call c) = alone (call-pass c) (Passes.past Passes.stop)
  stmt-pass (Stmt'.if {p = p} {c = c} {a = a} h k e) = these (in_if p c a) (Passes.past (Passes.past (then (whole-pass h) (Passes.past (stmt-pass k)))))
  stmt-pass (Stmt'.if_else {p = p} {c = c} {a = a} {b = b} h k l) = these (in_if_else p c a b) (Passes.past (Passes.past (then (whole-pass h) (Passes.past (then (stmt-pass k) (Passes.past (stmt-pass l)))))))
  stmt-pass (Stmt'.while {p = p} {c = c} {a = a} h k) = these (in_while p c a) (Passes.here (Passes.past (then (whole-pass h) (Passes.past (stmt-pass k)))))
  stmt-pass (Stmt'.do_while {p = p} {c = c} {a = a} k h) = these (in_do p c a) (Passes.here (alone (stmt-pass k) (Passes.past (Passes.past (then (whole-pass h) (Passes.past (Passes.past Passes.stop)))))))
  stmt-pass (Stmt'.for {p = p} {f = f} {c = c} {x = x} {a = a} h i j k) =
      these (in_for p f c x a) (Passes.here (Passes.past (then (first-pass h) (Passes.past (then (condition-pass i) (Passes.past (then (next-pass j) (Passes.past (stmt-pass k)))))))))
  stmt-pass (Stmt'.switch {p = p} {c = c} {gs = gs} h k) = these (in_switch p c gs) (Passes.past (Passes.past (then (whole-pass h) (Passes.past (Passes.past (alone (groups-pass k) (Passes.past Passes.stop)))))))
  stmt-pass Stmt'.break = Passes.past (Passes.past Passes.stop)
  stmt-pass Stmt'.return = Passes.past (Passes.past Passes.stop)
  stmt-pass (Stmt'.return_value w) = Passes.past (then (whole-pass w) (Passes.past Passes.stop))
  stmt-pass (Stmt'.directive a) = then (directive-pass a) (Passes.past Passes.stop)

  nested-pass : {ns : Names} {n : ℕ} {ts : List Token} {is : List BlockItem} {us : List Token} → Nested ns n ts is us → Passes ts (in_items is) us
  nested-pass Nested.no_item = Passes.stop
  nested-pass (Nested.nested_local l is) = then (local-pass l) (nested-pass is)
  nested-pass (Nested.nested_stmt a is) = then (stmt-pass a) (nested-pass is)

  groups-pass : {ns : Names} {n : ℕ} {ts : List Token} {gs : List Group} {us : List Token} → Groups ns n ts gs us → Passes ts (in_all gs) us
  groups-pass Groups.no_group = Passes.stop
  groups-pass (Groups.group {ls = ls} {ss = ss} h k l) = then (then (labels-pass h) (these (group_is ls ss) (body-pass k))) (groups-pass l)

  body-pass : {ns : Names} {n : ℕ} {ts : List Token} {ss : List Stmt} {us : List Token} → Body ns n ts ss us → Passes ts (in_list ss) us
  body-pass Body.no_stmt = Passes.stop
  body-pass (Body.stmt a ss) = then (stmt-pass a) (body-pass ss)

pub outermost-pass : {ns : Names} {n : ℕ} {ts : List Token} {is : List BlockItem} {us : List Token} → Outermost ns n ts is us → Passes ts (in_items is) us
unfolding in_stmt in_items
outermost-pass Outermost.no_item = Passes.stop
outermost-pass (Outermost.local_item l is) = then (local-pass l) (outermost-pass is)
outermost-pass (Outermost.stmt_item a is) = then (stmt-pass a) (outermost-pass is)
