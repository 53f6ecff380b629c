-- Each alternative of the grammar of statements takes tokens.
use Rattle.std.proofs.Common.{ℕ, ◌<◌, ◌≤◌, List, Option, length, arith}
use Rattle.sa_base.specs.declared.pos.Pos.{Pos}
use Rattle.sa_tokens.specs.declared.token.Token.{Token}
use Rattle.sa_syntax.specs.declared.decl.Init.{Init}
use Rattle.sa_syntax.specs.declared.decl.InitDeclr.{InitDeclr}
use Rattle.sa_syntax.specs.declared.decl.Name.{Name}
use Rattle.sa_syntax.specs.declared.expr.Expr.{Expr}
use Rattle.sa_syntax.specs.declared.stmt.Arg.{Arg}
use Rattle.sa_syntax.specs.declared.stmt.ArgValue.{ArgValue}
use Rattle.sa_syntax.specs.declared.stmt.BlockItem.{BlockItem}
use Rattle.sa_syntax.specs.declared.stmt.Call.{Call}
use Rattle.sa_syntax.specs.declared.stmt.Directive.{Directive}
use Rattle.sa_syntax.specs.declared.stmt.First.{First}
use Rattle.sa_syntax.specs.declared.stmt.Group.{Group}
use Rattle.sa_syntax.specs.declared.stmt.Label.{Label}
use Rattle.sa_syntax.specs.declared.stmt.Local.{Local}
use Rattle.sa_syntax.specs.declared.stmt.LocalDeclr.{LocalDeclr}
use Rattle.sa_syntax.specs.declared.stmt.Simple.{Simple}
use Rattle.sa_syntax.specs.declared.stmt.Stmt.{Stmt}
use Rattle.sa_syntax.specs.declared.unit.Param.{Param}
use Rattle.sa_syntax.specs.declared.unit.Params.{Params}
use Rattle.sa_syntax.specs.Words.{Names}
use Rattle.sa_syntax.specs.Statements.{Init', Inits, InitDeclr', InitDeclrs, ArgValue', Args, Call', Simple', LocalDeclr', LocalDeclrs, Local', Directive', First', Condition', Next', Label', Labels, Stmt', Nested, Groups, Body, Outermost, Starred, Nameable, Param', ParamList, Params'}
use Rattle.sa_syntax.proofs.Shorter.{whole-shorter, place-shorter, type-shorter, declr-shorter}

mutual
  pub init-shorter : {ns : Names} {n : ℕ} {ts : List Token} {i : Init} {us : List Token} → Init' ns n ts i us → length us < length ts
  init-shorter (Init'.init_value w) = whole-shorter w
  init-shorter (Init'.braces is) = let x = inits-shorter is in omega arith

  pub inits-shorter : {ns : Names} {n : ℕ} {ts : List Token} {is : List Init} {us : List Token} → Inits ns n ts is us → length us < length ts
  inits-shorter (Inits.last_init i) = let x = init-shorter i in omega arith
  inits-shorter (Inits.last_comma i) = let x = init-shorter i in omega arith
  inits-shorter (Inits.next_init i is) = let x = init-shorter i in let y = inits-shorter is in omega arith

pub init_declr-shorter : {ns : Names} {n : ℕ} {ts : List Token} {d : InitDeclr} {us : List Token} → InitDeclr' ns n ts d us → length us < length ts
init_declr-shorter (InitDeclr'.plain d) = declr-shorter d
init_declr-shorter (InitDeclr'.with_init d i) = let x = declr-shorter d in let y = init-shorter i in omega arith

pub init_declrs-shorter : {ns : Names} {n : ℕ} {ts : List Token} {ds : List InitDeclr} {us : List Token} → InitDeclrs ns n ts ds us → length us < length ts
init_declrs-shorter (InitDeclrs.last_init_declr d) = let x = init_declr-shorter d in omega arith
init_declrs-shorter (InitDeclrs.next_init_declr d ds) = let x = init_declr-shorter d in let y = init_declrs-shorter ds in omega arith

pub arg_value-shorter : {ns : Names} {n : ℕ} {ts : List Token} {v : ArgValue} {us : List Token} → ArgValue' ns n ts v us → length us < length ts
arg_value-shorter (ArgValue'.by_value w) = whole-shorter w
arg_value-shorter (ArgValue'.reference p) = let x = place-shorter p in omega arith

pub args-shorter : {ns : Names} {n : ℕ} {p : Pos} {ts : List Token} {xs : List Arg} {us : List Token} → Args ns n p ts xs us → length us < length ts
args-shorter (Args.last_arg v) = let x = arg_value-shorter v in omega arith
args-shorter (Args.next_arg v xs) = let x = arg_value-shorter v in let y = args-shorter xs in omega arith

pub call-shorter : {ns : Names} {n : ℕ} {ts : List Token} {c : Call} {us : List Token} → Call' ns n ts c us → length us < length ts
call-shorter (Call'.no_args h) = omega arith
call-shorter (Call'.args h xs) = let x = args-shorter xs in omega arith

pub simple-shorter : {ns : Names} {n : ℕ} {ts : List Token} {a : Simple} {us : List Token} → Simple' ns n ts a us → length us < length ts
simple-shorter (Simple'.assign p w) = let x = place-shorter p in let y = whole-shorter w in omega arith
simple-shorter (Simple'.compound p h w) = let x = place-shorter p in let y = whole-shorter w in omega arith
simple-shorter (Simple'.after p h s) = let x = place-shorter p in omega arith
simple-shorter (Simple'.before h p) = let x = place-shorter p in omega arith

pub local_declr-shorter : {ns : Names} {n : ℕ} {ts : List Token} {d : LocalDeclr} {us : List Token} → LocalDeclr' ns n ts d us → length us < length ts
local_declr-shorter (LocalDeclr'.plain d) = declr-shorter d
local_declr-shorter (LocalDeclr'.with_init d i) = let x = declr-shorter d in let y = init-shorter i in omega arith
local_declr-shorter (LocalDeclr'.with_call d c) = let x = declr-shorter d in let y = call-shorter c in omega arith

pub local_declrs-shorter : {ns : Names} {n : ℕ} {ts : List Token} {ds : List LocalDeclr} {us : List Token} → LocalDeclrs ns n ts ds us → length us < length ts
local_declrs-shorter (LocalDeclrs.last_local d) = let x = local_declr-shorter d in omega arith
local_declrs-shorter (LocalDeclrs.next_local d ds) = let x = local_declr-shorter d in let y = local_declrs-shorter ds in omega arith

pub local-shorter : {ns : Names} {n : ℕ} {ts : List Token} {l : Local} {us : List Token} → Local' ns n ts l us → length us < length ts
local-shorter (Local'.local t ds) = let x = type-shorter t in let y = local_declrs-shorter ds in omega arith

pub directive-shorter : {ns : Names} {n : ℕ} {ts : List Token} {a : Directive} {us : List Token} → Directive' ns n ts a us → length us < length ts
directive-shorter Directive'.wait = omega arith
directive-shorter Directive'.partition = omega arith
directive-shorter (Directive'.known_fact w) = let x = whole-shorter w in omega arith
directive-shorter (Directive'.assert w) = let x = whole-shorter w in omega arith

pub first-shorter : {ns : Names} {n : ℕ} {ts : List Token} {f : First} {us : List Token} → First' ns n ts f us → length us ≤ length ts
first-shorter First'.nothing = omega arith
first-shorter (First'.simply a) = let x = simple-shorter a in omega arith
first-shorter (First'.declares t d w) = let x = type-shorter t in let y = declr-shorter d in let z = whole-shorter w in omega arith

pub condition-shorter : {ns : Names} {n : ℕ} {ts : List Token} {c : Option Expr} {us : List Token} → Condition' ns n ts c us → length us ≤ length ts
condition-shorter Condition'.always = omega arith
condition-shorter (Condition'.while w) = let x = whole-shorter w in omega arith

pub next-shorter : {ns : Names} {n : ℕ} {ts : List Token} {a : Option Simple} {us : List Token} → Next' ns n ts a us → length us ≤ length ts
next-shorter Next'.nothing = omega arith
next-shorter (Next'.simply a) = let x = simple-shorter a in omega arith

pub label-shorter : {ns : Names} {n : ℕ} {ts : List Token} {l : Label} {us : List Token} → Label' ns n ts l us → length us < length ts
label-shorter (Label'.case w) = let x = whole-shorter w in omega arith
label-shorter Label'.default = omega arith

pub labels-shorter : {ns : Names} {n : ℕ} {ts : List Token} {ls : List Label} {us : List Token} → Labels ns n ts ls us → length us < length ts
labels-shorter (Labels.last_label l h) = label-shorter l
labels-shorter (Labels.next_label l ls) = let x = label-shorter l in let y = labels-shorter ls in omega arith

mutual
  pub stmt-shorter : {ns : Names} {n : ℕ} {ts : List Token} {a : Stmt} {us : List Token} → Stmt' ns n ts a us → length us < length ts
  stmt-shorter (Stmt'.block is) = let x = nested-shorter is in omega arith
  stmt-shorter Stmt'.empty = omega arith
  stmt-shorter (Stmt'.simple_stmt a) = let x = simple-shorter a in omega arith
  stmt-shorter (Stmt'.gives p c) = let x = place-shorter p in let y = call-shorter c in omega arith
  stmt-shorter (Stmt'.call c) = let x = call-shorter c in omega arith
  stmt-shorter (Stmt'.if c a h) = let x = whole-shorter c in let y = stmt-shorter a in omega arith
  stmt-shorter (Stmt'.if_else c a b) = let x = whole-shorter c in let y = stmt-shorter a in let z = stmt-shorter b in omega arith
  stmt-shorter (Stmt'.while c a) = let x = whole-shorter c in let y = stmt-shorter a in omega arith
  stmt-shorter (Stmt'.do_while a c) = let x = whole-shorter c in let y = stmt-shorter a in omega arith
  stmt-shorter (Stmt'.for f c x a) = let h = first-shorter f in let i = condition-shorter c in let j = next-shorter x in let k = stmt-shorter a in omega arith
  stmt-shorter (Stmt'.switch c gs) = let x = whole-shorter c in let y = groups-shorter gs in omega arith
  stmt-shorter Stmt'.break = omega arith
  stmt-shorter Stmt'.return = omega arith
  stmt-shorter (Stmt'.return_value w) = let x = whole-shorter w in omega arith
  stmt-shorter (Stmt'.directive a) = let x = directive-shorter a in omega arith

  pub nested-shorter : {ns : Names} {n : ℕ} {ts : List Token} {is : List BlockItem} {us : List Token} → Nested ns n ts is us → length us ≤ length ts
  nested-shorter Nested.no_item = omega arith
  nested-shorter (Nested.nested_local l is) = let x = local-shorter l in let y = nested-shorter is in omega arith
  nested-shorter (Nested.nested_stmt a is) = let x = stmt-shorter a in let y = nested-shorter is in omega arith

  pub groups-shorter : {ns : Names} {n : ℕ} {ts : List Token} {gs : List Group} {us : List Token} → Groups ns n ts gs us → length us ≤ length ts
  groups-shorter Groups.no_group = omega arith
  groups-shorter (Groups.group ls ss gs) = let x = labels-shorter ls in let y = body-shorter ss in let z = groups-shorter gs in omega arith

  pub body-shorter : {ns : Names} {n : ℕ} {ts : List Token} {ss : List Stmt} {us : List Token} → Body ns n ts ss us → length us ≤ length ts
  body-shorter Body.no_stmt = omega arith
  body-shorter (Body.stmt a ss) = let x = stmt-shorter a in let y = body-shorter ss in omega arith

pub outermost-shorter : {ns : Names} {n : ℕ} {ts : List Token} {is : List BlockItem} {us : List Token} → Outermost ns n ts is us → length us ≤ length ts
outermost-shorter Outermost.no_item = omega arith
outermost-shorter (Outermost.local_item l is) = let x = local-shorter l in let y = outermost-shorter is in omega arith
outermost-shorter (Outermost.stmt_item a is) = let x = stmt-shorter a in let y = outermost-shorter is in omega arith

starred-shorter : {ts : List Token} {s : Option Pos} {us : List Token} → Starred ts s us → length us ≤ length ts
starred-shorter Starred.no_star = omega arith
starred-shorter Starred.star = omega arith

nameable-shorter : {ts : List Token} {x : Option Name} {us : List Token} → Nameable ts x us → length us ≤ length ts
nameable-shorter Nameable.no_name = omega arith
nameable-shorter Nameable.name = omega arith

pub param-shorter : {ns : Names} {n : ℕ} {ts : List Token} {p : Param} {us : List Token} → Param' ns n ts p us → length us < length ts
param-shorter (Param'.param t s x) = let h = type-shorter t in let i = starred-shorter s in let j = nameable-shorter x in omega arith

pub param_list-shorter : {ns : Names} {n : ℕ} {ts : List Token} {ps : List Param} {us : List Token} → ParamList ns n ts ps us → length us < length ts
param_list-shorter (ParamList.last_param p) = let x = param-shorter p in omega arith
param_list-shorter (ParamList.next_param p ps) = let x = param-shorter p in let y = param_list-shorter ps in omega arith

pub params-shorter : {ns : Names} {n : ℕ} {ts : List Token} {ps : Params} {us : List Token} → Params' ns n ts ps us → length us < length ts
params-shorter Params'.empty = omega arith
params-shorter Params'.void = omega arith
params-shorter (Params'.list ps h) = param_list-shorter ps
