-- No promise of the top calls rests on this page: it is for laws beside them, for proofs and for inner functions.
-- Initialisers, statements, functions and whole sources read from the front, one token ahead.
use Rattle.std.specs.Prelude.{ℕ, zero, suc, ◌-◌, List, [], ◌∷◌, ◌++◌, ◌&&◌, ◌||◌, not, Bool, true, false, if◌then◌else◌, Option, Some, None}
use Rattle.sa_base.specs.declared.pos.Pos.{Pos}
use Rattle.sa_tokens.specs.declared.keyword.Keyword.{Keyword}
use Rattle.sa_tokens.specs.declared.keyword.Keyword.TheVariants as k
use Rattle.sa_tokens.specs.declared.punct.Punct.{Punct}
use Rattle.sa_tokens.specs.declared.punct.Punct.TheVariants as m
use Rattle.sa_tokens.specs.declared.token.Token.{Token}
use Rattle.sa_syntax.specs.declared.decl.Name.{Name}
use Rattle.sa_syntax.specs.declared.decl.Specifiers.{Specifiers, out-Specifiers}
use Rattle.sa_syntax.specs.declared.decl.Qualified.{Qualified}
use Rattle.sa_syntax.specs.declared.decl.Base.{Base, out-Base}
use Rattle.sa_syntax.specs.declared.decl.Base.TheOpen.{Base-F}
use Rattle.sa_syntax.specs.declared.decl.Struct.{Struct}
use Rattle.sa_syntax.specs.declared.decl.Declr.{Declr}
use Rattle.sa_syntax.specs.declared.decl.Init.{Init}
use Rattle.sa_syntax.specs.declared.decl.Init.TheVariants as init
use Rattle.sa_syntax.specs.declared.decl.Start.TheVariants as start
use Rattle.sa_syntax.specs.declared.decl.InitDeclr.{InitDeclr}
use Rattle.sa_syntax.specs.declared.expr.Expr.{Expr}
use Rattle.sa_syntax.specs.declared.expr.Place.{Place}
use Rattle.sa_syntax.specs.declared.stmt.Compound.{Compound}
use Rattle.sa_syntax.specs.declared.stmt.Update.{Update}
use Rattle.sa_syntax.specs.declared.stmt.Simple.{Simple}
use Rattle.sa_syntax.specs.declared.stmt.Simple.TheVariants as simply
use Rattle.sa_syntax.specs.declared.stmt.Call.{Call}
use Rattle.sa_syntax.specs.declared.stmt.Arg.{Arg}
use Rattle.sa_syntax.specs.declared.stmt.ArgValue.{ArgValue}
use Rattle.sa_syntax.specs.declared.stmt.ArgValue.TheVariants as value
use Rattle.sa_syntax.specs.declared.stmt.Directive.{Directive}
use Rattle.sa_syntax.specs.declared.stmt.Directive.TheVariants as d
use Rattle.sa_syntax.specs.declared.stmt.First.{First}
use Rattle.sa_syntax.specs.declared.stmt.First.TheVariants as first
use Rattle.sa_syntax.specs.declared.stmt.Label.{Label}
use Rattle.sa_syntax.specs.declared.stmt.Label.TheVariants as label
use Rattle.sa_syntax.specs.declared.stmt.Local.{Local}
use Rattle.sa_syntax.specs.declared.stmt.LocalDeclr.{LocalDeclr}
use Rattle.sa_syntax.specs.declared.stmt.LocalStart.TheVariants as begins
use Rattle.sa_syntax.specs.declared.stmt.Stmt.{Stmt}
use Rattle.sa_syntax.specs.declared.stmt.Stmt.TheVariants as s
use Rattle.sa_syntax.specs.declared.stmt.Group.{Group}
use Rattle.sa_syntax.specs.declared.stmt.BlockItem.{BlockItem}
use Rattle.sa_syntax.specs.declared.stmt.BlockItem.TheVariants as item
use Rattle.sa_syntax.specs.declared.unit.Param.{Param}
use Rattle.sa_syntax.specs.declared.unit.Params.{Params}
use Rattle.sa_syntax.specs.declared.unit.Params.TheVariants as given
use Rattle.sa_syntax.specs.declared.unit.Item.{Item}
use Rattle.sa_syntax.specs.declared.unit.Item.TheVariants as top
use Rattle.sa_syntax.specs.declared.unit.Unit.{Unit as Source}
use Rattle.sa_syntax.specs.Trees as tree
use Rattle.sa_syntax.specs.Words.{Names, compound_of, update_of, begins_with_star, begins_with_else, begins_with_label, is_void_alone}
use Rattle.sa_syntax.specs.Statements.{all_named}
use Rattle.sa_syntax.specs.Reading.{Parser, Got, Stuck, Deep, ◌>>=◌, ◌>>◌, pure, refuse, sees, after, expect, opens, any_name, variable, name_at, key_at, mark_at, unless_type, many, turns}
use Rattle.sa_syntax.specs.ReadExpr as read
use Rattle.sa_syntax.specs.ReadExpr.{is_some, begins_type, inside}

-- what is read where that many more may be open
abbrev pub expr : Names → ℕ → Parser Expr
expr ns n = read.whole ns n (inside ns n)

abbrev pub place : Names → ℕ → Parser Place
place ns n = read.place ns n (inside ns n)

abbrev pub specifiers : Names → ℕ → Parser Specifiers
specifiers ns n = read.specifiers ns n (inside ns n)

abbrev pub declr : Names → ℕ → Parser Declr
declr ns n = read.declr ns n (inside ns n)

-- one deeper, after an opening token
abbrev pub within : {A : Type 0} → (ℕ → Parser A) → ℕ → Parser A
within p zero = λ ts. Deep ts
within p (suc n) = p n

-- the keyword, whose place is the answer
abbrev pub takes : Parser Pos
takes [] = Stuck []
takes (t ∷ ts) = Got t.pos ts

-- a name that is no type name, and an opening bracket
abbrev pub is_some_and : {A : Type 0} → Option A → Bool → Bool
is_some_and None b = false
is_some_and (Some x) b = b

unfoldable pub sees_call : Names → List Token → Bool
sees_call ns ts = is_some_and (unless_type ns (name_at ts)) (sees m.OpenParen (after ts))

-- ---- items with a mark after each: a comma goes on, the closing mark ends, and is taken
unfoldable pub list_from : {A : Type 0} → Punct → Parser A → ℕ → List A → Parser (List A)
list_from close one zero found = refuse
list_from close one (suc n) found = do
  x ← one
  (λ ts. if sees m.Comma ts then list_from close one n (found ++ x ∷ []) (after ts) else (expect close >> pure (found ++ x ∷ [])) ts)

abbrev pub list : {A : Type 0} → Punct → Parser A → Parser (List A)
list close one = λ ts. list_from close one (turns ts) [] ts

-- ---- initialisers
-- after the opening brace: a comma may stand before the closing one
unfoldable pub inits_from : Parser Init → ℕ → List Init → Parser (List Init)
inits_from one zero found = refuse
inits_from one (suc n) found = do
  i ← one
  more ← (λ ts. Got (sees m.Comma ts) ts)
  if more then (do
    expect m.Comma
    ends ← (λ ts. Got (sees m.CloseBrace ts) ts)
    if ends then expect m.CloseBrace >> pure (found ++ i ∷ []) else inits_from one n (found ++ i ∷ []))
      else expect m.CloseBrace >> pure (found ++ i ∷ [])

unfoldable pub braces : ℕ → Parser Init → Parser Init
braces n one = do
  p ← opens n m.OpenBrace
  is ← (λ ts. inits_from one (turns ts) [] ts)
  pure (init.Braces p is)

unfoldable pub init_by : Names → ℕ → Parser Init → Parser Init
init_by ns n one ts = if sees m.OpenBrace ts then braces n one ts else (expr ns n >>= (λ a. pure (init.Value a))) ts

unfoldable pub init_at : Names → ℕ → Parser Init
init_at ns zero = init_by ns zero (λ ts. Deep ts)
init_at ns (suc n) = init_by ns (suc n) (init_at ns n)

unfoldable pub init_declr : Names → ℕ → Parser InitDeclr
init_declr ns n = do
  d ← declr ns n
  (λ ts. if sees m.Equal ts then (do p ← expect m.Equal; i ← init_at ns n; pure (tree.init_declr d (start.Init p i))) ts else Got (tree.init_declr d start.Nothing) ts)

-- ---- calls
unfoldable pub arg_value : Names → ℕ → Parser ArgValue
arg_value ns n ts = if sees m.Ampersand ts
    then (do p ← expect m.Ampersand; x ← place ns n; pure (value.Reference p x)) ts
    else (expr ns n >>= (λ a. pure (value.Value a))) ts

unfoldable pub args_from : Names → ℕ → ℕ → Pos → List Arg → Parser (List Arg)
args_from ns n zero p found = refuse
args_from ns n (suc left) p found = do
  v ← arg_value ns n
  (λ ts. if sees m.Comma ts then (expect m.Comma >>= (λ q. args_from ns n left q (found ++ tree.arg p v ∷ []))) ts
      else (expect m.CloseParen >> pure (found ++ tree.arg p v ∷ [])) ts)

-- after the opening bracket at that place
unfoldable pub args : Names → Pos → ℕ → Parser (List Arg)
args ns p n ts = if sees m.CloseParen ts then Got [] (after ts) else args_from ns n (turns ts) p [] ts

unfoldable pub call : Names → ℕ → Parser Call
call ns n = do
  x ← variable ns
  p ← opens n m.OpenParen
  xs ← within (args ns p) n
  pure (tree.call x xs)

-- ---- assignments
abbrev pub compound_in : Option Punct → Option Compound
compound_in None = None
compound_in (Some m) = compound_of m

abbrev pub update_in : Option Punct → Option Update
update_in None = None
update_in (Some m) = update_of m

unfoldable pub before : Names → ℕ → Update → Parser Simple
before ns n t = do
  p ← takes
  x ← place ns n
  pure (simply.Before t p x)

abbrev pub compounded : Names → ℕ → Place → Option Compound → Parser Simple
compounded ns n x None = refuse
compounded ns n x (Some op) = do
  p ← takes
  a ← expr ns n
  pure (simply.Compound x op p a)

abbrev pub updated : Names → ℕ → Bool → Place → Option Update → Parser Simple
updated ns n star x None ts = compounded ns n x (compound_in (mark_at ts)) ts
updated ns n star x (Some t) ts = if star then Stuck ts else (takes >>= (λ p. pure (simply.After x t p))) ts

-- after the place
unfoldable pub assigned : Names → ℕ → Bool → Place → Parser Simple
assigned ns n star x ts = if sees m.Equal ts then (do p ← expect m.Equal; a ← expr ns n; pure (simply.Assign x p a)) ts
    else updated ns n star x (update_in (mark_at ts)) ts

abbrev pub simple_by : Names → ℕ → Option Update → Parser Simple
simple_by ns n (Some t) = before ns n t
simple_by ns n None = λ ts. (place ns n >>= assigned ns n (begins_with_star ts)) ts

unfoldable pub simple : Names → ℕ → Parser Simple
simple ns n ts = simple_by ns n (update_in (mark_at ts)) ts

-- ---- locals
unfoldable pub local_start : Names → ℕ → Declr → Parser LocalDeclr
local_start ns n d = do
  p ← expect m.Equal
  (λ ts. if sees_call ns ts then (call ns n >>= (λ c. pure (tree.local_declr d (begins.Call p c)))) ts
      else (init_at ns n >>= (λ i. pure (tree.local_declr d (begins.Init p i)))) ts)

unfoldable pub local_declr : Names → ℕ → Parser LocalDeclr
local_declr ns n = do
  d ← declr ns n
  (λ ts. if sees m.Equal ts then local_start ns n d ts else Got (tree.local_declr d begins.Nothing) ts)

unfoldable pub local : Names → ℕ → Parser Local
local ns n = do
  t ← specifiers ns n
  ds ← list m.Semicolon (local_declr ns n)
  pure (tree.local t ds)

-- ---- directives, after their word
unfoldable pub double_bracket : {A : Type 0} → ℕ → Parser A → Parser A
double_bracket n p = do
  opens n m.OpenParen
  opens (n - 1) m.OpenParen
  a ← p
  expect m.CloseParen
  expect m.CloseParen
  pure a

unfoldable pub bare : ℕ → Directive → Parser Directive
bare n a = takes >> double_bracket n (pure a)

unfoldable pub with_expr : Names → ℕ → (Expr → Directive) → Parser Directive
with_expr ns n f = takes >> double_bracket n (within (within (λ n. expr ns n)) n) >>= (λ a. pure (f a))

unfoldable pub ended : Parser Directive → Parser Stmt
ended p ts = (do
  a ← p
  expect m.Semicolon
  pure (s.Directive (tree.pos_of ts) a)) ts

-- ---- parts of statements
-- in brackets
unfoldable pub condition : Names → ℕ → Parser Expr
condition ns n = do
  opens n m.OpenParen
  a ← within (expr ns) n
  expect m.CloseParen
  pure a

unfoldable pub declares : Names → ℕ → Parser First
declares ns n = do
  t ← specifiers ns n
  d ← declr ns n
  p ← expect m.Equal
  a ← expr ns n
  pure (first.Declares t d p a)

unfoldable pub first_of : Names → ℕ → Parser First
first_of ns n ts = if sees m.Semicolon ts then Got first.Nothing ts
    else (if begins_type ns ts then declares ns n ts else (simple ns n >>= (λ a. pure (first.Simple a))) ts)

unfoldable pub expr_before : Names → Punct → ℕ → Parser (Option Expr)
expr_before ns m n ts = if sees m ts then Got None ts else (expr ns n >>= (λ a. pure (Some a))) ts

unfoldable pub simple_before : Names → Punct → ℕ → Parser (Option Simple)
simple_before ns m n ts = if sees m ts then Got None ts else (simple ns n >>= (λ a. pure (Some a))) ts

unfoldable pub case : Names → ℕ → Parser Label
case ns n = do
  p ← takes
  a ← expr ns n
  expect m.Colon
  pure (label.Case p a)

unfoldable pub default : Parser Label
default = do
  p ← takes
  expect m.Colon
  pure (label.Default p)

abbrev pub label_by : Names → ℕ → Option Keyword → Parser Label
label_by ns n (Some k.Case) = case ns n
label_by ns n (Some k.Default) = default
label_by ns n _ = refuse

unfoldable pub a_label : Names → ℕ → Parser Label
a_label ns n ts = label_by ns n (key_at ts) ts

-- whether a statement begins here
abbrev pub key_begins : Keyword → Bool
key_begins k.If = true
key_begins k.While = true
key_begins k.Do = true
key_begins k.For = true
key_begins k.Switch = true
key_begins k.Break = true
key_begins k.Return = true
key_begins k.WaitForClock = true
key_begins k.Partition = true
key_begins k.KnownFact = true
key_begins k.Assert = true
key_begins _ = false

abbrev pub mark_begins : Punct → Bool
mark_begins m.OpenBrace = true
mark_begins m.Semicolon = true
mark_begins m.OpenParen = true
mark_begins m.Star = true
mark_begins m.PlusPlus = true
mark_begins m.MinusMinus = true
mark_begins _ = false

abbrev pub test_in : {A : Type 0} → (A → Bool) → Option A → Bool
test_in f None = false
test_in f (Some a) = f a

unfoldable pub begins_stmt : Names → List Token → Bool
begins_stmt ns ts = test_in key_begins (key_at ts) || test_in mark_begins (mark_at ts) || is_some (unless_type ns (name_at ts))

-- ---- statements: the readers of what stands one deeper
pub record Bodies : Type 0 where
  -- a statement in a statement
  pub stmt : Parser Stmt
  -- what stands in the braces of a block, and of a switch
  pub items : Parser (List BlockItem)
  pub groups : Parser (List Group)

abbrev pub no_close : List Token → Bool
no_close ts = not (sees m.CloseBrace ts)

module _ (ns : Names) (n : ℕ) (bodies : Bodies) where
  unfoldable pub block : Parser Stmt
  block = do
    p ← opens n m.OpenBrace
    is ← bodies.items
    q ← expect m.CloseBrace
    pure (s.Block (tree.block p is q))

  unfoldable pub empty : Parser Stmt
  empty = takes >>= (λ p. pure (s.Empty p))

  unfoldable pub call_stmt : Parser Stmt
  call_stmt = do
    c ← call ns n
    expect m.Semicolon
    pure (s.Call c)

  unfoldable pub gives : Place → Parser Stmt
  gives x = do
    p ← expect m.Equal
    c ← call ns n
    expect m.Semicolon
    pure (s.Gives x p c)

  unfoldable pub simple_ended : Parser Simple → Parser Stmt
  simple_ended p = do
    a ← p
    expect m.Semicolon
    pure (s.Simple a)

  -- after the place
  unfoldable pub assigned_stmt : Bool → Place → Parser Stmt
  assigned_stmt star x ts = if sees m.Equal ts && sees_call ns (after ts) then gives x ts else simple_ended (assigned ns n star x) ts

  unfoldable pub placed : Parser Stmt
  placed ts = if sees_call ns ts then call_stmt ts else (place ns n >>= assigned_stmt (begins_with_star ts)) ts

  abbrev pub if_with : Pos → Expr → Stmt → Parser Stmt
  if_with p c a ts = if begins_with_else ts then (do takes; b ← bodies.stmt; pure (s.IfElse p c a b)) ts else Got (s.If p c a) ts

  unfoldable pub if_stmt : Parser Stmt
  if_stmt = do
    p ← takes
    c ← condition ns n
    a ← bodies.stmt
    if_with p c a

  unfoldable pub while_stmt : Parser Stmt
  while_stmt = do
    p ← takes
    c ← condition ns n
    a ← bodies.stmt
    pure (s.While p c a)

  abbrev pub while_by : Option Keyword → Parser Pos
  while_by (Some k.While) = takes
  while_by _ = refuse

  unfoldable pub expect_while : Parser Pos
  expect_while ts = while_by (key_at ts) ts

  unfoldable pub do_stmt : Parser Stmt
  do_stmt = do
    p ← takes
    a ← bodies.stmt
    expect_while
    c ← condition ns n
    expect m.Semicolon
    pure (s.DoWhile p a c)

  unfoldable pub for_stmt : Parser Stmt
  for_stmt = do
    p ← takes
    opens n m.OpenParen
    f ← within (first_of ns) n
    expect m.Semicolon
    c ← within (expr_before ns m.Semicolon) n
    expect m.Semicolon
    x ← within (simple_before ns m.CloseParen) n
    expect m.CloseParen
    a ← bodies.stmt
    pure (s.For p f c x a)

  unfoldable pub switch_stmt : Parser Stmt
  switch_stmt = do
    p ← takes
    c ← condition ns n
    opens n m.OpenBrace
    gs ← bodies.groups
    expect m.CloseBrace
    pure (s.Switch p c gs)

  unfoldable pub break : Parser Stmt
  break = do
    p ← takes
    expect m.Semicolon
    pure (s.Break p)

  unfoldable pub return : Parser Stmt
  return = do
    p ← takes
    a ← expr_before ns m.Semicolon n
    expect m.Semicolon
    pure (s.Return p a)

  abbrev pub mark_stmt : Option Punct → Parser Stmt
  mark_stmt (Some m.OpenBrace) = block
  mark_stmt (Some m.Semicolon) = empty
  mark_stmt (Some m.PlusPlus) = simple_ended (simple ns n)
  mark_stmt (Some m.MinusMinus) = simple_ended (simple ns n)
  mark_stmt _ = placed

  abbrev pub stmt_by : Option Keyword → Parser Stmt
  stmt_by None = λ ts. mark_stmt (mark_at ts) ts
  stmt_by (Some k.If) = if_stmt
  stmt_by (Some k.While) = while_stmt
  stmt_by (Some k.Do) = do_stmt
  stmt_by (Some k.For) = for_stmt
  stmt_by (Some k.Switch) = switch_stmt
  stmt_by (Some k.Break) = break
  stmt_by (Some k.Return) = return
  stmt_by (Some k.WaitForClock) = ended (bare n d.Wait)
  stmt_by (Some k.Partition) = ended (bare n d.Partition)
  stmt_by (Some k.KnownFact) = ended (with_expr ns n d.KnownFact)
  stmt_by (Some k.Assert) = ended (with_expr ns n d.Assert)
  stmt_by (Some _) = refuse

  unfoldable pub stmt : Parser Stmt
  stmt ts = stmt_by (key_at ts) ts

  -- in braces where that many more may be open, with this reader of statements
  unfoldable pub block_item : Parser Stmt → Parser BlockItem
  block_item one ts = if begins_type ns ts then (local ns n >>= (λ l. pure (item.Local l))) ts else (one >>= (λ a. pure (item.Stmt a))) ts

  unfoldable pub block_items : Parser Stmt → Parser (List BlockItem)
  block_items one = many no_close (block_item one)

  abbrev pub goes_on : List Token → Bool
  goes_on ts = not (sees m.CloseBrace ts) && not (begins_with_label ts)

  unfoldable pub a_group : Parser Group
  a_group = do
    l ← a_label ns n
    ls ← many begins_with_label (a_label ns n)
    ss ← many goes_on bodies.stmt
    pure (tree.group (l ∷ ls) ss)

  unfoldable pub groups : Parser (List Group)
  groups = many begins_with_label a_group

-- where no statement may be open
abbrev pub no_stmt : Names → Parser Stmt
no_stmt ns ts = if begins_stmt ns ts then Deep ts else Stuck ts

-- what stands one deeper than where that many more may be open
unfoldable pub bodies : Names → ℕ → Bodies
bodies ns zero = record { stmt = no_stmt ns; items = λ ts. Deep ts; groups = λ ts. Deep ts }
bodies ns (suc n) = let one = bodies ns n in record { stmt = stmt ns n one; items = block_items ns n one one.stmt; groups = groups ns n one }

abbrev pub stmt_at : Names → ℕ → Parser Stmt
stmt_at ns n = stmt ns n (bodies ns n)

-- ---- functions
unfoldable pub param : Names → ℕ → Parser Param
param ns n = do
  t ← specifiers ns n
  star ← (λ ts. if sees m.Star ts then (expect m.Star >>= (λ p. pure (Some p))) ts else Got None ts)
  (λ ts. if is_some (name_at ts) then (any_name >>= (λ x. pure (tree.param t star (Some x)))) ts else Got (tree.param t star None) ts)

-- after the opening bracket
unfoldable pub params : Names → ℕ → Parser Params
params ns n ts = if sees m.CloseParen ts then Got given.Empty (after ts)
    else (if is_void_alone ts then Got given.Void (after (after ts)) else (list m.CloseParen (param ns n) >>= (λ ps. pure (given.List ps))) ts)

unfoldable pub outermost : Names → ℕ → Parser (List BlockItem)
outermost ns n = block_items ns n (bodies ns n) (stmt_at ns n)

unfoldable pub body : Names → ℕ → Specifiers → Name → Params → Parser Item
body ns n t x ps = do
  p ← opens n m.OpenBrace
  is ← within (outermost ns) n
  q ← expect m.CloseBrace
  pure (top.Func t x ps (tree.block p is q))

unfoldable pub ends : Names → ℕ → Specifiers → Name → Params → Parser Item
ends ns n t x ps ts = if sees m.Semicolon ts then Got (top.Proto t x ps) (after ts) else (if all_named ps then body ns n t x ps ts else Stuck ts)

unfoldable pub function : Names → ℕ → Specifiers → Parser Item
function ns n t = do
  x ← any_name
  opens n m.OpenParen
  ps ← within (params ns) n
  ends ns n t x ps

-- ---- whole sources
-- the struct of a type that is nothing else
abbrev pub struct_in : Base → Option Struct
struct_in b = elim (out-Base b) as (λ _. Option Struct) [ Base-F.Struct x ↦ Some x | _ ↦ None ]

abbrev pub if_bare : List Qualified → Option Struct → Option Struct
if_bare [] x = x
if_bare (q ∷ qs) x = None

unfoldable pub struct_of : Specifiers → Option Struct
struct_of t = if_bare (out-Specifiers t).qualifiers (struct_in (out-Specifiers t).base)

unfoldable pub typedef : Names → ℕ → Parser Item
typedef ns n = do
  p ← takes
  t ← specifiers ns n
  x ← any_name
  expect m.Semicolon
  pure (top.Typedef p t x)

unfoldable pub global : Names → ℕ → Specifiers → Parser Item
global ns n t = do
  ds ← list m.Semicolon (init_declr ns n)
  pure (top.Global t ds)

-- a name, of any kind, and an opening bracket
unfoldable pub sees_function : List Token → Bool
sees_function ts = is_some_and (name_at ts) (sees m.OpenParen (after ts))

-- after the type
unfoldable pub named_item : Names → ℕ → Specifiers → Parser Item
named_item ns n t ts = if sees_function ts then function ns n t ts else global ns n t ts

abbrev pub struct_or : Names → ℕ → Pos → Specifiers → Option Struct → Parser Item
struct_or ns n p t None ts = named_item ns n t ts
struct_or ns n p t (Some x) ts = if sees m.Semicolon ts then Got (top.Struct p x) (after ts) else named_item ns n t ts

unfoldable pub declared : Names → ℕ → Parser Item
declared ns n ts = (specifiers ns n >>= (λ t. struct_or ns n (tree.pos_of ts) t (struct_of t))) ts

abbrev pub item_by : Names → ℕ → Option Keyword → Parser Item
item_by ns n (Some k.Typedef) = typedef ns n
item_by ns n _ = declared ns n

unfoldable pub an_item : Names → ℕ → Parser Item
an_item ns n ts = item_by ns n (key_at ts) ts

-- the type names after it
abbrev pub names_after : Names → Item → Names
names_after ns (top.Typedef p t x) = x.text ∷ ns
names_after ns _ = ns

unfoldable pub items_from : ℕ → ℕ → Names → List Item → Parser (List Item)
items_from n zero ns found ts = Stuck ts
items_from n (suc left) ns found [] = Got found []
items_from n (suc left) ns found (t ∷ ts) = (an_item ns n >>= (λ x. items_from n left (names_after ns x) (found ++ x ∷ []))) (t ∷ ts)

-- a whole source, in which that many may be open
unfoldable pub source : ℕ → Parser Source
source n ts = (items_from n (turns ts) [] [] >>= (λ is. pure (tree.source is))) ts
