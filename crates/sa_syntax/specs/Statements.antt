-- The grammar of initialisers, statements, functions and whole sources, one case for each alternative, in the form of
-- `Expressions`: `Stmt' ns n ts s us` says that `ts` is the tokens of the statement `s` and then `us`.
use Rattle.std.specs.Prelude.{ℕ, suc, ◌≡◌, List, [], ◌∷◌, Bool, true, false, Option, Some, None}
use Rattle.std.specs.List.{list_all}
use Rattle.sa_base.specs.declared.pos.Pos.{Pos}
use Rattle.sa_tokens.specs.declared.keyword.Keyword.TheVariants as k
use Rattle.sa_tokens.specs.declared.punct.Punct.{Punct}
use Rattle.sa_tokens.specs.declared.punct.Punct.TheVariants as m
use Rattle.sa_tokens.specs.declared.token.Token.{Token}
use Rattle.sa_syntax.specs.declared.decl.Name.{Name}
use Rattle.sa_syntax.specs.declared.decl.Specifiers.{Specifiers}
use Rattle.sa_syntax.specs.declared.decl.Struct.{Struct}
use Rattle.sa_syntax.specs.declared.decl.Declr.{Declr}
use Rattle.sa_syntax.specs.declared.decl.Init.{Init}
use Rattle.sa_syntax.specs.declared.decl.Init.TheVariants as init
use Rattle.sa_syntax.specs.declared.decl.Start.TheVariants as start
use Rattle.sa_syntax.specs.declared.decl.InitDeclr.{InitDeclr}
use Rattle.sa_syntax.specs.declared.expr.Expr.{Expr}
use Rattle.sa_syntax.specs.declared.expr.Place.{Place}
use Rattle.sa_syntax.specs.declared.stmt.Compound.{Compound}
use Rattle.sa_syntax.specs.declared.stmt.Update.{Update}
use Rattle.sa_syntax.specs.declared.stmt.Simple.{Simple}
use Rattle.sa_syntax.specs.declared.stmt.Simple.TheVariants as simple
use Rattle.sa_syntax.specs.declared.stmt.Call.{Call}
use Rattle.sa_syntax.specs.declared.stmt.Arg.{Arg}
use Rattle.sa_syntax.specs.declared.stmt.ArgValue.{ArgValue}
use Rattle.sa_syntax.specs.declared.stmt.ArgValue.TheVariants as value
use Rattle.sa_syntax.specs.declared.stmt.Directive.{Directive}
use Rattle.sa_syntax.specs.declared.stmt.Directive.TheVariants as d
use Rattle.sa_syntax.specs.declared.stmt.First.{First}
use Rattle.sa_syntax.specs.declared.stmt.First.TheVariants as first
use Rattle.sa_syntax.specs.declared.stmt.Label.{Label}
use Rattle.sa_syntax.specs.declared.stmt.Label.TheVariants as label
use Rattle.sa_syntax.specs.declared.stmt.Local.{Local}
use Rattle.sa_syntax.specs.declared.stmt.LocalDeclr.{LocalDeclr}
use Rattle.sa_syntax.specs.declared.stmt.LocalStart.TheVariants as begins
use Rattle.sa_syntax.specs.declared.stmt.Stmt.{Stmt}
use Rattle.sa_syntax.specs.declared.stmt.Stmt.TheVariants as s
use Rattle.sa_syntax.specs.declared.stmt.Group.{Group}
use Rattle.sa_syntax.specs.declared.stmt.BlockItem.{BlockItem}
use Rattle.sa_syntax.specs.declared.stmt.BlockItem.TheVariants as item
use Rattle.sa_syntax.specs.declared.unit.Param.{Param}
use Rattle.sa_syntax.specs.declared.unit.Params.{Params}
use Rattle.sa_syntax.specs.declared.unit.Params.TheVariants as params
use Rattle.sa_syntax.specs.declared.unit.Item.{Item}
use Rattle.sa_syntax.specs.declared.unit.Item.TheVariants as top
use Rattle.sa_syntax.specs.declared.unit.Unit.{Unit as Source}
use Rattle.sa_syntax.specs.Trees as tree
use Rattle.sa_syntax.specs.Words.{Names, mark, key, word, named, is_type_name, compound_of, update_of, begins_with_star, begins_with_else, begins_with_label, is_void_alone}
use Rattle.sa_syntax.specs.Expressions.{Whole, Place', Specifiers', Struct', Declr'}

mutual
  -- init = expr | "{" init { "," init } [ "," ] "}"
  pub data Init' (ns : Names) : ℕ → List Token → Init → List Token → Type 0 where
    init_value : {n : ℕ} {ts us : List Token} {a : Expr} → Whole ns n ts a us → Init' ns n ts (init.Value a) us
    braces : {n : ℕ} {ts us : List Token} {p : Pos} {is : List Init} → Inits ns n ts is us → Init' ns (suc n) (mark m.OpenBrace p ∷ ts) (init.Braces p is) us

  -- after the opening brace
  pub data Inits (ns : Names) : ℕ → List Token → List Init → List Token → Type 0 where
    last_init : {n : ℕ} {ts us : List Token} {q : Pos} {i : Init} → Init' ns n ts i (mark m.CloseBrace q ∷ us) → Inits ns n ts (i ∷ []) us
    last_comma : {n : ℕ} {ts us : List Token} {p q : Pos} {i : Init} → Init' ns n ts i (mark m.Comma p ∷ mark m.CloseBrace q ∷ us) → Inits ns n ts (i ∷ []) us
    next_init : {n : ℕ} {ts us vs : List Token} {p : Pos} {i : Init} {is : List Init} → Init' ns n ts i (mark m.Comma p ∷ us) →
        Inits ns n us is vs → Inits ns n ts (i ∷ is) vs

-- idecl = declr [ "=" init ]
pub data InitDeclr' (ns : Names) : ℕ → List Token → InitDeclr → List Token → Type 0 where
  plain : {n : ℕ} {ts us : List Token} {d : Declr} → Declr' ns n ts d us → InitDeclr' ns n ts (tree.init_declr d start.Nothing) us
  with_init : {n : ℕ} {ts us vs : List Token} {p : Pos} {d : Declr} {i : Init} → Declr' ns n ts d (mark m.Equal p ∷ us) →
      Init' ns n us i vs → InitDeclr' ns n ts (tree.init_declr d (start.Init p i)) vs

-- idecl { "," idecl } ";"
pub data InitDeclrs (ns : Names) : ℕ → List Token → List InitDeclr → List Token → Type 0 where
  last_init_declr : {n : ℕ} {ts us : List Token} {p : Pos} {d : InitDeclr} → InitDeclr' ns n ts d (mark m.Semicolon p ∷ us) → InitDeclrs ns n ts (d ∷ []) us
  next_init_declr : {n : ℕ} {ts us vs : List Token} {p : Pos} {d : InitDeclr} {ds : List InitDeclr} → InitDeclr' ns n ts d (mark m.Comma p ∷ us) →
      InitDeclrs ns n us ds vs → InitDeclrs ns n ts (d ∷ ds) vs

-- arg = expr | "&" lv
pub data ArgValue' (ns : Names) : ℕ → List Token → ArgValue → List Token → Type 0 where
  by_value : {n : ℕ} {ts us : List Token} {a : Expr} → Whole ns n ts a us → ArgValue' ns n ts (value.Value a) us
  reference : {n : ℕ} {ts us : List Token} {p : Pos} {x : Place} → Place' ns n ts x us → ArgValue' ns n (mark m.Ampersand p ∷ ts) (value.Reference p x) us

-- arg { "," arg } ")", after a mark at that place
pub data Args (ns : Names) : ℕ → Pos → List Token → List Arg → List Token → Type 0 where
  last_arg : {n : ℕ} {ts us : List Token} {p q : Pos} {v : ArgValue} → ArgValue' ns n ts v (mark m.CloseParen q ∷ us) → Args ns n p ts (tree.arg p v ∷ []) us
  next_arg : {n : ℕ} {ts us vs : List Token} {p q : Pos} {v : ArgValue} {xs : List Arg} → ArgValue' ns n ts v (mark m.Comma q ∷ us) →
      Args ns n q us xs vs → Args ns n p ts (tree.arg p v ∷ xs) vs

-- call = name "(" [ arg { "," arg } ] ")"
pub data Call' (ns : Names) : ℕ → List Token → Call → List Token → Type 0 where
  no_args : {n : ℕ} {us : List Token} {p q r : Pos} {w : List ℕ} → is_type_name ns w ≡ false →
      Call' ns (suc n) (word w p ∷ mark m.OpenParen q ∷ mark m.CloseParen r ∷ us) (tree.call (named w p) []) us
  args : {n : ℕ} {ts us : List Token} {p q : Pos} {w : List ℕ} {xs : List Arg} → is_type_name ns w ≡ false → Args ns n q ts xs us →
      Call' ns (suc n) (word w p ∷ mark m.OpenParen q ∷ ts) (tree.call (named w p) xs) us

-- simple = lv "=" expr | lv op expr | lv "++" | lv "--" | "++" lv | "--" lv        (not `*p++`, which C reads as `*(p++)`)
pub data Simple' (ns : Names) : ℕ → List Token → Simple → List Token → Type 0 where
  assign : {n : ℕ} {ts us vs : List Token} {p : Pos} {x : Place} {a : Expr} → Place' ns n ts x (mark m.Equal p ∷ us) →
      Whole ns n us a vs → Simple' ns n ts (simple.Assign x p a) vs
  compound : {n : ℕ} {ts us vs : List Token} {p : Pos} {mk : Punct} {op : Compound} {x : Place} {a : Expr} → Place' ns n ts x (mark mk p ∷ us) →
      compound_of mk ≡ Some op → Whole ns n us a vs → Simple' ns n ts (simple.Compound x op p a) vs
  after : {n : ℕ} {ts us : List Token} {p : Pos} {mk : Punct} {t : Update} {x : Place} → Place' ns n ts x (mark mk p ∷ us) →
      update_of mk ≡ Some t → begins_with_star ts ≡ false → Simple' ns n ts (simple.After x t p) us
  before : {n : ℕ} {ts us : List Token} {p : Pos} {mk : Punct} {t : Update} {x : Place} → update_of mk ≡ Some t →
      Place' ns n ts x us → Simple' ns n (mark mk p ∷ ts) (simple.Before t p x) us

-- ldecl = declr [ "=" ( call | init ) ]
pub data LocalDeclr' (ns : Names) : ℕ → List Token → LocalDeclr → List Token → Type 0 where
  plain : {n : ℕ} {ts us : List Token} {d : Declr} → Declr' ns n ts d us → LocalDeclr' ns n ts (tree.local_declr d begins.Nothing) us
  with_init : {n : ℕ} {ts us vs : List Token} {p : Pos} {d : Declr} {i : Init} → Declr' ns n ts d (mark m.Equal p ∷ us) →
      Init' ns n us i vs → LocalDeclr' ns n ts (tree.local_declr d (begins.Init p i)) vs
  with_call : {n : ℕ} {ts us vs : List Token} {p : Pos} {d : Declr} {c : Call} → Declr' ns n ts d (mark m.Equal p ∷ us) →
      Call' ns n us c vs → LocalDeclr' ns n ts (tree.local_declr d (begins.Call p c)) vs

-- ldecl { "," ldecl } ";"
pub data LocalDeclrs (ns : Names) : ℕ → List Token → List LocalDeclr → List Token → Type 0 where
  last_local : {n : ℕ} {ts us : List Token} {p : Pos} {d : LocalDeclr} → LocalDeclr' ns n ts d (mark m.Semicolon p ∷ us) → LocalDeclrs ns n ts (d ∷ []) us
  next_local : {n : ℕ} {ts us vs : List Token} {p : Pos} {d : LocalDeclr} {ds : List LocalDeclr} → LocalDeclr' ns n ts d (mark m.Comma p ∷ us) →
      LocalDeclrs ns n us ds vs → LocalDeclrs ns n ts (d ∷ ds) vs

-- local = type ldecl { "," ldecl } ";"
pub data Local' (ns : Names) : ℕ → List Token → Local → List Token → Type 0 where
  local : {n : ℕ} {ts us vs : List Token} {t : Specifiers} {ds : List LocalDeclr} → Specifiers' ns n ts t us → LocalDeclrs ns n us ds vs → Local' ns n ts (tree.local t ds) vs

-- directive
pub data Directive' (ns : Names) : ℕ → List Token → Directive → List Token → Type 0 where
  wait : {n : ℕ} {us : List Token} {p q r s t : Pos} →
      Directive' ns (suc (suc n)) (key k.WaitForClock p ∷ mark m.OpenParen q ∷ mark m.OpenParen r ∷ mark m.CloseParen s ∷ mark m.CloseParen t ∷ us) d.Wait us
  partition : {n : ℕ} {us : List Token} {p q r s t : Pos} →
      Directive' ns (suc (suc n)) (key k.Partition p ∷ mark m.OpenParen q ∷ mark m.OpenParen r ∷ mark m.CloseParen s ∷ mark m.CloseParen t ∷ us) d.Partition us
  known_fact : {n : ℕ} {ts us : List Token} {p q r s t : Pos} {a : Expr} → Whole ns n ts a (mark m.CloseParen s ∷ mark m.CloseParen t ∷ us) →
      Directive' ns (suc (suc n)) (key k.KnownFact p ∷ mark m.OpenParen q ∷ mark m.OpenParen r ∷ ts) (d.KnownFact a) us
  assert : {n : ℕ} {ts us : List Token} {p q r s t : Pos} {a : Expr} → Whole ns n ts a (mark m.CloseParen s ∷ mark m.CloseParen t ∷ us) →
      Directive' ns (suc (suc n)) (key k.Assert p ∷ mark m.OpenParen q ∷ mark m.OpenParen r ∷ ts) (d.Assert a) us

-- [ simple | type declr "=" expr ]
pub data First' (ns : Names) : ℕ → List Token → First → List Token → Type 0 where
  nothing : {n : ℕ} {us : List Token} → First' ns n us first.Nothing us
  simply : {n : ℕ} {ts us : List Token} {a : Simple} → Simple' ns n ts a us → First' ns n ts (first.Simple a) us
  declares : {n : ℕ} {ts us vs ws : List Token} {p : Pos} {t : Specifiers} {d : Declr} {a : Expr} → Specifiers' ns n ts t us →
      Declr' ns n us d (mark m.Equal p ∷ vs) → Whole ns n vs a ws → First' ns n ts (first.Declares t d p a) ws

-- [ expr ]
pub data Condition' (ns : Names) : ℕ → List Token → Option Expr → List Token → Type 0 where
  always : {n : ℕ} {us : List Token} → Condition' ns n us None us
  while : {n : ℕ} {ts us : List Token} {a : Expr} → Whole ns n ts a us → Condition' ns n ts (Some a) us

-- [ simple ]
pub data Next' (ns : Names) : ℕ → List Token → Option Simple → List Token → Type 0 where
  nothing : {n : ℕ} {us : List Token} → Next' ns n us None us
  simply : {n : ℕ} {ts us : List Token} {a : Simple} → Simple' ns n ts a us → Next' ns n ts (Some a) us

-- label = "case" expr ":" | "default" ":"
pub data Label' (ns : Names) : ℕ → List Token → Label → List Token → Type 0 where
  case : {n : ℕ} {ts us : List Token} {p q : Pos} {a : Expr} → Whole ns n ts a (mark m.Colon q ∷ us) → Label' ns n (key k.Case p ∷ ts) (label.Case p a) us
  default : {n : ℕ} {us : List Token} {p q : Pos} → Label' ns n (key k.Default p ∷ mark m.Colon q ∷ us) (label.Default p) us

-- label { label }, all that follow one another
pub data Labels (ns : Names) : ℕ → List Token → List Label → List Token → Type 0 where
  last_label : {n : ℕ} {ts us : List Token} {l : Label} → Label' ns n ts l us → begins_with_label us ≡ false → Labels ns n ts (l ∷ []) us
  next_label : {n : ℕ} {ts us vs : List Token} {l : Label} {ls : List Label} → Label' ns n ts l us → Labels ns n us ls vs → Labels ns n ts (l ∷ ls) vs

mutual
  pub data Stmt' (ns : Names) : ℕ → List Token → Stmt → List Token → Type 0 where
    block : {n : ℕ} {ts us : List Token} {p q : Pos} {is : List BlockItem} → Nested ns n ts is (mark m.CloseBrace q ∷ us) →
        Stmt' ns (suc n) (mark m.OpenBrace p ∷ ts) (s.Block (tree.block p is q)) us
    empty : {n : ℕ} {us : List Token} {p : Pos} → Stmt' ns n (mark m.Semicolon p ∷ us) (s.Empty p) us
    simple_stmt : {n : ℕ} {ts us : List Token} {p : Pos} {a : Simple} → Simple' ns n ts a (mark m.Semicolon p ∷ us) → Stmt' ns n ts (s.Simple a) us
    gives : {n : ℕ} {ts us vs : List Token} {p q : Pos} {x : Place} {c : Call} → Place' ns n ts x (mark m.Equal p ∷ us) →
        Call' ns n us c (mark m.Semicolon q ∷ vs) → Stmt' ns n ts (s.Gives x p c) vs
    call : {n : ℕ} {ts us : List Token} {p : Pos} {c : Call} → Call' ns n ts c (mark m.Semicolon p ∷ us) → Stmt' ns n ts (s.Call c) us
    -- an `else` belongs to the nearest `if`
    if : {n : ℕ} {ts us vs : List Token} {p q r : Pos} {c : Expr} {a : Stmt} → Whole ns n ts c (mark m.CloseParen r ∷ us) →
        Stmt' ns n us a vs → begins_with_else vs ≡ false → Stmt' ns (suc n) (key k.If p ∷ mark m.OpenParen q ∷ ts) (s.If p c a) vs
    if_else : {n : ℕ} {ts us vs ws : List Token} {p q r t : Pos} {c : Expr} {a b : Stmt} → Whole ns n ts c (mark m.CloseParen r ∷ us) →
        Stmt' ns n us a (key k.Else t ∷ vs) → Stmt' ns n vs b ws → Stmt' ns (suc n) (key k.If p ∷ mark m.OpenParen q ∷ ts) (s.IfElse p c a b) ws
    while : {n : ℕ} {ts us vs : List Token} {p q r : Pos} {c : Expr} {a : Stmt} → Whole ns n ts c (mark m.CloseParen r ∷ us) →
        Stmt' ns n us a vs → Stmt' ns (suc n) (key k.While p ∷ mark m.OpenParen q ∷ ts) (s.While p c a) vs
    do_while : {n : ℕ} {ts us vs : List Token} {p q r t u : Pos} {c : Expr} {a : Stmt} → Stmt' ns n ts a (key k.While q ∷ mark m.OpenParen r ∷ us) →
        Whole ns n us c (mark m.CloseParen t ∷ mark m.Semicolon u ∷ vs) → Stmt' ns (suc n) (key k.Do p ∷ ts) (s.DoWhile p a c) vs
    for : {n : ℕ} {ts us vs ws xs : List Token} {p q r t u : Pos} {f : First} {c : Option Expr} {x : Option Simple} {a : Stmt} → First' ns n ts f (mark m.Semicolon r ∷ us) →
        Condition' ns n us c (mark m.Semicolon t ∷ vs) → Next' ns n vs x (mark m.CloseParen u ∷ ws) → Stmt' ns n ws a xs →
        Stmt' ns (suc n) (key k.For p ∷ mark m.OpenParen q ∷ ts) (s.For p f c x a) xs
    switch : {n : ℕ} {ts us vs : List Token} {p q r t u : Pos} {c : Expr} {gs : List Group} → Whole ns n ts c (mark m.CloseParen r ∷ mark m.OpenBrace t ∷ us) →
        Groups ns n us gs (mark m.CloseBrace u ∷ vs) → Stmt' ns (suc n) (key k.Switch p ∷ mark m.OpenParen q ∷ ts) (s.Switch p c gs) vs
    break : {n : ℕ} {us : List Token} {p q : Pos} → Stmt' ns n (key k.Break p ∷ mark m.Semicolon q ∷ us) (s.Break p) us
    return : {n : ℕ} {us : List Token} {p q : Pos} → Stmt' ns n (key k.Return p ∷ mark m.Semicolon q ∷ us) (s.Return p None) us
    return_value : {n : ℕ} {ts us : List Token} {p q : Pos} {a : Expr} → Whole ns n ts a (mark m.Semicolon q ∷ us) → Stmt' ns n (key k.Return p ∷ ts) (s.Return p (Some a)) us
    directive : {n : ℕ} {ts us : List Token} {p : Pos} {a : Directive} → Directive' ns n ts a (mark m.Semicolon p ∷ us) → Stmt' ns n ts (s.Directive (tree.pos_of ts) a) us

  -- { local | stmt } in the braces of a statement: its statements are one deeper
  pub data Nested (ns : Names) : ℕ → List Token → List BlockItem → List Token → Type 0 where
    no_item : {n : ℕ} {us : List Token} → Nested ns n us [] us
    nested_local : {n : ℕ} {ts us vs : List Token} {l : Local} {is : List BlockItem} → Local' ns n ts l us → Nested ns n us is vs → Nested ns n ts (item.Local l ∷ is) vs
    nested_stmt : {n : ℕ} {ts us vs : List Token} {a : Stmt} {is : List BlockItem} → Stmt' ns n ts a us → Nested ns (suc n) us is vs → Nested ns (suc n) ts (item.Stmt a ∷ is) vs

  -- { group }, where group = label { label } { stmt }
  pub data Groups (ns : Names) : ℕ → List Token → List Group → List Token → Type 0 where
    no_group : {n : ℕ} {us : List Token} → Groups ns n us [] us
    group : {n : ℕ} {ts us vs ws : List Token} {ls : List Label} {ss : List Stmt} {gs : List Group} → Labels ns n ts ls us → Body ns n us ss vs →
        Groups ns n vs gs ws → Groups ns n ts (tree.group ls ss ∷ gs) ws

  -- { stmt } in the braces of a statement
  pub data Body (ns : Names) : ℕ → List Token → List Stmt → List Token → Type 0 where
    no_stmt : {n : ℕ} {us : List Token} → Body ns n us [] us
    stmt : {n : ℕ} {ts us vs : List Token} {a : Stmt} {ss : List Stmt} → Stmt' ns n ts a us → Body ns (suc n) us ss vs → Body ns (suc n) ts (a ∷ ss) vs

-- { local | stmt } in the braces of a function
pub data Outermost (ns : Names) : ℕ → List Token → List BlockItem → List Token → Type 0 where
  no_item : {n : ℕ} {us : List Token} → Outermost ns n us [] us
  local_item : {n : ℕ} {ts us vs : List Token} {l : Local} {is : List BlockItem} → Local' ns n ts l us → Outermost ns n us is vs → Outermost ns n ts (item.Local l ∷ is) vs
  stmt_item : {n : ℕ} {ts us vs : List Token} {a : Stmt} {is : List BlockItem} → Stmt' ns n ts a us → Outermost ns n us is vs → Outermost ns n ts (item.Stmt a ∷ is) vs

-- [ "*" ]
pub data Starred : List Token → Option Pos → List Token → Type 0 where
  no_star : {us : List Token} → Starred us None us
  star : {us : List Token} {p : Pos} → Starred (mark m.Star p ∷ us) (Some p) us

-- [ name ]
pub data Nameable : List Token → Option Name → List Token → Type 0 where
  no_name : {us : List Token} → Nameable us None us
  name : {us : List Token} {p : Pos} {w : List ℕ} → Nameable (word w p ∷ us) (Some (named w p)) us

-- param = type [ "*" ] [ name ]
pub data Param' (ns : Names) : ℕ → List Token → Param → List Token → Type 0 where
  param : {n : ℕ} {ts us vs ws : List Token} {t : Specifiers} {s : Option Pos} {x : Option Name} → Specifiers' ns n ts t us → Starred us s vs → Nameable vs x ws →
      Param' ns n ts (tree.param t s x) ws

-- param { "," param } ")"
pub data ParamList (ns : Names) : ℕ → List Token → List Param → List Token → Type 0 where
  last_param : {n : ℕ} {ts us : List Token} {q : Pos} {p : Param} → Param' ns n ts p (mark m.CloseParen q ∷ us) → ParamList ns n ts (p ∷ []) us
  next_param : {n : ℕ} {ts us vs : List Token} {q : Pos} {p : Param} {ps : List Param} → Param' ns n ts p (mark m.Comma q ∷ us) →
      ParamList ns n us ps vs → ParamList ns n ts (p ∷ ps) vs

-- [ "void" | param { "," param } ] ")"        (`(void)` is the empty list)
pub data Params' (ns : Names) : ℕ → List Token → Params → List Token → Type 0 where
  empty : {n : ℕ} {us : List Token} {q : Pos} → Params' ns n (mark m.CloseParen q ∷ us) params.Empty us
  void : {n : ℕ} {us : List Token} {p q : Pos} → Params' ns n (key k.Void p ∷ mark m.CloseParen q ∷ us) params.Void us
  list : {n : ℕ} {ts us : List Token} {ps : List Param} → ParamList ns n ts ps us → is_void_alone ts ≡ false → Params' ns n ts (params.List ps) us

abbrev pub has_name : Param → Bool
has_name p = elim p.name as (λ _. Bool) [ None ↦ false | Some x ↦ true ]

-- each parameter has a name
abbrev pub all_named : Params → Bool
all_named params.Empty = true
all_named params.Void = true
all_named (params.List ps) = list_all has_name ps

-- unit = { typedef | struct ";" | global | proto | func }, where a `typedef` declares its name for what follows
pub data Units : Names → ℕ → List Token → List Item → Type 0 where
  end : {ns : Names} {n : ℕ} → Units ns n [] []
  typedef : {ns : Names} {n : ℕ} {ts us : List Token} {p q r : Pos} {w : List ℕ} {t : Specifiers} {is : List Item} →
      Specifiers' ns n ts t (word w q ∷ mark m.Semicolon r ∷ us) → Units (w ∷ ns) n us is → Units ns n (key k.Typedef p ∷ ts) (top.Typedef p t (named w q) ∷ is)
  structure : {ns : Names} {n : ℕ} {ts us : List Token} {p : Pos} {s : Struct} {is : List Item} → Struct' ns n ts s (mark m.Semicolon p ∷ us) →
      Units ns n us is → Units ns n ts (top.Struct (tree.pos_of ts) s ∷ is)
  global : {ns : Names} {n : ℕ} {ts us vs : List Token} {t : Specifiers} {ds : List InitDeclr} {is : List Item} → Specifiers' ns n ts t us →
      InitDeclrs ns n us ds vs → Units ns n vs is → Units ns n ts (top.Global t ds ∷ is)
  proto : {ns : Names} {n : ℕ} {ts us vs : List Token} {p q r : Pos} {w : List ℕ} {t : Specifiers} {ps : Params} {is : List Item} →
      Specifiers' ns (suc n) ts t (word w p ∷ mark m.OpenParen q ∷ us) → Params' ns n us ps (mark m.Semicolon r ∷ vs) → Units ns (suc n) vs is →
      Units ns (suc n) ts (top.Proto t (named w p) ps ∷ is)
  func : {ns : Names} {n : ℕ} {ts us vs ws : List Token} {p q r s : Pos} {w : List ℕ} {t : Specifiers} {ps : Params} {bs : List BlockItem} {is : List Item} →
      Specifiers' ns (suc n) ts t (word w p ∷ mark m.OpenParen q ∷ us) → Params' ns n us ps (mark m.OpenBrace r ∷ vs) → all_named ps ≡ true →
      Outermost ns n vs bs (mark m.CloseBrace s ∷ ws) → Units ns (suc n) ws is →
      Units ns (suc n) ts (top.Func t (named w p) ps (tree.block r bs s) ∷ is)

-- the tokens have this tree, in which at no token more than `n` brackets, prefix operators, choices and statements are open
abbrev pub Tree : ℕ → List Token → Source → Type 0
Tree n ts u = Units [] n ts u.items
