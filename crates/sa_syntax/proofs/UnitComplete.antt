-- Each tree of a source is what the reader reads.
use Rattle.std.proofs.Common.{◌≡◌, ◌≤◌, ◌⊎◌, inl, inr, ℕ, zero, suc, ◌<◌, List, [], ◌∷◌, ◌++◌, true, false, Option, Some, None, length, refl, sym, ap, ◌∙◌, append_assoc, append-nil, arith}
use denote.Hole.Carrier
use Rattle.sa_base.specs.declared.pos.Pos.{Pos}
use Rattle.sa_tokens.specs.declared.keyword.Keyword.{Keyword}
use Rattle.sa_tokens.specs.declared.keyword.Keyword.TheVariants as k
use Rattle.sa_tokens.specs.declared.punct.Punct.TheVariants as m
use Rattle.sa_tokens.specs.declared.token.Token.{Token}
use Rattle.sa_syntax.specs.declared.decl.Name.{Name}
use Rattle.sa_syntax.specs.declared.decl.Qualifier.{Qualifier}
use Rattle.sa_syntax.specs.declared.decl.ScalarWord.{ScalarWord}
use Rattle.sa_syntax.specs.declared.decl.Specifiers.{Specifiers}
use Rattle.sa_syntax.specs.declared.decl.Base.{Base, out-Base}
use Rattle.sa_syntax.specs.declared.decl.Base.TheVariants as b
use Rattle.sa_syntax.specs.declared.decl.Struct.{Struct}
use Rattle.sa_syntax.specs.declared.decl.Declr.{Declr}
use Rattle.sa_syntax.specs.declared.decl.Bound.{Bound}
use Rattle.sa_syntax.specs.declared.decl.InitDeclr.{InitDeclr}
use Rattle.sa_syntax.specs.declared.stmt.BlockItem.{BlockItem}
use Rattle.sa_syntax.specs.declared.unit.Param.{Param}
use Rattle.sa_syntax.specs.declared.unit.Params.{Params}
use Rattle.sa_syntax.specs.declared.unit.Params.TheVariants as given
use Rattle.sa_syntax.specs.declared.unit.Item.{Item}
use Rattle.sa_syntax.specs.declared.unit.Item.TheVariants as top
use Rattle.sa_syntax.specs.declared.unit.Unit.{Unit as Source}
use Rattle.sa_syntax.specs.Trees as tree
use Rattle.sa_syntax.specs.Words.{Names, mark, key, word, named, qualifier_of, scalar_of, is_void_alone}
use Rattle.sa_syntax.specs.Expressions.{Qualifiers, ScalarWords, Specifiers', Base', Struct', Declr', Bounds}
use Rattle.sa_syntax.specs.Statements.{InitDeclr', InitDeclrs, Starred, Nameable, Param', ParamList, Params', Units, Tree, all_named}
use Rattle.sa_syntax.specs.Reading.{Got, Deep, same_mark, sees, expect, opens, opens_any, any_name, name_at, key_at, turns}
use Rattle.sa_syntax.specs.ReadExpr.{sees_scalar}
use Rattle.sa_syntax.specs.ReadStmt as read
use Rattle.sa_syntax.specs.ReadStmt.{bodies, no_close, stmt_at, items_from, struct_of, sees_function, names_after}
use Rattle.sa_syntax.specs.ExprLaws.{EndsType}
use Rattle.sa_syntax.proofs.Front.{mark-seen, type-begins, type-no_mark, no_mark-sees, declr-ends_type}
use Rattle.sa_syntax.proofs.Shorter.{type-shorter, struct-shorter}
use Rattle.sa_syntax.proofs.ExprComplete.{type-complete}
use Rattle.sa_syntax.proofs.ReadSteps.{Loops}
use Rattle.sa_syntax.proofs.StmtShorter.{init_declrs-shorter, param-shorter, params-shorter, outermost-shorter}
use Rattle.sa_syntax.proofs.StmtFront.{equal-no_call, comma-no_call, semicolon-no_call}
use Rattle.sa_syntax.proofs.StmtSteps.{Listed, listed-last, listed-next, listed-reads}
use Rattle.sa_syntax.proofs.PartsComplete.{init_declrs-complete}
use Rattle.sa_syntax.proofs.BodySteps.{items-read}
use Rattle.sa_syntax.proofs.NearStmt.{sources_agree}
use Rattle.sa_syntax.proofs.StmtComplete.{outermost-complete}

-- ---- parameters
record EndsParam (us : List Token) : Type 0 where
  no_star : sees m.Star us ≡ false
  no_name : name_at us ≡ None
  type : EndsType us

param-comma : (p : Pos) (us : List Token) → EndsParam (mark m.Comma p ∷ us)
unfolding sees same_mark name_at key_at sees_scalar
param-comma p us = record { no_star = refl; no_name = refl; type = record { no_word = refl; no_brace = refl } }

param-close : (p : Pos) (us : List Token) → EndsParam (mark m.CloseParen p ∷ us)
unfolding sees same_mark name_at key_at sees_scalar
param-close p us = record { no_star = refl; no_name = refl; type = record { no_word = refl; no_brace = refl } }

starred-ends_type : {ts us vs : List Token} {s : Option Pos} {x : Option Name} → Starred ts s us → Nameable us x vs → EndsType vs → EndsType ts
unfolding sees same_mark key_at sees_scalar
starred-ends_type Starred.no_star Nameable.no_name e = e
starred-ends_type Starred.no_star Nameable.name e = record { no_word = refl; no_brace = refl }
starred-ends_type Starred.star x e = record { no_word = refl; no_brace = refl }

param-reads : (ns : Names) (n : ℕ) (ts us vs ws : List Token) (t : Specifiers) (s : Option Pos) (x : Option Name) → read.specifiers ns n ts ≡ Got t us → Starred us s vs → Nameable vs x ws → EndsParam ws → read.param ns n ts ≡ Got (tree.param t s x) ws
unfolding read.param sees same_mark expect any_name name_at
param-reads ns n ts us _ ws t _ _ e Starred.no_star Nameable.no_name h = rw (e, h.no_star, h.no_name) refl
param-reads ns n ts us _ ws t _ _ e Starred.no_star Nameable.name h = rw e refl
param-reads ns n ts us _ ws t _ _ e Starred.star Nameable.no_name h = rw (e, h.no_name) refl
param-reads ns n ts us _ ws t _ _ e Starred.star Nameable.name h = rw e refl

param-complete : {ns : Names} {n : ℕ} {ts : List Token} {p : Param} {us : List Token} → Param' ns n ts p us → EndsParam us → read.param ns n ts ≡ Got p us
param-complete {ns} (Param'.param {n = n} {ts = ts} {us = us} {vs = vs} {ws = ws} {t = t} {s = s} {x = x} y z w) e =
    param-reads ns n ts us vs ws t s x (type-complete y (starred-ends_type z w e.type)) z w e

comma-no_close : same_mark m.Comma m.CloseParen ≡ false
unfolding same_mark
comma-no_close = refl

param_list-complete : {ns : Names} {n : ℕ} {ts : List Token} {ps : List Param} {us : List Token} → ParamList ns n ts ps us → Listed m.CloseParen (read.param ns n) ts ps us
param_list-complete (ParamList.last_param {us = us} {q = q} x) = listed-last comma-no_close (param-complete x (param-close q us))
param_list-complete (ParamList.next_param {us = us} {q = q} x more) = listed-next (param-complete x (param-comma q us)) (let h = param-shorter x in omega arith) (param_list-complete more)

param-no_close : {ns : Names} {n : ℕ} {ts : List Token} {p : Param} {us : List Token} → Param' ns n ts p us → sees m.CloseParen ts ≡ false
param-no_close {ns} (Param'.param {ts = ts} x y z) = no_mark-sees m.CloseParen ts (type-no_mark ns ts (type-begins x))

param_list-no_close : {ns : Names} {n : ℕ} {ts : List Token} {ps : List Param} {us : List Token} → ParamList ns n ts ps us → sees m.CloseParen ts ≡ false
param_list-no_close (ParamList.last_param x) = param-no_close x
param_list-no_close (ParamList.next_param x more) = param-no_close x

empty-reads : (ns : Names) (n : ℕ) (us : List Token) (q : Pos) → read.params ns n (mark m.CloseParen q ∷ us) ≡ Got given.Empty us
unfolding read.params sees same_mark
empty-reads ns n us q = refl

void-reads : (ns : Names) (n : ℕ) (us : List Token) (p q : Pos) → read.params ns n (key k.Void p ∷ mark m.CloseParen q ∷ us) ≡ Got given.Void us
unfolding read.params sees is_void_alone
void-reads ns n us p q = refl

list-reads : (ns : Names) (n : ℕ) (ts us : List Token) (ps : List Param) → sees m.CloseParen ts ≡ false → is_void_alone ts ≡ false → Listed m.CloseParen (read.param ns n) ts ps us → read.params ns n ts ≡ Got (given.List ps) us
unfolding read.params
list-reads ns n ts us ps h i l = rw (h, i, listed-reads l) refl

params-complete : {ns : Names} {n : ℕ} {ts : List Token} {ps : Params} {us : List Token} → Params' ns n ts ps us → read.params ns n ts ≡ Got ps us
params-complete {ns} (Params'.empty {n = n} {us = us} {q = q}) = empty-reads ns n us q
params-complete {ns} (Params'.void {n = n} {us = us} {p = p} {q = q}) = void-reads ns n us p q
params-complete {ns} (Params'.list {n = n} {ts = ts} {us = us} {ps = ps} x h) = list-reads ns n ts us ps (param_list-no_close x) h (param_list-complete x)

-- ---- what begins with a type
qualifier-item : (ns : Names) (n : ℕ) (kw : Keyword) (q : Qualifier) → qualifier_of kw ≡ Some q → read.item_by ns n (Some kw) ≡ read.declared ns n
qualifier-item ns n k.Typedef q h = cc
qualifier-item ns n _ q h = refl

scalar-item : (ns : Names) (n : ℕ) (kw : Keyword) (w : ScalarWord) → scalar_of kw ≡ Some w → read.item_by ns n (Some kw) ≡ read.declared ns n
scalar-item ns n k.Typedef w h = cc
scalar-item ns n _ w h = refl

struct-item : {ns : Names} {n : ℕ} {ts : List Token} {s : Struct} {us : List Token} → Struct' ns n ts s us → read.item_by ns n (key_at ts) ≡ read.declared ns n
unfolding key_at
struct-item (Struct'.tagged f) = refl
struct-item (Struct'.plain f) = refl

base-item : {ns : Names} {n : ℕ} {ts : List Token} {x : Base} {us : List Token} → Base' ns n ts x us → read.item_by ns n (key_at ts) ≡ read.declared ns n
unfolding key_at
base-item {ns} {n} (Base'.scalar (ScalarWords.scalar_word {kw = kw} {w = w} h ws)) = scalar-item ns n kw w h
base-item Base'.void = refl
base-item Base'.tag = refl
base-item (Base'.structure s) = struct-item s
base-item (Base'.type_name h) = refl

type-item : {ns : Names} {n : ℕ} {ts : List Token} {t : Specifiers} {us : List Token} → Specifiers' ns n ts t us → read.item_by ns n (key_at ts) ≡ read.declared ns n
unfolding key_at
type-item (Specifiers'.specifiers Qualifiers.no_qualifier x) = base-item x
type-item {ns} {n} (Specifiers'.specifiers (Qualifiers.qualifier {kw = kw} {q = q} h more) x) = qualifier-item ns n kw q h

named-read : (ns : Names) (n : ℕ) (p : Pos) (t : Specifiers) (s : Option Struct) (ts : List Token) → sees m.Semicolon ts ≡ false → read.struct_or ns n p t s ts ≡ read.named_item ns n t ts
named-read ns n p t None ts h = refl
named-read ns n p t (Some s) ts h = rw h refl

declared-reads : (ns : Names) (n : ℕ) (ts us : List Token) (t : Specifiers) → read.specifiers ns n ts ≡ Got t us → read.declared ns n ts ≡ read.struct_or ns n (tree.pos_of ts) t (struct_of t) us
unfolding read.declared
declared-reads ns n ts us t e = rw e refl

-- an item that begins with a type, read from what follows it
typed-item : (ns : Names) (n : ℕ) (ts us vs : List Token) (t : Specifiers) (x : Item) → Specifiers' ns n ts t us → EndsType us → sees m.Semicolon us ≡ false → read.named_item ns n t us ≡ Got x vs → read.an_item ns n ts ≡ Got x vs
unfolding read.an_item
typed-item ns n ts us vs t x y e h i = ap (λ r. r ts) (type-item y) ∙ declared-reads ns n ts us t (type-complete y e) ∙ named-read ns n (tree.pos_of ts) t (struct_of t) us h ∙ i

-- a structure alone
struct_of-alone : (p : Pos) (s : Struct) → struct_of (tree.specifiers p [] (b.Struct s)) ≡ Some s
unfolding struct_of out-Base Carrier.out
struct_of-alone p s = refl

alone-reads : (ns : Names) (n : ℕ) (p q : Pos) (t : Specifiers) (s : Struct) (us : List Token) → read.struct_or ns n p t (Some s) (mark m.Semicolon q ∷ us) ≡ Got (top.Struct p s) us
unfolding sees same_mark
alone-reads ns n p q t s us = refl

struct-reads : (ns : Names) (n : ℕ) (ts us : List Token) (p : Pos) (s : Struct) → Struct' ns n ts s (mark m.Semicolon p ∷ us) → EndsType (mark m.Semicolon p ∷ us) → read.an_item ns n ts ≡ Got (top.Struct (tree.pos_of ts) s) us
unfolding read.an_item
struct-reads ns n ts us p s x e =
    let t = tree.specifiers (tree.pos_of ts) [] (b.Struct s) in
    ap (λ r. r ts) (struct-item x) ∙ declared-reads ns n ts (mark m.Semicolon p ∷ us) t (type-complete (Specifiers'.specifiers Qualifiers.no_qualifier (Base'.structure x)) e)
    ∙ ap (λ o. read.struct_or ns n (tree.pos_of ts) t o (mark m.Semicolon p ∷ us)) (struct_of-alone (tree.pos_of ts) s) ∙ alone-reads ns n (tree.pos_of ts) p t s us

semicolon-ends_type : (p : Pos) (us : List Token) → EndsType (mark m.Semicolon p ∷ us)
unfolding sees same_mark key_at sees_scalar
semicolon-ends_type p us = record { no_word = refl; no_brace = refl }

name-ends_type : (w : List ℕ) (p : Pos) (us : List Token) → EndsType (word w p ∷ us)
unfolding sees key_at sees_scalar
name-ends_type w p us = record { no_word = refl; no_brace = refl }

name-no_semicolon : (w : List ℕ) (p : Pos) (us : List Token) → sees m.Semicolon (word w p ∷ us) ≡ false
unfolding sees
name-no_semicolon w p us = refl

-- ---- functions
function-reads : (ns : Names) (n : ℕ) (w : List ℕ) (p q : Pos) (us vs ws : List Token) (t : Specifiers) (ps : Params) (x : Item) → read.params ns n us ≡ Got ps vs → read.ends ns (suc n) t (named w p) ps vs ≡ Got x ws →
    read.named_item ns (suc n) t (word w p ∷ mark m.OpenParen q ∷ us) ≡ Got x ws
unfolding read.named_item read.function sees_function any_name name_at opens opens_any sees same_mark
function-reads ns n w p q us vs ws t ps x e h = rw e h

proto-ends : (ns : Names) (n : ℕ) (t : Specifiers) (x : Name) (ps : Params) (r : Pos) (us : List Token) → read.ends ns n t x ps (mark m.Semicolon r ∷ us) ≡ Got (top.Proto t x ps) us
unfolding read.ends sees same_mark
proto-ends ns n t x ps r us = refl

func-ends : (ns : Names) (n : ℕ) (t : Specifiers) (x : Name) (ps : Params) (r s : Pos) (us vs : List Token) (is : List BlockItem) → all_named ps ≡ true → read.outermost ns n us ≡ Got is (mark m.CloseBrace s ∷ vs) →
    read.ends ns (suc n) t x ps (mark m.OpenBrace r ∷ us) ≡ Got (top.Func t x ps (tree.block r is s)) vs
unfolding read.ends read.body opens opens_any expect sees same_mark
func-ends ns n t x ps r s us vs is h e = rw (h, e) refl

outermost-reads : (ns : Names) (n : ℕ) (us vs : List Token) (is : List BlockItem) → Loops no_close (read.block_item ns n (bodies ns n) (stmt_at ns n)) us is vs → read.outermost ns n us ≡ Got is vs
unfolding read.outermost
outermost-reads ns n us vs is l = items-read ns n (bodies ns n) (stmt_at ns n) us vs is l

-- ---- globals
bounds-no_function : {ns : Names} {n : ℕ} {ts : List Token} {bs : List Bound} {us : List Token} → Bounds ns n ts bs us → sees m.OpenParen us ≡ false → sees m.OpenParen ts ≡ false
unfolding sees same_mark
bounds-no_function Bounds.no_bound e = e
bounds-no_function (Bounds.bound w x) e = refl

declr-no_function : {ns : Names} {n : ℕ} {ts : List Token} {d : Declr} {us : List Token} → Declr' ns n ts d us → sees m.OpenParen us ≡ false → sees_function ts ≡ false
unfolding sees_function name_at
declr-no_function (Declr'.declr x) e = bounds-no_function x e

declr-no_semicolon : {ns : Names} {n : ℕ} {ts : List Token} {d : Declr} {us : List Token} → Declr' ns n ts d us → sees m.Semicolon ts ≡ false
unfolding sees
declr-no_semicolon (Declr'.declr x) = refl

record BeginsGlobal (ts : List Token) : Type 0 where
  no_function : sees_function ts ≡ false
  no_semicolon : sees m.Semicolon ts ≡ false
  type : EndsType ts

init_declr-begins : {ns : Names} {n : ℕ} {ts : List Token} {d : InitDeclr} {us : List Token} → InitDeclr' ns n ts d us → sees m.OpenParen us ≡ false → BeginsGlobal ts
init_declr-begins (InitDeclr'.plain x) e = record { no_function = declr-no_function x e; no_semicolon = declr-no_semicolon x; type = declr-ends_type x }
init_declr-begins (InitDeclr'.with_init {us = us} {p = p} x i) e = record { no_function = declr-no_function x (equal-no_call p us); no_semicolon = declr-no_semicolon x; type = declr-ends_type x }

init_declrs-begin : {ns : Names} {n : ℕ} {ts : List Token} {ds : List InitDeclr} {us : List Token} → InitDeclrs ns n ts ds us → BeginsGlobal ts
init_declrs-begin (InitDeclrs.last_init_declr {us = us} {p = p} x) = init_declr-begins x (semicolon-no_call p us)
init_declrs-begin (InitDeclrs.next_init_declr {us = us} {p = p} x more) = init_declr-begins x (comma-no_call p us)

global-reads : (ns : Names) (n : ℕ) (ts us : List Token) (t : Specifiers) (ds : List InitDeclr) → sees_function ts ≡ false → Listed m.Semicolon (read.init_declr ns n) ts ds us → read.named_item ns n t ts ≡ Got (top.Global t ds) us
unfolding read.named_item read.global
global-reads ns n ts us t ds h l = rw (h, listed-reads l) refl

-- ---- type names
typedef-reads : (ns : Names) (n : ℕ) (ts us : List Token) (p q r : Pos) (w : List ℕ) (t : Specifiers) → read.specifiers ns n ts ≡ Got t (word w q ∷ mark m.Semicolon r ∷ us) → read.an_item ns n (key k.Typedef p ∷ ts) ≡ Got (top.Typedef p t (named w q)) us
unfolding read.an_item read.typedef key_at any_name name_at expect same_mark
typedef-reads ns n ts us p q r w t e = rw e refl

-- ---- whole sources
record Reads (ns : Names) (n : ℕ) (ts : List Token) (is : List Item) : Type 0 where
  read : (left : ℕ) → length ts < left → (found : List Item) → items_from n left ns found ts ≡ Got (found ++ is) []

end-reads : (n left : ℕ) (ns : Names) (found : List Item) → 0 < left → items_from n left ns found [] ≡ Got (found ++ []) []
unfolding items_from
end-reads n zero ns found h = absurd (omega arith)
end-reads n (suc left) ns found h = ap (λ is. Got is []) (sym (append-nil found))

next-reads : (ns : Names) (n : ℕ) (ts us : List Token) (x : Item) (is : List Item) → read.an_item ns n ts ≡ Got x us → length us < length ts → Reads (names_after ns x) n us is → (left : ℕ) → length ts < left → (found : List Item) →
    items_from n left ns found ts ≡ Got (found ++ (x ∷ is)) []
unfolding items_from
next-reads ns n [] us x is e shorter more left h found = absurd (omega arith)
next-reads ns n (t ∷ ts) us x is e shorter more zero h found = absurd (omega arith)
next-reads ns n (t ∷ ts) us x is e shorter more (suc left) h found = rw e (more.read left (omega arith) (found ++ x ∷ []) ∙ ap (λ ys. Got ys []) (append_assoc found (x ∷ []) is))

next : (ns : Names) (n : ℕ) (ts us : List Token) (x : Item) (is : List Item) → read.an_item ns n ts ≡ Got x us → length us < length ts → Reads (names_after ns x) n us is → Reads ns n ts (x ∷ is)
next ns n ts us x is e shorter more = record { read = next-reads ns n ts us x is e shorter more }

units-complete : {ns : Names} {n : ℕ} {ts : List Token} {is : List Item} → Units ns n ts is → Reads ns n ts is
units-complete (Units.end {ns = ns} {n = n}) = record { read = λ left h found. end-reads n left ns found h }
units-complete (Units.typedef {ns = ns} {n = n} {ts = ts} {us = us} {p = p} {q = q} {r = r} {w = w} {t = t} {is = is} y more) =
    next ns n (key k.Typedef p ∷ ts) us (top.Typedef p t (named w q)) is (typedef-reads ns n ts us p q r w t (type-complete y (name-ends_type w q (mark m.Semicolon r ∷ us)))) (let h = type-shorter y in omega arith) (units-complete more)
units-complete (Units.structure {ns = ns} {n = n} {ts = ts} {us = us} {p = p} {s = s} {is = is} x more) =
    next ns n ts us (top.Struct (tree.pos_of ts) s) is (struct-reads ns n ts us p s x (semicolon-ends_type p us)) (let h = struct-shorter x in omega arith) (units-complete more)
units-complete (Units.global {ns = ns} {n = n} {ts = ts} {us = us} {vs = vs} {t = t} {ds = ds} {is = is} y x more) =
    let h = init_declrs-begin x in
    next ns n ts vs (top.Global t ds) is (typed-item ns n ts us vs t (top.Global t ds) y h.type h.no_semicolon (global-reads ns n us vs t ds h.no_function (init_declrs-complete x)))
    (let i = type-shorter y in let j = init_declrs-shorter x in omega arith) (units-complete more)
units-complete (Units.proto {ns = ns} {n = n} {ts = ts} {us = us} {vs = vs} {p = p} {q = q} {r = r} {w = w} {t = t} {ps = ps} {is = is} y x more) =
    next ns (suc n) ts vs (top.Proto t (named w p) ps) is
    (typed-item ns (suc n) ts (word w p ∷ mark m.OpenParen q ∷ us) vs t (top.Proto t (named w p) ps) y (name-ends_type w p (mark m.OpenParen q ∷ us)) (name-no_semicolon w p (mark m.OpenParen q ∷ us))
    (function-reads ns n w p q us (mark m.Semicolon r ∷ vs) vs t ps (top.Proto t (named w p) ps) (params-complete x) (proto-ends ns (suc n) t (named w p) ps r vs)))
    (let i = type-shorter y in let j = params-shorter x in omega arith) (units-complete more)
units-complete (Units.func {ns = ns} {n = n} {ts = ts} {us = us} {vs = vs} {ws = ws} {p = p} {q = q} {r = r} {s = s} {w = w} {t = t} {ps = ps} {bs = bs} {is = is} y x names z more) =
    let f = top.Func t (named w p) ps (tree.block r bs s) in
    next ns (suc n) ts ws f is
    (typed-item ns (suc n) ts (word w p ∷ mark m.OpenParen q ∷ us) ws t f y (name-ends_type w p (mark m.OpenParen q ∷ us)) (name-no_semicolon w p (mark m.OpenParen q ∷ us))
    (function-reads ns n w p q us (mark m.OpenBrace r ∷ vs) ws t ps f (params-complete x) (func-ends ns n t (named w p) ps r s vs ws bs names (outermost-reads ns n vs (mark m.CloseBrace s ∷ ws) bs (outermost-complete z (mark-seen m.CloseBrace s ws))))))
    (let i = type-shorter y in let j = params-shorter x in let l = outermost-shorter z in omega arith) (units-complete more)

pub source-complete : (n : ℕ) (ts : List Token) (u : Source) → Tree n ts u → read.source n ts ≡ Got u []
unfolding read.source
source-complete n ts u x = let h = units-complete x in rw (h.read (turns ts) (omega arith) []) refl

agree-tree : (n more : ℕ) (ts : List Token) (u v : Source) → Tree n ts u → Tree more ts v → ((vs : List Token) × (read.source n ts ≡ Deep vs)) ⊎ (read.source n ts ≡ read.source more ts) → u ≡ v
agree-tree n more ts u v x y (inl d) = let e = sym (source-complete n ts u x) ∙ d.1 in cc
agree-tree n more ts u v x y (inr d) = let e = sym (source-complete n ts u x) ∙ d ∙ source-complete more ts v y in cc

either : (n more : ℕ) → (n ≤ more) ⊎ (more ≤ n)
either n more = grind arith

room-tree : (n more : ℕ) (ts : List Token) (u v : Source) → Tree n ts u → Tree more ts v → (n ≤ more) ⊎ (more ≤ n) → u ≡ v
room-tree n more ts u v x y (inl h) = agree-tree n more ts u v x y (sources_agree n more h ts)
room-tree n more ts u v x y (inr h) = sym (agree-tree more n ts v u y x (sources_agree more n h ts))

pub one-tree : (n more : ℕ) (ts : List Token) (u v : Source) → Tree n ts u → Tree more ts v → u ≡ v
one-tree n more ts u v x y = room-tree n more ts u v x y (either n more)
