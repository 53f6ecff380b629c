-- What is open in a source that goes too deep can be closed.
use Rattle.std.proofs.Common.{◌≡◌, ℕ, zero, suc, List, [], ◌∷◌, ◌++◌, true, false, cond, refl, sym, ap, ◌∙◌, subst, arith, append_assoc, Option, Some, None}
use Rattle.sa_base.specs.declared.pos.Pos.{Pos}
use Rattle.sa_tokens.specs.declared.keyword.Keyword.{Keyword}
use Rattle.sa_tokens.specs.declared.keyword.Keyword.TheVariants as k
use Rattle.sa_tokens.specs.declared.punct.Punct.{Punct}
use Rattle.sa_tokens.specs.declared.punct.Punct.TheVariants as m
use Rattle.sa_tokens.specs.declared.token.Word.{Word}
use Rattle.sa_tokens.specs.declared.token.Word.TheVariants.{Name, Number, Key, Mark}
use Rattle.sa_tokens.specs.declared.token.Token.{Token}
use Rattle.sa_syntax.specs.declared.decl.Name.{Name as Named}
use Rattle.sa_syntax.specs.declared.decl.Specifiers.{Specifiers}
use Rattle.sa_syntax.specs.declared.decl.Struct.{Struct}
use Rattle.sa_syntax.specs.declared.decl.Start.TheVariants as start
use Rattle.sa_syntax.specs.declared.unit.Param.{Param}
use Rattle.sa_syntax.specs.declared.unit.Params.{Params}
use Rattle.sa_syntax.specs.declared.unit.Params.TheVariants as given
use Rattle.sa_syntax.specs.declared.unit.Item.{Item}
use Rattle.sa_syntax.specs.declared.unit.Item.TheVariants as top
use Rattle.sa_syntax.specs.declared.unit.Unit.{Unit as Source}
use Rattle.sa_syntax.specs.Trees as tree
use Rattle.sa_syntax.specs.Words.{Names, mark, key, word, named, is_void_alone}
use Rattle.sa_syntax.specs.Expressions.{Specifiers', Declr', Bounds}
use Rattle.sa_syntax.specs.Statements.{all_named, InitDeclr', InitDeclrs, Param', ParamList, Params', Starred, Nameable, Outermost, Units, Tree}
use Rattle.sa_syntax.specs.Reading.{Parser, Read, Got, Deep, and_then, sees, expect, opens_any, opens, name_at, key_at, turns, ◌>>=◌}
use Rattle.sa_syntax.specs.Refusals.{Begins}
use Rattle.sa_syntax.specs.ReadExpr.{is_some}
use Rattle.sa_syntax.specs.ReadStmt as read
use Rattle.sa_syntax.specs.ReadStmt.{takes, within, list}
use Rattle.sa_syntax.specs.declared.stmt.BlockItem.{BlockItem}
use Rattle.sa_syntax.proofs.ReadingLemmas.{map_yields, Marked, Opened, opens_yields, IsWord, Keyed, key_at_is}
use Rattle.sa_syntax.proofs.RoomLemmas.{less_opens}
use Rattle.sa_syntax.proofs.NearLemmas.{wider}
use Rattle.sa_syntax.proofs.NearStmt as near
use Rattle.sa_syntax.proofs.StmtSound as stmt_sound
use Rattle.sa_syntax.proofs.UnitSound as sound
use Rattle.sa_syntax.proofs.DeepLemmas.{loosen, fine_opens}
use Rattle.sa_syntax.proofs.DeepStmt as stmt_fine
use Rattle.sa_syntax.proofs.DeepUnit as fine
use Rattle.sa_syntax.proofs.ClosingLemmas.{Closed, Calm, Good, Any, Some', calm_then, calm_if, calm_ends, closed_calm, closed_map, closed_if, closed_then, closed_next, closed_last, closed_tail, closed_opens, list_closed, calm_expect, calm_any_name, good_any_name, stepped}
use Rattle.sa_syntax.proofs.ClosingExpr as closing
use Rattle.sa_syntax.proofs.ClosingExpr.{spot, close, letter, letter_declr, good_type, all_closed, Opener, plain}
use Rattle.sa_syntax.proofs.ClosingStmt.{specifiers_closed, init_declr_closed}
use Rattle.sa_syntax.proofs.ClosingBodies.{outermost_closed}

-- ---- parameters
calm_star : (ts : List Token) → Calm (cond (sees m.Star ts) (and_then (expect m.Star ts) (λ p us. Got (Some p) us)) (Got None ts))
calm_star ts = calm_if (sees m.Star ts) (calm_then (calm_expect m.Star ts) (λ p us. Calm.got)) Calm.got

param_closed : (ns : Names) (n : ℕ) (ts : List Token) → Closed Opener (Some' (Param' ns)) n ts (read.param ns n ts)
unfolding read.param
param_closed ns n ts = closed_last n ts [] (λ more ss t rest i. (tree.param t None None, Param'.param i Starred.no_star Nameable.no_name)) (closing.specifiers_closed ns n (λ i h. all_closed ns i) ts)
    (λ t us. calm_then (calm_star us) (λ star vs. calm_if (is_some (name_at vs)) (calm_then (calm_any_name vs) (λ x ws. Calm.got)) Calm.got))

good_param : (ns : Names) → Good (λ n. read.param ns n) (Param' ns)
good_param ns = record { fine = fine.param_fine ns; less = wider _ (near.param_near ns); sound = sound.param_sound ns }

void-word : (w : Word) (p : Pos) (r s : List Token) → plain w ≡ false → let t : Token = record { word = w; pos = p } in is_void_alone (t ∷ r) ≡ is_void_alone (t ∷ s)
unfolding is_void_alone
void-word (Key j) p r s h = cc
void-word (Name v) p r s h = refl
void-word (Number v u l d) p r s h = refl
void-word (Mark j) p r s h = refl

void-same : (c : List Token) (t : Token) (r s : List Token) → Opener t → is_void_alone (c ++ t ∷ r) ≡ is_void_alone (c ++ t ∷ s)
unfolding is_void_alone
void-same [] t r s h = void-word t.word t.pos r s h
void-same (x ∷ []) t r s h = refl
void-same (x ∷ y ∷ c) t r s h = refl

in_list : {A : Type 0} (ns : Names) (n : ℕ) (ts : List Token) {x : Read (List Param)} {f : List Param → Parser A} → is_void_alone ts ≡ false → Closed Opener (Some' (ParamList ns)) n ts x → ((a : List Param) (us : List Token) → Calm (f a us)) → Closed Any (Some' (Params' ns)) n ts (and_then x f)
in_list ns n ts h (Closed.got {a} {us}) calm = closed_calm (calm a us)
in_list ns n ts h Closed.stuck calm = Closed.stuck
in_list ns n ts h (Closed.deep {t} {r} c tail more same l o w) calm = Closed.deep c tail more same l tt (λ rest. let v = w rest in
    (given.List (v.0), Params'.list (v.1) (sym (void-same c t r (tail ++ rest) o) ∙ ap is_void_alone (sym same) ∙ h)))

params_closed : (ns : Names) (n : ℕ) (ts : List Token) → Closed Any (Some' (Params' ns)) n ts (read.params ns n ts)
unfolding read.params
params_closed ns n ts = closed_if (sees m.CloseParen ts) (λ h. Closed.got) (λ h. closed_if (is_void_alone ts) (λ g. Closed.got)
    (λ g. in_list ns n ts g (list_closed (Param' ns) (ParamList ns) m.CloseParen (λ n. read.param ns n) (good_param ns) (λ more ts x p us i. ParamList.last_param i) (λ more ts x p us xs vs i go. ParamList.next_param i go) n (param_closed ns n) ts) (λ ps us. Calm.got)))

good_params : (ns : Names) → Good (λ n. read.params ns n) (Params' ns)
good_params ns = record { fine = fine.params_fine_at ns; less = wider _ (near.params_near ns); sound = sound.params_sound ns }

-- ---- items
abbrev InFront : Names → ℕ → List Token → Item → List Token → Type 0
InFront ns n ts x us = (is : List Item) → Units (read.names_after ns x) n us is → Units ns n ts (x ∷ is)

opened_marked : (mk : Punct) (n : ℕ) (ts : List Token) (p : Pos) (us : List Token) → Opened mk n ts p us → Marked mk ts p us
opened_marked mk _ _ p us Opened.opened = Marked.marked

-- where there is room for it
good_open : (mk : Punct) → Good (λ n. opens (suc n) mk) (λ n ts p us. Marked mk ts p us)
good_open mk = record { fine = λ n. loosen (fine_opens (suc n) mk); less = λ n more h ts. less_opens (suc n) (suc more) (omega (arith, h)) mk ts; sound = λ n ts. map_yields (λ p us o. opened_marked mk (suc n) ts p us o) (opens_yields (suc n) mk ts) }

calm_open : (n : ℕ) (mk : Punct) (ts : List Token) → Calm (opens (suc n) mk ts)
unfolding opens opens_any sees
calm_open n mk [] = Calm.stuck
calm_open n mk (t ∷ ts) = calm_if (sees mk (t ∷ ts)) Calm.got Calm.stuck

-- behind the type
abbrev Typed : Names → Specifiers → ℕ → List Token → List Token → Type 0
Typed ns t more us rest = (ss : List Token) → Specifiers' ns more ss t us → Some' (InFront ns) more ss rest

proto_none : (ns : Names) (more : ℕ) (ss : List Token) (t : Specifiers) (us : List Token) (x : Named) (p : Pos) (rest : List Token) → Specifiers' ns (suc more) ss t us → IsWord us x (mark m.OpenParen p ∷ close m.CloseParen ∷ close m.Semicolon ∷ rest) → Some' (InFront ns) (suc more) ss rest
proto_none ns more ss t _ _ p rest i (IsWord.is_word {w} {p = at}) = (top.Proto t (named w at) given.Empty, λ is go. Units.proto i Params'.empty go)

proto_some : (ns : Names) (more : ℕ) (ss : List Token) (t : Specifiers) (us : List Token) (x : Named) (p : Pos) (vs : List Token) (ps : Params) (rest : List Token) → Specifiers' ns (suc more) ss t us → IsWord us x (mark m.OpenParen p ∷ vs) → Params' ns more vs ps (close m.Semicolon ∷ rest) → Some' (InFront ns) (suc more) ss rest
proto_some ns more ss t _ _ p vs ps rest i (IsWord.is_word {w} {p = at}) j = (top.Proto t (named w at) ps, λ is go. Units.proto i j go)

func_some : (ns : Names) (more : ℕ) (ss : List Token) (t : Specifiers) (us : List Token) (x : Named) (p : Pos) (vs : List Token) (ps : Params) (ws : List Token) (q : Pos) (xs : List Token) (bs : List BlockItem) (rest : List Token) → all_named ps ≡ true → Specifiers' ns (suc more) ss t us → IsWord us x (mark m.OpenParen p ∷ vs)
    → Params' ns more vs ps ws → Marked m.OpenBrace ws q xs → Outermost ns more xs bs (close m.CloseBrace ∷ rest) → Some' (InFront ns) (suc more) ss rest
func_some ns more ss t _ _ p vs ps _ q xs bs rest h i (IsWord.is_word {w} {p = at}) j Marked.marked k = (top.Func t (named w at) ps (tree.block q bs spot), λ is go. Units.func i j h k go)

ends_closed : (ns : Names) (i : ℕ) (t : Specifiers) (x : Named) (p : Pos) (ps : Params) (vs : List Token)
    → Closed Any (λ more ws rest. (vs : List Token) → Params' ns more vs ps ws → (us : List Token) → IsWord us x (mark m.OpenParen p ∷ vs) → (ss : List Token) → Specifiers' ns (suc more) ss t us → Some' (InFront ns) (suc more) ss rest) i vs (read.ends ns (suc i) t x ps vs)
unfolding read.ends read.body
ends_closed ns i t x p ps vs = closed_if (sees m.Semicolon vs) (λ h. Closed.got) (λ h. closed_if (all_named ps)
    (λ g. closed_next (good_open m.OpenBrace) i vs (calm_open i m.OpenBrace vs) (λ q ws.
    closed_last i ws (close m.CloseBrace ∷ []) (λ more xs bs rest k ws m vs j us w ss s. func_some ns more ss t us x p vs ps ws q xs bs rest g s w j m k) (outermost_closed ns i ws)
    (λ bs xs. calm_then (calm_expect m.CloseBrace xs) (λ r ys. Calm.got)))) (λ g. Closed.stuck))

function_closed : (ns : Names) (n : ℕ) (t : Specifiers) (us : List Token) → Closed Any (Typed ns t) n us (read.function ns n t us)
unfolding read.function
function_closed ns n t us = closed_next good_any_name n us (calm_any_name us) (λ x vs.
    closed_opens (λ n p. within (read.params ns) n >>= (λ ps. read.ends ns n t x ps)) n m.OpenParen vs (close m.CloseParen ∷ close m.Semicolon ∷ []) (λ p. tt)
    (λ more p rest us w ss s. proto_none ns more ss t us x p rest s w)
    (λ i h p ws. closed_then (good_params ns) i ws (close m.Semicolon ∷ []) (λ more xs ps rest j us w ss s. proto_some ns more ss t us x p xs ps rest s w j) (params_closed ns i ws) (λ ps xs. ends_closed ns i t x p ps xs)))

good_init_declr : (ns : Names) → Good (λ n. read.init_declr ns n) (InitDeclr' ns)
good_init_declr ns = record { fine = λ n. loosen (stmt_fine.init_declr_fine ns n); less = wider _ (near.init_declr_near ns); sound = stmt_sound.init_declr_sound ns }

global_closed : (ns : Names) (n : ℕ) (t : Specifiers) (us : List Token) → Closed Any (Typed ns t) n us (read.global ns n t us)
unfolding read.global
global_closed ns n t us = closed_last n us [] (λ more vs ds rest j ss i. (top.Global t ds, λ is go. Units.global i j go))
    (list_closed (InitDeclr' ns) (InitDeclrs ns) m.Semicolon (λ n. read.init_declr ns n) (good_init_declr ns) (λ more ts x p us i. InitDeclrs.last_init_declr i) (λ more ts x p us xs vs i go. InitDeclrs.next_init_declr i go) n (init_declr_closed ns n) us) (λ ds vs. Calm.got)

named_item_closed : (ns : Names) (n : ℕ) (t : Specifiers) (us : List Token) → Closed Any (Typed ns t) n us (read.named_item ns n t us)
unfolding read.named_item
named_item_closed ns n t us = closed_if (read.sees_function us) (λ h. function_closed ns n t us) (λ h. global_closed ns n t us)

struct_or_closed : (ns : Names) (n : ℕ) (p : Pos) (t : Specifiers) (o : Option Struct) (us : List Token) → Closed Any (Typed ns t) n us (read.struct_or ns n p t o us)
struct_or_closed ns n p t None us = named_item_closed ns n t us
struct_or_closed ns n p t (Some x) us = closed_if (sees m.Semicolon us) (λ h. Closed.got) (λ h. named_item_closed ns n t us)

declared_closed : (ns : Names) (n : ℕ) (ts : List Token) → Closed Any (Some' (InFront ns)) n ts (read.declared ns n ts)
unfolding read.declared
declared_closed ns n ts = closed_then (good_type ns) n ts (word letter spot ∷ close m.Semicolon ∷ []) (λ more ss t rest i. (top.Global t (tree.init_declr letter_declr start.Nothing ∷ []), λ is go. Units.global i (InitDeclrs.last_init_declr (InitDeclr'.plain (Declr'.declr Bounds.no_bound))) go))
    (specifiers_closed ns n ts) (λ t us. struct_or_closed ns n (tree.pos_of ts) t (read.struct_of t) us)

typedef_closed : (ns : Names) (n : ℕ) (ts : List Token) → Keyed k.Typedef ts → Closed Any (Some' (InFront ns)) n ts (read.typedef ns n ts)
unfolding read.typedef
typedef_closed ns n _ (Keyed.keyed {p} {us}) = stepped (key k.Typedef p) (closed_last n us (word letter spot ∷ close m.Semicolon ∷ []) (λ more vs t rest i. (top.Typedef p t (named letter spot), λ is go. Units.typedef i go)) (specifiers_closed ns n us)
    (λ t vs. calm_then (calm_any_name vs) (λ x ws. calm_ends m.Semicolon (top.Typedef p t x) ws)))

item_by_closed : (ns : Names) (n : ℕ) (o : Option Keyword) (ts : List Token) → key_at ts ≡ o → Closed Any (Some' (InFront ns)) n ts (read.item_by ns n o ts)
item_by_closed ns n (Some k.Typedef) ts h = typedef_closed ns n ts (key_at_is ts k.Typedef h)
item_by_closed ns n o ts h = declared_closed ns n ts

an_item_closed : (ns : Names) (n : ℕ) (ts : List Token) → Closed Any (Some' (InFront ns)) n ts (read.an_item ns n ts)
unfolding read.an_item
an_item_closed ns n ts = item_by_closed ns n (key_at ts) ts refl

good_item : (ns : Names) → Good (λ n. read.an_item ns n) (InFront ns)
good_item ns = record { fine = λ n. loosen (fine.an_item_fine ns n); less = wider _ (near.an_item_near ns); sound = sound.an_item_sound ns }

-- ---- sources
-- a whole source, where nothing follows
abbrev Whole : Names → ℕ → List Token → List Token → Type 0
Whole ns more ts rest = rest ≡ [] → (is : List Item) × Units ns more ts is

items_closed : (n left : ℕ) (ns : Names) (found : List Item) (ts : List Token) → Closed Any (Whole ns) n ts (read.items_from n left ns found ts)
unfolding read.items_from
items_closed n zero ns found ts = Closed.stuck
items_closed n (suc left) ns found [] = Closed.got
items_closed n (suc left) ns found (t ∷ ts) = closed_then (good_item ns) n (t ∷ ts) [] (λ more ss x rest go e. (x ∷ [], go [] (subst (λ z. Units (read.names_after ns x) more z []) (sym e) Units.end))) (an_item_closed ns n (t ∷ ts)) (λ x us.
    closed_map (λ more vs rest r ss go e. let k = r e in (x ∷ (k.0), go (k.0) (k.1))) (items_closed n left (read.names_after ns x) (found ++ x ∷ []) us))

source_closed : (n : ℕ) (ts : List Token) → Closed Any (Whole []) n ts (read.source n ts)
unfolding read.source
source_closed n ts = closed_tail n ts [] (λ more ss rest w. w) (items_closed n (turns ts) [] [] ts) (λ is us. Calm.got)

-- ---- what a refusal for depth says
append_none : (xs : List Token) → xs ++ [] ≡ xs
append_none [] = refl
append_none (x ∷ xs) = ap (λ z. x ∷ z) (append_none xs)

-- some text begins with the tokens up to the one that is told
pub record Reached (ts us : List Token) : Type 0 where
  pub before : List Token
  pub token : Token
  pub behind : List Token
  pub is : ts ≡ before ++ token ∷ behind
  pub told : us ≡ token ∷ behind
  pub begins : Begins (before ++ token ∷ [])

too_deep : (n : ℕ) (ts us : List Token) (x : Read Source) → x ≡ Deep us → Closed Any (Whole []) n ts x → Reached ts us
too_deep n ts us _ e Closed.got = cc
too_deep n ts us _ e Closed.stuck = cc
too_deep n ts us _ e (Closed.deep {t} {r} b tail more same h o w) =
    let us_is : us ≡ t ∷ r = cc in
    let v = w [] refl in
    let begins : Tree more (b ++ t ∷ tail) (tree.source (v.0)) = subst (λ z. Tree more (b ++ t ∷ z) (tree.source (v.0))) (append_none tail) (v.1) in
    let whole : Tree more ((b ++ t ∷ []) ++ tail) (tree.source (v.0)) = subst (λ z. Tree more z (tree.source (v.0))) (sym (append_assoc b (t ∷ []) tail)) begins in
    record { before = b; token = t; behind = r; is = same; told = us_is; begins = (more, tail, tree.source (v.0), whole) }

pub reached : (n : ℕ) (ts us : List Token) → read.source n ts ≡ Deep us → Reached ts us
reached n ts us e = too_deep n ts us (read.source n ts) e (source_closed n ts)
