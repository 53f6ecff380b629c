-- What is open in a part of a statement that goes too deep can be closed.
use Rattle.std.proofs.Common.{◌≡◌, ℕ, zero, suc, ◌-◌, List, [], ◌∷◌, ◌++◌, Bool, false, refl, sym, subst, arith, Option, Some, None}
use Rattle.sa_base.specs.declared.pos.Pos.{Pos}
use Rattle.sa_tokens.specs.declared.keyword.Keyword.{Keyword}
use Rattle.sa_tokens.specs.declared.keyword.Keyword.TheVariants as k
use Rattle.sa_tokens.specs.declared.punct.Punct.{Punct}
use Rattle.sa_tokens.specs.declared.punct.Punct.TheVariants as m
use Rattle.sa_tokens.specs.declared.token.Token.{Token}
use Rattle.sa_syntax.specs.declared.decl.Name.{Name as Named}
use Rattle.sa_syntax.specs.declared.decl.Specifiers.{Specifiers}
use Rattle.sa_syntax.specs.declared.decl.Declr.{Declr}
use Rattle.sa_syntax.specs.declared.decl.Init.{Init}
use Rattle.sa_syntax.specs.declared.decl.Init.TheVariants as init
use Rattle.sa_syntax.specs.declared.decl.Start.TheVariants as start
use Rattle.sa_syntax.specs.declared.expr.Expr.{Expr}
use Rattle.sa_syntax.specs.declared.expr.Expr.TheVariants as e
use Rattle.sa_syntax.specs.declared.expr.Place.{Place}
use Rattle.sa_syntax.specs.declared.stmt.Compound.{Compound}
use Rattle.sa_syntax.specs.declared.stmt.Update.{Update}
use Rattle.sa_syntax.specs.declared.stmt.Simple.TheVariants as simply
use Rattle.sa_syntax.specs.declared.stmt.Arg.{Arg}
use Rattle.sa_syntax.specs.declared.stmt.ArgValue.{ArgValue}
use Rattle.sa_syntax.specs.declared.stmt.ArgValue.TheVariants as value
use Rattle.sa_syntax.specs.declared.stmt.Call.{Call}
use Rattle.sa_syntax.specs.declared.stmt.Directive.{Directive}
use Rattle.sa_syntax.specs.declared.stmt.First.TheVariants as first
use Rattle.sa_syntax.specs.declared.stmt.Label.{Label}
use Rattle.sa_syntax.specs.declared.stmt.Label.TheVariants as label
use Rattle.sa_syntax.specs.declared.stmt.LocalStart.TheVariants as begins
use Rattle.sa_syntax.specs.declared.stmt.Stmt.TheVariants as s
use Rattle.sa_syntax.specs.Trees as tree
use Rattle.sa_syntax.specs.Words.{Names, mark, key, word, compound_of, update_of, begins_with_star, begins_with_label}
use Rattle.sa_syntax.specs.Expressions.{Whole, Place', Specifiers', Declr', Bounds}
use Rattle.sa_syntax.specs.Statements.{Init', Inits, InitDeclr', ArgValue', Args, Call', Simple', LocalDeclr', LocalDeclrs, Local', Directive', First', Condition', Next', Label', Labels, Stmt'}
use Rattle.sa_syntax.specs.Reading.{Parser, Deep, and_then, sees, after, expect, opens, key_at, mark_at, many, turns, pure, ◌>>=◌}
use Rattle.sa_syntax.specs.ReadExpr.{begins_type}
use Rattle.sa_syntax.specs.ReadStmt as read
use Rattle.sa_syntax.specs.ReadStmt.{Bodies, takes, within, list}
use Rattle.sa_syntax.proofs.ReadingLemmas.{map_yields, Marked, IsVariable, Keyed, key_at_is, mark_at_is}
use Rattle.sa_syntax.proofs.ExprSound.{Within}
use Rattle.sa_syntax.proofs.StmtSound as sound
use Rattle.sa_syntax.proofs.StmtSound.{InBrackets}
use Rattle.sa_syntax.proofs.NearLemmas.{wider}
use Rattle.sa_syntax.proofs.NearStmt as near
use Rattle.sa_syntax.proofs.DeepLemmas.{loosen}
use Rattle.sa_syntax.proofs.DeepStmt as fine
use Rattle.sa_syntax.proofs.ExprSound as expr_sound
use Rattle.sa_syntax.proofs.NearExpr as near_expr
use Rattle.sa_syntax.proofs.ClosingLemmas.{Closed, Calm, Good, Any, Some', calm_then, calm_if, calm_takes, calm_ends, closed_calm, closed_map, closed_if, closed_any, closed_reader, closed_then, closed_next, closed_last, closed_tail, closed_opens, opens_from, closed_many, list_closed, calm_expect, calm_variable, good_expect, good_variable, stepped}
use Rattle.sa_syntax.proofs.ClosingExpr as closing
use Rattle.sa_syntax.proofs.ClosingExpr.{spot, close, nought, fresh, fresh-is, zero-whole, letter, letter_declr, int, int_type, int-type, good_whole, good_type, good_declr, all_closed}

abbrev pub zero_expr : Expr
zero_expr = e.Number 0 false 0 false spot

module _ (ns : Names) (n : ℕ) where
  pub expr_closed : (ts : List Token) → Closed Any (Some' (Whole ns)) n ts (read.expr ns n ts)
  expr_closed ts = closed_any (closing.whole_closed ns n (λ i h. all_closed ns i) ts)

  pub place_closed : (ts : List Token) → Closed Any (Some' (Place' ns)) n ts (read.place ns n ts)
  place_closed ts = closed_any (closing.place_closed ns n (λ i h. all_closed ns i) ts)

  pub specifiers_closed : (ts : List Token) → Closed Any (Some' (Specifiers' ns)) n ts (read.specifiers ns n ts)
  specifiers_closed ts = closed_any (closing.specifiers_closed ns n (λ i h. all_closed ns i) ts)

  pub declr_closed : (ts : List Token) → Closed Any (Some' (Declr' ns)) n ts (read.declr ns n ts)
  declr_closed ts = closed_any (closing.declr_closed ns n (λ i h. all_closed ns i) ts)

pub good_place : (ns : Names) → Good (λ n. read.place ns n) (Place' ns)
good_place ns = record { fine = λ n. loosen (fine.place_fine ns n); less = wider _ (near_expr.place_at ns); sound = expr_sound.place_yields ns }

-- ---- initialisers
good_init : (ns : Names) → Good (λ n. read.init_at ns n) (Init' ns)
good_init ns = record { fine = fine.init_at_fine ns; less = wider _ (near.init_at_near ns); sound = sound.init_at_sound ns }

next_inits : (ns : Names) (more : ℕ) (ss : List Token) (i : Init) (us : List Token) (p : Pos) (vs : List Token) (is : List Init) (ws : List Token) → Init' ns more ss i us → Marked m.Comma us p vs → Inits ns more vs is ws → Inits ns more ss (i ∷ is) ws
next_inits ns more ss i _ p vs is ws j Marked.marked go = Inits.next_init j go

inits_from_closed : (ns : Names) (i : ℕ) → ((ts : List Token) → Closed Any (Some' (Init' ns)) i ts (read.init_at ns i ts)) → (left : ℕ) (found : List Init) (ts : List Token) → Closed Any (Some' (Inits ns)) i ts (read.inits_from (read.init_at ns i) left found ts)
unfolding read.inits_from
inits_from_closed ns i each zero found ts = Closed.stuck
inits_from_closed ns i each (suc left) found ts =
    closed_then (good_init ns) i ts (close m.CloseBrace ∷ []) (λ more ss x rest j. (x ∷ [], Inits.last_init j)) (each ts) (λ x us.
    closed_reader _ _ (sees m.Comma us) us
    (λ h. closed_next (good_expect m.Comma) i us (calm_expect m.Comma us) (λ p vs.
    closed_reader _ _ (sees m.CloseBrace vs) vs
    (λ g. closed_calm (calm_ends m.CloseBrace (found ++ x ∷ []) vs))
    (λ g. closed_map (λ more ws rest r us c ss j. (x ∷ (r.0), next_inits ns more ss x us p ws (r.0) rest j c (r.1))) (inits_from_closed ns i each left (found ++ x ∷ []) vs))))
    (λ h. closed_calm (calm_ends m.CloseBrace (found ++ x ∷ []) us)))

braces_closed : (ns : Names) (n : ℕ) (one : Parser Init) → ((i : ℕ) → n ≡ suc i → (ts : List Token) → Closed Any (Some' (Inits ns)) i ts (read.inits_from one (turns ts) [] ts)) → (ts : List Token) → Closed Any (Some' (Init' ns)) n ts (read.braces n one ts)
unfolding read.braces
braces_closed ns n one each ts = closed_opens (λ n p. (λ ts. read.inits_from one (turns ts) [] ts) >>= (λ is. pure (init.Braces p is))) n m.OpenBrace ts (nought ∷ close m.CloseBrace ∷ []) (λ p. tt)
    (λ more p rest. (init.Braces p (init.Value zero_expr ∷ []), Init'.braces (Inits.last_init (Init'.init_value (zero-whole ns more (close m.CloseBrace ∷ rest))))))
    (λ i h p us. closed_last i us [] (λ more vs is rest j. (init.Braces p is, Init'.braces j)) (each i h us) (λ is vs. Calm.got))

init_by_closed : (ns : Names) (n : ℕ) (one : Parser Init) → ((i : ℕ) → n ≡ suc i → (ts : List Token) → Closed Any (Some' (Inits ns)) i ts (read.inits_from one (turns ts) [] ts)) → (ts : List Token) → Closed Any (Some' (Init' ns)) n ts (read.init_by ns n one ts)
unfolding read.init_by
init_by_closed ns n one each ts = closed_if (sees m.OpenBrace ts) (λ h. braces_closed ns n one each ts)
    (λ h. closed_last n ts [] (λ more ss a rest w. (init.Value a, Init'.init_value w)) (expr_closed ns n ts) (λ a us. Calm.got))

init_at_closed : (ns : Names) (n : ℕ) (ts : List Token) → Closed Any (Some' (Init' ns)) n ts (read.init_at ns n ts)
unfolding read.init_at
init_at_closed ns zero ts = init_by_closed ns zero (λ ts. Deep ts) (λ i h. cc) ts
init_at_closed ns (suc n) ts = init_by_closed ns (suc n) (read.init_at ns n) (λ i h us. let same : n ≡ i = omega (arith, h) in
    subst (λ i. Closed Any (Some' (Inits ns)) i us (read.inits_from (read.init_at ns n) (turns us) [] us)) same (inits_from_closed ns n (init_at_closed ns n) (turns us) [] us)) ts

init_with : (ns : Names) (more : ℕ) (ss : List Token) (x : Declr) (us : List Token) (p : Pos) (vs : List Token) (i : Init) (rest : List Token) → Declr' ns more ss x us → Marked m.Equal us p vs → Init' ns more vs i rest → InitDeclr' ns more ss (tree.init_declr x (start.Init p i)) rest
init_with ns more ss x _ p vs i rest j Marked.marked go = InitDeclr'.with_init j go

pub init_declr_closed : (ns : Names) (n : ℕ) (ts : List Token) → Closed Any (Some' (InitDeclr' ns)) n ts (read.init_declr ns n ts)
unfolding read.init_declr
init_declr_closed ns n ts = closed_then (good_declr ns) n ts [] (λ more ss x rest i. (tree.init_declr x start.Nothing, InitDeclr'.plain i)) (declr_closed ns n ts) (λ x us.
    closed_if (sees m.Equal us)
    (λ h. closed_next (good_expect m.Equal) n us (calm_expect m.Equal us) (λ p vs.
    closed_last n vs [] (λ more ws i rest j us c ss d. (tree.init_declr x (start.Init p i), init_with ns more ss x us p ws i rest d c j)) (init_at_closed ns n vs) (λ i ws. Calm.got)))
    (λ h. Closed.got))

-- ---- calls
value_reference : (ns : Names) (more : ℕ) (ss : List Token) (p : Pos) (us : List Token) (x : Place) (rest : List Token) → Marked m.Ampersand ss p us → Place' ns more us x rest → ArgValue' ns more ss (value.Reference p x) rest
value_reference ns more _ p us x rest Marked.marked i = ArgValue'.reference i

good_arg : (ns : Names) → Good (λ n. read.arg_value ns n) (ArgValue' ns)
good_arg ns = record { fine = fine.arg_value_fine ns; less = wider _ (near.arg_value_near ns); sound = sound.arg_value_sound ns }

arg_value_closed : (ns : Names) (n : ℕ) (ts : List Token) → Closed Any (Some' (ArgValue' ns)) n ts (read.arg_value ns n ts)
unfolding read.arg_value
arg_value_closed ns n ts = closed_if (sees m.Ampersand ts)
    (λ h. closed_next (good_expect m.Ampersand) n ts (calm_expect m.Ampersand ts) (λ p us. closed_last n us [] (λ more vs x rest i ss c. (value.Reference p x, value_reference ns more ss p vs x rest c i)) (place_closed ns n us) (λ x vs. Calm.got)))
    (λ h. closed_last n ts [] (λ more ss a rest w. (value.Value a, ArgValue'.by_value w)) (expr_closed ns n ts) (λ a us. Calm.got))

next_args : (ns : Names) (more : ℕ) (p : Pos) (ss : List Token) (v : ArgValue) (us : List Token) (q : Pos) (vs : List Token) (xs : List Arg) (ws : List Token) → ArgValue' ns more ss v us → Marked m.Comma us q vs → Args ns more q vs xs ws → Args ns more p ss (tree.arg p v ∷ xs) ws
next_args ns more p ss v _ q vs xs ws i Marked.marked go = Args.next_arg i go

args_from_closed : (ns : Names) (n left : ℕ) (p : Pos) (found : List Arg) (ts : List Token) → Closed Any (Some' (λ more ss xs us. Args ns more p ss xs us)) n ts (read.args_from ns n left p found ts)
unfolding read.args_from
args_from_closed ns n zero p found ts = Closed.stuck
args_from_closed ns n (suc left) p found ts =
    closed_then (good_arg ns) n ts (close m.CloseParen ∷ []) (λ more ss v rest i. (tree.arg p v ∷ [], Args.last_arg i)) (arg_value_closed ns n ts) (λ v us.
    closed_if (sees m.Comma us)
    (λ h. closed_next (good_expect m.Comma) n us (calm_expect m.Comma us) (λ q vs.
    closed_map (λ more ws rest r us c ss i. (tree.arg p v ∷ (r.0), next_args ns more p ss v us q ws (r.0) rest i c (r.1))) (args_from_closed ns n left q (found ++ tree.arg p v ∷ []) vs)))
    (λ h. closed_calm (calm_ends m.CloseParen (found ++ tree.arg p v ∷ []) us)))

args_closed : (ns : Names) (p : Pos) (n : ℕ) (ts : List Token) → Closed Any (Some' (λ more ss xs us. Args ns more p ss xs us)) n ts (read.args ns p n ts)
unfolding read.args
args_closed ns p n ts = closed_if (sees m.CloseParen ts) (λ h. Closed.got) (λ h. args_from_closed ns n (turns ts) p [] ts)

call_none : (ns : Names) (more : ℕ) (ss : List Token) (x : Named) (p : Pos) (rest : List Token) → IsVariable ns ss x (mark m.OpenParen p ∷ close m.CloseParen ∷ rest) → Call' ns (suc more) ss (tree.call x []) rest
call_none ns more _ _ p rest (IsVariable.is_variable h) = Call'.no_args h

call_some : (ns : Names) (more : ℕ) (ss : List Token) (x : Named) (p : Pos) (us : List Token) (xs : List Arg) (rest : List Token) → IsVariable ns ss x (mark m.OpenParen p ∷ us) → Args ns more p us xs rest → Call' ns (suc more) ss (tree.call x xs) rest
call_some ns more _ _ p us xs rest (IsVariable.is_variable h) i = Call'.args h i

pub good_call : (ns : Names) → Good (λ n. read.call ns n) (Call' ns)
good_call ns = record { fine = λ n. loosen (fine.call_fine ns n); less = wider _ (near.call_near ns); sound = sound.call_sound ns }

pub call_closed : (ns : Names) (n : ℕ) (ts : List Token) → Closed Any (Some' (Call' ns)) n ts (read.call ns n ts)
unfolding read.call
call_closed ns n ts = closed_next (good_variable ns) n ts (calm_variable ns ts) (λ x us.
    closed_opens (λ n p. within (read.args ns p) n >>= (λ xs. pure (tree.call x xs))) n m.OpenParen us (close m.CloseParen ∷ []) (λ p. tt)
    (λ more p rest ss v. (tree.call x [], call_none ns more ss x p rest v))
    (λ i h p vs. closed_last i vs [] (λ more ws xs rest a ss v. (tree.call x xs, call_some ns more ss x p ws xs rest v a)) (args_closed ns p i vs) (λ xs ws. Calm.got)))

-- ---- assignments
data UpdateAt (t : Update) : List Token → Type 0 where
  update_at : {mk : Punct} {p : Pos} {us : List Token} → update_of mk ≡ Some t → UpdateAt t (mark mk p ∷ us)

marked_update : (t : Update) (mk : Punct) (ts : List Token) (p : Pos) (us : List Token) → Marked mk ts p us → update_of mk ≡ Some t → UpdateAt t ts
marked_update t mk _ p us Marked.marked h = UpdateAt.update_at h

update_is : (t : Update) (o : Option Punct) (ts : List Token) → mark_at ts ≡ o → read.update_in o ≡ Some t → UpdateAt t ts
update_is t None ts e h = cc
update_is t (Some mk) ts e h = let k = mark_at_is ts mk e in marked_update t mk ts (k.0) (after ts) (k.1) h

before_closed : (ns : Names) (n : ℕ) (t : Update) (ts : List Token) → UpdateAt t ts → Closed Any (Some' (Simple' ns)) n ts (read.before ns n t ts)
unfolding read.before
before_closed ns n t _ (UpdateAt.update_at {mk} {p} {us} h) = stepped (mark mk p) (closed_last n us [] (λ more vs x rest i. (simply.Before t p x, Simple'.before h i)) (place_closed ns n us) (λ x vs. Calm.got))

-- behind the place
abbrev pub Behind : Names → Place → ℕ → List Token → List Token → Type 0
Behind ns x more us rest = (ss : List Token) → Place' ns more ss x us → Some' (Simple' ns) more ss rest

compounded_marked : (ns : Names) (n : ℕ) (x : Place) (op : Compound) (mk : Punct) (ts : List Token) (p : Pos) (us : List Token) → Marked mk ts p us → compound_of mk ≡ Some op → Closed Any (Behind ns x) n ts (read.compounded ns n x (Some op) ts)
compounded_marked ns n x op mk _ p us Marked.marked h = stepped (mark mk p) (closed_last n us [] (λ more vs a rest w ss i. (simply.Compound x op p a, Simple'.compound i h w)) (expr_closed ns n us) (λ a vs. Calm.got))

compounded_closed : (ns : Names) (n : ℕ) (x : Place) (o : Option Punct) (ts : List Token) → mark_at ts ≡ o → (c : Option Compound) → read.compound_in o ≡ c → Closed Any (Behind ns x) n ts (read.compounded ns n x c ts)
compounded_closed ns n x o ts e None h = Closed.stuck
compounded_closed ns n x None ts e (Some op) h = cc
compounded_closed ns n x (Some mk) ts e (Some op) h = let k = mark_at_is ts mk e in compounded_marked ns n x op mk ts (k.0) (after ts) (k.1) h

updated_closed : (ns : Names) (n : ℕ) (star : Bool) (x : Place) (o : Option Update) (ts : List Token) → Closed Any (Behind ns x) n ts (read.updated ns n star x o ts)
updated_closed ns n star x None ts = compounded_closed ns n x (mark_at ts) ts refl (read.compound_in (mark_at ts)) refl
updated_closed ns n star x (Some t) ts = closed_calm (calm_if star Calm.stuck (calm_then (calm_takes ts) (λ p us. Calm.got)))

assign_place : (ns : Names) (more : ℕ) (x : Place) (us : List Token) (p : Pos) (vs : List Token) (a : Expr) (rest : List Token) → Marked m.Equal us p vs → Whole ns more vs a rest → (ss : List Token) → Place' ns more ss x us → Simple' ns more ss (simply.Assign x p a) rest
assign_place ns more x _ p vs a rest Marked.marked w ss i = Simple'.assign i w

pub assigned_closed : (ns : Names) (n : ℕ) (star : Bool) (x : Place) (ts : List Token) → Closed Any (Behind ns x) n ts (read.assigned ns n star x ts)
unfolding read.assigned
assigned_closed ns n star x ts = closed_if (sees m.Equal ts)
    (λ h. closed_next (good_expect m.Equal) n ts (calm_expect m.Equal ts) (λ p us. closed_last n us [] (λ more vs a rest w us c ss i. (simply.Assign x p a, assign_place ns more x us p vs a rest c w ss i)) (expr_closed ns n us) (λ a vs. Calm.got)))
    (λ h. updated_closed ns n star x (read.update_in (mark_at ts)) ts)

simple_by_closed : (ns : Names) (n : ℕ) (o : Option Update) (ts : List Token) → read.update_in (mark_at ts) ≡ o → Closed Any (Some' (Simple' ns)) n ts (read.simple_by ns n o ts)
simple_by_closed ns n (Some t) ts h = before_closed ns n t ts (update_is t (mark_at ts) ts refl h)
simple_by_closed ns n None ts h = closed_then (good_place ns) n ts (close m.Equal ∷ nought ∷ []) (λ more ss x rest i. (simply.Assign x spot zero_expr, Simple'.assign i (zero-whole ns more rest))) (place_closed ns n ts) (λ x us. assigned_closed ns n (begins_with_star ts) x us)

pub simple_closed : (ns : Names) (n : ℕ) (ts : List Token) → Closed Any (Some' (Simple' ns)) n ts (read.simple ns n ts)
unfolding read.simple
simple_closed ns n ts = simple_by_closed ns n (read.update_in (mark_at ts)) ts refl

-- ---- locals
local_init : (ns : Names) (more : ℕ) (ss : List Token) (x : Declr) (us : List Token) (p : Pos) (vs : List Token) (i : Init) (rest : List Token) → Declr' ns more ss x us → Marked m.Equal us p vs → Init' ns more vs i rest → LocalDeclr' ns more ss (tree.local_declr x (begins.Init p i)) rest
local_init ns more ss x _ p vs i rest j Marked.marked go = LocalDeclr'.with_init j go

local_call : (ns : Names) (more : ℕ) (ss : List Token) (x : Declr) (us : List Token) (p : Pos) (vs : List Token) (c : Call) (rest : List Token) → Declr' ns more ss x us → Marked m.Equal us p vs → Call' ns more vs c rest → LocalDeclr' ns more ss (tree.local_declr x (begins.Call p c)) rest
local_call ns more ss x _ p vs c rest j Marked.marked go = LocalDeclr'.with_call j go

local_start_closed : (ns : Names) (n : ℕ) (x : Declr) (us : List Token) → Closed Any (λ more us rest. (ss : List Token) → Declr' ns more ss x us → Some' (LocalDeclr' ns) more ss rest) n us (read.local_start ns n x us)
unfolding read.local_start
local_start_closed ns n x us = closed_next (good_expect m.Equal) n us (calm_expect m.Equal us) (λ p vs.
    closed_if (read.sees_call ns vs)
    (λ h. closed_last n vs [] (λ more ws c rest f us k ss d. (tree.local_declr x (begins.Call p c), local_call ns more ss x us p ws c rest d k f)) (call_closed ns n vs) (λ c ws. Calm.got))
    (λ h. closed_last n vs [] (λ more ws i rest f us k ss d. (tree.local_declr x (begins.Init p i), local_init ns more ss x us p ws i rest d k f)) (init_at_closed ns n vs) (λ i ws. Calm.got)))

good_local_declr : (ns : Names) → Good (λ n. read.local_declr ns n) (LocalDeclr' ns)
good_local_declr ns = record { fine = λ n. loosen (fine.local_declr_fine ns n); less = wider _ (near.local_declr_near ns); sound = sound.local_declr_sound ns }

local_declr_closed : (ns : Names) (n : ℕ) (ts : List Token) → Closed Any (Some' (LocalDeclr' ns)) n ts (read.local_declr ns n ts)
unfolding read.local_declr
local_declr_closed ns n ts = closed_then (good_declr ns) n ts [] (λ more ss x rest i. (tree.local_declr x begins.Nothing, LocalDeclr'.plain i)) (declr_closed ns n ts) (λ x us. closed_if (sees m.Equal us) (λ h. local_start_closed ns n x us) (λ h. Closed.got))

pub good_local : (ns : Names) → Good (λ n. read.local ns n) (Local' ns)
good_local ns = record { fine = λ n. loosen (fine.local_fine ns n); less = wider _ (near.local_near ns); sound = sound.local_sound ns }

pub local_closed : (ns : Names) (n : ℕ) (ts : List Token) → Closed Any (Some' (Local' ns)) n ts (read.local ns n ts)
unfolding read.local
local_closed ns n ts = closed_then (good_type ns) n ts (word letter spot ∷ close m.Semicolon ∷ [])
    (λ more ss t rest i. (tree.local t (tree.local_declr letter_declr begins.Nothing ∷ []), Local'.local i (LocalDeclrs.last_local (LocalDeclr'.plain (Declr'.declr Bounds.no_bound))))) (specifiers_closed ns n ts) (λ t us.
    closed_last n us [] (λ more vs ds rest j ss i. (tree.local t ds, Local'.local i j))
    (list_closed (LocalDeclr' ns) (LocalDeclrs ns) m.Semicolon (λ n. read.local_declr ns n) (good_local_declr ns) (λ more ts x p us i. LocalDeclrs.last_local i) (λ more ts x p us xs vs i go. LocalDeclrs.next_local i go) n (local_declr_closed ns n) us) (λ ds vs. Calm.got))

-- ---- directives
one_less : (k : ℕ) → suc k - 1 ≡ k
one_less k = omega arith

pub bare_closed : (ns : Names) (n : ℕ) (kw : Keyword) (x : Directive) → ((more : ℕ) (p q r s t : Pos) (us : List Token) → Directive' ns (suc (suc more)) (key kw p ∷ mark m.OpenParen q ∷ mark m.OpenParen r ∷ mark m.CloseParen s ∷ mark m.CloseParen t ∷ us) x us)
    → (ts : List Token) → Keyed kw ts → Closed Any (Some' (Directive' ns)) n ts (read.bare n x ts)
unfolding read.bare read.double_bracket
bare_closed ns n kw x make _ (Keyed.keyed {p} {us}) = stepped (key kw p) (opens_from 2 (λ n q. opens (n - 1) m.OpenParen >>= (λ r. expect m.CloseParen >>= (λ _. expect m.CloseParen >>= (λ _. pure x)))) n m.OpenParen us (close m.OpenParen ∷ close m.CloseParen ∷ close m.CloseParen ∷ []) (λ q. tt)
    (λ q rest. (x, make 0 p q spot spot spot rest))
    (λ i h q vs. subst (λ k. Closed Any (λ more vs rest. Some' (Directive' ns) (suc more) (key kw p ∷ mark m.OpenParen q ∷ vs) rest) i vs (and_then (opens k m.OpenParen vs) (λ r. expect m.CloseParen >>= (λ _. expect m.CloseParen >>= (λ _. pure x))))) (sym (one_less i))
    (closed_opens (λ i r. expect m.CloseParen >>= (λ _. expect m.CloseParen >>= (λ _. pure x))) i m.OpenParen vs (close m.CloseParen ∷ close m.CloseParen ∷ []) (λ r. tt)
    (λ more r rest. (x, make more p q r spot spot rest)) (λ j g r ws. closed_calm (calm_then (calm_expect m.CloseParen ws) (λ a xs. calm_ends m.CloseParen x xs))))))

double_closed : (ns : Names) (n : ℕ) (kw : Keyword) (f : Expr → Directive) → ((more : ℕ) (p q r s t : Pos) (ts us : List Token) (a : Expr) → Whole ns more ts a (mark m.CloseParen s ∷ mark m.CloseParen t ∷ us) → Directive' ns (suc (suc more)) (key kw p ∷ mark m.OpenParen q ∷ mark m.OpenParen r ∷ ts) (f a) us)
    → (p : Pos) (us : List Token) → Closed Any (λ more us rest. (a : Expr) × Directive' ns more (key kw p ∷ us) (f a) rest) n us (read.double_bracket n (within (within (λ n. read.expr ns n)) n) us)
unfolding read.double_bracket
double_closed ns n kw f make p us = opens_from 2 (λ n q. opens (n - 1) m.OpenParen >>= (λ r. within (within (λ n. read.expr ns n)) n >>= (λ a. expect m.CloseParen >>= (λ _. expect m.CloseParen >>= (λ _. pure a))))) n m.OpenParen us (close m.OpenParen ∷ nought ∷ close m.CloseParen ∷ close m.CloseParen ∷ []) (λ q. tt)
    (λ q rest. (zero_expr, make 0 p q spot spot spot _ rest zero_expr (zero-whole ns 0 (close m.CloseParen ∷ close m.CloseParen ∷ rest))))
    (λ i h q vs. subst (λ k. Closed Any (λ more vs rest. (a : Expr) × Directive' ns (suc more) (key kw p ∷ mark m.OpenParen q ∷ vs) (f a) rest) i vs (and_then (opens k m.OpenParen vs) (λ r. within (λ n. read.expr ns n) i >>= (λ a. expect m.CloseParen >>= (λ _. expect m.CloseParen >>= (λ _. pure a)))))) (sym (one_less i))
    (closed_opens (λ i r. within (λ n. read.expr ns n) i >>= (λ a. expect m.CloseParen >>= (λ _. expect m.CloseParen >>= (λ _. pure a)))) i m.OpenParen vs (nought ∷ close m.CloseParen ∷ close m.CloseParen ∷ []) (λ r. tt)
    (λ more r rest. (zero_expr, make more p q r spot spot _ rest zero_expr (zero-whole ns more (close m.CloseParen ∷ close m.CloseParen ∷ rest))))
    (λ j g r ws. closed_last j ws (close m.CloseParen ∷ close m.CloseParen ∷ []) (λ more xs a rest w. (a, make more p q r spot spot xs rest a w)) (expr_closed ns j ws) (λ a xs. calm_then (calm_expect m.CloseParen xs) (λ _ ys. calm_ends m.CloseParen a ys)))))

pub with_expr_closed : (ns : Names) (n : ℕ) (kw : Keyword) (f : Expr → Directive) → ((more : ℕ) (p q r s t : Pos) (ts us : List Token) (a : Expr) → Whole ns more ts a (mark m.CloseParen s ∷ mark m.CloseParen t ∷ us) → Directive' ns (suc (suc more)) (key kw p ∷ mark m.OpenParen q ∷ mark m.OpenParen r ∷ ts) (f a) us)
    → (ts : List Token) → Keyed kw ts → Closed Any (Some' (Directive' ns)) n ts (read.with_expr ns n f ts)
unfolding read.with_expr
with_expr_closed ns n kw f make _ (Keyed.keyed {p} {us}) = closed_tail n (key kw p ∷ us) [] (λ more ss rest x. (f (x.0), x.1)) (stepped {R = λ more ss rest. (a : Expr) × Directive' ns more ss (f a) rest} (key kw p) (double_closed ns n kw f make p us)) (λ a us. Calm.got)

pub ended_closed : (ns : Names) (n : ℕ) (p : Parser Directive) (ts : List Token) → Closed Any (Some' (Directive' ns)) n ts (p ts) → Closed Any (Some' (Stmt' ns)) n ts (read.ended p ts)
unfolding read.ended
ended_closed ns n p ts one = closed_last n ts (close m.Semicolon ∷ []) (λ more ss a rest i. (s.Directive (tree.pos_of ss) a, Stmt'.directive i)) one (λ a us. calm_ends m.Semicolon (s.Directive (tree.pos_of ts) a) us)

-- ---- parts of statements
pub condition_closed : (ns : Names) (n : ℕ) (ts : List Token) → Closed Any (Some' (InBrackets ns)) n ts (read.condition ns n ts)
unfolding read.condition
condition_closed ns n ts = closed_opens (λ n p. within (read.expr ns) n >>= (λ a. expect m.CloseParen >>= (λ _. pure a))) n m.OpenParen ts (nought ∷ close m.CloseParen ∷ []) (λ p. tt)
    (λ more p rest. (zero_expr, InBrackets.in_brackets (zero-whole ns more (close m.CloseParen ∷ rest))))
    (λ i h p us. closed_last i us (close m.CloseParen ∷ []) (λ more vs a rest w. (a, InBrackets.in_brackets w)) (expr_closed ns i us) (λ a vs. calm_ends m.CloseParen a vs))

pub good_condition : (ns : Names) → Good (λ n. read.condition ns n) (InBrackets ns)
good_condition ns = record { fine = λ n. loosen (fine.condition_fine ns n); less = wider _ (near.condition_near ns); sound = sound.condition_sound ns }

declares_first : (ns : Names) (more : ℕ) (ss : List Token) (t : Specifiers) (us : List Token) (x : Declr) (vs : List Token) (p : Pos) (ws : List Token) (a : Expr) (rest : List Token) → Specifiers' ns more ss t us → Declr' ns more us x vs → Marked m.Equal vs p ws → Whole ns more ws a rest
    → First' ns more ss (first.Declares t x p a) rest
declares_first ns more ss t us x _ p ws a rest i j Marked.marked w = First'.declares i j w

pub first_of_closed : (ns : Names) (n : ℕ) (ts : List Token) → Closed Any (Some' (First' ns)) n ts (read.first_of ns n ts)
unfolding read.first_of read.declares
first_of_closed ns n ts = closed_if (sees m.Semicolon ts) (λ h. Closed.got) (λ h. closed_if (begins_type ns ts)
    (λ g. closed_then (good_type ns) n ts (word letter spot ∷ close m.Equal ∷ nought ∷ []) (λ more ss t rest i. (first.Declares t letter_declr spot zero_expr, First'.declares i (Declr'.declr Bounds.no_bound) (zero-whole ns more rest))) (specifiers_closed ns n ts) (λ t us.
    closed_then (good_declr ns) n us (close m.Equal ∷ nought ∷ []) (λ more vs x rest j ss i. (first.Declares t x spot zero_expr, First'.declares i j (zero-whole ns more rest))) (declr_closed ns n us) (λ x vs.
    closed_next (good_expect m.Equal) n vs (calm_expect m.Equal vs) (λ p ws.
    closed_last n ws [] (λ more xs a rest w vs c us j ss i. (first.Declares t x p a, declares_first ns more ss t us x vs p xs a rest i j c w)) (expr_closed ns n ws) (λ a xs. Calm.got)))))
    (λ g. closed_last n ts [] (λ more ss a rest i. (first.Simple a, First'.simply i)) (simple_closed ns n ts) (λ a us. Calm.got)))

pub expr_before_closed : (ns : Names) (mk : Punct) (n : ℕ) (ts : List Token) → Closed Any (Some' (Condition' ns)) n ts (read.expr_before ns mk n ts)
unfolding read.expr_before
expr_before_closed ns mk n ts = closed_if (sees mk ts) (λ h. Closed.got) (λ h. closed_last n ts [] (λ more ss a rest w. (Some a, Condition'.while w)) (expr_closed ns n ts) (λ a us. Calm.got))

pub simple_before_closed : (ns : Names) (mk : Punct) (n : ℕ) (ts : List Token) → Closed Any (Some' (Next' ns)) n ts (read.simple_before ns mk n ts)
unfolding read.simple_before
simple_before_closed ns mk n ts = closed_if (sees mk ts) (λ h. Closed.got) (λ h. closed_last n ts [] (λ more ss a rest i. (Some a, Next'.simply i)) (simple_closed ns n ts) (λ a us. Calm.got))

pub good_first : (ns : Names) → Good (λ n. read.first_of ns n) (First' ns)
good_first ns = record { fine = fine.first_of_fine ns; less = wider _ (near.first_of_near ns); sound = sound.first_of_sound ns }

pub good_expr_before : (ns : Names) (mk : Punct) → Good (λ n. read.expr_before ns mk n) (Condition' ns)
good_expr_before ns mk = record { fine = fine.expr_before_fine ns mk; less = wider _ (near.expr_before_near ns mk); sound = λ n. sound.expr_before_sound ns n mk }

pub good_simple_before : (ns : Names) (mk : Punct) → Good (λ n. read.simple_before ns mk n) (Next' ns)
good_simple_before ns mk = record { fine = fine.simple_before_fine ns mk; less = wider _ (near.simple_before_near ns mk); sound = λ n. sound.simple_before_sound ns n mk }

case_closed : (ns : Names) (n : ℕ) (ts : List Token) → Keyed k.Case ts → Closed Any (Some' (Label' ns)) n ts (read.case ns n ts)
unfolding read.case
case_closed ns n _ (Keyed.keyed {p} {us}) = stepped (key k.Case p) (closed_last n us (close m.Colon ∷ []) (λ more vs a rest w. (label.Case p a, Label'.case w)) (expr_closed ns n us) (λ a vs. calm_ends m.Colon (label.Case p a) vs))

calm_default : (ts : List Token) → Calm (read.default ts)
unfolding read.default
calm_default ts = calm_then (calm_takes ts) (λ p us. calm_ends m.Colon (label.Default p) us)

label_by_closed : (ns : Names) (n : ℕ) (o : Option Keyword) (ts : List Token) → key_at ts ≡ o → Closed Any (Some' (Label' ns)) n ts (read.label_by ns n o ts)
label_by_closed ns n (Some k.Case) ts h = case_closed ns n ts (key_at_is ts k.Case h)
label_by_closed ns n (Some k.Default) ts h = closed_calm (calm_default ts)
label_by_closed ns n o ts h = Closed.stuck

pub a_label_closed : (ns : Names) (n : ℕ) (ts : List Token) → Closed Any (Some' (Label' ns)) n ts (read.a_label ns n ts)
unfolding read.a_label
a_label_closed ns n ts = label_by_closed ns n (key_at ts) ts refl

pub good_label : (ns : Names) → Good (λ n. read.a_label ns n) (Label' ns)
good_label ns = record { fine = λ n. loosen (fine.a_label_fine ns n); less = wider _ (near.a_label_near ns); sound = sound.a_label_sound ns }

-- more labels, where no other follows
abbrev pub MoreLabels : Names → ℕ → List Token → List Label → List Token → Type 0
MoreLabels ns more ts ls us = begins_with_label us ≡ false → (ss : List Token) (l : Label) → Label' ns more ss l ts → Labels ns more ss (l ∷ ls) us

pub more_labels_closed : (ns : Names) (n : ℕ) (ts : List Token) → Closed Any (Some' (MoreLabels ns)) n ts (many begins_with_label (read.a_label ns n) ts)
more_labels_closed ns n ts = closed_many (MoreLabels ns) (λ more us h ss l i. Labels.last_label i h) begins_with_label fine.label_ahead (λ n. read.a_label ns n) (fine.a_label_fine ns) (wider _ (near.a_label_near ns))
    (λ n ts h. map_yields (λ x us i ls vs go g ss l j. Labels.next_label j (go g ts x i)) (sound.a_label_sound ns n ts)) n
    (λ ts h. closed_map (λ more us vs x. (x.0, λ ls ws go g ss l j. Labels.next_label j (go g us (x.0) (x.1)))) (a_label_closed ns n ts)) ts
