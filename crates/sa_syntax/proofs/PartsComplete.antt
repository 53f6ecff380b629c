-- What the grammar of initialisers, calls, assignments, locals and labels has is what the reader reads.
use Rattle.std.proofs.Common.{◌≡◌, ℕ, List, [], ◌∷◌, true, false, refl, arith}
use Rattle.sa_base.specs.declared.pos.Pos.{Pos}
use Rattle.sa_tokens.specs.declared.punct.Punct.TheVariants as m
use Rattle.sa_tokens.specs.declared.token.Token.{Token}
use Rattle.sa_syntax.specs.declared.decl.Init.{Init}
use Rattle.sa_syntax.specs.declared.decl.InitDeclr.{InitDeclr}
use Rattle.sa_syntax.specs.declared.stmt.Simple.{Simple}
use Rattle.sa_syntax.specs.declared.stmt.Simple.TheVariants as simply
use Rattle.sa_syntax.specs.declared.stmt.Call.{Call}
use Rattle.sa_syntax.specs.declared.stmt.Arg.{Arg}
use Rattle.sa_syntax.specs.declared.stmt.ArgValue.{ArgValue}
use Rattle.sa_syntax.specs.declared.stmt.Label.{Label}
use Rattle.sa_syntax.specs.declared.stmt.Local.{Local}
use Rattle.sa_syntax.specs.declared.stmt.LocalDeclr.{LocalDeclr}
use Rattle.sa_syntax.specs.Words.{Names, mark, compound_of, update_of, begins_with_star, begins_with_label}
use Rattle.sa_syntax.specs.Statements.{Init', Inits, InitDeclr', InitDeclrs, ArgValue', Args, Call', Simple', LocalDeclr', LocalDeclrs, Local', Label', Labels}
use Rattle.sa_syntax.specs.Reading.{Got, same_mark, sees}
use Rattle.sa_syntax.specs.ReadStmt as read
use Rattle.sa_syntax.specs.ReadStmt.{init_at}
use Rattle.sa_syntax.specs.ExprLaws.{EndsExpr, EndsType}
use Rattle.sa_syntax.proofs.Front.{declr-ends_type, ends-close_paren, ends-colon}
use Rattle.sa_syntax.proofs.ExprComplete.{whole-complete, place-complete, type-complete, declr-complete}
use Rattle.sa_syntax.proofs.ReadSteps.{Loops, loop-stops, loop-goes}
use Rattle.sa_syntax.proofs.StmtShorter.{init-shorter, init_declr-shorter, arg_value-shorter, local_declr-shorter, label-shorter}
use Rattle.sa_syntax.proofs.StmtFront.{whole-no_mark, place-no_update, init-no_call, call-seen, init-no_close, args-no_close, ends-comma, ends-semicolon, ends-close_brace, equal-no_step, mark-no_step}
use Rattle.sa_syntax.proofs.StmtSteps.{Listed, listed-last, listed-next, Started, started-last, started-comma, started-next, init_value-reads, braces-reads, plain_declr-reads, init_declr-reads, arg-reads, reference-reads, Given, given-last, given-next, no_args-read, args-read, call-reads, assign-reads, compound-reads, update-reads, before-reads, placed-reads, plain_local-reads, init_local-reads, call_local-reads, local-reads, case-reads, default-reads}

-- ---- marks
comma-no_semicolon : same_mark m.Comma m.Semicolon ≡ false
unfolding same_mark
comma-no_semicolon = refl

-- what may follow a declared name and what it begins with
pub record EndsItem (us : List Token) : Type 0 where
  pub expr : EndsExpr us
  pub no_bound : sees m.OpenBracket us ≡ false
  pub no_equal : sees m.Equal us ≡ false
  pub no_call : sees m.OpenParen us ≡ false

pub item-comma : (p : Pos) (us : List Token) → EndsItem (mark m.Comma p ∷ us)
unfolding sees same_mark
item-comma p us = record { expr = ends-comma p us; no_bound = refl; no_equal = refl; no_call = refl }

pub item-semicolon : (p : Pos) (us : List Token) → EndsItem (mark m.Semicolon p ∷ us)
unfolding sees same_mark
item-semicolon p us = record { expr = ends-semicolon p us; no_bound = refl; no_equal = refl; no_call = refl }

pub equal-no_bound : (p : Pos) (us : List Token) → sees m.OpenBracket (mark m.Equal p ∷ us) ≡ false
unfolding sees same_mark
equal-no_bound p us = refl

-- ---- initialisers
inits-no_close : {ns : Names} {n : ℕ} {ts : List Token} {is : List Init} {us : List Token} → Inits ns n ts is us → sees m.CloseBrace ts ≡ false
inits-no_close (Inits.last_init i) = init-no_close i
inits-no_close (Inits.last_comma i) = init-no_close i
inits-no_close (Inits.next_init i is) = init-no_close i

mutual
  pub init-complete : {ns : Names} {n : ℕ} {ts : List Token} {i : Init} {us : List Token} → Init' ns n ts i us → EndsExpr us → init_at ns n ts ≡ Got i us
  init-complete {ns} (Init'.init_value {n = n} {ts = ts} {us = us} {a = a} w) e = init_value-reads ns n ts us a (whole-no_mark w m.OpenBrace refl) (whole-complete w e)
  init-complete {ns} (Init'.braces {n = n} {ts = ts} {us = us} {p = p} {is = is} l) e = braces-reads ns n ts us p is (inits-complete l)

  pub inits-complete : {ns : Names} {n : ℕ} {ts : List Token} {is : List Init} {us : List Token} → Inits ns n ts is us → Started (init_at ns n) ts is us
  inits-complete (Inits.last_init {us = us} {q = q} i) = started-last (init-complete i (ends-close_brace q us))
  inits-complete (Inits.last_comma {us = us} {p = p} {q = q} i) = started-comma (init-complete i (ends-comma p (mark m.CloseBrace q ∷ us)))
  inits-complete (Inits.next_init {us = us} {p = p} i is) = started-next (init-complete i (ends-comma p us)) (inits-no_close is) (let h = init-shorter i in omega arith) (inits-complete is)

pub init_declr-complete : {ns : Names} {n : ℕ} {ts : List Token} {d : InitDeclr} {us : List Token} → InitDeclr' ns n ts d us → EndsItem us → read.init_declr ns n ts ≡ Got d us
init_declr-complete {ns} (InitDeclr'.plain {n = n} {ts = ts} {us = us} {d = d} x) e = plain_declr-reads ns n ts us d (declr-complete x e.no_bound) e.no_equal
init_declr-complete {ns} (InitDeclr'.with_init {n = n} {ts = ts} {us = us} {vs = vs} {p = p} {d = d} {i = i} x y) e =
    init_declr-reads ns n ts us vs p d i (declr-complete x (equal-no_bound p us)) (init-complete y e.expr)

pub init_declrs-complete : {ns : Names} {n : ℕ} {ts : List Token} {ds : List InitDeclr} {us : List Token} → InitDeclrs ns n ts ds us → Listed m.Semicolon (read.init_declr ns n) ts ds us
init_declrs-complete (InitDeclrs.last_init_declr {us = us} {p = p} d) = listed-last comma-no_semicolon (init_declr-complete d (item-semicolon p us))
init_declrs-complete (InitDeclrs.next_init_declr {us = us} {p = p} d ds) = listed-next (init_declr-complete d (item-comma p us)) (let h = init_declr-shorter d in omega arith) (init_declrs-complete ds)

-- ---- calls
pub arg_value-complete : {ns : Names} {n : ℕ} {ts : List Token} {v : ArgValue} {us : List Token} → ArgValue' ns n ts v us → EndsExpr us → read.arg_value ns n ts ≡ Got v us
arg_value-complete {ns} (ArgValue'.by_value {n = n} {ts = ts} {us = us} {a = a} w) e = arg-reads ns n ts us a (whole-no_mark w m.Ampersand refl) (whole-complete w e)
arg_value-complete {ns} (ArgValue'.reference {n = n} {ts = ts} {us = us} {p = p} {x = x} w) e = reference-reads ns n ts us p x (place-complete w e.no_step)

pub args-complete : {ns : Names} {n : ℕ} {p : Pos} {ts : List Token} {xs : List Arg} {us : List Token} → Args ns n p ts xs us → Given ns n p ts xs us
args-complete {ns} (Args.last_arg {n = n} {ts = ts} {us = us} {p = p} {q = q} {v = v} x) = given-last ns n p q ts us v (arg_value-complete x (ends-close_paren q us))
args-complete {ns} (Args.next_arg {n = n} {ts = ts} {us = us} {vs = vs} {p = p} {q = q} {v = v} {xs = xs} x more) =
    given-next ns n p q ts us vs v xs (arg_value-complete x (ends-comma q us)) (let h = arg_value-shorter x in omega arith) (args-complete more)

pub call-complete : {ns : Names} {n : ℕ} {ts : List Token} {c : Call} {us : List Token} → Call' ns n ts c us → read.call ns n ts ≡ Got c us
call-complete {ns} (Call'.no_args {n = n} {us = us} {p = p} {q = q} {r = r} {w = w} h) = call-reads ns n (mark m.CloseParen r ∷ us) us p q w [] h (no_args-read ns n q r us)
call-complete {ns} (Call'.args {n = n} {ts = ts} {us = us} {p = p} {q = q} {w = w} {xs = xs} h a) = call-reads ns n ts us p q w xs h (args-read ns n q ts us xs (args-no_close a) (args-complete a))

-- ---- assignments
pub simple-complete : {ns : Names} {n : ℕ} {ts : List Token} {a : Simple} {us : List Token} → Simple' ns n ts a us → EndsExpr us → read.simple ns n ts ≡ Got a us
simple-complete {ns} (Simple'.assign {n = n} {ts = ts} {us = us} {vs = vs} {p = p} {x = x} {a = a} l w) e =
    placed-reads ns n ts (mark m.Equal p ∷ us) vs x (simply.Assign x p a) (place-no_update l) (place-complete l (equal-no_step p us)) (assign-reads ns n (begins_with_star ts) x us vs p a (whole-complete w e))
simple-complete {ns} (Simple'.compound {n = n} {ts = ts} {us = us} {vs = vs} {p = p} {mk = mk} {op = op} {x = x} {a = a} l h w) e =
    placed-reads ns n ts (mark mk p ∷ us) vs x (simply.Compound x op p a) (place-no_update l) (place-complete l (mark-no_step compound_of mk op p us h refl refl refl))
    (compound-reads ns n (begins_with_star ts) x us vs p mk op a h (whole-complete w e))
simple-complete {ns} (Simple'.after {n = n} {ts = ts} {us = us} {p = p} {mk = mk} {t = t} {x = x} l h star) e =
    placed-reads ns n ts (mark mk p ∷ us) us x (simply.After x t p) (place-no_update l) (place-complete l (mark-no_step update_of mk t p us h refl refl refl))
    (update-reads ns n (begins_with_star ts) x us p mk t star h)
simple-complete {ns} (Simple'.before {n = n} {ts = ts} {us = us} {p = p} {mk = mk} {t = t} {x = x} h l) e = before-reads ns n ts us p mk t x h (place-complete l e.no_step)

-- ---- locals
pub local_declr-complete : {ns : Names} {n : ℕ} {ts : List Token} {d : LocalDeclr} {us : List Token} → LocalDeclr' ns n ts d us → EndsItem us → read.local_declr ns n ts ≡ Got d us
local_declr-complete {ns} (LocalDeclr'.plain {n = n} {ts = ts} {us = us} {d = d} x) e = plain_local-reads ns n ts us d (declr-complete x e.no_bound) e.no_equal
local_declr-complete {ns} (LocalDeclr'.with_init {n = n} {ts = ts} {us = us} {vs = vs} {p = p} {d = d} {i = i} x y) e =
    init_local-reads ns n ts us vs p d i (declr-complete x (equal-no_bound p us)) (init-no_call y e.no_call) (init-complete y e.expr)
local_declr-complete {ns} (LocalDeclr'.with_call {n = n} {ts = ts} {us = us} {vs = vs} {p = p} {d = d} {c = c} x y) e =
    call_local-reads ns n ts us vs p d c (declr-complete x (equal-no_bound p us)) (call-seen y) (call-complete y)

pub local_declrs-complete : {ns : Names} {n : ℕ} {ts : List Token} {ds : List LocalDeclr} {us : List Token} → LocalDeclrs ns n ts ds us → Listed m.Semicolon (read.local_declr ns n) ts ds us
local_declrs-complete (LocalDeclrs.last_local {us = us} {p = p} d) = listed-last comma-no_semicolon (local_declr-complete d (item-semicolon p us))
local_declrs-complete (LocalDeclrs.next_local {us = us} {p = p} d ds) = listed-next (local_declr-complete d (item-comma p us)) (let h = local_declr-shorter d in omega arith) (local_declrs-complete ds)

local_declr-ends_type : {ns : Names} {n : ℕ} {ts : List Token} {d : LocalDeclr} {us : List Token} → LocalDeclr' ns n ts d us → EndsType ts
local_declr-ends_type (LocalDeclr'.plain d) = declr-ends_type d
local_declr-ends_type (LocalDeclr'.with_init d i) = declr-ends_type d
local_declr-ends_type (LocalDeclr'.with_call d c) = declr-ends_type d

local_declrs-ends_type : {ns : Names} {n : ℕ} {ts : List Token} {ds : List LocalDeclr} {us : List Token} → LocalDeclrs ns n ts ds us → EndsType ts
local_declrs-ends_type (LocalDeclrs.last_local d) = local_declr-ends_type d
local_declrs-ends_type (LocalDeclrs.next_local d ds) = local_declr-ends_type d

pub local-complete : {ns : Names} {n : ℕ} {ts : List Token} {l : Local} {us : List Token} → Local' ns n ts l us → read.local ns n ts ≡ Got l us
local-complete {ns} (Local'.local {n = n} {ts = ts} {us = us} {vs = vs} {t = t} {ds = ds} x y) = local-reads ns n ts us vs t ds (type-complete x (local_declrs-ends_type y)) (local_declrs-complete y)

-- ---- labels
pub label-complete : {ns : Names} {n : ℕ} {ts : List Token} {l : Label} {us : List Token} → Label' ns n ts l us → read.a_label ns n ts ≡ Got l us
label-complete {ns} (Label'.case {n = n} {ts = ts} {us = us} {p = p} {q = q} {a = a} w) = case-reads ns n ts us p q a (whole-complete w (ends-colon q us))
label-complete {ns} (Label'.default {n = n} {us = us} {p = p} {q = q}) = default-reads ns n us p q

pub label-begins : {ns : Names} {n : ℕ} {ts : List Token} {l : Label} {us : List Token} → Label' ns n ts l us → begins_with_label ts ≡ true
label-begins (Label'.case w) = refl
label-begins Label'.default = refl

pub labels-complete : {ns : Names} {n : ℕ} {ts : List Token} {ls : List Label} {us : List Token} → Labels ns n ts ls us → Loops begins_with_label (read.a_label ns n) ts ls us
labels-complete (Labels.last_label l h) = loop-goes (label-begins l) (label-complete l) (label-shorter l) (loop-stops h)
labels-complete (Labels.next_label l ls) = loop-goes (label-begins l) (label-complete l) (label-shorter l) (labels-complete ls)
