-- What initialisers, statements and functions can begin with, and what goes on no further.
use Rattle.std.proofs.Common.{◌≡◌, ℕ, List, ◌∷◌, Bool, true, false, Option, Some, None, refl, sym, ap, ◌∙◌}
use Rattle.std.proofs.lemmas.Bool.{false_from_ne_true}
use Rattle.sa_base.specs.declared.pos.Pos.{Pos}
use Rattle.sa_tokens.specs.declared.punct.Punct.{Punct}
use Rattle.sa_tokens.specs.declared.punct.Punct.TheVariants as m
use Rattle.sa_tokens.specs.declared.token.Token.{Token}
use Rattle.sa_syntax.specs.declared.decl.Init.{Init}
use Rattle.sa_syntax.specs.declared.expr.Expr.{Expr}
use Rattle.sa_syntax.specs.declared.expr.Link.{Link}
use Rattle.sa_syntax.specs.declared.expr.Place.{Place}
use Rattle.sa_syntax.specs.declared.expr.Prefix.{Prefix}
use Rattle.sa_syntax.specs.declared.expr.Step.{Step}
use Rattle.sa_syntax.specs.declared.stmt.Arg.{Arg}
use Rattle.sa_syntax.specs.declared.stmt.ArgValue.{ArgValue}
use Rattle.sa_syntax.specs.declared.stmt.Call.{Call}
use Rattle.sa_syntax.specs.declared.stmt.Compound.{Compound}
use Rattle.sa_syntax.specs.declared.stmt.Directive.{Directive}
use Rattle.sa_syntax.specs.declared.stmt.Simple.{Simple}
use Rattle.sa_syntax.specs.declared.stmt.Stmt.{Stmt}
use Rattle.sa_syntax.specs.Words.{Names, mark, prefix_of, compound_of, update_of, begins_with_label}
use Rattle.sa_syntax.specs.Expressions.{Whole, Ranked, Links, Unary, Place', Steps}
use Rattle.sa_syntax.specs.Statements.{Init', ArgValue', Args, Call', Simple', Directive', Stmt'}
use Rattle.sa_syntax.specs.Reading.{same_mark, sees, name_at, key_at, mark_at}
use Rattle.sa_syntax.specs.ReadExpr.{sees_step, sees_qualifier, sees_scalar, begins_type}
use Rattle.sa_syntax.specs.ReadStmt.{sees_call, update_in}
use Rattle.sa_syntax.specs.ExprLaws.{EndsExpr}
use Rattle.sa_syntax.proofs.Front.{same_mark-true, operator-no_mark}

-- ---- marks
-- what such a mark stands for is not what that one stands for
pub mark-no : {A : Type 0} (f : Punct → Option A) (a mk : Punct) (x : A) → f mk ≡ Some x → f a ≡ None → same_mark a mk ≡ false
mark-no f a mk x h none = false_from_ne_true (same_mark a mk) (λ y. let e = sym none ∙ ap f (same_mark-true a mk y) ∙ h in cc)

pub compound-no_update : (mk : Punct) (op : Compound) → compound_of mk ≡ Some op → update_of mk ≡ None
compound-no_update m.PlusPlus op h = cc
compound-no_update m.MinusMinus op h = cc
compound-no_update _ op h = refl

-- ---- what an expression begins with
abbrev pub begins_expr : Punct → Bool
begins_expr m.Minus = true
begins_expr m.Plus = true
begins_expr m.Tilde = true
begins_expr m.Bang = true
begins_expr m.OpenParen = true
begins_expr m.Star = true
begins_expr _ = false

prefix-begins : (mk : Punct) (op : Prefix) → prefix_of mk ≡ Some op → begins_expr mk ≡ true
prefix-begins m.Minus op h = refl
prefix-begins m.Plus op h = refl
prefix-begins m.Tilde op h = refl
prefix-begins m.Bang op h = refl
prefix-begins _ op h = cc

begins-other : (a mk : Punct) → begins_expr mk ≡ true → begins_expr a ≡ false → same_mark a mk ≡ false
begins-other a mk h other = false_from_ne_true (same_mark a mk) (λ y. let e = sym other ∙ ap begins_expr (same_mark-true a mk y) ∙ h in cc)

pub place-no_mark : {ns : Names} {n : ℕ} {ts : List Token} {x : Place} {us : List Token} → Place' ns n ts x us → (a : Punct) → begins_expr a ≡ false → sees a ts ≡ false
unfolding sees
place-no_mark (Place'.name h s) a other = refl
place-no_mark (Place'.through h s) a other = begins-other a m.OpenParen refl other
place-no_mark (Place'.star h) a other = begins-other a m.Star refl other

pub unary-no_mark : {ns : Names} {n : ℕ} {ts : List Token} {x : Expr} {us : List Token} → Unary ns n ts x us → (a : Punct) → begins_expr a ≡ false → sees a ts ≡ false
unfolding sees
unary-no_mark (Unary.prefix {mk = mk} {op = op} h u) a other = begins-other a mk (prefix-begins mk op h) other
unary-no_mark (Unary.cast t u) a other = begins-other a m.OpenParen refl other
unary-no_mark Unary.number a other = refl
unary-no_mark (Unary.place p) a other = place-no_mark p a other
unary-no_mark (Unary.bracket w h) a other = begins-other a m.OpenParen refl other

pub ranked-no_mark : {ns : Names} {n l : ℕ} {ts : List Token} {x : Expr} {us : List Token} → Ranked ns n l ts x us → (a : Punct) → begins_expr a ≡ false → sees a ts ≡ false
ranked-no_mark (Ranked.unary u) a other = unary-no_mark u a other
ranked-no_mark (Ranked.alone r) a other = ranked-no_mark r a other
ranked-no_mark (Ranked.chain r xs) a other = ranked-no_mark r a other

pub whole-no_mark : {ns : Names} {n : ℕ} {ts : List Token} {x : Expr} {us : List Token} → Whole ns n ts x us → (a : Punct) → begins_expr a ≡ false → sees a ts ≡ false
whole-no_mark (Whole.binary r) a other = ranked-no_mark r a other
whole-no_mark (Whole.choice c x y) a other = ranked-no_mark c a other

pub place-no_update : {ns : Names} {n : ℕ} {ts : List Token} {x : Place} {us : List Token} → Place' ns n ts x us → update_in (mark_at ts) ≡ None
unfolding mark_at
place-no_update (Place'.name h s) = refl
place-no_update (Place'.through h s) = refl
place-no_update (Place'.star h) = refl

-- ---- no expression begins as a call does, unless one goes on as a call
steps-no_call : {ns : Names} {n : ℕ} {ts : List Token} {ss : List Step} {us : List Token} → Steps ns n ts ss us → sees m.OpenParen us ≡ false → sees m.OpenParen ts ≡ false
unfolding sees same_mark
steps-no_call Steps.no_step e = e
steps-no_call (Steps.index w s) e = refl
steps-no_call (Steps.dot s) e = refl
steps-no_call (Steps.arrow s) e = refl

pub place-no_call : {ns : Names} {n : ℕ} {ts : List Token} {x : Place} {us : List Token} → Place' ns n ts x us → sees m.OpenParen us ≡ false → sees_call ns ts ≡ false
unfolding sees_call name_at
place-no_call (Place'.name h s) e = rw h (steps-no_call s e)
place-no_call (Place'.through h s) e = refl
place-no_call (Place'.star h) e = refl

unary-no_call : {ns : Names} {n : ℕ} {ts : List Token} {x : Expr} {us : List Token} → Unary ns n ts x us → sees m.OpenParen us ≡ false → sees_call ns ts ≡ false
unfolding sees_call name_at
unary-no_call (Unary.prefix h u) e = refl
unary-no_call (Unary.cast t u) e = refl
unary-no_call Unary.number e = refl
unary-no_call (Unary.place p) e = place-no_call p e
unary-no_call (Unary.bracket w h) e = refl

links-no_call : {ns : Names} {n l : ℕ} {ts : List Token} {xs : List Link} {us : List Token} → Links ns n l ts xs us → sees m.OpenParen us ≡ false → sees m.OpenParen ts ≡ false
unfolding sees
links-no_call Links.no_link e = e
links-no_call (Links.link {mk = mk} {op = op} o h r xs) e = operator-no_mark m.OpenParen mk op o refl

ranked-no_call : {ns : Names} {n l : ℕ} {ts : List Token} {x : Expr} {us : List Token} → Ranked ns n l ts x us → sees m.OpenParen us ≡ false → sees_call ns ts ≡ false
ranked-no_call (Ranked.unary u) e = unary-no_call u e
ranked-no_call (Ranked.alone r) e = ranked-no_call r e
ranked-no_call (Ranked.chain r xs) e = ranked-no_call r (links-no_call xs e)

pub whole-no_call : {ns : Names} {n : ℕ} {ts : List Token} {x : Expr} {us : List Token} → Whole ns n ts x us → sees m.OpenParen us ≡ false → sees_call ns ts ≡ false
unfolding sees same_mark
whole-no_call (Whole.binary r) e = ranked-no_call r e
whole-no_call (Whole.choice c x y) e = ranked-no_call c refl

pub init-no_call : {ns : Names} {n : ℕ} {ts : List Token} {i : Init} {us : List Token} → Init' ns n ts i us → sees m.OpenParen us ≡ false → sees_call ns ts ≡ false
unfolding sees_call name_at
init-no_call (Init'.init_value w) e = whole-no_call w e
init-no_call (Init'.braces is) e = refl

pub call-seen : {ns : Names} {n : ℕ} {ts : List Token} {c : Call} {us : List Token} → Call' ns n ts c us → sees_call ns ts ≡ true
unfolding sees_call name_at sees same_mark
call-seen (Call'.no_args h) = rw h refl
call-seen (Call'.args h xs) = rw h refl

-- ---- closing marks do not begin what they close
pub init-no_close : {ns : Names} {n : ℕ} {ts : List Token} {i : Init} {us : List Token} → Init' ns n ts i us → sees m.CloseBrace ts ≡ false
unfolding sees same_mark
init-no_close (Init'.init_value w) = whole-no_mark w m.CloseBrace refl
init-no_close (Init'.braces is) = refl

pub arg_value-no_close : {ns : Names} {n : ℕ} {ts : List Token} {v : ArgValue} {us : List Token} → ArgValue' ns n ts v us → sees m.CloseParen ts ≡ false
unfolding sees same_mark
arg_value-no_close (ArgValue'.by_value w) = whole-no_mark w m.CloseParen refl
arg_value-no_close (ArgValue'.reference p) = refl

pub args-no_close : {ns : Names} {n : ℕ} {p : Pos} {ts : List Token} {xs : List Arg} {us : List Token} → Args ns n p ts xs us → sees m.CloseParen ts ≡ false
args-no_close (Args.last_arg v) = arg_value-no_close v
args-no_close (Args.next_arg v xs) = arg_value-no_close v

-- ---- what a statement begins with
pub record BeginsStmt (ns : Names) (ts : List Token) : Type 0 where
  pub no_type : begins_type ns ts ≡ false
  pub no_close : sees m.CloseBrace ts ≡ false
  pub no_label : begins_with_label ts ≡ false

place-begins : {ns : Names} {n : ℕ} {ts : List Token} {x : Place} {us : List Token} → Place' ns n ts x us → BeginsStmt ns ts
unfolding sees same_mark begins_type sees_qualifier sees_scalar key_at name_at
place-begins (Place'.name h s) = record { no_type = h; no_close = refl; no_label = refl }
place-begins (Place'.through h s) = record { no_type = refl; no_close = refl; no_label = refl }
place-begins (Place'.star h) = record { no_type = refl; no_close = refl; no_label = refl }

simple-begins : {ns : Names} {n : ℕ} {ts : List Token} {a : Simple} {us : List Token} → Simple' ns n ts a us → BeginsStmt ns ts
unfolding sees begins_type sees_qualifier sees_scalar key_at name_at
simple-begins (Simple'.assign p w) = place-begins p
simple-begins (Simple'.compound p h w) = place-begins p
simple-begins (Simple'.after p h s) = place-begins p
simple-begins (Simple'.before {mk = mk} {t = t} h p) = record { no_type = refl; no_close = mark-no update_of m.CloseBrace mk t h refl; no_label = refl }

call-begins : {ns : Names} {n : ℕ} {ts : List Token} {c : Call} {us : List Token} → Call' ns n ts c us → BeginsStmt ns ts
unfolding sees begins_type sees_qualifier sees_scalar key_at name_at
call-begins (Call'.no_args h) = record { no_type = h; no_close = refl; no_label = refl }
call-begins (Call'.args h xs) = record { no_type = h; no_close = refl; no_label = refl }

directive-begins : {ns : Names} {n : ℕ} {ts : List Token} {a : Directive} {us : List Token} → Directive' ns n ts a us → BeginsStmt ns ts
unfolding sees begins_type sees_qualifier sees_scalar key_at name_at
directive-begins Directive'.wait = record { no_type = refl; no_close = refl; no_label = refl }
directive-begins Directive'.partition = record { no_type = refl; no_close = refl; no_label = refl }
directive-begins (Directive'.known_fact w) = record { no_type = refl; no_close = refl; no_label = refl }
directive-begins (Directive'.assert w) = record { no_type = refl; no_close = refl; no_label = refl }

pub stmt-begins : {ns : Names} {n : ℕ} {ts : List Token} {a : Stmt} {us : List Token} → Stmt' ns n ts a us → BeginsStmt ns ts
unfolding sees same_mark begins_type sees_qualifier sees_scalar key_at name_at
stmt-begins (Stmt'.simple_stmt a) = simple-begins a
stmt-begins (Stmt'.gives p c) = place-begins p
stmt-begins (Stmt'.call c) = call-begins c
stmt-begins (Stmt'.directive a) = directive-begins a
stmt-begins (Stmt'.block is) = record { no_type = refl; no_close = refl; no_label = refl }
stmt-begins Stmt'.empty = record { no_type = refl; no_close = refl; no_label = refl }
stmt-begins (Stmt'.if c a h) = record { no_type = refl; no_close = refl; no_label = refl }
stmt-begins (Stmt'.if_else c a b) = record { no_type = refl; no_close = refl; no_label = refl }
stmt-begins (Stmt'.while c a) = record { no_type = refl; no_close = refl; no_label = refl }
stmt-begins (Stmt'.do_while a c) = record { no_type = refl; no_close = refl; no_label = refl }
stmt-begins (Stmt'.for f c x a) = record { no_type = refl; no_close = refl; no_label = refl }
stmt-begins (Stmt'.switch c gs) = record { no_type = refl; no_close = refl; no_label = refl }
stmt-begins Stmt'.break = record { no_type = refl; no_close = refl; no_label = refl }
stmt-begins Stmt'.return = record { no_type = refl; no_close = refl; no_label = refl }
stmt-begins (Stmt'.return_value w) = record { no_type = refl; no_close = refl; no_label = refl }

pub simple-no_mark : {ns : Names} {n : ℕ} {ts : List Token} {a : Simple} {us : List Token} → Simple' ns n ts a us → (b : Punct) → begins_expr b ≡ false → update_of b ≡ None → sees b ts ≡ false
unfolding sees
simple-no_mark (Simple'.assign p w) b other none = place-no_mark p b other
simple-no_mark (Simple'.compound p h w) b other none = place-no_mark p b other
simple-no_mark (Simple'.after p h s) b other none = place-no_mark p b other
simple-no_mark (Simple'.before {mk = mk} {t = t} h p) b other none = mark-no update_of b mk t h none

pub simple-no_type : {ns : Names} {n : ℕ} {ts : List Token} {a : Simple} {us : List Token} → Simple' ns n ts a us → begins_type ns ts ≡ false
simple-no_type a = (simple-begins a).no_type

-- ---- marks that end an expression
pub ends-comma : (p : Pos) (us : List Token) → EndsExpr (mark m.Comma p ∷ us)
unfolding sees same_mark mark_at
ends-comma p us = record { no_step = refl; no_operator = refl; no_choice = refl }

pub ends-semicolon : (p : Pos) (us : List Token) → EndsExpr (mark m.Semicolon p ∷ us)
unfolding sees same_mark mark_at
ends-semicolon p us = record { no_step = refl; no_operator = refl; no_choice = refl }

pub ends-close_brace : (p : Pos) (us : List Token) → EndsExpr (mark m.CloseBrace p ∷ us)
unfolding sees same_mark mark_at
ends-close_brace p us = record { no_step = refl; no_operator = refl; no_choice = refl }

-- ---- marks after a place
pub equal-no_step : (p : Pos) (us : List Token) → sees_step (mark m.Equal p ∷ us) ≡ false
unfolding sees same_mark
equal-no_step p us = refl

pub mark-no_step : {A : Type 0} (f : Punct → Option A) (mk : Punct) (x : A) (p : Pos) (us : List Token) → f mk ≡ Some x → f m.OpenBracket ≡ None → f m.Dot ≡ None → f m.Arrow ≡ None → sees_step (mark mk p ∷ us) ≡ false
unfolding sees
mark-no_step f mk x p us h a b c = rw (mark-no f m.OpenBracket mk x h a, mark-no f m.Dot mk x h b, mark-no f m.Arrow mk x h c) refl

pub mark-no_call : {A : Type 0} (f : Punct → Option A) (mk : Punct) (x : A) (p : Pos) (us : List Token) → f mk ≡ Some x → f m.OpenParen ≡ None → sees m.OpenParen (mark mk p ∷ us) ≡ false
unfolding sees
mark-no_call f mk x p us h a = mark-no f m.OpenParen mk x h a

pub equal-no_call : (p : Pos) (us : List Token) → sees m.OpenParen (mark m.Equal p ∷ us) ≡ false
unfolding sees same_mark
equal-no_call p us = refl

pub comma-no_call : (p : Pos) (us : List Token) → sees m.OpenParen (mark m.Comma p ∷ us) ≡ false
unfolding sees same_mark
comma-no_call p us = refl

pub semicolon-no_call : (p : Pos) (us : List Token) → sees m.OpenParen (mark m.Semicolon p ∷ us) ≡ false
unfolding sees same_mark
semicolon-no_call p us = refl
