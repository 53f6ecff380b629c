-- The calls of each form of a statement, as code sees it.
use Rattle.std.proofs.Common.{◌≡◌, ℕ, zero, suc, ◌+◌, ◌<◌, ◌≤◌, Bool, List, [], ◌∷◌, ◌++◌, length, drop, get_or, refl, sym, ap, ◌∙◌, append_assoc, append-nil, Option, Some, None}
use Rattle.std.proofs.lemmas.List.{drop_all}
use Rattle.std.specs.Prelude.{slice_get}
use Rattle.sa_base.specs.declared.num.Num.{Num}
use Rattle.sa_base.specs.declared.pos.Pos.{Pos}
use Rattle.sa_typed.specs.TypedPrograms.{Site, calls_in, calls_in_all, calls_in_groups}
use Rattle.sa_typed.specs.declared.expr.Expr.{Expr}
use Rattle.sa_typed.specs.declared.program.Func.{Func}
use Rattle.sa_typed.specs.declared.stmt.Arg.{Arg}
use Rattle.sa_typed.specs.declared.stmt.Destination.{Destination}
use Rattle.sa_typed.specs.declared.stmt.Group.{Group}
use Rattle.sa_typed.specs.declared.stmt.LoopKind.{LoopKind}
use Rattle.sa_typed.specs.declared.stmt.Simple.{Simple}
use Rattle.sa_typed.specs.declared.stmt.Stmt.{Stmt, Row_of-Stmt, end_of-Stmt, more_of-Stmt, items-the_row-Stmt, items_hidden-the_row-Stmt-0, Row_of-Group, end_of-Group, more_of-Group, items-the_row-Group, items_hidden-the_row-Group-2}
use Rattle.sa_typed.specs.declared.stmt.Stmt.TheVariants as stmt
use Rattle.sa_calls.specs.declared.graph.Call.{Call}
use Rattle.sa_calls.specs.Recursion.{as_calls, calls_of_stmts, calls_of_groups, graph_of, calls_at}
use Rattle.sa_calls.proofs.WeightLemmas.{next, stmts_of, groups_of}

as-append : (xs ys : List Site) → as_calls (xs ++ ys) ≡ as_calls xs ++ as_calls ys
unfolding as_calls
as-append [] ys = refl
as-append (s ∷ xs) ys = ap (λ (cs : List Call). record { pos = s.pos; func = s.func } ∷ cs) (as-append xs ys)

-- ---- lists
stmts_row : (n : _) (r : Row_of-Stmt n) → as_calls (calls_in_all r) ≡ calls_of_stmts (items-the_row-Stmt n r)
unfolding calls_in as_calls calls_of_stmts
stmts_row n end_of-Stmt = refl
stmts_row n (more_of-Stmt s rest) = as-append (calls_in s) (calls_in_all rest) ∙ ap (λ (cs : List Call). as_calls (calls_in s) ++ cs) (stmts_row _ rest)

groups_row : (n : _) (r : Row_of-Group n) → as_calls (calls_in_groups r) ≡ calls_of_groups (items-the_row-Group n r)
unfolding calls_in as_calls calls_of_groups Rattle.sa_typed.specs.declared.stmt.Stmt.TheBlock.shown-the_row-Stmt-1 denote.Hole.Carrier.shown
groups_row n end_of-Group = refl
groups_row n (more_of-Group labels l (more_of-Stmt s end_of-Stmt) rest) = as-append (calls_in s) (calls_in_groups rest) ∙ ap (λ (cs : List Call). as_calls (calls_in s) ++ cs) (groups_row _ rest)

pub stmts-more : (whole old new : List Call) (ss : List Stmt) (i : ℕ) (s : Stmt) → i < length ss → s ≡ get_or ss i s → new ≡ old ++ as_calls (calls_in s) →
    old ++ calls_of_stmts (drop i ss) ≡ whole → new ++ calls_of_stmts (drop (i + 1) ss) ≡ whole
unfolding calls_of_stmts
stmts-more whole old new ss i s h is e left =
    let rest = calls_of_stmts (drop (i + 1) ss) in
    ap (λ (cs : List Call). cs ++ rest) e ∙ append_assoc old (as_calls (calls_in s)) rest ∙ sym (ap (λ (xs : List Stmt). old ++ calls_of_stmts xs) (next ss i s h is)) ∙ left

pub stmts-end : (whole old : List Call) (ss : List Stmt) (i : ℕ) → length ss ≤ i → old ++ calls_of_stmts (drop i ss) ≡ whole → old ≡ whole
unfolding calls_of_stmts
stmts-end whole old ss i h left = sym (append-nil old) ∙ sym (ap (λ (xs : List Stmt). old ++ calls_of_stmts xs) (drop_all i ss h)) ∙ left

pub groups-more : (whole old new : List Call) (gs : List Group) (i : ℕ) (g : Group) → i < length gs → g ≡ get_or gs i g → new ≡ old ++ as_calls (calls_in g.body) →
    old ++ calls_of_groups (drop i gs) ≡ whole → new ++ calls_of_groups (drop (i + 1) gs) ≡ whole
unfolding calls_of_groups
groups-more whole old new gs i g h is e left =
    let rest = calls_of_groups (drop (i + 1) gs) in
    ap (λ (cs : List Call). cs ++ rest) e ∙ append_assoc old (as_calls (calls_in g.body)) rest ∙ sym (ap (λ (xs : List Group). old ++ calls_of_groups xs) (next gs i g h is)) ∙ left

pub groups-end : (whole old : List Call) (gs : List Group) (i : ℕ) → length gs ≤ i → old ++ calls_of_groups (drop i gs) ≡ whole → old ≡ whole
unfolding calls_of_groups
groups-end whole old gs i h left = sym (append-nil old) ∙ sym (ap (λ (xs : List Group). old ++ calls_of_groups xs) (drop_all i gs h)) ∙ left

-- ---- forms
pub stmt_block : (ss : List Stmt) → as_calls (calls_in (stmt.Block ss)) ≡ calls_of_stmts ss
unfolding calls_in
stmt_block ss = let row = stmts_of (stmt.Block ss) in stmts_row row.0 row.1 ∙ ap calls_of_stmts (items_hidden-the_row-Stmt-0 ss)

pub stmt_call : (q : Pos) (f : ℕ) (args : List Arg) (dest : Option Destination) → as_calls (calls_in (stmt.Call q f args dest)) ≡ record { pos = q; func = f } ∷ []
unfolding calls_in as_calls
stmt_call q f args dest = refl

pub stmt_if : (e : Expr) (a b : Stmt) (marked : Bool) → as_calls (calls_in (stmt.If e a b marked)) ≡ as_calls (calls_in a) ++ as_calls (calls_in b)
unfolding calls_in Rattle.sa_typed.specs.declared.stmt.Stmt.TheBlock.hidden-the_row-Stmt-1 denote.Hole.Carrier.hidden
stmt_if e a b marked = as-append (calls_in a) (calls_in b)

pub stmt_switch : (e : Expr) (num : Num) (gs : List Group) (marked : Bool) → as_calls (calls_in (stmt.Switch e num gs marked)) ≡ calls_of_groups gs
unfolding calls_in
stmt_switch e num gs marked = let row = groups_of (stmt.Switch e num gs marked) in groups_row row.0 row.1 ∙ ap calls_of_groups (items_hidden-the_row-Group-2 gs)

pub stmt_loop : (q : Pos) (form : LoopKind) (cond : Option Expr) (body : Stmt) (step : Option Simple) → as_calls (calls_in (stmt.Loop q form cond body step)) ≡ as_calls (calls_in body)
unfolding calls_in Rattle.sa_typed.specs.declared.stmt.Stmt.TheBlock.hidden-the_row-Stmt-1 denote.Hole.Carrier.hidden
stmt_loop q form cond body step = refl

pub stmt_simple : (s : Simple) → as_calls (calls_in (stmt.Simple s)) ≡ []
unfolding calls_in as_calls
stmt_simple s = refl

pub stmt_scope : (v : ℕ) → as_calls (calls_in (stmt.Scope v)) ≡ []
unfolding calls_in as_calls
stmt_scope v = refl

pub stmt_known : (e : Expr) → as_calls (calls_in (stmt.Known e)) ≡ []
unfolding calls_in as_calls
stmt_known e = refl

pub stmt_assert : (q : Pos) (e : Expr) → as_calls (calls_in (stmt.Assert q e)) ≡ []
unfolding calls_in as_calls
stmt_assert q e = refl

pub stmt_wait : as_calls (calls_in stmt.Wait) ≡ []
unfolding calls_in as_calls
stmt_wait = refl

pub stmt_break : as_calls (calls_in stmt.Break) ≡ []
unfolding calls_in as_calls
stmt_break = refl

pub stmt_return : (q : Pos) (num : Num) (e : Expr) → as_calls (calls_in (stmt.Return q num e)) ≡ []
unfolding calls_in as_calls
stmt_return q num e = refl

-- ---- functions
pub funcs-more : (whole old new : List (List Call)) (fs : List Func) (i : ℕ) (f : Func) (cs : List Call) → i < length fs → f ≡ get_or fs i f → cs ≡ calls_of_stmts f.body → new ≡ old ++ cs ∷ [] →
    old ++ graph_of (drop i fs) ≡ whole → new ++ graph_of (drop (i + 1) fs) ≡ whole
unfolding graph_of
funcs-more whole old new fs i f cs h is e n left =
    let rest = graph_of (drop (i + 1) fs) in
    ap (λ (t : List (List Call)). t ++ rest) n ∙ append_assoc old (cs ∷ []) rest
    ∙ ap (λ (x : List Call). old ++ (x ∷ rest)) (e ∙ sym (stmt_block f.body))
    ∙ sym (ap (λ (t : List Func). old ++ graph_of t) (next fs i f h is)) ∙ left

pub funcs-end : (whole old : List (List Call)) (fs : List Func) (i : ℕ) → length fs ≤ i → old ++ graph_of (drop i fs) ≡ whole → old ≡ whole
unfolding graph_of
funcs-end whole old fs i h left = sym (append-nil old) ∙ sym (ap (λ (t : List Func). old ++ graph_of t) (drop_all i fs h)) ∙ left

pub ruleset of_stmts = (stmt_block, stmt_call, stmt_if, stmt_switch, stmt_loop, stmt_simple, stmt_scope, stmt_known, stmt_assert, stmt_wait, stmt_break, stmt_return, append-nil, append_assoc)

pub ruleset of_lists = (stmts-more, stmts-end, groups-more, groups-end)

-- ---- the calls of one function
pub at-none : (graph : List (List Call)) (f : ℕ) → slice_get graph f ≡ None → calls_at graph f ≡ []
unfolding calls_at
at-none [] f h = refl
at-none (x ∷ xs) zero h = cc
at-none (x ∷ xs) (suc f) h = at-none xs f h

pub at-some : (graph : List (List Call)) (f : ℕ) (cs : List Call) → slice_get graph f ≡ Some cs → calls_at graph f ≡ cs
unfolding calls_at
at-some [] f cs h = cc
at-some (x ∷ xs) zero cs h = cc
at-some (x ∷ xs) (suc f) cs h = at-some xs f cs h

pub ruleset of_calls = (at-none, at-some)
