-- Statements from one environment: the list of environments that a block keeps never has more than one, and the walk over any
-- row is the straight one.
use Rattle.std.proofs.Common.{◌≡◌, List, [], ◌∷◌, ◌++◌, refl, ap, sym, subst, ◌∙◌, Option, Some, None, length}
use Rattle.std.proofs.lemmas.List.Elements.{All-nil, All-cons, All-same}
use Rattle.std.specs.List.{All}
use Rattle.std.specs.Prelude.{if◌then◌else◌, nat_le, slice_get}
use Rattle.sa_base.specs.declared.pos.Pos.{Pos}
use Rattle.sa_typed.specs.Executions.{block_of, main_of}
use Rattle.sa_typed.specs.WellTyped.{IsTypedSimple, IsTypedStmt, AreTypedStmts}
use Rattle.sa_typed.specs.declared.program.Func.{Func}
use Rattle.sa_typed.specs.declared.program.Program.{Program}
use Rattle.sa_typed.specs.declared.stmt.LoopKind.TheVariants as kind
use Rattle.sa_typed.specs.declared.stmt.Simple.{Simple}
use Rattle.sa_typed.specs.declared.stmt.Stmt.{Stmt, Row_of-Stmt, end_of-Stmt, more_of-Stmt, items-the_row-Stmt, items_hidden-the_row-Stmt-0}
use Rattle.sa_typed.specs.declared.stmt.Stmt.TheVariants as v
use Rattle.sa_reference.specs.declared.flat.Flat.{Flat}
use Rattle.sa_reference.specs.Assignments.{simple_of, simple_alarms}
use Rattle.sa_reference.specs.Environments.{tick_of, initial_env}
use Rattle.sa_reference.specs.Reference.{reference}
use Rattle.sa_reference.specs.Sound.{widest}
use Rattle.sa_reference.specs.Steps.{Found, nothing, only, both, list_of, merged, spread, after, after_all, found, found_all, found_over}
use Rattle.sa_iterate.specs.Analysis.{body_in, main_body}
use Rattle.sa_iterate.specs.Straight.{domain, stmt_after, stmt_found, next_env, next_found, straight, straight_found, facts_from, main_loop, clock_found}
use Rattle.sa_iterate.proofs.FoundLemmas.{both-nothing}

-- ---- rows as lists
abbrev row_of : Stmt → (n : _) × Row_of-Stmt n
row_of (Stmt.Block' n r) = (_, r)
row_of _ = (_, end_of-Stmt)

module _ (p : Program) where
  merged-one : (o : Option Flat) → merged (domain p) (list_of o) ≡ o
  merged-one None = refl
  merged-one (Some e) = refl

  -- a statement leaves at most one environment
  stmt-ends : (s : Stmt) (e : Flat) → (after (domain p) s [] e).ends ≡ list_of (stmt_after p s e)
  unfolding after stmt_after
  stmt-ends (Stmt.Simple x) e = ap list_of (sym (merged-one (simple_of p (widest p) x e)))
  stmt-ends (Stmt.Block' n all) e = ap list_of (sym (merged-one (merged (domain p) (after_all (domain p) all [] (e ∷ [])).ends)))
  stmt-ends Stmt.Wait e = ap list_of (sym (merged-one (tick_of (widest p).max_clock e)))
  stmt-ends (Stmt.Loop' q kind.Clock None n (more_of-Stmt body end_of-Stmt) None) e = refl
  stmt-ends _ e = refl

  -- which is small enough to stay apart
  small : (o : Option Flat) (other : List Flat) → (if nat_le (length (list_of o ++ [])) 16 then list_of o ++ [] else other) ≡ list_of o
  small None other = refl
  small (Some e) other = refl

  spread-one : (s : Stmt) (o : Option Flat) → spread (domain p) (λ e. after (domain p) s [] e) (list_of o) ≡ list_of (next_env p o s)
  unfolding next_env
  spread-one s None = refl
  spread-one s (Some e) =
      ap (λ (es : List Flat). if nat_le (length (es ++ [])) 16 then es ++ [] else list_of (merged (domain p) es) ++ []) (stmt-ends s e)
      ∙ small (stmt_after p s e) (list_of (merged (domain p) (list_of (stmt_after p s e))) ++ [])

  over-one : (s : Stmt) (o : Option Flat) → found_over (list_of o) (λ e. found (domain p) s [] e) ≡ next_found p o s
  unfolding next_found stmt_found
  over-one s None = refl
  over-one s (Some e) = both-nothing (found (domain p) s [] e)

  row-ends : (n : _) (r : Row_of-Stmt n) (o : Option Flat) → (after_all (domain p) r [] (list_of o)).ends ≡ list_of (straight p (items-the_row-Stmt n r) o)
  unfolding after straight
  row-ends n end_of-Stmt o = refl
  row-ends n (more_of-Stmt s rest) o =
      ap (λ (es : List Flat). (after_all (domain p) rest [] es).ends) (spread-one s o) ∙ row-ends _ rest (next_env p o s)

  row-after : (n : _) (r : Row_of-Stmt n) (e : Flat) → merged (domain p) (after_all (domain p) r [] (e ∷ [])).ends ≡ straight p (items-the_row-Stmt n r) (Some e)
  row-after n r e = ap (merged (domain p)) (row-ends n r (Some e)) ∙ merged-one (straight p (items-the_row-Stmt n r) (Some e))

  row-found : (n : _) (r : Row_of-Stmt n) (o : Option Flat) → found_all (domain p) r [] (list_of o) ≡ straight_found p (items-the_row-Stmt n r) o
  unfolding found straight_found
  row-found n end_of-Stmt o = refl
  row-found n (more_of-Stmt s rest) o =
      ap (λ (f : Found Flat). both f (found_all (domain p) rest [] (spread (domain p) (λ e. after (domain p) s [] e) (list_of o)))) (over-one s o)
      ∙ ap (λ (es : List Flat). both (next_found p o s) (found_all (domain p) rest [] es)) (spread-one s o)
      ∙ ap (both (next_found p o s)) (row-found _ rest (next_env p o s))

  row-typed : (n : _) (r : Row_of-Stmt n) → AreTypedStmts p r → All (IsTypedStmt p) (items-the_row-Stmt n r)
  unfolding IsTypedStmt
  row-typed n end_of-Stmt h = All-nil (IsTypedStmt p)
  row-typed n (more_of-Stmt s rest) h = All-cons (IsTypedStmt p) s (items-the_row-Stmt _ rest) h.0 (row-typed _ rest h.1)

  -- ---- each form of statement, as code sees it
  pub simple-after : (x : Simple) (e : Flat) → stmt_after p (v.Simple x) e ≡ simple_of p (widest p) x e
  unfolding after stmt_after
  simple-after x e = merged-one (simple_of p (widest p) x e)

  pub simple-found : (x : Simple) (e : Flat) → stmt_found p (v.Simple x) e ≡ only (simple_alarms p (widest p) x e)
  unfolding found stmt_found
  simple-found x e = refl

  pub simple-typed : (s : Stmt) (x : Simple) → s ≡ v.Simple x → IsTypedStmt p s → IsTypedSimple p x
  unfolding IsTypedStmt
  simple-typed s x is h = subst (IsTypedStmt p) is h

  pub block-after : (all : List Stmt) (e : Flat) → stmt_after p (v.Block all) e ≡ straight p all (Some e)
  unfolding after stmt_after
  block-after all e =
      let row = row_of (v.Block all) in
      merged-one (merged (domain p) (after_all (domain p) row.1 [] (e ∷ [])).ends) ∙ row-after row.0 row.1 e
      ∙ ap (λ (ss : List Stmt). straight p ss (Some e)) (items_hidden-the_row-Stmt-0 all)

  pub block-found : (all : List Stmt) (e : Flat) → stmt_found p (v.Block all) e ≡ straight_found p all (Some e)
  unfolding found stmt_found
  block-found all e =
      let row = row_of (v.Block all) in
      row-found row.0 row.1 (Some e) ∙ ap (λ (ss : List Stmt). straight_found p ss (Some e)) (items_hidden-the_row-Stmt-0 all)

  pub block-typed : (s : Stmt) (all ss : List Stmt) → s ≡ v.Block all → ss ≡ all → IsTypedStmt p s → All (IsTypedStmt p) ss
  unfolding IsTypedStmt
  block-typed s all ss is e h =
      let row = row_of (v.Block all) in
      All-same (IsTypedStmt p) ss (items-the_row-Stmt row.0 row.1) (e ∙ sym (items_hidden-the_row-Stmt-0 all)) (row-typed row.0 row.1 (subst (IsTypedStmt p) is h))

  pub wait-after : (e : Flat) → stmt_after p v.Wait e ≡ tick_of (widest p).max_clock e
  unfolding after stmt_after
  wait-after e = merged-one (tick_of (widest p).max_clock e)

  pub wait-found : (e : Flat) → stmt_found p v.Wait e ≡ nothing
  unfolding found stmt_found
  wait-found e = refl

  pub clock-after : (q : Pos) (body : Stmt) (e : Flat) → stmt_after p (v.Loop q kind.Clock None body None) e ≡ None
  unfolding after stmt_after Rattle.sa_typed.specs.declared.stmt.Stmt.TheBlock.hidden-the_row-Stmt-1 denote.Hole.Carrier.hidden
  clock-after q body e = refl

  pub clock-found : (q : Pos) (body : Stmt) (e : Flat) → stmt_found p (v.Loop q kind.Clock None body None) e ≡ clock_found p q body e
  unfolding found stmt_found clock_found main_loop facts_from stmt_after Rattle.sa_typed.specs.declared.stmt.Stmt.TheBlock.hidden-the_row-Stmt-1 denote.Hole.Carrier.hidden
  clock-found q body e = refl

-- ---- main
pub main-block : (p : Program) → main_of p ≡ v.Block (main_body p)
main-block p = by_cases (slice_get p.funcs p.entry)
  where
    by_cases : (o : Option Func) → block_of o ≡ v.Block (body_in o)
    by_cases None = refl
    by_cases (Some f) = refl

pub main-typed : (p : Program) (ss : List Stmt) → ss ≡ main_body p → IsTypedStmt p (main_of p) → All (IsTypedStmt p) ss
main-typed p ss e h = block-typed p (main_of p) (main_body p) ss (main-block p) e h

pub main-found : (p : Program) → reference (domain p) p ≡ straight_found p (main_body p) (Some (initial_env p))
unfolding reference stmt_found
main-found p = ap (λ (s : Stmt). stmt_found p s (initial_env p)) (main-block p) ∙ block-found p (main_body p) (initial_env p)
