-- Statements, functions and sources where more may be open.
use Rattle.std.proofs.Common.{◌≡◌, ℕ, zero, suc, ◌-◌, ◌+◌, ◌≤◌, ◌⊎◌, ap, ◌∙◌, List, [], ◌∷◌, ◌++◌, Bool, true, false, cond, refl, sym, subst, arith, Option, Some, None}
use Rattle.std.specs.Prelude.{◌&&◌, ◌||◌}
use Rattle.std.proofs.lemmas.Bool.{or_parts}
use Rattle.sa_base.specs.declared.pos.Pos.{Pos}
use Rattle.sa_tokens.specs.declared.keyword.Keyword.{Keyword}
use Rattle.sa_tokens.specs.declared.keyword.Keyword.TheVariants as k
use Rattle.sa_tokens.specs.declared.punct.Punct.{Punct}
use Rattle.sa_tokens.specs.declared.punct.Punct.TheVariants as m
use Rattle.sa_tokens.specs.declared.token.Token.{Token}
use Rattle.sa_syntax.specs.declared.decl.Specifiers.{Specifiers}
use Rattle.sa_syntax.specs.declared.decl.Struct.{Struct}
use Rattle.sa_syntax.specs.declared.decl.Declr.{Declr}
use Rattle.sa_syntax.specs.declared.decl.Init.{Init}
use Rattle.sa_syntax.specs.declared.expr.Expr.{Expr}
use Rattle.sa_syntax.specs.declared.expr.Place.{Place}
use Rattle.sa_syntax.specs.declared.expr.PlaceBase.TheVariants as at
use Rattle.sa_syntax.specs.declared.stmt.Compound.{Compound}
use Rattle.sa_syntax.specs.declared.stmt.Update.{Update}
use Rattle.sa_syntax.specs.declared.stmt.Simple.{Simple}
use Rattle.sa_syntax.specs.declared.stmt.Arg.{Arg}
use Rattle.sa_syntax.specs.declared.stmt.Directive.{Directive}
use Rattle.sa_syntax.specs.declared.stmt.Directive.TheVariants as d
use Rattle.sa_syntax.specs.declared.stmt.Stmt.{Stmt}
use Rattle.sa_syntax.specs.declared.unit.Param.{Param}
use Rattle.sa_syntax.specs.declared.unit.Item.{Item}
use Rattle.sa_syntax.specs.Trees as tree
use Rattle.sa_syntax.specs.Refusals.{takes_bracket, takes_two}
use Rattle.sa_syntax.specs.Words.{Names, mark, key, begins_with_star, begins_with_else, begins_with_label, is_void_alone}
use Rattle.sa_syntax.specs.Statements.{all_named}
use Rattle.sa_syntax.specs.Reading.{Parser, Got, Stuck, Deep, and_then, pure, ◌>>=◌, same_mark, opens_any, opens, sees, after, expect, any_name, variable, name_at, key_at, mark_at, unless_type, taken, turns}
use Rattle.sa_syntax.specs.ReadExpr.{begins_type, is_some, sees_qualifier, sees_scalar, inside}
use Rattle.sa_syntax.specs.ReadExpr as expr
use Rattle.sa_syntax.specs.ReadStmt as read
use Rattle.sa_syntax.specs.ReadStmt.{Bodies, takes, list_from}
use Rattle.sa_syntax.proofs.RoomLemmas.{agree}
use Rattle.sa_syntax.proofs.NearLemmas.{wider, Next, Near, NotGot, not_then, not_deep, near_then, near_if, near_if_reader, near_within, near_other, near_paren, near_many, near_list, opens_shut}
use Rattle.sa_syntax.proofs.NearExpr.{whole_at, place_at, specifiers_at, declr_at, whole_shut, place_shut, type_shut}

-- ---- initialisers
inits_from_near : (j : ℕ) (one wide : Parser Init) → ((ts : List Token) → Near j (one ts) (wide ts)) → (left : ℕ) (found : List Init) (ts : List Token) → Near j (read.inits_from one left found ts) (read.inits_from wide left found ts)
unfolding read.inits_from
inits_from_near j one wide each zero found ts = Near.same
inits_from_near j one wide each (suc left) found ts =
    near_then (each ts) (λ i us.
    near_if_reader _ _ _ _ (sees m.Comma us) us
    (near_then (Near.same {r = expect m.Comma us}) (λ p vs.
    near_if_reader _ _ _ _ (sees m.CloseBrace vs) vs Near.same (inits_from_near j one wide each left (found ++ i ∷ []) vs)))
    Near.same)

braces_near : (j n more : ℕ) → n + j ≡ more → (one wide : Parser Init) → ((i : ℕ) → n ≡ suc i → (ts : List Token) → Near j (one ts) (wide ts)) → (ts : List Token) → Near j (read.braces n one ts) (read.braces more wide ts)
unfolding read.braces
braces_near j n more h one wide each ts = near_other j n more h m.OpenBrace (λ c. cc) (λ c. cc) ts (λ i e p us. near_then (inits_from_near j one wide (each i e) (turns us) [] us) (λ is vs. Near.same))

init_by_near : (ns : Names) (j n more : ℕ) → n + j ≡ more → (one wide : Parser Init) → ((i : ℕ) → n ≡ suc i → (ts : List Token) → Near j (one ts) (wide ts)) → (ts : List Token) → Near j (read.init_by ns n one ts) (read.init_by ns more wide ts)
unfolding read.init_by
init_by_near ns j n more h one wide each ts = near_if (sees m.OpenBrace ts) (braces_near j n more h one wide each ts) (near_then (whole_at ns j n more h ts) (λ a us. Near.same))

pub init_at_near : (ns : Names) (j n more : ℕ) → n + j ≡ more → (ts : List Token) → Near j (read.init_at ns n ts) (read.init_at ns more ts)
unfolding read.init_at
init_at_near ns j zero zero h ts = Near.same
init_at_near ns j zero (suc more) h ts = init_by_near ns j zero (suc more) h (λ us. Deep us) (read.init_at ns more) (λ i e. cc) ts
init_at_near ns j (suc n) zero h ts = absurd (omega (arith, h))
init_at_near ns j (suc n) (suc more) h ts = init_by_near ns j (suc n) (suc more) h (read.init_at ns n) (read.init_at ns more) (λ i e. init_at_near ns j n more (omega (arith, h))) ts

module _ (ns : Names) (j n more : ℕ) (room : n + j ≡ more) where
  pub init_declr_near : (ts : List Token) → Near j (read.init_declr ns n ts) (read.init_declr ns more ts)
  unfolding read.init_declr
  init_declr_near ts =
      near_then (declr_at ns j n more room ts) (λ x us.
      near_if (sees m.Equal us) (near_then (Near.same {r = expect m.Equal us}) (λ p vs. near_then (init_at_near ns j n more room vs) (λ i ws. Near.same))) Near.same)

  -- ---- calls
  pub arg_value_near : (ts : List Token) → Near j (read.arg_value ns n ts) (read.arg_value ns more ts)
  unfolding read.arg_value
  arg_value_near ts = near_if (sees m.Ampersand ts)
      (near_then (Near.same {r = expect m.Ampersand ts}) (λ p us. near_then (place_at ns j n more room us) (λ x vs. Near.same)))
      (near_then (whole_at ns j n more room ts) (λ a us. Near.same))

  args_from_near : (left : ℕ) (p : Pos) (found : List Arg) (ts : List Token) → Near j (read.args_from ns n left p found ts) (read.args_from ns more left p found ts)
  unfolding read.args_from
  args_from_near zero p found ts = Near.same
  args_from_near (suc left) p found ts =
      near_then (arg_value_near ts) (λ v us.
      near_if (sees m.Comma us) (near_then (Near.same {r = expect m.Comma us}) (λ q vs. args_from_near left q (found ++ tree.arg p v ∷ []) vs)) Near.same)

args_near : (ns : Names) (p : Pos) (j n more : ℕ) → n + j ≡ more → (ts : List Token) → Near j (read.args ns p n ts) (read.args ns p more ts)
unfolding read.args
args_near ns p j n more room ts = near_if (sees m.CloseParen ts) Near.same (args_from_near ns j n more room (turns ts) p [] ts)

-- ---- at an opening bracket where no more may be open
module _ (ns : Names) (q : Pos) (vs : List Token) where
  expr_shut : read.expr ns zero (mark m.OpenParen q ∷ vs) ≡ Deep (mark m.OpenParen q ∷ vs)
  expr_shut = whole_shut ns (inside ns zero) q vs

  pub simple_shut : read.simple ns zero (mark m.OpenParen q ∷ vs) ≡ Deep (mark m.OpenParen q ∷ vs)
  unfolding read.simple mark_at
  simple_shut = rw (place_shut ns (inside ns zero) q vs) refl

  args_from_shut : (left : ℕ) (p : Pos) (found : List Arg) → NotGot (read.args_from ns zero left p found (mark m.OpenParen q ∷ vs))
  unfolding read.args_from read.arg_value sees same_mark
  args_from_shut zero p found = tt
  args_from_shut (suc left) p found = rw expr_shut tt

  args_shut : (p : Pos) → NotGot (read.args ns p zero (mark m.OpenParen q ∷ vs))
  unfolding read.args sees same_mark
  args_shut p = args_from_shut (turns (mark m.OpenParen q ∷ vs)) p []

  first_shut : NotGot (read.first_of ns zero (mark m.OpenParen q ∷ vs))
  unfolding read.first_of sees same_mark begins_type sees_qualifier sees_scalar key_at name_at
  first_shut = rw simple_shut tt

  param_shut : (n : ℕ) → read.param ns n (mark m.OpenParen q ∷ vs) ≡ Stuck (mark m.OpenParen q ∷ vs)
  unfolding read.param
  param_shut n = rw (type_shut ns n (inside ns n) q vs) refl

  list_shut : (n left : ℕ) (found : List Param) → NotGot (list_from m.CloseParen (read.param ns n) left found (mark m.OpenParen q ∷ vs))
  unfolding list_from
  list_shut n zero found = tt
  list_shut n (suc left) found = rw (param_shut n) tt

  params_shut : (n : ℕ) → NotGot (read.params ns n (mark m.OpenParen q ∷ vs))
  unfolding read.params sees same_mark is_void_alone
  params_shut n = not_then _ _ (list_shut n (turns (mark m.OpenParen q ∷ vs)) [])

one_more : (j n more : ℕ) → n + j ≡ more → n ≡ 0 → j ≡ 1 → more ≡ 1
one_more j n more e h i = omega (arith, e, h, i)

-- with one more no reader goes on behind one bracket with another
within_shut : {A : Type 0} (p : ℕ → Parser A) (more : ℕ) (ts : List Token) → more ≡ 1 → NotGot (p zero ts) → NotGot (read.within p more ts)
within_shut p zero ts e h = tt
within_shut p (suc zero) ts e h = h
within_shut p (suc (suc more)) ts e h = cc

twice_shut : {A : Type 0} (p : ℕ → Parser A) (more : ℕ) (ts : List Token) → more ≡ 2 → NotGot (p zero ts) → NotGot (read.within (read.within p) more ts)
twice_shut p zero ts e h = tt
twice_shut p (suc zero) ts e h = tt
twice_shut p (suc (suc zero)) ts e h = h
twice_shut p (suc (suc (suc more))) ts e h = cc

near_twice : {A : Type 0} (j : ℕ) (p : ℕ → Parser A) → ((n more : ℕ) → n + j ≡ more → (ts : List Token) → Near j (p n ts) (p more ts)) → (n more : ℕ) → n + j ≡ more → (i : ℕ) → n ≡ suc (suc i) → (ts : List Token) → Near j (read.within (read.within p) n ts) (read.within (read.within p) more ts)
near_twice j p one zero more e i h ts = cc
near_twice j p one (suc zero) more e i h ts = cc
near_twice j p one (suc (suc n)) zero e i h ts = absurd (omega (arith, e))
near_twice j p one (suc (suc n)) (suc zero) e i h ts = absurd (omega (arith, e))
near_twice j p one (suc (suc n)) (suc (suc more)) e i h ts = one n more (omega (arith, e)) ts

double_bracket_near : {A : Type 0} (j n more : ℕ) → n + j ≡ more → (one wide : Parser A) → ((i : ℕ) → n ≡ suc (suc i) → (ts : List Token) → Near j (one ts) (wide ts)) → (more ≡ 2 → (q : Pos) (vs : List Token) → NotGot (and_then (wide (mark m.OpenParen q ∷ vs)) (λ a. expect m.CloseParen >>= (λ _. expect m.CloseParen >>= (λ _. pure a))))) → (ts : List Token) → Near j (read.double_bracket n one ts) (read.double_bracket more wide ts)
unfolding read.double_bracket
double_bracket_near j n more room one wide each shut ts =
    near_paren j n more room ts (λ h e p q vs. not_then _ _ (not_deep (opens_shut (more - 1) q vs (omega (arith, room, h, e))))) (λ i h p us.
    near_paren j (n - 1) (more - 1) (omega (arith, room, h)) us (λ g e q o vs. shut (omega (arith, room, h, g, e)) o vs) (λ k g q vs.
    near_then (each k (omega (arith, h, g)) vs) (λ a ws. Near.same)))

module _ (ns : Names) (j n more : ℕ) (room : n + j ≡ more) where
  pub call_near : (ts : List Token) → Near j (read.call ns n ts) (read.call ns more ts)
  unfolding read.call
  call_near ts =
      near_then (Near.same {r = variable ns ts}) (λ x us.
      near_paren j n more room us (λ h e p q vs. not_then _ _ (within_shut (read.args ns p) more (mark m.OpenParen q ∷ vs) (one_more j n more room h e) (args_shut ns q vs p))) (λ i h p vs.
      near_then (near_within j (read.args ns p) (args_near ns p j) n more room i h vs) (λ xs ws. Near.same)))

  -- ---- assignments
  before_near : (t : Update) (ts : List Token) → Near j (read.before ns n t ts) (read.before ns more t ts)
  unfolding read.before
  before_near t ts = near_then (Near.same {r = takes ts}) (λ p us. near_then (place_at ns j n more room us) (λ x vs. Near.same))

  compounded_near : (x : Place) (o : Option Compound) (ts : List Token) → Near j (read.compounded ns n x o ts) (read.compounded ns more x o ts)
  compounded_near x None ts = Near.same
  compounded_near x (Some op) ts = near_then (Near.same {r = takes ts}) (λ p us. near_then (whole_at ns j n more room us) (λ a vs. Near.same))

  updated_near : (star : Bool) (x : Place) (o : Option Update) (ts : List Token) → Near j (read.updated ns n star x o ts) (read.updated ns more star x o ts)
  updated_near star x None ts = compounded_near x (read.compound_in (mark_at ts)) ts
  updated_near star x (Some t) ts = Near.same

  assigned_near : (star : Bool) (x : Place) (ts : List Token) → Near j (read.assigned ns n star x ts) (read.assigned ns more star x ts)
  unfolding read.assigned
  assigned_near star x ts = near_if (sees m.Equal ts) (near_then (Near.same {r = expect m.Equal ts}) (λ p us. near_then (whole_at ns j n more room us) (λ a vs. Near.same))) (updated_near star x (read.update_in (mark_at ts)) ts)

  simple_by_near : (o : Option Update) (ts : List Token) → Near j (read.simple_by ns n o ts) (read.simple_by ns more o ts)
  simple_by_near (Some t) ts = before_near t ts
  simple_by_near None ts = near_then (place_at ns j n more room ts) (λ x us. assigned_near (begins_with_star ts) x us)

  simple_near : (ts : List Token) → Near j (read.simple ns n ts) (read.simple ns more ts)
  unfolding read.simple
  simple_near ts = simple_by_near (read.update_in (mark_at ts)) ts

  -- ---- locals
  local_start_near : (x : Declr) (ts : List Token) → Near j (read.local_start ns n x ts) (read.local_start ns more x ts)
  unfolding read.local_start
  local_start_near x ts =
      near_then (Near.same {r = expect m.Equal ts}) (λ p us.
      near_if (read.sees_call ns us) (near_then (call_near us) (λ c vs. Near.same)) (near_then (init_at_near ns j n more room us) (λ i vs. Near.same)))

  pub local_declr_near : (ts : List Token) → Near j (read.local_declr ns n ts) (read.local_declr ns more ts)
  unfolding read.local_declr
  local_declr_near ts = near_then (declr_at ns j n more room ts) (λ x us. near_if (sees m.Equal us) (local_start_near x us) Near.same)

  pub local_near : (ts : List Token) → Near j (read.local ns n ts) (read.local ns more ts)
  unfolding read.local
  local_near ts = near_then (specifiers_at ns j n more room ts) (λ t us. near_then (near_list m.Semicolon (read.local_declr ns n) (read.local_declr ns more) local_declr_near us) (λ xs vs. Near.same))

  -- ---- directives
  closed : (q : Pos) (vs : List Token) (x : Directive) → NotGot (and_then (Got x (mark m.OpenParen q ∷ vs)) (λ a. expect m.CloseParen >>= (λ _. expect m.CloseParen >>= (λ _. pure a))))
  unfolding expect same_mark
  closed q vs x = tt

  bare_near : (x : Directive) (ts : List Token) → Near j (read.bare n x ts) (read.bare more x ts)
  unfolding read.bare
  bare_near x ts = near_then (Near.same {r = takes ts}) (λ p us. double_bracket_near j n more room (λ vs. Got x vs) (λ vs. Got x vs) (λ i h vs. Near.same) (λ h q vs. closed q vs x) us)

  with_expr_near : (f : Expr → Directive) (ts : List Token) → Near j (read.with_expr ns n f ts) (read.with_expr ns more f ts)
  unfolding read.with_expr
  with_expr_near f ts =
      near_then
      (near_then (Near.same {r = takes ts}) (λ p us.
      double_bracket_near j n more room (read.within (read.within (λ j. read.expr ns j)) n) (read.within (read.within (λ j. read.expr ns j)) more)
      (near_twice j (λ n. read.expr ns n) (whole_at ns j) n more room)
      (λ h q vs. not_then _ _ (twice_shut (λ n. read.expr ns n) more (mark m.OpenParen q ∷ vs) h (not_deep (expr_shut ns q vs)))) us))
      (λ a vs. Near.same)

  ended_near : (p wide : Parser Directive) (ts : List Token) → Near j (p ts) (wide ts) → Near j (read.ended p ts) (read.ended wide ts)
  unfolding read.ended
  ended_near p wide ts one = near_then one (λ x us. Near.same)

  -- ---- parts of statements
  pub condition_near : (ts : List Token) → Near j (read.condition ns n ts) (read.condition ns more ts)
  unfolding read.condition
  condition_near ts = near_paren j n more room ts (λ h e p q vs. not_then _ _ (within_shut (read.expr ns) more (mark m.OpenParen q ∷ vs) (one_more j n more room h e) (not_deep (expr_shut ns q vs)))) (λ i h p us.
      near_then (near_within j (read.expr ns) (whole_at ns j) n more room i h us) (λ c vs. Near.same))

  declares_near : (ts : List Token) → Near j (read.declares ns n ts) (read.declares ns more ts)
  unfolding read.declares
  declares_near ts =
      near_then (specifiers_at ns j n more room ts) (λ t us.
      near_then (declr_at ns j n more room us) (λ x vs.
      near_then (Near.same {r = expect m.Equal vs}) (λ p ws.
      near_then (whole_at ns j n more room ws) (λ a xs. Near.same))))

pub first_of_near : (ns : Names) (j n more : ℕ) → n + j ≡ more → (ts : List Token) → Near j (read.first_of ns n ts) (read.first_of ns more ts)
unfolding read.first_of
first_of_near ns j n more room ts = near_if (sees m.Semicolon ts) Near.same (near_if (begins_type ns ts) (declares_near ns j n more room ts) (near_then (simple_near ns j n more room ts) (λ a us. Near.same)))

pub expr_before_near : (ns : Names) (mk : Punct) (j n more : ℕ) → n + j ≡ more → (ts : List Token) → Near j (read.expr_before ns mk n ts) (read.expr_before ns mk more ts)
unfolding read.expr_before
expr_before_near ns mk j n more room ts = near_if (sees mk ts) Near.same (near_then (whole_at ns j n more room ts) (λ a us. Near.same))

pub simple_before_near : (ns : Names) (mk : Punct) (j n more : ℕ) → n + j ≡ more → (ts : List Token) → Near j (read.simple_before ns mk n ts) (read.simple_before ns mk more ts)
unfolding read.simple_before
simple_before_near ns mk j n more room ts = near_if (sees mk ts) Near.same (near_then (simple_near ns j n more room ts) (λ a us. Near.same))

module _ (ns : Names) (j n more : ℕ) (room : n + j ≡ more) where
  case_near : (ts : List Token) → Near j (read.case ns n ts) (read.case ns more ts)
  unfolding read.case
  case_near ts = near_then (Near.same {r = takes ts}) (λ p us. near_then (whole_at ns j n more room us) (λ a vs. Near.same))

  label_by_near : (o : Option Keyword) (ts : List Token) → Near j (read.label_by ns n o ts) (read.label_by ns more o ts)
  label_by_near (Some k.Case) ts = case_near ts
  label_by_near o ts = Near.same

  pub a_label_near : (ts : List Token) → Near j (read.a_label ns n ts) (read.a_label ns more ts)
  unfolding read.a_label
  a_label_near ts = label_by_near (key_at ts) ts

-- ---- statements: the readers one deeper have more room
pub record IsNear (j n : ℕ) (bodies wide : Bodies) : Type 0 where
  pub stmt : (ts : List Token) → Near j (bodies.stmt ts) (wide.stmt ts)
  pub items : (i : ℕ) → n ≡ suc i → (ts : List Token) → Near j (bodies.items ts) (wide.items ts)
  pub groups : (i : ℕ) → n ≡ suc i → (ts : List Token) → Near j (bodies.groups ts) (wide.groups ts)

module _ (ns : Names) (j n more : ℕ) (bodies wide : Bodies) (room : n + j ≡ more) (deeper : IsNear j n bodies wide) where
  block_near : (ts : List Token) → Near j (read.block ns n bodies ts) (read.block ns more wide ts)
  unfolding read.block
  block_near ts = near_other j n more room m.OpenBrace (λ c. cc) (λ c. cc) ts (λ i h p us. near_then (deeper.items i h us) (λ is vs. Near.same))

  call_stmt_near : (ts : List Token) → Near j (read.call_stmt ns n bodies ts) (read.call_stmt ns more wide ts)
  unfolding read.call_stmt
  call_stmt_near ts = near_then (call_near ns j n more room ts) (λ c us. Near.same)

  gives_near : (x : Place) (ts : List Token) → Near j (read.gives ns n bodies x ts) (read.gives ns more wide x ts)
  unfolding read.gives
  gives_near x ts = near_then (Near.same {r = expect m.Equal ts}) (λ p us. near_then (call_near ns j n more room us) (λ c vs. Near.same))

  simple_ended_near : (p q : Parser Simple) (ts : List Token) → Near j (p ts) (q ts) → Near j (read.simple_ended ns n bodies p ts) (read.simple_ended ns more wide q ts)
  unfolding read.simple_ended
  simple_ended_near p q ts one = near_then one (λ a us. Near.same)

  assigned_stmt_near : (star : Bool) (x : Place) (ts : List Token) → Near j (read.assigned_stmt ns n bodies star x ts) (read.assigned_stmt ns more wide star x ts)
  unfolding read.assigned_stmt
  assigned_stmt_near star x ts = near_if (sees m.Equal ts && read.sees_call ns (after ts)) (gives_near x ts) (simple_ended_near (read.assigned ns n star x) (read.assigned ns more star x) ts (assigned_near ns j n more room star x ts))

  placed_near : (ts : List Token) → Near j (read.placed ns n bodies ts) (read.placed ns more wide ts)
  unfolding read.placed
  placed_near ts = near_if (read.sees_call ns ts) (call_stmt_near ts) (near_then (place_at ns j n more room ts) (λ x us. assigned_stmt_near (begins_with_star ts) x us))

  if_stmt_near : (ts : List Token) → Near j (read.if_stmt ns n bodies ts) (read.if_stmt ns more wide ts)
  unfolding read.if_stmt
  if_stmt_near ts =
      near_then (Near.same {r = takes ts}) (λ p us.
      near_then (condition_near ns j n more room us) (λ c vs.
      near_then (deeper.stmt vs) (λ a ws.
      near_if (begins_with_else ws) (near_then (Near.same {r = takes ws}) (λ q xs. near_then (deeper.stmt xs) (λ o ys. Near.same))) Near.same)))

  while_stmt_near : (ts : List Token) → Near j (read.while_stmt ns n bodies ts) (read.while_stmt ns more wide ts)
  unfolding read.while_stmt
  while_stmt_near ts =
      near_then (Near.same {r = takes ts}) (λ p us.
      near_then (condition_near ns j n more room us) (λ c vs.
      near_then (deeper.stmt vs) (λ a ws. Near.same)))

  while_by_near : (o : Option Keyword) (ts : List Token) → Near j (read.while_by ns n bodies o ts) (read.while_by ns more wide o ts)
  while_by_near (Some k.While) ts = Near.same
  while_by_near o ts = Near.same

  pub expect_while_near : (ts : List Token) → Near j (read.expect_while ns n bodies ts) (read.expect_while ns more wide ts)
  unfolding read.expect_while
  expect_while_near ts = while_by_near (key_at ts) ts

  do_stmt_near : (ts : List Token) → Near j (read.do_stmt ns n bodies ts) (read.do_stmt ns more wide ts)
  unfolding read.do_stmt
  do_stmt_near ts =
      near_then (Near.same {r = takes ts}) (λ p us.
      near_then (deeper.stmt us) (λ a vs.
      near_then (expect_while_near vs) (λ q ws.
      near_then (condition_near ns j n more room ws) (λ c xs. Near.same))))

  for_stmt_near : (ts : List Token) → Near j (read.for_stmt ns n bodies ts) (read.for_stmt ns more wide ts)
  unfolding read.for_stmt
  for_stmt_near ts =
      near_then (Near.same {r = takes ts}) (λ p t2.
      near_paren j n more room t2 (λ h e p q vs. not_then _ _ (within_shut (read.first_of ns) more (mark m.OpenParen q ∷ vs) (one_more j n more room h e) (first_shut ns q vs))) (λ i h q t3.
      near_then (near_within j (read.first_of ns) (first_of_near ns j) n more room i h t3) (λ f t4.
      near_then (Near.same {r = expect m.Semicolon t4}) (λ r t5.
      near_then (near_within j (read.expr_before ns m.Semicolon) (expr_before_near ns m.Semicolon j) n more room i h t5) (λ c t6.
      near_then (Near.same {r = expect m.Semicolon t6}) (λ t t7.
      near_then (near_within j (read.simple_before ns m.CloseParen) (simple_before_near ns m.CloseParen j) n more room i h t7) (λ x t8.
      near_then (Near.same {r = expect m.CloseParen t8}) (λ u t9.
      near_then (deeper.stmt t9) (λ a end. Near.same)))))))))

  switch_stmt_near : (ts : List Token) → Near j (read.switch_stmt ns n bodies ts) (read.switch_stmt ns more wide ts)
  unfolding read.switch_stmt
  switch_stmt_near ts =
      near_then (Near.same {r = takes ts}) (λ p us.
      near_then (condition_near ns j n more room us) (λ c vs.
      near_other j n more room m.OpenBrace (λ c. cc) (λ c. cc) vs (λ i h q ws.
      near_then (deeper.groups i h ws) (λ gs xs. Near.same))))

  empty_near : (ts : List Token) → Near j (read.empty ns n bodies ts) (read.empty ns more wide ts)
  unfolding read.empty
  empty_near ts = Near.same

  break_near : (ts : List Token) → Near j (read.break ns n bodies ts) (read.break ns more wide ts)
  unfolding read.break
  break_near ts = Near.same

  return_near : (ts : List Token) → Near j (read.return ns n bodies ts) (read.return ns more wide ts)
  unfolding read.return
  return_near ts = near_then (Near.same {r = takes ts}) (λ p us. near_then (expr_before_near ns m.Semicolon j n more room us) (λ c vs. Near.same))

  mark_stmt_near : (o : Option Punct) (ts : List Token) → Near j (read.mark_stmt ns n bodies o ts) (read.mark_stmt ns more wide o ts)
  mark_stmt_near (Some m.OpenBrace) ts = block_near ts
  mark_stmt_near (Some m.Semicolon) ts = empty_near ts
  mark_stmt_near (Some m.PlusPlus) ts = simple_ended_near (read.simple ns n) (read.simple ns more) ts (simple_near ns j n more room ts)
  mark_stmt_near (Some m.MinusMinus) ts = simple_ended_near (read.simple ns n) (read.simple ns more) ts (simple_near ns j n more room ts)
  mark_stmt_near o ts = placed_near ts

  stmt_by_near : (o : Option Keyword) (ts : List Token) → Near j (read.stmt_by ns n bodies o ts) (read.stmt_by ns more wide o ts)
  stmt_by_near None ts = mark_stmt_near (mark_at ts) ts
  stmt_by_near (Some k.If) ts = if_stmt_near ts
  stmt_by_near (Some k.While) ts = while_stmt_near ts
  stmt_by_near (Some k.Do) ts = do_stmt_near ts
  stmt_by_near (Some k.For) ts = for_stmt_near ts
  stmt_by_near (Some k.Switch) ts = switch_stmt_near ts
  stmt_by_near (Some k.Break) ts = break_near ts
  stmt_by_near (Some k.Return) ts = return_near ts
  stmt_by_near (Some k.WaitForClock) ts = ended_near ns j n more room (read.bare n d.Wait) (read.bare more d.Wait) ts (bare_near ns j n more room d.Wait ts)
  stmt_by_near (Some k.Partition) ts = ended_near ns j n more room (read.bare n d.Partition) (read.bare more d.Partition) ts (bare_near ns j n more room d.Partition ts)
  stmt_by_near (Some k.KnownFact) ts = ended_near ns j n more room (read.with_expr ns n d.KnownFact) (read.with_expr ns more d.KnownFact) ts (with_expr_near ns j n more room d.KnownFact ts)
  stmt_by_near (Some k.Assert) ts = ended_near ns j n more room (read.with_expr ns n d.Assert) (read.with_expr ns more d.Assert) ts (with_expr_near ns j n more room d.Assert ts)
  stmt_by_near (Some w) ts = Near.same

  stmt_near : (ts : List Token) → Near j (read.stmt ns n bodies ts) (read.stmt ns more wide ts)
  unfolding read.stmt
  stmt_near ts = stmt_by_near (key_at ts) ts

  -- ---- what stands in braces
  pub block_item_near : (one other : Parser Stmt) → ((ts : List Token) → Near j (one ts) (other ts)) → (ts : List Token) → Near j (read.block_item ns n bodies one ts) (read.block_item ns more wide other ts)
  unfolding read.block_item
  block_item_near one other each ts = near_if (begins_type ns ts) (near_then (local_near ns j n more room ts) (λ l us. Near.same)) (near_then (each ts) (λ a us. Near.same))

  block_items_near : (one other : Parser Stmt) → ((ts : List Token) → Near j (one ts) (other ts)) → (ts : List Token) → Near j (read.block_items ns n bodies one ts) (read.block_items ns more wide other ts)
  unfolding read.block_items
  block_items_near one other each = near_many read.no_close (read.block_item ns n bodies one) (read.block_item ns more wide other) (block_item_near one other each)

  pub a_group_near : (ts : List Token) → Near j (read.a_group ns n bodies ts) (read.a_group ns more wide ts)
  unfolding read.a_group
  a_group_near ts =
      near_then (a_label_near ns j n more room ts) (λ l us.
      near_then (near_many begins_with_label (read.a_label ns n) (read.a_label ns more) (a_label_near ns j n more room) us) (λ ls vs.
      near_then (near_many (read.goes_on ns n bodies) bodies.stmt wide.stmt deeper.stmt vs) (λ ss ws. Near.same)))

  groups_near : (ts : List Token) → Near j (read.groups ns n bodies ts) (read.groups ns more wide ts)
  unfolding read.groups
  groups_near = near_many begins_with_label (read.a_group ns n bodies) (read.a_group ns more wide) a_group_near

-- ---- where no statement begins, none is read
not_some : {A : Type 0} (o : Option A) → is_some o ≡ false → o ≡ None
not_some None h = refl
not_some (Some x) h = cc

module _ (ns : Names) (n : ℕ) (bodies : Bodies) (ts : List Token) (unnamed : unless_type ns (name_at ts) ≡ None) where
  no_variable : variable ns ts ≡ Stuck ts
  unfolding variable
  no_variable = ap (λ o. taken o ts) unnamed

  no_by_name : expr.by_name ns n (inside ns n) ts ≡ Stuck ts
  unfolding expr.by_name
  no_by_name = ap (λ r. and_then r (λ x us. and_then (expr.steps ns n (inside ns n) us) (λ ss vs. Got (tree.place (at.Name x) ss) vs))) no_variable

  no_place_by : (o : Option Punct) → read.test_in read.mark_begins o ≡ false → expr.place_by ns n (inside ns n) o ts ≡ Stuck ts
  no_place_by (Some m.OpenParen) h = cc
  no_place_by (Some m.Star) h = cc
  no_place_by o h = no_by_name

  no_place : read.test_in read.mark_begins (mark_at ts) ≡ false → expr.place ns n (inside ns n) ts ≡ Stuck ts
  unfolding expr.place
  no_place h = no_place_by (mark_at ts) h

  no_call : read.sees_call ns ts ≡ false
  unfolding read.sees_call
  no_call = ap (λ o. read.is_some_and o (sees m.OpenParen (after ts))) unnamed

  no_placed : read.test_in read.mark_begins (mark_at ts) ≡ false → read.placed ns n bodies ts ≡ Stuck ts
  unfolding read.placed
  no_placed h =
      ap (λ b. cond b (read.call_stmt ns n bodies ts) (and_then (expr.place ns n (inside ns n) ts) (read.assigned_stmt ns n bodies (begins_with_star ts)))) no_call
      ∙ ap (λ r. and_then r (read.assigned_stmt ns n bodies (begins_with_star ts))) (no_place h)

  no_mark_stmt : (o : Option Punct) → read.test_in read.mark_begins o ≡ false → read.placed ns n bodies ts ≡ Stuck ts → read.mark_stmt ns n bodies o ts ≡ Stuck ts
  no_mark_stmt (Some m.OpenBrace) h e = cc
  no_mark_stmt (Some m.Semicolon) h e = cc
  no_mark_stmt (Some m.PlusPlus) h e = cc
  no_mark_stmt (Some m.MinusMinus) h e = cc
  no_mark_stmt o h e = e

  no_stmt_by : (o : Option Keyword) → read.test_in read.key_begins o ≡ false → read.mark_stmt ns n bodies (mark_at ts) ts ≡ Stuck ts → read.stmt_by ns n bodies o ts ≡ Stuck ts
  no_stmt_by None h e = e
  no_stmt_by (Some k.If) h e = cc
  no_stmt_by (Some k.While) h e = cc
  no_stmt_by (Some k.Do) h e = cc
  no_stmt_by (Some k.For) h e = cc
  no_stmt_by (Some k.Switch) h e = cc
  no_stmt_by (Some k.Break) h e = cc
  no_stmt_by (Some k.Return) h e = cc
  no_stmt_by (Some k.WaitForClock) h e = cc
  no_stmt_by (Some k.Partition) h e = cc
  no_stmt_by (Some k.KnownFact) h e = cc
  no_stmt_by (Some k.Assert) h e = cc
  no_stmt_by (Some w) h e = refl

none_read : (ns : Names) (n : ℕ) (bodies : Bodies) (ts : List Token) → read.begins_stmt ns ts ≡ false → read.stmt ns n bodies ts ≡ Stuck ts
unfolding read.stmt read.begins_stmt
none_read ns n bodies ts h =
    let all = or_parts (read.test_in read.key_begins (key_at ts) || read.test_in read.mark_begins (mark_at ts)) (is_some (unless_type ns (name_at ts))) h in
    let words = or_parts (read.test_in read.key_begins (key_at ts)) (read.test_in read.mark_begins (mark_at ts)) all.0 in
    let unnamed = not_some (unless_type ns (name_at ts)) all.1 in
    no_stmt_by ns n bodies ts unnamed (key_at ts) words.0 (no_mark_stmt ns n bodies ts unnamed (mark_at ts) words.1 (no_placed ns n bodies ts unnamed words.1))

-- ---- where no statement may be open
stmt_if : (ns : Names) (bodies : Bodies) (w : Keyword) (p q : Pos) (vs : List Token) → takes_bracket w ≡ true → NotGot (read.stmt ns zero bodies (key w p ∷ mark m.OpenParen q ∷ vs))
unfolding read.stmt read.if_stmt read.while_stmt read.for_stmt read.switch_stmt read.condition key_at
stmt_if ns bodies k.If p q vs h = rw (opens_shut zero q vs refl) tt
stmt_if ns bodies k.While p q vs h = rw (opens_shut zero q vs refl) tt
stmt_if ns bodies k.For p q vs h = rw (opens_shut zero q vs refl) tt
stmt_if ns bodies k.Switch p q vs h = rw (opens_shut zero q vs refl) tt
stmt_if ns bodies w p q vs h = cc

two_shut : {A : Type 0} (p : Parser A) (q r : Pos) (vs : List Token) → read.double_bracket 1 p (mark m.OpenParen q ∷ mark m.OpenParen r ∷ vs) ≡ Deep (mark m.OpenParen r ∷ vs)
unfolding read.double_bracket opens opens_any sees same_mark
two_shut p q r vs = refl

stmt_directive : (ns : Names) (bodies : Bodies) (w : Keyword) (p q r : Pos) (vs : List Token) → takes_two w ≡ true → NotGot (read.stmt ns 1 bodies (key w p ∷ mark m.OpenParen q ∷ mark m.OpenParen r ∷ vs))
unfolding read.stmt read.ended read.bare read.with_expr key_at
stmt_directive ns bodies k.WaitForClock p q r vs h = rw (two_shut (pure d.Wait) q r vs) tt
stmt_directive ns bodies k.Partition p q r vs h = rw (two_shut (pure d.Partition) q r vs) tt
stmt_directive ns bodies k.KnownFact p q r vs h = rw (two_shut (read.within (read.within (λ n. read.expr ns n)) 1) q r vs) tt
stmt_directive ns bodies k.Assert p q r vs h = rw (two_shut (read.within (read.within (λ n. read.expr ns n)) 1) q r vs) tt
stmt_directive ns bodies w p q r vs h = cc

stmt_bracket : (ns : Names) (bodies : Bodies) (p : Pos) (vs : List Token) → NotGot (read.stmt ns zero bodies (mark m.OpenParen p ∷ vs))
unfolding read.stmt read.placed read.sees_call key_at mark_at name_at
stmt_bracket ns bodies p vs = rw (place_shut ns (inside ns zero) p vs) tt

stmt_do : (ns : Names) (p q : Pos) (vs : List Token) → NotGot (read.stmt ns zero (read.bodies ns zero) (key k.Do p ∷ mark m.Semicolon q ∷ vs))
unfolding read.stmt read.do_stmt read.bodies read.begins_stmt key_at mark_at
stmt_do ns p q vs = tt

stmt_colon : (ns : Names) (bodies : Bodies) (p : Pos) (vs : List Token) → NotGot (read.stmt ns zero bodies (mark m.Colon p ∷ vs))
unfolding read.stmt read.placed read.sees_call expr.place expr.by_name variable key_at mark_at name_at
stmt_colon ns bodies p vs = tt

one_left : (j more : ℕ) → zero + j ≡ suc more → j ≡ 1 → more ≡ 0
one_left j more e h = omega (arith, e, h)

two_left : (j more : ℕ) → zero + j ≡ suc more → j ≡ 2 → more ≡ 1
two_left j more e h = omega (arith, e, h)

stmt_shut : (ns : Names) (j more : ℕ) (ts : List Token) → zero + j ≡ suc more → Next j ts → NotGot (read.stmt ns more (read.bodies ns more) ts)
stmt_shut ns j more ts e (Next.condition p q w vs h i f) = subst (λ n. NotGot (read.stmt ns n (read.bodies ns n) ts)) (sym (one_left j more e i)) (subst (λ z. NotGot (read.stmt ns zero (read.bodies ns zero) z)) (sym f) (stmt_if ns (read.bodies ns zero) w p q vs h))
stmt_shut ns j more ts e (Next.directive p q r w vs h i f) = subst (λ n. NotGot (read.stmt ns n (read.bodies ns n) ts)) (sym (two_left j more e i)) (subst (λ z. NotGot (read.stmt ns 1 (read.bodies ns 1) z)) (sym f) (stmt_directive ns (read.bodies ns 1) w p q r vs h))
stmt_shut ns j more ts e (Next.bracket p q vs i f) = subst (λ n. NotGot (read.stmt ns n (read.bodies ns n) ts)) (sym (one_left j more e i)) (subst (λ z. NotGot (read.stmt ns zero (read.bodies ns zero) z)) (sym f) (stmt_bracket ns (read.bodies ns zero) p (mark m.OpenParen q ∷ vs)))
stmt_shut ns j more ts e (Next.body p q vs i f) = subst (λ n. NotGot (read.stmt ns n (read.bodies ns n) ts)) (sym (one_left j more e i)) (subst (λ z. NotGot (read.stmt ns zero (read.bodies ns zero) z)) (sym f) (stmt_do ns p q vs))
stmt_shut ns j more ts e (Next.labelled p q vs i f) = subst (λ n. NotGot (read.stmt ns n (read.bodies ns n) ts)) (sym (one_left j more e i)) (subst (λ z. NotGot (read.stmt ns zero (read.bodies ns zero) z)) (sym f) (stmt_colon ns (read.bodies ns zero) p (mark m.Semicolon q ∷ vs)))

none_first : (ns : Names) (j more : ℕ) (ts : List Token) → zero + j ≡ suc more → (b : Bool) → read.begins_stmt ns ts ≡ b → Near j (cond b (Deep ts) (Stuck ts)) (read.stmt ns more (read.bodies ns more) ts)
none_first ns j more ts e true h = Near.out (λ x. stmt_shut ns j more ts e x)
none_first ns j more ts e false h = subst (λ r. Near j (Stuck ts) r) (sym (none_read ns more (read.bodies ns more) ts h)) Near.same

pub bodies_near : (ns : Names) (j n more : ℕ) → n + j ≡ more → IsNear j n (read.bodies ns n) (read.bodies ns more)
unfolding read.bodies
bodies_near ns j zero zero e = record { stmt = λ ts. Near.same; items = λ i h. cc; groups = λ i h. cc }
bodies_near ns j zero (suc more) e = record { stmt = λ ts. none_first ns j more ts e (read.begins_stmt ns ts) refl; items = λ i h. cc; groups = λ i h. cc }
bodies_near ns j (suc n) zero e = absurd (omega (arith, e))
bodies_near ns j (suc n) (suc more) e =
    let room : n + j ≡ more = omega (arith, e) in
    let deeper = bodies_near ns j n more room in
    let one = read.bodies ns n in
    let wide = read.bodies ns more in
    record {
      stmt = stmt_near ns j n more one wide room deeper;
      items = λ i h. block_items_near ns j n more one wide room deeper one.stmt wide.stmt deeper.stmt;
      groups = λ i h. groups_near ns j n more one wide room deeper;
    }

pub stmt_at_near : (ns : Names) (j n more : ℕ) → n + j ≡ more → (ts : List Token) → Near j (read.stmt_at ns n ts) (read.stmt_at ns more ts)
stmt_at_near ns j n more h = stmt_near ns j n more (read.bodies ns n) (read.bodies ns more) h (bodies_near ns j n more h)

outermost_near : (ns : Names) (j n more : ℕ) → n + j ≡ more → (ts : List Token) → Near j (read.outermost ns n ts) (read.outermost ns more ts)
unfolding read.outermost
outermost_near ns j n more h = block_items_near ns j n more (read.bodies ns n) (read.bodies ns more) h (bodies_near ns j n more h) (read.stmt_at ns n) (read.stmt_at ns more) (stmt_at_near ns j n more h)

-- ---- functions
pub param_near : (ns : Names) (j n more : ℕ) → n + j ≡ more → (ts : List Token) → Near j (read.param ns n ts) (read.param ns more ts)
unfolding read.param
param_near ns j n more room ts = near_then (specifiers_at ns j n more room ts) (λ t us. Near.same)

pub params_near : (ns : Names) (j n more : ℕ) → n + j ≡ more → (ts : List Token) → Near j (read.params ns n ts) (read.params ns more ts)
unfolding read.params
params_near ns j n more room ts = near_if (sees m.CloseParen ts) Near.same
    (near_if (is_void_alone ts) Near.same (near_then (near_list m.CloseParen (read.param ns n) (read.param ns more) (param_near ns j n more room) ts) (λ ps us. Near.same)))

module _ (ns : Names) (j n more : ℕ) (room : n + j ≡ more) where
  function_near : (t : Specifiers) (ts : List Token) → Near j (read.function ns n t ts) (read.function ns more t ts)
  unfolding read.function read.ends read.body
  function_near t t1 =
      near_then (Near.same {r = any_name t1}) (λ x t2.
      near_paren j n more room t2 (λ h e p q vs. not_then _ _ (within_shut (read.params ns) more (mark m.OpenParen q ∷ vs) (one_more j n more room h e) (params_shut ns q vs zero))) (λ i h p t3.
      near_then (near_within j (read.params ns) (params_near ns j) n more room i h t3) (λ ps t4.
      near_if (sees m.Semicolon t4) Near.same
      (near_if (all_named ps)
      (near_other j n more room m.OpenBrace (λ c. cc) (λ c. cc) t4 (λ i h r t5.
      near_then (near_within j (read.outermost ns) (outermost_near ns j) n more room i h t5) (λ bs t6. Near.same)))
      Near.same))))

  global_near : (t : Specifiers) (ts : List Token) → Near j (read.global ns n t ts) (read.global ns more t ts)
  unfolding read.global
  global_near t ts = near_then (near_list m.Semicolon (read.init_declr ns n) (read.init_declr ns more) (init_declr_near ns j n more room) ts) (λ xs us. Near.same)

  named_item_near : (t : Specifiers) (ts : List Token) → Near j (read.named_item ns n t ts) (read.named_item ns more t ts)
  unfolding read.named_item
  named_item_near t ts = near_if (read.sees_function ts) (function_near t ts) (global_near t ts)

  typedef_near : (ts : List Token) → Near j (read.typedef ns n ts) (read.typedef ns more ts)
  unfolding read.typedef
  typedef_near ts = near_then (Near.same {r = takes ts}) (λ p us. near_then (specifiers_at ns j n more room us) (λ t vs. Near.same))

  struct_or_near : (p : Pos) (t : Specifiers) (o : Option Struct) (ts : List Token) → Near j (read.struct_or ns n p t o ts) (read.struct_or ns more p t o ts)
  struct_or_near p t None ts = named_item_near t ts
  struct_or_near p t (Some x) ts = near_if (sees m.Semicolon ts) Near.same (named_item_near t ts)

  declared_near : (ts : List Token) → Near j (read.declared ns n ts) (read.declared ns more ts)
  unfolding read.declared
  declared_near ts = near_then (specifiers_at ns j n more room ts) (λ t us. struct_or_near (tree.pos_of ts) t (read.struct_of t) us)

  item_by_near : (o : Option Keyword) (ts : List Token) → Near j (read.item_by ns n o ts) (read.item_by ns more o ts)
  item_by_near (Some k.Typedef) ts = typedef_near ts
  item_by_near o ts = declared_near ts

  pub an_item_near : (ts : List Token) → Near j (read.an_item ns n ts) (read.an_item ns more ts)
  unfolding read.an_item
  an_item_near ts = item_by_near (key_at ts) ts

-- ---- sources
items_from_near : (j n more : ℕ) → n + j ≡ more → (left : ℕ) (ns : Names) (found : List Item) (ts : List Token) → Near j (read.items_from n left ns found ts) (read.items_from more left ns found ts)
unfolding read.items_from
items_from_near j n more room zero ns found ts = Near.same
items_from_near j n more room (suc left) ns found [] = Near.same
items_from_near j n more room (suc left) ns found (t ∷ ts) = near_then (an_item_near ns j n more room (t ∷ ts)) (λ x us. items_from_near j n more room left (read.names_after ns x) (found ++ x ∷ []) us)

pub source_near : (j n more : ℕ) → n + j ≡ more → (ts : List Token) → Near j (read.source n ts) (read.source more ts)
unfolding read.source
source_near j n more room ts = near_then (items_from_near j n more room (turns ts) [] [] ts) (λ is us. Near.same)

pub sources_agree : (n more : ℕ) → n ≤ more → (ts : List Token) → ((vs : List Token) × (read.source n ts ≡ Deep vs)) ⊎ (read.source n ts ≡ read.source more ts)
sources_agree n more h ts = agree (wider (λ n. read.source n) source_near n more h ts)
