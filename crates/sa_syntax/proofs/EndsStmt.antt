-- Where an initialiser, a call, an assignment, a local, a directive or a label is refused some text goes on.
use Rattle.std.proofs.Common.{◌≡◌, ℕ, zero, suc, ◌-◌, ◌≤◌, ◌<◌, List, [], ◌∷◌, ◌++◌, Bool, true, false, cond, refl, sym, ap, subst, length, arith, Option, Some, None}
use Rattle.sa_base.specs.declared.pos.Pos.{Pos}
use Rattle.sa_tokens.specs.declared.keyword.Keyword.{Keyword}
use Rattle.sa_tokens.specs.declared.keyword.Keyword.TheVariants as k
use Rattle.sa_tokens.specs.declared.punct.Punct.{Punct}
use Rattle.sa_tokens.specs.declared.punct.Punct.TheVariants as m
use Rattle.sa_tokens.specs.declared.token.Word.{Word}
use Rattle.sa_tokens.specs.declared.token.Word.TheVariants.{Name, Number, Key, Mark}
use Rattle.sa_tokens.specs.declared.token.Token.{Token}
use Rattle.sa_syntax.specs.declared.decl.Declr.{Declr}
use Rattle.sa_syntax.specs.declared.decl.Init.{Init}
use Rattle.sa_syntax.specs.declared.decl.Init.TheVariants as init
use Rattle.sa_syntax.specs.declared.decl.Start.TheVariants as start
use Rattle.sa_syntax.specs.declared.expr.Expr.{Expr}
use Rattle.sa_syntax.specs.declared.expr.Place.{Place}
use Rattle.sa_syntax.specs.declared.expr.PlaceBase.TheVariants as at
use Rattle.sa_syntax.specs.declared.stmt.Compound.{Compound}
use Rattle.sa_syntax.specs.declared.stmt.Update.{Update}
use Rattle.sa_syntax.specs.declared.stmt.Simple.{Simple}
use Rattle.sa_syntax.specs.declared.stmt.Simple.TheVariants as simply
use Rattle.sa_syntax.specs.declared.stmt.Arg.{Arg}
use Rattle.sa_syntax.specs.declared.stmt.ArgValue.TheVariants as value
use Rattle.sa_syntax.specs.declared.stmt.Directive.{Directive}
use Rattle.sa_syntax.specs.declared.stmt.First.TheVariants as first
use Rattle.sa_syntax.specs.declared.stmt.Label.TheVariants as label
use Rattle.sa_syntax.specs.declared.stmt.LocalStart.TheVariants as begins
use Rattle.sa_syntax.specs.Trees as tree
use Rattle.sa_syntax.specs.Words.{Names, mark, key, word, named, is_type_name, compound_of, update_of, is_label, begins_with_star, begins_with_label}
use Rattle.sa_syntax.specs.Expressions.{Whole, Place', Steps, Specifiers', Declr', Bounds}
use Rattle.sa_syntax.specs.Statements.{Init', Inits, InitDeclr', ArgValue', Args, Call', Simple', LocalDeclr', LocalDeclrs, Local', Directive', First', Condition', Next', Label'}
use Rattle.sa_syntax.specs.Refusals.{takes_two, Deepens}
use Rattle.sa_syntax.specs.Reading.{Parser, Got, Stuck, Deep, and_then, sees, opens, expect, variable, taken, name_at, key_at, mark_at, turns, pure, ◌>>=◌}
use Rattle.sa_syntax.specs.ReadExpr.{begins_type}
use Rattle.sa_syntax.specs.ReadStmt as read
use Rattle.sa_syntax.specs.ReadStmt.{takes, within, list}
use Rattle.sa_syntax.proofs.StmtSound.{InBrackets}
use Rattle.sa_syntax.proofs.Shorter.{place-shorter}
use Rattle.sa_syntax.proofs.ClosingExpr.{spot, close, nought, letter, letter_declr, fresh, fresh-is, zero-whole}
use Rattle.sa_syntax.proofs.EndsLemmas.{Ends, Some', Found, done, halts, ends_if, ends_reader, ends_map, seq, seq_with, seq_front, stepped, expect_then, expect_with, key_then, mark_then, seen_then, opens_then, opens_seen, opens_two, key_to, EndsAt, found_next, found_none, list_ends}
use Rattle.sa_syntax.proofs.EndsExpr as ends
use Rattle.sa_syntax.proofs.EndsExpr.{zero_expr, deeper_ends}

module _ (ns : Names) (n : ℕ) where
  pub expr_ends : (ts : List Token) → Ends n (Whole ns) (Some' (Whole ns)) ts (read.expr ns n ts)
  expr_ends ts = ends.whole_ends ns n (λ i h. deeper_ends ns i) ts

  pub place_ends : (ts : List Token) → Ends n (Place' ns) (Some' (Place' ns)) ts (read.place ns n ts)
  place_ends ts = ends.place_ends ns n (λ i h. deeper_ends ns i) ts

  pub specifiers_ends : (ts : List Token) → Ends n (Specifiers' ns) (Some' (Specifiers' ns)) ts (read.specifiers ns n ts)
  specifiers_ends ts = ends.specifiers_ends ns n (λ i h. deeper_ends ns i) ts

  pub declr_ends : (ts : List Token) → Ends n (Declr' ns) (Some' (Declr' ns)) ts (read.declr ns n ts)
  declr_ends ts = ends.declr_ends ns n (λ i h. deeper_ends ns i) ts

-- ---- initialisers
less_by_one : (t : Token) (us vs ts : List Token) (left : ℕ) → us ≡ t ∷ vs → length us ≤ length ts → length ts < suc left → length vs < left
less_by_one t us vs ts left e l h = let n : length us ≡ length (t ∷ vs) = ap length e in omega (arith, n, l, h)

inits_from_ends : (ns : Names) (i : ℕ) (one : Parser Init) → ((ts : List Token) → Ends i (Init' ns) (Some' (Init' ns)) ts (one ts)) → (left : ℕ) (found : List Init) (ts : List Token) → length ts < left → Ends i (Found found (Inits ns)) (Some' (Inits ns)) ts (read.inits_from one left found ts)
unfolding read.inits_from
inits_from_ends ns i one each zero found ts h = absurd (omega (arith, h))
inits_from_ends ns i one each (suc left) found ts h = seq_with (each ts) (close m.CloseBrace ∷ []) (λ r ss z l s. (s.0 ∷ [], Inits.last_init (s.1))) (λ x us e l j.
    ends_reader _ _ (sees m.Comma us) us
    (λ g. expect_with m.Comma us (close m.CloseBrace ∷ []) (λ r z l ss s. (x ∷ [], Inits.last_comma s)) (λ p vs o.
    ends_reader _ _ (sees m.CloseBrace vs) vs
    (λ c. expect_then m.CloseBrace vs [] (λ r z l ss s. (x ∷ [], Inits.last_comma s)) (λ q ws. done (λ r zs l f ss s. (x ∷ [], refl, Inits.last_comma s))))
    (λ c. ends_map (λ r ws a zs go ss s. (x ∷ go.0, found_next found x (go.0) a (go.1), Inits.next_init s (go.2))) (λ r ws z go ss s. (x ∷ go.0, Inits.next_init s (go.1))) (inits_from_ends ns i one each left (found ++ x ∷ []) vs (less_by_one (mark m.Comma p) us vs ts left o l h)))))
    (λ g. expect_then m.CloseBrace us [] (λ r z l ss s. (x ∷ [], Inits.last_init s)) (λ q vs. done (λ r zs l f ss s. (x ∷ [], refl, Inits.last_init s)))))

braces_ends : (ns : Names) (n : ℕ) (one : Parser Init) → ((i : ℕ) → n ≡ suc i → (ts : List Token) → Ends i (Init' ns) (Some' (Init' ns)) ts (one ts)) → (ts : List Token) → sees m.OpenBrace ts ≡ true → Ends n (Init' ns) (Some' (Init' ns)) ts (read.braces n one ts)
unfolding read.braces
braces_ends ns n one each ts g = opens_seen (λ n p. (λ ts. read.inits_from one (turns ts) [] ts) >>= (λ is. pure (init.Braces p is))) n m.OpenBrace ts g
    (λ i h p us. seq (found_none (inits_from_ends ns i one (each i h) (turns us) [] us (omega arith))) [] (λ r ss z l s. (init.Braces p (s.0), Init'.braces (s.1))) (λ is vs. done (λ r zs l f ss s. Init'.braces s)))

init_by_ends : (ns : Names) (n : ℕ) (one : Parser Init) → ((i : ℕ) → n ≡ suc i → (ts : List Token) → Ends i (Init' ns) (Some' (Init' ns)) ts (one ts)) → (ts : List Token) → Ends n (Init' ns) (Some' (Init' ns)) ts (read.init_by ns n one ts)
unfolding read.init_by
init_by_ends ns n one each ts = ends_if (sees m.OpenBrace ts) (λ h. braces_ends ns n one each ts h)
    (λ h. seq (expr_ends ns n ts) [] (λ r ss z l s. (init.Value (s.0), Init'.init_value (s.1))) (λ a us. done (λ r zs l f ss s. Init'.init_value s)))

pub init_ends : (ns : Names) (n : ℕ) (ts : List Token) → Ends n (Init' ns) (Some' (Init' ns)) ts (read.init_at ns n ts)
unfolding read.init_at
init_ends ns zero ts = init_by_ends ns zero (λ ts. Deep ts) (λ i h. cc) ts
init_ends ns (suc n) ts = init_by_ends ns (suc n) (read.init_at ns n) (λ i h us. let same : n ≡ i = omega (arith, h) in subst (λ i. Ends i (Init' ns) (Some' (Init' ns)) us (read.init_at ns n us)) same (init_ends ns n us)) ts

module _ (ns : Names) (n : ℕ) where
  pub init_declr_ends : (ts : List Token) → Ends n (InitDeclr' ns) (Some' (InitDeclr' ns)) ts (read.init_declr ns n ts)
  unfolding read.init_declr
  init_declr_ends ts = seq (declr_ends ns n ts) [] (λ r ss z l s. (tree.init_declr (s.0) start.Nothing, InitDeclr'.plain (s.1))) (λ x us. ends_if (sees m.Equal us)
      (λ h. expect_then m.Equal us (nought ∷ []) (λ r z l ss s. (tree.init_declr x (start.Init spot (init.Value zero_expr)), InitDeclr'.with_init s (Init'.init_value (zero-whole ns r z)))) (λ p vs.
      seq (init_ends ns n vs) [] (λ r ws z l t ss s. (tree.init_declr x (start.Init p (t.0)), InitDeclr'.with_init s (t.1))) (λ i ws. done (λ r zs l f ys t ss s. InitDeclr'.with_init s t))))
      (λ h. done (λ r zs l f ss s. InitDeclr'.plain s)))

  -- ---- calls
  arg_value_ends : (ts : List Token) → Ends n (ArgValue' ns) (Some' (ArgValue' ns)) ts (read.arg_value ns n ts)
  unfolding read.arg_value
  arg_value_ends ts = ends_if (sees m.Ampersand ts)
      (λ h. expect_then m.Ampersand ts (word (fresh ns) spot ∷ []) (λ r z l. (value.Reference spot (tree.place (at.Name (named (fresh ns) spot)) []), ArgValue'.reference (Place'.name (fresh-is ns) Steps.no_step))) (λ p us. seq (place_ends ns n us) [] (λ r ss z l s. (value.Reference p (s.0), ArgValue'.reference (s.1))) (λ x vs. done (λ r zs l f ss s. ArgValue'.reference s))))
      (λ h. seq (expr_ends ns n ts) [] (λ r ss z l s. (value.Value (s.0), ArgValue'.by_value (s.1))) (λ a us. done (λ r zs l f ss s. ArgValue'.by_value s)))

  args_from_ends : (left : ℕ) (p : Pos) (found : List Arg) (ts : List Token) → length ts < left → Ends n (Found found (λ r ts xs us. Args ns r p ts xs us)) (Some' (λ r ts xs us. Args ns r p ts xs us)) ts (read.args_from ns n left p found ts)
  unfolding read.args_from
  args_from_ends zero p found ts h = absurd (omega (arith, h))
  args_from_ends (suc left) p found ts h = seq_with (arg_value_ends ts) (close m.CloseParen ∷ []) (λ r ss z l s. (tree.arg p (s.0) ∷ [], Args.last_arg (s.1))) (λ v us e l j. ends_if (sees m.Comma us)
      (λ g. expect_with m.Comma us (nought ∷ close m.CloseParen ∷ []) (λ r z l ss s. (tree.arg p v ∷ tree.arg spot (value.Value zero_expr) ∷ [], Args.next_arg s (Args.last_arg (ArgValue'.by_value (zero-whole ns r (close m.CloseParen ∷ z)))))) (λ q vs o.
      ends_map (λ r ws a zs go ss s. (tree.arg p v ∷ go.0, found_next found (tree.arg p v) (go.0) a (go.1), Args.next_arg s (go.2))) (λ r ws z go ss s. (tree.arg p v ∷ go.0, Args.next_arg s (go.1))) (args_from_ends left q (found ++ tree.arg p v ∷ []) vs (less_by_one (mark m.Comma q) us vs ts left o l h))))
      (λ g. expect_then m.CloseParen us [] (λ r z l ss s. (tree.arg p v ∷ [], Args.last_arg s)) (λ q vs. done (λ r zs l f ss s. (tree.arg p v ∷ [], refl, Args.last_arg s)))))

-- behind a name and the opening bracket
abbrev AfterOpen : Names → Pos → ℕ → List Token → List Arg → List Token → Type 0
AfterOpen ns q r ts xs us = (w : List ℕ) (p : Pos) → is_type_name ns w ≡ false → Call' ns (suc r) (word w p ∷ mark m.OpenParen q ∷ ts) (tree.call (named w p) xs) us

args_ends : (ns : Names) (q : Pos) (n : ℕ) (ts : List Token) → Ends n (AfterOpen ns q) (Some' (AfterOpen ns q)) ts (read.args ns q n ts)
unfolding read.args
args_ends ns q n ts = ends_if (sees m.CloseParen ts) (λ h. seen_then m.CloseParen (λ us. Got [] us) ts h (λ p us e. done (λ r vs l f w at v. Call'.no_args v)))
    (λ h. ends_map (λ r us xs vs g w p v. Call'.args v g) (λ r us z s. (s.0, λ w p v. Call'.args v (s.1))) (found_none (args_from_ends ns n (turns ts) q [] ts (omega arith))))

opened_call : (ns : Names) (n : ℕ) (w : List ℕ) (at : Pos) (us : List Token) → sees m.OpenParen us ≡ true → is_type_name ns w ≡ false → Ends n (λ r vs c ws. Call' ns r (word w at ∷ vs) c ws) (λ r vs z. Some' (Call' ns) r (word w at ∷ vs) z) us ((opens n m.OpenParen >>= (λ p. within (read.args ns p) n >>= (λ xs. pure (tree.call (named w at) xs)))) us)
opened_call ns n w at us g v = opens_seen (λ n p. within (read.args ns p) n >>= (λ xs. pure (tree.call (named w at) xs))) n m.OpenParen us g
    (λ i h p vs. seq (args_ends ns p i vs) [] (λ r ss z l s. (tree.call (named w at) (s.0), s.1 w at v)) (λ xs ws. done (λ r zs l f ss s. s w at v)))

call_named : (ns : Names) (n : ℕ) (v : Word) (p : Pos) (us : List Token) (b : Bool) → let t : Token = record { word = v; pos = p } in read.sees_call ns (t ∷ us) ≡ true → Ends n (Call' ns) (Some' (Call' ns)) (t ∷ us) (read.call ns n (t ∷ us))
unfolding read.call read.sees_call name_at variable
call_named ns n (Name w) p us b h = by_test (is_type_name ns w) refl h
  where
    by_test : (x : Bool) → is_type_name ns w ≡ x → read.is_some_and (cond x None (Some (named w p))) (sees m.OpenParen us) ≡ true
        → Ends n (Call' ns) (Some' (Call' ns)) (word w p ∷ us) (and_then (taken (cond x None (Some (named w p))) (word w p ∷ us)) (λ x. opens n m.OpenParen >>= (λ q. within (read.args ns q) n >>= (λ xs. pure (tree.call x xs)))))
    by_test true g h = cc
    by_test false g h = stepped (word w p) (opened_call ns n w p us h g)
call_named ns n (Number v u l d) p us b h = cc
call_named ns n (Key j) p us b h = cc
call_named ns n (Mark j) p us b h = cc

pub call_ends : (ns : Names) (n : ℕ) (ts : List Token) → read.sees_call ns ts ≡ true → Ends n (Call' ns) (Some' (Call' ns)) ts (read.call ns n ts)
unfolding read.sees_call name_at
call_ends ns n [] h = cc
call_ends ns n (t ∷ us) h = call_named ns n t.word t.pos us true h

module _ (ns : Names) (n : ℕ) where
  -- ---- assignments
  compounded_ends : (star : Bool) (x : Place) (mk : Punct) (ts : List Token) → mark_at ts ≡ Some mk → (o : Option Compound) → compound_of mk ≡ o
      → Ends n (λ r us a vs. (ss : List Token) → Place' ns r ss x us → begins_with_star ss ≡ star → Simple' ns r ss a vs) (λ r us z. (ss : List Token) → Place' ns r ss x us → begins_with_star ss ≡ star → Some' (Simple' ns) r ss z) ts (read.compounded ns n x o ts)
  compounded_ends star x mk ts h None g = halts (close m.Equal) (nought ∷ []) (refl, refl) (λ r z l ss i e. (simply.Assign x spot zero_expr, Simple'.assign i (zero-whole ns r z)))
  compounded_ends star x mk ts h (Some op) g = mark_then mk ts h (λ p us. seq (expr_ends ns n us) [] (λ r vs z l s ss i e. (simply.Compound x op p (s.0), Simple'.compound i g (s.1))) (λ a vs. done (λ r zs l f us s ss i e. Simple'.compound i g s)))

  no_compound : (star : Bool) (x : Place) (ts : List Token)
      → Ends {A = Simple} n (λ r us a vs. (ss : List Token) → Place' ns r ss x us → begins_with_star ss ≡ star → Simple' ns r ss a vs) (λ r us z. (ss : List Token) → Place' ns r ss x us → begins_with_star ss ≡ star → Some' (Simple' ns) r ss z) ts (Stuck ts)
  no_compound star x ts = halts (close m.Equal) (nought ∷ []) (refl, refl) (λ r z l ss i e. (simply.Assign x spot zero_expr, Simple'.assign i (zero-whole ns r z)))

  after_ends : (star : Bool) (x : Place) (mk : Punct) (t : Update) (ts : List Token) → mark_at ts ≡ Some mk → update_of mk ≡ Some t
      → Ends n (λ r us a vs. (ss : List Token) → Place' ns r ss x us → begins_with_star ss ≡ star → Simple' ns r ss a vs) (λ r us z. (ss : List Token) → Place' ns r ss x us → begins_with_star ss ≡ star → Some' (Simple' ns) r ss z) ts (read.updated ns n star x (Some t) ts)
  after_ends true x mk t ts h g = no_compound true x ts
  after_ends false x mk t ts h g = mark_then mk ts h (λ p us. done (λ r zs l f ss i e. Simple'.after i g e))

  updated_ends : (star : Bool) (x : Place) (mk : Punct) (ts : List Token) → mark_at ts ≡ Some mk → (o : Option Update) → update_of mk ≡ o
      → Ends n (λ r us a vs. (ss : List Token) → Place' ns r ss x us → begins_with_star ss ≡ star → Simple' ns r ss a vs) (λ r us z. (ss : List Token) → Place' ns r ss x us → begins_with_star ss ≡ star → Some' (Simple' ns) r ss z) ts (read.updated ns n star x o ts)
  updated_ends star x mk ts h None g = subst (λ (o : Option Punct). Ends n (λ r us a vs. (ss : List Token) → Place' ns r ss x us → begins_with_star ss ≡ star → Simple' ns r ss a vs) (λ r us z. (ss : List Token) → Place' ns r ss x us → begins_with_star ss ≡ star → Some' (Simple' ns) r ss z) ts (read.compounded ns n x (read.compound_in o) ts)) (sym h) (compounded_ends star x mk ts h (compound_of mk) refl)
  updated_ends star x mk ts h (Some t) g = after_ends star x mk t ts h g

  updated_by : (star : Bool) (x : Place) (o : Option Punct) (ts : List Token) → mark_at ts ≡ o
      → Ends n (λ r us a vs. (ss : List Token) → Place' ns r ss x us → begins_with_star ss ≡ star → Simple' ns r ss a vs) (λ r us z. (ss : List Token) → Place' ns r ss x us → begins_with_star ss ≡ star → Some' (Simple' ns) r ss z) ts (read.updated ns n star x (read.update_in o) ts)
  updated_by star x None ts h = subst (λ (o : Option Punct). Ends n (λ r us a vs. (ss : List Token) → Place' ns r ss x us → begins_with_star ss ≡ star → Simple' ns r ss a vs) (λ r us z. (ss : List Token) → Place' ns r ss x us → begins_with_star ss ≡ star → Some' (Simple' ns) r ss z) ts (read.compounded ns n x (read.compound_in o) ts)) (sym h) (no_compound star x ts)
  updated_by star x (Some mk) ts h = updated_ends star x mk ts h (update_of mk) refl

  pub assigned_ends : (star : Bool) (x : Place) (ts : List Token)
      → Ends n (λ r us a vs. (ss : List Token) → Place' ns r ss x us → begins_with_star ss ≡ star → Simple' ns r ss a vs) (λ r us z. (ss : List Token) → Place' ns r ss x us → begins_with_star ss ≡ star → Some' (Simple' ns) r ss z) ts (read.assigned ns n star x ts)
  unfolding read.assigned
  assigned_ends star x ts = ends_if (sees m.Equal ts)
      (λ h. expect_then m.Equal ts (nought ∷ []) (λ r z l ss i e. (simply.Assign x spot zero_expr, Simple'.assign i (zero-whole ns r z))) (λ p us.
      seq (expr_ends ns n us) [] (λ r vs z l s ss i e. (simply.Assign x p (s.0), Simple'.assign i (s.1))) (λ a vs. done (λ r zs l f us s ss i e. Simple'.assign i s))))
      (λ h. updated_by star x (mark_at ts) ts refl)

-- what a place takes has the first token
pub star_same : (b us vs ts : List Token) → ts ≡ b ++ us → length us < length ts → begins_with_star (b ++ vs) ≡ begins_with_star ts
star_same [] us vs ts e h = let n : length ts ≡ length us = ap length e in absurd (omega (arith, n, h))
star_same (c ∷ b) us vs ts e h = sym (ap begins_with_star e)

module _ (ns : Names) (n : ℕ) where
  placed_ends : (ts : List Token) → Ends n (Simple' ns) (Some' (Simple' ns)) ts ((read.place ns n >>= read.assigned ns n (begins_with_star ts)) ts)
  placed_ends ts = seq_front (place_ends ns n ts) (close m.Equal ∷ nought ∷ []) (λ r ss z l s. (simply.Assign (s.0) spot zero_expr, Simple'.assign (s.1) (zero-whole ns r z))) (λ x b us e f i.
      let short : length us < length ts = place-shorter i in
      ends_map (λ r vs a ws g j. g (b ++ vs) j (star_same b us vs ts f short)) (λ r vs z g j. g (b ++ vs) j (star_same b us vs ts f short)) (assigned_ends ns n (begins_with_star ts) x us))

  simple_update : (mk : Punct) (ts : List Token) → mark_at ts ≡ Some mk → (o : Option Update) → update_of mk ≡ o → Ends n (Simple' ns) (Some' (Simple' ns)) ts (read.simple_by ns n o ts)
  unfolding read.before
  simple_update mk ts h None g = placed_ends ts
  simple_update mk ts h (Some t) g = mark_then mk ts h (λ p us. seq (place_ends ns n us) [] (λ r ss z l s. (simply.Before t p (s.0), Simple'.before g (s.1))) (λ x vs. done (λ r zs l f ss s. Simple'.before g s)))

  simple_mark : (o : Option Punct) (ts : List Token) → mark_at ts ≡ o → Ends n (Simple' ns) (Some' (Simple' ns)) ts (read.simple_by ns n (read.update_in o) ts)
  simple_mark None ts h = placed_ends ts
  simple_mark (Some mk) ts h = simple_update mk ts h (update_of mk) refl

  pub simple_ends : (ts : List Token) → Ends n (Simple' ns) (Some' (Simple' ns)) ts (read.simple ns n ts)
  unfolding read.simple
  simple_ends ts = simple_mark (mark_at ts) ts refl

  -- ---- locals
  local_start_ends : (x : Declr) (us : List Token) → Ends n (λ r vs l ws. (ss : List Token) → Declr' ns r ss x vs → LocalDeclr' ns r ss l ws) (λ r vs z. (ss : List Token) → Declr' ns r ss x vs → Some' (LocalDeclr' ns) r ss z) us (read.local_start ns n x us)
  unfolding read.local_start
  local_start_ends x us = expect_then m.Equal us (nought ∷ []) (λ r z l ss s. (tree.local_declr x (begins.Init spot (init.Value zero_expr)), LocalDeclr'.with_init s (Init'.init_value (zero-whole ns r z)))) (λ p vs. ends_if (read.sees_call ns vs)
      (λ h. seq (call_ends ns n vs h) [] (λ r ws z l t ss s. (tree.local_declr x (begins.Call p (t.0)), LocalDeclr'.with_call s (t.1))) (λ c ws. done (λ r zs l f ys t ss s. LocalDeclr'.with_call s t)))
      (λ h. seq (init_ends ns n vs) [] (λ r ws z l t ss s. (tree.local_declr x (begins.Init p (t.0)), LocalDeclr'.with_init s (t.1))) (λ i ws. done (λ r zs l f ys t ss s. LocalDeclr'.with_init s t))))

  local_declr_ends : (ts : List Token) → Ends n (LocalDeclr' ns) (Some' (LocalDeclr' ns)) ts (read.local_declr ns n ts)
  unfolding read.local_declr
  local_declr_ends ts = seq (declr_ends ns n ts) [] (λ r ss z l s. (tree.local_declr (s.0) begins.Nothing, LocalDeclr'.plain (s.1))) (λ x us. ends_if (sees m.Equal us) (λ h. local_start_ends x us) (λ h. done (λ r zs l f ss s. LocalDeclr'.plain s)))

  pub local_ends : (ts : List Token) → Ends n (Local' ns) (Some' (Local' ns)) ts (read.local ns n ts)
  unfolding read.local
  local_ends ts = seq (specifiers_ends ns n ts) (word letter spot ∷ close m.Semicolon ∷ []) (λ r ss z l s. (tree.local (s.0) (tree.local_declr letter_declr begins.Nothing ∷ []), Local'.local (s.1) (LocalDeclrs.last_local (LocalDeclr'.plain (Declr'.declr Bounds.no_bound))))) (λ t us.
      seq (list_ends n (LocalDeclr' ns) (LocalDeclrs ns) m.Semicolon (read.local_declr ns n) (λ r ts x p us i. LocalDeclrs.last_local i) (λ r ts x p us xs vs i go. LocalDeclrs.next_local i go) local_declr_ends us) []
      (λ r vs z l i ss s. (tree.local t (i.0), Local'.local s (i.1))) (λ ds vs. done (λ r zs l f us i ss s. Local'.local s i)))

-- ---- directives
one_less : (k : ℕ) → suc k - 1 ≡ k
one_less k = omega arith

pub bare_ends : (ns : Names) (n : ℕ) (kw : Keyword) (x : Directive) → takes_two kw ≡ true → ((r : ℕ) (p q o s t : Pos) (us : List Token) → Directive' ns (suc (suc r)) (key kw p ∷ mark m.OpenParen q ∷ mark m.OpenParen o ∷ mark m.CloseParen s ∷ mark m.CloseParen t ∷ us) x us)
    → (ts : List Token) → key_at ts ≡ Some kw → Ends n (Directive' ns) (Some' (Directive' ns)) ts (read.bare n x ts)
unfolding read.bare read.double_bracket
bare_ends ns n kw x two make ts h = key_to kw ts h (λ p. Deepens.directive two) (λ p us.
    opens_two (λ n q. opens (n - 1) m.OpenParen >>= (λ r. expect m.CloseParen >>= (λ _. expect m.CloseParen >>= (λ _. pure x)))) n us (close m.CloseParen ∷ close m.CloseParen ∷ []) (λ r z l. one_up r p z l)
    (λ i g q vs. subst (λ k. EndsAt (close m.OpenParen ∷ []) i (λ r vs c ws. Directive' ns (suc r) (key kw p ∷ mark m.OpenParen q ∷ vs) c ws) (λ r vs z. Some' (Directive' ns) (suc r) (key kw p ∷ mark m.OpenParen q ∷ vs) z) vs (and_then (opens k m.OpenParen vs) (λ r. expect m.CloseParen >>= (λ _. expect m.CloseParen >>= (λ _. pure x))))) (sym (one_less i))
    (opens_then (λ i r. expect m.CloseParen >>= (λ _. expect m.CloseParen >>= (λ _. pure x))) i m.OpenParen vs (close m.CloseParen ∷ close m.CloseParen ∷ []) (λ r z. (x, make r p q spot spot spot z)) (λ j e o ws.
    expect_then m.CloseParen ws (close m.CloseParen ∷ []) (λ r z l. (x, make r p q o spot spot z)) (λ s xs.
    expect_then m.CloseParen xs [] (λ r z l. (x, make r p q o s spot z)) (λ t ys. done (λ r zs l f. make r p q o s t zs)))))))
  where
    one_up : (r : ℕ) (p : Pos) (z : List Token) → 1 ≤ r → Some' (Directive' ns) (suc r) (key kw p ∷ close m.OpenParen ∷ close m.OpenParen ∷ close m.CloseParen ∷ close m.CloseParen ∷ z) z
    one_up zero p z l = absurd (omega (arith, l))
    one_up (suc r) p z l = (x, make r p spot spot spot spot z)

pub with_expr_ends : (ns : Names) (n : ℕ) (kw : Keyword) (f : Expr → Directive) → takes_two kw ≡ true → ((r : ℕ) (p q o s t : Pos) (ts us : List Token) (a : Expr) → Whole ns r ts a (mark m.CloseParen s ∷ mark m.CloseParen t ∷ us) → Directive' ns (suc (suc r)) (key kw p ∷ mark m.OpenParen q ∷ mark m.OpenParen o ∷ ts) (f a) us)
    → (ts : List Token) → key_at ts ≡ Some kw → Ends n (Directive' ns) (Some' (Directive' ns)) ts (read.with_expr ns n f ts)
unfolding read.with_expr read.double_bracket
with_expr_ends ns n kw f two make ts h = seq {F = λ r ts a us. Directive' ns r ts (f a) us} {E = λ r ts z. (a : Expr) × Directive' ns r ts (f a) z} (key_to kw ts h (λ p. Deepens.directive two) (λ p us.
    opens_two (λ n q. opens (n - 1) m.OpenParen >>= (λ r. within (within (λ n. read.expr ns n)) n >>= (λ a. expect m.CloseParen >>= (λ _. expect m.CloseParen >>= (λ _. pure a))))) n us (nought ∷ close m.CloseParen ∷ close m.CloseParen ∷ []) (λ r z l. one_up r p z l)
    (λ i g q vs. subst (λ k. EndsAt (close m.OpenParen ∷ []) i (λ r vs a ws. Directive' ns (suc r) (key kw p ∷ mark m.OpenParen q ∷ vs) (f a) ws) (λ r vs z. (a : Expr) × Directive' ns (suc r) (key kw p ∷ mark m.OpenParen q ∷ vs) (f a) z) vs (and_then (opens k m.OpenParen vs) (λ r. within (λ n. read.expr ns n) i >>= (λ a. expect m.CloseParen >>= (λ _. expect m.CloseParen >>= (λ _. pure a)))))) (sym (one_less i))
    (opens_then (λ i r. within (λ n. read.expr ns n) i >>= (λ a. expect m.CloseParen >>= (λ _. expect m.CloseParen >>= (λ _. pure a)))) i m.OpenParen vs (nought ∷ close m.CloseParen ∷ close m.CloseParen ∷ []) (λ r z. (zero_expr, make r p q spot spot spot _ z zero_expr (zero-whole ns r (close m.CloseParen ∷ close m.CloseParen ∷ z)))) (λ j e o ws.
    seq (expr_ends ns j ws) (close m.CloseParen ∷ close m.CloseParen ∷ []) (λ r ss z l s. (s.0, make r p q o spot spot ss z (s.0) (s.1))) (λ a xs.
    expect_then m.CloseParen xs (close m.CloseParen ∷ []) (λ r z l ss s. (a, make r p q o spot spot ss z a s)) (λ c ys.
    expect_then m.CloseParen ys [] (λ r z l ss s. (a, make r p q o c spot ss z a s)) (λ t zs. done (λ r zs l f ss s. make r p q o c t ss zs a s)))))))))
    [] (λ r ss z l s. (f (s.0), s.1)) (λ a us. done (λ r zs l o ss s. s))
  where
    one_up : (r : ℕ) (p : Pos) (z : List Token) → 1 ≤ r → (a : Expr) × Directive' ns (suc r) (key kw p ∷ close m.OpenParen ∷ close m.OpenParen ∷ nought ∷ close m.CloseParen ∷ close m.CloseParen ∷ z) (f a) z
    one_up zero p z l = absurd (omega (arith, l))
    one_up (suc r) p z l = (zero_expr, make r p spot spot spot spot _ z zero_expr (zero-whole ns r (close m.CloseParen ∷ close m.CloseParen ∷ z)))

-- ---- parts of statements
in_brackets : (ns : Names) (r : ℕ) (p q : Pos) (us : List Token) (c : Expr) (vs : List Token) → Whole ns r us c (mark m.CloseParen q ∷ vs) → InBrackets ns (suc r) (mark m.OpenParen p ∷ us) c vs
in_brackets ns r p q us c vs i = InBrackets.in_brackets i

abbrev is_label_key : Option Keyword → Bool
is_label_key (Some k.Case) = true
is_label_key (Some k.Default) = true
is_label_key o = false

label_key : (j : Keyword) → is_label (Key j) ≡ true → is_label_key (Some j) ≡ true
label_key k.Case h = refl
label_key k.Default h = refl
label_key j h = cc

label_word : (v : Word) (p : Pos) (us : List Token) → is_label v ≡ true → is_label_key (key_at ((record { word = v; pos = p }) ∷ us)) ≡ true
unfolding key_at
label_word (Key j) p us h = label_key j h
label_word (Name w) p us h = cc
label_word (Number v u l d) p us h = cc
label_word (Mark j) p us h = cc

label_at : (ts : List Token) → begins_with_label ts ≡ true → is_label_key (key_at ts) ≡ true
label_at [] h = cc
label_at (t ∷ us) h = label_word t.word t.pos us h

module _ (ns : Names) (n : ℕ) where
  pub condition_ends : (ts : List Token) → EndsAt (close m.OpenParen ∷ []) n (InBrackets ns) (Some' (InBrackets ns)) ts (read.condition ns n ts)
  unfolding read.condition
  condition_ends ts = opens_then (λ n p. within (read.expr ns) n >>= (λ a. expect m.CloseParen >>= (λ q. pure a))) n m.OpenParen ts (nought ∷ close m.CloseParen ∷ []) (λ r z. (zero_expr, InBrackets.in_brackets (zero-whole ns r (close m.CloseParen ∷ z))))
      (λ i h p us. seq (expr_ends ns i us) (close m.CloseParen ∷ []) (λ r ss z l s. (s.0, InBrackets.in_brackets (s.1))) (λ a vs.
      expect_then m.CloseParen vs [] (λ r z l ss s. (a, InBrackets.in_brackets s)) (λ q ws. done (λ r zs l f ss s. InBrackets.in_brackets s))))

  declares_ends : (ts : List Token) → Ends n (First' ns) (Some' (First' ns)) ts (read.declares ns n ts)
  unfolding read.declares
  declares_ends ts = seq (specifiers_ends ns n ts) (word letter spot ∷ close m.Equal ∷ nought ∷ []) (λ r ss z l s. (first.Declares (s.0) letter_declr spot zero_expr, First'.declares (s.1) (Declr'.declr Bounds.no_bound) (zero-whole ns r z))) (λ t us.
      seq (declr_ends ns n us) (close m.Equal ∷ nought ∷ []) (λ r vs z l i ss s. (first.Declares t (i.0) spot zero_expr, First'.declares s (i.1) (zero-whole ns r z))) (λ x vs.
      expect_then m.Equal vs (nought ∷ []) (λ r z l us i ss s. (first.Declares t x spot zero_expr, First'.declares s i (zero-whole ns r z))) (λ p ws.
      seq (expr_ends ns n ws) [] (λ r xs z l j us i ss s. (first.Declares t x p (j.0), First'.declares s i (j.1))) (λ a xs. done (λ r zs l f ys j us i ss s. First'.declares s i j)))))

  pub first_ends : (ts : List Token) → Ends n (First' ns) (Some' (First' ns)) ts (read.first_of ns n ts)
  unfolding read.first_of
  first_ends ts = ends_if (sees m.Semicolon ts) (λ h. done (λ r zs l f. First'.nothing)) (λ h. ends_if (begins_type ns ts) (λ g. declares_ends ts)
      (λ g. seq (simple_ends ns n ts) [] (λ r ss z l s. (first.Simple (s.0), First'.simply (s.1))) (λ a us. done (λ r zs l f ss s. First'.simply s))))

  pub expr_before_ends : (mk : Punct) (ts : List Token) → Ends n (Condition' ns) (Some' (Condition' ns)) ts (read.expr_before ns mk n ts)
  unfolding read.expr_before
  expr_before_ends mk ts = ends_if (sees mk ts) (λ h. done (λ r zs l f. Condition'.always)) (λ h. seq (expr_ends ns n ts) [] (λ r ss z l s. (Some (s.0), Condition'.while (s.1))) (λ a us. done (λ r zs l f ss s. Condition'.while s)))

  pub simple_before_ends : (mk : Punct) (ts : List Token) → Ends n (Next' ns) (Some' (Next' ns)) ts (read.simple_before ns mk n ts)
  unfolding read.simple_before
  simple_before_ends mk ts = ends_if (sees mk ts) (λ h. done (λ r zs l f. Next'.nothing)) (λ h. seq (simple_ends ns n ts) [] (λ r ss z l s. (Some (s.0), Next'.simply (s.1))) (λ a us. done (λ r zs l f ss s. Next'.simply s)))

  case_ends : (ts : List Token) → key_at ts ≡ Some k.Case → Ends n (Label' ns) (Some' (Label' ns)) ts (read.case ns n ts)
  unfolding read.case
  case_ends ts h = key_then k.Case ts h (λ p us. seq (expr_ends ns n us) (close m.Colon ∷ []) (λ r ss z l s. (label.Case p (s.0), Label'.case (s.1))) (λ a vs.
      expect_then m.Colon vs [] (λ r z l ss s. (label.Case p a, Label'.case s)) (λ q ws. done (λ r zs l f ss s. Label'.case s))))

  default_ends : (ts : List Token) → key_at ts ≡ Some k.Default → Ends n (Label' ns) (Some' (Label' ns)) ts (read.default ts)
  unfolding read.default
  default_ends ts h = key_then k.Default ts h (λ p us. expect_then m.Colon us [] (λ r z l. (label.Default p, Label'.default)) (λ q ws. done (λ r zs l f. Label'.default)))

  label_by_ends : (o : Option Keyword) (ts : List Token) → key_at ts ≡ o → is_label_key o ≡ true → Ends n (Label' ns) (Some' (Label' ns)) ts (read.label_by ns n o ts)
  label_by_ends (Some k.Case) ts h g = case_ends ts h
  label_by_ends (Some k.Default) ts h g = default_ends ts h
  label_by_ends o ts h g = cc

  pub label_ends : (ts : List Token) → begins_with_label ts ≡ true → Ends n (Label' ns) (Some' (Label' ns)) ts (read.a_label ns n ts)
  unfolding read.a_label
  label_ends ts h = label_by_ends (key_at ts) ts refl (label_at ts h)
