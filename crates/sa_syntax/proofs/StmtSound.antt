-- What is read as an initialiser, a call, an assignment, a local or a part of a statement is in the grammar.
use Rattle.std.proofs.Common.{◌≡◌, ℕ, zero, suc, ◌-◌, List, [], ◌∷◌, ◌++◌, Bool, false, refl, sym, ◌∙◌, subst, arith, append_assoc, Option, Some, None}
use Rattle.sa_base.specs.declared.pos.Pos.{Pos}
use Rattle.sa_tokens.specs.declared.keyword.Keyword.{Keyword}
use Rattle.sa_tokens.specs.declared.keyword.Keyword.TheVariants as k
use Rattle.sa_tokens.specs.declared.punct.Punct.{Punct}
use Rattle.sa_tokens.specs.declared.punct.Punct.TheVariants as m
use Rattle.sa_tokens.specs.declared.token.Token.{Token}
use Rattle.sa_syntax.specs.declared.decl.Name.{Name as Named}
use Rattle.sa_syntax.specs.declared.decl.Specifiers.{Specifiers}
use Rattle.sa_syntax.specs.declared.decl.Declr.{Declr}
use Rattle.sa_syntax.specs.declared.decl.Init.{Init}
use Rattle.sa_syntax.specs.declared.decl.Init.TheVariants as init
use Rattle.sa_syntax.specs.declared.decl.Start.TheVariants as start
use Rattle.sa_syntax.specs.declared.expr.Expr.{Expr}
use Rattle.sa_syntax.specs.declared.expr.Place.{Place}
use Rattle.sa_syntax.specs.declared.stmt.Compound.{Compound}
use Rattle.sa_syntax.specs.declared.stmt.Update.{Update}
use Rattle.sa_syntax.specs.declared.stmt.Simple.{Simple}
use Rattle.sa_syntax.specs.declared.stmt.Simple.TheVariants as simply
use Rattle.sa_syntax.specs.declared.stmt.Call.{Call}
use Rattle.sa_syntax.specs.declared.stmt.Arg.{Arg}
use Rattle.sa_syntax.specs.declared.stmt.ArgValue.{ArgValue}
use Rattle.sa_syntax.specs.declared.stmt.ArgValue.TheVariants as value
use Rattle.sa_syntax.specs.declared.stmt.Directive.{Directive}
use Rattle.sa_syntax.specs.declared.stmt.Directive.TheVariants as d
use Rattle.sa_syntax.specs.declared.stmt.First.TheVariants as first
use Rattle.sa_syntax.specs.declared.stmt.Label.{Label}
use Rattle.sa_syntax.specs.declared.stmt.Label.TheVariants as label
use Rattle.sa_syntax.specs.declared.stmt.LocalStart.TheVariants as begins
use Rattle.sa_syntax.specs.Trees as tree
use Rattle.sa_syntax.specs.Words.{Names, mark, key, word, named, is_type_name, compound_of, update_of, begins_with_star, begins_with_label}
use Rattle.sa_syntax.specs.Expressions.{Whole, Place', Specifiers', Declr'}
use Rattle.sa_syntax.specs.Statements.{Init', Inits, InitDeclr', InitDeclrs, ArgValue', Args, Call', Simple', LocalDeclr', LocalDeclrs, Local', Directive', First', Condition', Next', Label', Labels}
use Rattle.sa_syntax.specs.Reading.{Parser, Got, Deep, sees, after, key_at, mark_at, many, turns}
use Rattle.sa_syntax.specs.ReadExpr.{begins_type}
use Rattle.sa_syntax.specs.ReadStmt as read
use Rattle.sa_syntax.specs.ReadStmt.{takes}
use Rattle.sa_syntax.proofs.ReadingLemmas.{Yields, then_yields, map_yields, if_yields, if_reader_yields, Marked, expect_yields, Opened, opens_yields, IsVariable, variable_yields, KeyAt, MarkAt, take_key_at, take_mark_at, sees_is, many_yields}
use Rattle.sa_syntax.proofs.ExprSound.{Within, whole_yields, place_yields, specifiers_yields, declr_yields}

-- ---- one deeper
pub within_yields : {A : Type 0} (P : ℕ → List Token → A → List Token → Type 0) (p : ℕ → Parser A) → ((n : ℕ) (ts : List Token) → Yields (λ a us. P n ts a us) (p n ts)) → (n : ℕ) (ts : List Token) → Yields (λ a us. Within P n ts a us) (read.within p n ts)
within_yields P p one zero ts = Yields.deep
within_yields P p one (suc n) ts = one n ts

pub no_room : {m : Punct} {ts us : List Token} {p : Pos} → Opened m zero ts p us → ⊥
no_room o = elim o [ ]

-- ---- items with a mark after each
-- what the rest of a list says, behind what was found
abbrev pub Behind : {A : Type 0} → List A → (List A → Type 0) → List A → Type 0
Behind {A} found P xs = (ys : List A) × (xs ≡ found ++ ys) × P ys

last_from : {A : Type 0} (One : List Token → A → List Token → Type 0) (Rest : List Token → List A → List Token → Type 0) (close : Punct)
    → ((ts : List Token) (x : A) (p : Pos) (us : List Token) → One ts x (mark close p ∷ us) → Rest ts (x ∷ []) us)
    → (ts : List Token) (x : A) (us : List Token) (p : Pos) (vs : List Token) → One ts x us → Marked close us p vs → Rest ts (x ∷ []) vs
last_from One Rest close last ts x _ p vs i Marked.marked = last ts x p vs i

next_from : {A : Type 0} (One : List Token → A → List Token → Type 0) (Rest : List Token → List A → List Token → Type 0)
    → ((ts : List Token) (x : A) (p : Pos) (us : List Token) (xs : List A) (vs : List Token) → One ts x (mark m.Comma p ∷ us) → Rest us xs vs → Rest ts (x ∷ xs) vs)
    → (ts : List Token) (x : A) (us : List Token) (p : Pos) (vs : List Token) (xs : List A) (ws : List Token) → One ts x us → Marked m.Comma us p vs → Rest vs xs ws → Rest ts (x ∷ xs) ws
next_from One Rest next ts x _ p vs xs ws i Marked.marked more = next ts x p vs xs ws i more

list_from_yields : {A : Type 0} (One : List Token → A → List Token → Type 0) (Rest : List Token → List A → List Token → Type 0) (close : Punct) (one : Parser A)
    → ((ts : List Token) (x : A) (p : Pos) (us : List Token) → One ts x (mark close p ∷ us) → Rest ts (x ∷ []) us)
    → ((ts : List Token) (x : A) (p : Pos) (us : List Token) (xs : List A) (vs : List Token) → One ts x (mark m.Comma p ∷ us) → Rest us xs vs → Rest ts (x ∷ xs) vs)
    → ((ts : List Token) → Yields (λ x us. One ts x us) (one ts))
    → (n : ℕ) (found : List A) (ts : List Token) → Yields (λ xs us. Behind found (λ ys. Rest ts ys us) xs) (read.list_from close one n found ts)
unfolding read.list_from
list_from_yields One Rest close one last next each zero found ts = Yields.stuck
list_from_yields One Rest close one last next each (suc n) found ts =
    then_yields (each ts) (λ x us i.
    if_yields (sees m.Comma us)
    (λ h. let c = sees_is m.Comma us h in
    map_yields (λ xs vs p. (x ∷ p.0, p.1 ∙ append_assoc found (x ∷ []) p.0, next_from One Rest next ts x us c.0 (after us) p.0 vs i c.1 p.2)) (list_from_yields One Rest close one last next each n (found ++ x ∷ []) (after us)))
    (λ h. then_yields (expect_yields close us) (λ p vs c. Yields.got (x ∷ [], refl, last_from One Rest close last ts x us p vs i c))))

pub list_yields : {A : Type 0} (One : List Token → A → List Token → Type 0) (Rest : List Token → List A → List Token → Type 0) (close : Punct) (one : Parser A)
    → ((ts : List Token) (x : A) (p : Pos) (us : List Token) → One ts x (mark close p ∷ us) → Rest ts (x ∷ []) us)
    → ((ts : List Token) (x : A) (p : Pos) (us : List Token) (xs : List A) (vs : List Token) → One ts x (mark m.Comma p ∷ us) → Rest us xs vs → Rest ts (x ∷ xs) vs)
    → ((ts : List Token) → Yields (λ x us. One ts x us) (one ts))
    → (ts : List Token) → Yields (λ xs us. Rest ts xs us) (read.list close one ts)
list_yields One Rest close one last next each ts = map_yields (λ xs us p. subst (λ ys. Rest ts ys us) (sym p.1) p.2) (list_from_yields One Rest close one last next each (turns ts) [] ts)

-- ---- initialisers
module _ (ns : Names) (n : ℕ) (one : Parser Init) (each : (ts : List Token) → Yields (λ i us. Init' ns n ts i us) (one ts)) where
  last_init_from : (ts : List Token) (i : Init) (us : List Token) (p : Pos) (vs : List Token) → Init' ns n ts i us → Marked m.CloseBrace us p vs → Inits ns n ts (i ∷ []) vs
  last_init_from ts i _ p vs j Marked.marked = Inits.last_init j

  last_comma_from : (ts : List Token) (i : Init) (us : List Token) (p : Pos) (vs : List Token) (q : Pos) (ws : List Token) → Init' ns n ts i us → Marked m.Comma us p vs → Marked m.CloseBrace vs q ws → Inits ns n ts (i ∷ []) ws
  last_comma_from ts i _ p _ q ws j Marked.marked Marked.marked = Inits.last_comma j

  next_init_from : (ts : List Token) (i : Init) (us : List Token) (p : Pos) (vs : List Token) (is : List Init) (ws : List Token) → Init' ns n ts i us → Marked m.Comma us p vs → Inits ns n vs is ws → Inits ns n ts (i ∷ is) ws
  next_init_from ts i _ p vs is ws j Marked.marked more = Inits.next_init j more

  inits_from_sound : (left : ℕ) (found : List Init) (ts : List Token) → Yields (λ is us. Behind found (λ js. Inits ns n ts js us) is) (read.inits_from one left found ts)
  unfolding read.inits_from
  inits_from_sound zero found ts = Yields.stuck
  inits_from_sound (suc left) found ts =
      then_yields (each ts) (λ i us j.
      if_reader_yields _ _ (sees m.Comma us) us
      (λ h. then_yields (expect_yields m.Comma us) (λ p vs c.
      if_reader_yields _ _ (sees m.CloseBrace vs) vs
      (λ g. then_yields (expect_yields m.CloseBrace vs) (λ q ws b. Yields.got (i ∷ [], refl, last_comma_from ts i us p vs q ws j c b)))
      (λ g. map_yields (λ is ws r. (i ∷ r.0, r.1 ∙ append_assoc found (i ∷ []) r.0, next_init_from ts i us p vs r.0 ws j c r.2)) (inits_from_sound left (found ++ i ∷ []) vs))))
      (λ h. then_yields (expect_yields m.CloseBrace us) (λ p vs b. Yields.got (i ∷ [], refl, last_init_from ts i us p vs j b))))

  inits_sound : (ts : List Token) → Yields (λ is us. Inits ns n ts is us) (read.inits_from one (turns ts) [] ts)
  inits_sound ts = map_yields (λ is us p. subst (λ js. Inits ns n ts js us) (sym p.1) p.2) (inits_from_sound (turns ts) [] ts)

  braces_from : (ts : List Token) (p : Pos) (us : List Token) (is : List Init) (vs : List Token) → Opened m.OpenBrace (suc n) ts p us → Inits ns n us is vs → Init' ns (suc n) ts (init.Braces p is) vs
  braces_from _ p us is vs Opened.opened i = Init'.braces i

braces_sound : (ns : Names) (n : ℕ) (one : Parser Init) → ((ts : List Token) → Yields (λ i us. Within (Init' ns) n ts i us) (one ts)) → (ts : List Token) → Yields (λ i us. Init' ns n ts i us) (read.braces n one ts)
unfolding read.braces
braces_sound ns zero one each ts = then_yields (opens_yields zero m.OpenBrace ts) (λ p us o. absurd (no_room o))
braces_sound ns (suc n) one each ts =
    then_yields (opens_yields (suc n) m.OpenBrace ts) (λ p us o.
    then_yields (inits_sound ns n one each us) (λ is vs i.
    Yields.got (braces_from ns n one each ts p us is vs o i)))

init_by_sound : (ns : Names) (n : ℕ) (one : Parser Init) → ((ts : List Token) → Yields (λ i us. Within (Init' ns) n ts i us) (one ts)) → (ts : List Token) → Yields (λ i us. Init' ns n ts i us) (read.init_by ns n one ts)
unfolding read.init_by
init_by_sound ns n one each ts = if_yields (sees m.OpenBrace ts) (λ h. braces_sound ns n one each ts) (λ h. then_yields (whole_yields ns n ts) (λ a us i. Yields.got (Init'.init_value i)))

pub init_at_sound : (ns : Names) (n : ℕ) (ts : List Token) → Yields (λ i us. Init' ns n ts i us) (read.init_at ns n ts)
unfolding read.init_at
init_at_sound ns zero ts = init_by_sound ns zero (λ us. Deep us) (λ us. Yields.deep) ts
init_at_sound ns (suc n) ts = init_by_sound ns (suc n) (read.init_at ns n) (init_at_sound ns n) ts

module _ (ns : Names) (n : ℕ) where
  init_declr_from : (ts : List Token) (x : Declr) (us : List Token) (p : Pos) (vs : List Token) (i : Init) (ws : List Token) → Declr' ns n ts x us → Marked m.Equal us p vs → Init' ns n vs i ws → InitDeclr' ns n ts (tree.init_declr x (start.Init p i)) ws
  init_declr_from ts x _ p vs i ws j Marked.marked more = InitDeclr'.with_init j more

  pub init_declr_sound : (ts : List Token) → Yields (λ x us. InitDeclr' ns n ts x us) (read.init_declr ns n ts)
  unfolding read.init_declr
  init_declr_sound ts =
      then_yields (declr_yields ns n ts) (λ x us j.
      if_yields (sees m.Equal us)
      (λ h. then_yields (expect_yields m.Equal us) (λ p vs c. then_yields (init_at_sound ns n vs) (λ i ws more. Yields.got (init_declr_from ts x us p vs i ws j c more))))
      (λ h. Yields.got (InitDeclr'.plain j)))

  pub init_declrs_sound : (ts : List Token) → Yields (λ xs us. InitDeclrs ns n ts xs us) (read.list m.Semicolon (read.init_declr ns n) ts)
  init_declrs_sound = list_yields (λ ts x us. InitDeclr' ns n ts x us) (λ ts xs us. InitDeclrs ns n ts xs us) m.Semicolon (read.init_declr ns n)
      (λ ts x p us i. InitDeclrs.last_init_declr i) (λ ts x p us xs vs i more. InitDeclrs.next_init_declr i more) init_declr_sound

  -- ---- calls
  reference_from : (ts : List Token) (p : Pos) (us : List Token) (x : Place) (vs : List Token) → Marked m.Ampersand ts p us → Place' ns n us x vs → ArgValue' ns n ts (value.Reference p x) vs
  reference_from _ p us x vs Marked.marked i = ArgValue'.reference i

  pub arg_value_sound : (ts : List Token) → Yields (λ v us. ArgValue' ns n ts v us) (read.arg_value ns n ts)
  unfolding read.arg_value
  arg_value_sound ts = if_yields (sees m.Ampersand ts)
      (λ h. then_yields (expect_yields m.Ampersand ts) (λ p us c. then_yields (place_yields ns n us) (λ x vs i. Yields.got (reference_from ts p us x vs c i))))
      (λ h. then_yields (whole_yields ns n ts) (λ a us i. Yields.got (ArgValue'.by_value i)))

  last_arg_from : (p : Pos) (ts : List Token) (v : ArgValue) (us : List Token) (q : Pos) (vs : List Token) → ArgValue' ns n ts v us → Marked m.CloseParen us q vs → Args ns n p ts (tree.arg p v ∷ []) vs
  last_arg_from p ts v _ q vs i Marked.marked = Args.last_arg i

  next_arg_from : (p : Pos) (ts : List Token) (v : ArgValue) (us : List Token) (q : Pos) (vs : List Token) (xs : List Arg) (ws : List Token) → ArgValue' ns n ts v us → Marked m.Comma us q vs → Args ns n q vs xs ws → Args ns n p ts (tree.arg p v ∷ xs) ws
  next_arg_from p ts v _ q vs xs ws i Marked.marked more = Args.next_arg i more

  args_from_sound : (left : ℕ) (p : Pos) (found : List Arg) (ts : List Token) → Yields (λ xs us. Behind found (λ ys. Args ns n p ts ys us) xs) (read.args_from ns n left p found ts)
  unfolding read.args_from
  args_from_sound zero p found ts = Yields.stuck
  args_from_sound (suc left) p found ts =
      then_yields (arg_value_sound ts) (λ v us i.
      if_yields (sees m.Comma us)
      (λ h. then_yields (expect_yields m.Comma us) (λ q vs c.
      map_yields (λ xs ws r. (tree.arg p v ∷ r.0, r.1 ∙ append_assoc found (tree.arg p v ∷ []) r.0, next_arg_from p ts v us q vs r.0 ws i c r.2)) (args_from_sound left q (found ++ tree.arg p v ∷ []) vs)))
      (λ h. then_yields (expect_yields m.CloseParen us) (λ q vs c. Yields.got (tree.arg p v ∷ [], refl, last_arg_from p ts v us q vs i c))))

-- after the opening bracket at that place
data Given (ns : Names) (p : Pos) : ℕ → List Token → List Arg → List Token → Type 0 where
  none_given : {n : ℕ} {q : Pos} {us : List Token} → Given ns p n (mark m.CloseParen q ∷ us) [] us
  some_given : {n : ℕ} {ts us : List Token} {xs : List Arg} → Args ns n p ts xs us → Given ns p n ts xs us

none_from : (ns : Names) (p : Pos) (n : ℕ) (ts : List Token) (q : Pos) (us : List Token) → Marked m.CloseParen ts q us → Given ns p n ts [] us
none_from ns p n _ q us Marked.marked = Given.none_given

args_sound : (ns : Names) (p : Pos) (n : ℕ) (ts : List Token) → Yields (λ xs us. Given ns p n ts xs us) (read.args ns p n ts)
unfolding read.args
args_sound ns p n ts = if_yields (sees m.CloseParen ts)
    (λ h. let c = sees_is m.CloseParen ts h in Yields.got (none_from ns p n ts c.0 (after ts) c.1))
    (λ h. map_yields (λ xs us r. Given.some_given (subst (λ ys. Args ns n p ts ys us) (sym r.1) r.2)) (args_from_sound ns n (turns ts) p [] ts))

call_given : (ns : Names) (n : ℕ) (w : List ℕ) (at p : Pos) (us : List Token) (xs : List Arg) (vs : List Token) → is_type_name ns w ≡ false → Given ns p n us xs vs → Call' ns (suc n) (word w at ∷ mark m.OpenParen p ∷ us) (tree.call (named w at) xs) vs
call_given ns n w at p _ _ vs h Given.none_given = Call'.no_args h
call_given ns n w at p us xs vs h (Given.some_given i) = Call'.args h i

call_from : (ns : Names) (n : ℕ) (ts : List Token) (x : Named) (us : List Token) (p : Pos) (vs : List Token) (xs : List Arg) (ws : List Token) → IsVariable ns ts x us → Opened m.OpenParen n us p vs
    → Within (Given ns p) n vs xs ws → Call' ns n ts (tree.call x xs) ws
call_from ns _ _ _ _ p vs xs ws (IsVariable.is_variable {w} {p = at} h) (Opened.opened {n}) i = call_given ns n w at p vs xs ws h i

pub call_sound : (ns : Names) (n : ℕ) (ts : List Token) → Yields (λ c us. Call' ns n ts c us) (read.call ns n ts)
unfolding read.call
call_sound ns n ts =
    then_yields (variable_yields ns ts) (λ x us v.
    then_yields (opens_yields n m.OpenParen us) (λ p vs o.
    then_yields (within_yields (Given ns p) (read.args ns p) (args_sound ns p) n vs) (λ xs ws i.
    Yields.got (call_from ns n ts x us p vs xs ws v o i))))

-- ---- assignments
take_update : (o : Option Punct) (ts : List Token) (t : Update) → mark_at ts ≡ o → read.update_in o ≡ Some t → Yields (λ p us. MarkAt (λ mk. update_of mk ≡ Some t) ts p us) (takes ts)
take_update None ts t e h = cc
take_update (Some mk) ts t e h = take_mark_at (λ mk. update_of mk ≡ Some t) ts mk e h

take_compound : (o : Option Punct) (ts : List Token) (op : Compound) → mark_at ts ≡ o → read.compound_in o ≡ Some op → Yields (λ p us. MarkAt (λ mk. compound_of mk ≡ Some op) ts p us) (takes ts)
take_compound None ts op e h = cc
take_compound (Some mk) ts op e h = take_mark_at (λ mk. compound_of mk ≡ Some op) ts mk e h

module _ (ns : Names) (n : ℕ) where
  before_from : (ts : List Token) (t : Update) (p : Pos) (us : List Token) (x : Place) (vs : List Token) → MarkAt (λ mk. update_of mk ≡ Some t) ts p us → Place' ns n us x vs → Simple' ns n ts (simply.Before t p x) vs
  before_from _ t p us x vs (MarkAt.mark_at_front h) i = Simple'.before h i

  before_sound : (t : Update) (ts : List Token) → read.update_in (mark_at ts) ≡ Some t → Yields (λ a us. Simple' ns n ts a us) (read.before ns n t ts)
  unfolding read.before
  before_sound t ts h = then_yields (take_update (mark_at ts) ts t refl h) (λ p us f. then_yields (place_yields ns n us) (λ x vs i. Yields.got (before_from ts t p us x vs f i)))

  -- an assignment whose place was read
  abbrev pub Assigned : Bool → Place → List Token → Simple → List Token → Type 0
  Assigned star x us a vs = (ts : List Token) → Place' ns n ts x us → begins_with_star ts ≡ star → Simple' ns n ts a vs

  compound_from : (star : Bool) (op : Compound) (x : Place) (us : List Token) (p : Pos) (vs : List Token) (a : Expr) (ws : List Token) → MarkAt (λ mk. compound_of mk ≡ Some op) us p vs → Whole ns n vs a ws → Assigned star x us (simply.Compound x op p a) ws
  compound_from star op x _ p vs a ws (MarkAt.mark_at_front h) i ts j e = Simple'.compound j h i

  compounded_sound : (star : Bool) (x : Place) (o : Option Compound) (us : List Token) → read.compound_in (mark_at us) ≡ o → Yields (λ a vs. Assigned star x us a vs) (read.compounded ns n x o us)
  compounded_sound star x None us h = Yields.stuck
  compounded_sound star x (Some op) us h = then_yields (take_compound (mark_at us) us op refl h) (λ p vs f. then_yields (whole_yields ns n vs) (λ a ws i. Yields.got (compound_from star op x us p vs a ws f i)))

  after_from : (star : Bool) (t : Update) (x : Place) (us : List Token) (p : Pos) (vs : List Token) → star ≡ false → MarkAt (λ mk. update_of mk ≡ Some t) us p vs → Assigned star x us (simply.After x t p) vs
  after_from star t x _ p vs h (MarkAt.mark_at_front f) ts j e = Simple'.after j f (e ∙ h)

  updated_sound : (star : Bool) (x : Place) (o : Option Update) (us : List Token) → read.update_in (mark_at us) ≡ o → Yields (λ a vs. Assigned star x us a vs) (read.updated ns n star x o us)
  updated_sound star x None us h = compounded_sound star x (read.compound_in (mark_at us)) us refl
  updated_sound star x (Some t) us h = if_yields star (λ g. Yields.stuck) (λ g. then_yields (take_update (mark_at us) us t refl h) (λ p vs f. Yields.got (after_from star t x us p vs g f)))

  assign_from : (star : Bool) (x : Place) (us : List Token) (p : Pos) (vs : List Token) (a : Expr) (ws : List Token) → Marked m.Equal us p vs → Whole ns n vs a ws → Assigned star x us (simply.Assign x p a) ws
  assign_from star x _ p vs a ws Marked.marked i ts j e = Simple'.assign j i

  pub assigned_sound : (star : Bool) (x : Place) (us : List Token) → Yields (λ a vs. Assigned star x us a vs) (read.assigned ns n star x us)
  unfolding read.assigned
  assigned_sound star x us = if_yields (sees m.Equal us)
      (λ h. then_yields (expect_yields m.Equal us) (λ p vs c. then_yields (whole_yields ns n vs) (λ a ws i. Yields.got (assign_from star x us p vs a ws c i))))
      (λ h. updated_sound star x (read.update_in (mark_at us)) us refl)

  simple_by_sound : (o : Option Update) (ts : List Token) → read.update_in (mark_at ts) ≡ o → Yields (λ a us. Simple' ns n ts a us) (read.simple_by ns n o ts)
  simple_by_sound (Some t) ts h = before_sound t ts h
  simple_by_sound None ts h = then_yields (place_yields ns n ts) (λ x us i. map_yields (λ a vs go. go ts i refl) (assigned_sound (begins_with_star ts) x us))

  pub simple_sound : (ts : List Token) → Yields (λ a us. Simple' ns n ts a us) (read.simple ns n ts)
  unfolding read.simple
  simple_sound ts = simple_by_sound (read.update_in (mark_at ts)) ts refl

  -- ---- locals
  with_call_from : (ts : List Token) (x : Declr) (us : List Token) (p : Pos) (vs : List Token) (c : Call) (ws : List Token) → Declr' ns n ts x us → Marked m.Equal us p vs → Call' ns n vs c ws → LocalDeclr' ns n ts (tree.local_declr x (begins.Call p c)) ws
  with_call_from ts x _ p vs c ws i Marked.marked j = LocalDeclr'.with_call i j

  with_init_from : (ts : List Token) (x : Declr) (us : List Token) (p : Pos) (vs : List Token) (i : Init) (ws : List Token) → Declr' ns n ts x us → Marked m.Equal us p vs → Init' ns n vs i ws → LocalDeclr' ns n ts (tree.local_declr x (begins.Init p i)) ws
  with_init_from ts x _ p vs i ws j Marked.marked more = LocalDeclr'.with_init j more

  local_start_sound : (ts : List Token) (x : Declr) (us : List Token) → Declr' ns n ts x us → Yields (λ l vs. LocalDeclr' ns n ts l vs) (read.local_start ns n x us)
  unfolding read.local_start
  local_start_sound ts x us j =
      then_yields (expect_yields m.Equal us) (λ p vs c.
      if_yields (read.sees_call ns vs)
      (λ h. then_yields (call_sound ns n vs) (λ f ws i. Yields.got (with_call_from ts x us p vs f ws j c i)))
      (λ h. then_yields (init_at_sound ns n vs) (λ i ws more. Yields.got (with_init_from ts x us p vs i ws j c more))))

  pub local_declr_sound : (ts : List Token) → Yields (λ l us. LocalDeclr' ns n ts l us) (read.local_declr ns n ts)
  unfolding read.local_declr
  local_declr_sound ts = then_yields (declr_yields ns n ts) (λ x us j. if_yields (sees m.Equal us) (λ h. local_start_sound ts x us j) (λ h. Yields.got (LocalDeclr'.plain j)))

  local_declrs_sound : (ts : List Token) → Yields (λ xs us. LocalDeclrs ns n ts xs us) (read.list m.Semicolon (read.local_declr ns n) ts)
  local_declrs_sound = list_yields (λ ts x us. LocalDeclr' ns n ts x us) (λ ts xs us. LocalDeclrs ns n ts xs us) m.Semicolon (read.local_declr ns n)
      (λ ts x p us i. LocalDeclrs.last_local i) (λ ts x p us xs vs i more. LocalDeclrs.next_local i more) local_declr_sound

  pub local_sound : (ts : List Token) → Yields (λ l us. Local' ns n ts l us) (read.local ns n ts)
  unfolding read.local
  local_sound ts = then_yields (specifiers_yields ns n ts) (λ t us i. then_yields (local_declrs_sound us) (λ xs vs j. Yields.got (Local'.local i j)))

-- ---- directives
-- in two brackets
pub data InDouble {A : Type 0} (P : List Token → A → List Token → Type 0) : ℕ → List Token → A → List Token → Type 0 where
  in_double : {n : ℕ} {p q r s : Pos} {us vs : List Token} {a : A} → P us a (mark m.CloseParen r ∷ mark m.CloseParen s ∷ vs) → InDouble P (suc (suc n)) (mark m.OpenParen p ∷ mark m.OpenParen q ∷ us) a vs

one_less : (k : ℕ) → suc k - 1 ≡ k
one_less k = omega arith

double_from : {A : Type 0} (P : List Token → A → List Token → Type 0) (k : ℕ) (p q : Pos) (vs : List Token) (a : A) (ws : List Token) (r : Pos) (xs : List Token) (s : Pos) (ys us : List Token)
    → Opened m.OpenParen k us q vs → P vs a ws → Marked m.CloseParen ws r xs → Marked m.CloseParen xs s ys → InDouble P (suc k) (mark m.OpenParen p ∷ us) a ys
double_from P _ p q vs a _ r _ s ys _ Opened.opened i Marked.marked Marked.marked = InDouble.in_double i

double_opened : {A : Type 0} (P : List Token → A → List Token → Type 0) (n : ℕ) (ts : List Token) (p : Pos) (us : List Token) (q : Pos) (vs : List Token) (a : A) (ws : List Token) (r : Pos) (xs : List Token) (s : Pos) (ys : List Token)
    → Opened m.OpenParen n ts p us → Opened m.OpenParen (n - 1) us q vs → P vs a ws → Marked m.CloseParen ws r xs → Marked m.CloseParen xs s ys → InDouble P n ts a ys
double_opened P _ _ p us q vs a ws r xs s ys (Opened.opened {n}) o i c d = double_from P n p q vs a ws r xs s ys us (subst (λ j. Opened m.OpenParen j us q vs) (one_less n) o) i c d

double_bracket_sound : {A : Type 0} (P : List Token → A → List Token → Type 0) (n : ℕ) (one : Parser A) → ((ts : List Token) → Yields (λ a us. P ts a us) (one ts)) → (ts : List Token) → Yields (λ a us. InDouble P n ts a us) (read.double_bracket n one ts)
unfolding read.double_bracket
double_bracket_sound P n one each ts =
    then_yields (opens_yields n m.OpenParen ts) (λ p us o.
    then_yields (opens_yields (n - 1) m.OpenParen us) (λ q vs o'.
    then_yields (each vs) (λ a ws i.
    then_yields (expect_yields m.CloseParen ws) (λ r xs c.
    then_yields (expect_yields m.CloseParen xs) (λ s ys d.
    Yields.got (double_opened P n ts p us q vs a ws r xs s ys o o' i c d))))))

-- nothing is read
data Nothing {A : Type 0} (a : A) : List Token → A → List Token → Type 0 where
  nothing_read : {us : List Token} → Nothing a us a us

-- a directive with nothing between its brackets
data IsBare (kw : Keyword) (x : Directive) : ℕ → List Token → Directive → List Token → Type 0 where
  bare : {n : ℕ} {us : List Token} {p q r s t : Pos} → IsBare kw x (suc (suc n)) (key kw p ∷ mark m.OpenParen q ∷ mark m.OpenParen r ∷ mark m.CloseParen s ∷ mark m.CloseParen t ∷ us) x us

bare_at : (kw : Keyword) (x : Directive) (n : ℕ) (q r s t p : Pos) (us : List Token) (y : Directive) (vs : List Token) → Nothing x us y (mark m.CloseParen s ∷ mark m.CloseParen t ∷ vs)
    → IsBare kw x (suc (suc n)) (key kw p ∷ mark m.OpenParen q ∷ mark m.OpenParen r ∷ us) y vs
bare_at kw x n q r s t p _ _ vs Nothing.nothing_read = IsBare.bare

bare_from : (kw : Keyword) (x : Directive) (n : ℕ) (ts : List Token) (p : Pos) (us : List Token) (y : Directive) (vs : List Token) → KeyAt kw ts p us → InDouble (Nothing x) n us y vs → IsBare kw x n ts y vs
bare_from kw x _ _ p _ y vs KeyAt.key_at_front (InDouble.in_double {n} {p = q} {q = r} {r = s} {s = t} {us = us} i) = bare_at kw x n q r s t p us y vs i

bare_sound : (kw : Keyword) (x : Directive) (n : ℕ) (ts : List Token) → key_at ts ≡ Some kw → Yields (λ y us. IsBare kw x n ts y us) (read.bare n x ts)
unfolding read.bare
bare_sound kw x n ts h =
    then_yields (take_key_at ts kw h) (λ p us c.
    map_yields (λ y vs i. bare_from kw x n ts p us y vs c i) (double_bracket_sound (Nothing x) n (λ us. Got x us) (λ us. Yields.got Nothing.nothing_read) us))

-- a directive with an expression between its brackets
data IsWithExpr (ns : Names) (kw : Keyword) (f : Expr → Directive) : ℕ → List Token → Directive → List Token → Type 0 where
  with_expr : {n : ℕ} {ts us : List Token} {p q r s t : Pos} {a : Expr} → Whole ns n ts a (mark m.CloseParen s ∷ mark m.CloseParen t ∷ us) →
      IsWithExpr ns kw f (suc (suc n)) (key kw p ∷ mark m.OpenParen q ∷ mark m.OpenParen r ∷ ts) (f a) us

with_expr_from : (ns : Names) (kw : Keyword) (f : Expr → Directive) (n : ℕ) (ts : List Token) (p : Pos) (us : List Token) (a : Expr) (vs : List Token) → KeyAt kw ts p us
    → InDouble (λ us a vs. Within (Within (Whole ns)) n us a vs) n us a vs → IsWithExpr ns kw f n ts (f a) vs
with_expr_from ns kw f _ _ p _ a vs KeyAt.key_at_front (InDouble.in_double i) = IsWithExpr.with_expr i

with_expr_sound : (ns : Names) (kw : Keyword) (f : Expr → Directive) (n : ℕ) (ts : List Token) → key_at ts ≡ Some kw → Yields (λ y us. IsWithExpr ns kw f n ts y us) (read.with_expr ns n f ts)
unfolding read.with_expr
with_expr_sound ns kw f n ts h =
    then_yields {Q = λ a vs. IsWithExpr ns kw f n ts (f a) vs}
    (then_yields (take_key_at ts kw h) (λ p us c.
    map_yields (λ a vs i. with_expr_from ns kw f n ts p us a vs c i)
    (double_bracket_sound (λ us a vs. Within (Within (Whole ns)) n us a vs) n (read.within (read.within (λ j. read.expr ns j)) n)
    (within_yields (Within (Whole ns)) (read.within (λ j. read.expr ns j)) (within_yields (Whole ns) (λ j. read.expr ns j) (whole_yields ns)) n) us)))
    (λ a vs i. Yields.got i)

wait_is : (ns : Names) (n : ℕ) (ts : List Token) (x : Directive) (us : List Token) → IsBare k.WaitForClock d.Wait n ts x us → Directive' ns n ts x us
wait_is ns _ _ _ us IsBare.bare = Directive'.wait

partition_is : (ns : Names) (n : ℕ) (ts : List Token) (x : Directive) (us : List Token) → IsBare k.Partition d.Partition n ts x us → Directive' ns n ts x us
partition_is ns _ _ _ us IsBare.bare = Directive'.partition

known_fact_is : (ns : Names) (n : ℕ) (ts : List Token) (x : Directive) (us : List Token) → IsWithExpr ns k.KnownFact d.KnownFact n ts x us → Directive' ns n ts x us
known_fact_is ns _ _ _ us (IsWithExpr.with_expr i) = Directive'.known_fact i

assert_is : (ns : Names) (n : ℕ) (ts : List Token) (x : Directive) (us : List Token) → IsWithExpr ns k.Assert d.Assert n ts x us → Directive' ns n ts x us
assert_is ns _ _ _ us (IsWithExpr.with_expr i) = Directive'.assert i

module _ (ns : Names) (n : ℕ) where
  pub wait_sound : (ts : List Token) → key_at ts ≡ Some k.WaitForClock → Yields (λ x us. Directive' ns n ts x us) (read.bare n d.Wait ts)
  wait_sound ts h = map_yields (wait_is ns n ts) (bare_sound k.WaitForClock d.Wait n ts h)

  pub partition_sound : (ts : List Token) → key_at ts ≡ Some k.Partition → Yields (λ x us. Directive' ns n ts x us) (read.bare n d.Partition ts)
  partition_sound ts h = map_yields (partition_is ns n ts) (bare_sound k.Partition d.Partition n ts h)

  pub known_fact_sound : (ts : List Token) → key_at ts ≡ Some k.KnownFact → Yields (λ x us. Directive' ns n ts x us) (read.with_expr ns n d.KnownFact ts)
  known_fact_sound ts h = map_yields (known_fact_is ns n ts) (with_expr_sound ns k.KnownFact d.KnownFact n ts h)

  pub assert_sound : (ts : List Token) → key_at ts ≡ Some k.Assert → Yields (λ x us. Directive' ns n ts x us) (read.with_expr ns n d.Assert ts)
  assert_sound ts h = map_yields (assert_is ns n ts) (with_expr_sound ns k.Assert d.Assert n ts h)

-- ---- parts of statements
pub data InBrackets (ns : Names) : ℕ → List Token → Expr → List Token → Type 0 where
  in_brackets : {n : ℕ} {us vs : List Token} {p q : Pos} {c : Expr} → Whole ns n us c (mark m.CloseParen q ∷ vs) → InBrackets ns (suc n) (mark m.OpenParen p ∷ us) c vs

in_brackets_from : (ns : Names) (n : ℕ) (ts : List Token) (p : Pos) (us : List Token) (c : Expr) (vs : List Token) (q : Pos) (ws : List Token) → Opened m.OpenParen n ts p us → Within (Whole ns) n us c vs → Marked m.CloseParen vs q ws → InBrackets ns n ts c ws
in_brackets_from ns _ _ p us c _ q ws Opened.opened i Marked.marked = InBrackets.in_brackets i

pub condition_sound : (ns : Names) (n : ℕ) (ts : List Token) → Yields (λ c us. InBrackets ns n ts c us) (read.condition ns n ts)
unfolding read.condition
condition_sound ns n ts =
    then_yields (opens_yields n m.OpenParen ts) (λ p us o.
    then_yields (within_yields (Whole ns) (read.expr ns) (whole_yields ns) n us) (λ c vs i.
    then_yields (expect_yields m.CloseParen vs) (λ q ws b.
    Yields.got (in_brackets_from ns n ts p us c vs q ws o i b))))

module _ (ns : Names) (n : ℕ) where
  declares_from : (ts : List Token) (t : Specifiers) (us : List Token) (x : Declr) (vs : List Token) (p : Pos) (ws : List Token) (a : Expr) (xs : List Token) → Specifiers' ns n ts t us → Declr' ns n us x vs → Marked m.Equal vs p ws → Whole ns n ws a xs
      → First' ns n ts (first.Declares t x p a) xs
  declares_from ts t us x _ p ws a xs i j Marked.marked h = First'.declares i j h

  declares_sound : (ts : List Token) → Yields (λ f us. First' ns n ts f us) (read.declares ns n ts)
  unfolding read.declares
  declares_sound ts =
      then_yields (specifiers_yields ns n ts) (λ t us i.
      then_yields (declr_yields ns n us) (λ x vs j.
      then_yields (expect_yields m.Equal vs) (λ p ws c.
      then_yields (whole_yields ns n ws) (λ a xs h.
      Yields.got (declares_from ts t us x vs p ws a xs i j c h)))))

  pub first_of_sound : (ts : List Token) → Yields (λ f us. First' ns n ts f us) (read.first_of ns n ts)
  unfolding read.first_of
  first_of_sound ts = if_yields (sees m.Semicolon ts) (λ h. Yields.got First'.nothing)
      (λ h. if_yields (begins_type ns ts) (λ g. declares_sound ts) (λ g. then_yields (simple_sound ns n ts) (λ a us i. Yields.got (First'.simply i))))

  pub expr_before_sound : (mk : Punct) (ts : List Token) → Yields (λ c us. Condition' ns n ts c us) (read.expr_before ns mk n ts)
  unfolding read.expr_before
  expr_before_sound mk ts = if_yields (sees mk ts) (λ h. Yields.got Condition'.always) (λ h. then_yields (whole_yields ns n ts) (λ a us i. Yields.got (Condition'.while i)))

  pub simple_before_sound : (mk : Punct) (ts : List Token) → Yields (λ x us. Next' ns n ts x us) (read.simple_before ns mk n ts)
  unfolding read.simple_before
  simple_before_sound mk ts = if_yields (sees mk ts) (λ h. Yields.got Next'.nothing) (λ h. then_yields (simple_sound ns n ts) (λ a us i. Yields.got (Next'.simply i)))

  case_from : (ts : List Token) (p : Pos) (us : List Token) (a : Expr) (vs : List Token) (q : Pos) (ws : List Token) → KeyAt k.Case ts p us → Whole ns n us a vs → Marked m.Colon vs q ws → Label' ns n ts (label.Case p a) ws
  case_from _ p us a _ q ws KeyAt.key_at_front i Marked.marked = Label'.case i

  case_sound : (ts : List Token) → key_at ts ≡ Some k.Case → Yields (λ l us. Label' ns n ts l us) (read.case ns n ts)
  unfolding read.case
  case_sound ts h =
      then_yields (take_key_at ts k.Case h) (λ p us f.
      then_yields (whole_yields ns n us) (λ a vs i.
      then_yields (expect_yields m.Colon vs) (λ q ws c.
      Yields.got (case_from ts p us a vs q ws f i c))))

  default_from : (ts : List Token) (p : Pos) (us : List Token) (q : Pos) (vs : List Token) → KeyAt k.Default ts p us → Marked m.Colon us q vs → Label' ns n ts (label.Default p) vs
  default_from _ p _ q vs KeyAt.key_at_front Marked.marked = Label'.default

  default_sound : (ts : List Token) → key_at ts ≡ Some k.Default → Yields (λ l us. Label' ns n ts l us) (read.default ts)
  unfolding read.default
  default_sound ts h = then_yields (take_key_at ts k.Default h) (λ p us f. then_yields (expect_yields m.Colon us) (λ q vs c. Yields.got (default_from ts p us q vs f c)))

  label_by_sound : (o : Option Keyword) (ts : List Token) → key_at ts ≡ o → Yields (λ l us. Label' ns n ts l us) (read.label_by ns n o ts)
  label_by_sound (Some k.Case) ts h = case_sound ts h
  label_by_sound (Some k.Default) ts h = default_sound ts h
  label_by_sound o ts h = Yields.stuck

  pub a_label_sound : (ts : List Token) → Yields (λ l us. Label' ns n ts l us) (read.a_label ns n ts)
  unfolding read.a_label
  a_label_sound ts = label_by_sound (key_at ts) ts refl

  -- more of them, behind the first
  abbrev pub MoreLabels : List Token → List Label → List Token → Type 0
  MoreLabels ts ls us = (ss : List Token) (l : Label) → Label' ns n ss l ts → Labels ns n ss (l ∷ ls) us

  pub more_labels_sound : (ts : List Token) → Yields (λ ls us. MoreLabels ts ls us) (many begins_with_label (read.a_label ns n) ts)
  more_labels_sound = many_yields MoreLabels begins_with_label (read.a_label ns n) (λ us h ss l i. Labels.last_label i h)
      (λ ts h. map_yields (λ x us i ls vs more ss l j. Labels.next_label j (more ts x i)) (a_label_sound ts))
