-- One step of each rule of the reader of initialisers, calls, assignments, locals and labels, from what its parts read.
use Rattle.std.proofs.Common.{◌≡◌, ℕ, zero, suc, ◌<◌, List, [], ◌∷◌, ◌++◌, Bool, true, false, Some, None, length, refl, ap, ◌∙◌, append_assoc, arith}
use Rattle.sa_base.specs.declared.pos.Pos.{Pos}
use Rattle.sa_tokens.specs.declared.keyword.Keyword.TheVariants as k
use Rattle.sa_tokens.specs.declared.punct.Punct.{Punct}
use Rattle.sa_tokens.specs.declared.punct.Punct.TheVariants as m
use Rattle.sa_tokens.specs.declared.token.Token.{Token}
use Rattle.sa_syntax.specs.declared.decl.Specifiers.{Specifiers}
use Rattle.sa_syntax.specs.declared.decl.Declr.{Declr}
use Rattle.sa_syntax.specs.declared.decl.Init.{Init}
use Rattle.sa_syntax.specs.declared.decl.Init.TheVariants as init
use Rattle.sa_syntax.specs.declared.decl.Start.TheVariants as start
use Rattle.sa_syntax.specs.declared.expr.Expr.{Expr}
use Rattle.sa_syntax.specs.declared.expr.Place.{Place}
use Rattle.sa_syntax.specs.declared.stmt.Compound.{Compound}
use Rattle.sa_syntax.specs.declared.stmt.Update.{Update}
use Rattle.sa_syntax.specs.declared.stmt.Simple.{Simple}
use Rattle.sa_syntax.specs.declared.stmt.Simple.TheVariants as simply
use Rattle.sa_syntax.specs.declared.stmt.Call.{Call}
use Rattle.sa_syntax.specs.declared.stmt.Arg.{Arg}
use Rattle.sa_syntax.specs.declared.stmt.ArgValue.{ArgValue}
use Rattle.sa_syntax.specs.declared.stmt.ArgValue.TheVariants as value
use Rattle.sa_syntax.specs.declared.stmt.Label.TheVariants as label
use Rattle.sa_syntax.specs.declared.stmt.LocalDeclr.{LocalDeclr}
use Rattle.sa_syntax.specs.declared.stmt.LocalStart.TheVariants as begins
use Rattle.sa_syntax.specs.Trees as tree
use Rattle.sa_syntax.specs.Words.{Names, mark, key, word, named, is_type_name, compound_of, update_of, begins_with_star}
use Rattle.sa_syntax.specs.Reading.{Parser, Got, Deep, same_mark, sees, expect, opens_any, opens, variable, name_at, key_at, mark_at, turns}
use Rattle.sa_syntax.specs.ReadStmt as read
use Rattle.sa_syntax.specs.ReadStmt.{list_from, inits_from, init_at, args_from, sees_call, update_in}
use Rattle.sa_syntax.proofs.Front.{same_mark-same, mark-seen}
use Rattle.sa_syntax.proofs.StmtFront.{mark-no, compound-no_update}

-- ---- lists with a comma between, and a closing mark
pub record Listed {A : Type 0} (close : Punct) (one : Parser A) (ts : List Token) (xs : List A) (us : List Token) : Type 0 where
  pub read : (n : ℕ) → length ts < n → (found : List A) → list_from close one n found ts ≡ Got (found ++ xs) us

last-read : {A : Type 0} (close : Punct) (one : Parser A) (ts us : List Token) (q : Pos) (x : A) → same_mark m.Comma close ≡ false → one ts ≡ Got x (mark close q ∷ us) → (n : ℕ) → length ts < n → (found : List A) →
    list_from close one n found ts ≡ Got (found ++ x ∷ []) us
unfolding list_from sees expect
last-read close one ts us q x h e zero less found = absurd (omega arith)
last-read close one ts us q x h e (suc n) less found = rw (e, h, same_mark-same close) refl

pub listed-last : {A : Type 0} {close : Punct} {one : Parser A} {ts us : List Token} {q : Pos} {x : A} → same_mark m.Comma close ≡ false → one ts ≡ Got x (mark close q ∷ us) → Listed close one ts (x ∷ []) us
listed-last {close = close} {one = one} {ts = ts} {us = us} {q = q} {x = x} h e = record { read = last-read close one ts us q x h e }

next-read : {A : Type 0} (close : Punct) (one : Parser A) (ts us vs : List Token) (p : Pos) (x : A) (xs : List A) → one ts ≡ Got x (mark m.Comma p ∷ us) → length us < length ts → Listed close one us xs vs → (n : ℕ) → length ts < n → (found : List A) →
    list_from close one n found ts ≡ Got (found ++ (x ∷ xs)) vs
unfolding list_from sees same_mark
next-read close one ts us vs p x xs e shorter more zero less found = absurd (omega arith)
next-read close one ts us vs p x xs e shorter more (suc n) less found = rw e (more.read n (omega arith) (found ++ x ∷ []) ∙ ap (λ ys. Got ys vs) (append_assoc found (x ∷ []) xs))

pub listed-next : {A : Type 0} {close : Punct} {one : Parser A} {ts us vs : List Token} {p : Pos} {x : A} {xs : List A} → one ts ≡ Got x (mark m.Comma p ∷ us) → length us < length ts → Listed close one us xs vs → Listed close one ts (x ∷ xs) vs
listed-next {close = close} {one = one} {ts = ts} {us = us} {vs = vs} {p = p} {x = x} {xs = xs} e shorter more = record { read = next-read close one ts us vs p x xs e shorter more }

pub listed-reads : {A : Type 0} {close : Punct} {one : Parser A} {ts : List Token} {xs : List A} {us : List Token} → Listed close one ts xs us → list_from close one (turns ts) [] ts ≡ Got xs us
listed-reads {ts = ts} l = l.read (turns ts) (omega arith) []

-- ---- initialisers
pub record Started (one : Parser Init) (ts : List Token) (is : List Init) (us : List Token) : Type 0 where
  pub read : (n : ℕ) → length ts < n → (found : List Init) → inits_from one n found ts ≡ Got (found ++ is) us

last_init-read : (one : Parser Init) (ts us : List Token) (q : Pos) (i : Init) → one ts ≡ Got i (mark m.CloseBrace q ∷ us) → (n : ℕ) → length ts < n → (found : List Init) → inits_from one n found ts ≡ Got (found ++ i ∷ []) us
unfolding inits_from sees same_mark expect
last_init-read one ts us q i e zero less found = absurd (omega arith)
last_init-read one ts us q i e (suc n) less found = rw e refl

pub started-last : {one : Parser Init} {ts us : List Token} {q : Pos} {i : Init} → one ts ≡ Got i (mark m.CloseBrace q ∷ us) → Started one ts (i ∷ []) us
started-last {one = one} {ts = ts} {us = us} {q = q} {i = i} e = record { read = last_init-read one ts us q i e }

last_comma-read : (one : Parser Init) (ts us : List Token) (p q : Pos) (i : Init) → one ts ≡ Got i (mark m.Comma p ∷ mark m.CloseBrace q ∷ us) → (n : ℕ) → length ts < n → (found : List Init) → inits_from one n found ts ≡ Got (found ++ i ∷ []) us
unfolding inits_from sees same_mark expect
last_comma-read one ts us p q i e zero less found = absurd (omega arith)
last_comma-read one ts us p q i e (suc n) less found = rw e refl

pub started-comma : {one : Parser Init} {ts us : List Token} {p q : Pos} {i : Init} → one ts ≡ Got i (mark m.Comma p ∷ mark m.CloseBrace q ∷ us) → Started one ts (i ∷ []) us
started-comma {one = one} {ts = ts} {us = us} {p = p} {q = q} {i = i} e = record { read = last_comma-read one ts us p q i e }

next_init-read : (one : Parser Init) (ts us vs : List Token) (p : Pos) (i : Init) (is : List Init) → one ts ≡ Got i (mark m.Comma p ∷ us) → sees m.CloseBrace us ≡ false → length us < length ts → Started one us is vs →
    (n : ℕ) → length ts < n → (found : List Init) → inits_from one n found ts ≡ Got (found ++ (i ∷ is)) vs
unfolding inits_from expect same_mark
next_init-read one ts us vs p i is e h shorter more zero less found = absurd (omega arith)
next_init-read one ts us vs p i is e h shorter more (suc n) less found = rw (e, mark-seen m.Comma p us, h) (more.read n (omega arith) (found ++ i ∷ []) ∙ ap (λ ys. Got ys vs) (append_assoc found (i ∷ []) is))

pub started-next : {one : Parser Init} {ts us vs : List Token} {p : Pos} {i : Init} {is : List Init} → one ts ≡ Got i (mark m.Comma p ∷ us) → sees m.CloseBrace us ≡ false → length us < length ts → Started one us is vs → Started one ts (i ∷ is) vs
started-next {one = one} {ts = ts} {us = us} {vs = vs} {p = p} {i = i} {is = is} e h shorter more = record { read = next_init-read one ts us vs p i is e h shorter more }

pub started-reads : {one : Parser Init} {ts : List Token} {is : List Init} {us : List Token} → Started one ts is us → inits_from one (turns ts) [] ts ≡ Got is us
started-reads {ts = ts} l = l.read (turns ts) (omega arith) []

value-reads : (ns : Names) (n : ℕ) (one : Parser Init) (ts us : List Token) (a : Expr) → sees m.OpenBrace ts ≡ false → read.expr ns n ts ≡ Got a us → read.init_by ns n one ts ≡ Got (init.Value a) us
unfolding read.init_by
value-reads ns n one ts us a h e = rw (h, e) refl

pub init_value-reads : (ns : Names) (n : ℕ) (ts us : List Token) (a : Expr) → sees m.OpenBrace ts ≡ false → read.expr ns n ts ≡ Got a us → init_at ns n ts ≡ Got (init.Value a) us
unfolding init_at
init_value-reads ns zero ts us a h e = value-reads ns zero (λ ts. Deep ts) ts us a h e
init_value-reads ns (suc n) ts us a h e = value-reads ns (suc n) (init_at ns n) ts us a h e

pub braces-reads : (ns : Names) (n : ℕ) (ts us : List Token) (p : Pos) (is : List Init) → Started (init_at ns n) ts is us → init_at ns (suc n) (mark m.OpenBrace p ∷ ts) ≡ Got (init.Braces p is) us
unfolding init_at read.init_by read.braces opens opens_any sees same_mark
braces-reads ns n ts us p is l = rw (started-reads l) refl

module _ (ns : Names) (n : ℕ) where
  pub plain_declr-reads : (ts us : List Token) (d : Declr) → read.declr ns n ts ≡ Got d us → sees m.Equal us ≡ false → read.init_declr ns n ts ≡ Got (tree.init_declr d start.Nothing) us
  unfolding read.init_declr
  plain_declr-reads ts us d e h = rw (e, h) refl

  pub init_declr-reads : (ts us vs : List Token) (p : Pos) (d : Declr) (i : Init) → read.declr ns n ts ≡ Got d (mark m.Equal p ∷ us) → init_at ns n us ≡ Got i vs → read.init_declr ns n ts ≡ Got (tree.init_declr d (start.Init p i)) vs
  unfolding read.init_declr sees same_mark expect
  init_declr-reads ts us vs p d i e h = rw (e, h) refl

  -- ---- calls
  pub arg-reads : (ts us : List Token) (a : Expr) → sees m.Ampersand ts ≡ false → read.expr ns n ts ≡ Got a us → read.arg_value ns n ts ≡ Got (value.Value a) us
  unfolding read.arg_value
  arg-reads ts us a h e = rw (h, e) refl

  pub reference-reads : (ts us : List Token) (p : Pos) (x : Place) → read.place ns n ts ≡ Got x us → read.arg_value ns n (mark m.Ampersand p ∷ ts) ≡ Got (value.Reference p x) us
  unfolding read.arg_value sees same_mark expect
  reference-reads ts us p x e = rw e refl

  -- arguments after a mark at that place
  pub record Given (p : Pos) (ts : List Token) (xs : List Arg) (us : List Token) : Type 0 where
    pub read : (left : ℕ) → length ts < left → (found : List Arg) → args_from ns n left p found ts ≡ Got (found ++ xs) us

  last_arg-read : (p q : Pos) (ts us : List Token) (v : ArgValue) → read.arg_value ns n ts ≡ Got v (mark m.CloseParen q ∷ us) → (left : ℕ) → length ts < left → (found : List Arg) → args_from ns n left p found ts ≡ Got (found ++ tree.arg p v ∷ []) us
  unfolding args_from sees same_mark expect
  last_arg-read p q ts us v e zero less found = absurd (omega arith)
  last_arg-read p q ts us v e (suc left) less found = rw e refl

  pub given-last : (p q : Pos) (ts us : List Token) (v : ArgValue) → read.arg_value ns n ts ≡ Got v (mark m.CloseParen q ∷ us) → Given p ts (tree.arg p v ∷ []) us
  given-last p q ts us v e = record { read = last_arg-read p q ts us v e }

  next_arg-read : (p q : Pos) (ts us vs : List Token) (v : ArgValue) (xs : List Arg) → read.arg_value ns n ts ≡ Got v (mark m.Comma q ∷ us) → length us < length ts → Given q us xs vs →
      (left : ℕ) → length ts < left → (found : List Arg) → args_from ns n left p found ts ≡ Got (found ++ (tree.arg p v ∷ xs)) vs
  unfolding args_from sees same_mark expect
  next_arg-read p q ts us vs v xs e shorter more zero less found = absurd (omega arith)
  next_arg-read p q ts us vs v xs e shorter more (suc left) less found =
      rw e (more.read left (omega arith) (found ++ tree.arg p v ∷ []) ∙ ap (λ ys. Got ys vs) (append_assoc found (tree.arg p v ∷ []) xs))

  pub given-next : (p q : Pos) (ts us vs : List Token) (v : ArgValue) (xs : List Arg) → read.arg_value ns n ts ≡ Got v (mark m.Comma q ∷ us) → length us < length ts → Given q us xs vs → Given p ts (tree.arg p v ∷ xs) vs
  given-next p q ts us vs v xs e shorter more = record { read = next_arg-read p q ts us vs v xs e shorter more }

  given-reads : (p : Pos) (ts us : List Token) (xs : List Arg) → Given p ts xs us → args_from ns n (turns ts) p [] ts ≡ Got xs us
  given-reads p ts us xs l = l.read (turns ts) (omega arith) []

  pub no_args-read : (p r : Pos) (us : List Token) → read.args ns p n (mark m.CloseParen r ∷ us) ≡ Got [] us
  unfolding read.args sees same_mark
  no_args-read p r us = refl

  pub args-read : (p : Pos) (ts us : List Token) (xs : List Arg) → sees m.CloseParen ts ≡ false → Given p ts xs us → read.args ns p n ts ≡ Got xs us
  unfolding read.args
  args-read p ts us xs h l = rw (h, given-reads p ts us xs l) refl

  pub call-reads : (ts us : List Token) (p q : Pos) (w : List ℕ) (xs : List Arg) → is_type_name ns w ≡ false → read.args ns q n ts ≡ Got xs us → read.call ns (suc n) (word w p ∷ mark m.OpenParen q ∷ ts) ≡ Got (tree.call (named w p) xs) us
  unfolding read.call variable name_at opens opens_any sees same_mark
  call-reads ts us p q w xs h e = rw (h, e) refl

  -- ---- assignments
  pub assign-reads : (star : Bool) (x : Place) (us vs : List Token) (p : Pos) (a : Expr) → read.expr ns n us ≡ Got a vs → read.assigned ns n star x (mark m.Equal p ∷ us) ≡ Got (simply.Assign x p a) vs
  unfolding read.assigned sees same_mark expect
  assign-reads star x us vs p a e = rw e refl

  pub compound-reads : (star : Bool) (x : Place) (us vs : List Token) (p : Pos) (mk : Punct) (op : Compound) (a : Expr) → compound_of mk ≡ Some op → read.expr ns n us ≡ Got a vs → read.assigned ns n star x (mark mk p ∷ us) ≡ Got (simply.Compound x op p a) vs
  unfolding read.assigned sees mark_at
  compound-reads star x us vs p mk op a h e = rw (mark-no compound_of m.Equal mk op h refl, compound-no_update mk op h, h, e) refl

  pub update-reads : (star : Bool) (x : Place) (us : List Token) (p : Pos) (mk : Punct) (t : Update) → star ≡ false → update_of mk ≡ Some t → read.assigned ns n star x (mark mk p ∷ us) ≡ Got (simply.After x t p) us
  unfolding read.assigned sees mark_at
  update-reads star x us p mk t none h = rw (mark-no update_of m.Equal mk t h refl, h, none) refl

  pub before-reads : (ts us : List Token) (p : Pos) (mk : Punct) (t : Update) (x : Place) → update_of mk ≡ Some t → read.place ns n ts ≡ Got x us → read.simple ns n (mark mk p ∷ ts) ≡ Got (simply.Before t p x) us
  unfolding read.simple read.before mark_at
  before-reads ts us p mk t x h e = rw (h, e) refl

  pub placed-reads : (ts us vs : List Token) (x : Place) (a : Simple) → update_in (mark_at ts) ≡ None → read.place ns n ts ≡ Got x us → read.assigned ns n (begins_with_star ts) x us ≡ Got a vs → read.simple ns n ts ≡ Got a vs
  unfolding read.simple
  placed-reads ts us vs x a h e i = rw (h, e) i

  -- ---- locals
  pub plain_local-reads : (ts us : List Token) (d : Declr) → read.declr ns n ts ≡ Got d us → sees m.Equal us ≡ false → read.local_declr ns n ts ≡ Got (tree.local_declr d begins.Nothing) us
  unfolding read.local_declr
  plain_local-reads ts us d e h = rw (e, h) refl

  pub init_local-reads : (ts us vs : List Token) (p : Pos) (d : Declr) (i : Init) → read.declr ns n ts ≡ Got d (mark m.Equal p ∷ us) → sees_call ns us ≡ false → init_at ns n us ≡ Got i vs → read.local_declr ns n ts ≡ Got (tree.local_declr d (begins.Init p i)) vs
  unfolding read.local_declr read.local_start sees same_mark expect
  init_local-reads ts us vs p d i e h j = rw (e, h, j) refl

  pub call_local-reads : (ts us vs : List Token) (p : Pos) (d : Declr) (c : Call) → read.declr ns n ts ≡ Got d (mark m.Equal p ∷ us) → sees_call ns us ≡ true → read.call ns n us ≡ Got c vs → read.local_declr ns n ts ≡ Got (tree.local_declr d (begins.Call p c)) vs
  unfolding read.local_declr read.local_start sees same_mark expect
  call_local-reads ts us vs p d c e h j = rw (e, h, j) refl

  pub local-reads : (ts us vs : List Token) (t : Specifiers) (ds : List LocalDeclr) → read.specifiers ns n ts ≡ Got t us → Listed m.Semicolon (read.local_declr ns n) us ds vs → read.local ns n ts ≡ Got (tree.local t ds) vs
  unfolding read.local
  local-reads ts us vs t ds e l = rw (e, listed-reads l) refl

  -- ---- labels
  pub case-reads : (ts us : List Token) (p q : Pos) (a : Expr) → read.expr ns n ts ≡ Got a (mark m.Colon q ∷ us) → read.a_label ns n (key k.Case p ∷ ts) ≡ Got (label.Case p a) us
  unfolding read.a_label read.case key_at expect same_mark
  case-reads ts us p q a e = rw e refl

  pub default-reads : (us : List Token) (p q : Pos) → read.a_label ns n (key k.Default p ∷ mark m.Colon q ∷ us) ≡ Got (label.Default p) us
  unfolding read.a_label read.default key_at expect same_mark
  default-reads us p q = refl
