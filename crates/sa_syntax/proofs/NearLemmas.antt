-- Readers with more room answer the same, unless the one with less ran out of it; then the other one ends no text that goes on with
-- tokens at each of which as many more are open.
use Rattle.std.proofs.Common.{◌≡◌, ℕ, zero, suc, ◌+◌, ◌-◌, ◌≤◌, List, [], ◌∷◌, ◌++◌, Bool, true, false, cond, refl, sym, ap, subst, arith, Some, None}
use Rattle.sa_base.specs.declared.pos.Pos.{Pos}
use Rattle.sa_tokens.specs.declared.keyword.Keyword.{Keyword}
use Rattle.sa_tokens.specs.declared.keyword.Keyword.TheVariants as k
use Rattle.sa_tokens.specs.declared.punct.Punct.{Punct}
use Rattle.sa_tokens.specs.declared.punct.Punct.TheVariants as m
use Rattle.sa_tokens.specs.declared.token.Token.{Token}
use Rattle.sa_syntax.specs.Words.{mark, key}
use Rattle.sa_syntax.specs.Refusals.{takes_bracket, takes_two}
use Rattle.sa_syntax.specs.Reading.{Read, Got, Stuck, Deep, Parser, and_then, same_mark, sees, after, mark_at, opens_any, opens, turns, while_from, many}
use Rattle.sa_syntax.specs.ReadStmt.{within, list_from, list}
use Rattle.sa_syntax.proofs.ReadingLemmas.{Marked, sees_is}
use Rattle.sa_syntax.proofs.RoomLemmas.{Less}

-- so many tokens follow the first, at each of which one more is open
pub data Next (j : ℕ) (us : List Token) : Type 0 where
  condition : (p q : Pos) (w : Keyword) (vs : List Token) → takes_bracket w ≡ true → j ≡ 1 → us ≡ key w p ∷ mark m.OpenParen q ∷ vs → Next j us
  directive : (p q r : Pos) (w : Keyword) (vs : List Token) → takes_two w ≡ true → j ≡ 2 → us ≡ key w p ∷ mark m.OpenParen q ∷ mark m.OpenParen r ∷ vs → Next j us
  bracket : (p q : Pos) (vs : List Token) → j ≡ 1 → us ≡ mark m.OpenParen p ∷ mark m.OpenParen q ∷ vs → Next j us
  body : (p q : Pos) (vs : List Token) → j ≡ 1 → us ≡ key k.Do p ∷ mark m.Semicolon q ∷ vs → Next j us
  labelled : (p q : Pos) (vs : List Token) → j ≡ 1 → us ≡ mark m.Colon p ∷ mark m.Semicolon q ∷ vs → Next j us

-- it is refused
abbrev pub NotGot : {A : Type 0} → Read A → Type 0
NotGot (Got a us) = ⊥
NotGot (Stuck us) = Unit {0}
NotGot (Deep us) = Unit {0}

pub not_then : {A B : Type 0} (s : Read A) (g : A → Parser B) → NotGot s → NotGot (and_then s g)
not_then (Got a us) g h = absurd h
not_then (Stuck us) g h = tt
not_then (Deep us) g h = tt

pub not_stuck : {A : Type 0} {s : Read A} {us : List Token} → s ≡ Stuck us → NotGot s
not_stuck {A} e = subst (λ (r : Read A). NotGot r) (sym e) tt

pub not_deep : {A : Type 0} {s : Read A} {us : List Token} → s ≡ Deep us → NotGot s
not_deep {A} e = subst (λ (r : Read A). NotGot r) (sym e) tt

-- the same answer, or out of room
pub data Near (j : ℕ) {A : Type 0} : Read A → Read A → Type 0 where
  out : {us : List Token} {s : Read A} → (Next j us → NotGot s) → Near j (Deep us) s
  same : {r : Read A} → Near j r r

forget : {A : Type 0} {j : ℕ} {r s : Read A} → Near j r s → Less r s
forget (Near.out h) = Less.out
forget Near.same = Less.same

pub wider : {A : Type 0} (p : ℕ → Parser A) → ((j n more : ℕ) → n + j ≡ more → (ts : List Token) → Near j (p n ts) (p more ts)) → (n more : ℕ) → n ≤ more → (ts : List Token) → Less (p n ts) (p more ts)
wider p near n more h ts = forget (near (more - n) n more (omega (arith, h)) ts)

near_next : {A B : Type 0} {j : ℕ} (r : Read A) {f g : A → Parser B} → ((a : A) (us : List Token) → Near j (f a us) (g a us)) → Near j (and_then r f) (and_then r g)
near_next (Got a us) go = go a us
near_next (Stuck us) go = Near.same
near_next (Deep us) go = Near.same

pub near_then : {A B : Type 0} {j : ℕ} {r s : Read A} {f g : A → Parser B} → Near j r s → ((a : A) (us : List Token) → Near j (f a us) (g a us)) → Near j (and_then r f) (and_then s g)
near_then {g = g} (Near.out {s = s} h) go = Near.out (λ x. not_then s g (h x))
near_then (Near.same {r}) go = near_next r go

pub near_if : {A : Type 0} {j : ℕ} {r s x y : Read A} (b : Bool) → Near j r s → Near j x y → Near j (cond b r x) (cond b s y)
near_if true one other = one
near_if false one other = other

-- a test between readers
pub near_if_reader : {A : Type 0} {j : ℕ} (p q : Parser A) (p' q' : Parser A) (b : Bool) (ts : List Token) → Near j (p ts) (p' ts) → Near j (q ts) (q' ts) → Near j (cond b p q ts) (cond b p' q' ts)
near_if_reader p q p' q' true ts one other = one
near_if_reader p q p' q' false ts one other = other

-- ---- opening tokens
pub next_mark : {X : Type 0} (j : ℕ) (mk : Punct) (p : Pos) (us : List Token) → Next j (mark mk p ∷ us) → (mk ≡ m.Colon → X) → ((q : Pos) (vs : List Token) → mk ≡ m.OpenParen → j ≡ 1 → us ≡ mark m.OpenParen q ∷ vs → X) → X
unfolding mark_at
next_mark j mk p us (Next.condition o q w vs h i e) never go = let f : Some mk ≡ None = ap mark_at e in cc
next_mark j mk p us (Next.directive o q r w vs h i e) never go = let f : Some mk ≡ None = ap mark_at e in cc
next_mark j mk p us (Next.bracket o q vs i e) never go = let f : Some mk ≡ Some m.OpenParen = ap mark_at e in go q vs (cc) i (ap after e)
next_mark j mk p us (Next.body o q vs i e) never go = let f : Some mk ≡ None = ap mark_at e in cc
next_mark j mk p us (Next.labelled o q vs i e) never go = let f : Some mk ≡ Some m.Colon = ap mark_at e in never cc

opens_any_by : {B : Type 0} (f g : Pos → Parser B) (j n more : ℕ) → n + j ≡ more → (t : Token) (us : List Token) → (n ≡ 0 → Next j (t ∷ us) → NotGot (g t.pos us)) → ((i : ℕ) → n ≡ suc i → Near j (f t.pos us) (g t.pos us)) → Near j (and_then (opens_any n (t ∷ us)) f) (and_then (opens_any more (t ∷ us)) g)
unfolding opens_any
opens_any_by f g j zero zero e t us stop go = Near.out (λ x. tt)
opens_any_by f g j zero (suc more) e t us stop go = Near.out (λ x. stop refl x)
opens_any_by f g j (suc n) zero e t us stop go = absurd (omega (arith, e))
opens_any_by f g j (suc n) (suc more) e t us stop go = go n refl

pub near_opens : {B : Type 0} (f g : Pos → Parser B) (j n more : ℕ) → n + j ≡ more → (mk : Punct) (ts : List Token) → ((p : Pos) (us : List Token) → n ≡ 0 → Next j (mark mk p ∷ us) → NotGot (g p us)) → ((i : ℕ) → n ≡ suc i → (p : Pos) (us : List Token) → Near j (f p us) (g p us)) → Near j (and_then (opens n mk ts) f) (and_then (opens more mk ts) g)
unfolding opens
near_opens f g j n more e mk ts stop go = by_test (sees mk ts) refl
  where
    by_mark : (ts : List Token) (p : Pos) (us : List Token) → Marked mk ts p us → Near j (and_then (opens_any n ts) f) (and_then (opens_any more ts) g)
    by_mark _ p us Marked.marked = opens_any_by f g j n more e (mark mk p) us (stop p us) (λ i h. go i h p us)

    by_test : (x : Bool) → sees mk ts ≡ x → Near j (and_then (cond x (opens_any n ts) (Stuck ts)) f) (and_then (cond x (opens_any more ts) (Stuck ts)) g)
    by_test true h = let x = sees_is mk ts h in by_mark ts (x.0) (after ts) (x.1)
    by_test false h = Near.same

-- a round bracket, behind which no other one is read
pub near_paren : {B : Type 0} {f g : Pos → Parser B} (j n more : ℕ) → n + j ≡ more → (ts : List Token) → (n ≡ 0 → j ≡ 1 → (p q : Pos) (vs : List Token) → NotGot (g p (mark m.OpenParen q ∷ vs))) → ((i : ℕ) → n ≡ suc i → (p : Pos) (us : List Token) → Near j (f p us) (g p us)) → Near j (and_then (opens n m.OpenParen ts) f) (and_then (opens more m.OpenParen ts) g)
near_paren {f = f} {g} j n more e ts stop go = near_opens f g j n more e m.OpenParen ts (λ p us h x. next_mark j m.OpenParen p us x (λ c. cc) (λ q vs o i f. subst (λ z. NotGot (g p z)) (sym f) (stop h i p q vs))) go

-- another opening mark
pub near_other : {B : Type 0} {f g : Pos → Parser B} (j n more : ℕ) → n + j ≡ more → (mk : Punct) → (mk ≡ m.Colon → ⊥) → (mk ≡ m.OpenParen → ⊥) → (ts : List Token) → ((i : ℕ) → n ≡ suc i → (p : Pos) (us : List Token) → Near j (f p us) (g p us)) → Near j (and_then (opens n mk ts) f) (and_then (opens more mk ts) g)
near_other {f = f} {g} j n more e mk never not ts go = near_opens f g j n more e mk ts (λ p us h x. next_mark j mk p us x (λ c. absurd (never c)) (λ q vs o i f. absurd (not o))) go

pub near_opens_any : {B : Type 0} (f g : Pos → Parser B) (j n more : ℕ) → n + j ≡ more → (mk : Punct) (p : Pos) (us : List Token) → (mk ≡ m.Colon → ⊥) → (mk ≡ m.OpenParen → ⊥) → ((i : ℕ) → n ≡ suc i → Near j (f p us) (g p us)) → Near j (and_then (opens_any n (mark mk p ∷ us)) f) (and_then (opens_any more (mark mk p ∷ us)) g)
near_opens_any f g j n more e mk p us never not go = opens_any_by f g j n more e (mark mk p) us (λ h x. next_mark j mk p us x (λ c. absurd (never c)) (λ q vs o i f. absurd (not o))) go

pub near_within : {A : Type 0} (j : ℕ) (p : ℕ → Parser A) → ((n more : ℕ) → n + j ≡ more → (ts : List Token) → Near j (p n ts) (p more ts)) → (n more : ℕ) → n + j ≡ more → (i : ℕ) → n ≡ suc i → (ts : List Token) → Near j (within p n ts) (within p more ts)
near_within j p one zero more e i h ts = cc
near_within j p one (suc n) zero e i h ts = absurd (omega (arith, e))
near_within j p one (suc n) (suc more) e i h ts = one n more (omega (arith, e)) ts

-- ---- lists
near_while : {A : Type 0} {j : ℕ} (goes : List Token → Bool) (item wide : Parser A) → ((ts : List Token) → Near j (item ts) (wide ts)) → (n : ℕ) (found : List A) (ts : List Token) → Near j (while_from goes item n found ts) (while_from goes wide n found ts)
unfolding while_from
near_while goes item wide one zero found ts = Near.same
near_while goes item wide one (suc n) found ts = near_if (goes ts) (near_then (one ts) (λ x us. near_while goes item wide one n (found ++ x ∷ []) us)) Near.same

pub near_many : {A : Type 0} {j : ℕ} (goes : List Token → Bool) (item wide : Parser A) → ((ts : List Token) → Near j (item ts) (wide ts)) → (ts : List Token) → Near j (many goes item ts) (many goes wide ts)
near_many goes item wide one ts = near_while goes item wide one (turns ts) [] ts

near_list_from : {A : Type 0} {j : ℕ} (close : Punct) (one wide : Parser A) → ((ts : List Token) → Near j (one ts) (wide ts)) → (n : ℕ) (found : List A) (ts : List Token) → Near j (list_from close one n found ts) (list_from close wide n found ts)
unfolding list_from
near_list_from close one wide each zero found ts = Near.same
near_list_from close one wide each (suc n) found ts = near_then (each ts) (λ x us. near_if (sees m.Comma us) (near_list_from close one wide each n (found ++ x ∷ []) (after us)) Near.same)

pub near_list : {A : Type 0} {j : ℕ} (close : Punct) (one wide : Parser A) → ((ts : List Token) → Near j (one ts) (wide ts)) → (ts : List Token) → Near j (list close one ts) (list close wide ts)
near_list close one wide each ts = near_list_from close one wide each (turns ts) [] ts

-- ---- at an opening bracket where no more may be open
pub opens_shut : (n : ℕ) (p : Pos) (us : List Token) → n ≡ 0 → opens n m.OpenParen (mark m.OpenParen p ∷ us) ≡ Deep (mark m.OpenParen p ∷ us)
unfolding opens opens_any sees same_mark
opens_shut zero p us h = refl
opens_shut (suc n) p us h = cc
