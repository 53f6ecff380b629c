-- What is open where a reader goes too deep can be closed.
use Rattle.std.proofs.Common.{◌≡◌, ℕ, zero, suc, ◌+◌, ◌≤◌, List, [], ◌∷◌, ◌++◌, Bool, true, false, cond, refl, sym, ap, ◌∙◌, subst, length, append_assoc, length-append, arith, Option, Some, None}
use Rattle.sa_base.specs.declared.pos.Pos.{Pos}
use Rattle.sa_tokens.specs.declared.punct.Punct.{Punct}
use Rattle.sa_tokens.specs.declared.punct.Punct.TheVariants as m
use Rattle.sa_tokens.specs.declared.token.Token.{Token}
use Rattle.sa_syntax.specs.Words.{Names, mark}
use Rattle.sa_syntax.specs.Reading.{Read, Got, Stuck, Deep, Parser, and_then, is_mark, sees, after, expect, any_name, variable, name_at, unless_type, taken, opens_any, opens, turns, while_from, many}
use Rattle.sa_syntax.specs.ReadStmt.{takes, list_from, list}
use Rattle.sa_syntax.proofs.ReadingLemmas.{Yields, yielded, if_yields, Marked, sees_is, expect_yields, Opened, opens_yields, IsWord, any_name_yields, IsVariable, variable_yields}
use Rattle.sa_syntax.proofs.RoomLemmas.{Less, less_if, less_opens}
use Rattle.sa_syntax.proofs.DeepLemmas.{Shrinks, Local, Fine, Ahead, loosen, fine_if, fine_refuse, fine_expect, fine_any_name, fine_variable, fine_opens}

-- where the answer is `Deep`, some text goes on from the token that it shows
pub data Closed {A : Type 0} (O : Token → Type 0) (R : ℕ → List Token → List Token → Type 0) (n : ℕ) (ts : List Token) : Read A → Type 0 where
  got : {a : A} {us : List Token} → Closed O R n ts (Got a us)
  stuck : {us : List Token} → Closed O R n ts (Stuck us)
  deep : {t : Token} {r : List Token} → (b tail : List Token) (more : ℕ) → ts ≡ b ++ t ∷ r → n ≤ more → O t → ((rest : List Token) → R more (b ++ t ∷ (tail ++ rest)) rest) → Closed O R n ts (Deep (t ∷ r))

-- never too deep
pub data Calm {A : Type 0} : Read A → Type 0 where
  got : {a : A} {us : List Token} → Calm (Got a us)
  stuck : {us : List Token} → Calm (Stuck us)

pub calm_then : {A B : Type 0} {x : Read A} {f : A → Parser B} → Calm x → ((a : A) (us : List Token) → Calm (f a us)) → Calm (and_then x f)
calm_then (Calm.got {a} {us}) go = go a us
calm_then Calm.stuck go = Calm.stuck

pub closed_calm : {A : Type 0} {O : Token → Type 0} {R : ℕ → List Token → List Token → Type 0} {n : ℕ} {ts : List Token} {x : Read A} → Calm x → Closed O R n ts x
closed_calm Calm.got = Closed.got
closed_calm Calm.stuck = Closed.stuck

pub closed_map : {A : Type 0} {O : Token → Type 0} {P R : ℕ → List Token → List Token → Type 0} {n : ℕ} {ts : List Token} {x : Read A} → ((more : ℕ) (us vs : List Token) → P more us vs → R more us vs) → Closed O P n ts x → Closed O R n ts x
closed_map go Closed.got = Closed.got
closed_map go Closed.stuck = Closed.stuck
closed_map go (Closed.deep b tail more e h o w) = Closed.deep b tail more e h o (λ rest. go more _ rest (w rest))

pub closed_if : {A : Type 0} {O : Token → Type 0} {R : ℕ → List Token → List Token → Type 0} {n : ℕ} {ts : List Token} {x y : Read A} (b : Bool) → (b ≡ true → Closed O R n ts x) → (b ≡ false → Closed O R n ts y) → Closed O R n ts (cond b x y)
closed_if true one other = one refl
closed_if false one other = other refl

-- a reader with any room: it looks no further than the token, reads the same with more room, and reads what the grammar has
pub record Good {A : Type 0} (p : ℕ → Parser A) (P : ℕ → List Token → A → List Token → Type 0) : Type 0 where
  pub fine : (n : ℕ) → Fine 0 (p n)
  pub less : (n more : ℕ) → n ≤ more → (ts : List Token) → Less (p n ts) (p more ts)
  pub sound : (n : ℕ) (ts : List Token) → Yields (λ a us. P n ts a us) (p n ts)

cancel : (b c : List Token) (r : List Token) → b ++ r ≡ c ++ r → b ≡ c
cancel [] [] r e = refl
cancel [] (x ∷ c) r e = let l : length r ≡ length (x ∷ c ++ r) = ap length e in let k : length (x ∷ c ++ r) ≡ length (x ∷ c) + length r = length-append (x ∷ c) r in absurd (omega (arith, l, k))
cancel (x ∷ b) [] r e = let l : length (x ∷ b ++ r) ≡ length r = ap length e in let k : length (x ∷ b ++ r) ≡ length (x ∷ b) + length r = length-append (x ∷ b) r in absurd (omega (arith, l, k))
cancel (x ∷ b) (y ∷ c) r e =
    let one : x ≡ y = cc in
    let rest : b ++ r ≡ c ++ r = cc in
    let same : b ≡ c = cancel b c r rest in cc

moved_read : {A : Type 0} {t : Token} {r s : List Token} (x y : Read A) (a : A) (c : List Token) → Local t r s x y → x ≡ Got a (c ++ t ∷ r) → y ≡ Got a (c ++ t ∷ s)
moved_read {t = t} {r = r} {s = s} (Got d _) (Got _ _) a c (Local.got b) e =
    let one : d ≡ a = cc in
    let rest : b ++ t ∷ r ≡ c ++ t ∷ r = cc in
    let same : b ≡ c = cancel b c (t ∷ r) rest in
    let two : b ++ t ∷ s ≡ c ++ t ∷ s = ap (λ z. z ++ t ∷ s) same in cc
moved_read _ _ a c (Local.deep b) e = cc
moved_read {t = t} {r = r} (Got d us) y a c (Local.gone h) e =
    let rest : us ≡ c ++ t ∷ r = cc in
    let l : length us ≡ length (c ++ t ∷ r) = ap length rest in
    let k : length (c ++ t ∷ r) ≡ length c + length (t ∷ r) = length-append c (t ∷ r) in
    absurd (omega (arith, l, k, h))
moved_read _ y a c (Local.gone_deep h) e = cc
moved_read _ y a c (Local.stuck b) e = cc
moved_read _ y a c (Local.gone_stuck h) e = cc

room_read : {A : Type 0} (x y : Read A) (a : A) (us : List Token) → Less x y → x ≡ Got a us → y ≡ Got a us
room_read _ y a us Less.out e = cc
room_read x _ a us Less.same e = e

-- what was read up to the token is read of each text that goes on from it
pub moves : {A : Type 0} {p : ℕ → Parser A} {P : ℕ → List Token → A → List Token → Type 0} → Good p P → (n more : ℕ) → n ≤ more → (b c : List Token) (t : Token) (r s : List Token) (a : A) → p n (b ++ t ∷ r) ≡ Got a (c ++ t ∷ r) → P more (b ++ t ∷ s) a (c ++ t ∷ s)
moves {p = p} good n more h b c t r s a e =
    let here : p n (b ++ t ∷ s) ≡ Got a (c ++ t ∷ s) = moved_read (p n (b ++ t ∷ r)) (p n (b ++ t ∷ s)) a c ((good.fine n).local b t r s) e in
    yielded (good.sound more (b ++ t ∷ s)) (room_read (p n (b ++ t ∷ s)) (p more (b ++ t ∷ s)) a (c ++ t ∷ s) (good.less n more h (b ++ t ∷ s)) here)

split_of : {A : Type 0} {k : ℕ} {ts : List Token} (x : Read A) (a : A) (us : List Token) → Shrinks k ts x → x ≡ Got a us → (xs : List Token) × (ts ≡ xs ++ us)
split_of {ts = ts} (Got d vs) a us (Shrinks.got xs e l) f = let g : vs ≡ us = cc in (xs, e ∙ ap (λ z. xs ++ z) g)
split_of _ a us (Shrinks.stuck xs e) f = cc
split_of _ a us (Shrinks.deep xs e) f = cc

-- the reader behind goes too deep
behind_closed : {A B : Type 0} {O : Token → Type 0} {R : ℕ → List Token → List Token → Type 0} {p : ℕ → Parser A} {P : ℕ → List Token → A → List Token → Type 0} → Good p P → (n : ℕ) (ts : List Token) (a : A) (us : List Token) {y : Read B}
    → p n ts ≡ Got a us → Closed O (λ more vs rest. (ss : List Token) → P more ss a vs → R more ss rest) n us y → Closed O R n ts y
behind_closed good n ts a us e Closed.got = Closed.got
behind_closed good n ts a us e Closed.stuck = Closed.stuck
behind_closed {R = R} {p = p} {P = P} good n ts a us e (Closed.deep {t} {r} c tail more f h o w) =
    let k = split_of (p n ts) a us ((good.fine n).shrinks ts) e in
    let whole : ts ≡ (k.0 ++ c) ++ t ∷ r = k.1 ∙ ap (λ z. k.0 ++ z) f ∙ sym (append_assoc (k.0) c (t ∷ r)) in
    let read : p n ((k.0 ++ c) ++ t ∷ r) ≡ Got a (c ++ t ∷ r) = ap (p n) (sym whole) ∙ e ∙ ap (Got a) f in
    Closed.deep (k.0 ++ c) tail more whole h o (λ rest. w rest ((k.0 ++ c) ++ t ∷ (tail ++ rest)) (moves good n more h (k.0 ++ c) c t r (tail ++ rest) a read))

-- the first of two goes too deep: the text `d` stands for the second
front_closed : {A B : Type 0} {O : Token → Type 0} {R : ℕ → List Token → List Token → Type 0} {P : ℕ → List Token → A → List Token → Type 0} (n : ℕ) (ts d : List Token) {t : Token} {r : List Token}
    → ((more : ℕ) (ss : List Token) (a : A) (rest : List Token) → P more ss a (d ++ rest) → R more ss rest) → Closed {A = A} O (λ more ss rest. (a : A) × P more ss a rest) n ts (Deep (t ∷ r)) → Closed {A = B} O R n ts (Deep (t ∷ r))
front_closed {R = R} n ts d {t} go (Closed.deep b tail more e h o w) = Closed.deep b (tail ++ d) more e h o (λ rest.
    let v = w (d ++ rest) in subst (λ z. R more (b ++ t ∷ z) rest) (sym (append_assoc tail d rest)) (go more _ (v.0) rest (v.1)))

then_read : {A B : Type 0} {O : Token → Type 0} {R : ℕ → List Token → List Token → Type 0} {p : ℕ → Parser A} {P : ℕ → List Token → A → List Token → Type 0} (f : A → Parser B) → Good p P → (n : ℕ) (ts d : List Token)
    → ((more : ℕ) (ss : List Token) (a : A) (rest : List Token) → P more ss a (d ++ rest) → R more ss rest)
    → ((a : A) (us : List Token) → Closed O (λ more vs rest. (ss : List Token) → P more ss a vs → R more ss rest) n us (f a us)) → (x : Read A) → p n ts ≡ x → Closed O (λ more ss rest. (a : A) × P more ss a rest) n ts x → Closed O R n ts (and_then x f)
then_read f good n ts d go each (Got a us) e c = behind_closed good n ts a us e (each a us)
then_read f good n ts d go each (Stuck us) e c = Closed.stuck
then_read f good n ts d go each (Deep (t ∷ r)) e c = front_closed n ts d go c
then_read f good n ts d go each (Deep []) e c = absurd (no_end c)
  where
    no_end : {A : Type 0} {O : Token → Type 0} {R : ℕ → List Token → List Token → Type 0} {n : ℕ} {ts : List Token} → Closed {A = A} O R n ts (Deep []) → ⊥
    no_end c = elim c [ ]

pub closed_then : {A B : Type 0} {O : Token → Type 0} {R : ℕ → List Token → List Token → Type 0} {p : ℕ → Parser A} {P : ℕ → List Token → A → List Token → Type 0} {f : A → Parser B} → Good p P → (n : ℕ) (ts d : List Token)
    → ((more : ℕ) (ss : List Token) (a : A) (rest : List Token) → P more ss a (d ++ rest) → R more ss rest)
    → Closed O (λ more ss rest. (a : A) × P more ss a rest) n ts (p n ts)
    → ((a : A) (us : List Token) → Closed O (λ more vs rest. (ss : List Token) → P more ss a vs → R more ss rest) n us (f a us)) → Closed O R n ts (and_then (p n ts) f)
closed_then {p = p} {f = f} good n ts d go one each = then_read f good n ts d go each (p n ts) refl one

-- the first is never too deep
calm_read : {A B : Type 0} {O : Token → Type 0} {R : ℕ → List Token → List Token → Type 0} {p : ℕ → Parser A} {P : ℕ → List Token → A → List Token → Type 0} (f : A → Parser B) → Good p P → (n : ℕ) (ts : List Token)
    → ((a : A) (us : List Token) → Closed O (λ more vs rest. (ss : List Token) → P more ss a vs → R more ss rest) n us (f a us)) → (x : Read A) → p n ts ≡ x → Calm x → Closed O R n ts (and_then x f)
calm_read f good n ts each _ e (Calm.got {a} {us}) = behind_closed good n ts a us e (each a us)
calm_read f good n ts each _ e Calm.stuck = Closed.stuck

pub closed_next : {A B : Type 0} {O : Token → Type 0} {R : ℕ → List Token → List Token → Type 0} {p : ℕ → Parser A} {P : ℕ → List Token → A → List Token → Type 0} {f : A → Parser B} → Good p P → (n : ℕ) (ts : List Token) → Calm (p n ts)
    → ((a : A) (us : List Token) → Closed O (λ more vs rest. (ss : List Token) → P more ss a vs → R more ss rest) n us (f a us)) → Closed O R n ts (and_then (p n ts) f)
closed_next {p = p} {f = f} good n ts calm each = calm_read f good n ts each (p n ts) refl calm

-- the last that can be too deep
pub closed_last : {A B : Type 0} {O : Token → Type 0} {R : ℕ → List Token → List Token → Type 0} {P : ℕ → List Token → A → List Token → Type 0} {f : A → Parser B} (n : ℕ) (ts d : List Token) {x : Read A}
    → ((more : ℕ) (ss : List Token) (a : A) (rest : List Token) → P more ss a (d ++ rest) → R more ss rest)
    → Closed O (λ more ss rest. (a : A) × P more ss a rest) n ts x → ((a : A) (us : List Token) → Calm (f a us)) → Closed O R n ts (and_then x f)
closed_last n ts d go (Closed.got {a} {us}) calm = closed_calm (calm a us)
closed_last n ts d go Closed.stuck calm = Closed.stuck
closed_last {P = P} n ts d go (Closed.deep b tail more e h o w) calm = front_closed {P = P} n ts d go (Closed.deep b tail more e h o w)

-- ---- opening tokens
shifted : {A : Type 0} {O : Token → Type 0} {R : ℕ → List Token → List Token → Type 0} (n : ℕ) (t : Token) (us : List Token) {y : Read A} → Closed O (λ more vs rest. R (suc more) (t ∷ vs) rest) n us y → Closed O R (suc n) (t ∷ us) y
shifted n t us Closed.got = Closed.got
shifted n t us Closed.stuck = Closed.stuck
shifted n t us (Closed.deep b tail more e h o w) = Closed.deep (t ∷ b) tail (suc more) (ap (λ z. t ∷ z) e) (omega (arith, h)) o w

pub opens_any_from : {B : Type 0} {O : Token → Type 0} {R : ℕ → List Token → List Token → Type 0} (k : ℕ) (f : ℕ → Pos → Parser B) (n : ℕ) (mk : Punct) (p : Pos) (us d : List Token) → O (mark mk p)
    → ((rest : List Token) → R k (mark mk p ∷ (d ++ rest)) rest)
    → ((i : ℕ) → n ≡ suc i → Closed O (λ more vs rest. R (suc more) (mark mk p ∷ vs) rest) i us (f (suc i) p us)) → Closed O R n (mark mk p ∷ us) (and_then (opens_any n (mark mk p ∷ us)) (f n))
unfolding opens_any
opens_any_from k f zero mk p us d o go each = Closed.deep [] d k refl (omega arith) o go
opens_any_from k f (suc n) mk p us d o go each = shifted n (mark mk p) us (each n refl)

pub closed_opens_any : {B : Type 0} {O : Token → Type 0} {R : ℕ → List Token → List Token → Type 0} (f : ℕ → Pos → Parser B) (n : ℕ) (mk : Punct) (p : Pos) (us d : List Token) → O (mark mk p)
    → ((more : ℕ) (rest : List Token) → R (suc more) (mark mk p ∷ (d ++ rest)) rest)
    → ((i : ℕ) → n ≡ suc i → Closed O (λ more vs rest. R (suc more) (mark mk p ∷ vs) rest) i us (f (suc i) p us)) → Closed O R n (mark mk p ∷ us) (and_then (opens_any n (mark mk p ∷ us)) (f n))
closed_opens_any f n mk p us d o go each = opens_any_from 1 f n mk p us d o (go 0) each

marked_opens : {B : Type 0} {O : Token → Type 0} {R : ℕ → List Token → List Token → Type 0} (k : ℕ) (f : ℕ → Pos → Parser B) (n : ℕ) (mk : Punct) (ts : List Token) (p : Pos) (us d : List Token) → Marked mk ts p us → ((p : Pos) → O (mark mk p))
    → ((p : Pos) (rest : List Token) → R k (mark mk p ∷ (d ++ rest)) rest)
    → ((i : ℕ) → n ≡ suc i → (p : Pos) (us : List Token) → Closed O (λ more vs rest. R (suc more) (mark mk p ∷ vs) rest) i us (f (suc i) p us)) → Closed O R n ts (and_then (opens_any n ts) (f n))
marked_opens k f n mk _ p us d Marked.marked o go each = opens_any_from k f n mk p us d (o p) (go p) (λ i h. each i h p us)

pub opens_from : {B : Type 0} {O : Token → Type 0} {R : ℕ → List Token → List Token → Type 0} (k : ℕ) (f : ℕ → Pos → Parser B) (n : ℕ) (mk : Punct) (ts d : List Token) → ((p : Pos) → O (mark mk p))
    → ((p : Pos) (rest : List Token) → R k (mark mk p ∷ (d ++ rest)) rest)
    → ((i : ℕ) → n ≡ suc i → (p : Pos) (us : List Token) → Closed O (λ more vs rest. R (suc more) (mark mk p ∷ vs) rest) i us (f (suc i) p us)) → Closed O R n ts (and_then (opens n mk ts) (f n))
unfolding opens
opens_from {O = O} {R = R} k f n mk ts d o go each = by_test (sees mk ts) refl
  where
    by_test : (x : Bool) → sees mk ts ≡ x → Closed O R n ts (and_then (cond x (opens_any n ts) (Stuck ts)) (f n))
    by_test true h = let s = sees_is mk ts h in marked_opens k f n mk ts (s.0) (after ts) d (s.1) o go each
    by_test false h = Closed.stuck

pub closed_opens : {B : Type 0} {O : Token → Type 0} {R : ℕ → List Token → List Token → Type 0} (f : ℕ → Pos → Parser B) (n : ℕ) (mk : Punct) (ts d : List Token) → ((p : Pos) → O (mark mk p))
    → ((more : ℕ) (p : Pos) (rest : List Token) → R (suc more) (mark mk p ∷ (d ++ rest)) rest)
    → ((i : ℕ) → n ≡ suc i → (p : Pos) (us : List Token) → Closed O (λ more vs rest. R (suc more) (mark mk p ∷ vs) rest) i us (f (suc i) p us)) → Closed O R n ts (and_then (opens n mk ts) (f n))
closed_opens f n mk ts d o go each = opens_from 1 f n mk ts d o (go 0) each

-- ---- lists
-- an item stands in front of a list
abbrev pub Front : {A : Type 0} → (ℕ → List Token → List A → List Token → Type 0) → ℕ → List Token → A → List Token → Type 0
Front {A} Star more ts x us = (xs : List A) (vs : List Token) → Star more us xs vs → Star more ts (x ∷ xs) vs

abbrev pub Some' : {A : Type 0} → (ℕ → List Token → A → List Token → Type 0) → ℕ → List Token → List Token → Type 0
Some' {A} P more ts rest = (a : A) × P more ts a rest

abbrev pub guarded : {A : Type 0} → (List Token → Bool) → (ℕ → Parser A) → ℕ → Parser A
guarded goes item n = λ ts. cond (goes ts) (item n ts) (Stuck ts)

closed_while : {A : Type 0} {O : Token → Type 0} (Star : ℕ → List Token → List A → List Token → Type 0) → ((more : ℕ) (us : List Token) → Star more us [] us) → (goes : List Token → Bool) (item : ℕ → Parser A) → Good (guarded goes item) (Front Star) → (n : ℕ)
    → ((ts : List Token) → goes ts ≡ true → Closed O (Some' (Front Star)) n ts (item n ts)) → (left : ℕ) (found : List A) (ts : List Token) → Closed O (Some' Star) n ts (while_from goes (item n) left found ts)
unfolding while_from
closed_while Star none goes item good n each zero found ts = Closed.stuck
closed_while {A} {O} Star none goes item good n each (suc left) found ts = closed_if (goes ts) (λ h.
    let same : guarded goes item n ts ≡ item n ts = ap (λ b. cond b (item n ts) (Stuck ts)) h in
    subst (λ (x : Read A). Closed O (Some' Star) n ts (and_then x (λ x. while_from goes (item n) left (found ++ x ∷ [])))) same
    (closed_then good n ts [] (λ more ss x rest i. (x ∷ [], i [] rest (none more rest))) (subst (λ (x : Read A). Closed O (Some' (Front Star)) n ts x) (sym same) (each ts h))
    (λ x us. closed_map (λ more vs ws c ss i. (x ∷ (c.0), i (c.0) ws (c.1))) (closed_while Star none goes item good n each left (found ++ x ∷ []) us)))) (λ h. Closed.got)

pub closed_many : {A : Type 0} {O : Token → Type 0} (Star : ℕ → List Token → List A → List Token → Type 0) → ((more : ℕ) (us : List Token) → Star more us [] us) → (goes : List Token → Bool) → Ahead goes → (item : ℕ → Parser A)
    → ((n : ℕ) → Fine 1 (item n)) → ((n more : ℕ) → n ≤ more → (ts : List Token) → Less (item n ts) (item more ts)) → ((n : ℕ) (ts : List Token) → goes ts ≡ true → Yields (λ x us. Front Star n ts x us) (item n ts)) → (n : ℕ)
    → ((ts : List Token) → goes ts ≡ true → Closed O (Some' (Front Star)) n ts (item n ts)) → (ts : List Token) → Closed O (Some' Star) n ts (many goes (item n) ts)
closed_many Star none goes same item fine less sound n each ts = closed_while Star none goes item
    (record { fine = λ n. fine_if goes same (loosen (fine n)) (fine_refuse 0); less = λ n more h ts. less_if (goes ts) (less n more h ts) Less.same; sound = λ n ts. if_yields (goes ts) (λ h. sound n ts h) (λ h. Yields.stuck) }) n each (turns ts) [] ts

-- ---- single tokens are never too deep
pub calm_expect : (mk : Punct) (ts : List Token) → Calm (expect mk ts)
unfolding expect
calm_expect mk [] = Calm.stuck
calm_expect mk (t ∷ ts) = calm_cond (is_mark mk t.word)
  where
    calm_cond : (b : Bool) → Calm (cond b (Got t.pos ts) (Stuck (t ∷ ts)))
    calm_cond true = Calm.got
    calm_cond false = Calm.stuck

pub calm_taken : {A : Type 0} (o : Option A) (ts : List Token) → Calm (taken o ts)
calm_taken None ts = Calm.stuck
calm_taken (Some a) ts = Calm.got

pub calm_any_name : (ts : List Token) → Calm (any_name ts)
unfolding any_name
calm_any_name ts = calm_taken (name_at ts) ts

pub calm_variable : (ns : Names) (ts : List Token) → Calm (variable ns ts)
unfolding variable
calm_variable ns ts = calm_taken (unless_type ns (name_at ts)) ts

pub calm_takes : (ts : List Token) → Calm (takes ts)
calm_takes [] = Calm.stuck
calm_takes (t ∷ ts) = Calm.got

pub calm_if : {A : Type 0} {x y : Read A} (b : Bool) → Calm x → Calm y → Calm (cond b x y)
calm_if true one other = one
calm_if false one other = other

calm_while : {A : Type 0} (goes : List Token → Bool) (item : Parser A) → ((ts : List Token) → Calm (item ts)) → (n : ℕ) (found : List A) (ts : List Token) → Calm (while_from goes item n found ts)
unfolding while_from
calm_while goes item each zero found ts = Calm.stuck
calm_while goes item each (suc n) found ts = calm_if (goes ts) (calm_then (each ts) (λ x us. calm_while goes item each n (found ++ x ∷ []) us)) Calm.got

pub calm_many : {A : Type 0} (goes : List Token → Bool) (item : Parser A) → ((ts : List Token) → Calm (item ts)) → (ts : List Token) → Calm (many goes item ts)
calm_many goes item each ts = calm_while goes item each (turns ts) [] ts

-- a reader that needs no room
pub good_leaf : {A : Type 0} {k : ℕ} {p : Parser A} {P : List Token → A → List Token → Type 0} → Fine k p → ((ts : List Token) → Yields (λ a us. P ts a us) (p ts)) → Good (λ _. p) (λ _. P)
good_leaf fine sound = record { fine = λ n. loosen fine; less = λ n more h ts. Less.same; sound = λ n ts. sound ts }

pub good_expect : (mk : Punct) → Good (λ _. expect mk) (λ _ ts p us. Marked mk ts p us)
good_expect mk = good_leaf (fine_expect mk) (expect_yields mk)

pub good_any_name : Good (λ _. any_name) (λ _ ts x us. IsWord ts x us)
good_any_name = good_leaf fine_any_name any_name_yields

pub good_variable : (ns : Names) → Good (λ _. variable ns) (λ _ ts x us. IsVariable ns ts x us)
good_variable ns = good_leaf (fine_variable ns) (variable_yields ns)

opens_read : {O : Token → Type 0} (n : ℕ) (mk : Punct) (ts : List Token) (p : Pos) (us : List Token) → Marked mk ts p us → ((p : Pos) → O (mark mk p)) → Closed O (Some' (λ more ss p vs. Opened mk more ss p vs)) n ts (opens_any n ts)
unfolding opens_any
opens_read zero mk _ p us Marked.marked o = Closed.deep [] [] 1 refl (omega arith) (o p) (λ rest. (p, Opened.opened))
opens_read (suc n) mk _ p us Marked.marked o = Closed.got

pub opens_closed : {O : Token → Type 0} (n : ℕ) (mk : Punct) (ts : List Token) → ((p : Pos) → O (mark mk p)) → Closed O (Some' (λ more ss p vs. Opened mk more ss p vs)) n ts (opens n mk ts)
unfolding opens
opens_closed n mk ts o = closed_if (sees mk ts) (λ h. let k = sees_is mk ts h in opens_read n mk ts (k.0) (after ts) (k.1) o) (λ h. Closed.stuck)

pub good_opens : (mk : Punct) → Good (λ n. opens n mk) (λ n ts p us. Opened mk n ts p us)
good_opens mk = record { fine = λ n. loosen (fine_opens n mk); less = λ n more h ts. less_opens n more h mk ts; sound = λ n ts. opens_yields n mk ts }

-- behind a token that is there
pub stepped : {A : Type 0} {O : Token → Type 0} {R : ℕ → List Token → List Token → Type 0} {n : ℕ} (t : Token) {us : List Token} {y : Read A} → Closed O (λ more vs rest. R more (t ∷ vs) rest) n us y → Closed O R n (t ∷ us) y
stepped t Closed.got = Closed.got
stepped t Closed.stuck = Closed.stuck
stepped t (Closed.deep b tail more e h o w) = Closed.deep (t ∷ b) tail more (ap (λ z. t ∷ z) e) h o w

-- any token
abbrev pub Any : Token → Type 0
Any t = Unit {0}

pub closed_any : {A : Type 0} {O : Token → Type 0} {R : ℕ → List Token → List Token → Type 0} {n : ℕ} {ts : List Token} {x : Read A} → Closed O R n ts x → Closed Any R n ts x
closed_any Closed.got = Closed.got
closed_any Closed.stuck = Closed.stuck
closed_any (Closed.deep b tail more e h o w) = Closed.deep b tail more e h tt w

-- one deeper
pub deeper_room : {A : Type 0} {O : Token → Type 0} {R : ℕ → List Token → List Token → Type 0} (i : ℕ) (ts : List Token) {x : Read A} → Closed O (λ more vs rest. R (suc more) vs rest) i ts x → Closed O R (suc i) ts x
deeper_room i ts Closed.got = Closed.got
deeper_room i ts Closed.stuck = Closed.stuck
deeper_room i ts (Closed.deep b tail more e h o w) = Closed.deep b tail (suc more) e (omega (arith, h)) o w

pub closed_reader : {A : Type 0} {O : Token → Type 0} {R : ℕ → List Token → List Token → Type 0} {n : ℕ} (p q : Parser A) (b : Bool) (ts : List Token) → (b ≡ true → Closed O R n ts (p ts)) → (b ≡ false → Closed O R n ts (q ts)) → Closed O R n ts (cond b p q ts)
closed_reader p q true ts one other = one refl
closed_reader p q false ts one other = other refl

-- ---- with a mark after each
pub calm_ends : {A : Type 0} (close : Punct) (a : A) (ts : List Token) → Calm (and_then (expect close ts) (λ _ us. Got a us))
calm_ends close a ts = calm_then (calm_expect close ts) (λ p us. Calm.got)

-- behind a comma
comma_closed : {A : Type 0} {O : Token → Type 0} {R : ℕ → List Token → List Token → Type 0} {n : ℕ} (us : List Token) (p : Pos) (vs : List Token) {y : Read A} → Marked m.Comma us p vs → Closed O (λ more ws rest. (p : Pos) → R more (mark m.Comma p ∷ ws) rest) n vs y → Closed O R n us y
comma_closed _ p vs Marked.marked c = stepped (mark m.Comma p) (closed_map (λ more ws rest go. go p) c)

list_closed_from : {A : Type 0} {O : Token → Type 0} (One : ℕ → List Token → A → List Token → Type 0) (Rest : ℕ → List Token → List A → List Token → Type 0) (close : Punct) (one : ℕ → Parser A) → Good one One
    → ((more : ℕ) (ts : List Token) (x : A) (p : Pos) (us : List Token) → One more ts x (mark close p ∷ us) → Rest more ts (x ∷ []) us)
    → ((more : ℕ) (ts : List Token) (x : A) (p : Pos) (us : List Token) (xs : List A) (vs : List Token) → One more ts x (mark m.Comma p ∷ us) → Rest more us xs vs → Rest more ts (x ∷ xs) vs)
    → (n : ℕ) → ((ts : List Token) → Closed O (Some' One) n ts (one n ts)) → (left : ℕ) (found : List A) (ts : List Token) → Closed O (Some' Rest) n ts (list_from close (one n) left found ts)
unfolding list_from
list_closed_from One Rest close one good last next n each zero found ts = Closed.stuck
list_closed_from One Rest close one good last next n each (suc left) found ts =
    closed_then good n ts (mark close (record { line = 1; col = 1 }) ∷ []) (λ more ss x rest i. (x ∷ [], last more ss x _ rest i)) (each ts) (λ x us.
    closed_if (sees m.Comma us)
    (λ h. let c = sees_is m.Comma us h in comma_closed us (c.0) (after us) (c.1)
    (closed_map (λ more ws rest r p ss i. (x ∷ (r.0), next more ss x p ws (r.0) rest i (r.1))) (list_closed_from One Rest close one good last next n each left (found ++ x ∷ []) (after us))))
    (λ h. closed_calm (calm_ends close (found ++ x ∷ []) us)))

pub list_closed : {A : Type 0} {O : Token → Type 0} (One : ℕ → List Token → A → List Token → Type 0) (Rest : ℕ → List Token → List A → List Token → Type 0) (close : Punct) (one : ℕ → Parser A) → Good one One
    → ((more : ℕ) (ts : List Token) (x : A) (p : Pos) (us : List Token) → One more ts x (mark close p ∷ us) → Rest more ts (x ∷ []) us)
    → ((more : ℕ) (ts : List Token) (x : A) (p : Pos) (us : List Token) (xs : List A) (vs : List Token) → One more ts x (mark m.Comma p ∷ us) → Rest more us xs vs → Rest more ts (x ∷ xs) vs)
    → (n : ℕ) → ((ts : List Token) → Closed O (Some' One) n ts (one n ts)) → (ts : List Token) → Closed O (Some' Rest) n ts (list close (one n) ts)
list_closed One Rest close one good last next n each ts = list_closed_from One Rest close one good last next n each (turns ts) [] ts

-- the last that can be too deep, of any form
pub closed_tail : {A B : Type 0} {O : Token → Type 0} {Q R : ℕ → List Token → List Token → Type 0} {f : A → Parser B} (n : ℕ) (ts d : List Token) {x : Read A}
    → ((more : ℕ) (ss rest : List Token) → Q more ss (d ++ rest) → R more ss rest)
    → Closed O Q n ts x → ((a : A) (us : List Token) → Calm (f a us)) → Closed O R n ts (and_then x f)
closed_tail n ts d go (Closed.got {a} {us}) calm = closed_calm (calm a us)
closed_tail n ts d go Closed.stuck calm = Closed.stuck
closed_tail {R = R} n ts d go (Closed.deep {t} b tail more e h o w) calm = Closed.deep b (tail ++ d) more e h o (λ rest. subst (λ z. R more (b ++ t ∷ z) rest) (sym (append_assoc tail d rest)) (go more _ rest (w (d ++ rest))))

-- the first of two is closed with what stands for the second
pub relabel : {A B : Type 0} {O : Token → Type 0} {R : ℕ → List Token → List Token → Type 0} (n : ℕ) (ts : List Token) {t : Token} {r : List Token} → Closed {A = A} O R n ts (Deep (t ∷ r)) → Closed {A = B} O R n ts (Deep (t ∷ r))
relabel n ts (Closed.deep b tail more e h o w) = Closed.deep b tail more e h o w

through_read : {A B : Type 0} {O : Token → Type 0} {R : ℕ → List Token → List Token → Type 0} {p : ℕ → Parser A} {P : ℕ → List Token → A → List Token → Type 0} (f : A → Parser B) → Good p P → (n : ℕ) (ts : List Token)
    → ((a : A) (us : List Token) → Closed O (λ more vs rest. (ss : List Token) → P more ss a vs → R more ss rest) n us (f a us)) → (x : Read A) → p n ts ≡ x → Closed O R n ts x → Closed O R n ts (and_then x f)
through_read f good n ts each (Got a us) e c = behind_closed good n ts a us e (each a us)
through_read f good n ts each (Stuck us) e c = Closed.stuck
through_read f good n ts each (Deep (t ∷ r)) e c = relabel n ts c
through_read f good n ts each (Deep []) e c = absurd (elim c [ ])

pub closed_through : {A B : Type 0} {O : Token → Type 0} {R : ℕ → List Token → List Token → Type 0} {p : ℕ → Parser A} {P : ℕ → List Token → A → List Token → Type 0} {f : A → Parser B} → Good p P → (n : ℕ) (ts : List Token)
    → Closed O R n ts (p n ts) → ((a : A) (us : List Token) → Closed O (λ more vs rest. (ss : List Token) → P more ss a vs → R more ss rest) n us (f a us)) → Closed O R n ts (and_then (p n ts) f)
closed_through {p = p} {f = f} good n ts one each = through_read f good n ts each (p n ts) refl one

direct_while : {A : Type 0} {O : Token → Type 0} (Star : ℕ → List Token → List A → List Token → Type 0) (goes : List Token → Bool) (item : ℕ → Parser A) → Good (guarded goes item) (Front Star) → (n : ℕ)
    → ((ts : List Token) → goes ts ≡ true → Closed O (Some' Star) n ts (item n ts)) → (left : ℕ) (found : List A) (ts : List Token) → Closed O (Some' Star) n ts (while_from goes (item n) left found ts)
unfolding while_from
direct_while Star goes item good n each zero found ts = Closed.stuck
direct_while {A} {O} Star goes item good n each (suc left) found ts = closed_if (goes ts) (λ h.
    let same : guarded goes item n ts ≡ item n ts = ap (λ b. cond b (item n ts) (Stuck ts)) h in
    subst (λ (x : Read A). Closed O (Some' Star) n ts (and_then x (λ x. while_from goes (item n) left (found ++ x ∷ [])))) same
    (closed_through good n ts (subst (λ (x : Read A). Closed O (Some' Star) n ts x) (sym same) (each ts h))
    (λ x us. closed_map (λ more vs ws c ss i. (x ∷ (c.0), i (c.0) ws (c.1))) (direct_while Star goes item good n each left (found ++ x ∷ []) us)))) (λ h. Closed.got)

pub direct_many : {A : Type 0} {O : Token → Type 0} (Star : ℕ → List Token → List A → List Token → Type 0) → (goes : List Token → Bool) → Ahead goes → (item : ℕ → Parser A)
    → ((n : ℕ) → Fine 1 (item n)) → ((n more : ℕ) → n ≤ more → (ts : List Token) → Less (item n ts) (item more ts)) → ((n : ℕ) (ts : List Token) → goes ts ≡ true → Yields (λ x us. Front Star n ts x us) (item n ts)) → (n : ℕ)
    → ((ts : List Token) → goes ts ≡ true → Closed O (Some' Star) n ts (item n ts)) → (ts : List Token) → Closed O (Some' Star) n ts (many goes (item n) ts)
direct_many Star goes same item fine less sound n each ts = direct_while Star goes item
    (record { fine = λ n. fine_if goes same (loosen (fine n)) (fine_refuse 0); less = λ n more h ts. less_if (goes ts) (less n more h ts) Less.same; sound = λ n ts. if_yields (goes ts) (λ h. sound n ts h) (λ h. Yields.stuck) }) n each (turns ts) [] ts
