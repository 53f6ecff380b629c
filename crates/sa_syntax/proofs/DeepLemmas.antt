-- Readers answer the same up to a token, whatever follows it.
use Rattle.std.proofs.Common.{◌≡◌, ℕ, zero, suc, ◌+◌, ◌≤◌, ◌<◌, List, [], ◌∷◌, ◌++◌, Bool, true, false, cond, refl, sym, ap, ◌∙◌, subst, length, append_assoc, length-append, arith, ◌⊎◌, inl, inr, Option, Some, None}
use Rattle.sa_base.specs.declared.pos.Pos.{Pos}
use Rattle.sa_tokens.specs.declared.punct.Punct.{Punct}
use Rattle.sa_tokens.specs.declared.punct.Punct.TheVariants as m
use Rattle.sa_tokens.specs.declared.token.Token.{Token}
use Rattle.sa_syntax.specs.Words.{Names, word, is_type_name}
use Rattle.sa_syntax.specs.Reading.{Read, Got, Stuck, Deep, Parser, and_then, is_mark, sees, after, expect, opens_any, opens, name_at, taken, any_name, unless_type, variable, key_at, mark_at, turns, while_from, many, ◌>>=◌, ◌>>◌, pure, refuse}
use Rattle.sa_syntax.specs.ReadStmt.{takes, list_from, list, within}

-- what is left, or the tokens from the refused one, is behind what was read
pub data Shrinks {A : Type 0} (k : ℕ) (ts : List Token) : Read A → Type 0 where
  got : {a : A} {us : List Token} → (xs : List Token) → ts ≡ xs ++ us → k ≤ length xs → Shrinks k ts (Got a us)
  stuck : {us : List Token} → (xs : List Token) → ts ≡ xs ++ us → Shrinks k ts (Stuck us)
  deep : {t : Token} {us : List Token} → (xs : List Token) → ts ≡ xs ++ t ∷ us → Shrinks k ts (Deep (t ∷ us))

-- the answers on two texts that are the same up to the token `t`, and then `r` and `s`
pub data Local {A : Type 0} (t : Token) (r s : List Token) : Read A → Read A → Type 0 where
  got : {a : A} (b : List Token) → Local t r s (Got a (b ++ t ∷ r)) (Got a (b ++ t ∷ s))
  deep : (b : List Token) → Local t r s (Deep (b ++ t ∷ r)) (Deep (b ++ t ∷ s))
  stuck : (b : List Token) → Local t r s (Stuck (b ++ t ∷ r)) (Stuck (b ++ t ∷ s))
  -- the token is behind
  gone : {a : A} {us : List Token} {y : Read A} → length us ≤ length r → Local t r s (Got a us) y
  gone_deep : {us : List Token} {y : Read A} → length us ≤ length r → Local t r s (Deep us) y
  gone_stuck : {us : List Token} {y : Read A} → length us ≤ length r → Local t r s (Stuck us) y

pub record Fine {A : Type 0} (k : ℕ) (p : Parser A) : Type 0 where
  pub shrinks : (ts : List Token) → Shrinks k ts (p ts)
  pub local : (b : List Token) (t : Token) (r s : List Token) → Local t r s (p (b ++ t ∷ r)) (p (b ++ t ∷ s))

-- it looks at the first token alone
abbrev pub Ahead : {B : Type 0} → (List Token → B) → Type 0
Ahead h = (t : Token) (r s : List Token) → h (t ∷ r) ≡ h (t ∷ s)

-- ---- what is behind
pub behind : {A : Type 0} {k : ℕ} {x : Read A} (i : ℕ) (ts xs us : List Token) → ts ≡ xs ++ us → i ≤ length xs + k → Shrinks k us x → Shrinks i ts x
behind {k = k} i ts xs us e h (Shrinks.got {us = vs} ys f l) =
    let n : length (xs ++ ys) ≡ length xs + length ys = length-append xs ys in
    Shrinks.got (xs ++ ys) (e ∙ ap (λ z. xs ++ z) f ∙ sym (append_assoc xs ys _)) (omega (arith, n, h, l))
behind i ts xs us e h (Shrinks.stuck ys f) = Shrinks.stuck (xs ++ ys) (e ∙ ap (λ z. xs ++ z) f ∙ sym (append_assoc xs ys _))
behind i ts xs us e h (Shrinks.deep ys f) = Shrinks.deep (xs ++ ys) (e ∙ ap (λ z. xs ++ z) f ∙ sym (append_assoc xs ys _))

pub beyond : {A : Type 0} {k : ℕ} {x y : Read A} {t : Token} {r s : List Token} (us : List Token) → length us ≤ length r → Shrinks k us x → Local t r s x y
beyond {r = r} us h (Shrinks.got {us = vs} xs e l) =
    let n : length us ≡ length (xs ++ vs) = ap length e in
    let l : length (xs ++ vs) ≡ length xs + length vs = length-append xs vs in
    Local.gone (omega (arith, n, l, h))
beyond {r = r} us h (Shrinks.stuck {us = vs} xs e) =
    let n : length us ≡ length (xs ++ vs) = ap length e in
    let l : length (xs ++ vs) ≡ length xs + length vs = length-append xs vs in
    Local.gone_stuck (omega (arith, n, l, h))
beyond {r = r} us h (Shrinks.deep {t = t} {us = vs} xs e) =
    let n : length us ≡ length (xs ++ t ∷ vs) = ap length e in
    let l : length (xs ++ t ∷ vs) ≡ length xs + length (t ∷ vs) = length-append xs (t ∷ vs) in
    Local.gone_deep (omega (arith, n, l, h))

pub loosen_read : {A : Type 0} {k : ℕ} {ts : List Token} {x : Read A} → Shrinks k ts x → Shrinks 0 ts x
loosen_read (Shrinks.got xs e l) = Shrinks.got xs e (omega arith)
loosen_read (Shrinks.stuck xs e) = Shrinks.stuck xs e
loosen_read (Shrinks.deep xs e) = Shrinks.deep xs e

pub loosen : {A : Type 0} {k : ℕ} {p : Parser A} → Fine k p → Fine 0 p
loosen f = record { shrinks = λ ts. loosen_read (f.shrinks ts); local = f.local }

-- ---- one after the other
pub shrink_then : {A B : Type 0} {j k : ℕ} (i : ℕ) → i ≤ j + k → {f : A → Parser B} → ((a : A) (us : List Token) → Shrinks k us (f a us)) → (ts : List Token) {x : Read A} → Shrinks j ts x → Shrinks i ts (and_then x f)
shrink_then i h go ts (Shrinks.got {a} {us} xs e l) = behind i ts xs us e (omega (arith, h, l)) (go a us)
shrink_then i h go ts (Shrinks.stuck xs e) = Shrinks.stuck xs e
shrink_then i h go ts (Shrinks.deep xs e) = Shrinks.deep xs e

local_then : {A B : Type 0} {k : ℕ} {f : A → Parser B} → ((a : A) → Fine k (f a)) → {t : Token} {r s : List Token} {x y : Read A} → Local t r s x y → Local t r s (and_then x f) (and_then y f)
local_then go {t} {r} {s} (Local.got {a} b) = (go a).local b t r s
local_then go (Local.deep b) = Local.deep b
local_then go (Local.gone {a} {us} h) = beyond us h ((go a).shrinks us)
local_then go (Local.gone_deep h) = Local.gone_deep h
local_then go (Local.gone_stuck h) = Local.gone_stuck h
local_then go (Local.stuck b) = Local.stuck b

fine_both : {A B : Type 0} {j k : ℕ} (i : ℕ) → i ≤ j + k → {p : Parser A} {f : A → Parser B} → Fine j p → ((a : A) → Fine k (f a)) → Fine i (p >>= f)
fine_both i h one go = record { shrinks = λ ts. shrink_then i h (λ a. (go a).shrinks) ts (one.shrinks ts); local = λ b t r s. local_then go (one.local b t r s) }

pub fine_then : {A B : Type 0} {j k : ℕ} {p : Parser A} {f : A → Parser B} → Fine j p → ((a : A) → Fine k (f a)) → Fine 0 (p >>= f)
fine_then = fine_both 0 (omega arith)

pub fine_first : {A B : Type 0} {j k : ℕ} {p : Parser A} {f : A → Parser B} → Fine j p → ((a : A) → Fine k (f a)) → Fine j (p >>= f)
fine_first {j = j} {k = k} = fine_both j (omega arith)

pub fine_next : {A B : Type 0} {j k : ℕ} {p : Parser A} {f : A → Parser B} → Fine j p → ((a : A) → Fine k (f a)) → Fine k (p >>= f)
fine_next {j = j} {k = k} = fine_both k (omega arith)

pub fine_pure : {A : Type 0} (a : A) → Fine 0 (pure a)
fine_pure a = record { shrinks = λ ts. Shrinks.got [] refl (omega arith); local = λ b t r s. Local.got b }

pub fine_refuse : {A : Type 0} (k : ℕ) → Fine {A = A} k refuse
fine_refuse k = record { shrinks = λ ts. Shrinks.stuck [] refl; local = λ b t r s. Local.stuck b }

-- ---- by the first token
pub fine_ahead : {A B : Type 0} {k : ℕ} (h : List Token → B) → Ahead h → (g : B → Parser A) → ((x : B) → Fine k (g x)) → Fine k (λ ts. g (h ts) ts)
fine_ahead {k = k} h same g each = record { shrinks = λ ts. (each (h ts)).shrinks ts; local = local }
  where
    local : (b : List Token) (t : Token) (r s : List Token) → Local t r s (g (h (b ++ t ∷ r)) (b ++ t ∷ r)) (g (h (b ++ t ∷ s)) (b ++ t ∷ s))
    local [] t r s = subst (λ y. Local t r s (g (h (t ∷ r)) (t ∷ r)) (g y (t ∷ s))) (same t r s) ((each (h (t ∷ r))).local [] t r s)
    local (c ∷ b) t r s = subst (λ y. Local t r s (g (h (c ∷ b ++ t ∷ r)) (c ∷ b ++ t ∷ r)) (g y (c ∷ b ++ t ∷ s))) (same c (b ++ t ∷ r) (b ++ t ∷ s)) ((each (h (c ∷ b ++ t ∷ r))).local (c ∷ b) t r s)

either_way : {A : Type 0} {k : ℕ} {p q : Parser A} → Fine k p → Fine k q → (x : Bool) → Fine k (λ ts. cond x (p ts) (q ts))
either_way one other true = one
either_way one other false = other

pub fine_if : {A : Type 0} {k : ℕ} (h : List Token → Bool) → Ahead h → {p q : Parser A} → Fine k p → Fine k q → Fine k (λ ts. cond (h ts) (p ts) (q ts))
fine_if h same {p} {q} one other = fine_ahead h same (λ x ts. cond x (p ts) (q ts)) (either_way one other)

-- behind the first token
pub fine_after : {A : Type 0} {k : ℕ} {p : Parser A} → Fine k p → Fine k (λ ts. p (after ts))
fine_after {k = k} {p} one = record { shrinks = shrinks; local = local }
  where
    shrinks : (ts : List Token) → Shrinks k ts (p (after ts))
    shrinks [] = one.shrinks []
    shrinks (t ∷ ts) = behind k (t ∷ ts) (t ∷ []) ts refl (omega arith) (one.shrinks ts)

    local : (b : List Token) (t : Token) (r s : List Token) → Local t r s (p (after (b ++ t ∷ r))) (p (after (b ++ t ∷ s)))
    local [] t r s = beyond r (omega arith) (one.shrinks r)
    local (c ∷ b) t r s = one.local b t r s

-- ---- single tokens
-- the first token alone decides, and is taken
taking : {A : Type 0} {p : Parser A} → ((t : Token) (ts : List Token) → Shrinks 1 (t ∷ ts) (p (t ∷ ts))) → p [] ≡ Stuck [] → ((c : Token) (b : List Token) (t : Token) (r s : List Token) → Local t r s (p (c ∷ b ++ t ∷ r)) (p (c ∷ b ++ t ∷ s))) → ((t : Token) (r s : List Token) → Local t r s (p (t ∷ r)) (p (t ∷ s))) → Fine 1 p
taking {A} {p} one none far near = record { shrinks = shrinks; local = local }
  where
    shrinks : (ts : List Token) → Shrinks 1 ts (p ts)
    shrinks [] = subst (λ (x : Read A). Shrinks 1 [] x) (sym none) (Shrinks.stuck [] refl)
    shrinks (t ∷ ts) = one t ts

    local : (b : List Token) (t : Token) (r s : List Token) → Local t r s (p (b ++ t ∷ r)) (p (b ++ t ∷ s))
    local [] t r s = near t r s
    local (c ∷ b) t r s = far c b t r s

pub fine_takes : Fine 1 takes
fine_takes = taking (λ t ts. Shrinks.got (t ∷ []) refl (omega arith)) refl (λ c b t r s. Local.got b) (λ t r s. Local.gone (omega arith))

taken_shrinks : {A : Type 0} (o : Option A) (t : Token) (ts : List Token) → Shrinks 1 (t ∷ ts) (taken o (t ∷ ts))
taken_shrinks None t ts = Shrinks.stuck [] refl
taken_shrinks (Some a) t ts = Shrinks.got (t ∷ []) refl (omega arith)

taken_far : {A : Type 0} (o : Option A) (c : Token) (b : List Token) (t : Token) (r s : List Token) → Local t r s (taken o (c ∷ b ++ t ∷ r)) (taken o (c ∷ b ++ t ∷ s))
taken_far None c b t r s = Local.stuck (c ∷ b)
taken_far (Some a) c b t r s = Local.got b

taken_near : {A : Type 0} (o : Option A) (t : Token) (r s : List Token) → Local t r s (taken o (t ∷ r)) (taken o (t ∷ s))
taken_near None t r s = Local.stuck []
taken_near (Some a) t r s = Local.gone (omega arith)

pub fine_taken : {A : Type 0} (h : List Token → Option A) → Ahead h → h [] ≡ None → Fine 1 (λ ts. taken (h ts) ts)
fine_taken {A} h same none = taking (λ t ts. taken_shrinks (h (t ∷ ts)) t ts) (ap (λ o. taken o []) none)
    (λ c b t r s. subst (λ (o : Option A). Local t r s (taken (h (c ∷ b ++ t ∷ r)) (c ∷ b ++ t ∷ r)) (taken o (c ∷ b ++ t ∷ s))) (same c (b ++ t ∷ r) (b ++ t ∷ s)) (taken_far (h (c ∷ b ++ t ∷ r)) c b t r s))
    (λ t r s. subst (λ (o : Option A). Local t r s (taken (h (t ∷ r)) (t ∷ r)) (taken o (t ∷ s))) (same t r s) (taken_near (h (t ∷ r)) t r s))

pub fine_any_name : Fine 1 any_name
unfolding any_name name_at
fine_any_name = fine_taken name_at (λ t r s. refl) refl

pub fine_variable : (ns : Names) → Fine 1 (variable ns)
unfolding variable name_at
fine_variable ns = fine_taken (λ ts. unless_type ns (name_at ts)) (λ t r s. refl) refl

pub variable_gone : (ns : Names) (w : List ℕ) (p : Pos) (ts : List Token) → is_type_name ns w ≡ false → Shrinks 0 ts (variable ns (word w p ∷ ts))
unfolding variable name_at
variable_gone ns w p ts h = rw h (Shrinks.got [] refl (omega arith))

pub any_name_gone : (w : List ℕ) (p : Pos) (ts : List Token) → Shrinks 0 ts (any_name (word w p ∷ ts))
unfolding any_name name_at
any_name_gone w p ts = Shrinks.got [] refl (omega arith)

expect_shrinks : (x : Bool) (t : Token) (ts : List Token) → Shrinks 1 (t ∷ ts) (cond x (Got t.pos ts) (Stuck (t ∷ ts)))
expect_shrinks true t ts = Shrinks.got (t ∷ []) refl (omega arith)
expect_shrinks false t ts = Shrinks.stuck [] refl

expect_far : (x : Bool) (c : Token) (b : List Token) (t : Token) (r s : List Token) → Local t r s (cond x (Got c.pos (b ++ t ∷ r)) (Stuck (c ∷ b ++ t ∷ r))) (cond x (Got c.pos (b ++ t ∷ s)) (Stuck (c ∷ b ++ t ∷ s)))
expect_far true c b t r s = Local.got b
expect_far false c b t r s = Local.stuck (c ∷ b)

expect_near : (x : Bool) (t : Token) (r s : List Token) → Local t r s (cond x (Got t.pos r) (Stuck (t ∷ r))) (cond x (Got t.pos s) (Stuck (t ∷ s)))
expect_near true t r s = Local.gone (omega arith)
expect_near false t r s = Local.stuck []

pub fine_expect : (m : Punct) → Fine 1 (expect m)
unfolding expect
fine_expect m = taking (λ t ts. expect_shrinks (is_mark m t.word) t ts) refl (λ c b t r s. expect_far (is_mark m c.word) c b t r s) (λ t r s. expect_near (is_mark m t.word) t r s)

pub fine_opens_any : (n : ℕ) → Fine 1 (opens_any n)
unfolding opens_any
fine_opens_any zero = taking (λ t ts. Shrinks.deep [] refl) refl (λ c b t r s. Local.deep (c ∷ b)) (λ t r s. Local.deep [])
fine_opens_any (suc n) = taking (λ t ts. Shrinks.got (t ∷ []) refl (omega arith)) refl (λ c b t r s. Local.got b) (λ t r s. Local.gone (omega arith))

pub sees_ahead : (m : Punct) → Ahead (sees m)
unfolding sees
sees_ahead m t r s = refl

pub name_ahead : Ahead name_at
unfolding name_at
name_ahead t r s = refl

pub key_ahead : Ahead key_at
unfolding key_at
key_ahead t r s = refl

pub mark_ahead : Ahead mark_at
unfolding mark_at
mark_ahead t r s = refl

pub fine_opens : (n : ℕ) (m : Punct) → Fine 1 (opens n m)
unfolding opens
fine_opens n m = fine_if (sees m) (sees_ahead m) (fine_opens_any n) (fine_refuse 1)

-- what stands behind an opening token may have room
pub fine_opens_any_then : {B : Type 0} {k : ℕ} (n : ℕ) {f : Pos → Parser B} → ((i : ℕ) → n ≡ suc i → (p : Pos) → Fine k (f p)) → Fine 1 (opens_any n >>= f)
unfolding opens_any
fine_opens_any_then zero go = taking (λ t ts. Shrinks.deep [] refl) refl (λ c b t r s. Local.deep (c ∷ b)) (λ t r s. Local.deep [])
fine_opens_any_then (suc n) go = fine_first (fine_opens_any (suc n)) (go n refl)

closed_way : {B : Type 0} {k : ℕ} {f : Pos → Parser B} → ((i : ℕ) → zero ≡ suc i → (p : Pos) → Fine k (f p)) → (x : Bool) → Fine 1 (λ ts. and_then (cond x (opens_any zero ts) (Stuck ts)) f)
closed_way go true = fine_opens_any_then zero go
closed_way go false = fine_refuse 1

pub fine_opens_then : {B : Type 0} {k : ℕ} (n : ℕ) (m : Punct) {f : Pos → Parser B} → ((i : ℕ) → n ≡ suc i → (p : Pos) → Fine k (f p)) → Fine 1 (opens n m >>= f)
unfolding opens opens_any
fine_opens_then zero m {f} go = fine_ahead (sees m) (sees_ahead m) (λ x ts. and_then (cond x (opens_any zero ts) (Stuck ts)) f) (closed_way go)
fine_opens_then (suc n) m go = fine_first (fine_opens (suc n) m) (go n refl)

-- ---- lists
pub shrink_cond : {A : Type 0} {k : ℕ} {ts : List Token} {x y : Read A} (b : Bool) → Shrinks k ts x → Shrinks k ts y → Shrinks k ts (cond b x y)
shrink_cond true one other = one
shrink_cond false one other = other

shrink_while : {A : Type 0} (goes : List Token → Bool) (item : Parser A) → Fine 1 item → (n : ℕ) (found : List A) (ts : List Token) → Shrinks 0 ts (while_from goes item n found ts)
unfolding while_from
shrink_while goes item one zero found ts = Shrinks.stuck [] refl
shrink_while goes item one (suc n) found ts = shrink_cond (goes ts)
    (shrink_then {k = 0} 0 (omega arith) (λ x us. shrink_while goes item one n (found ++ x ∷ []) us) ts (one.shrinks ts)) (Shrinks.got [] refl (omega arith))

-- the second list is shorter where an item was read
pub shorter : {k : ℕ} {A : Type 0} {ts us : List Token} {a : A} → Shrinks k ts (Got a us) → length us + k ≤ length ts
shorter {us = us} (Shrinks.got xs e l) =
    let n : length _ ≡ length (xs ++ us) = ap length e in
    let h : length (xs ++ us) ≡ length xs + length us = length-append xs us in
    omega (arith, n, h, l)

pub same_first : (h : List Token → Bool) → Ahead h → (b : List Token) (t : Token) (r s : List Token) → h (b ++ t ∷ r) ≡ h (b ++ t ∷ s)
same_first h same [] t r s = same t r s
same_first h same (c ∷ b) t r s = same c (b ++ t ∷ r) (b ++ t ∷ s)

-- one turn, and what comes behind it
pub turn : {A B : Type 0} {t : Token} {r s ss : List Token} {x y : Read A} (f g : A → Parser B) (k : ℕ) → ((a : A) (c : List Token) → length (c ++ t ∷ s) + k ≤ length ss → Local t r s (f a (c ++ t ∷ r)) (g a (c ++ t ∷ s)))
    → ((a : A) (us : List Token) → Shrinks 0 us (f a us)) → Local t r s x y → Shrinks k ss y → Local t r s (and_then x f) (and_then y g)
turn f g k go one (Local.got {a} c) l = go a c (shorter l)
turn f g k go one (Local.deep c) l = Local.deep c
turn f g k go one (Local.gone {a} {us} h) l = beyond us h (one a us)
turn f g k go one (Local.gone_deep h) l = Local.gone_deep h
turn f g k go one (Local.gone_stuck h) l = Local.gone_stuck h
turn f g k go one (Local.stuck c) l = Local.stuck c

pub local_cond : {A : Type 0} {t : Token} {r s : List Token} {x y x' y' : Read A} (b c : Bool) → b ≡ c → Local t r s x x' → Local t r s y y' → Local t r s (cond b x y) (cond c x' y')
local_cond true true e one other = one
local_cond false false e one other = other
local_cond true false e one other = cc
local_cond false true e one other = cc

-- the lists before the token are as much shorter on either text
pub as_short : (c b : List Token) (t : Token) (r s : List Token) (j k : ℕ) → length (c ++ t ∷ s) + j ≤ length (b ++ t ∷ s) + k → length (c ++ t ∷ r) + j ≤ length (b ++ t ∷ r) + k
as_short c b t r s j k h =
    let one : length (c ++ t ∷ s) ≡ length c + length (t ∷ s) = length-append c (t ∷ s) in
    let two : length (b ++ t ∷ s) ≡ length b + length (t ∷ s) = length-append b (t ∷ s) in
    let three : length (c ++ t ∷ r) ≡ length c + length (t ∷ r) = length-append c (t ∷ r) in
    let four : length (b ++ t ∷ r) ≡ length b + length (t ∷ r) = length-append b (t ∷ r) in
    omega (arith, one, two, three, four, h)

local_while : {A : Type 0} (goes : List Token → Bool) → Ahead goes → (item : Parser A) → Fine 1 item → (n more : ℕ) (found : List A) (b : List Token) (t : Token) (r s : List Token) → length (b ++ t ∷ r) < n → length (b ++ t ∷ s) < more
    → Local t r s (while_from goes item n found (b ++ t ∷ r)) (while_from goes item more found (b ++ t ∷ s))
unfolding while_from
local_while goes same item one zero more found b t r s i h = absurd (omega arith)
local_while goes same item one (suc n) zero found b t r s i h = absurd (omega arith)
local_while goes same item one (suc n) (suc more) found b t r s i h = local_cond (goes (b ++ t ∷ r)) (goes (b ++ t ∷ s)) (same_first goes same b t r s)
    (turn _ _ 1 (λ a c g. let l = as_short c b t r s 1 0 (omega (arith, g)) in local_while goes same item one n more (found ++ a ∷ []) c t r s (omega (arith, l, i)) (omega (arith, g, h))) (λ a us. shrink_while goes item one n (found ++ a ∷ []) us) (one.local b t r s) (one.shrinks (b ++ t ∷ s)))
    (Local.got b)

pub fine_many : {A : Type 0} (goes : List Token → Bool) → Ahead goes → {item : Parser A} → Fine 1 item → Fine 0 (many goes item)
fine_many goes same {item} one = record { shrinks = λ ts. shrink_while goes item one (turns ts) [] ts; local = λ b t r s. local_while goes same item one (turns (b ++ t ∷ r)) (turns (b ++ t ∷ s)) [] b t r s (omega arith) (omega arith) }

-- with a mark after each
pub shrink_after : {A : Type 0} {k : ℕ} (ts : List Token) {x : Read A} → Shrinks k (after ts) x → Shrinks 0 ts x
shrink_after [] one = loosen_read one
shrink_after (t ∷ ts) one = behind 0 (t ∷ ts) (t ∷ []) ts refl (omega arith) one

pub ends_fine : {A : Type 0} (close : Punct) (a : A) → Fine 0 (expect close >> pure a)
ends_fine close a = fine_then (fine_expect close) (λ p. fine_pure a)

shrink_list : {A : Type 0} {k : ℕ} (close : Punct) (one : Parser A) → Fine k one → (n : ℕ) (found : List A) (ts : List Token) → Shrinks k ts (list_from close one n found ts)
unfolding list_from
shrink_list close one fine zero found ts = Shrinks.stuck [] refl
shrink_list {k = k} close one fine (suc n) found ts = shrink_then {j = k} {k = 0} k (omega arith)
    (λ x us. shrink_cond (sees m.Comma us) (shrink_after us (shrink_list close one fine n (found ++ x ∷ []) (after us))) ((ends_fine close (found ++ x ∷ [])).shrinks us)) ts (fine.shrinks ts)

local_after : {A : Type 0} (p q : Parser A) (t : Token) (r s : List Token) → Shrinks 0 r (p r) → (c : List Token) → ((d : Token) (b : List Token) → c ≡ d ∷ b → Local t r s (p (b ++ t ∷ r)) (q (b ++ t ∷ s)))
    → Local t r s (p (after (c ++ t ∷ r))) (q (after (c ++ t ∷ s)))
local_after p q t r s one [] go = beyond r (omega arith) one
local_after p q t r s one (d ∷ b) go = go d b refl

local_list : {A : Type 0} {k : ℕ} (close : Punct) (one : Parser A) → Fine k one → (n more : ℕ) (found : List A) (b : List Token) (t : Token) (r s : List Token) → length (b ++ t ∷ r) < n → length (b ++ t ∷ s) < more
    → Local t r s (list_from close one n found (b ++ t ∷ r)) (list_from close one more found (b ++ t ∷ s))
unfolding list_from
local_list close one fine zero more found b t r s j h = absurd (omega arith)
local_list close one fine (suc n) zero found b t r s j h = absurd (omega arith)
local_list {k = k} close one fine (suc n) (suc more) found b t r s j h =
    turn _ _ k
    (λ x c g. local_cond (sees m.Comma (c ++ t ∷ r)) (sees m.Comma (c ++ t ∷ s)) (same_first (sees m.Comma) (sees_ahead m.Comma) c t r s)
    (local_after (list_from close one n (found ++ x ∷ [])) (list_from close one more (found ++ x ∷ [])) t r s (loosen_read (shrink_list close one fine n (found ++ x ∷ []) r)) c
    (λ d e i. let l : length (c ++ t ∷ s) ≡ length (d ∷ e ++ t ∷ s) = ap (λ z. length (z ++ t ∷ s)) i in
    let m : length (c ++ t ∷ r) ≡ length (d ∷ e ++ t ∷ r) = ap (λ z. length (z ++ t ∷ r)) i in
    let o = as_short c b t r s k 0 (omega (arith, g)) in
    local_list close one fine n more (found ++ x ∷ []) e t r s (omega (arith, o, j, m)) (omega (arith, g, h, l))))
    ((ends_fine close (found ++ x ∷ [])).local c t r s))
    (λ x us. shrink_cond (sees m.Comma us) (shrink_after us (shrink_list close one fine n (found ++ x ∷ []) (after us))) ((ends_fine close (found ++ x ∷ [])).shrinks us))
    (fine.local b t r s) (fine.shrinks (b ++ t ∷ s))

pub fine_list : {A : Type 0} {k : ℕ} (close : Punct) {one : Parser A} → Fine k one → Fine k (list close one)
fine_list close {one} fine = record { shrinks = λ ts. shrink_list close one fine (turns ts) [] ts; local = λ b t r s. local_list close one fine (turns (b ++ t ∷ r)) (turns (b ++ t ∷ s)) [] b t r s (omega arith) (omega arith) }

-- what the first item takes is taken
pub list_front : {A : Type 0} {k : ℕ} (close : Punct) (one : Parser A) → Fine k one → (ts us : List Token) → Shrinks 0 us (one ts) → Shrinks 0 us (list close one ts)
unfolding list_from
list_front close one fine ts us v = shrink_then {j = 0} {k = 0} 0 (omega arith)
    (λ x vs. shrink_cond (sees m.Comma vs) (shrink_after vs (shrink_list close one fine (length ts) (x ∷ []) (after vs))) ((ends_fine close (x ∷ [])).shrinks vs)) us v

-- a mark that is taken, or something else
mark_or_shrinks : {A : Type 0} (mk : Punct) (a : A) (q : Parser A) → Fine 1 q → (ts : List Token) → Shrinks 1 ts (cond (sees mk ts) (Got a (after ts)) (q ts))
unfolding sees
mark_or_shrinks mk a q other [] = other.shrinks []
mark_or_shrinks mk a q other (t ∷ ts) = shrink_cond (is_mark mk t.word) (Shrinks.got (t ∷ []) refl (omega arith)) (other.shrinks (t ∷ ts))

mark_or_local : {A : Type 0} (mk : Punct) (a : A) (q : Parser A) → Fine 1 q → (b : List Token) (t : Token) (r s : List Token)
    → Local t r s (cond (sees mk (b ++ t ∷ r)) (Got a (after (b ++ t ∷ r))) (q (b ++ t ∷ r))) (cond (sees mk (b ++ t ∷ s)) (Got a (after (b ++ t ∷ s))) (q (b ++ t ∷ s)))
unfolding sees
mark_or_local mk a q other [] t r s = local_cond (is_mark mk t.word) (is_mark mk t.word) refl (Local.gone (omega arith)) (other.local [] t r s)
mark_or_local mk a q other (c ∷ b) t r s = local_cond (is_mark mk c.word) (is_mark mk c.word) refl (Local.got b) (other.local (c ∷ b) t r s)

pub fine_mark_or : {A : Type 0} (mk : Punct) (a : A) (q : Parser A) → Fine 1 q → Fine 1 (λ ts. cond (sees mk ts) (Got a (after ts)) (q ts))
fine_mark_or mk a q other = record { shrinks = mark_or_shrinks mk a q other; local = mark_or_local mk a q other }

pub fine_within : {A : Type 0} {k : ℕ} (p : ℕ → Parser A) → ((n : ℕ) → Fine k (p n)) → (n i : ℕ) → n ≡ suc i → Fine k (within p n)
fine_within p each zero i h = cc
fine_within p each (suc n) i h = each n

-- ---- a test that looks further than the first token: where it does, the token is behind in either case
pub fine_look : {A : Type 0} {k : ℕ} (h : List Token → Bool) {p q : Parser A} → Fine k p → Fine k q → ((c d f : Token) (r s : List Token) → h (c ∷ d ∷ f ∷ r) ≡ h (c ∷ d ∷ f ∷ s))
    → ((t : Token) (r s : List Token) → (h (t ∷ r) ≡ h (t ∷ s)) ⊎ (Shrinks 0 r (p (t ∷ r)) × Shrinks 0 r (q (t ∷ r))))
    → ((c t : Token) (r s : List Token) → (h (c ∷ t ∷ r) ≡ h (c ∷ t ∷ s)) ⊎ (Shrinks 0 r (p (c ∷ t ∷ r)) × Shrinks 0 r (q (c ∷ t ∷ r))))
    → Fine k (λ ts. cond (h ts) (p ts) (q ts))
fine_look {k = k} h {p} {q} one other far near second = record { shrinks = λ ts. shrink_cond (h ts) (one.shrinks ts) (other.shrinks ts); local = local }
  where
    either : (b : List Token) (t : Token) (r s : List Token) → (h (b ++ t ∷ r) ≡ h (b ++ t ∷ s)) ⊎ (Shrinks 0 r (p (b ++ t ∷ r)) × Shrinks 0 r (q (b ++ t ∷ r)))
        → Local t r s (cond (h (b ++ t ∷ r)) (p (b ++ t ∷ r)) (q (b ++ t ∷ r))) (cond (h (b ++ t ∷ s)) (p (b ++ t ∷ s)) (q (b ++ t ∷ s)))
    either b t r s (inl same) = local_cond (h (b ++ t ∷ r)) (h (b ++ t ∷ s)) same (one.local b t r s) (other.local b t r s)
    either b t r s (inr both) = beyond r (omega arith) (shrink_cond (h (b ++ t ∷ r)) both.0 both.1)

    local : (b : List Token) (t : Token) (r s : List Token) → Local t r s (cond (h (b ++ t ∷ r)) (p (b ++ t ∷ r)) (q (b ++ t ∷ r))) (cond (h (b ++ t ∷ s)) (p (b ++ t ∷ s)) (q (b ++ t ∷ s)))
    local [] t r s = either [] t r s (near t r s)
    local (c ∷ []) t r s = either (c ∷ []) t r s (second c t r s)
    local (c ∷ d ∷ []) t r s = either (c ∷ d ∷ []) t r s (inl (far c d t r s))
    local (c ∷ d ∷ f ∷ b) t r s = either (c ∷ d ∷ f ∷ b) t r s (inl (far c d f (b ++ t ∷ r) (b ++ t ∷ s)))
