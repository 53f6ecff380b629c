-- What the small steps of a reader answer.
use Rattle.std.proofs.Common.{◌≡◌, ℕ, zero, suc, List, [], ◌∷◌, ◌++◌, Bool, true, false, cond, refl, sym, ap, ◌∙◌, subst, append_assoc, append-nil, Option, Some, None}
use denote.Enum.Bare.{same_true}
use Rattle.sa_tokens.specs.contracts.punct.Punct.{the_type}
use Rattle.sa_base.specs.declared.pos.Pos.{Pos}
use Rattle.sa_tokens.specs.declared.keyword.Keyword.{Keyword}
use Rattle.sa_tokens.specs.declared.punct.Punct.{Punct}
use Rattle.sa_tokens.specs.declared.token.Word.{Word}
use Rattle.sa_tokens.specs.declared.token.Word.TheVariants.{Name, Number, Key, Mark}
use Rattle.sa_tokens.specs.declared.token.Token.{Token}
use Rattle.sa_syntax.specs.declared.decl.Name.{Name as Named}
use Rattle.sa_syntax.specs.Words.{Names, mark, key, word, named, is_type_name}
use Rattle.sa_syntax.specs.Reading.{Read, Got, Stuck, Deep, Parser, and_then, same_mark, is_mark, sees, after, expect, opens_any, opens, name_by, name_at, taken, any_name, unless_type, variable, key_by, key_at, mark_by, mark_at, turns, while_from, many}
use Rattle.sa_syntax.specs.ReadStmt.{takes}

-- whatever is read has the property
pub data Yields {A : Type 0} (P : A → List Token → Type 0) : Read A → Type 0 where
  got : {a : A} {us : List Token} → P a us → Yields P (Got a us)
  stuck : {us : List Token} → Yields P (Stuck us)
  deep : {us : List Token} → Yields P (Deep us)

pub then_yields : {A B : Type 0} {Q : A → List Token → Type 0} {P : B → List Token → Type 0} {r : Read A} {f : A → Parser B} →
    Yields Q r → ((a : A) (us : List Token) → Q a us → Yields P (f a us)) → Yields P (and_then r f)
then_yields (Yields.got {a} {us} q) go = go a us q
then_yields Yields.stuck go = Yields.stuck
then_yields Yields.deep go = Yields.deep

pub map_yields : {A : Type 0} {P Q : A → List Token → Type 0} {r : Read A} → ((a : A) (us : List Token) → P a us → Q a us) → Yields P r → Yields Q r
map_yields go (Yields.got {a} {us} p) = Yields.got (go a us p)
map_yields go Yields.stuck = Yields.stuck
map_yields go Yields.deep = Yields.deep

pub if_yields : {A : Type 0} {P : A → List Token → Type 0} {r s : Read A} (b : Bool) → (b ≡ true → Yields P r) → (b ≡ false → Yields P s) → Yields P (cond b r s)
if_yields true go other = go refl
if_yields false go other = other refl

of_read : {A : Type 0} {P : A → List Token → Type 0} (r : Read A) (a : A) (us : List Token) → Yields P r → r ≡ Got a us → P a us
of_read {P = P} (Got b vs) a us (Yields.got p) e =
    let one : b ≡ a = cc in
    let rest : vs ≡ us = cc in
    subst (λ u. P a u) rest (subst (λ x. P x vs) one p)
of_read (Stuck vs) a us y e = cc
of_read (Deep vs) a us y e = cc

pub yielded : {A : Type 0} {P : A → List Token → Type 0} {r : Read A} {a : A} {us : List Token} → Yields P r → r ≡ Got a us → P a us
yielded {r = r} {a = a} {us = us} y e = of_read r a us y e

-- the same for a test between readers
pub if_reader_yields : {A : Type 0} {P : A → List Token → Type 0} (p q : Parser A) (b : Bool) (ts : List Token) → (b ≡ true → Yields P (p ts)) → (b ≡ false → Yields P (q ts)) → Yields P (cond b p q ts)
if_reader_yields p q true ts go other = go refl
if_reader_yields p q false ts go other = other refl

-- ---- marks
pub is_mark_same : (m : Punct) (w : Word) → is_mark m w ≡ true → w ≡ Mark m
unfolding same_mark
is_mark_same m (Mark k) h = ap Mark (sym (same_true the_type tt m k h))
is_mark_same m (Name w) h = cc
is_mark_same m (Number v u l d) h = cc
is_mark_same m (Key k) h = cc

-- tokens that begin with this mark, and the tokens after it
pub data Marked (m : Punct) : List Token → Pos → List Token → Type 0 where
  marked : {p : Pos} {us : List Token} → Marked m (mark m p ∷ us) p us

marked_is : (m : Punct) (w : Word) (p : Pos) (us : List Token) → w ≡ Mark m → Marked m ((record { word = w; pos = p }) ∷ us) p us
marked_is m w p us e = subst (λ (v : Word). Marked m ((record { word = v; pos = p }) ∷ us) p us) (sym e) Marked.marked

pub expect_yields : (m : Punct) (ts : List Token) → Yields (λ p us. Marked m ts p us) (expect m ts)
unfolding expect
expect_yields m [] = Yields.stuck
expect_yields m (t ∷ ts) = if_yields (is_mark m t.word) (λ h. Yields.got (marked_is m t.word t.pos ts (is_mark_same m t.word h))) (λ h. Yields.stuck)

-- the same where one more may be open
pub data Opened (m : Punct) : ℕ → List Token → Pos → List Token → Type 0 where
  opened : {n : ℕ} {p : Pos} {us : List Token} → Opened m (suc n) (mark m p ∷ us) p us

opened_is : (m : Punct) (n : ℕ) (w : Word) (p : Pos) (us : List Token) → w ≡ Mark m → Opened m (suc n) ((record { word = w; pos = p }) ∷ us) p us
opened_is m n w p us e = subst (λ (v : Word). Opened m (suc n) ((record { word = v; pos = p }) ∷ us) p us) (sym e) Opened.opened

opens_any_yields : (n : ℕ) (m : Punct) (ts : List Token) → sees m ts ≡ true → Yields (λ p us. Opened m n ts p us) (opens_any n ts)
unfolding opens_any sees
opens_any_yields n m [] h = cc
opens_any_yields zero m (t ∷ ts) h = Yields.deep
opens_any_yields (suc n) m (t ∷ ts) h = Yields.got (opened_is m n t.word t.pos ts (is_mark_same m t.word h))

pub opens_yields : (n : ℕ) (m : Punct) (ts : List Token) → Yields (λ p us. Opened m n ts p us) (opens n m ts)
unfolding opens
opens_yields n m ts = if_yields (sees m ts) (λ h. opens_any_yields n m ts h) (λ h. Yields.stuck)

pub opens_front : (n : ℕ) (m : Punct) (p : Pos) (ts : List Token) → Yields (λ q us. Opened m n (mark m p ∷ ts) q us) (opens_any n (mark m p ∷ ts))
unfolding opens_any
opens_front zero m p ts = Yields.deep
opens_front (suc n) m p ts = Yields.got Opened.opened

-- ---- names
pub data IsWord : List Token → Named → List Token → Type 0 where
  is_word : {w : List ℕ} {p : Pos} {us : List Token} → IsWord (word w p ∷ us) (named w p) us

pub taken_yields : {A : Type 0} {P : A → List Token → Type 0} (o : Option A) (ts : List Token) → ((a : A) → o ≡ Some a → P a (after ts)) → Yields P (taken o ts)
taken_yields None ts go = Yields.stuck
taken_yields (Some a) ts go = Yields.got (go a refl)

name_by_is : (w : Word) (p : Pos) (us : List Token) (x : Named) → name_by w p ≡ Some x → IsWord ((record { word = w; pos = p }) ∷ us) x us
name_by_is (Name w) p us x h = let e : named w p ≡ x = cc in subst (λ (y : Named). IsWord (word w p ∷ us) y us) e IsWord.is_word
name_by_is (Number v u l d) p us x h = cc
name_by_is (Key k) p us x h = cc
name_by_is (Mark m) p us x h = cc

pub name_at_is : (ts : List Token) (x : Named) → name_at ts ≡ Some x → IsWord ts x (after ts)
unfolding name_at
name_at_is [] x h = cc
name_at_is (t ∷ ts) x h = name_by_is t.word t.pos ts x h

pub any_name_yields : (ts : List Token) → Yields (λ x us. IsWord ts x us) (any_name ts)
unfolding any_name
any_name_yields ts = taken_yields (name_at ts) ts (name_at_is ts)

-- a name that is no type name
pub data IsVariable (ns : Names) : List Token → Named → List Token → Type 0 where
  is_variable : {w : List ℕ} {p : Pos} {us : List Token} → is_type_name ns w ≡ false → IsVariable ns (word w p ∷ us) (named w p) us

variable_from : (ns : Names) (ts : List Token) (x : Named) (us : List Token) → IsWord ts x us → is_type_name ns x.text ≡ false → IsVariable ns ts x us
variable_from ns _ _ _ (IsWord.is_word) h = IsVariable.is_variable h

unless_type_is : (ns : Names) (o : Option Named) (x : Named) → unless_type ns o ≡ Some x → (o ≡ Some x) × (is_type_name ns x.text ≡ false)
unless_type_is ns None x h = cc
unless_type_is ns (Some y) x h = unless_case ns y x (is_type_name ns y.text) refl h
  where
    unless_case : (ns : Names) (y x : Named) (b : Bool) → is_type_name ns y.text ≡ b → cond b None (Some y) ≡ Some x → (Some y ≡ Some x) × (is_type_name ns x.text ≡ false)
    unless_case ns y x true e h = cc
    unless_case ns y x false e h = let same : y ≡ x = cc in (h, subst (λ (z : Named). is_type_name ns z.text ≡ false) same e)

pub variable_yields : (ns : Names) (ts : List Token) → Yields (λ x us. IsVariable ns ts x us) (variable ns ts)
unfolding variable
variable_yields ns ts = taken_yields (unless_type ns (name_at ts)) ts (λ x h. let k = unless_type_is ns (name_at ts) x h in variable_from ns ts x (after ts) (name_at_is ts x k.0) k.1)

-- ---- keywords and marks at the front
pub data Keyed (k : Keyword) : List Token → Type 0 where
  keyed : {p : Pos} {us : List Token} → Keyed k (key k p ∷ us)

key_by_is : (w : Word) (p : Pos) (us : List Token) (k : Keyword) → key_by w ≡ Some k → Keyed k ((record { word = w; pos = p }) ∷ us)
key_by_is (Name w) p us k h = cc
key_by_is (Number v u l d) p us k h = cc
key_by_is (Key j) p us k h = let e : j ≡ k = cc in subst (λ i. Keyed i (key j p ∷ us)) e Keyed.keyed
key_by_is (Mark m) p us k h = cc

pub key_at_is : (ts : List Token) (k : Keyword) → key_at ts ≡ Some k → Keyed k ts
unfolding key_at
key_at_is [] k h = cc
key_at_is (t ∷ ts) k h = key_by_is t.word t.pos ts k h

mark_by_is : (w : Word) (p : Pos) (us : List Token) (m : Punct) → mark_by w ≡ Some m → Marked m ((record { word = w; pos = p }) ∷ us) p us
mark_by_is (Name w) p us m h = cc
mark_by_is (Number v u l d) p us m h = cc
mark_by_is (Key j) p us m h = cc
mark_by_is (Mark j) p us m h = let e : j ≡ m = cc in subst (λ i. Marked i (mark j p ∷ us) p us) e Marked.marked

-- the place of the mark at the front
pub mark_at_is : (ts : List Token) (m : Punct) → mark_at ts ≡ Some m → (p : Pos) × Marked m ts p (after ts)
unfolding mark_at
mark_at_is [] m h = cc
mark_at_is (t ∷ ts) m h = (t.pos, mark_by_is t.word t.pos ts m h)

-- the token at the front is taken
pub data KeyAt (k : Keyword) : List Token → Pos → List Token → Type 0 where
  key_at_front : {p : Pos} {us : List Token} → KeyAt k (key k p ∷ us) p us

pub data MarkAt (P : Punct → Type 0) : List Token → Pos → List Token → Type 0 where
  mark_at_front : {m : Punct} {p : Pos} {us : List Token} → P m → MarkAt P (mark m p ∷ us) p us

take_key : (k : Keyword) (ts : List Token) → Keyed k ts → Yields (λ p us. KeyAt k ts p us) (takes ts)
take_key k _ Keyed.keyed = Yields.got KeyAt.key_at_front

pub take_key_at : (ts : List Token) (k : Keyword) → key_at ts ≡ Some k → Yields (λ p us. KeyAt k ts p us) (takes ts)
take_key_at ts k h = take_key k ts (key_at_is ts k h)

take_mark : (P : Punct → Type 0) (m : Punct) (ts : List Token) (p : Pos) (us : List Token) → Marked m ts p us → P m → Yields (λ p us. MarkAt P ts p us) (takes ts)
take_mark P m _ _ _ Marked.marked h = Yields.got (MarkAt.mark_at_front h)

pub take_mark_at : (P : Punct → Type 0) (ts : List Token) (m : Punct) → mark_at ts ≡ Some m → P m → Yields (λ p us. MarkAt P ts p us) (takes ts)
take_mark_at P ts m e h = let k = mark_at_is ts m e in take_mark P m ts k.0 (after ts) k.1 h

pub sees_is : (m : Punct) (ts : List Token) → sees m ts ≡ true → (p : Pos) × Marked m ts p (after ts)
unfolding sees
sees_is m [] h = cc
sees_is m (t ∷ ts) h = (t.pos, marked_is m t.word t.pos ts (is_mark_same m t.word h))

-- ---- lists
-- each item is in front of a list of them
while_from_yields : {A : Type 0} (Star : List Token → List A → List Token → Type 0) (goes : List Token → Bool) (item : Parser A) → ((us : List Token) → goes us ≡ false → Star us [] us)
    → ((ts : List Token) → goes ts ≡ true → Yields (λ x us. (xs : List A) (vs : List Token) → Star us xs vs → Star ts (x ∷ xs) vs) (item ts))
    → (n : ℕ) (found : List A) (ts : List Token) → Yields (λ xs us. (ys : List A) × (xs ≡ found ++ ys) × Star ts ys us) (while_from goes item n found ts)
unfolding while_from
while_from_yields Star goes item none one zero found ts = Yields.stuck
while_from_yields Star goes item none one (suc n) found ts = if_yields (goes ts)
    (λ h. then_yields (one ts h) (λ x us more. map_yields (λ xs vs p. (x ∷ p.0, p.1 ∙ append_assoc found (x ∷ []) p.0, more p.0 vs p.2)) (while_from_yields Star goes item none one n (found ++ x ∷ []) us)))
    (λ h. Yields.got ([], sym (append-nil found), none ts h))

pub many_yields : {A : Type 0} (Star : List Token → List A → List Token → Type 0) (goes : List Token → Bool) (item : Parser A) → ((us : List Token) → goes us ≡ false → Star us [] us)
    → ((ts : List Token) → goes ts ≡ true → Yields (λ x us. (xs : List A) (vs : List Token) → Star us xs vs → Star ts (x ∷ xs) vs) (item ts))
    → (ts : List Token) → Yields (λ xs us. Star ts xs us) (many goes item ts)
many_yields Star goes item none one ts =
    map_yields (λ xs us p. subst (λ ys. Star ts ys us) (sym p.1) p.2) (while_from_yields Star goes item none one (turns ts) [] ts)
