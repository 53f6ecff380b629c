-- What a reader reads is by the grammar in front of whatever follows, and where it is refused some text goes on.
use Rattle.std.proofs.Common.{◌≡◌, ℕ, zero, suc, ◌+◌, ◌≤◌, ◌<◌, List, [], ◌∷◌, ◌++◌, Bool, true, false, cond, refl, sym, ap, ◌∙◌, subst, length, append_assoc, length-append, arith, Option, Some, None}
use Rattle.sa_base.specs.declared.pos.Pos.{Pos}
use Rattle.sa_tokens.specs.declared.keyword.Keyword.{Keyword}
use Rattle.sa_tokens.specs.declared.punct.Punct.{Punct}
use Rattle.sa_tokens.specs.declared.punct.Punct.TheVariants.{Comma, OpenParen}
use Rattle.sa_tokens.specs.declared.token.Word.{Word}
use Rattle.sa_tokens.specs.declared.token.Word.TheVariants.{Name, Number, Key, Mark}
use Rattle.sa_tokens.specs.declared.token.Token.{Token}
use Rattle.sa_syntax.specs.declared.decl.Name.{Name as Named}
use Rattle.sa_syntax.specs.Trees.{pos_of}
use Rattle.sa_syntax.specs.Words.{Names, mark, key, word, named, is_type_name, is_else, is_label, begins_with_else, begins_with_label}
use Rattle.sa_syntax.specs.Refusals.{Deepens}
use Rattle.sa_syntax.specs.Reading.{Read, Got, Stuck, Deep, Parser, and_then, is_mark, sees, after, expect, any_name, variable, name_at, key_at, mark_at, unless_type, taken, opens_any, opens, turns, while_from, many}
use Rattle.sa_syntax.specs.ReadStmt.{takes, list_from, list}
use Rattle.sa_syntax.proofs.ReadingLemmas.{Marked, Keyed, key_at_is, mark_at_is, sees_is, is_mark_same}
use Rattle.sa_syntax.proofs.DeepLemmas.{Fine, Shrinks, shorter}
use Rattle.sa_syntax.proofs.ClosingExpr.{spot, close, letter, fresh}

-- ---- what may follow: an `else` or a label only where one followed
pub record Follows (us vs : List Token) : Type 0 where
  pub no_else : begins_with_else us ≡ false → begins_with_else vs ≡ false
  pub no_label : begins_with_label us ≡ false → begins_with_label vs ≡ false

pub follows_same : (us : List Token) → Follows us us
follows_same us = record { no_else = λ h. h; no_label = λ h. h }

follows_front : (b us vs : List Token) → Follows us vs → Follows (b ++ us) (b ++ vs)
follows_front [] us vs f = f
follows_front (t ∷ b) us vs f = record { no_else = λ h. h; no_label = λ h. h }

-- neither an `else` nor a label
abbrev pub Mild : Token → Type 0
Mild t = (is_else t.word ≡ false) × (is_label t.word ≡ false)

follows_mild : (us : List Token) (t : Token) (vs : List Token) → Mild t → Follows us (t ∷ vs)
follows_mild us t vs o = record { no_else = λ h. o.0; no_label = λ h. o.1 }

-- The room that the ending `ts` of a text needs, behind the tokens `b`: no more than there is, or as much more as tokens follow at
-- each of which one more is open. `l` are such ones if what stands before all these tokens allows it.
pub data Way (l : List Token) (n : ℕ) (b ts : List Token) (least : ℕ) : Type 0 where
  fits : least ≤ n → Way l n b ts least
  allowed : (more : List Token) → b ≡ [] → ts ≡ l ++ more → least ≤ n + length l → Way l n b ts least
  earned : (c : List Token) (w : Token) (q more : List Token) → b ≡ c ++ w ∷ [] → Deepens w q → ts ≡ q ++ more → least ≤ n + length q → Way l n b ts least

-- What was read is by the grammar in front of whatever may follow, with that much room and more. Where the reader is refused,
-- some text goes on from there, with enough room.
pub data EndsAt (l : List Token) {A : Type 0} (n : ℕ) (G : ℕ → List Token → A → List Token → Type 0) (S : ℕ → List Token → List Token → Type 0) (ts : List Token) : Read A → Type 0 where
  got : {a : A} {us : List Token} → (b : List Token) → ts ≡ b ++ us → ((m : ℕ) (vs : List Token) → n ≤ m → Follows us vs → G m (b ++ vs) a vs) → EndsAt l n G S ts (Got a us)
  stuck : {us : List Token} → (b : List Token) (t : Token) (tail : List Token) (least : ℕ) → ts ≡ b ++ us → Mild t → n ≤ least → Way l n b (t ∷ tail) least → ((m : ℕ) (rest : List Token) → least ≤ m → S m (b ++ t ∷ (tail ++ rest)) rest) → EndsAt l n G S ts (Stuck us)
  deep : {us : List Token} → EndsAt l n G S ts (Deep us)

abbrev pub Ends : {A : Type 0} → ℕ → (ℕ → List Token → A → List Token → Type 0) → (ℕ → List Token → List Token → Type 0) → List Token → Read A → Type 0
Ends n G S ts x = EndsAt [] n G S ts x

way_more : {l : List Token} {n : ℕ} {b ts : List Token} {least : ℕ} (d : List Token) → Way l n b ts least → Way l n b (ts ++ d) least
way_more d (Way.fits h) = Way.fits h
way_more {l} d (Way.allowed more e f h) = Way.allowed (more ++ d) e (ap (λ z. z ++ d) f ∙ append_assoc l more d) h
way_more d (Way.earned c w q more e o f h) = Way.earned c w q (more ++ d) e o (ap (λ z. z ++ d) f ∙ append_assoc q more d) h

-- what the tokens before allow: nothing, or what the last of them does
pub data Last (m l : List Token) (b : List Token) : Type 0 where
  untouched : b ≡ [] → m ≡ l → Last m l b
  ended : (c : List Token) (w : Token) → b ≡ c ++ w ∷ [] → Deepens w m → Last m l b

append_nothing : (xs : List Token) → xs ++ [] ≡ xs
append_nothing [] = refl
append_nothing (x ∷ xs) = ap (λ z. x ∷ z) (append_nothing xs)

way_behind : {m l : List Token} {n : ℕ} {ts : List Token} {least : ℕ} (b c : List Token) → Last m l b → Way m n c ts least → Way l n (b ++ c) ts least
way_behind b c o (Way.fits h) = Way.fits h
way_behind {n = n} {ts} {least} b c (Last.untouched f g) (Way.allowed more e i h) = Way.allowed more (ap (λ z. b ++ z) e ∙ append_nothing b ∙ f) (subst (λ z. ts ≡ z ++ more) g i) (subst (λ z. least ≤ n + length z) g h)
way_behind {m} b c (Last.ended d w f g) (Way.allowed more e i h) = Way.earned d w m more (ap (λ z. b ++ z) e ∙ append_nothing b ∙ f) g i h
way_behind b c o (Way.earned d w q more e p f h) = Way.earned (b ++ d) w q more (ap (λ z. b ++ z) e ∙ sym (append_assoc b d (w ∷ []))) p f h

way_next : {l : List Token} {n : ℕ} {ts : List Token} {least : ℕ} (b c : List Token) → Way [] n c ts least → Way l n (b ++ c) ts least
way_next {n = n} b c (Way.fits h) = Way.fits h
way_next {n = n} {least = least} b c (Way.allowed more e i h) = Way.fits (omega (arith, h))
way_next b c (Way.earned d w q more e p f h) = Way.earned (b ++ d) w q more (ap (λ z. b ++ z) e ∙ sym (append_assoc b d (w ∷ []))) p f h

way_deeper : {l : List Token} {n : ℕ} {b ts : List Token} {least : ℕ} → Way l n b ts least → Way l (suc n) b ts (suc least)
way_deeper (Way.fits h) = Way.fits (omega (arith, h))
way_deeper (Way.allowed more e f h) = Way.allowed more e f (omega (arith, h))
way_deeper (Way.earned c w q more e o f h) = Way.earned c w q more e o f (omega (arith, h))

way_back : {l : List Token} {n : ℕ} {b ts : List Token} {least : ℕ} → Way l (suc n) b ts (suc least) → Way l n b ts least
way_back (Way.fits h) = Way.fits (omega (arith, h))
way_back (Way.allowed more e f h) = Way.allowed more e f (omega (arith, h))
way_back (Way.earned c w q more e o f h) = Way.earned c w q more e o f (omega (arith, h))

abbrev pub Some' : {A : Type 0} → (ℕ → List Token → A → List Token → Type 0) → ℕ → List Token → List Token → Type 0
Some' {A} P m ts rest = (a : A) × P m ts a rest

pub done : {A : Type 0} {l : List Token} {n : ℕ} {G : ℕ → List Token → A → List Token → Type 0} {S : ℕ → List Token → List Token → Type 0} {a : A} {us : List Token} → ((m : ℕ) (vs : List Token) → n ≤ m → Follows us vs → G m vs a vs) → EndsAt l n G S us (Got a us)
done go = EndsAt.got [] refl go

pub halts : {A : Type 0} {l : List Token} {n : ℕ} {G : ℕ → List Token → A → List Token → Type 0} {S : ℕ → List Token → List Token → Type 0} {us : List Token} (t : Token) (tail : List Token) → Mild t → ((m : ℕ) (rest : List Token) → n ≤ m → S m (t ∷ (tail ++ rest)) rest) → EndsAt l {A = A} n G S us (Stuck us)
halts {n = n} t tail o go = EndsAt.stuck [] t tail n refl o (omega arith) (Way.fits (omega arith)) go

-- where what stands before allows what the ending begins with
pub waits : {A : Type 0} {n : ℕ} {G : ℕ → List Token → A → List Token → Type 0} {S : ℕ → List Token → List Token → Type 0} {us : List Token} (l : List Token) (t : Token) (tail more : List Token) → t ∷ tail ≡ l ++ more → Mild t → ((m : ℕ) (rest : List Token) → n + length l ≤ m → S m (t ∷ (tail ++ rest)) rest) → EndsAt l {A = A} n G S us (Stuck us)
waits {n = n} l t tail more e o go = EndsAt.stuck [] t tail (n + length l) refl o (omega arith) (Way.allowed more refl e (omega arith)) go

pub ends_if : {A : Type 0} {l : List Token} {n : ℕ} {G : ℕ → List Token → A → List Token → Type 0} {S : ℕ → List Token → List Token → Type 0} {ts : List Token} {x y : Read A} (b : Bool) → (b ≡ true → EndsAt l n G S ts x) → (b ≡ false → EndsAt l n G S ts y) → EndsAt l n G S ts (cond b x y)
ends_if true one other = one refl
ends_if false one other = other refl

pub ends_reader : {A : Type 0} {n : ℕ} {G : ℕ → List Token → A → List Token → Type 0} {S : ℕ → List Token → List Token → Type 0} (p q : Parser A) (b : Bool) (ts : List Token) → (b ≡ true → Ends n G S ts (p ts)) → (b ≡ false → Ends n G S ts (q ts)) → Ends n G S ts (cond b p q ts)
ends_reader p q true ts one other = one refl
ends_reader p q false ts one other = other refl

pub ends_map : {A : Type 0} {l : List Token} {n : ℕ} {G H : ℕ → List Token → A → List Token → Type 0} {S T : ℕ → List Token → List Token → Type 0} {ts : List Token} {x : Read A} → ((m : ℕ) (us : List Token) (a : A) (vs : List Token) → G m us a vs → H m us a vs) → ((m : ℕ) (us vs : List Token) → S m us vs → T m us vs) → EndsAt l n G S ts x → EndsAt l n H T ts x
ends_map go through (EndsAt.got {a} b e w) = EndsAt.got b e (λ m vs l o. go m (b ++ vs) a vs (w m vs l o))
ends_map go through (EndsAt.stuck b t tail least e o l y w) = EndsAt.stuck b t tail least e o l y (λ m rest k. through m (b ++ t ∷ (tail ++ rest)) rest (w m rest k))
ends_map go through EndsAt.deep = EndsAt.deep

-- nothing before allows more
pub anyway : {A : Type 0} (l : List Token) {n : ℕ} {G : ℕ → List Token → A → List Token → Type 0} {S : ℕ → List Token → List Token → Type 0} {ts : List Token} {x : Read A} → Ends n G S ts x → EndsAt l n G S ts x
anyway l (EndsAt.got b e w) = EndsAt.got b e w
anyway l (EndsAt.stuck b t tail least e o h y w) = EndsAt.stuck b t tail least e o h (way_next [] b y) w
anyway l EndsAt.deep = EndsAt.deep

-- ---- one after the other
behind : {A B : Type 0} {m l : List Token} {n : ℕ} (F : ℕ → List Token → A → List Token → Type 0) {G : ℕ → List Token → B → List Token → Type 0} {S : ℕ → List Token → List Token → Type 0} (ts b us : List Token) (a : A) → ts ≡ b ++ us → ((m : ℕ) (vs : List Token) → n ≤ m → Follows us vs → F m (b ++ vs) a vs)
    → ((c us : List Token) (least : ℕ) → Way m n c us least → Way l n (b ++ c) us least)
    → {y : Read B} → EndsAt m n (λ m vs c ws. F m (b ++ vs) a vs → G m (b ++ vs) c ws) (λ m vs rest. F m (b ++ vs) a vs → S m (b ++ vs) rest) us y → EndsAt l n G S ts y
behind {n = n} F {G} {S} ts b us a e w way (EndsAt.got {a = x} {us = ws} c f v) = EndsAt.got (b ++ c) (e ∙ ap (λ z. b ++ z) f ∙ sym (append_assoc b c ws)) (λ m vs l o.
    let first : F m (b ++ (c ++ vs)) a (c ++ vs) = w m (c ++ vs) l (subst (λ z. Follows z (c ++ vs)) (sym f) (follows_front c ws vs o)) in
    subst (λ z. G m z x vs) (sym (append_assoc b c vs)) (v m vs l o first))
behind {n = n} F {G} {S} ts b us a e w way (EndsAt.stuck {us = ws} c t tail least f o l y v) = EndsAt.stuck (b ++ c) t tail least (e ∙ ap (λ z. b ++ z) f ∙ sym (append_assoc b c ws)) o l (way c (t ∷ tail) least y) (λ m rest k.
    let first : F m (b ++ (c ++ t ∷ (tail ++ rest))) a (c ++ t ∷ (tail ++ rest)) = w m (c ++ t ∷ (tail ++ rest)) (omega (arith, l, k)) (subst (λ z. Follows z (c ++ t ∷ (tail ++ rest))) (sym f) (follows_front c ws (t ∷ (tail ++ rest)) (follows_mild ws t (tail ++ rest) o))) in
    subst (λ z. S m z rest) (sym (append_assoc b c (t ∷ (tail ++ rest)))) (v m rest k first))
behind F ts b us a e w way EndsAt.deep = EndsAt.deep

no_longer : (ts b us : List Token) → ts ≡ b ++ us → length us ≤ length ts
no_longer ts b us e = let n : length ts ≡ length (b ++ us) = ap length e in let k : length (b ++ us) ≡ length b + length us = length-append b us in omega (arith, n, k)

seq_at : {A B : Type 0} (m : List Token) {l : List Token} {n : ℕ} {F : ℕ → List Token → A → List Token → Type 0} {E S : ℕ → List Token → List Token → Type 0} {G : ℕ → List Token → B → List Token → Type 0} (ts d : List Token) (f : A → Parser B) (x y : Read A) → x ≡ y
    → ((m : ℕ) (ss rest : List Token) → n ≤ m → E m ss (d ++ rest) → S m ss rest)
    → ((a : A) (b us : List Token) → ts ≡ b ++ us → F n ts a us → (c vs : List Token) (least : ℕ) → Way m n c vs least → Way l n (b ++ c) vs least)
    → ((a : A) (b us : List Token) → x ≡ Got a us → ts ≡ b ++ us → F n ts a us → EndsAt m n (λ m vs c ws. F m (b ++ vs) a vs → G m (b ++ vs) c ws) (λ m vs rest. F m (b ++ vs) a vs → S m (b ++ vs) rest) us (f a us))
    → EndsAt l n F E ts y → EndsAt l n G S ts (and_then y f)
seq_at m {n = n} {F} ts d f x _ same shut way go (EndsAt.got {a} {us} b e w) =
    let first : F n ts a us = subst (λ z. F n z a us) (sym e) (w n us (omega arith) (follows_same us)) in
    behind F ts b us a e w (way a b us e first) (go a b us same e first)
seq_at m {n = n} {S = S} ts d f x _ same shut way go (EndsAt.stuck b t tail least e o l y w) = EndsAt.stuck b t (tail ++ d) least e o l (way_more d y) (λ m rest k.
    subst (λ z. S m (b ++ t ∷ z) rest) (sym (append_assoc tail d rest)) (shut m (b ++ t ∷ (tail ++ (d ++ rest))) rest (omega (arith, l, k)) (w m (d ++ rest) k)))
seq_at m ts d f x _ same shut way go EndsAt.deep = EndsAt.deep

-- with what was read in front
pub seq_front : {A B : Type 0} {l : List Token} {n : ℕ} {F : ℕ → List Token → A → List Token → Type 0} {E S : ℕ → List Token → List Token → Type 0} {G : ℕ → List Token → B → List Token → Type 0} {ts : List Token} {f : A → Parser B} {x : Read A} → EndsAt l n F E ts x → (d : List Token)
    → ((m : ℕ) (ss rest : List Token) → n ≤ m → E m ss (d ++ rest) → S m ss rest)
    → ((a : A) (b us : List Token) → x ≡ Got a us → ts ≡ b ++ us → F n ts a us → Ends n (λ m vs c ws. F m (b ++ vs) a vs → G m (b ++ vs) c ws) (λ m vs rest. F m (b ++ vs) a vs → S m (b ++ vs) rest) us (f a us)) → EndsAt l n G S ts (and_then x f)
seq_front {ts = ts} {f} {x} one d shut go = seq_at [] ts d f x x refl shut (λ a b us e i c vs least y. way_next b c y) go one

-- where the last token that was read allows what the ending begins with
pub seq_last : {A B : Type 0} (m : List Token) {l : List Token} {n : ℕ} {F : ℕ → List Token → A → List Token → Type 0} {E S : ℕ → List Token → List Token → Type 0} {G : ℕ → List Token → B → List Token → Type 0} {ts : List Token} {f : A → Parser B} {x : Read A} → EndsAt l n F E ts x → (d : List Token)
    → ((m : ℕ) (ss rest : List Token) → n ≤ m → E m ss (d ++ rest) → S m ss rest)
    → ((a : A) (b us : List Token) → ts ≡ b ++ us → F n ts a us → Last m l b)
    → ((a : A) (us : List Token) → EndsAt m n (λ m vs c ws. (ss : List Token) → F m ss a vs → G m ss c ws) (λ m vs rest. (ss : List Token) → F m ss a vs → S m ss rest) us (f a us)) → EndsAt l n G S ts (and_then x f)
seq_last m {ts = ts} {f} {x} one d shut last go = seq_at m ts d f x x refl shut (λ a b us e i c vs least y. way_behind b c (last a b us e i) y) (λ a b us e h i. ends_map (λ m vs c ws g j. g (b ++ vs) j) (λ m vs rest g j. g (b ++ vs) j) (go a us)) one

pub seq_with : {A B : Type 0} {l : List Token} {n : ℕ} {F : ℕ → List Token → A → List Token → Type 0} {E S : ℕ → List Token → List Token → Type 0} {G : ℕ → List Token → B → List Token → Type 0} {ts : List Token} {f : A → Parser B} {x : Read A} → EndsAt l n F E ts x → (d : List Token)
    → ((m : ℕ) (ss rest : List Token) → n ≤ m → E m ss (d ++ rest) → S m ss rest)
    → ((a : A) (us : List Token) → x ≡ Got a us → length us ≤ length ts → F n ts a us → Ends n (λ m vs c ws. (ss : List Token) → F m ss a vs → G m ss c ws) (λ m vs rest. (ss : List Token) → F m ss a vs → S m ss rest) us (f a us)) → EndsAt l n G S ts (and_then x f)
seq_with {ts = ts} one d shut go = seq_front one d shut (λ a b us e h i. ends_map (λ m vs c ws g j. g (b ++ vs) j) (λ m vs rest g j. g (b ++ vs) j) (go a us e (no_longer ts b us h) i))

pub seq : {A B : Type 0} {l : List Token} {n : ℕ} {F : ℕ → List Token → A → List Token → Type 0} {E S : ℕ → List Token → List Token → Type 0} {G : ℕ → List Token → B → List Token → Type 0} {ts : List Token} {f : A → Parser B} {x : Read A} → EndsAt l n F E ts x → (d : List Token)
    → ((m : ℕ) (ss rest : List Token) → n ≤ m → E m ss (d ++ rest) → S m ss rest)
    → ((a : A) (us : List Token) → Ends n (λ m vs c ws. (ss : List Token) → F m ss a vs → G m ss c ws) (λ m vs rest. (ss : List Token) → F m ss a vs → S m ss rest) us (f a us)) → EndsAt l n G S ts (and_then x f)
seq one d shut go = seq_with one d shut (λ a us e l h. go a us)

-- ---- tokens
-- a token that allows so many more behind it
pub stepped_to : {A : Type 0} {l m : List Token} {n : ℕ} {G : ℕ → List Token → A → List Token → Type 0} {S : ℕ → List Token → List Token → Type 0} (t : Token) → Deepens t m → {us : List Token} {y : Read A} → EndsAt m n (λ m vs c ws. G m (t ∷ vs) c ws) (λ m vs rest. S m (t ∷ vs) rest) us y → EndsAt l n G S (t ∷ us) y
stepped_to t i (EndsAt.got b e w) = EndsAt.got (t ∷ b) (ap (λ z. t ∷ z) e) w
stepped_to t i (EndsAt.stuck b h tail least e o l y w) = EndsAt.stuck (t ∷ b) h tail least (ap (λ z. t ∷ z) e) o l (way_behind (t ∷ []) b (Last.ended [] t refl i) y) w
stepped_to t i EndsAt.deep = EndsAt.deep

pub stepped : {A : Type 0} {l : List Token} {n : ℕ} {G : ℕ → List Token → A → List Token → Type 0} {S : ℕ → List Token → List Token → Type 0} (t : Token) {us : List Token} {y : Read A} → Ends n (λ m vs c ws. G m (t ∷ vs) c ws) (λ m vs rest. S m (t ∷ vs) rest) us y → EndsAt l n G S (t ∷ us) y
stepped t one = stepped_to t Deepens.nothing one

at_word : {A : Type 0} {n : ℕ} {G : ℕ → List Token → A → List Token → Type 0} {S : ℕ → List Token → List Token → Type 0} (v w : Word) (p : Pos) {us : List Token} {y : Read A} → v ≡ w → Ends n (λ m vs c ws. G m ((record { word = w; pos = p }) ∷ vs) c ws) (λ m vs rest. S m ((record { word = w; pos = p }) ∷ vs) rest) us y
    → Ends n G S ((record { word = v; pos = p }) ∷ us) y
at_word {n = n} {G} {S} v w p {us} {y} e one = subst (λ (x : Word). Ends n G S ((record { word = x; pos = p }) ∷ us) y) (sym e) (stepped (record { word = w; pos = p }) one)

pub expect_then : {B : Type 0} {n : ℕ} {G : ℕ → List Token → B → List Token → Type 0} {S : ℕ → List Token → List Token → Type 0} (mk : Punct) {f : Pos → Parser B} (ts d : List Token) → ((m : ℕ) (rest : List Token) → n ≤ m → S m (close mk ∷ (d ++ rest)) rest)
    → ((p : Pos) (us : List Token) → Ends n (λ m vs c ws. G m (mark mk p ∷ vs) c ws) (λ m vs rest. S m (mark mk p ∷ vs) rest) us (f p us)) → Ends n G S ts (and_then (expect mk ts) f)
unfolding expect
expect_then mk [] d shut go = halts (close mk) d (refl, refl) shut
expect_then {n = n} {G} {S} mk {f} (t ∷ ts) d shut go = by_test (is_mark mk t.word) refl
  where
    by_test : (x : Bool) → is_mark mk t.word ≡ x → Ends n G S (t ∷ ts) (and_then (cond x (Got t.pos ts) (Stuck (t ∷ ts))) f)
    by_test true h = at_word t.word (Mark mk) t.pos (is_mark_same mk t.word h) (go t.pos ts)
    by_test false h = halts (close mk) d (refl, refl) shut

-- with what stands there
pub expect_with : {B : Type 0} {n : ℕ} {G : ℕ → List Token → B → List Token → Type 0} {S : ℕ → List Token → List Token → Type 0} (mk : Punct) {f : Pos → Parser B} (ts d : List Token) → ((m : ℕ) (rest : List Token) → n ≤ m → S m (close mk ∷ (d ++ rest)) rest)
    → ((p : Pos) (us : List Token) → ts ≡ mark mk p ∷ us → Ends n (λ m vs c ws. G m (mark mk p ∷ vs) c ws) (λ m vs rest. S m (mark mk p ∷ vs) rest) us (f p us)) → Ends n G S ts (and_then (expect mk ts) f)
unfolding expect
expect_with mk [] d shut go = halts (close mk) d (refl, refl) shut
expect_with {n = n} {G} {S} mk {f} (t ∷ ts) d shut go = by_test (is_mark mk t.word) refl
  where
    by_test : (x : Bool) → is_mark mk t.word ≡ x → Ends n G S (t ∷ ts) (and_then (cond x (Got t.pos ts) (Stuck (t ∷ ts))) f)
    by_test true h =
        let e : t.word ≡ Mark mk = is_mark_same mk t.word h in
        at_word t.word (Mark mk) t.pos e (go t.pos ts (ap (λ (w : Word). (record { word = w; pos = t.pos }) ∷ ts) e))
    by_test false h = halts (close mk) d (refl, refl) shut

taken_then : {A B : Type 0} {n : ℕ} {G : ℕ → List Token → B → List Token → Type 0} {S : ℕ → List Token → List Token → Type 0} (f : A → Parser B) (o : Option A) (ts : List Token) (t : Token) (d : List Token) → Mild t → ((m : ℕ) (rest : List Token) → n ≤ m → S m (t ∷ (d ++ rest)) rest)
    → ((a : A) → o ≡ Some a → Ends n G S ts (f a (after ts))) → Ends n G S ts (and_then (taken o ts) f)
taken_then f None ts t d mild shut go = halts t d mild shut
taken_then f (Some a) ts t d mild shut go = go a refl

named_at : {B : Type 0} {n : ℕ} {G : ℕ → List Token → B → List Token → Type 0} {S : ℕ → List Token → List Token → Type 0} (f : Named → Parser B) → ((w : List ℕ) (p : Pos) (us : List Token) → Ends n (λ m vs c ws. G m (word w p ∷ vs) c ws) (λ m vs rest. S m (word w p ∷ vs) rest) us (f (named w p) us))
    → (v : Word) (p : Pos) (us : List Token) (x : Named) → name_at ((record { word = v; pos = p }) ∷ us) ≡ Some x → Ends n G S ((record { word = v; pos = p }) ∷ us) (f x us)
unfolding name_at
named_at {n = n} {G} {S} f go (Name w) p us x h = let e : named w p ≡ x = cc in subst (λ (y : Named). Ends n G S (word w p ∷ us) (f y us)) e (stepped (word w p) (go w p us))
named_at f go (Number v u l d) p us x h = cc
named_at f go (Key j) p us x h = cc
named_at f go (Mark j) p us x h = cc

no_name : {X : Type 0} (x : Named) → name_at [] ≡ Some x → X
unfolding name_at
no_name x h = cc

pub name_then : {B : Type 0} {n : ℕ} {G : ℕ → List Token → B → List Token → Type 0} {S : ℕ → List Token → List Token → Type 0} (f : Named → Parser B) (ts d : List Token) → ((m : ℕ) (rest : List Token) → n ≤ m → S m (word letter spot ∷ (d ++ rest)) rest)
    → ((w : List ℕ) (p : Pos) (us : List Token) → Ends n (λ m vs c ws. G m (word w p ∷ vs) c ws) (λ m vs rest. S m (word w p ∷ vs) rest) us (f (named w p) us)) → Ends n G S ts (and_then (any_name ts) f)
unfolding any_name
name_then f [] d shut go = taken_then f (name_at []) [] (word letter spot) d (refl, refl) shut (λ x h. no_name x h)
name_then f (t ∷ ts) d shut go = taken_then f (name_at (t ∷ ts)) (t ∷ ts) (word letter spot) d (refl, refl) shut (λ x h. named_at f go t.word t.pos ts x h)

variable_of : (ns : Names) (o : Option Named) (x : Named) → unless_type ns o ≡ Some x → (o ≡ Some x) × (is_type_name ns x.text ≡ false)
variable_of ns None x h = cc
variable_of ns (Some y) x h = by_test (is_type_name ns y.text) refl h
  where
    by_test : (b : Bool) → is_type_name ns y.text ≡ b → cond b None (Some y) ≡ Some x → (Some y ≡ Some x) × (is_type_name ns x.text ≡ false)
    by_test true e g = cc
    by_test false e g = let same : y ≡ x = cc in (g, subst (λ (z : Named). is_type_name ns z.text ≡ false) same e)

-- a name that is there
pub named_then : {B : Type 0} {n : ℕ} {G : ℕ → List Token → B → List Token → Type 0} {S : ℕ → List Token → List Token → Type 0} (f : Named → Parser B) → ((w : List ℕ) (p : Pos) (us : List Token) → Ends n (λ m vs c ws. G m (word w p ∷ vs) c ws) (λ m vs rest. S m (word w p ∷ vs) rest) us (f (named w p) us))
    → (ts : List Token) (x : Named) → name_at ts ≡ Some x → Ends n G S ts (f x (after ts))
named_then f go [] x h = no_name x h
named_then f go (t ∷ us) x h = named_at f go t.word t.pos us x h

vars_at : {B : Type 0} {n : ℕ} {G : ℕ → List Token → B → List Token → Type 0} {S : ℕ → List Token → List Token → Type 0} (ns : Names) (f : Named → Parser B) → ((w : List ℕ) (p : Pos) (us : List Token) → is_type_name ns w ≡ false → Ends n (λ m vs c ws. G m (word w p ∷ vs) c ws) (λ m vs rest. S m (word w p ∷ vs) rest) us (f (named w p) us))
    → (v : Word) (p : Pos) (us : List Token) (x : Named) → name_at ((record { word = v; pos = p }) ∷ us) ≡ Some x → is_type_name ns x.text ≡ false → Ends n G S ((record { word = v; pos = p }) ∷ us) (f x us)
unfolding name_at
vars_at {n = n} {G} {S} ns f go (Name w) p us x h i =
    let e : named w p ≡ x = cc in
    let j : is_type_name ns w ≡ false = subst (λ (y : Named). is_type_name ns y.text ≡ false) (sym e) i in
    subst (λ (y : Named). Ends n G S (word w p ∷ us) (f y us)) e (stepped (word w p) (go w p us j))
vars_at ns f go (Number v u l d) p us x h i = cc
vars_at ns f go (Key j) p us x h i = cc
vars_at ns f go (Mark j) p us x h i = cc

pub variable_then : {B : Type 0} {n : ℕ} {G : ℕ → List Token → B → List Token → Type 0} {S : ℕ → List Token → List Token → Type 0} (ns : Names) (f : Named → Parser B) (ts d : List Token) → ((m : ℕ) (rest : List Token) → n ≤ m → S m (word (fresh ns) spot ∷ (d ++ rest)) rest)
    → ((w : List ℕ) (p : Pos) (us : List Token) → is_type_name ns w ≡ false → Ends n (λ m vs c ws. G m (word w p ∷ vs) c ws) (λ m vs rest. S m (word w p ∷ vs) rest) us (f (named w p) us)) → Ends n G S ts (and_then (variable ns ts) f)
unfolding variable
variable_then ns f [] d shut go = taken_then f (unless_type ns (name_at [])) [] (word (fresh ns) spot) d (refl, refl) shut (λ x h. no_name x ((variable_of ns (name_at []) x h).0))
variable_then ns f (t ∷ ts) d shut go = taken_then f (unless_type ns (name_at (t ∷ ts))) (t ∷ ts) (word (fresh ns) spot) d (refl, refl) shut (λ x h. let v = variable_of ns (name_at (t ∷ ts)) x h in vars_at ns f go t.word t.pos ts x (v.0) (v.1))

key_at_then : {B : Type 0} {n : ℕ} {G : ℕ → List Token → B → List Token → Type 0} {S : ℕ → List Token → List Token → Type 0} (kw : Keyword) {f : Pos → Parser B} (ts : List Token) → Keyed kw ts → ((p : Pos) (us : List Token) → Ends n (λ m vs c ws. G m (key kw p ∷ vs) c ws) (λ m vs rest. S m (key kw p ∷ vs) rest) us (f p us)) → Ends n G S ts (and_then (takes ts) f)
key_at_then kw _ (Keyed.keyed {p} {us}) go = stepped (key kw p) (go p us)

-- a keyword that is there
pub key_then : {B : Type 0} {n : ℕ} {G : ℕ → List Token → B → List Token → Type 0} {S : ℕ → List Token → List Token → Type 0} (kw : Keyword) {f : Pos → Parser B} (ts : List Token) → key_at ts ≡ Some kw → ((p : Pos) (us : List Token) → Ends n (λ m vs c ws. G m (key kw p ∷ vs) c ws) (λ m vs rest. S m (key kw p ∷ vs) rest) us (f p us)) → Ends n G S ts (and_then (takes ts) f)
key_then kw ts h go = key_at_then kw ts (key_at_is ts kw h) go

-- a keyword that is there, and allows so many more behind it
key_at_to : {B : Type 0} {m : List Token} {n : ℕ} {G : ℕ → List Token → B → List Token → Type 0} {S : ℕ → List Token → List Token → Type 0} (kw : Keyword) {f : Pos → Parser B} (ts : List Token) → Keyed kw ts → ((p : Pos) → Deepens (key kw p) m) → ((p : Pos) (us : List Token) → EndsAt m n (λ m vs c ws. G m (key kw p ∷ vs) c ws) (λ m vs rest. S m (key kw p ∷ vs) rest) us (f p us)) → Ends n G S ts (and_then (takes ts) f)
key_at_to kw _ (Keyed.keyed {p} {us}) i go = stepped_to (key kw p) (i p) (go p us)

pub key_to : {B : Type 0} {m : List Token} {n : ℕ} {G : ℕ → List Token → B → List Token → Type 0} {S : ℕ → List Token → List Token → Type 0} (kw : Keyword) {f : Pos → Parser B} (ts : List Token) → key_at ts ≡ Some kw → ((p : Pos) → Deepens (key kw p) m) → ((p : Pos) (us : List Token) → EndsAt m n (λ m vs c ws. G m (key kw p ∷ vs) c ws) (λ m vs rest. S m (key kw p ∷ vs) rest) us (f p us)) → Ends n G S ts (and_then (takes ts) f)
key_to kw ts h i go = key_at_to kw ts (key_at_is ts kw h) i go

keyed_from : {B : Type 0} {n : ℕ} {G : ℕ → List Token → B → List Token → Type 0} {S : ℕ → List Token → List Token → Type 0} (kw : Keyword) (f : Parser B) (ts : List Token) → Keyed kw ts → ((p : Pos) (us : List Token) → Ends n (λ m vs c ws. G m (key kw p ∷ vs) c ws) (λ m vs rest. S m (key kw p ∷ vs) rest) us (f us)) → Ends n G S ts (f (after ts))
keyed_from kw f _ (Keyed.keyed {p} {us}) go = stepped (key kw p) (go p us)

-- a keyword that is there and passed
pub keyed_then : {B : Type 0} {n : ℕ} {G : ℕ → List Token → B → List Token → Type 0} {S : ℕ → List Token → List Token → Type 0} (kw : Keyword) (f : Parser B) (ts : List Token) → key_at ts ≡ Some kw → ((p : Pos) (us : List Token) → Ends n (λ m vs c ws. G m (key kw p ∷ vs) c ws) (λ m vs rest. S m (key kw p ∷ vs) rest) us (f us)) → Ends n G S ts (f (after ts))
keyed_then kw f ts h go = keyed_from kw f ts (key_at_is ts kw h) go

mark_at_then : {B : Type 0} {n : ℕ} {G : ℕ → List Token → B → List Token → Type 0} {S : ℕ → List Token → List Token → Type 0} (mk : Punct) {f : Pos → Parser B} (ts : List Token) (q : Pos) (vs : List Token) → Marked mk ts q vs → ((p : Pos) (us : List Token) → Ends n (λ m vs c ws. G m (mark mk p ∷ vs) c ws) (λ m vs rest. S m (mark mk p ∷ vs) rest) us (f p us)) → Ends n G S ts (and_then (takes ts) f)
mark_at_then mk _ p us Marked.marked go = stepped (mark mk p) (go p us)

-- a mark that is there
pub mark_then : {B : Type 0} {n : ℕ} {G : ℕ → List Token → B → List Token → Type 0} {S : ℕ → List Token → List Token → Type 0} (mk : Punct) {f : Pos → Parser B} (ts : List Token) → mark_at ts ≡ Some mk → ((p : Pos) (us : List Token) → Ends n (λ m vs c ws. G m (mark mk p ∷ vs) c ws) (λ m vs rest. S m (mark mk p ∷ vs) rest) us (f p us)) → Ends n G S ts (and_then (takes ts) f)
mark_then mk ts h go = let x = mark_at_is ts mk h in mark_at_then mk ts (x.0) (after ts) (x.1) go

front_mark : {A : Type 0} {n : ℕ} {G : ℕ → List Token → A → List Token → Type 0} {S : ℕ → List Token → List Token → Type 0} (mk : Punct) (f : List Token → Read A) (ts : List Token) (p : Pos) (us : List Token) → Marked mk ts p us → ((p : Pos) → Ends n (λ m vs c ws. G m (mark mk p ∷ vs) c ws) (λ m vs rest. S m (mark mk p ∷ vs) rest) us (f us)) → Ends n G S ts (f us)
front_mark mk f _ p us Marked.marked go = stepped (mark mk p) (go p)

-- a mark that is seen and passed
pub seen_then : {A : Type 0} {n : ℕ} {G : ℕ → List Token → A → List Token → Type 0} {S : ℕ → List Token → List Token → Type 0} (mk : Punct) (f : List Token → Read A) (ts : List Token) → sees mk ts ≡ true → ((p : Pos) (us : List Token) → us ≡ after ts → Ends n (λ m vs c ws. G m (mark mk p ∷ vs) c ws) (λ m vs rest. S m (mark mk p ∷ vs) rest) us (f us)) → Ends n G S ts (f (after ts))
seen_then mk f ts h go = let x = sees_is mk ts h in front_mark mk f ts (x.0) (after ts) (x.1) (λ p. go p (after ts) refl)

-- ---- opening tokens
pub shifted : {A : Type 0} {l : List Token} {G : ℕ → List Token → A → List Token → Type 0} {S : ℕ → List Token → List Token → Type 0} (i : ℕ) (us : List Token) {y : Read A} → EndsAt l i (λ m vs c ws. G (suc m) vs c ws) (λ m vs rest. S (suc m) vs rest) us y → EndsAt l (suc i) G S us y
shifted {G = G} i us (EndsAt.got {a} {us = rest} b e w) = EndsAt.got b e roomy
  where
    roomy : (m : ℕ) (vs : List Token) → suc i ≤ m → Follows rest vs → G m (b ++ vs) a vs
    roomy zero vs l o = absurd (omega (arith, l))
    roomy (suc m) vs l o = w m vs (omega (arith, l)) o
shifted {S = S} i us (EndsAt.stuck b t tail least e o l y w) = EndsAt.stuck b t tail (suc least) e o (omega (arith, l)) (way_deeper y) roomy
  where
    roomy : (m : ℕ) (rest : List Token) → suc least ≤ m → S m (b ++ t ∷ (tail ++ rest)) rest
    roomy zero rest k = absurd (omega (arith, k))
    roomy (suc m) rest k = w m rest (omega (arith, k))
shifted i us EndsAt.deep = EndsAt.deep

-- what has as much room again
pub restored : {A : Type 0} {l : List Token} {G : ℕ → List Token → A → List Token → Type 0} {S : ℕ → List Token → List Token → Type 0} (i : ℕ) (us : List Token) {y : Read A} → EndsAt l (suc i) G S us y → EndsAt l i (λ m vs c ws. G (suc m) vs c ws) (λ m vs rest. S (suc m) vs rest) us y
restored i us (EndsAt.got b e w) = EndsAt.got b e (λ m vs l o. w (suc m) vs (omega (arith, l)) o)
restored i us (EndsAt.stuck b t tail zero e o l y w) = absurd (omega (arith, l))
restored i us (EndsAt.stuck b t tail (suc least) e o l y w) = EndsAt.stuck b t tail least e o (omega (arith, l)) (way_back y) (λ m rest k. w (suc m) rest (omega (arith, k)))
restored i us EndsAt.deep = EndsAt.deep

opens_any_to : {B : Type 0} {l m : List Token} {G : ℕ → List Token → B → List Token → Type 0} {S : ℕ → List Token → List Token → Type 0} (f : ℕ → Pos → Parser B) (n : ℕ) (t : Token) (us : List Token) → Deepens t m
    → ((i : ℕ) → n ≡ suc i → EndsAt m i (λ m vs c ws. G (suc m) (t ∷ vs) c ws) (λ m vs rest. S (suc m) (t ∷ vs) rest) us (f (suc i) t.pos us)) → EndsAt l n G S (t ∷ us) (and_then (opens_any n (t ∷ us)) (f n))
unfolding opens_any
opens_any_to f zero t us d go = EndsAt.deep
opens_any_to {G = G} {S = S} f (suc n) t us d go = stepped_to t d (shifted {G = λ m vs c ws. G m (t ∷ vs) c ws} {S = λ m vs rest. S m (t ∷ vs) rest} n us (go n refl))

pub opens_any_then : {B : Type 0} {G : ℕ → List Token → B → List Token → Type 0} {S : ℕ → List Token → List Token → Type 0} (f : ℕ → Pos → Parser B) (n : ℕ) (t : Token) (us : List Token)
    → ((i : ℕ) → n ≡ suc i → Ends i (λ m vs c ws. G (suc m) (t ∷ vs) c ws) (λ m vs rest. S (suc m) (t ∷ vs) rest) us (f (suc i) t.pos us)) → Ends n G S (t ∷ us) (and_then (opens_any n (t ∷ us)) (f n))
opens_any_then f n t us go = opens_any_to f n t us Deepens.nothing go

one_more : (X : ℕ → Type 0) (n : ℕ) → ((m : ℕ) → n ≤ suc m → X (suc m)) → (m : ℕ) → n ≤ m → 1 ≤ m → X m
one_more X n go zero l k = absurd (omega (arith, k))
one_more X n go (suc m) l k = go m l

-- a mark that opens one more, behind which so many more may come; where it isn't there some other text goes on
opens_to : {B : Type 0} {l m : List Token} {G : ℕ → List Token → B → List Token → Type 0} {S : ℕ → List Token → List Token → Type 0} (f : ℕ → Pos → Parser B) (n : ℕ) (mk : Punct) (ts : List Token) → ((p : Pos) → Deepens (mark mk p) m) → (sees mk ts ≡ false → EndsAt l n G S ts (Stuck ts))
    → ((i : ℕ) → n ≡ suc i → (p : Pos) (us : List Token) → EndsAt m i (λ m vs c ws. G (suc m) (mark mk p ∷ vs) c ws) (λ m vs rest. S (suc m) (mark mk p ∷ vs) rest) us (f (suc i) p us)) → EndsAt l n G S ts (and_then (opens n mk ts) (f n))
unfolding opens
opens_to {l = l} {G = G} {S = S} f n mk ts d other go = by_test (sees mk ts) refl
  where
    by_mark : (ts : List Token) (p : Pos) (us : List Token) → Marked mk ts p us → EndsAt l n G S ts (and_then (opens_any n ts) (f n))
    by_mark _ p us Marked.marked = opens_any_to {G = G} {S = S} f n (mark mk p) us (d p) (λ i h. go i h p us)

    by_test : (x : Bool) → sees mk ts ≡ x → EndsAt l n G S ts (and_then (cond x (opens_any n ts) (Stuck ts)) (f n))
    by_test true h = let x = sees_is mk ts h in by_mark ts (x.0) (after ts) (x.1)
    by_test false h = other h

-- where it isn't there some other text goes on
pub opens_or : {B : Type 0} {l : List Token} {G : ℕ → List Token → B → List Token → Type 0} {S : ℕ → List Token → List Token → Type 0} (f : ℕ → Pos → Parser B) (n : ℕ) (mk : Punct) (ts : List Token) → (sees mk ts ≡ false → EndsAt l n G S ts (Stuck ts))
    → ((i : ℕ) → n ≡ suc i → (p : Pos) (us : List Token) → Ends i (λ m vs c ws. G (suc m) (mark mk p ∷ vs) c ws) (λ m vs rest. S (suc m) (mark mk p ∷ vs) rest) us (f (suc i) p us)) → EndsAt l n G S ts (and_then (opens n mk ts) (f n))
opens_or f n mk ts other go = opens_to f n mk ts (λ p. Deepens.nothing) other go

-- where it is there
pub opens_seen : {B : Type 0} {G : ℕ → List Token → B → List Token → Type 0} {S : ℕ → List Token → List Token → Type 0} (f : ℕ → Pos → Parser B) (n : ℕ) (mk : Punct) (ts : List Token) → sees mk ts ≡ true
    → ((i : ℕ) → n ≡ suc i → (p : Pos) (us : List Token) → Ends i (λ m vs c ws. G (suc m) (mark mk p ∷ vs) c ws) (λ m vs rest. S (suc m) (mark mk p ∷ vs) rest) us (f (suc i) p us)) → Ends n G S ts (and_then (opens n mk ts) (f n))
opens_seen f n mk ts h go = opens_or f n mk ts (λ g. let e : true ≡ false = sym h ∙ g in cc) go

-- where what stands before has to be followed by it; the text `d` behind it ends what it opens
pub opens_then : {B : Type 0} {G : ℕ → List Token → B → List Token → Type 0} {S : ℕ → List Token → List Token → Type 0} (f : ℕ → Pos → Parser B) (n : ℕ) (mk : Punct) (ts d : List Token) → ((m : ℕ) (rest : List Token) → S (suc m) (close mk ∷ (d ++ rest)) rest)
    → ((i : ℕ) → n ≡ suc i → (p : Pos) (us : List Token) → Ends i (λ m vs c ws. G (suc m) (mark mk p ∷ vs) c ws) (λ m vs rest. S (suc m) (mark mk p ∷ vs) rest) us (f (suc i) p us)) → EndsAt (close mk ∷ []) n G S ts (and_then (opens n mk ts) (f n))
opens_then {S = S} f n mk ts d shut go = opens_or f n mk ts (λ h. waits (close mk ∷ []) (close mk) d d refl (refl, refl) (λ m rest l. one_more (λ m. S m (close mk ∷ (d ++ rest)) rest) 0 (λ m k. shut m rest) m (omega arith) (omega (arith, l)))) go

-- the first of two
pub opens_two : {B : Type 0} {G : ℕ → List Token → B → List Token → Type 0} {S : ℕ → List Token → List Token → Type 0} (f : ℕ → Pos → Parser B) (n : ℕ) (ts d : List Token) → ((m : ℕ) (rest : List Token) → 1 ≤ m → S (suc m) (close OpenParen ∷ (close OpenParen ∷ d ++ rest)) rest)
    → ((i : ℕ) → n ≡ suc i → (p : Pos) (us : List Token) → EndsAt (close OpenParen ∷ []) i (λ m vs c ws. G (suc m) (mark OpenParen p ∷ vs) c ws) (λ m vs rest. S (suc m) (mark OpenParen p ∷ vs) rest) us (f (suc i) p us)) → EndsAt (close OpenParen ∷ close OpenParen ∷ []) n G S ts (and_then (opens n OpenParen ts) (f n))
opens_two {S = S} f n ts d shut go = opens_to f n OpenParen ts (λ p. Deepens.bracket)
    (λ h. waits (close OpenParen ∷ close OpenParen ∷ []) (close OpenParen) (close OpenParen ∷ d) d refl (refl, refl) (λ m rest l. one_more (λ m. S m (close OpenParen ∷ (close OpenParen ∷ d ++ rest)) rest) 2 (λ m k. shut m rest (omega (arith, k))) m (omega (arith, l)) (omega (arith, l)))) go

-- a mark that opens one more where there is room for it
pub opens_again : {B : Type 0} {n : ℕ} {G : ℕ → List Token → B → List Token → Type 0} {S : ℕ → List Token → List Token → Type 0} (i : ℕ) (mk : Punct) {f : Pos → Parser B} (ts d : List Token) → ((m : ℕ) (rest : List Token) → n ≤ m → S m (close mk ∷ (d ++ rest)) rest)
    → ((p : Pos) (us : List Token) → Ends n (λ m vs c ws. G m (mark mk p ∷ vs) c ws) (λ m vs rest. S m (mark mk p ∷ vs) rest) us (f p us)) → Ends n G S ts (and_then (opens (suc i) mk ts) f)
unfolding opens opens_any sees
opens_again i mk [] d shut go = halts (close mk) d (refl, refl) shut
opens_again {n = n} {G} {S} i mk {f} (t ∷ ts) d shut go = by_test (is_mark mk t.word) refl
  where
    by_test : (x : Bool) → is_mark mk t.word ≡ x → Ends n G S (t ∷ ts) (and_then (cond x (Got t.pos ts) (Stuck (t ∷ ts))) f)
    by_test true h = at_word t.word (Mark mk) t.pos (is_mark_same mk t.word h) (go t.pos ts)
    by_test false h = halts (close mk) d (refl, refl) shut

-- ---- the place of the first token, where one is taken
same_place : (c : Token) (b ts us vs : List Token) → ts ≡ c ∷ b ++ us → pos_of (c ∷ b ++ vs) ≡ pos_of ts
same_place c b ts us vs e = sym (ap pos_of e)

pub placed_ends : {A : Type 0} {n : ℕ} (G : Pos → ℕ → List Token → A → List Token → Type 0) {S : ℕ → List Token → List Token → Type 0} (ts : List Token) (x : Read A) → ((a : A) (us : List Token) → x ≡ Got a us → G (pos_of ts) n ts a us → length us < length ts)
    → Ends n (λ m ss a vs. G (pos_of ts) m ss a vs) S ts x → Ends n (λ m ss a vs. G (pos_of ss) m ss a vs) S ts x
placed_ends {n = n} G ts _ far (EndsAt.got {a} {us} [] e w) = let l : length us < length ts = far a us refl (subst (λ z. G (pos_of ts) n z a us) (sym e) (w n us (omega arith) (follows_same us))) in let k : length ts ≡ length us = ap length e in absurd (omega (arith, l, k))
placed_ends {n = n} G ts _ far (EndsAt.got {a} {us} (c ∷ b) e w) = EndsAt.got (c ∷ b) e (λ m vs l o. subst (λ (p : Pos). G p m (c ∷ b ++ vs) a vs) (sym (same_place c b ts us vs e)) (w m vs l o))
placed_ends G ts _ far (EndsAt.stuck b t tail least e o l y w) = EndsAt.stuck b t tail least e o l y w
placed_ends G ts _ far EndsAt.deep = EndsAt.deep

-- ---- lists
abbrev pub Front : {A : Type 0} → (ℕ → List Token → List A → List Token → Type 0) → ℕ → List Token → A → List Token → Type 0
Front {A} Star m ts x us = (xs : List A) (vs : List Token) → Star m us xs vs → Star m ts (x ∷ xs) vs

-- what was found before, and then these
abbrev pub Found : {A : Type 0} → List A → (ℕ → List Token → List A → List Token → Type 0) → ℕ → List Token → List A → List Token → Type 0
Found {A} found Star m ts a us = (xs : List A) × (a ≡ found ++ xs) × Star m ts xs us

pub found_next : {A : Type 0} (found : List A) (x : A) (xs a : List A) → a ≡ (found ++ x ∷ []) ++ xs → a ≡ found ++ x ∷ xs
found_next found x xs a e = e ∙ append_assoc found (x ∷ []) xs

append_none : {A : Type 0} (xs : List A) → xs ++ [] ≡ xs
append_none [] = refl
append_none (x ∷ xs) = ap (λ z. x ∷ z) (append_none xs)

pub found_none : {A : Type 0} {n : ℕ} {Star : ℕ → List Token → List A → List Token → Type 0} {S : ℕ → List Token → List Token → Type 0} {ts : List Token} {x : Read (List A)} → Ends n (Found [] Star) S ts x → Ends n Star S ts x
found_none {Star = Star} one = ends_map (λ m us a vs g. subst (λ z. Star m us z vs) (sym (g.1)) (g.2)) (λ m us vs s. s) one

while_ends : {A : Type 0} (n : ℕ) (Star : ℕ → List Token → List A → List Token → Type 0) (T : ℕ → List Token → List Token → Type 0) (goes : List Token → Bool) (item : Parser A) → Fine 1 item → ((m : ℕ) (us vs : List Token) → goes us ≡ false → Follows us vs → Star m vs [] vs)
    → ((m : ℕ) (ts : List Token) (x : A) (us rest : List Token) → Front Star m ts x us → T m us rest → T m ts rest)
    → ((ts : List Token) → goes ts ≡ true → Ends n (Front Star) T ts (item ts)) → (left : ℕ) (found : List A) (ts : List Token) → length ts < left → Ends n (Found found Star) T ts (while_from goes item left found ts)
unfolding while_from
while_ends n Star T goes item fine none next each zero found ts h = absurd (omega (arith, h))
while_ends n Star T goes item fine none next each (suc left) found ts h = ends_if (goes ts)
    (λ g. seq_with (each ts g) [] (λ m ss rest l s. s) (λ x us e l i.
    let k = shorter (subst (λ z. Shrinks 1 ts z) e (fine.shrinks ts)) in
    ends_map (λ m vs a ws go ss j. (x ∷ (go.0), found_next found x (go.0) a (go.1), j (go.0) ws (go.2))) (λ m vs rest go ss j. next m ss x vs rest j go) (while_ends n Star T goes item fine none next each left (found ++ x ∷ []) us (omega (arith, k, h)))))
    (λ g. done (λ m vs l o. ([], sym (append_none found), none m ts vs g o)))

pub many_to : {A : Type 0} (n : ℕ) (Star : ℕ → List Token → List A → List Token → Type 0) (T : ℕ → List Token → List Token → Type 0) (goes : List Token → Bool) (item : Parser A) → Fine 1 item → ((m : ℕ) (us vs : List Token) → goes us ≡ false → Follows us vs → Star m vs [] vs)
    → ((m : ℕ) (ts : List Token) (x : A) (us rest : List Token) → Front Star m ts x us → T m us rest → T m ts rest)
    → ((ts : List Token) → goes ts ≡ true → Ends n (Front Star) T ts (item ts)) → (ts : List Token) → Ends n Star T ts (many goes item ts)
many_to n Star T goes item fine none next each ts = found_none (while_ends n Star T goes item fine none next each (turns ts) [] ts (omega arith))

pub many_ends : {A : Type 0} (n : ℕ) (Star : ℕ → List Token → List A → List Token → Type 0) (goes : List Token → Bool) (item : Parser A) → Fine 1 item → ((m : ℕ) (us vs : List Token) → goes us ≡ false → Follows us vs → Star m vs [] vs)
    → ((ts : List Token) → goes ts ≡ true → Ends n (Front Star) (Some' Star) ts (item ts)) → (ts : List Token) → Ends n Star (Some' Star) ts (many goes item ts)
many_ends n Star goes item fine none each ts = many_to n Star (Some' Star) goes item fine none (λ m ss x us rest j s. (x ∷ s.0, j (s.0) rest (s.1))) each ts

-- with a mark after each
after_shorter : (mk : Punct) (us : List Token) → sees mk us ≡ true → length (after us) < length us
unfolding sees
after_shorter mk [] h = cc
after_shorter mk (t ∷ us) h = omega arith

list_from_ends : {A : Type 0} (n : ℕ) (One : ℕ → List Token → A → List Token → Type 0) (Rest : ℕ → List Token → List A → List Token → Type 0) (shut : Punct) (one : Parser A)
    → ((m : ℕ) (ts : List Token) (x : A) (p : Pos) (us : List Token) → One m ts x (mark shut p ∷ us) → Rest m ts (x ∷ []) us)
    → ((m : ℕ) (ts : List Token) (x : A) (p : Pos) (us : List Token) (xs : List A) (vs : List Token) → One m ts x (mark Comma p ∷ us) → Rest m us xs vs → Rest m ts (x ∷ xs) vs)
    → ((ts : List Token) → Ends n One (Some' One) ts (one ts)) → (left : ℕ) (found : List A) (ts : List Token) → length ts < left → Ends n (Found found Rest) (Some' Rest) ts (list_from shut one left found ts)
unfolding list_from
list_from_ends n One Rest shut one last next each zero found ts h = absurd (omega (arith, h))
list_from_ends n One Rest shut one last next each (suc left) found ts h = seq_with (each ts) (close shut ∷ []) (λ m ss rest l s. (s.0 ∷ [], last m ss (s.0) spot rest (s.1))) (λ x us e l i.
    ends_if (sees Comma us)
    (λ c. let k = after_shorter Comma us c in seen_then Comma (list_from shut one left (found ++ x ∷ [])) us c (λ p vs f.
    ends_map (λ m ws a zs go ss j. (x ∷ (go.0), found_next found x (go.0) a (go.1), next m ss x p ws (go.0) zs j (go.2))) (λ m ws rest go ss j. (x ∷ (go.0), next m ss x p ws (go.0) rest j (go.1)))
    (list_from_ends n One Rest shut one last next each left (found ++ x ∷ []) vs (let g : length vs ≡ length (after us) = ap length f in omega (arith, g, k, l, h)))))
    (λ c. expect_then shut us [] (λ m rest l ss j. (x ∷ [], last m ss x spot rest j)) (λ p vs. done (λ m ws l o ss j. (x ∷ [], refl, last m ss x p ws j)))))

pub list_ends : {A : Type 0} (n : ℕ) (One : ℕ → List Token → A → List Token → Type 0) (Rest : ℕ → List Token → List A → List Token → Type 0) (shut : Punct) (one : Parser A)
    → ((m : ℕ) (ts : List Token) (x : A) (p : Pos) (us : List Token) → One m ts x (mark shut p ∷ us) → Rest m ts (x ∷ []) us)
    → ((m : ℕ) (ts : List Token) (x : A) (p : Pos) (us : List Token) (xs : List A) (vs : List Token) → One m ts x (mark Comma p ∷ us) → Rest m us xs vs → Rest m ts (x ∷ xs) vs)
    → ((ts : List Token) → Ends n One (Some' One) ts (one ts)) → (ts : List Token) → Ends n Rest (Some' Rest) ts (list shut one ts)
list_ends n One Rest shut one last next each ts = found_none (list_from_ends n One Rest shut one last next each (turns ts) [] ts (omega arith))
