-- What a refusal says: where it stands, and how many are open at the tokens up to there.
use Rattle.std.proofs.Common.{◌≡◌, ℕ, ◌+◌, ◌≤◌, ◌<◌, List, [], ◌∷◌, ◌++◌, refl, sym, ap, ◌∙◌, subst, length, append_assoc, length-append, arith}
use Rattle.sa_tokens.specs.declared.token.Token.{Token}
use Rattle.sa_syntax.specs.declared.unit.Unit.{Unit as Source}
use Rattle.sa_syntax.specs.Trees as tree
use Rattle.sa_syntax.specs.Statements.{Tree}
use Rattle.sa_syntax.specs.Reading.{Read, Got, Stuck, Deep}
use Rattle.sa_syntax.specs.ReadStmt as read
use Rattle.sa_syntax.specs.Refusals.{Deepens, IsWithin, StaysWithin, FailsAt, GoesTooDeep, IsRefused}
use Rattle.sa_syntax.proofs.UnitSound.{sources}
use Rattle.sa_syntax.proofs.UnitComplete.{source-complete}
use Rattle.sa_syntax.proofs.DeepLemmas.{Shrinks, Local}
use Rattle.sa_syntax.proofs.DeepUnit as fine
use Rattle.sa_syntax.proofs.ClosingUnit.{reached}
use Rattle.sa_syntax.proofs.NearLemmas.{Next, Near, NotGot}
use Rattle.sa_syntax.proofs.NearStmt.{source_near}
use Rattle.sa_syntax.proofs.EndsLemmas.{EndsAt, Ends, Way}
use Rattle.sa_syntax.proofs.EndsUnit.{Whole, source_ends, stuck_none, begins_none}

append_none : (xs : List Token) → xs ++ [] ≡ xs
append_none [] = refl
append_none (x ∷ xs) = ap (λ z. x ∷ z) (append_none xs)

-- ---- a token that is read is within the room
within_by : (n : ℕ) (b : List Token) (t : Token) (q tail : List Token) (ts : List Token) (u : Source) → Deepens t q → ts ≡ (b ++ t ∷ []) ++ (q ++ tail) → Tree (n + length q) ts u → IsWithin n b t
within_by n b t q tail ts u d e i = record { deeper = q; deepens = d; tail = tail; unit = u; tree = subst (λ z. Tree (n + length q) z u) (e ∙ append_assoc b (t ∷ []) (q ++ tail)) i }

within_room : (n : ℕ) (b : List Token) (t : Token) (tail ts : List Token) (u : Source) → ts ≡ (b ++ t ∷ []) ++ tail → Tree n ts u → IsWithin n b t
within_room n b t tail ts u e i = let same : n ≡ n + 0 = omega arith in within_by n b t [] tail ts u Deepens.nothing e (subst (λ r. Tree r ts u) same i)

same_last : (b d : List Token) (t v : Token) → d ++ v ∷ [] ≡ b ++ t ∷ [] → (d ≡ b) × (v ≡ t)
same_last [] [] t v e = (refl, cc)
same_last [] (x ∷ d) t v e = let n : length (x ∷ d ++ v ∷ []) ≡ length (t ∷ []) = ap length e in let k : length (d ++ v ∷ []) ≡ length d + length (v ∷ []) = length-append d (v ∷ []) in absurd (omega (arith, n, k))
same_last (x ∷ b) [] t v e = let n : length (v ∷ []) ≡ length (x ∷ b ++ t ∷ []) = ap length e in let k : length (b ++ t ∷ []) ≡ length b + length (t ∷ []) = length-append b (t ∷ []) in absurd (omega (arith, n, k))
same_last (x ∷ b) (y ∷ d) t v e = let same : y ≡ x = cc in let rest : d ++ v ∷ [] ≡ b ++ t ∷ [] = cc in let more = same_last b d t v rest in (let f = more.0 in cc, more.1)

-- the text that goes on from there
ended : (n : ℕ) (b : List Token) (t : Token) (c : List Token) (h : Token) (tail : List Token) (least : ℕ) → c ≡ b ++ t ∷ [] → Way [] n c (h ∷ tail) least → ((m : ℕ) → least ≤ m → Whole [] m (c ++ h ∷ (tail ++ [])) []) → IsWithin n b t
ended n b t c h tail least e (Way.fits l) w =
    let v = w n l refl in
    within_room n b t (h ∷ (tail ++ [])) (c ++ h ∷ (tail ++ [])) (tree.source (v.0)) (ap (λ z. z ++ h ∷ (tail ++ [])) e) (v.1)
ended n b t c h tail least e (Way.allowed more f g l) w =
    let v = w n (omega (arith, l)) refl in
    within_room n b t (h ∷ (tail ++ [])) (c ++ h ∷ (tail ++ [])) (tree.source (v.0)) (ap (λ z. z ++ h ∷ (tail ++ [])) e) (v.1)
ended n b t c h tail least e (Way.earned d x q more f o g l) w =
    let v = w (n + length q) l refl in
    let same : x ≡ t = (same_last b d t x (sym f ∙ e)).1 in
    let goes : h ∷ (tail ++ []) ≡ q ++ (more ++ []) = ap (λ z. z ++ []) g ∙ append_assoc q more [] in
    within_by n b t q (more ++ []) (c ++ h ∷ (tail ++ [])) (tree.source (v.0)) (subst (λ (y : Token). Deepens y q) same o) (ap (λ z. z ++ h ∷ (tail ++ [])) e ∙ ap (λ z. (b ++ t ∷ []) ++ z) goes) (v.1)

stuck_within : (n : ℕ) (b : List Token) (t : Token) (ts : List Token) (x : Read Source) → ts ≡ b ++ t ∷ [] → x ≡ Stuck [] → Ends n (λ r ts u us. Unit {0}) (Whole []) ts x → IsWithin n b t
stuck_within n b t ts _ f e (EndsAt.got c h w) = cc
stuck_within n b t ts _ f e EndsAt.deep = cc
stuck_within n b t ts _ f e (EndsAt.stuck {us = us} c x tail least h o l y w) =
    let none : us ≡ [] = cc in
    let front : c ≡ b ++ t ∷ [] = sym (append_none c) ∙ ap (λ z. c ++ z) (sym none) ∙ sym h ∙ f in
    ended n b t c x tail least front y (λ m k. w m [] k)

-- ---- what is left of an answer
abbrev left : {A : Type 0} → Read A → List Token
left (Got a us) = us
left (Stuck us) = us
left (Deep us) = us

abbrev IsRefusal : {A : Type 0} → Read A → Type 0
IsRefusal (Got a us) = ⊥
IsRefusal (Stuck us) = Unit {0}
IsRefusal (Deep us) = Unit {0}

longer : (b : List Token) (t : Token) (s : List Token) → length s < length (b ++ t ∷ s)
longer b t s = let k : length (b ++ t ∷ s) ≡ length b + length (t ∷ s) = length-append b (t ∷ s) in omega (arith, k)

-- what is refused at a token is refused there whatever follows
refused_far : {A : Type 0} {t : Token} {r s : List Token} {x y : Read A} → Local t r s x y → IsRefusal x → left x ≡ t ∷ r → length s < length (left y)
refused_far {t = t} {s = s} (Local.got b) i e = absurd i
refused_far {t = t} {s = s} (Local.deep b) i e = longer b t s
refused_far {t = t} {s = s} (Local.stuck b) i e = longer b t s
refused_far (Local.gone h) i e = absurd i
refused_far {t = t} {r = r} (Local.gone_deep {us} h) i e = let n : length us ≡ length (t ∷ r) = ap length e in absurd (omega (arith, h, n))
refused_far {t = t} {r = r} (Local.gone_stuck {us} h) i e = let n : length us ≡ length (t ∷ r) = ap length e in absurd (omega (arith, h, n))

-- refused at a token before the end
stops_short : (n : ℕ) (ts xs : List Token) (t : Token) (vs r : List Token) → ts ≡ xs ++ t ∷ vs → IsRefusal (read.source n ts) → left (read.source n ts) ≡ t ∷ vs → length (left (read.source n (ts ++ r))) ≤ length r → ⊥
stops_short n ts xs t vs r e i f h =
    let far = refused_far ((fine.source_fine n).local xs t vs (vs ++ r)) (subst (λ z. IsRefusal (read.source n z)) e i) (ap (λ z. left (read.source n z)) (sym e) ∙ f) in
    let same : ts ++ r ≡ xs ++ t ∷ (vs ++ r) = ap (λ z. z ++ r) e ∙ append_assoc xs (t ∷ vs) r in
    let l : length (left (read.source n (xs ++ t ∷ (vs ++ r)))) ≤ length r = subst (λ z. length (left (read.source n z)) ≤ length r) same h in
    let k : length (vs ++ r) ≡ length vs + length r = length-append vs r in
    omega (arith, far, l, k)

read_within : (n : ℕ) (b : List Token) (t : Token) (ts r : List Token) (x : Read Source) → ts ≡ b ++ t ∷ [] → read.source n ts ≡ x → Shrinks 0 ts x → length (left (read.source n (ts ++ r))) ≤ length r → IsWithin n b t
read_within n b t ts r (Got u us) e f (Shrinks.got xs g k) h = within_room n b t [] ts u (e ∙ sym (append_none (b ++ t ∷ []))) (sources n ts us u f)
read_within n b t ts r (Stuck []) e f (Shrinks.stuck xs g) h = stuck_within n b t ts (read.source n ts) e f (source_ends n ts)
read_within n b t ts r (Stuck (v ∷ vs)) e f (Shrinks.stuck xs g) h = absurd (stops_short n ts xs v vs r g (subst (λ (z : Read Source). IsRefusal z) (sym f) tt) (ap left f) h)
read_within n b t ts r (Deep []) e f x h = elim x [ ]
read_within n b t ts r (Deep (v ∷ vs)) e f (Shrinks.deep xs g) h = absurd (stops_short n ts xs v vs r g (subst (λ (z : Read Source). IsRefusal z) (sym f) tt) (ap left f) h)

-- at each token that is read no more is open than may be
stays : (n : ℕ) (ts before us : List Token) → ts ≡ before ++ us → left (read.source n ts) ≡ us → StaysWithin n before
stays n ts before us e f b t c g =
    let front : List Token = b ++ t ∷ [] in
    let same : ts ≡ front ++ (c ++ us) = e ∙ ap (λ z. z ++ us) g ∙ append_assoc b (t ∷ c) us ∙ sym (append_assoc b (t ∷ []) (c ++ us)) in
    let k : length (c ++ us) ≡ length c + length us = length-append c us in
    let l : length (left (read.source n ts)) ≡ length us = ap length f in
    let h : length (left (read.source n (front ++ (c ++ us)))) ≤ length (c ++ us) = subst (λ z. length (left (read.source n z)) ≤ length (c ++ us)) same (omega (arith, k, l)) in
    read_within n b t front (c ++ us) (read.source n front) refl refl ((fine.source_fine n).shrinks front) h

-- ---- a token at which there is no room is not within it
deepens_next : (t : Token) (q tail : List Token) → Deepens t q → (q ≡ [] → ⊥) → Next (length q) (t ∷ (q ++ tail))
deepens_next t _ tail Deepens.nothing h = absurd (h refl)
deepens_next _ _ tail (Deepens.condition {p} {q} {w} i) h = Next.condition p q w tail i refl refl
deepens_next _ _ tail (Deepens.directive {p} {q} {r} {w} i) h = Next.directive p q r w tail i refl refl
deepens_next _ _ tail (Deepens.bracket {p} {q}) h = Next.bracket p q tail refl refl
deepens_next _ _ tail (Deepens.body {p} {q}) h = Next.body p q tail refl refl
deepens_next _ _ tail (Deepens.labelled {p} {q}) h = Next.labelled p q tail refl refl

near_fails : {A : Type 0} {j : ℕ} {x y : Read A} {us vs : List Token} {a : A} → Near j x y → Next j us → x ≡ Deep us → y ≡ Got a vs → ⊥
near_fails {A} {j} {us = us} (Near.out {us = ws} h) i e f = let same : us ≡ ws = cc in subst (λ (z : Read A). NotGot z) f (h (subst (λ z. Next j z) same i))
near_fails Near.same i e f = cc

-- refused for depth at the token, whatever follows
deep_there : {A : Type 0} {t : Token} {r s : List Token} (x y : Read A) → Local t r s x y → x ≡ Deep (t ∷ r) → y ≡ Deep (t ∷ s)
deep_there _ _ (Local.got b) e = cc
deep_there _ _ (Local.deep []) e = refl
deep_there {t = t} {r = r} _ _ (Local.deep (c ∷ b)) e = let g : c ∷ b ++ t ∷ r ≡ t ∷ r = cc in let l : length (c ∷ b ++ t ∷ r) ≡ length (t ∷ r) = ap length g in let k : length (b ++ t ∷ r) ≡ length b + length (t ∷ r) = length-append b (t ∷ r) in absurd (omega (arith, l, k))
deep_there _ _ (Local.stuck b) e = cc
deep_there _ _ (Local.gone h) e = cc
deep_there {t = t} {r = r} (Deep us) _ (Local.gone_deep h) e = let g : us ≡ t ∷ r = cc in let l : length us ≡ length (t ∷ r) = ap length g in absurd (omega (arith, h, l))
deep_there _ _ (Local.gone_stuck h) e = cc

not_within : (n : ℕ) (b : List Token) (t : Token) (r : List Token) → read.source n (b ++ t ∷ r) ≡ Deep (t ∷ r) → IsWithin n b t → ⊥
not_within n b t r e w = by_more w.deeper w.deepens w.tree
  where
    at : (q : List Token) → read.source n (b ++ t ∷ (q ++ w.tail)) ≡ Deep (t ∷ (q ++ w.tail))
    at q = deep_there (read.source n (b ++ t ∷ r)) (read.source n (b ++ t ∷ (q ++ w.tail))) ((fine.source_fine n).local b t r (q ++ w.tail)) e

    by_more : (q : List Token) → Deepens t q → Tree (n + length q) (b ++ t ∷ (q ++ w.tail)) w.unit → ⊥
    by_more [] d i =
        let same : n + 0 ≡ n = omega arith in
        let g = source-complete n (b ++ t ∷ w.tail) w.unit (subst (λ m. Tree m (b ++ t ∷ w.tail) w.unit) same i) in
        let f = at [] in cc
    by_more (c ∷ q) d i = near_fails (source_near (length (c ∷ q)) n (n + length (c ∷ q)) refl (b ++ t ∷ (c ∷ q ++ w.tail))) (deepens_next t (c ∷ q) w.tail d (λ h. cc)) (at (c ∷ q)) (source-complete (n + length (c ∷ q)) (b ++ t ∷ (c ∷ q ++ w.tail)) w.unit i)

-- ---- what the refusals say
pub told_depth : (n : ℕ) (ts us : List Token) → read.source n ts ≡ Deep us → (d : GoesTooDeep n ts) × (us ≡ d.token ∷ d.after)
told_depth n ts us e =
    let x = reached n ts us e in
    let at : read.source n (x.before ++ x.token ∷ x.behind) ≡ Deep (x.token ∷ x.behind) = subst (λ z. read.source n z ≡ Deep (x.token ∷ x.behind)) x.is (e ∙ ap (λ (z : List Token). Deep z) x.told) in
    let within = stays n ts x.before (x.token ∷ x.behind) x.is (ap left e ∙ x.told) in
    (record { before = x.before; token = x.token; after = x.behind; is = x.is; begins = x.begins; within = within; deep = not_within n x.before x.token x.behind at }, x.told)

refused_by : (n : ℕ) (ts b us : List Token) → ts ≡ b ++ us → read.source n ts ≡ Stuck us → IsRefused b us
refused_by n ts b [] e f = stuck_none n b [] (subst (λ z. read.source n z ≡ Stuck []) (e ∙ append_none b) f)
refused_by n ts b (t ∷ r) e f = begins_none n b t r (subst (λ z. read.source n z ≡ Stuck (t ∷ r)) e f)

told_by : (n : ℕ) (ts us : List Token) (x : Read Source) → read.source n ts ≡ x → x ≡ Stuck us → Ends n (λ r ts u us. Unit {0}) (Whole []) ts x → FailsAt n ts us
told_by n ts us _ f e (EndsAt.got b h w) = cc
told_by n ts us _ f e EndsAt.deep = cc
told_by n ts us _ f e (EndsAt.stuck {us = vs} b t tail least h o l y w) =
    let same : vs ≡ us = cc in
    let g : read.source n ts ≡ Stuck us = f ∙ e in
    let is : ts ≡ b ++ us = h ∙ ap (λ z. b ++ z) same in
    let v = w least [] (omega arith) refl in
    record { before = b; is = is; begins = (least, t ∷ (tail ++ []), tree.source (v.0), v.1); within = stays n ts b us is (ap left g); refused = refused_by n ts b us is g }

pub told_place : (n : ℕ) (ts us : List Token) → read.source n ts ≡ Stuck us → FailsAt n ts us
told_place n ts us e = told_by n ts us (read.source n ts) refl e (source_ends n ts)
