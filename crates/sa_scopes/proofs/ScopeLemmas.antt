-- Where names stand after one more declaration and without the newest ones, in the list and in the map.
use Rattle.std.proofs.Common.{◌≡◌, ℕ, zero, suc, ◌+◌, ◌<◌, ◌≤◌, List, [], ◌∷◌, ◌++◌, Bool, true, false, length, take, refl, ap, sym, subst, ◌∙◌, arith, Option, Some, None, cond, ⊎_elim}
use Rattle.std.specs.Prelude.{if◌then◌else◌, slice_get}
use denote.Ref.{Bor}
use Rattle.std.specs.Str.{bytes_eq}
use Rattle.std.specs.Ordering.{is_eq, nat_cmp}
use Rattle.std.specs.Cmp.{eq_by_cmp_equiv}
use Rattle.std.specs.Cmp.Lexicographic.{slice_cmp, bytes_decides, nat_list_cmp_total, nat_list_eq_equiv}
use Rattle.std.specs.Map.{lookup, IsKeyTest, AreApart, KeepsOthers}
use Rattle.std.specs.BTreeMap.{BTreeMap, UpdatesBy}
use Rattle.std.proofs.lemmas.Bool.{true≢false, cases_Bool, cond-true, cond-false}
use Rattle.std.proofs.lemmas.List.{map-append, take-map, length-map}
use Rattle.std.proofs.lemmas.Map.Text.{is_eq-slice_cmp}
use Rattle.sa_scopes.specs.Scopes.{Scope, index_from, place_in, Finds, is_some, is_same, names_at, texts}

-- ---- the map
apart : (bs cs ks : List ℕ) → bytes_eq bs cs ≡ false → is_eq (slice_cmp nat_cmp bs ks) ≡ true → is_eq (slice_cmp nat_cmp cs ks) ≡ false
apart bs cs ks n y =
    is_eq-slice_cmp cs ks ∙ nat_list_eq_equiv.symm cs ks ∙ sym (nat_list_eq_equiv.congr bs ks cs (sym (is_eq-slice_cmp bs ks) ∙ y)) ∙ n

other_entries : {K X : Type 0} (eq : K → K → Bool) (test : K → Bool) (old new : List (K × X)) → KeepsOthers eq test old new → (other : K → Bool) → IsKeyTest eq other → AreApart test other → lookup other new ≡ lookup other old
unfolding KeepsOthers
other_entries eq test old new h = h

-- a map from names after an insertion at a name
pub place_in-updated : (name : List ℕ) (m n : BTreeMap (Bor (List ℕ)) ℕ) (o : Option ℕ) →
    UpdatesBy (λ x y. slice_cmp nat_cmp x.now y.now) (λ k. slice_cmp nat_cmp name k.now) m n o →
    (w : List ℕ) → place_in n w ≡ cond (bytes_eq name w) o (place_in m w)
place_in-updated name m n o h w =
    ⊎_elim
    (λ y. subst (λ (l : List ℕ). place_in n l ≡ o) ((bytes_decides name w).0 y) h.1 ∙ sym (cond-true (bytes_eq name w) o (place_in m w) y))
    (λ d. other_entries _ _ _ _ h.3 _ (λ x y. (eq_by_cmp_equiv nat_list_cmp_total).congr w x.now y.now) (λ k. apart name w k.now d) ∙ sym (cond-false (bytes_eq name w) o (place_in m w) d))
    (cases_Bool (bytes_eq name w))

-- ---- the list
-- where a name is found, it stands
stands_from : (k i : ℕ) (w : List ℕ) (ns : List (List ℕ)) → index_from k w ns ≡ Some i → (j : ℕ) × (i ≡ k + j) × (names_at ns j w ≡ true)
unfolding index_from names_at
stands_from k i w [] h = absurd cc
stands_from k i w (n ∷ ns) h =
    elim (bytes_eq w n) as (λ b. bytes_eq w n ≡ b → (if b then Some k else index_from (k + 1) w ns) ≡ Some i → (j : ℕ) × (i ≡ k + j) × (is_same w (slice_get (n ∷ ns) j) ≡ true)) [
      | true ↦ λ e h. (let f : k ≡ i = cc in (zero, omega (arith, f), nat_list_eq_equiv.symm n w ∙ e))
      | false ↦ λ e h. let s = stands_from (k + 1) i w ns h in (suc s.0, omega (arith, s.1), s.2)
    ] refl h

pub stands : (i : ℕ) (w : List ℕ) (ns : List (List ℕ)) → index_from 0 w ns ≡ Some i → names_at ns i w ≡ true
stands i w ns h = let s = stands_from 0 i w ns h in let e : i ≡ s.0 = omega (arith, s.1) in rw e s.2

-- a name that stands is found
found_from : (k j : ℕ) (w : List ℕ) (ns : List (List ℕ)) → names_at ns j w ≡ true → is_some (index_from k w ns) ≡ true
unfolding index_from names_at
found_from k j w [] h = absurd (true≢false (sym h))
found_from k zero w (n ∷ ns) h = rw (nat_list_eq_equiv.symm w n, h) refl
found_from k (suc j) w (n ∷ ns) h = elim (bytes_eq w n) as (λ b. is_some (if b then Some k else index_from (k + 1) w ns) ≡ true) [ true ↦ refl | false ↦ found_from (k + 1) j w ns h ]

-- the place that the map has is the name's, where that name stands there
pub at_place : (o : Option ℕ) (i : ℕ) → is_some o ≡ true → ((j : ℕ) → o ≡ Some j → Some i ≡ Some j) → o ≡ Some i
at_place None i h f = absurd (true≢false (sym h))
at_place (Some j) i h f = sym (f j refl)

pub no_place : (o : Option ℕ) → ((j : ℕ) → o ≡ Some j → ⊥) → o ≡ None
no_place None f = refl
no_place (Some j) f = absurd (f j refl)

pub is_index : (places : BTreeMap (Bor (List ℕ)) ℕ) (words : List (List ℕ)) (w : List ℕ) (i : ℕ) → Finds places words → place_in places w ≡ Some i → names_at words i w ≡ true → index_from 0 w words ≡ Some i
is_index places words w i finds p h = at_place _ i (found_from 0 i w words h) (λ j e. sym p ∙ finds w j e)

pub is_no_index : (places : BTreeMap (Bor (List ℕ)) ℕ) (words : List (List ℕ)) (w : List ℕ) (i : ℕ) → Finds places words → place_in places w ≡ Some i → names_at words i w ≡ false → index_from 0 w words ≡ None
is_no_index places words w i finds p h = no_place _ (λ j e. let same : Some i ≡ Some j = sym p ∙ finds w j e in let k : i ≡ j = cc in true≢false (sym (stands j w words e) ∙ rw (← k) h))

pub is_nowhere : (places : BTreeMap (Bor (List ℕ)) ℕ) (words : List (List ℕ)) (w : List ℕ) → Finds places words → place_in places w ≡ None → index_from 0 w words ≡ None
is_nowhere places words w finds p = no_place _ (λ j e. let same : None ≡ Some j = sym p ∙ finds w j e in cc)

-- ---- the newest name
last_from : (k i : ℕ) (w n : List ℕ) (ns : List (List ℕ)) → index_from k w (ns ++ n ∷ []) ≡ Some i → bytes_eq n w ≡ false → index_from k w ns ≡ Some i
unfolding index_from
last_from k i w n [] h e = absurd (let f : bytes_eq w n ≡ false = nat_list_eq_equiv.symm w n ∙ e in let g : None ≡ Some i = rw f at h in cc)
last_from k i w n (m ∷ ns) h e =
    elim (bytes_eq w m) as (λ b. (if b then Some k else index_from (k + 1) w (ns ++ n ∷ [])) ≡ Some i → (if b then Some k else index_from (k + 1) w ns) ≡ Some i) [
      | true ↦ λ h. h
      | false ↦ λ h. last_from (k + 1) i w n ns h e
    ] h

last_here : (k i : ℕ) (w n : List ℕ) (ns : List (List ℕ)) → index_from k w ns ≡ None → index_from k w (ns ++ n ∷ []) ≡ Some i → i ≡ k + length ns
unfolding index_from
last_here k i w n [] h e = elim (bytes_eq w n) as (λ b. (if b then Some k else None) ≡ Some i → i ≡ k + 0) [ true ↦ λ e. let f : k ≡ i = cc in omega (arith, f) | false ↦ λ e. absurd cc ] e
last_here k i w n (m ∷ ns) h e =
    elim (bytes_eq w m) as (λ b. (if b then Some k else index_from (k + 1) w ns) ≡ None → (if b then Some k else index_from (k + 1) w (ns ++ n ∷ [])) ≡ Some i → i ≡ k + suc (length ns)) [
      | true ↦ λ h e. absurd cc
      | false ↦ λ h e. let s = last_here (k + 1) i w n ns h e in omega (arith, s)
    ] h e

none_of : (o : Option ℕ) → is_some o ≡ false → o ≡ None
none_of None h = refl
none_of (Some i) h = absurd (true≢false h)

-- the map with the place of the name that is to come
pub finds-noted : (m n : BTreeMap (Bor (List ℕ)) ℕ) (name : List ℕ) (words : List (List ℕ)) (k : ℕ) → is_some (index_from 0 name words) ≡ false → Finds m words →
    ((w : List ℕ) → place_in n w ≡ cond (bytes_eq name w) (Some k) (place_in m w)) → Finds n words
finds-noted m n name words k fresh finds new w i e =
    ⊎_elim
    (λ y. absurd (let same : name ≡ w = (bytes_decides name w).0 y in let none : index_from 0 w words ≡ None = rw (← same) (none_of _ fresh) in let f : None ≡ Some i = sym none ∙ e in cc))
    (λ d. new w ∙ cond-false (bytes_eq name w) (Some k) (place_in m w) d ∙ finds w i e)
    (cases_Bool (bytes_eq name w))

pub finds-pushed : (m n : BTreeMap (Bor (List ℕ)) ℕ) (name : Bor (List ℕ)) (words pushed : List (Bor (List ℕ))) (k : ℕ) → pushed ≡ words ++ name ∷ [] → is_some (index_from 0 name.now (texts words)) ≡ false → k ≡ length words → Finds m (texts words) →
    ((w : List ℕ) → place_in n w ≡ cond (bytes_eq name.now w) (Some k) (place_in m w)) → Finds n (texts pushed)
finds-pushed m n name words pushed k p fresh len finds new w i e =
    let e : index_from 0 w (texts words ++ name.now ∷ []) ≡ Some i = rw (← map-append (λ (x : Bor (List ℕ)). x.now) words (name ∷ [])) (rw p at e) in
    ⊎_elim
    (λ y. let same : name.now ≡ w = (bytes_decides name.now w).0 y in
    let none : index_from 0 w (texts words) ≡ None = rw (← same) (none_of _ fresh) in
    let here : i ≡ 0 + length (texts words) = last_here 0 i w name.now (texts words) none e in
    let k_is : k ≡ i = omega (arith, len, here, length-map words (λ (x : Bor (List ℕ)). x.now)) in
    new w ∙ cond-true (bytes_eq name.now w) (Some k) (place_in m w) y ∙ ap Some k_is)
    (λ d. new w ∙ cond-false (bytes_eq name.now w) (Some k) (place_in m w) d ∙ finds w i (last_from 0 i w name.now (texts words) e d))
    (cases_Bool (bytes_eq name.now w))

-- ---- the oldest names
taken_from : (k i n : ℕ) (w : List ℕ) (ns : List (List ℕ)) → index_from k w (take n ns) ≡ Some i → index_from k w ns ≡ Some i
unfolding index_from
taken_from k i zero w ns h = absurd cc
taken_from k i (suc n) w [] h = absurd cc
taken_from k i (suc n) w (m ∷ ns) h =
    elim (bytes_eq w m) as (λ b. (if b then Some k else index_from (k + 1) w (take n ns)) ≡ Some i → (if b then Some k else index_from (k + 1) w ns) ≡ Some i) [
      | true ↦ λ h. h
      | false ↦ λ h. taken_from (k + 1) i n w ns h
    ] h

pub finds-taken : (m : BTreeMap (Bor (List ℕ)) ℕ) (n : ℕ) (words rest : List (Bor (List ℕ))) → rest ≡ take n words → Finds m (texts words) → Finds m (texts rest)
finds-taken m n words rest r finds w i e = finds w i (taken_from 0 i n w (texts words) (rw (r, ← take-map (λ (x : Bor (List ℕ)). x.now) n words) at e))

pub finds-nothing : (m : BTreeMap (Bor (List ℕ)) ℕ) (words : List (Bor (List ℕ))) → words ≡ [] → Finds m (texts words)
unfolding index_from
finds-nothing m words h w i e = absurd (let f : None ≡ Some i = rw h at e in cc)
