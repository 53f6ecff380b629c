-- The map from names after one more input.
use Rattle.std.proofs.Common.{◌≡◌, ℕ, ◌+◌, ◌<◌, ◌≤◌, List, Bool, true, false, length, get_or, refl, sym, subst, ◌∙◌, drop, drop-cons, add-one, Option, Some, None, cond, ⊎_elim}
use denote.Ref.{Bor}
use Rattle.std.specs.Str.{bytes_eq}
use Rattle.std.specs.Ordering.{is_eq, nat_cmp}
use Rattle.std.specs.Cmp.{eq_by_cmp_equiv}
use Rattle.std.specs.Cmp.Lexicographic.{slice_cmp, bytes_decides, nat_list_cmp_total, nat_list_eq_equiv}
use Rattle.std.specs.Map.{lookup, IsKeyTest, AreApart, KeepsOthers}
use Rattle.std.specs.BTreeMap.{BTreeMap, UpdatesBy}
use Rattle.std.proofs.Math.ListN.{drop_of_length-le}
use Rattle.std.proofs.lemmas.Bool.{cases_Bool, cond-true, cond-false}
use Rattle.std.proofs.lemmas.Map.Text.{is_eq-slice_cmp}
use Rattle.sa_typed.specs.declared.program.Input.{Input}
use Rattle.sa_ranges.specs.Inputs.{type_range, common, with_input, range_with, range_in_map}
use Rattle.sa_ranges.specs.declared.inputs.Allowed.{Allowed}

apart : (bs cs ks : List ℕ) → bytes_eq bs cs ≡ false → is_eq (slice_cmp nat_cmp bs ks) ≡ true → is_eq (slice_cmp nat_cmp cs ks) ≡ false
apart bs cs ks n y =
    is_eq-slice_cmp cs ks ∙ nat_list_eq_equiv.symm cs ks ∙ sym (nat_list_eq_equiv.congr bs ks cs (sym (is_eq-slice_cmp bs ks) ∙ y)) ∙ n

other_entries : {K X : Type 0} (eq : K → K → Bool) (test : K → Bool) (old new : List (K × X)) → KeepsOthers eq test old new → (other : K → Bool) → IsKeyTest eq other → AreApart test other → lookup other new ≡ lookup other old
unfolding KeepsOthers
other_entries eq test old new h = h

updated : (name : List ℕ) (m n : BTreeMap (Bor (List ℕ)) Allowed) (o : Option Allowed) →
    UpdatesBy (λ x y. slice_cmp nat_cmp x.now y.now) (λ k. slice_cmp nat_cmp name k.now) m n o →
    (w : List ℕ) → range_in_map n w ≡ cond (bytes_eq name w) o (range_in_map m w)
updated name m n o h w =
    ⊎_elim
    (λ y. subst (λ (l : List ℕ). range_in_map n l ≡ o) ((bytes_decides name w).0 y) h.1 ∙ sym (cond-true (bytes_eq name w) o (range_in_map m w) y))
    (λ d. other_entries _ _ _ _ h.3 _ (λ x y. (eq_by_cmp_equiv nat_list_cmp_total).congr w x.now y.now) (λ k. apart name w k.now d) ∙ sym (cond-false (bytes_eq name w) o (range_in_map m w) d))
    (cases_Bool (bytes_eq name w))

-- what the map has of a name stands there for its range; of another name the input changes nothing
noted : (n : List ℕ) (m : BTreeMap (Bor (List ℕ)) Allowed) (i : Input) →
    cond (bytes_eq i.name n) (Some (common (range_in_map m i.name) (type_range i.num))) (range_in_map m n) ≡ with_input n (range_in_map m n) i
unfolding with_input
noted n m i =
    ⊎_elim
    (λ y. subst (λ (l : List ℕ). cond (bytes_eq i.name l) (Some (common (range_in_map m i.name) (type_range i.num))) (range_in_map m l)
    ≡ cond (bytes_eq i.name l) (Some (common (range_in_map m l) (type_range i.num))) (range_in_map m l)) ((bytes_decides i.name n).0 y) refl)
    (λ d. rw d refl)
    (cases_Bool (bytes_eq i.name n))

pub range_step : (is : List Input) (k : ℕ) (x : Input) (name : List ℕ) (r : Allowed) (m m' : BTreeMap (Bor (List ℕ)) Allowed) → k < length is → x ≡ get_or is k x →
    name ≡ x.name → r ≡ common (range_in_map m name) (type_range x.num) →
    UpdatesBy (λ x y. slice_cmp nat_cmp x.now y.now) (λ k. slice_cmp nat_cmp name k.now) m m' (Some r) →
    (n : List ℕ) → range_with n (range_in_map m' n) (drop (k + 1) is) ≡ range_with n (range_in_map m n) (drop k is)
unfolding range_with
range_step is k x name r m m' h at named ranged u n =
    rw (drop-cons is k x h, sym at, add-one k, updated name m m' (Some r) u n, ranged, named, noted n m x) refl

pub range_end : (is : List Input) (k : ℕ) (n : List ℕ) (found : Option Allowed) → length is ≤ k → range_with n found (drop k is) ≡ found
unfolding range_with
range_end is k n found h = rw (drop_of_length-le is h) refl
