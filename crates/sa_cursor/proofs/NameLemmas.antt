-- A set of names after one more.
use Rattle.std.proofs.Common.{◌≡◌, ℕ, List, [], ◌∷◌, ◌++◌, Bool, true, false, refl, ap, sym, subst, ◌∙◌, Some, ⊎_elim}
use Rattle.std.specs.Prelude.{Vec, ◌||◌, reverse, Result, Ok, Err, OnOk}
use Rattle.std.specs.Result.{is_err}
use Rattle.std.specs.Option.{is_some}
use Rattle.std.specs.Str.{bytes_eq}
use Rattle.std.specs.Ordering.{is_eq, nat_cmp}
use Rattle.std.specs.Cmp.{eq_by_cmp_equiv}
use Rattle.std.specs.Cmp.Lexicographic.{slice_cmp, bytes_decides, nat_list_cmp_total, nat_list_eq_equiv}
use Rattle.std.specs.Map.{lookup, IsKeyTest, AreApart, KeepsOthers}
use Rattle.std.specs.BTreeMap.{BTreeMap, UpdatesBy}
use Rattle.std.proofs.lemmas.Bool.{true≢false, cases_Bool}
use Rattle.std.proofs.lemmas.Map.Text.{is_eq-slice_cmp}
use Rattle.std.proofs.lemmas.List.{reverse-append}
use Rattle.sa_syntax.specs.Words.{Names, is_type_name}
use Rattle.sa_cursor.specs.Known.{is_known, Knows}

apart : (bs cs ks : List ℕ) → bytes_eq bs cs ≡ false → is_eq (slice_cmp nat_cmp bs ks) ≡ true → is_eq (slice_cmp nat_cmp cs ks) ≡ false
apart bs cs ks n y =
    is_eq-slice_cmp cs ks ∙ nat_list_eq_equiv.symm cs ks ∙ sym (nat_list_eq_equiv.congr bs ks cs (sym (is_eq-slice_cmp bs ks) ∙ y)) ∙ n

other_entries : {K X : Type 0} (eq : K → K → Bool) (test : K → Bool) (old new : List (K × X)) → KeepsOthers eq test old new → (other : K → Bool) → IsKeyTest eq other → AreApart test other → lookup other new ≡ lookup other old
unfolding KeepsOthers
other_entries eq test old new h = h

-- after an insertion at a name
pub known-updated : {Y X : Type 0} (name : List ℕ) (m n : BTreeMap (Vec ℕ Y) X) (x : X) →
    UpdatesBy (λ x y. slice_cmp nat_cmp x.items y.items) (λ k. slice_cmp nat_cmp name k.items) m n (Some x) →
    (w : List ℕ) → is_known n w ≡ (bytes_eq name w || is_known m w)
known-updated {Y} {X} name m n x h w =
    ⊎_elim
    (λ y. subst (λ (l : List ℕ). is_known n l ≡ true) ((bytes_decides name w).0 y) (ap is_some h.1) ∙ ap (λ b. b || is_known m w) (sym y))
    (λ d. ap is_some (other_entries _ _ _ _ h.3 _ (λ x y. (eq_by_cmp_equiv nat_list_cmp_total).congr w x.items y.items) (λ k. apart name w k.items d)) ∙ ap (λ b. b || is_known m w) (sym d))
    (cases_Bool (bytes_eq name w))

pub knows_none : (w : List ℕ) → is_type_name [] w ≡ false
unfolding is_type_name
knows_none w = refl

knows_first : (ns : Names) (n w : List ℕ) → is_type_name (n ∷ ns) w ≡ (bytes_eq w n || is_type_name ns w)
unfolding is_type_name
knows_first ns n w = refl

pub last_first : (xs : List (List ℕ)) (x : List ℕ) → reverse (xs ++ x ∷ []) ≡ x ∷ reverse xs
last_first xs x = reverse-append xs (x ∷ [])

pub at_ok : {T E P : Type 0} (r : Result T E) → is_err r ≡ false → OnOk r P → P
at_ok (Ok x) h p = p
at_ok (Err e) h p = absurd (true≢false h)

-- a name was added to the list and to the set
pub noted : {Y X : Type 0} (xs ys : List (List ℕ)) (m n : BTreeMap (Vec ℕ Y) X) (name text : List ℕ) → text ≡ name → ys ≡ xs ++ text ∷ [] →
    Knows m (reverse xs) → ((w : List ℕ) → is_known n w ≡ (bytes_eq name w || is_known m w)) → Knows n (reverse ys)
noted xs ys m n name text e added old new w =
    new w ∙ ap (λ b. bytes_eq name w || b) (old w) ∙ ap (λ b. b || is_type_name (reverse xs) w) (nat_list_eq_equiv.symm name w) ∙
    sym (knows_first (reverse xs) name w) ∙ ap (λ (ns : Names). is_type_name ns w) (sym (ap reverse (added ∙ ap (λ t. xs ++ t ∷ []) e) ∙ last_first xs name))
