-- Sums of forms in the cases that the code tells apart.
use Rattle.std.proofs.Common.{◌≡◌, ℤ, ◌+ℤ◌, ◌++◌, refl, sym, ap, ◌∙◌, Bool, true, false, Option, Some, None}
use Rattle.std.specs.Prelude.{if◌then◌else◌}
use Rattle.sa_env.specs.declared.form.Form.{Form}
use Rattle.sa_env.specs.declared.form.Term.{Term}
use Rattle.sa_flat.specs.Forms.{listed, terms, form_of, sum_form}
use Rattle.sa_effects.specs.Values.{alone, has_none, sum_of_both}

terms_sum : (a b x y : Option Term) (c : ℤ) →
    (if has_none a b then form_of (listed x ++ listed y) c else (if has_none x y then form_of (listed a ++ listed b) c else sum_of_both (alone a b) (alone x y) c))
    ≡ form_of ((listed a ++ listed b) ++ (listed x ++ listed y)) c
unfolding form_of
terms_sum None None x y c = refl
terms_sum None (Some b) None None c = refl
terms_sum None (Some b) None (Some y) c = refl
terms_sum None (Some b) (Some x) None c = refl
terms_sum None (Some b) (Some x) (Some y) c = refl
terms_sum (Some a) None None None c = refl
terms_sum (Some a) None None (Some y) c = refl
terms_sum (Some a) None (Some x) None c = refl
terms_sum (Some a) None (Some x) (Some y) c = refl
terms_sum (Some a) (Some b) None None c = refl
terms_sum (Some a) (Some b) None (Some y) c = refl
terms_sum (Some a) (Some b) (Some x) None c = refl
terms_sum (Some a) (Some b) (Some x) (Some y) c = refl

module _ (f g : Form) (c : ℤ) (same : c ≡ f.c +ℤ g.c) where
  sum_is : (if has_none f.first f.second then form_of (listed g.first ++ listed g.second) c
      else (if has_none g.first g.second then form_of (listed f.first ++ listed f.second) c else sum_of_both (alone f.first f.second) (alone g.first g.second) c))
      ≡ sum_form f g
  unfolding sum_form
  sum_is = terms_sum f.first f.second g.first g.second c ∙ ap (λ (c : ℤ). form_of (terms f ++ terms g) c) same

  pub sum_second : has_none f.first f.second ≡ true → form_of (listed g.first ++ listed g.second) c ≡ sum_form f g
  sum_second h = sym (ap (λ (b : Bool). if b then form_of (listed g.first ++ listed g.second) c
      else (if has_none g.first g.second then form_of (listed f.first ++ listed f.second) c else sum_of_both (alone f.first f.second) (alone g.first g.second) c)) h) ∙ sum_is

  pub sum_first : has_none f.first f.second ≡ false → has_none g.first g.second ≡ true → form_of (listed f.first ++ listed f.second) c ≡ sum_form f g
  sum_first h k = sym (ap (λ (b : Bool). if b then form_of (listed g.first ++ listed g.second) c
      else (if has_none g.first g.second then form_of (listed f.first ++ listed f.second) c else sum_of_both (alone f.first f.second) (alone g.first g.second) c)) h
      ∙ ap (λ (b : Bool). if b then form_of (listed f.first ++ listed f.second) c else sum_of_both (alone f.first f.second) (alone g.first g.second) c) k) ∙ sum_is

  pub sum_both : has_none f.first f.second ≡ false → has_none g.first g.second ≡ false → sum_of_both (alone f.first f.second) (alone g.first g.second) c ≡ sum_form f g
  sum_both h k = sym (ap (λ (b : Bool). if b then form_of (listed g.first ++ listed g.second) c
      else (if has_none g.first g.second then form_of (listed f.first ++ listed f.second) c else sum_of_both (alone f.first f.second) (alone g.first g.second) c)) h
      ∙ ap (λ (b : Bool). if b then form_of (listed f.first ++ listed f.second) c else sum_of_both (alone f.first f.second) (alone g.first g.second) c) k) ∙ sum_is
