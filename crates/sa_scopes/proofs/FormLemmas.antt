-- What stands inside a shape, by its dimensions.
use Rattle.std.proofs.Common.{◌≡◌, ℕ, zero, suc, ◌+◌, List, [], ◌∷◌, drop, refl, ap, arith, Option, Some, None}
use Rattle.std.specs.Prelude.{slice_get}
use Rattle.sa_typed.specs.declared.shape.Plain.{Plain}
use Rattle.sa_scopes.specs.declared.form.Form.{Form}
use Rattle.sa_scopes.specs.declared.form.Form.TheVariants as form
use Rattle.sa_scopes.specs.Forms.{form_by}

pub form-array : (ns : List ℕ) (k n : ℕ) (p : Plain) → slice_get ns k ≡ Some n → form_by (drop k ns) p ≡ form.Array n
form-array [] k n p h = cc
form-array (m ∷ ns) zero n p h = let same : m ≡ n = cc in ap form.Array same
form-array (m ∷ ns) (suc k) n p h = form-array ns k n p h

pub form-plain : (ns : List ℕ) (k : ℕ) (p : Plain) → slice_get ns k ≡ None → form_by (drop k ns) p ≡ form_by [] p
form-plain [] zero p h = refl
form-plain [] (suc k) p h = refl
form-plain (m ∷ ns) zero p h = cc
form-plain (m ∷ ns) (suc k) p h = form-plain ns k p h

pub ruleset forms = (form-array, form-plain)
