-- What an object is at the outside: a number, a structure, or an array (ISO C 6.2.5p20).
use Rattle.std.specs.Prelude.{ℕ, List, [], ◌∷◌, drop, Option, Some, None, option_map}
use Rattle.sa_base.specs.declared.num.Num.{Num}
use Rattle.sa_typed.specs.declared.shape.Plain.{Plain}
use Rattle.sa_typed.specs.declared.shape.Plain.TheVariants as plain
use Rattle.sa_typed.specs.declared.shape.Shape.{Shape}
use Rattle.sa_scopes.specs.declared.form.Form.{Form}
use Rattle.sa_scopes.specs.declared.form.Form.TheVariants as form

abbrev pub form_by : List ℕ → Plain → Form
form_by [] (plain.Scalar num) = form.Scalar num
form_by [] (plain.Struct k) = form.Struct k
form_by (n ∷ ns) p = form.Array n

abbrev pub form_of : Shape → Form
form_of s = form_by s.dims s.plain

abbrev pub scalar : Num → Shape
scalar num = record { dims = []; plain = plain.Scalar num }

-- what stands so many dimensions inside
abbrev pub inside : ℕ → Shape → Shape
inside n s = record { dims = drop n s.dims; plain = s.plain }

-- the same of a shape that may not be known
abbrev pub form_inside : Option Shape → ℕ → Option Form
form_inside None n = None
form_inside (Some s) n = Some (form_of (inside n s))
