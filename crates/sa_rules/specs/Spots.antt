-- Places up to one of their steps.
use Rattle.std.specs.Prelude.{ℕ, ◌+◌, ◌==◌, not, List, ◌&&◌, ◌||◌, Bool, true, false, slice_get, Option, Some, None}
use Rattle.sa_typed.specs.declared.shape.Shape.{Shape}
use Rattle.sa_scopes.specs.declared.form.Form.{Form}
use Rattle.sa_scopes.specs.declared.form.Form.TheVariants as form
use Rattle.sa_scopes.specs.declared.structs.Member.{Member}
use Rattle.sa_scopes.specs.Forms.{scalar, form_inside}
use Rattle.sa_scopes.specs.Structures.{Structs, member_of}
use Rattle.sa_rules.specs.Scenes.{Meaning, Variable, Input, Of_shape, Scene}

-- the shape of the variable or field that was stepped to last, where that is known, and how many of its dimensions were stepped
-- into since; whether what stands there may not be assigned to; and whether all indices so far are constant
pub record Spot : Type 0 where
  pub shape : Option Shape
  pub depth : ℕ
  pub locked : Bool
  pub fixed : Bool

abbrev pub nowhere : Spot
nowhere = record { shape = None; depth = 0; locked = false; fixed = true }

-- ---- where a place begins: an input isn't assigned to
abbrev pub spot_of : Option Of_shape → Spot
spot_of None = nowhere
spot_of (Some o) = record { shape = Some o.shape; depth = 0; locked = o.constant; fixed = true }

abbrev pub meant_spot : Scene → Option Meaning → Spot
meant_spot v (Some (Variable k)) = spot_of (slice_get v.variables k)
meant_spot v (Some (Input num)) = record { shape = Some (scalar num); depth = 0; locked = true; fixed = true }
meant_spot v _ = nowhere

-- ---- steps
-- what stands there at the outside, where that is known
abbrev pub form_at : Spot → Option Form
form_at l = form_inside l.shape l.depth

abbrev pub lost : Spot → Spot
lost l = record l { shape = None }

abbrev pub element_by : Option Form → Spot → Spot
element_by (Some (form.Array n)) l = record l { depth = l.depth + 1 }
element_by _ l = lost l

-- after an index, and whether that is constant
abbrev pub indexed : Bool → Spot → Spot
indexed constant l = element_by (form_at l) (record l { fixed = l.fixed && constant })

abbrev pub member_spot : Option Member → Spot → Spot
member_spot None l = lost l
member_spot (Some f) l = record { shape = Some f.shape; depth = 0; locked = l.locked || f.constant; fixed = l.fixed }

abbrev pub field_by : Structs → List ℕ → Option Form → Spot → Spot
field_by s w (Some (form.Struct k)) l = member_spot (member_of s k w) l
field_by s w _ l = lost l

-- after a field's name
abbrev pub stepped : Structs → List ℕ → Spot → Spot
stepped s w l = field_by s w (form_at l) l

-- whether there is a structure that has no such field
abbrev pub is_none : Option Member → Bool
is_none None = true
is_none (Some f) = false

abbrev pub lacks_by : Structs → List ℕ → Option Form → Bool
lacks_by s w (Some (form.Struct k)) = is_none (member_of s k w)
lacks_by s w _ = false

abbrev pub lacks : Structs → List ℕ → Spot → Bool
lacks s w l = lacks_by s w (form_at l)

-- whether one structure is copied to another one, or an index on either side varies
abbrev pub is_ill_copied : Spot → Spot → Option Form → Option Form → Bool
is_ill_copied l r (Some (form.Struct k)) (Some (form.Struct j)) = not (k == j && l.fixed && r.fixed)
is_ill_copied l r _ _ = false

abbrev pub differs : Spot → Spot → Bool
differs l r = is_ill_copied l r (form_at l) (form_at r)
