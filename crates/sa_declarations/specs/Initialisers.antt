-- Initialisers (ISO C 6.7.8). Braces stand exactly where an array or a structure is, items are constant and within the type of
-- their element, and missing ones are 0; that they stand for nothing else is this project's own choice.
use Rattle.std.specs.Prelude.{ℕ, ◌≡◌, ◌+◌, ℤ, pos, List, [], ◌∷◌, ◌++◌, Bool, true, false, if◌then◌else◌, map, replicate, slice_get, Option, Some, None, Result, Ok, Err}
use Rattle.std.specs.declared.alloc.AllocError.{AllocError as OutOfMemory}
use Rattle.std.specs.Ordering.{int_eq}
use Rattle.sa_base.specs.declared.num.Num.{Num}
use Rattle.sa_base.specs.declared.num.Num.TheVariants.{I32}
use Rattle.sa_base.specs.declared.pos.Pos.{Pos}
use Rattle.sa_syntax.specs.declared.decl.Init.{Init, Value, Braces', Row_of-Init, end_of-Init, more_of-Init}
use Rattle.sa_typed.specs.Arithmetic.{is_of}
use Rattle.sa_typed.specs.declared.shape.Shape.{Shape}
use Rattle.sa_scopes.specs.declared.form.Form.{Form}
use Rattle.sa_scopes.specs.declared.form.Form.TheVariants as form
use Rattle.sa_declarations.specs.declared.initial.Values.{Values}
use Rattle.sa_operands.specs.declared.operand.Operand.{Operand}
use Rattle.sa_scopes.specs.declared.typer.Typer.{Typer}
use Rattle.sa_scopes.specs.First.{expr_pos}
use Rattle.sa_scopes.specs.Forms.{form_of, scalar}
use Rattle.sa_scopes.specs.Structures.{slot, missing, kept}
use Rattle.sa_scopes.specs.Values.{constant}
use Rattle.sa_operands.specs.Operands.{known_value, no_object}
use Rattle.sa_operands.specs.Expressions.{expr}
use Rattle.sa_scopes.specs.Typing.{Typed, Typing, Gives, ◌>>=◌, ◌>>◌, pure, refuse}

abbrev pub within : Pos → Num → Option ℤ → Typing ℤ
within p num None = pure (pos 0)
within p num (Some z) = if is_of num z then pure z else (refuse 20 p >> pure (pos 0))

-- the value of an item for an element of that type, with its first token at that place
unfoldable pub item : Pos → Num → Operand → Typing ℤ
item p num x = no_object x >> (constant p (known_value x) >>= within p num)

-- an expression for an object, after the values so far
abbrev pub valued : Pos → Form → Operand → List ℤ → Typing (List ℤ)
valued p (form.Scalar num) x found = item p num x >>= (λ z. pure (found ++ z ∷ []))
valued p _ x found = refuse 20 p >> pure found

abbrev pub zeros : ℕ → List ℤ
zeros n = replicate n (pos 0)

-- an item of braces that stand at that place, given what it is typed as for its slot; one too many is refused there, and counts
-- as one for an int
abbrev pub slotted : Pos → Option Shape → (Shape → Typing (List ℤ)) → Typing (List ℤ)
slotted p None m = refuse 20 p >> m (scalar I32)
slotted p (Some shape) m = m shape

unfoldable mutual
  -- the values of the elements, in their order, after those so far
  pub init : Init → Shape → List ℤ → Typing (List ℤ)
  init (Value e) shape found = expr e >>= (λ x. valued (expr_pos e) (form_of shape) x found)
  init (Braces' p n row) shape found = braced row p shape 0 found

  -- the items between braces from the one with that number on; each that is missing is 0
  pub braced : {n : _} → Row_of-Init n → Pos → Shape → ℕ → List ℤ → Typing (List ℤ)
  braced end_of-Init p shape k found = λ s. Gives (found ++ zeros (missing s.structs shape k)) s
  braced (more_of-Init i rest) p shape k found = (λ s. slotted p (slot s.structs shape k) (λ inner. init i inner found) s) >>= braced rest p shape (k + 1)

-- the item with that number
abbrev pub nth_item : Init → Pos → Shape → ℕ → List ℤ → Typing (List ℤ)
nth_item i p shape k found = λ s. slotted p (slot s.structs shape k) (λ inner. init i inner found) s

-- the items as a list
unfoldable pub items : List Init → Pos → Shape → ℕ → List ℤ → Typing (List ℤ)
items [] p shape k found = λ s. Gives (found ++ zeros (missing s.structs shape k)) s
items (i ∷ is) p shape k found = nth_item i p shape k found >>= items is p shape (k + 1)

-- ---- without the zeros at the end
abbrev pub is_zero : ℤ → Bool
is_zero z = int_eq z (pos 0)

abbrev pub before_zeros : ℤ → List ℤ → List ℤ
before_zeros z [] = if is_zero z then [] else (z ∷ [])
before_zeros z (y ∷ ys) = z ∷ y ∷ ys

unfoldable pub trimmed : List ℤ → List ℤ
trimmed [] = []
trimmed (z ∷ zs) = before_zeros z (trimmed zs)

-- the values of an object that braces or an expression begin with, without the zeros at the end
unfoldable pub values : Init → Shape → Typing (List ℤ)
values i shape = init i shape [] >>= (λ zs. pure (trimmed zs))

-- ---- values as the code keeps them
-- the zeros at the end are only counted, and the greatest count stands for all that are as large
pub record Stands (v : Values) (zs : List ℤ) : Type 0 where
  pub count : ℕ
  pub kept : v.pending ≡ kept count
  pub is : v.written ++ zeros count ≡ zs
  pub ends : trimmed v.written ≡ v.written

-- what a function ensures that gives values, unless memory lacks
pub record IsGiven (t : Typed (List ℤ)) (v : Values) (new : Typer) : Type 0 where
  pub values : List ℤ
  pub is : t ≡ Gives values new
  pub stands : Stands v values

abbrev pub GivesValues : Typed (List ℤ) → Result Values OutOfMemory → Typer → Type 0
GivesValues t (Ok v) new = IsGiven t v new
GivesValues t (Err e) new = Unit {0}
