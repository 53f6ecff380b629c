-- No promise of the top calls rests on this page: it is for laws beside them, for proofs and for inner functions.
-- Linear forms: `+-x +-y + c` with at most two cells, each once (octagonal constraints: Miné 2006).
use Rattle.std.specs.Prelude.{ℕ, ◌==◌, ℤ, pos, ◌+ℤ◌, ◌-ℤ◌, Bool, true, false, not, List, [], ◌∷◌, ◌++◌, if◌then◌else◌, Option, Some, None}
use Rattle.sa_env.specs.declared.form.Form.{Form}
use Rattle.sa_env.specs.declared.form.Term.{Term}

abbrev pub constant : ℤ → Form
constant c = record { first = None; second = None; c = c }

abbrev pub of_cell : ℕ → Form
of_cell k = record { first = Some (record { plus = true; cell = k }); second = None; c = pos 0 }

abbrev pub listed : Option Term → List Term
listed None = []
listed (Some t) = t ∷ []

abbrev pub terms : Form → List Term
terms f = listed f.first ++ listed f.second

-- the form with these terms, where they are at most two of distinct cells
unfoldable pub form_of : List Term → ℤ → Option Form
form_of [] c = Some (record { first = None; second = None; c = c })
form_of (a ∷ []) c = Some (record { first = Some a; second = None; c = c })
form_of (a ∷ b ∷ []) c = if a.cell == b.cell then None else Some (record { first = Some a; second = Some b; c = c })
form_of (a ∷ b ∷ t ∷ ts) c = None

abbrev pub turned_about : Term → Term
turned_about t = record { plus = not t.plus; cell = t.cell }

abbrev pub turned : Option Term → Option Term
turned None = None
turned (Some t) = Some (turned_about t)

abbrev pub negative : Form → Form
negative f = record { first = turned f.first; second = turned f.second; c = pos 0 -ℤ f.c }

unfoldable pub sum_form : Form → Form → Option Form
sum_form f g = form_of (terms f ++ terms g) (f.c +ℤ g.c)

abbrev pub difference_form : Form → Form → Option Form
difference_form f g = sum_form f (negative g)

-- ---- its number, where the cells have these
abbrev pub signed : Bool → ℤ → ℤ
signed true z = z
signed false z = pos 0 -ℤ z

abbrev pub term_number : Option Term → (ℕ → ℤ) → ℤ
term_number None at = pos 0
term_number (Some t) at = signed t.plus (at t.cell)

abbrev pub form_number : Form → (ℕ → ℤ) → ℤ
form_number f at = term_number f.first at +ℤ (term_number f.second at +ℤ f.c)
