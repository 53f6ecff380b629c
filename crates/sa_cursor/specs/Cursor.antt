-- No promise of the top calls rests on this page: it is for laws beside them, for proofs and for inner functions.
-- What a cursor shows of the token at the front.
use Rattle.std.specs.Prelude.{ℕ, List, [], ◌∷◌, Bool, true, false, Option, Some, None}
use Rattle.sa_tokens.specs.declared.token.Word.{Word}
use Rattle.sa_tokens.specs.declared.token.Word.TheVariants.{Name, Number, Key, Mark}
use Rattle.sa_tokens.specs.declared.token.Token.{Token}
use Rattle.sa_syntax.specs.declared.expr.Expr.{Expr}
use Rattle.sa_syntax.specs.declared.expr.Expr.TheVariants as e
use Rattle.sa_syntax.specs.Trees.{pos_of}
use Rattle.sa_syntax.specs.Reading.{Got, Stuck, Parser, after}

abbrev pub Literal : Type 0
Literal = ℕ × Bool × ℕ × Bool

abbrev pub number_by : Word → Option Literal
number_by (Number v u l d) = Some (v, u, l, d)
number_by (Name w) = None
number_by (Key k) = None
number_by (Mark m) = None

-- the integer constant at the front
unfoldable pub number_at : List Token → Option Literal
number_at [] = None
number_at (t ∷ ts) = number_by t.word

abbrev pub as_number : Option Literal → Parser Expr
as_number None ts = Stuck ts
as_number (Some x) ts = Got (e.Number x.0 x.1 x.2 x.3 (pos_of ts)) (after ts)

unfoldable pub number : Parser Expr
number ts = as_number (number_at ts) ts

-- whether no token is left
abbrev pub is_end : List Token → Bool
is_end [] = true
is_end (t ∷ ts) = false
