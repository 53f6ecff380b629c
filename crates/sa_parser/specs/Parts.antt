-- No promise of the top calls rests on this page: it is for laws beside them, for proofs and for inner functions.
-- Parts of items and of their refusals that the parser has functions of its own for.
use Rattle.std.specs.Prelude.{if◌then◌else◌, List, Bool, true, false, Option, Some, None}
use Rattle.sa_base.specs.declared.pos.Pos.{Pos}
use Rattle.sa_tokens.specs.declared.token.Token.{Token}
use Rattle.sa_tokens.specs.declared.punct.Punct.TheVariants as m
use Rattle.sa_syntax.specs.declared.decl.Struct.{Struct}
use Rattle.sa_syntax.specs.declared.unit.Item.{Item}
use Rattle.sa_syntax.specs.declared.unit.Item.TheVariants as top
use Rattle.sa_syntax.specs.Reading.{Parser, ◌>>=◌, Got, pure, refuse, expect, sees, after}
use Rattle.sa_cursor.specs.declared.fault.Stop.{Stop}
use Rattle.sa_cursor.specs.declared.fault.Stop.TheVariants as s
use Rattle.sa_parser.specs.declared.fault.ParseFault.{ParseFault}
use Rattle.sa_parser.specs.declared.fault.ParseFault.TheVariants.{Syntax, TooDeep, OutOfMemory}

abbrev pub is_some : {A : Type 0} → Option A → Bool
is_some None = false
is_some (Some _) = true

abbrev pub star : Parser (Option Pos)
star ts = if sees m.Star ts then (expect m.Star >>= (λ p. pure (Some p))) ts else Got None ts

abbrev pub struct_item : Pos → Option Struct → Parser Item
struct_item p None = refuse
struct_item p (Some x) = λ ts. Got (top.Struct p x) (after ts)

-- ---- refusals
abbrev pub fault_at : Stop → Pos → ParseFault
fault_at s.Syntax p = Syntax p
fault_at s.TooDeep p = TooDeep p
fault_at s.OutOfMemory p = OutOfMemory

-- the place of a token, or the end
abbrev pub place_of : Pos → Option Token → Pos
place_of end None = end
place_of end (Some t) = t.pos
