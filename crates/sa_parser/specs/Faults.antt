-- What a fault of the parser says of the tokens.
use Rattle.std.specs.Prelude.{◌≡◌, List, ⊤}
use Rattle.sa_base.specs.declared.pos.Pos.{Pos}
use Rattle.sa_tokens.specs.declared.token.Token.{Token}
use Rattle.sa_syntax.specs.Refusals.{IsTooDeep, HasNoTextFrom}
use Rattle.sa_parser.specs.declared.fault.ParseFault.{ParseFault}
use Rattle.sa_parser.specs.declared.fault.ParseFault.TheVariants.{Syntax, TooDeep, OutOfMemory}

abbrev pub IsFault : List Token → Pos → ParseFault → Type 0
IsFault ts end (Syntax p) = HasNoTextFrom end ts p
IsFault ts end (TooDeep p) = (d : IsTooDeep ts) × (p ≡ d.token.pos)
IsFault ts end OutOfMemory = ⊤
