-- A type that is a struct alone has no qualifiers.
use Rattle.std.proofs.Common.{◌≡◌, List, [], ◌∷◌, refl, true}
use Rattle.std.specs.Prelude.{Option}
use Rattle.sa_syntax.specs.declared.decl.Qualified.{Qualified}
use Rattle.sa_syntax.specs.declared.decl.Struct.{Struct}
use Rattle.sa_parser.specs.Parts.{is_some}
use Rattle.sa_syntax.specs.ReadStmt.{if_bare}

pub struct_bare : (qs : List Qualified) (x : Option Struct) → is_some (if_bare qs x) ≡ true → if_bare qs x ≡ x
struct_bare [] x h = refl
struct_bare (q ∷ qs) x h = cc
