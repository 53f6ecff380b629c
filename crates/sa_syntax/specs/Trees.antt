-- Trees that have several parts, and the place of a text's first token.
use Rattle.std.specs.Prelude.{List, [], ◌∷◌, Option}
use Rattle.sa_base.specs.declared.pos.Pos.{Pos}
use Rattle.sa_tokens.specs.declared.token.Token.{Token}
use Rattle.sa_syntax.specs.declared.decl.Name.{Name}
use Rattle.sa_syntax.specs.declared.decl.Specifiers.{Specifiers, roll-Specifiers}
use Rattle.sa_syntax.specs.declared.decl.Qualified.{Qualified}
use Rattle.sa_syntax.specs.declared.decl.Qualifier.{Qualifier}
use Rattle.sa_syntax.specs.declared.decl.Base.{Base}
use Rattle.sa_syntax.specs.declared.decl.Struct.{Struct, roll-Struct}
use Rattle.sa_syntax.specs.declared.decl.Field.{Field, roll-Field}
use Rattle.sa_syntax.specs.declared.decl.Declr.{Declr, roll-Declr}
use Rattle.sa_syntax.specs.declared.decl.Bound.{Bound, roll-Bound}
use Rattle.sa_syntax.specs.declared.expr.Expr.{Expr}
use Rattle.sa_syntax.specs.declared.expr.Operator.{Operator}
use Rattle.sa_syntax.specs.declared.expr.Link.{Link, roll-Link}
use Rattle.sa_syntax.specs.declared.expr.Place.{Place, roll-Place}
use Rattle.sa_syntax.specs.declared.expr.PlaceBase.{PlaceBase}
use Rattle.sa_syntax.specs.declared.expr.Step.{Step}
use Rattle.sa_syntax.specs.declared.decl.Start.{Start}
use Rattle.sa_syntax.specs.declared.decl.InitDeclr.{InitDeclr}
use Rattle.sa_syntax.specs.declared.stmt.Call.{Call}
use Rattle.sa_syntax.specs.declared.stmt.Arg.{Arg}
use Rattle.sa_syntax.specs.declared.stmt.ArgValue.{ArgValue}
use Rattle.sa_syntax.specs.declared.stmt.Local.{Local}
use Rattle.sa_syntax.specs.declared.stmt.LocalDeclr.{LocalDeclr}
use Rattle.sa_syntax.specs.declared.stmt.LocalStart.{LocalStart}
use Rattle.sa_syntax.specs.declared.stmt.Stmt.{Stmt}
use Rattle.sa_syntax.specs.declared.stmt.Label.{Label}
use Rattle.sa_syntax.specs.declared.stmt.Group.{Group, roll-Group}
use Rattle.sa_syntax.specs.declared.stmt.BlockItem.{BlockItem}
use Rattle.sa_syntax.specs.declared.stmt.Block.{Block, roll-Block}
use Rattle.sa_syntax.specs.declared.unit.Param.{Param}
use Rattle.sa_syntax.specs.declared.unit.Item.{Item}
use Rattle.sa_syntax.specs.declared.unit.Unit.{Unit as Source}

abbrev pub link : Operator → Pos → Expr → Link
link op p a = roll-Link (record { op = op; pos = p; operand = a })

abbrev pub place : PlaceBase → List Step → Place
place b ss = roll-Place (record { base = b; steps = ss })

abbrev pub specifiers : Pos → List Qualified → Base → Specifiers
specifiers p qs b = roll-Specifiers (record { pos = p; qualifiers = qs; base = b })

abbrev pub qualified : Qualifier → Pos → Qualified
qualified q p = record { word = q; pos = p }

abbrev pub structure : Option Name → List Field → Struct
structure tag fs = roll-Struct (record { tag = tag; fields = fs })

abbrev pub field : Specifiers → List Declr → Field
field t ds = roll-Field (record { ty = t; declrs = ds })

abbrev pub declr : Name → List Bound → Declr
declr n bs = roll-Declr (record { name = n; bounds = bs })

abbrev pub bound : Pos → Expr → Bound
bound p a = roll-Bound (record { pos = p; size = a })

abbrev pub init_declr : Declr → Start → InitDeclr
init_declr d s = record { declr = d; start = s }

abbrev pub call : Name → List Arg → Call
call x xs = record { name = x; args = xs }

abbrev pub arg : Pos → ArgValue → Arg
arg p v = record { before = p; value = v }

abbrev pub local_declr : Declr → LocalStart → LocalDeclr
local_declr d s = record { declr = d; start = s }

abbrev pub local : Specifiers → List LocalDeclr → Local
local t ds = record { ty = t; declrs = ds }

abbrev pub group : List Label → List Stmt → Group
group ls ss = roll-Group (record { labels = ls; body = ss })

abbrev pub block : Pos → List BlockItem → Pos → Block
block p is q = roll-Block (record { «open» = p; items = is; close = q })

abbrev pub param : Specifiers → Option Pos → Option Name → Param
param t s x = record { ty = t; star = s; name = x }

abbrev pub source : List Item → Source
source is = record { items = is }

-- the place of the first token, where there is one
abbrev pub pos_of : List Token → Pos
pos_of [] = record { line = 1; col = 1 }
pos_of (t ∷ ts) = t.pos
