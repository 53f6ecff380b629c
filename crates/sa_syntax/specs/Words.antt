-- Tokens as the grammar writes them, and which words are operators, qualifiers and types.
use Rattle.std.specs.Prelude.{ℕ, ◌&&◌, List, [], ◌∷◌, Bool, true, false, Option, Some, None}
use Rattle.std.specs.List.{list_any}
use Rattle.std.specs.Str.{bytes_eq}
use Rattle.sa_base.specs.declared.pos.Pos.{Pos}
use Rattle.sa_tokens.specs.declared.keyword.Keyword.{Keyword}
use Rattle.sa_tokens.specs.declared.keyword.Keyword.TheVariants as k
use Rattle.sa_tokens.specs.declared.punct.Punct.{Punct}
use Rattle.sa_tokens.specs.declared.punct.Punct.TheVariants as m
use Rattle.sa_tokens.specs.declared.token.Word.{Word}
use Rattle.sa_tokens.specs.declared.token.Word.TheVariants.{Name, Number, Key, Mark}
use Rattle.sa_tokens.specs.declared.token.Token.{Token}
use Rattle.sa_syntax.specs.declared.decl.Name.{Name as Named}
use Rattle.sa_syntax.specs.declared.decl.Qualifier.{Qualifier}
use Rattle.sa_syntax.specs.declared.decl.Qualifier.TheVariants as q
use Rattle.sa_syntax.specs.declared.decl.ScalarWord.{ScalarWord}
use Rattle.sa_syntax.specs.declared.decl.ScalarWord.TheVariants as s
use Rattle.sa_syntax.specs.declared.stmt.Compound.{Compound}
use Rattle.sa_syntax.specs.declared.stmt.Compound.TheVariants as c
use Rattle.sa_syntax.specs.declared.stmt.Update.{Update}
use Rattle.sa_syntax.specs.declared.stmt.Update.TheVariants as t
use Rattle.sa_syntax.specs.declared.expr.Operator.{Operator}
use Rattle.sa_syntax.specs.declared.expr.Operator.TheVariants as o
use Rattle.sa_syntax.specs.declared.expr.Prefix.{Prefix}
use Rattle.sa_syntax.specs.declared.expr.Prefix.TheVariants as p

abbrev pub mark : Punct → Pos → Token
mark m at = record { word = Mark m; pos = at }

abbrev pub key : Keyword → Pos → Token
key k at = record { word = Key k; pos = at }

abbrev pub word : List ℕ → Pos → Token
word w at = record { word = Name w; pos = at }

abbrev pub literal : ℕ → Bool → ℕ → Bool → Pos → Token
literal v u l d at = record { word = Number v u l d; pos = at }

abbrev pub named : List ℕ → Pos → Named
named w at = record { text = w; pos = at }

-- the type names that are declared so far
abbrev pub Names : Type 0
Names = List (List ℕ)

unfoldable pub is_type_name : Names → List ℕ → Bool
is_type_name ns w = list_any (bytes_eq w) ns

-- ISO C 6.5.3.3
abbrev pub prefix_of : Punct → Option Prefix
prefix_of m.Minus = Some p.Minus
prefix_of m.Plus = Some p.Plus
prefix_of m.Tilde = Some p.Complement
prefix_of m.Bang = Some p.Not
prefix_of _ = None

-- the binary operators, ISO C 6.5.5 to 6.5.14
abbrev pub operator_of : Punct → Option Operator
operator_of m.BarBar = Some o.Or
operator_of m.AmpersandAmpersand = Some o.And
operator_of m.Bar = Some o.BitOr
operator_of m.Caret = Some o.BitXor
operator_of m.Ampersand = Some o.BitAnd
operator_of m.EqualEqual = Some o.Equal
operator_of m.BangEqual = Some o.NotEqual
operator_of m.Less = Some o.Less
operator_of m.LessEqual = Some o.LessEqual
operator_of m.Greater = Some o.Greater
operator_of m.GreaterEqual = Some o.GreaterEqual
operator_of m.ShiftLeft = Some o.ShiftLeft
operator_of m.ShiftRight = Some o.ShiftRight
operator_of m.Plus = Some o.Plus
operator_of m.Minus = Some o.Minus
operator_of m.Star = Some o.Times
operator_of m.Slash = Some o.Divide
operator_of m.Percent = Some o.Remainder
operator_of _ = None

-- their levels, from the tightest, 1, to the loosest, 10
abbrev pub level_of : Operator → ℕ
level_of o.Times = 1
level_of o.Divide = 1
level_of o.Remainder = 1
level_of o.Plus = 2
level_of o.Minus = 2
level_of o.ShiftLeft = 3
level_of o.ShiftRight = 3
level_of o.Less = 4
level_of o.LessEqual = 4
level_of o.Greater = 4
level_of o.GreaterEqual = 4
level_of o.Equal = 5
level_of o.NotEqual = 5
level_of o.BitAnd = 6
level_of o.BitXor = 7
level_of o.BitOr = 8
level_of o.And = 9
level_of o.Or = 10

abbrev pub loosest : ℕ
loosest = 10

abbrev pub qualifier_of : Keyword → Option Qualifier
qualifier_of k.Const = Some q.Const
qualifier_of k.Volatile = Some q.Volatile
qualifier_of k.Static = Some q.Static
qualifier_of _ = None

abbrev pub scalar_of : Keyword → Option ScalarWord
scalar_of k.Char = Some s.Char
scalar_of k.Int = Some s.Int
scalar_of k.Long = Some s.Long
scalar_of k.Short = Some s.Short
scalar_of k.Signed = Some s.Signed
scalar_of k.Unsigned = Some s.Unsigned
scalar_of _ = None

-- `*`, a name and `)` after an opening bracket: a place through a reference
abbrev pub is_close : Word → Bool
is_close (Mark m.CloseParen) = true
is_close _ = false

abbrev pub is_name_and_close : List Token → Bool
is_name_and_close (t ∷ c ∷ ts) = elim t.word as (λ _. Bool) [ Name w ↦ is_close c.word | Number v u l d ↦ false | Key k ↦ false | Mark m ↦ false ]
is_name_and_close _ = false

abbrev pub is_star : Word → Bool
is_star (Mark m.Star) = true
is_star _ = false

unfoldable pub is_through : List Token → Bool
is_through [] = false
is_through (t ∷ ts) = is_star t.word && is_name_and_close ts

-- ISO C 6.5.16.2
abbrev pub compound_of : Punct → Option Compound
compound_of m.PlusEqual = Some c.Plus
compound_of m.MinusEqual = Some c.Minus
compound_of m.StarEqual = Some c.Times
compound_of m.SlashEqual = Some c.Divide
compound_of m.PercentEqual = Some c.Remainder
compound_of m.ShiftLeftEqual = Some c.ShiftLeft
compound_of m.ShiftRightEqual = Some c.ShiftRight
compound_of m.AmpersandEqual = Some c.BitAnd
compound_of m.CaretEqual = Some c.BitXor
compound_of m.BarEqual = Some c.BitOr
compound_of _ = None

abbrev pub update_of : Punct → Option Update
update_of m.PlusPlus = Some t.Increment
update_of m.MinusMinus = Some t.Decrement
update_of _ = None

abbrev pub begins_with_star : List Token → Bool
begins_with_star [] = false
begins_with_star (t ∷ ts) = is_star t.word

abbrev pub is_else : Word → Bool
is_else (Key k.Else) = true
is_else _ = false

abbrev pub begins_with_else : List Token → Bool
begins_with_else [] = false
begins_with_else (t ∷ ts) = is_else t.word

abbrev pub is_label : Word → Bool
is_label (Key k.Case) = true
is_label (Key k.Default) = true
is_label _ = false

abbrev pub begins_with_label : List Token → Bool
begins_with_label [] = false
begins_with_label (t ∷ ts) = is_label t.word

abbrev pub is_void : Word → Bool
is_void (Key k.Void) = true
is_void _ = false

abbrev pub begins_with_close : List Token → Bool
begins_with_close [] = false
begins_with_close (t ∷ ts) = is_close t.word

-- `void` and `)`: the empty list of parameters
unfoldable pub is_void_alone : List Token → Bool
is_void_alone [] = false
is_void_alone (t ∷ ts) = is_void t.word && begins_with_close ts
