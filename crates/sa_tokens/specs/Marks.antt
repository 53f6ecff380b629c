-- The marks (ISO C 6.4.6).
use Rattle.std.specs.Prelude.{ℕ, List, [], ◌∷◌, if◌then◌else◌, codes, length, Option, Some, None}
use Rattle.sa_tokens.specs.declared.mark.Mark.{Mark}
use Rattle.sa_tokens.specs.declared.punct.Punct.{Punct}
use Rattle.sa_tokens.specs.declared.punct.Punct.TheVariants as p
use Rattle.sa_tokens.specs.Bytes.{begins}

-- the longer ones first
abbrev pub marks : List (List ℕ × Punct)
marks =
    (codes "<<=", p.ShiftLeftEqual) ∷ (codes ">>=", p.ShiftRightEqual) ∷
    (codes "->", p.Arrow) ∷ (codes "&&", p.AmpersandAmpersand) ∷ (codes "++", p.PlusPlus) ∷ (codes "--", p.MinusMinus) ∷
    (codes "!=", p.BangEqual) ∷ (codes "<=", p.LessEqual) ∷ (codes "<<", p.ShiftLeft) ∷ (codes ">=", p.GreaterEqual) ∷
    (codes ">>", p.ShiftRight) ∷ (codes "==", p.EqualEqual) ∷ (codes "||", p.BarBar) ∷ (codes "+=", p.PlusEqual) ∷
    (codes "-=", p.MinusEqual) ∷ (codes "*=", p.StarEqual) ∷ (codes "/=", p.SlashEqual) ∷ (codes "%=", p.PercentEqual) ∷
    (codes "&=", p.AmpersandEqual) ∷ (codes "|=", p.BarEqual) ∷ (codes "^=", p.CaretEqual) ∷
    (codes ";", p.Semicolon) ∷ (codes ",", p.Comma) ∷ (codes "(", p.OpenParen) ∷ (codes ")", p.CloseParen) ∷
    (codes "=", p.Equal) ∷ (codes "[", p.OpenBracket) ∷ (codes "]", p.CloseBracket) ∷ (codes "{", p.OpenBrace) ∷
    (codes "}", p.CloseBrace) ∷ (codes ".", p.Dot) ∷ (codes "&", p.Ampersand) ∷ (codes "*", p.Star) ∷
    (codes "+", p.Plus) ∷ (codes "-", p.Minus) ∷ (codes "~", p.Tilde) ∷ (codes "!", p.Bang) ∷ (codes "/", p.Slash) ∷
    (codes "%", p.Percent) ∷ (codes "<", p.Less) ∷ (codes ">", p.Greater) ∷ (codes "^", p.Caret) ∷ (codes "|", p.Bar) ∷
    (codes "?", p.Question) ∷ (codes ":", p.Colon) ∷ []

-- the first row whose spelling the text begins with
abbrev pub first_mark : List (List ℕ × Punct) → List ℕ → Option Mark
first_mark [] s = None
first_mark (row ∷ rows) s = if begins row.0 s then Some (record { len = length row.0; punct = row.1 }) else first_mark rows s

-- the longest mark that the text begins with
unfoldable pub mark_of : List ℕ → Option Mark
mark_of s = first_mark marks s
