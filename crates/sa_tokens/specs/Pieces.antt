-- What a text begins with: something that is passed over, the longest spelling of a token, or neither.
use Rattle.std.specs.Prelude.{ℕ, ◌+◌, ◌==◌, List, [], ◌∷◌, Bool, false, ◌||◌, if◌then◌else◌, codes, drop, length, take_while, Option, Some, None}
use Rattle.sa_tokens.specs.declared.mark.Mark.{Mark}
use Rattle.sa_tokens.specs.declared.token.Word.{Word}
use Rattle.sa_tokens.specs.declared.token.Word.TheVariants as w
use Rattle.sa_tokens.specs.declared.piece.Cause.TheVariants.{BadByte, BadNumber, OpenComment, Directive}
use Rattle.sa_tokens.specs.declared.piece.Piece.{Piece}
use Rattle.sa_tokens.specs.declared.piece.Piece.TheVariants.{End, Space, Spelling, Refused}
use Rattle.sa_tokens.specs.Bytes.{is_blank, is_word_byte, begins, begins_splice}
use Rattle.sa_tokens.specs.Words.{number_of, name_of}
use Rattle.sa_tokens.specs.Marks.{mark_of}
use Rattle.sa_tokens.specs.Comments.{line_comment, block_comment, begins_digit, line_marker}

abbrev pub number_piece : ℕ → Option Word → Piece
number_piece n None = Refused BadNumber
number_piece n (Some w) = Spelling n w

-- a run of letters, digits and underscores: a number where it begins with a digit
abbrev pub word_piece : List ℕ → Piece
word_piece s = if begins_digit s then number_piece (length s) (number_of s) else Spelling (length s) (name_of s)

abbrev pub block_piece : Option ℕ → Piece
block_piece None = Refused OpenComment
block_piece (Some n) = Space (2 + n) false

abbrev pub marker_piece : Bool → Option ℕ → Piece
marker_piece fresh None = Refused Directive
marker_piece fresh (Some n) = if fresh then Space (1 + n) false else Refused Directive

abbrev pub mark_piece : Option Mark → Piece
mark_piece None = Refused BadByte
mark_piece (Some m) = Spelling m.len (w.Mark m.punct)

-- a text that begins with no blank, letter, digit or underscore
unfoldable pub other_piece : Bool → ℕ → List ℕ → Piece
other_piece fresh b s =
    if begins (codes "//") (b ∷ s) then Space (2 + line_comment (drop 1 s)) false else
    (if begins (codes "/*") (b ∷ s) then block_piece (block_comment (drop 1 s)) else
    (if b == 35 then marker_piece fresh (line_marker s) else
    (if begins_splice (b ∷ s) then Refused BadByte else mark_piece (mark_of (b ∷ s)))))

-- `fresh` tells whether only blanks stand before the text in its line; a Space tells the same of what follows it
unfoldable pub piece_at : Bool → List ℕ → Piece
piece_at fresh [] = End
piece_at fresh (b ∷ s) =
    if is_blank b s then Space 1 (fresh || b == 10) else
    (if is_word_byte b then word_piece (take_while is_word_byte (b ∷ s)) else other_piece fresh b s)
