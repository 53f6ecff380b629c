-- Each piece has a byte at least, and lies within its text.
use Rattle.std.proofs.Common.{◌≡◌, ℕ, suc, ◌+◌, ◌≤◌, List, [], ◌∷◌, Bool, true, false, cond, not, length, drop, refl, ap, arith, Option, Some, None}
use Rattle.std.specs.Prelude.{⊤, codes, ◌==◌, ◌&&◌, take_while, nat_le}
use Rattle.std.specs.List.{prefix_len}
use Rattle.std.proofs.lemmas.Bool.{cond_both, and_parts, false≢true, leb-true}
use Rattle.std.proofs.lemmas.List.{length-take-le, length-drop}
use Rattle.std.proofs.lemmas.List.Sums.{prefix_len-le-length}
use Rattle.sa_tokens.specs.declared.mark.Mark.{Mark}
use Rattle.sa_tokens.specs.declared.punct.Punct.{Punct}
use Rattle.sa_tokens.specs.declared.token.Word.{Word}
use Rattle.sa_tokens.specs.declared.piece.Piece.{Piece}
use Rattle.sa_tokens.specs.declared.piece.Piece.TheVariants.{End, Space, Spelling, Refused}
use Rattle.sa_tokens.specs.Bytes.{is_blank, is_word_byte, begins, begins_splice, until}
use Rattle.sa_tokens.specs.Comments.{closed_after, line_marker, begins_marker, spoils, begins_digit, ends_comment, ends_block, ends_marker}
use Rattle.sa_tokens.specs.Words.{number_of, name_of}
use Rattle.sa_tokens.specs.Marks.{marks, first_mark, mark_of}
use Rattle.sa_tokens.specs.Pieces.{number_piece, word_piece, block_piece, marker_piece, mark_piece, other_piece, piece_at}

abbrev pub FitsIn : ℕ → Piece → Type 0
FitsIn m End = ⊤
FitsIn m (Space n still) = (1 ≤ n) × (n ≤ m)
FitsIn m (Spelling n w) = (1 ≤ n) × (n ≤ m)
FitsIn m (Refused c) = ⊤

pub until-le-length : (test : List ℕ → Bool) (s : List ℕ) → until test s ≤ length s
unfolding until
until-le-length test [] = omega arith
until-le-length test (b ∷ s) = cond_both (test (b ∷ s)) 0 (1 + until test s) (λ n. n ≤ suc (length s)) (λ _. omega arith) (λ _. omega (arith, until-le-length test s))

pub begins-le-length : (w s : List ℕ) → begins w s ≡ true → length w ≤ length s
begins-le-length [] s h = omega arith
begins-le-length (c ∷ w) [] h = absurd (false≢true h)
begins-le-length (c ∷ w) (b ∷ s) h = omega (arith, begins-le-length w s (and_parts _ _ h).1)

-- ---- marks
-- each row has a byte at least
abbrev pub are_some : List (List ℕ × Punct) → Bool
are_some [] = true
are_some (row ∷ rows) = nat_le 1 (length row.0) && are_some rows

pub first_mark-fits : (rows : List (List ℕ × Punct)) (s : List ℕ) → are_some rows ≡ true → FitsIn (length s) (mark_piece (first_mark rows s))
first_mark-fits [] s h = tt
first_mark-fits (row ∷ rows) s h =
    let both = and_parts _ _ h in
    cond_both (begins row.0 s) (Some (record { len = length row.0; punct = row.1 })) (first_mark rows s) (λ (m : Option Mark). FitsIn (length s) (mark_piece m))
    (λ e. (leb-true 1 (length row.0) both.0, begins-le-length row.0 s e))
    (λ e. first_mark-fits rows s both.1)

mark-fits : (s : List ℕ) → FitsIn (length s) (mark_piece (mark_of s))
unfolding mark_of
mark-fits s = first_mark-fits marks s refl

-- ---- words
number-fits : (n m : ℕ) (w : Option Word) → 1 ≤ n → n ≤ m → FitsIn m (number_piece n w)
number-fits n m None h k = tt
number-fits n m (Some w) h k = (h, k)

word-fits : (s : List ℕ) (m : ℕ) → 1 ≤ length s → length s ≤ m → FitsIn m (word_piece s)
word-fits s m h k = cond_both (begins_digit s) (number_piece (length s) (number_of s)) (Spelling (length s) (name_of s)) (FitsIn m) (λ _. number-fits (length s) m (number_of s) h k) (λ _. (h, k))

front-fits : (b : ℕ) (s : List ℕ) → is_word_byte b ≡ true → FitsIn (suc (length s)) (word_piece (take_while is_word_byte (b ∷ s)))
front-fits b s h =
    let within : prefix_len is_word_byte (b ∷ s) ≤ suc (length s) = prefix_len-le-length is_word_byte (b ∷ s) in
    let len : length (take_while is_word_byte (b ∷ s)) ≡ prefix_len is_word_byte (b ∷ s) = length-take-le (prefix_len is_word_byte (b ∷ s)) (b ∷ s) within in
    let one : prefix_len is_word_byte (b ∷ s) ≡ 1 + prefix_len is_word_byte s = ap (λ t. cond t (1 + prefix_len is_word_byte s) 0) h in
    word-fits (take_while is_word_byte (b ∷ s)) (suc (length s)) (omega arith) (omega arith)

-- ---- comments and line markers
block-fits : (s : List ℕ) (n m : ℕ) → length s + 2 ≤ m → FitsIn m (block_piece (closed_after n s))
block-fits s n m h = cond_both (begins (codes "*/") (drop n s)) (Some (n + 2)) None (λ (o : Option ℕ). FitsIn m (block_piece o))
    (λ e. (omega arith, omega (arith, begins-le-length (codes "*/") (drop n s) e, length-drop n s)))
    (λ e. tt)

fresh-fits : (fresh : Bool) (n m : ℕ) → 1 + n ≤ m → FitsIn m (marker_piece fresh (Some n))
fresh-fits true n m h = (omega arith, h)
fresh-fits false n m h = tt

marker-fits : (fresh : Bool) (s : List ℕ) → FitsIn (suc (length s)) (marker_piece fresh (line_marker s))
marker-fits fresh s =
    cond_both (begins_marker s && not (spoils (drop (until ends_marker s) s))) (Some (until ends_marker s)) None (λ (o : Option ℕ). FitsIn (suc (length s)) (marker_piece fresh o))
    (λ e. fresh-fits fresh (until ends_marker s) (suc (length s)) (omega (arith, until-le-length ends_marker s)))
    (λ e. tt)

other-fits : (fresh : Bool) (b : ℕ) (s : List ℕ) → FitsIn (suc (length s)) (other_piece fresh b s)
unfolding other_piece
other-fits fresh b s =
    let P : Piece → Type 0 = FitsIn (suc (length s)) in
    cond_both (begins (codes "//") (b ∷ s)) _ _ P
    (λ e. (omega arith, omega (arith, begins-le-length (codes "//") (b ∷ s) e, until-le-length ends_comment (drop 1 s), length-drop 1 s)))
    (λ _. cond_both (begins (codes "/*") (b ∷ s)) _ _ P
    (λ e. block-fits (drop 1 s) (until ends_block (drop 1 s)) (suc (length s)) (omega (arith, begins-le-length (codes "/*") (b ∷ s) e, length-drop 1 s)))
    (λ _. cond_both (b == 35) _ _ P
    (λ _. marker-fits fresh s)
    (λ _. cond_both (begins_splice (b ∷ s)) _ _ P (λ _. tt) (λ _. mark-fits (b ∷ s)))))

pub piece-fits : (fresh : Bool) (s : List ℕ) → FitsIn (length s) (piece_at fresh s)
unfolding piece_at
piece-fits fresh [] = tt
piece-fits fresh (b ∷ s) =
    let P : Piece → Type 0 = FitsIn (suc (length s)) in
    cond_both (is_blank b s) _ _ P
    (λ _. (omega arith, omega arith))
    (λ _. cond_both (is_word_byte b) _ _ P (λ h. front-fits b s h) (λ _. other-fits fresh b s))
