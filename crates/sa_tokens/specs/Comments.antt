-- Comments (ISO C 6.4.9) and line markers (ISO C 6.10.4 and 6.10.6): what is passed over, by what follows its opening.
use Rattle.std.specs.Prelude.{ℕ, ◌+◌, List, [], ◌∷◌, Bool, false, ◌&&◌, ◌||◌, not, if◌then◌else◌, codes, drop, Option, Some, None}
use Rattle.sa_tokens.specs.Bytes.{feed, begins, is_digit, begins_return, after_gaps, begins_backslash, may_end_line, begins_splice, until}

-- a comment after `//` ends before a line feed; a splice and a lone carriage return are no part of it
abbrev pub ends_comment : List ℕ → Bool
ends_comment s = begins feed s || begins_splice s || begins_return s

abbrev pub line_comment : List ℕ → ℕ
line_comment s = until ends_comment s

-- a star that might end a comment if its line is joined with the next one, or if a lone carriage return ends a line
abbrev pub is_doubtful_star : List ℕ → Bool
is_doubtful_star s = begins (codes "*") s && begins_backslash may_end_line (drop 1 s)

abbrev pub ends_block : List ℕ → Bool
ends_block s = begins (codes "*/") s || is_doubtful_star s

-- a comment after `/*` goes on up to and with the first `*/`; it has no end where a doubtful star stands ahead of that
abbrev pub closed_after : ℕ → List ℕ → Option ℕ
closed_after n s = if begins (codes "*/") (drop n s) then Some (n + 2) else None

abbrev pub block_comment : List ℕ → Option ℕ
block_comment s = closed_after (until ends_block s) s

-- ---- line markers
abbrev pub begins_digit : List ℕ → Bool
begins_digit [] = false
begins_digit (b ∷ s) = is_digit b

-- `#` is followed by blanks and a digit, or directly by `line` or `pragma`
abbrev pub begins_marker : List ℕ → Bool
begins_marker s = begins_digit (after_gaps s) || begins (codes "line") s || begins (codes "pragma") s

-- what a line that is skipped doesn't have: a block comment, a splice, a lone carriage return
abbrev pub spoils : List ℕ → Bool
spoils s = begins (codes "/*") s || begins_splice s || begins_return s

abbrev pub ends_marker : List ℕ → Bool
ends_marker s = begins feed s || spoils s

abbrev pub marker_up_to : ℕ → List ℕ → Option ℕ
marker_up_to n s = if begins_marker s && not (spoils (drop n s)) then Some n else None

-- a line marker goes on up to the line feed, None where the line isn't one
abbrev pub line_marker : List ℕ → Option ℕ
line_marker s = marker_up_to (until ends_marker s) s
