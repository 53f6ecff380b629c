-- Bytes, and what a text begins with, where a text is what is left of a source from some place on.
use Rattle.std.specs.Prelude.{ℕ, ◌+◌, ◌==◌, List, [], ◌∷◌, Bool, true, false, ◌&&◌, ◌||◌, not, if◌then◌else◌, nat_le, codes, drop, Option, Some, None}
use Rattle.std.specs.List.{prefix_len}
use Rattle.std.specs.Str.{bytes_eq}

-- ---- bytes
abbrev pub is_digit : ℕ → Bool
is_digit b = nat_le 48 b && nat_le b 57

-- a letter, a digit or an underscore
abbrev pub is_word_byte : ℕ → Bool
is_word_byte b = (nat_le 48 b && nat_le b 57) || (nat_le 65 b && nat_le b 90) || (nat_le 97 b && nat_le b 122) || b == 95

-- space, tab, vertical tab and form feed
abbrev pub is_gap : ℕ → Bool
is_gap b = b == 32 || b == 9 || b == 11 || b == 12

-- ---- what a text begins with
-- it begins with these bytes
abbrev pub begins : List ℕ → List ℕ → Bool
begins [] s = true
begins (c ∷ w) [] = false
begins (c ∷ w) (b ∷ s) = b == c && begins w s

abbrev pub feed : List ℕ
feed = 10 ∷ []

-- the end of a line: a line feed, or a carriage return directly before one
abbrev pub begins_end : List ℕ → Bool
begins_end s = begins feed s || begins (13 ∷ 10 ∷ []) s

-- a blank: a carriage return is one only directly before a line feed
abbrev pub is_blank : ℕ → List ℕ → Bool
is_blank b after = is_gap b || b == 10 || (b == 13 && begins feed after)

-- a carriage return by itself, which some compilers take as the end of a line and some don't
abbrev pub begins_return : List ℕ → Bool
begins_return [] = false
begins_return (b ∷ s) = b == 13 && not (begins feed s)

abbrev pub after_gaps : List ℕ → List ℕ
after_gaps s = drop (prefix_len is_gap s) s

-- what may stand between a backslash and the end of its line: compilers skip a NUL byte there as they do blanks
abbrev pub is_skipped : ℕ → Bool
is_skipped b = is_gap b || b == 0

abbrev pub after_skipped : List ℕ → List ℕ
after_skipped s = drop (prefix_len is_skipped s) s

-- a backslash, or its trigraph (ISO C 5.2.1.1), and what follows it passes the test
abbrev pub begins_backslash : (List ℕ → Bool) → List ℕ → Bool
begins_backslash test s = (begins (92 ∷ []) s && test (drop 1 s)) || (begins (codes "??/") s && test (drop 3 s))

abbrev pub ends_line : List ℕ → Bool
ends_line s = begins_end (after_skipped s)

abbrev pub may_end_line : List ℕ → Bool
may_end_line s = begins feed (after_skipped s) || begins (13 ∷ []) (after_skipped s)

-- a splice (ISO C 5.1.1.2, phase 2): it joins two lines. Compilers allow blanks and NUL bytes before the line's end
abbrev pub begins_splice : List ℕ → Bool
begins_splice s = begins_backslash ends_line s

-- how many bytes stand before the first place where the text passes the test
unfoldable pub until : (List ℕ → Bool) → List ℕ → ℕ
until test [] = 0
until test (b ∷ s) = if test (b ∷ s) then 0 else 1 + until test s

-- ---- tables
-- what stands beside a spelling in a table
abbrev pub look_up : {A : Type 0} → List ℕ → List (List ℕ × A) → Option A
look_up s [] = None
look_up s (row ∷ rows) = if bytes_eq row.0 s then Some row.1 else look_up s rows
