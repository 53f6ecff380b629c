-- A token that is found is the longest that the text begins with, and a byte that is refused begins none.
use Rattle.std.proofs.Common.{◌≡◌, ℕ, zero, suc, ◌+◌, ◌≤◌, ◌<◌, List, [], ◌∷◌, Bool, true, false, cond, not, length, take, drop, refl, ap, sym, subst, ◌∙◌, arith, Option, Some, None, inl, inr, ⊎_elim, ◌⊎◌}
use Rattle.std.specs.Prelude.{codes, ◌==◌, ◌&&◌, take_while, nat_le}
use Rattle.std.specs.List.{prefix_len, list_all}
use Rattle.std.specs.Str.{bytes_eq}
use Rattle.std.specs.Cmp.Lexicographic.{bytes_decides}
use Rattle.std.proofs.lemmas.Bool.{cond_both, and_parts, and_from, false≢true, leb-true, cond-true, cond-false, eq-eqb, eqb-true, false_from_ne_true}
use Rattle.std.proofs.lemmas.List.{length-take-le}
use Rattle.std.proofs.lemmas.List.Sums.{prefix_len-le-length, take_while-cons}
use Rattle.sa_tokens.specs.declared.mark.Mark.{Mark}
use Rattle.sa_tokens.specs.declared.punct.Punct.{Punct}
use Rattle.sa_tokens.specs.declared.token.Word.{Word}
use Rattle.sa_tokens.specs.declared.token.Word.TheVariants as w
use Rattle.sa_tokens.specs.declared.piece.Piece.{Piece}
use Rattle.sa_tokens.specs.declared.piece.Piece.TheVariants.{Space, Spelling, Refused}
use Rattle.sa_tokens.specs.declared.piece.Cause.TheVariants.{BadByte}
use Rattle.sa_tokens.specs.Bytes.{is_blank, is_word_byte, begins, begins_splice, look_up}
use Rattle.sa_tokens.specs.Comments.{begins_digit, block_comment, line_marker}
use Rattle.sa_tokens.specs.Words.{number_of, name_of}
use Rattle.sa_tokens.specs.Marks.{marks, first_mark, mark_of}
use Rattle.sa_tokens.specs.Pieces.{number_piece, word_piece, block_piece, marker_piece, mark_piece, other_piece, piece_at}
use Rattle.sa_tokens.specs.Laws.{IsSpelling, number, name, mark, IsLongest, EachIsLongest, EachBadByteBeginsNone}
use Rattle.sa_tokens.proofs.PieceLemmas.{FitsIn, first_mark-fits}

-- ---- fronts of a text
begins_take : (s : List ℕ) (k : ℕ) → begins (take k s) s ≡ true
begins_take s zero = refl
begins_take [] (suc k) = refl
begins_take (b ∷ s) (suc k) = and_from _ _ (eq-eqb b b refl) (begins_take s k)

take_begins : (v s : List ℕ) → begins v s ≡ true → take (length v) s ≡ v
take_begins [] s h = refl
take_begins (c ∷ v) [] h = absurd (false≢true h)
take_begins (c ∷ v) (b ∷ s) h =
    let both = and_parts _ _ h in
    let same : b ≡ c = eqb-true b c both.0 in
    ap (λ (x : ℕ). x ∷ take (length v) s) same ∙ ap (λ (xs : List ℕ). c ∷ xs) (take_begins v s both.1)

same_word : (v u : List ℕ) → bytes_eq v u ≡ true → v ≡ u
same_word v u h = (bytes_decides v u).0 h

word_same : (v u : List ℕ) → v ≡ u → bytes_eq v u ≡ true
word_same v u h = (bytes_decides v u).1 h

-- ---- the table of marks
-- a row that doesn't fit the text is no front of it
no_front : (v s : List ℕ) (k : ℕ) → begins v s ≡ false → bytes_eq v (take k s) ≡ false
no_front v s k h = false_from_ne_true _ (λ e. false≢true (sym h ∙ ap (λ (x : List ℕ). begins x s) (same_word v (take k s) e) ∙ begins_take s k))

-- the first row that fits is the row of its spelling
mark_spells : (rows : List (List ℕ × Punct)) (s : List ℕ) (m : Mark) → first_mark rows s ≡ Some m → look_up (take m.len s) rows ≡ Some m.punct
mark_spells [] s m h = cc
mark_spells (row ∷ rows) s m h = by_test (λ g. mark_spells rows s m g) (begins row.0 s) refl
  where
    by_test : (first_mark rows s ≡ Some m → look_up (take m.len s) rows ≡ Some m.punct) → (t : Bool) → begins row.0 s ≡ t → look_up (take m.len s) (row ∷ rows) ≡ Some m.punct
    by_test k true e =
        let is : Some (record { len = length row.0; punct = row.1 }) ≡ Some m = sym (cond-true (begins row.0 s) _ _ e) ∙ h in
        let is' : record { len = length row.0; punct = row.1 } ≡ m = cc in
        let spelled : bytes_eq row.0 (take (length row.0) s) ≡ true = word_same row.0 (take (length row.0) s) (sym (take_begins row.0 s e)) in
        subst (λ (n : Mark). look_up (take n.len s) (row ∷ rows) ≡ Some n.punct) is' (cond-true (bytes_eq row.0 (take (length row.0) s)) _ _ spelled)
    by_test k false e =
        let later : first_mark rows s ≡ Some m = sym (cond-false (begins row.0 s) _ _ e) ∙ h in
        cond-false (bytes_eq row.0 (take m.len s)) _ _ (no_front row.0 s m.len e) ∙ k later

-- no row is longer than that
abbrev are_up_to : ℕ → List (List ℕ × Punct) → Bool
are_up_to n [] = true
are_up_to n (row ∷ rows) = nat_le (length row.0) n && are_up_to n rows

abbrev are_ordered : List (List ℕ × Punct) → Bool
are_ordered [] = true
are_ordered (row ∷ rows) = are_up_to (length row.0) rows && are_ordered rows

row_up_to : (n : ℕ) (rows : List (List ℕ × Punct)) (v : List ℕ) (u : Punct) → are_up_to n rows ≡ true → look_up v rows ≡ Some u → length v ≤ n
row_up_to n [] v u a h = cc
row_up_to n (row ∷ rows) v u a h = by_test (λ g. row_up_to n rows v u (and_parts _ _ a).1 g) (bytes_eq row.0 v) refl
  where
    by_test : (look_up v rows ≡ Some u → length v ≤ n) → (t : Bool) → bytes_eq row.0 v ≡ t → length v ≤ n
    by_test k true e =
        let same : length row.0 ≡ length v = ap length (same_word row.0 v e) in
        omega (arith, leb-true (length row.0) n (and_parts _ _ a).0)
    by_test k false e = k (sym (cond-false (bytes_eq row.0 v) _ _ e) ∙ h)

mark_longest : (rows : List (List ℕ × Punct)) (s : List ℕ) (m : Mark) (k : ℕ) (u : Punct) → are_ordered rows ≡ true → first_mark rows s ≡ Some m → look_up (take k s) rows ≡ Some u → length (take k s) ≤ m.len
mark_longest [] s m k u a h l = cc
mark_longest (row ∷ rows) s m k u a h l = by_tests (λ g f. mark_longest rows s m k u (and_parts _ _ a).1 g f) (begins row.0 s) (bytes_eq row.0 (take k s)) refl refl
  where
    by_tests : (first_mark rows s ≡ Some m → look_up (take k s) rows ≡ Some u → length (take k s) ≤ m.len) → (t r : Bool) → begins row.0 s ≡ t → bytes_eq row.0 (take k s) ≡ r → length (take k s) ≤ m.len
    by_tests ih true true e f =
        let is : Some (record { len = length row.0; punct = row.1 }) ≡ Some m = sym (cond-true (begins row.0 s) _ _ e) ∙ h in
        let is' : record { len = length row.0; punct = row.1 } ≡ m = cc in
        let n : length row.0 ≡ m.len = ap (λ (x : Mark). x.len) is' in
        let same : length row.0 ≡ length (take k s) = ap length (same_word row.0 (take k s) f) in
        omega arith
    by_tests ih true false e f =
        let is : Some (record { len = length row.0; punct = row.1 }) ≡ Some m = sym (cond-true (begins row.0 s) _ _ e) ∙ h in
        let is' : record { len = length row.0; punct = row.1 } ≡ m = cc in
        let n : length row.0 ≡ m.len = ap (λ (x : Mark). x.len) is' in
        let later : look_up (take k s) rows ≡ Some u = sym (cond-false (bytes_eq row.0 (take k s)) _ _ f) ∙ l in
        omega (arith, row_up_to (length row.0) rows (take k s) u (and_parts _ _ a).0 later)
    by_tests ih false true e f = absurd (false≢true (sym (no_front row.0 s k e) ∙ f))
    by_tests ih false false e f =
        ih (sym (cond-false (begins row.0 s) _ _ e) ∙ h) (sym (cond-false (bytes_eq row.0 (take k s)) _ _ f) ∙ l)

-- no mark begins with a letter, a digit or an underscore, or has no byte
abbrev begins_mark : List ℕ → Bool
begins_mark [] = false
begins_mark (b ∷ s) = not (is_word_byte b)

abbrev are_no_words : List (List ℕ × Punct) → Bool
are_no_words [] = true
are_no_words (row ∷ rows) = begins_mark row.0 && are_no_words rows

row_no_word : (rows : List (List ℕ × Punct)) (v : List ℕ) (u : Punct) → are_no_words rows ≡ true → look_up v rows ≡ Some u → begins_mark v ≡ true
row_no_word [] v u a h = cc
row_no_word (row ∷ rows) v u a h = by_test (λ g. row_no_word rows v u (and_parts _ _ a).1 g) (bytes_eq row.0 v) refl
  where
    by_test : (look_up v rows ≡ Some u → begins_mark v ≡ true) → (t : Bool) → bytes_eq row.0 v ≡ t → begins_mark v ≡ true
    by_test k true e = subst (λ (x : List ℕ). begins_mark x ≡ true) (same_word row.0 v e) (and_parts _ _ a).0
    by_test k false e = k (sym (cond-false (bytes_eq row.0 v) _ _ e) ∙ h)

-- ---- words
front_is : (s : List ℕ) → take (length (take_while is_word_byte s)) s ≡ take_while is_word_byte s
front_is s = ap (λ n. take n s) (length-take-le (prefix_len is_word_byte s) s (prefix_len-le-length is_word_byte s))

front_all : (s : List ℕ) → list_all is_word_byte (take_while is_word_byte s) ≡ true
front_all [] = refl
front_all (b ∷ s) = by_test (front_all s) (is_word_byte b) refl
  where
    by_test : list_all is_word_byte (take_while is_word_byte s) ≡ true → (t : Bool) → is_word_byte b ≡ t → list_all is_word_byte (take_while is_word_byte (b ∷ s)) ≡ true
    by_test k true e = ap (list_all is_word_byte) (take_while-cons is_word_byte b s ∙ cond-true (is_word_byte b) _ _ e) ∙ and_from _ _ e k
    by_test k false e = ap (list_all is_word_byte) (take_while-cons is_word_byte b s ∙ cond-false (is_word_byte b) _ _ e)

all_within : (m : ℕ) (s : List ℕ) → list_all is_word_byte (take m s) ≡ true → m ≤ length s → m ≤ prefix_len is_word_byte s
all_within zero s a h = omega arith
all_within (suc m) [] a h = absurd (omega arith)
all_within (suc m) (b ∷ s) a h =
    let both = and_parts _ _ a in
    let one : prefix_len is_word_byte (b ∷ s) ≡ 1 + prefix_len is_word_byte s = ap (λ t. cond t (1 + prefix_len is_word_byte s) 0) both.0 in
    omega (arith, all_within m s both.1 (omega arith))

-- a spelling has word bytes alone, or is a mark
spelled : (v : List ℕ) (u : Word) → IsSpelling v u → (list_all is_word_byte v ≡ true) ⊎ ((m : Punct) × (look_up v marks ≡ Some m))
spelled v u (number _ _ a d e) = inl a
spelled _ _ (name b s a d) = inl a
spelled v _ (mark _ m e) = inr (m, e)

no_mark : (b : ℕ) (s : List ℕ) (m : ℕ) (u : Punct) → is_word_byte b ≡ true → 0 < m → look_up (take m (b ∷ s)) marks ≡ Some u → ⊥
no_mark b s zero u h g e = absurd (omega arith)
no_mark b s (suc m) u h g e = false≢true (sym (ap not h) ∙ row_no_word marks (b ∷ take m s) u refl e)

no_word : (b : ℕ) (s : List ℕ) (m : ℕ) → is_word_byte b ≡ false → 0 < m → list_all is_word_byte (take m (b ∷ s)) ≡ true → ⊥
no_word b s zero h g e = absurd (omega arith)
no_word b s (suc m) h g e = false≢true (sym h ∙ (and_parts _ _ e).0)

-- no longer front of a text that begins with a word byte is a spelling
word_longest : (b : ℕ) (s : List ℕ) (m : ℕ) (u : Word) → is_word_byte b ≡ true → length (take_while is_word_byte (b ∷ s)) < m → m ≤ length (b ∷ s) → IsSpelling (take m (b ∷ s)) u → ⊥
word_longest b s m u h g l i =
    let len : length (take_while is_word_byte (b ∷ s)) ≡ prefix_len is_word_byte (b ∷ s) = length-take-le (prefix_len is_word_byte (b ∷ s)) (b ∷ s) (prefix_len-le-length is_word_byte (b ∷ s)) in
    ⊎_elim (λ a. let k : m ≤ prefix_len is_word_byte (b ∷ s) = all_within m (b ∷ s) a l in absurd (omega arith))
    (λ p. no_mark b s m p.0 h (omega arith) p.1)
    (spelled (take m (b ∷ s)) u i)

mark_is_longest : (b : ℕ) (s : List ℕ) (x : Mark) (m : ℕ) (u : Word) → is_word_byte b ≡ false → first_mark marks (b ∷ s) ≡ Some x → x.len < m → m ≤ length (b ∷ s) → IsSpelling (take m (b ∷ s)) u → ⊥
mark_is_longest b s x m u h e g l i =
    ⊎_elim (λ a. no_word b s m h (omega arith) a)
    (λ p. let k : length (take m (b ∷ s)) ≤ x.len = mark_longest marks (b ∷ s) x m p.0 refl e p.1 in
    let n : length (take m (b ∷ s)) ≡ m = length-take-le m (b ∷ s) l in
    absurd (omega arith))
    (spelled (take m (b ∷ s)) u i)

-- ---- pieces
word_front : (b : ℕ) (s : List ℕ) → is_word_byte b ≡ true → take_while is_word_byte (b ∷ s) ≡ b ∷ take_while is_word_byte s
word_front b s h = take_while-cons is_word_byte b s ∙ cond-true (is_word_byte b) _ _ h

longest_word : (b : ℕ) (s : List ℕ) (v : Word) → is_word_byte b ≡ true → IsSpelling (take_while is_word_byte (b ∷ s)) v → IsLongest (b ∷ s) (length (take_while is_word_byte (b ∷ s))) v
longest_word b s v h i =
    let len : length (take_while is_word_byte (b ∷ s)) ≡ suc (length (take_while is_word_byte s)) = ap length (word_front b s h) in
    let n : length (take_while is_word_byte (b ∷ s)) ≡ prefix_len is_word_byte (b ∷ s) = length-take-le (prefix_len is_word_byte (b ∷ s)) (b ∷ s) (prefix_len-le-length is_word_byte (b ∷ s)) in
    record {
      some = omega arith;
      within = omega (arith, prefix_len-le-length is_word_byte (b ∷ s));
      spelling = subst (λ (x : List ℕ). IsSpelling x v) (sym (front_is (b ∷ s))) i;
      longest = λ m u g l j. word_longest b s m u h g l j;
    }

number_case : (b : ℕ) (s : List ℕ) (n : ℕ) (v : Word) (o : Option Word) → is_word_byte b ≡ true → begins_digit (take_while is_word_byte (b ∷ s)) ≡ true → number_of (take_while is_word_byte (b ∷ s)) ≡ o →
    number_piece (length (take_while is_word_byte (b ∷ s))) o ≡ Spelling n v → IsLongest (b ∷ s) n v
number_case b s n v None h d e q = cc
number_case b s n v (Some x) h d e q =
    let k : length (take_while is_word_byte (b ∷ s)) ≡ n = cc in
    let y : x ≡ v = cc in
    subst (λ (m : ℕ). IsLongest (b ∷ s) m v) k (longest_word b s v h (number (take_while is_word_byte (b ∷ s)) v (front_all (b ∷ s)) d (e ∙ ap (λ (z : Word). Some z) y)))

name_spelling : (b : ℕ) (s front : List ℕ) → front ≡ b ∷ s → list_all is_word_byte front ≡ true → begins_digit front ≡ false → IsSpelling front (name_of front)
name_spelling b s front e a d =
    subst (λ (x : List ℕ). IsSpelling x (name_of x)) (sym e) (name b s (ap (list_all is_word_byte) (sym e) ∙ a) (ap begins_digit (sym e) ∙ d))

name_case : (b : ℕ) (s : List ℕ) (n : ℕ) (v : Word) → is_word_byte b ≡ true → begins_digit (take_while is_word_byte (b ∷ s)) ≡ false →
    Spelling (length (take_while is_word_byte (b ∷ s))) (name_of (take_while is_word_byte (b ∷ s))) ≡ Spelling n v → IsLongest (b ∷ s) n v
name_case b s n v h d q =
    let k : length (take_while is_word_byte (b ∷ s)) ≡ n = cc in
    let y : name_of (take_while is_word_byte (b ∷ s)) ≡ v = cc in
    subst (λ (m : ℕ). IsLongest (b ∷ s) m v) k (longest_word b s v h (subst (IsSpelling (take_while is_word_byte (b ∷ s))) y (name_spelling b (take_while is_word_byte s) (take_while is_word_byte (b ∷ s)) (word_front b s h) (front_all (b ∷ s)) d)))

word_case : (b : ℕ) (s : List ℕ) (n : ℕ) (v : Word) → is_word_byte b ≡ true → word_piece (take_while is_word_byte (b ∷ s)) ≡ Spelling n v → IsLongest (b ∷ s) n v
word_case b s n v h =
    cond_both (begins_digit (take_while is_word_byte (b ∷ s))) _ _ (λ (q : Piece). q ≡ Spelling n v → IsLongest (b ∷ s) n v)
    (λ d. number_case b s n v (number_of (take_while is_word_byte (b ∷ s))) h d refl)
    (λ d. name_case b s n v h d)

longest_mark : (b : ℕ) (s : List ℕ) (x : Mark) → is_word_byte b ≡ false → first_mark marks (b ∷ s) ≡ Some x → FitsIn (length (b ∷ s)) (Spelling x.len (w.Mark x.punct)) → IsLongest (b ∷ s) x.len (w.Mark x.punct)
longest_mark b s x h e f = record {
  some = f.0;
  within = f.1;
  spelling = mark (take x.len (b ∷ s)) x.punct (mark_spells marks (b ∷ s) x e);
  longest = λ m u g l j. mark_is_longest b s x m u h e g l j;
}

mark_case : (b : ℕ) (s : List ℕ) (n : ℕ) (v : Word) (o : Option Mark) → is_word_byte b ≡ false → first_mark marks (b ∷ s) ≡ o → FitsIn (length (b ∷ s)) (mark_piece o) → mark_piece o ≡ Spelling n v → IsLongest (b ∷ s) n v
mark_case b s n v None h e f q = cc
mark_case b s n v (Some x) h e f q =
    let k : x.len ≡ n = cc in
    let y : w.Mark x.punct ≡ v = cc in
    subst (λ (m : ℕ). IsLongest (b ∷ s) m v) k (subst (λ (u : Word). IsLongest (b ∷ s) x.len u) y (longest_mark b s x h e f))

no_block : (o : Option ℕ) (n : ℕ) (v : Word) → block_piece o ≡ Spelling n v → ⊥
no_block None n v e = cc
no_block (Some k) n v e = cc

no_fresh : (fresh : Bool) (k n : ℕ) (v : Word) → marker_piece fresh (Some k) ≡ Spelling n v → ⊥
no_fresh true k n v e = cc
no_fresh false k n v e = cc

no_marker : (fresh : Bool) (o : Option ℕ) (n : ℕ) (v : Word) → marker_piece fresh o ≡ Spelling n v → ⊥
no_marker fresh None n v e = cc
no_marker fresh (Some k) n v e = no_fresh fresh k n v e

no_space : (k n : ℕ) (still : Bool) (v : Word) → Space k still ≡ Spelling n v → ⊥
no_space k n still v e = cc

no_bad : (n : ℕ) (v : Word) → Refused BadByte ≡ Spelling n v → ⊥
no_bad n v e = cc

other_case : (fresh : Bool) (b : ℕ) (s : List ℕ) (n : ℕ) (v : Word) → is_word_byte b ≡ false → other_piece fresh b s ≡ Spelling n v → IsLongest (b ∷ s) n v
unfolding other_piece mark_of
other_case fresh b s n v h =
    let P : Piece → Type 0 = λ q. q ≡ Spelling n v → IsLongest (b ∷ s) n v in
    cond_both (begins (codes "//") (b ∷ s)) _ _ P
    (λ _ q. absurd (no_space _ n false v q))
    (λ _. cond_both (begins (codes "/*") (b ∷ s)) _ _ P
    (λ _ q. absurd (no_block (block_comment (drop 1 s)) n v q))
    (λ _. cond_both (b == 35) _ _ P
    (λ _ q. absurd (no_marker fresh (line_marker s) n v q))
    (λ _. cond_both (begins_splice (b ∷ s)) _ _ P
    (λ _ q. absurd (no_bad n v q))
    (λ _. mark_case b s n v (first_mark marks (b ∷ s)) h refl (first_mark-fits marks (b ∷ s) refl)))))

pub each_is_longest : EachIsLongest
unfolding piece_at
each_is_longest fresh [] n v q = cc
each_is_longest fresh (b ∷ s) n v q =
    let P : Piece → Type 0 = λ q. q ≡ Spelling n v → IsLongest (b ∷ s) n v in
    cond_both (is_blank b s) _ _ P
    (λ _ q. absurd (no_space _ n _ v q))
    (λ _. cond_both (is_word_byte b) _ _ P (λ h. word_case b s n v h) (λ h. other_case fresh b s n v h)) q

-- ---- bytes that are refused
some_none : (x : Mark) → Some x ≡ None → ⊥
some_none x h = cc

none_fits : (rows : List (List ℕ × Punct)) (s : List ℕ) (k : ℕ) (u : Punct) → first_mark rows s ≡ None → look_up (take k s) rows ≡ Some u → ⊥
none_fits [] s k u h l = cc
none_fits (row ∷ rows) s k u h l = by_tests (λ g f. none_fits rows s k u g f) (begins row.0 s) (bytes_eq row.0 (take k s)) refl refl
  where
    by_tests : (first_mark rows s ≡ None → look_up (take k s) rows ≡ Some u → ⊥) → (t r : Bool) → begins row.0 s ≡ t → bytes_eq row.0 (take k s) ≡ r → ⊥
    by_tests ih true r e f = some_none _ (sym (cond-true (begins row.0 s) _ _ e) ∙ h)
    by_tests ih false true e f = false≢true (sym (no_front row.0 s k e) ∙ f)
    by_tests ih false false e f = ih (sym (cond-false (begins row.0 s) _ _ e) ∙ h) (sym (cond-false (bytes_eq row.0 (take k s)) _ _ f) ∙ l)

abbrev BeginsNone : ℕ → List ℕ → Type 0
BeginsNone b s = (begins_splice (b ∷ s) ≡ true) ⊎ ((m : ℕ) (v : Word) → 0 < m → IsSpelling (take m (b ∷ s)) v → ⊥)

bad_number : (n : ℕ) (o : Option Word) → number_piece n o ≡ Refused BadByte → ⊥
bad_number n None q = cc
bad_number n (Some v) q = cc

bad_word : (s : List ℕ) → word_piece s ≡ Refused BadByte → ⊥
bad_word s =
    cond_both (begins_digit s) (number_piece (length s) (number_of s)) (Spelling (length s) (name_of s)) (λ (q : Piece). q ≡ Refused BadByte → ⊥)
    (λ _. bad_number (length s) (number_of s)) (λ _ q. cc)

bad_block : (o : Option ℕ) → block_piece o ≡ Refused BadByte → ⊥
bad_block None q = cc
bad_block (Some n) q = cc

bad_fresh : (fresh : Bool) (n : ℕ) → marker_piece fresh (Some n) ≡ Refused BadByte → ⊥
bad_fresh true n q = cc
bad_fresh false n q = cc

bad_marker : (fresh : Bool) (o : Option ℕ) → marker_piece fresh o ≡ Refused BadByte → ⊥
bad_marker fresh None q = cc
bad_marker fresh (Some n) q = bad_fresh fresh n q

bad_mark : (b : ℕ) (s : List ℕ) (o : Option Mark) → is_word_byte b ≡ false → first_mark marks (b ∷ s) ≡ o → mark_piece o ≡ Refused BadByte → BeginsNone b s
bad_mark b s (Some x) h e q = cc
bad_mark b s None h e q =
    inr (λ m v g i. ⊎_elim (λ a. no_word b s m h g a) (λ p. none_fits marks (b ∷ s) m p.0 e p.1) (spelled (take m (b ∷ s)) v i))

bad_space : (n : ℕ) (still : Bool) → Space n still ≡ Refused BadByte → ⊥
bad_space n still q = cc

bad_other : (fresh : Bool) (b : ℕ) (s : List ℕ) → is_word_byte b ≡ false → other_piece fresh b s ≡ Refused BadByte → BeginsNone b s
unfolding other_piece mark_of
bad_other fresh b s h =
    let P : Piece → Type 0 = λ q. q ≡ Refused BadByte → BeginsNone b s in
    cond_both (begins (codes "//") (b ∷ s)) _ _ P
    (λ _ q. absurd (bad_space _ false q))
    (λ _. cond_both (begins (codes "/*") (b ∷ s)) _ _ P
    (λ _ q. absurd (bad_block (block_comment (drop 1 s)) q))
    (λ _. cond_both (b == 35) _ _ P
    (λ _ q. absurd (bad_marker fresh (line_marker s) q))
    (λ _. cond_both (begins_splice (b ∷ s)) _ _ P
    (λ t _. inl t)
    (λ _. bad_mark b s (first_mark marks (b ∷ s)) h refl))))

pub each_bad_byte_begins_none : EachBadByteBeginsNone
unfolding piece_at
each_bad_byte_begins_none fresh [] q = cc
each_bad_byte_begins_none fresh (b ∷ s) q =
    let P : Piece → Type 0 = λ q. q ≡ Refused BadByte → BeginsNone b s in
    cond_both (is_blank b s) _ _ P
    (λ _ q. absurd (bad_space _ _ q))
    (λ _. cond_both (is_word_byte b) _ _ P (λ _ q. absurd (bad_word (take_while is_word_byte (b ∷ s)) q)) (λ h. bad_other fresh b s h)) q
