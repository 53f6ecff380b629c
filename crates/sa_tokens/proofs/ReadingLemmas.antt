-- Each text is read in one way.
use Rattle.std.proofs.Common.{◌≡◌, ℕ, zero, suc, ◌≤◌, ◌<◌, List, [], ◌∷◌, Bool, true, false, length, take, drop, refl, ap, sym, subst, ◌∙◌, arith, Option, Some, None, inl, inr, ◌⊎◌}
use Rattle.std.proofs.lemmas.Bool.{cases_lt}
use Rattle.std.proofs.lemmas.List.{length-drop}
use Rattle.sa_base.specs.declared.pos.Pos.{Pos}
use Rattle.sa_tokens.specs.declared.token.Token.{Token}
use Rattle.sa_tokens.specs.declared.fault.TokenFault.{TokenFault}
use Rattle.sa_tokens.specs.declared.piece.Piece.{Piece}
use Rattle.sa_tokens.specs.declared.piece.Piece.TheVariants.{End, Space, Spelling, Refused}
use Rattle.sa_tokens.specs.Pieces.{piece_at}
use Rattle.sa_tokens.specs.Lexed.{first_pos, pos_past, fault_at, most, Reads, ends, passes, finds, refuses}
use Rattle.sa_tokens.specs.Laws.{Reading, EachIsReadOnce, SourceAnswer, lexed, refused, too_many, EachHasOneAnswer}
use Rattle.sa_tokens.proofs.PieceLemmas.{FitsIn, piece-fits}

-- what follows is shorter by a byte at least
shorter : (s : List ℕ) (n m : ℕ) → 1 ≤ n → n ≤ length s → length s ≤ suc m → length (drop n s) ≤ m
shorter s n m h k l = omega (arith, length-drop n s)

-- readings of shorter texts
abbrev Shorter : ℕ → Type 0
Shorter m = (p : Pos) (fresh : Bool) (s : List ℕ) → length s ≤ m → Reading p fresh s

reading_none : (p : Pos) (fresh : Bool) (s : List ℕ) → length s ≤ 0 → (q : Piece) → piece_at fresh s ≡ q → FitsIn (length s) q → Reading p fresh s
reading_none p fresh s l End e h = record { tokens = []; rest = None; reads = ends p fresh s e }
reading_none p fresh s l (Refused c) e h = record { tokens = []; rest = Some (fault_at c p); reads = refuses p fresh s c e }
reading_none p fresh s l (Space n still) e h = absurd (omega arith)
reading_none p fresh s l (Spelling n w) e h = absurd (omega arith)

reading_more : (m : ℕ) (p : Pos) (fresh : Bool) (s : List ℕ) → length s ≤ suc m → Shorter m → (q : Piece) → piece_at fresh s ≡ q → FitsIn (length s) q → Reading p fresh s
reading_more m p fresh s l k End e h = record { tokens = []; rest = None; reads = ends p fresh s e }
reading_more m p fresh s l k (Refused c) e h = record { tokens = []; rest = Some (fault_at c p); reads = refuses p fresh s c e }
reading_more m p fresh s l k (Space n still) e h =
    let r = k (pos_past p (take n s)) still (drop n s) (shorter s n m h.0 h.1 l) in
    record { tokens = r.tokens; rest = r.rest; reads = passes p fresh s n still r.tokens r.rest e r.reads }
reading_more m p fresh s l k (Spelling n w) e h =
    let r = k (pos_past p (take n s)) false (drop n s) (shorter s n m h.0 h.1 l) in
    record { tokens = record { word = w; pos = p } ∷ r.tokens; rest = r.rest; reads = finds p fresh s n w r.tokens r.rest e r.reads }

reading_up_to : (m : ℕ) → Shorter m
reading_up_to zero p fresh s l = reading_none p fresh s l (piece_at fresh s) refl (piece-fits fresh s)
reading_up_to (suc m) p fresh s l = reading_more m p fresh s l (reading_up_to m) (piece_at fresh s) refl (piece-fits fresh s)

pub reading : (p : Pos) (fresh : Bool) (s : List ℕ) → Reading p fresh s
reading p fresh s = reading_up_to (length s) p fresh s (omega arith)

-- ---- one way
-- what a reading says where the text begins with that piece
abbrev Follows : Pos → Bool → List ℕ → List Token → Option TokenFault → Piece → Type 0
Follows p fresh s ts r End = (ts ≡ []) × (r ≡ None)
Follows p fresh s ts r (Space n still) = Reads (pos_past p (take n s)) still (drop n s) ts r
Follows p fresh s ts r (Spelling n w) = (us : List Token) × (ts ≡ record { word = w; pos = p } ∷ us) × Reads (pos_past p (take n s)) false (drop n s) us r
Follows p fresh s ts r (Refused c) = (ts ≡ []) × (r ≡ Some (fault_at c p))

follows : (p : Pos) (fresh : Bool) (s : List ℕ) (ts : List Token) (r : Option TokenFault) (q : Piece) → piece_at fresh s ≡ q → Reads p fresh s ts r → Follows p fresh s ts r q
follows p fresh s _ _ q e (ends _ _ _ d) = subst (Follows p fresh s [] None) (sym d ∙ e) (refl, refl)
follows p fresh s ts r q e (passes _ _ _ n still _ _ d h) = subst (Follows p fresh s ts r) (sym d ∙ e) h
follows p fresh s _ r q e (finds _ _ _ n w us _ d h) = subst (Follows p fresh s (record { word = w; pos = p } ∷ us) r) (sym d ∙ e) (us, refl, h)
follows p fresh s _ _ q e (refuses _ _ _ c d) = subst (Follows p fresh s [] (Some (fault_at c p))) (sym d ∙ e) (refl, refl)

same_reading : (p : Pos) (fresh : Bool) (s : List ℕ) (ts us : List Token) (r q : Option TokenFault) → Reads p fresh s ts r → Reads p fresh s us q → (ts ≡ us) × (r ≡ q)
same_reading p fresh s _ us _ q (ends _ _ _ e) h =
    let f = follows p fresh s us q End e h in
    (sym f.0, sym f.1)
same_reading p fresh s ts us r q (passes _ _ _ n still _ _ e k) h =
    same_reading (pos_past p (take n s)) still (drop n s) ts us r q k (follows p fresh s us q (Space n still) e h)
same_reading p fresh s _ us r q (finds _ _ _ n w vs _ e k) h =
    let f = follows p fresh s us q (Spelling n w) e h in
    let g = same_reading (pos_past p (take n s)) false (drop n s) vs f.0 r q k f.2 in
    (ap (λ (xs : List Token). record { word = w; pos = p } ∷ xs) g.0 ∙ sym f.1, g.1)
same_reading p fresh s _ us _ q (refuses _ _ _ c e) h =
    let f = follows p fresh s us q (Refused c) e h in
    (sym f.0, sym f.1)

pub each_is_read_once : EachIsReadOnce
each_is_read_once p fresh s = record { reading = reading p fresh s; one = same_reading p fresh s }

-- ---- answers
some_answer : (source : List ℕ) (ts : List Token) (r : Option TokenFault) → Reads first_pos true source ts r → (most < length ts) ⊎ (length ts ≤ most) → SourceAnswer source
some_answer source ts r h (inl l) = too_many (record { tokens = ts; rest = r; reads = h; above = l })
some_answer source ts None h (inr l) = lexed ts (h, l)
some_answer source ts (Some fault) h (inr l) = refused fault (record { tokens = ts; stops = h; within = l })

not_both : (fault : TokenFault) → None ≡ Some fault → ⊥
not_both fault e = cc

same_some : (fault other : TokenFault) → Some fault ≡ Some other → fault ≡ other
same_some fault other e = cc

above_most : (ts us : List Token) → ts ≡ us → length ts ≤ most → most < length us → ⊥
above_most ts us e h k = let n : length ts ≡ length us = ap length e in absurd (omega arith)

pub each_has_one_answer : EachHasOneAnswer
each_has_one_answer source =
    let all = reading first_pos true source in
    let one : (ts us : List Token) (r q : Option TokenFault) → Reads first_pos true source ts r → Reads first_pos true source us q → (ts ≡ us) × (r ≡ q) = same_reading first_pos true source in
    record {
      some = some_answer source all.tokens all.rest all.reads (cases_lt most (length all.tokens));
      same_tokens = λ ts us h k. (one ts us None None h.0 k.0).0;
      same_fault = λ fault other h k. same_some fault other (one h.tokens k.tokens (Some fault) (Some other) h.stops k.stops).1;
      not_lexed = λ ts fault h k. not_both fault (one ts k.tokens None (Some fault) h.0 k.stops).1;
      not_few = λ ts h k. above_most ts k.tokens (one ts k.tokens None k.rest h.0 k.reads).0 h.1 k.above;
      not_within = λ fault h k. above_most h.tokens k.tokens (one h.tokens k.tokens (Some fault) k.rest h.stops k.reads).0 h.within k.above;
    }
