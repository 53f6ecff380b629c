-- A source is read piece by piece.
use Rattle.std.proofs.Common.{◌≡◌, ℕ, ◌+◌, ◌-◌, ◌≤◌, List, [], ◌∷◌, ◌++◌, Bool, true, false, length, take, drop, ap, sym, subst, ◌∙◌, arith, Option, Some, None}
use Rattle.std.proofs.lemmas.List.{length-drop, length-take-le, drop-drop, append_assoc, append-nil, take_rest, length-append}
use Rattle.sa_base.specs.declared.pos.Pos.{Pos}
use Rattle.sa_tokens.specs.declared.token.Token.{Token}
use Rattle.sa_tokens.specs.declared.token.Word.{Word}
use Rattle.sa_tokens.specs.declared.fault.TokenFault.{TokenFault}
use Rattle.sa_tokens.specs.declared.piece.Cause.{Cause}
use Rattle.sa_tokens.specs.declared.piece.Cause.TheVariants.{BadByte, BadNumber, OpenComment, Directive}
use Rattle.sa_tokens.specs.declared.piece.Piece.{Piece}
use Rattle.sa_tokens.specs.declared.piece.Piece.TheVariants.{End, Space, Spelling, Refused}
use Rattle.sa_tokens.specs.Pieces.{piece_at}
use Rattle.sa_tokens.specs.Lexed.{first_pos, pos_past, fault_at, most, Reads, ends, passes, finds, refuses, Stops, Lexed, IsLexed, IsRefused, HasTooMany, IsAnswer}
use Rattle.sa_tokens.proofs.PieceLemmas.{FitsIn, piece-fits}
use Rattle.sa_tokens.proofs.ReadingLemmas.{reading}

-- a part up to the end
abbrev pub rest_from : List ℕ → ℕ → List ℕ
rest_from bytes at = take (length bytes - at) (drop at bytes)

pub piece_from : (fresh : Bool) (bytes : List ℕ) (at : ℕ) (q p : Piece) → q ≡ piece_at fresh (rest_from bytes at) → q ≡ p → piece_at fresh (drop at bytes) ≡ p
piece_from fresh bytes at q p e h = ap (piece_at fresh) (sym (take_rest bytes at)) ∙ sym e ∙ h

pub record Within (at n len : ℕ) : Type 0 where
  pub some : 1 ≤ n
  pub within : n ≤ len - at

fits_from : (fresh : Bool) (bytes : List ℕ) (at : ℕ) (p : Piece) → piece_at fresh (drop at bytes) ≡ p → FitsIn (length bytes - at) p
fits_from fresh bytes at p e =
    let f = rw (length-drop at bytes) at (piece-fits fresh (drop at bytes)) in
    subst (FitsIn (length bytes - at)) e f

pub space_within : (fresh : Bool) (bytes : List ℕ) (at n : ℕ) (still : Bool) → piece_at fresh (drop at bytes) ≡ Space n still → Within at n (length bytes)
space_within fresh bytes at n still e = let f = fits_from fresh bytes at (Space n still) e in record { some = f.0; within = f.1 }

pub spelling_within : (fresh : Bool) (bytes : List ℕ) (at n : ℕ) (w : Word) → piece_at fresh (drop at bytes) ≡ Spelling n w → Within at n (length bytes)
spelling_within fresh bytes at n w e = let f = fits_from fresh bytes at (Spelling n w) e in record { some = f.0; within = f.1 }

pub front_length : (bytes : List ℕ) (at n : ℕ) → Within at n (length bytes) → n ≡ length (take n (rest_from bytes at))
front_length bytes at n h =
    rw (take_rest bytes at) (sym (length-take-le n (drop at bytes) (omega (arith, length-drop at bytes, h.within))))

-- what was read before leads to a reading of the whole
abbrev pub Leads : List ℕ → List Token → Pos → Bool → ℕ → Type 0
Leads bytes found pos fresh at = (ts : List Token) (r : Option TokenFault) → Reads pos fresh (drop at bytes) ts r → Reads first_pos true bytes (found ++ ts) r

pub leads_none : (bytes : List ℕ) (found : List Token) → found ≡ [] → Leads bytes found first_pos true 0
leads_none bytes found e ts r h = subst (λ (us : List Token). Reads first_pos true bytes us r) (sym (ap (λ (us : List Token). us ++ ts) e)) h

pub leads_past : (bytes : List ℕ) (found : List Token) (pos after : Pos) (fresh still : Bool) (at n : ℕ) → piece_at fresh (drop at bytes) ≡ Space n still →
    after ≡ pos_past pos (take n (rest_from bytes at)) → Leads bytes found pos fresh at → Leads bytes found after still (at + n)
leads_past bytes found pos after fresh still at n e a k ts r h =
    let a' : after ≡ pos_past pos (take n (drop at bytes)) = a ∙ ap (λ s. pos_past pos (take n s)) (take_rest bytes at) in
    let h' : Reads after still (drop n (drop at bytes)) ts r = subst (λ s. Reads after still s ts r) (sym (drop-drop n at bytes)) h in
    k ts r (passes pos fresh (drop at bytes) n still ts r e (subst (λ (p : Pos). Reads p still (drop n (drop at bytes)) ts r) a' h'))

pub leads_on : (bytes : List ℕ) (found more : List Token) (pos after : Pos) (fresh : Bool) (at n : ℕ) (w : Word) → piece_at fresh (drop at bytes) ≡ Spelling n w →
    after ≡ pos_past pos (take n (rest_from bytes at)) → more ≡ found ++ record { word = w; pos = pos } ∷ [] → Leads bytes found pos fresh at → Leads bytes more after false (at + n)
leads_on bytes found more pos after fresh at n w e a m k ts r h =
    let a' : after ≡ pos_past pos (take n (drop at bytes)) = a ∙ ap (λ s. pos_past pos (take n s)) (take_rest bytes at) in
    let h' : Reads after false (drop n (drop at bytes)) ts r = subst (λ s. Reads after false s ts r) (sym (drop-drop n at bytes)) h in
    let one : Reads first_pos true bytes (found ++ (record { word = w; pos = pos } ∷ ts)) r =
    k (record { word = w; pos = pos } ∷ ts) r (finds pos fresh (drop at bytes) n w ts r e (subst (λ (p : Pos). Reads p false (drop n (drop at bytes)) ts r) a' h')) in
    let same : more ++ ts ≡ found ++ (record { word = w; pos = pos } ∷ ts) = ap (λ (us : List Token). us ++ ts) m ∙ append_assoc found (record { word = w; pos = pos } ∷ []) ts in
    subst (λ (us : List Token). Reads first_pos true bytes us r) (sym same) one

pub lexed_at_end : (bytes : List ℕ) (found : List Token) (pos : Pos) (fresh : Bool) (at : ℕ) → piece_at fresh (drop at bytes) ≡ End → length found ≤ most →
    Leads bytes found pos fresh at → IsLexed bytes found
lexed_at_end bytes found pos fresh at e h k =
    (subst (λ (us : List Token). Lexed bytes us) (append-nil found) (k [] None (ends pos fresh (drop at bytes) e)), h)

refused_at : (bytes : List ℕ) (found : List Token) (pos : Pos) (fresh : Bool) (at : ℕ) (c : Cause) → piece_at fresh (drop at bytes) ≡ Refused c → length found ≤ most →
    Leads bytes found pos fresh at → IsRefused bytes (fault_at c pos)
refused_at bytes found pos fresh at c e h k = record {
  tokens = found;
  stops = subst (λ (us : List Token). Stops bytes us (fault_at c pos)) (append-nil found) (k [] (Some (fault_at c pos)) (refuses pos fresh (drop at bytes) c e));
  within = h;
}

is_answer : (bytes : List ℕ) (c : Cause) (pos : Pos) → IsRefused bytes (fault_at c pos) → IsAnswer bytes (fault_at c pos)
is_answer bytes BadByte pos h = h
is_answer bytes BadNumber pos h = h
is_answer bytes OpenComment pos h = h
is_answer bytes Directive pos h = h

pub answer_at : (bytes : List ℕ) (found : List Token) (pos : Pos) (fresh : Bool) (at : ℕ) (c : Cause) (fault : TokenFault) → piece_at fresh (drop at bytes) ≡ Refused c → fault ≡ fault_at c pos →
    length found ≤ most → Leads bytes found pos fresh at → IsAnswer bytes fault
answer_at bytes found pos fresh at c fault e f h k = subst (IsAnswer bytes) (sym f) (is_answer bytes c pos (refused_at bytes found pos fresh at c e h k))

pub too_many_at : (bytes : List ℕ) (found : List Token) (pos : Pos) (fresh : Bool) (at n : ℕ) (w : Word) → piece_at fresh (drop at bytes) ≡ Spelling n w → length found ≡ most →
    Leads bytes found pos fresh at → HasTooMany bytes
too_many_at bytes found pos fresh at n w e h k =
    let more = reading (pos_past pos (take n (drop at bytes))) false (drop n (drop at bytes)) in
    let ts : List Token = record { word = w; pos = pos } ∷ more.tokens in
    record {
      tokens = found ++ ts;
      rest = more.rest;
      reads = k ts more.rest (finds pos fresh (drop at bytes) n w more.tokens more.rest e more.reads);
      above = omega (arith, length-append found (record { word = w; pos = pos } ∷ more.tokens));
    }
