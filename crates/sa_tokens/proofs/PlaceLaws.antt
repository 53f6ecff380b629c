-- Each token stands in its source.
use Rattle.std.proofs.Common.{◌≡◌, ℕ, ◌+◌, ◌-◌, ◌≤◌, List, ◌++◌, Bool, true, false, length, take, drop, refl, ap, sym, subst, ◌∙◌, arith, Option}
use Rattle.std.specs.Prelude.{All}
use Rattle.std.proofs.Math.Seq.{take-add}
use Rattle.std.proofs.lemmas.List.{length-drop, drop-drop}
use Rattle.std.proofs.lemmas.List.Elements.{All-nil, All-cons}
use Rattle.std.proofs.lemmas.List.Sums.{fold-append}
use Rattle.sa_base.specs.declared.pos.Pos.{Pos}
use Rattle.sa_tokens.specs.declared.token.Token.{Token}
use Rattle.sa_tokens.specs.declared.fault.TokenFault.{TokenFault}
use Rattle.sa_tokens.specs.declared.piece.Piece.{Piece}
use Rattle.sa_tokens.specs.declared.piece.Piece.TheVariants.{Space, Spelling}
use Rattle.sa_tokens.specs.Pieces.{piece_at}
use Rattle.sa_tokens.specs.Lexed.{first_pos, pos_after, pos_past, end_pos, Reads, ends, passes, finds, refuses}
use Rattle.sa_tokens.specs.Laws.{StandsIn, EachTokenStands}
use Rattle.sa_tokens.proofs.PieceLemmas.{FitsIn, piece-fits}
use Rattle.sa_tokens.proofs.PosLemmas.{pos_past-none}

pos_past-append : (p : Pos) (xs ys : List ℕ) → pos_past p (xs ++ ys) ≡ pos_past (pos_past p xs) ys
unfolding pos_past
pos_past-append p xs ys = fold-append pos_after p xs ys

-- the place after a part is that after what stands before it, and then the part
place_after : (source s : List ℕ) (at n : ℕ) (p : Pos) → s ≡ drop at source → p ≡ end_pos (take at source) → pos_past p (take n s) ≡ end_pos (take (at + n) source)
place_after source s at n p e h =
    ap (λ (q : Pos). pos_past q (take n s)) h ∙ ap (λ (xs : List ℕ). pos_past (end_pos (take at source)) (take n xs)) e ∙
    sym (pos_past-append first_pos (take at source) (take n (drop at source))) ∙ ap (pos_past first_pos) (sym (take-add at n source))

rest_after : (source s : List ℕ) (at n : ℕ) → s ≡ drop at source → drop n s ≡ drop (at + n) source
rest_after source s at n e = ap (drop n) e ∙ drop-drop n at source

fits : (fresh : Bool) (source s : List ℕ) (at : ℕ) (q : Piece) → s ≡ drop at source → piece_at fresh s ≡ q → FitsIn (length source - at) q
fits fresh source s at q e h =
    let n : length s ≡ length source - at = ap length e ∙ length-drop at source in
    subst (FitsIn (length source - at)) h (subst (λ (m : ℕ). FitsIn m (piece_at fresh s)) n (piece-fits fresh s))

stands : (source : List ℕ) (at : ℕ) (p : Pos) (fresh : Bool) (s : List ℕ) (ts : List Token) (r : Option TokenFault) → Reads p fresh s ts r →
    s ≡ drop at source → p ≡ end_pos (take at source) → at ≤ length source → All (StandsIn source) ts
stands source at p fresh s _ _ (ends _ _ _ h) e q l = All-nil (StandsIn source)
stands source at p fresh s _ _ (refuses _ _ _ c h) e q l = All-nil (StandsIn source)
stands source at p fresh s ts r (passes _ _ _ n still _ _ h k) e q l =
    let f : FitsIn (length source - at) (Space n still) = fits fresh source s at (Space n still) e h in
    let within : n ≤ length source - at = f.1 in
    stands source (at + n) (pos_past p (take n s)) still (drop n s) ts r k (rest_after source s at n e) (place_after source s at n p e q) (omega arith)
stands source at p fresh s _ r (finds _ _ _ n w ts _ h k) e q l =
    let f : FitsIn (length source - at) (Spelling n w) = fits fresh source s at (Spelling n w) e h in
    let within : n ≤ length source - at = f.1 in
    let here : StandsIn source (record { word = w; pos = p }) = record {
      at = at;
      len = n;
      fresh = fresh;
      within = omega arith;
      place = q;
      piece = ap (piece_at fresh) (sym e) ∙ h;
    } in
    All-cons (StandsIn source) (record { word = w; pos = p }) ts here
    (stands source (at + n) (pos_past p (take n s)) false (drop n s) ts r k (rest_after source s at n e) (place_after source s at n p e q) (omega arith))

pub each_token_stands : EachTokenStands
each_token_stands source ts r h = stands source 0 first_pos true source ts r h refl (sym (pos_past-none first_pos)) (omega arith)
