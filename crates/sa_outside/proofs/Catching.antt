-- What a sink with room for some bytes keeps of more.
use Rattle.std.proofs.Common.{◌≡◌, ℕ, ◌+◌, ◌-◌, ◌≤◌, min, List, ◌++◌, length, take, ap, ◌∙◌, sym, arith, length-append}
use Rattle.std.proofs.Math.Seq.{take-append-add}
use Rattle.std.proofs.lemmas.List.{take_min}

-- what is kept is the beginning of all
pub kept_is : (room : ℕ) (kept bytes : List ℕ) → length kept ≤ room → take room (kept ++ bytes) ≡ kept ++ take (min (length bytes) (room - length kept)) bytes
kept_is room kept bytes h =
    let left = room - length kept in
    let split : room ≡ length kept + left = omega arith in
    let least : min (length bytes) left ≡ min left (length bytes) = omega arith in
    ap (λ n. take n (kept ++ bytes)) split
    ∙ (take-append-add kept bytes left
    ∙ ap (λ xs. kept ++ xs) (sym (ap (λ n. take n bytes) least ∙ take_min left bytes)))

-- what is not kept is what is past the room
pub rest_is : (room : ℕ) (kept bytes : List ℕ) → length kept ≤ room → length (kept ++ bytes) - room ≡ length bytes - min (length bytes) (room - length kept)
rest_is room kept bytes h = omega (arith, length-append kept bytes)
