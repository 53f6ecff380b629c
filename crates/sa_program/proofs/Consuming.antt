-- What a buffer holds of a reader that tells its bytes.
use Rattle.std.proofs.Common.{◌≡◌, ℕ, ◌+◌, ◌≤◌, List, ◌++◌, Option, None, Some, Err, length, take, drop, ap, sym, ◌∙◌, subst, arith, append_assoc, refl, drop_at, length-take-le}
use Rattle.std.proofs.Math.Seq.{take-append-add, take-append_seam, take-take}
use Rattle.std.proofs.lemmas.List.{take-append-le, length-append}
use Rattle.std.proofs.KnownBytes.{Consumes-trans, starts_with_rest}
use Rattle.std.specs.Io.{StartsWith}
use Rattle.std.specs.Io.KnownBytes.{Consumes}
use Rattle.sa_outside.specs.declared.shelf.ShelfError.{ShelfError}
use Rattle.sa_outside.specs.declared.shelf.ShelfError.TheVariants.{Failed, TooLong, OutOfMemory}
use Rattle.sa_program.specs.Reads.{FitsReader}

-- past the first `len` items of a list into which `part` was written there, the next n are those of `part`
pub written_part : (len n cap : ℕ) (all part rest more : List ℕ) → len ≤ length all → n ≤ length part → len + n ≤ cap
    → drop len (take (len + n) (take cap (take len all ++ (part ++ rest) ++ more))) ≡ take n part
written_part len n cap all part rest more within fits room =
    let front = take len all in
    let long : length front ≡ len = length-take-le len all within in
    let inner : n ≤ length (part ++ rest) = omega (arith, length-append part rest) in
    ap (drop len) (
    take-take (len + n) cap (front ++ (part ++ rest) ++ more) room
    ∙ (ap (take (len + n)) (append_assoc front (part ++ rest) more)
    ∙ (ap (λ k. take (k + n) (front ++ ((part ++ rest) ++ more))) (sym long)
    ∙ take-append-add front ((part ++ rest) ++ more) n)))
    ∙ (drop_at front (take n ((part ++ rest) ++ more)) len long
    ∙ (take-append-le n (part ++ rest) more inner ∙ take-append-le n part rest fits))

-- what was read before, and what one read more appended
pub consumes_more : (a b c : Option (List ℕ)) (old new : List ℕ) → Consumes a b old → StartsWith new old → Consumes b c (drop (length old) new) → Consumes a c new
consumes_more a b c old new before starts more =
    subst (Consumes a c) (sym (starts_with_rest new old starts)) (Consumes-trans a b c old (drop (length old) new) before more)

-- after a refusal that isn't for the length, what was read is a prefix
pub refusal_fits : (e : ShelfError) (a b : Option (List ℕ)) (limit : ℕ) (got : List ℕ) → (e ≡ TooLong → ⊥) → Consumes a b got → FitsReader {T = Unit {0}} a limit (Err e) got
refusal_fits e None b limit got h read = tt
refusal_fits e (Some xs) None limit got h read = absurd read
refusal_fits Failed (Some xs) (Some ys) limit got h read = sym (ap (take (length got)) read ∙ take-append_seam got ys)
refusal_fits TooLong (Some xs) (Some ys) limit got h read = absurd (h refl)
refusal_fits OutOfMemory (Some xs) (Some ys) limit got h read = sym (ap (take (length got)) read ∙ take-append_seam got ys)
