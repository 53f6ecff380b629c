-- Places at tokens of a text whose tokens stand one after the other stand one after the other.
use Rattle.std.proofs.Common.{◌≡◌, ℕ, zero, suc, ◌<◌, List, [], ◌∷◌, Some}
use Rattle.std.specs.Prelude.{slice_get}
use Rattle.sa_base.specs.declared.pos.Pos.{Pos}
use Rattle.sa_tokens.specs.declared.token.Token.{Token}
use Rattle.sa_syntax.specs.Places.{IsBefore, Rise, places_of, PlacesRise}
use Rattle.sa_syntax.proofs.Passing.{Passes}
use Rattle.sa_syntax.proofs.PassingStmt.{outermost-pass}

-- a place that is passed is that of a token
passed : {ts us : List Token} {ps : List Pos} → Passes ts ps us → (i : ℕ) (q : Pos) → slice_get ps i ≡ Some q → (j : ℕ) × (slice_get (places_of ts) j ≡ Some q)
unfolding places_of
passed Passes.stop i q h = cc
passed (Passes.past k) i q h = let x = passed k i q h in (suc x.0, x.1)
passed (Passes.here k) zero q h = (0, h)
passed (Passes.here k) (suc i) q h = let x = passed k i q h in (suc x.0, x.1)

rising : {ts us : List Token} {ps : List Pos} → Passes ts ps us → Rise (places_of ts) → Rise ps
unfolding places_of Rise
rising Passes.stop r = tt
rising (Passes.past k) r = rising k r.1
rising (Passes.here k) r = (λ i q h. let x = passed k i q h in r.0 x.0 q x.1, rising k r.1)

pub places-rise : PlacesRise
places-rise ns n ts us is o r = rising (outermost-pass o) r
