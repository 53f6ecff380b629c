-- No promise of the top calls rests on this page: it is for laws beside them, for proofs and for inner functions.
-- What the steps of an access have led to so far.
use Rattle.std.specs.Prelude.{ℕ, ◌+◌, ◌≡◌, ◌≤◌, ◌<◌, ℤ, pos, List, [], ◌∷◌, length, Option, MatchOption, nat_le, nat_lt}
use Rattle.std.specs.Int.RustNames.{int_le}
use Rattle.std.specs.List.{All}
use Rattle.sa_typed.specs.Layouts.{Layout}
use Rattle.sa_typed.specs.declared.program.Program.{Program}
use Rattle.sa_reference.specs.declared.reach.Reach.{Reach}
use Rattle.sa_reference.specs.Values.{named}
use Rattle.sa_cells.specs.declared.place.Place.{Place}
use Rattle.sa_cells.specs.Sizes.{size, among}
use Rattle.sa_cells.specs.Reached.{reached}

abbrev pub place_layout : Program → Place → Layout
place_layout p q = among p.structs q.structs (record { dims = q.dims.now; plain = q.plain })

-- so many cells from each of these numbers on are cells
abbrev pub AreInside : ℕ → List ℕ → Type 0
AreInside n os = All (λ o. o + n ≤ 65536) os

pub record IsPlace (p : Program) (q : Place) : Type 0 where
  pub known : q.structs ≤ length p.structs
  pub cells : q.cells ≡ size (place_layout p q)
  pub small : q.cells ≤ 65536
  pub inside : AreInside q.cells q.firsts.items

-- a step from one place to another
pub record IsNext (p : Program) (r : Reach) (q n : Place) : Type 0 where
  pub place : IsPlace p n
  pub same : (rs : List Reach) → reached (r ∷ rs) (place_layout p q) q.firsts.items ≡ reached rs (place_layout p n) n.firsts.items

pub record IsNowhere (p : Program) (r : Reach) (q : Place) : Type 0 where
  pub none : (rs : List Reach) → reached (r ∷ rs) (place_layout p q) q.firsts.items ≡ []

abbrev pub Leads : Program → Reach → Place → Option Place → Type 0
Leads p r q o = MatchOption o (IsNowhere p r q) (IsNext p r q)

pub record IsStart (p : Program) (v : ℕ) (n : Place) : Type 0 where
  pub place : IsPlace p n
  pub same : (rs : List Reach) → named p v rs ≡ reached rs (place_layout p n) n.firsts.items

pub record IsNoStart (p : Program) (v : ℕ) : Type 0 where
  pub none : (rs : List Reach) → named p v rs ≡ []

abbrev pub Begins : Program → ℕ → Option Place → Type 0
Begins p v o = MatchOption o (IsNoStart p v) (IsStart p v)

-- so many of the indices below n are below z
pub record IsCountBelow (z : ℤ) (n c : ℕ) : Type 0 where
  pub most : c ≤ n
  pub tests : (k : ℕ) → k < n → int_le z (pos k) ≡ nat_le c k

-- so many of the indices below n are at most z
pub record IsCountUpTo (z : ℤ) (n c : ℕ) : Type 0 where
  pub most : c ≤ n
  pub tests : (k : ℕ) → k < n → int_le (pos k) z ≡ nat_lt k c
