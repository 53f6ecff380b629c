-- The first row that holds, of rows one after another.
use Rattle.std.proofs.Common.{◌≡◌, ◌⊎◌, ℕ, List, [], ◌∷◌, ◌++◌, Bool, true, false, refl, sym, ap, ◌∙◌, Option, Some, None}
use Rattle.std.specs.Prelude.{if◌then◌else◌, not, is_some}
use Rattle.std.specs.Prelude.{Result, Err}
use Rattle.serde_json.specs.Data.{Data, Members, no_members, member}
use Rattle.sa_typed.specs.Ranges.{InputRanges}
use Rattle.sa_ranges.specs.Answer.{IsFault}
use Rattle.sa_ranges.specs.Table.{Row, first, name_row, name_rows, begin_well, all_fit, Tells}
use Rattle.sa_ranges.specs.Told.{told}
use Rattle.sa_ranges.specs.declared.fault.RangesFault.{RangesFault}
use Rattle.sa_ranges.specs.declared.fault.RangesFault.TheVariants.{NotJson, Shape, Name, Spans, Bounds, OutOfMemory}
use Rattle.sa_ranges.specs.declared.inputs.Allowed.{Allowed}
use Rattle.sa_ranges.specs.declared.told.Told.{Told}
use Rattle.sa_ranges.specs.declared.told.Version.{Version}

pub passed : (f : RangesFault) (b : Bool) (rs : List Row) → b ≡ false → first ((b, f) ∷ rs) ≡ first rs
unfolding first
passed f b rs e = rw e refl

pub held : (f : RangesFault) (b : Bool) (rs : List Row) → b ≡ true → first ((b, f) ∷ rs) ≡ Some f
unfolding first
held f b rs e = rw e refl

pub behind : (xs ys : List Row) → first xs ≡ None → first (xs ++ ys) ≡ first ys
unfolding first
behind [] ys e = refl
behind ((b, f) ∷ xs) ys e =
    elim b as (λ b. (if b then Some f else first xs) ≡ None → (if b then Some f else first (xs ++ ys)) ≡ first ys) [
      | true ↦ λ no. absurd cc
      | false ↦ λ rest. behind xs ys rest
    ] e

pub before : (xs ys : List Row) (f : RangesFault) → first xs ≡ Some f → first (xs ++ ys) ≡ Some f
unfolding first
before [] ys f e = absurd cc
before ((b, g) ∷ xs) ys f e =
    elim b as (λ b. (if b then Some g else first xs) ≡ Some f → (if b then Some g else first (xs ++ ys)) ≡ Some f) [
      | true ↦ λ is. is
      | false ↦ λ rest. before xs ys f rest
    ] e

-- where no row holds, none of its parts does
pub parted : (xs ys : List Row) → first (xs ++ ys) ≡ None → (first xs ≡ None) × (first ys ≡ None)
unfolding first
parted [] ys e = (refl, e)
parted ((b, f) ∷ xs) ys e =
    elim b as (λ b. (if b then Some f else first (xs ++ ys)) ≡ None → ((if b then Some f else first xs) ≡ None) × (first ys ≡ None)) [
      | true ↦ λ no. absurd cc
      | false ↦ λ rest. parted xs ys rest
    ] e

pub not_held : (f : RangesFault) (b : Bool) (rs : List Row) → first ((b, f) ∷ rs) ≡ None → (b ≡ false) × (first rs ≡ None)
unfolding first
not_held f b rs e =
    elim b as (λ b. (if b then Some f else first rs) ≡ None → (b ≡ false) × (first rs ≡ None)) [
      | true ↦ λ no. absurd cc
      | false ↦ λ rest. (refl, rest)
    ] e

pub rows_same : (v : Version) (f g : List ℕ → Option Allowed) → ((n : List ℕ) → f n ≡ g n) → (ms : Members) → name_rows v f ms ≡ name_rows v g ms
unfolding name_rows
rows_same v f g e no_members = refl
rows_same v f g e (member n d ms) = rw (e n, rows_same v f g e ms) refl

-- ---- the rows of a name
pub shape_told : (v : Version) (o : Option Allowed) (n : List ℕ) (d : Data) → told v d ≡ None → first (name_row v o n d) ≡ Some (Shape 6)
unfolding name_row first
shape_told v o n d t = rw t refl

pub name_told : (v : Version) (o : Option Allowed) (n : List ℕ) (d : Data) (ss : List Told) → told v d ≡ Some ss → o ≡ None → first (name_row v o n d) ≡ Some (Name n)
unfolding name_row first
name_told v o n d ss t e = rw (t, e) refl

pub spans_are_told : (v : Version) (o : Option Allowed) (r : Allowed) (n : List ℕ) (d : Data) (ss : List Told) → told v d ≡ Some ss → o ≡ Some r → begin_well ss ≡ false → first (name_row v o n d) ≡ Some (Spans n)
unfolding name_row first
spans_are_told v o r n d ss t e b = rw (t, e, b) refl

pub bounds_are_told : (v : Version) (o : Option Allowed) (r : Allowed) (n : List ℕ) (d : Data) (ss : List Told) → told v d ≡ Some ss → o ≡ Some r → begin_well ss ≡ true → all_fit r ss ≡ false →
    first (name_row v o n d) ≡ Some (Bounds n)
unfolding name_row first
bounds_are_told v o r n d ss t e b f = rw (t, e, b, f) refl

pub nothing_told : (v : Version) (o : Option Allowed) (r : Allowed) (n : List ℕ) (d : Data) (ss : List Told) → told v d ≡ Some ss → o ≡ Some r → begin_well ss ≡ true → all_fit r ss ≡ true → first (name_row v o n d) ≡ None
unfolding name_row first
nothing_told v o r n d ss t e b f = rw (t, e, b, f) refl

-- where nothing is told, what is told of a name is in order
pub record Accepted (v : Version) (o : Option Allowed) (d : Data) : Type 0 where
  pub spans : List Told
  pub told : told v d ≡ Some spans
  pub range : Allowed
  pub found : o ≡ Some range
  pub begin : begin_well spans ≡ true
  pub fit : all_fit range spans ≡ true

-- the row of a name whose range and bytes are found so
pub row_at : (v : Version) (f : List ℕ → Option Allowed) (n n' : List ℕ) (o : Option Allowed) (d : Data) → n ≡ n' → o ≡ f n → name_row v (f n') n' d ≡ name_row v o n d
row_at v f n n' o d e at = rw (sym e, sym at) refl

-- ---- faults
pub tells_more : (rs rs' : List Row) (g : RangesFault) → ((f : RangesFault) → first rs ≡ Some f → first rs' ≡ Some f) → Tells rs g → Tells rs' g
tells_more rs rs' NotJson h t = h NotJson t
tells_more rs rs' (Shape k) h t = h (Shape k) t
tells_more rs rs' (Name n) h t = h (Name n) t
tells_more rs rs' (Spans n) h t = h (Spans n) t
tells_more rs rs' (Bounds n) h t = h (Bounds n) t
tells_more rs rs' OutOfMemory h t = tt

-- the fault of an answer
pub faults_are : (rs : List Row) (told : Result InputRanges RangesFault) (g : RangesFault) → ((f : RangesFault) → first rs ≡ Some f → told ≡ Err f) → Tells rs g → IsFault told g
faults_are rs told NotJson h t = h NotJson t
faults_are rs told (Shape k) h t = h (Shape k) t
faults_are rs told (Name n) h t = h (Name n) t
faults_are rs told (Spans n) h t = h (Spans n) t
faults_are rs told (Bounds n) h t = h (Bounds n) t
faults_are rs told OutOfMemory h t = tt
