-- Environments as statements meet them, and what is said of a state in one: predicates that merging, the order and reduction keep.
use Rattle.std.proofs.Common.{◌≡◌, ℕ, ℤ, Bool, true, false, Option, Some, None}
use Rattle.std.specs.Prelude.{if◌then◌else◌}
use Rattle.sa_flat.specs.Domain.{Domain}
use Rattle.sa_flat.specs.Meanings.{Cells, either}
use Rattle.sa_flat.specs.Passes.{alive_then}
use Rattle.sa_flat.proofs.Lawful.{Lawful, Frame, IfAlive, AliveAnd}

pub if_keeps : {A : Type 0} (P : A → Type 0) (b : Bool) (x y : A) → P x → P y → P (if b then x else y)
if_keeps P true x y p q = p
if_keeps P false x y p q = q

pub alive_keeps : {A B : Type 0} (P : A → Type 0) (Q : B → Type 0) (o : Option A) (go : A → Option B) → IfAlive P o → ((a : A) → P a → IfAlive Q (go a)) → IfAlive Q (alive_then o go)
alive_keeps P Q None go h k = tt
alive_keeps P Q (Some a) go h k = k a h

pub if_alive_is : {A : Type 0} (P Q : A → Type 0) (o : Option A) → ((a : A) → P a → Q a) → IfAlive P o → IfAlive Q o
if_alive_is P Q None k h = tt
if_alive_is P Q (Some a) k h = k a h

pub alive_is : {A : Type 0} (P Q : A → Type 0) (o : Option A) → ((a : A) → P a → Q a) → AliveAnd P o → AliveAnd Q o
alive_is P Q None k h = absurd h
alive_is P Q (Some a) k h = k a h

-- of one that isn't dead, what it keeps besides
pub alive_both : {A : Type 0} (P Q : A → Type 0) (o : Option A) → AliveAnd P o → IfAlive Q o → AliveAnd (λ a. P a × Q a) o
alive_both P Q None h k = absurd h
alive_both P Q (Some a) h k = (h, k)

pub alive_on : {A B : Type 0} (P : A → Type 0) (Q : B → Type 0) (o : Option A) (go : A → Option B) → AliveAnd P o → ((a : A) → P a → AliveAnd Q (go a)) → AliveAnd Q (alive_then o go)
alive_on P Q None go h k = absurd h
alive_on P Q (Some a) go h k = k a h

module _ (x : Cells) (D : Domain) (L : Lawful x D) where
  pub record Good (f : Frame) (e : D.Env) : Type 0 where
    pub under : L.Under f e
    pub closed : L.Closed e

  abbrev pub GoodIf : Frame → Option D.Env → Type 0
  GoodIf f o = IfAlive (Good f) o

  pub pair_good : (f : Frame) (e : D.Env) → (L.Under f e × L.Closed e) → Good f e
  pair_good f e h = record { under = h.0; closed = h.1 }

  pub good_if : (f : Frame) (o : Option D.Env) → IfAlive (λ e. L.Under f e × L.Closed e) o → GoodIf f o
  good_if f None h = tt
  good_if f (Some e) h = pair_good f e h

  pub merge_good : (f : Frame) (a b : D.Env) → Good f a → Good f b → Good f (D.merge a b)
  merge_good f a b h k = pair_good f (D.merge a b) (L.merge_keeps f a b h.under h.closed k.under k.closed)

  pub either_good : (f : Frame) (a b : Option D.Env) → GoodIf f a → GoodIf f b → GoodIf f (either D a b)
  either_good f None b h k = k
  either_good f (Some a) None h k = h
  either_good f (Some a) (Some b) h k = merge_good f a b h k

  -- what may be said of an environment
  pub record Stable (P : D.Env → Type 0) : Type 0 where
    pub left : (f : Frame) (a b : D.Env) → Good f a → Good f b → P a → P (D.merge a b)
    pub right : (f : Frame) (a b : D.Env) → Good f a → Good f b → P b → P (D.merge a b)
    pub below : (f : Frame) (a b : D.Env) → L.Under f a → L.Under f b → D.le a b ≡ true → P a → P b
    pub reduced : (f : Frame) (a : D.Env) → L.Under f a → P a → AliveAnd P (D.reduce x.all a)

  pub either_left : (P : D.Env → Type 0) → Stable P → (f : Frame) (a b : Option D.Env) → GoodIf f a → GoodIf f b → AliveAnd P a → AliveAnd P (either D a b)
  either_left P s f None b u v h = absurd h
  either_left P s f (Some a) None u v h = h
  either_left P s f (Some a) (Some b) u v h = s.left f a b u v h

  pub either_right : (P : D.Env → Type 0) → Stable P → (f : Frame) (a b : Option D.Env) → GoodIf f a → GoodIf f b → AliveAnd P b → AliveAnd P (either D a b)
  either_right P s f None b u v h = h
  either_right P s f (Some a) None u v h = absurd h
  either_right P s f (Some a) (Some b) u v h = s.right f a b u v h

  -- ---- points
  -- a number for each cell, of those that the cell may have
  abbrev pub Pick : (ℕ → ℤ → Type 0) → (ℕ → ℤ) → Type 0
  Pick has at = (c : ℕ) → has c (at c)

  -- the environment holds where cells have these numbers, at this clock
  abbrev pub Holds : (ℕ → ℤ → Type 0) → ℤ → D.Env → Type 0
  Holds has time e = (at : ℕ → ℤ) → Pick has at → D.Point e at time

  -- all points lie in what isn't dead for one of them
  pub alive_all : {A : Type 0} (has : ℕ → ℤ → Type 0) (one : ℕ → ℤ) → Pick has one → (P : A → (ℕ → ℤ) → Type 0) (o : Option A) →
      ((at : ℕ → ℤ) → Pick has at → AliveAnd (λ a. P a at) o) → AliveAnd (λ a. (at : ℕ → ℤ) → Pick has at → P a at) o
  alive_all has one p P None h = absurd (h one p)
  alive_all has one p P (Some a) h = h

  pub holds_stable : (has : ℕ → ℤ → Type 0) (time : ℤ) (one : ℕ → ℤ) → Pick has one → Stable (Holds has time)
  holds_stable has time one p = record {
    left = λ f a b u v h at q. L.merge_left f a b at time u.under v.under (h at q);
    right = λ f a b u v h at q. L.merge_right f a b at time u.under v.under (h at q);
    below = λ f a b u v le h at q. L.le_sound f a b at time u v le (h at q);
    reduced = λ f a u h. alive_all has one p (λ e at. D.Point e at time) (D.reduce x.all a) (λ at q. L.reduce_sound f a at time u (h at q));
  }
