-- What contracts see of a shop, and what its environments stand for.
use Rattle.std.specs.Prelude.{◌≡◌, ◌≤◌, ◌^◌, ◌≤ℤ◌, ℕ, pos, negsuc, ◌-◌, Bool, List, [], ◌∷◌, length, map, Option, None, Some, ⊤}
use Rattle.std.specs.List.{All}
use Rattle.sa_interval.specs.Span.{Span}
use Rattle.sa_shared.specs.declared.nodes.Root.{Root}
use Rattle.sa_shared.specs.Forest.{Forest, list_of}
use Rattle.sa_shared.specs.Forest as shared
use Rattle.sa_shared.specs.Slots.{EachSlot}
use Rattle.sa_env.specs.declared.slot.SlotValue.{SlotValue}
use Rattle.sa_env.specs.declared.slot.SlotValue.TheVariants.{Cell}
use Rattle.sa_env.specs.declared.env.Env.{Env}
use Rattle.sa_env.specs.declared.env.Env.TheVariants.{Dead, Live}
use Rattle.sa_env.specs.Slots.{spans_of, Alike}
use Rattle.sa_env.specs.Flat.{Flat, dead, live, is_alive, Limits, IsFair}

-- a range whose numbers are at most 2^64 in size
pub record IsNarrow (s : Span) : Type 0 where
  pub low : negsuc (2 ^ 64 - 1) ≤ℤ s.lo
  pub high : s.hi ≤ℤ pos (2 ^ 64)

-- the limits, and the lists of the shop's layer and its base
pub record Stock : Type 0 where
  pub limits : Limits
  pub lists : Forest SlotValue

-- a shop may stand over these lists: they have one slot for each cell, with what may stand there
pub record IsBase (l : Limits) (f : Forest SlotValue) : Type 0 where
  pub slots : f.slots ≡ length l.tops
  pub first : shared.Belongs Alike f f.first
  pub alike : EachSlot Alike (map Cell l.tops) (list_of f f.first)

-- the shop over a base, before anything is made in it
abbrev pub shop_over : Limits → Forest SlotValue → Stock
shop_over l f = record { limits = l; lists = f }

-- what the environment stands for
unfoldable pub flat_of : Stock → Env → Flat
flat_of s Dead = dead
flat_of s (Live clock root) = live clock (spans_of (list_of s.lists root))

-- the environment of a list at a clock
abbrev pub env_at : Option Span → Root → Env
env_at None root = Dead
env_at (Some clock) root = Live clock root

abbrev pub is_live : Stock → Env → Bool
is_live s e = is_alive (flat_of s e)

-- the roots of the live ones
unfoldable pub roots_of : List Env → List Root
roots_of [] = []
roots_of (Dead ∷ es) = roots_of es
roots_of (Live clock root ∷ es) = root ∷ roots_of es

-- the same environments with other roots in place of theirs, one for each live one
unfoldable pub with_roots : List Env → List Root → List Env
with_roots [] rs = []
with_roots (Dead ∷ es) rs = Dead ∷ with_roots es rs
with_roots (Live clock root ∷ es) [] = []
with_roots (Live clock root ∷ es) (r ∷ rs) = Live clock r ∷ with_roots es rs

-- its root names one of the shop's lists
unfoldable pub IsNamed : Stock → Env → Type 0
IsNamed s Dead = ⊤
IsNamed s (Live clock root) = shared.Belongs Alike s.lists root

-- the environment belongs to the shop and is fair
pub record Belongs (s : Stock) (e : Env) : Type 0 where
  pub named : IsNamed s e
  pub fair : IsFair s.limits (flat_of s e)

-- each environment of the old shop is one of the new shop, and stands there for what it stood for
pub record Keeps (old new : Stock) : Type 0 where
  pub limits : new.limits ≡ old.limits
  pub belongs : (e : Env) → Belongs old e → Belongs new e
  pub flats : (e : Env) → Belongs old e → flat_of new e ≡ flat_of old e
