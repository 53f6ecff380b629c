-- What environments of a shop are to the reference analysis with its domain of intervals: the same intervals, in lists of its
-- own, where None stands for the dead one.
use Rattle.std.specs.Prelude.{◌≡◌, ℕ, ◌<◌, ℤ, pos, Bool, true, false, length, Option, None, Some, option_map}
use Rattle.sa_interval.specs.Span.{Span}
use Rattle.sa_env.specs.declared.env.Env.{Env}
use Rattle.sa_env.specs.declared.form.Form.{Form}
use Rattle.sa_env.specs.Flat.{Flat, dead, live, Limits, IsFair, clock_of, cell_of, assigned, join, is_below, ticked, spread}
use Rattle.sa_env.specs.Forms.{IsForm, imposed}
use Rattle.sa_env.specs.Shop.{Stock, flat_of}
use Rattle.sa_flat.specs.Intervals as reference
use Rattle.sa_flat.specs.Meanings.{either}
use Rattle.sa_flat.specs.Passes.{alive_then}

-- what a flat environment is there
abbrev pub opened : Flat → Option reference.Flat
opened dead = None
opened (live clock cells) = Some (record { clock = clock; cells = cells })

-- what an environment of a shop stands for
abbrev pub state_of : Stock → Env → Option reference.Flat
state_of s e = opened (flat_of s e)

-- each cell's range is that of its type, and the last clocks are one
pub record AreLimitsOf (r : reference.Limits) (l : Limits) : Type 0 where
  pub tops : l.tops ≡ reference.ranges r.nums
  pub clock : r.max_clock ≡ pos l.max_clock

abbrev pub whether_below : Option reference.Flat → Option reference.Flat → Bool
whether_below None b = true
whether_below (Some a) None = false
whether_below (Some a) (Some b) = reference.le_of a b

abbrev pub both_alive : Option reference.Flat → Option reference.Flat → (reference.Flat → reference.Flat → reference.Flat) → Option reference.Flat
both_alive None b go = b
both_alive (Some a) None go = Some a
both_alive (Some a) (Some b) go = Some (go a b)

-- the operations of both are the same
pub record Agree (r : reference.Limits) (l : Limits) : Type 0 where
  pub clock : (e : Flat) → clock_of e ≡ option_map (λ a. a.clock) (opened e)
  pub cell : (c : ℕ) (e : Flat) → c < length l.tops → IsFair l e → cell_of c e ≡ option_map (reference.cell_of c) (opened e)
  pub assigned : (c : ℕ) (v : Span) (e : Flat) → opened (assigned c v e) ≡ option_map (reference.with_cell c v) (opened e)
  pub imposed : (f : Form) (k : ℤ) (e : Flat) → IsForm l.tops f → IsFair l e → opened (imposed f k e) ≡ alive_then (opened e) (reference.impose_of f k)
  pub join : (a b : Flat) → opened (join a b) ≡ either (reference.intervals r) (opened a) (opened b)
  pub below : (a b : Flat) → is_below a b ≡ whether_below (opened a) (opened b)
  pub ticked : (e : Flat) → opened (ticked l e) ≡ alive_then (opened e) (reference.tick_of r)
  pub spread : (pass : ℕ) (a b : Flat) → opened (spread l r.thresholds pass a b) ≡ both_alive (opened a) (opened b) (reference.widen_of r pass)
  pub top : (clock : Span) → opened (live clock l.tops) ≡ Some (reference.top_of r clock)
