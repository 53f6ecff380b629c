-- No promise of the top calls rests on this page: it is for laws beside them, for proofs and for inner functions.
-- The passes of a loop, over any domain and any turn (widening: Cousot and Cousot 1977). The schedule is this
-- project's own: three joins, then widening, and at last the peak, so that no loop takes more than 32 passes.
use Rattle.std.specs.Prelude.{ℕ, zero, suc, ◌+◌, List, if◌then◌else◌, nat_le, Option, Some, None}
use Rattle.sa_flat.specs.Domain.{Domain}

-- the number of the stable pass, and the stable state
pub record Facts (Env : Type 0) : Type 0 where
  pub passes : ℕ
  pub state : Option Env

abbrev pub alive_then : {A B : Type 0} → Option A → (A → Option B) → Option B
alive_then None go = None
alive_then (Some a) go = go a

-- over a domain with these cells
module _ (D : Domain) (cells : List ℕ) where
  -- the state from which pass p begins: the iterate before it, reduced from the fourth on
  abbrev pub rested : ℕ → D.Env → Option D.Env
  rested p i = if nat_le p 4 then Some i else D.reduce cells i

  -- the merge of the entry with an environment that may be dead
  abbrev pub joined : D.Env → Option D.Env → D.Env
  joined s None = s
  joined s (Some e) = D.merge s e

  -- the iterate of pass p, where it isn't stable
  abbrev pub next : D.Env → ℕ → D.Env → D.Env → D.Env
  next peak p i j = if nat_le p 3 then D.merge i j else (if nat_le p 30 then D.widen p i j else peak)

  -- the merge of the entry with the end of one turn
  abbrev pub turned : (D.Env → Option D.Env) → D.Env → ℕ → D.Env → D.Env
  turned turn s p i = joined s (alive_then (rested p i) turn)

  -- pass p and at most `left` more, from the iterate i; the entry is s
  unfoldable pub passes_from : (D.Env → Option D.Env) → D.Env → D.Env → ℕ → ℕ → D.Env → Facts D.Env
  passes_from turn peak s zero p i = record { passes = p; state = rested p i }
  passes_from turn peak s (suc left) p i =
      if D.le (turned turn s p i) i then record { passes = p; state = rested p i }
      else passes_from turn peak s left (p + 1) (next peak p i (turned turn s p i))

  -- pass 32 is stable, since the iterate of pass 31 is the peak
  unfoldable pub facts_of : (D.Env → Option D.Env) → D.Env → D.Env → Facts D.Env
  facts_of turn peak s = passes_from turn peak s 31 1 s
