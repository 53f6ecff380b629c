-- No promise of the top calls rests on this page: it is for laws beside them, for proofs and for inner functions.
-- What a set of names has.
use Rattle.std.specs.Prelude.{ℕ, ◌≡◌, List, Bool, Vec}
use Rattle.std.specs.Ordering.{nat_cmp}
use Rattle.std.specs.Option.{is_some}
use Rattle.std.specs.Cmp.Lexicographic.{slice_cmp}
use Rattle.std.specs.BTreeMap.{BTreeMap, get_by}
use Rattle.sa_syntax.specs.Words.{Names, is_type_name}

abbrev pub is_known : {Y X : Type 0} → BTreeMap (Vec ℕ Y) X → List ℕ → Bool
is_known known w = is_some (get_by (λ k. slice_cmp nat_cmp w k.items) known)

-- the set has these names alone
abbrev pub Knows : {Y X : Type 0} → BTreeMap (Vec ℕ Y) X → Names → Type 0
Knows known ns = (w : List ℕ) → is_known known w ≡ is_type_name ns w
