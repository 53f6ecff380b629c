-- How long a way is: a tree of at most 2 ^ d slots has at most d + 1 nodes on each.
use Rattle.std.proofs.Common.{◌≡◌, ℕ, zero, suc, ◌+◌, ◌-◌, ◌/◌, ◌^◌, ◌≤◌, length, Bool, true, false, sym, subst, arith}
use Rattle.std.specs.Prelude.{nat_lt, if◌then◌else◌}
use Rattle.std.proofs.Math.Nat.{two-pow-succ}
use Rattle.sa_shared.specs.Forest.{Forest}
use Rattle.sa_shared.specs.Tree.{Tree, empty, leaf, fork, values, IsBalanced, way_length}

-- whichever half the way goes on in
either : (b : Bool) (x y d : ℕ) → x ≤ d + 1 → y ≤ d + 1 → (1 + (if b then x else y)) ≤ suc d + 1
either true x y d h k = omega (arith, h)
either false x y d h k = omega (arith, k)

pub way_within : {T : Type 0} (d m k : ℕ) (t : Tree T) → IsBalanced m t → m ≤ 2 ^ d → way_length t k ≤ d + 1
way_within d m k (empty n) shape few = omega arith
way_within d m k (leaf n x) shape few = omega arith
way_within zero m k (fork n s t) shape few = let some = shape.0 in omega (arith, some, few)
way_within (suc d) m k (fork n s t) shape few =
    let doubled = two-pow-succ d in
    let front = way_within d (m - m / 2) k s shape.1 (omega (arith, few, doubled)) in
    let behind = way_within d (m / 2) (k - length (values s)) t shape.2 (omega (arith, few, doubled)) in
    either (nat_lt k (length (values s))) (way_length s k) (way_length t (k - length (values s))) d front behind

-- the same of equal forests
pub slots_of : {T : Type 0} (f g : Forest T) (most : ℕ) → f ≡ g → g.slots ≤ most → f.slots ≤ most
slots_of {T} f g most e h = subst (λ (x : Forest T). x.slots ≤ most) (sym e) h

pub nodes_of : {T : Type 0} (f g : Forest T) (n more : ℕ) → f ≡ g → n ≤ length f.nodes + more → n ≤ length g.nodes + more
nodes_of {T} f g n more e h = subst (λ (x : Forest T). n ≤ length x.nodes + more) e h
