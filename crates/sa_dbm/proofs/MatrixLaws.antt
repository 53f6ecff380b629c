-- From what is stored to the matrix that contracts see.
use Rattle.std.proofs.Common.{◌≡◌, ℕ, ◌+◌, ◌*◌, ◌<◌, ◌≤◌, List, ℤ, length, get_or, Vec, Global, vec_len, sym, subst, ap, ◌∙◌, arith}
use Rattle.std.specs.Vec.{with_items}
use Rattle.std.proofs.lemmas.List.{with_items_is, get_or_default}
use Rattle.std.proofs.lemmas.Nat.{mul-add-lt}
use Rattle.sa_dbm.specs.Tables.{Table, nodes, entry, IsMatrix, top_table}
use Rattle.sa_dbm.specs.Walks.{at_once}
use Rattle.sa_dbm.specs.Stored.{no_bound, shown, shown_at, stored, IsStored}
use Rattle.sa_dbm.proofs.TableLaws.{matrix-top}
use Rattle.sa_dbm.proofs.StoredLaws.{entry-stored, vars-stored, stored_is}

-- a place for a pair of nodes
pub place_inside : (vars : ℕ) (m : Table) (xs : List ℤ) (i j : ℕ) → IsStored vars xs → stored vars xs ≡ m → i < nodes m → j < nodes m → i * (2 * vars) + j < length xs
place_inside vars m xs i j h e p q =
    let same : m.vars ≡ vars = ap (λ (t : Table). t.vars) (sym e) ∙ vars-stored vars xs in
    let a : i < 2 * vars = rw same at p in
    let b : j < 2 * vars = rw same at q in
    let square = h.square in
    omega (arith, mul-add-lt i (2 * vars) j (2 * vars) a b)

-- the entry that was read there
pub entry_read : (vars : ℕ) (m : Table) (xs : List ℤ) (i j : ℕ) (z : ℤ) → stored vars xs ≡ m → i * (2 * vars) + j < length xs → z ≡ get_or xs (i * (2 * vars) + j) z → entry m i j ≡ shown z
entry_read vars m xs i j z e p r =
    ap (λ (t : Table). entry t i j) (sym e) ∙ entry-stored vars xs i j
    ∙ ap shown (get_or_default xs (i * (2 * vars) + j) no_bound z p ∙ sym r)

-- a vector whose items were written through a slice
pub items_written : (v : Vec ℤ Global) (ws : List ℤ) → length ws ≡ vec_len v → (with_items v ws).items ≡ ws
items_written v ws h = with_items_is v ws h

pub top_stored : (vars : ℕ) (xs : List ℤ) → length xs ≡ 2 * vars * (2 * vars) → ((i j : ℕ) → i < 2 * vars → j < 2 * vars → shown_at xs (i * (2 * vars) + j) ≡ at_once i j) → stored vars xs ≡ top_table vars
unfolding top_table
top_stored vars xs whole same = stored_is vars xs at_once whole same

pub top_is_stored : (vars : ℕ) (xs : List ℤ) → 1 ≤ vars → vars ≤ 8 → length xs ≡ 2 * vars * (2 * vars) → stored vars xs ≡ top_table vars → IsStored vars xs
top_is_stored vars xs some few whole e = record { few = few; square = whole; matrix = subst IsMatrix (sym e) (matrix-top vars some few) }

-- ---- a matrix whose bounds were written

-- what is seen then, from what the operation gave
pub seen : (vars : ℕ) (v : Vec ℤ Global) (ws : List ℤ) (m t : Table) → length ws ≡ vec_len v → stored vars ws ≡ t → stored vars (with_items v ws).items ≡ t
seen vars v ws m t len e = ap (stored vars) (items_written v ws len) ∙ e

-- and that it is a matrix again
pub stored_again : (vars : ℕ) (v : Vec ℤ Global) (ws : List ℤ) → IsStored vars v.items → length ws ≡ vec_len v → IsMatrix (stored vars ws) → IsStored vars (with_items v ws).items
stored_again vars v ws was len h =
    let square = was.square in
    subst (IsStored vars) (sym (items_written v ws len)) (record { few = was.few; square = len ∙ v.ok.0 ∙ square; matrix = h })

-- what is asked of nodes and variables, as the operations ask it
pub node_inside : (vars : ℕ) (xs : List ℤ) (m : Table) (i : ℕ) → stored vars xs ≡ m → i < nodes m → i < 2 * vars
unfolding stored
node_inside vars xs m i e h = subst (λ t. i < nodes t) (sym e) h

pub var_inside : (vars : ℕ) (xs : List ℤ) (m : Table) (var : ℕ) → stored vars xs ≡ m → var < m.vars → var < vars
unfolding stored
var_inside vars xs m var e h = subst (λ (t : Table). var < t.vars) (sym e) h

-- two matrices with the same number of variables store as many
pub same_vars : (u v : ℕ) (xs ys : List ℤ) (m o : Table) → stored u xs ≡ m → stored v ys ≡ o → m.vars ≡ o.vars → u ≡ v
same_vars u v xs ys m o e f h = sym (vars-stored u xs) ∙ ap (λ (t : Table). t.vars) e ∙ h ∙ ap (λ (t : Table). t.vars) (sym f) ∙ vars-stored v ys

pub same_length : (u v : ℕ) (xs ys xs' ys' : List ℤ) → length xs ≡ 2 * u * (2 * u) → length ys ≡ 2 * v * (2 * v) → xs' ≡ xs → ys' ≡ ys → u ≡ v → length xs' ≡ length ys'
same_length u v xs ys xs' ys' p q e f same = ap length e ∙ p ∙ ap (λ k. 2 * k * (2 * k)) same ∙ sym q ∙ ap length (sym f)

-- whatever was written, the number of variables is that of before
pub vars_kept : (vars : ℕ) (ws xs : List ℤ) (m : Table) → stored vars xs ≡ m → (stored vars ws).vars ≡ m.vars
vars_kept vars ws xs m e = vars-stored vars ws ∙ sym (vars-stored vars xs) ∙ ap (λ (t : Table). t.vars) e
