-- The closed form of two variables with x + y <= 1 and x - y <= 0, and then with x >= 1 besides.
use Rattle.std.proofs.Common.{◌≡◌, refl, pos, negsuc, Some, None, option_map}
use Rattle.sa_dbm.specs.Tables.{Table, bar, top_table, tightened, entry, table}
use Rattle.sa_dbm.specs.Walks.{walks, one_more}
use Rattle.sa_dbm.specs.Closed.{closed_form, walked_form, tight_form, has_negative_walk, has_contradiction, rounded, strengthened}

two : Table
two = tightened (tightened (top_table 2) 3 0 (pos 1)) 2 0 (pos 0)

at_most_zero : option_map (λ c. entry c 1 0) (closed_form two) ≡ Some (Some (pos 0))
unfolding two bar entry table top_table tightened walks one_more closed_form walked_form tight_form has_negative_walk has_contradiction rounded strengthened
at_most_zero = refl

no_point : closed_form (tightened two 0 1 (negsuc 1)) ≡ None
unfolding two bar entry table top_table tightened walks one_more closed_form walked_form tight_form has_negative_walk has_contradiction rounded strengthened
no_point = refl
