-- Two tests at the front: of the first token, and of the one after it.
use Rattle.std.proofs.Common.{◌≡◌, refl, Bool}
use Rattle.std.specs.Prelude.{Option, Some, None, ◌&&◌}
use Rattle.sa_syntax.specs.ReadExpr.{is_some}
use Rattle.sa_syntax.specs.ReadStmt.{is_some_and}

pub both_seen : {A : Type 0} (o : Option A) (b : Bool) → is_some_and o b ≡ (is_some o && b)
both_seen None b = refl
both_seen (Some x) b = refl
