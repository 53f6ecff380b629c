use Rattle.std.proofs.Common.{◌≡◌, ◌+◌, arith}
use Rattle.std.specs.Prelude.{slice_get}
use Rattle.sa_typed.specs.Frames.{one_for, result_of}
use Rattle.sa_calls.specs.Weights.{capped}
use Rattle.sa_calls.proofs.RoomLemmas.{frame-sum}
use Rattle.sa_calls.proofs.rooms.frame_cells.Goals as goal

pub returns : goal.returns
returns c =
    let a = c.saturating_add-kept.ensures in
    let b = c.result_cells.ensures in
    let rest : c.saturating_add-kept.result ≡ capped (c.all_kept.result + one_for (result_of (slice_get c.args.program.now.funcs c.args.f))) = omega (arith, a, b) in
    frame-sum c.args.program.now c.args.locals.now c.args.f c.args.args.now c.locals_at.result c.all_kept.result c.saturating_add.result c.saturating_add-kept.result c.requires c.locals_at.ensures c.all_kept.ensures rest c.saturating_add.ensures
