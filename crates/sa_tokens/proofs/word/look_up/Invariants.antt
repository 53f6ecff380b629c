use Rattle.std.proofs.Common.{◌≡◌, map, drop}
use Rattle.sa_tokens.specs.Bytes.{look_up}
use Rattle.sa_tokens.proofs.word.look_up.Given as goal

abbrev pub invariant-loop-text : goal.invariant-loop-text
invariant-loop-text l = look_up l.spelling (map (λ row. (row.0.now, row.1)) (drop l.text-index l.rows)) ≡ look_up l.spelling (map (λ row. (row.0.now, row.1)) l.rows)
