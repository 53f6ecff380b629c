use Rattle.std.proofs.Common.{get_or, ◌∙◌, sym, ap, arith}
use Rattle.sa_base.specs.declared.pos.Pos.{Pos}
use Rattle.sa_tokens.specs.Lexed.{pos_after}
use Rattle.sa_tokens.proofs.PosLemmas.{pos_past-none, pos_past-more, pos_after-small}
use Rattle.sa_tokens.proofs.lexer.pos_past.Goals as goal

pub loop-b-init : goal.loop-b-init
loop-b-init c = record {
  col = c.requires.col;
  small = omega arith;
  value = sym (pos_past-none c.args.pos);
}

pub loop-b-preserved : goal.loop-b-preserved
loop-b-preserved c =
    let small = rw (← c.pos_after-pos.ensures) at (pos_after-small c.loop-b.pos (get_or c.args.bytes.now c.loop-b.b-index 0) c.loop-b.invariant.col) in
    let more = pos_past-more c.args.pos c.args.bytes.now c.loop-b.b-index c.loop-b-test.true in
    record {
      col = small.0;
      small = omega arith;
      value = c.pos_after-pos.ensures ∙ ap (λ (p : Pos). pos_after p (get_or c.args.bytes.now c.loop-b.b-index 0)) c.loop-b.invariant.value ∙ sym more;
    }
