use Rattle.std.proofs.Common.{◌∙◌, length, sym, ap, arith}
use Rattle.std.proofs.lemmas.List.{length_push}
use Rattle.sa_tokens.proofs.LexerLemmas.{piece_from, space_within, spelling_within, front_length, leads_past, leads_on, lexed_at_end, answer_at, too_many_at}
use Rattle.sa_tokens.proofs.lexer.tokens.Goals as goal

pub returns-in-End-clause-lexed : goal.returns-in-End-clause-lexed
returns-in-End-clause-lexed c =
    let e = piece_from c.loop-found.fresh c.args.bytes.now c.loop-found.at _ _ c.in_ok-next_piece.ensures c.in-End.is in
    lexed_at_end c.args.bytes.now c.loop-found.found.items c.loop-found.pos c.loop-found.fresh c.loop-found.at e c.loop-found.invariant.count c.loop-found.invariant.reads

pub returns-in-Refused-clause-refused : goal.returns-in-Refused-clause-refused
returns-in-Refused-clause-refused c =
    let e = piece_from c.loop-found.fresh c.args.bytes.now c.loop-found.at _ _ c.in_ok-next_piece.ensures c.in-Refused.is in
    answer_at c.args.bytes.now c.loop-found.found.items c.loop-found.pos c.loop-found.fresh c.loop-found.at _ _ e c.fault_at.ensures c.loop-found.invariant.count c.loop-found.invariant.reads

pub slice_bounds-pos_past-end : goal.slice_bounds-pos_past-end
slice_bounds-pos_past-end c =
    let e = piece_from c.loop-found.fresh c.args.bytes.now c.loop-found.at _ _ c.in_ok-next_piece.ensures c.in-Space.is in
    front_length c.args.bytes.now c.loop-found.at c.in-Space.len (space_within c.loop-found.fresh c.args.bytes.now c.loop-found.at _ _ e)

pub overflow_add-at : goal.overflow_add-at
overflow_add-at c =
    let e = piece_from c.loop-found.fresh c.args.bytes.now c.loop-found.at _ _ c.in_ok-next_piece.ensures c.in-Space.is in
    let h = space_within c.loop-found.fresh c.args.bytes.now c.loop-found.at _ _ e in
    omega arith

pub loop-found-smaller-in-Space : goal.loop-found-smaller-in-Space
loop-found-smaller-in-Space c =
    let e = piece_from c.loop-found.fresh c.args.bytes.now c.loop-found.at _ _ c.in_ok-next_piece.ensures c.in-Space.is in
    let h = space_within c.loop-found.fresh c.args.bytes.now c.loop-found.at _ _ e in
    omega arith

pub loop-found-preserved-in-Space : goal.loop-found-preserved-in-Space
loop-found-preserved-in-Space c =
    let e = piece_from c.loop-found.fresh c.args.bytes.now c.loop-found.at _ _ c.in_ok-next_piece.ensures c.in-Space.is in
    let h = space_within c.loop-found.fresh c.args.bytes.now c.loop-found.at _ _ e in
    let k = front_length c.args.bytes.now c.loop-found.at c.in-Space.len h in
    record {
      within = omega arith;
      col = c.pos_past-pos.ensures.col;
      small = omega arith;
      count = c.loop-found.invariant.count;
      reads = leads_past c.args.bytes.now c.loop-found.found.items c.loop-found.pos _ c.loop-found.fresh c.in-Space.still c.loop-found.at c.in-Space.len e c.pos_past-pos.ensures.value c.loop-found.invariant.reads;
    }

pub returns-then-len-most-clause-refused : goal.returns-then-len-most-clause-refused
returns-then-len-most-clause-refused c =
    let e = piece_from c.loop-found.fresh c.args.bytes.now c.loop-found.at _ _ c.in_ok-next_piece.ensures c.in-Spelling.is in
    too_many_at c.args.bytes.now c.loop-found.found.items c.loop-found.pos c.loop-found.fresh c.loop-found.at c.in-Spelling.len c.in-Spelling.word e (sym c.loop-found.found.ok.0 ∙ sym c.len.ensures ∙ c.if-len-most.true ∙ c.number-most.ensures) c.loop-found.invariant.reads

pub slice_bounds-pos_past-end-in-Spelling : goal.slice_bounds-pos_past-end-in-Spelling
slice_bounds-pos_past-end-in-Spelling c =
    let e = piece_from c.loop-found.fresh c.args.bytes.now c.loop-found.at _ _ c.in_ok-next_piece.ensures c.in-Spelling.is in
    front_length c.args.bytes.now c.loop-found.at c.in-Spelling.len (spelling_within c.loop-found.fresh c.args.bytes.now c.loop-found.at _ _ e)

pub overflow_add-at-in-Spelling : goal.overflow_add-at-in-Spelling
overflow_add-at-in-Spelling c =
    let e = piece_from c.loop-found.fresh c.args.bytes.now c.loop-found.at _ _ c.in_ok-next_piece.ensures c.in-Spelling.is in
    let h = spelling_within c.loop-found.fresh c.args.bytes.now c.loop-found.at _ _ e in
    omega arith

pub loop-found-smaller : goal.loop-found-smaller
loop-found-smaller c =
    let e = piece_from c.loop-found.fresh c.args.bytes.now c.loop-found.at _ _ c.in_ok-next_piece.ensures c.in-Spelling.is in
    let h = spelling_within c.loop-found.fresh c.args.bytes.now c.loop-found.at _ _ e in
    omega arith

pub loop-found-preserved : goal.loop-found-preserved
loop-found-preserved c =
    let e = piece_from c.loop-found.fresh c.args.bytes.now c.loop-found.at _ _ c.in_ok-next_piece.ensures c.in-Spelling.is in
    let h = spelling_within c.loop-found.fresh c.args.bytes.now c.loop-found.at _ _ e in
    let k = front_length c.args.bytes.now c.loop-found.at c.in-Spelling.len h in
    record {
      within = omega arith;
      col = c.pos_past-pos-in-Spelling.ensures.col;
      small = omega arith;
      count = omega (arith, ap length c.in_ok-push-in-Spelling.ensures.items, length_push c.loop-found.found.items (record { word = c.in-Spelling.word; pos = c.loop-found.pos }), c.loop-found.found.ok.0, c.number-most.ensures, c.len.ensures, c.if-len-most.false);
      reads = leads_on c.args.bytes.now c.loop-found.found.items _ c.loop-found.pos _ c.loop-found.fresh c.loop-found.at c.in-Spelling.len c.in-Spelling.word e c.pos_past-pos-in-Spelling.ensures.value c.in_ok-push-in-Spelling.ensures.items c.loop-found.invariant.reads;
    }
