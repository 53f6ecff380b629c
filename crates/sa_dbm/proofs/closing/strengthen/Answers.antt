use Rattle.std.proofs.Common.{◌∙◌, not, ap, sym}
use Rattle.sa_dbm.specs.Stored.{shown_at}
use Rattle.sa_dbm.proofs.TableLaws.{bar_below}
use Rattle.sa_dbm.proofs.Strengthening.{first_summable, second_summable, answer_of, lowered_is}
use Rattle.sa_dbm.proofs.closing.strengthen.Goals as goal
use Rattle.sa_dbm.proofs.closing.strengthen.Goals.{After-halves-halves}

pub halves-halves-requires-clause-pairs : goal.halves-halves-requires-clause-pairs
halves-halves-requires-clause-pairs c = λ i h. bar_below i c.args.vars h

pub contradict-requires-clause-first : goal.contradict-requires-clause-first
contradict-requires-clause-first c =
    let h = c.halves-halves in
    first_summable c.args.vars c.args.bounds.now (shown_at h.result.to) (shown_at h.result.from) h.ensures.to h.ensures.from c.requires.within

pub contradict-requires-clause-second : goal.contradict-requires-clause-second
contradict-requires-clause-second c =
    let h = c.halves-halves in
    second_summable c.args.vars c.args.bounds.now (shown_at h.result.to) (shown_at h.result.from) h.ensures.to h.ensures.from c.requires.within

pub lower-requires-clause-first : goal.lower-requires-clause-first
lower-requires-clause-first c =
    let h = c.halves-halves in
    first_summable c.args.vars c.args.bounds.now (shown_at h.result.to) (shown_at h.result.from) h.ensures.to h.ensures.from c.requires.within

pub lower-requires-clause-second : goal.lower-requires-clause-second
lower-requires-clause-second c =
    let h = c.halves-halves in
    second_summable c.args.vars c.args.bounds.now (shown_at h.result.to) (shown_at h.result.from) h.ensures.to h.ensures.from c.requires.within

pub returns-then-contradict-clause-answer : goal.returns-then-contradict-clause-answer
returns-then-contradict-clause-answer c =
    let h = c.halves-halves in
    ap not (sym (answer_of c.args.vars c.args.bounds.now (shown_at h.result.to) (shown_at h.result.from) h.ensures.to h.ensures.from c.contradict.result c.contradict.ensures ∙ c.if-contradict.true))

pub returns-clause-answer : goal.returns-clause-answer
returns-clause-answer c =
    let h = c.halves-halves in
    ap not (sym (answer_of c.args.vars c.args.bounds.now (shown_at h.result.to) (shown_at h.result.from) h.ensures.to h.ensures.from c.contradict.result c.contradict.ensures ∙ c.if-contradict.false))

pub returns-clause-bounds : goal.returns-clause-bounds
returns-clause-bounds c =
    let h = c.halves-halves in
    λ _. lowered_is c.args.vars c.args.bounds.now (shown_at h.result.to) (shown_at h.result.from) h.ensures.to h.ensures.from
    c.lower.new.bounds (c.lower.auto.bounds ∙ c.requires.square) c.lower.ensures
