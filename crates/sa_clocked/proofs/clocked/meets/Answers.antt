use Rattle.std.proofs.Common.{◌∙◌, sym}
use Rattle.sa_clocked.proofs.TripleLaws.{first_step, first_none, second_step, second_none, third_step, third_none, fourth_step, fourth_none}
use Rattle.sa_clocked.proofs.clocked.meets.Goals as goal

pub returns-in_err-v : goal.returns-in_err-v
returns-in_err-v c = c.from_residual.ensures ∙ sym (first_none c.args.c c.args.clock c.add.result c.add.ensures.row (sym c.meet.ensures.row ∙ c.in_err-v.was))

pub returns-in_err-v-2 : goal.returns-in_err-v-2
returns-in_err-v-2 c =
    c.from_residual-in_err-v-2.ensures
    ∙ sym (first_step c.args.c c.args.clock c.add.result c.in_ok-v.v c.add.ensures.row (sym c.meet.ensures.row ∙ c.in_ok-v.was)
    ∙ second_none c.args.c c.args.clock c.in_ok-v.v c.sub.result c.sub.ensures.row (sym c.meet-2.ensures.row ∙ c.in_err-v-2.was))

pub returns-in_err-minus : goal.returns-in_err-minus
returns-in_err-minus c =
    c.from_residual-in_err-minus.ensures
    ∙ sym (first_step c.args.c c.args.clock c.add.result c.in_ok-v.v c.add.ensures.row (sym c.meet.ensures.row ∙ c.in_ok-v.was)
    ∙ second_step c.args.c c.args.clock c.in_ok-v.v c.sub.result c.in_ok-v-2.v c.sub.ensures.row (sym c.meet-2.ensures.row ∙ c.in_ok-v-2.was)
    ∙ third_none c.args.c c.args.clock c.in_ok-v-2.v c.sub-2.result c.sub-2.ensures.row (sym c.meet-3.ensures.row ∙ c.in_err-minus.was))

pub returns-in_err-plus : goal.returns-in_err-plus
returns-in_err-plus c =
    c.from_residual-in_err-plus.ensures
    ∙ sym (first_step c.args.c c.args.clock c.add.result c.in_ok-v.v c.add.ensures.row (sym c.meet.ensures.row ∙ c.in_ok-v.was)
    ∙ second_step c.args.c c.args.clock c.in_ok-v.v c.sub.result c.in_ok-v-2.v c.sub.ensures.row (sym c.meet-2.ensures.row ∙ c.in_ok-v-2.was)
    ∙ third_step c.args.c c.args.clock c.in_ok-v-2.v c.sub-2.result c.in_ok-minus.minus c.sub-2.ensures.row (sym c.meet-3.ensures.row ∙ c.in_ok-minus.was)
    ∙ fourth_none c.args.c c.args.clock c.in_ok-v-2.v c.in_ok-minus.minus c.add-2.result c.add-2.ensures.row (sym c.meet-4.ensures.row ∙ c.in_err-plus.was))

pub returns : goal.returns
returns c =
    sym (first_step c.args.c c.args.clock c.add.result c.in_ok-v.v c.add.ensures.row (sym c.meet.ensures.row ∙ c.in_ok-v.was)
    ∙ second_step c.args.c c.args.clock c.in_ok-v.v c.sub.result c.in_ok-v-2.v c.sub.ensures.row (sym c.meet-2.ensures.row ∙ c.in_ok-v-2.was)
    ∙ third_step c.args.c c.args.clock c.in_ok-v-2.v c.sub-2.result c.in_ok-minus.minus c.sub-2.ensures.row (sym c.meet-3.ensures.row ∙ c.in_ok-minus.was)
    ∙ fourth_step c.args.c c.args.clock c.in_ok-v-2.v c.in_ok-minus.minus c.add-2.result c.in_ok-plus.plus c.add-2.ensures.row (sym c.meet-4.ensures.row ∙ c.in_ok-plus.was))
