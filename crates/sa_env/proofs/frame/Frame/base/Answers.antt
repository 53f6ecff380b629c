use Rattle.std.proofs.Common.{◌≡◌, ◌∙◌, sym, ap, subst}
use Rattle.sa_shared.specs.declared.nodes.Root.{Root}
use Rattle.sa_shared.specs.Forest.{list_of}
use Rattle.sa_shared.specs.Forest as shared
use Rattle.sa_env.specs.Slots.{Alike, spans_of}
use Rattle.sa_env.proofs.Shops.{is_base_of}
use Rattle.sa_env.proofs.frame.Frame.base.Goals as goal

first_list : (c : goal.In_ok-base) → list_of c.in_ok-base.base c.in_ok-base.base.first ≡ c.in_ok-tops.field-0.items
first_list c = ap (λ (r : Root). list_of c.in_ok-base.base r) c.in_ok-base.ensures.first ∙ c.in_ok-base.ensures.list

pub returns-clause-base : goal.returns-clause-base
returns-clause-base c =
    is_base_of c.args.self.now c.in_ok-base.base c.in_ok-tops.field-0.items c.in_ok-base.ensures.slots
    (subst (λ (r : Root). shared.Belongs Alike c.in_ok-base.base r) (sym c.in_ok-base.ensures.first) c.in_ok-base.ensures.root)
    (first_list c) c.in_ok-tops.ensures

pub returns-clause-tops : goal.returns-clause-tops
returns-clause-tops c = ap spans_of (first_list c) ∙ c.in_ok-tops.ensures
