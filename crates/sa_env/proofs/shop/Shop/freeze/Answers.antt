use Rattle.std.proofs.Common.{◌≡◌, ◌∙◌, ◌<◌, ◌≤◌, ℕ, sym, ap, refl, subst, List, map, length, arith}
use Rattle.std.specs.Prelude.{Some, slice_get}
use Rattle.std.specs.List.{All}
use Rattle.std.proofs.lemmas.List.{length-map}
use Rattle.sa_shared.specs.declared.nodes.Root.{Root}
use Rattle.sa_shared.specs.Forest.{list_of, reached}
use Rattle.sa_shared.specs.Forest as shared
use Rattle.sa_env.specs.declared.env.Env.{Env}
use Rattle.sa_env.specs.Slots.{Alike}
use Rattle.sa_env.specs.Flat.{Flat, Limits}
use Rattle.sa_env.specs.Shop.{Stock, IsBase, shop_over, flat_of, roots_of, with_roots, Belongs}
use Rattle.sa_env.proofs.Freezing.{roots_belong, some_root, frozen_base, same_flats, frozen_belong}
use Rattle.sa_env.proofs.shop.Shop.freeze.Goals as goal

pub compact-requires-clause-some : goal.compact-requires-clause-some
compact-requires-clause-some c =
    subst (λ (rs : List Root). 0 < length rs) (sym (c.deref.ensures.value ∙ c.in_ok-roots.ensures)) (some_root c.args.self.now c.args.envs.now c.requires.some)

all_belong : (c : goal.After-deref) → All (Belongs (shop_over c.self.inside.frame.now c.self.inside.layer)) c.args.envs.now
all_belong c = subst (λ (s : Stock). All (Belongs s) c.args.envs.now) (sym c.self.view_is) c.requires.belong

pub compact-requires-clause-roots : goal.compact-requires-clause-roots
compact-requires-clause-roots c =
    subst (λ (rs : List Root). All (shared.Belongs Alike c.self.inside.layer) rs) (sym (c.deref.ensures.value ∙ c.in_ok-roots.ensures))
    (roots_belong (shop_over c.self.inside.frame.now c.self.inside.layer) c.args.envs.now (all_belong c))

pub with_roots-requires : goal.with_roots-requires
with_roots-requires c =
    ap length c.deref-2.ensures.value
    ∙ sym (length-map c.in_ok-base.moved.items (list_of c.in_ok-base.base)) ∙ ap length c.in_ok-base.ensures.lists
    ∙ length-map c.deref.result.now (list_of c.self.inside.layer) ∙ ap length (c.deref.ensures.value ∙ c.in_ok-roots.ensures)

-- the lists that the new roots stand for
same_lists : (c : goal.After-drop-roots-2) → map (list_of c.in_ok-base.base) c.in_ok-base.moved.items ≡ map (list_of c.self.inside.layer) (roots_of c.args.envs.now)
same_lists c = c.in_ok-base.ensures.lists ∙ ap (map (list_of c.self.inside.layer)) (c.deref.ensures.value ∙ c.in_ok-roots.ensures)

made_is : (c : goal.After-drop-roots-2) → c.in_ok-made.made.items ≡ with_roots c.args.envs.now c.in_ok-base.moved.items
made_is c = c.in_ok-made.ensures ∙ ap (with_roots c.args.envs.now) c.deref-2.ensures.value

before : (c : goal.After-drop-roots-2) → All (Belongs (shop_over c.self.inside.frame.now c.self.inside.layer)) c.args.envs.now
before c = subst (λ (s : Stock). All (Belongs s) c.args.envs.now) (sym c.self.view_is) c.requires.belong

pub returns-clause-base : goal.returns-clause-base
returns-clause-base c =
    subst (λ (s : Stock). IsBase s.limits c.in_ok-base.base) c.self.view_is
    (frozen_base c.self.inside.frame.now c.self.inside.layer c.in_ok-base.base (roots_of c.args.envs.now) c.in_ok-base.moved.items c.self.invariant
    (roots_belong (shop_over c.self.inside.frame.now c.self.inside.layer) c.args.envs.now (before c)) c.in_ok-base.ensures.slots (same_lists c) c.in_ok-base.ensures.roots c.in_ok-base.ensures.first)

pub returns-clause-belong : goal.returns-clause-belong
returns-clause-belong c =
    subst (λ (s : Stock). All (Belongs (shop_over s.limits c.in_ok-base.base)) c.in_ok-made.made.items) c.self.view_is
    (subst (λ (es : List Env). All (Belongs (shop_over c.self.inside.frame.now c.in_ok-base.base)) es) (sym (made_is c))
    (frozen_belong c.self.inside.frame.now c.self.inside.layer c.in_ok-base.base c.args.envs.now c.in_ok-base.moved.items (same_lists c) c.in_ok-base.ensures.roots (before c)))

pub returns-clause-values : goal.returns-clause-values
returns-clause-values c =
    subst (λ (s : Stock). map (flat_of (shop_over s.limits c.in_ok-base.base)) c.in_ok-made.made.items ≡ map (flat_of s) c.args.envs.now) c.self.view_is
    (ap (map (flat_of (shop_over c.self.inside.frame.now c.in_ok-base.base))) (made_is c)
    ∙ same_flats c.self.inside.frame.now c.self.inside.layer c.in_ok-base.base c.args.envs.now c.in_ok-base.moved.items (same_lists c))

pub returns-clause-nodes : goal.returns-clause-nodes
returns-clause-nodes c =
    subst (λ (s : Stock). length c.in_ok-base.base.nodes ≤ reached s.lists.nodes (roots_of c.args.envs.now) (length s.lists.nodes)) c.self.view_is
    (subst (λ (rs : List Root). length c.in_ok-base.base.nodes ≤ reached c.self.inside.layer.nodes rs (length c.self.inside.layer.nodes)) (c.deref.ensures.value ∙ c.in_ok-roots.ensures) c.in_ok-base.ensures.nodes)
