use Rattle.std.proofs.Common.{◌≡◌, ◌∙◌, sym, ap, refl, subst, Bool, true, false, ◌&&◌, ◌↔◌, IsTrue, List}
use Rattle.std.proofs.lemmas.Bool.Decides.{same_from_decides}
use Rattle.sa_interval.specs.Rows.{is_part}
use Rattle.sa_shared.specs.Forest.{list_of}
use Rattle.sa_shared.specs.Slots.{EachSlot}
use Rattle.sa_env.specs.declared.slot.SlotValue.{SlotValue}
use Rattle.sa_env.specs.Slots.{spans_of, SlotBelow}
use Rattle.sa_env.specs.Flat.{Flat, live, dead, all_parts, is_below, IsBelow}
use Rattle.sa_env.specs.Shop.{flat_of}
use Rattle.sa_env.proofs.Lists.{spans_below, below_spans}
use Rattle.sa_env.proofs.Order.{parts_test, below_test}
use Rattle.sa_env.proofs.Shops.{given_dead, flat_given, live_given, root_given, of_two}
use Rattle.sa_env.proofs.shop.Shop.le.Goals as goal

-- what a test says
fact : (q : Bool) (a b : Flat) → q ≡ is_below a b → IsTrue q ↔ IsBelow a b
fact q a b e = ((λ h. (below_test a b).0 (sym e ∙ h)), (λ h. e ∙ (below_test a b).1 h))

slots_test : (q : Bool) (xs ys : List SlotValue) → IsTrue q ↔ EachSlot SlotBelow xs ys → q ≡ all_parts (spans_of xs) (spans_of ys)
slots_test q xs ys h = same_from_decides q (all_parts (spans_of xs) (spans_of ys)) ((λ e. spans_below xs ys (h.0 e)), (λ p. h.1 (below_spans xs ys p))) (parts_test (spans_of xs) (spans_of ys))

first_false : (p q : Bool) → p ≡ false → false ≡ (p && q)
first_false p q h = rw h refl

pub le-requires-then-le-clause-first : goal.le-requires-then-le-clause-first
le-requires-then-le-clause-first c = root_given _ _ _ _ _ _ c.self.view_is c.in-Live-Live.is-0 c.requires.first

pub le-requires-then-le-clause-second : goal.le-requires-then-le-clause-second
le-requires-then-le-clause-second c = root_given _ _ _ _ _ _ c.self.view_is c.in-Live-Live.is-1 c.requires.second

dead_first : (c : goal.In-Dead-default) → true ≡ is_below (flat_of c.args.self.now c.args.a.now) (flat_of c.args.self.now c.args.b.now)
dead_first c = sym (ap (λ (x : Flat). is_below x (flat_of c.args.self.now c.args.b.now)) (given_dead c.args.self.now c.args.a.now c.in-Dead-default.is-0))

pub returns-in-Dead-default-clause-test : goal.returns-in-Dead-default-clause-test
returns-in-Dead-default-clause-test c = dead_first c

pub returns-in-Dead-default-clause-fact : goal.returns-in-Dead-default-clause-fact
returns-in-Dead-default-clause-fact c = fact true _ _ (dead_first c)

dead_second : (c : goal.In_default-Dead) → false ≡ is_below (flat_of c.args.self.now c.args.a.now) (flat_of c.args.self.now c.args.b.now)
dead_second c = sym (of_two is_below _ _ _ _ (live_given c.args.self.now c.args.a.now _ _ c.in_default-Dead.is-0) (given_dead c.args.self.now c.args.b.now c.in_default-Dead.is-1))

pub returns-in_default-Dead-clause-test : goal.returns-in_default-Dead-clause-test
returns-in_default-Dead-clause-test c = dead_second c

pub returns-in_default-Dead-clause-fact : goal.returns-in_default-Dead-clause-fact
returns-in_default-Dead-clause-fact c = fact false _ _ (dead_second c)

both_tests : (c : goal.After-le-then-le) → c.le-then-le.result ≡ is_below (flat_of c.args.self.now c.args.a.now) (flat_of c.args.self.now c.args.b.now)
both_tests c =
    slots_test c.le-then-le.result _ _ c.le-then-le.ensures
    ∙ ap (λ (p : Bool). p && all_parts (spans_of (list_of c.self.inside.layer c.in-Live-Live.root)) (spans_of (list_of c.self.inside.layer c.in-Live-Live.other_root))) (sym c.if-le.true ∙ c.le.ensures.test)
    ∙ sym (of_two is_below _ _ _ _ (flat_given _ _ _ _ _ _ c.self.view_is c.in-Live-Live.is-0) (flat_given _ _ _ _ _ _ c.self.view_is c.in-Live-Live.is-1))

pub returns-then-le-clause-test : goal.returns-then-le-clause-test
returns-then-le-clause-test c = both_tests c

pub returns-then-le-clause-fact : goal.returns-then-le-clause-fact
returns-then-le-clause-fact c = fact c.le-then-le.result _ _ (both_tests c)

clock_test : (c : goal.Else-le) → c.le.result ≡ is_below (flat_of c.args.self.now c.args.a.now) (flat_of c.args.self.now c.args.b.now)
clock_test c =
    c.if-le.false
    ∙ first_false (is_part c.in-Live-Live.clock c.in-Live-Live.other_clock) (all_parts (spans_of (list_of c.self.inside.layer c.in-Live-Live.root)) (spans_of (list_of c.self.inside.layer c.in-Live-Live.other_root))) (sym c.le.ensures.test ∙ c.if-le.false)
    ∙ sym (of_two is_below _ _ _ _ (flat_given _ _ _ _ _ _ c.self.view_is c.in-Live-Live.is-0) (flat_given _ _ _ _ _ _ c.self.view_is c.in-Live-Live.is-1))

pub returns-else-le-clause-test : goal.returns-else-le-clause-test
returns-else-le-clause-test c = clock_test c

pub returns-else-le-clause-fact : goal.returns-else-le-clause-fact
returns-else-le-clause-fact c = fact c.le.result _ _ (clock_test c)
