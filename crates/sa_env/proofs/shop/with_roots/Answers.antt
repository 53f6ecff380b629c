use Rattle.std.proofs.Common.{◌≡◌, ◌<◌, ◌+◌, length, drop, arith, sym, refl}
use Rattle.std.proofs.lemmas.List.{get_or_default}
use Rattle.sa_env.specs.Shop.{roots_of}
use Rattle.sa_env.proofs.Freezing.{made_dead, made_live, made_end, left_dead, left_live}
use Rattle.sa_env.proofs.shop.with_roots.Goals as goal

pub loop-env-preserved-in-Dead : goal.loop-env-preserved-in-Dead
loop-env-preserved-in-Dead c = record {
  made = made_dead c.args.envs.now c.args.roots.now c.loop-env.env-index c.loop-env.next c.env-item.result c.loop-env.made.items c.push.new.self.items c.loop-env-test.true c.env-item.is c.in-Dead.is c.in_ok-push-in-Dead.ensures.items c.loop-env.invariant.made;
  left = left_dead c.args.envs.now c.loop-env.env-index c.loop-env.next (length c.args.roots.now) c.env-item.result c.loop-env-test.true c.env-item.is c.in-Dead.is c.loop-env.invariant.left;
}

pub bounds-roots-next : goal.bounds-roots-next
bounds-roots-next c =
    let h = left_live c.args.envs.now c.loop-env.env-index c.loop-env.next (length c.args.roots.now) c.env-item.result c.in-Live.clock c.in-Live.root c.loop-env-test.true c.env-item.is c.in-Live.is c.loop-env.invariant.left in
    omega (arith, h)

pub loop-env-preserved : goal.loop-env-preserved
loop-env-preserved c =
    let h = left_live c.args.envs.now c.loop-env.env-index c.loop-env.next (length c.args.roots.now) c.env-item.result c.in-Live.clock c.in-Live.root c.loop-env-test.true c.env-item.is c.in-Live.is c.loop-env.invariant.left in
    let l : c.loop-env.next < length c.args.roots.now = omega (arith, h) in
    record {
      made = made_live c.args.envs.now c.args.roots.now c.loop-env.env-index c.loop-env.next c.env-item.result c.in-Live.clock c.in-Live.root _ c.loop-env.made.items c.push-in-loop-env.new.self.items c.loop-env-test.true c.env-item.is c.in-Live.is l (get_or_default c.args.roots.now c.loop-env.next _ _ l) c.in_ok-push.ensures.items c.loop-env.invariant.made;
      left = h;
    }

pub returns : goal.returns
returns c = made_end c.args.envs.now c.args.roots.now c.loop-env.env-index c.loop-env.next c.loop-env.made.items c.loop-env-test.false c.loop-env.invariant.made
