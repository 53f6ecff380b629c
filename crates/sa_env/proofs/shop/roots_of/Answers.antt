use Rattle.sa_env.proofs.Freezing.{roots_dead, roots_live, roots_end}
use Rattle.sa_env.proofs.shop.roots_of.Goals as goal

pub loop-env-preserved-in-Dead : goal.loop-env-preserved-in-Dead
loop-env-preserved-in-Dead c = roots_dead c.args.envs.now c.loop-env.env-index c.env-item.result c.loop-env.roots.items c.loop-env-test.true c.env-item.is c.in-Dead.is c.loop-env.invariant

pub loop-env-preserved : goal.loop-env-preserved
loop-env-preserved c = roots_live c.args.envs.now c.loop-env.env-index c.env-item.result c.in-Live.clock c.in-Live.root c.loop-env.roots.items c.push.new.self.items c.loop-env-test.true c.env-item.is c.in-Live.is c.in_ok-push.ensures.items c.loop-env.invariant

pub returns : goal.returns
returns c = roots_end c.args.envs.now c.loop-env.env-index c.loop-env.roots.items c.loop-env-test.false c.loop-env.invariant
