use Rattle.std.proofs.Common.{◌≡◌, ◌++◌, drop}
use Rattle.sa_env.specs.Shop.{roots_of}
use Rattle.sa_env.proofs.shop.roots_of.Given as goal

abbrev pub invariant-loop-env : goal.invariant-loop-env
invariant-loop-env l = l.roots.items ++ roots_of (drop l.env-index l.envs) ≡ roots_of l.envs
