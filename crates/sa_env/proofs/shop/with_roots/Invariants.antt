use Rattle.std.proofs.Common.{◌≡◌, ◌++◌, ◌+◌, drop, length}
use Rattle.sa_env.specs.Shop.{roots_of, with_roots}
use Rattle.sa_env.proofs.shop.with_roots.Given as goal

abbrev pub invariant-loop-env : goal.invariant-loop-env
invariant-loop-env l = record {
  made : l.made.items ++ with_roots (drop l.env-index l.envs) (drop l.next l.roots) ≡ with_roots l.envs l.roots;
  left : l.next + length (roots_of (drop l.env-index l.envs)) ≡ length l.roots;
}
