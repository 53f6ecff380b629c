use Rattle.std.proofs.Common.{◌≡◌, ◌∙◌, sym, ap, refl, get_or, map, List, [], ◌∷◌}
use Rattle.sa_env.specs.declared.env.Env.{Env}
use Rattle.sa_env.specs.Flat.{Flat, Limits, top_of, join, assigned, cell_of}
use Rattle.sa_env.specs.Shop.{Stock, shop_over, flat_of}
use Rattle.sa_env.proofs.Shops.{of_two}
use Rattle.test_env.proofs.tests.rejoined.Goals as goal

heads : (x y : Flat) (xs ys : List Flat) → x ∷ xs ≡ y ∷ ys → x ≡ y
heads x y xs ys e = cc

-- the first of the environments that were frozen
first_same : (f g : Env → Flat) (es : List Env) (a b i : Env) → map f es ≡ map g (a ∷ b ∷ []) → i ≡ get_or es 0 i → f i ≡ g a
first_same f g [] a b i h is = absurd cc
first_same f g (e ∷ es) a b i h is = ap f is ∙ heads (f e) (g a) (map f es) (g b ∷ []) h

pub returns : goal.returns
returns c =
    let x = c.args.c in
    let limits : c.over-shop.result.limits ≡ c.args.frame.now = ap (λ (s : Stock). s.limits) c.over-shop.ensures in
    let top = c.in_ok-old.ensures.value ∙ ap top_of limits in
    let older = c.in_ok-new.ensures.older.flats c.in_ok-old.old c.in_ok-old.ensures.belongs ∙ top in
    let new = c.in_ok-new.ensures.value ∙ ap (assigned x c.args.v) top in
    let both = c.in_ok-both.ensures.value ∙ of_two join _ _ _ _ new older in
    let last_limits = c.in_ok-both.ensures.older.limits ∙ c.in_ok-new.ensures.older.limits ∙ c.in_ok-old.ensures.older.limits ∙ limits in
    let i = c.index.result.now in
    let frozen = ap (λ (s : Stock). flat_of s i) c.over-later.ensures
    ∙ sym (ap (λ (l : Limits). flat_of (shop_over l c.in_ok-kept.kept) i) last_limits)
    ∙ first_same (flat_of (shop_over c.join.new.self.limits c.in_ok-kept.kept)) (flat_of c.join.new.self) c.in_ok-kept.envs.items c.in_ok-both.both c.in_ok-old.old i c.in_ok-kept.ensures.values c.index.ensures
    ∙ both in
    c.cell.ensures.value ∙ ap (cell_of x) (c.in_ok-last.ensures.value ∙ ap (assigned x c.args.w) frozen)
