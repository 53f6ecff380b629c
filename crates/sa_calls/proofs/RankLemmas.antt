-- Ranks: a function calls functions of lower rank alone exactly where no call leads back.
use Rattle.std.proofs.Common.{◌≡◌, ℕ, zero, suc, ◌+◌, ◌^◌, ◌<◌, ◌≤◌, Bool, true, false, List, [], ◌∷◌, length, drop, get_or, refl, sym, ap, subst, ◌∙◌, arith, Option, Some, None}
use Rattle.std.proofs.lemmas.Bool.Decides.{nat_tests}
use Rattle.std.proofs.lemmas.List.{drop_more, drop_all}
use Rattle.std.specs.List.{AllByRecursion}
use Rattle.std.specs.Prelude.{max, min, slice_get, nat_lt, ◌&&◌}
use Rattle.sa_typed.specs.Executions.{block_of}
use Rattle.sa_typed.specs.Frames.{body_statements}
use Rattle.sa_typed.specs.TypedPrograms.{Site, calls_in, AreRanked}
use Rattle.sa_typed.specs.declared.program.Func.{Func}
use Rattle.sa_typed.specs.declared.program.Program.{Program}
use Rattle.sa_typed.specs.declared.stmt.Stmt.TheVariants as stmt
use Rattle.sa_calls.specs.declared.graph.Call.{Call}
use Rattle.sa_calls.specs.declared.weights.Weight.{Weight}
use Rattle.sa_calls.specs.Depths.{deepest, body_calls}
use Rattle.sa_calls.specs.Recursion.{as_calls, graph_of, calls_at, Leads, IsFirstBack}
use Rattle.sa_calls.specs.Weights.{weight, weight_at, AreWeights, all_below, is_settled}
use Rattle.sa_calls.proofs.DepthLemmas.{all-below, calls-cut, statements-enough}

-- ---- ranks by depths
each-above : (B : ℕ → ℕ) (m : ℕ) (sites : List Site) → deepest B sites ≤ m → AllByRecursion (λ s. B s.func < m) sites
unfolding deepest
each-above B m [] h = tt
each-above B m (s ∷ sites) h =
    let a : B s.func < m = here (B s.func) (deepest B sites) h in
    (a, each-above B m sites (rest (B s.func) (deepest B sites) h))
  where
    here : (a b : ℕ) → max (1 + a) b ≤ m → a < m
    here a b h = omega (arith, h)

    rest : (a b : ℕ) → max (1 + a) b ≤ m → b ≤ m
    rest a b h = omega (arith, h)

all-both : {A : Type 0} (P Q R : A → Type 0) → ((x : A) → P x → Q x → R x) → (xs : List A) → AllByRecursion P xs → AllByRecursion Q xs → AllByRecursion R xs
all-both P Q R f [] g h = tt
all-both P Q R f (x ∷ xs) g h = (f x g.0 h.0, all-both P Q R f xs g.1 h.1)

module _ (p : Program) where
  same-depth : (d f : ℕ) → body_calls p d f < d → body_calls p (suc d) f ≡ body_calls p d f
  same-depth d f h = let cut = calls-cut p d (suc d) f (omega arith) in omega (arith, cut, h)

  falls-by : (d : ℕ) (f : ℕ) (sites : List Site) → sites ≡ calls_in (block_of (slice_get p.funcs f)) → body_calls p (suc d) f < suc d → AllByRecursion (λ s. body_calls p (suc d) s.func < body_calls p (suc d) f) sites
  unfolding body_calls
  falls-by d f sites is h =
      let whole : body_calls p (suc d) f ≡ deepest (body_calls p d) sites = ap (deepest (body_calls p d)) (sym is) in
      all-both (λ s. body_calls p d s.func < d) (λ s. body_calls p d s.func < body_calls p (suc d) f) (λ s. body_calls p (suc d) s.func < body_calls p (suc d) f)
      (λ s a b. let same = same-depth d s.func a in omega (arith, same, b)) sites
      (all-below (body_calls p d) d sites (omega (arith, whole, h))) (each-above (body_calls p d) (body_calls p (suc d) f) sites (omega (arith, whole)))

  falls-at : (depth f : ℕ) (sites : List Site) → sites ≡ calls_in (block_of (slice_get p.funcs f)) → body_calls p depth f < depth → AllByRecursion (λ s. body_calls p depth s.func < body_calls p depth f) sites
  falls-at zero f sites is h = absurd (omega (arith, h))
  falls-at (suc d) f sites is h = falls-by d f sites is h

some-below : {A : Type 0} (xs : List A) (i : ℕ) (x : A) → slice_get xs i ≡ Some x → i < length xs
some-below [] i x h = cc
some-below (y ∷ ys) zero x h = omega arith
some-below (y ∷ ys) (suc i) x h = let l = some-below ys i x h in omega (arith, l)

pub depths-rank : (p : Program) (depth : ℕ) → depth ≤ length p.funcs → ((f : ℕ) → f < length p.funcs → body_calls p depth f < depth) → AreRanked p (body_calls p depth)
depths-rank p depth few shallow = record {
  few = λ k l. let h = shallow k l in omega (arith, h, few);
  falls = λ k f is. falls-at p depth k (calls_in (stmt.Block f.body)) (ap (λ (o : Option Func). calls_in (block_of o)) (sym is)) (shallow k (some-below p.funcs k f is));
}

-- ---- where functions are ranked, none leads back
func-at : (fs : List Func) (f i : ℕ) (c : Call) → slice_get (calls_at (graph_of fs) f) i ≡ Some c → (g : Func) × (slice_get fs f ≡ Some g) × (slice_get (as_calls (calls_in (stmt.Block g.body))) i ≡ Some c)
unfolding calls_at graph_of
func-at [] f i c h = cc
func-at (g ∷ fs) zero i c h = (g, refl, h)
func-at (g ∷ fs) (suc f) i c h = func-at fs f i c h

call-falls : (rank : ℕ → ℕ) (m : ℕ) (sites : List Site) (i : ℕ) (c : Call) → AllByRecursion (λ s. rank s.func < m) sites → slice_get (as_calls sites) i ≡ Some c → rank c.func < m
unfolding as_calls
call-falls rank m [] i c all h = cc
call-falls rank m (s ∷ sites) zero c all h = let same : s.func ≡ c.func = cc in subst (λ (f : ℕ). rank f < m) same all.0
call-falls rank m (s ∷ sites) (suc i) c all h = call-falls rank m sites i c all.1 h

module _ (p : Program) (rank : ℕ → ℕ) (ranked : AreRanked p rank) where
  falls : (f i : ℕ) (c : Call) → slice_get (calls_at (graph_of p.funcs) f) i ≡ Some c → rank c.func < rank f
  falls f i c h = let g = func-at p.funcs f i c h in call-falls rank (rank f) (calls_in (stmt.Block g.0.body)) i c (ranked.falls f g.0 g.1) g.2

  lower : (h g : ℕ) → Leads (graph_of p.funcs) h g → rank h ≤ rank g
  lower h g Leads.arrived = omega arith
  lower h g (Leads.goes_on i c is leads) = let a = falls g i c is in let b = lower h c.func leads in omega (arith, a, b)

  pub none-back : IsFirstBack (graph_of p.funcs) None
  none-back f c back = let a = falls f back.number c back.stands in let b = lower f c.func back.back in omega (arith, a, b)

-- ---- as code sees it
pub rows-more : (depth : ℕ) (rows : List Weight) (i : ℕ) (d : Weight) → i < length rows → (get_or rows i d).calls < depth → all_below depth (drop i rows) ≡ all_below depth rows →
    all_below depth (drop (i + 1) rows) ≡ all_below depth rows
unfolding all_below
rows-more depth rows i d h l left =
    let t : nat_lt (get_or rows i d).calls depth ≡ true = grind (arith, nat_tests, l) in
    ap (λ (b : Bool). b && all_below depth (drop (i + 1) rows)) (sym t) ∙ sym (ap (all_below depth) (drop_more rows i d h)) ∙ left

pub rows-stop : (depth : ℕ) (rows : List Weight) (i : ℕ) (d : Weight) → i < length rows → depth ≤ (get_or rows i d).calls → all_below depth (drop i rows) ≡ all_below depth rows → false ≡ all_below depth rows
unfolding all_below
rows-stop depth rows i d h l left =
    let t : nat_lt (get_or rows i d).calls depth ≡ false = grind (arith, nat_tests, l) in
    ap (λ (b : Bool). b && all_below depth (drop (i + 1) rows)) (sym t) ∙ sym (ap (all_below depth) (drop_more rows i d h)) ∙ left

pub rows-end : (depth : ℕ) (rows : List Weight) (i : ℕ) → length rows ≤ i → all_below depth (drop i rows) ≡ all_below depth rows → true ≡ all_below depth rows
unfolding all_below
rows-end depth rows i h left = sym (ap (all_below depth) (drop_all i rows h)) ∙ left

below-at : (depth : ℕ) (rows : List Weight) (f : ℕ) → 0 < depth → all_below depth rows ≡ true → (weight_at rows f).calls < depth
unfolding all_below weight_at
below-at depth [] f l h = l
below-at depth (w ∷ rows) zero l h = by (nat_lt w.calls depth) refl h
  where
    by : (b : Bool) → nat_lt w.calls depth ≡ b → (b && all_below depth rows) ≡ true → w.calls < depth
    by true e h = grind (arith, nat_tests, e)
    by false e h = cc
below-at depth (w ∷ rows) (suc f) l h = below-at depth rows f l (by (nat_lt w.calls depth) h)
  where
    by : (b : Bool) → (b && all_below depth rows) ≡ true → all_below depth rows ≡ true
    by true h = h
    by false h = cc

pub shallow : (p : Program) (depth : ℕ) (rows : List Weight) → depth ≡ min (length p.funcs) 65 → AreWeights p depth rows → all_below depth rows ≡ true → AreRanked p (body_calls p depth)
shallow p depth rows is are below = depths-rank p depth (omega (arith, is)) (λ f l.
    let some : 0 < depth = omega (arith, is, l) in
    let b = below-at depth rows f some below in
    let e = ap (λ (w : Weight). w.calls) (are f) in
    omega (arith, b, e, is))

pub shallow-none : (p : Program) (depth : ℕ) (rows : List Weight) → depth ≡ min (length p.funcs) 65 → AreWeights p depth rows → all_below depth rows ≡ true → IsFirstBack (graph_of p.funcs) None
shallow-none p depth rows is are below = none-back p (body_calls p depth) (shallow p depth rows is are below)

-- ---- rounds that change nothing any more
settled : (p : Program) (depth done : ℕ) (rows : List Weight) → done < 2 ^ 64 → done ≤ depth → 0 < done → all_below done rows ≡ true → AreWeights p done rows → AreWeights p depth rows
settled p depth done rows fits l some below are = λ f.
    let b = below-at done rows f some below in
    let e = ap (λ (w : Weight). w.calls) (are f) in
    let shallow : body_calls p done f < done = omega (arith, b, e, fits) in
    let cut = calls-cut p done depth f l in
    let calls : body_calls p done f ≡ body_calls p depth f = omega (arith, cut, shallow) in
    are f ∙ ap (λ (c : ℕ). weight c (body_statements p done f)) calls ∙ ap (weight (body_calls p depth f)) (statements-enough p done depth f l shallow)

pub settled-rows : (p : Program) (depth done : ℕ) (rows : List Weight) → done < 2 ^ 64 → done ≤ depth → is_settled done rows ≡ true → AreWeights p done rows → AreWeights p depth rows
settled-rows p depth done rows fits l = by (nat_lt 0 done) refl
  where
    by : (b : Bool) → nat_lt 0 done ≡ b → (b && all_below done rows) ≡ true → AreWeights p done rows → AreWeights p depth rows
    by true e h are = settled p depth done rows fits l (grind (arith, nat_tests, e)) h are
    by false e h are = cc
