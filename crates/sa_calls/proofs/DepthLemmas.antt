-- Weights by rounds: a round more tells bodies one deeper, and as many rounds as calls may stand on a path are enough.
use Rattle.std.proofs.Common.{◌≡◌, ℕ, zero, suc, ◌+◌, ◌-◌, ◌^◌, ◌<◌, ◌≤◌, inl, inr, Bool, true, List, [], ◌∷◌, ◌++◌, length, drop, get_or, refl, sym, ap, ◌∙◌, arith, append_assoc, append-nil, Some, None}
use Rattle.std.proofs.lemmas.List.{drop_all}
use Rattle.std.proofs.lemmas.Bool.{cases_lt}
use Rattle.std.proofs.lemmas.Bool.Decides.{nat_tests}
use Rattle.std.specs.List.{AllByRecursion}
use Rattle.std.specs.Prelude.{max, min, slice_get, nat_lt, if◌then◌else◌}
use Rattle.sa_base.specs.declared.limit.Limit.TheVariants.{Calls, Statements}
use Rattle.sa_typed.specs.Executions.{block_of}
use Rattle.sa_typed.specs.Frames.{statements_in, all_statements_in, group_statements_in, one_step, body_statements, program_statements}
use Rattle.sa_typed.specs.TypedPrograms.{Site, calls_in, calls_in_all, calls_in_groups}
use Rattle.sa_typed.specs.declared.program.Func.{Func}
use Rattle.sa_typed.specs.declared.program.Program.{Program}
use Rattle.sa_typed.specs.declared.stmt.Stmt.{Stmt, Row_of-Stmt, end_of-Stmt, more_of-Stmt, Row_of-Group, end_of-Group, more_of-Group}
use Rattle.sa_calls.specs.declared.weights.Weight.{Weight}
use Rattle.sa_calls.specs.Depths.{deepest, body_calls, program_calls}
use Rattle.sa_calls.specs.Weights.{capped, weight, nothing, weight_at, calls_by, statements_by, weight_in, weight_after, deeper, AreWeights, over_limit, first_over}
use Rattle.sa_calls.proofs.WeightLemmas.{same_weight, block_weight, next}

-- ---- lists
all_left : {A : Type 0} (P : A → Type 0) (xs ys : List A) → AllByRecursion P (xs ++ ys) → AllByRecursion P xs
all_left P [] ys h = tt
all_left P (x ∷ xs) ys h = (h.0, all_left P xs ys h.1)

all_right : {A : Type 0} (P : A → Type 0) (xs ys : List A) → AllByRecursion P (xs ++ ys) → AllByRecursion P ys
all_right P [] ys h = h
all_right P (x ∷ xs) ys h = all_right P xs ys h.1

all-map : {A : Type 0} (P Q : A → Type 0) → ((x : A) → P x → Q x) → (xs : List A) → AllByRecursion P xs → AllByRecursion Q xs
all-map P Q f [] h = tt
all-map P Q f (x ∷ xs) h = (f x h.0, all-map P Q f xs h.1)

all-of : {A : Type 0} (P : A → Type 0) → ((x : A) → P x) → (xs : List A) → AllByRecursion P xs
all-of P f [] = tt
all-of P f (x ∷ xs) = (f x, all-of P f xs)

-- ---- bodies that agree, as far as `cut` tells, on the functions that are called
module _ (cut : ℕ → ℕ) (sums : (a b c d : ℕ) → cut a ≡ cut b → cut c ≡ cut d → cut (a + c) ≡ cut (b + d)) (B C : ℕ → ℕ) where
  abbrev Agree : List Site → Type 0
  Agree sites = AllByRecursion (λ s. cut (B s.func) ≡ cut (C s.func)) sites

  mutual
    unfolding statements_in calls_in

    pub same_statements : (s : Stmt) → Agree (calls_in s) → cut (statements_in B s) ≡ cut (statements_in C s)
    same_statements (Stmt.Block' n all) h = same_all all h
    same_statements (Stmt.Call q f args dest) h = sums 1 1 (B f) (C f) refl h.0
    same_statements (Stmt.If' e n (more_of-Stmt a end_of-Stmt) m (more_of-Stmt b end_of-Stmt) marked) h =
        sums 1 1 (statements_in B a + statements_in B b) (statements_in C a + statements_in C b) refl
        (sums (statements_in B a) (statements_in C a) (statements_in B b) (statements_in C b)
        (same_statements a (all_left (λ s. cut (B s.func) ≡ cut (C s.func)) (calls_in a) (calls_in b) h)) (same_statements b (all_right (λ s. cut (B s.func) ≡ cut (C s.func)) (calls_in a) (calls_in b) h)))
    same_statements (Stmt.Switch' e num n groups marked) h = sums 1 1 (group_statements_in B groups) (group_statements_in C groups) refl (same_groups groups h)
    same_statements (Stmt.Loop' q form cond n (more_of-Stmt body end_of-Stmt) step) h =
        sums 1 1 (statements_in B body + one_step step) (statements_in C body + one_step step) refl
        (sums (statements_in B body) (statements_in C body) (one_step step) (one_step step) (same_statements body h) refl)
    same_statements (Stmt.Simple s) h = refl
    same_statements (Stmt.Scope v) h = refl
    same_statements (Stmt.Known e) h = refl
    same_statements (Stmt.Assert q e) h = refl
    same_statements Stmt.Wait h = refl
    same_statements Stmt.Break h = refl
    same_statements (Stmt.Return q num e) h = refl

    same_all : {n : _} (r : Row_of-Stmt n) → Agree (calls_in_all r) → cut (all_statements_in B r) ≡ cut (all_statements_in C r)
    same_all end_of-Stmt h = refl
    same_all (more_of-Stmt s rest) h =
        sums (statements_in B s) (statements_in C s) (all_statements_in B rest) (all_statements_in C rest)
        (same_statements s (all_left (λ s. cut (B s.func) ≡ cut (C s.func)) (calls_in s) (calls_in_all rest) h)) (same_all rest (all_right (λ s. cut (B s.func) ≡ cut (C s.func)) (calls_in s) (calls_in_all rest) h))

    same_groups : {n : _} (r : Row_of-Group n) → Agree (calls_in_groups r) → cut (group_statements_in B r) ≡ cut (group_statements_in C r)
    same_groups end_of-Group h = refl
    same_groups (more_of-Group labels n (more_of-Stmt body end_of-Stmt) rest) h =
        sums (statements_in B body) (statements_in C body) (group_statements_in B rest) (group_statements_in C rest)
        (same_statements body (all_left (λ s. cut (B s.func) ≡ cut (C s.func)) (calls_in body) (calls_in_groups rest) h)) (same_groups rest (all_right (λ s. cut (B s.func) ≡ cut (C s.func)) (calls_in body) (calls_in_groups rest) h))

-- ---- numbers of a machine word
capped-sums : (a b c d : ℕ) → capped a ≡ capped b → capped c ≡ capped d → capped (a + c) ≡ capped (b + d)
capped-sums a b c d e f = omega (arith, e, f)

capped-most : (a b c d : ℕ) → capped a ≡ capped b → capped c ≡ capped d → capped (max (1 + a) c) ≡ capped (max (1 + b) d)
capped-most a b c d e f = omega (arith, e, f)

twice-capped : (n : ℕ) → capped (capped n) ≡ capped n
twice-capped n = omega arith

capped-deepest : (B C : ℕ → ℕ) → ((f : ℕ) → capped (B f) ≡ capped (C f)) → (sites : List Site) → capped (deepest B sites) ≡ capped (deepest C sites)
unfolding deepest
capped-deepest B C h [] = refl
capped-deepest B C h (s ∷ sites) = capped-most (B s.func) (C s.func) (deepest B sites) (deepest C sites) (h s.func) (capped-deepest B C h sites)

-- ---- a round more
pub funcs-more : (rows : List Weight) (whole old new : List Weight) (fs : List Func) (i : ℕ) (f : Func) (w : Weight) → i < length fs → f ≡ get_or fs i f → w ≡ weight_after rows f.body nothing → new ≡ old ++ w ∷ [] →
    old ++ deeper rows (drop i fs) ≡ whole → new ++ deeper rows (drop (i + 1) fs) ≡ whole
unfolding deeper
funcs-more rows whole old new fs i f w h is e n left =
    let rest = deeper rows (drop (i + 1) fs) in
    ap (λ (t : List Weight). t ++ rest) n ∙ append_assoc old (w ∷ []) rest
    ∙ ap (λ (x : Weight). old ++ (x ∷ rest)) (e ∙ sym (block_weight rows f.body))
    ∙ sym (ap (λ (t : List Func). old ++ deeper rows t) (next fs i f h is)) ∙ left

pub funcs-end : (rows : List Weight) (whole old : List Weight) (fs : List Func) (i : ℕ) → length fs ≤ i → old ++ deeper rows (drop i fs) ≡ whole → old ≡ whole
unfolding deeper
funcs-end rows whole old fs i h left = sym (append-nil old) ∙ sym (ap (λ (t : List Func). old ++ deeper rows t) (drop_all i fs h)) ∙ left

at-deeper : (rows : List Weight) (fs : List Func) (f : ℕ) → weight_at (deeper rows fs) f ≡ weight_in rows (block_of (slice_get fs f))
unfolding weight_at deeper weight_in calls_in statements_in deepest Rattle.sa_typed.specs.declared.stmt.Stmt.TheBlock.hidden-the_row-Stmt-0 denote.Hole.Carrier.hidden
at-deeper rows [] f = refl
at-deeper rows (x ∷ fs) zero = refl
at-deeper rows (x ∷ fs) (suc f) = at-deeper rows fs f

module _ (p : Program) (depth : ℕ) (rows : List Weight) (are : AreWeights p depth rows) where
  calls-are : (f : ℕ) → capped (calls_by rows f) ≡ capped (body_calls p depth f)
  unfolding calls_by
  calls-are f = ap (λ (w : Weight). capped w.calls) (are f) ∙ twice-capped (body_calls p depth f)

  statements-are : (f : ℕ) → capped (statements_by rows f) ≡ capped (body_statements p depth f)
  unfolding statements_by
  statements-are f = ap (λ (w : Weight). capped w.statements) (are f) ∙ twice-capped (body_statements p depth f)

  pub round : AreWeights p (suc depth) (deeper rows p.funcs)
  unfolding weight_in body_calls body_statements
  round f =
      let s = block_of (slice_get p.funcs f) in
      at-deeper rows p.funcs f
      ∙ same_weight (deepest (calls_by rows) (calls_in s)) (deepest (body_calls p depth) (calls_in s)) (statements_in (statements_by rows) s) (statements_in (body_statements p depth) s)
      (capped-deepest (calls_by rows) (body_calls p depth) calls-are (calls_in s))
      (same_statements capped capped-sums (statements_by rows) (body_statements p depth) s (all-of (λ x. capped (statements_by rows x.func) ≡ capped (body_statements p depth x.func)) (λ x. statements-are x.func) (calls_in s)))

  pub next-round : (n : ℕ) (new : List Weight) → n ≡ suc depth → new ≡ deeper rows p.funcs → AreWeights p n new
  next-round n new e is = λ f. ap (λ (ws : List Weight). weight_at ws f) is ∙ round f ∙ ap (λ (m : ℕ). weight (body_calls p m f) (body_statements p m f)) (sym e)

pub first-round : (p : Program) → AreWeights p 0 []
unfolding weight_at body_calls body_statements
first-round p f = refl

-- ---- enough rounds
cut-most : (d x m c : ℕ) → c ≡ min (suc d) m → max (1 + min d x) c ≡ min (suc d) (max (1 + x) m)
cut-most d x m c e = omega (arith, e)

cut-deepest : (d : ℕ) (B C : ℕ → ℕ) → ((f : ℕ) → B f ≡ min d (C f)) → (sites : List Site) → deepest B sites ≡ min (suc d) (deepest C sites)
unfolding deepest
cut-deepest d B C h [] = omega arith
cut-deepest d B C h (s ∷ sites) = ap (λ (n : ℕ). max (1 + n) (deepest B sites)) (h s.func) ∙ cut-most d (C s.func) (deepest C sites) (deepest B sites) (cut-deepest d B C h sites)

none-least : (n : ℕ) → 0 ≡ min 0 n
none-least n = omega arith

pub calls-cut : (p : Program) (d e f : ℕ) → d ≤ e → body_calls p d f ≡ min d (body_calls p e f)
unfolding body_calls
calls-cut p zero e f l = none-least (body_calls p e f)
calls-cut p (suc d) zero f l = absurd (omega (arith, l))
calls-cut p (suc d) (suc e) f l = cut-deepest d (body_calls p d) (body_calls p e) (λ g. calls-cut p d e g (omega (arith, l))) (calls_in (block_of (slice_get p.funcs f)))

here-below : (a m d : ℕ) → max (1 + a) m < suc d → a < d
here-below a m d h = omega (arith, h)

rest-below : (a m d : ℕ) → max (1 + a) m < suc d → m < suc d
rest-below a m d h = omega (arith, h)

pub all-below : (B : ℕ → ℕ) (d : ℕ) (sites : List Site) → deepest B sites < suc d → AllByRecursion (λ s. B s.func < d) sites
unfolding deepest
all-below B d [] h = tt
all-below B d (s ∷ sites) h = (here-below (B s.func) (deepest B sites) d h, all-below B d sites (rest-below (B s.func) (deepest B sites) d h))

plain-sums : (a b c d : ℕ) → a ≡ b → c ≡ d → a + c ≡ b + d
plain-sums a b c d e f = omega (arith, e, f)

pub statements-enough : (p : Program) (d e f : ℕ) → d ≤ e → body_calls p d f < d → body_statements p d f ≡ body_statements p e f
unfolding body_calls body_statements
statements-enough p zero e f l h = absurd (omega (arith, h))
statements-enough p (suc d) zero f l h = absurd (omega (arith, l))
statements-enough p (suc d) (suc e) f l h =
    let s = block_of (slice_get p.funcs f) in
    same_statements (λ n. n) plain-sums (body_statements p d) (body_statements p e) s
    (all-map (λ x. body_calls p d x.func < d) (λ x. body_statements p d x.func ≡ body_statements p e x.func) (λ x b. statements-enough p d e x.func (omega (arith, l)) b) (calls_in s) (all-below (body_calls p d) d (calls_in s) h))

-- the answer on numbers of a machine word, and of the rounds that are made
capped-limit : (c s : ℕ) → over_limit (capped c) (capped s) ≡ over_limit c s
unfolding over_limit
capped-limit c s = ap (λ (b : Bool). if b then Some Calls else if nat_lt 200000 (capped s) then Some Statements else None) (below-cap 64 c (omega arith)) ∙ ap (λ (b : Bool). if nat_lt 64 c then Some Calls else if b then Some Statements else None) (below-cap 200000 s (omega arith))
  where
    below-cap : (m n : ℕ) → m < 2 ^ 64 - 1 → nat_lt m (capped n) ≡ nat_lt m n
    below-cap m n l = grind (arith, nat_tests, l)

too-deep : (c s t : ℕ) (d : ℕ) → 64 < c → 64 < d → over_limit c s ≡ over_limit d t
unfolding over_limit
too-deep c s t d h i = let e : nat_lt 64 c ≡ true = grind (arith, nat_tests, h) in let f : nat_lt 64 d ≡ true = grind (arith, nat_tests, i) in rw (e, f) refl

module _ (p : Program) (n f : ℕ) where
  few-rounds : n ≤ 65 → over_limit (body_calls p (min n 65) f) (body_statements p (min n 65) f) ≡ over_limit (body_calls p n f) (body_statements p n f)
  few-rounds h = let e : min n 65 ≡ n = omega (arith, h) in ap (λ (d : ℕ). over_limit (body_calls p d f) (body_statements p d f)) e

  many-rounds : 65 ≤ n → over_limit (body_calls p 65 f) (body_statements p 65 f) ≡ over_limit (body_calls p n f) (body_statements p n f)
  many-rounds h =
      let cut = calls-cut p 65 n f h in
      elim (cases_lt (body_calls p 65 f) 65) [
        | inl shallow ↦
            let same : body_calls p 65 f ≡ body_calls p n f = omega (arith, cut, shallow) in
            ap (λ (c : ℕ). over_limit c (body_statements p 65 f)) same ∙ ap (over_limit (body_calls p n f)) (statements-enough p 65 n f h shallow)
        | inr deep ↦ too-deep (body_calls p 65 f) (body_statements p 65 f) (body_statements p n f) (body_calls p n f) (omega (arith, deep)) (omega (arith, cut, deep))
      ]

  enough-rounds : over_limit (body_calls p (min n 65) f) (body_statements p (min n 65) f) ≡ over_limit (body_calls p n f) (body_statements p n f)
  enough-rounds = elim (cases_lt n 65) [
    | inl h ↦ few-rounds (omega (arith, h))
    | inr h ↦ let e : min n 65 ≡ 65 = omega (arith, h) in ap (λ (d : ℕ). over_limit (body_calls p d f) (body_statements p d f)) e ∙ many-rounds (omega (arith, h))
  ]

pub rounds-answer : (p : Program) (depth : ℕ) (rows : List Weight) → depth ≡ min (length p.funcs) 65 → AreWeights p depth rows →
    over_limit (weight_at rows p.entry).calls (weight_at rows p.entry).statements ≡ first_over p
unfolding first_over program_calls program_statements
rounds-answer p depth rows is are =
    let w = are p.entry in
    ap (λ (w : Weight). over_limit w.calls w.statements) w ∙ capped-limit (body_calls p depth p.entry) (body_statements p depth p.entry)
    ∙ ap (λ (d : ℕ). over_limit (body_calls p d p.entry) (body_statements p d p.entry)) is ∙ enough-rounds p (length p.funcs) p.entry
