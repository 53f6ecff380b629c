-- What is met from a function, in the order in which it is met: each function that it leads to, and no other.
use Rattle.std.proofs.Common.{◌≡◌, ℕ, zero, suc, ◌<◌, ◌≤◌, ◌⊎◌, inl, inr, Bool, true, false, List, [], ◌∷◌, ◌++◌, length, get_or, refl, sym, ap, subst, ◌∙◌, arith, Some}
use Rattle.std.proofs.lemmas.List.{length-set, get_or-set_same, get_or-set_other, length-replicate}
use Rattle.std.proofs.lemmas.Bool.{cases_eq, cases_lt}
use Rattle.std.proofs.lemmas.Bool.Decides.{nat_tests}
use Rattle.std.specs.Prelude.{set, slice_get, replicate, nat_lt}
use Rattle.sa_calls.specs.declared.graph.Call.{Call}
use Rattle.sa_calls.specs.Recursion.{Leads, calls_at, marks_after, order_after, marks_all, order_all}

-- ---- how many are marked
unfoldable pub marked : List Bool → ℕ
marked [] = 0
marked (true ∷ bs) = suc (marked bs)
marked (false ∷ bs) = marked bs

pub marked-few : (bs : List Bool) → marked bs ≤ length bs
unfolding marked
marked-few [] = omega arith
marked-few (true ∷ bs) = let h = marked-few bs in omega (arith, h)
marked-few (false ∷ bs) = let h = marked-few bs in omega (arith, h)

pub marked-none : (n : ℕ) → marked (replicate n false) ≡ 0
unfolding marked
marked-none zero = refl
marked-none (suc n) = marked-none n

marked-one : (bs : List Bool) (f : ℕ) → f < length bs → get_or bs f false ≡ false → marked (set bs f true) ≡ suc (marked bs)
unfolding marked
marked-one [] f l h = absurd (omega (arith, l))
marked-one (true ∷ bs) zero l h = cc
marked-one (false ∷ bs) zero l h = refl
marked-one (true ∷ bs) (suc f) l h = ap suc (marked-one bs f (omega (arith, l)) h)
marked-one (false ∷ bs) (suc f) l h = marked-one bs f (omega (arith, l)) h

-- ---- lists
some_below : {A : Type 0} (xs : List A) (i : ℕ) (x : A) → slice_get xs i ≡ Some x → i < length xs
some_below [] i x h = cc
some_below (y ∷ ys) zero x h = omega arith
some_below (y ∷ ys) (suc i) x h = let l = some_below ys i x h in omega (arith, l)

here_old : {A : Type 0} (xs ys : List A) (i : ℕ) (x : A) → slice_get xs i ≡ Some x → slice_get (xs ++ ys) i ≡ Some x
here_old [] ys i x h = cc
here_old (y ∷ xs) ys zero x h = h
here_old (y ∷ xs) ys (suc i) x h = here_old xs ys i x h

here_new : {A : Type 0} (xs : List A) (x : A) → slice_get (xs ++ x ∷ []) (length xs) ≡ Some x
here_new [] x = refl
here_new (y ∷ xs) x = here_new xs x

old_or_new : {A : Type 0} (xs : List A) (x y : A) (i : ℕ) → slice_get (xs ++ x ∷ []) i ≡ Some y → (slice_get xs i ≡ Some y) ⊎ ((i ≡ length xs) × (y ≡ x))
old_or_new [] x y zero h = inr (refl, cc)
old_or_new [] x y (suc i) h = cc
old_or_new (z ∷ xs) x y zero h = inl h
old_or_new (z ∷ xs) x y (suc i) h = elim (old_or_new xs x y i h) [ inl e ↦ inl e | inr e ↦ inr (ap suc e.0, e.1) ]

length-one : {A : Type 0} (xs : List A) (x : A) → length (xs ++ x ∷ []) ≡ suc (length xs)
length-one [] x = refl
length-one (y ∷ xs) x = ap suc (length-one xs x)

none_marked : (n k : ℕ) → get_or (replicate n false) k false ≡ true → ⊥
none_marked zero k h = cc
none_marked (suc n) zero h = cc
none_marked (suc n) (suc k) h = none_marked n k h

pub calls-below : (graph : List (List Call)) (g i : ℕ) (c : Call) → slice_get (calls_at graph g) i ≡ Some c → g < length graph
unfolding calls_at
calls-below [] g i c h = cc
calls-below (x ∷ xs) zero i c h = omega arith
calls-below (x ∷ xs) (suc g) i c h = let l = calls-below xs g i c h in omega (arith, l)

-- ---- what is met
pub record IsFront (graph : List (List Call)) (start : ℕ) (marks : List Bool) (order : List ℕ) (done : ℕ) : Type 0 where
  pub long : length marks ≡ length graph
  pub count : length order ≡ marked marks
  pub early : done ≤ length order
  pub sound : (i k : ℕ) → slice_get order i ≡ Some k → Leads graph k start
  pub listed : (k : ℕ) → get_or marks k false ≡ true → (i : ℕ) × (slice_get order i ≡ Some k)
  pub closed : (i f j : ℕ) (c : Call) → i < done → slice_get order i ≡ Some f → slice_get (calls_at graph f) j ≡ Some c → c.func < length graph → get_or marks c.func false ≡ true

-- one function that the start leads to is met: it is marked, and the rest stands
pub record IsNext (graph : List (List Call)) (start : ℕ) (marks new : List Bool) (order more : List ℕ) (done f : ℕ) : Type 0 where
  pub front : IsFront graph start new more done
  pub here : f < length graph → get_or new f false ≡ true
  pub stays : (i k : ℕ) → slice_get order i ≡ Some k → slice_get more i ≡ Some k
  pub kept : (k : ℕ) → get_or marks k false ≡ true → get_or new k false ≡ true

module _ (graph : List (List Call)) (start : ℕ) (marks : List Bool) (order : List ℕ) (done f : ℕ) (front : IsFront graph start marks order done) where
  kept-marks : (k : ℕ) → f < length marks → get_or marks k false ≡ true → get_or (set marks f true) k false ≡ true
  kept-marks k e h = elim (cases_eq k f) [
    | inl same ↦ subst (λ (k : ℕ). get_or (set marks f true) k false ≡ true) (sym same) (get_or-set_same marks f true false e)
    | inr other ↦ get_or-set_other marks f k true false other ∙ h
  ]

  met-new : Leads graph f start → f < length marks → get_or marks f false ≡ false → IsNext graph start marks (set marks f true) order (order ++ f ∷ []) done f
  met-new leads e free = record {
    front = record {
      long = length-set marks f true ∙ front.long;
      count = length-one order f ∙ ap suc front.count ∙ sym (marked-one marks f e free);
      early = (let l = front.early in let m = length-one order f in omega (arith, l, m));
      sound = λ i k h. elim (old_or_new order f k i h) [ inl old ↦ front.sound i k old | inr new ↦ subst (λ (k : ℕ). Leads graph k start) (sym new.1) leads ];
      listed = λ k h. elim (cases_eq k f) [
        | inl same ↦ (length order, subst (λ (k : ℕ). slice_get (order ++ f ∷ []) (length order) ≡ Some k) (sym same) (here_new order f))
        | inr other ↦ (let i = front.listed k (sym (get_or-set_other marks f k true false other) ∙ h) in (i.0, here_old order (f ∷ []) i.0 k i.1))
      ];
      closed = λ i g j c l h is few. elim (old_or_new order f g i h) [
        | inl old ↦ kept-marks c.func e (front.closed i g j c l old is few)
        | inr new ↦ (let x = front.early in let y = new.0 in absurd (omega (arith, l, x, y)))
      ];
    };
    here = λ l. get_or-set_same marks f true false e;
    stays = λ i k h. here_old order (f ∷ []) i k h;
    kept = λ k h. kept-marks k e h;
  }

  met-old : (f < length graph → get_or marks f false ≡ true) → IsNext graph start marks marks order order done f
  met-old h = record { front = front; here = h; stays = λ i k e. e; kept = λ k e. e }

  met-by : Leads graph f start → (l b : Bool) → nat_lt f (length marks) ≡ l → get_or marks f false ≡ b → IsNext graph start marks (marks_after f marks) order (order_after f marks order) done f
  unfolding marks_after order_after
  met-by leads false b e h =
      let long = front.long in
      let above : length marks ≤ f = grind (arith, nat_tests, e) in
      rw e (met-old (λ l. absurd (omega (arith, above, long, l))))
  met-by leads true true e h = rw (e, h) (met-old (λ l. h))
  met-by leads true false e h = let l : f < length marks = grind (arith, nat_tests, e) in rw (e, h) (met-new leads l h)

  pub met : Leads graph f start → IsNext graph start marks (marks_after f marks) order (order_after f marks order) done f
  met leads = met-by leads (nat_lt f (length marks)) (get_or marks f false) refl refl

-- all functions that are called are met
pub record AreNext (graph : List (List Call)) (start : ℕ) (calls : List Call) (marks new : List Bool) (order more : List ℕ) (done : ℕ) : Type 0 where
  pub front : IsFront graph start new more done
  pub here : (j : ℕ) (c : Call) → slice_get calls j ≡ Some c → c.func < length graph → get_or new c.func false ≡ true
  pub stays : (i k : ℕ) → slice_get order i ≡ Some k → slice_get more i ≡ Some k
  pub kept : (k : ℕ) → get_or marks k false ≡ true → get_or new k false ≡ true

pub met-all : (graph : List (List Call)) (start done : ℕ) (calls : List Call) (marks : List Bool) (order : List ℕ) → IsFront graph start marks order done →
    ((j : ℕ) (c : Call) → slice_get calls j ≡ Some c → Leads graph c.func start) →
    AreNext graph start calls marks (marks_all calls marks) order (order_all calls marks order) done
unfolding marks_all order_all
met-all graph start done [] marks order front leads = record { front = front; here = λ j c h l. cc; stays = λ i k h. h; kept = λ k h. h }
met-all graph start done (c ∷ calls) marks order front leads =
    let one = met graph start marks order done c.func front (leads zero c refl) in
    let rest = met-all graph start done calls (marks_after c.func marks) (order_after c.func marks order) one.front (λ j x h. leads (suc j) x h) in
    record {
      front = rest.front;
      here = λ j x h l. each graph start calls (marks_after c.func marks) (marks_all calls (marks_after c.func marks)) c rest.here (λ m. rest.kept c.func (one.here m)) j x h l;
      stays = λ i k h. rest.stays i k (one.stays i k h);
      kept = λ k h. rest.kept k (one.kept k h);
    }
  where
    each : (graph : List (List Call)) (start : ℕ) (calls : List Call) (marks new : List Bool) (c : Call) → ((j : ℕ) (x : Call) → slice_get calls j ≡ Some x → x.func < length graph → get_or new x.func false ≡ true) →
        (c.func < length graph → get_or new c.func false ≡ true) → (j : ℕ) (x : Call) → slice_get (c ∷ calls) j ≡ Some x → x.func < length graph → get_or new x.func false ≡ true
    each graph start calls marks new c rest here zero x h l = subst (λ (x : Call). x.func < length graph → get_or new x.func false ≡ true) (let e : c ≡ x = cc in e) here l
    each graph start calls marks new c rest here (suc j) x h l = rest j x h l

-- ---- one turn more
pub leads-more : (graph : List (List Call)) (f g : ℕ) (i : ℕ) (c : Call) → Leads graph f g → slice_get (calls_at graph f) i ≡ Some c → Leads graph c.func g
leads-more graph f g i c Leads.arrived h = Leads.goes_on i c h Leads.arrived
leads-more graph f g i c (Leads.goes_on j d is l) h = Leads.goes_on j d is (leads-more graph f d.func i c l h)

module _ (graph : List (List Call)) (start : ℕ) (marks : List Bool) (order : List ℕ) (done f : ℕ) (front : IsFront graph start marks order done) (is : slice_get order done ≡ Some f) where
  all : AreNext graph start (calls_at graph f) marks (marks_all (calls_at graph f) marks) order (order_all (calls_at graph f) marks order) done
  all = met-all graph start done (calls_at graph f) marks order front (λ j c h. leads-more graph f start j c (front.sound done f is) h)

  -- the function that is next in the order, with all that it calls
  pub turn : (n : ℕ) → n ≡ suc done → IsFront graph start (marks_all (calls_at graph f) marks) (order_all (calls_at graph f) marks order) n
  turn n e =
      let a = all in
      let new = order_all (calls_at graph f) marks order in
      record {
        long = a.front.long;
        count = a.front.count;
        early = (let l = some_below new done f (a.stays done f is) in omega (arith, e, l));
        sound = a.front.sound;
        listed = a.front.listed;
        closed = λ i g j c l h s few. elim (cases_lt i done) [
          | inl less ↦ a.front.closed i g j c less h s few
          | inr last ↦ (
              let i_is : i ≡ done = omega (arith, e, l, last) in
              let same : Some g ≡ Some f = sym h ∙ ap (slice_get new) i_is ∙ a.stays done f is in
              let g_is : g ≡ f = cc in
              a.here j c (subst (λ (g : ℕ). slice_get (calls_at graph g) j ≡ Some c) g_is s) few)
        ];
      }

  pub still : (k : ℕ) → get_or marks k false ≡ true → get_or (marks_all (calls_at graph f) marks) k false ≡ true
  still k h = all.kept k h

-- ---- the beginning and the end
module _ (graph : List (List Call)) (start : ℕ) where
  nothing-met : IsFront graph start (replicate (length graph) false) [] 0
  nothing-met = record {
    long = length-replicate (length graph) false;
    count = sym (marked-none (length graph));
    early = omega arith;
    sound = λ i k h. cc;
    listed = λ k h. absurd (none_marked (length graph) k h);
    closed = λ i f j c l h is few. absurd (omega (arith, l));
  }

  pub begins : IsNext graph start (replicate (length graph) false) (marks_after start (replicate (length graph) false)) [] (order_after start (replicate (length graph) false) []) 0 start
  begins = met graph start (replicate (length graph) false) [] 0 start nothing-met Leads.arrived

  module _ (marks : List Bool) (order : List ℕ) (done : ℕ) (front : IsFront graph start marks order done) (over : length order ≤ done) where
    pub all-led : (h : ℕ) → get_or marks h false ≡ true → Leads graph h start
    all-led h m = let i = front.listed h m in front.sound i.0 h i.1

    known : (g : ℕ) (i : ℕ) (c : Call) → slice_get (calls_at graph g) i ≡ Some c → (g < length graph → get_or marks g false ≡ true) → c.func < length graph → get_or marks c.func false ≡ true
    known g i c is m few =
        let at = front.listed g (m (calls-below graph g i c is)) in
        let l = some_below order at.0 g at.1 in
        front.closed at.0 g i c (omega (arith, l, over)) at.1 is few

    pub all-marked : (h g : ℕ) → h < length graph → (g < length graph → get_or marks g false ≡ true) → Leads graph h g → get_or marks h false ≡ true
    all-marked h g l m Leads.arrived = m l
    all-marked h g l m (Leads.goes_on i c is leads) = all-marked h c.func l (known g i c is m) leads

pub order-few : (graph : List (List Call)) (start : ℕ) (marks : List Bool) (order : List ℕ) (done : ℕ) → IsFront graph start marks order done → length order ≤ length graph
order-few graph start marks order done front =
    let c = front.count in
    let l = front.long in
    let m = marked-few marks in
    omega (arith, c, l, m)

-- ---- as code sees it
pub begins-at : (graph : List (List Call)) (start : ℕ) (m new : List Bool) (o order : List ℕ) → m ≡ replicate (length graph) false → o ≡ [] → new ≡ marks_after start m → order ≡ order_after start m o →
    IsFront graph start new order 0 × (start < length graph → get_or new start false ≡ true)
begins-at graph start m new o order a b e f =
    let none = replicate (length graph) false in
    let n = begins graph start in
    let marks : new ≡ marks_after start none = e ∙ ap (marks_after start) a in
    let whole : order ≡ order_after start none [] = f ∙ ap (λ (m : List Bool). order_after start m o) a ∙ ap (order_after start none) b in
    subst (λ (ms : List Bool). IsFront graph start ms order 0 × (start < length graph → get_or ms start false ≡ true)) (sym marks)
    (subst (λ (os : List ℕ). IsFront graph start (marks_after start none) os 0) (sym whole) n.front, n.here)

got-at : (xs : List ℕ) (i d x : ℕ) → i < length xs → x ≡ get_or xs i d → slice_get xs i ≡ Some x
got-at [] i d x l h = absurd (omega (arith, l))
got-at (y ∷ xs) zero d x l h = ap Some (sym h)
got-at (y ∷ xs) (suc i) d x l h = got-at xs i d x (omega (arith, l)) h

pub turn-at : (graph : List (List Call)) (start : ℕ) (marks new : List Bool) (order more : List ℕ) (done n f d : ℕ) (cs : List Call) →
    IsFront graph start marks order done × (start < length graph → get_or marks start false ≡ true) → done < length order → f ≡ get_or order done d → cs ≡ calls_at graph f → n ≡ suc done →
    new ≡ marks_all cs marks → more ≡ order_all cs marks order → IsFront graph start new more n × (start < length graph → get_or new start false ≡ true)
turn-at graph start marks new order more done n f d cs front l is calls e a b =
    let at = got-at order done d f l is in
    let met_marks : new ≡ marks_all (calls_at graph f) marks = a ∙ ap (λ (cs : List Call). marks_all cs marks) calls in
    let met_order : more ≡ order_all (calls_at graph f) marks order = b ∙ ap (λ (cs : List Call). order_all cs marks order) calls in
    subst (λ (ms : List Bool). IsFront graph start ms more n × (start < length graph → get_or ms start false ≡ true)) (sym met_marks) (
      subst (λ (os : List ℕ). IsFront graph start (marks_all (calls_at graph f) marks) os n) (sym met_order) (turn graph start marks order done f front.0 at n e),
      λ few. still graph start marks order done f front.0 at start (front.1 few),
    )
