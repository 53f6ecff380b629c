-- Links, steps and cells, one step on and at the end; and what is noted of alarms one after another.
use Rattle.std.proofs.Common.{◌≡◌, ℕ, ◌+◌, ◌<◌, ◌≤◌, Bool, true, false, List, [], ◌∷◌, ◌++◌, length, drop, get_or, refl, sym, ap, ◌∙◌, arith, Option, Some, None, append_assoc, append-nil}
use Rattle.std.proofs.lemmas.Int.{ints, clamps}
use Rattle.std.proofs.lemmas.List.{drop_more, drop_all}
use Rattle.std.specs.Prelude.{option_map}
use Rattle.sa_base.specs.declared.alarm.Alarm.{Alarm}
use Rattle.sa_interval.specs.Span.{Span}
use Rattle.sa_interval.specs.Rows.{join_of}
use Rattle.sa_typed.specs.declared.expr.Link.{Link, out-Link}
use Rattle.sa_typed.specs.declared.expr.Step.{Step}
use Rattle.sa_typed.specs.declared.program.Program.{Program}
use Rattle.sa_operators.specs.Alarms.{noted}
use Rattle.sa_operators.specs.Operators.{operator_alarms}
use Rattle.sa_reference.specs.declared.flat.Flat.{Flat}
use Rattle.sa_reference.specs.declared.reach.Reach.{Reach}
use Rattle.sa_reference.specs.Passes.{alive_then}
use Rattle.sa_reference.specs.Sound.{widest}
use Rattle.sa_reference.specs.Values.{cell_span, joined, reach_of, step_alarms, alarms_of, with_both}
use Rattle.sa_transfer.specs.Lists.{operand_span, next_span, span_after, link_alarms, alarms_after, reached, indices_alarms, with_reach, then_reached, join_with, then_joined}

next : {A : Type 0} (xs : List A) (i : ℕ) (x : A) → i < length xs → x ≡ get_or xs i x → drop i xs ≡ x ∷ drop (i + 1) xs
next xs i x h e = drop_more xs i x h ∙ ap (λ (y : _). y ∷ drop (i + 1) xs) (sym e)

-- ---- what is noted
noted_parts : (b : Bool) (xs ys : List Alarm) → noted b (xs ++ ys) ≡ noted b xs ++ noted b ys
unfolding noted
noted_parts true xs ys = refl
noted_parts false xs ys = refl

noted_none : (b : Bool) → noted b [] ≡ []
unfolding noted
noted_none true = refl
noted_none false = refl

pub nothing_noted : (b : Bool) (xs : List Alarm) → xs ≡ xs ++ noted b []
nothing_noted b xs = sym (ap (λ (ys : List Alarm). xs ++ ys) (noted_none b) ∙ append-nil xs)

-- the alarms of two parts
pub two_noted : (b : Bool) (old new last first second : List Alarm) → new ≡ old ++ noted b first → last ≡ new ++ noted b second → last ≡ old ++ noted b (first ++ second)
two_noted b old new last first second e g =
    g ∙ ap (λ (xs : List Alarm). xs ++ noted b second) e ∙ append_assoc old (noted b first) (noted b second) ∙ ap (λ (xs : List Alarm). old ++ xs) (sym (noted_parts b first second))

pub two_parts : (b : Bool) (old new last first second all : List Alarm) → new ≡ old ++ noted b first → last ≡ new ++ noted b second → all ≡ first ++ second → last ≡ old ++ noted b all
two_parts b old new last first second all e g is = two_noted b old new last first second e g ∙ ap (λ (xs : List Alarm). old ++ noted b xs) (sym is)

-- the alarms so far and those that follow, one part on
pub one_more : (b : Bool) (old new whole first rest : List Alarm) → new ≡ old ++ noted b first → old ++ noted b (first ++ rest) ≡ whole → new ++ noted b rest ≡ whole
one_more b old new whole first rest e w = two_noted b old new (new ++ noted b rest) first rest e refl ∙ w

pub none_more : (b : Bool) (old whole : List Alarm) → old ++ noted b [] ≡ whole → old ≡ whole
none_more b old whole w = nothing_noted b old ∙ w

-- ---- links
module _ (p : Program) (env : Flat) (ls : List Link) (i : ℕ) (o : Option Span) where
  module _ (l : Link) (here : i < length ls) (is : l ≡ get_or ls i l) where
    pub span_more : span_after p env (drop i ls) o ≡ span_after p env (drop (i + 1) ls) (next_span p env o l)
    unfolding span_after
    span_more = ap (λ (xs : List Link). span_after p env xs o) (next ls i l here is)

    pub alarms_more : alarms_after p env (drop i ls) o ≡ link_alarms p env o l ++ alarms_after p env (drop (i + 1) ls) (next_span p env o l)
    unfolding alarms_after
    alarms_more = ap (λ (xs : List Link). alarms_after p env xs o) (next ls i l here is)

  pub span_end : length ls ≤ i → span_after p env (drop i ls) o ≡ o
  unfolding span_after
  span_end h = ap (λ (xs : List Link). span_after p env xs o) (drop_all i ls h)

  pub alarms_end : length ls ≤ i → alarms_after p env (drop i ls) o ≡ []
  unfolding alarms_after
  alarms_end h = ap (λ (xs : List Link). alarms_after p env xs o) (drop_all i ls h)

-- the alarms of a link: those of its operand, and those at its operator
link_parts : (p : Program) (env : Flat) (o right : Option Span) (l : Link) → right ≡ operand_span p env l →
    link_alarms p env o l ≡ alarms_of p (widest p) env (out-Link l).operand ++ with_both o right (operator_alarms (out-Link l).op (out-Link l).pos (out-Link l).num)
unfolding link_alarms
link_parts p env o right l e =
    ap (λ (r : Option Span). alarms_of p (widest p) env (out-Link l).operand ++ with_both o r (operator_alarms (out-Link l).op (out-Link l).pos (out-Link l).num)) (sym e)

-- the alarms so far and those that follow, one link on
pub link_noted : (b : Bool) (p : Program) (env : Flat) (ls : List Link) (i : ℕ) (o : Option Span) (l : Link) → i < length ls → l ≡ get_or ls i l → (right value : Option Span) (old new last whole : List Alarm) →
    right ≡ operand_span p env l → value ≡ next_span p env o l → new ≡ old ++ noted b (alarms_of p (widest p) env (out-Link l).operand) →
    last ≡ new ++ noted b (with_both o right (operator_alarms (out-Link l).op (out-Link l).pos (out-Link l).num)) → old ++ noted b (alarms_after p env (drop i ls) o) ≡ whole →
    last ++ noted b (alarms_after p env (drop (i + 1) ls) value) ≡ whole
link_noted b p env ls i o l h is right value old new last whole r v e g w =
    one_more b old last whole (link_alarms p env o l) (alarms_after p env (drop (i + 1) ls) value) (two_parts b old new last _ _ _ e g (link_parts p env o right l r))
    (ap (λ (xs : List Alarm). old ++ noted b xs) (ap (λ (x : Option Span). link_alarms p env o l ++ alarms_after p env (drop (i + 1) ls) x) v ∙ sym (alarms_more p env ls i o l h is)) ∙ w)

-- ---- steps
pub then_with : (o : Option (List Reach)) (r : Option Reach) (more : Option (List Reach)) →
    then_reached o (alive_then r (λ r. option_map (λ rs. r ∷ rs) more)) ≡ then_reached (with_reach o r) more
unfolding then_reached with_reach
then_with None r more = refl
then_with (Some rs) None more = refl
then_with (Some rs) (Some r) None = refl
then_with (Some rs) (Some r) (Some more) = ap Some (sym (append_assoc rs (r ∷ []) more))

pub reached_first : (o : Option (List Reach)) → then_reached (Some []) o ≡ o
unfolding then_reached
reached_first None = refl
reached_first (Some rs) = refl

pub reached_last : (o : Option (List Reach)) → then_reached o (Some []) ≡ o
unfolding then_reached
reached_last None = refl
reached_last (Some rs) = ap Some (append-nil rs)

module _ (p : Program) (env : Flat) (ss : List Step) (i : ℕ) where
  pub reached_more : (o : Option (List Reach)) (s : Step) → i < length ss → s ≡ get_or ss i s →
      then_reached o (reached p env (drop i ss)) ≡ then_reached (with_reach o (reach_of p (widest p) env s)) (reached p env (drop (i + 1) ss))
  unfolding reached
  reached_more o s h is = ap (λ (xs : List Step). then_reached o (reached p env xs)) (next ss i s h is) ∙ then_with o (reach_of p (widest p) env s) (reached p env (drop (i + 1) ss))

  pub indices_more : (s : Step) → i < length ss → s ≡ get_or ss i s → indices_alarms p env (drop i ss) ≡ step_alarms p (widest p) env s ++ indices_alarms p env (drop (i + 1) ss)
  unfolding indices_alarms
  indices_more s h is = ap (indices_alarms p env) (next ss i s h is)

  pub reached_end : (o : Option (List Reach)) → length ss ≤ i → then_reached o (reached p env (drop i ss)) ≡ o
  unfolding reached
  reached_end o h = ap (λ (xs : List Step). then_reached o (reached p env xs)) (drop_all i ss h) ∙ reached_last o

  pub indices_end : length ss ≤ i → indices_alarms p env (drop i ss) ≡ []
  unfolding indices_alarms
  indices_end h = ap (indices_alarms p env) (drop_all i ss h)

-- ---- cells that are read
join_assoc : (a b c : Span) → join_of a (join_of b c) ≡ join_of (join_of a b) c
join_assoc a b c =
    let lo : (join_of a (join_of b c)).lo ≡ (join_of (join_of a b) c).lo = omega (arith, ints, clamps) in
    let hi : (join_of a (join_of b c)).hi ≡ (join_of (join_of a b) c).hi = omega (arith, ints, clamps) in
    cc

join_more : (o : Option Span) (s : Span) (rest : Option Span) →
    then_joined o (Some (elim rest as (λ _. Span) [ None ↦ s | Some t ↦ join_of s t ])) ≡ then_joined (Some (join_with o s)) rest
unfolding then_joined
join_more o s None = refl
join_more None s (Some t) = refl
join_more (Some a) s (Some t) = ap Some (join_assoc a s t)

pub joined_first : (o : Option Span) → then_joined None o ≡ o
unfolding then_joined
joined_first None = refl
joined_first (Some s) = refl

pub joined_more : (spans : List Span) (ks : List ℕ) (i : ℕ) (o : Option Span) (d : ℕ) → i < length ks →
    then_joined o (joined spans (drop i ks)) ≡ then_joined (Some (join_with o (cell_span spans (get_or ks i d)))) (joined spans (drop (i + 1) ks))
unfolding joined
joined_more spans ks i o d h =
    ap (λ (xs : List ℕ). then_joined o (joined spans xs)) (drop_more ks i d h) ∙ join_more o (cell_span spans (get_or ks i d)) (joined spans (drop (i + 1) ks))

pub joined_end : (spans : List Span) (ks : List ℕ) (i : ℕ) (o : Option Span) → length ks ≤ i → then_joined o (joined spans (drop i ks)) ≡ o
unfolding then_joined joined
joined_end spans ks i o h = ap (λ (xs : List ℕ). then_joined o (joined spans xs)) (drop_all i ks h)

pub ruleset of_joined = (joined_first, joined_more, joined_end)
