-- Alarms put in order one after another.
use Rattle.std.proofs.Common.{◌≡◌, ℕ, zero, suc, ◌+◌, ◌<◌, ◌≤◌, List, [], ◌∷◌, length, drop, get_or, refl, sym, ap, ap₂, subst, ◌∙◌, inl, inr, arith}
use Rattle.std.proofs.lemmas.List.{drop_more, drop_all}
use Rattle.std.specs.BTreeSet.{insert_key}
use Rattle.std.specs.Ordering.{nat_cmp, ordering_then, match_ordering}
use Rattle.std.proofs.lemmas.Bool.Decides.{nat_tests}
use Rattle.std.specs.declared.cmp.Ordering.{Ordering}
use Rattle.std.specs.declared.cmp.Ordering.TheVariants.{Less, Equal, Greater}
use Rattle.sa_base.specs.contracts.alarm.AlarmOrd.TheImpl as alarms
use Rattle.sa_base.specs.contracts.alarm.KindOrd.TheImpl as kinds
use Rattle.sa_base.specs.declared.alarm.Alarm.{Alarm}
use Rattle.sa_base.specs.declared.alarm.Kind.{Kind}
use Rattle.sa_base.specs.declared.alarm.Kind.TheVariants as k
use Rattle.sa_base.specs.declared.pos.Pos.{Pos}
use Rattle.sa_report.specs.Alarms.{with_alarms, alarm_cmp, kind_rank, rising}
use Rattle.sa_operators.specs.Alarms.{IsAmong}

pub with_alarms-more : (sorted : List Alarm) (as' : List Alarm) (i : ℕ) (d : Alarm) → i < length as' →
    with_alarms sorted (drop i as') ≡ with_alarms (insert_key alarm_cmp sorted (get_or as' i d)) (drop (i + 1) as')
unfolding with_alarms
with_alarms-more sorted as' i d h = ap (λ (r : List Alarm). with_alarms sorted r) (drop_more as' i d h)

pub with_alarms-over : (sorted : List Alarm) (as' : List Alarm) (i : ℕ) → length as' ≤ i → with_alarms sorted (drop i as') ≡ sorted
unfolding with_alarms
with_alarms-over sorted as' i h = ap (λ (r : List Alarm). with_alarms sorted r) (drop_all i as' h)

-- the order that the derive gives is the report's
kinds-in_order : (a b : Kind) → (kinds.cmp-value).it a b ≡ nat_cmp (kind_rank a) (kind_rank b)
kinds-in_order k.Overflow k.Overflow = refl
kinds-in_order k.Overflow k.Division = refl
kinds-in_order k.Overflow k.Shift = refl
kinds-in_order k.Overflow k.Index = refl
kinds-in_order k.Overflow k.Conversion = refl
kinds-in_order k.Overflow k.Assert = refl
kinds-in_order k.Division k.Overflow = refl
kinds-in_order k.Division k.Division = refl
kinds-in_order k.Division k.Shift = refl
kinds-in_order k.Division k.Index = refl
kinds-in_order k.Division k.Conversion = refl
kinds-in_order k.Division k.Assert = refl
kinds-in_order k.Shift k.Overflow = refl
kinds-in_order k.Shift k.Division = refl
kinds-in_order k.Shift k.Shift = refl
kinds-in_order k.Shift k.Index = refl
kinds-in_order k.Shift k.Conversion = refl
kinds-in_order k.Shift k.Assert = refl
kinds-in_order k.Index k.Overflow = refl
kinds-in_order k.Index k.Division = refl
kinds-in_order k.Index k.Shift = refl
kinds-in_order k.Index k.Index = refl
kinds-in_order k.Index k.Conversion = refl
kinds-in_order k.Index k.Assert = refl
kinds-in_order k.Conversion k.Overflow = refl
kinds-in_order k.Conversion k.Division = refl
kinds-in_order k.Conversion k.Shift = refl
kinds-in_order k.Conversion k.Index = refl
kinds-in_order k.Conversion k.Conversion = refl
kinds-in_order k.Conversion k.Assert = refl
kinds-in_order k.Assert k.Overflow = refl
kinds-in_order k.Assert k.Division = refl
kinds-in_order k.Assert k.Shift = refl
kinds-in_order k.Assert k.Index = refl
kinds-in_order k.Assert k.Conversion = refl
kinds-in_order k.Assert k.Assert = refl

alarms-in_order : (a b : Alarm) → (alarms.cmp-value).it a b ≡ alarm_cmp a b
alarms-in_order a b = ap (λ (o : Ordering). ordering_then (ordering_then (nat_cmp a.pos.line b.pos.line) (nat_cmp a.pos.col b.pos.col)) o) (kinds-in_order a.kind b.kind)

placed : (sorted : List Alarm) (a : Alarm) → insert_key (alarms.cmp-value).it sorted a ≡ insert_key alarm_cmp sorted a
placed [] a = refl
placed (b ∷ sorted) a =
    ap (λ (o : Ordering). match_ordering o (a ∷ b ∷ sorted) (b ∷ sorted) (b ∷ insert_key (alarms.cmp-value).it sorted a)) (alarms-in_order a b)
    ∙ ap (λ (r : List Alarm). match_ordering (alarm_cmp a b) (a ∷ b ∷ sorted) (b ∷ sorted) (b ∷ r)) (placed sorted a)

-- one more alarm of the list goes to its place
pub with_alarms-step : (sorted new : List Alarm) (as' all : List Alarm) (i : ℕ) (d : Alarm) → i < length as' → new ≡ insert_key (alarms.cmp-value).it sorted (get_or as' i d) →
    with_alarms sorted (drop i as') ≡ all → with_alarms new (drop (i + 1) as') ≡ all
with_alarms-step sorted new as' all i d h e whole =
    ap (λ (s : List Alarm). with_alarms s (drop (i + 1) as')) (e ∙ placed sorted (get_or as' i d)) ∙ sym (with_alarms-more sorted as' i d h) ∙ whole

-- ---- every alarm is there
nat_equal : (x y : ℕ) → nat_cmp x y ≡ Equal → x ≡ y
nat_equal x y h = grind (arith, nat_tests)

then_first : (o q : Ordering) → ordering_then o q ≡ Equal → o ≡ Equal
then_first Less q h = h
then_first Equal q h = refl
then_first Greater q h = h

then_second : (o q : Ordering) → ordering_then o q ≡ Equal → q ≡ Equal
then_second Less q h = cc
then_second Equal q h = h
then_second Greater q h = cc

kind_at : ℕ → Kind
kind_at zero = k.Overflow
kind_at (suc zero) = k.Division
kind_at (suc (suc zero)) = k.Shift
kind_at (suc (suc (suc zero))) = k.Index
kind_at (suc (suc (suc (suc zero)))) = k.Conversion
kind_at (suc (suc (suc (suc (suc n))))) = k.Assert

kind_of_rank : (a : Kind) → kind_at (kind_rank a) ≡ a
unfolding kind_at
kind_of_rank k.Overflow = refl
kind_of_rank k.Division = refl
kind_of_rank k.Shift = refl
kind_of_rank k.Index = refl
kind_of_rank k.Conversion = refl
kind_of_rank k.Assert = refl

same_alarm : (a b : Alarm) → alarm_cmp a b ≡ Equal → a ≡ b
same_alarm a b h =
    let places = then_first _ _ h in
    let line = nat_equal a.pos.line b.pos.line (then_first _ _ places) in
    let col = nat_equal a.pos.col b.pos.col (then_second _ _ places) in
    let rank = nat_equal (kind_rank a.kind) (kind_rank b.kind) (then_second _ _ h) in
    let kind : a.kind ≡ b.kind = sym (kind_of_rank a.kind) ∙ ap kind_at rank ∙ kind_of_rank b.kind in
    ap₂ (λ (p : Pos) (q : Kind). record { pos = p; kind = q }) (ap₂ (λ (x y : ℕ). record { line = x; col = y }) line col) kind

kept-by : (o : Ordering) (a b c : Alarm) (sorted more : List Alarm) → IsAmong c (b ∷ sorted) → (IsAmong c sorted → IsAmong c more) → IsAmong c (match_ordering o (a ∷ b ∷ sorted) (b ∷ sorted) (b ∷ more))
kept-by Less a b c sorted more h k = inr h
kept-by Equal a b c sorted more h k = h
kept-by Greater a b c sorted more (inl e) k = inl e
kept-by Greater a b c sorted more (inr h) k = inr (k h)

kept : (sorted : List Alarm) (a c : Alarm) → IsAmong c sorted → IsAmong c (insert_key alarm_cmp sorted a)
kept [] a c h = absurd h
kept (b ∷ sorted) a c h = kept-by (alarm_cmp a b) a b c sorted (insert_key alarm_cmp sorted a) h (kept sorted a c)

added-by : (o : Ordering) (a b : Alarm) (sorted more : List Alarm) → (o ≡ Equal → a ≡ b) → IsAmong a more → IsAmong a (match_ordering o (a ∷ b ∷ sorted) (b ∷ sorted) (b ∷ more))
added-by Less a b sorted more e h = inl refl
added-by Equal a b sorted more e h = inl (e refl)
added-by Greater a b sorted more e h = inr h

added : (sorted : List Alarm) (a : Alarm) → IsAmong a (insert_key alarm_cmp sorted a)
added [] a = inl refl
added (b ∷ sorted) a = added-by (alarm_cmp a b) a b sorted (insert_key alarm_cmp sorted a) (same_alarm a b) (added sorted a)

all-kept : (sorted as' : List Alarm) (c : Alarm) → IsAmong c sorted → IsAmong c (with_alarms sorted as')
unfolding with_alarms
all-kept sorted [] c h = h
all-kept sorted (a ∷ as') c h = all-kept (insert_key alarm_cmp sorted a) as' c (kept sorted a c h)

all-added : (sorted as' : List Alarm) (c : Alarm) → IsAmong c as' → IsAmong c (with_alarms sorted as')
unfolding with_alarms
all-added sorted [] c h = absurd h
all-added sorted (a ∷ as') c (inl e) = all-kept (insert_key alarm_cmp sorted a) as' c (subst (λ (x : Alarm). IsAmong x (insert_key alarm_cmp sorted a)) (sym e) (added sorted a))
all-added sorted (a ∷ as') c (inr h) = all-added (insert_key alarm_cmp sorted a) as' c h

-- an alarm that was found is among those that are printed
pub among-rising : (as' : List Alarm) (c : Alarm) → IsAmong c as' → IsAmong c (rising as')
among-rising as' c h = all-added [] as' c h
