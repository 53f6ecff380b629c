-- The refusals with a code are those that its rule finds in the events.
use Rattle.std.proofs.Common.{◌≡◌, ℕ, Bool, true, false, ◌||◌, List, [], ◌∷◌, ◌++◌, refl, sym, ap, ◌∙◌, Option, Some, None, append_assoc}
use Rattle.std.proofs.lemmas.List.{append-nil}
use Rattle.std.proofs.lemmas.List.Elements.{filter_map-append}
use Rattle.std.specs.List.{cons_option}
use Rattle.std.specs.Prelude.{if◌then◌else◌, ◌==◌}
use Rattle.sa_base.specs.declared.pos.Pos.{Pos}
use Rattle.sa_syntax.specs.declared.unit.Unit.{Unit as Source}
use Rattle.sa_typer.specs.declared.bodies.Entry.{Entry}
use Rattle.sa_scopes.specs.declared.typer.Fault.{Fault}
use Rattle.sa_scopes.specs.Typing.{Typed, Gives, fault}
use Rattle.sa_typer.specs.Units as unit
use Rattle.sa_typer.specs.Units.{has_entry, all_items, refusals}
use Rattle.sa_rules.specs.Events.{Event}
use Rattle.sa_rules.specs.Rules.{Rule, no_constant, oversized, undeclared, declared_twice, no_type, no_field, unassignable, ill_copied, ill_begun, misqualified, astray, with_place, places, at_if, place_of, refused_by, IsRule, IsMissingMain}
use Rattle.sa_rules.specs.Sight.{Sight, nothing_seen, see, after}
use Rattle.sa_rules.specs.Texts.{text}
use Rattle.sa_rules.proofs.Walks.{is_noted, noted, faults_at, broken, Noted, note, noting, state, value}
use Rattle.sa_rules.proofs.Sources.{nothing_noted, whole}

abbrev listed : Option Pos → List Pos
listed None = []
listed (Some p) = p ∷ []

-- ---- what an event is refused for, by code
other : (c k : ℕ) (o : Option Pos) (rest : List Fault) → (k == c) ≡ false → refused_by c (faults_at k o ++ rest) ≡ refused_by c rest
other c k None rest h = refl
other c k (Some p) rest h = ap (λ (b : Bool). cons_option (at_if b p) (refused_by c rest)) h

own : (c : ℕ) (o : Option Pos) (rest : List Fault) → (c == c) ≡ true → refused_by c (faults_at c o ++ rest) ≡ listed o ++ refused_by c rest
own c None rest h = refl
own c (Some p) rest h = ap (λ (b : Bool). cons_option (at_if b p) (refused_by c rest)) h

abbrev all_codes : Option Pos → Option Pos → Option Pos → Option Pos → Option Pos → Option Pos → Option Pos → Option Pos → Option Pos → Option Pos → Option Pos → List Fault
all_codes x y z a b c d e f g h = faults_at 7 x ++ (faults_at 18 y ++ (faults_at 19 z ++ (faults_at 1 a ++ (faults_at 2 b ++ (faults_at 3 c ++ (faults_at 21 d ++ (faults_at 23 e ++ (faults_at 20 f ++ (faults_at 6 g ++ (faults_at 4 h))))))))))

none_of : (c k : ℕ) (o : Option Pos) → (k == c) ≡ false → refused_by c (faults_at k o) ≡ []
none_of c k None h = refl
none_of c k (Some p) h = ap (λ (b : Bool). cons_option (at_if b p) []) h

own_last : (c : ℕ) (o : Option Pos) → (c == c) ≡ true → refused_by c (faults_at c o) ≡ listed o
own_last c None h = refl
own_last c (Some p) h = ap (λ (b : Bool). cons_option (at_if b p) []) h

constant_code : (x y z a b c d e f g h : Option Pos) → refused_by 18 (all_codes x y z a b c d e f g h) ≡ listed y
constant_code x y z a b c d e f g h =
    other 18 7 x _ refl ∙ own 18 y _ refl ∙ ap (λ (ps : List Pos). listed y ++ ps) (other 18 19 z _ refl ∙ other 18 1 a _ refl ∙ other 18 2 b _ refl ∙ other 18 3 c _ refl ∙ other 18 21 d _ refl ∙ other 18 23 e _ refl ∙ other 18 20 f _ refl ∙ other 18 6 g _ refl ∙ none_of 18 4 h refl) ∙ append-nil (listed y)

size_code : (x y z a b c d e f g h : Option Pos) → refused_by 19 (all_codes x y z a b c d e f g h) ≡ listed z
size_code x y z a b c d e f g h =
    other 19 7 x _ refl ∙ other 19 18 y _ refl ∙ own 19 z _ refl ∙ ap (λ (ps : List Pos). listed z ++ ps) (other 19 1 a _ refl ∙ other 19 2 b _ refl ∙ other 19 3 c _ refl ∙ other 19 21 d _ refl ∙ other 19 23 e _ refl ∙ other 19 20 f _ refl ∙ other 19 6 g _ refl ∙ none_of 19 4 h refl) ∙ append-nil (listed z)

undeclared_code : (x y z a b c d e f g h : Option Pos) → refused_by 1 (all_codes x y z a b c d e f g h) ≡ listed a
undeclared_code x y z a b c d e f g h =
    other 1 7 x _ refl ∙ other 1 18 y _ refl ∙ other 1 19 z _ refl ∙ own 1 a _ refl ∙ ap (λ (ps : List Pos). listed a ++ ps) (other 1 2 b _ refl ∙ other 1 3 c _ refl ∙ other 1 21 d _ refl ∙ other 1 23 e _ refl ∙ other 1 20 f _ refl ∙ other 1 6 g _ refl ∙ none_of 1 4 h refl) ∙ append-nil (listed a)

twice_code : (x y z a b c d e f g h : Option Pos) → refused_by 2 (all_codes x y z a b c d e f g h) ≡ listed b
twice_code x y z a b c d e f g h =
    other 2 7 x _ refl ∙ other 2 18 y _ refl ∙ other 2 19 z _ refl ∙ other 2 1 a _ refl ∙ own 2 b _ refl ∙ ap (λ (ps : List Pos). listed b ++ ps) (other 2 3 c _ refl ∙ other 2 21 d _ refl ∙ other 2 23 e _ refl ∙ other 2 20 f _ refl ∙ other 2 6 g _ refl ∙ none_of 2 4 h refl) ∙ append-nil (listed b)

type_code : (x y z a b c d e f g h : Option Pos) → refused_by 3 (all_codes x y z a b c d e f g h) ≡ listed c
type_code x y z a b c d e f g h =
    other 3 7 x _ refl ∙ other 3 18 y _ refl ∙ other 3 19 z _ refl ∙ other 3 1 a _ refl ∙ other 3 2 b _ refl ∙ own 3 c _ refl ∙ ap (λ (ps : List Pos). listed c ++ ps) (other 3 21 d _ refl ∙ other 3 23 e _ refl ∙ other 3 20 f _ refl ∙ other 3 6 g _ refl ∙ none_of 3 4 h refl) ∙ append-nil (listed c)

qualifier_code : (x y z a b c d e f g h : Option Pos) → refused_by 21 (all_codes x y z a b c d e f g h) ≡ listed d
qualifier_code x y z a b c d e f g h =
    other 21 7 x _ refl ∙ other 21 18 y _ refl ∙ other 21 19 z _ refl ∙ other 21 1 a _ refl ∙ other 21 2 b _ refl ∙ other 21 3 c _ refl ∙ own 21 d _ refl ∙ ap (λ (ps : List Pos). listed d ++ ps) (other 21 23 e _ refl ∙ other 21 20 f _ refl ∙ other 21 6 g _ refl ∙ none_of 21 4 h refl) ∙ append-nil (listed d)

wait_code : (x y z a b c d e f g h : Option Pos) → refused_by 23 (all_codes x y z a b c d e f g h) ≡ listed e
wait_code x y z a b c d e f g h =
    other 23 7 x _ refl ∙ other 23 18 y _ refl ∙ other 23 19 z _ refl ∙ other 23 1 a _ refl ∙ other 23 2 b _ refl ∙ other 23 3 c _ refl ∙ other 23 21 d _ refl ∙ own 23 e _ refl ∙ ap (λ (ps : List Pos). listed e ++ ps) (other 23 20 f _ refl ∙ other 23 6 g _ refl ∙ none_of 23 4 h refl) ∙ append-nil (listed e)

initialiser_code : (x y z a b c d e f g h : Option Pos) → refused_by 20 (all_codes x y z a b c d e f g h) ≡ listed f
initialiser_code x y z a b c d e f g h =
    other 20 7 x _ refl ∙ other 20 18 y _ refl ∙ other 20 19 z _ refl ∙ other 20 1 a _ refl ∙ other 20 2 b _ refl ∙ other 20 3 c _ refl ∙ other 20 21 d _ refl ∙ other 20 23 e _ refl ∙ own 20 f _ refl ∙ ap (λ (ps : List Pos). listed f ++ ps) (other 20 6 g _ refl ∙ none_of 20 4 h refl) ∙ append-nil (listed f)

assignment_code : (x y z a b c d e f g h : Option Pos) → refused_by 6 (all_codes x y z a b c d e f g h) ≡ listed g
assignment_code x y z a b c d e f g h =
    other 6 7 x _ refl ∙ other 6 18 y _ refl ∙ other 6 19 z _ refl ∙ other 6 1 a _ refl ∙ other 6 2 b _ refl ∙ other 6 3 c _ refl ∙ other 6 21 d _ refl ∙ other 6 23 e _ refl ∙ other 6 20 f _ refl ∙ own 6 g _ refl ∙ ap (λ (ps : List Pos). listed g ++ ps) (none_of 6 4 h refl) ∙ append-nil (listed g)

field_code : (x y z a b c d e f g h : Option Pos) → refused_by 4 (all_codes x y z a b c d e f g h) ≡ listed h
field_code x y z a b c d e f g h =
    other 4 7 x _ refl ∙ other 4 18 y _ refl ∙ other 4 19 z _ refl ∙ other 4 1 a _ refl ∙ other 4 2 b _ refl ∙ other 4 3 c _ refl ∙ other 4 21 d _ refl ∙ other 4 23 e _ refl ∙ other 4 20 f _ refl ∙ other 4 6 g _ refl ∙ own_last 4 h refl

copy_code : (x y z a b c d e f g h : Option Pos) → refused_by 7 (all_codes x y z a b c d e f g h) ≡ listed x
copy_code x y z a b c d e f g h =
    own 7 x _ refl ∙ ap (λ (ps : List Pos). listed x ++ ps) (other 7 18 y _ refl ∙ other 7 19 z _ refl ∙ other 7 1 a _ refl ∙ other 7 2 b _ refl ∙ other 7 3 c _ refl ∙ other 7 21 d _ refl ∙ other 7 23 e _ refl ∙ other 7 20 f _ refl ∙ other 7 6 g _ refl ∙ none_of 7 4 h refl) ∙ append-nil (listed x)

no_code : (x y z a b c d e f g h : Option Pos) → refused_by 22 (all_codes x y z a b c d e f g h) ≡ []
no_code x y z a b c d e f g h = other 22 7 x _ refl ∙ other 22 18 y _ refl ∙ other 22 19 z _ refl ∙ other 22 1 a _ refl ∙ other 22 2 b _ refl ∙ other 22 3 c _ refl ∙ other 22 21 d _ refl ∙ other 22 23 e _ refl ∙ other 22 20 f _ refl ∙ other 22 6 g _ refl ∙ none_of 22 4 h refl

-- ---- what all events are refused for
listed_with : (o : Option Pos) (ps : List Pos) → listed o ++ ps ≡ with_place o ps
listed_with None ps = refl
listed_with (Some p) ps = refl

module _ (c : ℕ) (rule : Rule) (is_own : (m : Sight) (e : Event) → refused_by c (broken m e) ≡ listed (rule m e)) where
  all_events : (m : Noted) (es : List Event) → refused_by c (noting m es).faults ≡ refused_by c m.faults ++ places rule m.sight es
  unfolding note places
  all_events m [] = sym (append-nil (refused_by c m.faults))
  all_events m (e ∷ es) =
      all_events (note m e) es
      ∙ ap (λ (ps : List Pos). ps ++ places rule (see m.sight e) es) (filter_map-append (place_of c) m.faults (broken m.sight e) ∙ ap (λ (ps : List Pos). refused_by c m.faults ++ ps) (is_own m.sight e))
      ∙ append_assoc (refused_by c m.faults) (listed (rule m.sight e)) (places rule (see m.sight e) es)
      ∙ ap (λ (ps : List Pos). refused_by c m.faults ++ ps) (listed_with (rule m.sight e) (places rule (see m.sight e) es))

  -- ---- refusals with a code that is noted are among those that are noted
  module _ (noted_code : (k : ℕ) → is_noted k ≡ false → (k == c) ≡ false) where
    unfiltered_by : (b : Bool) (f : Fault) (fs : List Fault) → is_noted f.rule ≡ b → refused_by c (noted fs) ≡ refused_by c fs → refused_by c (if b then f ∷ noted fs else noted fs) ≡ cons_option (place_of c f) (refused_by c fs)
    unfiltered_by true f fs h e = ap (λ (ps : List Pos). cons_option (place_of c f) ps) e
    unfiltered_by false f fs h e = e ∙ ap (λ (b : Bool). cons_option (at_if b f.pos) (refused_by c fs)) (sym (noted_code f.rule h))

    unfiltered : (fs : List Fault) → refused_by c (noted fs) ≡ refused_by c fs
    unfiltered [] = refl
    unfiltered (f ∷ fs) = unfiltered_by (is_noted f.rule) f fs refl (unfiltered fs)

    -- the refusals of the walk
    walk_refused : (u : Source) → refused_by c (state (all_items u)).faults ≡ places rule nothing_seen (text u)
    walk_refused u =
        let w = whole u in
        sym (unfiltered (state (all_items u)).faults) ∙ ap (refused_by c) (sym w.faults) ∙ all_events nothing_noted (text u)

-- ---- the end of the text
end_by : (c : ℕ) (end : Pos) (b : Bool) (fs : List Fault) → (22 == c) ≡ false → refused_by c (if b then fs else (fs ++ fault 22 end ∷ [])) ≡ refused_by c fs
end_by c end true fs h = refl
end_by c end false fs h =
    filter_map-append (place_of c) fs (fault 22 end ∷ []) ∙ ap (λ (b : Bool). refused_by c fs ++ cons_option (at_if b end) []) h ∙ append-nil (refused_by c fs)

walk_end : (c : ℕ) (end : Pos) (t : Typed (Option Entry)) → (22 == c) ≡ false → refused_by c (unit.refusals_in end t) ≡ refused_by c (state t).faults
walk_end c end (Gives o s) h = end_by c end (has_entry o) s.faults h

but_end : (c : ℕ) (u : Source) (end : Pos) → (22 == c) ≡ false → refused_by c (refusals u end) ≡ refused_by c (state (all_items u)).faults
unfolding refusals
but_end c u end h = walk_end c end (all_items u) h

-- ---- which codes are noted
all_false : (b0 b1 b2 b3 b4 b5 b6 b7 b8 b9 b10 b11 : Bool) → (b0 || b1 || b2 || b3 || b4 || b5 || b6 || b7 || b8 || b9 || b10 || b11) ≡ false → (b0 ≡ false) × (b1 ≡ false) × (b2 ≡ false) × (b3 ≡ false) × (b4 ≡ false) × (b5 ≡ false) × (b6 ≡ false) × (b7 ≡ false) × (b8 ≡ false) × (b9 ≡ false) × (b10 ≡ false) × (b11 ≡ false)
all_false true b1 b2 b3 b4 b5 b6 b7 b8 b9 b10 b11 h = cc
all_false false true b2 b3 b4 b5 b6 b7 b8 b9 b10 b11 h = cc
all_false false false true b3 b4 b5 b6 b7 b8 b9 b10 b11 h = cc
all_false false false false true b4 b5 b6 b7 b8 b9 b10 b11 h = cc
all_false false false false false true b5 b6 b7 b8 b9 b10 b11 h = cc
all_false false false false false false true b6 b7 b8 b9 b10 b11 h = cc
all_false false false false false false false true b7 b8 b9 b10 b11 h = cc
all_false false false false false false false false true b8 b9 b10 b11 h = cc
all_false false false false false false false false false true b9 b10 b11 h = cc
all_false false false false false false false false false false true b10 b11 h = cc
all_false false false false false false false false false false false true b11 h = cc
all_false false false false false false false false false false false false true h = cc
all_false false false false false false false false false false false false false h = (refl, refl, refl, refl, refl, refl, refl, refl, refl, refl, refl, refl)

is_own_code : (k : ℕ) → is_noted k ≡ false → ((k == 18) ≡ false) × ((k == 19) ≡ false) × ((k == 1) ≡ false) × ((k == 2) ≡ false) × ((k == 3) ≡ false) × ((k == 21) ≡ false) × ((k == 22) ≡ false) × ((k == 23) ≡ false) × ((k == 20) ≡ false) × ((k == 6) ≡ false) × ((k == 4) ≡ false) × ((k == 7) ≡ false)
is_own_code k h = all_false (k == 18) (k == 19) (k == 1) (k == 2) (k == 3) (k == 21) (k == 22) (k == 23) (k == 20) (k == 6) (k == 4) (k == 7) h

-- ---- the rules
pub constant_rule : IsRule 18 no_constant
constant_rule u end = but_end 18 u end refl ∙ walk_refused 18 no_constant (λ m e. constant_code (ill_copied m e) (no_constant m e) (oversized m e) (undeclared m e) (declared_twice m e) (no_type m e) (misqualified m e) (astray m e) (ill_begun m e) (unassignable m e) (no_field m e)) (λ k n. (is_own_code k n).0) u

pub size_rule : IsRule 19 oversized
size_rule u end = but_end 19 u end refl ∙ walk_refused 19 oversized (λ m e. size_code (ill_copied m e) (no_constant m e) (oversized m e) (undeclared m e) (declared_twice m e) (no_type m e) (misqualified m e) (astray m e) (ill_begun m e) (unassignable m e) (no_field m e)) (λ k n. (is_own_code k n).1) u

pub undeclared_rule : IsRule 1 undeclared
undeclared_rule u end = but_end 1 u end refl ∙ walk_refused 1 undeclared (λ m e. undeclared_code (ill_copied m e) (no_constant m e) (oversized m e) (undeclared m e) (declared_twice m e) (no_type m e) (misqualified m e) (astray m e) (ill_begun m e) (unassignable m e) (no_field m e)) (λ k n. (is_own_code k n).2) u

pub twice_rule : IsRule 2 declared_twice
twice_rule u end = but_end 2 u end refl ∙ walk_refused 2 declared_twice (λ m e. twice_code (ill_copied m e) (no_constant m e) (oversized m e) (undeclared m e) (declared_twice m e) (no_type m e) (misqualified m e) (astray m e) (ill_begun m e) (unassignable m e) (no_field m e)) (λ k n. (is_own_code k n).3) u

pub type_rule : IsRule 3 no_type
type_rule u end = but_end 3 u end refl ∙ walk_refused 3 no_type (λ m e. type_code (ill_copied m e) (no_constant m e) (oversized m e) (undeclared m e) (declared_twice m e) (no_type m e) (misqualified m e) (astray m e) (ill_begun m e) (unassignable m e) (no_field m e)) (λ k n. (is_own_code k n).4) u

pub qualifier_rule : IsRule 21 misqualified
qualifier_rule u end = but_end 21 u end refl ∙ walk_refused 21 misqualified (λ m e. qualifier_code (ill_copied m e) (no_constant m e) (oversized m e) (undeclared m e) (declared_twice m e) (no_type m e) (misqualified m e) (astray m e) (ill_begun m e) (unassignable m e) (no_field m e)) (λ k n. (is_own_code k n).5) u

pub wait_rule : IsRule 23 astray
wait_rule u end = but_end 23 u end refl ∙ walk_refused 23 astray (λ m e. wait_code (ill_copied m e) (no_constant m e) (oversized m e) (undeclared m e) (declared_twice m e) (no_type m e) (misqualified m e) (astray m e) (ill_begun m e) (unassignable m e) (no_field m e)) (λ k n. (is_own_code k n).7) u

pub initialiser_rule : IsRule 20 ill_begun
initialiser_rule u end = but_end 20 u end refl ∙ walk_refused 20 ill_begun (λ m e. initialiser_code (ill_copied m e) (no_constant m e) (oversized m e) (undeclared m e) (declared_twice m e) (no_type m e) (misqualified m e) (astray m e) (ill_begun m e) (unassignable m e) (no_field m e)) (λ k n. (is_own_code k n).8) u

pub assignment_rule : IsRule 6 unassignable
assignment_rule u end = but_end 6 u end refl ∙ walk_refused 6 unassignable (λ m e. assignment_code (ill_copied m e) (no_constant m e) (oversized m e) (undeclared m e) (declared_twice m e) (no_type m e) (misqualified m e) (astray m e) (ill_begun m e) (unassignable m e) (no_field m e)) (λ k n. (is_own_code k n).9) u

pub field_rule : IsRule 4 no_field
field_rule u end = but_end 4 u end refl ∙ walk_refused 4 no_field (λ m e. field_code (ill_copied m e) (no_constant m e) (oversized m e) (undeclared m e) (declared_twice m e) (no_type m e) (misqualified m e) (astray m e) (ill_begun m e) (unassignable m e) (no_field m e)) (λ k n. (is_own_code k n).10) u

pub copy_rule : IsRule 7 ill_copied
copy_rule u end = but_end 7 u end refl ∙ walk_refused 7 ill_copied (λ m e. copy_code (ill_copied m e) (no_constant m e) (oversized m e) (undeclared m e) (declared_twice m e) (no_type m e) (misqualified m e) (astray m e) (ill_begun m e) (unassignable m e) (no_field m e)) (λ k n. (is_own_code k n).11) u

-- ---- main
abbrev never : Rule
never m e = None

never_places : (m : Sight) (es : List Event) → places never m es ≡ []
unfolding places
never_places m [] = refl
never_places m (e ∷ es) = never_places (see m e) es

main_by : (end : Pos) (b c : Bool) (fs : List Fault) → c ≡ b → refused_by 22 fs ≡ [] → refused_by 22 (if b then fs else (fs ++ fault 22 end ∷ [])) ≡ (if c then [] else (end ∷ []))
main_by end true true fs e h = h
main_by end false false fs e h = filter_map-append (place_of 22) fs (fault 22 end ∷ []) ∙ ap (λ (ps : List Pos). ps ++ end ∷ []) h
main_by end true false fs e h = cc
main_by end false true fs e h = cc

main_end : (end : Pos) (c : Bool) (t : Typed (Option Entry)) → c ≡ has_entry (value t) → refused_by 22 (state t).faults ≡ [] → refused_by 22 (unit.refusals_in end t) ≡ (if c then [] else (end ∷ []))
main_end end c (Gives o s) e h = main_by end (has_entry o) c s.faults e h

pub main_rule : IsMissingMain
unfolding refusals
main_rule u end =
    main_end end (after nothing_seen (text u)).entry (all_items u) (whole u).entry
    (walk_refused 22 never (λ m e. no_code (ill_copied m e) (no_constant m e) (oversized m e) (undeclared m e) (declared_twice m e) (no_type m e) (misqualified m e) (astray m e) (ill_begun m e) (unassignable m e) (no_field m e)) (λ k n. (is_own_code k n).6) u ∙ never_places nothing_seen (text u))
