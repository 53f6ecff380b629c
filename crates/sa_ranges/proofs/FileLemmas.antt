-- What is told of a whole file: the first row that holds, or the ranges.
use Rattle.std.proofs.Common.{◌≡◌, ℕ, zero, suc, ◌^◌, ◌<◌, ◌≤◌, ◌&&◌, ◌++◌, ℤ, pos, negsuc, List, [], ◌∷◌, Bool, true, false, arith, refl, sym, ap, subst, ◌∙◌, map, Option, Some, None, option_map, length, Less, Equal, Greater, Ordering, Ok, Err, Vec, Global}
use Rattle.std.specs.Prelude.{if◌then◌else◌, not, is_some, get_or, int_le, unwrap_or, option_and_then}
use Rattle.std.specs.List.{All, AllZip}
use Rattle.std.specs.Ordering.{nat_cmp, is_eq, match_ordering}
use Rattle.std.specs.Str.{bytes_eq}
use Rattle.std.specs.Cmp.Lexicographic.{slice_cmp, bytes_decides}
use Rattle.std.proofs.lemmas.Map.Text.{is_eq-slice_cmp}
use Rattle.std.proofs.lemmas.Int.{ints}
use Rattle.std.proofs.lemmas.List.Elements.{All-map}
use Rattle.serde_json.specs.Data.{Data, Members, no_members, member}
use Rattle.serde_json.specs.Find.{get, get_member, as_object}
use Rattle.sa_typed.specs.Ranges.{Span, InputRanges, AreSpans, AreOf, IsOfType, clock_unless_told, whole_type}
use Rattle.sa_typed.specs.declared.program.Input.{Input}
use Rattle.sa_typed.proofs.SpanLaws.{ordered_type, types_suit}
use Rattle.sa_ranges.specs.Answer.{from_told, spans_or, spans_for, ranges_told, unless, of_data}
use Rattle.sa_ranges.specs.Inputs.{type_range, range_with, range_named}
use Rattle.sa_ranges.specs.Table.{Row, members, version, last_clock, clock_of, natural, tick_of, named, knows_all, begin_well, all_fit, fit, is_none, name_row, name_rows, file_rows, version_told, rows, first}
use Rattle.sa_ranges.specs.Told.{whole, told, spans_told}
use Rattle.sa_ranges.specs.declared.fault.RangesFault.{RangesFault}
use Rattle.sa_ranges.specs.declared.fault.RangesFault.TheVariants.{Shape, Name, Spans, Bounds}
use Rattle.sa_ranges.specs.declared.inputs.Allowed.{Allowed}
use Rattle.sa_ranges.specs.declared.told.Told.{Told}
use Rattle.sa_ranges.specs.declared.told.Version.{Version}
use Rattle.sa_ranges.proofs.AcceptedLemmas.{both_hold, IsWithin, named_suit, accepted_spans, accepted_suit}
use Rattle.sa_ranges.proofs.RowLemmas.{behind, before, parted, not_held, Accepted, rows_same}

-- ---- refusals
refused : (is : List Input) (d : Data) (f : RangesFault) → first (file_rows d) ≡ Some f → of_data is d ≡ Err f
refused is d f e = ap (λ o. unless o (ranges_told is d)) (before (file_rows d) _ f e)

row_1 : (d : Data) → as_object d ≡ None → first (file_rows d) ≡ Some (Shape 1)
unfolding file_rows first
row_1 d a = rw a refl

row_2 : (d : Data) (ms : Members) → as_object d ≡ Some ms → knows_all ms ≡ false → first (file_rows d) ≡ Some (Shape 2)
unfolding file_rows first
row_2 d ms a k = rw (a, k) refl

row_3 : (d : Data) (ms : Members) → as_object d ≡ Some ms → knows_all ms ≡ true → version d ≡ None → first (file_rows d) ≡ Some (Shape 3)
unfolding file_rows first
row_3 d ms a k v = rw (a, k, v) refl

row_4 : (d : Data) (ms : Members) (x : Version) → as_object d ≡ Some ms → knows_all ms ≡ true → version d ≡ Some x → last_clock d ≡ None → first (file_rows d) ≡ Some (Shape 4)
unfolding file_rows first
row_4 d ms x a k v c = rw (a, k, v, c) refl

row_5 : (d : Data) (ms : Members) (x : Version) (y : ℕ) → as_object d ≡ Some ms → knows_all ms ≡ true → version d ≡ Some x → last_clock d ≡ Some y → named d ≡ None → first (file_rows d) ≡ Some (Shape 5)
unfolding file_rows first
row_5 d ms x y a k v c n = rw (a, k, v, c, n) refl

no_row : (d : Data) (ms : Members) (x : Version) (y : ℕ) (ns : Members) → as_object d ≡ Some ms → knows_all ms ≡ true → version d ≡ Some x → last_clock d ≡ Some y → named d ≡ Some ns → first (file_rows d) ≡ None
unfolding file_rows first
no_row d ms x y ns a k v c n = rw (a, k, v, c, n) refl

pub shape_1 : (is : List Input) (d : Data) → as_object d ≡ None → of_data is d ≡ Err (Shape 1)
shape_1 is d a = refused is d _ (row_1 d a)

pub shape_2 : (is : List Input) (d : Data) (ms : Members) → as_object d ≡ Some ms → knows_all ms ≡ false → of_data is d ≡ Err (Shape 2)
shape_2 is d ms a k = refused is d _ (row_2 d ms a k)

pub shape_3 : (is : List Input) (d : Data) (ms : Members) → as_object d ≡ Some ms → knows_all ms ≡ true → version d ≡ None → of_data is d ≡ Err (Shape 3)
shape_3 is d ms a k v = refused is d _ (row_3 d ms a k v)

pub shape_4 : (is : List Input) (d : Data) (ms : Members) (x : Version) → as_object d ≡ Some ms → knows_all ms ≡ true → version d ≡ Some x → last_clock d ≡ None → of_data is d ≡ Err (Shape 4)
shape_4 is d ms x a k v c = refused is d _ (row_4 d ms x a k v c)

pub shape_5 : (is : List Input) (d : Data) (ms : Members) (x : Version) (y : ℕ) → as_object d ≡ Some ms → knows_all ms ≡ true → version d ≡ Some x → last_clock d ≡ Some y → named d ≡ None → of_data is d ≡ Err (Shape 5)
shape_5 is d ms x y a k v c n = refused is d _ (row_5 d ms x y a k v c n)

-- a file with the form of one, whose names are read so
pub record IsFile (d : Data) (v : Version) (c : ℕ) (ns : Members) : Type 0 where
  pub object : Members
  pub is : as_object d ≡ Some object
  pub known : knows_all object ≡ true
  pub version : version d ≡ Some v
  pub clock : last_clock d ≡ Some c
  pub names : named d ≡ Some ns

names_alone : (is : List Input) (d : Data) (v : Version) (c : ℕ) (ns : Members) → IsFile d v c ns → first (rows is d) ≡ first (name_rows v (range_named is) ns)
names_alone is d v c ns f =
    behind (file_rows d) _ (no_row d f.object v c ns f.is f.known f.version f.clock f.names)
    ∙ rw (f.version, f.names) refl

pub name_refused : (is : List Input) (d : Data) (v : Version) (c : ℕ) (ns : Members) → IsFile d v c ns → (g : RangesFault) → first (name_rows v (range_named is) ns) ≡ Some g → of_data is d ≡ Err g
name_refused is d v c ns f g e = ap (λ o. unless o (ranges_told is d)) (names_alone is d v c ns f ∙ e)

pub accepted : (is : List Input) (d : Data) (v : Version) (c : ℕ) (ns : Members) → IsFile d v c ns → first (name_rows v (range_named is) ns) ≡ None →
    of_data is d ≡ Ok (record { max_clock = c; inputs = map (spans_for v ns) is })
accepted is d v c ns f e = ap (λ o. unless o (ranges_told is d)) (names_alone is d v c ns f ∙ e) ∙ rw (f.version, f.clock, f.names) refl

-- ---- the last clock
small : (o : Option ℤ) (c : ℕ) → option_and_then tick_of o ≡ Some c → c ≤ 2 ^ 62
unfolding tick_of
small None c h = absurd cc
small (Some (negsuc k)) c h = absurd cc
small (Some (pos k)) c h =
    elim (int_le (pos 0) (pos k) && int_le (pos k) (pos (2 ^ 62))) as (λ b. (int_le (pos 0) (pos k) && int_le (pos k) (pos (2 ^ 62))) ≡ b → (if b then Some k else None) ≡ Some c → c ≤ 2 ^ 62) [
      | true ↦ λ t e. let same : k ≡ c = ap (λ o. unwrap_or o 0) e in let parts = both_hold (int_le (pos 0) (pos k)) (int_le (pos k) (pos (2 ^ 62))) t in omega (arith, ints, parts.1, same)
      | false ↦ λ t e. absurd cc
    ] refl h

small_clock : (o : Option Data) (c : ℕ) → clock_of o ≡ Some c → c ≤ 2 ^ 62
unfolding clock_unless_told
small_clock None c h = let same : 3600000 ≡ c = ap (λ o. unwrap_or o 0) h in omega (arith, same)
small_clock (Some d) c h = small (whole d) c h

pub clock_is_small : (d : Data) (c : ℕ) → last_clock d ≡ Some c → c ≤ 2 ^ 62
unfolding last_clock
clock_is_small d c h = small_clock _ c h

-- ---- names
holds : (b : Bool) → not b ≡ false → b ≡ true
holds true h = refl
holds false h = absurd cc

bytes_same : (n : List ℕ) → bytes_eq n n ≡ true
bytes_same n = (bytes_decides n n).1 refl

row_accepted : (t : Option (List Told)) (o : Option Allowed) (n : List ℕ) →
    first ((is_none t, Shape 6) ∷ (is_none o, Name n) ∷ (not (begin_well (unwrap_or t [])), Spans n) ∷ (not (fit o (unwrap_or t [])), Bounds n) ∷ []) ≡ None →
    (ss : List Told) × (r : Allowed) × (t ≡ Some ss) × (o ≡ Some r) × (begin_well ss ≡ true) × (all_fit r ss ≡ true)
unfolding first
row_accepted None o n h = absurd cc
row_accepted (Some ss) None n h = absurd cc
row_accepted (Some ss) (Some r) n h =
    let begun = not_held (Spans n) (not (begin_well ss)) ((not (all_fit r ss), Bounds n) ∷ []) h in
    let fits = not_held (Bounds n) (not (all_fit r ss)) [] begun.1 in
    (ss, r, refl, refl, holds (begin_well ss) begun.0, holds (all_fit r ss) fits.0)

accepted_row : (v : Version) (o : Option Allowed) (n : List ℕ) (d : Data) → first (name_row v o n d) ≡ None → Accepted v o d
unfolding name_row
accepted_row v o n d h =
    let a = row_accepted (told v d) o n h in
    record { spans = a.0; range = a.1; told = a.2; found = a.3; begin = a.4; fit = a.5 }

equal_names : (n l : List ℕ) → slice_cmp nat_cmp n l ≡ Equal → l ≡ n
equal_names n l e = sym ((bytes_decides n l).0 (sym (is_eq-slice_cmp n l) ∙ ap is_eq e))

pub name_accepted : (v : Version) (f : List ℕ → Option Allowed) (ns : Members) → first (name_rows v f ns) ≡ None → (n : List ℕ) (d : Data) → get_member n ns ≡ Some d → Accepted v (f n) d
unfolding name_rows
name_accepted v f no_members h n d e = absurd cc
name_accepted v f (member l x ms) h n d e =
    let parts = parted (name_row v (f l) l x) (name_rows v f ms) h in
    elim (slice_cmp nat_cmp n l) as (λ o. slice_cmp nat_cmp n l ≡ o → match_ordering o (get_member n ms) (Some x) (get_member n ms) ≡ Some d → Accepted v (f n) d) [
      | Less ↦ λ c g. name_accepted v f ms parts.1 n d g
      | Equal ↦ λ c g. subst (λ k. Accepted v (f k) d) (equal_names n l c) (subst (λ y. Accepted v (f l) y) (ap (λ o. unwrap_or o x) g) (accepted_row v (f l) l x parts.0))
      | Greater ↦ λ c g. name_accepted v f ms parts.1 n d g
    ] refl e

-- ---- spans
spans_told_so : (v : Version) (d : Data) (ss : List Told) → told v d ≡ Some ss → spans_told v d ≡ ss
spans_told_so v d ss e = ap (λ o. unwrap_or o []) e

in_order : (v : Version) (f : List ℕ → Option Allowed) (ns : Members) → first (name_rows v f ns) ≡ None → (i : Input) → AreSpans (spans_for v ns i)
unfolding spans_for
in_order v f ns h i =
    elim (get_member i.name ns) as (λ o. get_member i.name ns ≡ o → AreSpans (spans_or v i o)) [
      | None ↦ λ e. ordered_type i.num
      | Some d ↦ λ e.
          let a = name_accepted v f ns h i.name d e in
          subst (λ ss. AreSpans (map from_told ss)) (sym (spans_told_so v d a.spans a.told)) (accepted_spans a.range a.spans a.begin a.fit)
    ] refl

pub all_in_order : (v : Version) (f : List ℕ → Option Allowed) (ns : Members) → first (name_rows v f ns) ≡ None → (is : List Input) → (xs : List (List Span)) → xs ≡ map (spans_for v ns) is → All AreSpans xs
all_in_order v f ns h is xs e = subst (λ ys. All AreSpans ys) (sym e) (All-map AreSpans (spans_for v ns) is (λ k d below. in_order v f ns h (get_or is k d)))

-- what an input can be is of its type
abbrev Suit : List Input → Input → Type 0
Suit all i = (r : Allowed) → range_named all i.name ≡ Some r → IsWithin r (type_range i.num)

suits_one : (v : Version) (all : List Input) (ns : Members) → first (name_rows v (range_named all) ns) ≡ None → (i : Input) → Suit all i → All (IsOfType i.num) (spans_for v ns i)
unfolding spans_for
suits_one v all ns h i s =
    elim (get_member i.name ns) as (λ o. get_member i.name ns ≡ o → All (IsOfType i.num) (spans_or v i o)) [
      | None ↦ λ e. (types_suit (i ∷ [])).0
      | Some d ↦ λ e.
          let a = name_accepted v (range_named all) ns h i.name d e in
          subst (λ ss. All (IsOfType i.num) (map from_told ss)) (sym (spans_told_so v d a.spans a.told)) (accepted_suit i.num a.range a.spans (s a.range a.found) a.fit)
    ] refl

suits_all : (v : Version) (all : List Input) (ns : Members) → first (name_rows v (range_named all) ns) ≡ None → (is : List Input) → All (Suit all) is →
    AllZip (λ spans i. All (IsOfType i.num) spans) (map (spans_for v ns) is) is
suits_all v all ns h [] s = tt
suits_all v all ns h (i ∷ is) s = (suits_one v all ns h i (s 0 i (omega arith)), suits_all v all ns h is (λ k d below. s (suc k) d (omega (arith, below))))

suit : (is : List Input) → All (Suit is) is
suit is k d below r e = named_suit (get_or is k d).name r is None e k d below (bytes_same (get_or is k d).name)

pub suits : (v : Version) (is : List Input) (ns : Members) → first (name_rows v (range_named is) ns) ≡ None →
    AllZip (λ spans i. All (IsOfType i.num) spans) (map (spans_for v ns) is) is
suits v is ns h = suits_all v is ns h is (suit is)

-- ---- what the code has read
-- no row of a name holds, by a table that has the ranges of the inputs
pub names_pass : (is xs : List Input) → xs ≡ is → (f : List ℕ → Option Allowed) → ((n : List ℕ) → f n ≡ range_named xs n) → (v : Version) (ns : Members) → first (name_rows v f ns) ≡ None → first (name_rows v (range_named is) ns) ≡ None
names_pass is xs e f same v ns h = sym (ap first (rows_same v f (range_named is) (λ n. same n ∙ ap (λ ys. range_named ys n) e) ns)) ∙ h

abbrev pub made_of : ℕ → List (List Span) → InputRanges
made_of clock spans = record { max_clock = clock; inputs = spans }
