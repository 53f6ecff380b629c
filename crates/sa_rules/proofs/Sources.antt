-- A whole source sees and refuses what its events do.
use Rattle.std.proofs.Common.{◌≡◌, Bool, true, false, ◌&&◌, List, [], ◌∷◌, ◌++◌, refl, sym, ap, subst, ◌∙◌, Option, Some, None}
use Rattle.std.specs.Prelude.{if◌then◌else◌}
use Rattle.sa_syntax.specs.declared.decl.Name.{Name}
use Rattle.sa_syntax.specs.declared.decl.Specifiers.{Specifiers, out-Specifiers}
use Rattle.sa_syntax.specs.declared.stmt.Block.{Block, out-Block}
use Rattle.sa_syntax.specs.declared.stmt.BlockItem.{BlockItem}
use Rattle.sa_syntax.specs.declared.unit.Item.{Item}
use Rattle.sa_syntax.specs.declared.unit.Item.TheVariants as top
use Rattle.sa_syntax.specs.declared.unit.Unit.{Unit as Source}
use Rattle.sa_typer.specs.declared.bodies.Entry.{Entry}
use Rattle.sa_scopes.specs.declared.typer.Typer.{Typer}
use Rattle.sa_scopes.specs.declared.types.Ty.{Ty}
use Rattle.sa_declarations.specs.Declarations.{is_struct}
use Rattle.sa_scopes.specs.Scopes.{is_visible}
use Rattle.sa_scopes.specs.Typing.{Typed, Typing, Gives, and_then, pure, each, refused, fault}
use Rattle.sa_typer.specs.Units as unit
use Rattle.sa_syntax.specs.Forms.{is_main}
use Rattle.sa_typer.specs.Units.{plain_type, type_name, entry, first_main, main, blank, is_entry_type, is_entry, has_entry, all_items, refusals}
use Rattle.sa_rules.specs.Events.{Event, Aliases, Defines, Main}
use Rattle.sa_rules.specs.Rules.{at_if}
use Rattle.sa_rules.specs.Scenes.{Scene}
use Rattle.sa_rules.specs.Sight.{Sight, nothing_seen, see, after}
use Rattle.sa_rules.specs.Texts.{in_plain, in_body, in_func, in_top, in_tops, has_loop, text}
use Rattle.sa_rules.proofs.Walks.{Noted, note, noting, noting_append, noted, faults_at, Same, state, value, Reads, quiet_unless, quiet, bind, then_here, refused_noted}
use Rattle.sa_rules.proofs.Steps.{At, Last, seeing, one_last, one_as, refused_one, nothing_added}
use Rattle.sa_rules.proofs.Names.{defines_see, defines_reads, aliases_reads}
use Rattle.sa_rules.proofs.Qualifiers.{plain_qualifiers}
use Rattle.sa_rules.proofs.Trees.{structure_reads, type_reads}
use Rattle.sa_rules.proofs.Declared.{declared_reads}
use Rattle.sa_rules.proofs.Blocks.{main_block_reads, main_clock}

-- what is given at the end is made of what the walk gave
ends_in : {A B : Type 0} {X Y : Sight → Type 0} {Z : B → Sight → Type 0} {s : Typer} {es : List Event} {t : Typed A} (f : A → B) → ((m : Sight) → Y m → Z (f (value t)) m) →
    Reads X s es (λ (a : A). Y) t → Reads X s es Z (and_then t (λ a. pure (f a)))
ends_in {t = Gives c u} f k h = record { reads = λ m r y. let q = h.reads m r y in (q.0, k _ q.1) }

-- ---- events by what was seen before
pub record ReadsBy (X : Sight → Type 0) (s : Typer) (es : Sight → List Event) {A : Type 0} (Y : A → Sight → Type 0) (t : Typed A) : Type 0 where
  pub reads : (m : Noted) → Same s m → X m.sight → Same (state t) (noting m (es m.sight)) × Y (value t) (noting m (es m.sight)).sight

by : {X : Sight → Type 0} {s : Typer} {es : List Event} {A : Type 0} {Y : A → Sight → Type 0} {t : Typed A} → Reads X s es Y t → ReadsBy X s (λ k. es) Y t
by h = record { reads = λ m r x. h.reads m r x }

pub sight_after : (m : Noted) (es : List Event) → (noting m es).sight ≡ after m.sight es
unfolding note
sight_after m [] = refl
sight_after m (e ∷ es) = sight_after (note m e) es

-- one walk after the other
bind_by : {A B : Type 0} {X : Sight → Type 0} {s : Typer} {xs ys : Sight → List Event} {Y : A → Sight → Type 0} {Z : B → Sight → Type 0} {t : Typed A} {f : A → Typing B} →
    ReadsBy X s xs Y t → ((a : A) (u : Typer) → ReadsBy (Y a) u ys Z (f a u)) → ReadsBy X s (λ m. xs m ++ ys (after m (xs m))) Z (and_then t f)
bind_by {xs = xs} {ys = ys} {Z = Z} {t = Gives a u} {f = f} m go =
    let g = go a u in
    record {
      reads = λ n h x.
          let k = m.reads n h x in
          let es = xs n.sight in
          let r = g.reads (noting n es) k.0 k.1 in
          let same : noting (noting n es) (ys (noting n es).sight) ≡ noting n (es ++ ys (after n.sight es)) =
          ap (λ (l : Sight). noting (noting n es) (ys l)) (sight_after n es) ∙ sym (noting_append n es (ys (after n.sight es))) in
          subst (λ (l : Noted). Same (state (f a u)) l × Z (value (f a u)) l.sight) same r;
    }

-- ---- items
abbrev Entered : Option Entry → Sight → Type 0
Entered o = At [] (has_entry o)

plain_reads : (found : Bool) (ty : Specifiers) (s : Typer) → Reads (At [] found) s (in_plain ty) (Last [] found) (plain_type ty s)
plain_reads found ty s = bind (plain_qualifiers (At [] found) (out-Specifiers ty).qualifiers s) (λ a t. type_reads found [] ty t)

typedef_reads : (found : Bool) (ty : Specifiers) (x : Name) (s : Typer) → Reads (At [] found) s (in_plain ty ++ Aliases x ∷ []) (λ u. At [] found) (type_name ty x s)
unfolding type_name
typedef_reads found ty x s = bind (plain_reads found ty s) (λ t u. aliases_reads [] found x t u)

main_event : (found clock : Bool) (ty : Ty) (s : Typer) → Reads (Last [] found ty) s (Main clock ∷ []) (λ u. At [] (clock && is_entry_type ty.element)) (Gives (tt {0}) s)
unfolding see
main_event found clock ty s = one_last (one_as (seeing s [] (clock && is_entry_type ty.element) ty) [] refl refl refl (nothing_added s) (record { opened = refl; entry = refl }))

first_main_reads : (found : Bool) (x : Name) (ty : Ty) (b : Block) (s : Typer) → Reads (Last [] found ty) s (in_body x (out-Block b).items) Entered (first_main x ty b s)
first_main_reads found x ty b s =
    let is : List BlockItem = (out-Block b).items in
    let now : Bool = has_loop false is && is_entry_type ty.element in
    then_here (λ u t. first_main x ty b t) (main_event found (has_loop false is) ty s)
    (bind (defines_reads [] now x s)
    (λ u t. bind (quiet (quiet_unless (is_struct ty.element) 5 x.pos refl))
    (λ v w. ends_in (λ body. Some (entry x ty body))
    (λ m h. record {
      opened = h.opened;
      entry = h.entry ∙ ap (λ (c : Bool). c && is_entry_type ty.element) (sym (main_clock is w));
    }) (main_block_reads now [] is w))))

again_by : (x : Name) (ty : Ty) (found : Option Entry) (s : Typer) → is_visible s.names x.text ≡ true → Reads (Last [] (has_entry found) ty) s (Defines x ∷ []) Entered (Gives found (refused 2 x.pos s))
unfolding see
again_by x ty found s h =
    one_last (refused_one 2 x.pos (seeing s [] (has_entry found) ty) (fault 2 x.pos ∷ []) (defines_see [] (has_entry found) s x true ty h)
    (ap (λ (b : Bool). faults_at 2 (at_if b x.pos) ++ []) h) refl (refused_noted 2 x.pos s) (record { opened = refl; entry = refl }))

-- main, once its type is read
main_by : (x : Name) (ty : Ty) (b : Block) (found : Option Entry) (s : Typer) (v : Bool) → is_visible s.names x.text ≡ v →
    ReadsBy (Last [] (has_entry found) ty) s (λ m. in_func m x b) Entered (if v then Gives found (refused 2 x.pos s) else first_main x ty b s)
main_by x ty b found s true h =
    let g = again_by x ty found s h in
    record {
      reads = λ m k a.
          let seen = ap (λ (l : Scene). is_visible l.names x.text) k.scene ∙ h in
          subst (λ (w : Bool). let es = if w then Defines x ∷ [] else in_body x (out-Block b).items in Same (refused 2 x.pos s) (noting m es) × Entered found (noting m es).sight) (sym seen) (g.reads m k a);
    }
main_by x ty b found s false h =
    let g = first_main_reads (has_entry found) x ty b s in
    record {
      reads = λ m k a.
          let seen = ap (λ (l : Scene). is_visible l.names x.text) k.scene ∙ h in
          subst (λ (w : Bool). let es = if w then Defines x ∷ [] else in_body x (out-Block b).items in
          Same (state (first_main x ty b s)) (noting m es) × Entered (value (first_main x ty b s)) (noting m es).sight) (sym seen) (g.reads m k a);
    }

main_reads : (ty : Specifiers) (x : Name) (b : Block) (found : Option Entry) (s : Typer) →
    ReadsBy (Entered found) s (λ m. in_plain ty ++ in_func (after m (in_plain ty)) x b) Entered (main ty x b found s)
unfolding main
main_reads ty x b found s = bind_by (by (plain_reads (has_entry found) ty s)) (λ t u. main_by x t b found u (is_visible u.names x.text) refl)

func_by : (v : Bool) (ty : Specifiers) (x : Name) (b : Block) (found : Option Entry) (s : Typer) →
    ReadsBy (Entered found) s (λ m. if v then in_plain ty ++ in_func (after m (in_plain ty)) x b else []) Entered ((if v then main ty x b found else pure found) s)
func_by true ty x b found s = main_reads ty x b found s
func_by false ty x b found s = record { reads = λ m h a. (h, a) }

item_reads : (i : Item) (found : Option Entry) (s : Typer) → ReadsBy (Entered found) s (λ m. in_top m i) Entered (unit.item i found s)
unfolding unit.item in_top
item_reads (top.Typedef p ty x) found s = by (ends_in (λ u. found) (λ m h. h) (typedef_reads (has_entry found) ty x s))
item_reads (top.Struct p x) found s = by (struct_ends found (structure_reads (has_entry found) [] x s)) where
  struct_ends : {es : List Event} {s : Typer} {t : Typed Ty} (found : Option Entry) → Reads (At [] (has_entry found)) s es (Last [] (has_entry found)) t → Reads (Entered found) s es Entered (and_then t (λ ty. pure found))
  struct_ends {t = Gives c u} found h = record { reads = λ m r y. let q = h.reads m r y in (q.0, record { opened = q.1.opened; entry = q.1.entry }) }
item_reads (top.Global ty ds) found s = by (ends_in (λ u. found) (λ m h. h) (declared_reads [] (has_entry found) ty ds s))
item_reads (top.Proto ty x ps) found s = record { reads = λ m h a. (h, a) }
item_reads (top.Func ty x ps b) found s = func_by (is_main x) ty x b found s

items_reads : (is : List Item) (found : Option Entry) (s : Typer) → ReadsBy (Entered found) s (λ m. in_tops m is) Entered (unit.items is found s)
unfolding each in_tops
items_reads [] found s = record { reads = λ m h a. (h, a) }
items_reads (i ∷ is) found s = bind_by (item_reads i found s) (λ o u. items_reads is o u)

-- ---- the whole
abbrev pub nothing_noted : Noted
nothing_noted = record { sight = nothing_seen; faults = [] }

pub record Whole (u : Source) : Type 0 where
  pub faults : (noting nothing_noted (text u)).faults ≡ noted (state (all_items u)).faults
  pub entry : (after nothing_seen (text u)).entry ≡ has_entry (value (all_items u))

pub whole : (u : Source) → Whole u
whole u =
    let r = (items_reads u.items None blank).reads nothing_noted (record { scene = refl; faults = refl }) (record { opened = refl; entry = refl }) in
    record { faults = r.0.faults; entry = ap (λ (m : Sight). m.entry) (sym (sight_after nothing_noted (text u))) ∙ r.1.entry }
