-- What typing accepts is typed, and has no more cells than may be.
use Rattle.std.proofs.Common.{◌≡◌, ℕ, zero, suc, ◌+◌, ◌<◌, ◌≤◌, ℤ, pos, Bool, true, false, ◌&&◌, List, [], ◌∷◌, ◌++◌, length, map, refl, sym, ap, subst, ◌∙◌, arith, Option, Some, None}
use Rattle.std.proofs.lemmas.Bool.Decides.{nat_tests}
use Rattle.std.proofs.lemmas.List.{length-append}
use Rattle.std.specs.Prelude.{if◌then◌else◌, slice_get, nat_le, reverse}
use Rattle.sa_base.specs.Numbers.{limit_number}
use Rattle.sa_base.specs.declared.limit.Limit.TheVariants.{Cells}
use Rattle.sa_base.specs.declared.pos.Pos.{Pos}
use Rattle.sa_syntax.specs.declared.decl.Name.{Name}
use Rattle.sa_syntax.specs.declared.decl.Specifiers.{Specifiers, out-Specifiers}
use Rattle.sa_syntax.specs.declared.stmt.Block.{Block, out-Block}
use Rattle.sa_syntax.specs.declared.stmt.BlockItem.{BlockItem}
use Rattle.sa_syntax.specs.declared.unit.Item.{Item}
use Rattle.sa_syntax.specs.declared.unit.Item.TheVariants as top
use Rattle.sa_syntax.specs.declared.unit.Unit.{Unit as Source}
use Rattle.sa_typed.specs.Cells as typed_cells
use Rattle.sa_typed.specs.Cells.{Inner, cell_of, cells_of, cells_at, is_global, is_static, is_local, inner_cells}
use Rattle.sa_typed.specs.Layouts.{shape_layout, layout_of, var_layout}
use Rattle.sa_typed.specs.TypedPrograms.{IsTypedProgram}
use Rattle.sa_typed.specs.WellTyped.{IsTyped, IsTypedStmt}
use Rattle.sa_typed.specs.Executions.{main_of}
use Rattle.sa_typed.specs.declared.program.Home.{Home}
use Rattle.sa_typed.specs.declared.program.Home.TheVariants as home
use Rattle.sa_typed.specs.declared.program.Program.{Program}
use Rattle.sa_typed.specs.declared.program.Var.{Var}
use Rattle.sa_typed.specs.declared.stmt.Stmt.{Stmt}
use Rattle.sa_typed.specs.declared.stmt.Stmt.TheVariants as typed
use Rattle.sa_typer.specs.declared.bodies.Body.{Body}
use Rattle.sa_typer.specs.declared.bodies.Entry.{Entry}
use Rattle.sa_scopes.specs.declared.typer.Fault.{Fault}
use Rattle.sa_scopes.specs.declared.typer.Typer.{Typer}
use Rattle.sa_scopes.specs.declared.types.Named.TheVariants as n
use Rattle.sa_scopes.specs.declared.types.Ty.{Ty}
use Rattle.sa_scopes.specs.First.{item_pos}
use Rattle.sa_scopes.specs.Scopes.{is_visible}
use Rattle.sa_scopes.specs.Structures.{size_by, sum_by, sizes_of, cells_in, var_shape}
use Rattle.sa_declarations.specs.Declarations.{is_struct}
use Rattle.sa_typer.specs.Statements.{item}
use Rattle.sa_typer.specs.Bodies as body
use Rattle.sa_typer.specs.Bodies.{block, clock_stmt, no_body, main_by, main_item, main_items, main_block, clock_loop}
use Rattle.sa_typer.specs.Units as unit
use Rattle.sa_syntax.specs.Forms.{is_main}
use Rattle.sa_typer.specs.Units.{plain_type, type_name, first_main, main, blank, Answer, Accepts, Refuses, TooManyCells, is_entry, is_entry_type, has_entry, program, cells, result_of, result_cells, refusals_by, refusals_in, refusals, accepted_by, accepted_in, unless_refused, answer}
use Rattle.sa_scopes.specs.Refusals.{least_of}
use Rattle.sa_scopes.specs.Typing.{Typed, Typing, Gives, and_then, pure, each, fault}
use Rattle.sa_scopes.proofs.StructLaws.{RefersBelow, DefsBelow, IsFront, weight, cells_weight, AreSized, size_weight, sizes_known}
use Rattle.sa_operands.proofs.RowLaws.{AllStmts}
use Rattle.sa_typer.proofs.ProgramLaws.{EndsInClock, IsMainList, program_typed}
use Rattle.sa_typer.proofs.StraightUnits.{StraightEntry, main_typed, items_straight}
use Rattle.sa_unbuilt.specs.Unbuilt.{first_unbuilt, IsBuilt}
use Rattle.sa_scopes.proofs.WalkLaws.{Ends, Later, no_fault, Well, IsSound, Leads, Any, state, value, gives, refuses, refusal, bind, next, from, free, either, one_of, unless, all_parts}
use Rattle.sa_typer.proofs.RefusalLaws.{least_none, unrefused}
use Rattle.sa_operands.proofs.TypeLaws.{GoodTy, qualifiers_leads}
use Rattle.sa_operands.proofs.ExprLaws.{structure_leads, type_leads}
use Rattle.sa_declarations.proofs.DeclarationLaws.{named_leads, declared_leads, local_leads}
use Rattle.sa_typer.proofs.StmtLaws.{none_typed, scoped_leads, item_leads}

module _ (p : Program) where
  -- ---- the block of main
  part_leads : (i : BlockItem) (found : List Stmt) (s : Typer) → Leads p (AllStmts p found) s (λ ss t. AllStmts p ss) (item i found s)
  part_leads i found s = item_leads p (local_leads p) i found s

  all_leads : {X : Type 0} (is : List BlockItem) (s : Typer) → Leads p X s (λ ss t. AllStmts p ss) (body.items is [] s)
  all_leads is s = from (λ h. (tt, none_typed p)) (all_parts p (Unit {0}) (λ ss t. AllStmts p ss) item (λ a s t l h. h) (λ i found s. from (λ h. h.1) (part_leads i found s)) is [] s)

  block_leads : {X : Type 0} (is : List BlockItem) (s : Typer) → Leads p X s (λ ss t. AllStmts p ss) (block is s)
  unfolding block
  block_leads is s = scoped_leads p (body.items is []) s (all_leads is s)

  abbrev GoodBody : Body → Type 0
  GoodBody b = IsMainList p b.clock b.stmts

  before_clock : (b : Body) → GoodBody b → b.clock ≡ false → AllStmts p b.stmts
  before_clock b h e = subst (λ (c : Bool). IsMainList p c b.stmts) e h

  with_clock : (b : Body) (q : Pos) (ss : List Stmt) → AllStmts p b.stmts → AllStmts p ss → GoodBody (record { stmts = b.stmts ++ clock_stmt q ss ∷ []; clock = true })
  with_clock b q ss h k = record { before = b.stmts; place = q; turn = ss; is = refl; befores = h; turns = k }

  without_clock : (b : Body) (ss : List Stmt) → b.clock ≡ false → AllStmts p ss → GoodBody (record b { stmts = ss })
  without_clock b ss e h = subst (λ (c : Bool). IsMainList p c ss) (sym e) h

  main_by_leads : (o : Option (List BlockItem)) (i : BlockItem) (b : Body) (s : Typer) → Leads p (GoodBody b × (b.clock ≡ false)) s (λ b t. GoodBody b) (main_by o i b s)
  main_by_leads (Some before) i b s = next (block_leads before s) (λ ss t. gives (λ w h e. with_clock b (item_pos i) ss (before_clock b h.0.0 h.0.1) h.1))
  main_by_leads None i b s = next (from (λ h. (before_clock b h.0 h.1)) (part_leads i b.stmts s)) (λ ss t. gives (λ w h e. without_clock b ss h.0.1 h.1))

  main_item_leads : (i : BlockItem) (b : Body) (s : Typer) → Leads p (GoodBody b) s (λ b t. GoodBody b) (main_item i b s)
  unfolding main_item
  main_item_leads i b s = next (unless b.clock 23 (item_pos i)) (λ a t. main_by_leads (clock_loop i) i b t)

  main_block_leads : {X : Type 0} (is : List BlockItem) (s : Typer) → Leads p X s (λ b t. GoodBody b) (main_block is s)
  unfolding main_block
  main_block_leads is s =
      scoped_leads p (main_items is no_body) s
      (from (λ h. (tt, none_typed p)) (all_parts p (Unit {0}) (λ b t. GoodBody b) main_item (λ a s t l h. h) (λ i b s. from (λ h. h.1) (main_item_leads i b s)) is no_body s))

  -- ---- items of a source
  plain_leads : {X : Type 0} (ty : Specifiers) (s : Typer) → Leads p X s GoodTy (plain_type ty s)
  plain_leads ty s = next (qualifiers_leads p false true (out-Specifiers ty).qualifiers s) (λ a t. type_leads p ty t)

  type_name_leads : {X : Type 0} (ty : Specifiers) (x : Name) (s : Typer) → Leads p X s Any (type_name ty x s)
  unfolding type_name
  type_name_leads ty x s = bind {Z = GoodTy} (plain_leads ty s) (λ t u l h w y. y) (λ t u. named_leads p x (n.Alias t) u)

  abbrev GoodEntry : Option Entry → Type 0
  GoodEntry None = Unit {0}
  GoodEntry (Some e) = GoodBody e.body

  first_main_leads : {X : Type 0} (x : Name) (ty : Ty) (b : Block) (s : Typer) → Leads p X s (λ o t. GoodEntry o) (first_main x ty b s)
  first_main_leads x ty b s =
      next (free (named_leads p x n.Function s)) (λ a t. next (unless (is_struct ty.element) 5 x.pos) (λ a u. next (main_block_leads (out-Block b).items u) (λ b v. gives (λ w h e. h.1))))

  main_leads : {X : Type 0} (ty : Specifiers) (x : Name) (b : Block) (found : Option Entry) (s : Typer) → Leads p X s (λ o t. GoodEntry o) (main ty x b found s)
  unfolding main
  main_leads ty x b found s = next (plain_leads ty s) (λ t u. either (is_visible u.names x.text) (λ h. refuses 2 x.pos) (λ h. first_main_leads x t b u))

  source_item_leads : (i : Item) (found : Option Entry) (s : Typer) → Leads p (GoodEntry found) s (λ o t. GoodEntry o) (unit.item i found s)
  unfolding unit.item
  source_item_leads (top.Typedef q ty x) found s = next (type_name_leads ty x s) (λ a t. gives (λ w h e. h.0))
  source_item_leads (top.Struct q x) found s = next (free (structure_leads p x s)) (λ a t. gives (λ w h e. h.0))
  source_item_leads (top.Global ty ds) found s = next (declared_leads p ty ds s) (λ a t. gives (λ w h e. h.0))
  source_item_leads (top.Proto ty x ps) found s = gives (λ w h e. h)
  source_item_leads (top.Func ty x ps b) found s = one_of (is_main x) _ _ (λ h. main_leads ty x b found s) (λ h. gives (λ w h e. h))

  source_leads : (is : List Item) (s : Typer) → Leads p (Unit {0}) s (λ o t. GoodEntry o) (unit.items is None s)
  source_leads is s =
      from (λ h. (tt, tt)) (all_parts p (Unit {0}) (λ o t. GoodEntry o) unit.item (λ a s t l h. h) (λ i found s. from (λ h. h.1) (source_item_leads i found s)) is None s)

  -- ---- the whole
  none_there : {A : Type 0} (k : ℕ) (x : A) → slice_get [] k ≡ Some x → ⊥
  none_there k x h = cc

  blank_well : Well p blank
  blank_well = record { names = λ i m h. absurd (none_there i m h); tags = λ i m h. absurd (none_there i m h); defs = λ k d h. absurd (none_there k d h); vars = λ k v h. absurd (none_there k v h) }

  -- ---- cells
  number_of : (k : ℕ) (cs : List Inner) → length (cells_of k cs) ≡ length cs
  unfolding cells_of
  number_of k [] = refl
  number_of k (c ∷ cs) = ap suc (number_of k cs)

  layout_here : (k : ℕ) (v : Var) → slice_get p.vars k ≡ Some v → layout_of p k ≡ shape_layout p.structs v.shape
  unfolding layout_of
  layout_here k v h = ap (var_layout p.structs) h

  -- the cells of the variables from one on are counted by their shapes
  module _ (m : ℕ) (sizes : List ℕ) (z : AreSized true p.structs m sizes) where
    one_size : (k : ℕ) (v : Var) → slice_get p.vars k ≡ Some v → RefersBelow m v.shape → length (cells_of k (inner_cells (layout_of p k))) ≡ size_by true sizes v.shape
    one_size k v h b =
        number_of k (inner_cells (layout_of p k)) ∙ ap (λ (l : _). length (inner_cells l)) (layout_here k v h) ∙ sym (cells_weight (shape_layout p.structs v.shape)) ∙ sym (size_weight true p.structs m sizes v.shape z b)

    abbrev Sorted : ℕ → List Var → ℕ
    Sorted k vs = length (cells_at p is_global k vs) + (length (cells_at p is_static k vs) + length (cells_at p is_local k vs))

    more_by : (k : ℕ) (v : Var) (vs : List Var) (h : Home) → v.home ≡ h → Sorted k (v ∷ vs) ≡ length (cells_of k (inner_cells (layout_of p k))) + Sorted (k + 1) vs
    unfolding cells_at
    more_by k v vs home.Global e = rw e (let a = length-append (cells_of k (inner_cells (layout_of p k))) (cells_at p is_global (k + 1) vs) in omega (arith, a))
    more_by k v vs home.Static e = rw e (let a = length-append (cells_of k (inner_cells (layout_of p k))) (cells_at p is_static (k + 1) vs) in omega (arith, a))
    more_by k v vs (home.Local f) e = rw e (let a = length-append (cells_of k (inner_cells (layout_of p k))) (cells_at p is_local (k + 1) vs) in omega (arith, a))

    none_sorted : (k : ℕ) → Sorted k [] ≡ 0
    unfolding cells_at
    none_sorted k = refl

    all_sorted : (k : ℕ) (vs : List Var) → ((i : ℕ) (v : Var) → slice_get vs i ≡ Some v → slice_get p.vars (k + i) ≡ Some v) → ((i : ℕ) (v : Var) → slice_get vs i ≡ Some v → RefersBelow m v.shape) →
        Sorted k vs ≡ sum_by true sizes (map var_shape vs)
    unfolding sum_by
    all_sorted k [] h b = none_sorted k
    all_sorted k (v ∷ vs) h b =
        let zeroth : k + 0 ≡ k = omega arith in
        let here = subst (λ (j : ℕ). slice_get p.vars j ≡ Some v) zeroth (h 0 v refl) in
        let rest = all_sorted (k + 1) vs (λ i w g. let same : k + suc i ≡ (k + 1) + i = omega arith in subst (λ (j : ℕ). slice_get p.vars j ≡ Some w) same (h (suc i) w g)) (λ i w g. b (suc i) w g) in
        more_by k v vs v.home refl ∙ ap (λ (j : ℕ). j + Sorted (k + 1) vs) (one_size k v here (b 0 v refl)) ∙ ap (λ (j : ℕ). size_by true sizes v.shape + j) rest

  count_is : (s : Typer) → p.vars ≡ s.vars → Ends p s → Well p s → length (typed_cells.cells p) ≡ cells_in s.structs (map var_shape s.vars)
  unfolding typed_cells.cells cells_in
  count_is s same e w =
      let sizes = sizes_of true s.structs.defs in
      let a = length-append (cells_at p is_global 0 p.vars) (cells_at p is_static 0 p.vars ++ cells_at p is_local 0 p.vars) in
      let b = length-append (cells_at p is_static 0 p.vars) (cells_at p is_local 0 p.vars) in
      let c = all_sorted (length s.structs.defs) sizes (sizes_known true p.structs s.structs.defs e.structs w.defs) 0 p.vars (λ i v g. let zeroth : i ≡ 0 + i = omega arith in subst (λ (j : ℕ). slice_get p.vars j ≡ Some v) zeroth g)
      (λ i v g. (w.vars i v (ap (λ (vs : List Var). slice_get vs i) (sym same) ∙ g)).shape) in
      let d = ap (λ (vs : List Var). sum_by true sizes (map var_shape vs)) same in
      let f : length (cells_at p is_global 0 p.vars ++ (cells_at p is_static 0 p.vars ++ cells_at p is_local 0 p.vars)) ≡ sum_by true sizes (map var_shape p.vars) = omega (arith, a, b, c) in
      f ∙ d

-- ---- what is accepted
both_left : (a b : Bool) → (a && b) ≡ true → a ≡ true
both_left true b h = refl
both_left false b h = cc

both_right : (a b : Bool) → (a && b) ≡ true → b ≡ true
both_right true b h = h
both_right false b h = cc

-- the program is what the walk ends in
record Accepted (o : Option Entry) (s : Typer) (p : Program) : Type 0 where
  ends : Ends p s
  vars : p.vars ≡ s.vars
  body : GoodEntry p o → StraightEntry o → IsTypedStmt p (main_of p)
  program : GoodEntry p o → Well p s → IsTypedProgram p
  few : cells_in s.structs (map var_shape s.vars) ≤ 65536

main_list : (p : Program) (b : Body) → b.clock ≡ true → GoodBody p b → EndsInClock p b.stmts
main_list p b e h = subst (λ (c : Bool). IsMainList p c b.stmts) e h

own_program : (s : Typer) (e : Entry) → is_entry e ≡ true → s.faults ≡ [] → cells_in s.structs (map var_shape s.vars) ≤ 65536 → Accepted (Some e) s (program s e)
own_program s e m h k = record {
  ends = record { clear = h; structs = λ k x g. g; vars = λ k x g. g; inputs = λ k x g. g };
  vars = refl;
  body = λ b g. main_typed (program s e) e.body.stmts (main_list (program s e) e.body (both_left e.body.clock (is_entry_type e.result) m) b) g;
  program = λ b w. program_typed s e (both_right e.body.clock (is_entry_type e.result) m) (λ k v g. (w.vars k v g).items)
      (main_list (program s e) e.body (both_left e.body.clock (is_entry_type e.result) m) b);
  few = k;
}

few_cells : (s : Typer) (e : Entry) → nat_le (cells s e) (limit_number Cells) ≡ true → cells_in s.structs (map var_shape s.vars) ≤ 65536
unfolding cells
few_cells s e h =
    let all : cells_in s.structs (map var_shape s.vars) + result_cells (result_of e.result) ≤ limit_number Cells = grind (arith, nat_tests) in
    let most : limit_number Cells ≡ 65536 = refl in
    omega (arith, all, most)

of_cells : (b : Bool) (s : Typer) (e : Entry) (p : Program) → nat_le (cells s e) (limit_number Cells) ≡ b → is_entry e ≡ true → s.faults ≡ [] → (if b then Accepts (program s e) else TooManyCells) ≡ Accepts p → Accepted (Some e) s p
of_cells true s e p k m h g = let same : program s e ≡ p = cc in subst (Accepted (Some e) s) same (own_program s e m h (few_cells s e k))
of_cells false s e p k m h g = cc

of_entry : (o : Option Entry) (s : Typer) (p : Program) → has_entry o ≡ true → s.faults ≡ [] → accepted_by o s ≡ Accepts p → Accepted o s p
of_entry None s p m h g = cc
of_entry (Some e) s p m h g = of_cells (nat_le (cells s e) (limit_number Cells)) s e p refl m h g

none_refused : (b : Bool) (fs : List Fault) (f : Fault) → (if b then fs else (fs ++ f ∷ [])) ≡ [] → fs ≡ []
none_refused true fs f h = h
none_refused false fs f h = absurd (no_fault fs f h)

has_one : (b : Bool) (fs : List Fault) (f : Fault) → (if b then fs else (fs ++ f ∷ [])) ≡ [] → b ≡ true
has_one true fs f h = refl
has_one false fs f h = absurd (no_fault fs f h)

of_walk : (end : Pos) (t : Typed (Option Entry)) (p : Program) → unless_refused (least_of (refusals_in end t)) (accepted_in t) ≡ Accepts p → Accepted (value t) (state t) p
of_walk end (Gives o s) p g =
    let least = unrefused (least_of (refusals_by end o s)) (accepted_by o s) p g in
    let none = least_none (refusals_by end o s) least.0 in
    of_entry o s p (has_one (has_entry o) s.faults (fault 22 end) none) (none_refused (has_entry o) s.faults (fault 22 end) none) least.1

module _ (u : Source) (end : Pos) (p : Program) (h : answer u end ≡ Accepts p) where
  walk : Typed (Option Entry)
  walk = unit.items u.items None blank

  is : Accepted (value walk) (state walk) p
  unfolding answer refusals walk
  is = of_walk end walk p h

  good : Well p (state walk) × GoodEntry p (value walk)
  unfolding walk
  good = (source_leads p u.items blank).good (blank_well p) tt is.ends

  straight : IsBuilt u → StraightEntry (value walk)
  unfolding walk first_unbuilt
  straight b = (items_straight u.items blank b).straight

  -- a program that is accepted is typed, and straight where today's analysis takes every form of the text
  pub accepted_typed : IsBuilt u → IsTyped p
  accepted_typed b = record {
    body = is.body good.1 (straight b);
    items = λ k v g. (good.0.vars k v (ap (λ (vs : List Var). slice_get vs k) (sym is.vars) ∙ g)).items;
  }

  -- in the terms that cover every form of the language
  pub accepted_program : IsTypedProgram p
  accepted_program = is.program good.1 good.0

  -- and has no more cells than may be
  pub accepted_small : length (typed_cells.cells p) ≤ 65536
  accepted_small = let c = count_is p (state walk) is.vars is.ends good.0 in let few = is.few in omega (arith, c, few)
