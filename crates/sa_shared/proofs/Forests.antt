-- New nodes leave the older roots of a forest as they are.
use Rattle.std.proofs.Common.{◌≡◌, ℕ, ◌<◌, ◌++◌, List, length, refl, sym, ap, ◌∙◌, subst, arith}
use Rattle.std.specs.Prelude.{slice_index_or}
use Rattle.std.specs.List.{All, AllZip}
use Rattle.std.proofs.lemmas.List.Elements.{AllZip-get_or, length_all_zip}
use Rattle.sa_shared.specs.declared.nodes.Node.{Node}
use Rattle.sa_shared.specs.declared.nodes.Root.{Root}
use Rattle.sa_shared.specs.Slots.{EachSlot}
use Rattle.sa_shared.specs.Tree.{values, tree_at, IsTree, Extends}
use Rattle.sa_shared.specs.Forest.{Forest, Belongs, Grows, list_of}
use Rattle.sa_shared.specs.Copies.{IsSameList}
use Rattle.sa_shared.proofs.Lists.{each_between, each_valid, all_of}
use Rattle.sa_shared.proofs.Unfolding.{tree_kept, size}

module _ {T : Type 0} where
  -- a new tree whose list is like the first
  pub belongs_now : (R : T → T → Type 0) (slots : ℕ) (first : Root) (old new : List (Node T)) (n : ℕ)
      → Belongs R (record { slots = slots; first = first; nodes = old }) first → Extends old new → IsTree new slots n → EachSlot R (values (tree_at old first.node)) (values (tree_at new n))
      → Belongs R (record { slots = slots; first = first; nodes = new }) (record { node = n })
  belongs_now R slots first old new n first_in more here like = record {
    inside = here.inside;
    balanced = here.balanced;
    alike = subst (λ t. EachSlot R (values t) (values (tree_at new n))) (sym (more.trees first.node first_in.inside)) like;
  }

  pub grows : (R : T → T → Type 0) (slots : ℕ) (first : Root) (old new : List (Node T))
      → Belongs R (record { slots = slots; first = first; nodes = old }) first → Extends old new
      → Grows R (record { slots = slots; first = first; nodes = old }) (record { slots = slots; first = first; nodes = new })
  grows R slots first old new first_in more = record {
    slots = refl;
    first = refl;
    longer = more.longer;
    nodes = more.kept;
    roots = λ r h.
        let kept = tree_kept old new slots r.node more (record { inside = h.inside; balanced = h.balanced }) in
        belongs_now R slots first old new r.node first_in more kept
        (subst (λ t. EachSlot R (values (tree_at old first.node)) (values t)) (sym (more.trees r.node h.inside)) h.alike);
    trees = λ r h. more.trees r.node h.inside;
  }

  pub belongs_first : (R : T → T → Type 0) (f : Forest T) → IsTree f.nodes f.slots f.first.node → EachSlot R (list_of f f.first) (list_of f f.first) → Belongs R f f.first
  belongs_first R f first_in valid = record {
    inside = first_in.inside;
    balanced = first_in.balanced;
    alike = valid;
  }

  -- the first root still belongs when nodes were added
  pub first_still : (R : T → T → Type 0) (slots : ℕ) (first : Root) (old new : List (Node T)) → Belongs R (record { slots = slots; first = first; nodes = old }) first
      → Extends old new → Belongs R (record { slots = slots; first = first; nodes = new }) first
  first_still R slots first old new first_in more = (grows R slots first old new first_in more).roots first first_in

  -- a tree of a list of valid values, as the first
  pub of_list : (slots n : ℕ) (nodes : List (Node T)) (list rest : List T) → IsTree nodes slots n → list ≡ rest ++ values (tree_at nodes n) → slots ≡ length list
      → values (tree_at nodes n) ≡ list
  of_list slots n nodes list rest tree is long = all_of list rest (values (tree_at nodes n)) is (size (tree_at nodes n) slots tree.balanced ∙ long)

  pub of_valid : (R : T → T → Type 0) (slots n : ℕ) (nodes : List (Node T)) (list : List T) → IsTree nodes slots n → values (tree_at nodes n) ≡ list
      → All (λ x. R x x) list → Belongs R (record { slots = slots; first = record { node = n }; nodes = nodes }) (record { node = n })
  of_valid R slots n nodes list tree is all =
      belongs_first R (record { slots = slots; first = record { node = n }; nodes = nodes }) tree
      (subst (λ l. EachSlot R l l) (sym is) (each_valid R list all))

  -- roots of copies belong to the new forest, whose first root is the first of them
  pub copied_belongs : (R : T → T → Type 0) (back : (x y : T) → R x y → R y x) (on : (x y z : T) → R x y → R y z → R x z) (f : Forest T) (to : List (Node T))
      (first : Root) (roots made : List Root) → All (Belongs R f) roots → AllZip (IsSameList f.nodes to f.slots) roots made → 0 < length roots
      → first ≡ slice_index_or made 0 first → All (Belongs R (record { slots = f.slots; first = first; nodes = to })) made
  copied_belongs R back on f to first roots made all copies some is k d less =
      let long = length_all_zip (IsSameList f.nodes to f.slots) roots made copies in
      let k_less : k < length roots = omega (arith, long, less) in
      let here = AllZip-get_or (IsSameList f.nodes to f.slots) roots made k d d copies k_less in
      let there = AllZip-get_or (IsSameList f.nodes to f.slots) roots made 0 first first copies some in
      let each = each_between R back on _ _ _ (all 0 first some).alike (all k d k_less).alike in
      let first_list : values (tree_at to first.node) ≡ values (tree_at f.nodes (slice_index_or roots 0 first).node) =
      ap (λ (r : Root). values (tree_at to r.node)) is ∙ there.list in
      record {
        inside = here.tree.inside;
        balanced = here.tree.balanced;
        alike = subst (λ xs. EachSlot R xs (values (tree_at to (slice_index_or made k d).node))) (sym first_list)
            (subst (EachSlot R (values (tree_at f.nodes (slice_index_or roots 0 first).node))) (sym here.list) each);
      }
