use Rattle.std.proofs.Common.{◌≡◌, ℕ, ap, sym, subst, ◌∙◌, arith, length}
use Rattle.sa_typed.specs.declared.shape.Shape.{Shape}
use Rattle.sa_scopes.specs.Forms.{inside}
use Rattle.sa_declarations.specs.Initialisers.{init, GivesValues}
use Rattle.sa_scopes.specs.Structures.{shape_at, missing, kept}
use Rattle.sa_declarations.proofs.InitRows.{value_answer, braces_answer, none_answer, slot_answer, goes_next, goes_end}
use Rattle.sa_declarations.proofs.initial.+initialising.Goals as goal

pub init-returns-in_ok-operand-in-Value : goal.init-returns-in_ok-operand-in-Value
init-returns-in_ok-operand-in-Value t c = λ zs s. value_answer _ _ _ _ _ zs _ _ _ _ _ c.in-Value.is c.expr_pos.ensures c.inside-form.ensures.form c.in_ok-operand-in-Value.ensures (c.valued.ensures zs s)

pub init-returns-in-Braces : goal.init-returns-in-Braces
init-returns-in-Braces t c = λ zs s. braces_answer _ _ _ _ zs _ _ _ c.in-Braces.is (rw c.as_slice.ensures at (c.items.ensures zs s))

pub items-loop-at-preserved : goal.items-loop-at-preserved
items-loop-at-preserved t c = λ zs s.
    goes_next c.args.all.now c.args.pos (inside c.args.depth c.args.shape.now) zs c.args.typer.now c.loop-at.at c.loop-at.found c.in_ok-found.found c.loop-at.typer c.nth_item.new.typer c.index-all-at.result
    c.loop-at-test.true c.index-all-at.is (c.loop-at.invariant zs s) (λ ys g. c.in_ok-found.ensures ys g)

pub items-returns : goal.items-returns
items-returns t c = λ zs s.
    let e : length c.args.all.now ≡ c.loop-at.at = omega arith in
    goes_end c.args.all.now c.args.pos (inside c.args.depth c.args.shape.now) zs c.args.typer.now c.loop-at.at c.loop-at.found c.skip.result c.loop-at.typer c.loop-at-test.false (c.loop-at.invariant zs s)
    (λ ys g. c.skip.ensures ys (missing c.loop-at.typer.structs (inside c.args.depth c.args.shape.now) c.loop-at.at) g
    (c.missing-missing.ensures ∙ ap (λ (k : ℕ). kept (missing c.loop-at.typer.structs (inside c.args.depth c.args.shape.now) k)) e))

pub nth_item-returns-in_ok-refuse-in-Nothing : goal.nth_item-returns-in_ok-refuse-in-Nothing
nth_item-returns-in_ok-refuse-in-Nothing t c = λ zs s.
    none_answer c.args.one.now c.args.pos (inside c.args.depth c.args.shape.now) c.args.at zs c.args.typer.now c.refuse.new.self c.init.new.typer c.init.result
    (ap (shape_at c.args.shape.now) (sym c.in-Nothing.is) ∙ c.in_ok-slot.ensures) c.in_ok-refuse-in-Nothing.ensures
    (subst (λ (x : Shape). GivesValues (init c.args.one.now (inside 0 x) zs c.refuse.new.self) c.init.result c.init.new.typer) c.scalar.ensures (c.init.ensures zs s))

pub nth_item-returns-in-Element : goal.nth_item-returns-in-Element
nth_item-returns-in-Element t c = λ zs s.
    slot_answer c.args.one.now c.args.pos (inside c.args.depth c.args.shape.now) (inside c.in-Element.deeper c.args.shape.now) c.args.at zs c.args.typer.now _ _ (ap (shape_at c.args.shape.now) (sym c.in-Element.is) ∙ c.in_ok-slot.ensures)
    (c.init-in-Element.ensures zs s)

pub nth_item-returns-in-Field : goal.nth_item-returns-in-Field
nth_item-returns-in-Field t c = λ zs s.
    slot_answer c.args.one.now c.args.pos (inside c.args.depth c.args.shape.now) c.in-Field.inner c.args.at zs c.args.typer.now _ _ (ap (shape_at c.args.shape.now) (sym c.in-Field.is) ∙ c.in_ok-slot.ensures)
    (c.init-in-Field.ensures zs s)
