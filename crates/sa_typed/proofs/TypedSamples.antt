-- A program of two functions in which most forms stand is typed: what typing promises can be met.
use Rattle.std.proofs.Common.{◌≡◌, ℕ, zero, suc, ◌<◌, ℤ, pos, Bool, true, false, List, [], ◌∷◌, refl, sym, subst, arith, Option, None, Some, inl, inr}
use Rattle.std.specs.List.{AllByRecursion}
use Rattle.std.specs.Prelude.{slice_get, get_or}
use Rattle.sa_base.specs.declared.num.Num.{Num}
use Rattle.sa_base.specs.declared.num.Num.TheVariants.{I8, U8, I16, U16, I32, U32, I64, U64}
use Rattle.sa_typed.specs.Arithmetic.{is_of}
use Rattle.sa_typed.specs.Executions.{main_of}
use Rattle.sa_typed.specs.Layouts.{leaf, rows, layout_with, layout_of}
use Rattle.sa_typed.specs.WellTyped.{type_of, converts, steps_layout, HasTypedItems}
use Rattle.sa_typed.specs.TypedExpressions.{IsTypedExpression, IsPromoted, variables_in, IsExpression, IsPlace, IsLeftSide}
use Rattle.sa_typed.specs.TypedPrograms.{IsBody, IsMainBody, AreDistinct, AreArguments, all_labels, IsStatement, IsBlock, IsTurn, IsMainBlock, calls_in, loops_at, calls_of, IsFunction, AreRanked, IsTypedProgram}
use Rattle.sa_typed.specs.declared.expr.Access.{Access}
use Rattle.sa_typed.specs.declared.expr.Expr.{Expr}
use Rattle.sa_typed.specs.declared.expr.Expr.TheVariants as e
use Rattle.sa_typed.specs.declared.expr.Expr.TheBlock.{hidden-the_row-Step-0, hidden-the_row-Expr-1, hidden-the_row-Link-2, hidden-the_row-Expr-3}
use Rattle.sa_typed.specs.declared.expr.Operator.TheVariants as o
use Rattle.sa_typed.specs.declared.program.Func.{Func}
use Rattle.sa_typed.specs.declared.program.Home.{Home}
use Rattle.sa_typed.specs.declared.program.Home.TheVariants as home
use Rattle.sa_typed.specs.declared.program.Program.{Program}
use Rattle.sa_typed.specs.declared.program.Var.{Var}
use Rattle.sa_typed.specs.declared.shape.Plain.TheVariants as plain
use Rattle.sa_typed.specs.declared.stmt.Arg.TheVariants.{Value as ByValue, Object as ByReference}
use Rattle.sa_typed.specs.declared.stmt.Label.{Label}
use Rattle.sa_typed.specs.declared.stmt.Label.TheVariants.{Case, Default}
use Rattle.sa_typed.specs.declared.stmt.LoopKind.TheVariants as kind
use Rattle.sa_typed.specs.declared.stmt.Simple.TheVariants.{Assign}
use Rattle.sa_typed.specs.declared.stmt.Stmt.{Stmt}
use Rattle.sa_typed.specs.declared.stmt.Stmt.TheVariants as stmt
use Rattle.sa_typed.specs.declared.stmt.Stmt.TheBlock.{hidden-the_row-Stmt-0, hidden-the_row-Stmt-1, hidden-the_row-Group-2}
use Rattle.sa_typed.proofs.ExecutionSamples.{at, program_with}

-- an `int`: of the file, static, of main or of the function with number 1
abbrev int : Home → Var
int h = record { name = []; pos = at 1; shape = record { dims = []; plain = plain.Scalar I32 }; home = h; constant = false; initial = [] }

abbrev whole : ℕ → Access
whole v = record { var = v; steps = [] }

abbrev value : ℕ → Expr
value v = e.Read (whole v) I32

abbrev number : ℕ → Expr
number n = e.Number n I32

abbrev set : ℕ → Expr → Stmt
set v a = stmt.Simple (Assign (whole v) I32 (at 40) a)

abbrev next_of : Expr
next_of = e.Chain (value 2) (record { op = o.Plus; pos = at 50; num = I32; operand = number 1 } ∷ [])

-- `int f(int *p, int k) { static int n; if (k) { *p = k && g; } while (k) { break; } return k + 1; }`
abbrev callee : Func
callee = record {
  name = [];
  params = record { var = 1; reference = true } ∷ record { var = 2; reference = false } ∷ [];
  result = Some I32;
  body =
      stmt.Scope 3 ∷ stmt.If (value 2) (stmt.Block (set 1 (e.And (value 2) (value 0 ∷ [])) ∷ [])) (stmt.Block []) false
      ∷ stmt.Loop (at 30) kind.While (Some (value 2)) (stmt.Block (stmt.Break ∷ [])) None ∷ stmt.Return (at 60) I32 next_of ∷ [];
}

-- and in each turn of main `int y = f(&g, 6); switch (y) { default: g = 7; break; case 0: g = y ? 1 : 2; break; }`
abbrev calling : Program
calling = program_with (callee ∷ []) [] (int home.Global ∷ int (home.Local 1) ∷ int (home.Local 1) ∷ int home.Static ∷ int (home.Local 0) ∷ [])
    (stmt.Scope 4 ∷ stmt.Call (at 20) 1 (ByReference (whole 0) ∷ ByValue (at 21) (number 6) ∷ []) (Some (record { place = whole 4; num = I32; pos = at 19 }))
    ∷ stmt.Switch (value 4) I32 (record { labels = Default ∷ []; body = set 0 (number 7) } ∷ record { labels = Case (pos 0) ∷ []; body = set 0 (e.Choice (value 4) (number 1) (number 2) I32) } ∷ []) false ∷ [])

-- ---- expressions
main_reads : IsExpression calling 0 (value 4)
unfolding IsTypedExpression IsPromoted variables_in steps_layout layout_of layout_with rows hidden-the_row-Step-0 denote.Hole.Carrier.hidden
main_reads = record { typed = (tt, refl); promoted = tt; named = (refl, tt) }

callee_reads : IsExpression calling 1 (value 2)
unfolding IsTypedExpression IsPromoted variables_in steps_layout layout_of layout_with rows hidden-the_row-Step-0 denote.Hole.Carrier.hidden
callee_reads = record { typed = (tt, refl); promoted = tt; named = (refl, tt) }

literal : (f n : ℕ) → is_of I32 (pos n) ≡ true → IsExpression calling f (number n)
unfolding IsTypedExpression IsPromoted variables_in
literal f n h = record { typed = h; promoted = tt; named = tt }

and_reads : IsExpression calling 1 (e.And (value 2) (value 0 ∷ []))
unfolding IsTypedExpression IsPromoted variables_in steps_layout layout_of layout_with rows hidden-the_row-Step-0 hidden-the_row-Expr-1 hidden-the_row-Expr-3 denote.Hole.Carrier.hidden
and_reads = record { typed = ((tt, refl), ((tt, refl), tt)); promoted = (tt, (tt, tt)); named = (refl, (refl, tt)) }

sum_reads : IsExpression calling 1 next_of
unfolding IsTypedExpression IsPromoted variables_in steps_layout layout_of layout_with rows type_of converts hidden-the_row-Step-0 hidden-the_row-Expr-1 hidden-the_row-Link-2 denote.Hole.Carrier.hidden
sum_reads = record { typed = ((tt, refl), (refl, (record { first = refl; second = refl }, tt))); promoted = (tt, (tt, tt)); named = (refl, tt) }

choice_reads : IsExpression calling 0 (e.Choice (value 4) (number 1) (number 2) I32)
unfolding IsTypedExpression IsPromoted variables_in steps_layout layout_of layout_with rows type_of converts hidden-the_row-Step-0 hidden-the_row-Expr-1 denote.Hole.Carrier.hidden
choice_reads = record { typed = ((tt, refl), ((refl, refl), (refl, refl))); promoted = (tt, (tt, tt)); named = (refl, tt) }

global_left : (f : ℕ) → IsLeftSide calling f (leaf I32) (whole 0)
unfolding IsTypedExpression IsPromoted variables_in steps_layout layout_of layout_with rows hidden-the_row-Step-0 denote.Hole.Carrier.hidden
global_left f = record { place = record { typed = (tt, refl); promoted = tt; named = (refl, tt) }; variable = refl }

local_left : IsLeftSide calling 0 (leaf I32) (whole 4)
unfolding IsTypedExpression IsPromoted variables_in steps_layout layout_of layout_with rows hidden-the_row-Step-0 denote.Hole.Carrier.hidden
local_left = record { place = record { typed = (tt, refl); promoted = tt; named = (refl, tt) }; variable = refl }

reference_left : IsLeftSide calling 1 (leaf I32) (whole 1)
unfolding IsTypedExpression IsPromoted variables_in steps_layout layout_of layout_with rows hidden-the_row-Step-0 denote.Hole.Carrier.hidden
reference_left = record { place = record { typed = (tt, refl); promoted = tt; named = (refl, tt) }; variable = refl }

-- ---- statements
labels_differ : AreDistinct (Default ∷ Case (pos 0) ∷ [])
labels_differ zero zero x h k = refl
labels_differ zero (suc zero) x h k = cc
labels_differ zero (suc (suc j)) x h k = cc
labels_differ (suc zero) zero x h k = cc
labels_differ (suc zero) (suc zero) x h k = refl
labels_differ (suc zero) (suc (suc j)) x h k = cc
labels_differ (suc (suc i)) j x h k = cc

callee_body : IsBody calling 1 (Some I32) (stmt.Block callee.body)
unfolding IsBlock IsStatement hidden-the_row-Stmt-0 hidden-the_row-Stmt-1 denote.Hole.Carrier.hidden
callee_body = inr (inl refl, inr ((callee_reads, (((reference_left, and_reads), tt), tt)), inr (((callee_reads, tt), (refl, tt)), inl ((refl, sum_reads), tt))))

main_body : IsMainBody calling 0 None (main_of calling)
unfolding IsMainBlock IsTurn IsStatement AreArguments all_labels type_of layout_of layout_with rows hidden-the_row-Stmt-0 hidden-the_row-Stmt-1 hidden-the_row-Group-2 hidden-the_row-Step-0 denote.Hole.Carrier.hidden
main_body =
    inl (
      (inr (
        inr refl,
        inr (
          (((refl, global_left 0), ((refl, literal 0 6 refl), tt)), local_left),
          inr (((main_reads, refl), (record { typed = (tt, (refl, tt)); distinct = labels_differ }, ((global_left 0, literal 0 7 refl), ((global_left 0, choice_reads), tt)))), inl (tt, tt)),
        ),
      )),
      tt,
    )

-- ---- the program
one_alone : {A : Type 0} (a : A) → AreDistinct (a ∷ [])
one_alone a zero zero x h k = refl
one_alone a zero (suc j) x h k = cc
one_alone a (suc i) j x h k = cc

none_alone : {A : Type 0} → AreDistinct {A = A} []
none_alone i j x h k = cc

variables_differ : AreDistinct {A = ℕ} (1 ∷ 2 ∷ [])
variables_differ zero zero x h k = refl
variables_differ zero (suc zero) x h k = cc
variables_differ zero (suc (suc j)) x h k = cc
variables_differ (suc zero) zero x h k = cc
variables_differ (suc zero) (suc zero) x h k = refl
variables_differ (suc zero) (suc (suc j)) x h k = cc
variables_differ (suc (suc i)) j x h k = cc

abbrev IsIn : ℕ → Option Func → Type 0
IsIn k None = ⊥
IsIn k (Some g) = IsFunction calling k g

main_typed : (f : Func) → slice_get calling.funcs 0 ≡ Some f → IsFunction calling 0 f
unfolding calls_in loops_at hidden-the_row-Stmt-0 hidden-the_row-Stmt-1 hidden-the_row-Group-2 denote.Hole.Carrier.hidden
main_typed f h =
    subst (IsIn 0) h (record { params = tt; distinct = none_alone; body = record { params = refl; result = inl refl; body = main_body }; calls = one_alone (at 20); loops = one_alone (at 9) })

callee_typed : (f : Func) → slice_get calling.funcs 1 ≡ Some f → IsFunction calling 1 f
unfolding calls_in loops_at layout_of layout_with rows hidden-the_row-Stmt-0 hidden-the_row-Stmt-1 denote.Hole.Carrier.hidden
callee_typed f h =
    let same : callee ≡ f = cc in
    subst (IsFunction calling 1) same (record {
      params = (record { own = refl; layout = tt }, (record { own = refl; layout = tt }, tt));
      distinct = variables_differ;
      body = callee_body;
      calls = none_alone;
      loops = one_alone (at 30);
    })

-- main calls the other function
rank : ℕ → ℕ
rank zero = 1
rank (suc k) = 0

ranks_are_few : (k : ℕ) → k < 2 → rank k < 2
unfolding rank
ranks_are_few zero l = omega arith
ranks_are_few (suc k) l = omega arith

zero_fits : (num : Num) → is_of num (pos 0) ≡ true
zero_fits I8 = refl
zero_fits U8 = refl
zero_fits I16 = refl
zero_fits U16 = refl
zero_fits I32 = refl
zero_fits U32 = refl
zero_fits I64 = refl
zero_fits U64 = refl

begins_with_zeros : (k : ℕ) (v : Var) → slice_get calling.vars k ≡ Some v → v.initial ≡ []
begins_with_zeros zero v h = cc
begins_with_zeros (suc zero) v h = cc
begins_with_zeros (suc (suc zero)) v h = cc
begins_with_zeros (suc (suc (suc zero))) v h = cc
begins_with_zeros (suc (suc (suc (suc zero)))) v h = cc
begins_with_zeros (suc (suc (suc (suc (suc k))))) v h = cc

abbrev Falls : ℕ → Option Func → Type 0
Falls k None = ⊥
Falls k (Some g) = AllByRecursion (λ s. rank s.func < rank k) (calls_of g)

calls_fall : (k : ℕ) (f : Func) → slice_get calling.funcs k ≡ Some f → AllByRecursion (λ s. rank s.func < rank k) (calls_of f)
unfolding rank calls_in hidden-the_row-Stmt-0 hidden-the_row-Stmt-1 hidden-the_row-Group-2 denote.Hole.Carrier.hidden
calls_fall zero f h = subst (Falls 0) h (omega arith, tt)
calls_fall (suc zero) f h = subst (Falls 1) h tt
calls_fall (suc (suc k)) f h = cc

each_typed : (k : ℕ) (f : Func) → slice_get calling.funcs k ≡ Some f → IsFunction calling k f
each_typed zero f h = main_typed f h
each_typed (suc zero) f h = callee_typed f h
each_typed (suc (suc k)) f h = cc

calling_typed : IsTypedProgram calling
calling_typed = record {
  entry = omega arith;
  funcs = each_typed;
  ranks = (rank, record { few = ranks_are_few; falls = calls_fall });
  items = λ k v h i num g. subst (λ (zs : List ℤ). is_of num (get_or zs i (pos 0)) ≡ true) (sym (begins_with_zeros k v h)) (zero_fits num);
}
