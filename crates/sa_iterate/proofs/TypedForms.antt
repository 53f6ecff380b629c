-- The forms of statements that typing gives: simple statements, blocks, waits, and the clock loop.
use Rattle.std.proofs.Common.{◌≡◌, List, refl, sym, subst, ◌∙◌, Option, None}
use Rattle.sa_base.specs.declared.pos.Pos.{Pos}
use Rattle.sa_typed.specs.WellTyped.{IsTypedStmt}
use Rattle.sa_typed.specs.declared.expr.Expr.{Expr}
use Rattle.sa_typed.specs.declared.program.Program.{Program}
use Rattle.sa_typed.specs.declared.stmt.LoopKind.{LoopKind}
use Rattle.sa_typed.specs.declared.stmt.LoopKind.TheVariants as kind
use Rattle.sa_typed.specs.declared.stmt.Simple.{Simple}
use Rattle.sa_typed.specs.declared.stmt.Stmt as stmt
use Rattle.sa_typed.specs.declared.stmt.Stmt.{Stmt, end_of-Stmt, more_of-Stmt, roll-out-Stmt}
use Rattle.sa_typed.specs.declared.stmt.Stmt.TheVariants as v
use Rattle.sa_typed.specs.declared.stmt.Stmt.TheVariants.{rolls-Block}

-- no other form
pub dismissed : (p : Program) (s : Stmt) → IsTypedStmt p s → ((x : Simple) → s ≡ v.Simple x → ⊥) → ((all : List Stmt) → s ≡ v.Block all → ⊥) → (s ≡ v.Wait → ⊥) →
    ((q : Pos) (k : LoopKind) (c : Option Expr) (body : Stmt) (x : Option Simple) → s ≡ v.Loop q k c body x → ⊥) → ⊥
unfolding IsTypedStmt Rattle.sa_typed.specs.declared.stmt.Stmt.TheBlock.hidden-the_row-Stmt-1 denote.Hole.Carrier.hidden stmt.out-Stmt stmt.roll-Stmt denote.Hole.Carrier.out
dismissed p (Stmt.Simple x) t simple block wait loop = simple x refl
dismissed p (Stmt.Block' n all) t simple block wait loop = block _ (sym (roll-out-Stmt (Stmt.Block' n all)) ∙ rolls-Block _)
dismissed p Stmt.Wait t simple block wait loop = wait refl
dismissed p (Stmt.Loop' q k c n (more_of-Stmt body end_of-Stmt) x) t simple block wait loop = loop q k c body x refl
dismissed p _ t simple block wait loop = t

fixed : (p : Program) (q : Pos) (k : LoopKind) (c : Option Expr) (body : Stmt) (x : Option Simple) → IsTypedStmt p (v.Loop q k c body x) → v.Loop q k c body x ≡ v.Loop q kind.Clock None body None
unfolding IsTypedStmt Rattle.sa_typed.specs.declared.stmt.Stmt.TheBlock.hidden-the_row-Stmt-1 denote.Hole.Carrier.hidden
fixed p q kind.Clock None body None t = refl
fixed p q _ _ body _ t = absurd t

-- a loop is the clock loop
pub clock_is : (p : Program) (s : Stmt) (q : Pos) (k : LoopKind) (c : Option Expr) (body : Stmt) (x : Option Simple) → s ≡ v.Loop q k c body x → IsTypedStmt p s → s ≡ v.Loop q kind.Clock None body None
clock_is p s q k c body x is t = is ∙ fixed p q k c body x (subst (IsTypedStmt p) is t)

body_of : (p : Program) (q : Pos) (body : Stmt) → IsTypedStmt p (v.Loop q kind.Clock None body None) → IsTypedStmt p body
unfolding IsTypedStmt Rattle.sa_typed.specs.declared.stmt.Stmt.TheBlock.hidden-the_row-Stmt-1 denote.Hole.Carrier.hidden
body_of p q body t = t

pub loop_typed : (p : Program) (s : Stmt) (q : Pos) (k : LoopKind) (c : Option Expr) (body : Stmt) (x : Option Simple) → s ≡ v.Loop q k c body x → IsTypedStmt p s → IsTypedStmt p body
loop_typed p s q k c body x is t = body_of p q body (subst (IsTypedStmt p) (clock_is p s q k c body x is t) t)
