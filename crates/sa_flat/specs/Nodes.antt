-- No promise of the top calls rests on this page: it is for laws beside them, for proofs and for inner functions.
-- What the statements of a lowered program make of environments.
use Rattle.std.specs.Prelude.{List, [], ◌∷◌, Option, option_map}
use Rattle.sa_typed.specs.declared.stmt.LoopKind.{LoopKind}
use Rattle.sa_typed.specs.declared.stmt.LoopKind.TheVariants as kind
use Rattle.sa_ir.specs.declared.node.Node.{Node, Row_of-Node, end_of-Node, more_of-Node, Row_of-IrGroup, end_of-IrGroup, more_of-IrGroup}
use Rattle.sa_flat.specs.Domain.{Domain}
use Rattle.sa_flat.specs.Meanings.{Meaning, Cells}
use Rattle.sa_flat.specs.Expressions.{meaning}
use Rattle.sa_flat.specs.Assignments.{Change, change}
use Rattle.sa_flat.specs.Pieces.{Piece, Walk, Group, Turn, changed, breaks, known, asserted, waits, done, followed, block, decision, selection, while_turn, do_turn, looped}

module _ (D : Domain) (x : Cells) where
  abbrev pub turn_of : LoopKind → Option (Meaning D.Env) → Piece D.Env → Option (Change D.Env) → Turn D.Env
  turn_of kind.Clock c body step = while_turn D c body step
  turn_of kind.While c body step = while_turn D c body step
  turn_of kind.Do c body step = do_turn D c body

  -- the clock changes in the clock loop alone
  abbrev pub peak : LoopKind → D.Env → D.Env
  peak kind.Clock env = D.top x.clocks
  peak kind.While env = D.top (D.clock env)
  peak kind.Do env = D.top (D.clock env)

  unfoldable mutual
    pub piece : Node → Piece D.Env
    piece (Node.Assign a) = changed (change D x a)
    piece (Node.Block' n all) = block D (walk all)
    piece (Node.If' e n (more_of-Node a end_of-Node) m (more_of-Node b end_of-Node) marked) = decision D (meaning D x e) (piece a) (piece b) marked
    piece (Node.Switch' e num n gs marked) = selection D num (meaning D x e) (groups gs) marked
    piece (Node.Loop' k kind c n (more_of-Node body end_of-Node) step) =
        looped D x.all k (peak kind) (turn_of kind (option_map (meaning D x) c) (piece body) (option_map (change D x) step))
    piece (Node.Known e) = known (meaning D x e)
    piece (Node.Assert q e) = asserted q (meaning D x e)
    piece Node.Wait = waits D
    piece Node.Break = breaks

    pub walk : {n : _} → Row_of-Node n → Walk D.Env
    walk end_of-Node = done D
    walk (more_of-Node s rest) = followed D (piece s) (walk rest)

    pub groups : {n : _} → Row_of-IrGroup n → List (Group D.Env)
    groups end_of-IrGroup = []
    groups (more_of-IrGroup labels n (more_of-Node body end_of-Node) rest) = record { labels = labels; body = piece body } ∷ groups rest
