-- Two forms of a tree that typing asks for: the wait for the clock, and the name of the program's entry.
use Rattle.std.specs.Prelude.{Bool, true, false, codes}
use Rattle.std.specs.Str.{bytes_eq}
use Rattle.sa_syntax.specs.declared.decl.Name.{Name}
use Rattle.sa_syntax.specs.declared.stmt.BlockItem.{BlockItem, out-BlockItem}
use Rattle.sa_syntax.specs.declared.stmt.BlockItem.TheOpen.{Stmt-F, BlockItem-F}
use Rattle.sa_syntax.specs.declared.stmt.Directive.TheVariants as d
use Rattle.sa_syntax.specs.declared.stmt.Stmt.{Stmt, out-Stmt}

-- `__ASTREE_wait_for_clock(());`
abbrev pub is_wait_stmt : Stmt → Bool
is_wait_stmt a = elim (out-Stmt a) as (λ _. Bool) [ Stmt-F.Directive p d.Wait ↦ true | _ ↦ false ]

abbrev pub is_wait : BlockItem → Bool
is_wait i = elim (out-BlockItem i) as (λ _. Bool) [ BlockItem-F.Local l ↦ false | BlockItem-F.Stmt a ↦ is_wait_stmt a ]

-- the function called at program startup (ISO C 5.1.2.2.1)
abbrev pub is_main : Name → Bool
is_main x = bytes_eq x.text (codes "main")
