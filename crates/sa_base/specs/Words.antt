-- The words of the tables, as a report or a refusal spells them.
use Rattle.std.specs.Prelude.{ℕ, List, ◌++◌, codes}
use Rattle.std.specs.Fmt.{decimal}
use Rattle.sa_base.specs.declared.alarm.Kind.{Kind}
use Rattle.sa_base.specs.declared.alarm.Kind.TheVariants as k
use Rattle.sa_base.specs.declared.limit.Limit.{Limit}
use Rattle.sa_base.specs.declared.limit.Limit.TheVariants as l
use Rattle.sa_base.specs.declared.refusal.Code.{Code}
use Rattle.sa_base.specs.declared.refusal.Code.TheVariants as c

abbrev pub kind_word : Kind → List ℕ
kind_word k.Overflow = codes "overflow"
kind_word k.Division = codes "division"
kind_word k.Shift = codes "shift"
kind_word k.Index = codes "index"
kind_word k.Conversion = codes "conversion"
kind_word k.Assert = codes "assert"

abbrev pub limit_word : Limit → List ℕ
limit_word l.Source = codes "source"
limit_word l.Ranges = codes "ranges"
limit_word l.Tokens = codes "tokens"
limit_word l.Nesting = codes "nesting"
limit_word l.Cases = codes "cases"
limit_word l.Calls = codes "calls"
limit_word l.Statements = codes "statements"
limit_word l.Cells = codes "cells"

-- a letter for the layer that refuses (lexer, syntax, typing, unsupported), and a number
abbrev pub code_word : Code → List ℕ
code_word c.BadByte = codes "L1"
code_word c.BadNumber = codes "L2"
code_word c.OpenComment = codes "L3"
code_word c.Directive = codes "L4"
code_word c.Syntax = codes "S1"
code_word (c.Typing rule) = codes "T" ++ decimal rule
code_word c.Unsupported = codes "U1"
