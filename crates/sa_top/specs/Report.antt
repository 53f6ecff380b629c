-- The text of each refusal.
use Rattle.std.specs.Prelude.{ℕ, List, ◌++◌, codes}
use Rattle.std.specs.Fmt.{decimal}
use Rattle.sa_base.specs.declared.pos.Pos.{Pos}
use Rattle.sa_base.specs.declared.refusal.Code.{Code}
use Rattle.sa_base.specs.declared.limit.Limit.{Limit}
use Rattle.sa_base.specs.Words.{code_word, limit_word}
use Rattle.sa_base.specs.Numbers.{limit_number}
use Rattle.sa_report.specs.Report.{place_then, line_feed}

unfoldable pub refused_text : Code → Pos → List ℕ
refused_text code p = codes "source refused " ++ (code_word code ++ (codes " " ++ place_then p line_feed))

abbrev pub usage_text : List ℕ
usage_text = codes "usage: sa MODE NAMES [--jobs N] [--json]\n"

unfoldable pub limit_text : Limit → List ℕ
limit_text l = codes "limit " ++ (limit_word l ++ (codes " " ++ (decimal (limit_number l) ++ line_feed)))
