-- No promise of the top calls rests on this page: it is for laws beside them, for proofs and for inner functions.
-- Why a source has no program, and what that says of it.
use Rattle.std.specs.Prelude.{ℕ, List, ⊤}
use Rattle.sa_base.specs.declared.refusal.Code.TheVariants as code
use Rattle.sa_base.specs.declared.limit.Limit.TheVariants.{Tokens, Nesting}
use Rattle.sa_base.specs.declared.status.Status.TheVariants as s
use Rattle.sa_tokens.specs.declared.fault.TokenFault.{TokenFault}
use Rattle.sa_tokens.specs.declared.fault.TokenFault.TheVariants as t
use Rattle.sa_parser.specs.declared.fault.ParseFault.{ParseFault}
use Rattle.sa_parser.specs.declared.fault.ParseFault.TheVariants as p
use Rattle.sa_typer.specs.declared.fault.TypeFault.{TypeFault}
use Rattle.sa_typer.specs.declared.fault.TypeFault.TheVariants as u
use Rattle.sa_top.specs.declared.source.Rejection.{Rejection}
use Rattle.sa_top.specs.declared.source.Rejection.TheVariants.{Refused, Above, NoMemory}
use Rattle.sa_top.specs.Answer.{SourceAnswer}
use Rattle.sa_top.specs.Report.{refused_text, limit_text}

abbrev pub by_tokens : TokenFault → Rejection
by_tokens (t.BadByte at) = Refused (record { code = code.BadByte; pos = at })
by_tokens (t.BadNumber at) = Refused (record { code = code.BadNumber; pos = at })
by_tokens (t.OpenComment at) = Refused (record { code = code.OpenComment; pos = at })
by_tokens (t.Directive at) = Refused (record { code = code.Directive; pos = at })
by_tokens t.TooManyTokens = Above Tokens
by_tokens t.OutOfMemory = NoMemory

abbrev pub by_parser : ParseFault → Rejection
by_parser (p.Syntax at) = Refused (record { code = code.Syntax; pos = at })
by_parser (p.TooDeep at) = Above Nesting
by_parser p.OutOfMemory = NoMemory

abbrev pub by_typer : TypeFault → Rejection
by_typer (u.Refused r) = Refused r
by_typer (u.TooMany l) = Above l
by_typer u.OutOfMemory = NoMemory

-- the line that a rejection is answered with is an answer to the source
abbrev pub IsRejected : List ℕ → Rejection → Type 0
IsRejected source (Refused r) = SourceAnswer source s.SourceRefused (refused_text r.code r.pos)
IsRejected source (Above l) = SourceAnswer source s.Limit (limit_text l)
IsRejected source NoMemory = ⊤
