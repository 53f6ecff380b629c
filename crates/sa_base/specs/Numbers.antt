-- The numbers of the tables: ranges of types, limits, exit statuses.
use Rattle.std.specs.Prelude.{ℕ, ◌^◌, ◌-◌, ℤ, pos, negsuc}
use Rattle.sa_base.specs.declared.num.Num.{Num}
use Rattle.sa_base.specs.declared.num.Num.TheVariants.{I8, U8, I16, U16, I32, U32, I64, U64}
use Rattle.sa_base.specs.declared.limit.Limit.{Limit}
use Rattle.sa_base.specs.declared.limit.Limit.TheVariants as l
use Rattle.sa_base.specs.declared.status.Status.{Status}
use Rattle.sa_base.specs.declared.status.Status.TheVariants as s

-- the least value of a type, in two's complement (ISO C 6.2.6.2); `negsuc n` is -n - 1
abbrev pub num_lo : Num → ℤ
num_lo I8 = negsuc (2 ^ 7 - 1)
num_lo I16 = negsuc (2 ^ 15 - 1)
num_lo I32 = negsuc (2 ^ 31 - 1)
num_lo I64 = negsuc (2 ^ 63 - 1)
num_lo U8 = pos 0
num_lo U16 = pos 0
num_lo U32 = pos 0
num_lo U64 = pos 0

-- the greatest value of a type
abbrev pub num_hi : Num → ℤ
num_hi I8 = pos (2 ^ 7 - 1)
num_hi U8 = pos (2 ^ 8 - 1)
num_hi I16 = pos (2 ^ 15 - 1)
num_hi U16 = pos (2 ^ 16 - 1)
num_hi I32 = pos (2 ^ 31 - 1)
num_hi U32 = pos (2 ^ 32 - 1)
num_hi I64 = pos (2 ^ 63 - 1)
num_hi U64 = pos (2 ^ 64 - 1)

-- the greatest count that is accepted
abbrev pub limit_number : Limit → ℕ
limit_number l.Source = 4194304
limit_number l.Ranges = 4194304
limit_number l.Tokens = 1000000
limit_number l.Nesting = 200
limit_number l.Cases = 1024
limit_number l.Calls = 64
limit_number l.Statements = 200000
limit_number l.Cells = 65536

-- the exit status of the program
abbrev pub status_number : Status → ℕ
status_number s.Clean = 0
status_number s.Alarmed = 1
status_number s.Usage = 2
status_number s.SourceRefused = 3
status_number s.RangesRefused = 4
status_number s.ReadFault = 5
status_number s.WriteFault = 6
status_number s.Limit = 7
status_number s.OutOfMemory = 8
