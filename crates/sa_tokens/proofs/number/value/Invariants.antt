use Rattle.std.proofs.Common.{◌≡◌, ◌≤◌, ◌^◌, ◌-◌, drop}
use Rattle.sa_tokens.specs.Words.{value_of}
use Rattle.sa_tokens.proofs.NumberLemmas.{digits_from}
use Rattle.sa_tokens.proofs.number.value.Given as goal

abbrev pub invariant-loop-d : goal.invariant-loop-d
invariant-loop-d l = record {
  small : l.value ≤ 2 ^ 64 - 1;
  rest : digits_from l.radix l.value (drop l.d-index l.digits) ≡ value_of l.radix l.digits;
}
