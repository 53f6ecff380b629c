-- What is known of operators on intervals.
use Rattle.sa_operators.proofs.FitLaws.{types_are_small, conversions_cover, conversions_stay}
use Rattle.sa_operators.proofs.OperatorCovers.{operators_cover, prefixes_cover}
use Rattle.sa_operators.proofs.OperatorStays.{own_type_suits, unsigned_suits, operators_stay, prefixes_stay}
use Rattle.sa_reference.proofs.ValueLaws.{OperatorFacts}

pub operator_facts : OperatorFacts
operator_facts = record {
  small = types_are_small;
  own = own_type_suits;
  unsigned = unsigned_suits;
  converts = conversions_cover;
  operates = operators_cover;
  prefixes = prefixes_cover;
  conversions_stay = conversions_stay;
  operators_stay = operators_stay;
  prefixes_stay = prefixes_stay;
}
