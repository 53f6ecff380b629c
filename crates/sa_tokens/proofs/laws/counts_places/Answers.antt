use Rattle.sa_tokens.proofs.PosLemmas.{each_place_is_counted}
use Rattle.sa_tokens.proofs.PlaceLaws.{each_token_stands}
use Rattle.sa_tokens.proofs.laws.counts_places.Goals as goal

pub returns : goal.returns
returns c = record { counted = each_place_is_counted; stands = each_token_stands }
