use Rattle.service_laws.proofs.Admissions.{own_places_are_kept}
use Rattle.service_laws.proofs.laws.own_places_are_kept.Goals as goal

pub returns : goal.returns
returns c = own_places_are_kept
