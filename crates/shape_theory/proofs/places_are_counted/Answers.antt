use Rattle.shape_theory.proofs.Places.{places_counted}
use Rattle.shape_theory.proofs.Counts.{sizes_plain, few_decide}
use Rattle.shape_theory.proofs.places_are_counted.Goals as goal

pub returns : goal.returns
returns c = record { places = places_counted; sizes = sizes_plain; few = few_decide }
