use Rattle.linear_theory.proofs.Sound.{search_sound}
use Rattle.linear_theory.proofs.search_is_sound.Goals as goal

pub returns : goal.returns
returns c = search_sound
