use Rattle.std.proofs.Common.{◌∷◌, refl, ap, sym}
use Rattle.std.specs.Prelude.{reverse}
use Rattle.language_meaning.specs.Levels.{groups, outside}
use Rattle.redlog_tokens.proofs.level.Levels.new.Goals as goal

pub returns-clause-levels : goal.returns-clause-levels
unfolding groups
returns-clause-levels c = record { open_groups = ap (λ gs. outside ∷ reverse gs) (sym c.new.ensures.items); run = refl; held = refl }
