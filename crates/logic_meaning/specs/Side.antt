-- The two sides from which test points are taken: the lower ends of the intervals on which a formula is true, or the
-- upper ends. The upper side is the mirror image of the lower.
use Rattle.logic_meaning.specs.Atom.{Relation, mirrored}
use Rattle.logic_meaning.specs.declared.side.Side.{Side}
use Rattle.logic_meaning.specs.declared.side.Side.TheVariants.{Lower, Upper}

-- the relation as the side sees it
abbrev pub turned : Side → Relation → Relation
turned Lower r = r
turned Upper r = mirrored r
