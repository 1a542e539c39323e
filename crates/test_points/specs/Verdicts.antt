-- A comparison that is always true, never, or a relation of a form to 0, as a formula.
use Rattle.logic_meaning.specs.Formula.{Yes, No, One}
use Rattle.logic_meaning.specs.Form.{Form}
use Rattle.logic_meaning.specs.Atom.{Compare}
use Rattle.logic_meaning.specs.Tree.{Tree}
use Rattle.normal_atoms.specs.Atoms.{relation_of}
use Rattle.test_points.specs.declared.verdict.Verdict.{Verdict}
use Rattle.test_points.specs.declared.verdict.Verdict.TheVariants.{Always, Never, Holds}

-- the verdict on a form
abbrev pub verdict_tree : Verdict → Form → Tree
verdict_tree Always v = Yes
verdict_tree Never v = No
verdict_tree (Holds r) v = One (Compare (relation_of r) v)
