-- The kit of normal atoms.
use Rattle.logic_meaning.specs.Context.{Context}
use Rattle.logic_meaning.specs.Atom.{Atom}
use Rattle.logic_meaning.specs.Same.{same_atom}
use Rattle.logic_meaning.specs.NormalForm.{negated_normal}
use Rattle.normal_atoms.specs.Computed.{merged, decided_by}
use Rattle.shape_theory.specs.Kit.{Kit}
use Rattle.logic_meaning.specs.Contained.{contains}

abbrev pub atom_kit : Context → Kit Atom
atom_kit c = record { merge = merged c; decides = decided_by c; opposite = negated_normal; contains = contains; same = same_atom }
