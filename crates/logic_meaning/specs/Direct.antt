-- Direct formulas over the fields: one quantifier over a conjunction of atoms, among them an equation in its name.
use Rattle.std.specs.Prelude.{◌≡◌, ℕ, ◌≤◌, Option, Some, None}
use Rattle.logic_meaning.specs.Context.{Fields}
use Rattle.logic_meaning.specs.Formula.{One, And, Ex, none, also}
use Rattle.logic_meaning.specs.Form.{Form, coefficient}
use Rattle.logic_meaning.specs.Atom.{Atom, Compare, Congruent, Equals, Differs, Below, AtMost, Above, AtLeast}
use Rattle.logic_meaning.specs.Some.{EachOf}
use Rattle.logic_meaning.specs.Sizes.{nodes}
use Rattle.logic_meaning.specs.Answer.{Place}
use Rattle.logic_meaning.specs.Tree.{Tree, Trees}
use Rattle.logic_meaning.specs.Atoms.{atoms_of}
use Rattle.logic_meaning.specs.Substitution.{where_zero}
use Rattle.logic_meaning.specs.Steps.{result_at}
use Rattle.logic_meaning.specs.NormalForm.{normal_atom}
use Rattle.logic_meaning.specs.LimitsWithin.{AtomFormsWithin}
use Rattle.logic_meaning.specs.Roots.{IsRoot}

-- each member is an atom
abbrev pub AreAtoms : Trees → Type 0
AreAtoms none = Unit {0}
AreAtoms (also (One a) fs) = AreAtoms fs
AreAtoms (also f fs) = ⊥

-- the form of the equation, where the atom is one in x
abbrev pub equation_of : ℕ → Atom → Option Form
equation_of x (Compare Equals e) = where_zero (coefficient x e) None (Some e)
equation_of x (Compare Differs e) = None
equation_of x (Compare Below e) = None
equation_of x (Compare AtMost e) = None
equation_of x (Compare Above e) = None
equation_of x (Compare AtLeast e) = None
equation_of x (Congruent holds n e) = None

-- the first that is there
abbrev pub first_of_two : Option Form → Option Form → Option Form
first_of_two (Some e) o = Some e
first_of_two None o = o

-- the form of the first member that is an equation in x
abbrev pub first_equation : ℕ → Trees → Option Form
first_equation x none = None
first_equation x (also (One a) fs) = first_of_two (equation_of x a) (first_equation x fs)
first_equation x (also f fs) = first_equation x fs

-- f is ex(x, ..) over the conjunction of the atoms fs, within the limit of nodes; s is the root of the first equation in x; and the
-- substitution there forms no number past the limit of exact_numbers
pub record IsDirect (limit : ℕ) (f : Tree) (x : ℕ) (fs : Trees) (s : Place) : Type 0 where
  pub is : f ≡ Ex x (And fs)
  pub few : nodes f ≤ limit
  pub atoms : AreAtoms fs
  pub equation : (e : Form) × (first_equation x fs ≡ Some e) × IsRoot Fields x e s
  pub within : EachOf (AtomFormsWithin Fields x s) (atoms_of (And fs))

-- the conjunction with x at the root
abbrev pub direct_answer : ℕ → Trees → Place → Tree
direct_answer x fs s = result_at Fields (normal_atom Fields) x s (And fs)
