-- Equations among formulas.
use Rattle.std.specs.Prelude.{◌≡◌, ◌⊎◌}
use Rattle.logic_meaning.specs.Atom.{Compare, Equals}
use Rattle.logic_meaning.specs.Form.{Form}
use Rattle.logic_meaning.specs.Formula.{One, none, also}
use Rattle.logic_meaning.specs.Tree.{Tree, Trees}

-- the formula is an equation
abbrev pub IsEquation : Tree → Type 0
IsEquation f = (e : Form) × (f ≡ One (Compare Equals e))

-- one of the formulas is
abbrev pub HasEquation : Trees → Type 0
HasEquation none = ⊥
HasEquation (also f fs) = IsEquation f ⊎ HasEquation fs
