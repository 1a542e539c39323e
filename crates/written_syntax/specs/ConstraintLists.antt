-- Lists of comparisons.
use Rattle.std.specs.Prelude.{◌≡◌, true}
use Rattle.logic_meaning.specs.Formula.{none, also}
use Rattle.language_meaning.specs.Trees.{FormulaTrees}
use Rattle.language_meaning.specs.Constraints.{is_constraint, is_weak_constraint}

-- each of the formulas is one
abbrev pub AreConstraints : FormulaTrees → Type 0
AreConstraints none = Unit {0}
AreConstraints (also f fs) = (is_constraint f ≡ true) × AreConstraints fs

-- each of the formulas is one
abbrev pub AreWeakConstraints : FormulaTrees → Type 0
AreWeakConstraints none = Unit {0}
AreWeakConstraints (also f fs) = (is_weak_constraint f ≡ true) × AreWeakConstraints fs
