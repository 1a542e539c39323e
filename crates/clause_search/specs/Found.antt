-- What a search says of a formula.
use Rattle.logic_meaning.specs.Context.{Context}
use Rattle.logic_meaning.specs.Point.{Point, Of}
use Rattle.std.specs.Prelude.{ℕ}
use Rattle.logic_meaning.specs.Tree.{Tree, TrueAt}
use Rattle.formula_tree.specs.FromLinearForms.{point_of}
use Rattle.clause_search.specs.declared.searching.Found.{Found as Answer}
use Rattle.clause_search.specs.declared.searching.Found.TheVariants.{Point as At, Nowhere, Unknown}

-- the formula is true at the point, which is one of the theory; or at no point of the theory; or nothing is said
abbrev pub IsFound : Context → Tree → Answer → Type 0
IsFound c f (At values) = Of c (point_of values) × TrueAt c f (point_of values)
IsFound c f Nowhere = (p : Point ℕ) → Of c p → ¬ (TrueAt c f p)
IsFound c f Unknown = Unit {0}
