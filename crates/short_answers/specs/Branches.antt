-- What the branches of a block of all names say.
use Rattle.std.specs.Prelude.{◌≡◌, List, reverse}
use Rattle.logic_meaning.specs.Formula.{No}
use Rattle.logic_meaning.specs.Some.{EachOf, SomeOf}
use Rattle.formula_tree.specs.declared.shape.Shape.{Shape}
use Rattle.formula_store.specs.declared.id.FormulaId.{FormulaId}
use Rattle.formula_store.specs.Nodes.{tree}
use Rattle.branch_rounds.specs.Branches.{Seen}
use Rattle.short_answers.specs.declared.answer.Answer.{Answer}
use Rattle.short_answers.specs.declared.answer.Answer.TheVariants.{Nowhere, At, Unknown}

-- each branch is false, or the points are those of some branch, the last one first
abbrev pub IsToldBy : List (Shape FormulaId) → List Seen → Answer → Type 0
IsToldBy nodes bs Nowhere = EachOf (λ (b : Seen). tree nodes b.formula ≡ No) bs
IsToldBy nodes bs (At points) = SomeOf (λ (b : Seen). points.items ≡ reverse b.points) bs
IsToldBy nodes bs Unknown = Unit {0}
