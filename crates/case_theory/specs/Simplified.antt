-- Tidy formulas and those that are simplified under assumptions.
use Rattle.std.specs.Prelude.{List}
use Rattle.exact_numbers.specs.Limit.{InLimit}
use Rattle.logic_meaning.specs.Context.{Context}
use Rattle.logic_meaning.specs.Every.{Every}
use Rattle.logic_meaning.specs.Atom.{Atom, form_of}
use Rattle.logic_meaning.specs.Shape.{IsQuantifierFree}
use Rattle.logic_meaning.specs.Tree.{Tree}
use Rattle.logic_meaning.specs.Trees.{IsReduced}
use Rattle.shape_theory.specs.Simplifiable.{IsSimplifiable, AreAssumable, simplified_under}
use Rattle.elimination_theory.specs.Theorems.{IsTidy}
use Rattle.case_theory.specs.Worked.{IsWorked}

-- the constant of each atom is within the limit of exact_numbers
abbrev pub HasConstantsWithin : Tree → Type 0
HasConstantsWithin f = Every (λ (a : Atom). InLimit (form_of a).constant) f

-- A tidy formula can be simplified,
abbrev pub TidyIsSimplifiable : Context → Type 0
TidyIsSimplifiable c = (f : Tree) → IsTidy c f → HasConstantsWithin f → IsSimplifiable c f

-- what is reduced is tidy, if no quantifier stands in it,
abbrev pub ReducedIsTidy : Context → Type 0
ReducedIsTidy c = (ks : List Atom) (f : Tree) → IsSimplifiable c f → IsQuantifierFree f → IsReduced c f ks → IsTidy c f

-- and so simplifying is one way to work on a tidy formula under the assumptions.
abbrev pub SimplifyingIsWork : Context → Type 0
SimplifyingIsWork c = (ks : List Atom) (f : Tree) → AreAssumable c ks → IsTidy c f → HasConstantsWithin f → IsWorked c ks f (simplified_under c ks f)
