-- Where a number of the calculation of a concrete sample passes the limit.
use Rattle.std.specs.Prelude.{◌≡◌, ◌⊎◌, false, List, [], ◌∷◌, None}
use Rattle.logic_meaning.specs.Context.{Context}
use Rattle.logic_meaning.specs.Answer.{Answer}
use Rattle.logic_meaning.specs.Some.{SomeOf}
use Rattle.logic_meaning.specs.Tree.{Tree}
use Rattle.logic_meaning.specs.Answers.{Step}
use Rattle.linear_forms.specs.Values.{Numbers}
use Rattle.nnf_trees.specs.Placed.{all_within}
use Rattle.logic_meaning.specs.Calculated.{values_from}
use Rattle.case_theory.specs.Samples.{answer_steps}
use Rattle.engine_answers.specs.Points.{known_of, HasValuePastLimit}

-- a number that an atom of the step's branch forms at the step's place passes the limit
abbrev pub SubstitutionPasses : Context → Step → Type 0
SubstitutionPasses c s = all_within c s.name s.place s.branch ≡ false

-- all steps but the first
abbrev pub after_first : List Step → List Step
after_first [] = []
after_first (s ∷ rest) = rest

-- A number passes the limit: one of the point in lowest terms, one that is formed where an answer after the first one is put into its branch, or one
-- that is formed for the values. The first answer is put into no branch.
pub record CalculationPasses (c : Context) (answers : List Answer) (f : Tree) (at : Numbers) : Type 0 where
  pub cause : HasValuePastLimit at ⊎ (SomeOf (SubstitutionPasses c) (after_first (answer_steps c answers f)) ⊎ (values_from c (answer_steps c answers f) (known_of at) ≡ None))
