-- The reference elimination as a way to such cases: where another way passes a limit, its cases are taken.
use Rattle.std.specs.Prelude.{◌≡◌, ℕ, List, Option, Some, None}
use Rattle.logic_meaning.specs.Context.{Context}
use Rattle.logic_meaning.specs.Every.{Every}
use Rattle.logic_meaning.specs.Atom.{Atom}
use Rattle.logic_meaning.specs.Tree.{Tree}
use Rattle.formula_laws.specs.Equivalence.{Equivalent}
use Rattle.logic_meaning.specs.Measured.{Stop, Outcome, stopped, done}
use Rattle.formula_laws.specs.Giving.{Gives}
use Rattle.logic_meaning.specs.NormalForm.{IsNormal}
use Rattle.logic_meaning.specs.Reference.{reference}
use Rattle.logic_meaning.specs.Cases.{case_matrix, reference_cases}
use Rattle.elimination_theory.specs.Theorems.{IsTidy}
use Rattle.case_theory.specs.CaseTree.{IsCaseTree}

-- The cases of the reference are such a case tree under every theory, with every tidy matrix that is equivalent to the case matrix.
abbrev pub ReferenceIsCaseTree : Context → Type 0
ReferenceIsCaseTree c = (limit : ℕ) (theory : List Atom) (f matrix : Tree) → Every (IsNormal c) f → IsTidy c matrix → Equivalent c (case_matrix f) matrix →
    Gives (λ r. IsCaseTree c theory f matrix r.0) (reference_cases c limit f)

-- The case matrix has normal atoms where the formula has,
abbrev pub MatrixIsNormal : Context → Type 0
MatrixIsNormal c = (f : Tree) → Every (IsNormal c) f → Every (IsNormal c) (case_matrix f)

-- and so the reference gives a matrix for its cases, where it gives both.
abbrev pub ReferenceGivesMatrix : Context → Type 0
ReferenceGivesMatrix c = (limit : ℕ) (theory : List Atom) (f : Tree) → Every (IsNormal c) f →
    Gives (λ r. Gives (λ m. IsCaseTree c theory f m.0 r.0) (reference c limit (case_matrix f))) (reference_cases c limit f)

-- what stops it, if something does
abbrev pub stop_of : {A : Type 0} → Outcome A → Option Stop
stop_of (stopped s) = Some s
stop_of (done a) = None

-- the computation has a result
abbrev pub IsDone : {A : Type 0} → Outcome A → Type 0
IsDone (stopped s) = ⊥
IsDone (done a) = Unit {0}

-- Where the reference gives cases it can eliminate the case matrix too, within the same limit.
abbrev pub MatrixIsDone : Context → Type 0
MatrixIsDone c = (limit : ℕ) (f : Tree) → Every (IsNormal c) f → IsDone (reference_cases c limit f) → IsDone (reference c limit (case_matrix f))

-- The case list and the formula without quantifiers stop with the same word, if at all.
abbrev pub StopsAreOne : Context → Type 0
StopsAreOne c = (limit : ℕ) (f : Tree) → stop_of (reference_cases c limit f) ≡ stop_of (reference c limit f)
