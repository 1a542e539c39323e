-- Literals that are marked as failing, by the signs of their variables.
use Rattle.std.specs.Prelude.{◌≡◌, Bool, List, Option, Some, ◌⊎◌, slice_get}
use Rattle.logic_meaning.specs.Some.{EachOf}
use Rattle.clause_theory.specs.declared.clause.Literal.{Literal}
use Rattle.clause_theory.specs.declared.clause.Clause.{Clause}
use Rattle.clause_theory.specs.declared.failing.Left.{Left}
use Rattle.clause_theory.specs.declared.failing.Left.TheVariants.{Nothing, One, Several}
use Rattle.clause_theory.specs.Clauses.{FailsWith}

-- the literal is marked
abbrev pub IsMarked : List (Option Bool) → Literal → Type 0
IsMarked signs l = slice_get signs l.variable ≡ Some (Some l.holds)

-- none is marked
abbrev pub HasNone : List (Option Bool) → Type 0
HasNone signs = (l : Literal) → ¬ (IsMarked signs l)

-- all literals are marked, or all but one, or nothing is said
abbrev pub Leaves : List (Option Bool) → Left → List Literal → Type 0
Leaves signs Nothing ls = EachOf (IsMarked signs) ls
Leaves signs (One m) ls = EachOf (λ l. IsMarked signs l ⊎ (l ≡ m)) ls
Leaves signs Several ls = Unit {0}

-- each marked literal fails wherever the clauses hold and the literals all fail
abbrev pub AreSound : List Clause → List Literal → List (Option Bool) → Type 0
AreSound clauses ls signs = (l : Literal) → IsMarked signs l → FailsWith clauses ls l
