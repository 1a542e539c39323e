-- Commands inside formulas, answered one after the other in the order of their last tokens.
use Rattle.std.specs.Prelude.{◌≡◌, ◌⊎◌, ℕ, List, [], ◌∷◌, ◌++◌, length}
use Rattle.logic_meaning.specs.Tree.{Tree}
use Rattle.language_meaning.specs.Holes.{Nest, nest}
use Rattle.written_syntax.specs.LastTokens.{inside_count}
use Rattle.program_meaning.specs.declared.line.StatementError.{StatementError}
use Rattle.program_meaning.specs.State.{State, with_names, with_answers}
use Rattle.program_meaning.specs.Meaning.{Meaning}
use Rattle.program_meaning.specs.Causes.{IsFirst}
use Rattle.program_meaning.specs.Inside.{inner_use, inner_meaning, IsInnerAnswer}

-- what a command inside a formula means
abbrev pub nest_meaning : Nest → Meaning
nest_meaning (nest c ns) = inner_meaning c

-- the last answers are those of the commands inside the next one
pub record IsTaken (n : Nest) (answers before inside : List Tree) : Type 0 where
  pub are : answers ≡ before ++ inside
  pub count : length inside ≡ inside_count n

-- The command is answered with the formula, where the last answers are those of the commands inside it. The formula takes their place.
pub record IsStep (s : State) (limit : ℕ) (n : Nest) (answers : List Tree) (names : List (List ℕ)) (more : List Tree) (after : List (List ℕ)) : Type 0 where
  pub before : List Tree
  pub inside : List Tree
  pub taken : IsTaken n answers before inside
  pub given : Tree
  pub answered : IsInnerAnswer (nest_meaning n) (with_answers (with_names s names) inside) limit given after
  pub put : more ≡ before ++ given ∷ []

-- the command is refused with the word, where the last answers are those of the commands inside it
pub record IsHalted (s : State) (limit : ℕ) (n : Nest) (answers : List Tree) (names : List (List ℕ)) (e : StatementError) : Type 0 where
  pub before : List Tree
  pub inside : List Tree
  pub taken : IsTaken n answers before inside
  pub refused : IsFirst (nest_meaning n) (with_answers (with_names s names) inside) limit inner_use e

-- the commands are answered in this order, each such a step
abbrev pub Runs : State → ℕ → List Nest → List Tree → List (List ℕ) → List Tree → List (List ℕ) → Type 0
Runs s limit [] answers names more after = (more ≡ answers) × (after ≡ names)
Runs s limit (n ∷ ns) answers names more after = (next : List Tree) × (between : List (List ℕ)) × IsStep s limit n answers names next between × Runs s limit ns next between more after

-- some command is refused with the word, and those before it are answered
abbrev pub Halts : State → ℕ → List Nest → List Tree → List (List ℕ) → StatementError → Type 0
Halts s limit [] answers names e = ⊥
Halts s limit (n ∷ ns) answers names e = IsHalted s limit n answers names e ⊎ ((next : List Tree) × (between : List (List ℕ)) × IsStep s limit n answers names next between × Halts s limit ns next between e)
