-- What the statements of a script share: the theory, the names of variables in the order of their numbers, the formulas that names are
-- bound to, and the standing assumptions. Beside them, the answers of the commands inside the formula that is looked at.
use Rattle.std.specs.Prelude.{ℕ, List, [], Bool, true, false, if◌then◌else◌}
use Rattle.logic_meaning.specs.Context.{Context, Fields, Integers}
use Rattle.language_meaning.specs.declared.statement.Setting.{Setting}
use Rattle.language_meaning.specs.declared.statement.Setting.TheVariants.{Ofsf, Pasf}
use Rattle.logic_meaning.specs.Tree.{Tree}
use Rattle.logic_meaning.specs.Bindings.{bind}
use Rattle.language_meaning.specs.Resolving.{BoundTrees}
use Rattle.language_meaning.specs.Answers.{with_inner}

-- What one statement leaves to the next: theory, names, bound formulas, and standing assumptions. The answers are those of the commands inside a formula, in the
-- order of the text, while it is looked at; between statements there are none.
pub record State : Type 0 where
  pub context : Context
  pub names : List (List ℕ)
  pub bound : BoundTrees
  pub standing : List Tree
  pub answers : List Tree

-- what names stand for: the answers by their names, which no script can write, and what is bound
abbrev pub known : State → BoundTrees
known s = with_inner s.answers s.bound

-- the state with these names
abbrev pub with_names : State → List (List ℕ) → State
with_names s names = record s { names = names }

-- the state with these standing assumptions
abbrev pub with_standing : State → List Tree → State
with_standing s ts = record s { standing = ts }

-- the state with these answers of the commands inside a formula
abbrev pub with_answers : State → List Tree → State
with_answers s ts = record s { answers = ts }

-- a script begins over the ordered fields, without names and without assumptions
abbrev pub first_state : State
first_state = record { context = Fields; names = []; bound = []; standing = []; answers = [] }

-- the theory that a setting chooses: the ordered fields or the integers
abbrev pub theory_of : Setting → Context
theory_of Ofsf = Fields
theory_of Pasf = Integers

-- both are the ordered fields, or both are the integers
abbrev pub is_same_theory : Context → Context → Bool
is_same_theory Fields Fields = true
is_same_theory Fields Integers = false
is_same_theory Integers Fields = false
is_same_theory Integers Integers = true

-- the state where the theory is chosen: another one than before drops what is bound, what is assumed, and answers
abbrev pub chosen : State → Context → State
chosen s c = record s {
  context = c;
  bound = if is_same_theory s.context c then s.bound else [];
  standing = if is_same_theory s.context c then s.standing else [];
  answers = if is_same_theory s.context c then s.answers else [];
}

-- the state with the formula bound to the name
abbrev pub with_bound : State → List ℕ → Tree → State
with_bound s x t = record s { bound = bind s.bound x t }
