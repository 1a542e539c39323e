-- Answers found one after the other: each name is put at a place in the branch that the steps before it left.
use Rattle.std.specs.Prelude.{ℕ, pos, List, [], ◌∷◌}
use Rattle.logic_meaning.specs.Answer.{Answer, Place, Exact}
use Rattle.logic_meaning.specs.Tree.{Tree}

-- a name put at a place in a branch
pub record Step : Type 0 where
  pub name : ℕ
  pub place : Place
  pub branch : Tree

-- the answer of a step: its name is put at its place
abbrev pub answer_of : Step → Answer
answer_of s = record { name = s.name; place = s.place }

-- the answers of the steps
abbrev pub answers_of : List Step → List Answer
answers_of [] = []
answers_of (s ∷ rest) = answer_of s ∷ answers_of rest

-- the place 0
abbrev pub zero_place : Place
zero_place = Exact (record { terms = []; constant = pos 0 }) 1
