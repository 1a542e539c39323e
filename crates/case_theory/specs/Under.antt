-- Answers that are found one after the other under assumptions that have none of the answered names.
use Rattle.std.specs.Prelude.{ℕ, ◌↔◌, List, [], ◌∷◌}
use Rattle.logic_meaning.specs.Context.{Context}
use Rattle.logic_meaning.specs.Point.{Point, Of}
use Rattle.logic_meaning.specs.Plain.{IsPlain}
use Rattle.logic_meaning.specs.Some.{EachOf}
use Rattle.logic_meaning.specs.Atom.{Atom, Mentions}
use Rattle.logic_meaning.specs.Answer.{Holds}
use Rattle.logic_meaning.specs.Tree.{Tree, TrueAt}
use Rattle.formula_laws.specs.Equivalence.{InContext}
use Rattle.elimination_theory.specs.Places.{IsPlaceFor, substitution}
use Rattle.logic_meaning.specs.Answers.{Step, answers_of}
use Rattle.shape_theory.specs.Simplifiable.{EquivalentUnder}
use Rattle.elimination_theory.specs.Theorems.{IsTidy}
use Rattle.case_theory.specs.PutThrough.{AreTrue, Fit}

-- none of the atoms has the name
abbrev pub Lack : List Atom → ℕ → Type 0
Lack ks x = EachOf (λ (k : Atom). ¬ (Mentions k x)) ks

-- the step makes g of its branch where the atoms ks are true, none of which has its name
pub record MakesUnder (c : Context) (ks : List Atom) (s : Step) (g : Tree) : Type 0 where
  pub suits : IsPlaceFor c s.name s.place s.branch
  pub is_plain : IsPlain s.branch
  pub in_context : InContext c s.branch
  pub equivalent : EquivalentUnder c ks (substitution c s.name s.place s.branch) g
  pub lack : Lack ks s.name

-- the steps lead from f to g, the last of the list first
abbrev pub LeadUnder : Context → List Atom → List Step → Tree → Tree → Type 0
LeadUnder c ks [] f g = EquivalentUnder c ks f g
LeadUnder c ks (s ∷ rest) f g = LeadUnder c ks rest f s.branch × MakesUnder c ks s g

-- Then the answers make f true exactly where g is true, at the points where the atoms are.
abbrev pub AnswersHoldUnder : Context → Type 0
AnswersHoldUnder c = (ks : List Atom) (steps : List Step) (f g : Tree) (p : Point ℕ) → LeadUnder c ks steps f g → Of c p → AreTrue ks p →
    Holds c (answers_of steps) f p ↔ TrueAt c g p

-- And their periods fit f, though each is a period of its branch alone.
abbrev pub AnswersFit : Context → Type 0
AnswersFit c = (ks : List Atom) (steps : List Step) (f g : Tree) → IsTidy c f → LeadUnder c ks steps f g → Fit c ks (answers_of steps) f
