-- Two formulas of which neither is true without the other.
use Rattle.std.proofs.Common.{ℕ, List, [], ◌∷◌, ⊎_elim}
use Rattle.logic_meaning.specs.Context.{Context}
use Rattle.logic_meaning.specs.Point.{Point, Of}
use Rattle.logic_meaning.specs.Atom.{Atom}
use Rattle.logic_meaning.specs.NegationNormal.{normal_form_of_not}
use Rattle.logic_meaning.specs.NormalForm.{negated_normal}
use Rattle.logic_meaning.specs.Tree.{Tree, TrueAt}
use Rattle.shape_theory.specs.Simplifiable.{EquivalentUnder}
use Rattle.elimination_theory.specs.Theorems.{IsTidy}
use Rattle.elimination_theory.proofs.BothTheories.{decided}
use Rattle.elimination_theory.proofs.Tidy.{tidy_in}
use Rattle.elimination_theory.proofs.Turning.{normal_truths}
use Rattle.short_answers.specs.Asking.{NeverTogether, FollowsUnder}

-- a tidy formula that is not true makes its negation true
pub negation_true : (c : Context) (f : Tree) (p : Point ℕ) → IsTidy c f → Of c p → ¬ (TrueAt c f p) → TrueAt c (normal_form_of_not negated_normal f) p
negation_true c f p t o n = (normal_truths c f p (tidy_in c f t) o).1.0 n

-- where f is never true with the negation of g, g follows from f
pub follows : (c : Context) (ks : List Atom) (f g : Tree) → IsTidy c g → NeverTogether c ks (f ∷ normal_form_of_not negated_normal g ∷ []) → FollowsUnder c ks f g
follows c ks f g t never p o k h =
    ⊎_elim (λ yes_g. yes_g) (λ not_g. absurd (never p o k (h, (negation_true c g p t o not_g, tt)))) (decided c g p (tidy_in c g t) o)

-- where neither is true without the other, they have one truth
pub same_truth : (c : Context) (ks : List Atom) (f g : Tree) → FollowsUnder c ks f g → FollowsUnder c ks g f → EquivalentUnder c ks f g
same_truth c ks f g forth back p o k = (forth p o k, back p o k)
