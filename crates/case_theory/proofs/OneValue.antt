-- The calculated value of a place makes true what the place makes true: over the integers no period is asked to fit.
use Rattle.std.proofs.Common.{ℕ, [], ◌∷◌, subst, sym, nat_eq}
use Rattle.logic_meaning.specs.Context.{Context, Fields, Integers}
use Rattle.logic_meaning.specs.Point.{Point, Of, move}
use Rattle.logic_meaning.specs.Answer.{Place, Exact, AboveBy, BelowBy, PlusInfinity, MinusInfinity, Periodic}
use Rattle.logic_meaning.specs.Tree.{Tree, TrueAt}
use Rattle.formula_laws.proofs.EachAtom.{every_all}
use Rattle.elimination_theory.specs.IntegersTheorems.{Suits}
use Rattle.logic_meaning.specs.BothTheories.{IsPlaceIn}
use Rattle.logic_meaning.specs.PutIn.{tree_put}
use Rattle.case_theory.proofs.ClassSample.{class_sample_true}
use Rattle.sample_reference.proofs.OneValue.{TruthAtSample, put_holds, sample_value, value_from, fields_truth, integers_truth}
use Rattle.case_theory.specs.Samples.{ValueIsTrue, ValueIsSample}

class_truth : (x : ℕ) (s : Place) (t : Tree) (p : Point ℕ) → Of Integers p → IsPlaceIn Integers s → TruthAtSample Integers x p s t
class_truth x (Exact e l) t p o place = integers_truth x (Exact e l) t p o place (every_all (Suits x (Exact e l)) (λ a. tt) t)
class_truth x (Periodic j q) t p o place = λ plain inside holds k m a sample.
    subst (λ (n : ℕ). TrueAt Integers t (move nat_eq p x k n)) (sym a) (class_sample_true x j q t p k place plain inside o holds sample)
class_truth x (AboveBy e l) t p o place = absurd place
class_truth x (BelowBy e l) t p o place = absurd place
class_truth x PlusInfinity t p o place = absurd place
class_truth x MinusInfinity t p o place = absurd place

pub value_true : (c : Context) → ValueIsTrue c
value_true Fields x s f p r place plain inside o holds h = value_from Fields x s f p r o place plain inside holds h (fields_truth x s (tree_put Fields p (x ∷ []) f) p o place)
value_true Integers x s f p r place plain inside o holds h = value_from Integers x s f p r o place plain inside holds h (class_truth x s (tree_put Integers p (x ∷ []) f) p o place)

pub value_sample : (c : Context) → ValueIsSample c
value_sample c x s f p r place plain inside o holds h = (sample_value c x s f p r o place plain inside (put_holds c x p o s f place inside holds) h).1
