-- What a search finds, as a verdict.
use Rattle.std.proofs.Common.{◌≡◌, ℕ, false, map, sym, subst}
use Rattle.std.proofs.Math.IntN.{pos}
use Rattle.std.specs.Prelude.{◌<ℤ◌}
use Rattle.std.specs.declared.vec.Vec.{Vec}
use Rattle.std.specs.declared.alloc.Global.{Global}
use Rattle.exact_numbers.specs.Frac.{Frac}
use Rattle.exact_numbers.specs.Fraction.{frac_of}
use Rattle.exact_numbers.specs.declared.fraction.Fraction.{Fraction}
use Rattle.logic_meaning.specs.Context.{Context}
use Rattle.logic_meaning.specs.Every.{Every}
use Rattle.logic_meaning.specs.NormalForm.{IsNormal, negated_normal}
use Rattle.logic_meaning.specs.Point.{Point, Of}
use Rattle.logic_meaning.specs.Quantified.{has_quantifier}
use Rattle.logic_meaning.specs.Reference.{normal_tree}
use Rattle.logic_meaning.specs.Shape.{IsQuantifierFree}
use Rattle.logic_meaning.specs.Tree.{Tree, TrueAt, IsFree}
use Rattle.formula_tree.specs.FromLinearForms.{Numbers, point_of}
use Rattle.formula_laws.proofs.NormalShape.{normal_form_quantifier_free}
use Rattle.elimination_theory.proofs.Sound.{normal_normal_tree}
use Rattle.normal_forms.proofs.Formed.{free_told}
use Rattle.clause_search.specs.Whole.{IsWholeInTheory}
use Rattle.engine_answers.proofs.Whole.{whole_where_asked}
use Rattle.sample_reference.specs.Leading.{under_names, AreWitnesses}
use Rattle.sample_reference.proofs.Witnesses.{every_under}
use Rattle.engine_answers.specs.declared.verdict.Verdict.TheVariants.{False, True}
use Rattle.searched_verdicts.specs.Settled.{Settles}
use Rattle.searched_verdicts.specs.Witnesses.{lowest_from}
use Rattle.searched_verdicts.proofs.UnderNames.{false_under}
use Rattle.searched_verdicts.proofs.LowestValues.{lowest_witness, lowest_true}

-- t is what stands under the names in f
module _ (c : Context) (count : ℕ) (f t : Tree) (normal : Every (IsNormal c) f) (under : (body : Tree) → f ≡ under_names 0 count body → t ≡ body) where
  body_normal : (body : Tree) → f ≡ under_names 0 count body → Every (IsNormal c) body
  body_normal body e = every_under (IsNormal c) 0 count body (subst (Every (IsNormal c)) e normal)

  pub matrix_normal : (body : Tree) → f ≡ under_names 0 count body → Every (IsNormal c) t
  matrix_normal body e = subst (Every (IsNormal c)) (sym (under body e)) (body_normal body e)

  -- g is its negation normal form
  module _ (g : Tree) (made : g ≡ normal_tree t) where
    pub form_free : has_quantifier t ≡ false → IsQuantifierFree g
    form_free e = subst IsQuantifierFree (sym made) (normal_form_quantifier_free negated_normal t (free_told t e)).0

    pub form_whole : (body : Tree) → f ≡ under_names 0 count body → IsWholeInTheory c g
    form_whole body e = λ d h of. whole_where_asked c g d (subst (Every (IsNormal c)) (sym made) (normal_normal_tree c 0 t (matrix_normal body e))) h of

  -- Where its normal form is true nowhere, f is false.
  pub nowhere_settles : ((p : Point ℕ) → Of c p → ¬ (TrueAt c (normal_tree t) p)) → Settles c count f False
  nowhere_settles none = λ limit body e.
      false_under c count body (body_normal body e) (subst (λ (b : Tree). (p : Point ℕ) → Of c p → ¬ (TrueAt c (normal_tree b) p)) (under body e) none)

  -- Where it is true at numbers, f is true with the values of the names there.
  pub point_settles : ((y : ℕ) → ¬ (IsFree f y)) → (at : Numbers) → pos 0 <ℤ at.denominator → Of c (point_of at) → TrueAt c (normal_tree t) (point_of at) → (vs : Vec Fraction Global) → map frac_of vs.items ≡ lowest_from at 0 count → Settles c count f (True vs)
  point_settles closed at positive of holds vs are = λ limit body e.
      let n = body_normal body e in
      let shut : (y : ℕ) → ¬ (IsFree (under_names 0 count body) y) = subst (λ (g : Tree). (y : ℕ) → ¬ (IsFree g y)) e closed in
      let there : TrueAt c (normal_tree body) (point_of at) = subst (λ (b : Tree). TrueAt c (normal_tree b) (point_of at)) (under body e) holds in
      (lowest_true c count body n shut at positive of there, subst (AreWitnesses c count body) (sym are) (lowest_witness c count body n shut at positive of there))
