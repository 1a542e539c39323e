-- The steps that are chosen at a point are those of the formula with the point put in.
use Rattle.std.proofs.Common.{◌≡◌, ℕ, Bool, true, List, [], sym, ap, ◌∙◌, subst}
use Rattle.std.specs.Prelude.{Option, Result}
use Rattle.std.specs.declared.vec.Vec.{Vec}
use Rattle.std.specs.declared.alloc.Global.{Global}
use Rattle.logic_meaning.specs.Context.{Context}
use Rattle.logic_meaning.specs.Point.{Point, Of}
use Rattle.logic_meaning.specs.Sizes.{nodes}
use Rattle.logic_meaning.specs.Tree.{Tree}
use Rattle.formula_laws.proofs.NormalShape.{normal_form_shape}
use Rattle.logic_meaning.specs.NormalForm.{negated_normal}
use Rattle.logic_meaning.specs.Answers as meaning
use Rattle.logic_meaning.specs.Cases.{case_sign}
use Rattle.logic_meaning.specs.Measured.{Outcome, done, then_of, pay, within}
use Rattle.logic_meaning.specs.PutIn.{put_in, tree_put_within}
use Rattle.logic_meaning.specs.Reference.{branches, normal_tree}
use Rattle.logic_meaning.specs.Sample.{chosen_steps}
use Rattle.elimination_theory.proofs.PutMatrix.{normal_stays, put_shape, put_sign}
use Rattle.reference_engine.specs.declared.measured.Measured.{Measured}
use Rattle.reference_engine.specs.Told.{Told}
use Rattle.plain_samples.specs.declared.step.Step.{Step}
use Rattle.plain_samples.specs.First.{first_steps}
use Rattle.plain_samples.specs.Steps.{steps_seen}

module _ (c : Context) (limit : ℕ) (p : Point ℕ) (f : Tree) where
  -- what comes after the nodes are counted
  abbrev after_count : Outcome (Unit {0} × ℕ) → Outcome (Option (List meaning.Step) × ℕ)
  after_count o = first_steps (then_of o (λ r. then_of (within (tree_put_within c p [] (normal_tree f)) r.1) (λ s. branches c limit [] (case_sign (normal_tree f)) (put_in c p f) s.1)))

  module _ (n : ℕ) (paid : pay limit (nodes (normal_tree f)) 0 ≡ done (tt, n)) where
    -- and after the point is put in
    abbrev after_put : Bool → Outcome (Option (List meaning.Step) × ℕ)
    after_put b = first_steps (then_of (within b n) (λ s. branches c limit [] (case_sign (normal_tree f)) (put_in c p f) s.1))

    at_put : chosen_steps c limit p f ≡ after_put (tree_put_within c p [] (normal_tree f))
    at_put = ap after_count paid

    -- the steps of the formula with the point put in are those that are chosen
    pub told_chosen : Of c p → tree_put_within c p [] (normal_tree f) ≡ true → (g : Tree) (sign : Bool) (r : Result (Option (Vec Step Global)) Measured) (cost : ℕ) → g ≡ put_in c p f → sign ≡ case_sign g →
        Told steps_seen r cost (first_steps (branches c limit [] sign g n)) → Told steps_seen r cost (chosen_steps c limit p f)
    told_chosen o w g sign r cost e s h =
        let asked : sign ≡ case_sign (normal_tree f) = s ∙ ap case_sign e ∙ put_sign c p o [] (normal_tree f) in
        let same : first_steps (branches c limit [] sign g n) ≡ chosen_steps c limit p f
        = ap (λ b. first_steps (branches c limit [] b g n)) asked ∙ ap (λ t. first_steps (branches c limit [] (case_sign (normal_tree f)) t n)) e ∙ sym (at_put ∙ ap after_put w) in
        subst (Told steps_seen r cost) same h

-- the formula with the point put in is its own negation normal form
pub put_stays : (c : Context) (p : Point ℕ) (f : Tree) → Of c p → normal_tree (put_in c p f) ≡ put_in c p f
put_stays c p f o = normal_stays (put_in c p f) (put_shape c p o [] (normal_tree f) (normal_form_shape negated_normal f).0)
