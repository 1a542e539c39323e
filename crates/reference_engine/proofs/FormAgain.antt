-- The reference elimination of a formula is that of its negation normal form.
use Rattle.std.proofs.Common.{◌≡◌, ℕ, ap, ◌∙◌, true, []}
use Rattle.logic_meaning.specs.Context.{Context}
use Rattle.logic_meaning.specs.Point.{Point}
use Rattle.logic_meaning.specs.Sizes.{nodes}
use Rattle.logic_meaning.specs.Tree.{Tree}
use Rattle.formula_laws.proofs.NormalAgain.{normal_form_again}
use Rattle.logic_meaning.specs.NormalForm.{negated_normal}
use Rattle.logic_meaning.specs.Measured.{Outcome, done, then_of, pay, within}
use Rattle.logic_meaning.specs.PutIn.{tree_put, tree_put_within}
use Rattle.logic_meaning.specs.Sample.{reference_at}
use Rattle.logic_meaning.specs.Reference.{branches, together, normal_tree, reference}

pub normal_tree_again : (f : Tree) → normal_tree (normal_tree f) ≡ normal_tree f
normal_tree_again f = normal_form_again negated_normal f

module _ (c : Context) (limit : ℕ) where
  -- the elimination of a formula with this negation normal form
  abbrev from_form : Tree → Outcome (Tree × ℕ)
  from_form g = then_of (then_of (pay limit (nodes g) 0) (λ r. branches c limit [] true g r.1)) (λ r. done (together r.0, r.1))

  pub reference_along : (f g : Tree) → g ≡ normal_tree f → reference c limit g ≡ reference c limit f
  reference_along f g e = ap from_form (ap normal_tree e ∙ normal_tree_again f)

  -- the same at a point
  abbrev from_form_at : Point ℕ → Tree → Outcome (Tree × ℕ)
  from_form_at p g =
      then_of (then_of (pay limit (nodes g) 0) (λ r. then_of (within (tree_put_within c p [] g) r.1) (λ q. branches c limit [] true (tree_put c p [] g) q.1))) (λ r. done (together r.0, r.1))

  pub reference_at_along : (p : Point ℕ) (f g : Tree) → g ≡ normal_tree f → reference_at c limit p g ≡ reference_at c limit p f
  reference_at_along p f g e = ap (from_form_at p) (ap normal_tree e ∙ normal_tree_again f)
