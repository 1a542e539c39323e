-- The reference elimination at a point is that of the formula with the point put in.
use Rattle.std.proofs.Common.{◌≡◌, ◌⊎◌, inl, inr, ℕ, Bool, true, false, List, [], refl, sym, ap, ◌∙◌, subst, ◌↔◌}
use Rattle.std.specs.Prelude.{IsTrue}
use Rattle.logic_meaning.specs.Context.{Context}
use Rattle.logic_meaning.specs.Every.{Every}
use Rattle.logic_meaning.specs.Formula.{Yes, No}
use Rattle.logic_meaning.specs.Point.{Point, Of}
use Rattle.logic_meaning.specs.Sizes.{nodes}
use Rattle.logic_meaning.specs.Tree.{Tree, TrueAt}
use Rattle.formula_laws.proofs.NormalShape.{normal_form_shape}
use Rattle.logic_meaning.specs.NormalForm.{IsNormal, negated_normal, constant_tree}
use Rattle.logic_meaning.specs.Measured.{Outcome, done, then_of, pay, within}
use Rattle.formula_laws.specs.Giving.{Gives}
use Rattle.elimination_theory.specs.Theorems.{IsTold}
use Rattle.logic_meaning.specs.PutIn.{put_in, tree_put_within}
use Rattle.logic_meaning.specs.Reference.{Branch, together, branches, normal_tree, reference}
use Rattle.logic_meaning.specs.Sample.{reference_at}
use Rattle.elimination_theory.proofs.PutIn.{putting_in_exact}
use Rattle.elimination_theory.proofs.PutMatrix.{normal_stays, put_shape}
use Rattle.elimination_theory.proofs.Sample.{truth_told}

abbrev joined : Outcome (List Branch × ℕ) → Outcome (Tree × ℕ)
joined o = then_of o (λ r. done (together r.0, r.1))

module _ (c : Context) (limit : ℕ) (p : Point ℕ) (f : Tree) where
  -- what comes after the nodes are counted
  abbrev after_count : Outcome (Unit {0} × ℕ) → Outcome (Tree × ℕ)
  after_count o = joined (then_of o (λ r. then_of (within (tree_put_within c p [] (normal_tree f)) r.1) (λ s. branches c limit [] true (put_in c p f) s.1)))

  at_counted : reference_at c limit p f ≡ after_count (pay limit (nodes (normal_tree f)) 0)
  at_counted = refl

  module _ (n : ℕ) (paid : pay limit (nodes (normal_tree f)) 0 ≡ done (tt, n)) where
    -- and after the point is put in
    abbrev after_put : Bool → Outcome (Tree × ℕ)
    after_put b = joined (then_of (within b n) (λ s. branches c limit [] true (put_in c p f) s.1))

    at_put : reference_at c limit p f ≡ after_put (tree_put_within c p [] (normal_tree f))
    at_put = ap after_count paid

    pub reference_put : Every (IsNormal c) f → Of c p → tree_put_within c p [] (normal_tree f) ≡ true → reference_at c limit p f ≡ reference c limit (put_in c p f)
    reference_put h o w =
        let g = put_in c p f in
        let s : normal_tree g ≡ g = normal_stays g (put_shape c p o [] (normal_tree f) (normal_form_shape negated_normal f).0) in
        let k : nodes g ≡ nodes (normal_tree f) = (putting_in_exact c f p h o).same_nodes in
        at_put ∙ ap after_put w
        ∙ sym (ap (λ t. joined (then_of (pay limit (nodes t) 0) (λ r. branches c limit [] true t r.1))) s
        ∙ ap (λ m. joined (then_of (pay limit m 0) (λ r. branches c limit [] true g r.1))) k
        ∙ ap (λ q. joined (then_of q (λ r. branches c limit [] true g r.1))) paid)

-- ---- the answer is a constant, and tells the truth

false_is_not_true : false ≡ true → ⊥
false_is_not_true e = cc

constant_told : (t : Tree) (b : Bool) {P : Type 0} → (IsTrue b ↔ (t ≡ Yes)) → ((t ≡ Yes) × P) ⊎ ((t ≡ No) × ¬ P) → (IsTrue b ↔ P) × (t ≡ constant_tree b)
constant_told t true h (inl k) = ((λ u. k.1, λ u. refl), k.0)
constant_told t true h (inr k) = let x : No ≡ Yes = sym k.0 ∙ h.0 refl in absurd (cc)
constant_told t false h (inl k) = absurd (false_is_not_true (h.1 k.0))
constant_told t false h (inr k) = ((λ u. absurd (false_is_not_true u), λ u. absurd (k.1 u)), k.0)

pub answer_told : (c : Context) (limit : ℕ) (p : Point ℕ) (f t : Tree) (b : Bool) (cost : ℕ) → Every (IsNormal c) f → Of c p → reference_at c limit p f ≡ done (t, cost) → (IsTrue b ↔ (t ≡ Yes)) →
    (IsTrue b ↔ TrueAt c f p) × (t ≡ constant_tree b)
answer_told c limit p f t b cost h o e i = constant_told t b i (subst (Gives (λ (r : Tree × ℕ). IsTold c f p r.0)) e (truth_told c limit f p h o))
