-- Formulas that are true nowhere, or everywhere, where the assumptions are.
use Rattle.std.proofs.Common.{List, [], ◌∷◌, map, sym, subst, ⊎_elim}
use Rattle.logic_meaning.specs.Formula.{Yes, No}
use Rattle.logic_meaning.specs.NegationNormal.{normal_form_of_not}
use Rattle.logic_meaning.specs.NormalForm.{negated_normal}
use Rattle.logic_meaning.specs.Tree.{Tree, TrueAt}
use Rattle.elimination_theory.specs.Theorems.{IsTidy}
use Rattle.elimination_theory.proofs.BothTheories.{decided}
use Rattle.elimination_theory.proofs.Tidy.{tidy_in}
use Rattle.normal_atoms.specs.Atoms.{context_of, atom_of}
use Rattle.formula_tree.specs.declared.shape.Shape.{Shape}
use Rattle.formula_tree.specs.Makers.{IsMade}
use Rattle.formula_store.specs.declared.id.FormulaId.{FormulaId}
use Rattle.formula_store.specs.Nodes.{tree, IsId}
use Rattle.branch_rounds.specs.declared.work.Work.{Work}
use Rattle.short_answers.specs.Asking.{NeverTogether}
use Rattle.short_answers.specs.Shorter.{IsSame}
use Rattle.short_answers.proofs.Licensed.{negation_true}

module _ (w : Work) (f : Tree) (nodes : List (Shape FormulaId)) (id : FormulaId) where
  pub nowhere_false : NeverTogether (context_of w.context) (map atom_of w.assumed.now) (f ∷ []) → IsMade (IsId nodes) (tree nodes) id No → IsSame w f nodes id
  nowhere_false never made =
      let c = context_of w.context in
      record {
        tidy = record { is = made.is; tidy = subst (IsTidy c) (sym made.same) (record { is_plain = tt; normal = tt; two_members = tt }) };
        same = λ p o k. (λ h. absurd (never p o k (h, tt)), λ no. absurd (subst (λ (g : Tree). TrueAt c g p) made.same no));
      }

  pub everywhere_true : IsTidy (context_of w.context) f → NeverTogether (context_of w.context) (map atom_of w.assumed.now) (normal_form_of_not negated_normal f ∷ []) → IsMade (IsId nodes) (tree nodes) id Yes → IsSame w f nodes id
  everywhere_true t never made =
      let c = context_of w.context in
      record {
        tidy = record { is = made.is; tidy = subst (IsTidy c) (sym made.same) (record { is_plain = tt; normal = tt; two_members = tt }) };
        same = λ p o k. (
          λ h. subst (λ (g : Tree). TrueAt c g p) (sym made.same) tt,
          λ yes. ⊎_elim (λ yes_f. yes_f) (λ not_f. absurd (never p o k (negation_true c f p t o not_f, tt))) (decided c f p (tidy_in c f t) o),
        );
      }
