-- Conditions that are shortened.
use Rattle.std.proofs.Common.{◌≡◌, ℕ, List, inl, inr, ◌∙◌, arith}
use Rattle.std.specs.Prelude.{Result, Ok, Err, IfOk}
use Rattle.logic_meaning.specs.Atom.{Atom}
use Rattle.logic_meaning.specs.Context.{Context}
use Rattle.logic_meaning.specs.Direct.{direct_answer}
use Rattle.logic_meaning.specs.Tree.{Tree}
use Rattle.formula_tree.specs.declared.shape.Shape.{Shape}
use Rattle.formula_store.specs.declared.id.FormulaId.{FormulaId}
use Rattle.formula_store.specs.Nodes.{tree, IsId}
use Rattle.formula_store.proofs.Numbers.{numbers_are_within}
use Rattle.shape_theory.proofs.Limited.{simplifiable}
use Rattle.case_theory.proofs.Simplified.{plain_free, reduced_tidy}
use Rattle.case_theory.proofs.Under.{under_turn, under_then}
use Rattle.short_answers.specs.Asking.{IsTidyId}
use Rattle.short_answers.specs.Shorter.{IsConstant, IsShort}
use Rattle.form_commands.specs.Conditions.{IsConditionFor, IsConditionByCases, IsNoLargerOrFalse}
use Rattle.form_commands.proofs.CaseLemmas.{guard_orderly}

module _ (c : Context) (ks : List Atom) (limit : ℕ) (f : Tree) where
  -- a condition can be shortened
  pub condition_tidy : (nodes : List (Shape FormulaId)) (id : FormulaId) → IsId nodes id → IsConditionFor c ks limit f (tree nodes id) → IsTidyId c nodes id
  condition_tidy nodes id is h = record { is = is; tidy = reduced_tidy c ks (tree nodes id) (simplifiable c (tree nodes id) h.orderly (numbers_are_within nodes id is)) h.free h.reduced }

  -- and is one again
  pub shortened_condition : (t : Tree) (nodes : List (Shape FormulaId)) (r : FormulaId) → IsConditionByCases c ks limit f t → IsShort c ks t nodes r → (IsConstant t → tree nodes r ≡ t) → IsConditionByCases c ks limit f (tree nodes r)
  shortened_condition t nodes r h s same =
      let g = tree nodes r in
      record {
        condition = record {
          free = plain_free c g s.worked.tidy.is_plain;
          names = λ x u. h.condition.names x (s.worked.names x u);
          reduced = s.reduced h.condition.reduced;
          truth = under_then c ks g t f (under_turn c ks t g s.worked.equivalent) h.condition.truth;
          small = let fewer = s.never_larger.nodes in let few = h.condition.small in omega arith;
          orderly = guard_orderly c g s.worked.tidy;
          normal = s.worked.tidy.normal;
        };
        direct = λ x fs at fields d.
            elim (h.direct x fs at fields d) as (λ _. IsNoLargerOrFalse f (direct_answer x fs at) g) [
              | inl n ↦
                  inl (record {
                    nodes = let fewer = s.never_larger.nodes in let few = n.nodes in omega arith;
                    text = λ names some within. let shorter = s.never_larger.text names in let short = n.text names some within in omega arith;
                  })
              | inr e ↦ inr (same (inr e) ∙ e)
            ];
      }

-- so it is for each formula that it is a condition for
pub shortened_told : {E : Type 0} (c : Context) (ks : List Atom) (limit : ℕ) (H : Tree → Type 0) (t : Tree) (nodes : List (Shape FormulaId)) (r : Result FormulaId E) → ((f : Tree) → H f → IsConditionByCases c ks limit f t) →
    IfOk r (IsShort c ks t nodes) → IfOk r (λ id. IsConstant t → tree nodes id ≡ t) → IfOk r (λ id. (f : Tree) → H f → IsConditionByCases c ks limit f (tree nodes id))
shortened_told c ks limit H t nodes (Ok id) h s same = λ f a. shortened_condition c ks limit f t nodes id (h f a) s same
shortened_told c ks limit H t nodes (Err e) h s same = tt
