-- Negation: what a formula becomes, its negation becomes the negation of.
use Rattle.std.proofs.Common.{ℕ, ⊎_elim, ◌↔◌}
use Rattle.logic_meaning.specs.Context.{Context}
use Rattle.logic_meaning.specs.Point.{Point, Of}
use Rattle.logic_meaning.specs.Every.{Every}
use Rattle.logic_meaning.specs.Atom.{Mentions}
use Rattle.formula_laws.specs.TheoryAtoms.{AtomIn}
use Rattle.logic_meaning.specs.NegationNormal.{normal_form_of_not}
use Rattle.logic_meaning.specs.Tree.{Tree, TrueAt, IsFree}
use Rattle.formula_laws.specs.Equivalence.{InContext, IsNegation}
use Rattle.formula_laws.proofs.EachAtom.{every_map, every_all}
use Rattle.formula_laws.proofs.Iff.{both_ways, turn_round, not_iff}
use Rattle.formula_laws.proofs.NormalShape.{normal_form_every, normal_form_brings, normal_form_keeps}
use Rattle.elimination_theory.proofs.BothTheories.{decided, normal_form_true}
use Rattle.logic_meaning.specs.NormalForm.{IsNormal, negated_normal}
use Rattle.normal_atoms.proofs.NormalLaws.{normal_in, negated_within, negated_truth, negated_names}
use Rattle.logic_meaning.specs.Reference.{normal_tree}
use Rattle.elimination_theory.specs.Theorems.{IsAnswerTo}
use Rattle.elimination_theory.proofs.Tidy.{tidy_in, tidy_turned}

module _ (c : Context) where
  pub normal_inside : (f : Tree) → Every (IsNormal c) f → InContext c f
  normal_inside f n = every_map (IsNormal c) (AtomIn c) (normal_in c) f n

  -- the negation normal forms of a formula and of its negation
  pub normal_truths : (f : Tree) (p : Point ℕ) → InContext c f → Of c p →
      (TrueAt c f p ↔ TrueAt c (normal_tree f) p) × (¬ (TrueAt c f p) ↔ TrueAt c (normal_form_of_not negated_normal f) p)
  normal_truths f p i o = normal_form_true c negated_normal f p i (every_map (AtomIn c) (λ a. IsNegation c a (negated_normal a)) (λ a h. negated_truth c a h) f i) o

  pub turned_brings : (f : Tree) (y : ℕ) → (IsFree (normal_tree f) y → IsFree f y) × (IsFree (normal_form_of_not negated_normal f) y → IsFree f y)
  turned_brings f y = normal_form_brings negated_normal Mentions y f (every_all _ (λ a. (negated_names a y).0) f)

  pub normal_tree_inside : (f : Tree) → Every (IsNormal c) f → InContext c (normal_tree f)
  normal_tree_inside f n = (normal_form_every negated_normal (AtomIn c) f (every_map (IsNormal c) (λ a. AtomIn c a × AtomIn c (negated_normal a)) (λ a h. (normal_in c a h, negated_within c a (normal_in c a h))) f n)).0

  pub turned_keeps : (f : Tree) (y : ℕ) → (IsFree f y → IsFree (normal_tree f) y) × (IsFree f y → IsFree (normal_form_of_not negated_normal f) y)
  turned_keeps f y = normal_form_keeps negated_normal Mentions y f (every_all _ (λ a. (negated_names a y).1) f)

  -- k is the negation of h
  turn : (h k g : Tree) → ((p : Point ℕ) → Of c p → TrueAt c k p ↔ ¬ (TrueAt c h p)) → ((y : ℕ) → IsFree h y → IsFree k y) → IsAnswerTo c h g → IsAnswerTo c k (normal_form_of_not negated_normal g)
  turn h k g negates names a =
      let tidy = tidy_turned c g a.tidy in
      record {
        eliminated = record {
          is_plain = tidy.is_plain;
          in_context = tidy_in c _ tidy;
          equivalent = λ p o. both_ways (negates p o) (both_ways (not_iff (a.eliminated.equivalent p o)) (normal_truths g p a.eliminated.in_context o).1);
          names = λ y t. names y (a.eliminated.names y ((turned_brings g y).1 t));
        };
        tidy = tidy;
      }

  -- from a formula to its negation,
  pub turn_forth : (h g : Tree) → Every (IsNormal c) h → IsAnswerTo c h g → IsAnswerTo c (normal_form_of_not negated_normal h) (normal_form_of_not negated_normal g)
  turn_forth h g n a = turn h (normal_form_of_not negated_normal h) g (λ p o. turn_round (normal_truths h p (normal_inside h n) o).1) (λ y. (turned_keeps h y).1) a

  -- and back
  pub turn_back : (h g : Tree) → Every (IsNormal c) h → IsAnswerTo c (normal_form_of_not negated_normal h) g → IsAnswerTo c h (normal_form_of_not negated_normal g)
  turn_back h g n a =
      let i = normal_inside h n in
      turn (normal_form_of_not negated_normal h) h g
      (λ p o. let e = (normal_truths h p i o).1 in (λ t u. e.1 u t, λ m. ⊎_elim (λ t. t) (λ u. absurd (m (e.0 u))) (decided c h p i o)))
      (λ y. (turned_brings h y).1) a

  -- what the negation normal form becomes, the formula becomes
  pub from_normal : (f g : Tree) → Every (IsNormal c) f → IsAnswerTo c (normal_tree f) g → IsAnswerTo c f g
  from_normal f g n a = record {
    eliminated = record {
      is_plain = a.eliminated.is_plain;
      in_context = a.eliminated.in_context;
      equivalent = λ p o. both_ways (normal_truths f p (normal_inside f n) o).0 (a.eliminated.equivalent p o);
      names = λ y t. (turned_brings f y).0 (a.eliminated.names y t);
    };
    tidy = a.tidy;
  }
