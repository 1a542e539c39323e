-- Formulas worked on under assumptions: lists and negations.
use Rattle.std.proofs.Common.{ℕ, List, inl, inr, ⊎_elim, ◌↔◌, nat_eq}
use Rattle.logic_meaning.specs.Context.{Context}
use Rattle.logic_meaning.specs.Point.{Point, Of, move}
use Rattle.logic_meaning.specs.Formula.{And, Or, none, also}
use Rattle.logic_meaning.specs.Every.{Every, FreeInSome}
use Rattle.logic_meaning.specs.Atom.{Atom, Says, Mentions}
use Rattle.logic_meaning.specs.Fold.{joined, fold_list}
use Rattle.logic_meaning.specs.declared.junction.Junction.{Junction}
use Rattle.logic_meaning.specs.declared.junction.Junction.TheVariants.{Conjunction, Disjunction}
use Rattle.logic_meaning.specs.NegationNormal.{normal_form_of_not}
use Rattle.logic_meaning.specs.Tree.{Tree, Trees, TrueAt, IsFree}
use Rattle.formula_laws.proofs.Iff.{both_ways, turn_round, not_iff}
use Rattle.formula_laws.proofs.Fold.{free_of_members, fold_list_has, fold_list_true}
use Rattle.elimination_theory.proofs.BothTheories.{decided}
use Rattle.logic_meaning.specs.NormalForm.{IsNormal, negated_normal}
use Rattle.shape_theory.specs.Simplifiable.{EquivalentUnder}
use Rattle.elimination_theory.proofs.Tidy.{AreTidy, tidy_in, tidy_fold_list, tidy_turned}
use Rattle.elimination_theory.proofs.Turning.{normal_inside, normal_truths, turned_brings, turned_keeps}
use Rattle.case_theory.specs.Worked.{IsWorked, AreWorked, WorkingGoesOn}
use Rattle.case_theory.proofs.Without.{without_all_each}
use Rattle.case_theory.proofs.Under.{under_self, under_then}

module _ (c : Context) (ks : List Atom) where
  -- ---- lists

  all_worked : (fs gs : Trees) → AreWorked c ks fs gs → EquivalentUnder c ks (And fs) (And gs)
  all_worked none none w p o t = (λ u. u, λ u. u)
  all_worked (also f fs) (also g gs) w p o t =
      let i = w.0.equivalent p o t in let j = all_worked fs gs w.1 p o t in
      (λ u. (i.0 u.0, j.0 u.1), λ u. (i.1 u.0, j.1 u.1))
  all_worked none (also g gs) w p o t = absurd w
  all_worked (also f fs) none w p o t = absurd w

  some_worked : (fs gs : Trees) → AreWorked c ks fs gs → EquivalentUnder c ks (Or fs) (Or gs)
  some_worked none none w p o t = (λ u. u, λ u. u)
  some_worked (also f fs) (also g gs) w p o t =
      let i = w.0.equivalent p o t in let j = some_worked fs gs w.1 p o t in
      (⊎_elim (λ u. inl (i.0 u)) (λ u. inr (j.0 u)), ⊎_elim (λ u. inl (i.1 u)) (λ u. inr (j.1 u)))
  some_worked none (also g gs) w p o t = absurd w
  some_worked (also f fs) none w p o t = absurd w

  worked_tidy : (fs gs : Trees) → AreWorked c ks fs gs → AreTidy c gs
  worked_tidy none none w = tt
  worked_tidy (also f fs) (also g gs) w = (w.0.tidy, worked_tidy fs gs w.1)
  worked_tidy none (also g gs) w = absurd w
  worked_tidy (also f fs) none w = absurd w

  worked_names : (fs gs : Trees) (y : ℕ) → AreWorked c ks fs gs → FreeInSome Mentions gs y → FreeInSome Mentions fs y
  worked_names none none y w u = u
  worked_names (also f fs) (also g gs) y w u = ⊎_elim (λ h. inl (w.0.names y h)) (λ h. inr (worked_names fs gs y w.1 h)) u
  worked_names none (also g gs) y w u = absurd w
  worked_names (also f fs) none y w u = absurd w

  worked_list : (j : Junction) (fs gs : Trees) → AreWorked c ks fs gs → IsWorked c ks (joined j fs) (fold_list j gs)
  worked_list j fs gs w = record {
    equivalent = under_then c ks (joined j fs) (joined j gs) (fold_list j gs) (same j) (λ p o t. fold_list_true Says (move nat_eq) c j gs p);
    tidy = tidy_fold_list c j gs (worked_tidy fs gs w);
    names = λ y. fold_list_has (λ g. IsFree g y → IsFree (joined j fs) y) (λ hs. FreeInSome Mentions hs y → IsFree (joined j fs) y) (free_of_members Mentions y (IsFree (joined j fs) y)) j gs (names j y);
  }
    where
      same : (j : Junction) → EquivalentUnder c ks (joined j fs) (joined j gs)
      same Conjunction = all_worked fs gs w
      same Disjunction = some_worked fs gs w

      names : (j : Junction) (y : ℕ) → FreeInSome Mentions gs y → IsFree (joined j fs) y
      names Conjunction y = worked_names fs gs y w
      names Disjunction y = worked_names fs gs y w

  -- ---- negations

  -- k is the negation of h
  turn : (h k g : Tree) → ((p : Point ℕ) → Of c p → TrueAt c k p ↔ ¬ (TrueAt c h p)) → ((y : ℕ) → IsFree h y → IsFree k y) → IsWorked c ks h g → IsWorked c ks k (normal_form_of_not negated_normal g)
  turn h k g negates names w = record {
    equivalent = λ p o t. both_ways (negates p o) (both_ways (not_iff (w.equivalent p o t)) (normal_truths c g p (tidy_in c g w.tidy) o).1);
    tidy = tidy_turned c g w.tidy;
    names = λ y u. names y (w.names y ((turned_brings c g y).1 u));
  }

  forth : (f g : Tree) → Every (IsNormal c) f → IsWorked c ks f g → IsWorked c ks (normal_form_of_not negated_normal f) (normal_form_of_not negated_normal g)
  forth f g n w = turn f (normal_form_of_not negated_normal f) g (λ p o. turn_round (normal_truths c f p (normal_inside c f n) o).1) (λ y. (turned_keeps c f y).1) w

  back : (f g : Tree) → Every (IsNormal c) f → IsWorked c ks (normal_form_of_not negated_normal f) g → IsWorked c ks f (normal_form_of_not negated_normal g)
  back f g n w =
      let i = normal_inside c f n in
      turn (normal_form_of_not negated_normal f) f g
      (λ p o. let e = (normal_truths c f p i o).1 in (λ t u. e.1 u t, λ m. ⊎_elim (λ t. t) (λ u. absurd (m (e.0 u))) (decided c f p i o)))
      (λ y. (turned_brings c f y).1) w

  pub working_goes_on : WorkingGoesOn c ks
  working_goes_on = record {
    itself = λ f h. record { equivalent = under_self c ks f; tidy = h; names = λ y u. u };
    further = λ f g h v w. record { equivalent = under_then c ks f g h v.equivalent w.equivalent; tidy = w.tidy; names = λ y u. v.names y (w.names y u) };
    more_atoms = λ block f g w. record { equivalent = λ p o t. w.equivalent p o (without_all_each (λ k. Says k p) block ks t); tidy = w.tidy; names = w.names };
    of_list = worked_list;
    forth = forth;
    back = back;
  }
