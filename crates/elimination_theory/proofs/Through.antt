-- What goes through the computations of which the reference elimination is made, holds of it.
use Rattle.std.proofs.Common.{ℕ, ◌+◌, ◌*◌, Bool, true, false, List, [], ◌∷◌, ◌++◌, map, nat_eq, if◌then◌else◌}
use Rattle.logic_meaning.specs.Context.{Context}
use Rattle.logic_meaning.specs.Formula.{Yes, No, One, Not, And, Or, Impl, Repl, Equiv, Ex, All, none, also}
use Rattle.logic_meaning.specs.Shape.{is_in}
use Rattle.logic_meaning.specs.Fold.{fold_list}
use Rattle.logic_meaning.specs.declared.junction.Junction.{Junction}
use Rattle.logic_meaning.specs.declared.junction.Junction.TheVariants.{Conjunction, Disjunction}
use Rattle.logic_meaning.specs.Sizes.{nodes}
use Rattle.logic_meaning.specs.Tree.{Tree, Trees}
use Rattle.logic_meaning.specs.Measured.{Counted, ◌>>=◌, give, pay, within}
use Rattle.logic_meaning.specs.declared.side.Side.TheVariants.{Lower}
use Rattle.logic_meaning.specs.Atoms.{atoms_in}
use Rattle.logic_meaning.specs.Steps.{step}
use Rattle.logic_meaning.specs.NormalForm.{normal_atom, negated_normal}
use Rattle.logic_meaning.specs.StopLimits.{span_within, step_within}
use Rattle.logic_meaning.specs.Reference.{Branch, stands_among, point_count, kept_at_zero, next_branch, alone, together, turned, full_step, one_step, steps, closed, branches, members}

-- K holds of a result, of a cost that is paid, of a test, and of what is done one after the other
module _ (c : Context) (limit : ℕ) (K : (A : Type 0) → Counted A → Type 0)
    (after : (A B : Type 0) (m : Counted A) (k : A → Counted B) → K A m → ((a : A) → K B (k a)) → K B (m >>= k))
    (given : (A : Type 0) (a : A) → K A (give a)) (tested : (test : Bool) → K (Unit {0}) (within test)) (paid : (n : ℕ) → K (Unit {0}) (pay limit n)) where
  abbrev Holds : Counted (List Branch) → Type 0
  Holds m = K (List Branch) m

  through_one : (x : ℕ) (b : Branch) → Holds (one_step c limit x b)
  through_one x b = go (stands_among x (atoms_in b.tree))
    where
      go : (test : Bool) → Holds (if test then full_step c limit x b else give (kept_at_zero x b ∷ []))
      go true =
          after _ _ (within (span_within c x b.tree)) _ (tested (span_within c x b.tree)) (λ u.
          after _ _ (pay limit (point_count c x b.tree * (nodes b.tree + 2))) _ (paid (point_count c x b.tree * (nodes b.tree + 2))) (λ u.
          after _ _ (within (step_within c x b.tree)) _ (tested (step_within c x b.tree)) (λ u. given _ (map (next_branch x b) (step c (normal_atom c) Lower x b.tree)))))
      go false = given _ (kept_at_zero x b ∷ [])

  through_steps : (x : ℕ) (bs : List Branch) → Holds (steps c limit x bs)
  through_steps x [] = given _ []
  through_steps x (b ∷ bs) = after _ _ (one_step c limit x b) _ (through_one x b) (λ first. after _ _ (steps c limit x bs) _ (through_steps x bs) (λ rest. given _ (first ++ rest)))

  through_closed : (sign : Bool) (x : ℕ) (inner : Counted (List Branch)) → Holds inner → Holds (closed c limit sign x inner)
  through_closed sign x inner h = after _ _ inner _ h (λ bs. after _ _ (steps c limit x bs) _ (through_steps x bs) (λ left. given _ (alone (turned sign (together left)))))

  through_chained : (x : ℕ) (ended going : Counted (List Branch)) (test : Bool) → Holds ended → Holds going → Holds (if test then closed c limit true x ended else (going >>= steps c limit x))
  through_chained x ended going true h k = through_closed true x ended h
  through_chained x ended going false h k = after _ _ going (steps c limit x) k (through_steps x)

  through_folded : (j : Junction) (m : Counted Trees) → K Trees m → Holds (m >>= λ gs. give (alone (fold_list j gs)))
  through_folded j m h = after _ _ m _ h (λ gs. given _ (alone (fold_list j gs)))

  mutual
    pub through_branches : (names : List ℕ) (sign : Bool) (f : Tree) → Holds (branches c limit names sign f)
    through_branches names true Yes = given _ (alone Yes)
    through_branches names false Yes = given _ (alone No)
    through_branches names true No = given _ (alone No)
    through_branches names false No = given _ (alone Yes)
    through_branches names true (One a) = given _ (alone (One a))
    through_branches names false (One a) = given _ (alone (One (negated_normal a)))
    through_branches names true (And fs) = through_folded Conjunction (members c limit true fs) (through_members true fs)
    through_branches names false (And fs) = through_folded Disjunction (members c limit false fs) (through_members false fs)
    through_branches names true (Or fs) = through_folded Disjunction (members c limit true fs) (through_members true fs)
    through_branches names false (Or fs) = through_folded Conjunction (members c limit false fs) (through_members false fs)
    through_branches names true (Ex x f) = through_chained x (branches c limit (x ∷ []) true f) (branches c limit (x ∷ names) true f) (is_in nat_eq x names) (through_branches (x ∷ []) true f) (through_branches (x ∷ names) true f)
    through_branches names false (Ex x f) = through_closed false x (branches c limit (x ∷ []) true f) (through_branches (x ∷ []) true f)
    through_branches names true (All x f) = through_closed false x (branches c limit (x ∷ []) false f) (through_branches (x ∷ []) false f)
    through_branches names false (All x f) = through_chained x (branches c limit (x ∷ []) false f) (branches c limit (x ∷ names) false f) (is_in nat_eq x names) (through_branches (x ∷ []) false f) (through_branches (x ∷ names) false f)
    through_branches names true (Not f) = given _ []
    through_branches names false (Not f) = given _ []
    through_branches names true (Impl f g) = given _ []
    through_branches names false (Impl f g) = given _ []
    through_branches names true (Repl f g) = given _ []
    through_branches names false (Repl f g) = given _ []
    through_branches names true (Equiv f g) = given _ []
    through_branches names false (Equiv f g) = given _ []

    through_members : (sign : Bool) (fs : Trees) → K Trees (members c limit sign fs)
    through_members sign none = given _ none
    through_members sign (also f fs) =
        after _ _ (branches c limit [] sign f) _ (through_branches [] sign f) (λ bs. after _ _ (members c limit sign fs) _ (through_members sign fs) (λ gs. given _ (also (together bs) gs)))
