-- Working on the negation of a formula is working on the formula with the other sign.
use Rattle.std.proofs.Common.{◌≡◌, ℕ, Bool, true, false, not, List, [], ◌∷◌, refl, sym, ap, ap₂, nat_eq, if◌then◌else◌}
use Rattle.logic_meaning.specs.Context.{Context}
use Rattle.logic_meaning.specs.Formula.{Yes, No, One, Not, And, Or, Impl, Repl, Equiv, Ex, All, none, also}
use Rattle.logic_meaning.specs.Every.{Every, EveryOf}
use Rattle.logic_meaning.specs.Shape.{is_in}
use Rattle.logic_meaning.specs.Plain.{IsNegationNormal, AreNegationNormal}
use Rattle.logic_meaning.specs.Fold.{fold_list}
use Rattle.logic_meaning.specs.declared.junction.Junction.{Junction}
use Rattle.logic_meaning.specs.declared.junction.Junction.TheVariants.{Conjunction, Disjunction}
use Rattle.logic_meaning.specs.NegationNormal.{normal_form_of_not, normal_forms_of_not}
use Rattle.logic_meaning.specs.Tree.{Tree, Trees}
use Rattle.logic_meaning.specs.NormalForm.{IsNormal, negated_normal}
use Rattle.normal_atoms.proofs.NormalLaws.{negated_twice}
use Rattle.logic_meaning.specs.Measured.{Counted, ◌>>=◌, give}
use Rattle.logic_meaning.specs.Reference.{Branch, alone, together, steps, closed, branches, members}
use Rattle.elimination_theory.specs.Turned.{AllIsNegatedEx}

module _ (c : Context) (limit : ℕ) where
  folded : Junction → Counted Trees → Counted (List Branch)
  folded j m = m >>= λ gs. give (alone (fold_list j gs))

  added : Counted (List Branch) → Counted Trees → Counted Trees
  added here rest = here >>= λ bs. rest >>= λ gs. give (also (together bs) gs)

  chained : Bool → ℕ → Counted (List Branch) → Counted (List Branch) → Counted (List Branch)
  chained test x ended going = if test then closed c limit true x ended else (going >>= steps c limit x)

  mutual
    unfolding folded added chained

    branches_turned : (names : List ℕ) (sign : Bool) (f : Tree) → IsNegationNormal f → Every (IsNormal c) f → branches c limit names (not sign) f ≡ branches c limit names sign (normal_form_of_not negated_normal f)
    branches_turned names true Yes h n = refl
    branches_turned names false Yes h n = refl
    branches_turned names true No h n = refl
    branches_turned names false No h n = refl
    branches_turned names true (One a) h n = refl
    branches_turned names false (One a) h n = ap (λ b. give (alone (let t : Tree = One b in t))) (sym (negated_twice c a n))
    branches_turned names true (And fs) h n = ap (folded Disjunction) (members_turned true fs h n)
    branches_turned names false (And fs) h n = ap (folded Conjunction) (members_turned false fs h n)
    branches_turned names true (Or fs) h n = ap (folded Conjunction) (members_turned true fs h n)
    branches_turned names false (Or fs) h n = ap (folded Disjunction) (members_turned false fs h n)
    branches_turned names true (Ex x f) h n = ap (closed c limit false x) (branches_turned (x ∷ []) false f h n)
    branches_turned names false (Ex x f) h n = ap₂ (chained (is_in nat_eq x names) x) (branches_turned (x ∷ []) false f h n) (branches_turned (x ∷ names) false f h n)
    branches_turned names true (All x f) h n = ap₂ (chained (is_in nat_eq x names) x) (branches_turned (x ∷ []) true f h n) (branches_turned (x ∷ names) true f h n)
    branches_turned names false (All x f) h n = ap (closed c limit false x) (branches_turned (x ∷ []) true f h n)
    branches_turned names sign (Not f) h n = absurd h
    branches_turned names sign (Impl f g) h n = absurd h
    branches_turned names sign (Repl f g) h n = absurd h
    branches_turned names sign (Equiv f g) h n = absurd h

    members_turned : (sign : Bool) (fs : Trees) → AreNegationNormal fs → EveryOf (IsNormal c) fs → members c limit (not sign) fs ≡ members c limit sign (normal_forms_of_not negated_normal fs)
    members_turned true none h n = refl
    members_turned false none h n = refl
    members_turned true (also f fs) h n = ap₂ added (branches_turned [] true f h.0 n.0) (members_turned true fs h.1 n.1)
    members_turned false (also f fs) h n = ap₂ added (branches_turned [] false f h.0 n.0) (members_turned false fs h.1 n.1)

pub all_negated : AllIsNegatedEx
all_negated c limit f h n = record {
  turned_round = λ names sign. branches_turned c limit names sign f h n;
  all = λ names x. ap (closed c limit false x) (branches_turned c limit (x ∷ []) true f h n);
}
