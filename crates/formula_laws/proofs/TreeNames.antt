-- The free names of a tree, as a list; and the test of equality of trees.
use Rattle.std.proofs.Common.{◌≡◌, ◌<◌, ℕ, true, List, [], ◌∷◌, map, sym, ◌∙◌, subst, refl, arith, inl, inr, ◌↔◌, nat_eq, eqb-true}
use Rattle.std.proofs.Math.IntN.{pos}
use Rattle.std.proofs.lemmas.Bool.{eq-eqb, cases_eq}
use Rattle.logic_meaning.specs.Some.{Among}
use Rattle.logic_meaning.specs.Form.{Form, Term, multiple, coefficient}
use Rattle.logic_meaning.specs.Sorted.{AllAbove, IsRising, AllNonzero, IsSorted, gathered}
use Rattle.logic_meaning.specs.Atom.{Atom, Mentions, form_of}
use Rattle.logic_meaning.specs.Tree.{Tree, atom_names}
use Rattle.formula_laws.specs.Laws.{FreeNamesAreListed, EqualityIsTested}
use Rattle.formula_laws.proofs.Sorted.{here, elsewhere}
use Rattle.formula_laws.proofs.Gathered.{gathered_sorted, coefficient_gathered}
use Rattle.formula_laws.proofs.Sizes.{free_name_is, formula_same, formula_alike}
use Rattle.logic_meaning.specs.Same.{same_atom}
use Rattle.logic_meaning.specs.Sizes.{same_formula}
use Rattle.formula_laws.proofs.Same.{atom_same, atom_alike}

abbrev names : List Term → List ℕ
names ts = map (λ (t : Term). t.name) ts

named_above : (x y : ℕ) (ts : List Term) → AllAbove y ts → Among (names ts) x → y < x
named_above x y [] a m = absurd m
named_above x y (t ∷ ts) a (inl e) = subst (λ (z : ℕ). y < z) e a.0
named_above x y (t ∷ ts) a (inr m) = named_above x y ts a.1 m

named_multiple : (x : ℕ) (ts : List Term) → IsRising ts → AllNonzero ts → Among (names ts) x → ¬ (multiple x ts ≡ pos 0)
named_multiple x [] r n m e = absurd m
named_multiple x (t ∷ ts) r n (inl h) e = n.0 (sym (here x t ts h (subst (λ (z : ℕ). AllAbove z ts) h r.0)) ∙ e)
named_multiple x (t ∷ ts) r n (inr m) e =
    let l = named_above x t.name ts r.0 m in
    named_multiple x ts r.1 n.1 m (sym (elsewhere x t ts (λ (h : t.name ≡ x). omega arith)) ∙ e)

multiple_named : (x : ℕ) (ts : List Term) → ¬ (multiple x ts ≡ pos 0) → Among (names ts) x
multiple_named x [] n = absurd (n refl)
multiple_named x (t ∷ ts) n =
    elim (cases_eq t.name x) [
      | inl e ↦ inl e
      | inr d ↦ inr (multiple_named x ts (λ z. n (elsewhere x t ts d ∙ z)))
    ]

sorted_names : (x : ℕ) (f : Form) → IsSorted f → Among (names f.terms) x ↔ ¬ (coefficient x f ≡ pos 0)
unfolding coefficient
sorted_names x f s = (named_multiple x f.terms s.rising s.nonzero, multiple_named x f.terms)

atom_name_is : (a : Atom) (x : ℕ) → Among (atom_names a) x ↔ Mentions a x
atom_name_is a x =
    let i = sorted_names x (gathered (form_of a)) (gathered_sorted (form_of a)) in
    let e = coefficient_gathered x (form_of a) in
    (λ m z. i.0 m (e ∙ z), λ n. i.1 (λ z. n (sym e ∙ z)))

name_sound : (x y : ℕ) → nat_eq x y ≡ true → x ≡ y
name_sound x y e = eqb-true x y e

name_alike : (x : ℕ) → nat_eq x x ≡ true
name_alike x = eq-eqb x x refl

pub names_listed : FreeNamesAreListed
names_listed f x = free_name_is nat_eq name_sound name_alike atom_names Mentions atom_name_is f x

pub equality_tested : EqualityIsTested
equality_tested f g = (
  formula_same same_atom nat_eq atom_same name_sound f g,
  λ e. subst (λ (h : Tree). same_formula same_atom nat_eq f h ≡ true) e (formula_alike same_atom nat_eq atom_alike name_alike f),
)
