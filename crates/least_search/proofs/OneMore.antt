-- One name more at the end of a list.
use Rattle.std.proofs.Common.{◌≡◌, ℕ, List, [], ◌∷◌, ◌++◌, map, ap, sym, ◌∙◌, subst, refl, inl, inr, ⊎_elim}
use Rattle.std.proofs.Math.IntN.{ℤ, pos}
use Rattle.std.specs.List.{AllByRecursion}
use Rattle.exact_numbers.specs.Frac.{IsLowest}
use Rattle.exact_numbers.specs.declared.fraction.Fraction.{Fraction}
use Rattle.exact_numbers.specs.Fraction.{frac_of}
use Rattle.logic_meaning.specs.Constraints as meant
use Rattle.logic_meaning.specs.Context.{Fields}
use Rattle.logic_meaning.specs.Formula.{Ex}
use Rattle.logic_meaning.specs.Point.{Point}
use Rattle.logic_meaning.specs.Some.{Among, SomeOf, EachOf}
use Rattle.logic_meaning.specs.Tree.{Tree}
use Rattle.logic_meaning.specs.Values.{value_names, IsValue}
use Rattle.logic_meaning.specs.declared.form.VarId.{VarId}
use Rattle.formula_laws.specs.StandsOnce.{StandsOnce}
use Rattle.linear_forms.specs.Values.{number_of}
use Rattle.linear_theory.specs.Meeting.{Meets, MeetsAll}
use Rattle.linear_theory.specs.WeakTargets.{exs}
use Rattle.sample_reference.specs.Seen.{values_of}
use Rattle.certificates.specs.declared.constraint.Constraint.{Constraint}
use Rattle.certificates.specs.Constraints.{constraint_of}

abbrev pub numbers : List VarId → List ℕ
numbers vs = map number_of vs

pub exs_more : (vs : List VarId) (v : VarId) (f : Tree) → exs (numbers (vs ++ v ∷ [])) f ≡ exs (numbers vs) (Ex v.number f)
exs_more [] v f = refl
exs_more (w ∷ vs) v f = ap (λ (g : Tree). let t : Tree = Ex w.number g in t) (exs_more vs v f)

pub apart_more : (vs : List VarId) (v : VarId) (z : ℕ) → ¬ (Among (numbers vs) z) → ¬ (v.number ≡ z) → ¬ (Among (numbers (vs ++ v ∷ [])) z)
apart_more [] v z n k = ⊎_elim k (λ i. i)
apart_more (w ∷ vs) v z n k = ⊎_elim (λ e. n (inl e)) (apart_more vs v z (λ i. n (inr i)) k)

other_more : (x : ℕ) (vs : List VarId) (v : VarId) → ¬ (SomeOf (λ y. x ≡ y) (numbers vs)) → ¬ (x ≡ v.number) → ¬ (SomeOf (λ y. x ≡ y) (numbers (vs ++ v ∷ [])))
other_more x [] v n k = ⊎_elim k (λ i. i)
other_more x (w ∷ vs) v n k = ⊎_elim (λ e. n (inl e)) (other_more x vs v (λ i. n (inr i)) k)

pub once_more : (vs : List VarId) (v : VarId) → StandsOnce (numbers vs) → ¬ (Among (numbers vs) v.number) → StandsOnce (numbers (vs ++ v ∷ []))
once_more [] v h n = (λ i. i, tt)
once_more (w ∷ vs) v h n = (other_more w.number vs v h.0 (λ e. n (inl e)), once_more vs v h.1 (λ i. n (inr i)))

-- ---- values

pub names_of_values : (vs : List (VarId × Fraction)) → value_names (values_of vs) ≡ map (λ v. v.0.number) vs
names_of_values [] = refl
names_of_values (v ∷ vs) = ap (λ (ns : List ℕ). v.0.number ∷ ns) (names_of_values vs)

pub are_values : (vs : List (VarId × Fraction)) → AllByRecursion (λ v. IsLowest (frac_of v.1)) vs → EachOf (IsValue Fields) (values_of vs)
are_values [] h = tt
are_values (v ∷ vs) h = (record { proper = v.1.positive; lowest_terms = h.0; whole = tt }, are_values vs h.1)

-- ---- constraints

pub meets_more : (p : Point ℕ) (rows : List Constraint) (c : Constraint) → MeetsAll p (map constraint_of rows) → Meets p (constraint_of c) → MeetsAll p (map constraint_of (rows ++ c ∷ []))
meets_more p [] c m k = (k, tt)
meets_more p (r ∷ rows) c m k = (m.0, meets_more p rows c m.1 k)

pub each_along : (P : meant.Constraint → Type 0) (rows : List Constraint) → AllByRecursion (λ r. P (constraint_of r)) rows → EachOf P (map constraint_of rows)
each_along P [] h = tt
each_along P (r ∷ rows) h = (h.0, each_along P rows h.1)
