-- Forms and shadows at a point of the integers where one name is moved.
use Rattle.std.proofs.Common.{◌≡◌, ℕ, ◌*◌, List, [], ◌∷◌, map, nat_eq, ◌↔◌, refl, sym, ap, ◌∙◌, subst, arith}
use Rattle.std.proofs.Math.IntN.{ℤ, pos, neg_ℤ, ◌+ℤ◌, ◌*ℤ◌}
use Rattle.std.proofs.lemmas.Int.{ints}
use Rattle.exact_numbers.specs.Divides.{Divides}
use Rattle.exact_numbers.proofs.Ring.{ring, one_mul}
use Rattle.exact_numbers.proofs.Order.{by_zero}
use Rattle.exact_numbers.proofs.Divisibility.{divides_along}
use Rattle.logic_meaning.specs.Context.{Integers}
use Rattle.logic_meaning.specs.Point.{Point, Of, move}
use Rattle.logic_meaning.specs.Form.{Form, value, coefficient, without}
use Rattle.logic_meaning.specs.Some.{EachOf}
use Rattle.logic_meaning.specs.Atom.{Atom, Compare, Congruent, Says, form_of}
use Rattle.formula_laws.proofs.Values.{value_split, below_move}
use Rattle.formula_laws.proofs.Iff.{both_ways, turn_round}
use Rattle.formula_laws.proofs.Relations.{relates_along}
use Rattle.elimination_theory.proofs.FieldsLine.{value_still}
use Rattle.elimination_theory.proofs.IntegerAtom.{value_at}
use Rattle.normal_atoms.proofs.Congruences.{congruent_says, told_same}
use Rattle.normal_atoms.specs.Atoms.{atom_of}
use Rattle.case_theory.specs.PutThrough.{AreTrue}
use Rattle.shadow_theory.specs.declared.shadow.Shadow.{Shadow}
use Rattle.shadow_theory.specs.declared.shadow.Shadow.TheVariants.{Never, Atoms, Unknown}
use Rattle.shadow_theory.specs.Shadows.{HasNamesOf}
use Rattle.integer_shadows.specs.Told.{IsTrueIn, HasNames}
use Rattle.integer_shadows.specs.Forms.{IsOver}
use Rattle.integer_shadows.specs.Pairs.{gap_of}

-- the point where x is k
abbrev pub moved : ℕ → Point ℕ → ℤ → Point ℕ
moved x p k = move nat_eq p x k 1

module _ (x : ℕ) (p : Point ℕ) (k : ℤ) where
  pub moved_of : Of Integers p → Of Integers (moved x p k)
  moved_of o = let e = below_move nat_eq p x k 1 in e ∙ ap (λ n. n * 1) o

  -- a form without the name keeps its value
  pub stays : (f : Form) → coefficient x f ≡ pos 0 → value f (moved x p k) ≡ value f p
  stays f e = value_still f p x k 1 e ∙ one_mul (value f p)

  pub line : (f : Form) → value f (moved x p k) ≡ coefficient x f *ℤ k +ℤ value (without x f) p
  line f = value_at f p x k

  same_gap : (a b k n l u : ℤ) → neg_ℤ a *ℤ (b *ℤ k +ℤ l) +ℤ b *ℤ (a *ℤ k +ℤ u) ≡ neg_ℤ a *ℤ (b *ℤ n +ℤ l) +ℤ b *ℤ (a *ℤ n +ℤ u)
  same_gap a b k n l u = simp ring (omega (arith, ints))

  -- the gap of two bounds does not depend on the name
  pub gap_stays : (l u : Form) → gap_of x l u (moved x p k) ≡ gap_of x l u p
  gap_stays l u =
      let a = coefficient x u in let b = coefficient x l in
      (λ i. neg_ℤ a *ℤ (line l) i +ℤ b *ℤ (line u) i)
      ∙ same_gap a b k (p.at x) (value (without x l) p) (value (without x u) p)
      ∙ (λ i. neg_ℤ a *ℤ (sym (value_split l p x)) i +ℤ b *ℤ (sym (value_split u p x)) i)

  -- ---- atoms and shadows

  divides_stays : (n : ℕ) (f : Form) → Of Integers p → coefficient x f ≡ pos 0 → Divides (pos n) (value f (moved x p k)) ↔ Divides (pos n) (value f p)
  divides_stays n f o e = (divides_along (stays f e), divides_along (sym (stays f e)))

  pub says_stays : (a : Atom) → Of Integers p → coefficient x (form_of a) ≡ pos 0 → Says a (moved x p k) ↔ Says a p
  says_stays (Compare r f) o e = relates_along r (pos 0) (stays f e)
  says_stays (Congruent b n f) o e =
      both_ways (congruent_says b n f (moved x p k) (moved_of o)) (both_ways (told_same b (divides_stays n f o e)) (turn_round (congruent_says b n f p o)))

  lacks : (us : List Atom) (a : Atom) → HasNamesOf x us a → coefficient x (form_of a) ≡ pos 0
  lacks us a h = by_zero (coefficient x (form_of a)) (λ z. z) (λ n. absurd ((h x n).0 refl))

  all_stay : (us vs : List Atom) → Of Integers p → EachOf (HasNamesOf x us) vs → AreTrue vs (moved x p k) ↔ AreTrue vs p
  all_stay us [] o h = (λ t. t, λ t. t)
  all_stay us (v ∷ vs) o h =
      let s = says_stays v o (lacks us v h.0) in let r = all_stay us vs o h.1 in
      (λ t. (s.0 t.0, r.0 t.1), λ t. (s.1 t.0, r.1 t.1))

  pub shadow_stays : (us : List Atom) (s : Shadow) → Of Integers p → HasNames x us s → IsTrueIn s (moved x p k) ↔ IsTrueIn s p
  shadow_stays us Never o h = (λ t. t, λ t. t)
  shadow_stays us (Atoms vs) o h = all_stay us (map atom_of vs.items) o h
  shadow_stays us Unknown o h = (λ t. t, λ t. t)

-- ---- names

-- a form that lacks x, over the names of the atoms
pub names_of : (x : ℕ) (us : List Atom) (a : Atom) → coefficient x (form_of a) ≡ pos 0 → IsOver us (form_of a) → HasNamesOf x us a
names_of x us a e h y n = (λ s. n (subst (λ z. coefficient z (form_of a) ≡ pos 0) (sym s) e), h y n)

-- a form with names of another, or of two others
pub over_one : (us : List Atom) (f r : Form) → ((y : ℕ) → coefficient y f ≡ pos 0 → coefficient y r ≡ pos 0) → IsOver us f → IsOver us r
over_one us f r h o y n = o y (λ e. n (h y e))

pub over_two : (us : List Atom) (f g r : Form) → ((y : ℕ) → coefficient y f ≡ pos 0 → coefficient y g ≡ pos 0 → coefficient y r ≡ pos 0) → IsOver us f → IsOver us g → IsOver us r
over_two us f g r h o q y n = by_zero (coefficient y f) (λ e. q y (λ d. n (h y e d))) (λ e. o y e)
