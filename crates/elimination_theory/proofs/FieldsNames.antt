-- The names that stand in a formula after a substitution over the ordered fields, and in the test points.
use Rattle.std.proofs.Common.{◌≡◌, ℕ, suc, zero, List, [], ◌∷◌, ap, ap₂, sym, ◌∙◌, subst, refl, arith, ◌⊎◌, inl, inr, ⊎_elim, nat_eq, Bool, true, false, flat_map, eqb-true, eq-eqb}
use Rattle.std.proofs.Math.IntN.{ℤ, pos, negsuc, ◌+ℤ◌, ◌*ℤ◌, neg_ℤ}
use Rattle.std.proofs.lemmas.Int.{ints}
use Rattle.exact_numbers.proofs.Ring.{mul_zero}
use Rattle.exact_numbers.proofs.Order.{by_zero, cancel_positive}
use Rattle.logic_meaning.specs.Context.{Fields}
use Rattle.logic_meaning.specs.Form.{Form, coefficient, without, scale}
use Rattle.logic_meaning.specs.Formula.{Formula, Formulas, Yes, No, One, Not, And, Or, Impl, Repl, Equiv, Ex, All, none, also}
use Rattle.logic_meaning.specs.Every.{Every, Free, FreeInSome}
use Rattle.logic_meaning.specs.Replaced.{replaced}
use Rattle.logic_meaning.specs.Plain.{IsPlain, ArePlain}
use Rattle.logic_meaning.specs.Atom.{Atom, Compare, Congruent, Relation, Equals, Differs, Below, AtMost, Above, AtLeast, Mentions, mirrored}
use Rattle.formula_laws.specs.TheoryAtoms.{AtomIn}
use Rattle.logic_meaning.specs.Answer.{Place, Exact, AboveBy, BelowBy, PlusInfinity, MinusInfinity, Periodic, PlaceMentions, same_place}
use Rattle.logic_meaning.specs.Tree.{Tree, IsFree}
use Rattle.formula_laws.specs.Equivalence.{InContext}
use Rattle.formula_laws.proofs.Coefficients.{coefficient_combine, coefficient_scale, coefficient_without_same, coefficient_without_other}
use Rattle.formula_laws.proofs.FreeReplaced.{every_free, free_replaced}
use Rattle.formula_laws.proofs.EachAtom.{every_map, every_both}
use Rattle.logic_meaning.specs.Side.{turned}
use Rattle.logic_meaning.specs.declared.side.Side.{Side}
use Rattle.logic_meaning.specs.declared.side.Side.TheVariants.{Lower, Upper}
use Rattle.logic_meaning.specs.Same.{same_atom}
use Rattle.logic_meaning.specs.Atoms.{atoms_in, atoms_in_all, atoms_of}
use Rattle.logic_meaning.specs.FieldsPoints.{beside_point, ends_of, comparison_points, atom_points, infinity_of, field_points, form_over, divisor_of}
use Rattle.logic_meaning.specs.Substitution.{form_at, below_all, beyond, exactly}
use Rattle.logic_meaning.specs.FieldsSubstitution.{just_above, just_below, beside, field_atom, IsFieldPlace}
use Rattle.elimination_theory.specs.FieldsTrees.{field_substitution}
use Rattle.elimination_theory.specs.Elimination.{trees_at, field_elimination}
use Rattle.elimination_theory.specs.NamesTheorems.{IsNameOf}
use Rattle.logic_meaning.specs.Some.{Among}
use Rattle.formula_laws.proofs.Listed.{among_append, flat_map_among, distinct_among}
use Rattle.elimination_theory.proofs.LowestTerms.{lowest}
use Rattle.elimination_theory.proofs.FieldsSuffice.{field_point_place}

-- the form has the name
abbrev pub Has : Form → ℕ → Type 0
Has f y = ¬ (coefficient y f ≡ pos 0)

-- a name of the form other than x
abbrev pub HasOther : ℕ → Form → ℕ → Type 0
HasOther x f y = ¬ (x ≡ y) × Has f y

-- a form without x has its own other names
pub without_has : (x : ℕ) (f : Form) (y : ℕ) → Has (without x f) y → HasOther x f y
without_has x f y h = go (nat_eq x y) refl
  where
    go : (b : Bool) → nat_eq x y ≡ b → HasOther x f y
    go true e = absurd (h (subst (λ z. coefficient z (without x f) ≡ pos 0) (eqb-true x y e) (coefficient_without_same x f)))
    go false e = (λ i. absurd (cc (eq-eqb x y i, e)), λ z. h (coefficient_without_other x y f e ∙ z))

-- a form in which x has the coefficient 0 has other names alone
pub still_has : (x : ℕ) (f : Form) (y : ℕ) → coefficient x f ≡ pos 0 → Has f y → HasOther x f y
still_has x f y z h = (λ i. h (subst (λ w. coefficient w f ≡ pos 0) i z), h)

pub scale_has : (a : ℤ) (f : Form) (y : ℕ) → Has (scale a f) y → Has f y
scale_has a f y h z = h (coefficient_scale y a f ∙ ap (λ w. a *ℤ w) z ∙ mul_zero a)

pub form_at_has : (x : ℕ) (e : Form) (d : ℕ) (f : Form) (y : ℕ) → Has (form_at x e d f) y → HasOther x f y ⊎ Has e y
form_at_has x e d f y h =
    by_zero (coefficient y e)
    (λ z. inl (without_has x f y (λ w. h (coefficient_combine y (coefficient x f) e (pos d) (without x f) ∙ vanish z w))))
    (λ n. inr n)
  where
    vanish : coefficient y e ≡ pos 0 → coefficient y (without x f) ≡ pos 0 → coefficient x f *ℤ coefficient y e +ℤ pos d *ℤ coefficient y (without x f) ≡ pos 0
    vanish z w = ap₂ (λ a b. coefficient x f *ℤ a +ℤ pos d *ℤ b) z w ∙ ap₂ (λ a b. a +ℤ b) (mul_zero (coefficient x f)) (mul_zero (pos d))

-- ---- the atoms of the tables

above_has : (r : Relation) (v : Form) (y : ℕ) → IsFree (just_above r v) y → Has v y
above_has Equals v y t = absurd t
above_has Differs v y t = absurd t
above_has Below v y t = t
above_has AtMost v y t = t
above_has Above v y t = t
above_has AtLeast v y t = t

below_has : (r : Relation) (v : Form) (y : ℕ) → IsFree (just_below r v) y → Has v y
below_has Equals v y t = absurd t
below_has Differs v y t = absurd t
below_has Below v y t = t
below_has AtMost v y t = t
below_has Above v y t = t
below_has AtLeast v y t = t

pub low_has : (r : Relation) (y : ℕ) → ¬ (IsFree (below_all r) y)
low_has Equals y t = t
low_has Differs y t = t
low_has Below y t = t
low_has AtMost y t = t
low_has Above y t = t
low_has AtLeast y t = t

pub exactly_has : (c : ℤ) (r : Relation) (f v : Form) (y : ℕ) → IsFree (exactly c r f v) y → ((c ≡ pos 0) × Has f y) ⊎ Has v y
exactly_has (pos zero) r f v y t = inl (refl, t)
exactly_has (pos (suc n)) r f v y t = inr t
exactly_has (negsuc n) r f v y t = inr t

beside_has : (c : ℤ) (r : Relation) (f v : Form) (y : ℕ) → IsFree (beside c r f v) y → ((c ≡ pos 0) × Has f y) ⊎ Has v y
beside_has (pos zero) r f v y t = inl (refl, t)
beside_has (pos (suc n)) r f v y t = inr (above_has r v y t)
beside_has (negsuc n) r f v y t = inr (below_has r v y t)

pub beyond_has : (c : ℤ) (r : Relation) (f : Form) (y : ℕ) → IsFree (beyond c r f) y → (c ≡ pos 0) × Has f y
beyond_has (pos zero) r f y t = (refl, t)
beyond_has (pos (suc n)) r f y t = absurd (low_has r y t)
beyond_has (negsuc n) r f y t = absurd (low_has (mirrored r) y t)

pub neg_zero : (a : ℤ) → neg_ℤ a ≡ pos 0 → a ≡ pos 0
neg_zero a e = omega (arith, ints)

-- what stands in an atom with x at the place: names of the atom other than x, or of the place
abbrev pub AtomNames : ℕ → Place → Atom → ℕ → Type 0
AtomNames x s a y = (¬ (x ≡ y) × Mentions a y) ⊎ PlaceMentions s y

pub put_or_still : (x : ℕ) (e : Form) (d : ℕ) (f : Form) (y : ℕ) → ((coefficient x f ≡ pos 0) × Has f y) ⊎ Has (form_at x e d f) y → HasOther x f y ⊎ Has e y
put_or_still x e d f y (inl t) = inl (still_has x f y t.0 t.1)
put_or_still x e d f y (inr t) = form_at_has x e d f y t

turned_still : (x : ℕ) (e : Form) (d : ℕ) (f : Form) (y : ℕ) → ((neg_ℤ (coefficient x f) ≡ pos 0) × Has f y) ⊎ Has (form_at x e d f) y → HasOther x f y ⊎ Has e y
turned_still x e d f y (inl t) = inl (still_has x f y (neg_zero (coefficient x f) t.0) t.1)
turned_still x e d f y (inr t) = form_at_has x e d f y t

field_atom_names : (x : ℕ) (s : Place) (a : Atom) (y : ℕ) → AtomIn Fields a → IsFree (field_atom x s a) y → IsFieldPlace s → AtomNames x s a y
field_atom_names x (Exact e d) (Compare r f) y c t p = put_or_still x e d f y (exactly_has (coefficient x f) r f (form_at x e d f) y t)
field_atom_names x (AboveBy e d) (Compare r f) y c t p = put_or_still x e d f y (beside_has (coefficient x f) r f (form_at x e d f) y t)
field_atom_names x (BelowBy e d) (Compare r f) y c t p = turned_still x e d f y (beside_has (neg_ℤ (coefficient x f)) r f (form_at x e d f) y t)
field_atom_names x PlusInfinity (Compare r f) y c t p = let h = beyond_has (neg_ℤ (coefficient x f)) r f y t in inl (still_has x f y (neg_zero (coefficient x f) h.0) h.1)
field_atom_names x MinusInfinity (Compare r f) y c t p = let h = beyond_has (coefficient x f) r f y t in inl (still_has x f y h.0 h.1)
field_atom_names x (Periodic a q) (Compare r f) y c t p = absurd p
field_atom_names x s (Congruent holds n f) y c t p = absurd c

-- ---- formulas

-- what stands in each atom's replacement stands in the formula's
pub names_of_replaced : (by : Atom → Tree) (x : ℕ) (s : Place) (f : Tree) (y : ℕ) → IsPlain f → Every (λ a. IsFree (by a) y → AtomNames x s a y) f → IsFree (replaced by (λ z. z) f) y → IsNameOf x s f y
names_of_replaced by x s f y plain h t =
    free_replaced Mentions by (λ z. z) y (IsNameOf x s f y) f plain
    (every_both (λ a. Mentions a y → IsFree f y) (λ a. IsFree (by a) y → AtomNames x s a y) (λ a. IsFree (by a) y → IsNameOf x s f y) (λ a g k u. ⊎_elim (λ m. inl (m.0, g m.1)) (λ m. inr m) (k u)) f (every_free Mentions y (IsFree f y) f plain (λ u. u)) h) t

pub field_substitution_names : (x : ℕ) (s : Place) (f : Tree) (y : ℕ) → IsFieldPlace s → IsPlain f → InContext Fields f → IsFree (field_substitution x s f) y → IsNameOf x s f y
field_substitution_names x s f y p plain inside t = names_of_replaced (field_atom x s) x s f y plain (every_map _ _ (λ a c u. field_atom_names x s a y c u p) f inside) t

-- ---- the test points

lowest_has : (e : Form) (n : ℕ) (y : ℕ) → Has (form_over (divisor_of e (suc n)) e) y → Has e y
lowest_has e n y h z =
    let l = lowest e (suc n) (omega arith) in
    h (cancel_positive (pos (divisor_of e (suc n))) l.divisor_positive (l.coefficient_times y ∙ z ∙ sym (mul_zero (pos (divisor_of e (suc n))))))

along : (e : Form) (y : ℕ) {s t : Place} → s ≡ t → (PlaceMentions s y → Has e y) → PlaceMentions t y → Has e y
along e y i h = subst (λ s. PlaceMentions s y → Has e y) i h

beside_point_has : (side : Side) (e : Form) (n : ℕ) (y : ℕ) → PlaceMentions (beside_point side e (suc n)) y → Has e y
beside_point_has Lower e n y h = lowest_has e n y h
beside_point_has Upper e n y h = lowest_has e n y h

end_has : (side : Side) (r : Relation) (e : Form) (n : ℕ) (s : Place) (y : ℕ) → Among (ends_of side r e (suc n)) s → PlaceMentions s y → Has e y
end_has side Equals e n s y (inl i) = along e y i (lowest_has e n y)
end_has side Equals e n s y (inr i) = absurd i
end_has side Differs e n s y (inl i) = along e y i (beside_point_has side e n y)
end_has side Differs e n s y (inr i) = absurd i
end_has side Below e n s y i = absurd i
end_has side AtMost e n s y i = absurd i
end_has side Above e n s y (inl i) = along e y i (beside_point_has side e n y)
end_has side Above e n s y (inr i) = absurd i
end_has side AtLeast e n s y (inl i) = along e y i (lowest_has e n y)
end_has side AtLeast e n s y (inr i) = absurd i

comparison_point_has : (side : Side) (c : ℤ) (r : Relation) (t : Form) (s : Place) (y : ℕ) → Among (comparison_points side c r t) s → PlaceMentions s y → Has t y
comparison_point_has side (pos zero) r t s y h m = absurd h
comparison_point_has side (pos (suc n)) r t s y h m = scale_has (negsuc 0) t y (end_has side (turned side r) (scale (negsuc 0) t) n s y h m)
comparison_point_has side (negsuc n) r t s y h m = end_has side (turned side (mirrored r)) t n s y h m

atom_point_has : (side : Side) (x : ℕ) (a : Atom) (s : Place) (y : ℕ) → Among (atom_points side x a) s → PlaceMentions s y → ¬ (x ≡ y) × Mentions a y
atom_point_has side x (Compare r f) s y h m = without_has x f y (comparison_point_has side (coefficient x f) r (without x f) s y h m)
atom_point_has side x (Congruent holds n f) s y h m = absurd h

infinity_has : (side : Side) (y : ℕ) → ¬ (PlaceMentions (infinity_of side) y)
infinity_has Lower y m = m
infinity_has Upper y m = m

module _ {A N : Type 0} (mentions : A → N → Type 0) (a : A) (y : N) (m : mentions a y) where
  mutual
    in_formula : (f : Formula A N) → IsPlain f → Among (atoms_in f) a → Free mentions f y
    in_formula Yes s h = h
    in_formula No s h = h
    in_formula (One b) s (inl e) = subst (λ c. mentions c y) (sym e) m
    in_formula (One b) s (inr h) = absurd h
    in_formula (Not f) s h = absurd s
    in_formula (And fs) s h = in_formulas fs s h
    in_formula (Or fs) s h = in_formulas fs s h
    in_formula (Impl f g) s h = absurd s
    in_formula (Repl f g) s h = absurd s
    in_formula (Equiv f g) s h = absurd s
    in_formula (Ex x f) s h = absurd s
    in_formula (All x f) s h = absurd s

    in_formulas : (fs : Formulas A N) → ArePlain fs → Among (atoms_in_all fs) a → FreeInSome mentions fs y
    in_formulas none s h = h
    in_formulas (also f fs) s h = ⊎_elim (λ t. inl (in_formula f s.0 t)) (λ t. inr (in_formulas fs s.1 t)) (among_append (atoms_in f) (atoms_in_all fs) a h)

-- what an atom of the tree has is free in the tree
pub atom_free : (f : Tree) (y : ℕ) → IsPlain f → (a : Atom) → Among (atoms_of f) a → Mentions a y → IsFree f y
atom_free f y plain a among m = in_formula Mentions a y m f plain (distinct_among same_atom (atoms_in f) a among)

pub field_point_names : (side : Side) (x : ℕ) (f : Tree) (s : Place) (y : ℕ) → IsPlain f → PlaceMentions s y → Among (field_points side x f) s → IsFree (Ex x f) y
field_point_names side x f s y plain m h = go (distinct_among same_place (infinity_of side ∷ flat_map (atom_points side x) (atoms_of f)) s h)
  where
    go : Among (infinity_of side ∷ flat_map (atom_points side x) (atoms_of f)) s → IsFree (Ex x f) y
    go (inl i) = absurd (infinity_has side y (subst (λ t. PlaceMentions t y) (sym i) m))
    go (inr i) = let r = flat_map_among (atom_points side x) (atoms_of f) s i in let k = atom_point_has side x r.0 s y r.2 m in (k.0, atom_free f y plain r.0 r.1 k.1)

-- a name of the disjunction is one of some member
pub trees_free : (put : Place → Tree) (places : List Place) (y : ℕ) → FreeInSome Mentions (trees_at put places) y → (s : Place) × Among places s × IsFree (put s) y
trees_free put [] y h = absurd h
trees_free put (s ∷ places) y (inl h) = (s, inl refl, h)
trees_free put (s ∷ places) y (inr h) = let r = trees_free put places y h in (r.0, inr r.1, r.2)

pub field_elimination_names : (side : Side) (x : ℕ) (f : Tree) (y : ℕ) → IsPlain f → InContext Fields f → IsFree (field_elimination side x f) y → IsFree (Ex x f) y
field_elimination_names side x f y plain inside t =
    let r = trees_free (λ s. field_substitution x s f) (field_points side x f) y t in
    ⊎_elim (λ m. m) (λ m. field_point_names side x f r.0 y plain m r.1) (field_substitution_names x r.0 f y (field_point_place side x f r.0 r.1) plain inside r.2)
