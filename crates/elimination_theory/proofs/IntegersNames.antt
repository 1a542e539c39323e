-- The names that stand in a formula after a substitution over the integers, and in the test points.
use Rattle.std.proofs.Common.{◌≡◌, ℕ, suc, zero, ◌/◌, List, [], ◌∷◌, map, flat_map, sym, ◌∙◌, subst, refl, ◌⊎◌, inl, inr, ⊎_elim}
use Rattle.std.proofs.Math.IntN.{ℤ, pos, negsuc, ◌*ℤ◌, neg_ℤ}
use Rattle.logic_meaning.specs.Context.{Integers}
use Rattle.logic_meaning.specs.Form.{Form, coefficient, without, scale, plus}
use Rattle.logic_meaning.specs.Formula.{Ex}
use Rattle.logic_meaning.specs.Plain.{IsPlain}
use Rattle.logic_meaning.specs.Atom.{Atom, Compare, Congruent, Relation, Equals, Differs, Below, AtMost, Above, AtLeast, Mentions, mirrored}
use Rattle.logic_meaning.specs.Answer.{Place, Exact, AboveBy, BelowBy, PlusInfinity, MinusInfinity, Periodic, PlaceMentions, same_place}
use Rattle.logic_meaning.specs.Tree.{Tree, IsFree}
use Rattle.formula_laws.specs.Equivalence.{InContext}
use Rattle.formula_laws.proofs.Coefficients.{coefficient_plus}
use Rattle.logic_meaning.specs.Side.{turned}
use Rattle.logic_meaning.specs.declared.side.Side.{Side}
use Rattle.logic_meaning.specs.Atoms.{atoms_of}
use Rattle.logic_meaning.specs.Substitution.{form_at, where_zero}
use Rattle.elimination_theory.specs.Elimination.{integer_elimination}
use Rattle.logic_meaning.specs.IntegersPoints.{counted, signed, starts_of, comparison_starts, atom_starts, class_points, next_points, points_with}
use Rattle.elimination_theory.specs.IntegersPointTrees.{integer_scale, integer_span, integer_points}
use Rattle.logic_meaning.specs.IntegersSubstitution.{put_number, along, integer_atom, is_whole, integer_guard}
use Rattle.elimination_theory.specs.IntegersTrees.{guarded_substitution}
use Rattle.logic_meaning.specs.IntegerPlace.{IsIntegerPlace}
use Rattle.elimination_theory.specs.NamesTheorems.{IsNameOf, SubstitutionKeepsNames, PointsHaveNamesOfFormula, EliminationKeepsNames}
use Rattle.logic_meaning.specs.Some.{Among}
use Rattle.formula_laws.proofs.Listed.{among_append, flat_map_among, distinct_among}
use Rattle.formula_laws.proofs.EachAtom.{every_all}
use Rattle.elimination_theory.proofs.IntegerEliminate.{points_suit}
use Rattle.elimination_theory.proofs.FieldsNames.{Has, HasOther, without_has, still_has, scale_has, put_or_still, exactly_has, beyond_has, neg_zero, AtomNames, names_of_replaced, atom_free, trees_free, field_substitution_names, field_point_names, field_elimination_names}

pub map_among : {X Y : Type 0} (f : X → Y) (xs : List X) (y : Y) → Among (map f xs) y → (x : X) × Among xs x × (f x ≡ y)
map_among f [] y h = absurd h
map_among f (x ∷ xs) y (inl e) = (x, inl refl, e)
map_among f (x ∷ xs) y (inr h) = let r = map_among f xs y h in (r.0, inr r.1, r.2)

plus_has : (f : Form) (a : ℤ) (y : ℕ) → Has (plus f a) y → Has f y
plus_has f a y h z = h (coefficient_plus y f a ∙ z)

-- ---- substitutions

-- a congruence that stays, where the name is not in it, or becomes another
chosen_has : (c : ℤ) (a b : Atom) (y : ℕ) → Mentions (where_zero c a b) y → ((c ≡ pos 0) × Mentions a y) ⊎ Mentions b y
chosen_has (pos zero) a b y t = inl (refl, t)
chosen_has (pos (suc n)) a b y t = inr t
chosen_has (negsuc n) a b y t = inr t

number_has : (x : ℕ) (j : ℤ) (f : Form) (y : ℕ) → ((coefficient x f ≡ pos 0) × Has f y) ⊎ Has (put_number x j f) y → HasOther x f y
number_has x j f y (inl t) = still_has x f y t.0 t.1
number_has x j f y (inr t) = without_has x f y (plus_has (without x f) (coefficient x f *ℤ j) y t)

along_zero : (q c : ℤ) → along q c ≡ pos 0 → c ≡ pos 0
along_zero (negsuc q) c e = e
along_zero (pos q) c e = neg_zero c e

integer_atom_names : (x : ℕ) (s : Place) (a : Atom) (y : ℕ) → IsIntegerPlace s → IsFree (integer_atom x s a) y → AtomNames x s a y
integer_atom_names x (Exact e l) (Compare r f) y p t = put_or_still x e l f y (exactly_has (coefficient x f) r f (form_at x e l f) y t)
integer_atom_names x (Exact e l) (Congruent holds n f) y p t = put_or_still x e l f y (chosen_has (coefficient x f) (Congruent holds n f) _ y t)
integer_atom_names x (Periodic j q) (Compare r f) y p t = let h = beyond_has (along q (coefficient x f)) r f y t in inl (still_has x f y (along_zero q (coefficient x f) h.0) h.1)
integer_atom_names x (Periodic j q) (Congruent holds n f) y p t = inl (number_has x j f y (chosen_has (coefficient x f) (Congruent holds n f) _ y t))
integer_atom_names x (AboveBy e l) a y p t = absurd p
integer_atom_names x (BelowBy e l) a y p t = absurd p
integer_atom_names x PlusInfinity a y p t = absurd p
integer_atom_names x MinusInfinity a y p t = absurd p

whole_has : (e : Form) (l : ℕ) (y : ℕ) → IsFree (is_whole e l) y → Has e y
whole_has e zero y t = t
whole_has e (suc zero) y t = absurd t
whole_has e (suc (suc n)) y t = t

guard_names : (s : Place) (y : ℕ) → IsFree (integer_guard s) y → PlaceMentions s y
guard_names (Exact e l) y t = whole_has e l y t
guard_names (AboveBy e l) y t = absurd t
guard_names (BelowBy e l) y t = absurd t
guard_names PlusInfinity y t = absurd t
guard_names MinusInfinity y t = absurd t
guard_names (Periodic j q) y t = absurd t

pub integer_substitution_names : (x : ℕ) (s : Place) (f : Tree) (y : ℕ) → IsIntegerPlace s → IsPlain f → IsFree (guarded_substitution x s f) y → IsNameOf x s f y
integer_substitution_names x s f y p plain t =
    ⊎_elim (λ g. inr (guard_names s y g))
    (⊎_elim (λ u. names_of_replaced (integer_atom x s) x s f y plain (every_all _ (λ a. integer_atom_names x s a y p) f) u) absurd) t

-- ---- the test points

start_has : (side : Side) (r : Relation) (v b : Form) (y : ℕ) → Among (starts_of side r v) b → Has b y → Has v y
start_has side Equals v b y (inl i) h = plus_has v (signed side (negsuc 0)) y (subst (λ c. Has c y) (sym i) h)
start_has side Equals v b y (inr i) h = absurd i
start_has side Differs v b y (inl i) h = subst (λ c. Has c y) (sym i) h
start_has side Differs v b y (inr i) h = absurd i
start_has side Below v b y i h = absurd i
start_has side AtMost v b y i h = absurd i
start_has side Above v b y (inl i) h = subst (λ c. Has c y) (sym i) h
start_has side Above v b y (inr i) h = absurd i
start_has side AtLeast v b y (inl i) h = plus_has v (signed side (negsuc 0)) y (subst (λ c. Has c y) (sym i) h)
start_has side AtLeast v b y (inr i) h = absurd i

comparison_start_has : (side : Side) (l : ℕ) (c : ℤ) (r : Relation) (t b : Form) (y : ℕ) → Among (comparison_starts side l c r t) b → Has b y → Has t y
comparison_start_has side l (pos zero) r t b y i h = absurd i
comparison_start_has side l (pos (suc n)) r t b y i h = scale_has (neg_ℤ (pos (l / suc n))) t y (start_has side (turned side r) (scale (neg_ℤ (pos (l / suc n))) t) b y i h)
comparison_start_has side l (negsuc n) r t b y i h = scale_has (pos (l / suc n)) t y (start_has side (turned side (mirrored r)) (scale (pos (l / suc n)) t) b y i h)

atom_start_has : (side : Side) (l x : ℕ) (a : Atom) (b : Form) (y : ℕ) → Among (atom_starts side l x a) b → Has b y → (¬ (x ≡ y)) × Mentions a y
atom_start_has side l x (Compare r f) b y i h = without_has x f y (comparison_start_has side l (coefficient x f) r (without x f) b y i h)
atom_start_has side l x (Congruent holds n f) b y i h = absurd i

class_has : (side : Side) (period : ℕ) (s : Place) (y : ℕ) → Among (class_points side period) s → ¬ (PlaceMentions s y)
class_has side period s y i h =
    let r = map_among (λ (j : ℕ). Periodic (signed side (pos j)) (signed side (neg_ℤ (pos period)))) (counted 1 period) s i in
    subst (λ t. PlaceMentions t y) (sym r.2) h

next_has : (side : Side) (l d : ℕ) (b : Form) (s : Place) (y : ℕ) → Among (next_points side l d b) s → PlaceMentions s y → Has b y
next_has side l d b s y i h =
    let r = map_among (λ (j : ℕ). Exact (plus b (signed side (pos j))) l) (counted 1 d) s i in
    plus_has b (signed side (pos r.0)) y (subst (λ t. PlaceMentions t y) (sym r.2) h)

pub integer_point_names : (side : Side) (x : ℕ) (f : Tree) (s : Place) (y : ℕ) → IsPlain f → PlaceMentions s y → Among (integer_points side x f) s → IsFree (Ex x f) y
integer_point_names side x f s y plain m h =
    ⊎_elim (λ i. absurd (class_has side (integer_span x f / integer_scale x f) s y i m)) next
    (among_append (class_points side (integer_span x f / integer_scale x f)) _ s (distinct_among same_place (points_with side (integer_scale x f) (integer_span x f) x (atoms_of f)) s h))
  where
    next : Among (flat_map (next_points side (integer_scale x f) (integer_span x f)) (flat_map (atom_starts side (integer_scale x f) x) (atoms_of f))) s → IsFree (Ex x f) y
    next i =
        let b = flat_map_among (next_points side (integer_scale x f) (integer_span x f)) (flat_map (atom_starts side (integer_scale x f) x) (atoms_of f)) s i in
        let a = flat_map_among (atom_starts side (integer_scale x f) x) (atoms_of f) b.0 b.1 in
        let k = atom_start_has side (integer_scale x f) x a.0 b.0 y a.2 (next_has side (integer_scale x f) (integer_span x f) b.0 s y b.2 m) in
        (k.0, atom_free f y plain a.0 a.1 k.1)

pub integer_elimination_names : (side : Side) (x : ℕ) (f : Tree) (y : ℕ) → IsPlain f → InContext Integers f → IsFree (integer_elimination side x f) y → IsFree (Ex x f) y
integer_elimination_names side x f y plain inside t =
    let r = trees_free (λ s. guarded_substitution x s f) (integer_points side x f) y t in
    ⊎_elim (λ m. m) (λ m. integer_point_names side x f r.0 y plain m r.1) (integer_substitution_names x r.0 f y (points_suit side x f r.0 inside r.1).0 plain r.2)

pub substitution_names : SubstitutionKeepsNames
substitution_names x s f y plain = (λ p inside t. field_substitution_names x s f y p plain inside t, λ p t. integer_substitution_names x s f y p plain t)

pub point_names : PointsHaveNamesOfFormula
point_names side x f s y plain m = (λ h. field_point_names side x f s y plain m h, λ h. integer_point_names side x f s y plain m h)

pub elimination_names : EliminationKeepsNames
elimination_names side x f y plain = (λ inside t. field_elimination_names side x f y plain inside t, λ inside t. integer_elimination_names side x f y plain inside t)
