-- With a name at a place an atom becomes a constant or an atom of the theory; formulas built by and and or stay so.
use Rattle.std.proofs.Common.{◌≡◌, ℕ, suc, zero, ◌*◌, ap, refl, ◌∙◌, mul-pos}
use Rattle.std.proofs.Math.IntN.{ℤ, pos, negsuc, neg_ℤ}
use Rattle.logic_meaning.specs.Context.{Context, Fields, Integers}
use Rattle.logic_meaning.specs.Formula.{Yes, No, One}
use Rattle.logic_meaning.specs.Form.{Form, coefficient}
use Rattle.logic_meaning.specs.Plain.{IsAtomic, IsPlain}
use Rattle.logic_meaning.specs.Sizes.{nodes}
use Rattle.logic_meaning.specs.Atom.{Atom, Compare, Congruent, Relation, Equals, Differs, Below, AtMost, Above, AtLeast, form_of, mirrored}
use Rattle.formula_laws.specs.TheoryAtoms.{AtomIn}
use Rattle.logic_meaning.specs.Replaced.{replaced}
use Rattle.logic_meaning.specs.Answer.{Place, Exact, AboveBy, BelowBy, PlusInfinity, MinusInfinity, Periodic}
use Rattle.logic_meaning.specs.Tree.{Tree}
use Rattle.formula_laws.specs.Equivalence.{InContext}
use Rattle.formula_laws.proofs.EachAtom.{every_map}
use Rattle.formula_laws.proofs.ReplacedShape.{plain_stays, every_replaced}
use Rattle.logic_meaning.specs.Substitution.{form_at, below_all, beyond, exactly, where_zero}
use Rattle.logic_meaning.specs.FieldsSubstitution.{just_above, just_below, beside}
use Rattle.logic_meaning.specs.IntegersSubstitution.{put_number, along, integer_guard}
use Rattle.logic_meaning.specs.BothTheories.{IsPlaceIn, raw_atom}
use Rattle.elimination_theory.specs.Places.{substitution}
use Rattle.logic_meaning.specs.Steps.{normalised}
use Rattle.elimination_theory.specs.StepTheorems.{IsNormaliser}

-- a constant, or one atom of the theory
abbrev pub IsSimple : Context → Tree → Type 0
IsSimple c Yes = Unit {0}
IsSimple c No = Unit {0}
IsSimple c (One a) = AtomIn c a
IsSimple c f = ⊥

pub simple_from : (c : Context) (t : Tree) → IsAtomic t → InContext c t → IsSimple c t
simple_from c Yes h i = tt
simple_from c No h i = tt
simple_from c (One a) h i = i
simple_from c _ h i = absurd h

pub simple_plain : (c : Context) (t : Tree) → IsSimple c t → IsPlain t
simple_plain c Yes h = tt
simple_plain c No h = tt
simple_plain c (One a) h = tt
simple_plain c _ h = absurd h

pub simple_in : (c : Context) (t : Tree) → IsSimple c t → InContext c t
simple_in c Yes h = tt
simple_in c No h = tt
simple_in c (One a) h = h
simple_in c _ h = absurd h

pub simple_nodes : (c : Context) (t : Tree) → IsSimple c t → nodes t ≡ 1
simple_nodes c Yes h = refl
simple_nodes c No h = refl
simple_nodes c (One a) h = refl
simple_nodes c _ h = absurd h

pub simple_normalised : (c : Context) (by : Atom → Tree) → IsNormaliser c by → (t : Tree) → IsSimple c t → IsSimple c (normalised by t)
simple_normalised c by n Yes h = tt
simple_normalised c by n No h = tt
simple_normalised c by n (One a) h = simple_from c (by a) (n.atomic a h) (n.in_context a h)
simple_normalised c by n _ h = absurd h

-- what both have, the chosen one has
pub where_zero_has : {X : Type 0} (P : X → Type 0) (z : ℤ) (a b : X) → P a → P b → P (where_zero z a b)
where_zero_has P (pos zero) a b h k = h
where_zero_has P (pos (suc n)) a b h k = k
where_zero_has P (negsuc n) a b h k = k

-- ---- the tables

above_simple : (c : Context) (r : Relation) (v : Form) → IsSimple c (just_above r v)
above_simple c Equals v = tt
above_simple c Differs v = tt
above_simple c Below v = tt
above_simple c AtMost v = tt
above_simple c Above v = tt
above_simple c AtLeast v = tt

below_simple : (c : Context) (r : Relation) (v : Form) → IsSimple c (just_below r v)
below_simple c Equals v = tt
below_simple c Differs v = tt
below_simple c Below v = tt
below_simple c AtMost v = tt
below_simple c Above v = tt
below_simple c AtLeast v = tt

below_all_simple : (c : Context) (r : Relation) → IsSimple c (below_all r)
below_all_simple c Equals = tt
below_all_simple c Differs = tt
below_all_simple c Below = tt
below_all_simple c AtMost = tt
below_all_simple c Above = tt
below_all_simple c AtLeast = tt

beside_simple : (c : Context) (b : ℤ) (r : Relation) (f v : Form) → IsSimple c (beside b r f v)
beside_simple c (pos zero) r f v = tt
beside_simple c (pos (suc n)) r f v = above_simple c r v
beside_simple c (negsuc n) r f v = below_simple c r v

beyond_simple : (c : Context) (b : ℤ) (r : Relation) (f : Form) → IsSimple c (beyond b r f)
beyond_simple c (pos zero) r f = tt
beyond_simple c (pos (suc n)) r f = below_all_simple c r
beyond_simple c (negsuc n) r f = below_all_simple c (mirrored r)

exactly_simple : (c : Context) (b : ℤ) (r : Relation) (f v : Form) → IsSimple c (exactly b r f v)
exactly_simple c (pos zero) r f v = tt
exactly_simple c (pos (suc n)) r f v = tt
exactly_simple c (negsuc n) r f v = tt

pub raw_simple : (c : Context) (x : ℕ) (s : Place) (a : Atom) → IsPlaceIn c s → AtomIn c a → IsSimple c (raw_atom c x s a)
raw_simple Fields x (Exact e d) (Compare r f) p i = exactly_simple Fields (coefficient x f) r f (form_at x e d f)
raw_simple Fields x (AboveBy e d) (Compare r f) p i = beside_simple Fields (coefficient x f) r f (form_at x e d f)
raw_simple Fields x (BelowBy e d) (Compare r f) p i = beside_simple Fields (neg_ℤ (coefficient x f)) r f (form_at x e d f)
raw_simple Fields x PlusInfinity (Compare r f) p i = beyond_simple Fields (neg_ℤ (coefficient x f)) r f
raw_simple Fields x MinusInfinity (Compare r f) p i = beyond_simple Fields (coefficient x f) r f
raw_simple Fields x (Periodic j q) (Compare r f) p i = absurd p
raw_simple Fields x s (Congruent holds n f) p i = absurd i
raw_simple Integers x (Exact e l) (Compare r f) p i = exactly_simple Integers (coefficient x f) r f (form_at x e l f)
raw_simple Integers x (Exact e l) (Congruent holds n f) p i = where_zero_has (AtomIn Integers) (coefficient x f) (Congruent holds n f) (Congruent holds (l * n) (form_at x e l f)) i (mul-pos p i)
raw_simple Integers x (Periodic j q) (Compare r f) p i = beyond_simple Integers (along q (coefficient x f)) r f
raw_simple Integers x (Periodic j q) (Congruent holds n f) p i = where_zero_has (AtomIn Integers) (coefficient x f) (Congruent holds n f) (Congruent holds n (put_number x j f)) i i
raw_simple Integers x (AboveBy e l) a p i = absurd p
raw_simple Integers x (BelowBy e l) a p i = absurd p
raw_simple Integers x PlusInfinity a p i = absurd p
raw_simple Integers x MinusInfinity a p i = absurd p

along_nothing : (q : ℤ) → along q (pos zero) ≡ pos zero
along_nothing (pos n) = refl
along_nothing (negsuc n) = refl

-- an atom without x stays
pub raw_still : (c : Context) (x : ℕ) (s : Place) (a : Atom) → IsPlaceIn c s → AtomIn c a → coefficient x (form_of a) ≡ pos zero → raw_atom c x s a ≡ One a
raw_still Fields x (Exact e d) (Compare r f) p i z = ap (λ b. exactly b r f (form_at x e d f)) z
raw_still Fields x (AboveBy e d) (Compare r f) p i z = ap (λ b. beside b r f (form_at x e d f)) z
raw_still Fields x (BelowBy e d) (Compare r f) p i z = ap (λ b. beside (neg_ℤ b) r f (form_at x e d f)) z
raw_still Fields x PlusInfinity (Compare r f) p i z = ap (λ b. beyond (neg_ℤ b) r f) z
raw_still Fields x MinusInfinity (Compare r f) p i z = ap (λ b. beyond b r f) z
raw_still Fields x (Periodic j q) (Compare r f) p i z = absurd p
raw_still Fields x s (Congruent holds n f) p i z = absurd i
raw_still Integers x (Exact e l) (Compare r f) p i z = ap (λ b. exactly b r f (form_at x e l f)) z
raw_still Integers x (Exact e l) (Congruent holds n f) p i z = ap (λ b. One (where_zero b (Congruent holds n f) (Congruent holds (l * n) (form_at x e l f)))) z
raw_still Integers x (Periodic j q) (Compare r f) p i z = ap (λ b. beyond (along q b) r f) z ∙ ap (λ b. beyond b r f) (along_nothing q)
raw_still Integers x (Periodic j q) (Congruent holds n f) p i z = ap (λ b. One (where_zero b (Congruent holds n f) (Congruent holds n (put_number x j f)))) z
raw_still Integers x (AboveBy e l) a p i z = absurd p
raw_still Integers x (BelowBy e l) a p i z = absurd p
raw_still Integers x PlusInfinity a p i z = absurd p
raw_still Integers x MinusInfinity a p i z = absurd p

pub guard_simple : (s : Place) → IsPlaceIn Integers s → IsSimple Integers (integer_guard s)
guard_simple (Exact e zero) p = p
guard_simple (Exact e (suc zero)) p = tt
guard_simple (Exact e (suc (suc n))) p = p
guard_simple (AboveBy e l) p = tt
guard_simple (BelowBy e l) p = tt
guard_simple PlusInfinity p = tt
guard_simple MinusInfinity p = tt
guard_simple (Periodic j q) p = tt

-- ---- formulas

pub replaced_plain : (c : Context) (by : Atom → Tree) (f : Tree) → ((a : Atom) → AtomIn c a → IsSimple c (by a)) → IsPlain f → InContext c f →
    IsPlain (replaced by (λ y. y) f) × InContext c (replaced by (λ y. y) f)
replaced_plain c by f simple plain inside = (
  plain_stays by (λ y. y) f plain (every_map _ _ (λ a i. simple_plain c (by a) (simple a i)) f inside),
  every_replaced by (λ y. y) (AtomIn c) f (every_map _ _ (λ a i. simple_in c (by a) (simple a i)) f inside),
)

-- a formula built by and and or stays one of the theory
pub substitution_plain : (c : Context) (x : ℕ) (s : Place) (f : Tree) → IsPlaceIn c s → IsPlain f → InContext c f →
    IsPlain (substitution c x s f) × InContext c (substitution c x s f)
substitution_plain Fields x s f p plain inside = replaced_plain Fields (λ a. raw_atom Fields x s a) f (λ a i. raw_simple Fields x s a p i) plain inside
substitution_plain Integers x s f p plain inside =
    let t = replaced_plain Integers (λ a. raw_atom Integers x s a) f (λ a i. raw_simple Integers x s a p i) plain inside in
    let g = guard_simple s p in
    ((simple_plain Integers (integer_guard s) g, (t.0, tt)), (simple_in Integers (integer_guard s) g, (t.1, tt)))
