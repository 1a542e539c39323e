-- Lists of ids within others, by their members.
use Rattle.std.proofs.Common.{◌≡◌, ℕ, ◌<◌, ◌⊎◌, inl, inr, Bool, true, false, List, [], ◌∷◌, refl, sym, ap, subst, arith, true≢false}
use Rattle.std.specs.Prelude.{◌||◌, ◌&&◌}
use Rattle.std.specs.Cmp.{unsigned_Decides}
use Rattle.logic_meaning.specs.Some.{Among}
use Rattle.logic_meaning.specs.declared.junction.Junction.TheVariants.{Conjunction}
use Rattle.formula_store.specs.declared.id.FormulaId.{FormulaId}
use Rattle.formula_store.specs.Order.{Rises, RisesFrom}
use Rattle.formula_store.proofs.Ordered.{same_id as same_number}
use Rattle.shape_theory.specs.Lines as clean
use Rattle.normal_forms.specs.Atoms.{same_id, id_kit, is_within}
use Rattle.normal_forms.specs.Sieves.{IsSortedOf}

abbrev among : List FormulaId → FormulaId → Bool
among vs u = clean.is_among id_kit Conjunction vs u

or_is : (a b : Bool) → (a || b) ≡ true → (a ≡ true) ⊎ (b ≡ true)
or_is true b e = inl refl
or_is false b e = inr e

or_left : (a b : Bool) → a ≡ true → (a || b) ≡ true
or_left true b e = refl
or_left false b e = absurd (true≢false (sym e))

or_right : (a b : Bool) → b ≡ true → (a || b) ≡ true
or_right true b e = refl
or_right false b e = e

and_left : (a b : Bool) → (a && b) ≡ true → a ≡ true
and_left true b e = refl
and_left false b e = e

and_right : (a b : Bool) → (a && b) ≡ true → b ≡ true
and_right true b e = e
and_right false b e = absurd (true≢false (sym e))

and_both : (a b : Bool) → a ≡ true → b ≡ true → (a && b) ≡ true
and_both true b e f = f
and_both false b e f = e

pub same_is : (a b : FormulaId) → same_id a b ≡ true → a ≡ b
same_is a b e = same_number a b ((unsigned_Decides a.number b.number).0 e)

pub is_same : (a b : FormulaId) → a ≡ b → same_id a b ≡ true
is_same a b e = (unsigned_Decides a.number b.number).1 (ap (λ (i : FormulaId). i.number) e)

pub among_member : (vs : List FormulaId) (u : FormulaId) → among vs u ≡ true → Among vs u
among_member [] u e = absurd (true≢false (sym e))
among_member (v ∷ vs) u e = split (or_is (same_id v u) (among vs u) e) (among_member vs u)
  where
    split : (same_id v u ≡ true) ⊎ (among vs u ≡ true) → (among vs u ≡ true → Among vs u) → (v ≡ u) ⊎ Among vs u
    split (inl f) k = inl (same_is v u f)
    split (inr f) k = inr (k f)

pub member_among : (vs : List FormulaId) (u : FormulaId) → Among vs u → among vs u ≡ true
member_among [] u h = absurd h
member_among (v ∷ vs) u (inl e) = or_left (same_id v u) (among vs u) (is_same v u e)
member_among (v ∷ vs) u (inr h) = or_right (same_id v u) (among vs u) (member_among vs u h)

pub within_members : (us vs : List FormulaId) → is_within us vs ≡ true → (u : FormulaId) → Among us u → Among vs u
within_members [] vs e u h = absurd h
within_members (w ∷ us) vs e u (inl f) = subst (Among vs) f (among_member vs w (and_left (among vs w) (is_within us vs) e))
within_members (w ∷ us) vs e u (inr h) = within_members us vs (and_right (among vs w) (is_within us vs) e) u h

pub members_within : (us vs : List FormulaId) → ((u : FormulaId) → Among us u → Among vs u) → is_within us vs ≡ true
members_within [] vs h = refl
members_within (w ∷ us) vs h = and_both (among vs w) (is_within us vs) (member_among vs w (h w (inl refl))) (members_within us vs (λ u i. h u (inr i)))

pub within_then : (us vs ws : List FormulaId) → is_within us vs ≡ true → is_within vs ws ≡ true → is_within us ws ≡ true
within_then us vs ws e f = members_within us ws (λ u h. within_members vs ws f u (within_members us vs e u h))

-- sorting changes no members
pub sorted_within : (us vs s t : List FormulaId) → IsSortedOf us s → IsSortedOf vs t → is_within us vs ≡ true → is_within s t ≡ true
sorted_within us vs s t h k e = members_within s t (λ u i. k.all u (within_members us vs e u (h.only u i)))

-- ---- by rising ids

pub rises_after : (x : ℕ) (us : List FormulaId) → RisesFrom x us → Rises us
rises_after x [] h = tt
rises_after x (u ∷ us) h = h.1

from_lower : (x y : ℕ) (us : List FormulaId) → x < y → RisesFrom y us → RisesFrom x us
from_lower x y [] l h = tt
from_lower x y (u ∷ us) l h = let k = h.0 in (omega arith, h.1)

-- each is above
pub all_above : (x : ℕ) (us : List FormulaId) → RisesFrom x us → (u : FormulaId) → Among us u → x < u.number
all_above x [] h u i = absurd i
all_above x (w ∷ us) h u (inl e) = subst (λ (v : FormulaId). x < v.number) e h.0
all_above x (w ∷ us) h u (inr i) = all_above x us (from_lower x w.number us h.0 h.1) u i

-- what is above the first is among the others
pub within_others : (x : FormulaId) (us vs : List FormulaId) → RisesFrom x.number us → is_within us (x ∷ vs) ≡ true → is_within us vs ≡ true
within_others x us vs r e = members_within us vs (λ u i. split u (all_above x.number us r u i) (within_members us (x ∷ vs) e u i))
  where
    split : (u : FormulaId) → x.number < u.number → (x ≡ u) ⊎ Among vs u → Among vs u
    split u l (inl f) = absurd (let e : x.number ≡ u.number = ap (λ (v : FormulaId). v.number) f in omega arith)
    split u l (inr i) = i

-- the first of rising ids is one, or above it
pub first_is : (x : FormulaId) (vs : List FormulaId) (u : FormulaId) (us : List FormulaId) → RisesFrom x.number vs → is_within (u ∷ us) (x ∷ vs) ≡ true → (x ≡ u) ⊎ (x.number < u.number)
first_is x vs u us r e = split (within_members (u ∷ us) (x ∷ vs) e u (inl refl))
  where
    split : (x ≡ u) ⊎ Among vs u → (x ≡ u) ⊎ (x.number < u.number)
    split (inl f) = inl f
    split (inr i) = inr (all_above x.number vs r u i)

pub within_none : (u : FormulaId) (us : List FormulaId) → is_within (u ∷ us) [] ≡ true → ⊥
within_none u us e = within_members (u ∷ us) [] e u (inl refl)
