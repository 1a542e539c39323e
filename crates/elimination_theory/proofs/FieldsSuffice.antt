-- Over the ordered fields test points suffice, on both sides.
use Rattle.std.proofs.Common.{ℕ, suc, ◌∷◌, refl, arith, inl, inr, ◌↔◌, nat_eq, flat_map}
use Rattle.std.proofs.Math.IntN.{negsuc}
use Rattle.logic_meaning.specs.Context.{Fields}
use Rattle.logic_meaning.specs.Point.{Point, Of, move}
use Rattle.logic_meaning.specs.Form.{Form, without, scale}
use Rattle.logic_meaning.specs.Formula.{Formula, Formulas, Yes, No, One, Not, And, Or, Impl, Repl, Equiv, Ex, All, none, also}
use Rattle.logic_meaning.specs.Some.{SomeOf, Among}
use Rattle.logic_meaning.specs.Every.{Every, EveryOf}
use Rattle.logic_meaning.specs.Plain.{IsPlain}
use Rattle.logic_meaning.specs.Atom.{Atom, form_of}
use Rattle.logic_meaning.specs.Answer.{Place, Holds, same_place}
use Rattle.logic_meaning.specs.Tree.{Tree, TrueAt}
use Rattle.formula_laws.specs.Equivalence.{InContext}
use Rattle.logic_meaning.specs.declared.side.Side.{Side}
use Rattle.logic_meaning.specs.Same.{same_atom}
use Rattle.logic_meaning.specs.Atoms.{atoms_in, atoms_in_all, atoms_of}
use Rattle.logic_meaning.specs.FieldsPoints.{atom_points, infinity_of, field_points}
use Rattle.logic_meaning.specs.FieldsSubstitution.{IsFieldPlace}
use Rattle.elimination_theory.specs.AtPlace.{at_place}
use Rattle.formula_laws.proofs.Listed.{some_among, among_some, among_left, among_right, among_flat_map, among_distinct}
use Rattle.formula_laws.proofs.Same.{atom_same, place_same}
use Rattle.elimination_theory.proofs.LowestTerms.{lowest}
use Rattle.elimination_theory.proofs.FieldsEach.{HoldsAt, at_all, far_out, field_points_have}
use Rattle.elimination_theory.proofs.FieldsBegin.{Begins, formula_begins}
use Rattle.elimination_theory.proofs.FieldsMeet.{begins_meets, meets_some, pos_positive, positive_pos}

module _ {A N : Type 0} (P : A → Type 0) where
  mutual
    -- what each atom of the list has, each atom of the formula has
    pub every_listed : (f : Formula A N) → ((a : A) → Among (atoms_in f) a → P a) → Every P f
    every_listed Yes h = tt
    every_listed No h = tt
    every_listed (One a) h = h a (inl refl)
    every_listed (Not f) h = every_listed f h
    every_listed (And fs) h = every_listed_of fs h
    every_listed (Or fs) h = every_listed_of fs h
    every_listed (Impl f g) h = (every_listed f (λ a m. h a (among_left (atoms_in f) (atoms_in g) a m)), every_listed g (λ a m. h a (among_right (atoms_in f) (atoms_in g) a m)))
    every_listed (Repl f g) h = (every_listed f (λ a m. h a (among_left (atoms_in f) (atoms_in g) a m)), every_listed g (λ a m. h a (among_right (atoms_in f) (atoms_in g) a m)))
    every_listed (Equiv f g) h = (every_listed f (λ a m. h a (among_left (atoms_in f) (atoms_in g) a m)), every_listed g (λ a m. h a (among_right (atoms_in f) (atoms_in g) a m)))
    every_listed (Ex x f) h = every_listed f h
    every_listed (All x f) h = every_listed f h

    pub every_listed_of : (fs : Formulas A N) → ((a : A) → Among (atoms_in_all fs) a → P a) → EveryOf P fs
    every_listed_of none h = tt
    every_listed_of (also f fs) h = (every_listed f (λ a m. h a (among_left (atoms_in f) (atoms_in_all fs) a m)), every_listed_of fs (λ a m. h a (among_right (atoms_in f) (atoms_in_all fs) a m)))

-- each atom of a tree is among its atoms without repeats
pub every_atom : (P : Atom → Type 0) (f : Tree) → ((a : Atom) → Among (atoms_of f) a → P a) → Every P f
every_atom P f h = every_listed P f (λ a m. h a (among_distinct same_atom atom_same (atoms_in f) a m))

-- ---- each test point is a place of the fields

place_at : (e : Form) (n : ℕ) → HoldsAt IsFieldPlace e (suc n)
place_at e n = let h = positive_pos ((lowest e (suc n) (omega arith)).below_positive) in at_all IsFieldPlace e (suc n) h h h

pub field_point_place : (side : Side) (x : ℕ) (f : Tree) (s : Place) → Among (field_points side x f) s → IsFieldPlace s
field_point_place side x f s h =
    field_points_have IsFieldPlace side x (atoms_of f) (far_out IsFieldPlace tt tt side) (λ a m n. (place_at (scale (negsuc 0) (without x (form_of a))) n, place_at (without x (form_of a)) n)) s h

-- the points of each atom are listed
points_listed : (side : Side) (x : ℕ) (f : Tree) → Every (λ a. (q : Place) → Among (atom_points side x a) q → Among (field_points side x f) q) f
points_listed side x f =
    every_atom _ f (λ a m q h. among_distinct same_place place_same (infinity_of side ∷ flat_map (atom_points side x) (atoms_of f)) q (inr (among_flat_map (atom_points side x) (atoms_of f) a q m h)))

pub field_points_suffice : (side : Side) (x : ℕ) (f : Tree) (p : Point ℕ) → IsPlain f → InContext Fields f → Of Fields p →
    TrueAt Fields (Ex x f) p ↔ SomeOf (λ s. Holds Fields (at_place x s) f p) (field_points side x f)
field_points_suffice side x f p s c o = (
  λ t.
      let b : Begins side (Among (field_points side x f)) p (λ j n. TrueAt Fields f (move nat_eq p x j n)) t.0 t.1 =
      formula_begins side (Among (field_points side x f)) p x (inl refl) t.0 t.1 (pos_positive t.2) f s c (points_listed side x f) t.3 in
      among_some (λ q. Holds Fields (at_place x q) f p) (field_points side x f) b.place b.listed
      (begins_meets x p o (λ q. TrueAt Fields f q) t.0 t.1 (pos_positive t.2) side (Among (field_points side x f)) b),
  λ h.
      let m = some_among (λ q. Holds Fields (at_place x q) f p) (field_points side x f) h in
      meets_some m.0 x (λ q. TrueAt Fields f q) p (field_point_place side x f m.0 m.1) m.2,
)
