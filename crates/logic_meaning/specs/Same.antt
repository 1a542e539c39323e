-- Equality tests of forms and atoms.
use Rattle.std.specs.Prelude.{ℕ, Bool, true, false, ◌&&◌, List, [], ◌∷◌, nat_eq}
use Rattle.std.specs.Ordering.{int_eq}
use Rattle.logic_meaning.specs.Form.{Form, Term}
use Rattle.logic_meaning.specs.Atom.{Atom, Compare, Congruent, Relation, Equals, Differs, Below, AtMost, Above, AtLeast}

-- the same terms in the same order
abbrev pub same_terms : List Term → List Term → Bool
same_terms [] [] = true
same_terms [] (u ∷ us) = false
same_terms (t ∷ ts) [] = false
same_terms (t ∷ ts) (u ∷ us) = int_eq t.times u.times && (nat_eq t.name u.name && same_terms ts us)

-- the same constant, and the same terms in the same order
abbrev pub same_form : Form → Form → Bool
same_form f g = int_eq f.constant g.constant && same_terms f.terms g.terms

-- a number for each relation
abbrev pub rank : Relation → ℕ
rank Equals = 0
rank Differs = 1
rank Below = 2
rank AtMost = 3
rank Above = 4
rank AtLeast = 5

-- the same relation, or the same truth and modulus of a congruence, of the same form
abbrev pub same_atom : Atom → Atom → Bool
same_atom (Compare r f) (Compare s g) = nat_eq (rank r) (rank s) && same_form f g
same_atom (Congruent true m f) (Congruent true n g) = nat_eq m n && same_form f g
same_atom (Congruent false m f) (Congruent false n g) = nat_eq m n && same_form f g
same_atom _ _ = false
