-- How an atom holds a name.
use Rattle.std.specs.Prelude.{◌≡◌, ℕ, pos, ◌<ℤ◌, Bool, true, false}
use Rattle.logic_meaning.specs.Form.{Form, coefficient}
use Rattle.logic_meaning.specs.Atom.{Atom, Compare, Congruent, Relation, Equals, Differs, Below, AtMost, Above, AtLeast, form_of}
use Rattle.field_shadows.specs.declared.hold.Bound.{Bound}
use Rattle.field_shadows.specs.declared.hold.Hold.{Hold}
use Rattle.field_shadows.specs.declared.hold.Hold.TheVariants.{Absent, Equation, Upper, Lower, Other}
use Rattle.field_shadows.specs.Signed.{form_of_signed}

-- the relation of a form that is bounded by 0, from above, or turned from below
abbrev pub bound_relation : Bool → Bool → Relation
bound_relation false true = Below
bound_relation false false = AtMost
bound_relation true true = Above
bound_relation true false = AtLeast

-- the form that is at most 0
abbrev pub form_of_bound : Bound → Form
form_of_bound b = form_of_signed b.form

-- the atom that says what the bound does
abbrev pub atom_of_bound : Bound → Atom
atom_of_bound b = Compare (bound_relation b.form.turned b.strict) b.form.form.now

-- the atom is neither a bound nor without the name
abbrev pub IsRest : Atom → Type 0
IsRest (Compare Equals f) = Unit {0}
IsRest (Compare Differs f) = Unit {0}
IsRest (Compare Below f) = ⊥
IsRest (Compare AtMost f) = ⊥
IsRest (Compare Above f) = ⊥
IsRest (Compare AtLeast f) = ⊥
IsRest (Congruent b m f) = Unit {0}

-- the atom is an equation with the name
abbrev pub IsEquation : ℕ → Atom → Type 0
IsEquation x (Compare Equals f) = ¬ (coefficient x f ≡ pos 0)
IsEquation x (Compare Differs f) = ⊥
IsEquation x (Compare Below f) = ⊥
IsEquation x (Compare AtMost f) = ⊥
IsEquation x (Compare Above f) = ⊥
IsEquation x (Compare AtLeast f) = ⊥
IsEquation x (Congruent b m f) = ⊥

-- what is told of the atom
abbrev pub IsHold : ℕ → Atom → Hold → Type 0
IsHold x u Absent = coefficient x (form_of u) ≡ pos 0
IsHold x u (Equation f) = (u ≡ Compare Equals f.now) × ¬ (coefficient x f.now ≡ pos 0)
IsHold x u (Upper b) = (u ≡ atom_of_bound b) × (pos 0 <ℤ coefficient x (form_of_bound b))
IsHold x u (Lower b) = (u ≡ atom_of_bound b) × (coefficient x (form_of_bound b) <ℤ pos 0)
IsHold x u Other = IsRest u × ¬ (coefficient x (form_of u) ≡ pos 0) × ¬ (IsEquation x u)
