-- Lists of atoms as paths from place to place, and searches along them.
use Rattle.std.specs.Prelude.{◌≡◌, ℕ, nat_eq, nat_le, ◌&&◌, Bool, true, false, List, [], ◌∷◌, Option, Some, None, IsSome, drop}
use Rattle.std.specs.HashMap.{get}
use Rattle.formula_store.specs.declared.id.FormulaId.{FormulaId}
use Rattle.formula_store.specs.Order.{Rises}
use Rattle.normal_forms.specs.declared.paths.Paths.{Paths}
use Rattle.normal_forms.specs.declared.paths.Place.{Place}
use Rattle.normal_forms.specs.declared.paths.Visit.{Visit}
use Rattle.normal_forms.specs.Atoms.{same_id, is_within}

-- the same atom, from the same place
abbrev pub same_step : ℕ × FormulaId → ℕ × FormulaId → Bool
same_step a b = nat_eq a.0 b.0 && same_id a.1 b.1

-- where the atom leads from the place
abbrev pub next_from : Paths → ℕ → FormulaId → Option ℕ
next_from p n u = get same_step p.steps (n, u)

abbrev pub or_bare : Option Place → Place
or_bare None = record { greatest = None; list = None }
or_bare (Some x) = x

-- what is known of a place
abbrev pub place_at : Paths → ℕ → Place
place_at p n = or_bare (get nat_eq p.places n)

abbrev pub up_to : Option FormulaId → FormulaId → Bool
up_to None u = false
up_to (Some v) u = nat_le u.number v.number

-- this atom, or a greater one, leads on from a place
abbrev pub goes_up_to : Place → FormulaId → Bool
goes_up_to x u = up_to x.greatest u

-- the atom leads from the place to this one
pub record LeadsTo (p : Paths) (n : ℕ) (u : FormulaId) (m : ℕ) : Type 0 where
  pub up_to : goes_up_to (place_at p n) u ≡ true
  pub next : next_from p n u ≡ Some m

-- The atoms lead from the place to one where a list ends.
abbrev pub Leads : Paths → ℕ → List FormulaId → Type 0
Leads p n [] = IsSome (place_at p n).list
Leads p n (u ∷ us) = (m : ℕ) × LeadsTo p n u m × Leads p m us

-- Where atoms led before, they lead now.
pub record Grows (old new : Paths) : Type 0 where
  pub steps : (n : ℕ) (u : FormulaId) (m : ℕ) → next_from old n u ≡ Some m → next_from new n u ≡ Some m
  pub ends : (n : ℕ) → IsSome (place_at old n).list → IsSome (place_at new n).list
  pub up_to : (n : ℕ) (u : FormulaId) → goes_up_to (place_at old n) u ≡ true → goes_up_to (place_at new n) u ≡ true

-- This is known of the place now, and all else is as before.
pub record Notes (old new : Paths) (n : ℕ) (x : Place) : Type 0 where
  pub steps : (m : ℕ) (u : FormulaId) → next_from new m u ≡ next_from old m u
  pub here : place_at new n ≡ x
  pub others : (m : ℕ) → nat_eq n m ≡ false → place_at new m ≡ place_at old m

-- From the place that is visited some of the atoms that are left, whose ids rise, lead to one where a list ends.
pub record CanGoOn (p : Paths) (atoms : List FormulaId) (visit : Visit) : Type 0 where
  pub ahead : List FormulaId
  pub leads : Leads p visit.place ahead
  pub rise : Rises ahead
  pub within : is_within ahead (drop visit.from atoms) ≡ true
