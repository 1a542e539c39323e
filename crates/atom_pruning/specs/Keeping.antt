-- Marked atoms that imply others, place by place.
use Rattle.std.specs.Prelude.{◌≡◌, ℕ, zero, suc, ◌<◌, Bool, true, false, List, [], ◌∷◌, length, slice_index_or}
use Rattle.logic_meaning.specs.Context.{Context}
use Rattle.logic_meaning.specs.Point.{Point, Of}
use Rattle.logic_meaning.specs.Atom.{Atom, Says}
use Rattle.atom_pruning.specs.declared.rows.AtomRows.{AtomRows}
use Rattle.atom_pruning.specs.Rows.{AreRows}
use Rattle.atom_pruning.specs.Kept.{AllSay}
use Rattle.atom_pruning.specs.Asked.{Asked}

-- the atom at a place is true at the point, if there is one
abbrev pub SaysAt : List Atom → ℕ → Point ℕ → Type 0
SaysAt [] k p = Unit {0}
SaysAt (a ∷ us) zero p = Says a p
SaysAt (a ∷ us) (suc k) p = SaysAt us k p

-- the atoms with a mark and the assumptions imply those below a place
abbrev pub KeepBelow : List AtomRows → List AtomRows → List Bool → ℕ → Type 0
KeepBelow assumed atoms marks n =
    (c : Context) (ks us : List Atom) → AreRows c ks assumed → AreRows c us atoms → (p : Point ℕ) → Of c p → AllSay ks p
    → ((k : ℕ) → k < length atoms → slice_index_or marks k false ≡ true → SaysAt us k p)
    → (k : ℕ) → k < n → SaysAt us k p

-- they imply all
abbrev pub KeepEnough : List AtomRows → List AtomRows → List Bool → Type 0
KeepEnough assumed atoms marks = KeepBelow assumed atoms marks (length atoms)

-- the question whether atoms are needed
abbrev pub needed : List AtomRows → List AtomRows → Asked
needed assumed atoms = record { given = atoms; assumed = assumed; negated = atoms }

-- the question is whether these atoms are needed
abbrev pub IsNeeded : Asked → List AtomRows → Type 0
IsNeeded q atoms = q ≡ needed q.assumed atoms
