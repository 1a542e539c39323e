-- Rows that are asked about together, and when no point meets those that are marked.
use Rattle.std.specs.Prelude.{◌≡◌, ℕ, ◌+◌, ◌-◌, Bool, true, false, List, Option, None, length, nat_lt, slice_index_or, if◌then◌else◌}
use Rattle.logic_meaning.specs.Context.{Fields}
use Rattle.logic_meaning.specs.Point.{Point, Of}
use Rattle.certificates.specs.declared.constraint.Constraint.{Constraint}
use Rattle.atom_pruning.specs.declared.rows.AtomRows.{AtomRows}
use Rattle.atom_pruning.specs.declared.row_list.RowList.{RowList}
use Rattle.atom_pruning.specs.Rows.{MeetsAny}

-- the rows of given atoms, of assumptions, and of atoms whose negations are asked about
pub record Asked : Type 0 where
  pub given : List AtomRows
  pub assumed : List AtomRows
  pub negated : List AtomRows

-- the rows of a list
abbrev pub asked_of : RowList → Asked
asked_of l = record { given = l.given.now; assumed = l.assumed.now; negated = l.negated.now }

-- an atom without rows
abbrev pub without_rows : AtomRows
without_rows = record { holds = None; fails = None }

-- where the rows of the negations begin
abbrev pub negations : Asked → ℕ
negations q = length q.given + length q.assumed

-- the row at a place: those of the given atoms stand first, then those of the assumptions, then those of the negations
abbrev pub row_at : Asked → ℕ → Option Constraint
row_at q k =
    if nat_lt k (length q.given) then (slice_index_or q.given k without_rows).holds
    else (if nat_lt k (negations q) then (slice_index_or q.assumed (k - length q.given) without_rows).holds
    else (slice_index_or q.negated (k - negations q) without_rows).fails)

-- the point meets each row that is marked
abbrev pub MeetsMarked : Point ℕ → Asked → List Bool → Type 0
MeetsMarked p q marks = (k : ℕ) → slice_index_or marks k false ≡ true → MeetsAny p (row_at q k)

-- no point of the ordered fields meets them all
abbrev pub AreRefuted : Asked → List Bool → Type 0
AreRefuted q marks = (p : Point ℕ) → Of Fields p → ¬ (MeetsMarked p q marks)

-- at each point of the ordered fields that meets the marked rows, the negation of the atom at the place is not met
abbrev pub AreEnoughFor : Asked → List Bool → ℕ → Type 0
AreEnoughFor q marks place = (p : Point ℕ) → Of Fields p → MeetsMarked p q marks → ¬ (MeetsAny p (slice_index_or q.negated place without_rows).fails)

-- a mark for each row, and none at a negation
pub record AreMarks (q : Asked) (marks : List Bool) : Type 0 where
  pub one_each : length marks ≡ negations q + length q.negated
  pub no_negation : (k : ℕ) → slice_index_or marks (negations q + k) false ≡ false
