-- What is proved of merging and deciding, as statements that the functions of this crate promise.
use Rattle.std.specs.Prelude.{◌↔◌, ℕ}
use Rattle.exact_numbers.specs.Limit.{InLimit}
use Rattle.logic_meaning.specs.Context.{Context}
use Rattle.logic_meaning.specs.Point.{Point, Of}
use Rattle.logic_meaning.specs.Atom.{Atom, Says, Mentions, form_of}
use Rattle.logic_meaning.specs.declared.junction.Junction.{Junction}
use Rattle.logic_meaning.specs.NormalForm.{IsNormal}
use Rattle.normal_atoms.specs.Merged.{IsDecision}
use Rattle.normal_atoms.specs.Computed.{merged, decided_by, IsRight, IsNormalWithin}
use Rattle.logic_meaning.specs.Merging.{Joined, IsSettled, Settles, MergesInto, IsKept, Implies, Excludes}

-- at every point of the theory the atom into which two merge is true exactly where both are, or one of them is
abbrev pub MergingKeepsTruth : Type 0
MergingKeepsTruth = (c : Context) (j : Junction) (a b e : Atom) → IsNormal c a → IsNormal c b → MergesInto c j a b e → (p : Point ℕ) → Of c p → Says e p ↔ Joined j (Says a p) (Says b p)

-- at every point of the theory two atoms whose join is settled are not both true, or one of them is true
abbrev pub SettlingIsSound : Type 0
SettlingIsSound = (c : Context) (j : Junction) (a b : Atom) → IsNormal c a → IsNormal c b → Settles c j a b → (p : Point ℕ) → Of c p → IsSettled j (Says a p) (Says b p)

-- the atom into which two merge has no name that one of them has not
abbrev pub MergingBringsNoName : Type 0
MergingBringsNoName = (c : Context) (j : Junction) (a b e : Atom) → IsNormal c a → IsNormal c b → MergesInto c j a b e → (x : ℕ) → Mentions e x → Mentions a x × Mentions b x

-- an atom within the limit merges with itself
abbrev pub AtomMergesWithItself : Type 0
AtomMergesWithItself = (c : Context) (j : Junction) (a : Atom) → IsNormal c a → InLimit (form_of a).constant → ¬ (IsKept c j a a)

-- what follows from an atom is true at each point of the theory where the atom is
abbrev pub DecidingIsSound : Type 0
DecidingIsSound = (c : Context) (a b : Atom) → IsNormal c a → IsNormal c b → (p : Point ℕ) → Of c p → (Implies c a b → Says a p → Says b p) × (Excludes c a b → Says a p → ¬ (Says b p))

-- the functions that compute merging and deciding are right of normal atoms within the limit
abbrev pub MergingIsComputed : Type 0
MergingIsComputed = (c : Context) (j : Junction) (a b : Atom) → IsNormalWithin c a → IsNormalWithin c b → IsRight c j a b (merged c j a b)

abbrev pub DecidingIsComputed : Type 0
DecidingIsComputed = (c : Context) (a b : Atom) → IsNormal c a → IsNormal c b → IsDecision c a b (decided_by c a b)
