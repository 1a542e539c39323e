-- The table for two comparisons of one variable part: their relations, and how their thresholds lie.
use Rattle.std.specs.Prelude.{Bool, true, false, ◌&&◌, pos, ◌+ℤ◌}
use Rattle.std.specs.declared.cmp.Ordering.TheVariants.{Less, Equal, Greater}
use Rattle.logic_meaning.specs.Context.{Context, Integers}
use Rattle.logic_meaning.specs.Form.{Form}
use Rattle.logic_meaning.specs.Atom.{Relation, Equals, Differs, Below, AtMost, Above, AtLeast, Atom, Compare, opposite_relation}
use Rattle.logic_meaning.specs.declared.junction.Junction.{Junction}
use Rattle.logic_meaning.specs.declared.junction.Junction.TheVariants.{Conjunction, Disjunction}
use Rattle.logic_meaning.specs.NormalForm.{holds}
use Rattle.normal_atoms.specs.Atoms.{relation_of}
use Rattle.normal_atoms.specs.declared.atom_merging_comparison.Position.{Position}
use Rattle.normal_atoms.specs.declared.atom_merging_comparison.Position.TheVariants as lies
use Rattle.normal_atoms.specs.declared.atom_merging_comparison.Verdict as code
use Rattle.normal_atoms.specs.declared.atom_merging_comparison.Verdict.TheVariants as coded

-- what becomes of two comparisons: nothing or everything, a relation at the first or at the second threshold, or both stay
pub data Verdict : Type 0 where
  Settled Kept : Verdict
  First Second : Relation → Verdict

-- the relation that holds below, at and above a threshold as told; no relation holds at all three
abbrev pub with_answers : Bool → Bool → Bool → Verdict
with_answers false false false = Settled
with_answers false true false = First Equals
with_answers true false true = First Differs
with_answers true false false = First Below
with_answers true true x = First AtMost
with_answers false false true = First Above
with_answers false true true = First AtLeast

-- both relations at one threshold
abbrev pub at_one : Relation → Relation → Verdict
at_one r s = with_answers (holds r Less && holds s Less) (holds r Equal && holds s Equal) (holds r Greater && holds s Greater)

-- between the thresholds the first relation holds or not, and the second
abbrev pub between : Bool → Bool → Relation → Relation → Verdict
between true true r s = Kept
between true false r s = Second s
between false true r s = First r
between false false r s = Settled

-- the first threshold below the second
abbrev pub apart : Relation → Relation → Verdict
apart r s = between (holds r Greater) (holds s Less) r s

-- the first threshold just below the second, with no number between
abbrev pub next_to : Relation → Relation → Verdict
next_to Above AtMost = Second Equals
next_to Above Differs = Second Above
next_to r s = apart r s

-- the thresholds change places
abbrev pub swapped : Verdict → Verdict
swapped Settled = Settled
swapped Kept = Kept
swapped (First r) = Second r
swapped (Second r) = First r

-- the two comparisons joined by and
abbrev pub both : Position → Relation → Relation → Verdict
both lies.Same r s = at_one r s
both lies.Below r s = apart r s
both lies.NextBelow r s = next_to r s
both lies.Above r s = swapped (apart s r)
both lies.NextAbove r s = swapped (next_to s r)

-- with the opposite relation
abbrev pub opposed : Verdict → Verdict
opposed Settled = Settled
opposed Kept = Kept
opposed (First r) = First (opposite_relation r)
opposed (Second r) = Second (opposite_relation r)

-- the two comparisons joined
abbrev pub verdict : Junction → Position → Relation → Relation → Verdict
verdict Conjunction p r s = both p r s
verdict Disjunction p r s = opposed (both p (opposite_relation r) (opposite_relation s))

-- the join is settled
abbrev pub IsDecisive : Verdict → Type 0
IsDecisive Settled = Unit {0}
IsDecisive Kept = ⊥
IsDecisive (First r) = ⊥
IsDecisive (Second r) = ⊥

-- the program's verdict
abbrev pub verdict_of : code.Verdict → Verdict
verdict_of coded.Settled = Settled
verdict_of coded.Kept = Kept
verdict_of (coded.First r) = First (relation_of r)
verdict_of (coded.Second r) = Second (relation_of r)

-- the comparison as a normal atom: over the integers v < 0 is v + 1 <= 0, and v >= 0 is v + 1 > 0
abbrev pub normal_comparison : Context → Relation → Form → Atom
normal_comparison Integers Below f = Compare AtMost (record { terms = f.terms; constant = f.constant +ℤ pos 1 })
normal_comparison Integers AtLeast f = Compare Above (record { terms = f.terms; constant = f.constant +ℤ pos 1 })
normal_comparison c r f = Compare r f
