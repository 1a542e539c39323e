-- The truth of an atom at a point, as it is told by calculation.
use Rattle.std.specs.Prelude.{ℤ, pos, Bool, true, false, not}
use Rattle.std.specs.Ordering.{int_cmp, int_eq}
use Rattle.exact_numbers.specs.Divides.{residue_of}
use Rattle.logic_meaning.specs.Atom.{Atom, Compare, Congruent}
use Rattle.logic_meaning.specs.NormalForm.{holds}

-- whether the atom is true where its form has this value, over a denominator of 1 for a congruence
abbrev pub is_true_at : Atom → ℤ → Bool
is_true_at (Compare r f) v = holds r (int_cmp v (pos 0))
is_true_at (Congruent true n f) v = int_eq (residue_of v (pos n)) (pos 0)
is_true_at (Congruent false n f) v = not (int_eq (residue_of v (pos n)) (pos 0))
