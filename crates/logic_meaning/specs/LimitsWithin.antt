-- Numbers of atoms within a limit.
use Rattle.std.specs.Prelude.{◌≡◌, ℕ, pos}
use Rattle.exact_numbers.specs.Limit.{InLimit}
use Rattle.logic_meaning.specs.Context.{Context}
use Rattle.logic_meaning.specs.Formula.{One}
use Rattle.logic_meaning.specs.Form.{coefficient}
use Rattle.logic_meaning.specs.Atom.{Atom, form_of}
use Rattle.logic_meaning.specs.Answer.{Place}
use Rattle.logic_meaning.specs.Tree.{Tree}
use Rattle.logic_meaning.specs.BothTheories.{raw_atom}
use Rattle.logic_meaning.specs.Overflow.{NumbersWithin}
use Rattle.logic_meaning.specs.Steps.{normalised}
use Rattle.logic_meaning.specs.NormalForm.{normal_atom}

-- the constant of a normal form is within the limit
abbrev pub ConstantWithin : Tree → Type 0
ConstantWithin (One a) = InLimit (form_of a).constant
ConstantWithin f = Unit {0}

-- the numbers of an atom at the place and in normal form are; an atom without x forms none
abbrev pub AtomFormsWithin : Context → ℕ → Place → Atom → Type 0
AtomFormsWithin c x s a = ¬ (coefficient x (form_of a) ≡ pos 0) → NumbersWithin x s a × ConstantWithin (normalised (normal_atom c) (raw_atom c x s a))
