-- The prenex form of any formula, by its negation normal form.
use Rattle.std.specs.Prelude.{ℕ}
use Rattle.logic_meaning.specs.Context.{Context}
use Rattle.logic_meaning.specs.Tree.{Tree}
use Rattle.language_meaning.specs.Somewhere.{SomeAtom}
use Rattle.logic_meaning.specs.NormalForm.{normal_atom, ConstantPasses}
use Rattle.logic_meaning.specs.Renaming.{with_chosen_names}

-- the normal form of some atom of the formula, with its names chosen, passes the limit of numbers
abbrev pub OverflowsInRenaming : Context → ℕ → Tree → Type 0
OverflowsInRenaming c count f = SomeAtom (λ a. ConstantPasses (normal_atom c a)) (with_chosen_names count f)
