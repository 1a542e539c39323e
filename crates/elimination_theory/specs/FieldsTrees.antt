-- A formula put to a place of the fields.
use Rattle.std.specs.Prelude.{ℕ}
use Rattle.logic_meaning.specs.Answer.{Place}
use Rattle.logic_meaning.specs.Replaced.{replaced}
use Rattle.logic_meaning.specs.Tree.{Tree}
use Rattle.logic_meaning.specs.FieldsSubstitution.{field_atom}

-- a formula with x at the place
abbrev pub field_substitution : ℕ → Place → Tree → Tree
field_substitution x s f = replaced (field_atom x s) (λ y. y) f
