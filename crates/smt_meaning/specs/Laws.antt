-- What is proved of meanings, as statements that the functions of this crate promise.
use Rattle.std.specs.Prelude.{◌≡◌, ℕ, ◌+◌, List, Some, length}
use Rattle.logic_meaning.specs.Context.{Context}
use Rattle.smt_language.specs.Trees.{ExpressionTree}
use Rattle.smt_meaning.specs.Atoms.{IsBelow, IsClosedBelow}
use Rattle.smt_language.specs.QuantifiedNames.{quantified_names}
use Rattle.smt_language.specs.Meaning.{Scope, meaning, declared_scope}
use Rattle.smt_language.specs.Operators.{Meaning}
use Rattle.smt_meaning.specs.Proper.{IsProper}

-- each atom of what a proper expression means is of the theory, and no name is needed but those of the levels of the declared and
-- the quantified names
abbrev pub LevelsSuffice : Type 0
LevelsSuffice = (c : Context) (declared : List (List ℕ)) (e : ExpressionTree) (m : Meaning) → IsProper e → meaning c (declared_scope declared) (length declared) e ≡ Some m → IsBelow c (length declared + quantified_names e) m

-- Where symbols stand for what has free names of levels below n alone, so has what an expression means inside n names. The names
-- of quantifiers further inside have levels from n on, so they capture none of these.
abbrev pub NothingIsCaptured : Type 0
NothingIsCaptured = (c : Context) (scope : Scope) (n : ℕ) (e : ExpressionTree) (m : Meaning) → ((x : List ℕ) (k : Meaning) → scope x ≡ Some k → IsClosedBelow n k) → meaning c scope n e ≡ Some m → IsClosedBelow n m
