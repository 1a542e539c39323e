-- The rule on all, as a law of the definition: working on the negation of a formula is working on the formula with the other sign.
use Rattle.std.specs.Prelude.{◌≡◌, ℕ, Bool, true, false, not, List, [], ◌∷◌}
use Rattle.logic_meaning.specs.Context.{Context}
use Rattle.logic_meaning.specs.Formula.{All}
use Rattle.logic_meaning.specs.Every.{Every}
use Rattle.logic_meaning.specs.Plain.{IsNegationNormal}
use Rattle.logic_meaning.specs.Tree.{Tree}
use Rattle.logic_meaning.specs.NormalForm.{IsNormal}
use Rattle.logic_meaning.specs.Reference.{turned, branches, closed}

-- all(x, f) is the negation of what ex(x, not f) gives
pub record AllIsTurned (c : Context) (limit : ℕ) (f : Tree) : Type 0 where
  pub turned_round : (names : List ℕ) (sign : Bool) → branches c limit names (not sign) f ≡ branches c limit names sign (turned false f)
  pub all : (names : List ℕ) (x : ℕ) → branches c limit names true (All x f) ≡ closed c limit false x (branches c limit (x ∷ []) true (turned false f))

abbrev pub AllIsNegatedEx : Type 0
AllIsNegatedEx = (c : Context) (limit : ℕ) (f : Tree) → IsNegationNormal f → Every (IsNormal c) f → AllIsTurned c limit f
