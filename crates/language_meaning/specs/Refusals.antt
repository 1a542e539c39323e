-- Why a formula is not resolved: the first cause that applies.
use Rattle.std.specs.Prelude.{ℕ, List, [], ◌∷◌}
use Rattle.logic_meaning.specs.Context.{Context}
use Rattle.logic_meaning.specs.Some.{EachOf}
use Rattle.language_meaning.specs.Trees.{FormulaTree}
use Rattle.language_meaning.specs.Resolving.{BoundTrees}
use Rattle.logic_meaning.specs.Names.{place}
use Rattle.language_meaning.specs.NamesAfter.{names_after}
use Rattle.language_meaning.specs.Causes as cause
use Rattle.language_meaning.specs.declared.static_error.StaticError.{StaticError}
use Rattle.language_meaning.specs.declared.static_error.StaticError.TheVariants.{Unbound, FormulaAsTerm, Nonlinear, Division, CongruenceContext, Modulus, Depth, Overflow, Memory}

-- The order in which the causes are looked for. Want of memory has no place: it may come at any time.
abbrev pub order : List StaticError
order = Unbound ∷ FormulaAsTerm ∷ Nonlinear ∷ Division ∷ CongruenceContext ∷ Modulus ∷ Depth ∷ Overflow ∷ []

-- the causes that come before this one in the order
abbrev pub before : StaticError → List StaticError
before Unbound = []
before FormulaAsTerm = Unbound ∷ []
before Nonlinear = Unbound ∷ FormulaAsTerm ∷ []
before Division = Unbound ∷ FormulaAsTerm ∷ Nonlinear ∷ []
before CongruenceContext = Unbound ∷ FormulaAsTerm ∷ Nonlinear ∷ Division ∷ []
before Modulus = Unbound ∷ FormulaAsTerm ∷ Nonlinear ∷ Division ∷ CongruenceContext ∷ []
before Depth = Unbound ∷ FormulaAsTerm ∷ Nonlinear ∷ Division ∷ CongruenceContext ∷ Modulus ∷ []
before Overflow = Unbound ∷ FormulaAsTerm ∷ Nonlinear ∷ Division ∷ CongruenceContext ∷ Modulus ∷ Depth ∷ []
before Memory = order

-- The cause applies to the formula, whose new variables come after the names. Want of memory has no cause.
abbrev pub Applies : Context → BoundTrees → List (List ℕ) → FormulaTree → StaticError → Type 0
Applies c bound names f Unbound = cause.IsUnbound bound f
Applies c bound names f FormulaAsTerm = cause.NamesFormulaAsTerm bound f
Applies c bound names f Nonlinear = cause.IsNonlinear c (place (names_after names f)) f
Applies c bound names f Division = cause.Divides c (place (names_after names f)) f
Applies c bound names f CongruenceContext = cause.CongruenceInFields c f
Applies c bound names f Modulus = cause.IsBadModulus c (place (names_after names f)) f
Applies c bound names f Depth = cause.IsTooDeep bound f
Applies c bound names f Overflow = cause.OverflowsInReading c bound (place (names_after names f)) f
Applies c bound names f Memory = Unit {0}

-- it applies, and no earlier one does
pub record IsFirst (c : Context) (bound : BoundTrees) (names : List (List ℕ)) (f : FormulaTree) (e : StaticError) : Type 0 where
  pub applies : Applies c bound names f e
  pub first : EachOf (λ d. ¬ (Applies c bound names f d)) (before e)
