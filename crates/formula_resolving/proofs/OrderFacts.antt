-- The order of the causes.
use Rattle.std.proofs.Common.{◌≡◌, List, ◌∷◌, ◌++◌, refl, rules}
use Rattle.logic_meaning.specs.Some.{Among, EachOf}
use Rattle.language_meaning.specs.declared.static_error.StaticError.{StaticError}
use Rattle.language_meaning.specs.declared.static_error.StaticError.TheVariants.{Unbound, FormulaAsTerm, Nonlinear, Division, CongruenceContext, Modulus, Depth, Overflow, Memory}
use Rattle.language_meaning.specs.Refusals.{order, before}

-- each cause stands in the order, behind those that come before it
behind : (e : StaticError) → ¬ (e ≡ Memory) → (rest : List StaticError) × (order ≡ before e ++ e ∷ rest)
behind Unbound n = (_, refl)
behind FormulaAsTerm n = (_, refl)
behind Nonlinear n = (_, refl)
behind Division n = (_, refl)
behind CongruenceContext n = (_, refl)
behind Modulus n = (_, refl)
behind Depth n = (_, refl)
behind Overflow n = (_, refl)
behind Memory n = absurd (n refl)

-- want of memory comes before none
pub no_memory : (e : StaticError) → EachOf (λ d. ¬ (d ≡ Memory)) (before e)
no_memory e = search rules

module _ (R : StaticError → Type 0) where
  -- what each cause has that is one
  pub each_cause : ((d : StaticError) → ¬ (d ≡ Memory) → R d) → EachOf R order
  each_cause h = search rules

  pub each_before : (e : StaticError) → EachOf R order → EachOf R (before e)
  each_before e h = search rules

  -- what those before a cause have, those before an earlier one have
  pub each_earlier : (d e : StaticError) → Among (before e) d → EachOf R (before e) → EachOf R (before d)
  each_earlier d e m h = search rules

  -- and those before one that is not later
  pub each_no_later : (d e : StaticError) → ¬ (d ≡ Memory) → ¬ (Among (before e) d) → EachOf R (before d) → EachOf R (before e)
  each_no_later d e n m h = search rules
