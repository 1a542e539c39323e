-- A tidy formula without free names is a constant.
use Rattle.std.proofs.Common.{◌≡◌, ◌⊎◌, inl, inr, refl}
use Rattle.logic_meaning.specs.Context.{Context}
use Rattle.logic_meaning.specs.Formula.{Yes, No, One, Not, And, Or, Impl, Repl, Equiv, Ex, All}
use Rattle.logic_meaning.specs.Tree.{Tree}
use Rattle.elimination_theory.specs.Theorems.{IsProper}
use Rattle.elimination_theory.proofs.Sample.{has_name}
use Rattle.sample_reference.specs.SentenceTheoryTheorems.{ClosedTidyIsConstant}

-- a formula is a constant, or none
constant_or_proper : (f : Tree) → (f ≡ Yes) ⊎ (f ≡ No) ⊎ IsProper f
constant_or_proper Yes = inl refl
constant_or_proper No = inr (inl refl)
constant_or_proper (One a) = inr (inr tt)
constant_or_proper (Not f) = inr (inr tt)
constant_or_proper (And fs) = inr (inr tt)
constant_or_proper (Or fs) = inr (inr tt)
constant_or_proper (Impl f g) = inr (inr tt)
constant_or_proper (Repl f g) = inr (inr tt)
constant_or_proper (Equiv f g) = inr (inr tt)
constant_or_proper (Ex x f) = inr (inr tt)
constant_or_proper (All x f) = inr (inr tt)

-- A tidy formula without free names is a constant.
pub closed_constant : (c : Context) → ClosedTidyIsConstant c
closed_constant c f tidy closed = go (constant_or_proper f)
  where
    go : (f ≡ Yes) ⊎ (f ≡ No) ⊎ IsProper f → (f ≡ Yes) ⊎ (f ≡ No)
    go (inl always) = inl always
    go (inr (inl never)) = inr never
    go (inr (inr proper)) = let named = has_name c f tidy.is_plain tidy.normal tidy.two_members proper in absurd (closed named.0 named.1)
