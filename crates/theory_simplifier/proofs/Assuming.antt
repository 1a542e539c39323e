-- The assumptions, and what formulas in order have.
use Rattle.std.proofs.Common.{◌≡◌, refl, ap, ◌∙◌, List, [], ◌∷◌, map, append-nil}
use Rattle.logic_meaning.specs.Context.{Context}
use Rattle.logic_meaning.specs.Formula.{Yes, No, One, Not, And, Or, Impl, Repl, Equiv, Ex, All, none, also}
use Rattle.logic_meaning.specs.Every.{Every, EveryOf}
use Rattle.logic_meaning.specs.declared.junction.Junction.TheVariants.{Conjunction}
use Rattle.logic_meaning.specs.Atom.{Atom}
use Rattle.logic_meaning.specs.Tree.{Tree, Trees}
use Rattle.logic_meaning.specs.NormalForm.{IsNormal, negated_normal}
use Rattle.normal_atoms.specs.Computed.{IsNormalWithin}
use Rattle.logic_meaning.specs.AtomKit.{tells}
use Rattle.shape_theory.specs.Orderly.{IsOrderly, AreOrderly}
use Rattle.theory_simplifier.specs.declared.known.Frame.TheVariants.{Beside}
use Rattle.theory_simplifier.specs.Known.{known_atoms}

-- ---- the assumptions

tells_all : (us : List Atom) → map (tells negated_normal Conjunction) us ≡ us
tells_all [] = refl
tells_all (u ∷ us) = ap (λ vs. u ∷ vs) (tells_all us)

pub assumed_atoms : (us : List Atom) → known_atoms (Beside (record { junction = Conjunction; atoms = us }) ∷ []) ≡ us
assumed_atoms us = append-nil (map (tells negated_normal Conjunction) us) ∙ tells_all us

-- ---- formulas

module _ (c : Context) where
  mutual
    pub orderly_normal : (f : Tree) → IsOrderly (IsNormalWithin c) f → IsOrderly (IsNormal c) f
    orderly_normal Yes h = tt
    orderly_normal No h = tt
    orderly_normal (One a) h = h.normal
    orderly_normal (Not f) h = h
    orderly_normal (And fs) h = (h.0, all_orderly_normal fs h.1)
    orderly_normal (Or fs) h = (h.0, all_orderly_normal fs h.1)
    orderly_normal (Impl f g) h = h
    orderly_normal (Repl f g) h = h
    orderly_normal (Equiv f g) h = h
    orderly_normal (Ex x f) h = orderly_normal f h
    orderly_normal (All x f) h = orderly_normal f h

    all_orderly_normal : (fs : Trees) → AreOrderly (IsNormalWithin c) fs → AreOrderly (IsNormal c) fs
    all_orderly_normal none h = tt
    all_orderly_normal (also f fs) h = (orderly_normal f h.0, all_orderly_normal fs h.1)

  mutual
    pub every_normal : (f : Tree) → IsOrderly (IsNormal c) f → Every (IsNormal c) f
    every_normal Yes h = tt
    every_normal No h = tt
    every_normal (One a) h = h
    every_normal (Not f) h = absurd h
    every_normal (And fs) h = all_every_normal fs h.1
    every_normal (Or fs) h = all_every_normal fs h.1
    every_normal (Impl f g) h = absurd h
    every_normal (Repl f g) h = absurd h
    every_normal (Equiv f g) h = absurd h
    every_normal (Ex x f) h = every_normal f h
    every_normal (All x f) h = every_normal f h

    all_every_normal : (fs : Trees) → AreOrderly (IsNormal c) fs → EveryOf (IsNormal c) fs
    all_every_normal none h = tt
    all_every_normal (also f fs) h = (every_normal f h.0, all_every_normal fs h.1)
