-- What may be simplified, under what, and what is owed.
use Rattle.std.specs.Prelude.{ℕ, ◌↔◌, List}
use Rattle.logic_meaning.specs.Context.{Context}
use Rattle.logic_meaning.specs.Point.{Point, Of}
use Rattle.logic_meaning.specs.Some.{EachOf}
use Rattle.logic_meaning.specs.Atom.{Atom, Says}
use Rattle.logic_meaning.specs.Tree.{Tree, TrueAt}
use Rattle.normal_atoms.specs.Computed.{IsNormalWithin}
use Rattle.shape_theory.specs.Orderly.{IsOrderly}
use Rattle.shape_theory.specs.AtomKit.{atom_kit}
use Rattle.shape_theory.specs.Pass.{simplified}

-- in negation normal form, with two members at least in each list, and normal atoms whose constants are within the limit
abbrev pub IsSimplifiable : Context → Tree → Type 0
IsSimplifiable c f = IsOrderly (IsNormalWithin c) f

-- normal atoms whose constants are within the limit
abbrev pub AreAssumable : Context → List Atom → Type 0
AreAssumable c ks = EachOf (IsNormalWithin c) ks

-- the two have one truth at every point of the theory where all the atoms are true
abbrev pub EquivalentUnder : Context → List Atom → Tree → Tree → Type 0
EquivalentUnder c ks f g = (p : Point ℕ) → Of c p → EachOf (λ k. Says k p) ks → TrueAt c f p ↔ TrueAt c g p

-- f simplified under the atoms ks
abbrev pub simplified_under : Context → List Atom → Tree → Tree
simplified_under c ks f = simplified (atom_kit c) f ks
