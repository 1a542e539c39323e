-- Normal atoms whose numbers are within the limit can be simplified and assumed.
use Rattle.std.proofs.Common.{List, [], ◌∷◌}
use Rattle.exact_numbers.specs.Limit.{InLimit}
use Rattle.logic_meaning.specs.Context.{Context}
use Rattle.logic_meaning.specs.Formula.{Yes, No, One, Not, And, Or, Impl, Repl, Equiv, Ex, All, none, also}
use Rattle.logic_meaning.specs.Every.{Every, EveryOf}
use Rattle.logic_meaning.specs.Some.{EachOf}
use Rattle.logic_meaning.specs.Atom.{Atom, Compare, Congruent, form_of}
use Rattle.logic_meaning.specs.Numbers.{IsAtomInLimit}
use Rattle.logic_meaning.specs.Tree.{Tree, Trees}
use Rattle.logic_meaning.specs.NormalForm.{IsNormal}
use Rattle.normal_atoms.specs.Computed.{IsNormalWithin}
use Rattle.shape_theory.specs.Orderly.{IsOrderly, AreOrderly}
use Rattle.shape_theory.specs.Simplifiable.{IsSimplifiable, AreAssumable}

constant_within : (a : Atom) → IsAtomInLimit a → InLimit (form_of a).constant
constant_within (Compare r f) h = h.0
constant_within (Congruent b m f) h = h.1.0

pub assumable : (c : Context) (us : List Atom) → EachOf (IsNormal c) us → EachOf IsAtomInLimit us → AreAssumable c us
assumable c [] h k = tt
assumable c (u ∷ us) h k = (record { normal = h.0; within = constant_within u k.0 }, assumable c us h.1 k.1)

module _ (c : Context) where
  mutual
    pub simplifiable : (f : Tree) → IsOrderly (IsNormal c) f → Every IsAtomInLimit f → IsSimplifiable c f
    simplifiable Yes h k = tt
    simplifiable No h k = tt
    simplifiable (One a) h k = record { normal = h; within = constant_within a k }
    simplifiable (Not f) h k = h
    simplifiable (And fs) h k = (h.0, all_simplifiable fs h.1 k)
    simplifiable (Or fs) h k = (h.0, all_simplifiable fs h.1 k)
    simplifiable (Impl f g) h k = h
    simplifiable (Repl f g) h k = h
    simplifiable (Equiv f g) h k = h
    simplifiable (Ex x f) h k = simplifiable f h k
    simplifiable (All x f) h k = simplifiable f h k

    all_simplifiable : (fs : Trees) → AreOrderly (IsNormal c) fs → EveryOf IsAtomInLimit fs → AreOrderly (IsNormalWithin c) fs
    all_simplifiable none h k = tt
    all_simplifiable (also f fs) h k = (simplifiable f h.0 k.0, all_simplifiable fs h.1 k.1)
