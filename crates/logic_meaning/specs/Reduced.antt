-- Formulas that are Reduced under a list of atoms: what simplification owes, whatever way it goes.
use Rattle.std.specs.Prelude.{◌≡◌, ℕ, Bool, List, [], ◌∷◌}
use Rattle.logic_meaning.specs.Formula.{Formula, Formulas, Yes, No, One, Not, And, Or, Impl, Repl, Equiv, Ex, All, none, also}
use Rattle.logic_meaning.specs.declared.junction.Junction.{Junction}
use Rattle.logic_meaning.specs.declared.junction.Junction.TheVariants.{Conjunction, Disjunction}
use Rattle.logic_meaning.specs.Some.{EachOf}
use Rattle.logic_meaning.specs.Every.{Free}
use Rattle.logic_meaning.specs.Members.{AreTwo}
use Rattle.logic_meaning.specs.AtomKit.{without, beside}

module _ {A : Type 0} where
  -- the atom, where the formula is one, before others
  abbrev pub atom_first : Formula A ℕ → List A → List A
  atom_first (One a) us = a ∷ us
  atom_first f us = us

  -- the atoms among the members
  abbrev pub atoms_of : Formulas A ℕ → List A
  atoms_of none = []
  atoms_of (also f fs) = atom_first f (atoms_of fs)

  -- neither a constant nor a list of the same junction
  abbrev pub MayStand : Junction → Formula A ℕ → Type 0
  MayStand j Yes = ⊥
  MayStand j No = ⊥
  MayStand Conjunction (And fs) = ⊥
  MayStand Disjunction (Or fs) = ⊥
  MayStand j f = Unit {0}

  -- for an atom the first list, for any other formula the second
  abbrev pub under : Formula A ℕ → List A → List A → List A
  under (One a) ks ls = ks
  under f ks ls = ls

  -- no member is equal to f
  abbrev pub HasNone : Formula A ℕ → Formulas A ℕ → Type 0
  HasNone f none = Unit {0}
  HasNone f (also g gs) = ¬ (f ≡ g) × HasNone f gs

  -- no two members are equal
  abbrev pub AreDifferent : Formulas A ℕ → Type 0
  AreDifferent none = Unit {0}
  AreDifferent (also f fs) = HasNone f fs × AreDifferent fs

-- Keeps j a b: a and b do not merge in a list of the junction. Undecided k a: k does not decide a.
module _ {A : Type 0} (Keeps : Junction → A → A → Type 0) (Undecided : A → A → Type 0) (opposite : A → A) (contains : A → ℕ → Bool) (Mentions : A → ℕ → Type 0) where
  -- no two of the atoms merge
  abbrev pub AreKept : Junction → List A → Type 0
  AreKept j [] = Unit {0}
  AreKept j (a ∷ us) = EachOf (Keeps j a) us × AreKept j us

  -- no atom of the list decides a
  abbrev pub IsUndecided : List A → A → Type 0
  IsUndecided ks a = EachOf (λ k. Undecided k a) ks

  -- two members at least, no two equal, no two atoms that merge, and what is owed of each member
  abbrev pub IsListOf : Junction → Formulas A ℕ → Type 0 → Type 0
  IsListOf j fs Members = AreTwo fs × AreDifferent fs × AreKept j (atoms_of fs) × Members

  abbrev mutual
    -- The formula is Reduced under the atoms ks and may stand inside another: it is no constant.
    pub ReducedInside : Formula A ℕ → List A → Type 0
    ReducedInside Yes ks = ⊥
    ReducedInside No ks = ⊥
    ReducedInside (One a) ks = IsUndecided ks a
    ReducedInside (Not f) ks = ⊥
    ReducedInside (And fs) ks = IsListOf Conjunction fs (MembersReduced fs Conjunction ks (beside opposite Conjunction (atoms_of fs) ks))
    ReducedInside (Or fs) ks = IsListOf Disjunction fs (MembersReduced fs Disjunction ks (beside opposite Disjunction (atoms_of fs) ks))
    ReducedInside (Impl f g) ks = ⊥
    ReducedInside (Repl f g) ks = ⊥
    ReducedInside (Equiv f g) ks = ⊥
    ReducedInside (Ex x f) ks = Free Mentions f x × ReducedInside f (without contains x ks)
    ReducedInside (All x f) ks = Free Mentions f x × ReducedInside f (without contains x ks)

    -- each member may stand in a list of the junction, and is Reduced: an atom under ks, any other member under ls
    pub MembersReduced : Formulas A ℕ → Junction → List A → List A → Type 0
    MembersReduced none j ks ls = Unit {0}
    MembersReduced (also f fs) j ks ls = MayStand j f × ReducedInside f (under f ks ls) × MembersReduced fs j ks ls

  -- Reduced under the atoms ks
  abbrev pub Reduced : Formula A ℕ → List A → Type 0
  Reduced Yes ks = Unit {0}
  Reduced No ks = Unit {0}
  Reduced f ks = ReducedInside f ks
