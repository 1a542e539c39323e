-- The atoms that are known at a place of a formula, by what encloses it.
use Rattle.std.specs.Prelude.{List, [], ◌∷◌, ◌++◌}
use Rattle.logic_meaning.specs.Context.{Context}
use Rattle.logic_meaning.specs.Some.{EachOf}
use Rattle.logic_meaning.specs.Atom.{Atom}
use Rattle.normal_atoms.specs.Computed.{IsNormalWithin}
use Rattle.logic_meaning.specs.AtomKit.{without}
use Rattle.logic_meaning.specs.Contained.{contains}
use Rattle.theory_simplifier.specs.declared.known.Frame.{Frame}
use Rattle.theory_simplifier.specs.declared.known.Frame.TheVariants.{Beside, Under}
use Rattle.theory_simplifier.specs.Listed.{told_by}

-- what is known inside: the atoms of a list come first, and below a quantifier those that contain its name are not known
abbrev pub inside : Frame → List Atom → List Atom
inside (Beside l) ks = told_by l ++ ks
inside (Under x) ks = without contains x.number ks

-- what is known inside of all, the outermost first
abbrev pub known_inside : List Atom → List Frame → List Atom
known_inside ks [] = ks
known_inside ks (f ∷ fs) = known_inside (inside f ks) fs

abbrev pub known_atoms : List Frame → List Atom
known_atoms fs = known_inside [] fs

-- the atoms are normal, and their constants within the limit
abbrev pub IsNormalFrame : Context → Frame → Type 0
IsNormalFrame c (Beside l) = EachOf (IsNormalWithin c) l.atoms
IsNormalFrame c (Under x) = Unit {0}

abbrev pub AreNormalFrames : Context → List Frame → Type 0
AreNormalFrames c fs = EachOf (IsNormalFrame c) fs
