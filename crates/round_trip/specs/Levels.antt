-- How deeply the text of a tree is nested.
use Rattle.std.specs.Prelude.{ℕ, suc, ◌+◌, max}
use Rattle.logic_meaning.specs.Formula.{Yes, No, One, Not, And, Or, Impl, Repl, Equiv, Ex, All, none, also}
use Rattle.logic_meaning.specs.Atom.{Atom, Compare, Congruent}
use Rattle.logic_meaning.specs.Tree.{Tree, Trees}

-- the brackets of a congruence are one level
abbrev pub atom_level : Atom → ℕ
atom_level (Compare r f) = 0
atom_level (Congruent b m f) = 1

-- The highest level of a formula as a member or an argument, where its text alone has this one: its brackets are a level
-- more, and so is each not just before them, or before the word of a quantifier.
abbrev pub argument_level : ℕ → Tree → ℕ → ℕ
argument_level nots Yes n = n
argument_level nots No n = n
argument_level nots (One a) n = n
argument_level nots (Not f) n = nots + suc n
argument_level nots (And fs) n = nots + suc n
argument_level nots (Or fs) n = nots + suc n
argument_level nots (Impl f g) n = nots + suc n
argument_level nots (Repl f g) n = nots + suc n
argument_level nots (Equiv f g) n = nots + suc n
argument_level nots (Ex x f) n = nots + n
argument_level nots (All x f) n = nots + n

abbrev mutual
  -- the highest level of a token in the text of the tree
  pub tree_level : Tree → ℕ
  tree_level Yes = 0
  tree_level No = 0
  tree_level (One a) = atom_level a
  tree_level (Not f) = max 1 (argument_level 1 f (tree_level f))
  tree_level (And fs) = members_level fs
  tree_level (Or fs) = members_level fs
  tree_level (Impl f g) = max (argument_level 0 f (tree_level f)) (suc (argument_level 0 g (tree_level g)))
  tree_level (Repl f g) = max (argument_level 0 f (tree_level f)) (suc (argument_level 0 g (tree_level g)))
  tree_level (Equiv f g) = max (argument_level 0 f (tree_level f)) (suc (argument_level 0 g (tree_level g)))
  tree_level (Ex x f) = suc (tree_level f)
  tree_level (All x f) = suc (tree_level f)

  -- the highest of the members
  pub members_level : Trees → ℕ
  members_level none = 0
  members_level (also f fs) = max (argument_level 0 f (tree_level f)) (members_level fs)
