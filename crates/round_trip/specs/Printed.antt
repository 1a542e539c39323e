-- The terminals of the text of a tree, before those that follow it.
use Rattle.std.specs.Prelude.{ℕ, ℤ, pos, negsuc, unsigned_abs, Bool, true, false, List, [], ◌∷◌, nat_eq, if◌then◌else◌}
use Rattle.std.specs.Ordering.{int_eq}
use Rattle.logic_meaning.specs.Formula.{Yes, No, One, Not, And, Or, Impl, Repl, Equiv, Ex, All, none, also}
use Rattle.logic_meaning.specs.Form.{Term}
use Rattle.logic_meaning.specs.Atom.{Atom, Compare, Congruent}
use Rattle.logic_meaning.specs.Tree.{Tree, Trees}
use Rattle.language_meaning.specs.declared.tree.Literal.TheVariants.{Fits}
use Rattle.language_meaning.specs.declared.terminal.Terminal.{Terminal}
use Rattle.language_meaning.specs.declared.terminal.Terminal.TheVariants as terminal
use Rattle.language_meaning.specs.declared.terminal.Mark.TheVariants as mark
use Rattle.language_meaning.specs.declared.terminal.Word.{Word}
use Rattle.language_meaning.specs.declared.terminal.Word.TheVariants as word
use Rattle.logic_meaning.specs.Text.{name_at, is_compound}
use Rattle.round_trip.specs.Written.{relation_sign}

-- what follows a part of a text is given to it, so that the whole computes
abbrev pub Terminals : Type 0
Terminals = List Terminal

abbrev pub number : ℕ → Terminal
number n = terminal.Number (Fits (pos n))

-- ---- linear forms

abbrev pub first_mark : ℤ → Terminals → Terminals
first_mark (pos n) ts = ts
first_mark (negsuc n) ts = terminal.Mark mark.Minus ∷ ts

abbrev pub later_mark : ℤ → Terminals → Terminals
later_mark (pos n) ts = terminal.Mark mark.Plus ∷ ts
later_mark (negsuc n) ts = terminal.Mark mark.Minus ∷ ts

abbrev pub factor_terminals : ℕ → List ℕ → Terminals → Terminals
factor_terminals n x ts = if nat_eq n 1 then terminal.Name x ∷ ts else number n ∷ terminal.Mark mark.Times ∷ terminal.Name x ∷ ts

abbrev pub multiple_terminals : List (List ℕ) → Term → Terminals → Terminals
multiple_terminals names t ts = factor_terminals (unsigned_abs t.times) (name_at names t.name) ts

abbrev pub later_terminals : List (List ℕ) → List Term → Terminals → Terminals
later_terminals names [] ts = ts
later_terminals names (u ∷ us) ts = later_mark u.times (multiple_terminals names u (later_terminals names us ts))

abbrev pub constant_terminals : ℤ → Terminals → Terminals
constant_terminals c ts = if int_eq c (pos 0) then ts else later_mark c (number (unsigned_abs c) ∷ ts)

abbrev pub sum_terminals : List (List ℕ) → List Term → ℤ → Terminals → Terminals
sum_terminals names [] c ts = first_mark c (number (unsigned_abs c) ∷ ts)
sum_terminals names (u ∷ us) c ts = first_mark u.times (multiple_terminals names u (later_terminals names us (constant_terminals c ts)))

-- ---- atoms

abbrev pub congruence_word : Bool → Word
congruence_word true = word.Cong
congruence_word false = word.Ncong

abbrev pub atom_terminals : List (List ℕ) → Atom → Terminals → Terminals
atom_terminals names (Compare r f) ts = sum_terminals names f.terms f.constant (terminal.Relation (relation_sign r) ∷ number 0 ∷ ts)
atom_terminals names (Congruent b m f) ts =
    terminal.Word (congruence_word b) ∷ terminal.Mark mark.Open
    ∷ sum_terminals names f.terms f.constant (terminal.Mark mark.Comma ∷ number 0 ∷ terminal.Mark mark.Comma ∷ number m ∷ terminal.Mark mark.Close ∷ ts)

-- ---- formulas

abbrev pub bracketed : Bool → (Terminals → Terminals) → Terminals → Terminals
bracketed true part ts = terminal.Mark mark.Open ∷ part (terminal.Mark mark.Close ∷ ts)
bracketed false part ts = part ts

abbrev mutual
  pub tree_terminals : List (List ℕ) → Tree → Terminals → Terminals
  tree_terminals names Yes ts = terminal.Word word.True ∷ ts
  tree_terminals names No ts = terminal.Word word.False ∷ ts
  tree_terminals names (One a) ts = atom_terminals names a ts
  tree_terminals names (Not f) ts = terminal.Word word.Not ∷ bracketed (is_compound f) (tree_terminals names f) ts
  tree_terminals names (And fs) ts = members_terminals names word.And fs ts
  tree_terminals names (Or fs) ts = members_terminals names word.Or fs ts
  tree_terminals names (Impl f g) ts = bracketed (is_compound f) (tree_terminals names f) (terminal.Word word.Impl ∷ bracketed (is_compound g) (tree_terminals names g) ts)
  tree_terminals names (Repl f g) ts = bracketed (is_compound f) (tree_terminals names f) (terminal.Word word.Repl ∷ bracketed (is_compound g) (tree_terminals names g) ts)
  tree_terminals names (Equiv f g) ts = bracketed (is_compound f) (tree_terminals names f) (terminal.Word word.Equiv ∷ bracketed (is_compound g) (tree_terminals names g) ts)
  tree_terminals names (Ex x f) ts =
      terminal.Word word.Ex ∷ terminal.Mark mark.Open ∷ terminal.Name (name_at names x) ∷ terminal.Mark mark.Comma ∷ tree_terminals names f (terminal.Mark mark.Close ∷ ts)
  tree_terminals names (All x f) ts =
      terminal.Word word.All ∷ terminal.Mark mark.Open ∷ terminal.Name (name_at names x) ∷ terminal.Mark mark.Comma ∷ tree_terminals names f (terminal.Mark mark.Close ∷ ts)

  -- the members with a word between each two
  pub members_terminals : List (List ℕ) → Word → Trees → Terminals → Terminals
  members_terminals names w none ts = ts
  members_terminals names w (also f fs) ts = bracketed (is_compound f) (tree_terminals names f) (more_terminals names w fs ts)

  -- the word before each member
  pub more_terminals : List (List ℕ) → Word → Trees → Terminals → Terminals
  more_terminals names w none ts = ts
  more_terminals names w (also f fs) ts = terminal.Word w ∷ bracketed (is_compound f) (tree_terminals names f) (more_terminals names w fs ts)

-- those of the formula as a member or an argument
abbrev pub argument_terminals : List (List ℕ) → Tree → Terminals → Terminals
argument_terminals names f ts = bracketed (is_compound f) (tree_terminals names f) ts

-- those of the text as a statement that is printed
abbrev pub line_terminals : List (List ℕ) → Tree → Terminals
line_terminals names f = tree_terminals names f (terminal.Mark mark.Semicolon ∷ [])
