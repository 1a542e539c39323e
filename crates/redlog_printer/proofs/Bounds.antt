-- How long texts are at least.
use Rattle.std.proofs.Common.{ℕ, suc, ◌+◌, ◌*◌, ◌≤◌, Bool, true, false, List, length, arith, length-append}
use Rattle.std.specs.Prelude.{codes}
use Rattle.logic_meaning.specs.Formula.{Yes, No, One, Not, And, Or, Impl, Repl, Equiv, Ex, All, none, also}
use Rattle.logic_meaning.specs.Sizes.{nodes, all_nodes}
use Rattle.logic_meaning.specs.Atom.{Atom, Compare, Congruent, Relation, Equals, Differs, Below, AtMost, Above, AtLeast}
use Rattle.logic_meaning.specs.Tree.{Tree, Trees}
use Rattle.logic_meaning.specs.Text.{relation_text, atom_text, is_compound, in_parentheses, tree_text, members_text, more_text}
use Rattle.logic_meaning.specs.Members.{HasTwoMembers, HaveTwoMembers}
use Rattle.redlog_printer.specs.Bound.{NodesBoundText}

-- parentheses make a text no shorter
kept : (b : Bool) (text : List ℕ) → length text ≤ length (in_parentheses b text)
kept true text = simp length-append (omega arith)
kept false text = omega arith

relation_long : (r : Relation) → 4 ≤ length (relation_text r)
relation_long Equals = omega arith
relation_long Differs = omega arith
relation_long Below = omega arith
relation_long AtMost = omega arith
relation_long Above = omega arith
relation_long AtLeast = omega arith

atom_long : (names : List (List ℕ)) (a : Atom) → 4 ≤ length (atom_text names a)
atom_long names (Compare r f) = let k = relation_long r in simp length-append (omega arith)
atom_long names (Congruent true m f) = simp length-append (omega arith)
atom_long names (Congruent false m f) = simp length-append (omega arith)

-- how many members there are
abbrev count : Trees → ℕ
count none = 0
count (also f fs) = suc (count fs)

-- two members or more, with a word of four bytes for each of the others
joined_long : (names : List (List ℕ)) (word : List ℕ) (f g : Tree) (fs : Trees) → 4 * nodes f ≤ length (tree_text names f)
    → length (tree_text names f) ≤ length (in_parentheses (is_compound f) (tree_text names f))
    → 4 * (all_nodes (also g fs) + count (also g fs)) ≤ length (more_text names word (also g fs))
    → 4 * nodes (And (also f (also g fs))) ≤ length (members_text names word (also f (also g fs)))
joined_long names word f g fs k l m = omega (arith, length-append (in_parentheses (is_compound f) (tree_text names f)) (more_text names word (also g fs)))

mutual
  text_long : (names : List (List ℕ)) (f : Tree) → HasTwoMembers f → 4 * nodes f ≤ length (tree_text names f)
  text_long names Yes h = omega arith
  text_long names No h = omega arith
  text_long names (One a) h = let k = atom_long names a in omega arith
  text_long names (Not f) h =
      let k = text_long names f h in
      let l = kept (is_compound f) (tree_text names f) in
      simp length-append (omega arith)
  text_long names (And (also f (also g fs))) h =
      let k = text_long names f h.1.0 in
      let l = kept (is_compound f) (tree_text names f) in
      joined_long names (codes " and ") f g fs k l (more_long names (codes " and ") (also g fs) (omega arith) h.1.1)
  text_long names (And (also f none)) h = absurd h.0
  text_long names (And none) h = absurd h.0
  text_long names (Or (also f (also g fs))) h =
      let k = text_long names f h.1.0 in
      let l = kept (is_compound f) (tree_text names f) in
      joined_long names (codes " or ") f g fs k l (more_long names (codes " or ") (also g fs) (omega arith) h.1.1)
  text_long names (Or (also f none)) h = absurd h.0
  text_long names (Or none) h = absurd h.0
  text_long names (Impl f g) h =
      let k = text_long names f h.0 in
      let l = kept (is_compound f) (tree_text names f) in
      let m = text_long names g h.1 in
      let n = kept (is_compound g) (tree_text names g) in
      simp length-append (omega arith)
  text_long names (Repl f g) h =
      let k = text_long names f h.0 in
      let l = kept (is_compound f) (tree_text names f) in
      let m = text_long names g h.1 in
      let n = kept (is_compound g) (tree_text names g) in
      simp length-append (omega arith)
  text_long names (Equiv f g) h =
      let k = text_long names f h.0 in
      let l = kept (is_compound f) (tree_text names f) in
      let m = text_long names g h.1 in
      let n = kept (is_compound g) (tree_text names g) in
      simp length-append (omega arith)
  text_long names (Ex x f) h = let k = text_long names f h in simp length-append (omega arith)
  text_long names (All x f) h = let k = text_long names f h in simp length-append (omega arith)

  -- the members behind the first, each with a word of four bytes at least, have those bytes more
  more_long : (names : List (List ℕ)) (word : List ℕ) (fs : Trees) → 4 ≤ length word → HaveTwoMembers fs → 4 * (all_nodes fs + count fs) ≤ length (more_text names word fs)
  more_long names word none w h = omega arith
  more_long names word (also f fs) w h =
      let k = text_long names f h.0 in
      let l = kept (is_compound f) (tree_text names f) in
      let m = more_long names word fs w h.1 in
      simp length-append (omega arith)

pub bounded : NodesBoundText
bounded names f h = text_long names f h
