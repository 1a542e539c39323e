-- The text of a formula is as long as its measure.
use Rattle.std.proofs.Common.{◌≡◌, ℕ, ◌+◌, Bool, true, List, length, arith, refl, ◌++◌, length-append}
use Rattle.std.specs.Prelude.{codes}
use Rattle.logic_meaning.specs.Formula.{Yes, No, One, Not, And, Or, Impl, Repl, Equiv, Ex, All, none, also}
use Rattle.logic_meaning.specs.Atom.{Atom}
use Rattle.logic_meaning.specs.declared.junction.Junction.{Junction}
use Rattle.logic_meaning.specs.declared.junction.Junction.TheVariants.{Conjunction, Disjunction}
use Rattle.logic_meaning.specs.Tree.{Tree, Trees}
use Rattle.logic_meaning.specs.Text.{is_compound, in_parentheses, tree_text, members_text, more_text}
use Rattle.shape_theory.specs.Orderly.{IsOrderly, AreOrderly}
use Rattle.logic_meaning.specs.Measure.{as_member, size, members_size, more_size}
use Rattle.shape_theory.specs.Texts.{word_length, text_measure}

-- the word between two members
abbrev word : Junction → List ℕ
word Conjunction = codes " and "
word Disjunction = codes " or "

word_is : (j : Junction) → length (word j) ≡ word_length j
word_is Conjunction = refl
word_is Disjunction = refl

parentheses : (b : Bool) (text : List ℕ) (n : ℕ) → length text ≡ n → length (in_parentheses true text) ≡ 2 + n
parentheses b text n h = simp length-append (omega arith)

module _ (names : List (List ℕ)) (P : Atom → Type 0) where
  member_is : (f : Tree) → IsOrderly P f → length (tree_text names f) ≡ size (text_measure names) f → length (in_parentheses (is_compound f) (tree_text names f)) ≡ as_member (text_measure names) f (size (text_measure names) f)
  member_is Yes t h = h
  member_is No t h = h
  member_is (One a) t h = h
  member_is (Not f) t h = absurd t
  member_is (And fs) t h = parentheses true (tree_text names (And fs)) (size (text_measure names) (And fs)) h
  member_is (Or fs) t h = parentheses true (tree_text names (Or fs)) (size (text_measure names) (Or fs)) h
  member_is (Impl f g) t h = absurd t
  member_is (Repl f g) t h = absurd t
  member_is (Equiv f g) t h = absurd t
  member_is (Ex x f) t h = h
  member_is (All x f) t h = h

  mutual
    pub text_is : (f : Tree) → IsOrderly P f → length (tree_text names f) ≡ size (text_measure names) f
    text_is Yes h = refl
    text_is No h = refl
    text_is (One a) h = refl
    text_is (Not f) h = absurd h
    text_is (And fs) h = let k = members_are fs Conjunction h.1 in omega arith
    text_is (Or fs) h = let k = members_are fs Disjunction h.1 in omega arith
    text_is (Impl f g) h = absurd h
    text_is (Repl f g) h = absurd h
    text_is (Equiv f g) h = absurd h
    text_is (Ex x f) h = let k = text_is f h in simp length-append (omega arith)
    text_is (All x f) h = let k = text_is f h in simp length-append (omega arith)

    members_are : (fs : Trees) (j : Junction) → AreOrderly P fs → length (members_text names (word j) fs) ≡ members_size (text_measure names) fs j
    members_are none j h = refl
    members_are (also f fs) j h =
        let k = member_is f h.0 (text_is f h.0) in
        let l = more_are fs j h.1 in
        omega (arith, length-append (in_parentheses (is_compound f) (tree_text names f)) (more_text names (word j) fs))

    more_are : (fs : Trees) (j : Junction) → AreOrderly P fs → length (more_text names (word j) fs) ≡ more_size (text_measure names) fs j
    more_are none j h = refl
    more_are (also f fs) j h =
        let k = member_is f h.0 (text_is f h.0) in
        let l = more_are fs j h.1 in
        let w = word_is j in
        omega (arith, length-append (word j ++ in_parentheses (is_compound f) (tree_text names f)) (more_text names (word j) fs), length-append (word j) (in_parentheses (is_compound f) (tree_text names f)))
