-- The text of a formula as a measure, when a formula is no larger than another, and the law that simplifying makes no text longer.
use Rattle.std.specs.Prelude.{ℕ, ◌+◌, ◌≤◌, ◌<◌, List, length}
use Rattle.logic_meaning.specs.Context.{Context}
use Rattle.logic_meaning.specs.Some.{EachOf}
use Rattle.logic_meaning.specs.Every.{Every}
use Rattle.logic_meaning.specs.Atom.{Atom}
use Rattle.logic_meaning.specs.declared.junction.Junction.{Junction}
use Rattle.logic_meaning.specs.declared.junction.Junction.TheVariants.{Conjunction, Disjunction}
use Rattle.logic_meaning.specs.declared.quantifier.Quantifier.{Quantifier}
use Rattle.logic_meaning.specs.declared.quantifier.Quantifier.TheVariants.{Exists, ForAll}
use Rattle.logic_meaning.specs.Tree.{Tree}
use Rattle.logic_meaning.specs.Text.{name_at, atom_text, tree_text}
use Rattle.formula_laws.specs.Within.{IsAtomWithin}
use Rattle.logic_meaning.specs.Sizes.{nodes}
use Rattle.logic_meaning.specs.Measure.{Measure}
use Rattle.shape_theory.specs.Simplifiable.{IsSimplifiable, simplified_under}

-- the word between two members with its blanks
abbrev pub word_length : Junction → ℕ
word_length Conjunction = 5
word_length Disjunction = 4

-- the quantifier's word, two parentheses and the comma, and the name
abbrev pub quantifier_length : List (List ℕ) → Quantifier → ℕ → ℕ
quantifier_length names Exists x = 5 + length (name_at names x)
quantifier_length names ForAll x = 6 + length (name_at names x)

-- the bytes of the text
abbrev pub text_measure : List (List ℕ) → Measure Atom
text_measure names = record {
  yes = 4;
  no = 5;
  atom = λ a. length (atom_text names a);
  head = 0;
  gap = word_length;
  brackets = 2;
  quantifier = quantifier_length names;
}

-- g has no more nodes than f and, where names that are not empty name each variable of f, no longer text
pub record IsNoLarger (f g : Tree) : Type 0 where
  pub nodes : nodes g ≤ nodes f
  pub text : (names : List (List ℕ)) → EachOf (λ name. 0 < length name) names → Every (IsAtomWithin (length names)) f → length (tree_text names g) ≤ length (tree_text names f)

-- with names that are not empty, the text of a simplified formula is no longer than that of the formula
abbrev pub SimplifyingLengthensNoText : Type 0
SimplifyingLengthensNoText = (names : List (List ℕ)) → EachOf (λ name. 0 < length name) names → (c : Context) (ks : List Atom) (f : Tree) → IsSimplifiable c f → Every (IsAtomWithin (length names)) f →
    length (tree_text names (simplified_under c ks f)) ≤ length (tree_text names f)
