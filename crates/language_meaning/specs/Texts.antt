-- The text of formulas inside which commands stand: what a command says, in the place of its answer. It is looked at for its variables alone.
use Rattle.std.specs.Prelude.{ℕ, suc, List, [], ◌∷◌, if◌then◌else◌}
use Rattle.logic_meaning.specs.Formula.{One, And, none, also}
use Rattle.logic_meaning.specs.Replaced.{all_replaced}
use Rattle.language_meaning.specs.Trees.{WrittenAtom, Compare, Cong, Ncong, Bound, FormulaTree, FormulaTrees}
use Rattle.language_meaning.specs.Value.{same_name}
use Rattle.language_meaning.specs.Holes.{InnerTree, Nnf, Pnf, Dnf, Cnf, Simpl, Qe, Nest, Nests, nest, alone, beside, inner_name}

-- the text in the place of a name: where it is that of an answer, what the command says; the answers have the names of the numbers from one on
abbrev pub text_at : ℕ → List FormulaTree → List ℕ → FormulaTree
text_at k [] x = One (Bound x)
text_at k (f ∷ fs) x = if same_name x (inner_name k) then f else text_at (suc k) fs x

-- the text in the place of an atom
abbrev pub text_of_atom : List FormulaTree → WrittenAtom → FormulaTree
text_of_atom texts (Compare rel s t) = One (Compare rel s t)
text_of_atom texts (Cong s t m) = One (Cong s t m)
text_of_atom texts (Ncong s t m) = One (Ncong s t m)
text_of_atom texts (Bound x) = text_at 0 texts x

-- formulas with these texts in the places of the answers
abbrev pub all_with_texts : List FormulaTree → FormulaTrees → FormulaTrees
all_with_texts texts fs = all_replaced (text_of_atom texts) (λ x. x) fs

-- the formulas of a command in the order of the text: its own, and what it may assume
abbrev pub formulas_in : InnerTree → FormulaTrees
formulas_in (Nnf f) = also f none
formulas_in (Pnf f) = also f none
formulas_in (Dnf f) = also f none
formulas_in (Cnf f) = also f none
formulas_in (Simpl f given) = also f given
formulas_in (Qe f given) = also f given

abbrev mutual
  -- what a command says: its formulas, as one
  pub text_of : Nest → FormulaTree
  text_of (nest c ns) = And (written_out ns (formulas_in c))

  -- what each of the commands says
  pub texts_of : Nests → List FormulaTree
  texts_of alone = []
  texts_of (beside n ns) = text_of n ∷ texts_of ns

  -- formulas inside which these commands stand, with what each says in its place
  pub written_out : Nests → FormulaTrees → FormulaTrees
  written_out alone fs = fs
  written_out (beside n ns) fs = all_with_texts (text_of n ∷ texts_of ns) fs
