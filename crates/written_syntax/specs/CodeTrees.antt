-- The trees that the code's terms and formulas stand for.
use Rattle.std.specs.Prelude.{ℕ}
use Rattle.logic_meaning.specs.Formula.{Formula, Formulas}
use Rattle.logic_meaning.specs.Formula as plain
use Rattle.written_syntax.specs.declared.tree.Term as code
use Rattle.written_syntax.specs.declared.tree.Term.TheOpen as layer
use Rattle.written_syntax.specs.declared.tree.Terms as codes
use Rattle.written_syntax.specs.declared.tree.Formula as written
use Rattle.written_syntax.specs.declared.tree.Formula.TheOpen as open_formula
use Rattle.written_syntax.specs.declared.tree.Formulas as writtens
use Rattle.written_syntax.specs.declared.tree.InnerCommand as commands
use Rattle.language_meaning.specs.Trees.{TermTree, TermTrees, Number, Named, Sum, Product, Quotient, Power, Negative, Compare, Cong, Ncong, Bound, FormulaTree, FormulaTrees, terms_of}
use Rattle.language_meaning.specs.Holes.{Nnf, Pnf, Dnf, Cnf, Simpl, Qe, Nest, Nests, Holed, whole, over, over_both, all_of, nested, nested_under, computed}

-- one layer of a term, with the trees of its parts in their places
abbrev pub term_step : layer.Term-F TermTree TermTrees → TermTree
term_step (layer.Number n) = Number n
term_step (layer.Name x) = Named x
term_step (layer.Sum ts) = Sum ts
term_step (layer.Product ts) = Product ts
term_step (layer.Quotient s t) = Quotient s.value t.value
term_step (layer.Power t n) = Power t.value n
term_step (layer.Negative t) = Negative t.value

-- the trees of a list whose members have theirs in their places
abbrev pub terms_step : layer.Terms-F TermTree TermTrees → TermTrees
terms_step ts = terms_of ts.list.items

-- the tree of a term
unfoldable pub term_tree : code.Term → TermTree
term_tree = code.fold-Term TermTree TermTrees term_step terms_step

-- the trees of a list of terms
unfoldable pub term_trees : codes.Terms → TermTrees
term_trees = codes.fold-Terms TermTree TermTrees term_step terms_step

-- one layer of a formula, with what its parts are in their places
abbrev pub formula_step : open_formula.Formula-F (Holed FormulaTree) Nest (Holed FormulaTrees) → Holed FormulaTree
formula_step open_formula.True = whole plain.Yes
formula_step open_formula.False = whole plain.No
formula_step (open_formula.Compare rel s t) = whole (plain.One (Compare rel (term_tree s.value) (term_tree t.value)))
formula_step (open_formula.Cong s t m) = whole (plain.One (Cong (term_tree s.value) (term_tree t.value) (term_tree m.value)))
formula_step (open_formula.Ncong s t m) = whole (plain.One (Ncong (term_tree s.value) (term_tree t.value) (term_tree m.value)))
formula_step (open_formula.Not f) = over plain.Not f.value
formula_step (open_formula.And fs) = over plain.And fs
formula_step (open_formula.Or fs) = over plain.Or fs
formula_step (open_formula.Impl f g) = over_both plain.Impl f.value g.value
formula_step (open_formula.Repl f g) = over_both plain.Repl f.value g.value
formula_step (open_formula.Equiv f g) = over_both plain.Equiv f.value g.value
formula_step (open_formula.Ex x f) = over (plain.Ex x) f.value
formula_step (open_formula.All x f) = over (plain.All x) f.value
formula_step (open_formula.Named x) = whole (plain.One (Bound x))
formula_step (open_formula.Computed c) = computed c.value

-- a list whose members have what they are in their places
abbrev pub formulas_step : open_formula.Formulas-F (Holed FormulaTree) Nest (Holed FormulaTrees) → Holed FormulaTrees
formulas_step fs = all_of fs.list.items

-- a command whose formula and atoms have what they are in their places
abbrev pub command_step : open_formula.InnerCommand-F (Holed FormulaTree) Nest (Holed FormulaTrees) → Nest
command_step (open_formula.Nnf f) = nested Nnf f
command_step (open_formula.Pnf f) = nested Pnf f
command_step (open_formula.Dnf f) = nested Dnf f
command_step (open_formula.Cnf f) = nested Cnf f
command_step (open_formula.Simpl f given) = nested_under Simpl f given
command_step (open_formula.Qe f given) = nested_under Qe f given

-- what a formula is: its tree with holes, the commands in these, and the tree with names in them
unfoldable pub whole_formula : written.Formula → Holed FormulaTree
whole_formula = written.fold-Formula (Holed FormulaTree) Nest (Holed FormulaTrees) formula_step command_step formulas_step

-- what the formulas of a list are
unfoldable pub whole_formulas : writtens.Formulas → Holed FormulaTrees
whole_formulas = writtens.fold-Formulas (Holed FormulaTree) Nest (Holed FormulaTrees) formula_step command_step formulas_step

-- a command, and those inside it
unfoldable pub whole_command : commands.InnerCommand → Nest
whole_command = commands.fold-InnerCommand (Holed FormulaTree) Nest (Holed FormulaTrees) formula_step command_step formulas_step

-- the tree of a formula, with a hole at each command
unfoldable pub formula_tree : written.Formula → FormulaTree
formula_tree f = (whole_formula f).tree

-- the trees of a list of formulas
unfoldable pub formula_trees : writtens.Formulas → FormulaTrees
formula_trees fs = (whole_formulas fs).tree

-- the commands inside a formula
unfoldable pub inner_of : written.Formula → Nests
inner_of f = (whole_formula f).inner

-- the commands inside the formulas of a list
unfoldable pub inners_of : writtens.Formulas → Nests
inners_of fs = (whole_formulas fs).inner

-- the tree of a formula, with names in its holes: those of the numbers from one on
unfoldable pub named_tree : ℕ → written.Formula → FormulaTree
named_tree k f = (whole_formula f).named k

-- the trees of a list of formulas, with such names
unfoldable pub named_trees : ℕ → writtens.Formulas → FormulaTrees
named_trees k fs = (whole_formulas fs).named k
