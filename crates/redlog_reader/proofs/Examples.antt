-- Worked examples of the definitions. Each side is computed.
use Rattle.std.proofs.Common.{◌≡◌, [], ◌∷◌, refl, codes}
use Rattle.std.specs.Prelude.{pos, neg_ℤ, ℤ, Some, None, List}
use Rattle.logic_meaning.specs.Formula.{One, Impl, Repl, Ex}
use Rattle.language_meaning.specs.Trees.{TermTree, Named, Product, Quotient, Negative, Sum, Bound, Compare, Cong, terms_of, FormulaTree, formulas_of}
use Rattle.language_meaning.specs.Holes.{alone, beside, nest, inner_name, whole, computed}
use Rattle.language_meaning.specs.Holes as inside
use Rattle.language_meaning.specs.declared.tree.Literal.TheVariants.{Fits}
use Rattle.language_meaning.specs.declared.tree.Relation.TheVariants.{Equal, Differs, Less, AtMost, Greater}
use Rattle.language_meaning.specs.declared.grid.Ratio.{Ratio}
use Rattle.language_meaning.specs.declared.grid.GridAxis.{GridAxis}
use Rattle.language_meaning.specs.Statements.{Echo, Nnf, Simpl, Grid, Certify, Check, Least, Say}
use Rattle.language_meaning.specs.Inner.{bare}
use Rattle.language_meaning.specs.declared.terminal.Terminal.{Terminal}
use Rattle.language_meaning.specs.declared.terminal.Terminal.TheVariants as terminal
use Rattle.language_meaning.specs.declared.terminal.Mark.TheVariants as mark
use Rattle.language_meaning.specs.declared.terminal.Word.TheVariants as word
use Rattle.redlog_reader.specs.Reader.{formula_read, sum_read, action_read}

abbrev opening : Terminal
opening = terminal.Mark mark.Open

abbrev comma : Terminal
comma = terminal.Mark mark.Comma

abbrev slash : Terminal
slash = terminal.Mark mark.Slash

abbrev arrow : Terminal
arrow = terminal.Word word.Impl

-- what is read of terms: a/b*c; a*b*c; -a+b
abbrev a : Terminal
a = terminal.Name (codes "a")

abbrev b : Terminal
b = terminal.Name (codes "b")

abbrev c : Terminal
c = terminal.Name (codes "c")

abbrev times : Terminal
times = terminal.Mark mark.Times

abbrev end_mark : List Terminal
end_mark = terminal.Mark mark.Semicolon ∷ []

abbrev term_a : TermTree
term_a = Named (codes "a")

abbrev term_b : TermTree
term_b = Named (codes "b")

abbrev term_c : TermTree
term_c = Named (codes "c")

quotient_first : sum_read (a ∷ slash ∷ b ∷ times ∷ c ∷ end_mark) ≡ Some (Product (terms_of (Quotient term_a term_b ∷ term_c ∷ [])), end_mark)
quotient_first = refl

one_product : sum_read (a ∷ times ∷ b ∷ times ∷ c ∷ end_mark) ≡ Some (Product (terms_of (term_a ∷ term_b ∷ term_c ∷ [])), end_mark)
one_product = refl

negative_first : sum_read (terminal.Mark mark.Minus ∷ a ∷ terminal.Mark mark.Plus ∷ b ∷ end_mark) ≡ Some (Sum (terms_of (Negative term_a ∷ term_b ∷ [])), end_mark)
negative_first = refl

-- what is read of formulas: a impl b impl c; a repl b repl c; ex({a,b},c); (a)=b
abbrev formula_a : FormulaTree
formula_a = One (Bound (codes "a"))

abbrev formula_b : FormulaTree
formula_b = One (Bound (codes "b"))

abbrev formula_c : FormulaTree
formula_c = One (Bound (codes "c"))

to_the_right : formula_read 8 (a ∷ arrow ∷ b ∷ arrow ∷ c ∷ end_mark) ≡ Some (whole (Impl formula_a (Impl formula_b formula_c)), end_mark)
to_the_right = refl

to_the_left : formula_read 8 (a ∷ terminal.Word word.Repl ∷ b ∷ terminal.Word word.Repl ∷ c ∷ end_mark) ≡ Some (whole (Repl (Repl formula_a formula_b) formula_c), end_mark)
to_the_left = refl

two_names : formula_read 8 (terminal.Word word.Ex ∷ opening ∷ terminal.Mark mark.OpenBrace ∷ a ∷ comma ∷ b ∷ terminal.Mark mark.CloseBrace ∷ comma ∷ c ∷ terminal.Mark mark.Close ∷ end_mark)
    ≡ Some (whole (Ex (codes "a") (Ex (codes "b") formula_c)), end_mark)
two_names = refl

bracketed_name : formula_read 8 (opening ∷ a ∷ terminal.Mark mark.Close ∷ terminal.Relation Equal ∷ b ∷ end_mark) ≡ Some (whole (One (Compare Equal term_a term_b)), end_mark)
bracketed_name = refl

-- a^2^1 is no power
one_power : sum_read (a ∷ terminal.Mark mark.Power ∷ terminal.Number (Fits (pos 2)) ∷ terminal.Mark mark.Power ∷ terminal.Number (Fits (pos 1)) ∷ end_mark) ≡ None
one_power = refl

-- what is read of the queries of grids and of constraints: rlgrid(a,{b,-1,1,1/2}); rlcert({a<b}); rlcheck({a<b},{-1,2}); rlcert({a<>b});
-- rlopt({a<=b},c); rlopt({a>0},a)
abbrev numeral : ℤ → Terminal
numeral n = terminal.Number (Fits n)

abbrev opening_brace : Terminal
opening_brace = terminal.Mark mark.OpenBrace

abbrev minus : Terminal
minus = terminal.Mark mark.Minus

-- the ends of a list in braces, of the query, and of the statement
abbrev query_end : List Terminal
query_end = terminal.Mark mark.CloseBrace ∷ terminal.Mark mark.Close ∷ end_mark

abbrev ratio : ℤ → ℤ → Ratio
ratio n d = record { above = Fits n; below = Fits d }

abbrev axis_b : GridAxis
axis_b = record { name = codes "b"; low = ratio (neg_ℤ (pos 1)) (pos 1); high = ratio (pos 1) (pos 1); step = ratio (pos 1) (pos 2) }

abbrev less_than : FormulaTree
less_than = One (Compare Less term_a term_b)

one_axis : action_read (terminal.Word word.Grid ∷ opening ∷ a ∷ comma ∷ opening_brace ∷ b ∷ comma ∷ minus ∷ numeral (pos 1) ∷ comma ∷ numeral (pos 1) ∷ comma ∷ numeral (pos 1) ∷ slash ∷ numeral (pos 2) ∷ query_end)
    ≡ Some (bare (Say (Grid formula_a (axis_b ∷ []))), end_mark)
one_axis = refl

one_constraint : action_read (terminal.Word word.Cert ∷ opening ∷ opening_brace ∷ a ∷ terminal.Relation Less ∷ b ∷ query_end) ≡ Some (bare (Say (Certify (formulas_of (less_than ∷ [])))), end_mark)
one_constraint = refl

two_multipliers : action_read (terminal.Word word.Check ∷ opening ∷ opening_brace ∷ a ∷ terminal.Relation Less ∷ b ∷ terminal.Mark mark.CloseBrace ∷ comma ∷ opening_brace ∷ minus ∷ numeral (pos 1) ∷ comma ∷ numeral (pos 2) ∷ query_end)
    ≡ Some (bare (Say (Check (formulas_of (less_than ∷ [])) (Fits (neg_ℤ (pos 1)) ∷ Fits (pos 2) ∷ []))), end_mark)
two_multipliers = refl

no_constraint : action_read (terminal.Word word.Cert ∷ opening ∷ opening_brace ∷ a ∷ terminal.Relation Differs ∷ b ∷ query_end) ≡ None
no_constraint = refl

abbrev at_most : FormulaTree
at_most = One (Compare AtMost term_a term_b)

least_c : action_read (terminal.Word word.Opt ∷ opening ∷ opening_brace ∷ a ∷ terminal.Relation AtMost ∷ b ∷ terminal.Mark mark.CloseBrace ∷ comma ∷ c ∷ terminal.Mark mark.Close ∷ end_mark)
    ≡ Some (bare (Say (Least (formulas_of (at_most ∷ [])) term_c)), end_mark)
least_c = refl

no_weak : action_read (terminal.Word word.Opt ∷ opening ∷ opening_brace ∷ a ∷ terminal.Relation Greater ∷ numeral (pos 0) ∷ terminal.Mark mark.CloseBrace ∷ comma ∷ a ∷ terminal.Mark mark.Close ∷ end_mark) ≡ None
no_weak = refl

-- what is read of commands inside formulas
abbrev qe : Terminal
qe = terminal.Word word.Qe

abbrev nnf : Terminal
nnf = terminal.Word word.Nnf

abbrev closing : Terminal
closing = terminal.Mark mark.Close

abbrev less : Terminal
less = terminal.Relation Less

-- the command rlqe over the formula a, and what is read as the name of the first answer
abbrev inner_qe : inside.Nest
inner_qe = nest (inside.Qe formula_a (formulas_of [])) alone

abbrev first_answer : FormulaTree
first_answer = One (Bound (inner_name 0))

-- rlqe a impl a<b: a command is a part of the formula, whose name is the first one
command_in_formula : action_read (qe ∷ a ∷ arrow ∷ a ∷ less ∷ b ∷ end_mark) ≡ Some (record { tree = Say (Echo (Impl first_answer less_than)); inner = beside inner_qe alone }, end_mark)
command_in_formula = refl

-- rlsimpl rlqe a: the whole is a command over the answer of the other
command_in_command : action_read (terminal.Word word.Simpl ∷ qe ∷ a ∷ end_mark) ≡ Some (record { tree = Say (Simpl first_answer (formulas_of [])); inner = beside inner_qe alone }, end_mark)
command_in_command = refl

-- (rlnnf a): in brackets too, one that is alone is the statement
command_alone_in_brackets : action_read (opening ∷ nnf ∷ a ∷ closing ∷ end_mark) ≡ Some (bare (Say (Nnf formula_a)), end_mark)
command_alone_in_brackets = refl

-- rlnnf a repl rlqe a: answers have numbers in the order of the text
two_commands : action_read (nnf ∷ a ∷ terminal.Word word.Repl ∷ qe ∷ a ∷ end_mark)
    ≡ Some (record { tree = Say (Echo (Repl first_answer (One (Bound (inner_name 1))))); inner = beside (nest (inside.Nnf formula_a) alone) (beside inner_qe alone) }, end_mark)
two_commands = refl

-- rlqe(a,{a<b,cong(a,b,c)}): a command under atoms
command_under_atoms : formula_read 8
    (qe ∷ opening ∷ a ∷ comma ∷ opening_brace ∷ a ∷ less ∷ b ∷ comma ∷ terminal.Word word.Cong ∷ opening ∷ a ∷ comma ∷ b ∷ comma ∷ c ∷ closing ∷ query_end)
    ≡ Some (computed (nest (inside.Qe formula_a (formulas_of (less_than ∷ One (Cong term_a term_b term_c) ∷ []))) alone), end_mark)
command_under_atoms = refl

-- rlqe(a,{}): under none
command_under_none : formula_read 8 (qe ∷ opening ∷ a ∷ comma ∷ opening_brace ∷ query_end) ≡ Some (computed inner_qe, end_mark)
command_under_none = refl

-- rlnnf(a,{}): this one takes none; rlqe(a,{b}), rlqe(a,{(cong(a,b,c))}), rlqe(a,{a<b,}): these are no atoms
no_atoms_taken : formula_read 8 (nnf ∷ opening ∷ a ∷ comma ∷ opening_brace ∷ query_end) ≡ None
no_atoms_taken = refl

name_is_no_atom : formula_read 8 (qe ∷ opening ∷ a ∷ comma ∷ opening_brace ∷ b ∷ query_end) ≡ None
name_is_no_atom = refl

no_atom_in_brackets : formula_read 8 (qe ∷ opening ∷ a ∷ comma ∷ opening_brace ∷ opening ∷ terminal.Word word.Cong ∷ opening ∷ a ∷ comma ∷ b ∷ comma ∷ c ∷ closing ∷ closing ∷ query_end) ≡ None
no_atom_in_brackets = refl

no_atom_after_comma : formula_read 8 (qe ∷ opening ∷ a ∷ comma ∷ opening_brace ∷ a ∷ less ∷ b ∷ comma ∷ query_end) ≡ None
no_atom_after_comma = refl

-- rlqe a<b, rlqe not a, (rlqe a)<b: a command is over a prime formula, and is no term
no_comparison_under : formula_read 8 (qe ∷ a ∷ less ∷ b ∷ end_mark) ≡ None
no_comparison_under = refl

no_negation_under : formula_read 8 (qe ∷ terminal.Word word.Not ∷ a ∷ end_mark) ≡ None
no_negation_under = refl

no_command_compared : formula_read 8 (opening ∷ qe ∷ a ∷ closing ∷ less ∷ b ∷ end_mark) ≡ None
no_command_compared = refl
