-- The formulas that commands inside others ask for.
use Rattle.std.specs.Prelude.{◌≡◌}
use Rattle.written_syntax.specs.declared.tree.Formula.{Formula}
use Rattle.language_meaning.specs.Holes.{Nnf, Pnf, Dnf, Cnf, Simpl, Qe, Nest, nested, nested_under}
use Rattle.written_syntax.specs.CodeTrees.{whole_formula, whole_formulas}
use Rattle.form_commands.specs.declared.forms.ClauseForm.TheVariants as clause_form
use Rattle.session_commands.specs.declared.formulas.FormCommand.{FormCommand}
use Rattle.session_commands.specs.declared.formulas.FormCommand.TheVariants as wanted

-- the command asks for this form of the formula
abbrev pub IsInnerForm : FormCommand → Formula → Nest → Type 0
IsInnerForm wanted.Resolved f n = ⊥
IsInnerForm wanted.NegationNormal f n = n ≡ nested Nnf (whole_formula f)
IsInnerForm wanted.Prenex f n = n ≡ nested Pnf (whole_formula f)
IsInnerForm (wanted.Distributed clause_form.Disjunctive) f n = n ≡ nested Dnf (whole_formula f)
IsInnerForm (wanted.Distributed clause_form.Conjunctive) f n = n ≡ nested Cnf (whole_formula f)
IsInnerForm (wanted.Simplified given) f n = n ≡ nested_under Simpl (whole_formula f) (whole_formulas given.now)
IsInnerForm (wanted.Eliminated found given) f n = n ≡ nested_under Qe (whole_formula f) (whole_formulas given.now)
