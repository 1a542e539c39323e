use Rattle.std.proofs.Common.{◌≡◌, Err, length, subst, rules, arith, ap, length-append}
use Rattle.std.specs.Prelude.{IsErrOf}
use Rattle.formula_store.specs.Nodes.{tree}
use Rattle.redlog_printer.specs.declared.error.PrintError.TheVariants.{Text}
use Rattle.logic_meaning.specs.Text.{tree_text}
use Rattle.redlog_printer.proofs.TextLemmas.{closed_length}
use Rattle.redlog_printer.proofs.text.put_formula.Goals as goal

pub returns-in_err-put_matrix-clause-long : goal.returns-in_err-put_matrix-clause-long
returns-in_err-put_matrix-clause-long c = λ e.
    let nodes = c.args.store.now in
    let same : c.from_residual-in_err-put_matrix.result ≡ Err c.in_err-put_matrix.field-0.0 = search rules in
    let long = c.in_err-put_matrix.ensures.long (subst (λ r. IsErrOf r Text) same e) in
    let whole = closed_length c.args.names.now c.args.out.now (tree nodes c.args.id) c.put_quantifiers.new.out (tree nodes c.in_ok-matrix.matrix) c.in_ok-matrix.count c.in_ok-matrix.ensures.opened in
    omega arith

pub returns-clause-long : goal.returns-clause-long
returns-clause-long c = λ e.
    let nodes = c.args.store.now in
    let long = c.put_brackets.ensures.long e in
    let matrix = tree_text c.args.names.now (tree nodes c.in_ok-matrix.matrix) in
    let wrote = ap length c.in_ok-put_matrix.ensures.wrote in
    let parts = length-append c.put_quantifiers.new.out matrix in
    let whole = closed_length c.args.names.now c.args.out.now (tree nodes c.args.id) c.put_quantifiers.new.out (tree nodes c.in_ok-matrix.matrix) c.in_ok-matrix.count c.in_ok-matrix.ensures.opened in
    omega arith
