use Rattle.std.proofs.Common.{◌≡◌, ◌+◌, Err, ap, length, sym, subst, rules, arith}
use Rattle.formula_store.specs.Nodes.{tree}
use Rattle.redlog_printer.specs.declared.error.PrintError.TheVariants.{Text}
use Rattle.redlog_printer.specs.Texts.{IsOpened}
use Rattle.redlog_printer.proofs.TextLemmas.{opened_more, opening_within}
use Rattle.redlog_printer.proofs.text.put_quantifiers.Goals as goal

pub put_opening-requires : goal.put_opening-requires
put_opening-requires c = c.in-Some.ensures.begins.named (length c.args.names.now) c.quantifiers.invariant.opened.within

pub returns-in_err-put_opening-clause-long : goal.returns-in_err-put_opening-clause-long
returns-in_err-put_opening-clause-long c = λ e.
    let nodes = c.args.store.now in
    let first = c.in-Some.first in
    let same : c.from_residual.result ≡ Err c.in_err-put_opening.field-0.0 = search rules in
    let text : c.in_err-put_opening.field-0.0 ≡ Text = cc (same, e) in
    let long = c.in_err-put_opening.ensures.long (ap Err text) in
    let within = opening_within c.args.names.now c.args.out.now (tree nodes c.args.id) c.quantifiers.out (tree nodes c.quantifiers.id) c.quantifiers.count c.quantifiers.invariant.opened first.word.now first.name.number (tree nodes first.matrix) c.in-Some.ensures.begins in
    omega arith

pub quantifiers-preserved : goal.quantifiers-preserved
quantifiers-preserved c =
    let names = c.args.names.now in
    let nodes = c.args.store.now in
    let first = c.in-Some.first in
    let more = opened_more names c.args.out.now (tree nodes c.args.id) c.quantifiers.out (tree nodes c.quantifiers.id) c.quantifiers.count c.quantifiers.invariant.opened first.word.now first.name.number (tree nodes first.matrix) c.in-Some.ensures.begins in
    record {
      made = let smaller = c.in-Some.ensures.smaller in let is = c.quantifiers.invariant.made in record { below = omega (arith, smaller, is.below); are = is.are };
      opened = subst (λ out. IsOpened names c.args.out.now (tree nodes c.args.id) out (tree nodes first.matrix) (c.quantifiers.count + 1)) (sym c.in_ok-put_opening.ensures.wrote) more;
      few = let smaller = c.in-Some.ensures.smaller in let few = c.quantifiers.invariant.few in omega arith;
    }
