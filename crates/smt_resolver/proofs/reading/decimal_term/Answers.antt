use Rattle.std.proofs.Common.{Some, subst, sym, ap}
use Rattle.normal_atoms.specs.Atoms.{context_of}
use Rattle.language_meaning.specs.Trees.{Number}
use Rattle.smt_language.specs.Meaning.{as_term, decimal}
use Rattle.smt_resolver.specs.Readings.{IsTermFound}
use Rattle.smt_resolver.proofs.reading.decimal_term.Goals as goal

pub returns-in_ok-value-in-Fields : goal.returns-in_ok-value-in-Fields
returns-in_ok-value-in-Fields c =
    let d = context_of c.args.setting.now.context in let limit = c.args.setting.now.limit in
    subst (λ k. IsTermFound d limit (as_term (decimal k (Number c.args.digits) (Number c.args.power))) (Some c.in_ok-value-in-Fields.value)) (sym (ap context_of c.in-Fields.is))
    (c.in_ok-value-in-Fields.ensures (Number c.args.digits) (Number c.args.power) (c.numeral-digits.ensures d) (c.numeral-power.ensures d))
