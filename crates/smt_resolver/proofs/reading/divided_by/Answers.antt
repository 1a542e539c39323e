use Rattle.std.proofs.Common.{Some, subst, sym, ap, ◌∙◌}
use Rattle.normal_atoms.specs.Atoms.{context_of}
use Rattle.smt_language.specs.Meaning.{and_then, as_term, divisible}
use Rattle.smt_resolver.specs.declared.value.Value.TheVariants as value
use Rattle.smt_resolver.specs.Readings.{IsMeant}
use Rattle.smt_resolver.proofs.ReadingLaws.{term_read}
use Rattle.smt_resolver.proofs.reading.divided_by.Goals as goal

pub returns-in_ok-value-in-Integers-clause-read : goal.returns-in_ok-value-in-Integers-clause-read
returns-in_ok-value-in-Integers-clause-read g c = λ o h.
    let d = context_of c.args.setting.now.context in let limit = c.args.setting.now.limit in
    let P = g.M.Maker.is_id c.args.maker.now in let t = g.M.Maker.tree c.args.maker.now in
    let Q = g.M.Maker.is_id c.divisible.new.maker in let u = g.M.Maker.tree c.divisible.new.maker in
    let v = term_read d limit P t o c.in-Term.term (subst (IsMeant d limit P t o) (c.in-Some.is ∙ ap Some c.in-Term.is) h) in
    subst (λ m. IsMeant d limit Q u (and_then (as_term m) (divisible d c.args.divisor)) (Some (value.Formula c.in_ok-value-in-Integers.value))) (sym v.1)
    (subst (λ k. IsMeant d limit Q u (divisible k c.args.divisor v.0) (Some (value.Formula c.in_ok-value-in-Integers.value))) (sym (ap context_of c.in-Integers.is)) (c.in_ok-value-in-Integers.ensures.read v.0 v.2))
