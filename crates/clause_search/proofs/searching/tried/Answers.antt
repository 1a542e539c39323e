use Rattle.std.proofs.Common.{FitsSigned, rules, subst, unsigned_abs}
use Rattle.std.specs.Int.{w128}
use Rattle.std.specs.Prelude.{ℤ, pos, ◌<ℤ◌}
use Rattle.std.proofs.lemmas.Int.{to_z-of_z}
use Rattle.logic_meaning.specs.Context.{IsDenominator}
use Rattle.normal_atoms.specs.Atoms.{context_of}
use Rattle.clause_search.proofs.searching.tried.Goals as goal

pub truth-requires-clause-whole : goal.truth-requires-clause-whole
truth-requires-clause-whole c =
    let same = c.denominator.ensures.value in
    let fits : FitsSigned w128 c.denominator.result = search rules in
    let here = simp to_z-of_z at (c.is_denominator.ensures c.if-not-is_denominator.false) in
    let positive : pos 0 <ℤ c.args.values.denominator = subst (λ (d : ℤ). pos 0 <ℤ d) same c.denominator.ensures.positive in
    let of : IsDenominator (context_of c.args.context) (unsigned_abs c.args.values.denominator) = subst (λ (d : ℤ). IsDenominator (context_of c.args.context) (unsigned_abs d)) same here in
    c.requires.whole c.args.values.denominator positive of
