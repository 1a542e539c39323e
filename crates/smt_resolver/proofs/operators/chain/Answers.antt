use Rattle.std.proofs.Common.{◌∷◌, List, Some, subst, sym}
use Rattle.normal_atoms.specs.Atoms.{context_of}
use Rattle.language_meaning.specs.Trees.{TermTree}
use Rattle.smt_language.specs.Shapes.{comparison, chained, neighbours}
use Rattle.smt_resolver.specs.Values.{IsTermValue}
use Rattle.smt_resolver.specs.Readings.{IsFormulaFound, if_many}
use Rattle.smt_resolver.proofs.OperatorLaws.{two_or_more}
use Rattle.smt_resolver.proofs.operators.chain.Goals as goal

pub returns-clause-read : goal.returns-clause-read
returns-clause-read g c = λ ts h.
    let d = context_of c.args.setting.now.context in let limit = c.args.setting.now.limit in
    let Q = g.M.Maker.is_id c.joined.new.maker in let u = g.M.Maker.tree c.joined.new.maker in
    let s = two_or_more (IsTermValue d limit) ts c.args.terms.now c.first-item.result h c.in-len1-up.len_at_least c.if-terms-eq1.false c.first-item.is in
    subst (λ (xs : List TermTree). IsFormulaFound d limit Q u (if_many xs (chained (comparison c.args.relation) xs)) (Some c.in_ok-value.value)) (sym s.is)
    (c.in_ok-value.ensures.read d (neighbours (comparison c.args.relation) (s.one ∷ s.two ∷ s.more)) (c.in_ok-parts.ensures.read s.one (s.two ∷ s.more) s.first s.others))
