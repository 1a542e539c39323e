use Rattle.std.proofs.Common.{◌∷◌, List, Some, subst, sym}
use Rattle.normal_atoms.specs.Atoms.{context_of}
use Rattle.language_meaning.specs.declared.tree.Relation.TheVariants.{Differs}
use Rattle.language_meaning.specs.Trees.{TermTree}
use Rattle.smt_language.specs.Shapes.{comparison, all_pairs, pairs}
use Rattle.smt_resolver.specs.Values.{IsTermValue, AreTermValues}
use Rattle.smt_resolver.specs.Readings.{IsFormulaFound, if_many}
use Rattle.smt_resolver.proofs.OperatorLaws.{many_or_few}
use Rattle.smt_resolver.proofs.operators.distinct.Goals as goal

pub returns-clause-read : goal.returns-clause-read
returns-clause-read g c = λ ts h.
    let d = context_of c.args.setting.now.context in let limit = c.args.setting.now.limit in
    let Q = g.M.Maker.is_id c.joined.new.maker in let u = g.M.Maker.tree c.joined.new.maker in
    let s = many_or_few (IsTermValue d limit) ts c.args.terms.now h c.if-terms-lt2.false in
    subst (λ (xs : List TermTree). IsFormulaFound d limit Q u (if_many xs (all_pairs (comparison Differs) xs)) (Some c.in_ok-value.value)) (sym s.3)
    (c.in_ok-value.ensures.read d (pairs (comparison Differs) (s.0 ∷ s.1 ∷ s.2)) (c.in_ok-parts.ensures.read (s.0 ∷ s.1 ∷ s.2) (subst (λ xs. AreTermValues d limit xs c.args.terms.now) s.3 h)))
