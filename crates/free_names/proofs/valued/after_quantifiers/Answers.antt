use Rattle.written_syntax.proofs.Quantified.{unquantified}
use Rattle.free_names.proofs.Named.{after_none, after_one, after_all}
use Rattle.free_names.proofs.valued.after_quantifiers.Goals as goal

pub prefix-init : goal.prefix-init
prefix-init c = after_none c.args.formula.now

pub prefix-preserved : goal.prefix-preserved
prefix-preserved c = after_one _ _ c.in-Ex.body _ c.in-Ex.is c.deref-inner.ensures c.prefix.invariant

pub returns : goal.returns
returns c =
    let all = after_all _ _ c.prefix.invariant (unquantified _ c.in_default.not-Ex c.in_default.not-All) in
    record { matrix = all.0; named = all.1; inner = c.prefix.invariant.inner }
