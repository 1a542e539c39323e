use Rattle.std.proofs.Common.{◌≡◌, ◌+◌, ◌-◌, ◌<◌, ℕ, length, take, subst, sym, ap, ◌∙◌, arith}
use Rattle.std.proofs.lemmas.List.{take_all}
use Rattle.formula_resolving.proofs.PartLaws.{keeps_same, keeps_then}
use Rattle.smt_language.specs.Levels.{level, closed}
use Rattle.logic_meaning.specs.Shape.{quantified}
use Rattle.smt_resolver.specs.Values.{IsFormulaValue}
use Rattle.smt_resolver.proofs.FormulaLaws.{closed_last}
use Rattle.smt_resolver.proofs.formulas.closed.Goals as goal

pub outwards-init : goal.outwards-init
outwards-init g c = record {
  state = λ d f h. (f, h, ap (λ xs. closed c.args.quantifier c.args.level xs f) (take_all (length c.args.names.now) c.args.names.now (omega arith)));
  ids = c.requires.id;
  kept = keeps_same (g.M.Maker.is_id c.args.maker.now) (g.M.Maker.tree c.args.maker.now);
  within = omega arith;
}

pub outwards-preserved : goal.outwards-preserved
outwards-preserved g c =
    let k : ℕ = c.outwards.count - 1 in let w = c.outwards.invariant.within in let p = c.outwards-test.true in
    let e : c.outwards.count ≡ k + 1 = omega arith in
    let l : k < length c.args.names.now = omega arith in
    record {
      state = λ d f h.
          let s = c.outwards.invariant.state d f h in (
            quantified c.args.quantifier (level (c.args.level + k)) s.0,
            c.in_ok-inner.ensures.read d s.0 s.1,
            sym (closed_last c.args.quantifier c.args.level c.args.names.now k s.0 l) ∙ ap (λ n. closed c.args.quantifier c.args.level (take n c.args.names.now) s.0) (sym e) ∙ s.2,
          );
      ids = c.in_ok-inner.ensures.ids;
      kept = keeps_then _ _ _ _ _ _ c.outwards.invariant.kept c.in_ok-inner.ensures.kept;
      within = omega arith;
    }

pub returns-clause-read : goal.returns-clause-read
returns-clause-read g c = λ d f h.
    let s = c.outwards.invariant.state d f h in let t = c.outwards-test.false in
    let e : c.outwards.count ≡ 0 = omega arith in
    subst (λ x. IsFormulaValue d c.args.limit (g.M.Maker.is_id c.outwards.maker) (g.M.Maker.tree c.outwards.maker) x c.outwards.inner) (ap (λ n. closed c.args.quantifier c.args.level (take n c.args.names.now) s.0) (sym e) ∙ s.2) s.1
