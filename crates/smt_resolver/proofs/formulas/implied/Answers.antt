use Rattle.std.proofs.Common.{◌≡◌, ◌+◌, ◌-◌, ◌<◌, ◌∷◌, ℕ, length, drop, subst, sym, ap, ◌∙◌, arith}
use Rattle.written_syntax.proofs.EntryLists.{none_left}
use Rattle.formula_resolving.proofs.PartLaws.{keeps_same, keeps_then}
use Rattle.smt_resolver.specs.Values.{IsFormulaValue, implied_by}
use Rattle.smt_resolver.proofs.FormulaLaws.{each_at, each_length}
use Rattle.smt_resolver.proofs.PartLists.{value_stays}
use Rattle.smt_resolver.proofs.formulas.implied.Goals as goal

pub outwards-init : goal.outwards-init
outwards-init g c = record {
  state = λ d fs f h k.
      let P = g.M.Maker.is_id c.args.maker.now in let t = g.M.Maker.tree c.args.maker.now in
      let n = each_length (IsFormulaValue d c.args.limit P t) fs c.args.values.now h in
      subst (λ gs. IsFormulaValue d c.args.limit P t (implied_by gs f) c.args.last) (sym (none_left fs (length c.args.values.now) (omega (arith, n)))) k;
  ids = c.requires.last;
  kept = keeps_same (g.M.Maker.is_id c.args.maker.now) (g.M.Maker.tree c.args.maker.now);
  within = omega arith;
}

pub outwards-preserved : goal.outwards-preserved
outwards-preserved g c =
    let k : ℕ = c.outwards.count - 1 in let w = c.outwards.invariant.within in let p = c.outwards-test.true in
    let e : c.outwards.count ≡ k + 1 = omega arith in
    let l : k < length c.args.values.now = omega arith in
    record {
      state = λ d fs f h i.
          let P = g.M.Maker.is_id c.args.maker.now in let t = g.M.Maker.tree c.args.maker.now in
          let s = c.outwards.invariant.state d fs f h i in
          let x = each_at (IsFormulaValue d c.args.limit P t) fs c.args.values.now k c.index-values-count.result h l c.index-values-count.is in
          let v = value_stays P t (g.M.Maker.is_id c.outwards.maker) (g.M.Maker.tree c.outwards.maker) c.outwards.invariant.kept d c.args.limit x.0 c.index-values-count.result x.1 in
          let r = c.in_ok-total.ensures.read d x.0 (implied_by (drop c.outwards.count fs) f) v s in
          let m : drop k fs ≡ x.0 ∷ drop c.outwards.count fs = x.2 ∙ ap (λ n. x.0 ∷ drop n fs) (sym e) in
          subst (λ gs. IsFormulaValue d c.args.limit (g.M.Maker.is_id c.connected.new.maker) (g.M.Maker.tree c.connected.new.maker) (implied_by gs f) c.in_ok-total.total) (sym m) r;
      ids = c.in_ok-total.ensures.ids;
      kept = keeps_then _ _ _ _ _ _ c.outwards.invariant.kept c.in_ok-total.ensures.kept;
      within = omega arith;
    }

pub returns-clause-read : goal.returns-clause-read
returns-clause-read g c = λ d fs f h k.
    let s = c.outwards.invariant.state d fs f h k in let t = c.outwards-test.false in
    let e : c.outwards.count ≡ 0 = omega arith in
    subst (λ n. IsFormulaValue d c.args.limit (g.M.Maker.is_id c.outwards.maker) (g.M.Maker.tree c.outwards.maker) (implied_by (drop n fs) f) c.outwards.total) e s
