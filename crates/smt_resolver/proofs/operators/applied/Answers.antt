use Rattle.std.proofs.Common.{◌≡◌, [], Some, None, subst, sym, ◌∙◌}
use Rattle.normal_atoms.specs.Atoms.{context_of}
use Rattle.smt_language.specs.Operators.{of_terms, of_formulas}
use Rattle.smt_language.specs.Meaning.{as_term, as_formula}
use Rattle.smt_resolver.specs.declared.value.Value.TheVariants as value
use Rattle.smt_resolver.specs.Values.{IsTermValue, IsFormulaValue, AreTermValues, AreFormulaValues}
use Rattle.smt_resolver.specs.Readings.{IsMeant, IsTermFound, IsFormulaFound, terms_among, formulas_among}
use Rattle.smt_resolver.proofs.OperatorLaws.{none_of, some_of, zero_told, more_told, terms_alone, formulas_alone, mixed_members, formula_meant, term_meant, nothing_meant, no_formula_meant}
use Rattle.smt_resolver.proofs.operators.applied.Goals as goal

pub returns-in-Some-clause-read : goal.returns-in-Some-clause-read
returns-in-Some-clause-read g c = λ ms h.
    let d = context_of c.args.setting.now.context in let limit = c.args.setting.now.limit in let m = c.args.members.now in
    let P = g.M.Maker.is_id c.args.maker.now in let t = g.M.Maker.tree c.args.maker.now in
    let Q = g.M.Maker.is_id c.formula_of_formulas.new.maker in let u = g.M.Maker.tree c.formula_of_formulas.new.maker in
    let e : terms_among ms ≡ [] = none_of (IsTermValue d limit) (terms_among ms) m.terms.items h.terms (sym m.terms.ok.0 ∙ zero_told _ c.if-is_empty.ensures) in
    let f = c.in_ok-value.ensures.read d (formulas_among ms) (subst (AreFormulaValues d limit P t (formulas_among ms)) (sym c.deref.ensures.value) h.formulas) in
    let k = subst (IsFormulaFound d limit Q u (as_formula (of_formulas c.args.operator (formulas_among ms)))) c.in-Some.is f in
    subst (λ o. IsMeant d limit Q u o (Some (value.Formula c.in-Some.value))) (sym (formulas_alone d c.args.operator ms e)) (formula_meant d limit Q u (of_formulas c.args.operator (formulas_among ms)) c.in-Some.value k)

pub returns-in-None-clause-read : goal.returns-in-None-clause-read
returns-in-None-clause-read g c = λ ms h.
    let d = context_of c.args.setting.now.context in let limit = c.args.setting.now.limit in let m = c.args.members.now in
    let P = g.M.Maker.is_id c.args.maker.now in let t = g.M.Maker.tree c.args.maker.now in
    let Q = g.M.Maker.is_id c.formula_of_formulas.new.maker in let u = g.M.Maker.tree c.formula_of_formulas.new.maker in
    let e : terms_among ms ≡ [] = none_of (IsTermValue d limit) (terms_among ms) m.terms.items h.terms (sym m.terms.ok.0 ∙ zero_told _ c.if-is_empty.ensures) in
    let f = c.in_ok-value.ensures.read d (formulas_among ms) (subst (AreFormulaValues d limit P t (formulas_among ms)) (sym c.deref.ensures.value) h.formulas) in
    let k = subst (IsFormulaFound d limit Q u (as_formula (of_formulas c.args.operator (formulas_among ms)))) c.in-None.is f in
    subst (λ o. IsMeant d limit Q u o None) (sym (formulas_alone d c.args.operator ms e)) (no_formula_meant d limit Q u c.args.operator (formulas_among ms) k)

pub returns-then-not-is_empty-clause-read : goal.returns-then-not-is_empty-clause-read
returns-then-not-is_empty-clause-read g c = λ ms h.
    let d = context_of c.args.setting.now.context in let limit = c.args.setting.now.limit in let m = c.args.members.now in
    let P = g.M.Maker.is_id c.args.maker.now in let t = g.M.Maker.tree c.args.maker.now in
    let n = some_of (IsTermValue d limit) (terms_among ms) m.terms.items h.terms (λ i. more_told _ c.if-is_empty.ensures (m.terms.ok.0 ∙ i)) in
    let k = some_of (IsFormulaValue d limit P t) (formulas_among ms) m.formulas.items h.formulas (λ i. more_told _ c.if-not-is_empty.ensures (m.formulas.ok.0 ∙ i)) in
    subst (λ o. IsMeant d limit P t o None) (sym (mixed_members d c.args.operator ms n k)) tt

pub returns-in-Some-2-clause-read : goal.returns-in-Some-2-clause-read
returns-in-Some-2-clause-read g c = λ ms h.
    let d = context_of c.args.setting.now.context in let limit = c.args.setting.now.limit in let m = c.args.members.now in
    let P = g.M.Maker.is_id c.args.maker.now in let t = g.M.Maker.tree c.args.maker.now in
    let e : formulas_among ms ≡ [] = none_of (IsFormulaValue d limit P t) (formulas_among ms) m.formulas.items h.formulas (sym m.formulas.ok.0 ∙ zero_told _ c.if-not-is_empty.ensures) in
    let f = c.in_ok-value-2.ensures (terms_among ms) (subst (AreTermValues d limit (terms_among ms)) (sym c.deref-2.ensures.value) h.terms) in
    let k = subst (IsTermFound d limit (as_term (of_terms d c.args.operator (terms_among ms)))) c.in-Some-2.is f in
    subst (λ o. IsMeant d limit P t o (Some (value.Term c.in-Some-2.value))) (sym (terms_alone d c.args.operator ms e)) (term_meant d limit P t (of_terms d c.args.operator (terms_among ms)) c.in-Some-2.value k)

pub returns-in-Some-3-clause-read : goal.returns-in-Some-3-clause-read
returns-in-Some-3-clause-read g c = λ ms h.
    let d = context_of c.args.setting.now.context in let limit = c.args.setting.now.limit in let m = c.args.members.now in
    let P = g.M.Maker.is_id c.args.maker.now in let t = g.M.Maker.tree c.args.maker.now in
    let Q = g.M.Maker.is_id c.formula_of_terms.new.maker in let u = g.M.Maker.tree c.formula_of_terms.new.maker in
    let e : formulas_among ms ≡ [] = none_of (IsFormulaValue d limit P t) (formulas_among ms) m.formulas.items h.formulas (sym m.formulas.ok.0 ∙ zero_told _ c.if-not-is_empty.ensures) in
    let f = c.in_ok-value-3.ensures.read (terms_among ms) (subst (AreTermValues d limit (terms_among ms)) (sym c.deref-3.ensures.value) h.terms) in
    let k = subst (IsFormulaFound d limit Q u (as_formula (of_terms d c.args.operator (terms_among ms)))) c.in-Some-3.is f in
    subst (λ o. IsMeant d limit Q u o (Some (value.Formula c.in-Some-3.value))) (sym (terms_alone d c.args.operator ms e)) (formula_meant d limit Q u (of_terms d c.args.operator (terms_among ms)) c.in-Some-3.value k)

pub returns-in-None-2-clause-read : goal.returns-in-None-2-clause-read
returns-in-None-2-clause-read g c = λ ms h.
    let d = context_of c.args.setting.now.context in let limit = c.args.setting.now.limit in let m = c.args.members.now in
    let P = g.M.Maker.is_id c.args.maker.now in let t = g.M.Maker.tree c.args.maker.now in
    let Q = g.M.Maker.is_id c.formula_of_terms.new.maker in let u = g.M.Maker.tree c.formula_of_terms.new.maker in
    let e : formulas_among ms ≡ [] = none_of (IsFormulaValue d limit P t) (formulas_among ms) m.formulas.items h.formulas (sym m.formulas.ok.0 ∙ zero_told _ c.if-not-is_empty.ensures) in
    let a = c.in_ok-value-2.ensures (terms_among ms) (subst (AreTermValues d limit (terms_among ms)) (sym c.deref-2.ensures.value) h.terms) in
    let b = subst (IsTermFound d limit (as_term (of_terms d c.args.operator (terms_among ms)))) c.in_default.is a in
    let f = c.in_ok-value-3.ensures.read (terms_among ms) (subst (AreTermValues d limit (terms_among ms)) (sym c.deref-3.ensures.value) h.terms) in
    let k = subst (IsFormulaFound d limit Q u (as_formula (of_terms d c.args.operator (terms_among ms)))) c.in-None-2.is f in
    subst (λ o. IsMeant d limit Q u o None) (sym (terms_alone d c.args.operator ms e)) (nothing_meant d limit Q u (of_terms d c.args.operator (terms_among ms)) b k)
