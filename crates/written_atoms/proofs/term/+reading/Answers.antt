use Rattle.std.proofs.Common.{List, map, Some, IfOk, ap, sym, ◌∙◌, subst, arith}
use Rattle.normal_atoms.specs.Atoms.{context_of}
use Rattle.std.specs.Prelude.{option_map}
use Rattle.std.proofs.lemmas.Result.{IfOk-weaker}
use Rattle.written_syntax.specs.Proper.{IsProperTerm, AreProperTerms}
use Rattle.language_meaning.specs.Trees.{TermTree, terms_of}
use Rattle.written_syntax.specs.CodeTrees.{term_tree}
use Rattle.written_syntax.specs.declared.tree.Term.{Term}
use Rattle.written_syntax.proofs.EntryLists.{rest_at, none_left}
use Rattle.written_syntax.proofs.TermParts.{quotient_is, power_is, negative_is}
use Rattle.language_meaning.specs.RationalForms.{constant_form, formed}
use Rattle.logic_meaning.specs.Names.{place}
use Rattle.resolved_formulas.proofs.LowestForms.{form_is_lowest}
use Rattle.written_atoms.specs.Rational.{Shows, rational_of}
use Rattle.written_atoms.specs.Term.{IsTermRead}
use Rattle.written_atoms.proofs.TermSizes.{term_size, member_smaller, sum_is, product_is, number_literal, name_is}
use Rattle.written_atoms.proofs.Readings.{SumLeft, ProductLeft, sum_begun, sum_more, sum_whole, product_begins, product_goes_on, product_ends, quotient_read, power_read, some_there}
use Rattle.written_atoms.proofs.term.+reading.Goals as goal

pub read_product-loop-term-init : goal.read_product-loop-term-init
read_product-loop-term-init t c =
    let ts = terms_of (map term_tree c.args.terms.now) in
    let e = c.of-total.ensures in
    record {
      left = product_begins (context_of c.args.context) (place c.args.names.now) ts c.of-total.result (ap (λ r. option_map rational_of r.form) e ∙ ap Some (c.constant.ensures ∙ ap constant_form c.whole.ensures.value)) (ap (λ r. r.nonlinear) e) (ap (λ r. r.division) e);
      proper = c.requires;
    }

pub read_product-read_term-requires : goal.read_product-read_term-requires
read_product-read_term-requires t c =
    let i = c.loop-term.term-index in let ts = c.args.terms.now in let x = c.term-item.result in
    let m = member_smaller ts i x c.loop-term-test.true in
    let e = ap (λ y. term_size (term_tree y)) c.term-item.is in
    let p = subst (λ (r : List Term). AreProperTerms (terms_of (map term_tree r))) (rest_at ts i x c.loop-term-test.true c.term-item.is) c.loop-term.invariant.proper in
    (omega (arith, m, e), p.0)

pub read_product-loop-term-preserved : goal.read_product-loop-term-preserved
read_product-loop-term-preserved t c =
    let i = c.loop-term.term-index in let ts = c.args.terms.now in let x = c.term-item.result in
    let e = rest_at ts i x c.loop-term-test.true c.term-item.is in
    let k = context_of c.args.context in let n = place c.args.names.now in
    let all = terms_of (map term_tree ts) in
    let p = subst (λ (r : List Term). AreProperTerms (terms_of (map term_tree r))) e c.loop-term.invariant.proper in
    let l = subst (λ (r : List Term). ProductLeft k n all (terms_of (map term_tree r)) c.loop-term.total) e c.loop-term.invariant.left in
    record { left = product_goes_on k n all _ (term_tree x) c.loop-term.total c.in_ok-part.part c.in_ok-total.total l c.in_ok-part.ensures c.in_ok-total.ensures; proper = p.1 }

pub read_product-returns : goal.read_product-returns
read_product-returns t c =
    let i = c.loop-term.term-index in let ts = c.args.terms.now in
    let k = context_of c.args.context in let n = place c.args.names.now in
    let all = terms_of (map term_tree ts) in
    product_ends k n all c.loop-term.total (subst (λ (r : List Term). ProductLeft k n all (terms_of (map term_tree r)) c.loop-term.total) (none_left ts i c.loop-term-test.false) c.loop-term.invariant.left)

pub read_sum-loop-term-init : goal.read_sum-loop-term-init
read_sum-loop-term-init t c = record { left = sum_begun (context_of c.args.context) (place c.args.names.now) (terms_of (map term_tree c.args.terms.now)) c.new-total.result c.new-total.ensures; proper = c.requires }

pub read_sum-read_term-requires : goal.read_sum-read_term-requires
read_sum-read_term-requires t c =
    let i = c.loop-term.term-index in let ts = c.args.terms.now in let x = c.term-item.result in
    let m = member_smaller ts i x c.loop-term-test.true in
    let e = ap (λ y. term_size (term_tree y)) c.term-item.is in
    let p = subst (λ (r : List Term). AreProperTerms (terms_of (map term_tree r))) (rest_at ts i x c.loop-term-test.true c.term-item.is) c.loop-term.invariant.proper in
    (omega (arith, m, e), p.0)

pub read_sum-loop-term-preserved : goal.read_sum-loop-term-preserved
read_sum-loop-term-preserved t c =
    let i = c.loop-term.term-index in let ts = c.args.terms.now in let x = c.term-item.result in
    let e = rest_at ts i x c.loop-term-test.true c.term-item.is in
    let k = context_of c.args.context in let n = place c.args.names.now in
    let all = terms_of (map term_tree ts) in
    let p = subst (λ (r : List Term). AreProperTerms (terms_of (map term_tree r))) e c.loop-term.invariant.proper in
    let l = subst (λ (r : List Term). SumLeft k n all (terms_of (map term_tree r)) c.loop-term.total.total c.loop-term.total.nonlinear c.loop-term.total.division) e c.loop-term.invariant.left in
    record { left = sum_more k n all _ (term_tree x) c.loop-term.total c.in_ok-total.total c.in_ok-part.part l c.in_ok-part.ensures c.in_ok-total.ensures; proper = p.1 }

pub read_sum-returns : goal.read_sum-returns
read_sum-returns t c =
    let i = c.loop-term.term-index in let ts = c.args.terms.now in
    let k = context_of c.args.context in let n = place c.args.names.now in
    let all = terms_of (map term_tree ts) in
    let l = subst (λ (r : List Term). SumLeft k n all (terms_of (map term_tree r)) c.loop-term.total.total c.loop-term.total.nonlinear c.loop-term.total.division) (none_left ts i c.loop-term-test.false) c.loop-term.invariant.left in
    IfOk-weaker c.into_term.result _ _ (λ r h. sum_whole k n all c.loop-term.total r l h) c.into_term.ensures

pub read_term-read_sum-requires : goal.read_term-read_sum-requires
read_term-read_sum-requires t c =
    let e = sum_is _ _ _ c.in-Sum.is c.items.ensures in
    let s = ap term_size e in
    (omega (arith, s), (subst IsProperTerm e c.requires).1)

pub read_term-read_product-requires : goal.read_term-read_product-requires
read_term-read_product-requires t c =
    let e = product_is _ _ _ c.in-Product.is c.items-in-Product.ensures in
    let s = ap term_size e in
    (omega (arith, s), (subst IsProperTerm e c.requires).1)

pub read_term-read_term-requires : goal.read_term-read_term-requires
read_term-read_term-requires t c =
    let e = negative_is _ _ _ c.in-Negative.is c.deref.ensures in
    let s = ap term_size e in
    (omega (arith, s), subst IsProperTerm e c.requires)

pub read_term-read_term-requires-in-Quotient : goal.read_term-read_term-requires-in-Quotient
read_term-read_term-requires-in-Quotient t c =
    let e = quotient_is _ _ _ c.in-Quotient.is in
    let d = ap term_tree c.deref-in-Quotient.ensures in
    let s = ap term_size e in let u = ap term_size d in
    (omega (arith, s, u), subst IsProperTerm (sym d) (subst IsProperTerm e c.requires).0)

pub read_term-read_term-requires-in-Quotient-2 : goal.read_term-read_term-requires-in-Quotient-2
read_term-read_term-requires-in-Quotient-2 t c =
    let e = quotient_is _ _ _ c.in-Quotient.is in
    let d = ap term_tree c.deref-in-Quotient-2.ensures in
    let s = ap term_size e in let u = ap term_size d in
    (omega (arith, s, u), subst IsProperTerm (sym d) (subst IsProperTerm e c.requires).1)

pub read_term-read_term-requires-in-Power : goal.read_term-read_term-requires-in-Power
read_term-read_term-requires-in-Power t c =
    let e = power_is _ _ _ c.in-Power.is in
    let d = ap term_tree c.deref-in-Power.ensures in
    let s = ap term_size e in let u = ap term_size d in
    (omega (arith, s, u), subst IsProperTerm (sym d) (subst IsProperTerm e c.requires).0)

pub read_term-returns-in-Number : goal.read_term-returns-in-Number
read_term-returns-in-Number t c =
    let k = context_of c.args.context in let n = place c.args.names.now in
    subst (λ (s : TermTree). IsTermRead k n s c.literal.result) (sym (number_literal _ _ c.in-Number.is)) (c.literal.ensures k n)

pub read_term-returns-in-Name : goal.read_term-returns-in-Name
read_term-returns-in-Name t c =
    let k = context_of c.args.context in let n = place c.args.names.now in
    let e = name_is _ _ c.in-Name.is in
    IfOk-weaker c.variable.result _ _ (λ r h. subst (λ (s : TermTree). IsTermRead k n s r) (sym e) (h k n c.in-Name.name (sym c.place.ensures))) c.variable.ensures

pub read_term-power_of-requires-clause-lowest : goal.read_term-power_of-requires-clause-lowest
read_term-power_of-requires-clause-lowest t c a i v e =
    let k = context_of c.args.context in let n = place c.args.names.now in
    let b = term_tree c.deref-in-Power.result.now in
    let r = subst (λ x. IfOk x (IsTermRead k n b)) i c.read_term-in-Power.ensures in
    form_is_lowest k n b (rational_of v) (some_there v (formed k n b) (subst (λ o. Shows o (formed k n b)) e r.form))

pub read_term-returns-in-Quotient : goal.read_term-returns-in-Quotient
read_term-returns-in-Quotient t c =
    let k = context_of c.args.context in let n = place c.args.names.now in
    let e = quotient_is _ _ _ c.in-Quotient.is in
    let d = ap term_tree c.deref-in-Quotient.ensures in
    let f = ap term_tree c.deref-in-Quotient-2.ensures in
    let left = subst (λ (s : TermTree). IfOk c.read_term-in-Quotient.result (IsTermRead k n s)) d c.read_term-in-Quotient.ensures in
    let right = subst (λ (s : TermTree). IfOk c.read_term-in-Quotient-2.result (IsTermRead k n s)) f c.read_term-in-Quotient-2.ensures in
    IfOk-weaker c.quotient_of.result _ _ (λ r h. subst (λ (s : TermTree). IsTermRead k n s r) (sym e)
    (quotient_read k n _ _ h.0 h.2.0 r (subst (λ x. IfOk x (IsTermRead k n (term_tree c.in-Quotient.dividend.value))) h.1 left) (subst (λ x. IfOk x (IsTermRead k n (term_tree c.in-Quotient.divisor.value))) h.2.1 right) h.2.2)) c.quotient_of.ensures

pub read_term-returns-in-Power : goal.read_term-returns-in-Power
read_term-returns-in-Power t c =
    let k = context_of c.args.context in let n = place c.args.names.now in
    let e = power_is _ _ _ c.in-Power.is in
    let base = subst (λ (s : TermTree). IfOk c.read_term-in-Power.result (IsTermRead k n s)) (ap term_tree c.deref-in-Power.ensures) c.read_term-in-Power.ensures in
    IfOk-weaker c.power_of.result _ _ (λ r h. subst (λ (s : TermTree). IsTermRead k n s r) (sym e) (power_read k n _ _ h.0 r (subst (λ x. IfOk x (IsTermRead k n (term_tree c.in-Power.base.value))) h.1 base) h.2)) c.power_of.ensures
