use Rattle.std.proofs.Common.{◌++◌, ℤ, to_z, of_z, sym, ap, ◌∙◌, subst}
use Rattle.std.specs.Int.{w128}
use Rattle.std.proofs.lemmas.List.{append-nil}
use Rattle.std.proofs.lemmas.Int.{to_z-of_z}
use Rattle.exact_numbers.specs.Limit.{InLimit}
use Rattle.exact_numbers.proofs.Casts.{fits, zero_bits}
use Rattle.logic_meaning.specs.Form.{coefficient}
use Rattle.logic_meaning.specs.Sorted.{with_term}
use Rattle.linear_forms.specs.Linear.{terms_of}
use Rattle.written_atoms.specs.Sum.{IsSumOf}
use Rattle.written_atoms.proofs.EntryTerms.{nonzero_terms, AreInOrder, AreTermsOf, order_first, order_rest, with_nothing, terms_of_entries, terms_pushed, form_of_entries}
use Rattle.written_atoms.proofs.sum.WholeSum.form.Goals as goal

pub loop-name-init : goal.loop-name-init
loop-name-init c =
    let e = c.into_iter-name-iterator.ensures.into_iter_gives ∙ c.iter-name-items.ensures.rest in
    record {
      terms = ap (λ xs. terms_of xs ++ nonzero_terms c.into_iter-name-iterator.result) c.new-terms.ensures.items ∙ ap nonzero_terms e;
      order = subst AreInOrder (sym e) (record { sorted = c.iter-name-items.ensures.ordered; within = c.args.self.now.coefficients_within });
    }

pub loop-name-preserved-in-Continue-1 : goal.loop-name-preserved-in-Continue-1
loop-name-preserved-in-Continue-1 c =
    let s = c.in-Some.ensures.steps in
    let t = c.in-Some.times.now in
    let rest = c.next.new.self in
    let o = subst AreInOrder s c.loop-name.invariant.order in
    let w = order_first _ rest o in
    let e = to_z-of_z w128 t (fits t w) in
    let p = c.in_ok-push.ensures.items in
    record {
      terms = terms_pushed c.loop-name.terms.items c.push.new.self.items _ (nonzero_terms rest) p (λ z. c.if-times-ne0.true (ap (of_z w128) (sym e ∙ z)))
          ∙ ap (λ k. terms_of c.loop-name.terms.items ++ with_term k c.in-Some.name.now (nonzero_terms rest)) e
          ∙ ap (λ es. terms_of c.loop-name.terms.items ++ nonzero_terms es) (sym s) ∙ c.loop-name.invariant.terms;
      order = order_rest _ rest o;
    }

pub loop-name-preserved : goal.loop-name-preserved
loop-name-preserved c =
    let s = c.in-Some.ensures.steps in
    let t = c.in-Some.times.now in
    let rest = c.next.new.self in
    let o = subst AreInOrder s c.loop-name.invariant.order in
    let z = zero_bits t (order_first _ rest o) c.if-times-ne0.false in
    record {
      terms = ap (λ ts. terms_of c.loop-name.terms.items ++ ts) (sym (with_nothing t c.in-Some.name.now (nonzero_terms rest) z))
          ∙ ap (λ es. terms_of c.loop-name.terms.items ++ nonzero_terms es) (sym s) ∙ c.loop-name.invariant.terms;
      order = order_rest _ rest o;
    }

pub of-requires : goal.of-requires
of-requires c =
    let k = c.args.self.now.constant in
    let e = sym (append-nil (terms_of c.loop-name.terms.items)) ∙ ap (λ es. terms_of c.loop-name.terms.items ++ nonzero_terms es) (sym c.in-None.ensures.steps.0) ∙ c.loop-name.invariant.terms in
    let o : AreInOrder c.args.self.now.coefficients.entries = record { sorted = c.iter-name-items.ensures.ordered; within = c.args.self.now.coefficients_within } in
    form_of_entries c.args.self.now.coefficients.entries _ _ o (subst (λ (z : ℤ). InLimit z) (sym (to_z-of_z w128 k (fits k c.args.self.now.constant_within))) c.args.self.now.constant_within) e

pub returns : goal.returns
unfolding coefficient
returns c =
    let k = c.args.self.now.constant in
    let e = sym (append-nil (terms_of c.loop-name.terms.items)) ∙ ap (λ es. terms_of c.loop-name.terms.items ++ nonzero_terms es) (sym c.in-None.ensures.steps.0) ∙ c.loop-name.invariant.terms in
    let o : AreInOrder c.args.self.now.coefficients.entries = record { sorted = c.iter-name-items.ensures.ordered; within = c.args.self.now.coefficients_within } in
    let t = subst (AreTermsOf c.args.self.now.coefficients.entries) (sym e) (terms_of_entries c.args.self.now.coefficients.entries o) in
    let sum : IsSumOf c.args.self.now (record { terms = terms_of c.loop-name.terms.items; constant = to_z w128 (of_z w128 k) }) =
    record { sorted = record { rising = t.rising; nonzero = t.nonzero }; coefficients = t.coefficients; constant = to_z-of_z w128 k (fits k c.args.self.now.constant_within) } in
    (subst (IsSumOf c.args.self.now) (sym c.of.ensures.form) sum, c.of.ensures.linear)
