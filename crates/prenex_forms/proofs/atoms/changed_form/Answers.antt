use Rattle.std.proofs.Common.{◌≡◌, ◌≤◌, Some, ℤ, refl, sym, ap, ◌∙◌, subst, arith, nat_eq, length, ℕ, if◌then◌else◌}
use Rattle.std.specs.Prelude.{slice_get}
use Rattle.std.specs.Int.{w128}
use Rattle.std.proofs.lemmas.Int.{to_z-of_z}
use Rattle.exact_numbers.specs.Limit.{InLimit}
use Rattle.exact_numbers.proofs.Casts.{fits}
use Rattle.logic_meaning.specs.Form.{Term, coefficient, multiple}
use Rattle.formula_laws.proofs.Gathered.{gathered_same}
use Rattle.linear_forms.specs.Combinations.{IsLinear}
use Rattle.written_atoms.specs.Entries.{coefficient_at}
use Rattle.written_atoms.proofs.EntryTerms.{within_at}
use Rattle.logic_meaning.specs.Renaming.{form_named}
use Rattle.shape_theory.proofs.NamedAtoms.{named_multiple}
use Rattle.written_atoms.specs.Sum.{IsSumOf}
use Rattle.prenex_forms.specs.Named.{now_of}
use Rattle.prenex_forms.proofs.Lists.{if_ok_then}
use Rattle.prenex_forms.proofs.Changed.{put_more, at_among, whole_named}
use Rattle.prenex_forms.proofs.atoms.changed_form.Goals as goal

pub loop-place-init : goal.loop-place-init
unfolding coefficient
loop-place-init c = record { coefficients = λ x. sym (c.of-sum.ensures.coefficients x); constant = refl }

pub put-requires : goal.put-requires
put-requires c =
    let t : Term = record { times = c.in-Some.times; name = c.in-Some.name.number } in
    let at : slice_get c.args.form.now.terms c.loop-place.place ≡ Some t = sym c.in-Some.ensures.value in
    let h = within_at c.args.form.now.terms c.loop-place.place t c.constant_part.ensures.linear.within at in
    subst (λ (z : ℤ). InLimit z) (sym (to_z-of_z w128 c.in-Some.times (fits c.in-Some.times h))) h

pub loop-place-preserved : goal.loop-place-preserved
unfolding coefficient
loop-place-preserved c =
    let f = c.args.form.now in
    let i = c.loop-place.place in
    let k = c.in-Some.times in
    let t : Term = record { times = k; name = c.in-Some.name.number } in
    let at : slice_get f.terms i ≡ Some t = sym c.in-Some.ensures.value in
    let l = c.constant_part.ensures.linear in
    let fk = fits k (within_at f.terms i t l.within at) in
    let p = simp to_z-of_z at c.in_ok-put.ensures.put in
    let now = now_of c.args.now.now in
    let old = c.loop-place.sum.coefficients.entries in
    record {
      coefficients = put_more now old c.put.new.self.coefficients.entries f.terms i t l.sorted.rising l.sorted.nonzero
          (λ y n e. c.requires y t.name n (named_multiple t.name f.terms l.sorted.rising l.sorted.nonzero (at_among i f.terms t at)) e) at
          (λ x. p x ∙ ap (λ (v : ℕ). if nat_eq v x then k else coefficient_at old x) c.named.ensures) c.loop-place.invariant.coefficients;
      constant = c.in_ok-put.ensures.constant ∙ c.loop-place.invariant.constant;
    }

pub returns-clause-same : goal.returns-clause-same
unfolding coefficient
returns-clause-same c =
    let f = c.args.form.now in
    let now = now_of c.args.now.now in
    let fc = fits c.constant_part.result (subst (λ (z : ℤ). InLimit z) (sym c.constant_part.ensures.value) c.constant_part.ensures.linear.constant_within) in
    let start = sym (simp to_z-of_z at c.of-sum.ensures.constant) in
    let all : length f.terms ≤ c.loop-place.place = omega arith in
    if_ok_then c.into_form.result (λ g. IsSumOf c.loop-place.sum g × IsLinear g) _ c.into_form.ensures (λ g h.
    gathered_same g (form_named now f) (λ x. h.0.coefficients x ∙ c.loop-place.invariant.coefficients x ∙ ap (multiple x) (whole_named now c.loop-place.place f.terms all))
    (h.0.constant ∙ c.loop-place.invariant.constant ∙ start ∙ c.constant_part.ensures.value))

pub returns-clause-linear : goal.returns-clause-linear
returns-clause-linear c = if_ok_then c.into_form.result (λ g. IsSumOf c.loop-place.sum g × IsLinear g) _ c.into_form.ensures (λ g h. h.1)
