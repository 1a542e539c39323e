use Rattle.std.proofs.Common.{◌≡◌, ℤ, to_z, of_z, Some, None, sym, ap, ◌∙◌, subst}
use Rattle.std.specs.Int.{w128}
use Rattle.std.proofs.lemmas.Int.{to_z-of_z}
use Rattle.exact_numbers.specs.Limit.{InLimit}
use Rattle.exact_numbers.proofs.Casts.{fits}
use Rattle.logic_meaning.specs.Form.{Form, value}
use Rattle.logic_meaning.specs.PutIn.{terms_kept}
use Rattle.logic_meaning.specs.Terms.{value_steps}
use Rattle.linear_forms.specs.Combinations.{IsLinear}
use Rattle.linear_forms.specs.Values.{point_of, number_at}
use Rattle.linear_forms.specs.Linear.{terms_of}
use Rattle.reference_engine.specs.Put.{around, IsFormPut}
use Rattle.reference_engine.proofs.Parting.{others, others_are, out_linear, kept_linear, value_within, below_not_zero, form_is_put, value_refused}
use Rattle.reference_engine.proofs.forms.form_put.Goals as goal

-- the constant of the form, read back from its bits
read_constant : (k n : ℤ) → k ≡ n → InLimit n → to_z w128 (of_z w128 k) ≡ n
read_constant k n e h = ap (λ z. to_z w128 (of_z w128 z)) e ∙ to_z-of_z w128 n (fits n h)

pub of-others-requires : goal.of-others-requires
of-others-requires c =
    let p = point_of c.args.at.now in
    let ns = around c.args.names.now in
    let f = c.args.form.now in
    let l = c.constant_part.ensures.linear in
    let k = read_constant c.constant_part.result f.constant c.constant_part.ensures.value l.constant_within in
    subst IsLinear (sym (others_are p ns f (terms_of c.in_ok-kept.field-0.out.items) (to_z w128 (of_z w128 c.constant_part.result)) c.in_ok-kept.ensures.parted.become k)) (out_linear p ns f l)

pub of-requires : goal.of-requires
of-requires c =
    let v = c.args.at.now in
    let p = point_of v in
    let ns = around c.args.names.now in
    let f = c.args.form.now in
    let n = c.in-Some.constant in
    let l = c.constant_part.ensures.linear in
    let w = value_within _ (number_at v) v.denominator n c.in-Some.ensures.rule in
    let k = to_z-of_z w128 n (fits n w) in
    let e : record { terms = terms_of c.in_ok-kept.field-0.kept.items; constant = to_z w128 (of_z w128 n) } ≡ record { terms = terms_kept p ns f.terms; constant = n }
    = λ i. record { terms = c.in_ok-kept.ensures.parted.stay i; constant = k i } in
    subst IsLinear (sym e) (kept_linear p ns f n l (below_not_zero v c.parted.ensures.positive) c.in_ok-kept.ensures.parted.within w)

pub returns-in-Some-clause-put : goal.returns-in-Some-clause-put
returns-in-Some-clause-put c =
    let v = c.args.at.now in
    let p = point_of v in
    let ns = around c.args.names.now in
    let f = c.args.form.now in
    let n = c.in-Some.constant in
    let parts = c.in_ok-kept.ensures.parted in
    let l = c.constant_part.ensures.linear in
    let same : c.of-others.result ≡ others p ns f = c.of-others.ensures.form ∙ others_are p ns f _ _ parts.become (read_constant c.constant_part.result f.constant c.constant_part.ensures.value l.constant_within) in
    let rule : Some n ≡ value_steps (others p ns f) (number_at v) v.denominator = subst (λ (g : Form). Some n ≡ value_steps g (number_at v) v.denominator) same c.in-Some.ensures.rule in
    let is : n ≡ value (others p ns f) p = subst (λ (g : Form). n ≡ value g p) same c.in-Some.ensures.outcome in
    let k = to_z-of_z w128 n (fits n (value_within (others p ns f) (number_at v) v.denominator n rule)) in
    let e : c.of.result ≡ record { terms = terms_kept p ns f.terms; constant = n } = c.of.ensures.form ∙ (λ i. record { terms = parts.stay i; constant = k i }) in
    subst (IsFormPut p ns f) (sym e) (form_is_put v c.parted.ensures.positive ns f n rule is parts.within)

pub returns-in-None-clause-put : goal.returns-in-None-clause-put
returns-in-None-clause-put c =
    let v = c.args.at.now in
    let p = point_of v in
    let ns = around c.args.names.now in
    let f = c.args.form.now in
    let l = c.constant_part.ensures.linear in
    let same : c.of-others.result ≡ others p ns f = c.of-others.ensures.form ∙ others_are p ns f _ _ c.in_ok-kept.ensures.parted.become (read_constant c.constant_part.result f.constant c.constant_part.ensures.value l.constant_within) in
    value_refused v c.parted.ensures.positive ns f (subst (λ (g : Form). None ≡ value_steps g (number_at v) v.denominator) same c.in-None.ensures.rule)
