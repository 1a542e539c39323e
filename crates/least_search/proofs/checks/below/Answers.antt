use Rattle.std.proofs.Common.{◌≡◌, ℕ, [], ◌∷◌, ap, sym, ◌∙◌, arith, rules}
use Rattle.std.proofs.Math.IntN.{ℤ, pos, neg_ℤ, ◌-ℤ◌, ◌*ℤ◌}
use Rattle.std.specs.Prelude.{◌<ℤ◌}
use Rattle.std.proofs.lemmas.Int.{ints, to_z-of_z}
use Rattle.exact_numbers.specs.Limit.{InLimit}
use Rattle.exact_numbers.proofs.Casts.{fits}
use Rattle.exact_numbers.proofs.Ring.{mul_comm, sub_mul, zero_mul}
use Rattle.logic_meaning.specs.Form.{Form, value}
use Rattle.logic_meaning.specs.Point.{Point}
use Rattle.linear_forms.specs.Linear.{terms_of}
use Rattle.least_search.proofs.checks.below.Goals as goal

turned : (a : ℤ) → InLimit a → InLimit (pos 0 -ℤ a)
turned a h = search rules

-- the value of d * z - k
below_there : (z : ℕ) (k d : ℤ) (f : Form) (p : Point ℕ) → f ≡ record { terms = record { times = d; name = z } ∷ []; constant = pos 0 -ℤ k } → (p.at z *ℤ d) <ℤ (k *ℤ pos p.below) → value f p <ℤ pos 0
unfolding value
below_there z k d f p e l =
    let a = ap (λ (g : Form). value g p) e in
    let b = mul_comm d (p.at z) in
    let c = sub_mul (pos 0) k (pos p.below) in
    let n = zero_mul (pos p.below) in
    omega (arith, ints, a, b, c, n, l)

pub returns : goal.returns
returns c = λ p l.
    let fn = fits c.args.value.numerator c.args.value.numerator_within in
    let fd = fits c.args.value.denominator c.args.value.denominator_within in
    let fm = fits (pos 0 -ℤ c.args.value.numerator) (turned c.args.value.numerator c.args.value.numerator_within) in
    let items : c.in_ok-terms.terms.items ≡ (c.args.name, c.args.value.denominator) ∷ [] = simp to_z-of_z at c.in_ok-terms.ensures.items in
    let form : c.of.result ≡ record { terms = terms_of c.in_ok-terms.terms.items; constant = pos 0 -ℤ c.args.value.numerator } = simp to_z-of_z at c.of.ensures.form in
    below_there c.args.name.number c.args.value.numerator c.args.value.denominator c.of.result p
    (form ∙ ap (λ ps. let f : Form = record { terms = terms_of ps; constant = pos 0 -ℤ c.args.value.numerator } in f) items) l
