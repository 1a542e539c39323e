-- The value at a place, as the program calculates it.
use Rattle.std.proofs.Common.{◌≡◌, ℕ, Option, Some, None, sym, ap, ◌∙◌}
use Rattle.std.proofs.Math.IntN.{ℤ, pos}
use Rattle.std.specs.Prelude.{◌<ℤ◌}
use Rattle.exact_numbers.specs.Frac.{lowest, product_step, ◌>>=◌}
use Rattle.logic_meaning.specs.Form.{Form}
use Rattle.logic_meaning.specs.Terms.{value_steps}
use Rattle.linear_forms.specs.Values.{Numbers, number_at, point_of}
use Rattle.reference_engine.proofs.Parting.{below_is}
use Rattle.logic_meaning.specs.Calculated.{form_value}

-- the value of a form at the program's numbers, with their denominator
pub form_value_by : (e : Form) (d : ℕ) (v : Numbers) (o : Option ℤ) → pos 0 <ℤ v.denominator → o ≡ value_steps e (number_at v) v.denominator →
    form_value e d (point_of v) ≡ (o >>= λ n. product_step (lowest n v.denominator) (record { numerator = pos 1; denominator = pos d }))
form_value_by e d v o h k =
    ap (λ b. value_steps e (number_at v) b >>= λ n. product_step (lowest n b) (record { numerator = pos 1; denominator = pos d })) (sym (below_is v h))
    ∙ ap (λ (p : Option ℤ). p >>= λ n. product_step (lowest n v.denominator) (record { numerator = pos 1; denominator = pos d })) (sym k)

pub unformed_value : (e : Form) (d : ℕ) (v : Numbers) → pos 0 <ℤ v.denominator → None ≡ value_steps e (number_at v) v.denominator → form_value e d (point_of v) ≡ None
unformed_value e d v h k = form_value_by e d v None h k

pub formed_value : (e : Form) (d : ℕ) (v : Numbers) (n : ℤ) → pos 0 <ℤ v.denominator → Some n ≡ value_steps e (number_at v) v.denominator →
    form_value e d (point_of v) ≡ product_step (lowest n v.denominator) (record { numerator = pos 1; denominator = pos d })
formed_value e d v n h k = form_value_by e d v (Some n) h k
