use Rattle.std.proofs.Common.{◌≡◌, Bool, true, false, MatchBool, sym, ap, ◌∙◌}
use Rattle.std.specs.Int.{w128, cast_signed}
use Rattle.std.proofs.lemmas.Int.{to_z-of_z}
use Rattle.linear_forms.proofs.Quotients.{quotients_one}
use Rattle.normal_atoms.proofs.atom_merging_congruence.is_same_part.Goals as goal

-- a test of one part where the other holds
told : (b : Bool) {P Q R : Type 0} → P → (Q → R) → (R → Q) → MatchBool b Q (¬ Q) → MatchBool b (P × R) (¬ (P × R))
told true p f g h = (p, f h)
told false p f g h = λ k. h (g k.1)

pub returns-then-modulus-other_modulus : goal.returns-then-modulus-other_modulus
returns-then-modulus-other_modulus c =
    let m = to_z-of_z w128 c.args.modulus c.ranges.modulus in
    let n = to_z-of_z w128 c.args.other_modulus c.ranges.other_modulus in
    let e : c.args.modulus ≡ c.args.other_modulus = sym m ∙ ap (cast_signed w128) c.if-modulus-other_modulus.true ∙ n in
    let f = quotients_one c.args.form.now.terms in
    let g = quotients_one c.args.other.now.terms in
    told c.are_same.result e (λ h. sym f ∙ h ∙ g) (λ h. f ∙ h ∙ sym g) c.are_same.ensures
