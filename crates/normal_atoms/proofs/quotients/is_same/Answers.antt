use Rattle.std.proofs.Common.{◌≡◌, Bool, true, false, MatchBool, sym, ◌∙◌, ap, refl, is_eq}
use Rattle.std.specs.Prelude.{int_div}
use Rattle.std.specs.Ordering.{int_eq}
use Rattle.std.specs.Cmp.{signed_Decides}
use Rattle.exact_numbers.proofs.Casts.{fits, quotient_of_bits}
use Rattle.normal_atoms.proofs.quotients.is_same.Goals as goal

-- a test of one part where the other holds
told : (b : Bool) {P Q R : Type 0} → P → (Q → R) × (R → Q) → (b ≡ true → Q) × (Q → b ≡ true) → MatchBool b (P × R) (¬ (P × R))
told true p e h = (p, e.0 (h.0 refl))
told false p e h = λ k. let q = h.1 (e.1 k.1) in cc

pub returns-then-term-other : goal.returns-then-term-other
returns-then-term-other c =
    let x = quotient_of_bits c.args.term.1 c.args.divisor c.args.divisor (fits c.args.term.1 c.requires.within) c.ranges.divisor c.requires.positive refl in
    let y = quotient_of_bits c.args.other.1 c.args.other_divisor c.args.other_divisor (fits c.args.other.1 c.requires.other_within) c.ranges.other_divisor c.requires.other_positive refl in
    let e = c.is_eq.ensures ∙ ap is_eq c.cmp.ensures ∙ (λ i. int_eq (x i) (y i)) in
    let d = signed_Decides (int_div c.args.term.1 c.args.divisor) (int_div c.args.other.1 c.args.other_divisor) in
    told c.is_eq.result c.if-term-other.true (λ h. h, λ h. h) (λ h. d.0 (sym e ∙ h), λ h. e ∙ d.1 h)
