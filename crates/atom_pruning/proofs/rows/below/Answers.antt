use Rattle.std.proofs.Common.{◌≡◌, ℕ, ℤ, pos, ◌+ℤ◌, ◌<ℤ◌, ◌≤ℤ◌, FitsSigned, ap, ◌∙◌, subst, arith, rules}
use Rattle.std.specs.Int.{w128}
use Rattle.std.proofs.lemmas.Int.{ints, to_z-of_z}
use Rattle.logic_meaning.specs.Form.{Form, value}
use Rattle.logic_meaning.specs.Point.{Point, Of}
use Rattle.normal_atoms.specs.Atoms.{context_of}
use Rattle.normal_atoms.proofs.Comparisons.{value_whole}
use Rattle.atom_pruning.proofs.rows.below.Goals as goal

-- at a whole point a form below 0 is at most 0 with a constant that is 1 more
raised : (f g : Form) (k : ℤ) (p : Point ℕ) → k ≡ f.constant +ℤ pos 1 → g ≡ record { terms = f.terms; constant = k } → p.below ≡ 1 → value f p <ℤ pos 0 → value g p ≤ℤ pos 0
raised f g k p e s o h =
    let a = value_whole f p o in
    let b = ap (λ (g : Form). value g p) s ∙ value_whole (record { terms = f.terms; constant = k }) p o in
    omega (arith, ints)

pub returns-in_ok-constant-in-Integers : goal.returns-in_ok-constant-in-Integers
returns-in_ok-constant-in-Integers c = λ p o h.
    let f = c.args.form in
    let k = c.in_ok-constant-in-Integers.constant in
    let fits : FitsSigned w128 c.constant_part.result = search rules in
    let within : FitsSigned w128 k = search rules in
    let e : k ≡ c.constant_part.result +ℤ pos 1 = (simp to_z-of_z at c.in_ok-constant-in-Integers.ensures).1 in
    let whole : p.below ≡ 1 = subst (λ t. Of (context_of t) p) c.in-Integers.is o in
    c.at_most.ensures p (raised f c.with_constant.result k p (e ∙ ap (λ z. z +ℤ pos 1) c.constant_part.ensures.value) (simp to_z-of_z at c.with_constant.ensures.form) whole h)
