use Rattle.std.proofs.Common.{rules, ◌≡◌, subst, map, [], ◌⊎◌, inl, inr}
use Rattle.std.proofs.lemmas.Int.{to_z-of_z}
use Rattle.std.proofs.lemmas.Result.{IfOk-weaker}
use Rattle.exact_numbers.specs.Divides.{IsGcd}
use Rattle.exact_numbers.proofs.Casts.{fits}
use Rattle.logic_meaning.specs.Form.{coefficient}
use Rattle.normal_atoms.specs.Atoms.{atom_of}
use Rattle.integer_shadows.proofs.Casting.{no_items, one_sided}
use Rattle.integer_shadows.proofs.shadow.cast.Goals as goal
use Rattle.integer_shadows.proofs.shadow.cast.Goals.{then-is_empty-via-then-is_empty, then-is_empty-via-else-is_empty+then-is_empty-2}

pub returns-then-is_empty-clause-shadow : goal.returns-then-is_empty-clause-shadow
returns-then-is_empty-clause-shadow c =
    let x = c.args.name.number in let b = c.args.bounds.now in
    let hm = c.requires.modulus in
    let fm = fits b.modulus hm.1 in
    let e : (b.lower.items ≡ []) ⊎ (b.upper.items ≡ []) = elim c.then-is_empty.branch [
      | then-is_empty-via-then-is_empty w ↦ inl (no_items b.lower (search rules) w.if-is_empty.ensures)
      | then-is_empty-via-else-is_empty+then-is_empty-2 w ↦ inr (no_items b.upper (search rules) w.if-is_empty-2.ensures)
    ] in
    let g = c.gcd-divisor.result in let fg = fits g c.gcd-divisor.ensures.within in
    let fc = fits c.coefficient.result c.coefficient.ensures.within in
    let gcd : IsGcd (coefficient x b.class) b.modulus g = subst (λ z. IsGcd z b.modulus g) c.coefficient.ensures.value (simp to_z-of_z at c.gcd-divisor.ensures.greatest) in
    IfOk-weaker _ _ _ (λ s h. one_sided x c.args.shadow b g hm gcd (map atom_of c.args.given.now) s e h) (simp to_z-of_z at c.with_condition.ensures)
