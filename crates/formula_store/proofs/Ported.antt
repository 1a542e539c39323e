-- New ids in place of old ones.
use Rattle.std.proofs.Common.{◌≡◌, ℕ, ◌<◌, ◌≤◌, ◌-◌, List, get_or, arith, ap, ◌∙◌}
use Rattle.std.proofs.lemmas.Bool.Decides.{nat_tests}
use Rattle.formula_store.specs.declared.id.FormulaId.{FormulaId}
use Rattle.formula_store.specs.Copies.{first_id, ported}

pub ported_low : (begun : ℕ) (ids : List FormulaId) (id : FormulaId) → id.number < begun → ported begun ids id ≡ id
ported_low begun ids id h = grind (arith, nat_tests)

pub ported_high : (begun : ℕ) (ids : List FormulaId) (id : FormulaId) → begun ≤ id.number → ported begun ids id ≡ get_or ids (id.number - begun) first_id
ported_high begun ids id h = grind (arith, nat_tests)

-- where none stays, all are in the list
pub ported_all : (ids : List FormulaId) (id : FormulaId) → ported 0 ids id ≡ get_or ids id.number first_id
ported_all ids id = let k : id.number - 0 ≡ id.number = omega arith in ported_high 0 ids id (omega arith) ∙ ap (λ n. get_or ids n first_id) k
