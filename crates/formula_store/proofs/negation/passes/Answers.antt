use Rattle.std.proofs.Common.{◌≡◌, ℕ, ◌<◌, ◌*◌, ◌/◌, nat_lt, Option, Some, IsTrue, ◌↔◌, arith}
use Rattle.std.proofs.lemmas.Grind.{common_steps}
use borrow.Author.Tests.{ltb-true}
use Rattle.formula_store.proofs.negation.passes.Goals as goal

above : (n count : ℕ) → n < 6 * count → IsTrue (nat_lt (n / 6) count)
above n count h = let k : n / 6 < count = omega arith in grind (arith, common_steps)

below : (n count : ℕ) → IsTrue (nat_lt (n / 6) count) → n < 6 * count
below n count t = let k : n / 6 < count = ltb-true (n / 6) count t in omega arith

told : (o : Option ℕ) (n count : ℕ) → o ≡ Some n → IsTrue (nat_lt (n / 6) count) ↔ ((l : ℕ) × (o ≡ Some l) × (l < 6 * count))
told o n count e = (λ t. (n, e, below n count t), λ h. let s : n ≡ h.0 = cc in above n count (omega (arith, h.2)))

pub returns-in-Some : goal.returns-in-Some
returns-in-Some c = told c.args.limit c.in-Some.limit c.args.count c.in-Some.is
