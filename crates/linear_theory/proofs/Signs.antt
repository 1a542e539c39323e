-- What a number that is at most 0, or below 0, says of its multiples and of sums.
use Rattle.std.proofs.Common.{◌≡◌, Bool, true, false, ◌||◌, sym, subst, arith, ◌↔◌}
use Rattle.std.proofs.Math.IntN.{ℤ, pos, ◌+ℤ◌, ◌*ℤ◌}
use Rattle.std.specs.Prelude.{◌<ℤ◌, ◌≤ℤ◌}
use Rattle.std.proofs.lemmas.Int.{ints}
use Rattle.logic_meaning.specs.Atom.{Below, AtMost}
use Rattle.formula_laws.proofs.Relations.{relates_zero_mul}
use Rattle.linear_theory.specs.RowsHold.{Holds}

-- a positive factor changes nothing
pub holds_mul : (s : Bool) (k v : ℤ) → pos 0 <ℤ k → Holds s v ↔ Holds s (k *ℤ v)
holds_mul true k v h = relates_zero_mul Below k v h
holds_mul false k v h = relates_zero_mul AtMost k v h

-- a strict row says more
pub holds_weak : (s : Bool) (v : ℤ) → Holds s v → v ≤ℤ pos 0
holds_weak true v h = omega (arith, ints)
holds_weak false v h = h

pub holds_left : (s t : Bool) (v : ℤ) → Holds (s || t) v → Holds s v
holds_left true t v h = h
holds_left false t v h = holds_weak t v h

pub holds_right : (s t : Bool) (v : ℤ) → Holds (s || t) v → Holds t v
holds_right true t v h = strong t h
  where
    strong : (t : Bool) → v <ℤ pos 0 → Holds t v
    strong true k = k
    strong false k = omega (arith, ints)
holds_right false t v h = h

holds_add : (s : Bool) (a b : ℤ) → a ≤ℤ pos 0 → Holds s b → Holds s (a +ℤ b)
holds_add true a b h k = omega (arith, ints)
holds_add false a b h k = omega (arith, ints)

holds_both : (s t : Bool) (a b : ℤ) → Holds s a → Holds t b → Holds (s || t) (a +ℤ b)
holds_both true t a b h k = let w = holds_weak t b k in omega (arith, ints)
holds_both false t a b h k = holds_add t a b h k

-- one number is a positive multiple of another
pub holds_times : (s : Bool) (k a m c : ℤ) → pos 0 <ℤ k → pos 0 <ℤ m → m *ℤ c ≡ k *ℤ a → Holds s a → Holds s c
holds_times s k a m c pk pm e h = (holds_mul s m c pm).1 (subst (Holds s) (sym e) ((holds_mul s k a pk).0 h))

-- a multiple of a number is the sum of multiples of one that is at most 0 and of another
pub holds_sum : (s : Bool) (k a l b m c : ℤ) → pos 0 <ℤ k → pos 0 <ℤ l → pos 0 <ℤ m → m *ℤ c ≡ k *ℤ a +ℤ l *ℤ b → a ≤ℤ pos 0 → Holds s b → Holds s c
holds_sum s k a l b m c pk pl pm e h g =
    (holds_mul s m c pm).1 (subst (Holds s) (sym e) (holds_add s (k *ℤ a) (l *ℤ b) ((holds_mul false k a pk).0 h) ((holds_mul s l b pl).0 g)))

-- or of two numbers of rows
pub holds_join : (s t : Bool) (k a l b m c : ℤ) → pos 0 <ℤ k → pos 0 <ℤ l → pos 0 <ℤ m → m *ℤ c ≡ k *ℤ a +ℤ l *ℤ b → Holds s a → Holds t b → Holds (s || t) c
holds_join s t k a l b m c pk pl pm e h g =
    (holds_mul (s || t) m c pm).1 (subst (Holds (s || t)) (sym e) (holds_both s t (k *ℤ a) (l *ℤ b) ((holds_mul s k a pk).0 h) ((holds_mul t l b pl).0 g)))
