-- Three pieces that end in another order than theirs, worked by hand.
use Rattle.std.proofs.Common.{◌≡◌, ℕ, ◌*◌, [], ◌∷◌, Some, None, replicate, refl}
use Rattle.qe_parallel.specs.Orders.{filled}

filled_by_ends : filled (λ (i : ℕ). 10 * i) (2 ∷ 0 ∷ 1 ∷ []) (replicate 3 None) ≡ Some 0 ∷ Some 10 ∷ Some 20 ∷ []
filled_by_ends = refl
