-- There is one list of truths.
use Rattle.std.proofs.Common.{◌≡◌, ℕ, suc, List, [], ◌∷◌, Bool, true, false, Some, length, refl, sym, ap₂, ◌∙◌, arith}
use Rattle.std.specs.Prelude.{slice_get}
use Rattle.std.proofs.lemmas.Option.{slice_get_within}
use Rattle.logic_meaning.specs.Context.{Integers}
use Rattle.logic_meaning.specs.Point.{Point}
use Rattle.logic_meaning.specs.Tree.{Tree}
use Rattle.formula_store.specs.Truths.{Tells}
use Rattle.qe_parallel.proofs.Runs.{place_there}
use Rattle.point_grid.specs.Truths.{IsTruthList}

tells_once : (f : Tree) (p : Point ℕ) (a b : Bool) → Tells a f p → Tells b f p → a ≡ b
tells_once f p true true x y = refl
tells_once f p true false x y = absurd (y Integers (x Integers))
tells_once f p false true x y = absurd (x Integers (y Integers))
tells_once f p false false x y = refl

-- lists of one length with the same elements
same_places : (xs ys : List Bool) → length xs ≡ length ys → ((i : ℕ) (x y : Bool) → slice_get xs i ≡ Some x → slice_get ys i ≡ Some y → x ≡ y) → xs ≡ ys
same_places [] [] e h = refl
same_places [] (y ∷ ys) e h = absurd (omega arith)
same_places (x ∷ xs) [] e h = absurd (omega arith)
same_places (x ∷ xs) (y ∷ ys) e h = ap₂ (λ z zs. z ∷ zs) (h 0 x y refl refl) (same_places xs ys (omega arith) (λ i. h (suc i)))

pub one_truth_list : (f : Tree) (points : List (Point ℕ)) (a b : List Bool) → IsTruthList f points a → IsTruthList f points b → a ≡ b
one_truth_list f points a b p q = same_places a b (p.count ∙ sym q.count) one
  where
    one : (i : ℕ) (x y : Bool) → slice_get a i ≡ Some x → slice_get b i ≡ Some y → x ≡ y
    one i x y ex ey =
        let w = slice_get_within a i x ex in
        let c = p.count in
        let at = place_there points i (omega arith) in
        tells_once f at.0 x y (p.each i at.0 x at.1 ex) (q.each i at.0 y at.1 ey)
