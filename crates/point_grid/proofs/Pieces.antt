-- The truths at one point, at the points of a piece and at all points.
use Rattle.std.proofs.Common.{◌≡◌, ℕ, suc, ◌+◌, ◌*◌, ◌<◌, List, [], ◌∷◌, Bool, Some, length, refl, sym, ap, ◌∙◌, subst, arith, Vec, Global}
use Rattle.std.proofs.Math.IntN.{ℤ, pos}
use Rattle.std.specs.Prelude.{slice_get, flat_map, unsigned_abs}
use Rattle.std.specs.Int.{div_ceil}
use Rattle.std.proofs.lemmas.Grind.{div_ceil_times}
use Rattle.std.proofs.lemmas.Option.{slice_get_within}
use Rattle.logic_meaning.specs.Atom.{form_of}
use Rattle.logic_meaning.specs.Point.{Point}
use Rattle.logic_meaning.specs.Tree.{Tree}
use Rattle.logic_meaning.specs.Terms.{ValuePasses}
use Rattle.linear_forms.specs.Values.{Numbers, number_at, point_of}
use Rattle.formula_store.specs.Nodes.{tree}
use Rattle.formula_store.specs.Truths.{Tells, SomeAtomPasses}
use Rattle.qe_parallel.specs.Fanned.{AnswerAll, AreAnswers}
use Rattle.qe_parallel.proofs.Runs.{begun, together}
use Rattle.program_meaning.specs.Scales.{choice, size}
use Rattle.program_meaning.specs.Frames.{Frame, points_of}
use Rattle.point_grid.specs.FramePoints.{point_at}
use Rattle.point_grid.specs.Truths.{Task, IsTruthAt, IsTruthList, AreRun, start_of}
use Rattle.program_meaning.specs.PointPasses.{SomePointPasses}
use Rattle.point_grid.proofs.Numbering.{points_are_counted, point_place}

-- ---- one point

-- the values are the numbers of the point with this index
pub record AreAt (grid : Frame) (index : ℕ) (v : Numbers) : Type 0 where
  pub numbers : number_at v ≡ choice (λ _. pos 0) grid.scales index
  pub denominator : v.denominator ≡ grid.denominator

same_point : (grid : Frame) (index : ℕ) (v : Numbers) → AreAt grid index v → point_of v ≡ point_at grid index
same_point grid index v a = λ i. record { at = a.numbers i; below = unsigned_abs (a.denominator i) }

pub tells_at : (f : Tree) (grid : Frame) (index : ℕ) (v : Numbers) (b : Bool) → AreAt grid index v → Tells b f (point_of v) → Tells b f (point_at grid index)
tells_at f grid index v b a t = subst (λ (p : Point ℕ). Tells b f p) (same_point grid index v a) t

pub passes_at : (f : Tree) (grid : Frame) (index : ℕ) (v : Numbers) → index < size grid.scales → AreAt grid index v → SomeAtomPasses f v → SomePointPasses f grid
passes_at f grid index v h a (atom, among, passes) =
    let p = subst (λ (q : ℕ → ℤ). ValuePasses (form_of atom) q v.denominator) a.numbers passes in
    record { index = index; inside = h; atom = atom; among = among; passes = subst (λ (d : ℤ). ValuePasses (form_of atom) (choice (λ _. pos 0) grid.scales index) d) a.denominator p }

-- ---- the pieces

module _ (t : Task) where
  pub all_runs : (k : ℕ) (runs : List (Vec Bool Global)) → AreAnswers (λ (i : ℕ) (out : Vec Bool Global). AreRun t i out.items) k runs →
      AnswerAll (IsTruthAt t) (start_of t k) (start_of t (k + length runs)) (flat_map (λ (run : Vec Bool Global). run.items) runs)
  all_runs k [] a = let e : k ≡ k + 0 = omega arith in subst (λ (n : ℕ). AnswerAll (IsTruthAt t) (start_of t k) (start_of t n) []) e (begun (IsTruthAt t) (start_of t k))
  all_runs k (r ∷ runs) a =
      let e : k + 0 ≡ k = omega arith in
      let first = subst (λ (n : ℕ). AreRun t n r.items) e (a 0 r refl) in
      let rest = all_runs (k + 1) runs (λ i out h. let f : k + suc i ≡ (k + 1) + i = omega arith in subst (λ (n : ℕ). AreRun t n out.items) f (a (suc i) out h)) in
      let l : (k + 1) + length runs ≡ k + suc (length runs) = omega arith in
      subst (λ (n : ℕ). AnswerAll (IsTruthAt t) (start_of t k) (start_of t n) (flat_map (λ (run : Vec Bool Global). run.items) (r ∷ runs))) l
      (together (IsTruthAt t) (start_of t k) (start_of t (k + 1)) (start_of t ((k + 1) + length runs)) r.items (flat_map (λ (run : Vec Bool Global). run.items) runs) first rest)

  -- the last piece ends with the last point
  last_start : (n : ℕ) → n ≡ div_ceil (size t.grid.scales) 1000 → start_of t n ≡ size t.grid.scales
  last_start n e = let d = div_ceil_times (size t.grid.scales) 1000 (omega arith) in let f = ap (λ (m : ℕ). m * 1000) e in omega arith

  truth_list : (truths : List Bool) → AnswerAll (IsTruthAt t) 0 (size t.grid.scales) truths → IsTruthList (tree t.nodes t.root) (points_of t.grid) truths
  truth_list truths a = record { count = counted; each = one }
    where
      counted : length truths ≡ length (points_of t.grid)
      counted = let c = a.count in let m = points_are_counted t.grid in omega arith

      one : (i : ℕ) (p : Point ℕ) (b : Bool) → slice_get (points_of t.grid) i ≡ Some p → slice_get truths i ≡ Some b → Tells b (tree t.nodes t.root) p
      one i p b hp hb =
          let w = slice_get_within (points_of t.grid) i p hp in
          let m = points_are_counted t.grid in
          let e = point_place t.grid i (omega arith) in
          let same : point_at t.grid i ≡ p = cc in
          let z : 0 + i ≡ i = omega arith in
          subst (λ (q : Point ℕ). Tells b (tree t.nodes t.root) q) same (subst (λ (n : ℕ). IsTruthAt t n b) z (a.each i b hb))

  pub all_truths : (runs : List (Vec Bool Global)) (n : ℕ) (truths : List Bool) → n ≡ div_ceil (size t.grid.scales) 1000 → AnswerAll (λ (i : ℕ) (out : Vec Bool Global). AreRun t i out.items) 0 n runs →
      truths ≡ flat_map (λ (run : Vec Bool Global). run.items) runs → IsTruthList (tree t.nodes t.root) (points_of t.grid) truths
  all_truths runs n truths e a f =
      let all = all_runs 0 runs a.each in
      let l : start_of t (0 + length runs) ≡ size t.grid.scales = last_start (0 + length runs) (a.count ∙ e) in
      let z : start_of t 0 ≡ 0 = omega arith in
      let whole = subst (λ (m : ℕ). AnswerAll (IsTruthAt t) m (size t.grid.scales) (flat_map (λ (run : Vec Bool Global). run.items) runs)) z (subst (λ (m : ℕ). AnswerAll (IsTruthAt t) (start_of t 0) m (flat_map (λ (run : Vec Bool Global). run.items) runs)) l all) in
      truth_list truths (subst (λ (bs : List Bool). AnswerAll (IsTruthAt t) 0 (size t.grid.scales) bs) (sym f) whole)
