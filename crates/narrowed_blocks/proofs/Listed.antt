-- The conjunction of atoms and other formulas: where it is true, also with some value of a name that stands in its atoms alone.
use Rattle.std.proofs.Common.{◌≡◌, ℕ, List, [], ◌∷◌, ◌↔◌, nat_eq}
use Rattle.logic_meaning.specs.Context.{Context}
use Rattle.logic_meaning.specs.Every.{FreeInSome}
use Rattle.logic_meaning.specs.Formula.{And, Ex}
use Rattle.logic_meaning.specs.Point.{Point, Of, move}
use Rattle.logic_meaning.specs.Atom.{Atom, Mentions}
use Rattle.logic_meaning.specs.Tree.{Tree, Trees, TrueAt}
use Rattle.formula_laws.proofs.Equivalence.{absent_moved}
use Rattle.case_theory.specs.Block.{DifferIn, Somewhere}
use Rattle.case_theory.specs.PutThrough.{AreTrue}
use Rattle.case_theory.specs.Under.{Lack}
use Rattle.case_theory.proofs.Pending.{atoms_elsewhere}
use Rattle.case_theory.proofs.Block.{one_taken, somewhere_more}
use Rattle.shadow_theory.specs.Shadows.{HasValue}
use Rattle.narrowed_blocks.specs.Narrowing.{listed}

-- the atoms are true, and the others
pub listed_true : (c : Context) (us : List Atom) (fs : Trees) (p : Point ℕ) → TrueAt c (And (listed us fs)) p ↔ (AreTrue us p × TrueAt c (And fs) p)
listed_true c [] fs p = (λ t. (tt, t), λ t. t.1)
listed_true c (u ∷ us) fs p =
    let i = listed_true c us fs p in
    (λ t. let r = i.0 t.1 in ((t.0, r.0), r.1), λ t. (t.0.0, i.1 (t.0.1, t.1)))

-- with some value of a name of the atoms alone: the atoms have one, and the others are true
pub listed_value : (c : Context) (x : ℕ) (us : List Atom) (fs : Trees) (p : Point ℕ) → ¬ (FreeInSome Mentions fs x) → TrueAt c (Ex x (And (listed us fs))) p ↔ (HasValue c x us p × TrueAt c (And fs) p)
listed_value c x us fs p n = (
  λ t. let r = (listed_true c us fs (move nat_eq p x t.0 t.1)).0 t.3 in ((t.0, t.1, t.2, r.0), (absent_moved c (And fs) p x t.0 t.1 n t.2).1 r.1),
  λ t. (t.0.0, t.0.1, t.0.2, (listed_true c us fs (move nat_eq p x t.0.0 t.0.1)).1 (t.0.3, (absent_moved c (And fs) p x t.0.0 t.0.1 n t.0.2).0 t.1)),
)

-- another formula that is true at those points too
pub somewhere_other : (c : Context) (P : ℕ → Type 0) (f g : Tree) (p : Point ℕ) → ((q : Point ℕ) → Of c q → DifferIn P p q → TrueAt c f q → TrueAt c g q) → Somewhere c P f p → Somewhere c P g p
somewhere_other c P f g p h s = (s.0, s.1, s.2, h s.0 s.1 s.2 s.3)

module _ (c : Context) (ks : List Atom) (P : ℕ → Type 0) (lack : (y : ℕ) → P y → Lack ks y) (x : ℕ) (here : P x) (fs : Trees) (apart : ¬ (FreeInSome Mentions fs x)) (us : List Atom) (p : Point ℕ) (o : Of c p) (k : AreTrue ks p) where
  -- P without x
  abbrev Without : ℕ → Type 0
  Without y = ¬ (x ≡ y) × P y

  -- where no value of the name makes the atoms true, the block is true nowhere
  pub never_there : ((q : Point ℕ) → Of c q → AreTrue ks q → ¬ (HasValue c x us q)) → ¬ (Somewhere c P (And (listed us fs)) p)
  never_there never s =
      let r = (one_taken c P x (And (listed us fs)) p o here).0 s in
      never r.0 r.1 (atoms_elsewhere c Without ks p r.0 o r.1 r.2 (λ y i. lack y i.1) k) ((listed_value c x us fs r.0 apart).0 r.3).0

  -- the atoms that are true where some value makes the first ones true take their place, and the name goes
  pub one_gone : (Q : ℕ → Type 0) → ((y : ℕ) → (¬ (x ≡ y) × P y) ↔ Q y) → (vs : List Atom) → ((q : Point ℕ) → Of c q → AreTrue ks q → AreTrue vs q ↔ HasValue c x us q) →
      Somewhere c P (And (listed us fs)) p ↔ Somewhere c Q (And (listed vs fs)) p
  one_gone Q left vs exact = (
    λ s. somewhere_more c Without Q (And (listed vs fs)) p (λ y. (left y).0) (somewhere_other c Without (Ex x (And (listed us fs))) (And (listed vs fs)) p (λ q u d. (same q u d).0) ((one_taken c P x (And (listed us fs)) p o here).0 s)),
    λ s. (one_taken c P x (And (listed us fs)) p o here).1 (somewhere_other c Without (And (listed vs fs)) (Ex x (And (listed us fs))) p (λ q u d. (same q u d).1) (somewhere_more c Q Without (And (listed vs fs)) p (λ y. (left y).1) s)),
  )
    where
      same : (q : Point ℕ) → Of c q → DifferIn Without p q → TrueAt c (Ex x (And (listed us fs))) q ↔ TrueAt c (And (listed vs fs)) q
      same q u d =
          let a = listed_value c x us fs q apart in
          let b = listed_true c vs fs q in
          let e = exact q u (atoms_elsewhere c Without ks p q o u d (λ y i. lack y i.1) k) in
          (λ t. let r = a.0 t in b.1 (e.1 r.0, r.1), λ t. let r = b.0 t in a.1 (e.0 r.0, r.1))
