-- A test point can be put into what is made of such formulas; what is made at many points is beside their store.
use Rattle.std.proofs.Common.{arith, ◌≡◌, ⊎_elim, ◌+◌, ◌≤◌, List, [], ◌∷◌, map, length, get_or, sym, subst}
use Rattle.std.proofs.lemmas.Option.{slice_get-get_or, slice_get_cases}
use Rattle.std.specs.Prelude.{All}
use Rattle.logic_meaning.specs.Context.{Fields}
use Rattle.logic_meaning.specs.Formula.{And, Or, One}
use Rattle.logic_meaning.specs.Atom.{Atom}
use Rattle.formula_laws.specs.TheoryAtoms.{AtomIn}
use Rattle.logic_meaning.specs.Plain.{IsPlain}
use Rattle.logic_meaning.specs.Tree.{Tree}
use Rattle.formula_laws.specs.Equivalence.{InContext}
use Rattle.formula_tree.specs.declared.shape.Shape.{Shape}
use Rattle.formula_tree.specs.Makers.{IsMade, Keeps}
use Rattle.formula_tree.specs.Trees.{members}
use Rattle.formula_store.specs.declared.id.FormulaId.{FormulaId}
use Rattle.formula_store.specs.Changes.{Change}
use Rattle.formula_store.specs.Nodes.{tree, IsId}
use Rattle.qe_parallel.specs.Fanned.{AnswerAll}
use Rattle.virtual_subst.specs.Phases.{Phase, IsPutAtPiece}
use Rattle.gate_point_calls.specs.Taking.{Takes, StillTakes}

module _ (old new : List (Shape FormulaId)) where
  pub still_takes : Keeps (IsId old) (tree old) (IsId new) (tree new) → StillTakes old new
  still_takes k id t = record { is = k.is id t.is; plain = subst IsPlain (sym (k.same id t.is)) t.plain; in_fields = subst (InContext Fields) (sym (k.same id t.is)) t.in_fields }

  takes_as : (f : Tree) → IsPlain f → InContext Fields f → (id : FormulaId) → IsMade (IsId new) (tree new) id f → Takes new id
  takes_as f p h id m = record { is = m.is; plain = subst IsPlain (sym m.same) p; in_fields = subst (InContext Fields) (sym m.same) h }

  pub takes_atom : (a : Atom) → AtomIn Fields a → (id : FormulaId) → IsMade (IsId new) (tree new) id (One a) → Takes new id
  takes_atom a h id m = takes_as (One a) tt h id m

  pub takes_both : (f g : FormulaId) → Takes old f → Takes old g → (id : FormulaId) → IsMade (IsId new) (tree new) id (And (members (map (tree old) (f ∷ g ∷ [])))) → Takes new id
  takes_both f g t u id m = takes_as (And (members (map (tree old) (f ∷ g ∷ [])))) (t.plain, (u.plain, tt)) (t.in_fields, (u.in_fields, tt)) id m

  pub takes_either : (f g : FormulaId) → Takes old f → Takes old g → (id : FormulaId) → IsMade (IsId new) (tree new) id (Or (members (map (tree old) (f ∷ g ∷ [])))) → Takes new id
  takes_either f g t u id m = takes_as (Or (members (map (tree old) (f ∷ g ∷ [])))) (t.plain, (u.plain, tt)) (t.in_fields, (u.in_fields, tt)) id m

-- each of the formulas made at the points of a phase is one beside its store
pub begun_beside : (p : Phase) (made : List Change) → AnswerAll (IsPutAtPiece p) 0 (length p.points) made → All (λ d. d.begun ≤ length p.nodes) made
begun_beside p made a k d lt =
    let e : 0 + k ≡ k = omega arith in
    let put = subst (λ n. IsPutAtPiece p n (get_or made k d)) e (a.each k (get_or made k d) (slice_get-get_or made k d lt)) in
    ⊎_elim (λ h. (put h.0 h.2).begun) (λ h. absurd (omega (arith, a.count, lt, h.0))) (slice_get_cases p.points k).1
