-- Over the ordered fields one quantifier is eliminated by the disjunction over its test points.
use Rattle.std.proofs.Common.{ℕ, List, [], ◌∷◌, refl, inl, inr, ⊎_elim, ◌↔◌, nat_eq}
use Rattle.logic_meaning.specs.Context.{Context, Fields}
use Rattle.logic_meaning.specs.Point.{Point, move}
use Rattle.logic_meaning.specs.Truth.{SomeTrue}
use Rattle.logic_meaning.specs.Every.{EveryOf}
use Rattle.logic_meaning.specs.Some.{SomeOf, Among}
use Rattle.logic_meaning.specs.Plain.{IsPlain, ArePlain}
use Rattle.logic_meaning.specs.Atom.{Says}
use Rattle.formula_laws.specs.TheoryAtoms.{AtomIn}
use Rattle.logic_meaning.specs.Answer.{Place, Holds}
use Rattle.logic_meaning.specs.Tree.{Tree, TrueAt}
use Rattle.formula_laws.specs.Equivalence.{InContext}
use Rattle.logic_meaning.specs.declared.side.Side.{Side}
use Rattle.logic_meaning.specs.FieldsPoints.{field_points}
use Rattle.elimination_theory.specs.FieldsTrees.{field_substitution}
use Rattle.elimination_theory.specs.AtPlace.{at_place}
use Rattle.elimination_theory.specs.Elimination.{trees_at, field_elimination}
use Rattle.elimination_theory.specs.Decided.{FieldEliminationIsExact}
use Rattle.formula_laws.proofs.Iff.{both_ways}
use Rattle.elimination_theory.proofs.FieldsSuffice.{field_points_suffice, field_point_place}
use Rattle.elimination_theory.proofs.FieldsSubstitute.{substitution_exact}
use Rattle.elimination_theory.proofs.Simple.{substitution_plain}

-- some place of the list makes the formula true exactly where some tree is true
pub some_place : (c : Context) (put : Place → Tree) (H : Place → Type 0) (p : Point ℕ) (places : List Place) → ((s : Place) → Among places s → H s ↔ TrueAt c (put s) p) →
    SomeOf H places ↔ SomeTrue Says (move nat_eq) c (trees_at put places) p
some_place c put H p [] h = (λ t. t, λ t. t)
some_place c put H p (s ∷ places) h =
    let i = h s (inl refl) in let j = some_place c put H p places (λ q m. h q (inr m)) in
    (⊎_elim (λ t. inl (i.0 t)) (λ t. inr (j.0 t)), ⊎_elim (λ t. inl (i.1 t)) (λ t. inr (j.1 t)))

pub trees_plain : (c : Context) (put : Place → Tree) (places : List Place) → ((s : Place) → Among places s → IsPlain (put s) × InContext c (put s)) → ArePlain (trees_at put places) × EveryOf (AtomIn c) (trees_at put places)
trees_plain c put [] h = (tt, tt)
trees_plain c put (s ∷ places) h = let i = h s (inl refl) in let r = trees_plain c put places (λ q m. h q (inr m)) in ((i.0, r.0), (i.1, r.1))

pub field_elimination_exact : FieldEliminationIsExact
field_elimination_exact side x f s c p o =
    both_ways (field_points_suffice side x f p s c o)
    (some_place Fields (λ q. field_substitution x q f) (λ q. Holds Fields (at_place x q) f p) p (field_points side x f)
    (λ q m. substitution_exact x q f p (field_point_place side x f q m) s c o))

-- the disjunction is built by and and or, from atoms of the fields
pub field_elimination_tree : (side : Side) (x : ℕ) (f : Tree) → IsPlain f → InContext Fields f → IsPlain (field_elimination side x f) × InContext Fields (field_elimination side x f)
field_elimination_tree side x f s c = trees_plain Fields (λ q. field_substitution x q f) (field_points side x f) (λ q m. substitution_plain Fields x q f (field_point_place side x f q m) s c)
