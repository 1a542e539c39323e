-- What is known of a formula built by and and or holds of what stands in it.
use Rattle.std.proofs.Common.{◌≡◌, ℕ, ◌<◌, ⊎_elim, Bool, true, false, ◌&&◌, List, [], ◌∷◌, length, get_or, map, refl, sym, ◌∙◌}
use Rattle.std.specs.Cmp.{first_so, second_so}
use Rattle.std.specs.List.{AllByRecursion}
use Rattle.logic_meaning.specs.Answer.{Place}
use Rattle.formula_laws.specs.TheoryAtoms.{AtomIn}
use Rattle.logic_meaning.specs.Context.{Context}
use Rattle.logic_meaning.specs.Every.{EveryOf}
use Rattle.logic_meaning.specs.Plain.{IsPlain, ArePlain}
use Rattle.logic_meaning.specs.Tree.{Tree}
use Rattle.formula_laws.specs.Equivalence.{InContext}
use Rattle.formula_tree.specs.declared.shape.Shape.{Shape}
use Rattle.formula_tree.specs.declared.shape.Shape.TheVariants as shape
use Rattle.formula_tree.specs.Trees.{members}
use Rattle.formula_tree.specs.Shapes.{tree_over, ids_of}
use Rattle.formula_store.specs.declared.id.FormulaId.{FormulaId}
use Rattle.formula_store.specs.Nodes.{tree, AreNodes}
use Rattle.formula_store.specs.Order.{Within, WithinSome}
use Rattle.formula_store.proofs.Inner.{passes_down}
use Rattle.formula_store.proofs.Marked.{all_at}
use Rattle.nnf_trees.specs.Placed.{all_within, each_within}
use Rattle.nnf_trees.proofs.PutLaws.{also_within}
use Rattle.virtual_subst.specs.declared.error.SubstError.{SubstError}
use Rattle.virtual_subst.specs.declared.error.SubstError.TheVariants.{Overflow, Memory}
use Rattle.virtual_subst.specs.Shared.{Stops}

-- built by and and or from atoms of the theory
abbrev pub Fits : Context → Tree → Type 0
Fits c f = IsPlain f × InContext c f

-- built so, and no number passes the limit
abbrev pub Stays : Context → ℕ → Place → Tree → Type 0
Stays c x s f = IsPlain f × (all_within c x s f ≡ true)

module _ {Id : Type 0} (c : Context) (t : Id → Tree) where
  fits_list : (ids : List Id) → ArePlain (members (map t ids)) → EveryOf (AtomIn c) (members (map t ids)) → AllByRecursion (λ id. Fits c (t id)) ids
  fits_list [] p h = tt
  fits_list (id ∷ ids) p h = ((p.0, h.0), fits_list ids p.1 h.1)

  fits_members : (s : Shape Id) → Fits c (tree_over t s) → AllByRecursion (λ id. Fits c (t id)) (ids_of s)
  fits_members shape.True h = tt
  fits_members shape.False h = tt
  fits_members (shape.One a) h = tt
  fits_members (shape.And ids) h = fits_list ids h.0 h.1
  fits_members (shape.Or ids) h = fits_list ids h.0 h.1
  fits_members (shape.Not f) h = absurd h.0
  fits_members (shape.Impl f g) h = absurd h.0
  fits_members (shape.Repl f g) h = absurd h.0
  fits_members (shape.Equiv f g) h = absurd h.0
  fits_members (shape.Ex x f) h = absurd h.0
  fits_members (shape.All x f) h = absurd h.0

module _ {Id : Type 0} (c : Context) (x : ℕ) (s : Place) (t : Id → Tree) where
  stays_list : (ids : List Id) → ArePlain (members (map t ids)) → each_within c x s (members (map t ids)) ≡ true → AllByRecursion (λ id. Stays c x s (t id)) ids
  stays_list [] p h = tt
  stays_list (id ∷ ids) p h =
      let both : (all_within c x s (t id) && each_within c x s (members (map t ids))) ≡ true = sym (also_within c x s (t id) (members (map t ids))) ∙ h in
      ((p.0, first_so (all_within c x s (t id)) (each_within c x s (members (map t ids))) both), stays_list ids p.1 (second_so (all_within c x s (t id)) (each_within c x s (members (map t ids))) both))

  stays_members : (n : Shape Id) → Stays c x s (tree_over t n) → AllByRecursion (λ id. Stays c x s (t id)) (ids_of n)
  stays_members shape.True h = tt
  stays_members shape.False h = tt
  stays_members (shape.One a) h = tt
  stays_members (shape.And ids) h = stays_list ids h.0 h.1
  stays_members (shape.Or ids) h = stays_list ids h.0 h.1
  stays_members (shape.Not f) h = absurd h.0
  stays_members (shape.Impl f g) h = absurd h.0
  stays_members (shape.Repl f g) h = absurd h.0
  stays_members (shape.Equiv f g) h = absurd h.0
  stays_members (shape.Ex x f) h = absurd h.0
  stays_members (shape.All x f) h = absurd h.0

module _ (c : Context) (nodes : List (Shape FormulaId)) (are : AreNodes nodes) (root id : FormulaId) (within : Within nodes root id) where
  pub fits_within : IsPlain (tree nodes root) → InContext c (tree nodes root) → Fits c (tree nodes id)
  fits_within p h = passes_down nodes are (Fits c) (fits_members c (tree nodes)) root id within (p, h)

  -- a number that is formed for what stands in a formula is formed for the formula
  module _ (x : ℕ) (s : Place) (p : IsPlain (tree nodes root)) where
    falls : (b : Bool) → all_within c x s (tree nodes root) ≡ b → all_within c x s (tree nodes id) ≡ false → all_within c x s (tree nodes root) ≡ false
    falls true e h = let k = passes_down nodes are (Stays c x s) (stays_members c x s (tree nodes)) root id within (p, e) in let l = k.1 in cc
    falls false e h = e

    pub stops_within : (e : SubstError) → Stops e (all_within c x s (tree nodes id)) → Stops e (all_within c x s (tree nodes root))
    stops_within Overflow h = falls (all_within c x s (tree nodes root)) refl h
    stops_within Memory h = tt

-- each id of the list stands in the formula
pub listed_within : (nodes : List (Shape FormulaId)) (root : FormulaId) (ids : List FormulaId) (i : ℕ) (d : FormulaId) → i < length ids → AllByRecursion (WithinSome nodes (root ∷ [])) ids → Within nodes root (get_or ids i d)
listed_within nodes root ids i d h only = ⊎_elim (λ w. w) (λ w. absurd w) (all_at (WithinSome nodes (root ∷ [])) ids i d h only)
