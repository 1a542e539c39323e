-- The laws of the prenex form.
use Rattle.std.proofs.Common.{◌≡◌, ◌<◌, ℕ, ◌+◌, min, Bool, true, false, List, [], ◌∷◌, inl, inr, ap, ap₂, sym, ◌∙◌, subst, refl, arith, ◌↔◌, nat_eq, if◌then◌else◌}
use Rattle.std.specs.Prelude.{nat_lt}
use Rattle.std.proofs.lemmas.Bool.{eq-eqb, ltb-true, ltb-false}
use Rattle.logic_meaning.specs.Context.{Context}
use Rattle.logic_meaning.specs.Formula.{Yes, No, One, Not, And, Or, Impl, Repl, Equiv, Ex, All, none, also}
use Rattle.logic_meaning.specs.Some.{Among}
use Rattle.logic_meaning.specs.Atom.{Mentions}
use Rattle.formula_laws.specs.TheoryAtoms.{AtomIn}
use Rattle.logic_meaning.specs.Every.{Every, EveryOf, EveryBound, FreeInSome}
use Rattle.logic_meaning.specs.Replaced.{replaced}
use Rattle.logic_meaning.specs.Shape.{IsPrenex, blocks_from, fewest_blocks, is_in}
use Rattle.logic_meaning.specs.Plain.{IsNegationNormal, IsPlain, IsAtomic}
use Rattle.logic_meaning.specs.declared.quantifier.Quantifier.{Quantifier}
use Rattle.logic_meaning.specs.declared.quantifier.Quantifier.TheVariants.{Exists, ForAll}
use Rattle.logic_meaning.specs.Tree.{Tree, Trees, IsFree, tree_names}
use Rattle.formula_laws.specs.Equivalence.{InContext, Equivalent}
use Rattle.formula_laws.proofs.EachAtom.{every_map, every_both, every_all}
use Rattle.formula_laws.proofs.Equivalence.{equivalent_then}
use Rattle.formula_laws.proofs.FreeReplaced.{fewer_replaced}
use Rattle.formula_laws.proofs.Iff.{both_ways, turn_round}
use Rattle.formula_laws.proofs.ReplacedShape.{plain_stays, every_replaced}
use Rattle.formula_laws.proofs.TreeNames.{names_listed}
use Rattle.formula_laws.proofs.TreeReplacing.{tree_replacing}
use Rattle.logic_meaning.specs.NormalForm.{normal_atom, IsNormal}
use Rattle.normal_atoms.proofs.NormalLaws.{normal_truth, normal_names, normal_normal, normal_in, normal_atomic, normal_sorted}
use Rattle.logic_meaning.specs.Blocks.{other_kind, blocks, matrix, block_count}
use Rattle.logic_meaning.specs.Front.{first_kind, in_front}
use Rattle.logic_meaning.specs.Renaming.{nothing_chosen, after, with_chosen_names, new_count}
use Rattle.logic_meaning.specs.Prenex.{prenex_of}
use Rattle.shape_theory.specs.Theorems.{HasNamesBelow, HasPrenexForm, PrenexFormIsPrenex, PrenexFormHasFewestBlocks, PrenexFormKeepsTruth, PrenexFormKeepsNames, PrenexFormIsNormal}
use Rattle.shape_theory.specs.Links.{Used, Links}
use Rattle.shape_theory.proofs.Blocks.{length_blocks, least_filled}
use Rattle.shape_theory.proofs.Fronts.{front_same, blocks_each}
use Rattle.shape_theory.proofs.NamedAtoms.{image_mentioned, named_in}
use Rattle.shape_theory.proofs.Used.{used_below}
use Rattle.shape_theory.proofs.Renamed.{HasSortedForm, bound_chosen, apart}
use Rattle.shape_theory.proofs.RenamedTruth.{IsLinked, free_image, image_free, renamed_truth, renamed_shape, renamed_blocks, renamed_every}
use Rattle.shape_theory.proofs.AtomNames.{KeepsNames, named_keeps}
use Rattle.shape_theory.proofs.Shapes.{matrix_plain, atomic_plain, prefix_prenex, count_prefixed, front_every, prefix_bound, replaced_prefixed, replaced_itself}

-- ---- shape

normal_plain : (c : Context) (f : Tree) → IsPlain f → IsPlain (replaced (normal_atom c) (λ x. x) f)
normal_plain c f p = plain_stays (normal_atom c) (λ x. x) f p (every_all (λ a. IsPlain (normal_atom c a)) (λ a. atomic_plain (normal_atom c a) (normal_atomic c a)) f)

pub chosen_shape : (count : ℕ) (f : Tree) → IsNegationNormal f → IsNegationNormal (with_chosen_names count f)
chosen_shape count f n = renamed_shape count (λ x. x) f (nothing_chosen (tree_names f)) n

behind : Context → Tree → Tree
behind c g = replaced (normal_atom c) (λ x. x) (matrix g)

pub is_prenex : PrenexFormIsPrenex
unfolding behind
is_prenex c count f n =
    let g = with_chosen_names count f in
    let q = first_kind g in
    subst IsPrenex (sym (replaced_prefixed (normal_atom c) q (blocks g q) (matrix g)))
    (prefix_prenex q (blocks g q) (behind c g) (normal_plain c (matrix g) (matrix_plain g (chosen_shape count f n))))

-- the kind of the first block has the fewest
record IsLeast (f : Tree) (q : Quantifier) : Type 0 where
  least : ¬ (blocks_from f (other_kind q) < blocks_from f q)
  fewest : blocks_from f q ≡ fewest_blocks f

first_least : (f : Tree) → IsLeast f (first_kind f)
first_least f = go (nat_lt (blocks_from f ForAll) (blocks_from f Exists)) refl
  where
    go : (b : Bool) → nat_lt (blocks_from f ForAll) (blocks_from f Exists) ≡ b → IsLeast f (if b then ForAll else Exists)
    go true e = let l = ltb-true (blocks_from f ForAll) (blocks_from f Exists) e in record { least = λ (h : blocks_from f Exists < blocks_from f ForAll). omega arith; fewest = omega arith }
    go false e = let l = ltb-false (blocks_from f ForAll) (blocks_from f Exists) e in record { least = λ (h : blocks_from f ForAll < blocks_from f Exists). omega arith; fewest = omega arith }

fewest_chosen : (count : ℕ) (f : Tree) → fewest_blocks (with_chosen_names count f) ≡ fewest_blocks f
fewest_chosen count f =
    ap₂ min (renamed_blocks count (λ x. x) f (nothing_chosen (tree_names f)) Exists) (renamed_blocks count (λ x. x) f (nothing_chosen (tree_names f)) ForAll)

pub has_fewest_blocks : PrenexFormHasFewestBlocks
unfolding behind
has_fewest_blocks c count f n =
    let g = with_chosen_names count f in
    let q = first_kind g in
    let l = first_least g in
    ap block_count (replaced_prefixed (normal_atom c) q (blocks g q) (matrix g))
    ∙ count_prefixed q (blocks g q) (behind c g) (least_filled g q l.least) (normal_plain c (matrix g) (matrix_plain g (chosen_shape count f n)))
    ∙ length_blocks g q ∙ l.fewest ∙ fewest_chosen count f

-- ---- the names of the formula

mutual
  pub free_below : (n : ℕ) (f : Tree) (x : ℕ) → Every (λ a. (y : ℕ) → Mentions a y → y < n) f → IsFree f x → x < n
  free_below n Yes x h t = absurd t
  free_below n No x h t = absurd t
  free_below n (One a) x h t = h x t
  free_below n (Not f) x h t = free_below n f x h t
  free_below n (And fs) x h t = some_free_below n fs x h t
  free_below n (Or fs) x h t = some_free_below n fs x h t
  free_below n (Impl f g) x h (inl t) = free_below n f x h.0 t
  free_below n (Impl f g) x h (inr t) = free_below n g x h.1 t
  free_below n (Repl f g) x h (inl t) = free_below n f x h.0 t
  free_below n (Repl f g) x h (inr t) = free_below n g x h.1 t
  free_below n (Equiv f g) x h (inl t) = free_below n f x h.0 t
  free_below n (Equiv f g) x h (inr t) = free_below n g x h.1 t
  free_below n (Ex y f) x h t = free_below n f x h t.1
  free_below n (All y f) x h t = free_below n f x h t.1

  some_free_below : (n : ℕ) (fs : Trees) (x : ℕ) → EveryOf (λ a. (y : ℕ) → Mentions a y → y < n) fs → FreeInSome Mentions fs x → x < n
  some_free_below n none x h t = absurd t
  some_free_below n (also f fs) x h (inl t) = free_below n f x h.0 t
  some_free_below n (also f fs) x h (inr t) = some_free_below n fs x h.1 t

pub among_is_in : (x : ℕ) (xs : List ℕ) → Among xs x → is_in nat_eq x xs ≡ true
among_is_in x [] m = absurd m
among_is_in x (y ∷ ys) (inl e) = ap (λ (b : Bool). if b then true else is_in nat_eq x ys) (eq-eqb x y (sym e))
among_is_in x (y ∷ ys) (inr m) = go (nat_eq x y) (among_is_in x ys m)
  where
    go : (b : Bool) → is_in nat_eq x ys ≡ true → (if b then true else is_in nat_eq x ys) ≡ true
    go true h = refl
    go false h = h

module _ (c : Context) (count : ℕ) (f : Tree) (h : HasPrenexForm c count f) where
  abbrev free : List ℕ
  free = tree_names f

  abbrev g : Tree
  g = with_chosen_names count f

  abbrev q : Quantifier
  q = first_kind g

  free_used : (x : ℕ) → IsFree f x → Used count (nothing_chosen (tree_names f)) x
  free_used x t = inl (free_below count f x h.named.atoms t, among_is_in x free ((names_listed f x).1 t))

  pub links : Links count (IsFree f) (λ x. x) (nothing_chosen (tree_names f))
  links = record { used = free_used; one = λ y z t u e. e }

  sorted : Every HasSortedForm f
  sorted = every_map (IsNormal c) HasSortedForm (normal_sorted c) f h.normal

  chosen_in : InContext c g
  chosen_in = renamed_every count (IsNormal c) (AtomIn c) (λ x. x) f (nothing_chosen (tree_names f)) h.negation_normal h.named.quantified h.normal links (λ a to n e u. named_in to c a (normal_in c a n))

  chosen_keeps : Every (KeepsNames c) g
  chosen_keeps = renamed_every count (IsNormal c) (KeepsNames c) (λ x. x) f (nothing_chosen (tree_names f)) h.negation_normal h.named.quantified h.normal links (λ a to n e u. named_keeps c a to n e)

  abbrev limit : ℕ
  limit = count + new_count count f

  chosen_below : Every (λ a. (x : ℕ) → Mentions a x → x < limit) g
  chosen_below = renamed_every count (IsNormal c) (λ a. (x : ℕ) → Mentions a x → x < limit) (λ x. x) f (nothing_chosen (tree_names f)) h.negation_normal h.named.quantified h.normal links
      (λ a to n e u x m. let i = image_mentioned to a x (normal_sorted c a n) m in subst (λ y. y < limit) i.2 (used_below count (to i.0) (after count f (nothing_chosen (tree_names f))) (u i.0 i.1)))

  front_is_same : Equivalent c g (in_front g) × ((x : ℕ) → IsFree g x ↔ IsFree (in_front g) x)
  front_is_same =
      let s = front_same c g q (chosen_shape count f h.negation_normal) chosen_in (apart count (λ x. x) f (nothing_chosen (tree_names f)) h.negation_normal sorted h.named.quantified free_used) in
      (s.truth, s.names)

  front_in : Every (AtomIn c) (in_front g)
  front_in = front_every (AtomIn c) q q g chosen_in

  chosen_truth : Equivalent c f g
  chosen_truth p o =
      let i : IsLinked count (IsFree f) (λ x. x) p p = record { same_below = refl; same_at = λ z t. refl } in
      renamed_truth count c (λ x. x) f (nothing_chosen (tree_names f)) p p h.negation_normal h.named.quantified links i

  keeps_truth_here : Equivalent c f (prenex_of c count f)
  keeps_truth_here = equivalent_then c f g (prenex_of c count f) chosen_truth (equivalent_then c g (in_front g) (prenex_of c count f) front_is_same.0
      (tree_replacing c (normal_atom c) (in_front g) (every_map (AtomIn c) (λ a. Equivalent c (One a) (normal_atom c a)) (λ a i p o. normal_truth c a i p o) (in_front g) front_in)))

  chosen_names : (x : ℕ) → IsFree g x ↔ IsFree f x
  chosen_names x = (
    λ t. let i = free_image count (λ x. x) f (nothing_chosen (tree_names f)) x h.negation_normal sorted t in subst (IsFree f) i.2 i.1,
    λ t. image_free count (λ x. x) f (nothing_chosen (tree_names f)) x h.negation_normal sorted h.named.quantified links t,
  )

  normal_form_names : (x : ℕ) → IsFree (prenex_of c count f) x ↔ IsFree (in_front g) x
  normal_form_names x = (
    λ t. subst (λ (k : Tree). IsFree k x) (replaced_itself (in_front g))
        (fewer_replaced Mentions One (normal_atom c) (λ x. x) x (in_front g) (every_map (AtomIn c) (λ a. IsFree (normal_atom c a) x → Mentions a x) (λ a i. normal_names c a i x) (in_front g) front_in) t),
    λ t. fewer_replaced Mentions (normal_atom c) One (λ x. x) x (in_front g) (every_map (KeepsNames c) (λ a. Mentions a x → IsFree (normal_atom c a) x) (λ a k. k x) (in_front g) (front_every (KeepsNames c) q q g chosen_keeps))
        (subst (λ (k : Tree). IsFree k x) (sym (replaced_itself (in_front g))) t),
  )

  keeps_names_here : (x : ℕ) → IsFree (prenex_of c count f) x ↔ IsFree f x
  keeps_names_here x = both_ways (normal_form_names x) (both_ways (turn_round (front_is_same.1 x)) (chosen_names x))

  atomic_below : (t : Tree) → IsAtomic t → ((x : ℕ) → IsFree t x → x < limit) → Every (λ a. (x : ℕ) → Mentions a x → x < limit) t
  atomic_below Yes a k = tt
  atomic_below No a k = tt
  atomic_below (One b) a k = k
  atomic_below (Not f) a k = absurd a
  atomic_below (And fs) a k = absurd a
  atomic_below (Or fs) a k = absurd a
  atomic_below (Impl f g) a k = absurd a
  atomic_below (Repl f g) a k = absurd a
  atomic_below (Equiv f g) a k = absurd a
  atomic_below (Ex x f) a k = absurd a
  atomic_below (All x f) a k = absurd a

  is_normal_here : Every (IsNormal c) (prenex_of c count f) × HasNamesBelow (count + new_count count f) (prenex_of c count f)
  unfolding behind
  is_normal_here = (
    every_replaced (normal_atom c) (λ x. x) (IsNormal c) (in_front g) (every_map (AtomIn c) (λ a. Every (IsNormal c) (normal_atom c a)) (normal_normal c) (in_front g) front_in),
    record {
      atoms = every_replaced (normal_atom c) (λ x. x) (λ a. (x : ℕ) → Mentions a x → x < limit) (in_front g)
          (every_both (AtomIn c) (λ a. (x : ℕ) → Mentions a x → x < limit) (λ a. Every (λ b. (x : ℕ) → Mentions b x → x < limit) (normal_atom c a))
          (λ a i k. atomic_below (normal_atom c a) (normal_atomic c a) (λ x t. k x (normal_names c a i x t))) (in_front g) front_in
          (front_every (λ a. (x : ℕ) → Mentions a x → x < limit) q q g chosen_below));
      quantified = subst (EveryBound (λ x. x < limit)) (sym (replaced_prefixed (normal_atom c) q (blocks g q) (matrix g)))
          (prefix_bound (λ x. x < limit) q (blocks g q) (behind c g)
          (blocks_each (λ x. x < limit) g q (bound_chosen count (λ x. x < limit) (λ x. x) f (nothing_chosen (tree_names f)) h.negation_normal h.named.quantified (λ v m u. used_below count v (after count f (nothing_chosen (tree_names f))) u)))
          (normal_plain c (matrix g) (matrix_plain g (chosen_shape count f h.negation_normal))));
    },
  )

pub keeps_truth : PrenexFormKeepsTruth
keeps_truth c count f h = keeps_truth_here c count f h

pub keeps_names : PrenexFormKeepsNames
keeps_names c count f h = keeps_names_here c count f h

pub is_normal : PrenexFormIsNormal
is_normal c count f h = is_normal_here c count f h
