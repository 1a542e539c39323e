-- Formulas with names in their holes, told by their parts.
use Rattle.std.proofs.Common.{◌≡◌, ◌⊎◌, ⊎_elim, ℕ, suc, ◌+◌, ◌<◌, ◌≤◌, List, ◌∷◌, map, drop, get_or, length, true, false, ◌||◌, ap, sym, refl, ◌∙◌}
use Rattle.std.specs.declared.boxed.Box.{Box}
use Rattle.std.specs.declared.alloc.Global.{Global}
use Rattle.logic_meaning.specs.Every.{FreeInSome}
use Rattle.logic_meaning.specs.Fold.{joined}
use Rattle.logic_meaning.specs.declared.junction.Junction.{Junction}
use Rattle.logic_meaning.specs.declared.junction.Junction.TheVariants.{Conjunction, Disjunction}
use Rattle.logic_meaning.specs.Replaced.{replaced, all_replaced}
use Rattle.logic_meaning.specs.Sizes.{nodes, all_nodes}
use Rattle.logic_meaning.specs.Tree.{Tree}
use Rattle.logic_meaning.specs.Formula.{One, none, also}
use Rattle.written_syntax.specs.declared.tree.Formula as written
use Rattle.written_syntax.specs.declared.tree.Formula.TheVariants as formula
use Rattle.written_syntax.specs.declared.tree.Formulas as writtens
use Rattle.language_meaning.specs.Trees.{WrittenAtom, FormulaTree, FormulaTrees, formulas_of}
use Rattle.language_meaning.specs.Holes.{command_count, all_of}
use Rattle.written_syntax.specs.CodeTrees.{whole_formula, whole_formulas, formula_tree, named_tree, inner_of}
use Rattle.written_syntax.specs.Valued.{matrix_of, IsUnquantified}
use Rattle.written_syntax.proofs.EntryLists.{rest_at, none_left}
use Rattle.written_syntax.proofs.Quantified.{no_prefix}
use Rattle.written_syntax.proofs.TreeEquations.{named-Ex, named-All}
use Rattle.logic_meaning.specs.Quantified.{has_quantifier, some_quantifier}
use Rattle.language_meaning.specs.Resolving.{BoundTrees, MentionsNumber, IsFreeInPlace}
use Rattle.formula_resolving.specs.declared.parts.Pair.{Pair}
use Rattle.formula_resolving.specs.declared.parts.Pair.TheVariants as pair
use Rattle.formula_resolving.specs.Connectives.{paired}
use Rattle.formula_resolving.proofs.HoleNames.{unquantified_named}
use Rattle.formula_resolving.proofs.NamedTrees.{count_together}
use Rattle.formula_resolving.proofs.Openings.{under_ex, under_all}
use Rattle.formula_resolving.proofs.WrittenParts.{HasForm, IsPaired, count_of, conjunction_is, disjunction_is, implication_is, replication_is, equivalence_is}

-- ---- two formulas

-- a formula that is made of two is one of the connectives of them
pub pair_is : (f : written.Formula) (a b : Box written.Formula Global) (x y : written.Formula) → (f ≡ formula.Impl a b) ⊎ ((f ≡ formula.Repl a b) ⊎ (f ≡ formula.Equiv a b)) → x ≡ a.value → y ≡ b.value
    → (p : Pair) × IsPaired p f x y
pair_is f a b x y is d k =
    ⊎_elim (λ e. (pair.Impl, implication_is f a b x y e d k)) (λ is. ⊎_elim (λ e. (pair.Repl, replication_is f a b x y e d k)) (λ e. (pair.Equiv, equivalence_is f a b x y e d k)) is) is

pub pair_nodes : (p : Pair) (s t : FormulaTree) → nodes (paired p s t) ≡ suc (nodes s + nodes t)
pair_nodes pair.Impl s t = refl
pair_nodes pair.Repl s t = refl
pair_nodes pair.Equiv s t = refl

pub pair_quantified : (by : WrittenAtom → Tree) (number : List ℕ → ℕ) (p : Pair) (s t : FormulaTree) → has_quantifier (replaced by number (paired p s t)) ≡ (has_quantifier (replaced by number s) || has_quantifier (replaced by number t))
pair_quantified by number pair.Impl s t = refl
pair_quantified by number pair.Repl s t = refl
pair_quantified by number pair.Equiv s t = refl

-- what is free in the two
pub pair_free : (P : (ℕ → Type 0) → Type 0) (bound : BoundTrees) (number : List ℕ → ℕ) (p : Pair) (s t : FormulaTree)
    → P (λ n. IsFreeInPlace bound number s n ⊎ IsFreeInPlace bound number t n) → P (λ n. IsFreeInPlace bound number (paired p s t) n)
pair_free P bound number pair.Impl s t h = h
pair_free P bound number pair.Repl s t h = h
pair_free P bound number pair.Equiv s t h = h

-- ---- the formulas of a list

abbrev pub members_named : ℕ → List written.Formula → FormulaTrees
members_named k fs = (all_of (map whole_formula fs)).named k

abbrev pub members_count : List written.Formula → ℕ
members_count fs = command_count (all_of (map whole_formula fs)).inner

-- a conjunction or a disjunction
pub joint_is : (f : written.Formula) (fs : writtens.Formulas) (xs : List written.Formula) → (f ≡ formula.And fs) ⊎ (f ≡ formula.Or fs) → whole_formulas fs ≡ all_of (map whole_formula xs)
    → (j : Junction) × HasForm f (joined j (formulas_of (map formula_tree xs))) (members_count xs) (λ k. joined j (members_named k xs))
joint_is f fs xs is d = ⊎_elim (λ e. (Conjunction, conjunction_is f fs xs e d)) (λ e. (Disjunction, disjunction_is f fs xs e d)) is

pub joint_nodes : (j : Junction) (fs : FormulaTrees) → nodes (joined j fs) ≡ suc (all_nodes fs)
joint_nodes Conjunction fs = refl
joint_nodes Disjunction fs = refl

pub joint_quantified : (by : WrittenAtom → Tree) (number : List ℕ → ℕ) (j : Junction) (fs : FormulaTrees) → has_quantifier (replaced by number (joined j fs)) ≡ some_quantifier (all_replaced by number fs)
joint_quantified by number Conjunction fs = refl
joint_quantified by number Disjunction fs = refl

pub joint_free : (P : (ℕ → Type 0) → Type 0) (bound : BoundTrees) (number : List ℕ → ℕ) (j : Junction) (fs : FormulaTrees)
    → P (λ n. FreeInSome (MentionsNumber bound number) (all_replaced One number fs) n) → P (λ n. IsFreeInPlace bound number (joined j fs) n)
joint_free P bound number Conjunction fs h = h
joint_free P bound number Disjunction fs h = h

first_named : (k : ℕ) (x : written.Formula) (fs : List written.Formula) → members_named k (x ∷ fs) ≡ also (named_tree k x) (members_named (k + count_of x) fs)
unfolding named_tree inner_of
first_named k x fs = refl

first_count : (x : written.Formula) (fs : List written.Formula) → members_count (x ∷ fs) ≡ count_of x + members_count fs
unfolding inner_of
first_count x fs = count_together (whole_formula x).inner (all_of (map whole_formula fs)).inner

-- the next one of them
module _ (fs : List written.Formula) (i : ℕ) (x : written.Formula) (l : i < length fs) (at : x ≡ get_or fs i x) where
  pub next_named : (k : ℕ) → members_named k (drop i fs) ≡ also (named_tree k x) (members_named (k + count_of x) (drop (i + 1) fs))
  next_named k = ap (members_named k) (rest_at fs i x l at) ∙ first_named k x (drop (i + 1) fs)

  pub next_count : members_count (drop i fs) ≡ count_of x + members_count (drop (i + 1) fs)
  next_count = ap members_count (rest_at fs i x l at) ∙ first_count x (drop (i + 1) fs)

  -- where none stands in it, one stands in the rest or in none
  pub next_quantified : (by : WrittenAtom → Tree) (number : List ℕ → ℕ) (k m : ℕ) → has_quantifier (replaced by number (named_tree k x)) ≡ false → m ≡ k + count_of x
      → some_quantifier (all_replaced by number (members_named m (drop (i + 1) fs))) ≡ some_quantifier (all_replaced by number (members_named k (drop i fs)))
  next_quantified by number k m h e =
      let rest : FormulaTrees = members_named (k + count_of x) (drop (i + 1) fs) in
      ap (λ n. some_quantifier (all_replaced by number (members_named n (drop (i + 1) fs)))) e
      ∙ ap (λ b. b || some_quantifier (all_replaced by number rest)) (sym h)
      ∙ ap (λ gs. some_quantifier (all_replaced by number gs)) (sym (next_named k))

  pub here_quantified : (by : WrittenAtom → Tree) (number : List ℕ → ℕ) (k : ℕ) → has_quantifier (replaced by number (named_tree k x)) ≡ true → some_quantifier (all_replaced by number (members_named k (drop i fs))) ≡ true
  here_quantified by number k h =
      ap (λ gs. some_quantifier (all_replaced by number gs)) (next_named k) ∙ ap (λ b. b || some_quantifier (all_replaced by number (members_named (k + count_of x) (drop (i + 1) fs)))) h

-- none is left
module _ (fs : List written.Formula) (i : ℕ) (h : length fs ≤ i) where
  pub end_named : (k : ℕ) → members_named k (drop i fs) ≡ none
  end_named k = ap (members_named k) (none_left fs i h)

  pub end_count : members_count (drop i fs) ≡ 0
  end_count = ap members_count (none_left fs i h)

-- ---- quantifiers at the head

-- after some quantifiers of the one formula stands the other
pub record IsAfter (f h : written.Formula) : Type 0 where
  pub tree : matrix_of (formula_tree h) ≡ matrix_of (formula_tree f)
  pub named : (k : ℕ) → matrix_of (named_tree k h) ≡ matrix_of (named_tree k f)
  pub inner : inner_of h ≡ inner_of f

pub after_none : (f : written.Formula) → IsAfter f f
after_none f = record { tree = refl; named = λ k. refl; inner = refl }

-- one quantifier more
pub after_one : (f g : written.Formula) (b : Box written.Formula Global) (h : written.Formula) → ((x : List ℕ) × (g ≡ formula.Ex x b)) ⊎ ((x : List ℕ) × (g ≡ formula.All x b)) → h ≡ b.value → IsAfter f g → IsAfter f h
after_one f g b h is d a =
    ⊎_elim
    (λ (e : (x : List ℕ) × (g ≡ formula.Ex x b)). let u = under_ex g e.0 b h e.1 d in record {
      tree = u.0 ∙ a.tree;
      named = λ k. ap (λ z. matrix_of (named_tree k z)) d ∙ sym (ap (λ z. matrix_of (named_tree k z)) e.1 ∙ ap matrix_of (named-Ex k e.0 b)) ∙ a.named k;
      inner = u.1 ∙ a.inner;
    })
    (λ (e : (x : List ℕ) × (g ≡ formula.All x b)). let u = under_all g e.0 b h e.1 d in record {
      tree = u.0 ∙ a.tree;
      named = λ k. ap (λ z. matrix_of (named_tree k z)) d ∙ sym (ap (λ z. matrix_of (named_tree k z)) e.1 ∙ ap matrix_of (named-All k e.0 b)) ∙ a.named k;
      inner = u.1 ∙ a.inner;
    }) is

-- all of them
pub after_all : (f h : written.Formula) → IsAfter f h → IsUnquantified (formula_tree h) → (formula_tree h ≡ matrix_of (formula_tree f)) × ((k : ℕ) → named_tree k h ≡ matrix_of (named_tree k f))
after_all f h a u = (sym (no_prefix (formula_tree h) u).1 ∙ a.tree, λ k. sym (no_prefix (named_tree k h) (unquantified_named h k u)).1 ∙ a.named k)
