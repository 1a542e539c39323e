-- The trees of a list of formulas with names in their holes, member by member.
use Rattle.std.proofs.Common.{◌≡◌, ℕ, zero, suc, ◌+◌, ◌<◌, ◌≤◌, List, [], ◌∷◌, ◌++◌, map, take, get_or, length, arith, ap, sym, ◌∙◌, refl}
use Rattle.std.proofs.lemmas.List.{take_more}
use Rattle.logic_meaning.specs.Formula as plain
use Rattle.written_syntax.specs.declared.tree.Formula as written
use Rattle.language_meaning.specs.Trees.{FormulaTree, formulas_of}
use Rattle.language_meaning.specs.Holes.{Nests, alone, beside, together, command_count, all_of}
use Rattle.written_syntax.specs.CodeTrees.{whole_formula, formula_tree, named_tree, inner_of}

-- the names of each member begin after those of the ones before it
abbrev pub named_each : ℕ → List written.Formula → List FormulaTree
named_each k [] = []
named_each k (f ∷ fs) = named_tree k f ∷ named_each (k + command_count (inner_of f)) fs

-- how many commands the members have
abbrev pub count_each : List written.Formula → ℕ
count_each [] = 0
count_each (f ∷ fs) = command_count (inner_of f) + count_each fs

pub count_together : (ns ms : Nests) → command_count (together ns ms) ≡ command_count ns + command_count ms
count_together alone ms = omega arith
count_together (beside n ns) ms = omega (arith, count_together ns ms)

pub all_named : (k : ℕ) (fs : List written.Formula) → (all_of (map whole_formula fs)).named k ≡ formulas_of (named_each k fs)
unfolding named_tree inner_of
all_named k [] = refl
all_named k (f ∷ fs) = ap (plain.also ((whole_formula f).named k)) (all_named (k + command_count (whole_formula f).inner) fs)

pub all_counted : (fs : List written.Formula) → command_count (all_of (map whole_formula fs)).inner ≡ count_each fs
unfolding inner_of
all_counted [] = refl
all_counted (f ∷ fs) = count_together (whole_formula f).inner (all_of (map whole_formula fs)).inner ∙ ap (λ n. command_count (whole_formula f).inner + n) (all_counted fs)

pub all_trees : (fs : List written.Formula) → (all_of (map whole_formula fs)).tree ≡ formulas_of (map formula_tree fs)
unfolding formula_tree
all_trees [] = refl
all_trees (f ∷ fs) = ap (plain.also (whole_formula f).tree) (all_trees fs)

named_last : (k : ℕ) (fs : List written.Formula) (f : written.Formula) → named_each k (fs ++ f ∷ []) ≡ named_each k fs ++ named_tree (k + count_each fs) f ∷ []
named_last k [] f = let e : k ≡ k + 0 = omega arith in ap (λ n. named_tree n f ∷ []) e
named_last k (g ∷ gs) f =
    let e : (k + command_count (inner_of g)) + count_each gs ≡ k + (command_count (inner_of g) + count_each gs) = omega arith in
    ap (λ ts. named_tree k g ∷ ts) (named_last (k + command_count (inner_of g)) gs f ∙ ap (λ n. named_each (k + command_count (inner_of g)) gs ++ named_tree n f ∷ []) e)

count_last : (fs : List written.Formula) (f : written.Formula) → count_each (fs ++ f ∷ []) ≡ count_each fs + command_count (inner_of f)
count_last [] f = omega arith
count_last (g ∷ gs) f = omega (arith, count_last gs f)

-- one member more
module _ (fs : List written.Formula) (i : ℕ) (x : written.Formula) (at : x ≡ get_or fs i x) (l : i < length fs) where
  one_more : take (i + 1) fs ≡ take i fs ++ x ∷ []
  one_more = take_more fs i x l ∙ ap (λ y. take i fs ++ y ∷ []) (sym at)

  pub named_more : (k : ℕ) → named_each k (take (i + 1) fs) ≡ named_each k (take i fs) ++ named_tree (k + count_each (take i fs)) x ∷ []
  named_more k = ap (named_each k) one_more ∙ named_last k (take i fs) x

  pub count_more : count_each (take (i + 1) fs) ≡ count_each (take i fs) + command_count (inner_of x)
  count_more = ap count_each one_more ∙ count_last (take i fs) x

pub count_front : (fs : List written.Formula) (i : ℕ) → count_each (take i fs) ≤ count_each fs
count_front [] zero = omega arith
count_front [] (suc i) = omega arith
count_front (f ∷ fs) zero = omega arith
count_front (f ∷ fs) (suc i) = omega (arith, count_front fs i)
