-- How large a formula is, with the commands inside it. Names in its holes make it no larger.
use Rattle.std.proofs.Common.{◌≡◌, ℕ, zero, suc, ◌+◌, ◌<◌, List, [], ◌∷◌, map, refl, sym, ap, ap₂, ◌∙◌, subst, arith, ◌⊎◌, inl, inr, ⊎_elim, ◌≤◌, length, get_or}
use Rattle.logic_meaning.specs.Sizes.{nodes, all_nodes}
use Rattle.written_syntax.specs.declared.tree.Formula as written
use Rattle.written_syntax.specs.declared.tree.Formula.TheVariants as formula
use Rattle.written_syntax.specs.declared.tree.Formula.TheOpen as layer
use Rattle.written_syntax.specs.declared.tree.Formulas as writtens
use Rattle.written_syntax.specs.declared.tree.InnerCommand as commands
use Rattle.language_meaning.specs.Trees.{FormulaTree, FormulaTrees, formulas_of}
use Rattle.language_meaning.specs.Holes.{Holed, command_count, all_of, InnerTree, Nnf, Pnf, Dnf, Cnf, Simpl, Qe, Nest, Nests, nest, alone, beside, together}
use Rattle.written_syntax.specs.CodeTrees.{whole_formula, formula_tree, formula_trees, named_tree, named_trees, inner_of, whole_formulas, whole_command}
use Rattle.written_syntax.proofs.TreeEquations.{formula-True, formula-False, formula-Compare, formula-Cong, formula-Ncong, formula-Not, formula-And, formula-Or, formula-Impl, formula-Repl, formula-Equiv, formula-Ex, formula-All, formula-Named, formula-Computed, formulas-out, named-True, named-False, named-Compare, named-Cong, named-Ncong, named-Not, named-And, named-Or, named-Impl, named-Repl, named-Equiv, named-Ex, named-All, named-Named, named-Computed, wholes-out, whole-Not, whole-And, whole-Or, whole-Impl, whole-Repl, whole-Equiv, whole-Ex, whole-All, whole-Computed, command-Nnf, command-Pnf, command-Dnf, command-Cnf, command-Simpl, command-Qe}
use Rattle.std.specs.declared.boxed.Box.{Box}
use Rattle.std.specs.declared.alloc.Global.{Global}
use Rattle.written_syntax.specs.declared.tree.InnerCommand.TheVariants as inner

-- names in the holes make it no larger
abbrev IsSteady : written.Formula → Type 0
IsSteady f = (k : ℕ) → nodes (named_tree k f) ≡ nodes (formula_tree f)

-- the same of formulas with fewer nodes
abbrev AreSteadyBelow : ℕ → Type 0
AreSteadyBelow n = (f : written.Formula) → nodes (formula_tree f) < n → IsSteady f

members_steady : (n : ℕ) → AreSteadyBelow n → (fs : List written.Formula) → all_nodes (formulas_of (map formula_tree fs)) < n → (k : ℕ) → all_nodes ((all_of (map whole_formula fs)).named k) ≡ all_nodes (formulas_of (map formula_tree fs))
unfolding named_tree
members_steady n below [] l k = refl
members_steady n below (f ∷ fs) l k =
    let fewer : nodes (formula_tree f) < n = omega arith in
    let rest : all_nodes (formulas_of (map formula_tree fs)) < n = omega arith in
    ap₂ (λ m n. m + n) (below f fewer k) (members_steady n below fs rest (k + command_count (whole_formula f).inner))

all_steady : (n : ℕ) → AreSteadyBelow n → (fs : writtens.Formulas) → all_nodes (formula_trees fs) < n → (k : ℕ) → all_nodes (named_trees k fs) ≡ all_nodes (formula_trees fs)
unfolding named_trees
all_steady n below fs l k =
    let items = (writtens.out-Formulas fs).list.items in
    let e = formulas-out fs in
    let fewer : all_nodes (formulas_of (map formula_tree items)) < n = omega (arith, ap all_nodes e) in
    ap (λ (h : Holed FormulaTrees). all_nodes (h.named k)) (wholes-out fs) ∙ members_steady n below items fewer k ∙ ap all_nodes (sym e)

-- a formula is what is made of its parts
made : (f g : written.Formula) (k : ℕ) (s t : FormulaTree) → f ≡ g → named_tree k f ≡ s → formula_tree f ≡ t → nodes s ≡ nodes t → nodes (named_tree k g) ≡ nodes (formula_tree g)
made f g k s t e named plain same = subst (λ (h : written.Formula). nodes (named_tree k h) ≡ nodes (formula_tree h)) e (ap nodes named ∙ same ∙ ap nodes (sym plain))

one_more : (n : ℕ) → AreSteadyBelow n → AreSteadyBelow (suc n)
one_more n below f l k = at (written.out-Formula f) (written.roll-out-Formula f)
  where
    at : (m : layer.Formula-F written.Formula commands.InnerCommand writtens.Formulas) → written.roll-Formula m ≡ f → nodes (named_tree k f) ≡ nodes (formula_tree f)
    at layer.True e = made formula.True f k _ _ (sym formula.rolls-True ∙ e) (named-True k) formula-True refl
    at layer.False e = made formula.False f k _ _ (sym formula.rolls-False ∙ e) (named-False k) formula-False refl
    at (layer.Compare r s t) e = made (formula.Compare r s t) f k _ _ (sym (formula.rolls-Compare r s t) ∙ e) (named-Compare k r s t) (formula-Compare r s t) refl
    at (layer.Cong s t m) e = made (formula.Cong s t m) f k _ _ (sym (formula.rolls-Cong s t m) ∙ e) (named-Cong k s t m) (formula-Cong s t m) refl
    at (layer.Ncong s t m) e = made (formula.Ncong s t m) f k _ _ (sym (formula.rolls-Ncong s t m) ∙ e) (named-Ncong k s t m) (formula-Ncong s t m) refl
    at (layer.Not g) e =
        let is : formula.Not g ≡ f = sym (formula.rolls-Not g) ∙ e in
        let fewer : nodes (formula_tree g.value) < n = omega (arith, l, ap (λ h. nodes (formula_tree h)) is, ap nodes (formula-Not g)) in
        made (formula.Not g) f k _ _ is (named-Not k g) (formula-Not g) (ap (λ m. suc m) (below g.value fewer k))
    at (layer.And gs) e =
        let is : formula.And gs ≡ f = sym (formula.rolls-And gs) ∙ e in
        let fewer : all_nodes (formula_trees gs) < n = omega (arith, l, ap (λ h. nodes (formula_tree h)) is, ap nodes (formula-And gs)) in
        made (formula.And gs) f k _ _ is (named-And k gs) (formula-And gs) (ap (λ m. suc m) (all_steady n below gs fewer k))
    at (layer.Or gs) e =
        let is : formula.Or gs ≡ f = sym (formula.rolls-Or gs) ∙ e in
        let fewer : all_nodes (formula_trees gs) < n = omega (arith, l, ap (λ h. nodes (formula_tree h)) is, ap nodes (formula-Or gs)) in
        made (formula.Or gs) f k _ _ is (named-Or k gs) (formula-Or gs) (ap (λ m. suc m) (all_steady n below gs fewer k))
    at (layer.Impl g h) e =
        let is : formula.Impl g h ≡ f = sym (formula.rolls-Impl g h) ∙ e in
        let fewer : (nodes (formula_tree g.value) + nodes (formula_tree h.value)) < n = omega (arith, l, ap (λ h. nodes (formula_tree h)) is, ap nodes (formula-Impl g h)) in
        made (formula.Impl g h) f k _ _ is (named-Impl k g h) (formula-Impl g h) (ap₂ (λ m n. suc (m + n)) (below g.value (omega (arith, fewer)) k) (below h.value (omega (arith, fewer)) (k + command_count (inner_of g.value))))
    at (layer.Repl g h) e =
        let is : formula.Repl g h ≡ f = sym (formula.rolls-Repl g h) ∙ e in
        let fewer : (nodes (formula_tree g.value) + nodes (formula_tree h.value)) < n = omega (arith, l, ap (λ h. nodes (formula_tree h)) is, ap nodes (formula-Repl g h)) in
        made (formula.Repl g h) f k _ _ is (named-Repl k g h) (formula-Repl g h) (ap₂ (λ m n. suc (m + n)) (below g.value (omega (arith, fewer)) k) (below h.value (omega (arith, fewer)) (k + command_count (inner_of g.value))))
    at (layer.Equiv g h) e =
        let is : formula.Equiv g h ≡ f = sym (formula.rolls-Equiv g h) ∙ e in
        let fewer : (nodes (formula_tree g.value) + nodes (formula_tree h.value)) < n = omega (arith, l, ap (λ h. nodes (formula_tree h)) is, ap nodes (formula-Equiv g h)) in
        made (formula.Equiv g h) f k _ _ is (named-Equiv k g h) (formula-Equiv g h) (ap₂ (λ m n. suc (m + n)) (below g.value (omega (arith, fewer)) k) (below h.value (omega (arith, fewer)) (k + command_count (inner_of g.value))))
    at (layer.Ex x g) e =
        let is : formula.Ex x g ≡ f = sym (formula.rolls-Ex x g) ∙ e in
        let fewer : nodes (formula_tree g.value) < n = omega (arith, l, ap (λ h. nodes (formula_tree h)) is, ap nodes (formula-Ex x g)) in
        made (formula.Ex x g) f k _ _ is (named-Ex k x g) (formula-Ex x g) (ap (λ m. suc m) (below g.value fewer k))
    at (layer.All x g) e =
        let is : formula.All x g ≡ f = sym (formula.rolls-All x g) ∙ e in
        let fewer : nodes (formula_tree g.value) < n = omega (arith, l, ap (λ h. nodes (formula_tree h)) is, ap nodes (formula-All x g)) in
        made (formula.All x g) f k _ _ is (named-All k x g) (formula-All x g) (ap (λ m. suc m) (below g.value fewer k))
    at (layer.Named x) e = made (formula.Named x) f k _ _ (sym (formula.rolls-Named x) ∙ e) (named-Named k x) (formula-Named x) refl
    at (layer.Computed c) e = made (formula.Computed c) f k _ _ (sym (formula.rolls-Computed c) ∙ e) (named-Computed k c) (formula-Computed c) refl

below_all : (n : ℕ) → AreSteadyBelow n
below_all zero f l k = absurd (omega (arith, l))
below_all (suc n) f l k = one_more n (below_all n) f l k

pub steady : (f : written.Formula) (k : ℕ) → nodes (named_tree k f) ≡ nodes (formula_tree f)
steady f k = below_all (suc (nodes (formula_tree f))) f (omega arith) k

steady_list : (fs : writtens.Formulas) (k : ℕ) → all_nodes (named_trees k fs) ≡ all_nodes (formula_trees fs)
steady_list fs k = all_steady (suc (all_nodes (formula_trees fs))) (λ f l j. steady f j) fs (omega arith) k

-- ---- with the commands inside

abbrev tree_size : InnerTree → ℕ
tree_size (Nnf f) = nodes f
tree_size (Pnf f) = nodes f
tree_size (Dnf f) = nodes f
tree_size (Cnf f) = nodes f
tree_size (Simpl f given) = nodes f + all_nodes given
tree_size (Qe f given) = nodes f + all_nodes given

abbrev mutual
  nest_size : Nest → ℕ
  nest_size (nest c ns) = suc (tree_size c + nests_size ns)

  nests_size : Nests → ℕ
  nests_size alone = 0
  nests_size (beside n ns) = nest_size n + nests_size ns

-- the size of a formula
abbrev pub size : written.Formula → ℕ
size f = nodes (whole_formula f).tree + nests_size (whole_formula f).inner

-- the size of the formulas of a list
abbrev pub size_of_all : List written.Formula → ℕ
size_of_all fs = all_nodes (all_of (map whole_formula fs)).tree + nests_size (all_of (map whole_formula fs)).inner

-- the size of a command
abbrev pub size_of_command : commands.InnerCommand → ℕ
size_of_command c = nest_size (whole_command c)

size_together : (ns ms : Nests) → nests_size (together ns ms) ≡ nests_size ns + nests_size ms
size_together alone ms = omega arith
size_together (beside n ns) ms = omega (arith, size_together ns ms)

-- a member of a list
member : (fs : List written.Formula) (i : ℕ) (d : written.Formula) → i < length fs → size (get_or fs i d) ≤ size_of_all fs
member [] i d h = absurd (omega (arith, h))
member (f ∷ fs) zero d h = omega (arith, size_together (whole_formula f).inner (all_of (map whole_formula fs)).inner)
member (f ∷ fs) (suc i) d h = omega (arith, member fs i d (omega (arith, h)), size_together (whole_formula f).inner (all_of (map whole_formula fs)).inner)

pub member_below : (fs : List written.Formula) (i : ℕ) (x : written.Formula) → x ≡ get_or fs i x → i < length fs → size x ≤ size_of_all fs
member_below fs i x e h = omega (arith, ap size e, member fs i x h)

-- ---- parts of a formula

size_as : (f : written.Formula) (h : Holed FormulaTree) (n : ℕ) → whole_formula f ≡ h → nodes h.tree + nests_size h.inner ≡ n → size f ≡ n
size_as f h n e is = ap (λ (i : Holed FormulaTree). nodes i.tree + nests_size i.inner) e ∙ is

module _ (f : written.Formula) (a b : Box written.Formula Global) (x y : written.Formula) (d : x ≡ a.value) (k : y ≡ b.value) where
  both : suc (nodes (whole_formula a.value).tree + nodes (whole_formula b.value).tree) + nests_size (together (whole_formula a.value).inner (whole_formula b.value).inner) ≡ suc (size x + size y)
  both = omega (arith, size_together (whole_formula a.value).inner (whole_formula b.value).inner, ap size d, ap size k)

  pub pair_size : (f ≡ formula.Impl a b) ⊎ ((f ≡ formula.Repl a b) ⊎ (f ≡ formula.Equiv a b)) → size f ≡ suc (size x + size y)
  pair_size is =
      ⊎_elim (λ e. size_as f _ _ (ap whole_formula e ∙ whole-Impl a b) both) (λ is. ⊎_elim (λ e. size_as f _ _ (ap whole_formula e ∙ whole-Repl a b) both) (λ e. size_as f _ _ (ap whole_formula e ∙ whole-Equiv a b) both) is) is

module _ (f : written.Formula) (fs : writtens.Formulas) (xs : List written.Formula) (d : whole_formulas fs ≡ all_of (map whole_formula xs)) where
  members_at : suc (all_nodes (whole_formulas fs).tree) + nests_size (whole_formulas fs).inner ≡ suc (size_of_all xs)
  members_at = ap (λ (h : Holed FormulaTrees). suc (all_nodes h.tree) + nests_size h.inner) d ∙ omega arith

  pub members_size : (f ≡ formula.And fs) ⊎ (f ≡ formula.Or fs) → size f ≡ suc (size_of_all xs)
  members_size is = ⊎_elim (λ e. size_as f _ _ (ap whole_formula e ∙ whole-And fs) members_at) (λ e. size_as f _ _ (ap whole_formula e ∙ whole-Or fs) members_at) is

pub computed_size : (f : written.Formula) (c : Box commands.InnerCommand Global) (x : commands.InnerCommand) → f ≡ formula.Computed c → x ≡ c.value → size f ≡ suc (size_of_command x)
computed_size f c x e d = size_as f _ _ (ap whole_formula e ∙ whole-Computed c) (omega (arith, ap size_of_command d))

module _ (f : written.Formula) (a : Box written.Formula Global) (x : written.Formula) (d : x ≡ a.value) where
  one : suc (nodes (whole_formula a.value).tree) + nests_size (whole_formula a.value).inner ≡ suc (size x)
  one = omega (arith, ap size d)

  pub chain_size : (f ≡ formula.Not a) ⊎ (((y : List ℕ) × (f ≡ formula.Ex y a)) ⊎ ((y : List ℕ) × (f ≡ formula.All y a))) → size f ≡ suc (size x)
  chain_size is =
      ⊎_elim (λ e. size_as f _ _ (ap whole_formula e ∙ whole-Not a) one) (λ is. ⊎_elim (λ e. size_as f _ _ (ap whole_formula e.1 ∙ whole-Ex e.0 a) one) (λ e. size_as f _ _ (ap whole_formula e.1 ∙ whole-All e.0 a) one) is) is

-- ---- parts of a command

command_as : (c : commands.InnerCommand) (n : Nest) (m : ℕ) → whole_command c ≡ n → nest_size n ≡ m → size_of_command c ≡ m
command_as c n m e is = ap nest_size e ∙ is

module _ (c : commands.InnerCommand) (f : written.Formula) where
  alone_in : suc (nodes ((whole_formula f).named 0) + nests_size (whole_formula f).inner) ≡ suc (size f)
  unfolding named_tree formula_tree
  alone_in = omega (arith, steady f 0)

  pub alone_size : (c ≡ inner.Nnf f) ⊎ ((c ≡ inner.Pnf f) ⊎ ((c ≡ inner.Dnf f) ⊎ (c ≡ inner.Cnf f))) → size_of_command c ≡ suc (size f)
  alone_size is =
      ⊎_elim (λ e. command_as c _ _ (ap whole_command e ∙ command-Nnf f) alone_in)
      (λ is. ⊎_elim (λ e. command_as c _ _ (ap whole_command e ∙ command-Pnf f) alone_in)
      (λ is. ⊎_elim (λ e. command_as c _ _ (ap whole_command e ∙ command-Dnf f) alone_in) (λ e. command_as c _ _ (ap whole_command e ∙ command-Cnf f) alone_in) is) is) is

module _ (c : commands.InnerCommand) (f : written.Formula) (given : writtens.Formulas) (xs : List written.Formula) (d : whole_formulas given ≡ all_of (map whole_formula xs)) where
  under_in : suc ((nodes ((whole_formula f).named 0) + all_nodes ((whole_formulas given).named (command_count (whole_formula f).inner))) + nests_size (together (whole_formula f).inner (whole_formulas given).inner)) ≡ suc (size f + size_of_all xs)
  unfolding named_tree formula_tree named_trees formula_trees
  under_in =
      let k = command_count (whole_formula f).inner in
      let e : all_nodes (whole_formulas given).tree + nests_size (whole_formulas given).inner ≡ size_of_all xs = ap (λ (h : Holed FormulaTrees). all_nodes h.tree + nests_size h.inner) d in
      omega (arith, steady f 0, steady_list given k, size_together (whole_formula f).inner (whole_formulas given).inner, e)

  pub under_size : (c ≡ inner.Simpl f given) ⊎ (c ≡ inner.Qe f given) → size_of_command c ≡ suc (size f + size_of_all xs)
  under_size is = ⊎_elim (λ e. command_as c _ _ (ap whole_command e ∙ command-Simpl f given) under_in) (λ e. command_as c _ _ (ap whole_command e ∙ command-Qe f given) under_in) is

pub own_size : (c : commands.InnerCommand) (f : written.Formula) (given : writtens.Formulas) → (c ≡ inner.Simpl f given) ⊎ (c ≡ inner.Qe f given) → size f < size_of_command c
own_size c f given is = omega (arith, under_size c f given (writtens.out-Formulas given).list.items (wholes-out given) is)

-- ---- parts of a formula, told one by one

module _ (f : written.Formula) (a : Box written.Formula Global) (x : written.Formula) (d : x ≡ a.value) where
  pub not_size : f ≡ formula.Not a → size f ≡ suc (size x)
  not_size e = chain_size f a x d (inl e)

  pub quantified_size : (y : List ℕ) → (f ≡ formula.Ex y a) ⊎ (f ≡ formula.All y a) → size f ≡ suc (size x)
  quantified_size y is = ⊎_elim (λ e. chain_size f a x d (inr (inl (y, e)))) (λ e. chain_size f a x d (inr (inr (y, e)))) is
