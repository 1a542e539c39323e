-- What is kept for branches: each leads from the matrix to its tree, and together they are the formula.
use Rattle.std.proofs.Common.{◌≡◌, ℕ, ◌+◌, ◌*◌, arith, Bool, true, false, List, [], ◌∷◌, ◌++◌, map, refl, sym, ap, subst, inl, inr, ⊎_elim, ◌⊎◌, ◌↔◌, nat_eq, if◌then◌else◌}
use Rattle.std.proofs.Math.IntN.{pos}
use Rattle.std.specs.Ordering.{int_eq}
use Rattle.std.specs.Cmp.{signed_Decides}
use Rattle.logic_meaning.specs.Context.{Context}
use Rattle.logic_meaning.specs.Point.{Point, move}
use Rattle.logic_meaning.specs.Truth.{SomeTrue}
use Rattle.logic_meaning.specs.Formula.{Yes, No, One, Not, And, Or, Impl, Repl, Equiv, Ex, All, none, also}
use Rattle.logic_meaning.specs.Every.{Every, EveryOf, FreeInSome}
use Rattle.logic_meaning.specs.Form.{coefficient}
use Rattle.logic_meaning.specs.Atom.{Atom, Mentions, Says, form_of}
use Rattle.logic_meaning.specs.Some.{Among, EachOf}
use Rattle.logic_meaning.specs.declared.junction.Junction.TheVariants.{Disjunction}
use Rattle.logic_meaning.specs.Sizes.{nodes}
use Rattle.logic_meaning.specs.Tree.{Tree, Trees, IsFree}
use Rattle.formula_laws.specs.Equivalence.{Equivalent, each_ex}
use Rattle.formula_laws.proofs.Fold.{free_of_members, fold_list_has, fold_list_true}
use Rattle.formula_laws.proofs.Equivalence.{equivalent_self, equivalent_then, ex_equivalent, distributed, absent_dropped}
use Rattle.logic_meaning.specs.declared.side.Side.TheVariants.{Lower}
use Rattle.logic_meaning.specs.Atoms.{atoms_in}
use Rattle.logic_meaning.specs.Steps.{Result, step}
use Rattle.elimination_theory.specs.StepTheorems.{IsResult, trees_left}
use Rattle.logic_meaning.specs.Answers.{Step}
use Rattle.elimination_theory.specs.AnswersTheorems.{Lead}
use Rattle.elimination_theory.proofs.SomeListed.{every_listed, each_append}
use Rattle.elimination_theory.proofs.OneStep.{steps_exact}
use Rattle.elimination_theory.proofs.Answers.{absent_zero}
use Rattle.logic_meaning.specs.NormalForm.{normal_atom}
use Rattle.logic_meaning.specs.Measured.{Counted, give, pay, within}
use Rattle.logic_meaning.specs.StopLimits.{span_within, step_within}
use Rattle.logic_meaning.specs.Reference.{Branch, stands_among, point_count, kept_at_zero, next_branch, alone, branch_trees, together, turned, full_step, one_step, steps, closed}
use Rattle.elimination_theory.specs.Theorems.{IsTidy, IsAnswerTo}
use Rattle.elimination_theory.proofs.Tidy.{normaliser, tidy_in, AreTidy, tidy_fold_list, step_tidy}
use Rattle.elimination_theory.proofs.Always.{Always, always_then, always_map, always_give, always_pay, always_within}

-- ---- a name that stands in no atom

mutual
  none_free : (x : ℕ) (f : Tree) → Every (λ a. coefficient x (form_of a) ≡ pos 0) f → ¬ (IsFree f x)
  none_free x Yes h t = t
  none_free x No h t = t
  none_free x (One a) h t = t h
  none_free x (Not f) h t = none_free x f h t
  none_free x (And fs) h t = none_free_of x fs h t
  none_free x (Or fs) h t = none_free_of x fs h t
  none_free x (Impl f g) h t = ⊎_elim (none_free x f h.0) (none_free x g h.1) t
  none_free x (Repl f g) h t = ⊎_elim (none_free x f h.0) (none_free x g h.1) t
  none_free x (Equiv f g) h t = ⊎_elim (none_free x f h.0) (none_free x g h.1) t
  none_free x (Ex y f) h t = none_free x f h t.1
  none_free x (All y f) h t = none_free x f h t.1

  none_free_of : (x : ℕ) (fs : Trees) → EveryOf (λ a. coefficient x (form_of a) ≡ pos 0) fs → ¬ (FreeInSome Mentions fs x)
  none_free_of x none h t = t
  none_free_of x (also f fs) h t = ⊎_elim (none_free x f h.0) (none_free_of x fs h.1) t

pub true_is_not_false : ¬ (true ≡ false)
true_is_not_false e = grind arith

stands_nowhere : (x : ℕ) (atoms : List Atom) → stands_among x atoms ≡ false → EachOf (λ a. coefficient x (form_of a) ≡ pos 0) atoms
stands_nowhere x [] e = tt
stands_nowhere x (a ∷ atoms) e = go (stands_nowhere x atoms) (int_eq (coefficient x (form_of a)) (pos 0)) refl e
  where
    go : (stands_among x atoms ≡ false → EachOf (λ a. coefficient x (form_of a) ≡ pos 0) atoms) → (b : Bool) → int_eq (coefficient x (form_of a)) (pos 0) ≡ b →
        (if b then stands_among x atoms else true) ≡ false → (coefficient x (form_of a) ≡ pos 0) × EachOf (λ a. coefficient x (form_of a) ≡ pos 0) atoms
    go rest true h e = ((signed_Decides (coefficient x (form_of a)) (pos 0)).0 h, rest e)
    go rest false h e = absurd (true_is_not_false e)

-- ---- branches

abbrev pub step_names : List Step → List ℕ
step_names [] = []
step_names (s ∷ rest) = s.name ∷ step_names rest

-- the steps of the branch lead from the matrix to its tree, one for each of the names
pub record IsBranch (c : Context) (matrix : Tree) (names : List ℕ) (b : Branch) : Type 0 where
  pub lead : Lead c b.steps matrix b.tree
  pub tidy : IsTidy c b.tree
  pub in_order : step_names b.steps ≡ names

-- and together the branches are the formula
pub record AreBranches (c : Context) (f matrix : Tree) (names : List ℕ) (bs : List Branch) : Type 0 where
  pub each : EachOf (IsBranch c matrix names) bs
  pub equivalent : Equivalent c f (Or (branch_trees bs))
  pub free : (y : ℕ) → FreeInSome Mentions (branch_trees bs) y → IsFree f y

module _ (c : Context) where
  branches_from : (f g matrix : Tree) (names : List ℕ) (bs : List Branch) → Equivalent c f g → ((y : ℕ) → IsFree g y → IsFree f y) → AreBranches c g matrix names bs → AreBranches c f matrix names bs
  branches_from f g matrix names bs e n b = record { each = b.each; equivalent = equivalent_then c f g (Or (branch_trees bs)) e b.equivalent; free = λ y t. n y (b.free y t) }

  -- a formula that has become another, as one branch
  pub alone_are : (f g : Tree) → IsAnswerTo c f g → AreBranches c f f [] (alone g)
  alone_are f g a = record {
    each = (record { lead = a.eliminated.equivalent; tidy = a.tidy; in_order = refl }, tt);
    equivalent = λ p o. let e = a.eliminated.equivalent p o in (λ t. inl (e.0 t), ⊎_elim e.1 absurd);
    free = λ y. ⊎_elim (a.eliminated.names y) absurd;
  }

  trees_tidy : (matrix : Tree) (names : List ℕ) (bs : List Branch) → EachOf (IsBranch c matrix names) bs → AreTidy c (branch_trees bs)
  trees_tidy matrix names [] h = tt
  trees_tidy matrix names (b ∷ bs) h = (h.0.tidy, trees_tidy matrix names bs h.1)

  -- branches as one formula
  pub together_is : (f matrix : Tree) (names : List ℕ) (bs : List Branch) → AreBranches c f matrix names bs → IsAnswerTo c f (together bs)
  together_is f matrix names bs b =
      let tidy = tidy_fold_list c Disjunction (branch_trees bs) (trees_tidy matrix names bs b.each) in
      record {
        eliminated = record {
          is_plain = tidy.is_plain;
          in_context = tidy_in c _ tidy;
          equivalent = equivalent_then c f (Or (branch_trees bs)) (together bs) b.equivalent (λ p o. fold_list_true Says (move nat_eq) c Disjunction (branch_trees bs) p);
          names = λ y. fold_list_has (λ g. IsFree g y → IsFree f y) (λ gs. FreeInSome Mentions gs y → IsFree f y) (free_of_members Mentions y (IsFree f y)) Disjunction (branch_trees bs) (b.free y);
        };
        tidy = tidy;
      }

  -- ---- lists of branches put together

  append_true : (xs ys : List Branch) (p : Point ℕ) → SomeTrue Says (move nat_eq) c (branch_trees (xs ++ ys)) p ↔ (SomeTrue Says (move nat_eq) c (branch_trees xs) p ⊎ SomeTrue Says (move nat_eq) c (branch_trees ys) p)
  append_true [] ys p = (λ t. inr t, ⊎_elim absurd (λ t. t))
  append_true (x ∷ xs) ys p =
      let i = append_true xs ys p in
      (⊎_elim (λ t. inl (inl t)) (λ t. ⊎_elim (λ u. inl (inr u)) (λ u. inr u) (i.0 t)), ⊎_elim (⊎_elim (λ t. inl t) (λ t. inr (i.1 (inl t)))) (λ t. inr (i.1 (inr t))))

  append_free : (xs ys : List Branch) (y : ℕ) → FreeInSome Mentions (branch_trees (xs ++ ys)) y → FreeInSome Mentions (branch_trees xs) y ⊎ FreeInSome Mentions (branch_trees ys) y
  append_free [] ys y t = inr t
  append_free (x ∷ xs) ys y t = ⊎_elim (λ u. inl (inl u)) (λ u. ⊎_elim (λ v. inl (inr v)) (λ v. inr v) (append_free xs ys y u)) t

  appended : (f : Tree) (fs : Trees) (matrix : Tree) (names : List ℕ) (xs ys : List Branch) → AreBranches c f matrix names xs → AreBranches c (Or fs) matrix names ys → AreBranches c (Or (also f fs)) matrix names (xs ++ ys)
  appended f fs matrix names xs ys a b = record {
    each = each_append (IsBranch c matrix names) xs ys a.each b.each;
    equivalent = λ p o.
        let d = a.equivalent p o in let e = b.equivalent p o in let i = append_true xs ys p in (
          ⊎_elim (λ t. i.1 (inl (d.0 t))) (λ t. i.1 (inr (e.0 t))),
          λ t. ⊎_elim (λ u. inl (d.1 u)) (λ u. inr (e.1 u)) (i.0 t),
        );
    free = λ y t. ⊎_elim (λ u. inl (a.free y u)) (λ u. inr (b.free y u)) (append_free xs ys y t);
  }

  -- ---- one step

  pub next_trees : (x : ℕ) (b : Branch) (rs : List Result) → trees_left rs ≡ branch_trees (map (next_branch x b) rs)
  next_trees x b [] = refl
  next_trees x b (r ∷ rs) = ap (also r.tree) (next_trees x b rs)

  module _ (x : ℕ) (b : Branch) (matrix : Tree) (names : List ℕ) (is : IsBranch c matrix names b) where
    next_each : (rs : List Result) → ((r : Result) → Among rs r → IsResult c x b.tree r) → EachOf (λ r. IsTidy c r.tree) rs → EachOf (IsBranch c matrix (x ∷ names)) (map (next_branch x b) rs)
    next_each [] h t = tt
    next_each (r ∷ rs) h t =
        let i = h r (inl refl) in (
          record {
            lead = (is.lead, record { suits = i.suits; is_plain = is.tidy.is_plain; in_context = tidy_in c b.tree is.tidy; equivalent = i.equivalent });
            tidy = t.0;
            in_order = ap (λ ns. x ∷ ns) is.in_order;
          },
          next_each rs (λ q m. h q (inr m)) t.1,
        )

    left_free : (rs : List Result) (y : ℕ) → ((r : Result) → Among rs r → IsResult c x b.tree r) → FreeInSome Mentions (trees_left rs) y → IsFree (Ex x b.tree) y
    left_free [] y h t = absurd t
    left_free (r ∷ rs) y h t = ⊎_elim (λ u. (h r (inl refl)).names y u) (λ u. left_free rs y (λ q m. h q (inr m)) u) t

    stepped : AreBranches c (Ex x b.tree) matrix (x ∷ names) (map (next_branch x b) (step c (normal_atom c) Lower x b.tree))
    stepped =
        let e = steps_exact c (normal_atom c) Lower x b.tree (normaliser c) is.tidy.is_plain (tidy_in c b.tree is.tidy) in
        let rs = step c (normal_atom c) Lower x b.tree in
        record {
          each = next_each rs e.each (step_tidy c x b.tree is.tidy);
          equivalent = subst (λ (ts : Trees). Equivalent c (Ex x b.tree) (Or ts)) (next_trees x b rs) e.equivalent;
          free = λ y t. left_free rs y e.each (subst (λ (ts : Trees). FreeInSome Mentions ts y) (sym (next_trees x b rs)) t);
        }

    stayed : ¬ (IsFree b.tree x) → AreBranches c (Ex x b.tree) matrix (x ∷ names) (kept_at_zero x b ∷ [])
    stayed n = record {
      each = (record { lead = (is.lead, absent_zero c x b.tree is.tidy.is_plain (tidy_in c b.tree is.tidy) n); tidy = is.tidy; in_order = ap (λ ns. x ∷ ns) is.in_order }, tt);
      equivalent = λ p o. let e = (absent_dropped c).of_ex x b.tree n p o in (λ t. inl (e.0 t), ⊎_elim e.1 absurd);
      free = λ y. ⊎_elim (λ t. (λ e. n (subst (IsFree b.tree) (sym e) t), t)) absurd;
    }

    module _ (limit : ℕ) where
      one_step_is : Always (AreBranches c (Ex x b.tree) matrix (x ∷ names)) (one_step c limit x b)
      one_step_is = go (stands_among x (atoms_in b.tree)) refl
        where
          go : (test : Bool) → stands_among x (atoms_in b.tree) ≡ test → Always (AreBranches c (Ex x b.tree) matrix (x ∷ names)) (if test then full_step c limit x b else give (kept_at_zero x b ∷ []))
          go true e =
              let Q = AreBranches c (Ex x b.tree) matrix (x ∷ names) in
              always_then (λ u. Unit {0}) Q (within (span_within c x b.tree)) _ (always_within (span_within c x b.tree)) (λ u v.
              always_then (λ u. Unit {0}) Q (pay limit (point_count c x b.tree * (nodes b.tree + 2))) _ (always_pay limit (point_count c x b.tree * (nodes b.tree + 2))) (λ u v.
              always_then (λ u. Unit {0}) Q (within (step_within c x b.tree)) _ (always_within (step_within c x b.tree)) (λ u v.
              always_give Q (map (next_branch x b) (step c (normal_atom c) Lower x b.tree)) stepped)))
          go false e = always_give (AreBranches c (Ex x b.tree) matrix (x ∷ names)) (kept_at_zero x b ∷ []) (stayed (none_free x b.tree (every_listed _ b.tree (stands_nowhere x (atoms_in b.tree) e))))

  module _ (limit x : ℕ) where
    steps_each : (matrix : Tree) (names : List ℕ) (bs : List Branch) → EachOf (IsBranch c matrix names) bs → Always (AreBranches c (Or (each_ex x (branch_trees bs))) matrix (x ∷ names)) (steps c limit x bs)
    steps_each matrix names [] h = always_give (AreBranches c (Or none) matrix (x ∷ names)) [] (record { each = tt; equivalent = equivalent_self c (Or none); free = λ y t. t })
    steps_each matrix names (b ∷ bs) h =
        let Q = AreBranches c (Or (also (Ex x b.tree) (each_ex x (branch_trees bs)))) matrix (x ∷ names) in
        always_then (AreBranches c (Ex x b.tree) matrix (x ∷ names)) Q (one_step c limit x b) _ (one_step_is x b matrix names h.0 limit) (λ first i.
        always_then (AreBranches c (Or (each_ex x (branch_trees bs))) matrix (x ∷ names)) Q (steps c limit x bs) _ (steps_each matrix names bs h.1) (λ rest j.
        always_give Q (first ++ rest) (appended (Ex x b.tree) (each_ex x (branch_trees bs)) matrix (x ∷ names) first rest i j)))

    each_ex_free : (fs : Trees) (y : ℕ) → FreeInSome Mentions (each_ex x fs) y → ¬ (x ≡ y) × FreeInSome Mentions fs y
    each_ex_free none y t = absurd t
    each_ex_free (also f fs) y t = ⊎_elim (λ u. (u.0, inl u.1)) (λ u. let i = each_ex_free fs y u in (i.0, inr i.1)) t

    -- the steps for x make the branches of ex(x, f) from those of f
    pub steps_are : (f matrix : Tree) (names : List ℕ) (bs : List Branch) → AreBranches c f matrix names bs → Always (AreBranches c (Ex x f) matrix (x ∷ names)) (steps c limit x bs)
    steps_are f matrix names bs b =
        always_map (AreBranches c (Or (each_ex x (branch_trees bs))) matrix (x ∷ names)) (AreBranches c (Ex x f) matrix (x ∷ names)) (steps c limit x bs)
        (λ left i. branches_from (Ex x f) (Or (each_ex x (branch_trees bs))) matrix (x ∷ names) left
        (equivalent_then c (Ex x f) (Ex x (Or (branch_trees bs))) (Or (each_ex x (branch_trees bs))) (ex_equivalent c x f (Or (branch_trees bs)) b.equivalent) ((distributed c).ex_over_or x (branch_trees bs)))
        (λ y t. let u = each_ex_free (branch_trees bs) y t in (u.0, b.free y u.1))
        i)
        (steps_each matrix names bs b.each)

    -- ex(x, f) as one formula u, or its negation
    pub closed_are : (sign : Bool) (f matrix u : Tree) (names : List ℕ) (inner : Counted (List Branch)) → Always (AreBranches c f matrix names) inner → ((g : Tree) → IsAnswerTo c (Ex x f) g → IsAnswerTo c u (turned sign g)) →
        Always (AreBranches c u u []) (closed c limit sign x inner)
    closed_are sign f matrix u names inner h turn =
        let Q = AreBranches c u u [] in
        always_then (AreBranches c f matrix names) Q inner _ h (λ bs i.
        always_then (AreBranches c (Ex x f) matrix (x ∷ names)) Q (steps c limit x bs) _ (steps_are f matrix names bs i) (λ left j.
        always_give Q (alone (turned sign (together left))) (alone_are u (turned sign (together left)) (turn (together left) (together_is (Ex x f) matrix (x ∷ names) left j)))))
