-- Commands that are listed one after another.
use Rattle.std.proofs.Common.{◌≡◌, ℕ, ◌+◌, ◌⊎◌, ⊎_elim, subst, ◌<◌, ◌≤◌, List, [], ◌∷◌, ◌++◌, map, take, get_or, length, arith, ap, ap₂, sym, ◌∙◌, refl, append_assoc, append-nil}
use Rattle.std.specs.Prelude.{Result, Ok, Err, IfOk}
use Rattle.std.specs.declared.boxed.Box.{Box}
use Rattle.std.specs.declared.alloc.Global.{Global}
use Rattle.std.specs.List.{AllByRecursion}
use Rattle.std.proofs.lemmas.List.{length-append, map-append, take_more}
use Rattle.written_syntax.specs.declared.tree.Formula as written
use Rattle.written_syntax.specs.declared.tree.Formula.TheVariants as formula
use Rattle.written_syntax.specs.declared.tree.Formulas as writtens
use Rattle.written_syntax.specs.declared.tree.InnerCommand as commands
use Rattle.written_syntax.specs.declared.tree.InnerCommand.TheVariants as inner
use Rattle.language_meaning.specs.Holes.{Holed, Nest, Nests, nest, alone, beside, together, command_count, all_of}
use Rattle.language_meaning.specs.Trees.{FormulaTree, FormulaTrees}
use Rattle.written_syntax.proofs.TreeEquations.{whole-And, whole-Or, whole-Impl, whole-Repl, whole-Equiv, whole-Not, whole-Ex, whole-All, whole-True, whole-False, whole-Named, whole-Computed, command-Nnf, command-Pnf, command-Dnf, command-Cnf, command-Simpl, command-Qe}
use Rattle.written_syntax.specs.CodeTrees.{whole_formula, whole_formulas, whole_command, inner_of}
use Rattle.written_syntax.specs.LastTokens.{in_order, all_in_order, inside_count}
use Rattle.formula_resolving.specs.declared.order.Step.{Step}
use Rattle.formula_resolving.specs.Order.{nest_of, IsCounted, IsGathered, inside_of}

pub order_together : (ns ms : Nests) → all_in_order (together ns ms) ≡ all_in_order ns ++ all_in_order ms
order_together alone ms = refl
order_together (beside n ns) ms = ap (λ xs. in_order n ++ xs) (order_together ns ms) ∙ sym (append_assoc (in_order n) (all_in_order ns) (all_in_order ms))

pub together_alone : (ns : Nests) → together ns alone ≡ ns
together_alone alone = refl
together_alone (beside n ns) = ap (λ ms. beside n ms) (together_alone ns)

together_assoc : (ns ms ls : Nests) → together (together ns ms) ls ≡ together ns (together ms ls)
together_assoc alone ms ls = refl
together_assoc (beside n ns) ms ls = ap (λ ks. beside n ks) (together_assoc ns ms ls)

count_together : (ns ms : Nests) → command_count (together ns ms) ≡ command_count ns + command_count ms
count_together alone ms = omega arith
count_together (beside n ns) ms = omega (arith, count_together ns ms)

pub none_gathered : (steps : List Step) → IsGathered alone steps steps 0
none_gathered steps = record { order = sym (append-nil (map nest_of steps)); counts = λ h. h; told = refl }

pub gathered_then : (ns ms : Nests) (a b c : List Step) (m n : ℕ) → IsGathered ns a b m → IsGathered ms b c n → IsGathered (together ns ms) a c (m + n)
gathered_then ns ms a b c m n h k = record {
  order = k.order ∙ ap (λ xs. xs ++ all_in_order ms) h.order ∙ append_assoc (map nest_of a) (all_in_order ns) (all_in_order ms) ∙ ap (λ xs. map nest_of a ++ xs) (sym (order_together ns ms));
  counts = λ all. k.counts (h.counts all);
  told = omega (arith, h.told, k.told, count_together ns ms);
}

counted_more : (xs : List Step) (s : Step) → AllByRecursion IsCounted xs → IsCounted s → AllByRecursion IsCounted (xs ++ s ∷ [])
counted_more [] s h k = (k, tt)
counted_more (x ∷ xs) s h k = (h.0, counted_more xs s h.1 k)

inside_same : (n : Nest) → command_count (inside_of n) ≡ inside_count n
inside_same (nest c ns) = refl

-- a command after those inside it
pub command_gathered : (n : Nest) (a b : List Step) (s : Step) → nest_of s ≡ n → IsGathered (inside_of n) a b s.inside → IsGathered (beside n alone) a (b ++ s ∷ []) 1
command_gathered (nest c ns) a b s e h = record {
  order =
      map-append nest_of b (s ∷ []) ∙ ap₂ (λ xs n. xs ++ n ∷ []) h.order e ∙ append_assoc (map nest_of a) (all_in_order ns) (nest c ns ∷ [])
      ∙ ap (λ xs. map nest_of a ++ xs) (sym (append-nil (all_in_order ns ++ nest c ns ∷ [])));
  counts = λ all. counted_more b s (h.counts all) (h.told ∙ ap (λ n. command_count (inside_of n)) (sym e) ∙ inside_same (nest_of s));
  told = omega arith;
}

-- there is room for the count
ordered_more : (ns : Nests) → command_count ns ≤ length (all_in_order ns)
ordered_more alone = omega arith
ordered_more (beside (nest c ms) ns) =
    omega (arith, ordered_more ns, length-append (all_in_order ms ++ nest c ms ∷ []) (all_in_order ns), length-append (all_in_order ms) (nest c ms ∷ []))

length_mapped : (steps : List Step) → length (map nest_of steps) ≡ length steps
length_mapped [] = refl
length_mapped (s ∷ steps) = omega (arith, length_mapped steps)

pub gathered_fits : (ns : Nests) (a b : List Step) (n : ℕ) → IsGathered ns a b n → n ≤ length b
gathered_fits ns a b n h = omega (arith, h.told, ordered_more ns, ap length h.order, length_mapped b, length-append (map nest_of a) (all_in_order ns))

-- ---- members of a list

abbrev pub inside_all : List written.Formula → Nests
inside_all fs = (all_of (map whole_formula fs)).inner

inside_last : (fs : List written.Formula) (f : written.Formula) → inside_all (fs ++ f ∷ []) ≡ together (inside_all fs) (whole_formula f).inner
inside_last [] f = together_alone (whole_formula f).inner
inside_last (g ∷ gs) f = ap (λ ns. together (whole_formula g).inner ns) (inside_last gs f) ∙ sym (together_assoc (whole_formula g).inner (inside_all gs) (whole_formula f).inner)

pub inside_more : (fs : List written.Formula) (i : ℕ) (x : written.Formula) → x ≡ get_or fs i x → i < length fs → inside_all (take (i + 1) fs) ≡ together (inside_all (take i fs)) (whole_formula x).inner
inside_more fs i x at l = ap inside_all (take_more fs i x l ∙ ap (λ y. take i fs ++ y ∷ []) (sym at)) ∙ inside_last (take i fs) x

-- ---- what is gathered of a formula

pub there : (rest f : written.Formula) (ns : Nests) (old now new : List Step) (n : ℕ) → (whole_formula rest).inner ≡ (whole_formula f).inner → now ≡ old → (whole_formula rest).inner ≡ ns → IsGathered ns now new n → IsGathered (whole_formula f).inner old new n
there rest f ns old now new n same kept is h =
    subst (λ (ms : Nests). IsGathered ms old new n) (sym is ∙ same) (subst (λ (a : List Step). IsGathered ns a new n) kept h)

pub ok_there : {E : Type 0} (rest f : written.Formula) (ns : Nests) (old now new : List Step) (r : Result ℕ E) → (whole_formula rest).inner ≡ (whole_formula f).inner → now ≡ old → (whole_formula rest).inner ≡ ns
    → IfOk r (λ n. IsGathered ns now new n) → IfOk r (λ n. IsGathered (whole_formula f).inner old new n)
ok_there rest f ns old now new (Ok n) same kept is h = there rest f ns old now new n same kept is h
ok_there rest f ns old now new (Err e) same kept is h = h

pub nothing_there : (rest f : written.Formula) (old now : List Step) → (whole_formula rest).inner ≡ (whole_formula f).inner → now ≡ old → (whole_formula rest).inner ≡ alone → IsGathered (whole_formula f).inner old now 0
nothing_there rest f old now same kept is = there rest f alone old now now 0 same kept is (none_gathered now)

pub pair_inside : (f : written.Formula) (a b : Box written.Formula Global) (x y : written.Formula) → (f ≡ formula.Impl a b) ⊎ ((f ≡ formula.Repl a b) ⊎ (f ≡ formula.Equiv a b)) → x ≡ a.value → y ≡ b.value
    → (whole_formula f).inner ≡ together (whole_formula x).inner (whole_formula y).inner
pair_inside f a b x y is d k =
    ⊎_elim (λ e. ap (λ (h : Holed FormulaTree). h.inner) (ap whole_formula e ∙ whole-Impl a b)) (λ is. ⊎_elim (λ e. ap (λ (h : Holed FormulaTree). h.inner) (ap whole_formula e ∙ whole-Repl a b)) (λ e. ap (λ (h : Holed FormulaTree). h.inner) (ap whole_formula e ∙ whole-Equiv a b)) is) is
    ∙ ap₂ (λ s t. together (whole_formula s).inner (whole_formula t).inner) (sym d) (sym k)

pub members_inside : (f : written.Formula) (fs : writtens.Formulas) (xs : List written.Formula) → (f ≡ formula.And fs) ⊎ (f ≡ formula.Or fs) → whole_formulas fs ≡ all_of (map whole_formula xs)
    → (whole_formula f).inner ≡ inside_all xs
members_inside f fs xs is d =
    ⊎_elim (λ e. ap (λ (h : Holed FormulaTree). h.inner) (ap whole_formula e ∙ whole-And fs)) (λ e. ap (λ (h : Holed FormulaTree). h.inner) (ap whole_formula e ∙ whole-Or fs)) is
    ∙ ap (λ (h : Holed FormulaTrees). h.inner) d

pub computed_inside : (f : written.Formula) (c : Box commands.InnerCommand Global) (x : commands.InnerCommand) → f ≡ formula.Computed c → x ≡ c.value → (whole_formula f).inner ≡ beside (whole_command x) alone
computed_inside f c x e d = ap (λ (h : Holed FormulaTree). h.inner) (ap whole_formula e ∙ whole-Computed c) ∙ ap (λ y. beside (whole_command y) alone) (sym d)

pub under_inside : (c : commands.InnerCommand) (f : written.Formula) (given : writtens.Formulas) (xs : List written.Formula) → (c ≡ inner.Simpl f given) ⊎ (c ≡ inner.Qe f given) → whole_formulas given ≡ all_of (map whole_formula xs)
    → inside_of (whole_command c) ≡ together (whole_formula f).inner (inside_all xs)
under_inside c f given xs is d =
    ⊎_elim (λ e. ap inside_of (ap whole_command e ∙ command-Simpl f given)) (λ e. ap inside_of (ap whole_command e ∙ command-Qe f given)) is
    ∙ ap (λ (h : Holed FormulaTrees). together (whole_formula f).inner h.inner) d

pub chain_inside : (f : written.Formula) (a : Box written.Formula Global) (x : written.Formula) → x ≡ a.value → (f ≡ formula.Not a) ⊎ (((y : List ℕ) × (f ≡ formula.Ex y a)) ⊎ ((y : List ℕ) × (f ≡ formula.All y a))) → (whole_formula x).inner ≡ (whole_formula f).inner
chain_inside f a x d is = ap (λ y. (whole_formula y).inner) d ∙
    sym (⊎_elim (λ e. ap (λ (h : Holed FormulaTree). h.inner) (ap whole_formula e ∙ whole-Not a)) (λ is. ⊎_elim (λ e. ap (λ (h : Holed FormulaTree). h.inner) (ap whole_formula e.1 ∙ whole-Ex e.0 a)) (λ e. ap (λ (h : Holed FormulaTree). h.inner) (ap whole_formula e.1 ∙ whole-All e.0 a)) is) is)

pub alone_inside : (c : commands.InnerCommand) (f : written.Formula) → (c ≡ inner.Nnf f) ⊎ ((c ≡ inner.Pnf f) ⊎ ((c ≡ inner.Dnf f) ⊎ (c ≡ inner.Cnf f))) → inside_of (whole_command c) ≡ (whole_formula f).inner
alone_inside c f is =
    ⊎_elim (λ e. ap inside_of (ap whole_command e ∙ command-Nnf f)) (λ is. ⊎_elim (λ e. ap inside_of (ap whole_command e ∙ command-Pnf f))
    (λ is. ⊎_elim (λ e. ap inside_of (ap whole_command e ∙ command-Dnf f)) (λ e. ap inside_of (ap whole_command e ∙ command-Cnf f)) is) is) is

pub ok_as : {E : Type 0} (ns ms : Nests) (old new : List Step) (r : Result ℕ E) → ns ≡ ms → IfOk r (λ n. IsGathered ms old new n) → IfOk r (λ n. IsGathered ns old new n)
ok_as ns ms old new r e h = subst (λ (ls : Nests). IfOk r (λ n. IsGathered ls old new n)) (sym e) h

-- one member more
pub member_gathered : (fs : List written.Formula) (i : ℕ) (x : written.Formula) (a b c : List Step) (m n : ℕ) → x ≡ get_or fs i x → i < length fs → IsGathered (inside_all (take i fs)) a b m → IsGathered (whole_formula x).inner b c n
    → IsGathered (inside_all (take (i + 1) fs)) a c (m + n)
member_gathered fs i x a b c m n at l h k =
    subst (λ (ns : Nests). IsGathered ns a c (m + n)) (sym (inside_more fs i x at l)) (gathered_then (inside_all (take i fs)) (whole_formula x).inner a b c m n h k)

-- the sum has room
pub both_fit : (ns ms : Nests) (a b c : List Step) (m n : ℕ) → IsGathered ns a b m → IsGathered ms b c n → m + n ≤ length c
both_fit ns ms a b c m n h k = gathered_fits (together ns ms) a c (m + n) (gathered_then ns ms a b c m n h k)

pub leaf_inside : (f : written.Formula) → (f ≡ formula.True) ⊎ ((f ≡ formula.False) ⊎ ((x : List ℕ) × (f ≡ formula.Named x))) → (whole_formula f).inner ≡ alone
leaf_inside f is =
    ⊎_elim (λ e. ap (λ (h : Holed FormulaTree). h.inner) (ap whole_formula e ∙ whole-True)) (λ is. ⊎_elim (λ e. ap (λ (h : Holed FormulaTree). h.inner) (ap whole_formula e ∙ whole-False))
    (λ e. ap (λ (h : Holed FormulaTree). h.inner) (ap whole_formula e.1 ∙ whole-Named e.0)) is) is

pub as_inside : (ns ms : Nests) (old new : List Step) (n : ℕ) → ns ≡ ms → IsGathered ms old new n → IsGathered ns old new n
as_inside ns ms old new n e h = subst (λ (ls : Nests). IsGathered ls old new n) (sym e) h

-- no commands are in order where there are none
none_in_order : (ns : Nests) → all_in_order ns ≡ [] → ns ≡ alone
none_in_order alone e = refl
none_in_order (beside (nest c ms) ns) e = absurd (not_empty (all_in_order ms) (nest c ms) (all_in_order ns) e)
  where
    not_empty : (xs : List Nest) (x : Nest) (ys : List Nest) → ¬ ((xs ++ x ∷ []) ++ ys ≡ [])
    not_empty [] x ys p = cc
    not_empty (z ∷ xs) x ys p = cc

-- where none is listed, none stands inside
pub no_steps : (steps : List Step) (f : written.Formula) → map nest_of steps ≡ all_in_order (inner_of f) → length steps ≡ 0 → inner_of f ≡ alone
no_steps [] f e l = none_in_order (inner_of f) (sym e)
no_steps (s ∷ steps) f e l = absurd (omega (arith, l))
