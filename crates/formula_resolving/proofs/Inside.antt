-- What holds of each command inside a formula, at whatever depth.
use Rattle.std.proofs.Common.{◌≡◌, inr, ℕ, ◌+◌, ◌-◌, List, [], ◌∷◌, ◌++◌, map, length, ap, sym, ◌∙◌, refl, subst, arith, append_assoc, append-nil}
use Rattle.std.specs.List.{AllByRecursion}
use Rattle.std.proofs.lemmas.List.{length-append}
use Rattle.logic_meaning.specs.Formula as plain
use Rattle.logic_meaning.specs.Formula.{One}
use Rattle.written_syntax.specs.declared.tree.Formula as written
use Rattle.written_syntax.specs.declared.tree.Formula.TheVariants as formula
use Rattle.written_syntax.specs.declared.tree.Formula.TheOpen as layer
use Rattle.written_syntax.specs.declared.tree.Formula.TheFolds.{ind-Formula}
use Rattle.written_syntax.specs.declared.tree.Formulas as writtens
use Rattle.written_syntax.specs.declared.tree.InnerCommand as commands
use Rattle.written_syntax.specs.declared.tree.InnerCommand.TheVariants as inner
use Rattle.language_meaning.specs.Trees.{Bound, FormulaTree, FormulaTrees}
use Rattle.language_meaning.specs.Holes.{InnerTree, Nest, Nests, nest, alone, beside, together, command_count, inner_name, Holed, all_of}
use Rattle.written_syntax.specs.CodeTrees.{whole_formula, whole_formulas, whole_command, inner_of, named_tree}
use Rattle.written_syntax.specs.Valued.{IsIn}
use Rattle.written_syntax.proofs.TreeEquations.{whole-True, whole-False, whole-Compare, whole-Cong, whole-Ncong, whole-Named, whole-Not, whole-And, whole-Or, whole-Impl, whole-Repl, whole-Equiv, whole-Ex, whole-All, whole-Computed, wholes-list, command-Nnf, command-Pnf, command-Dnf, command-Cnf, command-Simpl, command-Qe}
use Rattle.written_syntax.specs.LastTokens.{in_order, all_in_order}
use Rattle.language_meaning.specs.Texts.{all_with_texts, formulas_in, text_of, texts_of, written_out}
use Rattle.written_syntax.specs.StatementSyntaxWritable.{IsInnerOver, IsFormulaBeside, IsWritableNest, AreWritableNests}
use Rattle.language_meaning.specs.Resolving.{formula_variables, all_variables}
use Rattle.formula_resolving.specs.Order.{AreInOrder}
use Rattle.formula_resolving.specs.Text.{text_variables, with_texts}
use Rattle.formula_resolving.proofs.Gathering.{order_together}
use Rattle.formula_resolving.proofs.Texts.{texts_together, texts_count, text_there, out_is, in_left, in_right, variables_stand}

-- ---- what can be written

-- the formulas of the command can be written
abbrev pub IsWritableStep : Nest → Type 0
IsWritableStep (nest c ns) = IsInnerOver (IsFormulaBeside ns) c

all_then : (P : Nest → Type 0) (ms ls : List Nest) → AllByRecursion P ms → AllByRecursion P ls → AllByRecursion P (ms ++ ls)
all_then P [] ls h k = k
all_then P (m ∷ ms) ls h k = (h.0, all_then P ms ls h.1 k)

mutual
  can_be_written : (n : Nest) → IsWritableNest n → AllByRecursion IsWritableStep (in_order n)
  can_be_written (nest c ns) h = all_then IsWritableStep (all_in_order ns) (nest c ns ∷ []) (all_can_be_written ns h.1) (h.0, tt)

  -- each command can be written, at whatever depth
  pub all_can_be_written : (ns : Nests) → AreWritableNests ns → AllByRecursion IsWritableStep (all_in_order ns)
  all_can_be_written alone h = tt
  all_can_be_written (beside n ns) h = all_then IsWritableStep (in_order n) (all_in_order ns) (can_be_written n h.0) (all_can_be_written ns h.1)

-- ---- each after those inside it

mutual
  in_turn : (n : Nest) (more : List Nest) (k : ℕ) → AreInOrder more (k + 1) → AreInOrder (in_order n ++ more) k
  in_turn (nest c ns) more k h =
      let at : k + 1 ≡ ((k + command_count ns) - command_count ns) + 1 = omega arith in
      let rest : AreInOrder (nest c ns ∷ more) (k + command_count ns) = (omega arith, subst (λ (j : ℕ). AreInOrder more j) at h) in
      subst (λ (ms : List Nest). AreInOrder ms k) (sym (append_assoc (all_in_order ns) (nest c ns ∷ []) more)) (then_in_turn ns (nest c ns ∷ more) k rest)

  then_in_turn : (ns : Nests) (more : List Nest) (k : ℕ) → AreInOrder more (k + command_count ns) → AreInOrder (all_in_order ns ++ more) k
  then_in_turn alone more k h =
      let at : k + 0 ≡ k = omega arith in
      subst (λ (j : ℕ). AreInOrder more j) at h
  then_in_turn (beside n ns) more k h =
      let at : k + (1 + command_count ns) ≡ (k + 1) + command_count ns = omega arith in
      let rest : AreInOrder (all_in_order ns ++ more) (k + 1) = then_in_turn ns more (k + 1) (subst (λ (j : ℕ). AreInOrder more j) at h) in
      subst (λ (ms : List Nest). AreInOrder ms k) (sym (append_assoc (in_order n) (all_in_order ns) more)) (in_turn n (all_in_order ns ++ more) k rest)

-- each command finds the answers of those inside it
pub all_in_turn : (ns : Nests) → AreInOrder (all_in_order ns) 0
all_in_turn ns = subst (λ (ms : List Nest). AreInOrder ms 0) (append-nil (all_in_order ns)) (then_in_turn ns [] 0 tt)

-- ---- the variables

-- the variables of the formulas of a command
abbrev pub nest_variables : Nest → List (List ℕ)
nest_variables (nest c ns) = all_variables (formulas_in c)

-- the variables of these commands are in the list
abbrev AreWithin : List Nest → List (List ℕ) → Type 0
AreWithin ms vs = AllByRecursion (λ n. (x : List ℕ) → IsIn x (nest_variables n) → IsIn x vs) ms

wider : (ms : List Nest) (us vs : List (List ℕ)) → ((x : List ℕ) → IsIn x us → IsIn x vs) → AreWithin ms us → AreWithin ms vs
wider [] us vs f h = tt
wider (m ∷ ms) us vs f h = ((λ x k. f x (h.0 x k)), wider ms us vs f h.1)

within_then : (ms ls : List Nest) (vs : List (List ℕ)) → AreWithin ms vs → AreWithin ls vs → AreWithin (ms ++ ls) vs
within_then ms ls vs h k = all_then (λ n. (x : List ℕ) → IsIn x (nest_variables n) → IsIn x vs) ms ls h k

-- The variables of these commands are in the list, which depends on the texts and on the place of the first answer.
record Covers (ns : Nests) (vs : List FormulaTree → ℕ → List (List ℕ)) : Type 0 where
  at : (before after : List FormulaTree) (k : ℕ) → k ≡ length before → AreWithin (all_in_order ns) (vs (before ++ (texts_of ns ++ after)) k)

none_covered : (vs : List FormulaTree → ℕ → List (List ℕ)) → Covers alone vs
none_covered vs = record { at = λ before after k e. tt }

both_covered : (ns ms : Nests) (vs ws : List FormulaTree → ℕ → List (List ℕ)) → Covers ns vs → Covers ms ws → Covers (together ns ms) (λ texts k. vs texts k ++ ws texts (k + command_count ns))
both_covered ns ms vs ws g h = record {
  at = λ before after k e.
      let texts : List FormulaTree = before ++ (texts_of (together ns ms) ++ after) in
      let first : texts ≡ before ++ (texts_of ns ++ (texts_of ms ++ after)) = ap (λ ts. before ++ (ts ++ after)) (texts_together ns ms) ∙ ap (λ ts. before ++ ts) (append_assoc (texts_of ns) (texts_of ms) after) in
      let second : texts ≡ (before ++ texts_of ns) ++ (texts_of ms ++ after) = first ∙ sym (append_assoc before (texts_of ns) (texts_of ms ++ after)) in
      let place : k + command_count ns ≡ length (before ++ texts_of ns) = omega (arith, e, length-append before (texts_of ns), texts_count ns) in
      let us : List (List ℕ) = vs texts k in
      let xs : List (List ℕ) = ws texts (k + command_count ns) in
      let one : AreWithin (all_in_order ns) us = subst (λ (ts : List FormulaTree). AreWithin (all_in_order ns) (vs ts k)) (sym first) (g.at before (texts_of ms ++ after) k e) in
      let two : AreWithin (all_in_order ms) xs = subst (λ (ts : List FormulaTree). AreWithin (all_in_order ms) (ws ts (k + command_count ns))) (sym second) (h.at (before ++ texts_of ns) after (k + command_count ns) place) in
      subst (λ (ls : List Nest). AreWithin ls (us ++ xs)) (sym (order_together ns ms))
      (within_then (all_in_order ns) (all_in_order ms) (us ++ xs)
      (wider (all_in_order ns) us (us ++ xs) (λ x i. in_left (λ y. y ≡ x) us xs i) one)
      (wider (all_in_order ms) xs (us ++ xs) (λ x i. in_right (λ y. y ≡ x) us xs i) two));
}

-- the variables of a command and of those inside it are in its text
abbrev IsInText : Nest → Type 0
IsInText n = AreWithin (in_order n) (formula_variables (text_of n))

name_covered : (n : Nest) → IsInText n → Covers (beside n alone) (λ texts k. formula_variables (with_texts texts (One (Bound (inner_name k)))))
name_covered n h = record {
  at = λ before after k e.
      let place : k ≡ 0 + length before = omega (arith, e) in
      subst (λ (t : FormulaTree). AreWithin (in_order n ++ []) (formula_variables t)) (sym (text_there 0 k before (text_of n) after place))
      (subst (λ (ms : List Nest). AreWithin ms (formula_variables (text_of n))) (sym (append-nil (in_order n))) h);
}

command_in_text : (c : InnerTree) (ns : Nests) → AreWithin (all_in_order ns) (all_variables (all_with_texts (texts_of ns) (formulas_in c))) → IsInText (nest c ns)
command_in_text c ns h =
    let vs : List (List ℕ) = all_variables (written_out ns (formulas_in c)) in
    let inside : AreWithin (all_in_order ns) vs = subst (λ (fs : FormulaTrees). AreWithin (all_in_order ns) (all_variables fs)) (sym (out_is ns (formulas_in c))) h in
    within_then (all_in_order ns) (nest c ns ∷ []) vs inside ((λ x i. variables_stand ns (formulas_in c) x i), tt)

-- ---- formulas

abbrev FormulaCovers : Holed FormulaTree → Type 0
FormulaCovers h = Covers h.inner (λ texts k. formula_variables (with_texts texts (h.named k)))

abbrev FormulasCover : Holed FormulaTrees → Type 0
FormulasCover h = Covers h.inner (λ texts k. all_variables (all_with_texts texts (h.named k)))

-- a command that assumes nothing
alone_in_text : (c : InnerTree) (h : Holed FormulaTree) → formulas_in c ≡ plain.also (h.named 0) plain.none → FormulaCovers h → IsInText (nest c h.inner)
alone_in_text c h e k =
    let texts : List FormulaTree = texts_of h.inner in
    let vs : List (List ℕ) = formula_variables (with_texts texts (h.named 0)) in
    let first : AreWithin (all_in_order h.inner) vs = subst (λ (ts : List FormulaTree). AreWithin (all_in_order h.inner) (formula_variables (with_texts ts (h.named 0)))) (append-nil texts) (k.at [] [] 0 refl) in
    command_in_text c h.inner (subst (λ (fs : FormulaTrees). AreWithin (all_in_order h.inner) (all_variables (all_with_texts texts fs))) (sym e)
    (wider (all_in_order h.inner) vs (vs ++ []) (λ x i. in_left (λ y. y ≡ x) vs [] i) first))

-- a command with what it may assume
under_in_text : (c : InnerTree) (h : Holed FormulaTree) (i : Holed FormulaTrees) → formulas_in c ≡ plain.also (h.named 0) (i.named (command_count h.inner)) → FormulaCovers h → FormulasCover i → IsInText (nest c (together h.inner i.inner))
under_in_text c h i e k l =
    let ns : Nests = together h.inner i.inner in
    let texts : List FormulaTree = texts_of ns in
    let zeros : 0 + command_count h.inner ≡ command_count h.inner = omega arith in
    let both = both_covered h.inner i.inner (λ texts k. formula_variables (with_texts texts (h.named k))) (λ texts k. all_variables (all_with_texts texts (i.named k))) k l in
    let first : AreWithin (all_in_order ns) (all_variables (all_with_texts texts (plain.also (h.named 0) (i.named (0 + command_count h.inner))))) =
    subst (λ (ts : List FormulaTree). AreWithin (all_in_order ns) (all_variables (all_with_texts ts (plain.also (h.named 0) (i.named (0 + command_count h.inner)))))) (append-nil texts) (both.at [] [] 0 refl) in
    let fs : plain.also (h.named 0) (i.named (0 + command_count h.inner)) ≡ formulas_in c = ap (λ j. plain.also (h.named 0) (i.named j)) zeros ∙ sym e in
    command_in_text c ns (subst (λ (gs : FormulaTrees). AreWithin (all_in_order ns) (all_variables (all_with_texts texts gs))) fs first)

-- two formulas side by side
pair_covered : (h i : Holed FormulaTree) → FormulaCovers h → FormulaCovers i → Covers (together h.inner i.inner) (λ texts k. formula_variables (with_texts texts (h.named k)) ++ formula_variables (with_texts texts (i.named (k + command_count h.inner))))
pair_covered h i k l = both_covered h.inner i.inner (λ texts k. formula_variables (with_texts texts (h.named k))) (λ texts k. formula_variables (with_texts texts (i.named k))) k l

-- a formula after the name of a quantifier
after_name : (x : List ℕ) (h : Holed FormulaTree) → FormulaCovers h → Covers h.inner (λ texts k. x ∷ formula_variables (with_texts texts (h.named k)))
after_name x h p = record {
  at = λ before after k e.
      let vs : List (List ℕ) = formula_variables (with_texts (before ++ (texts_of h.inner ++ after)) (h.named k)) in
      wider (all_in_order h.inner) vs (x ∷ vs) (λ y i. inr i) (p.at before after k e);
}

abbrev OfFormula : written.Formula → Type 0
OfFormula f = FormulaCovers (whole_formula f)

abbrev OfCommand : commands.InnerCommand → Type 0
OfCommand c = IsInText (whole_command c)

abbrev OfFormulas : writtens.Formulas → Type 0
OfFormulas fs = FormulasCover (whole_formulas fs)

members_covered : (fs : List ((f : written.Formula) × OfFormula f)) → FormulasCover (all_of (map whole_formula (map (λ e. e.0) fs)))
members_covered [] = none_covered _
members_covered (e ∷ fs) =
    let h : Holed FormulaTree = whole_formula e.0 in
    let i : Holed FormulaTrees = all_of (map whole_formula (map (λ e. e.0) fs)) in
    both_covered h.inner i.inner (λ texts k. formula_variables (with_texts texts (h.named k))) (λ texts k. all_variables (all_with_texts texts (i.named k))) e.1 (members_covered fs)

-- the value of one layer
made : (l : layer.Formula-F written.Formula commands.InnerCommand writtens.Formulas) (f : written.Formula) (h : Holed FormulaTree) → written.roll-Formula l ≡ f → whole_formula f ≡ h → FormulaCovers h → OfFormula (written.roll-Formula l)
made l f h is e p = subst OfFormula (sym is) (subst FormulaCovers (sym e) p)

command_made : (l : layer.InnerCommand-F written.Formula commands.InnerCommand writtens.Formulas) (c : commands.InnerCommand) (n : Nest) → commands.roll-InnerCommand l ≡ c → whole_command c ≡ n → IsInText n → OfCommand (commands.roll-InnerCommand l)
command_made l c n is e p = subst OfCommand (sym is) (subst IsInText (sym e) p)

covered : (f : written.Formula) → OfFormula f
covered = ind-Formula OfFormula OfCommand OfFormulas (λ x y is. subst (λ z. OfFormula (written.roll-Formula z)) is (at y)) (λ x y is. subst (λ z. OfCommand (commands.roll-InnerCommand z)) is (told y))
    (λ x y is. subst (λ z. OfFormulas (writtens.roll-Formulas z)) is (listed y))
  where
    listed : (y : layer.Formulas-F ((f : written.Formula) × OfFormula f) ((c : commands.InnerCommand) × OfCommand c) ((fs : writtens.Formulas) × OfFormulas fs))
        → OfFormulas (writtens.roll-Formulas (writtens.map-Formulas _ _ _ _ _ _ (λ e. e.0) (λ e. e.0) (λ e. e.0) y))
    listed y = subst FormulasCover (sym (wholes-list _)) (members_covered y.list.items)

    told : (y : layer.InnerCommand-F ((f : written.Formula) × OfFormula f) ((c : commands.InnerCommand) × OfCommand c) ((fs : writtens.Formulas) × OfFormulas fs))
        → OfCommand (commands.roll-InnerCommand (commands.map-InnerCommand _ _ _ _ _ _ (λ e. e.0) (λ e. e.0) (λ e. e.0) y))
    told (layer.Nnf f) = command_made _ (inner.Nnf _) _ (inner.rolls-Nnf _) (command-Nnf _) (alone_in_text _ (whole_formula f.0) refl f.1)
    told (layer.Pnf f) = command_made _ (inner.Pnf _) _ (inner.rolls-Pnf _) (command-Pnf _) (alone_in_text _ (whole_formula f.0) refl f.1)
    told (layer.Dnf f) = command_made _ (inner.Dnf _) _ (inner.rolls-Dnf _) (command-Dnf _) (alone_in_text _ (whole_formula f.0) refl f.1)
    told (layer.Cnf f) = command_made _ (inner.Cnf _) _ (inner.rolls-Cnf _) (command-Cnf _) (alone_in_text _ (whole_formula f.0) refl f.1)
    told (layer.Simpl f given) = command_made _ (inner.Simpl _ _) _ (inner.rolls-Simpl _ _) (command-Simpl _ _) (under_in_text _ (whole_formula f.0) (whole_formulas given.0) refl f.1 given.1)
    told (layer.Qe f given) = command_made _ (inner.Qe _ _) _ (inner.rolls-Qe _ _) (command-Qe _ _) (under_in_text _ (whole_formula f.0) (whole_formulas given.0) refl f.1 given.1)

    at : (y : layer.Formula-F ((f : written.Formula) × OfFormula f) ((c : commands.InnerCommand) × OfCommand c) ((fs : writtens.Formulas) × OfFormulas fs))
        → OfFormula (written.roll-Formula (written.map-Formula _ _ _ _ _ _ (λ e. e.0) (λ e. e.0) (λ e. e.0) y))
    at layer.True = made layer.True formula.True _ formula.rolls-True whole-True (none_covered _)
    at layer.False = made layer.False formula.False _ formula.rolls-False whole-False (none_covered _)
    at (layer.Compare r s t) = made (layer.Compare r s t) (formula.Compare r s t) _ (formula.rolls-Compare r s t) (whole-Compare r s t) (none_covered _)
    at (layer.Cong s t m) = made (layer.Cong s t m) (formula.Cong s t m) _ (formula.rolls-Cong s t m) (whole-Cong s t m) (none_covered _)
    at (layer.Ncong s t m) = made (layer.Ncong s t m) (formula.Ncong s t m) _ (formula.rolls-Ncong s t m) (whole-Ncong s t m) (none_covered _)
    at (layer.Not f) = made _ (formula.Not _) _ (formula.rolls-Not _) (whole-Not _) f.value.1
    at (layer.And fs) = made _ (formula.And _) _ (formula.rolls-And _) (whole-And _) fs.1
    at (layer.Or fs) = made _ (formula.Or _) _ (formula.rolls-Or _) (whole-Or _) fs.1
    at (layer.Impl f g) = made _ (formula.Impl _ _) _ (formula.rolls-Impl _ _) (whole-Impl _ _) (pair_covered (whole_formula f.value.0) (whole_formula g.value.0) f.value.1 g.value.1)
    at (layer.Repl f g) = made _ (formula.Repl _ _) _ (formula.rolls-Repl _ _) (whole-Repl _ _) (pair_covered (whole_formula f.value.0) (whole_formula g.value.0) f.value.1 g.value.1)
    at (layer.Equiv f g) = made _ (formula.Equiv _ _) _ (formula.rolls-Equiv _ _) (whole-Equiv _ _) (pair_covered (whole_formula f.value.0) (whole_formula g.value.0) f.value.1 g.value.1)
    at (layer.Ex x f) = made _ (formula.Ex x _) _ (formula.rolls-Ex x _) (whole-Ex x _) (after_name x (whole_formula f.value.0) f.value.1)
    at (layer.All x f) = made _ (formula.All x _) _ (formula.rolls-All x _) (whole-All x _) (after_name x (whole_formula f.value.0) f.value.1)
    at (layer.Named x) = made (layer.Named x) (formula.Named x) _ (formula.rolls-Named x) (whole-Named x) (none_covered _)
    at (layer.Computed c) = made _ (formula.Computed _) _ (formula.rolls-Computed _) (whole-Computed _) (name_covered (whole_command c.value.0) c.value.1)

-- each variable of a command inside a formula, at whatever depth, is one of the formula's text
pub inside_stands : (f : written.Formula) → AllByRecursion (λ n. (x : List ℕ) → IsIn x (nest_variables n) → IsIn x (text_variables f)) (all_in_order (inner_of f))
unfolding text_variables inner_of named_tree
inside_stands f =
    let h : Holed FormulaTree = whole_formula f in
    let texts : List FormulaTree = texts_of h.inner in
    let vs : List (List ℕ) = formula_variables (with_texts texts (h.named 0)) in
    let first : AreWithin (all_in_order h.inner) vs = subst (λ (ts : List FormulaTree). AreWithin (all_in_order h.inner) (formula_variables (with_texts ts (h.named 0)))) (append-nil texts) ((covered f).at [] [] 0 refl) in
    subst (λ (fs : FormulaTrees). AreWithin (all_in_order h.inner) (all_variables fs)) (sym (out_is h.inner (plain.also (h.named 0) plain.none)))
    (wider (all_in_order h.inner) vs (vs ++ []) (λ x i. in_left (λ y. y ≡ x) vs [] i) first)
