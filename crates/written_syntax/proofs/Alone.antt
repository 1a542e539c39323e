-- Formulas inside which no command stands: they have no hole, and names of answers change nothing in them.
use Rattle.std.proofs.Common.{◌≡◌, ℕ, suc, ◌+◌, List, [], ◌∷◌, Bool, true, false, replicate, refl, sym, subst, ap, ◌∙◌, arith}
use Rattle.std.specs.Prelude.{map}
use Rattle.logic_meaning.specs.Formula as plain
use Rattle.written_syntax.specs.declared.tree.Formula as written
use Rattle.written_syntax.specs.declared.tree.Formula.TheVariants as formula
use Rattle.written_syntax.specs.declared.tree.Formula.TheOpen as layer
use Rattle.written_syntax.specs.declared.tree.Formula.TheFolds.{ind-Formula}
use Rattle.written_syntax.specs.declared.tree.Formulas as writtens
use Rattle.written_syntax.specs.declared.tree.InnerCommand as commands
use Rattle.language_meaning.specs.Names.{IsVariable, begins_with_letter}
use Rattle.language_meaning.specs.Trees.{FormulaTree}
use Rattle.language_meaning.specs.Holes.{Nests, alone, beside, together, command_count, Holed, hole, inner_name, whole, over, over_both, all_of}
use Rattle.written_syntax.specs.Writable.{IsWritableFormula, AreWritableFormulas}
use Rattle.written_syntax.specs.CodeTrees.{whole_formula, whole_formulas, formula_tree, formula_trees, inner_of, inners_of, named_tree, named_trees}
use Rattle.written_syntax.proofs.TreeEquations.{whole-True, whole-False, whole-Compare, whole-Cong, whole-Ncong, whole-Not, whole-And, whole-Or, whole-Impl, whole-Repl, whole-Equiv, whole-Ex, whole-All, whole-Named, whole-Computed, wholes-list, wholes-out}

abbrev IsAlone : Nests → Type 0
IsAlone alone = Unit {0}
IsAlone (beside n ns) = ⊥

-- two lists of commands are empty where they are so together
alone_both : (ns ms : Nests) → together ns ms ≡ alone → (ns ≡ alone) × (ms ≡ alone)
alone_both alone ms e = (refl, e)
alone_both (beside n ns) ms e = absurd (subst IsAlone (sym e) tt)

pub both_alone : (ns ms : Nests) → ns ≡ alone → ms ≡ alone → together ns ms ≡ alone
both_alone alone ms e d = d
both_alone (beside n ns) ms e d = absurd (subst IsAlone (sym e) tt)

-- Where no command stands inside, names of answers change nothing. And none does where each name of the tree can be written, since a hole is none, or each name
-- of the tree with the names of answers in its holes, whatever the first of these is.
pub record IsPlain {F : Type 0} (Writable : F → Type 0) (h : Holed F) : Type 0 where
  pub still : h.inner ≡ alone → (k : ℕ) → h.named k ≡ h.tree
  pub no_hole : Writable h.tree → h.inner ≡ alone
  pub no_answer : (k : ℕ) → Writable (h.named k) → h.inner ≡ alone

plain_whole : {F : Type 0} (W : F → Type 0) (f : F) → IsPlain W (whole f)
plain_whole W f = record { still = λ e k. refl; no_hole = λ w. refl; no_answer = λ k w. refl }

plain_over : {F G : Type 0} (V : F → Type 0) (W : G → Type 0) (g : F → G) (h : Holed F) → ((f : F) → W (g f) → V f) → IsPlain V h → IsPlain W (over g h)
plain_over V W g h below p = record {
  still = λ e k. ap g (p.still e k);
  no_hole = λ w. p.no_hole (below h.tree w);
  no_answer = λ k w. p.no_answer k (below (h.named k) w);
}

plain_both : {F G H : Type 0} (V : F → Type 0) (U : G → Type 0) (W : H → Type 0) (g : F → G → H) (h : Holed F) (i : Holed G)
    → ((a : F) (b : G) → W (g a b) → V a × U b) → IsPlain V h → IsPlain U i → IsPlain W (over_both g h i)
plain_both V U W g h i below p q =
    let still : together h.inner i.inner ≡ alone → (k : ℕ) → (over_both g h i).named k ≡ g h.tree i.tree = λ e k.
    let both = alone_both h.inner i.inner e in
    ap (λ a. g a ((over_both (λ a b. b) h i).named k)) (p.still both.0 k) ∙ ap (g h.tree) (q.still both.1 _) in
    record {
      still = still;
      no_hole = λ w. let both = below h.tree i.tree w in both_alone h.inner i.inner (p.no_hole both.0) (q.no_hole both.1);
      no_answer = λ k w.
          let both = below (h.named k) (i.named (k + command_count h.inner)) w in
          both_alone h.inner i.inner (p.no_answer k both.0) (q.no_answer (k + command_count h.inner) both.1);
    }

abbrev PlainFormula : written.Formula → Type 0
PlainFormula f = IsPlain IsWritableFormula (whole_formula f)

abbrev PlainFormulas : writtens.Formulas → Type 0
PlainFormulas fs = IsPlain AreWritableFormulas (whole_formulas fs)

abbrev PlainList : List written.Formula → Type 0
PlainList fs = IsPlain AreWritableFormulas (all_of (map whole_formula fs))

plain_list : (fs : List ((f : written.Formula) × PlainFormula f)) → PlainList (map (λ e. e.0) fs)
plain_list [] = plain_whole AreWritableFormulas plain.none
plain_list (e ∷ fs) = plain_both IsWritableFormula AreWritableFormulas AreWritableFormulas plain.also (whole_formula e.0) (all_of (map whole_formula (map (λ e. e.0) fs))) (λ a b w. w) e.1 (plain_list fs)

-- the value of one layer
made : (l : layer.Formula-F written.Formula commands.InnerCommand writtens.Formulas) (f : written.Formula) (h : Holed FormulaTree) → written.roll-Formula l ≡ f → whole_formula f ≡ h → IsPlain IsWritableFormula h
    → PlainFormula (written.roll-Formula l)
made l f h is e p = subst PlainFormula (sym is) (subst (IsPlain IsWritableFormula) (sym e) p)

abbrev IsNo : Bool → Type 0
IsNo true = ⊥
IsNo false = Unit {0}

no_variable : IsWritableFormula hole → ⊥
no_variable w = subst IsNo w.begins tt

-- the name of an answer begins with a zero byte
no_answer_name : (k : ℕ) → IsVariable (inner_name k) → ⊥
no_answer_name k w =
    let more : 65 + k ≡ suc (64 + k) = omega arith in
    subst IsNo (subst (λ n. begins_with_letter (replicate n 0) ≡ true) more w.begins) tt

plain_formula : (f : written.Formula) → PlainFormula f
plain_formula = ind-Formula PlainFormula (λ c. Unit {0}) PlainFormulas (λ x y is. subst (λ z. PlainFormula (written.roll-Formula z)) is (at y)) (λ x y is. tt)
    (λ x y is. subst (λ z. PlainFormulas (writtens.roll-Formulas z)) is (listed y))
  where
    W : FormulaTree → Type 0
    W = IsWritableFormula

    Made : Type 0
    Made = layer.Formula-F ((f : written.Formula) × PlainFormula f) ((c : commands.InnerCommand) × Unit {0}) ((fs : writtens.Formulas) × PlainFormulas fs)

    listed : (y : layer.Formulas-F ((f : written.Formula) × PlainFormula f) ((c : commands.InnerCommand) × Unit {0}) ((fs : writtens.Formulas) × PlainFormulas fs))
        → PlainFormulas (writtens.roll-Formulas (writtens.map-Formulas _ _ _ _ _ _ (λ e. e.0) (λ e. e.0) (λ e. e.0) y))
    listed y = subst (IsPlain AreWritableFormulas) (sym (wholes-list _)) (plain_list y.list.items)

    at : (y : Made) → PlainFormula (written.roll-Formula (written.map-Formula _ _ _ _ _ _ (λ e. e.0) (λ e. e.0) (λ e. e.0) y))
    at layer.True = made layer.True formula.True _ formula.rolls-True whole-True (plain_whole W _)
    at layer.False = made layer.False formula.False _ formula.rolls-False whole-False (plain_whole W _)
    at (layer.Compare r s t) = made (layer.Compare r s t) (formula.Compare r s t) _ (formula.rolls-Compare r s t) (whole-Compare r s t) (plain_whole W _)
    at (layer.Cong s t m) = made (layer.Cong s t m) (formula.Cong s t m) _ (formula.rolls-Cong s t m) (whole-Cong s t m) (plain_whole W _)
    at (layer.Ncong s t m) = made (layer.Ncong s t m) (formula.Ncong s t m) _ (formula.rolls-Ncong s t m) (whole-Ncong s t m) (plain_whole W _)
    at (layer.Not f) = made _ (formula.Not _) _ (formula.rolls-Not _) (whole-Not _) (plain_over W W plain.Not (whole_formula f.value.0) (λ a w. w) f.value.1)
    at (layer.And fs) = made _ (formula.And _) _ (formula.rolls-And _) (whole-And _) (plain_over AreWritableFormulas W plain.And (whole_formulas fs.0) (λ a w. w.1) fs.1)
    at (layer.Or fs) = made _ (formula.Or _) _ (formula.rolls-Or _) (whole-Or _) (plain_over AreWritableFormulas W plain.Or (whole_formulas fs.0) (λ a w. w.1) fs.1)
    at (layer.Impl f g) = made _ (formula.Impl _ _) _ (formula.rolls-Impl _ _) (whole-Impl _ _) (plain_both W W W plain.Impl (whole_formula f.value.0) (whole_formula g.value.0) (λ a b w. w) f.value.1 g.value.1)
    at (layer.Repl f g) = made _ (formula.Repl _ _) _ (formula.rolls-Repl _ _) (whole-Repl _ _) (plain_both W W W plain.Repl (whole_formula f.value.0) (whole_formula g.value.0) (λ a b w. w) f.value.1 g.value.1)
    at (layer.Equiv f g) = made _ (formula.Equiv _ _) _ (formula.rolls-Equiv _ _) (whole-Equiv _ _) (plain_both W W W plain.Equiv (whole_formula f.value.0) (whole_formula g.value.0) (λ a b w. w) f.value.1 g.value.1)
    at (layer.Ex x f) = made _ (formula.Ex x _) _ (formula.rolls-Ex x _) (whole-Ex x _) (plain_over W W (plain.Ex x) (whole_formula f.value.0) (λ a w. w.1) f.value.1)
    at (layer.All x f) = made _ (formula.All x _) _ (formula.rolls-All x _) (whole-All x _) (plain_over W W (plain.All x) (whole_formula f.value.0) (λ a w. w.1) f.value.1)
    at (layer.Named x) = made (layer.Named x) (formula.Named x) _ (formula.rolls-Named x) (whole-Named x) (plain_whole W _)
    at (layer.Computed c) = made _ (formula.Computed _) _ (formula.rolls-Computed _) (whole-Computed _)
        (record { still = λ e k. absurd (subst IsAlone (sym e) tt); no_hole = λ w. absurd (no_variable w); no_answer = λ k w. absurd (no_answer_name k w) })

-- the same of a list
plain_formulas : (fs : writtens.Formulas) → PlainFormulas fs
plain_formulas fs = subst (IsPlain AreWritableFormulas) (sym (wholes-out fs)) (plain_members (writtens.out-Formulas fs).list.items)
  where
    plain_members : (gs : List written.Formula) → PlainList gs
    plain_members [] = plain_whole AreWritableFormulas plain.none
    plain_members (g ∷ gs) = plain_both IsWritableFormula AreWritableFormulas AreWritableFormulas plain.also (whole_formula g) (all_of (map whole_formula gs)) (λ a b w. w) (plain_formula g) (plain_members gs)

-- where no command stands inside a formula, names of answers change nothing in it
pub still : (f : written.Formula) → inner_of f ≡ alone → (k : ℕ) → named_tree k f ≡ formula_tree f
unfolding inner_of named_tree formula_tree
still f e k = (plain_formula f).still e k

-- no command stands inside a formula whose names can be written
pub no_hole : (f : written.Formula) → IsWritableFormula (formula_tree f) → inner_of f ≡ alone
unfolding inner_of formula_tree
no_hole f w = (plain_formula f).no_hole w

-- nor inside formulas whose names can be written, with the names of answers in their holes
pub no_answers : (fs : writtens.Formulas) (k : ℕ) → AreWritableFormulas (named_trees k fs) → inners_of fs ≡ alone
unfolding inners_of named_trees
no_answers fs k w = (plain_formulas fs).no_answer k w

-- so these names change nothing in them
pub all_same_named : (fs : writtens.Formulas) (k : ℕ) → AreWritableFormulas (named_trees k fs) → named_trees k fs ≡ formula_trees fs
unfolding inners_of named_trees formula_trees
all_same_named fs k w = (plain_formulas fs).still (no_answers fs k w) k
