-- The variables of the whole text of a formula, part by part.
use Rattle.std.proofs.Common.{◌≡◌, ◌⊎◌, inl, inr, ⊎_elim, ℕ, suc, ◌+◌, ◌<◌, ◌≤◌, Bool, true, false, ◌&&◌, List, [], ◌∷◌, ◌++◌, map, length, drop, get_or, drop-cons, ap, ap₂, sym, ◌∙◌, refl, subst, arith, append_assoc, append-nil, eq-eqb}
use Rattle.std.specs.Prelude.{nat_eq, if◌then◌else◌, Result, Ok, Err, OnOk}
use Rattle.std.specs.List.{fold}
use Rattle.std.specs.declared.boxed.Box.{Box}
use Rattle.std.specs.declared.alloc.Global.{Global}
use Rattle.std.proofs.lemmas.List.{length-append, length-replicate}
use Rattle.std.proofs.lemmas.List.Sums.{fold-append}
use Rattle.logic_meaning.specs.Formula as plain
use Rattle.logic_meaning.specs.Formula.{One}
use Rattle.logic_meaning.specs.Some.{SomeOf}
use Rattle.language_meaning.specs.declared.tree.Relation.{Relation}
use Rattle.written_syntax.specs.declared.tree.Term as code
use Rattle.written_syntax.specs.declared.tree.Formula as written
use Rattle.written_syntax.specs.declared.tree.Formula.TheVariants as formula
use Rattle.written_syntax.specs.declared.tree.Formulas as writtens
use Rattle.written_syntax.specs.declared.tree.InnerCommand as commands
use Rattle.written_syntax.specs.declared.tree.InnerCommand.TheVariants as inner
use Rattle.language_meaning.specs.Trees.{WrittenAtom, Compare, Cong, Ncong, Bound, FormulaTree, FormulaTrees}
use Rattle.language_meaning.specs.Holes.{Nest, Nests, alone, beside, together, command_count, inner_name, Holed, whole, all_of}
use Rattle.written_syntax.specs.CodeTrees.{whole_formula, whole_formulas, whole_command, formula_tree, inner_of, named_tree}
use Rattle.language_meaning.specs.Value.{same_name}
use Rattle.written_syntax.specs.Valued.{IsIn, IsUnquantified}
use Rattle.written_syntax.specs.Writable.{IsWritableFormula, AreWritableFormulas}
use Rattle.written_syntax.proofs.TreeEquations.{formula-Ex, formula-All, whole-True, whole-False, whole-Compare, whole-Cong, whole-Ncong, whole-Named, whole-Not, whole-And, whole-Or, whole-Impl, whole-Repl, whole-Equiv, whole-Ex, whole-All, whole-Computed, command-Nnf, command-Pnf, command-Dnf, command-Cnf, command-Simpl, command-Qe}
use Rattle.language_meaning.specs.Texts.{text_at, text_of_atom, all_with_texts, text_of, texts_of, written_out}
use Rattle.language_meaning.specs.Resolving.{formula_variables, all_variables}
use Rattle.written_atoms.proofs.FromResolvedFormulas.{no_answer}
use Rattle.logic_meaning.specs.Names.{with_name}
use Rattle.formula_resolving.specs.Numbering.{Grows}
use Rattle.formula_resolving.proofs.Numbered.{grows_then, grows_with}
use Rattle.formula_resolving.specs.Text.{text_variables, with_texts, IsTextNumbered, AreTextsNumbered}

-- ---- texts

pub texts_together : (ns ms : Nests) → texts_of (together ns ms) ≡ texts_of ns ++ texts_of ms
texts_together alone ms = refl
texts_together (beside n ns) ms = ap (λ ts. text_of n ∷ ts) (texts_together ns ms)

pub texts_count : (ns : Nests) → length (texts_of ns) ≡ command_count ns
texts_count alone = refl
texts_count (beside n ns) = omega (arith, texts_count ns)

-- a name that a script can write stays
text_short : (x : List ℕ) (k : ℕ) (texts : List FormulaTree) → length x ≤ 64 → text_at k texts x ≡ One (Bound x)
text_short x k [] h = refl
text_short x k (t ∷ ts) h = rw (no_answer x k h) (text_short x (suc k) ts h)

and_false : (b : Bool) → (b && false) ≡ false
and_false true = refl
and_false false = refl

-- a longer text is another name
exceeds : (xs ys : List ℕ) → length ys < length xs → same_name xs ys ≡ false
exceeds [] [] h = absurd (omega (arith, h))
exceeds [] (y ∷ ys) h = refl
exceeds (x ∷ xs) [] h = refl
exceeds (x ∷ xs) (y ∷ ys) h = ap (λ b. nat_eq x y && b) (exceeds xs ys (omega (arith, h))) ∙ and_false (nat_eq x y)

-- the name of a later answer is no earlier one's
later_name : (n k : ℕ) → k < n → same_name (inner_name n) (inner_name k) ≡ false
later_name n k h = exceeds (inner_name n) (inner_name k) (omega (arith, h, length-replicate {A = ℕ} (65 + n) 0, length-replicate {A = ℕ} (65 + k) 0))

same_itself : (xs : List ℕ) → same_name xs xs ≡ true
same_itself [] = refl
same_itself (x ∷ xs) = ap (λ b. b && same_name xs xs) (eq-eqb x x refl) ∙ same_itself xs

-- the name of an answer has the text of its command
pub text_there : (j n : ℕ) (before : List FormulaTree) (t : FormulaTree) (after : List FormulaTree) → n ≡ j + length before → text_at j (before ++ (t ∷ after)) (inner_name n) ≡ t
text_there j n [] t after e =
    let at : n ≡ j = omega (arith, e) in
    let rest : FormulaTree = text_at (suc j) after (inner_name n) in
    ap (λ b. if b then t else rest) (subst (λ (m : ℕ). same_name (inner_name n) (inner_name m) ≡ true) at (same_itself (inner_name n)))
text_there j n (b ∷ bs) t after e =
    ap (λ c. if c then b else text_at (suc j) (bs ++ (t ∷ after)) (inner_name n)) (later_name n j (omega (arith, e))) ∙ text_there (suc j) n bs t after (omega (arith, e))

-- without texts all stays
atom_stays : (a : WrittenAtom) → text_of_atom [] a ≡ One a
atom_stays (Compare rel s t) = refl
atom_stays (Cong s t m) = refl
atom_stays (Ncong s t m) = refl
atom_stays (Bound x) = refl

mutual
  stays : (f : FormulaTree) → with_texts [] f ≡ f
  stays plain.Yes = refl
  stays plain.No = refl
  stays (One a) = atom_stays a
  stays (plain.Not f) = ap (λ g. plain.Not g) (stays f)
  stays (plain.And fs) = ap (λ gs. plain.And gs) (all_stay fs)
  stays (plain.Or fs) = ap (λ gs. plain.Or gs) (all_stay fs)
  stays (plain.Impl f g) = ap₂ (λ s t. plain.Impl s t) (stays f) (stays g)
  stays (plain.Repl f g) = ap₂ (λ s t. plain.Repl s t) (stays f) (stays g)
  stays (plain.Equiv f g) = ap₂ (λ s t. plain.Equiv s t) (stays f) (stays g)
  stays (plain.Ex x f) = ap (λ g. plain.Ex x g) (stays f)
  stays (plain.All x f) = ap (λ g. plain.All x g) (stays f)

  all_stay : (fs : FormulaTrees) → all_with_texts [] fs ≡ fs
  all_stay plain.none = refl
  all_stay (plain.also f fs) = ap₂ (λ g gs. plain.also g gs) (stays f) (all_stay fs)

pub out_is : (ns : Nests) (fs : FormulaTrees) → written_out ns fs ≡ all_with_texts (texts_of ns) fs
out_is alone fs = sym (all_stay fs)
out_is (beside n ns) fs = refl

-- what a script can write stays
writable_atom : (texts : List FormulaTree) (a : WrittenAtom) → IsWritableFormula (One a) → text_of_atom texts a ≡ One a
writable_atom texts (Compare rel s t) h = refl
writable_atom texts (Cong s t m) h = refl
writable_atom texts (Ncong s t m) h = refl
writable_atom texts (Bound x) h = text_short x 0 texts h.few

mutual
  writable_stays : (texts : List FormulaTree) (f : FormulaTree) → IsWritableFormula f → with_texts texts f ≡ f
  writable_stays texts plain.Yes h = refl
  writable_stays texts plain.No h = refl
  writable_stays texts (One a) h = writable_atom texts a h
  writable_stays texts (plain.Not f) h = ap (λ g. plain.Not g) (writable_stays texts f h)
  writable_stays texts (plain.And fs) h = ap (λ gs. plain.And gs) (writables_stay texts fs h.1)
  writable_stays texts (plain.Or fs) h = ap (λ gs. plain.Or gs) (writables_stay texts fs h.1)
  writable_stays texts (plain.Impl f g) h = ap₂ (λ s t. plain.Impl s t) (writable_stays texts f h.0) (writable_stays texts g h.1)
  writable_stays texts (plain.Repl f g) h = ap₂ (λ s t. plain.Repl s t) (writable_stays texts f h.0) (writable_stays texts g h.1)
  writable_stays texts (plain.Equiv f g) h = ap₂ (λ s t. plain.Equiv s t) (writable_stays texts f h.0) (writable_stays texts g h.1)
  writable_stays texts (plain.Ex x f) h = ap (λ g. plain.Ex x g) (writable_stays texts f h.1)
  writable_stays texts (plain.All x f) h = ap (λ g. plain.All x g) (writable_stays texts f h.1)

  writables_stay : (texts : List FormulaTree) (fs : FormulaTrees) → AreWritableFormulas fs → all_with_texts texts fs ≡ fs
  writables_stay texts plain.none h = refl
  writables_stay texts (plain.also f fs) h = ap₂ (λ g gs. plain.also g gs) (writable_stays texts f h.0) (writables_stay texts fs h.1)

-- ---- what the crates above ask

-- the variables of a formula, and then those of what is given with it
pub text_of_given : (f : written.Formula) (gs : FormulaTrees) → AreWritableFormulas gs → all_variables (written_out (inner_of f) (plain.also (named_tree 0 f) gs)) ≡ text_variables f ++ all_variables gs
unfolding text_variables
text_of_given f gs h =
    let ns : Nests = inner_of f in
    let texts : List FormulaTree = texts_of ns in
    let t : FormulaTree = named_tree 0 f in
    let vs : List (List ℕ) = formula_variables (with_texts texts t) in
    let left : all_variables (written_out ns (plain.also t gs)) ≡ vs ++ all_variables gs = ap all_variables (out_is ns (plain.also t gs)) ∙ ap (λ hs. vs ++ all_variables hs) (writables_stay texts gs h) in
    let right : all_variables (written_out ns (plain.also t plain.none)) ≡ vs = ap all_variables (out_is ns (plain.also t plain.none)) ∙ append-nil vs in
    left ∙ ap (λ ws. ws ++ all_variables gs) (sym right)

pub in_left : (P : List ℕ → Type 0) (xs ys : List (List ℕ)) → SomeOf P xs → SomeOf P (xs ++ ys)
in_left P [] ys h = absurd h
in_left P (x ∷ xs) ys (inl h) = inl h
in_left P (x ∷ xs) ys (inr h) = inr (in_left P xs ys h)

pub in_right : (P : List ℕ → Type 0) (xs ys : List (List ℕ)) → SomeOf P ys → SomeOf P (xs ++ ys)
in_right P [] ys h = h
in_right P (x ∷ xs) ys h = inr (in_right P xs ys h)

in_either : (P : List ℕ → Type 0) (xs ys : List (List ℕ)) → SomeOf P (xs ++ ys) → SomeOf P xs ⊎ SomeOf P ys
in_either P [] ys h = inr h
in_either P (x ∷ xs) ys (inl h) = inl (inl h)
in_either P (x ∷ xs) ys (inr h) = ⊎_elim (λ k. inl (inr k)) (λ k. inr k) (in_either P xs ys h)

in_both : (P : List ℕ → Type 0) (us vs xs ys : List (List ℕ)) → (SomeOf P us → SomeOf P xs) → (SomeOf P vs → SomeOf P ys) → SomeOf P (us ++ vs) → SomeOf P (xs ++ ys)
in_both P us vs xs ys f g h = ⊎_elim (λ k. in_left P xs ys (f k)) (λ k. in_right P xs ys (g k)) (in_either P us vs h)

in_atom : (texts : List FormulaTree) (a : WrittenAtom) (x : List ℕ) → IsIn x (formula_variables (One a)) → IsIn x (formula_variables (text_of_atom texts a))
in_atom texts (Compare rel s t) x h = h
in_atom texts (Cong s t m) x h = h
in_atom texts (Ncong s t m) x h = h
in_atom texts (Bound y) x h = absurd h

mutual
  stands : (texts : List FormulaTree) (f : FormulaTree) (x : List ℕ) → IsIn x (formula_variables f) → IsIn x (formula_variables (with_texts texts f))
  stands texts plain.Yes x h = h
  stands texts plain.No x h = h
  stands texts (One a) x h = in_atom texts a x h
  stands texts (plain.Not f) x h = stands texts f x h
  stands texts (plain.And fs) x h = all_stand texts fs x h
  stands texts (plain.Or fs) x h = all_stand texts fs x h
  stands texts (plain.Impl f g) x h = in_both (λ y. y ≡ x) (formula_variables f) (formula_variables g) (formula_variables (with_texts texts f)) (formula_variables (with_texts texts g)) (stands texts f x) (stands texts g x) h
  stands texts (plain.Repl f g) x h = in_both (λ y. y ≡ x) (formula_variables f) (formula_variables g) (formula_variables (with_texts texts f)) (formula_variables (with_texts texts g)) (stands texts f x) (stands texts g x) h
  stands texts (plain.Equiv f g) x h = in_both (λ y. y ≡ x) (formula_variables f) (formula_variables g) (formula_variables (with_texts texts f)) (formula_variables (with_texts texts g)) (stands texts f x) (stands texts g x) h
  stands texts (plain.Ex y f) x (inl h) = inl h
  stands texts (plain.Ex y f) x (inr h) = inr (stands texts f x h)
  stands texts (plain.All y f) x (inl h) = inl h
  stands texts (plain.All y f) x (inr h) = inr (stands texts f x h)

  all_stand : (texts : List FormulaTree) (fs : FormulaTrees) (x : List ℕ) → IsIn x (all_variables fs) → IsIn x (all_variables (all_with_texts texts fs))
  all_stand texts plain.none x h = h
  all_stand texts (plain.also f fs) x h =
      in_both (λ y. y ≡ x) (formula_variables f) (all_variables fs) (formula_variables (with_texts texts f)) (all_variables (all_with_texts texts fs)) (stands texts f x) (all_stand texts fs x) h

-- each variable of formulas is one of their text
pub variables_stand : (ns : Nests) (fs : FormulaTrees) (x : List ℕ) → IsIn x (all_variables fs) → IsIn x (all_variables (written_out ns fs))
variables_stand ns fs x h = subst (λ (gs : FormulaTrees). IsIn x (all_variables gs)) (sym (out_is ns fs)) (all_stand (texts_of ns) fs x h)

-- ---- parts that stand side by side

-- the variables, which depend on the texts and on the place of the first answer, are numbered
abbrev AreNumbered : Nests → (List FormulaTree → ℕ → List (List ℕ)) → List (List ℕ) → List (List ℕ) → Type 0
AreNumbered ns vs old new = (before after : List FormulaTree) (k : ℕ) → k ≡ length before → new ≡ fold with_name old (vs (before ++ (texts_of ns ++ after)) k)

both_numbered : (ns ms : Nests) (vs ws : List FormulaTree → ℕ → List (List ℕ)) (a b c : List (List ℕ)) → AreNumbered ns vs a b → AreNumbered ms ws b c
    → AreNumbered (together ns ms) (λ texts k. vs texts k ++ ws texts (k + command_count ns)) a c
both_numbered ns ms vs ws a b c g h before after k e =
    let texts : List FormulaTree = before ++ (texts_of (together ns ms) ++ after) in
    let first : texts ≡ before ++ (texts_of ns ++ (texts_of ms ++ after)) = ap (λ ts. before ++ (ts ++ after)) (texts_together ns ms) ∙ ap (λ ts. before ++ ts) (append_assoc (texts_of ns) (texts_of ms) after) in
    let second : texts ≡ (before ++ texts_of ns) ++ (texts_of ms ++ after) = first ∙ sym (append_assoc before (texts_of ns) (texts_of ms ++ after)) in
    let j : ℕ = k + command_count ns in
    let place : k + command_count ns ≡ length (before ++ texts_of ns) = omega (arith, e, length-append before (texts_of ns), texts_count ns) in
    let one : b ≡ fold with_name a (vs texts k) = g before (texts_of ms ++ after) k e ∙ ap (λ ts. fold with_name a (vs ts k)) (sym first) in
    let two : c ≡ fold with_name b (ws texts (k + command_count ns)) = h (before ++ texts_of ns) after (k + command_count ns) place ∙ ap (λ ts. fold with_name b (ws ts (k + command_count ns))) (sym second) in
    two ∙ ap (λ z. fold with_name z (ws texts (k + command_count ns))) one ∙ sym (fold-append with_name a (vs texts k) (ws texts (k + command_count ns)))

-- ---- a formula told by its parts

as_whole : (f : written.Formula) (h : Holed FormulaTree) (a b : List (List ℕ)) → whole_formula f ≡ h → IsTextNumbered h a b → IsTextNumbered (whole_formula f) a b
as_whole f h a b e n = subst (λ (i : Holed FormulaTree). IsTextNumbered i a b) (sym e) n

-- what has no variables
none_numbered : (t : FormulaTree) (a : List (List ℕ)) → ((texts : List FormulaTree) → formula_variables (with_texts texts t) ≡ []) → IsTextNumbered (whole t) a a
none_numbered t a h = record { at = λ before after k e. ap (λ vs. fold with_name a vs) (sym (h (before ++ (texts_of alone ++ after)))) }

pub constant_numbered : (f : written.Formula) (a : List (List ℕ)) → (f ≡ formula.True) ⊎ (f ≡ formula.False) → IsTextNumbered (whole_formula f) a a
constant_numbered f a is =
    ⊎_elim (λ e. as_whole f _ a a (ap whole_formula e ∙ whole-True) (none_numbered plain.Yes a (λ texts. refl))) (λ e. as_whole f _ a a (ap whole_formula e ∙ whole-False) (none_numbered plain.No a (λ texts. refl))) is

pub name_numbered : (f : written.Formula) (x : List ℕ) (a : List (List ℕ)) → f ≡ formula.Named x → length x ≤ 64 → IsTextNumbered (whole_formula f) a a
name_numbered f x a e h = as_whole f _ a a (ap whole_formula e ∙ whole-Named x) (none_numbered (One (Bound x)) a (λ texts. ap formula_variables (text_short x 0 texts h)))

-- an atom, which has the same variables with texts
atom_numbered : (f : written.Formula) (t : FormulaTree) (a b : List (List ℕ)) → whole_formula f ≡ whole t → ((texts : List FormulaTree) → with_texts texts t ≡ t) → b ≡ fold with_name a (formula_variables (formula_tree f)) → IsTextNumbered (whole_formula f) a b
unfolding formula_tree
atom_numbered f t a b e same n =
    as_whole f (whole t) a b e (record {
      at = λ before after k p. n ∙ ap (λ (h : Holed FormulaTree). fold with_name a (formula_variables h.tree)) e ∙ ap (λ s. fold with_name a (formula_variables s)) (sym (same (before ++ (texts_of alone ++ after))));
    })

pub compared_numbered : (f : written.Formula) (a b : List (List ℕ))
    → ((r : Relation) × (s : Box code.Term Global) × (t : Box code.Term Global) × (f ≡ formula.Compare r s t)) ⊎ (((s : Box code.Term Global) × (t : Box code.Term Global) × (m : Box code.Term Global) × (f ≡ formula.Cong s t m)) ⊎ ((s : Box code.Term Global) × (t : Box code.Term Global) × (m : Box code.Term Global) × (f ≡ formula.Ncong s t m)))
    → b ≡ fold with_name a (formula_variables (formula_tree f)) → IsTextNumbered (whole_formula f) a b
compared_numbered f a b is n =
    ⊎_elim (λ e. atom_numbered f _ a b (ap whole_formula e.3 ∙ whole-Compare e.0 e.1 e.2) (λ texts. refl) n)
    (λ is. ⊎_elim (λ e. atom_numbered f _ a b (ap whole_formula e.3 ∙ whole-Cong e.0 e.1 e.2) (λ texts. refl) n) (λ e. atom_numbered f _ a b (ap whole_formula e.3 ∙ whole-Ncong e.0 e.1 e.2) (λ texts. refl) n) is) is

-- a formula that begins with no quantifier
pub no_quantifier : (f : written.Formula) → IsUnquantified (formula_tree f) → ((x : List ℕ) × (g : Box written.Formula Global) × (f ≡ formula.Ex x g)) ⊎ ((x : List ℕ) × (g : Box written.Formula Global) × (f ≡ formula.All x g)) → ⊥
no_quantifier f h is =
    ⊎_elim (λ e. subst (λ (t : FormulaTree). IsUnquantified t) (ap formula_tree e.2 ∙ formula-Ex e.0 e.1) h) (λ e. subst (λ (t : FormulaTree). IsUnquantified t) (ap formula_tree e.2 ∙ formula-All e.0 e.1) h) is

pub not_numbered : (f : written.Formula) (g : Box written.Formula Global) (x : written.Formula) (a b : List (List ℕ)) → f ≡ formula.Not g → x ≡ g.value → IsTextNumbered (whole_formula x) a b → IsTextNumbered (whole_formula f) a b
not_numbered f g x a b e d h =
    let n : IsTextNumbered (whole_formula g.value) a b = subst (λ (y : written.Formula). IsTextNumbered (whole_formula y) a b) d h in
    as_whole f _ a b (ap whole_formula e ∙ whole-Not g) (record { at = λ before after k p. n.at before after k p })

pub pair_numbered : (f : written.Formula) (g h : Box written.Formula Global) (x y : written.Formula) (a b c : List (List ℕ)) → (f ≡ formula.Impl g h) ⊎ ((f ≡ formula.Repl g h) ⊎ (f ≡ formula.Equiv g h)) → x ≡ g.value → y ≡ h.value
    → IsTextNumbered (whole_formula x) a b → IsTextNumbered (whole_formula y) b c → IsTextNumbered (whole_formula f) a c
pair_numbered f g h x y a b c is d k m n =
    let i : Holed FormulaTree = whole_formula g.value in
    let j : Holed FormulaTree = whole_formula h.value in
    let p : IsTextNumbered (whole_formula g.value) a b = subst (λ (z : written.Formula). IsTextNumbered (whole_formula z) a b) d m in
    let q : IsTextNumbered (whole_formula h.value) b c = subst (λ (z : written.Formula). IsTextNumbered (whole_formula z) b c) k n in
    let vs : List FormulaTree → ℕ → List (List ℕ) = λ ts l. formula_variables (with_texts ts (i.named l)) in
    let ws : List FormulaTree → ℕ → List (List ℕ) = λ ts l. formula_variables (with_texts ts (j.named l)) in
    let r : AreNumbered (together i.inner j.inner) (λ ts l. vs ts l ++ ws ts (l + command_count i.inner)) a c = both_numbered i.inner j.inner vs ws a b c (λ before after l e. p.at before after l e) (λ before after l e. q.at before after l e) in
    ⊎_elim (λ e. as_whole f _ a c (ap whole_formula e ∙ whole-Impl g h) (record { at = λ before after l o. r before after l o }))
    (λ is. ⊎_elim (λ e. as_whole f _ a c (ap whole_formula e ∙ whole-Repl g h) (record { at = λ before after l o. r before after l o })) (λ e. as_whole f _ a c (ap whole_formula e ∙ whole-Equiv g h) (record { at = λ before after l o. r before after l o })) is) is

pub members_numbered : (f : written.Formula) (fs : writtens.Formulas) (xs : List written.Formula) (a b : List (List ℕ)) → (f ≡ formula.And fs) ⊎ (f ≡ formula.Or fs) → whole_formulas fs ≡ all_of (map whole_formula xs)
    → AreTextsNumbered (all_of (map whole_formula xs)) a b → IsTextNumbered (whole_formula f) a b
members_numbered f fs xs a b is d h =
    let n : AreTextsNumbered (whole_formulas fs) a b = subst (λ (i : Holed FormulaTrees). AreTextsNumbered i a b) (sym d) h in
    ⊎_elim (λ e. as_whole f _ a b (ap whole_formula e ∙ whole-And fs) (record { at = λ before after l o. n.at before after l o }))
    (λ e. as_whole f _ a b (ap whole_formula e ∙ whole-Or fs) (record { at = λ before after l o. n.at before after l o })) is

-- a command, by its text
pub computed_numbered : (f : written.Formula) (c : Box commands.InnerCommand Global) (x : commands.InnerCommand) (a b : List (List ℕ)) → f ≡ formula.Computed c → x ≡ c.value
    → b ≡ fold with_name a (formula_variables (text_of (whole_command x))) → IsTextNumbered (whole_formula f) a b
computed_numbered f c x a b e d n =
    let m : b ≡ fold with_name a (formula_variables (text_of (whole_command c.value))) = n ∙ ap (λ y. fold with_name a (formula_variables (text_of (whole_command y)))) d in
    as_whole f _ a b (ap whole_formula e ∙ whole-Computed c) (record {
      at = λ before after k p.
          let place : k ≡ 0 + length before = omega (arith, p) in
          m ∙ ap (λ t. fold with_name a (formula_variables t)) (sym (text_there 0 k before (text_of (whole_command c.value)) after place));
    })

-- ---- quantifiers at the head

-- the rest is to be numbered
pub record Goes (f rest : written.Formula) (old now : List (List ℕ)) : Type 0 where
  pub on : (end : List (List ℕ)) → IsTextNumbered (whole_formula rest) now end → IsTextNumbered (whole_formula f) old end

pub goes_first : (f : written.Formula) (a : List (List ℕ)) → Goes f f a a
goes_first f a = record { on = λ end h. h }

pub goes_under : (f rest : written.Formula) (x : List ℕ) (g : Box written.Formula Global) (next : written.Formula) (a b c : List (List ℕ)) → Goes f rest a b → (rest ≡ formula.Ex x g) ⊎ (rest ≡ formula.All x g) → next ≡ g.value → c ≡ with_name b x → Goes f next a c
goes_under f rest x g next a b c goes is d e = record {
  on = λ end h.
      let k : IsTextNumbered (whole_formula g.value) c end = subst (λ (y : written.Formula). IsTextNumbered (whole_formula y) c end) d h in
      let n : IsTextNumbered (whole_formula g.value) (with_name b x) end = subst (λ (z : List (List ℕ)). IsTextNumbered (whole_formula g.value) z end) e k in
      goes.on end (⊎_elim (λ i. as_whole rest _ b end (ap whole_formula i ∙ whole-Ex x g) (record { at = λ before after l o. n.at before after l o }))
      (λ i. as_whole rest _ b end (ap whole_formula i ∙ whole-All x g) (record { at = λ before after l o. n.at before after l o })) is);
}

-- ---- members of a list

abbrev Members : List written.Formula → List (List ℕ) → List (List ℕ) → Type 0
Members fs a b = AreTextsNumbered (all_of (map whole_formula fs)) a b

pub members_none : (a : List (List ℕ)) → Members [] a a
members_none a = record { at = λ before after k e. refl }

members_more : (f : written.Formula) (fs : List written.Formula) (a b c : List (List ℕ)) → IsTextNumbered (whole_formula f) a b → Members fs b c → Members (f ∷ fs) a c
members_more f fs a b c h k =
    let i : Holed FormulaTree = whole_formula f in
    let j : Holed FormulaTrees = all_of (map whole_formula fs) in
    let r : AreNumbered (together i.inner j.inner) (λ ts l. formula_variables (with_texts ts (i.named l)) ++ all_variables (all_with_texts ts (j.named (l + command_count i.inner)))) a c =
    both_numbered i.inner j.inner (λ ts l. formula_variables (with_texts ts (i.named l))) (λ ts l. all_variables (all_with_texts ts (j.named l))) a b c (λ before after l e. h.at before after l e) (λ before after l e. k.at before after l e) in
    record { at = λ before after l o. r before after l o }

-- the members after the first ones are to be numbered
pub record GoesOn (fs : List written.Formula) (i : ℕ) (old now : List (List ℕ)) : Type 0 where
  pub on : (end : List (List ℕ)) → AreTextsNumbered (all_of (map whole_formula (drop i fs))) now end → AreTextsNumbered (all_of (map whole_formula fs)) old end

pub goes_on_first : (fs : List written.Formula) (a : List (List ℕ)) → GoesOn fs 0 a a
goes_on_first fs a = record { on = λ end h. h }

dropped : (fs : List written.Formula) (i : ℕ) (f : written.Formula) → f ≡ get_or fs i f → i < length fs → drop i fs ≡ f ∷ drop (i + 1) fs
dropped fs i f is h =
    let next : suc i ≡ i + 1 = omega arith in
    drop-cons fs i f h ∙ ap (λ g. g ∷ drop (suc i) fs) (sym is) ∙ ap (λ n. f ∷ drop n fs) next

pub goes_on_more : (fs : List written.Formula) (i : ℕ) (x : written.Formula) (a b c : List (List ℕ)) → GoesOn fs i a b → x ≡ get_or fs i x → i < length fs → IsTextNumbered (whole_formula x) b c → GoesOn fs (i + 1) a c
goes_on_more fs i x a b c goes is l h = record {
  on = λ end k. goes.on end (subst (λ (gs : List written.Formula). AreTextsNumbered (all_of (map whole_formula gs)) b end) (sym (dropped fs i x is l)) (members_more x (drop (i + 1) fs) b c end h k));
}

-- ---- commands

pub command_numbered : (c : commands.InnerCommand) (f : written.Formula) (a b : List (List ℕ)) → (c ≡ inner.Nnf f) ⊎ ((c ≡ inner.Pnf f) ⊎ ((c ≡ inner.Dnf f) ⊎ (c ≡ inner.Cnf f))) → IsTextNumbered (whole_formula f) a b
    → b ≡ fold with_name a (formula_variables (text_of (whole_command c)))
command_numbered c f a b is h =
    let i : Holed FormulaTree = whole_formula f in
    let texts : List FormulaTree = texts_of i.inner in
    let vs : List (List ℕ) = formula_variables (with_texts texts (i.named 0)) in
    let first : b ≡ fold with_name a vs = h.at [] [] 0 refl ∙ ap (λ ts. fold with_name a (formula_variables (with_texts ts (i.named 0)))) (append-nil texts) in
    let same : vs ≡ all_variables (written_out i.inner (plain.also (i.named 0) plain.none)) = sym (ap all_variables (out_is i.inner (plain.also (i.named 0) plain.none)) ∙ append-nil vs) in
    let at : (n : Nest) → whole_command c ≡ n → formula_variables (text_of n) ≡ vs → b ≡ fold with_name a (formula_variables (text_of (whole_command c))) = λ n e o. first ∙ ap (λ ws. fold with_name a ws) (sym (ap (λ m. formula_variables (text_of m)) e ∙ o)) in
    ⊎_elim (λ e. at _ (ap whole_command e ∙ command-Nnf f) (sym same)) (λ is. ⊎_elim (λ e. at _ (ap whole_command e ∙ command-Pnf f) (sym same))
    (λ is. ⊎_elim (λ e. at _ (ap whole_command e ∙ command-Dnf f) (sym same)) (λ e. at _ (ap whole_command e ∙ command-Cnf f) (sym same)) is) is) is

pub under_numbered : (c : commands.InnerCommand) (f : written.Formula) (given : writtens.Formulas) (xs : List written.Formula) (a b d : List (List ℕ)) → (c ≡ inner.Simpl f given) ⊎ (c ≡ inner.Qe f given) → whole_formulas given ≡ all_of (map whole_formula xs)
    → IsTextNumbered (whole_formula f) a b → AreTextsNumbered (all_of (map whole_formula xs)) b d → d ≡ fold with_name a (formula_variables (text_of (whole_command c)))
under_numbered c f given xs a b d is same h k =
    let i : Holed FormulaTree = whole_formula f in
    let j : Holed FormulaTrees = whole_formulas given in
    let ns : Nests = together i.inner j.inner in
    let m : AreTextsNumbered j b d = subst (λ (l : Holed FormulaTrees). AreTextsNumbered l b d) (sym same) k in
    let n : AreNumbered ns (λ ts l. formula_variables (with_texts ts (i.named l)) ++ all_variables (all_with_texts ts (j.named (l + command_count i.inner)))) a d =
    both_numbered i.inner j.inner (λ ts l. formula_variables (with_texts ts (i.named l))) (λ ts l. all_variables (all_with_texts ts (j.named l))) a b d (λ before after l e. h.at before after l e) (λ before after l e. m.at before after l e) in
    let zeros : 0 + command_count i.inner ≡ command_count i.inner = omega arith in
    let all : d ≡ fold with_name a (all_variables (all_with_texts (texts_of ns) (plain.also (i.named 0) (j.named (command_count i.inner))))) =
    n [] [] 0 refl ∙ ap₂ (λ ts l. fold with_name a (all_variables (all_with_texts ts (plain.also (i.named 0) (j.named l))))) (append-nil (texts_of ns)) zeros in
    let out : all_variables (written_out ns (plain.also (i.named 0) (j.named (command_count i.inner)))) ≡ all_variables (all_with_texts (texts_of ns) (plain.also (i.named 0) (j.named (command_count i.inner)))) = ap all_variables (out_is ns (plain.also (i.named 0) (j.named (command_count i.inner)))) in
    let at : (l : Nest) → whole_command c ≡ l → formula_variables (text_of l) ≡ all_variables (all_with_texts (texts_of ns) (plain.also (i.named 0) (j.named (command_count i.inner)))) → d ≡ fold with_name a (formula_variables (text_of (whole_command c))) = λ l e o.
    all ∙ ap (λ ws. fold with_name a ws) (sym (ap (λ m. formula_variables (text_of m)) e ∙ o)) in
    ⊎_elim (λ e. at _ (ap whole_command e ∙ command-Simpl f given) out) (λ e. at _ (ap whole_command e ∙ command-Qe f given) out) is

-- ---- the whole

pub whole_numbered : (f : written.Formula) (a b : List (List ℕ)) → IsTextNumbered (whole_formula f) a b → b ≡ fold with_name a (text_variables f)
unfolding text_variables inner_of named_tree
whole_numbered f a b h =
    let i : Holed FormulaTree = whole_formula f in
    let vs : List (List ℕ) = formula_variables (with_texts (texts_of i.inner) (i.named 0)) in
    h.at [] [] 0 refl ∙ ap (λ ts. fold with_name a (formula_variables (with_texts ts (i.named 0)))) (append-nil (texts_of i.inner))
    ∙ ap (λ ws. fold with_name a ws) (sym (ap all_variables (out_is i.inner (plain.also (i.named 0) plain.none)) ∙ append-nil vs))

-- ---- where it may end early

pub ok_map : {T E : Type 0} {P Q : Type 0} (r : Result T E) → (P → Q) → OnOk r P → OnOk r Q
ok_map (Ok x) f h = f h
ok_map (Err e) f h = h

pub grows_to : (a b c : List (List ℕ)) (x : List ℕ) → Grows a b → c ≡ with_name b x → Grows a c
grows_to a b c x g e = subst (λ (z : List (List ℕ)). Grows a z) (sym e) (grows_then a b (with_name b x) g (grows_with b x))
