-- Each statement that is read is spelled by the grammar.
use Rattle.std.proofs.Common.{◌≡◌, ℕ, zero, suc, Bool, true, false, List, [], ◌∷◌, length, sym, refl, ap, ◌∙◌, subst}
use Rattle.std.specs.Prelude.{Option, Some, None, pos, if◌then◌else◌}
use Rattle.language_meaning.specs.declared.tree.Literal.{Literal}
use Rattle.language_meaning.specs.declared.tree.Literal.TheVariants.{Fits}
use Rattle.language_meaning.specs.declared.tree.Relation.{Relation}
use Rattle.language_meaning.specs.declared.tree.Relation.TheVariants.{Equal}
use Rattle.language_meaning.specs.declared.entries.PointEntry.{PointEntry}
use Rattle.language_meaning.specs.declared.grid.Ratio.{Ratio}
use Rattle.language_meaning.specs.declared.grid.GridAxis.{GridAxis}
use Rattle.language_meaning.specs.Constraints.{is_constraint, is_weak_constraint}
use Rattle.language_meaning.specs.Trees.{TermTree}
use Rattle.language_meaning.specs.Holes.{all_of}
use Rattle.language_meaning.specs.Statements.{CommandTree, Holds, Sample, Grid, Certify, Check, Least, ActionTree, Ignored, Finish, Choose, Say, Retract, StatementTree}
use Rattle.language_meaning.specs.Inner.{WithInner, bare, around, about, about_all}
use Rattle.language_meaning.specs.declared.inner_word.InnerWord.{InnerWord}
use Rattle.language_meaning.specs.declared.terminal.Terminal.{Terminal}
use Rattle.language_meaning.specs.declared.terminal.Terminal.TheVariants as terminal
use Rattle.language_meaning.specs.declared.terminal.Mark.{Mark}
use Rattle.language_meaning.specs.declared.terminal.Mark.TheVariants as mark
use Rattle.language_meaning.specs.declared.terminal.Word.{Word}
use Rattle.language_meaning.specs.declared.terminal.Word.TheVariants as word
use Rattle.redlog_reader.specs.Machine.{term_of, formula_of, Wants, run}
use Rattle.language_meaning.specs.Grammar.{Written, inner_word, SpellsSum, IsRelation, relation_sign, relation_word, SpellsComparison, comparison, SpellsCongruence, SpellsAtom, compared_atom, congruent_atom, SpellsPrime, truth, falsity, named_formula, congruence, inner_formula, exists, for_all, inner_command, inner_under, SpellsFormula, setting_of, IsAny, any_name, any_word, SpellsAnys, last_any, more_anys, Above, unsigned, opposed, Below, one, divided, SpellsEntry, entry, Listed, last_item, more_items, Braced, empty, listed, SpellsPoint, SpellsAtoms, SpellsArgument, alone, under, SpellsResult, resulting, SpellsRatio, ratio, SpellsAxis, axis, SpellsBound, bound, SpellsBounds, SpellsWeak, weak, SpellsWeaks, SpellsWholes, qea, holds, witness, grid, certify, check, least, SpellsAction, assign, result, query, choose, load, on, off, assume, retract, end, bye, quit, end_mark, SpellsStatement, nothing, acting}
use Rattle.redlog_reader.specs.Reader.{on_some, after_mark, formula_read, sum_read, relation_of, relation_read, comparison_read, begins_congruence, atom_read, bound_read, weak_read, listed_read, items_read, braced_read, number_read, above_read, below_read, name_read, after_equal, entry_read, ratio_read, axis_read, argument_read, pointed_read, grid_read, certified_read, checked_read, least_read, result_read, is_any, anys_read, ignored_read, said, action_from, action_read, ending, statement_read}
use Rattle.redlog_reader.specs.Reader as reader
use Rattle.redlog_tokens.proofs.ProperTokens.{AreProperTerminals}
use Rattle.redlog_reader.proofs.Proper.{proper_above, proper_entry, proper_formula, proper_ratio, proper_axis, proper_bounds}
use Rattle.redlog_reader.proofs.CompleteStatements.{negated_done}
use Rattle.redlog_reader.proofs.SoundSteps.{FormulaAt, term_raise, formula_raise}
use Rattle.redlog_reader.proofs.Sound.{Sound, read_sound}

some_of : {X Y : Type 0} (o : Option X) (f : X → Option Y) (y : Y) → on_some o f None ≡ Some y → (x : X) × (o ≡ Some x) × (f x ≡ Some y)
some_of None f y e = absurd (let no : ⊥ = cc in no)
some_of (Some x) f y e = (x, refl, e)

-- one of two ways
either : {X Y : Type 0} {P : Type 0} (o : Option X) (f : X → Option Y) (other : Option Y) (y : Y) → on_some o f other ≡ Some y → ((x : X) → o ≡ Some x → f x ≡ Some y → P) → (o ≡ None → other ≡ Some y → P) → P
either None f other y e g h = h refl e
either (Some x) f other y e g h = g x refl e

pair_of : {X Y : Type 0} {x u : X} {y v : Y} → (let p : X × Y = (x, y) in let q : X × Y = (u, v) in Some p ≡ Some q) → (x ≡ u) × (y ≡ v)
pair_of {X = X} {Y = Y} {x = x} {u = u} {y = y} {v = v} e =
    let same : (let p : X × Y = (x, y) in let q : X × Y = (u, v) in p ≡ q) = cc in
    (ap (λ (p : X × Y). p.0) same, ap (λ (p : X × Y). p.1) same)

same_some : {X : Type 0} {x y : X} → Some x ≡ Some y → x ≡ y
same_some e = cc

formula_sound : (goal : ℕ) (ts rest : List Terminal) (f : Written) → formula_read goal ts ≡ Some (f, rest) → FormulaAt goal ts f rest
formula_sound goal ts rest f e =
    let ran = some_of (run goal ts [] Wants) _ (f, rest) e in
    let form = some_of (formula_of ran.0.0) _ (f, rest) ran.2 in
    let same = pair_of form.2 in
    let sound : Sound goal ts (Some ran.0) = subst (Sound goal ts) ran.1 (read_sound goal ts) in
    subst (λ v. FormulaAt goal ts f v) same.1 (formula_raise sound.0 goal ts ran.0.1 f sound.2 (sound.1.formula f (form.1 ∙ ap Some same.0)))

sum_sound : (ts rest : List Terminal) (t : TermTree) → sum_read ts ≡ Some (t, rest) → SpellsSum ts t rest
sum_sound ts rest t e =
    let ran = some_of (run 2 ts [] Wants) _ (t, rest) e in
    let form = some_of (term_of ran.0.0) _ (t, rest) ran.2 in
    let same = pair_of form.2 in
    let sound : Sound 2 ts (Some ran.0) = subst (Sound 2 ts) ran.1 (read_sound 2 ts) in
    subst (λ v. SpellsSum ts t v) same.1 (term_raise sound.0 2 ts ran.0.1 t sound.2 (sound.1.term t (form.1 ∙ ap Some same.0)))

sound_Open : (ts us : List Terminal) → after_mark mark.Open ts ≡ Some us → ts ≡ terminal.Mark mark.Open ∷ us
sound_Open [] us e = absurd (let no : ⊥ = cc in no)
sound_Open (terminal.Mark mark.Open ∷ ts) us e = ap (λ v. terminal.Mark mark.Open ∷ v) (same_some e)
sound_Open (t ∷ ts) us e = absurd (let no : ⊥ = cc in no)

sound_Close : (ts us : List Terminal) → after_mark mark.Close ts ≡ Some us → ts ≡ terminal.Mark mark.Close ∷ us
sound_Close [] us e = absurd (let no : ⊥ = cc in no)
sound_Close (terminal.Mark mark.Close ∷ ts) us e = ap (λ v. terminal.Mark mark.Close ∷ v) (same_some e)
sound_Close (t ∷ ts) us e = absurd (let no : ⊥ = cc in no)

sound_Comma : (ts us : List Terminal) → after_mark mark.Comma ts ≡ Some us → ts ≡ terminal.Mark mark.Comma ∷ us
sound_Comma [] us e = absurd (let no : ⊥ = cc in no)
sound_Comma (terminal.Mark mark.Comma ∷ ts) us e = ap (λ v. terminal.Mark mark.Comma ∷ v) (same_some e)
sound_Comma (t ∷ ts) us e = absurd (let no : ⊥ = cc in no)

sound_OpenBrace : (ts us : List Terminal) → after_mark mark.OpenBrace ts ≡ Some us → ts ≡ terminal.Mark mark.OpenBrace ∷ us
sound_OpenBrace [] us e = absurd (let no : ⊥ = cc in no)
sound_OpenBrace (terminal.Mark mark.OpenBrace ∷ ts) us e = ap (λ v. terminal.Mark mark.OpenBrace ∷ v) (same_some e)
sound_OpenBrace (t ∷ ts) us e = absurd (let no : ⊥ = cc in no)

sound_CloseBrace : (ts us : List Terminal) → after_mark mark.CloseBrace ts ≡ Some us → ts ≡ terminal.Mark mark.CloseBrace ∷ us
sound_CloseBrace [] us e = absurd (let no : ⊥ = cc in no)
sound_CloseBrace (terminal.Mark mark.CloseBrace ∷ ts) us e = ap (λ v. terminal.Mark mark.CloseBrace ∷ v) (same_some e)
sound_CloseBrace (t ∷ ts) us e = absurd (let no : ⊥ = cc in no)

sound_Minus : (ts us : List Terminal) → after_mark mark.Minus ts ≡ Some us → ts ≡ terminal.Mark mark.Minus ∷ us
sound_Minus [] us e = absurd (let no : ⊥ = cc in no)
sound_Minus (terminal.Mark mark.Minus ∷ ts) us e = ap (λ v. terminal.Mark mark.Minus ∷ v) (same_some e)
sound_Minus (t ∷ ts) us e = absurd (let no : ⊥ = cc in no)

sound_Slash : (ts us : List Terminal) → after_mark mark.Slash ts ≡ Some us → ts ≡ terminal.Mark mark.Slash ∷ us
sound_Slash [] us e = absurd (let no : ⊥ = cc in no)
sound_Slash (terminal.Mark mark.Slash ∷ ts) us e = ap (λ v. terminal.Mark mark.Slash ∷ v) (same_some e)
sound_Slash (t ∷ ts) us e = absurd (let no : ⊥ = cc in no)

sound_Assign : (ts us : List Terminal) → after_mark mark.Assign ts ≡ Some us → ts ≡ terminal.Mark mark.Assign ∷ us
sound_Assign [] us e = absurd (let no : ⊥ = cc in no)
sound_Assign (terminal.Mark mark.Assign ∷ ts) us e = ap (λ v. terminal.Mark mark.Assign ∷ v) (same_some e)
sound_Assign (t ∷ ts) us e = absurd (let no : ⊥ = cc in no)

sound_Semicolon : (ts us : List Terminal) → after_mark mark.Semicolon ts ≡ Some us → ts ≡ terminal.Mark mark.Semicolon ∷ us
sound_Semicolon [] us e = absurd (let no : ⊥ = cc in no)
sound_Semicolon (terminal.Mark mark.Semicolon ∷ ts) us e = ap (λ v. terminal.Mark mark.Semicolon ∷ v) (same_some e)
sound_Semicolon (t ∷ ts) us e = absurd (let no : ⊥ = cc in no)

sound_Dollar : (ts us : List Terminal) → after_mark mark.Dollar ts ≡ Some us → ts ≡ terminal.Mark mark.Dollar ∷ us
sound_Dollar [] us e = absurd (let no : ⊥ = cc in no)
sound_Dollar (terminal.Mark mark.Dollar ∷ ts) us e = ap (λ v. terminal.Mark mark.Dollar ∷ v) (same_some e)
sound_Dollar (t ∷ ts) us e = absurd (let no : ⊥ = cc in no)

relation_sound : (t : Terminal) (r : Relation) → relation_of t ≡ Some r → IsRelation t r
relation_sound (terminal.Relation q) r e = subst (λ x. IsRelation (terminal.Relation x) r) (sym (same_some e)) relation_sign
relation_sound (terminal.Word word.Neq) r e = subst (λ x. IsRelation (terminal.Word word.Neq) x) (same_some e) relation_word
relation_sound t r e = absurd (let no : ⊥ = cc in no)

relation_at : (ts us : List Terminal) (r : Relation) → relation_read ts ≡ Some (r, us) → (t : Terminal) × (ts ≡ t ∷ us) × IsRelation t r
relation_at [] us r e = absurd (let no : ⊥ = cc in no)
relation_at (t ∷ ts) us r e =
    let found = some_of (relation_of t) _ (r, us) e in
    let same = pair_of found.2 in
    (t, ap (λ v. t ∷ v) same.1, relation_sound t r (found.1 ∙ ap Some same.0))

comparison_sound : (ts rest : List Terminal) (f : Written) → comparison_read ts ≡ Some (f, rest) → SpellsComparison ts f rest
comparison_sound ts rest f e =
    let left = some_of (sum_read ts) _ (f, rest) e in
    let sign = some_of (relation_read left.0.1) _ (f, rest) left.2 in
    let right = some_of (sum_read sign.0.1) _ (f, rest) sign.2 in
    let same = pair_of right.2 in
    let at = relation_at left.0.1 sign.0.1 sign.0.0 sign.1 in
    subst (λ g. SpellsComparison ts g rest) same.0
    (comparison (subst (λ v. SpellsSum ts left.0.0 v) at.1 (sum_sound ts left.0.1 left.0.0 left.1)) at.2
    (subst (λ v. SpellsSum sign.0.1 right.0.0 v) same.1 (sum_sound sign.0.1 right.0.1 right.0.0 right.1)))

no_congruence : (w : Word) (i : InnerWord) (ts : List Terminal) → inner_word w ≡ Some i → begins_congruence (terminal.Word w ∷ ts) ≡ true → ⊥
no_congruence word.Cong i ts is b = cc
no_congruence word.Ncong i ts is b = cc
no_congruence w i ts is b = cc

congruence_only : (ts rest : List Terminal) (f : Written) → begins_congruence ts ≡ true → SpellsPrime ts f rest → SpellsCongruence ts f rest
congruence_only ts rest f b (congruence p) = p
congruence_only ts rest f b truth = absurd (let no : ⊥ = cc in no)
congruence_only ts rest f b falsity = absurd (let no : ⊥ = cc in no)
congruence_only ts rest f b named_formula = absurd (let no : ⊥ = cc in no)
congruence_only ts rest f b (inner_formula p) = absurd (let no : ⊥ = cc in no)
congruence_only ts rest f b (exists p q is) = absurd (let no : ⊥ = cc in no)
congruence_only ts rest f b (for_all p q is) = absurd (let no : ⊥ = cc in no)
congruence_only ts rest f b (inner_command {w = w} {i = i} {ts = us} named p is) = absurd (no_congruence w i us named b)
congruence_only ts rest f b (inner_under {w = w} {i = i} {ts = us} named takes p q is) = absurd (no_congruence w i (terminal.Mark mark.Open ∷ us) named b)

atom_choice : (ts rest : List Terminal) (f : Written) (b : Bool) → begins_congruence ts ≡ b → (if b then formula_read 0 ts else comparison_read ts) ≡ Some (f, rest) → SpellsAtom ts f rest
atom_choice ts rest f true is e = congruent_atom (congruence_only ts rest f is (formula_sound 0 ts rest f e))
atom_choice ts rest f false is e = compared_atom (comparison_sound ts rest f e)

atom_sound : (ts rest : List Terminal) (f : Written) → atom_read ts ≡ Some (f, rest) → SpellsAtom ts f rest
atom_sound ts rest f e = atom_choice ts rest f (begins_congruence ts) refl e

module _ {X : Type 0} (read : List Terminal → Option (X × List Terminal)) (Item : List Terminal → X → List Terminal → Type 0) (P : List Terminal → Type 0)
    (sound : (ts rest : List Terminal) (x : X) → P ts → read ts ≡ Some (x, rest) → Item ts x rest) (kept : (ts rest : List Terminal) (x : X) → P ts → Item ts x rest → P rest)
    (past : (us : List Terminal) → P (terminal.Mark mark.Comma ∷ us) → P us) where
  listed_sound : (n : ℕ) (ts rest : List Terminal) (xs : List X) → P ts → listed_read read n ts ≡ Some (xs, rest) → Listed Item ts xs rest
  listed_sound zero ts rest xs good e = absurd (let no : ⊥ = cc in no)
  listed_sound (suc n) ts rest xs good e =
      let first = some_of (read ts) _ (xs, rest) e in
      let item : Item ts first.0.0 first.0.1 = sound ts first.0.1 first.0.0 good first.1 in
      either {P = Listed Item ts xs rest} (after_mark mark.Comma first.0.1) _ (Some (first.0.0 ∷ [], first.0.1)) (xs, rest) first.2
      (λ us at f.
      let more = some_of (listed_read read n us) _ (xs, rest) f in
      let same = pair_of more.2 in
      let comma = sound_Comma first.0.1 us at in
      let later : Listed Item us more.0.0 more.0.1 = listed_sound n us more.0.1 more.0.0 (past us (subst P comma (kept ts first.0.1 first.0.0 good item))) more.1 in
      subst (λ ys. Listed Item ts ys rest) same.0 (more_items (subst (λ v. Item ts first.0.0 v) comma item) (subst (λ v. Listed Item us more.0.0 v) same.1 later)))
      (λ none f.
      let same = pair_of f in
      subst (λ ys. Listed Item ts ys rest) same.0 (last_item (subst (λ v. Item ts first.0.0 v) same.1 item)))

  braced_sound : (ts rest : List Terminal) (xs : List X) → ((us : List Terminal) → P (terminal.Mark mark.OpenBrace ∷ us) → P us) → P ts → braced_read read ts ≡ Some (xs, rest) → Braced Item ts xs rest
  braced_sound ts rest xs inside good e =
      let start = some_of (after_mark mark.OpenBrace ts) _ (xs, rest) e in
      let opened = sound_OpenBrace ts start.0 start.1 in
      subst (λ v. Braced Item v xs rest) (sym opened)
      (either {P = Braced Item (terminal.Mark mark.OpenBrace ∷ start.0) xs rest} (after_mark mark.CloseBrace start.0) _ _ (xs, rest) start.2
      (λ vs at f.
      let same = pair_of f in
      let ended = sound_CloseBrace start.0 vs at ∙ ap (λ v. terminal.Mark mark.CloseBrace ∷ v) same.1 in
      subst (λ v. Braced Item (terminal.Mark mark.OpenBrace ∷ v) xs rest) (sym ended) (subst (λ ys. Braced Item (terminal.Mark mark.OpenBrace ∷ terminal.Mark mark.CloseBrace ∷ rest) ys rest) same.0 empty))
      (λ none f.
      let items = some_of (items_read read start.0) _ (xs, rest) f in
      let close = some_of (after_mark mark.CloseBrace items.0.1) _ (xs, rest) items.2 in
      let same = pair_of close.2 in
      let ended = sound_CloseBrace items.0.1 close.0 close.1 ∙ ap (λ v. terminal.Mark mark.CloseBrace ∷ v) same.1 in
      listed (subst (λ ys. Listed Item start.0 ys (terminal.Mark mark.CloseBrace ∷ rest)) same.0
      (subst (λ v. Listed Item start.0 items.0.0 v) ended (listed_sound (suc (length start.0)) start.0 items.0.1 items.0.0 (inside start.0 (subst P opened good)) items.1)))))

atoms_sound : (ts rest : List Terminal) (fs : List Written) → braced_read atom_read ts ≡ Some (fs, rest) → SpellsAtoms ts fs rest
atoms_sound ts rest fs e = braced_sound atom_read SpellsAtom (λ ts. Unit {0}) (λ us r f good h. atom_sound us r f h) (λ us r f good h. tt) (λ us h. tt) ts rest fs (λ us h. tt) tt e

number_sound : (ts rest : List Terminal) (n : Literal) → number_read ts ≡ Some (n, rest) → ts ≡ terminal.Number n ∷ rest
number_sound [] rest n e = absurd (let no : ⊥ = cc in no)
number_sound (terminal.Number m ∷ ts) rest n e = let same = pair_of e in (λ i. terminal.Number (same.0 i) ∷ same.1 i)
number_sound (t ∷ ts) rest n e = absurd (let no : ⊥ = cc in no)

name_sound : (ts rest : List Terminal) (x : List ℕ) → name_read ts ≡ Some (x, rest) → ts ≡ terminal.Name x ∷ rest
name_sound [] rest n e = absurd (let no : ⊥ = cc in no)
name_sound (terminal.Name m ∷ ts) rest n e = let same = pair_of e in (λ i. terminal.Name (same.0 i) ∷ same.1 i)
name_sound (t ∷ ts) rest n e = absurd (let no : ⊥ = cc in no)

equal_sound : (ts us : List Terminal) → after_equal ts ≡ Some us → ts ≡ terminal.Relation Equal ∷ us
equal_sound [] us e = absurd (let no : ⊥ = cc in no)
equal_sound (terminal.Relation Equal ∷ ts) us e = ap (λ v. terminal.Relation Equal ∷ v) (same_some e)
equal_sound (t ∷ ts) us e = absurd (let no : ⊥ = cc in no)

above_sound : (ts rest : List Terminal) (n : Literal) → AreProperTerminals ts → above_read ts ≡ Some (n, rest) → Above ts n rest
above_sound ts rest n good e = either {P = Above ts n rest} (after_mark mark.Minus ts) _ (number_read ts) (n, rest) e
    (λ us at f.
    let found = some_of (number_read us) _ (n, rest) f in
    let same = pair_of found.2 in
    let begins = sound_Minus ts us at ∙ ap (λ v. terminal.Mark mark.Minus ∷ v) (number_sound us found.0.1 found.0.0 found.1) in
    let numeral : AreProperTerminals (terminal.Mark mark.Minus ∷ terminal.Number found.0.0 ∷ found.0.1) = subst AreProperTerminals begins good in
    subst (λ v. Above v n rest) (sym begins) (subst (λ v. Above (terminal.Mark mark.Minus ∷ terminal.Number found.0.0 ∷ found.0.1) n v) same.1 (opposed (sym same.0 ∙ negated_done found.0.0 numeral.0))))
    (λ none f. subst (λ v. Above v n rest) (sym (number_sound ts rest n f)) unsigned)

below_sound : (ts rest : List Terminal) (n : Literal) → below_read ts ≡ Some (n, rest) → Below ts n rest
below_sound ts rest n e = either {P = Below ts n rest} (after_mark mark.Slash ts) number_read (Some (Fits (pos 1), ts)) (n, rest) e
    (λ us at f. subst (λ v. Below v n rest) (sym (sound_Slash ts us at ∙ ap (λ v. terminal.Mark mark.Slash ∷ v) (number_sound us rest n f))) divided)
    (λ none f. let same = pair_of f in subst (λ k. Below ts k rest) same.0 (subst (λ v. Below ts (Fits (pos 1)) v) same.1 one))

entry_sound : (ts rest : List Terminal) (e : PointEntry) → AreProperTerminals ts → entry_read ts ≡ Some (e, rest) → SpellsEntry ts e rest
entry_sound ts rest e good is =
    let name = some_of (name_read ts) _ (e, rest) is in
    let equals = some_of (after_equal name.0.1) _ (e, rest) name.2 in
    let above = some_of (above_read equals.0) _ (e, rest) equals.2 in
    let below = some_of (below_read above.0.1) _ (e, rest) above.2 in
    let same = pair_of below.2 in
    let begins = name_sound ts name.0.1 name.0.0 name.1 ∙ ap (λ v. terminal.Name name.0.0 ∷ v) (equal_sound name.0.1 equals.0 equals.1) in
    let proper : AreProperTerminals (terminal.Name name.0.0 ∷ terminal.Relation Equal ∷ equals.0) = subst AreProperTerminals begins good in
    subst (λ v. SpellsEntry v e rest) (sym begins)
    (entry (ap (λ d. d.name) same.0)
    (subst (λ k. Above equals.0 k above.0.1) (ap (λ d. d.above) same.0) (above_sound equals.0 above.0.1 above.0.0 proper.1 above.1))
    (subst (λ k. Below above.0.1 k rest) (ap (λ d. d.below) same.0) (subst (λ v. Below above.0.1 below.0.0 v) same.1 (below_sound above.0.1 below.0.1 below.0.0 below.1))))

entries_sound : (ts rest : List Terminal) (es : List PointEntry) → AreProperTerminals ts → braced_read entry_read ts ≡ Some (es, rest) → SpellsPoint ts es rest
entries_sound ts rest es good e = braced_sound entry_read SpellsEntry AreProperTerminals entry_sound (λ us r x h p. (proper_entry p h).1) (λ us h. h) ts rest es (λ us h. h) good e

argument_sound : (ts rest : List Terminal) (f : Written) (given : List Written) → argument_read ts ≡ Some ((f, given), rest) → SpellsArgument ts f given rest
argument_sound ts rest f given e = either {P = SpellsArgument ts f given rest} (after_mark mark.Open ts) _ _ ((f, given), rest) e
    (λ us at i.
    let opened = sound_Open ts us at in
    let form = some_of (formula_read 8 us) _ ((f, given), rest) i in
    let spelled : SpellsFormula us form.0.0 form.0.1 = formula_sound 8 us form.0.1 form.0.0 form.1 in
    subst (λ v. SpellsArgument v f given rest) (sym opened)
    (either {P = SpellsArgument (terminal.Mark mark.Open ∷ us) f given rest} (after_mark mark.Close form.0.1) _ _ ((f, given), rest) form.2
    (λ vs close j.
    let same = pair_of j in
    let parts = pair_of (ap Some same.0) in
    let ended = sound_Close form.0.1 vs close ∙ ap (λ v. terminal.Mark mark.Close ∷ v) same.1 in
    subst (λ gs. SpellsArgument (terminal.Mark mark.Open ∷ us) f gs rest) parts.1
    (alone (inner_formula (subst (λ g. SpellsFormula us g (terminal.Mark mark.Close ∷ rest)) parts.0 (subst (λ v. SpellsFormula us form.0.0 v) ended spelled)))))
    (λ none j.
    let comma = some_of (after_mark mark.Comma form.0.1) _ ((f, given), rest) j in
    let atoms = some_of (braced_read atom_read comma.0) _ ((f, given), rest) comma.2 in
    let close = some_of (after_mark mark.Close atoms.0.1) _ ((f, given), rest) atoms.2 in
    let same = pair_of close.2 in
    let parts = pair_of (ap Some same.0) in
    let ended = sound_Close atoms.0.1 close.0 close.1 ∙ ap (λ v. terminal.Mark mark.Close ∷ v) same.1 in
    under (subst (λ g. SpellsFormula us g (terminal.Mark mark.Comma ∷ comma.0)) parts.0 (subst (λ v. SpellsFormula us form.0.0 v) (sound_Comma form.0.1 comma.0 comma.1) spelled))
    (subst (λ gs. SpellsAtoms comma.0 gs (terminal.Mark mark.Close ∷ rest)) parts.1 (subst (λ v. SpellsAtoms comma.0 atoms.0.0 v) ended (atoms_sound comma.0 atoms.0.1 atoms.0.0 atoms.1))))))
    (λ none i.
    let form = some_of (formula_read 0 ts) _ ((f, given), rest) i in
    let same = pair_of form.2 in
    let parts = pair_of (ap Some same.0) in
    let spelled : SpellsPrime ts form.0.0 form.0.1 = formula_sound 0 ts form.0.1 form.0.0 form.1 in
    subst (λ gs. SpellsArgument ts f gs rest) parts.1 (alone (subst (λ g. SpellsPrime ts g rest) parts.0 (subst (λ v. SpellsPrime ts form.0.0 v) same.1 spelled))))

-- a formula and a point in brackets
abbrev Pointed : List Terminal → Written → List PointEntry → List Terminal → Type 0
Pointed ts f es rest = (us : List Terminal) × (vs : List Terminal) × (ts ≡ terminal.Mark mark.Open ∷ us) × SpellsFormula us f (terminal.Mark mark.Comma ∷ vs) × SpellsPoint vs es (terminal.Mark mark.Close ∷ rest)

pointed_sound : (ts rest : List Terminal) (f : Written) (es : List PointEntry) → AreProperTerminals ts → pointed_read ts ≡ Some ((f, es), rest) → Pointed ts f es rest
pointed_sound ts rest f es good e =
    let start = some_of (after_mark mark.Open ts) _ ((f, es), rest) e in
    let opened = sound_Open ts start.0 start.1 in
    let form = some_of (formula_read 8 start.0) _ ((f, es), rest) start.2 in
    let comma = some_of (after_mark mark.Comma form.0.1) _ ((f, es), rest) form.2 in
    let point = some_of (braced_read entry_read comma.0) _ ((f, es), rest) comma.2 in
    let close = some_of (after_mark mark.Close point.0.1) _ ((f, es), rest) point.2 in
    let same = pair_of close.2 in
    let parts = pair_of (ap Some same.0) in
    let ended = sound_Close point.0.1 close.0 close.1 ∙ ap (λ v. terminal.Mark mark.Close ∷ v) same.1 in
    let spelled : SpellsFormula start.0 form.0.0 (terminal.Mark mark.Comma ∷ comma.0) = subst (λ v. SpellsFormula start.0 form.0.0 v) (sound_Comma form.0.1 comma.0 comma.1) (formula_sound 8 start.0 form.0.1 form.0.0 form.1) in
    let inner : AreProperTerminals start.0 = subst AreProperTerminals opened good in
    let left : AreProperTerminals comma.0 = (proper_formula spelled inner).1 in (
      start.0,
      comma.0,
      opened,
      subst (λ g. SpellsFormula start.0 g (terminal.Mark mark.Comma ∷ comma.0)) parts.0 spelled,
      subst (λ gs. SpellsPoint comma.0 gs (terminal.Mark mark.Close ∷ rest)) parts.1 (subst (λ v. SpellsPoint comma.0 point.0.0 v) ended (entries_sound comma.0 point.0.1 point.0.0 left point.1)),
    )

ratio_sound : (last : Mark) → ((us vs : List Terminal) → after_mark last us ≡ Some vs → us ≡ terminal.Mark last ∷ vs)
    → (ts rest : List Terminal) (r : Ratio) → AreProperTerminals ts → ratio_read last ts ≡ Some (r, rest) → SpellsRatio ts r (terminal.Mark last ∷ rest)
ratio_sound last ends ts rest r good e =
    let above = some_of (above_read ts) _ (r, rest) e in
    let below = some_of (below_read above.0.1) _ (r, rest) above.2 in
    let close = some_of (after_mark last below.0.1) _ (r, rest) below.2 in
    let same = pair_of close.2 in
    let ended = ends below.0.1 close.0 close.1 ∙ ap (λ v. terminal.Mark last ∷ v) same.1 in
    ratio (subst (λ k. Above ts k above.0.1) (ap (λ d. d.above) same.0) (above_sound ts above.0.1 above.0.0 good above.1))
    (subst (λ k. Below above.0.1 k (terminal.Mark last ∷ rest)) (ap (λ d. d.below) same.0) (subst (λ v. Below above.0.1 below.0.0 v) ended (below_sound above.0.1 below.0.1 below.0.0 below.1)))

axis_sound : (ts rest : List Terminal) (a : GridAxis) → AreProperTerminals ts → axis_read ts ≡ Some (a, rest) → SpellsAxis ts a rest
axis_sound ts rest a good e =
    let start = some_of (after_mark mark.OpenBrace ts) _ (a, rest) e in
    let name = some_of (name_read start.0) _ (a, rest) start.2 in
    let comma = some_of (after_mark mark.Comma name.0.1) _ (a, rest) name.2 in
    let low = some_of (ratio_read mark.Comma comma.0) _ (a, rest) comma.2 in
    let high = some_of (ratio_read mark.Comma low.0.1) _ (a, rest) low.2 in
    let step = some_of (ratio_read mark.CloseBrace high.0.1) _ (a, rest) high.2 in
    let same = pair_of step.2 in
    let named = name_sound start.0 name.0.1 name.0.0 name.1 ∙ ap (λ v. terminal.Name name.0.0 ∷ v) (sound_Comma name.0.1 comma.0 comma.1) in
    let begins = sound_OpenBrace ts start.0 start.1 ∙ ap (λ v. terminal.Mark mark.OpenBrace ∷ v) named in
    let proper : AreProperTerminals (terminal.Mark mark.OpenBrace ∷ terminal.Name name.0.0 ∷ terminal.Mark mark.Comma ∷ comma.0) = subst AreProperTerminals begins good in
    let first : SpellsRatio comma.0 low.0.0 (terminal.Mark mark.Comma ∷ low.0.1) = ratio_sound mark.Comma sound_Comma comma.0 low.0.1 low.0.0 proper.1 low.1 in
    let later : AreProperTerminals low.0.1 = (proper_ratio first proper.1).1 in
    let second : SpellsRatio low.0.1 high.0.0 (terminal.Mark mark.Comma ∷ high.0.1) = ratio_sound mark.Comma sound_Comma low.0.1 high.0.1 high.0.0 later high.1 in
    let latest : AreProperTerminals high.0.1 = (proper_ratio second later).1 in
    let third : SpellsRatio high.0.1 step.0.0 (terminal.Mark mark.CloseBrace ∷ step.0.1) = ratio_sound mark.CloseBrace sound_CloseBrace high.0.1 step.0.1 step.0.0 latest step.1 in
    subst (λ v. SpellsAxis v a rest) (sym begins)
    (axis (ap (λ d. d.name) same.0)
    (subst (λ k. SpellsRatio comma.0 k (terminal.Mark mark.Comma ∷ low.0.1)) (ap (λ d. d.low) same.0) first)
    (subst (λ k. SpellsRatio low.0.1 k (terminal.Mark mark.Comma ∷ high.0.1)) (ap (λ d. d.high) same.0) second)
    (subst (λ k. SpellsRatio high.0.1 k (terminal.Mark mark.CloseBrace ∷ rest)) (ap (λ d. d.step) same.0) (subst (λ v. SpellsRatio high.0.1 step.0.0 (terminal.Mark mark.CloseBrace ∷ v)) same.1 third)))

axes_sound : (ts rest : List Terminal) (axes : List GridAxis) → AreProperTerminals ts → items_read axis_read ts ≡ Some (axes, rest) → Listed SpellsAxis ts axes rest
axes_sound ts rest axes good e = listed_sound axis_read SpellsAxis AreProperTerminals axis_sound (λ us r x h p. (proper_axis p h).1) (λ us h. h) (suc (length ts)) ts rest axes good e

-- a formula and axes in brackets
abbrev Gridded : List Terminal → Written → List GridAxis → List Terminal → Type 0
Gridded ts f axes rest = (us : List Terminal) × (vs : List Terminal) × (ts ≡ terminal.Mark mark.Open ∷ us) × SpellsFormula us f (terminal.Mark mark.Comma ∷ vs) × Listed SpellsAxis vs axes (terminal.Mark mark.Close ∷ rest)

grid_sound : (ts rest : List Terminal) (f : Written) (axes : List GridAxis) → AreProperTerminals ts → grid_read ts ≡ Some ((f, axes), rest) → Gridded ts f axes rest
grid_sound ts rest f axes good e =
    let start = some_of (after_mark mark.Open ts) _ ((f, axes), rest) e in
    let opened = sound_Open ts start.0 start.1 in
    let form = some_of (formula_read 8 start.0) _ ((f, axes), rest) start.2 in
    let comma = some_of (after_mark mark.Comma form.0.1) _ ((f, axes), rest) form.2 in
    let items = some_of (items_read axis_read comma.0) _ ((f, axes), rest) comma.2 in
    let close = some_of (after_mark mark.Close items.0.1) _ ((f, axes), rest) items.2 in
    let same = pair_of close.2 in
    let parts = pair_of (ap Some same.0) in
    let ended = sound_Close items.0.1 close.0 close.1 ∙ ap (λ v. terminal.Mark mark.Close ∷ v) same.1 in
    let spelled : SpellsFormula start.0 form.0.0 (terminal.Mark mark.Comma ∷ comma.0) = subst (λ v. SpellsFormula start.0 form.0.0 v) (sound_Comma form.0.1 comma.0 comma.1) (formula_sound 8 start.0 form.0.1 form.0.0 form.1) in
    let inner : AreProperTerminals start.0 = subst AreProperTerminals opened good in
    let left : AreProperTerminals comma.0 = (proper_formula spelled inner).1 in (
      start.0,
      comma.0,
      opened,
      subst (λ g. SpellsFormula start.0 g (terminal.Mark mark.Comma ∷ comma.0)) parts.0 spelled,
      subst (λ gs. Listed SpellsAxis comma.0 gs (terminal.Mark mark.Close ∷ rest)) parts.1 (subst (λ v. Listed SpellsAxis comma.0 items.0.0 v) ended (axes_sound comma.0 items.0.1 items.0.0 left items.1)),
    )

-- a comparison that is kept meets the test
test_kept : (meets : Written → Bool) (p : Written × List Terminal) (f : Written) (rest : List Terminal) (b : Bool) → meets p.0 ≡ b → (if b then Some p else None) ≡ Some (f, rest) → (meets f ≡ true) × (p ≡ (f, rest))
test_kept meets p f rest true is e = let same = same_some e in (ap (λ (q : Written × List Terminal). meets q.0) (sym same) ∙ is, same)
test_kept meets p f rest false is e = absurd (let no : ⊥ = cc in no)

tested_sound : (meets : Written → Bool) (ts rest : List Terminal) (f : Written) → on_some (comparison_read ts) (λ p. if meets p.0 then Some p else None) None ≡ Some (f, rest) → SpellsComparison ts f rest × (meets f ≡ true)
tested_sound meets ts rest f e =
    let found = some_of (comparison_read ts) _ (f, rest) e in
    let kept = test_kept meets found.0 f rest (meets found.0.0) refl found.2 in
    (comparison_sound ts rest f (found.1 ∙ ap Some kept.1), kept.0)

bound_sound : (ts rest : List Terminal) (f : Written) → bound_read ts ≡ Some (f, rest) → SpellsBound ts f rest
bound_sound ts rest f e = let found = tested_sound (λ g. is_constraint g.tree) ts rest f e in bound found.0 found.1

bounds_sound : (ts rest : List Terminal) (fs : List Written) → braced_read bound_read ts ≡ Some (fs, rest) → SpellsBounds ts fs rest
bounds_sound ts rest fs e = braced_sound bound_read SpellsBound (λ ts. Unit {0}) (λ us r f good h. bound_sound us r f h) (λ us r f good h. tt) (λ us h. tt) ts rest fs (λ us h. tt) tt e

weak_sound : (ts rest : List Terminal) (f : Written) → weak_read ts ≡ Some (f, rest) → SpellsWeak ts f rest
weak_sound ts rest f e = let found = tested_sound (λ g. is_weak_constraint g.tree) ts rest f e in weak found.0 found.1

weaks_sound : (ts rest : List Terminal) (fs : List Written) → braced_read weak_read ts ≡ Some (fs, rest) → SpellsWeaks ts fs rest
weaks_sound ts rest fs e = braced_sound weak_read SpellsWeak (λ ts. Unit {0}) (λ us r f good h. weak_sound us r f h) (λ us r f good h. tt) (λ us h. tt) ts rest fs (λ us h. tt) tt e

wholes_sound : (ts rest : List Terminal) (ns : List Literal) → AreProperTerminals ts → braced_read above_read ts ≡ Some (ns, rest) → SpellsWholes ts ns rest
wholes_sound ts rest ns good e = braced_sound above_read Above AreProperTerminals above_sound (λ us r n h p. (proper_above p h).1) (λ us h. h) ts rest ns (λ us h. h) good e

-- constraints in brackets
abbrev Certified : List Terminal → List Written → List Terminal → Type 0
Certified ts fs rest = (us : List Terminal) × (ts ≡ terminal.Mark mark.Open ∷ us) × SpellsBounds us fs (terminal.Mark mark.Close ∷ rest)

certified_sound : (ts rest : List Terminal) (fs : List Written) → certified_read ts ≡ Some (fs, rest) → Certified ts fs rest
certified_sound ts rest fs e =
    let start = some_of (after_mark mark.Open ts) _ (fs, rest) e in
    let bounds = some_of (braced_read bound_read start.0) _ (fs, rest) start.2 in
    let close = some_of (after_mark mark.Close bounds.0.1) _ (fs, rest) bounds.2 in
    let same = pair_of close.2 in
    let ended = sound_Close bounds.0.1 close.0 close.1 ∙ ap (λ v. terminal.Mark mark.Close ∷ v) same.1 in
    let spelled : SpellsBounds start.0 bounds.0.0 (terminal.Mark mark.Close ∷ rest) = subst (λ v. SpellsBounds start.0 bounds.0.0 v) ended (bounds_sound start.0 bounds.0.1 bounds.0.0 bounds.1) in
    (start.0, sound_Open ts start.0 start.1, subst (λ gs. SpellsBounds start.0 gs (terminal.Mark mark.Close ∷ rest)) same.0 spelled)

-- constraints and multipliers in brackets
abbrev Checked : List Terminal → List Written → List Literal → List Terminal → Type 0
Checked ts fs ns rest = (us : List Terminal) × (vs : List Terminal) × (ts ≡ terminal.Mark mark.Open ∷ us) × SpellsBounds us fs (terminal.Mark mark.Comma ∷ vs) × SpellsWholes vs ns (terminal.Mark mark.Close ∷ rest)

checked_sound : (ts rest : List Terminal) (fs : List Written) (ns : List Literal) → AreProperTerminals ts → checked_read ts ≡ Some ((fs, ns), rest) → Checked ts fs ns rest
checked_sound ts rest fs ns good e =
    let start = some_of (after_mark mark.Open ts) _ ((fs, ns), rest) e in
    let opened = sound_Open ts start.0 start.1 in
    let bounds = some_of (braced_read bound_read start.0) _ ((fs, ns), rest) start.2 in
    let comma = some_of (after_mark mark.Comma bounds.0.1) _ ((fs, ns), rest) bounds.2 in
    let wholes = some_of (braced_read above_read comma.0) _ ((fs, ns), rest) comma.2 in
    let close = some_of (after_mark mark.Close wholes.0.1) _ ((fs, ns), rest) wholes.2 in
    let same = pair_of close.2 in
    let parts = pair_of (ap Some same.0) in
    let ended = sound_Close wholes.0.1 close.0 close.1 ∙ ap (λ v. terminal.Mark mark.Close ∷ v) same.1 in
    let spelled : SpellsBounds start.0 bounds.0.0 (terminal.Mark mark.Comma ∷ comma.0) = subst (λ v. SpellsBounds start.0 bounds.0.0 v) (sound_Comma bounds.0.1 comma.0 comma.1) (bounds_sound start.0 bounds.0.1 bounds.0.0 bounds.1) in
    let inner : AreProperTerminals start.0 = subst AreProperTerminals opened good in
    let left : AreProperTerminals comma.0 = (proper_bounds spelled inner).1 in (
      start.0,
      comma.0,
      opened,
      subst (λ gs. SpellsBounds start.0 gs (terminal.Mark mark.Comma ∷ comma.0)) parts.0 spelled,
      subst (λ ms. SpellsWholes comma.0 ms (terminal.Mark mark.Close ∷ rest)) parts.1 (subst (λ v. SpellsWholes comma.0 wholes.0.0 v) ended (wholes_sound comma.0 wholes.0.1 wholes.0.0 left wholes.1)),
    )

-- weak constraints and a target in brackets
abbrev Targeted : List Terminal → List Written → TermTree → List Terminal → Type 0
Targeted ts fs target rest = (us : List Terminal) × (vs : List Terminal) × (ts ≡ terminal.Mark mark.Open ∷ us) × SpellsWeaks us fs (terminal.Mark mark.Comma ∷ vs) × SpellsSum vs target (terminal.Mark mark.Close ∷ rest)

least_sound : (ts rest : List Terminal) (fs : List Written) (target : TermTree) → least_read ts ≡ Some ((fs, target), rest) → Targeted ts fs target rest
least_sound ts rest fs target e =
    let start = some_of (after_mark mark.Open ts) _ ((fs, target), rest) e in
    let weaks = some_of (braced_read weak_read start.0) _ ((fs, target), rest) start.2 in
    let comma = some_of (after_mark mark.Comma weaks.0.1) _ ((fs, target), rest) weaks.2 in
    let sum = some_of (sum_read comma.0) _ ((fs, target), rest) comma.2 in
    let close = some_of (after_mark mark.Close sum.0.1) _ ((fs, target), rest) sum.2 in
    let same = pair_of close.2 in
    let parts = pair_of (ap Some same.0) in
    let ended = sound_Close sum.0.1 close.0 close.1 ∙ ap (λ v. terminal.Mark mark.Close ∷ v) same.1 in
    let spelled : SpellsWeaks start.0 weaks.0.0 (terminal.Mark mark.Comma ∷ comma.0) = subst (λ v. SpellsWeaks start.0 weaks.0.0 v) (sound_Comma weaks.0.1 comma.0 comma.1) (weaks_sound start.0 weaks.0.1 weaks.0.0 weaks.1) in (
      start.0,
      comma.0,
      sound_Open ts start.0 start.1,
      subst (λ gs. SpellsWeaks start.0 gs (terminal.Mark mark.Comma ∷ comma.0)) parts.0 spelled,
      subst (λ t. SpellsSum comma.0 t (terminal.Mark mark.Close ∷ rest)) parts.1 (subst (λ v. SpellsSum comma.0 sum.0.0 v) ended (sum_sound comma.0 sum.0.1 sum.0.0 sum.1)),
    )

result_sound : (ts rest : List Terminal) (c : WithInner CommandTree) → result_read ts ≡ Some (c, rest) → SpellsResult ts c rest
result_sound ts rest c e =
    let form = some_of (formula_read 8 ts) _ (c, rest) e in
    let same = pair_of form.2 in
    resulting (subst (λ v. SpellsFormula ts form.0.0 v) same.1 (formula_sound 8 ts form.0.1 form.0.0 form.1)) (sym same.0)

any_sound : (t : Terminal) → is_any t ≡ true → IsAny t
any_sound (terminal.Name x) e = any_name
any_sound (terminal.Word w) e = any_word
any_sound t e = absurd (let no : ⊥ = cc in no)

any_if : (t : Terminal) (o : Option (List Terminal)) (us : List Terminal) → (if is_any t then o else None) ≡ Some us → (is_any t ≡ true) × (o ≡ Some us)
any_if (terminal.Name x) o us e = (refl, e)
any_if (terminal.Word w) o us e = (refl, e)
any_if t o us e = absurd (let no : ⊥ = cc in no)

anys_sound : (ts us : List Terminal) → anys_read ts ≡ Some us → SpellsAnys ts us
anys_sound [] us e = absurd (let no : ⊥ = cc in no)
anys_sound (t ∷ []) us e = let h = any_if t (Some []) us e in subst (λ v. SpellsAnys (t ∷ []) v) (same_some h.1) (last_any (any_sound t h.0))
anys_sound (t ∷ terminal.Mark mark.Comma ∷ ts) us e = let h = any_if t (anys_read ts) us e in more_anys (any_sound t h.0) (anys_sound ts us h.1)
anys_sound (t ∷ u ∷ ts) us e = let h = any_if t (Some (u ∷ ts)) us e in subst (λ v. SpellsAnys (t ∷ u ∷ ts) v) (same_some h.1) (last_any (any_sound t h.0))

said_sound : (ts rest : List Terminal) (o : Option (WithInner CommandTree × List Terminal)) (a : WithInner ActionTree) → ((r : List Terminal) (c : WithInner CommandTree) → o ≡ Some (c, r) → SpellsResult ts c r) → said o ≡ Some (a, rest) → SpellsAction ts a rest
said_sound ts rest o a sound e =
    let found = some_of o _ (a, rest) e in
    let same = pair_of found.2 in
    subst (λ d. SpellsAction ts d rest) same.0 (result (sound rest found.0.0 (found.1 ∙ ap (λ v. Some (found.0.0, v)) same.1)))

ignored_sound : (ts rest : List Terminal) (a : WithInner ActionTree) → ignored_read ts ≡ Some (a, rest) → SpellsAnys ts rest × (bare Ignored ≡ a)
ignored_sound ts rest a e =
    let found = some_of (anys_read ts) _ (a, rest) e in
    let same = pair_of found.2 in
    (subst (SpellsAnys ts) same.1 (anys_sound ts found.0 found.1), same.0)

action_from_sound : (w : Word) (ts rest : List Terminal) (a : WithInner ActionTree) → AreProperTerminals ts → action_from w ts ≡ Some (a, rest) → SpellsAction (terminal.Word w ∷ ts) a rest
action_from_sound word.Set ts rest a good e =
    let name = some_of (name_read ts) _ (a, rest) e in
    let setting = some_of (setting_of name.0.0) _ (a, rest) name.2 in
    let same = pair_of setting.2 in
    subst (λ v. SpellsAction (terminal.Word word.Set ∷ v) a rest) (sym (name_sound ts name.0.1 name.0.0 name.1))
    (subst (λ d. SpellsAction (terminal.Word word.Set ∷ terminal.Name name.0.0 ∷ name.0.1) d rest) same.0 (subst (λ v. SpellsAction (terminal.Word word.Set ∷ terminal.Name name.0.0 ∷ name.0.1) (bare (Choose setting.0)) v) same.1 (choose setting.1)))
action_from_sound word.Load ts rest a good e = let h = ignored_sound ts rest a e in subst (λ d. SpellsAction (terminal.Word word.Load ∷ ts) d rest) h.1 (load h.0)
action_from_sound word.On ts rest a good e = let h = ignored_sound ts rest a e in subst (λ d. SpellsAction (terminal.Word word.On ∷ ts) d rest) h.1 (on h.0)
action_from_sound word.Off ts rest a good e = let h = ignored_sound ts rest a e in subst (λ d. SpellsAction (terminal.Word word.Off ∷ ts) d rest) h.1 (off h.0)
action_from_sound word.Assume ts rest a good e =
    let found = some_of (braced_read atom_read ts) _ (a, rest) e in
    let same = pair_of found.2 in
    subst (λ d. SpellsAction (terminal.Word word.Assume ∷ ts) d rest) same.0 (assume (atoms_sound ts rest found.0.0 (found.1 ∙ ap (λ v. Some (found.0.0, v)) same.1)))
action_from_sound word.Retract ts rest a good e = let same = pair_of e in subst (λ d. SpellsAction (terminal.Word word.Retract ∷ ts) d rest) same.0 (subst (λ v. SpellsAction (terminal.Word word.Retract ∷ v) (bare Retract) rest) (sym same.1) retract)
action_from_sound word.End ts rest a good e = let same = pair_of e in subst (λ d. SpellsAction (terminal.Word word.End ∷ ts) d rest) same.0 (subst (λ v. SpellsAction (terminal.Word word.End ∷ v) (bare Finish) rest) (sym same.1) end)
action_from_sound word.Bye ts rest a good e = let same = pair_of e in subst (λ d. SpellsAction (terminal.Word word.Bye ∷ ts) d rest) same.0 (subst (λ v. SpellsAction (terminal.Word word.Bye ∷ v) (bare Finish) rest) (sym same.1) bye)
action_from_sound word.Quit ts rest a good e = let same = pair_of e in subst (λ d. SpellsAction (terminal.Word word.Quit ∷ ts) d rest) same.0 (subst (λ v. SpellsAction (terminal.Word word.Quit ∷ v) (bare Finish) rest) (sym same.1) quit)
action_from_sound word.Qea ts rest a good e =
    let found = some_of (argument_read ts) _ (a, rest) e in
    let same = pair_of found.2 in
    subst (λ d. SpellsAction (terminal.Word word.Qea ∷ ts) d rest) same.0 (query (qea (argument_sound ts rest found.0.0.0 found.0.0.1 (found.1 ∙ ap (λ v. Some (found.0.0, v)) same.1))))
action_from_sound word.Holds ts rest a good e =
    let found = some_of (pointed_read ts) _ (a, rest) e in
    let same = pair_of found.2 in
    let p = pointed_sound ts rest found.0.0.0 found.0.0.1 good (found.1 ∙ ap (λ v. Some (found.0.0, v)) same.1) in
    subst (λ d. SpellsAction (terminal.Word word.Holds ∷ ts) d rest) same.0 (subst (λ v. SpellsAction (terminal.Word word.Holds ∷ v) (around Say (about (λ t. Holds t found.0.0.1) found.0.0.0)) rest) (sym p.2) (query (holds p.3 p.4)))
action_from_sound word.Witness ts rest a good e =
    let found = some_of (pointed_read ts) _ (a, rest) e in
    let same = pair_of found.2 in
    let p = pointed_sound ts rest found.0.0.0 found.0.0.1 good (found.1 ∙ ap (λ v. Some (found.0.0, v)) same.1) in
    subst (λ d. SpellsAction (terminal.Word word.Witness ∷ ts) d rest) same.0 (subst (λ v. SpellsAction (terminal.Word word.Witness ∷ v) (around Say (about (λ t. Sample t found.0.0.1) found.0.0.0)) rest) (sym p.2) (query (witness p.3 p.4)))
action_from_sound word.Grid ts rest a good e =
    let found = some_of (grid_read ts) _ (a, rest) e in
    let same = pair_of found.2 in
    let p = grid_sound ts rest found.0.0.0 found.0.0.1 good (found.1 ∙ ap (λ v. Some (found.0.0, v)) same.1) in
    subst (λ d. SpellsAction (terminal.Word word.Grid ∷ ts) d rest) same.0 (subst (λ v. SpellsAction (terminal.Word word.Grid ∷ v) (around Say (about (λ t. Grid t found.0.0.1) found.0.0.0)) rest) (sym p.2) (query (grid p.3 p.4)))
action_from_sound word.Cert ts rest a good e =
    let found = some_of (certified_read ts) _ (a, rest) e in
    let same = pair_of found.2 in
    let p = certified_sound ts rest found.0.0 (found.1 ∙ ap (λ v. Some (found.0.0, v)) same.1) in
    subst (λ d. SpellsAction (terminal.Word word.Cert ∷ ts) d rest) same.0 (subst (λ v. SpellsAction (terminal.Word word.Cert ∷ v) (around Say (about_all Certify (all_of found.0.0))) rest) (sym p.1) (query (certify p.2)))
action_from_sound word.Check ts rest a good e =
    let found = some_of (checked_read ts) _ (a, rest) e in
    let same = pair_of found.2 in
    let p = checked_sound ts rest found.0.0.0 found.0.0.1 good (found.1 ∙ ap (λ v. Some (found.0.0, v)) same.1) in
    subst (λ d. SpellsAction (terminal.Word word.Check ∷ ts) d rest) same.0 (subst (λ v. SpellsAction (terminal.Word word.Check ∷ v) (around Say (about_all (λ fs. Check fs found.0.0.1) (all_of found.0.0.0))) rest) (sym p.2) (query (check p.3 p.4)))
action_from_sound word.Opt ts rest a good e =
    let found = some_of (least_read ts) _ (a, rest) e in
    let same = pair_of found.2 in
    let p = least_sound ts rest found.0.0.0 found.0.0.1 (found.1 ∙ ap (λ v. Some (found.0.0, v)) same.1) in
    subst (λ d. SpellsAction (terminal.Word word.Opt ∷ ts) d rest) same.0 (subst (λ v. SpellsAction (terminal.Word word.Opt ∷ v) (around Say (about_all (λ fs. Least fs found.0.0.1) (all_of found.0.0.0))) rest) (sym p.2) (query (least p.3 p.4)))
action_from_sound w ts rest a good e = said_sound (terminal.Word w ∷ ts) rest (result_read (terminal.Word w ∷ ts)) a (λ r c h. result_sound (terminal.Word w ∷ ts) r c h) e

action_sound : (ts rest : List Terminal) (a : WithInner ActionTree) → AreProperTerminals ts → action_read ts ≡ Some (a, rest) → SpellsAction ts a rest
action_sound [] rest a good e = absurd (let no : ⊥ = cc in no)
action_sound (terminal.Word w ∷ ts) rest a good e = action_from_sound w ts rest a good e
action_sound (terminal.Name x ∷ ts) rest a good e = either {P = SpellsAction (terminal.Name x ∷ ts) a rest} (after_mark mark.Assign ts) _ _ (a, rest) e
    (λ us at f.
    let found = some_of (result_read us) _ (a, rest) f in
    let same = pair_of found.2 in
    subst (λ v. SpellsAction (terminal.Name x ∷ v) a rest) (sym (sound_Assign ts us at))
    (subst (λ d. SpellsAction (terminal.Name x ∷ terminal.Mark mark.Assign ∷ us) d rest) same.0 (assign (result_sound us rest found.0.0 (found.1 ∙ ap (λ v. Some (found.0.0, v)) same.1)))))
    (λ none f. said_sound (terminal.Name x ∷ ts) rest (result_read (terminal.Name x ∷ ts)) a (λ r c h. result_sound (terminal.Name x ∷ ts) r c h) f)
action_sound (t ∷ ts) rest a good e = said_sound (t ∷ ts) rest (result_read (t ∷ ts)) a (λ r c h. result_sound (t ∷ ts) r c h) e

alone_sound : (printed b : Bool) (ts : List Terminal) → reader.alone printed ts ≡ Some b → (ts ≡ []) × (printed ≡ b)
alone_sound printed b [] e = (refl, same_some e)
alone_sound printed b (t ∷ ts) e = absurd (let no : ⊥ = cc in no)

ending_sound : (ts : List Terminal) (printed : Bool) → ending ts ≡ Some printed → ts ≡ terminal.Mark (end_mark printed) ∷ []
ending_sound ts printed e = either {P = ts ≡ terminal.Mark (end_mark printed) ∷ []} (after_mark mark.Semicolon ts) _ _ printed e
    (λ us at f. let h = alone_sound true printed us f in sound_Semicolon ts us at ∙ (λ i. terminal.Mark (end_mark (h.1 i)) ∷ h.0 i))
    (λ none f.
    let found = some_of (after_mark mark.Dollar ts) _ printed f in
    let h = alone_sound false printed found.0 found.2 in
    sound_Dollar ts found.0 found.1 ∙ (λ i. terminal.Mark (end_mark (h.1 i)) ∷ h.0 i))

-- each statement that is read of proper terminals is spelled
pub statement_sound : (ts : List Terminal) (s : StatementTree) → AreProperTerminals ts → statement_read ts ≡ Some s → SpellsStatement ts s
statement_sound ts s good e = either {P = SpellsStatement ts s} (ending ts) _ _ s e
    (λ printed is f. subst (λ v. SpellsStatement v s) (sym (ending_sound ts printed is)) (nothing (sym (same_some f))))
    (λ none f.
    let action = some_of (action_read ts) _ s f in
    let end = some_of (ending action.0.1) _ s action.2 in
    acting (subst (λ v. SpellsAction ts action.0.0 v) (ending_sound action.0.1 end.0 end.1) (action_sound ts action.0.1 action.0.0 good action.1)) (sym (same_some end.2)))
