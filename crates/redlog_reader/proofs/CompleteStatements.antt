-- Each statement that the grammar spells is read.
use Rattle.std.proofs.Common.{◌≡◌, ℕ, ◌<◌, Bool, true, false, List, [], ◌∷◌, length, sym, refl, ap, ◌∙◌, arith}
use Rattle.std.specs.Prelude.{Option, Some, None, pos, if◌then◌else◌, negsuc}
use Rattle.language_meaning.specs.declared.tree.Literal.{Literal}
use Rattle.language_meaning.specs.declared.tree.Literal.TheVariants.{Fits, Past}
use Rattle.language_meaning.specs.declared.tree.Relation.{Relation}
use Rattle.language_meaning.specs.declared.entries.PointEntry.{PointEntry}
use Rattle.language_meaning.specs.declared.grid.Ratio.{Ratio}
use Rattle.language_meaning.specs.declared.grid.GridAxis.{GridAxis}
use Rattle.language_meaning.specs.Constraints.{is_constraint, is_weak_constraint}
use Rattle.logic_meaning.specs.Formula.{One}
use Rattle.language_meaning.specs.Trees.{TermTree, Compare}
use Rattle.language_meaning.specs.Holes.{whole, all_of}
use Rattle.language_meaning.specs.Holes as inside
use Rattle.language_meaning.specs.Statements.{CommandTree, Qea, Holds, Sample, Grid, Certify, Check, Least, ActionTree, Empty, Ignored, Choose, Say, Assign, Assume, StatementTree}
use Rattle.language_meaning.specs.Inner.{WithInner, bare, around, about, about_all, about_under}
use Rattle.language_meaning.specs.declared.terminal.Terminal.{Terminal}
use Rattle.language_meaning.specs.declared.terminal.Terminal.TheVariants as terminal
use Rattle.language_meaning.specs.declared.terminal.Mark.{Mark}
use Rattle.language_meaning.specs.declared.terminal.Mark.TheVariants as mark
use Rattle.language_meaning.specs.declared.terminal.Word.{Word}
use Rattle.language_meaning.specs.declared.terminal.Word.TheVariants as word
use Rattle.redlog_reader.specs.Machine.{Reading, term_of, formula_of, Wants, Held, Stops, strength, run, operated}
use Rattle.language_meaning.specs.Grammar.{Written, SpellsFactor, SpellsPower, first_power, raised, product, SpellsSum, sum, IsRelation, relation_sign, relation_word, SpellsComparison, comparison, SpellsCongruence, congruent, incongruent, SpellsAtom, compared_atom, congruent_atom, SpellsPrime, truth, falsity, named_formula, congruence, inner_formula, exists, for_all, inner_command, inner_under, SpellsFormula, IsAny, any_name, any_word, SpellsAnys, last_any, more_anys, opposite, Above, unsigned, opposed, Below, one, divided, SpellsEntry, entry, Listed, last_item, more_items, Braced, empty, listed, SpellsPoint, SpellsAtoms, SpellsArgument, alone, under, result_of, SpellsResult, resulting, SpellsRatio, ratio, SpellsAxis, axis, SpellsBound, bound, SpellsBounds, SpellsWeak, weak, SpellsWeaks, SpellsWholes, SpellsQuery, qea, holds, witness, grid, certify, check, least, SpellsAction, assign, result, query, choose, load, on, off, assume, retract, end, bye, quit, end_mark, SpellsStatement, nothing, acting}
use Rattle.redlog_reader.specs.Reader.{on_some, after_mark, formula_read, sum_read, relation_of, relation_read, comparison_read, begins_congruence, atom_read, bound_read, weak_read, items_read, braced_read, negated_literal, above_read, below_read, entry_read, ratio_read, axis_read, argument_read, pointed_read, grid_read, certified_read, checked_read, least_read, result_read, is_any, anys_read, said, action_read, ending, statement_read}
use Rattle.std.proofs.lemmas.Bool.{lt-ltb}
use Rattle.std.proofs.lemmas.Int.{ints}
use Rattle.written_syntax.specs.Proper.{IsNumeral}
use Rattle.redlog_tokens.proofs.ProperTokens.{AreProperTerminals}
use Rattle.redlog_reader.proofs.Proper.{proper_above, proper_entry, proper_formula, proper_ratio, proper_axis, proper_bounds}
use Rattle.redlog_reader.proofs.Steps.{outcome}
use Rattle.redlog_reader.proofs.CompleteTerms.{complete_sum}
use Rattle.redlog_reader.proofs.CompleteFormulas.{complete_prime, complete_formula}
use Rattle.redlog_reader.proofs.Options.{is_some, is_none, anys_more, anys_last}
use Rattle.redlog_reader.proofs.Items.{LeavesLess, items_more, items_last, items_none, atom_less, entry_less, axis_less, bound_less, weak_less, above_less, onto}

-- what is read where a terminal ends it
stopped : (goal : ℕ) (t : Terminal) (ts : List Terminal) (h : Reading) → goal < strength t → run goal (t ∷ ts) [] (Held h) ≡ Some (h, t ∷ ts)
stopped goal t ts h less = ap (λ b. outcome goal t ts (if b then Stops h else operated goal t [] h)) (lt-ltb goal (strength t) less)

read_formula : (goal : ℕ) (ts : List Terminal) (h : Reading) (f : Written) (rest : List Terminal) → formula_of h ≡ Some f → run goal ts [] Wants ≡ Some (h, rest) → formula_read goal ts ≡ Some (f, rest)
read_formula goal ts h f rest is runs =
    is_some (run goal ts [] Wants) (h, rest) (λ p. on_some (formula_of p.0) (λ f. Some (f, p.1)) None) None runs ∙ is_some (formula_of h) f (λ f. Some (f, rest)) None is

formula_done : {ts rest : List Terminal} {t : Terminal} {f : Written} → SpellsFormula ts f (t ∷ rest) → 8 < strength t → formula_read 8 ts ≡ Some (f, t ∷ rest)
formula_done {ts = ts} {rest = rest} {t = t} {f = f} p less =
    let found = complete_formula 8 [] p (omega arith) less in
    read_formula 8 ts found.reading f (t ∷ rest) found.is (found.runs ∙ stopped 8 t rest found.reading less)

prime_done : {ts rest : List Terminal} {t : Terminal} {f : Written} → SpellsPrime ts f (t ∷ rest) → 8 < strength t → formula_read 0 ts ≡ Some (f, t ∷ rest)
prime_done {ts = ts} {rest = rest} {t = t} {f = f} p less =
    let found = complete_prime 0 [] p (omega (arith, less)) refl in
    read_formula 0 ts found.reading f (t ∷ rest) found.is (found.runs ∙ stopped 0 t rest found.reading (omega (arith, less)))

sum_done : {ts rest : List Terminal} {t : Terminal} {s : TermTree} → SpellsSum ts s (t ∷ rest) → 2 < strength t → sum_read ts ≡ Some (s, t ∷ rest)
sum_done {ts = ts} {rest = rest} {t = t} {s = s} p less =
    let found = complete_sum 2 [] p (omega arith) less in
    is_some (run 2 ts [] Wants) (found.reading, t ∷ rest) (λ p. on_some (term_of p.0) (λ f. Some (f, p.1)) None) None (found.runs ∙ stopped 2 t rest found.reading less)
    ∙ is_some (term_of found.reading) s (λ f. Some (f, t ∷ rest)) None found.is

relation_done : {t : Terminal} {r : Relation} → IsRelation t r → (relation_of t ≡ Some r) × (strength t ≡ 3)
relation_done relation_sign = (refl, refl)
relation_done relation_word = (refl, refl)

comparison_done : {ts rest : List Terminal} {t : Terminal} {f : Written} → SpellsComparison ts f (t ∷ rest) → 8 < strength t → comparison_read ts ≡ Some (f, t ∷ rest)
comparison_done {ts = ts} {rest = rest} {t = t} (comparison {us = us} {sign = sign} {r = r} {s = s} {t = x} p is q) less =
    is_some (sum_read ts) (s, sign ∷ us) (λ p. on_some (relation_read p.1) (λ q. on_some (sum_read q.1) (λ r. Some (whole (One (Compare q.0 p.0 r.0)), r.1)) None) None) None
    (sum_done p (omega (arith, (relation_done is).1)))
    ∙ is_some (relation_read (sign ∷ us)) (r, us) (λ q. on_some (sum_read q.1) (λ r. Some (whole (One (Compare q.0 s r.0)), r.1)) None) None (is_some (relation_of sign) r (λ r. Some (r, us)) None (relation_done is).0)
    ∙ is_some (sum_read us) (x, t ∷ rest) (λ y. Some (whole (One (Compare r s y.0)), y.1)) None (sum_done q (omega (arith, less)))

-- no sum begins with a word
factor_no_word : {w : Word} {ts r : List Terminal} {t : TermTree} → SpellsFactor (terminal.Word w ∷ ts) t r → ⊥
factor_no_word p = elim p [ ]

power_no_word : {w : Word} {ts r : List Terminal} {t : TermTree} → SpellsPower (terminal.Word w ∷ ts) t r → ⊥
power_no_word (first_power p) = factor_no_word p
power_no_word (raised p) = factor_no_word p

sum_no_word : {w : Word} {ts r : List Terminal} {t : TermTree} → SpellsSum (terminal.Word w ∷ ts) t r → ⊥
sum_no_word (sum (product p n) m) = power_no_word p

comparison_begins : (ts r : List Terminal) {f : Written} → SpellsComparison ts f r → begins_congruence ts ≡ false
comparison_begins [] r p = refl
comparison_begins (terminal.Word w ∷ ts) r (comparison p is q) = absurd (sum_no_word p)
comparison_begins (t ∷ ts) r p = refl

congruence_begins : {ts r : List Terminal} {f : Written} → SpellsCongruence ts f r → begins_congruence ts ≡ true
congruence_begins (congruent p q m) = refl
congruence_begins (incongruent p q m) = refl

atom_done : {ts rest : List Terminal} {t : Terminal} {f : Written} → SpellsAtom ts f (t ∷ rest) → 8 < strength t → atom_read ts ≡ Some (f, t ∷ rest)
atom_done {ts = ts} {rest = rest} {t = t} (compared_atom p) less = ap (λ b. if b then formula_read 0 ts else comparison_read ts) (comparison_begins ts (t ∷ rest) p) ∙ comparison_done p less
atom_done {ts = ts} (congruent_atom p) less = ap (λ b. if b then formula_read 0 ts else comparison_read ts) (congruence_begins p) ∙ prime_done (congruence p) less

-- a list of items that are read is read
module _ {X : Type 0} (read : List Terminal → Option (X × List Terminal)) (less : (ts : List Terminal) → LeavesLess (length ts) (read ts)) (Item : List Terminal → X → List Terminal → Type 0) (P : List Terminal → Type 0)
    (done : (ts rest : List Terminal) (t : Terminal) (x : X) → P ts → Item ts x (t ∷ rest) → 8 < strength t → read ts ≡ Some (x, t ∷ rest)) (kept : (ts rest : List Terminal) (x : X) → P ts → Item ts x rest → P rest)
    (past : (us : List Terminal) → P (terminal.Mark mark.Comma ∷ us) → P us) where
  listed_done : (ts rest : List Terminal) (t : Terminal) (xs : List X) → P ts → Listed Item ts xs (t ∷ rest) → 8 < strength t → after_mark mark.Comma (t ∷ rest) ≡ None → items_read read ts ≡ Some (xs, t ∷ rest)
  listed_done ts rest t xs good (last_item {x = x} p) ends none = items_last read less ts (x, t ∷ rest) (done ts rest t x good p ends) none
  listed_done ts rest t xs good (more_items {us = us} {x = x} {more = more} p m) ends none =
      items_more read less ts us (x, terminal.Mark mark.Comma ∷ us) (done ts us (terminal.Mark mark.Comma) x good p (omega arith)) refl
      ∙ ap (onto (x ∷ [])) (listed_done us rest t more (past us (kept ts (terminal.Mark mark.Comma ∷ us) x good p)) m ends none)

  -- no item begins with a brace that closes
  no_close : ((us : List Terminal) → read (terminal.Mark mark.CloseBrace ∷ us) ≡ None) → (us : List Terminal) (p : List X × List Terminal) → items_read read us ≡ Some p → after_mark mark.CloseBrace us ≡ None
  no_close closed [] p e = refl
  no_close closed (terminal.Mark mark.CloseBrace ∷ us) p e = let none = items_none read less (terminal.Mark mark.CloseBrace ∷ us) (closed us) in absurd (let no : ⊥ = cc in no)
  no_close closed (t ∷ us) p e = refl

  braced_done : (ts rest : List Terminal) (xs : List X) → ((us : List Terminal) → read (terminal.Mark mark.CloseBrace ∷ us) ≡ None) → ((us : List Terminal) → P (terminal.Mark mark.OpenBrace ∷ us) → P us) → P ts
      → Braced Item ts xs rest → braced_read read ts ≡ Some (xs, rest)
  braced_done ts rest xs closed inside good empty = refl
  braced_done ts rest xs closed inside good (listed {ts = us} p) =
      let items = listed_done us rest (terminal.Mark mark.CloseBrace) xs (inside us good) p (omega arith) refl in
      is_none (after_mark mark.CloseBrace us) (λ vs. Some ([], vs)) (on_some (items_read read us) (λ p. on_some (after_mark mark.CloseBrace p.1) (λ vs. Some (p.0, vs)) None) None)
      (no_close closed us (xs, terminal.Mark mark.CloseBrace ∷ rest) items)
      ∙ is_some (items_read read us) (xs, terminal.Mark mark.CloseBrace ∷ rest) (λ p. on_some (after_mark mark.CloseBrace p.1) (λ vs. Some (p.0, vs)) None) None items

braced_atoms : {ts rest : List Terminal} {fs : List Written} → SpellsAtoms ts fs rest → braced_read atom_read ts ≡ Some (fs, rest)
braced_atoms {ts = ts} {rest = rest} {fs = fs} p =
    braced_done atom_read atom_less SpellsAtom (λ ts. Unit {0}) (λ us r t f good h less. atom_done h less) (λ us r f good h. tt) (λ us h. tt) ts rest fs (λ us. refl) (λ us h. tt) tt p

-- a comparison that meets a test
tested_done : (meets : Written → Bool) {ts rest : List Terminal} {t : Terminal} {f : Written} → SpellsComparison ts f (t ∷ rest) → meets f ≡ true → 8 < strength t
    → on_some (comparison_read ts) (λ p. if meets p.0 then Some p else None) None ≡ Some (f, t ∷ rest)
tested_done meets {ts = ts} {rest = rest} {t = t} {f = f} p is less =
    is_some (comparison_read ts) (f, t ∷ rest) (λ p. if meets p.0 then Some p else None) None (comparison_done p less) ∙ ap (λ b. if b then Some (f, t ∷ rest) else None) is

bound_done : {ts rest : List Terminal} {t : Terminal} {f : Written} → SpellsBound ts f (t ∷ rest) → 8 < strength t → bound_read ts ≡ Some (f, t ∷ rest)
bound_done (bound p is) less = tested_done (λ f. is_constraint f.tree) p is less

braced_bounds : {ts rest : List Terminal} {fs : List Written} → SpellsBounds ts fs rest → braced_read bound_read ts ≡ Some (fs, rest)
braced_bounds {ts = ts} {rest = rest} {fs = fs} p =
    braced_done bound_read bound_less SpellsBound (λ ts. Unit {0}) (λ us r t f good h less. bound_done h less) (λ us r f good h. tt) (λ us h. tt) ts rest fs (λ us. refl) (λ us h. tt) tt p

weak_done : {ts rest : List Terminal} {t : Terminal} {f : Written} → SpellsWeak ts f (t ∷ rest) → 8 < strength t → weak_read ts ≡ Some (f, t ∷ rest)
weak_done (weak p is) less = tested_done (λ f. is_weak_constraint f.tree) p is less

braced_weaks : {ts rest : List Terminal} {fs : List Written} → SpellsWeaks ts fs rest → braced_read weak_read ts ≡ Some (fs, rest)
braced_weaks {ts = ts} {rest = rest} {fs = fs} p =
    braced_done weak_read weak_less SpellsWeak (λ ts. Unit {0}) (λ us r t f good h less. weak_done h less) (λ us r f good h. tt) (λ us h. tt) ts rest fs (λ us. refl) (λ us h. tt) tt p

-- numerals have an opposite
pub negated_done : (n : Literal) → IsNumeral n → negated_literal n ≡ opposite n
negated_done (Fits (pos n)) h = refl
negated_done (Fits (negsuc n)) h = absurd (omega (arith, ints, h.0))
negated_done Past h = refl

above_done : {ts rest : List Terminal} {n : Literal} → AreProperTerminals ts → Above ts n rest → above_read ts ≡ Some (n, rest)
above_done good unsigned = refl
above_done good (opposed {n = n} {rest = rest} is) = ap (λ k. Some (k, rest)) (negated_done n good.0 ∙ sym is)

below_done : {ts rest : List Terminal} {t : Terminal} {n : Literal} → Below ts n (t ∷ rest) → 8 < strength t → below_read ts ≡ Some (n, t ∷ rest)
below_done {rest = rest} {t = t} one less = no_slash t less
  where
    no_slash : (t : Terminal) → 8 < strength t → below_read (t ∷ rest) ≡ Some (Fits (pos 1), t ∷ rest)
    no_slash (terminal.Mark mark.Slash) less = absurd (omega (arith, less))
    no_slash (terminal.Mark m) less = refl
    no_slash t less = refl
below_done divided less = refl

entry_done : {ts rest : List Terminal} {t : Terminal} {e : PointEntry} → AreProperTerminals ts → SpellsEntry ts e (t ∷ rest) → 8 < strength t → entry_read ts ≡ Some (e, t ∷ rest)
entry_done {rest = rest} {t = t} {e = e} good (entry {ts = ts} {us = us} {x = x} is above below) less =
    let made : List ℕ → Literal → Literal → PointEntry = λ x n d. record { name = x; above = n; below = d } in
    is_some (above_read ts) (e.above, us) (λ q. on_some (below_read q.1) (λ r. Some (made x q.0 r.0, r.1)) None) None (above_done good.1 above)
    ∙ is_some (below_read us) (e.below, t ∷ rest) (λ r. Some (made x e.above r.0, r.1)) None (below_done below less)
    ∙ ap (λ y. Some (made y e.above e.below, t ∷ rest)) is

braced_entries : {ts rest : List Terminal} {es : List PointEntry} → AreProperTerminals ts → SpellsPoint ts es rest → braced_read entry_read ts ≡ Some (es, rest)
braced_entries {ts = ts} {rest = rest} {es = es} good p =
    braced_done entry_read entry_less SpellsEntry AreProperTerminals (λ us r t e good h less. entry_done good h less) (λ us r e good h. (proper_entry h good).1) (λ us h. h) ts rest es (λ us. refl) (λ us h. h) good p

braced_wholes : {ts rest : List Terminal} {ns : List Literal} → AreProperTerminals ts → SpellsWholes ts ns rest → braced_read above_read ts ≡ Some (ns, rest)
braced_wholes {ts = ts} {rest = rest} {ns = ns} good p =
    braced_done above_read above_less Above AreProperTerminals (λ us r t n good h less. above_done good h) (λ us r n good h. (proper_above h good).1) (λ us h. h) ts rest ns (λ us. refl) (λ us h. h) good p

ratio_done : {ts rest : List Terminal} {r : Ratio} (last : Mark) → AreProperTerminals ts → SpellsRatio ts r (terminal.Mark last ∷ rest) → 8 < strength (terminal.Mark last) → after_mark last (terminal.Mark last ∷ rest) ≡ Some rest → ratio_read last ts ≡ Some (r, rest)
ratio_done {ts = ts} {rest = rest} {r = r} last good (ratio {us = us} above below) less at =
    let made : Literal → Literal → Ratio = λ n d. record { above = n; below = d } in
    is_some (above_read ts) (r.above, us) (λ p. on_some (below_read p.1) (λ q. on_some (after_mark last q.1) (λ v. Some (made p.0 q.0, v)) None) None) None (above_done good above)
    ∙ is_some (below_read us) (r.below, terminal.Mark last ∷ rest) (λ q. on_some (after_mark last q.1) (λ v. Some (made r.above q.0, v)) None) None (below_done below less)
    ∙ is_some (after_mark last (terminal.Mark last ∷ rest)) rest (λ v. Some (made r.above r.below, v)) None at

axis_done : {ts rest : List Terminal} {a : GridAxis} → AreProperTerminals ts → SpellsAxis ts a rest → axis_read ts ≡ Some (a, rest)
axis_done {rest = rest} {a = a} good (axis {ts = ts} {us = us} {vs = vs} {x = x} is low high step) =
    let made : List ℕ → Ratio → Ratio → Ratio → GridAxis = λ y l h s. record { name = y; low = l; high = h; step = s } in
    let second = (proper_ratio low good.1).1 in
    let third = (proper_ratio high second).1 in
    is_some (ratio_read mark.Comma ts) (a.low, us)
    (λ l. on_some (ratio_read mark.Comma l.1) (λ h. on_some (ratio_read mark.CloseBrace h.1) (λ s. Some (made x l.0 h.0 s.0, s.1)) None) None) None (ratio_done mark.Comma good.1 low (omega arith) refl)
    ∙ is_some (ratio_read mark.Comma us) (a.high, vs) (λ h. on_some (ratio_read mark.CloseBrace h.1) (λ s. Some (made x a.low h.0 s.0, s.1)) None) None (ratio_done mark.Comma second high (omega arith) refl)
    ∙ is_some (ratio_read mark.CloseBrace vs) (a.step, rest) (λ s. Some (made x a.low a.high s.0, s.1)) None (ratio_done mark.CloseBrace third step (omega arith) refl)
    ∙ ap (λ y. Some (made y a.low a.high a.step, rest)) is

axes_done : {ts rest : List Terminal} {axes : List GridAxis} → AreProperTerminals ts → Listed SpellsAxis ts axes (terminal.Mark mark.Close ∷ rest) → items_read axis_read ts ≡ Some (axes, terminal.Mark mark.Close ∷ rest)
axes_done {ts = ts} {rest = rest} {axes = axes} good p =
    listed_done axis_read axis_less SpellsAxis AreProperTerminals (λ us r t a good h less. axis_done good h) (λ us r a good h. (proper_axis h good).1) (λ us h. h) ts rest (terminal.Mark mark.Close) axes good p (omega arith) refl

abbrev Argument : Type 0
Argument = (Written × List Written) × List Terminal

abbrev after_argument : Written × List Terminal → Option Argument
after_argument p =
    on_some (after_mark mark.Close p.1) (λ vs. Some ((p.0, []), vs))
    (on_some (after_mark mark.Comma p.1) (λ vs. on_some (braced_read atom_read vs) (λ q. on_some (after_mark mark.Close q.1) (λ ws. Some ((p.0, q.0), ws)) None) None) None)

prime_argument : {ts rest : List Terminal} {t : Terminal} {f : Written} → after_mark mark.Open ts ≡ None → SpellsPrime ts f (t ∷ rest) → 8 < strength t → argument_read ts ≡ Some ((f, []), t ∷ rest)
prime_argument {ts = ts} {rest = rest} {t = t} {f = f} unopened p less =
    ap (λ o. on_some o (λ us. on_some (formula_read 8 us) after_argument None) (on_some (formula_read 0 ts) (λ p. let found : Option Argument = Some ((p.0, []), p.1) in found) None)) unopened
    ∙ is_some (formula_read 0 ts) (f, t ∷ rest) (λ p. let found : Option Argument = Some ((p.0, []), p.1) in found) None (prime_done p less)

argument_done : {ts rest : List Terminal} {t : Terminal} {f : Written} {given : List Written} → SpellsArgument ts f given (t ∷ rest) → 8 < strength t → argument_read ts ≡ Some ((f, given), t ∷ rest)
argument_done (alone truth) less = prime_argument refl truth less
argument_done (alone falsity) less = prime_argument refl falsity less
argument_done (alone named_formula) less = prime_argument refl named_formula less
argument_done (alone (congruence (congruent p q m))) less = prime_argument refl (congruence (congruent p q m)) less
argument_done (alone (congruence (incongruent p q m))) less = prime_argument refl (congruence (incongruent p q m)) less
argument_done (alone (exists p q is)) less = prime_argument refl (exists p q is) less
argument_done (alone (for_all p q is)) less = prime_argument refl (for_all p q is) less
argument_done (alone (inner_command e p is)) less = prime_argument refl (inner_command e p is) less
argument_done (alone (inner_under e may p q is)) less = prime_argument refl (inner_under e may p q is) less
argument_done {rest = rest} {t = t} {f = f} (alone (inner_formula {ts = us} p)) less = is_some (formula_read 8 us) (f, terminal.Mark mark.Close ∷ t ∷ rest) after_argument None (formula_done p (omega arith))
argument_done {rest = rest} {t = t} {f = f} (under {ts = ts} {us = us} {given = given} p q) less =
    is_some (formula_read 8 ts) (f, terminal.Mark mark.Comma ∷ us) after_argument None (formula_done p (omega arith))
    ∙ is_some (braced_read atom_read us) (given, terminal.Mark mark.Close ∷ t ∷ rest) (λ q. on_some (after_mark mark.Close q.1) (λ ws. let found : Option Argument = Some ((f, q.0), ws) in found) None) None (braced_atoms q)

pointed_done : {ts us rest : List Terminal} {f : Written} {es : List PointEntry} → AreProperTerminals ts → SpellsFormula ts f (terminal.Mark mark.Comma ∷ us) → SpellsPoint us es (terminal.Mark mark.Close ∷ rest)
    → pointed_read (terminal.Mark mark.Open ∷ ts) ≡ Some ((f, es), rest)
pointed_done {ts = ts} {us = us} {rest = rest} {f = f} {es = es} good p q =
    is_some (formula_read 8 ts) (f, terminal.Mark mark.Comma ∷ us)
    (λ p. on_some (after_mark mark.Comma p.1) (λ vs. on_some (braced_read entry_read vs) (λ q. on_some (after_mark mark.Close q.1) (λ ws. Some ((p.0, q.0), ws)) None) None) None) None (formula_done p (omega arith))
    ∙ is_some (braced_read entry_read us) (es, terminal.Mark mark.Close ∷ rest) (λ q. on_some (after_mark mark.Close q.1) (λ ws. Some ((f, q.0), ws)) None) None (braced_entries (proper_formula p good).1 q)

grid_done : {ts us rest : List Terminal} {f : Written} {axes : List GridAxis} → AreProperTerminals ts → SpellsFormula ts f (terminal.Mark mark.Comma ∷ us) → Listed SpellsAxis us axes (terminal.Mark mark.Close ∷ rest)
    → grid_read (terminal.Mark mark.Open ∷ ts) ≡ Some ((f, axes), rest)
grid_done {ts = ts} {us = us} {rest = rest} {f = f} {axes = axes} good p q =
    is_some (formula_read 8 ts) (f, terminal.Mark mark.Comma ∷ us)
    (λ p. on_some (after_mark mark.Comma p.1) (λ vs. on_some (items_read axis_read vs) (λ q. on_some (after_mark mark.Close q.1) (λ ws. Some ((p.0, q.0), ws)) None) None) None) None (formula_done p (omega arith))
    ∙ is_some (items_read axis_read us) (axes, terminal.Mark mark.Close ∷ rest) (λ q. on_some (after_mark mark.Close q.1) (λ ws. Some ((f, q.0), ws)) None) None (axes_done (proper_formula p good).1 q)

certified_done : {ts rest : List Terminal} {fs : List Written} → SpellsBounds ts fs (terminal.Mark mark.Close ∷ rest) → certified_read (terminal.Mark mark.Open ∷ ts) ≡ Some (fs, rest)
certified_done {ts = ts} {rest = rest} {fs = fs} p =
    is_some (braced_read bound_read ts) (fs, terminal.Mark mark.Close ∷ rest) (λ p. on_some (after_mark mark.Close p.1) (λ vs. Some (p.0, vs)) None) None (braced_bounds p)

checked_done : {ts us rest : List Terminal} {fs : List Written} {ns : List Literal} → AreProperTerminals ts → SpellsBounds ts fs (terminal.Mark mark.Comma ∷ us) → SpellsWholes us ns (terminal.Mark mark.Close ∷ rest)
    → checked_read (terminal.Mark mark.Open ∷ ts) ≡ Some ((fs, ns), rest)
checked_done {ts = ts} {us = us} {rest = rest} {fs = fs} {ns = ns} good p q =
    is_some (braced_read bound_read ts) (fs, terminal.Mark mark.Comma ∷ us)
    (λ p. on_some (after_mark mark.Comma p.1) (λ vs. on_some (braced_read above_read vs) (λ q. on_some (after_mark mark.Close q.1) (λ ws. Some ((p.0, q.0), ws)) None) None) None) None (braced_bounds p)
    ∙ is_some (braced_read above_read us) (ns, terminal.Mark mark.Close ∷ rest) (λ q. on_some (after_mark mark.Close q.1) (λ ws. Some ((fs, q.0), ws)) None) None (braced_wholes (proper_bounds p good).1 q)

least_done : {ts us rest : List Terminal} {fs : List Written} {target : TermTree} → SpellsWeaks ts fs (terminal.Mark mark.Comma ∷ us) → SpellsSum us target (terminal.Mark mark.Close ∷ rest)
    → least_read (terminal.Mark mark.Open ∷ ts) ≡ Some ((fs, target), rest)
least_done {ts = ts} {us = us} {rest = rest} {fs = fs} {target = target} p q =
    is_some (braced_read weak_read ts) (fs, terminal.Mark mark.Comma ∷ us)
    (λ p. on_some (after_mark mark.Comma p.1) (λ vs. on_some (sum_read vs) (λ q. on_some (after_mark mark.Close q.1) (λ ws. Some ((p.0, q.0), ws)) None) None) None) None (braced_weaks p)
    ∙ is_some (sum_read us) (target, terminal.Mark mark.Close ∷ rest) (λ q. on_some (after_mark mark.Close q.1) (λ ws. Some ((fs, q.0), ws)) None) None (sum_done q (omega arith))

result_done : {ts rest : List Terminal} {t : Terminal} {c : WithInner CommandTree} → SpellsResult ts c (t ∷ rest) → 8 < strength t → result_read ts ≡ Some (c, t ∷ rest)
result_done {rest = rest} {t = t} (resulting p is) less = ap (λ o. on_some o (λ p. Some (result_of p.0, p.1)) None) (formula_done p less) ∙ ap (λ c. Some (c, t ∷ rest)) (sym is)

any_done : {t : Terminal} → IsAny t → is_any t ≡ true
any_done any_name = refl
any_done any_word = refl

anys_done : {ts rest : List Terminal} → SpellsAnys ts rest → after_mark mark.Comma rest ≡ None → anys_read ts ≡ Some rest
anys_done {rest = rest} (last_any {t = t} any) e = anys_last t rest (any_done any) e
anys_done (more_anys {t = t} {ts = ts} any p) e = anys_more t (terminal.Mark mark.Comma ∷ ts) ts (any_done any) refl ∙ anys_done p e

ends_strongly : (printed : Bool) → 8 < strength (terminal.Mark (end_mark printed))
ends_strongly true = omega arith
ends_strongly false = omega arith

no_comma : (printed : Bool) → after_mark mark.Comma (terminal.Mark (end_mark printed) ∷ []) ≡ None
no_comma true = refl
no_comma false = refl

no_assign : (printed : Bool) (us : List Terminal) → terminal.Mark (end_mark printed) ∷ [] ≡ terminal.Mark mark.Assign ∷ us → ⊥
no_assign true us e = cc
no_assign false us e = cc

rest_of : {X : Type 0} {x y : X} {r s : List Terminal} → (let p : X × List Terminal = (x, r) in let q : X × List Terminal = (y, s) in Some p ≡ Some q) → s ≡ r
rest_of {X = X} {x = x} {y = y} {r = r} {s = s} e = let same : (let p : X × List Terminal = (x, r) in let q : X × List Terminal = (y, s) in p ≡ q) = cc in ap (λ (v : X × List Terminal). v.1) (sym same)

said_done : (ts : List Terminal) (c : WithInner CommandTree) (rest : List Terminal) → ((us : List Terminal) → rest ≡ terminal.Mark mark.Assign ∷ us → ⊥) → result_read ts ≡ Some (c, rest) → action_read ts ≡ Some (around Say c, rest)
said_done [] c rest other e = absurd (let no : ⊥ = cc in no)
said_done (terminal.Word word.Set ∷ ts) c rest other e = absurd (let no : ⊥ = cc in no)
said_done (terminal.Word word.Load ∷ ts) c rest other e = absurd (let no : ⊥ = cc in no)
said_done (terminal.Word word.On ∷ ts) c rest other e = absurd (let no : ⊥ = cc in no)
said_done (terminal.Word word.Off ∷ ts) c rest other e = absurd (let no : ⊥ = cc in no)
said_done (terminal.Word word.Assume ∷ ts) c rest other e = absurd (let no : ⊥ = cc in no)
said_done (terminal.Word word.Retract ∷ ts) c rest other e = absurd (let no : ⊥ = cc in no)
said_done (terminal.Word word.End ∷ ts) c rest other e = absurd (let no : ⊥ = cc in no)
said_done (terminal.Word word.Bye ∷ ts) c rest other e = absurd (let no : ⊥ = cc in no)
said_done (terminal.Word word.Quit ∷ ts) c rest other e = absurd (let no : ⊥ = cc in no)
said_done (terminal.Word word.Qea ∷ ts) c rest other e = absurd (let no : ⊥ = cc in no)
said_done (terminal.Word word.Holds ∷ ts) c rest other e = absurd (let no : ⊥ = cc in no)
said_done (terminal.Word word.Witness ∷ ts) c rest other e = absurd (let no : ⊥ = cc in no)
said_done (terminal.Word word.Grid ∷ ts) c rest other e = absurd (let no : ⊥ = cc in no)
said_done (terminal.Word word.Cert ∷ ts) c rest other e = absurd (let no : ⊥ = cc in no)
said_done (terminal.Word word.Check ∷ ts) c rest other e = absurd (let no : ⊥ = cc in no)
said_done (terminal.Word word.Opt ∷ ts) c rest other e = absurd (let no : ⊥ = cc in no)
said_done (terminal.Word w ∷ ts) c rest other e = ap said e
said_done (terminal.Name x ∷ []) c rest other e = ap said e
said_done (terminal.Name x ∷ terminal.Mark mark.Assign ∷ ts) c rest other e = absurd (other ts (rest_of e))
said_done (terminal.Name x ∷ t ∷ ts) c rest other e = ap said e
said_done (t ∷ ts) c rest other e = ap said e

query_done : {ts : List Terminal} {c : WithInner CommandTree} (printed : Bool) → AreProperTerminals ts → SpellsQuery ts c (terminal.Mark (end_mark printed) ∷ [])
    → action_read ts ≡ Some (around Say c, terminal.Mark (end_mark printed) ∷ [])
query_done printed good (qea p) = ap (λ o. on_some o (λ p. Some (around Say (about_under Qea p.0.0 (all_of p.0.1)), p.1)) None) (argument_done p (ends_strongly printed))
query_done printed good (holds p q) = ap (λ o. on_some o (λ p. Some (around Say (about (λ t. Holds t p.0.1) p.0.0), p.1)) None) (pointed_done good p q)
query_done printed good (witness p q) = ap (λ o. on_some o (λ p. Some (around Say (about (λ t. Sample t p.0.1) p.0.0), p.1)) None) (pointed_done good p q)
query_done printed good (grid p q) = ap (λ o. on_some o (λ p. Some (around Say (about (λ t. Grid t p.0.1) p.0.0), p.1)) None) (grid_done good p q)
query_done printed good (certify p) = ap (λ o. on_some o (λ p. Some (around Say (about_all Certify (all_of p.0)), p.1)) None) (certified_done p)
query_done printed good (check p q) = ap (λ o. on_some o (λ p. Some (around Say (about_all (λ fs. Check fs p.0.1) (all_of p.0.0)), p.1)) None) (checked_done good p q)
query_done printed good (least p q) = ap (λ o. on_some o (λ p. Some (around Say (about_all (λ fs. Least fs p.0.1) (all_of p.0.0)), p.1)) None) (least_done p q)

action_done : {ts : List Terminal} {a : WithInner ActionTree} (printed : Bool) → AreProperTerminals ts → SpellsAction ts a (terminal.Mark (end_mark printed) ∷ []) → action_read ts ≡ Some (a, terminal.Mark (end_mark printed) ∷ [])
action_done printed good (assign {x = x} p) = ap (λ o. on_some o (λ p. Some (around (Assign x) p.0, p.1)) None) (result_done p (ends_strongly printed))
action_done {ts = ts} printed good (result {c = c} p) = said_done ts c (terminal.Mark (end_mark printed) ∷ []) (no_assign printed) (result_done p (ends_strongly printed))
action_done printed good (query p) = query_done printed good p
action_done printed good (choose {s = s} is) = ap (λ o. on_some o (λ s. Some (bare (Choose s), terminal.Mark (end_mark printed) ∷ [])) None) is
action_done printed good (load p) = ap (λ o. on_some o (λ us. Some (bare Ignored, us)) None) (anys_done p (no_comma printed))
action_done printed good (on p) = ap (λ o. on_some o (λ us. Some (bare Ignored, us)) None) (anys_done p (no_comma printed))
action_done printed good (off p) = ap (λ o. on_some o (λ us. Some (bare Ignored, us)) None) (anys_done p (no_comma printed))
action_done printed good (assume p) = ap (λ o. on_some o (λ p. Some (about_all Assume (all_of p.0), p.1)) None) (braced_atoms p)
action_done printed good retract = refl
action_done printed good end = refl
action_done printed good bye = refl
action_done printed good quit = refl

goes_on : (ts : List Terminal) (p : WithInner ActionTree × List Terminal) → action_read ts ≡ Some p → ending ts ≡ None
goes_on [] p e = refl
goes_on (terminal.Mark mark.Semicolon ∷ ts) p e = absurd (let no : ⊥ = cc in no)
goes_on (terminal.Mark mark.Dollar ∷ ts) p e = absurd (let no : ⊥ = cc in no)
goes_on (t ∷ ts) p e = refl

ended : (printed : Bool) → ending (terminal.Mark (end_mark printed) ∷ []) ≡ Some printed
ended true = refl
ended false = refl

-- what follows the first test of an end
abbrev then_statement : List Terminal → Option Bool → Option (WithInner ActionTree × List Terminal) → Option StatementTree
then_statement ts o a =
    on_some o (λ printed. Some (record { action = Empty; printed = printed; inner = inside.alone }))
    (on_some a (λ p. on_some (ending p.1) (λ printed. Some (record { action = p.0.tree; printed = printed; inner = p.0.inner })) None) None)

-- each statement that proper terminals spell is read
pub statement_done : {ts : List Terminal} {s : StatementTree} → AreProperTerminals ts → SpellsStatement ts s → statement_read ts ≡ Some s
statement_done {ts = ts} good (nothing {printed = printed} is) = ap (λ o. then_statement ts o (action_read ts)) (ended printed) ∙ ap Some (sym is)
statement_done {ts = ts} good (acting {a = a} {printed = printed} p is) =
    let read = action_done printed good p in
    ap (λ o. then_statement ts o (action_read ts)) (goes_on ts (a, terminal.Mark (end_mark printed) ∷ []) read)
    ∙ ap (then_statement ts None) read
    ∙ ap (λ o. on_some o (λ printed. let s : StatementTree = record { action = a.tree; printed = printed; inner = a.inner } in Some s) None) (ended printed) ∙ ap Some (sym is)
