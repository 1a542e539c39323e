-- Reading a list of items.
use Rattle.std.proofs.Common.{◌≡◌, ℕ, zero, suc, ◌<◌, ◌≤◌, Bool, true, false, List, [], ◌∷◌, ◌++◌, length, sym, refl, ap, ◌∙◌, subst, arith, append_assoc}
use Rattle.std.specs.Prelude.{pos, Option, Some, None, nat_le, if◌then◌else◌, ◌==◌}
use Rattle.language_meaning.specs.declared.tree.Literal.{Literal}
use Rattle.language_meaning.specs.declared.tree.Literal.TheVariants.{Fits}
use Rattle.language_meaning.specs.declared.tree.Relation.TheVariants.{Equal}
use Rattle.language_meaning.specs.declared.entries.PointEntry.{PointEntry}
use Rattle.language_meaning.specs.declared.grid.GridAxis.{GridAxis}
use Rattle.language_meaning.specs.Constraints.{is_constraint, is_weak_constraint}
use Rattle.language_meaning.specs.declared.terminal.Terminal.{Terminal}
use Rattle.language_meaning.specs.declared.terminal.Terminal.TheVariants as terminal
use Rattle.language_meaning.specs.declared.terminal.Mark.{Mark}
use Rattle.language_meaning.specs.declared.terminal.Mark.TheVariants as mark
use Rattle.language_meaning.specs.declared.terminal.Word.TheVariants as word
use Rattle.language_meaning.specs.Grammar.{Written}
use Rattle.redlog_reader.specs.Machine.{Reading, Frame, Mode, Wants, Outcome, Fails, Stops, Moves, Negation, Added, level, takes, pushed, wanted, step, run, term_of, formula_of}
use Rattle.redlog_reader.specs.declared.argument.AtomKind.{AtomKind}
use Rattle.redlog_reader.specs.declared.argument.AtomKind.TheVariants as kind
use Rattle.redlog_reader.specs.Reader.{on_some, number_of, after_mark, formula_read, sum_read, relation_of, relation_read, comparison_read, begins_congruence, atom_read, bound_read, weak_read, kind_read, listed_read, items_read, number_read, above_read, below_read, name_read, after_equal, entry_read, negated_literal, ratio_read, axis_read}
use Rattle.redlog_reader.proofs.Steps.{outcome}
use Rattle.redlog_reader.proofs.Options.{is_some, is_none}

-- so many items stand before
abbrev pub onto : {X : Type 0} → List X → Option (List X × List Terminal) → Option (List X × List Terminal)
onto done None = None
onto done (Some p) = Some (done ++ p.0, p.1)

pub onto_none : {X : Type 0} (o : Option (List X × List Terminal)) → onto [] o ≡ o
onto_none None = refl
onto_none (Some p) = refl

-- what is read leaves at most this many terminals
abbrev pub Leaves : {X : Type 0} → ℕ → Option (X × List Terminal) → Type 0
Leaves n None = Unit {0}
Leaves n (Some p) = length p.1 ≤ n

-- the same with fewer
abbrev pub LeavesLess : {X : Type 0} → ℕ → Option (X × List Terminal) → Type 0
LeavesLess n None = Unit {0}
LeavesLess n (Some p) = length p.1 < n

mark_shorter : (m : Mark) (ts us : List Terminal) → after_mark m ts ≡ Some us → length us < length ts
mark_shorter m [] us e = absurd (let no : ⊥ = cc in no)
mark_shorter m (terminal.Mark n ∷ ts) us e = choose (number_of m == number_of n) e
  where
    choose : (b : Bool) → (if b then Some ts else None) ≡ Some us → length us < suc (length ts)
    choose true e = let same : ts ≡ us = cc in omega (arith, ap length same)
    choose false e = absurd (let no : ⊥ = cc in no)
mark_shorter m (t ∷ ts) us e = absurd (let no : ⊥ = cc in no)

on_some_less : {X Y : Type 0} (n : ℕ) (o : Option X) (f : X → Option (Y × List Terminal)) → ((x : X) → o ≡ Some x → LeavesLess n (f x)) → LeavesLess n (on_some o f None)
on_some_less n None f h = tt
on_some_less n (Some x) f h = h x refl

module _ {X : Type 0} (read : List Terminal → Option (X × List Terminal)) (less : (ts : List Terminal) → LeavesLess (length ts) (read ts)) where
  left_less : (ts : List Terminal) (p : X × List Terminal) → read ts ≡ Some p → length p.1 < length ts
  left_less ts p e = subst (LeavesLess (length ts)) e (less ts)

  -- the items after a first one
  abbrev more : (List Terminal → Option (List X × List Terminal)) → X × List Terminal → Option (List Terminal) → Option (List X × List Terminal)
  more next p o = on_some o (λ us. on_some (next us) (λ q. Some (p.0 ∷ q.0, q.1)) None) (Some (p.0 ∷ [], p.1))

  same_more : (ts : List Terminal) (f g : List Terminal → Option (List X × List Terminal)) → ((us : List Terminal) → length us < length ts → f us ≡ g us)
      → (p : X × List Terminal) → read ts ≡ Some p → (o : Option (List Terminal)) → after_mark mark.Comma p.1 ≡ o → more f p o ≡ more g p o
  same_more ts f g same p e None at = refl
  same_more ts f g same p e (Some us) at = ap (λ o. on_some o (λ q. Some (p.0 ∷ q.0, q.1)) None) (same us (omega (arith, left_less ts p e, mark_shorter mark.Comma p.1 us at)))

  same_listed : (ts : List Terminal) (f g : List Terminal → Option (List X × List Terminal)) → ((us : List Terminal) → length us < length ts → f us ≡ g us)
      → (o : Option (X × List Terminal)) → read ts ≡ o → on_some o (λ p. more f p (after_mark mark.Comma p.1)) None ≡ on_some o (λ p. more g p (after_mark mark.Comma p.1)) None
  same_listed ts f g same None e = refl
  same_listed ts f g same (Some p) e = same_more ts f g same p e (after_mark mark.Comma p.1) refl

  -- more steps than terminals are enough
  enough : (n m : ℕ) (ts : List Terminal) → length ts < n → length ts < m → listed_read read n ts ≡ listed_read read m ts
  enough zero m ts h k = absurd (omega (arith, h))
  enough (suc n) zero ts h k = absurd (omega (arith, k))
  enough (suc n) (suc m) ts h k = same_listed ts (listed_read read n) (listed_read read m) (λ us less. enough n m us (omega (arith, h, less)) (omega (arith, k, less))) (read ts) refl

  -- reading step by step
  pub items_more : (ts us : List Terminal) (p : X × List Terminal) → read ts ≡ Some p → after_mark mark.Comma p.1 ≡ Some us → items_read read ts ≡ onto (p.0 ∷ []) (items_read read us)
  items_more ts us p e at =
      ap (λ o. on_some o (λ q. more (listed_read read (length ts)) q (after_mark mark.Comma q.1)) None) e
      ∙ ap (more (listed_read read (length ts)) p) at
      ∙ ap (λ o. on_some o (λ q. Some (p.0 ∷ q.0, q.1)) None) (enough (length ts) (suc (length us)) us (omega (arith, left_less ts p e, mark_shorter mark.Comma p.1 us at)) (omega arith))
      ∙ as_onto p.0 (items_read read us)
    where
      as_onto : (x : X) (o : Option (List X × List Terminal)) → on_some o (λ q. Some (x ∷ q.0, q.1)) None ≡ onto (x ∷ []) o
      as_onto x None = refl
      as_onto x (Some q) = refl

  pub items_last : (ts : List Terminal) (p : X × List Terminal) → read ts ≡ Some p → after_mark mark.Comma p.1 ≡ None → items_read read ts ≡ Some (p.0 ∷ [], p.1)
  items_last ts p e at = ap (λ o. on_some o (λ q. more (listed_read read (length ts)) q (after_mark mark.Comma q.1)) None) e ∙ ap (more (listed_read read (length ts)) p) at

  pub items_none : (ts : List Terminal) → read ts ≡ None → items_read read ts ≡ None
  items_none ts e = ap (λ o. on_some o (λ q. more (listed_read read (length ts)) q (after_mark mark.Comma q.1)) None) e

pub onto_onto : {X : Type 0} (xs : List X) (x : X) (o : Option (List X × List Terminal)) → onto xs (onto (x ∷ []) o) ≡ onto (xs ++ x ∷ []) o
onto_onto xs x None = refl
onto_onto xs x (Some p) = ap (λ ys. Some (ys, p.1)) (sym (append_assoc xs (x ∷ []) p.0))

-- what is read of terms and formulas leaves fewer terminals
abbrev NoStop : Outcome → Type 0
NoStop Fails = Unit {0}
NoStop (Stops h) = ⊥
NoStop (Moves fs mode) = Unit {0}

pushed_goes : (goal : ℕ) (frame : Frame) (fs : List Frame) → NoStop (pushed goal frame fs)
pushed_goes goal frame fs = choose (nat_le (level frame) (takes goal fs))
  where
    choose : (b : Bool) → NoStop (if b then Moves (frame ∷ fs) Wants else Fails)
    choose true = tt
    choose false = tt

wanted_goes : (goal : ℕ) (t : Terminal) (fs : List Frame) → NoStop (wanted goal t fs)
wanted_goes goal (terminal.Mark mark.Plus) fs = pushed_goes goal (Added false []) fs
wanted_goes goal (terminal.Mark mark.Minus) fs = pushed_goes goal (Added true []) fs
wanted_goes goal (terminal.Word word.Not) fs = pushed_goes goal Negation fs
wanted_goes goal t fs = tt

outcome_leaves : (goal n : ℕ) (t : Terminal) (ts : List Terminal) → length ts < n → ((fs : List Frame) (mode : Mode) → Leaves (length ts) (run goal ts fs mode)) → (o : Outcome) → Leaves n (outcome goal t ts o)
outcome_leaves goal n t ts less h Fails = tt
outcome_leaves goal n t ts less h (Stops k) = omega (arith, less)
outcome_leaves goal n t ts less h (Moves fs mode) = weaker (run goal ts fs mode) (h fs mode)
  where
    weaker : (o : Option (Reading × List Terminal)) → Leaves (length ts) o → Leaves n o
    weaker None l = tt
    weaker (Some p) l = omega (arith, l, less)

run_leaves : (goal : ℕ) (ts : List Terminal) (fs : List Frame) (mode : Mode) → Leaves (length ts) (run goal ts fs mode)
run_leaves goal [] fs mode = tt
run_leaves goal (t ∷ ts) fs mode = outcome_leaves goal (suc (length ts)) t ts (omega arith) (λ gs next. run_leaves goal ts gs next) (step goal fs mode t)

outcome_less : (goal : ℕ) (t : Terminal) (ts : List Terminal) (o : Outcome) → NoStop o → LeavesLess (suc (length ts)) (outcome goal t ts o)
outcome_less goal t ts Fails goes = tt
outcome_less goal t ts (Stops h) goes = absurd goes
outcome_less goal t ts (Moves fs mode) goes = fewer (run goal ts fs mode) (run_leaves goal ts fs mode)
  where
    fewer : (o : Option (Reading × List Terminal)) → Leaves (length ts) o → LeavesLess (suc (length ts)) o
    fewer None l = tt
    fewer (Some p) l = omega (arith, l)

run_less : (goal : ℕ) (ts : List Terminal) → LeavesLess (length ts) (run goal ts [] Wants)
run_less goal [] = tt
run_less goal (t ∷ ts) = outcome_less goal t ts (wanted goal t []) (wanted_goes goal t [])

kept_less : {X Y Z : Type 0} (n : ℕ) (o : Option (X × List Terminal)) (r : Option Y) (make : Y → Z) (rest : List Terminal) → length rest < n → LeavesLess n (on_some r (λ y. Some (make y, rest)) None)
kept_less n o None make rest h = tt
kept_less n o (Some y) make rest h = h

less_of : {X : Type 0} (n : ℕ) (o : Option (X × List Terminal)) (p : X × List Terminal) → LeavesLess n o → o ≡ Some p → length p.1 < n
less_of n o p l e = subst (LeavesLess n) e l

formula_less : (goal : ℕ) (ts : List Terminal) → LeavesLess (length ts) (formula_read goal ts)
formula_less goal ts = on_some_less (length ts) (run goal ts [] Wants) _ (λ p e. kept_less (length ts) (run goal ts [] Wants) (formula_of p.0) (λ f. f) p.1 (less_of (length ts) _ p (run_less goal ts) e))

sum_less : (ts : List Terminal) → LeavesLess (length ts) (sum_read ts)
sum_less ts = on_some_less (length ts) (run 2 ts [] Wants) _ (λ p e. kept_less (length ts) (run 2 ts [] Wants) (term_of p.0) (λ f. f) p.1 (less_of (length ts) _ p (run_less 2 ts) e))

relation_less : (ts : List Terminal) → LeavesLess (length ts) (relation_read ts)
relation_less [] = tt
relation_less (t ∷ ts) = kept_less (suc (length ts)) (Some (t, ts)) (relation_of t) (λ f. f) ts (omega arith)

comparison_less : (ts : List Terminal) → LeavesLess (length ts) (comparison_read ts)
comparison_less ts = on_some_less (length ts) (sum_read ts) _ (λ p e. on_some_less (length ts) (relation_read p.1) _ (λ q f. on_some_less (length ts) (sum_read q.1) _ (λ r g.
    omega (arith, less_of _ _ p (sum_less ts) e, less_of _ _ q (relation_less p.1) f, less_of _ _ r (sum_less q.1) g))))

pub atom_less : (ts : List Terminal) → LeavesLess (length ts) (atom_read ts)
atom_less ts = choose (begins_congruence ts)
  where
    choose : (b : Bool) → LeavesLess (length ts) (if b then formula_read 0 ts else comparison_read ts)
    choose true = formula_less 0 ts
    choose false = comparison_less ts

-- a comparison that meets a test
tested_less : (is : Written → Bool) (ts : List Terminal) → LeavesLess (length ts) (on_some (comparison_read ts) (λ p. if is p.0 then Some p else None) None)
tested_less is ts = on_some_less (length ts) (comparison_read ts) _ (λ p e. choose p (less_of _ _ p (comparison_less ts) e) (is p.0))
  where
    choose : (p : Written × List Terminal) → length p.1 < length ts → (b : Bool) → LeavesLess (length ts) (if b then Some p else None)
    choose p h true = h
    choose p h false = tt

pub bound_less : (ts : List Terminal) → LeavesLess (length ts) (bound_read ts)
bound_less = tested_less (λ f. is_constraint f.tree)

pub weak_less : (ts : List Terminal) → LeavesLess (length ts) (weak_read ts)
weak_less = tested_less (λ f. is_weak_constraint f.tree)

pub kind_less : (k : AtomKind) (ts : List Terminal) → LeavesLess (length ts) (kind_read k ts)
kind_less kind.Any ts = atom_less ts
kind_less kind.Constraint ts = bound_less ts
kind_less kind.Weak ts = weak_less ts

number_less : (ts : List Terminal) → LeavesLess (length ts) (number_read ts)
number_less [] = tt
number_less (terminal.Number n ∷ ts) = omega arith
number_less (t ∷ ts) = tt

name_less : (ts : List Terminal) → LeavesLess (length ts) (name_read ts)
name_less [] = tt
name_less (terminal.Name x ∷ ts) = omega arith
name_less (t ∷ ts) = tt

equal_less : (ts us : List Terminal) → after_equal ts ≡ Some us → length us < length ts
equal_less [] us e = absurd (let no : ⊥ = cc in no)
equal_less (terminal.Relation Equal ∷ ts) us e = let same : ts ≡ us = cc in omega (arith, ap length same)
equal_less (t ∷ ts) us e = absurd (let no : ⊥ = cc in no)

pub above_less : (ts : List Terminal) → LeavesLess (length ts) (above_read ts)
above_less ts = choose (after_mark mark.Minus ts) refl
  where
    choose : (o : Option (List Terminal)) → after_mark mark.Minus ts ≡ o → LeavesLess (length ts) (on_some o (λ us. on_some (number_read us) (λ p. Some (negated_literal p.0, p.1)) None) (number_read ts))
    choose None e = number_less ts
    choose (Some us) e = on_some_less (length ts) (number_read us) _ (λ p f. omega (arith, mark_shorter mark.Minus ts us e, less_of _ _ p (number_less us) f))

below_leaves : (ts : List Terminal) → Leaves (length ts) (below_read ts)
below_leaves ts = choose (after_mark mark.Slash ts) refl
  where
    weaker : (us : List Terminal) → length us < length ts → (o : Option (Literal × List Terminal)) → LeavesLess (length us) o → Leaves (length ts) o
    weaker us less None l = tt
    weaker us less (Some p) l = omega (arith, l, less)

    choose : (o : Option (List Terminal)) → after_mark mark.Slash ts ≡ o → Leaves (length ts) (on_some o number_read (Some (Fits (pos 1), ts)))
    choose None e = omega arith
    choose (Some us) e = weaker us (mark_shorter mark.Slash ts us e) (number_read us) (number_less us)

pub entry_less : (ts : List Terminal) → LeavesLess (length ts) (entry_read ts)
entry_less ts = on_some_less (length ts) (name_read ts) _ (λ p e. equal p e (after_equal p.1) refl)
  where
    equal : (p : List ℕ × List Terminal) → name_read ts ≡ Some p → (o : Option (List Terminal)) → after_equal p.1 ≡ o
        → LeavesLess (length ts) (on_some o (λ us. on_some (above_read us) (λ q. on_some (below_read q.1) (λ r. Some (let made : PointEntry = record { name = p.0; above = q.0; below = r.0 } in made, r.1)) None) None) None)
    equal p e None f = tt
    equal p e (Some us) f = on_some_less (length ts) (above_read us) _ (λ q g. on_some_less (length ts) (below_read q.1) _ (λ r h.
        omega (arith, less_of _ _ p (name_less ts) e, equal_less p.1 us f, less_of _ _ q (above_less us) g, subst (Leaves (length q.1)) h (below_leaves q.1))))

ratio_less : (end : Mark) (ts : List Terminal) → LeavesLess (length ts) (ratio_read end ts)
ratio_less end ts = on_some_less (length ts) (above_read ts) _ (λ p e. on_some_less (length ts) (below_read p.1) _ (λ q f. on_some_less (length ts) (after_mark end q.1) _ (λ us g.
    omega (arith, less_of _ _ p (above_less ts) e, subst (Leaves (length p.1)) f (below_leaves p.1), mark_shorter end q.1 us g))))

pub axis_less : (ts : List Terminal) → LeavesLess (length ts) (axis_read ts)
axis_less ts = on_some_less (length ts) (after_mark mark.OpenBrace ts) _ (λ us e. on_some_less (length ts) (name_read us) _ (λ x f. on_some_less (length ts) (after_mark mark.Comma x.1) _ (λ vs g.
    on_some_less (length ts) (ratio_read mark.Comma vs) _ (λ low h. on_some_less (length ts) (ratio_read mark.Comma low.1) _ (λ high i. on_some_less (length ts) (ratio_read mark.CloseBrace high.1) _ (λ step j.
    omega (arith, mark_shorter mark.OpenBrace ts us e, less_of _ _ x (name_less us) f, mark_shorter mark.Comma x.1 vs g, less_of _ _ low (ratio_less mark.Comma vs) h, less_of _ _ high (ratio_less mark.Comma low.1) i, less_of _ _ step (ratio_less mark.CloseBrace high.1) j)))))))

pub items_of_atoms_more : (k : AtomKind) (ts us : List Terminal) (p : Written × List Terminal) → kind_read k ts ≡ Some p → after_mark mark.Comma p.1 ≡ Some us → items_read (kind_read k) ts ≡ onto (p.0 ∷ []) (items_read (kind_read k) us)
items_of_atoms_more k = items_more (kind_read k) (kind_less k)

pub items_of_atoms_last : (k : AtomKind) (ts : List Terminal) (p : Written × List Terminal) → kind_read k ts ≡ Some p → after_mark mark.Comma p.1 ≡ None → items_read (kind_read k) ts ≡ Some (p.0 ∷ [], p.1)
items_of_atoms_last k = items_last (kind_read k) (kind_less k)

pub items_of_atoms_none : (k : AtomKind) (ts : List Terminal) → kind_read k ts ≡ None → items_read (kind_read k) ts ≡ None
items_of_atoms_none k = items_none (kind_read k) (kind_less k)

pub items_of_entries_more : (ts us : List Terminal) (p : PointEntry × List Terminal) → entry_read ts ≡ Some p → after_mark mark.Comma p.1 ≡ Some us → items_read entry_read ts ≡ onto (p.0 ∷ []) (items_read entry_read us)
items_of_entries_more = items_more entry_read entry_less

pub items_of_entries_last : (ts : List Terminal) (p : PointEntry × List Terminal) → entry_read ts ≡ Some p → after_mark mark.Comma p.1 ≡ None → items_read entry_read ts ≡ Some (p.0 ∷ [], p.1)
items_of_entries_last = items_last entry_read entry_less

pub items_of_entries_none : (ts : List Terminal) → entry_read ts ≡ None → items_read entry_read ts ≡ None
items_of_entries_none = items_none entry_read entry_less

pub items_of_axes_more : (ts us : List Terminal) (p : GridAxis × List Terminal) → axis_read ts ≡ Some p → after_mark mark.Comma p.1 ≡ Some us → items_read axis_read ts ≡ onto (p.0 ∷ []) (items_read axis_read us)
items_of_axes_more = items_more axis_read axis_less

pub items_of_axes_last : (ts : List Terminal) (p : GridAxis × List Terminal) → axis_read ts ≡ Some p → after_mark mark.Comma p.1 ≡ None → items_read axis_read ts ≡ Some (p.0 ∷ [], p.1)
items_of_axes_last = items_last axis_read axis_less

pub items_of_axes_none : (ts : List Terminal) → axis_read ts ≡ None → items_read axis_read ts ≡ None
items_of_axes_none = items_none axis_read axis_less

pub items_of_wholes_more : (ts us : List Terminal) (p : Literal × List Terminal) → above_read ts ≡ Some p → after_mark mark.Comma p.1 ≡ Some us → items_read above_read ts ≡ onto (p.0 ∷ []) (items_read above_read us)
items_of_wholes_more = items_more above_read above_less

pub items_of_wholes_last : (ts : List Terminal) (p : Literal × List Terminal) → above_read ts ≡ Some p → after_mark mark.Comma p.1 ≡ None → items_read above_read ts ≡ Some (p.0 ∷ [], p.1)
items_of_wholes_last = items_last above_read above_less

pub items_of_wholes_none : (ts : List Terminal) → above_read ts ≡ None → items_read above_read ts ≡ None
items_of_wholes_none = items_none above_read above_less

-- the lemmas of one kind of items
pub ruleset atoms = (items_of_atoms_more, items_of_atoms_last, items_of_atoms_none, onto_onto, onto_none, is_some, is_none)

pub ruleset entries = (items_of_entries_more, items_of_entries_last, items_of_entries_none, onto_onto, onto_none, is_some, is_none)

pub ruleset axes = (items_of_axes_more, items_of_axes_last, items_of_axes_none, onto_onto, onto_none, is_some, is_none)

pub ruleset wholes = (items_of_wholes_more, items_of_wholes_last, items_of_wholes_none, onto_onto, onto_none, is_some, is_none)

-- one more item of a loop
pub loop_more : {X : Type 0} (read : List Terminal → Option (X × List Terminal)) (less : (ts : List Terminal) → LeavesLess (length ts) (read ts)) (whole : Option (List X × List Terminal)) (done all : List X) (x : X)
    (ts rest us : List Terminal) → whole ≡ onto done (items_read read ts) → read ts ≡ Some (x, rest) → after_mark mark.Comma rest ≡ Some us → all ≡ done ++ x ∷ [] → whole ≡ onto all (items_read read us)
loop_more read less whole done all x ts rest us before e at put =
    before ∙ ap (onto done) (items_more read less ts us (x, rest) e at) ∙ onto_onto done x (items_read read us) ∙ ap (λ xs. onto xs (items_read read us)) (sym put)

pub loop_less : {X : Type 0} (read : List Terminal → Option (X × List Terminal)) (less : (ts : List Terminal) → LeavesLess (length ts) (read ts)) (x : X) (ts rest us : List Terminal)
    → read ts ≡ Some (x, rest) → after_mark mark.Comma rest ≡ Some us → length us < length ts
loop_less read less x ts rest us e at = omega (arith, left_less read less ts (x, rest) e, mark_shorter mark.Comma rest us at)
