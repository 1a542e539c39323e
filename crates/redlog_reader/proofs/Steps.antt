-- Single steps of reading.
use Rattle.std.proofs.Common.{◌≡◌, ℕ, ◌<◌, ◌≤◌, List, [], ◌∷◌, refl, ap, ◌∙◌, arith}
use Rattle.std.specs.Prelude.{Option, Some, None, if◌then◌else◌}
use Rattle.std.proofs.lemmas.Bool.{lt-ltb, le-ltb, le-leb}
use Rattle.logic_meaning.specs.declared.junction.Junction.TheVariants.{Conjunction, Disjunction}
use Rattle.language_meaning.specs.Trees.{TermTree}
use Rattle.language_meaning.specs.declared.terminal.Terminal.{Terminal}
use Rattle.language_meaning.specs.declared.terminal.Terminal.TheVariants as terminal
use Rattle.language_meaning.specs.declared.terminal.Mark.TheVariants as mark
use Rattle.redlog_reader.specs.declared.pending.Arrow.TheVariants as arrow
use Rattle.language_meaning.specs.Grammar.{Written}
use Rattle.redlog_reader.specs.Machine.{Reading, term_of, formula_of, Frame, Group, Quantified, Congruence, Negation, Compares, Added, Multiplied, Listed, Arrows, Commanded, Assumes, Relates, Mode, Wants, Fresh, Held, Outcome, Fails, Stops, Moves, strength, level, takes_last, takes, on_term, on_formula, ended, folded, continued, pushed, operated, joined, held, step, run}

-- how loosely what comes next binds
abbrev pub strength_at : List Terminal → ℕ
strength_at [] = 9
strength_at (t ∷ ts) = strength t

-- from ts on, with these frames open, a term is read, and rest is left
pub record ReadsTerm (goal : ℕ) (ts : List Terminal) (fs : List Frame) (mode : Mode) (after : Reading → Mode) (rest : List Terminal) (gs : List Frame) (t : TermTree) : Type 0 where
  pub reading : Reading
  pub is : term_of reading ≡ Some t
  pub runs : run goal ts fs mode ≡ run goal rest gs (after reading)

-- the same of a formula
pub record ReadsFormula (goal : ℕ) (ts : List Terminal) (fs : List Frame) (mode : Mode) (after : Reading → Mode) (rest : List Terminal) (gs : List Frame) (f : Written) : Type 0 where
  pub reading : Reading
  pub is : formula_of reading ≡ Some f
  pub runs : run goal ts fs mode ≡ run goal rest gs (after reading)

-- what is read after a step
abbrev pub outcome : ℕ → Terminal → List Terminal → Outcome → Option (Reading × List Terminal)
outcome goal t ts Fails = None
outcome goal t ts (Stops h) = Some (h, t ∷ ts)
outcome goal t ts (Moves gs next) = run goal ts gs next

-- one step
pub moves : (goal : ℕ) (t : Terminal) (ts : List Terminal) (fs : List Frame) (mode : Mode) {gs : List Frame} {next : Mode} → step goal fs mode t ≡ Moves gs next → run goal (t ∷ ts) fs mode ≡ run goal ts gs next
moves goal t ts fs mode e = ap (outcome goal t ts) e

pub is_term : {X : Type 0} (h : Reading) {t : TermTree} (f : TermTree → X) (other : X) → term_of h ≡ Some t → on_term (term_of h) f other ≡ f t
is_term h f other e = ap (λ o. on_term o f other) e

pub is_formula : {X : Type 0} (h : Reading) {t : Written} (f : Written → X) (other : X) → formula_of h ≡ Some t → on_formula (formula_of h) f other ≡ f t
is_formula h f other e = ap (λ o. on_formula o f other) e

pub takes_level : (frame : Frame) → takes_last frame ≤ level frame
takes_level Group = omega arith
takes_level (Quantified quantifier xs) = omega arith
takes_level (Congruence positive ts) = omega arith
takes_level Negation = omega arith
takes_level (Compares r t) = omega arith
takes_level (Added flag ts) = omega arith
takes_level (Multiplied flag ts) = omega arith
takes_level (Listed Conjunction fs) = omega arith
takes_level (Listed Disjunction fs) = omega arith
takes_level (Arrows arrow.Impl f) = omega arith
takes_level (Arrows arrow.Repl f) = omega arith
takes_level (Arrows arrow.Equiv f) = omega arith
takes_level (Commanded i) = omega arith
takes_level (Assumes c) = omega arith
takes_level (Relates c r t) = omega arith

-- what binds looser than the inmost frame ends no frame
pub unfolded : (goal s : ℕ) (fs : List Frame) (h : Reading) → s ≤ takes goal fs → folded s fs h ≡ Some (fs, h)
unfolded goal s [] h le = refl
unfolded goal s (frame ∷ fs) h le =
    ap (λ b. if b then (elim (ended frame h) [ None ↦ None | Some g ↦ folded s fs g ]) else Some (frame ∷ fs, h))
    (le-ltb (level frame) s (omega (arith, takes_level frame)))

pub unstopped : (goal : ℕ) (t : Terminal) (fs : List Frame) (h : Reading) → strength t ≤ takes goal fs → joined goal t fs h ≡ operated goal t fs h
unstopped goal t [] h le = ap (λ b. if b then Stops h else operated goal t [] h) (le-ltb goal (strength t) le)
unstopped goal t (frame ∷ fs) h le = refl

-- an operator that stands within the inmost frame
pub within : (goal : ℕ) (t : Terminal) (fs : List Frame) (h : Reading) → strength t ≤ takes goal fs → held goal t fs h ≡ operated goal t fs h
within goal t fs h le = ap (continued goal t) (unfolded goal (strength t) fs h le) ∙ unstopped goal t fs h le

pub put : (goal : ℕ) (frame : Frame) (fs : List Frame) → level frame ≤ takes goal fs → pushed goal frame fs ≡ Moves (frame ∷ fs) Wants
put goal frame fs le = ap (λ b. if b then Moves (frame ∷ fs) Wants else Fails) (le-leb (level frame) (takes goal fs) le)

pub folded_end : (s : ℕ) (frame : Frame) (fs : List Frame) (h g : Reading) → level frame < s → ended frame h ≡ Some g → folded s (frame ∷ fs) h ≡ folded s fs g
folded_end s frame fs h g less e =
    ap (λ b. if b then (elim (ended frame h) [ None ↦ None | Some k ↦ folded s fs k ]) else Some (frame ∷ fs, h)) (lt-ltb (level frame) s less)
    ∙ ap (λ o. elim o [ None ↦ None | Some k ↦ folded s fs k ]) e

-- the frame ends before what binds looser
pub ends : (goal : ℕ) (rest : List Terminal) (frame : Frame) (fs : List Frame) (h g : Reading) → level frame < strength_at rest → ended frame h ≡ Some g
    → run goal rest (frame ∷ fs) (Held h) ≡ run goal rest fs (Held g)
ends goal [] frame fs h g less e = refl
ends goal (t ∷ ts) frame fs h g less e =
    ap (λ o. outcome goal t ts (continued goal t o)) (folded_end (strength t) frame fs h g less e)

-- no power follows
pub no_power : (goal : ℕ) (rest : List Terminal) (fs : List Frame) (h : Reading) → 0 < strength_at rest → run goal rest fs (Fresh h) ≡ run goal rest fs (Held h)
no_power goal [] fs h less = refl
no_power goal (terminal.Mark mark.Power ∷ ts) fs h less = absurd (omega (arith, less))
no_power goal (t ∷ ts) fs h less = refl

pub level_kept : (s : ℕ) (frame : Frame) (fs : List Frame) (h : Reading) → s ≤ level frame → folded s (frame ∷ fs) h ≡ Some (frame ∷ fs, h)
level_kept s frame fs h le = ap (λ b. if b then (elim (ended frame h) [ None ↦ None | Some g ↦ folded s fs g ]) else Some (frame ∷ fs, h)) (le-ltb (level frame) s le)

pub no_term : {X : Type 0} (h : Reading) (f : TermTree → X) (other : X) → term_of h ≡ None → on_term (term_of h) f other ≡ other
no_term h f other e = ap (λ o. on_term o f other) e

pub no_formula : {X : Type 0} (h : Reading) (f : Written → X) (other : X) → formula_of h ≡ None → on_formula (formula_of h) f other ≡ other
no_formula h f other e = ap (λ o. on_formula o f other) e

-- the term or the formula that was read, or that there is none
pub ruleset choices = (is_term, is_formula, no_term, no_formula)
