-- The level of a token: how deeply it is nested.
use Rattle.std.specs.Prelude.{ℕ, suc, ◌+◌, ◌<◌, List, [], ◌∷◌, ◌⊎◌, sum_by}
use Rattle.language_meaning.specs.declared.level.Change.{Change}
use Rattle.language_meaning.specs.declared.level.Change.TheVariants as change
use Rattle.language_meaning.specs.declared.level.Group.{Group}
use Rattle.language_meaning.specs.declared.terminal.Terminal.{Terminal}
use Rattle.language_meaning.specs.declared.terminal.Terminal.TheVariants as terminal
use Rattle.language_meaning.specs.declared.terminal.Mark.TheVariants as mark
use Rattle.language_meaning.specs.declared.terminal.Word.TheVariants as word

-- A run is a row of neighbouring words among not, rlnnf, rlpnf, rldnf, rlcnf, rlsimpl and rlqe: those that stand before a part of a formula.

-- What counts in an open group: opened is 1 for its bracket with each word of the run before that, arrows are the words
-- impl, repl and equiv since the group's last comma, and slashes its / since its last token that no product goes on with.

-- what an open group adds to the level of the tokens in it
abbrev pub weight : Group → ℕ
weight g = g.opened + g.arrows + g.slashes

-- what stands outside all brackets
abbrev pub outside : Group
outside = record { opened = 0; arrows = 0; slashes = 0 }

-- how many of these tokens, the last of which comes first, are the run that ends there
abbrev pub run : List Terminal → ℕ
run [] = 0
run (terminal.Word word.Not ∷ before) = suc (run before)
run (terminal.Word word.Nnf ∷ before) = suc (run before)
run (terminal.Word word.Pnf ∷ before) = suc (run before)
run (terminal.Word word.Dnf ∷ before) = suc (run before)
run (terminal.Word word.Cnf ∷ before) = suc (run before)
run (terminal.Word word.Simpl ∷ before) = suc (run before)
run (terminal.Word word.Qe ∷ before) = suc (run before)
run (_ ∷ before) = 0

-- the run that stands just before a bracket, or just before the ex or all of one
abbrev pub run_before : List Terminal → ℕ
run_before [] = 0
run_before (terminal.Word word.Ex ∷ before) = run before
run_before (terminal.Word word.All ∷ before) = run before
run_before (t ∷ before) = run (t ∷ before)

-- an open group after one more token that is no bracket
abbrev pub after : Terminal → Group → Group
after (terminal.Number n) g = g
after (terminal.Name x) g = g
after (terminal.Mark mark.Times) g = g
after (terminal.Mark mark.Power) g = g
after (terminal.Mark mark.Slash) g = record g { slashes = suc g.slashes }
after (terminal.Mark mark.Comma) g = record g { arrows = 0; slashes = 0 }
after (terminal.Word word.Impl) g = record g { arrows = suc g.arrows; slashes = 0 }
after (terminal.Word word.Repl) g = record g { arrows = suc g.arrows; slashes = 0 }
after (terminal.Word word.Equiv) g = record g { arrows = suc g.arrows; slashes = 0 }
after _ g = record g { slashes = 0 }

-- how a token changes the open groups
abbrev pub change_of : Terminal → Change
change_of (terminal.Mark mark.Open) = change.Opens
change_of (terminal.Mark mark.OpenBrace) = change.Opens
change_of (terminal.Mark mark.Close) = change.Closes
change_of (terminal.Mark mark.CloseBrace) = change.Closes
change_of _ = change.Inside

-- the inmost group is closed, and what it stands in goes on; what stands outside all brackets is not closed
abbrev pub closing : List Group → List Group
closing [] = []
closing (g ∷ []) = record g { slashes = 0 } ∷ []
closing (g ∷ h ∷ gs) = h ∷ gs

-- the token stands in the inmost group
abbrev pub going_on : Terminal → List Group → List Group
going_on t [] = []
going_on t (g ∷ gs) = after t g ∷ gs

-- the open groups after one more token, which a run of so many words stands before
abbrev pub changed : Change → ℕ → Terminal → List Group → List Group
changed change.Opens words t gs = record { opened = suc words; arrows = 0; slashes = 0 } ∷ gs
changed change.Closes words t gs = closing gs
changed change.Inside words t gs = going_on t gs

-- the open groups after these tokens, the last of which comes first; the inmost group comes first
unfoldable pub groups : List Terminal → List Group
groups [] = outside ∷ []
groups (t ∷ before) = changed (change_of t) (run_before before) t (groups before)

-- the level of the last of these tokens, which comes first. A run counts where it ends, so each of its words counts those before it
abbrev pub level : List Terminal → ℕ
level ts = sum_by weight (groups ts) + run ts

-- some token of after has a level past the limit, where these tokens stand before it, the last of which comes first
abbrev pub Passes : ℕ → List Terminal → List Terminal → Type 0
Passes limit before [] = ⊥
Passes limit before (t ∷ ts) = (limit < level (t ∷ before)) ⊎ Passes limit (t ∷ before) ts
