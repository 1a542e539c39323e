-- What the count of levels keeps of the tokens so far.
use Rattle.std.specs.Prelude.{◌≡◌, ℕ, ◌+◌, ◌≤◌, Bool, true, false, List, ◌∷◌, reverse, sum_by}
use Rattle.language_meaning.specs.declared.level.Group.{Group}
use Rattle.redlog_tokens.specs.declared.level.Levels.{Levels}
use Rattle.language_meaning.specs.declared.terminal.Terminal.{Terminal}
use Rattle.language_meaning.specs.declared.terminal.Terminal.TheVariants as terminal
use Rattle.language_meaning.specs.declared.terminal.Word.TheVariants as word
use Rattle.language_meaning.specs.Levels.{weight, groups, run, run_before}

-- the level of the last token
abbrev pub count : Levels → ℕ
count l = l.total + weight l.inmost + l.run

-- the open groups, the inmost one first
abbrev pub stack : Levels → List Group
stack l = l.inmost ∷ reverse l.around.items

-- the total counts the groups around
abbrev pub IsTotal : Levels → Type 0
IsTotal l = l.total ≡ sum_by weight (reverse l.around.items)

-- no level passed the limit so far
pub record IsSmall (l : Levels) : Type 0 where
  pub total : IsTotal l
  pub level : count l ≤ 512
  pub held : l.held ≤ 512

-- what is kept of these tokens, the last of which comes first
pub record AreLevels (l : Levels) (before : List Terminal) : Type 0 where
  pub open_groups : groups before ≡ stack l
  pub run : l.run ≡ run before
  pub held : run_before before ≡ l.run + l.held

-- ex or all
abbrev pub is_binder : Terminal → Bool
is_binder (terminal.Word word.Ex) = true
is_binder (terminal.Word word.All) = true
is_binder _ = false

-- a word of which neighbours form a run
abbrev pub is_of_run : Terminal → Bool
is_of_run (terminal.Word word.Not) = true
is_of_run (terminal.Word word.Nnf) = true
is_of_run (terminal.Word word.Pnf) = true
is_of_run (terminal.Word word.Dnf) = true
is_of_run (terminal.Word word.Cnf) = true
is_of_run (terminal.Word word.Simpl) = true
is_of_run (terminal.Word word.Qe) = true
is_of_run _ = false
