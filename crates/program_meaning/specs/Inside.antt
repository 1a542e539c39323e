-- Commands inside formulas: how they are answered, one after the other in the order of their last tokens, and why one of them is refused. Before the first one the
-- variables of the whole statement have their numbers.
use Rattle.std.specs.Prelude.{◌≡◌, ◌⊎◌, ℕ, List, [], ◌∷◌, false, None}
use Rattle.logic_meaning.specs.Tree.{Tree}
use Rattle.language_meaning.specs.Holes.{InnerTree, Nest, Nests, nest, alone, beside}
use Rattle.language_meaning.specs.Inner.{command_of}
use Rattle.program_meaning.specs.declared.line.StatementError.{StatementError}
use Rattle.program_meaning.specs.State.{State, with_names, with_answers}
use Rattle.program_meaning.specs.Uses.{Use}
use Rattle.program_meaning.specs.Meaning.{Meaning, MayGive, meaning}
use Rattle.program_meaning.specs.Causes.{IsFirst, IsAccepted}

-- what such a command gives is neither bound nor printed
abbrev pub inner_use : Use
inner_use = record { target = None; printed = false }

-- it means what it does by itself
abbrev pub inner_meaning : InnerTree → Meaning
inner_meaning c = meaning (command_of c)

-- No cause of a refusal applies to the command, and this is a formula that it may give. The state has the answers of the commands inside it; these are the names after it.
pub record IsInnerAnswer (m : Meaning) (s : State) (limit : ℕ) (t : Tree) (names : List (List ℕ)) : Type 0 where
  pub accepted : IsAccepted m s limit inner_use
  pub allowed : MayGive m.answer s limit t
  pub named : m.names s names

abbrev mutual
  -- those inside the command are answered, and then it is, with this formula
  pub Gives : Nest → State → ℕ → Tree → List (List ℕ) → Type 0
  Gives (nest c ns) s limit t names = (ts : List Tree) × (before : List (List ℕ)) × GivesAll ns s limit ts before × IsInnerAnswer (inner_meaning c) (with_answers (with_names s before) ts) limit t names

  -- each of the commands is answered, in the order of the text, with these formulas
  pub GivesAll : Nests → State → ℕ → List Tree → List (List ℕ) → Type 0
  GivesAll alone s limit ts names = (ts ≡ []) × (names ≡ s.names)
  GivesAll (beside n ns) s limit ts names = (t : Tree) × (us : List Tree) × (between : List (List ℕ)) × (ts ≡ t ∷ us) × Gives n s limit t between × GivesAll ns (with_names s between) limit us names

abbrev mutual
  -- one inside the command is refused with the word, or those are answered and the command is refused
  pub Stops : Nest → State → ℕ → StatementError → Type 0
  Stops (nest c ns) s limit e = SomeStops ns s limit e ⊎ ((ts : List Tree) × (before : List (List ℕ)) × GivesAll ns s limit ts before × IsFirst (inner_meaning c) (with_answers (with_names s before) ts) limit inner_use e)

  -- some command is refused with the word, and those before it are answered
  pub SomeStops : Nests → State → ℕ → StatementError → Type 0
  SomeStops alone s limit e = ⊥
  SomeStops (beside n ns) s limit e = Stops n s limit e ⊎ ((t : Tree) × (between : List (List ℕ)) × Gives n s limit t between × SomeStops ns (with_names s between) limit e)
