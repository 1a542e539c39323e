-- Commands inside formulas in the order of their last tokens.
use Rattle.std.specs.Prelude.{ℕ, List, [], ◌∷◌, ◌++◌}
use Rattle.language_meaning.specs.Holes.{Nest, Nests, nest, alone, beside, command_count}

abbrev mutual
  -- a command after those inside it
  pub in_order : Nest → List Nest
  in_order (nest c ns) = all_in_order ns ++ nest c ns ∷ []

  -- commands, each after those inside it
  pub all_in_order : Nests → List Nest
  all_in_order alone = []
  all_in_order (beside n ns) = in_order n ++ all_in_order ns

-- how many commands stand in the command and in no other inside it
abbrev pub inside_count : Nest → ℕ
inside_count (nest c ns) = command_count ns
