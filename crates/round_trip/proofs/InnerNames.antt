-- The names after commands inside a statement are ones that a script can write, each once.
use Rattle.std.proofs.Common.{ℕ, List, subst, sym}
use Rattle.logic_meaning.specs.Tree.{Tree}
use Rattle.language_meaning.specs.Holes.{Nest, Nests, nest, alone, beside}
use Rattle.language_meaning.specs.Inner.{command_of}
use Rattle.round_trip.specs.Round.{AreVariables}
use Rattle.program_meaning.specs.State.{State, with_names, with_answers}
use Rattle.program_meaning.specs.Inside.{Gives, GivesAll}
use Rattle.redlog_run.proofs.NamesAfter.{answer_names_distinct, answer_names_variables}

mutual
  after_one : (n : Nest) (s : State) (limit : ℕ) (t : Tree) (names : List (List ℕ)) → AreVariables s.names → Gives n s limit t names → AreVariables names
  after_one (nest c ns) s limit t names v h =
      let before = after_all ns s limit h.0 h.1 v h.2 in
      let z = with_answers (with_names s h.1) h.0 in
      record {
        distinct = answer_names_distinct z (command_of c) names before.distinct h.3.named;
        variables = answer_names_variables z (command_of c) names before.variables h.3.named;
      }

  pub after_all : (ns : Nests) (s : State) (limit : ℕ) (ts : List Tree) (names : List (List ℕ)) → AreVariables s.names → GivesAll ns s limit ts names → AreVariables names
  after_all alone s limit ts names v h = subst AreVariables (sym h.1) v
  after_all (beside n ns) s limit ts names v h =
      let between = after_one n s limit h.0 h.2 v h.4 in
      after_all ns (with_names s h.2) limit h.1 names between h.5
