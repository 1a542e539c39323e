-- Rows of what variables stand for.
use Rattle.std.proofs.Common.{None}
use Rattle.logic_meaning.specs.Context.{Context}
use Rattle.logic_meaning.specs.Formula.{One}
use Rattle.logic_meaning.specs.Atom.{Atom}
use Rattle.logic_meaning.specs.Tree.{Tree}
use Rattle.atom_pruning.specs.declared.rows.AtomRows.{AtomRows}
use Rattle.atom_pruning.specs.Rows.{AreRowsOf}
use Rattle.atom_pruning.proofs.Decided.{of_fields, says_stable}
use Rattle.clause_search.specs.Variables.{HasRows}

-- those of an atom
pub atom_rows : (c : Context) (a : Atom) (r : AtomRows) → AreRowsOf c a r → HasRows c (One a) r
atom_rows c a r given = record {
  holds = λ p o n. given.holds p o (says_stable a p (of_fields c p o) n);
  fails = λ p o n. given.fails p o n;
}

-- a formula may have none
pub no_rows : (c : Context) (f : Tree) → HasRows c f (record { holds = None; fails = None })
no_rows c f = record { holds = λ p o n. tt; fails = λ p o n. tt }
