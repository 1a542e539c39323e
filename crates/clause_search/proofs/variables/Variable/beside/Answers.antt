use Rattle.normal_atoms.specs.Atoms.{context_of, atom_of}
use Rattle.clause_search.proofs.RowsHold.{atom_rows}
use Rattle.clause_search.proofs.variables.Variable.beside.Goals as goal

pub returns-clause-rows : goal.returns-clause-rows
returns-clause-rows c = λ nodes. atom_rows (context_of c.args.context) (atom_of c.args.atom) c.in_ok-rows.rows c.in_ok-rows.ensures.rows
