use Rattle.std.proofs.Common.{map}
use Rattle.normal_atoms.specs.Atoms.{context_of, atom_of}
use Rattle.formula_store.specs.Nodes.{tree}
use Rattle.form_commands.proofs.EliminatedLemmas.{simplified_quantifies, simplified_names_no_other, simplified_free}
use Rattle.form_commands.proofs.forms.simplified.Goals as goal

pub returns-in-Ok-clause-simplified : goal.returns-in-Ok-clause-simplified
returns-in-Ok-clause-simplified c =
    let theory = context_of c.args.context in
    let ks = map atom_of c.args.atoms.now in
    let f = tree c.args.store.now c.args.id in
    let t = tree c.simplify.new.store c.in-Ok.id in
    let h = c.in-Ok.ensures in
    record {
      form = h.simplified;
      truth = h.truth;
      reduced = h.reduced;
      orderly = h.shape;
      normal = h.normal;
      free = simplified_free theory ks f t h.simplified h.shape;
      bound = simplified_quantifies theory ks f t h.simplified;
      quantified = simplified_names_no_other theory ks f t h.simplified;
      names = h.names;
      nodes = h.nodes;
      atoms = h.atoms;
      text = h.text;
    }
