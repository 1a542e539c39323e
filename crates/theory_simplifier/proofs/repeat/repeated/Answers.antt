use Rattle.std.proofs.Common.{◌≡◌, ℕ, ◌<◌, ◌≤◌, min, sym, ap, subst, ◌∙◌, arith}
use Rattle.logic_meaning.specs.Sizes.{nodes}
use Rattle.normal_atoms.specs.Atoms.{context_of}
use Rattle.shape_theory.specs.AtomKit.{atom_kit}
use Rattle.shape_theory.specs.Pass.{pass, simplified}
use Rattle.formula_store.specs.Facts.{most_nodes}
use Rattle.formula_store.specs.Nodes.{tree}
use Rattle.theory_simplifier.specs.Known.{known_atoms}
use Rattle.theory_simplifier.proofs.Keeping.{keeps_then}
use Rattle.theory_simplifier.proofs.Passing.{passed_simplifiable}
use Rattle.theory_simplifier.proofs.Repeating.{simplified_again, simplified_done}
use Rattle.theory_simplifier.proofs.repeat.repeated.Goals as goal

pub returns-in_err-next-clause-kept : goal.returns-in_err-next-clause-kept
returns-in_err-next-clause-kept c = keeps_then c.args.store.now c.loop-next.store c.passed.new.store c.loop-next.invariant.kept c.passed.ensures.kept

pub returns-then-fewer-nodes-clause-kept : goal.returns-then-fewer-nodes-clause-kept
returns-then-fewer-nodes-clause-kept c = keeps_then c.args.store.now c.loop-next.store c.passed.new.store c.loop-next.invariant.kept c.passed.ensures.kept

-- the counts tell which formula has fewer nodes
not_fewer : (n m f g : ℕ) → n ≡ f → n < most_nodes → m ≡ min g most_nodes → n ≤ m → f ≤ g
not_fewer n m f g e l q h = omega arith

are_fewer : (n m f g : ℕ) → n ≡ f → n < most_nodes → m ≡ min g most_nodes → m < n → (m ≡ g) × (g < f)
are_fewer n m f g e l q h = (omega arith, omega arith)

pub returns-then-fewer-nodes-clause-made : goal.returns-then-fewer-nodes-clause-made
returns-then-fewer-nodes-clause-made c =
    let kit = atom_kit (context_of c.args.context) in
    let ks = known_atoms c.args.known.now in
    let f = tree c.loop-next.store c.loop-next.formula in
    let g = tree c.passed.new.store c.in_ok-next.next in
    let p : g ≡ pass kit f ks = c.in_ok-next.ensures.made.same ∙ ap (λ fs. pass kit f (known_atoms fs)) c.loop-next.invariant.known in
    let more : nodes f ≤ nodes (pass kit f ks) = subst (λ h. nodes f ≤ nodes h) p
    (not_fewer c.loop-next.nodes c.facts-fewer.result.nodes (nodes f) (nodes g) c.loop-next.invariant.counted c.loop-next.invariant.small c.facts-fewer.ensures.facts.nodes_are c.if-fewer-nodes.true) in
    record { is = c.in_ok-next.ensures.made.is; same = p ∙ sym (c.loop-next.invariant.same ∙ simplified_done kit ks f more) }

pub loop-next-preserved : goal.loop-next-preserved
loop-next-preserved c =
    let o = context_of c.args.context in
    let kit = atom_kit o in
    let ks = known_atoms c.args.known.now in
    let f = tree c.loop-next.store c.loop-next.formula in
    let g = tree c.passed.new.store c.in_ok-next.next in
    let p : g ≡ pass kit f ks = c.in_ok-next.ensures.made.same ∙ ap (λ fs. pass kit f (known_atoms fs)) c.loop-next.invariant.known in
    let few = are_fewer c.loop-next.nodes c.facts-fewer.result.nodes (nodes f) (nodes g) c.loop-next.invariant.counted c.loop-next.invariant.small c.facts-fewer.ensures.facts.nodes_are c.if-fewer-nodes.false in
    let less : nodes (pass kit f ks) < nodes f = subst (λ h. nodes h < nodes f) p few.1 in
    let small : c.loop-next.nodes < most_nodes = c.loop-next.invariant.small in
    let below : c.facts-fewer.result.nodes < c.loop-next.nodes = c.if-fewer-nodes.false in
    record {
      is = c.in_ok-next.ensures.made.is;
      normal = passed_simplifiable o f g ks p c.loop-next.invariant.normal;
      known = c.in_ok-next.ensures.known ∙ c.loop-next.invariant.known;
      kept = keeps_then c.args.store.now c.loop-next.store c.passed.new.store c.loop-next.invariant.kept c.passed.ensures.kept;
      counted = few.0;
      small = omega (arith, small, below);
      same = c.loop-next.invariant.same ∙ simplified_again kit ks f less ∙ ap (λ h. simplified kit h ks) (sym p);
    }
