use Rattle.std.proofs.Common.{◌≡◌, ℕ, ◌+◌, ◌-◌, ◌<◌, ◌≤◌, length, take, Bool, Option, List, sym, ap, ◌∙◌, arith}
use Rattle.normal_atoms.specs.Atoms.{context_of, atom_of}
use Rattle.logic_meaning.specs.Context.{Context}
use Rattle.logic_meaning.specs.Atom.{Atom}
use Rattle.theory_simplifier.specs.declared.known.Frame.{Frame}
use Rattle.shape_theory.specs.AtomKit.{atom_kit}
use Rattle.shape_theory.specs.Pass.{decided}
use Rattle.theory_simplifier.specs.Known.{known_atoms}
use Rattle.theory_simplifier.proofs.Reading.{some_is, no_truth}
use Rattle.theory_simplifier.proofs.Knowing.{list_tells, list_silent, name_hides, name_passes, frame_read}
use Rattle.theory_simplifier.proofs.known.Known.decided.Goals as goal

-- what the outermost frames say
abbrev upto : Context → Atom → List Frame → ℕ → Option Bool
upto o a fs n = decided (atom_kit o) (known_atoms (take n fs)) a

last : (o : Context) (a : Atom) (fs : List Frame) (p : ℕ) → 0 < p → upto o a fs p ≡ upto o a fs ((p - 1) + 1)
last o a fs p h = let back : p ≡ (p - 1) + 1 = omega arith in ap (upto o a fs) back

there : (fs : List Frame) (p : ℕ) → 0 < p → p ≤ length fs → p - 1 < length fs
there fs p h k = omega arith

pub returns-then-is_some : goal.returns-then-is_some
returns-then-is_some c =
    let b = some_is c.decided-truth.result (sym c.is_some.ensures ∙ c.if-is_some.true) in
    sym (c.loop-place.invariant.same ∙ last (context_of c.args.context) (atom_of c.args.atom.now) c.args.self.now c.loop-place.place c.loop-place-test.true
    ∙ list_tells (context_of c.args.context) (atom_of c.args.atom.now) c.requires.normal.normal c.args.self.now c.requires.known (c.loop-place.place - 1) (there c.args.self.now c.loop-place.place c.loop-place-test.true c.loop-place.invariant.within) c.index.result.now
    c.in-Beside.list (frame_read c.self.inside.frames.items c.args.self.now (c.loop-place.place - 1) c.index.result.now _ c.self.view_is c.index.ensures c.in-Beside.is) c.decided-truth.result b.0 c.decided-truth.ensures b.1)

pub loop-place-preserved-else-is_some : goal.loop-place-preserved-else-is_some
loop-place-preserved-else-is_some c = record {
  within = (let h = c.loop-place.invariant.within in omega arith);
  same = c.loop-place.invariant.same ∙ last (context_of c.args.context) (atom_of c.args.atom.now) c.args.self.now c.loop-place.place c.loop-place-test.true
      ∙ list_silent (context_of c.args.context) (atom_of c.args.atom.now) c.requires.normal.normal c.args.self.now c.requires.known (c.loop-place.place - 1) (there c.args.self.now c.loop-place.place c.loop-place-test.true c.loop-place.invariant.within) c.index.result.now
      c.in-Beside.list (frame_read c.self.inside.frames.items c.args.self.now (c.loop-place.place - 1) c.index.result.now _ c.self.view_is c.index.ensures c.in-Beside.is)
      (sym c.decided-truth.ensures ∙ no_truth c.decided-truth.result (sym c.is_some.ensures ∙ c.if-is_some.false));
}

pub returns-then-has_name : goal.returns-then-has_name
returns-then-has_name c =
    sym (c.loop-place.invariant.same ∙ last (context_of c.args.context) (atom_of c.args.atom.now) c.args.self.now c.loop-place.place c.loop-place-test.true
    ∙ name_hides (context_of c.args.context) (atom_of c.args.atom.now) c.requires.normal.normal c.args.self.now c.requires.known (c.loop-place.place - 1) (there c.args.self.now c.loop-place.place c.loop-place-test.true c.loop-place.invariant.within) c.index.result.now
    c.in-Under.x (frame_read c.self.inside.frames.items c.args.self.now (c.loop-place.place - 1) c.index.result.now _ c.self.view_is c.index.ensures c.in-Under.is) (sym c.has_name.ensures ∙ c.if-has_name.true))

pub loop-place-preserved : goal.loop-place-preserved
loop-place-preserved c = record {
  within = (let h = c.loop-place.invariant.within in omega arith);
  same = c.loop-place.invariant.same ∙ last (context_of c.args.context) (atom_of c.args.atom.now) c.args.self.now c.loop-place.place c.loop-place-test.true
      ∙ name_passes (context_of c.args.context) (atom_of c.args.atom.now) c.requires.normal.normal c.args.self.now c.requires.known (c.loop-place.place - 1) (there c.args.self.now c.loop-place.place c.loop-place-test.true c.loop-place.invariant.within) c.index.result.now
      c.in-Under.x (frame_read c.self.inside.frames.items c.args.self.now (c.loop-place.place - 1) c.index.result.now _ c.self.view_is c.index.ensures c.in-Under.is) (sym c.has_name.ensures ∙ c.if-has_name.false);
}
