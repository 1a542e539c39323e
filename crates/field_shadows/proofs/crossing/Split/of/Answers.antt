use Rattle.std.proofs.Common.{◌≡◌, inl, inr, ◌+◌, true, List, [], ◌∷◌, ◌++◌, map, take, ap, sym, ◌∙◌, subst, rules}
use Rattle.logic_meaning.specs.Some.{Among, EachOf}
use Rattle.logic_meaning.specs.Atom.{Atom}
use Rattle.elimination_theory.proofs.SomeListed.{each_append, each_map}
use Rattle.normal_atoms.specs.declared.atoms.Atom.{Atom as Written}
use Rattle.normal_atoms.specs.Atoms.{atom_of}
use Rattle.field_shadows.specs.declared.hold.Bound.{Bound}
use Rattle.field_shadows.specs.declared.crossing.Split.{Split}
use Rattle.field_shadows.specs.Holds.{atom_of_bound}
use Rattle.field_shadows.specs.Bounds.{IsUpper, IsLower, IsSeen}
use Rattle.field_shadows.proofs.Listing.{each_next, each_all, each_mapped_back, among_at, among_mapped}
use Rattle.field_shadows.proofs.Steps.{bound_stays, bound_added, seen_stays, rest_held}
use Rattle.field_shadows.proofs.crossing.Split.of.Goals as goal
use Rattle.field_shadows.proofs.crossing.Split.of.Goals.{in-Absent, in-Upper+in_ok-push-in-Upper, in-Lower+in_ok-push-in-Lower, in-Equation}

pub loop-atom-preserved : goal.loop-atom-preserved
loop-atom-preserved c =
    let x = c.args.name.number in
    let atoms = c.args.atoms.now in
    let us = map atom_of atoms in
    let a = c.atom-item.result in
    let i = c.loop-atom.atom-index in
    let s = c.loop-atom.split in
    let t = c.match-of.split in
    let before = c.loop-atom.invariant in
    let here : Among us (atom_of a) = among_mapped atom_of atoms a (among_at atoms i a c.loop-atom-test.true c.atom-item.is) in
    let next : ((u : Atom) → Among (map atom_of_bound s.uppers.items) u → Among (map atom_of_bound t.uppers.items) u)
    → ((u : Atom) → Among (map atom_of_bound s.lowers.items) u → Among (map atom_of_bound t.lowers.items) u) → (s.others ≡ true → t.others ≡ true) → IsSeen x t (atom_of a) → EachOf (λ b. IsSeen x t (atom_of b)) (take (i + 1) atoms) =
    λ f g h k.
    each_next (λ b. IsSeen x t (atom_of b)) atoms i a c.loop-atom-test.true c.atom-item.is
    (each_map (λ (b : Written). IsSeen x s (atom_of b)) (λ (b : Written). IsSeen x t (atom_of b)) (λ b. seen_stays x s t f g h (atom_of b)) (take i atoms) before.seen) k in
    let same_uppers : t.uppers.items ≡ s.uppers.items → (u : Atom) → Among (map atom_of_bound s.uppers.items) u → Among (map atom_of_bound t.uppers.items) u = λ e u m. subst (λ (bs : List Bound). Among (map atom_of_bound bs) u) (sym e) m in
    let same_lowers : t.lowers.items ≡ s.lowers.items → (u : Atom) → Among (map atom_of_bound s.lowers.items) u → Among (map atom_of_bound t.lowers.items) u = λ e u m. subst (λ (bs : List Bound). Among (map atom_of_bound bs) u) (sym e) m in
    elim c.match-of.branch [
      | in-Absent w ↦
          let up : t.uppers.items ≡ s.uppers.items = ap (λ (r : Split). r.uppers.items) w.split-is in
          let low : t.lowers.items ≡ s.lowers.items = ap (λ (r : Split). r.lowers.items) w.split-is in
          let other : t.others ≡ s.others = ap (λ (r : Split). r.others) w.split-is in
          record {
            uppers = subst (EachOf (IsUpper x us)) (sym up) before.uppers;
            lowers = subst (EachOf (IsLower x us)) (sym low) before.lowers;
            seen = next (same_uppers up) (same_lowers low) (λ e. other ∙ e) (inl w.in-Absent.ensures);
          }
      | in-Upper+in_ok-push-in-Upper w ↦
          let b : Bound = w.in-Upper.bound in
          let pushed : w.push.new.self.items ≡ s.uppers.items ++ b ∷ [] = search rules in
          let up : t.uppers.items ≡ s.uppers.items ++ b ∷ [] = ap (λ (r : Split). r.uppers.items) w.split-is ∙ pushed in
          let low : t.lowers.items ≡ s.lowers.items = ap (λ (r : Split). r.lowers.items) w.split-is in
          let other : t.others ≡ s.others = ap (λ (r : Split). r.others) w.split-is in
          let held = w.in-Upper.ensures in
          record {
            uppers = subst (EachOf (IsUpper x us)) (sym up) (each_append (IsUpper x us) s.uppers.items (b ∷ []) before.uppers ((subst (Among us) held.0 here, held.1), tt));
            lowers = subst (EachOf (IsLower x us)) (sym low) before.lowers;
            seen = next (λ u m. subst (λ (bs : List Bound). Among (map atom_of_bound bs) u) (sym up) (bound_stays s.uppers.items b u m)) (same_lowers low) (λ e. other ∙ e)
                (inr (inl (subst (λ (bs : List Bound). Among (map atom_of_bound bs) (atom_of a)) (sym up) (subst (Among (map atom_of_bound (s.uppers.items ++ b ∷ []))) (sym held.0) (bound_added s.uppers.items b)))));
          }
      | in-Lower+in_ok-push-in-Lower w ↦
          let b : Bound = w.in-Lower.bound in
          let pushed : w.push-in-Lower.new.self.items ≡ s.lowers.items ++ b ∷ [] = search rules in
          let low : t.lowers.items ≡ s.lowers.items ++ b ∷ [] = ap (λ (r : Split). r.lowers.items) w.split-is ∙ pushed in
          let up : t.uppers.items ≡ s.uppers.items = ap (λ (r : Split). r.uppers.items) w.split-is in
          let other : t.others ≡ s.others = ap (λ (r : Split). r.others) w.split-is in
          let held = w.in-Lower.ensures in
          record {
            uppers = subst (EachOf (IsUpper x us)) (sym up) before.uppers;
            lowers = subst (EachOf (IsLower x us)) (sym low) (each_append (IsLower x us) s.lowers.items (b ∷ []) before.lowers ((subst (Among us) held.0 here, held.1), tt));
            seen = next (same_uppers up) (λ u m. subst (λ (bs : List Bound). Among (map atom_of_bound bs) u) (sym low) (bound_stays s.lowers.items b u m)) (λ e. other ∙ e)
                (inr (inr (inl (subst (λ (bs : List Bound). Among (map atom_of_bound bs) (atom_of a)) (sym low) (subst (Among (map atom_of_bound (s.lowers.items ++ b ∷ []))) (sym held.0) (bound_added s.lowers.items b))))));
          }
      | in-Equation w ↦
          let up : t.uppers.items ≡ s.uppers.items = ap (λ (r : Split). r.uppers.items) w.split-is in
          let low : t.lowers.items ≡ s.lowers.items = ap (λ (r : Split). r.lowers.items) w.split-is in
          let other : t.others ≡ true = ap (λ (r : Split). r.others) w.split-is in
          record {
            uppers = subst (EachOf (IsUpper x us)) (sym up) before.uppers;
            lowers = subst (EachOf (IsLower x us)) (sym low) before.lowers;
            seen = next (same_uppers up) (same_lowers low) (λ e. other) (inr (inr (inr (rest_held x (atom_of a) c.of.result c.of.ensures w.in-Equation.is, other))));
          }
    ]

pub returns : goal.returns
returns c =
    let x = c.args.name.number in
    let atoms = c.args.atoms.now in
    record {
      uppers = c.loop-atom.invariant.uppers;
      lowers = c.loop-atom.invariant.lowers;
      seen = each_mapped_back (IsSeen x c.loop-atom.split) atom_of atoms (each_all (λ a. IsSeen x c.loop-atom.split (atom_of a)) atoms c.loop-atom.atom-index c.loop-atom-test.false c.loop-atom.invariant.seen);
    }
