use Rattle.std.proofs.Common.{◌≡◌, ◌<◌, Some, None, ℕ, zero, suc, List, [], ◌∷◌, length, sym, ap, subst, ◌∙◌, refl, get_or, arith}
use Rattle.logic_meaning.specs.Context.{Context}
use Rattle.logic_meaning.specs.Form.{Form}
use Rattle.logic_meaning.specs.Some.{EachOf}
use Rattle.logic_meaning.specs.declared.junction.Junction.{Junction}
use Rattle.logic_meaning.specs.Atom.{Atom}
use Rattle.normal_atoms.specs.declared.atoms.Atom.{Atom as CodeAtom}
use Rattle.normal_atoms.specs.Atoms.{context_of, atom_of}
use Rattle.logic_meaning.specs.NormalForm.{IsNormal}
use Rattle.normal_atoms.specs.declared.answers.Merged.{Merged}
use Rattle.normal_atoms.specs.declared.answers.Merged.TheVariants.{True, False, One, Keep}
use Rattle.normal_atoms.specs.Computed.{IsNormalWithin}
use Rattle.shape_theory.specs.AtomKit.{atom_kit}
use Rattle.shape_theory.specs.Pass.{with_one}
use Rattle.theory_simplifier.specs.Listed.{Listed}
use Rattle.theory_simplifier.specs.VariableParts.{part_number, number_from, magnitude}
use Rattle.theory_simplifier.specs.Partners.{IsPartner, IsMergedAt}
use Rattle.theory_simplifier.proofs.Partners.{with_last, with_settled, with_merged, each_at}
use Rattle.theory_simplifier.proofs.Reading.{merged_part}
use Rattle.theory_simplifier.proofs.joined.Joined.with.Goals as goal

at_most_settled : (c : Context) (j : Junction) (a : Atom) (us : List Atom) (n : ℕ) (m : Merged) → IsMergedAt c j a us n m → ((e : CodeAtom) → m ≡ One e → ⊥) → with_one (atom_kit c) j a us ≡ None
at_most_settled c j a us n True h k = with_settled c j a us n h.within h.apart h.become
at_most_settled c j a us n False h k = with_settled c j a us n h.within h.apart h.become
at_most_settled c j a us n (One e) h k = absurd (k e refl)
at_most_settled c j a us n Keep h k = absurd (h.merges refl)

at_default : (us : List Atom) (n : ℕ) (a d : Atom) → n < length us → get_or us n a ≡ get_or us n d
at_default [] n a d h = absurd (omega arith)
at_default (u ∷ us) zero a d h = refl
at_default (u ∷ us) (suc n) a d h = at_default us n a d (omega arith)

-- the merged atom has the number of the one that it replaces
same_part : (c : Context) (j : Junction) (a : Atom) (us : List Atom) (n : ℕ) (e : CodeAtom) → IsMergedAt c j a us n (One e) → EachOf (IsNormalWithin c) us → IsNormal c a → part_number (atom_of e) ≡ part_number (get_or us n (atom_of e))
same_part c j a us n e h k m =
    ap (λ (f : Form). number_from (magnitude f.constant) f.terms) (merged_part c j a (get_or us n a) (atom_of e) (each_at (IsNormalWithin c) us n a h.within k).normal m (sym h.become))
    ∙ ap part_number (at_default us n a (atom_of e) h.within)

pub returns-in_default-clause-with : goal.returns-in_default-clause-with
returns-in_default-clause-with c =
    let o = context_of c.args.context in
    let l = c.args.self in
    let a = atom_of c.args.atom.now in
    let alone : IsPartner o l.junction a l.atoms None = subst (IsPartner o l.junction a l.atoms) c.in_default.is c.in_ok-place.ensures in
    with_last o l.junction a l.atoms alone ∙ ap (λ (k : Listed). Some k.atoms) (sym c.in_ok-list.ensures)

pub with_at-requires-clause-part : goal.with_at-requires-clause-part
with_at-requires-clause-part c =
    let o = context_of c.args.context in
    let l = c.args.self in
    let a = atom_of c.args.atom.now in
    let found : IsMergedAt o l.junction a l.atoms c.in-Some.place c.in-Some.merged = subst (IsPartner o l.junction a l.atoms) c.in-Some.is c.in_ok-place.ensures in
    same_part o l.junction a l.atoms c.in-Some.place c.in-One.both (subst (IsMergedAt o l.junction a l.atoms c.in-Some.place) c.in-One.is found) c.requires.atoms c.requires.normal.normal

pub returns-in_ok-list-in-One-clause-with : goal.returns-in_ok-list-in-One-clause-with
returns-in_ok-list-in-One-clause-with c =
    let o = context_of c.args.context in
    let l = c.args.self in
    let a = atom_of c.args.atom.now in
    let found : IsMergedAt o l.junction a l.atoms c.in-Some.place c.in-Some.merged = subst (IsPartner o l.junction a l.atoms) c.in-Some.is c.in_ok-place.ensures in
    let into : IsMergedAt o l.junction a l.atoms c.in-Some.place (One c.in-One.both) = subst (IsMergedAt o l.junction a l.atoms c.in-Some.place) c.in-One.is found in
    with_merged o l.junction a l.atoms c.in-Some.place (atom_of c.in-One.both) into.within into.apart into.become ∙ ap (λ (k : Listed). Some k.atoms) (sym c.in_ok-list-in-One.ensures)

pub returns-in_default-merged : goal.returns-in_default-merged
returns-in_default-merged c =
    let o = context_of c.args.context in
    let l = c.args.self in
    let a = atom_of c.args.atom.now in
    let found : IsMergedAt o l.junction a l.atoms c.in-Some.place c.in-Some.merged = subst (IsPartner o l.junction a l.atoms) c.in-Some.is c.in_ok-place.ensures in
    record { with = at_most_settled o l.junction a l.atoms c.in-Some.place c.in-Some.merged found c.in_default-merged.not-One; junction = tt; normal = tt }
