-- The least critical value of a list of atoms: from one part after the other, and in any order.
use Rattle.std.proofs.Common.{◌≡◌, ℕ, Bool, true, false, List, [], ◌∷◌, ◌++◌, map, Option, Some, None, ◌↔◌, refl, ap, ◌∙◌, if◌then◌else◌}
use Rattle.std.specs.Prelude.{option_map}
use Rattle.std.proofs.lemmas.List.{map-append}
use Rattle.exact_numbers.specs.declared.fraction.Fraction.{Fraction}
use Rattle.exact_numbers.specs.Frac.{Frac}
use Rattle.exact_numbers.specs.Fraction.{frac_of}
use Rattle.logic_meaning.specs.Context.{Context}
use Rattle.logic_meaning.specs.Some.{Among}
use Rattle.logic_meaning.specs.Atom.{Atom}
use Rattle.logic_meaning.specs.Point.{Point}
use Rattle.logic_meaning.specs.Tree.{Tree}
use Rattle.formula_laws.proofs.Iff.{both_ways}
use Rattle.logic_meaning.specs.declared.side.Side.{Side}
use Rattle.logic_meaning.specs.Atoms.{atoms_in, atoms_of}
use Rattle.logic_meaning.specs.PutIn.{tree_put, tree_put_within}
use Rattle.logic_meaning.specs.Calculated.{atom_root, with_root, critical_values, criticals, is_less, lesser, least_with, past, seen}
use Rattle.sample_reference.proofs.CriticalSets.{same_least, seen_set, once_same}
use Rattle.plain_samples.specs.Roots.{seen_criticals, least_among, IsNextCritical}

-- ---- one list after the other

least_append : (o : Option Frac) (vs ws : List Frac) → least_with o (vs ++ ws) ≡ least_with (least_with o vs) ws
least_append o [] ws = refl
least_append o (v ∷ vs) ws = least_append (Some (lesser v o)) vs ws

past_append : (b : Option Frac) (vs ws : List Frac) → past b (vs ++ ws) ≡ past b vs ++ past b ws
past_append None vs ws = refl
past_append (Some e) [] ws = refl
past_append (Some e) (v ∷ vs) ws = ap (λ us. if is_less e v then v ∷ us else us) (past_append (Some e) vs ws) ∙ go (is_less e v)
  where
    go : (t : Bool) → (if t then v ∷ (past (Some e) vs ++ past (Some e) ws) else past (Some e) vs ++ past (Some e) ws) ≡ (if t then v ∷ past (Some e) vs else past (Some e) vs) ++ past (Some e) ws
    go true = refl
    go false = refl

with_append : (o : Option Frac) (vs ws : List Frac) → with_root o (vs ++ ws) ≡ with_root o vs ++ ws
with_append (Some a) vs ws = refl
with_append None vs ws = refl

critical_append : (x : ℕ) (atoms more : List Atom) → critical_values x (atoms ++ more) ≡ critical_values x atoms ++ critical_values x more
critical_append x [] more = refl
critical_append x (a ∷ atoms) more = ap (with_root (atom_root x a)) (critical_append x atoms more) ∙ with_append (atom_root x a) (critical_values x atoms) (critical_values x more)

seen_append : (side : Side) (x : ℕ) (atoms more : List Atom) → seen_criticals side x (atoms ++ more) ≡ seen_criticals side x atoms ++ seen_criticals side x more
seen_append side x atoms more = ap (map (seen side)) (critical_append x atoms more) ∙ map-append (seen side) (critical_values x atoms) (critical_values x more)

module _ (side : Side) (x : ℕ) (b : Option Frac) where
  pub among_append : (o : Option Frac) (atoms more : List Atom) → least_among side x b o (atoms ++ more) ≡ least_among side x b (least_among side x b o atoms) more
  among_append o atoms more =
      ap (λ vs. least_with o (past b vs)) (seen_append side x atoms more)
      ∙ ap (least_with o) (past_append b (seen_criticals side x atoms) (seen_criticals side x more))
      ∙ least_append o (past b (seen_criticals side x atoms)) (past b (seen_criticals side x more))

-- ---- the atoms of a formula

-- the least for atoms that are those of the formula with the point put in, in any order, is the least of its critical values
pub next_among : (c : Context) (side : Side) (x : ℕ) (f : Tree) (p : Point ℕ) (bound : Option Frac) (w : Option Fraction) (atoms : List Atom) → tree_put_within c p (x ∷ []) f ≡ true →
    ((a : Atom) → Among atoms a ↔ Among (atoms_in (tree_put c p (x ∷ []) f)) a) → option_map frac_of w ≡ least_among side x bound None atoms → IsNextCritical side bound (criticals c x f p) w
next_among c side x f p bound w atoms within same e =
    let g = tree_put c p (x ∷ []) f in
    record {
      values = critical_values x (atoms_of g);
      formed = ap (λ (t : Bool). if t then Some (critical_values x (atoms_of g)) else None) within;
      least = e ∙ same_least bound (seen_criticals side x atoms) (seen_criticals side x (atoms_of g)) (seen_set x atoms (atoms_of g) (λ a. both_ways (same a) (once_same g a)) side);
    }

pub next_refused : (c : Context) (x : ℕ) (f : Tree) (p : Point ℕ) → tree_put_within c p (x ∷ []) f ≡ false → criticals c x f p ≡ None
next_refused c x f p e = ap (λ (t : Bool). if t then Some (critical_values x (atoms_of (tree_put c p (x ∷ []) f))) else None) e
