-- The rows of atoms, one atom after another.
use Rattle.std.proofs.Common.{◌≡◌, ℕ, ◌+◌, ◌<◌, ◌≤◌, List, [], ◌∷◌, ◌++◌, map, take, length, get_or, sym, ap, ◌∙◌, subst}
use Rattle.std.proofs.lemmas.List.{map-append, take_more, take_all}
use Rattle.logic_meaning.specs.Context.{Context}
use Rattle.logic_meaning.specs.Atom.{Atom}
use Rattle.normal_atoms.specs.declared.atoms.Atom.{Atom as Code}
use Rattle.normal_atoms.specs.Atoms.{atom_of}
use Rattle.atom_pruning.specs.declared.rows.AtomRows.{AtomRows}
use Rattle.atom_pruning.specs.Rows.{AreRowsOf, AreRows}

module _ (c : Context) where
  rows_joined : (us : List Atom) (u : Atom) (rows : List AtomRows) (r : AtomRows) → AreRows c us rows → AreRowsOf c u r → AreRows c (us ++ u ∷ []) (rows ++ r ∷ [])
  rows_joined [] u [] r h k = (k, tt)
  rows_joined [] u (s ∷ rows) r h k = absurd h
  rows_joined (v ∷ us) u [] r h k = absurd h
  rows_joined (v ∷ us) u (s ∷ rows) r h k = (h.0, rows_joined us u rows r h.1 k)

  -- the rows of one atom more
  pub rows_more : (us : List Code) (i : ℕ) (u : Code) (rows : List AtomRows) (r : AtomRows) → i < length us → u ≡ get_or us i u → AreRows c (map atom_of (take i us)) rows → AreRowsOf c (atom_of u) r →
      AreRows c (map atom_of (take (i + 1) us)) (rows ++ r ∷ [])
  rows_more us i u rows r l e h k =
      let longer : map atom_of (take (i + 1) us) ≡ map atom_of (take i us) ++ atom_of u ∷ [] =
      ap (map atom_of) (take_more us i u l ∙ ap (λ v. take i us ++ v ∷ []) (sym e)) ∙ map-append atom_of (take i us) (u ∷ []) in
      subst (λ vs. AreRows c vs (rows ++ r ∷ [])) (sym longer) (rows_joined (map atom_of (take i us)) (atom_of u) rows r h k)

  pub rows_whole : (us : List Code) (i : ℕ) (rows : List AtomRows) → length us ≤ i → AreRows c (map atom_of (take i us)) rows → AreRows c (map atom_of us) rows
  rows_whole us i rows l h = subst (λ vs. AreRows c (map atom_of vs) rows) (take_all i us l) h

  pub rows_start : (us : List Code) (rows : List AtomRows) → rows ≡ [] → AreRows c (map atom_of (take 0 us)) rows
  rows_start [] rows e = subst (λ rs. AreRows c [] rs) (sym e) tt
  rows_start (u ∷ us) rows e = subst (λ rs. AreRows c [] rs) (sym e) tt
