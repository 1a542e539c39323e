-- The parts of the text of an atom, where all names are empty.
use Rattle.std.proofs.Common.{◌≡◌, ℕ, ◌+◌, List, [], ◌∷◌, ◌++◌, length, refl, arith, length-append, nat_eq}
use Rattle.std.proofs.Math.IntN.{ℤ}
use Rattle.std.specs.Prelude.{codes, unsigned_abs, if◌then◌else◌}
use Rattle.std.specs.Fmt.{decimal}
use Rattle.std.specs.List.{flat_map}
use Rattle.logic_meaning.specs.Form.{Term}
use Rattle.logic_meaning.specs.Atom.{Atom, Compare, Congruent, form_of}
use Rattle.logic_meaning.specs.Text.{name_at, first_sign, later_sign, multiple_text, later_multiple, later_constant, sum_text, form_text, relation_text, congruence_text, atom_text}
use Rattle.text_extents.specs.Extents.{total, term_names}

-- how long a name is
abbrev pub name_length : List (List ℕ) → ℕ → ℕ
name_length names x = length (name_at names x)

module _ (names : List (List ℕ)) where
  multiple_is : (t : Term) → length (multiple_text names t) ≡ length (multiple_text [] t) + name_length names t.name
  multiple_is t =
      let head = if nat_eq (unsigned_abs t.times) 1 then [] else decimal (unsigned_abs t.times) ++ codes "*" in
      omega (arith, length-append head (name_at names t.name), length-append head (name_at [] t.name))

  later_is : (t : Term) → length (later_multiple names t) ≡ length (later_multiple [] t) + name_length names t.name
  later_is t =
      let k = multiple_is t in
      omega (arith, length-append (later_sign t.times) (multiple_text names t), length-append (later_sign t.times) (multiple_text [] t))

  laters_are : (ts : List Term) → length (flat_map (later_multiple names) ts) ≡ length (flat_map (later_multiple []) ts) + total (name_length names) (term_names ts)
  laters_are [] = refl
  laters_are (t ∷ ts) =
      let k = later_is t in
      let l = laters_are ts in
      omega (arith, length-append (later_multiple names t) (flat_map (later_multiple names) ts), length-append (later_multiple [] t) (flat_map (later_multiple []) ts))

  sum_is : (ts : List Term) (c : ℤ) → length (sum_text names ts c) ≡ length (sum_text [] ts c) + total (name_length names) (term_names ts)
  sum_is [] c = omega arith
  sum_is (t ∷ ts) c =
      let k = multiple_is t in
      let l = laters_are ts in
      omega (
        arith,
        length-append (first_sign t.times ++ multiple_text names t ++ flat_map (later_multiple names) ts) (later_constant c),
        length-append (first_sign t.times ++ multiple_text names t) (flat_map (later_multiple names) ts),
        length-append (first_sign t.times) (multiple_text names t),
        length-append (first_sign t.times ++ multiple_text [] t ++ flat_map (later_multiple []) ts) (later_constant c),
        length-append (first_sign t.times ++ multiple_text [] t) (flat_map (later_multiple []) ts),
        length-append (first_sign t.times) (multiple_text [] t),
      )

  -- the text of an atom is longer by its names than where these are empty
  pub atom_is : (a : Atom) → length (atom_text names a) ≡ length (atom_text [] a) + total (name_length names) (term_names (form_of a).terms)
  atom_is (Compare r f) =
      let k = sum_is f.terms f.constant in
      omega (arith, length-append (form_text names f) (relation_text r), length-append (form_text [] f) (relation_text r))
  atom_is (Congruent b m f) =
      let k = sum_is f.terms f.constant in
      omega (
        arith,
        length-append (congruence_text b ++ form_text names f ++ codes ",0," ++ decimal m) (codes ")"),
        length-append (congruence_text b ++ form_text names f ++ codes ",0,") (decimal m),
        length-append (congruence_text b ++ form_text names f) (codes ",0,"),
        length-append (congruence_text b) (form_text names f),
        length-append (congruence_text b ++ form_text [] f ++ codes ",0," ++ decimal m) (codes ")"),
        length-append (congruence_text b ++ form_text [] f ++ codes ",0,") (decimal m),
        length-append (congruence_text b ++ form_text [] f) (codes ",0,"),
        length-append (congruence_text b) (form_text [] f),
      )
