-- The sizes that are counted without folding are those of the plain form.
use Rattle.std.proofs.Common.{◌≡◌, ℕ, ◌+◌, ◌*◌, ◌≤◌, nat_eq, eqb-true, Bool, true, false, not, refl, sym, ap, ◌∙◌, subst, ⊎_elim, List, [], ◌∷◌, length, arith}
use Rattle.std.specs.Prelude.{if◌then◌else◌, ◌||◌, ◌&&◌}
use Rattle.logic_meaning.specs.Context.{Context}
use Rattle.logic_meaning.specs.Fold.{folded}
use Rattle.logic_meaning.specs.declared.junction.Junction.{Junction}
use Rattle.logic_meaning.specs.Tree.{Tree}
use Rattle.normal_atoms.specs.Computed.{IsNormalWithin}
use Rattle.shape_theory.specs.AtomKit.{atom_kit}
use Rattle.logic_meaning.specs.PlainForms.{together, of_none, distributed}
use Rattle.shape_theory.specs.Places.{places}
use Rattle.shape_theory.specs.Lines.{joined_lines, clean_lines, more_clean_lines}
use Rattle.shape_theory.specs.Counts.{Sizes, nothing_sizes, is_bare, product_sizes, sum_sizes, joined_sizes, sizes, more_sizes}
use Rattle.shape_theory.specs.CleanFormsLaws.{IsDistributable, SizesAreThosePlain, FewPlacesDecideLinesOf, FewPlacesDecideLines}
use Rattle.shape_theory.proofs.Under.{Under}
use Rattle.shape_theory.proofs.Places.{together_count, together_places, places_counted}
use Rattle.shape_theory.proofs.Shown.{Filled, JoinsLists, IsMadeOfMembers, Opens, Closes, shown, told}
use Rattle.shape_theory.proofs.Pieces.{lines_shown}
use Rattle.shape_theory.proofs.CleanFormsTreeLaws.{normal_lightly}

-- x counts the lists
record Counts {A : Type 0} (ls : List (List A)) (x : Sizes) : Type 0 where
  lines : x.lines ≡ length ls
  places : x.places ≡ places ls

same_sizes : (x y : Sizes) → x.lines ≡ y.lines → x.places ≡ y.places → x ≡ y
same_sizes x y e f = λ i. record { lines = e i; places = f i }

at_least : {A : Type 0} (ls : List (List A)) → Filled ls → length ls ≤ places ls
at_least [] h = omega arith
at_least (us ∷ ls) h = let k = at_least ls h.1 in let l = h.0 in omega arith

not_bare : {A : Type 0} (ls : List (List A)) (x : Sizes) → Filled ls → Counts ls x → is_bare x ≡ false
not_bare [] x h k = let e : x.lines ≡ 0 = k.lines in ap (λ n. nat_eq x.places 0 && not (nat_eq n 0)) e ∙ and_false (nat_eq x.places 0)
  where
    and_false : (b : Bool) → (b && false) ≡ false
    and_false true = refl
    and_false false = refl
not_bare (us ∷ ls) x h k = some x.places (let l = at_least (us ∷ ls) h in let e = k.places in omega arith)
  where
    split : (n : ℕ) (b : Bool) → nat_eq n 0 ≡ b → 1 ≤ n → (b && not (nat_eq x.lines 0)) ≡ false
    split n true e h = let k = eqb-true n 0 e in absurd (omega arith)
    split n false e h = refl

    some : (n : ℕ) → 1 ≤ n → (nat_eq n 0 && not (nat_eq x.lines 0)) ≡ false
    some n h = split n (nat_eq n 0) refl h

settled_first : (b : Bool) (x : Sizes) → joined_sizes b (nothing_sizes (not b)) x ≡ nothing_sizes (not b)
settled_first false x = refl
settled_first true x = same_sizes (product_sizes (nothing_sizes false) x) (nothing_sizes false) (omega arith) (omega arith)

settled_last : (b : Bool) (x : Sizes) → joined_sizes b x (nothing_sizes (not b)) ≡ nothing_sizes (not b)
settled_last false x = split (is_bare x)
  where
    split : (b : Bool) → (if b || true then nothing_sizes true else sum_sizes x (nothing_sizes true)) ≡ nothing_sizes true
    split true = refl
    split false = refl
settled_last true x = same_sizes (product_sizes x (nothing_sizes false)) (nothing_sizes false) (omega arith) (omega arith)

nothing_twice : (b : Bool) → joined_sizes b (nothing_sizes b) (nothing_sizes b) ≡ nothing_sizes b
nothing_twice false = refl
nothing_twice true = refl

module _ {A : Type 0} where
  crossed : (ps qs : List (List A)) (x y : Sizes) → Counts ps x → Counts qs y → Counts (together true ps qs) (product_sizes x y)
  crossed ps qs x y h k =
      let l = h.lines in let m = k.lines in let p = h.places in let q = k.places in
      record {
        lines = ap (λ n. n * y.lines) l ∙ ap (λ n. length ps * n) m ∙ sym (together_count true ps qs);
        places = ap (λ n. n * y.lines + x.lines * y.places) p ∙ ap (λ n. places ps * n + x.lines * y.places) m ∙ ap (λ n. places ps * length qs + n * y.places) l ∙ ap (λ n. places ps * length qs + length ps * n) q
            ∙ sym (together_places true ps qs);
      }

  beside : (ps qs : List (List A)) (x y : Sizes) → Filled ps → Filled qs → Counts ps x → Counts qs y → Counts (together false ps qs) (joined_sizes false x y)
  beside ps qs x y f g h k = subst (Counts (together false ps qs)) (sym (plain (is_bare x) (is_bare y) (not_bare ps x f h) (not_bare qs y g k))) counts
    where
      plain : (b d : Bool) → b ≡ false → d ≡ false → (if b || d then nothing_sizes true else sum_sizes x y) ≡ sum_sizes x y
      plain b d e u = ap (λ t. if t || d then nothing_sizes true else sum_sizes x y) e ∙ ap (λ t. if t then nothing_sizes true else sum_sizes x y) u

      counts : Counts (together false ps qs) (sum_sizes x y)
      counts =
          let l = h.lines in let m = k.lines in let p = h.places in let q = k.places in
          let u = together_count false ps qs in let v = together_places false ps qs in
          record { lines = omega arith; places = omega arith }

  none_counts : (b : Bool) → Counts {A = A} (of_none b) (nothing_sizes b)
  none_counts false = record { lines = refl; places = refl }
  none_counts true = record { lines = refl; places = refl }

  sizes_join : JoinsLists (Counts {A = A}) joined_sizes nothing_sizes
  sizes_join = record {
    empty = none_counts;
    crossed = crossed;
    beside = beside;
    settled_first = settled_first;
    settled_last = λ b ps x f r. settled_last b x;
    settled_nothing = λ b. settled_last b (nothing_sizes b);
    nothing_twice = nothing_twice;
  }

  sizes_made : (j : Junction) (Q : A → Type 0) → IsMadeOfMembers j Q Counts joined_sizes nothing_sizes (sizes j) (more_sizes j)
  sizes_made j Q = record {
    joins = sizes_join;
    yes = refl;
    no = refl;
    one = λ a h. record { lines = refl; places = refl };
    conjunction = λ fs. refl;
    disjunction = λ fs. refl;
    no_more = λ b x. refl;
    one_more = λ b x f fs. refl;
  }

module _ (c : Context) (j : Junction) (f : Tree) (h : IsDistributable c f) where
  counts : Counts (distributed j (folded f)) (sizes j f)
  counts =
      ⊎_elim
      (λ (t : Closes j (IsNormalWithin c) Counts joined_sizes nothing_sizes (sizes j) (more_sizes j) (distributed j (folded f)) (sizes j f)).
      subst (λ ls. Counts ls (sizes j f)) (sym t.lists) (subst (Counts (of_none t.of)) (sym t.is) (none_counts t.of)))
      (λ (t : Opens Counts joined_sizes nothing_sizes (distributed j (folded f)) (sizes j f)). t.made)
      (told j (IsNormalWithin c) Counts joined_sizes nothing_sizes (sizes j) (more_sizes j) (folded f) (sizes j f)
      (shown j (IsNormalWithin c) Counts joined_sizes nothing_sizes (sizes j) (more_sizes j) (sizes_made j (IsNormalWithin c)) f h.orderly h.free))

  few : FewPlacesDecideLinesOf c j f
  few =
      ⊎_elim
      (λ (t : Closes j (IsNormalWithin c) (Under (atom_kit c) j (IsNormalWithin c) (λ a. 1) (normal_lightly c j)) (joined_lines (atom_kit c) j) of_none (clean_lines (atom_kit c) j) (more_clean_lines (atom_kit c) j) (distributed j (folded f)) (clean_lines (atom_kit c) j f)).
      constant t.of t.lists t.is)
      (λ (t : Opens (Under (atom_kit c) j (IsNormalWithin c) (λ a. 1) (normal_lightly c j)) (joined_lines (atom_kit c) j) of_none (distributed j (folded f)) (clean_lines (atom_kit c) j f)).
      let l = counts.lines in let p = counts.places in let s = t.some in let a = at_least (distributed j (folded f)) t.filled in
      record { none = λ e. absurd (omega arith); bare = λ e k. absurd (omega arith) })
      (told j (IsNormalWithin c) (Under (atom_kit c) j (IsNormalWithin c) (λ a. 1) (normal_lightly c j)) (joined_lines (atom_kit c) j) of_none (clean_lines (atom_kit c) j) (more_clean_lines (atom_kit c) j) (folded f) (clean_lines (atom_kit c) j f)
      (lines_shown (atom_kit c) j (IsNormalWithin c) (λ a. 1) (normal_lightly c j) f h.orderly h.free))
    where
      constant : (b : Bool) → distributed j (folded f) ≡ of_none b → clean_lines (atom_kit c) j f ≡ of_none b → FewPlacesDecideLinesOf c j f
      constant false d e = record {
        none = λ k. e;
        bare = λ k l. let n : length (distributed j (folded f)) ≡ 0 = ap length d in let m = counts.lines in absurd (omega arith);
      }
      constant true d e = record {
        none = λ k. let n : length (distributed j (folded f)) ≡ 1 = ap length d in let m = counts.lines in absurd (omega arith);
        bare = λ k l. e;
      }

pub sizes_plain : SizesAreThosePlain
sizes_plain c j f h =
    let k = counts c j f h in
    let p = places_counted j (folded f) in
    record { lines = k.lines ∙ p.lines; places = k.places ∙ p.places }

pub few_decide : FewPlacesDecideLines
few_decide c j f h = few c j f h
