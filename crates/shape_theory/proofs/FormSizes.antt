-- The clean form is no larger than the plain form.
use Rattle.std.proofs.Common.{◌≡◌, ℕ, ◌+◌, ◌≤◌, Bool, true, false, refl, List, [], ◌∷◌, length, arith}
use Rattle.logic_meaning.specs.Formula.{Formula, Formulas, Yes, No, One, Not, And, Or, Impl, Repl, Equiv, Ex, All, none, also}
use Rattle.logic_meaning.specs.Some.{EachOf}
use Rattle.logic_meaning.specs.Fold.{joined, neutral}
use Rattle.logic_meaning.specs.declared.junction.Junction.{Junction}
use Rattle.logic_meaning.specs.declared.junction.Junction.TheVariants.{Conjunction, Disjunction}
use Rattle.shape_theory.specs.Kit.{Kit}
use Rattle.logic_meaning.specs.Measure.{Measure, as_member, size, members_size, more_size}
use Rattle.shape_theory.specs.Pass.{constant}
use Rattle.logic_meaning.specs.AtomsFirst.{ones}
use Rattle.logic_meaning.specs.Ways.{dual, line_form, line_forms, form_of_lines}
use Rattle.shape_theory.proofs.Inserting.{total, MergesLightly}
use Rattle.shape_theory.proofs.Under.{FitsLine, Under, ends, goes, stays, under_plain, under_few}
use Rattle.logic_meaning.specs.PlainForms.{of_none}
use Rattle.shape_theory.specs.Lines.{joined_lines}
use Rattle.shape_theory.proofs.Shown.{Filled, Opens}

module _ {A : Type 0} (m : Measure A) where
  joined_size : (j : Junction) (fs : Formulas A ℕ) → size m (joined j fs) ≡ m.head + members_size m fs j
  joined_size Conjunction fs = refl
  joined_size Disjunction fs = refl

  joined_member : (j : Junction) (fs : Formulas A ℕ) (n : ℕ) → as_member m (joined j fs) n ≡ m.brackets + n
  joined_member Conjunction fs n = refl
  joined_member Disjunction fs n = refl

  member_more : (f : Formula A ℕ) (n : ℕ) → n ≤ as_member m f n
  member_more Yes n = omega arith
  member_more No n = omega arith
  member_more (One a) n = omega arith
  member_more (Not f) n = omega arith
  member_more (And fs) n = omega arith
  member_more (Or fs) n = omega arith
  member_more (Impl f g) n = omega arith
  member_more (Repl f g) n = omega arith
  member_more (Equiv f g) n = omega arith
  member_more (Ex x f) n = omega arith
  member_more (All x f) n = omega arith

  -- what stands between atoms and one before them
  abbrev gaps : ℕ → List A → ℕ
  gaps g [] = 0
  gaps g (a ∷ us) = g + gaps g us

  fewer_gaps : (g : ℕ) (us vs : List A) → length us ≤ length vs → gaps g us ≤ gaps g vs
  fewer_gaps g [] vs h = omega arith
  fewer_gaps g (u ∷ us) [] h = absurd (omega arith)
  fewer_gaps g (u ∷ us) (v ∷ vs) h = let k = fewer_gaps g us vs (omega arith) in omega arith

  more_is : (j : Junction) (us : List A) → more_size m (ones us none) j ≡ gaps (m.gap j) us + total m.atom us
  more_is j [] = refl
  more_is j (a ∷ us) = let k = more_is j us in omega arith

  module _ (j : Junction) where
    -- a list alone, and as a member
    abbrev Alone : List A → ℕ
    Alone us = size m (line_form j us)

    abbrev Inside : List A → ℕ
    Inside us = as_member m (line_form j us) (Alone us)

    two_alone : (a b : A) (us : List A) → Alone (a ∷ b ∷ us) ≡ m.head + (m.atom a + (gaps (m.gap j) (b ∷ us) + total m.atom (b ∷ us)))
    two_alone a b us = let k = more_is j (b ∷ us) in let l = joined_size j (also (One a) (ones (b ∷ us) none)) in omega arith

    two_inside : (a b : A) (us : List A) → Inside (a ∷ b ∷ us) ≡ m.brackets + Alone (a ∷ b ∷ us)
    two_inside a b us = joined_member j (also (One a) (ones (b ∷ us) none)) (Alone (a ∷ b ∷ us))

    module _ (kit : Kit A) (Q : A → Type 0) (light : MergesLightly kit j Q m.atom) (low : (b : Bool) (a : A) → Q a → size m (constant b) ≤ m.atom a) where
      abbrev U : List (List A) → List (List A) → Type 0
      U ps cs = Under kit j Q m.atom light ps cs

      record Smaller (c p : List A) : Type 0 where
        alone : Alone c ≤ Alone p
        inside : Inside c ≤ Inside p

      fits_smaller : (p c : List A) → 1 ≤ length p → FitsLine kit j Q m.atom light p c → Smaller c p
      fits_smaller p [] h f = let s = f.some h in absurd (omega arith)
      fits_smaller [] (a ∷ c) h f = absurd (omega arith)
      fits_smaller (p ∷ []) (a ∷ []) h f = let w = f.weight in record { alone = omega arith; inside = omega arith }
      fits_smaller (p ∷ q ∷ ps) (a ∷ []) h f =
          let w = f.weight in
          let x = two_alone p q ps in
          let y = two_inside p q ps in
          record { alone = omega arith; inside = omega arith }
      fits_smaller (p ∷ []) (a ∷ b ∷ c) h f = let k = f.few in absurd (omega arith)
      fits_smaller (p ∷ q ∷ ps) (a ∷ b ∷ c) h f =
          let w = f.weight in
          let k = f.few in
          let g = fewer_gaps (m.gap j) (b ∷ c) (q ∷ ps) (omega arith) in
          let x = two_alone p q ps in
          let y = two_inside p q ps in
          let u = two_alone a b c in
          let v = two_inside a b c in
          record { alone = omega arith; inside = omega arith }

      -- each list with what stands before it
      abbrev Sum : List (List A) → ℕ
      Sum ls = more_size m (line_forms j ls) (dual j)

      less_together : (ps cs : List (List A)) → Filled ps → U ps cs → Sum cs ≤ Sum ps
      less_together _ _ h ends = omega arith
      less_together _ _ h (goes p {ps = ps} {cs = cs} x u) = let k = less_together ps cs h.1 u in omega arith
      less_together _ _ h (stays p c {ps = ps} {cs = cs} x f u) = let k = less_together ps cs h.1 u in let s = (fits_smaller p c h.0 f).inside in omega arith

      abbrev Form : List (List A) → ℕ
      Form ls = size m (form_of_lines j ls)

      two_form : (us vs : List A) (ls : List (List A)) → Form (us ∷ vs ∷ ls) ≡ m.head + (Inside us + Sum (vs ∷ ls))
      two_form us vs ls = joined_size (dual j) (line_forms j (us ∷ vs ∷ ls))

      -- ---- a constant

      neutral_low : (k : Junction) (a : A) → Q a → size m (neutral k) ≤ m.atom a
      neutral_low Conjunction a h = low true a h
      neutral_low Disjunction a h = low false a h

      line_low : (k : Junction) (us : List A) → 1 ≤ length us → EachOf Q us → size m (neutral k) ≤ Alone us
      line_low k [] h q = absurd (omega arith)
      line_low k (a ∷ []) h q = neutral_low k a q.0
      line_low k (a ∷ b ∷ us) h q = let x = neutral_low k a q.0 in let y = two_alone a b us in omega arith

      form_low : (k : Junction) (ls : List (List A)) → 1 ≤ length ls → Filled ls → EachOf (EachOf Q) ls → size m (neutral k) ≤ Form ls
      form_low k [] s h q = absurd (omega arith)
      form_low k (us ∷ []) s h q = line_low k us h.0 q.0
      form_low k (us ∷ vs ∷ ls) s h q = let x = line_low k us h.0 q.0 in let y = member_more (line_form j us) (Alone us) in let z = two_form us vs ls in omega arith

      -- ---- the form

      line_same : (r s q d : List A) → r ≡ q → s ≡ d → (1 ≤ length r → Alone s ≤ Alone r) → 1 ≤ length q → Alone d ≤ Alone q
      line_same r s q d a b i h =
          let x : Alone s ≡ Alone d = cc in
          let y : Alone r ≡ Alone q = cc in
          let z : length r ≡ length q = cc in
          let k = i (omega arith) in
          omega arith

      one_line : (p c : List A) → 1 ≤ length p → U (p ∷ []) (c ∷ []) → Alone c ≤ Alone p
      one_line p c h u = split (p ∷ []) (c ∷ []) u p c refl refl h
        where
          split : (ps cs : List (List A)) → U ps cs → (q d : List A) → ps ≡ q ∷ [] → cs ≡ d ∷ [] → 1 ≤ length q → Alone d ≤ Alone q
          split _ _ ends q d e f h = absurd (cc (e))
          split _ _ (goes r {ps = ps} {cs = cs} x v) q d e f h =
              let l = under_few kit j Q m.atom light ps cs v in
              let s : length cs ≡ 1 = let g : length cs ≡ length (d ∷ []) = cc in g in
              let t : length ps ≡ 0 = let g : ps ≡ [] = cc in let k : length ps ≡ length {A = List A} [] = cc in k in
              absurd (omega arith)
          split _ _ (stays r s {ps = ps} {cs = cs} x g v) q d e f h =
              let a : r ≡ q = cc in
              let b : s ≡ d = cc in
              line_same r s q d a b (λ k. (fits_smaller r s k g).alone) h

      pub open_smaller : (ps cs : List (List A)) → Opens (Under kit j Q m.atom light) (joined_lines kit j) of_none ps cs → Form cs ≤ Form ps
      open_smaller ps [] h = form_low (dual j) ps h.some h.filled (under_plain kit j Q m.atom light ps [] h.made)
      open_smaller [] (c ∷ cs) h = let s = h.some in absurd (omega arith)
      open_smaller (p ∷ []) (c ∷ []) h = one_line p c h.filled.0 h.made
      open_smaller (p ∷ q ∷ ps) (c ∷ []) h =
          let k = less_together (p ∷ q ∷ ps) (c ∷ []) h.filled h.made in
          let l = member_more (line_form j c) (Alone c) in
          let t = two_form p q ps in
          omega arith
      open_smaller (p ∷ []) (c ∷ d ∷ cs) h = let k = under_few kit j Q m.atom light (p ∷ []) (c ∷ d ∷ cs) h.made in absurd (omega arith)
      open_smaller (p ∷ q ∷ ps) (c ∷ d ∷ cs) h =
          let k = less_together (p ∷ q ∷ ps) (c ∷ d ∷ cs) h.filled h.made in
          let t = two_form p q ps in
          let u = two_form c d cs in
          omega arith
