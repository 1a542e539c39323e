-- A text that is written up to what stands behind its quantifiers.
use Rattle.std.proofs.Common.{◌≡◌, ℕ, ◌+◌, ◌≤◌, List, ◌++◌, length, append_assoc, add-one, codes, refl, sym, ap, ◌∙◌, arith, length-append}
use Rattle.std.proofs.lemmas.List.{replicate-append-replicate, length-replicate}
use Rattle.logic_meaning.specs.Tree.{Tree}
use Rattle.logic_meaning.specs.Text.{name_at, tree_text}
use Rattle.redlog_printer.specs.Texts.{Begins, brackets, IsOpened}

-- one bracket more, in front and behind
brackets_front : (n : ℕ) → codes ")" ++ brackets n ≡ brackets (n + 1)
brackets_front n = rw (add-one n) refl

pub brackets_behind : (n : ℕ) → brackets n ++ codes ")" ≡ brackets (n + 1)
brackets_behind n = replicate-append-replicate n 1 41

pub length-brackets : (n : ℕ) → length (brackets n) ≡ n
length-brackets n = length-replicate n 41

module _ (names : List (List ℕ)) (before : List ℕ) (t : Tree) (after : List ℕ) (u : Tree) (count : ℕ) (h : IsOpened names before t after u count) where
  module _ (word : List ℕ) (x : ℕ) (v : Tree) (b : Begins u word x v) where
    parted : (after ++ (word ++ name_at names x ++ codes ",")) ++ (tree_text names v ++ brackets (count + 1)) ≡ before ++ tree_text names t
    parted =
        let inside : (after ++ (word ++ name_at names x ++ codes ",")) ++ (tree_text names v ++ (codes ")" ++ brackets count))
        ≡ after ++ ((word ++ name_at names x ++ codes "," ++ tree_text names v ++ codes ")") ++ brackets count) = simp append_assoc in
        ap (λ bs. (after ++ (word ++ name_at names x ++ codes ",")) ++ (tree_text names v ++ bs)) (sym (brackets_front count))
        ∙ inside ∙ ap (λ text. after ++ (text ++ brackets count)) (sym (b.text names)) ∙ h.text

    pub opened_more : IsOpened names before t (after ++ (word ++ name_at names x ++ codes ",")) v (count + 1)
    opened_more = record { text = parted; within = b.within (length names) h.within; members = b.members h.members }

    pub opening_within : length after + length (word ++ name_at names x ++ codes ",") ≤ length before + length (tree_text names t)
    opening_within =
        let all = ap length parted in
        let first = length-append (after ++ (word ++ name_at names x ++ codes ",")) (tree_text names v ++ brackets (count + 1)) in
        let front = length-append after (word ++ name_at names x ++ codes ",") in
        let whole = length-append before (tree_text names t) in
        omega arith

  pub closed_text : (after ++ tree_text names u) ++ brackets count ≡ before ++ tree_text names t
  closed_text = append_assoc after (tree_text names u) (brackets count) ∙ h.text

  pub closed_length : length after + length (tree_text names u) + count ≡ length before + length (tree_text names t)
  closed_length =
      let all = ap length closed_text in
      let first = length-append (after ++ tree_text names u) (brackets count) in
      let front = length-append after (tree_text names u) in
      let last = length-brackets count in
      let whole = length-append before (tree_text names t) in
      omega arith
