-- What a loop feeds a hasher: a word for each item of a list.
use Rattle.std.proofs.Common.{◌≡◌, ℕ, suc, ◌+◌, ◌<◌, ◌≤◌, List, [], ◌∷◌, ◌++◌, length, get_or, take, map, sym, ap, ◌∙◌, arith}
use Rattle.std.proofs.Math.Seq.{take-suc}
use Rattle.std.specs.Hash as fed
use Rattle.std.specs.List.{fold}
use Rattle.std.proofs.lemmas.Grind.{flat_map-append}
use Rattle.std.proofs.lemmas.List.{map-append, take_all}
use Rattle.std.proofs.lemmas.List.Sums.{fold-append}
use Rattle.group_text.specs.Compared.{words_writes}

module _ {S T : Type 0} (write : S → List ℕ → S) (word : T → ℕ) (s : S) (xs : List T) (i : ℕ) where
  -- the hasher that was fed the words of the first i items
  abbrev pub fed_so_far : S
  fed_so_far = fold write s (words_writes (map word (take i xs)))

  -- it was fed all words where i is past the last item
  pub fed_all : (t : S) → length xs ≤ i → t ≡ fed_so_far → t ≡ fold write s (words_writes (map word xs))
  fed_all t past before = before ∙ ap (λ items. fold write s (words_writes (map word items))) (take_all i xs past)

  -- the next item's word is fed after them
  pub fed_more : (d : T) (w : ℕ) (t u : S) → i < length xs → word (get_or xs i d) ≡ w → t ≡ fed_so_far →
      u ≡ fold write t (fed.u64 w) → u ≡ fold write s (words_writes (map word (take (i + 1) xs)))
  fed_more d w t u inside here before feeds =
      let next : i + 1 ≡ suc i = omega arith in
      let words : map word (take (i + 1) xs) ≡ map word (take i xs) ++ w ∷ [] =
      ap (λ k. map word (take k xs)) next ∙ ap (map word) (take-suc xs i d inside)
      ∙ map-append word (take i xs) (get_or xs i d ∷ [])
      ∙ ap (λ last. map word (take i xs) ++ last ∷ []) here in
      let writes = ap words_writes words ∙ flat_map-append fed.u64 (map word (take i xs)) (w ∷ []) in
      let both = fold-append write s (words_writes (map word (take i xs))) (fed.u64 w) in
      feeds ∙ ap (λ hasher. fold write hasher (fed.u64 w)) before ∙ sym (ap (fold write s) writes ∙ both)
