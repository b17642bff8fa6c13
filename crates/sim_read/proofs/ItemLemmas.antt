-- A word cut at its first comma, and what items set one after the other: the strength and the setting after two rows of items are
-- those of the second row after the first.
use Rattle.std.proofs.Common.{◌≡◌, ℕ, ◌+◌, ◌-◌, List, [], ◌∷◌, ◌++◌, length, take, drop, position, filter_map, codes, Option, Some, None, IsSome, refl, sym, ◌∙◌, ap}
use Rattle.std.specs.List.{cons_option, flat_map}
use Rattle.std.specs.Option.{option_and_then}
use Rattle.std.proofs.lemmas.List.Splits.{slice_split_none, slice_split_at}
use Rattle.std.proofs.lemmas.List.Elements.{filter_map-append}
use Rattle.strength_order.specs.declared.Profile.{Profile}
use Rattle.line_words.proofs.CutLemmas.{IsCut-position, none_passes}
use Rattle.netlist.specs.Edits.{is_strength}
use Rattle.sim_read.specs.declared.items.Setting.{Setting}
use Rattle.sim_read.specs.Items.{is_comma, items_of, after_prefix, gate_items, strength_texts, number_that, strength_after, strength_of, setting_after, setting_after_item}

-- an item that a comma ends, and then the items of the rest, as the program slices them
pub items_of-cut : (word : List ℕ) (at : ℕ) → position is_comma word ≡ Some at
    → items_of word ≡ take at word ∷ items_of (take (length word - (at + 1)) (drop (at + 1) word))
items_of-cut word at found =
    let cut = IsCut-position is_comma word at found in
    ap items_of cut.whole ∙ slice_split_at is_comma (take at word) cut.stop _ cut.none_before cut.passes

-- a word without a comma is one item
pub items_of-whole : (word : List ℕ) → position is_comma word ≡ None → items_of word ≡ word ∷ []
items_of-whole word absent = slice_split_none is_comma word (none_passes is_comma word absent)

-- what is after two rows of items, where each item goes on from what is before it: what the second row makes of what is after the first
after-append : {S : Type 0} (after : S → List (List ℕ) → Option S) (step : S → List ℕ → Option S) → ((s : S) → after s [] ≡ Some s)
    → ((s : S) (item : List ℕ) (items : List (List ℕ)) → after s (item ∷ items) ≡ option_and_then (λ next. after next items) (step s item))
    → (s : S) (xs ys : List (List ℕ)) → after s (xs ++ ys) ≡ option_and_then (λ next. after next ys) (after s xs)
after-append after step none more s [] ys = ap (option_and_then (λ next. after next ys)) (sym (none s))
after-append {S} after step none more s (item ∷ xs) ys =
    more s item (xs ++ ys) ∙ go (step s item) (λ next. after-append after step none more next xs ys)
    ∙ ap (option_and_then (λ next. after next ys)) (sym (more s item xs))
  where
    go : (set : Option S) → ((next : S) → after next (xs ++ ys) ≡ option_and_then (λ last. after last ys) (after next xs))
        → option_and_then (λ next. after next (xs ++ ys)) set
        ≡ option_and_then (λ last. after last ys) (option_and_then (λ next. after next xs) set)
    go None each = refl
    go (Some next) each = each next

-- so the strength, after two rows of settings
strength_after-append : (profile : Profile) (strength : ℕ) (xs ys : List (List ℕ))
    → strength_after profile strength (xs ++ ys) ≡ option_and_then (λ next. strength_after profile next ys) (strength_after profile strength xs)
strength_after-append profile =
    after-append (strength_after profile) (λ strength. number_that (is_strength profile)) (λ strength. refl) (λ strength text texts. refl)

-- the last of several accepted settings is the strength
pub strength_after-last : (profile : Profile) (usual strength : ℕ) (texts : List (List ℕ)) (text : List ℕ)
    → number_that (is_strength profile) text ≡ Some strength → IsSome (strength_after profile usual texts)
    → strength_after profile usual (texts ++ text ∷ []) ≡ Some strength
strength_after-last profile usual strength texts text accepted before =
    strength_after-append profile usual texts (text ∷ []) ∙ go (strength_after profile usual texts) before where
      go : (so_far : Option ℕ) → IsSome so_far → option_and_then (λ next. strength_after profile next (text ∷ [])) so_far ≡ Some strength
      go None some = absurd (cc)
      go (Some next) some = ap (option_and_then (λ k. Some k)) accepted

-- one setting that isn't accepted leaves no strength
pub strength_after-bad : (profile : Profile) (usual : ℕ) (before after : List (List ℕ)) (text : List ℕ)
    → number_that (is_strength profile) text ≡ None → strength_after profile usual (before ++ text ∷ after) ≡ None
strength_after-bad profile usual before after text bad =
    strength_after-append profile usual before (text ∷ after) ∙ go (strength_after profile usual before) where
      go : (so_far : Option ℕ) → option_and_then (λ next. strength_after profile next (text ∷ after)) so_far ≡ None
      go None = refl
      go (Some next) = ap (option_and_then (λ k. strength_after profile k after)) bad

-- a word that speaks of the gate sets what its items set, and the words after it go on from there
pub strength_of-gate : (profile : Profile) (strength : ℕ) {all words items : List (List ℕ)} {word part : List ℕ} (set : Option ℕ)
    → all ≡ word ∷ words → Some part ≡ after_prefix (codes "g=") word → items ≡ items_of part
    → set ≡ strength_after profile strength (strength_texts items)
    → option_and_then (λ next. strength_of profile next words) set ≡ strength_of profile strength all
strength_of-gate profile strength {all} {words} {items} {word} {part} set first gate parts by_items =
    ap (option_and_then (λ next. strength_of profile next words)) (by_items ∙ ap (λ xs. strength_after profile strength (strength_texts xs)) parts)
    ∙ sym (strength_after-append profile strength (strength_texts (items_of part)) (strength_texts (gate_items words)))
    ∙ ap (strength_after profile strength) (sym (filter_map-append (after_prefix (codes "strength:")) (items_of part) (gate_items words)))
    ∙ ap (λ found. strength_after profile strength (strength_texts (flat_map items_of (cons_option found (filter_map (after_prefix (codes "g=")) words))))) gate
    ∙ ap (strength_of profile strength) (sym first)

-- and what is set, after two rows of items
setting_after-append : (profile : Profile) (setting : Setting) (xs ys : List (List ℕ))
    → setting_after profile setting (xs ++ ys) ≡ option_and_then (λ next. setting_after profile next ys) (setting_after profile setting xs)
setting_after-append profile =
    after-append (setting_after profile) (setting_after_item profile) (λ setting. refl) (λ setting item items. refl)

-- a word sets what its items set, and the words after it go on from there
pub setting_after-word : (profile : Profile) (setting : Setting) {all words items : List (List ℕ)} {word : List ℕ} (set : Option Setting)
    → all ≡ word ∷ words → items ≡ items_of word → set ≡ setting_after profile setting items
    → option_and_then (λ next. setting_after profile next (flat_map items_of words)) set ≡ setting_after profile setting (flat_map items_of all)
setting_after-word profile setting {all} {words} {items} {word} set first parts by_items =
    ap (option_and_then (λ next. setting_after profile next (flat_map items_of words))) (by_items ∙ ap (setting_after profile setting) parts)
    ∙ sym (setting_after-append profile setting (items_of word) (flat_map items_of words))
    ∙ ap (λ xs. setting_after profile setting (flat_map items_of xs)) (sym first)
