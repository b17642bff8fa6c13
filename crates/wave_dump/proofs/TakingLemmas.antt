-- An entry takes its value: what is written so far goes on to the next marked entry.
use Rattle.std.proofs.Common.{◌≡◌, ◌≢◌, ℕ, ◌+◌, ◌<◌, ◌≤◌, Bool, inl, inr, List, [], ◌++◌, length, refl, sym, ◌∙◌, ap, arith, subst}
use Rattle.std.specs.Prelude.{slice_index_or}
use Rattle.std.specs.List.Sorted.{IsStrictlyIncreasing}
use Rattle.std.proofs.lemmas.Bool.{cases_lt}
use Rattle.std.proofs.lemmas.List.{ext_get_or, get_or-map, get_or_past, get_or_default, length-map}
use Rattle.ternary.specs.declared.tern.Tern.{Tern}
use Rattle.wave_dump.specs.Changes.{new_value, old_value, TakesValue}
use Rattle.wave_dump.specs.Dumps.{change_text, time_due}
use Rattle.wave_dump.specs.Entries.{ShownEntry, entries_of, shown_of, no_entry, AreMarked}
use Rattle.wave_dump.specs.Values.{value_in, values_in, value_line, change_lines}
use Rattle.wave_dump.proofs.ChangeLemmas.{value_cases}
use Rattle.wave_dump.proofs.MarkedLemmas.{ChangesSoFar, changes_none, changes_skip, changes_same, changes_more}

-- there are as many entries and values as are held
entries-count : (held : List ShownEntry) → length (entries_of held) ≡ length held
entries-count held = length-map held (λ (one : ShownEntry). one.entry)

shown-count : (held : List ShownEntry) → length (shown_of held) ≡ length held
shown-count held = length-map held (λ (one : ShownEntry). one.shown)

-- as many are held if the entries are the same
same-count : (one two : List ShownEntry) → entries_of one ≡ entries_of two → length one ≡ length two
same-count one two same = sym (entries-count one) ∙ (ap length same ∙ entries-count two)

module _ (state : List Tern) (held0 : List ShownEntry) where
  abbrev news : List (List Tern)
  news = values_in state (entries_of held0)

  news-count : length news ≡ length held0
  news-count = length-map (entries_of held0) (value_in state) ∙ entries-count held0

  pub both-count : length (shown_of held0) ≡ length news
  both-count = shown-count held0 ∙ sym news-count

  -- the new value of an entry, as it is in the list of all
  new-is : (held : List ShownEntry) (number : ℕ) → entries_of held ≡ entries_of held0 → number < length news →
      new_value state held number ≡ slice_index_or news number []
  new-is held number same inside =
      ap (λ entries. value_in state (slice_index_or entries number no_entry)) same
      ∙ sym (get_or-map (value_in state) (entries_of held0) number no_entry [] (omega (arith, inside, news-count, entries-count held0)))

  -- before the first marked entry
  pub taken-none : (marked : List ℕ) (time : ℕ) (is_told : Bool) (before : List ℕ) → AreMarked held0 state marked →
      ChangesSoFar (shown_of held0) news marked is_told time before (shown_of held0) 0 is_told before
  taken-none marked time is_told before are =
      changes_none (shown_of held0) news both-count marked is_told time before
      (λ k inside differs.
      let (j, there, is) = are k (omega (arith, inside, news-count)) (λ same. differs (sym same ∙ new-is held0 k refl inside)) in
      (j, there, get_or_default marked j 0 k there ∙ is))

  module _ (marked : List ℕ) (ascending : IsStrictlyIncreasing marked) (time : ℕ) (told0 : Bool) (before : List ℕ)
      (held : List ShownEntry) (at : ℕ) (told : Bool) (mid : List ℕ) (inside : at < length marked) (same_entries : entries_of held ≡ entries_of held0)
      (so_far : ChangesSoFar (shown_of held0) news marked told0 time before (shown_of held) at told mid) where
    abbrev number : ℕ
    number = slice_index_or marked at 0

    held-count : length held ≡ length held0
    held-count = same-count held held0 same_entries

    module _ (new : List ShownEntry) (told_now : Bool) (after : List ℕ) (takes : TakesValue state number time told told_now held new mid after) where
      new-count : length new ≡ length held
      new-count = same-count new held takes.entries

      -- a number that is none of an entry
      past : length news ≤ number → ChangesSoFar (shown_of held0) news marked told0 time before (shown_of new) (at + 1) told_now after
      past beyond =
          let none_new : old_value new number ≡ [] = get_or_past (shown_of new) number [] (omega (arith, beyond, news-count, held-count, new-count, shown-count new)) in
          let none_held : old_value held number ≡ [] = get_or_past (shown_of held) number [] (omega (arith, beyond, news-count, held-count, shown-count held)) in
          let kept = takes.same (none_new ∙ sym none_held) in
          let all : shown_of new ≡ shown_of held =
          ext_get_or [] (shown_of new) (shown_of held) (shown-count new ∙ (new-count ∙ sym (shown-count held)))
          (λ k within. takes.others k (λ here. absurd (omega (arith, within, here, beyond, news-count, held-count, new-count, shown-count new)))) in
          let skipped = changes_skip (shown_of held0) news both-count marked told0 time before ascending (shown_of held) at told mid inside so_far beyond in
          subst (λ shown. ChangesSoFar (shown_of held0) news marked told0 time before shown (at + 1) told_now after) (sym all)
          (subst (λ now. ChangesSoFar (shown_of held0) news marked told0 time before (shown_of held) (at + 1) now after) (sym kept.0)
          (subst (λ known. ChangesSoFar (shown_of held0) news marked told0 time before (shown_of held) (at + 1) told known) (sym kept.1) skipped))

      module _ (there : number < length news) where
        here : old_value new number ≡ slice_index_or news number []
        here = takes.here (omega (arith, there, news-count, held-count)) ∙ new-is held number same_entries there

        was : old_value held number ≡ slice_index_or (shown_of held0) number []
        was = so_far.rest number (so_far.above at (omega arith) inside)

        new_all : length (shown_of new) ≡ length news
        new_all = omega (arith, shown-count new, new-count, held-count, news-count)

        inner : ChangesSoFar (shown_of held0) news marked told0 time before (shown_of new) (at + 1) told_now after
        inner = elim (value_cases (slice_index_or (shown_of held0) number []) (slice_index_or news number [])) [
          | inl same ↦
              let kept = takes.same (here ∙ (sym same ∙ sym was)) in
              let done = changes_same (shown_of held0) news both-count marked told0 time before ascending (shown_of held) at told mid inside so_far
              there (shown_of new) new_all here takes.others same in
              subst (λ now. ChangesSoFar (shown_of held0) news marked told0 time before (shown_of new) (at + 1) now after) (sym kept.0)
              (subst (λ known. ChangesSoFar (shown_of held0) news marked told0 time before (shown_of new) (at + 1) told known) (sym kept.1) done)
          | inr (differs, _) ↦
              let changed = takes.differs (λ same. differs (sym was ∙ (sym same ∙ here))) in
              let text = ap (λ value. time_due told time ++ value_line number value) (new-is held number same_entries there) in
              let done = changes_more (shown_of held0) news both-count marked told0 time before ascending (shown_of held) at told mid inside so_far
              there (shown_of new) new_all here takes.others differs after (changed.1 ∙ ap (λ text. mid ++ text) text) in
              subst (λ now. ChangesSoFar (shown_of held0) news marked told0 time before (shown_of new) (at + 1) now after) (sym changed.0) done
        ]

      pub taken-more : ChangesSoFar (shown_of held0) news marked told0 time before (shown_of new) (at + 1) told_now after
      taken-more = elim (cases_lt number (length news)) [
        | inl there ↦ inner there
        | inr beyond ↦ past (omega (arith, beyond))
      ]
