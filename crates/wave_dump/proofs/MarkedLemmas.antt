-- Marked entries are written one after the other, in ascending order. Each step goes from the entries that are done to the next marked one:
-- those between didn't change, since each that did is marked.
use Rattle.std.proofs.Common.{◌≡◌, ◌≢◌, ℕ, ◌+◌, ◌-◌, ◌<◌, ◌≤◌, Bool, true, false, inl, inr, List, [], ◌++◌, length, refl, sym, ◌∙◌, ap, arith, subst, true≢false, append_assoc, append-nil}
use Rattle.std.specs.Prelude.{slice_index_or}
use Rattle.std.specs.List.Sorted.{IsStrictlyIncreasing}
use Rattle.std.proofs.lemmas.Bool.{cases_eq, cases_lt}
use Rattle.std.proofs.lemmas.List.{ext_get_or}
use Rattle.std.proofs.lemmas.Map.Keys.{below_from_sorted, sorted_from_strictly_increasing}
use Rattle.ternary.specs.declared.tern.Tern.{Tern}
use Rattle.wave_dump.specs.Dumps.{at_time, time_line, time_due, change_text}
use Rattle.wave_dump.specs.Values.{value_line}
use Rattle.wave_dump.proofs.TextLemmas.{Leaves, leaves_more, leaves_none}
use Rattle.wave_dump.proofs.ChangeLemmas.{value_cases, line_if-same, line_if-changed, lines_from, lines_from-first, lines_from-same, lines_from-end, value_line-some, at_time-some}

-- the entries before `done` have their new values, the others the old ones; each changed one of these is still to come among the marked
-- ones; and what was written leaves the lines from there on
pub record ChangesSoFar (olds news : List (List Tern)) (marked : List ℕ) (told0 : Bool) (time : ℕ)
    (before : List ℕ) (now : List (List Tern)) (at : ℕ) (told : Bool) (after : List ℕ) : Type 0 where
  pub all : length now ≡ length news
  pub done : ℕ
  pub within : done ≤ length news
  pub first : (k : ℕ) → k < done → slice_index_or now k [] ≡ slice_index_or news k []
  pub rest : (k : ℕ) → done ≤ k → slice_index_or now k [] ≡ slice_index_or olds k []
  pub left : (k : ℕ) → done ≤ k → k < length news → slice_index_or olds k [] ≢ slice_index_or news k [] →
      (j : ℕ) × (at ≤ j) × (j < length marked) × (slice_index_or marked j 0 ≡ k)
  pub above : (j : ℕ) → at ≤ j → j < length marked → done ≤ slice_index_or marked j 0
  pub sent : told ≡ true → Leaves before after (change_text told0 time (lines_from olds news 0)) (lines_from olds news done)
  pub quiet : told ≡ false → (told0 ≡ false) × (after ≡ before) × (lines_from olds news 0 ≡ lines_from olds news done)

module _ (olds news : List (List Tern)) (count : length olds ≡ length news) (marked : List ℕ) (told0 : Bool) (time : ℕ) (before : List ℕ) where
  -- the whole text
  abbrev whole : List ℕ
  whole = change_text told0 time (lines_from olds news 0)

  told_first : told0 ≡ true → Leaves before before whole (lines_from olds news 0)
  told_first is =
      subst (λ told. Leaves before before (change_text told time (lines_from olds news 0)) (lines_from olds news 0)) (sym is)
      refl

  pub changes_none :
      ((k : ℕ) → k < length news → slice_index_or olds k [] ≢ slice_index_or news k [] → (j : ℕ) × (j < length marked) × (slice_index_or marked j 0 ≡ k)) →
      ChangesSoFar olds news marked told0 time before olds 0 told0 before
  changes_none are = record {
    all = count;
    done = 0;
    within = omega arith;
    first = λ k below. absurd (omega (arith, below));
    rest = λ k above. refl;
    left = λ k above inside differs. let (j, there, is) = are k inside differs in (j, omega arith, there, is);
    above = λ j above inside. omega arith;
    sent = told_first;
    quiet = λ is. (is, refl, refl);
  }

  module _ (ascending : IsStrictlyIncreasing marked) (now : List (List Tern)) (at : ℕ) (told : Bool) (mid : List ℕ)
      (inside : at < length marked) (so_far : ChangesSoFar olds news marked told0 time before now at told mid) where
    -- the next marked entry
    abbrev next : ℕ
    next = slice_index_or marked at 0

    later_above : (j : ℕ) → at + 1 ≤ j → j < length marked → next < slice_index_or marked j 0
    later_above j above there = below_from_sorted marked at j 0 (sorted_from_strictly_increasing marked ascending) (omega (arith, above)) there

    -- a changed entry that is still to come and isn't this one comes later
    comes_later : (k : ℕ) → k ≢ next → (j : ℕ) → at ≤ j → slice_index_or marked j 0 ≡ k → at + 1 ≤ j
    comes_later k other j above is = elim (cases_eq j at) [
      | inl here ↦ absurd (other (sym is ∙ ap (λ j. slice_index_or marked j 0) here))
      | inr past ↦ omega (arith, above, past)
    ]

    -- the entries between didn't change
    between : (k : ℕ) → so_far.done ≤ k → k < next → k < length news → slice_index_or olds k [] ≡ slice_index_or news k []
    between k above below there = elim (value_cases (slice_index_or olds k []) (slice_index_or news k [])) [
      | inl same ↦ same
      | inr (differs, _) ↦
          let (j, from, to, is) = so_far.left k above there differs in
          let past = comes_later k (λ same. absurd (omega (arith, below, same))) j from is in
          absurd (omega (arith, later_above j past to, is, below))
    ]

    lines_next : next < length news → lines_from olds news so_far.done ≡ lines_from olds news next
    lines_next there =
        let low = so_far.above at (omega arith) inside in
        lines_from-same olds news count so_far.done (next - so_far.done) (omega (arith, low, there))
        (λ k above below. between k above (omega (arith, low, below)) (omega (arith, low, below, there)))
        ∙ ap (lines_from olds news) (omega (arith, low))

    -- a number that is none of an entry is passed over
    pub changes_skip : length news ≤ next → ChangesSoFar olds news marked told0 time before now (at + 1) told mid
    changes_skip beyond = record {
      all = so_far.all;
      done = so_far.done;
      within = so_far.within;
      first = so_far.first;
      rest = so_far.rest;
      left = λ k above there differs.
          let (j, from, to, is) = so_far.left k above there differs in
          (j, comes_later k (λ same. absurd (omega (arith, there, same, beyond))) j from is, to, is);
      above = λ j above there. so_far.above j (omega (arith, above)) there;
      sent = so_far.sent;
      quiet = so_far.quiet;
    }

    -- an entry that changed: its line is the next one
    module _ (there : next < length news) (differs : slice_index_or olds next [] ≢ slice_index_or news next []) where
      abbrev line : List ℕ
      line = value_line next (slice_index_or news next [])

      changed_lines : lines_from olds news so_far.done ≡ line ++ lines_from olds news (next + 1)
      changed_lines = elim (value_cases (slice_index_or olds next []) (slice_index_or news next [])) [
        | inl same ↦ absurd (differs same)
        | inr (_, is) ↦ lines_next there ∙ (lines_from-first olds news count next there
            ∙ ap (λ line. line ++ lines_from olds news (next + 1)) (line_if-changed next (slice_index_or olds next []) (slice_index_or news next []) is))
      ]

      -- if nothing was told yet, the time comes first
      whole_quiet : told ≡ false → whole ≡ time_line time ++ (line ++ lines_from olds news (next + 1))
      whole_quiet is =
          let (first, stays, all) = so_far.quiet is in
          let text : lines_from olds news 0 ≡ line ++ lines_from olds news (next + 1) = all ∙ changed_lines in
          ap (λ told. change_text told time (lines_from olds news 0)) first
          ∙ (ap (at_time time) text ∙ at_time-some time (line ++ lines_from olds news (next + 1))
          (value_line-some next (slice_index_or news next []) (lines_from olds news (next + 1))))

      -- the time if it is due, and the line, are the next of what is left
      sends_due : (is_told : Bool) → told ≡ is_told → Leaves before mid whole ((time_due is_told time ++ line) ++ lines_from olds news (next + 1))
      sends_due true is = subst (Leaves before mid whole) changed_lines (so_far.sent is)
      sends_due false is =
          let (first, stays, all) = so_far.quiet is in
          subst (Leaves before mid whole) (sym (append_assoc (time_line time) line (lines_from olds news (next + 1))))
          (subst (Leaves before mid whole) (whole_quiet is) (subst (λ known. Leaves before known whole whole) (sym stays) refl))

    module _ (there : next < length news) (new : List (List Tern)) (new_all : length new ≡ length news)
        (here : slice_index_or new next [] ≡ slice_index_or news next [])
        (others : (k : ℕ) → k ≢ next → slice_index_or new k [] ≡ slice_index_or now k []) where
      low : so_far.done ≤ next
      low = so_far.above at (omega arith) inside

      before_next : (k : ℕ) → k < next → slice_index_or now k [] ≡ slice_index_or news k []
      before_next k below = elim (cases_lt k so_far.done) [
        | inl done ↦ so_far.first k done
        | inr left ↦ so_far.rest k (omega (arith, left)) ∙ between k (omega (arith, left)) below (omega (arith, below, there))
      ]

      first_after : (k : ℕ) → k < next + 1 → slice_index_or new k [] ≡ slice_index_or news k []
      first_after k below = elim (cases_eq k next) [
        | inl same ↦ subst (λ k. slice_index_or new k [] ≡ slice_index_or news k []) (sym same) here
        | inr other ↦ others k other ∙ before_next k (omega (arith, below, other))
      ]

      after_next : (told_now : Bool) (after : List ℕ) →
          (told_now ≡ true → Leaves before after whole (lines_from olds news (next + 1))) →
          (told_now ≡ false → (told0 ≡ false) × (after ≡ before) × (lines_from olds news 0 ≡ lines_from olds news (next + 1))) →
          ChangesSoFar olds news marked told0 time before new (at + 1) told_now after
      after_next told_now after sent quiet = record {
        all = new_all;
        done = next + 1;
        within = omega (arith, there);
        first = first_after;
        rest = λ k above. others k (λ same. absurd (omega (arith, above, same))) ∙ so_far.rest k (omega (arith, above, low));
        left = λ k above within differs.
            let (j, from, to, is) = so_far.left k (omega (arith, above, low)) within differs in
            (j, comes_later k (λ same. absurd (omega (arith, above, same))) j from is, to, is);
        above = λ j above within. omega (arith, later_above j above within);
        sent = sent;
        quiet = quiet;
      }

      -- an entry that is as it was
      pub changes_same : slice_index_or olds next [] ≡ slice_index_or news next [] →
          ChangesSoFar olds news marked told0 time before new (at + 1) told mid
      changes_same same =
          let lines : lines_from olds news so_far.done ≡ lines_from olds news (next + 1) =
          lines_next there ∙ (lines_from-first olds news count next there
          ∙ ap (λ line. line ++ lines_from olds news (next + 1)) (line_if-same next (slice_index_or olds next []) (slice_index_or news next []) same)) in
          after_next told mid
          (λ is. subst (Leaves before mid whole) lines (so_far.sent is))
          (λ is. let (first, stays, all) = so_far.quiet is in (first, stays, all ∙ lines))

      -- an entry that changed
      pub changes_more : (differs : slice_index_or olds next [] ≢ slice_index_or news next []) (after : List ℕ) →
          after ≡ mid ++ (time_due told time ++ value_line next (slice_index_or news next [])) →
          ChangesSoFar olds news marked told0 time before new (at + 1) true after
      changes_more differs after grew =
          after_next true after
          (λ is. leaves_more before mid after whole (time_due told time ++ value_line next (slice_index_or news next [])) (lines_from olds news (next + 1))
          (sends_due there differs told refl) grew)
          (λ is. absurd (true≢false is))

  -- at the end all is written
  module _ (now : List (List Tern)) (at : ℕ) (end : length marked ≤ at) (told : Bool) (after : List ℕ)
      (so_far : ChangesSoFar olds news marked told0 time before now at told after) where
    ended : (k : ℕ) → so_far.done ≤ k → k < length news → slice_index_or olds k [] ≡ slice_index_or news k []
    ended k above there = elim (value_cases (slice_index_or olds k []) (slice_index_or news k [])) [
      | inl same ↦ same
      | inr (differs, _) ↦ let (j, from, to, is) = so_far.left k above there differs in absurd (omega (arith, from, to, end))
    ]

    none_left : lines_from olds news so_far.done ≡ []
    none_left =
        lines_from-same olds news count so_far.done (length news - so_far.done) (omega (arith, so_far.within))
        (λ k above below. ended k above (omega (arith, below, so_far.within)))
        ∙ (ap (lines_from olds news) (omega (arith, so_far.within)) ∙ lines_from-end olds news count)

    pub changes_all : now ≡ news
    changes_all = ext_get_or [] now news so_far.all (λ k inside. elim (cases_lt k so_far.done) [
      | inl done ↦ so_far.first k done
      | inr left ↦ so_far.rest k (omega (arith, left)) ∙ ended k (omega (arith, left)) (omega (arith, inside, so_far.all))
    ])

    by_told : (is_told : Bool) → told ≡ is_told → after ≡ before ++ whole
    by_told true is = leaves_none before after whole (subst (Leaves before after whole) none_left (so_far.sent is))
    by_told false is =
        let (first, stays, all) = so_far.quiet is in
        let none : whole ≡ [] = ap (λ told. change_text told time (lines_from olds news 0)) first ∙ ap (at_time time) (all ∙ none_left) in
        stays ∙ (sym (append-nil before) ∙ ap (λ text. before ++ text) (sym none))

    pub changes_written : after ≡ before ++ whole
    changes_written = by_told told refl
