-- The entry with a number takes its value: what that says of all entries.
use Rattle.std.proofs.Common.{◌≡◌, ◌≢◌, ℕ, ◌<◌, ◌≤◌, Bool, true, List, [], ◌++◌, length, refl, sym, ◌∙◌, ap, arith, subst}
use Rattle.std.specs.Prelude.{slice_index_or, slice_set}
use Rattle.std.proofs.Math.Seq.{map-set_same}
use Rattle.std.proofs.lemmas.List.{get_or-map, get_or-set_same, get_or-set_other, length-map, map-set}
use Rattle.ternary.specs.declared.tern.Tern.{Tern}
use Rattle.wave_dump.specs.Changes.{new_value, old_value, TakesValue}
use Rattle.wave_dump.specs.Dumps.{time_due}
use Rattle.wave_dump.specs.Entries.{ShownEntry, entries_of, shown_of, no_entry}
use Rattle.wave_dump.specs.Values.{value_in, value_line}

-- past the last entry nothing is taken
pub takes_past : (state : List Tern) (number time : ℕ) (is_told : Bool) (held : List ShownEntry) (before : List ℕ) → length held ≤ number →
    TakesValue state number time is_told is_told held held before before
takes_past state number time is_told held before past = record {
  entries = refl;
  others = λ k other. refl;
  here = λ inside. absurd (omega (arith, inside, past));
  same = λ is. (refl, refl);
  differs = λ other. absurd (other refl);
}

module _ (state : List Tern) (number time : ℕ) (is_told : Bool) (old : List ShownEntry) (before : List ℕ) (was fresh : ShownEntry)
    (inside : number < length old) (is : was ≡ slice_index_or old number was) (kept : fresh.entry ≡ was.entry) (value : fresh.shown ≡ value_in state was.entry) where
  abbrev new : List ShownEntry
  new = slice_set old number fresh

  entries_new : entries_of new ≡ entries_of old
  entries_new = map-set_same (λ (held : ShownEntry). held.entry) old number fresh was (kept ∙ ap (λ (held : ShownEntry). held.entry) is)

  value_new : old_value new number ≡ fresh.shown
  value_new =
      ap (λ values. slice_index_or values number []) (map-set (λ (held : ShownEntry). held.shown) old number fresh)
      ∙ get_or-set_same (shown_of old) number fresh.shown [] (omega (arith, inside, length-map old (λ (held : ShownEntry). held.shown)))

  value_old : old_value old number ≡ was.shown
  value_old = get_or-map (λ (held : ShownEntry). held.shown) old number was [] inside ∙ ap (λ (held : ShownEntry). held.shown) (sym is)

  new_is : new_value state old number ≡ fresh.shown
  new_is =
      ap (value_in state) (get_or-map (λ (held : ShownEntry). held.entry) old number was no_entry inside ∙ ap (λ (held : ShownEntry). held.entry) (sym is))
      ∙ sym value

  others_new : (k : ℕ) → k ≢ number → old_value new k ≡ old_value old k
  others_new k other =
      ap (λ values. slice_index_or values k []) (map-set (λ (held : ShownEntry). held.shown) old number fresh)
      ∙ get_or-set_other (shown_of old) number k fresh.shown [] other

  -- the value is as it was
  pub takes_same : fresh.shown ≡ was.shown → TakesValue state number time is_told is_told old new before before
  takes_same same = record {
    entries = entries_new;
    others = others_new;
    here = λ there. value_new ∙ sym new_is;
    same = λ as_before. (refl, refl);
    differs = λ other. absurd (other (value_new ∙ (same ∙ sym value_old)));
  }

  -- it is another one, and was written
  pub takes_changed : fresh.shown ≢ was.shown → (after : List ℕ) → after ≡ before ++ (time_due is_told time ++ value_line number fresh.shown) →
      TakesValue state number time is_told true old new before after
  takes_changed other after grew = record {
    entries = entries_new;
    others = others_new;
    here = λ there. value_new ∙ sym new_is;
    same = λ as_before. absurd (other (sym value_new ∙ (as_before ∙ value_old)));
    differs = λ differs. (refl, grew ∙ ap (λ value. before ++ (time_due is_told time ++ value_line number value)) (sym new_is));
  }
