-- A record that is whole has just the states of the steps and phases that were shown.
use Rattle.std.proofs.Common.{◌≡◌, inl, inr, Bool, true, false, List, [], ◌∷◌, ◌++◌, map, sym, ap, ◌∙◌}
use Rattle.std.proofs.lemmas.Bool.{cases_Bool, and_parts}
use Rattle.std.proofs.lemmas.List.{append_assoc, append-nil}
use Rattle.ternary.specs.declared.tern.Tern.{Tern}
use Rattle.settling.specs.Passing.{see_all}
use Rattle.settling.specs.Passes.{Pass, see_pass, see_passes}
use Rattle.good_run.specs.Recording.{RunData, has_room, look_at, shown_by, shown_of}
use Rattle.good_run.specs.Laws.{rest_in, RecordsTellThePasses}
use Rattle.good_run.proofs.RecordLemmas.{look_noted, look_lost}

-- what is whole after a look was whole before, and the look was noted
look_whole : (begins : Bool) (run : RunData) (state : List Tern) → (look_at begins run state).whole ≡ true →
    (run.whole ≡ true) × ((look_at begins run state).shown ≡ run.shown ++ record { begins = begins; state = state } ∷ [])
look_whole begins run state whole =
    elim (cases_Bool (has_room run state)) [
      | inl room ↦ (whole_before room, ap (λ (r : RunData). r.shown) (look_noted begins run state room))
      | inr none ↦ absurd (cc (sym whole ∙ ap (λ (r : RunData). r.whole) (look_lost begins run state none)))
    ]
  where
    whole_before : has_room run state ≡ true → run.whole ≡ true
    whole_before room = (and_parts run.whole _ room).0

-- after some looks at states behind unit steps
steps_whole : (run : RunData) (states : List (List Tern)) → (see_all (look_at false) run states).whole ≡ true →
    (run.whole ≡ true) × ((see_all (look_at false) run states).shown ≡ run.shown ++ map (λ state. record { begins = false; state = state }) states)
steps_whole run [] whole = (whole, sym (append-nil run.shown))
steps_whole run (state ∷ states) whole =
    let (mid, rest) = steps_whole (look_at false run state) states whole in
    let (before, one) = look_whole false run state mid in (
      before,
      rest ∙ (ap (λ shown. shown ++ map (λ s. record { begins = false; state = s }) states) one
          ∙ append_assoc run.shown (record { begins = false; state = state } ∷ []) (map (λ s. record { begins = false; state = s }) states)),
    )

-- after a step or a phase
pass_whole : (run : RunData) (pass : Pass) → (see_pass (look_at true) (look_at false) rest_in run pass).whole ≡ true →
    (run.whole ≡ true) × ((see_pass (look_at true) (look_at false) rest_in run pass).shown ≡ run.shown ++ shown_by pass)
pass_whole run pass whole =
    let (mid, rest) = steps_whole (look_at true run pass.before) pass.states whole in
    let (before, one) = look_whole true run pass.before mid in (
      before,
      rest ∙ (ap (λ shown. shown ++ map (λ s. record { begins = false; state = s }) pass.states) one
          ∙ append_assoc run.shown (record { begins = true; state = pass.before } ∷ []) (map (λ s. record { begins = false; state = s }) pass.states)),
    )

-- and after several
passes_whole : (run : RunData) (passes : List Pass) → (see_passes (look_at true) (look_at false) rest_in run passes).whole ≡ true →
    (run.whole ≡ true) × ((see_passes (look_at true) (look_at false) rest_in run passes).shown ≡ run.shown ++ shown_of passes)
passes_whole run [] whole = (whole, sym (append-nil run.shown))
passes_whole run (pass ∷ passes) whole =
    let (mid, rest) = passes_whole (see_pass (look_at true) (look_at false) rest_in run pass) passes whole in
    let (before, one) = pass_whole run pass mid in (
      before,
      rest ∙ (ap (λ shown. shown ++ shown_of passes) one ∙ append_assoc run.shown (shown_by pass) (shown_of passes)),
    )

pub records_tell : RecordsTellThePasses
records_tell run passes whole = (passes_whole run passes whole).1
