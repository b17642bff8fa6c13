-- A record that goes on keeps its phases, and a phase that was noted is one of it.
use Rattle.std.proofs.Common.{◌≡◌, ◌≢◌, ℕ, ◌+◌, inl, inr, Bool, true, false, List, [], ◌∷◌, ◌++◌, length, nat_lt, refl, sym, ap, subst, ◌∙◌, arith}
use Rattle.std.specs.Prelude.{All, Contains, IfSome, None, Option, Some}
use Rattle.std.proofs.lemmas.Bool.{cases_Bool}
use Rattle.std.proofs.lemmas.List.{append_assoc, append-nil, length-append}
use Rattle.std.proofs.lemmas.List.Elements.{All-push}
use Rattle.ternary.specs.declared.tern.Tern.{Tern}
use Rattle.switch_paths.specs.Graphs.{GraphData}
use Rattle.switch_paths.specs.Rails.{IsSound}
use Rattle.settling.specs.Passing.{SettlesThrough, see_all, last_state}
use Rattle.settling.specs.Passes.{Pass}
use Rattle.settling.proofs.PassingLemmas.{last_state-append, see_all-append}
use Rattle.machine_laws.specs.Machines.{MachineData}
use Rattle.machine_laws.specs.Fitting.{FitsGraph}
use Rattle.good_run.specs.Recording.{RunData, Shown, has_room, look_at, shown_by, state_before}
use Rattle.good_run.specs.Keeping.{KeepsRecord}
use Rattle.good_run.proofs.RecordLemmas.{look_noted, look_lost}
use Rattle.good_run.proofs.PassLemmas.{records_tell}
use Rattle.run_beside.specs.Replacing.{IsReplacement}
use Rattle.beside.specs.Phases.{IsPhaseOf}
use Rattle.beside_phases.proofs.RecordedLemmas.{begins_there, ends_there, phases_recorded, phases_stay, shown_count, state_stays}
use Rattle.beside_phases.proofs.CountingLemmas.{moving-push, moving_settles}
use Rattle.good_phases.specs.declared.beats.Beat.{Beat}
use Rattle.good_phases.specs.Phases.{IsBeat, NotesBeat, PassesNoted, SettlesNoted}

-- a record that goes on: it began with the same state, and more was shown perhaps
pub record GoesOn (old new : RunData) : Type 0 where
  start : new.start ≡ old.start
  more : List Shown
  shown : new.shown ≡ old.shown ++ more

goes_then : (old mid new : RunData) → GoesOn old mid → GoesOn mid new → GoesOn old new
goes_then old mid new one two = record {
  start = two.start ∙ one.start;
  more = one.more ++ two.more;
  shown = two.shown ∙ (ap (λ (list : List Shown). list ++ two.more) one.shown ∙ append_assoc old.shown one.more two.more);
}

-- a look more
look_goes : (begins : Bool) (run : RunData) (state : List Tern) → GoesOn run (look_at begins run state)
look_goes begins run state =
    elim (cases_Bool (has_room run state)) [
      | inl room ↦
          let is = look_noted begins run state room in
          record {
            start = ap (λ (r : RunData). r.start) is;
            more = record { begins = begins; state = state } ∷ [];
            shown = ap (λ (r : RunData). r.shown) is;
          }
      | inr none ↦
          let is = look_lost begins run state none in
          record {
            start = ap (λ (r : RunData). r.start) is;
            more = [];
            shown = ap (λ (r : RunData). r.shown) is ∙ sym (append-nil run.shown);
          }
    ]

-- several
looks_go : (run : RunData) (states : List (List Tern)) → GoesOn run (see_all (look_at false) run states)
looks_go run [] = record { start = refl; more = []; shown = sym (append-nil run.shown) }
looks_go run (state ∷ states) =
    goes_then run (look_at false run state) (see_all (look_at false) (look_at false run state) states) (look_goes false run state)
    (looks_go (look_at false run state) states)

-- a phase of the record is one still
beat_stays : (g : GraphData) (old new : RunData) (beat : Beat) → GoesOn old new → IsBeat g old beat → IsBeat g new beat
beat_stays g old new beat goes is = record {
  inside = omega (arith, is.inside, ap length goes.shown, length-append old.shown goes.more);
  phase = phases_stay g beat.limit old new goes.more (beat.begin + 1) beat.end goes.start goes.shown is.phase;
  begins_sound = subst IsSound (sym (state_stays old new goes.more goes.start goes.shown (beat.begin + 1) (omega (arith, is.inside)))) is.begins_sound;
  ends_sound = subst IsSound (sym (state_stays old new goes.more goes.start goes.shown beat.end is.phase.inside)) is.ends_sound;
}

-- and so it is if the record took more room
pub kept_beats : (g : GraphData) (old new : RunData) (beats : List Beat) → KeepsRecord old new → All (IsBeat g old) beats → All (IsBeat g new) beats
kept_beats g old new beats keeps are = λ k d inside.
    beat_stays g old new _ (record { start = keeps.start; more = []; shown = keeps.shown ∙ sym (append-nil old.shown) }) (are k d inside)

module _ (g : GraphData) (limit : ℕ) (run : RunData) (before : List Tern) (passed : List (List Tern)) (joined : Bool)
    (through : SettlesThrough g before limit passed joined) (sound : IsSound before) (sound_behind : IsSound (last_state before passed)) where
  abbrev pass : Pass
  pass = record { before = before; states = passed; steps = length passed }

  abbrev later : RunData
  later = see_all (look_at false) (look_at true run before) passed

  -- the record goes on
  pub phase_goes : GoesOn run later
  phase_goes = goes_then run (look_at true run before) later (look_goes true run before) (looks_go (look_at true run before) passed)

  -- if nothing was left out the phase is one of the record
  pub phase_noted : later.whole ≡ true → IsBeat g later (record { begin = length run.shown; end = length later.shown; limit = limit })
  phase_noted whole =
      let shown : later.shown ≡ run.shown ++ (shown_by pass ++ []) = records_tell run (pass ∷ []) whole in
      let so_many : length later.shown ≡ length run.shown + 1 + length passed =
      omega (arith, ap length shown, length-append run.shown (shown_by pass ++ []), length-append (shown_by pass) [], shown_count pass) in
      record {
        inside = omega (arith, so_many);
        phase = subst (IsPhaseOf g limit later (length run.shown + 1)) (sym so_many) (phases_recorded g limit later run.shown [] pass joined shown through);
        begins_sound = subst IsSound (sym (begins_there later run.shown [] pass shown)) sound;
        ends_sound = subst IsSound (sym (ap (state_before later) so_many ∙ ends_there later run.shown [] pass shown)) sound_behind;
      }

  -- the phases are those of the record that went on, and perhaps this one
  pub beats_on : (old new : List Beat) (begin end : ℕ) → begin ≡ length run.shown → end ≡ length later.shown → All (IsBeat g run) old →
      NotesBeat later (record { begin = begin; end = end; limit = limit }) old new → All (IsBeat g later) new
  beats_on old new begin end begin_is end_is are notes =
      elim notes [
        | inl same ↦ subst (All (IsBeat g later)) (sym same) still
        | inr (whole, more) ↦
            let one : IsBeat g later (record { begin = begin; end = end; limit = limit }) =
            subst (λ b. IsBeat g later (record { begin = b; end = end; limit = limit })) (sym begin_is)
            (subst (λ e. IsBeat g later (record { begin = length run.shown; end = e; limit = limit })) (sym end_is) (phase_noted whole)) in
            subst (All (IsBeat g later)) (sym more) (All-push (IsBeat g later) old (record { begin = begin; end = end; limit = limit }) still one)
      ]
    where
      still : All (IsBeat g later) old
      still = λ k d inside. beat_stays g run later _ phase_goes (are k d inside)

-- ---- steps that are noted

module _ {S : Type 0} (see : S → List Tern → S) (g : GraphData) (limit : ℕ) where
  -- none yet
  pub noted_none : (m : MachineData) (run : RunData) (before : S) → FitsGraph g m → PassesNoted see g limit 0 m m run run before before
  noted_none m run before fits =
      record { fits = fits; last_is = refl; passed = []; moving = tt; last = refl; number = refl; noted = refl; seen = refl }

  -- one more
  pub noted_more : (count : ℕ) (old mid new : MachineData) (run_old run_mid run_new : RunData) (before between after : S) →
      PassesNoted see g limit count old mid run_old run_mid before between → FitsGraph g new → new.last ≡ mid.last →
      IsReplacement g limit count mid.state new.state → new.state ≢ mid.state → run_new ≡ look_at false run_mid new.state → after ≡ see between new.state →
      PassesNoted see g limit (count + 1) old new run_old run_new before after
  noted_more count old mid new run_old run_mid run_new before between after so_far fits last move differs noted seen = record {
    fits = fits;
    last_is = last ∙ so_far.last_is;
    passed = so_far.passed ++ new.state ∷ [];
    moving = moving-push g limit 0 old.state so_far.passed new.state so_far.moving
        (subst (λ state. IsReplacement g limit (0 + length so_far.passed) state new.state) so_far.last
        (subst (λ n. IsReplacement g limit n mid.state new.state) so_many move))
        (λ same. differs (same ∙ sym so_far.last));
    last = sym (last_state-append old.state so_far.passed (new.state ∷ []));
    number = omega (arith, so_far.number, length-append so_far.passed (new.state ∷ []));
    noted = noted ∙ (ap (λ (run : RunData). look_at false run new.state) so_far.noted ∙ sym (see_all-append (look_at false) run_old so_far.passed (new.state ∷ [])));
    seen = seen ∙ (ap (λ seen. see seen new.state) so_far.seen ∙ sym (see_all-append see before so_far.passed (new.state ∷ [])));
  }
    where
      so_many : count ≡ 0 + length so_far.passed
      so_many = omega (arith, so_far.number)

  -- and one that changes nothing
  pub noted_settles : (count : ℕ) (old mid new : MachineData) (run_old run_mid run_new : RunData) (before between after : S) →
      PassesNoted see g limit count old mid run_old run_mid before between → FitsGraph g new → new.last ≡ mid.last →
      IsReplacement g limit count mid.state new.state → new.state ≡ mid.state → run_new ≡ run_mid → after ≡ between → (steps : ℕ) (joined : Bool) →
      steps ≡ count → joined ≡ nat_lt limit count → SettlesNoted see g limit steps joined old new run_old run_new before after
  noted_settles count old mid new run_old run_mid run_new before between after so_far fits last move same noted seen steps joined steps_are joined_is =
      let here = same ∙ so_far.last in
      record {
        fits = fits;
        last_is = last ∙ so_far.last_is;
        passed = so_far.passed;
        through = subst (SettlesThrough g old.state limit so_far.passed) (sym (joined_is ∙ ap (nat_lt limit) so_far.number))
            (moving_settles g limit old.state so_far.passed so_far.moving
            (subst (λ n. IsReplacement g limit n (last_state old.state so_far.passed) (last_state old.state so_far.passed)) so_far.number
            (subst (λ state. IsReplacement g limit count state (last_state old.state so_far.passed)) so_far.last
            (subst (IsReplacement g limit count mid.state) here move))));
        last = here;
        number = steps_are ∙ so_far.number;
        noted = noted ∙ so_far.noted;
        seen = seen ∙ so_far.seen;
      }

-- one of the phases is a phase of the record
pub beat_of : (g : GraphData) (run : RunData) (beats : List Beat) → All (IsBeat g run) beats → (found : Option Beat) → IfSome found (Contains beats) →
    IfSome found (IsBeat g run)
beat_of g run beats are None there = tt
beat_of g run beats are (Some beat) (k, inside, here) = subst (IsBeat g run) here (are k beat inside)
