-- A cycle of all columns, beat by beat.
-- The plan: a loop over the places of a cycle keeps what was done so far in each column, with the rows of their lines heard, and the acts that
-- did it. After a fault the phases that are left were not done; what they would have come to exists in each column, since every state settles, and
-- the columns have as many lines, one for each place: so what was heard is a part of the rows of the whole cycle.
use Rattle.std.proofs.Common.{◌≡◌, ℕ, ◌+◌, ◌-◌, ◌<◌, List, [], ◌∷◌, ◌++◌, length, Ok, Err, refl, sym, ap, subst, ◌∙◌, arith, append_assoc, append-nil, length-append}
use Rattle.std.specs.Prelude.{Result}
use Rattle.std.specs.List.{range_with_len}
use Rattle.ternary.specs.declared.tern.Tern.{Tern}
use Rattle.switch_paths.specs.Graphs.{GraphData}
use Rattle.netlist.specs.Circuits.{CircuitData}
use Rattle.column_stage.specs.Acts.{Act, Leads}
use Rattle.column_stage.proofs.LeadingLemmas.{leads_append}
use Rattle.script_lang.specs.declared.command.Run.TheVariants.{Cycle, Phase}
use Rattle.told_lines.specs.Lines.{Line, Told}
use Rattle.told_lines.specs.Hearing.{hear_all}
use Rattle.told_lines.proofs.HearingLemmas.{hear_all-append, so_far-stopped}
use Rattle.session_meaning.specs.declared.fault.ApplyFault.{ApplyFault}
use Rattle.session_meaning.specs.Sessions.{SessionData, HeldSession, ClockData, IsReady, places_of}
use Rattle.session_meaning.specs.Effects.{AreBeats, IsPhase, places_in}
use Rattle.session_meaning.specs.Outcomes.{FrontDone}
use Rattle.session_meaning.specs.Stages.{SameSetup, acts_of_clocks}
use Rattle.session_meaning.specs.Columns.{AreBeatActsInAll, AreRows, BeatInAll, BeatsBegunInAll, BeatsInAll, MovesInAll, RestsInAll, TakesBeatsInAll, column_of}
use Rattle.session_meaning.proofs.BeatLemmas.{beats-append, cycles-next, cycles-split, CyclesSplit, no_cycle, one_beat, places-next, places-split}
use Rattle.session_meaning.proofs.EffectLemmas.{beats-ready, beats_exist}
use Rattle.session_meaning.proofs.RowLemmas.{choose, rows-append, rows-none, rows_exist}

-- phases write one line each
pub length-beats : (places : List ℕ) (session new : SessionData) (lines : List Line) → AreBeats session places new lines → length lines ≡ length places
length-beats [] session new lines (same, none) = ap length none
length-beats (place ∷ places) session new lines (mid, front, back, phase, beats, whole) =
    ap length whole ∙ omega (arith, length-append front back, ap length phase.wrote, length-beats places mid new back beats)

-- phases at a prefix of more places, after those that are done, are phases at a prefix of all
front_later : (start now last : SessionData) (all done more rest : List ℕ) (lines : List Line) → all ≡ done ++ (more ++ rest) →
    AreBeats start done now lines → FrontDone more now last → FrontDone all start last
front_later start now last all done more rest lines split beats front = record {
  done = done ++ front.done;
  left = front.left ++ rest;
  split = split ∙ ap (λ places. done ++ (places ++ rest)) front.split ∙ ap (λ places. done ++ places) (append_assoc front.done front.left rest)
      ∙ sym (append_assoc done front.done (front.left ++ rest));
  lines = lines ++ front.lines;
  beats = beats-append done front.done start now last lines front.lines beats front.beats;
}

-- what a column would have come to in the phases that are left
record Left (rest : List ℕ) (next : SessionData) (end : SessionData × List Line) : Type 0 where
  pub beats : AreBeats next rest end.0 end.1

-- ---- acts of phases

module _ (columns : ℕ) (g : GraphData) (limit : ℕ) (clocks : List ClockData) where
  -- they are those of the lines of the columns that there are
  acts-alike : (places : List ℕ) (lines other : ℕ → List Line) (acts : List Act) → ((column : ℕ) → column < columns → other column ≡ lines column) →
      AreBeatActsInAll columns g limit clocks places lines acts → AreBeatActsInAll columns g limit clocks places other acts
  acts-alike [] lines other acts same (no_line, no_act) = (λ column inside. same column inside ∙ no_line column inside, no_act)
  acts-alike (place ∷ places) lines other acts same (front, back, act, more, rests, behind, all_lines, all_acts) =
      (front, back, act, more, rests, behind, λ column inside. same column inside ∙ all_lines column inside, all_acts)

  -- acts at places, and then at others
  acts-append : (places others : List ℕ) (lines more : ℕ → List Line) (acts further : List Act) → AreBeatActsInAll columns g limit clocks places lines acts →
      AreBeatActsInAll columns g limit clocks others more further →
      AreBeatActsInAll columns g limit clocks (places ++ others) (λ column. lines column ++ more column) (acts ++ further)
  acts-append [] others lines more acts further (no_line, no_act) are =
      subst (λ (some : List Act). AreBeatActsInAll columns g limit clocks others (λ column. lines column ++ more column)
      (some ++ further)) (sym no_act)
      (acts-alike others more (λ column. lines column ++ more column) further
      (λ column inside. ap (λ (some : List Line). some ++ more column) (no_line column inside)) are)
  acts-append (place ∷ places) others lines more acts further (front, back, act, rest, rests, behind, all_lines, all_acts) are = (
    front,
    λ column. back column ++ more column,
    act,
    rest ++ further,
    rests,
    acts-append places others back more rest further behind are,
    λ column inside. ap (λ (some : List Line). some ++ more column) (all_lines column inside)
        ∙ append_assoc (front column) (back column) (more column),
    ap (λ (some : List Act). some ++ further) all_acts ∙ append_assoc (acts_of_clocks g clocks place) (act ∷ rest) further,
  )

  -- those at one place
  one_place_acts : (place : ℕ) (lines : ℕ → List Line) (act : Act) → RestsInAll columns g limit lines act →
      AreBeatActsInAll columns g limit clocks (place ∷ []) lines (acts_of_clocks g clocks place ++ act ∷ [])
  one_place_acts place lines act rests =
      (lines, λ column. [], act, [], rests, (λ column inside. refl, refl), λ column inside. sym (append-nil (lines column)), refl)

module _ {H M : Type 0} (hear : H → Told → H) (part : H → Told → H → Type 0) (columns : M → ℕ) (states : M → ℕ → List Tern) (did : Act → M → M → Type 0) where
  -- nothing was done yet
  pub in_all-none : (start : HeldSession M) (before : H) → BeatsInAll hear columns states did [] start start before before
  in_all-none start before = record {
    lines = λ column. [];
    each = λ column inside. (refl, refl);
    told = [];
    rows = rows-none (columns start.stage);
    heard = refl;
    acts = [];
    are = (λ column inside. refl, refl);
    leads = refl;
  }

  -- acts with the setting of now are ones with that of the start
  further_acts : (start now : HeldSession M) (places : List ℕ) (lines : ℕ → List Line) (acts : List Act) → SameSetup start.core now.core →
      columns now.stage ≡ columns start.stage →
      AreBeatActsInAll (columns now.stage) now.core.circuit.graph now.core.limit now.core.clocks places lines acts →
      AreBeatActsInAll (columns start.stage) start.core.circuit.graph start.core.limit start.core.clocks places lines acts
  further_acts start now places lines acts setup count are =
      subst (λ (n : ℕ). AreBeatActsInAll n start.core.circuit.graph start.core.limit start.core.clocks places lines acts) count
      (subst (λ (c : CircuitData). AreBeatActsInAll (columns now.stage) c.graph start.core.limit start.core.clocks places lines acts) setup.circuit
      (subst (λ (n : ℕ). AreBeatActsInAll (columns now.stage) now.core.circuit.graph n start.core.clocks places lines acts) setup.limit
      (subst (λ (clocks : List ClockData). AreBeatActsInAll (columns now.stage) now.core.circuit.graph now.core.limit clocks places lines acts) setup.clocks
      are)))

  module _ (start now : HeldSession M) (done : List ℕ) (before mid : H) (setup : SameSetup start.core now.core) (count : columns now.stage ≡ columns start.stage)
      (so_far : BeatsInAll hear columns states did done start now before mid) where
    -- a column of the start is one of now
    within : (column : ℕ) → column < columns start.stage → column < columns now.stage
    within column inside = subst (λ (n : ℕ). column < n) (sym count) inside

    -- more phases were done
    in_all-joined : (next : HeldSession M) (more : List ℕ) (after : H) → BeatsInAll hear columns states did more now next mid after →
        BeatsInAll hear columns states did (done ++ more) start next before after
    in_all-joined next more after further = record {
      lines = λ column. so_far.lines column ++ further.lines column;
      each = λ column inside.
          beats-append done more (column_of states start column) (column_of states now column) (column_of states next column) (so_far.lines column)
          (further.lines column) (so_far.each column inside) (further.each column (within column inside));
      told = so_far.told ++ further.told;
      rows = rows-append further.lines further.told so_far.rows (subst (λ (n : ℕ). AreRows n further.lines further.told) count further.rows);
      heard = further.heard ∙ ap (λ h. hear_all hear h further.told) so_far.heard ∙ sym (hear_all-append hear before so_far.told further.told);
      acts = so_far.acts ++ further.acts;
      are = acts-append (columns start.stage) start.core.circuit.graph start.core.limit start.core.clocks done more so_far.lines further.lines so_far.acts
          further.acts so_far.are (further_acts start now more further.lines further.acts setup count further.are);
      leads = leads_append did so_far.acts further.acts start.stage now.stage next.stage so_far.leads further.leads;
    }

    -- a part of the rows of more phases was heard, and a prefix of them done in each column: it is a part of the rows of all
    in_all-part : (last : HeldSession M) (all more rest : List ℕ) (after : H) →
        ((column : ℕ) → column < columns start.stage → IsReady (column_of states start column)) → all ≡ done ++ (more ++ rest) →
        BeatsBegunInAll hear part columns states more now last mid after → BeatsBegunInAll hear part columns states all start last before after
    in_all-part last all more rest after ready split begun =
        let left : (f : ℕ → SessionData × List Line) × ((column : ℕ) → column < columns start.stage → Left rest (begun.end column) (f column)) =
        choose (columns start.stage) (λ column end. Left rest (begun.end column) end) (λ column. (begun.end column, []))
        (λ column inside.
        let found = beats_exist rest (begun.end column)
        (beats-ready more (column_of states now column) (begun.end column) (begun.lines column) (begun.each column (within column inside))
        (beats-ready done (column_of states start column) (column_of states now column) (so_far.lines column) (so_far.each column inside) (ready column inside))) in
        ((found.0, found.1), record { beats = found.2 })) in
        let others = rows_exist (columns start.stage) (length rest) (λ column. (left.0 column).1)
        (λ column inside. length-beats rest (begun.end column) (left.0 column).0 (left.0 column).1 (left.1 column inside).beats) in
        record {
          end = λ column. (left.0 column).0;
          lines = λ column. so_far.lines column ++ (begun.lines column ++ (left.0 column).1);
          each = λ column inside.
              subst (λ places. AreBeats (column_of states start column) places (left.0 column).0 (so_far.lines column ++ (begun.lines column ++ (left.0 column).1)))
              (sym split)
              (beats-append done (more ++ rest) (column_of states start column) (column_of states now column) (left.0 column).0 (so_far.lines column)
              (begun.lines column ++ (left.0 column).1) (so_far.each column inside)
              (beats-append more rest (column_of states now column) (begun.end column) (left.0 column).0 (begun.lines column) (left.0 column).1
              (begun.each column (within column inside)) (left.1 column inside).beats));
          told = so_far.told ++ (begun.told ++ others.0);
          rows = rows-append (λ column. begun.lines column ++ (left.0 column).1) (begun.told ++ others.0) so_far.rows
              (rows-append (λ column. (left.0 column).1) others.0 (subst (λ (n : ℕ). AreRows n begun.lines begun.told) count begun.rows) others.1);
          heard = so_far-stopped hear part before mid after (so_far.told ++ (begun.told ++ others.0)) (begun.told ++ others.0) begun.told others.0 refl
              (record { done = so_far.told; split = refl; heard = so_far.heard }) begun.heard;
          done = λ column inside.
              front_later (column_of states start column) (column_of states now column) (column_of states last column) all done more rest (so_far.lines column) split
              (so_far.each column inside) (begun.done column (within column inside));
        }

  -- ---- cycles

  -- no cycle was run yet
  pub in_all-no_cycle : (start : HeldSession M) (count : ℕ) (before : H) → BeatsInAll hear columns states did (places_in count 0) start start before before
  in_all-no_cycle start count before =
      subst (λ (places : List ℕ). BeatsInAll hear columns states did places start start before before) (sym (no_cycle count))
      (in_all-none start before)

  module _ (start now next : HeldSession M) (cycle : ℕ) (before mid after : H) (setup : SameSetup start.core now.core)
      (count : columns now.stage ≡ columns start.stage)
      (so_far : BeatsInAll hear columns states did (places_in (places_of start.core.clocks) cycle) start now before mid) where
    -- one cycle more was run
    pub in_all-next_cycle : BeatsInAll hear columns states did (range_with_len 0 (places_of now.core.clocks)) now next mid after →
        BeatsInAll hear columns states did (places_in (places_of start.core.clocks) (cycle + 1)) start next before after
    in_all-next_cycle last =
        let places : ℕ = places_of start.core.clocks in
        subst (λ (all : List ℕ). BeatsInAll hear columns states did all start next before after) (sym (cycles-next places cycle))
        (in_all-joined start now (places_in places cycle) before mid setup count so_far next (range_with_len 0 places) after
        (subst (λ (n : ℕ). BeatsInAll hear columns states did (range_with_len 0 n) now next mid after) (ap places_of setup.clocks) last))

    -- the hearer ended a cycle
    pub in_all-stopped_cycle : (times : ℕ) → ((column : ℕ) → column < columns start.stage → IsReady (column_of states start column)) → cycle < times →
        BeatsBegunInAll hear part columns states (range_with_len 0 (places_of now.core.clocks)) now next mid after →
        BeatsBegunInAll hear part columns states (places_in (places_of start.core.clocks) times) start next before after
    in_all-stopped_cycle times ready inside last =
        let places : ℕ = places_of start.core.clocks in
        let others : CyclesSplit places cycle times = cycles-split places cycle times inside in
        in_all-part start now (places_in places cycle) before mid setup count so_far next (places_in places times) (range_with_len 0 places) others.rest after
        ready others.split
        (subst (λ (n : ℕ). BeatsBegunInAll hear part columns states (range_with_len 0 n) now next mid after) (ap places_of setup.clocks) last)

  -- what phases at the places of cycles come to, the command does
  pub cycles_move : (times : ℕ) (old new : HeldSession M) (before after : H) (result : Result (Unit {0}) ApplyFault) →
      TakesBeatsInAll hear part columns states did (places_in (places_of old.core.clocks) times) old new before after result →
      MovesInAll hear part columns states did (Cycle times) old new before after result
  cycles_move times old new before after (Ok done) beats = record {
    lines = beats.lines;
    each = beats.each;
    told = beats.told;
    rows = beats.rows;
    heard = beats.heard;
    acts = beats.acts;
    are = beats.are;
    leads = beats.leads;
  }
  cycles_move times old new before after (Err fault) begun = record {
    end = begun.end;
    lines = begun.lines;
    each = begun.each;
    told = begun.told;
    rows = begun.rows;
    heard = begun.heard;
    done = begun.done;
  }

  -- ---- a phase at one place

  module _ (now put next : HeldSession M) (place : ℕ) (mid after : H) (beat : BeatInAll (columns now.stage) (column_of states now) (column_of states put) place)
      (ticks : Leads did now.stage (acts_of_clocks now.core.circuit.graph now.core.clocks place) put.stage) (setup : SameSetup now.core put.core)
      (count : columns put.stage ≡ columns now.stage) where
    inside_put : (column : ℕ) → column < columns now.stage → column < columns put.stage
    inside_put column inside = subst (λ (n : ℕ). column < n) (sym count) inside

    -- a phase of a column, from its states with the clocks put
    phase_at : (column : ℕ) → column < columns now.stage → (end : SessionData) (lines : List Line) → IsPhase (column_of states put column) end lines →
        AreBeats (column_of states now column) (place ∷ []) end lines
    phase_at column inside end lines phase =
        one_beat (column_of states now column) end place lines (subst (λ (s : SessionData). IsPhase s end lines) (beat.each column inside) phase)

    -- what a phase of all columns comes to, the phase at the place does
    place_taken : (result : Result (Unit {0}) ApplyFault) → MovesInAll hear part columns states did Phase put next mid after result →
        TakesBeatsInAll hear part columns states did (place ∷ []) now next mid after result
    place_taken (Ok done) phase =
        let (act, rests, is) = phase.are in
        let here : RestsInAll (columns now.stage) now.core.circuit.graph now.core.limit phase.lines act =
        subst (λ (n : ℕ). RestsInAll n now.core.circuit.graph now.core.limit phase.lines act) count
        (subst (λ (c : CircuitData). RestsInAll (columns put.stage) c.graph now.core.limit phase.lines act) setup.circuit
        (subst (λ (n : ℕ). RestsInAll (columns put.stage) put.core.circuit.graph n phase.lines act) setup.limit rests)) in
        let placed : List Act = acts_of_clocks now.core.circuit.graph now.core.clocks place in
        record {
          lines = phase.lines;
          each = λ column inside. phase_at column inside (column_of states next column) (phase.lines column)
              (phase.each column (inside_put column inside));
          told = phase.told;
          rows = subst (λ (n : ℕ). AreRows n phase.lines phase.told) count phase.rows;
          heard = phase.heard;
          acts = placed ++ act ∷ [];
          are = one_place_acts (columns now.stage) now.core.circuit.graph now.core.limit now.core.clocks place phase.lines act here;
          leads = leads_append did placed (act ∷ []) now.stage put.stage next.stage ticks
              (subst (λ (acts : List Act). Leads did put.stage acts next.stage) is phase.leads);
        }
    place_taken (Err fault) phase = record {
      end = phase.end;
      lines = phase.lines;
      each = λ column inside. phase_at column inside (phase.end column) (phase.lines column) (phase.each column (inside_put column inside));
      told = phase.told;
      rows = subst (λ (n : ℕ). AreRows n phase.lines phase.told) count phase.rows;
      heard = phase.heard;
      done = λ column inside.
          let (lines, whole) = phase.done column (inside_put column inside) in
          record {
            done = place ∷ [];
            left = [];
            split = refl;
            lines = lines;
            beats =
                phase_at column inside (column_of states next column) lines whole;
          };
    }

    module _ (start : HeldSession M) (before : H) (same : SameSetup start.core now.core) (as_many : columns now.stage ≡ columns start.stage)
        (so_far : BeatsInAll hear columns states did (range_with_len 0 place) start now before mid) where
      -- it was done in all, and its row heard
      pub in_all-beat : MovesInAll hear part columns states did Phase put next mid after (Ok tt) →
          BeatsInAll hear columns states did (range_with_len 0 (place + 1)) start next before after
      in_all-beat phase =
          subst (λ (places : List ℕ). BeatsInAll hear columns states did places start next before after) (sym (places-next place))
          (in_all-joined start now (range_with_len 0 place) before mid same as_many so_far next (place ∷ []) after (place_taken (Ok tt) phase))

      -- a part of its row was heard
      pub in_all-beat_stopped : (places : ℕ) (cause : ApplyFault) →
          ((column : ℕ) → column < columns start.stage → IsReady (column_of states start column)) →
          place < places → MovesInAll hear part columns states did Phase put next mid after (Err cause) →
          BeatsBegunInAll hear part columns states (range_with_len 0 places) start next before after
      in_all-beat_stopped places cause ready inside phase =
          in_all-part start now (range_with_len 0 place) before mid same as_many so_far next (range_with_len 0 places) (place ∷ [])
          (range_with_len (place + 1) (places - (place + 1))) after ready (places-split place places inside) (place_taken (Err cause) phase)
