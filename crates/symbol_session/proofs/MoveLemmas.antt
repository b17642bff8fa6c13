-- Steps and phases in all columns: what is told of one after the other is told of all together, and what was broken off is a front of that.
use Rattle.std.proofs.Common.{◌≡◌, ℕ, ◌<◌, List, [], ◌∷◌, ◌++◌, All, get_or, Some, Result, Ok, Err, inl, inr, refl, sym, ap, ap₂, subst, ◌∙◌, append-nil, append_assoc}
use Rattle.std.specs.Prelude.{filter_map, OnOk}
use Rattle.std.specs.List.{cons_option}
use Rattle.std.proofs.lemmas.List.Elements.{All-append, All-head, All-nil, All-tail, filter_map-append}
use Rattle.ternary.specs.declared.tern.Tern.{Tern}
use Rattle.settling.specs.declared.settling.Settled.{Settled}
use Rattle.decision_graph.specs.declared.vertex.Function.{Function}
use Rattle.truth_makers.specs.declared.symbols.Symbols.{Symbols}
use Rattle.truth_makers.specs.Makers.{columns_in}
use Rattle.truth_parts.specs.Columns.{states_of}
use Rattle.told_lines.specs.Lines.{Line}
use Rattle.told_lines.specs.Hearing.{hear_all}
use Rattle.told_lines.proofs.HearingLemmas.{hear_all-append, so_far-front}
use Rattle.session_meaning.specs.Sessions.{SessionData}
use Rattle.session_meaning.specs.Columns.{BeatInAll, StepInAll}
use Rattle.session_meaning.specs.Effects.{IsPhase, IsUnitStep}
use Rattle.session_meaning.specs.Truths.{SettledTogether}
use Rattle.session_meaning.proofs.BeatLemmas.{beats-append, one_beat}
use Rattle.symbol_meaning.specs.Told.{SymbolTold, Wave, Unmet, Shown, Looked, AtEnd, AtGate}
use Rattle.symbol_meaning.specs.Merging.{AreMerged}
use Rattle.symbol_meaning.specs.Merging.AreMerged.{no_line}
use Rattle.symbol_told.specs.Lines.{Telling}
use Rattle.symbol_told.specs.Printing.{lines_told}
use Rattle.symbol_looking.specs.Tellings.{HearsSome}
use Rattle.symbol_looking.specs.Waves.{AreCounted}
use Rattle.symbol_looking.proofs.MergingLemmas.{merged_then}
use Rattle.symbol_comparing.specs.Rails.{AreRailsOf, RailLists, letters_in, rails_of}
use Rattle.symbol_equiv.specs.Sharing.{KeepsFunctions}
use Rattle.symbol_equiv.specs.Waves.{AreRailed, wave_of, wave_told, wave_with}
use Rattle.symbol_session.specs.Moves.{BeatsBegun, BeatsBy, Move, MovesBy, MovesHeard, MovesInAll, beats_at, one_step, waves_by}
use Rattle.symbol_session.proofs.DataLemmas.{all_kept, has_kept, values_kept}

-- ---- rails that were told

-- they are those of a later maker, too
module _ (old new : Symbols) (keeps : KeepsFunctions old new) where
  rails_later : (rails : RailLists) → AreRailsOf old rails → AreRailsOf new rails
  rails_later rails are = record {
    columns = has_kept old new keeps rails.highs rails.lows are.highs are.lows are.columns;
    highs = all_kept old new keeps rails.highs are.highs;
    lows = all_kept old new keeps rails.lows are.lows;
  }

  letters_later : (rails : RailLists) → AreRailsOf old rails → (column : ℕ) → column < columns_in old → letters_in new rails column ≡ letters_in old rails column
  letters_later rails are column inside =
      ap₂ states_of (values_kept old new keeps rails.highs are.highs column inside) (values_kept old new keeps rails.lows are.lows column inside)

  wave_later : (column : ℕ) → column < columns_in old → (line : SymbolTold) (highs lows : List Function) → AreRailsOf old (rails_of highs lows) →
      wave_with new column line highs lows ≡ wave_with old column line highs lows
  wave_later column inside (Wave n k mark letters) highs lows are =
      ap (λ (states : List Tern). Some (n, states)) (letters_later (rails_of highs lows) are column inside)
  wave_later column inside (Unmet name wanted got n truths) highs lows are = refl
  wave_later column inside (Shown name letters) highs lows are = refl
  wave_later column inside (Looked name state sort) highs lows are = refl
  wave_later column inside (AtEnd switch gate gate_state end end_state) highs lows are = refl
  wave_later column inside (AtGate switch source source_state drain drain_state) highs lows are = refl

  waves_later : (column : ℕ) → column < columns_in old → (told : List Telling) → All (λ own. AreRailsOf old (rails_of own.highs own.lows)) told →
      filter_map (wave_told new column) told ≡ filter_map (wave_told old column) told
  waves_later column inside [] all = refl
  waves_later column inside (own ∷ told) all =
      ap₂ cons_option
      (wave_later column inside own.line own.highs own.lows (All-head (λ (one : Telling). AreRailsOf old (rails_of one.highs one.lows)) own told all))
      (waves_later column inside told (All-tail (λ (one : Telling). AreRailsOf old (rails_of one.highs one.lows)) own told all))

  all_later : (told : List Telling) → All (λ own. AreRailsOf old (rails_of own.highs own.lows)) told → All (λ own. AreRailsOf new (rails_of own.highs own.lows)) told
  all_later told all = λ k d inside. rails_later (rails_of (get_or told k d).highs (get_or told k d).lows) (all k d inside)

  pub railed_later : (lines : ℕ → List Line) (told : List Telling) → AreRailed old (columns_in old) lines told → AreRailed new (columns_in old) lines told
  railed_later lines told are = record {
    rails = all_later told are.rails;
    waves = λ column inside. waves_later column inside told are.rails ∙ are.waves column inside;
  }

-- some lines, and then others
railed_then : (symbols : Symbols) (columns : ℕ) (front rest : ℕ → List Line) (told more : List Telling) → AreRailed symbols columns front told →
    AreRailed symbols columns rest more → AreRailed symbols columns (λ column. front column ++ rest column) (told ++ more)
railed_then symbols columns front rest told more first second = record {
  rails = All-append (λ (own : Telling). AreRailsOf symbols (rails_of own.highs own.lows)) told more first.rails second.rails;
  waves = λ column inside.
      filter_map-append (wave_told symbols column) told more
      ∙ ap₂ (λ (one other : List (ℕ × List Tern)). one ++ other) (first.waves column inside) (second.waves column inside)
      ∙ sym (filter_map-append wave_of (front column) (rest column));
}

-- ---- one line

-- what was done in each column wrote its waveform line, which was told
pub waved : {H : Type 0} {E : Type 0} (symbols : Symbols) (hear : H → Telling → H) (part : H → Telling → H → Type 0) (columns : ℕ) (Done : Move) (old new : ℕ → SessionData)
    (before after : H) (count : ℕ → Settled) (told : Settled) (own : Telling) → AreCounted columns count told →
    ((column : ℕ) → column < columns → Done (old column) (new column) (waves_by new count column)) →
    ((count : ℕ → Settled) → AreCounted columns count told → AreMerged columns (waves_by new count) (own.line ∷ [])) → (result : Result (Unit {0}) E) →
    ((count : ℕ → Settled) → OnOk result (AreRailed symbols columns (waves_by new count) (own ∷ []))) →
    HearsSome hear part before after (own ∷ []) result → MovesBy symbols hear part columns Done old new before after result
waved symbols hear part columns Done old new before after count told own counted each merged (Ok done) railed heard = record {
  told = own ∷ [];
  moves = record { lines = waves_by new count; each = each; merged = merged count counted };
  railed = railed count;
  heard = heard;
}
waved symbols hear part columns Done old new before after count told own counted each merged (Err fault) railed heard = inr (record {
  end = new;
  told = own ∷ [];
  moves = record { lines = waves_by new count; each = each; merged = merged count counted };
  heard = heard;
})

-- a unit step writes its line
pub stepped_lines : (columns : ℕ) (old new : ℕ → SessionData) → StepInAll columns old new → (column : ℕ) → column < columns →
    IsUnitStep (old column) (new column) (waves_by new (λ column. one_step) column)
stepped_lines columns old new steps column inside =
    let own = steps.each column inside in
    record { next = own.next; step = own.step; moved = own.moved; wrote = refl }

-- and so does a phase
pub settled_lines : (columns : ℕ) (old new : ℕ → SessionData) (told : Settled) (settled : SettledTogether columns old new told) → (column : ℕ) → column < columns →
    IsPhase (old column) (new column) (waves_by new settled.count column)
settled_lines columns old new told settled column inside =
    let own = settled.settled.each column inside in
    record { next = own.next; steps = (settled.count column).steps; joined = (settled.count column).joined; settles = own.settles; moved = own.moved; wrote = refl }

-- ---- phases at places of clocks

-- a phase behind the placing of letters is one at the place
pub beat_moves : {H T E : Type 0} (symbols : Symbols) (hear : H → Telling → H) (part : H → Telling → H → Type 0) (columns : ℕ) (old put new : ℕ → SessionData) (place : ℕ)
    (before after : H) (result : Result T E) → BeatInAll columns old put place → MovesBy symbols hear part columns IsPhase put new before after result →
    BeatsBy symbols hear part columns (place ∷ []) old new before after result
beat_moves symbols hear part columns old put new place before after (Ok done) beat moves = record {
  told = moves.told;
  moves = record {
    lines = moves.moves.lines;
    each = λ column inside. one_beat (old column) (new column) place (moves.moves.lines column)
        (subst (λ (s : SessionData). IsPhase s (new column) (moves.moves.lines column)) (beat.each column inside) (moves.moves.each column inside));
    merged = moves.moves.merged;
  };
  railed = moves.railed;
  heard = moves.heard;
}
beat_moves symbols hear part columns old put new place before after (Err fault) beat (inl same) = record {
  done = [];
  left = place ∷ [];
  split = refl;
  begun = record {
    end = old;
    told = [];
    moves = record {
      lines = λ column. [];
      each = λ column inside. (refl, refl);
      merged = no_line (λ column. []) (λ column inside. refl);
    };
    heard = inl ([], record { done = []; split = refl; heard = same });
  };
}
beat_moves symbols hear part columns old put new place before after (Err fault) beat (inr is) = record {
  done = place ∷ [];
  left = [];
  split = refl;
  begun = record {
    end = is.end;
    told = is.told;
    moves = record {
      lines = is.moves.lines;
      each = λ column inside. one_beat (old column) (is.end column) place (is.moves.lines column)
          (subst (λ (s : SessionData). IsPhase s (is.end column) (is.moves.lines column)) (beat.each column inside) (is.moves.each column inside));
      merged = is.moves.merged;
    };
    heard = is.heard;
  };
}

-- none yet
pub no_beats : {H : Type 0} (symbols : Symbols) (hear : H → Telling → H) (columns : ℕ) (old : ℕ → SessionData) (before : H) →
    MovesHeard symbols hear columns (beats_at []) old old before before
no_beats symbols hear columns old before = record {
  told = [];
  moves = record { lines = λ column. []; each = λ column inside. (refl, refl); merged = no_line (λ column. []) (λ column inside. refl) };
  railed = record { rails = All-nil (λ (own : Telling). AreRailsOf symbols (rails_of own.highs own.lows)); waves = λ column inside. refl };
  heard = refl;
}

lines_append : (told more : List Telling) → lines_told (told ++ more) ≡ lines_told told ++ lines_told more
lines_append [] more = refl
lines_append (own ∷ told) more = ap (λ (lines : List SymbolTold). own.line ∷ lines) (lines_append told more)

-- phases at some places, and then at others
moves_then : (columns : ℕ) (first second : List ℕ) (old mid new : ℕ → SessionData) (told more : List Telling) → (one : MovesInAll columns (beats_at first) old mid told) →
    (other : MovesInAll columns (beats_at second) mid new more) → MovesInAll columns (beats_at (first ++ second)) old new (told ++ more)
moves_then columns first second old mid new told more one other = record {
  lines = λ column. one.lines column ++ other.lines column;
  each = λ column inside.
      beats-append first second (old column) (mid column) (new column) (one.lines column) (other.lines column) (one.each column inside) (other.each column inside);
  merged = subst (AreMerged columns (λ column. one.lines column ++ other.lines column)) (sym (lines_append told more))
      (merged_then columns one.lines other.lines (lines_told told) (lines_told more) one.merged other.merged);
}

pub beats_then : {H : Type 0} (old_maker new_maker : Symbols) → KeepsFunctions old_maker new_maker → (hear : H → Telling → H) (columns : ℕ) → columns ≡ columns_in old_maker →
    (first second : List ℕ) (old mid new : ℕ → SessionData) (before between after : H) → MovesHeard old_maker hear columns (beats_at first) old mid before between →
    MovesHeard new_maker hear columns (beats_at second) mid new between after → MovesHeard new_maker hear columns (beats_at (first ++ second)) old new before after
unfolding moves_then
beats_then {H = H} old_maker new_maker keeps hear columns count first second old mid new before between after one other = record {
  told = one.told ++ other.told;
  moves = moves_then columns first second old mid new one.told other.told one.moves other.moves;
  railed = railed_then new_maker columns one.moves.lines other.moves.lines one.told other.told
      (subst (λ (n : ℕ). AreRailed new_maker n one.moves.lines one.told) (sym count)
      (railed_later old_maker new_maker keeps one.moves.lines one.told (subst (λ (n : ℕ). AreRailed old_maker n one.moves.lines one.told) count one.railed)))
      other.railed;
  heard = other.heard ∙ ap (λ (h : H). hear_all hear h other.told) one.heard ∙ sym (hear_all-append hear before one.told other.told);
}

-- those at the others were broken off
pub beats_broken : {H : Type 0} (symbols : Symbols) (hear : H → Telling → H) (part : H → Telling → H → Type 0) (columns : ℕ) (first second rest : List ℕ)
    (old mid : ℕ → SessionData) (before between after : H) → MovesHeard symbols hear columns (beats_at first) old mid before between →
    BeatsBegun hear part columns second mid between after → BeatsBegun hear part columns (first ++ (second ++ rest)) old before after
beats_broken symbols hear part columns first second rest old mid before between after one is = record {
  done = first ++ is.done;
  left = is.left ++ rest;
  split = ap (λ (places : List ℕ). first ++ (places ++ rest)) is.split
      ∙ ap (λ (places : List ℕ). first ++ places) (append_assoc is.done is.left rest) ∙ sym (append_assoc first is.done (is.left ++ rest));
  begun = record {
    end = is.begun.end;
    told = one.told ++ is.begun.told;
    moves = moves_then columns first is.done old mid is.begun.end one.told is.begun.told one.moves is.begun.moves;
    heard = so_far-front hear part before between after (one.told ++ is.begun.told) is.begun.told is.begun.told [] (sym (append-nil is.begun.told))
        (record { done = one.told; split = refl; heard = one.heard }) is.begun.heard;
  };
}
