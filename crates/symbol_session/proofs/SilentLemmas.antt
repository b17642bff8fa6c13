-- Lines that are told without rails: none of them is a waveform line, and no column writes one there.
use Rattle.std.proofs.Common.{◌≡◌, ℕ, ◌<◌, Bool, true, false, List, [], ◌∷◌, ◌++◌, All, Option, None, Some, refl, sym, ap, ap₂, ◌∙◌, if◌then◌else◌}
use Rattle.std.specs.Prelude.{filter_map, flat_map, option_and_then, option_map, IfSome, ◌==◌}
use Rattle.std.specs.List.{cons_option}
use Rattle.std.proofs.lemmas.List.Elements.{All-append, All-cons, All-head, All-nil, All-tail}
use Rattle.netlist.specs.Circuits.{CircuitData}
use Rattle.ternary.specs.declared.tern.Tern.{Tern}
use Rattle.switch_paths.specs.declared.switching.Switch.{Switch}
use Rattle.node_looks.specs.Looks.{numbered, other_end}
use Rattle.netlist.specs.Edits.{node_named}
use Rattle.truth_makers.specs.declared.symbols.Symbols.{Symbols}
use Rattle.truth_makers.specs.Makers.{IsFunctionOf}
use Rattle.script_lang.specs.declared.command.Tell.{Tell}
use Rattle.script_lang.specs.declared.command.Tell.TheVariants.{Expect, Show, Look}
use Rattle.told_lines.specs.Lines.{Line}
use Rattle.session_meaning.specs.Sessions.{HeldSession}
use Rattle.symbol_meaning.specs.Told.{SymbolTold, Wave, Unmet, Shown, Looked, AtEnd, AtGate}
use Rattle.symbol_meaning.specs.Merging.{AreMerged, IsMerged}
use Rattle.symbol_meaning.specs.Merging.AreMerged.{no_line, one_more}
use Rattle.symbol_meaning.specs.Merging.IsMerged.{waves, shown, looked, at_end, at_gate}
use Rattle.symbol_told.specs.Lines.{Telling}
use Rattle.symbol_stage.specs.Stages.{StageData}
use Rattle.symbol_looking.specs.Letters.{letter_on}
use Rattle.symbol_looking.specs.Names.{all_shown, end_told, gate_told, looked_told, node_told, shown_told}
use Rattle.symbol_looking.specs.Tellings.{telling, tellings}
use Rattle.symbol_comparing.specs.Rails.{AreRailsOf, rails_of}
use Rattle.symbol_equiv.specs.Waves.{AreRailed, wave_of, wave_told, wave_with}
use Rattle.symbol_session.specs.Turns.{told_of}

-- the line is a waveform line
abbrev pub is_wave : SymbolTold → Bool
is_wave (Wave n k mark letters) = true
is_wave other = false

-- such a line tells no states by rails
untold : (symbols : Symbols) (column : ℕ) (line : SymbolTold) → is_wave line ≡ false → wave_with symbols column line [] [] ≡ None
untold symbols column (Wave n k mark letters) is = absurd (cc)
untold symbols column (Unmet name wanted got n truths) is = refl
untold symbols column (Shown name letters) is = refl
untold symbols column (Looked name state sort) is = refl
untold symbols column (AtEnd switch gate gate_state end end_state) is = refl
untold symbols column (AtGate switch source source_state drain drain_state) is = refl

pub none_told : (symbols : Symbols) (column : ℕ) (told : List SymbolTold) → All (λ line. is_wave line ≡ false) told →
    filter_map (wave_told symbols column) (tellings told) ≡ []
none_told symbols column [] all = refl
none_told symbols column (line ∷ told) all =
    ap₂ (λ (first : Option (ℕ × List Tern)) (others : List (ℕ × List Tern)). cons_option first others)
    (untold symbols column line (All-head (λ own. is_wave own ≡ false) line told all))
    (none_told symbols column told (All-tail (λ own. is_wave own ≡ false) line told all))

-- no rails are rails of no node
pub no_rails : (symbols : Symbols) (told : List SymbolTold) → All (λ (own : Telling). AreRailsOf symbols (rails_of own.highs own.lows)) (tellings told)
no_rails symbols [] = All-nil (λ (own : Telling). AreRailsOf symbols (rails_of own.highs own.lows))
no_rails symbols (line ∷ told) =
    All-cons (λ (own : Telling). AreRailsOf symbols (rails_of own.highs own.lows)) (telling line) (tellings told)
    (record {
      columns = record { counted = refl; each = λ column inside. record { ones = refl; zeros = refl } };
      highs = All-nil (IsFunctionOf symbols);
      lows = All-nil (IsFunctionOf symbols);
    })
    (no_rails symbols told)

-- ---- lines of columns that are told together

no_wave : (columns : ℕ) (lines : ℕ → Line) (told : SymbolTold) → IsMerged columns lines told → is_wave told ≡ false → (column : ℕ) → column < columns →
    wave_of (lines column) ≡ None
no_wave columns lines told (waves n k mark letters counts marks states is greatest marked are) none column inside = absurd (cc)
no_wave columns lines told (shown name letters states is are) none column inside = ap wave_of (is column inside)
no_wave columns lines told (looked name letter sort states is are) none column inside = ap wave_of (is column inside)
no_wave columns lines told (at_end switch gate end gate_letter end_letter switches gates ends is one two three) none column inside = ap wave_of (is column inside)
no_wave columns lines told (at_gate switch source drain source_letter drain_letter switches sources drains is one two three) none column inside =
    ap wave_of (is column inside)

none_written : (columns : ℕ) (lines : ℕ → List Line) (told : List SymbolTold) → AreMerged columns lines told → All (λ line. is_wave line ≡ false) told →
    (column : ℕ) → column < columns → filter_map wave_of (lines column) ≡ []
none_written columns lines told (no_line _ none) all column inside = ap (filter_map wave_of) (none column inside)
none_written columns lines told (one_more _ others own line more is here later) all column inside =
    ap (filter_map wave_of) (is column inside)
    ∙ ap₂ (λ (first : Option (ℕ × List Tern)) (rest : List (ℕ × List Tern)). cons_option first rest)
    (no_wave columns own line here (All-head (λ one. is_wave one ≡ false) line more all) column inside)
    (none_written columns others more later (All-tail (λ one. is_wave one ≡ false) line more all) column inside)

-- so they are told with the rails of their waveform lines, of which there is none
pub silent_railed : (symbols : Symbols) (columns : ℕ) (lines : ℕ → List Line) (told : List SymbolTold) → All (λ line. is_wave line ≡ false) told →
    ((column : ℕ) → column < columns → filter_map wave_of (lines column) ≡ []) → AreRailed symbols columns lines (tellings told)
silent_railed symbols columns lines told all none = record {
  rails = no_rails symbols told;
  waves = λ column inside. none_told symbols column told all ∙ sym (none column inside);
}

pub merged_railed : (symbols : Symbols) (columns : ℕ) (lines : ℕ → List Line) (told : List SymbolTold) → All (λ line. is_wave line ≡ false) told →
    AreMerged columns lines told → AreRailed symbols columns lines (tellings told)
merged_railed symbols columns lines told all merged = silent_railed symbols columns lines told all (none_written columns lines told merged all)

-- ---- what is shown, and what is looked at

shown_silent : (session : HeldSession StageData) (names : List (List ℕ)) → All (λ line. is_wave line ≡ false) (all_shown session names)
shown_silent session [] = All-nil (λ line. is_wave line ≡ false)
shown_silent session (name ∷ names) =
    All-cons (λ line. is_wave line ≡ false) (shown_told session name) (all_shown session names) refl (shown_silent session names)

filter_silent : {X : Type 0} (f : X → Option SymbolTold) → ((x : X) → IfSome (f x) (λ line. is_wave line ≡ false)) → (list : List X) →
    All (λ line. is_wave line ≡ false) (filter_map f list)
filter_silent f each [] = All-nil (λ line. is_wave line ≡ false)
filter_silent f each (x ∷ list) = by (f x) (each x) (filter_silent f each list)
  where
    by : (found : Option SymbolTold) → IfSome found (λ line. is_wave line ≡ false) → All (λ line. is_wave line ≡ false) (filter_map f list) →
        All (λ line. is_wave line ≡ false) (cons_option found (filter_map f list))
    by None is rest = rest
    by (Some line) is rest = All-cons (λ own. is_wave own ≡ false) line (filter_map f list) is rest

-- what is told of a transistor with an end at the node, and of one with its gate there
abbrev ends_told : CircuitData → (ℕ → Option Tern) → ℕ → ℕ × Option Switch → Option SymbolTold
ends_told c letters node item = option_and_then (λ (switch : Switch). option_map (end_told c letters item.0 switch) (other_end node switch)) item.1

abbrev gates_told : CircuitData → (ℕ → Option Tern) → ℕ → ℕ × Option Switch → Option SymbolTold
gates_told c letters node item =
    option_and_then (λ (switch : Switch). if switch.gate == node then Some (gate_told c letters item.0 switch) else None) item.1

end_silent : (c : CircuitData) (letters : ℕ → Option Tern) (node : ℕ) (item : ℕ × Option Switch) →
    IfSome (ends_told c letters node item) (λ line. is_wave line ≡ false)
end_silent c letters node (number, None) = tt
end_silent c letters node (number, Some switch) = by (other_end node switch)
  where
    by : (found : Option ℕ) → IfSome (option_map (end_told c letters number switch) found) (λ line. is_wave line ≡ false)
    by None = tt
    by (Some other) = refl

gate_silent : (c : CircuitData) (letters : ℕ → Option Tern) (node : ℕ) (item : ℕ × Option Switch) →
    IfSome (gates_told c letters node item) (λ line. is_wave line ≡ false)
gate_silent c letters node (number, None) = tt
gate_silent c letters node (number, Some switch) = by (switch.gate == node)
  where
    by : (test : Bool) → IfSome (if test then Some (gate_told c letters number switch) else None) (λ line. is_wave line ≡ false)
    by true = refl
    by false = tt

looked_silent : (c : CircuitData) (letters : ℕ → Option Tern) (names : List (List ℕ)) → All (λ line. is_wave line ≡ false) (flat_map (looked_told c letters) names)
looked_silent c letters [] = All-nil (λ line. is_wave line ≡ false)
looked_silent c letters (name ∷ names) =
    let node = node_named c name in
    let ends = filter_map (ends_told c letters node) (numbered c) in
    let gates = filter_map (gates_told c letters node) (numbered c) in
    All-append (λ line. is_wave line ≡ false) (looked_told c letters name) (flat_map (looked_told c letters) names)
    (All-cons (λ line. is_wave line ≡ false) (node_told c letters node) (ends ++ gates) refl
    (All-append (λ line. is_wave line ≡ false) ends gates (filter_silent (ends_told c letters node) (end_silent c letters node) (numbered c))
    (filter_silent (gates_told c letters node) (gate_silent c letters node) (numbered c))))
    (looked_silent c letters names)

pub told_silent : (session : HeldSession StageData) (tell : Tell) → All (λ line. is_wave line ≡ false) (told_of session tell)
told_silent session (Expect list) = All-nil (λ line. is_wave line ≡ false)
told_silent session (Show names) = shown_silent session names
told_silent session (Look names) = looked_silent session.core.circuit (letter_on session.stage) names
