-- What a command writes by data that are alike but for states can be told together, line by line, unless it is an `expect` or a `report`.
use Rattle.std.proofs.Common.{◌≡◌, ℕ, Bool, true, false, List, [], ◌∷◌, ◌++◌, length, map, Option, None, Some, refl, sym, ap, ap₂, subst, ◌∙◌, if◌then◌else◌}
use Rattle.std.specs.Prelude.{◌==◌, filter_map, option_map}
use Rattle.std.specs.List.{cons_option, flat_map}
use Rattle.std.proofs.lemmas.List.{length-map}
use Rattle.ternary.specs.declared.tern.Tern.{Tern}
use Rattle.switch_paths.specs.Switching.{state_at}
use Rattle.switch_paths.specs.declared.switching.Switch.{Switch}
use Rattle.netlist.specs.Circuits.{CircuitData}
use Rattle.netlist.specs.Edits.{node_named}
use Rattle.group_text.specs.Texts.{GroupTextData}
use Rattle.script_lang.specs.declared.command.Command.{Command}
use Rattle.script_lang.specs.declared.command.Command.TheVariants as family
use Rattle.script_lang.specs.declared.command.Run.{Run}
use Rattle.script_lang.specs.declared.command.Run.TheVariants.{Step, Phase, Cycle, Report}
use Rattle.script_lang.specs.declared.command.Tell.{Tell}
use Rattle.script_lang.specs.declared.command.Tell.TheVariants.{Expect, Show, Look}
use Rattle.told_lines.specs.Lines.{Line}
use Rattle.node_looks.specs.Looks.{at_end, at_gate, end_line, end_lines, gate_line, gate_lines, looked_lines, numbered, other_end}
use Rattle.session_meaning.specs.Sessions.{SessionData, places_of}
use Rattle.session_meaning.specs.Refusals.{nodes_named}
use Rattle.session_meaning.specs.Effects.{AreBeats, Effect, RunEffect, places_in, shown_line, told_by, wave_by}
use Rattle.session_meaning.specs.Outcomes.{Performs}
use Rattle.symbol_meaning.specs.Laws.{AlikeButStates}
use Rattle.symbol_outcomes.specs.Shapes.{AreToldWith, IsToldWith}
use Rattle.symbol_outcomes.proofs.ReadLemmas.{IsToldTogether}
use Rattle.symbol_outcomes.proofs.AlikeLemmas.{AreOneLine, alike-beat, alike-performed, mids-alike, places_alike}
use Rattle.symbol_outcomes.proofs.AlikeLemmas.AreOneLine.{plain, sets, charges, expects}

-- ---- lists

told_with-append : (lines more others rest : List Line) → AreToldWith lines more → AreToldWith others rest → AreToldWith (lines ++ others) (more ++ rest)
told_with-append [] [] others rest are later = later
told_with-append [] (line ∷ more) others rest are later = absurd are
told_with-append (line ∷ lines) [] others rest are later = absurd are
told_with-append (line ∷ lines) (own ∷ more) others rest are later = (are.0, told_with-append lines more others rest are.1 later)

-- lines that are these
told_with-as : (lines more own its : List Line) → lines ≡ own → more ≡ its → AreToldWith own its → AreToldWith lines more
told_with-as lines more own its first second are =
    subst (λ (all : List Line). AreToldWith all more) (sym first) (subst (λ (all : List Line). AreToldWith own all) (sym second) are)

-- a line that may be there, and is there in both or in neither
abbrev IsFoundWith : Option Line → Option Line → Type 0
IsFoundWith None None = Unit {0}
IsFoundWith (Some line) (Some other) = IsToldWith line other
IsFoundWith one other = ⊥

found_with : (one other : Option Line) (lines more : List Line) → IsFoundWith one other → AreToldWith lines more →
    AreToldWith (cons_option one lines) (cons_option other more)
found_with None None lines more is are = are
found_with None (Some other) lines more is are = absurd is
found_with (Some line) None lines more is are = absurd is
found_with (Some line) (Some other) lines more is are = (is, are)

filtered_with : {A : Type 0} (one other : A → Option Line) (items : List A) → ((item : A) → IsFoundWith (one item) (other item)) →
    AreToldWith (filter_map one items) (filter_map other items)
filtered_with one other [] each = tt
filtered_with one other (item ∷ items) each =
    found_with (one item) (other item) (filter_map one items) (filter_map other items) (each item) (filtered_with one other items each)

-- ---- nodes that are looked at

module _ (c : CircuitData) (s t : List Tern) where
  ends_with : (node : ℕ) (item : ℕ × Option Switch) → IsFoundWith (end_line c s node item) (end_line c t node item)
  ends_with node (number, None) = tt
  ends_with node (number, Some switch) = by (other_end node switch)
    where
      by : (found : Option ℕ) → IsFoundWith (option_map (at_end c s number switch) found) (option_map (at_end c t number switch) found)
      by None = tt
      by (Some other) = ((refl, refl, refl), refl, refl)

  gates_with : (node : ℕ) (item : ℕ × Option Switch) → IsFoundWith (gate_line c s node item) (gate_line c t node item)
  gates_with node (number, None) = tt
  gates_with node (number, Some switch) = by (switch.gate == node)
    where
      by : (test : Bool) → IsFoundWith (if test then Some (at_gate c s number switch) else None) (if test then Some (at_gate c t number switch) else None)
      by true = ((refl, refl, refl), refl, refl)
      by false = tt

  -- the lines of a name can be told together
  pub looked_with : (name : List ℕ) → AreToldWith (looked_lines c s name) (looked_lines c t name)
  looked_with name =
      let node = node_named c name in (
        (refl, refl),
        told_with-append (end_lines c s node) (end_lines c t node) (gate_lines c s node) (gate_lines c t node)
            (filtered_with (end_line c s node) (end_line c t node) (numbered c) (ends_with node))
            (filtered_with (gate_line c s node) (gate_line c t node) (numbered c) (gates_with node)),
      )

  pub all_looked_with : (names : List (List ℕ)) → AreToldWith (flat_map (looked_lines c s) names) (flat_map (looked_lines c t) names)
  all_looked_with [] = tt
  all_looked_with (name ∷ names) =
      told_with-append (looked_lines c s name) (looked_lines c t name) (flat_map (looked_lines c s) names) (flat_map (looked_lines c t) names)
      (looked_with name) (all_looked_with names)

-- ---- by the data

module _ (one two : SessionData) (alike : AlikeButStates one two) where
  -- the waveform lines of two columns
  pub wave_with : (k l : ℕ) (mark sign : Bool) → IsToldWith (wave_by one k mark) (wave_by two l sign)
  wave_with k l mark sign = (
    alike.count,
    length-map two.watched (state_at two.state) ∙ ap (λ (nodes : List ℕ). length nodes) alike.watched ∙ sym (length-map one.watched (state_at one.state)),
  )

  -- what is shown of a name
  pub shown_with : (name : List ℕ) → IsToldWith (shown_line one name) (shown_line two name)
  shown_with name = (
    refl,
    length-map (nodes_named two.circuit two.vectors name) (state_at two.state)
        ∙ ap₂ (λ (c : CircuitData) (vectors : List (List ℕ × List ℕ)). length (nodes_named c vectors name)) alike.circuit alike.vectors
        ∙ sym (length-map (nodes_named one.circuit one.vectors name) (state_at one.state)),
  )

  pub all_shown_with : (names : List (List ℕ)) → AreToldWith (map (shown_line one) names) (map (shown_line two) names)
  all_shown_with [] = tt
  all_shown_with (name ∷ names) = (shown_with name, all_shown_with names)

  -- what a look tells
  pub looks_with : (names : List (List ℕ)) →
      AreToldWith (flat_map (looked_lines one.circuit one.state) names) (flat_map (looked_lines two.circuit two.state) names)
  looks_with names =
      subst (λ (c : CircuitData). AreToldWith (flat_map (looked_lines one.circuit one.state) names) (flat_map (looked_lines c two.state) names)) (sym alike.circuit)
      (all_looked_with one.circuit one.state two.state names)

-- ---- by the command

pub beats_with : (places : List ℕ) (one two new later : SessionData) (lines more : List Line) → AreBeats one places new lines → AreBeats two places later more →
    AlikeButStates one two → AreToldWith lines more
beats_with [] one two new later lines more (same, none) (also, nothing) alike = told_with-as lines more [] [] none nothing tt
beats_with (place ∷ places) one two new later lines more (mid, front, back, phase, beats, whole) (behind, first, rest, settled, others, parts) alike =
    let mids = alike-beat one two mid behind place phase.next settled.next phase.moved settled.moved alike in
    let here : AreToldWith front first = told_with-as front first (wave_by mid phase.steps phase.joined ∷ []) (wave_by behind settled.steps settled.joined ∷ [])
    phase.wrote settled.wrote (wave_with mid behind mids phase.steps settled.steps phase.joined settled.joined, tt) in
    told_with-as lines more (front ++ back) (first ++ rest) whole parts
    (told_with-append front first back rest here (beats_with places mid behind new later back rest beats others mids))

run_with : (run : Run) → IsToldTogether (family.Run run) → (one two new later : SessionData) (lines more : List Line) → RunEffect one run new lines →
    RunEffect two run later more → AlikeButStates one two → AlikeButStates new later → AreToldWith lines more
run_with Step together one two new later lines more first second alike news =
    told_with-as lines more (wave_by new 1 false ∷ []) (wave_by later 1 false ∷ []) first.wrote second.wrote (wave_with new later news 1 1 false false, tt)
run_with Phase together one two new later lines more first second alike news =
    told_with-as lines more (wave_by new first.steps first.joined ∷ []) (wave_by later second.steps second.joined ∷ []) first.wrote second.wrote
    (wave_with new later news first.steps second.steps first.joined second.joined, tt)
run_with (Cycle times) together one two new later lines more first second alike news =
    beats_with (places_in (places_of one.clocks) times) one two new later lines more first (places_alike one two later times more alike second) alike
run_with Report together one two new later lines more first second alike news = absurd together

tell_with : (own : Tell) → IsToldTogether (family.Tell own) → (one two : SessionData) → AlikeButStates one two → AreToldWith (told_by one own) (told_by two own)
tell_with (Expect list) together one two alike = absurd together
tell_with (Show names) together one two alike = all_shown_with one two alike names
tell_with (Look names) together one two alike = looks_with one two alike names

plain_with : (command : Command) → IsToldTogether command → (one two new later : SessionData) (lines more : List Line) → Effect one command new lines →
    Effect two command later more → AlikeButStates one two → AlikeButStates new later → AreToldWith lines more
plain_with (family.Edit edit) together one two new later lines more first second alike news = told_with-as lines more [] [] first.1 second.1 tt
plain_with (family.Give own) together one two new later lines more first second alike news = told_with-as lines more [] [] first.1 second.1 tt
plain_with (family.Setup setup) together one two new later lines more first second alike news = told_with-as lines more [] [] first.1 second.1 tt
plain_with (family.Run run) together one two new later lines more first second alike news =
    run_with run together one two new later lines more first second alike news
plain_with (family.Tell own) together one two new later lines more first second alike news =
    told_with-as lines more (told_by one own) (told_by two own) first.1 second.1 (tell_with own together one two alike)

effect_with : (command other : Command) → AreOneLine command other → IsToldTogether command → (one two new later : SessionData) (lines more : List Line) →
    Effect one command new lines → Effect two other later more → AlikeButStates one two → AlikeButStates new later → AreToldWith lines more
effect_with command other (plain _ own) together one two new later lines more first second alike news =
    plain_with command together one two new later lines more first second alike news
effect_with command other (sets _ _) together one two new later lines more first second alike news = told_with-as lines more [] [] first.1 second.1 tt
effect_with command other (charges _ _) together one two new later lines more first second alike news = told_with-as lines more [] [] first.1 second.1 tt
effect_with command other (expects _ _) together one two new later lines more first second alike news = absurd together

-- so what two commands of one line write can be told together
pub performed_with : (command other : Command) → AreOneLine command other → IsToldTogether command → (one two new later : SessionData) (lines more : List Line)
    (texts others : List GroupTextData) → Performs one command new lines texts → Performs two other later more others → AlikeButStates one two →
    AreToldWith lines more
performed_with command other same together one two new later lines more texts others first second alike =
    effect_with command other same together first.mid second.mid new later lines more first.does.effect second.does.effect
    (mids-alike command other same one two new later lines more texts others first second alike).0
    (alike-performed command other same one two new later lines more texts others first second alike).0
