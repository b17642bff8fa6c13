-- The lines of all columns together: those that are told by the letters that nodes have in all columns are those that the columns write.
use Rattle.std.proofs.Common.{◌≡◌, ℕ, zero, suc, ◌<◌, Bool, true, false, List, [], ◌∷◌, ◌++◌, length, get_or, map, Option, Some, None, refl, sym, ap, ◌∙◌, arith}
use Rattle.std.specs.Prelude.{◌==◌, filter_map, flat_map, option_map, if◌then◌else◌}
use Rattle.std.specs.List.{cons_option}
use Rattle.std.proofs.lemmas.List.{length-map}
use Rattle.std.proofs.lemmas.Nat.{pow_pos}
use Rattle.ternary.specs.declared.tern.Tern.{Tern}
use Rattle.ternary.specs.declared.tern.Tern.TheVariants.{Zero, One, Unk}
use Rattle.switch_paths.specs.Switching.{state_at, state_by}
use Rattle.switch_paths.specs.declared.switching.Switch.{Switch}
use Rattle.switch_paths.specs.declared.switching.SwitchKind.{SwitchKind}
use Rattle.switch_paths.specs.declared.switching.SwitchKind.TheVariants.{NChan, PChan, Always}
use Rattle.switch_paths.specs.declared.switching.SwitchState.TheVariants.{Closed}
use Rattle.settling.specs.declared.settling.Settled.{Settled}
use Rattle.netlist.specs.Circuits.{CircuitData, called}
use Rattle.netlist.specs.Edits.{node_named}
use Rattle.told_lines.specs.Lines as of_one
use Rattle.told_lines.specs.Lines.{Line}
use Rattle.node_looks.specs.Looks as plain
use Rattle.node_looks.specs.Looks.{numbered, other_end, sort_of, switch_told as switch_told_of_one}
use Rattle.session_meaning.specs.Sessions.{HeldSession, SessionData}
use Rattle.session_meaning.specs.Refusals.{nodes_named}
use Rattle.session_meaning.specs.Columns.{column_of}
use Rattle.session_meaning.specs.Effects.{shown_line, wave_by}
use Rattle.session_meaning.specs.Truths.{SettledTogether}
use Rattle.symbol_meaning.specs.Told.{SymbolTold, Wave, Shown}
use Rattle.symbol_meaning.specs.Merging.{AreMerged, AreOfAll, IsOfAll, IsSwitchOfAll}
use Rattle.symbol_meaning.specs.Merging.AreMerged.{no_line, one_more}
use Rattle.symbol_meaning.specs.Merging.IsMerged.{waves, shown, looked, at_end, at_gate}
use Rattle.symbol_stage.specs.Stages.{StageData, columns_on, states_in}
use Rattle.symbol_looking.specs.declared.lines.Terminal.TheVariants as terminal
use Rattle.symbol_looking.specs.Letters.{letter_in_all}
use Rattle.symbol_looking.specs.Waves.{AreCounted, wave_of}
use Rattle.symbol_looking.specs.Names as all
use Rattle.symbol_looking.proofs.LetterLemmas.{is_of_all}

-- ---- counts

-- what a phase tells of all columns is told of their counts
pub counted_together : (columns : ℕ) (old new : ℕ → SessionData) (told : Settled) (settled : SettledTogether columns old new told) →
    AreCounted columns settled.count told
counted_together columns old new told settled = record { few = settled.few; joined = settled.joined; greatest = settled.greatest }

-- and so is what is the same in each, as a unit step
pub counted_alike : (columns : ℕ) → 0 < columns → (told : Settled) → AreCounted columns (λ column. told) told
counted_alike columns some told = record {
  few = λ column inside. omega arith;
  joined = λ column inside is. is;
  greatest = (0, some, refl);
}

-- ---- lines one after the other

-- lines that are the same in each column are told as they are
pub merged_alike : (columns : ℕ) (lines others : ℕ → List Line) (told : List SymbolTold) → ((column : ℕ) → column < columns → lines column ≡ others column) →
    AreMerged columns others told → AreMerged columns lines told
merged_alike columns lines others told same (no_line own none) = no_line lines (λ column inside. same column inside ∙ none column inside)
merged_alike columns lines others told same (one_more own_lines rest own first more is here later) =
    one_more lines rest own first more (λ column inside. same column inside ∙ is column inside) here later

-- some lines of each column, and then others
pub merged_then : (columns : ℕ) (front rest : ℕ → List Line) (told more : List SymbolTold) → AreMerged columns front told → AreMerged columns rest more →
    AreMerged columns (λ column. front column ++ rest column) (told ++ more)
merged_then columns front rest told more (no_line own none) later =
    merged_alike columns (λ column. front column ++ rest column) rest more (λ column inside. ap (λ (lines : List Line). lines ++ rest column) (none column inside))
    later
merged_then columns front rest told more (one_more own_lines others own first behind is here after) later =
    one_more (λ column. front column ++ rest column) (λ column. others column ++ rest column) own first (behind ++ more)
    (λ column inside. ap (λ (lines : List Line). lines ++ rest column) (is column inside)) here (merged_then columns others rest behind more after later)

-- ---- switches

-- a switch of kind n or p has the same state as another one only if their gates have
n_one : (a b : Tern) → state_by NChan a ≡ state_by NChan b → a ≡ b
n_one Zero Zero same = refl
n_one Zero One same = absurd (cc)
n_one Zero Unk same = absurd (cc)
n_one One Zero same = absurd (cc)
n_one One One same = refl
n_one One Unk same = absurd (cc)
n_one Unk Zero same = absurd (cc)
n_one Unk One same = absurd (cc)
n_one Unk Unk same = refl

p_one : (a b : Tern) → state_by PChan a ≡ state_by PChan b → a ≡ b
p_one Zero Zero same = refl
p_one Zero One same = absurd (cc)
p_one Zero Unk same = absurd (cc)
p_one One Zero same = absurd (cc)
p_one One One same = refl
p_one One Unk same = absurd (cc)
p_one Unk Zero same = absurd (cc)
p_one Unk One same = absurd (cc)
p_one Unk Unk same = refl

always_closed : (gate : Tern) → state_by Always gate ≡ Closed
always_closed Zero = refl
always_closed One = refl
always_closed Unk = refl

-- what a switch does in all columns goes by the letter of its gate
switch_of_all : (columns : ℕ) (gates : ℕ → Tern) (letter : Option Tern) (kind : SwitchKind) → IsOfAll columns gates letter →
    IsOfAll columns (λ column. state_by kind (gates column)) (all.switch_of_letter letter kind)
switch_of_all columns gates (Some state) kind is = λ column inside. ap (state_by kind) (is column inside)
switch_of_all columns gates None NChan (one, other, below, under, differ) = (one, other, below, under, λ same. differ (n_one (gates one) (gates other) same))
switch_of_all columns gates None PChan (one, other, below, under, differ) = (one, other, below, under, λ same. differ (p_one (gates one) (gates other) same))
switch_of_all columns gates None Always is = λ column inside. always_closed (gates column)

-- ---- lines

module _ (columns : ℕ) (some : 0 < columns) (states : ℕ → List Tern) where
  -- of several nodes
  pub letters_of_all : (nodes : List ℕ) → AreOfAll columns (λ column. map (state_at (states column)) nodes) (map (letter_in_all columns states) nodes)
  letters_of_all nodes = record {
    count = λ column inside. length-map nodes (state_at (states column)) ∙ sym (length-map nodes (letter_in_all columns states));
    each = λ k inside. at nodes k (omega (arith, inside, length-map nodes (letter_in_all columns states)));
  }
    where
      at : (nodes : List ℕ) (k : ℕ) → k < length nodes →
          IsOfAll columns (λ column. state_at (map (state_at (states column)) nodes) k) (get_or (map (letter_in_all columns states) nodes) k None)
      at [] k inside = absurd (omega (arith, inside))
      at (node ∷ nodes) zero inside = is_of_all columns states node some
      at (node ∷ nodes) (suc k) inside = at nodes k (omega (arith, inside))

  -- a waveform line
  pub wave_merged : (n : ℕ) (nodes : List ℕ) (count : ℕ → Settled) (told : Settled) → AreCounted columns count told →
      AreMerged columns (λ column. of_one.Wave n (count column).steps (count column).joined (map (state_at (states column)) nodes) ∷ [])
      (Wave n told.steps told.joined (map (letter_in_all columns states) nodes) ∷ [])
  wave_merged n nodes count told counted =
      let (first, inside, is) = counted.greatest in
      one_more _ (λ column. []) (λ column. of_one.Wave n (count column).steps (count column).joined (map (state_at (states column)) nodes))
      (Wave n told.steps told.joined (map (letter_in_all columns states) nodes)) [] (λ column within. refl)
      (waves n told.steps told.joined (map (letter_in_all columns states) nodes) (λ column. (count column).steps) (λ column. (count column).joined)
      (λ column. map (state_at (states column)) nodes) (λ column within. refl)
      (record { few = counted.few; reached = (first, inside, ap (λ (one : Settled). one.steps) is) }) (
        λ mark. (first, inside, ap (λ (one : Settled). one.joined) is ∙ mark),
        λ found. counted.joined found.0 found.1 found.2,
      )
      (letters_of_all nodes))
      (no_line (λ column. []) (λ column within. refl))

  -- the lines of names that are shown
  pub shown_merged : (c : CircuitData) (vectors : List (List ℕ × List ℕ)) (names : List (List ℕ)) →
      AreMerged columns (λ column. map (λ name. of_one.Shown name (map (state_at (states column)) (nodes_named c vectors name))) names)
      (map (λ name. Shown name (map (letter_in_all columns states) (nodes_named c vectors name))) names)
  shown_merged c vectors [] = no_line (λ column. []) (λ column inside. refl)
  shown_merged c vectors (name ∷ names) =
      let nodes = nodes_named c vectors name in
      one_more _ (λ column. map (λ one. of_one.Shown one (map (state_at (states column)) (nodes_named c vectors one))) names)
      (λ column. of_one.Shown name (map (state_at (states column)) nodes)) (Shown name (map (letter_in_all columns states) nodes))
      (map (λ one. Shown one (map (letter_in_all columns states) (nodes_named c vectors one))) names) (λ column inside. refl)
      (shown name (map (letter_in_all columns states) nodes) (λ column. map (state_at (states column)) nodes) (λ column inside. refl) (letters_of_all nodes))
      (shown_merged c vectors names)

  -- a transistor that is looked at
  switch_merged : (number : ℕ) (switch : Switch) →
      IsSwitchOfAll columns (λ column. switch_told_of_one (states column) number switch) (all.switch_told (letter_in_all columns states) number switch)
  switch_merged number switch = record {
    number = λ column inside. refl;
    kind = λ column inside. refl;
    strength = λ column inside. refl;
    state = switch_of_all columns (λ column. state_at (states column) switch.gate) (letter_in_all columns states switch.gate) switch.kind
        (is_of_all columns states switch.gate some);
  }

  module _ (c : CircuitData) (node : ℕ) where
    -- what stands under a number has a line in each column or in none, which goes before others
    end_merged : (lines : ℕ → List Line) (told : List SymbolTold) (entry : ℕ × Option Switch) → AreMerged columns lines told →
        AreMerged columns (λ column. cons_option (plain.end_line c (states column) node entry) (lines column))
        (cons_option (all.told_at terminal.End c (letter_in_all columns states) node entry) told)
    end_merged lines told (number, None) rest = rest
    end_merged lines told (number, Some switch) rest = by (other_end node switch)
      where
        by : (found : Option ℕ) → AreMerged columns (λ column. cons_option (option_map (plain.at_end c (states column) number switch) found) (lines column))
            (cons_option (option_map (all.end_told c (letter_in_all columns states) number switch) found) told)
        by None = rest
        by (Some other) =
            one_more _ lines (λ column. plain.at_end c (states column) number switch other)
            (all.end_told c (letter_in_all columns states) number switch other) told (λ column inside. refl)
            (at_end (all.switch_told (letter_in_all columns states) number switch) (called c switch.gate) (called c other)
            (letter_in_all columns states switch.gate) (letter_in_all columns states other)
            (λ column. switch_told_of_one (states column) number switch) (λ column. state_at (states column) switch.gate)
            (λ column. state_at (states column) other) (λ column inside. refl) (switch_merged number switch)
            (is_of_all columns states switch.gate some) (is_of_all columns states other some)) rest

    gate_merged : (lines : ℕ → List Line) (told : List SymbolTold) (entry : ℕ × Option Switch) → AreMerged columns lines told →
        AreMerged columns (λ column. cons_option (plain.gate_line c (states column) node entry) (lines column))
        (cons_option (all.told_at terminal.Gate c (letter_in_all columns states) node entry) told)
    gate_merged lines told (number, None) rest = rest
    gate_merged lines told (number, Some switch) rest = by (switch.gate == node)
      where
        by : (met : Bool) → AreMerged columns
            (λ column. cons_option (if met then Some (plain.at_gate c (states column) number switch) else None) (lines column))
            (cons_option (if met then Some (all.gate_told c (letter_in_all columns states) number switch) else None) told)
        by false = rest
        by true =
            one_more _ lines (λ column. plain.at_gate c (states column) number switch) (all.gate_told c (letter_in_all columns states) number switch) told
            (λ column inside. refl)
            (at_gate (all.switch_told (letter_in_all columns states) number switch) (called c switch.a) (called c switch.b)
            (letter_in_all columns states switch.a) (letter_in_all columns states switch.b)
            (λ column. switch_told_of_one (states column) number switch) (λ column. state_at (states column) switch.a)
            (λ column. state_at (states column) switch.b) (λ column inside. refl) (switch_merged number switch)
            (is_of_all columns states switch.a some) (is_of_all columns states switch.b some)) rest

    -- the lines of the transistors with an end at the node, and of those that it is the gate of
    ends_merged : (entries : List (ℕ × Option Switch)) → AreMerged columns (λ column. filter_map (plain.end_line c (states column) node) entries)
        (filter_map (all.told_at terminal.End c (letter_in_all columns states) node) entries)
    ends_merged [] = no_line (λ column. []) (λ column inside. refl)
    ends_merged (entry ∷ entries) =
        end_merged (λ column. filter_map (plain.end_line c (states column) node) entries)
        (filter_map (all.told_at terminal.End c (letter_in_all columns states) node) entries) entry (ends_merged entries)

    gates_merged : (entries : List (ℕ × Option Switch)) → AreMerged columns (λ column. filter_map (plain.gate_line c (states column) node) entries)
        (filter_map (all.told_at terminal.Gate c (letter_in_all columns states) node) entries)
    gates_merged [] = no_line (λ column. []) (λ column inside. refl)
    gates_merged (entry ∷ entries) =
        gate_merged (λ column. filter_map (plain.gate_line c (states column) node) entries)
        (filter_map (all.told_at terminal.Gate c (letter_in_all columns states) node) entries) entry (gates_merged entries)

    -- the lines of the node
    node_merged : AreMerged columns (λ column. plain.node_lines c (states column) node) (all.looked_at c (letter_in_all columns states) node)
    node_merged =
        one_more _ (λ column. plain.end_lines c (states column) node ++ plain.gate_lines c (states column) node) (λ column. plain.node_line c (states column) node)
        (all.node_told c (letter_in_all columns states) node)
        (all.all_told_at terminal.End c (letter_in_all columns states) node ++ all.all_told_at terminal.Gate c (letter_in_all columns states) node)
        (λ column inside. refl)
        (looked (called c node) (letter_in_all columns states node) (sort_of c node) (λ column. state_at (states column) node) (λ column inside. refl)
        (is_of_all columns states node some))
        (merged_then columns (λ column. plain.end_lines c (states column) node) (λ column. plain.gate_lines c (states column) node)
        (all.all_told_at terminal.End c (letter_in_all columns states) node) (all.all_told_at terminal.Gate c (letter_in_all columns states) node)
        (ends_merged (numbered c)) (gates_merged (numbered c)))

  -- the lines of names that are looked at
  pub looked_merged : (c : CircuitData) (names : List (List ℕ)) →
      AreMerged columns (λ column. flat_map (plain.looked_lines c (states column)) names) (flat_map (all.looked_told c (letter_in_all columns states)) names)
  looked_merged c [] = no_line (λ column. []) (λ column inside. refl)
  looked_merged c (name ∷ names) =
      merged_then columns (λ column. plain.looked_lines c (states column) name) (λ column. flat_map (plain.looked_lines c (states column)) names)
      (all.looked_told c (letter_in_all columns states) name) (flat_map (all.looked_told c (letter_in_all columns states)) names)
      (node_merged c (node_named c name)) (looked_merged c names)

-- ---- of a session

-- a stage has a column
pub some_columns : (stage : StageData) → 0 < columns_on stage
some_columns stage = pow_pos stage.machine.maker.graph.variables

module _ (session : HeldSession StageData) where
  pub session_wave : (count : ℕ → Settled) (told : Settled) → AreCounted (columns_on session.stage) count told →
      AreMerged (columns_on session.stage) (λ column. wave_by (column_of states_in session column) (count column).steps (count column).joined ∷ [])
      ((wave_of session told).line ∷ [])
  session_wave = wave_merged (columns_on session.stage) (some_columns session.stage) (states_in session.stage) session.core.count session.core.watched

  pub session_shown : (names : List (List ℕ)) →
      AreMerged (columns_on session.stage) (λ column. map (shown_line (column_of states_in session column)) names) (all.all_shown session names)
  session_shown = shown_merged (columns_on session.stage) (some_columns session.stage) (states_in session.stage) session.core.circuit session.core.vectors

  pub session_looked : (names : List (List ℕ)) →
      AreMerged (columns_on session.stage) (λ column. flat_map (plain.looked_lines session.core.circuit (states_in session.stage column)) names)
      (all.all_looked session names)
  session_looked = looked_merged (columns_on session.stage) (some_columns session.stage) (states_in session.stage) session.core.circuit
