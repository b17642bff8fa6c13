-- What a netlist gives is a circuit with visible names: the rails alone are one, and each line leaves one. A line's settings are of nodes
-- that are no rails, its strengths and sizes are accepted by the profile, and its names are words.
use Rattle.std.proofs.Common.{◌≡◌, ℕ, ◌≤◌, All, Bool, true, false, cond, ◌==◌, length, List, [], ◌∷◌, codes, bytes_eq, nat_lt, Option, Some, None, Result, Ok, Err, IfOk, IfSome, is_some, unwrap_or, refl, sym, subst, arith}
use Rattle.std.specs.Prelude.{if◌then◌else◌}
use Rattle.std.specs.List.{flat_map}
use Rattle.std.specs.Option.{option_and_then, option_map_or}
use Rattle.std.proofs.lemmas.Bool.Decides.{nat_tests}
use Rattle.std.proofs.lemmas.List.Elements.{All-nil, All-head, All-tail, All-take}
use Rattle.strength_order.specs.declared.TheConstants.{INPUT_LEVEL}
use Rattle.strength_order.specs.declared.Profile.{Profile}
use Rattle.strength_order.specs.declared.Profile.TheVariants.{One, Two}
use Rattle.strength_order.specs.Levels.{level_of_size}
use Rattle.switch_paths.specs.declared.switching.SwitchKind.{SwitchKind}
use Rattle.switch_paths.specs.Graphs.{nodes}
use Rattle.line_words.specs.declared.line_check.LineFault.{LineFault}
use Rattle.line_words.specs.declared.line_check.LineFault.TheVariants as of_line
use Rattle.line_words.specs.Decimals.{decimal_of}
use Rattle.line_words.specs.Files.{lines_in, cut_line, is_cut}
use Rattle.line_words.specs.LineFaults.{line_fault, is_comment}
use Rattle.line_words.specs.Words.{words_of}
use Rattle.switch_paths.specs.declared.TheConstants.{RAILS}
use Rattle.netlist.specs.Faults.{MakingFault}
use Rattle.netlist.specs.Names.{node_of}
use Rattle.netlist.specs.Circuits.{CircuitData, HasVisibleNames, IsCircuit, rails_alone}
use Rattle.netlist.specs.Edits.{add_fault, alias_fault, is_size, node_fault, node_named, usual_strength, with_alias, with_new_node, with_node, with_transistor}
use Rattle.netlist.proofs.NameLemmas.{node_of-added}
use Rattle.netlist.proofs.KeptLemmas.{IsLevel-input, IsLevel-size, IsCircuit-rails_alone, IsCircuit-with_alias, IsCircuit-with_level, IsCircuit-with_node, IsCircuit-with_transistor}
use Rattle.sim_read.specs.Drafts.{DraftData, circuit_of, rails_draft, sized, sized_in}
use Rattle.sim_read.specs.declared.fault.NetRefusal.{NetRefusal}
use Rattle.sim_read.specs.declared.fault.NetWhat.{NetWhat}
use Rattle.sim_read.specs.declared.header.TheConstants.{HEADER_LINE, MOST_THRESHOLDS}
use Rattle.sim_read.specs.declared.fault.NetWhat.TheVariants.{Format, TooLong}
use Rattle.sim_read.specs.declared.records.Record.{Record}
use Rattle.sim_read.specs.declared.records.Record.TheVariants.{Transistor, Alias, Attributes, Capacitance, Passed}
use Rattle.sim_read.specs.declared.items.Setting.{Setting}
use Rattle.sim_read.specs.declared.items.Setting.TheVariants.{Unset, Input, Size}
use Rattle.sim_read.specs.Header.{comment_words, is_header, is_second, thresholds_of}
use Rattle.sim_read.specs.Items.{IsAccepted, after_prefix, items_of, setting_after, setting_after_item, setting_by, setting_of, size_setting, strength_of}
use Rattle.sim_read.specs.Meaning.{alias_meaning, attributes_meaning, checked_meaning, comment_meaning, drafted, edited, header_meaning, is_rail, known_meaning, line_meaning, lines_meaning, netlist_of, record_meaning, second_meaning, transistor_meaning, with_setting, words_meaning}
use Rattle.sim_read.specs.Records.{record_of}
use Rattle.line_words.specs.Visible.{IsVisibleName}
use Rattle.line_words.proofs.VisibleLemmas.{words_of-visible}
use Rattle.sim_read.proofs.SizingLemmas.{IsCircuit-sized_in, thresholds_of-few}
use Rattle.sim_read.proofs.VisibleLemmas.{HasVisibleEntries, nodes-visible, with_alias-visible, with_node-visible, with_nodes-visible, with_setting-visible}

-- ---- settings

-- a size that is set is accepted
size_setting-accepted : (profile : Profile) (text : List ℕ) → IfSome (size_setting profile text) (IsAccepted profile)
size_setting-accepted profile text = read (decimal_of text) where
  fits : (size : ℕ) (accepted : Bool) → is_size profile size ≡ accepted
      → IfSome (option_and_then (λ k. Some (Size k)) (if accepted then Some size else None)) (IsAccepted profile)
  fits size true is = is
  fits size false is = tt

  read : (number : Option ℕ)
      → IfSome (option_and_then (λ k. Some (Size k)) (option_and_then (λ k. if is_size profile k then Some k else None) number)) (IsAccepted profile)
  read None = tt
  read (Some size) = fits size (is_size profile size) refl

-- what is set after an item is accepted, where what was set before is
setting_after_item-accepted : (profile : Profile) (setting : Setting) (item : List ℕ) → IsAccepted profile setting
    → IfSome (setting_after_item profile setting item) (IsAccepted profile)
setting_after_item-accepted profile setting item accepted = by (bytes_eq item (codes "input")) (after_prefix (codes "size:") item) where
  by : (input : Bool) (text : Option (List ℕ)) → IfSome (if input then Some Input else setting_by profile setting text) (IsAccepted profile)
  by true text = tt
  by false None = accepted
  by false (Some text) = size_setting-accepted profile text

-- and so is what is set after several
setting_after-accepted : (profile : Profile) (setting : Setting) (items : List (List ℕ)) → IsAccepted profile setting
    → IfSome (setting_after profile setting items) (IsAccepted profile)
setting_after-accepted profile setting [] accepted = accepted
setting_after-accepted profile setting (item ∷ items) accepted =
    onward (setting_after_item profile setting item) (setting_after_item-accepted profile setting item accepted)
    (λ next is. setting_after-accepted profile next items is) where
      onward : (set : Option Setting) → IfSome set (IsAccepted profile)
          → ((next : Setting) → IsAccepted profile next → IfSome (setting_after profile next items) (IsAccepted profile))
          → IfSome (option_and_then (λ next. setting_after profile next items) set) (IsAccepted profile)
      onward None is more = tt
      onward (Some next) is more = more next is

-- ---- lines

-- a circuit in which each name in use is a visible name
record IsNamed (c : CircuitData) : Type 0 where
  circuit : IsCircuit c
  visible : HasVisibleEntries c

-- such a circuit, or a refusal
abbrev Gives : {E : Type 0} → Result CircuitData E → Type 0
Gives meaning = IfOk meaning IsNamed

-- an edit that isn't refused
edited-named : (fault : Option MakingFault) (made : CircuitData) → (fault ≡ None → IsNamed made) → Gives (edited fault made)
edited-named None made makes = makes refl
edited-named (Some fault) made makes = tt

-- a transistor
transistor-named : (c : CircuitData) (kind : SwitchKind) (gate source drain : List ℕ) (strength : Option ℕ) → IsNamed c
    → All IsVisibleName (gate ∷ source ∷ drain ∷ []) → Gives (transistor_meaning c kind gate source drain strength)
transistor-named c kind gate source drain None is visible = tt
transistor-named c kind gate source drain (Some strength) is visible =
    edited-named (add_fault c strength gate source drain) (with_transistor c kind strength gate source drain)
    (λ none. record {
      circuit = IsCircuit-with_transistor c kind strength gate source drain is.circuit none;
      visible = with_nodes-visible (gate ∷ source ∷ drain ∷ []) c is.visible visible;
    })

-- an alias
alias-named : (c : CircuitData) (first second : List ℕ) → IsNamed c → IsVisibleName first → IsVisibleName second → Gives (alias_meaning c first second)
alias-named c first second is visible_first visible_second =
    edited-named (alias_fault c first second) (with_alias c first second)
    (λ _. record {
      circuit = IsCircuit-with_alias c first second is.circuit;
      visible = with_alias-visible c first second is.visible visible_first visible_second;
    })

-- the node of a name that is in use, or comes so, is no rail, if the name is no rail's
node_named-no_rail : (c : CircuitData) (name : List ℕ) → IsCircuit c → is_rail c name ≡ false → RAILS ≤ node_named (with_node c name) name
node_named-no_rail c name is other = by (node_of c.names name) refl other where
  by : (found : Option ℕ) → node_of c.names name ≡ found → option_map_or (λ node. nat_lt node RAILS) found false ≡ false
      → RAILS ≤ node_named (if is_some found then c else with_new_node c name) name
  by (Some node) used no_rail =
      let past : RAILS ≤ node = grind (arith, nat_tests) in
      subst (λ place. RAILS ≤ unwrap_or place 0) (sym used) past
  by None unused no_rail =
      subst (λ place. RAILS ≤ unwrap_or place 0) (sym (node_of-added c.names name (nodes c.graph) unused)) is.railed

-- what is set at a node that is no rail
setting-circuit : (c : CircuitData) (profile : Profile) (node : ℕ) (setting : Setting) → IsCircuit c → RAILS ≤ node → IsAccepted profile setting
    → IsCircuit (with_setting c node setting)
setting-circuit c profile node Unset is no_rail accepted = is
setting-circuit c profile node Input is no_rail accepted = IsCircuit-with_level c node INPUT_LEVEL no_rail IsLevel-input is
setting-circuit c profile node (Size size) is no_rail accepted =
    IsCircuit-with_level c node (level_of_size size) no_rail (IsLevel-size profile size accepted) is

-- attributes, of a name that isn't a rail's
attributes-named : (c : CircuitData) (name : List ℕ) (setting : Option Setting) → IsNamed c → IsVisibleName name → is_rail c name ≡ false
    → IfSome setting (IsAccepted c.profile) → Gives (attributes_meaning c name setting)
attributes-named c name None is visible other accepted = tt
attributes-named c name (Some setting) is visible other accepted =
    let named = with_node c name in
    let node = node_named named name in
    edited-named (node_fault c name) (with_setting named node setting)
    (λ _. record {
      circuit = setting-circuit named c.profile node setting (IsCircuit-with_node c name is.circuit) (node_named-no_rail c name is.circuit other) accepted;
      visible = with_setting-visible named node setting (with_node-visible c name is.visible visible);
    })

-- a record
record-named : (c : CircuitData) (begun : Record) (words : List (List ℕ)) → IsNamed c → All IsVisibleName words → Gives (record_meaning c begun words)
record-named c (Transistor kind) (gate ∷ source ∷ drain ∷ words) is visible =
    transistor-named c kind gate source drain (strength_of c.profile (usual_strength kind) words) is
    (All-take IsVisibleName 3 (gate ∷ source ∷ drain ∷ words) visible)
record-named c (Transistor kind) (gate ∷ source ∷ []) is visible = tt
record-named c (Transistor kind) (gate ∷ []) is visible = tt
record-named c (Transistor kind) [] is visible = tt
record-named c Alias (first ∷ second ∷ words) is visible =
    alias-named c first second is (All-head IsVisibleName first (second ∷ words) visible)
    (All-head IsVisibleName second words (All-tail IsVisibleName first (second ∷ words) visible))
record-named c Alias (first ∷ []) is visible = tt
record-named c Alias [] is visible = tt
record-named c Attributes (name ∷ words) is visible = of_rail (is_rail c name) refl where
  of_rail : (rail : Bool) → is_rail c name ≡ rail → Gives (cond rail (Ok c) (attributes_meaning c name (setting_of c.profile words)))
  of_rail true spelled = is
  of_rail false other =
      attributes-named c name (setting_of c.profile words) is (All-head IsVisibleName name words visible) other
      (setting_after-accepted c.profile Unset (flat_map items_of words) tt)
record-named c Attributes [] is visible = tt
record-named c Capacitance words is visible = is
record-named c Passed words is visible = is

-- ---- drafts

-- a draft of such a circuit, with few thresholds
record IsDraft (d : DraftData) : Type 0 where
  named : IsNamed d.circuit
  few : length d.thresholds ≤ MOST_THRESHOLDS

-- such a draft, or a refusal
abbrev Drafts : {E : Type 0} → Result DraftData E → Type 0
Drafts meaning = IfOk meaning IsDraft

-- the rails alone
rails-named : (profile : Profile) → IsNamed (rails_alone profile)
rails-named profile = record {
  circuit = IsCircuit-rails_alone profile;
  visible = All-nil (λ (e : List ℕ × ℕ). IsVisibleName e.0);
}

-- a draft with the circuit that an entry gives
drafted-named : (d : DraftData) (begun : Record) (words : List (List ℕ)) (meaning : Result CircuitData NetWhat) → IsDraft d → Gives meaning
    → Drafts (drafted d begun words meaning)
drafted-named d (Transistor kind) words (Ok circuit) is named = record { named = named; few = is.few }
drafted-named d Alias words (Ok circuit) is named = record { named = named; few = is.few }
drafted-named d Attributes words (Ok circuit) is named = record { named = named; few = is.few }
drafted-named d Capacitance words (Ok circuit) is named = record { named = named; few = is.few }
drafted-named d Passed words (Ok circuit) is named = record { named = named; few = is.few }
drafted-named d begun words (Err what) is named = tt

-- the words of a line
words-named : (d : DraftData) (words : List (List ℕ)) → IsDraft d → All IsVisibleName words → Drafts (words_meaning d words)
words-named d [] is visible = is
words-named d (word ∷ words) is visible = of_record (record_of word) where
  of_record : (begun : Option Record) → Drafts (known_meaning d begun words)
  of_record None = tt
  of_record (Some begun) =
      drafted-named d begun words (record_meaning d.circuit begun words) is
      (record-named d.circuit begun words is.named (All-tail IsVisibleName word words visible))

-- the words of a header
header-named : (d : DraftData) (words : List (List ℕ)) → IsDraft d → Drafts (header_meaning d words)
header-named d words is = by (is_second words) where
  by_thresholds : (found : Option (List ℕ)) → IfSome found (λ thresholds. length thresholds ≤ MOST_THRESHOLDS) → Drafts (second_meaning d found)
  by_thresholds None few = tt
  by_thresholds (Some thresholds) few = record { named = rails-named Two; few = few }

  by : (second : Bool) → Drafts (cond second (second_meaning d (thresholds_of words)) (Ok d))
  by true = by_thresholds (thresholds_of words) (thresholds_of-few words)
  by false = is

-- a comment
comment-named : (d : DraftData) (line : ℕ × List ℕ) → IsDraft d → Drafts (comment_meaning d line)
comment-named d line is = by_line (line.0 == HEADER_LINE) where
  by_format : (known : Bool) → Drafts (cond known (header_meaning d (comment_words line.1)) (Err Format))
  by_format true = header-named d (comment_words line.1) is
  by_format false = tt

  by_line : (first : Bool) → Drafts (cond first (cond (is_header line.1) (header_meaning d (comment_words line.1)) (Err Format)) (Ok d))
  by_line true = by_format (is_header line.1)
  by_line false = is

-- a line, by its fault as a line of any text
checked-named : (d : DraftData) (line : ℕ × List ℕ) (fault : Option LineFault) → line_fault line.1 ≡ fault → IsDraft d
    → Drafts (checked_meaning d line fault)
checked-named d line (Some of_line.TooLong) same is = tt
checked-named d line (Some of_line.BadByte) same is = tt
checked-named d line None same is = of_comment (is_comment line.1) refl where
  of_comment : (comment : Bool) → is_comment line.1 ≡ comment → Drafts (cond comment (comment_meaning d line) (words_meaning d (words_of line.1)))
  of_comment true begins = comment-named d line is
  of_comment false other = words-named d (words_of line.1) is (words_of-visible line.1 same other)

-- a line of a text, which may hold the first byte too many
line-named : (cut : Option ℕ) (d : DraftData) (line : ℕ × List ℕ) → IsDraft d → Drafts (line_meaning cut d line)
line-named cut d line is = of_cut (is_cut cut line.0) where
  of_cut : (last : Bool) → Drafts (cond last (Err TooLong) (checked_meaning d line (line_fault line.1)))
  of_cut true = tt
  of_cut false = checked-named d line (line_fault line.1) refl is

-- lines
lines-named : (cut : Option ℕ) (d : DraftData) (lines : List (ℕ × List ℕ)) → IsDraft d → Drafts (lines_meaning cut d lines)
lines-named cut d [] is = is
lines-named cut d (line ∷ lines) is =
    onward (line_meaning cut d line) (line-named cut d line is) (λ next made. lines-named cut next lines made) where
      onward : (meaning : Result DraftData NetWhat) → Drafts meaning
          → ((next : DraftData) → IsDraft next → Drafts (lines_meaning cut next lines))
          → Drafts (elim meaning as (λ _. Result DraftData NetRefusal) [ Err what ↦ Err (record { line = line.0; what = what }) | Ok next ↦ lines_meaning cut next lines ])
      onward (Ok next) made more = more next made
      onward (Err what) made more = tt

-- ---- texts

-- the circuit of a draft after the sizing
sized-named : (d : DraftData) → IsDraft d → IsNamed (sized d)
sized-named d is = record {
  circuit = IsCircuit-sized_in d.circuit.profile d is.few is.named.circuit;
  visible = by d.circuit.profile;
} where
  by : (profile : Profile) → HasVisibleEntries (sized_in profile d)
  by One = is.named.visible
  by Two = is.named.visible

-- the circuit of lines
circuit_of-named : (meaning : Result DraftData NetRefusal) → Drafts meaning → Gives (circuit_of meaning)
circuit_of-named (Ok draft) is = sized-named draft is
circuit_of-named (Err refusal) is = tt

-- what a text means is such a circuit, if it isn't refused
netlist_of-named : (text : List ℕ) (circuit : CircuitData) → netlist_of text ≡ Ok circuit → IsNamed circuit
netlist_of-named text circuit same =
    subst Gives same
    (circuit_of-named (lines_meaning (cut_line text) rails_draft (lines_in text))
    (lines-named (cut_line text) rails_draft (lines_in text) (record { named = rails-named One; few = omega arith })))

-- so it is a circuit
pub netlist_of-netlist : (text : List ℕ) (circuit : CircuitData) → netlist_of text ≡ Ok circuit → IsCircuit circuit
netlist_of-netlist text circuit same = (netlist_of-named text circuit same).circuit

-- and its nodes are called by visible names
pub netlist_of-visible : (text : List ℕ) (circuit : CircuitData) → netlist_of text ≡ Ok circuit → HasVisibleNames circuit
netlist_of-visible text circuit same =
    let is = netlist_of-named text circuit same in
    nodes-visible circuit is.circuit is.visible
