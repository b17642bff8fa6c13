-- A symbolic script has one answer: what the runs under all valuations write is told together in one way alone.
use Rattle.std.proofs.Common.{◌≡◌, ℕ, ◌<◌, ◌⊎◌, inl, inr, Bool, true, false, List, [], ◌∷◌, ◌++◌, length, get_or, Option, Some, None, refl, sym, ap, ap₂, ◌∙◌, subst, true≢false, arith}
use Rattle.std.proofs.lemmas.Nat.{pow_pos}
use Rattle.std.proofs.lemmas.List.{ext_get_or}
use Rattle.ternary.specs.declared.tern.Tern.{Tern}
use Rattle.switch_paths.specs.Switching.{state_at}
use Rattle.switch_paths.specs.declared.switching.SwitchKind.{SwitchKind}
use Rattle.switch_paths.specs.declared.switching.SwitchState.{SwitchState}
use Rattle.group_text.specs.Texts.{GroupTextData}
use Rattle.vector_values.specs.Values.{Letter}
use Rattle.node_values.specs.Givings.{is_vector}
use Rattle.printed_lines.specs.declared.looks.SwitchTold.{SwitchTold}
use Rattle.told_lines.specs.Lines as of_one
use Rattle.told_lines.specs.Lines.{Line}
use Rattle.session_meaning.specs.Sessions.{SessionData}
use Rattle.session_meaning.specs.Effects.{unmet_line}
use Rattle.script_meaning.specs.Runs.{RefusedLine, IsRefused, Outcome}
use Rattle.script_meaning.specs.FirstRefused.{IsObeyed}
use Rattle.script_meaning.proofs.FirstRefusedLemmas.{not_refused}
use Rattle.script_meaning.proofs.UniqueRuns.{obeyed_unique, runs_unique}
use Rattle.symbol_script.specs.declared.line.Assignment.{Assignment}
use Rattle.symbol_script.specs.declared.line.SymbolLine.{SymbolLine}
use Rattle.symbol_script.specs.declared.line.SymbolLine.TheVariants as asks_for
use Rattle.symbol_script.specs.declared.line.ValueVerb.TheVariants.{Set, Charge, Expect}
use Rattle.symbol_script.specs.Lines.{symbol_reading_of}
use Rattle.symbol_meaning.specs.Scripts.{read_of, stop_of, variables_of}
use Rattle.symbol_meaning.specs.Readings.{Valuations, plain_under, reading_under, valuations_of}
use Rattle.symbol_meaning.specs.Told.{SwitchOfAll, SymbolTold, Unmet}
use Rattle.symbol_meaning.specs.Merging.{AreMerged, AreOfAll, AreToldOf, IsFirstUnmet, IsGreatest, IsMarked, IsMerged, IsOfAll, IsSwitchOfAll, IsToldOf, Merges, is_formula, unmet_in, wanted_text}
use Rattle.symbol_meaning.specs.Merging.IsMerged.{waves, shown, looked, at_end, at_gate}
use Rattle.symbol_meaning.specs.Merging.AreMerged.{no_line, one_more}
use Rattle.symbol_meaning.specs.Runs.{RunsInAll, answer_told, asked_in}
use Rattle.symbol_meaning.specs.Runs.RunsInAll.{ends, obeys, refuses}
use Rattle.symbol_meaning.specs.Laws.{SymbolicAnswersAreUnique}
use Rattle.symbol_meaning.proofs.RunLemmas.{columns_run}

-- ---- what is the same in all columns

of_all_unique : {A : Type 0} → (columns : ℕ) → 0 < columns → (values others : ℕ → A) → ((c : ℕ) → c < columns → values c ≡ others c) → (own other : Option A) →
    IsOfAll columns values own → IsOfAll columns others other → own ≡ other
of_all_unique columns some values others same (Some a) (Some b) is also = ap Some (sym (is 0 some) ∙ same 0 some ∙ also 0 some)
of_all_unique columns some values others same (Some a) None is (one, other, below, under, differ) =
    absurd (differ (sym (same one below) ∙ is one below ∙ sym (is other under) ∙ same other under))
of_all_unique columns some values others same None (Some b) (one, other, below, under, differ) also =
    absurd (differ (same one below ∙ also one below ∙ sym (also other under) ∙ sym (same other under)))
of_all_unique columns some values others same None None is also = refl

all_unique : (columns : ℕ) → 0 < columns → (states others : ℕ → List Tern) → ((c : ℕ) → c < columns → states c ≡ others c) → (letters more : List (Option Tern)) →
    AreOfAll columns states letters → AreOfAll columns others more → letters ≡ more
all_unique columns some states others same letters more are also =
    let even : length letters ≡ length more = sym (are.count 0 some) ∙ ap length (same 0 some) ∙ also.count 0 some in
    ext_get_or None letters more even
    (λ k inside.
    of_all_unique columns some (λ (c : ℕ). state_at (states c) k) (λ (c : ℕ). state_at (others c) k)
    (λ c below. ap (λ (state : List Tern). state_at state k) (same c below)) (get_or letters k None) (get_or more k None)
    (are.each k inside) (also.each k (omega (arith, inside, even))))

-- a transistor that is told, of its parts
abbrev switch_with : ℕ → SwitchKind → ℕ → Option SwitchState → SwitchOfAll
switch_with number kind strength state = record { number = number; kind = kind; strength = strength; state = state }

switch_unique : (columns : ℕ) → 0 < columns → (switches others : ℕ → SwitchTold) → ((c : ℕ) → c < columns → switches c ≡ others c) → (own other : SwitchOfAll) →
    IsSwitchOfAll columns switches own → IsSwitchOfAll columns others other → own ≡ other
switch_unique columns some switches others same own other is also =
    let number_is : own.number ≡ other.number = sym (is.number 0 some) ∙ ap (λ (switch : SwitchTold). switch.number) (same 0 some) ∙ also.number 0 some in
    let kind_is : own.kind ≡ other.kind = sym (is.kind 0 some) ∙ ap (λ (switch : SwitchTold). switch.kind) (same 0 some) ∙ also.kind 0 some in
    let strength_is : own.strength ≡ other.strength = sym (is.strength 0 some) ∙ ap (λ (switch : SwitchTold). switch.strength) (same 0 some) ∙ also.strength 0 some in
    let state_is : own.state ≡ other.state =
    of_all_unique columns some (λ (c : ℕ). (switches c).state) (λ (c : ℕ). (others c).state)
    (λ c below. ap (λ (switch : SwitchTold). switch.state) (same c below)) own.state other.state is.state also.state in
    ap (λ (n : ℕ). switch_with n own.kind own.strength own.state) number_is
    ∙ ap (λ (kind : SwitchKind). switch_with other.number kind own.strength own.state) kind_is
    ∙ ap (λ (n : ℕ). switch_with other.number other.kind n own.state) strength_is
    ∙ ap (λ (state : Option SwitchState). switch_with other.number other.kind other.strength state) state_is

greatest_unique : (columns : ℕ) (numbers others : ℕ → ℕ) → ((c : ℕ) → c < columns → numbers c ≡ others c) → (k more : ℕ) →
    IsGreatest columns numbers k → IsGreatest columns others more → k ≡ more
greatest_unique columns numbers others same k more is also =
    let (c, inside, reached) = is.reached in
    let (d, below, too) = also.reached in
    omega (arith, reached, same c inside, also.few c inside, too, same d below, is.few d below)

mark_unique : (columns : ℕ) (marks others : ℕ → Bool) → ((c : ℕ) → c < columns → marks c ≡ others c) → (mark more : Bool) →
    IsMarked columns marks mark → IsMarked columns others more → mark ≡ more
mark_unique columns marks others same true true is also = refl
mark_unique columns marks others same false false is also = refl
mark_unique columns marks others same true false is also =
    let (c, inside, marked) = is.0 refl in
    absurd (true≢false (sym (also.1 (c, inside, sym (same c inside) ∙ marked))))
mark_unique columns marks others same false true is also =
    let (c, inside, marked) = also.0 refl in
    absurd (true≢false (sym (is.1 (c, inside, same c inside ∙ marked))))

-- ---- lines that each column writes

merged_unique : (columns : ℕ) → 0 < columns → (lines mores : ℕ → Line) → ((c : ℕ) → c < columns → lines c ≡ mores c) → (told more : SymbolTold) →
    IsMerged columns lines told → IsMerged columns mores more → told ≡ more
merged_unique columns some lines mores same told more (waves n k mark letters counts marks states is greatest marked of_all)
    (waves n_2 k_2 mark_2 letters_2 counts_2 marks_2 states_2 is_2 greatest_2 marked_2 of_all_2) =
    let number_is : n ≡ n_2 = cc (is 0 some, same 0 some, is_2 0 some) in
    let counts_are : (c : ℕ) → c < columns → counts c ≡ counts_2 c = λ c inside. cc (is c inside, same c inside, is_2 c inside) in
    let marks_are : (c : ℕ) → c < columns → marks c ≡ marks_2 c = λ c inside. cc (is c inside, same c inside, is_2 c inside) in
    let states_are : (c : ℕ) → c < columns → states c ≡ states_2 c = λ c inside. cc (is c inside, same c inside, is_2 c inside) in
    let count_is : k ≡ k_2 = greatest_unique columns counts counts_2 counts_are k k_2 greatest greatest_2 in
    let mark_is : mark ≡ mark_2 = mark_unique columns marks marks_2 marks_are mark mark_2 marked marked_2 in
    let letters_are : letters ≡ letters_2 = all_unique columns some states states_2 states_are letters letters_2 of_all of_all_2 in
    cc (number_is, count_is, mark_is, letters_are)
merged_unique columns some lines mores same told more (waves _ _ _ _ _ _ _ is _ _ _) (shown _ _ _ is_2 _) =
    absurd (cc (is 0 some, same 0 some, is_2 0 some))
merged_unique columns some lines mores same told more (waves _ _ _ _ _ _ _ is _ _ _) (looked _ _ _ _ is_2 _) =
    absurd (cc (is 0 some, same 0 some, is_2 0 some))
merged_unique columns some lines mores same told more (waves _ _ _ _ _ _ _ is _ _ _) (at_end _ _ _ _ _ _ _ _ is_2 _ _ _) =
    absurd (cc (is 0 some, same 0 some, is_2 0 some))
merged_unique columns some lines mores same told more (waves _ _ _ _ _ _ _ is _ _ _) (at_gate _ _ _ _ _ _ _ _ is_2 _ _ _) =
    absurd (cc (is 0 some, same 0 some, is_2 0 some))
merged_unique columns some lines mores same told more (shown _ _ _ is _) (waves _ _ _ _ _ _ _ is_2 _ _ _) =
    absurd (cc (is 0 some, same 0 some, is_2 0 some))
merged_unique columns some lines mores same told more (shown name letters states is of_all) (shown name_2 letters_2 states_2 is_2 of_all_2) =
    let name_is : name ≡ name_2 = cc (is 0 some, same 0 some, is_2 0 some) in
    let states_are : (c : ℕ) → c < columns → states c ≡ states_2 c = λ c inside. cc (is c inside, same c inside, is_2 c inside) in
    let letters_are : letters ≡ letters_2 = all_unique columns some states states_2 states_are letters letters_2 of_all of_all_2 in
    cc (name_is, letters_are)
merged_unique columns some lines mores same told more (shown _ _ _ is _) (looked _ _ _ _ is_2 _) =
    absurd (cc (is 0 some, same 0 some, is_2 0 some))
merged_unique columns some lines mores same told more (shown _ _ _ is _) (at_end _ _ _ _ _ _ _ _ is_2 _ _ _) =
    absurd (cc (is 0 some, same 0 some, is_2 0 some))
merged_unique columns some lines mores same told more (shown _ _ _ is _) (at_gate _ _ _ _ _ _ _ _ is_2 _ _ _) =
    absurd (cc (is 0 some, same 0 some, is_2 0 some))
merged_unique columns some lines mores same told more (looked _ _ _ _ is _) (waves _ _ _ _ _ _ _ is_2 _ _ _) =
    absurd (cc (is 0 some, same 0 some, is_2 0 some))
merged_unique columns some lines mores same told more (looked _ _ _ _ is _) (shown _ _ _ is_2 _) =
    absurd (cc (is 0 some, same 0 some, is_2 0 some))
merged_unique columns some lines mores same told more (looked name letter sort states is of_all)
    (looked name_2 letter_2 sort_2 states_2 is_2 of_all_2) =
    let name_is : name ≡ name_2 = cc (is 0 some, same 0 some, is_2 0 some) in
    let sort_is : sort ≡ sort_2 = cc (is 0 some, same 0 some, is_2 0 some) in
    let states_are : (c : ℕ) → c < columns → states c ≡ states_2 c = λ c inside. cc (is c inside, same c inside, is_2 c inside) in
    let letter_is : letter ≡ letter_2 = of_all_unique columns some states states_2 states_are letter letter_2 of_all of_all_2 in
    cc (name_is, sort_is, letter_is)
merged_unique columns some lines mores same told more (looked _ _ _ _ is _) (at_end _ _ _ _ _ _ _ _ is_2 _ _ _) =
    absurd (cc (is 0 some, same 0 some, is_2 0 some))
merged_unique columns some lines mores same told more (looked _ _ _ _ is _) (at_gate _ _ _ _ _ _ _ _ is_2 _ _ _) =
    absurd (cc (is 0 some, same 0 some, is_2 0 some))
merged_unique columns some lines mores same told more (at_end _ _ _ _ _ _ _ _ is _ _ _) (waves _ _ _ _ _ _ _ is_2 _ _ _) =
    absurd (cc (is 0 some, same 0 some, is_2 0 some))
merged_unique columns some lines mores same told more (at_end _ _ _ _ _ _ _ _ is _ _ _) (shown _ _ _ is_2 _) =
    absurd (cc (is 0 some, same 0 some, is_2 0 some))
merged_unique columns some lines mores same told more (at_end _ _ _ _ _ _ _ _ is _ _ _) (looked _ _ _ _ is_2 _) =
    absurd (cc (is 0 some, same 0 some, is_2 0 some))
merged_unique columns some lines mores same told more (at_end switch gate end gate_letter end_letter switches gates end_states is of_switch of_gate of_end)
    (at_end switch_2 gate_2 end_2 gate_letter_2 end_letter_2 switches_2 gates_2 end_states_2 is_2 of_switch_2 of_gate_2 of_end_2) =
    let first_is : gate ≡ gate_2 = cc (is 0 some, same 0 some, is_2 0 some) in
    let second_is : end ≡ end_2 = cc (is 0 some, same 0 some, is_2 0 some) in
    let switches_are : (c : ℕ) → c < columns → switches c ≡ switches_2 c = λ c inside. cc (is c inside, same c inside, is_2 c inside) in
    let firsts_are : (c : ℕ) → c < columns → gates c ≡ gates_2 c = λ c inside. cc (is c inside, same c inside, is_2 c inside) in
    let seconds_are : (c : ℕ) → c < columns → end_states c ≡ end_states_2 c = λ c inside. cc (is c inside, same c inside, is_2 c inside) in
    let switch_is : switch ≡ switch_2 = switch_unique columns some switches switches_2 switches_are switch switch_2 of_switch of_switch_2 in
    let first_letter_is : gate_letter ≡ gate_letter_2 = of_all_unique columns some gates gates_2 firsts_are gate_letter gate_letter_2 of_gate of_gate_2 in
    let second_letter_is : end_letter ≡ end_letter_2 = of_all_unique columns some end_states end_states_2 seconds_are end_letter end_letter_2 of_end of_end_2 in
    cc (first_is, second_is, switch_is, first_letter_is, second_letter_is)
merged_unique columns some lines mores same told more (at_end _ _ _ _ _ _ _ _ is _ _ _) (at_gate _ _ _ _ _ _ _ _ is_2 _ _ _) =
    absurd (cc (is 0 some, same 0 some, is_2 0 some))
merged_unique columns some lines mores same told more (at_gate _ _ _ _ _ _ _ _ is _ _ _) (waves _ _ _ _ _ _ _ is_2 _ _ _) =
    absurd (cc (is 0 some, same 0 some, is_2 0 some))
merged_unique columns some lines mores same told more (at_gate _ _ _ _ _ _ _ _ is _ _ _) (shown _ _ _ is_2 _) =
    absurd (cc (is 0 some, same 0 some, is_2 0 some))
merged_unique columns some lines mores same told more (at_gate _ _ _ _ _ _ _ _ is _ _ _) (looked _ _ _ _ is_2 _) =
    absurd (cc (is 0 some, same 0 some, is_2 0 some))
merged_unique columns some lines mores same told more (at_gate _ _ _ _ _ _ _ _ is _ _ _) (at_end _ _ _ _ _ _ _ _ is_2 _ _ _) =
    absurd (cc (is 0 some, same 0 some, is_2 0 some))
merged_unique columns some lines mores same told more (at_gate switch source drain source_letter drain_letter switches sources drains is of_switch of_source of_drain)
    (at_gate switch_2 source_2 drain_2 source_letter_2 drain_letter_2 switches_2 sources_2 drains_2 is_2 of_switch_2 of_source_2 of_drain_2) =
    let first_is : source ≡ source_2 = cc (is 0 some, same 0 some, is_2 0 some) in
    let second_is : drain ≡ drain_2 = cc (is 0 some, same 0 some, is_2 0 some) in
    let switches_are : (c : ℕ) → c < columns → switches c ≡ switches_2 c = λ c inside. cc (is c inside, same c inside, is_2 c inside) in
    let firsts_are : (c : ℕ) → c < columns → sources c ≡ sources_2 c = λ c inside. cc (is c inside, same c inside, is_2 c inside) in
    let seconds_are : (c : ℕ) → c < columns → drains c ≡ drains_2 c = λ c inside. cc (is c inside, same c inside, is_2 c inside) in
    let switch_is : switch ≡ switch_2 = switch_unique columns some switches switches_2 switches_are switch switch_2 of_switch of_switch_2 in
    let first_letter_is : source_letter ≡ source_letter_2 = of_all_unique columns some sources sources_2 firsts_are source_letter source_letter_2 of_source of_source_2 in
    let second_letter_is : drain_letter ≡ drain_letter_2 = of_all_unique columns some drains drains_2 seconds_are drain_letter drain_letter_2 of_drain of_drain_2 in
    cc (first_is, second_is, switch_is, first_letter_is, second_letter_is)

are_merged_unique : (columns : ℕ) → 0 < columns → (lines mores : ℕ → List Line) → ((c : ℕ) → c < columns → lines c ≡ mores c) → (told more : List SymbolTold) →
    AreMerged columns lines told → AreMerged columns mores more → told ≡ more
are_merged_unique columns some lines mores same told more (no_line own nothing) (no_line other empty) = refl
are_merged_unique columns some lines mores same told more (no_line own nothing) (one_more other rest head first others starts is after) =
    absurd (cc (nothing 0 some, same 0 some, starts 0 some))
are_merged_unique columns some lines mores same told more (one_more own rest head first others starts is after) (no_line other empty) =
    absurd (cc (starts 0 some, same 0 some, empty 0 some))
are_merged_unique columns some lines mores same told more (one_more own rest head first others starts is after)
    (one_more own_2 rest_2 head_2 first_2 others_2 starts_2 is_2 after_2) =
    let heads : (c : ℕ) → c < columns → head c ≡ head_2 c = λ c inside. cc (starts c inside, same c inside, starts_2 c inside) in
    let rests : (c : ℕ) → c < columns → rest c ≡ rest_2 c = λ c inside. cc (starts c inside, same c inside, starts_2 c inside) in
    ap₂ (λ (a : SymbolTold) (all : List SymbolTold). a ∷ all) (merged_unique columns some head head_2 heads first first_2 is is_2)
    (are_merged_unique columns some rest rest_2 rests others others_2 after after_2)

-- ---- expectations

-- a column is before another, at it or past it
place_of : (m n : ℕ) → (m < n) ⊎ ((m ≡ n) ⊎ (n < m))
place_of m n = grind arith

module _ (v : Valuations) (sessions others : ℕ → SessionData) (same : (c : ℕ) → c < v.columns → sessions c ≡ others c) where
  -- an assignment isn't met in a column by both or by neither
  unmet_same : (own : Assignment) (c : ℕ) → c < v.columns → unmet_in v sessions own c ≡ unmet_in v others own c
  unmet_same own c inside =
      ap (λ (session : SessionData). unmet_line session (plain_under (v.values c) session.circuit session.vectors own)) (same c inside)

  -- the line that is told, of its parts
  abbrev unmet_with : Assignment → Bool → List ℕ → List Letter → List Tern → ℕ → ℕ → SymbolTold
  unmet_with own vector name wanted got n c = Unmet name (wanted_text vector (is_formula own.value) own.text wanted) got n (v.truths c)

  first_unique : (own : Assignment) (told more : SymbolTold) → IsFirstUnmet v sessions own told → IsFirstUnmet v others own more → told ≡ more
  first_unique own told more one two =
      elim (place_of one.column two.column) [
        | inl less ↦ absurd (cc (unmet_same own one.column one.inside, one.unmet, two.met_before one.column less))
        | inr rest ↦ elim rest [
          | inl at ↦
              let lines : Some (of_one.Unmet one.name one.wanted one.got one.n) ≡ Some (of_one.Unmet two.name two.wanted two.got two.n) =
              sym one.unmet ∙ unmet_same own one.column one.inside ∙ ap (unmet_in v others own) at ∙ two.unmet in
              let name_is : one.name ≡ two.name = cc lines in
              let wanted_is : one.wanted ≡ two.wanted = cc lines in
              let got_is : one.got ≡ two.got = cc lines in
              let number_is : one.n ≡ two.n = cc lines in
              let kind = λ (session : SessionData). is_vector session.circuit session.vectors own.name in
              let vector_is : kind (sessions one.column) ≡ kind (others two.column) = ap kind (same one.column one.inside ∙ ap others at) in
              one.told_is
              ∙ ap (λ (vector : Bool). unmet_with own vector one.name one.wanted one.got one.n one.column) vector_is
              ∙ ap (λ (name : List ℕ). unmet_with own (kind (others two.column)) name one.wanted one.got one.n one.column) name_is
              ∙ ap (λ (wanted : List Letter). unmet_with own (kind (others two.column)) two.name wanted one.got one.n one.column) wanted_is
              ∙ ap (λ (got : List Tern). unmet_with own (kind (others two.column)) two.name two.wanted got one.n one.column) got_is
              ∙ ap (λ (n : ℕ). unmet_with own (kind (others two.column)) two.name two.wanted two.got n one.column) number_is
              ∙ ap (λ (c : ℕ). unmet_with own (kind (others two.column)) two.name two.wanted two.got two.n c) at
              ∙ sym two.told_is
          | inr less ↦ absurd (cc (unmet_same own two.column two.inside, two.unmet, one.met_before two.column less))
        ]
      ]

  told_of_unique : (own : Assignment) (told more : List SymbolTold) → IsToldOf v sessions own told → IsToldOf v others own more → told ≡ more
  told_of_unique own [] [] one two = refl
  told_of_unique own [] (told ∷ []) one two = absurd (cc (one two.column two.inside, unmet_same own two.column two.inside, two.unmet))
  told_of_unique own (told ∷ []) [] one two = absurd (cc (two one.column one.inside, unmet_same own one.column one.inside, one.unmet))
  told_of_unique own (told ∷ []) (more ∷ []) one two = ap (λ (line : SymbolTold). line ∷ []) (first_unique own told more one two)
  told_of_unique own [] (told ∷ second ∷ more) one two = absurd two
  told_of_unique own (told ∷ []) (other ∷ second ∷ more) one two = absurd two
  told_of_unique own (told ∷ second ∷ rest) more one two = absurd one

  are_told_unique : (list : List Assignment) (told more : List SymbolTold) → AreToldOf v sessions list told → AreToldOf v others list more → told ≡ more
  are_told_unique [] told more one two = one ∙ sym two
  are_told_unique (own ∷ list) told more (first, rest, is, are, split) (first_2, rest_2, is_2, are_2, split_2) =
      split
      ∙ ap₂ (λ (a b : List SymbolTold). a ++ b) (told_of_unique own first first_2 is is_2) (are_told_unique list rest rest_2 are are_2)
      ∙ sym split_2

  -- what a line tells
  merges_unique : 0 < v.columns → (asked : Option SymbolLine) (lines mores : ℕ → List Line) → ((c : ℕ) → c < v.columns → lines c ≡ mores c) →
      (told more : List SymbolTold) → Merges v sessions asked lines told → Merges v others asked mores more → told ≡ more
  merges_unique some None lines mores are told more one two = are_merged_unique v.columns some lines mores are told more one two
  merges_unique some (Some (asks_for.Values Expect list)) lines mores are told more one two = are_told_unique list told more one two
  merges_unique some (Some (asks_for.Values Set list)) lines mores are told more one two = are_merged_unique v.columns some lines mores are told more one two
  merges_unique some (Some (asks_for.Values Charge list)) lines mores are told more one two = are_merged_unique v.columns some lines mores are told more one two
  merges_unique some (Some (asks_for.Names command)) lines mores are told more one two = are_merged_unique v.columns some lines mores are told more one two
  merges_unique some (Some (asks_for.Plain command)) lines mores are told more one two = are_merged_unique v.columns some lines mores are told more one two

-- ---- runs

-- the lines that are told are determined
told_unique : (quiet : Bool) (v : Valuations) (cut : Option ℕ) → 0 < v.columns → (start begin : ℕ → SessionData) → ((c : ℕ) → c < v.columns → start c ≡ begin c) →
    (lines : List (ℕ × List ℕ)) (end finish : ℕ → SessionData) (told more : List SymbolTold) (texts others : List GroupTextData) (last final : Option RefusedLine) →
    RunsInAll quiet v cut start lines end told texts last → RunsInAll quiet v cut begin lines finish more others final → told ≡ more
told_unique quiet v cut some start begin same lines end finish told more texts others last final (ends one) (ends other) = refl
told_unique quiet v cut some start begin same lines end finish told more texts others last final (obeys old mid new line rest first after own further stop is runs)
    (obeys old_2 mid_2 new_2 line_2 rest_2 first_2 after_2 own_2 further_2 stop_2 is_2 runs_2) =
    let leads = λ (c : ℕ) (inside : c < v.columns).
    obeyed_unique (reading_under quiet (v.values c)) cut (old c) (mid c) (mid_2 c) line (is.lines c) (is_2.lines c) own own_2 (is.each c inside)
    (subst (λ (session : SessionData). IsObeyed (reading_under quiet (v.values c)) cut session line (mid_2 c) (is_2.lines c) own_2) (sym (same c inside)) (is_2.each c inside)) in
    let mids : (c : ℕ) → c < v.columns → mid c ≡ mid_2 c = λ c inside. (leads c inside).end in
    let written : (c : ℕ) → c < v.columns → is.lines c ≡ is_2.lines c = λ c inside. (leads c inside).wrote_is in
    ap₂ (λ (a b : List SymbolTold). a ++ b)
    (merges_unique v old old_2 same some (asked_in (symbol_reading_of quiet line.1)) is.lines is_2.lines written first first_2 is.merged is_2.merged)
    (told_unique quiet v cut some mid mid_2 mids rest new new_2 after after_2 further further_2 stop stop_2 runs runs_2)
told_unique quiet v cut some start begin same lines end finish told more texts others last final (obeys old mid new line rest first after own further stop is runs)
    (refuses sessions line_2 rest_2 cause stops) =
    absurd (not_refused (reading_under quiet (v.values 0)) cut (old 0) (mid 0) line (is.lines 0) own cause (is.each 0 some)
    (subst (λ (session : SessionData). IsRefused (reading_under quiet (v.values 0)) cut session line cause) (sym (same 0 some)) (stops 0 some)))
told_unique quiet v cut some start begin same lines end finish told more texts others last final (refuses sessions line rest cause stops)
    (obeys old mid new line_2 rest_2 first after own further stop is runs) =
    absurd (not_refused (reading_under quiet (v.values 0)) cut (old 0) (mid 0) line (is.lines 0) own cause (is.each 0 some)
    (subst (λ (session : SessionData). IsRefused (reading_under quiet (v.values 0)) cut session line cause) (same 0 some) (stops 0 some)))
told_unique quiet v cut some start begin same lines end finish told more texts others last final (refuses sessions line rest cause stops)
    (refuses sessions_2 line_2 rest_2 cause_2 stops_2) = refl

-- ---- answers

pub answers_unique : SymbolicAnswersAreUnique
answers_unique cut start lines answer other one two =
    let read = read_of false cut lines in
    let v = valuations_of read in
    let stop = stop_of false cut lines in
    let variables = variables_of read in
    let some : 0 < v.columns = pow_pos (length variables) in
    let first = columns_run false v cut (λ column. start) _ one.end one.told answer.texts one.last one.runs 0 some in
    let second = columns_run false v cut (λ column. start) _ two.end two.told other.texts two.last two.runs 0 some in
    let outcomes = runs_unique _ _ _ _ first.outcome second.outcome first.runs second.runs in
    let texts_are : answer.texts ≡ other.texts = sym first.analysed ∙ ap (λ (outcome : Outcome). outcome.texts) outcomes ∙ second.analysed in
    let last_is : one.last ≡ two.last = sym first.stopped ∙ ap (λ (outcome : Outcome). outcome.refused) outcomes ∙ second.stopped in
    let told_are : one.told ≡ two.told =
    told_unique false v cut some (λ column. start) (λ column. start) (λ c inside. refl) _ one.end two.end one.told two.told answer.texts other.texts one.last two.last
    one.runs two.runs in
    one.told_is
    ∙ ap (λ (told : List SymbolTold). answer_told variables told one.last stop answer.texts) told_are
    ∙ ap (λ (last : Option RefusedLine). answer_told variables two.told last stop answer.texts) last_is
    ∙ ap (λ (texts : List GroupTextData). answer_told variables two.told two.last stop texts) texts_are
    ∙ sym two.told_is
