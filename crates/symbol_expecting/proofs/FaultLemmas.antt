-- What ends an `expect`: refusals of assignments one after the other, and what a fault says of the stage and of the hearer's counts.
use Rattle.std.proofs.Common.{◌≡◌, ℕ, ◌+◌, ◌<◌, inl, inr, Bool, List, ◌∷◌, length, get_or, drop, map, Option, Some, None, refl, sym, ap, ap₂, subst, ◌∙◌}
use Rattle.std.specs.Prelude.{Result, Ok, Err, IfErr}
use Rattle.std.proofs.lemmas.Result.{IfErr-at_err}
use Rattle.std.proofs.lemmas.List.{drop_more}
use Rattle.decision_graph.specs.declared.graph.GraphFault.{GraphFault}
use Rattle.decision_graph.specs.declared.graph.GraphFault.TheVariants as graph
use Rattle.netlist.specs.Circuits.{CircuitData}
use Rattle.script_lang.specs.declared.value.Value.{Value}
use Rattle.truth_makers.specs.Makers.{IsSpent}
use Rattle.session_meaning.specs.declared.fault.Refusal.{Refusal}
use Rattle.session_meaning.specs.Refusals.{first_refusal, none_at, or_else, values_refusal}
use Rattle.session_meaning.specs.Sessions.{HeldSession}
use Rattle.symbol_script.specs.declared.line.Assignment.{Assignment}
use Rattle.symbol_meaning.specs.Readings.{Valuations}
use Rattle.symbol_meaning.specs.Merging.{AreToldOf}
use Rattle.symbol_told.specs.Lines.{Telling}
use Rattle.symbol_stage.specs.Stages.{StageData}
use Rattle.symbol_giving.specs.Giving.{data_of}
use Rattle.symbol_giving.specs.StandIns.{stand_in}
use Rattle.symbol_giving.proofs.StandLemmas.{stand_refused}
use Rattle.symbol_expecting.specs.declared.fault.ExpectFault.{ExpectFault}
use Rattle.symbol_expecting.specs.declared.fault.ExpectFault.TheVariants.{Refused, Full, NoMemory, Unheard}
use Rattle.symbol_expecting.specs.Expecting.{AreAllowed, AreRefusedFor, ExpectsInAll, Tells}
use Rattle.symbol_expecting.specs.Faults.{faults_expected, of_graph, IsRefusalFor, IsSilent, IsSpentBy, IsUnheard, RefusedExpected}

-- ---- refusals

-- what ends it for the value with the name that was read ends it for the assignment
pub item_refused : (f : List ℕ × Value → Option Refusal) (item : List ℕ × Value) (name : List ℕ) (fault : ExpectFault) → name ≡ item.0 →
    IsRefusalFor (f (name, item.1)) fault → IsRefusalFor (f item) fault
item_refused f item name fault same stops = subst (λ (one : List ℕ). IsRefusalFor (f (one, item.1)) fault) same stops

-- if none before it is refused, what ends it for the item ends it for all
pub refusal_stops : {X : Type 0} (f : X → Option Refusal) (list : List X) (place : ℕ) (item : X) (fault : ExpectFault) → place < length list →
    item ≡ get_or list place item → first_refusal f (drop place list) ≡ first_refusal f list → IsRefusalFor (f item) fault →
    IsRefusalFor (first_refusal f list) fault
refusal_stops {X} f list place item (Refused refusal) inside is so_far stops =
    sym so_far
    ∙ ap (first_refusal f) (drop_more list place item inside ∙ ap (λ (one : X). one ∷ drop (place + 1) list) (sym is))
    ∙ ap (λ (found : Option Refusal). or_else found (first_refusal f (drop (place + 1) list))) stops
refusal_stops f list place item Full inside is so_far stops = absurd stops
refusal_stops f list place item NoMemory inside is so_far stops = tt
refusal_stops f list place item (Unheard fault) inside is so_far stops = absurd stops

-- and what holds of that holds of the assignment
pub of_item : (P : List ℕ × Value → Type 0) (item : List ℕ × Value) (name : List ℕ) → name ≡ item.0 → P (name, item.1) → P item
of_item P item name same holds = subst (λ (one : List ℕ). P (one, item.1)) same holds

-- a fault of what stands for assignments is one of them in each column
module _ (v : Valuations) (session : HeldSession StageData) (list : List Assignment) where
  abbrev pub stands : Option Refusal
  stands = values_refusal none_at session.core.circuit session.core.vectors (map (stand_in session.core.circuit session.core.vectors) list)

  pub stands_allowed : stands ≡ None → AreAllowed v (data_of session) list
  stands_allowed none = λ column inside. stand_refused session.core.circuit session.core.vectors (v.values column) none_at list ∙ none

  pub stands_refused : (refusal : Refusal) → stands ≡ Some refusal → AreRefusedFor v (data_of session) list refusal
  stands_refused refusal some = λ column inside. stand_refused session.core.circuit session.core.vectors (v.values column) none_at list ∙ some

  -- so it is with all of an `expect`
  pub expects_refused : {H : Type 0} (hear : H → Telling → H) (part : H → Telling → H → Type 0) (before : H) (fault : ExpectFault) → IsRefusalFor stands fault →
      ExpectsInAll hear part v (data_of session) list before before (Err fault)
  expects_refused hear part before (Refused refusal) some = (stands_refused refusal some, refl)
  expects_refused hear part before Full none = absurd none
  expects_refused hear part before NoMemory some = inl refl
  expects_refused hear part before (Unheard fault) none = absurd none

  -- and of one that isn't refused
  pub expects_told : {H : Type 0} (hear : H → Telling → H) (part : H → Telling → H → Type 0) (before after : H) (stage : StageData)
      (result : Result Bool ExpectFault) → stands ≡ None → IfErr result (IsSpentBy stage) →
      Tells (AreToldOf v (data_of session) list) hear part before after result → ExpectsInAll hear part v (data_of session) list before after result
  expects_told hear part before after stage (Ok missed) none spent tells = (stands_allowed none, tells)
  expects_told hear part before after stage (Err (Refused refusal)) none spent tells = absurd spent
  expects_told hear part before after stage (Err Full) none spent tells = (stands_allowed none, tells)
  expects_told hear part before after stage (Err NoMemory) none spent tells = inr (stands_allowed none, tells)
  expects_told hear part before after stage (Err (Unheard fault)) none spent tells = (stands_allowed none, tells)

-- what was found by a circuit and vectors that are a session's is so of the session
module _ (session : HeldSession StageData) (c : CircuitData) (vectors : List (List ℕ × List ℕ)) (list : List Assignment) where
  pub allowed_by : c ≡ session.core.circuit → vectors ≡ session.core.vectors →
      values_refusal none_at c vectors (map (stand_in c vectors) list) ≡ None →
      values_refusal none_at session.core.circuit session.core.vectors (map (stand_in session.core.circuit session.core.vectors) list) ≡ None
  allowed_by one other none =
      sym (ap₂ (λ (circuit : CircuitData) (own : List (List ℕ × List ℕ)). values_refusal none_at circuit own (map (stand_in circuit own) list)) one other) ∙ none

  pub refusal_by : (fault : ExpectFault) → c ≡ session.core.circuit → vectors ≡ session.core.vectors →
      IsRefusalFor (values_refusal none_at c vectors (map (stand_in c vectors) list)) fault →
      IsRefusalFor (values_refusal none_at session.core.circuit session.core.vectors (map (stand_in session.core.circuit session.core.vectors) list)) fault
  refusal_by fault one other is =
      subst (λ (found : Option Refusal). IsRefusalFor found fault)
      (ap₂ (λ (circuit : CircuitData) (own : List (List ℕ × List ℕ)). values_refusal none_at circuit own (map (stand_in circuit own) list)) one other) is

-- it isn't that vertices ran out
pub refusal_never : (found : Option Refusal) (fault : ExpectFault) → IsRefusalFor found fault → ◌≡◌ {A = Result Bool ExpectFault} (Err fault) (Err Full) → ⊥
refusal_never found (Refused refusal) is same = absurd (cc same)
refusal_never found Full none same = none
refusal_never found NoMemory is same = absurd (cc same)
refusal_never found (Unheard fault) none same = none

-- ---- what a fault says

-- of functions that can't be made
pub graph_spent : (stage : StageData) (fault : GraphFault) → IsSpent stage.machine.maker fault → IsSpentBy stage (of_graph fault)
graph_spent stage graph.Full spent = spent refl
graph_spent stage graph.NoMemory spent = tt

pub graph_silent : (fault : GraphFault) → IsSilent (of_graph fault)
graph_silent graph.Full = tt
graph_silent graph.NoMemory = tt

-- a fault that isn't the hearer's leaves its counts
pub silent_counts : (faults : ℕ) (fault : ExpectFault) → IsSilent fault → faults ≡ faults_expected faults (Err fault)
silent_counts faults (Refused refusal) none = absurd none
silent_counts faults Full is = refl
silent_counts faults NoMemory is = refl
silent_counts faults (Unheard fault) none = absurd none

pub silent_refused : (refusals : ℕ) (fault : ExpectFault) → IsSilent fault → RefusedExpected refusals refusals (Err fault)
silent_refused refusals (Refused refusal) none = absurd none
silent_refused refusals Full is = refl
silent_refused refusals NoMemory is = refl
silent_refused refusals (Unheard fault) none = absurd none

-- so does a refusal, or lack of memory
pub refusal_counts : (found : Option Refusal) (faults : ℕ) (fault : ExpectFault) → IsRefusalFor found fault → faults ≡ faults_expected faults (Err fault)
refusal_counts found faults (Refused refusal) is = refl
refusal_counts found faults Full none = absurd none
refusal_counts found faults NoMemory is = refl
refusal_counts found faults (Unheard fault) none = absurd none

pub refusal_refused : (found : Option Refusal) (refusals : ℕ) (fault : ExpectFault) → IsRefusalFor found fault → RefusedExpected refusals refusals (Err fault)
refusal_refused found refusals (Refused refusal) is = refl
refusal_refused found refusals Full none = absurd none
refusal_refused found refusals NoMemory is = refl
refusal_refused found refusals (Unheard fault) none = absurd none

-- one of the hearer leaves the stage
pub unheard_spent : (stage : StageData) (result : Result Bool ExpectFault) → IfErr result IsUnheard → IfErr result (IsSpentBy stage)
unheard_spent stage (Ok told) is = tt
unheard_spent stage (Err (Refused refusal)) none = absurd none
unheard_spent stage (Err Full) none = absurd none
unheard_spent stage (Err NoMemory) none = absurd none
unheard_spent stage (Err (Unheard fault)) is = tt

-- if vertices run out there are as many as there may be
pub full_spent : (stage : StageData) (result : Result Bool ExpectFault) → IfErr result (IsSpentBy stage) → result ≡ Err Full → IsSpentBy stage Full
full_spent stage result spent is = IfErr-at_err (IsSpentBy stage) is spent
