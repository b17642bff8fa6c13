-- A machine over truths that moves: each column takes the graph's step and fits the graph again; and after a fault each rests.
use Rattle.std.proofs.Common.{◌≡◌, ℕ, ◌<◌, Bool, true, false, List, length, All, Result, Ok, Err, inl, refl, sym, ap, ap₂, subst, ◌∙◌, arith}
use Rattle.std.specs.Prelude.{IfOk, OnErr}
use Rattle.std.proofs.lemmas.Result.{IfOk-weaker}
use Rattle.ternary.specs.declared.tern.Tern.{Tern}
use Rattle.switch_paths.specs.Graphs.{GraphData, IsWired}
use Rattle.switch_paths.specs.Step.{IsStep}
use Rattle.switch_paths.specs.Switching.{state_at}
use Rattle.settling.specs.Settling.{IsJoinStep, StaysOrBecomesX}
use Rattle.machine_parts.specs.declared.part.MachinePart.{MachinePart}
use Rattle.truth_columns.specs.Columns.{AreKept, HasColumn}
use Rattle.truth_columns.proofs.ColumnLemmas.{AreKept-same, AreKept-trans, values_in-kept}
use Rattle.column_settling.specs.Reaching.{Reaches}
use Rattle.column_settling.proofs.ReachingLemmas.{held_by_all}
use Rattle.truth_parts.specs.Columns.{states_in, states_of, AreColumns, IsColumn}
use Rattle.truth_parts.specs.Fitting.{HasFit}
use Rattle.truth_parts.specs.Stepping.{StepsInAll}
use Rattle.truth_parts.proofs.KeptLemmas.{HasColumn-kept}
use Rattle.truth_parts.proofs.FittingLemmas.{plain_step, join_step, fits_again}
use Rattle.truth_machine.specs.Machines.{TruthData, column_of, FitsInMachine}
use Rattle.truth_machine.specs.Keeping.{KeepsTruths}
use Rattle.truth_machine.specs.Moving.{Rests, StepsColumns}

-- what holds whether there is a value or a fault
pub either_way : {V E : Type 0} → (r : Result V E) (P : V → Type 0) (Q R : Type 0) → IfOk r P → OnErr r Q → ((x : V) → P x → R) → (Q → R) → R
either_way (Ok x) P Q R fact other one two = one x fact
either_way (Err e) P Q R fact other one two = two other

-- what holds after a fault
pub on_fault : {V E : Type 0} → (r : Result V E) (Q R : Type 0) → OnErr r Q → (Q → R) → OnErr r R
on_fault (Ok x) Q R other two = other
on_fault (Err e) Q R other two = two other

module _ {A M : Type 0} (columns : M → ℕ) (has : M → A → Type 0) (holds : M → A → ℕ → Bool) (old new : TruthData A M)
    (kept : AreKept (columns old.maker) (has old.maker) (holds old.maker) (columns new.maker) (has new.maker) (holds new.maker))
    (highs : All (has old.maker) old.hi) (lows : All (has old.maker) old.lo) where
  -- the column is one of those that there are after the step, with the states that it had
  column_now : AreColumns (columns old.maker) (holds old.maker) old.hi old.lo → (column : ℕ) → column < columns old.maker →
      IsColumn (columns new.maker) (holds new.maker) old.hi old.lo column (column_of holds old column)
  column_now are column inside = record {
    inside = omega (arith, inside, kept.count);
    has = HasColumn-kept _ _ _ _ _ _ kept old.hi old.lo highs lows column (column_of holds old column) inside (are.each column inside);
  }

  -- each column takes a step
  pub StepsColumns-taken : (joining moved : Bool) → AreColumns (columns old.maker) (holds old.maker) old.hi old.lo → new.parts ≡ old.parts →
      StepsInAll joining old.parts (columns new.maker) (holds new.maker) old.marks new.marks old.hi old.lo new.hi new.lo moved →
      StepsColumns columns holds joining old new moved
  StepsColumns-taken joining moved are parts steps = record {
    each = λ column inside. steps.each column (column_of holds old column) (column_now are column inside);
    some = λ yes.
        let moves = steps.some yes in
        let inside : moves.column < columns old.maker = omega (arith, moves.inside, kept.count) in
        (moves.column, inside, moves.other (column_of holds old moves.column) (column_now are moves.column inside).has);
    none = λ still column inside. steps.none still column (column_of holds old column) (column_now are column inside);
    parts = parts;
    highs = steps.highs;
  }

  -- and the rails are states again
  pub AreColumns-taken : (joining moved : Bool) → AreColumns (columns old.maker) (holds old.maker) old.hi old.lo →
      StepsInAll joining old.parts (columns new.maker) (holds new.maker) old.marks new.marks old.hi old.lo new.hi new.lo moved →
      AreColumns (columns new.maker) (holds new.maker) new.hi new.lo
  AreColumns-taken joining moved are steps = record {
    counted = steps.lows ∙ (are.counted ∙ sym steps.highs);
    each = λ column inside.
        let before : column < columns old.maker = omega (arith, inside, kept.count) in
        steps.has column (column_of holds old column) (column_now are column before);
  }

  -- after a fault each column is as it was
  pub column-rests : Rests old new → (column : ℕ) → column < columns old.maker → column_of holds new column ≡ column_of holds old column
  column-rests rests column inside =
      ap₂ (states_in (holds new.maker) column) rests.highs rests.lows
      ∙ ap₂ states_of (values_in-kept _ _ _ _ _ _ column old.hi kept highs inside) (values_in-kept _ _ _ _ _ _ column old.lo kept lows inside)

  -- so its nodes stay
  pub nodes-rest : Rests old new → (column : ℕ) → column < columns old.maker → length (column_of holds new column) ≡ length (column_of holds old column)
  nodes-rest rests column inside = ap length (column-rests rests column inside)

  pub unknown-rests : Rests old new → (column : ℕ) → column < columns old.maker → StaysOrBecomesX (column_of holds old column) (column_of holds new column)
  unknown-rests rests column inside = λ node within. inl (ap (λ (state : List Tern). state_at state node) (column-rests rests column inside))

  -- and the rails are states still
  pub AreColumns-rest : AreColumns (columns old.maker) (holds old.maker) old.hi old.lo → Rests old new → AreColumns (columns new.maker) (holds new.maker) new.hi new.lo
  AreColumns-rest are rests = record {
    counted = ap length rests.lows ∙ are.counted ∙ sym (ap length rests.highs);
    each = λ column inside.
        let before : column < columns old.maker = omega (arith, inside, kept.count) in
        subst (λ (state : List Tern). HasColumn (holds new.maker) column new.hi new.lo state) (sym (column-rests rests column before))
        (subst (λ (list : List A). HasColumn (holds new.maker) column list new.lo (column_of holds old column)) (sym rests.highs)
        (subst (λ (list : List A). HasColumn (holds new.maker) column old.hi list (column_of holds old column)) (sym rests.lows) (column_now are column before).has));
  }

  pub FitsInMachine-rests : (g : GraphData) → Rests old new → FitsInMachine columns holds g old → FitsInMachine columns holds g new
  FitsInMachine-rests g rests fits column inside =
      let before : column < columns old.maker = omega (arith, inside, kept.count) in
      subst (λ (state : List Tern). HasFit g new.parts new.marks state) (sym (column-rests rests column before))
      (subst (λ (marks : List Bool). HasFit g new.parts marks (column_of holds old column)) (sym rests.marks)
      (subst (λ (parts : List MachinePart). HasFit g parts old.marks (column_of holds old column)) (sym rests.parts) (fits column before)))

  -- after a step each column fits the graph
  pub FitsInMachine-stepped : (g : GraphData) → IsWired g → (joining moved : Bool) → StepsColumns columns holds joining old new moved →
      FitsInMachine columns holds g old → FitsInMachine columns holds g new
  FitsInMachine-stepped g wired joining moved steps fits column inside =
      let before : column < columns old.maker = omega (arith, inside, kept.count) in
      subst (λ (parts : List MachinePart). HasFit g parts new.marks (column_of holds new column)) (sym steps.parts)
      (fits_again g wired old.parts old.marks new.marks (column_of holds old column) (column_of holds new column) (fits column before) joining (steps.each column before))

-- three facts after a fault
pub on_faults : {V E : Type 0} → (r : Result V E) (A B C Q : Type 0) → OnErr r A → OnErr r B → OnErr r C → (A → B → C → Q) → OnErr r Q
on_faults (Ok x) A B C Q a b c all = a
on_faults (Err e) A B C Q a b c all = all a b c

-- what is known of a machine after it took a step or ran out
pub record Taken {A M F : Type 0} (columns : M → ℕ) (has : M → A → Type 0) (holds : M → A → ℕ → Bool) (joining : Bool) (r : Result Bool F) (old new : TruthData A M) : Type 0 where
  pub steps : IfOk r (StepsColumns columns holds joining old new)
  pub rests : OnErr r (Rests old new)
  pub are : AreColumns (columns new.maker) (holds new.maker) new.hi new.lo
  pub marks : length new.marks ≡ length old.marks
  pub nodes : (column : ℕ) → column < columns old.maker → length (column_of holds new column) ≡ length (column_of holds old column)
  pub unknown : joining ≡ true → (column : ℕ) → column < columns old.maker → StaysOrBecomesX (column_of holds old column) (column_of holds new column)

-- after a step of its parts that is so
pub Taken-advanced : {A M F : Type 0} → (columns : M → ℕ) (has : M → A → Type 0) (holds : M → A → ℕ → Bool) (joining : Bool) (r : Result Bool F) (old new : TruthData A M) →
    AreKept (columns old.maker) (has old.maker) (holds old.maker) (columns new.maker) (has new.maker) (holds new.maker) →
    All (has old.maker) old.hi → All (has old.maker) old.lo → AreColumns (columns old.maker) (holds old.maker) old.hi old.lo → new.parts ≡ old.parts →
    IfOk r (StepsInAll joining old.parts (columns new.maker) (holds new.maker) old.marks new.marks old.hi old.lo new.hi new.lo) →
    OnErr r (new.hi ≡ old.hi) → OnErr r (new.lo ≡ old.lo) → OnErr r (new.marks ≡ old.marks) → Taken columns has holds joining r old new
Taken-advanced columns has holds joining r old new kept highs lows are parts told same_hi same_lo same_marks =
    let steps : IfOk r (StepsColumns columns holds joining old new) =
    IfOk-weaker r _ _ (λ moved taken. StepsColumns-taken columns has holds old new kept highs lows joining moved are parts taken) told in
    let rests : OnErr r (Rests old new) =
    on_faults r _ _ _ _ same_hi same_lo same_marks (λ h l m. record { parts = parts; marks = m; highs = h; lows = l }) in
    record {
      steps = steps;
      rests = rests;
      are = either_way r _ _ _ told rests (λ moved taken. AreColumns-taken columns has holds old new kept highs lows joining moved are taken)
          (λ rest. AreColumns-rest columns has holds old new kept highs lows are rest);
      marks = either_way r _ _ _ told rests (λ moved taken. taken.marks_counted) (λ rest. ap length rest.marks);
      nodes = either_way r _ _ _ steps rests (λ moved each column inside. (each.each column inside).moves.count)
          (λ rest. nodes-rest columns has holds old new kept highs lows rest);
      unknown = λ is. either_way r _ _ _ steps rests (λ moved each column inside. (each.each column inside).unknown is)
          (λ rest. unknown-rests columns has holds old new kept highs lows rest);
    }

-- each column takes the graph's step
pub IsStep-in_column : {A M : Type 0} → (columns : M → ℕ) (holds : M → A → ℕ → Bool) (old new : TruthData A M) (g : GraphData) → IsWired g → (moved : Bool) →
    StepsColumns columns holds false old new moved → FitsInMachine columns holds g old → (column : ℕ) → column < columns old.maker →
    IsStep g (column_of holds old column) (column_of holds new column)
IsStep-in_column columns holds old new g wired moved steps fits column inside =
    plain_step g wired old.parts old.marks new.marks (column_of holds old column) (column_of holds new column) (fits column inside) (steps.each column inside)

pub IsJoinStep-in_column : {A M : Type 0} → (columns : M → ℕ) (holds : M → A → ℕ → Bool) (old new : TruthData A M) (g : GraphData) → IsWired g → (moved : Bool) →
    StepsColumns columns holds true old new moved → FitsInMachine columns holds g old → (column : ℕ) → column < columns old.maker →
    IsJoinStep g (column_of holds old column) (column_of holds new column)
IsJoinStep-in_column columns holds old new g wired moved steps fits column inside =
    join_step g wired old.parts old.marks new.marks (column_of holds old column) (column_of holds new column) (fits column inside) (steps.each column inside)

-- ---- many steps

-- a machine keeps its own truths, and what is kept twice is kept
KeepsTruths-same : {A M : Type 0} → (columns : M → ℕ) (has : M → A → Type 0) (holds : M → A → ℕ → Bool) (bound : M → ℕ) (m : TruthData A M) →
    KeepsTruths columns has holds bound m m
KeepsTruths-same columns has holds bound m = record { kept = AreKept-same (columns m.maker) (has m.maker) (holds m.maker); bounded = refl }

KeepsTruths-trans : {A M : Type 0} → (columns : M → ℕ) (has : M → A → Type 0) (holds : M → A → ℕ → Bool) (bound : M → ℕ) (first second third : TruthData A M) →
    KeepsTruths columns has holds bound first second → KeepsTruths columns has holds bound second third → KeepsTruths columns has holds bound first third
KeepsTruths-trans columns has holds bound first second third one two = record {
  kept = AreKept-trans (columns first.maker) (columns second.maker) (columns third.maker) (has first.maker) (has second.maker) (has third.maker)
      (holds first.maker) (holds second.maker) (holds third.maker) one.kept two.kept;
  bounded = two.bounded ∙ one.bounded;
}

-- so moves each of which keeps the truths of a maker keep them all
pub keeps_reached : {A M : Type 0} → (columns : M → ℕ) (has : M → A → Type 0) (holds : M → A → ℕ → Bool) (bound : M → ℕ) (old new : TruthData A M) →
    Reaches (KeepsTruths columns has holds bound) old new → KeepsTruths columns has holds bound old new
keeps_reached columns has holds bound old new reached =
    held_by_all (KeepsTruths columns has holds bound) (KeepsTruths columns has holds bound) (KeepsTruths-same columns has holds bound)
    (KeepsTruths-trans columns has holds bound) old new reached
