-- A machine of columns after an edit, and once its stale parts have their codes.
use Rattle.std.proofs.Common.{◌≡◌, ℕ, suc, ◌+◌, ◌-◌, ◌<◌, ◌≤◌, Bool, inl, inr, List, [], ◌∷◌, ◌++◌, length, replicate, Option, Some, None, refl, sym, ap, subst, ◌∙◌, arith}
use Rattle.std.specs.Prelude.{◌⊎◌, Result, Ok, Err, IfOk, IfErr, OnOk, OnErr, slice_get, slice_index_or}
use Rattle.std.specs.List.{sum_by}
use Rattle.std.proofs.lemmas.List.{get_or_default}
use Rattle.std.proofs.lemmas.List.Sums.{sum_by-cons}
use Rattle.ternary.specs.declared.tern.Tern.{Tern}
use Rattle.ternary.specs.declared.tern.Tern.TheVariants.{Zero, One, Unk}
use Rattle.switch_paths.specs.Graphs.{GraphData, IsWired, nodes}
use Rattle.switch_paths.specs.Rails.{IsSound}
use Rattle.word_columns.specs.Columns.{AreRailsIn}
use Rattle.channel_groups.specs.declared.change.Change.{Change}
use Rattle.channel_groups.specs.Changes.{undo}
use Rattle.group_text.specs.Texts.{GroupTextData}
use Rattle.circuit_texts.specs.declared.texts.BuildFault.{BuildFault}
use Rattle.circuit_texts.specs.declared.texts.BuildFault.TheVariants as build
use Rattle.circuit_texts.specs.Building.{Builds, HasTexts, IsCutOff}
use Rattle.circuit_texts.specs.Sizes.{AllFit, TellsRefused}
use Rattle.circuit_texts.proofs.SizeLemmas.{fits_any}
use Rattle.analysis_cache.specs.Keeping.{KeptData}
use Rattle.machine_parts.specs.declared.part.MachinePart.{MachinePart}
use Rattle.machine_parts.specs.Parts.{Stands}
use Rattle.machine_parts.specs.Marking.{members_of}
use Rattle.part_lists.specs.Growing.{AddsMarked}
use Rattle.machine_laws.specs.Machines.{MachineData}
use Rattle.machine_laws.specs.Fitting.{Covers, FitsGraph}
use Rattle.machine_laws.specs.Editing.{Edits, Finishes, with_new_nodes}
use Rattle.machine_laws.specs.Columns.{in_column, HasNoTexts, KeepsMarking}
use Rattle.machine_laws.proofs.CoveringLemmas.{few_before}
use Rattle.machine_laws.proofs.ColumnEdits.{covers_roomed, edits_add_no_texts, edits_keep_columns, edits_without, finished_members, finishes_keep_columns}
use Rattle.machine_laws.proofs.StayingParts.{Stands-at, part_here}
use Rattle.column_machines.specs.declared.edits.Followed.{Followed}
use Rattle.column_machines.specs.Columns.{WordData, column_states, column_of, machine_of, CoversInWords, FitsInWords}
use Rattle.column_machines.specs.Editing.{EditsWords, Follows, GrowsWords, KeepsButRoom, KeepsWords}
use Rattle.column_machines.specs.Evaluating.{Rooms, rooms, IsEven}
use Rattle.column_machines.specs.Running.{AreColumns, IsWordMachine, IsRunnable}
use Rattle.column_machines.proofs.ColumnLemmas.{column_states-has}

-- ---- new nodes

-- the rails have their states with new nodes behind
IsSound-grown : (state : List Tern) (count : ℕ) → IsSound state → IsSound (with_new_nodes state count)
IsSound-grown [] count sound =
    let no : Zero ≡ One = sound.vdd in
    absurd cc
IsSound-grown (s ∷ []) count sound =
    let no : Zero ≡ One = sound.vdd in
    absurd cc
IsSound-grown (s ∷ t ∷ rest) count sound = record { gnd = sound.gnd; vdd = sound.vdd }

-- words that grew
pub GrowsWords-grown : (g : GraphData) (columns : ℕ) (hi lo new_hi new_lo : List ℕ) → columns ≤ 64 → AreColumns columns hi lo → length new_lo ≡ length new_hi →
    ((column : ℕ) (state : List Tern) → column < 64 → AreRailsIn column hi lo state → AreRailsIn column new_hi new_lo (state ++ replicate (nodes g - length state) Unk)) →
    GrowsWords g columns hi lo new_hi new_lo
GrowsWords-grown g columns hi lo new_hi new_lo few columns_are even grown =
    let has : (column : ℕ) → column < columns → AreRailsIn column new_hi new_lo (with_new_nodes (column_states column hi lo) (nodes g)) =
    λ column inside. grown column (column_states column hi lo) (omega (arith, inside, few)) (columns_are.each column inside) in
    let are : (column : ℕ) → column < columns → column_states column new_hi new_lo ≡ with_new_nodes (column_states column hi lo) (nodes g) =
    λ column inside. column_states-has column new_hi new_lo even (with_new_nodes (column_states column hi lo) (nodes g)) (has column inside) in
    record {
      columns_are = record {
        counted = even;
        each = λ column inside.
            subst (AreRailsIn column new_hi new_lo) (sym (are column inside)) (has column inside);
      };
      each = are;
    }

-- ---- an edit

-- what can go on after an edit followed it
pub Follows-gone_on : (g : GraphData) (change : Change) (old new : MachineData) (marks : List Bool) (result : Result Followed MachineData) → Edits g change old new →
    IfOk result (λ made. made.machine ≡ new) → OnOk result (AllFit g) → IfOk result (λ made. AddsMarked (length new.parts) marks made.agenda) →
    IfOk result (λ made. IsRunnable new.parts made.agenda (rooms made.workspace)) → IfOk result (λ made. IsEven made.workspace) → IfOk result (Follows g change old marks)
Follows-gone_on g change old new marks (Ok made) edits is fit adds runs even = record {
  edits = subst (Edits g change old) (sym is) edits;
  fit = fit;
  adds = subst (λ (m : MachineData). AddsMarked (length m.parts) marks made.agenda) (sym is) adds;
  runs = subst (λ (m : MachineData). IsRunnable m.parts made.agenda (rooms made.workspace)) (sym is) runs;
  rails = even;
}
Follows-gone_on g change old new marks (Err left) edits is fit adds runs even = tt

-- what can't knows the texts of the last build
pub last_left : (old new : MachineData) (result : Result Followed MachineData) → new.last ≡ old.last → IfErr result (λ left. left ≡ new) →
    IfErr result (λ left. left.last ≡ old.last)
last_left old new (Ok made) last is = tt
last_left old new (Err left) last is = ap (λ (m : MachineData). m.last) is ∙ last

module _ (g : GraphData) (change : Change) (wired_before : IsWired (undo g change)) (wired : IsWired g) (old : WordData)
    (counted : length old.marks ≡ length old.machine.parts) (covers : CoversInWords (undo g change) old) (made : Followed)
    (follows : Follows g change old.machine old.marks made) where
  -- there is a mark for each part
  marks_counted : length made.agenda ≡ length made.machine.parts
  marks_counted = follows.adds.count (omega (arith, counted, follows.edits.count))

  keeps_marking : KeepsMarking old.machine made.machine old.marks made.agenda
  keeps_marking = record {
    stays = follows.adds.stays;
    later = λ k from inside. follows.adds.later k (omega (arith, from, counted)) (omega (arith, inside, marks_counted));
  }

  -- so it is a machine of columns with the words that grew
  pub IsWordMachine-followed : (columns used : ℕ) (hi lo new_hi new_lo : List ℕ) (room : Rooms) → IsWordMachine columns used old.machine old.marks hi lo room →
      length new_hi ≡ length hi + (nodes g - length hi) → GrowsWords g columns hi lo new_hi new_lo →
      IsWordMachine columns used made.machine made.agenda new_hi new_lo (rooms made.workspace)
  IsWordMachine-followed columns used hi lo new_hi new_lo room is long grows = record {
    few = is.few;
    used_are = is.used_are;
    nodes = omega (arith, long, is.nodes, covers.plain.counted, few_before g change, follows.edits.covers.counted);
    runs = follows.runs;
    columns_are = grows.columns_are;
  }

  -- and each column covers the graph
  pub EditsWords-followed : (new : WordData) → new.columns ≡ old.columns → new.machine ≡ made.machine → new.marks ≡ made.agenda →
      ((column : ℕ) → column < old.columns → column_of new column ≡ with_new_nodes (column_of old column) (nodes g)) → EditsWords g change old new
  EditsWords-followed new columns machine marks each =
      let edits = subst (Edits g change old.machine) (sym machine) follows.edits in
      let without = edits_without g change old.machine new.machine edits covers.without in
      let keeps = subst (λ (m : MachineData). KeepsMarking old.machine m old.marks new.marks) (sym machine)
      (subst (KeepsMarking old.machine made.machine old.marks) (sym marks) keeps_marking) in
      record {
        covers = record {
          plain = edits.covers;
          sound = subst IsSound (sym edits.state) (IsSound-grown old.machine.state (nodes g) covers.sound);
          without = without;
          untold = edits_add_no_texts g change old.machine new.machine edits covers.untold;
          fit = follows.fit;
          each = λ column inside.
              let was : column < old.columns = subst (λ n. column < n) columns inside in
              subst (λ (state : List Tern). Covers g (in_column new.machine new.marks state)) (sym (each column was))
              (edits_keep_columns g change old.machine new.machine old.marks new.marks (column_of old column) wired_before wired covers.plain
              (covers.each column was) edits without keeps);
        };
        machine = edits;
        columns = columns;
        each = each;
      }

-- ---- room

-- with more room columns cover and fit what they did
pub CoversInWords-roomed : (g : GraphData) (old new : WordData) → KeepsButRoom old new → CoversInWords g old → CoversInWords g new
CoversInWords-roomed g old new keeps covers =
    let spare = new.machine.spare in
    record {
      plain = subst (Covers g) (sym keeps.machine) (covers_roomed g old.machine spare covers.plain);
      sound = subst (λ (m : MachineData). IsSound m.state) (sym keeps.machine) covers.sound;
      without = ap (λ (m : MachineData). m.wide) keeps.machine ∙ covers.without;
      untold = subst HasNoTexts (sym keeps.machine) covers.untold;
      fit = covers.fit;
      each = λ column inside.
          let was = covers.each column (subst (λ n. column < n) keeps.columns inside) in
          subst (λ (m : MachineData). Covers g (in_column m new.marks (column_of new column))) (sym keeps.machine)
          (subst (λ (marks : List Bool). Covers g (in_column (record old.machine { spare = spare }) marks (column_of new column))) (sym keeps.marks)
          (subst (λ (hi : List ℕ). Covers g
          (in_column (record old.machine { spare = spare }) old.marks (column_states column hi new.lo))) (sym keeps.highs)
          (subst (λ (lo : List ℕ). Covers g
          (in_column (record old.machine { spare = spare }) old.marks (column_states column old.hi lo))) (sym keeps.lows)
          (covers_roomed g (machine_of old column) spare was))));
    }

-- a machine with more room is one of columns
pub IsWordMachine-roomed : (columns used : ℕ) (old new : MachineData) (marks : List Bool) (hi lo : List ℕ) (room : Rooms) → new ≡ record old { spare = new.spare } →
    IsWordMachine columns used old marks hi lo room → IsWordMachine columns used new marks hi lo room
IsWordMachine-roomed columns used old new marks hi lo room same is =
    subst (λ (m : MachineData). IsWordMachine columns used m marks hi lo room) (sym same) (record {
      few = is.few;
      used_are = is.used_are;
      nodes = is.nodes;
      runs = is.runs;
      columns_are = is.columns_are;
    })

-- ---- a finish

-- sums over lists that are worth no more place by place
sums_below : (f : MachinePart → ℕ) (xs ys : List MachinePart) → length ys ≡ length xs →
    ((k : ℕ) (x y : MachinePart) → slice_get xs k ≡ Some x → slice_get ys k ≡ Some y → f y ≤ f x) → sum_by f ys ≤ sum_by f xs
sums_below f [] [] counted below = omega arith
sums_below f [] (y ∷ ys) counted below = absurd (omega (arith, counted))
sums_below f (x ∷ xs) [] counted below = absurd (omega (arith, counted))
sums_below f (x ∷ xs) (y ∷ ys) counted below =
    omega (
      arith,
      sum_by-cons f x xs,
      sum_by-cons f y ys,
      below 0 x y refl refl,
      sums_below f xs ys (omega (arith, counted)) (λ k one two at_one at_two. below (suc k) one two at_one at_two),
    )

-- the parts are as many, and have no more members: there is room for their steps still
pub IsWordMachine-finished : (g : GraphData) (columns used : ℕ) (old new : MachineData) (marks : List Bool) (hi lo : List ℕ) (room : Rooms) (result : Result ℕ BuildFault) →
    OnOk result (Finishes g old new) → OnErr result (new ≡ old) → Covers g old → length old.marks ≡ length old.parts → length new.marks ≡ length new.parts →
    IsWordMachine columns used old marks hi lo room → IsWordMachine columns used new marks hi lo room
IsWordMachine-finished g columns used old new marks hi lo room (Err fault) finishes same covers before after is =
    subst (λ (m : MachineData). IsWordMachine columns used m marks hi lo room) (sym same) is
IsWordMachine-finished g columns used old new marks hi lo room (Ok fresh) finishes same covers before after is =
    let count : length new.parts ≡ length old.parts = sym after ∙ ap length finishes.marks ∙ before in
    let fewer : (k : ℕ) (was part : MachinePart) → Stands old.parts k was → Stands new.parts k part → part.members ≤ was.members =
    finished_members g old new finishes covers in
    let sums = sums_below members_of old.parts new.parts count
    (λ k was part at_was at. fewer k was part (Stands-at old.parts k was at_was) (Stands-at new.parts k part at)) in
    record {
      few = is.few;
      used_are = is.used_are;
      nodes = is.nodes ∙ ap length (sym finishes.state);
      runs = record {
        counted = is.runs.counted ∙ sym count;
        room_for = record {
          outs = λ k d inside.
              let part = slice_index_or new.parts k d in
              let stands : Stands new.parts k part = record { inside = inside; here = get_or_default new.parts k part d inside } in
              let (was, stood) = part_here old.parts k (omega (arith, inside, count)) in
              let room_was : was.members ≤ room.outs =
              subst (λ (one : MachinePart). one.members ≤ room.outs) stood.here (is.runs.room_for.outs k was stood.inside) in
              omega (arith, fewer k was part stood stands, room_was);
          changes = omega (arith, sums, is.runs.room_for.changes);
          parts_room = omega (arith, count, is.runs.room_for.parts_room);
        };
      };
      columns_are = is.columns_are;
    }

-- each column fits the graph then
pub FitsInWords-finished : (g : GraphData) (old new : WordData) (result : Result ℕ BuildFault) → KeepsWords old new → OnOk result (Finishes g old.machine new.machine) →
    OnOk result (old.machine.wide ≡ None → HasNoTexts old.machine → new.machine.wide ≡ None) → CoversInWords g old →
    ((column : ℕ) → column < old.columns → IsSound (column_of old column)) → OnOk result (FitsInWords g new)
FitsInWords-finished g old new (Err fault) keeps finishes then covers sound = tt
FitsInWords-finished g old new (Ok fresh) keeps finishes then covers sound =
    let without = then covers.without covers.untold in
    record {
      plain = finishes.fits;
      without = without;
      last = finishes.last;
      each = λ column inside.
          let was : column < old.columns = subst (λ n. column < n) keeps.columns inside in
          let fit = finishes_keep_columns g old.machine new.machine old.marks (column_of old column) finishes without (covers.each column was) (sound column was) in
          subst (λ (marks : List Bool). FitsGraph g (in_column new.machine marks (column_of new column))) (sym keeps.marks)
          (subst (λ (hi : List ℕ). FitsGraph g (in_column new.machine old.marks (column_states column hi new.lo))) (sym keeps.highs)
          (subst (λ (lo : List ℕ). FitsGraph g (in_column new.machine old.marks (column_states column old.hi lo))) (sym keeps.lows) fit));
    }

-- if no group is too large for a text, none is refused with any bound
HasTexts-any : (large : ℕ) (g : GraphData) (texts : List GroupTextData) → HasTexts 0 g texts → HasTexts large g texts
HasTexts-any large g texts has = record {
  groups = has.groups;
  are = has.are;
  fit = λ k d inside. fits_any large (slice_index_or has.groups k d) (has.fit k d inside);
  texts_are = has.texts_are;
}

pub builds_any : (g : GraphData) (bound : Option ℕ) (old new before after : List GroupTextData) (result : Result ℕ BuildFault) → IfOk result (Builds 0 g bound old new before after) →
    IfOk result (λ count. (large : ℕ) → Builds large g bound old new before after count)
builds_any g bound old new before after (Err fault) builds = tt
builds_any g bound old new before after (Ok count) builds = λ large. record {
  present = builds.present;
  has = HasTexts-any large g builds.present builds.has;
  kept = builds.kept;
  analysed = builds.analysed;
  number = builds.number;
}

pub cut_off_any : (g : GraphData) (old new before after : List GroupTextData) → IsCutOff 0 g old new before after → (large : ℕ) → IsCutOff large g old new before after
cut_off_any g old new before after (inl same) large = inl same
cut_off_any g old new before after (inr some) large = inr (record {
  fresh = some.fresh;
  more = some.more;
  further = some.further;
  rest = some.rest;
  news = record { texts = some.news.texts; has = HasTexts-any large g some.news.texts some.news.has; fresh_are = some.news.fresh_are };
  front = some.front;
  kept = some.kept;
  analysed = some.analysed;
  one = some.one;
})

pub none_refused : (g : GraphData) (old new : KeptData) (before after : List GroupTextData) (result : Result ℕ BuildFault) → AllFit g →
    IfErr result (λ fault. (fault ≡ build.NoMemory) ⊎ (TellsRefused 0 g fault × (new ≡ old) × (after ≡ before))) → IfErr result (λ fault. fault ≡ build.NoMemory)
none_refused g old new before after (Ok count) fit refused = tt
none_refused g old new before after (Err fault) fit (inl lack) = lack
none_refused g old new before after (Err fault) fit (inr (tells, kept, analysed)) =
    let first = tells.first in
    absurd (cc (fit tells.groups tells.are first.k first.group first.stands, first.too_large))
