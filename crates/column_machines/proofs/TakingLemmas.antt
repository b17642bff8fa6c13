-- The changes of a step are taken over one by one.
use Rattle.std.proofs.Common.{◌≡◌, Option, Some, None, ℕ, ◌+◌, ◌<◌, ◌⊎◌, Bool, true, false, ◌&&◌, ◌||◌, inl, inr, List, [], ◌∷◌, ◌++◌, length, take, get_or, refl, sym, ap, subst, ◌∙◌, arith}
use Rattle.std.specs.Prelude.{◌↔◌, Contains, slice_index, slice_set, bit_or}
use Rattle.std.proofs.lemmas.Bool.{cases_eq}
use Rattle.std.proofs.lemmas.List.{get_or-set_same, get_or-set_other, length-set, take_more}
use Rattle.std.proofs.lemmas.List.Elements.{Contains-push, Contains-push_cases, Contains-append_left}
use Rattle.word_columns.specs.Columns.{is_in_column}
use Rattle.word_columns.proofs.ColumnLemmas.{column-or}
use Rattle.machine_parts.specs.declared.part.MachinePart.{MachinePart}
use Rattle.machine_parts.specs.Parts.{HasMember, IsStale, ReadsAt}
use Rattle.machine_parts.specs.Marking.{IsMarked, MarksAll}
use Rattle.machine_parts.specs.Stepping.{Concerns}
use Rattle.machine_parts.proofs.SetMarks.{marked-set, marked-stays, marked-set_cases}
use Rattle.column_machines.specs.declared.evaluation.WordChange.{WordChange}
use Rattle.column_machines.specs.Noting.{differs_in}
use Rattle.column_machines.specs.Running.{AreWritten, ReadsAny, StaysOn}

-- one change more is written
AreWritten-push : (done : List WordChange) (change : WordChange) (old_hi old_lo hi lo : List ℕ) → change.node < length hi → change.node < length lo →
    AreWritten done old_hi old_lo hi lo →
    AreWritten (done ++ change ∷ []) old_hi old_lo (slice_set hi change.node change.hi) (slice_set lo change.node change.lo)
AreWritten-push done change old_hi old_lo hi lo high_inside low_inside so_far = record {
  highs = length-set hi change.node change.hi ∙ so_far.highs;
  lows = length-set lo change.node change.lo ∙ so_far.lows;
  each = λ node.
      elim (cases_eq node change.node) [
        | inl same ↦ inl (record {
          change = change;
          there = Contains-push done change;
          of_node = sym same;
          high = ap (λ n. slice_index (slice_set hi change.node change.hi) n) same ∙ get_or-set_same hi change.node change.hi 0 high_inside;
          low = ap (λ n. slice_index (slice_set lo change.node change.lo) n) same ∙ get_or-set_same lo change.node change.lo 0 low_inside;
        })
        | inr differs ↦
            let high = get_or-set_other hi change.node node change.hi 0 differs in
            let low = get_or-set_other lo change.node node change.lo 0 differs in
            elim (so_far.each node) [
              | inl written ↦ inl (record {
                change = written.change;
                there = Contains-append_left done (change ∷ []) written.change written.there;
                of_node = written.of_node;
                high = high ∙ written.high;
                low = low ∙ written.low;
              })
              | inr left ↦ inr (record {
                none = λ other there.
                    elim (Contains-push_cases done change other there) [
                      | inl before ↦ left.none other before
                      | inr same ↦ λ is. differs (sym is ∙ ap (λ (c : WordChange). c.node) (sym same))
                    ];
                high = high ∙ left.high;
                low = low ∙ left.low;
              })
            ]
      ];
}

pub AreWritten-more : (changes : List WordChange) (i : ℕ) (change : WordChange) (old_hi old_lo hi lo : List ℕ) → i < length changes →
    change ≡ get_or changes i change → change.node < length hi → change.node < length lo → AreWritten (take i changes) old_hi old_lo hi lo →
    AreWritten (take (i + 1) changes) old_hi old_lo (slice_set hi change.node change.hi) (slice_set lo change.node change.lo)
AreWritten-more changes i change old_hi old_lo hi lo i_inside is high_inside low_inside so_far =
    let more : take (i + 1) changes ≡ take i changes ++ change ∷ [] =
    take_more changes i change i_inside ∙ ap (λ c. take i changes ++ c ∷ []) (sym is) in
    subst (λ xs. AreWritten xs old_hi old_lo (slice_set hi change.node change.hi) (slice_set lo change.node change.lo)) (sym more)
    (AreWritten-push (take i changes) change old_hi old_lo hi lo high_inside low_inside so_far)

-- nothing was written yet
pub AreWritten-none : (hi lo : List ℕ) → AreWritten [] hi lo hi lo
AreWritten-none hi lo = record {
  highs = refl;
  lows = refl;
  each = λ node. inr (record { none = λ change (k, inside, here). absurd (omega (arith, inside)); high = refl; low = refl });
}

-- ---- the columns that some change changes

-- a bit of two words together is set if one of them has it
or_true : (a b : Bool) → (a || b) ≡ true → (a ≡ true) ⊎ (b ≡ true)
or_true true b set = inl refl
or_true false b set = inr set

or_false : (a b : Bool) → (a || b) ≡ false → (a ≡ false) × (b ≡ false)
or_false false b unset = (refl, unset)
or_false true b unset = absurd (cc)

-- the bits of a word are the columns that some of these changes changes
pub record AreChanged (used : ℕ) (hi lo : List ℕ) (changes : List WordChange) (columns : ℕ) : Type 0 where
  pub set : (column : ℕ) → is_in_column column columns ≡ true →
      (change : WordChange) × Contains changes change
      × (differs_in used (slice_index hi change.node) (slice_index lo change.node) column change ≡ true)
  pub unset : (column : ℕ) → is_in_column column columns ≡ false → (change : WordChange) → Contains changes change →
      differs_in used (slice_index hi change.node) (slice_index lo change.node) column change ≡ false

pub AreChanged-more : (used : ℕ) (hi lo : List ℕ) (changes : List WordChange) (i : ℕ) (change : WordChange) (columns more : ℕ) → i < length changes →
    change ≡ get_or changes i change →
    ((column : ℕ) → is_in_column column more ≡ differs_in used (slice_index hi change.node) (slice_index lo change.node) column change) →
    AreChanged used hi lo (take i changes) columns → AreChanged used hi lo (take (i + 1) changes) (bit_or columns more)
AreChanged-more used hi lo changes i change columns more i_inside is bits so_far =
    let next : take (i + 1) changes ≡ take i changes ++ change ∷ [] =
    take_more changes i change i_inside ∙ ap (λ c. take i changes ++ c ∷ []) (sym is) in
    subst (λ xs. AreChanged used hi lo xs (bit_or columns more)) (sym next) (record {
      set = λ column set.
          elim (or_true (is_in_column column columns) (is_in_column column more) (sym (column-or column columns more) ∙ set)) [
            | inl before ↦
                let (other, there, differs) = so_far.set column before in
                (other, Contains-append_left (take i changes) (change ∷ []) other there, differs)
            | inr now ↦ (change, Contains-push (take i changes) change, sym (bits column) ∙ now)
          ];
      unset = λ column unset other there.
          let both = or_false (is_in_column column columns) (is_in_column column more) (sym (column-or column columns more) ∙ unset) in
          elim (Contains-push_cases (take i changes) change other there) [
            | inl before ↦ so_far.unset column both.0 other before
            | inr same ↦
                subst (λ (c : WordChange). differs_in used (slice_index hi c.node) (slice_index lo c.node) column c ≡ false) same (sym (bits column) ∙ both.1)
          ];
    })

-- no bit is set beyond the used columns
pub not_beyond : (used : ℕ) (hi lo : List ℕ) (changes : List WordChange) (columns : ℕ) → AreChanged used hi lo changes columns → (column : ℕ) →
    is_in_column column used ≡ false → is_in_column column columns ≡ false
not_beyond used hi lo changes columns are column unused =
    elim (true_or_false (is_in_column column columns)) [
      | inl set ↦
          let (change, there, differs) = are.set column set in
          absurd (cc (and_unused _ (is_in_column column used) unused, differs))
      | inr unset ↦ unset
    ]
  where
    true_or_false : (b : Bool) → (b ≡ true) ⊎ (b ≡ false)
    true_or_false true = inl refl
    true_or_false false = inr refl

    and_unused : (x u : Bool) → u ≡ false → (x && u) ≡ false
    and_unused true true unused = absurd (cc)
    and_unused true false unused = refl
    and_unused false u unused = refl

-- ---- marks of readers

-- the parts that read one node more that changes are marked
pub MarksAll-read : (parts : List MachinePart) (changes : List WordChange) (i : ℕ) (change : WordChange) (readers : List ℕ)
    (old mid new : List Bool) →
    i < length changes → change ≡ get_or changes i change → ((k : ℕ) → Contains readers k ↔ ReadsAt parts k change.node) →
    MarksAll (ReadsAny parts (take i changes)) old mid → MarksAll (Contains readers) mid new → MarksAll (ReadsAny parts (take (i + 1) changes)) old new
MarksAll-read parts changes i change readers old mid new i_inside is reads so_far marks =
    let more : take (i + 1) changes ≡ take i changes ++ change ∷ [] =
    take_more changes i change i_inside ∙ ap (λ c. take i changes ++ c ∷ []) (sym is) in
    subst (λ xs. MarksAll (ReadsAny parts xs) old new) (sym more) (record {
      count = marks.count ∙ so_far.count;
      stays = λ k was. marks.stays k (so_far.stays k was);
      set = λ k any.
          elim (Contains-push_cases (take i changes) change any.change any.changes_it) [
            | inl before ↦ marks.stays k (so_far.set k (record { change = any.change; changes_it = before; reads = any.reads }))
            | inr same ↦ marks.set k ((reads k).1 (subst (λ (c : WordChange). ReadsAt parts k c.node) (sym same) any.reads))
          ];
      only = λ k marked.
          elim (marks.only k marked) [
            | inl before ↦
                elim (so_far.only k before) [
                  | inl was ↦ inl was
                  | inr any ↦ inr (record {
                    change = any.change;
                    changes_it = Contains-append_left (take i changes) (change ∷ []) any.change any.changes_it;
                    reads = any.reads;
                  })
                ]
            | inr there ↦ inr (record { change = change; changes_it = Contains-push (take i changes) change; reads = (reads k).0 there })
          ];
    })

-- the parts that have a node as a member, and those that read it, are marked, and no others
pub MarksAll-concerned : (parts : List MachinePart) (node : ℕ) (owner : Option ℕ) (readers : List ℕ) (old mid new : List Bool) →
    ((k : ℕ) → (owner ≡ Some k) ↔ HasMember parts k node) → ((k : ℕ) → Contains readers k ↔ ReadsAt parts k node) →
    MarksAll (λ k. owner ≡ Some k) old mid → MarksAll (Contains readers) mid new → MarksAll (λ k. Concerns parts k node) old new
MarksAll-concerned parts node owner readers old mid new owns reads one two = record {
  count = two.count ∙ one.count;
  stays = λ k was. two.stays k (one.stays k was);
  set = λ k concerned.
      elim concerned [
        | inl has ↦ two.stays k (one.set k ((owns k).1 has))
        | inr read ↦ two.set k ((reads k).1 read)
      ];
  only = λ k marked.
      elim (two.only k marked) [
        | inl before ↦
            elim (one.only k before) [
              | inl was ↦ inl was
              | inr is ↦ inr (inl ((owns k).0 is))
            ]
        | inr there ↦ inr (inr ((reads k).0 there))
      ];
}

-- the owner is marked, if there is one
pub MarksAll-one : (owner : Option ℕ) (k : ℕ) (old : List Bool) → owner ≡ Some k → k < length old → MarksAll (λ l. owner ≡ Some l) old (slice_set old k true)
MarksAll-one owner k old is inside = record {
  count = length-set old k true;
  stays = λ l was. marked-stays old k l was;
  set = λ l owned.
      let both : Some k ≡ Some l = sym is ∙ owned in
      let same : k ≡ l = cc in
      subst (IsMarked (slice_set old k true)) same (marked-set old k inside);
  only = λ l marked.
      elim (marked-set_cases old k l marked) [
        | inl before ↦ inl before
        | inr same ↦ inr (is ∙ ap Some (sym same))
      ];
}

pub MarksAll-no : (owner : Option ℕ) (old : List Bool) → owner ≡ None → MarksAll (λ l. owner ≡ Some l) old old
MarksAll-no owner old none = record {
  count = refl;
  stays = λ l was. was;
  set = λ l is. absurd (cc (none, is));
  only = λ l marked. inl marked;
}

-- ---- marks that stay

-- a part is marked, if it stays so
pub MarksAll-if : (stays : Bool) (k : ℕ) (old : List Bool) → stays ≡ true → k < length old →
    MarksAll (λ l. (stays ≡ true) × (k ≡ l)) old (slice_set old k true)
MarksAll-if stays k old is inside = record {
  count = length-set old k true;
  stays = λ l was. marked-stays old k l was;
  set = λ l both. subst (IsMarked (slice_set old k true)) both.1 (marked-set old k inside);
  only = λ l marked.
      elim (marked-set_cases old k l marked) [
        | inl before ↦ inl before
        | inr same ↦ inr (is, sym same)
      ];
}

pub MarksAll-unless : (stays : Bool) (k : ℕ) (old : List Bool) → stays ≡ false → MarksAll (λ l. (stays ≡ true) × (k ≡ l)) old old
MarksAll-unless stays k old unset = record {
  count = refl;
  stays = λ l was. was;
  set = λ l both. absurd (cc (unset, both.0));
  only = λ l marked. inl marked;
}

-- one part more is marked that stays so
pub MarksAll-on : (joining : Bool) (parts : List MachinePart) (done : List ℕ) (i k : ℕ) (stays : Bool) (old mid new : List Bool) → i < length done →
    k ≡ get_or done i 0 → ((stays ≡ true) ↔ ((joining ≡ true) ⊎ IsStale parts k)) → MarksAll (StaysOn joining parts (take i done)) old mid →
    MarksAll (λ l. (stays ≡ true) × (k ≡ l)) mid new → MarksAll (StaysOn joining parts (take (i + 1) done)) old new
MarksAll-on joining parts done i k stays old mid new inside is which so_far marks =
    let more : take (i + 1) done ≡ take i done ++ k ∷ [] = take_more done i 0 inside ∙ ap (λ (x : ℕ). take i done ++ x ∷ []) (sym is) in
    subst (λ xs. MarksAll (StaysOn joining parts xs) old new) (sym more) (record {
      count = marks.count ∙ so_far.count;
      stays = λ l was. marks.stays l (so_far.stays l was);
      set = λ l stays_so.
          elim (Contains-push_cases (take i done) k l stays_so.0) [
            | inl before ↦ marks.stays l (so_far.set l (before, stays_so.1))
            | inr same ↦ marks.set l (which.1 (subst (λ n. (joining ≡ true) ⊎ IsStale parts n) (sym same) stays_so.1), same)
          ];
      only = λ l marked.
          elim (marks.only l marked) [
            | inl before ↦
                elim (so_far.only l before) [
                  | inl was ↦ inl was
                  | inr stays_so ↦ inr (Contains-append_left (take i done) (k ∷ []) l stays_so.0, stays_so.1)
                ]
            | inr both ↦ inr (
              subst (Contains (take i done ++ k ∷ [])) both.1 (Contains-push (take i done) k),
              subst (λ n. (joining ≡ true) ⊎ IsStale parts n) both.1 (which.0 both.0),
            )
          ];
    })
