-- The changes of a step are taken over one by one, and marks are put back.
use Rattle.std.proofs.Common.{◌≡◌, ℕ, ◌+◌, ◌<◌, Bool, true, false, inl, inr, List, [], ◌∷◌, ◌++◌, length, take, get_or, All, refl, sym, ap, subst, ◌∙◌, true≢false, arith}
use Rattle.std.specs.Prelude.{Contains, slice_set}
use Rattle.std.proofs.lemmas.Bool.{cases_eq, cases_lt}
use Rattle.std.proofs.lemmas.List.{ext_get_or, get_or-set_same, get_or-set_other, get_or_past, length-set, take_more}
use Rattle.std.proofs.lemmas.List.Elements.{All-contains, Contains-push, Contains-push_cases, Contains-append_left}
use Rattle.truth_columns.specs.Columns.{values_in}
use Rattle.truth_columns.proofs.ColumnLemmas.{length-values_in, value_at}
use Rattle.machine_parts.specs.Marking.{IsMarked, MarksAll}
use Rattle.truth_parts.specs.declared.workspace.TruthChange.{TruthChange}
use Rattle.truth_parts.specs.Columns.{rail_in}
use Rattle.truth_parts.specs.Noting.{IsOf}
use Rattle.truth_parts.specs.Evaluating.{AreTaken}
use Rattle.truth_parts.specs.Stepping.{AreWritten, IsAt, StaysAt}

-- one change more is written
AreWritten-push : {A : Type 0} → (done : List (TruthChange A)) (change : TruthChange A) (old_hi old_lo hi lo : List A) → change.node < length hi → change.node < length lo →
    AreWritten done old_hi old_lo hi lo →
    AreWritten (done ++ change ∷ []) old_hi old_lo (slice_set hi change.node change.hi) (slice_set lo change.node change.lo)
AreWritten-push {A} done change old_hi old_lo hi lo high_inside low_inside so_far = record {
  highs = length-set hi change.node change.hi ∙ so_far.highs;
  lows = length-set lo change.node change.lo ∙ so_far.lows;
  each = λ node.
      elim (cases_eq node change.node) [
        | inl same ↦ inl (record {
          change = change;
          there = Contains-push done change;
          of_node = sym same;
          high = λ past. ap (λ n. get_or (slice_set hi change.node change.hi) n past) same ∙ get_or-set_same hi change.node change.hi past high_inside;
          low = λ past. ap (λ n. get_or (slice_set lo change.node change.lo) n past) same ∙ get_or-set_same lo change.node change.lo past low_inside;
        })
        | inr differs ↦
            let high : StaysAt hi (slice_set hi change.node change.hi) node = λ past. get_or-set_other hi change.node node change.hi past differs in
            let low : StaysAt lo (slice_set lo change.node change.lo) node = λ past. get_or-set_other lo change.node node change.lo past differs in
            elim (so_far.each node) [
              | inl written ↦ inl (record {
                change = written.change;
                there = Contains-append_left done (change ∷ []) written.change written.there;
                of_node = written.of_node;
                high = λ past. high past ∙ written.high past;
                low = λ past. low past ∙ written.low past;
              })
              | inr left ↦ inr (record {
                none = λ other there.
                    elim (Contains-push_cases done change other there) [
                      | inl before ↦ left.none other before
                      | inr same ↦ λ is. differs (sym is ∙ ap (λ (c : TruthChange A). c.node) (sym same))
                    ];
                high = λ past. high past ∙ left.high past;
                low = λ past. low past ∙ left.low past;
              })
            ]
      ];
}

pub AreWritten-more : {A : Type 0} → (changes : List (TruthChange A)) (i : ℕ) (change : TruthChange A) (old_hi old_lo hi lo : List A) → i < length changes →
    change ≡ get_or changes i change → change.node < length hi → change.node < length lo → AreWritten (take i changes) old_hi old_lo hi lo →
    AreWritten (take (i + 1) changes) old_hi old_lo (slice_set hi change.node change.hi) (slice_set lo change.node change.lo)
AreWritten-more changes i change old_hi old_lo hi lo i_inside is high_inside low_inside so_far =
    let more : take (i + 1) changes ≡ take i changes ++ change ∷ [] =
    take_more changes i change i_inside ∙ ap (λ c. take i changes ++ c ∷ []) (sym is) in
    subst (λ xs. AreWritten xs old_hi old_lo (slice_set hi change.node change.hi) (slice_set lo change.node change.lo)) (sym more)
    (AreWritten-push (take i changes) change old_hi old_lo hi lo high_inside low_inside so_far)

-- nothing was written yet
pub AreWritten-none : {A : Type 0} → (hi lo : List A) → AreWritten [] hi lo hi lo
AreWritten-none hi lo = record {
  highs = refl;
  lows = refl;
  each = λ node. inr (record { none = λ change (k, inside, here). absurd (omega (arith, inside)); high = λ past. refl; low = λ past. refl });
}

-- all rails are the maker's, if those that are written are
pub All-written : {A : Type 0} → (has : A → Type 0) (changes : List (TruthChange A)) (old_hi old_lo hi lo : List A) → All (IsOf has) changes → All has old_hi → All has old_lo →
    AreWritten changes old_hi old_lo hi lo → All has hi × All has lo
All-written has changes old_hi old_lo hi lo mine highs lows written = (
  λ node past inside.
      elim (written.each node) [
        | inl at ↦ subst has (sym (at.high past)) (All-contains (IsOf has) changes at.change mine at.there).high
        | inr left ↦ subst has (sym (left.high past)) (highs node past (omega (arith, inside, written.highs)))
      ],
  λ node past inside.
      elim (written.each node) [
        | inl at ↦ subst has (sym (at.low past)) (All-contains (IsOf has) changes at.change mine at.there).low
        | inr left ↦ subst has (sym (left.low past)) (lows node past (omega (arith, inside, written.lows)))
      ],
)

-- ---- the rail of a node that has a truth

pub rail-at : {A : Type 0} → (holds : A → ℕ → Bool) (column : ℕ) (truths : List A) (node : ℕ) (truth : A) → node < length truths → IsAt truths node truth →
    rail_in holds column truths node ≡ holds truth column
rail-at holds column truths node truth inside at = value_at holds column truths node truth inside ∙ ap (λ x. holds x column) (at truth)

-- and of one that stays
pub rail-stays : {A : Type 0} → (holds : A → ℕ → Bool) (column : ℕ) (old new : List A) (node : ℕ) → length new ≡ length old → StaysAt old new node →
    rail_in holds column new node ≡ rail_in holds column old node
rail-stays holds column [] [] node same stays = refl
rail-stays holds column [] (y ∷ new) node same stays = absurd (omega (arith, same))
rail-stays holds column (x ∷ old) new node same stays =
    elim (cases_lt node (length (x ∷ old))) [
      | inl inside ↦
          value_at holds column new node x (omega (arith, inside, same)) ∙ ap (λ y. holds y column) (stays x) ∙ sym (value_at holds column (x ∷ old) node x inside)
      | inr past ↦
          get_or_past (values_in holds column new) node false (omega (arith, past, same, length-values_in holds column new))
          ∙ sym (get_or_past (values_in holds column (x ∷ old)) node false (omega (arith, past, length-values_in holds column (x ∷ old))))
    ]

-- ---- marks that are put back

same_mark : (a b : Bool) → (a ≡ true → b ≡ true) → (b ≡ true → a ≡ true) → a ≡ b
same_mark true true one two = refl
same_mark true false one two = absurd (true≢false (sym (one refl)))
same_mark false true one two = absurd (true≢false (sym (two refl)))
same_mark false false one two = refl

-- the parts that were taken are marked again: all marks are those before
pub AreTaken-back : (before marks new : List Bool) (done : List ℕ) → AreTaken before marks done → MarksAll (Contains done) marks new → new ≡ before
AreTaken-back before marks new done taken again =
    ext_get_or false new before (again.count ∙ taken.count)
    (λ k inside. same_mark (get_or new k false) (get_or before k false)
    (λ (now : IsMarked new k).
    elim (again.only k now) [
      | inl still ↦ taken.fewer k still
      | inr there ↦ taken.marked k there
    ])
    (λ (was : IsMarked before k).
    elim (taken.popped k was) [
      | inl still ↦ again.stays k still
      | inr there ↦ again.set k there
    ]))
