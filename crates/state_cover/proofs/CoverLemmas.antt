-- What nodes have is noted: of all of them; and of those that a step changed, while the others had it before.
use Rattle.std.proofs.Common.{◌≡◌, ℕ, zero, suc, ◌+◌, ◌-◌, ◌<◌, ◌≤◌, inl, inr, ◌⊎◌, List, [], ◌∷◌, ◌++◌, length, refl, sym, ◌∙◌, ap, arith, subst}
use Rattle.std.specs.Prelude.{slice_index_or, slice_set, replicate, take}
use Rattle.std.proofs.lemmas.Bool.{cases_eq}
use Rattle.std.proofs.lemmas.Bool.{cases_lt}
use Rattle.std.proofs.lemmas.List.{ext_get_or, take_all, get_or-append_right, get_or-replicate, get_or-set_same, get_or-set_other, length-append, length-replicate, length-set}
use Rattle.std.proofs.Math.ListN.{get_or-append}
use Rattle.ternary.specs.declared.tern.Tern.{Tern}
use Rattle.ternary.specs.declared.tern.Tern.TheVariants.{Zero, One, Unk}
use Rattle.ternary.proofs.TernLemmas.{same_or_other}
use Rattle.switch_paths.specs.Switching.{state_at}
use Rattle.settling.specs.Moved.{IsGrown, ListsChanges}
use Rattle.settling.proofs.NumbersLemmas.{shift}
use Rattle.state_cover.specs.declared.had.Had.{Had}
use Rattle.state_cover.specs.Cover.{none_had, had_more, had_after, had_at, Knows, Notes}

pub had_more-twice : (had : Had) (state : Tern) → had_more (had_more had state) state ≡ had_more had state
had_more-twice had Zero = refl
had_more-twice had One = refl
had_more-twice had Unk = refl

-- what a node had, after all have these states: it is noted if it is there
pub had_after-at : (hads : List Had) (states : List Tern) (node : ℕ) → node < length states →
    had_at (had_after hads states) node ≡ had_more (had_at hads node) (state_at states node)
had_after-at hads [] node inside = absurd (omega arith)
had_after-at [] (state ∷ states) zero inside = refl
had_after-at [] (state ∷ states) (suc node) inside = had_after-at [] states node (omega arith)
had_after-at (had ∷ hads) (state ∷ states) zero inside = refl
had_after-at (had ∷ hads) (state ∷ states) (suc node) inside = had_after-at hads states node (omega arith)

-- and it had what it had if it isn't
pub had_after-beyond : (hads : List Had) (states : List Tern) (node : ℕ) → length states ≤ node →
    had_at (had_after hads states) node ≡ had_at hads node
had_after-beyond hads [] node beyond = refl
had_after-beyond hads (state ∷ states) zero beyond = absurd (omega arith)
had_after-beyond [] (state ∷ states) (suc node) beyond = had_after-beyond [] states node (omega arith)
had_after-beyond (had ∷ hads) (state ∷ states) (suc node) beyond = had_after-beyond hads states node (omega arith)

-- there are as many notes as states
pub had_after-count : (hads : List Had) (states : List Tern) → length hads ≤ length states → length (had_after hads states) ≡ length states
had_after-count [] [] few = refl
had_after-count (had ∷ hads) [] few = absurd (omega arith)
had_after-count [] (state ∷ states) few = ap suc (had_after-count [] states (omega arith))
had_after-count (had ∷ hads) (state ∷ states) few = ap suc (had_after-count hads states (omega arith))

-- notes of nothing behind the others make no difference
pub had_after-padded : (hads : List Had) (more : ℕ) (states : List Tern) → length hads + more ≡ length states →
    had_after (hads ++ replicate more none_had) states ≡ had_after hads states
had_after-padded [] zero [] count = refl
had_after-padded [] (suc more) [] count = absurd (omega arith)
had_after-padded (had ∷ hads) more [] count = absurd (omega arith)
had_after-padded [] zero (state ∷ states) count = absurd (omega arith)
had_after-padded [] (suc more) (state ∷ states) count =
    ap (λ hads. had_more none_had state ∷ hads) (had_after-padded [] more states (omega arith))
had_after-padded (had ∷ hads) more (state ∷ states) count =
    ap (λ hads. had_more had state ∷ hads) (had_after-padded hads more states (omega arith))

-- notes that were filled up with such
pub filled : (hads : List Had) (nodes count : ℕ) → count ≡ length hads → length hads ≤ nodes →
    take nodes hads ++ replicate (nodes - count) none_had ≡ hads ++ replicate (nodes - length hads) none_had
filled hads nodes count is few =
    ap (λ front. front ++ replicate (nodes - count) none_had) (take_all nodes hads few) ∙ ap (λ n. hads ++ replicate (nodes - n) none_had) is

-- all states are noted behind them
pub knows_all : (hads : List Had) (states : List Tern) → length hads ≤ length states → Knows (had_after hads states) states
knows_all hads states few = record {
  count = had_after-count hads states few;
  noted = λ node inside.
      let is = had_after-at hads states node inside in
      ap (λ had. had_more had (state_at states node)) is ∙ (had_more-twice (had_at hads node) (state_at states node) ∙ sym is);
}

-- states that are noted make no difference
pub had_after-known : (hads : List Had) (states : List Tern) → Knows hads states → had_after hads states ≡ hads
had_after-known hads states knows =
    let count = had_after-count hads states (omega (arith, knows.count)) in
    ext_get_or none_had (had_after hads states) hads (count ∙ sym knows.count) (λ node inside.
    had_after-at hads states node (omega (arith, inside, count)) ∙ knows.noted node (omega (arith, inside, count)))

-- a node that is X leaves its notes
grown_note : (hads : List Had) (old : List Tern) (more node : ℕ) → length old ≤ node → node < length old + more →
    had_more (had_at (hads ++ replicate more none_had) node) (state_at (old ++ replicate more Unk) node) ≡ had_at (hads ++ replicate more none_had) node
grown_note hads old more node beyond inside =
    let unknown : state_at (old ++ replicate more Unk) node ≡ Unk =
    get_or-append_right old (replicate more Unk) (length old) node Zero refl beyond
    ∙ get_or-replicate more (node - length old) Unk Zero (omega (arith, beyond, inside)) in
    ap (λ state. had_more (had_at (hads ++ replicate more none_had) node) state) unknown

pub knows_grown : (hads : List Had) (old : List Tern) (more : ℕ) → Knows hads old → Knows (hads ++ replicate more none_had) (old ++ replicate more Unk)
knows_grown hads old more knows = record {
  count = length-append hads (replicate more none_had) ∙ ap (λ n. n + length (replicate more none_had)) knows.count
      ∙ ap (λ n. length old + n) (length-replicate more none_had ∙ sym (length-replicate more Unk)) ∙ sym (length-append old (replicate more Unk));
  noted = λ node inside. elim (cases_lt node (length old)) [
    | inl here ↦
        let had = get_or-append hads (replicate more none_had) none_had node (omega (arith, here, knows.count)) in
        let state = get_or-append old (replicate more Unk) Zero node here in
        ap (λ had. had_more had (state_at (old ++ replicate more Unk) node)) had ∙ ap (had_more (had_at hads node)) state
        ∙ knows.noted node here ∙ sym had
    | inr beyond ↦ grown_note hads old more node (omega (arith, beyond))
        (omega (arith, inside, length-append old (replicate more Unk), length-replicate more Unk))
  ];
}

-- so a state that grew is noted, once there is a note of each node
pub grown_after : (hads : List Had) (old new : List Tern) → Knows hads old → IsGrown old new →
    hads ++ replicate (length new - length hads) none_had ≡ had_after hads new
grown_after hads old new knows grown =
    let padded : List Had = hads ++ replicate grown.0 none_had in
    let counted : length new ≡ length old + grown.0 =
    ap length grown.1 ∙ length-append old (replicate grown.0 Unk) ∙ ap (λ n. length old + n) (length-replicate grown.0 Unk) in
    let more : length new - length hads ≡ grown.0 = omega (arith, counted, knows.count) in
    let known : Knows padded new = subst (Knows padded) (sym grown.1) (knows_grown hads old grown.0 knows) in
    ap (λ n. hads ++ replicate n none_had) more ∙ sym (had_after-known padded new known)
    ∙ had_after-padded hads grown.0 new (omega (arith, counted, knows.count))

pub grown_known : (hads : List Had) (old new : List Tern) → Knows hads old → IsGrown old new →
    Knows (hads ++ replicate (length new - length hads) none_had) new
grown_known hads old new knows grown =
    let counted : length new ≡ length old + grown.0 =
    ap length grown.1 ∙ length-append old (replicate grown.0 Unk) ∙ ap (λ n. length old + n) (length-replicate grown.0 Unk) in
    let more : length new - length hads ≡ grown.0 = omega (arith, counted, knows.count) in
    subst (λ (n : ℕ). Knows (hads ++ replicate n none_had) new) (sym more)
    (subst (Knows (hads ++ replicate grown.0 none_had)) (sym grown.1) (knows_grown hads old grown.0 knows))

-- the first of all nodes are noted, and the others have their notes still
pub record FirstNoted (states : List Tern) (before now : List Had) (at : ℕ) : Type 0 where
  pub count : length now ≡ length before
  pub noted : (node : ℕ) → node < at → had_at now node ≡ had_more (had_at before node) (state_at states node)
  pub stays : (node : ℕ) → at ≤ node → had_at now node ≡ had_at before node

pub noted-none : (states : List Tern) (before : List Had) → FirstNoted states before before 0
noted-none states before = record { count = refl; noted = λ node below. absurd (omega (arith, below)); stays = λ node above. refl }

pub noted-more : (states : List Tern) (before mid : List Had) (at : ℕ) → at < length before → FirstNoted states before mid at →
    FirstNoted states before (slice_set mid at (had_more (had_at mid at) (state_at states at))) (at + 1)
noted-more states before mid at inside first =
    let new = had_more (had_at mid at) (state_at states at) in
    record {
      count = length-set mid at new ∙ first.count;
      noted = λ node below. elim (cases_eq node at) [
        | inl same ↦ subst (λ n. had_at (slice_set mid at new) n ≡ had_more (had_at before n) (state_at states n)) (sym same)
            (get_or-set_same mid at new none_had (omega (arith, inside, first.count))
            ∙ ap (λ had. had_more had (state_at states at)) (first.stays at (omega arith)))
        | inr differs ↦ get_or-set_other mid at node new none_had differs ∙ first.noted node (omega (arith, below, differs))
      ];
      stays = λ node above. get_or-set_other mid at node new none_had (λ same. absurd (omega (arith, same, above)))
          ∙ first.stays node (omega (arith, above));
    }

pub noted-all : (states : List Tern) (before now : List Had) → length before ≡ length states →
    FirstNoted states before now (length states) → now ≡ had_after before states
noted-all states before now same first =
    ext_get_or none_had now (had_after before states) (omega (arith, first.count, same, had_after-count before states (omega (arith, same))))
    (λ node inside.
    let within : node < length states = omega (arith, inside, first.count, same) in
    first.noted node within ∙ sym (had_after-at before states node within))

-- the first of the listed nodes are noted, and no other note changed but by its node's state
pub record SoFar (nodes : List ℕ) (states : List Tern) (before now : List Had) (at : ℕ) : Type 0 where
  pub count : length now ≡ length before
  pub either : (node : ℕ) → (had_at now node ≡ had_at before node)
      ⊎ (had_at now node ≡ had_more (had_at before node) (state_at states node))
  pub noted : (node k : ℕ) → k < at → slice_index_or nodes k 0 ≡ node →
      had_at now node ≡ had_more (had_at before node) (state_at states node)

pub so_far-none : (nodes : List ℕ) (states : List Tern) (before : List Had) → SoFar nodes states before before 0
so_far-none nodes states before = record {
  count = refl;
  either = λ node. inl refl;
  noted = λ node k below is. absurd (omega (arith, below));
}

module _ (nodes : List ℕ) (states : List Tern) (before mid now : List Had) (at node : ℕ) (is : slice_index_or nodes at 0 ≡ node)
    (so_far : SoFar nodes states before mid at) (notes : Notes node states mid now) where
  own : had_at now node ≡ had_more (had_at before node) (state_at states node)
  own = elim (so_far.either node) [
    | inl same ↦ notes.noted ∙ ap (λ had. had_more had (state_at states node)) same
    | inr more ↦ notes.noted ∙ (ap (λ had. had_more had (state_at states node)) more
        ∙ had_more-twice (had_at before node) (state_at states node))
  ]

  own_at : (other : ℕ) → other ≡ node → had_at now other ≡ had_more (had_at before other) (state_at states other)
  own_at other same =
      subst (λ n. had_at now n ≡ had_more (had_at before n) (state_at states n)) (sym same) own

  pub so_far-more : SoFar nodes states before now (at + 1)
  so_far-more = record {
    count = notes.count ∙ so_far.count;
    either = λ other. elim (cases_eq other node) [
      | inl same ↦ inr (own_at other same)
      | inr differs ↦ elim (so_far.either other) [
        | inl kept ↦ inl (notes.stays other differs ∙ kept)
        | inr more ↦ inr (notes.stays other differs ∙ more)
      ]
    ];
    noted = λ other k below there. elim (cases_eq other node) [
      | inl same ↦ own_at other same
      | inr differs ↦ elim (cases_eq k at) [
        | inl last ↦ absurd (differs (sym there ∙ (ap (λ n. slice_index_or nodes n 0) last ∙ is)))
        | inr earlier ↦ notes.stays other differs ∙ so_far.noted other k (omega (arith, below, earlier)) there
      ]
    ];
  }

-- at the end all is noted
module _ (nodes : List ℕ) (old states : List Tern) (before now : List Had) (lists : ListsChanges nodes old states) (knows : Knows before old)
    (so_far : SoFar nodes states before now (length nodes)) where
  all_noted : (node : ℕ) → node < length before →
      had_at now node ≡ had_more (had_at before node) (state_at states node)
  all_noted node inside = elim (so_far.either node) [
    | inr more ↦ more
    | inl kept ↦ elim (same_or_other (state_at states node) (state_at old node)) [
      | inl same ↦ kept ∙ (sym (knows.noted node (omega (arith, inside, knows.count))) ∙ ap (had_more (had_at before node)) (sym same))
      | inr differs ↦
          let (k, within, here) = lists.each node (omega (arith, inside, knows.count)) differs in
          so_far.noted node k within (shift nodes k node within ∙ here)
    ]
  ]

  pub is_after : now ≡ had_after before states
  is_after = ext_get_or none_had now (had_after before states) (omega (arith, so_far.count, knows.count, lists.count, had_after-count before states (omega (arith, knows.count, lists.count)))) (λ node inside.
      let within : node < length before = omega (arith, inside, so_far.count) in
      all_noted node within ∙ sym (had_after-at before states node (omega (arith, within, knows.count, lists.count))))

  pub knows_after : Knows now states
  knows_after = record {
    count = omega (arith, so_far.count, knows.count, lists.count);
    noted = λ node inside.
        let within : node < length before = omega (arith, inside, knows.count, lists.count) in
        let is = all_noted node within in
        ap (λ had. had_more had (state_at states node)) is ∙ (had_more-twice (had_at before node) (state_at states node) ∙ sym is);
  }
