-- The noted nodes are sorted, each stands once, and the text of one more of them goes to the front, unless a part has it.
use Rattle.std.proofs.Common.{◌≡◌, ℕ, ◌+◌, ◌-◌, ◌<◌, List, [], Option, None, nat_eq, length, filter, drop, get_or, refl, sym, ap, subst, ◌∙◌, arith}
use Rattle.std.specs.Prelude.{Contains, slice_index_or, vec_len}
use Rattle.std.specs.List.{dedup}
use Rattle.std.specs.List.Sorted.{IsPermutation}
use Rattle.std.proofs.lemmas.Bool.{eqb-true}
use Rattle.std.proofs.lemmas.List.{drop_all, get_or_default, nil_from_length}
use Rattle.std.proofs.lemmas.List.Elements.{All-contains}
use Rattle.std.proofs.lemmas.List.Filters.{dedup_is}
use Rattle.std.proofs.lemmas.List.Kept.{Contains-dedup_nat, Contains-from_dedup}
use Rattle.std.proofs.lemmas.List.Sorted.{Contains-permutation, IsPermutation-sym}
use Rattle.std.proofs.lemmas.Map.Keys.{IsStrictlyIncreasing-dedup}
use Rattle.analysis_cache.specs.Keeping.{texts_of}
use Rattle.group_analysis.specs.Using.{used_texts}
use Rattle.analysis_cache.proofs.OrderLemmas.{used_texts-none}
use Rattle.unit_step.specs.LastTexts.{is_unused, text_in, texts_left}
use Rattle.unit_step.proofs.LastTextsLemmas.{AreLastTexts-reordered, if_some_each}
use Rattle.unit_step.proofs.UsedInTurn.{used-left, numbered-kept}
use Rattle.unit_step.proofs.last_texts.LastTexts.use_leavers.Goals.{After-index, After-index-in-loop-place}
use Rattle.unit_step.proofs.last_texts.LastTexts.use_leavers.Goals as goal

-- if no node is noted, no text is used
pub returns-then-is_empty-clause-uses : goal.returns-then-is_empty-clause-uses
returns-then-is_empty-clause-uses c =
    let empty : vec_len c.args.self.now.changed ≡ 0 = eqb-true (vec_len c.args.self.now.changed) 0 (sym c.is_empty.ensures ∙ c.if-is_empty.true) in
    let none : c.args.self.now.changed.items ≡ [] = nil_from_length c.args.self.now.changed.items (omega (arith, empty, c.args.self.now.changed.ok.0)) in
    record {
      leavers = [];
      are = record {
        places = [];
        ascending = λ k inside. absurd (omega (arith, inside));
        these = λ node there. subst (λ xs. Contains xs node) none there;
        only = λ node there. subst (λ xs. Contains xs node) (sym none) there;
        are = refl;
      };
      used = sym (used_texts-none (texts_of c.args.kept.now));
    }

pub loop-place-init : goal.loop-place-init
loop-place-init c =
    let places = c.dedup.new.self.items in
    let kept = texts_of c.args.kept.now in
    let none : drop c.len-place.result places ≡ [] = drop_all c.len-place.result places (omega (arith, c.dedup.new.self.ok.0)) in
    record {
      inside = omega (arith, c.dedup.new.self.ok.0);
      texts = sym (ap (λ rest. used_texts (texts_left c.args.uses.now c.args.self.now.numbers.items rest) kept) none ∙ used_texts-none kept);
      set = refl;
      bound = refl;
    }

-- sorted nodes, each of which stands once, are the nodes that were noted
noted_was : (old sorted new : List ℕ) → IsPermutation old sorted → new ≡ dedup nat_eq sorted → (node : ℕ) → Contains new node → Contains old node
noted_was old sorted new moved is node there =
    Contains-permutation sorted old node (IsPermutation-sym old sorted moved) (Contains-from_dedup _ _ node (subst (λ xs. Contains xs node) is there))

noted_is : (old sorted new : List ℕ) → IsPermutation old sorted → new ≡ dedup nat_eq sorted → (node : ℕ) → Contains old node → Contains new node
noted_is old sorted new moved is node there =
    subst (λ xs. Contains xs node) (sym is) (Contains-dedup_nat sorted node (Contains-permutation old sorted node moved there))

-- the next node was noted, so it has a place for a number
next_inside : (c : After-index) → c.loop-place.place - 1 < length c.dedup.new.self.items
next_inside c = omega (arith, c.loop-place.invariant.inside, c.loop-place-test.true)

next_within : (c : After-index) → c.index.result.now < length c.args.self.now.numbers.items
next_within c =
    let places = c.dedup.new.self.items in
    let was = noted_was _ _ places c.sort_unstable.ensures.permutation (dedup_is _ _ _ c.dedup.ensures.filtered) c.index.result.now
    (c.loop-place.place - 1, next_inside c, sym c.index.ensures) in
    All-contains (λ n. n < length c.args.self.now.numbers.items) _ c.index.result.now c.requires.last_texts.within was

pub index-requires-in-loop-place : goal.index-requires-in-loop-place
index-requires-in-loop-place c = omega (arith, next_within (goal.at.index-requires-in-loop-place c).After-index, c.args.self.now.numbers.ok.0)

-- the number that was read at a node is that which stands there
number_read : (numbers : List (Option ℕ)) (places : List ℕ) (place node : ℕ) (number : Option ℕ) → place < length places → node < length numbers →
    node ≡ slice_index_or places place node → number ≡ slice_index_or numbers node number →
    (slice_index_or numbers node None ≡ number) × (number ≡ slice_index_or numbers (get_or places place 0) None)
number_read numbers places place node number inside within node_is number_is =
    let here : slice_index_or numbers node None ≡ number = get_or_default numbers node None number within ∙ sym number_is in
    let same : node ≡ get_or places place 0 = node_is ∙ get_or_default places place node 0 inside in
    (here, sym here ∙ ap (λ n. slice_index_or numbers n None) same)

next_read : (c : After-index-in-loop-place) → c.loop-place.place - 1 < length c.dedup.new.self.items →
    c.index.result.now < length c.args.self.now.numbers.items →
    (slice_index_or c.args.self.now.numbers.items c.index.result.now None ≡ c.index-in-loop-place.result.now)
    × (c.index-in-loop-place.result.now ≡ slice_index_or c.args.self.now.numbers.items (get_or c.dedup.new.self.items (c.loop-place.place - 1) 0) None)
next_read c inside within =
    number_read c.args.self.now.numbers.items c.dedup.new.self.items (c.loop-place.place - 1) c.index.result.now c.index-in-loop-place.result.now inside
    within c.index.ensures c.index-in-loop-place.ensures

pub use_leaver-requires-clause-inside : goal.use_leaver-requires-clause-inside
use_leaver-requires-clause-inside c =
    let at = goal.at.use_leaver-requires-clause-inside c in
    let read = next_read at.After-index-in-loop-place (next_inside at.After-index) (next_within at.After-index) in
    if_some_each c.index-in-loop-place.result.now (λ one. one < length c.args.uses.now.known)
    (λ one one_is. c.requires.last_texts.inside c.index.result.now one (read.0 ∙ one_is))

pub use_leaver-requires-clause-kept : goal.use_leaver-requires-clause-kept
use_leaver-requires-clause-kept c =
    let at = goal.at.use_leaver-requires-clause-kept c in
    let read = next_read at.After-index-in-loop-place (next_inside at.After-index) (next_within at.After-index) in
    numbered-kept c.args.uses.now.known c.args.self.now.numbers.items (texts_of c.args.kept.now) _ (texts_of c.loop-place.kept) c.requires.kept
    c.loop-place.invariant.texts c.index.result.now c.index-in-loop-place.result.now read.0

pub loop-place-preserved : goal.loop-place-preserved
loop-place-preserved c =
    let at = goal.at.loop-place-preserved c in
    let numbers = c.args.self.now.numbers.items in
    let uses = c.args.uses.now in
    let kept = texts_of c.args.kept.now in
    let places = c.dedup.new.self.items in
    let place = c.loop-place.place - 1 in
    let number = c.index-in-loop-place.result.now in
    let inside = next_inside at.After-index in
    let read = next_read at.After-index-in-loop-place inside (next_within at.After-index) in
    let next : c.loop-place.place ≡ place + 1 = omega (arith, c.loop-place-test.true) in
    record {
      inside = omega (arith, inside);
      texts =
          c.use_leaver.ensures.uses
          ∙ (ap (used_texts (filter (is_unused uses) (text_in uses number)))
          (c.loop-place.invariant.texts ∙ ap (λ k. used_texts (texts_left uses numbers (drop k places)) kept) next)
          ∙ used-left uses numbers kept places place number inside read.1);
      set = c.use_leaver.ensures.set ∙ c.loop-place.invariant.set;
      bound = c.use_leaver.ensures.bound ∙ c.loop-place.invariant.bound;
    }

pub returns-clause-last_texts : goal.returns-clause-last_texts
returns-clause-last_texts c =
    let is = dedup_is _ _ _ c.dedup.ensures.filtered in
    AreLastTexts-reordered c.args.parts.now c.args.uses.now.numbers (length c.args.self.now.numbers.items) (length c.args.uses.now.known) c.args.self.now _
    c.requires.last_texts refl (noted_is _ _ c.dedup.new.self.items c.sort_unstable.ensures.permutation is)
    (noted_was _ _ c.dedup.new.self.items c.sort_unstable.ensures.permutation is)

pub returns-clause-uses : goal.returns-clause-uses
returns-clause-uses c =
    let is = dedup_is _ _ _ c.dedup.ensures.filtered in
    let places = c.dedup.new.self.items in
    let numbers = c.args.self.now.numbers.items in
    let kept = texts_of c.args.kept.now in
    let none : c.loop-place.place ≡ 0 = omega (arith, c.loop-place-test.false) in
    record {
      leavers = texts_left c.args.uses.now numbers places;
      are = record {
        places = places;
        ascending = rw is (IsStrictlyIncreasing-dedup _ c.sort_unstable.ensures.sorted);
        these = noted_is _ _ places c.sort_unstable.ensures.permutation is;
        only = noted_was _ _ places c.sort_unstable.ensures.permutation is;
        are = refl;
      };
      used = c.loop-place.invariant.texts ∙ ap (λ k. used_texts (texts_left c.args.uses.now numbers (drop k places)) kept) none;
    }
