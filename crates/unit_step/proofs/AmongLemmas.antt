-- Marks of parts that are among some, and a node that is placed so.
use Rattle.std.proofs.Common.{◌≡◌, ℕ, ◌+◌, ◌<◌, inl, inr, ◌⊎◌, Bool, true, List, [], ◌∷◌, ◌++◌, length, take, get_or, None, Some, refl, sym, ap, subst, ◌∙◌}
use Rattle.std.specs.Prelude.{Contains, Option, slice_index_or, slice_set}
use Rattle.std.proofs.lemmas.List.{length-set, take_more}
use Rattle.std.proofs.lemmas.List.Elements.{Contains-append_left, Contains-push, Contains-push_cases}
use Rattle.smallvec.specs.SmallVec.{SmallVec}
use Rattle.ternary.specs.declared.tern.Tern.{Tern}
use Rattle.machine_parts.specs.Evaluating.{Rooms}
use Rattle.machine_parts.specs.Marking.{IsMarked, MarksAll}
use Rattle.machine_parts.specs.Readers.{readers_of}
use Rattle.machine_parts.specs.Running.{IsMachine}
use Rattle.machine_parts.proofs.SetMarks.{marked-set, marked-stays, marked-set_cases}
use Rattle.vicinity.specs.Wides.{WideData}
use Rattle.wide_groups.specs.Moving.{PlacesIn}
use Rattle.machine_laws.specs.Machines.{MachineData}
use Rattle.unit_step.specs.Among.{PlacesAmong}

-- none of these parts is there
pub MarksAll-nobody : (These : ℕ → Type 0) (marks : List Bool) → ((k : ℕ) → ¬ These k) → MarksAll These marks marks
MarksAll-nobody These marks none = record { count = refl; stays = λ k was. was; set = λ k this. absurd (none k this); only = λ k is. inl is }

-- some parts and then others
MarksAll-then : (These Those : ℕ → Type 0) (a b c : List Bool) → MarksAll These a b → MarksAll Those b c → MarksAll (λ k. These k ⊎ Those k) a c
MarksAll-then These Those a b c first then = record {
  count = then.count ∙ first.count;
  stays = λ k was. then.stays k (first.stays k was);
  set = λ k this. elim this [ inl one ↦ then.stays k (first.set k one) | inr two ↦ then.set k two ];
  only = λ k is. elim (then.only k is) [
    | inl before ↦ elim (first.only k before) [ inl was ↦ inl was | inr one ↦ inr (inl one) ]
    | inr two ↦ inr (inr two)
  ];
}

-- the same parts, said otherwise
pub MarksAll-as : (These Those : ℕ → Type 0) (a b : List Bool) → ((k : ℕ) → These k → Those k) → ((k : ℕ) → Those k → These k) → MarksAll These a b →
    MarksAll Those a b
MarksAll-as These Those a b to from marks = record {
  count = marks.count;
  stays = marks.stays;
  set = λ k this. marks.set k (from k this);
  only = λ k is. elim (marks.only k is) [ inl was ↦ inl was | inr this ↦ inr (to k this) ];
}

-- a part that is among these
pub one_marked : (k : ℕ) (among marks : List Bool) → k < length marks → IsMarked among k →
    MarksAll (λ j. (j ≡ k) × IsMarked among j) marks (slice_set marks k true)
one_marked k among marks inside there = record {
  count = length-set marks k true;
  stays = λ j was. marked-stays marks k j was;
  set = λ j (same, is). subst (IsMarked (slice_set marks k true)) (sym same) (marked-set marks k inside);
  only = λ j marked. elim (marked-set_cases marks k j marked) [ inl was ↦ inl was | inr same ↦ inr (same, subst (IsMarked among) (sym same) there) ];
}

-- one part of a list more
pub MarksAll-next : (parts : List ℕ) (i k : ℕ) (among a b c : List Bool) → i < length parts → k ≡ get_or parts i 0 →
    MarksAll (λ j. Contains (take i parts) j × IsMarked among j) a b → MarksAll (λ j. (j ≡ k) × IsMarked among j) b c →
    MarksAll (λ j. Contains (take (i + 1) parts) j × IsMarked among j) a c
MarksAll-next parts i k among a b c inside is first then =
    let more : take (i + 1) parts ≡ take i parts ++ k ∷ [] = take_more parts i 0 inside ∙ ap (λ x. take i parts ++ x ∷ []) (sym is) in
    MarksAll-as (λ j. (Contains (take i parts) j × IsMarked among j) ⊎ ((j ≡ k) × IsMarked among j)) (λ j. Contains (take (i + 1) parts) j × IsMarked among j) a c
    (λ j this. elim this [
      | inl (there, marked) ↦ (subst (λ xs. Contains xs j) (sym more) (Contains-append_left (take i parts) (k ∷ []) j there), marked)
      | inr (same, marked) ↦
          (subst (λ xs. Contains xs j) (sym more) (subst (Contains (take i parts ++ k ∷ [])) (sym same) (Contains-push (take i parts) k)), marked)
    ])
    (λ j (there, marked). elim (Contains-push_cases (take i parts) k j (subst (λ xs. Contains xs j) more there)) [
      | inl before ↦ inl (before, marked)
      | inr same ↦ inr (sym same, marked)
    ])
    (MarksAll-then (λ j. Contains (take i parts) j × IsMarked among j) (λ j. (j ≡ k) × IsMarked among j) a b c first then)

-- a node is placed, and of these parts its owner and its readers are marked
pub PlacesAmong-marked : (node : ℕ) (value : Tern) (among : List Bool) (old : MachineData) (waiting : List Bool) (lists : List (SmallVec ℕ))
    (owners numbers : List (Option ℕ)) (held most : ℕ) (room : Rooms) → IsMachine old.parts old.marks waiting (length old.state) lists owners numbers held most room →
    (owner : Option ℕ) → owner ≡ slice_index_or owners node None → (mid new : List Bool) → MarksAll (λ k. (owner ≡ Some k) × IsMarked among k) old.marks mid →
    (read : List ℕ) → read ≡ readers_of lists node → MarksAll (λ k. Contains read k × IsMarked among k) mid new → (wide : Option WideData) →
    PlacesIn node old.wide wide old.state (slice_set old.state node value) →
    PlacesAmong node value among old (record old { marks = new; state = slice_set old.state node value; wide = wide })
PlacesAmong-marked node value among old waiting lists owners numbers held most room machine owner owner_is mid new first read read_is second wide placed = record {
  state = refl;
  count = second.count ∙ first.count;
  stays = λ k was. second.stays k (first.stays k was);
  concerns = λ k concerns is. elim concerns [
    | inl has ↦ second.stays k (first.set k (owner_is ∙ machine.own.owner node k has, is))
    | inr reads ↦ second.set k (subst (λ xs. Contains xs k) (sym read_is) (machine.runs.readers node k reads), is)
  ];
  only = λ k marked. elim (second.only k marked) [
    | inr (there, is) ↦ inr (inr (machine.runs.reads node k (subst (λ xs. Contains xs k) read_is there)), is)
    | inl before ↦ elim (first.only k before) [
      | inl was ↦ inl was
      | inr (own, is) ↦ inr (inl (machine.own.member node k (sym owner_is ∙ own)), is)
    ]
  ];
  wide = placed;
  build = record { groups = refl; last = refl; spare = refl };
  held = record { parts = refl; uses = refl; texts = refl };
  moves = refl;
  placed = refl;
}
