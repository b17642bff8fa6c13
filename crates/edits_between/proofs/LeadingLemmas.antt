-- What an edit leaves of a machine, and several edits.
use Rattle.std.proofs.Common.{◌≡◌, ℕ, ◌-◌, ◌≤◌, ◌++◌, inl, inr, ◌⊎◌, Bool, true, false, length, take, replicate, None, Some, refl, sym, ap, subst, ◌∙◌, arith}
use Rattle.std.specs.Prelude.{IfSome, Option}
use Rattle.std.proofs.Math.Seq.{take-length}
use Rattle.std.proofs.lemmas.List.{append-nil, length-set}
use Rattle.ternary.specs.declared.tern.Tern.TheVariants.{Unk}
use Rattle.switch_paths.specs.declared.switching.Switch.{Switch}
use Rattle.switch_paths.specs.Graphs.{GraphData, IsWired, nodes, level_of}
use Rattle.group_meaning.specs.Groups.{Group}
use Rattle.group_rest.specs.Alike.{IsAlike}
use Rattle.channel_groups.specs.declared.change.Change.{Change}
use Rattle.channel_groups.specs.Changes.{undo, with_level, with_place}
use Rattle.machine_laws.specs.Machines.{MachineData}
use Rattle.machine_laws.specs.Fitting.{Covers}
use Rattle.machine_laws.specs.Editing.{Edits, is_touched_in}
use Rattle.machine_laws.proofs.AlikeParts.{alike_groups_keep_their_parts}
use Rattle.machine_laws.proofs.KeptLemmas.{edits_keep_texts, untouched_alike}
use Rattle.edits_between.specs.declared.differing.Differences.{Differences}
use Rattle.edits_between.specs.Leading.{with_level_of, with_place_of, CodedAreAlike, DifferAt, EarlyAreAlike, HasParts, IsAsLarge, Led, LedBy, LedIn, last_in}

-- ---- groups that stand alike

alike_then : (f g h : GraphData) (group : Group) → IsAlike f g group → IsAlike g h group → IsAlike f h group
alike_then f g h group one two = record {
  here = one.here;
  there = two.there;
  places = λ place inside. two.places place inside ∙ one.places place inside;
  levels = λ node member. two.levels node member ∙ one.levels node member;
}

alike_back : (g h : GraphData) (group : Group) → IsAlike g h group → IsAlike h g group
alike_back g h group alike = record {
  here = alike.there;
  there = alike.here;
  places = λ place inside. sym (alike.places place inside);
  levels = λ node member. sym (alike.levels node member);
}

touched_or_not : (b : Bool) → (b ≡ true) ⊎ (b ≡ false)
touched_or_not true = inl refl
touched_or_not false = inr refl

-- ---- one edit

module _ (g : GraphData) (change : Change) (old new : MachineData) (wired_before : IsWired (undo g change)) (wired : IsWired g)
    (covers : Covers (undo g change) old) (edits : Edits g change old new) where
  -- parts that have code are those of groups that the edit didn't touch
  coded_stays : (base : GraphData) → CodedAreAlike base (undo g change) old → CodedAreAlike base g new
  coded_stays base alike k part stands coded group is_part =
      elim (touched_or_not (is_touched_in g change old group)) [
        | inl touched ↦ absurd (coded (edits.stale k part group stands is_part touched))
        | inr untouched ↦
            let here = untouched_alike g change old new wired_before wired covers edits group is_part.is_group untouched in
            let was_part = alike_groups_keep_their_parts g (undo g change) group part wired wired_before (alike_back (undo g change) g group here) is_part in
            alike_then base (undo g change) g group (alike k part (edits.stays k part group stands is_part untouched) coded group was_part) here
      ]

  -- and so are those that were there before
  early_stays : (base : GraphData) (count : ℕ) → count ≤ length old.parts → EarlyAreAlike base count (undo g change) old → EarlyAreAlike base count g new
  early_stays base count most alike k part stands below group is_part =
      elim (touched_or_not (is_touched_in g change old group)) [
        | inl touched ↦ absurd (omega (arith, edits.later k part group stands is_part touched, below, most))
        | inr untouched ↦
            let here = untouched_alike g change old new wired_before wired covers edits group is_part.is_group untouched in
            let was_part = alike_groups_keep_their_parts g (undo g change) group part wired wired_before (alike_back (undo g change) g group here) is_part in
            alike_then base (undo g change) g group (alike k part (edits.stays k part group stands is_part untouched) below group was_part) here
      ]

  -- the states stay, if there is no new node
  state_stays : nodes g ≡ nodes (undo g change) → new.state ≡ old.state
  state_stays same =
      let none : nodes g - length old.state ≡ 0 = omega (arith, same, covers.counted) in
      edits.state ∙ (ap (λ n. old.state ++ replicate n Unk) none ∙ append-nil old.state)

  -- so the machine is led
  pub led_edit : nodes g ≡ nodes (undo g change) → Led (undo g change) g old new
  led_edit same = record {
    covers = edits.covers;
    last = edits.last;
    state = state_stays same;
    known = λ kept known. edits_keep_texts g change kept old new wired_before wired covers edits known;
    alike = coded_stays;
    more = edits.count;
    early = early_stays;
  }

-- ---- several

led_none : (g : GraphData) (m : MachineData) → Covers g m → Led g g m m
led_none g m covers = record {
  covers = covers;
  last = refl;
  state = refl;
  known = λ kept known. known;
  alike = λ base alike. alike;
  more = omega (arith);
  early = λ base count most alike. alike;
}

led_then : (f g h : GraphData) (old mid new : MachineData) → Led f g old mid → Led g h mid new → Led f h old new
led_then f g h old mid new one two = record {
  covers = two.covers;
  last = two.last ∙ one.last;
  state = two.state ∙ one.state;
  known = λ kept known. two.known kept (one.known kept known);
  alike = λ base alike. two.alike base (one.alike base alike);
  more = omega (arith, one.more, two.more);
  early = λ base count most alike. two.early base count (omega (arith, most, one.more)) (one.early base count most alike);
}

pub led_in_none : (g : GraphData) (slot : Option MachineData) → IfSome slot (Covers g) → LedIn g g slot slot
led_in_none g None covers = refl
led_in_none g (Some m) covers = (m, refl, led_none g m covers)

pub led_in_then : (f g h : GraphData) (old mid new : Option MachineData) → LedIn f g old mid → LedIn g h mid new → LedIn f h old new
led_in_then f g h None mid new one two = subst (λ slot. LedIn g h slot new) one two
led_in_then f g h (Some old) mid new (m, is, led) two =
    let (n, is_too, led_too) = subst (λ slot. LedIn g h slot new) is two in
    (n, is_too, led_then f g h old m n led led_too)

-- a machine that was led covers where it was led
pub covers_there : (g h : GraphData) (old new : Option MachineData) → LedIn g h old new → IfSome new (Covers h)
covers_there g h None new led = subst (λ slot. IfSome slot (Covers h)) (sym led) tt
covers_there g h (Some old) new (m, is, led) = subst (λ slot. IfSome slot (Covers h)) (sym is) led.covers

-- it has the texts of the last build that it had
pub last_there : (g h : GraphData) (old new : Option MachineData) → LedIn g h old new → last_in new ≡ last_in old
last_there g h None new led = ap last_in led
last_there g h (Some old) new (m, is, led) = ap last_in is ∙ led.last

-- by way of another graph: there each group stands alike
coded_here : (g : GraphData) (m : MachineData) → CodedAreAlike g g m
coded_here g m k part stands coded group is_part = record {
  here = is_part.is_group;
  there = is_part.is_group;
  places = λ place inside. refl;
  levels = λ node member. refl;
}

coded_there : (g h : GraphData) (mid new : Option MachineData) → LedIn g h mid new → IfSome new (CodedAreAlike g h)
coded_there g h None new led = subst (λ slot. IfSome slot (CodedAreAlike g h)) (sym led) tt
coded_there g h (Some mid) new (m, is, led) = subst (λ slot. IfSome slot (CodedAreAlike g h)) (sym is) (led.alike g (coded_here g mid))

-- and so do those of the parts that it had there
early_here : (g : GraphData) (count : ℕ) (m : MachineData) → EarlyAreAlike g count g m
early_here g count m k part stands below group is_part = record {
  here = is_part.is_group;
  there = is_part.is_group;
  places = λ place inside. refl;
  levels = λ node member. refl;
}

early_there : (g h : GraphData) (count : ℕ) (mid new : Option MachineData) → HasParts count mid → LedIn g h mid new → IfSome new (EarlyAreAlike g count h)
early_there g h count None new has led = subst (λ slot. IfSome slot (EarlyAreAlike g count h)) (sym led) tt
early_there g h count (Some mid) new has (m, is, led) =
    subst (λ slot. IfSome slot (EarlyAreAlike g count h)) (sym is) (led.early g count (omega (arith, has)) (early_here g count mid))

-- a machine was led to a graph that is the one on the way, and on from it
pub led_by_then : (f f_new g h : GraphData) (count : ℕ) (old mid new : Option MachineData) → f_new ≡ g → HasParts count mid → LedIn f g old mid →
    LedIn f_new h mid new → LedBy f g h count old new
led_by_then f f_new g h count old mid new same has one two =
    let on = subst (λ (from : GraphData). LedIn from h mid new) same two in
    (led_in_then f g h old mid new one on, coded_there g h mid new on, early_there g h count mid new has on)

-- it covers the graph that is the one on the way
pub covers_the_way : (f f_new g : GraphData) (old mid : Option MachineData) → f_new ≡ g → LedIn f g old mid → IfSome mid (Covers f_new)
covers_the_way f f_new g old mid same led = subst (λ (at : GraphData). IfSome mid (Covers at)) (sym same) (covers_there f g old mid led)

-- two graphs are as large as each other
pub large_back : (g h : GraphData) → IsAsLarge g h → IsAsLarge h g
large_back g h large = record { nodes_are = sym large.nodes_are; places_are = sym large.places_are }

-- and that is as large as the one that is led to
pub large_from_the_way : (f_new g h : GraphData) → f_new ≡ g → IsAsLarge g h → IsAsLarge f_new h
large_from_the_way f_new g h same large = subst (λ (at : GraphData). IsAsLarge at h) (sym same) large

-- from the one as from the other they differ at the same places and nodes
pub differ_back : (g h : GraphData) (differences : Differences) → IsAsLarge g h → DifferAt g h differences → DifferAt h g differences
differ_back g h differences large differ = record {
  by_place = λ place inside. elim (differ.by_place place (omega (arith, inside, large.places_are))) [
    | inl stands ↦ inl stands
    | inr same ↦ inr (sym same)
  ];
  by_node = λ node inside. elim (differ.by_node node (omega (arith, inside, large.nodes_are))) [
    | inl stands ↦ inl stands
    | inr same ↦ inr (sym same)
  ];
}

-- and so they do from the graph that is the one on the way
pub differ_from_the_way : (f_new g h : GraphData) (differences : Differences) → f_new ≡ g → IsAsLarge g h → DifferAt h g differences →
    DifferAt f_new h differences
differ_from_the_way f_new g h differences same large differ =
    subst (λ (at : GraphData). DifferAt at h differences) (sym same) (differ_back h g differences (large_back g h large) differ)

-- ---- the graph before an edit

-- before something else came to stand at a place
pub undo_place : (g new target : GraphData) (place count : ℕ) (old : Option (ℕ × Option Switch)) → new ≡ with_place_of target g place →
    with_place old new.places ≡ g.places → count ≡ nodes g → undo new (record { nodes = count; place = old; level = None }) ≡ g
undo_place g new target place count old new_is back count_is i = record { levels = levels_back i; places = back i }
  where
    levels_back : take count new.levels ≡ g.levels
    levels_back = ap (λ (now : GraphData). take count now.levels) new_is ∙ (ap (λ n. take n g.levels) count_is ∙ take-length g.levels)

-- before a node got another level
pub undo_level : (g new target : GraphData) (node count : ℕ) (old : Option (ℕ × ℕ)) → new ≡ with_level_of target g node →
    with_level old new.levels ≡ g.levels → count ≡ nodes g → undo new (record { nodes = count; place = None; level = old }) ≡ g
undo_level g new target node count old new_is back count_is i = record {
  levels = (ap (with_level old) whole ∙ back) i;
  places = ap (λ (now : GraphData). now.places) new_is i;
}
  where
    counted : count ≡ length new.levels
    counted = count_is ∙ sym (ap nodes new_is ∙ length-set g.levels node (level_of target node))

    whole : take count new.levels ≡ new.levels
    whole = ap (λ n. take n new.levels) counted ∙ take-length new.levels
