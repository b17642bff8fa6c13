-- A machine with more marks covers and fits what it did, and nodes are given one after another.
use Rattle.std.proofs.Common.{◌≡◌, ℕ, zero, suc, ◌+◌, ◌<◌, inl, inr, Bool, true, List, length, refl, sym, ap, subst, ◌∙◌, arith}
use Rattle.std.specs.Prelude.{Option, slice_set}
use Rattle.std.proofs.lemmas.Bool.{cases_lt}
use Rattle.std.proofs.lemmas.List.{ext_get_or, get_or-set_same, get_or-set_other, length-set}
use Rattle.ternary.specs.declared.tern.Tern.{Tern}
use Rattle.ternary.specs.declared.tern.Tern.TheVariants.{Zero}
use Rattle.switch_paths.specs.declared.TheConstants.{RAILS}
use Rattle.switch_paths.specs.Switching.{state_at}
use Rattle.switch_paths.specs.Graphs.{GraphData}
use Rattle.switch_paths.specs.Rails.{IsSound}
use Rattle.machine_parts.specs.declared.part.MachinePart.{MachinePart}
use Rattle.machine_parts.specs.Marking.{IsMarked}
use Rattle.machine_parts.specs.Stepping.{Concerns}
use Rattle.machine_parts.proofs.SetMarks.{marked-set, marked-stays}
use Rattle.machine_laws.specs.Machines.{MachineData, Places}
use Rattle.machine_laws.specs.Fitting.{Covers, FitsGraph}
use Rattle.machine_laws.proofs.FittingLemmas.{covers_with}
use Rattle.machine_laws.proofs.PlacingLemmas.{Places-beside}
use Rattle.vicinity.specs.Wides.{WideData}
use Rattle.wide_groups.specs.Moving.{PlacesIn}
use Rattle.unit_step.specs.Restarting.{AllMarked, StaysOn, GivesNode, GivesBelow, MarksBelow, MarksParts, Restarts}

-- both states of the rails are those of a sound state
pub rails_alike : (one two : List Tern) → IsSound one → IsSound two → (node : ℕ) → node < RAILS → state_at one node ≡ state_at two node
rails_alike one two sound sound_too zero inside = sound.gnd ∙ sym sound_too.gnd
rails_alike one two sound sound_too (suc zero) inside = sound.vdd ∙ sym sound_too.vdd
rails_alike one two sound sound_too (suc (suc node)) inside = absurd (omega (arith, inside))

-- nothing is changed
pub StaysOn-same : (g : GraphData) (m : MachineData) → StaysOn g m m
StaysOn-same g m = record {
  covers = λ covers. covers;
  fits = λ fits. fits;
  build = record { groups = refl; last = refl; spare = refl };
  held = record { parts = refl; uses = refl; texts = refl };
  count = refl;
  marks = refl;
}

-- one change after another
pub StaysOn-then : (g : GraphData) (a b c : MachineData) → StaysOn g a b → StaysOn g b c → StaysOn g a c
StaysOn-then g a b c first then = record {
  covers = λ covers. then.covers (first.covers covers);
  fits = λ fits. then.fits (first.fits fits);
  build = record {
    groups = then.build.groups ∙ first.build.groups;
    last = then.build.last ∙ first.build.last;
    spare = then.build.spare ∙ first.build.spare;
  };
  held = record {
    parts = then.held.parts ∙ first.held.parts;
    uses = then.held.uses ∙ first.held.uses;
    texts = then.held.texts ∙ first.held.texts;
  };
  count = then.count ∙ first.count;
  marks = then.marks ∙ first.marks;
}

-- a node that has the state already is given it
pub GivesNode-same : (g : GraphData) (node : ℕ) (value : Tern) (m : MachineData) → state_at m.state node ≡ value → GivesNode g node value m m
GivesNode-same g node value m is = record { stays = StaysOn-same g m; given = is; others = λ other differs. refl }

-- a node that is placed is given its state
pub GivesNode-placed : (g : GraphData) (node : ℕ) (value : Tern) (old new : MachineData) → node < length old.state → (Covers g old → Covers g new) →
    (FitsGraph g old → FitsGraph g new) → Places node value old new → GivesNode g node value old new
GivesNode-placed g node value old new inside covers fits places = record {
  stays = record {
    covers = covers;
    fits = fits;
    build = places.build;
    held = places.held;
    count = ap length places.state ∙ length-set old.state node value;
    marks = places.count;
  };
  given = ap (λ states. state_at states node) places.state ∙ get_or-set_same old.state node value Zero inside;
  others = λ other differs. ap (λ states. state_at states other) places.state ∙ get_or-set_other old.state node other value Zero differs;
}

-- one node more is given
pub GivesBelow-more : (g : GraphData) (state : List Tern) (node : ℕ) (old mid new : MachineData) → GivesBelow g state node old mid →
    GivesNode g node (state_at state node) mid new → GivesBelow g state (node + 1) old new
GivesBelow-more g state node old mid new below one = record {
  stays = StaysOn-then g old mid new below.stays one.stays;
  given = λ n before.
      elim (cases_lt n node) [
        | inl earlier ↦ one.others n (λ same. omega (arith, earlier, same)) ∙ below.given n earlier
        | inr last ↦
            let same : n ≡ node = omega (arith, before, last) in
            ap (state_at new.state) same ∙ (one.given ∙ ap (state_at state) (sym same))
      ];
}

-- with more marks a machine covers the graph, whatever was counted
more_marks_cover : (g : GraphData) (m : MachineData) (marks : List Bool) (moved placed : ℕ) → Covers g m → ((k : ℕ) → IsMarked m.marks k → IsMarked marks k) →
    Covers g (record m { marks = marks; moves = moved; placed = placed })
more_marks_cover g m marks moved placed covers more =
    covers_with g m covers marks m.state m.last moved placed m.spare m.wide covers.counted
    (λ k part stands some none. more k (covers.waits k part stands some none))
    (λ k part stands unmarked. covers.rests k part stands (λ marked. unmarked (more k marked))) covers.stale_only covers.held

-- and fits it
more_marks_fit : (g : GraphData) (m : MachineData) (marks : List Bool) (moved placed : ℕ) → FitsGraph g m → ((k : ℕ) → IsMarked m.marks k → IsMarked marks k) →
    FitsGraph g (record m { marks = marks; moves = moved; placed = placed })
more_marks_fit g m marks moved placed fits more = record {
  covers = more_marks_cover g m marks moved placed fits.covers more;
  coded = fits.coded;
  railed = fits.railed;
  sound = fits.sound;
  texts = fits.texts;
}

-- none is marked yet
pub MarksBelow-none : (marks : List Bool) → MarksBelow 0 marks marks
MarksBelow-none marks = record { count = refl; stays = λ k was. was; set = λ k inside. absurd (omega (arith, inside)) }

-- one part more is marked
pub MarksBelow-more : (old mid : List Bool) (k : ℕ) → k < length mid → MarksBelow k old mid → MarksBelow (k + 1) old (slice_set mid k true)
MarksBelow-more old mid k inside below = record {
  count = length-set mid k true ∙ below.count;
  stays = λ j was. marked-stays mid k j (below.stays j was);
  set = λ j before.
      elim (cases_lt j k) [
        | inl earlier ↦ marked-stays mid k j (below.set j earlier)
        | inr last ↦
            let same : j ≡ k = omega (arith, before, last) in
            subst (IsMarked (slice_set mid k true)) (sym same) (marked-set mid k inside)
      ];
}

-- a part that a node concerns is one of the parts
concerned_inside : (parts : List MachinePart) (k node : ℕ) → Concerns parts k node → k < length parts
concerned_inside parts k node (inl has) = has.stands.inside
concerned_inside parts k node (inr reads) = reads.stands.inside

-- where all parts are marked a node is placed without a further mark
pub placed_unmarked : (node : ℕ) (value : Tern) (old : MachineData) (wide : Option WideData) → AllMarked old →
    PlacesIn node old.wide wide old.state (slice_set old.state node value) → Places node value old (record old { state = slice_set old.state node value; wide = wide })
placed_unmarked node value old wide marked placed =
    Places-beside node value old old.marks (slice_set old.state node value) old.placed wide refl refl (λ k was. was)
    (λ k concerns. marked k (concerned_inside old.parts k node concerns)) (λ k was. inl was) placed

-- so each part stays marked while nodes are given
pub marked_still : (g : GraphData) (state : List Tern) (end : ℕ) (old new : MachineData) → AllMarked old → GivesBelow g state end old new → new.marks ≡ old.marks →
    AllMarked new
marked_still g state end old new marked given same k inside =
    subst (λ marks. IsMarked marks k) (sym same) (marked k (subst (λ parts. k < length parts) given.stays.held.parts inside))

-- all parts are marked where those are marked that there are
pub marked_parts : (old new : MachineData) → MarksParts old new → AllMarked new
marked_parts old new marks k inside = marks.marks.set k (subst (λ n. k < n) (ap (λ (m : MachineData). length m.parts) marks.rest) inside)

-- a machine whose parts were marked and whose nodes were given starts again
pub restarted : (g : GraphData) (state : List Tern) (old marked new : MachineData) → length state ≡ length old.state → MarksParts old marked →
    GivesBelow g state (length state) marked new → new.marks ≡ marked.marks → Restarts g state old (record new { moves = 0; placed = 0 })
restarted g state old marked new counted marks given same = record {
  covers = λ covers.
      more_marks_cover g new new.marks 0 0
      (given.stays.covers (subst (Covers g) (sym marks.rest) (more_marks_cover g old marked.marks old.moves old.placed covers marks.marks.stays))) (λ k was. was);
  fits = λ fits.
      more_marks_fit g new new.marks 0 0
      (given.stays.fits (subst (FitsGraph g) (sym marks.rest) (more_marks_fit g old marked.marks old.moves old.placed fits marks.marks.stays))) (λ k was. was);
  build = record {
    groups = given.stays.build.groups ∙ ap (λ (m : MachineData). m.groups) marks.rest;
    last = given.stays.build.last ∙ ap (λ (m : MachineData). m.last) marks.rest;
    spare = given.stays.build.spare ∙ ap (λ (m : MachineData). m.spare) marks.rest;
  };
  held = record {
    parts = given.stays.held.parts ∙ ap (λ (m : MachineData). m.parts) marks.rest;
    uses = given.stays.held.uses ∙ ap (λ (m : MachineData). m.uses) marks.rest;
    texts = given.stays.held.texts ∙ ap (λ (m : MachineData). m.texts) marks.rest;
  };
  state_is =
      let count = given.stays.count in
      let before : length marked.state ≡ length old.state = ap (λ (m : MachineData). length m.state) marks.rest in
      ext_get_or Zero new.state state (omega (arith, count, counted, before)) (λ node inside. given.given node (omega (arith, inside, count, counted, before)));
  marked = marked_still g state (length state) marked new (marked_parts old marked marks) given same;
  counted = given.stays.marks ∙ marks.marks.count;
  moves = refl;
  placed = refl;
}
