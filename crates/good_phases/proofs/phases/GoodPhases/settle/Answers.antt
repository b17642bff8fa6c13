-- The record goes on, and keeps its phases; this one is another of them, if nothing was left out.
use Rattle.std.proofs.Common.{◌+◌, ◌<◌, ◌^◌, true, false, length, refl, sym, ap, subst, ◌∙◌}
use Rattle.std.specs.Prelude.{All}
use Rattle.settling.specs.Passing.{SettlesThrough, see_all, last_state}
use Rattle.switch_paths.specs.Rails.{IsSound}
use Rattle.machine_laws.specs.Machines.{MachineData}
use Rattle.machine_laws.specs.Fitting.{FitsGraph}
use Rattle.good_run.specs.Recording.{RunData, look_at}
use Rattle.good_run.proofs.RecordLemmas.{look_known}
use Rattle.good_phases.specs.Phases.{GoodData, IsBeat, NotesBeat}
use Rattle.good_phases.proofs.GoodLemmas.{beats_on, kept_beats}
use Rattle.good_phases.proofs.phases.GoodPhases.settle.Goals as goal

pub note_begin-requires-clause-counted : goal.note_begin-requires-clause-counted
note_begin-requires-clause-counted g c =
    ap length c.take_room.ensures.known ∙ (ap (λ (good : GoodData). length good.run.known) c.self.view_is ∙ c.requires.counted)

pub settle_noted-told-requires : goal.settle_noted-told-requires
settle_noted-told-requires g c =
    let same = c.note_begin.ensures.same in
    record {
      fits = subst (FitsGraph c.self.inside.graph) (sym same) (subst (λ (good : GoodData). FitsGraph good.graph c.args.machine.now) (sym c.self.view_is) c.requires.fits);
      known = ap (λ (run : RunData). run.known) c.note_begin.ensures.noted
          ∙ (look_known true c.take_room.new.run c.args.machine.now.state ∙ ap (λ (m : MachineData). m.state) (sym same));
      few = subst (λ (m : MachineData). c.args.limit + length m.state < 2 ^ 62) (sym same) c.requires.few;
      knows = subst (λ (m : MachineData). g.O.Observer.knows c.args.onlooker.now m.state) (sym same) c.requires.knows;
    }

pub invariant_of-self : goal.invariant_of-self
invariant_of-self g c =
    let i = c.self.inside in
    let told = c.settle_noted-told in
    let settles = told.ensures.settles in
    let state = ap (λ (m : MachineData). m.state) c.note_begin.ensures.same in
    let noted = settles.noted ∙ ap (λ (run : RunData). see_all (look_at false) run settles.passed) c.note_begin.ensures.noted in
    subst (λ (run : RunData). All (IsBeat i.graph run) c.note_beat.new.beats.items) (sym noted)
    (beats_on i.graph c.args.limit c.take_room.new.run c.args.machine.now.state settles.passed told.result.joined
    (subst (λ before. SettlesThrough i.graph before c.args.limit settles.passed told.result.joined) state settles.through)
    c.requires.fits.sound
    (subst IsSound (settles.last ∙ ap (λ before. last_state before settles.passed) state) settles.fits.sound) i.beats.items c.note_beat.new.beats.items
    c.len-begin.result c.len-end.result c.len-begin.ensures (c.len-end.ensures ∙ ap (λ (run : RunData). length run.shown) noted)
    (kept_beats i.graph i.run c.take_room.new.run i.beats.items c.take_room.ensures c.self.invariant)
    (subst (λ (run : RunData). NotesBeat run (record { begin = c.len-begin.result; end = c.len-end.result; limit = c.args.limit }) i.beats.items
    c.note_beat.new.beats.items) noted c.note_beat.ensures))

pub returns-clause-settles : goal.returns-clause-settles
returns-clause-settles g c =
    let told = c.settle_noted-told in
    let settles = told.ensures.settles in
    let state = ap (λ (m : MachineData). m.state) c.note_begin.ensures.same in
    rw (← c.self.view_is) (record {
      graph = refl;
      known = told.ensures.known;
      fits = settles.fits;
      last_is = settles.last_is ∙ ap (λ (m : MachineData). m.last) c.note_begin.ensures.same;
      passed = settles.passed;
      through = subst (λ before. SettlesThrough c.self.inside.graph before c.args.limit settles.passed told.result.joined) state settles.through;
      last = settles.last ∙ ap (λ before. last_state before settles.passed) state;
      number = settles.number;
      seen = settles.seen;
    })
