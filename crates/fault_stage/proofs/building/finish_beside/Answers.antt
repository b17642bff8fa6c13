-- The machine was led to the graph with the texts of its last build in front of what is kept.
use Rattle.std.proofs.Common.{◌≡◌, length, Err, sym, ap, subst, ◌∙◌, arith}
use Rattle.switch_paths.specs.Rails.{IsSound}
use Rattle.analysis_cache.specs.Keeping.{texts_of}
use Rattle.circuit_texts.specs.declared.texts.BuildFault.{BuildFault}
use Rattle.circuit_texts.specs.declared.texts.BuildFault.TheVariants.{NoMemory}
use Rattle.column_stage.specs.Columns.{AreAmong}
use Rattle.machine_laws.specs.Machines.{MachineData}
use Rattle.fault_stage.specs.Building.{PutsLast}
use Rattle.fault_stage.proofs.BuildingLemmas.{cut_put, finished_next, grown_among, refused_put}
use Rattle.fault_stage.proofs.HeldLemmas.{leaves_done}
use Rattle.fault_stage.proofs.KnownLemmas.{known_among}
use Rattle.fault_stage.proofs.LeadingLemmas.{touched_if}
use Rattle.fault_stage.proofs.building.finish_beside.Goals as goal

pub build_fresh-requires : goal.build_fresh-requires
build_fresh-requires g c =
    let led = c.requires.led in record {
      railed = c.requires.railed;
      sound = record { counted = omega (arith, ap length led.state_is, led.covered.covers.counted); sound = subst IsSound led.state_is led.covered.sound };
    }

pub returns-then-is_sparse-clause-made : goal.returns-then-is_sparse-clause-made
returns-then-is_sparse-clause-made g c = c.build_fresh.ensures.made c.args.good.now

pub finish-requires : goal.finish-requires
finish-requires g c =
    let covered = c.requires.led.covered in
    let old = c.args.machine.now in record {
      covers = covered.covers;
      railed = c.requires.railed;
      sound = covered.sound;
      known = known_among c.args.graph.now old.last (texts_of c.args.kept.now) old c.requires.front.among covered.known;
      last = c.requires.front.among;
    }

pub use_last-requires : goal.use_last-requires
use_last-requires g c = c.in-Ok.ensures.there

pub course_of-course-requires : goal.course_of-course-requires
course_of-course-requires g c =
    let finishes = c.in-Ok.ensures.finishes in record {
      fits = finishes.fits;
      state = finishes.state ∙ c.requires.led.state_is;
      touched = touched_if c.args.good.now.graph c.args.graph.now c.args.count c.args.state.now c.args.machine.now c.finish.new.self
          c.touched_in-touched.result c.requires.led c.touched_in-touched.ensures c.has_a_mark_for_each_part.ensures c.has_a_mark_for_each_part-in-Ok.ensures finishes.still finishes.members;
    }

pub returns-in-Ok-clause-made : goal.returns-in-Ok-clause-made
returns-in-Ok-clause-made g c =
    let made = c.in-Ok.ensures in
    let course = c.course_of-course in
    finished_next c.args.large c.args.graph.now c.args.kept.now.bound c.args.good.now c.args.state.now c.args.machine.now c.finish.new.self course.new.machine
    (texts_of c.args.kept.now) (texts_of c.finish.new.kept) (texts_of c.use_last.new.kept) _ _ course.result c.in-Ok.fresh course.ensures.goes course.ensures.held
    course.ensures.build.last made.finishes c.requires.front made.there c.use_last.ensures.texts made.builds

pub put_last-requires : goal.put_last-requires
put_last-requires g c =
    subst (λ (m : MachineData). AreAmong m.last (texts_of c.finish.new.kept)) (sym c.in-Err.ensures.err)
    (grown_among c.args.machine.now.last c.args.kept.now c.finish.new.kept c.requires.front.among c.in-Err.ensures.grown)

pub returns-in-Ok-clause-leaves : goal.returns-in-Ok-clause-leaves
returns-in-Ok-clause-leaves g c =
    leaves_done c.args.large c.args.graph.now c.args.kept.now c.use_last.new.kept _ _ _ (c.use_last.ensures.bound ∙ c.finish.ensures.bound)

pub returns-in-Err-clause-leaves : goal.returns-in-Err-clause-leaves
returns-in-Err-clause-leaves g c = record {
  cut_off = λ is.
      let none : c.in-Err.fault ≡ NoMemory = cc in
      let lacks : c.finish.result ≡ Err NoMemory = c.in-Err.is ∙ ap (λ (fault : BuildFault). Err fault) none in
      cut_put c.args.large c.args.graph.now c.args.machine.now.last c.args.kept.now c.finish.new.kept c.put_last.new.kept _ _ c.in-Err.fault c.requires.front
      (subst (λ (m : MachineData). PutsLast m.last c.in-Err.fault c.finish.new.kept c.put_last.new.kept) c.in-Err.ensures.err c.put_last.ensures.puts) none
      (c.finish.ensures.cut_off lacks);
  bound = c.put_last.ensures.bound ∙ c.finish.ensures.bound;
  refused = refused_put _ _ c.finish.new.self.last c.args.kept.now c.finish.new.kept c.put_last.new.kept c.in-Err.fault c.put_last.ensures.puts c.in-Err.ensures.refused;
}
