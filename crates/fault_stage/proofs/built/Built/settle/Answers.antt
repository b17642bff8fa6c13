-- The machine settles on its course, and its state is taken over.
use Rattle.std.proofs.Common.{◌∙◌, List, length, refl, sym, ap, subst, arith}
use Rattle.ternary.specs.declared.tern.Tern.{Tern}
use Rattle.switch_paths.specs.Graphs.{GraphData}
use Rattle.switch_paths.specs.Rails.{IsSound}
use Rattle.edits_between.specs.Leading.{DifferAt}
use Rattle.fault_stage.specs.Runs.{GoesIn}
use Rattle.fault_stage.specs.Stages.{SettlesSeen}
use Rattle.fault_stage.proofs.CourseLemmas.{fits_anyway}
use Rattle.fault_stage.proofs.KnownLemmas.{known_on}
use Rattle.fault_stage.proofs.built.Built.settle.Goals as goal

pub settle_in-course-requires : goal.settle_in-course-requires
settle_in-course-requires g c = rw (c.deref.ensures.value, c.replace-course.ensures.value) (record {
  goes = c.requires.built.goes;
  sound = c.requires.built.sound;
  passes = c.requires.built.passes;
  low = c.requires.low;
  high = c.requires.high;
  knows = c.requires.knows;
})

pub take_over-requires : goal.take_over-requires
take_over-requires g c =
    let settled = c.settle_in-course in
    let b = c.args.self.now in
    let fits = fits_anyway settled.new.good b.graph settled.new.machine settled.new.machine.state settled.result.0 settled.ensures.settles.goes in
    omega (arith, c.requires.built.counted, fits.covers.counted)

pub returns-clause-built : goal.returns-clause-built
returns-clause-built g c =
    let b = c.args.self.now in
    let settled = c.settle_in-course in
    let settles = settled.ensures.settles in
    let fits = fits_anyway settled.new.good b.graph settled.new.machine settled.new.machine.state settled.result.0 settles.goes in
    let items = c.take_over.ensures.items in
    record {
      counted = ap length items ∙ fits.covers.counted;
      railed = c.requires.built.railed;
      sound = subst IsSound (sym items) fits.sound;
      known = known_on b.graph b.machine settled.new.machine (fits_anyway b.good b.graph b.machine b.state.items b.course c.requires.built.goes) fits settles.last
          c.requires.built.known;
      goes = subst (λ (s : List Tern). GoesIn settled.new.good b.graph settled.new.machine s settled.result.0) (sym items) settles.goes;
      passes = settled.ensures.passes;
      apart = subst (λ (way : GraphData). DifferAt b.graph way b.apart) (sym settled.ensures.good) c.requires.built.apart;
    }

pub returns-clause-same : goal.returns-clause-same
returns-clause-same g c = rw (c.take_over.ensures.room, c.settle_in-course.ensures.settles.last) refl

pub returns-clause-takes : goal.returns-clause-takes
returns-clause-takes g c =
    let settled = c.settle_in-course in
    rw c.take_over.ensures.items (subst (λ (s : List Tern). SettlesSeen g.O.Observer.see c.args.self.now.graph c.args.limit settled.result.1.steps settled.result.1.joined s
    settled.new.machine.state (g.O.Observer.seen c.args.onlooker.now) (g.O.Observer.seen settled.new.onlooker)) c.deref.ensures.value settled.ensures.settles.takes)

pub returns-clause-knows : goal.returns-clause-knows
returns-clause-knows g c = rw c.take_over.ensures.items c.settle_in-course.ensures.knows
