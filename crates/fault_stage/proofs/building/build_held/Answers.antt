-- Each kind of stage is built in its way.
use Rattle.std.proofs.Common.{[], sym, subst}
use Rattle.group_analysis.specs.Using.{used_texts}
use Rattle.analysis_cache.specs.Keeping.{texts_of}
use Rattle.column_stage.specs.Columns.{AreAmong}
use Rattle.column_stage.proofs.FrontLemmas.{kept_alone}
use Rattle.fault_stage.specs.declared.held.Held.{Held}
use Rattle.fault_stage.specs.Building.{BuildsHeld, IsStart}
use Rattle.fault_stage.specs.Runs.{IsWell}
use Rattle.fault_stage.specs.Stages.{ServesIn, ServesReady, StandInFront, data_of, last_in, ready_of, state_of, texts_held}
use Rattle.fault_stage.proofs.building.build_held.Goals as goal

pub build_whole-requires-clause-starts : goal.build_whole-requires-clause-starts
build_whole-requires-clause-starts g c = subst (λ (held : Held). IsStart c.args.graph.now (state_of (data_of held))) c.in-Whole.is c.requires.starts

pub build_whole-requires-clause-serves : goal.build_whole-requires-clause-serves
build_whole-requires-clause-serves g c =
    subst (λ (held : Held). ServesIn (data_of held) c.args.graph.now (used_texts (last_in (data_of held)) (texts_of c.args.kept.now))) c.in-Whole.is c.requires.serves

pub build_whole-requires-clause-last : goal.build_whole-requires-clause-last
build_whole-requires-clause-last g c = subst (λ (held : Held). AreAmong (last_in (data_of held)) (texts_of c.args.kept.now)) c.in-Whole.is c.requires.last

pub build_again-requires-clause-built : goal.build_again-requires-clause-built
build_again-requires-clause-built g c = subst IsWell c.in-Built.is c.requires.well

pub build_again-requires-clause-starts : goal.build_again-requires-clause-starts
build_again-requires-clause-starts g c = subst (λ (held : Held). IsStart c.args.graph.now (state_of (data_of held))) c.in-Built.is c.requires.starts

pub build_again-requires-clause-serves : goal.build_again-requires-clause-serves
build_again-requires-clause-serves g c =
    let serves : ServesReady (ready_of c.in-Built.built) c.args.graph.now (used_texts [] (texts_of c.args.kept.now)) =
    subst (λ (held : Held). ServesIn (data_of held) c.args.graph.now (used_texts (last_in (data_of held)) (texts_of c.args.kept.now))) c.in-Built.is c.requires.serves in
    subst (ServesReady (ready_of c.in-Built.built) c.args.graph.now) (sym (kept_alone (texts_of c.args.kept.now))) serves

pub build_waiting-requires-clause-last_run : goal.build_waiting-requires-clause-last_run
build_waiting-requires-clause-last_run g c = subst IsWell c.in-Waiting.is c.requires.well

pub build_waiting-requires-clause-starts : goal.build_waiting-requires-clause-starts
build_waiting-requires-clause-starts g c = subst (λ (held : Held). IsStart c.args.graph.now (state_of (data_of held))) c.in-Waiting.is c.requires.starts

pub build_waiting-requires-clause-front : goal.build_waiting-requires-clause-front
build_waiting-requires-clause-front g c =
    let front : StandInFront (texts_held c.in-Waiting.waiting.last_run) (used_texts [] (texts_of c.args.kept.now)) =
    subst (λ (held : Held). ServesIn (data_of held) c.args.graph.now (used_texts (last_in (data_of held)) (texts_of c.args.kept.now))) c.in-Waiting.is c.requires.serves in
    subst (StandInFront (texts_held c.in-Waiting.waiting.last_run)) (sym (kept_alone (texts_of c.args.kept.now))) front

pub returns-in-Whole : goal.returns-in-Whole
returns-in-Whole g c =
    subst (λ (held : Held). BuildsHeld c.args.large c.args.graph.now (data_of held) c.build_whole.result.0 c.args.kept.now c.build_whole.new.kept
    (g.A.Analyst.analysed c.args.analyst.now) (g.A.Analyst.analysed c.build_whole.new.analyst) c.build_whole.result.1) (sym c.in-Whole.is) c.build_whole.ensures

pub returns-in-Built : goal.returns-in-Built
returns-in-Built g c =
    subst (λ (held : Held). BuildsHeld c.args.large c.args.graph.now (data_of held) c.build_again.result.0 c.args.kept.now c.build_again.new.kept
    (g.A.Analyst.analysed c.args.analyst.now) (g.A.Analyst.analysed c.build_again.new.analyst) c.build_again.result.1) (sym c.in-Built.is) c.build_again.ensures

pub returns-in-Waiting : goal.returns-in-Waiting
returns-in-Waiting g c =
    subst (λ (held : Held). BuildsHeld c.args.large c.args.graph.now (data_of held) c.build_waiting.result.0 c.args.kept.now c.build_waiting.new.kept
    (g.A.Analyst.analysed c.args.analyst.now) (g.A.Analyst.analysed c.build_waiting.new.analyst) c.build_waiting.result.1) (sym c.in-Waiting.is) c.build_waiting.ensures
