-- What there is of the last run is held on to, and serves any graph.
use Rattle.std.proofs.Common.{List, sym, subst}
use Rattle.group_text.specs.Texts.{GroupTextData}
use Rattle.fault_stage.specs.declared.held.Held.{Held}
use Rattle.fault_stage.specs.Runs.{IsWell}
use Rattle.fault_stage.specs.Stages.{ServesIn, ServesReady, StandInFront, data_of, ready_of}
use Rattle.fault_stage.proofs.stage.again.Goals as goal

pub ended-requires : goal.ended-requires
ended-requires c = subst IsWell c.in-Built.is c.requires

pub returns-in-Whole-clause-serves : goal.returns-in-Whole-clause-serves
returns-in-Whole-clause-serves c = λ g h kept serves.
    c.again.ensures.serves g h kept (subst (λ (held : Held). ServesIn (data_of held) g kept) c.in-Whole.is serves)

pub returns-in-Built-clause-serves : goal.returns-in-Built-clause-serves
returns-in-Built-clause-serves c = λ g h kept serves.
    let was : ServesReady (ready_of c.in-Built.built) g kept = subst (λ (held : Held). ServesIn (data_of held) g kept) c.in-Built.is serves in
    subst (λ (texts : List GroupTextData). StandInFront texts kept) (sym c.ended.ensures.texts) was.front

pub returns-in-Waiting-clause-well : goal.returns-in-Waiting-clause-well
returns-in-Waiting-clause-well c = subst IsWell c.in-Waiting.is c.requires

pub returns-in-Waiting-clause-serves : goal.returns-in-Waiting-clause-serves
returns-in-Waiting-clause-serves c = λ g h kept serves. subst (λ (held : Held). ServesIn (data_of held) g kept) c.in-Waiting.is serves
