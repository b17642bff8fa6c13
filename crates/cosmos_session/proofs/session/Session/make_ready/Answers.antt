use Rattle.std.proofs.Common.{◌≡◌, ℕ, List, Option, Err, sym, ap, subst, arith, inl, inr}
use Rattle.ternary.specs.Counts.{raised}
use Rattle.switch_paths.specs.Graphs.{GraphData}
use Rattle.group_text.specs.Texts.{GroupTextData}
use Rattle.group_analysis.specs.Using.{used_texts}
use Rattle.analysis_cache.specs.Keeping.{texts_of}
use Rattle.circuit_texts.specs.declared.texts.BuildFault.{BuildFault}
use Rattle.column_stage.specs.Acts.{Act}
use Rattle.session_meaning.specs.declared.fault.ApplyFault.{ApplyFault}
use Rattle.session_meaning.specs.Preparing.{fault_of_build}
use Rattle.session_meaning.specs.Sessions.{HeldSession}
use Rattle.session_meaning.specs.Stages.{ReadiesBy}
use Rattle.session_meaning.proofs.BuildLemmas.{held_built, readied_built, unready_built}
use Rattle.session_meaning.proofs.StayingLemmas.{session_of}
use Rattle.cosmos_session.proofs.session.Session.make_ready.Goals as goal

-- by what is known of the session and of the fault that is told
readies_as : {M : Type 0} (cuts : ℕ → GraphData → Option ℕ → List GroupTextData → List GroupTextData → List GroupTextData → List GroupTextData → Type 0)
    (did : Act → M → M → Type 0) (session old new : HeldSession M) (asked told : List GroupTextData) (fault : BuildFault) (said : ApplyFault) →
    session ≡ old → said ≡ fault_of_build fault → ReadiesBy cuts did session new asked told (Err (fault_of_build fault)) →
    ReadiesBy cuts did old new asked told (Err said)
readies_as {M} cuts did session old new asked told fault said is tells ready =
    subst (λ (other : ApplyFault). ReadiesBy cuts did old new asked told (Err other)) (sym tells)
    (subst (λ (other : HeldSession M). ReadiesBy cuts did other new asked told (Err (fault_of_build fault))) is ready)

pub build_stage-requires-clause-some : goal.build_stage-requires-clause-some
build_stage-requires-clause-some g c = c.self.invariant.0.some

pub build_stage-requires-clause-sound : goal.build_stage-requires-clause-sound
build_stage-requires-clause-sound g c = rw c.graph-graph.ensures.value c.self.invariant.0.sound

pub build_stage-requires-clause-serves : goal.build_stage-requires-clause-serves
build_stage-requires-clause-serves g c = rw c.graph-graph.ensures.value c.self.invariant.0.served

pub invariant_of-self : goal.invariant_of-self
invariant_of-self g c = (
  held_built g.M.Columns.columns g.M.Columns.states g.M.Columns.serves (session_of c.self.invariant.0) c.build_stage.new.stage c.build_stage.new.kept.bound _
      c.saturating_add-self-inside.result c.build_stage.ensures.state c.build_stage.ensures.columns c.build_stage.ensures.states
      (rw c.graph-graph.ensures.value at c.build_stage.ensures.serves) c.self.invariant.0,
  c.build_stage.ensures.last,
)

pub invariant_of-self-in-Err : goal.invariant_of-self-in-Err
invariant_of-self-in-Err g c = (
  held_built g.M.Columns.columns g.M.Columns.states g.M.Columns.serves (session_of c.self.invariant.0) c.build_stage.new.stage c.build_stage.new.kept.bound _
      (session_of c.self.invariant.0).core.fresh c.build_stage.ensures.state c.build_stage.ensures.columns c.build_stage.ensures.states
      (rw c.graph-graph.ensures.value at c.build_stage.ensures.serves) c.self.invariant.0,
  c.build_stage.ensures.last,
)

pub returns-in-Ok-clause-readies : goal.returns-in-Ok-clause-readies
returns-in-Ok-clause-readies g c =
    let session = session_of c.self.invariant.0 in
    let counted : c.saturating_add-self-inside.result ≡ raised session.core.fresh c.in-Ok.fresh = omega arith in
    rw (← c.self.view_is)
    (readied_built g.M.Columns.columns g.M.Columns.states g.M.Columns.serves session c.build_stage.new.stage c.build_stage.new.kept.bound _
    c.saturating_add-self-inside.result c.build_stage.ensures.state g.M.Columns.did c.in-Ok.fresh _ _
    (rw c.graph-graph.ensures.value at c.in-Ok.ensures.builds) (rw c.graph-graph.ensures.value at c.in-Ok.ensures.did) c.build_stage.ensures.bound counted)

pub returns-in-Err-clause-readies : goal.returns-in-Err-clause-readies
returns-in-Err-clause-readies g c =
    let session = session_of c.self.invariant.0 in
    let refused = rw c.graph-graph.ensures.value at c.in-Err.ensures.refused in
    let cut_off = rw c.graph-graph.ensures.value at c.in-Err.ensures.cut_off in
    let stands = c.in-Err.ensures.err in
    let stage = c.build_stage.new.stage in
    let bound = c.build_stage.new.kept.bound in
    let kept : List GroupTextData = used_texts (g.M.Columns.last stage) (texts_of c.build_stage.new.kept) in
    let new : HeldSession _ = record { core = record session.core { state = g.M.Columns.states stage 0; bound = bound; kept = kept }; stage = stage } in
    let asked = g.A.Analyst.analysed c.args.analyst.now in
    let told = g.A.Analyst.analysed c.build_stage.new.analyst in
    readies_as g.M.Columns.cuts g.M.Columns.did session c.args.self.now new asked told c.in-Err.fault c.of_build.result c.self.view_is c.of_build.ensures
    (unready_built g.M.Columns.cuts g.M.Columns.states g.M.Columns.did session stage bound kept asked told stands c.build_stage.ensures.state
    c.build_stage.ensures.bound c.in-Err.fault
    (elim refused [
      | inl is ↦ inl is
      | inr held ↦ inr (held.0, (λ i. used_texts (g.M.Columns.last (stands i)) (texts_of (held.1 i))), held.2)
    ])
    (λ is. cut_off (ap Err is)))

pub returns-in-Ok-clause-columns : goal.returns-in-Ok-clause-columns
returns-in-Ok-clause-columns g c = rw (← c.self.view_is) c.build_stage.ensures.columns

pub returns-in-Err-clause-columns : goal.returns-in-Err-clause-columns
returns-in-Err-clause-columns g c = rw (← c.self.view_is) c.build_stage.ensures.columns

pub returns-in-Ok-clause-states : goal.returns-in-Ok-clause-states
returns-in-Ok-clause-states g c = rw (← c.self.view_is) c.build_stage.ensures.states

pub returns-in-Err-clause-states : goal.returns-in-Err-clause-states
returns-in-Err-clause-states g c = rw (← c.self.view_is) c.build_stage.ensures.states
