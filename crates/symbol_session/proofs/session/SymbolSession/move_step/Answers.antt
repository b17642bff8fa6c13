-- A step was taken in each column, beside what was missed and kept there, and a waveform line more is counted; or the stage ran out.
use Rattle.std.proofs.Common.{◌≡◌, rules}
use Rattle.session_meaning.specs.Effects.{one_more}
use Rattle.symbol_session.proofs.DataLemmas.{some_columns, stays_on, went}
use Rattle.symbol_session.proofs.FaultLemmas.{graph_own}
use Rattle.symbol_session.proofs.MovedLemmas.{goes_counted, held_left, held_more, stay_leaves, step_leaves, step_on}
use Rattle.symbol_session.proofs.session.SymbolSession.move_step.Goals as goal

pub step_in_all-requires : goal.step_in_all-requires
step_in_all-requires c = rw (← c.self.view_is) at c.requires

pub invariant_of-self : goal.invariant_of-self
invariant_of-self c =
    let goes = went _ _ c.self.view_is c.step_in_all.new.self c.step_in_all.ensures.columns c.step_in_all.ensures.kept c.is_well_formed.ensures.constant in
    let left = step_leaves _ (some_columns _ _ c.self.view_is c.is_well_formed.ensures.session) _ _ c.in-Ok.ensures.steps in
    let counted : c.saturating_add-self-inside.result ≡ one_more c.self.inside.count = search rules in
    (held_more _ _ c.self.invariant.0 goes c.saturating_add-self-inside.result counted left, c.self.invariant.1)

pub invariant_of-self-in-Err : goal.invariant_of-self-in-Err
invariant_of-self-in-Err c =
    let goes = went _ _ c.self.view_is c.step_in_all.new.self c.step_in_all.ensures.columns c.step_in_all.ensures.kept c.is_well_formed.ensures.constant in
    let left = stay_leaves _ (some_columns _ _ c.self.view_is c.is_well_formed.ensures.session) _ _ c.in-Err.ensures.err in
    (held_left _ _ c.self.invariant.0 goes _ left c.self.invariant.0.counted, c.self.invariant.1)

pub returns-in-Ok : goal.returns-in-Ok
returns-in-Ok c =
    let goes = went _ _ c.self.view_is c.step_in_all.new.self c.step_in_all.ensures.columns c.step_in_all.ensures.kept c.is_well_formed.ensures.constant in
    let counted = goes_counted _ _ goes c.saturating_add-self-inside.result in
    rw (← c.self.view_is)
    (record {
      steps = step_on _ _ c.self.invariant.0 counted c.in-Ok.ensures.steps;
      stays = stays_on _ _ c.self.invariant.0 counted;
      keeps = goes.keeps;
      fits = c.step_in_all.ensures.fits;
      own = tt;
    })

pub returns-in-Err : goal.returns-in-Err
returns-in-Err c =
    let goes = went _ _ c.self.view_is c.step_in_all.new.self c.step_in_all.ensures.columns c.step_in_all.ensures.kept c.is_well_formed.ensures.constant in
    rw (← c.self.view_is)
    (record {
      own = rw c.fault_at.ensures (graph_own c.args.number c.in-Err.fault);
      steps = tt;
      fits = c.step_in_all.ensures.fits;
      stays = stays_on _ _ c.self.invariant.0 goes;
      keeps = goes.keeps;
    })
