-- A line comes to what its command comes to in each column, or is refused as it is read.
use Rattle.std.proofs.Common.{◌<◌, sym, ◌∙◌, inl, arith}
use Rattle.run_ends.specs.Stops.{IsRefusedOnce}
use Rattle.script_meaning.proofs.TurnLemmas.{is_inside}
use Rattle.session_meaning.specs.Columns.{column_of}
use Rattle.column_run.specs.Turns.{AskInAll, TakesTurn}
use Rattle.column_run.proofs.TurnLemmas.{takes_turn, are_unread, keep_all, asks_in_all, idle_in_all, unread_in}
use Rattle.column_run.proofs.columns.run_line.Given.{Over}
use Rattle.column_run.proofs.columns.run_line.Goals.{After-turn_of}
use Rattle.column_run.proofs.columns.run_line.Goals as goal

pub apply_columns-requires : goal.apply_columns-requires
apply_columns-requires g c =
    let session = c.args.session.now in
    let inside = is_inside c.args.cut c.args.line.number c.eq.result c.eq.ensures c.if-eq.false in
    let asks : AskInAll (g.M.Columns.columns session.stage) c.args.cut (column_of g.M.Columns.states session) (c.args.line.number, c.args.line.bytes.now) c.in-Ok-Some.command =
    asks_in_all (g.M.Columns.columns session.stage) c.columns.result c.args.cut (column_of g.M.Columns.states session) (c.args.line.number, c.args.line.bytes.now)
    c.in-Ok-Some.field-0 inside c.columns.ensures.value c.in-Ok-Some.command c.in-Ok-Some.field-0-is c.in-Ok-Some.ensures.ok c.in-Ok-Some.ensures.formed in
    asks.formed

-- the line's command has ended in each column
command_ended : (g : Over) (c : After-turn_of g) →
    TakesTurn g.L.Lines.hear g.L.Lines.part (g.M.Columns.columns c.args.session.now.stage) c.args.cut (c.args.line.number, c.args.line.bytes.now)
    (column_of g.M.Columns.states c.args.session.now) (column_of g.M.Columns.states c.apply_columns.new.self) (g.L.Lines.heard c.args.out.now)
    (g.L.Lines.heard c.apply_columns.new.out) (g.A.Analyst.analysed c.args.analyst.now) (g.A.Analyst.analysed c.apply_columns.new.analyst) c.turn_of.result
    × IsRefusedOnce (g.L.Lines.refusals c.args.out.now) (g.L.Lines.refusals c.apply_columns.new.out) c.turn_of.result
command_ended g c =
    let session = c.args.session.now in
    let columns = g.M.Columns.columns session.stage in
    let sessions = column_of g.M.Columns.states session in
    let some : 0 < g.M.Columns.columns session.stage = omega (arith, c.columns.ensures.value, c.columns.ensures.some) in
    let inside = is_inside c.args.cut c.args.line.number c.eq.result c.eq.ensures c.if-eq.false in
    let asks = asks_in_all columns c.columns.result c.args.cut sessions (c.args.line.number, c.args.line.bytes.now) c.in-Ok-Some.field-0
    inside c.columns.ensures.value c.in-Ok-Some.command c.in-Ok-Some.field-0-is c.in-Ok-Some.ensures.ok c.in-Ok-Some.ensures.formed in
    rw c.turn_of.ensures.turn
    (takes_turn g.M.Columns.cuts g.L.Lines.hear g.L.Lines.part columns some c.args.cut (c.args.line.number, c.args.line.bytes.now) c.in-Ok-Some.command sessions
    (column_of g.M.Columns.states c.apply_columns.new.self) _ _ _ _ _ _ asks c.apply_columns.result c.apply_columns.ensures.obeys)

pub returns-in-Ok-Some-clause-turn : goal.returns-in-Ok-Some-clause-turn
returns-in-Ok-Some-clause-turn g c = (command_ended g (goal.at.returns-in-Ok-Some-clause-turn g c).After-turn_of).0

pub returns-in-Ok-Some-clause-refused : goal.returns-in-Ok-Some-clause-refused
returns-in-Ok-Some-clause-refused g c = (command_ended g (goal.at.returns-in-Ok-Some-clause-refused g c).After-turn_of).1

pub returns-in-Ok-None-clause-turn : goal.returns-in-Ok-None-clause-turn
returns-in-Ok-None-clause-turn g c =
    let session = c.args.session.now in
    let columns = g.M.Columns.columns session.stage in
    let sessions = column_of g.M.Columns.states session in
    let inside = is_inside c.args.cut c.args.line.number c.eq.result c.eq.ensures c.if-eq.false in
    inl (record {
      idle = idle_in_all columns c.columns.result c.args.cut sessions (c.args.line.number, c.args.line.bytes.now) c.in-Ok-None.field-0 inside
          c.columns.ensures.value c.in-Ok-None.field-0-is c.in-Ok-None.ensures.ok;
      keeps = keep_all columns sessions _ _;
    })

pub returns-in-Some-clause-turn : goal.returns-in-Some-clause-turn
returns-in-Some-clause-turn g c =
    let session = c.args.session.now in
    let columns = g.M.Columns.columns session.stage in
    let sessions = column_of g.M.Columns.states session in
    let inside = is_inside c.args.cut c.args.line.number c.eq.result c.eq.ensures c.if-eq.false in (
      are_unread columns c.args.cut sessions (c.args.line.number, c.args.line.bytes.now) c.in-Err.fault _ inside
          (unread_in columns c.columns.result c.args.line.bytes.now c.in-Err.fault c.columns.ensures.value c.in-Err.ensures.refused)
          (sym c.script_code.ensures ∙ c.in-Some.is),
      keep_all columns sessions _ _,
    )
