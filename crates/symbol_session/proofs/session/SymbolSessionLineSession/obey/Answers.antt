-- The line is obeyed; that functions are let go leaves the data of each column, the names and their truth values.
use Rattle.std.proofs.Common.{◌≡◌, ℕ, ◌<◌, Err, Ok, subst, sym, ◌∙◌}
use Rattle.std.proofs.lemmas.Result.{err_from_is_err_and}
use Rattle.script_meaning.specs.declared.turn.Turn.TheVariants.{Accepted}
use Rattle.symbol_session.specs.Sessions.{data_of, valuations_by}
use Rattle.symbol_session.proofs.DataLemmas.{inside_columns}
use Rattle.symbol_session.proofs.ServeLemmas.{serves_still, valuations_stay}
use Rattle.symbol_session.proofs.TurnLemmas.{turn_to}
use Rattle.symbol_session.proofs.session.SymbolSessionLineSession.obey.Goals as goal

-- ---- a fault ended it

pub returns-in_err-turn : goal.returns-in_err-turn
returns-in_err-turn g c =
    let stopped = err_from_is_err_and c.from_residual.result c.from_residual.ensures.1 in
    record {
      quiet = c.obey_line.ensures.quiet;
      valuations = valuations_stay c.args.self.now c.obey_line.new.self c.obey_line.ensures.quiet c.obey_line.ensures.text;
      turn = λ rest serves. rw stopped.1 (c.in_err-turn.ensures.turn rest serves);
      serves = λ rest serves accepted. absurd (let e : Err stopped.0 ≡ Ok Accepted = sym stopped.1 ∙ accepted in cc);
      number = rw (stopped.1, stopped.2) c.in_err-turn.ensures.number;
      write = rw (stopped.1, stopped.2) c.in_err-turn.ensures.write;
      refused = rw (stopped.1, stopped.2) c.in_err-turn.ensures.refused;
    }

-- ---- what became of it

pub returns-clause-quiet : goal.returns-clause-quiet
returns-clause-quiet g c = c.tidy_unless_quiet.ensures.stays.quiet ∙ c.obey_line.ensures.quiet

pub returns-clause-valuations : goal.returns-clause-valuations
returns-clause-valuations g c =
    valuations_stay c.args.self.now c.tidy_unless_quiet.new.self (c.tidy_unless_quiet.ensures.stays.quiet ∙ c.obey_line.ensures.quiet)
    (c.tidy_unless_quiet.ensures.stays.text ∙ c.obey_line.ensures.text)

pub returns-clause-turn : goal.returns-clause-turn
returns-clause-turn g c =
    let old = c.args.self.now in
    let mid = c.obey_line.new.self in
    let new = c.tidy_unless_quiet.new.self in
    λ rest serves.
    turn_to g.L.SymbolLines.hear g.L.SymbolLines.part old.quiet (valuations_by old) c.args.cut (data_of old) (data_of mid) (data_of new)
    (c.args.line.number, c.args.line.bytes.now) rest (g.L.SymbolLines.heard c.args.out.now) (g.L.SymbolLines.heard c.obey_line.new.out)
    (g.A.Analyst.analysed c.args.analyst.now) (g.A.Analyst.analysed c.obey_line.new.analyst) c.in_ok-turn.turn
    (λ column inside. c.tidy_unless_quiet.ensures.same column
    (subst (λ (n : ℕ). column < n) (sym c.obey_line.ensures.keeps.count) (inside_columns old c.is_well_formed.ensures.own column inside)))
    (c.in_ok-turn.ensures.turn rest serves)

pub returns-clause-serves : goal.returns-clause-serves
returns-clause-serves g c =
    let mid = c.obey_line.new.self in
    let new = c.tidy_unless_quiet.new.self in
    let stays = c.tidy_unless_quiet.ensures.stays in
    λ rest serves accepted.
    serves_still mid new c.is_well_formed-2.ensures.own stays.quiet stays.text stays.names stays.truths c.args.cut rest
    (c.in_ok-turn.ensures.serves rest serves accepted)
