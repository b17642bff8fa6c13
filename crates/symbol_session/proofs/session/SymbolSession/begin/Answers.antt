-- The pieces are a session at its start.
use Rattle.std.proofs.Common.{◌≡◌, true, false, [], refl, sym, subst, ◌∙◌, arith}
use Rattle.std.proofs.lemmas.Nat.{pow_pos}
use Rattle.line_words.specs.Files as file
use Rattle.symbol_meaning.specs.Scripts.{read_of}
use Rattle.symbol_session.specs.Sessions.{SymbolData}
use Rattle.symbol_session.specs.Starting.{AreApart}
use Rattle.symbol_session.proofs.StartLemmas.{HasStarted, started, variables_apart}
use Rattle.symbol_session.proofs.session.SymbolSession.begin.Goals as goal

pub pieces-requires-clause-apart : goal.pieces-requires-clause-apart
pieces-requires-clause-apart c =
    subst (AreApart []) (sym c.requires.variables)
    (variables_apart (read_of c.args.quiet (file.cut_line c.args.text.text) (file.lines_in c.args.text.text)))

pub over-session-requires-clause-some : goal.over-session-requires-clause-some
over-session-requires-clause-some c = pow_pos c.in-Ok.stage.machine.maker.graph.variables

pub over-session-requires-clause-start : goal.over-session-requires-clause-start
over-session-requires-clause-start c = c.in-Ok.ensures.stage.states

pub over-session-requires-clause-serves : goal.over-session-requires-clause-serves
over-session-requires-clause-serves c = λ kept built. absurd (let e : true ≡ false = sym built ∙ c.in-Ok.ensures.stage.unbuilt in cc e)

pub invariant_of-result : goal.invariant_of-result
invariant_of-result c = (
  (started
      (record { session = c.over-session.result; names = c.pieces.new.names; kept = c.in-Ok.kept.items; saves = c.new.result.items; count = 0; quiet = c.args.quiet; text = c.args.text.text })
      c.args.symbols c.args.circuit c.args.variables.now c.in-Ok.stage c.over-session.ensures.stage c.in-Ok.ensures.stage c.in-Ok.ensures.named
      c.in-Ok.ensures.kept c.new.ensures.items refl c.requires.maker c.requires.variables c.over-session.ensures.start).session,
  omega arith,
)

pub returns-in-Ok : goal.returns-in-Ok
returns-in-Ok c =
    let d : SymbolData = record { session = c.over-session.result; names = c.pieces.new.names; kept = c.in-Ok.kept.items; saves = c.new.result.items; count = 0; quiet = c.args.quiet; text = c.args.text.text } in
    let is : HasStarted d c.args.symbols c.args.circuit =
    started d c.args.symbols c.args.circuit c.args.variables.now c.in-Ok.stage c.over-session.ensures.stage c.in-Ok.ensures.stage c.in-Ok.ensures.named
    c.in-Ok.ensures.kept c.new.ensures.items refl c.requires.maker c.requires.variables c.over-session.ensures.start in
    record { quiet = refl; text = refl; starts = is.starts; serves = is.serves; keeps = is.keeps; own = tt; some = tt }
