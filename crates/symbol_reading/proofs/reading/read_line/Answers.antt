-- The line holds the first byte too many, or it is read.
use Rattle.std.proofs.Common.{inl, refl}
use Rattle.script_lang.specs.declared.command.ScriptFault.TheVariants.{NoMemory}
use Rattle.script_meaning.proofs.TurnLemmas.{is_inside}
use Rattle.symbol_reading.proofs.ReadingLemmas.{is_at, reads, unread_ends}
use Rattle.symbol_reading.proofs.reading.read_line.Goals as goal

pub returns-then-eq : goal.returns-then-eq
returns-then-eq c = (inl (is_at c.args.cut c.args.line.number c.eq.result c.eq.ensures c.if-eq.true), refl, refl)

pub returns-in-Ok : goal.returns-in-Ok
returns-in-Ok c =
    reads c.args.quiet c.args.cut c.args.names.now c.take_line.new.names c.args.bound.now c.take_line.new.bound (c.args.line.number, c.args.line.bytes.now)
    c.in-Ok.asked c.take_line.result (is_inside c.args.cut c.args.line.number c.eq.result c.eq.ensures c.if-eq.false) c.in-Ok.ensures.ok c.take_line.ensures

pub returns-in-Err : goal.returns-in-Err
returns-in-Err c =
    unread_ends c.args.quiet c.args.cut c.args.names.now c.args.bound.now (c.args.line.number, c.args.line.bytes.now) c.in-Err.fault NoMemory
    c.unread.result c.in-Err.ensures.refused c.unread.ensures
