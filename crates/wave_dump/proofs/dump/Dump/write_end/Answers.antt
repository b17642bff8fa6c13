-- What comes before the line of a refusal, and then that line.
use Rattle.wave_dump.proofs.SheetLemmas.{ended}
use Rattle.wave_dump.proofs.dump.Dump.write_end.Goals as goal

pub returns-clause-due : goal.returns-clause-due
returns-clause-due g c =
    let mid = c.write_ending.new.self.sheet in
    ended c.args.self.now.sheet c.args.states.now mid.refused mid.due c.write_refusal.new.self.sheet.due c.write_ending.ensures.due
    c.write_ending.ensures.refused c.write_refusal.ensures.due
