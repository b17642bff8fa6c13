-- One line more is put, and at the end all are.
use Rattle.std.proofs.Common.{◌∙◌, arith}
use Rattle.wave_dump.proofs.HeaderLemmas.{entry_more, entries_put}
use Rattle.wave_dump.proofs.header.write_entries.Goals as goal

pub loop-number-preserved : goal.loop-number-preserved
loop-number-preserved g c = record {
  leaves = entry_more c.args.entries.now c.loop-number.number c.args.pen.now.text c.loop-number.pen.text c.index-entries-number.result c.write_entry.new.pen.text
      c.loop-number-test.true c.index-entries-number.is c.loop-number.invariant.leaves c.write_entry.ensures.text;
  before = c.write_entry.ensures.before ∙ c.loop-number.invariant.before;
}

pub returns-clause-text : goal.returns-clause-text
returns-clause-text g c =
    entries_put c.args.entries.now c.loop-number.number c.args.pen.now.text c.loop-number.pen.text
    (omega (arith, c.loop-number-test.false)) c.loop-number.invariant.leaves
