-- One part after the other.
use Rattle.std.proofs.Common.{◌∙◌, ap}
use Rattle.wave_dump.specs.Entries.{entries_of, shown_of}
use Rattle.wave_dump.specs.Pens.{PenData}
use Rattle.wave_dump.proofs.HeaderLemmas.{header_put}
use Rattle.wave_dump.proofs.header.write_header.Goals as goal

pub returns-clause-text : goal.returns-clause-text
returns-clause-text g c =
    ap (λ (pen : PenData). pen.text) c.send_line.ensures
    ∙ header_put (entries_of c.args.entries.now) (shown_of c.args.entries.now) c.args.pen.now.text c.put.new.self.text c.write_entries.new.pen.text
    c.put-2.new.self.text c.write_values.new.pen.text c.put-3.new.self.text c.put.ensures.text c.write_entries.ensures.text c.put-2.ensures.text
    c.write_values.ensures.text c.put-3.ensures.text
