-- One line more is put, and at the end all are.
use Rattle.std.proofs.Common.{◌++◌, ◌∙◌, List, ap, arith}
use Rattle.ternary.specs.declared.tern.Tern.{Tern}
use Rattle.wave_dump.specs.Values.{value_line}
use Rattle.wave_dump.proofs.HeaderLemmas.{value_more, values_put}
use Rattle.wave_dump.proofs.header.write_values.Goals as goal

pub loop-number-preserved : goal.loop-number-preserved
loop-number-preserved g c =
    let number = c.loop-number.number in
    let now = c.loop-number.pen.text in
    record {
      leaves = value_more c.args.entries.now number c.args.pen.now.text now c.index-entries-number.result c.write_value.new.pen.text
          c.loop-number-test.true c.index-entries-number.is c.loop-number.invariant.leaves
          (c.write_value.ensures.text ∙ ap (λ (value : List Tern). now ++ value_line number value) c.shown.ensures);
      before = c.write_value.ensures.before ∙ c.loop-number.invariant.before;
    }

pub returns-clause-text : goal.returns-clause-text
returns-clause-text g c =
    values_put c.args.entries.now c.loop-number.number c.args.pen.now.text c.loop-number.pen.text
    (omega (arith, c.loop-number-test.false)) c.loop-number.invariant.leaves
