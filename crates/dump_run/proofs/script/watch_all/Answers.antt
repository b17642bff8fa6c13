-- One word after the other is watched.
use Rattle.std.proofs.Common.{ap, ◌∙◌, arith}
use Rattle.wave_dump.specs.Writing.{Sheet}
use Rattle.dump_run.proofs.SceneLemmas.{all_watched, next_watched}
use Rattle.dump_run.proofs.script.watch_all.Goals as goal

pub loop-name-preserved : goal.loop-name-preserved
loop-name-preserved g c =
    let watched = rw c.items.ensures at c.in_ok-watch_word.ensures.ok in
    record {
      watched = next_watched c.args.session.now.core c.args.names.now c.loop-name.name-index c.name-item.result _ c.watch_word.new.out.sheet _ (omega arith)
          c.name-item.is c.loop-name.invariant.watched watched;
      due = ap (λ (sheet : Sheet). sheet.due) watched ∙ c.loop-name.invariant.due;
      sink = ap (λ (sheet : Sheet). sheet.before) watched ∙ c.loop-name.invariant.sink;
      shown = ap (λ (sheet : Sheet). sheet.page.shown) watched ∙ c.loop-name.invariant.shown;
    }

pub returns-clause-ok : goal.returns-clause-ok
returns-clause-ok g c =
    all_watched c.args.session.now.core c.args.names.now c.loop-name.name-index c.loop-name.out.sheet _ (omega arith) c.loop-name.invariant.watched
