-- One change more.
use Rattle.std.proofs.Common.{get_or, subst, arith}
use Rattle.std.proofs.lemmas.List.{get_or_default, take_all}
use Rattle.word_columns.proofs.ColumnLemmas.{column-none}
use Rattle.column_machines.specs.declared.evaluation.WordChange.{WordChange}
use Rattle.column_machines.proofs.TakingLemmas.{AreChanged, AreChanged-more}
use Rattle.column_machines.proofs.taking.changed_columns.Goals as goal

first : WordChange
first = record { node = 0; hi = 0; lo = 0 }

pub loop-change-init : goal.loop-change-init
loop-change-init c = record {
  set = λ column set. absurd (cc (column-none column, set));
  unset = λ column unset change (k, inside, here). absurd (omega (arith, inside));
}

pub loop-change-preserved : goal.loop-change-preserved
unfolding first
loop-change-preserved c =
    let i = c.loop-change.change-index in
    let change = get_or c.args.changes.now i first in
    AreChanged-more c.args.used c.args.hi.now c.args.lo.now c.args.changes.now i change c.loop-change.columns c.differing-columns.result c.loop-change-test.true
    (get_or_default c.args.changes.now i first change c.loop-change-test.true) c.differing-columns.ensures c.loop-change.invariant

pub returns-clause-set : goal.returns-clause-set
returns-clause-set c =
    let all = take_all c.loop-change.change-index c.args.changes.now (omega (arith, c.loop-change-test.false)) in
    (subst (λ xs. AreChanged c.args.used c.args.hi.now c.args.lo.now xs c.loop-change.columns) all c.loop-change.invariant).set

pub returns-clause-unset : goal.returns-clause-unset
returns-clause-unset c =
    let all = take_all c.loop-change.change-index c.args.changes.now (omega (arith, c.loop-change-test.false)) in
    (subst (λ xs. AreChanged c.args.used c.args.hi.now c.args.lo.now xs c.loop-change.columns) all c.loop-change.invariant).unset
