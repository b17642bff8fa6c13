-- One assignment more; at a fault at it something is told of those that are left.
use Rattle.std.proofs.Common.{◌+◌, ℕ, List, All, drop, Err, refl, sym, ap, subst, ◌∙◌, arith}
use Rattle.std.proofs.lemmas.List.{drop_all}
use Rattle.std.proofs.lemmas.List.Elements.{All-drop, All-head}
use Rattle.std.proofs.lemmas.Result.{err_from_is_err_and}
use Rattle.session_meaning.specs.Sessions.{SessionData}
use Rattle.symbol_script.specs.declared.line.Assignment.{Assignment}
use Rattle.symbol_giving.specs.Giving.{data_of}
use Rattle.symbol_giving.specs.StandIns.{IsGiven}
use Rattle.symbol_giving.proofs.LetterLemmas.{only_both, only_none, table_more}
use Rattle.symbol_expecting.specs.Faults.{RefusedExpected, faults_expected}
use Rattle.symbol_expecting.proofs.ToldLemmas.{comes_first, comes_last, comes_on, comes_to_part, meant_one}
use Rattle.symbol_expecting.proofs.expecting.expect_all.Goals as goal

pub loop-k-init : goal.loop-k-init
loop-k-init g c = record {
  only = only_none c.args.session.now;
  table = c.requires.table;
  come = λ v meant. comes_first v (data_of c.args.session.now) g.L.SymbolLines.hear c.args.list.now (g.L.SymbolLines.heard c.args.out.now);
  faults = refl;
  refusals = refl;
}

pub expect_one-requires : goal.expect_one-requires
expect_one-requires g c =
    let first = c.args.session.now in
    let now = c.loop-k.session in
    let inv = c.loop-k.invariant in
    let list = c.args.list.now in
    let given = IsGiven first.core.circuit first.core.vectors in
    let left = subst (λ (items : List Assignment). All given items) c.assignment_at-own.ensures (All-drop given c.loop-k.k list c.requires.given) in
    record {
      table = inv.table;
      count = c.requires.count ∙ ap (λ (core : SessionData). core.count) (sym inv.only.core);
      given = subst (λ (core : SessionData). IsGiven core.circuit core.vectors c.assignment_at-own.result.now) (sym inv.only.core)
          (All-head given c.assignment_at-own.result.now (drop (c.loop-k.k + 1) list) left);
    }

pub loop-k-preserved : goal.loop-k-preserved
loop-k-preserved g c =
    let first = c.args.session.now in
    let now = c.loop-k.session in
    let new = c.expect_one.new.session in
    let inv = c.loop-k.invariant in
    let list = c.args.list.now in
    let own = c.assignment_at-own.result.now in
    let rest = drop (c.loop-k.k + 1) list in
    record {
      only = only_both first now new inv.only c.expect_one.ensures.only;
      table = table_more now.stage new.stage c.args.table.now c.expect_one.ensures.only.makes inv.table;
      come = λ v meant.
          comes_on v (data_of first) g.L.SymbolLines.hear list (drop c.loop-k.k list) rest own (g.L.SymbolLines.heard c.args.out.now)
          (g.L.SymbolLines.heard c.loop-k.out) (g.L.SymbolLines.heard c.expect_one.new.out) c.loop-k.missed c.in_ok-told.told c.assignment_at-own.ensures
          (inv.come v meant)
          (c.in_ok-told.ensures.told first v inv.only c.requires.table (meant_one first c.args.table.now list rest c.loop-k.k own v c.assignment_at-own.ensures meant));
      faults = c.in_ok-told.ensures.faults ∙ inv.faults;
      refusals = c.in_ok-told.ensures.refusals ∙ inv.refusals;
    }

pub returns-in_err-told : goal.returns-in_err-told
returns-in_err-told g c =
    let list = c.args.list.now in
    let rest = drop (c.loop-k.k + 1) list in
    let first = c.args.session.now in
    let own = c.assignment_at-own.result.now in
    let inv = c.loop-k.invariant in
    let stopped = err_from_is_err_and c.from_residual.result c.from_residual.ensures.1 in
    rw stopped.1
    (record {
      told = λ v meant.
          comes_to_part v (data_of first) g.L.SymbolLines.hear g.L.SymbolLines.part list (drop c.loop-k.k list) rest own (g.L.SymbolLines.heard c.args.out.now)
          (g.L.SymbolLines.heard c.loop-k.out) (g.L.SymbolLines.heard c.expect_one.new.out) c.loop-k.missed c.assignment_at-own.ensures (inv.come v meant)
          (c.in_err-told.ensures.told first v inv.only c.requires.table (meant_one first c.args.table.now list rest c.loop-k.k own v c.assignment_at-own.ensures meant));
      only = only_both first c.loop-k.session c.expect_one.new.session inv.only c.expect_one.ensures.only;
      spent = rw stopped.2 c.in_err-told.ensures.spent;
      faults = rw stopped.2 (c.in_err-told.ensures.faults ∙ ap (λ (n : ℕ). faults_expected n (Err c.in_err-told.field-0.0)) inv.faults);
      refusals = rw stopped.2
          (subst (λ (n : ℕ). RefusedExpected n (g.L.SymbolLines.refusals c.expect_one.new.out) (Err c.in_err-told.field-0.0)) inv.refusals
          c.in_err-told.ensures.refusals);
    })

pub returns-clause-told : goal.returns-clause-told
returns-clause-told g c = λ v meant.
    let list = c.args.list.now in
    comes_last v (data_of c.args.session.now) g.L.SymbolLines.hear list (drop c.loop-k.k list) (g.L.SymbolLines.heard c.args.out.now)
    (g.L.SymbolLines.heard c.loop-k.out) c.loop-k.missed (drop_all c.loop-k.k list (omega (arith, c.loop-k-test.false))) (c.loop-k.invariant.come v meant)
