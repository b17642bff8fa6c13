-- What stands for the rails of both notes is put back into both.
use Rattle.std.proofs.Common.{All, subst, sym}
use Rattle.std.proofs.lemmas.Result.{err_from_is_err_and}
use Rattle.truth_makers.specs.Makers.{IsFunctionOf}
use Rattle.symbol_equiv.proofs.FaultLemmas.{graph_leaves}
use Rattle.symbol_equiv.proofs.KeptLemmas.{both_back, both_inside, both_long}
use Rattle.symbol_equiv.proofs.tidying.leave.Goals as goal

pub leave-requires : goal.leave-requires
leave-requires g c =
    subst (All (IsFunctionOf (g.M.SharesMaker.maker c.args.session.now))) (sym c.in_ok-all.ensures.all)
    (both_inside (g.M.SharesMaker.maker c.args.session.now) c.args.kept.now c.args.notes.now c.requires.kept c.requires.noted)

pub returns-in_err-symbols-clause-unwritten : goal.returns-in_err-symbols-clause-unwritten
returns-in_err-symbols-clause-unwritten g c =
    let stopped = err_from_is_err_and c.from_residual-in_err-symbols.result c.from_residual-in_err-symbols.ensures.1 in
    rw (stopped.1, stopped.2) (graph_leaves c.in_err-symbols.field-0.0)

pub put_both-requires-clause-enough : goal.put_both-requires-clause-enough
put_both-requires-clause-enough g c =
    both_long (g.M.SharesMaker.maker c.args.session.now) c.in_ok-symbols.symbols c.args.kept.now c.args.notes.now _ _ _ c.in_ok-all.ensures.all
    c.in_ok-symbols.ensures c.deref.ensures.value

pub returns-clause-columns : goal.returns-clause-columns
returns-clause-columns g c = c.in_ok-symbols.ensures.columns

pub returns-clause-kept : goal.returns-clause-kept
returns-clause-kept g c =
    (both_back (g.M.SharesMaker.maker c.args.session.now) c.in_ok-symbols.symbols c.args.kept.now c.args.notes.now _ _ _ c.in_ok-all.ensures.all
    c.in_ok-symbols.ensures c.deref.ensures.value _ _ c.requires.kept c.requires.noted c.put_both.ensures.kept c.put_both.ensures.notes).0

pub returns-clause-noted : goal.returns-clause-noted
returns-clause-noted g c =
    (both_back (g.M.SharesMaker.maker c.args.session.now) c.in_ok-symbols.symbols c.args.kept.now c.args.notes.now _ _ _ c.in_ok-all.ensures.all
    c.in_ok-symbols.ensures c.deref.ensures.value _ _ c.requires.kept c.requires.noted c.put_both.ensures.kept c.put_both.ensures.notes).1
