-- What stands for the rails of both notes is put back into both.
use Rattle.std.proofs.Common.{All, subst, sym}
use Rattle.truth_makers.specs.Makers.{IsFunctionOf}
use Rattle.symbol_equiv.proofs.KeptLemmas.{both_back, both_inside, both_long}
use Rattle.symbol_equiv.proofs.tidying.tidy.Goals as goal

pub tidy-requires : goal.tidy-requires
tidy-requires g c = record {
  inside = subst (All (IsFunctionOf (g.M.SharesMaker.maker c.args.session.now))) (sym c.in-Ok.ensures.all)
      (both_inside (g.M.SharesMaker.maker c.args.session.now) c.args.kept.now c.args.notes.now c.requires.kept c.requires.noted);
}

pub put_both-requires-clause-enough : goal.put_both-requires-clause-enough
put_both-requires-clause-enough g c =
    both_long (g.M.SharesMaker.maker c.args.session.now) (g.M.SharesMaker.maker c.tidy.new.self) c.args.kept.now c.args.notes.now _ _ _ c.in-Ok.ensures.all
    c.tidy.ensures.moved c.deref.ensures.value

pub returns-clause-kept : goal.returns-clause-kept
returns-clause-kept g c =
    (both_back (g.M.SharesMaker.maker c.args.session.now) (g.M.SharesMaker.maker c.tidy.new.self) c.args.kept.now c.args.notes.now _ _ _ c.in-Ok.ensures.all
    c.tidy.ensures.moved c.deref.ensures.value _ _ c.requires.kept c.requires.noted c.put_both.ensures.kept c.put_both.ensures.notes).0

pub returns-clause-noted : goal.returns-clause-noted
returns-clause-noted g c =
    (both_back (g.M.SharesMaker.maker c.args.session.now) (g.M.SharesMaker.maker c.tidy.new.self) c.args.kept.now c.args.notes.now _ _ _ c.in-Ok.ensures.all
    c.tidy.ensures.moved c.deref.ensures.value _ _ c.requires.kept c.requires.noted c.put_both.ensures.kept c.put_both.ensures.notes).1
