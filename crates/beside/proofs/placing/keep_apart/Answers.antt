-- The part may go back, or is kept.
use Rattle.std.proofs.Common.{inl, refl, sym, subst, arith}
use Rattle.std.proofs.lemmas.Bool.{OnFalse_at}
use Rattle.beside.specs.Returning.{GoesBack}
use Rattle.beside.proofs.ReturningLemmas.{kept_part}
use Rattle.beside.proofs.placing.keep_apart.Goals as goal

pub returns-then-not-stays_apart : goal.returns-then-not-stays_apart
returns-then-not-stays_apart c = record {
  count = refl;
  stays = λ l was. was;
  only = λ l is. inl is;
  back = λ out. OnFalse_at c.if-not-stays_apart.true c.stays_apart.ensures;
}

pub returns : goal.returns
returns c =
    subst (GoesBack c.args.touched.now.inside c.args.machine.now c.args.good.now c.args.k c.args.kept.now.inside) (sym c.insert.ensures.inside)
    (kept_part c.args.touched.now.inside c.args.machine.now c.args.good.now c.args.k c.args.kept.now.inside (omega (arith, c.requires.part, c.requires.kept)))
