-- A part that may go back isn't touched, isn't marked, and agrees.
use Rattle.std.proofs.lemmas.Bool.{OnFalse_from, OnTrue_at, not-false}
use Rattle.beside.specs.Returning.{MayGoBack}
use Rattle.beside.proofs.placing.stays_apart.Goals as goal

pub returns : goal.returns
returns c =
    OnFalse_from _ (MayGoBack c.args.touched.now.inside c.args.machine.now c.args.good.now c.args.k) (λ agrees. record {
      untouched = λ is. absurd (cc (c.if-contains.false, c.contains.ensures, is));
      unmarked = λ is. absurd (cc (c.if-is_marked.false, c.is_marked.ensures.1 is));
      agreed = OnTrue_at (not-false c.agrees_at.result agrees) c.agrees_at.ensures;
    })
