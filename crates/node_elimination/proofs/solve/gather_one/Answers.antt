-- What comes from j is added, since j is left.
use Rattle.std.proofs.Common.{◌∙◌, sym}
use Rattle.std.proofs.lemmas.Result.{on_ok_weaker}
use Rattle.node_elimination.proofs.PassingLemmas.{PutsRight-same, with_next-left}
use Rattle.node_elimination.proofs.solve.gather_one.Goals as goal

pub returns-clause-gathers : goal.returns-clause-gathers
returns-clause-gathers g c =
    let k = c.args.k in
    let j = c.args.j in
    on_ok_weaker c.pass_right.result
    (λ puts.
    PutsRight-same k _ _ _ _ _ _
    (λ vars. with_next-left c.args.pool.now c.args.system.now vars k j (sym c.is_left.ensures ∙ c.if-not-is_left.false))
    puts)
    c.pass_right.ensures.passes
