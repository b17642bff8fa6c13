-- The parts are those of a machine that fits the graph, all of them marked, so each column fits it.
use Rattle.std.proofs.Common.{◌≡◌, length, sym, subst, ◌∙◌, arith}
use Rattle.machine_laws.specs.Columns.{AreSeated}
use Rattle.machine_parts.specs.Parts.{ReadsAt, IsStale}
use Rattle.machine_laws.proofs.HeldLemmas.{coded_without}
use Rattle.truth_parts.proofs.FittingLemmas.{FitsInAll-fresh}
use Rattle.truth_parts.proofs.StepLemmas.{AreColumns-has}
use Rattle.truth_machine.specs.Machines.{FitsInMachine}
use Rattle.truth_machine.proofs.MakingLemmas.{if_made}
use Rattle.truth_machine.proofs.machine.TruthMachine.of_machine.Goals as goal

pub of_parts-requires : goal.of_parts-requires
of_parts-requires g c =
    let m = c.args.machine in
    let hi = c.args.hi.now in
    let lo = c.args.lo.now in
    let fits = c.requires.machine in
    let counted : length m.state ≡ length hi = fits.covers.counted ∙ sym c.requires.highs in
    let parts = c.into_parts.ensures.parts in
    record {
      columns = AreColumns-has (g.T.Truths.columns c.args.truths) (g.T.Truths.holds c.args.truths) hi lo (c.requires.lows ∙ sym c.requires.highs)
          (λ column inside. let has = c.requires.sound column inside in (has.state, has.has));
      high_has = c.requires.high_has;
      low_has = c.requires.low_has;
      seated = rw parts (subst (λ n. AreSeated n m.parts) counted c.into_parts.ensures.seated);
      apart = rw parts c.into_parts.ensures.apart;
      fresh = rw parts (λ k (stale : IsStale m.parts k). coded_without c.args.graph.now m fits c.requires.without k stale.part stale.stands stale.some stale.none);
      reads = rw parts (λ k node (reads : ReadsAt m.parts k node). omega (arith, c.into_parts.ensures.reads k node reads, counted));
    }

pub returns-clause-fits : goal.returns-clause-fits
returns-clause-fits g c =
    let graph = c.args.graph.now in
    if_made _ (FitsInMachine g.T.Truths.columns g.T.Truths.holds graph) c.of_parts.result c.of_parts.ensures
    (FitsInAll-fresh graph c.args.machine (g.T.Truths.columns c.args.truths) (g.T.Truths.holds c.args.truths) c.into_parts.result.items c.args.hi.now c.args.lo.now
    c.requires.machine c.requires.without c.into_parts.ensures.parts (c.requires.lows ∙ sym c.requires.highs) c.requires.sound)
