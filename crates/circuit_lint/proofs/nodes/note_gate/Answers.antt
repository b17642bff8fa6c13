-- No switch, or one whose gate counts one more.
use Rattle.std.proofs.Common.{sym, arith}
use Rattle.circuit_lint.proofs.TableLemmas.{gates_within, gates-some}
use Rattle.circuit_lint.proofs.nodes.note_gate.Goals as goal

pub raise-requires-clause-fits : goal.raise-requires-clause-fits
raise-requires-clause-fits c =
    omega (
      arith,
      c.ranges.place.fits,
      gates_within c.args.graph.now c.args.place c.args.gates.now.items c.in-Some.switch.gate c.requires.before c.requires.place c.in-Some.ensures.fits.gate,
    )

pub returns-in-Some : goal.returns-in-Some
returns-in-Some c =
    rw c.raise.ensures
    (gates-some c.args.graph.now c.args.place c.requires.place c.args.gates.now.items c.in-Some.switch (sym c.in-Some.ensures.value) c.in-Some.ensures.fits.gate
    c.requires.before)
