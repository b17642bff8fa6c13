-- The names of what was read are visible; a circuit without a listing has a group that is too large, or memory was lacking.
use Rattle.std.proofs.Common.{inl, inr}
use Rattle.group_meaning.proofs.ExistingGroups.{exists}
use Rattle.circuit_reports.proofs.ListLemmas.{told_listing, told_too_large}
use Rattle.circuit_reports.proofs.compile.write_listing.Goals as goal

pub list_circuit-requires : goal.list_circuit-requires
list_circuit-requires g c = λ node inside.
    let name = c.requires.visible node inside in
    record { some = name.some; visible = name.visible }

pub refuse_size-requires : goal.refuse_size-requires
refuse_size-requires g c = elim c.in-Err.ensures.refused [ inl is ↦ inl is | inr first ↦ inr (0, first.0) ]

pub returns-in-Ok-clause-told : goal.returns-in-Ok-clause-told
returns-in-Ok-clause-told g c =
    let found = exists c.args.circuit.now.graph c.requires.circuit.wired in
    told_listing c.args.circuit.now c.in-Ok.listing c.send_listing.ensures.listing c.in-Ok.ensures.listing c.in-Ok.ensures.fits found.0 found.1
    (g.S.Sink.written c.args.out.now) (g.S.Sink.written c.send_listing.new.out)
    (g.A.Analyst.analysed c.args.analyst.now) (g.A.Analyst.analysed c.list_circuit.new.analyst) c.send_listing.result
    (c.in-Ok.ensures.analysed found.0 found.1) c.send_listing.ensures.told

pub returns-in-Err-clause-told : goal.returns-in-Err-clause-told
returns-in-Err-clause-told g c =
    told_too_large c.args.circuit.now c.in-Err.fault (g.S.Sink.written c.args.out.now) (g.S.Sink.written c.refuse_size.new.out)
    (g.A.Analyst.analysed c.args.analyst.now) (g.A.Analyst.analysed c.list_circuit.new.analyst) c.refuse_size.result
    c.in-Err.ensures.refused c.refuse_size.ensures.memory
    (c.refuse_size.ensures.told 0 (elim c.in-Err.ensures.refused [ inl is ↦ inl is | inr first ↦ inr first.0 ]))
