-- The line is told by the session, so it is that of the script's columns, with rails of the maker.
use Rattle.std.proofs.Common.{ℕ, [], ◌∷◌, sym, ◌∙◌}
use Rattle.settling.specs.declared.settling.Settled.{Settled}
use Rattle.symbol_looking.specs.Waves.{wave_of}
use Rattle.symbol_session.specs.Sessions.{SymbolData}
use Rattle.symbol_session.proofs.MovedLemmas.{heard_faults, heard_refusals, heard_stops, on_heard, told_heard, wave_railed}
use Rattle.symbol_session.proofs.session.SymbolSession.tell_moved.Goals as goal

pub tell_wave-told-requires : goal.tell_wave-told-requires
tell_wave-told-requires g c = record { number = c.self.invariant.0.counted }

pub returns-clause-heard : goal.returns-clause-heard
returns-clause-heard g c =
    rw (← c.self.view_is, c.heard_by.ensures)
    (told_heard g.L.SymbolLines.hear g.L.SymbolLines.part (g.L.SymbolLines.heard c.args.out.now) (g.L.SymbolLines.heard c.tell_wave-told.new.out)
    (wave_of c.self.inside.session c.args.told ∷ []) c.tell_wave-told.result c.tell_wave-told.ensures.heard)

pub returns-clause-merged : goal.returns-clause-merged
returns-clause-merged g c = rw (← c.self.view_is) c.tell_wave-told.ensures.merged

pub returns-clause-railed : goal.returns-clause-railed
returns-clause-railed g c =
    let i = c.self.inside in
    let d : SymbolData = record { session = i.session; names = i.outside.names; kept = i.outside.kept.items; saves = i.saves.items; count = i.count; quiet = i.quiet; text = i.text.text } in
    rw (← c.self.view_is, c.heard_by.ensures)
    (λ (count : ℕ → Settled). on_heard (wave_railed d c.args.told count) c.tell_wave-told.result c.tell_wave-told.ensures.rails)

pub returns-clause-number : goal.returns-clause-number
returns-clause-number g c = λ number. rw c.heard_by.ensures (heard_stops c.tell_wave-told.result number)

pub returns-clause-write : goal.returns-clause-write
returns-clause-write g c = rw c.heard_by.ensures (c.tell_wave-told.ensures.faults ∙ sym (heard_faults c.tell_wave-told.result (g.L.SymbolLines.faults c.args.out.now)))

pub returns-clause-refused : goal.returns-clause-refused
returns-clause-refused g c =
    rw c.heard_by.ensures
    (heard_refusals c.tell_wave-told.result (g.L.SymbolLines.refusals c.args.out.now) (g.L.SymbolLines.refusals c.tell_wave-told.new.out) c.tell_wave-told.ensures.refusals)
