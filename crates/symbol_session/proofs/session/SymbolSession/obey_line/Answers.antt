-- The line is read, and what it asks for is done in all columns, or it is refused as it is read.
use Rattle.std.proofs.Common.{◌≡◌, ◌⊎◌, ℕ, Bool, List, ◌∷◌, Option, None, Some, Ok, Err, refl, sym, ap, subst, ◌∙◌}
use Rattle.script_lang.specs.declared.command.ScriptFault.TheVariants.{NoMemory}
use Rattle.script_meaning.specs.Codes.{script_code}
use Rattle.script_meaning.proofs.TurnLemmas.{is_inside}
use Rattle.symbol_script.specs.declared.line.SymbolLine.{SymbolLine}
use Rattle.symbol_script.specs.Lines.{symbol_reading_of}
use Rattle.symbol_session.specs.Sessions.{ServesLines, SymbolData, data_of, maker_of, truths_by, valuations_by}
use Rattle.symbol_session.proofs.DataLemmas.{family_of, keeps_same}
use Rattle.symbol_session.proofs.FormLemmas.{asked_askable}
use Rattle.symbol_session.proofs.KnownLemmas.{is_known}
use Rattle.symbol_session.proofs.FaultLemmas.{unread_faults, unread_refusals, unread_stops}
use Rattle.symbol_session.proofs.ServeLemmas.{serves_next, unread_refused}
use Rattle.symbol_session.proofs.TurnLemmas.{is_far, takes_asked, takes_cut, takes_idle, takes_unread}
use Rattle.symbol_session.proofs.session.SymbolSession.obey_line.Goals as goal

pub obey_asked-requires : goal.obey_asked-requires
obey_asked-requires g c =
    asked_askable c.self.inside.quiet c.args.line.bytes.now c.in-Ok-Some.asked
    (c.in-Ok-Some.ensures.ok ∙ ap (λ (found : Option SymbolLine). Ok found) c.in-Ok-Some.field-0-is)

-- ---- the one that holds the first byte too many

pub returns-then-eq : goal.returns-then-eq
returns-then-eq g c =
    let d = c.args.self.now in
    let far = is_far c.args.cut c.args.line.number c.eq.result c.eq.ensures c.if-eq.true in
    let takes = λ (rest : List (ℕ × List ℕ)).
    takes_cut d.quiet (valuations_by d) c.args.cut (data_of d) (c.args.line.number, c.args.line.bytes.now) (maker_of d) g.L.SymbolLines.hear g.L.SymbolLines.part rest
    (g.L.SymbolLines.heard c.args.out.now) (g.A.Analyst.analysed c.args.analyst.now) far in
    record {
      quiet = refl;
      text = refl;
      turn = λ rest serves. (takes rest).0;
      serves = λ rest serves is. absurd (cc);
      noted = λ rest serves. (takes rest).1;
      keeps = keeps_same (maker_of d);
      number = tt;
      write = refl;
      refused = refl;
    }

-- ---- one that asks for something

pub returns-in-Ok-Some : goal.returns-in-Ok-Some
returns-in-Ok-Some g c =
    let d = c.args.self.now in
    let line : ℕ × List ℕ = (c.args.line.number, c.args.line.bytes.now) in
    let asked = c.in-Ok-Some.asked in
    let new = c.obey_asked.new.self in
    let whole = is_inside c.args.cut c.args.line.number c.eq.result c.eq.ensures c.if-eq.false in
    let reads : symbol_reading_of d.quiet line.1 ≡ Ok (Some asked) =
    subst (λ (test : Bool). symbol_reading_of test line.1 ≡ Ok (Some asked)) (ap (λ (s : SymbolData). s.quiet) c.self.view_is)
    (c.in-Ok-Some.ensures.ok ∙ ap (λ (found : Option SymbolLine). Ok found) c.in-Ok-Some.field-0-is) in
    let takes = λ (rest : List (ℕ × List ℕ)) (serves : ServesLines d c.args.cut (line ∷ rest)).
    takes_asked d.quiet (valuations_by d) c.args.cut (data_of d) line asked whole reads (maker_of new) g.L.SymbolLines.hear g.L.SymbolLines.part
    (family_of d c.is_well_formed.ensures.own c.is_well_formed.ensures.session) rest (data_of new) (g.L.SymbolLines.heard c.args.out.now)
    (g.L.SymbolLines.heard c.obey_asked.new.out) (g.A.Analyst.analysed c.args.analyst.now) (g.A.Analyst.analysed c.obey_asked.new.analyst) c.obey_asked.result
    (c.obey_asked.ensures.turn (is_known d.quiet (valuations_by d) serves.0 d.names.names (truths_by d) c.args.cut line rest asked serves.1 whole reads)) in
    record {
      quiet = c.obey_asked.ensures.quiet;
      text = c.obey_asked.ensures.text;
      keeps = c.obey_asked.ensures.keeps;
      turn = λ rest serves. (takes rest serves).0;
      noted = λ rest serves. (takes rest serves).1;
      serves = λ rest serves accepted.
          let next = c.obey_asked.ensures.next accepted in
          serves_next d new c.is_well_formed.ensures.own c.obey_asked.ensures.quiet c.obey_asked.ensures.text c.args.cut line rest (Some asked) whole reads next.names
          next.truths serves;
      number = c.obey_asked.ensures.number;
      write = c.obey_asked.ensures.write;
      refused = c.obey_asked.ensures.refused;
    }

-- ---- one that asks for nothing

pub returns-in-Ok-None : goal.returns-in-Ok-None
returns-in-Ok-None g c =
    let d = c.args.self.now in
    let line : ℕ × List ℕ = (c.args.line.number, c.args.line.bytes.now) in
    let whole = is_inside c.args.cut c.args.line.number c.eq.result c.eq.ensures c.if-eq.false in
    let reads : symbol_reading_of d.quiet line.1 ≡ Ok None =
    subst (λ (test : Bool). symbol_reading_of test line.1 ≡ Ok None) (ap (λ (s : SymbolData). s.quiet) c.self.view_is)
    (c.in-Ok-None.ensures.ok ∙ ap (λ (found : Option SymbolLine). Ok found) c.in-Ok-None.field-0-is) in
    let takes = λ (rest : List (ℕ × List ℕ)).
    takes_idle d.quiet (valuations_by d) c.args.cut (data_of d) line (maker_of d) g.L.SymbolLines.hear g.L.SymbolLines.part rest
    (g.L.SymbolLines.heard c.args.out.now) (g.A.Analyst.analysed c.args.analyst.now) whole reads in
    record {
      quiet = refl;
      text = refl;
      number = tt;
      keeps = keeps_same (maker_of d);
      turn = λ rest serves. (takes rest).0;
      noted = λ rest serves. (takes rest).1;
      serves = λ rest serves accepted.
          serves_next d d c.is_well_formed.ensures.own refl refl c.args.cut line rest None whole reads refl (λ column inside. refl) serves;
      write = refl;
      refused = refl;
    }

-- ---- one that is no command

pub returns-in-Err : goal.returns-in-Err
returns-in-Err g c =
    let d = c.args.self.now in
    let whole = is_inside c.args.cut c.args.line.number c.eq.result c.eq.ensures c.if-eq.false in
    let reads : (c.in-Err.fault ≡ NoMemory) ⊎ (symbol_reading_of d.quiet c.args.line.bytes.now ≡ Err c.in-Err.fault) =
    subst (λ (test : Bool). (c.in-Err.fault ≡ NoMemory) ⊎ (symbol_reading_of test c.args.line.bytes.now ≡ Err c.in-Err.fault))
    (ap (λ (s : SymbolData). s.quiet) c.self.view_is) c.in-Err.ensures.refused in
    let takes = λ (rest : List (ℕ × List ℕ)).
    takes_unread d.quiet (valuations_by d) c.args.cut (data_of d) (c.args.line.number, c.args.line.bytes.now) (maker_of d) g.L.SymbolLines.hear g.L.SymbolLines.part rest
    (g.L.SymbolLines.heard c.args.out.now) (g.A.Analyst.analysed c.args.analyst.now)
    (family_of d c.is_well_formed.ensures.own c.is_well_formed.ensures.session) whole c.in-Err.fault reads in
    rw c.unread.ensures
    (record {
      quiet = refl;
      text = refl;
      turn = λ rest serves. (takes rest).0;
      serves = λ rest serves accepted. absurd (unread_refused (script_code c.in-Err.fault) accepted);
      noted = λ rest serves. (takes rest).1;
      keeps = keeps_same (maker_of d);
      number = unread_stops (script_code c.in-Err.fault) c.args.line.number;
      write = sym (unread_faults (script_code c.in-Err.fault) (g.L.SymbolLines.faults c.args.out.now));
      refused = unread_refusals (script_code c.in-Err.fault) (g.L.SymbolLines.refusals c.args.out.now);
    })
