-- The machine's own finish leaves words and marks, and parts with the members that they had.
use Rattle.std.proofs.Common.{◌≡◌, ℕ, ◌<◌, None, refl, sym, ap, subst}
use Rattle.std.specs.Prelude.{OnOk}
use Rattle.switch_paths.specs.Rails.{IsSound}
use Rattle.analysis_cache.specs.Keeping.{texts_of}
use Rattle.machine_laws.specs.Machines.{MachineData}
use Rattle.machine_laws.specs.Fitting.{Covers, IsKeptBy}
use Rattle.machine_laws.specs.Columns.{HasNoTexts}
use Rattle.machine_laws.proofs.ClearingLemmas.{on_ok}
use Rattle.column_machines.specs.Columns.{WordData, column_of, CoversInWords}
use Rattle.column_machines.specs.Editing.{AreKeptIn}
use Rattle.column_machines.specs.Evaluating.{rooms}
use Rattle.column_machines.proofs.EditLemmas.{IsWordMachine-finished, FitsInWords-finished, builds_any, cut_off_any, none_refused}
use Rattle.column_machines.proofs.machine.WordMachine.finish.Goals as goal

pub finish-result-requires : goal.finish-result-requires
finish-result-requires g c =
    let graph = c.args.graph.now in
    let kept = texts_of c.args.kept.now in
    let view : c.self.inside.machine ≡ c.args.self.now.machine = ap (λ (d : WordData). d.machine) c.self.view_is in
    record {
      covers = subst (Covers graph) (sym view) c.requires.covers.plain;
      railed = c.requires.railed;
      sound = subst (λ (m : MachineData). IsSound m.state) (sym view) c.requires.covers.sound;
      known = subst (IsKeptBy graph kept) (sym view) c.requires.known;
      last = subst (λ (m : MachineData). AreKeptIn m.last kept) (sym view) c.requires.last;
    }

pub invariant_of-self : goal.invariant_of-self
invariant_of-self g c =
    let i = c.self.inside in
    let view : i.machine ≡ c.args.self.now.machine = ap (λ (d : WordData). d.machine) c.self.view_is in
    let done = c.finish-result.ensures in (
      IsWordMachine-finished c.args.graph.now i.columns i.used i.machine c.finish-result.new.self i.agenda i.hi.items i.lo.items (rooms i.workspace) c.finish-result.result
          done.finishes done.err (subst (Covers c.args.graph.now) (sym view) c.requires.covers.plain) c.all_parts-before.ensures.counted c.all_parts-after.ensures.counted
          c.self.invariant.0,
      c.self.invariant.1,
    )

pub returns-clause-words : goal.returns-clause-words
returns-clause-words g c = rw (← c.self.view_is) (record { columns = refl; marks = refl; highs = refl; lows = refl })

pub returns-clause-fits : goal.returns-clause-fits
returns-clause-fits g c =
    let done = c.finish-result.ensures in
    let i = c.self.inside in
    let without : OnOk c.finish-result.result (i.machine.wide ≡ None → HasNoTexts i.machine → c.finish-result.new.self.wide ≡ None) =
    on_ok _ _ c.finish-result.result (λ then none untold. then refl refl none untold) done.without in
    let old : WordData = record { columns = i.columns; machine = i.machine; marks = i.agenda; hi = i.hi.items; lo = i.lo.items; spare = c.args.self.now.spare } in
    FitsInWords-finished c.args.graph.now old _ c.finish-result.result (record { columns = refl; marks = refl; highs = refl; lows = refl }) done.finishes without
    (subst (λ (d : WordData). CoversInWords c.args.graph.now (record d { spare = c.args.self.now.spare })) (sym c.self.view_is) c.requires.covers)
    (subst (λ (d : WordData). (column : ℕ) → column < d.columns → IsSound (column_of d column)) (sym c.self.view_is) c.requires.sound)

pub returns-clause-builds : goal.returns-clause-builds
returns-clause-builds g c =
    rw (← c.self.view_is) (builds_any c.args.graph.now c.args.kept.now.bound _ _ _ _ c.finish-result.result c.finish-result.ensures.builds)

pub returns-clause-cut_off : goal.returns-clause-cut_off
returns-clause-cut_off g c = λ is. rw (← c.self.view_is) (cut_off_any c.args.graph.now _ _ _ _ (c.finish-result.ensures.cut_off is))

pub returns-clause-refused : goal.returns-clause-refused
returns-clause-refused g c =
    none_refused c.args.graph.now c.args.kept.now c.finish-result.new.kept _ _ c.finish-result.result c.requires.covers.fit c.finish-result.ensures.refused
