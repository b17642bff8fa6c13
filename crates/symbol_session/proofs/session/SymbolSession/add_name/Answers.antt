-- The name is behind the others, for a function of the maker.
use Rattle.std.proofs.Common.{ℕ, List, refl, sym, ap, subst, ◌∙◌}
use Rattle.truth_makers.specs.Makers.{IsFunctionOf}
use Rattle.formula_functions.specs.Tables.{TableData, with_named}
use Rattle.symbol_session.specs.Sessions.{IsSymbolSession, SymbolData, maker_of}
use Rattle.symbol_session.proofs.MadeLemmas.{held_named}
use Rattle.symbol_session.proofs.session.SymbolSession.add_name.Goals as goal
use Rattle.symbol_session.proofs.session.SymbolSession.add_name.Goals.{in-Ok, in-Err}

pub add-requires : goal.add-requires
add-requires c = rw c.items.ensures (rw (← c.self.view_is) at c.requires.fresh)

pub invariant_of-self : goal.invariant_of-self
invariant_of-self c =
    let i = c.self.inside in
    let old : SymbolData = record { session = i.session; names = i.outside.names; kept = i.outside.kept.items; saves = i.saves.items; count = i.count; quiet = i.quiet; text = i.text.text } in
    let (own, notes) = c.self.invariant in
    let inside = subst (λ (d : SymbolData). IsFunctionOf (maker_of d) c.args.function) (sym c.self.view_is) c.requires.inside in (
      elim c.match-add.branch [
        | in-Ok w ↦
            subst (λ (table : TableData). IsSymbolSession (record old { names = table }))
            (sym (w.in-Ok.ensures.ok ∙ ap (λ (name : List ℕ). with_named old.names name c.args.function) c.items.ensures))
            (held_named old own c.args.name.now c.args.function inside)
        | in-Err w ↦ subst (λ (table : TableData). IsSymbolSession (record old { names = table })) (sym w.in-Err.ensures.err) own
      ],
      notes,
    )

pub returns-clause-others : goal.returns-clause-others
returns-clause-others c = rw (← c.self.view_is) refl

pub returns-clause-ok : goal.returns-clause-ok
returns-clause-ok c =
    elim c.match-add.branch [
      | in-Ok w ↦ rw (w.result-is, ← c.self.view_is) (rw c.items.ensures at w.in-Ok.ensures.ok)
      | in-Err w ↦ rw w.result-is tt
    ]

pub returns-clause-accepted : goal.returns-clause-accepted
returns-clause-accepted c =
    elim c.match-add.branch [
      | in-Ok w ↦ rw w.result-is refl
      | in-Err w ↦ rw w.result-is tt
    ]

pub returns-clause-memory : goal.returns-clause-memory
returns-clause-memory c =
    elim c.match-add.branch [
      | in-Ok w ↦ rw w.result-is tt
      | in-Err w ↦ rw w.result-is w.want.ensures
    ]
