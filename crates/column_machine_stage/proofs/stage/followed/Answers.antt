-- The words stand alone, or are a machine's.
use Rattle.std.proofs.Common.{◌≡◌, ◌+◌, ◌≤◌, ℕ, refl, length, subst}
use Rattle.std.specs.Prelude.{IfSome}
use Rattle.switch_paths.specs.Graphs.{nodes}
use Rattle.channel_groups.specs.Changes.{undo}
use Rattle.analysis_cache.specs.Keeping.{texts_of}
use Rattle.column_machines.specs.Moving.{columns_of, highs_of, lows_of, CanFollow}
use Rattle.column_machines.specs.Running.{AreColumns}
use Rattle.column_stage.specs.Columns.{AreAmong}
use Rattle.column_stage.proofs.FrontLemmas.{none_missing}
use Rattle.column_machine_stage.specs.declared.stage.Held.{Held}
use Rattle.column_machine_stage.specs.Stages.{GrowsHeld, hi_held, last_held, lo_held, machine_held, spare_held}
use Rattle.column_machine_stage.proofs.stage.followed.Goals as goal

pub grown-requires-clause-columns_are : goal.grown-requires-clause-columns_are
grown-requires-clause-columns_are c =
    subst (λ (held : Held). AreColumns c.args.columns (hi_held held) (lo_held held)) c.in-Still.is c.requires.columns_are

pub grown-requires-clause-room : goal.grown-requires-clause-room
grown-requires-clause-room c = subst (λ (held : Held). nodes c.args.graph.now ≤ length (hi_held held) + spare_held held) c.in-Still.is c.requires.room

pub returns-in-Still-clause-grows : goal.returns-in-Still-clause-grows
returns-in-Still-clause-grows c = rw c.in-Still.is (record { each = c.grown.ensures.each; columns_are = c.grown.ensures.columns_are; same = tt })

pub returns-in-Still-clause-kept : goal.returns-in-Still-clause-kept
returns-in-Still-clause-kept c = rw c.in-Still.is refl

pub returns-in-Still-clause-last : goal.returns-in-Still-clause-last
returns-in-Still-clause-last c = none_missing (texts_of c.args.kept.now)

pub edited-requires-clause-covers : goal.edited-requires-clause-covers
edited-requires-clause-covers c =
    subst (λ (held : Held). IfSome (machine_held held) (CanFollow (undo c.args.graph.now c.args.change.now))) c.in-Built.is c.requires.covers

pub edited-requires-clause-room : goal.edited-requires-clause-room
edited-requires-clause-room c = subst (λ (held : Held). nodes c.args.graph.now ≤ length (hi_held held) + spare_held held) c.in-Built.is c.requires.room

pub edited-requires-clause-last : goal.edited-requires-clause-last
edited-requires-clause-last c = subst (λ (held : Held). AreAmong (last_held (machine_held held)) (texts_of c.args.kept.now)) c.in-Built.is c.requires.last

pub returns-in-Built-clause-grows : goal.returns-in-Built-clause-grows
returns-in-Built-clause-grows c =
    let machine = c.in-Built.machine in
    let same : columns_of machine ≡ c.args.columns =
    subst (λ (held : Held). IfSome (machine_held held) (λ one. columns_of one ≡ c.args.columns)) c.in-Built.is c.requires.same in
    rw c.in-Built.is
    (subst (λ (n : ℕ). GrowsHeld c.args.graph.now n (highs_of machine) (lows_of machine) c.edited.result) same c.edited.ensures.grows)

pub returns-in-Built-clause-machine : goal.returns-in-Built-clause-machine
returns-in-Built-clause-machine c = rw c.in-Built.is c.edited.ensures.machine

pub returns-in-Built-clause-kept : goal.returns-in-Built-clause-kept
returns-in-Built-clause-kept c = rw c.in-Built.is c.edited.ensures.kept
