-- A machine for columns that step together is finished; there is no other here.
use Rattle.std.proofs.Common.{ℕ, ◌<◌, subst}
use Rattle.std.specs.Prelude.{IfSome}
use Rattle.switch_paths.specs.Rails.{IsSound}
use Rattle.analysis_cache.specs.Keeping.{texts_of}
use Rattle.column_machines.specs.Columns.{column_states}
use Rattle.column_machines.specs.Moving.{columns_of, CoversInColumns, IsKeptByColumns}
use Rattle.column_stage.specs.Columns.{AreAmong}
use Rattle.column_machine_stage.specs.declared.stage.Held.{Held}
use Rattle.column_machine_stage.specs.Stages.{IsTogetherIn, hi_held, last_held, lo_held, machine_held}
use Rattle.column_machine_stage.proofs.ServingLemmas.{fits_of}
use Rattle.column_machine_stage.proofs.stage.finish_in.Goals as goal

pub finish-requires : goal.finish-requires
finish-requires g c =
    let graph = c.args.graph.now in
    let kept = texts_of c.args.kept.now in
    let is = c.in-Built.is in
    record {
      together = subst (λ (held : Held). IsTogetherIn (machine_held held)) is c.requires.together;
      covers = subst (λ (held : Held). IfSome (machine_held held) (CoversInColumns graph)) is c.requires.covers;
      railed = c.requires.railed;
      sound = subst (λ (held : Held). IfSome (machine_held held) (λ machine. (column : ℕ) → column < columns_of machine → IsSound (column_states column (hi_held held) (lo_held held)))) is
          c.requires.sound;
      known = subst (λ (held : Held). IfSome (machine_held held) (IsKeptByColumns graph kept)) is c.requires.known;
      last = subst (λ (held : Held). AreAmong (last_held (machine_held held)) kept) is c.requires.last;
    }

pub returns-in-Built-clause-fits : goal.returns-in-Built-clause-fits
returns-in-Built-clause-fits g c = fits_of c.args.graph.now c.finish.new.self c.finish.result c.finish.ensures.fits

pub returns-in-Built-clause-columns : goal.returns-in-Built-clause-columns
returns-in-Built-clause-columns g c = rw c.in-Built.is c.finish.ensures.columns

pub returns-in-Built-clause-hi : goal.returns-in-Built-clause-hi
returns-in-Built-clause-hi g c = rw c.in-Built.is c.finish.ensures.highs

pub returns-in-Built-clause-lo : goal.returns-in-Built-clause-lo
returns-in-Built-clause-lo g c = rw c.in-Built.is c.finish.ensures.lows

pub returns-in-Built-clause-builds : goal.returns-in-Built-clause-builds
returns-in-Built-clause-builds g c = rw c.in-Built.is c.finish.ensures.builds

pub returns-in-Built-clause-cut_off : goal.returns-in-Built-clause-cut_off
returns-in-Built-clause-cut_off g c = rw c.in-Built.is c.finish.ensures.cut_off

pub returns-in-Still-clause-together : goal.returns-in-Still-clause-together
returns-in-Still-clause-together g c = absurd (subst (λ (held : Held). IsTogetherIn (machine_held held)) c.in-Still.is c.requires.together)

pub returns-in-Still-clause-cut_off : goal.returns-in-Still-clause-cut_off
returns-in-Still-clause-cut_off g c = absurd (subst (λ (held : Held). IsTogetherIn (machine_held held)) c.in-Still.is c.requires.together)

pub returns-in-Still-clause-grown : goal.returns-in-Still-clause-grown
returns-in-Still-clause-grown g c = absurd (subst (λ (held : Held). IsTogetherIn (machine_held held)) c.in-Still.is c.requires.together)
