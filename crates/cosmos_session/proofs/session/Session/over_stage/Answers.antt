-- The stage's columns are at their start: no text of a build stands in front of what is kept, and it serves the circuit.
use Rattle.std.proofs.Common.{List, sym, ap, ◌∙◌}
use Rattle.group_text.specs.Texts.{GroupTextData}
use Rattle.group_analysis.specs.Using.{used_texts}
use Rattle.analysis_cache.specs.Keeping.{texts_of}
use Rattle.column_stage.proofs.FrontLemmas.{kept_alone, none_missing, same_among}
use Rattle.column_stage.proofs.SoundLemmas.{first_of_some}
use Rattle.session_meaning.proofs.StartLemmas.{core_start, held_over}
use Rattle.cosmos_session.proofs.session.Session.over_stage.Goals as goal

pub invariant_of-result : goal.invariant_of-result
invariant_of-result g c =
    let table = texts_of c.args.kept in (
      rw (c.new.ensures.items, c.new-2.ensures.items, c.new-vectors.ensures, c.new-3.ensures.items)
          (held_over g.M.Columns.columns g.M.Columns.states g.M.Columns.serves c.args.circuit c.args.stage c.args.kept.bound
          (used_texts (g.M.Columns.last c.args.stage) table) c.graph-graph.ensures.netlist c.requires.some c.requires.start c.requires.bound c.requires.serves),
      same_among _ _ table c.requires.last (none_missing table),
    )

pub returns-clause-core : goal.returns-clause-core
returns-clause-core g c =
    let table = texts_of c.args.kept in
    rw (c.new.ensures.items, c.new-2.ensures.items, c.new-vectors.ensures, c.new-3.ensures.items)
    (core_start c.args.circuit (g.M.Columns.states c.args.stage 0) c.args.kept.bound (used_texts (g.M.Columns.last c.args.stage) table) table
    (c.requires.start 0 (first_of_some _ c.requires.some)) c.requires.bound
    (ap (λ (last : List GroupTextData). used_texts last table) c.requires.last ∙ sym (kept_alone table)))
