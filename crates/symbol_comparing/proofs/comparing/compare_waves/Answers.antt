-- One waveform line more; at a fault at it something is told of the lines that are left.
use Rattle.std.proofs.Common.{◌≡◌, suc, ◌+◌, ℕ, List, drop, length, refl, sym, ap, subst, ◌∙◌, arith}
use Rattle.std.proofs.lemmas.List.{at_drop_all, length-drop}
use Rattle.std.proofs.lemmas.Result.{err_from_is_err_and}
use Rattle.decision_graph.proofs.VertexLemmas.{Extends-same, Extends-trans}
use Rattle.symbol_meaning.specs.Comparing.{AreCompared}
use Rattle.symbol_told.specs.declared.notes.WaveNote.{WaveNote}
use Rattle.symbol_told.specs.Noting.{NotesData}
use Rattle.symbol_comparing.specs.Notes.{rails_in, shown_from, shown_in}
use Rattle.symbol_comparing.specs.Rails.{RailLists, letters_in, rails_seen, AreRailsOf}
use Rattle.symbol_comparing.specs.Told.{TellsPart}
use Rattle.symbol_comparing.proofs.StateLemmas.{rails_later}
use Rattle.symbol_comparing.proofs.CompareLemmas.{WavesCome, fronts_named, waves_come, waves_come_end, waves_come_on, waves_come_stop, waves_told}
use Rattle.symbol_comparing.proofs.LoopLemmas.{as_many_waves, heads_first, line_lines, line_part, rails_front, rails_rest, valuations_later, waves_both}
use Rattle.symbol_comparing.proofs.comparing.compare_waves.Goals as goal

pub loop-k-init : goal.loop-k-init
loop-k-init g c = record {
  shape = record { variables = refl; most = refl };
  extends = Extends-same c.args.symbols.now.graph.vertices;
  first = subst (AreRailsOf c.args.symbols.now) (sym c.rails_noted-left.ensures.seen) c.requires.noted.first;
  second = subst (AreRailsOf c.args.symbols.now) (sym c.rails_noted-right.ensures.seen) c.requires.noted.second;
  heads = c.requires.noted.alike.waves;
  come = λ v are.
      let symbols = c.args.symbols.now in
      let one = c.args.first.now in
      let other = c.args.second.now in
      let shows = λ (notes : NotesData) (rails : RailLists). λ (column : ℕ). shown_from notes.words notes.waves (letters_in symbols rails column) in
      let come = λ (left right : RailLists). WavesCome v c.args.variables.now (shown_in symbols one) (shown_in symbols other) 0 (shows one left)
      (shows other right) c.args.workspace.now.written c.args.workspace.now.written c.args.workspace.now.count c.args.workspace.now.count in
      subst (λ (left : RailLists). come left (rails_seen c.rails_noted-right.result)) (sym c.rails_noted-left.ensures.seen)
      (subst (λ (right : RailLists). come (rails_in one) right) (sym c.rails_noted-right.ensures.seen)
      (waves_come v c.args.variables.now (shown_in symbols one) (shown_in symbols other) c.args.workspace.now.written c.args.workspace.now.count));
  faults = refl;
  refusals = refl;
}

pub wave_at-own-requires : goal.wave_at-own-requires
wave_at-own-requires g c =
    let counted = ap (λ (waves : List WaveNote). length waves) c.waves-k-end.ensures in
    omega (arith, c.loop-k-test.true, counted, as_many_waves c.args.first.now.waves c.args.second.now.waves c.requires.noted.alike.waves)

pub compare_words-requires : goal.compare_words-requires
compare_words-requires g c =
    let old = c.args.symbols.now in
    let now = c.loop-k.symbols in
    let inv = c.loop-k.invariant in
    let heads = heads_first _ _ _ _ _ _ c.wave_at-wave.ensures c.wave_at-own.ensures inv.heads in
    record {
      words = rw (c.front-words.ensures, c.front-others.ensures)
          (fronts_named c.args.first.now.words c.args.second.now.words c.requires.noted.alike.words c.wave_at-wave.result.words c.wave_at-own.result.words heads.1);
      one = rails_later old now inv.shape inv.extends (rails_seen c.cut.result.0)
          (rails_front old _ _ c.wave_at-wave.result.nodes c.cut.ensures.front inv.first);
      other = rails_later old now inv.shape inv.extends (rails_seen c.cut-in-loop-k.result.0)
          (rails_front old _ _ c.wave_at-own.result.nodes c.cut-in-loop-k.ensures.front inv.second);
    }

pub loop-k-preserved : goal.loop-k-preserved
loop-k-preserved g c =
    let new = c.compare_words.new.symbols in
    let old = c.args.symbols.now in
    let now = c.loop-k.symbols in
    let inv = c.loop-k.invariant in
    let heads = heads_first _ _ _ _ _ _ c.wave_at-wave.ensures c.wave_at-own.ensures inv.heads in
    record {
      shape = record {
        variables = c.compare_words.ensures.shape.variables ∙ inv.shape.variables;
        most = c.compare_words.ensures.shape.most ∙ inv.shape.most;
      };
      extends = Extends-trans old.graph.vertices now.graph.vertices new.graph.vertices inv.extends c.compare_words.ensures.extends;
      first = rails_rest old _ _ c.wave_at-wave.result.nodes c.cut.ensures.rest inv.first;
      second = rails_rest old _ _ c.wave_at-own.result.nodes c.cut-in-loop-k.ensures.rest inv.second;
      heads = heads.2;
      come = λ v are. waves_come_on v c.args.variables.now _ _ _ _ _ _ _ _ _ c.loop-k.k _ _ _ _ _ _ (inv.come v are)
          (λ column inside. waves_both old c.args.first.now.words c.args.second.now.words _ _ _ _ _ _ c.wave_at-wave.result c.wave_at-own.result _ _ _ _ _ _
          c.wave_at-wave.ensures c.cut.ensures.front c.cut.ensures.rest c.wave_at-own.ensures c.cut-in-loop-k.ensures.front c.cut-in-loop-k.ensures.rest
          heads.0 c.front-words.ensures c.front-others.ensures column)
          (line_lines old now inv.shape inv.extends v c.wave_at-wave.result.n c.front-words.result.now c.front-others.result.now _ _ c.args.variables.now _ _ _ _
          (rails_front old _ _ c.wave_at-wave.result.nodes c.cut.ensures.front inv.first)
          (rails_front old _ _ c.wave_at-own.result.nodes c.cut-in-loop-k.ensures.front inv.second)
          (c.in_ok-compare_words.ensures.told v (valuations_later old now inv.shape inv.extends v are)));
      faults = c.in_ok-compare_words.ensures.write ∙ inv.faults;
      refusals = c.in_ok-compare_words.ensures.refused ∙ inv.refusals;
    }

pub returns-in_err-compare_words-clause-told : goal.returns-in_err-compare_words-clause-told
returns-in_err-compare_words-clause-told g c = λ v are.
    let stopped = err_from_is_err_and c.from_residual.result c.from_residual.ensures.1 in
    let old = c.args.symbols.now in
    let now = c.loop-k.symbols in
    let inv = c.loop-k.invariant in
    let heads = heads_first _ _ _ _ _ _ c.wave_at-wave.ensures c.wave_at-own.ensures inv.heads in
    let more = length (drop (c.loop-k.k + 1) c.args.first.now.waves) in
    let counted = ap (λ (waves : List WaveNote). length waves) c.waves-k-end.ensures in
    let all : c.loop-k.k + suc more ≡ length c.args.first.now.waves =
    omega (arith, c.loop-k-test.true, counted, length-drop (c.loop-k.k + 1) c.args.first.now.waves) in
    rw stopped.1
    (subst (λ (waves : ℕ). TellsPart (AreCompared v (shown_in old c.args.first.now) (shown_in old c.args.second.now) waves) c.args.variables.now
    c.args.workspace.now.written c.compare_words.new.workspace.written) all
    (waves_come_stop v c.args.variables.now _ _ _ _ _ _ _ _ _ c.loop-k.k _ _ c.compare_words.new.workspace.count _ _ _ (inv.come v are)
    (λ column inside. waves_both old c.args.first.now.words c.args.second.now.words _ _ _ _ _ _ c.wave_at-wave.result c.wave_at-own.result _ _ _ _ _ _
    c.wave_at-wave.ensures c.cut.ensures.front c.cut.ensures.rest c.wave_at-own.ensures c.cut-in-loop-k.ensures.front c.cut-in-loop-k.ensures.rest
    heads.0 c.front-words.ensures c.front-others.ensures column)
    more
    (line_part old now inv.shape inv.extends v c.wave_at-wave.result.n c.front-words.result.now c.front-others.result.now _ _ c.args.variables.now _ _
    (rails_front old _ _ c.wave_at-wave.result.nodes c.cut.ensures.front inv.first)
    (rails_front old _ _ c.wave_at-own.result.nodes c.cut-in-loop-k.ensures.front inv.second)
    (c.in_err-compare_words.ensures.told v (valuations_later old now inv.shape inv.extends v are)))
    (waves_told v c.args.first.now.words c.args.second.now.words c.requires.noted.alike.words (drop (c.loop-k.k + 1) c.args.first.now.waves)
    (drop (c.loop-k.k + 1) c.args.second.now.waves) (letters_in old (rails_seen c.cut.result.1)) (letters_in old (rails_seen c.cut-in-loop-k.result.1))
    heads.2)))

pub returns-clause-told : goal.returns-clause-told
returns-clause-told g c = λ v are.
    let old = c.args.symbols.now in
    let counted = ap (λ (waves : List WaveNote). length waves) c.waves-k-end.ensures in
    let all : c.loop-k.k ≡ length c.args.first.now.waves = omega (arith, c.loop-k-test.false, counted) in
    rw (sym all)
    (waves_come_end v c.args.variables.now _ _ _ _ _ _ c.loop-k.k _ _ (c.loop-k.invariant.come v are)
    (λ column inside. (
      at_drop_all (λ (waves : List WaveNote). shown_from c.args.first.now.words waves (letters_in old (rails_seen c.loop-k.left) column))
          c.args.first.now.waves c.loop-k.k (omega (arith, c.loop-k-test.false, counted)),
      at_drop_all (λ (waves : List WaveNote). shown_from c.args.second.now.words waves (letters_in old (rails_seen c.loop-k.right) column))
          c.args.second.now.waves c.loop-k.k
          (omega (arith, c.loop-k-test.false, counted, as_many_waves c.args.first.now.waves c.args.second.now.waves c.requires.noted.alike.waves)),
    )))
