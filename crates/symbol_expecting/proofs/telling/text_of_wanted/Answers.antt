-- The bytes are those of the letters, and the name and the value are the assignment's.
use Rattle.std.proofs.Common.{◌≡◌, ◌∙◌, ℕ, Bool, List, ap, ap₂, map, sym, subst}
use Rattle.std.proofs.lemmas.Result.{IfOk-weaker}
use Rattle.printed_lines.specs.Lines.{wanted_letter}
use Rattle.netlist.specs.Circuits.{CircuitData}
use Rattle.node_values.specs.Givings.{is_vector}
use Rattle.symbol_meaning.specs.Merging.{is_formula, wanted_text}
use Rattle.symbol_stage.specs.Stages.{StageData}
use Rattle.symbol_expecting.specs.Missing.{AreWantedOf}
use Rattle.symbol_expecting.specs.Telling.{wanted_under}
use Rattle.symbol_expecting.proofs.telling.text_of_wanted.Goals as goal

pub letters-requires : goal.letters-requires
letters-requires c = subst (λ (stage : StageData). AreWantedOf stage c.args.pairs.now) (sym c.stage.ensures.value) c.requires

pub returns : goal.returns
returns c =
    let session = c.args.session.now in
    let own = c.args.own.now in
    let wanted = wanted_under session.stage c.args.pairs.now c.args.vars.now in
    let bytes : c.in_ok-bytes.bytes.items ≡ map wanted_letter wanted =
    c.in_ok-bytes.ensures ∙ ap (λ (stage : StageData). map wanted_letter (wanted_under stage c.args.pairs.now c.args.vars.now)) c.stage.ensures.value in
    let name = c.items.result.now in
    let vector : c.is_vector-vector.result ≡ is_vector session.core.circuit session.core.vectors own.name =
    c.is_vector-vector.ensures
    ∙ ap₂ (λ (circuit : CircuitData) (vectors : List (List ℕ × List ℕ)). is_vector circuit vectors name) c.circuit.ensures.value c.vectors.ensures
    ∙ ap (λ (own : List ℕ). is_vector session.core.circuit session.core.vectors own) c.items.ensures in
    IfOk-weaker c.chosen.result _ _
    (λ told is.
    is wanted bytes
    ∙ ap₂ (λ (b formula : Bool). wanted_text b formula c.items-2.result.now wanted) vector c.is_formula-formula.ensures
    ∙ ap (λ (text : List ℕ). wanted_text (is_vector session.core.circuit session.core.vectors own.name) (is_formula own.value) text wanted) c.items-2.ensures) c.chosen.ensures
