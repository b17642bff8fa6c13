-- A value that is the same under all valuations gives its letters, and a list those of its items.
use Rattle.std.proofs.Common.{◌≡◌, ℕ, List, All, Ok, ap, ap₂, sym, subst, ◌∙◌}
use Rattle.std.proofs.lemmas.Result.{IfOk-weaker}
use Rattle.netlist.specs.Circuits.{CircuitData}
use Rattle.script_lang.specs.Parts.{value_by}
use Rattle.node_values.specs.Givings.{letters_given}
use Rattle.symbol_lines.specs.declared.values.SymbolValue.TheVariants as written
use Rattle.symbol_giving.specs.declared.letters.SymbolLetter.{SymbolLetter}
use Rattle.symbol_giving.specs.Letters.{IsLetterOf}
use Rattle.symbol_giving.proofs.LetterLemmas.{only_none, same_pairs_own}
use Rattle.symbol_giving.proofs.GivingLemmas.{pairs_within, plain_given, plain_is_given}
use Rattle.symbol_giving.proofs.letters.letters_of.Goals as goal

pub plain_letters-requires : goal.plain_letters-requires
plain_letters-requires c =
    let core = c.args.session.now.core in
    let name = c.items-name.result.now in
    let (pairs, given) = plain_is_given core.circuit core.vectors c.args.own.now name c.in-Plain.value c.in-Plain.is c.items-name.ensures c.requires.given in (
      pairs,
      ap₂ (λ (circuit : CircuitData) (vectors : List (List ℕ × List ℕ)). letters_given circuit vectors (name, value_by c.in-Plain.value)) c.circuit.ensures.value
          c.vectors.ensures ∙ given,
    )

pub returns-in-Ok-clause-only : goal.returns-in-Ok-clause-only
returns-in-Ok-clause-only c = only_none c.args.session.now

pub returns-in-Ok-clause-letters : goal.returns-in-Ok-clause-letters
returns-in-Ok-clause-letters c =
    let session = c.args.session.now in
    let name = c.items-name.result.now in
    let value = c.in-Plain.value in
    let (pairs, same, given) = c.in-Ok.ensures in
    let here : letters_given session.core.circuit session.core.vectors (name, value_by value) ≡ Ok pairs =
    sym (ap₂ (λ (circuit : CircuitData) (vectors : List (List ℕ × List ℕ)). letters_given circuit vectors (name, value_by value)) c.circuit.ensures.value
    c.vectors.ensures) ∙ given in
    plain_given session c.args.table.now c.args.own.now session.stage name value c.in-Ok.pairs.items pairs c.in-Plain.is c.items-name.ensures same here

pub returns-in-Ok-clause-own : goal.returns-in-Ok-clause-own
returns-in-Ok-clause-own c =
    let stage = c.args.session.now.stage in
    let (pairs, same, given) = c.in-Ok.ensures in
    subst (λ (list : List (ℕ × SymbolLetter)). All (λ (pair : ℕ × SymbolLetter). IsLetterOf stage pair.1) list) (sym same) (same_pairs_own stage pairs)

pub returns-in-Ok-clause-within : goal.returns-in-Ok-clause-within
returns-in-Ok-clause-within c =
    let session = c.args.session.now in
    let name = c.items-name.result.now in
    let value = c.in-Plain.value in
    let held = c.circuit-circuit.ensures.session in
    let (pairs, same, given) = c.in-Ok.ensures in
    let here : letters_given session.core.circuit session.core.vectors (name, value_by value) ≡ Ok pairs =
    sym (ap₂ (λ (circuit : CircuitData) (vectors : List (List ℕ × List ℕ)). letters_given circuit vectors (name, value_by value)) c.circuit.ensures.value
    c.vectors.ensures) ∙ given in
    pairs_within session c.args.table.now c.args.own.now session.stage c.in-Ok.pairs.items held.core.ready.netlist held.core.vectors
    (plain_given session c.args.table.now c.args.own.now session.stage name value c.in-Ok.pairs.items pairs c.in-Plain.is c.items-name.ensures same here)

pub returns-in-Err-clause-only : goal.returns-in-Err-clause-only
returns-in-Err-clause-only c = only_none c.args.session.now

pub returns-in-Err-clause-spent : goal.returns-in-Err-clause-spent
returns-in-Err-clause-spent c = λ full. absurd (cc)

pub list_letters-requires-clause-list : goal.list_letters-requires-clause-list
list_letters-requires-clause-list c = c.in-List.is ∙ ap written.List (sym c.items.ensures)

pub returns-in-List-clause-within : goal.returns-in-List-clause-within
returns-in-List-clause-within c =
    let session = c.args.session.now in
    let stage = c.list_letters.new.session.stage in
    let held = c.circuit-circuit.ensures.session in
    IfOk-weaker c.list_letters.result _ _
    (λ pairs given. pairs_within session c.args.table.now c.args.own.now stage pairs.items held.core.ready.netlist held.core.vectors given)
    c.list_letters.ensures.letters
