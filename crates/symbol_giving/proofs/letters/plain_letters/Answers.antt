-- The copy gives what the value gives, which isn't refused.
use Rattle.std.proofs.Common.{◌≡◌, Ok, ap, sym, ◌∙◌}
use Rattle.script_lang.specs.Parts.{value_by}
use Rattle.script_lang.specs.declared.value.Value.{Value}
use Rattle.node_values.specs.Givings.{letters_given}
use Rattle.std.proofs.lemmas.Result.{IfOk-weaker}
use Rattle.symbol_giving.proofs.letters.plain_letters.Goals as goal

pub returns-in-Ok : goal.returns-in-Ok
returns-in-Ok c =
    let circuit = c.args.circuit.now in
    let vectors = c.args.vectors.now in
    let given : letters_given circuit vectors (c.args.name.now, value_by c.args.value.now) ≡ Ok c.in-Ok.pairs.items =
    ap (λ (own : Value). letters_given circuit vectors (c.args.name.now, own)) (sym c.in_ok-value.ensures) ∙ c.in-Ok.ensures.ok in
    IfOk-weaker c.same_letters.result _ _ (λ letters same. (c.deref.result.now, same, given ∙ ap Ok (sym c.deref.ensures.value))) c.same_letters.ensures
