-- An instruction is cut at its first space in one way.
use Rattle.std.proofs.Common.{◌≡◌, ◌++◌, Some, None, get_or, codes, sym, ◌∙◌, ap, arith}
use Rattle.std.proofs.lemmas.List.{append_cancel_left}
use Rattle.std.proofs.lemmas.Bool.Decides.{Decides-eqb}
use Rattle.std.proofs.lemmas.Slice.Eq.{strip_prefix_is}
use Rattle.linear_code.proofs.OperandLemmas.{IsSmall, instruction-no_space, instruction-first_bad, instruction-second_bad, or_text}
use Rattle.linear_code.proofs.reading.read_instruction.Goals as goal

pub returns-in_err-word : goal.returns-in_err-word
returns-in_err-word c =
    rw c.from_residual-in_err-word.ensures (λ instruction allowed same. instruction-no_space c.args.bytes.now c.in_err-word.ensures instruction same)

pub returns-in_err-first : goal.returns-in_err-first
returns-in_err-first c =
    let small : IsSmall c.args.nodes c.args.results = record { few_nodes = omega arith; few_results = omega arith } in
    let unmarked = strip_prefix_is Decides-eqb c.args.bytes.now (codes "! ") None c.in_default.ensures.cases in
    rw c.from_residual-in_err-first.ensures (λ instruction allowed same.
    instruction-first_bad c.args.nodes c.args.results c.args.bytes.now c.in_ok-word.word.now c.in_ok-word.rest.now small c.in_ok-word.ensures.0
    c.in_ok-word.ensures.1 unmarked c.in_err-first.ensures instruction allowed same)

pub returns-in_err-second : goal.returns-in_err-second
returns-in_err-second c =
    let small : IsSmall c.args.nodes c.args.results = record { few_nodes = omega arith; few_results = omega arith } in
    let unmarked = strip_prefix_is Decides-eqb c.args.bytes.now (codes "! ") None c.in_default.ensures.cases in
    let rest = c.in_ok-word.rest.now in
    let word = c.in-Some-strip_prefix.word.now in
    let sign : rest ≡ codes "& " ++ word = strip_prefix_is Decides-eqb rest (codes "& ") (Some c.in-Some-strip_prefix.word) c.in-Some-strip_prefix.ensures.cases in
    rw c.from_residual-in_err-second.ensures (λ instruction allowed same.
    instruction-second_bad c.args.nodes c.args.results c.args.bytes.now c.in_ok-word.word.now rest small c.in_ok-word.ensures.0
    c.in_ok-word.ensures.1 unmarked
    (λ operand may is. c.in_err-second.ensures operand may (append_cancel_left (codes "& ") word _ (sym sign ∙ is)))
    (λ operand may is. absurd (omega (arith, ap (λ text. get_or text 0 0) (sym sign ∙ is)))) instruction allowed same)

pub returns-in_err-strip_prefix : goal.returns-in_err-strip_prefix
returns-in_err-strip_prefix c =
    let small : IsSmall c.args.nodes c.args.results = record { few_nodes = omega arith; few_results = omega arith } in
    let unmarked = strip_prefix_is Decides-eqb c.args.bytes.now (codes "! ") None c.in_default.ensures.cases in
    let rest = c.in_ok-word.rest.now in
    rw c.from_residual-in_err-strip_prefix.ensures (λ instruction allowed same.
    instruction-second_bad c.args.nodes c.args.results c.args.bytes.now c.in_ok-word.word.now rest small c.in_ok-word.ensures.0
    c.in_ok-word.ensures.1 unmarked
    (λ operand may is. strip_prefix_is Decides-eqb rest (codes "& ") None c.in_default-strip_prefix.ensures.cases _ is)
    (λ operand may is. strip_prefix_is Decides-eqb rest (codes "| ") None c.in_err-strip_prefix.ensures.cases _ is) instruction allowed same)

pub returns-in_err-second-2 : goal.returns-in_err-second-2
returns-in_err-second-2 c =
    let small : IsSmall c.args.nodes c.args.results = record { few_nodes = omega arith; few_results = omega arith } in
    let unmarked = strip_prefix_is Decides-eqb c.args.bytes.now (codes "! ") None c.in_default.ensures.cases in
    let rest = c.in_ok-word.rest.now in
    let word = c.in_ok-strip_prefix.field-0.now in
    let sign : rest ≡ codes "| " ++ word = strip_prefix_is Decides-eqb rest (codes "| ") (Some c.in_ok-strip_prefix.field-0) c.in_ok-strip_prefix.ensures.cases in
    rw c.from_residual-in_err-second-2.ensures (λ instruction allowed same.
    instruction-second_bad c.args.nodes c.args.results c.args.bytes.now c.in_ok-word.word.now rest small c.in_ok-word.ensures.0
    c.in_ok-word.ensures.1 unmarked
    (λ operand may is. absurd (omega (arith, ap (λ text. get_or text 0 0) (sym sign ∙ is))))
    (λ operand may is. c.in_err-second-2.ensures operand may (append_cancel_left (codes "| ") word _ (sym sign ∙ is))) instruction allowed same)

pub returns : goal.returns
returns c =
    let rest = c.in_ok-word.rest.now in
    let word = c.in_ok-strip_prefix.field-0.now in
    let sign : rest ≡ codes "| " ++ word = strip_prefix_is Decides-eqb rest (codes "| ") (Some c.in_ok-strip_prefix.field-0) c.in_ok-strip_prefix.ensures.cases in (
      (c.in_ok-first.ensures.0, c.in_ok-second-2.ensures.0),
      or_text c.args.bytes.now c.in_ok-word.word.now rest word c.in_ok-first.first c.in_ok-second-2.second c.in_ok-word.ensures.0 c.in_ok-first.ensures.1 sign
          c.in_ok-second-2.ensures.1,
    )
