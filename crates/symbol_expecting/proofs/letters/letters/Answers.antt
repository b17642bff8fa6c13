-- The byte of one node more.
use Rattle.std.proofs.Common.{ℕ, List, [], ◌∷◌, ◌++◌, map, sym, ap, ◌∙◌, arith}
use Rattle.std.proofs.lemmas.List.{take_all}
use Rattle.printed_lines.specs.Lines.{wanted_letter}
use Rattle.vector_values.specs.Values.{Letter}
use Rattle.symbol_giving.specs.Letters.{letter_in}
use Rattle.symbol_giving.specs.declared.letters.SymbolLetter.{SymbolLetter}
use Rattle.symbol_giving.specs.declared.letters.SymbolLetter.TheVariants.{Any}
use Rattle.symbol_expecting.specs.Missing.{column_with}
use Rattle.symbol_expecting.proofs.LetterLemmas.{map_more, wanted_bytes}
use Rattle.symbol_expecting.proofs.MissingLemmas.{wanted_at}
use Rattle.symbol_expecting.proofs.letters.letters.Goals as goal

pub letter-requires : goal.letter-requires
letter-requires c =
    (wanted_at c.args.stage.now c.args.pairs.now c.loop-k.k c.pair_at-node.result c.requires c.loop-k-test.true (sym c.pair_at-node.ensures)).1

pub loop-k-preserved : goal.loop-k-preserved
loop-k-preserved c =
    let column = column_with c.args.stage.now.machine.maker c.args.vars.now in
    let byte = wanted_letter (letter_in c.args.stage.now column c.pair_at-node.result.1) in
    c.in_ok-push.ensures.items
    ∙ ap (λ (own : ℕ). c.loop-k.bytes.items ++ own ∷ []) (c.letter_byte-byte.ensures ∙ ap (λ (letter : Letter). wanted_letter letter) c.letter.ensures)
    ∙ ap (λ (front : List ℕ). front ++ byte ∷ []) c.loop-k.invariant
    ∙ sym (map_more (λ (pair : ℕ × SymbolLetter). wanted_letter (letter_in c.args.stage.now column pair.1)) c.args.pairs.now c.loop-k.k (0, Any)
    c.pair_at-node.result c.loop-k-test.true (sym c.pair_at-node.ensures))

pub returns : goal.returns
returns c =
    let column = column_with c.args.stage.now.machine.maker c.args.vars.now in
    c.loop-k.invariant
    ∙ ap (λ (pairs : List (ℕ × SymbolLetter)). map (λ (pair : ℕ × SymbolLetter). wanted_letter (letter_in c.args.stage.now column pair.1)) pairs)
    (take_all c.loop-k.k c.args.pairs.now (omega (arith, c.loop-k-test.false)))
    ∙ wanted_bytes c.args.stage.now c.args.pairs.now c.args.vars.now
