-- A line without a fault that is no comment goes by its words.
use Rattle.std.proofs.Common.{◌≡◌, sym, ap, ◌∙◌}
use Rattle.script_lang.specs.Commands.{reading_of_words}
use Rattle.symbol_script.specs.Lines.{asked_by_words, symbol_reading_of}
use Rattle.symbol_script.proofs.ReadingLemmas.{asked-words, reading-words}
use Rattle.symbol_script.proofs.reader.read_symbol_line.Goals as goal

pub read_words-requires : goal.read_words-requires
read_words-requires c =
    reading-words c.args.bytes.now c.in-Ok.ensures.fault (sym c.is_comment.ensures.test ∙ c.if-is_comment.false)
    ∙ ap reading_of_words (sym c.words.ensures.parts)

pub returns : goal.returns
returns c =
    let same : symbol_reading_of c.args.quiet c.args.bytes.now ≡ asked_by_words c.args.quiet c.words.result =
    asked-words c.args.quiet c.args.bytes.now c.in-Ok.ensures.fault (sym c.is_comment.ensures.test ∙ c.if-is_comment.false)
    ∙ ap (asked_by_words c.args.quiet) (sym c.words.ensures.parts) in
    record { ok = rw same c.read_words.ensures.ok; refused = rw same c.read_words.ensures.refused }
