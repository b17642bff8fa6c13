use Rattle.line_words.proofs.CutLemmas.{IsCut-position, none_passes}
use Rattle.line_words.proofs.WordLemmas.{words_of-cut, words_of-last}
use Rattle.line_words.specs.Bytes.{is_blank}
use Rattle.std.proofs.Common.{sym}
use Rattle.line_words.proofs.word_cursor.cut_word.Goals as goal

pub returns-in-Some : goal.returns-in-Some
returns-in-Some c = record {
  cut = words_of-cut (record { some = c.requires.some; solid = c.requires.solid })
      (IsCut-position is_blank c.args.line.now c.in-Some.at (sym c.in-Some.ensures));
}

pub returns-in-None : goal.returns-in-None
returns-in-None c = record {
  cut = words_of-last c.args.line.now (record {
    has_byte = c.requires.some;
    no_blank = none_passes is_blank c.args.line.now (sym c.in-None.ensures);
  });
}
