-- As many rows were passed as there are distinct ones among the texts so far.
use Rattle.std.proofs.Common.{◌≡◌, length, take, drop}
use Rattle.group_text.specs.FirstTexts.{first_texts}
use Rattle.analysis_cache.proofs.CountLemmas.{AreLeft}
use Rattle.analysis_cache.proofs.recent.count_front.Given as goal

abbrev pub invariant-loop-text : goal.invariant-loop-text
invariant-loop-text l =
    record {
      counted : l.count ≡ length (first_texts (take l.text-index l.texts));
      left : AreLeft (drop l.count l.codes.entries) l.next l.front;
    }
