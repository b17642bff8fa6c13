-- Words and waveform lines that are compared one after the other: what is told so far is told of all, whatever is told of those that are left; and
-- something is told of all that are left, so what was written before a fault is a part of a right text.
use Rattle.std.proofs.Common.{◌≡◌, ℕ, suc, ◌+◌, ◌<◌, List, [], ◌∷◌, ◌++◌, length, take, drop, Option, Result, Ok, Err, IfOk, OnOk, OnErr, refl, sym, ap, ap₂, subst, ◌∙◌, append-nil, append_assoc, length-append, arith}
use Rattle.std.specs.Prelude.{◌==◌, Bool, false, codes, decimal, if◌then◌else◌}
use Rattle.std.specs.Io.KnownBytes.{append_known}
use Rattle.std.specs.List.{take-map}
use Rattle.std.proofs.lemmas.Bool.Decides.{nat_tests}
use Rattle.std.proofs.lemmas.Grind.{flat_map-append}
use Rattle.ternary.specs.declared.tern.Tern.{Tern}
use Rattle.ports.specs.Sending.{Sends, WritesPart}
use Rattle.ports.proofs.SendingLemmas.{append_known-append, append_known-nil, part_longer, part_none, sends_part}
use Rattle.run_ends.specs.declared.stop.End as end
use Rattle.run_ends.specs.declared.stop.End.TheVariants as ended
use Rattle.symbol_meaning.specs.Readings.{Valuations}
use Rattle.symbol_meaning.specs.Comparing.{Difference, Shown, Watched, by_words, count_text, compared_text, difference_text, AreCompared, AreComparedWords, IsComparedWord}
use Rattle.symbol_meaning.specs.Comparing.AreComparedWords.{no_word, one_more as one_word}
use Rattle.symbol_meaning.specs.Comparing.AreCompared.{no_wave, one_more as one_wave}
use Rattle.symbol_told.specs.declared.notes.WaveNote.{WaveNote}
use Rattle.symbol_told.specs.Differences.{counted_text}
use Rattle.symbol_comparing.specs.declared.fault.CompareFault.{CompareFault}
use Rattle.symbol_comparing.specs.Workspaces.{ending_by}
use Rattle.symbol_comparing.specs.Notes.{heads_of, names_of, shown_from}
use Rattle.symbol_comparing.specs.Told.{end_by, lines_of, Compares, Tells, TellsLines, TellsPart, TellsSome}
use Rattle.symbol_comparing.proofs.WordLemmas.{word_told}

-- the words of a waveform line in each column
abbrev pub Worded : Type 0
Worded = ℕ → List (List ℕ × List Tern)

-- ---- texts

-- the lines of some differences and of others behind them
lines_of-append : (variables : List (List ℕ)) (told more : List Difference) → lines_of variables (told ++ more) ≡ lines_of variables told ++ lines_of variables more
lines_of-append variables told more = flat_map-append (difference_text variables) told more

-- lines that were written, and then others
grown : (variables : List (List ℕ)) (old mid new : Option (List ℕ)) (told more : List Difference) → mid ≡ append_known old (lines_of variables told) →
    new ≡ append_known mid (lines_of variables more) → new ≡ append_known old (lines_of variables (told ++ more))
grown variables old mid new told more first second =
    second ∙ ap (λ (known : Option (List ℕ)). append_known known (lines_of variables more)) first
    ∙ append_known-append old (lines_of variables told) (lines_of variables more) ∙ ap (append_known old) (sym (lines_of-append variables told more))

-- lines that were written, and then a part of others
grown_part : (variables : List (List ℕ)) (old mid new : Option (List ℕ)) (told more rest : List Difference) → mid ≡ append_known old (lines_of variables told) →
    WritesPart mid new (lines_of variables more) → WritesPart old new (lines_of variables (told ++ (more ++ rest)))
grown_part variables old mid new told more rest first part =
    let text = lines_of variables (told ++ (more ++ rest)) in
    let whole : text ≡ lines_of variables told ++ (lines_of variables more ++ lines_of variables rest) =
    lines_of-append variables told (more ++ rest) ∙ ap (λ (later : List ℕ). lines_of variables told ++ later) (lines_of-append variables more rest) in
    let sent : Sends old (append_known old (lines_of variables told)) text (lines_of variables more ++ lines_of variables rest) =
    record { sent = lines_of variables told; whole = whole; grew = refl } in
    sends_part old (append_known old (lines_of variables told)) new text (lines_of variables more) (lines_of variables rest) sent
    (subst (λ (known : Option (List ℕ)). WritesPart known new (lines_of variables more)) first part)

-- one difference alone
pub one_told : (IsRight : List Difference → Type 0) (variables : List (List ℕ)) (own : Difference) (old new : Option (List ℕ)) (before after : ℕ)
    (result : Result (Unit {0}) CompareFault) → IsRight (own ∷ []) → OnOk result (new ≡ append_known old (difference_text variables own)) →
    OnErr result (WritesPart old new (difference_text variables own)) → OnOk result (after ≡ before + 1) → Tells IsRight variables old new before after result
one_told IsRight variables own old new before after (Ok _) right grew part counted = record {
  told = own ∷ [];
  right = right;
  grew = grew ∙ ap (append_known old) (sym (append-nil (difference_text variables own)));
  counted = counted;
}
one_told IsRight variables own old new before after (Err fault) right grew part counted = record {
  told = own ∷ [];
  right = right;
  part = subst (WritesPart old new) (sym (append-nil (difference_text variables own))) part;
}

-- none was written
pub none_written : (IsRight : List Difference → Type 0) (variables : List (List ℕ)) (old : Option (List ℕ)) (told : List Difference) → IsRight told →
    TellsPart IsRight variables old old
none_written IsRight variables old told right = record { told = told; right = right; part = part_none old (lines_of variables told) }

pub none_told : (IsRight : List Difference → Type 0) (variables : List (List ℕ)) (old : Option (List ℕ)) (count : ℕ) → IsRight [] →
    TellsLines IsRight variables old old count count
none_told IsRight variables old count right =
    record { told = []; right = right; grew = sym (append_known-nil old); counted = omega arith }

-- ---- words

module _ (v : Valuations) (line : ℕ) where
  -- what is told so far is told of all, whatever is told of the words that are left
  abbrev pub WordsSoFar : Worded → Worded → List Difference → Worded → Worded → Type 0
  WordsSoFar one other told left_one left_other =
      (more : List Difference) → AreComparedWords v line left_one left_other more → AreComparedWords v line one other (told ++ more)

  -- so it is at the start
  pub words_start : (one other : Worded) → WordsSoFar one other [] one other
  words_start one other = λ more is. is

  -- and with a word more
  pub words_next : (one other left_one left_other rest_one rest_other : Worded) (told own : List Difference) (word : List ℕ) (first second : ℕ → List Tern) →
      WordsSoFar one other told left_one left_other →
      ((column : ℕ) → column < v.columns → (left_one column ≡ (word, first column) ∷ rest_one column) × (left_other column ≡ (word, second column) ∷ rest_other column)) →
      IsComparedWord v line word first second own → WordsSoFar one other (told ++ own) rest_one rest_other
  words_next one other left_one left_other rest_one rest_other told own word first second so_far split is = λ more later.
      subst (AreComparedWords v line one other) (sym (append_assoc told own more))
      (so_far (own ++ more) (one_word left_one left_other rest_one rest_other word first second own more split is later))

  -- if none is left it is told of all
  pub words_end : (one other left_one left_other : Worded) (told : List Difference) → WordsSoFar one other told left_one left_other →
      ((column : ℕ) → column < v.columns → (left_one column ≡ []) × (left_other column ≡ [])) → AreComparedWords v line one other told
  words_end one other left_one left_other told so_far none =
      subst (AreComparedWords v line one other) (append-nil told) (so_far [] (no_word left_one left_other none))

  -- something is told of words with the same names
  pub words_told : (words others : List Watched) (states its : ℕ → List Tern) → names_of words ≡ names_of others →
      (told : List Difference) × AreComparedWords v line (λ column. by_words words (states column)) (λ column. by_words others (its column)) told
  words_told [] [] states its same = ([], no_word (λ column. []) (λ column. []) (λ column inside. (refl, refl)))
  words_told [] (own ∷ others) states its same = absurd (cc same)
  words_told (own ∷ words) [] states its same = absurd (cc same)
  words_told (own ∷ words) (second ∷ others) states its same =
      let name : own.0 ≡ second.0 = cc same in
      let names : names_of words ≡ names_of others = cc same in
      let (told, is) = word_told v line own.0 (λ column. take own.1 (states column)) (λ column. take second.1 (its column)) in
      let (more, later) = words_told words others (λ column. drop own.1 (states column)) (λ column. drop second.1 (its column)) names in (
        told ++ more,
        one_word (λ column. by_words (own ∷ words) (states column)) (λ column. by_words (second ∷ others) (its column))
            (λ column. by_words words (drop own.1 (states column))) (λ column. by_words others (drop second.1 (its column))) own.0
            (λ column. take own.1 (states column)) (λ column. take second.1 (its column)) told more
            (λ column inside. (
              refl,
              ap (λ (word : List ℕ). (word, take second.1 (its column)) ∷ by_words others (drop second.1 (its column))) (sym name),
            )) is later,
      )

-- what was written of words so far
pub record WordsCome (v : Valuations) (line : ℕ) (variables : List (List ℕ)) (one other left_one left_other : Worded) (old now : Option (List ℕ))
    (before after : ℕ) : Type 0 where
  pub told : List Difference
  pub so_far : WordsSoFar v line one other told left_one left_other
  pub grew : now ≡ append_known old (lines_of variables told)
  pub counted : after ≡ before + length told

module _ (v : Valuations) (line : ℕ) (variables : List (List ℕ)) where
  -- none yet
  pub words_come : (one other : Worded) (old : Option (List ℕ)) (count : ℕ) → WordsCome v line variables one other one other old old count count
  words_come one other old count = record {
    told = [];
    so_far = words_start v line one other;
    grew = sym (append_known-nil old);
    counted = omega arith;
  }

  module _ (one other left_one left_other rest_one rest_other : Worded) (old now new : Option (List ℕ)) (before mid after : ℕ) (word : List ℕ)
      (first second : ℕ → List Tern) (come : WordsCome v line variables one other left_one left_other old now before mid)
      (split : (column : ℕ) → column < v.columns →
      (left_one column ≡ (word, first column) ∷ rest_one column) × (left_other column ≡ (word, second column) ∷ rest_other column)) where
    -- one word more
    pub words_come_on : TellsLines (IsComparedWord v line word first second) variables now new mid after →
        WordsCome v line variables one other rest_one rest_other old new before after
    words_come_on is = record {
      told = come.told ++ is.told;
      so_far = words_next v line one other left_one left_other rest_one rest_other come.told is.told word first second come.so_far split is.right;
      grew = grown variables old now new come.told is.told come.grew is.grew;
      counted = omega (arith, come.counted, is.counted, length-append come.told is.told);
    }

    -- a fault at a word
    pub words_come_stop : TellsPart (IsComparedWord v line word first second) variables now new →
        ((told : List Difference) × AreComparedWords v line rest_one rest_other told) → TellsPart (AreComparedWords v line one other) variables old new
    words_come_stop is (more, later) = record {
      told = come.told ++ (is.told ++ more);
      right = come.so_far (is.told ++ more) (one_word left_one left_other rest_one rest_other word first second is.told more split is.right later);
      part = grown_part variables old now new come.told is.told more come.grew is.part;
    }

  -- all words
  pub words_come_end : (one other left_one left_other : Worded) (old new : Option (List ℕ)) (before after : ℕ) →
      WordsCome v line variables one other left_one left_other old new before after →
      ((column : ℕ) → column < v.columns → (left_one column ≡ []) × (left_other column ≡ [])) →
      TellsLines (AreComparedWords v line one other) variables old new before after
  words_come_end one other left_one left_other old new before after come none = record {
    told = come.told;
    right = words_end v line one other left_one left_other come.told come.so_far none;
    grew = come.grew;
    counted = come.counted;
  }

-- what is told of words is told of the same ones
pub words_alike : (v : Valuations) (line : ℕ) (one other own its : Worded) (told : List Difference) →
    ((column : ℕ) → column < v.columns → one column ≡ own column) → ((column : ℕ) → column < v.columns → other column ≡ its column) →
    AreComparedWords v line one other told → AreComparedWords v line own its told
words_alike v line one other own its told first second (no_word _ _ none) =
    no_word own its (λ column inside. (sym (first column inside) ∙ (none column inside).0, sym (second column inside) ∙ (none column inside).1))
words_alike v line one other own its told first second (one_word _ _ rest_one rest_other word letters others here more split is later) =
    one_word own its rest_one rest_other word letters others here more
    (λ column inside. (sym (first column inside) ∙ (split column inside).0, sym (second column inside) ∙ (split column inside).1)) is later

-- the first of some words, and of others with the same names
pub fronts_named : (one other : List Watched) → names_of one ≡ names_of other → (count size : ℕ) → count ≡ size →
    names_of (take count one) ≡ names_of (take size other)
fronts_named one other alike count size is =
    sym (take-map (λ (own : Watched). own.0) count one) ∙ ap₂ (λ (number : ℕ) (list : List (List ℕ)). take number list) is alike
    ∙ take-map (λ (own : Watched). own.0) size other

-- ---- waveform lines

-- what is shown in each column
abbrev pub Shows : Type 0
Shows = ℕ → List Shown

module _ (v : Valuations) where
  abbrev pub WavesSoFar : Shows → Shows → ℕ → List Difference → Shows → Shows → Type 0
  WavesSoFar one other count told left_one left_other = (later : ℕ) (more : List Difference) → AreCompared v left_one left_other later more →
      AreCompared v one other (count + later) (told ++ more)

  pub waves_start : (one other : Shows) → WavesSoFar one other 0 [] one other
  waves_start one other = λ later more is. subst (λ (waves : ℕ). AreCompared v one other waves more) (omega arith) is

  pub waves_next : (one other left_one left_other rest_one rest_other : Shows) (count line : ℕ) (told own : List Difference) (first second : Worded) →
      WavesSoFar one other count told left_one left_other →
      ((column : ℕ) → column < v.columns → (left_one column ≡ (line, first column) ∷ rest_one column) × (left_other column ≡ (line, second column) ∷ rest_other column)) →
      AreComparedWords v line first second own → WavesSoFar one other (count + 1) (told ++ own) rest_one rest_other
  waves_next one other left_one left_other rest_one rest_other count line told own first second so_far split is = λ later more rest.
      let waves : count + suc later ≡ (count + 1) + later = omega arith in
      subst (λ (number : ℕ). AreCompared v one other number ((told ++ own) ++ more)) waves
      (subst (AreCompared v one other (count + suc later)) (sym (append_assoc told own more))
      (so_far (suc later) (own ++ more) (one_wave left_one left_other rest_one rest_other line later first second own more split is rest)))

  pub waves_end : (one other left_one left_other : Shows) (count : ℕ) (told : List Difference) → WavesSoFar one other count told left_one left_other →
      ((column : ℕ) → column < v.columns → (left_one column ≡ []) × (left_other column ≡ [])) → AreCompared v one other count told
  waves_end one other left_one left_other count told so_far none =
      subst (λ (number : ℕ). AreCompared v one other number told) (omega arith)
      (subst (AreCompared v one other (count + 0)) (append-nil told) (so_far 0 [] (no_wave left_one left_other none)))

  -- something is told of waveform lines that are as many, with the same words
  pub waves_told : (words others : List Watched) → names_of words ≡ names_of others → (waves its : List WaveNote) (states those : ℕ → List Tern) →
      heads_of waves ≡ heads_of its → (told : List Difference)
      × AreCompared v (λ column. shown_from words waves (states column)) (λ column. shown_from others its (those column)) (length waves) told
  waves_told words others names [] [] states those same = ([], no_wave (λ column. []) (λ column. []) (λ column inside. (refl, refl)))
  waves_told words others names [] (own ∷ its) states those same = absurd (cc same)
  waves_told words others names (wave ∷ waves) [] states those same = absurd (cc same)
  waves_told words others names (wave ∷ waves) (own ∷ its) states those same =
      let head : (wave.n, wave.words) ≡ (own.n, own.words) = cc same in
      let tail : heads_of waves ≡ heads_of its = cc same in
      let number : wave.n ≡ own.n = ap (λ (at : ℕ × ℕ). at.0) head in
      let front : names_of (take wave.words words) ≡ names_of (take own.words others) = fronts_named words others names wave.words own.words (ap (λ (at : ℕ × ℕ). at.1) head) in
      let (told, is) = words_told v wave.n (take wave.words words) (take own.words others) (λ column. take wave.nodes (states column))
      (λ column. take own.nodes (those column)) front in
      let (more, later) = waves_told words others names waves its (λ column. drop wave.nodes (states column)) (λ column. drop own.nodes (those column)) tail in (
        told ++ more,
        one_wave (λ column. shown_from words (wave ∷ waves) (states column)) (λ column. shown_from others (own ∷ its) (those column))
            (λ column. shown_from words waves (drop wave.nodes (states column))) (λ column. shown_from others its (drop own.nodes (those column)))
            wave.n (length waves) (λ column. by_words (take wave.words words) (take wave.nodes (states column)))
            (λ column. by_words (take own.words others) (take own.nodes (those column))) told more
            (λ column inside. (
              refl,
              ap (λ (n : ℕ). (n, by_words (take own.words others) (take own.nodes (those column))) ∷ shown_from others its (drop own.nodes (those column)))
                  (sym number),
            )) is later,
      )

-- what was written of waveform lines so far
pub record WavesCome (v : Valuations) (variables : List (List ℕ)) (one other : Shows) (count : ℕ) (left_one left_other : Shows) (old now : Option (List ℕ))
    (before after : ℕ) : Type 0 where
  pub told : List Difference
  pub so_far : WavesSoFar v one other count told left_one left_other
  pub grew : now ≡ append_known old (lines_of variables told)
  pub counted : after ≡ before + length told

module _ (v : Valuations) (variables : List (List ℕ)) where
  -- none yet
  pub waves_come : (one other : Shows) (old : Option (List ℕ)) (count : ℕ) → WavesCome v variables one other 0 one other old old count count
  waves_come one other old count = record {
    told = [];
    so_far = waves_start v one other;
    grew = sym (append_known-nil old);
    counted = omega arith;
  }

  module _ (one other left_one left_other rest_one rest_other : Shows) (old now new : Option (List ℕ)) (number before mid after line : ℕ)
      (first second : Worded) (come : WavesCome v variables one other number left_one left_other old now before mid)
      (split : (column : ℕ) → column < v.columns →
      (left_one column ≡ (line, first column) ∷ rest_one column) × (left_other column ≡ (line, second column) ∷ rest_other column)) where
    -- one waveform line more
    pub waves_come_on : TellsLines (AreComparedWords v line first second) variables now new mid after →
        WavesCome v variables one other (number + 1) rest_one rest_other old new before after
    waves_come_on is = record {
      told = come.told ++ is.told;
      so_far = waves_next v one other left_one left_other rest_one rest_other number line come.told is.told first second come.so_far split is.right;
      grew = grown variables old now new come.told is.told come.grew is.grew;
      counted = omega (arith, come.counted, is.counted, length-append come.told is.told);
    }

    -- a fault at one
    pub waves_come_stop : (later : ℕ) → TellsPart (AreComparedWords v line first second) variables now new →
        ((told : List Difference) × AreCompared v rest_one rest_other later told) →
        TellsPart (AreCompared v one other (number + suc later)) variables old new
    waves_come_stop later is (more, rest) = record {
      told = come.told ++ (is.told ++ more);
      right = come.so_far (suc later) (is.told ++ more)
          (one_wave left_one left_other rest_one rest_other line later first second is.told more split is.right rest);
      part = grown_part variables old now new come.told is.told more come.grew is.part;
    }

  -- all waveform lines
  pub waves_come_end : (one other left_one left_other : Shows) (old new : Option (List ℕ)) (number before after : ℕ) →
      WavesCome v variables one other number left_one left_other old new before after →
      ((column : ℕ) → column < v.columns → (left_one column ≡ []) × (left_other column ≡ [])) →
      TellsLines (AreCompared v one other number) variables old new before after
  waves_come_end one other left_one left_other old new number before after come none = record {
    told = come.told;
    right = waves_end v one other left_one left_other number come.told come.so_far none;
    grew = come.grew;
    counted = come.counted;
  }

-- ---- the last line

-- the count is that of the differences, and so is the end
pub count_told : (waves : ℕ) (told : List Difference) → counted_text waves (length told) ≡ count_text waves told
count_told waves [] = refl
count_told waves (own ∷ others) =
    let some : (length (own ∷ others) == 0) ≡ false = grind (arith, nat_tests) in
    ap (λ (none : Bool). if none then codes "equal " ++ decimal waves ++ codes "\n" else codes "different " ++ decimal (length (own ∷ others)) ++ codes "\n") some

pub end_told : (told : List Difference) → ending_by (length told) ≡ end_by told
end_told [] = refl
end_told (own ∷ others) =
    let some : (length (own ∷ others) == 0) ≡ false = grind (arith, nat_tests) in
    ap (λ (none : Bool). if none then ended.Done else ended.Mismatch) some

-- the lines, and then the count
pub compared_all : (variables : List (List ℕ)) (old mid new : Option (List ℕ)) (waves : ℕ) (told : List Difference) → mid ≡ append_known old (lines_of variables told) →
    new ≡ append_known mid (counted_text waves (length told)) → new ≡ append_known old (compared_text variables waves told)
compared_all variables old mid new waves told first second =
    second ∙ ap₂ (λ (known : Option (List ℕ)) (text : List ℕ). append_known known text) first (count_told waves told)
    ∙ append_known-append old (lines_of variables told) (count_text waves told)

-- a part of the lines is a part of the whole text
pub compared_part : (variables : List (List ℕ)) (old new : Option (List ℕ)) (waves : ℕ) (told : List Difference) → WritesPart old new (lines_of variables told) →
    WritesPart old new (compared_text variables waves told)
compared_part variables old new waves told part = part_longer old new (lines_of variables told) (count_text waves told) part

-- and so are all lines and a part of the count
pub compared_end : (variables : List (List ℕ)) (old mid new : Option (List ℕ)) (waves : ℕ) (told : List Difference) → mid ≡ append_known old (lines_of variables told) →
    WritesPart mid new (counted_text waves (length told)) → WritesPart old new (compared_text variables waves told)
compared_end variables old mid new waves told first part =
    let lines = lines_of variables told in
    let count = count_text waves told in
    let sent : Sends old (append_known old lines) (lines ++ count) (count ++ []) =
    record { sent = lines; whole = ap (λ (rest : List ℕ). lines ++ rest) (sym (append-nil count)); grew = refl } in
    sends_part old (append_known old lines) new (lines ++ count) count [] sent
    (subst (WritesPart (append_known old lines) new) (count_told waves told) (subst (λ (known : Option (List ℕ)). WritesPart known new (counted_text waves (length told))) first part))

-- ---- the whole

-- a part of the lines is a part of the whole answer
pub part_compared : (v : Valuations) (variables : List (List ℕ)) (one other : Shows) (waves : ℕ) (old new : Option (List ℕ)) →
    TellsPart (AreCompared v one other waves) variables old new → TellsSome v variables one other old new
part_compared v variables one other waves old new is = record {
  waves = waves;
  told = is.told;
  right = is.right;
  part = compared_part variables old new waves is.told is.part;
}

-- the lines and the count are the whole; if the count wasn't written whole, a part of it was
pub all_compared : (v : Valuations) (variables : List (List ℕ)) (one other : Shows) (waves number : ℕ) (old mid new : Option (List ℕ)) (before count : ℕ)
    (result : Result end.End CompareFault) → number ≡ waves → before ≡ 0 → TellsLines (AreCompared v one other waves) variables old mid before count →
    OnOk result (new ≡ append_known mid (counted_text number count)) → OnErr result (WritesPart mid new (counted_text number count)) →
    IfOk result (λ ended. ended ≡ ending_by count) → Compares v variables one other old new result
all_compared v variables one other waves number old mid new before count (Ok ending) same none is grew part ends =
    let all : count ≡ length is.told = omega (arith, is.counted, none) in
    record {
      waves = waves;
      told = is.told;
      right = is.right;
      ends = ends ∙ ap ending_by all ∙ end_told is.told;
      grew = compared_all variables old mid new waves is.told is.grew
          (grew ∙ ap₂ (λ (lines differences : ℕ). append_known mid (counted_text lines differences)) same all);
    }
all_compared v variables one other waves number old mid new before count (Err fault) same none is grew part ends =
    let all : count ≡ length is.told = omega (arith, is.counted, none) in
    record {
      waves = waves;
      told = is.told;
      right = is.right;
      part = compared_end variables old mid new waves is.told is.grew
          (subst (λ (lines : ℕ). WritesPart mid new (counted_text lines (length is.told))) same
          (subst (λ (differences : ℕ). WritesPart mid new (counted_text number differences)) all part));
    }
