-- A comparison has one answer: both runs end in one way, each shows one thing under each valuation, and what is compared is told in one way alone.
use Rattle.std.proofs.Common.{◌≡◌, ℕ, suc, ◌<◌, ◌⊎◌, inl, inr, true, Bool, List, [], ◌∷◌, ◌++◌, length, filter_map, codes, Option, Some, None, refl, sym, ap, ap₂, ◌∙◌, subst, arith}
use Rattle.std.proofs.lemmas.Nat.{pow_pos}
use Rattle.ternary.specs.declared.tern.Tern.{Tern}
use Rattle.group_text.specs.Texts.{GroupTextData}
use Rattle.told_lines.specs.Lines.{Line}
use Rattle.run_ends.specs.Answers.{Answer}
use Rattle.session_meaning.specs.Sessions.{SessionData}
use Rattle.session_meaning.proofs.UniqueEffects.{performs_unique}
use Rattle.script_meaning.specs.Runs.{Outcome, Reading, RefusedLine}
use Rattle.script_meaning.specs.FirstRefused.{IsObeyed}
use Rattle.script_meaning.specs.FirstRefused.IsObeyed.{idle, done}
use Rattle.script_meaning.proofs.UniqueRuns.{runs_unique, same_command}
use Rattle.symbol_meaning.specs.Scripts.{NamedStop, before_stop, read_of, stop_of, variables_of}
use Rattle.symbol_meaning.specs.Readings.{Valuations, reading_under, valuations_of}
use Rattle.symbol_meaning.specs.Comparing.{Difference, IsComparedWord, IsComparison, IsEnded, IsFirstDifferent, IsRefusedFirst, IsRefusedSecond, RunsIn, Shown, ShowsIn, ShowsWaves, Watched, AreCompared, AreComparedWords, compared_answer, refused_answer, shown_by, words_of_line, IsEqualAnswer}
use Rattle.symbol_meaning.specs.Comparing.ShowsWaves.{no_line, one_more as one_line}
use Rattle.symbol_meaning.specs.Comparing.AreComparedWords.{no_word, one_more as one_word}
use Rattle.symbol_meaning.specs.Comparing.AreCompared.{no_wave, one_more as one_wave}
use Rattle.symbol_meaning.specs.Comparing.IsEqualAnswer.{compared, refused_first, refused_second}
use Rattle.symbol_meaning.proofs.RunLemmas.{columns_run}

-- ---- what a run shows under a valuation

-- a line that is obeyed leads to one session, and writes one list of lines
record LeadsToOne (new later : SessionData) (wrote more : List Line) : Type 0 where
  end : new ≡ later
  wrote_is : wrote ≡ more

obeyed_unique : (reading : Reading) (cut : Option ℕ) (old new later : SessionData) (line : ℕ × List ℕ) (wrote more : List Line) (texts others : List GroupTextData) →
    IsObeyed reading cut old line new wrote texts → IsObeyed reading cut old line later more others → LeadsToOne new later wrote more
obeyed_unique reading cut old new later line wrote more texts others (idle is) (idle also) = record { end = refl; wrote_is = refl }
obeyed_unique reading cut old new later line wrote more texts others (idle is) (done command to lines analysed asks performs) = absurd (cc (is.nothing, asks.asked))
obeyed_unique reading cut old new later line wrote more texts others (done command to lines analysed asks performs) (idle is) = absurd (cc (is.nothing, asks.asked))
obeyed_unique reading cut old new later line wrote more texts others (done command to lines analysed asks performs) (done command_2 to_2 lines_2 analysed_2 asks_2 performs_2) =
    let same = performs_unique old to to_2 command command_2 lines lines_2 analysed analysed_2 performs performs_2 (same_command asks asks_2) in
    record { end = same.end; wrote_is = same.wrote }

shows_unique : (reading : Reading) (cut : Option ℕ) (words : List Watched) (start : SessionData) (lines : List (ℕ × List ℕ)) (end finish : SessionData) (shown more : List Shown) →
    ShowsWaves reading cut words start lines end shown → ShowsWaves reading cut words start lines finish more → shown ≡ more
shows_unique reading cut words start lines end finish shown more (no_line _ _) (no_line _ _) = refl
shows_unique reading cut words start lines end finish shown more (one_line _ old mid new line rest wrote texts after obeyed later)
    (one_line _ _ mid_2 new_2 _ _ wrote_2 texts_2 after_2 obeyed_2 later_2) =
    let leads = obeyed_unique reading cut old mid mid_2 line wrote wrote_2 texts texts_2 obeyed obeyed_2 in
    let now : List Watched = words ++ words_of_line reading old line in
    ap₂ (λ (a b : List Shown). a ++ b) (ap (filter_map (shown_by words)) leads.wrote_is)
    (shows_unique reading cut now mid rest new new_2 after after_2 later
    (subst (λ (session : SessionData). ShowsWaves reading cut now session rest new_2 after_2) (sym leads.end) later_2))

-- ---- what is compared

-- a column is before another, at it or past it
place_of : (m n : ℕ) → (m < n) ⊎ ((m ≡ n) ⊎ (n < m))
place_of m n = grind arith

-- a difference, of its parts
abbrev difference_with : ℕ → List ℕ → List Tern → List Tern → List Bool → Difference
difference_with line word one other truths = record { line = line; word = word; one = one; other = other; truths = truths }

module _ (v : Valuations) (some : 0 < v.columns) (line : ℕ) where
  -- the first column in which a word differs is one
  first_unique : (word : List ℕ) (one other one_2 other_2 : ℕ → List Tern) → ((c : ℕ) → c < v.columns → one c ≡ one_2 c) →
      ((c : ℕ) → c < v.columns → other c ≡ other_2 c) → (own more : Difference) →
      IsFirstDifferent v line word one other own → IsFirstDifferent v line word one_2 other_2 more → own ≡ more
  first_unique word one other one_2 other_2 firsts seconds own more is also =
      elim (place_of is.column also.column) [
        | inl less ↦ absurd (is.differ (firsts is.column is.inside ∙ also.same_before is.column less ∙ sym (seconds is.column is.inside)))
        | inr rest ↦ elim rest [
          | inl at ↦
              is.own_is
              ∙ ap₂ (λ (a b : List Tern). difference_with line word a b (v.truths is.column)) (firsts is.column is.inside) (seconds is.column is.inside)
              ∙ ap (λ (c : ℕ). difference_with line word (one_2 c) (other_2 c) (v.truths c)) at
              ∙ sym also.own_is
          | inr less ↦ absurd (also.differ (sym (firsts also.column also.inside) ∙ is.same_before also.column less ∙ seconds also.column also.inside))
        ]
      ]

  -- so what is told of a word is
  word_unique : (word : List ℕ) (one other one_2 other_2 : ℕ → List Tern) → ((c : ℕ) → c < v.columns → one c ≡ one_2 c) →
      ((c : ℕ) → c < v.columns → other c ≡ other_2 c) → (told more : List Difference) →
      IsComparedWord v line word one other told → IsComparedWord v line word one_2 other_2 more → told ≡ more
  word_unique word one other one_2 other_2 firsts seconds [] [] is also = refl
  word_unique word one other one_2 other_2 firsts seconds [] (more ∷ []) is also =
      absurd (also.differ (sym (firsts also.column also.inside) ∙ is also.column also.inside ∙ seconds also.column also.inside))
  word_unique word one other one_2 other_2 firsts seconds (told ∷ []) [] is also =
      absurd (is.differ (firsts is.column is.inside ∙ also is.column is.inside ∙ sym (seconds is.column is.inside)))
  word_unique word one other one_2 other_2 firsts seconds (told ∷ []) (more ∷ []) is also =
      ap (λ (own : Difference). own ∷ []) (first_unique word one other one_2 other_2 firsts seconds told more is also)
  word_unique word one other one_2 other_2 firsts seconds [] (more ∷ second ∷ rest) is also = absurd also
  word_unique word one other one_2 other_2 firsts seconds (told ∷ []) (more ∷ second ∷ rest) is also = absurd also
  word_unique word one other one_2 other_2 firsts seconds (told ∷ second ∷ rest) more is also = absurd is

  -- and of all words of a line
  words_unique : (one other one_2 other_2 : ℕ → List (List ℕ × List Tern)) → ((c : ℕ) → c < v.columns → one c ≡ one_2 c) →
      ((c : ℕ) → c < v.columns → other c ≡ other_2 c) → (told more : List Difference) →
      AreComparedWords v line one other told → AreComparedWords v line one_2 other_2 more → told ≡ more
  words_unique one other one_2 other_2 firsts seconds told more (no_word _ _ nothing) (no_word _ _ empty) = refl
  words_unique one other one_2 other_2 firsts seconds told more (no_word _ _ nothing) (one_word _ _ rest _ word first _ _ _ starts is after) =
      absurd (let e : [] ≡ (word, first 0) ∷ rest 0 = sym (nothing 0 some).0 ∙ firsts 0 some ∙ (starts 0 some).0 in cc e)
  words_unique one other one_2 other_2 firsts seconds told more (one_word _ _ rest _ word first _ _ _ starts is after) (no_word _ _ empty) =
      absurd (let e : (word, first 0) ∷ rest 0 ≡ [] = sym (starts 0 some).0 ∙ firsts 0 some ∙ (empty 0 some).0 in cc e)
  words_unique one other one_2 other_2 firsts seconds told more (one_word _ _ rest others word first second own further starts is after)
      (one_word _ _ rest_2 others_2 word_2 first_2 second_2 own_2 further_2 starts_2 is_2 after_2) =
      let ones : (c : ℕ) → c < v.columns → (word, first c) ∷ rest c ≡ (word_2, first_2 c) ∷ rest_2 c =
      λ c inside. sym (starts c inside).0 ∙ firsts c inside ∙ (starts_2 c inside).0 in
      let twos : (c : ℕ) → c < v.columns → (word, second c) ∷ others c ≡ (word_2, second_2 c) ∷ others_2 c =
      λ c inside. sym (starts c inside).1 ∙ seconds c inside ∙ (starts_2 c inside).1 in
      let one_is : (c : ℕ) → c < v.columns → (word, first c) ≡ (word_2, first_2 c) = λ c inside. cc (ones c inside) in
      let two_is : (c : ℕ) → c < v.columns → (word, second c) ≡ (word_2, second_2 c) = λ c inside. cc (twos c inside) in
      let word_is : word ≡ word_2 = ap (λ (own : List ℕ × List Tern). own.0) (one_is 0 some) in
      ap₂ (λ (a b : List Difference). a ++ b)
      (word_unique word first second first_2 second_2 (λ c inside. ap (λ (own : List ℕ × List Tern). own.1) (one_is c inside))
      (λ c inside. ap (λ (own : List ℕ × List Tern). own.1) (two_is c inside)) own own_2 is
      (subst (λ (name : List ℕ). IsComparedWord v line name first_2 second_2 own_2) (sym word_is) is_2))
      (words_unique rest others rest_2 others_2 (λ c inside. cc (ones c inside)) (λ c inside. cc (twos c inside)) further further_2 after after_2)

-- and of all waveform lines, of which there are so many
waves_unique : (v : Valuations) → 0 < v.columns → (one other one_2 other_2 : ℕ → List Shown) → ((c : ℕ) → c < v.columns → one c ≡ one_2 c) →
    ((c : ℕ) → c < v.columns → other c ≡ other_2 c) → (count number : ℕ) (told more : List Difference) →
    AreCompared v one other count told → AreCompared v one_2 other_2 number more → (count ≡ number) × (told ≡ more)
waves_unique v some one other one_2 other_2 firsts seconds count number told more (no_wave _ _ nothing) (no_wave _ _ empty) = (refl, refl)
waves_unique v some one other one_2 other_2 firsts seconds count number told more (no_wave _ _ nothing) (one_wave _ _ rest _ line _ first _ _ _ starts is after) =
    absurd (let e : [] ≡ (line, first 0) ∷ rest 0 = sym (nothing 0 some).0 ∙ firsts 0 some ∙ (starts 0 some).0 in cc e)
waves_unique v some one other one_2 other_2 firsts seconds count number told more (one_wave _ _ rest _ line _ first _ _ _ starts is after) (no_wave _ _ empty) =
    absurd (let e : (line, first 0) ∷ rest 0 ≡ [] = sym (starts 0 some).0 ∙ firsts 0 some ∙ (empty 0 some).0 in cc e)
waves_unique v some one other one_2 other_2 firsts seconds count number told more (one_wave _ _ rest others line number_1 first second own further starts is after)
    (one_wave _ _ rest_2 others_2 line_2 number_2 first_2 second_2 own_2 further_2 starts_2 is_2 after_2) =
    let ones : (c : ℕ) → c < v.columns → (line, first c) ∷ rest c ≡ (line_2, first_2 c) ∷ rest_2 c =
    λ c inside. sym (starts c inside).0 ∙ firsts c inside ∙ (starts_2 c inside).0 in
    let twos : (c : ℕ) → c < v.columns → (line, second c) ∷ others c ≡ (line_2, second_2 c) ∷ others_2 c =
    λ c inside. sym (starts c inside).1 ∙ seconds c inside ∙ (starts_2 c inside).1 in
    let one_is : (c : ℕ) → c < v.columns → (line, first c) ≡ (line_2, first_2 c) = λ c inside. cc (ones c inside) in
    let two_is : (c : ℕ) → c < v.columns → (line, second c) ≡ (line_2, second_2 c) = λ c inside. cc (twos c inside) in
    let line_is : line ≡ line_2 = ap (λ (own : Shown). own.0) (one_is 0 some) in
    let later = waves_unique v some rest others rest_2 others_2 (λ c inside. cc (ones c inside)) (λ c inside. cc (twos c inside)) number_1 number_2 further further_2
    after after_2 in (
      ap suc later.0,
      ap₂ (λ (a b : List Difference). a ++ b)
          (words_unique v some line first second first_2 second_2 (λ c inside. ap (λ (shown : Shown). shown.1) (one_is c inside))
          (λ c inside. ap (λ (shown : Shown). shown.1) (two_is c inside)) own own_2 is
          (subst (λ (n : ℕ). AreComparedWords v n first_2 second_2 own_2) (sym line_is) is_2))
          later.1,
    )

-- ---- answers

module _ (cut : Option ℕ) (lines : List (ℕ × List ℕ)) where
  -- there is a valuation
  some_column : 0 < (valuations_of (read_of true cut lines)).columns
  some_column = pow_pos (length (variables_of (read_of true cut lines)))

  -- a run ends in one way, and has the same texts analysed
  run_unique : (start : SessionData) (last final : Option RefusedLine) (texts others : List GroupTextData) → RunsIn cut start lines last texts →
      RunsIn cut start lines final others → (last ≡ final) × (texts ≡ others)
  run_unique start last final texts others one two =
      let v = valuations_of (read_of true cut lines) in
      let front = before_stop (stop_of true cut lines) lines in
      let first = columns_run true v cut (λ column. start) front one.end one.told texts last one.runs 0 some_column in
      let second = columns_run true v cut (λ column. start) front two.end two.told others final two.runs 0 some_column in
      let outcomes = runs_unique _ _ _ _ first.outcome second.outcome first.runs second.runs in (
        sym first.stopped ∙ ap (λ (outcome : Outcome). outcome.refused) outcomes ∙ second.stopped,
        sym first.analysed ∙ ap (λ (outcome : Outcome). outcome.texts) outcomes ∙ second.analysed,
      )

  -- and shows one thing under each valuation
  shown_unique : (start : SessionData) (shown more : ℕ → List Shown) → ShowsIn cut start lines shown → ShowsIn cut start lines more → (c : ℕ) →
      c < (valuations_of (read_of true cut lines)).columns → shown c ≡ more c
  shown_unique start shown more one two c inside =
      let (end, first) = one c inside in
      let (finish, second) = two c inside in
      shows_unique (reading_under true ((valuations_of (read_of true cut lines)).values c)) cut [] start lines end finish (shown c) (more c) first second

  -- none of it is a refusal if no line is refused
  not_ended : (last : Option RefusedLine) (stop : Option NamedStop) → None ≡ last → stop ≡ None → IsEnded last stop → ⊥
  not_ended None None none by_names is = is
  not_ended None (Some stop) none by_names is = absurd (cc by_names)
  not_ended (Some stopped) stop none by_names is = absurd (cc none)

  module _ (one other : SessionData) (answer further : Answer) where
    comparison_unique : IsComparison cut one other lines answer → IsComparison cut one other lines further → answer ≡ further
    comparison_unique is also =
        let v = valuations_of (read_of true cut lines) in
        let variables = variables_of (read_of true cut lines) in
        let first = (run_unique one None None is.first_texts also.first_texts is.first also.first).1 in
        let second = (run_unique other None None is.second_texts also.second_texts is.second also.second).1 in
        let same = waves_unique v some_column is.first_shown is.second_shown also.first_shown also.second_shown
        (shown_unique one is.first_shown also.first_shown is.first_shows also.first_shows)
        (shown_unique other is.second_shown also.second_shown is.second_shows also.second_shows)
        is.waves also.waves is.told also.told is.compared also.compared in
        is.told_is
        ∙ ap₂ (λ (waves : ℕ) (told : List Difference). compared_answer variables waves told (is.first_texts ++ is.second_texts)) same.0 same.1
        ∙ ap₂ (λ (a b : List GroupTextData). compared_answer variables also.waves also.told (a ++ b)) first second
        ∙ sym also.told_is

    first_refusal_unique : IsRefusedFirst cut one lines answer → IsRefusedFirst cut one lines further → answer ≡ further
    first_refusal_unique is also =
        let stop = stop_of true cut lines in
        let same = run_unique one is.last also.last answer.texts further.texts is.runs also.runs in
        is.told_is
        ∙ ap₂ (λ (last : Option RefusedLine) (texts : List GroupTextData). refused_answer (codes "first net: ") last stop texts) same.0 same.1
        ∙ sym also.told_is

    second_refusal_unique : IsRefusedSecond cut one other lines answer → IsRefusedSecond cut one other lines further → answer ≡ further
    second_refusal_unique is also =
        let first = (run_unique one None None is.first_texts also.first_texts is.first also.first).1 in
        let second = run_unique other (Some is.stopped) (Some also.stopped) is.second_texts also.second_texts is.second also.second in
        is.told_is
        ∙ ap (λ (last : Option RefusedLine). refused_answer (codes "second net: ") last None (is.first_texts ++ is.second_texts)) second.0
        ∙ ap₂ (λ (a b : List GroupTextData). refused_answer (codes "second net: ") (Some also.stopped) None (a ++ b)) first second.1
        ∙ sym also.told_is

    -- a script that is refused in neither run isn't refused in the first, nor in the second, and none refused in the second is in the first
    not_first : IsComparison cut one other lines answer → IsRefusedFirst cut one lines further → ⊥
    not_first is also =
        not_ended also.last (stop_of true cut lines) (run_unique one None also.last is.first_texts further.texts is.first also.runs).0 is.by_names also.ended

    not_second : IsComparison cut one other lines answer → IsRefusedSecond cut one other lines further → ⊥
    not_second is also =
        absurd (cc (run_unique other None (Some also.stopped) is.second_texts also.second_texts is.second also.second).0)

    not_both : IsRefusedSecond cut one other lines answer → IsRefusedFirst cut one lines further → ⊥
    not_both is also =
        not_ended also.last (stop_of true cut lines) (run_unique one None also.last is.first_texts further.texts is.first also.runs).0 is.by_names also.ended

-- a comparison has one answer
pub equal_unique : (cut : Option ℕ) (one other : SessionData) (lines : List (ℕ × List ℕ)) (answer further : Answer) →
    IsEqualAnswer cut one other lines answer → IsEqualAnswer cut one other lines further → answer ≡ further
equal_unique cut one other lines answer further (compared is) (compared also) = comparison_unique cut lines one other answer further is also
equal_unique cut one other lines answer further (compared is) (refused_first also) = absurd (not_first cut lines one other answer further is also)
equal_unique cut one other lines answer further (compared is) (refused_second also) = absurd (not_second cut lines one other answer further is also)
equal_unique cut one other lines answer further (refused_first is) (compared also) = absurd (not_first cut lines one other further answer also is)
equal_unique cut one other lines answer further (refused_first is) (refused_first also) = first_refusal_unique cut lines one other answer further is also
equal_unique cut one other lines answer further (refused_first is) (refused_second also) = absurd (not_both cut lines one other further answer also is)
equal_unique cut one other lines answer further (refused_second is) (compared also) = absurd (not_second cut lines one other further answer also is)
equal_unique cut one other lines answer further (refused_second is) (refused_first also) = absurd (not_both cut lines one other answer further is also)
equal_unique cut one other lines answer further (refused_second is) (refused_second also) = second_refusal_unique cut lines one other answer further is also
