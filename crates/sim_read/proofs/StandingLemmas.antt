-- What each step of a reader does to the texts that it stands for: a piece of a refused text, a piece up to the limit, a piece of a line,
-- the end of a line, and the end of the text. A held line means what the line means, since the bytes that aren't held only make it longer.
use Rattle.std.proofs.Common.{◌≡◌, ℕ, ◌+◌, ◌<◌, ◌≤◌, true, false, List, [], ◌∷◌, ◌++◌, length, take, drop, min, Option, None, Some, Result, Ok, Err, inl, inr, refl, sym, ap, subst, ◌∙◌, arith, append_assoc, append-nil, length-append, is_ok, OnOk, IfOk, IfErr}
use Rattle.std.proofs.Math.Seq.{take-append-add}
use Rattle.std.specs.Prelude.{if◌then◌else◌, ◌==◌, ◌-◌}
use Rattle.std.specs.List.{enumerate_from}
use Rattle.std.proofs.lemmas.Bool.{cases_lt}
use Rattle.std.proofs.lemmas.Bool.Decides.{nat_tests}
use Rattle.std.proofs.lemmas.List.{take_all, length-take}
use Rattle.std.proofs.lemmas.List.Elements.{All-append, All-nil}
use Rattle.line_words.specs.declared.files.TheConstants.{MOST_FILE_BYTES}
use Rattle.line_words.specs.Bytes.{line_feed, is_line_feed}
use Rattle.line_words.specs.Lines.{without_return, HasNoFeed}
use Rattle.line_words.specs.Pieces.{AreEnded, EndsLine}
use Rattle.line_words.specs.Pieces.AreEnded.{no_line}
use Rattle.line_words.proofs.PieceLemmas.{AreEnded-push}
use Rattle.ternary.specs.declared.unmade.Unmade.{Unmade}
use Rattle.ternary.specs.declared.unmade.Unmade.TheVariants.{Refused, NoMemory}
use Rattle.sim_read.specs.declared.fault.NetRefusal.{NetRefusal}
use Rattle.sim_read.specs.declared.pieces.TheConstants.{MOST_HELD}
use Rattle.sim_read.specs.Drafts.{DraftData, circuit_of, rails_draft, sized}
use Rattle.sim_read.specs.Meaning.{line_meaning, lines_meaning, netlist_of}
use Rattle.ternary.specs.Unmade.{IsFault}
use Rattle.sim_read.specs.Standing.{counted, too_far, GoesOn, IsOpen, IsRead, IsRefused, ReaderData, StandsBy, StandsFor}
use Rattle.sim_read.proofs.MeaningLemmas.{onward}
use Rattle.sim_read.proofs.FrontLemmas.{and_lines, enumerate_from-append, lines_meaning-append, meaning_last, meaning_whole, refused_after, refused_too_far}
use Rattle.sim_read.proofs.HeldLemmas.{take-held, held_meaning, count-append, still_short, now_long, opened}

-- ---- the steps

-- a reader that begins stands for the empty text
pub starts : (r : ReaderData) → r ≡ record { draft = rails_draft; ended = 0; bytes = 0; held = []; fault = None } → StandsFor r []
starts r is = subst (λ reader. StandsFor reader []) (sym is) (record {
  count = refl;
  stands = record {
    front = [];
    rest = [];
    lines = [];
    parts = refl;
    are = no_line;
    unended = All-nil (λ byte. is_line_feed byte ≡ false);
    short = omega arith;
    number = refl;
    holds = refl;
    drafts = refl;
  };
})

-- a refusal stays
refused_on : (refusal : NetRefusal) (text piece : List ℕ) → IsRefused refusal text → IsRefused refusal (text ++ piece)
refused_on refusal text piece refused = λ more. ap netlist_of (append_assoc text piece more) ∙ refused (piece ++ more)

pub stays_refused : (old new : ReaderData) (piece : List ℕ) (fault : Unmade NetRefusal) → old.fault ≡ Some fault
    → new ≡ record old { bytes = counted old.bytes (length piece) } → GoesOn old new piece
stays_refused old new piece fault is same = λ text stood.
    subst (λ reader. StandsFor reader (text ++ piece)) (sym same) (record {
      count = count-append old text piece stood;
      stands = subst (StandsBy (record old { bytes = counted old.bytes (length piece) }) (text ++ piece)) (sym is)
          (by fault text (subst (StandsBy old text) is stood.stands));
    }) where
      by : (fault : Unmade NetRefusal) (text : List ℕ) → StandsBy old text (Some fault)
          → StandsBy (record old { bytes = counted old.bytes (length piece) }) (text ++ piece) (Some fault)
      by (Refused refusal) text refused = refused_on refusal text piece refused
      by NoMemory text none = absurd none

-- the text comes to its first byte too many, in the line that hasn't ended or as the LF that would end it
pub comes_too_far : (old new : ReaderData) (part after : List ℕ) → old.fault ≡ None → HasNoFeed part → length after ≤ 1
    → MOST_FILE_BYTES < counted old.bytes (length (part ++ after))
    → new ≡ record old { bytes = counted old.bytes (length (part ++ after)); fault = Some (Refused (too_far old.ended)) }
    → GoesOn old new (part ++ after)
comes_too_far old new part after none unended one past same = λ text stood.
    let is = opened old text none stood in
    let line = is.rest ++ part in
    let long : MOST_FILE_BYTES < length (text ++ (part ++ after)) = now_long old text (part ++ after) stood past in
    let whole : length text ≡ length is.front + length is.rest = ap length is.parts ∙ length-append is.front is.rest in
    let refused : IsRefused (too_far old.ended) (text ++ (part ++ after)) = λ more.
    let joined : (text ++ (part ++ after)) ++ more ≡ is.front ++ (line ++ (after ++ more)) =
    ap (λ start. (start ++ (part ++ after)) ++ more) is.parts
    ∙ simp append_assoc in
    let sizes : length (line ++ (after ++ more)) ≡ length is.rest + length part + (length after + length more) =
    simp length-append in
    let sum : length (text ++ (part ++ after)) ≡ length text + (length part + length after) = simp length-append in
    ap netlist_of joined
    ∙ refused_too_far is.front line (after ++ more) is.lines old.draft is.are
    (All-append (λ byte. is_line_feed byte ≡ false) is.rest part is.unended unended) is.drafts
    (let short = is.short in omega arith)
    (omega (arith, length-append is.rest part))
    (omega arith)
    ∙ ap (λ n. Err (too_far n)) (sym is.number) in
    subst (λ reader. StandsFor reader (text ++ (part ++ after))) (sym same) (record {
      count = count-append old text (part ++ after) stood;
      stands = refused;
    })

-- a line goes on
pub holds_more : (old new : ReaderData) (part : List ℕ) → old.fault ≡ None → HasNoFeed part
    → counted old.bytes (length part) ≤ MOST_FILE_BYTES
    → new ≡ record old { bytes = counted old.bytes (length part); held = take MOST_HELD (old.held ++ part) }
    → GoesOn old new part
holds_more old new part none unended within same = λ text stood.
    let is = opened old text none stood in
    let next : ReaderData = record old { bytes = counted old.bytes (length part); held = take MOST_HELD (old.held ++ part) } in
    let open_still : IsOpen next (text ++ part) = record {
      front = is.front;
      rest = is.rest ++ part;
      lines = is.lines;
      parts = ap (λ start. start ++ part) is.parts ∙ append_assoc is.front is.rest part;
      are = is.are;
      unended = All-append (λ byte. is_line_feed byte ≡ false) is.rest part is.unended unended;
      short = still_short old text part stood within;
      number = is.number;
      holds = ap (λ held. take MOST_HELD (held ++ part)) is.holds ∙ take-held MOST_HELD is.rest part;
      drafts = is.drafts;
    } in
    subst (λ reader. StandsFor reader (text ++ part)) (sym same) (record {
      count = count-append old text part stood;
      stands = subst (StandsBy next (text ++ part)) (sym none) open_still;
    })

-- a line ends: it has its effect, or is refused
module _ (old : ReaderData) (part text : List ℕ) (stood : StandsFor old text) (is : IsOpen old text) (unended : HasNoFeed part) (within : counted old.bytes (length (part ++ line_feed ∷ [])) ≤ MOST_FILE_BYTES) where
  -- the line, and the lines that have ended now
  abbrev whole : List ℕ
  whole = is.rest ++ part

  abbrev lines : List (List ℕ)
  lines = is.lines ++ without_return whole ∷ []

  abbrev front : List ℕ
  front = is.front ++ (whole ++ line_feed ∷ [])

  parts : text ++ (part ++ line_feed ∷ []) ≡ front
  parts = ap (λ start. start ++ (part ++ line_feed ∷ [])) is.parts ∙ simp append_assoc

  are : AreEnded front lines
  are = AreEnded-push is.are whole (All-append (λ byte. is_line_feed byte ≡ false) is.rest part is.unended unended)

  short : length (text ++ (part ++ line_feed ∷ [])) ≤ MOST_FILE_BYTES
  short = still_short old text (part ++ line_feed ∷ []) stood within

  number : old.ended + 1 ≡ length lines
  number = ap (λ n. n + 1) is.number ∙ sym (length-append is.lines (without_return whole ∷ []))

  -- what is held of it means what it means
  meaning : line_meaning None old.draft (old.ended + 1, without_return (take MOST_HELD (old.held ++ part)))
      ≡ line_meaning None old.draft (old.ended + 1, without_return whole)
  meaning =
      ap (λ held. line_meaning None old.draft (old.ended + 1, without_return (take MOST_HELD (held ++ part)))) is.holds
      ∙ ap (λ held. line_meaning None old.draft (old.ended + 1, without_return held)) (take-held MOST_HELD is.rest part)
      ∙ held_meaning old.draft (old.ended + 1) whole

  drafts : lines_meaning None rails_draft (enumerate_from 1 lines)
      ≡ onward None (old.ended + 1, without_return whole) [] (line_meaning None old.draft (old.ended + 1, without_return (take MOST_HELD (old.held ++ part))))
  drafts =
      let last : List (ℕ × List ℕ) = (1 + length is.lines, without_return whole) ∷ [] in
      let at : 1 + length is.lines ≡ old.ended + 1 = let n = is.number in omega arith in
      ap (lines_meaning None rails_draft) (enumerate_from-append 1 is.lines (without_return whole ∷ []))
      ∙ lines_meaning-append None rails_draft (enumerate_from 1 is.lines) last
      ∙ ap (and_lines None last) is.drafts
      ∙ ap (λ n. onward None (n, without_return whole) [] (line_meaning None old.draft (n, without_return whole))) at
      ∙ ap (λ m. onward None (old.ended + 1, without_return whole) [] m) (sym meaning)

  ended_by : (draft : DraftData) (bytes : ℕ) (fault : Option (Unmade NetRefusal))
      → IsRead (line_meaning None old.draft (old.ended + 1, without_return (take MOST_HELD (old.held ++ part)))) (old.ended + 1) draft fault
      → StandsBy (record { draft = draft; ended = old.ended + 1; bytes = bytes; held = []; fault = fault }) (text ++ (part ++ line_feed ∷ [])) fault
  ended_by draft bytes None made = record {
    front = front;
    rest = [];
    lines = lines;
    parts = parts ∙ sym (append-nil front);
    are = are;
    unended = All-nil (λ byte. is_line_feed byte ≡ false);
    short = short;
    number = number;
    holds = refl;
    drafts = drafts ∙ ap (onward None (old.ended + 1, without_return whole) []) made;
  }
  ended_by draft bytes (Some (Refused refusal)) (refused, at) = λ more.
      let first : lines_meaning None rails_draft (enumerate_from 1 lines) ≡ Err refusal =
      drafts ∙ ap (onward None (old.ended + 1, without_return whole) []) refused
      ∙ ap (λ n. Err (record { line = n; what = refusal.what })) (sym at) in
      let few : length front ≤ MOST_FILE_BYTES = subst (λ bytes. length bytes ≤ MOST_FILE_BYTES) parts short in
      ap (λ start. netlist_of (start ++ more)) parts ∙ refused_after front more lines are few refusal first
  ended_by draft bytes (Some NoMemory) nothing = absurd nothing

pub ends_line : (old new : ReaderData) (part : List ℕ) (draft : DraftData) (fault : Option (Unmade NetRefusal)) → old.fault ≡ None → HasNoFeed part
    → counted old.bytes (length (part ++ line_feed ∷ [])) ≤ MOST_FILE_BYTES
    → IsRead (line_meaning None old.draft (old.ended + 1, without_return (take MOST_HELD (old.held ++ part)))) (old.ended + 1) draft fault
    → new ≡ record { draft = draft; ended = old.ended + 1; bytes = counted old.bytes (length (part ++ line_feed ∷ [])); held = []; fault = fault }
    → GoesOn old new (part ++ line_feed ∷ [])
ends_line old new part draft fault none unended within reads same = λ text stood.
    subst (λ reader. StandsFor reader (text ++ (part ++ line_feed ∷ []))) (sym same) (record {
      count = count-append old text (part ++ line_feed ∷ []) stood;
      stands = ended_by old part text stood (opened old text none stood) unended within draft
          (counted old.bytes (length (part ++ line_feed ∷ []))) fault reads;
    })

-- ---- pieces one after the other

-- a piece is none
pub goes_on-none : (r : ReaderData) → GoesOn r r []
goes_on-none r = λ text stood. subst (StandsFor r) (sym (append-nil text)) stood

pub goes_on-both : (old mid new : ReaderData) (first second : List ℕ) → GoesOn old mid first → GoesOn mid new second → GoesOn old new (first ++ second)
goes_on-both old mid new first second before after = λ text stood.
    subst (StandsFor new) (append_assoc text first second) (after (text ++ first) (before text stood))

-- what was passed of a piece, and what is left of it
pub record Passes (start now : ReaderData) (piece left : List ℕ) : Type 0 where
  pub passed : List ℕ
  pub parts : piece ≡ passed ++ left
  pub goes_on : GoesOn start now passed

pub passes-none : (r : ReaderData) (piece : List ℕ) → Passes r r piece piece
passes-none r piece = record { passed = []; parts = refl; goes_on = goes_on-none r }

pub passes-more : (start now new : ReaderData) (piece left part after : List ℕ) → Passes start now piece left → left ≡ part ++ after → GoesOn now new part
    → Passes start new piece after
passes-more start now new piece left part after passes is goes = record {
  passed = passes.passed ++ part;
  parts = passes.parts ∙ ap (λ more. passes.passed ++ more) is ∙ sym (append_assoc passes.passed part after);
  goes_on = goes_on-both start now new passes.passed part passes.goes_on goes;
}

-- a line of the piece was ended
pub passes-line : (start now new : ReaderData) (piece left line after : List ℕ) (end : ℕ) → Passes start now piece left → EndsLine left end
    → line ≡ take end left → after ≡ drop (end + 1) left → GoesOn now new (line ++ line_feed ∷ []) → Passes start new piece after
passes-line start now new piece left line after end passes ends is rest goes =
    passes-more start now new piece left (line ++ line_feed ∷ []) after passes
    (ends.parts ∙ ap (λ first. first ++ line_feed ∷ drop (end + 1) left) (sym is) ∙ ap (λ more. line ++ line_feed ∷ more) (sym rest)
    ∙ sym (append_assoc line (line_feed ∷ []) after)) goes

pub passes-all : (start now new : ReaderData) (piece left : List ℕ) → Passes start now piece left → GoesOn now new left → GoesOn start new piece
passes-all start now new piece left passes goes =
    subst (GoesOn start new) (sym passes.parts) (goes_on-both start now new passes.passed left passes.goes_on goes)

-- ---- the steps as the program makes them

pub steps_too_far : (old mid new : ReaderData) (piece part after : List ℕ) (size : ℕ) → old.fault ≡ None → HasNoFeed part → length after ≤ 1
    → piece ≡ part ++ after → size ≡ length part + length after
    → mid ≡ record old { bytes = counted old.bytes size } → MOST_FILE_BYTES < mid.bytes
    → new ≡ record mid { fault = Some (Refused (too_far mid.ended)) } → GoesOn old new piece
steps_too_far old mid new piece part after size none unended one parts sized counts past same =
    let whole : size ≡ length (part ++ after) = sized ∙ sym (length-append part after) in
    let bytes : mid.bytes ≡ counted old.bytes (length (part ++ after)) =
    ap (λ (r : ReaderData). r.bytes) counts ∙ ap (λ n. counted old.bytes n) whole in
    subst (GoesOn old new) (sym parts)
    (comes_too_far old new part after none unended one (subst (λ n. MOST_FILE_BYTES < n) bytes past)
    (same ∙ ap (λ (r : ReaderData). record r { fault = Some (Refused (too_far r.ended)) }) counts
    ∙ ap (λ n. record old { bytes = counted old.bytes n; fault = Some (Refused (too_far old.ended)) }) whole))

pub steps_on : (old mid new : ReaderData) (part : List ℕ) → old.fault ≡ None → HasNoFeed part
    → mid ≡ record old { bytes = counted old.bytes (length part) } → mid.bytes ≤ MOST_FILE_BYTES
    → new ≡ record mid { held = take MOST_HELD (mid.held ++ part) } → GoesOn old new part
steps_on old mid new part none unended counts within same =
    holds_more old new part none unended (subst (λ n. n ≤ MOST_FILE_BYTES) (ap (λ (r : ReaderData). r.bytes) counts) within)
    (same ∙ ap (λ (r : ReaderData). record r { held = take MOST_HELD (r.held ++ part) }) counts)

-- a line ends, that is held by then
pub steps_past : (old mid late : ReaderData) (part seen held : List ℕ) (draft : DraftData) (fault : Option (Unmade NetRefusal)) → old.fault ≡ None → HasNoFeed part
    → mid ≡ record old { bytes = counted old.bytes (length part + 1) } → mid.bytes ≤ MOST_FILE_BYTES
    → late ≡ record mid { held = take MOST_HELD (mid.held ++ part) } → seen ≡ late.held → held ≡ []
    → IsRead (line_meaning None late.draft (late.ended + 1, without_return seen)) (late.ended + 1) draft fault
    → GoesOn old (record { draft = draft; ended = late.ended + 1; bytes = late.bytes; held = held; fault = fault }) (part ++ line_feed ∷ [])
steps_past old mid late part seen held draft fault none unended counts within grows same empty reads =
    let size : length part + 1 ≡ length (part ++ line_feed ∷ []) = sym (length-append part (line_feed ∷ [])) in
    let bytes : mid.bytes ≡ counted old.bytes (length (part ++ line_feed ∷ [])) =
    ap (λ (r : ReaderData). r.bytes) counts ∙ ap (λ n. counted old.bytes n) size in
    let now : ReaderData = record old { bytes = counted old.bytes (length (part ++ line_feed ∷ [])); held = take MOST_HELD (old.held ++ part) } in
    let is : late ≡ now =
    grows ∙ ap (λ (r : ReaderData). record r { held = take MOST_HELD (r.held ++ part) }) counts
    ∙ ap (λ n. record old { bytes = counted old.bytes n; held = take MOST_HELD (old.held ++ part) }) size in
    let read : IsRead (line_meaning None late.draft (late.ended + 1, without_return late.held)) (late.ended + 1) draft fault =
    subst (λ line. IsRead (line_meaning None late.draft (late.ended + 1, without_return line)) (late.ended + 1) draft fault) same reads in
    ends_line old (record { draft = draft; ended = late.ended + 1; bytes = late.bytes; held = held; fault = fault }) part draft fault none unended
    (subst (λ n. n ≤ MOST_FILE_BYTES) bytes within)
    (subst (λ (r : ReaderData). IsRead (line_meaning None r.draft (r.ended + 1, without_return r.held)) (r.ended + 1) draft fault) is read)
    (ap (λ (r : ReaderData). record { draft = draft; ended = r.ended + 1; bytes = r.bytes; held = held; fault = fault }) is
    ∙ ap (λ line. record { draft = draft; ended = old.ended + 1; bytes = counted old.bytes (length (part ++ line_feed ∷ [])); held = line; fault = fault }) empty)

-- as many bytes more as there is room for
take-room : (n : ℕ) (bytes : List ℕ) → take (min (length bytes) n) bytes ≡ take n bytes
take-room n bytes = elim (cases_lt n (length bytes)) [
  | inl past ↦ ap (λ k. take k bytes) (let e : min (length bytes) n ≡ n = omega arith in e)
  | inr whole ↦ take_all (min (length bytes) n) bytes (omega arith) ∙ sym (take_all n bytes whole)
]

pub appends : {T E : Type 0} (result : Result T E) (r old : ReaderData) (part held : List ℕ) (room : ℕ) → r ≡ old → length r.held ≤ MOST_HELD
    → room ≡ min (length part) (MOST_HELD - length r.held) → held ≡ (if is_ok result then r.held ++ take room part else r.held)
    → OnOk result (record r { held = held } ≡ record old { held = take MOST_HELD (old.held ++ part) })
appends (Err fault) r old part held room same bound few grows = tt
appends (Ok done) r old part held room same bound few grows =
    let whole : held ≡ take MOST_HELD (r.held ++ part) =
    grows ∙ ap (λ n. r.held ++ take n part) few ∙ ap (λ more. r.held ++ more) (take-room (MOST_HELD - length r.held) part)
    ∙ sym (take-append-add r.held part (MOST_HELD - length r.held))
    ∙ ap (λ n. take n (r.held ++ part)) (let e : length r.held + (MOST_HELD - length r.held) ≡ MOST_HELD = omega arith in e) in
    ap (λ bytes. record r { held = bytes }) whole ∙ ap (λ (now : ReaderData). record now { held = take MOST_HELD (now.held ++ part) }) same

-- ---- the end of the text

-- nothing is held: the ended lines are all
pub finishes_ended : (r : ReaderData) → r.fault ≡ None → r.held ≡ [] → (text : List ℕ) → StandsFor r text → netlist_of text ≡ Ok (sized r.draft)
finishes_ended r none empty = λ text stood.
    let is = opened r text none stood in
    let rest : is.rest ≡ [] = no_bytes is.rest (sym is.holds ∙ empty) in
    ap netlist_of is.parts
    ∙ meaning_whole is.front is.rest is.lines is.are is.unended r.draft is.drafts (subst (λ bytes. length bytes ≤ MOST_FILE_BYTES) is.parts is.short) rest where
      no_bytes : (bytes : List ℕ) → take MOST_HELD bytes ≡ [] → bytes ≡ []
      no_bytes [] none = refl
      no_bytes (byte ∷ bytes) none = absurd (omega (arith, ap length none, length-take MOST_HELD (byte ∷ bytes)))

-- a last line is held
last_line : (r : ReaderData) → r.fault ≡ None → 0 < length r.held → (text : List ℕ) → StandsFor r text
    → netlist_of text ≡ circuit_of (onward None (r.ended + 1, []) [] (line_meaning None r.draft (r.ended + 1, without_return r.held)))
last_line r none some text stood =
    let is = opened r text none stood in
    let held : length r.held ≡ min MOST_HELD (length is.rest) = ap length is.holds ∙ length-take MOST_HELD is.rest in
    let number : r.ended + 1 ≡ length is.lines + 1 = ap (λ n. n + 1) is.number in
    ap netlist_of is.parts
    ∙ meaning_last is.front is.rest is.lines is.are is.unended r.draft is.drafts (subst (λ bytes. length bytes ≤ MOST_FILE_BYTES) is.parts is.short)
    (omega arith) (r.ended + 1) number
    ∙ ap (λ m. circuit_of (onward None (r.ended + 1, []) [] m))
    (sym (held_meaning r.draft (r.ended + 1) is.rest) ∙ ap (λ held. line_meaning None r.draft (r.ended + 1, without_return held)) (sym is.holds))

pub finishes_last : (r : ReaderData) (draft : DraftData) → r.fault ≡ None → 0 < length r.held
    → IsRead (line_meaning None r.draft (r.ended + 1, without_return r.held)) (r.ended + 1) draft None
    → (text : List ℕ) → StandsFor r text → netlist_of text ≡ Ok (sized draft)
finishes_last r draft none some made = λ text stood.
    last_line r none some text stood ∙ ap (λ m. circuit_of (onward None (r.ended + 1, []) [] m)) made

pub refuses_last : (r : ReaderData) (draft : DraftData) (fault : Unmade NetRefusal) → r.fault ≡ None → 0 < length r.held
    → IsRead (line_meaning None r.draft (r.ended + 1, without_return r.held)) (r.ended + 1) draft (Some fault)
    → (text : List ℕ) → StandsFor r text → IsFault (netlist_of text) fault
refuses_last r draft (Refused refusal) none some (refused, at) = λ text stood.
    last_line r none some text stood ∙ ap (λ m. circuit_of (onward None (r.ended + 1, []) [] m)) refused
    ∙ ap (λ n. Err (record { line = n; what = refusal.what })) (sym at)
refuses_last r draft NoMemory none some nothing = absurd nothing

-- a refusal was met
pub finishes_refused : (r : ReaderData) (fault : Unmade NetRefusal) → r.fault ≡ Some fault → (text : List ℕ) → StandsFor r text → IsFault (netlist_of text) fault
finishes_refused r (Refused refusal) is = λ text stood.
    let refused : IsRefused refusal text = subst (StandsBy r text) is stood.stands in
    ap netlist_of (sym (append-nil text)) ∙ refused []
finishes_refused r NoMemory is = λ text stood. absurd (subst (StandsBy r text) is stood.stands)

-- ---- answers

-- what is so of an answer for each text, is so for one
pub if_ok : {T E : Type 0} {P Q : T → Type 0} (result : Result T E) → ((value : T) → P value → Q value) → IfOk result P → IfOk result Q
if_ok (Ok value) each is = each value is
if_ok (Err fault) each is = tt

pub on_ok : {T E P Q : Type 0} (result : Result T E) → (P → Q) → OnOk result P → OnOk result Q
on_ok (Ok value) follows is = follows is
on_ok (Err fault) follows is = tt

pub if_err : {T E : Type 0} {P Q : E → Type 0} (result : Result T E) → ((fault : E) → P fault → Q fault) → IfErr result P → IfErr result Q
if_err (Ok value) each is = tt
if_err (Err fault) each is = each fault is

-- a length that is 0, or isn't
pub no_bytes : (bytes : List ℕ) → length bytes ≡ 0 → bytes ≡ []
no_bytes [] none = refl
no_bytes (byte ∷ bytes) none = absurd (omega arith)

pub some_bytes : (n : ℕ) → (n == 0) ≡ false → 0 < n
some_bytes n some = grind (arith, nat_tests)

pub none_left : (n : ℕ) → (n == 0) ≡ true → n ≡ 0
none_left n none = grind (arith, nat_tests)
