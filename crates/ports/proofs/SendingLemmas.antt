-- Texts that are sent in parts: the laws of `append_known`, and how `Sends` and `WritesPart` are joined.
use Rattle.std.proofs.Common.{◌≡◌, ℕ, ◌+◌, ◌-◌, List, [], ◌++◌, length, take, drop, Option, None, Some, refl, sym, ap, ◌∙◌, append_assoc, append-nil, arith, length-drop}
use Rattle.std.proofs.Math.Seq.{take-add}
use Rattle.std.proofs.lemmas.Grind.{common_steps}
use Rattle.std.proofs.lemmas.List.{take-append-drop}
use Rattle.std.specs.Io.KnownBytes.{append_known}
use Rattle.ports.specs.Sending.{Sends, WritesPart}

-- appending nothing changes nothing
pub append_known-nil : (known : Option (List ℕ)) → append_known known [] ≡ known
append_known-nil None = refl
append_known-nil (Some bytes) = ap Some (append-nil bytes)

-- two pieces appended one after another are their sum appended
pub append_known-append : (known : Option (List ℕ)) (first second : List ℕ) → append_known (append_known known first) second ≡ append_known known (first ++ second)
append_known-append None first second = refl
append_known-append (Some bytes) first second = ap Some (append_assoc bytes first second)

-- if nothing was written, the whole text is left
pub sends_none : (known : Option (List ℕ)) (text : List ℕ) → Sends known known text text
sends_none known text = record { sent = []; whole = refl; grew = sym (append_known-nil known) }

-- one more piece was written
pub sends_more : (old now new : Option (List ℕ)) (text piece left : List ℕ) → Sends old now text (piece ++ left) → new ≡ append_known now piece → Sends old new text left
sends_more old now new text piece left sends grew = record {
  sent = sends.sent ++ piece;
  whole = sends.whole ∙ sym (append_assoc sends.sent piece left);
  grew = grew ∙ ap (λ known. append_known known piece) sends.grew ∙ append_known-append old sends.sent piece;
}

-- a part of a piece was written, and the rest of the piece and what follows it is left
pub sends_part : (old now new : Option (List ℕ)) (text piece left : List ℕ) → Sends old now text (piece ++ left) → WritesPart now new piece → WritesPart old new text
sends_part old now new text piece left sends (unsent, part) = (
  unsent ++ left,
  sends_more old now new text part.sent (unsent ++ left)
      (record { sent = sends.sent; whole = sends.whole ∙ ap (λ all. sends.sent ++ all) (ap (λ front. front ++ left) part.whole ∙ append_assoc part.sent unsent left); grew = sends.grew })
      part.grew,
)

-- if nothing is left, the whole text was written
pub last_sent : (old new : Option (List ℕ)) (text : List ℕ) → Sends old new text [] → new ≡ append_known old text
last_sent old new text sends = sends.grew ∙ ap (append_known old) (sym (sends.whole ∙ append-nil sends.sent))

-- what was written so far is a part of the text
pub last_part : (old new : Option (List ℕ)) (text left : List ℕ) → Sends old new text left → WritesPart old new text
last_part old new text left sends = (left, sends)

-- nothing written is a part of each text
pub part_none : (known : Option (List ℕ)) (text : List ℕ) → WritesPart known known text
part_none known text = (text, sends_none known text)

-- the whole text is a part of it
pub part_whole : (old new : Option (List ℕ)) (text : List ℕ) → new ≡ append_known old text → WritesPart old new text
part_whole old new text grew = ([], record { sent = text; whole = sym (append-nil text); grew = grew })

-- a part of a text is a part of each longer one
pub part_longer : (old new : Option (List ℕ)) (text more : List ℕ) → WritesPart old new text → WritesPart old new (text ++ more)
part_longer old new text more part =
    sends_part old old new (text ++ more) text more (sends_none old (text ++ more)) part

-- the first bytes of a text are a part of it
pub part_front : (old new : Option (List ℕ)) (count : ℕ) (text : List ℕ) → new ≡ append_known old (take count text) → WritesPart old new text
part_front old new count text grew =
    (drop count text, record { sent = take count text; whole = sym (take-append-drop count text); grew = grew })

-- all that follows a place is what is left there
take_rest : (text : List ℕ) (at : ℕ) → take (length text - at) (drop at text) ≡ drop at text
take_rest text at = grind (arith, common_steps, length-drop {A = ℕ})

-- the next bytes after those that are sent: they continue the prefix of the text
pub front_more : (known now new : Option (List ℕ)) (text : List ℕ) (at count : ℕ) → now ≡ append_known known (take at text) → new ≡ append_known now (take count (take (length text - at) (drop at text))) → new ≡ append_known known (take (at + count) text)
front_more known now new text at count so_far step =
    step ∙ ap (λ bytes. append_known bytes (take count (take (length text - at) (drop at text)))) so_far
    ∙ append_known-append known (take at text) (take count (take (length text - at) (drop at text)))
    ∙ ap (append_known known) (ap (λ bytes. take at text ++ take count bytes) (take_rest text at) ∙ sym (take-add at count text))
