-- The meaning of a netlist: it goes by the prefix of the text alone, and it is what the lines give one by one from the rails alone in the
-- text's profile, since the header gives those once more.
use Rattle.std.proofs.Common.{◌≡◌, ◌↔◌, ℕ, Bool, true, false, cond, Some, None, unwrap_or, List, [], ◌∷◌, ◌++◌, Option, Result, Ok, Err, refl, sym, ap, ap₂, subst, ◌∙◌}
use Rattle.std.specs.Prelude.{if◌then◌else◌}
use Rattle.std.specs.List.{enumerate_from}
use Rattle.std.proofs.lemmas.List.{append-nil}
use Rattle.strength_order.specs.declared.Profile.TheVariants.{Two}
use Rattle.line_words.specs.declared.line_check.LineFault.{LineFault}
use Rattle.line_words.specs.declared.line_check.LineFault.TheVariants as of_line
use Rattle.line_words.specs.LineFaults.{line_fault, is_comment}
use Rattle.line_words.specs.Lines.{lines_of}
use Rattle.line_words.specs.Words.{words_of}
use Rattle.line_words.specs.Files.{front_of, lines_in, cut_line, is_cut}
use Rattle.line_words.proofs.FileLemmas.{cut_line-front_of, lines_in-front_of}
use Rattle.netlist.specs.Circuits.{CircuitData}
use Rattle.sim_read.specs.Drafts.{DraftData, circuit_of, rails_draft, rails_draft_in}
use Rattle.sim_read.specs.Header.{comment_words, is_header, is_second, thresholds_of}
use Rattle.sim_read.specs.declared.fault.NetRefusal.{NetRefusal}
use Rattle.sim_read.specs.declared.fault.NetWhat.{NetWhat}
use Rattle.sim_read.specs.declared.fault.NetWhat.TheVariants.{Format, TooLong}
use Rattle.sim_read.specs.FirstRefused.{IsFirstOf, IsFirstRefused, Make, MakesAll, header_words, rails_by, rails_of}
use Rattle.sim_read.specs.FirstRefused.Make.{no_line, one_more}
use Rattle.sim_read.specs.Meaning.{checked_meaning, comment_meaning, header_meaning, line_meaning, lines_meaning, netlist_of, second_meaning, words_meaning}

-- what stands behind the first byte too many of a text has no meaning
pub netlist_of-front_of : (text : List ℕ) → netlist_of (front_of text) ≡ netlist_of text
netlist_of-front_of text =
    ap₂ (λ cut lines. circuit_of (lines_meaning cut rails_draft lines)) (cut_line-front_of text) (lines_in-front_of text)

-- what lines give after one with this meaning
abbrev pub onward : Option ℕ → (ℕ × List ℕ) → List (ℕ × List ℕ) → Result DraftData NetWhat → Result DraftData NetRefusal
onward cut line lines meaning =
    elim meaning [ Err what ↦ Err (record { line = line.0; what = what }) | Ok next ↦ lines_meaning cut next lines ]

-- ---- the rails alone in the text's profile

-- a header leaves the rails alone in its profile as they are, and makes them of those in profile 1
header_again : (words : List (List ℕ)) → header_meaning (rails_by words) words ≡ header_meaning rails_draft words
header_again words = by (is_second words) (thresholds_of words)
  where
    by : (second : Bool) (found : Option (List ℕ)) →
        (if second then second_meaning (if second then rails_draft_in Two (unwrap_or found []) else rails_draft) found
        else Ok (if second then rails_draft_in Two (unwrap_or found []) else rails_draft))
        ≡ (if second then second_meaning rails_draft found else Ok rails_draft)
    by true (Some thresholds) = refl
    by true None = refl
    by false found = refl

-- so does the first line of a text
first_line : (cut : Option ℕ) (line : List ℕ) (lines : List (ℕ × List ℕ))
    → line_meaning cut (rails_by (header_words ((1, line) ∷ lines))) (1, line) ≡ line_meaning cut rails_draft (1, line)
first_line cut line lines = by_cut (is_cut cut 1)
  where
    by_format : (known : Bool) → (if known then header_meaning (rails_by (comment_words line)) (comment_words line) else Err Format)
        ≡ (if known then header_meaning rails_draft (comment_words line) else Err Format)
    by_format true = header_again (comment_words line)
    by_format false = refl

    by_comment : (comment : Bool) →
        cond comment (comment_meaning (rails_by (cond comment (comment_words line) [])) (1, line)) (words_meaning (rails_by (cond comment (comment_words line) [])) (words_of line))
        ≡ cond comment (comment_meaning rails_draft (1, line)) (words_meaning rails_draft (words_of line))
    by_comment true = by_format (is_header line)
    by_comment false = refl

    by_fault : (fault : Option LineFault) → checked_meaning (rails_by (header_words ((1, line) ∷ lines))) (1, line) fault ≡ checked_meaning rails_draft (1, line) fault
    by_fault (Some of_line.TooLong) = refl
    by_fault (Some of_line.BadByte) = refl
    by_fault None = by_comment (is_comment line)

    by_cut : (here : Bool) →
        cond here (Err TooLong) (checked_meaning (rails_by (header_words ((1, line) ∷ lines))) (1, line) (line_fault line))
        ≡ cond here (Err TooLong) (checked_meaning rails_draft (1, line) (line_fault line))
    by_cut true = refl
    by_cut false = by_fault (line_fault line)

-- so lines give the same from both
from_rails_by : (cut : Option ℕ) (lines : List (List ℕ))
    → lines_meaning cut (rails_by (header_words (enumerate_from 1 lines))) (enumerate_from 1 lines) ≡ lines_meaning cut rails_draft (enumerate_from 1 lines)
from_rails_by cut [] = refl
from_rails_by cut (line ∷ lines) = ap (onward cut (1, line) (enumerate_from 2 lines)) (first_line cut line (enumerate_from 2 lines))

from_rails_of : (text : List ℕ)
    → lines_meaning (cut_line text) (rails_of text) (lines_in text) ≡ lines_meaning (cut_line text) rails_draft (lines_in text)
from_rails_of text = from_rails_by (cut_line text) (lines_of (front_of text))

-- ---- a netlist that isn't refused

-- lines that give a draft make it
Make-lines : (cut : Option ℕ) (lines : List (ℕ × List ℕ)) (old new : DraftData) → lines_meaning cut old lines ≡ Ok new → Make cut old lines new
Make-lines cut [] old new same = let e : old ≡ new = cc in subst (Make cut old []) e (no_line old)
Make-lines cut (line ∷ lines) old new same = by (line_meaning cut old line) refl same (λ mid rest. Make-lines cut lines mid new rest) where
  by : (meaning : Result DraftData NetWhat) → line_meaning cut old line ≡ meaning → onward cut line lines meaning ≡ Ok new
      → ((mid : DraftData) → lines_meaning cut mid lines ≡ Ok new → Make cut mid lines new) → Make cut old (line ∷ lines) new
  by (Ok mid) effect rest makes = one_more old mid new line lines effect (makes mid rest)
  by (Err what) refused rest makes = absurd (cc)

-- and what follows them goes on from it
lines_meaning-Make : {cut : Option ℕ} {old new : DraftData} {lines : List (ℕ × List ℕ)} (more : List (ℕ × List ℕ)) → Make cut old lines new
    → lines_meaning cut old (lines ++ more) ≡ lines_meaning cut new more
lines_meaning-Make more (no_line d) = refl
lines_meaning-Make {cut} more (one_more old mid new line lines effect makes) =
    ap (onward cut line (lines ++ more)) effect ∙ lines_meaning-Make more makes

-- so they give a circuit exactly if they make it
pub means-MakesAll : (text : List ℕ) (c : CircuitData) → (netlist_of text ≡ Ok c) ↔ MakesAll text c
means-MakesAll text c = (
  λ gives. found (lines_meaning (cut_line text) rails_draft (lines_in text)) refl gives,
  λ makes. given makes,
) where
  found : (meaning : Result DraftData NetRefusal) → lines_meaning (cut_line text) rails_draft (lines_in text) ≡ meaning
      → circuit_of meaning ≡ Ok c → MakesAll text c
  found (Ok draft) same gives = record {
    draft = draft;
    made = Make-lines (cut_line text) (lines_in text) (rails_of text) draft (from_rails_of text ∙ same);
    circuit = cc;
  }
  found (Err refusal) same gives = absurd (cc)

  given : MakesAll text c → netlist_of text ≡ Ok c
  given makes =
      let made : lines_meaning (cut_line text) rails_draft (lines_in text) ≡ Ok makes.draft =
      sym (from_rails_of text) ∙ ap (lines_meaning (cut_line text) (rails_of text)) (sym (append-nil (lines_in text)))
      ∙ lines_meaning-Make [] makes.made in
      ap circuit_of made ∙ ap Ok makes.circuit

-- ---- a netlist that is refused

-- lines that give a refusal have it
IsFirstOf-lines : (cut : Option ℕ) (lines : List (ℕ × List ℕ)) (start : DraftData) (refusal : NetRefusal)
    → lines_meaning cut start lines ≡ Err refusal → IsFirstOf cut start lines refusal
IsFirstOf-lines cut [] start refusal same = absurd (cc)
IsFirstOf-lines cut (line ∷ lines) start refusal same =
    by (line_meaning cut start line) refl same (λ mid rest. IsFirstOf-lines cut lines mid refusal rest) where
      by : (meaning : Result DraftData NetWhat) → line_meaning cut start line ≡ meaning → onward cut line lines meaning ≡ Err refusal
          → ((mid : DraftData) → lines_meaning cut mid lines ≡ Err refusal → IsFirstOf cut mid lines refusal)
          → IsFirstOf cut start (line ∷ lines) refusal
      by (Ok mid) effect rest among =
          let later = among mid rest in
          record {
            before = line ∷ later.before;
            line = later.line;
            after = later.after;
            parts = ap (λ ls. line ∷ ls) later.parts;
            draft = later.draft;
            made = one_more start mid later.draft line later.before effect later.made;
            refused = later.refused;
          }
      by (Err what) refused rest among =
          let here : record { line = line.0; what = what } ≡ refusal = cc in
          subst (IsFirstOf cut start (line ∷ lines)) here (record {
            before = [];
            line = line.1;
            after = lines;
            parts = refl;
            draft = start;
            made = no_line start;
            refused = refused;
          })

-- lines that have a first refused one give its refusal
lines_meaning-IsFirstOf : (cut : Option ℕ) (start : DraftData) (lines : List (ℕ × List ℕ)) (refusal : NetRefusal)
    → IsFirstOf cut start lines refusal → lines_meaning cut start lines ≡ Err refusal
lines_meaning-IsFirstOf cut start lines refusal is =
    ap (lines_meaning cut start) is.parts
    ∙ lines_meaning-Make ((refusal.line, is.line) ∷ is.after) is.made
    ∙ ap (onward cut (refusal.line, is.line) is.after) is.refused

-- so they give a refusal exactly if they have it
pub means-IsFirstRefused : (text : List ℕ) (refusal : NetRefusal) → (netlist_of text ≡ Err refusal) ↔ IsFirstRefused text refusal
means-IsFirstRefused text refusal = (
  λ gives. IsFirstOf-lines (cut_line text) (lines_in text) (rails_of text) refusal
      (from_rails_of text ∙ found (lines_meaning (cut_line text) rails_draft (lines_in text)) gives),
  λ is. ap circuit_of (sym (from_rails_of text) ∙ lines_meaning-IsFirstOf (cut_line text) (rails_of text) (lines_in text) refusal is),
) where
  found : (meaning : Result DraftData NetRefusal) → circuit_of meaning ≡ Err refusal → meaning ≡ Err refusal
  found (Ok draft) gives = absurd (cc)
  found (Err other) gives = cc
