-- A place in the text of a listing moves on: what is left begins with the next line, and from the place behind it the rest is left.
use Rattle.std.proofs.Common.{◌≡◌, ℕ, ◌+◌, ◌-◌, ◌<◌, ◌≤◌, Bool, true, false, true≢false, List, [], ◌++◌, length, map, get_or, sym, ap, ◌∙◌, arith}
use Rattle.std.proofs.lemmas.List.{drop_all}
use Rattle.straight_code.specs.declared.code.Instruction.{Instruction}
use Rattle.straight_code.specs.declared.code.Operand.TheVariants.{Constant}
use Rattle.straight_code.specs.declared.code.Output.{Output}
use Rattle.linear_code.specs.declared.listing.ListedNode.{ListedNode}
use Rattle.linear_code.specs.declared.listing_text.TextPlace.{TextPlace}
use Rattle.linear_code.specs.Listing.{Entry, ListingData}
use Rattle.linear_code.specs.ListingText.{node_line, instruction_line, next_line}
use Rattle.linear_code.specs.TextPlaces.{IsPlace, Passes, text_from, next_lines}
use Rattle.linear_code.proofs.WritesLemmas.{IsLeft-all, IsLeft-more}
use Rattle.linear_code.proofs.ListingTextLemmas.{IsEntry, entry_of, node_lines-next, instruction_lines-next, next_lines-storage, next_lines-input, next_lines-none, storage_before-storage, storage_before-input}

module _ (listing : ListingData) (place : TextPlace) where
  -- behind the line of the next node
  abbrev pub node_passed : TextPlace
  node_passed = record place { nodes = place.nodes + 1 }

  -- behind the line of the next instruction
  abbrev pub instruction_passed : TextPlace
  instruction_passed = record place { instructions = place.instructions + 1 }

  -- behind the next state of the next storage node
  abbrev pub storage_passed : TextPlace
  storage_passed = record place { passed = place.passed + 1; moved = place.moved + 1 }

  -- behind an input node
  abbrev pub input_passed : TextPlace
  input_passed = record place { passed = place.passed + 1 }

  -- what is left begins with the line of the next node
  pub splits_node : (entry : Entry) → IsEntry listing.entries place.nodes entry →
      text_from listing place ≡ node_line place.nodes entry ++ text_from listing node_passed
  splits_node entry is = node_lines-next listing.entries place.nodes entry _ is

  pub passes_node : (before after : List ℕ) (entry : Entry) → IsPlace listing place → IsEntry listing.entries place.nodes entry →
      after ≡ before ++ node_line place.nodes entry → Passes listing place node_passed before after true
  passes_node before after entry here is put =
      let left = IsLeft-more (node_line place.nodes entry) (IsLeft-all before (text_from listing place)) (splits_node entry is) put in
      record {
        place = record { moved = here.moved };
        left = left;
        less = omega (arith, is.inside);
      }

  -- behind the nodes it begins with the line of the next instruction
  pub splits_instruction : (read : List Instruction) (d : Instruction) → length listing.entries ≤ place.nodes →
      read ≡ listing.instructions → place.instructions < length read →
      text_from listing place ≡ instruction_line place.instructions (get_or read place.instructions d) ++ text_from listing instruction_passed
  splits_instruction read d past are inside =
      rw (drop_all place.nodes listing.entries past)
      (instruction_lines-next listing.instructions read place.instructions d
      (next_lines listing place.passed (length listing.entries - place.passed)) are inside)

  pub passes_instruction : (before after : List ℕ) (read : List Instruction) (d : Instruction) → IsPlace listing place →
      length listing.entries ≤ place.nodes → read ≡ listing.instructions → place.instructions < length read →
      after ≡ before ++ instruction_line place.instructions (get_or read place.instructions d) →
      Passes listing place instruction_passed before after true
  passes_instruction before after read d here past are inside put =
      let left = IsLeft-more (instruction_line place.instructions (get_or read place.instructions d)) (IsLeft-all before (text_from listing place))
      (splits_instruction read d past are inside) put in
      record {
        place = record { moved = here.moved };
        left = left;
        less = omega (arith, inside, ap length are);
      }

  module _ (nodes_past : length listing.entries ≤ place.nodes) (instructions_past : length listing.instructions ≤ place.instructions) where
    -- behind the instructions it begins with the next state of the next storage node
    pub splits_storage : (read : List Output) (entry : Entry) → IsPlace listing place → read ≡ listing.nexts →
        IsEntry listing.entries place.passed entry → entry.is_storage ≡ true →
        text_from listing place
        ≡ next_line place.passed (get_or read place.moved (record { hi = Constant false; lo = Constant false })) ++ text_from listing storage_passed
    splits_storage read entry here are is storage =
        rw (drop_all place.nodes listing.entries nodes_past, drop_all place.instructions listing.instructions instructions_past)
        (next_lines-storage listing read place.passed place.moved entry are here.moved is storage)

    pub passes_storage : (before after : List ℕ) (read : List Output) (entry : Entry) → IsPlace listing place → read ≡ listing.nexts →
        IsEntry listing.entries place.passed entry → entry.is_storage ≡ true →
        after ≡ before ++ next_line place.passed (get_or read place.moved (record { hi = Constant false; lo = Constant false })) →
        Passes listing place storage_passed before after true
    passes_storage before after read entry here are is storage put =
        let left = IsLeft-more (next_line place.passed (get_or read place.moved (record { hi = Constant false; lo = Constant false })))
        (IsLeft-all before (text_from listing place)) (splits_storage read entry here are is storage) put in
        record {
          place = record { moved = rw here.moved (sym (storage_before-storage listing.entries place.passed entry is storage)) };
          left = left;
          less = omega (arith, is.inside);
        }

    -- an input node has no line there
    pub passes_input : (out : List ℕ) (entry : Entry) → IsPlace listing place → IsEntry listing.entries place.passed entry → entry.is_storage ≡ false →
        Passes listing place input_passed out out true
    passes_input out entry here is input =
        let same : text_from listing place ≡ text_from listing input_passed =
        rw (drop_all place.nodes listing.entries nodes_past, drop_all place.instructions listing.instructions instructions_past)
        (next_lines-input listing place.passed entry is input) in
        record {
          place = record { moved = here.moved ∙ sym (storage_before-input listing.entries place.passed entry is input) };
          left = rw (← same) (IsLeft-all out (text_from listing place));
          less = omega (arith, is.inside);
        }

    -- and behind all nodes nothing is left
    pub passes_none : (out : List ℕ) (nodes : List ListedNode) → IsPlace listing place → map entry_of nodes ≡ listing.entries →
        length nodes ≤ place.passed → Passes listing place place out out false
    passes_none out nodes here are past = record {
      place = here;
      left = IsLeft-all out (text_from listing place);
      less =
          rw (drop_all place.nodes listing.entries nodes_past, drop_all place.instructions listing.instructions instructions_past)
          (next_lines-none listing nodes place.passed are past);
    }

-- if there was nothing left to pass, nothing is left
pub nothing_left : (listing : ListingData) (old new : TextPlace) (before after : List ℕ) (more : Bool) → Passes listing old new before after more →
    more ≡ false → text_from listing new ≡ []
nothing_left listing old new before after false passes is = passes.less
nothing_left listing old new before after true passes is = absurd (true≢false is)
