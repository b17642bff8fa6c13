-- The text that is left from a node on: the node's line, and then that of the others and the counts.
use Rattle.std.proofs.Common.{◌≡◌, ℕ, zero, suc, ◌+◌, ◌-◌, ◌<◌, ◌≤◌, List, [], ◌∷◌, ◌++◌, length, Option, Some, Result, Ok, Err, OnOk, OnErr, is_ok, true, true≢false, refl, sym, ◌∙◌, ap, arith, append_assoc, append-nil, subst}
use Rattle.std.specs.Prelude.{drop, unwrap_or}
use Rattle.std.specs.Io.KnownBytes.{append_known}
use Rattle.ports.specs.Sending.{Sends, WritesPart}
use Rattle.ports.proofs.SendingLemmas.{sends_more, sends_part, last_sent}
use Rattle.switch_paths.specs.Graphs.{nodes}
use Rattle.switch_paths.specs.declared.TheConstants.{RAILS}
use Rattle.netlist.specs.Circuits.{CircuitData, called}
use Rattle.netlist.specs.Names.{name_at}
use Rattle.settling.specs.PlainStepping.{numbers_from}
use Rattle.state_cover.specs.declared.had.Had.{Had}
use Rattle.state_cover.specs.Cover.{had_at}
use Rattle.state_cover.specs.Lines.{node_line_of, node_lines_of, counts_line_of, cover_text}

-- the text from this node on
abbrev pub text_from : CircuitData → List Had → ℕ → List ℕ
text_from c hads node = node_lines_of c hads (numbers_from node (nodes c.graph - node)) ++ counts_line_of (drop RAILS hads)

lines_first : (c : CircuitData) (hads : List Had) (node left : ℕ) → nodes c.graph - node ≡ suc left →
    node_lines_of c hads (numbers_from node (nodes c.graph - node))
    ≡ node_line_of (called c node) (had_at hads node) ++ node_lines_of c hads (numbers_from (node + 1) left)
lines_first c hads node left one = ap (λ count. node_lines_of c hads (numbers_from node count)) one

pub text_first : (c : CircuitData) (hads : List Had) (node : ℕ) → node < nodes c.graph →
    text_from c hads node ≡ node_line_of (called c node) (had_at hads node) ++ text_from c hads (node + 1)
text_first c hads node inside =
    ap (λ lines. lines ++ counts_line_of (drop RAILS hads)) (lines_first c hads node (nodes c.graph - (node + 1)) (omega (arith, inside)))
    ∙ append_assoc (node_line_of (called c node) (had_at hads node))
    (node_lines_of c hads (numbers_from (node + 1) (nodes c.graph - (node + 1)))) (counts_line_of (drop RAILS hads))

pub text_last : (c : CircuitData) (hads : List Had) (node : ℕ) → nodes c.graph ≤ node → text_from c hads node ≡ counts_line_of (drop RAILS hads)
text_last c hads node end =
    let none : nodes c.graph - node ≡ 0 = omega (arith, end) in
    ap (λ count. node_lines_of c hads (numbers_from node count) ++ counts_line_of (drop RAILS hads)) none

-- a name that was found is what the node is called
pub called-is : (c : CircuitData) (node : ℕ) (name : List ℕ) → name_at c.names node ≡ Some name → called c node ≡ name
called-is c node name is = ap (λ found. unwrap_or found []) is

-- the line of a node, by its name and what it had
pub line_is : (c : CircuitData) (hads : List Had) (node : ℕ) (name : List ℕ) (had : Had) (line : List ℕ) → name_at c.names node ≡ Some name →
    had ≡ had_at hads node → line ≡ node_line_of name had → line ≡ node_line_of (called c node) (had_at hads node)
line_is c hads node name had line named noted is =
    is ∙ (ap (λ name. node_line_of name had) (sym (called-is c node name named)) ∙ ap (node_line_of (called c node)) noted)

-- what is left begins with the line of the next node
pub sends_line : (old now : Option (List ℕ)) (c : CircuitData) (hads : List Had) (node : ℕ) (line : List ℕ) → node < nodes c.graph →
    line ≡ node_line_of (called c node) (had_at hads node) → Sends old now (cover_text c hads) (text_from c hads node) →
    Sends old now (cover_text c hads) (line ++ text_from c hads (node + 1))
sends_line old now c hads node line inside is sends =
    subst (Sends old now (cover_text c hads)) (text_first c hads node inside ∙ ap (λ line. line ++ text_from c hads (node + 1)) (sym is)) sends

-- behind all nodes only the counts are left
pub sends_counts : (old now : Option (List ℕ)) (c : CircuitData) (hads : List Had) (node : ℕ) (line : List ℕ) → nodes c.graph ≤ node →
    line ≡ counts_line_of (drop RAILS hads) → Sends old now (cover_text c hads) (text_from c hads node) →
    Sends old now (cover_text c hads) (line ++ [])
sends_counts old now c hads node line end is sends =
    subst (Sends old now (cover_text c hads)) (text_last c hads node end ∙ (sym is ∙ sym (append-nil line))) sends

-- behind all nodes the line of the counts is sent, or a part of it
module _ {T E : Type 0} (result : Result T E) (old now new : Option (List ℕ)) (c : CircuitData) (hads : List Had) (node : ℕ) (line : List ℕ)
    (end : nodes c.graph ≤ node) (is : line ≡ counts_line_of (drop RAILS hads)) (sends : Sends old now (cover_text c hads) (text_from c hads node)) where
  pub ends_ok : OnOk result (new ≡ append_known now line) → OnOk result (new ≡ append_known old (cover_text c hads))
  ends_ok = by result
    where
      by : (result : Result T E) → OnOk result (new ≡ append_known now line) → OnOk result (new ≡ append_known old (cover_text c hads))
      by (Ok _) grew = last_sent old new (cover_text c hads) (sends_more old now new (cover_text c hads) line [] (sends_counts old now c hads node line end is sends) grew)
      by (Err _) grew = tt

  pub ends_part : OnErr result (WritesPart now new line) → OnErr result (WritesPart old new (cover_text c hads))
  ends_part = by result
    where
      by : (result : Result T E) → OnErr result (WritesPart now new line) → OnErr result (WritesPart old new (cover_text c hads))
      by (Ok _) part = tt
      by (Err _) part = sends_part old now new (cover_text c hads) line [] (sends_counts old now c hads node line end is sends) part

-- a text and a number behind what stands there
behind : (start so_far text number first new : List ℕ) → first ≡ start ++ so_far → new ≡ (first ++ text) ++ number →
    new ≡ start ++ ((so_far ++ text) ++ number)
behind start so_far text number first new was is =
    is ∙ (ap (λ line. (line ++ text) ++ number) was
    ∙ (ap (λ line. line ++ number) (append_assoc start so_far text) ∙ append_assoc start (so_far ++ text) number))

-- four of them, one after the other, and an end
pub counts_chain : (start text1 one text2 two text3 three text4 four end first second third fourth : List ℕ) → first ≡ (start ++ text1) ++ one →
    second ≡ (first ++ text2) ++ two → third ≡ (second ++ text3) ++ three → fourth ≡ (third ++ text4) ++ four →
    fourth ++ end ≡ start ++ ((((((((text1 ++ one) ++ text2) ++ two) ++ text3) ++ three) ++ text4) ++ four) ++ end)
counts_chain start text1 one text2 two text3 three text4 four end first second third fourth a b c d =
    let part1 = text1 ++ one in
    let part2 = (part1 ++ text2) ++ two in
    let part3 = (part2 ++ text3) ++ three in
    let part4 = (part3 ++ text4) ++ four in
    let is1 : first ≡ start ++ part1 = a ∙ append_assoc start text1 one in
    let is2 : second ≡ start ++ part2 = behind start part1 text2 two first second is1 b in
    let is3 : third ≡ start ++ part3 = behind start part2 text3 three second third is2 c in
    let is4 : fourth ≡ start ++ part4 = behind start part3 text4 four third fourth is3 d in
    ap (λ line. line ++ end) is4 ∙ append_assoc start part4 end

-- what holds on an answer holds if there is one
pub answered : {T E P : Type 0} (result : Result T E) → true ≡ is_ok result → OnOk result P → P
answered (Ok value) is fact = fact
answered (Err fault) is fact = absurd (true≢false is)
