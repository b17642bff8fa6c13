-- Texts compared by their graphs, their members and their constants: the test, and that it decides whether two
-- texts are one.
use Rattle.std.specs.Prelude.{◌≡◌, ℕ, ◌+◌, ◌*◌, ◌==◌, Bool, true, ◌&&◌, List, [], ◌∷◌, ◌++◌, length, map, Option, Some, None}
use Rattle.std.specs.List.{flat_map, zip}
use Rattle.std.specs.Bool.{Decides}
use Rattle.std.specs.Option.{option_eq}
use Rattle.std.specs.Cmp.{IsEquivalence}
use Rattle.std.specs.Cmp.Lexicographic.{pointwise, pointwise_decides}
use Rattle.std.specs.Hash as fed
use Rattle.std.proofs.Common.{rules, ap}
use Rattle.std.proofs.lemmas.Bool.Decides.{Decides-eqb, Decides-and, Decides-like}
use Rattle.ternary.specs.declared.tern.Tern.{Tern}
use Rattle.ternary.specs.contracts.tern.TernPartialEq.TheImpl as tern
use Rattle.ternary.specs.declared.tern.Tern.TheVariants.{Zero, One, Unk}
use Rattle.switch_paths.specs.declared.switching.Switch.{Switch}
use Rattle.switch_paths.specs.declared.switching.SwitchKind.{SwitchKind}
use Rattle.switch_paths.specs.declared.switching.SwitchKind.TheVariants.{NChan, PChan, Always}
use Rattle.switch_paths.specs.Graphs.{nodes}
use Rattle.switch_paths.specs.Compared.{same_graph, same_graph_decides, options_decide, equivalence_of}
use Rattle.group_text.specs.Texts.{GroupTextData}

-- two states are one
abbrev pub same_state : Tern → Tern → Bool
same_state = tern.eq-value.it

-- the test of two states decides
states_decide : (a b : Tern) → Decides (same_state a b) (a ≡ b)
states_decide a b = search rules

-- two texts have the same graph, as many members, and the same constants
abbrev pub same_text : GroupTextData → GroupTextData → Bool
same_text a b =
    same_graph a.graph b.graph && (a.members == b.members && pointwise (option_eq same_state) a.constants b.constants)

-- and that is so exactly if they are one text
pub same_text_decides : (a b : GroupTextData) → Decides (same_text a b) (a ≡ b)
same_text_decides a b =
    let constants = pointwise_decides (options_decide same_state states_decide) a.constants b.constants in
    Decides-like (same_text a b)
    (λ p i. record { graph = p.0 i; members = p.1.0 i; constants = p.1.1 i })
    (λ e. (ap (λ text. text.graph) e, (ap (λ text. text.members) e, ap (λ text. text.constants) e)))
    (Decides-and (same_graph a.graph b.graph) (a.members == b.members && pointwise
    (option_eq same_state) a.constants b.constants)
    (same_graph_decides a.graph b.graph)
    (Decides-and (a.members == b.members) (pointwise (option_eq same_state) a.constants b.constants)
    (Decides-eqb a.members b.members) constants))

pub same_text_equivalence : IsEquivalence same_text
same_text_equivalence = equivalence_of same_text same_text_decides

-- the code of a constant: 0 for none, then 1 for 0, 2 for 1 and 3 for X
abbrev pub constant_code : Option Tern → ℕ
constant_code None = 0
constant_code (Some Zero) = 1
constant_code (Some One) = 2
constant_code (Some Unk) = 3

-- the code of a kind, below 3
abbrev pub kind_code : SwitchKind → ℕ
kind_code NChan = 0
kind_code PChan = 1
kind_code Always = 2

-- the word of a local node: its level, which is below 256, and its constant
abbrev pub node_word : ℕ × Option Tern → ℕ
node_word node = node.0 + 256 * constant_code node.1

-- the words of a place: a switch's first word leaves 0, 1 or 2 over when it is divided by 4, an empty place's 3
abbrev pub place_words : Option Switch → List ℕ
place_words None = 3 ∷ []
place_words (Some switch) = (kind_code switch.kind + 4 * switch.level) ∷ switch.gate ∷ switch.a ∷ switch.b ∷ []

-- the words of a text: how many members, local nodes and places it has, and then its nodes and its places. Texts
-- of as many constants as nodes that differ have words that differ
abbrev pub text_words : GroupTextData → List ℕ
text_words text = text.members ∷ nodes text.graph ∷ length text.graph.places ∷
    map node_word (zip text.graph.levels text.constants) ++ flat_map place_words text.graph.places

-- each word as one write of 64 bits
abbrev pub words_writes : List ℕ → fed.HashWrites
words_writes words = flat_map fed.u64 words

-- what a text feeds a hasher: its words
abbrev pub text_writes : GroupTextData → fed.HashWrites
text_writes text = words_writes (text_words text)

-- equal texts feed it the same
pub text_writes-same : (a b : GroupTextData) → same_text a b ≡ true → text_writes a ≡ text_writes b
text_writes-same a b same = ap text_writes ((same_text_decides a b).0 same)
