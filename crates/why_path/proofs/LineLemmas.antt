-- The hops of a line, one after the other.
use Rattle.std.proofs.Common.{◌≡◌, ℕ, ◌+◌, ◌<◌, List, [], ◌∷◌, ◌++◌, length, take, get_or, refl, sym, ◌∙◌, ap, append_assoc, append-nil}
use Rattle.std.proofs.lemmas.List.{take_more}
use Rattle.ternary.specs.declared.tern.Tern.{Tern}
use Rattle.switch_paths.specs.Path.{Stand, Hop, Leads}
use Rattle.netlist.specs.Circuits.{CircuitData, called}
use Rattle.why_path.specs.Lines.{hop_text, hops_text, AreTold}

-- three pieces, joined from the front or from the back
joined : (one two three : List ℕ) → one ++ (two ++ three) ≡ (one ++ two) ++ three
joined one two three = rw append_assoc refl

-- a piece and nothing
alone : (piece : List ℕ) → piece ++ [] ≡ piece
alone piece = append-nil piece

-- the text of two lists of hops, one after the other
hops_text-append : (one two : List (ℕ × List ℕ)) → hops_text (one ++ two) ≡ hops_text one ++ hops_text two
hops_text-append [] two = refl
hops_text-append (hop ∷ one) two =
    ap (λ (rest : List ℕ). hop_text hop ++ rest) (hops_text-append one two) ∙ joined (hop_text hop) (hops_text one) (hops_text two)

-- the text of one more hop
pub hops_text-more : (start old new : List ℕ) (hops : List (ℕ × List ℕ)) (number : ℕ) (name : List ℕ) →
    old ≡ start ++ hops_text hops → new ≡ old ++ hop_text (number, name) →
    new ≡ start ++ hops_text (hops ++ (number, name) ∷ [])
hops_text-more start old new hops number name before after =
    let text : List ℕ = hop_text (number, name) in
    let last : hops_text hops ++ hops_text ((number, name) ∷ []) ≡ hops_text hops ++ text =
    ap (λ (rest : List ℕ). hops_text hops ++ rest) (alone text) in
    after ∙ ap (λ (front : List ℕ). front ++ text) before ∙ sym (joined start (hops_text hops) text)
    ∙ ap (λ (rest : List ℕ). start ++ rest) (sym (hops_text-append hops ((number, name) ∷ []) ∙ last))

module _ (c : CircuitData) (state : List Tern) where
  -- one hop more is told
  AreTold-more : (hops : List ℕ) (here mid next : Stand) (place : ℕ) (told : List (ℕ × List ℕ)) →
      AreTold c state here hops mid told → Hop c.graph state mid place next →
      AreTold c state here (hops ++ place ∷ []) next (told ++ (place + 1, called c next.node) ∷ [])
  AreTold-more [] here mid next place told are hop =
      (next, [], (rw are.0 hop), rw are.1 refl, (refl, refl))
  AreTold-more (first ∷ hops) here mid next place told are hop = (
    are.0,
    are.1 ++ (place + 1, called c next.node) ∷ [],
    are.2,
    rw are.3 refl,
    AreTold-more hops are.0 mid next place are.1 are.4 hop,
  )

  -- the next hop of a walk
  pub AreTold-next : (walk : List ℕ) (k : ℕ) (here mid next : Stand) (told : List (ℕ × List ℕ)) → k < length walk →
      AreTold c state here (take k walk) mid told → Hop c.graph state mid (get_or walk k 0) next →
      AreTold c state here (take (k + 1) walk) next (told ++ (get_or walk k 0 + 1, called c next.node) ∷ [])
  AreTold-next walk k here mid next told inside are hop =
      rw (take_more walk k 0 inside) (AreTold-more (take k walk) here mid next (get_or walk k 0) told are hop)

  -- what is told is a path
  pub AreTold-leads : (hops : List ℕ) (here there : Stand) (told : List (ℕ × List ℕ)) → AreTold c state here hops there told →
      Leads c.graph state here hops there
  AreTold-leads [] here there told are = are.0
  AreTold-leads (place ∷ hops) here there told are = (are.0, are.2, AreTold-leads hops are.0 there are.1 are.4)
