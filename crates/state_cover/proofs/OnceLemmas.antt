-- Notes don't depend on the order of states, nor on how often one comes: so of states that come again in the same order nothing new is noted.
use Rattle.std.proofs.Common.{◌≡◌, List, [], ◌∷◌, refl, ap, ◌∙◌}
use Rattle.ternary.specs.declared.tern.Tern.{Tern}
use Rattle.ternary.specs.declared.tern.Tern.TheVariants.{Zero, One, Unk}
use Rattle.settling.specs.Passing.{see_all}
use Rattle.state_cover.specs.declared.had.Had.{Had}
use Rattle.state_cover.specs.Cover.{none_had, had_more, had_after}
use Rattle.state_cover.proofs.CoverLemmas.{had_more-twice}

-- of one node in two states
had_more-swapped : (had : Had) (one other : Tern) → had_more (had_more had one) other ≡ had_more (had_more had other) one
had_more-swapped had Zero Zero = refl
had_more-swapped had Zero One = refl
had_more-swapped had Zero Unk = refl
had_more-swapped had One Zero = refl
had_more-swapped had One One = refl
had_more-swapped had One Unk = refl
had_more-swapped had Unk Zero = refl
had_more-swapped had Unk One = refl
had_more-swapped had Unk Unk = refl

-- of all nodes in two states
had_after-swapped : (hads : List Had) (one other : List Tern) → had_after (had_after hads one) other ≡ had_after (had_after hads other) one
had_after-swapped hads [] other = refl
had_after-swapped hads (one ∷ ones) [] = refl
had_after-swapped [] (one ∷ ones) (other ∷ others) =
    ap (λ (had : Had). had ∷ had_after (had_after [] ones) others) (had_more-swapped none_had one other)
    ∙ ap (λ (hads : List Had). had_more (had_more none_had other) one ∷ hads) (had_after-swapped [] ones others)
had_after-swapped (had ∷ hads) (one ∷ ones) (other ∷ others) =
    ap (λ (more : Had). more ∷ had_after (had_after hads ones) others) (had_more-swapped had one other)
    ∙ ap (λ (more : List Had). had_more (had_more had other) one ∷ more) (had_after-swapped hads ones others)

-- of a state that comes twice
had_after-twice : (hads : List Had) (states : List Tern) → had_after (had_after hads states) states ≡ had_after hads states
had_after-twice hads [] = refl
had_after-twice [] (state ∷ states) =
    ap (λ (had : Had). had ∷ had_after (had_after [] states) states) (had_more-twice none_had state)
    ∙ ap (λ (hads : List Had). had_more none_had state ∷ hads) (had_after-twice [] states)
had_after-twice (had ∷ hads) (state ∷ states) =
    ap (λ (more : Had). more ∷ had_after (had_after hads states) states) (had_more-twice had state)
    ∙ ap (λ (more : List Had). had_more had state ∷ more) (had_after-twice hads states)

-- a state may as well come before others as behind them
noted_before : (hads : List Had) (state : List Tern) (states : List (List Tern)) →
    had_after (see_all had_after hads states) state ≡ see_all had_after (had_after hads state) states
noted_before hads state [] = refl
noted_before hads state (first ∷ states) =
    noted_before (had_after hads first) state states ∙ ap (λ (notes : List Had). see_all had_after notes states) (had_after-swapped hads first state)

-- so of states that come again nothing new is noted
pub noted_once : (hads : List Had) (states : List (List Tern)) → see_all had_after (see_all had_after hads states) states ≡ see_all had_after hads states
noted_once hads [] = refl
noted_once hads (state ∷ states) =
    ap (λ (notes : List Had). see_all had_after notes states) (noted_before (had_after hads state) state states)
    ∙ (ap (λ (notes : List Had). see_all had_after (see_all had_after notes states) states) (had_after-twice hads state)
    ∙ noted_once (had_after hads state) states)
