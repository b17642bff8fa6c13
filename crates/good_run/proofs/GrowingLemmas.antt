-- A state that grew by no node.
use Rattle.std.proofs.Common.{◌≡◌, zero, suc, List, [], length, replicate, ap, ◌∙◌, arith}
use Rattle.std.proofs.lemmas.List.{append-nil, length-append, length-replicate}
use Rattle.ternary.specs.declared.tern.Tern.{Tern}
use Rattle.ternary.specs.declared.tern.Tern.TheVariants.{Unk}
use Rattle.switch_paths.specs.Switching.{state_at}
use Rattle.settling.specs.Moved.{IsGrown, ListsChanges}

-- it is the same
pub grown_same : (old new : List Tern) → IsGrown old new → length new ≡ length old → new ≡ old
grown_same old new (zero, is) counted = is ∙ append-nil old
grown_same old new (suc more, is) counted =
    absurd (omega (arith, counted, ap length is, length-append old (replicate (suc more) Unk), length-replicate {A = Tern} (suc more) Unk))

-- so it changed at no node
pub nothing_listed : (old new : List Tern) → new ≡ old → ListsChanges [] old new
nothing_listed old new same = record {
  count = ap length same;
  each = λ node inside differs. absurd (differs (ap (λ states. state_at states node) same));
  inside = λ node there. absurd (omega (arith, there.1));
}
