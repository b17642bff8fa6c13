-- The lines of a script that are left while it is judged: they go on in number, so it is known where the line was obeyed from which on all
-- is calm. From there on a build would find nothing new.
use Rattle.std.proofs.Common.{◌≡◌, ℕ, ◌+◌, ◌<◌, ◌≤◌, Bool, true, false, List, [], ◌∷◌, nat_lt, All, Option, None, Some, IfSome, Ok, refl, sym, ap, subst, ◌∙◌, arith}
use Rattle.std.specs.List.{enumerate_from}
use Rattle.std.proofs.lemmas.Bool.Decides.{nat_tests}
use Rattle.std.proofs.lemmas.List.Elements.{All-nil, All-cons, All-head, All-tail}
use Rattle.ternary.specs.declared.tern.Tern.{Tern}
use Rattle.line_words.specs.Files.{front_of, lines_in}
use Rattle.line_words.specs.Lines.{lines_of}
use Rattle.group_text.specs.Texts.{GroupTextData}
use Rattle.told_lines.specs.Lines.{Told}
use Rattle.session_meaning.specs.Sessions.{SessionData}
use Rattle.script_meaning.specs.declared.turn.Turn.TheVariants.{Accepted}
use Rattle.script_meaning.specs.Turns.{TakesTurn}
use Rattle.fault_sim.specs.Masks.{masked_reading}
use Rattle.fault_meaning.specs.Early.{IsCalm, Lasts, IsCalmFrom, is_from}
use Rattle.fault_meaning.proofs.CalmLemmas.{IsCurrent, line_built, line_calm}

-- they go on in number; and past the line from which on all is calm a build would find nothing new
pub record IsPlaced (from : Option ℕ) (left : List (ℕ × List ℕ)) (now : SessionData) : Type 0 where
  pub next : ℕ
  pub rest : List (List ℕ)
  pub numbered : left ≡ enumerate_from next rest
  pub lasts : IfSome from (λ number. All (Lasts number) left × (number < next → IsCurrent now))

-- at the start
pub placed_first : (from : Option ℕ) (script : List ℕ) (now : SessionData) → IfSome from (IsCalmFrom script) → IsPlaced from (lines_in script) now
placed_first from script now calm = record { next = 1; rest = lines_of (front_of script); numbered = refl; lasts = by from calm }
  where
    by : (from : Option ℕ) → IfSome from (IsCalmFrom script) → IfSome from (λ number. All (Lasts number) (lines_in script) × (number < 1 → IsCurrent now))
    by None calm = tt
    by (Some number) calm = let high = calm.numbered in (calm.lasts, λ low. absurd (omega (arith, high, low)))

-- the first of them has the next number
pub record IsNext (next : ℕ) (rest : List (List ℕ)) (line : ℕ × List ℕ) (left : List (ℕ × List ℕ)) : Type 0 where
  pub others : List (List ℕ)
  pub at : line.0 ≡ next
  pub numbered : left ≡ enumerate_from (next + 1) others

pub is_next : (next : ℕ) (rest : List (List ℕ)) (line : ℕ × List ℕ) (left : List (ℕ × List ℕ)) → line ∷ left ≡ enumerate_from next rest → IsNext next rest line left
is_next next [] line left same = absurd (cc)
is_next next (text ∷ rest) line left same =
    let first : line ≡ (next, text) = cc in
    record { others = rest; at = ap (λ (one : ℕ × List ℕ). one.0) first; numbered = cc }

-- lines from a number on that last are calm
calm_past : (number next : ℕ) (rest : List (List ℕ)) → number ≤ next → All (Lasts number) (enumerate_from next rest) →
    All (λ (line : ℕ × List ℕ). IsCalm line.1) (enumerate_from next rest)
calm_past number next [] low lasts = All-nil (λ (line : ℕ × List ℕ). IsCalm line.1)
calm_past number next (text ∷ rest) low lasts =
    let line : ℕ × List ℕ = (next, text) in
    let left = enumerate_from (next + 1) rest in
    All-cons (λ (one : ℕ × List ℕ). IsCalm one.1) line left ((All-head (Lasts number) line left lasts).calm low)
    (calm_past number (next + 1) rest (omega (arith, low)) (All-tail (Lasts number) line left lasts))

-- one more line was obeyed
module _ {H : Type 0} (hear : H → Told → H) (part : H → Told → H → Type 0) (stuck : Option (ℕ × Tern)) (cut : Option ℕ) (from : Option ℕ) (old new : SessionData)
    (line : ℕ × List ℕ) (left : List (ℕ × List ℕ)) (before after : H) (asked told : List GroupTextData) (placed : IsPlaced from (line ∷ left) old)
    (turn : TakesTurn hear part (masked_reading stuck) cut line old new before after asked told (Ok Accepted)) where
  -- if it is one from which on all is calm, a build would find nothing new after it
  current_then : (number : ℕ) → All (Lasts number) (line ∷ left) → (number < placed.next → IsCurrent old) → number ≤ placed.next → IsCurrent new
  current_then number lasts current low =
      let here = is_next placed.next placed.rest line left placed.numbered in
      let is = All-head (Lasts number) line left lasts in
      by here.at is (nat_lt number placed.next) refl
    where
      by : line.0 ≡ placed.next → Lasts number line → (past : Bool) → nat_lt number placed.next ≡ past → IsCurrent new
      by at is true past =
          let high : number < placed.next = grind (arith, nat_tests) in
          line_calm hear part stuck cut old new line before after asked told (is.calm (omega (arith, at, low))) (current high) turn
      by at is false past =
          let same : number ≡ placed.next = grind (arith, nat_tests) in
          line_built hear part stuck cut old new line before after asked told (is.building (at ∙ sym same)) turn

  pub placed_on : IsPlaced from left new
  placed_on =
      let here = is_next placed.next placed.rest line left placed.numbered in
      record {
        next = placed.next + 1;
        rest = here.others;
        numbered = here.numbered;
        lasts = by from placed.lasts;
      }
    where
      by : (from : Option ℕ) → IfSome from (λ number. All (Lasts number) (line ∷ left) × (number < placed.next → IsCurrent old)) →
          IfSome from (λ number. All (Lasts number) left × (number < placed.next + 1 → IsCurrent new))
      by None lasts = tt
      by (Some number) lasts = (
        All-tail (Lasts number) line left lasts.0,
        λ low. current_then number lasts.0 lasts.1 (omega (arith, low)),
      )

  -- at a line from which on all is calm a build would find nothing new, and the lines that are left are calm
  pub calm_here : is_from from line.0 ≡ true → IsCurrent new × All (λ (line : ℕ × List ℕ). IsCalm line.1) left
  calm_here there = by from placed.lasts there
    where
      by : (from : Option ℕ) → IfSome from (λ number. All (Lasts number) (line ∷ left) × (number < placed.next → IsCurrent old)) →
          is_from from line.0 ≡ true → IsCurrent new × All (λ (line : ℕ × List ℕ). IsCalm line.1) left
      by None lasts there = absurd (cc)
      by (Some number) lasts there =
          let here = is_next placed.next placed.rest line left placed.numbered in
          let at = here.at in
          let low : number ≤ line.0 = grind (arith, nat_tests) in (
            current_then number lasts.0 lasts.1 (omega (arith, at, low)),
            subst (All (λ (line : ℕ × List ℕ). IsCalm line.1)) (sym here.numbered)
                (calm_past number (placed.next + 1) here.others (omega (arith, at, low))
                (subst (All (Lasts number)) here.numbered (All-tail (Lasts number) line left lasts.0))),
          )
