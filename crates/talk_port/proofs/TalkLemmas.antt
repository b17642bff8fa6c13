-- One turn more of a conversation, its end, and where it breaks off.
use Rattle.std.proofs.Common.{◌≡◌, ℕ, ◌+◌, Bool, true, false, not, List, [], ◌∷◌, length, Option, None, Some, refl, sym, ◌∙◌, ap, arith, subst}
use Rattle.std.specs.Prelude.{option_map, take, ◌-◌, ◌^◌, Result, Ok, Err, OnErr, OnOk}
use Rattle.talk_port.specs.Talks.{kept_bytes, Turn, TalkData, Hears, said_next, heard_next, heard_end}
use Rattle.talk_port.specs.Conversing.{GoOn, Talks, asks, turn, with_turns, over, quit, full, Converses, Answers, BreaksOff, between, within}

-- the turns so far, of which none quit, as many as were counted
pub record SoFar {M : Type 0} (answers : M → List ℕ → List ℕ → M → Type 0) (quits : List ℕ → Bool) (start now : M) (count : ℕ)
    (before after : Option TalkData) : Type 0 where
  pub turns : List Turn
  pub talks : Talks answers quits start turns now
  pub go_on : GoOn quits turns
  pub counted : count ≡ length turns
  pub tells : after ≡ option_map (with_turns turns) before

-- a line heard and answered is a turn more
answered : (turns : List Turn) (line text : List ℕ) (before mid heard after : Option TalkData) →
    mid ≡ option_map (with_turns turns) before → heard ≡ option_map (heard_next line) mid → after ≡ option_map (said_next text) heard →
    after ≡ option_map (with_turns (record { heard = line; said = text } ∷ turns)) before
answered turns line text None mid heard after one two three = rw three (rw two (rw one refl))
answered turns line text (Some talk) mid heard after one two three = rw three (rw two (rw one refl))

-- what the answer says of quitting
pub went_on : (more quits : Bool) → more ≡ not quits → more ≡ true → quits ≡ false
went_on true false is set = refl
went_on true true is set = absurd cc
went_on false quits is set = absurd cc

pub stopped : (more quits : Bool) → more ≡ not quits → more ≡ false → quits ≡ true
stopped false true is unset = refl
stopped false false is unset = absurd cc
stopped true quits is unset = absurd cc

-- what holds at any rate holds at an error
pub on_err : {X E : Type 0} {P : Type 0} → (result : Result X E) → P → OnErr result P
on_err (Ok x) holds = tt
on_err (Err e) holds = holds

-- and what holds at any rate holds if there is no error
pub on_ok : {X E : Type 0} {P : Type 0} → (result : Result X E) → P → OnOk result P
on_ok (Ok x) holds = holds
on_ok (Err e) holds = tt

module _ {M : Type 0} (answers : M → List ℕ → List ℕ → M → Type 0) (quits : List ℕ → Bool) (start : M) (before : Option TalkData) where
  pub so_far-none : SoFar answers quits start start 0 before before
  so_far-none = record { turns = []; talks = asks; go_on = tt; counted = refl; tells = none before }
    where
      none : (before : Option TalkData) → before ≡ option_map (with_turns []) before
      none None = refl
      none (Some talk) = refl

  -- a turn more
  pub so_far-more : (count : ℕ) (now new : M) (bytes : List ℕ) (mid heard after : Option TalkData) →
      SoFar answers quits start now count before mid → Hears mid heard true bytes → Answers answers now bytes new heard after →
      quits bytes ≡ false → SoFar answers quits start new (count + 1) before after
  so_far-more count now new bytes mid heard after so_far hears answer stays =
      let line = hears.0 in
      let same : bytes ≡ take kept_bytes line = hears.1 in
      record {
        turns = record { heard = line; said = answer.text } ∷ so_far.turns;
        talks = turn so_far.turns now new line answer.text so_far.talks so_far.go_on (rw (← same) answer.answered);
        go_on = ((rw (← same) stays), so_far.go_on);
        counted = omega (arith, so_far.counted);
        tells = answered so_far.turns line answer.text before mid heard after so_far.tells hears.2 answer.tells;
      }

  -- the end is heard
  pub so_far-over : (count : ℕ) (now : M) (bytes : List ℕ) (mid after : Option TalkData) →
      SoFar answers quits start now count before mid → Hears mid after false bytes → Converses answers quits start now before after
  so_far-over count now bytes mid after so_far hears = record {
    turns = so_far.turns;
    talks = so_far.talks;
    told = λ talk. heard_end (with_turns so_far.turns talk);
    ends = over refl;
    tells = over_tells so_far.turns before mid after so_far.tells hears;
  }
    where
      over_tells : (turns : List Turn) (before mid after : Option TalkData) → mid ≡ option_map (with_turns turns) before →
          after ≡ option_map heard_end mid → after ≡ option_map (λ talk. heard_end (with_turns turns talk)) before
      over_tells turns None mid after one two = rw two (rw one refl)
      over_tells turns (Some talk) mid after one two = rw two (rw one refl)

  -- a line quits
  pub so_far-quit : (count : ℕ) (now new : M) (bytes : List ℕ) (mid heard after : Option TalkData) →
      SoFar answers quits start now count before mid → Hears mid heard true bytes → Answers answers now bytes new heard after →
      quits bytes ≡ true → Converses answers quits start new before after
  so_far-quit count now new bytes mid heard after so_far hears answer stops =
      let line = hears.0 in
      let same : bytes ≡ take kept_bytes line = hears.1 in
      let last : Turn = record { heard = line; said = answer.text } in
      record {
        turns = last ∷ so_far.turns;
        talks = turn so_far.turns now new line answer.text so_far.talks so_far.go_on (rw (← same) answer.answered);
        told = with_turns (last ∷ so_far.turns);
        ends = quit last so_far.turns refl (rw (← same) stops) refl;
        tells = answered so_far.turns line answer.text before mid heard after so_far.tells hears.2 answer.tells;
      }

  -- no more lines are counted
  pub so_far-full : (count : ℕ) (now : M) (after : Option TalkData) → SoFar answers quits start now count before after →
      count ≡ 2 ^ 64 - 1 → Converses answers quits start now before after
  so_far-full count now after so_far most = record {
    turns = so_far.turns;
    talks = so_far.talks;
    told = with_turns so_far.turns;
    ends = full (sym so_far.counted ∙ most) refl;
    tells = so_far.tells;
  }

  -- a line quits, and what was said can't be handed on
  pub so_far-quit_broken : (Part : M → List ℕ → M → Option TalkData → Option TalkData → Type 0) (count : ℕ) (now new : M) (bytes : List ℕ)
      (mid heard after : Option TalkData) → SoFar answers quits start now count before mid → Hears mid heard true bytes →
      Answers answers now bytes new heard after → BreaksOff answers quits Part start new before after
  so_far-quit_broken Part count now new bytes mid heard after so_far hears answer =
      let line = hears.0 in
      let same : bytes ≡ take kept_bytes line = hears.1 in
      between (record { heard = line; said = answer.text } ∷ so_far.turns)
      (turn so_far.turns now new line answer.text so_far.talks so_far.go_on (rw (← same) answer.answered))
      (answered so_far.turns line answer.text before mid heard after so_far.tells hears.2 answer.tells)

  -- no line can be heard
  pub so_far-between : (Part : M → List ℕ → M → Option TalkData → Option TalkData → Type 0) (count : ℕ) (now : M) (mid after : Option TalkData) →
      SoFar answers quits start now count before mid → after ≡ mid → BreaksOff answers quits Part start now before after
  so_far-between Part count now mid after so_far same = between so_far.turns so_far.talks (same ∙ so_far.tells)

  -- no whole answer can be said
  pub so_far-within : (Part : M → List ℕ → M → Option TalkData → Option TalkData → Type 0) (count : ℕ) (now new : M) (bytes : List ℕ)
      (mid heard after : Option TalkData) → SoFar answers quits start now count before mid → Hears mid heard true bytes →
      Part now bytes new heard after → BreaksOff answers quits Part start new before after
  so_far-within Part count now new bytes mid heard after so_far hears part =
      let line = hears.0 in
      let same : bytes ≡ take kept_bytes line = hears.1 in
      let is : heard ≡ option_map (heard_next line) (option_map (with_turns so_far.turns) before) =
      hears.2 ∙ ap (option_map (heard_next line)) so_far.tells in
      within so_far.turns now line so_far.talks so_far.go_on
      (subst (λ talk. Part now (take kept_bytes line) new talk after) is (subst (λ front. Part now front new heard after) same part))
