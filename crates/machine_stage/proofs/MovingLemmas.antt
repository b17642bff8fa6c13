-- The moves of a machine through phases: they add up along the lines, and where the last line tells of rest the machine is at rest.
use Rattle.std.proofs.Common.{◌≡◌, ℕ, ◌+◌, ◌<◌, false, List, [], ◌∷◌, ◌++◌, Option, None, Some, refl, sym, ap, subst, ◌∙◌, arith}
use Rattle.std.proofs.lemmas.List.Sums.{sum_by-append}
use Rattle.ternary.specs.declared.tern.Tern.{Tern}
use Rattle.ternary.specs.Counts.{raised}
use Rattle.ternary.proofs.CountsLemmas.{raised-more, raised-none}
use Rattle.machine_laws.specs.Machines.{MachineData, IsAtRest}
use Rattle.settling.specs.declared.settling.Settled.{Settled}
use Rattle.switch_paths.specs.Graphs.{GraphData}
use Rattle.told_lines.specs.Lines.{Line, Wave}
use Rattle.told_lines.specs.Sums.{steps_of}
use Rattle.machine_stage.specs.Machines.{StageData, EndsAtRest, MovesMachine, moves_of, placed_of, steps_in}
use Rattle.machine_stage.specs.Stages.{MovesBy, StaysPut, TakesPhase}

-- ---- lines

-- the steps of lines and then others are those of all
steps_in-append : (front back : List Line) → steps_in (front ++ back) ≡ steps_in front + steps_in back
steps_in-append front back = sum_by-append steps_of front back

-- the last line, if there is one
abbrev last_line : List Line → Option Line
last_line [] = None
last_line (line ∷ []) = Some line
last_line (line ∷ next ∷ lines) = last_line (next ∷ lines)

last_line-behind : (front : List Line) (line : Line) → last_line (front ++ line ∷ []) ≡ Some line
last_line-behind [] line = refl
last_line-behind (first ∷ []) line = refl
last_line-behind (first ∷ next ∷ front) line = last_line-behind (next ∷ front) line

-- lines that end at rest have a last one that does
ends_behind : (limit : ℕ) (front : List Line) (line : Line) → EndsAtRest limit (front ++ line ∷ []) → EndsAtRest limit (line ∷ [])
ends_behind limit front line ends =
    let wave : Line = Wave ends.n ends.k false ends.values in
    let both : Some line ≡ Some wave = sym (last_line-behind front line) ∙ ap last_line ends.last ∙ last_line-behind ends.front wave in
    let same : line ≡ wave = cc in
    record { front = []; n = ends.n; k = ends.k; values = ends.values; last = ap (λ (one : Line). one ∷ []) same; few = ends.few }

-- if there is no line there is no rest
ends_nowhere : (limit : ℕ) → ¬ EndsAtRest limit []
ends_nowhere limit ends =
    let wave : Line = Wave ends.n ends.k false ends.values in
    let both : None ≡ Some wave = ap last_line ends.last ∙ last_line-behind ends.front wave in
    absurd (cc)

-- ---- machines

-- no phase, no move
pub moves-none : (limit : ℕ) (found : Option MachineData) (machine : MachineData) → found ≡ Some machine → MovesMachine limit found found []
moves-none limit found machine there = record {
  machine = machine;
  there = there;
  moves = ap moves_of (sym there) ∙ raised-none (moves_of found);
  placed = ap placed_of (sym there);
  rests = λ ends. absurd (ends_nowhere limit ends);
}

-- one more line
pub moves-more : (limit : ℕ) (old mid put new : Option MachineData) (lines : List Line) (line : Line) → MovesMachine limit old mid lines → StaysPut mid put →
    MovesMachine limit put new (line ∷ []) → MovesMachine limit old new (lines ++ line ∷ [])
moves-more limit old mid put new lines line so_far stays last = record {
  machine = last.machine;
  there = last.there;
  moves =
      last.moves
      ∙ ap (λ (n : ℕ). raised n (steps_in (line ∷ []))) (stays.moves ∙ ap moves_of so_far.there ∙ so_far.moves)
      ∙ raised-more (moves_of old) (steps_in lines) (steps_in (line ∷ []))
      ∙ ap (λ (n : ℕ). raised (moves_of old) n) (sym (steps_in-append lines (line ∷ [])));
  placed = last.placed ∙ stays.placed ∙ ap placed_of so_far.there ∙ so_far.placed;
  rests = λ ends. last.rests (ends_behind limit lines line ends);
}

-- what the moves are counted from may be another machine with the same counts
pub moves-from : (limit other : ℕ) (old mid new : Option MachineData) (lines : List Line) → limit ≡ other → moves_of mid ≡ moves_of old →
    placed_of mid ≡ placed_of old → MovesMachine limit mid new lines → MovesMachine other old new lines
moves-from limit other old mid new lines same moved placed moves = record {
  machine = moves.machine;
  there = moves.there;
  moves = moves.moves ∙ ap (λ (n : ℕ). raised n (steps_in lines)) moved;
  placed = moves.placed ∙ placed;
  rests = subst (λ (n : ℕ). EndsAtRest n lines → IsAtRest moves.machine) same moves.rests;
}

-- a phase whose line tells its count
pub moves-phase : (g : GraphData) (limit n : ℕ) (count : Settled) (values : List Tern) (old new : StageData) →
    MovesBy (λ before after. TakesPhase g limit before after count.steps count.joined) old new →
    MovesMachine limit old.machine new.machine (Wave n count.steps count.joined values ∷ [])
moves-phase g limit n count values old new moves = record {
  machine = moves.after;
  there = moves.there;
  moves = moves.leads.moves ∙ ap (λ (m : ℕ). raised m count.steps) (ap moves_of (sym moves.was)) ∙ ap (raised (moves_of old.machine)) one;
  placed = moves.leads.placed ∙ ap placed_of (sym moves.was);
  rests = rests;
}
  where
    line : Line
    line = Wave n count.steps count.joined values

    one : count.steps ≡ steps_in (line ∷ [])
    one = omega arith

    rests : EndsAtRest limit (line ∷ []) → IsAtRest moves.after
    rests ends =
        let wave : Line = Wave ends.n ends.k false ends.values in
        let both : Some line ≡ Some wave = ap last_line ends.last ∙ last_line-behind ends.front wave in
        let same : line ≡ wave = cc in
        let unmarked : count.joined ≡ false = cc in
        let few : count.steps ≡ ends.k = cc in
        moves.leads.rests unmarked (subst (λ (k : ℕ). k < limit) (sym few) ends.few)
