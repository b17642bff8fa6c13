-- The parts are seated and share no members, and each node that they read has its readers.
use Rattle.std.proofs.Common.{◌≡◌, ◌<◌, ℕ, [], inl, inr, length, map, subst, arith}
use Rattle.std.specs.Prelude.{Contains}
use Rattle.std.proofs.lemmas.Bool.{cases_lt}
use Rattle.std.proofs.lemmas.List.{get_or_past, length-map}
use Rattle.smallvec.specs.SmallVec.{SmallVec}
use Rattle.machine_parts.specs.Parts.{ReadsAt}
use Rattle.part_steps.specs.Workspaces.{rooms}
use Rattle.machine_parts.specs.Readers.{readers_of}
use Rattle.unit_step.proofs.machine.Machine.taken_apart.Goals as goal

pub returns-clause-seated : goal.returns-clause-seated
returns-clause-seated c = rw (← c.self.view_is) (rooms c.self.inside.body.workspace, c.self.invariant.0.runs.seated)

pub returns-clause-apart : goal.returns-clause-apart
returns-clause-apart c = rw (← c.self.view_is) c.self.invariant.0.runs.apart

pub returns-clause-reads : goal.returns-clause-reads
returns-clause-reads c =
    let lists = c.self.inside.body.readers in
    let inside_all : (k node : ℕ) → ReadsAt c.self.inside.body.parts.items k node → node < length c.self.inside.body.state.items = λ k node reads.
    let there = c.self.invariant.0.runs.readers node k reads in
    elim (cases_lt node (length lists)) [
      | inl inside ↦ omega (arith, inside, c.self.invariant.0.runs.readers_counted)
      | inr past ↦
          let none : readers_of lists node ≡ [] =
          get_or_past (map (λ (parts : SmallVec ℕ). parts.items) lists) node [] (omega (arith, past, length-map lists (λ (parts : SmallVec ℕ). parts.items))) in
          let (i, inside, here) = subst (λ xs. Contains xs k) none there in
          absurd (omega (arith, inside))
    ] in
    rw (← c.self.view_is) inside_all
