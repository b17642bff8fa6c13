-- The part's members and what it reads are nodes.
use Rattle.std.proofs.Common.{◌≡◌, ◌<◌, ℕ, [], inl, inr, length, map, sym, subst, arith}
use Rattle.std.specs.Prelude.{Contains}
use Rattle.std.proofs.lemmas.Bool.{cases_lt}
use Rattle.std.proofs.lemmas.List.{get_or_past, length-map}
use Rattle.smallvec.specs.SmallVec.{SmallVec}
use Rattle.machine_parts.specs.Evaluating.{IsSeated}
use Rattle.machine_parts.specs.Readers.{readers_of}
use Rattle.machine_laws.specs.Machines.{MachineData}
use Rattle.part_steps.specs.Workspaces.{rooms}
use Rattle.unit_step.proofs.machine.Machine.agrees_at.Goals as goal

pub agrees_in-requires : goal.agrees_in-requires
agrees_in-requires c =
    let i = c.self.inside in
    let runs = c.self.invariant.0.runs in
    let lists = i.body.readers in
    rw (c.deref.ensures.value, c.deref-2.ensures.value) (record {
      part = subst (λ (m : MachineData). c.args.k < length m.parts) (sym c.self.view_is) c.requires.part;
      seated = λ part stands.
          (subst (IsSeated (length i.body.state.items) (rooms i.body.workspace)) stands.here (runs.seated c.args.k part stands.inside)).members;
      inside = λ node concerns. elim concerns [
        | inl has ↦
            let seat = subst (IsSeated (length i.body.state.items) (rooms i.body.workspace)) has.stands.here (runs.seated c.args.k has.part has.stands.inside) in
            subst (λ n. n < length i.body.state.items) has.member.here (seat.below has.place 0 has.member.within)
        | inr reads ↦
            let there = runs.readers node c.args.k reads in
            elim (cases_lt node (length lists)) [
              | inl inside ↦ omega (arith, inside, runs.readers_counted)
              | inr past ↦
                  let none : readers_of lists node ≡ [] =
                  get_or_past (map (λ (parts : SmallVec ℕ). parts.items) lists) node []
                  (omega (arith, past, length-map lists (λ (parts : SmallVec ℕ). parts.items))) in
                  let (place, inside, here) = subst (λ xs. Contains xs c.args.k) none there in
                  absurd (omega (arith, inside))
            ]
      ];
      counted = subst (λ (m : MachineData). length c.args.good.now ≡ length m.state) (sym c.self.view_is) c.requires.counted;
    })

pub returns : goal.returns
returns c = rw (← c.self.view_is) (rw (c.deref.ensures.value, c.deref-2.ensures.value) at c.agrees_in.ensures)
