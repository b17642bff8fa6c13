-- A text that is kept changes nothing, and one that isn't is added.
use Rattle.std.proofs.Common.{◌≡◌, ◌+◌, ◌-◌, ◌∷◌, ◌++◌, [], length, take, drop, Result, Ok, Err, OnErr, All, true, sym, ap, subst, ◌∙◌, arith}
use Rattle.std.proofs.lemmas.List.{take_more, take_all, drop_more, take-append-drop}
use Rattle.group_text.specs.FirstTexts.{is_among}
use Rattle.analysis_cache.specs.Keeping.{texts_of}
use Rattle.analysis_cache.proofs.FillLemmas.{is_some-among, length-FillsAll, each_kept, FillsAll-known, FillsAll-added, KeepsSome-lacking}
use Rattle.analysis_cache.proofs.HoldingLemmas.{HoldsKept-filled, HoldsNearlyKept-lacks}
use Rattle.analysis_cache.proofs.kept.Kept.fill.Goals as goal
use Rattle.analysis_cache.proofs.kept.Kept.fill.Goals.{then-is_none+in_ok-add, else-is_none}

-- what holds anyway holds on a fault
at_err : {T E P : Type 0} (result : Result T E) → P → OnErr result P
at_err (Ok value) fact = tt
at_err (Err fault) fact = fact

pub returns-in_err-add-clause-err : goal.returns-in_err-add-clause-err
returns-in_err-add-clause-err g c =
    let i = c.loop-text.text-index in
    let texts = c.args.texts.now in
    let text = c.text-item.result in
    let old = c.args.self.now in
    let now = c.loop-text.self in
    let before = g.A.Analyst.analysed c.args.analyst.now in
    let after = g.A.Analyst.analysed c.loop-text.analyst in
    let held_before = g.A.Analyst.held c.args.analyst.now in
    let held_after = g.A.Analyst.held c.loop-text.analyst in
    let there = is_some-among c.code.result (is_among (texts_of now) text) c.code.ensures.none in
    let whole : texts ≡ take i texts ++ text ∷ drop (i + 1) texts =
    sym (take-append-drop i texts)
    ∙ ap (λ l. take i texts ++ l) (drop_more texts i text c.loop-text-test.true)
    ∙ ap (λ next. take i texts ++ next ∷ drop (i + 1) texts) (sym c.text-item.is) in
    at_err c.from_residual.result
    (rw whole
    (KeepsSome-lacking old now before after held_before held_after (take i texts) (length now.entries - length old.entries) c.loop-text.invariant
    c.add.new.self (g.A.Analyst.analysed c.add.new.analyst) (g.A.Analyst.held c.add.new.analyst) text (there ∙ c.if-is_none.ensures)
    c.in_err-add.ensures.err (drop (i + 1) texts)))

pub loop-text-preserved : goal.loop-text-preserved
loop-text-preserved g c =
    let i = c.loop-text.text-index in
    let texts = c.args.texts.now in
    let text = c.text-item.result in
    let old = c.args.self.now in
    let now = c.loop-text.self in
    let count = length now.entries - length old.entries in
    let before = g.A.Analyst.analysed c.args.analyst.now in
    let after = g.A.Analyst.analysed c.loop-text.analyst in
    let held_before = g.A.Analyst.held c.args.analyst.now in
    let held_after = g.A.Analyst.held c.loop-text.analyst in
    let there = is_some-among c.code.result (is_among (texts_of now) text) c.code.ensures.none in
    let grown : take (i + 1) texts ≡ take i texts ++ text ∷ [] =
    take_more texts i text c.loop-text-test.true ∙ ap (λ last. take i texts ++ last ∷ []) (sym c.text-item.is) in
    elim c.if-is_none.branch [
      | then-is_none+in_ok-add w ↦
          let next = w.add.new.self in
          let later = g.A.Analyst.analysed w.add.new.analyst in
          let held_later = g.A.Analyst.held w.add.new.analyst in
          let added =
          FillsAll-added old now before after held_before held_after (take i texts) count c.loop-text.invariant
          next later held_later text (there ∙ w.if-is_none.ensures) w.in_ok-add.ensures.ok in
          let counted : length next.entries - length old.entries ≡ count + 1 =
          omega (arith, length-FillsAll old next before later held_before held_later (take i texts ++ text ∷ []) (count + 1) added) in
          rw (w.self-is, w.analyst-is, grown, counted) added
      | else-is_none w ↦
          rw (w.self-is, w.analyst-is, grown)
          (FillsAll-known old now before after held_before held_after (take i texts) count c.loop-text.invariant text (there ∙ w.if-is_none.ensures))
    ]

pub returns-clause-there : goal.returns-clause-there
returns-clause-there g c =
    let texts = c.args.texts.now in
    let old = c.args.self.now in
    let now = c.loop-text.self in
    let all : take c.loop-text.text-index texts ≡ texts = take_all c.loop-text.text-index texts (omega arith) in
    subst (λ front. All (λ text. is_among (texts_of now) text ≡ true) front) all
    (each_kept old now (g.A.Analyst.analysed c.args.analyst.now) (g.A.Analyst.analysed c.loop-text.analyst)
    (g.A.Analyst.held c.args.analyst.now) (g.A.Analyst.held c.loop-text.analyst) (take c.loop-text.text-index texts)
    (length now.entries - length old.entries) c.loop-text.invariant)

-- what was analysed so far is held
pub returns-clause-holds : goal.returns-clause-holds
returns-clause-holds g c =
    let old = c.args.self.now in
    let now = c.loop-text.self in
    HoldsKept-filled old now (g.A.Analyst.analysed c.args.analyst.now) (g.A.Analyst.analysed c.loop-text.analyst) (g.A.Analyst.held c.args.analyst.now)
    (g.A.Analyst.held c.loop-text.analyst) (take c.loop-text.text-index c.args.texts.now) (length now.entries - length old.entries) c.loop-text.invariant

pub returns-in_err-add-clause-nearly : goal.returns-in_err-add-clause-nearly
returns-in_err-add-clause-nearly g c =
    let old = c.args.self.now in
    let now = c.loop-text.self in
    at_err c.from_residual.result (λ holds.
    HoldsNearlyKept-lacks now c.add.new.self _ _ _ _ c.text-item.result c.in_err-add.ensures.err
    (HoldsKept-filled old now _ _ _ _ (take c.loop-text.text-index c.args.texts.now) (length now.entries - length old.entries) c.loop-text.invariant holds))
