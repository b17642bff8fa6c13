-- What was passed through and seen so far: one state more, the end, and a look that fails.
use Rattle.std.proofs.Common.{◌≡◌, ◌≢◌, ℕ, suc, ◌+◌, ◌-◌, ◌<◌, ◌≤◌, List, [], ◌∷◌, ◌++◌, length, refl, sym, ◌∙◌, ap, arith, subst}
use Rattle.std.proofs.lemmas.List.{length-append, append-nil}
use Rattle.ternary.specs.declared.tern.Tern.{Tern}
use Rattle.switch_paths.specs.Graphs.{GraphData, nodes}
use Rattle.switch_paths.specs.Step.{IsStep}
use Rattle.settling.specs.Passing.{last_state, SteppingThrough, JoiningThrough, see_all}
use Rattle.settling.specs.Observing.{PassesSeen, PassesStopped}
use Rattle.settling.proofs.PassingLemmas.{last_state-append, see_all-append}

-- one state behind others, and what follows it
behind : (front : List (List Tern)) (next : List Tern) (more : List (List Tern)) → front ++ next ∷ more ≡ (front ++ next ∷ []) ++ more
behind [] next more = refl
behind (state ∷ front) next more = ap (λ states. state ∷ states) (behind front next more)

-- states were passed through and seen, so many as were counted, and what follows the last of them belongs to them
pub record SoFar {S : Type 0} (Passes Follows : List (List Tern) → Type 0) (see : S → List Tern → S) (old : List Tern) (count : ℕ)
    (now : List Tern) (before after : S) : Type 0 where
  pub passed : List (List Tern)
  pub follow : (more : List (List Tern)) → Follows more → Passes (passed ++ more)
  pub last : now ≡ last_state old passed
  pub count_is : count ≡ length passed
  pub seen : after ≡ see_all see before passed

abbrev pub SteppedSoFar : {S : Type 0} → (S → List Tern → S) → GraphData → ℕ → ℕ → List Tern → ℕ → List Tern → S → S → Type 0
SteppedSoFar see g limit left old count now before after =
    SoFar (SteppingThrough g limit old) (SteppingThrough g left now) see old count now before after

abbrev pub JoinedSoFar : {S : Type 0} → (S → List Tern → S) → GraphData → List Tern → ℕ → List Tern → S → S → Type 0
JoinedSoFar see g old count now before after = SoFar (JoiningThrough g old) (JoiningThrough g now) see old count now before after

module _ {S : Type 0} {Passes Follows : List (List Tern) → Type 0} {see : S → List Tern → S} {old now : List Tern} {done : ℕ} {before mid : S} where
  -- one state more
  pub one_more : {Next : List (List Tern) → Type 0} {after : S} (next : List Tern) → SoFar Passes Follows see old done now before mid →
      after ≡ see mid next → ((more : List (List Tern)) → Next more → Follows (next ∷ more)) → SoFar Passes Next see old (done + 1) next before after
  one_more next so_far is goes = record {
    passed = so_far.passed ++ next ∷ [];
    follow = λ more rest. rw (← behind so_far.passed next more) (so_far.follow (next ∷ more) (goes more rest));
    last = sym (last_state-append old so_far.passed (next ∷ []));
    count_is = omega (arith, so_far.count_is, length-append so_far.passed (next ∷ []));
    seen = is ∙ (ap (λ state. see state next) so_far.seen ∙ sym (see_all-append see before so_far.passed (next ∷ [])));
  }

  -- nothing follows
  pub ends_here : {count : ℕ} {new : List Tern} → SoFar Passes Follows see old done now before mid → new ≡ now → count ≡ done → Follows [] →
      PassesSeen Passes see old count new before mid
  ends_here so_far same is ends = record {
    passed = so_far.passed;
    passes = subst Passes (append-nil so_far.passed) (so_far.follow [] ends);
    last = same ∙ so_far.last;
    count_is = is ∙ so_far.count_is;
    seen = so_far.seen;
  }

-- a look at the next state fails
pub look_fails : {O S F : Type 0} (see : S → List Tern → S) (seen : O → S) (fixed : O → F) (Part : O → List Tern → Type 0) (g : GraphData) (before mid : O)
    (Next : ℕ → List (List Tern) → Type 0) (left : ℕ) (next : List Tern) {Passes Follows : List (List Tern) → Type 0} {old now : List Tern} {done : ℕ} →
    SoFar Passes Follows see old done now (seen before) (seen mid) → length next ≡ nodes g → fixed mid ≡ fixed before → Part mid next →
    ((more : List (List Tern)) → Next left more → Follows (next ∷ more)) → PassesStopped Passes Next see seen fixed Part g next before
look_fails see seen fixed Part g before mid Next left next so_far count kept part goes = record {
  front = so_far.passed;
  left = left;
  follow = λ more rest. so_far.follow (next ∷ more) (goes more rest);
  count = count;
  mid = mid;
  seen_is = so_far.seen;
  fixed_is = kept;
  part = part;
}

module _ (g : GraphData) (limit done : ℕ) (now next : List Tern) where
  -- what follows a step that changes something follows what was before it
  pub goes_on : done < limit → IsStep g now next → next ≢ now → (more : List (List Tern)) →
      SteppingThrough g (limit - (done + 1)) next more → SteppingThrough g (limit - done) now (next ∷ more)
  goes_on left step changed more steps =
      let one : limit - done ≡ suc (limit - (done + 1)) = omega arith in
      rw one (step, changed, steps)

  -- the step that changes nothing
  pub rests : done < limit → IsStep g now next → next ≡ now → SteppingThrough g (limit - done) now []
  rests left step same =
      let one : limit - done ≡ suc (limit - (done + 1)) = omega arith in
      rw one (rw same at step)

-- the limit
pub at_limit : (g : GraphData) (limit done : ℕ) (now : List Tern) → limit ≤ done → SteppingThrough g (limit - done) now []
at_limit g limit done now reached =
    let none : limit - done ≡ 0 = omega arith in
    rw none refl
