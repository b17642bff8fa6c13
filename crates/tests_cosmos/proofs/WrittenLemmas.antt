-- If a listing is asked for and memory suffices, the text of a faithful listing is written.
use Rattle.std.proofs.Common.{◌≡◌, ◌≢◌, ℕ, List, [], length, None, Some, Option, Result, Ok, Err, IfOk, MatchOption, inl, inr, refl, sym, ap, ◌∙◌}
use Rattle.std.proofs.lemmas.List.{length-map}
use Rattle.std.specs.Prelude.{nat_lt}
use Rattle.std.specs.Io.KnownBytes.{append_known}
use Rattle.ternary.specs.declared.tern.Tern.{Tern}
use Rattle.strength_order.specs.declared.TheConstants.{INPUT_LEVEL}
use Rattle.switch_paths.specs.Graphs.{nodes}
use Rattle.switch_paths.specs.Rails.{IsSound}
use Rattle.switch_paths.specs.Step.{IsStep}
use Rattle.netlist.specs.Circuits.{CircuitData}
use Rattle.group_text.specs.Texts.{GroupTextData}
use Rattle.circuit_texts.specs.Sizes.{fault_in, AllFit, TellsTooLarge}
use Rattle.linear_code.specs.Listing.{ListingData, Entry, IsListing, IsListingStep}
use Rattle.linear_code.specs.ListingText.{listing_text}
use Rattle.circuit_listing.specs.Faithful.{IsFaithful}
use Rattle.run_ends.specs.declared.status.Status.{Status}
use Rattle.run_ends.specs.declared.status.Status.TheVariants as status
use Rattle.run_ends.specs.Answers.{IsAnalysed, IsWritten}
use Rattle.cosmos_app.specs.Answers.{IsAnswer, IsAnswered}
use Rattle.circuit_reports.specs.Answers.{IsCompiled}
use Rattle.tests_cosmos.specs.Written.{AskForListing}

-- the text of a faithful listing of the circuit was written
pub record WritesListing (circuit : CircuitData) (old new : Option (List ℕ)) : Type 0 where
  pub listing : ListingData
  pub is : IsListing listing
  pub faithful : IsFaithful circuit listing
  pub told : new ≡ append_known old (listing_text listing)

-- a circuit without a group that is too large has no first such group
none_too_large : (circuit : CircuitData) → AllFit circuit.graph → (fault : _) → TellsTooLarge circuit.graph fault → ⊥
none_too_large circuit fit fault tells =
    let fits : fault_in tells.first.group ≡ None = fit tells.groups tells.are tells.first.k tells.first.group tells.first.stands in
    let large = tells.first.too_large in
    cc

module _ (words : List (List ℕ)) (holds : List ℕ → List ℕ) (circuit : CircuitData) (asks : AskForListing words holds circuit)
    (old new : Option (List ℕ)) (before after : List GroupTextData) where
  -- a right answer that was written whole is such a text
  from_written : (ended : Status) → IsWritten (IsAnalysed (IsAnswer words holds) before after) old new ended → WritesListing circuit old new
  from_written ended written =
      let over = rw asks.asked at written.right.0 in
      let compiled : IsCompiled circuit written.answer = rw asks.accepted at over in
      elim compiled [
        | inl listed ↦ record {
          listing = listed.listing;
          is = listed.is;
          faithful = listed.faithful;
          told = written.grew ∙ ap (λ answer. append_known old answer.text) listed.told;
        }
        | inr large ↦ absurd (none_too_large circuit asks.fit large.fault large.first)
      ]

  -- so it is unless a port failed or memory was lacking
  pub writes_listing : (ended : Status) → ended ≢ status.ReadFault → ended ≢ status.WriteFault → ended ≢ status.NoMemory →
      IsAnswered words holds old new before after ended → WritesListing circuit old new
  writes_listing status.Done _ _ _ answered = from_written status.Done answered
  writes_listing status.Mismatch _ _ _ answered = from_written status.Mismatch answered
  writes_listing status.Usage _ _ _ answered = from_written status.Usage answered
  writes_listing status.NetRefused _ _ _ answered = from_written status.NetRefused answered
  writes_listing status.ScriptRefused _ _ _ answered = from_written status.ScriptRefused answered
  writes_listing status.ReadFault no_read _ _ answered = absurd (no_read refl)
  writes_listing status.WriteFault _ no_write _ answered = absurd (no_write refl)
  writes_listing status.NoMemory _ _ memory answered = absurd (memory refl)
  writes_listing status.Full _ _ _ answered = from_written status.Full answered

-- a faithful listing has the circuit's nodes
pub nodes_listed : (circuit : CircuitData) (listing : ListingData) → IsFaithful circuit listing → length listing.entries ≡ nodes circuit.graph
nodes_listed circuit listing faithful =
    let kind : Entry → _ = λ entry. entry.is_storage in
    let below : ℕ → _ = λ level. nat_lt level INPUT_LEVEL in
    sym (length-map listing.entries kind) ∙ (ap length faithful.kinds ∙ length-map circuit.graph.levels below)

-- what was written after nothing is the text
pub text_written : (circuit : CircuitData) (text : List ℕ) (writes : WritesListing circuit (Some []) (Some text)) →
    listing_text writes.listing ≡ text
text_written circuit text writes =
    let told : Some text ≡ Some (listing_text writes.listing) = writes.told in
    cc

-- a step of a faithful listing, if one is told, is the circuit's
pub step_told : {V E : Type 0} (items : V → List Tern) (circuit : CircuitData) (listing : ListingData) (state : List Tern) → IsFaithful circuit listing →
    length state ≡ nodes circuit.graph → IsSound state → (told : Result (Option V) E) →
    IfOk told (λ found. MatchOption found ⊥ (λ next. IsListingStep listing state (items next))) →
    IfOk told (λ found. MatchOption found ⊥ (λ next. IsStep circuit.graph state (items next)))
step_told items circuit listing state faithful counted sound (Ok (Some next)) step = faithful.steps state (items next) counted sound step
step_told items circuit listing state faithful counted sound (Ok None) none = none
step_told items circuit listing state faithful counted sound (Err fault) free = free
