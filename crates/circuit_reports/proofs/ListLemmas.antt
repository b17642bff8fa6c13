-- What was told of a circuit's listing, or of a group that is too large, is told of the answer to `compile`.
use Rattle.std.proofs.Common.{◌≡◌, ℕ, ◌⊎◌, inl, inr, List, ◌++◌, Option, Result, Ok, Err, refl, sym, ap, subst, ◌∙◌}
use Rattle.std.specs.Io.KnownBytes.{append_known}
use Rattle.ports.specs.Sending.{WritesPart}
use Rattle.netlist.specs.Circuits.{CircuitData}
use Rattle.printed_lines.specs.declared.faults.FaultPlace.TheVariants.{NetWhole}
use Rattle.group_meaning.specs.Groups.{Group, AreGroups}
use Rattle.group_text.specs.Texts.{GroupTextData}
use Rattle.linear_code.specs.Listing.{ListingData, IsListing}
use Rattle.linear_code.specs.ListingText.{listing_text}
use Rattle.circuit_texts.specs.declared.texts.BuildFault.{BuildFault}
use Rattle.circuit_texts.specs.declared.texts.BuildFault.TheVariants.{NoMemory}
use Rattle.circuit_listing.specs.Faithful.{IsFaithful}
use Rattle.circuit_texts.specs.Sizes.{AllFit, TellsTooLarge}
use Rattle.run_ends.specs.declared.stop.Stop.{Stop}
use Rattle.run_ends.specs.declared.stop.Stop.TheVariants.{Memory}
use Rattle.run_ends.specs.declared.status.Status.TheVariants as status
use Rattle.run_ends.specs.declared.stop.End as end
use Rattle.run_ends.specs.Answers.{Answer, IsTooLarge}
use Rattle.circuit_reports.specs.Answers.{distinct_texts, IsCompiled}
use Rattle.run_ends.specs.Ends.{IsTold, IsToldBy}
use Rattle.circuit_reports.specs.Sendings.{IsTextOf}
use Rattle.run_ends.proofs.EndLemmas.{told_as, told_by_none}

-- what was told of a listing's text is told of the answer to `compile`
module _ (c : CircuitData) (listing : ListingData) (is : IsListing listing) (faithful : IsFaithful c listing) (fits : AllFit c.graph) (groups : List Group) (are : AreGroups c.graph groups) where
  -- the listing is a right answer
  listed : IsCompiled c (record { status = status.Done; text = listing_text listing; texts = distinct_texts c groups })
  listed = inl (record { listing = listing; is = is; faithful = faithful; fits = fits; groups = groups; are = are; told = refl })

  pub told_listing : (old new : Option (List ℕ)) (before after : List GroupTextData) (result : Result end.End Stop) →
      after ≡ before ++ distinct_texts c groups → IsTold (IsTextOf listing) old new result →
      IsToldBy (IsCompiled c) old new before after result
  told_listing old new before after (Ok end) analysed told = record {
    answer = record { status = status.Done; text = listing_text listing; texts = distinct_texts c groups };
    right = (listed, analysed);
    ended = sym told.right.0 ∙ told.ended;
    grew = told.grew ∙ ap (append_known old) told.right.1;
  }
  told_listing old new before after (Err stop) analysed (inl same) = inl same
  told_listing old new before after (Err stop) analysed (inr begun) = inr (record {
    answer = record { status = status.Done; text = listing_text listing; texts = distinct_texts c groups };
    right = listed;
    part = subst (WritesPart old new) begun.right.1 begun.part;
  })

-- and so is what was told of a group that is too large: nothing was analysed for it
pub told_too_large : (c : CircuitData) (fault : BuildFault) (old new : Option (List ℕ)) (before after : List GroupTextData) (result : Result end.End Stop) →
    (fault ≡ NoMemory) ⊎ (TellsTooLarge c.graph fault × (after ≡ before)) → (fault ≡ NoMemory → result ≡ Err Memory) →
    IsTold (IsTooLarge 0 c NetWhole status.NetRefused) old new result → IsToldBy (IsCompiled c) old new before after result
told_too_large c fault old new before after result (inl want) stops told =
    let stopped : IsTold (IsTooLarge 0 c NetWhole status.NetRefused) old new (Err Memory) =
    subst (IsTold (IsTooLarge 0 c NetWhole status.NetRefused) old new) (stops want) told in
    subst (IsToldBy (IsCompiled c) old new before after) (sym (stops want))
    (told_as (IsTooLarge 0 c NetWhole status.NetRefused) (IsCompiled c) old new (Err Memory) (λ answer right. inr right) stopped)
told_too_large c fault old new before after result (inr first) stops told =
    subst (λ (analysed : List GroupTextData). IsToldBy (IsCompiled c) old new before analysed result) (sym first.1)
    (told_by_none (IsTooLarge 0 c NetWhole status.NetRefused) (IsCompiled c) old new before result
    (λ answer right. (inr right, ap (λ (told : Answer). told.texts) right.told)) told)
