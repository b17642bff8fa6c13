-- The texts of a last build stand in front of what is kept once they were put there, and still if a build was cut off.
use Rattle.std.proofs.Common.{◌≡◌, ℕ, Bool, true, false, not, inl, inr, List, [], ◌++◌, get_or, All, None, refl, sym, ap, subst, ◌∙◌, arith, length-append}
use Rattle.std.specs.Prelude.{◌⊎◌, Result, Err, IsTrue}
use Rattle.std.proofs.lemmas.List.{get_or_append_left}
use Rattle.std.proofs.lemmas.List.Elements.{All-weaker, filter_passes}
use Rattle.switch_paths.specs.Graphs.{GraphData}
use Rattle.group_text.specs.Texts.{GroupTextData}
use Rattle.group_text.specs.FirstTexts.{is_among, first_texts, new_texts}
use Rattle.group_analysis.specs.Using.{used_texts}
use Rattle.analysis_cache.specs.Keeping.{KeptData, texts_of}
use Rattle.analysis_cache.proofs.OrderLemmas.{is_among-used_kept, used-append_new, used_texts-none, used_texts-used}
use Rattle.circuit_texts.specs.declared.texts.BuildFault.{BuildFault}
use Rattle.circuit_texts.specs.declared.texts.BuildFault.TheVariants.{NoMemory}
use Rattle.circuit_texts.specs.Building.{IsCutOff}
use Rattle.circuit_texts.specs.Sizes.{TellsRefused}
use Rattle.column_stage.specs.Columns.{AreAmong}
use Rattle.column_stage.proofs.FrontLemmas.{none_missing}
use Rattle.column_stage.proofs.StandingLemmas.{stands_cut}
use Rattle.machine_stage.proofs.LastLemmas.{still_among}
use Rattle.fault_stage.specs.Stages.{ReadyData, ServesReady, StandInFront}

-- those that are kept do once they were used
pub stands_in_front : (texts kept : List GroupTextData) → AreAmong texts kept → StandInFront texts (used_texts texts kept)
stands_in_front texts kept among = record {
  among = λ k d inside. subst IsTrue (sym (is_among-used_kept texts kept among (get_or texts k d))) (among k d inside);
  front = used_texts-used texts kept;
}

-- and none do always
pub none_in_front : (kept : List GroupTextData) → StandInFront [] kept
none_in_front kept = record { among = none_missing kept; front = used_texts-none kept }

-- a text that isn't kept is not among what is kept
not_among : (b : Bool) → not b ≡ true → b ≡ false
not_among true none = absurd (let both : false ≡ true = none in cc)
not_among false none = refl

-- of some texts those that are new weren't kept
none_kept : (kept texts : List GroupTextData) → All (λ text. is_among kept text ≡ false) (new_texts kept texts)
none_kept kept texts =
    All-weaker (λ text. not (is_among kept text) ≡ true) (λ text. is_among kept text ≡ false) (λ text is. not_among (is_among kept text) is)
    (new_texts kept texts) (filter_passes (λ text. not (is_among kept text)) (first_texts texts))

-- nor were those of a prefix
all_front : {X : Type 0} (P : X → Type 0) (xs ys : List X) → All P (xs ++ ys) → All P xs
all_front P xs ys all i d inside =
    subst P (get_or_append_left xs ys d i inside) (all i d (omega (arith, inside, length-append xs ys)))

-- so where a build was cut off they do still
pub front_cut : (large : ℕ) (g : GraphData) (texts kept later before after : List GroupTextData) → StandInFront texts kept →
    IsCutOff large g kept later before after → StandInFront texts later
front_cut large g texts kept later before after front (inl (same, asked)) = subst (StandInFront texts) (sym same) front
front_cut large g texts kept later before after front (inr some) =
    let new : All (λ text. is_among kept text ≡ false) (some.more ++ (some.further ++ some.rest)) =
    subst (All (λ text. is_among kept text ≡ false)) (sym some.news.fresh_are ∙ some.front) (none_kept kept some.news.texts) in
    subst (StandInFront texts) (sym some.kept) (record {
      among = still_among texts kept some.more (kept ++ some.more) refl front.among;
      front = used-append_new texts kept some.more front.among
          (all_front (λ text. is_among kept text ≡ false) some.more (some.further ++ some.rest) new)
          ∙ ap (λ (list : List GroupTextData). list ++ some.more) front.front;
    })

-- what is built serves still where another build was cut off
pub ready_cut : (large : ℕ) (g : GraphData) (ready : ReadyData) (kept later before after : List GroupTextData) → ServesReady ready g kept →
    IsCutOff large g kept later before after → ServesReady ready g later
ready_cut large g ready kept later before after serves cut = record {
  graph = serves.graph;
  first = stands_cut ready.large large g None kept later before after serves.first (inl cut);
  front = front_cut large g ready.texts kept later before after serves.front cut;
}

-- a build that was refused was cut off before it began
pub cut_or_refused : {X : Type 0} (large : ℕ) (g : GraphData) (kept later : KeptData) (before after : List GroupTextData) (found : Result X BuildFault) (fault : BuildFault) →
    found ≡ Err fault → (fault ≡ NoMemory) ⊎ (TellsRefused large g fault × (later ≡ kept) × (after ≡ before)) →
    (found ≡ Err NoMemory → IsCutOff large g (texts_of kept) (texts_of later) before after) → IsCutOff large g (texts_of kept) (texts_of later) before after
cut_or_refused large g kept later before after found fault is (inl none) cut = let lacks : found ≡ Err NoMemory = cc in cut lacks
cut_or_refused large g kept later before after found fault is (inr (told, same, asked)) cut = inl (ap texts_of same, asked)
