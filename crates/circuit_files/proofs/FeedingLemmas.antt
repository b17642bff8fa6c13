-- Reading a netlist into its reader: what was fed so far, piece by piece, and what the reader stands for at the end.
use Rattle.std.proofs.Common.{◌≡◌, ◌≢◌, ◌+◌, ◌-◌, ◌<◌, ◌≤◌, ℕ, List, [], ◌∷◌, ◌++◌, length, take, Option, None, Some, IfSome, Result, Ok, Err, IfOk, IfErr, OnOk, refl, sym, ap, subst, ◌∙◌, arith, append_assoc, append-nil, length-append, inl, inr}
use Rattle.std.proofs.lemmas.Bool.{cases_lt}
use Rattle.std.proofs.lemmas.List.{take_all, take-append-le}
use Rattle.std.specs.Io.KnownBytes.{prepend_known, IsAtEnd}
use Rattle.line_words.specs.Files.{front_of}
use Rattle.line_words.specs.declared.files.TheConstants.{MOST_FILE_BYTES}
use Rattle.ports.specs.Ports.{Opens, with_name}
use Rattle.ports.specs.Reading.{TakesFront}
use Rattle.ports.specs.Taken.{AreAtMost, Taken, TakesAtMost, TakesFiles, with_files, with_more}
use Rattle.ports.proofs.TakenLemmas.{takes_more, with_files-read, with_more-twice}
use Rattle.sim_read.specs.Standing.{GoesOn, ReaderData, StandsFor}
use Rattle.sim_read.proofs.StandingLemmas.{goes_on-both, goes_on-none}
use Rattle.netlist.specs.Circuits.{CircuitData, IsCircuit}
use Rattle.sim_read.specs.declared.fault.NetRefusal.{NetRefusal}
use Rattle.sim_read.specs.Meaning.{netlist_of}
use Rattle.run_ends.specs.declared.stop.Stop.{Stop}
use Rattle.run_ends.specs.declared.stop.Stop.TheVariants.{Memory, Write}
use Rattle.circuit_files.specs.Feeding.{FeedsFile, FeedsFront, FeedsPiece}
use Rattle.circuit_files.specs.Starts.{Started, StartsFile}
use Rattle.run_ends.specs.Stops.{faults_read, read_at}
use Rattle.circuit_files.proofs.LowerLemmas.{netlist_of-netlist}

-- what was fed so far
pub record Fed (old now : Option (List ℕ)) (before after : Taken) (start reader : ReaderData) (count : ℕ) : Type 0 where
  pub bytes : List ℕ
  pub taken : old ≡ prepend_known bytes now
  pub size : length bytes ≡ count
  pub counted : after ≡ with_more before count
  pub goes_on : GoesOn start reader bytes

prepend_known-nil : (known : Option (List ℕ)) → known ≡ prepend_known [] known
prepend_known-nil None = refl
prepend_known-nil (Some bytes) = refl

prepend_known-both : (first second : List ℕ) (known : Option (List ℕ)) → prepend_known first (prepend_known second known) ≡ prepend_known (first ++ second) known
prepend_known-both first second None = refl
prepend_known-both first second (Some bytes) = ap Some (sym (append_assoc first second bytes))

with_more-none : (taken : Taken) → taken ≡ with_more taken 0
with_more-none None = refl
with_more-none (Some []) = refl
with_more-none (Some (count ∷ counts)) = ap (λ n. Some (n ∷ counts)) (let e : count ≡ count + 0 = omega arith in e)

pub fed-none : (rest : Option (List ℕ)) (taken : Taken) (reader : ReaderData) → Fed rest rest taken taken reader reader 0
fed-none rest taken reader = record {
  bytes = [];
  taken = prepend_known-nil rest;
  size = refl;
  counted = with_more-none taken;
  goes_on = goes_on-none reader;
}

pub fed-more : (old now new : Option (List ℕ)) (before mid after : Taken) (start reader next : ReaderData) (count more sum : ℕ)
    → Fed old now before mid start reader count → FeedsPiece now new reader next more → after ≡ with_more mid more → sum ≡ count + more
    → Fed old new before after start next sum
fed-more old now new before mid after start reader next count more sum fed feeds step is = record {
  bytes = fed.bytes ++ feeds.piece;
  taken = fed.taken ∙ ap (prepend_known fed.bytes) feeds.taken ∙ prepend_known-both fed.bytes feeds.piece new;
  size = let a = fed.size in let b = feeds.size in omega (arith, length-append fed.bytes feeds.piece);
  counted = step ∙ ap (λ taken. with_more taken more) fed.counted ∙ with_more-twice before count more ∙ ap (with_more before) (sym is);
  goes_on = goes_on-both start reader next fed.bytes feeds.piece fed.goes_on feeds.goes_on;
}

-- as much was fed as there may be, or all that there was
pub fed-front : (old now : Option (List ℕ)) (before after : Taken) (start reader : ReaderData) (count most : ℕ) → Fed old now before after start reader count
    → count ≤ most → (count < most → IsAtEnd now) → FeedsFront old now before after most start reader
fed-front old now before after start reader count most fed bound whole = record {
  bytes = fed.bytes;
  front = record {
    taken = fed.taken;
    bound = let size = fed.size in omega arith;
    whole = λ fewer. whole (let size = fed.size in omega arith);
  };
  counted = fed.counted ∙ ap (with_more before) (sym fed.size);
  goes_on = fed.goes_on;
}

-- no more was taken than there may be
pub fed-taken : (old now : Option (List ℕ)) (before after : Taken) (start reader : ReaderData) (count most : ℕ) → Fed old now before after start reader count
    → count ≤ most → TakesAtMost before after most
fed-taken old now before after start reader count most fed bound = (count, bound, fed.counted)

-- nor where a further piece fails
pub fed-stopped : (old now : Option (List ℕ)) (before mid after : Taken) (start reader : ReaderData) (count left most : ℕ) → Fed old now before mid start reader count
    → count + left ≡ most → TakesAtMost mid after left → TakesAtMost before after most
fed-stopped old now before mid after start reader count left most fed sum step =
    let room : left ≡ most - count = omega arith in
    takes_more before mid after count most (omega arith) fed.counted (subst (TakesAtMost mid after) room step)

-- the front of a started file
front_taken : (text bytes : List ℕ) (most : ℕ) (now : Option (List ℕ)) → TakesFront (Some text) now most bytes → bytes ≡ take most text
front_taken text bytes most None takes = absurd (let e : Some text ≡ None = takes.taken in cc)
front_taken text bytes most (Some left) takes =
    let parts : text ≡ bytes ++ left = let e : Some text ≡ Some (bytes ++ left) = takes.taken in cc in
    let bound = takes.bound in
    elim (cases_lt (length bytes) most) [
      | inl fewer ↦
          let none : left ≡ [] = takes.whole fewer in
          sym (take_all most bytes (omega arith)) ∙ ap (take most) (sym (append-nil bytes) ∙ ap (λ more. bytes ++ more) (sym none) ∙ sym parts)
      | inr full ↦
          sym (take_all most bytes bound) ∙ sym (take-append-le most bytes left full) ∙ ap (take most) (sym parts)
    ]

pub feeds_file : (told : Option (List ℕ → List ℕ)) (name : List ℕ) (rest now : Option (List ℕ)) (before opened after : Taken) (start reader : ReaderData)
    → Opens told name rest → opened ≡ with_files before (0 ∷ []) → FeedsFront rest now opened after (MOST_FILE_BYTES + 1) start reader
    → FeedsFile told name before after start reader
feeds_file told name rest now before opened after start reader opens is feeds = record {
  bytes = feeds.bytes;
  front = by told opens;
  counted = with_files-read before opened after (length feeds.bytes) is feeds.counted;
  goes_on = feeds.goes_on;
} where
  by : (told : Option (List ℕ → List ℕ)) → Opens told name rest → IfSome told (λ holds. feeds.bytes ≡ front_of (holds name))
  by None opens = tt
  by (Some holds) opens =
      front_taken (holds name) feeds.bytes (MOST_FILE_BYTES + 1) now
      (subst (λ left. TakesFront left now (MOST_FILE_BYTES + 1) feeds.bytes) opens feeds.front)

-- ---- the netlist that was fed

-- what was fed to a reader of the empty text is what it stands for
pub fed_stands : (start reader : ReaderData) (bytes : List ℕ) → StandsFor start [] → GoesOn start reader bytes → StandsFor reader bytes
fed_stands start reader bytes stood goes = goes [] stood

-- what follows of an answer
pub at_ok_of : {T E P Q : Type 0} (result : Result T E) → (P → Q) → OnOk result P → OnOk result Q
at_ok_of (Ok value) follows is = follows is
at_ok_of (Err fault) follows is = tt

-- what is so of each answer
pub at_each : {T E : Type 0} {P Q : T → Type 0} (result : Result T E) → ((value : T) → P value → Q value) → IfOk result P → IfOk result Q
at_each (Ok value) each is = each value is
at_each (Err fault) each is = tt

-- a netlist with this meaning is a circuit, or refused
pub meaning-circuit : (text : List ℕ) (meaning : Result CircuitData NetRefusal) → netlist_of text ≡ meaning → IfOk meaning IsCircuit
meaning-circuit text (Ok circuit) is = netlist_of-netlist text circuit is
meaning-circuit text (Err refusal) is = tt

-- ---- ends after a file was read

-- if no file could be started, none was, or none of its bytes were taken
pub takes_none : (old new : Taken) (most : ℕ) → TakesFiles old new 0 → TakesFiles old new most
takes_none old new most (fresh, few, is) = (fresh, at_most-more fresh few, is) where
  at_most-more : (counts : List ℕ) → AreAtMost 0 counts → AreAtMost most counts
  at_most-more [] few = tt
  at_most-more (count ∷ counts) (here, few) = (omega arith, at_most-more counts few)

pub started_whole : {T : Type 0} (old new : Started) (name : List ℕ) (result : Result T Stop) → new ≡ with_name old name → StartsFile old new name result
started_whole old new name (Ok value) started = started
started_whole old new name (Err stop) started = inr started

pub read_whole : {T : Type 0} (old new : ℕ) (result : Result T Stop) → new ≡ old → IfErr result (λ stop. stop ≡ Memory) → new ≡ faults_read old result
read_whole old new (Ok value) same memory = same
read_whole old new (Err stop) same memory = same ∙ ap (read_at old) (sym memory)

pub memory_no_write : {T : Type 0} (result : Result T Stop) → IfErr result (λ stop. stop ≡ Memory) → IfErr result (λ stop. stop ≢ Write)
memory_no_write (Ok value) memory = tt
memory_no_write (Err stop) memory = λ write. absurd (let e : Memory ≡ Write = sym memory ∙ write in cc)
