-- What a pen's sink has, of all that was put.
use Rattle.std.proofs.Common.{◌≡◌, ℕ, List, [], ◌++◌, true, false, Option, None, Some, Result, Ok, Err, OnOk, OnErr, inl, inr, sym, ◌∙◌, ap, append_assoc, append-nil}
use Rattle.std.specs.Prelude.{is_some}
use Rattle.std.specs.Io.KnownBytes.{append_known}
use Rattle.ports.specs.declared.ports.PortFault.{PortFault}
use Rattle.ports.specs.declared.ports.PortFault.TheVariants.{Failed, NoMemory}
use Rattle.ports.specs.Ports.{faults_after, refusals_after, faults_at, refusals_at, RefusedOnce}
use Rattle.ports.specs.Sending.{Sends, WritesPart}
use Rattle.ports.proofs.SendingLemmas.{append_known-append, sends_part, part_longer}
use Rattle.ternary.specs.Counts.{raised}
use Rattle.wave_dump.specs.Pens.{SinkSeen, IsSent, Stands}

-- what is seen of a sink
abbrev pub seen_by : {X : Type 0} → (X → Option (List ℕ)) → (X → ℕ) → (X → ℕ) → X → SinkSeen
seen_by written faults refusals sink = record { written = written sink; faults = faults sink; refusals = refusals sink }

-- one fault more is memory that was lacking at most once
refused_once : (before now next : ℕ) (fault : PortFault) → now ≡ before → next ≡ refusals_at now fault → RefusedOnce {T = Unit {0}} before next (Err fault)
refused_once before now next Failed same is = is ∙ same
refused_once before now next NoMemory same is = inr (is ∙ ap (λ count. raised count 1) same)

module _ (before now : SinkSeen) (text line : List ℕ) where
  -- bytes that are put go behind the line
  pub put_more : (fault : Option PortFault) (bytes : List ℕ) → is_some fault ≡ false → Stands before text now line fault →
      Stands before (text ++ bytes) now (line ++ bytes) fault
  put_more None bytes none (sent, is, sends) = (sent, ap (λ text. text ++ bytes) is ∙ append_assoc sent line bytes, sends)
  put_more (Some fault) bytes none stands = absurd cc

  -- after a fault nothing more is sent
  pub put_kept : (fault : Option PortFault) (bytes : List ℕ) → is_some fault ≡ true → Stands before text now line fault →
      Stands before (text ++ bytes) now line fault
  put_kept None bytes some stands = absurd cc
  put_kept (Some fault) bytes some sends = record {
    ok = tt;
    part = part_longer before.written now.written text bytes sends.part;
    faults = sends.faults;
    refusals = sends.refusals;
  }

  -- memory for the line was refused
  pub put_refused : (fault : Option PortFault) (bytes other : List ℕ) → is_some fault ≡ false → Stands before text now line fault →
      Stands before (text ++ bytes) now other (Some NoMemory)
  put_refused None bytes other none (sent, is, sends) = record {
    ok = tt;
    part = (line ++ bytes, record { sent = sent; whole = ap (λ text. text ++ bytes) is ∙ append_assoc sent line bytes; grew = sends.ok });
    faults = sends.faults;
    refusals = inl sends.refusals;
  }
  put_refused (Some fault) bytes other none stands = absurd cc

  -- the line was sent, or a part of it
  pub line_sent : (fault : Option PortFault) (next : SinkSeen) (result : Result (Unit {0}) PortFault) → is_some fault ≡ false →
      Stands before text now line fault → OnOk result (next.written ≡ append_known now.written line) →
      OnErr result (WritesPart now.written next.written line) → next.faults ≡ faults_after now.faults result →
      next.refusals ≡ refusals_after now.refusals result → IsSent before text next result
  line_sent None next (Ok _) none (sent, is, sends) grew part counted noted = record {
    ok = grew ∙ (ap (λ known. append_known known line) sends.ok
        ∙ (append_known-append before.written sent line ∙ ap (append_known before.written) (sym is)));
    part = tt;
    faults = counted ∙ sends.faults;
    refusals = noted ∙ sends.refusals;
  }
  line_sent None next (Err fault) none (sent, is, sends) grew part counted noted =
      let whole : Sends before.written now.written text (line ++ []) =
      record { sent = sent; whole = is ∙ ap (λ line. sent ++ line) (sym (append-nil line)); grew = sends.ok } in
      record {
        ok = tt;
        part = sends_part before.written now.written next.written text line [] whole part;
        faults = counted ∙ ap (λ count. faults_at count fault) sends.faults;
        refusals = refused_once before.refusals now.refusals next.refusals fault sends.refusals noted;
      }
  line_sent (Some fault) next result none stands grew part counted noted = absurd cc

-- all is sent
pub stands_sent : (before now : SinkSeen) (text line : List ℕ) (fault : Option PortFault) (unit : Unit {0}) → is_some fault ≡ false → line ≡ [] →
    IsSent before text now (Ok unit) → Stands before text now line fault
stands_sent before now text line None unit none empty sends = (
  text,
  sym (append-nil text) ∙ ap (λ line. text ++ line) (sym empty),
  record { ok = sends.ok; part = tt; faults = sends.faults; refusals = sends.refusals },
)
stands_sent before now text line (Some fault) unit none empty sends = absurd cc
