-- What contracts see of a sink over any outlet and of files over any opener: what the outlet, the opener and the inlet
-- tell of their bytes, the names that were started, and the counts.
use Rattle.std.specs.Prelude.{ℕ, List, [], ◌∷◌, ◌++◌, Option, None, Some, refl}
use Rattle.std.specs.Coded.{Coded, code_by, coded×, coded_list, coded_option, coded_ℕ}
use Rattle.ports.specs.Ports.{faults_at, refusals_at}
use Rattle.ports.specs.declared.ports.PortFault.{PortFault}
use Rattle.ports.specs.declared.ports.PortFault.TheVariants.{Failed, NoMemory}

-- the bytes that the outlet took, where it tells them, how often it failed, and how often memory was refused
pub record SinkOverData : Type 0 where
  pub contents : Option (List ℕ)
  pub faults : ℕ
  pub refusals : ℕ

-- both counts of a sink after a fault
abbrev pub sink_counted : SinkOverData → PortFault → SinkOverData
sink_counted sink fault = record sink { faults = faults_at sink.faults fault; refusals = refusals_at sink.refusals fault }

-- the opener, what is left of the started file, where it tells that, the names that were started, and how often files failed
pub record FilesOverData (O : Type 0) : Type 0 where
  pub opener : O
  pub rest : Option (List ℕ)
  pub started : List (List ℕ)
  pub faults : ℕ

-- files are stored as their four parts
abbrev pub files_over_code : {O : Type 0} → Coded O → Coded (FilesOverData O)
files_over_code {O} code = code_by (O × (Option (List ℕ) × (List (List ℕ) × ℕ)))
    (coded× code (coded× (coded_option (coded_list coded_ℕ)) (coded× (coded_list (coded_list coded_ℕ)) coded_ℕ)))
    (λ files. (files.opener, (files.rest, (files.started, files.faults))))
    (λ parts. record { opener = parts.0; rest = parts.1.0; started = parts.1.1.0; faults = parts.1.1.1 }) (λ _. refl)

-- files after a fault of a read: their count
abbrev pub files_counted : {O : Type 0} → FilesOverData O → PortFault → FilesOverData O
files_counted files fault = record files { faults = faults_at files.faults fault }

-- files after a fault of a start: one that failed is counted, and its name noted
abbrev pub files_unopened : {O : Type 0} → FilesOverData O → List ℕ → PortFault → FilesOverData O
files_unopened files name Failed = record files { started = files.started ++ name ∷ []; faults = faults_at files.faults Failed }
files_unopened files name NoMemory = files

-- what a started file has left, and nothing if none is started
abbrev pub rest_of : {F : Type 0} → (F → Option (List ℕ)) → Option F → Option (List ℕ)
rest_of left None = Some []
rest_of left (Some file) = left file
