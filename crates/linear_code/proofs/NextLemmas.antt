-- The next states of a listing: the outputs of the storage nodes, one after another.
use Rattle.std.proofs.Common.{◌≡◌, ℕ, ◌+◌, ◌<◌, ◌≤◌, true, false, cond, List, [], ◌∷◌, ◌++◌, length, take, get_or, sym, ◌∙◌, below_more, true≢false, arith}
use Rattle.std.specs.Prelude.{Contains}
use Rattle.std.proofs.lemmas.List.{take-take, length_push, get_or_append_left, get_or_push, get_or_default}
use Rattle.std.proofs.lemmas.List.Elements.{All-push, Contains-get_or}
use Rattle.std.proofs.lemmas.List.Sums.{sum_by-take-le}
use Rattle.straight_code.specs.declared.code.Operand.TheVariants.{Constant}
use Rattle.straight_code.specs.declared.code.Output.{Output}
use Rattle.linear_code.specs.Listing.{Entry, is_storage_at, storage_before}
use Rattle.linear_code.specs.Moved.{output_at, AreNexts}
use Rattle.linear_code.proofs.ListingLemmas.{storage_before-storage, storage_before-input}

-- before a later node there are no fewer storage nodes
storage_before-le : (entries : List Entry) (node later : ℕ) → node ≤ later → storage_before entries node ≤ storage_before entries later
storage_before-le entries node later before =
    rw (take-take node later entries before) at (sum_by-take-le (λ (entry : Entry). cond entry.is_storage 1 0) (take later entries) node)

-- a storage node more: its output is the next in turn
pub AreNexts-storage : (entries : List Entry) (done : ℕ) (outputs nexts : List Output) (past : Output)
    → done < length entries → is_storage_at entries done ≡ true
    → done < length outputs
    → AreNexts entries done outputs nexts
    → AreNexts entries (done + 1) outputs (nexts ++ get_or outputs done past ∷ [])
AreNexts-storage entries done outputs nexts past inside storage room so_far = record {
  count = omega (arith, length_push nexts output, storage_before-storage entries done inside storage, so_far.count);
  each = below_more _ _ earlier (λ kind. get_or_push nexts output never (storage_before entries done) so_far.count ∙ get_or_default outputs done past never room);
  known = All-push (Contains outputs) nexts output so_far.known (Contains-get_or outputs done past room);
}
  where
    output : Output
    output = get_or outputs done past

    never : Output
    never = record { hi = Constant false; lo = Constant false }

    earlier : (node : ℕ) → node < done → is_storage_at entries node ≡ true
        → output_at (nexts ++ output ∷ []) (storage_before entries node) ≡ output_at outputs node
    earlier node before kind =
        let next = storage_before-storage entries node (omega arith) kind in
        let upto = storage_before-le entries (node + 1) done (omega arith) in
        let stands : storage_before entries node < length nexts = omega (arith, next, upto, so_far.count) in
        get_or_append_left nexts (output ∷ []) never (storage_before entries node) stands ∙ so_far.each node before kind

-- an input node more: it has no next state
pub AreNexts-input : (entries : List Entry) (done : ℕ) (outputs nexts : List Output)
    → done < length entries → is_storage_at entries done ≡ false
    → AreNexts entries done outputs nexts
    → AreNexts entries (done + 1) outputs nexts
AreNexts-input entries done outputs nexts inside input so_far = record {
  count = omega (arith, storage_before-input entries done inside input, so_far.count);
  each = below_more _ _ so_far.each (λ kind. absurd (true≢false (sym kind ∙ input)));
  known = so_far.known;
}
