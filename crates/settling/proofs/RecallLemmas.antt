-- What is remembered: a state that is back, what tells that a state is another one, and what is remembered next.
use Rattle.std.proofs.Common.{◌≡◌, ◌≢◌, ℕ, ◌-◌, ◌<◌, inl, inr, Some, None, List, length, ap, arith}
use Rattle.std.proofs.lemmas.List.{ext_get_or}
use Rattle.ternary.specs.declared.tern.Tern.{Tern}
use Rattle.ternary.specs.declared.tern.Tern.TheVariants.{Zero}
use Rattle.switch_paths.specs.Switching.{state_at}
use Rattle.settling.specs.Recurring.{IsBack, RecallData, RemembersOne}

-- a state that was there before is back
pub is_back : (recall : RecallData) (now : List Tern) (since count : ℕ) → recall.since ≡ Some since → since < count → now ≡ recall.state →
    IsBack recall now count (count - since)
is_back recall now since count was before same = record { since = since; was = was; some = omega arith; later = omega arith; same = same }

-- states of other numbers of nodes aren't one
pub lengths_differ : (one other : List Tern) → length one ≢ length other → one ≢ other
lengths_differ one other differ same = differ (ap length same)

-- nor are states that differ at a node
pub states_differ : (one other : List Tern) (node : ℕ) → state_at one node ≢ state_at other node → one ≢ other
states_differ one other node differ same = differ (ap (λ (state : List Tern). state_at state node) same)

-- and states of as many nodes are one that differ at none
pub none_differs : (one other : List Tern) → length one ≡ length other → ((node : ℕ) → node < length one → state_at one node ≡ state_at other node) →
    one ≡ other
none_differs one other count each = ext_get_or Zero one other count each

-- the present state is remembered, or none
pub now_is_remembered : (old new : RecallData) (now : List Tern) (count : ℕ) → new.since ≡ Some count → new.state ≡ now → RemembersOne old new now count
now_is_remembered old new now count here same = inr (inr (here, same))

pub none_is_remembered : (old new : RecallData) (now : List Tern) (count : ℕ) → new.since ≡ None → RemembersOne old new now count
none_is_remembered old new now count none = inr (inl none)
