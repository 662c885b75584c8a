-- Demand 3: over every list of calls, each compartment's stream is the whole stream of its reckoning, read at one go or by
-- pages, and agrees with that reckoning at every address.
use Prim.Native.Nat.{ℕ, ◌/◌, ◌^◌, ◌<◌}
use mathlib.Core.Path.{◌≡◌, ap, ◌∙◌, subst}
use mathlib.Core.List.{List, ◌++◌}
use lib.ListN.{length}
use Rattle.definitions.specs.Pages.{page, pages_from, pages_end}
use Rattle.definitions.specs.Reckoning.{Compartment, reckoning}
use Rattle.definitions.specs.Agreement.{AgreesAt}
use Rattle.definitions.specs.Calls.{compartment, stream_of, stream_groups, after, fed}
use Rattle.definitions.specs.declared.addr.HostAddr.{HostAddr}
use Rattle.definitions.specs.declared.call.Call.{Call}
use Rattle.definitions.proofs.PageLaws.{all-pages}
use Rattle.definitions.proofs.StreamLaws.{agrees}
use Rattle.definitions.proofs.Reckoned.{reckoned}
use Rattle.definitions.proofs.Stored.{stored}

-- of a compartment c that is reckoned as r
pub record Demand3 (c r : Compartment) : Type 0 where
  -- the compartment's stream is its reckoning's
  pub whole : stream_of c ≡ stream_of r
  -- which it agrees with at every address
  pub agreed : (x : HostAddr) → x.0 < 2 ^ 64 → AgreesAt x r (stream_of c)
  -- pages into slices of these lengths, the last of which answers fewer groups than fit it, are the whole in order
  pub paged : (rooms : List ℕ) (room : ℕ)
      → length (page 5 (stream_groups c) (pages_end 5 (stream_groups c) 0 rooms) room) < room / 5
      → pages_from 5 (stream_groups c) 0 rooms ++ page 5 (stream_groups c) (pages_end 5 (stream_groups c) 0 rooms) room ≡ stream_groups r

pub demand3 : (calls : List Call) (k : ℕ) → Demand3 (compartment (after calls) k) (reckoning k (fed calls))
unfolding stream_of
demand3 calls k = record {
  whole = ap stream_of same;
  agreed = λ x small.
      subst (λ (c : Compartment). AgreesAt x c (stream_of (compartment (after calls) k))) same
      (agrees x small (compartment (after calls) k) (stored calls k).blank);
  paged = λ rooms room fewer.
      all-pages 5 (stream_groups (compartment (after calls) k)) rooms room fewer ∙ ap stream_groups same;
}
  where
    same : compartment (after calls) k ≡ reckoning k (fed calls)
    same = reckoned calls k
