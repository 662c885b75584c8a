-- Document 02, order 11: a loan handed back leaves no trace.
use Rattle.std.specs.Prelude.{ℕ, ◌≡◌, Bool, true, false, not, ◌||◌, List}
use Rattle.definitions.specs.Tests.{◌=?◌, all}
use Rattle.definitions.specs.Regions.{regions}
use Rattle.definitions.specs.Reckoning.{compartment_of}
use Rattle.definitions.specs.Questions.{accepted}
use Rattle.definitions.specs.Calls.{State, compartment, allowance, stream_of, answer, next}
use Rattle.definitions.specs.Bundles.{Step, single, bundle}
use Rattle.definitions.specs.declared.addr.HostAddr.{HostAddr}
use Rattle.definitions.specs.declared.call.Call.TheVariants.{Add, Remove, Refcount, Overlaps, Map, Unmap, UnmapGpa, Permissions, Remap, Mappings, Allow}

-- the compartment that a call or a bundle is for
unfoldable pub step_of : Step → ℕ
step_of (single c) = compartment_of c
step_of (bundle k ns) = k

-- does it only read?
unfoldable pub reads : Step → Bool
reads (single (Refcount k a e)) = true
reads (single (Overlaps k g n)) = true
reads (single (Permissions k i n)) = true
reads (single (Remap k i n)) = true
reads (single (Mappings k)) = true
reads (single (Add k a e r)) = false
reads (single (Remove k a e r)) = false
reads (single (Map k h g n t)) = false
reads (single (Unmap k h n)) = false
reads (single (UnmapGpa k g n)) = false
reads (single (Allow k n)) = false
reads (bundle k ns) = false

-- "no call for that compartment in between": no bundle either, nor its S. Beyond the order, it may be read meanwhile: whoever looks
-- at what is lent leaves no trace
abbrev pub undisturbed : ℕ → List Step → Bool
undisturbed k steps = all (λ x. not (step_of x =? k) || reads x) steps

-- "a remove of the same range and rights .. is accepted, brings back the compartment's records exactly, and so its stream": it
-- leaves the compartment, values and segments, and its allowance as they were before the add
pub record LeavesNoTrace (k : ℕ) (a e : HostAddr) (r : ℕ) (before lending : State) : Type 0 where
  pub taken : accepted (answer lending (Remove k a e r)) ≡ true
  pub left : compartment (next lending (Remove k a e r)) k ≡ compartment before k
  pub records : regions (compartment (next lending (Remove k a e r)) k).values ≡ regions (compartment before k).values
  pub segments : (compartment (next lending (Remove k a e r)) k).segments ≡ (compartment before k).segments
  pub stream : stream_of (compartment (next lending (Remove k a e r)) k) ≡ stream_of (compartment before k)
  pub allowing : allowance (next lending (Remove k a e r)) k ≡ allowance before k
