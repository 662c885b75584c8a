-- The steps of a script: what a line asks for, what a step writes, and how far a piece has come.
use Rattle.std.specs.Prelude.{ℕ, ◌+◌, ◌-◌, ◌<◌, ◌≤◌, min, ◌≡◌, Bool, true, false, List, [], ◌∷◌, ◌++◌, map, length, take, drop, if◌then◌else◌}
use Rattle.std.proofs.lemmas.List.Edits.{sets}
use Rattle.definitions.specs.Tests.{◌≤?◌, each}
use Rattle.definitions.specs.Reckoning.{Compartment, compartment_of}
use Rattle.definitions.specs.Regions.{regions}
use Rattle.definitions.specs.Calls.{State, stream_of, answer, next, after}
use Rattle.definitions.specs.Script.{call, answer_line, mapping_line, printed, output_from, left_from, whole_lines}
use Rattle.definitions.specs.declared.answer.Refusal.TheVariants.{NoCompartment}
use Rattle.definitions.specs.declared.answer.Refusal.TheVariants as refusal
use Rattle.std.specs.Prelude.{Ok, Err, Option, Some, None}
use Rattle.definitions.specs.declared.call.Call.{Call}
use Rattle.definitions.specs.declared.call.Call.TheVariants.{Add, Remove, Refcount, Overlaps, Map, Unmap, UnmapGpa, Permissions, Remap, Mappings}
use Rattle.definitions.specs.declared.call.Call.TheVariants as spoken
use Rattle.lines.specs.Lines.{lines_with}
use Rattle.capability_engine.specs.declared.region.RegionTracker.{RegionTracker}
use Rattle.capability_engine.specs.declared.remapper.Remapper.{Remapper}
use Rattle.capability_engine.specs.declared.script.Progress.{Progress}
use Rattle.capability_engine.specs.declared.script.Task.{Task}
use Rattle.capability_engine.specs.declared.script.Task.TheVariants.{Tell, Regions, Segments, Print, Nothing, Allow}
use Rattle.capability_engine.specs.PoolChain.{stored_at}
use Rattle.capability_engine.specs.RemapHeld.{Holds}
use Rattle.capability_engine.specs.RemapListing.{Copied}
use Rattle.capability_engine.specs.StreamCursor.{Whole, Table}
use Rattle.capability_engine.specs.declared.compartments.Tables.{Tables}
use Rattle.capability_engine.specs.CompartmentGrown.{Grown}
use Rattle.capability_engine.specs.CompartmentSteps.{on_regions, on_segments, OnOne}
use Rattle.capability_engine.specs.ScriptFeed.{owed}

-- ---- what a line asks for

-- a call on a compartment that there is
abbrev pub task_in : Call → Task
task_in (Map k h g n t) = Segments k (Map k h g n t)
task_in (Unmap k h n) = Segments k (Unmap k h n)
task_in (UnmapGpa k g n) = Segments k (UnmapGpa k g n)
task_in (Mappings k) = Print k
task_in (Add k a e r) = Regions k (Add k a e r)
task_in (Remove k a e r) = Regions k (Remove k a e r)
task_in (Refcount k a e) = Regions k (Refcount k a e)
task_in (Overlaps k g n) = Regions k (Overlaps k g n)
task_in (Permissions k i n) = Regions k (Permissions k i n)
task_in (Remap k i n) = Regions k (Remap k i n)
task_in (spoken.Allow k n) = Allow k n

abbrev pub task_for : Call → Task
task_for c = if 8 ≤? compartment_of c then Tell (Err NoCompartment) else task_in c

abbrev pub task_of : Option Call → Task
task_of (Some c) = task_for c
task_of None = Tell (Err refusal.Malformed)

-- what it prints, and what it leaves
unfoldable pub task_prints : State → Task → List (List ℕ)
task_prints s (Tell a) = answer_line a ∷ []
task_prints s (Regions i c) = answer_line (answer s c) ∷ []
task_prints s (Segments i c) = answer_line (answer s c) ∷ []
task_prints s (Print i) = printed s (call (Mappings i))
task_prints s Nothing = []
task_prints s (Allow i n) = answer_line (answer s (spoken.Allow i n)) ∷ []

unfoldable pub task_leaves : State → Task → State
task_leaves s (Tell a) = s
task_leaves s (Regions i c) = next s c
task_leaves s (Segments i c) = next s c
task_leaves s (Print i) = s
task_leaves s Nothing = s
task_leaves s (Allow i n) = next s (spoken.Allow i n)

-- the call is one of its kind, on a compartment that there is
abbrev pub Sound : Task → Type 0
Sound (Tell a) = Unit {0}
Sound (Regions i c) = OnOne i c (on_regions c)
Sound (Segments i c) = OnOne i c (on_segments c)
Sound (Print i) = i < 8
Sound Nothing = Unit {0}
Sound (Allow i n) = i < 8

-- as many bytes are held, and the piece is taken so far
abbrev pub moved : Progress → ℕ → ℕ → Progress
moved p len used = record {
  len = len;
  compartment = p.compartment;
  from = p.from;
  used = used;
  at = p.at;
  lines = p.lines;
  full = p.full;
}

-- bytes are taken: what the script prints with any others behind them is what the task does, and then the rest
pub record Hears (line line' : List ℕ) (p : Progress) (input : List ℕ) (r : Progress) (task : Task) : Type 0 where
  pub size : length line' ≡ 88
  pub same : r ≡ moved p r.len r.used
  pub short : r.len ≤ 88
  pub ahead : p.used < r.used
  pub taken : r.used ≤ length input
  pub sound : Sound task
  pub prints : (s : State) (more : List ℕ) → output_from s (lines_with (take p.len line) (drop p.used input ++ more))
      ≡ task_prints s task ++ output_from (task_leaves s task) (lines_with (take r.len line') (drop r.used input ++ more))
  pub leaves : (s : State) (more : List ℕ) → left_from s (lines_with (take p.len line) (drop p.used input ++ more))
      ≡ left_from (task_leaves s task) (lines_with (take r.len line') (drop r.used input ++ more))

-- ---- what is written

abbrev pub bytes_of : List (List ℕ) → List ℕ
bytes_of ls = each (λ l. l) ls

-- these lines are written where the output ended. There are never more lines than bytes.
pub record Adds (ls : List (List ℕ)) (out out' : List ℕ) (p r : Progress) : Type 0 where
  pub text : out' ≡ sets out p.at (bytes_of ls)
  pub end : r.at ≡ p.at + length (bytes_of ls)
  pub many : r.lines ≡ p.lines + length ls
  pub counted : r.lines ≤ r.at
  pub fits : p.at ≤ length out → r.at ≤ length out

-- one line of so many bytes is written
abbrev pub told : Progress → ℕ → Progress
told p n = record {
  len = p.len;
  compartment = p.compartment;
  from = p.from;
  used = p.used;
  at = p.at + n;
  lines = p.lines + 1;
  full = p.full;
}

-- of these lines as many as fit are written
pub record Prints (ls : List (List ℕ)) (out out' : List ℕ) (p r : Progress) : Type 0 where
  pub written : List (List ℕ)
  pub left : List (List ℕ)
  pub split : ls ≡ written ++ left
  pub adds : Adds written out out' p r
  pub len : r.len ≡ p.len
  pub used : r.used ≡ p.used
  pub whole : r.full ≡ false → (left ≡ []) × (r.compartment ≡ 8)
  pub stuck : r.full ≡ true → (r.compartment ≡ p.compartment) × (r.from ≡ p.from + length written)
      × ((rest : List (List ℕ)) → whole_lines (length out - r.at) (left ++ rest) ≡ [])

-- the lines of a P of a compartment
unfoldable pub lines_on : Compartment → List (List ℕ)
lines_on c = answer_line (Ok (length (stream_of c))) ∷ map mapping_line (stream_of c)

-- a tracker and a remapper hold a compartment
pub record Shows (words next : List ℕ) (t : RegionTracker) (m : Remapper) (c : Compartment) : Type 0 where
  pub whole : Whole next words t.head
  pub stored : stored_at next words t.head ≡ regions c.values
  pub held : Holds m c.segments
  pub table : (before copy : List ℕ) (n : ℕ) → 256 ≤ length before → Copied c.segments before copy n → Table words copy n

abbrev pub IsShown : List ℕ → List ℕ → RegionTracker → Remapper → Type 0
IsShown words next t m = (c : Compartment) × Shows words next t m c

-- ---- a task is done

-- from what these calls left: the lines that it prints are written, or owed, and other calls leave what it leaves
pub record Performs (calls : List Call) (task : Task) (out : List ℕ) (p : Progress)
    (words' next' links' gens' : List ℕ) (t' : Tables) (out' : List ℕ) (r : Progress) : Type 0 where
  pub later : List Call
  pub grown : Grown words' next' links' gens' t' later
  pub lines : List (List ℕ)
  pub adds : Adds lines out out' p r
  pub prints : task_prints (after calls) task ≡ lines ++ owed (after later) r.compartment r.from
  pub left : after later ≡ task_leaves (after calls) task
  pub len : r.len ≡ p.len
  pub used : r.used ≡ p.used
  pub full : r.full ≡ p.full
  pub nobody : r.compartment ≤ 8

-- ---- a piece

-- where a piece begins: no more of the line is held than there is, and 8 is nobody
abbrev pub started : Progress → ℕ → Progress
started p at = record {
  len = min 88 p.len;
  compartment = min 8 p.compartment;
  from = p.from;
  used = 0;
  at = at;
  lines = 0;
  full = false;
}

-- there is something to do, and room that was not tried; or not
pub record Goes (p : Progress) (len : ℕ) (r : Bool) : Type 0 where
  pub on : r ≡ true → (p.full ≡ false) × (8 ≤ p.compartment → p.used < len)
  pub off : r ≡ false → p.full ≡ false → (8 ≤ p.compartment) × (len ≤ p.used)
