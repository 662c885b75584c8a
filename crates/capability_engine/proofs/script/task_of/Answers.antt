use Prim.Native.Nat.{ℕ}
use native.Mathlib.Omega.{arith}
use Rattle.definitions.specs.Reckoning.{compartment_of}
use Rattle.capability_engine.specs.declared.script.Task.TheVariants.{Segments, Print, Regions, Allow}
use Rattle.capability_engine.proofs.ScriptTasks.{task-on, task-segments, task-other}
use Rattle.capability_engine.proofs.script.task_of.Goals as goal

pub returns-in-Map : goal.returns-in-Map
returns-in-Map c = task-on c.args.call _ (omega (arith, c.compartment.ensures, c.in-Ok.ensures.one.0)) (λ (k : ℕ). Segments k c.args.call) c.in-Ok.ensures.one.1 (task-segments _ c.in-Map.is)

pub returns-in-Mappings : goal.returns-in-Mappings
unfolding compartment_of
returns-in-Mappings c = task-on c.args.call _ (omega (arith, c.compartment.ensures, c.in-Ok.ensures.one.0)) Print c.in-Ok.ensures.one.1 (rw c.in-Mappings.is)

pub returns-in-Allow : goal.returns-in-Allow
unfolding compartment_of
returns-in-Allow c = task-on c.args.call _ (omega (arith, c.compartment.ensures, c.in-Ok.ensures.one.0)) (λ (k : ℕ). Allow k c.in-Allow.allowance) c.in-Ok.ensures.one.1 (rw c.in-Allow.is)

pub returns-in_default : goal.returns-in_default
returns-in_default c = task-on c.args.call _ (omega (arith, c.compartment.ensures, c.in-Ok.ensures.one.0)) (λ (k : ℕ). Regions k c.args.call) c.in-Ok.ensures.one.1 (task-other _ c.in_default.not-Map c.in_default.not-Unmap c.in_default.not-UnmapGpa c.in_default.not-Mappings c.in_default.not-Allow)
