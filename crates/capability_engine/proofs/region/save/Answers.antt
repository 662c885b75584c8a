use native.Mathlib.Numerals.{towards_suc}
use native.Mathlib.Omega.{arith}
use lib.ListN.{length-set}
use Rattle.definitions.specs.Rights.{RIGHTS}
use Rattle.capability_engine.specs.PoolWords.{put_region}
use Rattle.capability_engine.proofs.region.save.Goals as goal

pub bounds-words-b-2 : goal.bounds-words-b-2
bounds-words-b-2 c = simp length-set (omega arith)

pub bounds-words-b-3 : goal.bounds-words-b-3
bounds-words-b-3 c = simp length-set (omega arith)

pub bounds-words-b-4 : goal.bounds-words-b-4
bounds-words-b-4 c = simp length-set (omega arith)

pub bounds-words-b-5 : goal.bounds-words-b-5
bounds-words-b-5 c = simp length-set (omega arith)

pub bounds-words-b-6 : goal.bounds-words-b-6
bounds-words-b-6 c = simp length-set (omega arith)

pub bounds-words-b-7 : goal.bounds-words-b-7
bounds-words-b-7 c = simp length-set (omega arith)

pub bounds-words-b-8 : goal.bounds-words-b-8
bounds-words-b-8 c = simp length-set (omega arith)

pub bounds-words-b-9 : goal.bounds-words-b-9
bounds-words-b-9 c = simp length-set (omega arith)

pub returns : goal.returns
unfolding put_region RIGHTS
returns c = simp towards_suc
