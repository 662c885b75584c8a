use Rattle.capability_engine.proofs.ScriptGoing.{performs-none, performs-print, performs-tell, performs-regions, performs-segments, performs-allow}
use Rattle.capability_engine.proofs.compartments.Tables.perform.Goals as goal

pub tell-requires : goal.tell-requires
tell-requires c = (c.requires.room.0, c.requires.room.1)

pub returns-in-Tell : goal.returns-in-Tell
returns-in-Tell c = λ calls g. rw c.in-Tell.is (performs-tell _ _ _ _ _ _ _ _ c.requires.room _ _ _ c.tell.ensures g)

pub regions_of-answer-requires : goal.regions_of-answer-requires
regions_of-answer-requires c = record { grown = c.requires.grown; named = rw c.in-Regions.is at c.requires.sound }

pub tell-requires-in-Regions : goal.tell-requires-in-Regions
tell-requires-in-Regions c = (c.requires.room.0, c.requires.room.1)

pub returns-in-Regions : goal.returns-in-Regions
returns-in-Regions c = λ calls g. rw c.in-Regions.is (performs-regions _ _ _ _ _ _ _ _ c.requires.room _ _ _ c.tell-in-Regions.ensures _ _ _ _ _ _ (c.regions_of-answer.ensures calls g) _)

pub segments_of-answer-requires : goal.segments_of-answer-requires
segments_of-answer-requires c = record { grown = c.requires.grown; named = rw c.in-Segments.is at c.requires.sound }

pub tell-requires-in-Segments : goal.tell-requires-in-Segments
tell-requires-in-Segments c = (c.requires.room.0, c.requires.room.1)

pub returns-in-Segments : goal.returns-in-Segments
returns-in-Segments c = λ calls g. rw c.in-Segments.is (performs-segments _ _ _ _ _ _ _ _ c.requires.room _ _ _ c.tell-in-Segments.ensures _ _ _ _ _ _ (c.segments_of-answer.ensures calls g) _)

pub allow_of-answer-requires : goal.allow_of-answer-requires
allow_of-answer-requires c = record { grown = c.requires.grown; k_lt = rw c.in-Allow.is at c.requires.sound }

pub tell-requires-in-Allow : goal.tell-requires-in-Allow
tell-requires-in-Allow c = (c.requires.room.0, c.requires.room.1)

pub returns-in-Allow : goal.returns-in-Allow
returns-in-Allow c = λ calls g. rw c.in-Allow.is (performs-allow _ _ _ _ _ _ _ _ c.requires.room _ _ _ c.tell-in-Allow.ensures _ _ _ _ _ _ _ (c.allow_of-answer.ensures calls g))

pub returns-in-Print : goal.returns-in-Print
returns-in-Print c = λ calls g. rw c.in-Print.is (performs-print _ _ _ _ _ _ _ _ g c.requires.room.1 c.requires.room.2 c.requires.room.3 _ (rw c.in-Print.is at c.requires.sound))

pub returns-in-Nothing : goal.returns-in-Nothing
returns-in-Nothing c = λ calls g. rw c.in-Nothing.is (performs-none _ _ _ _ _ _ _ _ g c.requires.room.1 c.requires.room.2 c.requires.room.3)
