use mathlib.Core.Path.{sym, ◌∙◌}
use borrow.Author.Rules.{rules}
use Rattle.capability_engine.proofs.ScriptGoing.{sized}
use Rattle.capability_engine.proofs.ScriptRuns.{running-start, running-end, running-taken, running_more, running-less, some-left, none-left}
use Rattle.capability_engine.proofs.compartments.Tables.run.Goals as goal

pub loop-rest-init : goal.loop-rest-init
loop-rest-init c = (search rules, λ calls g. running-start calls _ _ _ _ _ _ _ g)

pub feed-requires : goal.feed-requires
feed-requires c = let q = (c.loop-rest.invariant.1 c.requires.calls c.requires.grown) in record { calls = q.later; grown = q.grown }

pub slice_bounds-rest-count : goal.slice_bounds-rest-count
slice_bounds-rest-count c = running-taken _ _ _ _ _ _ _ _ _ _ (c.loop-rest.invariant.1 c.requires.calls c.requires.grown) _ _ _ _ _ _ _ _ (c.feed.ensures _ (c.loop-rest.invariant.1 c.requires.calls c.requires.grown).grown)

pub slice_bounds-rest-start : goal.slice_bounds-rest-start
slice_bounds-rest-start c = running-taken _ _ _ _ _ _ _ _ _ _ (c.loop-rest.invariant.1 c.requires.calls c.requires.grown) _ _ _ _ _ _ _ _ (c.feed.ensures _ (c.loop-rest.invariant.1 c.requires.calls c.requires.grown).grown)

pub loop-rest-smaller : goal.loop-rest-smaller
loop-rest-smaller c =
    running-less _ _ _ _ _ _ _ _ _ _ (c.loop-rest.invariant.1 c.requires.calls c.requires.grown) _ _ _ _ _ _ _ _ (c.feed.ensures _ (c.loop-rest.invariant.1 c.requires.calls c.requires.grown).grown) (some-left _ _ c.is_empty.ensures c.loop-rest-test.true) c.loop-rest.invariant.0

pub loop-rest-preserved : goal.loop-rest-preserved
loop-rest-preserved c = (c.feed.auto.out ∙ c.loop-rest.invariant.0, λ calls g. running_more _ _ _ _ _ _ _ _ _ _ (c.loop-rest.invariant.1 calls g) _ _ _ _ _ _ _ _ (c.feed.ensures _ (c.loop-rest.invariant.1 calls g).grown))

pub shape_of-words : goal.shape_of-words
shape_of-words c = (sized _ _ _ _ _ _ (c.loop-rest.invariant.1 c.requires.calls c.requires.grown).grown).0 ∙ sym (sized _ _ _ _ _ _ c.requires.grown).0

pub shape_of-next : goal.shape_of-next
shape_of-next c = (sized _ _ _ _ _ _ (c.loop-rest.invariant.1 c.requires.calls c.requires.grown).grown).1 ∙ sym (sized _ _ _ _ _ _ c.requires.grown).1

pub shape_of-links : goal.shape_of-links
shape_of-links c = (sized _ _ _ _ _ _ (c.loop-rest.invariant.1 c.requires.calls c.requires.grown).grown).2 ∙ sym (sized _ _ _ _ _ _ c.requires.grown).2

pub shape_of-gens : goal.shape_of-gens
shape_of-gens c = (sized _ _ _ _ _ _ (c.loop-rest.invariant.1 c.requires.calls c.requires.grown).grown).3 ∙ sym (sized _ _ _ _ _ _ c.requires.grown).3

pub returns : goal.returns
returns c = λ calls g. running-end _ _ _ _ _ _ _ _ _ _ (c.loop-rest.invariant.1 calls g) (none-left _ _ c.is_empty.ensures c.loop-rest-test.false)
