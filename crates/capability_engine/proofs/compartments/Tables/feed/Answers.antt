use mathlib.Core.Path.{ap, sym, ◌∙◌}
use mathlib.Core.Bool.{not}
use Rattle.columns.proofs.Room.{room, no_room}
use borrow.Author.Rules.{rules}
use Rattle.capability_engine.proofs.ScriptHears.{hears-still}
use Rattle.capability_engine.proofs.ScriptGoing.{going_start, shown, going-room, going-print, going-full, going-performs, less-performs, less-full, less-print, going_end, sized}
use Rattle.capability_engine.proofs.compartments.Tables.feed.Goals as goal

pub loop-k-init : goal.loop-k-init
loop-k-init c = λ calls g. going_start calls _ _ _ _ _ _ _ _ _ g (search rules) c.args.script.now.progress c.args.at c.begin-p.ensures

pub print-requires : goal.print-requires
print-requires c = record { shown = (_, (shown _ _ _ _ _ _ (c.loop-k.invariant c.requires.calls c.requires.grown).grown _ c.if-k-lt8.true _ _)); full_value = ((c.goes_on.ensures.on c.loop-k-test.true).0, (c.loop-k.invariant c.requires.calls c.requires.grown).adds.counted) }

pub loop-k-smaller-then-k-lt8 : goal.loop-k-smaller-then-k-lt8
loop-k-smaller-then-k-lt8 c = let i = c.print.ensures _ (shown _ _ _ _ _ _ (c.loop-k.invariant c.requires.calls c.requires.grown).grown _ c.if-k-lt8.true _ _) in less-print _ _ (c.goes_on.ensures.on c.loop-k-test.true).0 c.if-k-lt8.true _ i.used (λ f. (i.whole f).1)

pub loop-k-preserved-then-k-lt8 : goal.loop-k-preserved-then-k-lt8
loop-k-preserved-then-k-lt8 c = λ calls g. going-print _ _ _ _ _ _ _ _ _ _ _ _ (c.loop-k.invariant calls g) c.if-k-lt8.true _ _ (c.print.ensures _ (shown _ _ _ _ _ _ (c.loop-k.invariant calls g).grown _ c.if-k-lt8.true _ _))

pub loop-k-smaller-then-not-has_room : goal.loop-k-smaller-then-not-has_room
loop-k-smaller-then-not-has_room c = less-full _ _ (c.goes_on.ensures.on c.loop-k-test.true).0

pub loop-k-preserved-then-not-has_room : goal.loop-k-preserved-then-not-has_room
loop-k-preserved-then-not-has_room c = λ calls g. going-full _ _ _ _ _ _ _ _ _ _ _ _ (c.loop-k.invariant calls g) c.if-k-lt8.false (no_room _ _ 25 _ c.has_room.ensures (ap not c.if-not-has_room.true))

pub slice_bounds-hear-end : goal.slice_bounds-hear-end
slice_bounds-hear-end c = sym (c.loop-k.invariant c.requires.calls c.requires.grown).size

pub hear-task-requires : goal.hear-task-requires
hear-task-requires c = ((c.loop-k.invariant c.requires.calls c.requires.grown).size, (c.loop-k.invariant c.requires.calls c.requires.grown).short, (c.goes_on.ensures.on c.loop-k-test.true).1 c.if-k-lt8.false)

pub perform-requires : goal.perform-requires
perform-requires c =
    let i = c.loop-k.invariant c.requires.calls c.requires.grown in
    record {
      grown = record { calls = i.later; grown = i.grown };
      sound = c.hear-task.ensures.sound;
      room = hears-still _ _ c.loop-k.p _ _ _ c.hear-task.ensures _ (room _ _ 25 _ c.has_room.ensures (ap not c.if-not-has_room.false)) i.adds.counted c.if-k-lt8.false i.nobody;
    }

pub loop-k-smaller : goal.loop-k-smaller
loop-k-smaller c = less-performs _ _ _ _ _ _ _ _ _ _ _ _ (c.loop-k.invariant c.requires.calls c.requires.grown) c.if-k-lt8.false (c.goes_on.ensures.on c.loop-k-test.true).0 _ _ _ c.hear-task.ensures _ _ _ _ _ _ _ (c.perform.ensures _ (c.loop-k.invariant c.requires.calls c.requires.grown).grown)

pub loop-k-preserved : goal.loop-k-preserved
loop-k-preserved c = λ calls g. going-performs _ _ _ _ _ _ _ _ _ _ _ _ (c.loop-k.invariant calls g) c.if-k-lt8.false (c.goes_on.ensures.on c.loop-k-test.true).0 _ _ _ c.hear-task.ensures _ _ _ _ _ _ _ (c.perform.ensures _ (c.loop-k.invariant calls g).grown)

pub shape_of-out : goal.shape_of-out
shape_of-out c = going-room _ _ _ _ _ _ _ _ _ _ _ _ (c.loop-k.invariant c.requires.calls c.requires.grown)

pub shape_of-words : goal.shape_of-words
shape_of-words c = (sized _ _ _ _ _ _ (c.loop-k.invariant c.requires.calls c.requires.grown).grown).0 ∙ sym (sized _ _ _ _ _ _ c.requires.grown).0

pub shape_of-next : goal.shape_of-next
shape_of-next c = (sized _ _ _ _ _ _ (c.loop-k.invariant c.requires.calls c.requires.grown).grown).1 ∙ sym (sized _ _ _ _ _ _ c.requires.grown).1

pub shape_of-links : goal.shape_of-links
shape_of-links c = (sized _ _ _ _ _ _ (c.loop-k.invariant c.requires.calls c.requires.grown).grown).2 ∙ sym (sized _ _ _ _ _ _ c.requires.grown).2

pub shape_of-gens : goal.shape_of-gens
shape_of-gens c = (sized _ _ _ _ _ _ (c.loop-k.invariant c.requires.calls c.requires.grown).grown).3 ∙ sym (sized _ _ _ _ _ _ c.requires.grown).3

pub returns : goal.returns
returns c = λ calls g. going_end c.args.script.now c.args.at (search rules) _ _ _ _ _ _ _ _ _ _ _ _ c.begin-p.ensures (c.loop-k.invariant calls g) _ c.goes_on.ensures c.loop-k-test.false
