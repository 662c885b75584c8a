use mathlib.Core.Path.{refl, ◌∙◌}
use Rattle.std.proofs.Common.{rules}
use Rattle.std.proofs.lemmas.Result.{err_from_is_err_and}
use Rattle.planner.proofs.ReadLaws.{part-start, part_end, part-broken, part-more}
use Rattle.planner.proofs.wishes.read_wish.Goals as goal

pub loop-n-init : goal.loop-n-init
loop-n-init c = record {
  can_next = search rules;
  is_finite = tt;
  size = refl;
  chunks = search rules;
  part = rw (c.into_iter-n-iterator.ensures.into_iter_gives, c.enumerate-n-items.ensures.source, c.enumerate-n-items.ensures.count, c.chunks.ensures.rest) (part-start c.args.text.now c.args.wish.now);
}

pub returns-in_err-p : goal.returns-in_err-p
returns-in_err-p c =
    let steps = c.in-Some.ensures.steps in
    let p = err_from_is_err_and c.from_residual.result c.from_residual.ensures.1 in
    rw (p.1, p.2) (part-broken c.args.text.now c.loop-n.wish _ _ c.loop-n.invariant.part c.in-Some.bytes.now _ steps.0.1.0 (rw c.loop-n.invariant.chunks at steps.0.1.1) steps.0.1.2 c.range_of.result c.range_of.ensures c.in-Some.n steps.1 _ c.in_err-p.ensures.value)

pub loop-n-preserved : goal.loop-n-preserved
loop-n-preserved c =
    let steps = c.in-Some.ensures.steps in
    record {
      can_next = search rules;
      is_finite = tt;
      size = c.keep.auto.wish ∙ c.loop-n.invariant.size;
      chunks = steps.0.0 ∙ c.loop-n.invariant.chunks;
      part = part-more c.args.text.now c.loop-n.wish _ _ c.loop-n.invariant.part c.in-Some.bytes.now _ steps.0.1.0 (rw c.loop-n.invariant.chunks at steps.0.1.1) steps.0.1.2 c.range_of.result c.range_of.ensures c.in-Some.n steps.1 c.in_ok-p.p c.in_ok-p.ensures.value c.keep.new.wish c.keep.ensures _ steps.2;
    }

pub returns : goal.returns
returns c = part_end c.args.text.now c.loop-n.wish _ _ c.loop-n.invariant.part c.in-None.ensures.steps.0.1.0 c.div_ceil.result c.div_ceil.ensures
