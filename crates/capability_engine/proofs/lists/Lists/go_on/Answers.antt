use Rattle.capability_engine.proofs.StreamMoves.{on-at, goes, on-says}
use mathlib.Core.Path.{refl}
use native.Mathlib.Omega.{arith}
use Rattle.capability_engine.proofs.lists.Lists.go_on.Goals as goal

pub load-r-requires : goal.load-r-requires
load-r-requires c = ((on-at _ _ _ _ _ c.requires.ready c.requires.c_value).0, c.args.self.table.words)

pub overflow_sub-c : goal.overflow_sub-c
overflow_sub-c c = (c.requires.ready.owner (on-at _ _ _ _ _ c.requires.ready c.requires.c_value).0).0

pub load_segment-s-requires : goal.load_segment-s-requires
load_segment-s-requires c = let o = (c.requires.ready.owner (on-at _ _ _ _ _ c.requires.ready c.requires.c_value).0).0 in (omega (arith, c.requires.ready.bound, c.args.self.table.few), omega (arith, c.requires.ready.bound, c.args.self.table.room))

pub share-m-requires : goal.share-m-requires
share-m-requires c = rw (c.load_segment-s.ensures, c.load-r.ensures) (goes _ _ _ _ _ c.requires.ready c.args.self.table c.requires.c_value)

pub offset_bounds-self-i : goal.offset_bounds-self-i
offset_bounds-self-i c = omega (arith, (on-at _ _ _ _ _ c.requires.ready c.requires.c_value).0)

pub bounds-self-i : goal.bounds-self-i
bounds-self-i c = omega (arith, (on-at _ _ _ _ _ c.requires.ready c.requires.c_value).0, c.requires.ready.on.listed.size)

pub returns : goal.returns
returns c = on-says _ _ _ _ _ c.requires.ready _ _ _ _ c.requires.c_value c.load-r.ensures c.load_segment-s.ensures c.share-m.ensures refl
